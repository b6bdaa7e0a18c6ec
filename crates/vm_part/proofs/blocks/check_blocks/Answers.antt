-- One series more, or the first that breaks.
use Rattle.std.proofs.Common.{get_or, arith}
use Rattle.std.proofs.lemmas.List.{get_or_default}
use Rattle.std.proofs.lemmas.Result.{err_from_is_err_and}
use Rattle.vm_part.specs.declared.entry.Entry.{Entry}
use Rattle.vm_part.proofs.BlockLaws.{all_stand, breaks_here, later_breaks, rise_here, stands_here}
use Rattle.vm_part.proofs.blocks.check_blocks.Goals as goal

abbrev nought : Entry
nought = record { start = 0; blocks = 0; rows = 0; first_time = 0; last_time = 0 }

pub series-init : goal.series-init
series-init c =
    record {
      rise = c.requires.places;
      breaks = λ at breaks. breaks;
      stands = λ others stand. record { blocks = others; stand = stand };
    }

pub check_series-requires-clause-start : goal.check_series-requires-clause-start
check_series-requires-clause-start c =
    let es = c.args.entries.now in
    let place = c.series.place in
    let within = c.series-test.true in
    let e = get_or es place nought in
    let rise =
    rise_here c.args.bytes.now c.args.entries_at es place e within
    (get_or_default es place e nought within) c.series.invariant.rise in
    omega (arith, rise.0, c.end_of-end.ensures)

pub check_series-requires-clause-end : goal.check_series-requires-clause-end
check_series-requires-clause-end c =
    let es = c.args.entries.now in
    let place = c.series.place in
    let within = c.series-test.true in
    let e = get_or es place nought in
    let rise =
    rise_here c.args.bytes.now c.args.entries_at es place e within
    (get_or_default es place e nought within) c.series.invariant.rise in
    omega (arith, rise.1, c.end_of-end.ensures)

pub returns-in_err-check_series-clause-broken : goal.returns-in_err-check_series-clause-broken
returns-in_err-check_series-clause-broken c =
    let es = c.args.entries.now in
    let place = c.series.place in
    let within = c.series-test.true in
    let e = get_or es place nought in
    let p = err_from_is_err_and c.from_residual.result c.from_residual.ensures.1 in
    rw (p.1, p.2)
    (breaks_here c.args.bytes.now c.args.entries_at es place e within
    (get_or_default es place e nought within) c.end_of-end.result
    c.in_err-check_series.field-0.0 c.end_of-end.ensures c.in_err-check_series.ensures.broken
    c.series.invariant.breaks)

pub series-preserved : goal.series-preserved
series-preserved c =
    let es = c.args.entries.now in
    let place = c.series.place in
    let within = c.series-test.true in
    let e = get_or es place nought in
    let is = get_or_default es place e nought within in
    let bytes = c.args.bytes.now in
    let entries = c.args.entries_at in
    let has = c.in_ok-check_series.ensures.stand in
    record {
      rise = (rise_here bytes entries es place e within is c.series.invariant.rise).2;
      breaks =
          later_breaks bytes entries es place e within is c.end_of-end.result c.end_of-end.ensures
          has c.series.invariant.breaks;
      stands =
          stands_here bytes entries es place e within is c.end_of-end.result c.end_of-end.ensures
          has c.series.invariant.stands;
    }

pub returns-clause-stand : goal.returns-clause-stand
returns-clause-stand c =
    all_stand c.args.bytes.now c.args.entries_at c.args.entries.now c.series.place
    c.series-test.false c.series.invariant.stands
