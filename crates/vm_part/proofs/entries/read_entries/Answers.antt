-- One entry more, or the first that breaks a rule.
use Rattle.std.proofs.Common.{◌+◌, ◌-◌, ◌*◌, ap, arith}
use Rattle.std.proofs.lemmas.Result.{err_from_is_err_and}
use Rattle.vm_part.proofs.EntryLaws.{entries_done, entries_kept, entry_broken, entry_joins, entry_kept, last_test, none_joined, none_kept}
use Rattle.vm_part.proofs.entries.read_entries.Goals as goal

pub returns-in_err-check_entry-clause-broken : goal.returns-in_err-check_entry-clause-broken
returns-in_err-check_entry-clause-broken c =
    let f = c.args.footer.now in
    let n = c.each.n in
    let p = err_from_is_err_and c.from_residual.result c.from_residual.ensures.1 in
    rw (p.1, p.2)
    (entry_broken f.entries_at c.args.bytes.now f.rows (f.series - n) (f.series - (n + 1))
    (f.entries_at + 40 * n)
    c.in_err-check_entry.field-0.0.at c.each.rows _ c.each.before _ c.adds_up.result
    c.entry_at-entry.result _ (omega (arith, c.each-test.true))
    (last_test n f.series c.each-test.true) c.entry_at-entry.ensures
    (ap (λ m. c.each.rows + m) c.from-rows.ensures) c.adds_up.ensures
    c.in_err-check_entry.ensures.broken c.each.invariant.rules)

pub each-init : goal.each-init
each-init c =
    let f = c.args.footer.now in
    record {
      rules = none_kept f.entries_at c.args.bytes.now f.rows f.series f.entries_at;
      list = none_joined c.args.bytes.now f.series f.entries_at c.new-entries.result
          c.new-entries.ensures;
      few = omega arith;
    }

pub each-preserved : goal.each-preserved
each-preserved c =
    let f = c.args.footer.now in
    let n = c.each.n in
    record {
      rules = entry_kept f.entries_at c.args.bytes.now f.rows (f.series - n) (f.series - (n + 1))
          (f.entries_at + 40 * n) (f.entries_at + 40 * (n + 1))
          c.each.rows _ c.each.before _ c.adds_up.result c.entry_at-entry.result
          _ (omega (arith, c.each-test.true)) (omega arith)
          (last_test n f.series c.each-test.true) c.entry_at-entry.ensures
          (ap (λ m. c.each.rows + m) c.from-rows.ensures) c.adds_up.ensures
          c.in_ok-check_entry.ensures.kept c.each.invariant.rules;
      list = entry_joins c.args.bytes.now (f.series - n) (f.series - (n + 1))
          (f.entries_at + 40 * n) (f.entries_at + 40 * (n + 1))
          c.each.entries c.push.new.self _ c.entry_at-entry.result (omega (arith, c.each-test.true))
          (omega arith) c.entry_at-entry.ensures
          c.in_ok-push.ensures.ok c.each.invariant.list;
      few = omega (arith, c.each.invariant.few);
    }

pub returns-clause-entries : goal.returns-clause-entries
returns-clause-entries c =
    let f = c.args.footer.now in
    entries_done c.args.bytes.now (f.series - c.each.n) (f.entries_at + 40 * c.each.n)
    c.each.entries _ (omega (arith, c.each-test.false)) c.each.invariant.list

pub returns-clause-kept : goal.returns-clause-kept
returns-clause-kept c =
    let f = c.args.footer.now in
    entries_kept f.entries_at c.args.bytes.now f.rows (f.series - c.each.n)
    (f.entries_at + 40 * c.each.n) c.each.rows c.each.before
    _ (omega (arith, c.each-test.false))
    c.each.invariant.rules
