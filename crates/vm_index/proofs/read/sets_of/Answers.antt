use Rattle.std.proofs.Common.{◌≡◌, ◌+◌, ◌-◌, length, length-append, take, drop, Some, None, sym, ap, ◌∙◌, subst, arith}
use Rattle.std.proofs.lemmas.List.{length-drop}
use Rattle.std.proofs.lemmas.Result.{err_from_is_err_and}
use Rattle.vm_index.specs.Bytes.{table_bytes}
use Rattle.vm_index.specs.Reading.{frame_len, left_over}
use Rattle.vm_index.proofs.ListLaws.{rest_whole}
use Rattle.vm_index.proofs.ReadLaws.{IsBytes, Frame, bytes-drop, frame_some, frame_none, set_breaks, set_joins, table_breaks}
use Rattle.vm_index.proofs.read.sets_of.Goals as goal

pub returns-in-None-clause-broken : goal.returns-in-None-clause-broken
returns-in-None-clause-broken c =
    let table = c.args.table.now in
    let at = c.loop.at in
    let fits : IsBytes table = λ i. omega (arith, c.type_inv.table i) in
    let none : frame_len (drop at table) ≡ None =
    sym (c.in-None.ensures ∙ ap frame_len (rest_whole table at)) in
    table_breaks c.args.count table c.loop.sets at c.loop.counter 0 at c.loop.invariant.0
    c.loop.invariant.2 (omega arith)
    (frame_none c.loop.sets (c.args.count - c.loop.counter) (drop at table)
    (bytes-drop at table fits) (omega (arith, c.loop-test.true)) none) (omega arith)

pub returns-then-at-table-clause-broken : goal.returns-then-at-table-clause-broken
returns-then-at-table-clause-broken c =
    let table = c.args.table.now in
    let at = c.loop.at in
    table_breaks c.args.count table c.loop.sets at c.loop.counter 0 at c.loop.invariant.0
    c.loop.invariant.2 (omega arith)
    (left_over (omega (arith, c.loop-test.false))
    (omega (arith, length-drop at table, c.if-at-table.true))) (omega arith)

pub returns-in_err-read_set-in-Some-clause-broken :
    goal.returns-in_err-read_set-in-Some-clause-broken
returns-in_err-read_set-in-Some-clause-broken c =
    let table = c.args.table.now in
    let at = c.loop.at in
    let n = c.in-Some.len in
    let fits : IsBytes table = λ i. omega (arith, c.type_inv.table i) in
    let some : frame_len (drop at table) ≡ Some n =
    sym (c.in-Some.ensures ∙ ap frame_len (rest_whole table at)) in
    let frame = frame_some (drop at table) n (bytes-drop at table fits) some in
    let bytes = take (4 + n - 4) (drop 4 (take (length table - at) (drop at table))) in
    let same : take n (drop 4 (drop at table)) ≡ bytes =
    ap (λ m. take m (drop 4 (drop at table))) (omega arith)
    ∙ ap (λ ys. take (4 + n - 4) (drop 4 ys)) (sym (rest_whole table at)) in
    let p = err_from_is_err_and c.from_residual.result c.from_residual.ensures.1 in
    rw (p.1, p.2)
    (set_breaks c.args.count table c.loop.sets at c.loop.counter bytes
    (drop n (drop 4 (drop at table))) n c.in_err-read_set-in-Some.field-0.0
    c.loop.invariant.0 c.loop.invariant.2 (omega (arith, c.loop-test.true))
    (subst (λ bs. Frame (drop at table) bs (drop n (drop 4 (drop at table))) n) same frame)
    c.in_err-read_set-in-Some.ensures.err)

pub loop-preserved : goal.loop-preserved
loop-preserved c =
    let table = c.args.table.now in
    let at = c.loop.at in
    let n = c.in-Some.len in
    let fits : IsBytes table = λ i. omega (arith, c.type_inv.table i) in
    let some : frame_len (drop at table) ≡ Some n =
    sym (c.in-Some.ensures ∙ ap frame_len (rest_whole table at)) in
    let frame = frame_some (drop at table) n (bytes-drop at table fits) some in
    let bytes = take (4 + n - 4) (drop 4 (take (length table - at) (drop at table))) in
    let same : take n (drop 4 (drop at table)) ≡ bytes =
    ap (λ m. take m (drop 4 (drop at table))) (omega arith)
    ∙ ap (λ ys. take (4 + n - 4) (drop 4 ys)) (sym (rest_whole table at)) in
    let next = set_joins table c.loop.sets c.read_set.new.sets at bytes n c.loop.invariant.0
    (subst (λ bs. Frame (drop at table) bs (drop n (drop 4 (drop at table))) n) same frame)
    c.in_ok-read_set-in-Some.ensures.ok in
    let whole = ap length next.0.parts
    ∙ length-append (table_bytes c.read_set.new.sets) (drop (at + (4 + n)) table) in
    (next.0, omega (arith, next.0.place, whole), next.1 ∙ ap (λ k. k + 1) c.loop.invariant.2)
