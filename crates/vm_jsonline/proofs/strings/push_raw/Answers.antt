use Rattle.std.proofs.Common.{ap, ◌∙◌, ◌+◌, ◌++◌, drop, cond, None}
use Rattle.std.specs.Option.{option_map}
use Rattle.vm_jsonline.specs.Strings.{text_from, pieces}
use Rattle.vm_jsonline.proofs.Loops.{next_drop}
use Rattle.vm_jsonline.proofs.strings.push_raw.Goals as goal

pub returns-then-not-branch : goal.returns-then-not-branch
returns-then-not-branch c =
    let text = c.args.raw.now in
    let i = c.loop-byte.byte-index in
    let d = c.loop-byte.decoder in
    let next = c.next-given.result.0 in
    let front = c.loop-byte.bytes.items in
    let rest = text_from next.high (pieces next.pending (drop (i + 1) text)) in
    c.loop-byte.invariant
    ∙ ap (λ t. option_map (λ u. front ++ u) (text_from d.high (pieces d.pending t)))
    (next_drop text i c.loop-byte-test.true)
    ∙ ap (option_map (λ u. front ++ u)) (c.next-given.ensures (drop (i + 1) text))
    ∙ c.in_ok-push_given.ensures rest
    ∙ ap (λ b. cond b (option_map (λ u. c.push_given.new.bytes.items ++ u) rest) None)
    c.if-not-branch.true

pub loop-byte-preserved : goal.loop-byte-preserved
loop-byte-preserved c =
    let text = c.args.raw.now in
    let i = c.loop-byte.byte-index in
    let d = c.loop-byte.decoder in
    let next = c.next-given.result.0 in
    let front = c.loop-byte.bytes.items in
    let rest = text_from next.high (pieces next.pending (drop (i + 1) text)) in
    c.loop-byte.invariant
    ∙ ap (λ t. option_map (λ u. front ++ u) (text_from d.high (pieces d.pending t)))
    (next_drop text i c.loop-byte-test.true)
    ∙ ap (option_map (λ u. front ++ u)) (c.next-given.ensures (drop (i + 1) text))
    ∙ c.in_ok-push_given.ensures rest
    ∙ ap (λ b. cond b (option_map (λ u. c.push_given.new.bytes.items ++ u) rest) None)
    c.if-not-branch.false
