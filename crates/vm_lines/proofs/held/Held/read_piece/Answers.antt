use Rattle.std.proofs.Common.{◌+◌, ◌++◌, take, drop, arith, ◌∙◌, ap, length-drop}
use Rattle.std.proofs.lemmas.List.{length-take-le, with_items_is}
use Rattle.vm_lines.specs.inner.Held.{Bytes}
use Rattle.vm_lines.proofs.HeldLaws.{refilled}
use Rattle.vm_lines.proofs.held.Held.read_piece.Goals as goal

-- the piece stands behind the bytes that were held
pub returns-clause-moved : goal.returns-clause-moved
returns-clause-moved g c =
    let buffer = c.read_behind.new.buffer in
    let from = c.self.inside.from in
    let to = c.self.inside.to in
    let n = c.in_ok-n.n in
    let same = c.read_behind.auto.buffer in
    let items =
    with_items_is c.self.inside.buffer buffer (omega (arith, same, c.deref_mut.ensures.len)) in
    record {
      piece = take n (drop to buffer);
      many = length-take-le n (drop to buffer)
          (omega (arith, c.in_ok-n.ensures.inside, length-drop to buffer));
      behind = ap (λ bytes. drop from (take (to + n) bytes)) items
          ∙ refilled c.deref_mut.result.now buffer from to n (omega (arith, c.self.invariant))
          (omega (arith, c.self.invariant, c.deref_mut.ensures.len)) c.read_behind.ensures.front
          ∙ ap (λ front. drop from (take to front) ++ take n (drop to buffer))
          c.deref_mut.ensures.value
          ∙ ap (λ (held : Bytes). held.ahead ++ take n (drop to buffer)) c.self.view_is;
      gives = c.in_ok-n.ensures.moved;
    }
