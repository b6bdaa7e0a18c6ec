-- The two searches find the run of a name.
use Rattle.std.proofs.Common.{◌≡◌, ◌≤◌, true, false, length, take, drop, ap, ◌∙◌, sym, subst, rules}
use Rattle.std.specs.List.Sorted.{IsPartitionedBy, IsPartitionPoint}
use Rattle.std.proofs.lemmas.List.Sorted.{IsPartitionPoint-from_clause}
use Rattle.vm_index.specs.declared.posting.Posting.{Posting}
use Rattle.vm_index.proofs.RunLaws.{before_parts, is_before, is_of, of_parts, run_is}
use Rattle.vm_index.proofs.names.run_of.Goals as goal

pub returns : goal.returns
returns c =
    let name = c.args.name.now in
    let qs = c.args.postings.now in
    let n = c.partition_point-first.result in
    let m = c.partition_point-len.result in
    let rest = c.split_at.result.1.now in
    let is : rest ≡ drop n qs = c.split_at.ensures.back in
    let before =
    IsPartitionPoint-from_clause (is_before name) qs n
    c.partition_point-first.ensures.partitioned (before_parts name qs c.requires)
    (λ a r f called. search rules) in
    let of =
    IsPartitionPoint-from_clause (is_of name) rest m c.partition_point-len.ensures.partitioned
    (subst (IsPartitionedBy (is_of name)) (sym is) (of_parts name qs n c.requires before.1))
    (λ a r f called. search rules) in
    c.split_at-2.ensures.front ∙ ap (take m) is
    ∙ run_is name qs n m c.partition_point-first.ensures.bound
    (subst (λ ps. m ≤ length ps) is c.partition_point-len.ensures.bound) before
    (subst (λ ps.
    IsPartitionPoint (λ (q : Posting). is_of name q ≡ true)
    (λ (q : Posting). is_of name q ≡ false) ps m) is of)
