use Rattle.std.proofs.Common.{◌≡◌, ℕ, ◌*◌, ◌^◌, ◌<◌, pos, neg_ℤ, false, Some, arith, ◌∙◌, sym, rules}
use Rattle.vm_base.specs.Sample.{sample_of}
use Rattle.vm_base.proofs.SampleLaws.{sample_of-fraction}
use Rattle.vm_top.proofs.reply.seconds.Goals as goal

-- ms are a sample when they are counted in seconds
in_seconds : (ms : ℕ) → ms < 2 ^ 48
    → sample_of (pos ms) (neg_ℤ (pos 3)) ≡ Some (pos (ms * 10 ^ 997))
in_seconds ms short = sample_of-fraction false ms 3 (omega arith) (omega arith)

pub unwrap-requires : goal.unwrap-requires
unwrap-requires c = let is : c.of.result ≡ sample_of (pos c.args.time) (neg_ℤ (pos 3)) =
    search rules in let some = is ∙ in_seconds c.args.time c.requires in search rules

pub returns : goal.returns
returns c = let is : c.of.result ≡ sample_of (pos c.args.time) (neg_ℤ (pos 3)) =
    search rules in let some = sym c.unwrap.ensures ∙ is ∙ in_seconds c.args.time c.requires in cc
