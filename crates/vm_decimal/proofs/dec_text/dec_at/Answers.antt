use Rattle.std.proofs.Common.{inl, inr, sym, arith}
use Rattle.std.proofs.lemmas.Int.{ints}
use Rattle.vm_decimal.proofs.Decs.{dec_of-none}
use Rattle.vm_decimal.proofs.Exacts.{dec_of-far}
use Rattle.vm_decimal.proofs.dec_text.dec_at.Goals as goal

pub returns-then-size-eq0 : goal.returns-then-size-eq0
returns-then-size-eq0 c = dec_of-none c.args.negative c.args.size c.args.exponent (omega arith)

pub returns-then-exponent-ltminus10000 : goal.returns-then-exponent-ltminus10000
returns-then-exponent-ltminus10000 c =
    sym (dec_of-far c.args.negative c.args.size c.args.exponent (omega arith) c.requires
    (inl (omega (arith, ints))))

pub returns-then-exponent-gt10000 : goal.returns-then-exponent-gt10000
returns-then-exponent-gt10000 c =
    sym (dec_of-far c.args.negative c.args.size c.args.exponent (omega arith) c.requires
    (inr (omega (arith, ints))))
