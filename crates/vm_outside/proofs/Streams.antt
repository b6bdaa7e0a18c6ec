-- How the effects of calls on sources and sinks, and rises of counts, add up.
use Rattle.std.proofs.Common.{◌≡◌, ℕ, ◌+◌, ◌-◌, List, [], ◌++◌, Option, Some, None, length, take, drop}
use Rattle.std.proofs.Common.{sym, ap, ◌∙◌, refl, arith, append_assoc, append-nil, length-drop}
use Rattle.std.proofs.Math.Seq.{take-length, take-add}
use Rattle.std.specs.Option.{option_map}
use Rattle.vm_outside.specs.Outside.{Gives, Takes, RoseBy}

-- a source that gives nothing has left what it had left
pub gives_nothing : (a : Option (List ℕ)) → Gives a [] a
gives_nothing None = refl
gives_nothing (Some rest) = refl

-- a sink that takes nothing took what it took
pub takes_nothing : (a : Option (List ℕ)) → Takes a [] a
takes_nothing None = refl
takes_nothing (Some taken) = ap Some (sym (append-nil taken))

-- a piece that comes and then another are both pieces in one
pub gives_more : (a b c : Option (List ℕ)) (x y : List ℕ) → Gives a x b → Gives b y c
    → Gives a (x ++ y) c
gives_more a b None x y p q = p ∙ ap (option_map (λ r. x ++ r)) q
gives_more a b (Some r) x y p q =
    p ∙ ap (option_map (λ r. x ++ r)) q ∙ ap Some (sym (append_assoc x y r))

-- a piece that goes and then another are both pieces in one
pub takes_more : (a b c : Option (List ℕ)) (x y : List ℕ) → Takes a x b → Takes b y c
    → Takes a (x ++ y) c
takes_more None b c x y p q = q ∙ ap (option_map (λ t. t ++ y)) p
takes_more (Some t) b c x y p q =
    q ∙ ap (option_map (λ t. t ++ y)) p ∙ ap Some (append_assoc t x y)

-- the first n bytes of the slice from `at` on
pub front_of_rest : (bytes : List ℕ) (at n : ℕ)
    → take n (take (length bytes - at) (drop at bytes)) ≡ take n (drop at bytes)
front_of_rest bytes at n =
    ap (take n)
    (ap (λ k. take k (drop at bytes)) (sym (length-drop at bytes))
    ∙ take-length (drop at bytes))

-- the first bytes up to `at` and then n of the slice from there on are the first at + n
pub takes_next : (a b c : Option (List ℕ)) (bytes : List ℕ) (at n : ℕ) → Takes a (take at bytes) b
    → Takes b (take n (take (length bytes - at) (drop at bytes))) c
    → Takes a (take (at + n) bytes) c
takes_next a b c bytes at n p q = rw take-add (takes_more a b c _ _ p (rw front_of_rest at q))

-- rises add up
pub rises_more : (a b c m n : ℕ) → RoseBy m a b → RoseBy n b c → RoseBy (m + n) a c
rises_more a b c m n p q = omega (arith, p, q)
