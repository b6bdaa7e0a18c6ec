-- How what may follow a front of a text decides of the whole.
use Rattle.std.proofs.Common.{◌≡◌, ℕ, suc, ◌+◌, ◌-◌, ◌<◌, ◌≤◌, List, [], ◌∷◌, ◌++◌, length, take, refl, ap, sym, subst, ◌∙◌, arith, append_assoc, length-append}
use Rattle.std.proofs.Math.Seq.{take-append-add}
use Rattle.std.proofs.Common.{Result, Ok, Err}
use Rattle.vm_base.specs.FirstWrong.{Begins, FirstWrong}
use Rattle.vm_promtext.specs.Reading.{◌>>=◌}

-- two texts are both empty or begin with the same byte
abbrev pub SameStart : List ℕ → List ℕ → Type 0
SameStart [] [] = Unit {0}
SameStart (a ∷ as') (b ∷ bs) = a ≡ b
SameStart [] (b ∷ bs) = ⊥
SameStart (a ∷ as') [] = ⊥

-- a text leaves L where so many of its bytes are left
pub record Stops (L : List ℕ → Type 0) (text : List ℕ) (left : ℕ) : Type 0 where
  pub within : left ≤ length text
  pub first : FirstWrong L text (length text - left)

-- After the front of the text, what stands there decides by L whether the whole is in G.
pub record Leads (G L : List ℕ → Type 0) (text rest : List ℕ) : Type 0 where
  pub front : List ℕ
  pub parts : text ≡ front ++ rest
  pub into : (more : List ℕ) → L more → G (front ++ more)
  pub out : (more : List ℕ) → SameStart rest more → G (front ++ more) → L more

same_refl : (text : List ℕ) → SameStart text text
same_refl [] = tt
same_refl (a ∷ text) = refl

same_append : (front a b : List ℕ) → SameStart a b → SameStart (front ++ a) (front ++ b)
same_append [] a b same = same
same_append (c ∷ front) a b same = refl

same_take : (text more : List ℕ) (n : ℕ) → 0 < length text
    → SameStart text (take (suc n) text ++ more)
same_take [] more n some = absurd (omega arith)
same_take (a ∷ text) more n some = refl

module _ {G L : List ℕ → Type 0} {text rest : List ℕ} (leads : Leads G L text rest) where
  -- of the text itself
  pub leads_in : L rest → G text
  leads_in is = subst G (sym leads.parts) (leads.into rest is)

  pub leads_out : G text → L rest
  leads_out is = leads.out rest (same_refl rest) (subst G leads.parts is)

  -- where the rest leaves L, the text leaves G
  pub leads_stops : (left : ℕ) → Stops L rest left → Stops G text left
  leads_stops left stops =
      let front = leads.front in
      let at = length rest - left in
      let first = stops.first in
      let within = stops.within in
      let whole : length text ≡ length front + length rest = ap length leads.parts
      ∙ length-append front rest in
      let place : length text - left ≡ length front + at = omega arith in
      let so_far : (n : ℕ) → take (length front + n) text ≡ front ++ take n rest =
      λ n. ap (take (length front + n)) leads.parts ∙ take-append-add front rest n in
      record {
        within = omega arith;
        first = subst (FirstWrong G text) (sym place) (record {
          within = omega (arith, first.within);
          begins =
              rw so_far (
                first.begins.0,
                rw append_assoc (leads.into (take at rest ++ first.begins.0) first.begins.1),
              );
          wrong = λ inside goes.
              let next : suc (length front + at) ≡ length front + suc at = omega arith in
              let one_more : take (suc (length front + at)) text ≡ front ++ take (suc at) rest =
              ap (λ n. take n text) next ∙ so_far (suc at) in
              let more : Begins G (front ++ take (suc at) rest) = subst (Begins G) one_more goes in
              let joined : G (front ++ (take (suc at) rest ++ more.0)) =
              subst G (append_assoc front (take (suc at) rest) more.0) more.1 in
              first.wrong (omega arith) (
                more.0,
                leads.out (take (suc at) rest ++ more.0) (same_take rest more.0 at (omega arith))
                    joined,
              );
          short = λ end is. first.short (omega arith) (leads_out is);
        });
      }

-- nothing of the text is read
pub leads_all : {G L : List ℕ → Type 0} {text : List ℕ} → ((more : List ℕ) → L more → G more)
    → ((more : List ℕ) → SameStart text more → G more → L more) → Leads G L text text
leads_all into out = record { front = []; parts = refl; into = into; out = out }

pub leads_on : {G M L : List ℕ → Type 0} {text mid rest : List ℕ} → Leads G M text mid
    → Leads M L mid rest → Leads G L text rest
leads_on {G = G} {text = text} {mid = mid} {rest = rest} one two = record {
  front = one.front ++ two.front;
  parts = one.parts ∙ ap (λ t. one.front ++ t) two.parts
      ∙ sym (append_assoc one.front two.front rest);
  into = λ more is. rw append_assoc (one.into (two.front ++ more) (two.into more is));
  out = λ more same is.
      let whole : G (one.front ++ (two.front ++ more)) =
      subst G (append_assoc one.front two.front more) is in
      let follows : SameStart mid (two.front ++ more) =
      subst (λ t. SameStart t (two.front ++ more)) (sym two.parts)
      (same_append two.front rest more same) in
      two.out more same (one.out (two.front ++ more) follows whole);
}

-- where a text leaves L at its first byte, or is empty and not in L
pub stops_here : (L : List ℕ → Type 0) (text more : List ℕ) → L more
    → ((byte : ℕ) (rest other : List ℕ) → text ≡ byte ∷ rest → L (byte ∷ other) → ⊥)
    → (text ≡ [] → L [] → ⊥) → Stops L text (length text)
stops_here L [] more is wrong short = record {
  within = omega arith;
  first = record {
    within = omega arith;
    begins = (more, is);
    wrong = λ inside. absurd (omega arith);
    short = λ end in_it. short refl in_it;
  };
}
stops_here L (byte ∷ rest) more is wrong short =
    let place : 0 ≡ length (byte ∷ rest) - length (byte ∷ rest) = omega arith in record {
      within = omega arith;
      first = subst (FirstWrong L (byte ∷ rest)) place (record {
        within = omega arith;
        begins = (more, is);
        wrong = λ inside goes. wrong byte rest goes.0 refl goes.1;
        short = λ end. absurd (omega arith);
      });
    }

-- What a step that reads a text says: where it leads, or where the text leaves the grammar. The
-- second is said only where each front can go on, as `Able` says.
abbrev pub Follows : {X : Type 0} → Type 0 → (List ℕ → Type 0) → (X → List ℕ → Type 0)
    → (X → List ℕ) → List ℕ → Result X ℕ → Type 0
Follows Able G L rest text (Ok x) = Leads G (L x) text (rest x)
Follows Able G L rest text (Err left) = Able → Stops G text left

module _ (Able : Type 0) where
  pub follows_behind :
      {X : Type 0} (G M : List ℕ → Type 0) (L : X → List ℕ → Type 0) (rest : X → List ℕ)
      (text mid : List ℕ) (read : Result X ℕ)
      → Leads G M text mid → Follows Able M L rest mid read → Follows Able G L rest text read
  follows_behind G M L rest text mid (Ok x) leads follows = leads_on leads follows
  follows_behind G M L rest text mid (Err left) leads follows =
      λ can. leads_stops leads left (follows can)

  pub follows_then :
      {X Y : Type 0} (G : List ℕ → Type 0) (M : X → List ℕ → Type 0) (mid : X → List ℕ)
      (L : Y → List ℕ → Type 0) (rest : Y → List ℕ) (text : List ℕ)
      (read : Result X ℕ) (next : X → Result Y ℕ) → Follows Able G M mid text read
      → ((x : X) → read ≡ Ok x → Follows Able (M x) L rest (mid x) (next x))
      → Follows Able G L rest text (read >>= next)
  follows_then G M mid L rest text (Ok x) next follows more =
      follows_behind G (M x) L rest text (mid x) (next x) follows (more x refl)
  follows_then G M mid L rest text (Err left) next follows more = follows

  pub follows_ok :
      {X : Type 0} (G : List ℕ → Type 0) (L : X → List ℕ → Type 0) (rest : X → List ℕ)
      (text : List ℕ) (read : Result X ℕ) (x : X)
      → Follows Able G L rest text read → read ≡ Ok x → Leads G (L x) text (rest x)
  follows_ok G L rest text (Ok y) x follows is = let same : y ≡ x =
      cc in subst (λ z. Leads G (L z) text (rest z)) same follows
  follows_ok G L rest text (Err left) x follows is = cc

  pub follows_err :
      {X : Type 0} (G : List ℕ → Type 0) (L : X → List ℕ → Type 0) (rest : X → List ℕ)
      (text : List ℕ) (read : Result X ℕ) (left : ℕ)
      → Follows Able G L rest text read → read ≡ Err left → Able → Stops G text left
  follows_err G L rest text (Ok y) left follows is can = cc
  follows_err G L rest text (Err n) left follows is can = let same : n ≡ left =
      cc in subst (Stops G text) same (follows can)

-- a part that was read, and the rest
abbrev pub Of : (List ℕ → List ℕ → Type 0) → List ℕ × List ℕ → List ℕ → Type 0
Of L read = L read.0

abbrev pub behind : List ℕ × List ℕ → List ℕ
behind read = read.1

pub leads_len : (G L : List ℕ → Type 0) (text rest : List ℕ) → Leads G L text rest
    → length rest ≤ length text
leads_len G L text rest leads = omega (arith, ap length leads.parts, length-append leads.front rest)
