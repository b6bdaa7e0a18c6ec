-- Pairs of labels, and what stands after one.
use Rattle.std.proofs.Common.{◌≡◌, ℕ, ◌<◌, ◌≤◌, Bool, true, false, cond, List, [], ◌∷◌, length, drop, Result, Ok, Err, refl, ap, sym, ◌∙◌, arith, true≢false, length-append}
use Rattle.std.specs.Prelude.{◌==◌, slice_index}
use Rattle.std.proofs.lemmas.Bool.Decides.{nat_tests}
use Rattle.vm_labels.specs.Name.{is_name_byte, begins_name}
use Rattle.vm_labels.specs.declared.pair.Pair.{Pair}
use Rattle.vm_promtext.specs.Grammar.{is_blank, Spaced, Marked, Quoted, Labeled}
use Rattle.vm_promtext.specs.Quoted.{unescaped}
use Rattle.vm_promtext.specs.Reading.{behind_blanks, mark_reading, name_reading, quoted_reading, PairRead, pair_reading, Turn, behind_pair}
use Rattle.vm_promtext.proofs.Leads.{Follows, Of, behind, follows_behind, follows_then}
use Rattle.vm_promtext.proofs.PartLaws.{NeverBegins, spaced_leads, spaced_now, spaced_never, mark_follows, marked_never, name_follows, first_mark, passed}
use Rattle.vm_promtext.proofs.ValueLaws.{Body, quoted_leads, body_follows}

abbrev pub pair_of : List ℕ → List ℕ → Pair
pair_of name value = record { name = name; value = value }

-- what follows the parts of a pair
abbrev pub AfterValue : (Pair → List ℕ → Type 0) → List ℕ → List ℕ → List ℕ → Type 0
AfterValue L name value = Spaced (L (pair_of name value))

abbrev pub AfterEquals : (Pair → List ℕ → Type 0) → List ℕ → List ℕ → Type 0
AfterEquals L name = Spaced (Quoted (AfterValue L name))

abbrev pub AfterName : (Pair → List ℕ → Type 0) → List ℕ → List ℕ → Type 0
AfterName L name = Spaced (Marked 61 (AfterEquals L name))

abbrev pub OfPair : (Pair → List ℕ → Type 0) → PairRead → List ℕ → Type 0
OfPair L read = L (pair_of read.name (unescaped read.raw))

abbrev pub pair_rest : PairRead → List ℕ
pair_rest read = read.rest

pub apart : (byte : ℕ) → is_name_byte byte ≡ true → is_blank byte ≡ true → ⊥
apart byte name blank = grind (arith, nat_tests)

module _ (Able : Type 0) (L : Pair → List ℕ → Type 0)
    (never : (pair : Pair) → NeverBegins is_blank (L pair))
    (goes : Able → (pair : Pair) → (more : List ℕ) × L pair more) where
  value_goes : Able → (name value : List ℕ) → (more : List ℕ) × AfterValue L name value more
  value_goes can name value = let g =
      goes can (pair_of name value) in (g.0, spaced_now (L (pair_of name value)) g.0 g.1)

  body_goes : Able → (name : List ℕ) → (more : List ℕ) × Body (AfterValue L name) more
  body_goes can name =
      let g = value_goes can name [] in (
        34 ∷ g.0,
        record {
          raw = [];
          rest = g.0;
          parts = refl;
          utf8 = ([], (refl, refl));
          bare = refl;
          then = g.1;
        },
      )

  quote_never : (name : List ℕ) → NeverBegins is_blank (Quoted (AfterValue L name))
  quote_never name byte more blank q =
      true≢false (sym blank ∙ ap is_blank (let first : byte ≡ 34 = cc (q.parts) in first))

  equals_goes : Able → (name : List ℕ) → (more : List ℕ) × AfterEquals L name more
  equals_goes can name =
      let g = value_goes can name [] in (
        34 ∷ 34 ∷ g.0,
        spaced_now (Quoted (AfterValue L name)) (34 ∷ 34 ∷ g.0)
            (record {
              raw = [];
              rest = g.0;
              parts = refl;
              utf8 = ([], (refl, refl));
              bare = refl;
              then = g.1;
            }),
      )

  name_goes : Able → (name : List ℕ) → (more : List ℕ) × AfterName L name more
  name_goes can name =
      let g = equals_goes can name in (
        61 ∷ g.0,
        spaced_now (Marked 61 (AfterEquals L name)) (61 ∷ g.0)
            (record { rest = g.0; parts = refl; then = g.1 }),
      )

  pub labeled_goes : Able → (more : List ℕ) × Labeled L more
  labeled_goes can = let g =
      name_goes can
      (97 ∷ []) in (
        97 ∷ g.0,
        record { name = 97 ∷ []; rest = g.0; parts = refl; is = refl; then = g.1 },
      )

  name_never : (name : List ℕ) → NeverBegins is_name_byte (AfterName L name)
  name_never name =
      spaced_never is_name_byte (Marked 61 (AfterEquals L name)) apart
      (marked_never is_name_byte 61 (AfterEquals L name) refl)

  pub pair_follows : (text : List ℕ)
      → Follows Able (Labeled L) (OfPair L) pair_rest text (pair_reading text)
  unfolding pair_reading
  pair_follows text =
      follows_then Able (Labeled L) (Of (AfterName L)) behind (OfPair L) pair_rest text
      (name_reading text) _
      (name_follows Able (AfterName L) name_never name_goes text)
      (λ name _.
      follows_behind Able (AfterName L name.0) (Marked 61 (AfterEquals L name.0)) (OfPair L)
      pair_rest name.1 (behind_blanks name.1) _
      (spaced_leads (Marked 61 (AfterEquals L name.0))
      (marked_never is_blank 61 (AfterEquals L name.0) refl) name.1)
      (follows_then Able (Marked 61 (AfterEquals L name.0)) (λ _. AfterEquals L name.0)
      (λ rest. rest) (OfPair L) pair_rest (behind_blanks name.1)
      (mark_reading 61 (behind_blanks name.1)) _
      (mark_follows Able 61 (AfterEquals L name.0) (behind_blanks name.1) (omega arith)
      (λ can. equals_goes can name.0))
      (λ equals _.
      follows_behind Able (AfterEquals L name.0) (Quoted (AfterValue L name.0)) (OfPair L) pair_rest
      equals (behind_blanks equals) _
      (spaced_leads (Quoted (AfterValue L name.0)) (quote_never name.0) equals)
      (follows_behind Able (Quoted (AfterValue L name.0)) (Marked 34 (Body (AfterValue L name.0)))
      (OfPair L) pair_rest (behind_blanks equals) (behind_blanks equals) _
      (quoted_leads (AfterValue L name.0) (behind_blanks equals))
      (follows_then Able (Marked 34 (Body (AfterValue L name.0))) (λ _. Body (AfterValue L name.0))
      (λ rest. rest) (OfPair L) pair_rest (behind_blanks equals)
      (mark_reading 34 (behind_blanks equals)) _
      (mark_follows Able 34 (Body (AfterValue L name.0)) (behind_blanks equals) (omega arith)
      (λ can. body_goes can name.0))
      (λ quote _.
      follows_then Able (Body (AfterValue L name.0))
      (Of (λ raw. AfterValue L name.0 (unescaped raw))) behind (OfPair L) pair_rest quote
      (quoted_reading quote) _
      (body_follows (AfterValue L name.0) Able (λ can. value_goes can name.0) quote)
      (λ value _.
      spaced_leads (L (pair_of name.0 (unescaped value.0)))
      (never (pair_of name.0 (unescaped value.0))) value.1)))))))

-- ---- braces

pub less_apart : (a b : ℕ) → a < b → a ≡ b → ⊥
less_apart a b less is = omega arith

pub more_apart : (a b : ℕ) → b < a → a ≡ b → ⊥
more_apart a b more is = omega arith

pub name_not_blank : (byte : ℕ) → begins_name byte ≡ true → is_blank byte ≡ true → ⊥
name_not_blank byte name blank = grind (arith, nat_tests)

pub name_not_brace : (byte : ℕ) → begins_name byte ≡ true → (byte == 125) ≡ true → ⊥
name_not_brace byte name brace = grind (arith, nat_tests)

-- the pair that was read and what follows it may be handed to another language
pub labeled_put : (M N : Pair → List ℕ → Type 0) (text : List ℕ) (l : Labeled M text)
    → N (pair_of l.name (unescaped l.then.then.then.then.raw)) l.then.then.then.then.then.rest
    → Labeled N text
labeled_put M N text l is = record {
  name = l.name;
  rest = l.rest;
  parts = l.parts;
  is = l.is;
  then = record {
    blanks = l.then.blanks;
    rest = l.then.rest;
    parts = l.then.parts;
    are = l.then.are;
    then = record {
      rest = l.then.then.rest;
      parts = l.then.then.parts;
      then = record {
        blanks = l.then.then.then.blanks;
        rest = l.then.then.then.rest;
        parts = l.then.then.then.parts;
        are = l.then.then.then.are;
        then = record {
          raw = l.then.then.then.then.raw;
          rest = l.then.then.then.then.rest;
          parts = l.then.then.then.then.parts;
          utf8 = l.then.then.then.then.utf8;
          bare = l.then.then.then.then.bare;
          then = record {
            blanks = l.then.then.then.then.then.blanks;
            rest = l.then.then.then.then.then.rest;
            parts = l.then.then.then.then.then.parts;
            are = l.then.then.then.then.then.are;
            then = is;
          };
        };
      };
    };
  };
}

-- one text of the language for each of which there is one of another
pub spaced_put : (M N : List ℕ → Type 0) (text : List ℕ) (s : Spaced M text) → N s.rest
    → Spaced N text
spaced_put M N text s is =
    record { blanks = s.blanks; rest = s.rest; parts = s.parts; are = s.are; then = is }

pub drop_shorter : (text : List ℕ) (mark : ℕ) → text ≡ mark ∷ drop 1 text
    → length (drop 1 text) < length text
drop_shorter [] mark is = cc (is)
drop_shorter (byte ∷ text) mark is = omega arith

pub passed_len : (text : List ℕ) → length (behind_blanks text) ≤ length text
passed_len text = let p =
    passed text in omega (arith, ap length p.parts, length-append p.blanks (behind_blanks text))

abbrev turn_ok : Turn → Result Turn ℕ
turn_ok turn = Ok turn

rest_is : (turn : Turn) (pairs : List Pair) (closed : Bool) (rest : List ℕ)
    → turn_ok (record { pairs = pairs; closed = closed; rest = rest }) ≡ Ok turn → rest ≡ turn.rest
rest_is turn pairs closed rest is = cc (is)

pub closed_shorter : (text rest : List ℕ) (turn : Turn) (pairs : List Pair)
    → length rest ≤ length text → rest ≡ 125 ∷ drop 1 rest
    → turn_ok (record { pairs = pairs; closed = true; rest = drop 1 rest }) ≡ Ok turn
    → length turn.rest < length text
closed_shorter text rest turn pairs few starts is =
    omega (
      arith,
      drop_shorter rest 125 starts,
      ap length (rest_is turn pairs true (drop 1 rest) is),
    )

pub behind_shorter : (text rest : List ℕ) (turn : Turn) (pairs : List Pair)
    → length rest ≤ length text → behind_pair pairs rest ≡ Ok turn → length turn.rest < length text
behind_shorter text rest turn pairs few is =
    go (slice_index rest 0 == 44) (slice_index rest 0 == 125) refl refl is
  where
    go : (a b : Bool) → (slice_index rest 0 == 44) ≡ a → (slice_index rest 0 == 125) ≡ b
        → cond a (Ok (record { pairs = pairs; closed = false; rest = drop 1 rest }))
        (cond b (Ok (record { pairs = pairs; closed = true; rest = drop 1 rest }))
        (Err (length rest))) ≡ Ok turn
        → length turn.rest < length text
    go true b comma brace is =
        omega (
          arith,
          drop_shorter rest 44 (first_mark 44 rest (omega arith) comma),
          ap length (rest_is turn pairs false (drop 1 rest) is),
        )
    go false true comma brace is =
        omega (
          arith,
          drop_shorter rest 125 (first_mark 125 rest (omega arith) brace),
          ap length (rest_is turn pairs true (drop 1 rest) is),
        )
    go false false comma brace is = cc (is)
