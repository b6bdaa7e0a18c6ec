-- Pieces of which each is cut off by what stands after it.
use Rattle.std.proofs.Common.{◌≡◌, ℕ, ◌+◌, ◌<◌, Bool, true, false, ◌||◌, List, [], ◌∷◌, ◌++◌, length, take, drop, map, Ok, refl, sym, ap, ◌∙◌, append_assoc, append-nil, length-append, arith}
use Rattle.std.specs.Prelude.{⊤, flat_map}
use Rattle.std.specs.List.{AllByRecursion}
use Rattle.std.proofs.Math.Seq.{take-append_seam, drop-append_seam}
use Rattle.mql_lex.specs.Grammar.{IsToken}
use Rattle.mql_lex.specs.Reading.{put_before, lexed}
use Rattle.mql_lex.specs.declared.token.Token.{Token}
use Rattle.mql_lex.specs.declared.token.TokenKind.{TokenKind}
use Rattle.mql_lex.specs.declared.token.TokenKind.TheVariants.{Name, Number, Duration, Str, Mark}
use Rattle.mql_laws.proofs.Cuts.{ends, ends_mark, ends_blank, is_lone, plain_cut, mark_cut, lone_cut, blank_cut}
use Rattle.mql_lex.proofs.Outcomes.{lexed_tokens}
use Rattle.mql_expr.specs.Canonical.{Piece, blank, word, text_of, parted}
use Rattle.mql_laws.specs.Lexed.{words, spelled, AreWords}
use Rattle.mql_expr.proofs.PartedLaws.{text_of-append}

abbrev pub IsPiece : Piece → Type 0
IsPiece blank = ⊤
IsPiece (word kind text) = (0 < length text) × IsToken kind text

abbrev is_lone_text : List ℕ → Bool
is_lone_text [] = false
is_lone_text (byte ∷ []) = is_lone byte
is_lone_text (byte ∷ other ∷ more) = false

-- whether a text may stand after a piece
abbrev pub may_follow : Piece → List ℕ → Bool
may_follow blank more = ends_blank more
may_follow (word Name text) more = ends more
may_follow (word Number text) more = ends more
may_follow (word Duration text) more = ends more
may_follow (word Str text) more = ends more
may_follow (word Mark text) more = is_lone_text text || ends_mark more

-- pieces with a text after them
abbrev pub Apart : List Piece → List ℕ → Type 0
Apart [] more = ⊤
Apart (p ∷ ps) more = IsPiece p × (may_follow p (text_of ps ++ more) ≡ true) × Apart ps more

-- ---- they are the tokens of their text

abbrev pub tokens_at : ℕ → List Piece → List Token
tokens_at at [] = []
tokens_at at (blank ∷ ps) = tokens_at (at + 1) ps
tokens_at at (word kind text ∷ ps) =
    record { kind = kind; at = at; len = length text } ∷ tokens_at (at + length text) ps

any_mark_cut : (text more : List ℕ) → 0 < length text → IsToken Mark text
    → (is_lone_text text || ends_mark more) ≡ true → (at : ℕ)
    → lexed 0 at (text ++ more)
    ≡ put_before (record { kind = Mark; at = at; len = length text } ∷ [])
    (lexed 0 (at + length text) more)
any_mark_cut [] more some is end at = absurd (omega arith)
any_mark_cut (byte ∷ []) more some is end at = go (is_lone byte) refl end
  where
    go : (b : Bool) → is_lone byte ≡ b → (b || ends_mark more) ≡ true
        → lexed 0 at (byte ∷ more)
        ≡ put_before (record { kind = Mark; at = at; len = 1 } ∷ []) (lexed 0 (at + 1) more)
    go true lone e = lone_cut byte more at lone
    go false lone e = mark_cut (byte ∷ []) more at some is e
any_mark_cut (byte ∷ other ∷ text) more some is end at =
    mark_cut (byte ∷ other ∷ text) more at some is end

word_cut : (kind : TokenKind) (text more : List ℕ) → IsPiece (word kind text)
    → may_follow (word kind text) more ≡ true → (at : ℕ)
    → lexed 0 at (text ++ more)
    ≡ put_before (record { kind = kind; at = at; len = length text } ∷ [])
    (lexed 0 (at + length text) more)
word_cut Name text more is end at = plain_cut Name text more at (λ e. cc e) is.0 is.1 end
word_cut Number text more is end at = plain_cut Number text more at (λ e. cc e) is.0 is.1 end
word_cut Duration text more is end at = plain_cut Duration text more at (λ e. cc e) is.0 is.1 end
word_cut Str text more is end at = plain_cut Str text more at (λ e. cc e) is.0 is.1 end
word_cut Mark text more is end at = any_mark_cut text more is.0 is.1 end at

pub apart_lexed : (ps : List Piece) (at : ℕ) → Apart ps []
    → lexed 0 at (text_of ps) ≡ Ok (tokens_at at ps)
apart_lexed [] at apart = refl
apart_lexed (blank ∷ ps) at apart =
    let end : ends_blank (text_of ps) ≡ true = ap ends_blank (sym (append-nil (text_of ps)))
    ∙ apart.1 in
    blank_cut (text_of ps) at end ∙ ap (put_before []) (apart_lexed ps (at + 1) apart.2)
apart_lexed (word kind text ∷ ps) at apart =
    let end : may_follow (word kind text) (text_of ps) ≡ true =
    ap (may_follow (word kind text)) (sym (append-nil (text_of ps))) ∙ apart.1 in
    word_cut kind text (text_of ps) apart.0 end at
    ∙ ap (put_before (record { kind = kind; at = at; len = length text } ∷ []))
    (apart_lexed ps (at + length text) apart.2)

-- each token's slice is its word
slices : (ps : List Piece) (front : List ℕ)
    → map (spelled (front ++ text_of ps)) (tokens_at (length front) ps) ≡ words ps
slices [] front = refl
slices (blank ∷ ps) front =
    let next = front ++ 32 ∷ [] in
    let same : next ++ text_of ps ≡ front ++ 32 ∷ text_of ps =
    append_assoc front (32 ∷ []) (text_of ps) in
    let len : length next ≡ length front + 1 = omega (arith, length-append front (32 ∷ [])) in
    ap (λ (t : List ℕ). map (spelled t) (tokens_at (length front + 1) ps)) (sym same)
    ∙ ap (λ n. map (spelled (next ++ text_of ps)) (tokens_at n ps)) (sym len)
    ∙ slices ps next
slices (word kind text ∷ ps) front =
    let next = front ++ text in
    let same : next ++ text_of ps ≡ front ++ (text ++ text_of ps) =
    append_assoc front text (text_of ps) in
    let len : length next ≡ length front + length text = length-append front text in
    let here : take (length text) (drop (length front) (front ++ (text ++ text_of ps))) ≡ text =
    ap (take (length text)) (drop-append_seam front (text ++ text_of ps))
    ∙ take-append_seam text (text_of ps) in
    ap (λ (t : List ℕ). (kind, t)
    ∷ map (spelled (front ++ (text ++ text_of ps))) (tokens_at (length front + length text) ps))
    here
    ∙ ap (λ (t : List ℕ). (kind, text)
    ∷ map (spelled t) (tokens_at (length front + length text) ps)) (sym same)
    ∙ ap (λ n. (kind, text) ∷ map (spelled (next ++ text_of ps)) (tokens_at n ps)) (sym len)
    ∙ ap (λ ws. (kind, text) ∷ ws) (slices ps next)

pub apart_words : (ps : List Piece) → Apart ps [] → AreWords ps (tokens_at 0 ps)
apart_words ps apart = record {
  tokens_are = lexed_tokens (text_of ps) (tokens_at 0 ps) (apart_lexed ps 0 apart);
  words_are = slices ps [];
}

-- ---- how they are put together

pub texts_behind : (a b : List Piece) (more : List ℕ) → text_of (a ++ b) ++ more ≡ text_of a
    ++ (text_of b ++ more)
texts_behind a b more = ap (λ t. t ++ more) (text_of-append a b)
    ∙ append_assoc (text_of a) (text_of b) more

pub apart_append : (a b : List Piece) (more : List ℕ) → Apart a (text_of b ++ more) → Apart b more
    → Apart (a ++ b) more
apart_append [] b more first second = second
apart_append (p ∷ ps) b more first second = (
  first.0,
  ap (may_follow p) (texts_behind ps b more)
      ∙ first.1,
  apart_append ps b more first.2 second,
)

-- pieces that may stand before whatever cuts a word off
abbrev pub Good : List Piece → Type 0
Good ps = (more : List ℕ) → ends more ≡ true → Apart ps more

-- pieces with which no blank begins, so that they may stand after one
abbrev pub Starts : List Piece → Type 0
Starts ps = (more : List ℕ) → ends_blank (text_of ps ++ more) ≡ true

-- pieces that cut a word off, or none where what follows does
abbrev pub Joins : List Piece → Type 0
Joins ps = (more : List ℕ) → ends more ≡ true → ends (text_of ps ++ more) ≡ true

pub good_append : (a b : List Piece) → Good a → Good b → Joins b → Good (a ++ b)
good_append a b first second joins more end =
    apart_append a b more (first (text_of b ++ more) (joins more end)) (second more end)

pub starts_append : (a b : List Piece) → Starts a → Starts (a ++ b)
starts_append a b first more = ap ends_blank (texts_behind a b more) ∙ first (text_of b ++ more)

pub joins_append : (a b : List Piece) → Joins a → Joins b → Joins (a ++ b)
joins_append a b first second more end = ap ends (texts_behind a b more)
    ∙ first (text_of b ++ more) (second more end)

-- ---- pieces in parentheses, and with something between them

-- something that may stand between two pieces
pub record Between (ps : List Piece) : Type 0 where
  pub apart : (more : List ℕ) → ends_blank more ≡ true → Apart ps more
  pub cuts : (more : List ℕ) → ends (text_of ps ++ more) ≡ true

abbrev pub GoodStart : List Piece → Type 0
GoodStart ps = Good ps × Starts ps

behind : (between : List Piece) (b : Between between) (xs : List (List Piece))
    → AllByRecursion GoodStart xs
    → Good (flat_map (λ y. between ++ y) xs) × Joins (flat_map (λ y. between ++ y) xs)
behind between b [] all = ((λ more end. tt), (λ more end. end))
behind between b (y ∷ ys) all =
    let rest = flat_map (λ z. between ++ z) ys in
    let later = behind between b ys all.1 in (
      (λ more end.
          apart_append (between ++ y) rest more
          (apart_append between y (text_of rest ++ more)
          (b.apart (text_of y ++ (text_of rest ++ more)) (all.0.1 (text_of rest ++ more)))
          (all.0.0 (text_of rest ++ more) (later.1 more end)))
          (later.0 more end)),
      (λ more end.
          ap ends (texts_behind (between ++ y) rest more
          ∙ texts_behind between y (text_of rest ++ more))
          ∙ b.cuts (text_of y ++ (text_of rest ++ more))),
    )

-- the first may be empty or begin with anything
pub good_parted : (between : List Piece) → Between between
    → (x : List Piece) (xs : List (List Piece)) → Good x → AllByRecursion GoodStart xs
    → Good (parted between (x ∷ xs))
good_parted between b x xs first all =
    let later = behind between b xs all in
    good_append x (flat_map (λ y. between ++ y) xs) first later.0 later.1

pub good_all : (between : List Piece) → Between between → (xs : List (List Piece))
    → AllByRecursion GoodStart xs → Good (parted between xs)
good_all between b [] all more end = tt
good_all between b (x ∷ xs) all more end = good_parted between b x xs all.0.0 all.1 more end
