-- Where a token ends: the bytes that cut it off from what stands after it.
use Rattle.std.proofs.Common.{◌≡◌, ℕ, zero, suc, ◌+◌, ◌-◌, ◌<◌, ◌≤◌, Bool, true, false, not, ◌==◌, List, [], ◌∷◌, ◌++◌, length, drop, codes, Option, Some, None, Result, Ok, Err, refl, sym, ap, subst, ◌∙◌, append-nil, length-append, if◌then◌else◌, arith}
use Rattle.std.specs.Prelude.{⊤}
use Rattle.std.specs.List.{AllByRecursion, list_any}
use Rattle.std.specs.Option.{option_map_or}
use Rattle.std.proofs.Math.Seq.{drop-append_seam}
use Rattle.mql_lex.specs.Grammar.{IsToken, may_end, is_blank}
use Rattle.mql_lex.specs.Machine.{next, piece_of}
use Rattle.mql_lex.specs.Reading.{reach, ended, piece_reading, put_before, with_piece, lexed}
use Rattle.mql_lex.specs.Tokens.{IsLongest, Leads, no_more, a_token}
use Rattle.mql_lex.specs.declared.phase.Phase.{Phase}
use Rattle.mql_lex.specs.declared.phase.Phase.TheVariants.{Start, Named, Whole, Bare, Fraction, Marked, MarkSigned, Power, Minutes, Counted, Counting, Within, Escaped, Closed, Marking, Equals, Bang, Angle, Blanks, Comment}
use Rattle.mql_lex.specs.declared.piece.Piece.{Piece as PieceKind}
use Rattle.mql_lex.specs.declared.piece.Piece.TheVariants.{Token, Gap}
use Rattle.mql_lex.specs.declared.token.Token.{Token as TokenOf}
use Rattle.mql_lex.specs.declared.token.TokenKind.{TokenKind}
use Rattle.mql_lex.specs.declared.token.TokenKind.TheVariants.{Name, Number, Duration, Str, Mark}
use Rattle.mql_lex.proofs.Moves.{any_byte}
use Rattle.mql_lex.proofs.Outcomes.{tokens_lexed, lexed_piece}

-- ---- a text that is one token

abbrev alone : TokenKind → List ℕ → TokenOf
alone kind text = record { kind = kind; at = 0; len = length text }

ends_at_end : (kind : TokenKind) → may_end (Token kind) [] ≡ true
ends_at_end Name = refl
ends_at_end Number = refl
ends_at_end Duration = refl
ends_at_end Str = refl
ends_at_end Mark = refl

whole_longest : (kind : TokenKind) (text : List ℕ) → IsToken kind text
    → IsLongest (Token kind) text []
whole_longest kind text is = record {
  is = is;
  longest = λ other longer rest same piece.
      let lengths : length (text ++ []) ≡ length (longer ++ rest) = ap length same in
      omega (arith, length-append text [], length-append longer rest);
  ends = ends_at_end kind;
}

one_token : (kind : TokenKind) (text : List ℕ) → IsToken kind text
    → lexed 0 0 text ≡ Ok (alone kind text ∷ [])
one_token kind text is =
    let far = length text in
    let rest : Leads far [] (0 + length text) [] [] =
    subst (λ at. Leads far [] at [] []) (omega arith) no_more in
    let first : Leads far [] 0 (text ++ []) (alone kind text ∷ []) =
    a_token {at = 0} {kind = kind} {front = text} {more = []} {tokens = []}
    (whole_longest kind text is) rest in
    tokens_lexed text (alone kind text ∷ [])
    (subst (λ t. Leads far [] 0 t (alone kind text ∷ [])) (append-nil text) first)

-- the first token stands at this place or after it
abbrev AtLeast : ℕ → Result (List TokenOf) ℕ → Type 0
AtLeast at (Ok []) = ⊤
AtLeast at (Ok (t ∷ ts)) = at ≤ t.at
AtLeast at (Err bad) = ⊤

sooner : (at : ℕ) (r : Result (List TokenOf) ℕ) → AtLeast (suc at) r → AtLeast at r
sooner at (Ok []) h = tt
sooner at (Ok (t ∷ ts)) h = omega arith
sooner at (Err bad) h = tt

behind_piece : (at : ℕ) (o : Option (PieceKind × ℕ)) (rest : ℕ → Result (List TokenOf) ℕ)
    → ((skip : ℕ) → AtLeast (suc at) (rest skip))
    → AtLeast at (with_piece at o rest)
behind_piece at None rest h = tt
behind_piece at (Some (Gap, len)) rest h = go (rest (len - 1)) (h (len - 1))
  where
    go : (r : Result (List TokenOf) ℕ) → AtLeast (suc at) r → AtLeast at (put_before [] r)
    go (Ok []) k = tt
    go (Ok (t ∷ ts)) k = omega arith
    go (Err bad) k = tt
behind_piece at (Some (Token kind, len)) rest h = go (rest (len - 1))
  where
    go : (r : Result (List TokenOf) ℕ)
        → AtLeast at (put_before (record { kind = kind; at = at; len = len } ∷ []) r)
    go (Ok ts) = omega arith
    go (Err bad) = tt

lexed_places : (text : List ℕ) (skip at : ℕ) → AtLeast at (lexed skip at text)
lexed_places [] skip at = tt
lexed_places (byte ∷ more) (suc skip) at =
    sooner at (lexed skip (suc at) more) (lexed_places more skip (suc at))
lexed_places (byte ∷ more) zero at =
    behind_piece at (piece_reading (byte ∷ more)) (λ skip. lexed skip (suc at) more)
    (λ skip. lexed_places more skip (suc at))

abbrev first_token : Result (List TokenOf) ℕ → TokenOf
first_token (Ok (t ∷ ts)) = t
first_token _ = record { kind = Mark; at = 0; len = 0 }

abbrev found : PieceKind → ℕ → Option (PieceKind × ℕ)
found piece len = Some (piece, len)

-- where one token is the first and only one, the machine found it
found_alone : (t : TokenOf) (o : Option (PieceKind × ℕ)) (rest : ℕ → Result (List TokenOf) ℕ)
    → ((skip : ℕ) → AtLeast 1 (rest skip)) → t.at ≡ 0
    → with_piece 0 o rest ≡ Ok (t ∷ []) → o ≡ found (Token t.kind) t.len
found_alone t None rest h place is = absurd (cc is)
found_alone t (Some (Gap, len)) rest h place is = absurd (go (rest (len - 1)) (h (len - 1)) is)
  where
    go : (r : Result (List TokenOf) ℕ) → AtLeast 1 r → put_before [] r ≡ Ok (t ∷ []) → ⊥
    go (Ok []) k same = cc same
    go (Ok (u ∷ us)) k same = let e : u.at ≡ t.at =
        ap (λ (q : Result (List TokenOf) ℕ). (first_token q).at) same in omega arith
    go (Err bad) k same = cc same
found_alone t (Some (Token kind, len)) rest h place is = go (rest (len - 1)) is
  where
    go : (r : Result (List TokenOf) ℕ)
        → put_before (record { kind = kind; at = 0; len = len } ∷ []) r ≡ Ok (t ∷ [])
        → found (Token kind) len ≡ found (Token t.kind) t.len
    go (Ok ts) same =
        ap (λ (q : Result (List TokenOf) ℕ). found (Token (first_token q).kind) (first_token q).len)
        same
    go (Err bad) same = absurd (cc same)

piece_alone : (kind : TokenKind) (text : List ℕ) → 0 < length text → IsToken kind text
    → piece_reading text ≡ found (Token kind) (length text)
piece_alone kind [] some is = absurd (omega arith)
piece_alone kind (byte ∷ more) some is =
    found_alone (alone kind (byte ∷ more)) (piece_reading (byte ∷ more)) (λ skip. lexed skip 1 more)
    (λ skip. lexed_places more skip 1) refl
    (one_token kind (byte ∷ more) is)

-- ---- the machine on a word and what stands after it

ended_is : (text : List ℕ) (n : ℕ) (o : Option PieceKind) (piece : PieceKind) (len : ℕ)
    → ended text n o ≡ found piece len
    → (n ≡ len) × (o ≡ Some piece)
ended_is text n None piece len is = absurd (cc is)
ended_is text n (Some p) piece len is = go (may_end p (drop n text)) is
  where
    go : (b : Bool) → (if b then found p n else None) ≡ found piece len → (n ≡ len)
        × (Some p ≡ Some piece)
    go true same = (
      ap (λ (q : Option (PieceKind × ℕ)). option_map_or (λ v. v.1) q n) same,
      ap (λ (q : Option (PieceKind × ℕ)). option_map_or (λ v. Some v.0) q None) same,
    )
    go false same = absurd (cc same)

-- the machine reads all of the text, and ends in this phase as this token
record Ended (kind : TokenKind) (text : List ℕ) : Type 0 where
  pub phase : Phase
  pub whole : (reach Start text).0 ≡ length text
  pub last : (reach Start text).1 ≡ phase
  pub is : piece_of phase ≡ Some (Token kind)

ended_of : (kind : TokenKind) (text : List ℕ) → 0 < length text → IsToken kind text
    → Ended kind text
unfolding piece_reading
ended_of kind text some is =
    let parts =
    ended_is text (reach Start text).0 (piece_of (reach Start text).1) (Token kind)
    (length text) (piece_alone kind text some is) in
    record { phase = (reach Start text).1; whole = parts.0; last = refl; is = parts.1 }

-- what the machine does from the phase that a byte leads to, or stops at
abbrev reach_from : Option Phase → Phase → List ℕ → ℕ × Phase
reach_from o phase more =
    option_map_or (λ behind. (suc (reach behind more).0, (reach behind more).1)) o (0, phase)

-- where it stops at once
abbrev Stops : Phase → List ℕ → Type 0
Stops phase more = reach phase more ≡ (0, phase)

stops_end : (phase : Phase) → Stops phase []
stops_end phase = refl

stops_byte : (phase : Phase) (byte : ℕ) (more : List ℕ) → next phase byte ≡ None
    → Stops phase (byte ∷ more)
stops_byte phase byte more none =
    ap (λ o. reach_from o phase more) none

reach_step : (o : Option Phase) (phase : Phase) (front more : List ℕ) (end : Phase)
    → ((behind : Phase) → (reach behind front).0 ≡ length front → (reach behind front).1 ≡ end
    → reach behind (front ++ more) ≡ (length front, end))
    → (reach_from o phase front).0 ≡ suc (length front)
    → (reach_from o phase front).1 ≡ end
    → reach_from o phase (front ++ more) ≡ (suc (length front), end)
reach_step None phase front more end on whole last = absurd (omega arith)
reach_step (Some behind) phase front more end on whole last =
    ap (λ (r : ℕ × Phase). (suc r.0, r.1)) (on behind (omega arith) last)

reach_stops : (front more : List ℕ) (phase end : Phase) → (reach phase front).0 ≡ length front
    → (reach phase front).1 ≡ end → Stops end more
    → reach phase (front ++ more) ≡ (length front, end)
reach_stops [] more phase end whole last stops =
    subst (λ p. reach p more ≡ (0, end)) (sym last) stops
reach_stops (byte ∷ front) more phase end whole last stops =
    reach_step (next phase byte) phase front more end
    (λ behind w l. reach_stops front more behind end w l stops) whole last

-- a word is the piece at the front where the machine stops after it
word_found : (kind : TokenKind) (text more : List ℕ) (e : Ended kind text) → Stops e.phase more
    → may_end (Token kind) more ≡ true
    → piece_reading (text ++ more) ≡ found (Token kind) (length text)
unfolding piece_reading
word_found kind text more e stops ends =
    let reached : reach Start (text ++ more) ≡ (length text, e.phase) =
    reach_stops text more Start e.phase e.whole e.last stops in
    ap (λ (r : ℕ × Phase). ended (text ++ more) r.0 (piece_of r.1)) reached
    ∙ ap (λ o. ended (text ++ more) (length text) o) e.is
    ∙ ap (λ t. if may_end (Token kind) t then found (Token kind) (length text) else None)
    (drop-append_seam text more)
    ∙ ap (λ b. if b then found (Token kind) (length text) else None) ends

-- ---- which bytes cut a word off

-- the bytes that may stand after a name, a number, a duration or a string
abbrev pub is_end : ℕ → Bool
is_end byte = list_any (λ one. byte == one) (codes " !(),=[]{}")

all_end : (P : ℕ → Type 0) (byte : ℕ) → AllByRecursion P (codes " !(),=[]{}") → is_end byte ≡ true
    → P byte
all_end P byte all is = any_byte P (codes " !(),=[]{}") byte all is

abbrev Cut : Phase → ℕ → Type 0
Cut phase byte = next phase byte ≡ None

cut : (kind : TokenKind) (phase : Phase) (byte : ℕ) → (kind ≡ Mark → ⊥)
    → piece_of phase ≡ Some (Token kind) → is_end byte ≡ true → Cut phase byte
cut kind Named byte plain is end =
    all_end (Cut Named) byte
    (refl, (refl, (refl, (refl, (refl, (refl, (refl, (refl, (refl, (refl, tt)))))))))) end
cut kind Whole byte plain is end =
    all_end (Cut Whole) byte
    (refl, (refl, (refl, (refl, (refl, (refl, (refl, (refl, (refl, (refl, tt)))))))))) end
cut kind Fraction byte plain is end =
    all_end (Cut Fraction) byte
    (refl, (refl, (refl, (refl, (refl, (refl, (refl, (refl, (refl, (refl, tt)))))))))) end
cut kind Power byte plain is end =
    all_end (Cut Power) byte
    (refl, (refl, (refl, (refl, (refl, (refl, (refl, (refl, (refl, (refl, tt)))))))))) end
cut kind Minutes byte plain is end =
    all_end (Cut Minutes) byte
    (refl, (refl, (refl, (refl, (refl, (refl, (refl, (refl, (refl, (refl, tt)))))))))) end
cut kind Counted byte plain is end =
    all_end (Cut Counted) byte
    (refl, (refl, (refl, (refl, (refl, (refl, (refl, (refl, (refl, (refl, tt)))))))))) end
cut kind Closed byte plain is end = refl
cut kind Marking byte plain is end = refl
cut kind Equals byte plain is end = absurd (plain (cc is))
cut kind Angle byte plain is end = absurd (plain (cc is))
cut kind Start byte plain is end = absurd (cc is)
cut kind Bare byte plain is end = absurd (cc is)
cut kind Marked byte plain is end = absurd (cc is)
cut kind MarkSigned byte plain is end = absurd (cc is)
cut kind Counting byte plain is end = absurd (cc is)
cut kind (Within quote) byte plain is end = absurd (cc is)
cut kind (Escaped quote) byte plain is end = absurd (cc is)
cut kind Bang byte plain is end = absurd (cc is)
cut kind Blanks byte plain is end = absurd (cc is)
cut kind Comment byte plain is end = absurd (cc is)

-- a blank or a quote cuts a mark off
abbrev pub is_mark_end : ℕ → Bool
is_mark_end byte = list_any (λ one. byte == one) (codes " \"")

cut_mark : (phase : Phase) (byte : ℕ) → piece_of phase ≡ Some (Token Mark) → is_mark_end byte ≡ true
    → Cut phase byte
cut_mark Marking byte is end = refl
cut_mark Equals byte is end = any_byte (Cut Equals) (codes " \"") byte (refl, (refl, tt)) end
cut_mark Angle byte is end = any_byte (Cut Angle) (codes " \"") byte (refl, (refl, tt)) end
cut_mark Named byte is end = absurd (cc is)
cut_mark Whole byte is end = absurd (cc is)
cut_mark Fraction byte is end = absurd (cc is)
cut_mark Power byte is end = absurd (cc is)
cut_mark Minutes byte is end = absurd (cc is)
cut_mark Counted byte is end = absurd (cc is)
cut_mark Closed byte is end = absurd (cc is)
cut_mark Start byte is end = absurd (cc is)
cut_mark Bare byte is end = absurd (cc is)
cut_mark Marked byte is end = absurd (cc is)
cut_mark MarkSigned byte is end = absurd (cc is)
cut_mark Counting byte is end = absurd (cc is)
cut_mark (Within quote) byte is end = absurd (cc is)
cut_mark (Escaped quote) byte is end = absurd (cc is)
cut_mark Bang byte is end = absurd (cc is)
cut_mark Blanks byte is end = absurd (cc is)
cut_mark Comment byte is end = absurd (cc is)

may_end_at : (kind : TokenKind) (byte : ℕ) (more : List ℕ) → is_end byte ≡ true
    → may_end (Token kind) (byte ∷ more) ≡ true
may_end_at Name byte more end = refl
may_end_at Number byte more end =
    all_end (λ b. may_end (Token Number) (b ∷ more) ≡ true) byte
    (refl, (refl, (refl, (refl, (refl, (refl, (refl, (refl, (refl, (refl, tt)))))))))) end
may_end_at Duration byte more end =
    all_end (λ b. may_end (Token Duration) (b ∷ more) ≡ true) byte
    (refl, (refl, (refl, (refl, (refl, (refl, (refl, (refl, (refl, (refl, tt)))))))))) end
may_end_at Str byte more end = refl
may_end_at Mark byte more end = refl

-- what may stand after a word that is no mark
abbrev pub ends : List ℕ → Bool
ends [] = true
ends (byte ∷ more) = is_end byte

-- what may stand after any mark
abbrev pub ends_mark : List ℕ → Bool
ends_mark [] = false
ends_mark (byte ∷ more) = is_mark_end byte

plain_found : (kind : TokenKind) (text more : List ℕ) → (kind ≡ Mark → ⊥) → 0 < length text
    → IsToken kind text → ends more ≡ true
    → piece_reading (text ++ more) ≡ found (Token kind) (length text)
plain_found kind text [] plain some is end =
    let e = ended_of kind text some is in word_found kind text [] e (stops_end e.phase)
    (ends_at_end kind)
plain_found kind text (byte ∷ more) plain some is end =
    let e = ended_of kind text some is in
    word_found kind text (byte ∷ more) e
    (stops_byte e.phase byte more (cut kind e.phase byte plain e.is end))
    (may_end_at kind byte more end)

mark_found : (text more : List ℕ) → 0 < length text → IsToken Mark text → ends_mark more ≡ true
    → piece_reading (text ++ more) ≡ found (Token Mark) (length text)
mark_found text [] some is end = absurd (cc end)
mark_found text (byte ∷ more) some is end =
    let e = ended_of Mark text some is in word_found Mark text (byte ∷ more) e
    (stops_byte e.phase byte more (cut_mark e.phase byte e.is end)) refl

-- a mark with which no longer one begins
abbrev pub is_lone : ℕ → Bool
is_lone byte = list_any (λ one. byte == one) (codes "(){}[],-")

after_lone : (more : List ℕ) → Stops Marking more
after_lone [] = refl
after_lone (byte ∷ more) = refl

lone_found : (byte : ℕ) (more : List ℕ) → is_lone byte ≡ true
    → piece_reading (byte ∷ more) ≡ found (Token Mark) 1
unfolding piece_reading
lone_found byte more is =
    let starts : next Start byte ≡ Some Marking =
    any_byte (λ b. next Start b ≡ Some Marking) (codes "(){}[],-") byte
    (refl, (refl, (refl, (refl, (refl, (refl, (refl, (refl, tt)))))))) is in
    let reached : reach Start (byte ∷ more) ≡ (1, Marking) =
    ap (λ o. reach_from o Start more) starts
    ∙ ap (λ (r : ℕ × Phase). (suc r.0, r.1)) (after_lone more) in
    ap (λ (r : ℕ × Phase). ended (byte ∷ more) r.0 (piece_of r.1)) reached

-- what may stand after a blank
abbrev pub ends_blank : List ℕ → Bool
ends_blank [] = false
ends_blank (byte ∷ more) = not (is_blank byte)

no_blank : (b : Bool) → not b ≡ true → b ≡ false
no_blank true h = absurd (cc h)
no_blank false h = refl

blank_found : (more : List ℕ) → ends_blank more ≡ true → piece_reading (32 ∷ more) ≡ found Gap 1
unfolding piece_reading
blank_found [] end = absurd (cc end)
blank_found (byte ∷ more) end =
    let stays : next Blanks byte ≡ None =
    ap (λ b. if b then Some Blanks else None) (no_blank (is_blank byte) end) in
    let reached : reach Start (32 ∷ byte ∷ more) ≡ (1, Blanks) =
    ap (λ (r : ℕ × Phase). (suc r.0, r.1)) (stops_byte Blanks byte more stays) in
    ap (λ (r : ℕ × Phase). ended (32 ∷ byte ∷ more) r.0 (piece_of r.1)) reached

-- ---- one piece more

lexed_word : (kind : TokenKind) (text more : List ℕ) (at : ℕ) → 0 < length text
    → piece_reading (text ++ more) ≡ found (Token kind) (length text)
    → lexed 0 at (text ++ more)
    ≡ put_before (record { kind = kind; at = at; len = length text } ∷ [])
    (lexed 0 (at + length text) more)
lexed_word kind text more at some found =
    lexed_piece (text ++ more) at (Token kind) (length text) found some
    (omega (arith, length-append text more))
    ∙ ap (λ t.
    put_before (record { kind = kind; at = at; len = length text } ∷ [])
    (lexed 0 (at + length text) t)) (drop-append_seam text more)

lexed_blank : (more : List ℕ) (at : ℕ) → piece_reading (32 ∷ more) ≡ found Gap 1
    → lexed 0 at (32 ∷ more) ≡ put_before [] (lexed 0 (at + 1) more)
lexed_blank more at found = lexed_piece (32 ∷ more) at Gap 1 found (omega arith) (omega arith)

-- a token that is no mark, before one of these bytes or the end
pub plain_cut : (kind : TokenKind) (text more : List ℕ) (at : ℕ) → (kind ≡ Mark → ⊥)
    → 0 < length text → IsToken kind text → ends more ≡ true
    → lexed 0 at (text ++ more)
    ≡ put_before (record { kind = kind; at = at; len = length text } ∷ [])
    (lexed 0 (at + length text) more)
plain_cut kind text more at plain some is end =
    lexed_word kind text more at some (plain_found kind text more plain some is end)

-- a mark before a blank or a quote
pub mark_cut : (text more : List ℕ) (at : ℕ) → 0 < length text → IsToken Mark text
    → ends_mark more ≡ true
    → lexed 0 at (text ++ more)
    ≡ put_before (record { kind = Mark; at = at; len = length text } ∷ [])
    (lexed 0 (at + length text) more)
mark_cut text more at some is end =
    lexed_word Mark text more at some (mark_found text more some is end)

-- a mark of one byte with which no longer one begins
pub lone_cut : (byte : ℕ) (more : List ℕ) (at : ℕ) → is_lone byte ≡ true
    → lexed 0 at (byte ∷ more)
    ≡ put_before (record { kind = Mark; at = at; len = 1 } ∷ []) (lexed 0 (at + 1) more)
lone_cut byte more at is =
    lexed_word Mark (byte ∷ []) more at (omega arith) (lone_found byte more is)

-- a blank before what is none
pub blank_cut : (more : List ℕ) (at : ℕ) → ends_blank more ≡ true
    → lexed 0 at (32 ∷ more) ≡ put_before [] (lexed 0 (at + 1) more)
blank_cut more at end = lexed_blank more at (blank_found more end)
