-- The lines of the format. (Prometheus text format 0.0.4, "Line format")
--
-- Each word below says what stands at the front of a text, and leaves what was read there and the
-- rest to L, which says what may follow. So the grammar is read from its end, `IsLine`.
use Rattle.std.specs.Prelude.{◌≡◌, ◌≢◌, ◌⊎◌, ℕ, zero, suc, ◌+◌, ◌==◌, ◌||◌, Bool, true, List, [], ◌∷◌, ◌++◌, length, codes, ⊤, IsUtf8}
use Rattle.std.specs.Char.{is_ascii_digit}
use Rattle.std.specs.List.{AllByRecursion, list_all}
use Rattle.vm_decimal.specs.SampleText.{IsSampleText}
use Rattle.vm_labels.specs.Name.{is_name}
use Rattle.vm_labels.specs.declared.pair.Pair.{Pair}
use Rattle.vm_promtext.specs.Quoted.{IsBare, unescaped}

-- a space or a tab
abbrev pub is_blank : ℕ → Bool
is_blank byte = byte == 32 || byte == 9

-- blanks alone
abbrev pub AreBlank : List ℕ → Type 0
AreBlank = AllByRecursion (λ byte. is_blank byte ≡ true)

-- any blanks, then a text of L
pub record Spaced (L : List ℕ → Type 0) (text : List ℕ) : Type 0 where
  pub blanks : List ℕ
  pub rest : List ℕ
  pub parts : text ≡ blanks ++ rest
  pub are : AreBlank blanks
  pub then : L rest

-- a byte, then a text of L
pub record Marked (mark : ℕ) (L : List ℕ → Type 0) (text : List ℕ) : Type 0 where
  pub rest : List ℕ
  pub parts : text ≡ mark ∷ rest
  pub then : L rest

-- one blank or more, then a text of L
pub record Parted (L : List ℕ → Type 0) (text : List ℕ) : Type 0 where
  pub blank : ℕ
  pub rest : List ℕ
  pub parts : text ≡ blank ∷ rest
  pub is : is_blank blank ≡ true
  pub then : Spaced L rest

-- a name, then a text of L
pub record Named (L : List ℕ → List ℕ → Type 0) (text : List ℕ) : Type 0 where
  pub name : List ℕ
  pub rest : List ℕ
  pub parts : text ≡ name ++ rest
  pub is : is_name name ≡ true
  pub then : L name rest

-- a label's value in quotes, which is UTF-8 and has no quote but in an escape; L gets what it
-- stands for
pub record Quoted (L : List ℕ → List ℕ → Type 0) (text : List ℕ) : Type 0 where
  pub raw : List ℕ
  pub rest : List ℕ
  pub parts : text ≡ 34 ∷ (raw ++ 34 ∷ rest)
  pub utf8 : IsUtf8 raw
  pub bare : IsBare raw
  pub then : L (unescaped raw) rest

-- `name="value"`, blanks around each part but the first
abbrev pub Labeled : (Pair → List ℕ → Type 0) → List ℕ → Type 0
Labeled L =
    Named (λ name. Spaced (Marked 61 (Spaced (Quoted (λ value.
    Spaced (L (record { name = name; value = value })))))))

-- What follows an opening brace and these pairs: at most so many more, parted by commas, perhaps a
-- comma after the last one, and the closing brace.
abbrev pub Closed : (List Pair → List ℕ → Type 0) → ℕ → List Pair → List ℕ → Type 0
Closed L zero before = Spaced (Marked 125 (L before))
Closed L (suc more) before = Spaced (λ text.
    Marked 125 (L before) text
    ⊎ Labeled (λ pair rest.
    Marked 125 (L (before ++ pair ∷ [])) rest
    ⊎ Marked 44 (Closed L more (before ++ pair ∷ [])) rest) text)

-- after a name and these pairs: blanks, or more pairs in braces with any blanks around the braces
abbrev pub WithLabels : (List Pair → List ℕ → Type 0) → List Pair → List ℕ → Type 0
WithLabels L before text =
    Parted (L before) text
    ⊎ Spaced (Marked 123 (λ rest. (pairs : ℕ) × Closed (λ all. Spaced (L all)) pairs before rest))
    text

-- the text of a sample or of a value that is no number
pub record Valued (L : List ℕ → List ℕ → Type 0) (text : List ℕ) : Type 0 where
  pub value : List ℕ
  pub rest : List ℕ
  pub parts : text ≡ value ++ rest
  pub is : IsSampleText value
  pub then : L value rest

-- digits, one or more
pub record Counted (L : List ℕ → List ℕ → Type 0) (text : List ℕ) : Type 0 where
  pub digits : List ℕ
  pub rest : List ℕ
  pub parts : text ≡ digits ++ rest
  pub some : digits ≢ []
  pub are : list_all is_ascii_digit digits ≡ true
  pub then : L digits rest

-- The line's end after its value: blanks, or blanks, the digits of a time and blanks. L gets the
-- digits, none where no time is written, and the number of bytes from the first of them on.
abbrev pub Timed : (List ℕ → ℕ → Type 0) → List ℕ → Type 0
Timed L text =
    (AreBlank text × L [] 0)
    ⊎ Parted (Counted (λ digits rest. AreBlank rest × L digits (length digits + length rest))) text

-- what a line with a row writes
pub record Written : Type 0 where
  -- the labels: the metric's name as `__name__`, and those in braces, in their order
  pub pairs : List Pair
  -- the value's text, and how many bytes the line has from its first byte on
  pub value : List ℕ
  pub value_left : ℕ
  -- the time's digits, none where no time is written, and how many bytes the line has from the
  -- first on
  pub digits : List ℕ
  pub time_left : ℕ

-- the metric's name as a label
abbrev pub name_pair : List ℕ → Pair
name_pair name = record { name = codes "__name__"; value = name }

-- a line with a row of whose parts P holds
abbrev pub RowText : (Written → Type 0) → List ℕ → Type 0
RowText P =
    Spaced (Named (λ name. WithLabels (λ pairs. Valued (λ value behind. Timed (λ digits left.
    P (record {
      pairs = pairs;
      value = value;
      value_left = length value + length behind;
      digits = digits;
      time_left = left;
    })) behind)) (name_pair name ∷ [])))

-- the line writes this
abbrev pub Writes : List ℕ → Written → Type 0
Writes line written = RowText (λ other. other ≡ written) line

-- blanks alone or a comment, which may hold any bytes
abbrev pub SaysNothing : List ℕ → Type 0
SaysNothing line = AreBlank line ⊎ Spaced (Marked 35 (λ _. ⊤)) line

-- the text is a line: it says nothing, or writes a row
abbrev pub IsLine : List ℕ → Type 0
IsLine line = SaysNothing line ⊎ RowText (λ _. ⊤) line
