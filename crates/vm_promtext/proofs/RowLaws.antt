-- A row, read from its name to its end.
use Rattle.std.proofs.Common.{◌≡◌, ◌⊎◌, inl, inr, ⊎_elim, ℕ, ◌+◌, ◌-◌, List, [], ◌∷◌, length, take, drop, Result, Ok, Err, refl, ap, sym, subst, ◌∙◌, length-append}
use Rattle.std.proofs.lemmas.List.{take-append-drop}
use Rattle.vm_decimal.specs.SampleReading.{sample_reading}
use Rattle.vm_decimal.specs.declared.sample_text.NumFault.{NumFault}
use Rattle.vm_decimal.specs.declared.sample_text.NumFault.TheVariants.{NotANumber, TooWide}
use Rattle.vm_decimal.specs.declared.sample_text.SampleText.{SampleText}
use Rattle.vm_labels.specs.Labels.{built}
use Rattle.vm_labels.specs.Name.{is_name_byte}
use Rattle.vm_labels.specs.declared.pair.Pair.{Pair}
use Rattle.vm_promtext.specs.Grammar.{is_blank, Marked, Named, WithLabels, Valued, Timed, Written, name_pair}
use Rattle.vm_promtext.specs.Outcome.{time_of, kept, with_value}
use Rattle.vm_promtext.specs.Reading.{◌>>=◌, before_blank, name_reading, labels_reading, unless_broken, value_reading, time_reading, row_reading}
use Rattle.vm_promtext.specs.declared.line.Line.{Line}
use Rattle.vm_promtext.proofs.Leads.{Leads, Stops, Follows, Of, behind, leads_on, leads_stops, leads_in, leads_out, follows_then, follows_ok, follows_err}
use Rattle.vm_promtext.proofs.PartLaws.{NeverBegins, EndsAt, ends_passing, spaced_now, spaced_never, marked_never, name_follows}
use Rattle.vm_promtext.proofs.LabelLaws.{labels_follows}
use Rattle.vm_promtext.proofs.PairLaws.{apart}
use Rattle.vm_promtext.proofs.ValuedLaws.{is_solid, BeginsBlank, valued_goes, valued_not_blank, valued_not_brace, value_follows, OfValue, value_rest}
use Rattle.vm_promtext.proofs.TimeLaws.{time_stops, time_reads, timed_blank}

-- what a row writes, and what its value says
abbrev pub parts_reading : List ℕ → Result (Result SampleText NumFault × Written) ℕ
parts_reading text =
    name_reading text >>= (λ name. labels_reading (name_pair name.0 ∷ []) name.1 >>= (λ labels.
    value_reading labels.1 >>= (λ value. time_reading (drop value.1 labels.1) >>= (λ time.
    Ok (
      value.0,
      record {
        pairs = labels.0;
        value = take value.1 labels.1;
        value_left = length labels.1;
        digits = time.0;
        time_left = time.1;
      },
    )))))

abbrev pub said : ℕ → List ℕ → Result SampleText NumFault × Written → Line
said now line read =
    with_value read.0 (length line - read.1.value_left) (length line - read.1.time_left)
    (time_of now read.1.digits) (kept (built read.1.pairs))

pub row_is : (now : ℕ) (line text : List ℕ)
    → row_reading now line text ≡ parts_reading text >>= (λ read. Ok (said now line read))
unfolding row_reading
row_is now line text = after_name (name_reading text)
  where
    after_time :
        (labels : List Pair × List ℕ) (value : Result SampleText NumFault × ℕ)
        (r : Result (List ℕ × ℕ) ℕ)
        → (r >>= (λ time.
        Ok (with_value value.0 (length line - length labels.1) (length line - time.1)
        (time_of now time.0) (kept (built labels.0)))))
        ≡ ((r >>= (λ time.
        Ok (
          value.0,
          record {
            pairs = labels.0;
            value = take value.1 labels.1;
            value_left = length labels.1;
            digits = time.0;
            time_left = time.1;
          },
        ))) >>= (λ read. Ok (said now line read)))
    after_time labels value (Ok time) = refl
    after_time labels value (Err left) = refl

    after_value : (labels : List Pair × List ℕ) (r : Result (Result SampleText NumFault × ℕ) ℕ)
        → (r >>= (λ value. time_reading (drop value.1 labels.1)
        >>= (λ time.
        Ok (with_value value.0 (length line - length labels.1) (length line - time.1)
        (time_of now time.0) (kept (built labels.0))))))
        ≡ ((r >>= (λ value. time_reading (drop value.1 labels.1)
        >>= (λ time.
        Ok (
          value.0,
          record {
            pairs = labels.0;
            value = take value.1 labels.1;
            value_left = length labels.1;
            digits = time.0;
            time_left = time.1;
          },
        )))) >>= (λ read. Ok (said now line read)))
    after_value labels (Ok value) = after_time labels value (time_reading (drop value.1 labels.1))
    after_value labels (Err left) = refl

    after_labels : (r : Result (List Pair × List ℕ) ℕ)
        → (r >>= (λ labels. value_reading labels.1
        >>= (λ value. time_reading (drop value.1 labels.1)
        >>= (λ time.
        Ok (with_value value.0 (length line - length labels.1) (length line - time.1)
        (time_of now time.0) (kept (built labels.0)))))))
        ≡ ((r >>= (λ labels. value_reading labels.1
        >>= (λ value. time_reading (drop value.1 labels.1)
        >>= (λ time.
        Ok (
          value.0,
          record {
            pairs = labels.0;
            value = take value.1 labels.1;
            value_left = length labels.1;
            digits = time.0;
            time_left = time.1;
          },
        ))))) >>= (λ read. Ok (said now line read)))
    after_labels (Ok labels) = after_value labels (value_reading labels.1)
    after_labels (Err left) = refl

    after_name : (r : Result (List ℕ × List ℕ) ℕ)
        → (r >>= (λ name. labels_reading (name_pair name.0 ∷ []) name.1
        >>= (λ labels. value_reading labels.1
        >>= (λ value. time_reading (drop value.1 labels.1)
        >>= (λ time.
        Ok (with_value value.0 (length line - length labels.1) (length line - time.1)
        (time_of now time.0) (kept (built labels.0))))))))
        ≡ ((r >>= (λ name. labels_reading (name_pair name.0 ∷ []) name.1
        >>= (λ labels. value_reading labels.1
        >>= (λ value. time_reading (drop value.1 labels.1)
        >>= (λ time.
        Ok (
          value.0,
          record {
            pairs = labels.0;
            value = take value.1 labels.1;
            value_left = length labels.1;
            digits = time.0;
            time_left = time.1;
          },
        )))))) >>= (λ read. Ok (said now line read)))
    after_name (Ok name) = after_labels (labels_reading (name_pair name.0 ∷ []) name.1)
    after_name (Err left) = refl

abbrev pairs_rest : List Pair × List ℕ → List ℕ
pairs_rest read = read.1

-- what a value's reading says of its text
value_is : (text : List ℕ) (value : Result SampleText NumFault × ℕ) → value_reading text ≡ Ok value
    → (value.1 ≡ before_blank text) × (value.0 ≡ sample_reading (take (before_blank text) text))
unfolding value_reading
value_is text value is = go (sample_reading (take (before_blank text) text)) refl is
  where
    go : (r : Result SampleText NumFault) → sample_reading (take (before_blank text) text) ≡ r
        → unless_broken text r ≡ Ok value
        → (value.1 ≡ before_blank text) × (value.0 ≡ sample_reading (take (before_blank text) text))
    go (Ok number) there is =
        let same : ◌≡◌ {A = Result SampleText NumFault × ℕ} (Ok number, before_blank text) value =
        cc (is) in
        (ap (λ v. v.1) (sym same), ap (λ v. v.0) (sym same) ∙ sym there)
    go (Err TooWide) there is =
        let same : ◌≡◌ {A = Result SampleText NumFault × ℕ} (Err TooWide, before_blank text) value =
        cc (is) in
        (ap (λ v. v.1) (sym same), ap (λ v. v.0) (sym same) ∙ sym there)
    go (Err (NotANumber at)) there is = cc (is)

-- the front of a row up to its value
abbrev head_reading : List ℕ → Result (List Pair × List ℕ) ℕ
head_reading text = name_reading text >>= (λ name. labels_reading (name_pair name.0 ∷ []) name.1)

abbrev with_time : List Pair × List ℕ → Result SampleText NumFault × ℕ → List ℕ × ℕ
    → Result (Result SampleText NumFault × Written) ℕ
with_time labels value time =
    Ok (
      value.0,
      record {
        pairs = labels.0;
        value = take value.1 labels.1;
        value_left = length labels.1;
        digits = time.0;
        time_left = time.1;
      },
    )

abbrev tail_reading : List Pair × List ℕ → Result (Result SampleText NumFault × Written) ℕ
tail_reading labels =
    value_reading labels.1
    >>= (λ value. time_reading (drop value.1 labels.1) >>= with_time labels value)

head_tail : (text : List ℕ) → parts_reading text ≡ head_reading text >>= tail_reading
head_tail text = go (name_reading text)
  where
    go : (r : Result (List ℕ × List ℕ) ℕ)
        → (r >>= (λ name. labels_reading (name_pair name.0 ∷ []) name.1 >>= tail_reading))
        ≡ ((r >>= (λ name. labels_reading (name_pair name.0 ∷ []) name.1)) >>= tail_reading)
    go (Ok name) = refl
    go (Err left) = refl

-- the parts of a bind that gives a value
record Bound {A B : Type 0} (r : Result A ℕ) (f : A → Result B ℕ) (y : B) : Type 0 where
  x : A
  is : r ≡ Ok x
  gives : f x ≡ Ok y

bound : {A B : Type 0} (r : Result A ℕ) (f : A → Result B ℕ) (y : B) → r >>= f ≡ Ok y → Bound r f y
bound (Ok x) f y is = record { x = x; is = refl; gives = is }
bound (Err left) f y is = cc (is)

-- a bind that fails fails first or then
unbound : {A B : Type 0} (r : Result A ℕ) (f : A → Result B ℕ) (left : ℕ) → r >>= f ≡ Err left
    → (r ≡ Err left) ⊎ ((x : A) × (r ≡ Ok x) × (f x ≡ Err left))
unbound (Ok x) f left is = inr (x, refl, is)
unbound (Err n) f left is = inl (let same : n ≡ left = cc (is) in ap Err same)

module _ (P : Written → Type 0) where
  abbrev pub Behind : List Pair → List ℕ → List ℕ → Type 0
  Behind pairs value behind =
      Timed (λ digits left.
      P (record {
        pairs = pairs;
        value = value;
        value_left = length value + length behind;
        digits = digits;
        time_left = left;
      })) behind

  abbrev pub OfPairs : List Pair → List ℕ → Type 0
  OfPairs pairs = Valued (Behind pairs)

  abbrev pub OfName : List ℕ → List ℕ → Type 0
  OfName name = WithLabels OfPairs (name_pair name ∷ [])

  behind_blank : (pairs : List Pair) (value : List ℕ) → BeginsBlank (Behind pairs value)
  behind_blank pairs value byte more solid t =
      timed_blank
      (λ digits left.
      P (record {
        pairs = pairs;
        value = value;
        value_left = length value + length (byte ∷ more);
        digits = digits;
        time_left = left;
      }))
      byte more solid t

  name_never : (name : List ℕ) → NeverBegins is_name_byte (OfName name)
  name_never name byte more passes (inl p) = let same : byte ≡ p.blank =
      cc (p.parts) in apart byte passes (ap is_blank same ∙ p.is)
  name_never name byte more passes (inr s) =
      spaced_never is_name_byte (Marked 123 _) apart (marked_never is_name_byte 123 _ refl) byte
      more passes s

  module _ (Able : Type 0) (holds : Able → (parts : Written) → P parts) where
    behind_goes : Able → (pairs : List Pair) (value : List ℕ) → (more : List ℕ)
        × Behind pairs value more
    behind_goes can pairs value = (
      [],
      inl (
        tt,
        holds can
            (record {
              pairs = pairs;
              value = value;
              value_left = length value + 0;
              digits = [];
              time_left = 0;
            }),
      ),
    )

    pairs_goes : Able → (pairs : List Pair) → (more : List ℕ) × OfPairs pairs more
    pairs_goes can pairs =
        valued_goes Able (Behind pairs) (behind_blank pairs) (λ able. behind_goes able pairs) can

    name_goes : Able → (name : List ℕ) → (more : List ℕ) × OfName name more
    name_goes can name =
        let g = pairs_goes can (name_pair name ∷ []) in (
          32 ∷ g.0,
          inl (record {
            blank = 32;
            rest = g.0;
            parts = refl;
            is = refl;
            then = spaced_now (OfPairs (name_pair name ∷ [])) g.0 g.1;
          }),
        )

    head_follows : (text : List ℕ)
        → Follows Able (Named OfName) (λ labels. OfPairs labels.0) pairs_rest text
        (name_reading text >>= (λ name. labels_reading (name_pair name.0 ∷ []) name.1))
    head_follows text =
        follows_then Able (Named OfName) (Of OfName) behind (λ labels. OfPairs labels.0) pairs_rest
        text (name_reading text) _
        (name_follows Able OfName name_never name_goes text)
        (λ name _.
        labels_follows Able OfPairs (λ pairs. valued_not_blank (Behind pairs)) pairs_goes
        (λ pairs. valued_not_brace (Behind pairs)) (name_pair name.0 ∷ []) name.1)

    -- where the front and the value of a row lead
    value_leads :
        (text : List ℕ) (labels : List Pair × List ℕ) (value : Result SampleText NumFault × ℕ)
        → head_reading text ≡ Ok labels → value_reading labels.1 ≡ Ok value
        → Leads (Named OfName) (Behind labels.0 (take value.1 labels.1)) text
        (drop value.1 labels.1)
    value_leads text labels value head is =
        leads_on
        (follows_ok Able (Named OfName) (λ labels. OfPairs labels.0) pairs_rest text
        (head_reading text) labels (head_follows text) head)
        (follows_ok Able (Valued (Behind labels.0))
        (OfValue Able (Behind labels.0) (behind_blank labels.0)
        (λ can. behind_goes can labels.0) labels.1)
        (value_rest Able (Behind labels.0) (behind_blank labels.0)
        (λ can. behind_goes can labels.0) labels.1)
        labels.1 (value_reading labels.1) value
        (value_follows Able (Behind labels.0) (behind_blank labels.0)
        (λ can. behind_goes can labels.0) labels.1) is)

  -- a row that is read is one of which P holds exactly where it holds of what was read
  pub record RowRead (text : List ℕ) (read : Result SampleText NumFault × Written) : Type 0 where
    pub number : read.0 ≡ sample_reading read.1.value
    pub into : P read.1 → Named OfName text
    pub out : Named OfName text → P read.1

  pub row_read : (text : List ℕ) (read : Result SampleText NumFault × Written)
      → parts_reading text ≡ Ok read → RowRead text read
  row_read text read is =
      let head = bound (head_reading text) tail_reading read (sym (head_tail text) ∙ is) in
      let labels = head.x in
      let value = bound (value_reading labels.1) _ read head.gives in
      let v = value.x in
      let time = bound (time_reading (drop v.1 labels.1)) _ read value.gives in
      let t = time.x in
      let n = value_is labels.1 v value.is in
      let leads = value_leads ⊥ (λ no. absurd no) text labels v head.is value.is in
      let rest = drop v.1 labels.1 in
      let solid : EndsAt is_solid rest =
      subst (λ k. EndsAt is_solid (drop k labels.1)) (sym n.0)
      (ends_passing is_solid labels.1) in
      let K : List ℕ → ℕ → Type 0 =
      λ digits left.
      P (record {
        pairs = labels.0;
        value = take v.1 labels.1;
        value_left = length (take v.1 labels.1) + length rest;
        digits = digits;
        time_left =
            left;
      }) in
      let reads = time_reads K rest t solid time.is in
      let len : length (take v.1 labels.1) + length rest ≡ length labels.1 =
      sym (length-append (take v.1 labels.1) rest)
      ∙ ap length (take-append-drop v.1 labels.1) in
      let same :
      ◌≡◌ {A = Result SampleText NumFault × Written} (
        v.0,
        record {
          pairs = labels.0;
          value = take v.1 labels.1;
          value_left = length labels.1;
          digits = t.0;
          time_left = t.1;
        },
      ) read = cc (time.gives) in
      subst (RowRead text) same (record {
        number = n.1 ∙ ap (λ k. sample_reading (take k labels.1)) (sym n.0);
        into = λ p.
            leads_in leads
            (reads.into
            (subst (λ k.
            P (record {
              pairs = labels.0;
              value = take v.1 labels.1;
              value_left = k;
              digits = t.0;
              time_left = t.1;
            })) (sym len) p));
        out = λ row.
            subst (λ k.
            P (record {
              pairs = labels.0;
              value = take v.1 labels.1;
              value_left = k;
              digits = t.0;
              time_left = t.1;
            })) len (reads.out (leads_out leads row));
      })

  module _ (holds : (parts : Written) → P parts) where
    -- where no row is read, the text leaves the grammar
    pub row_stops : (text : List ℕ) (left : ℕ) → parts_reading text ≡ Err left
        → Stops (Named OfName) text left
    row_stops text left is =
        ⊎_elim in_head behind_head
        (unbound (head_reading text) tail_reading left (sym (head_tail text) ∙ is))
      where
        every : Unit {0} → (parts : Written) → P parts
        every can parts = holds parts

        in_head : head_reading text ≡ Err left → Stops (Named OfName) text left
        in_head wrong =
            follows_err (Unit {0}) (Named OfName) (λ labels. OfPairs labels.0) pairs_rest text
            (head_reading text) left (head_follows (Unit {0}) every text) wrong tt

        behind_head : (labels : List Pair × List ℕ) × (head_reading text ≡ Ok labels)
            × (tail_reading labels ≡ Err left) → Stops (Named OfName) text left
        behind_head (labels, head, wrong) =
            let blank = behind_blank labels.0 in
            let goes : Unit {0} → (value : List ℕ) → (more : List ℕ) × Behind labels.0 value more =
            λ can. behind_goes (Unit {0}) every can labels.0 in
            let first =
            follows_ok (Unit {0}) (Named OfName) (λ labels. OfPairs labels.0) pairs_rest text
            (head_reading text) labels (head_follows (Unit {0}) every text) head in
            ⊎_elim
            (λ no_value.
            leads_stops first left
            (follows_err (Unit {0}) (Valued (Behind labels.0))
            (OfValue (Unit {0}) (Behind labels.0) blank goes labels.1)
            (value_rest (Unit {0}) (Behind labels.0) blank goes labels.1) labels.1
            (value_reading labels.1) left
            (value_follows (Unit {0}) (Behind labels.0) blank goes labels.1) no_value tt))
            (λ found. no_time labels head found)
            (unbound (value_reading labels.1) _ left wrong)
          where
            no_time : (labels : List Pair × List ℕ) → head_reading text ≡ Ok labels
                → (value : Result SampleText NumFault × ℕ) × (value_reading labels.1 ≡ Ok value)
                × ((time_reading (drop value.1 labels.1) >>= with_time labels value) ≡ Err left)
                → Stops (Named OfName) text left
            no_time labels head (value, is, wrong) =
                let n = value_is labels.1 value is in
                let rest = drop value.1 labels.1 in
                let solid : EndsAt is_solid rest =
                subst (λ k. EndsAt is_solid (drop k labels.1)) (sym n.0)
                (ends_passing is_solid labels.1) in
                ⊎_elim
                (λ stops.
                leads_stops (value_leads (Unit {0}) every text labels value head is) left
                (time_stops
                (λ behind digits t.
                P (record {
                  pairs = labels.0;
                  value = take value.1 labels.1;
                  value_left = length (take value.1 labels.1) + length behind;
                  digits = digits;
                  time_left = t;
                }))
                (λ behind digits t.
                holds (record {
                  pairs = labels.0;
                  value = take value.1 labels.1;
                  value_left = length (take value.1 labels.1) + length behind;
                  digits = digits;
                  time_left = t;
                }))
                rest left solid stops))
                (λ no. absurd (cc (no.2)))
                (unbound (time_reading rest) (with_time labels value) left wrong)
