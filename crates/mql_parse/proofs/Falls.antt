-- Where a word means the same to a state as to another.
use Rattle.std.specs.Prelude.{◌≡◌, ℕ, List, [], ◌∷◌, Bool, false, Some, None}
use Rattle.std.proofs.Common.{refl}
use Rattle.mql_lex.specs.declared.group.Many.{Many}
use Rattle.mql_lex.specs.declared.group.Many.TheVariants.{One}
use Rattle.mql_lex.specs.declared.group.MatchKind.{MatchKind}
use Rattle.mql_lex.specs.declared.group.MatchKind.TheVariants.{All}
use Rattle.mql_lex.specs.declared.span.Span.{Span}
use Rattle.mql_expr.specs.Tree.{Tree, ranged}
use Rattle.mql_lists.specs.Words.{Word}
use Rattle.mql_lists.specs.declared.class.Class.{Class}
use Rattle.mql_parse.specs.Grammar.{matching}
use Rattle.mql_parse.specs.Machine.{Frame, in_operator, Call, Head, Joint, Scope, calling, metric, go_on, by_primary, by_window, by_regrouped, by_called, by_named, by_operated, by_compared, by_matched, by_many, by_wanted, by_template_named, by_template_headed}

abbrev pub Not : Class → Class → Type 0
Not c d = c ≡ d → ⊥

module _ (fs : List Frame) where
  pub primary_falls : (t : Tree) (here : ℕ) (c : Class) → Not c Class.OpenSquare
      → Not c Class.Offset → by_primary fs t here c ≡ go_on fs t here c
  primary_falls t here Class.OpenSquare isnt _ = absurd (isnt refl)
  primary_falls t here Class.Offset _ isnt = absurd (isnt refl)
  primary_falls t here _ _ _ = refl

  pub window_falls : (place : ℕ) (t : Tree) (span : Span) (here : ℕ) (c : Class)
      → Not c Class.Offset
      → by_window fs place t span here c ≡ go_on fs (ranged place t (Some span) None) here c
  window_falls place t span here Class.Offset isnt = absurd (isnt refl)
  window_falls place t span here _ isnt = refl

  pub regrouped_falls : (x : Call) (here : ℕ) (c : Class) → Not c Class.Keep
      → by_regrouped fs x here c ≡ by_primary fs (calling x false) here c
  regrouped_falls x here Class.Keep isnt = absurd (isnt refl)
  regrouped_falls x here _ isnt = refl

  pub called_falls : (x : Call) (here : ℕ) (c : Class)
      → ((by_word : Bool) → Not c (Class.Grouping by_word))
      → by_called fs x here c ≡ by_regrouped fs x here c
  called_falls x here (Class.Grouping by_word) isnt = absurd (isnt by_word refl)
  called_falls x here _ isnt = refl

  pub named_falls : (len : ℕ) (h : Head) (here : ℕ) (c : Class) → Not c Class.OpenRound
      → Not c Class.OpenCurly → ((by_word : Bool) → Not c (Class.Grouping by_word))
      → by_named len fs h here c ≡ by_primary fs (metric h) here c
  named_falls len h here Class.OpenRound isnt _ _ = absurd (isnt refl)
  named_falls len h here Class.OpenCurly _ isnt _ = absurd (isnt refl)
  named_falls len h here (Class.Grouping by_word) _ _ isnt = absurd (isnt by_word refl)
  named_falls len h here _ _ _ _ = refl

  pub operated_falls : (len : ℕ) (j : Joint) (w : Word) (c : Class) → Not c Class.Truth
      → by_operated len fs j w c ≡ by_compared len fs j w c
  operated_falls len j w Class.Truth isnt = absurd (isnt refl)
  operated_falls len j w _ isnt = refl

  pub compared_falls : (len : ℕ) (j : Joint) (w : Word) (c : Class)
      → ((kind : MatchKind) → Not c (Class.Pairing kind))
      → by_compared len fs j w c ≡ by_wanted len (in_operator j (matching All [] One []) ∷ fs) w c
  compared_falls len j w (Class.Pairing kind) isnt = absurd (isnt kind refl)
  compared_falls len j w _ isnt = refl

  pub matched_falls :
      (len : ℕ) (j : Joint) (kind : MatchKind) (names : List (List ℕ)) (w : Word) (c : Class)
      → ((side : Many) → Not c (Class.Joining side))
      → by_matched len fs j kind names w c
      ≡ by_wanted len (in_operator j (matching kind names One []) ∷ fs) w c
  matched_falls len j kind names w (Class.Joining side) isnt = absurd (isnt side refl)
  matched_falls len j kind names w _ isnt = refl

  pub many_falls :
      (len : ℕ) (j : Joint) (kind : MatchKind) (names : List (List ℕ)) (side : Many) (w : Word)
      (c : Class) → Not c Class.OpenRound
      → by_many len fs j kind names side w c
      ≡ by_wanted len (in_operator j (matching kind names side []) ∷ fs) w c
  many_falls len j kind names side w Class.OpenRound isnt = absurd (isnt refl)
  many_falls len j kind names side w _ isnt = refl

  pub template_falls : (s : Scope) (h : Head) (c : Class) → Not c Class.OpenRound
      → by_template_named fs s h c ≡ by_template_headed fs s h [] c
  template_falls s h Class.OpenRound isnt = absurd (isnt refl)
  template_falls s h _ isnt = refl
