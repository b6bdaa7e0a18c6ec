use Rattle.std.proofs.Common.{◌≡◌, ℕ, List, [], true, false, Bor, get_or, refl, sym, ◌∙◌}
use Rattle.std.specs.Str.{str_eq_ignore_ascii_case}
use Rattle.mql_lists.specs.declared.class.Class.{Class}
use Rattle.mql_lists.specs.declared.class.Class.TheVariants.{Identifier}
use Rattle.mql_lists.proofs.TextLaws.{row_at, rows_end}
use Rattle.mql_lists.proofs.class.reserved_class.Goals as goal

abbrev view : Bor (List ℕ) × Class → List ℕ × Class
view row = (row.0.now, row.1)

abbrev none : Bor (List ℕ) × Class
none = (record { ref_ptr = (0, 0); now = [] }, Identifier)

pub returns-then-is_word : goal.returns-then-is_word
returns-then-is_word c =
    let rows = c.args.rows.now in
    let i = c.loop-word.word-index in
    let is = str_eq_ignore_ascii_case c.args.name.now in
    let test : is (view (get_or rows i none)).0 ≡ true = sym c.is_word.ensures
    ∙ c.if-is_word.true in
    λ other.
    sym (c.loop-word.invariant other ∙ row_at view rows i none is other c.loop-word-test.true
    ∙ rw test refl)

pub loop-word-preserved : goal.loop-word-preserved
loop-word-preserved c =
    let rows = c.args.rows.now in
    let i = c.loop-word.word-index in
    let is = str_eq_ignore_ascii_case c.args.name.now in
    let test : is (view (get_or rows i none)).0 ≡ false = sym c.is_word.ensures
    ∙ c.if-is_word.false in
    λ other. c.loop-word.invariant other ∙ row_at view rows i none is other c.loop-word-test.true
    ∙ rw test refl

pub returns : goal.returns
returns c =
    λ other. sym (c.loop-word.invariant other
    ∙ rows_end view c.args.rows.now c.loop-word.word-index
    (str_eq_ignore_ascii_case c.args.name.now) other c.loop-word-test.false)
