-- A script is read in one way: either all its lines are commands, or one line is the first that is
-- none.
use Rattle.std.proofs.Common.{◌≡◌, ℕ, ◌+◌, List, [], ◌∷◌, ◌++◌, append_assoc, codes, Some, true, false, sym, ap, ◌∙◌, subst}
use Rattle.std.specs.List.{AllByRecursion}
use Rattle.vm_script.specs.Command.{command_of, is_body_end}
use Rattle.vm_script.specs.declared.command.Command.{Command}
use Rattle.vm_script.specs.declared.command.Command.TheVariants.{Import, Query, Run, End, Close}
use Rattle.vm_top.specs.Script.{Entry, IsEntry, AreWithin, HasBody, IsCutOff, IsScript, IsBadAt, entry_lines, lines_after, script_lines}

pub head_same : {A : Type 0} (x y : A) (xs ys : List A) → x ∷ xs ≡ y ∷ ys → x ≡ y
head_same x y xs ys same = cc

pub tail_same : {A : Type 0} (x y : A) (xs ys : List A) → x ∷ xs ≡ y ∷ ys → xs ≡ ys
tail_same x y xs ys same = cc

pub some_same : {A : Type 0} (x y : A) → Some x ≡ Some y → x ≡ y
some_same x y same = cc

-- after two bodies the same lines are left
first_end : (xs ys r s : List (List ℕ)) → AreWithin xs → AreWithin ys → xs ++ codes "." ∷ r ≡ ys
    ++ codes "." ∷ s → r ≡ s
first_end [] [] r s in_x in_y same = tail_same (codes ".") (codes ".") r s same
first_end [] (y ∷ ys) r s in_x in_y same =
    let end : is_body_end y ≡ true =
    ap is_body_end (sym (head_same (codes ".") y r (ys ++ codes "." ∷ s) same)) in
    absurd (let no : true ≡ false = sym end ∙ in_y.0 in cc)
first_end (x ∷ xs) [] r s in_x in_y same =
    let end : is_body_end x ≡ true =
    ap is_body_end (head_same x (codes ".") (xs ++ codes "." ∷ r) s same) in
    absurd (let no : true ≡ false = sym end ∙ in_x.0 in cc)
first_end (x ∷ xs) (y ∷ ys) r s in_x in_y same =
    first_end xs ys r s in_x.1 in_y.1
    (tail_same x y (xs ++ codes "." ∷ r) (ys ++ codes "." ∷ s) same)

-- a body that ends isn't cut off
has_end : (xs r : List (List ℕ)) → AreWithin (xs ++ codes "." ∷ r) → ⊥
has_end [] r within = let no : true ≡ false = within.0 in cc
has_end (x ∷ xs) r within = has_end xs r within.1

-- the lines after two bodies of one command
after_same : (command : Command) (b d r s : List (List ℕ)) → HasBody command b → HasBody command d
    → lines_after command b ++ r ≡ lines_after command d ++ s → r ≡ s
after_same (Import format now) b d r s has_b has_d same =
    first_end b d r s has_b has_d
    (sym (append_assoc b (codes "." ∷ []) r) ∙ same ∙ append_assoc d (codes "." ∷ []) s)
after_same (Query run time expression) b d r s has_b has_d same = same
after_same (Run run) b d r s has_b has_d same = same
after_same (End run) b d r s has_b has_d same = same
after_same (Close run) b d r s has_b has_d same = same

-- two commands at the front of the same lines leave the same lines
pub entry_same : (e f : Entry) (r s : List (List ℕ)) → IsEntry e → IsEntry f → entry_lines e
    ++ r ≡ entry_lines f ++ s → r ≡ s
entry_same e f r s is_e is_f same =
    let line =
    head_same e.line f.line (lines_after e.command e.body ++ r)
    (lines_after f.command f.body ++ s) same in
    let command = some_same e.command f.command (sym is_e.says ∙ ap command_of line ∙ is_f.says) in
    after_same f.command e.body f.body r s (subst (λ c. HasBody c e.body) command is_e.body)
    is_f.body
    (ap (λ c. lines_after c e.body ++ r) (sym command)
    ∙ tail_same e.line f.line (lines_after e.command e.body ++ r)
    (lines_after f.command f.body ++ s) same)

-- a command isn't cut off whose body ends
pub not_cut : (command : Command) (body r : List (List ℕ))
    → IsCutOff (Some command) (lines_after command body ++ r) → ⊥
not_cut (Import format now) body r cut =
    has_end body r (subst AreWithin (append_assoc body (codes "." ∷ []) r) cut)
not_cut (Query run time expression) body r cut = cut
not_cut (Run run) body r cut = cut
not_cut (End run) body r cut = cut
not_cut (Close run) body r cut = cut

-- where all lines are commands, none is bad
never_bad : (es fs : List Entry) (line : List ℕ) (more : List (List ℕ)) → AllByRecursion IsEntry es
    → AllByRecursion IsEntry fs
    → script_lines es ≡ script_lines fs ++ line ∷ more → IsCutOff (command_of line) more → ⊥
never_bad [] [] line more are_e are_f same cut = cc
never_bad [] (f ∷ fs) line more are_e are_f same cut = cc
never_bad (e ∷ es) [] line more are_e are_f same cut =
    let first = head_same e.line line (lines_after e.command e.body ++ script_lines es) more same in
    let rest = tail_same e.line line (lines_after e.command e.body ++ script_lines es) more same in
    let command = ap command_of (sym first) ∙ are_e.0.says in
    not_cut e.command e.body (script_lines es)
    (subst (λ lines. IsCutOff (Some e.command) lines) (sym rest)
    (subst (λ c. IsCutOff c more) command cut))
never_bad (e ∷ es) (f ∷ fs) line more are_e are_f same cut =
    never_bad es fs line more are_e.1 are_f.1
    (entry_same e f (script_lines es) (script_lines fs ++ line ∷ more) are_e.0 are_f.0
    (same ∙ append_assoc (entry_lines f) (script_lines fs) (line ∷ more))) cut

pub no_bad_line : (lines : List (List ℕ)) (entries : List Entry) (number : ℕ)
    → IsScript lines entries → IsBadAt number lines → ⊥
no_bad_line lines entries number script bad =
    never_bad entries bad.0 bad.1.line bad.1.more script.are bad.1.are
    (sym script.lines_are ∙ bad.1.lines_are) bad.1.broken
