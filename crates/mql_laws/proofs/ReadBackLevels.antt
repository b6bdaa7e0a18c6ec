-- How closely a tree binds, and what is read of it as an operand.
use Rattle.std.specs.Prelude.{◌≡◌, ℕ, zero, suc, ◌+◌, ◌-◌, ◌<◌, ◌≤◌, nat_lt, Bool, true, false, List, [], ◌∷◌, ◌++◌, codes, if◌then◌else◌}
use Rattle.std.proofs.Common.{refl, subst, arith}
use Rattle.std.proofs.lemmas.Bool.Decides.{nat_tests}
use Rattle.mql_lex.specs.declared.operator.Op.{Op}
use Rattle.mql_lex.specs.declared.operator.Op.TheVariants.{Default}
use Rattle.mql_lex.specs.declared.token.TokenKind.TheVariants.{Mark}
use Rattle.mql_expr.specs.Canonical.{mark, operand, pieces}
use Rattle.mql_expr.specs.Levels.{level_of, level_of_op}
use Rattle.mql_expr.specs.Tree.{Tree, number, string, select, ranged, call, binary, negate, with_templates}
use Rattle.mql_lists.specs.Words.{Word}
use Rattle.mql_parse.specs.Grammar.{Reads, looser, a_primary, Primary, in_brackets}
use Rattle.mql_laws.specs.ReadBack.{Same}
use Rattle.mql_laws.proofs.ReadBackItems.{PrimaryRead}
use Rattle.mql_laws.proofs.ReadBackWords.{Stand, no_piece, a_word, word_at, split, is_open, is_close}
use Rattle.mql_laws.proofs.ReadBackRanges.{outside}

-- ---- what is read of a tree

-- what is read of a tree's own words: how far it reaches and how closely it binds
abbrev pub Own : Tree → (n : ℕ) → List Word → List Word → Tree → Type 0
Own (with_templates at ts body) n ws rest u = Reads 0 n 9 true ws rest u
Own (binary at op truth m left right) n ws rest u = Reads 0 n (level_of_op op) false ws rest u
Own (negate at inner) n ws rest u = Reads 0 n 8 false ws rest u
Own (ranged at inner window offset) n ws rest u = Reads 0 n 9 false ws rest u
Own _ n ws rest u = Primary 0 n ws rest u

pub record TreeRead (t : Tree) (ws rest : List Word) : Type 0 where
  pub tree : Tree
  pub same : Same tree t
  pub reads : (n : ℕ) → Own t n ws rest tree

abbrev pub Back : Tree → Type 0
Back t = (ws rest : List Word) → Stand (pieces t) ws rest → TreeRead t ws rest

from_primary : (k l n : ℕ) (ws rest : List Word) (u : Tree) → l + k ≡ 9 → Primary 0 n ws rest u
    → Reads 0 n l false ws rest u
from_primary zero l n ws rest u is reads =
    subst (λ m. Reads 0 n m false ws rest u) (omega arith) (a_primary reads)
from_primary (suc k) l n ws rest u is reads =
    looser (from_primary k (suc l) n ws rest u (omega arith) reads)

loosened : (k l m n : ℕ) (o : Bool) (ws rest : List Word) (u : Tree) → l + k ≡ m
    → Reads 0 n m o ws rest u → Reads 0 n l o ws rest u
loosened zero l m n o ws rest u is reads = subst (λ j. Reads 0 n j o ws rest u) (omega arith) reads
loosened (suc k) l m n o ws rest u is reads =
    looser (loosened k (suc l) m n o ws rest u (omega arith) reads)

-- at any level that the tree binds as closely as
at_level : (t : Tree) (least n : ℕ) (ws rest : List Word) (u : Tree) → least ≤ 9 → 0 < least
    → nat_lt (level_of t) least ≡ false → Own t n ws rest u
    → Reads 0 n least false ws rest u
at_level (number at z) least n ws rest u low some as_close own =
    from_primary (9 - least) least n ws rest u (omega arith) own
at_level (string at text) least n ws rest u low some as_close own =
    from_primary (9 - least) least n ws rest u (omega arith) own
at_level (select at name lists) least n ws rest u low some as_close own =
    from_primary (9 - least) least n ws rest u (omega arith) own
at_level (call at name args before after keep) least n ws rest u low some as_close own =
    from_primary (9 - least) least n ws rest u (omega arith) own
at_level (ranged at inner window offset) least n ws rest u low some as_close own =
    loosened (9 - least) least 9 n false ws rest u (omega arith) own
at_level (negate at inner) least n ws rest u low some as_close own =
    let closer : least ≤ 8 = grind (arith, nat_tests) in
    loosened (8 - least) least 8 n false ws rest u (omega arith) own
at_level (binary at op truth m left right) least n ws rest u low some as_close own =
    let level = level_of_op op in
    let closer : least ≤ level = grind (arith, nat_tests) in
    loosened (level - least) least level n false ws rest u (omega arith) own
at_level (with_templates at ts body) least n ws rest u low some as_close own =
    absurd (grind (arith, nat_tests))

-- at the loosest level, with or without the body of a WITH at the end
pub record AnyRead (n : ℕ) (ws rest : List Word) (u : Tree) : Type 0 where
  pub open_end : Bool
  pub reads : Reads 0 n 0 open_end ws rest u

pub few_levels : (op : Op) → level_of_op op ≤ 8
few_levels Default = omega arith
few_levels _ = omega arith

pub some_level : (op : Op) → 0 < level_of_op op
some_level Default = omega arith
some_level _ = omega arith

pub at_any : (t : Tree) (n : ℕ) (ws rest : List Word) (u : Tree) → Own t n ws rest u
    → AnyRead n ws rest u
at_any (number at z) n ws rest u own =
    record { open_end = false; reads = from_primary 9 0 n ws rest u refl own }
at_any (string at text) n ws rest u own =
    record { open_end = false; reads = from_primary 9 0 n ws rest u refl own }
at_any (select at name lists) n ws rest u own =
    record { open_end = false; reads = from_primary 9 0 n ws rest u refl own }
at_any (call at name args before after keep) n ws rest u own =
    record { open_end = false; reads = from_primary 9 0 n ws rest u refl own }
at_any (ranged at inner window offset) n ws rest u own =
    record { open_end = false; reads = loosened 9 0 9 n false ws rest u refl own }
at_any (negate at inner) n ws rest u own =
    record { open_end = false; reads = loosened 8 0 8 n false ws rest u refl own }
at_any (binary at op truth m left right) n ws rest u own =
    record {
      open_end = false;
      reads = loosened (level_of_op op) 0 (level_of_op op) n false ws rest u (omega arith) own;
    }
at_any (with_templates at ts body) n ws rest u own =
    record { open_end = true; reads = loosened 9 0 9 n true ws rest u refl own }

-- where it is no operator, no sign and no WITH, and has no window
as_primary : (t : Tree) (n : ℕ) (ws rest : List Word) (u : Tree) → nat_lt (level_of t) 10 ≡ false
    → Own t n ws rest u → Primary 0 n ws rest u
as_primary (number at z) n ws rest u as_close own = own
as_primary (string at text) n ws rest u as_close own = own
as_primary (select at name lists) n ws rest u as_close own = own
as_primary (call at name args before after keep) n ws rest u as_close own = own
as_primary (ranged at inner window offset) n ws rest u as_close own = absurd (cc as_close)
as_primary (negate at inner) n ws rest u as_close own = absurd (cc as_close)
as_primary (binary at op truth m left right) n ws rest u as_close own =
    let low : level_of_op op ≤ 8 = few_levels op in
    let below : nat_lt (level_of_op op) 10 ≡ true = grind (arith, nat_tests) in
    absurd (cc (below, as_close))
as_primary (with_templates at ts body) n ws rest u as_close own = absurd (cc as_close)

-- ---- operands

rounds_end : (t : Tree) (at : ℕ) (more mid rest : List Word) → TreeRead t more mid
    → Stand (mark (codes ")") ∷ []) mid rest
    → PrimaryRead t (word_at at Mark (codes "(") ∷ more) rest
rounds_end t at more mid rest r (a_word end no_piece) = record {
  tree = r.tree;
  same = r.same;
  reads = λ n.
      in_brackets (word_at at Mark (codes "(")) (word_at end Mark (codes ")")) (is_open at)
      (outside at)
      (at_any t (suc n) more (word_at end Mark (codes ")") ∷ rest) r.tree (r.reads (suc n))).reads
      (is_close end);
}

-- in parentheses
in_rounds : (t : Tree) → Back t → (ws rest : List Word)
    → Stand (mark (codes "(") ∷ (pieces t ++ mark (codes ")") ∷ [])) ws rest → PrimaryRead t ws rest
in_rounds t inside ws rest (a_word {ws = more} at all) =
    let s = split (pieces t) (mark (codes ")") ∷ []) more rest all in
    rounds_end t at more s.mid rest (inside more s.mid s.front) s.behind

pub record LevelRead (t : Tree) (level : ℕ) (ws rest : List Word) : Type 0 where
  pub tree : Tree
  pub same : Same tree t
  pub reads : (n : ℕ) → Reads 0 n level false ws rest tree

module _ (t : Tree) (inside : Back t) where
  pub operand_back : (least : ℕ) → least ≤ 9 → 0 < least → (ws rest : List Word)
      → Stand (operand least (level_of t) (pieces t)) ws rest → LevelRead t least ws rest
  operand_back least low some ws rest all = go (nat_lt (level_of t) least) refl all
    where
      go : (b : Bool) → nat_lt (level_of t) least ≡ b
          → Stand (if b then mark (codes "(") ∷ pieces t ++ mark (codes ")") ∷ [] else pieces t) ws
          rest
          → LevelRead t least ws rest
      go true is stands =
          let r = in_rounds t inside ws rest stands in
          record {
            tree = r.tree;
            same = r.same;
            reads = λ n.
                from_primary (9 - least) least n ws rest r.tree (omega arith) (r.reads n);
          }
      go false is stands =
          let r = inside ws rest stands in
          record {
            tree = r.tree;
            same = r.same;
            reads = λ n. at_level t least n ws rest r.tree low some is (r.reads n);
          }

  pub primary_back : (ws rest : List Word) → Stand (operand 10 (level_of t) (pieces t)) ws rest
      → PrimaryRead t ws rest
  primary_back ws rest all = go (nat_lt (level_of t) 10) refl all
    where
      go : (b : Bool) → nat_lt (level_of t) 10 ≡ b
          → Stand (if b then mark (codes "(") ∷ pieces t ++ mark (codes ")") ∷ [] else pieces t) ws
          rest
          → PrimaryRead t ws rest
      go true is stands = in_rounds t inside ws rest stands
      go false is stands =
          let r = inside ws rest stands in
          record {
            tree = r.tree;
            same = r.same;
            reads = λ n. as_primary t n ws rest r.tree is (r.reads n);
          }
