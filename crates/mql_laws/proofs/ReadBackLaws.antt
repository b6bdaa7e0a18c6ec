-- What is printed is read back.
use Rattle.std.specs.Prelude.{List, []}
use Rattle.vm_base.proofs.RunLaws.{none_wrong}
use Rattle.mql_expr.specs.Canonical.{canonical, pieces}
use Rattle.mql_laws.specs.Lexed.{IsPrinted}
use Rattle.mql_expr.specs.Tree.{Tree}
use Rattle.mql_laws.proofs.PrintedWords.{prints_its_words}
use Rattle.mql_lists.specs.Words.{Word, words_of}
use Rattle.mql_parse.specs.Grammar.{IsAnyExpr}
use Rattle.mql_laws.specs.ReadBack.{IsSaid, ReadsBack, PrintedIsRead, SaidIsRead}
use Rattle.mql_laws.proofs.ReadBackFits.{words_fit}
use Rattle.mql_laws.proofs.ReadBackLimits.{no_number_beyond, spells_free}
use Rattle.mql_laws.proofs.ReadBackSaid.{text_is_said}
use Rattle.mql_laws.proofs.ReadBackTrees.{words_back}
use Rattle.mql_laws.proofs.ReadBackWords.{Stand, stands}
use Rattle.mql_parse.proofs.ReadingLaws.{one_tree}

reads_back : (t : Tree) → IsPrinted t → IsSaid t → (words : List Word) → Stand (pieces t) words []
    → ReadsBack t words
reads_back t is said words all =
    let found = words_back t is said words all in
    record {
      tree = found.tree;
      same = found.same;
      spells = found.spells;
      only = λ len u spells.
          one_tree 0 words u found.tree (spells_free len words u spells) found.spells;
      expected =
          λ len at wrong.
          none_wrong IsAnyExpr words wrong.index (found.tree, found.spells) wrong.without_limits;
      fits = λ len at beyond. no_number_beyond words (words_fit t is said words all) len at beyond;
    }

pub said_is_read : SaidIsRead
said_is_read t is said =
    let printed = prints_its_words t is in
    let tokens = printed.0 in (
      tokens,
      printed.1.tokens_are,
      reads_back t is said (words_of (canonical t) tokens)
          (stands (canonical t) (pieces t) tokens printed.1.words_are),
    )

pub printed_is_read : PrintedIsRead
printed_is_read text tokens t are spells = let all =
    text_is_said text tokens t are spells in said_is_read t all.0 all.1
