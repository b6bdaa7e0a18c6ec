-- What an index keeps of its label sets.
use Rattle.std.specs.Prelude.{◌≡◌, ℕ, List}
use Rattle.vm_labels.specs.declared.pair.Pair.{Pair}
use Rattle.vm_index.specs.declared.posting.Posting.{Posting}
use Rattle.vm_index.specs.Bytes.{postings_bytes, table_bytes}
use Rattle.vm_index.specs.Index.{AreSets, postings_of}

-- the label table, the postings and their bytes are those of the sets
pub record IsWhole (sets : List (List Pair)) (table : List ℕ) (postings : List Posting)
    (bytes : List ℕ) : Type 0 where
  pub labels : AreSets sets
  pub tabled : table ≡ table_bytes sets
  pub posted : postings ≡ postings_of sets
  pub spelled : bytes ≡ postings_bytes (postings_of sets)
