-- The bytes that are written of a block.
use Rattle.std.specs.Prelude.{◌≡◌, ℕ, List, ◌++◌}
use Rattle.vm_base.specs.declared.stamped.Stamped.{Stamped}
use Rattle.vm_codec.specs.Coding.{chosen}
use Rattle.vm_block.specs.Block.{IsBlock, times_of}
use Rattle.vm_block.specs.Header.{header_bytes}
use Rattle.vm_block.specs.declared.header.BlockHeader.{BlockHeader}

-- a header and a body are the block of these samples, and its columns have the codings that their
-- values get
pub record IsWritten (bytes : List ℕ) (samples : List Stamped) : Type 0 where
  pub header : BlockHeader
  pub body : List ℕ
  pub parts : bytes ≡ header_bytes header ++ body
  pub block : IsBlock header body samples
  pub times : header.times ≡ chosen (times_of samples)
  pub values : header.values ≡ chosen block.mantissas
