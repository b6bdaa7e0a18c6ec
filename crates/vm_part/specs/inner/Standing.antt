-- Blocks that stand in bytes.
use Rattle.std.specs.Prelude.{◌≡◌, ℕ, ◌≤◌, List, ◌++◌, length, drop}
use Rattle.std.specs.List.{AllByRecursion}
use Rattle.vm_block.specs.Header.{IsHeader, header_bytes}
use Rattle.vm_block.specs.declared.header.BlockHeader.{BlockHeader}
use Rattle.vm_part.specs.Part.{Block, SaysSamples, block_bytes, blocks_bytes}
use Rattle.vm_part.specs.declared.entry.Entry.{Entry}

-- the bytes are a header
pub record AreHeader (bytes : List ℕ) : Type 0 where
  pub header : BlockHeader
  pub is : IsHeader header
  pub spelled : header_bytes header ≡ bytes

-- a block stands at the front, before more bytes
pub record BeginsWith (bytes : List ℕ) (b : Block) (more : List ℕ) : Type 0 where
  pub block : SaysSamples b
  pub spelled : bytes ≡ block_bytes b ++ more

-- some block stands at the front
pub record HasBlock (bytes : List ℕ) : Type 0 where
  pub first : Block
  pub more : List ℕ
  pub begins : BeginsWith bytes first more

-- these blocks stand at the front
pub record BeginsWithAll (bytes : List ℕ) (blocks : List Block) : Type 0 where
  pub more : List ℕ
  pub spelled : bytes ≡ blocks_bytes blocks ++ more
  pub say : AllByRecursion SaysSamples blocks

-- as many blocks as an entry says stand at its place
pub record StandAt (bytes : List ℕ) (entry : Entry) (blocks : List Block) : Type 0 where
  pub within : entry.start ≤ length bytes
  pub many : length blocks ≡ entry.blocks
  pub begun : BeginsWithAll (drop entry.start bytes) blocks

-- some do
pub record HasBlocks (bytes : List ℕ) (entry : Entry) : Type 0 where
  pub found : List Block
  pub stand : StandAt bytes entry found
