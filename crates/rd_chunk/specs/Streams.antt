-- What a stream of bytes is, as far as it goes.
use Rattle.std.specs.Prelude.{ℕ, ◌≡◌, ◌%◌, ◌^◌, List, ◌++◌, length}
use Rattle.rd_chunk.specs.Frames.{Carried, Begun}
use Rattle.rd_chunk.specs.Faults.{IsPart, ChunkFault}
use Rattle.rd_chunk.specs.declared.fault.ChunkWhy.{ChunkWhy}
use Rattle.rd_chunk.specs.declared.fault.ChunkBad.{ChunkBad}

-- a prefix of the bytes is a chunk fault
pub record HasChunkFault (bytes : List ℕ) : Type 0 where
  pub prefix : List ℕ
  pub rest : List ℕ
  pub place : ℕ
  pub why : ChunkWhy
  pub bytes_are : bytes ≡ prefix ++ rest
  pub fault : ChunkFault prefix place why

-- the bytes carry these messages, and after them come whole frames of one that isn't complete, and a part of a frame:
-- either may be nothing
pub record IsStream (messages : List (List ℕ)) (bytes : List ℕ) : Type 0 where
  pub whole : List ℕ
  pub n : ℕ
  pub joined : List ℕ
  pub begun : List ℕ
  pub part : List ℕ
  pub are_whole : Carried messages whole
  pub are_begun : Begun n joined begun
  pub is_part : IsPart n (length joined) part
  pub bytes_are : bytes ≡ whole ++ begun ++ part

-- the returned fault is one of the bytes, with its place modulo 2^64
abbrev pub IsFaultOf : List ℕ → ChunkBad → Type 0
IsFaultOf bytes bad = (found : HasChunkFault bytes) × (bad.why ≡ found.why) × (bad.at ≡ found.place % 2 ^ 64)
