-- What a command works on outside the program.
use Rattle.std.specs.Prelude.{ℕ, List, Option}
use Rattle.rd_link.specs.Links.{Links}
use Rattle.rd_sharing.specs.ServedOpening.{FoldersTold}
pub use Rattle.rd_decode.specs.Streams.{FailedToWrite, HasOneFault, IsFaultless, Read, ReadToEnd, Stream, Wrote, stream}

-- an input, an output and a recording
pub record Outside (S K R : Type 0) : Type 0 where
  pub input : Stream S
  pub output : Stream K
  pub recording : Stream R

-- the outside, by what the traits tell of each
abbrev pub outside : {S K R : Type 0} → (S → Option (List ℕ)) → (S → ℕ) → (K → Option (List ℕ)) → (K → ℕ) → (R → Option (List ℕ)) → (R → ℕ) → S → K → R → Outside S K R
outside left input_faults held output_faults recorded recording_faults input output recording =
    record { input = stream left input_faults input; output = stream held output_faults output; recording = stream recorded recording_faults recording }

-- no fault was counted anywhere
pub record AreFaultless {S K R : Type 0} (before after : Outside S K R) : Type 0 where
  pub input : IsFaultless before.input after.input
  pub output : IsFaultless before.output after.output
  pub recording : IsFaultless before.recording after.recording

-- What gives the channels of a client or a host: itself, what it tells of them, where it can, and its counts of channels that couldn't be had, and of faults on channels; and the moment at which
-- requests run, where the clock tells one.
pub record Linked (L : Type 0) : Type 0 where
  pub itself : L
  pub links : Option Links
  pub failures : ℕ
  pub trouble : ℕ
  pub moment : Option ℕ

-- what gives the channels, by what its trait tells of it, with a clock's moment
abbrev pub linked_by : {L : Type 0} → (L → Option Links) → (L → ℕ) → (L → ℕ) → Option ℕ → L → Linked L
linked_by links failures trouble moment itself = record { itself = itself; links = links itself; failures = failures itself; trouble = trouble itself; moment = moment }

-- What opens the folders of a client's drives, and closes them: itself, the nodes that each opened folder had, where it tells them, and its counts of openings that failed, and of faults of closed
-- folders.
pub record Sharing (D : Type 0) : Type 0 where
  pub itself : D
  pub opened : FoldersTold
  pub failures : ℕ
  pub trouble : ℕ

-- what opens the folders, by what its trait tells of it
abbrev pub sharing_by : {D : Type 0} → (D → FoldersTold) → (D → ℕ) → (D → ℕ) → D → Sharing D
sharing_by opened failures trouble itself = record { itself = itself; opened = opened itself; failures = failures itself; trouble = trouble itself }
