-- What a session writes of its recording while it goes on, in pieces, and what was written where a write fails.
use Rattle.std.specs.Prelude.{◌≡◌, ℕ, Bool, List, ◌++◌, Option, Some, Result, Ok, Err}
use Rattle.std.specs.Io.KnownBytes.{Appends}
use Rattle.rd_base.specs.declared.journal.Key.{Key}
use Rattle.rd_base.specs.Faults.{one_more}
use Rattle.rd_base.specs.Prefixes.{AppendsPrefix}
use Rattle.rd_script.specs.declared.line.NumberedLine.{NumberedLine}
use Rattle.rd_world.specs.declared.event.StepNo.{StepNo}
use Rattle.rd_world.specs.declared.event.StepNo.TheVariants as no
use Rattle.rd_declared.specs.Marks.{AreLonger, MarksAgree}
use Rattle.rd_world.specs.Recording.{recording_of_deeds}
use Rattle.rd_world.specs.Run.{Most, run_of}
use Rattle.rd_world.specs.World.{WorldState, journals_in, marks_of}

-- Only a write that fails, or want of memory, ends a session early: that write counts one fault, and nothing else counts any.
abbrev pub CountsWire : {T : Type 0} → Result T StepNo → ℕ → ℕ → Type 0
CountsWire (Ok done) old new = new ≡ old
CountsWire (Err no.Wire) old new = new ≡ one_more old
CountsWire (Err no.Memory) old new = new ≡ old
CountsWire (Err (no.Disabled e)) old new = ⊥

-- A session went on from one world to another: a recorder got what its recording got.
abbrev pub StaysRecorded : WorldState → List ℕ → WorldState → List ℕ → Type 0
StaysRecorded w old x new = (more : List ℕ) × (recording_of_deeds x.deeds ≡ recording_of_deeds w.deeds ++ more) × (new ≡ old ++ more)

-- The same where some of what the recorder held and got was written: the sink has it, and the recorder the rest.
pub record Records (start held : Option (List ℕ)) (w : WorldState) (old : List ℕ) (x : WorldState) (new : List ℕ) : Type 0 where
  pub more : List ℕ
  pub written : List ℕ
  pub recorded : recording_of_deeds x.deeds ≡ recording_of_deeds w.deeds ++ more
  pub parts : written ++ new ≡ old ++ more
  pub appended : Appends start held written

-- the recording of a later world goes on from that of an earlier one
abbrev pub RecordsOn : WorldState → WorldState → Type 0
RecordsOn w x = (more : List ℕ) × (recording_of_deeds x.deeds ≡ recording_of_deeds w.deeds ++ more)

-- Whatever this comes to, if the runs so far found no memory just where these journals say so, it goes on from this world.
abbrev pub IsPassed : ((Key → Bool) → Most → Option WorldState) → WorldState → Type 0
IsPassed f x = (starves : Key → Bool) (most : Most) (w : WorldState) → MarksAgree starves (journals_in x) → f starves most ≡ Some w → RecordsOn x w

-- the runs of a world found no memory of which its journals say so, and no others
abbrev pub MarksOwnRuns : WorldState → Type 0
MarksOwnRuns w = MarksAgree (marks_of w) (journals_in w)

-- A session stopped when it had come from one world to another: a prefix of what the recorder held and got was written.
pub record Breaks (start held : Option (List ℕ)) (w : WorldState) (old : List ℕ) (x : WorldState) : Type 0 where
  pub more : List ℕ
  pub recorded : recording_of_deeds x.deeds ≡ recording_of_deeds w.deeds ++ more
  pub prefix : AppendsPrefix start held (old ++ more)

-- It stopped in the midst of this: the last world that is known is this one.
pub record IsCut (start held : Option (List ℕ)) (w : WorldState) (old : List ℕ) (f : (Key → Bool) → Most → Option WorldState) (x : WorldState) : Type 0 where
  pub breaks : Breaks start held w old x
  pub longer : AreLonger (journals_in w) (journals_in x)
  pub marked : MarksOwnRuns x
  pub passed : IsPassed f x

-- The session of a script's lines stopped early, and the last world that is known is this one: a prefix of what was recorded by then was written, and
-- wherever that session ends, if the runs so far found no memory of which the journals say so, its recording goes on from there.
pub record IsCutRun (start held : Option (List ℕ)) (lines : List NumberedLine) (x : WorldState) : Type 0 where
  pub prefix : AppendsPrefix start held (recording_of_deeds x.deeds)
  pub marked : MarksOwnRuns x
  pub passed : IsPassed (λ starves most. run_of most starves lines) x
