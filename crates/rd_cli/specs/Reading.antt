-- The reading of a script from an input.
use Rattle.std.specs.Prelude.{◌≡◌, ℕ, ◌≤◌, List, length, Option, Some, Ok, Err}
use Rattle.std.specs.Io.KnownBytes.{IsAtEnd}
use Rattle.rd_script.specs.declared.keyword.Mode.{Mode}
use Rattle.rd_script.specs.declared.script.Script.{Script}
use Rattle.rd_script.specs.Script.{BadLine, max_bytes, script_of}
use Rattle.rd_cli.specs.Outside.{HasOneFault, IsFaultless, Read, ReadToEnd, Stream}
use Rattle.rd_cli.specs.declared.stop.Stop.{Stop}
use Rattle.rd_cli.specs.declared.stop.Stop.TheVariants as stop

-- This text was read. It is all of the input, unless it is longer than a script may be.
pub record HasRead {S : Type 0} (before after : Stream S) (text : List ℕ) : Type 0 where
  pub read : Read before after text
  pub whole : length text ≤ max_bytes → IsAtEnd after.bytes

-- The input was read to its end and is a script of this mode.
pub record ReadsScript {S : Type 0} (m : Mode) (before after : Stream S) (script : Script) : Type 0 where
  pub text : List ℕ
  pub read : ReadToEnd before after text
  pub script_is : script_of m text ≡ Ok script

-- The input was read to its end: it is this text, which is a script of this mode.
pub record ReadsText {S : Type 0} (m : Mode) (before after : Stream S) (text : List ℕ) (script : Script) : Type 0 where
  pub read : ReadToEnd before after text
  pub script_is : script_of m text ≡ Ok script

-- This line of what was read is the first that is refused in this mode, for this reason.
abbrev pub ReadsBadLine : {S : Type 0} → Mode → (before after : Stream S) → BadLine → Type 0
ReadsBadLine m before after bad = (text : List ℕ) × HasRead before after text × (script_of m text ≡ Err bad)

-- What the input has left can be told and is a script of this mode.
abbrev pub GivesScript : Mode → Option (List ℕ) → Type 0
GivesScript m left = (text : List ℕ) × (script : Script) × (left ≡ Some text) × (script_of m text ≡ Ok script)

-- What the input has left can be told, and this is the first line of it that is refused in this mode, and why.
abbrev pub GivesBadLine : Mode → Option (List ℕ) → BadLine → Type 0
GivesBadLine m left bad = (text : List ℕ) × (left ≡ Some text) × (script_of m text ≡ Err bad)

-- a stop of the reading of an input: for its first fault, or for want of memory
abbrev pub StopsForInput : {S : Type 0} → (before after : Stream S) → Stop → Type 0
StopsForInput before after stop.Input = HasOneFault before after
StopsForInput before after stop.Memory = IsFaultless before after
StopsForInput before after _ = ⊥

-- a stop of the reading of a script: for its first refused line, or for want of memory
abbrev pub StopsForText : Mode → List ℕ → Stop → Type 0
StopsForText m text (stop.Line line cause) = script_of m text ≡ Err (record { line = line; why = cause })
StopsForText m text stop.Memory = Unit {0}
StopsForText m text _ = ⊥

-- a stop of the reading of a script from an input: for a line, for the input's first fault, or for want of memory
abbrev pub StopsForScript : {S : Type 0} → Mode → (before after : Stream S) → Stop → Type 0
StopsForScript m before after (stop.Line line cause) = ReadsBadLine m before after (record { line = line; why = cause })
StopsForScript m before after stop.Input = HasOneFault before after
StopsForScript m before after stop.Memory = IsFaultless before after
StopsForScript m before after _ = ⊥
