-- Which requests came to a device before a line of the script removed it, and which after.
use Rattle.std.specs.Prelude.{◌≡◌, ◌⊎◌, ℕ, suc, ◌<◌, ◌≤◌, List, [], ◌∷◌, ◌++◌, Option, Some, None}
use Rattle.std.specs.List.{AllByRecursion}
use Rattle.rd_base.specs.declared.journal.Cause.TheVariants.{Removed}
use Rattle.rd_base.specs.declared.journal.Item.TheVariants.{Came, Cut}
use Rattle.rd_base.specs.declared.journal.Key.{Key}
use Rattle.rd_script.specs.declared.line.Line.{Line}
use Rattle.rd_script.specs.declared.line.Line.TheVariants as line
use Rattle.rd_script.specs.declared.line.NumberedLine.{NumberedLine}
use Rattle.rd_declared.specs.Declaring.{bare_lines}
use Rattle.rd_deeds.specs.Talk.{Deed, Has, client_read, stores}
use Rattle.rd_served_sessions.specs.Placed.{requests_read}

-- ---- the places of lines

-- the channel on which a line acts and the number of requests at which it does, where it has such a place
abbrev pub line_place : Line → Option (ℕ × ℕ)
line_place (line.AtRemove channel requests device) = Some (channel, requests)
line_place (line.AtAdd channel requests device) = Some (channel, requests)
line_place (line.AtDrop channel requests) = Some (channel, requests)
line_place _ = None

-- the second place isn't before the first
abbrev pub IsNotBefore : Option (ℕ × ℕ) → Option (ℕ × ℕ) → Type 0
IsNotBefore (Some first) (Some second) = (first.0 < second.0) ⊎ ((first.0 ≡ second.0) × (first.1 ≤ second.1))
IsNotBefore first second = Unit {0}

-- The lines with places stand in the order of these, as they do in each script that is read.
abbrev pub AreInPlace : List NumberedLine → Type 0
AreInPlace [] = Unit {0}
AreInPlace (l ∷ lines) = AllByRecursion (λ (m : NumberedLine). IsNotBefore (line_place l.line) (line_place m.line)) lines × AreInPlace lines

-- ---- what a removal parts

-- Where a device was cut off as one that is gone, between what was done before and what was done later: a line of the script removes it, which acts where so many requests were read on its
-- channel, and on no later one anything was. None of them had come to the device whose index is at the line's number or above; and later only those come that were read since, and the last that
-- was read before, which may have been kept back: so none whose index is below that number, but for the one directly below.
pub record IsParted (lines : List NumberedLine) (device : ℕ) (later before : List Deed) : Type 0 where
  pub channel : ℕ
  pub requests : ℕ
  pub says : Has (line.AtRemove channel requests device) (bare_lines lines)
  pub due : requests ≤ requests_read channel before
  pub latest : (c : ℕ) → channel < c → client_read c before ≡ []
  pub early : (key : Key) → Has (stores device (Came key)) before → key.channel ≡ channel → key.index < requests
  pub late : (key : Key) → Has (stores device (Came key)) later → key.channel ≡ channel → requests_read channel before ≤ suc key.index

-- So it is wherever a device is cut off as one that is gone.
abbrev pub ArePartedAt : List NumberedLine → List Deed → Type 0
ArePartedAt lines deeds = (device : ℕ) (later before : List Deed) → deeds ≡ later ++ stores device (Cut Removed) ∷ before → IsParted lines device later before
