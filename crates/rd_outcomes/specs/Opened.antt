-- What a session's lines take of the channels that begin.
use Rattle.std.specs.Prelude.{◌≡◌, ℕ, ◌+◌, ◌≤◌, Bool, true, List, length, Some}
use Rattle.rd_base.specs.declared.journal.Key.{Key}
use Rattle.rd_controls.specs.RunsMoves.{ReachedWithin}
use Rattle.rd_script.specs.declared.line.NumberedLine.{NumberedLine}
use Rattle.rd_world.specs.Acts.{Opens}
use Rattle.rd_world.specs.Events.{connect, is_enabled}
use Rattle.rd_world.specs.Lines.{last_begun}
use Rattle.rd_declared.specs.Declaring.{bare_lines, declared_devices}
use Rattle.rd_world.specs.Run.{Most, connects_on}
use Rattle.rd_world.specs.World.{WorldState}

-- where the rounds of a channel's begin end the channel opened
abbrev pub ChannelsOpen : List NumberedLine → (Key → Bool) → Most → Type 0
ChannelsOpen lines starves most = (n : ℕ) (w v : WorldState) → n + 1 ≤ length lines + 2 → ReachedWithin n lines starves w → is_enabled w connect ≡ true → connects_on starves most w ≡ Some v
    → Opens (declared_devices (bare_lines lines)) v.deeds (last_begun v.deeds)
