-- What applications ask between lives, and between removals, for worked cases.
use Rattle.std.specs.Prelude.{ℕ, List, [], ◌∷◌}
use Rattle.rd_base.specs.declared.journal.Cause.TheVariants.{Removed}
use Rattle.rd_pending.specs.declared.calls.Outcome.TheVariants.{Lost}
use Rattle.rd_pending.specs.declared.calls.Taken.{Taken}
use Rattle.rd_pending.specs.declared.calls.Target.TheVariants as target
use Rattle.rd_pending.specs.History.{Call, submits, takes}
use Rattle.rd_pending.specs.Table.{TableState, begin, new_table}
use Rattle.rd_pending.specs.Worked.{asked_of, open_table, opening}

-- the application of a number asks for the root of a device
abbrev pub root_asked : ℕ → ℕ → Call
root_asked application device = submits application (target.Device device) opening

-- a channel began, and no device is there
abbrev pub bare_table : TableState
bare_table = (begin new_table 1).0

-- Devices 1 and 2 begin lives, and device 1 once more; behind each of the two an application asks for its root.
abbrev pub with_lives : List (ℕ × List Call)
with_lives = (1, root_asked 1 1 ∷ []) ∷ (2, root_asked 2 2 ∷ []) ∷ (1, []) ∷ []

-- devices 1 and 2 are there, and an application asked for the root of device 1
abbrev pub asked_table : TableState
asked_table = asked_of 1 1 open_table

-- Device 1 is gone: what was asked of it is taken, and the root of device 2 is asked for; then device 2 is gone, and that is taken.
abbrev pub with_removals : List (ℕ × List Call)
with_removals = (1, takes 1 ∷ root_asked 2 2 ∷ []) ∷ (2, takes 2 ∷ []) ∷ []

-- a request to a device in a life is lost, since the device is gone
abbrev pub lost_in : ℕ → ℕ → Taken
lost_in device life = record { device = device; life = life; outcome = Lost Removed }
