use Rattle.std.proofs.Common.{◌≡◌, ◌+◌, ◌-◌, ◌≤◌, ℕ, length, drop}
use Rattle.rd_recorded.specs.Entries.{recorded_channels, heard_from}
use Rattle.rd_recorded.specs.Kept.{hearing_of}
use Rattle.rd_recorded.proofs.reading.recorded_channels.Given as goal

-- the entries from a place on are heard behind what was heard before them
abbrev pub invariant-loop-taken : goal.invariant-loop-taken
invariant-loop-taken l = (most : ℕ) × (length (drop l.taken l.fn.bytes) ≤ most) × (l.taken ≤ length l.fn.bytes)
    × ((hearing_of l.hearing).entries ≤ l.taken) × (recorded_channels l.fn.at l.fn.bytes ≡ heard_from most (l.fn.at + l.taken) (hearing_of l.hearing) (drop l.taken l.fn.bytes))

-- how many bytes are left
abbrev pub decreases-loop-taken : goal.decreases-loop-taken
decreases-loop-taken l = length l.fn.bytes - l.taken
