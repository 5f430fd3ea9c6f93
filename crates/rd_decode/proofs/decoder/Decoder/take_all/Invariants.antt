use Rattle.std.proofs.Common.{◌≡◌, ◌≤◌, ◌-◌, ◌++◌, ℕ, List, length, drop}
use Rattle.std.specs.String.{string_bytes}
use Rattle.rd_decode.specs.Kept.{GoesOn, kept_channel}
use Rattle.rd_decode.proofs.decoder.Decoder.take_all.Given as goal

-- so many bytes were taken, and their lines were appended
abbrev pub invariant-loop-size : goal.invariant-loop-size
invariant-loop-size l = (shown : List ℕ) × (l.taken ≤ length l.fn.bytes) × (string_bytes l.self.text ≡ string_bytes l.fn.self.text ++ shown)
    × GoesOn l.fn.self.at (kept_channel l.fn.self.channel) l.fn.bytes shown l.self.at (kept_channel l.self.channel) (drop l.taken l.fn.bytes)

-- how many bytes are left
abbrev pub decreases-loop-size : goal.decreases-loop-size
decreases-loop-size l = length l.fn.bytes - l.taken
