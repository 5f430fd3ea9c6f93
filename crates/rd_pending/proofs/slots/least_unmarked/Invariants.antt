use Rattle.std.proofs.Common.{◌≡◌, ◌<◌, ℕ}
use Rattle.rd_pending.specs.Slots.{mark_at}
use Rattle.rd_pending.proofs.slots.least_unmarked.Given as goal

abbrev pub invariant-loop-word : goal.invariant-loop-word
invariant-loop-word l = (w b : ℕ) → w < l.word → b < 64 → mark_at l.marks w b ≡ 1
