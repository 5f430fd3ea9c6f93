use Rattle.std.proofs.Common.{◌≡◌, ◌≤◌, ◌-◌, ℕ, length}
use Rattle.rd_contents.specs.Pages.{LacksPage, byte_at, kept_page, over}
use Rattle.rd_contents.proofs.pages.put.Given as goal

abbrev pub invariant-loop-done : goal.invariant-loop-done
invariant-loop-done l = record { within : l.done ≤ length l.bytes; lengths : (k : ℕ) → length (kept_page l.pages.entries k) ≡ length (kept_page l.initial.pages.entries k); bytes : (i : ℕ) → byte_at l.pages.entries i ≡ over l.offset l.done l.bytes (byte_at l.initial.pages.entries) i; lacks : (k : ℕ) → LacksPage l.initial.pages.entries k → LacksPage l.pages.entries k }

abbrev pub decreases-loop-done : goal.decreases-loop-done
decreases-loop-done l = length l.bytes - l.done
