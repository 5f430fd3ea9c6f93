use Rattle.std.proofs.Common.{◌≡◌, ◌≤◌, ◌<◌, ◌+◌, ◌*◌, ◌-◌, ℕ}
use Rattle.rd_contents.specs.Pages.{page_len, LacksPage, byte_at, IsKept}
use Rattle.rd_contents.proofs.pages.make_room.Given as goal

abbrev pub invariant-loop-done : goal.invariant-loop-done
invariant-loop-done l = record { within : l.done ≤ l.count; bytes : (i : ℕ) → byte_at l.pages.entries i ≡ byte_at l.initial.pages.entries i; kept : (i : ℕ) → l.offset ≤ i → i < l.offset + l.done → IsKept l.pages.entries i; lacks : (k : ℕ) → l.offset + l.count ≤ k * page_len → LacksPage l.initial.pages.entries k → LacksPage l.pages.entries k }

abbrev pub decreases-loop-done : goal.decreases-loop-done
decreases-loop-done l = l.count - l.done
