-- What the calls of the adder do, and what one call adds to a pass's own calls.
use Rattle.std.specs.Prelude.{◌≡◌, ℕ, ◌+◌, ◌%◌, ◌^◌, ◌++◌, ◌∷◌, []}
use Rattle.rd_turn.specs.declared.object.Entry.{Entry}
use Rattle.rd_turn.specs.History.{entry, calls_of}
use Rattle.rd_turn.specs.Pass.{PassState}
use Rattle.rd_turn_tests.specs.declared.adder.Adder.{Adder}

-- the sum so far, in so many calls
abbrev pub adder : ℕ → ℕ → Adder
adder sum calls = record { sum = sum; calls = calls }

abbrev pub AddsOnce : Adder → ℕ → ℕ → Adder → Type 0
AddsOnce a call reply b = (b.sum ≡ (a.sum + call) % 2 ^ 64) × (b.calls ≡ (a.calls + 1) % 2 ^ 64) × (reply ≡ b.sum)

-- a pass added a number, and the sum was replied
abbrev pub added_entry : ℕ → ℕ → ℕ → Entry ℕ ℕ
added_entry by call reply = entry by call reply

abbrev pub HasMade : {O C R : Type 0} → PassState O C R → C → R → PassState O C R → Type 0
HasMade p call reply q = calls_of p.number q.seen ≡ calls_of p.number p.seen ++ entry p.number call reply ∷ []
