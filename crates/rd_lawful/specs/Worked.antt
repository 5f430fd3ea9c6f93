-- Journals for worked cases.
use Rattle.std.specs.Prelude.{ℕ, zero, suc, true, false, List, [], ◌∷◌, ◌++◌}
use Rattle.rd_base.specs.declared.journal.Key.{Key}
use Rattle.rd_base.specs.declared.journal.Cause.TheVariants.{Dropped, Removed}
use Rattle.rd_base.specs.declared.journal.Item.{Item}
use Rattle.rd_base.specs.declared.journal.Item.TheVariants.{Came, Cut, Ran}

-- the key of the request at a place of a channel
abbrev pub key_at : ℕ → ℕ → Key
key_at channel index = record { channel = channel; index = index }

-- the first two of the first channel come, and the first is left waiting
abbrev pub one_waits : List Item
one_waits = Came (key_at 1 0) ∷ Came (key_at 1 1) ∷ Ran (key_at 1 0) 0 false true ∷ []

-- then the device is removed; then the channel is dropped
abbrev pub one_removed : List Item
one_removed = one_waits ++ Cut Removed ∷ []

abbrev pub one_dropped : List Item
one_dropped = one_waits ++ Cut Dropped ∷ []

-- then a request of the next channel comes
abbrev pub next_came : List Item
next_came = one_removed ++ Came (key_at 2 0) ∷ []

-- so many requests come
abbrev pub many_come : ℕ → List Item
many_come zero = []
many_come (suc n) = many_come n ++ Came (key_at 1 n) ∷ []
