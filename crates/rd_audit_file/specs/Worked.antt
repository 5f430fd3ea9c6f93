-- Journals that were worked by hand.
use Rattle.std.specs.Prelude.{ℕ, true, false, List, [], ◌∷◌, ◌++◌, codes}
use Rattle.rd_base.specs.declared.journal.Item.{Item}
use Rattle.rd_base.specs.declared.journal.Item.TheVariants.{Came, Ran, Cancelled, Sent, Cut}
use Rattle.rd_base.specs.declared.journal.Cause.TheVariants.{Removed, Dropped}

-- a device that was dropped, one without entries, and one that was removed, with the highest numbers
abbrev pub journals : List (ℕ × List Item)
journals =
    (1, Came (record { channel = 1; index = 0 }) ∷ Ran (record { channel = 1; index = 0 }) 0 false true ∷ Sent (record { channel = 1; index = 0 }) ∷ Cut Dropped ∷ [])
    ∷ (20, [])
    ∷ (4294967295, Came (record { channel = 4294967295; index = 18446744073709551615 }) ∷ Cut Removed ∷ Cancelled (record { channel = 4294967295; index = 18446744073709551615 }) ∷ [])
    ∷ []

-- their text
abbrev pub text : List ℕ
text =
    codes "device 1\ncame 1 0\nran 1 0 0 0 1\nsent 1 0\ncut dropped\ndevice 20\n"
    ++ codes "device 4294967295\ncame 4294967295 18446744073709551615\ncut removed\ncancelled 4294967295 18446744073709551615\n"
