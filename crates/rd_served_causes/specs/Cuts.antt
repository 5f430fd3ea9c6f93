-- When a device is cut off as one that is gone.
use Rattle.std.specs.Prelude.{◌≡◌, ℕ, ◌==◌, ◌&&◌, ◌||◌, Bool, true, false, not, List, [], ◌∷◌}
use Rattle.rd_base.specs.declared.journal.Cause.TheVariants.{Removed}
use Rattle.rd_base.specs.declared.journal.Item.TheVariants.{Cut}
use Rattle.rd_deeds.specs.Talk.{Deed, adds, removes, stores}

-- whether a device was removed, and neither added nor cut off as gone since
abbrev pub is_to_cut : ℕ → List Deed → Bool
is_to_cut device [] = false
is_to_cut device (removes d ∷ before) = d == device || is_to_cut device before
is_to_cut device (adds d ∷ before) = not (d == device) && is_to_cut device before
is_to_cut device (stores d (Cut Removed) ∷ before) = not (d == device) && is_to_cut device before
is_to_cut device (deed ∷ before) = is_to_cut device before

-- A device is cut off as one that is gone only then: after it was removed, once.
abbrev pub CutsRemoved : List Deed → Deed → Type 0
CutsRemoved before (stores device (Cut Removed)) = is_to_cut device before ≡ true
CutsRemoved before _ = Unit {0}
