-- A drive whose handles are closed one after the other.
use Rattle.std.specs.Prelude.{◌≡◌, ℕ, ◌∷◌}
use Rattle.std.specs.Map.{keys_of}
use Rattle.rd_drive.specs.DriveState.{DriveState}
use Rattle.rd_drive.specs.DriveStep.{with_closed}

-- The first file id is closed, and the others are open still.
pub record ClosesFirst (old new : DriveState) : Type 0 where
  pub file : ℕ
  pub keys : keys_of old.handles ≡ file ∷ keys_of new.handles
  pub closed : with_closed old file ≡ new
