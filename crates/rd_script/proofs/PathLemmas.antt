-- Paths: units that have a fault are none.
use Rattle.std.proofs.Common.{◌≡◌, refl, ℕ, List, Some, None}
use Rattle.rd_dirinfo.specs.Paths.{parsed_path, path_fault}

pub path_none : (units : List ℕ) (at : ℕ) → path_fault units ≡ Some at → parsed_path units ≡ None
path_none units at e = rw (parsed_path, e) refl
