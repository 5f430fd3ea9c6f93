-- The printers of a session get their data, one after the other.
use Rattle.std.proofs.Common.{◌≡◌, refl, ap, ℕ, zero, suc, ◌<◌, List, [], ◌∷◌, length, Some, None, Option, slice_get, arith}
use Rattle.std.specs.Prelude.{map, IfSome}
use Rattle.std.specs.Map.{lookup}
use Rattle.std.specs.Option.{option_map_or}
use Rattle.std.specs.Ordering.{nat_cmp}
use Rattle.std.specs.BTreeMap.{is_at}
use Rattle.rd_client.specs.Core as client
use Rattle.rd_declared.specs.Devices.{PrinterNames, printer_data}
use Rattle.rd_world.specs.Events.{refreshing}
use Rattle.rd_world.specs.Hearing.{with_client}
use Rattle.rd_world.specs.World.{WorldState}

-- Data that a printer gets leaves the printers as they are.
pub refreshing_printers : (w : WorldState) (device : ℕ) → (refreshing w device).printers ≡ w.printers
refreshing_printers w device = go (lookup (is_at (nat_cmp device)) w.printers)
  where
    go : (o : Option PrinterNames) → (option_map_or (λ (names : PrinterNames). with_client w (client.refresh w.client device (printer_data w.cache names))) o w).printers ≡ w.printers
    go None = refl
    go (Some names) = refl

-- The id of the printer at a place stands there among the ids.
pub printer_there : (printers : List (ℕ × PrinterNames)) (place id : ℕ) → place < length printers → IfSome (slice_get printers place) (λ (e : ℕ × PrinterNames). e.0 ≡ id)
    → slice_get (map (λ (e : ℕ × PrinterNames). e.0) printers) place ≡ Some id
printer_there [] place id within is = absurd (omega arith)
printer_there (e ∷ printers) zero id within is = ap (λ (k : ℕ). Some k) is
printer_there (e ∷ printers) (suc place) id within is = printer_there printers place id (omega arith) is
