-- The calls of a client keep its announcements short, and data of a device that it doesn't have changes nothing.
use Rattle.std.proofs.Common.{◌≡◌, ◌∙◌, refl, sym, ap, subst, ℕ, ◌≤◌, Bool, true, false, List, [], ◌∷◌, length}
use Rattle.std.specs.Prelude.{◌||◌, cond, map, IsTrue}
use Rattle.std.specs.List.{list_any}
use Rattle.rd_client.specs.Core.{AreDevices, ClientCall, ClientCoreState, ClientDevice, ClientStep, IsClientKept, MayRefresh, has_device, is_device, new_client, refresh, refreshed}
use Rattle.rd_devices.specs.declared.list.Announce.{Announce}
use Rattle.rd_world.specs.Client.{KeepsClient, StaysShort}
use Rattle.rd_world.specs.Opening.{AreShort, FitsData, ids_of}
use Rattle.rd_declared.specs.Printers.{max_printer_data}
use Rattle.rd_world.proofs.ShortLemmas.{announces_first, ids_kept, may_refresh, short_kept}

-- A new client whose devices are short.
pub first_short : (devices : List Announce) → AreDevices devices → AreShort devices → StaysShort (new_client devices)
first_short devices are short =
    record { short = subst AreShort (sym (announces_first devices)) short; devices = subst AreDevices (sym (announces_first devices)) are }

-- A client whose announcements are short, after a call.
pub stays_short : (old new : ClientCoreState) (call : ClientCall) → FitsData call → ClientStep old call new → IsClientKept new → StaysShort old → StaysShort new
stays_short old new call fits step kept stays = record { short = short_kept old new call fits step stays.short; devices = kept.devices }

-- So does what is kept of it, since no call changes the ids.
pub keeps_call : (old new : ClientCoreState) (ids : List ℕ) (call : ClientCall) → FitsData call → ClientStep old call new → IsClientKept new → KeepsClient old ids → KeepsClient new ids
keeps_call old new ids call fits step kept keeps =
    record { stays = stays_short old new call fits step kept keeps.stays; ids_are = keeps.ids_are ∙ sym (ids_kept old new call step) }

-- A new client, and the ids of its devices.
pub first_keeps : (devices : List Announce) (ids : List ℕ) → AreDevices devices → AreShort devices → ids ≡ ids_of devices → KeepsClient (new_client devices) ids
first_keeps devices ids are short is = record { stays = first_short devices are short; ids_are = is ∙ sym (ap ids_of (announces_first devices)) }

-- One of its devices may get data that is no longer than a printer's.
pub may_refresh_short : (c : ClientCoreState) (device : ℕ) (body : List ℕ) → StaysShort c → length body ≤ max_printer_data → IsTrue (has_device c device) → MayRefresh c device body
may_refresh_short c device body stays few has = may_refresh c device body stays.short stays.devices.apart few has

others_same : (device : ℕ) (body : List ℕ) (ds : List ClientDevice) → list_any (is_device device) ds ≡ false → map (refreshed device body) ds ≡ ds
others_same device body [] none = refl
others_same device body (d ∷ ds) none = by (is_device device d) none (others_same device body ds)
  where
    by : (b : Bool) → (b || list_any (is_device device) ds) ≡ false → (list_any (is_device device) ds ≡ false → map (refreshed device body) ds ≡ ds)
        → cond b (record d { announce = record d.announce { body = body } }) d ∷ map (refreshed device body) ds ≡ d ∷ ds
    by true none rest = absurd cc
    by false none rest = ap (λ (others : List ClientDevice). d ∷ others) (rest none)

-- A device that the client doesn't have gets no data.
pub refresh_elsewhere : (c : ClientCoreState) (device : ℕ) (body : List ℕ) → has_device c device ≡ false → refresh c device body ≡ c
refresh_elsewhere c device body none = ap (λ (ds : List ClientDevice). record c { devices = ds }) (others_same device body c.devices none)
