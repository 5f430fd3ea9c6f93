-- A device that may be added may be so when its data is renewed; and each of some desks is told something.
use Rattle.std.proofs.Common.{◌≡◌, ◌∙◌, refl, subst, ℕ, ◌+◌, ◌<◌, ◌≤◌, List, [], length, get_or, set, take, Option, Some, None, arith}
use Rattle.std.specs.List.{AllZip}
use Rattle.std.specs.Map.{lookup}
use Rattle.std.specs.Option.{option_map_or}
use Rattle.std.specs.Ordering.{nat_cmp}
use Rattle.std.specs.BTreeMap.{is_at}
use Rattle.std.proofs.lemmas.List.{take_more_set}
use Rattle.std.proofs.lemmas.List.Elements.{all_zip_more}
use Rattle.rd_client.specs.Core as client
use Rattle.rd_client.specs.Core.{ClientCoreState, MayTellAdded}
use Rattle.rd_declared.specs.Devices.{PrinterNames, printer_data}
use Rattle.rd_world.specs.Events.{refreshing}
use Rattle.rd_world.specs.Hearing.{with_client}
use Rattle.rd_world.specs.Run.{new_world}
use Rattle.rd_world.specs.World.{WorldState}
use Rattle.rd_world.proofs.StepLemmas.{refreshed_added}
use Rattle.rd_front.specs.Front.{with_new_data}
use Rattle.rd_front.specs.State.{DeviceDeskState, FrontState}

-- a session with this client and these printers
abbrev session : FrontState → WorldState
session s = record (new_world [] []) { client = s.client; printers = s.printers; cache = s.cache }

module _ (s : FrontState) (device : ℕ) where
  abbrev to_session : PrinterNames → WorldState
  to_session names = with_client (session s) (client.refresh s.client device (printer_data s.cache names))

  abbrev to_front : PrinterNames → FrontState
  to_front names = record s { client = client.refresh s.client device (printer_data s.cache names) }

  alike : (o : Option PrinterNames) → (option_map_or to_session o (session s)).client ≡ (option_map_or to_front o s).client
  alike None = refl
  alike (Some names) = refl

refreshed_alike : (s : FrontState) (device : ℕ) → (refreshing (session s) device).client ≡ (with_new_data s device).client
refreshed_alike s device = alike s device (lookup (is_at (nat_cmp device)) s.printers)

pub added_still : (s : FrontState) (device : ℕ) → MayTellAdded s.client device → MayTellAdded (with_new_data s device).client device
added_still s device may = subst (λ (c : ClientCoreState). MayTellAdded c device) (refreshed_alike s device) (refreshed_added (session s) device may)

-- one more of some desks was told
pub told_more : (R : DeviceDeskState → DeviceDeskState → Type 0) (old list : List DeviceDeskState) (i : ℕ) (before after : DeviceDeskState)
    → AllZip R (take i old) (take i list) → ((j : ℕ) (d : DeviceDeskState) → i ≤ j → get_or list j d ≡ get_or old j d) → length list ≡ length old → i < length list
    → before ≡ get_or list i before → R before after → AllZip R (take (i + 1) old) (take (i + 1) (set list i after))
told_more R old list i before after all others same within here one =
    let inside : i < length old = omega arith in
    rw (take_more_set list i after within) (all_zip_more R old (take i list) i before after inside (here ∙ others i before (omega arith)) all one)
