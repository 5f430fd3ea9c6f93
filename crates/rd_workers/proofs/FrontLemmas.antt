-- The history of the front over which a session's devices were served.
use Rattle.std.proofs.Common.{◌≡◌, ◌∙◌, ℕ, List, [], ◌∷◌, None, false, ap, sym, subst, map}
use Rattle.std.specs.Prelude.{All}
use Rattle.std.specs.List.{AllZip, zip}
use Rattle.std.proofs.lemmas.List.Elements.{All-cons, All-head, All-map, All-nil, All-same, All-tail, All-weaker}
use Rattle.rd_base.specs.declared.journal.Item.{Item}
use Rattle.rd_carry.specs.declared.ended.Ended.{Ended}
use Rattle.rd_client.specs.Core.{ClientCoreState, new_client}
use Rattle.rd_devices.specs.declared.list.Announce.{Announce}
use Rattle.rd_front.specs.Calls.{FrontEntry}
use Rattle.rd_front.specs.Front.{FrontStep}
use Rattle.rd_front.specs.State.{DeviceDeskState, FrontState, SessionPass, SessionStation}
use Rattle.rd_pool.specs.Desks.{DeskTurn}
use Rattle.rd_served_devices.specs.ServedDevices.{ServedDeviceState}
use Rattle.rd_sharing.specs.ServedOpening.{OpensServed, ServedDeclared}
use Rattle.rd_station.specs.Station.{StationState}
use Rattle.rd_turn.specs.History.{Leads}
use Rattle.rd_turn.specs.Pass.{new_pass}
use Rattle.rd_workers.specs.Channels.{LinkerTold}
use Rattle.rd_workers.specs.Closed.{ClosesAfter}
use Rattle.rd_workers.specs.Passes.{AreNew}
use Rattle.rd_workers.specs.Served.{IsFrontOf, ServesEntries, ServesFront, ServesJournals}
use Rattle.rd_workers.specs.declared.due.AtLine.{AtLine}
use Rattle.rd_declared.specs.Devices.{PrinterNames}

-- passes that were split from new ones have seen no call
pub unseen_split : (ps own : List SessionPass) → own ≡ map new_pass ps → AreNew ps → All (λ (p : SessionPass). p.seen ≡ []) own
unseen_split ps own is new =
    All-same (λ (p : SessionPass). p.seen ≡ []) own (map new_pass ps) is
    (All-map (λ (p : SessionPass). p.seen ≡ []) new_pass ps (All-weaker (λ (p : SessionPass). (p.made ≡ 0) × (p.out ≡ 0) × (p.seen ≡ [])) (λ (p : SessionPass). p.seen ≡ []) (λ p none. none.2) ps new))

pub unseen_desks : (ds : List DeviceDeskState) → All (λ (p : SessionPass). p.seen ≡ []) (map (λ (d : DeviceDeskState). d.pass) ds) → All (λ (d : DeviceDeskState). (d.pass).seen ≡ []) ds
unseen_desks [] all = All-nil (λ (d : DeviceDeskState). (d.pass).seen ≡ [])
unseen_desks (d ∷ ds) all =
    All-cons (λ (x : DeviceDeskState). (x.pass).seen ≡ []) d ds (All-head (λ (p : SessionPass). p.seen ≡ []) d.pass (map (λ (x : DeviceDeskState). x.pass) ds) all)
    (unseen_desks ds (All-tail (λ (p : SessionPass). p.seen ≡ []) d.pass (map (λ (x : DeviceDeskState). x.pass) ds) all))

module _ (client : ClientCoreState) (printers : List (ℕ × PrinterNames)) where
  -- a front before its first channel
  abbrev pub fresh_front : List DeviceDeskState → FrontState
  fresh_front desks = record { client = client; printers = printers; cache = []; desks = desks; kept = None; channel = 0; on = false; over = false; unsent = 0 }

  abbrev pub serves_front : (ids : List ℕ) (turns : List (DeskTurn ServedDeviceState)) (lines : List AtLine) (channels : ℕ) (by : Ended) (opening last : FrontState) (desks : List DeviceDeskState) (own : List SessionPass) (entries : List FrontEntry) (old new : LinkerTold)
      → opening ≡ fresh_front desks → map (λ (d : DeviceDeskState). d.id) desks ≡ ids → map (λ (d : DeviceDeskState). d.turn) desks ≡ turns → map (λ (d : DeviceDeskState). d.pass) desks ≡ own → All (λ (p : SessionPass). p.seen ≡ []) own
      → Leads FrontStep opening entries last → ServesEntries lines channels by entries old new → ServesFront client printers ids turns lines channels by old new
  serves_front ids turns lines channels by opening last desks own entries old new is ids_are turns_are own_are unseen leads served =
      let there : opening.desks ≡ desks = ap (λ (s : FrontState). s.desks) is in
      record {
        opening = opening;
        last = last;
        entries = entries;
        begins = record {
          is = is ∙ ap fresh_front (sym there);
          ids_are = ap (map (λ (d : DeviceDeskState). d.id)) there ∙ ids_are;
          turns_are = ap (map (λ (d : DeviceDeskState). d.turn)) there ∙ turns_are;
          unseen = unseen_desks opening.desks
              (All-same (λ (p : SessionPass). p.seen ≡ []) (map (λ (d : DeviceDeskState). d.pass) opening.desks) own (ap (map (λ (d : DeviceDeskState). d.pass)) there ∙ own_are) unseen);
        };
        leads = leads;
        served = served;
      }

-- ---- the devices of a script

module _ (devices : List (ℕ × ServedDeclared)) (stations : List (ℕ × StationState ServedDeviceState)) (announced : List Announce) (client : ClientCoreState) (printers : List (ℕ × PrinterNames)) (ids there : List ℕ) (turns : List (DeskTurn ServedDeviceState))
    (opens : OpensServed devices stations announced printers) (over : zip ids (map (λ (t : DeskTurn ServedDeviceState). t.opening) turns) ≡ stations) (shown : there ≡ ids) (client_is : client ≡ new_client announced)
  where
    -- the same front, by the names of the script's devices
    abbrev pub front_of : (lines : List AtLine) (channels : ℕ) (by : Ended) (old new : LinkerTold) → ServesFront client printers there turns lines channels by old new → ServesFront (new_client announced) printers ids turns lines channels by old new
    front_of lines channels by old new serves = record {
      opening = serves.opening;
      last = serves.last;
      entries = serves.entries;
      begins = subst (λ (l : List ℕ). IsFrontOf (new_client announced) printers l turns serves.opening) shown (subst (λ (c : ClientCoreState). IsFrontOf c printers there turns serves.opening) client_is serves.begins);
      leads = serves.leads;
      served = serves.served;
    }

    abbrev pub serves_journals : (lines : List AtLine) (channels : ℕ) (by : Ended) (old new : LinkerTold) (serves : ServesFront client printers there turns lines channels by old new) (closed : List SessionStation)
        → AllZip ClosesAfter (serves.last).desks closed → (journals : List (ℕ × List Item)) → journals ≡ zip ids (map (λ (s : SessionStation). s.journal) closed) → ServesJournals devices lines channels by journals old new
    serves_journals lines channels by old new serves closed closes journals are = record {
      announced = announced;
      printers = printers;
      ids = ids;
      turns = turns;
      opens = subst (λ (l : List (ℕ × StationState ServedDeviceState)). OpensServed devices l announced printers) (sym over) opens;
      front = front_of lines channels by old new serves;
      stations = closed;
      closes = closes;
      journals_are = are;
    }
