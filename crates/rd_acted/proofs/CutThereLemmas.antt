-- In every world that lines come to devices were cut off where they are to be, where channels ended only after their devices were told of.
use Rattle.std.proofs.Common.{◌≡◌, ◌∙◌, refl, sym, ap, subst, inl, inr, ℕ, ◌==◌, ◌&&◌, ◌||◌, Bool, true, false, cond, not, arith, eq-eqb, eqb-true, List, [], ◌∷◌, ◌++◌, map, reverse, fold, Some, None, Option, Result, Ok, Err, append_assoc, is_some}
use Rattle.std.specs.Prelude.{if◌then◌else◌}
use Rattle.std.specs.List.{AllZip, list_any}
use Rattle.std.specs.List.Sorted.{IsStrictlySortedBy}
use Rattle.std.specs.Map.{lookup}
use Rattle.std.specs.Ordering.{nat_cmp}
use Rattle.std.specs.BTreeMap.{is_at}
use Rattle.std.proofs.lemmas.Bool.Decides.{nat_tests}
use Rattle.rd_base.specs.declared.journal.Cause.TheVariants.{Removed}
use Rattle.rd_base.specs.declared.journal.Item.{Item}
use Rattle.rd_base.specs.declared.journal.Item.TheVariants.{Cancelled, Cut}
use Rattle.rd_client.specs.Core as client
use Rattle.rd_client.specs.Core.{ClientCoreState, ClientDevice, Outgoing, announce_in, client_hear, has_device, is_device, is_gone, is_present, listed}
use Rattle.rd_client.specs.Order.{is_client_ready}
use Rattle.rd_client.specs.declared.heard.Heard.{Heard}
use Rattle.rd_client.specs.declared.heard.Heard.TheVariants.{Nothing, Ask, Print}
use Rattle.rd_rest.proofs.ControlsNumbers.{reverse_cons}
use Rattle.rd_rest.proofs.ControlsUnseen.{client_ready}
use Rattle.rd_devices.specs.declared.list.Announce.{Announce}
use Rattle.rd_drive.specs.declared.plan.Job.{Job}
use Rattle.rd_hello.specs.declared.client.ClientState.{ClientState}
use Rattle.rd_hello.specs.declared.client.ClientState.TheVariants as state
use Rattle.rd_hello.specs.declared.end_fault.EndFault.{EndFault}
use Rattle.rd_rest.proofs.JournalsHeldLemmas.{found_then, stored_deeds, turned_has}
use Rattle.rd_rest.proofs.RunsParts.{announced_by, cut_by, told_added, told_removed}
use Rattle.rd_station.specs.Station as station
use Rattle.rd_station.specs.Station.{StationState}
use Rattle.rd_declared.specs.Devices.{Declared, PrinterNames, device_cut}
use Rattle.rd_world.specs.Hearing.{announcing, client_hears, heard_by_client, with_client}
use Rattle.rd_deeds.specs.Talk.{Deed, Has, adds, client_reads, is_removed, open_channel, removes, stores}
use Rattle.rd_world.specs.World.{WorldState, station_at, with_station}
use Rattle.rd_acted.proofs.CuttingLemmas.{AreCut, IsPlainItem, Of, plain_cut, plain_stores, removed_cut}
use Rattle.rd_acted.proofs.DataLemmas.{IsShaped, id_is, shaped_more, zip_as}
use Rattle.rd_acted.proofs.QuietLemmas.{HearsTo, Unspoken, announced_unspoken, hears_to, read_by, stationed_unspoken, unspoken_by, unspoken_none}
use Rattle.rd_acted.proofs.ReadLemmas.{ready_by}
use Rattle.rd_acted.proofs.TellLemmas.{ids_in}
use Rattle.rd_acted.proofs.ThereLemmas.{HasRoom, IsThere, among_listed, announced_all, announced_live, announced_silent, aside_there, done_among, is_told_there, put_there, station_keyed, told_there_same}

-- ---- keys

pub found_key : {X : Type 0} (es : List (ℕ × X)) (k : ℕ) → list_any (λ j. j == k) (map (λ (e : ℕ × X). e.0) es) ≡ true → (x : X) × (lookup (is_at (nat_cmp k)) es ≡ Some x)
found_key [] k has = absurd (cc has)
found_key {X} (e ∷ es) k has = by (e.0 == k) refl has (found_key es k)
  where
    by : (b : Bool) → (e.0 == k) ≡ b → (b || list_any (λ j. j == k) (map (λ (f : ℕ × X). f.0) es)) ≡ true → (list_any (λ j. j == k) (map (λ (f : ℕ × X). f.0) es) ≡ true → (x : X) × (lookup (is_at (nat_cmp k)) es ≡ Some x))
        → (x : X) × (lookup (is_at (nat_cmp k)) (e ∷ es) ≡ Some x)
    by true f among later = let here : is_at (nat_cmp k) e.0 ≡ true = grind (arith, nat_tests, f) in (e.1, rw here refl)
    by false f among later = let apart : is_at (nat_cmp k) e.0 ≡ false = grind (arith, nat_tests, f) in let (x, is) = later among in (x, rw apart is)

pub key_found : {X : Type 0} (es : List (ℕ × X)) (k : ℕ) (x : X) → lookup (is_at (nat_cmp k)) es ≡ Some x → list_any (λ j. j == k) (map (λ (e : ℕ × X). e.0) es) ≡ true
key_found [] k x has = absurd (cc has)
key_found {X} (e ∷ es) k x has = by (e.0 == k) refl (key_found es k x)
  where
    by : (b : Bool) → (e.0 == k) ≡ b → (lookup (is_at (nat_cmp k)) es ≡ Some x → list_any (λ j. j == k) (map (λ (f : ℕ × X). f.0) es) ≡ true) → (b || list_any (λ j. j == k) (map (λ (f : ℕ × X). f.0) es)) ≡ true
    by true f later = refl
    by false f later = let apart : is_at (nat_cmp k) e.0 ≡ false = grind (arith, nat_tests, f) in later (sym (ap (λ (b : Bool). cond b (Some e.1) (lookup (is_at (nat_cmp k)) es)) apart) ∙ has)

-- a device that the client has, and that isn't gone
has_there : (ids : List ℕ) (deeds : List Deed) (printers : List (ℕ × PrinterNames)) (q : ℕ) (es : List (ℕ × Declared)) (ds : List ClientDevice) → AllZip (IsShaped ids printers deeds) es ds
    → list_any (is_device q) ds ≡ true → list_any (λ (x : ClientDevice). is_device q x && x.removed) ds ≡ false → (list_any (λ k. k == q) (ids_in es) ≡ true) × (is_removed q deeds ≡ false)
has_there ids deeds printers q [] [] is has stays = absurd cc
has_there ids deeds printers q [] (x ∷ ds) is has stays = absurd is
has_there ids deeds printers q (e ∷ es) [] is has stays = absurd is
has_there ids deeds printers q (e ∷ es) (x ∷ ds) is has stays = by ((x.announce).id == q) refl has stays (has_there ids deeds printers q es ds is.1)
  where
    own : (b : Bool) → ((x.announce).id == q) ≡ b → (e.0 == q) ≡ b
    own b f = ap (λ (k : ℕ). k == q) (sym (id_is ids printers deeds e x is.0)) ∙ f

    first : (b c : Bool) → (b || c) ≡ false → b ≡ false
    first true c f = absurd (cc f)
    first false c f = refl

    second : (b c : Bool) → (b || c) ≡ false → c ≡ false
    second true c f = absurd (cc f)
    second false c f = f

    by : (b : Bool) → ((x.announce).id == q) ≡ b → (b || list_any (is_device q) ds) ≡ true → ((b && x.removed) || list_any (λ (y : ClientDevice). is_device q y && y.removed) ds) ≡ false
        → (list_any (is_device q) ds ≡ true → list_any (λ (y : ClientDevice). is_device q y && y.removed) ds ≡ false → (list_any (λ k. k == q) (ids_in es) ≡ true) × (is_removed q deeds ≡ false))
        → (((e.0 == q) || list_any (λ k. k == q) (ids_in es)) ≡ true) × (is_removed q deeds ≡ false)
    by true f among kept later = (
      ap (λ (b : Bool). b || list_any (λ k. k == q) (ids_in es)) (own true f),
      ap (λ (k : ℕ). is_removed k deeds) (sym (eqb-true e.0 q (own true f))) ∙ sym (is.0).removed_is ∙ first x.removed (list_any (λ (y : ClientDevice). is_device q y && y.removed) ds) kept,
    )
    by false f among kept later =
        let (there, stay) = later among (second (false && x.removed) (list_any (λ (y : ClientDevice). is_device q y && y.removed) ds) kept) in
        (ap (λ (b : Bool). b || list_any (λ k. k == q) (ids_in es)) (own false f) ∙ there, stay)

-- ---- states

still_unready : (a b : ClientState) → is_client_ready b ≡ is_client_ready a → client.becomes_ready a b ≡ false
still_unready state.Ready b e = refl
still_unready a state.Start e = none a
  where
    none : (s : ClientState) → client.becomes_ready s state.Start ≡ false
    none state.Ready = refl
    none s = refl
still_unready a state.Named e = none a
  where
    none : (s : ClientState) → client.becomes_ready s state.Named ≡ false
    none state.Ready = refl
    none s = refl
still_unready a state.Confirmed e = none a
  where
    none : (s : ClientState) → client.becomes_ready s state.Confirmed ≡ false
    none state.Ready = refl
    none s = refl
still_unready a (state.Offered told) e = none a
  where
    none : (s : ClientState) → client.becomes_ready s (state.Offered told) ≡ false
    none state.Ready = refl
    none s = refl
still_unready a state.Waiting e = none a
  where
    none : (s : ClientState) → client.becomes_ready s state.Waiting ≡ false
    none state.Ready = refl
    none s = refl
still_unready state.Start state.Ready e = absurd (cc e)
still_unready state.Named state.Ready e = absurd (cc e)
still_unready state.Confirmed state.Ready e = absurd (cc e)
still_unready (state.Offered told) state.Ready e = absurd (cc e)
still_unready state.Waiting state.Ready e = absurd (cc e)

now_ready : (a b : ClientState) → is_client_ready a ≡ false → is_client_ready b ≡ true → client.becomes_ready a b ≡ true
now_ready state.Ready b e f = absurd (cc e)
now_ready state.Start state.Ready e f = refl
now_ready state.Named state.Ready e f = refl
now_ready state.Confirmed state.Ready e f = refl
now_ready (state.Offered told) state.Ready e f = refl
now_ready state.Waiting state.Ready e f = refl
now_ready a b e f = absurd (cc f)

-- ---- parts

module _ (devices : List (ℕ × Declared)) (rise : IsStrictlySortedBy nat_cmp (ids_in devices)) where
  pub off_there : (w : WorldState) (d : ℕ) → client_ready w ≡ false → is_told_there w d ≡ false
  off_there w d unready = ap (λ (b : Bool). is_some (open_channel w.deeds) && (b && not (is_removed d w.deeds))) unready ∙ none (is_some (open_channel w.deeds))
    where
      none : (b : Bool) → (b && false) ≡ false
      none true = refl
      none false = refl

  pub shut_there : (w : WorldState) (d : ℕ) → open_channel w.deeds ≡ None → is_told_there w d ≡ false
  shut_there w d shut = ap (λ (o : Option ℕ). is_some o && (client_ready w && not (is_removed d w.deeds))) shut

  pub open_there : (w : WorldState) (d : ℕ) → open_channel w.deeds ≡ Some w.channels → client_ready w ≡ true → is_told_there w d ≡ not (is_removed d w.deeds)
  open_there w d opened ready =
      ap (λ (o : Option ℕ). is_some o && (client_ready w && not (is_removed d w.deeds))) opened ∙ ap (λ (b : Bool). b && not (is_removed d w.deeds)) ready

  -- ---- a message is heard

  heard_there : (shake : ClientState) (x : WorldState) (r : Result Heard EndFault) → client.becomes_ready shake ((x.client).core).shake ≡ false → IsThere devices x → IsThere devices (heard_by_client shake x r)
  heard_there shake x (Err fault) none is = is
  heard_there shake x (Ok Nothing) none is =
      subst (λ (b : Bool). IsThere devices (if b then fold (λ y (a : Announce). announcing y a.id) x (listed x.client) else x)) (sym none) is
  heard_there shake x (Ok (Ask device job)) none is = put_there devices rise x device job is
  heard_there shake x (Ok (Print n)) none is = aside_there devices rise x _ refl (λ q. refl) is.cut is

  opened_there : (x : WorldState) → open_channel x.deeds ≡ Some x.channels → client_ready x ≡ true → AllZip (IsShaped (ids_in devices) x.printers x.deeds) devices (x.client).devices
      → map (λ (e : ℕ × Of). e.0) x.stations ≡ ids_in devices → ((d : ℕ) (s : Of) → station_at x d ≡ Some s → (s.live ≡ false) × HasRoom s) → AreCut devices x.deeds
      → IsThere devices (fold (λ y (a : Announce). announcing y a.id) x (listed x.client))
  opened_there x opened ready shaped keyed idle cut =
      let list : List Announce = listed x.client in
      let all = announced_all devices rise x.deeds list (λ q. false) x (record { keyed = keyed; live = idle; same = refl }) in
      let y : WorldState = fold (λ z (a : Announce). announcing z a.id) x list in
      let u = announced_unspoken_all list x in
      record {
        keyed = all.keyed;
        live = λ d s there.
            let among : list_any (λ k. k == d) (ids_in devices) ≡ true = ap (λ (ks : List ℕ). list_any (λ k. k == d) ks) (sym all.keyed) ∙ key_found y.stations d s there in
            (all.live d s there).0 ∙ done_among devices rise (map (λ (a : Announce). a.id) list) (λ q. false) d
            ∙ among_listed (ids_in devices) x.deeds x.printers d devices (x.client).devices shaped ∙ ap (λ (b : Bool). b && not (is_removed d x.deeds)) among
            ∙ sym (told_there_same x y u d ∙ open_there x d opened ready);
        cut = subst (AreCut devices) (sym all.same) cut;
      }
    where
      announced_unspoken_all : (list : List Announce) (w : WorldState) → Unspoken w (fold (λ z (a : Announce). announcing z a.id) w list)
      announced_unspoken_all [] w = unspoken_none w
      announced_unspoken_all (a ∷ list) w = unspoken_by w (announcing w a.id) _ (announced_unspoken w a.id) (announced_unspoken_all list (announcing w a.id))

  pub hears_there : (w : WorldState) (m : List ℕ) → open_channel w.deeds ≡ Some w.channels → ((d : ℕ) (s : Of) → station_at w d ≡ Some s → HasRoom s)
      → AllZip (IsShaped (ids_in devices) w.printers w.deeds) devices (w.client).devices → IsThere devices w → IsThere devices (client_hears w m)
  hears_there w m opened room shaped is = go (hears_to w.client m)
    where
      d : ClientCoreState
      d = (client_hear w.client m).0

      cut : AreCut devices (client_reads w.channels m ∷ w.deeds)
      cut = plain_cut devices (client_reads w.channels m) w.deeds tt is.cut

      go : HearsTo w.client (client_hear w.client m).0 → IsThere devices (client_hears w m)
      go h = elim h.either [
        | inl kept ↦
            heard_there ((w.client).core).shake (read_by w m (client_hear w.client m).0) (client_hear w.client m).1 (still_unready ((w.client).core).shake (((client_hear w.client m).0).core).shake kept.0)
            (aside_there devices rise w (read_by w m (client_hear w.client m).0) refl (λ q. ap (λ (b : Bool). is_some (open_channel w.deeds) && (b && not (is_removed q w.deeds))) kept.0) cut is)
        | inr becomes ↦
            let nothing : (client_hear w.client m).1 ≡ Ok Nothing = ready_by w.client m becomes.0 becomes.1 in
            let x : WorldState = read_by w m (client_hear w.client m).0 in
            let turns : client.becomes_ready ((w.client).core).shake ((x.client).core).shake ≡ true = now_ready ((w.client).core).shake (((client_hear w.client m).0).core).shake becomes.0 becomes.1 in
            subst (λ (r : Result Heard EndFault). IsThere devices (heard_by_client ((w.client).core).shake x r)) (sym nothing)
            (subst (λ (b : Bool). IsThere devices (if b then fold (λ y (a : Announce). announcing y a.id) x (listed x.client) else x)) (sym turns)
            (opened_there x opened becomes.1
            (subst (λ (ds : List ClientDevice). AllZip (IsShaped (ids_in devices) w.printers (client_reads w.channels m ∷ w.deeds)) devices ds) (sym h.devices)
            (zip_as (IsShaped (ids_in devices) w.printers w.deeds) (IsShaped (ids_in devices) w.printers (client_reads w.channels m ∷ w.deeds))
            (shaped_more (ids_in devices) w.printers w.deeds (client_reads w.channels m ∷ w.deeds) (λ k. refl)) devices (w.client).devices shaped))
            is.keyed (λ q s there. (is.live q s there ∙ off_there w q becomes.0, room q s there)) cut))
      ]

  -- ---- a device is removed, and added

  pub removes_there : (w : WorldState) (d : ℕ) (o : Option Of) → station_at w d ≡ o → open_channel w.deeds ≡ Some w.channels → client_ready w ≡ true → has_device w.client d ≡ true → is_gone w.client d ≡ false
      → AllZip (IsShaped (ids_in devices) w.printers w.deeds) devices (w.client).devices → IsThere devices w → IsThere devices (cut_by (told_removed w d) d o)
  removes_there w d None there opened ready has stays shaped is =
      let (among, kept) = has_there (ids_in devices) w.deeds w.printers d devices (w.client).devices shaped has stays in
      let (s, found) = found_key w.stations d (ap (λ (ks : List ℕ). list_any (λ k. k == d) ks) is.keyed ∙ among) in
      absurd (cc (there, found))
  removes_there w d (Some s) there opened ready has stays shaped is =
      let (among, kept) = has_there (ids_in devices) w.deeds w.printers d devices (w.client).devices shaped has stays in
      let live : s.live ≡ true = is.live d s there ∙ open_there w d opened ready ∙ ap not kept in
      record {
        keyed = station_keyed devices rise told d s new there is.keyed;
        live = λ q t found. elim (found_then w.stations d new q t found) [
          | inl here ↦
              ap (λ (x : Of). x.live) here.1 ∙ gone live
              ∙ sym (told_there_same told (with_station told d new) (stationed_unspoken told d new) q ∙ open_there told q opened ready ∙ ap not (ap (λ (b : Bool). b || is_removed q w.deeds) (eq-eqb d q (sym here.0))))
          | inr other ↦
              is.live q t other.1 ∙ open_there w q opened ready
              ∙ sym (told_there_same told (with_station told d new) (stationed_unspoken told d new) q ∙ open_there told q opened ready ∙ ap not (ap (λ (b : Bool). b || is_removed q w.deeds) (turned q d other.0)))
        ];
        cut = subst (AreCut devices) (sym (stored_deeds told d s new there (Cut Removed ∷ cancelled) (longer live) ∙ split))
            (plain_stores devices d (reverse cancelled) (stores d (Cut Removed) ∷ removes d ∷ w.deeds) (λ x has_it. all_plain s.waiting x (turned_has x cancelled has_it)) (removed_cut devices d w.deeds is.cut));
      }
    where
      told : WorldState
      told = told_removed w d

      cancelled : List Item
      cancelled = map (λ (job : Job). Cancelled job.key) s.waiting

      new : Of
      new = (station.remove s (device_cut s.device).state).0

      gone : s.live ≡ true → (station.remove s (device_cut s.device).state).0.live ≡ false
      gone live = rw live refl

      longer : s.live ≡ true → (station.remove s (device_cut s.device).state).0.journal ≡ s.journal ++ Cut Removed ∷ map (λ (job : Job). Cancelled job.key) s.waiting
      longer live = rw live refl

      turned : (a b : ℕ) → (a == b) ≡ false → (b == a) ≡ false
      turned a b e = grind (arith, nat_tests, e)

      all_plain : (jobs : List Job) (x : Item) → Has x (map (λ (job : Job). Cancelled job.key) jobs) → IsPlainItem x
      all_plain [] x none = absurd none
      all_plain (job ∷ jobs) x (inl same) = subst IsPlainItem (sym same) tt
      all_plain (job ∷ jobs) x (inr has_it) = all_plain jobs x has_it

      more : (xs ys : List Item) → map (stores d) (xs ++ ys) ≡ map (stores d) xs ++ map (stores d) ys
      more [] ys = refl
      more (x ∷ xs) ys = ap (λ (zs : List Deed). stores d x ∷ zs) (more xs ys)

      split : map (stores d) (reverse (Cut Removed ∷ map (λ (job : Job). Cancelled job.key) s.waiting)) ++ removes d ∷ w.deeds
          ≡ map (stores d) (reverse (map (λ (job : Job). Cancelled job.key) s.waiting)) ++ stores d (Cut Removed) ∷ removes d ∷ w.deeds
      split =
          let cs : List Item = map (λ (job : Job). Cancelled job.key) s.waiting in
          ap (λ (xs : List Item). map (stores d) xs ++ removes d ∷ w.deeds) (reverse_cons (Cut Removed) cs) ∙ ap (λ (zs : List Deed). zs ++ removes d ∷ w.deeds) (more (reverse cs) (Cut Removed ∷ []))
          ∙ append_assoc (map (stores d) (reverse cs)) (stores d (Cut Removed) ∷ []) (removes d ∷ w.deeds)

  pub adds_there : (w : WorldState) (c : ClientCoreState) (d : ℕ) (o : Option Of) → station_at w d ≡ o → open_channel w.deeds ≡ Some w.channels → client_ready w ≡ true → is_client_ready (c.core).shake ≡ true
      → ((q : ℕ) (s : Of) → station_at w q ≡ Some s → HasRoom s) → IsThere devices w → IsThere devices (announced_by (told_added (with_client w c) d) d o)
  adds_there w c d o there opened was ready room is = by o there
    where
      told : WorldState
      told = told_added (with_client w c) d

      cut : AreCut devices (adds d ∷ w.deeds)
      cut = plain_cut devices (adds d) w.deeds tt is.cut

      turned : (a b : ℕ) → (a == b) ≡ false → (b == a) ≡ false
      turned a b e = grind (arith, nat_tests, e)

      same_there : (q : ℕ) → (q == d) ≡ false → is_told_there (told_added (with_client w c) d) q ≡ is_told_there w q
      same_there q apart =
          open_there (told_added (with_client w c) d) q opened ready ∙ ap not (ap (λ (b : Bool). not b && is_removed q w.deeds) (turned q d apart)) ∙ sym (open_there w q opened was)

      by : (p : Option Of) → station_at w d ≡ p → IsThere devices (announced_by (told_added (with_client w c) d) d p)
      by None none = record { keyed = is.keyed; live = λ q s has. is.live q s has ∙ sym (same_there q (other q s has (q == d) refl)); cut = plain_cut devices (adds d) w.deeds tt is.cut }
        where
          other : (q : ℕ) (s : Of) → station_at w q ≡ Some s → (b : Bool) → (q == d) ≡ b → b ≡ false
          other q s has true e = absurd (cc (subst (λ (k : ℕ). station_at w k ≡ Some s) (eqb-true q d e) has, none))
          other q s has false e = refl
      by (Some s) found =
          let new : Of = (station.announce s).0 in
          let x : WorldState = told_added (with_client w c) d in
          let u = stationed_unspoken x d new in
          record {
            keyed = station_keyed devices rise x d s new found is.keyed;
            live = λ q t has. elim (found_then w.stations d new q t has) [
              | inl here ↦
                  ap (λ (y : Of). y.live) here.1 ∙ announced_live s (room d s found)
                  ∙ sym (told_there_same x (with_station x d new) u q ∙ open_there x q opened ready ∙ ap not (ap (λ (b : Bool). not b && is_removed q w.deeds) (eq-eqb d q (sym here.0))))
              | inr other ↦ is.live q t other.1 ∙ sym (told_there_same x (with_station x d new) u q ∙ same_there q other.0)
            ];
            cut = subst (AreCut devices) (sym (stored_deeds x d s new found [] (announced_silent s))) (plain_cut devices (adds d) w.deeds tt is.cut);
          }
