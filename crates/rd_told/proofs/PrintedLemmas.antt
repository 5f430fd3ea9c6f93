-- Each device is as its journal leaves it by the requests that were written, and so are the documents that printers have.
use Rattle.std.proofs.Common.{◌≡◌, ◌∙◌, refl, sym, ap, subst, inl, inr, ℕ, Bool, List, [], ◌∷◌, ◌++◌, true, false, cond, arith, map, reverse, Some, None, Option}
use Rattle.std.specs.Prelude.{Contains}
use Rattle.std.specs.List.{AllByRecursion, flat_map}
use Rattle.std.specs.List.Sorted.{IsStrictlySortedBy}
use Rattle.std.specs.Map.{keys_of, lookup}
use Rattle.std.specs.Ordering.{nat_cmp}
use Rattle.std.specs.BTreeMap.{is_at}
use Rattle.std.specs.Option.{unwrap_or}
use Rattle.std.proofs.lemmas.List.Elements.{Contains-append_right}
use Rattle.rd_base.specs.declared.journal.Item.{Item}
use Rattle.rd_base.specs.declared.journal.Item.TheVariants.{Came, Cancelled, Cut, Ran, Sent}
use Rattle.rd_base.specs.declared.journal.Key.{Key}
use Rattle.rd_drive.specs.Replies.{last_state_by, state_after}
use Rattle.rd_irp.specs.declared.completion.Reply.{Reply}
use Rattle.rd_irp.specs.declared.request.Request.{Request}
use Rattle.rd_joined.specs.JournalsOrderly.{Orderly}
use Rattle.rd_joined.specs.JournalsReads.{ComesRead}
use Rattle.rd_joined.specs.JournalsStations.{AreFit}
use Rattle.rd_joined.proofs.JournalsDeclaredLemmas.{bounded_fit}
use Rattle.rd_joined.proofs.JournalsRunLemmas.{orderly_lawful, reached_orderly}
use Rattle.rd_joined.proofs.JournalsShortLemmas.{came_read}
use Rattle.rd_joined.proofs.JournalsWorkLemmas.{behind_working, station_tied}
use Rattle.rd_joined.proofs.JournalLemmas.{each_found}
use Rattle.rd_joined.proofs.RoomLemmas.{carried_now}
use Rattle.rd_joined.specs.RunsMoves.{RunMove, Reached, draws, happens, idle, after_move, queues}
use Rattle.rd_joined.specs.RunsPremises.{RunPremises}
use Rattle.rd_joined.proofs.RunsBeginningLemmas.{Unset, begins_as}
use Rattle.rd_joined.proofs.RunsParts.{reached_behind}
use Rattle.rd_joined.proofs.RunsReaching.{by_moves}
use Rattle.rd_joined.proofs.RunsTogether.{known}
use Rattle.rd_script.specs.declared.line.NumberedLine.{NumberedLine}
use Rattle.rd_station.specs.Station.{StationState}
use Rattle.rd_declared.specs.declared.device.SessionDevice.{SessionDevice}
use Rattle.rd_declared.specs.Devices.{Declared, device_cut, device_step}
use Rattle.rd_deeds.specs.Joining.{IsCarried}
use Rattle.rd_declared.specs.Declaring.{bare_lines, declared_devices}
use Rattle.rd_declared.specs.Replies.{RanRead, no_request, request_read}
use Rattle.rd_world.specs.Recording.{request_of}
use Rattle.rd_world.specs.Run.{station_of, world_of}
use Rattle.rd_world.specs.Session.{by_device, documents_of, printed_in}
use Rattle.rd_deeds.specs.Talk.{Deed, EachAfter, Has, journal, request_at}
use Rattle.rd_world.specs.World.{WorldState, station_at}
use Rattle.rd_world.proofs.Agreeing.{agree}
use Rattle.rd_world.proofs.GrowingLemmas.{acted_keys}
use Rattle.rd_deeds.proofs.Journals.{IsPlain, contains_has, plain_of}
use Rattle.rd_declared.proofs.DeclaringLemmas.{declared_openable}
use Rattle.rd_told.specs.Left.{AreLeft}

abbrev Of : Type 0
Of = StationState SessionDevice

-- ---- requests that ran were read

run_came : (items : List Item) → EachAfter IsPlain items → (key : Key) (moment : ℕ) (starved parked : Bool) → Has (Ran key moment starved parked) items → Has (Came key) items
run_came [] each key moment starved parked has = absurd has
run_came (x ∷ older) each key moment starved parked (inl same) = inr (subst (IsPlain older) (sym same) each.0).0
run_came (x ∷ older) each key moment starved parked (inr has) = inr (run_came older each.1 key moment starved parked has)

each_contained : {A : Type 0} (P : A → Type 0) (xs : List A) → ((x : A) → Contains xs x → P x) → AllByRecursion P xs
each_contained P [] all = tt
each_contained P (x ∷ xs) all = (all x (0, omega arith, refl), each_contained P xs (λ y has. all y (Contains-append_right (x ∷ []) xs y has)))

pub ran_read : (deeds : List Deed) (device : ℕ) → EachAfter ComesRead deeds → EachAfter IsPlain (journal device deeds) → AllByRecursion (RanRead deeds) (reverse (journal device deeds))
ran_read deeds device reads plain = each_contained (RanRead deeds) (reverse (journal device deeds)) (λ x has. by x (contains_has x (journal device deeds) has))
  where
    by : (x : Item) → Has x (journal device deeds) → RanRead deeds x
    by (Ran key moment starved parked) has =
        let (r, read, named) = came_read device key deeds reads (run_came (journal device deeds) plain key moment starved parked has) in (r, read)
    by (Came key) has = tt
    by (Cancelled key) has = tt
    by (Sent key) has = tt
    by (Cut cause) has = tt

-- ---- the state of a device

-- it is the same by the requests that were read and by those that were written
pub same_state : (deeds : List Deed) → IsCarried deeds → (s : SessionDevice) (items : List Item) → AllByRecursion (RanRead deeds) items
    → last_state_by device_step device_cut (request_read deeds) s items ≡ last_state_by device_step device_cut (request_of deeds) s items
same_state deeds carried s [] all = refl
same_state deeds carried s (Ran key moment starved parked ∷ items) ((r, read), all) =
    ap (λ (q : Request). last_state_by device_step device_cut (request_read deeds) (left q) items) same ∙ same_state deeds carried (left (request_of deeds key)) items all
  where
    left : Request → SessionDevice
    left q = state_after device_step device_cut (λ k. q) s (Ran key moment starved parked)

    same : request_read deeds key ≡ request_of deeds key
    same = ap (λ (o : Option Request). unwrap_or o no_request) read ∙ sym (agree deeds carried key r read)
same_state deeds carried s (Cut cause ∷ items) all = same_state deeds carried (device_cut s).state items all.1
same_state deeds carried s (Came key ∷ items) all = same_state deeds carried s items all.1
same_state deeds carried s (Cancelled key ∷ items) all = same_state deeds carried s items all.1
same_state deeds carried s (Sent key ∷ items) all = same_state deeds carried s items all.1

-- ---- stations under their devices' numbers

stations_keyed : (es : List (ℕ × Declared)) → keys_of (map station_of es) ≡ keys_of es
stations_keyed [] = refl
stations_keyed (e ∷ es) = ap (λ (ks : List ℕ). e.0 ∷ ks) (stations_keyed es)

printed_each : (f : ℕ → Declared → SessionDevice) (es : List (ℕ × Of)) (ds : List (ℕ × Declared)) → keys_of es ≡ keys_of ds
    → AllByRecursion (λ (d : ℕ × Declared). (s : Of) → lookup (is_at (nat_cmp d.0)) es ≡ Some s → s.device ≡ f d.0 d.1) ds
    → IsStrictlySortedBy nat_cmp (keys_of es) → flat_map printed_in es ≡ flat_map (λ (d : ℕ × Declared). by_device d.0 (f d.0 d.1)) ds
printed_each f es ds same all rise = go es ds same (paired es ds same (each_found es rise (λ k s. lookup (is_at (nat_cmp k)) es ≡ Some s) (λ k s there. there)) all)
  where
    paired : (xs : List (ℕ × Of)) (ys : List (ℕ × Declared)) → keys_of xs ≡ keys_of ys → AllByRecursion (λ (x : ℕ × Of). lookup (is_at (nat_cmp x.0)) es ≡ Some x.1) xs
        → AllByRecursion (λ (d : ℕ × Declared). (s : Of) → lookup (is_at (nat_cmp d.0)) es ≡ Some s → s.device ≡ f d.0 d.1) ys
        → map (λ (x : ℕ × Of). (let s = x.1 in s.device)) xs ≡ map (λ (d : ℕ × Declared). f d.0 d.1) ys
    paired [] [] same found all = refl
    paired [] (y ∷ ys) same found all = absurd (cc same)
    paired (x ∷ xs) [] same found all = absurd (cc same)
    paired (x ∷ xs) (y ∷ ys) same found all =
        let one : x.0 ≡ y.0 = cc same in
        let others : keys_of xs ≡ keys_of ys = cc same in
        let own : (x.1).device ≡ f y.0 y.1 = all.0 x.1 (subst (λ (n : ℕ). lookup (is_at (nat_cmp n)) es ≡ Some x.1) one found.0) in
        let later = paired xs ys others found.1 all.1 in
        cc (own, later)

    go : (xs : List (ℕ × Of)) (ys : List (ℕ × Declared)) → keys_of xs ≡ keys_of ys → map (λ (x : ℕ × Of). (let s = x.1 in s.device)) xs ≡ map (λ (d : ℕ × Declared). f d.0 d.1) ys
        → flat_map printed_in xs ≡ flat_map (λ (d : ℕ × Declared). by_device d.0 (f d.0 d.1)) ys
    go [] [] same devices = refl
    go [] (y ∷ ys) same devices = absurd (cc same)
    go (x ∷ xs) [] same devices = absurd (cc same)
    go (x ∷ xs) (y ∷ ys) same devices =
        let one : x.0 ≡ y.0 = cc same in
        let own : (x.1).device ≡ f y.0 y.1 = cc devices in
        let later = go xs ys (cc same) (cc devices) in
        λ i. by_device (one i) (own i) ++ later i

module _ (lines : List NumberedLine) (starves : Key → Bool) (premises : RunPremises lines) where
  abbrev devices : List (ℕ × Declared)
  devices = declared_devices (bare_lines lines)

  fit : AreFit devices
  fit = bounded_fit lines premises.bounded

  rising : IsStrictlySortedBy nat_cmp (keys_of devices)
  rising = (declared_openable lines premises.declared).rise

  move_keyed : (w : WorldState) (m : RunMove) → keys_of w.stations ≡ keys_of devices → keys_of (after_move starves w m).stations ≡ keys_of devices
  move_keyed w (happens e) same = acted_keys starves w e (subst (λ (ks : List ℕ). IsStrictlySortedBy nat_cmp ks) (sym same) rising) ∙ same
  move_keyed w (queues a) same = same
  move_keyed w (idle number) same = same
  move_keyed w draws same = same

  -- stations are those of the devices, in their order
  pub keyed : (w : WorldState) → Reached lines starves w → keys_of w.stations ≡ keys_of devices
  keyed w r =
      by_moves lines starves (λ x. keys_of x.stations ≡ keys_of devices) (begins_as lines (λ (u : Unset). keys_of u.stations ≡ keys_of devices) (stations_keyed devices))
      (λ x m steps same. move_keyed x m same) w r

  module _ (w : WorldState) (r : Reached lines starves w) where
    orderly : Orderly w
    orderly = reached_orderly lines starves w fit r

    abbrev AnyRequest : Request → Type 0
    AnyRequest q = Unit {0}

    abbrev AnyReply : Reply → Type 0
    AnyReply reply = Unit {0}

    -- each device is as its journal leaves it
    pub device_left : AreLeft devices w.stations w.deeds
    device_left device s there =
        let (x, at, tie) = station_tied AnyRequest AnyReply devices w fit
        (behind_working AnyRequest AnyReply tt (λ q d planned moment came fine same runs. record { answer = λ reply e. tt; ends = λ e has. tt }) lines starves w fit
        (reached_behind lines starves w r) (λ y k q read. tt)) device s there in
        let carried : IsCarried w.deeds = carried_now w.deeds (known lines starves premises w r).carries.each in
        let told : reverse (journal device w.deeds) ≡ s.journal = (orderly.held).tied device s there in
        let plain = plain_of (journal device w.deeds) (orderly_lawful w orderly device) in (
          x,
          at,
          tie.device ∙ ap (λ (items : List Item). last_state_by device_step device_cut (request_read w.deeds) x.state items) (sym told)
              ∙ same_state w.deeds carried x.state (reverse (journal device w.deeds)) (ran_read w.deeds device (orderly.held).reads plain),
        )

    -- so the documents of printers are those that journals leave
    pub documents_told : flat_map printed_in w.stations ≡ flat_map (documents_of w.deeds) devices
    documents_told =
        let same = keyed w r in
        printed_each left w.stations devices same (each_found devices rising (λ k d. (s : Of) → lookup (is_at (nat_cmp k)) w.stations ≡ Some s → s.device ≡ left k d) one)
        (subst (λ (ks : List ℕ). IsStrictlySortedBy nat_cmp ks) (sym same) rising)
      where
        left : ℕ → Declared → SessionDevice
        left k d = last_state_by device_step device_cut (request_of w.deeds) d.state (reverse (journal k w.deeds))

        one : (k : ℕ) (d : Declared) → lookup (is_at (nat_cmp k)) devices ≡ Some d → (s : Of) → lookup (is_at (nat_cmp k)) w.stations ≡ Some s → s.device ≡ left k d
        one k d at s there =
            let (x, is, own) = device_left k s there in
            let same : x ≡ d = (let both : Some x ≡ Some d = sym is ∙ at in cc) in
            own ∙ ap (left k) same
