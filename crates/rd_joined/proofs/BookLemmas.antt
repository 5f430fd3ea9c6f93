-- The books of a session hold the journals of its devices.
use Rattle.std.proofs.Common.{◌≡◌, ◌∙◌, refl, sym, ap, subst, inl, inr, ℕ, Bool, List, [], ◌∷◌, true, false, cond, map, reverse, Some, None, Option}
use Rattle.std.specs.Prelude.{All}
use Rattle.std.specs.List.{AllByRecursion}
use Rattle.std.specs.List.Sorted.{IsStrictlySortedBy}
use Rattle.std.specs.Map.{keys_of, lookup}
use Rattle.std.specs.Ordering.{nat_cmp}
use Rattle.std.specs.BTreeMap.{is_at}
use Rattle.std.specs.Option.{IfSome}
use Rattle.std.proofs.lemmas.List.Elements.{All-contains, All-from_recursion}
use Rattle.rd_base.specs.declared.journal.Item.{Item}
use Rattle.rd_base.specs.declared.journal.Key.{Key}
use Rattle.rd_base.specs.Lawful.{RunsAt}
use Rattle.rd_drive.specs.Replies.{AreToldBy}
use Rattle.rd_journals.specs.Jobs.{IsTiedTo}
use Rattle.rd_journals.specs.Orderly.{Orderly}
use Rattle.rd_journals.specs.Stations.{AreFit}
use Rattle.rd_journals.proofs.RunLemmas.{orderly_lawful, reached_orderly}
use Rattle.rd_journals.proofs.WorkLemmas.{behind_working, station_tied}
use Rattle.rd_irp.specs.declared.completion.Reply.{Reply}
use Rattle.rd_irp.specs.declared.request.Request.{Request}
use Rattle.rd_journals.specs.RunsMoves.{RunMove, Reached, draws, happens, idle, after_move, queues}
use Rattle.rd_journals.specs.RunsPremises.{RunPremises}
use Rattle.rd_journals.proofs.RunsBeginningLemmas.{Unset, begins_as}
use Rattle.rd_journals.proofs.RunsParts.{reached_behind}
use Rattle.rd_journals.proofs.RunsReaching.{by_moves}
use Rattle.rd_journals.proofs.RunsTogether.{known}
use Rattle.rd_script.specs.declared.line.NumberedLine.{NumberedLine}
use Rattle.rd_station.specs.Station.{StationState}
use Rattle.rd_declared.specs.declared.device.SessionDevice.{SessionDevice}
use Rattle.rd_declared.specs.Devices.{Declared, device_cut, device_step}
use Rattle.rd_deeds.specs.Joining.{IsCarried}
use Rattle.rd_declared.specs.Declaring.{bare_lines, declared_devices}
use Rattle.rd_world.specs.Recording.{request_of}
use Rattle.rd_world.specs.Run.{station_of, world_of}
use Rattle.rd_declared.specs.Replies.{request_read}
use Rattle.rd_world.specs.Session.{IsOfDevice}
use Rattle.rd_deeds.specs.Talk.{EachAfter, Has, journal}
use Rattle.rd_world.specs.World.{WorldState, journals_in, station_at}
use Rattle.rd_world.proofs.GrowingLemmas.{acted_keys}
use Rattle.rd_deeds.proofs.Journals.{IsPlain, has_contains, plain_of}
use Rattle.rd_declared.proofs.DeclaringLemmas.{declared_openable}
use Rattle.rd_joined.proofs.ClockLemmas.{clocked}
use Rattle.rd_joined.proofs.CutLemmas.{found}
use Rattle.rd_joined.proofs.JournalLemmas.{each_found, marked_written, named_written}
use Rattle.rd_joined.proofs.RoomLemmas.{carried_now}

abbrev Of : Type 0
Of = StationState SessionDevice

-- ---- devices keep their numbers

stations_keyed : (es : List (ℕ × Declared)) → keys_of (map station_of es) ≡ keys_of es
stations_keyed [] = refl
stations_keyed (e ∷ es) = ap (λ (ks : List ℕ). e.0 ∷ ks) (stations_keyed es)

same_found : {X Y : Type 0} (test : ℕ → Bool) (es : List (ℕ × X)) (ds : List (ℕ × Y)) → keys_of es ≡ keys_of ds → (y : Y) → lookup test ds ≡ Some y → (x : X) × (lookup test es ≡ Some x)
same_found test es [] same y is = absurd (cc is)
same_found test [] (d ∷ ds) same y is = absurd (cc same)
same_found {X} {Y} test (e ∷ es) (d ∷ ds) same y is =
    let one : e.0 ≡ d.0 = cc same in
    let others : keys_of es ≡ keys_of ds = cc same in
    by (test e.0) (test d.0) (ap test one) is (same_found test es ds others y)
  where
    by : (a b : Bool) → a ≡ b → cond b (Some d.1) (lookup test ds) ≡ Some y → (lookup test ds ≡ Some y → (x : X) × (lookup test es ≡ Some x)) → (x : X) × (cond a (Some e.1) (lookup test es) ≡ Some x)
    by true b alike there later = (e.1, refl)
    by false true alike there later = absurd (cc alike)
    by false false alike there later = later there

listed : (f : ℕ → List Item) (es : List (ℕ × Of)) (ds : List (ℕ × Declared)) → keys_of es ≡ keys_of ds → AllByRecursion (λ (e : ℕ × Of). f e.0 ≡ (e.1).journal) es
    → map {B = ℕ × List Item} (λ (e : ℕ × Of). let s = e.1 in (e.0, s.journal)) es ≡ map {B = ℕ × List Item} (λ (d : ℕ × Declared). (d.0, f d.0)) ds
listed f [] [] same all = refl
listed f [] (d ∷ ds) same all = absurd (cc same)
listed f (e ∷ es) [] same all = absurd (cc same)
listed f (e ∷ es) (d ∷ ds) same all =
    let one : e.0 ≡ d.0 = cc same in
    let others : keys_of es ≡ keys_of ds = cc same in
    let own : (e.1).journal ≡ f d.0 = sym all.0 ∙ ap f one in
    let later = listed f es ds others all.1 in
    cc (one, own, later)

module _ (lines : List NumberedLine) (starves : Key → Bool) (premises : RunPremises lines) (fit : AreFit (declared_devices (bare_lines lines))) where
  abbrev pub devices : List (ℕ × Declared)
  devices = declared_devices (bare_lines lines)

  rising : IsStrictlySortedBy nat_cmp (keys_of devices)
  rising = (declared_openable lines premises.declared).rise

  move_keyed : (w : WorldState) (m : RunMove) → keys_of w.stations ≡ keys_of devices → keys_of (after_move starves w m).stations ≡ keys_of devices
  move_keyed w (happens e) same = acted_keys starves w e (subst (λ (ks : List ℕ). IsStrictlySortedBy nat_cmp ks) (sym same) rising) ∙ same
  move_keyed w (queues a) same = same
  move_keyed w (idle number) same = same
  move_keyed w draws same = same

  keyed : (w : WorldState) → Reached lines starves w → keys_of w.stations ≡ keys_of devices
  keyed w r =
      by_moves lines starves (λ x. keys_of x.stations ≡ keys_of devices) (begins_as lines (λ (u : Unset). keys_of u.stations ≡ keys_of devices) (stations_keyed devices))
      (λ x m steps same. move_keyed x m same) w r

  module _ (w : WorldState) (r : Reached lines starves w) where
    orderly : Orderly w
    orderly = reached_orderly lines starves w fit r

    carried : IsCarried w.deeds
    carried = carried_now w.deeds (known lines starves premises w r).carries.each

    plain : (device : ℕ) → EachAfter IsPlain (journal device w.deeds)
    plain device = plain_of (journal device w.deeds) (orderly_lawful w orderly device)

    -- what is stored is what was done
    pub stored : journals_in w ≡ map {B = ℕ × List Item} (λ (d : ℕ × Declared). (d.0, reverse (journal d.0 w.deeds))) devices
    stored =
        let same = keyed w r in
        listed (λ device. reverse (journal device w.deeds)) w.stations devices same
        (each_found w.stations (subst (λ (ks : List ℕ). IsStrictlySortedBy nat_cmp ks) (sym same) rising) (λ device s. reverse (journal device w.deeds) ≡ s.journal)
        (λ device s there. (orderly.held).tied device s there))

    pub named : (device : ℕ) → All (IsOfDevice w.deeds device) (journal device w.deeds)
    named device = named_written w.deeds device carried (orderly.held).reads (plain device)

    abbrev AnyRequest : Request → Type 0
    AnyRequest q = Unit {0}

    abbrev AnyReply : Reply → Type 0
    AnyReply reply = Unit {0}

    tied : (device : ℕ) (s : Of) → station_at w device ≡ Some s → (x : Declared) × (lookup (is_at (nat_cmp device)) devices ≡ Some x) × IsTiedTo w.deeds x s
    tied device s there =
        station_tied AnyRequest AnyReply devices w fit
        (behind_working AnyRequest AnyReply tt (λ q d planned moment came fine same runs. record { answer = λ reply e. tt; ends = λ e has. tt }) lines starves w fit
        (reached_behind lines starves w r) (λ x k q read. tt)) device s there

    abbrev IsMarked : ℕ → Declared → Type 0
    IsMarked device d = AreToldBy device_step device_cut (request_of w.deeds) d.state (reverse (journal device w.deeds))

    pub marked : All (λ (d : ℕ × Declared). IsMarked d.0 d.1) devices
    marked = All-from_recursion (λ (d : ℕ × Declared). IsMarked d.0 d.1) devices (each_found devices rising IsMarked one)
      where
        one : (device : ℕ) (d : Declared) → lookup (is_at (nat_cmp device)) devices ≡ Some d → IsMarked device d
        one device d at =
            let (s, there) = same_found (is_at (nat_cmp device)) w.stations devices (keyed w r) d at in
            let (x, is, tie) = tied device s there in
            let same : x ≡ d = cc (sym is ∙ at) in
            let marks : AreToldBy device_step device_cut (request_read w.deeds) x.state (reverse (journal device w.deeds)) =
            subst (λ (items : List Item). AreToldBy device_step device_cut (request_read w.deeds) x.state items) (sym ((orderly.held).tied device s there)) tie.marked in
            subst (IsMarked device) same (marked_written w.deeds device x.state carried (orderly.held).reads (plain device) marks)

    had : {A : Type 0} (P : A → Type 0) (xs : List A) → ((x : A) → Has x xs → P x) → AllByRecursion P xs
    had P [] all = tt
    had P (x ∷ xs) all = (all x (inl refl), had P xs (λ y has. all y (inr has)))

    abbrev AtMoment : Of → Type 0
    AtMoment s = AllByRecursion (RunsAt (world_of lines).moment) s.journal

    pub still_clock : (device : ℕ) → All (RunsAt (world_of lines).moment) (journal device w.deeds)
    still_clock device = All-from_recursion (RunsAt (world_of lines).moment) (journal device w.deeds) (by (station_at w device) refl (found AtMoment w device (clocked lines starves w r)))
      where
        by : (o : Option Of) → station_at w device ≡ o → IfSome o AtMoment → AllByRecursion (RunsAt (world_of lines).moment) (journal device w.deeds)
        by None there at = subst (AllByRecursion (RunsAt (world_of lines).moment)) (sym ((orderly.held).none device there)) tt
        by (Some s) there at =
            let whole : All (RunsAt (world_of lines).moment) (reverse (journal device w.deeds)) =
            subst (All (RunsAt (world_of lines).moment)) (sym ((orderly.held).tied device s there)) (All-from_recursion (RunsAt (world_of lines).moment) s.journal at) in
            had (RunsAt (world_of lines).moment) (journal device w.deeds)
            (λ x has. All-contains (RunsAt (world_of lines).moment) (reverse (journal device w.deeds)) x whole (has_contains x (journal device w.deeds) has))
