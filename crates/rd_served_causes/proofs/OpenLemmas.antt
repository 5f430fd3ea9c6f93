-- Each part of a call leaves the stations open as the host was told, but for what is still to be done.
use Rattle.std.proofs.Common.{◌≡◌, ◌∙◌, refl, sym, ap, subst, ℕ, zero, suc, ◌≤◌, ◌==◌, ◌||◌, ◌&&◌, Bool, true, false, not, List, [], ◌∷◌, map, Some, Ok, Err, arith, slice_get, eq-eqb, eqb-true}
use Rattle.std.specs.Prelude.{nat_eq}
use Rattle.std.specs.List.{AllByRecursion, IsDistinct, list_any}
use Rattle.rd_served_order.proofs.AnsweredListedLemmas.{gone_own, has_marked}
use Rattle.rd_served_order.specs.AnsweredRefusing.{is_told_by}
use Rattle.rd_base.specs.declared.journal.Item.{Item}
use Rattle.rd_client.specs.Core.{ClientCoreState, ClientDevice, announce_in, is_device, with_mark}
use Rattle.rd_client.specs.Order.{is_client_ready}
use Rattle.rd_desk.specs.Desk.{told_by}
use Rattle.rd_desk.specs.declared.calls.DeskCall.{DeskCall}
use Rattle.rd_desk.specs.declared.calls.DeskCall.TheVariants as desk
use Rattle.rd_desk.specs.declared.calls.DeskReply.{DeskReply}
use Rattle.rd_desk.specs.declared.calls.DeskReply.TheVariants as replied
use Rattle.rd_devices.specs.declared.list.Announce.{Announce}
use Rattle.rd_front.specs.Front.{end_call}
use Rattle.rd_front.specs.State.{DeviceDeskState, FrontState, SessionDeskStep, SessionStation}
use Rattle.rd_station.specs.Station.{StationCall, applies, drop_channel, entry_count, takes}
use Rattle.rd_station.specs.Tied.{IsReached}
use Rattle.rd_station.specs.declared.refusals.AnnounceNo.TheVariants as announce_no
use Rattle.rd_served_order.proofs.ServedKeyLemmas.{IsKeyed, has_at}
use Rattle.rd_served_order.specs.ServedParts.{CallsAt, EndsEach, IsOpenCall, ended_front, is_present_as}
use Rattle.rd_served_order.specs.ServedServed.{IsWork, Served}
use Rattle.rd_served_causes.proofs.DeskLemmas.{IsPlain, Stays, announce_open, removed_off, steps_stay}
use Rattle.rd_served_causes.specs.Open.{IsDeskAt}
use Rattle.rd_served_causes.specs.Worn.{IsWorn}
use Rattle.rd_served_order.specs.ServedDevices.{ServedDeviceState, served_cuts, served_parked, served_runs}

abbrev Of : Type 0
Of = SessionStation

-- ---- one station

abbrev pub IsReachedHere : Of → Type 0
IsReachedHere s = IsReached served_runs served_parked served_cuts s

abbrev pub StaysHere : Of → Of → Type 0
StaysHere s t = Stays served_runs served_parked served_cuts s t

all_plain : (cs : List StationCall) → AllByRecursion IsWork cs → AllByRecursion (IsPlain served_runs served_parked served_cuts) cs
all_plain [] work = tt
all_plain (takes answer ∷ cs) work = ((tt, tt), all_plain cs work.1)
all_plain (applies planned moment answer ∷ cs) work = ((tt, tt), all_plain cs work.1)
all_plain (call ∷ cs) work = absurd work.0

both_stay : (s t u : Of) → StaysHere s t → StaysHere t u → StaysHere s u
both_stay s t u first second = record { reached = second.reached; grows = (let a = first.grows in let b = second.grows in omega (arith, a, b)); live = second.live ∙ first.live }

pub worn_still : (s t : Of) → entry_count s ≤ entry_count t → IsWorn s → IsWorn t
worn_still s t more worn = omega (arith, more, worn)

-- a call by which a job comes, or one for a completion
abbrev pub IsQuietCall : DeskCall → Type 0
IsQuietCall (desk.Put job) = Unit {0}
IsQuietCall desk.Collect = Unit {0}
IsQuietCall _ = ⊥

quiet_stays : (does : DeskCall) (back : DeskReply) (s t : Of) → IsQuietCall does → IsReachedHere s → SessionDeskStep s does back t → StaysHere s t
quiet_stays (desk.Put job) (replied.Put (Ok done)) s t own reached step = steps_stay served_runs served_parked served_cuts (told_by (desk.Put job) (replied.Put (Ok done))) s t ((tt, tt), tt) reached step.0
quiet_stays (desk.Put job) (replied.Put (Err refusal)) s t own reached step = steps_stay served_runs served_parked served_cuts (told_by (desk.Put job) (replied.Put (Err refusal))) s t ((tt, tt), tt) reached step.0
quiet_stays (desk.Put job) (replied.Unfit back) s t own reached step = steps_stay served_runs served_parked served_cuts (told_by (desk.Put job) (replied.Unfit back)) s t ((tt, tt), tt) reached step.0
quiet_stays (desk.Put job) (replied.Announced answer) s t own reached step = absurd step.1
quiet_stays (desk.Put job) (replied.Worked w) s t own reached step = absurd step.1
quiet_stays (desk.Put job) (replied.Collected answer) s t own reached step = absurd step.1
quiet_stays (desk.Put job) (replied.Removed answer) s t own reached step = absurd step.1
quiet_stays (desk.Put job) replied.Dropped s t own reached step = absurd step.1
quiet_stays (desk.Put job) replied.Ended s t own reached step = absurd step.1
quiet_stays desk.Collect (replied.Collected answer) s t own reached step = steps_stay served_runs served_parked served_cuts (told_by desk.Collect (replied.Collected answer)) s t ((tt, tt), tt) reached step.0
quiet_stays desk.Collect (replied.Announced answer) s t own reached step = absurd step.1
quiet_stays desk.Collect (replied.Put answer) s t own reached step = absurd step.1
quiet_stays desk.Collect (replied.Unfit job) s t own reached step = absurd step.1
quiet_stays desk.Collect (replied.Worked w) s t own reached step = absurd step.1
quiet_stays desk.Collect (replied.Removed answer) s t own reached step = absurd step.1
quiet_stays desk.Collect replied.Dropped s t own reached step = absurd step.1
quiet_stays desk.Collect replied.Ended s t own reached step = absurd step.1
quiet_stays desk.Announce back s t own reached step = absurd own
quiet_stays desk.Remove back s t own reached step = absurd own
quiet_stays (desk.Work runs) back s t own reached step = absurd own
quiet_stays desk.DropChannel back s t own reached step = absurd own
quiet_stays desk.End back s t own reached step = absurd own

-- no memory was found for an announcement, and nothing changed
pub memory_same : (s t : Of) → SessionDeskStep s desk.Announce (replied.Announced (Err announce_no.Memory)) t → t ≡ s
memory_same s t step = (step.0).2 ∙ ((step.0).1).1

-- ---- a desk is called

pub reached_at : (p : Served) (place : ℕ) (s : Of) → IsKeyed p → slice_get p.stations place ≡ Some s → IsReachedHere s
reached_at p place s keyed at = ((keyed.on s (has_at p.stations place s at)).sound).reached

module _ (p q : Served) (place id : ℕ) (does : DeskCall) (back : DeskReply) (items : List Item) (keyed : IsKeyed p) (at : CallsAt p place id does back items q) where
  -- what hands did before the call
  pub worked : StaysHere at.first (at.called).middle
  worked = steps_stay served_runs served_parked served_cuts (at.called).works.calls at.first (at.called).middle (all_plain (at.called).works.calls (at.called).works.work) (reached_at p place at.first keyed at.has) (at.called).works.steps

  pub quiet_call : IsQuietCall does → StaysHere at.first at.last
  quiet_call own = both_stay at.first (at.called).middle at.last worked (quiet_stays does back (at.called).middle at.last own worked.reached (at.called).step)

  first_at : IsDeskAt p place at.before at.first
  first_at = (at.there, at.has)

-- each call but the end of a channel leaves a worn journal worn
pub call_grows : (p q : Served) (place id : ℕ) (does : DeskCall) (back : DeskReply) (items : List Item) → IsKeyed p → (at : CallsAt p place id does back items q) → IsWorn at.first → IsWorn at.last
call_grows p q place id does back items keyed at worn = by does back at.own (at.called).step
  where
    work : StaysHere at.first (at.called).middle
    work = worked p q place id does back items keyed at

    middle : IsWorn (at.called).middle
    middle = worn_still at.first (at.called).middle work.grows worn

    quiet : (d : DeskCall) (r : DeskReply) → IsQuietCall d → SessionDeskStep (at.called).middle d r at.last → IsWorn at.last
    quiet d r own step = worn_still (at.called).middle at.last (quiet_stays d r (at.called).middle at.last own work.reached step).grows middle

    by : (d : DeskCall) (r : DeskReply) → IsOpenCall d → SessionDeskStep (at.called).middle d r at.last → IsWorn at.last
    by (desk.Put job) r own step = quiet (desk.Put job) r tt step
    by desk.Collect r own step = quiet desk.Collect r tt step
    by desk.Announce (replied.Announced (Err announce_no.Memory)) own step = subst (λ (s : Of). IsWorn s) (sym (memory_same (at.called).middle at.last step)) middle
    by desk.Announce (replied.Announced (Ok done)) own step = worn_still (at.called).middle at.last (announce_open served_runs served_parked served_cuts (at.called).middle at.last work.reached (Ok done) (λ e. cc (e)) step).1 middle
    by desk.Announce (replied.Announced (Err announce_no.Live)) own step = worn_still (at.called).middle at.last (announce_open served_runs served_parked served_cuts (at.called).middle at.last work.reached (Err announce_no.Live) (λ e. cc (e)) step).1 middle
    by desk.Announce (replied.Announced (Err (announce_no.Worn count))) own step = worn_still (at.called).middle at.last (announce_open served_runs served_parked served_cuts (at.called).middle at.last work.reached (Err (announce_no.Worn count)) (λ e. cc (e)) step).1 middle
    by desk.Announce (replied.Put answer) own step = absurd step.1
    by desk.Announce (replied.Unfit job) own step = absurd step.1
    by desk.Announce (replied.Worked w) own step = absurd step.1
    by desk.Announce (replied.Collected answer) own step = absurd step.1
    by desk.Announce (replied.Removed answer) own step = absurd step.1
    by desk.Announce replied.Dropped own step = absurd step.1
    by desk.Announce replied.Ended own step = absurd step.1
    by desk.Remove (replied.Removed answer) own step = worn_still (at.called).middle at.last (removed_off served_runs served_parked served_cuts (at.called).middle at.last work.reached answer step).1 middle
    by desk.Remove (replied.Announced answer) own step = absurd step.1
    by desk.Remove (replied.Put answer) own step = absurd step.1
    by desk.Remove (replied.Unfit job) own step = absurd step.1
    by desk.Remove (replied.Worked w) own step = absurd step.1
    by desk.Remove (replied.Collected answer) own step = absurd step.1
    by desk.Remove replied.Dropped own step = absurd step.1
    by desk.Remove replied.Ended own step = absurd step.1
    by (desk.Work runs) r own step = absurd own
    by desk.DropChannel r own step = absurd own
    by desk.End r own step = absurd own

-- ---- a channel ends

drop_off : (s : Of) (cut : ServedDeviceState) → (drop_channel s cut).live ≡ false
drop_off s cut = by s.live refl
  where
    by : (b : Bool) → s.live ≡ b → (drop_channel (record s { live = b }) cut).live ≡ false
    by true e = refl
    by false e = refl

ended_off : (over : Bool) (back : DeskReply) (s t : Of) → SessionDeskStep s (end_call over) back t → t.live ≡ false
ended_off true replied.Ended s t step = ap (λ (x : Of). x.live) (step.0).2 ∙ sym (ap (λ (x : Of). x.live) ((step.0).1).1) ∙ drop_off s ((step.0).1).0
ended_off false replied.Dropped s t step = ap (λ (x : Of). x.live) (step.0).2 ∙ sym (ap (λ (x : Of). x.live) ((step.0).1).1) ∙ drop_off s ((step.0).1).0
ended_off true (replied.Announced answer) s t step = absurd step.1
ended_off true (replied.Put answer) s t step = absurd step.1
ended_off true (replied.Unfit job) s t step = absurd step.1
ended_off true (replied.Worked w) s t step = absurd step.1
ended_off true (replied.Collected answer) s t step = absurd step.1
ended_off true (replied.Removed answer) s t step = absurd step.1
ended_off true replied.Dropped s t step = absurd step.1
ended_off false (replied.Announced answer) s t step = absurd step.1
ended_off false (replied.Put answer) s t step = absurd step.1
ended_off false (replied.Unfit job) s t step = absurd step.1
ended_off false (replied.Worked w) s t step = absurd step.1
ended_off false (replied.Collected answer) s t step = absurd step.1
ended_off false (replied.Removed answer) s t step = absurd step.1
ended_off false replied.Ended s t step = absurd step.1

pub each_off : (over : Bool) (ds : List DeviceDeskState) (ss : List Of) (ts : List (ℕ × List Item)) (es : List DeviceDeskState) (us : List Of) → EndsEach over ds ss ts es us → (place : ℕ) (u : Of) → slice_get us place ≡ Some u → u.live ≡ false
each_off over [] [] [] [] [] ended place u at = absurd (cc (at))
each_off over (d ∷ ds) (s ∷ ss) (t ∷ ts) (e ∷ es) (v ∷ us) ended zero u at =
    let same : v ≡ u = cc (at) in
    subst (λ (x : Of). x.live ≡ false) same (ended_off over ended.0 (ended.2).middle v (ended.2).step)
each_off over (d ∷ ds) (s ∷ ss) (t ∷ ts) (e ∷ es) (v ∷ us) ended (suc place) u at = each_off over ds ss ts es us ended.3 place u at
each_off over ds ss ts es us ended place u at = absurd ended

pub ended_on : (over : Bool) (s : FrontState) (ds : List DeviceDeskState) → (ended_front over s ds).on ≡ false
ended_on true s ds = refl
ended_on false s ds = refl

-- ---- marks

first_off : (a b : Bool) → (a || b) ≡ false → (a ≡ false) × (b ≡ false)
first_off true b is = absurd (cc (is))
first_off false b is = (refl, is)

abbrev HasOf : ℕ → List ClientDevice → Bool
HasOf device ds = list_any (is_device device) ds

abbrev GoneOf : ℕ → List ClientDevice → Bool
GoneOf device ds = list_any (λ x. is_device device x && x.removed) ds

turned : (a b : ℕ) → (a == b) ≡ false → (b == a) ≡ false
turned a b other = by (b == a) refl
  where
    by : (c : Bool) → (b == a) ≡ c → c ≡ false
    by true is = absurd (let same = eq-eqb a b (sym (eqb-true b a is)) in cc (same, other))
    by false is = refl

none_has : (d : ℕ) (ds : List ClientDevice) → AllByRecursion (λ y. nat_eq d y ≡ false) (map (λ (a : Announce). a.id) (map announce_in ds)) → HasOf d ds ≡ false
none_has d [] differ = refl
none_has d (x ∷ ds) differ = λ i. turned d (x.announce).id differ.0 i || none_has d ds differ.1 i

none_gone : (d : ℕ) (ds : List ClientDevice) → HasOf d ds ≡ false → GoneOf d ds ≡ false
none_gone d [] none = refl
none_gone d (x ∷ ds) none = let both = first_off (is_device d x) (HasOf d ds) none in λ i. (both.0 i && x.removed) || none_gone d ds both.1 i

some_has : (d : ℕ) (ds : List ClientDevice) → list_any (is_present_as d) ds ≡ true → HasOf d ds ≡ true
some_has d [] is = is
some_has d (x ∷ ds) is = by (is_device d x) is (some_has d ds)
  where
    by : (b : Bool) → ((b && not x.removed) || list_any (is_present_as d) ds) ≡ true → (list_any (is_present_as d) ds ≡ true → HasOf d ds ≡ true) → (b || HasOf d ds) ≡ true
    by true e later = refl
    by false e later = later e

-- a device that is there isn't gone, where no two are the same
pub present_stays : (d : ℕ) (ds : List ClientDevice) → IsDistinct nat_eq (map (λ (a : Announce). a.id) (map announce_in ds)) → list_any (is_present_as d) ds ≡ true → (HasOf d ds && not (GoneOf d ds)) ≡ true
unfolding IsDistinct
present_stays d [] apart is = absurd (cc (is))
present_stays d (x ∷ ds) apart is = by (is_device d x) refl x.removed refl is (present_stays d ds apart.1)
  where
    alone : is_device d x ≡ true → HasOf d ds ≡ false
    alone e = none_has d ds (subst (λ (k : ℕ). AllByRecursion (λ y. nat_eq k y ≡ false) (map (λ (a : Announce). a.id) (map announce_in ds))) (eqb-true (x.announce).id d e) apart.0)

    by : (b : Bool) → is_device d x ≡ b → (r : Bool) → x.removed ≡ r → ((b && not r) || list_any (is_present_as d) ds) ≡ true → (list_any (is_present_as d) ds ≡ true → (HasOf d ds && not (GoneOf d ds)) ≡ true)
        → ((b || HasOf d ds) && not ((b && r) || GoneOf d ds)) ≡ true
    by true e true f some later = absurd (let has = some_has d ds some in let none = alone e in cc (has, none))
    by true e false f some later = ap not (none_gone d ds (alone e))
    by false e r f some later = later some

-- a device that is told there once it is there again
pub told_added : (c : ClientCoreState) (d : ℕ) → is_told_by c d ≡ true → is_told_by (with_mark c d false) d ≡ true
told_added c d told = (λ i. is_client_ready (c.core).shake && (has_marked d d false c.devices i && not (gone_own d false c.devices i))) ∙ by (is_client_ready (c.core).shake) (HasOf d c.devices) (GoneOf d c.devices) told
  where
    by : (r h g : Bool) → (r && (h && not g)) ≡ true → (r && (h && not (false && h))) ≡ true
    by true true g is = refl
    by true false g is = is
    by false h g is = is
