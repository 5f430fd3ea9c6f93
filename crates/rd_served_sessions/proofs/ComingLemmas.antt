-- A request comes to a device only where that is there for the host.
use Rattle.std.proofs.Common.{◌≡◌, ◌⊎◌, ◌∙◌, refl, sym, ap, subst, inl, inr, ℕ, ◌&&◌, ◌||◌, Bool, true, false, not, List, [], ◌∷◌, ◌++◌, map, reverse, Option, Some, None, eqb-true, append_assoc}
use Rattle.std.specs.Prelude.{Result, Ok, Err, cond}
use Rattle.std.specs.List.{list_any}
use Rattle.std.specs.Option.{option_map_or}
use Rattle.rd_served_causes.specs.ActedActed.{state_read}
use Rattle.rd_base.specs.declared.journal.Item.{Item}
use Rattle.rd_base.specs.declared.journal.Item.TheVariants.{Came, Cancelled, Cut, Ran, Sent}
use Rattle.rd_base.specs.declared.journal.Key.{Key}
use Rattle.rd_client.specs.Core.{ClientCoreState, ClientDevice, Outgoing, client_hear, client_side, has_device, is_device, is_gone}
use Rattle.rd_client.specs.Events.{AreWritable}
use Rattle.rd_client.specs.Order.{is_client_ready}
use Rattle.rd_client.specs.declared.heard.Heard.{Heard}
use Rattle.rd_client.specs.declared.heard.Heard.TheVariants.{Ask, Nothing, Print}
use Rattle.rd_core.specs.Hearing as hearing
use Rattle.rd_desk.specs.Desk.{told_by}
use Rattle.rd_desk.specs.declared.calls.DeskCall.{DeskCall}
use Rattle.rd_desk.specs.declared.calls.DeskCall.TheVariants as desk
use Rattle.rd_desk.specs.declared.calls.DeskReply.{DeskReply}
use Rattle.rd_desk.specs.declared.calls.DeskReply.TheVariants as replied
use Rattle.rd_devices.specs.declared.list.Announce.{Announce}
use Rattle.rd_drive.specs.declared.plan.Job.{Job}
use Rattle.rd_front.specs.Calls.{FrontEntry}
use Rattle.rd_front.specs.Front.{desk_place, end_call, is_front_ready, is_told_there}
use Rattle.rd_front.specs.State.{DeviceDeskState, SessionStation}
use Rattle.rd_hello.specs.declared.client.ClientState.{ClientState}
use Rattle.rd_hello.specs.declared.end_fault.EndFault.{EndFault}
use Rattle.rd_hello.specs.declared.end_fault.EndFault.TheVariants as fault
use Rattle.rd_served_causes.proofs.JournalsHeldLemmas.{stored_unread, turned_has}
use Rattle.rd_served_causes.proofs.JournalsWorkLemmas.{grown_more}
use Rattle.rd_served_causes.specs.JournalsJobs.{AreFine, FitsCompletion}
use Rattle.rd_station.specs.Station as station
use Rattle.rd_station.specs.Station.{held, max_entries, max_held, entry_count, put_refusal, put_unless}
use Rattle.rd_station.specs.declared.refusals.PutWhy.{PutWhy}
use Rattle.rd_station.specs.declared.refusals.PutWhy.TheVariants as why
use Rattle.rd_deeds.specs.Talk.{Deed, EachAfter, client_read, is_removed, request_at, stores}
use Rattle.rd_world.specs.World.{Kept}
use Rattle.rd_deeds.specs.Talk.{Has}
use Rattle.rd_served_causes.proofs.ServedCauseLemmas.{new_at}
use Rattle.rd_served_causes.proofs.ServedComesLemmas.{ComesBy, called_comes, end_comes_none}
use Rattle.rd_served_causes.proofs.ServedKeyLemmas.{IsUnder, both_true}
use Rattle.rd_served_causes.proofs.ServedStandingLemmas.{IsKnownAt, begins_known, part_known}
use Rattle.rd_served_causes.specs.ServedDeeds.{deeds_after, deeds_of, deeds_of_calls, sent_by, stored, stored_each}
use Rattle.rd_served_causes.specs.ServedHistories.{HistoryGoes, StartsBy, may_start, stopped_by}
use Rattle.rd_served_causes.specs.ServedParts.{AsksBy, CallsAt, Comes, EndsEach, FrontPart, IsOpenCall, PartGoes, PartsGo, asking_by, begins, directs, ends, forgets, hears, is_start, keeps, learns, misplaces, refreshes, sends, tells_gone, tells_there, tries, unwritten, writes}
use Rattle.rd_served_causes.specs.ServedParts as part
use Rattle.rd_served_causes.specs.ServedServed.{Asking, Served}
use Rattle.rd_served_causes.proofs.ServedOrderOwnLemmas.{IsOwn, MarksAre, begins_own, part_own, stored_keeps}
use Rattle.rd_served_causes.specs.ServedOrderOrders.{BeginsWith}
use Rattle.rd_served_causes.specs.ServedRefusalsHeeding.{hindered_by, stopped_after}
use Rattle.rd_served_causes.proofs.CallLemmas.{history_said}
use Rattle.rd_served_causes.proofs.LaterLemmas.{AreUnworn, comes_next}
use Rattle.rd_served_causes.proofs.OpenLemmas.{worked}
use Rattle.rd_served_causes.proofs.PlaceLemmas.{ids_of, part_ids}
use Rattle.rd_served_causes.proofs.SayLemmas.{AllRight, AreSaid, IsWornFor}
use Rattle.rd_served_causes.proofs.StepLemmas.{AreApartIn, LeavesDue, part_off, part_open}
use Rattle.rd_served_causes.specs.Causes.{HaveDesks, StartUnhindered}
use Rattle.rd_served_causes.specs.Open.{AreOff, IsDeskAt, IsOpen, Never}
use Rattle.rd_served_sessions.proofs.EndingLemmas.{calls_more}
use Rattle.rd_served_sessions.proofs.FollowLemmas.{Follows, ask_keeps, new_follows, part_follows}
use Rattle.rd_served_sessions.specs.Comings.{ComesThere}

abbrev Of : Type 0
Of = SessionStation

-- ---- where a device is there

-- one that a client has, and that isn't marked as gone, wasn't removed
kept_there : (device : ℕ) (deeds : List Deed) (ds : List ClientDevice) → MarksAre deeds ds → list_any (is_device device) ds ≡ true → list_any (λ (x : ClientDevice). is_device device x && x.removed) ds ≡ false → is_removed device deeds ≡ false
kept_there device deeds [] marks has gone = absurd (cc (has))
kept_there device deeds (x ∷ ds) marks has gone = by (kept_there device deeds ds marks.1) (is_device device x) refl x.removed refl has gone
  where
    by : (list_any (is_device device) ds ≡ true → list_any (λ (y : ClientDevice). is_device device y && y.removed) ds ≡ false → is_removed device deeds ≡ false) → (b : Bool) → is_device device x ≡ b → (r : Bool) → x.removed ≡ r
        → (b || list_any (is_device device) ds) ≡ true → ((b && r) || list_any (λ (y : ClientDevice). is_device device y && y.removed) ds) ≡ false → is_removed device deeds ≡ false
    by others true e false f some none = subst (λ (n : ℕ). is_removed n deeds ≡ false) (eqb-true (x.announce).id device e) (sym marks.0 ∙ f)
    by others true e true f some none = absurd (cc (none))
    by others false e r f some none = others some none

unmarked : (b : Bool) → not b ≡ true → b ≡ false
unmarked true is = absurd (cc (is))
unmarked false is = refl

-- ---- a station to which a job came

-- it was live
came_live : (s between : Of) (job : Job) → station.put s job ≡ (between, None) → s.live ≡ true
came_live s between job e = free (put_refusal s job) refl e
  where
    by : (b : Bool) (other : Option PutWhy) → cond (not b) (Some why.Gone) other ≡ None → b ≡ true
    by true other is = refl
    by false other is = absurd (cc (is))

    free : (found : Option PutWhy) → put_refusal s job ≡ found → put_unless s job found ≡ (between, None) → s.live ≡ true
    free None none f = by s.live _ none
    free (Some cause) none f = absurd (let g : Some cause ≡ None = ap (λ (r : Of × Option PutWhy). r.1) f in cc (g))

-- ---- what is stored

-- what a key's device is like as it comes
abbrev IsThere : ℕ → Key → List Deed → Type 0
IsThere device key deeds = ComesThere deeds (stores device (Came key))

stored_there : (id : ℕ) (items : List Item) (deeds : List Deed) → ((key : Key) → Has (Came key) items → IsThere id key deeds) → EachAfter ComesThere deeds → EachAfter ComesThere (map (stores id) items ++ deeds)
stored_there id [] deeds came each = each
stored_there id (x ∷ items) deeds came each = (one x (λ key same. came key (inl same)), stored_there id items deeds (λ key has. came key (inr has)) each)
  where
    one : (y : Item) → ((key : Key) → Came key ≡ y → IsThere id key deeds) → ComesThere (map (stores id) items ++ deeds) (stores id y)
    one (Came key) is =
        let (ready, kept) = is key refl in (
          ap (λ (ms : List (List ℕ)). option_map_or is_client_ready (state_read ms) false) (stored_unread id key.channel items deeds) ∙ ready,
          stored_keeps (is_removed id) (λ device item more. refl) id items deeds ∙ kept,
        )
    one (Ran key moment starved parked) is = tt
    one (Cancelled key) is = tt
    one (Sent key) is = tt
    one (Cut cause) is = tt

ends_there : (over : Bool) (ds : List DeviceDeskState) (ss : List Of) (ts : List (ℕ × List Item)) (es : List DeviceDeskState) (us : List Of) (deeds : List Deed) → EndsEach over ds ss ts es us → EachAfter ComesThere deeds → EachAfter ComesThere (stored_each ts ++ deeds)
ends_there over [] [] [] [] [] deeds ended each = each
ends_there over (d ∷ ds) (s ∷ ss) (t ∷ ts) (e ∷ es) (u ∷ us) deeds ended each =
    subst (EachAfter ComesThere) (sym (append_assoc (stored_each ts) (stored t.0 t.1) deeds))
    (ends_there over ds ss ts es us (stored t.0 t.1 ++ deeds) ended.3
    (stored_there t.0 (reverse t.1) deeds (λ key has. absurd (end_comes_none over ended.0 (ended.2).middle u (ended.2).step key (called_comes d e s u (end_call over) ended.0 t.1 ended.2 key (turned_has (Came key) t.1 has)))) each))
ends_there over ds ss ts es us deeds ended each = absurd ended

-- ---- while a job is under way

-- one was before a part that begins nothing
under_before : (p q : Served) (x : FrontPart) (k : Kept) → PartGoes p x q → is_start x ≡ false → IsUnder q.asking k → (other : Kept) × IsUnder p.asking other
under_before p q (hears channel m answer) k goes start under = absurd (cc (start))
under_before p q tries k goes start under = absurd (cc (start))
under_before p q keeps k goes start under = absurd (subst (λ (a : Asking). IsUnder a k) (ap (λ (v : Served). v.asking) goes.3) under)
under_before p q forgets k goes start under = absurd (subst (λ (a : Asking). IsUnder a k) (ap (λ (v : Served). v.asking) goes.4) under)
under_before p q misplaces k goes start under = absurd (subst (λ (a : Asking). IsUnder a k) (ap (λ (v : Served). v.asking) goes.3) under)
under_before p q (directs st answer) k goes start under = absurd (subst (λ (a : Asking). IsUnder a k) goes.3 under)
under_before p q (part.calls place id does back items) k goes start under = by does back goes.own goes.asking_is
  where
    still : q.asking ≡ p.asking → (other : Kept) × IsUnder p.asking other
    still same = (k, subst (λ (a : Asking). IsUnder a k) same under)

    came : (job : Job) → Comes p place job → (other : Kept) × IsUnder p.asking other
    came job c = (c.kept, subst (λ (a : Asking). IsUnder a c.kept) (sym c.asked) refl)

    by : (d : DeskCall) (r : DeskReply) → IsOpenCall d → AsksBy p place id d r q.asking → (other : Kept) × IsUnder p.asking other
    by (desk.Put job) r own is = came job is.0
    by desk.Collect (replied.Collected (Some c)) own is = absurd (subst (λ (a : Asking). IsUnder a k) is.1 under)
    by desk.Collect r own is = still is
    by desk.Announce r own is = still is
    by desk.Remove r own is = still is
    by (desk.Work runs) r own is = absurd own
    by desk.DropChannel r own is = absurd own
    by desk.End r own is = absurd own
under_before p q (tells_gone device answer) k goes start under = (k, subst (λ (a : Asking). IsUnder a k) goes.1 under)
under_before p q (tells_there device answer) k goes start under = (k, subst (λ (a : Asking). IsUnder a k) goes.1 under)
under_before p q (sends channel sent) k goes start under = (k, subst (λ (a : Asking). IsUnder a k) goes.2 under)
under_before p q (writes device c) k goes start under = absurd (subst (λ (a : Asking). IsUnder a k) (ap (λ (v : Served). v.asking) goes.1) under)
under_before p q (unwritten device c) k goes start under = absurd (subst (λ (a : Asking). IsUnder a k) (ap (λ (v : Served). v.asking) goes.1) under)
under_before p q (learns n answer) k goes start under = (k, subst (λ (a : Asking). IsUnder a k) (ap (λ (v : Served). v.asking) goes.1) under)
under_before p q (refreshes device) k goes start under = (k, subst (λ (a : Asking). IsUnder a k) (ap (λ (v : Served). v.asking) goes) under)
under_before p q (begins channel) k goes start under = absurd (subst (λ (a : Asking). IsUnder a k) (ap (λ (v : Served). v.asking) goes.3 ∙ goes.0) under)
under_before p q (ends over told) k goes start under = absurd (subst (λ (a : Asking). IsUnder a k) goes.3 under)

-- nothing is told of a device then
under_leaves : (p q : Served) (x : FrontPart) (k : Kept) → PartGoes p x q → is_start x ≡ false → IsUnder p.asking k → LeavesDue Never Never Never Never x p q
under_leaves p q (hears channel m answer) k goes start under = absurd (cc (start))
under_leaves p q (tells_gone device (Ok done)) k goes start under = absurd (subst (λ (a : Asking). IsUnder a k) goes.4 under)
under_leaves p q (tells_there device (Ok done)) k goes start under = absurd (subst (λ (a : Asking). IsUnder a k) goes.4 under)
under_leaves p q (tells_gone device (Err error)) k goes start under = tt
under_leaves p q (tells_there device (Err error)) k goes start under = tt
under_leaves p q x k goes start under = tt

-- nor by a part that begins one
start_leaves : (p q : Served) (x : FrontPart) (k : Kept) → PartGoes p x q → is_start x ≡ true → IsUnder q.asking k → LeavesDue Never Never Never Never x p q
start_leaves p q (hears channel m answer) k goes start under = by answer ((goes.3).0).1 (subst (λ (a : Asking). IsUnder a k) goes.4 under)
  where
    by : (a : Result Heard EndFault) → hearing.Hears client_side (λ (c : ClientCoreState). c.core) client_hear (p.front).client m a (q.front).client → IsUnder (asking_by a) k → is_front_ready p.front ≡ false → is_front_ready q.front ≡ true → (n : ℕ) → is_told_there q.front n ≡ true → (desk_place (p.front).desks n ≡ None) ⊎ Never n
    by (Ok (Ask device job)) did asks = λ before now n told. absurd (
        let same = ask_keeps (p.front).client (q.front).client m device job did in
        let also = ap is_client_ready same in
        cc (before, now, also)
        )
    by (Ok Nothing) did asks = absurd asks
    by (Ok (Print note)) did asks = absurd asks
    by (Err cause) did asks = absurd asks
start_leaves p q tries k goes start under = tt
start_leaves p q keeps k goes start under = absurd (cc (start))
start_leaves p q forgets k goes start under = absurd (cc (start))
start_leaves p q misplaces k goes start under = absurd (cc (start))
start_leaves p q (directs st answer) k goes start under = absurd (cc (start))
start_leaves p q (part.calls place id does back items) k goes start under = absurd (cc (start))
start_leaves p q (tells_gone device answer) k goes start under = absurd (cc (start))
start_leaves p q (tells_there device answer) k goes start under = absurd (cc (start))
start_leaves p q (sends channel sent) k goes start under = absurd (cc (start))
start_leaves p q (writes device c) k goes start under = absurd (cc (start))
start_leaves p q (unwritten device c) k goes start under = absurd (cc (start))
start_leaves p q (learns n answer) k goes start under = absurd (cc (start))
start_leaves p q (refreshes device) k goes start under = absurd (cc (start))
start_leaves p q (begins channel) k goes start under = absurd (cc (start))
start_leaves p q (ends over told) k goes start under = absurd (cc (start))

-- only the first part begins something
later_starts : (starts : Bool) (x : FrontPart) (ps : List FrontPart) → StartsBy starts (x ∷ ps) → StartsBy false ps
later_starts true x ps all = all
later_starts false x ps all = all.1

first_starts : (starts : Bool) (x : FrontPart) (ps : List FrontPart) → StartsBy starts (x ∷ ps) → is_start x ≡ true → starts ≡ true
first_starts true x ps all is = refl
first_starts false x ps all is = absurd (let none = all.0 in cc (none, is))

module _ (devices : List Announce) where
  -- What is known at a point: while a job is under way each live station is that of a device that the host was told of.
  record IsComing (was : Bool) (p : Served) (deeds : List Deed) : Type 0 where
    known : IsKnownAt p deeds
    own : IsOwn devices p deeds
    off : AreOff p
    follows : Follows was p deeds
    way : (k : Kept) → IsUnder p.asking k → IsOpen p
    each : EachAfter ComesThere deeds

  -- a key that comes does so where its device is there
  comes_there : (was : Bool) (p q : Served) (place id : ℕ) (does : DeskCall) (back : DeskReply) (items : List Item) (deeds : List Deed) → IsComing was p deeds → (at : CallsAt p place id does back items q) → (key : Key) → ComesBy (told_by does back) key → IsThere id key deeds
  comes_there was p q place id (desk.Put job) (replied.Put (Ok done)) items deeds is at key comes = (ready, kept)
    where
      c : Comes p place job
      c = (at.asking_is).0

      under : IsUnder p.asking c.kept
      under = subst (λ (a : Asking). IsUnder a c.kept) (sym c.asked) refl

      next : ((p.front).on ≡ true) × (key.channel ≡ (p.front).channel)
      next = comes_next p q place id (desk.Put job) (replied.Put (Ok done)) items is.known.keyed at key comes

      live : (at.first).live ≡ true
      live = sym (worked p q place id (desk.Put job) (replied.Put (Ok done)) items is.known.keyed at).live ∙ came_live (at.called).middle (((at.called).step).0).0 job ((((at.called).step).0).1).1

      told : is_told_there p.front id ≡ true
      told = subst (λ (n : ℕ). is_told_there p.front n ≡ true) at.id_is (elim ((is.way c.kept under).live place at.before at.first (at.there, at.has) live).1 [ inl so ↦ so | inr never ↦ absurd never ])

      here : (is_front_ready p.front ≡ true) × ((has_device (p.front).client id && not (is_gone (p.front).client id)) ≡ true)
      here = both_true (is_front_ready p.front) (has_device (p.front).client id && not (is_gone (p.front).client id)) told

      there : (has_device (p.front).client id ≡ true) × (not (is_gone (p.front).client id) ≡ true)
      there = both_true (has_device (p.front).client id) (not (is_gone (p.front).client id)) here.1

      ready : option_map_or is_client_ready (state_read (client_read key.channel deeds)) false ≡ true
      ready =
          ap (λ (n : ℕ). option_map_or is_client_ready (state_read (client_read n deeds)) false) next.1
          ∙ ap (λ (o : Option ClientState). option_map_or is_client_ready o false) (is.follows.state next.0 (is.follows.clear c.kept (inl under))) ∙ here.0

      kept : is_removed id deeds ≡ false
      kept = kept_there id deeds ((p.front).client).devices is.own.fine.marks there.0 (unmarked (is_gone (p.front).client id) there.1)
  comes_there was p q place id (desk.Put job) (replied.Put (Err refusal)) items deeds is at key (inl none) = absurd none
  comes_there was p q place id (desk.Put job) (replied.Put (Err refusal)) items deeds is at key (inr none) = absurd none
  comes_there was p q place id (desk.Put job) (replied.Unfit back) items deeds is at key (inl none) = absurd none
  comes_there was p q place id (desk.Put job) (replied.Unfit back) items deeds is at key (inr none) = absurd none
  comes_there was p q place id (desk.Put job) (replied.Announced answer) items deeds is at key comes = absurd (at.asking_is).1
  comes_there was p q place id (desk.Put job) (replied.Worked w) items deeds is at key comes = absurd (at.asking_is).1
  comes_there was p q place id (desk.Put job) (replied.Collected answer) items deeds is at key comes = absurd (at.asking_is).1
  comes_there was p q place id (desk.Put job) (replied.Removed answer) items deeds is at key comes = absurd (at.asking_is).1
  comes_there was p q place id (desk.Put job) replied.Dropped items deeds is at key comes = absurd (at.asking_is).1
  comes_there was p q place id (desk.Put job) replied.Ended items deeds is at key comes = absurd (at.asking_is).1
  comes_there was p q place id desk.Announce (replied.Announced answer) items deeds is at key (inl none) = absurd none
  comes_there was p q place id desk.Announce (replied.Announced answer) items deeds is at key (inr none) = absurd none
  comes_there was p q place id desk.Announce (replied.Put answer) items deeds is at key comes = absurd ((at.called).step).1
  comes_there was p q place id desk.Announce (replied.Unfit job) items deeds is at key comes = absurd ((at.called).step).1
  comes_there was p q place id desk.Announce (replied.Worked w) items deeds is at key comes = absurd ((at.called).step).1
  comes_there was p q place id desk.Announce (replied.Collected answer) items deeds is at key comes = absurd ((at.called).step).1
  comes_there was p q place id desk.Announce (replied.Removed answer) items deeds is at key comes = absurd ((at.called).step).1
  comes_there was p q place id desk.Announce replied.Dropped items deeds is at key comes = absurd ((at.called).step).1
  comes_there was p q place id desk.Announce replied.Ended items deeds is at key comes = absurd ((at.called).step).1
  comes_there was p q place id desk.Collect (replied.Collected answer) items deeds is at key (inl none) = absurd none
  comes_there was p q place id desk.Collect (replied.Collected answer) items deeds is at key (inr none) = absurd none
  comes_there was p q place id desk.Collect (replied.Announced answer) items deeds is at key comes = absurd ((at.called).step).1
  comes_there was p q place id desk.Collect (replied.Put answer) items deeds is at key comes = absurd ((at.called).step).1
  comes_there was p q place id desk.Collect (replied.Unfit job) items deeds is at key comes = absurd ((at.called).step).1
  comes_there was p q place id desk.Collect (replied.Worked w) items deeds is at key comes = absurd ((at.called).step).1
  comes_there was p q place id desk.Collect (replied.Removed answer) items deeds is at key comes = absurd ((at.called).step).1
  comes_there was p q place id desk.Collect replied.Dropped items deeds is at key comes = absurd ((at.called).step).1
  comes_there was p q place id desk.Collect replied.Ended items deeds is at key comes = absurd ((at.called).step).1
  comes_there was p q place id desk.Remove (replied.Removed answer) items deeds is at key (inl none) = absurd none
  comes_there was p q place id desk.Remove (replied.Removed answer) items deeds is at key (inr none) = absurd none
  comes_there was p q place id desk.Remove (replied.Announced answer) items deeds is at key comes = absurd ((at.called).step).1
  comes_there was p q place id desk.Remove (replied.Put answer) items deeds is at key comes = absurd ((at.called).step).1
  comes_there was p q place id desk.Remove (replied.Unfit job) items deeds is at key comes = absurd ((at.called).step).1
  comes_there was p q place id desk.Remove (replied.Worked w) items deeds is at key comes = absurd ((at.called).step).1
  comes_there was p q place id desk.Remove (replied.Collected answer) items deeds is at key comes = absurd ((at.called).step).1
  comes_there was p q place id desk.Remove replied.Dropped items deeds is at key comes = absurd ((at.called).step).1
  comes_there was p q place id desk.Remove replied.Ended items deeds is at key comes = absurd ((at.called).step).1
  comes_there was p q place id (desk.Work runs) back items deeds is at key comes = absurd at.own
  comes_there was p q place id desk.DropChannel back items deeds is at key comes = absurd at.own
  comes_there was p q place id desk.End back items deeds is at key comes = absurd at.own

  part_each : (was : Bool) (p q : Served) (x : FrontPart) (deeds : List Deed) → PartGoes p x q → IsComing was p deeds → EachAfter ComesThere (deeds_of x ++ deeds)
  part_each was p q (hears channel m (Err fault.Memory)) deeds goes is = is.each
  part_each was p q (hears channel m (Err (fault.Order state packet))) deeds goes is = (tt, is.each)
  part_each was p q (hears channel m (Err (fault.Grammar bad))) deeds goes is = (tt, is.each)
  part_each was p q (hears channel m (Ok h)) deeds goes is = (tt, is.each)
  part_each was p q tries deeds goes is = is.each
  part_each was p q keeps deeds goes is = is.each
  part_each was p q forgets deeds goes is = is.each
  part_each was p q misplaces deeds goes is = is.each
  part_each was p q (directs st answer) deeds goes is = is.each
  part_each was p q (part.calls place id does back items) deeds goes is =
      stored_there id (reverse items) deeds (λ key has. comes_there was p q place id does back items deeds is goes key (called_comes goes.before goes.after goes.first goes.last does back items goes.called key (turned_has (Came key) items has))) is.each
  part_each was p q (tells_gone device (Ok done)) deeds goes is = (tt, is.each)
  part_each was p q (tells_gone device (Err error)) deeds goes is = is.each
  part_each was p q (tells_there device (Ok done)) deeds goes is = (tt, is.each)
  part_each was p q (tells_there device (Err error)) deeds goes is = is.each
  part_each was p q (sends channel None) deeds goes is = is.each
  part_each was p q (sends channel (Some o)) deeds goes is = by o.answers
    where
      by : (a : Option Key) → EachAfter ComesThere (sent_by channel o.message a ++ deeds)
      by None = (tt, is.each)
      by (Some key) = (tt, is.each)
  part_each was p q (writes device c) deeds goes is = (tt, is.each)
  part_each was p q (unwritten device c) deeds goes is = is.each
  part_each was p q (learns n answer) deeds goes is = is.each
  part_each was p q (refreshes device) deeds goes is = is.each
  part_each was p q (begins channel) deeds goes is = is.each
  part_each was p q (ends over told) deeds goes is = ends_there over (p.front).desks p.stations told (q.front).desks q.stations deeds goes.1 is.each

  part_coming : (was starts : Bool) (p q : Served) (x : FrontPart) (ps : List FrontPart) (deeds : List Deed) → PartGoes p x q → StartsBy starts (x ∷ ps) → (starts ≡ true → IsOpen p) → IsComing was p deeds → IsComing (stopped_by was x) q (deeds_of x ++ deeds)
  part_coming was starts p q x ps deeds goes all opened is = record {
    known = part_known p q x deeds goes is.known;
    own = part_own devices p q x deeds goes (is.known).keyed is.own;
    off = part_off p q x deeds goes (is.known).keyed (is.known).told is.off;
    follows = part_follows was p q x deeds goes (is.known).keyed (is.known).told is.follows;
    way = λ k under. way k under (is_start x) refl;
    each = part_each was p q x deeds goes is;
  }
    where
      apart : AreApartIn (p.front).client
      apart = (((is.own).fine).fits).kept.devices.apart

      on_by : LeavesDue Never Never Never Never x p q → IsOpen p → IsOpen q
      on_by leaves so = part_open Never Never Never Never p q x deeds goes (is.known).keyed (is.known).told apart leaves (λ n none. absurd none) (λ n none. absurd none) is.off so

      way : (k : Kept) → IsUnder q.asking k → (b : Bool) → is_start x ≡ b → IsOpen q
      way k under true start = on_by (start_leaves p q x k goes start under) (opened (first_starts starts x ps all start))
      way k under false start = let (other, before) = under_before p q x k goes start under in on_by (under_leaves p q x other goes start before) (is.way other before)

  parts_coming : (ps : List FrontPart) (was starts : Bool) (p q : Served) (deeds : List Deed) → PartsGo p ps q → StartsBy starts ps → (starts ≡ true → IsOpen p) → IsComing was p deeds → IsComing (stopped_after was ps) q (deeds_after ps deeds)
  parts_coming [] was starts p q deeds goes all opened is = subst (λ (v : Served). IsComing was v deeds) (sym goes) is
  parts_coming (x ∷ ps) was starts p q deeds goes all opened is =
      parts_coming ps (stopped_by was x) false goes.0 q (deeds_of x ++ deeds) goes.2 (later_starts starts x ps all) (λ never. absurd (cc (never))) (part_coming was starts p goes.0 x ps deeds goes.1 all opened is)

  parts_ids : (ps : List FrontPart) (p q : Served) → PartsGo p ps q → ids_of (q.front).desks ≡ ids_of (p.front).desks
  parts_ids [] p q goes = ap (λ (s : Served). ids_of (s.front).desks) goes
  parts_ids (x ∷ ps) p q goes = parts_ids ps goes.0 q goes.2 ∙ part_ids p goes.0 x goes.1

  module _ (desks : List DeviceDeskState) (have : HaveDesks devices desks) (writable : AreWritable devices) where
    -- between calls the stations are open as the host was told, where no reply hindered
    record IsBetween (was hindered : Bool) (p : Served) (deeds : List Deed) : Type 0 where
      coming : IsComing was p deeds
      ids : ids_of (p.front).desks ≡ ids_of desks
      opened : hindered ≡ false → IsOpen p
      said : AreSaid p deeds
      unworn : AreUnworn p deeds

    history_coming : (entries : List FrontEntry) (parts : List (List FrontPart)) (was hindered : Bool) (p q : Served) (deeds : List Deed) → HistoryGoes p entries parts q → StartUnhindered hindered entries → AreFine FitsCompletion (deeds_of_calls parts deeds) → IsBetween was hindered p deeds
        → EachAfter ComesThere (deeds_of_calls parts deeds)
    history_coming [] [] was hindered p q deeds goes starts fine is = (is.coming).each
    history_coming [] (ps ∷ parts) was hindered p q deeds goes starts fine is = absurd goes
    history_coming (e ∷ entries) [] was hindered p q deeds goes starts fine is = absurd goes
    history_coming (e ∷ entries) (ps ∷ parts) was hindered p q deeds goes starts fine is =
        let here = is.coming in
        let (later, more) = calls_more parts (deeds_after ps deeds) in
        let fine_here : AreFine FitsCompletion (deeds_after ps deeds) = λ n k r read. fine n k r (subst (λ (ds : List Deed). request_at (client_read n ds) k ≡ Some r) (sym more) (grown_more later (deeds_after ps deeds) n k r read)) in
        let one = history_said devices desks have writable (e ∷ []) (ps ∷ []) hindered p goes.0 deeds (goes.0, goes.1, refl) (starts.0, tt) here.known here.own is.ids fine_here here.off is.opened is.said is.unworn in
        history_coming entries parts (stopped_after was ps) (hindered_by hindered e.call e.reply) goes.0 q (deeds_after ps deeds) goes.2 starts.1 fine (record {
          coming = parts_coming ps was (may_start e.call e.reply) p goes.0 deeds (goes.1).goes ((goes.1).tells).first (λ may. is.opened (starts.0 may)) here;
          ids = parts_ids ps p goes.0 (goes.1).goes ∙ is.ids;
          opened = one.2;
          said = one.0;
          unworn = one.1;
        })

-- Each request that comes to a device does so where that is there.
pub all_coming : (devices : List Announce) (old new : Served) (entries : List FrontEntry) (parts : List (List FrontPart)) → BeginsWith devices old → HaveDesks devices (old.front).desks → HistoryGoes old entries parts new → AreFine FitsCompletion (deeds_of_calls parts []) → StartUnhindered false entries
    → EachAfter ComesThere (deeds_of_calls parts [])
all_coming devices old new entries parts start have goes fine starts =
    history_coming devices (old.front).desks have start.writable entries parts false false old new [] goes starts fine (record {
      coming = record {
        known = begins_known old start.new.new start.new.apart start.new.stationed start.new.idle_is;
        own = begins_own devices old start;
        off = λ none. begun_off;
        follows = new_follows old start.new.new.off start.new.idle_is start.new.new.kept;
        way = λ k under. absurd (subst (λ (a : Asking). IsUnder a k) start.new.idle_is under);
        each = tt;
      };
      ids = refl;
      opened = λ none. record {
        told = λ place d s here on told. absurd (let off = start.new.new.off in cc (on, off));
        live = λ place d s here lives. absurd (let off = begun_off place d s here in cc (lives, off));
      };
      said = record {
        marks = λ on. absurd (let off = start.new.new.off in cc (on, off));
        out = subst (λ (os : List Outgoing). AllRight (IsWornFor old []) (old.front).channel os []) (sym start.new.new.nothing) tt;
        later = λ c above. refl;
        each = tt;
      };
      unworn = record { refused = λ now k m none. absurd none; comes = tt };
    })
  where
    begun_off : (place : ℕ) (d : DeviceDeskState) (s : Of) → IsDeskAt old place d s → s.live ≡ false
    begun_off place d s here = ap (λ (x : Of). x.live) (new_at (old.front).desks old.stations start.new.new.desks start.new.stationed place d s here.0 here.1).1
