-- Each call of a history leaves what is said as it is to be, and so each refusal has its cause.
use Rattle.std.proofs.Common.{◌≡◌, ◌⊎◌, ◌∙◌, refl, sym, ap, subst, inl, inr, ℕ, ◌&&◌, ◌||◌, Bool, true, false, not, List, [], ◌∷◌, ◌++◌, Option, Some, Result, Ok, Err}
use Rattle.rd_served_order.proofs.AnsweredListedLemmas.{ready_moves}
use Rattle.rd_served_order.proofs.AnsweredSayingLemmas.{HearsOn, hear_on}
use Rattle.rd_client.specs.Core.{ClientCoreState, Outgoing, becomes_ready, client_hear, client_side}
use Rattle.rd_client.specs.Events.{AreWritable}
use Rattle.rd_client.specs.Order.{is_client_ready}
use Rattle.rd_client.specs.declared.heard.Heard.{Heard}
use Rattle.rd_client.specs.declared.heard.Heard.TheVariants.{Nothing}
use Rattle.rd_core.specs.Hearing as hearing
use Rattle.rd_desk.specs.declared.calls.DeskCall.{DeskCall}
use Rattle.rd_desk.specs.declared.calls.DeskCall.TheVariants as desk
use Rattle.rd_desk.specs.declared.calls.DeskReply.{DeskReply}
use Rattle.rd_desk.specs.declared.calls.DeskReply.TheVariants as replied
use Rattle.rd_devices.specs.declared.list.Announce.{Announce}
use Rattle.rd_drive.specs.declared.plan.Job.{Job}
use Rattle.rd_front.specs.State.{DeviceDeskState, SessionStation}
use Rattle.rd_front.specs.declared.calls.FrontCall.{FrontCall}
use Rattle.rd_front.specs.declared.calls.FrontCall.TheVariants as call
use Rattle.rd_front.specs.declared.calls.FrontReply.{FrontReply}
use Rattle.rd_front.specs.declared.calls.FrontReply.TheVariants as reply
use Rattle.rd_hello.specs.declared.end_fault.EndFault.{EndFault}
use Rattle.rd_hello.specs.declared.end_fault.EndFault.TheVariants as end_fault
use Rattle.rd_irp.specs.declared.request.Request.{Request}
use Rattle.rd_served_order.proofs.JournalsWorkLemmas.{grown_more}
use Rattle.rd_served_order.specs.JournalsJobs.{AreFine, FitsCompletion}
use Rattle.rd_turn.specs.declared.object.Entry.{Entry}
use Rattle.rd_deeds.specs.Talk.{Deed, client_read, request_at}
use Rattle.rd_world.specs.World.{Kept}
use Rattle.rd_served_order.proofs.ServedCauseLemmas.{new_at}
use Rattle.rd_served_order.proofs.ServedKeyLemmas.{IsUnder}
use Rattle.rd_served_order.proofs.ServedMeetLemmas.{CallsMeet, PartsMeet}
use Rattle.rd_served_order.proofs.ServedStandingLemmas.{IsKnownAt, begins_known, part_known}
use Rattle.rd_served_order.proofs.ServedWalkLemmas.{none_opens}
use Rattle.rd_served_order.specs.ServedDeeds.{deeds_after, deeds_of, deeds_of_calls}
use Rattle.rd_front.specs.Calls.{hinders}
use Rattle.rd_served_order.specs.ServedHistories.{Among, AreFollowed, CallGoes, HistoryGoes, IsFollowed, OpensEach, StartsBy, may_start}
use Rattle.rd_served_order.specs.ServedParts.{AsksBy, Comes, FrontPart, PartGoes, PartsGo, announced_by, asking_by, begins, begun_by, cut_by, directs, ends, forgets, hears, is_start, keeps, learns, misplaces, refreshes, sends, tells_gone, tells_there, tries, unwritten, writes}
use Rattle.rd_served_order.specs.ServedParts as part
use Rattle.rd_served_order.specs.ServedServed.{Asking, Served}
use Rattle.rd_served_order.proofs.OwnLemmas.{IsOwn, begins_own, part_own}
use Rattle.rd_served_order.specs.Orders.{BeginsWith}
use Rattle.rd_served_refusals.specs.Heeding.{HearUnhindered, HearsUnhindered, hindered_by}
use Rattle.rd_served_causes.proofs.LaterLemmas.{AreUnworn, part_unworn}
use Rattle.rd_served_causes.proofs.PlaceLemmas.{ids_of, none_by, part_ids}
use Rattle.rd_served_causes.proofs.RefuseLemmas.{IsAt, part_said}
use Rattle.rd_served_causes.proofs.SayLemmas.{AllRight, AreSaid, IsWornFor}
use Rattle.rd_served_causes.proofs.StepLemmas.{AreApartIn, LeavesDue, begun_open, part_off, part_open}
use Rattle.rd_served_causes.proofs.WayLemmas.{idle_way, part_way}
use Rattle.rd_served_causes.specs.Causes.{HaveDesks, StartUnhindered, hindered_after}
use Rattle.rd_served_causes.specs.Open.{AreOff, IsDeskAt, IsOpen, IsOpenBut, Never}

abbrev Of : Type 0
Of = SessionStation

-- ---- what is read stays

grown_after : (ps : List FrontPart) (deeds : List Deed) (c k : ℕ) (r : Request) → request_at (client_read c deeds) k ≡ Some r → request_at (client_read c (deeds_after ps deeds)) k ≡ Some r
grown_after [] deeds c k r read = read
grown_after (x ∷ ps) deeds c k r read = grown_after ps (deeds_of x ++ deeds) c k r (grown_more (deeds_of x) deeds c k r read)

grown_calls : (parts : List (List FrontPart)) (deeds : List Deed) (c k : ℕ) (r : Request) → request_at (client_read c deeds) k ≡ Some r → request_at (client_read c (deeds_of_calls parts deeds)) k ≡ Some r
grown_calls [] deeds c k r read = read
grown_calls (ps ∷ parts) deeds c k r read = grown_calls parts (deeds_after ps deeds) c k r (grown_after ps deeds c k r read)

-- ---- when a client becomes ready

-- only a message of the opening makes it so
opening_is : (c d : ClientCoreState) (m : List ℕ) (a : Result Heard EndFault) → hearing.Hears client_side (λ (x : ClientCoreState). x.core) client_hear c m a d → is_client_ready (c.core).shake ≡ false → is_client_ready (d.core).shake ≡ true → a ≡ Ok Nothing
opening_is c d m a did before now = by a did
  where
    becomes : becomes_ready (c.core).shake (d.core).shake ≡ true
    becomes = ready_moves (c.core).shake (d.core).shake ∙ (λ i. not (before i) && now i)

    heard : (x : Result Heard EndFault) → client_hear c m ≡ (d, x) → x ≡ Ok Nothing
    heard x e = (subst (HearsOn c) e (hear_on c m)).opens becomes

    by : (x : Result Heard EndFault) → hearing.Hears client_side (λ (y : ClientCoreState). y.core) client_hear c m x d → x ≡ Ok Nothing
    by (Err end_fault.Memory) did = absurd (let same = ap (λ (y : ClientCoreState). is_client_ready (y.core).shake) did.1 in cc (before, now, same))
    by (Err (end_fault.Order state packet)) did = heard _ did
    by (Err (end_fault.Grammar bad)) did = heard _ did
    by (Ok h) did = heard _ did

-- ---- a job that is under way

-- one is under way before a part that begins nothing, where one is after it
under_before : (p q : Served) (x : FrontPart) (k : Kept) → PartGoes p x q → is_start x ≡ false → IsUnder q.asking k → (other : Kept) × IsUnder p.asking other
under_before p q (hears channel m answer) k goes start under = absurd (cc (start))
under_before p q tries k goes start under = absurd (cc (start))
under_before p q keeps k goes start under = absurd (subst (λ (a : Asking). IsUnder a k) (ap (λ (v : Served). v.asking) goes.3) under)
under_before p q forgets k goes start under = absurd (subst (λ (a : Asking). IsUnder a k) (ap (λ (v : Served). v.asking) goes.4) under)
under_before p q misplaces k goes start under = absurd (subst (λ (a : Asking). IsUnder a k) (ap (λ (v : Served). v.asking) goes.3) under)
under_before p q (directs st answer) k goes start under = absurd (subst (λ (a : Asking). IsUnder a k) goes.3 under)
under_before p q (part.calls place id does back items) k goes start under = by does back goes.own goes.asking_is
  where
    still : q.asking ≡ p.asking → (other : Kept) × IsUnder p.asking other
    still same = (k, subst (λ (a : Asking). IsUnder a k) same under)

    came : (job : Job) → Comes p place job → (other : Kept) × IsUnder p.asking other
    came job c = (c.kept, subst (λ (a : Asking). IsUnder a c.kept) (sym c.asked) refl)

    by : (d : DeskCall) (r : DeskReply) → part.IsOpenCall d → AsksBy p place id d r q.asking → (other : Kept) × IsUnder p.asking other
    by (desk.Put job) r own is = came job is.0
    by desk.Collect (replied.Collected (Some c)) own is = absurd (subst (λ (a : Asking). IsUnder a k) is.1 under)
    by desk.Collect r own is = still is
    by desk.Announce r own is = still is
    by desk.Remove r own is = still is
    by (desk.Work runs) r own is = absurd own
    by desk.DropChannel r own is = absurd own
    by desk.End r own is = absurd own
under_before p q (tells_gone device answer) k goes start under = (k, subst (λ (a : Asking). IsUnder a k) goes.1 under)
under_before p q (tells_there device answer) k goes start under = (k, subst (λ (a : Asking). IsUnder a k) goes.1 under)
under_before p q (sends channel sent) k goes start under = (k, subst (λ (a : Asking). IsUnder a k) goes.2 under)
under_before p q (writes device c) k goes start under = absurd (subst (λ (a : Asking). IsUnder a k) (ap (λ (v : Served). v.asking) goes.1) under)
under_before p q (unwritten device c) k goes start under = absurd (subst (λ (a : Asking). IsUnder a k) (ap (λ (v : Served). v.asking) goes.1) under)
under_before p q (learns n answer) k goes start under = (k, subst (λ (a : Asking). IsUnder a k) (ap (λ (v : Served). v.asking) goes.1) under)
under_before p q (refreshes device) k goes start under = (k, subst (λ (a : Asking). IsUnder a k) (ap (λ (v : Served). v.asking) goes) under)
under_before p q (begins channel) k goes start under = absurd (subst (λ (a : Asking). IsUnder a k) (ap (λ (v : Served). v.asking) goes.3 ∙ goes.0) under)
under_before p q (ends over told) k goes start under = absurd (subst (λ (a : Asking). IsUnder a k) goes.3 under)

-- while a job is under way nothing is told of a device
under_leaves : (p q : Served) (x : FrontPart) (k : Kept) → PartGoes p x q → is_start x ≡ false → IsUnder p.asking k → LeavesDue Never Never Never Never x p q
under_leaves p q (hears channel m answer) k goes start under = absurd (cc (start))
under_leaves p q (tells_gone device (Ok done)) k goes start under = absurd (subst (λ (a : Asking). IsUnder a k) goes.4 under)
under_leaves p q (tells_there device (Ok done)) k goes start under = absurd (subst (λ (a : Asking). IsUnder a k) goes.4 under)
under_leaves p q (tells_gone device (Err error)) k goes start under = tt
under_leaves p q (tells_there device (Err error)) k goes start under = tt
under_leaves p q x k goes start under = tt

-- nor by a part that begins one
start_leaves : (p q : Served) (x : FrontPart) (k : Kept) → PartGoes p x q → is_start x ≡ true → IsUnder q.asking k → LeavesDue Never Never Never Never x p q
start_leaves p q (hears channel m answer) k goes start under = λ before now n told. absurd (
    let opening = opening_is (p.front).client (q.front).client m answer ((goes.3).0).1 before now in
    subst (λ (a : Asking). IsUnder a k) (goes.4 ∙ ap asking_by opening) under
    )
start_leaves p q tries k goes start under = tt
start_leaves p q keeps k goes start under = absurd (cc (start))
start_leaves p q forgets k goes start under = absurd (cc (start))
start_leaves p q misplaces k goes start under = absurd (cc (start))
start_leaves p q (directs st answer) k goes start under = absurd (cc (start))
start_leaves p q (part.calls place id does back items) k goes start under = absurd (cc (start))
start_leaves p q (tells_gone device answer) k goes start under = absurd (cc (start))
start_leaves p q (tells_there device answer) k goes start under = absurd (cc (start))
start_leaves p q (sends channel sent) k goes start under = absurd (cc (start))
start_leaves p q (writes device c) k goes start under = absurd (cc (start))
start_leaves p q (unwritten device c) k goes start under = absurd (cc (start))
start_leaves p q (learns n answer) k goes start under = absurd (cc (start))
start_leaves p q (refreshes device) k goes start under = absurd (cc (start))
start_leaves p q (begins channel) k goes start under = absurd (cc (start))
start_leaves p q (ends over told) k goes start under = absurd (cc (start))

-- ---- what is still to be done

abbrev DueIn : List FrontPart → ℕ → Type 0
DueIn ps n = Among (λ x. announced_by x ≡ Some n) ps

abbrev CutIn : List FrontPart → ℕ → Type 0
CutIn ps n = Among (λ x. cut_by x ≡ Some n) ps

followed_leaves : (p q r : Served) (x : FrontPart) (ps : List FrontPart) (desks : List DeviceDeskState) → ids_of desks ≡ ids_of (p.front).desks → (goes : PartGoes p x q) (rest : PartsGo q ps r) → IsFollowed desks x ps → OpensEach p (x ∷ ps) r (q, goes, rest)
    → LeavesDue (DueIn (x ∷ ps)) (CutIn (x ∷ ps)) (DueIn ps) (CutIn ps) x p q
followed_leaves p q r (hears channel m answer) ps desks same goes rest followed opens = λ before now n told. opens (opening_is (p.front).client (q.front).client m answer ((goes.3).0).1 before now) before now n told
followed_leaves p q r (tells_gone device (Ok done)) ps desks same goes rest followed opens = elim followed [ inl none ↦ inl (none_by desks (p.front).desks device same none) | inr some ↦ inr some ]
followed_leaves p q r (tells_there device (Ok done)) ps desks same goes rest followed opens = elim followed [ inl none ↦ inl (none_by desks (p.front).desks device same none) | inr some ↦ inr some ]
followed_leaves p q r (tells_gone device (Err error)) ps desks same goes rest followed opens = tt
followed_leaves p q r (tells_there device (Err error)) ps desks same goes rest followed opens = tt
followed_leaves p q r x ps desks same goes rest followed opens = tt

-- only the first part begins something
later_starts : (starts : Bool) (x : FrontPart) (ps : List FrontPart) → StartsBy starts (x ∷ ps) → StartsBy false ps
later_starts true x ps all = all
later_starts false x ps all = all.1

first_starts : (starts : Bool) (x : FrontPart) (ps : List FrontPart) → StartsBy starts (x ∷ ps) → is_start x ≡ true → starts ≡ true
first_starts true x ps all is = refl
first_starts false x ps all is = absurd (let none = all.0 in cc (none, is))

-- the part by which a channel begins
begins_as : (p q : Served) (x : FrontPart) (channel : ℕ) → PartGoes p x q → begun_by x ≡ Some channel → (D C E F : ℕ → Type 0) → AreOff p → IsOpenBut E F q
begins_as p q (begins other) channel goes is D C E F off = begun_open D C E F p q other goes off
begins_as p q x channel goes is D C E F off = absurd (cc (is))

module _ (devices : List Announce) (desks : List DeviceDeskState) (have : HaveDesks devices desks) (writable : AreWritable devices) where
  abbrev At : Served → List Deed → Type 0
  At p deeds = IsAt devices desks have writable p deeds

  apart_in : (p : Served) (deeds : List Deed) → At p deeds → AreApartIn (p.front).client
  apart_in p deeds at = ((((at.own).fine).fits).kept).devices.apart

  -- the stations stay open as the host was told, where a job is under way
  way_open : (p q : Served) (x : FrontPart) (starts : Bool) (ps : List FrontPart) (deeds : List Deed) → PartGoes p x q → At p deeds → AreOff p → StartsBy starts (x ∷ ps) → (starts ≡ true → IsOpen p) → (k : Kept) → IsUnder q.asking k → IsOpen q
  way_open p q x starts ps deeds goes at off all opened k under = by (is_start x) refl
    where
      on_by : LeavesDue Never Never Never Never x p q → IsOpen p → IsOpen q
      on_by leaves is = part_open Never Never Never Never p q x deeds goes (at.known).keyed (at.known).told (apart_in p deeds at) leaves (λ n none. absurd none) (λ n none. absurd none) off is

      by : (b : Bool) → is_start x ≡ b → IsOpen q
      by true is = on_by (start_leaves p q x k goes is under) (opened (first_starts starts x ps all is))
      by false is = let (other, way) = under_before p q x k goes is under in on_by (under_leaves p q x other goes is way) (at.open_way other way)

  -- What holds after parts.
  record After (q : Served) (deeds : List Deed) (G : Type 0) : Type 0 where
    said : AreSaid q deeds
    unworn : AreUnworn q deeds
    off : AreOff q
    opened : G → IsOpen q
    known : IsKnownAt q deeds
    own : IsOwn devices q deeds
    ids : ids_of (q.front).desks ≡ ids_of desks

  -- the stations are open but for what these parts still do, or a channel is still to begin
  abbrev SaidAt : Served → List Deed → FrontPart → Type 0
  SaidAt p deeds x = AreSaid p deeds

  abbrev Ahead : List FrontPart → Served → Type 0
  Ahead ps p = IsOpenBut (DueIn ps) (CutIn ps) p ⊎ ((channel : ℕ) × Among (λ x. begun_by x ≡ Some channel) ps)

  goes_on : (ps : List FrontPart) (starts : Bool) (first : List DeviceDeskState) (G : Type 0) (p q : Served) (deeds : List Deed) (goes : PartsGo p ps q) → ids_of first ≡ ids_of desks → StartsBy starts ps → (starts ≡ true → IsOpen p)
      → (G → AreFollowed first ps) → (G → OpensEach p ps q goes) → (G → Ahead ps p) → At p deeds → AreFine FitsCompletion (deeds_after ps deeds) → AreOff p → AreSaid p deeds → AreUnworn p deeds → After q (deeds_after ps deeds) G × PartsMeet SaidAt p deeds ps q goes
  goes_on [] starts first G p q deeds goes same all opened followed opens ahead at fine off said unworn = (
    subst (λ (v : Served). After v deeds G) (sym goes) (record {
      said = said;
      unworn = unworn;
      off = off;
      opened = λ g. elim (ahead g) [ inl is ↦ is | inr later ↦ absurd later.1 ];
      known = at.known;
      own = at.own;
      ids = at.ids;
    }),
    tt,
  )
  goes_on (x ∷ ps) starts first G p q deeds goes same all opened followed opens ahead at fine off said unworn =
      let (after, each) =
      goes_on ps false first G next q (deeds_of x ++ deeds) goes.2 same (later_starts starts x ps all) (λ no. absurd (cc (no))) (λ g. (followed g).1) (λ g. none_opens next q ps goes.2 (later_starts starts x ps all)) then_ahead then_at fine then_off (part_said devices desks have writable p next x deeds goes.1 at said)
      (part_unworn devices desks have writable p next x deeds goes.1 at said unworn) in
      (after, (said, each))
    where
      next : Served
      next = goes.0

      then_off : AreOff next
      then_off = part_off p next x deeds goes.1 (at.known).keyed (at.known).told off

      then_at : At next (deeds_of x ++ deeds)
      then_at = record {
        known = part_known p next x deeds goes.1 at.known;
        own = part_own devices p next x deeds goes.1 (at.known).keyed at.own;
        ids = part_ids p next x goes.1 ∙ at.ids;
        fine = λ c k r read. fine c k r (grown_after ps (deeds_of x ++ deeds) c k r read);
        way = part_way p next x goes.1 (at.known).keyed at.way;
        open_way = way_open p next x starts ps deeds goes.1 at off all opened;
      }

      then_ahead : G → Ahead ps next
      then_ahead g = elim (ahead g) [
        | inl is ↦ inl (part_open (DueIn (x ∷ ps)) (CutIn (x ∷ ps)) (DueIn ps) (CutIn ps) p next x deeds goes.1 (at.known).keyed (at.known).told (apart_in p deeds at)
            (followed_leaves p next q x ps first (same ∙ sym at.ids) goes.1 goes.2 (followed g).0 (opens g)) (λ n some. some) (λ n some. some) off is)
        | inr later ↦ elim later.1 [ inl here ↦ inl (begins_as p next x later.0 goes.1 here (DueIn (x ∷ ps)) (CutIn (x ∷ ps)) (DueIn ps) (CutIn ps) off) | inr others ↦ inr (later.0, others) ]
      ]

  -- ---- each call

  first_false : (a b : Bool) → (a || b) ≡ false → (a ≡ false) × (b ≡ false)
  first_false true b is = absurd (cc (is))
  first_false false b is = (refl, is)

  -- where a call leaves nothing that hinders, nothing hindered before it, or a channel began by it
  unhindered : (was : Bool) (does : FrontCall) (back : FrontReply) → hindered_by was does back ≡ false → (hinders back ≡ false) × ((was ≡ false) ⊎ ((channel : ℕ) × (place : Option ℕ) × (full : Bool) × (does ≡ call.Begin channel) × (back ≡ reply.Done place full)))
  unhindered was (call.Begin channel) (reply.Done place full) is = (refl, inr (channel, place, full, refl, refl))
  unhindered was does back is = let both = first_false (hinders back) was is in (both.0, inl both.1)

  open_more : (ps : List FrontPart) (p : Served) → IsOpen p → IsOpenBut (DueIn ps) (CutIn ps) p
  open_more ps p is = record {
    told = λ place d s here on told. elim (is.told place d s here on told) [ inl so ↦ inl so | inr never ↦ absurd never ];
    live = λ place d s here lives. let so = is.live place d s here lives in (so.0, elim so.1 [ inl told ↦ inl told | inr never ↦ absurd never ]);
  }

  one_call : (was : Bool) (does : FrontCall) (back : FrontReply) (ps : List FrontPart) (p q : Served) (deeds : List Deed) → (goes : CallGoes p does back ps q) → (may_start does back ≡ true → was ≡ false) → IsKnownAt p deeds → IsOwn devices p deeds → ids_of (p.front).desks ≡ ids_of desks
      → AreFine FitsCompletion (deeds_after ps deeds) → AreOff p → (was ≡ false → IsOpen p) → AreSaid p deeds → AreUnworn p deeds → After q (deeds_after ps deeds) (hindered_by was does back ≡ false) × PartsMeet SaidAt p deeds ps q goes.goes
  one_call was does back ps p q deeds goes starts known own ids fine off opened said unworn =
      goes_on ps (may_start does back) (p.front).desks (hindered_by was does back ≡ false) p q deeds goes.goes ids (goes.tells).first (λ is. opened (starts is)) (λ g. goes.follows (unhindered was does back g).0) (λ g. goes.opens (unhindered was does back g).0) ahead at fine off said unworn
    where
      ahead : hindered_by was does back ≡ false → Ahead ps p
      ahead g = elim (unhindered was does back g).1 [
        | inl before ↦ inl (open_more ps p (opened before))
        | inr begun ↦ (let (channel, place, full, is, done) = begun in inr (channel, (goes.tells).begun channel place full is done))
      ]

      at : At p deeds
      at = record {
        known = known;
        own = own;
        ids = ids;
        fine = λ c k r read. fine c k r (grown_after ps deeds c k r read);
        way = idle_way p goes.before;
        open_way = λ k under. absurd (subst (λ (a : Asking). IsUnder a k) goes.before under);
      }

  pub history_said : (entries : List (Entry FrontCall FrontReply)) (parts : List (List FrontPart)) (was : Bool) (p q : Served) (deeds : List Deed) → (goes : HistoryGoes p entries parts q) → StartUnhindered was entries → IsKnownAt p deeds → IsOwn devices p deeds → ids_of (p.front).desks ≡ ids_of desks
      → AreFine FitsCompletion (deeds_of_calls parts deeds) → AreOff p → (was ≡ false → IsOpen p) → AreSaid p deeds → AreUnworn p deeds
      → AreSaid q (deeds_of_calls parts deeds) × AreUnworn q (deeds_of_calls parts deeds) × (hindered_after was entries ≡ false → IsOpen q) × CallsMeet SaidAt p deeds entries parts q goes
  history_said [] [] was p q deeds goes unhindered_all known own ids fine off opened said unworn = (subst (λ (v : Served). AreSaid v deeds) (sym goes) said, subst (λ (v : Served). AreUnworn v deeds) (sym goes) unworn, (λ is. subst IsOpen (sym goes) (opened is)), tt)
  history_said [] (ps ∷ parts) was p q deeds goes unhindered_all known own ids fine off opened said unworn = absurd goes
  history_said (e ∷ entries) [] was p q deeds goes unhindered_all known own ids fine off opened said unworn = absurd goes
  history_said (e ∷ entries) (ps ∷ parts) was p q deeds goes unhindered_all known own ids fine off opened said unworn =
      let (after, each) = one_call was e.call e.reply ps p goes.0 deeds goes.1 unhindered_all.0 known own ids (λ c k r read. fine c k r (grown_calls parts (deeds_after ps deeds) c k r read)) off opened said unworn in
      let more = history_said entries parts (hindered_by was e.call e.reply) goes.0 q (deeds_after ps deeds) goes.2 unhindered_all.1 after.known after.own after.ids fine after.off after.opened after.said after.unworn in
      (more.0, more.1, more.2, (each, more.3))

-- ---- the beginning

begins_off : (devices : List Announce) (p : Served) → BeginsWith devices p → (place : ℕ) (d : DeviceDeskState) (s : Of) → IsDeskAt p place d s → s.live ≡ false
begins_off devices p start place d s here = ap (λ (x : Of). x.live) (new_at (p.front).desks p.stations start.new.new.desks start.new.stationed place d s here.0 here.1).1

pub all_said : (devices : List Announce) (old new : Served) (entries : List (Entry FrontCall FrontReply)) (parts : List (List FrontPart)) → BeginsWith devices old → HaveDesks devices (old.front).desks → (goes : HistoryGoes old entries parts new) → AreFine FitsCompletion (deeds_of_calls parts [])
    → StartUnhindered false entries
    → AreSaid new (deeds_of_calls parts []) × AreUnworn new (deeds_of_calls parts []) × (hindered_after false entries ≡ false → IsOpen new) × CallsMeet (λ p before x. AreSaid p before) old [] entries parts new goes
all_said devices old new entries parts start have goes fine unhindered_all =
    history_said devices (old.front).desks have start.writable entries parts false old new [] goes unhindered_all (begins_known old start.new.new start.new.apart start.new.stationed start.new.idle_is) (begins_own devices old start) refl fine
    (λ off. begins_off devices old start) (λ is. record {
      told = λ place d s here on told. absurd (let off = start.new.new.off in cc (on, off));
      live = λ place d s here lives. absurd (let off = begins_off devices old start place d s here in cc (lives, off));
    }) (record {
      marks = λ on. absurd (let off = start.new.new.off in cc (on, off));
      out = subst (λ (os : List Outgoing). AllRight (IsWornFor old []) (old.front).channel os []) (sym start.new.new.nothing) tt;
      later = λ c above. refl;
      each = tt;
    }) (record { refused = λ now k m none. absurd none; comes = tt })

-- ---- the premise

one_unhindered : (was : Bool) (does : FrontCall) (back : FrontReply) → (may_start does back ≡ true → was ≡ false) → HearsUnhindered was does back
one_unhindered was (call.Hear message) reply.Refused is = tt
one_unhindered was (call.Hear message) reply.Full is = tt
one_unhindered was (call.Hear message) back is = is refl
one_unhindered was does back is = tt

pub heard_unhindered : (entries : List (Entry FrontCall FrontReply)) (was : Bool) → StartUnhindered was entries → HearUnhindered was entries
heard_unhindered [] was is = tt
heard_unhindered (e ∷ entries) was is = (one_unhindered was e.call e.reply is.0, heard_unhindered entries (hindered_by was e.call e.reply) is.1)
