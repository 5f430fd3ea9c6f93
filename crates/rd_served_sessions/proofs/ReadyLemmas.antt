-- No request comes by a call before which the client isn't ready.
use Rattle.std.proofs.Common.{◌≡◌, ◌∙◌, refl, sym, ap, subst, inl, inr, ℕ, ◌==◌, ◌&&◌, Bool, true, false, List, [], ◌∷◌, ◌++◌, Option, Some, None, slice_get}
use Rattle.std.specs.List.{AllByRecursion}
use Rattle.rd_base.specs.declared.journal.Item.{Item}
use Rattle.rd_base.specs.declared.journal.Item.TheVariants.{Came}
use Rattle.rd_base.specs.declared.journal.Key.{Key}
use Rattle.rd_desk.specs.declared.calls.DeskCall.{DeskCall}
use Rattle.rd_desk.specs.declared.calls.DeskCall.TheVariants as desk
use Rattle.rd_desk.specs.declared.calls.DeskReply.{DeskReply}
use Rattle.rd_devices.specs.declared.list.Announce.{Announce}
use Rattle.rd_front.specs.Calls.{FrontEntry}
use Rattle.rd_front.specs.Front.{FrontStep, is_front_ready, may_add, may_remove, none_for, standing_of}
use Rattle.rd_front.specs.State.{DeviceDeskState, FrontState, SessionStation}
use Rattle.rd_front.specs.declared.calls.FrontCall.{FrontCall}
use Rattle.rd_front.specs.declared.calls.FrontCall.TheVariants as call
use Rattle.rd_front.specs.declared.calls.FrontReply.{FrontReply}
use Rattle.rd_deeds.specs.Talk.{Deed, Has, stores}
use Rattle.rd_world.specs.World.{Kept}
use Rattle.rd_workers.proofs.RunLemmas.{DoesSurely}
use Rattle.rd_served_causes.proofs.ServedCauseLemmas.{found}
use Rattle.rd_served_causes.proofs.ServedKeyLemmas.{IsUnder, both_true}
use Rattle.rd_served_causes.proofs.ServedStandingLemmas.{IsKnownAt, part_known, refreshed_more}
use Rattle.rd_served_causes.specs.ServedDeeds.{EachOnChannel, deeds_after, deeds_of}
use Rattle.rd_served_causes.specs.ServedHistories.{HistoryGoes, StartsBy, may_start}
use Rattle.rd_served_causes.specs.ServedParts.{CallsAt, FitsCall, FrontPart, IsOpenCall, PartGoes, PartsGo, begins, calls, directs, ends, forgets, hears, is_start, keeps, learns, misplaces, refreshes, sends, tells_gone, tells_there, tries, unwritten, writes}
use Rattle.rd_served_causes.specs.ServedServed.{Asking, Served, idle}
use Rattle.rd_served_causes.specs.ServedRefusalsHeeding.{hindered_by}
use Rattle.rd_served_causes.proofs.OpenLemmas.{IsQuietCall, quiet_call, worked}
use Rattle.rd_served_causes.specs.Open.{IsDeskAt}
use Rattle.rd_served_sessions.proofs.DoesLemmas.{IsAsOpen, adds_open, hands_open, removes_open, unless_full, where_open}
use Rattle.rd_served_sessions.proofs.LookLemmas.{LookUnhindered, IsCounted}
use Rattle.rd_served_sessions.proofs.PartedLemmas.{ComeReady, ready_by}
use Rattle.rd_served_sessions.proofs.PlacedLemmas.{call_open, call_point, counted_then}
use Rattle.rd_served_sessions.proofs.RemovalLemmas.{AreLiveTold, IsPoint}
use Rattle.rd_served_sessions.proofs.StoredLemmas.{StoresIn, ends_lack, groups_of, has_split, part_stores}
use Rattle.rd_served_sessions.proofs.UnderLemmas.{comes_under, ends_came, idle_none, under_kept}
use Rattle.rd_served_sessions.specs.Steps.{AreSteps}

abbrev Of : Type 0
Of = SessionStation

-- ---- stations that aren't live

abbrev NoneLives : Served → Type 0
NoneLives p = (place : ℕ) (d : DeviceDeskState) (s : Of) → IsDeskAt p place d s → s.live ≡ false

-- so it is where a job is under way
abbrev DeadUnder : Served → Type 0
DeadUnder p = (k : Kept) → IsUnder p.asking k → NoneLives p

lives_same : (p q : Served) → (q.front).desks ≡ (p.front).desks → q.stations ≡ p.stations → NoneLives p → NoneLives q
lives_same p q desks stations none place d s here = none place d s (ap (λ (ds : List DeviceDeskState). slice_get ds place) (sym desks) ∙ here.0, ap (λ (ss : List Of). slice_get ss place) (sym stations) ∙ here.1)

-- a desk is called while a job is under way
calls_dead : (p q : Served) (place id : ℕ) (does : DeskCall) (back : DeskReply) (items : List Item) (deeds : List Deed) → IsKnownAt p deeds → CallsAt p place id does back items q → (k : Kept) → IsUnder p.asking k → NoneLives p → NoneLives q
calls_dead p q place id does back items deeds known at k under none pl d s here = elim (found p q place id does back items deeds known.keyed known.told at pl d s here) [
  | inl (this, same, last) ↦ ap (λ (x : Of). x.live) last ∙ by does refl at.own at.fits
  | inr (other, before) ↦ none pl d s before
]
  where
    first : (at.first).live ≡ false
    first = none place at.before at.first (at.there, at.has)

    quiet : IsQuietCall does → (at.last).live ≡ false
    quiet own = (quiet_call p q place id does back items known.keyed at own).live ∙ first

    by : (e : DeskCall) → does ≡ e → IsOpenCall e → FitsCall p id e → (at.last).live ≡ false
    by (desk.Put job) same own fits = quiet (subst IsQuietCall (sym same) tt)
    by desk.Collect same own fits = quiet (subst IsQuietCall (sym same) tt)
    by desk.Announce same own fits = absurd (subst (λ (a : Asking). IsUnder a k) fits.0 under)
    by desk.Remove same own fits = absurd (subst (λ (a : Asking). IsUnder a k) fits.0 under)
    by (desk.Work runs) same own fits = absurd own
    by desk.DropChannel same own fits = absurd own
    by desk.End same own fits = absurd own

part_dead : (p q : Served) (x : FrontPart) (deeds : List Deed) → PartGoes p x q → is_start x ≡ false → IsKnownAt p deeds → DeadUnder p → DeadUnder q
part_dead p q x deeds goes start known dead k now = by x goes start (under_kept p q x k goes start now)
  where
    by : (y : FrontPart) → PartGoes p y q → is_start y ≡ false → IsUnder p.asking k → NoneLives q
    by (hears channel m answer) did is under = absurd (cc (is))
    by tries did is under = absurd (cc (is))
    by keeps did is under = lives_same p q (ap (λ (v : Served). (v.front).desks) did.3) (ap (λ (v : Served). v.stations) did.3) (dead k under)
    by forgets did is under = lives_same p q (ap (λ (v : Served). (v.front).desks) did.4) (ap (λ (v : Served). v.stations) did.4) (dead k under)
    by misplaces did is under = lives_same p q (ap (λ (v : Served). (v.front).desks) did.3) (ap (λ (v : Served). v.stations) did.3) (dead k under)
    by (directs st answer) did is under = lives_same p q (ap (λ (s : FrontState). s.desks) (did.2).1) did.4 (dead k under)
    by (calls place id does back items) did is under = calls_dead p q place id does back items deeds known did k under (dead k under)
    by (tells_gone device answer) did is under = lives_same p q (ap (λ (s : FrontState). s.desks) (did.0).1) did.2 (dead k under)
    by (tells_there device answer) did is under = lives_same p q (ap (λ (s : FrontState). s.desks) (did.0).1) did.2 (dead k under)
    by (sends channel sent) did is under = lives_same p q (ap (λ (s : FrontState). s.desks) (did.1).1) did.3 (dead k under)
    by (writes device c) did is under = lives_same p q (ap (λ (v : Served). (v.front).desks) did.1) (ap (λ (v : Served). v.stations) did.1) (dead k under)
    by (unwritten device c) did is under = lives_same p q (ap (λ (v : Served). (v.front).desks) did.1) (ap (λ (v : Served). v.stations) did.1) (dead k under)
    by (learns n answer) did is under = lives_same p q (ap (λ (v : Served). (v.front).desks) did.1) (ap (λ (v : Served). v.stations) did.1) (dead k under)
    by (refreshes device) did is under = lives_same p q (ap (λ (v : Served). (v.front).desks) did ∙ (refreshed_more p.front device).0) (ap (λ (v : Served). v.stations) did) (dead k under)
    by (begins channel) did is under = absurd (subst (λ (a : Asking). IsUnder a k) did.0 under)
    by (ends over told) did is under = absurd (subst (λ (a : Asking). IsUnder a k) did.0 under)

-- ---- a call

-- so no request comes by such a part
part_brings : (p q : Served) (x : FrontPart) (deeds : List Deed) → PartGoes p x q → IsKnownAt p deeds → DeadUnder p → (device : ℕ) (key : Key) → StoresIn x device (Came key) → ⊥
part_brings p q (calls place id does back items) deeds goes known dead device key has =
    let (k, under, same, live) = comes_under p q place id does back items goes key has.1 in
    let off = dead k under place goes.before goes.first (goes.there, goes.has) in
    let kept = (worked p q place id does back items known.keyed goes).live in
    cc (live, off, kept)
part_brings p q (ends over told) deeds goes known dead device key has = ends_lack (Came key) over (ends_came over key) (p.front).desks p.stations told (q.front).desks q.stations goes.1 device has
part_brings p q (hears channel m answer) deeds goes known dead device key has = has
part_brings p q tries deeds goes known dead device key has = has
part_brings p q keeps deeds goes known dead device key has = has
part_brings p q forgets deeds goes known dead device key has = has
part_brings p q misplaces deeds goes known dead device key has = has
part_brings p q (directs st answer) deeds goes known dead device key has = has
part_brings p q (tells_gone d answer) deeds goes known dead device key has = has
part_brings p q (tells_there d answer) deeds goes known dead device key has = has
part_brings p q (sends channel sent) deeds goes known dead device key has = has
part_brings p q (writes d c) deeds goes known dead device key has = has
part_brings p q (unwritten d c) deeds goes known dead device key has = has
part_brings p q (learns n answer) deeds goes known dead device key has = has
part_brings p q (refreshes d) deeds goes known dead device key has = has
part_brings p q (begins channel) deeds goes known dead device key has = has

parts_bring : (ps : List FrontPart) (p q : Served) (deeds : List Deed) → PartsGo p ps q → StartsBy false ps → IsKnownAt p deeds → DeadUnder p → (device : ℕ) (key : Key) → Has (stores device (Came key)) (deeds_after ps []) → ⊥
parts_bring [] p q deeds goes all known dead device key has = has
parts_bring (x ∷ ps) p q deeds goes all known dead device key has = elim (has_split (stores device (Came key)) x ps has) [
  | inl later ↦ parts_bring ps goes.0 q (deeds_of x ++ deeds) goes.2 all.1 (part_known p goes.0 x deeds goes.1 known) (part_dead p goes.0 x deeds goes.1 all.0 known dead) device key later
  | inr here ↦ part_brings p goes.0 x deeds goes.1 known dead device key (part_stores x device (Came key) here)
]

-- the first part may start something
first_dead : (p q : Served) (x : FrontPart) (deeds : List Deed) → PartGoes p x q → IsKnownAt p deeds → NoneLives p → DeadUnder p → DeadUnder q
first_dead p q (hears channel m answer) deeds goes known none dead = λ k under. lives_same p q (ap (λ (s : FrontState). s.desks) (goes.3).1) goes.5 none
first_dead p q tries deeds goes known none dead = λ k under. lives_same p q (ap (λ (v : Served). (v.front).desks) goes.4) (ap (λ (v : Served). v.stations) goes.4) none
first_dead p q keeps deeds goes known none dead = part_dead p q keeps deeds goes refl known dead
first_dead p q forgets deeds goes known none dead = part_dead p q forgets deeds goes refl known dead
first_dead p q misplaces deeds goes known none dead = part_dead p q misplaces deeds goes refl known dead
first_dead p q (directs st answer) deeds goes known none dead = part_dead p q (directs st answer) deeds goes refl known dead
first_dead p q (calls place id does back items) deeds goes known none dead = part_dead p q (calls place id does back items) deeds goes refl known dead
first_dead p q (tells_gone device answer) deeds goes known none dead = part_dead p q (tells_gone device answer) deeds goes refl known dead
first_dead p q (tells_there device answer) deeds goes known none dead = part_dead p q (tells_there device answer) deeds goes refl known dead
first_dead p q (sends channel sent) deeds goes known none dead = part_dead p q (sends channel sent) deeds goes refl known dead
first_dead p q (writes device c) deeds goes known none dead = part_dead p q (writes device c) deeds goes refl known dead
first_dead p q (unwritten device c) deeds goes known none dead = part_dead p q (unwritten device c) deeds goes refl known dead
first_dead p q (learns n answer) deeds goes known none dead = part_dead p q (learns n answer) deeds goes refl known dead
first_dead p q (refreshes device) deeds goes known none dead = part_dead p q (refreshes device) deeds goes refl known dead
first_dead p q (begins channel) deeds goes known none dead = part_dead p q (begins channel) deeds goes refl known dead
first_dead p q (ends over told) deeds goes known none dead = part_dead p q (ends over told) deeds goes refl known dead

call_brings : (starts : Bool) (ps : List FrontPart) (p q : Served) (deeds : List Deed) → PartsGo p ps q → StartsBy starts ps → IsKnownAt p deeds → p.asking ≡ idle → NoneLives p → (device : ℕ) (key : Key) → Has (stores device (Came key)) (deeds_after ps []) → ⊥
call_brings false ps p q deeds goes all known free none device key has = parts_bring ps p q deeds goes all known (λ k under. absurd (idle_none p free k under)) device key has
call_brings true [] p q deeds goes all known free none device key has = has
call_brings true (x ∷ ps) p q deeds goes all known free none device key has = elim (has_split (stores device (Came key)) x ps has) [
  | inl later ↦ parts_bring ps goes.0 q (deeds_of x ++ deeds) goes.2 all (part_known p goes.0 x deeds goes.1 known) (first_dead p goes.0 x deeds goes.1 known none (λ k under. absurd (idle_none p free k under))) device key later
  | inr here ↦ part_brings p goes.0 x deeds goes.1 known (λ k under. absurd (idle_none p free k under)) device key (part_stores x device (Came key) here)
]

-- ---- where it was looked up that the client isn't ready

abbrev IsUnready : FrontState → Option Bool → Type 0
IsUnready s was = was ≡ Some false → (s.on && is_front_ready s) ≡ false

none_lives : (p : Served) → AreLiveTold p → ((p.front).on && is_front_ready p.front) ≡ false → NoneLives p
none_lives p opened unready place d s here = by s.live refl
  where
    by : (b : Bool) → s.live ≡ b → s.live ≡ false
    by false off = off
    by true lives =
        let so = opened.live place d s here lives in
        elim so.1 [
          | inl told ↦ absurd (let on = so.0 in let ready = (both_true (is_front_ready p.front) _ told).0 in let both : ((p.front).on && is_front_ready p.front) ≡ true = λ i. on i && ready i in cc (both, unready))
          | inr never ↦ absurd never
        ]

kept_unready : (old new : FrontState) (was : Option Bool) → IsAsOpen old new → IsUnready old was → IsUnready new was
kept_unready old new was same is looked = (λ i. same.on i && same.ready i) ∙ is looked

none_unready : (s : FrontState) → IsUnready s None
none_unready s looked = absurd (cc (looked))

look_unready : (old new : FrontState) (was : Option Bool) (back : FrontReply) → back ≡ standing_of old → new ≡ old → IsUnready new (ready_by was call.Look back)
look_unready old new was back is same = subst (λ (r : FrontReply). IsUnready new (ready_by was call.Look r)) (sym is) (λ looked. let said : (old.on && is_front_ready old) ≡ false = cc (looked) in ap (λ (s : FrontState). s.on && is_front_ready s) same ∙ said)

step_unready : (old new : FrontState) (was : Option Bool) (does : FrontCall) (back : FrontReply) → FrontStep old does back new → IsUnready old was → IsUnready new (ready_by was does back)
step_unready old new was call.Look back step is = look_unready old new was back step.0 step.1
step_unready old new was (call.Remove device) back step is = kept_unready old new was (unless_full (may_remove old device) old back new _ (removes_open old device back new) step) is
step_unready old new was (call.Add device) back step is = kept_unready old new was (unless_full (may_add old device) old back new _ (adds_open old device back new) step) is
step_unready old new was (call.Next channel place room) back step is = kept_unready old new was (where_open (channel == old.channel) (none_for room) back old new _ (hands_open old place room back new) step) is
step_unready old new was (call.Begin channel) back step is = none_unready new
step_unready old new was (call.Hear message) back step is = none_unready new
step_unready old new was call.Retry back step is = none_unready new
step_unready old new was call.EndChannel back step is = none_unready new
step_unready old new was call.EndSession back step is = none_unready new

-- ---- a whole history

module _ (devices : List Announce) where
  -- In a history no request comes by a call before which it was looked up that the client isn't ready.
  pub history_ready : (entries : List FrontEntry) (parts : List (List FrontPart)) (was : Bool) (looked : Option Bool) (p q : Served) (deeds : List Deed) (goes : HistoryGoes p entries parts q) → AreSteps p entries parts q goes → EachOnChannel p entries parts q goes
      → AllByRecursion (λ (e : FrontEntry). DoesSurely e.call e.reply) entries → LookUnhindered was entries → IsPoint devices p deeds → AreLiveTold p → (was ≡ false → IsCounted p deeds) → IsUnready p.front looked → ComeReady looked entries (groups_of parts)
  history_ready [] [] was looked p q deeds goes steps here sure looks is opened counted unready = tt
  history_ready [] (ps ∷ parts) was looked p q deeds goes steps here sure looks is opened counted unready = absurd goes
  history_ready (e ∷ entries) [] was looked p q deeds goes steps here sure looks is opened counted unready = absurd goes
  history_ready (e ∷ entries) (ps ∷ parts) was looked p q deeds goes steps here sure looks is opened counted unready = (
    λ off device key has.
        call_brings (may_start e.call e.reply) ps p goes.0 deeds (goes.1).goes ((goes.1).tells).first is.known (goes.1).before (none_lives p opened (unready off)) device key has,
    history_ready entries parts (hindered_by was e.call e.reply) (ready_by looked e.call e.reply) goes.0 q (deeds_after ps deeds) goes.2 steps.1 here.1 sure.1 looks.1
        (call_point devices was e.call e.reply ps p goes.0 deeds goes.1 steps.0 here.0 sure.0 is opened looks.0 counted) (call_open devices was e.call e.reply ps p goes.0 deeds goes.1 steps.0 here.0 sure.0 is opened looks.0 counted)
        (counted_then devices was e.call e.reply ps p goes.0 deeds goes.1 steps.0 here.0 sure.0 is opened looks.0 counted) (step_unready p.front (goes.0).front looked e.call e.reply steps.0 unready),
  )
