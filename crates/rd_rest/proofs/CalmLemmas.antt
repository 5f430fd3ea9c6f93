-- What happens but for a channel's end and what hands do: no hand changes, no station gives a job to a hand, and none stores that its device was dropped.
use Rattle.std.proofs.Common.{◌≡◌, ◌∙◌, refl, sym, ap, subst, inl, inr, ℕ, Bool, true, false, cond, List, [], ◌∷◌, ◌++◌, map, fold, Some, None, Option, Result, Ok, Err, append-nil, append_assoc}
use Rattle.std.specs.Prelude.{if◌then◌else◌, nat_le, not}
use Rattle.std.specs.Map.{lookup}
use Rattle.std.specs.Ordering.{nat_cmp}
use Rattle.std.specs.BTreeMap.{is_at}
use Rattle.rd_base.specs.declared.journal.Cause.TheVariants.{Dropped, Removed}
use Rattle.rd_base.specs.declared.journal.Item.{Item}
use Rattle.rd_base.specs.declared.journal.Item.TheVariants.{Came, Cancelled, Cut, Sent}
use Rattle.rd_client.specs.Core as client
use Rattle.rd_client.specs.Core.{client_hear, listed}
use Rattle.rd_client.specs.declared.heard.Heard.{Heard}
use Rattle.rd_client.specs.declared.heard.Heard.TheVariants.{Nothing, Ask, Print}
use Rattle.rd_devices.specs.declared.list.Announce.{Announce}
use Rattle.rd_drive.specs.declared.plan.Job.{Job}
use Rattle.rd_hello.specs.declared.client.ClientState.{ClientState}
use Rattle.rd_hello.specs.declared.end_fault.EndFault.{EndFault}
use Rattle.rd_answered.proofs.JournalsHeldLemmas.{found_then}
use Rattle.rd_answered.proofs.RunsParts.{announced_by, cut_by, refreshed_by, told_added, told_removed}
use Rattle.rd_station.specs.Station as station
use Rattle.rd_station.specs.Station.{StationState, announce, cancelled_parked, cancelled_waiting, collect_first, entry_count, marked_removed, max_entries, put_unless}
use Rattle.rd_station.specs.declared.answers.Completion.{Completion}
use Rattle.rd_station.specs.declared.held.InHand.{InHand}
use Rattle.rd_station.specs.declared.held.ParkedJob.{ParkedJob}
use Rattle.rd_station.specs.declared.refusals.AnnounceNo.{AnnounceNo}
use Rattle.rd_station.specs.declared.refusals.AnnounceNo.TheVariants as no
use Rattle.rd_station.specs.declared.refusals.PutWhy.{PutWhy}
use Rattle.rd_station.specs.declared.refusals.PutWhy.TheVariants as why
use Rattle.rd_station.proofs.Members.{has_append, map_has}
use Rattle.rd_declared.specs.declared.device.SessionDevice.{SessionDevice}
use Rattle.rd_declared.specs.Devices.{PrinterNames, device_cut}
use Rattle.rd_world.specs.Events.{refreshing}
use Rattle.rd_world.specs.Hearing.{after_opening, announcing, client_hears, heard_by_client, put_at, put_by, putting, refused_put, with_client}
use Rattle.rd_deeds.specs.Talk.{Has, client_reads}
use Rattle.rd_world.specs.World.{WorldState, station_at, with_deed, with_station}

abbrev Of : Type 0
Of = StationState SessionDevice

-- ---- a station

pub record Calm (s t : Of) : Type 0 where
  pub taken : (x : InHand) → Has x t.taken → (y : InHand) × Has y s.taken × (y.key ≡ x.key)
  pub parked : (p : ParkedJob) → Has p t.parked → Has p s.parked
  pub more : List Item
  pub longer : t.journal ≡ s.journal ++ more
  pub undropped : Has (Cut Dropped) more → ⊥

pub calm_not : (s : Of) → Calm s s
calm_not s = record { taken = λ x has. (x, has, refl); parked = λ p has. has; more = []; longer = sym (append-nil s.journal); undropped = λ has. has }

calm_then : {s u : Of} (t : Of) → Calm s t → Calm t u → Calm s u
calm_then {s} {u} t first second = record {
  taken = λ x has. let (y, among, same) = second.taken x has in let (z, there, is) = first.taken y among in (z, there, is ∙ same);
  parked = λ p has. first.parked p (second.parked p has);
  more = first.more ++ second.more;
  longer = second.longer ∙ ap (λ (j : List Item). j ++ second.more) first.longer ∙ append_assoc s.journal first.more second.more;
  undropped = λ has. elim (has_append (Cut Dropped) first.more second.more has) [ inl one ↦ first.undropped one | inr other ↦ second.undropped other ];
}

announced_calm : (s : Of) → Calm s (announce s).0
announced_calm s = by s.live (nat_le max_entries (entry_count s))
  where
    by : (a b : Bool) → Calm s (cond {A = Of × Result (Unit {0}) AnnounceNo} a (s, Err no.Live) (cond b (s, Err (no.Worn (entry_count s))) (record s { live = true }, Ok tt))).0
    by true b = calm_not s
    by false true = calm_not s
    by false false = record { taken = λ x has. (x, has, refl); parked = λ p has. has; more = []; longer = sym (append-nil s.journal); undropped = λ has. has }

removed_calm : (s : Of) (cut : SessionDevice) → Calm s (station.remove s cut).0
removed_calm s cut = by s.live
  where
    left : Of
    left = record s {
      device = cut;
      live = false;
      waiting = [];
      taken = map marked_removed s.taken;
      parked = [];
      ready = s.ready ++ map cancelled_parked s.parked ++ map cancelled_waiting s.waiting;
      journal = s.journal ++ Cut Removed ∷ map (λ (job : Job). Cancelled job.key) s.waiting;
    }

    none : (jobs : List Job) → Has (Cut Dropped) (map (λ (job : Job). Cancelled job.key) jobs) → ⊥
    none [] has = has
    none (job ∷ jobs) (inl same) = cc (same)
    none (job ∷ jobs) (inr has) = none jobs has

    undropped : Has (Cut Dropped) (Cut Removed ∷ map (λ (job : Job). Cancelled job.key) s.waiting) → ⊥
    undropped (inl same) = cc (same)
    undropped (inr has) = none s.waiting has

    by : (b : Bool) → Calm s (cond {A = Of × Bool} (not b) (s, false) (left, true)).0
    by false = calm_not s
    by true = record {
      taken = λ x has. let (u, there, same) = map_has marked_removed x s.taken has in (u, there, ap (λ (t : InHand). t.key) (sym same));
      parked = λ p none. absurd none;
      more = Cut Removed ∷ map (λ (job : Job). Cancelled job.key) s.waiting;
      longer = refl;
      undropped = undropped;
    }

one_more : (x : Item) → ((Cut Dropped) ≡ x → ⊥) → Has (Cut Dropped) (x ∷ []) → ⊥
one_more x apart (inl same) = apart same
one_more x apart (inr none) = none

pub collected_calm : (s : Of) → Calm s (station.collect s).0
collected_calm s = by s.ready
  where
    by : (cs : List Completion) → Calm s (collect_first s cs).0
    by [] = calm_not s
    by (c ∷ cs) = record { taken = λ x has. (x, has, refl); parked = λ p has. has; more = Sent c.key ∷ []; longer = refl; undropped = one_more (Sent c.key) (λ e. cc (e)) }

-- ---- a world

pub record IsCalm (w v : WorldState) : Type 0 where
  pub hands : v.hands ≡ w.hands
  pub each : (d : ℕ) (t : Of) → station_at v d ≡ Some t → (s : Of) × (station_at w d ≡ Some s) × Calm s t

pub calm_same : {w v : WorldState} → v.hands ≡ w.hands → v.stations ≡ w.stations → IsCalm w v
calm_same {w} {v} hands stations = record { hands = hands; each = λ d t there. (t, subst (λ (es : List (ℕ × Of)). lookup (is_at (nat_cmp d)) es ≡ Some t) stations there, calm_not t) }

pub calm_by : {w y : WorldState} (x : WorldState) → IsCalm w x → IsCalm x y → IsCalm w y
calm_by {w} {y} x first second = record {
  hands = second.hands ∙ first.hands;
  each = λ d t there. let (u, at, one) = second.each d t there in let (s, is, other) = first.each d u at in (s, is, calm_then u other one);
}

pub calm_station : (w : WorldState) (d : ℕ) (s new : Of) → station_at w d ≡ Some s → Calm s new → IsCalm w (with_station w d new)
calm_station w d s new there calm = record {
  hands = refl;
  each = λ q t is. elim (found_then w.stations d new q t is) [
    | inl (here, equal) ↦ (s, ap (station_at w) here ∙ there, subst (Calm s) (sym equal) calm)
    | inr (apart, was) ↦ (t, was, calm_not t)
  ];
}

pub announced : (w : WorldState) (d : ℕ) (o : Option Of) → station_at w d ≡ o → IsCalm w (announced_by w d o)
announced w d None there = calm_same refl refl
announced w d (Some s) there = calm_station w d s (announce s).0 there (announced_calm s)

all_announced : (devices : List Announce) (w : WorldState) → IsCalm w (fold (λ x (a : Announce). announcing x a.id) w devices)
all_announced [] w = calm_same refl refl
all_announced (a ∷ devices) w = calm_by (announcing w a.id) (announced w a.id (station_at w a.id) refl) (all_announced devices (announcing w a.id))

refreshed : (w : WorldState) (d : ℕ) (o : Option PrinterNames) → IsCalm w (refreshed_by w d o)
refreshed w d None = calm_same refl refl
refreshed w d (Some names) = calm_same refl refl

pub all_refreshed_calm : (devices : List ℕ) (w : WorldState) → IsCalm w (fold refreshing w devices)
all_refreshed_calm [] w = calm_same refl refl
all_refreshed_calm (d ∷ devices) w = calm_by (refreshing w d) (refreshed w d (lookup (is_at (nat_cmp d)) w.printers)) (all_refreshed_calm devices (refreshing w d))

pub removed : (w : WorldState) (d : ℕ) (o : Option Of) → station_at w d ≡ o → IsCalm w (cut_by (told_removed w d) d o)
removed w d None there = calm_same refl refl
removed w d (Some s) there = calm_by (told_removed w d) (calm_same refl refl) (calm_station (told_removed w d) d s (station.remove s (device_cut s.device).state).0 there (removed_calm s (device_cut s.device).state))

pub added : (w : WorldState) (d : ℕ) (names : Option PrinterNames) (o : Option Of) → station_at w d ≡ o → IsCalm w (announced_by (told_added (refreshed_by w d names) d) d o)
added w d None o there = calm_by (told_added w d) (calm_same refl refl) (announced (told_added w d) d o there)
added w d (Some n) o there =
    let x : WorldState = told_added (refreshed_by w d (Some n)) d in
    calm_by x (calm_same refl refl) (announced x d o there)

-- ---- jobs

refused : (w : WorldState) (d : ℕ) (job : Job) (cause : PutWhy) → IsCalm w (refused_put w d job cause)
refused w d job why.Gone = calm_same refl refl
refused w d job (why.Full held) = calm_same refl refl
refused w d job (why.Worn count) = calm_same refl refl
refused w d job (why.Duplicate key) = calm_same refl refl
refused w d job why.Memory = calm_same refl refl

pub put_calm : (w : WorldState) (d : ℕ) (job : Job) → IsCalm w (putting w d job)
put_calm w d job = at (station_at w d) refl
  where
    by : (s : Of) → station_at w d ≡ Some s → (o : Option PutWhy) → IsCalm w (put_by w d job (put_unless s job o))
    by s there None = calm_station w d s (put_unless s job None).0 there
        (record { taken = λ x has. (x, has, refl); parked = λ p has. has; more = Came job.key ∷ []; longer = refl; undropped = one_more (Came job.key) (λ e. cc (e)) })
    by s there (Some cause) = refused w d job cause

    at : (o : Option Of) → station_at w d ≡ o → IsCalm w (put_at w d job o)
    at None there = calm_same refl refl
    at (Some s) there = by s there (station.put_refusal s job)

-- ---- what a client hears

opened_calm : (shake : ClientState) (w : WorldState) → IsCalm w (after_opening shake w)
opened_calm shake w = by (client.becomes_ready shake ((w.client).core).shake)
  where
    by : (b : Bool) → IsCalm w (if b then fold (λ x (a : Announce). announcing x a.id) w (listed w.client) else w)
    by true = all_announced (listed w.client) w
    by false = calm_same refl refl

heard_calm : (shake : ClientState) (w : WorldState) (r : Result Heard EndFault) → IsCalm w (heard_by_client shake w r)
heard_calm shake w (Err fault) = calm_same refl refl
heard_calm shake w (Ok Nothing) = opened_calm shake w
heard_calm shake w (Ok (Ask d job)) = put_calm w d job
heard_calm shake w (Ok (Print n)) = calm_same refl refl

pub hears_calm : (w : WorldState) (m : List ℕ) → IsCalm w (client_hears w m)
hears_calm w m =
    let heard = client_hear w.client m in
    calm_by (with_deed (with_client w heard.0) (client_reads w.channels m)) (calm_same refl refl)
    (heard_calm ((w.client).core).shake (with_deed (with_client w heard.0) (client_reads w.channels m)) heard.1)
