-- A device that the host is told of gets a live station, where journals have room, and keeps it whatever its station does but for a cut.
use Rattle.std.proofs.Common.{◌≡◌, ◌∙◌, ◌⊎◌, refl, sym, ap, subst, ℕ, ◌+◌, ◌-◌, ◌*◌, ◌<◌, ◌≤◌, ◌==◌, Bool, true, false, cond, arith, eqb-true, eq-eqb, List, [], ◌∷◌, length, inl, inr, Some, None, Option, Result, Ok, Err}
use Rattle.std.specs.Prelude.{find, fold, nat_le, nat_lt, not, ◌||◌}
use Rattle.std.specs.List.{list_any}
use Rattle.std.specs.Option.{option_map_or}
use Rattle.std.proofs.lemmas.Bool.Decides.{nat_tests}
use Rattle.std.proofs.lemmas.List.{length-reverse}
use Rattle.rd_base.specs.declared.journal.Key.{Key}
use Rattle.rd_devices.specs.declared.list.Announce.{Announce}
use Rattle.rd_drive.specs.Device.{is_parked}
use Rattle.rd_drive.specs.Stepped.{Stepped}
use Rattle.rd_drive.specs.declared.plan.Job.{Job}
use Rattle.rd_irp.specs.Fits.{kind_of}
use Rattle.rd_refused.proofs.JournalsHeldLemmas.{found_then}
use Rattle.rd_refused.specs.JournalsOrderly.{HasStation, Orderly}
use Rattle.rd_refused.proofs.RunsParts.{announced_by}
use Rattle.rd_station.proofs.Calls.{reached_kept}
use Rattle.rd_station.proofs.Holding.{size_held}
use Rattle.rd_station.specs.Station as station
use Rattle.rd_station.specs.Station.{StationState, collect_first, held, is_key, put_refusal}
use Rattle.rd_station.specs.Tied.{IsKept}
use Rattle.rd_station.specs.declared.answers.Applied.{Applied}
use Rattle.rd_station.specs.declared.answers.Applied.TheVariants as applied
use Rattle.rd_station.specs.declared.answers.Completion.{Completion}
use Rattle.rd_station.specs.declared.answers.Given.{Given}
use Rattle.rd_station.specs.declared.answers.Given.TheVariants as given
use Rattle.rd_station.specs.declared.held.InHand.{InHand}
use Rattle.rd_station.specs.declared.refusals.AnnounceNo.{AnnounceNo}
use Rattle.rd_station.specs.declared.refusals.AnnounceNo.TheVariants as refused
use Rattle.rd_station.specs.declared.refusals.PutWhy.TheVariants as why
use Rattle.rd_declared.specs.Devices.{device_cuts, device_parked, device_runs}
use Rattle.rd_world.specs.Hearing.{announcing}
use Rattle.rd_deeds.specs.Talk.{journal}
use Rattle.rd_deeds.specs.Told.{worn_entries}
use Rattle.rd_world.specs.World.{WorldState, station_at}
use Rattle.rd_declared.specs.declared.device.SessionDevice.{SessionDevice}
use Rattle.rd_answered.specs.Refusing.{AllKeepRoom, KeepsRoom}

abbrev Of : Type 0
Of = StationState SessionDevice

-- ---- a station's places

-- of a station that holds so few, the places that are spoken for
places : (s : Of) (n : ℕ) → length (held s) ≤ n → station.entry_count s ≤ length s.journal + (2 * n + cond s.live 1 0)
places s n few =
    let size = size_held s in
    by s.live
  where
    by : (b : Bool) → length s.journal + (2 * (length s.waiting + length s.taken) + length s.parked + length s.ready + cond b 1 0) ≤ length s.journal + (2 * n + cond b 1 0)
    by true = omega (arith, few, size_held s)
    by false = omega (arith, few, size_held s)

pub announce_live : (s : Of) → KeepsRoom s → ((station.announce s).0).live ≡ true
announce_live s room = by s.live refl (nat_le station.max_entries (station.entry_count s)) refl
  where
    by : (a : Bool) → s.live ≡ a → (b : Bool) → nat_le station.max_entries (station.entry_count s) ≡ b
        → ((cond {A = Of × Result (Unit {0}) AnnounceNo} a (s, Err refused.Live) (cond b (s, Err (refused.Worn (station.entry_count s))) (record s { live = true }, Ok tt))).0).live ≡ true
    by true live b worn = live
    by false live false worn = refl
    by false live true worn =
        let most : station.entry_count s ≤ length s.journal + (2 * 128 + 0) = subst (λ (b : Bool). station.entry_count s ≤ length s.journal + (2 * 128 + cond b 1 0)) live (places s 128 room.1) in
        let many : station.max_entries ≤ station.entry_count s = grind (arith, nat_tests, worn) in
        absurd (omega (arith, most, many, room.0))

pub announce_room : (s : Of) → KeepsRoom s → KeepsRoom (station.announce s).0
announce_room s room = by s.live (nat_le station.max_entries (station.entry_count s))
  where
    by : (a b : Bool) → KeepsRoom (cond {A = Of × Result (Unit {0}) AnnounceNo} a (s, Err refused.Live) (cond b (s, Err (refused.Worn (station.entry_count s))) (record s { live = true }, Ok tt))).0
    by true b = room
    by false true = room
    by false false = room

-- no job is refused for a worn journal
pub never_worn : (s : Of) (job : Job) (count : ℕ) → KeepsRoom s → put_refusal s job ≡ Some (why.Worn count) → ⊥
never_worn s job count room is = by s.live refl (find (λ (other : Key × ℕ). other.1 == job.completion) (held s)) (nat_le station.max_held (length (held s))) refl (nat_lt (station.max_entries - 3) (station.entry_count s)) refl is
  where
    by : (a : Bool) → s.live ≡ a → (o : Option (Key × ℕ)) → (b : Bool) → nat_le station.max_held (length (held s)) ≡ b → (c : Bool) → nat_lt (station.max_entries - 3) (station.entry_count s) ≡ c
        → cond (not a) (Some why.Gone) (option_map_or (λ (other : Key × ℕ). Some (why.Duplicate other.0)) o (cond b (Some (why.Full (length (held s)))) (cond c (Some (why.Worn (station.entry_count s))) None))) ≡ Some (why.Worn count) → ⊥
    by false live o b full c worn e = cc e
    by true live (Some x) b full c worn e = cc e
    by true live None true full c worn e = cc e
    by true live None false full false worn e = cc e
    by true live None false full true worn e =
        let few : length (held s) ≤ 127 = grind (arith, nat_tests, full) in
        let most : station.entry_count s ≤ length s.journal + (2 * 127 + 1) = subst (λ (b : Bool). station.entry_count s ≤ length s.journal + (2 * 127 + cond b 1 0)) live (places s 127 few) in
        let many : station.max_entries - 3 < station.entry_count s = grind (arith, nat_tests, worn) in
        omega (arith, most, many, room.0)

-- a job is refused for a device that is gone only where its station isn't live
pub gone_off : (s : Of) (job : Job) → put_refusal s job ≡ Some why.Gone → s.live ≡ true → ⊥
gone_off s job is live = by (find (λ (other : Key × ℕ). other.1 == job.completion) (held s)) (nat_le station.max_held (length (held s))) (nat_lt (station.max_entries - 3) (station.entry_count s)) s.live live is
  where
    by : (o : Option (Key × ℕ)) (b c a : Bool) → a ≡ true
        → cond (not a) (Some why.Gone) (option_map_or (λ (other : Key × ℕ). Some (why.Duplicate other.0)) o (cond b (Some (why.Full (length (held s)))) (cond c (Some (why.Worn (station.entry_count s))) None))) ≡ Some why.Gone → ⊥
    by o b c false live e = cc live
    by (Some x) b c true live e = cc e
    by None true c true live e = cc e
    by None false true true live e = cc e
    by None false false true live e = cc e

-- ---- calls that leave it live

pub take_live : (s after : Of) (job : Job) → station.take s ≡ (after, given.Job job) → after.live ≡ s.live
take_live s after job made = ap (λ (r : Of × Given). (r.0).live) (sym made) ∙ by s.ended s.waiting
  where
    by : (b : Bool) (jobs : List Job) → ((cond {A = Of × Given} b (s, given.Over) (station.take_first s jobs)).0).live ≡ s.live
    by true jobs = refl
    by false [] = refl
    by false (job ∷ jobs) = refl

pub apply_live : (s : Of) (job : Job) (moment : ℕ) (come : Stepped SessionDevice) → ((station.apply s job moment come).0).live ≡ s.live
apply_live s job moment come = by (find (λ (t : InHand). is_key t.key job.key) s.taken)
  where
    hand : (t : InHand) (b : Bool) → ((cond {A = Of × Applied} b (station.cancelled_in_hand s t (kind_of job.op), applied.Cancelled) (station.ran s t (kind_of job.op) moment come, cond (is_parked come.answer) applied.Parked applied.Ran)).0).live ≡ s.live
    hand t true = refl
    hand t false = refl

    by : (o : Option InHand) → ((station.apply_from s job moment come o).0).live ≡ s.live
    by None = refl
    by (Some t) = hand t t.removed

pub collect_live : (s after : Of) (x : Completion) → station.collect s ≡ (after, Some x) → after.live ≡ s.live
collect_live s after x made = ap (λ (r : Of × Option Completion). (r.0).live) (sym made) ∙ by s.ready
  where
    by : (cs : List Completion) → ((collect_first s cs).0).live ≡ s.live
    by [] = refl
    by (c ∷ cs) = refl

-- ---- stations that are announced

-- a station that is there after another is announced
pub announced_found : (w : WorldState) (e : ℕ) (o : Option Of) → station_at w e ≡ o → (d : ℕ) (s : Of) → HasStation (announced_by w e o).stations d s
    → ((d ≡ e) × (old : Of) × HasStation w.stations e old × (s ≡ (station.announce old).0)) ⊎ (((d == e) ≡ false) × HasStation w.stations d s)
announced_found w e None there d s has = by (d == e) refl
  where
    by : (b : Bool) → (d == e) ≡ b → ((d ≡ e) × (old : Of) × HasStation w.stations e old × (s ≡ (station.announce old).0)) ⊎ (((d == e) ≡ false) × HasStation w.stations d s)
    by true is = let both : None ≡ Some s = sym there ∙ subst (λ (n : ℕ). station_at w n ≡ Some s) (eqb-true d e is) has in absurd (cc both)
    by false is = inr (is, has)
announced_found w e (Some old) there d s has = elim (found_then w.stations e (station.announce old).0 d s has) [ inl (same, is) ↦ inl (same, old, there, is) | inr other ↦ inr other ]

announced_room : (w : WorldState) (e : ℕ) (o : Option Of) → station_at w e ≡ o → AllKeepRoom w.stations → AllKeepRoom (announced_by w e o).stations
announced_room w e o there room d s has = elim (announced_found w e o there d s has) [
  | inl (same, old, was, is) ↦ subst KeepsRoom (sym is) (announce_room old (room e old was))
  | inr (other, was) ↦ room d s was
]

-- The station of a device is live where it was announced, or was live before.
pub all_live : (list : List Announce) (w : WorldState) → AllKeepRoom w.stations → (d : ℕ) (s : Of) → HasStation (fold (λ x (a : Announce). announcing x a.id) w list).stations d s
    → (list_any (λ (a : Announce). a.id == d) list ≡ true) ⊎ ((t : Of) → HasStation w.stations d t → t.live ≡ true) → s.live ≡ true
all_live [] w room d s has (inl none) = absurd (cc none)
all_live [] w room d s has (inr live) = live s has
all_live (a ∷ list) w room d s has why_live =
    all_live list (announcing w a.id) (announced_room w a.id (station_at w a.id) refl room) d s has (by (a.id == d) refl why_live)
  where
    by : (b : Bool) → (a.id == d) ≡ b → ((b || list_any (λ (a : Announce). a.id == d) list) ≡ true) ⊎ ((t : Of) → HasStation w.stations d t → t.live ≡ true)
        → (list_any (λ (a : Announce). a.id == d) list ≡ true) ⊎ ((t : Of) → HasStation (announcing w a.id).stations d t → t.live ≡ true)
    by true is so = inr (λ t then. elim (announced_found w a.id (station_at w a.id) refl d t then) [
      | inl (same, old, was, new) ↦ subst (λ (x : Of). x.live ≡ true) (sym new) (announce_live old (room a.id old was))
      | inr (other, was) ↦ absurd (let equal : (d == a.id) ≡ true = eq-eqb d a.id (sym (eqb-true a.id d is)) in cc (equal, other))
    ])
    by false is (inl listed) = inl listed
    by false is (inr live) = inr (λ t then. elim (announced_found w a.id (station_at w a.id) refl d t then) [
      | inl (same, old, was, new) ↦ subst (λ (x : Of). x.live ≡ true) (sym new) (announce_live old (room a.id old was))
      | inr (other, was) ↦ live t was
    ])

-- ---- room

pub orderly_room : (w : WorldState) → Orderly w → ((d : ℕ) → length (journal d w.deeds) < worn_entries) → AllKeepRoom w.stations
orderly_room w ordered few d s there =
    let kept : IsKept device_parked s = reached_kept device_runs device_parked device_cuts s (((ordered.held).on d s there).sound).reached in
    let tied = (ordered.held).tied d s there in
    (subst (λ (n : ℕ). n < worn_entries) (sym (length-reverse (journal d w.deeds)) ∙ ap length tied) (few d), kept.few)
