-- A device is cut off by lines alone, and by each one once at most.
use Rattle.std.proofs.Common.{◌≡◌, ◌∙◌, refl, sym, ap, subst, ℕ, ◌+◌, ◌≤◌, Bool, true, false, arith, List, [], ◌∷◌, ◌++◌, map, fold, length, reverse, Some, None, Option, Result, Ok, Err}
use Rattle.std.specs.Prelude.{if◌then◌else◌, nat_le, not}
use Rattle.std.specs.Map.{lookup}
use Rattle.std.specs.Ordering.{nat_cmp}
use Rattle.std.specs.BTreeMap.{is_at}
use Rattle.std.specs.Option.{IfSome, option_map_or}
use Rattle.std.proofs.lemmas.List.{reverse-append}
use Rattle.rd_base.specs.declared.journal.Item.{Item}
use Rattle.rd_base.specs.declared.journal.Item.TheVariants.{Came, Cancelled, Cut, Ran, Sent}
use Rattle.rd_base.specs.declared.journal.Key.{Key}
use Rattle.rd_base.specs.declared.journal.Cause.TheVariants.{Dropped, Removed}
use Rattle.rd_client.specs.Core as client
use Rattle.rd_client.specs.Core.{client_hear, listed}
use Rattle.rd_client.specs.declared.heard.Heard.{Heard}
use Rattle.rd_client.specs.declared.heard.Heard.TheVariants.{Nothing, Ask, Print}
use Rattle.rd_devices.specs.declared.list.Announce.{Announce}
use Rattle.rd_drive.specs.declared.plan.Job.{Job}
use Rattle.rd_drive.specs.Stepped.{Stepped}
use Rattle.rd_hello.specs.declared.client.ClientState.{ClientState}
use Rattle.rd_hello.specs.declared.end_fault.EndFault.{EndFault}
use Rattle.rd_journals.specs.Orderly.{Orderly}
use Rattle.rd_journals.specs.Reads.{cuts}
use Rattle.rd_journals.specs.Stations.{AreFit}
use Rattle.rd_journals.proofs.RunLemmas.{reached_orderly}
use Rattle.rd_journals.specs.RunsMoves.{Reached}
use Rattle.rd_journals.proofs.RunsBeginningLemmas.{Unset, begins_as}
use Rattle.rd_journals.proofs.RunsParts.{MayBe, Part, accepts, adds_one, applies_one, begins, by_counted_parts, client_gets, client_hears_one, client_keeps_part, client_sends_one, collects_one, cut_by, done, draws_one, ends, hands_out, host_gets, host_hears_one, host_keeps_part, host_sends_one, idle_one, part_weight, parts_weight, queues_one, reached_behind, refreshed_by, refuses, removes_one, takes_one, tells_one, told_added, told_removed, tries_one}
use Rattle.rd_journals.proofs.RunsRoomLemmas.{OfAll, all_inserted, found_in}
use Rattle.rd_pending.specs.declared.calls.Taken.{Taken}
use Rattle.rd_pending.specs.Table.{TableState}
use Rattle.rd_script.specs.declared.line.NumberedLine.{NumberedLine}
use Rattle.rd_station.specs.declared.answers.Completion.{Completion}
use Rattle.rd_station.specs.declared.answers.Given.{Given}
use Rattle.rd_station.specs.declared.answers.Given.TheVariants as given
use Rattle.rd_station.specs.declared.held.InHand.{InHand}
use Rattle.rd_station.specs.declared.refusals.PutWhy.{PutWhy}
use Rattle.rd_station.specs.declared.refusals.PutWhy.TheVariants as why
use Rattle.rd_station.specs.Station as station
use Rattle.rd_station.specs.Station.{StationState}
use Rattle.rd_station.specs.declared.refusals.AnnounceNo.{AnnounceNo}
use Rattle.rd_station.specs.declared.refusals.AnnounceNo.TheVariants as no
use Rattle.rd_declared.specs.declared.device.SessionDevice.{SessionDevice}
use Rattle.rd_declared.specs.Devices.{Declared, PrinterNames, device_cut}
use Rattle.rd_world.specs.Events.{came_of, dropping, refreshing}
use Rattle.rd_world.specs.Hearing.{announcing, heard_by_client, put_at, put_by, putting, refused_put, with_client}
use Rattle.rd_declared.specs.Declaring.{bare_lines, declared_devices}
use Rattle.rd_world.specs.Run.{station_of, world_of}
use Rattle.rd_deeds.specs.Talk.{client_reads, journal}
use Rattle.rd_world.specs.World.{Asked, WorldState, station_at, with_deed, with_station}

abbrev pub Of : Type 0
Of = StationState SessionDevice

-- ---- entries

cuts_append : (xs ys : List Item) → cuts (xs ++ ys) ≡ cuts xs + cuts ys
cuts_append [] ys = omega arith
cuts_append (Cut cause ∷ xs) ys = omega (arith, cuts_append xs ys)
cuts_append (Came key ∷ xs) ys = cuts_append xs ys
cuts_append (Ran key moment starved parked ∷ xs) ys = cuts_append xs ys
cuts_append (Cancelled key ∷ xs) ys = cuts_append xs ys
cuts_append (Sent key ∷ xs) ys = cuts_append xs ys

cuts_reverse : (xs : List Item) → cuts (reverse xs) ≡ cuts xs
cuts_reverse [] = refl
cuts_reverse (x ∷ xs) =
    let turned : cuts (reverse (x ∷ xs)) ≡ cuts (reverse xs ++ x ∷ []) = ap cuts (reverse-append (x ∷ []) xs) in
    let own : cuts (x ∷ xs) ≡ cuts (x ∷ []) + cuts xs = cuts_append (x ∷ []) xs in
    omega (arith, turned, cuts_append (reverse xs) (x ∷ []), cuts_reverse xs, own)

none_cancelled : (jobs : List Job) → cuts (map (λ (job : Job). Cancelled job.key) jobs) ≡ 0
none_cancelled [] = refl
none_cancelled (job ∷ jobs) = none_cancelled jobs

-- ---- a station

abbrev CutsFew : ℕ → Of → Type 0
CutsFew n s = cuts s.journal ≤ n

either : {R : Type 0} (P : Of → Type 0) (b : Bool) (x y : Of × R) → P x.0 → P y.0 → P (if b then x else y).0
either P true x y first second = first
either P false x y first second = second

-- one entry more, which is no cut
one_entry : (n : ℕ) (items : List Item) (x : Item) → cuts (x ∷ []) ≡ 0 → cuts items ≤ n → cuts (items ++ x ∷ []) ≤ n
one_entry n items x none few = omega (arith, cuts_append items (x ∷ []), none, few)

announced : (n : ℕ) (s : Of) → CutsFew n s → CutsFew n (station.announce s).0
announced n s few = by s.live (nat_le station.max_entries (station.entry_count s))
  where
    by : (a b : Bool) → CutsFew n (if◌then◌else◌ {A = Of × Result (Unit {0}) AnnounceNo} a (s, Err no.Live) (if b then (s, Err (no.Worn (station.entry_count s))) else (record s { live = true }, Ok tt))).0
    by true b = few
    by false true = few
    by false false = few

put_few : (n : ℕ) (s : Of) (job : Job) → CutsFew n s → CutsFew n (station.put s job).0
put_few n s job few = by (station.put_refusal s job)
  where
    by : (o : Option PutWhy) → CutsFew n (station.put_unless s job o).0
    by None = one_entry n s.journal (Came job.key) refl few
    by (Some cause) = few

take_few : (n : ℕ) (s : Of) → CutsFew n s → CutsFew n (station.take s).0
take_few n s few = either (CutsFew n) s.ended (s, given.Over) (station.take_first s s.waiting) few (by s.waiting)
  where
    by : (jobs : List Job) → CutsFew n (station.take_first s jobs).0
    by [] = few
    by (job ∷ jobs) = few

collect_few : (n : ℕ) (s : Of) → CutsFew n s → CutsFew n (station.collect s).0
collect_few n s few = by s.ready
  where
    by : (cs : List Completion) → CutsFew n (station.collect_first s cs).0
    by [] = few
    by (c ∷ cs) = one_entry n s.journal (Sent c.key) refl few

apply_few : (n : ℕ) (s : Of) (job : Job) (moment : ℕ) (came : Stepped SessionDevice) → CutsFew n s → CutsFew n (station.apply s job moment came).0
apply_few n s job moment came few = by _
  where
    by : (o : Option InHand) → CutsFew n (station.apply_from s job moment came o).0
    by None = few
    by (Some t) = either (CutsFew n) t.removed _ _ (one_entry n s.journal (Cancelled t.key) refl few) (one_entry n s.journal (Ran t.key moment _ _) refl few)

removed_few : (n : ℕ) (s : Of) (cut : SessionDevice) → CutsFew n s → CutsFew (1 + n) (station.remove s cut).0
removed_few n s cut few =
    let cancelled : List Item = map (λ (job : Job). Cancelled job.key) s.waiting in
    either (CutsFew (1 + n)) (not s.live) _ _ (omega (arith, few)) (omega (arith, cuts_append s.journal (Cut Removed ∷ cancelled), none_cancelled s.waiting, few))

-- a station that is live may be cut off once more
abbrev may_cut : Bool → ℕ
may_cut live = if live then 1 else 0

abbrev MayCutFew : ℕ → Of → Type 0
MayCutFew n s = cuts s.journal + may_cut s.live ≤ n

may_cut_few : (n : ℕ) (s : Of) → CutsFew n s → MayCutFew (1 + n) s
may_cut_few n s few = by s.live
  where
    by : (b : Bool) → cuts s.journal + may_cut b ≤ 1 + n
    by true = omega (arith, few)
    by false = omega (arith, few)

cut_few : (n : ℕ) (s : Of) → MayCutFew n s → CutsFew n s
cut_few n s few = omega (arith, few)

dropped_few : (n : ℕ) (s : Of) (cut : SessionDevice) → MayCutFew n s → MayCutFew n (station.drop_channel s cut)
dropped_few n s cut few = by s.live refl
  where
    by : (b : Bool) → s.live ≡ b → MayCutFew n (station.drop_channel s cut)
    by true e =
        let own : cuts s.journal + 1 ≤ n = subst (λ (b : Bool). cuts s.journal + may_cut b ≤ n) e few in
        rw e (omega (arith, own, cuts_append s.journal (Cut Dropped ∷ [])))
    by false e =
        let own : cuts s.journal + 0 ≤ n = subst (λ (b : Bool). cuts s.journal + may_cut b ≤ n) e few in
        rw e own

-- ---- all stations

abbrev pub AllOf : (Of → Type 0) → WorldState → Type 0
AllOf P w = OfAll {K = ℕ} P w.stations

weaken : (P Q : Of → Type 0) (es : List (ℕ × Of)) → ((s : Of) → P s → Q s) → OfAll P es → OfAll Q es
weaken P Q [] f all = tt
weaken P Q (e ∷ es) f all = (f e.1 all.0, weaken P Q es f all.1)

pub put_station : (P : Of → Type 0) (w : WorldState) (device : ℕ) (s : Of) → P s → AllOf P w → AllOf P (with_station w device s)
put_station P w device s own all = all_inserted P nat_cmp w.stations device s own all

pub found : (P : Of → Type 0) (w : WorldState) (device : ℕ) → AllOf P w → IfSome (station_at w device) P
found P w device all = found_in P (is_at (nat_cmp device)) w.stations all

-- a call of the device's station, if it has one
called : (P : Of → Type 0) (w : WorldState) (device : ℕ) (f : Of → Of) → ((s : Of) → P s → P (f s)) → AllOf P w → (o : Option Of) → IfSome o P
    → AllOf P (option_map_or (λ (s : Of). with_station w device (f s)) o w)
called P w device f keeps all None own = all
called P w device f keeps all (Some s) own = put_station P w device (f s) (keeps s own) all

all_called : (P : Of → Type 0) (f : Of → Of) → ((s : Of) → P s → P (f s)) → (devices : List ℕ) (w : WorldState) → AllOf P w
    → AllOf P (fold (λ (x : WorldState) (device : ℕ). option_map_or (λ (s : Of). with_station x device (f s)) (station_at x device) x) w devices)
all_called P f keeps [] w all = all
all_called P f keeps (device ∷ devices) w all = all_called P f keeps devices _ (called P w device f keeps all (station_at w device) (found P w device all))

pub refreshed_same : (w : WorldState) (device : ℕ) (o : Option PrinterNames) → (refreshed_by w device o).stations ≡ w.stations
refreshed_same w device None = refl
refreshed_same w device (Some names) = refl

all_refreshed : (devices : List ℕ) (w : WorldState) → (fold refreshing w devices).stations ≡ w.stations
all_refreshed [] w = refl
all_refreshed (device ∷ devices) w = all_refreshed devices (refreshing w device) ∙ refreshed_same w device (lookup (is_at (nat_cmp device)) w.printers)

module _ (n : ℕ) where
  abbrev Few : WorldState → Type 0
  Few w = AllOf (CutsFew n) w

  all_announced : (devices : List Announce) (w : WorldState) → Few w → Few (fold (λ (x : WorldState) (a : Announce). announcing x a.id) w devices)
  all_announced [] w few = few
  all_announced (a ∷ devices) w few =
      all_announced devices (announcing w a.id) (called (CutsFew n) w a.id (λ s. (station.announce s).0) (announced n) few (station_at w a.id) (found (CutsFew n) w a.id few))

  refused_keeps : (w : WorldState) (device : ℕ) (job : Job) (cause : PutWhy) → Few w → Few (refused_put w device job cause)
  refused_keeps w device job why.Gone few = few
  refused_keeps w device job (why.Full held) few = few
  refused_keeps w device job (why.Worn count) few = few
  refused_keeps w device job (why.Duplicate key) few = few
  refused_keeps w device job why.Memory few = few

  put_keeps : (w : WorldState) (device : ℕ) (job : Job) → Few w → Few (putting w device job)
  put_keeps w device job few = at (station_at w device) (found (CutsFew n) w device few)
    where
      by : (r : Of × Option PutWhy) → CutsFew n r.0 → Few (put_by w device job r)
      by (s, None) own = put_station (CutsFew n) w device s own few
      by (s, Some cause) own = refused_keeps w device job cause few

      at : (o : Option Of) → IfSome o (CutsFew n) → Few (put_at w device job o)
      at None own = few
      at (Some s) own = by (station.put s job) (put_few n s job own)

  heard_keeps : (shake : ClientState) (w : WorldState) (r : Result Heard EndFault) → Few w → Few (heard_by_client shake w r)
  heard_keeps shake w (Err fault) few = few
  heard_keeps shake w (Ok Nothing) few = by (client.becomes_ready shake ((w.client).core).shake)
    where
      by : (b : Bool) → Few (if b then fold (λ (x : WorldState) (a : Announce). announcing x a.id) w (listed w.client) else w)
      by true = all_announced (listed w.client) w few
      by false = few
  heard_keeps shake w (Ok (Ask device job)) few = put_keeps w device job few
  heard_keeps shake w (Ok (Print notice)) few = few

-- ---- parts

more : (k n : ℕ) (w : WorldState) → Few n w → Few (k + n) w
more k n w few = weaken (CutsFew n) (CutsFew (k + n)) w.stations (λ s own. omega (arith, own)) few

module _ (lines : List NumberedLine) (starves : Key → Bool) where
  ended_keeps : (n : ℕ) (w : WorldState) (a number : ℕ) (t : TableState) (taken : Taken) (next : Option Asked) → Few n w → Few n (done starves w (hands_out a number t taken next))
  ended_keeps n w a number t taken None few = few
  ended_keeps n w a number t taken (Some asked) few = few

  applied_keeps : (n : ℕ) (w : WorldState) (hand device : ℕ) (job : Job) (o : Option Of) → IfSome o (CutsFew n) → Few n w → Few n (done starves w (applies_one hand device job o))
  applied_keeps n w hand device job None own few = few
  applied_keeps n w hand device job (Some s) own few =
      put_station (CutsFew n) w device (station.apply s job w.moment (came_of starves w job s.device)).0 (apply_few n s job w.moment (came_of starves w job s.device) own) few

  step : (n : ℕ) (w : WorldState) (p : Part) → MayBe lines starves w p → Few n w → Few (part_weight p + n) (done starves w p)
  step n w (accepts a asked named t number) may few = more 0 n w few
  step n w (refuses a asked cause) may few = more 0 n w few
  step n w (hands_out a number t taken next) may few = more 0 n (done starves w (hands_out a number t taken next)) (ended_keeps n w a number t taken next few)
  step n w (host_sends_one message) may few = more 0 n w few
  step n w (host_gets k) may few = more 0 n w few
  step n w host_keeps_part may few = more 0 n w few
  step n w (host_hears_one message rest) may few = more 0 n w few
  step n w (tells_one notice) may few = more 1 n w few
  step n w begins may few =
      let devices : List ℕ = map (λ (e : ℕ × PrinterNames). e.0) w.printers in
      subst (λ (es : List (ℕ × Of)). OfAll (CutsFew (1 + n)) es) (sym (all_refreshed devices w)) (more 1 n w few)
  step n w ends may few =
      let devices : List ℕ = map (λ (e : ℕ × Of). e.0) w.stations in
      let all : AllOf (MayCutFew (1 + n)) (fold dropping w devices) =
      all_called (MayCutFew (1 + n)) (λ s. station.drop_channel s (device_cut s.device).state) (λ s own. dropped_few (1 + n) s (device_cut s.device).state own)
      devices w (weaken (CutsFew n) (MayCutFew (1 + n)) w.stations (may_cut_few n) few) in
      weaken (MayCutFew (1 + n)) (CutsFew (1 + n)) (fold dropping w devices).stations (cut_few (1 + n)) all
  step n w (client_sends_one after o) may few = more 0 n w few
  step n w (client_gets k) may few = more 0 n w few
  step n w client_keeps_part may few = more 0 n w few
  step n w (client_hears_one message rest) may few =
      let x : WorldState = record w { to_client = record w.to_client { part = []; taken = _; unhandled = rest } } in
      let heard = client_hear x.client message in
      more 0 n (done starves w (client_hears_one message rest))
      (heard_keeps n ((x.client).core).shake (with_deed (with_client x heard.0) (client_reads x.channels message)) heard.1 few)
  step n w (tries_one kept) may few = more 0 n (done starves w (tries_one kept)) (put_keeps n (record w { kept = None }) kept.device kept.job few)
  step n w (collects_one device s after completion) (reached, idle, there, made) few =
      let own : CutsFew n s = subst (λ (o : Option Of). IfSome o (CutsFew n)) there (found (CutsFew n) w device few) in
      let next : CutsFew n after = subst (λ (r : Of × Option Completion). CutsFew n r.0) made (collect_few n s own) in
      more 0 n (with_station w device after) (put_station (CutsFew n) w device after next few)
  step n w (takes_one device hand s after job) (free, there, made) few =
      let own : CutsFew n s = subst (λ (o : Option Of). IfSome o (CutsFew n)) there (found (CutsFew n) w device few) in
      let next : CutsFew n after = subst (λ (r : Of × Given). CutsFew n r.0) made (take_few n s own) in
      more 0 n (with_station w device after) (put_station (CutsFew n) w device after next few)
  step n w (applies_one hand device job o) (holds, there) few =
      more 0 n (done starves w (applies_one hand device job o))
      (applied_keeps n w hand device job o (subst (λ (x : Option Of). IfSome x (CutsFew n)) there (found (CutsFew n) w device few)) few)
  step n w (removes_one device o) (can, there) few = by o (subst (λ (x : Option Of). IfSome x (CutsFew n)) there (found (CutsFew n) w device few))
    where
      by : (x : Option Of) → IfSome x (CutsFew n) → Few (1 + n) (cut_by (told_removed w device) device x)
      by None own = more 1 n w few
      by (Some s) own =
          put_station (CutsFew (1 + n)) (told_removed w device) device (station.remove s (device_cut s.device).state).0 (removed_few n s (device_cut s.device).state own) (more 1 n w few)
  step n w (adds_one device names o) (can, printers, there) few =
      let fresh : WorldState = refreshed_by w device names in
      let all : Few n fresh = subst (λ (es : List (ℕ × Of)). OfAll (CutsFew n) es) (sym (refreshed_same w device names)) few in
      more 1 n (done starves w (adds_one device names o))
      (called (CutsFew n) (told_added fresh device) device (λ s. (station.announce s).0) (announced n) all o
      (subst (λ (x : Option Of). IfSome x (CutsFew n)) there (found (CutsFew n) w device few)))
  step n w (queues_one a) may few = more 1 n w few
  step n w (idle_one number) may few = more 1 n w few
  step n w draws_one may few = more 0 n w few

  none_cut : (devices : List (ℕ × Declared)) → OfAll (CutsFew 0) (map station_of devices)
  none_cut [] = tt
  none_cut (e ∷ devices) = (omega arith, none_cut devices)

  first : Few 0 (world_of lines)
  first = begins_as lines (λ (u : Unset). OfAll (CutsFew 0) u.stations) (none_cut (declared_devices (bare_lines lines)))

  -- so its journal has no more cuts than there are lines, and the first channel's begin and the last one's end
  pub cuts_few : AreFit (declared_devices (bare_lines lines)) → (w : WorldState) → Reached lines starves w → (device : ℕ) → cuts (journal device w.deeds) ≤ length lines + 2
  cuts_few fit w r device =
      let b = reached_behind lines starves w r in
      let few = by_counted_parts lines starves Few first (λ n w p before after may few. step n w p may few) w b in
      by (reached_orderly lines starves w fit r) b.few (station_at w device) refl (found (CutsFew (parts_weight b.parts)) w device few)
    where
      by : {m : ℕ} → Orderly w → m ≤ length lines + 2 → (o : Option Of) → station_at w device ≡ o → IfSome o (CutsFew m) → cuts (journal device w.deeds) ≤ length lines + 2
      by is within None there few = subst (λ (items : List Item). cuts items ≤ length lines + 2) (sym ((is.held).none device there)) (omega arith)
      by is within (Some s) there few =
          let tie : cuts (reverse (journal device w.deeds)) ≡ cuts s.journal = ap cuts ((is.held).tied device s there) in
          omega (arith, tie, cuts_reverse (journal device w.deeds), few, within)
