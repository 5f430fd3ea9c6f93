-- Between a channel's begin and the end of its rounds no request is accepted; at any other time each channel that began has opened, so it is where one is.
use Rattle.std.proofs.Common.{◌≡◌, ◌∙◌, refl, sym, ap, subst, ℕ, ◌≤◌, arith, Bool, List, [], ◌∷◌, ◌++◌, map, fold, Some, None, Option, Result, Ok, Err, append_assoc}
use Rattle.std.specs.Option.{option_map_or}
use Rattle.rd_base.specs.declared.journal.Key.{Key}
use Rattle.rd_client.specs.Core.{Outgoing}
use Rattle.rd_irp.specs.declared.op.Op.{Op}
use Rattle.rd_pending.proofs.Effects as effects
use Rattle.rd_pending.specs.declared.calls.SubmitNo.{SubmitNo}
use Rattle.rd_pending.specs.declared.calls.Target.{Target}
use Rattle.rd_pending.specs.Table as table
use Rattle.rd_pending.specs.Table.{TableState, submit_refusal}
use Rattle.rd_orders.proofs.RunsHostLemmas.{host_channel, opens}
use Rattle.rd_orders.proofs.RunsInsides.{AreOwn, IsInside, Outside, added_inside, all_dropped_inside, applied_inside, hears_inside, put_inside, removed_inside, stationed}
use Rattle.rd_orders.proofs.RunsParts.{MayBe, Part, accepts, adds_one, applies_one, begins, client_gets, client_hears_one, client_keeps_part, client_sends_one, collects_one, done, draws_one, ends, hands_out, host_gets, host_hears_one, host_keeps_part, host_sends_one, idle_one, queues_one, reached_behind, refuses, removes_one, takes_one, tells_one, tries_one}
use Rattle.rd_orders.proofs.RunsTogether.{known}
use Rattle.rd_orders.specs.RunsPremises.{RunPremises}
use Rattle.rd_script.specs.declared.line.NumberedLine.{NumberedLine}
use Rattle.rd_station.specs.Station.{StationState}
use Rattle.rd_world.specs.Acts.{Opens}
use Rattle.rd_declared.specs.declared.device.SessionDevice.{SessionDevice}
use Rattle.rd_declared.specs.Devices.{Declared}
use Rattle.rd_world.specs.Events.{completion_message, deed_on, dropping}
use Rattle.rd_world.specs.Lines.{last_begun}
use Rattle.rd_declared.specs.Declaring.{bare_lines, declared_devices}
use Rattle.rd_deeds.specs.Talk.{Deed, EachAfter, adds, client_reads, client_writes, completes, host_ends, open_channel, removes, stores, submits}
use Rattle.rd_world.specs.World.{WorldState, with_deed, with_station}
use Rattle.rd_orders.specs.Orders.{DeclaresWritable}
use Rattle.rd_opening.proofs.ChannelLemmas.{behind_channels}
use Rattle.rd_opening.proofs.EventParts.{BeginsNone}
use Rattle.rd_opening.proofs.Rounds.{IsOfRound}
use Rattle.rd_opening.proofs.Submitted.{behind_submitted}
use Rattle.rd_opening.specs.Issued.{ComesOpened}

-- each channel that began has opened, and each request came after that
abbrev pub OpenedFor : List (ℕ × Declared) → ℕ → List Deed → Type 0
OpenedFor devices channels deeds = ((c : ℕ) → 1 ≤ c → c ≤ channels → Opens devices deeds c) × EachAfter (ComesOpened devices) deeds

abbrev pub AreOpened : List (ℕ × Declared) → WorldState → Type 0
AreOpened devices w = OpenedFor devices w.channels w.deeds

-- ---- more deeds

own_comes : (devices : List (ℕ × Declared)) (more deeds : List Deed) → AreOwn more → EachAfter (ComesOpened devices) deeds → EachAfter (ComesOpened devices) (more ++ deeds)
own_comes devices [] deeds own each = each
own_comes devices (stores device item ∷ more) deeds own each = (tt, own_comes devices more deeds own.1 each)
own_comes devices (removes device ∷ more) deeds own each = (tt, own_comes devices more deeds own.1 each)
own_comes devices (adds device ∷ more) deeds own each = (tt, own_comes devices more deeds own.1 each)
own_comes devices (deed ∷ more) deeds own each = absurd own.0

pub inside_comes : (devices : List (ℕ × Declared)) (w v : WorldState) → IsInside w v → EachAfter (ComesOpened devices) w.deeds → EachAfter (ComesOpened devices) v.deeds
inside_comes devices w v i each = subst (EachAfter (ComesOpened devices)) (sym i.deeds) (own_comes devices i.more w.deeds i.own each)

pub opened_more : (devices : List (ℕ × Declared)) (deeds more : List Deed) (c : ℕ) → Opens devices deeds c → Opens devices (more ++ deeds) c
opened_more devices deeds more c (since, before, is, has) = (more ++ since, before, ap (λ (ds : List Deed). more ++ ds) is ∙ sym (append_assoc more since before), has)

inside_opened : (devices : List (ℕ × Declared)) (w v : WorldState) → IsInside w v → AreOpened devices w → AreOpened devices v
inside_opened devices w v i (all, each) = (
  λ c first last. subst (λ (ds : List Deed). Opens devices ds c) (sym i.deeds)
      (opened_more devices w.deeds i.more c (all c first (subst (λ (n : ℕ). c ≤ n) (ap (λ (o : Outside). o.channels) i.same) last))),
  inside_comes devices w v i each,
)

one_deed : (devices : List (ℕ × Declared)) (channels : ℕ) (deeds : List Deed) (deed : Deed) → ComesOpened devices deeds deed → OpenedFor devices channels deeds → OpenedFor devices channels (deed ∷ deeds)
one_deed devices channels deeds deed own (all, each) = (λ c first last. opened_more devices deeds (deed ∷ []) c (all c first last), (own, each))

own_message : (devices : List (ℕ × Declared)) (channel : ℕ) (deeds : List Deed) (o : Outgoing) → ComesOpened devices deeds (deed_on channel o)
own_message devices channel deeds o = by o.answers
  where
    by : (a : Option Key) → ComesOpened devices deeds (option_map_or (λ key. completes key o.message) a (client_writes channel o.message))
    by None = tt
    by (Some key) = tt

-- a request that is accepted has nothing against it
accepted_free : (t new : TableState) (a number : ℕ) (named : Target) (o : Op) → table.submit t a named o ≡ (new, Ok number) → submit_refusal t named ≡ None
accepted_free t new a number named o made = by (submit_refusal t named) refl
  where
    by : (r : Option SubmitNo) → submit_refusal t named ≡ r → r ≡ None
    by None e = refl
    by (Some cause) e =
        let refused : table.submit t a named o ≡ (t, Err cause) = rw e refl in
        absurd (cc (ap (λ (r : TableState × Result ℕ SubmitNo). r.1) made, ap (λ (r : TableState × Result ℕ SubmitNo). r.1) refused))

module _ (lines : List NumberedLine) (starves : Key → Bool) (premises : RunPremises lines) (writable : DeclaresWritable lines) where
  abbrev declared : List (ℕ × Declared)
  declared = declared_devices (bare_lines lines)

  pub part_opened : (w : WorldState) (p : Part) → BeginsNone p → MayBe lines starves w p → AreOpened declared w → AreOpened declared (done starves w p)
  part_opened w (accepts a asked named t number) none (reached, may, next, target, made) o =
      let k = known lines starves premises w reached in
      let effect = effects.submits (w.side).table a named asked.op (accepted_free (w.side).table t a number named asked.op made) in
      let channel : open_channel w.deeds ≡ Some w.channels = opens w.side w.channels w.deeds k.stands.host (λ shut. let off : ((w.side).table).channel ≡ None = host_channel w.side w.channels w.deeds k.stands.host ∙ shut in cc (off, effect.is_open)) in
      let behind = reached_behind lines starves w reached in
      let some : 1 ≤ w.channels = (behind_submitted lines starves premises writable w behind).some channel in
      let last : last_begun w.deeds ≡ w.channels = (behind_channels lines starves premises w behind).last_is in
      one_deed declared w.channels w.deeds (submits a named asked.op) (subst (Opens declared w.deeds) (sym last) (o.0 w.channels some (omega arith))) o
  part_opened w (refuses a asked cause) none may o = o
  part_opened w (hands_out a number t taken None) none may o = one_deed declared w.channels w.deeds _ tt o
  part_opened w (hands_out a number t taken (Some asked)) none may o = one_deed declared w.channels w.deeds _ tt o
  part_opened w (host_sends_one message) none may o = one_deed declared w.channels w.deeds _ tt o
  part_opened w (host_gets n) none may o = o
  part_opened w host_keeps_part none may o = o
  part_opened w (host_hears_one message rest) none may o = one_deed declared w.channels w.deeds _ tt o
  part_opened w (tells_one n) none may o = one_deed declared w.channels w.deeds _ tt o
  part_opened w begins none may o = absurd none
  part_opened w ends none may o =
      let ids : List ℕ = map (λ (e : ℕ × StationState SessionDevice). e.0) w.stations in
      let cut : WorldState = fold dropping w ids in
      one_deed declared cut.channels cut.deeds (host_ends cut.channels) tt (inside_opened declared w cut (all_dropped_inside ids w) o)
  part_opened w (client_sends_one after out) none may o = one_deed declared w.channels w.deeds (deed_on w.channels out) (own_message declared w.channels w.deeds out) o
  part_opened w (client_gets n) none may o = o
  part_opened w client_keeps_part none may o = o
  part_opened w (client_hears_one message rest) none may o =
      let x : WorldState = record w { to_client = record w.to_client { part = []; taken = _; unhandled = rest } } in
      inside_opened declared (with_deed x (client_reads w.channels message)) (done starves w (client_hears_one message rest)) (hears_inside x message) (one_deed declared w.channels w.deeds (client_reads w.channels message) tt o)
  part_opened w (tries_one kept) none may o = inside_opened declared (record w { kept = None }) (done starves w (tries_one kept)) (put_inside (record w { kept = None }) kept.device kept.job) o
  part_opened w (collects_one device st after c) none may o =
      let y : WorldState = with_station w device after in
      one_deed declared y.channels y.deeds (completes c.key (completion_message device c)) tt (inside_opened declared w y (stationed w device after) o)
  part_opened w (takes_one device hand st after job) none may o = inside_opened declared w (with_station w device after) (stationed w device after) o
  part_opened w (applies_one hand device job a) none may o = inside_opened declared w (done starves w (applies_one hand device job a)) (applied_inside starves w hand device job a) o
  part_opened w (removes_one device a) none may o = inside_opened declared w (done starves w (removes_one device a)) (removed_inside w device a) o
  part_opened w (adds_one device names a) none may o = inside_opened declared w (done starves w (adds_one device names a)) (added_inside w device names a) o
  part_opened w (queues_one a) none may o = o
  part_opened w (idle_one number) none may o = o
  part_opened w draws_one none may o = o

  -- in a round no request is accepted
  pub round_comes : (w : WorldState) (p : Part) → IsOfRound p → MayBe lines starves w p → EachAfter (ComesOpened declared) w.deeds → EachAfter (ComesOpened declared) (done starves w p).deeds
  round_comes w (hands_out a number t taken None) round may each = (tt, each)
  round_comes w (hands_out a number t taken (Some asked)) round may each = (tt, each)
  round_comes w (host_sends_one message) round may each = (tt, each)
  round_comes w (host_gets n) round may each = each
  round_comes w host_keeps_part round may each = each
  round_comes w (host_hears_one message rest) round may each = (tt, each)
  round_comes w (client_sends_one c out) round may each = (own_message declared w.channels w.deeds out, each)
  round_comes w (client_gets n) round may each = each
  round_comes w client_keeps_part round may each = each
  round_comes w (client_hears_one message rest) round may each =
      let x : WorldState = record w { to_client = record w.to_client { part = []; taken = _; unhandled = rest } } in
      inside_comes declared (with_deed x (client_reads w.channels message)) (done starves w (client_hears_one message rest)) (hears_inside x message) (tt, each)
  round_comes w p round may each = absurd round
