-- Settling ends in each world that lines come to, and so do the rounds of a channel's begin.
use Rattle.std.proofs.Common.{◌≡◌, ◌∙◌, refl, sym, ap, subst, inl, inr, ℕ, zero, suc, ◌+◌, ◌<◌, ◌≤◌, ◌==◌, arith, Bool, true, false, not, List, [], ◌∷◌, ◌++◌, length, map, fold, Some, None, Option, length-append, ne_eqb, eq-eqb}
use Rattle.std.specs.Prelude.{filter_map, if◌then◌else◌, is_none, is_some, nat_lt, slice_get}
use Rattle.std.specs.List.{AllByRecursion, cons_option}
use Rattle.std.specs.Map.{keys_of, lookup}
use Rattle.std.specs.Ordering.{nat_cmp}
use Rattle.std.specs.BTreeMap.{is_at}
use Rattle.std.specs.Option.{IfSome, option_and_then, option_map_or, unwrap_or}
use Rattle.std.proofs.lemmas.Bool.{cases_eq}
use Rattle.std.proofs.lemmas.Bool.Decides.{nat_tests}
use Rattle.rd_base.specs.declared.journal.Key.{Key}
use Rattle.rd_drive.specs.declared.plan.Job.{Job}
use Rattle.rd_told.proofs.JournalsDeclaredLemmas.{bounded_fit}
use Rattle.rd_told.proofs.JournalsRunLemmas.{reached_orderly}
use Rattle.rd_opening.proofs.OrdersPhaseLemmas.{IsGreeting}
use Rattle.rd_opening.specs.OrdersOrders.{DeclaresWritable}
use Rattle.rd_opening.proofs.Greeting.{IsOpening, opening_step}
use Rattle.rd_opening.proofs.Rounds.{IsOfRound, IsRoundEvent, round_event_keeps}
use Rattle.rd_pending.proofs.MapLemmas.{beside, inserted}
use Rattle.rd_told.proofs.RunsBeginningLemmas.{Unset, begins_as}
use Rattle.rd_told.proofs.RunsParts.{IsBehind, IsBehindWithin, MayBe, Part, client_gets, client_hears_one, client_keeps_part, client_sends_one, done, hands_out, host_gets, host_hears_one, host_keeps_part, host_sends_one, one_part, part_weight, reached_behind}
use Rattle.rd_told.proofs.RunsReaching.{both}
use Rattle.rd_told.proofs.RunsTogether.{known}
use Rattle.rd_told.proofs.RunsTrafficLemmas.{carried_last}
use Rattle.rd_told.specs.RunsMoves.{IsOfLines, MayPass, Reached, ReachedWithin, RunMove, after_move, draws, event_weight, happens, idle, queues, weight}
use Rattle.rd_told.specs.RunsPremises.{RunPremises}
use Rattle.rd_script.specs.declared.line.NumberedLine.{NumberedLine}
use Rattle.rd_station.specs.declared.answers.Completion.{Completion}
use Rattle.rd_station.specs.declared.answers.Given.{Given}
use Rattle.rd_station.specs.declared.answers.Given.TheVariants as given
use Rattle.rd_station.specs.Station as station
use Rattle.rd_station.specs.Station.{StationState}
use Rattle.rd_told.proofs.PrintedLemmas.{keyed}
use Rattle.rd_declared.specs.declared.device.SessionDevice.{SessionDevice}
use Rattle.rd_declared.specs.Devices.{Declared}
use Rattle.rd_world.specs.Events as event
use Rattle.rd_world.specs.Events.{Event, act, add, applies_held, apply_job, client_read, client_send, collect, collects_from, connect, drop_channel, hand_at, host_read, host_send, is_empty, is_enabled, is_hand_free, is_read, issue, may_issue, remove, take_job, takes_job_from, tell}
use Rattle.rd_deeds.specs.Joining.{IsCarried}
use Rattle.rd_declared.specs.Declaring.{bare_lines, declared_devices}
use Rattle.rd_world.specs.Run.{asked_by, asking, drawing, idles, queueing, world_of}
use Rattle.rd_deeds.specs.Talk.{EndsWith, Has, client_read as read_by_client, client_wrote, host_read as read_by_host, request_at}
use Rattle.rd_world.specs.World.{ApplicationState, Asked, Kept, WorldState, application_at, new_application, station_at}
use Rattle.rd_ended.proofs.Happening.{apply_less, client_read_less, client_send_less, collect_less, host_read_less, host_send_less, issue_less, take_less}
use Rattle.rd_ended.proofs.Lessening.{IsOfRounds, Lessens, RoundsEnd, Settles, rounds_end, settling_ends}
use Rattle.rd_ended.proofs.LinedLemmas.{Lined, event_lined}
use Rattle.rd_ended.proofs.OverLemmas.{stations_go}
use Rattle.rd_ended.proofs.Remaining.{key_has, others, others_more, put_at_each, remaining, undrawn}

-- ---- what lines ask for

abbrev pub pairs_of : List NumberedLine → List (ℕ × Asked)
pairs_of ls = filter_map asked_by (map (λ (l : NumberedLine). l.line) ls)

-- how many of them are an application's
abbrev pub one_of : ℕ → ℕ × Asked → ℕ
one_of a p = if p.0 == a then 1 else 0

abbrev pub how_many : ℕ → List (ℕ × Asked) → ℕ
how_many a [] = 0
how_many a (p ∷ ps) = one_of a p + how_many a ps

abbrev pub ids_of : List (ℕ × Asked) → List ℕ
ids_of ps = map (λ (p : ℕ × Asked). p.0) ps

abbrev application_in : List (ℕ × ApplicationState) → ℕ → ApplicationState
application_in es a = unwrap_or (lookup (is_at (nat_cmp a)) es) new_application

some_has : (a : ℕ) (ps : List (ℕ × Asked)) → 0 < how_many a ps → Has a (ids_of ps)
some_has a [] some = absurd (omega (arith, some))
some_has a (p ∷ ps) some = elim (cases_eq a p.0) [
  | inl same ↦ inl same
  | inr other ↦ inr (
      let none : one_of a p ≡ 0 = ap (λ (b : Bool). if b then 1 else 0) (ne_eqb p.0 a (λ (same : p.0 ≡ a). other (sym same))) in
      some_has a ps (omega (arith, some, none)))
]

asked_more : (a : ℕ) (ps : List (ℕ × Asked)) (es : List (ℕ × ApplicationState)) → length (application_in (fold asking es ps) a).asks ≡ length (application_in es a).asks + how_many a ps
asked_more a [] es = omega arith
asked_more a (p ∷ ps) es =
    let later : length (application_in (fold asking (asking es p) ps) a).asks ≡ length (application_in (asking es p) a).asks + how_many a ps = asked_more a ps (asking es p) in
    let one : length (application_in (asking es p) a).asks ≡ length (application_in es a).asks + one_of a p = elim (cases_eq a p.0) [
      | inl same ↦ at same
      | inr other ↦
          let none : one_of a p ≡ 0 = ap (λ (b : Bool). if b then 1 else 0) (ne_eqb p.0 a (λ (same : p.0 ≡ a). other (sym same))) in
          let here : length (application_in (asking es p) a).asks ≡ length (application_in es a).asks = ap (λ (o : Option ApplicationState). length (unwrap_or o new_application).asks) (beside p.0 (record (application_in es p.0) { asks = (application_in es p.0).asks ++ p.1 ∷ [] }) a other es) in
          omega (arith, none, here)
    ] in
    omega (arith, later, one)
  where
    at : a ≡ p.0 → length (application_in (asking es p) a).asks ≡ length (application_in es a).asks + one_of a p
    at same =
        let now : length (application_in (asking es p) p.0).asks ≡ length ((application_in es p.0).asks ++ p.1 ∷ []) = ap (λ (o : Option ApplicationState). length (unwrap_or o new_application).asks) (inserted p.0 (record (application_in es p.0) { asks = (application_in es p.0).asks ++ p.1 ∷ [] }) es) in
        let here : length (application_in (asking es p) a).asks ≡ length (application_in (asking es p) p.0).asks = ap (λ (b : ℕ). length (application_in (asking es p) b).asks) same in
        let there : length (application_in es a).asks ≡ length (application_in es p.0).asks = ap (λ (b : ℕ). length (application_in es b).asks) same in
        let longer : length ((application_in es p.0).asks ++ p.1 ∷ []) ≡ length (application_in es p.0).asks + 1 = length-append (application_in es p.0).asks (p.1 ∷ []) in
        let one : one_of a p ≡ 1 = ap (λ (b : Bool). if b then 1 else 0) (eq-eqb p.0 a (sym same)) in
        omega (arith, now, here, there, longer, one)

none_queued : (a : ℕ) (ps : List (ℕ × Asked)) (es : List (ℕ × ApplicationState)) → (application_in (fold asking es ps) a).queued ≡ (application_in es a).queued
none_queued a [] es = refl
none_queued a (p ∷ ps) es =
    none_queued a ps (asking es p)
    ∙ put_at_each (λ (b : ℕ) (o : Option ApplicationState). (unwrap_or o new_application).queued ≡ (application_in es b).queued) p.0 (record (application_in es p.0) { asks = (application_in es p.0).asks ++ p.1 ∷ [] }) es refl (λ b. refl) a

-- ---- what a settling takes

got_within : {X : Type 0} (xs : List X) (i : ℕ) → i < length xs → (x : X) × (slice_get xs i ≡ Some x)
got_within [] i low = absurd (omega (arith, low))
got_within (x ∷ xs) zero low = (x, refl)
got_within (x ∷ xs) (suc i) low = got_within xs i (omega (arith, low))

some_left : (x : ApplicationState) → may_issue x ≡ true → length x.outcomes < x.queued
some_left x may = let l = both (nat_lt (length x.outcomes) x.queued) (is_none x.awaits) may in grind (arith, nat_tests, l.0)

fewer_read : (wrote read : List (List ℕ)) → EndsWith wrote read → others read ≤ others wrote
fewer_read wrote read (before, is) =
    let parts : others wrote ≡ others before + others read = ap others is ∙ others_more before read in
    omega (arith, parts)

no_greeting : (ms : List (List ℕ)) (i : ℕ) → AllByRecursion IsGreeting ms → request_at ms i ≡ None
no_greeting [] i all = refl
no_greeting (m ∷ ms) i all = rw all.0.0 (no_greeting ms i all.1)

last_all : {X : Type 0} (P : X → Type 0) (xs ys : List X) → AllByRecursion P (xs ++ ys) → AllByRecursion P ys
last_all P [] ys all = all
last_all P (x ∷ xs) ys all = last_all P xs ys all.1

module _ (lines : List NumberedLine) (starves : Key → Bool) (premises : RunPremises lines) where
  abbrev devices : List (ℕ × Declared)
  devices = declared_devices (bare_lines lines)

  abbrev Less : WorldState → WorldState → Type 0
  Less = Lessens (remaining (ids_of (pairs_of lines)) (keys_of devices))

  -- A world behind so many lines, in which each application may have all its other lines queued.
  pub record StandsBefore (n : ℕ) (rest : List NumberedLine) (w : WorldState) : Type 0 where
    pub within : ReachedWithin n lines starves w
    pub few : n ≤ length lines + 2
    pub left : (a : ℕ) → (application_at w a).queued + how_many a (pairs_of rest) ≤ length (application_at w a).asks
    pub among : (a : ℕ) → 0 < length (application_at w a).asks → Has a (ids_of (pairs_of lines))

  pub reached : (n : ℕ) (rest : List NumberedLine) (w : WorldState) → StandsBefore n rest w → Reached lines starves w
  reached n rest w on = record { moves = on.within.moves; pass = on.within.pass; few = omega (arith, on.within.few, on.few); leads = on.within.leads }

  -- a move more
  one_move : (n k : ℕ) (w : WorldState) (m : RunMove) → weight m + n ≤ k → MayPass lines w m → ReachedWithin n lines starves w → ReachedWithin k lines starves (after_move starves w m)
  one_move n k w m few may r = record {
    moves = m ∷ r.moves;
    pass = (subst (λ (x : WorldState). MayPass lines x m) r.leads may, r.pass);
    few = omega (arith, few, r.few);
    leads = ap (λ (x : WorldState). after_move starves x m) r.leads;
  }

  pub lined_on : (n k : ℕ) (rest : List NumberedLine) (w v : WorldState) → Lined w v → ReachedWithin k lines starves v → k ≤ length lines + 2 → StandsBefore n rest w → StandsBefore k rest v
  lined_on n k rest w v lined within few on = record {
    within = within;
    few = few;
    left = λ a.
        let same : length (application_at v a).asks ≡ length (application_at w a).asks = ap length (lined a).1 in
        let queued : (application_at v a).queued ≡ (application_at w a).queued = (lined a).0 in
        omega (arith, same, queued, on.left a);
    among = λ a some.
        let same : length (application_at v a).asks ≡ length (application_at w a).asks = ap length (lined a).1 in
        on.among a (omega (arith, same, some));
  }

  pub event_on : (n k : ℕ) (rest : List NumberedLine) (w : WorldState) (e : Event) → event_weight e + n ≤ k → k ≤ length lines + 2 → IsOfLines lines e → is_enabled w e ≡ true → StandsBefore n rest w → StandsBefore k rest (act starves w e)
  event_on n k rest w e more few of can on = lined_on n k rest w (act starves w e) (event_lined starves w e) (one_move n k w (happens e) more (of, can) on.within) few on

  pub more_on : (n k : ℕ) (rest : List NumberedLine) (w : WorldState) → n ≤ k → k ≤ length lines + 2 → StandsBefore n rest w → StandsBefore k rest w
  more_on n k rest w more few on = record {
    within = record { moves = on.within.moves; pass = on.within.pass; few = omega (arith, on.within.few, more); leads = on.within.leads };
    few = few;
    left = on.left;
    among = on.among;
  }

  pub drawing_on : (n : ℕ) (rest : List NumberedLine) (w : WorldState) → StandsBefore n rest w → StandsBefore n rest (drawing w)
  drawing_on n rest w on = record { within = one_move n n w draws (omega arith) tt on.within; few = on.few; left = on.left; among = on.among }

  pub idles_on : (n : ℕ) (rest : List NumberedLine) (w : WorldState) (number : ℕ) → n + 1 ≤ length lines + 2 → StandsBefore n rest w → StandsBefore (n + 1) rest (idles w number)
  idles_on n rest w number few on = record { within = one_move n (n + 1) w (idle number) (omega arith) tt on.within; few = few; left = on.left; among = on.among }

  free_of : (e : Event) → event_weight e ≡ 0 → IsOfLines lines e
  free_of (issue a) free = tt
  free_of host_send free = tt
  free_of (client_read n) free = tt
  free_of client_send free = tt
  free_of (collect device) free = tt
  free_of (host_read n) free = tt
  free_of (take_job device hand) free = tt
  free_of (apply_job hand) free = tt
  free_of e free = absurd (omega (arith, free))

  -- ---- each leaves less

  carried_at : (w : WorldState) → Reached lines starves w → IsCarried w.deeds
  carried_at w r = carried_last w.deeds (known lines starves premises w r).carries.each

  device_has : (w : WorldState) (device : ℕ) (s : StationState SessionDevice) → Reached lines starves w → station_at w device ≡ Some s → Has device (keys_of devices)
  device_has w device s r there = subst (Has device) (keyed lines starves premises w r) (key_has device s w.stations there)

  collects_less : (w : WorldState) (device : ℕ) → Reached lines starves w → (o : Option (StationState SessionDevice)) → station_at w device ≡ o → option_map_or (λ (s : StationState SessionDevice). not (is_empty s.ready)) o false ≡ true
      → Less w (option_map_or (λ (s : StationState SessionDevice). collects_from w device (station.collect s)) o w)
  collects_less w device r None there some = absurd (cc some)
  collects_less w device r (Some s) there some = from s.ready refl (station.collect s) refl
    where
      from : (cs : List Completion) → s.ready ≡ cs → (c : StationState SessionDevice × Option Completion) → station.collect s ≡ c → Less w (collects_from w device c)
      from [] none c made = absurd (cc (some, none))
      from (x ∷ cs) ready (after, None) made =
          let given_one : (station.collect s).1 ≡ Some x = rw ready refl in
          absurd (cc (given_one, ap (λ (q : StationState SessionDevice × Option Completion). q.1) made))
      from (x ∷ cs) ready (after, Some c) made = collect_less (ids_of (pairs_of lines)) (keys_of devices) w device s after c (device_has w device s r there) there made

  takes_less : (w : WorldState) (device hand : ℕ) → Reached lines starves w → is_hand_free w hand ≡ true → (o : Option (StationState SessionDevice)) → station_at w device ≡ o
      → option_map_or (λ (s : StationState SessionDevice). not (is_empty s.waiting)) o false ≡ true
      → Less w (option_map_or (λ (s : StationState SessionDevice). takes_job_from w device hand (station.take s)) o w)
  takes_less w device hand r free None there some = absurd (cc some)
  takes_less w device hand r free (Some s) there some = from s.waiting refl (station.take s) refl
    where
      going : s.ended ≡ false
      going = subst (λ (o : Option (StationState SessionDevice)). IfSome o (λ (x : StationState SessionDevice). x.ended ≡ false)) there (stations_go lines starves w r device)

      first : (x : Job) (jobs : List Job) → s.waiting ≡ x ∷ jobs → (station.take s).1 ≡ given.Job x
      first x jobs waiting = rw (going, waiting) refl

      from : (jobs : List Job) → s.waiting ≡ jobs → (c : StationState SessionDevice × Given) → station.take s ≡ c → Less w (takes_job_from w device hand c)
      from [] none c made = absurd (cc (some, none))
      from (x ∷ jobs) waiting (after, given.Job job) made = take_less (ids_of (pairs_of lines)) (keys_of devices) w device hand s after job (device_has w device s r there) free there made
      from (x ∷ jobs) waiting (after, given.Nothing) made = absurd (cc (first x jobs waiting, ap (λ (q : StationState SessionDevice × Given). q.1) made))
      from (x ∷ jobs) waiting (after, given.Over) made = absurd (cc (first x jobs waiting, ap (λ (q : StationState SessionDevice × Given). q.1) made))

  applied_less : (w : WorldState) (hand : ℕ) (o : Option (Option (ℕ × Job))) → hand_at w hand ≡ o → option_map_or is_some o false ≡ true → Less w (applies_held starves w hand (option_and_then (λ held. held) o))
  applied_less w hand None holds full = absurd (cc full)
  applied_less w hand (Some None) holds full = absurd (cc full)
  applied_less w hand (Some (Some (device, job))) holds full = apply_less (ids_of (pairs_of lines)) (keys_of devices) starves w hand device job (station_at w device) holds refl

  pub free_less : (n : ℕ) (rest : List NumberedLine) (w : WorldState) (e : Event) → event_weight e ≡ 0 → is_enabled w e ≡ true → StandsBefore n rest w → StandsBefore n rest (act starves w e) × Less w (act starves w e)
  free_less n rest w e free can on = (after, by e free can after)
    where
      after : StandsBefore n rest (act starves w e)
      after = event_on n n rest w e (omega (arith, free)) on.few (free_of e free) can on

      r : Reached lines starves w
      r = reached n rest w on

      by : (x : Event) → event_weight x ≡ 0 → is_enabled w x ≡ true → StandsBefore n rest (act starves w x) → Less w (act starves w x)
      by (issue a) free can after =
          let x : ApplicationState = application_at w a in
          let low : length x.outcomes < length x.asks = omega (arith, some_left x can, on.left a) in
          let next = got_within x.asks (length x.outcomes) low in
          issue_less (ids_of (pairs_of lines)) (keys_of devices) w a next.0 (on.among a (omega (arith, low))) can next.1
      by host_send free can after = host_send_less (ids_of (pairs_of lines)) (keys_of devices) w can
      by (client_read k) free can after = client_read_less (ids_of (pairs_of lines)) (keys_of devices) w k (both (is_read (w.to_client).pipe k) (is_none w.kept) can).0
      by client_send free can after =
          client_send_less (ids_of (pairs_of lines)) (keys_of devices) w (known lines starves premises w r).on.outbox
          (fewer_read (client_wrote w.channels w.deeds) (read_by_host w.channels w.deeds) ((carried_at w r).to_host w.channels)) can
      by (collect device) free can after = collects_less w device r (station_at w device) refl (both (not (event.client_has_message w)) (event.has_completion w device) can).1
      by (host_read k) free can after =
          let v : WorldState = act starves w (host_read k) in
          host_read_less (ids_of (pairs_of lines)) (keys_of devices) w k can
          (fewer_read (client_wrote v.channels v.deeds) (read_by_host v.channels v.deeds) ((carried_at v (reached n rest v after)).to_host v.channels))
      by (take_job device hand) free can after =
          let l = both (is_hand_free w hand) (event.job_waits w device) can in
          takes_less w device hand r l.0 (station_at w device) refl l.1
      by (apply_job hand) free can after = applied_less w hand (hand_at w hand) refl can
      by x free can after = absurd (omega (arith, free))

  -- settling ends
  pub settles : (n : ℕ) (rest : List NumberedLine) (w : WorldState) → StandsBefore n rest w → Settles starves (StandsBefore n rest) w
  settles n rest w on =
      settling_ends starves (remaining (ids_of (pairs_of lines)) (keys_of devices)) (StandsBefore n rest) (free_less n rest) (drawing_on n rest) (undrawn (ids_of (pairs_of lines)) (keys_of devices)) w on

  -- ---- the world that lines begin

  pub first_on : StandsBefore 0 lines (world_of lines)
  first_on = record {
    within = record { moves = []; pass = tt; few = omega arith; leads = refl };
    few = omega arith;
    left = λ a.
        let queued : (application_at (world_of lines) a).queued ≡ 0 = begins_as lines (λ (u : Unset). (application_in u.applications a).queued ≡ 0) (none_queued a (pairs_of lines) []) in
        omega (arith, queued, asked a);
    among = λ a some. some_has a (pairs_of lines) (omega (arith, some, asked a));
  }
    where
      asked : (a : ℕ) → length (application_at (world_of lines) a).asks ≡ 0 + how_many a (pairs_of lines)
      asked a = begins_as lines (λ (u : Unset). length (application_in u.applications a).asks ≡ 0 + how_many a (pairs_of lines)) (asked_more a (pairs_of lines) [])

  -- a line that asks for something is queued
  pub queued_on : (n : ℕ) (l : NumberedLine) (rest : List NumberedLine) (w : WorldState) (a : ℕ) (asked : Asked) → Has l lines → asked_by l.line ≡ Some (a, asked) → n + 1 ≤ length lines + 2 → StandsBefore n (l ∷ rest) w → StandsBefore (n + 1) rest (queueing w a)
  queued_on n l rest w a asked has is few on = record {
    within = one_move n (n + 1) w (queues a) (omega arith) (l, asked, has, is) on.within;
    few = few;
    left = λ b. (put_at_one b);
    among = λ b some. on.among b (subst (λ (k : ℕ). 0 < k) (same_asks b) some);
  }
    where
      x : ApplicationState
      x = record (application_at w a) { queued = (application_at w a).queued + 1 }

      same_asks : (b : ℕ) → length (application_at (queueing w a) b).asks ≡ length (application_at w b).asks
      same_asks b = put_at_each (λ (c : ℕ) (o : Option ApplicationState). length (unwrap_or o new_application).asks ≡ length (application_at w c).asks) a x w.applications refl (λ c. refl) b

      more : (b : ℕ) → how_many b (pairs_of (l ∷ rest)) ≡ one_of b (a, asked) + how_many b (pairs_of rest)
      more b = ap (λ (o : Option (ℕ × Asked)). how_many b (cons_option o (pairs_of rest))) is

      put_at_one : (b : ℕ) → (application_at (queueing w a) b).queued + how_many b (pairs_of rest) ≤ length (application_at (queueing w a) b).asks
      put_at_one b =
          let queued : (application_at (queueing w a) b).queued ≡ (application_at w b).queued + one_of b (a, asked) = elim (cases_eq b a) [
            | inl same ↦
                let here : (application_at (queueing w a) b).queued ≡ (application_at (queueing w a) a).queued = ap (λ (c : ℕ). (application_at (queueing w a) c).queued) same in
                let there : (application_at w b).queued ≡ (application_at w a).queued = ap (λ (c : ℕ). (application_at w c).queued) same in
                let own : (application_at (queueing w a) a).queued ≡ (application_at w a).queued + 1 = ap (λ (o : Option ApplicationState). (unwrap_or o new_application).queued) (inserted a x w.applications) in
                let one : one_of b (a, asked) ≡ 1 = ap (λ (t : Bool). if t then 1 else 0) (eq-eqb a b (sym same)) in
                omega (arith, here, there, own, one)
            | inr other ↦
                let here : (application_at (queueing w a) b).queued ≡ (application_at w b).queued = ap (λ (o : Option ApplicationState). (unwrap_or o new_application).queued) (beside a x b other w.applications) in
                let none : one_of b (a, asked) ≡ 0 = ap (λ (t : Bool). if t then 1 else 0) (ne_eqb a b (λ (same : a ≡ b). other (sym same))) in
                omega (arith, here, none)
          ] in
          omega (arith, queued, more b, same_asks b, on.left b)

  -- a line that asks for nothing
  pub passed_on : (n : ℕ) (l : NumberedLine) (rest : List NumberedLine) (w : WorldState) → asked_by l.line ≡ None → StandsBefore n (l ∷ rest) w → StandsBefore n rest w
  passed_on n l rest w is on = record {
    within = on.within;
    few = on.few;
    left = λ a.
        let same : how_many a (pairs_of (l ∷ rest)) ≡ how_many a (pairs_of rest) = ap (λ (o : Option (ℕ × Asked)). how_many a (cons_option o (pairs_of rest))) is in
        omega (arith, same, on.left a);
    among = on.among;
  }

  -- ---- the rounds of a channel's begin

  module _ (writable : DeclaresWritable lines) where
    -- no job is kept back where no request was written
    none_kept : (w : WorldState) → Reached lines starves w → IsOpening w → w.kept ≡ None
    none_kept w r o = by w.kept refl
      where
        by : (k : Option Kept) → w.kept ≡ k → k ≡ None
        by None is = refl
        by (Some k) is =
            let next = (reached_orderly lines starves w (bounded_fit lines premises.bounded) r).kept_next k is in
            let (unread, wrote) = (carried_at w r).to_client w.channels in
            let greets : AllByRecursion IsGreeting (read_by_client w.channels w.deeds) = last_all IsGreeting unread (read_by_client w.channels w.deeds) (subst (AllByRecursion IsGreeting) wrote o.wrote) in
            absurd (cc (next.read, no_greeting (read_by_client w.channels w.deeds) k.job.key.index greets))

    round_weighs : (p : Part) → IsOfRound p → part_weight p ≡ 0
    round_weighs (hands_out a number t taken next) round = refl
    round_weighs (host_sends_one message) round = refl
    round_weighs (host_gets n) round = refl
    round_weighs host_keeps_part round = refl
    round_weighs (host_hears_one message rest) round = refl
    round_weighs (client_sends_one c o) round = refl
    round_weighs (client_gets n) round = refl
    round_weighs client_keeps_part round = refl
    round_weighs (client_hears_one message rest) round = refl
    round_weighs p round = absurd round

    round_behind : (w : WorldState) (p : Part) → IsOfRound p → MayBe lines starves w p → IsBehind lines starves w → IsBehind lines starves (done starves w p)
    round_behind w p round may b =
        let free : part_weight p ≡ 0 = round_weighs p round in
        let same : part_weight p + (length lines + 2) ≡ length lines + 2 = omega (arith, free) in
        subst (λ (k : ℕ). IsBehindWithin lines starves k (done starves w p)) same (one_part lines starves (length lines + 2) w p may b)

    round_of : (e : Event) → IsOfRounds e → IsRoundEvent e × (event_weight e ≡ 0)
    round_of host_send of = (tt, refl)
    round_of client_send of = (tt, refl)
    round_of (client_read n) of = (tt, refl)
    round_of (host_read n) of = (tt, refl)
    round_of e of = absurd of

    opening_goes : (w : WorldState) (e : Event) → IsOfRounds e → is_enabled w e ≡ true → Reached lines starves w → IsOpening w → IsOpening (act starves w e)
    opening_goes w e of can r o =
        (round_event_keeps lines starves (λ y. IsBehind lines starves y × IsOpening y)
        (λ y p round may (behind, own). (round_behind y p round may behind, opening_step lines starves premises writable y p round may behind own)) w e (round_of e of).0 can
        (reached_behind lines starves w r, o)).1

    off_none : {X : Type 0} (o : Option X) → o ≡ None → is_none o ≡ true
    off_none o is = ap is_none is

    pub rounds_settle : (n : ℕ) (rest : List NumberedLine) (w : WorldState) → StandsBefore n rest w → IsOpening w → RoundsEnd starves (λ x. StandsBefore n rest x × IsOpening x) w
    rounds_settle n rest w on opening =
        rounds_end starves (remaining (ids_of (pairs_of lines)) (keys_of devices)) (λ x. StandsBefore n rest x × IsOpening x) (λ x (own, o). off_none x.kept (none_kept x (reached n rest x own) o))
        (λ x e of can (own, o).
        let less = free_less n rest x e (round_of e of).1 can own in
        ((less.0, opening_goes x e of can (reached n rest x own) o), less.1)) w (on, opening)
