-- What a host read of completions it heard, and where all was answered no outcome is awaited.
use Rattle.std.proofs.Common.{◌≡◌, ◌∙◌, refl, sym, ap, subst, inl, inr, ℕ, suc, ◌+◌, ◌<◌, ◌≤◌, ◌==◌, ◌&&◌, Bool, true, false, cond, List, [], ◌∷◌, ◌++◌, fold, length, map, reverse, Some, None, Option, Result, Ok, Err, arith}
use Rattle.std.specs.Prelude.{IsOk, filter, is_some}
use Rattle.std.specs.List.{cons_option}
use Rattle.std.specs.Option.{option_map_or}
use Rattle.rd_base.specs.declared.journal.Key.{Key}
use Rattle.rd_hello.specs.declared.end_fault.EndFault.{EndFault}
use Rattle.rd_base.specs.Statuses as status
use Rattle.rd_devices.specs.declared.list.Announce.{Announce}
use Rattle.rd_host.specs.Core as host
use Rattle.rd_host.specs.Core.{HostCoreState, host_hear}
use Rattle.rd_host.specs.Served.{is_served_type}
use Rattle.rd_host.specs.declared.act.Act.{Act}
use Rattle.rd_host.specs.declared.act.Act.TheVariants as act
use Rattle.rd_irp.specs.declared.completion.Head.{Head}
use Rattle.rd_said.proofs.OrdersMeeting.{behind_meets}
use Rattle.rd_said.specs.OrdersOrders.{DeclaresWritable}
use Rattle.rd_pending.specs.declared.calls.CompleteNo.{CompleteNo}
use Rattle.rd_pending.specs.declared.calls.Completed.{Completed}
use Rattle.rd_pending.specs.Outcomes.{Accepted, Tidings}
use Rattle.rd_pending.specs.Outcomes as outcomes
use Rattle.rd_pending.specs.Table as table
use Rattle.rd_pending.specs.Table.{TableState, awaits}
use Rattle.rd_pending.specs.History.{heard_on}
use Rattle.rd_pending.proofs.CountLemmas.{pairs}
use Rattle.rd_pending.proofs.Tame.{newest, newest_pairs, with_pair}
use Rattle.rd_said.proofs.RunsInsides.{AreOwn, IsInside, IsOwn, all_dropped_inside, applied_inside, hears_inside, put_inside, removed_inside, added_inside, stationed}
use Rattle.rd_said.proofs.RunsParts.{IsBehind, MayBe, Part, accepts, adds_one, applies_one, begins, by_parts, client_gets, client_hears_one, client_keeps_part, client_sends_one, collects_one, done, draws_one, ends, hands_out, host_gets, host_hears_one, host_keeps_part, host_sends_one, idle_one, queues_one, reached_behind, refuses, removes_one, takes_one, tells_one, tries_one}
use Rattle.rd_said.proofs.RunsStanding.{needs_open}
use Rattle.rd_said.proofs.RunsTogether.{knows}
use Rattle.rd_said.proofs.RunsBeginningLemmas.{Unset, begins_as}
use Rattle.rd_said.specs.RunsMoves.{Reached}
use Rattle.rd_said.specs.RunsPremises.{RunPremises}
use Rattle.rd_said.proofs.JournalsChannelLemmas.{all_refreshed, begun_on}
use Rattle.rd_script.specs.declared.line.NumberedLine.{NumberedLine}
use Rattle.rd_station.specs.Station.{StationState}
use Rattle.rd_declared.specs.Devices.{PrinterNames}
use Rattle.rd_declared.specs.declared.device.SessionDevice.{SessionDevice}
use Rattle.rd_deeds.specs.Host.{HostSide, admits, forgets, hears, host_heard, lived}
use Rattle.rd_deeds.specs.HostDeeds.{calls_of, side_of}
use Rattle.rd_deeds.specs.Joining.{IsCompleted as IsCompletedBy, IsTaken, TakesHeard, accepted, request_of_accepted}
use Rattle.rd_world.specs.Recording.{client_id}
use Rattle.rd_deeds.specs.Talk.{Deed, EachAfter, EndsWith, Has, adds, answered, asked, client_read, client_reads, client_writes, completes, head_in, host_begins, host_ends, host_read, host_reads, host_writes, host_wrote, indices_of, is_request, message_asks_pair, message_has_pair, open_channel, removes, stores, submits, takes, tells}
use Rattle.rd_world.specs.World.{WorldState}
use Rattle.rd_deeds.proofs.Calls.{Does, heard_by_deed, heard_step, taken}
use Rattle.rd_deeds.proofs.Hearings.{Heard, heard}
use Rattle.rd_deeds.proofs.Joined.{pairs_in, pairs_more}
use Rattle.rd_deeds.proofs.Messages.{request_is}
use Rattle.rd_deeds.proofs.Written.{Matches, requests_on, written}
use Rattle.rd_headline.specs.Heard.{HearsFine}

-- ---- nothing that a host reads is wrong

own_hears : (before : List Deed) (deed : Deed) → IsOwn deed → HearsFine before deed
own_hears before (stores d x) own = tt
own_hears before (removes d) own = tt
own_hears before (adds d) own = tt
own_hears before deed own = absurd own

more_hears : (more deeds : List Deed) → AreOwn more → EachAfter HearsFine deeds → EachAfter HearsFine (more ++ deeds)
more_hears [] deeds own each = each
more_hears (d ∷ more) deeds own each = (own_hears (more ++ deeds) d own.0, more_hears more deeds own.1 each)

inside_hears : (w v : WorldState) → IsInside w v → EachAfter HearsFine w.deeds → EachAfter HearsFine v.deeds
inside_hears w v i each = subst (EachAfter HearsFine) (sym i.deeds) (more_hears i.more w.deeds i.own each)

sent_hears : (channel : ℕ) (o : Option Key) (m : List ℕ) (before : List Deed) → HearsFine before (option_map_or (λ key. completes key m) o (client_writes channel m))
sent_hears channel None m before = tt
sent_hears channel (Some key) m before = tt

-- what comes of a message makes nothing wrong
admitted_fault : (devices : List Announce) (s : HostSide) → (((fold admits s devices).core).core).fault ≡ ((s.core).core).fault
admitted_fault [] s = refl
admitted_fault (a ∷ devices) s = admitted_fault devices (admits s a) ∙ by (is_served_type a.kind)
  where
    by : (b : Bool) → (((cond b (lived s a.id (table.live s.table a.id)) (record s { core = host.reply s.core a.id status.not_supported })).core).core).fault ≡ ((s.core).core).fault
    by true = refl
    by false = refl

forgot_fault : (ids : List ℕ) (s : HostSide) → (((fold forgets s ids).core).core).fault ≡ ((s.core).core).fault
forgot_fault [] s = refl
forgot_fault (id ∷ ids) s = forgot_fault ids (forgets s id)

same_fault : (s : HostSide) (m : List ℕ) → (((hears s m).core).core).fault ≡ (((host_hear s.core m).0).core).fault
same_fault s m = by (record s { core = (host_hear s.core m).0 }) (host_hear s.core m).1
  where
    by : (x : HostSide) (r : Result Act EndFault) → (((host_heard x r).core).core).fault ≡ ((x.core).core).fault
    by x (Err fault) = refl
    by x (Ok act.Nothing) = refl
    by x (Ok (act.Announced devices)) = admitted_fault devices x
    by x (Ok (act.Removed ids)) = forgot_fault ids x
    by x (Ok (act.Complete head bytes)) = refl

fine_heard : (h : HostCoreState) (m : List ℕ) → (((host_hear h m).0).core).fault ≡ None → IsOk (host_hear h m).1
fine_heard h m fine = by (host_hear h m) fine (heard h m)
  where
    by : (r : HostCoreState × Result Act EndFault) → ((r.0).core).fault ≡ None → Heard h m r → IsOk r.1
    by (c, Err fault) none wrong = absurd (cc (wrong, ap is_some none))
    by (c, Ok a) none is = refl

module _ (lines : List NumberedLine) (starves : Key → Bool) (premises : RunPremises lines) (writable : DeclaresWritable lines) where
  part_hears : (w : WorldState) (p : Part) → MayBe lines starves w p → IsBehind lines starves w → IsBehind lines starves (done starves w p) → EachAfter HearsFine w.deeds → EachAfter HearsFine (done starves w p).deeds
  part_hears w (accepts a wants named t number) may before after each = (tt, each)
  part_hears w (refuses a asked cause) may before after each = each
  part_hears w (hands_out a number t had None) may before after each = (tt, each)
  part_hears w (hands_out a number t had (Some wants)) may before after each = (tt, each)
  part_hears w (host_sends_one m) may before after each = (tt, each)
  part_hears w (host_gets n) may before after each = each
  part_hears w host_keeps_part may before after each = each
  part_hears w (host_hears_one m rest) may before after each =
      let k = knows lines starves premises w before in
      let opened : open_channel w.deeds ≡ Some w.channels = needs_open lines starves w (host_hears_one m rest) may tt k.stands in
      let fine = ((behind_meets lines starves premises writable (done starves w (host_hears_one m rest)) after).now opened).host_fine in
      (subst (λ (s : HostSide). IsOk (host_hear s.core m).1) (sym (k.stands).host.is) (fine_heard (w.side).core m (sym (same_fault (w.side) m) ∙ fine)), each)
  part_hears w (tells_one n) may before after each = (tt, each)
  part_hears w begins may before after each = subst (λ (x : WorldState). EachAfter HearsFine (begun_on w x).deeds) (sym (all_refreshed (map (λ (e : ℕ × PrinterNames). e.0) w.printers) w)) (tt, each)
  part_hears w ends may before after each = (tt, inside_hears w _ (all_dropped_inside (map (λ (e : ℕ × StationState SessionDevice). e.0) w.stations) w) each)
  part_hears w (client_sends_one x o) may before after each = (sent_hears w.channels o.answers o.message w.deeds, each)
  part_hears w (client_gets n) may before after each = each
  part_hears w client_keeps_part may before after each = each
  part_hears w (client_hears_one m rest) may before after each =
      let x : WorldState = record w { to_client = record w.to_client { part = []; taken = _; unhandled = rest } } in
      inside_hears _ (done starves w (client_hears_one m rest)) (hears_inside x m) (tt, each)
  part_hears w (tries_one k) may before after each = inside_hears _ (done starves w (tries_one k)) (put_inside (record w { kept = None }) k.device k.job) each
  part_hears w (collects_one d s a c) may before after each = (tt, inside_hears w _ (stationed w d a) each)
  part_hears w (takes_one d hand s a job) may before after each = inside_hears w _ (stationed w d a) each
  part_hears w (applies_one hand d job o) may before after each = inside_hears w (done starves w (applies_one hand d job o)) (applied_inside starves w hand d job o) each
  part_hears w (removes_one d o) may before after each = inside_hears w (done starves w (removes_one d o)) (removed_inside w d o) each
  part_hears w (adds_one d names o) may before after each = inside_hears w (done starves w (adds_one d names o)) (added_inside w d names o) each
  part_hears w (queues_one a) may before after each = each
  part_hears w (idle_one number) may before after each = each
  part_hears w draws_one may before after each = each

  pub behind_heard : (w : WorldState) → Reached lines starves w → EachAfter HearsFine w.deeds
  behind_heard w reached =
      by_parts lines starves (λ x. EachAfter HearsFine x.deeds) (begins_as lines (λ (u : Unset). EachAfter HearsFine u.deeds) tt)
      (λ x p before after may each. part_hears x p may before after each) w (reached_behind lines starves w reached)

-- ---- what was heard

-- a completion that was heard and taken is told of
taken_all : (d i : ℕ) (s : HostSide) (channel : ℕ) (m : List ℕ) → IsOk (host_hear s.core m).1 → IsTaken s (host_reads channel m) → cond (message_has_pair d i m) 1 0 ≤ pairs_in d i (taken s m)
taken_all d i s channel m fine took = go (host_hear s.core m) refl (heard s.core m) fine took
  where
    none : (o : Option Head) → head_in m ≡ o → o ≡ None → cond (message_has_pair d i m) 1 0 ≤ pairs_in d i (taken s m)
    none o e n = let no : message_has_pair d i m ≡ false = ap (λ (h : Option Head). option_map_or (λ (h : Head). h.device == d && h.completion == i) h false) (e ∙ n) in subst (λ (b : Bool). cond b 1 0 ≤ pairs_in d i (taken s m)) (sym no) (omega arith)

    completion : (head : Head) (bytes : List ℕ) → (host_hear s.core m).1 ≡ Ok (act.Complete head bytes) → message_has_pair d i m ≡ outcomes.head_has_pair d i head
        → (r : Result Completed CompleteNo) → (table.complete s.table head bytes).1 ≡ r → IsCompletedBy r → cond (message_has_pair d i m) 1 0 ≤ pairs_in d i (taken s m)
    completion head bytes e same (Ok gave) e2 is = rw (e, e2, same) (plus_none (cond (outcomes.head_has_pair d i head) 1 0))
      where
        plus_none : (n : ℕ) → n ≤ n + 0
        plus_none n = omega arith
    completion head bytes e same (Err cause) e2 is = absurd is

    go : (r : HostCoreState × Result Act EndFault) → host_hear s.core m ≡ r → Heard s.core m (host_hear s.core m) → IsOk (host_hear s.core m).1 → IsTaken s (host_reads channel m) → cond (message_has_pair d i m) 1 0 ≤ pairs_in d i (taken s m)
    go (c, Err fault) e is fine took = absurd (let bad : IsOk {T = Act} {E = EndFault} (Err fault) = subst (λ (x : HostCoreState × Result Act EndFault). IsOk x.1) e fine in cc bad)
    go (c, Ok act.Nothing) e is fine took = none (head_in m) refl (subst (Heard s.core m) e is).4
    go (c, Ok (act.Announced devices)) e is fine took = none (head_in m) refl (subst (Heard s.core m) e is).4
    go (c, Ok (act.Removed ids)) e is fine took = none (head_in m) refl (subst (Heard s.core m) e is).4
    go (c, Ok (act.Complete head bytes)) e is fine took =
        let facts = subst (Heard s.core m) e is in
        completion head bytes (ap (λ (x : HostCoreState × Result Act EndFault). x.1) e) (rw facts.5 refl) (table.complete s.table head bytes).1 refl
        (subst (λ (x : Result Act EndFault). TakesHeard s.table x) (ap (λ (x : HostCoreState × Result Act EndFault). x.1) e) took)

-- so all that were read were heard
pub read_heard : (c d i : ℕ) (deeds : List Deed) → Does client_id deeds → EachAfter HearsFine deeds → EachAfter (λ before deed. IsTaken (side_of client_id before) deed) deeds
    → length (filter (message_has_pair d i) (host_read c deeds)) ≤ pairs_in d i (heard_on c (calls_of client_id deeds))
read_heard c d i [] may fine took = omega arith
read_heard c d i (deed ∷ before) may fine took = step deed may fine.0 took.0 (read_heard c d i before may.1 fine.1 took.1)
  where
    told : List Tidings
    told = heard_on c (calls_of client_id before)

    all : (deed : Deed) → Does client_id (deed ∷ before) → pairs_in d i (heard_on c (calls_of client_id (deed ∷ before))) ≡ pairs_in d i told + pairs_in d i (heard_by_deed client_id c before deed)
    all deed may = ap (pairs_in d i) (heard_step client_id c before deed may) ∙ pairs_more d i told (heard_by_deed client_id c before deed)

    quiet : (deed : Deed) → Does client_id (deed ∷ before) → length (filter (message_has_pair d i) (host_read c before)) ≤ pairs_in d i told
        → length (filter (message_has_pair d i) (host_read c before)) ≤ pairs_in d i (heard_on c (calls_of client_id (deed ∷ before)))
    quiet deed may old = omega (arith, old, all deed may)

    read : (channel : ℕ) (m : List ℕ) → Does client_id (host_reads channel m ∷ before) → IsOk (host_hear (side_of client_id before).core m).1 → IsTaken (side_of client_id before) (host_reads channel m)
        → length (filter (message_has_pair d i) (host_read c before)) ≤ pairs_in d i told
        → (b : Bool) → (channel == c) ≡ b → length (filter (message_has_pair d i) (cons_option (cond b (Some m) None) (host_read c before))) ≤ pairs_in d i (heard_on c (calls_of client_id (host_reads channel m ∷ before)))
    read channel m may fine took old false e = omega (arith, old, all (host_reads channel m) may)
    read channel m may fine took old true e = by (message_has_pair d i m) refl
      where
        own : heard_by_deed client_id c before (host_reads channel m) ≡ taken (side_of client_id before) m
        own = rw e refl

        by : (b : Bool) → message_has_pair d i m ≡ b
            → length (cond (message_has_pair d i m) (m ∷ filter (message_has_pair d i) (host_read c before)) (filter (message_has_pair d i) (host_read c before))) ≤ pairs_in d i (heard_on c (calls_of client_id (host_reads channel m ∷ before)))
        by true e2 =
            let one : 1 ≤ pairs_in d i (taken (side_of client_id before) m) = subst (λ (b : Bool). cond b 1 0 ≤ pairs_in d i (taken (side_of client_id before) m)) e2 (taken_all d i (side_of client_id before) channel m fine took) in
            rw e2 (omega (arith, old, one, all (host_reads channel m) may, ap (pairs_in d i) own))
        by false e2 = rw e2 (omega (arith, old, all (host_reads channel m) may))

    step : (deed : Deed) → Does client_id (deed ∷ before) → HearsFine before deed → IsTaken (side_of client_id before) deed → length (filter (message_has_pair d i) (host_read c before)) ≤ pairs_in d i told
        → length (filter (message_has_pair d i) (host_read c (deed ∷ before))) ≤ pairs_in d i (heard_on c (calls_of client_id (deed ∷ before)))
    step (host_reads channel m) may fine took old = read channel m may fine took old (channel == c) refl
    step (host_begins channel) may fine took old = quiet (host_begins channel) may old
    step (host_ends channel) may fine took old = quiet (host_ends channel) may old
    step (removes device) may fine took old = quiet (removes device) may old
    step (adds device) may fine took old = quiet (adds device) may old
    step (submits x named o) may fine took old = quiet (submits x named o) may old
    step (takes number) may fine took old = quiet (takes number) may old
    step (tells n) may fine took old = quiet (tells n) may old
    step (host_writes channel m) may fine took old = quiet (host_writes channel m) may old
    step (client_reads channel m) may fine took old = quiet (client_reads channel m) may old
    step (client_writes channel m) may fine took old = quiet (client_writes channel m) may old
    step (completes key m) may fine took old = quiet (completes key m) may old
    step (stores device item) may fine took old = quiet (stores device item) may old

-- ---- what was asked

asks : ℕ → ℕ → List ℕ → Bool
asks d i m = is_request m && message_asks_pair d i m

same_matched : (d i : ℕ) (xs : List Accepted) (ms : List (List ℕ)) → Matches xs ms → length (filter (with_pair d i) xs) ≡ length (indices_of d i ms)
same_matched d i [] [] p = refl
same_matched d i [] (m ∷ ms) p = absurd p
same_matched d i (x ∷ xs) [] p = absurd p
same_matched d i (x ∷ xs) (m ∷ ms) p = by (with_pair d i x) (is_request m && message_asks_pair d i m) same (same_matched d i xs ms p.1)
  where
    same : (is_request m && message_asks_pair d i m) ≡ with_pair d i x
    same = rw (request_is m (request_of_accepted x) p.0, p.0) refl

    by : (a b : Bool) → b ≡ a → length (filter (with_pair d i) xs) ≡ length (indices_of d i ms)
        → length (cond a (x ∷ filter (with_pair d i) xs) (filter (with_pair d i) xs)) ≡ length (cond b (length (filter is_request ms) ∷ indices_of d i ms) (indices_of d i ms))
    by true true e later = ap suc later
    by true false e later = absurd (cc e)
    by false true e later = absurd (cc e)
    by false false e later = later

requests_indices : (d i : ℕ) (ms : List (List ℕ)) → length (indices_of d i (filter is_request ms)) ≡ length (indices_of d i ms)
requests_indices d i [] = refl
requests_indices d i (m ∷ ms) = by (is_request m) refl (requests_indices d i ms)
  where
    when : (b : Bool) → length (indices_of d i (filter is_request ms)) ≡ length (indices_of d i ms)
        → length (cond b (length (filter is_request (filter is_request ms)) ∷ indices_of d i (filter is_request ms)) (indices_of d i (filter is_request ms))) ≡ length (cond b (length (filter is_request ms) ∷ indices_of d i ms) (indices_of d i ms))
    when true later = ap suc later
    when false later = later

    by : (b : Bool) → is_request m ≡ b → length (indices_of d i (filter is_request ms)) ≡ length (indices_of d i ms) → length (indices_of d i (cond b (m ∷ filter is_request ms) (filter is_request ms))) ≡ length (indices_of d i (m ∷ ms))
    by true e later = rw e (when (message_asks_pair d i m) later)
    by false e later = rw e later

-- where all that was accepted was sent and read, so much was asked
pub all_asked : (c d i : ℕ) (deeds : List Deed) → Does client_id deeds → ((side_of client_id deeds).table).channel ≡ Some c → ((side_of client_id deeds).table).outbox ≡ [] → client_read c deeds ≡ host_wrote c deeds
    → pairs c d i (accepted client_id deeds) ≡ length (asked c d i deeds)
all_asked c d i deeds may opened empty read =
    let w = written client_id deeds may c in
    let unsent : w.unsent ≡ [] = w.in_outbox opened ∙ ap reverse empty in
    let matched : Matches (newest c (accepted client_id deeds)) (requests_on c deeds) = subst (λ (us : List (List ℕ)). Matches (newest c (accepted client_id deeds)) (us ++ requests_on c deeds)) unsent w.matches in
    sym (newest_pairs c d i (accepted client_id deeds)) ∙ same_matched d i (newest c (accepted client_id deeds)) (requests_on c deeds) matched
    ∙ requests_indices d i (host_wrote c deeds) ∙ ap (λ (ms : List (List ℕ)). length (indices_of d i ms)) (sym read)

-- ---- what was answered

-- indices fall
below_all : (d i k : ℕ) (ms : List (List ℕ)) → Has k (indices_of d i ms) → k < length (filter is_request ms)
below_all d i k [] has = absurd has
below_all d i k (m ∷ ms) has = by (is_request m) (message_asks_pair d i m) has (below_all d i k ms)
  where
    by : (a b : Bool) → Has k (cond (a && b) (length (filter is_request ms) ∷ indices_of d i ms) (indices_of d i ms)) → (Has k (indices_of d i ms) → k < length (filter is_request ms)) → k < length (cond a (m ∷ filter is_request ms) (filter is_request ms))
    by true true (inl same) later = omega (arith, same)
    by true true (inr has) later = let low = later has in omega (arith, low)
    by true false has later = let low = later has in omega (arith, low)
    by false b has later = later has

first_above : (d i k x : ℕ) (xs : List ℕ) (ms : List (List ℕ)) → indices_of d i ms ≡ x ∷ xs → Has k xs → k < x
first_above d i k x xs [] e has = absurd (cc e)
first_above d i k x xs (m ∷ ms) e has = by (is_request m && message_asks_pair d i m) e (first_above d i k x xs ms)
  where
    by : (b : Bool) → cond b (length (filter is_request ms) ∷ indices_of d i ms) (indices_of d i ms) ≡ x ∷ xs → (indices_of d i ms ≡ x ∷ xs → Has k xs → k < x) → k < x
    by true same later =
        let one : length (filter is_request ms) ≡ x = cc same in
        let others : indices_of d i ms ≡ xs = cc same in
        let low : k < length (filter is_request ms) = below_all d i k ms (subst (Has k) (sym others) has) in omega (arith, one, low)
    by false same later = later same has

has_last_part : (k : ℕ) (xs ys : List ℕ) → Has k ys → Has k (xs ++ ys)
has_last_part k [] ys has = has
has_last_part k (x ∷ xs) ys has = inr (has_last_part k xs ys has)

-- where each that was asked was answered, as many were answered
pub all_answered : (c d i : ℕ) (deeds : List Deed) → EndsWith (asked c d i deeds) (answered c d i deeds) → ((k : ℕ) → Has k (asked c d i deeds) → Has k (answered c d i deeds)) → asked c d i deeds ≡ answered c d i deeds
all_answered c d i deeds (prefix, parts) each = by prefix parts
  where
    by : (p : List ℕ) → asked c d i deeds ≡ p ++ answered c d i deeds → asked c d i deeds ≡ answered c d i deeds
    by [] e = e
    by (x ∷ p) e =
        let has : Has x (answered c d i deeds) = each x (subst (Has x) (sym e) (inl refl)) in
        let low : x < x = first_above d i x x (p ++ answered c d i deeds) (client_read c deeds) e (has_last_part x p (answered c d i deeds) has) in
        absurd (omega (arith, low))
