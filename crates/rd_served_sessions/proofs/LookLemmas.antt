-- Where it is looked up how far a channel is, the front tells how many requests were read there.
use Rattle.std.proofs.Common.{◌≡◌, ◌⊎◌, ◌∙◌, refl, sym, ap, subst, inl, inr, ℕ, suc, ◌+◌, ◌==◌, ◌&&◌, ◌||◌, Bool, true, false, cond, List, [], ◌∷◌, ◌++◌, length, reverse, Option, Some, None, append_assoc, arith, eq-eqb}
use Rattle.std.specs.Prelude.{Ok, Err, filter, if◌then◌else◌}
use Rattle.std.specs.List.{AllByRecursion, cons_option}
use Rattle.rd_client.specs.Core as client
use Rattle.rd_client.specs.Core.{ClientCoreState}
use Rattle.rd_client.specs.declared.heard.Heard.{Heard}
use Rattle.rd_client.specs.declared.heard.Heard.TheVariants.{Nothing, Ask, Print}
use Rattle.rd_front.specs.Calls.{FrontEntry, hinders}
use Rattle.rd_front.specs.Front.{FrontStep, is_front_ready}
use Rattle.rd_front.specs.State.{FrontState}
use Rattle.rd_front.specs.declared.calls.FrontCall.{FrontCall}
use Rattle.rd_front.specs.declared.calls.FrontCall.TheVariants as call
use Rattle.rd_front.specs.declared.calls.FrontReply.{FrontReply}
use Rattle.rd_front.specs.declared.calls.FrontReply.TheVariants as reply
use Rattle.rd_hello.specs.declared.end_fault.EndFault.TheVariants as fault
use Rattle.rd_served_causes.proofs.JournalsAskingLemmas.{HeardAs}
use Rattle.rd_served_causes.proofs.JournalsAskingLemmas as asking_of
use Rattle.rd_served_causes.proofs.JournalsHeldLemmas.{stored_unread}
use Rattle.rd_turn.specs.History.{Leads}
use Rattle.rd_deeds.specs.Talk.{Deed, client_read, client_reads, is_request}
use Rattle.rd_workers.proofs.RunLemmas.{HearsTo, IsSure, hears_to, hindered, plainly}
use Rattle.rd_workers.specs.Channels.{ChannelRun, IsChannelRun, calls_by_all}
use Rattle.rd_workers.specs.Logs.{asks_any, reader_calls}
use Rattle.rd_workers.specs.Reading.{AllPlain}
use Rattle.rd_served_causes.proofs.ServedCauseLemmas.{IsTold, part_told}
use Rattle.rd_served_causes.proofs.ServedKeyLemmas.{IsKeyed, did_calm, ended_is, part_keyed, refreshed_calm, sent_calm}
use Rattle.rd_served_causes.specs.ServedDeeds.{deeds_after, deeds_of, stored_each}
use Rattle.rd_served_causes.specs.ServedHistories.{Among, CallGoes}
use Rattle.rd_served_causes.specs.ServedParts.{FrontPart, PartGoes, PartsGo, begins, begun_by, calls, directs, ends, forgets, keeps, learns, misplaces, refreshes, sends, stops, tells_gone, tells_there, tries, unwritten, writes}
use Rattle.rd_served_causes.specs.ServedParts as part
use Rattle.rd_served_causes.specs.ServedServed.{Served}
use Rattle.rd_served_causes.specs.ServedRefusalsHeeding.{hindered_by}
use Rattle.rd_served_sessions.proofs.CallLemmas.{asked_unhindered, plain_by}
use Rattle.rd_served_sessions.proofs.ChainLemmas.{part_unread}
use Rattle.rd_served_sessions.specs.Placed.{LooksAt, requests_read}

-- ---- the reader looks only where no reply hindered

-- It is looked up how far the channel is only where no reply hindered since it began.
abbrev pub LookUnhindered : Bool → List FrontEntry → Type 0
LookUnhindered was [] = Unit {0}
LookUnhindered was (e ∷ es) = (e.call ≡ call.Look → was ≡ false) × LookUnhindered (hindered_by was e.call e.reply) es

-- from anywhere
abbrev LookAnyhow : List FrontEntry → Type 0
LookAnyhow entries = (was : Bool) → LookUnhindered was entries

plain_looks : (inner later : List FrontEntry) → AllPlain inner → LookUnhindered false later → LookUnhindered false (inner ++ later)
plain_looks [] later plain looks = looks
plain_looks (e ∷ inner) later plain looks = (λ is. refl, subst (λ (w : Bool). LookUnhindered w (inner ++ later)) (sym (plain_by e.call e.reply plain.0)) (plain_looks inner later plain.1 looks))

to_looks : (inner later : List FrontEntry) → HearsTo inner → LookAnyhow later → LookUnhindered false (inner ++ later)
to_looks inner later (plainly plain) looks = plain_looks inner later plain (looks false)
to_looks inner later (hindered before last are plain not) looks =
    subst (LookUnhindered false) (sym (ap (λ (es : List FrontEntry). es ++ later) are ∙ append_assoc before (last ∷ []) later)) (plain_looks before (last ∷ later) plain (λ is. refl, looks (hindered_by false last.call last.reply)))

run_looks : (r : ChannelRun) (later : List FrontEntry) → IsChannelRun r → IsSure r → LookAnyhow later → LookAnyhow (r.calls ++ later)
run_looks r later is sure looks was =
    let w = is.whole in
    let inner = (r.reading).calls in
    let ended : LookAnyhow (w.end ∷ later) = λ b. ((λ look. absurd (let other = w.ends in cc (look, other))), looks (hindered_by b (w.end).call (w.end).reply)) in
    let read : LookUnhindered false ((inner ++ w.end ∷ []) ++ later) =
    subst (LookUnhindered false) (sym (append_assoc inner (w.end ∷ []) later)) (to_looks inner (w.end ∷ later) (hears_to (r.reading).by inner (r.reading).incoming sure.found (is.reading).end_is) ended) in
    let begun : hindered_by was (w.begin).call (w.begin).reply ≡ false = λ i. hindered_by was ((w.begins).0 i) (((w.begins).1).2 i) in
    subst (λ (es : List FrontEntry). LookUnhindered was (es ++ later)) (sym w.whole_are)
    ((λ look. absurd (let other = (w.begins).0 in cc (look, other))), subst (λ (b : Bool). LookUnhindered b ((inner ++ w.end ∷ []) ++ later)) (sym begun) read)

runs_looks : (runs : List ChannelRun) (later : List FrontEntry) → AllByRecursion IsChannelRun runs → AllByRecursion IsSure runs → LookAnyhow later → LookAnyhow (calls_by_all runs ++ later)
runs_looks [] later each sure looks was = looks was
runs_looks (r ∷ runs) later each sure looks was =
    subst (LookUnhindered was) (sym (append_assoc r.calls (calls_by_all runs) later)) (run_looks r (calls_by_all runs ++ later) each.0 sure.0 (runs_looks runs later each.1 sure.1 looks) was)

lift_looks : (entries : List FrontEntry) (p q : FrontState) (was : Bool) → Leads FrontStep p entries q → LookUnhindered was (reader_calls entries) → LookUnhindered was entries
lift_looks [] p q was leads looks = tt
lift_looks (e ∷ entries) p q was leads looks = by (λ w. lift_looks entries leads.0 q w leads.2) (asks_any e.call) refl looks
  where
    by : ((w : Bool) → LookUnhindered w (reader_calls entries) → LookUnhindered w entries) → (b : Bool) → asks_any e.call ≡ b → LookUnhindered was (if b then reader_calls entries else e ∷ reader_calls entries) → LookUnhindered was (e ∷ entries)
    by more true is these = (
      λ look. absurd (let none = ap asks_any look in cc (none, is)),
      subst (λ (w : Bool). LookUnhindered w entries) (sym (asked_unhindered p leads.0 was e.call e.reply leads.1 is)) (more was these),
    )
    by more false is these = (these.0, more (hindered_by was e.call e.reply) these.1)

-- So it is in a session, whose reader's inner are those of its runs and the one that ends it.
pub session_looks : (entries : List FrontEntry) (p q : FrontState) → Leads FrontStep p entries q → (runs : List ChannelRun) (last : FrontEntry) → reader_calls entries ≡ calls_by_all runs ++ last ∷ [] → last.call ≡ call.EndSession
    → AllByRecursion IsChannelRun runs → AllByRecursion IsSure runs → LookUnhindered false entries
session_looks entries p q leads runs last whole over each sure =
    lift_looks entries p q false leads (subst (LookUnhindered false) (sym whole) (runs_looks runs (last ∷ []) each sure (λ was. ((λ look. absurd (cc (look, over))), tt)) false))

-- ---- how many requests were read

-- as many as the core counts
abbrev pub IsCounted : Served → List Deed → Type 0
IsCounted p deeds = requests_read (p.front).channel deeds ≡ ((p.front).client).asked

counted_same : (p q : Served) (deeds more : List Deed) → client_read (p.front).channel more ≡ client_read (p.front).channel deeds → (q.front).channel ≡ (p.front).channel → ((q.front).client).asked ≡ ((p.front).client).asked → IsCounted p deeds → IsCounted q more
counted_same p q deeds more read channel asked is = ap (λ (c : ℕ). requests_read c more) channel ∙ ap (λ (ms : List (List ℕ)). length (filter is_request ms)) read ∙ is ∙ sym asked

-- a message that was read, by whether it asks for something
read_more : (c : ℕ) (m : List ℕ) (deeds : List Deed) → requests_read c (client_reads c m ∷ deeds) ≡ length (cond (is_request m) (m ∷ filter is_request (client_read c deeds)) (filter is_request (client_read c deeds)))
read_more c m deeds = ap (λ (b : Bool). length (filter is_request (cons_option (cond b (Some m) None) (client_read c deeds)))) (same c)
  where
    same : (n : ℕ) → (n == n) ≡ true
    same n = eq-eqb n n refl

read_other : (c : ℕ) (m : List ℕ) (deeds : List Deed) → is_request m ≡ false → requests_read c (client_reads c m ∷ deeds) ≡ requests_read c deeds
read_other c m deeds other = read_more c m deeds ∙ ap (λ (b : Bool). length (cond b (m ∷ filter is_request (client_read c deeds)) (filter is_request (client_read c deeds)))) other

read_one : (c : ℕ) (m : List ℕ) (deeds : List Deed) → is_request m ≡ true → requests_read c (client_reads c m ∷ deeds) ≡ requests_read c deeds + 1
read_one c m deeds one =
    read_more c m deeds ∙ ap (λ (b : Bool). length (cond b (m ∷ filter is_request (client_read c deeds)) (filter is_request (client_read c deeds)))) one ∙ more (requests_read c deeds)
  where
    more : (n : ℕ) → suc n ≡ n + 1
    more n = omega arith

-- where no memory was found for a message, nothing changed
memory_same : (old new : ClientCoreState) (m : List ℕ) → client.ClientStep old (client.hears m (Err fault.Memory)) new → new.asked ≡ old.asked
memory_same old new m (may, did) = ap (λ (c : ClientCoreState). c.asked) did.1

-- a channel begins, of which nothing was read
begun_counted : (p q : Served) (channel : ℕ) (deeds : List Deed) → PartGoes p (begins channel) q → IsTold p deeds → IsCounted q deeds
begun_counted p q channel deeds goes told =
    ap (λ (c : ℕ). requests_read c deeds) (ap (λ (v : Served). (v.front).channel) goes.3) ∙ ap (λ (ms : List (List ℕ)). length (filter is_request ms)) (told.unread channel goes.2) ∙ sym (ap (λ (v : Served). ((v.front).client).asked) goes.3)

part_counted : (p q : Served) (x : FrontPart) (deeds : List Deed) → PartGoes p x q → IsTold p deeds → stops x ≡ false → IsCounted p deeds → IsCounted q (deeds_of x ++ deeds)
part_counted p q (part.hears channel m (Err fault.Memory)) deeds goes told going is =
    counted_same p q deeds deeds refl (ap (λ (s : FrontState). s.channel) (goes.3).1) (memory_same (p.front).client (q.front).client m (goes.3).0) is
part_counted p q (part.hears channel m (Err (fault.Order state packet))) deeds goes told going is = absurd (cc (going))
part_counted p q (part.hears channel m (Err (fault.Grammar bad))) deeds goes told going is = absurd (cc (going))
part_counted p q (part.hears channel m (Ok heard)) deeds goes told going is =
    ap (λ (c : ℕ). requests_read c (client_reads channel m ∷ deeds)) (ap (λ (s : FrontState). s.channel) (goes.3).1 ∙ sym goes.0) ∙ by heard (subst (HeardAs (p.front).client m) ((goes.3).0).1 (asking_of.hears (p.front).client m))
  where
    here : requests_read channel deeds ≡ ((p.front).client).asked
    here = ap (λ (c : ℕ). requests_read c deeds) goes.0 ∙ is

    by : (h : Heard) → HeardAs (p.front).client m ((q.front).client, Ok h) → requests_read channel (client_reads channel m ∷ deeds) ≡ ((q.front).client).asked
    by (Ask device job) (same, asked, one, faulty, none, r, spelled, named, is_job) = read_one channel m deeds one ∙ ap (λ (n : ℕ). n + 1) here ∙ sym asked
    by Nothing (same, asked, other, faulty) = read_other channel m deeds other ∙ here ∙ sym asked
    by (Print n) (same, asked, other, faulty) = read_other channel m deeds other ∙ here ∙ sym asked
part_counted p q tries deeds goes told going is = counted_same p q deeds deeds refl (ap (λ (v : Served). (v.front).channel) goes.4) (ap (λ (v : Served). ((v.front).client).asked) goes.4) is
part_counted p q keeps deeds goes told going is = counted_same p q deeds deeds refl (ap (λ (v : Served). (v.front).channel) goes.3) (ap (λ (v : Served). ((v.front).client).asked) goes.3) is
part_counted p q forgets deeds goes told going is = absurd (cc (going))
part_counted p q misplaces deeds goes told going is = absurd (cc (going))
part_counted p q (directs st answer) deeds goes told going is =
    counted_same p q deeds deeds refl (ap (λ (s : FrontState). s.channel) (goes.2).1)
    (did_calm answer (client.direct (p.front).client (goes.0).job (goes.0).device st) (p.front).client (q.front).client ((goes.2).0).1 refl refl refl).1 is
part_counted p q (calls place id does back items) deeds goes told going is =
    counted_same p q deeds (deeds_of (calls place id does back items) ++ deeds) (stored_unread id (p.front).channel (reverse items) deeds) (ap (λ (s : FrontState). s.channel) goes.front_is) (ap (λ (s : FrontState). (s.client).asked) goes.front_is) is
part_counted p q (tells_gone device answer) deeds goes told going is =
    counted_same p q deeds (deeds_of (tells_gone device answer) ++ deeds) (part_unread (p.front).channel (tells_gone device answer) deeds refl) (ap (λ (s : FrontState). s.channel) (goes.0).1)
    (did_calm answer (client.tell_removed (p.front).client device) (p.front).client (q.front).client ((goes.0).0).1 refl refl refl).1 is
part_counted p q (tells_there device answer) deeds goes told going is =
    counted_same p q deeds (deeds_of (tells_there device answer) ++ deeds) (part_unread (p.front).channel (tells_there device answer) deeds refl) (ap (λ (s : FrontState). s.channel) (goes.0).1)
    (did_calm answer (client.tell_added (p.front).client device) (p.front).client (q.front).client ((goes.0).0).1 refl refl refl).1 is
part_counted p q (sends channel sent) deeds goes told going is =
    counted_same p q deeds (deeds_of (sends channel sent) ++ deeds) (part_unread (p.front).channel (sends channel sent) deeds refl) (ap (λ (s : FrontState). s.channel) (goes.1).1) (sent_calm (p.front).client (q.front).client sent (goes.1).0).1 is
part_counted p q (writes device c) deeds goes told going is =
    counted_same p q deeds (deeds_of (writes device c) ++ deeds) refl (ap (λ (v : Served). (v.front).channel) goes.1) (ap (λ (v : Served). ((v.front).client).asked) goes.1) is
part_counted p q (unwritten device c) deeds goes told going is = counted_same p q deeds deeds refl (ap (λ (v : Served). (v.front).channel) goes.1) (ap (λ (v : Served). ((v.front).client).asked) goes.1) is
part_counted p q (learns n answer) deeds goes told going is = counted_same p q deeds deeds refl (ap (λ (v : Served). (v.front).channel) goes.1) (ap (λ (v : Served). ((v.front).client).asked) goes.1) is
part_counted p q (refreshes device) deeds goes told going is =
    let calm = (refreshed_calm p.front device).0 in counted_same p q deeds deeds refl (ap (λ (v : Served). (v.front).channel) goes ∙ calm.channel) (ap (λ (v : Served). ((v.front).client).asked) goes ∙ calm.asked) is
part_counted p q (begins channel) deeds goes told going is = begun_counted p q channel deeds goes told
part_counted p q (ends over ts) deeds goes told going is =
    let ended = ended_is over p.front (q.front).desks in
    counted_same p q deeds (stored_each ts ++ deeds) (part_unread (p.front).channel (ends over ts) deeds refl) (ap (λ (s : FrontState). s.channel) goes.2 ∙ ended.1) (ap (λ (s : FrontState). (s.client).asked) goes.2 ∙ ended.2) is

parts_counted : (ps : List FrontPart) (p q : Served) (deeds : List Deed) → PartsGo p ps q → IsKeyed p → IsTold p deeds → (Among (λ x. stops x ≡ true) ps → ⊥) → IsCounted p deeds → IsCounted q (deeds_after ps deeds)
parts_counted [] p q deeds goes keyed told none is = subst (λ (v : Served). IsCounted v deeds) (sym goes) is
parts_counted (x ∷ ps) p q deeds goes keyed told none is =
    parts_counted ps goes.0 q (deeds_of x ++ deeds) goes.2 (part_keyed p goes.0 x goes.1 keyed) (part_told p goes.0 x deeds goes.1 keyed told) (λ some. none (inr some)) (part_counted p goes.0 x deeds goes.1 told (going (stops x) refl) is)
  where
    going : (b : Bool) → stops x ≡ b → stops x ≡ false
    going true stopped = absurd (none (inl stopped))
    going false on = on

part_begun : (p q : Served) (x : FrontPart) (channel : ℕ) (deeds : List Deed) → begun_by x ≡ Some channel → PartGoes p x q → IsTold p deeds → IsCounted q (deeds_of x ++ deeds)
part_begun p q (begins other) channel deeds is goes told = begun_counted p q other deeds goes told
part_begun p q x channel deeds is goes told = absurd (cc (is))

begun_then : (channel : ℕ) (ps : List FrontPart) (p q : Served) (deeds : List Deed) → PartsGo p ps q → IsKeyed p → IsTold p deeds → (Among (λ x. stops x ≡ true) ps → ⊥) → Among (λ x. begun_by x ≡ Some channel) ps → IsCounted q (deeds_after ps deeds)
begun_then channel [] p q deeds goes keyed told none some = absurd some
begun_then channel (x ∷ ps) p q deeds goes keyed told none (inl here) =
    parts_counted ps goes.0 q (deeds_of x ++ deeds) goes.2 (part_keyed p goes.0 x goes.1 keyed) (part_told p goes.0 x deeds goes.1 keyed told) (λ some. none (inr some)) (part_begun p goes.0 x channel deeds here goes.1 told)
begun_then channel (x ∷ ps) p q deeds goes keyed told none (inr later) =
    begun_then channel ps goes.0 q (deeds_of x ++ deeds) goes.2 (part_keyed p goes.0 x goes.1 keyed) (part_told p goes.0 x deeds goes.1 keyed told) (λ some. none (inr some)) later

-- ---- a call

first_false : (a b : Bool) → (a || b) ≡ false → (a ≡ false) × (b ≡ false)
first_false true b is = absurd (cc (is))
first_false false b is = (refl, is)

-- where a call leaves nothing that hinders, nothing hindered before it, or a channel began by it
unhindered : (was : Bool) (does : FrontCall) (back : FrontReply) → hindered_by was does back ≡ false → (hinders back ≡ false) × ((was ≡ false) ⊎ ((channel : ℕ) × (place : Option ℕ) × (full : Bool) × (does ≡ call.Begin channel) × (back ≡ reply.Done place full)))
unhindered was (call.Begin channel) (reply.Done place full) is = (refl, inr (channel, place, full, refl, refl))
unhindered was does back is = let both = first_false (hinders back) was is in (both.0, inl both.1)

pub call_counted : (was : Bool) (does : FrontCall) (back : FrontReply) (ps : List FrontPart) (p q : Served) (deeds : List Deed) → CallGoes p does back ps q → IsKeyed p → IsTold p deeds → (was ≡ false → IsCounted p deeds) → hindered_by was does back ≡ false → IsCounted q (deeds_after ps deeds)
call_counted was does back ps p q deeds goes keyed told is free = elim so.1 [
  | inl before ↦ parts_counted ps p q deeds goes.goes keyed told none (is before)
  | inr begun ↦ (let (channel, place, full, same, done) = begun in begun_then channel ps p q deeds goes.goes keyed told none ((goes.tells).begun channel place full same done))
]
  where
    so : (hinders back ≡ false) × ((was ≡ false) ⊎ ((channel : ℕ) × (place : Option ℕ) × (full : Bool) × (does ≡ call.Begin channel) × (back ≡ reply.Done place full)))
    so = unhindered was does back free

    none : Among (λ x. stops x ≡ true) ps → ⊥
    none some = let loud = (goes.tells).stopped some in let quiet = so.0 in cc (loud, quiet)

-- What it tells is right.
pub call_looks : (was : Bool) (does : FrontCall) (back : FrontReply) (p : Served) (new : FrontState) (deeds : List Deed) → FrontStep p.front does back new → (does ≡ call.Look → was ≡ false) → (was ≡ false → IsCounted p deeds) → LooksAt (p.front).channel deeds does back
call_looks was call.Look (reply.Stands true asked) p new deeds step looks is =
    let said : reply.Stands true asked ≡ reply.Stands ((p.front).on && is_front_ready p.front) ((p.front).client).asked = step.0 in
    let same : asked ≡ ((p.front).client).asked = cc (said) in
    same ∙ sym (is (looks refl))
call_looks was call.Look (reply.Stands false asked) p new deeds step looks is = tt
call_looks was call.Look (reply.Done at full) p new deeds step looks is = tt
call_looks was call.Look reply.Kept p new deeds step looks is = tt
call_looks was call.Look (reply.Wrong cause) p new deeds step looks is = tt
call_looks was call.Look (reply.Duplicate key) p new deeds step looks is = tt
call_looks was call.Look reply.Unfit p new deeds step looks is = tt
call_looks was call.Look reply.Memory p new deeds step looks is = tt
call_looks was call.Look reply.Full p new deeds step looks is = tt
call_looks was call.Look reply.Refused p new deeds step looks is = tt
call_looks was call.Look (reply.Messages filled left) p new deeds step looks is = tt
call_looks was (call.Begin channel) back p new deeds step looks is = tt
call_looks was (call.Hear message) back p new deeds step looks is = tt
call_looks was call.Retry back p new deeds step looks is = tt
call_looks was (call.Next channel place room) back p new deeds step looks is = tt
call_looks was (call.Remove device) back p new deeds step looks is = tt
call_looks was (call.Add device) back p new deeds step looks is = tt
call_looks was call.EndChannel back p new deeds step looks is = tt
call_looks was call.EndSession back p new deeds step looks is = tt
