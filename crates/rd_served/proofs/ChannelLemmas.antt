-- Messages are read and written on the channel that began last.
use Rattle.std.proofs.Common.{◌≡◌, ◌∙◌, refl, sym, ap, subst, inl, inr, ℕ, Bool, true, false, List, [], ◌∷◌, ◌++◌, map, reverse, Option, Some, None, arith}
use Rattle.std.specs.Prelude.{Result, Ok, Err}
use Rattle.std.specs.declared.alloc.AllocError.{AllocError}
use Rattle.rd_base.specs.declared.journal.Item.{Item}
use Rattle.rd_base.specs.declared.journal.Key.{Key}
use Rattle.rd_client.specs.Core as client
use Rattle.rd_client.specs.Core.{ClientCoreState, Outgoing, client_hear, client_side}
use Rattle.rd_client.specs.declared.heard.Heard.{Heard}
use Rattle.rd_client.specs.declared.heard.Heard.TheVariants.{Nothing, Ask, Print}
use Rattle.rd_core.specs.Core as core
use Rattle.rd_core.specs.Hearing as hearing
use Rattle.rd_desk.specs.declared.calls.DeskCall.{DeskCall}
use Rattle.rd_desk.specs.declared.calls.DeskCall.TheVariants as desk
use Rattle.rd_desk.specs.declared.calls.DeskReply.{DeskReply}
use Rattle.rd_desk.specs.declared.calls.DeskReply.TheVariants as replied
use Rattle.rd_devices.specs.DeviceList.{list_bytes}
use Rattle.rd_devices.specs.Removal.{removal_bytes}
use Rattle.rd_front.specs.State.{FrontState, SessionStation}
use Rattle.rd_front.specs.declared.calls.FrontCall.{FrontCall}
use Rattle.rd_front.specs.declared.calls.FrontReply.{FrontReply}
use Rattle.rd_hello.specs.declared.end_fault.EndFault.{EndFault}
use Rattle.rd_hello.specs.declared.end_fault.EndFault.TheVariants as fault
use Rattle.rd_station.specs.Memory.{NamesKey}
use Rattle.rd_station.specs.Station.{held}
use Rattle.rd_station.specs.declared.answers.Completion.{Completion}
use Rattle.rd_station.proofs.Members.{has_append, to_contains}
use Rattle.rd_turn.specs.declared.object.Entry.{Entry}
use Rattle.rd_deeds.specs.Talk.{Deed, Has, stores}
use Rattle.rd_journals.specs.Reads.{IsGiven}
use Rattle.rd_journals.proofs.WritingLemmas.{AddsOwn, adds_own, hear_adds, list_own, removal_own}
use Rattle.rd_served.specs.Deeds.{AreOnChannel, EachOnChannel, PartsOnChannel, deeds_of, sent_by, stored, stored_each}
use Rattle.rd_served.specs.Histories.{HistoryGoes}
use Rattle.rd_served.specs.OnChannel.{IsServedOn}
use Rattle.rd_served.specs.Parts.{CallsAt, FrontPart, PartGoes, PartsGo, begins, calls, directs, ends, forgets, keeps, learns, misplaces, refreshes, sends, tells_gone, tells_there, tries, unwritten, writes}
use Rattle.rd_served.specs.Parts as part
use Rattle.rd_served.specs.Served.{Asking, Served, asks, hands, idle}
use Rattle.rd_served.proofs.CallLemmas.{some_held}
use Rattle.rd_served.proofs.HeldLemmas.{HeldIn, ready_held}
use Rattle.rd_served.proofs.KeyLemmas.{IsKeyed, current, has_at, middle_named, part_keyed, parts_keyed, refreshed_calm, worked}
use Rattle.rd_served.proofs.StandingLemmas.{collected_ready, direct_under, ended_outbox, refreshed_more, sent_first, sent_none}

abbrev Of : Type 0
Of = SessionStation

abbrev outbox_of : Served → List Outgoing
outbox_of p = (((p.front).client).core).outbox

-- What is to be written answers requests of the channel, and so does a completion that a desk handed out.
pub record IsHere (p : Served) : Type 0 where
  pub out : (o : Outgoing) → Has o (outbox_of p) → (key : Key) → o.answers ≡ Some key → key.channel ≡ (p.front).channel
  pub handed : (device : ℕ) (c : Completion) → p.asking ≡ hands device c → (c.key).channel ≡ (p.front).channel

-- ---- what is held came on the channel

held_here : (on : Bool) (channel asked : ℕ) (s : Of) → IsServedOn (current on channel) s → ((key : Key) → NamesKey s.journal key → IsGiven channel asked key) → (x : Key × ℕ) → HeldIn s x → (x.0).channel ≡ channel
held_here on channel asked s at given x has =
    let (last, is, same) = at.sound.remembers.channel x (to_contains (held s) x has) in
    elim (at.last last is) [ inl here ↦ same ∙ by on here (given last (at.sound.remembers.named last is)) | inr idle_so ↦ absurd (some_held s idle_so x has) ]
  where
    by : (b : Bool) {last : Key} → last.channel ≡ current b channel → IsGiven channel asked last → last.channel ≡ channel
    by true here is = here
    by false here (inl less) = absurd (omega (arith, here, less))
    by false here (inr is) = is.0

-- ---- each part

out_same : (p q : Served) → outbox_of q ≡ outbox_of p → (q.front).channel ≡ (p.front).channel → IsHere p → (o : Outgoing) → Has o (outbox_of q) → (key : Key) → o.answers ≡ Some key → key.channel ≡ (q.front).channel
out_same p q same channel is o has key answers = is.out o (subst (Has o) same has) key answers ∙ sym channel

out_own : (p q : Served) → AddsOwn (outbox_of p) (outbox_of q) → (q.front).channel ≡ (p.front).channel → IsHere p → (o : Outgoing) → Has o (outbox_of q) → (key : Key) → o.answers ≡ Some key → key.channel ≡ (q.front).channel
out_own p q (more, same, own) channel is o has key answers = elim (has_append o (outbox_of p) more (subst (Has o) same has)) [
  | inl before ↦ is.out o before key answers ∙ sym channel
  | inr later ↦ absurd (let none = (own o later).0 in cc (none, answers))
]

no_hands : (p q : Served) (a : Asking) → q.asking ≡ a → ((device : ℕ) (c : Completion) → a ≡ hands device c → ⊥) → (device : ℕ) (c : Completion) → q.asking ≡ hands device c → (c.key).channel ≡ (q.front).channel
no_hands p q a is never device c same = absurd (never device c (sym is ∙ same))

still_hands : (p q : Served) → q.asking ≡ p.asking → (q.front).channel ≡ (p.front).channel → IsHere p → (device : ℕ) (c : Completion) → q.asking ≡ hands device c → (c.key).channel ≡ (q.front).channel
still_hands p q asking channel is device c same = is.handed device c (sym asking ∙ same) ∙ sym channel

calls_here : (p q : Served) (place id : ℕ) (does : DeskCall) (back : DeskReply) (items : List Item) → CallsAt p place id does back items q → IsKeyed p → IsHere p → (device : ℕ) (c : Completion) → q.asking ≡ hands device c → (c.key).channel ≡ (q.front).channel
calls_here p q place id desk.Announce back items at keyed is device c same = still_hands p q at.asking_is (ap (λ (s : FrontState). s.channel) at.front_is) is device c same
calls_here p q place id desk.Remove back items at keyed is device c same = still_hands p q at.asking_is (ap (λ (s : FrontState). s.channel) at.front_is) is device c same
calls_here p q place id desk.Collect (replied.Collected None) items at keyed is device c same = still_hands p q at.asking_is (ap (λ (s : FrontState). s.channel) at.front_is) is device c same
calls_here p q place id desk.Collect (replied.Collected (Some x)) items at keyed is device c same =
    let both : hands id x ≡ hands device c = sym (at.asking_is).1 ∙ same in
    let equal : x ≡ c = cc (both) in
    let middle : Of = (at.called).middle in
    let work = worked p q place id desk.Collect (replied.Collected (Some x)) items keyed at in
    let ready = collected_ready middle (((at.called).step).0).0 x (((at.called).step).0).1 in
    let here = held_here (p.front).on (p.front).channel ((p.front).client).asked middle work.on
    (λ key names. keyed.named at.first (has_at p.stations place at.first at.has) key (middle_named p q place id desk.Collect (replied.Collected (Some x)) items keyed at key names)) (x.key, x.completion) (ready_held middle x ready.0) in
    ap (λ (y : Completion). (y.key).channel) (sym equal) ∙ here ∙ sym (ap (λ (s : FrontState). s.channel) at.front_is)
calls_here p q place id desk.Collect (replied.Announced answer) items at keyed is device c same = absurd ((at.called).step).1
calls_here p q place id desk.Collect (replied.Put answer) items at keyed is device c same = absurd ((at.called).step).1
calls_here p q place id desk.Collect (replied.Unfit job) items at keyed is device c same = absurd ((at.called).step).1
calls_here p q place id desk.Collect (replied.Worked w) items at keyed is device c same = absurd ((at.called).step).1
calls_here p q place id desk.Collect (replied.Removed answer) items at keyed is device c same = absurd ((at.called).step).1
calls_here p q place id desk.Collect replied.Dropped items at keyed is device c same = absurd ((at.called).step).1
calls_here p q place id desk.Collect replied.Ended items at keyed is device c same = absurd ((at.called).step).1
calls_here p q place id (desk.Put job) (replied.Put (Ok done)) items at keyed is device c same = absurd (let e = (at.asking_is).1 in cc (e, same))
calls_here p q place id (desk.Put job) (replied.Put (Err refusal)) items at keyed is device c same = absurd (let e = (at.asking_is).1 in cc (e, same))
calls_here p q place id (desk.Put job) (replied.Unfit back) items at keyed is device c same = absurd (let e = (at.asking_is).1 in cc (e, same))
calls_here p q place id (desk.Put job) (replied.Announced answer) items at keyed is device c same = absurd (at.asking_is).1
calls_here p q place id (desk.Put job) (replied.Worked w) items at keyed is device c same = absurd (at.asking_is).1
calls_here p q place id (desk.Put job) (replied.Collected answer) items at keyed is device c same = absurd (at.asking_is).1
calls_here p q place id (desk.Put job) (replied.Removed answer) items at keyed is device c same = absurd (at.asking_is).1
calls_here p q place id (desk.Put job) replied.Dropped items at keyed is device c same = absurd (at.asking_is).1
calls_here p q place id (desk.Put job) replied.Ended items at keyed is device c same = absurd (at.asking_is).1
calls_here p q place id (desk.Work runs) back items at keyed is device c same = absurd at.own
calls_here p q place id desk.DropChannel back items at keyed is device c same = absurd at.own
calls_here p q place id desk.End back items at keyed is device c same = absurd at.own

hears_here : (p q : Served) (channel : ℕ) (m : List ℕ) (answer : Result Heard EndFault) → PartGoes p (part.hears channel m answer) q → IsHere p → IsHere q
hears_here p q channel m answer goes is = record { out = by answer ((goes.3).0).1; handed = no_hands p q (part.asking_by answer) goes.4 (never answer) }
  where
    same_channel : (q.front).channel ≡ (p.front).channel
    same_channel = ap (λ (s : FrontState). s.channel) (goes.3).1

    never : (a : Result Heard EndFault) (device : ℕ) (c : Completion) → part.asking_by a ≡ hands device c → ⊥
    never (Ok (Ask d job)) device c e = cc (e)
    never (Ok Nothing) device c e = cc (e)
    never (Ok (Print n)) device c e = cc (e)
    never (Err cause) device c e = cc (e)

    heard : (a : Result Heard EndFault) → client_hear (p.front).client m ≡ ((q.front).client, a) → (o : Outgoing) → Has o (outbox_of q) → (key : Key) → o.answers ≡ Some key → key.channel ≡ (q.front).channel
    heard a e = out_own p q (subst (λ (r : ClientCoreState × Result Heard EndFault). AddsOwn (outbox_of p) ((r.0).core).outbox) e (hear_adds (p.front).client m)) same_channel is

    by : (a : Result Heard EndFault) → hearing.Hears client_side (λ (c : ClientCoreState). c.core) client_hear (p.front).client m a (q.front).client → (o : Outgoing) → Has o (outbox_of q) → (key : Key) → o.answers ≡ Some key → key.channel ≡ (q.front).channel
    by (Err fault.Memory) did = out_same p q (ap (λ (c : ClientCoreState). (c.core).outbox) did.1) same_channel is
    by (Err (fault.Order state packet)) did = heard (Err (fault.Order state packet)) did
    by (Err (fault.Grammar bad)) did = heard (Err (fault.Grammar bad)) did
    by (Ok h) did = heard (Ok h) did

-- the front of a client that did something
client_channel : (s t : FrontState) (unsent : ℕ) → t ≡ record s { client = t.client; unsent = unsent } → t.channel ≡ s.channel
client_channel s t unsent is = ap (λ (x : FrontState). x.channel) is

light_here : (p q : Served) (a : Asking) → IsHere p → outbox_of q ≡ outbox_of p → (q.front).channel ≡ (p.front).channel → q.asking ≡ a → ((device : ℕ) (c : Completion) → a ≡ hands device c → ⊥) → IsHere q
light_here p q a is same channel asking never = record { out = out_same p q same channel is; handed = no_hands p q a asking never }

idle_never : (device : ℕ) (c : Completion) → idle ≡ hands device c → ⊥
idle_never device c e = cc (e)

told_here : (p q : Served) (answer : Result (Unit {0}) AllocError) (done : ClientCoreState) (m : List ℕ) (unsent : ℕ) → core.Did answer done (p.front).client (q.front).client → AddsOwn (outbox_of p) (done.core).outbox → q.front ≡ record p.front { client = (q.front).client; unsent = unsent } → q.asking ≡ p.asking → IsHere p → IsHere q
told_here p q answer done m unsent did own front asking is = record { out = by answer did; handed = still_hands p q asking (client_channel p.front q.front unsent front) is }
  where
    by : (a : Result (Unit {0}) AllocError) → core.Did a done (p.front).client (q.front).client → (o : Outgoing) → Has o (outbox_of q) → (key : Key) → o.answers ≡ Some key → key.channel ≡ (q.front).channel
    by (Ok fine) e = out_own p q (subst (λ (c : ClientCoreState). AddsOwn (outbox_of p) (c.core).outbox) (sym e) own) (client_channel p.front q.front unsent front) is
    by (Err error) e = out_same p q (ap (λ (c : ClientCoreState). (c.core).outbox) e) (client_channel p.front q.front unsent front) is

part_here : (p q : Served) (x : FrontPart) → PartGoes p x q → IsKeyed p → IsHere p → IsHere q
part_here p q (part.hears channel m answer) goes keyed is = hears_here p q channel m answer goes is
part_here p q tries goes keyed is = light_here p q (asks goes.0) is (ap outbox_of goes.4) (ap (λ (s : Served). (s.front).channel) goes.4) (ap (λ (s : Served). s.asking) goes.4) (λ d c e. cc (e))
part_here p q keeps goes keyed is = light_here p q idle is (ap outbox_of goes.3) (ap (λ (s : Served). (s.front).channel) goes.3) (ap (λ (s : Served). s.asking) goes.3) idle_never
part_here p q forgets goes keyed is = light_here p q idle is (ap outbox_of goes.4) (ap (λ (s : Served). (s.front).channel) goes.4) (ap (λ (s : Served). s.asking) goes.4) idle_never
part_here p q misplaces goes keyed is = light_here p q idle is (ap outbox_of goes.3) (ap (λ (s : Served). (s.front).channel) goes.3) (ap (λ (s : Served). s.asking) goes.3) idle_never
part_here p q (writes device c) goes keyed is = light_here p q idle is (ap outbox_of goes.1) (ap (λ (s : Served). (s.front).channel) goes.1) (ap (λ (s : Served). s.asking) goes.1) idle_never
part_here p q (unwritten device c) goes keyed is = light_here p q idle is (ap outbox_of goes.1) (ap (λ (s : Served). (s.front).channel) goes.1) (ap (λ (s : Served). s.asking) goes.1) idle_never
part_here p q (directs st answer) goes keyed is = record { out = by answer ((goes.2).0).1; handed = no_hands p q idle goes.3 idle_never }
  where
    same_channel : (q.front).channel ≡ (p.front).channel
    same_channel = ap (λ (s : FrontState). s.channel) (goes.2).1

    by : (a : Result (Unit {0}) AllocError) → core.Did a (client.direct (p.front).client (goes.0).job (goes.0).device st) (p.front).client (q.front).client → (o : Outgoing) → Has o (outbox_of q) → (key : Key) → o.answers ≡ Some key → key.channel ≡ (q.front).channel
    by (Err error) e = out_same p q (ap (λ (c : ClientCoreState). (c.core).outbox) e) same_channel is
    by (Ok fine) e = λ o has key answers.
        elim (has_append o (outbox_of p) (record { message = client.direct_bytes (goes.0).job (goes.0).device st; answers = Some (goes.0).job.key } ∷ []) (subst (Has o) (ap (λ (c : ClientCoreState). (c.core).outbox) e) has)) [
          | inl before ↦ is.out o before key answers ∙ sym same_channel
          | inr last ↦ elim last [
            | inl same ↦
                let both : Some (goes.0).job.key ≡ Some key = sym (ap (λ (x : Outgoing). x.answers) same) ∙ answers in
                let equal : (goes.0).job.key ≡ key = cc (both) in
                ap (λ (k : Key). k.channel) (sym equal) ∙ (keyed.asking goes.0 (direct_under p goes.0 st goes.1)).channel ∙ sym same_channel
            | inr none ↦ absurd none
          ]
        ]
part_here p q (calls place id does back items) goes keyed is =
    record { out = out_same p q (ap (λ (s : FrontState). ((s.client).core).outbox) goes.front_is) (ap (λ (s : FrontState). s.channel) goes.front_is) is; handed = calls_here p q place id does back items goes keyed is }
part_here p q (tells_gone device answer) goes keyed is = told_here p q answer (client.tell_removed (p.front).client device) [] _ ((goes.0).0).1 (adds_own (outbox_of p) (removal_bytes (device ∷ [])) (removal_own (device ∷ []))) (goes.0).1 goes.1 is
part_here p q (tells_there device answer) goes keyed is =
    told_here p q answer (client.tell_added (p.front).client device) [] _ ((goes.0).0).1 (adds_own (outbox_of p) (list_bytes (client.listed_one (p.front).client device)) (list_own (client.listed_one (p.front).client device))) (goes.0).1 goes.1 is
part_here p q (sends channel None) goes keyed is =
    let same_channel = ap (λ (s : FrontState). s.channel) (goes.1).1 in
    record { out = out_same p q (sent_none (p.front).client (q.front).client (goes.1).0) same_channel is; handed = still_hands p q goes.2 same_channel is }
part_here p q (sends channel (Some o)) goes keyed is =
    let same_channel = ap (λ (s : FrontState). s.channel) (goes.1).1 in
    let (others, first, then) = sent_first (p.front).client (q.front).client o (goes.1).0 in
    record { out = λ x has key answers. is.out x (subst (Has x) (sym first) (inr (subst (Has x) then has))) key answers ∙ sym same_channel; handed = still_hands p q goes.2 same_channel is }
part_here p q (learns n answer) goes keyed is =
    record { out = out_same p q (ap outbox_of goes.1) (ap (λ (s : Served). (s.front).channel) goes.1) is; handed = still_hands p q (ap (λ (s : Served). s.asking) goes.1) (ap (λ (s : Served). (s.front).channel) goes.1) is }
part_here p q (refreshes device) goes keyed is =
    let more = refreshed_more p.front device in
    let calm = refreshed_calm p.front device in
    let same_channel : (q.front).channel ≡ (p.front).channel = ap (λ (s : Served). (s.front).channel) goes ∙ calm.0.channel in
    record { out = out_same p q (ap outbox_of goes ∙ ap (λ c. c.outbox) more.1) same_channel is; handed = still_hands p q (ap (λ (s : Served). s.asking) goes) same_channel is }
part_here p q (begins channel) goes keyed is = record {
  out = λ o has. absurd (subst (Has o) (ap outbox_of goes.3) has);
  handed = no_hands p q idle (ap (λ (s : Served). s.asking) goes.3 ∙ goes.0) idle_never;
}
part_here p q (ends over told) goes keyed is = record {
  out = λ o has. absurd (subst (Has o) (ap (λ (s : FrontState). ((s.client).core).outbox) goes.2 ∙ ended_outbox over p.front (q.front).desks) has);
  handed = no_hands p q idle goes.3 idle_never;
}

-- ---- what is read and written

stored_on : (c device : ℕ) (items : List Item) → AreOnChannel c (map (stores device) items)
stored_on c device [] = tt
stored_on c device (x ∷ items) = (tt, stored_on c device items)

both_on : (c : ℕ) (xs ys : List Deed) → AreOnChannel c xs → AreOnChannel c ys → AreOnChannel c (xs ++ ys)
both_on c [] ys first second = second
both_on c (x ∷ xs) ys first second = (first.0, both_on c xs ys first.1 second)

each_on : (c : ℕ) (told : List (ℕ × List Item)) → AreOnChannel c (stored_each told)
each_on c [] = tt
each_on c (t ∷ told) = both_on c (stored_each told) (stored t.0 t.1) (each_on c told) (stored_on c t.0 (reverse t.1))

part_on : (p q : Served) (x : FrontPart) → PartGoes p x q → IsHere p → AreOnChannel (p.front).channel (deeds_of x)
part_on p q (part.hears channel m (Err fault.Memory)) goes is = tt
part_on p q (part.hears channel m (Err (fault.Order state packet))) goes is = (goes.0, tt)
part_on p q (part.hears channel m (Err (fault.Grammar bad))) goes is = (goes.0, tt)
part_on p q (part.hears channel m (Ok h)) goes is = (goes.0, tt)
part_on p q tries goes is = tt
part_on p q keeps goes is = tt
part_on p q forgets goes is = tt
part_on p q misplaces goes is = tt
part_on p q (directs st answer) goes is = tt
part_on p q (calls place id does back items) goes is = stored_on (p.front).channel id (reverse items)
part_on p q (tells_gone device (Ok done)) goes is = (tt, tt)
part_on p q (tells_gone device (Err error)) goes is = tt
part_on p q (tells_there device (Ok done)) goes is = (tt, tt)
part_on p q (tells_there device (Err error)) goes is = tt
part_on p q (sends channel None) goes is = tt
part_on p q (sends channel (Some o)) goes is =
    let (others, first, then) = sent_first (p.front).client (q.front).client o (goes.1).0 in
    by o.answers refl (subst (Has o) (sym first) (inl refl))
  where
    by : (answers : Option Key) → o.answers ≡ answers → Has o (outbox_of p) → AreOnChannel (p.front).channel (sent_by channel o.message answers)
    by None same has = (goes.0, tt)
    by (Some key) same has = (is.out o has key same, tt)
part_on p q (writes device c) goes is = (is.handed device c goes.0, tt)
part_on p q (unwritten device c) goes is = tt
part_on p q (learns n answer) goes is = tt
part_on p q (refreshes device) goes is = tt
part_on p q (begins channel) goes is = tt
part_on p q (ends over told) goes is = each_on (p.front).channel told

parts_on : (ps : List FrontPart) (p q : Served) (goes : PartsGo p ps q) → IsKeyed p → IsHere p → PartsOnChannel p ps q goes
parts_on [] p q goes keyed is = tt
parts_on (x ∷ ps) p q goes keyed is = (part_on p goes.0 x goes.1 is, parts_on ps goes.0 q goes.2 (part_keyed p goes.0 x goes.1 keyed) (part_here p goes.0 x goes.1 keyed is))

parts_here : (ps : List FrontPart) (p q : Served) → PartsGo p ps q → IsKeyed p → IsHere p → IsHere q
parts_here [] p q same keyed is = subst IsHere (sym same) is
parts_here (x ∷ ps) p q goes keyed is = parts_here ps goes.0 q goes.2 (part_keyed p goes.0 x goes.1 keyed) (part_here p goes.0 x goes.1 keyed is)

pub history_on : (entries : List (Entry FrontCall FrontReply)) (parts : List (List FrontPart)) (p q : Served) (goes : HistoryGoes p entries parts q) → IsKeyed p → IsHere p → EachOnChannel p entries parts q goes
history_on [] [] p q goes keyed is = tt
history_on [] (ps ∷ parts) p q goes keyed is = absurd goes
history_on (e ∷ entries) [] p q goes keyed is = absurd goes
history_on (e ∷ entries) (ps ∷ parts) p q goes keyed is = (
  parts_on ps p goes.0 (goes.1).goes keyed is,
  history_on entries parts goes.0 q goes.2 (parts_keyed ps p goes.0 (goes.1).goes keyed) (parts_here ps p goes.0 (goes.1).goes keyed is),
)

pub begins_here : (p : Served) → outbox_of p ≡ [] → p.asking ≡ idle → IsHere p
begins_here p empty none = record { out = λ o has. absurd (subst (Has o) empty has); handed = no_hands p p idle none idle_never }
