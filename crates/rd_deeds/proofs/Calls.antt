-- What a host does is a history of its table.
use Rattle.std.proofs.Common.{◌≡◌, ◌∙◌, refl, sym, ap, subst, ℕ, ◌≤◌, ◌==◌, Bool, true, false, cond, List, [], ◌∷◌, ◌++◌, Some, None, Option, append_assoc, append-nil}
use Rattle.std.specs.Prelude.{fold, is_ok, Result, Ok, Err}
use Rattle.rd_devices.specs.declared.list.Announce.{Announce}
use Rattle.rd_hello.specs.declared.end_fault.EndFault.{EndFault}
use Rattle.rd_host.specs.Core.{HostCoreState, host_hear}
use Rattle.rd_host.specs.Served.{is_served_type}
use Rattle.rd_host.specs.declared.act.Act.{Act}
use Rattle.rd_host.specs.declared.act.Act.TheVariants as act
use Rattle.rd_irp.specs.declared.completion.Head.{Head}
use Rattle.rd_pending.specs.declared.calls.CompleteNo.{CompleteNo}
use Rattle.rd_pending.specs.declared.calls.Completed.{Completed}
use Rattle.rd_pending.specs.declared.calls.LiveNo.{LiveNo}
use Rattle.rd_pending.specs.History as call
use Rattle.rd_pending.specs.History.{Call, Holds, accepted_in, after, heard_by, heard_on, is_open_on}
use Rattle.rd_pending.specs.Outcomes.{Tidings}
use Rattle.rd_pending.specs.Table as table
use Rattle.rd_pending.specs.Table.{TableState, live_refusal}
use Rattle.rd_pending.proofs.Effects as effects
use Rattle.rd_pending.proofs.Neutral.{AreNeutral, channel_all, heard_all, heard_more, neutral_more}
use Rattle.rd_pending.proofs.Tame.{AreTame, Tame, tame_all, tame_more}
use Rattle.rd_deeds.specs.Host.{HostSide, admits, forgets, hears, side_sends}
use Rattle.rd_deeds.specs.HostDeeds.{MayDo, admitted_by, admitting, admitting_one, calls_by, calls_in, calls_of, completing, lives_by, removal_calls, sending, side_of}
use Rattle.rd_deeds.specs.Joining.{accepted}
use Rattle.rd_deeds.specs.Talk.{Deed, EachAfter, adds, client_reads, client_writes, completes, host_begins, host_ends, host_reads, host_writes, removes, stores, submits, takes, tells}

-- ---- the table after them

pub admits_table : (s : HostSide) (a : Announce) → (admits s a).table ≡ admitted_by s.table a
admits_table s a = go (is_served_type a.kind) refl (live_refusal s.table a.id) refl
  where
    go : (b : Bool) → is_served_type a.kind ≡ b → (o : Option LiveNo) → live_refusal s.table a.id ≡ o → (admits s a).table ≡ admitted_by s.table a
    go false e o e2 = rw e refl
    go true e None e2 = rw (e, e2) refl
    go true e (Some cause) e2 = rw (e, e2) refl

admitted_one : (t : TableState) (a : Announce) (h : List Call) → after h ≡ t → after (admitting_one t a ++ h) ≡ admitted_by t a
admitted_one t a h e = go (is_served_type a.kind) (live_refusal t a.id) refl
  where
    go : (b : Bool) (o : Option LiveNo) → live_refusal t a.id ≡ o → after (cond b (lives_by (live_refusal t a.id) a.id) [] ++ h) ≡ cond b (table.live t a.id).0 t
    go false o e2 = e
    go true None e2 = rw e2 (ap (λ (x : TableState). (table.live x a.id).0) e ∙ rw e2 refl)
    go true (Some cause) e2 = rw e2 e

admitted_all : (s : HostSide) (t : TableState) (devices : List Announce) (h : List Call) → s.table ≡ t → after h ≡ t → after (admitting t devices ++ h) ≡ (fold admits s devices).table
admitted_all s t [] h same e = e ∙ sym same
admitted_all s t (a ∷ devices) h same e =
    ap after (append_assoc (admitting (admitted_by t a) devices) (admitting_one t a) h)
    ∙ admitted_all (admits s a) (admitted_by t a) devices (admitting_one t a ++ h) (admits_table s a ∙ ap (λ (x : TableState). admitted_by x a) same) (admitted_one t a h e)

forgot_all : (s : HostSide) (ids : List ℕ) (h : List Call) → after h ≡ s.table → after (removal_calls ids ++ h) ≡ (fold forgets s ids).table
forgot_all s [] h e = e
forgot_all s (id ∷ ids) h e =
    ap after (append_assoc (removal_calls ids) (call.removes id ∷ []) h)
    ∙ forgot_all (forgets s id) ids (call.removes id ∷ h) (ap (λ (t : TableState). (table.remove t id).0) e)

completed_one : (t : TableState) (head : Head) (bytes : List ℕ) (h : List Call) → after h ≡ t
    → after (completing (table.complete t head bytes).1 head bytes ++ h) ≡ (table.complete t head bytes).0
completed_one t head bytes h e = go (table.complete t head bytes).1 refl
  where
    go : (r : Result Completed CompleteNo) → (table.complete t head bytes).1 ≡ r → after (completing r head bytes ++ h) ≡ (table.complete t head bytes).0
    go (Ok gave) e2 = ap (λ (x : TableState). (table.complete x head bytes).0) e
    go (Err cause) e2 = e ∙ sym (effects.refused t head bytes cause e2)

heard_table : (s : HostSide) (message : List ℕ) (h : List Call) → after h ≡ s.table → after (calls_in s.table (host_hear s.core message).1 ++ h) ≡ (hears s message).table
heard_table s message h e = go (host_hear s.core message) refl
  where
    go : (r : HostCoreState × Result Act EndFault) → host_hear s.core message ≡ r → after (calls_in s.table (host_hear s.core message).1 ++ h) ≡ (hears s message).table
    go (c, Err fault) e2 = rw e2 e
    go (c, Ok act.Nothing) e2 = rw e2 e
    go (c, Ok (act.Announced devices)) e2 = rw e2 (admitted_all (record s { core = c }) s.table devices h refl e)
    go (c, Ok (act.Removed ids)) e2 = rw e2 (forgot_all (record s { core = c }) ids h e)
    go (c, Ok (act.Complete head bytes)) e2 = rw e2 (completed_one s.table head bytes h e)

sent_table : (s : HostSide) (h : List Call) → after h ≡ s.table → after (sending ((s.core).core).outbox ++ h) ≡ (side_sends s).table
sent_table s h e = go ((s.core).core).outbox refl
  where
    go : (o : List (List ℕ)) → ((s.core).core).outbox ≡ o → after (sending ((s.core).core).outbox ++ h) ≡ (side_sends s).table
    go [] e2 = rw e2 (ap (λ (t : TableState). (table.send t).0) e)
    go (message ∷ others) e2 = rw e2 e

-- the calls of what a host did lead to its table
pub table_of : (client : ℕ) (deeds : List Deed) → after (calls_of client deeds) ≡ (side_of client deeds).table
table_of client [] = refl
table_of client (host_begins channel ∷ before) = ap (λ (t : TableState). (table.begin t channel).0) (table_of client before)
table_of client (host_ends channel ∷ before) = ap table.drop_channel (table_of client before)
table_of client (removes device ∷ before) = table_of client before
table_of client (adds device ∷ before) = table_of client before
table_of client (submits application named o ∷ before) = ap (λ (t : TableState). (table.submit t application named o).0) (table_of client before)
table_of client (takes number ∷ before) = ap (λ (t : TableState). (table.take t number).0) (table_of client before)
table_of client (tells n ∷ before) = table_of client before
table_of client (host_writes channel message ∷ before) = sent_table (side_of client before) (calls_of client before) (table_of client before)
table_of client (host_reads channel message ∷ before) = heard_table (side_of client before) message (calls_of client before) (table_of client before)
table_of client (client_reads channel message ∷ before) = table_of client before
table_of client (client_writes channel message ∷ before) = table_of client before
table_of client (completes key message ∷ before) = table_of client before
table_of client (stores device item ∷ before) = table_of client before

-- ---- they do something

holds_one : (t : TableState) (a : Announce) (h : List Call) → after h ≡ t → Holds h → Holds (admitting_one t a ++ h)
holds_one t a h e holds = go (is_served_type a.kind) (live_refusal t a.id) refl
  where
    go : (b : Bool) (o : Option LiveNo) → live_refusal t a.id ≡ o → Holds (cond b (lives_by (live_refusal t a.id) a.id) [] ++ h)
    go false o e2 = holds
    go true None e2 = rw e2 (ap (λ (x : TableState). live_refusal x a.id) e ∙ e2, holds)
    go true (Some cause) e2 = rw e2 holds

holds_admitting : (t : TableState) (devices : List Announce) (h : List Call) → after h ≡ t → Holds h → Holds (admitting t devices ++ h)
holds_admitting t [] h e holds = holds
holds_admitting t (a ∷ devices) h e holds =
    subst Holds (sym (append_assoc (admitting (admitted_by t a) devices) (admitting_one t a) h))
    (holds_admitting (admitted_by t a) devices (admitting_one t a ++ h) (admitted_one t a h e) (holds_one t a h e holds))

holds_forgetting : (c : ℕ) (ids : List ℕ) (h : List Call) → (after h).channel ≡ Some c → Holds h → Holds (removal_calls ids ++ h)
holds_forgetting c [] h is holds = holds
holds_forgetting c (id ∷ ids) h is holds =
    subst Holds (sym (append_assoc (removal_calls ids) (call.removes id ∷ []) h))
    (holds_forgetting c ids (call.removes id ∷ h) (channel_all (call.removes id ∷ []) h (tt, tt) ∙ is) ((c, is), holds))

holds_completing : (c : ℕ) (t : TableState) (head : Head) (bytes : List ℕ) (h : List Call) → after h ≡ t → t.channel ≡ Some c → Holds h
    → Holds (completing (table.complete t head bytes).1 head bytes ++ h)
holds_completing c t head bytes h e is holds = go (table.complete t head bytes).1 refl
  where
    go : (r : Result Completed CompleteNo) → (table.complete t head bytes).1 ≡ r → Holds (completing r head bytes ++ h)
    go (Ok gave) e2 = ((c, ap (λ (x : TableState). x.channel) e ∙ is, ap (λ (x : TableState). is_ok (table.complete x head bytes).1) e ∙ ap is_ok e2), holds)
    go (Err cause) e2 = holds

holds_reading : (c : ℕ) (t : TableState) (r : Result Act EndFault) (h : List Call) → after h ≡ t → t.channel ≡ Some c → Holds h → Holds (calls_in t r ++ h)
holds_reading c t (Err fault) h e is holds = holds
holds_reading c t (Ok act.Nothing) h e is holds = holds
holds_reading c t (Ok (act.Announced devices)) h e is holds = holds_admitting t devices h e holds
holds_reading c t (Ok (act.Removed ids)) h e is holds = holds_forgetting c ids h (ap (λ (x : TableState). x.channel) e ∙ is) holds
holds_reading c t (Ok (act.Complete head bytes)) h e is holds = holds_completing c t head bytes h e is holds

holds_sending : (o : List (List ℕ)) (h : List Call) → Holds h → Holds (sending o ++ h)
holds_sending [] h holds = (tt, holds)
holds_sending (message ∷ others) h holds = holds

abbrev pub Does : ℕ → List Deed → Type 0
Does client deeds = EachAfter (λ before deed. MayDo (side_of client before) deed) deeds

pub calls_hold : (client : ℕ) (deeds : List Deed) → Does client deeds → Holds (calls_of client deeds)
calls_hold client [] may = tt
calls_hold client (host_begins channel ∷ before) may =
    let t = table_of client before in
    ((ap (λ (x : TableState). x.channel) t ∙ may.0.0, subst (λ (x : TableState). x.below ≤ channel) (sym t) may.0.1), calls_hold client before may.1)
calls_hold client (host_ends channel ∷ before) may = ((channel, ap (λ (x : TableState). x.channel) (table_of client before) ∙ may.0), calls_hold client before may.1)
calls_hold client (removes device ∷ before) may = calls_hold client before may.1
calls_hold client (adds device ∷ before) may = calls_hold client before may.1
calls_hold client (submits application named o ∷ before) may =
    ((may.0.0, ap (λ (x : TableState). table.submit_refusal x named) (table_of client before) ∙ may.0.2), calls_hold client before may.1)
calls_hold client (takes number ∷ before) may = (ap (λ (x : TableState). is_ok (table.take x number).1) (table_of client before) ∙ may.0, calls_hold client before may.1)
calls_hold client (tells n ∷ before) may = calls_hold client before may.1
calls_hold client (host_writes channel message ∷ before) may = holds_sending (((side_of client before).core).core).outbox (calls_of client before) (calls_hold client before may.1)
calls_hold client (host_reads channel message ∷ before) may =
    holds_reading channel (side_of client before).table (host_hear (side_of client before).core message).1 (calls_of client before) (table_of client before) may.0 (calls_hold client before may.1)
calls_hold client (client_reads channel message ∷ before) may = calls_hold client before may.1
calls_hold client (client_writes channel message ∷ before) may = calls_hold client before may.1
calls_hold client (completes key message ∷ before) may = calls_hold client before may.1
calls_hold client (stores device item ∷ before) may = calls_hold client before may.1

-- ---- what is heard by them

neutral_one : (t : TableState) (a : Announce) → AreNeutral (admitting_one t a)
neutral_one t a = go (is_served_type a.kind) (live_refusal t a.id)
  where
    go : (b : Bool) (o : Option LiveNo) → AreNeutral (cond b (lives_by o a.id) [])
    go false o = tt
    go true None = (tt, tt)
    go true (Some cause) = tt

neutral_admitting : (t : TableState) (devices : List Announce) → AreNeutral (admitting t devices)
neutral_admitting t [] = tt
neutral_admitting t (a ∷ devices) = neutral_more (admitting (admitted_by t a) devices) (admitting_one t a) (neutral_admitting (admitted_by t a) devices) (neutral_one t a)

neutral_forgetting : (ids : List ℕ) → AreNeutral (removal_calls ids)
neutral_forgetting [] = tt
neutral_forgetting (id ∷ ids) = neutral_more (removal_calls ids) (call.removes id ∷ []) (neutral_forgetting ids) (tt, tt)

pub neutral_reading : (t : TableState) (r : Result Act EndFault) → AreNeutral (calls_in t r)
neutral_reading t (Err fault) = tt
neutral_reading t (Ok act.Nothing) = tt
neutral_reading t (Ok (act.Announced devices)) = neutral_admitting t devices
neutral_reading t (Ok (act.Removed ids)) = neutral_forgetting ids
neutral_reading t (Ok (act.Complete head bytes)) = go (table.complete t head bytes).1
  where
    go : (r : Result Completed CompleteNo) → AreNeutral (completing r head bytes)
    go (Ok gave) = (tt, tt)
    go (Err cause) = tt

-- ---- what is heard by them

-- what was heard and taken by a message
abbrev pub taken : HostSide → List ℕ → List Tidings
taken s message = heard_all (calls_in s.table (host_hear s.core message).1)

-- what is heard by a deed on a channel
abbrev pub heard_by_deed : ℕ → ℕ → List Deed → Deed → List Tidings
heard_by_deed client c before (host_reads channel message) = cond (channel == c) (taken (side_of client before) message) []
heard_by_deed client c before _ = []

heard_no_more : (c : ℕ) (x : Call) (h : List Call) → heard_by x ≡ [] → heard_on c (x ∷ h) ≡ heard_on c h ++ []
heard_no_more c x h none = rw none (go (is_open_on (after h) c))
  where
    go : (b : Bool) → heard_on c h ++ cond b [] [] ≡ heard_on c h ++ []
    go true = refl
    go false = refl

pub heard_step : (client c : ℕ) (before : List Deed) (deed : Deed) → Does client (deed ∷ before) → heard_on c (calls_of client (deed ∷ before)) ≡ heard_on c (calls_of client before) ++ heard_by_deed client c before deed
heard_step client c before (host_reads channel message) may =
    heard_more c (calls_in s.table (host_hear s.core message).1) (calls_of client before) (neutral_reading s.table (host_hear s.core message).1)
    ∙ ap (λ (b : Bool). heard_on c (calls_of client before) ++ cond b (taken s message) []) opened
  where
    s : HostSide
    s = side_of client before

    opened : is_open_on (after (calls_of client before)) c ≡ (channel == c)
    opened = ap (λ (t : TableState). is_open_on t c) (table_of client before) ∙ rw (may.0) refl
heard_step client c before (host_writes channel message) may = go (((side_of client before).core).core).outbox
  where
    go : (o : List (List ℕ)) → heard_on c (sending o ++ calls_of client before) ≡ heard_on c (calls_of client before) ++ []
    go [] = heard_no_more c call.sends (calls_of client before) refl
    go (m ∷ ms) = sym (append-nil (heard_on c (calls_of client before)))
heard_step client c before (host_begins channel) may = heard_no_more c (call.begins channel) (calls_of client before) refl
heard_step client c before (host_ends channel) may = heard_no_more c call.drops (calls_of client before) refl
heard_step client c before (submits application named o) may = heard_no_more c (call.submits application named o) (calls_of client before) refl
heard_step client c before (takes number) may = heard_no_more c (call.takes number) (calls_of client before) refl
heard_step client c before (removes device) may = sym (append-nil (heard_on c (calls_of client before)))
heard_step client c before (adds device) may = sym (append-nil (heard_on c (calls_of client before)))
heard_step client c before (tells n) may = sym (append-nil (heard_on c (calls_of client before)))
heard_step client c before (client_reads channel message) may = sym (append-nil (heard_on c (calls_of client before)))
heard_step client c before (client_writes channel message) may = sym (append-nil (heard_on c (calls_of client before)))
heard_step client c before (completes key message) may = sym (append-nil (heard_on c (calls_of client before)))
heard_step client c before (stores device item) may = sym (append-nil (heard_on c (calls_of client before)))

-- ---- what is accepted by them

-- the calls since a point
pub calls_since : (client : ℕ) (late early : List Deed) → (later : List Call) × (calls_of client (late ++ early) ≡ later ++ calls_of client early)
calls_since client [] early = ([], refl)
calls_since client (deed ∷ late) early =
    let (later, e) = calls_since client late early in
    let own = calls_by (side_of client (late ++ early)) deed in
    (own ++ later, ap (λ (xs : List Call). own ++ xs) e ∙ sym (append_assoc own later (calls_of client early)))

tame_admitting : (t : TableState) (devices : List Announce) → AreTame (admitting t devices)
tame_admitting t [] = tt
tame_admitting t (a ∷ devices) = tame_more (admitting (admitted_by t a) devices) (admitting_one t a) (tame_admitting (admitted_by t a) devices) (one (is_served_type a.kind) (live_refusal t a.id))
  where
    one : (b : Bool) (o : Option LiveNo) → AreTame (cond b (lives_by o a.id) [])
    one false o = tt
    one true None = (tt, tt)
    one true (Some cause) = tt

tame_forgetting : (ids : List ℕ) → AreTame (removal_calls ids)
tame_forgetting [] = tt
tame_forgetting (id ∷ ids) = tame_more (removal_calls ids) (call.removes id ∷ []) (tame_forgetting ids) (tt, tt)

tame_reading : (t : TableState) (r : Result Act EndFault) → AreTame (calls_in t r)
tame_reading t (Err fault) = tt
tame_reading t (Ok act.Nothing) = tt
tame_reading t (Ok (act.Announced devices)) = tame_admitting t devices
tame_reading t (Ok (act.Removed ids)) = tame_forgetting ids
tame_reading t (Ok (act.Complete head bytes)) = go (table.complete t head bytes).1
  where
    go : (r : Result Completed CompleteNo) → AreTame (completing r head bytes)
    go (Ok gave) = (tt, tt)
    go (Err cause) = tt

-- what the host reads accepts nothing and sends nothing
pub read_tame : (client c : ℕ) (m : List ℕ) (before : List Deed) → Tame (side_of client before).table (hears (side_of client before) m).table
    × (accepted client (host_reads c m ∷ before) ≡ accepted client before)
read_tame client c m before =
    let s = side_of client before in
    let both = tame_all (calls_in s.table (host_hear s.core m).1) (calls_of client before) (tame_reading s.table (host_hear s.core m).1) in
    (subst (λ (t : TableState). Tame t (hears s m).table) (table_of client before) (subst (λ (t : TableState). Tame (after (calls_of client before)) t) (table_of client (host_reads c m ∷ before)) both.0), both.1)

-- nor does a message that it writes
pub sent_same : (o : List (List ℕ)) (h : List Call) → accepted_in (sending o ++ h) ≡ accepted_in h
sent_same [] h = refl
sent_same (m ∷ ms) h = refl
