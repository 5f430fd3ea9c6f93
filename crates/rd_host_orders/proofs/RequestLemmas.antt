-- By deeds by which a host keeps its table, the requests that it wrote on a channel are the first of those that it accepted there, and on the open one the others are to be sent.
use Rattle.std.proofs.Common.{◌≡◌, ◌≢◌, ◌∙◌, refl, sym, ap, subst, inl, inr, ℕ, suc, ◌<◌, ◌≤◌, ◌==◌, arith, Bool, true, false, cond, List, [], ◌∷◌, ◌++◌, map, reverse, Some, None, Option, append_assoc, append-nil, eq-eqb, ne_eqb, ◌+◌}
use Rattle.std.specs.Prelude.{filter, slice_get}
use Rattle.std.specs.List.{cons_option}
use Rattle.std.specs.Option.{option_map_or, unwrap_or}
use Rattle.std.proofs.lemmas.Bool.{cases_eq}
use Rattle.std.proofs.lemmas.List.{map-append, reverse-append}
use Rattle.std.proofs.lemmas.List.Elements.{filter-append}
use Rattle.rd_irp.specs.declared.op.Op.{Op}
use Rattle.rd_host.specs.Core.{host_hear}
use Rattle.rd_orders.proofs.RunsBelowLemmas.{channel_is}
use Rattle.rd_pending.proofs.Effects as effects
use Rattle.rd_pending.proofs.Effects.{Submits}
use Rattle.rd_pending.proofs.Neutral.{AreNeutral}
use Rattle.rd_pending.proofs.Tame.{Tame, tame_take}
use Rattle.rd_pending.specs.declared.calls.Target.{Target}
use Rattle.rd_pending.specs.History.{accepted_of}
use Rattle.rd_pending.specs.Outcomes.{Accepted}
use Rattle.rd_pending.specs.Table as table
use Rattle.rd_pending.specs.Table.{TableState, accept}
use Rattle.rd_deeds.proofs.Calls.{Does, neutral_reading, read_tame, sent_same, table_of}
use Rattle.rd_deeds.proofs.Hearings.{AreQuiet, quiet}
use Rattle.rd_deeds.proofs.Messages.{request_is}
use Rattle.rd_deeds.proofs.Written.{sound_side}
use Rattle.rd_deeds.specs.Host.{HostSide, next_message, side_sends}
use Rattle.rd_deeds.specs.HostDeeds.{calls_by, side_of}
use Rattle.rd_deeds.specs.Joining.{accepted}
use Rattle.rd_world.specs.Lines.{message_of, submitted}
use Rattle.rd_world.specs.Recording.{client_id}
use Rattle.rd_deeds.specs.Talk.{Deed, adds, client_reads, client_writes, completes, host_begins, host_ends, host_reads, host_writes, host_wrote, is_open_at, is_request, removes, stores, submits, takes, tells}
use Rattle.rd_host_orders.specs.Requests.{accepted_messages, message_for, messages_on, sent_requests}
use Rattle.rd_host_orders.proofs.OrderedLemmas.{asked_request, begun_is, open_in}
use Rattle.rd_host_orders.proofs.SideLemmas.{neutral_sending, open_below, within}

-- ---- lists

-- one more is accepted
messages_more : (c : ℕ) (xs : List Accepted) (a : Accepted) → messages_on c (xs ++ a ∷ []) ≡ messages_on c xs ++ cond (a.channel == c) (message_for a ∷ []) []
messages_more c xs a =
    ap (map message_for) (filter-append (λ (x : Accepted). x.channel == c) xs (a ∷ []))
    ∙ map-append message_for (filter (λ (x : Accepted). x.channel == c) xs) (filter (λ (x : Accepted). x.channel == c) (a ∷ []))
    ∙ ap (λ (ms : List (List ℕ)). messages_on c xs ++ ms) (by (a.channel == c))
  where
    by : (b : Bool) → map message_for (cond b (a ∷ []) []) ≡ cond b (message_for a ∷ []) []
    by true = refl
    by false = refl

no_messages : (c : ℕ) (xs : List Accepted) → ((n : ℕ) (a : Accepted) → slice_get xs n ≡ Some a → (a.channel == c) ≡ false) → messages_on c xs ≡ []
no_messages c [] other = refl
no_messages c (x ∷ xs) other = rw (other 0 x refl) (no_messages c xs (λ n a e. other (suc n) a e))

none_appended : (xs ys : List (List ℕ)) → xs ++ ys ≡ [] → ys ≡ []
none_appended [] ys e = e
none_appended (x ∷ xs) ys e = absurd (cc e)

-- ---- what is accepted by a deed

-- nothing, but by a submission
none_accepted : (before : List Deed) (deed : Deed) → ((application : ℕ) (named : Target) (o : Op) → deed ≢ submits application named o) → accepted client_id (deed ∷ before) ≡ accepted client_id before
none_accepted before (submits application named o) other = absurd (other application named o refl)
none_accepted before (host_writes channel message) other = sent_same (((side_of client_id before).core).core).outbox _
none_accepted before (host_reads channel message) other = (read_tame client_id channel message before).1
none_accepted before (host_begins channel) other = refl
none_accepted before (host_ends channel) other = refl
none_accepted before (removes device) other = refl
none_accepted before (adds device) other = refl
none_accepted before (takes n) other = refl
none_accepted before (tells n) other = refl
none_accepted before (client_reads channel message) other = refl
none_accepted before (client_writes channel message) other = refl
none_accepted before (completes key message) other = refl
none_accepted before (stores device item) other = refl

-- the request of a submission, on the open channel
own_channel : (t : TableState) (application : ℕ) (named : Target) (o : Op) (effect : Submits t application named o) → (accepted_of t application named o).channel ≡ effect.channel
own_channel t application named o effect = ap (λ (x : Option ℕ). unwrap_or x 0) effect.is_open

one_accepted : (before : List Deed) (application : ℕ) (named : Target) (o : Op) (c : ℕ) (may : Does client_id (submits application named o ∷ before))
    → accepted_messages c (submits application named o ∷ before)
    ≡ accepted_messages c before ++ cond ((effects.submits (side_of client_id before).table application named o may.0.2).channel == c) (message_of before named o ∷ []) []
one_accepted before application named o c may =
    let t : TableState = (side_of client_id before).table in
    let own : Accepted = accepted_of t application named o in
    let effect = effects.submits t application named o may.0.2 in
    ap (λ (y : TableState). messages_on c (accepted client_id before ++ accepted_of y application named o ∷ [])) (table_of client_id before)
    ∙ messages_more c (accepted client_id before) own
    ∙ ap (λ (n : ℕ). accepted_messages c before ++ cond (n == c) (message_of before named o ∷ []) []) (own_channel t application named o effect)

-- ---- what was accepted was sent, or is to be sent

pub record IsAsked (deeds : List Deed) (c : ℕ) : Type 0 where
  pub unsent : List (List ℕ)
  pub whole : accepted_messages c deeds ≡ sent_requests c deeds ++ unsent
  pub waits : open_in deeds ≡ Some c → unsent ≡ ((side_of client_id deeds).table).outbox

-- where nothing is accepted or written
quietly : (before : List Deed) (deed : Deed) (c : ℕ) → accepted client_id (deed ∷ before) ≡ accepted client_id before → host_wrote c (deed ∷ before) ≡ host_wrote c before
    → Tame (side_of client_id before).table (side_of client_id (deed ∷ before)).table → IsAsked before c → IsAsked (deed ∷ before) c
quietly before deed c accepts wrote tame a = record {
  unsent = a.unsent;
  whole = ap (messages_on c) accepts ∙ a.whole ∙ ap (λ (ms : List (List ℕ)). reverse (filter is_request ms) ++ a.unsent) (sym wrote);
  waits = λ is. a.waits (sym tame.channel ∙ is) ∙ sym tame.outbox;
}

-- what is left of the outbox where a message of the table is sent, and where one of the core's is
sends_own : (s : HostSide) (x m : List ℕ) (others : List (List ℕ)) → ((s.core).core).outbox ≡ x ∷ others → next_message s ≡ Some m → (x ≡ m) × ((side_sends s).table ≡ s.table)
sends_own s x m others e next = let first : next_message s ≡ Some x = rw e refl in (cc (first, next), rw e refl)

sends_request : (s : HostSide) (m : List ℕ) → ((s.core).core).outbox ≡ [] → next_message s ≡ Some m → (others : List (List ℕ)) × ((s.table).outbox ≡ m ∷ others) × (((side_sends s).table).outbox ≡ others)
sends_request s m e next = by (s.table).outbox refl
  where
    by : (o : List (List ℕ)) → (s.table).outbox ≡ o → (others : List (List ℕ)) × ((s.table).outbox ≡ m ∷ others) × (((side_sends s).table).outbox ≡ others)
    by [] e2 = let none : next_message s ≡ None = rw (e, e2) refl in absurd (cc (none, next))
    by (x ∷ others) e2 =
        let first : next_message s ≡ Some x = rw (e, e2) refl in
        let same : x ≡ m = cc (first, next) in
        (others, e2 ∙ ap (λ (y : List ℕ). y ∷ others) same, rw (e, e2) refl)

asked_one : (before : List Deed) (application : ℕ) (named : Target) (o : Op) (c : ℕ) → Does client_id (submits application named o ∷ before) → IsAsked before c → IsAsked (submits application named o ∷ before) c
asked_one before application named o c may a = elim (cases_eq effect.channel c) [
  | inl same ↦ record {
    unsent = a.unsent ++ message ∷ [];
    whole = more ∙ ap (λ (b : Bool). accepted_messages c before ++ cond b (message ∷ []) []) (eq-eqb effect.channel c same) ∙ ap (λ (ms : List (List ℕ)). ms ++ message ∷ []) a.whole
        ∙ append_assoc (sent_requests c before) a.unsent (message ∷ []);
    waits = λ is. ap (λ (ms : List (List ℕ)). ms ++ message ∷ []) (a.waits (effect.is_open ∙ ap Some same)) ∙ sym (ap (λ (x : TableState). x.outbox) effect.new);
  }
  | inr other ↦ record {
    unsent = a.unsent;
    whole = more ∙ ap (λ (b : Bool). accepted_messages c before ++ cond b (message ∷ []) []) (ne_eqb effect.channel c other) ∙ append-nil (accepted_messages c before) ∙ a.whole;
    waits = λ is. absurd (other (let both : Some effect.channel ≡ Some c = sym effect.is_open ∙ sym (ap (λ (x : TableState). x.channel) effect.new) ∙ is in cc both));
  }
]
  where
    t : TableState
    t = (side_of client_id before).table

    effect : Submits (side_of client_id before).table application named o
    effect = effects.submits (side_of client_id before).table application named o may.0.2

    message : List ℕ
    message = message_of before named o

    more : accepted_messages c (submits application named o ∷ before) ≡ accepted_messages c before ++ cond (effect.channel == c) (message ∷ []) []
    more = one_accepted before application named o c may

wrote_one : (before : List Deed) (channel : ℕ) (m : List ℕ) (c : ℕ) → Does client_id (host_writes channel m ∷ before) → IsAsked before c → IsAsked (host_writes channel m ∷ before) c
wrote_one before channel m c may a = elim (cases_eq channel c) [
  | inl same ↦ here same (((side_of client_id before).core).core).outbox refl
  | inr other ↦ record {
    unsent = a.unsent;
    whole = accepts ∙ a.whole ∙ ap (λ (ms : List (List ℕ)). reverse (filter is_request ms) ++ a.unsent) (sym (wrote false (ne_eqb channel c other)));
    waits = λ is. absurd (other (let both : Some channel ≡ Some c = sym may.0.0 ∙ sym still ∙ is in cc both));
  }
]
  where
    s : HostSide
    s = side_of client_id before

    accepts : accepted_messages c (host_writes channel m ∷ before) ≡ accepted_messages c before
    accepts = ap (messages_on c) (none_accepted before (host_writes channel m) (λ application named o e. cc e))

    still : open_in (host_writes channel m ∷ before) ≡ open_in before
    still = (within before (host_writes channel m) (neutral_sending (((side_of client_id before).core).core).outbox) may).channel

    wrote : (b : Bool) → (channel == c) ≡ b → host_wrote c (host_writes channel m ∷ before) ≡ cons_option (cond b (Some m) None) (host_wrote c before)
    wrote b e = rw e refl

    among : (b : Bool) → is_request m ≡ b → filter is_request (m ∷ host_wrote c before) ≡ cond b (m ∷ filter is_request (host_wrote c before)) (filter is_request (host_wrote c before))
    among b e = rw e refl

    here : channel ≡ c → (o : List (List ℕ)) → (((side_of client_id before).core).core).outbox ≡ o → IsAsked (host_writes channel m ∷ before) c
    here same (x ∷ xs) e =
        let (own, table_still) = sends_own (side_of client_id before) x m xs e may.0.1 in
        let silent : is_request m ≡ false = subst (λ (y : List ℕ). is_request y ≡ false) own (subst AreQuiet e (quiet client_id before)).0 in
        let sent : sent_requests c (host_writes channel m ∷ before) ≡ sent_requests c before = ap (λ (ms : List (List ℕ)). reverse (filter is_request ms)) (wrote true (eq-eqb channel c same)) ∙ ap reverse (among false silent) in
        record {
          unsent = a.unsent;
          whole = accepts ∙ a.whole ∙ ap (λ (ms : List (List ℕ)). ms ++ a.unsent) (sym sent);
          waits = λ is. a.waits (sym still ∙ is) ∙ sym (ap (λ (t : TableState). t.outbox) table_still);
        }
    here same [] e =
        let (others, first, left) = sends_request (side_of client_id before) m e may.0.1 in
        let is_c : open_in before ≡ Some c = may.0.0 ∙ ap Some same in
        let (r, spelled) = asked_request before c may.1 is_c m others first in
        let asks : is_request m ≡ true = request_is m r spelled in
        let old : List (List ℕ) = filter is_request (host_wrote c before) in
        let sent : sent_requests c (host_writes channel m ∷ before) ≡ sent_requests c before ++ m ∷ [] =
        ap (λ (ms : List (List ℕ)). reverse (filter is_request ms)) (wrote true (eq-eqb channel c same)) ∙ ap reverse (among true asks) ∙ reverse-append (m ∷ []) old in
        record {
          unsent = others;
          whole = accepts ∙ a.whole ∙ ap (λ (ms : List (List ℕ)). sent_requests c before ++ ms) (a.waits is_c ∙ first) ∙ sym (append_assoc (sent_requests c before) (m ∷ []) others)
              ∙ ap (λ (ms : List (List ℕ)). ms ++ others) (sym sent);
          waits = λ is. sym left;
        }

-- nothing was accepted on a channel that may begin
none_before : (before : List Deed) (c : ℕ) → Does client_id before → table.MayBegin (side_of client_id before).table c → accepted_messages c before ≡ []
none_before before c may above = no_messages c (accepted client_id before) (λ n a e.
    let low : a.channel < ((side_of client_id before).table).below = ((sound_side client_id before may).requests n a e).below in
    ne_eqb a.channel c (λ same. absurd (omega (arith, low, same, above))))

began : (before : List Deed) (channel c : ℕ) → Does client_id (host_begins channel ∷ before) → IsAsked before c → IsAsked (host_begins channel ∷ before) c
began before channel c may a = record {
  unsent = a.unsent;
  whole = a.whole;
  waits = λ is.
      let opened : open_in (host_begins channel ∷ before) ≡ Some channel = ap (λ (t : TableState). t.channel) is_new in
      let same : channel ≡ c = cc (opened, is) in
      let none : accepted_messages c before ≡ [] = none_before before c may.1 (subst (table.MayBegin (side_of client_id before).table) same may.0.1) in
      none_appended (sent_requests c before) a.unsent (sym a.whole ∙ none) ∙ sym (ap (λ (t : TableState). t.outbox) is_new ∙ ((sound_side client_id before may.1).slots.closed may.0.0).2);
}
  where
    is_new : (table.begin (side_of client_id before).table channel).0 ≡ record (side_of client_id before).table { channel = Some channel; below = channel + 1; asked = 0; begun = 0 }
    is_new = begun_is (side_of client_id before).table channel may.0.0

pub asked : (deeds : List Deed) (c : ℕ) → Does client_id deeds → IsAsked deeds c
asked [] c may = record { unsent = []; whole = refl; waits = λ is. absurd (cc is) }
asked (host_begins channel ∷ before) c may = began before channel c may (asked before c may.1)
asked (host_ends channel ∷ before) c may = let a = asked before c may.1 in record { unsent = a.unsent; whole = a.whole; waits = λ is. absurd (cc is) }
asked (submits application named o ∷ before) c may = asked_one before application named o c may (asked before c may.1)
asked (takes n ∷ before) c may = quietly before (takes n) c refl refl (tame_take (side_of client_id before).table n) (asked before c may.1)
asked (host_writes channel m ∷ before) c may = wrote_one before channel m c may (asked before c may.1)
asked (host_reads channel m ∷ before) c may = let tame = read_tame client_id channel m before in quietly before (host_reads channel m) c tame.1 refl tame.0 (asked before c may.1)
asked (tells n ∷ before) c may = let a = asked before c may.1 in record { unsent = a.unsent; whole = a.whole; waits = a.waits }
asked (removes device ∷ before) c may = let a = asked before c may.1 in record { unsent = a.unsent; whole = a.whole; waits = a.waits }
asked (adds device ∷ before) c may = let a = asked before c may.1 in record { unsent = a.unsent; whole = a.whole; waits = a.waits }
asked (client_reads channel m ∷ before) c may = let a = asked before c may.1 in record { unsent = a.unsent; whole = a.whole; waits = a.waits }
asked (client_writes channel m ∷ before) c may = let a = asked before c may.1 in record { unsent = a.unsent; whole = a.whole; waits = a.waits }
asked (completes key m ∷ before) c may = let a = asked before c may.1 in record { unsent = a.unsent; whole = a.whole; waits = a.waits }
asked (stores device item ∷ before) c may = let a = asked before c may.1 in record { unsent = a.unsent; whole = a.whole; waits = a.waits }

-- on the open channel the others are to be sent
pub still_waiting : (deeds : List Deed) (c : ℕ) → Does client_id deeds → open_in deeds ≡ Some c → accepted_messages c deeds ≡ sent_requests c deeds ++ ((side_of client_id deeds).table).outbox
still_waiting deeds c may is = let a = asked deeds c may in a.whole ∙ ap (λ (ms : List (List ℕ)). sent_requests c deeds ++ ms) (a.waits is)

-- ---- a channel that ended with nothing to send

-- all that were accepted on it were sent, and it is open no more
record IsOver (deeds : List Deed) (c : ℕ) : Type 0 where
  all : accepted_messages c deeds ≡ sent_requests c deeds
  shut : open_in deeds ≢ Some c
  below : c < ((side_of client_id deeds).table).below

-- by what is done on no channel, or on another, it stays so
over_within : (before : List Deed) (deed : Deed) (c : ℕ) → accepted_messages c (deed ∷ before) ≡ accepted_messages c before → host_wrote c (deed ∷ before) ≡ host_wrote c before
    → AreNeutral (calls_by (side_of client_id before) deed) → Does client_id (deed ∷ before) → IsOver before c → IsOver (deed ∷ before) c
over_within before deed c accepts wrote neutral may o =
    let w = within before deed neutral may in
    record {
      all = accepts ∙ o.all ∙ ap (λ (ms : List (List ℕ)). reverse (filter is_request ms)) (sym wrote);
      shut = λ is. o.shut (sym w.channel ∙ is);
      below = (let low : c < ((side_of client_id before).table).below = o.below in omega (arith, low, w.below));
    }

over_more : (before : List Deed) (deed : Deed) (c : ℕ) → Does client_id (deed ∷ before) → IsOver before c → IsOver (deed ∷ before) c
over_more before (host_begins channel) c may o =
    let is_new = begun_is (side_of client_id before).table channel may.0.0 in
    let opened : open_in (host_begins channel ∷ before) ≡ Some channel = ap (λ (t : TableState). t.channel) is_new in
    let edge : ((side_of client_id (host_begins channel ∷ before)).table).below ≡ channel + 1 = ap (λ (t : TableState). t.below) is_new in
    let above : ((side_of client_id before).table).below ≤ channel = may.0.1 in
    let low : c < ((side_of client_id before).table).below = o.below in
    record { all = o.all; shut = λ is. (let same : channel ≡ c = cc (opened, is) in omega (arith, same, low, above)); below = omega (arith, edge, low, above) }
over_more before (host_ends channel) c may o = record { all = o.all; shut = λ is. cc is; below = o.below }
over_more before (submits application named a) c may o =
    let effect = effects.submits (side_of client_id before).table application named a may.0.2 in
    let elsewhere : (effect.channel == c) ≡ false = ne_eqb effect.channel c (λ same. o.shut (effect.is_open ∙ ap Some same)) in
    over_within before (submits application named a) c
    (one_accepted before application named a c may ∙ ap (λ (b : Bool). accepted_messages c before ++ cond b (message_of before named a ∷ []) []) elsewhere ∙ append-nil (accepted_messages c before)) refl (tt, tt) may o
over_more before (takes n) c may o = over_within before (takes n) c refl refl (tt, tt) may o
over_more before (host_writes channel m) c may o =
    over_within before (host_writes channel m) c (ap (messages_on c) (none_accepted before (host_writes channel m) (λ application named a e. cc e)))
    (rw (ne_eqb channel c (λ same. o.shut (may.0.0 ∙ ap Some same))) refl) (neutral_sending (((side_of client_id before).core).core).outbox) may o
over_more before (host_reads channel m) c may o =
    over_within before (host_reads channel m) c (ap (messages_on c) (none_accepted before (host_reads channel m) (λ application named a e. cc e))) refl
    (neutral_reading (side_of client_id before).table (host_hear (side_of client_id before).core m).1) may o
over_more before (tells n) c may o = over_within before (tells n) c refl refl tt may o
over_more before (removes device) c may o = over_within before (removes device) c refl refl tt may o
over_more before (adds device) c may o = over_within before (adds device) c refl refl tt may o
over_more before (client_reads channel m) c may o = over_within before (client_reads channel m) c refl refl tt may o
over_more before (client_writes channel m) c may o = over_within before (client_writes channel m) c refl refl tt may o
over_more before (completes key m) c may o = over_within before (completes key m) c refl refl tt may o
over_more before (stores device item) c may o = over_within before (stores device item) c refl refl tt may o

over_since : (later before : List Deed) (c : ℕ) → Does client_id (later ++ host_ends c ∷ before) → ((side_of client_id before).table).outbox ≡ [] → IsOver (later ++ host_ends c ∷ before) c
over_since [] before c may none = record {
  all = still_waiting before c may.1 may.0 ∙ ap (λ (ms : List (List ℕ)). sent_requests c before ++ ms) none ∙ append-nil (sent_requests c before);
  shut = λ is. cc is;
  below = open_below before c may.1 may.0;
}
over_since (deed ∷ later) before c may none = over_more (later ++ host_ends c ∷ before) deed c may (over_since later before c may.1 none)

pub all_sent : (later before : List Deed) (c : ℕ) → Does client_id (later ++ host_ends c ∷ before) → ((side_of client_id before).table).outbox ≡ []
    → sent_requests c (later ++ host_ends c ∷ before) ≡ accepted_messages c (later ++ host_ends c ∷ before)
all_sent later before c may none = sym (over_since later before c may none).all

-- ---- the same as what was submitted where the channel was open

pub submitted_are : (deeds : List Deed) (c : ℕ) → Does client_id deeds → reverse (submitted c deeds) ≡ accepted_messages c deeds
submitted_are [] c may = refl
submitted_are (submits application named o ∷ before) c may = by (effect.channel == c) refl (submitted_are before c may.1)
  where
    effect : Submits (side_of client_id before).table application named o
    effect = effects.submits (side_of client_id before).table application named o may.0.2

    opened : is_open_at c before ≡ (effect.channel == c)
    opened = ap (λ (x : Option ℕ). option_map_or (λ (channel : ℕ). channel == c) x false) (sym (channel_is client_id before may.1) ∙ effect.is_open)

    by : (b : Bool) → (effect.channel == c) ≡ b → reverse (submitted c before) ≡ accepted_messages c before
        → reverse (submitted c (submits application named o ∷ before)) ≡ accepted_messages c (submits application named o ∷ before)
    by true e same =
        let first : submitted c (submits application named o ∷ before) ≡ message_of before named o ∷ submitted c before = rw (opened, e) refl in
        ap reverse first ∙ reverse-append (message_of before named o ∷ []) (submitted c before) ∙ ap (λ (ms : List (List ℕ)). ms ++ message_of before named o ∷ []) same
        ∙ ap (λ (b : Bool). accepted_messages c before ++ cond b (message_of before named o ∷ []) []) (sym e) ∙ sym (one_accepted before application named o c may)
    by false e same =
        let none : submitted c (submits application named o ∷ before) ≡ submitted c before = rw (opened, e) refl in
        ap reverse none ∙ same ∙ sym (append-nil (accepted_messages c before))
        ∙ ap (λ (b : Bool). accepted_messages c before ++ cond b (message_of before named o ∷ []) []) (sym e) ∙ sym (one_accepted before application named o c may)
submitted_are (host_writes channel m ∷ before) c may = submitted_are before c may.1 ∙ sym (ap (messages_on c) (none_accepted before (host_writes channel m) (λ application named a e. cc e)))
submitted_are (host_reads channel m ∷ before) c may = submitted_are before c may.1 ∙ sym (ap (messages_on c) (none_accepted before (host_reads channel m) (λ application named a e. cc e)))
submitted_are (host_begins channel ∷ before) c may = submitted_are before c may.1
submitted_are (host_ends channel ∷ before) c may = submitted_are before c may.1
submitted_are (takes n ∷ before) c may = submitted_are before c may.1
submitted_are (tells n ∷ before) c may = submitted_are before c may.1
submitted_are (removes device ∷ before) c may = submitted_are before c may.1
submitted_are (adds device ∷ before) c may = submitted_are before c may.1
submitted_are (client_reads channel m ∷ before) c may = submitted_are before c may.1
submitted_are (client_writes channel m ∷ before) c may = submitted_are before c may.1
submitted_are (completes key m ∷ before) c may = submitted_are before c may.1
submitted_are (stores device item ∷ before) c may = submitted_are before c may.1
