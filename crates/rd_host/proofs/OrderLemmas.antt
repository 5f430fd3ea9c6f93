-- What a host reads and writes on a channel is in order, where each reply is the next one that is due.
use Rattle.std.proofs.Common.{◌≡◌, ◌∙◌, refl, sym, ap, subst, ℕ, List, [], ◌∷◌, ◌++◌, Some, None, Option}
use Rattle.std.specs.Prelude.{map, IsSome, Result, Ok, Err}
use Rattle.std.specs.List.{flat_map}
use Rattle.std.specs.Option.{option_and_then}
use Rattle.std.proofs.lemmas.List.{map-append, map-id}
use Rattle.std.proofs.lemmas.Option.{option_and_then_some}
use Rattle.rd_base.specs.declared.bad.Bad.{Bad}
use Rattle.rd_base.specs.declared.packet.Packet.{Packet}
use Rattle.rd_base.specs.declared.packet.Packet.TheVariants as packet
use Rattle.rd_base.specs.Header.{any_header}
use Rattle.rd_base.specs.Layout.{met}
use Rattle.rd_base.specs.Position.{Position, at_start}
use Rattle.rd_core.specs.Core.{send_from}
use Rattle.rd_core.specs.Hearing as hearing
use Rattle.rd_core.specs.Hearing.{Meaning, wrong, nothing, opens, says, from_header, from_known, from_own, hear_said, hear_unless, messages_of, said}
use Rattle.rd_core.specs.Order.{after_said, after_write}
use Rattle.rd_devices.specs.DeviceReply.{reply_bytes}
use Rattle.rd_hello.specs.declared.end_fault.EndFault.{EndFault}
use Rattle.rd_hello.specs.declared.end_fault.EndFault.TheVariants.{Memory}
use Rattle.rd_hello.specs.declared.host.HostState.{HostState}
use Rattle.rd_hello.specs.declared.host.HostState.TheVariants.{Start, Confirmed, Offered, Ready}
use Rattle.rd_hello.specs.Hello.{hello_bytes}
use Rattle.rd_hello.specs.Moves.{Move, reads, writes}
use Rattle.rd_hello.specs.Own.{host_announce}
use Rattle.rd_hello.specs.Rows.{OrderRow}
use Rattle.rd_printer.specs.Notice.{notice_bytes}
use Rattle.rd_host.specs.declared.act.Act.{Act}
use Rattle.rd_host.specs.declared.act.Act.TheVariants as act
use Rattle.rd_host.specs.Core.{HostCoreState, HostStep, IsHostReady, begins, client_says, hears, host_begin, host_hear, host_hear_made, host_side, replies, sends, tells, with_message}
use Rattle.rd_host.specs.Order.{HostOrder, HostStanding, Replying, after_act, after_own, after_read, host_at_first, host_part, none_due, stand_after}
use Rattle.rd_host.specs.Events.{AreDue, HostStandsAt, HostEvent, HostEventStep, HostEvents, asks, calls, due_after, due_after_all, host_event_moves, host_waiting_moves}
use Rattle.rd_host.proofs.OwnLemmas.{notice_written, own_apart, reply_written, request_written}
use Rattle.rd_core.proofs.OrderLemmas.{stand_onward}
use Rattle.rd_core.proofs.StandLemmas.{all_owed, all_written_with, only_owed, written_state}

-- where a host stands after moves, if it comes to stand here, where these replies are due
abbrev StandsAfter : HostStanding → List Move → Replying → HostCoreState → Type 0
StandsAfter s moves q new = (t : HostStanding) × (stand_after s moves ≡ Some t) × HostStandsAt t q new

pub stands_at_first : (old : HostCoreState) (given : ℕ) → HostStandsAt (host_at_first old.client given) (none_due given) (host_begin old)
stands_at_first old given = record { state = refl; waiting = all_owed host_side host_part Start (none_due given) (hello_bytes (host_announce old.client) ∷ []) }

-- the same of the same host
same_stands : (s : HostStanding) (r : Replying) (h new : HostCoreState) → h ≡ new → HostStandsAt s r h → HostStandsAt s r new
same_stands s r h new same stands = subst (λ (n : HostCoreState). HostStandsAt s r n) same stands

-- ---- a message is heard

own_opens_none : (x : Result Act Bad) (row : OrderRow HostState) → from_own host_side x ≡ opens row → ⊥
own_opens_none (Ok a) row e = cc e
own_opens_none (Err bad) row e = cc e

known_opens_none : (bytes : List ℕ) (p : Packet) (row : OrderRow HostState) → from_known host_side Ready bytes p ≡ opens row → ⊥
known_opens_none bytes packet.DeviceListAnnounce row e = own_opens_none (client_says packet.DeviceListAnnounce bytes) row e
known_opens_none bytes packet.DeviceListRemove row e = own_opens_none (client_says packet.DeviceListRemove bytes) row e
known_opens_none bytes packet.IoCompletion row e = own_opens_none (client_says packet.IoCompletion bytes) row e
known_opens_none bytes _ row e = cc e

header_opens_none : (bytes : List ℕ) (r : Result (Option Packet × Position) Bad) (row : OrderRow HostState) → from_header host_side Ready bytes r ≡ opens row → ⊥
header_opens_none bytes (Err bad) row e = cc e
header_opens_none bytes (Ok (None, rest)) row e = cc e
header_opens_none bytes (Ok (Some p, rest)) row e = known_opens_none bytes p row e

-- nothing of the host's own may be written in a state
abbrev IsSilent : HostState → Type 0
IsSilent state = (message : List ℕ) (own : Replying) → after_own state message own ≡ None

-- a host that goes on by a row isn't ready, so it writes nothing of itself
silent_before : (state : HostState) (bytes : List ℕ) (row : OrderRow HostState) → said host_side state bytes ≡ opens row → IsSilent state
silent_before Start bytes row e = λ message own. refl
silent_before (Confirmed client) bytes row e = λ message own. refl
silent_before Offered bytes row e = λ message own. refl
silent_before Ready bytes row e = absurd (header_opens_none bytes (met any_header (at_start bytes)) row e)

-- where a host stands after what a message says, and which replies are due
abbrev StandsAfterSaid : HostStanding → Meaning HostState Act → Replying → HostCoreState → Type 0
StandsAfterSaid s x q new = (t : HostStanding) × (after_said host_side host_part s x ≡ Some t) × HostStandsAt t q new

module _ (s : HostStanding) (r : Replying) (old : HostCoreState) (stands : HostStandsAt s r old) where
  -- a row is followed while nothing waits but what is owed
  row_stands : (row : OrderRow HostState) → IsSilent (old.core).shake → StandsAfterSaid s (opens row) r (record old { core = hearing.after_row host_side old.core row })
  row_stands row silent =
      let all = only_owed host_side host_part s _ (old.core).outbox (subst IsSilent (sym stands.state) silent) stands.waiting refl in
      let same : s.owed ++ messages_of row ≡ (old.core).outbox ++ map (λ (m : List ℕ). m) (messages_of row) = rw (all.0, map-id (messages_of row)) refl in (
        record { shake = row.next; owed = s.owed ++ messages_of row; own = s.own },
        refl,
        record {
          state = refl;
          waiting = rw (sym same, sym all.1) (all_owed host_side host_part row.next s.own (s.owed ++ messages_of row));
        },
      )

  said_stands : (x : Meaning HostState Act) (new : HostCoreState) (a : Act) → ((row : OrderRow HostState) → x ≡ opens row → IsSilent (old.core).shake)
      → host_hear_made old (hear_said host_side old.core x) ≡ (new, Ok a) → StandsAfterSaid s x (after_act a r) new
  said_stands x new a silent e = go x silent e
    where
      came : (h : HostCoreState) (b : Act) → ◌≡◌ {A = HostCoreState × Result Act EndFault} (h, Ok b) (new, Ok a) → (x : Meaning HostState Act)
          → StandsAfterSaid s x (after_act b r) h → StandsAfterSaid s x (after_act a r) new
      came h b e x there =
          let same : h ≡ new = ap (λ (z : HostCoreState × Result Act EndFault). z.0) e in
          let answer : ◌≡◌ {A = Result Act EndFault} (Ok b) (Ok a) = ap (λ (z : HostCoreState × Result Act EndFault). z.1) e in
          let equal : b ≡ a = cc in
          subst (λ (c : Act). StandsAfterSaid s x (after_act c r) new) equal (subst (λ (n : HostCoreState). StandsAfterSaid s x (after_act b r) n) same there)

      go : (x : Meaning HostState Act) → ((row : OrderRow HostState) → x ≡ opens row → IsSilent (old.core).shake)
          → host_hear_made old (hear_said host_side old.core x) ≡ (new, Ok a) → StandsAfterSaid s x (after_act a r) new
      go (wrong fault) silent e = absurd (cc (ap (λ (z : HostCoreState × Result Act EndFault). z.1) e))
      go nothing silent e = came old act.Nothing e nothing (s, refl, stands)
      go (opens row) silent e = came (record old { core = hearing.after_row host_side old.core row }) act.Nothing e (opens row) (row_stands row (silent row refl))
      go (says b) silent e = came old b e (says b) (
        record s { own = after_act b s.own },
        refl,
        record {
          state = stands.state;
          waiting = all_written_with host_side host_part (after_act b) (own_apart b) s _ (old.core).outbox stands.waiting;
        },
      )

  unless_stands : (bytes : List ℕ) (new : HostCoreState) (a : Act) (fault : Option EndFault) → host_hear_made old (hear_unless host_side old.core bytes fault) ≡ (new, Ok a)
      → StandsAfterSaid s (said host_side (old.core).shake bytes) (after_act a r) new
  unless_stands bytes new a (Some fault) e = absurd (cc (ap (λ (z : HostCoreState × Result Act EndFault). z.1) e))
  unless_stands bytes new a None e = said_stands (said host_side (old.core).shake bytes) new a (silent_before (old.core).shake bytes) e

  -- a message that is heard without a fault is read in order
  heard_stands : (bytes : List ℕ) (new : HostCoreState) (a : Act) → host_hear old bytes ≡ (new, Ok a) → StandsAfter s (reads bytes ∷ []) (after_act a r) new
  heard_stands bytes new a e =
      let there = unless_stands bytes new a (old.core).fault e in
      let read : after_read s bytes ≡ Some there.0 = ap (λ state. after_said host_side host_part s (said host_side state bytes)) stands.state ∙ there.1 in
      (there.0, ap (λ o. option_and_then (λ t. Some t) o) read, there.2)

  -- one that has a fault changes nothing of what waits
  faulty_said : (x : Meaning HostState Act) (new : HostCoreState) (fault : EndFault) → host_hear_made old (hear_said host_side old.core x) ≡ (new, Err fault) → HostStandsAt s r new
  faulty_said (wrong found) new fault e = same_stands s r _ new (ap (λ (z : HostCoreState × Result Act EndFault). z.0) e) (record { state = stands.state; waiting = stands.waiting })
  faulty_said nothing new fault e = absurd (cc (ap (λ (z : HostCoreState × Result Act EndFault). z.1) e))
  faulty_said (opens row) new fault e = absurd (cc (ap (λ (z : HostCoreState × Result Act EndFault). z.1) e))
  faulty_said (says a) new fault e = absurd (cc (ap (λ (z : HostCoreState × Result Act EndFault). z.1) e))

  faulty_unless : (bytes : List ℕ) (new : HostCoreState) (fault : EndFault) (held : Option EndFault)
      → host_hear_made old (hear_unless host_side old.core bytes held) ≡ (new, Err fault) → HostStandsAt s r new
  faulty_unless bytes new fault (Some found) e = same_stands s r _ new (ap (λ (z : HostCoreState × Result Act EndFault). z.0) e) stands
  faulty_unless bytes new fault None e = faulty_said (said host_side (old.core).shake bytes) new fault e

  faulty_stands : (bytes : List ℕ) (new : HostCoreState) (fault : EndFault) → HostStep old (hears bytes (Err fault)) new → HostStandsAt s r new
  faulty_stands bytes new Memory step = same_stands s r _ new (sym step.1) stands
  faulty_stands bytes new fault step = faulty_unless bytes new fault (old.core).fault step

  -- ---- a message is to be sent, or is sent

  -- what a ready host writes of itself, where nothing else waits
  last_written : (q : Replying) (message : List ℕ) → IsHostReady old → after_own Ready message r ≡ Some q
      → stand_after (record { shake = (old.core).shake; owed = []; own = r }) (writes message ∷ []) ≡ Some (record { shake = (old.core).shake; owed = []; own = q })
  last_written q message ready may = go (old.core).shake ready
    where
      go : (state : HostState) → state ≡ Ready → stand_after (record { shake = state; owed = []; own = r }) (writes message ∷ []) ≡ Some (record { shake = state; owed = []; own = q })
      go state is = rw (is, may) refl

  -- one more waits, which may be written last
  more_stands : (q : Replying) (message : List ℕ) → IsHostReady old → after_own Ready message r ≡ Some q → HostStandsAt s q (with_message old message)
  more_stands q message ready may = record {
    state = stands.state;
    waiting = ap (λ moves. stand_after s moves) (map-append writes (old.core).outbox (message ∷ []))
        ∙ stand_onward host_side host_part s _ (host_waiting_moves old) (writes message ∷ []) stands.waiting
        ∙ last_written q message ready may;
  }

  -- the first is sent
  first_stands : (message : List ℕ) (others : List (List ℕ)) → (old.core).outbox ≡ message ∷ others
      → StandsAfter s (writes message ∷ []) r (record old { core = record old.core { outbox = others } })
  first_stands message others is =
      let waiting = subst (λ (messages : List (List ℕ)). stand_after s (map writes messages) ≡ Some (record { shake = (old.core).shake; owed = []; own = r })) is stands.waiting in
      option_and_then_some (λ t. stand_after t (map writes others)) (after_write host_side host_part s message) _ waiting λ t first later.
      (t, ap (λ o. option_and_then (λ u. Some u) o) first, record { state = written_state host_side host_part s t message first ∙ stands.state; waiting = later })

  sent_stands : (outbox : List (List ℕ)) (sent : Option (List ℕ)) (new : HostCoreState) → (old.core).outbox ≡ outbox
      → ◌≡◌ {A = HostCoreState × Option (List ℕ)} (record old { core = (send_from old.core outbox).0 }, (send_from old.core outbox).1) (new, sent)
      → StandsAfter s (host_event_moves (calls (sends sent))) r new
  sent_stands [] None new is e = (s, refl, same_stands s r _ new (ap (λ (z : HostCoreState × Option (List ℕ)). z.0) e) stands)
  sent_stands [] (Some message) new is e = absurd (cc (ap (λ (z : HostCoreState × Option (List ℕ)). z.1) e))
  sent_stands (message ∷ others) None new is e = absurd (cc (ap (λ (z : HostCoreState × Option (List ℕ)). z.1) e))
  sent_stands (message ∷ others) (Some sent) new is e =
      let answer : ◌≡◌ {A = Option (List ℕ)} (Some message) (Some sent) = ap (λ (z : HostCoreState × Option (List ℕ)). z.1) e in
      let same : message ≡ sent = cc in
      subst (λ (m : List ℕ). StandsAfter s (writes m ∷ []) r new) same
      (subst (λ (n : HostCoreState). StandsAfter s (writes message ∷ []) r n) (ap (λ (z : HostCoreState × Option (List ℕ)). z.0) e) (first_stands message others is))

  -- a request is written
  asked_stands : (message : List ℕ) → IsHostReady old → (old.core).outbox ≡ [] → after_own Ready message r ≡ Some r → StandsAfter s (writes message ∷ []) r old
  asked_stands message ready sent may =
      let there : ◌≡◌ {A = Option HostStanding} (Some s) (Some (record { shake = (old.core).shake; owed = []; own = r })) =
      subst (λ (messages : List (List ℕ)). stand_after s (map writes messages) ≡ Some (record { shake = (old.core).shake; owed = []; own = r })) sent stands.waiting in
      let same : s ≡ record { shake = (old.core).shake; owed = []; own = r } = cc in
      (s, rw same (last_written r message ready may), stands)

-- ---- events

-- nothing is due but what was
stays_due : (s : HostStanding) (r q : Replying) (new : HostCoreState) → ◌≡◌ {A = Option Replying} (Some r) (Some q) → HostStandsAt s r new → HostStandsAt s q new
stays_due s r q new e stands = let same : r ≡ q = cc in subst (λ (p : Replying). HostStandsAt s p new) same stands

-- An event's moves are in order, and where the host stands then is where they lead.
pub event_stands : (s : HostStanding) (r q : Replying) (old new : HostCoreState) (event : HostEvent) → HostStandsAt s r old → HostEventStep old event new → due_after r event ≡ Some q
    → (t : HostStanding) × (stand_after s (host_event_moves event) ≡ Some t) × HostStandsAt t q new
event_stands s r q old new (calls (begins answer)) stands step due = absurd step.0
event_stands s r q old new (calls (hears message (Ok a))) stands step due =
    let there = heard_stands s r old stands message new a step.1 in (there.0, there.1, stays_due there.0 (after_act a r) q new due there.2)
event_stands s r q old new (calls (hears message (Err fault))) stands step due = (s, refl, stays_due s r q new due (faulty_stands s r old stands message new fault step.1))
event_stands s r q old new (calls (replies device code (Ok u))) stands step due = (
  s,
  refl,
  same_stands s q _ new (sym step.1.1)
      (more_stands s r old stands q (reply_bytes (record { id = device; code = code })) step.1.0 (reply_written r q device code due)),
)
event_stands s r q old new (calls (replies device code (Err cause))) stands step due = (s, refl, stays_due s r q new due (same_stands s r _ new (sym step.1.1) stands))
event_stands s r q old new (calls (tells n (Ok u))) stands step due = (
  s,
  refl,
  stays_due s r q new due (same_stands s r _ new (sym step.1.1)
      (more_stands s r old stands r (notice_bytes n) step.1.0.ready (notice_written n r step.1.0.writable step.1.0.port))),
)
event_stands s r q old new (calls (tells n (Err cause))) stands step due = (s, refl, stays_due s r q new due (same_stands s r _ new (sym step.1.1) stands))
event_stands s r q old new (calls (sends sent)) stands step due =
    let there = sent_stands s r old stands (old.core).outbox sent new refl step.1 in (there.0, there.1, stays_due there.0 r q new due there.2)
event_stands s r q old new (asks message) stands step due =
    let there = asked_stands s r old stands message step.0.ready step.0.sent (request_written message r step.0.head) in
    (there.0, there.1, stays_due there.0 r q new due (same_stands there.0 r _ new (sym step.1) there.2))

pub events_stand : (s : HostStanding) (r q : Replying) (old new : HostCoreState) (events : List HostEvent) → HostStandsAt s r old → HostEvents old events new → due_after_all r events ≡ Some q
    → StandsAfter s (flat_map host_event_moves events) q new
events_stand s r q old new [] stands same due = (s, refl, stays_due s r q new due (same_stands s r _ new (sym same) stands))
events_stand s r q old new (event ∷ events) stands (next, step, steps) due =
    option_and_then_some (λ p. due_after_all p events) (due_after r event) q due λ p first later.
    let one = event_stands s r p old next event stands step first in
    let all = events_stand one.0 p q next new events one.2 steps later in
    (all.0, stand_onward host_side host_part s one.0 (host_event_moves event) (flat_map host_event_moves events) one.1 ∙ all.1, all.2)

-- where the replies are those due, a host stands somewhere after all events
stands_after_all : (old new : HostCoreState) (events : List HostEvent) (given : ℕ) → HostEvents (host_begin old) events new → AreDue (none_due given) events
    → (q : Replying) × StandsAfter (host_at_first old.client given) (flat_map host_event_moves events) q new
stands_after_all old new events given steps due = go (due_after_all (none_due given) events) refl due
  where
    go : (o : Option Replying) → due_after_all (none_due given) events ≡ o → IsSome o → (q : Replying) × StandsAfter (host_at_first old.client given) (flat_map host_event_moves events) q new
    go (Some q) e some = (q, events_stand (host_at_first old.client given) (none_due given) q (host_begin old) new events (stands_at_first old given) steps e)
    go None e some = absurd (cc some)

pub events_in_order : (old new : HostCoreState) (events : List HostEvent) (given : ℕ) → HostEvents (host_begin old) events new → AreDue (none_due given) events
    → HostOrder old.client given (flat_map host_event_moves events)
events_in_order old new events given steps due = let there = stands_after_all old new events given steps due in rw there.1.1 refl

pub waiting_in_order : (old new : HostCoreState) (events : List HostEvent) (given : ℕ) → HostEvents (host_begin old) events new → AreDue (none_due given) events
    → HostOrder old.client given (flat_map host_event_moves events ++ host_waiting_moves new)
waiting_in_order old new events given steps due =
    let there = stands_after_all old new events given steps due in
    let last = stand_onward host_side host_part (host_at_first old.client given) there.1.0 (flat_map host_event_moves events) (host_waiting_moves new) there.1.1 ∙ there.1.2.waiting in
    rw last refl
