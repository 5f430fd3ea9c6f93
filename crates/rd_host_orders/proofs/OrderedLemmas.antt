-- By deeds by which a host keeps its table, what it wrote and what it read that wasn't wrong is in order on each channel, and on the open one it stands where that leads.
use Rattle.std.proofs.Common.{◌≡◌, ◌≢◌, ◌⊎◌, ◌∙◌, refl, sym, ap, subst, inl, inr, ℕ, ◌+◌, ◌≤◌, ◌==◌, arith, Bool, true, false, cond, List, [], ◌∷◌, ◌++◌, reverse, Some, None, Option, Result, Ok, Err, is_ok, append_assoc, eq-eqb}
use Rattle.std.specs.Prelude.{IsOk, filter_map}
use Rattle.std.specs.List.{cons_option}
use Rattle.std.proofs.lemmas.Bool.{cases_eq}
use Rattle.std.proofs.lemmas.Bool.Decides.{nat_tests}
use Rattle.std.proofs.lemmas.List.{reverse-append}
use Rattle.rd_base.specs.Layout.{met}
use Rattle.rd_base.specs.Position.{at_start}
use Rattle.rd_hello.specs.declared.end_fault.EndFault.{EndFault}
use Rattle.rd_hello.specs.Moves.{Move, reads, writes}
use Rattle.rd_host.specs.Core.{HostCoreState, IsHostReady, host_hear, host_send}
use Rattle.rd_host.specs.declared.act.Act.{Act}
use Rattle.rd_host.specs.declared.act.Act.TheVariants as act
use Rattle.rd_host.specs.Order.{HostOrder}
use Rattle.rd_host_front.proofs.CoreLemmas.{asked_ready}
use Rattle.rd_irp.specs.Request.{request_head}
use Rattle.rd_irp.specs.declared.request.Request.{Request}
use Rattle.rd_orders.proofs.HostOrders.{HearsOf, HostNow, host_asks_now, host_begins_now, host_hears_now, host_now_ordered, host_sends_now, host_table_now, host_tells_now}
use Rattle.rd_orders.proofs.SayingLemmas.{request_met}
use Rattle.rd_pending.proofs.Effects as effects
use Rattle.rd_pending.proofs.Neutral.{AreNeutral}
use Rattle.rd_pending.proofs.Tame.{newest}
use Rattle.rd_pending.specs.History.{after, lives_before}
use Rattle.rd_pending.specs.Outcomes.{Accepted}
use Rattle.rd_pending.specs.Table as table
use Rattle.rd_pending.specs.Table.{TableState}
use Rattle.rd_deeds.proofs.Calls.{Does, neutral_reading, table_of}
use Rattle.rd_deeds.proofs.Written.{Matches, requests_on, sound_side, written}
use Rattle.rd_deeds.specs.Host.{HostSide, hears, host_heard, next_message, side_sends}
use Rattle.rd_deeds.specs.HostDeeds.{calls_by, calls_of, side_of}
use Rattle.rd_deeds.specs.Joining.{accepted}
use Rattle.rd_world.specs.Recording.{client_id}
use Rattle.rd_deeds.specs.Talk.{Deed, EachAfter, adds, client_reads, client_writes, completes, host_begins, host_ends, host_moves, host_reads, host_writes, host_wrote, on, removes, request_in, stores, submits, takes, tells}
use Rattle.rd_host_orders.specs.SoundMoves.{IsSoundOn, sound_moves, written_in}
use Rattle.rd_host_orders.proofs.SideLemmas.{IsReadied, IsStill, IsWithin, neutral_sending, number, open_below, readied, ready_is, within, wrong_still}

-- ---- all that was written is counted

pub all_written : (c : ℕ) (deeds : List Deed) → filter_map written_in (sound_moves c deeds) ≡ host_wrote c deeds
all_written c [] = refl
all_written c (host_reads channel message ∷ before) = by (is_ok (host_hear (side_of client_id before).core message).1) (channel == c) ∙ all_written c before
  where
    by : (a b : Bool) → filter_map written_in (cons_option (cond a (cond b (Some (reads message)) None) None) (sound_moves c before)) ≡ filter_map written_in (sound_moves c before)
    by true true = refl
    by true false = refl
    by false b = refl
all_written c (host_writes channel message ∷ before) = by (channel == c) (all_written c before)
  where
    by : (b : Bool) → filter_map written_in (sound_moves c before) ≡ host_wrote c before
        → filter_map written_in (cons_option (cond b (Some (writes message)) None) (sound_moves c before)) ≡ cons_option (cond b (Some message) None) (host_wrote c before)
    by true same = ap (λ (ms : List (List ℕ)). message ∷ ms) same
    by false same = same
all_written c (host_begins channel ∷ before) = all_written c before
all_written c (host_ends channel ∷ before) = all_written c before
all_written c (removes device ∷ before) = all_written c before
all_written c (adds device ∷ before) = all_written c before
all_written c (submits application named o ∷ before) = all_written c before
all_written c (takes n ∷ before) = all_written c before
all_written c (tells n ∷ before) = all_written c before
all_written c (client_reads channel message ∷ before) = all_written c before
all_written c (client_writes channel message ∷ before) = all_written c before
all_written c (completes key message ∷ before) = all_written c before
all_written c (stores device item ∷ before) = all_written c before

-- ---- where it stands

abbrev pub open_in : List Deed → Option ℕ
open_in deeds = ((side_of client_id deeds).table).channel

abbrev pub given_before : List Deed → ℕ → ℕ
given_before deeds x = lives_before x (calls_of client_id deeds)

-- What it read and wrote on each channel is in order, and there is nothing of channels that may begin; on the open one it stands where its moves lead.
pub record IsOrdered (deeds : List Deed) : Type 0 where
  pub later : (x : ℕ) → ((side_of client_id deeds).table).below ≤ x → sound_moves x deeds ≡ []
  pub orders : (x : ℕ) → HostOrder client_id (given_before deeds x) (reverse (sound_moves x deeds))
  pub now : (x : ℕ) → open_in deeds ≡ Some x → HostNow (given_before deeds x) (sound_moves x deeds) (side_of client_id deeds)

-- a channel is open or not
pub is_open_or : (o : Option ℕ) (x : ℕ) → (o ≡ Some x) ⊎ (o ≢ Some x)
is_open_or None x = inr (λ e. cc e)
is_open_or (Some c) x = elim (cases_eq c x) [
  | inl same ↦ inl (ap Some same)
  | inr other ↦ inr (λ e. let same : c ≡ x = cc e in absurd (other same))
]

module _ (before : List Deed) (deed : Deed) (may : Does client_id (deed ∷ before)) (o : IsOrdered before) where
  -- What begins and ends no channel leaves the moves of all but the open one; there it stands where its moves lead.
  goes_on : IsWithin before deed → ((x : ℕ) → open_in before ≢ Some x → sound_moves x (deed ∷ before) ≡ sound_moves x before)
      → ((x : ℕ) → open_in before ≡ Some x → HostNow (given_before before x) (sound_moves x before) (side_of client_id before)
      → HostNow (given_before before x) (sound_moves x (deed ∷ before)) (side_of client_id (deed ∷ before)))
      → IsOrdered (deed ∷ before)
  goes_on w moved on = record {
    later = λ x above. let far : ((side_of client_id before).table).below ≤ x = omega (arith, w.below, above) in
        moved x (λ is. let low = open_below before x may.1 is in absurd (omega (arith, low, far))) ∙ o.later x far;
    orders = λ x. subst (λ (n : ℕ). HostOrder client_id n (reverse (sound_moves x (deed ∷ before)))) (sym (w.given x)) (elim (is_open_or (open_in before) x) [
      | inl is ↦ host_now_ordered (given_before before x) (sound_moves x (deed ∷ before)) (side_of client_id (deed ∷ before)) (on x is (o.now x is))
      | inr other ↦ subst (λ (ms : List Move). HostOrder client_id (given_before before x) (reverse ms)) (sym (moved x other)) (o.orders x)
    ]);
    now = λ x is.
        let was : open_in before ≡ Some x = sym w.channel ∙ is in
        subst (λ (n : ℕ). HostNow n (sound_moves x (deed ∷ before)) (side_of client_id (deed ∷ before))) (sym (w.given x)) (on x was (o.now x was));
  }

-- ---- what is written

matched : (xs : List Accepted) (before after : List (List ℕ)) (m : List ℕ) → Matches xs (before ++ m ∷ after) → (r : Request) × (request_in m ≡ Some r)
matched [] [] after m p = absurd p
matched [] (x ∷ before) after m p = absurd p
matched (a ∷ xs) [] after m p = (_, p.0)
matched (a ∷ xs) (x ∷ before) after m p = matched xs before after m p.1

-- a request that is to be sent on the open channel is one
pub asked_request : (deeds : List Deed) (c : ℕ) → Does client_id deeds → open_in deeds ≡ Some c → (m : List ℕ) (others : List (List ℕ)) → ((side_of client_id deeds).table).outbox ≡ m ∷ others → (r : Request) × (request_in m ≡ Some r)
asked_request deeds c may is m others asked =
    let wrote = written client_id deeds may c in
    let parts : wrote.unsent ≡ reverse others ++ m ∷ [] = wrote.in_outbox is ∙ ap reverse asked ∙ reverse-append (m ∷ []) others in
    let old : List (List ℕ) = requests_on c deeds in
    let xs : List Accepted = newest c (accepted client_id deeds) in
    matched xs (reverse others) old m (subst (Matches xs) (ap (λ (ms : List (List ℕ)). ms ++ old) parts ∙ append_assoc (reverse others) (m ∷ []) old) wrote.matches)

-- a host that has a request to send is ready
asks_ready : (s : HostSide) (m : List ℕ) (others : List (List ℕ)) → IsReadied s → (s.table).outbox ≡ m ∷ others → IsHostReady s.core
asks_ready s m others (inl ready) asked = ready_is ((s.core).core).shake ready
asks_ready s m others (inr idle) asked = let none : m ∷ others ≡ [] = sym asked ∙ idle.outbox in absurd (cc none)

-- a message is sent, which is a request that may be asked where it is the table's
sent_now : (s : HostSide) (given : ℕ) (moves : List Move) (message : List ℕ)
    → ((x : List ℕ) (others : List (List ℕ)) → (s.table).outbox ≡ x ∷ others → IsHostReady s.core × IsOk (met request_head (at_start x)))
    → next_message s ≡ Some message → HostNow given moves s → HostNow given (writes message ∷ moves) (side_sends s)
sent_now s given moves message may next n = own ((s.core).core).outbox refl
  where
    asks : (o : List (List ℕ)) → (s.table).outbox ≡ o → ((s.core).core).outbox ≡ [] → HostNow given (writes message ∷ moves) (side_sends s)
    asks [] asked none = let nothing : next_message s ≡ None = rw (none, asked) refl in absurd (cc (nothing, next))
    asks (x ∷ others) asked none =
        let first : next_message s ≡ Some x = rw (none, asked) refl in
        let same : x ≡ message = cc (first, next) in
        let after : side_sends s ≡ record s { table = record s.table { outbox = others } } = rw (none, asked) refl in
        let (ready, head) = may x others asked in
        subst (HostNow given (writes message ∷ moves)) (sym after)
        (host_asks_now given s (record s.table { outbox = others }) message moves
        (record { ready = ready; sent = none; head = subst (λ (y : List ℕ). IsOk (met request_head (at_start y))) same head }) refl refl n)

    own : (o : List (List ℕ)) → ((s.core).core).outbox ≡ o → HostNow given (writes message ∷ moves) (side_sends s)
    own [] empty = asks (s.table).outbox refl empty
    own (x ∷ others) some =
        let first : next_message s ≡ Some x = rw some refl in
        let same : x ≡ message = cc (first, next) in
        let new : HostCoreState = record s.core { core = record (s.core).core { outbox = others } } in
        let after : side_sends s ≡ record s { core = new } = rw some refl in
        let sent : host_send s.core ≡ (new, Some x) = rw some refl in
        subst (HostNow given (writes message ∷ moves)) (sym after) (host_sends_now given s new message moves (sent ∙ ap (λ (y : List ℕ). (new, Some y)) same) n)

-- the first request of the table may be asked
may_ask : (before : List Deed) (c : ℕ) → Does client_id before → open_in before ≡ Some c → (x : List ℕ) (others : List (List ℕ)) → ((side_of client_id before).table).outbox ≡ x ∷ others
    → IsHostReady (side_of client_id before).core × IsOk (met request_head (at_start x))
may_ask before c may is x others asked =
    let (r, spelled) = asked_request before c may is x others asked in
    let (head, is_met) = request_met x r spelled in
    (asks_ready (side_of client_id before) x others (readied before may) asked, ap is_ok is_met)

-- ---- what is read

-- a fault leaves a host where it stands
still_now : (s : HostSide) (h : HostCoreState) (given : ℕ) (moves : List Move) → IsStill s.core h → HostNow given moves s → HostNow given moves (record s { core = h })
still_now s h given moves still n = record { stand = n.stand; replying = n.replying; is = n.is; at = record { state = n.at.state ∙ sym still.shake; waiting = rw (still.outbox, still.shake) n.at.waiting }; lives = n.lives }

heard_now : (s : HostSide) (c given : ℕ) (moves : List Move) (message : List ℕ) → (s.table).channel ≡ Some c → HostNow given moves s
    → HostNow given (cons_option (cond (is_ok (host_hear s.core message).1) (Some (reads message)) None) moves) (hears s message)
heard_now s c given moves message opened n = by (host_hear s.core message) refl
  where
    of : (h : HostCoreState) (a : Act) → host_hear s.core message ≡ (h, Ok a) → HearsOf given s a h
    of h act.Nothing e = tt
    of h (act.Announced list) e = (asked_ready s.core h message (act.Announced list) tt e, (c, opened))
    of h (act.Removed ids) e = tt
    of h (act.Complete head bytes) e = tt

    by : (r : HostCoreState × Result Act EndFault) → host_hear s.core message ≡ r
        → HostNow given (cons_option (cond (is_ok r.1) (Some (reads message)) None) moves) (host_heard (record s { core = r.0 }) r.1)
    by (h, Err fault) e = still_now s h given moves (wrong_still s.core h message fault e) n
    by (h, Ok a) e = host_hears_now given s message moves h a e (of h a e) n

-- ---- a channel begins

same_number : (c : ℕ) → (c == c) ≡ true
same_number c = eq-eqb c c refl

pub other_number : (c x : ℕ) → x ≢ c → (c == x) ≡ false
other_number c x other = grind (arith, nat_tests)

pub begun_is : (t : TableState) (channel : ℕ) → t.channel ≡ None → (table.begin t channel).0 ≡ record t { channel = Some channel; below = channel + 1; asked = 0; begun = 0 }
begun_is t channel shut = rw shut refl

module _ (before : List Deed) (channel : ℕ) (may : Does client_id (host_begins channel ∷ before)) (o : IsOrdered before) where
  abbrev old : TableState
  old = (side_of client_id before).table

  abbrev new : TableState
  new = (table.begin old channel).0

  abbrev deeds : List Deed
  deeds = host_begins channel ∷ before

  is_new : new ≡ record old { channel = Some channel; below = channel + 1; asked = 0; begun = 0 }
  is_new = begun_is old channel may.0.0

  none : sound_moves channel before ≡ []
  none = o.later channel may.0.1

  here : given_before deeds channel ≡ new.given
  here =
      let own : given_before deeds channel ≡ (after (calls_of client_id before)).given = rw (same_number channel) refl in
      own ∙ ap (λ (t : TableState). t.given) (table_of client_id before) ∙ sym (ap (λ (t : TableState). t.given) is_new)

  elsewhere : (x : ℕ) → x ≢ channel → given_before deeds x ≡ given_before before x
  elsewhere x other = rw (other_number channel x other) refl

  no_lives : new.lives ≡ []
  no_lives = ap (λ (t : TableState). t.lives) is_new ∙ ((sound_side client_id before may.1).slots.closed may.0.0).1

  fresh : HostNow (given_before deeds channel) (sound_moves channel deeds) (side_of client_id deeds)
  fresh =
      subst (λ (ms : List Move). HostNow (given_before deeds channel) ms (side_of client_id deeds)) (sym none)
      (subst (λ (n : ℕ). HostNow n [] (side_of client_id deeds)) (sym here) (host_begins_now (side_of client_id before).core new (number before) no_lives))

  began : IsOrdered deeds
  began = record {
    later = λ x above. (let edge : new.below ≡ channel + 1 = ap (λ (t : TableState). t.below) is_new in let low : old.below ≤ channel = may.0.1 in o.later x (omega (arith, above, edge, low)));
    orders = λ x. elim (cases_eq x channel) [
      | inl same ↦ subst (λ (n : ℕ). HostOrder client_id (given_before deeds n) (reverse (sound_moves n deeds))) (sym same)
          (host_now_ordered (given_before deeds channel) (sound_moves channel deeds) (side_of client_id deeds) fresh)
      | inr other ↦ subst (λ (n : ℕ). HostOrder client_id n (reverse (sound_moves x deeds))) (sym (elsewhere x other)) (o.orders x)
    ];
    now = λ x is.
        let opened : new.channel ≡ Some channel = ap (λ (t : TableState). t.channel) is_new in
        let same : channel ≡ x = cc (opened, is) in
        subst (λ (n : ℕ). HostNow (given_before deeds n) (sound_moves n deeds) (side_of client_id deeds)) same fresh;
  }

-- ---- each deed

-- one that reads and writes nothing, and leaves the side as it is
unmoved : (before : List Deed) (deed : Deed) → Does client_id (deed ∷ before) → IsOrdered before → AreNeutral (calls_by (side_of client_id before) deed)
    → ((x : ℕ) → sound_moves x (deed ∷ before) ≡ sound_moves x before)
    → ((given : ℕ) (moves : List Move) → HostNow given moves (side_of client_id before) → HostNow given moves (side_of client_id (deed ∷ before))) → IsOrdered (deed ∷ before)
unmoved before deed may o neutral same on =
    goes_on before deed may o (within before deed neutral may) (λ x other. same x)
    (λ x is n. subst (λ (ms : List Move). HostNow (given_before before x) ms (side_of client_id (deed ∷ before))) (sym (same x)) (on (given_before before x) (sound_moves x before) n))

wrote_one : (before : List Deed) (channel : ℕ) (message : List ℕ) (may : Does client_id (host_writes channel message ∷ before)) → IsOrdered before → IsOrdered (host_writes channel message ∷ before)
wrote_one before channel message may o =
    goes_on before (host_writes channel message) may o (within before (host_writes channel message) (neutral_sending (((side_of client_id before).core).core).outbox) may) away on_it
  where
    away : (x : ℕ) → open_in before ≢ Some x → sound_moves x (host_writes channel message ∷ before) ≡ sound_moves x before
    away x other = rw (other_number channel x (λ same. absurd (other (may.0.0 ∙ ap Some (sym same))))) refl

    on_it : (x : ℕ) → open_in before ≡ Some x → HostNow (given_before before x) (sound_moves x before) (side_of client_id before)
        → HostNow (given_before before x) (sound_moves x (host_writes channel message ∷ before)) (side_of client_id (host_writes channel message ∷ before))
    on_it x is n =
        let same : channel ≡ x = (let both : Some channel ≡ Some x = sym may.0.0 ∙ is in cc both) in
        let moves : sound_moves x (host_writes channel message ∷ before) ≡ writes message ∷ sound_moves x before = rw (eq-eqb channel x same) refl in
        subst (λ (ms : List Move). HostNow (given_before before x) ms (side_sends (side_of client_id before))) (sym moves) (sent_now (side_of client_id before) (given_before before x) (sound_moves x before) message (may_ask before x may.1 is) may.0.1 n)

read_one : (before : List Deed) (channel : ℕ) (message : List ℕ) (may : Does client_id (host_reads channel message ∷ before)) → IsOrdered before → IsOrdered (host_reads channel message ∷ before)
read_one before channel message may o =
    goes_on before (host_reads channel message) may o (within before (host_reads channel message) (neutral_reading s.table (host_hear s.core message).1) may) away on_it
  where
    s : HostSide
    s = side_of client_id before

    away : (x : ℕ) → open_in before ≢ Some x → sound_moves x (host_reads channel message ∷ before) ≡ sound_moves x before
    away x other = rw (other_number channel x (λ same. absurd (other (may.0 ∙ ap Some (sym same))))) (by (is_ok (host_hear s.core message).1))
      where
        by : (b : Bool) → cons_option (cond {A = Option Move} b None None) (sound_moves x before) ≡ sound_moves x before
        by true = refl
        by false = refl

    on_it : (x : ℕ) → open_in before ≡ Some x → HostNow (given_before before x) (sound_moves x before) s
        → HostNow (given_before before x) (sound_moves x (host_reads channel message ∷ before)) (hears s message)
    on_it x is n =
        let same : channel ≡ x = (let both : Some channel ≡ Some x = sym may.0 ∙ is in cc both) in
        let moves : sound_moves x (host_reads channel message ∷ before) ≡ cons_option (cond (is_ok (host_hear s.core message).1) (Some (reads message)) None) (sound_moves x before) = rw (eq-eqb channel x same) refl in
        subst (λ (ms : List Move). HostNow (given_before before x) ms (hears s message)) (sym moves) (heard_now s x (given_before before x) (sound_moves x before) message is n)

pub ordered : (deeds : List Deed) → Does client_id deeds → IsOrdered deeds
ordered [] may = record { later = λ x above. refl; orders = λ x. refl; now = λ x is. absurd (cc is) }
ordered (host_begins channel ∷ before) may = began before channel may (ordered before may.1)
ordered (host_ends channel ∷ before) may = let o = ordered before may.1 in record { later = o.later; orders = o.orders; now = λ x is. absurd (cc is) }
ordered (submits application named a ∷ before) may =
    let s = side_of client_id before in
    let new = (effects.submits s.table application named a may.0.2).new in
    unmoved before (submits application named a) may (ordered before may.1) (tt, tt) (λ x. refl)
    (λ given moves n. host_table_now given s (table.submit s.table application named a).0 moves (ap (λ (t : TableState). t.lives) new) (ap (λ (t : TableState). t.given) new) n)
ordered (takes count ∷ before) may =
    let s = side_of client_id before in
    let new = (effects.takes s.table count may.0).new in
    unmoved before (takes count) may (ordered before may.1) (tt, tt) (λ x. refl)
    (λ given moves n. host_table_now given s (table.take s.table count).0 moves (ap (λ (t : TableState). t.lives) new) (ap (λ (t : TableState). t.given) new) n)
ordered (tells notice ∷ before) may =
    unmoved before (tells notice) may (ordered before may.1) tt (λ x. refl) (λ given moves n. host_tells_now given (side_of client_id before) notice moves may.0.1 n)
ordered (host_writes channel message ∷ before) may = wrote_one before channel message may (ordered before may.1)
ordered (host_reads channel message ∷ before) may = read_one before channel message may (ordered before may.1)
ordered (removes device ∷ before) may = unmoved before (removes device) may (ordered before may.1) tt (λ x. refl) (λ given moves n. n)
ordered (adds device ∷ before) may = unmoved before (adds device) may (ordered before may.1) tt (λ x. refl) (λ given moves n. n)
ordered (client_reads channel message ∷ before) may = unmoved before (client_reads channel message) may (ordered before may.1) tt (λ x. refl) (λ given moves n. n)
ordered (client_writes channel message ∷ before) may = unmoved before (client_writes channel message) may (ordered before may.1) tt (λ x. refl) (λ given moves n. n)
ordered (completes key message ∷ before) may = unmoved before (completes key message) may (ordered before may.1) tt (λ x. refl) (λ given moves n. n)
ordered (stores device item ∷ before) may = unmoved before (stores device item) may (ordered before may.1) tt (λ x. refl) (λ given moves n. n)

-- ---- where nothing was wrong

pub all_sound : (c : ℕ) (deeds : List Deed) → EachAfter (IsSoundOn c) deeds → sound_moves c deeds ≡ host_moves c deeds
all_sound c [] right = refl
all_sound c (host_reads channel message ∷ before) right = elim (cases_eq channel c) [
  | inl same ↦ rw (right.0 same, eq-eqb channel c same) (ap (λ (ms : List Move). reads message ∷ ms) (all_sound c before right.1))
  | inr other ↦ rw (other_number channel c (λ same. other (sym same))) (by (is_ok (host_hear (side_of client_id before).core message).1) ∙ all_sound c before right.1)
]
  where
    by : (b : Bool) → cons_option (cond {A = Option Move} b None None) (sound_moves c before) ≡ sound_moves c before
    by true = refl
    by false = refl
all_sound c (host_writes channel message ∷ before) right = ap (cons_option (on c channel (writes message))) (all_sound c before right.1)
all_sound c (host_begins channel ∷ before) right = all_sound c before right.1
all_sound c (host_ends channel ∷ before) right = all_sound c before right.1
all_sound c (removes device ∷ before) right = all_sound c before right.1
all_sound c (adds device ∷ before) right = all_sound c before right.1
all_sound c (submits application named o ∷ before) right = all_sound c before right.1
all_sound c (takes n ∷ before) right = all_sound c before right.1
all_sound c (tells n ∷ before) right = all_sound c before right.1
all_sound c (client_reads channel message ∷ before) right = all_sound c before right.1
all_sound c (client_writes channel message ∷ before) right = all_sound c before right.1
all_sound c (completes key message ∷ before) right = all_sound c before right.1
all_sound c (stores device item ∷ before) right = all_sound c before right.1
