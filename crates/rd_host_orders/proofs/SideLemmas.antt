-- A host's side after deeds by which it keeps its table: its ClientId stays, and where it isn't ready no device has a life in its table and no request is to be sent.
use Rattle.std.proofs.Common.{◌≡◌, ◌⊎◌, ◌∙◌, refl, sym, ap, subst, inl, inr, ℕ, ◌<◌, Bool, true, false, List, [], ◌∷◌, ◌++◌, fold, Some, None, Option, Result, Ok, Err}
use Rattle.std.specs.Map.{lookup}
use Rattle.std.specs.Ordering.{nat_cmp}
use Rattle.std.specs.BTreeMap.{is_at}
use Rattle.rd_core.specs.Core.{CoreState}
use Rattle.rd_core.specs.Hearing.{Meaning, hear, hear_said, hear_unless, nothing, opens, said, says, wrong}
use Rattle.rd_devices.specs.declared.list.Announce.{Announce}
use Rattle.rd_hello.specs.declared.end_fault.EndFault.{EndFault}
use Rattle.rd_hello.specs.declared.host.HostState.{HostState}
use Rattle.rd_hello.specs.declared.host.HostState.TheVariants.{Ready}
use Rattle.rd_host.specs.Core.{HostCoreState, host_hear, host_hear_made, host_side}
use Rattle.rd_host.specs.Order.{is_host_ready}
use Rattle.rd_host.specs.declared.act.Act.{Act}
use Rattle.rd_host.specs.declared.act.Act.TheVariants as act
use Rattle.rd_host.specs.Served.{is_served_type}
use Rattle.rd_host_front.proofs.CoreLemmas.{asked_ready}
use Rattle.rd_pending.proofs.Effects as effects
use Rattle.rd_pending.proofs.Neutral.{AreNeutral, channel_all, lives_all}
use Rattle.rd_pending.specs.History as call
use Rattle.rd_pending.specs.History.{Call, Holds, after, lives_before}
use Rattle.rd_pending.specs.Table as table
use Rattle.rd_pending.specs.Table.{Fate, TableState, Untaken, freed, life_of, untaken_at, with_fate}
use Rattle.rd_orders.proofs.ControlsReadyLemmas.{host_kept}
use Rattle.rd_deeds.proofs.Calls.{Does, calls_hold, table_of}
use Rattle.rd_deeds.proofs.Written.{sound_side}
use Rattle.rd_deeds.specs.Host.{HostSide, admits, forgets, hears, host_heard, side_sends}
use Rattle.rd_deeds.specs.HostDeeds.{calls_by, calls_of, sending, side_of}
use Rattle.rd_world.specs.Recording.{client_id}
use Rattle.rd_deeds.specs.Talk.{Deed, adds, client_reads, client_writes, completes, host_begins, host_ends, host_reads, host_writes, removes, stores, submits, takes, tells}

-- ---- a message that is wrong

-- it leaves the core as it is, but for its fault
pub record IsStill (old new : HostCoreState) : Type 0 where
  pub client : new.client ≡ old.client
  pub shake : (new.core).shake ≡ (old.core).shake
  pub outbox : (new.core).outbox ≡ (old.core).outbox

pub wrong_still : (old new : HostCoreState) (message : List ℕ) (fault : EndFault) → host_hear old message ≡ (new, Err fault) → IsStill old new
wrong_still old new message fault e = unless (old.core).fault e
  where
    answer : (x y : HostCoreState × Result Act EndFault) → x ≡ y → x.1 ≡ y.1
    answer x y e = ap (λ (z : HostCoreState × Result Act EndFault). z.1) e

    meant : (m : Meaning HostState Act) → host_hear_made old (hear_said host_side old.core m) ≡ (new, Err fault) → IsStill old new
    meant (wrong f) e = subst (IsStill old) (ap (λ (z : HostCoreState × Result Act EndFault). z.0) e) (record { client = refl; shake = refl; outbox = refl })
    meant nothing e = absurd (cc (answer _ _ e))
    meant (opens row) e = absurd (cc (answer _ _ e))
    meant (says b) e = absurd (cc (answer _ _ e))

    unless : (held : Option EndFault) → host_hear_made old (hear_unless host_side old.core message held) ≡ (new, Err fault) → IsStill old new
    unless (Some f) e = subst (IsStill old) (ap (λ (z : HostCoreState × Result Act EndFault). z.0) e) (record { client = refl; shake = refl; outbox = refl })
    unless None e = meant (said host_side (old.core).shake message) e

-- ---- what the table does by a message leaves the opening and the ClientId

pub record IsBeside (s t : HostSide) : Type 0 where
  pub client : (t.core).client ≡ (s.core).client
  pub shake : ((t.core).core).shake ≡ ((s.core).core).shake

beside_then : (s t u : HostSide) → IsBeside s t → IsBeside t u → IsBeside s u
beside_then s t u p q = record { client = q.client ∙ p.client; shake = q.shake ∙ p.shake }

admits_beside : (s : HostSide) (a : Announce) → IsBeside s (admits s a)
admits_beside s a = by (is_served_type a.kind) refl
  where
    by : (b : Bool) → is_served_type a.kind ≡ b → IsBeside s (admits s a)
    by true e = rw e (record { client = refl; shake = refl })
    by false e = rw e (record { client = refl; shake = refl })

all_admitted : (devices : List Announce) (s : HostSide) → IsBeside s (fold admits s devices)
all_admitted [] s = record { client = refl; shake = refl }
all_admitted (a ∷ devices) s = beside_then s (admits s a) _ (admits_beside s a) (all_admitted devices (admits s a))

all_forgotten : (ids : List ℕ) (s : HostSide) → IsBeside s (fold forgets s ids)
all_forgotten [] s = record { client = refl; shake = refl }
all_forgotten (id ∷ ids) s = beside_then s (forgets s id) _ (record { client = refl; shake = refl }) (all_forgotten ids (forgets s id))

pub heard_beside : (s : HostSide) (r : Result Act EndFault) → IsBeside s (host_heard s r)
heard_beside s (Err fault) = record { client = refl; shake = refl }
heard_beside s (Ok act.Nothing) = record { client = refl; shake = refl }
heard_beside s (Ok (act.Announced devices)) = all_admitted devices s
heard_beside s (Ok (act.Removed ids)) = all_forgotten ids s
heard_beside s (Ok (act.Complete head bytes)) = record { client = refl; shake = refl }

pub sends_beside : (s : HostSide) → IsBeside s (side_sends s)
sends_beside s = by ((s.core).core).outbox refl
  where
    by : (o : List (List ℕ)) → ((s.core).core).outbox ≡ o → IsBeside s (side_sends s)
    by [] e = rw e (record { client = refl; shake = refl })
    by (m ∷ ms) e = rw e (record { client = refl; shake = refl })

-- ---- the ClientId

heard_number : (h : HostCoreState) (r : CoreState HostState (List ℕ) × Result (Option Act) EndFault) → ((host_hear_made h r).0).client ≡ h.client
heard_number h (x, Err fault) = refl
heard_number h (x, Ok None) = refl
heard_number h (x, Ok (Some asks)) = refl

pub number : (deeds : List Deed) → ((side_of client_id deeds).core).client ≡ client_id
number [] = refl
number (host_begins channel ∷ before) = number before
number (host_ends channel ∷ before) = number before
number (removes device ∷ before) = number before
number (adds device ∷ before) = number before
number (submits application named o ∷ before) = number before
number (takes n ∷ before) = number before
number (tells n ∷ before) = number before
number (host_writes channel message ∷ before) = (sends_beside (side_of client_id before)).client ∙ number before
number (host_reads channel message ∷ before) =
    let s = side_of client_id before in
    let made = host_hear s.core message in
    (heard_beside (record s { core = made.0 }) made.1).client ∙ heard_number s.core (hear host_side (s.core).core message) ∙ number before
number (client_reads channel message ∷ before) = number before
number (client_writes channel message ∷ before) = number before
number (completes key message ∷ before) = number before
number (stores device item ∷ before) = number before

-- ---- it is ready, or its table has nothing

-- no device has a life, and no request is to be sent
pub record IsIdle (t : TableState) : Type 0 where
  pub lives : t.lives ≡ []
  pub outbox : t.outbox ≡ []

abbrev pub IsReadied : HostSide → Type 0
IsReadied s = (is_host_ready ((s.core).core).shake ≡ true) ⊎ IsIdle s.table

pub ready_is : (state : HostState) → is_host_ready state ≡ true → state ≡ Ready
ready_is Ready e = refl
ready_is _ e = absurd (cc e)

is_ready : (state : HostState) → state ≡ Ready → is_host_ready state ≡ true
is_ready state e = ap is_host_ready e

begun_idle : (t : TableState) (channel : ℕ) → t.channel ≡ None → t.lives ≡ [] → t.outbox ≡ [] → IsIdle (table.begin t channel).0
begun_idle t channel shut lives outbox = rw shut (record { lives = lives; outbox = outbox })

nobody_there : (t : TableState) (d life : ℕ) → t.lives ≡ [] → life_of t d ≡ Some life → ⊥
nobody_there t d life none there =
    let gone : life_of t d ≡ None = ap (λ (es : List (ℕ × ℕ)). lookup (is_at (nat_cmp d)) es) none in
    cc (gone, there)

sends_readied : (s : HostSide) → IsReadied s → IsReadied (side_sends s)
sends_readied s (inl ready) = inl (ap is_host_ready (sends_beside s).shake ∙ ready)
sends_readied s (inr idle) = inr (by ((s.core).core).outbox refl)
  where
    by : (o : List (List ℕ)) → ((s.core).core).outbox ≡ o → IsIdle (side_sends s).table
    by (m ∷ ms) e = rw e idle
    by [] e =
        let same : (side_sends s).table ≡ s.table = rw (e, idle.outbox) refl in
        subst IsIdle (sym same) idle

hears_readied : (s : HostSide) (message : List ℕ) → IsReadied s → IsReadied (hears s message)
hears_readied s message (inl ready) =
    let made = host_hear s.core message in
    inl (ap is_host_ready (heard_beside (record s { core = made.0 }) made.1).shake ∙ host_kept s.core message ready)
hears_readied s message (inr idle) = by (host_hear s.core message) refl
  where
    ready_after : (h : HostCoreState) (r : Result Act EndFault) → (h.core).shake ≡ Ready → IsReadied (host_heard (record s { core = h }) r)
    ready_after h r is = inl (ap is_host_ready (heard_beside (record s { core = h }) r).shake ∙ is_ready (h.core).shake is)

    by : (r : HostCoreState × Result Act EndFault) → host_hear s.core message ≡ r → IsReadied (host_heard (record s { core = r.0 }) r.1)
    by (h, Err fault) e = inr idle
    by (h, Ok act.Nothing) e = inr idle
    by (h, Ok (act.Announced devices)) e = ready_after h (Ok (act.Announced devices)) (asked_ready s.core h message (act.Announced devices) tt e)
    by (h, Ok (act.Removed ids)) e = ready_after h (Ok (act.Removed ids)) (asked_ready s.core h message (act.Removed ids) tt e)
    by (h, Ok (act.Complete head bytes)) e = ready_after h (Ok (act.Complete head bytes)) (asked_ready s.core h message (act.Complete head bytes) tt e)

pub readied : (deeds : List Deed) → Does client_id deeds → IsReadied (side_of client_id deeds)
readied [] may = inr (record { lives = refl; outbox = refl })
readied (host_begins channel ∷ before) may =
    let closed = (sound_side client_id before may.1).slots.closed may.0.0 in
    inr (begun_idle (side_of client_id before).table channel may.0.0 closed.1 closed.2)
readied (host_ends channel ∷ before) may = inr (record { lives = refl; outbox = refl })
readied (removes device ∷ before) may = readied before may.1
readied (adds device ∷ before) may = readied before may.1
readied (submits application named o ∷ before) may = elim (readied before may.1) [
  | inl ready ↦ inl ready
  | inr idle ↦
      let effect = effects.submits (side_of client_id before).table application named o may.0.2 in
      absurd (nobody_there (side_of client_id before).table _ effect.life idle.lives effect.present)
]
readied (takes n ∷ before) may = elim (readied before may.1) [
  | inl ready ↦ inl ready
  | inr idle ↦
      let new = (effects.takes (side_of client_id before).table n may.0).new in
      inr (record { lives = ap (λ (t : TableState). t.lives) new ∙ idle.lives; outbox = ap (λ (t : TableState). t.outbox) new ∙ idle.outbox })
]
readied (tells n ∷ before) may = readied before may.1
readied (host_writes channel message ∷ before) may = sends_readied (side_of client_id before) (readied before may.1)
readied (host_reads channel message ∷ before) may = hears_readied (side_of client_id before) message (readied before may.1)
readied (client_reads channel message ∷ before) may = readied before may.1
readied (client_writes channel message ∷ before) may = readied before may.1
readied (completes key message ∷ before) may = readied before may.1
readied (stores device item ∷ before) may = readied before may.1

-- ---- what begins and ends no channel

fate_below : (t : TableState) (n : ℕ) (f : Fate) → (with_fate t n f).below ≡ t.below
fate_below t n f = go (untaken_at t n) refl
  where
    go : (o : Option Untaken) → untaken_at t n ≡ o → (with_fate t n f).below ≡ t.below
    go None e = rw e refl
    go (Some u) e = rw e refl

below_kept : (xs h : List Call) → AreNeutral xs → Holds (xs ++ h) → (after (xs ++ h)).below ≡ (after h).below
below_kept [] h all holds = refl
below_kept (call.begins c ∷ xs) h all holds = absurd all.0
below_kept (call.drops ∷ xs) h all holds = absurd all.0
below_kept (call.lives d ∷ xs) h all holds = ap (λ (t : TableState). t.below) (effects.lives (after (xs ++ h)) d holds.0).new ∙ below_kept xs h all.1 holds.1
below_kept (call.removes d ∷ xs) h all holds = elim (effects.removes (after (xs ++ h)) d) [
  | inl none ↦ ap (λ (t : TableState). t.below) none.same ∙ below_kept xs h all.1 holds.1
  | inr effect ↦ ap (λ (t : TableState). t.below) effect.new ∙ below_kept xs h all.1 holds.1
]
below_kept (call.takes n ∷ xs) h all holds = ap (λ (t : TableState). t.below) (effects.takes (after (xs ++ h)) n holds.0).new ∙ below_kept xs h all.1 holds.1
below_kept (call.submits a named o ∷ xs) h all holds = ap (λ (t : TableState). t.below) (effects.submits (after (xs ++ h)) a named o holds.0.1).new ∙ below_kept xs h all.1 holds.1
below_kept (call.completes head bytes ∷ xs) h all holds =
    let done = effects.completes (after (xs ++ h)) head bytes holds.0.2 in
    elim done.effect [
      | inl late ↦ ap (λ (t : TableState). t.below) late.new ∙ below_kept xs h all.1 holds.1
      | inr given ↦ ap (λ (t : TableState). t.below) given.new ∙ fate_below (freed (after (xs ++ h)) head.completion) (done.slot).number _ ∙ below_kept xs h all.1 holds.1
    ]
below_kept (call.sends ∷ xs) h all holds = by (after (xs ++ h)).outbox refl ∙ below_kept xs h all.1 holds.1
  where
    by : (o : List (List ℕ)) → (after (xs ++ h)).outbox ≡ o → ((table.send (after (xs ++ h))).0).below ≡ (after (xs ++ h)).below
    by [] e = rw e refl
    by (m ∷ ms) e = rw e refl

-- A deed whose calls begin and end no channel leaves which is open, above which one may begin, and what was given before each.
pub record IsWithin (before : List Deed) (deed : Deed) : Type 0 where
  pub channel : ((side_of client_id (deed ∷ before)).table).channel ≡ ((side_of client_id before).table).channel
  pub below : ((side_of client_id (deed ∷ before)).table).below ≡ ((side_of client_id before).table).below
  pub given : (x : ℕ) → lives_before x (calls_of client_id (deed ∷ before)) ≡ lives_before x (calls_of client_id before)

pub within : (before : List Deed) (deed : Deed) → AreNeutral (calls_by (side_of client_id before) deed) → Does client_id (deed ∷ before) → IsWithin before deed
within before deed neutral may =
    let more : List Call = calls_by (side_of client_id before) deed in
    record {
      channel = ap (λ (t : TableState). t.channel) (sym (table_of client_id (deed ∷ before))) ∙ channel_all more (calls_of client_id before) neutral ∙ ap (λ (t : TableState). t.channel) (table_of client_id before);
      below = ap (λ (t : TableState). t.below) (sym (table_of client_id (deed ∷ before))) ∙ below_kept more (calls_of client_id before) neutral (calls_hold client_id (deed ∷ before) may)
          ∙ ap (λ (t : TableState). t.below) (table_of client_id before);
      given = λ x. lives_all x more (calls_of client_id before) neutral;
    }

pub neutral_sending : (o : List (List ℕ)) → AreNeutral (sending o)
neutral_sending [] = (tt, tt)
neutral_sending (m ∷ ms) = tt

-- the channel that is open is below each that may begin
pub open_below : (deeds : List Deed) (c : ℕ) → Does client_id deeds → ((side_of client_id deeds).table).channel ≡ Some c → c < ((side_of client_id deeds).table).below
open_below deeds c may is = (sound_side client_id deeds may).below c is
