-- A host stands in the order of its messages, event by event, and each reply that it gives is the next one that is due.
use Rattle.std.proofs.Common.{◌≡◌, ◌∙◌, refl, sym, ap, subst, ℕ, ◌==◌, Bool, true, false, List, [], ◌∷◌, ◌++◌, reverse, fold, Some, Option, Ok, append_assoc, eq-eqb, is_some, length, ◌+◌}
use Rattle.std.specs.Prelude.{if◌then◌else◌, IsSome}
use Rattle.std.specs.Map.{keys_of, lookup}
use Rattle.std.specs.Ordering.{nat_cmp}
use Rattle.std.specs.BTreeMap.{is_at}
use Rattle.std.specs.List.Sorted.{IsStrictlySortedBy}
use Rattle.std.proofs.lemmas.List.{reverse-append}
use Rattle.rd_base.specs.declared.status.Status.{Status}
use Rattle.rd_base.specs.Statuses as status
use Rattle.rd_core.proofs.OrderLemmas.{stand_onward}
use Rattle.rd_devices.specs.declared.list.Announce.{Announce}
use Rattle.rd_devices.specs.declared.reply.DeviceReply.{DeviceReply}
use Rattle.rd_hello.specs.Moves.{Move, reads, writes}
use Rattle.rd_host.proofs.OrderLemmas.{event_stands, stands_at_first}
use Rattle.rd_host.specs.Core as host
use Rattle.rd_host.specs.Core.{HostCoreState, IsHostReady, MayTell, hears, host_begin, host_hear, host_send, host_side, replies, sends, tells}
use Rattle.rd_host.specs.declared.act.Act.{Act}
use Rattle.rd_host.specs.declared.act.Act.TheVariants as act
use Rattle.rd_host.specs.Events.{HostEvent, HostEventStep, HostStandsAt, MayAsk, asks, calls, due_after, due_given, host_event_moves}
use Rattle.rd_host.specs.Order.{HostOrder, HostStanding, Replying, after_act, host_at_first, host_part, none_due, stand_after, with_device_reply, with_reply, without_device}
use Rattle.rd_host.specs.Served.{code_for}
use Rattle.rd_pending.specs.Table as table
use Rattle.rd_pending.specs.Table.{TableState}
use Rattle.rd_printer.specs.declared.notice.Notice.{Notice}
use Rattle.rd_deeds.specs.Host.{HostSide, admits, forgets, host_heard}
use Rattle.rd_world.specs.Recording.{client_id}
use Rattle.rd_orders.proofs.LifeLemmas.{AreLives, admitted, completed_lives, removed_lives, same_lives}

-- ---- replies that are due come before those that are added

abbrev due_first : List DeviceReply → Replying → Replying
due_first first r = record r { due = first ++ r.due }

reply_first : (first : List DeviceReply) (r : Replying) (device : ℕ) (code : Status) → with_reply (due_first first r) device code ≡ due_first first (with_reply r device code)
reply_first first r device code = by (code.0 == (status.success).0)
  where
    by : (b : Bool)
        → (let due = (first ++ r.due) ++ record { id = device; code = code } ∷ [] in if b then record { due = due; alive = r.alive ++ device ∷ []; given = r.given + 1 } else record r { due = due })
        ≡ due_first first (let due = r.due ++ record { id = device; code = code } ∷ [] in if b then record { due = due; alive = r.alive ++ device ∷ []; given = r.given + 1 } else record r { due = due })
    by true = ap (λ (due : List DeviceReply). record { due = due; alive = r.alive ++ device ∷ []; given = r.given + 1 }) (append_assoc first r.due (record { id = device; code = code } ∷ []))
    by false = ap (λ (due : List DeviceReply). record r { due = due }) (append_assoc first r.due (record { id = device; code = code } ∷ []))

devices_first : (first : List DeviceReply) (r : Replying) (devices : List Announce) → fold with_device_reply (due_first first r) devices ≡ due_first first (fold with_device_reply r devices)
devices_first first r [] = refl
devices_first first r (a ∷ devices) =
    ap (λ q. fold with_device_reply q devices) (reply_first first r a.id (code_for r.alive r.given a.kind a.id)) ∙ devices_first first (with_device_reply r a) devices

-- ---- where a host stands

module _ (given : ℕ) where
  -- By these moves, the newest first, a host stands somewhere in the order of its messages, and no more replies are due than it has to send.
  pub record HostNow (moves : List Move) (s : HostSide) : Type 0 where
    pub stand : HostStanding
    pub replying : Replying
    pub is : stand_after (host_at_first client_id given) (reverse moves) ≡ Some stand
    pub at : HostStandsAt stand replying s.core
    pub lives : AreLives replying s.table

  pub host_now_ordered : (moves : List Move) (s : HostSide) → HostNow moves s → HostOrder client_id given (reverse moves)
  host_now_ordered moves s n = subst (λ (o : Option HostStanding). IsSome o) (sym n.is) refl

  -- where it stands once the moves of an event are made
  record Goes (moves : List Move) (r : Replying) (h : HostCoreState) : Type 0 where
    stand : HostStanding
    is : stand_after (host_at_first client_id given) (reverse moves) ≡ Some stand
    at : HostStandsAt stand r h

  one_event : (moves more : List Move) (r q : Replying) (old new : HostCoreState) (event : HostEvent) → host_event_moves event ≡ reverse more → HostEventStep old event new → due_after r event ≡ Some q
      → Goes moves r old → Goes (more ++ moves) q new
  one_event moves more r q old new event are step due g =
      let next = event_stands g.stand r q old new event g.at step due in
      record {
        stand = next.0;
        is = ap (stand_after (host_at_first client_id given)) (reverse-append more moves ∙ ap (λ (ms : List Move). reverse moves ++ ms) (sym are))
            ∙ stand_onward host_side host_part (host_at_first client_id given) g.stand (reverse moves) (host_event_moves event) g.is ∙ next.1;
        at = next.2;
      }

  -- ---- what a host does

  pub host_sends_now : (s : HostSide) (new : HostCoreState) (message : List ℕ) (moves : List Move) → host_send s.core ≡ (new, Some message) → HostNow moves s → HostNow (writes message ∷ moves) (record s { core = new })
  host_sends_now s new message moves made n =
      let g = one_event moves (writes message ∷ []) n.replying n.replying s.core new (calls (sends (Some message))) refl (tt, made) refl (record { stand = n.stand; is = n.is; at = n.at }) in
      record { stand = g.stand; replying = n.replying; is = g.is; at = g.at; lives = n.lives }

  pub host_asks_now : (s : HostSide) (x : TableState) (message : List ℕ) (moves : List Move) → MayAsk s.core message → x.lives ≡ (s.table).lives → x.given ≡ (s.table).given → HostNow moves s
      → HostNow (writes message ∷ moves) (record s { table = x })
  host_asks_now s x message moves may lives gave n =
      let g = one_event moves (writes message ∷ []) n.replying n.replying s.core s.core (asks message) refl (may, refl) refl (record { stand = n.stand; is = n.is; at = n.at }) in
      record { stand = g.stand; replying = n.replying; is = g.is; at = g.at; lives = same_lives n.replying s.table x lives gave n.lives }

  pub host_tells_now : (s : HostSide) (n : Notice) (moves : List Move) → MayTell s.core n → HostNow moves s → HostNow moves (record s { core = host.tell s.core n })
  host_tells_now s notice moves may n =
      let g = one_event moves [] n.replying n.replying s.core (host.tell s.core notice) (calls (tells notice (Ok tt))) refl (tt, (may, refl)) refl (record { stand = n.stand; is = n.is; at = n.at }) in
      record { stand = g.stand; replying = n.replying; is = g.is; at = g.at; lives = n.lives }

  pub host_table_now : (s : HostSide) (x : TableState) (moves : List Move) → x.lives ≡ (s.table).lives → x.given ≡ (s.table).given → HostNow moves s → HostNow moves (record s { table = x })
  host_table_now s x moves lives gave n = record { stand = n.stand; replying = n.replying; is = n.is; at = n.at; lives = same_lives n.replying s.table x lives gave n.lives }

  -- ---- what it heard

  -- devices are announced, one after the other
  all_admitted : (devices : List Announce) (moves : List Move) (r : Replying) (s : HostSide) (c : ℕ) → (s.table).channel ≡ Some c → IsHostReady s.core → AreLives r s.table → Goes moves (fold with_device_reply r devices) s.core
      → HostNow moves (fold admits s devices)
  all_admitted [] moves r s c opened ready lives g = record { stand = g.stand; replying = r; is = g.is; at = g.at; lives = lives }
  all_admitted (a ∷ devices) moves r s c opened ready lives g =
      let one = admitted r s a c opened lives in
      let reply : DeviceReply = record { id = a.id; code = one.code } in
      let rest : Replying = fold with_device_reply one.next devices in
      let none : one.next ≡ record one.next { due = [] } = ap (λ (due : List DeviceReply). record one.next { due = due }) one.lives.none_due in
      let first : with_device_reply r a ≡ due_first (reply ∷ []) one.next = one.replied ∙ ap (λ (due : List DeviceReply). record one.next { due = reply ∷ due }) (sym one.lives.none_due) in
      let all : fold with_device_reply r (a ∷ devices) ≡ due_first (reply ∷ []) rest = ap (λ (q : Replying). fold with_device_reply q devices) first ∙ devices_first (reply ∷ []) one.next devices in
      let before : Goes moves (due_first (reply ∷ []) rest) s.core = subst (λ (q : Replying). Goes moves q s.core) all g in
      let after : Goes moves rest (host.reply s.core a.id one.code) =
      one_event moves [] (due_first (reply ∷ []) rest) rest s.core (host.reply s.core a.id one.code) (calls (replies a.id one.code (Ok tt))) refl (tt, (ready, refl)) (given_first a.id one.code rest) before in
      subst (λ (x : HostSide). HostNow moves (fold admits x devices)) (sym one.made)
      (all_admitted devices moves one.next (record { core = host.reply s.core a.id one.code; table = one.table_after }) c (one.open_after ∙ opened) ready one.lives after)
    where
      given_first : (d : ℕ) (code : Status) (rest : Replying) → due_given (due_first (record { id = d; code = code } ∷ []) rest) d code (record { id = d; code = code } ∷ rest.due) ≡ Some rest
      given_first d code rest = rw (eq-eqb d d refl, eq-eqb code.0 code.0 refl) refl

  forgot_due : (ids : List ℕ) (r : Replying) (s : HostSide) → AreLives r s.table → AreLives (fold without_device r ids) (fold forgets s ids).table
  forgot_due [] r s lives = lives
  forgot_due (id ∷ ids) r s lives = forgot_due ids (without_device r id) (forgets s id) (removed_lives r s.table id lives)

  forgot_core : (ids : List ℕ) (s : HostSide) → (fold forgets s ids).core ≡ s.core
  forgot_core [] s = refl
  forgot_core (id ∷ ids) s = forgot_core ids (forgets s id)

  -- a message is heard that isn't wrong; devices are heard of on an open channel by a host that is ready
  abbrev pub HearsOf : HostSide → Act → HostCoreState → Type 0
  HearsOf s (act.Announced devices) h = IsHostReady h × ((c : ℕ) × ((s.table).channel ≡ Some c))
  HearsOf s a h = Unit {0}

  pub host_hears_now : (s : HostSide) (message : List ℕ) (moves : List Move) (h : HostCoreState) (a : Act) → host_hear s.core message ≡ (h, Ok a) → HearsOf s a h → HostNow moves s
      → HostNow (reads message ∷ moves) (host_heard (record s { core = h }) (Ok a))
  host_hears_now s message moves h a made of n = by a made of
    where
      heard : (a : Act) → host_hear s.core message ≡ (h, Ok a) → Goes (reads message ∷ moves) (after_act a n.replying) h
      heard a made = one_event moves (reads message ∷ []) n.replying (after_act a n.replying) s.core h (calls (hears message (Ok a))) refl (tt, made) refl (record { stand = n.stand; is = n.is; at = n.at })

      by : (a : Act) → host_hear s.core message ≡ (h, Ok a) → HearsOf s a h → HostNow (reads message ∷ moves) (host_heard (record s { core = h }) (Ok a))
      by act.Nothing made of = let g = heard act.Nothing made in record { stand = g.stand; replying = n.replying; is = g.is; at = g.at; lives = n.lives }
      by (act.Announced devices) made (ready, (c, opened)) = all_admitted devices (reads message ∷ moves) n.replying (record s { core = h }) c opened ready n.lives (heard (act.Announced devices) made)
      by (act.Removed ids) made of =
          let g = heard (act.Removed ids) made in
          record {
            stand = g.stand;
            replying = fold without_device n.replying ids;
            is = g.is;
            at = subst (HostStandsAt g.stand (fold without_device n.replying ids)) (sym (forgot_core ids (record s { core = h }))) g.at;
            lives = forgot_due ids n.replying (record s { core = h }) n.lives;
          }
      by (act.Complete head bytes) made of =
          let g = heard (act.Complete head bytes) made in
          let same = completed_lives s.table head bytes in
          record { stand = g.stand; replying = n.replying; is = g.is; at = g.at; lives = same_lives n.replying s.table (table.complete s.table head bytes).0 same.0 same.1 n.lives }

-- ---- a channel begins

none_rise : IsStrictlySortedBy nat_cmp (keys_of {K = ℕ} {X = ℕ} [])
unfolding IsStrictlySortedBy
none_rise = tt

pub host_begins_now : (h : HostCoreState) (x : TableState) → h.client ≡ client_id → x.lives ≡ [] → HostNow x.given [] (record { core = host_begin h; table = x })
host_begins_now h x own none = record {
  stand = host_at_first client_id x.given;
  replying = none_due x.given;
  is = refl;
  at = subst (λ (n : ℕ). HostStandsAt (host_at_first n x.given) (none_due x.given) (host_begin h)) own (stands_at_first h x.given);
  lives = record {
    none_due = refl;
    alive = λ d. ap (λ (es : List (ℕ × ℕ)). is_some (lookup (is_at (nat_cmp d)) es)) (sym none);
    long = ap (λ (es : List (ℕ × ℕ)). length es) (sym none);
    apart = tt;
    given = refl;
    rises = subst (λ (es : List (ℕ × ℕ)). IsStrictlySortedBy nat_cmp (keys_of es)) (sym none) none_rise;
  };
}
