-- Both ends of the open channel, and what is on its way between them.
use Rattle.std.proofs.Common.{◌≡◌, ◌∙◌, refl, sym, ap, subst, ℕ, Bool, true, false, List, [], ◌∷◌, ◌++◌, map, reverse, fold, Some, None, Option, append_assoc, append-nil}
use Rattle.std.specs.Prelude.{Result, Ok, Err, filter, if◌then◌else◌}
use Rattle.std.specs.List.{AllByRecursion}
use Rattle.std.proofs.lemmas.List.{append_cancel_right, reverse-append, reverse-reverse}
use Rattle.rd_base.specs.declared.status.Status.{Status}
use Rattle.rd_base.specs.Statuses as status
use Rattle.rd_client.specs.Core as client
use Rattle.rd_client.specs.Core.{ClientCoreState, Outgoing, client_hear, listed}
use Rattle.rd_client.specs.Events.{waiting_messages}
use Rattle.rd_client.specs.Order.{is_client_ready}
use Rattle.rd_devices.specs.declared.list.Announce.{Announce}
use Rattle.rd_drive.proofs.AllLemmas.{all_append}
use Rattle.rd_hello.specs.declared.client.ClientState.{ClientState}
use Rattle.rd_hello.specs.declared.client.ClientState.TheVariants as client_state
use Rattle.rd_hello.specs.declared.end_fault.EndFault.{EndFault}
use Rattle.rd_hello.specs.declared.host.HostState.{HostState}
use Rattle.rd_hello.specs.declared.host.HostState.TheVariants as host_state
use Rattle.rd_host.specs.Core as host
use Rattle.rd_host.specs.Core.{HostCoreState, host_hear}
use Rattle.rd_host.specs.Served.{is_served_type}
use Rattle.rd_host.specs.declared.act.Act.{Act}
use Rattle.rd_host.specs.declared.act.Act.TheVariants as act
use Rattle.rd_pending.proofs.Tame.{tame_complete, tame_live, tame_remove}
use Rattle.rd_controls.proofs.ReadyLemmas.{client_kept}
use Rattle.rd_devices.specs.DeviceList.{list_bytes}
use Rattle.rd_pending.specs.Table as table
use Rattle.rd_pending.specs.Table.{Fate, TableState, Untaken, freed, live_refusal, untaken_at, with_fate}
use Rattle.rd_controls.proofs.RunsTrafficLemmas.{Traffic}
use Rattle.rd_deeds.specs.Host.{HostSide, admits, forgets, hears, host_heard, live_code, next_message, side_sends}
use Rattle.rd_deeds.specs.Talk.{is_request}
use Rattle.rd_orders.proofs.PhaseLemmas.{ClientCame, HostCame, Phase, all_first, all_last, client_came, host_came, phase_down, phase_ready, phase_up}
use Rattle.rd_orders.proofs.SayingLemmas.{SaysToClient, SaysToHost, reply_says}

-- Before a client is ready no device has a life, and nothing was asked.
pub record IsEarly (t : TableState) (read : List (List ℕ)) : Type 0 where
  pub lives : t.lives ≡ []
  pub outbox : t.outbox ≡ []
  pub unasked : filter is_request read ≡ []

-- Nothing was wrong at either end, and what is on its way, and what they have to send, is what it should be where they stand.
pub record MeetsAs (c : ClientCoreState) (s : HostSide) (t : Traffic) : Type 0 where
  pub client_fine : (c.core).fault ≡ None
  pub host_fine : ((s.core).core).fault ≡ None
  pub down : List (List ℕ)
  pub up : List (List ℕ)
  pub told_down : t.host_wrote ≡ reverse down ++ t.client_read
  pub told_up : t.client_wrote ≡ reverse up ++ t.host_read
  pub phase : Phase (c.core).shake ((s.core).core).shake (down ++ ((s.core).core).outbox ++ (s.table).outbox) (up ++ waiting_messages c)
  pub early : is_client_ready (c.core).shake ≡ false → IsEarly s.table t.client_read

-- ---- lists

reverse_more : (xs : List (List ℕ)) (m : List ℕ) (read : List (List ℕ)) → m ∷ reverse xs ++ read ≡ reverse (xs ++ m ∷ []) ++ read
reverse_more xs m read = ap (λ (ms : List (List ℕ)). ms ++ read) (sym (reverse-append xs (m ∷ [])))

-- the first that is on its way is the one that is read next
pub next_first : (down later read : List (List ℕ)) (m : List ℕ) → reverse down ++ read ≡ reverse later ++ m ∷ read → down ≡ m ∷ later
next_first down later read m told =
    let one : reverse (m ∷ later) ≡ reverse later ++ m ∷ [] = reverse-append (m ∷ []) later in
    let both : reverse down ++ read ≡ reverse (m ∷ later) ++ read = told ∙ sym (append_assoc (reverse later) (m ∷ []) read) ∙ ap (λ (ms : List (List ℕ)). ms ++ read) (sym one) in
    sym (reverse-reverse down) ∙ ap reverse (append_cancel_right (reverse down) (reverse (m ∷ later)) read both) ∙ reverse-reverse (m ∷ later)

pub ready_is : (s : ClientState) → is_client_ready s ≡ true → s ≡ client_state.Ready
ready_is client_state.Start e = absurd (cc e)
ready_is client_state.Named e = absurd (cc e)
ready_is client_state.Confirmed e = absurd (cc e)
ready_is (client_state.Offered tells) e = absurd (cc e)
ready_is client_state.Waiting e = absurd (cc e)
ready_is client_state.Ready e = refl

not_ready : (s : ClientState) → s ≡ client_state.Ready → is_client_ready s ≡ false → {X : Type 0} → X
not_ready s is off = absurd (cc (ap is_client_ready is, off))

module _ (c : ClientCoreState) (s : HostSide) (t : Traffic) (m : MeetsAs c s t) where
  -- ---- a table

  -- where a device has a life the client is ready
  pub lives_ready : ((s.table).lives ≡ [] → ⊥) → (c.core).shake ≡ client_state.Ready
  lives_ready some = by (is_client_ready (c.core).shake) refl
    where
      by : (b : Bool) → is_client_ready (c.core).shake ≡ b → (c.core).shake ≡ client_state.Ready
      by true is = ready_is (c.core).shake is
      by false is = absurd (some (m.early is).lives)

  -- where a request was read the client is ready
  pub asked_ready : (filter is_request t.client_read ≡ [] → ⊥) → (c.core).shake ≡ client_state.Ready
  asked_ready some = by (is_client_ready (c.core).shake) refl
    where
      by : (b : Bool) → is_client_ready (c.core).shake ≡ b → (c.core).shake ≡ client_state.Ready
      by true is = ready_is (c.core).shake is
      by false is = absurd (some (m.early is).unasked)

  -- what leaves lives and requests as they are
  pub other_table : (x : TableState) → x.lives ≡ (s.table).lives → x.outbox ≡ (s.table).outbox → MeetsAs c (record s { table = x }) t
  other_table x lives outbox = record {
    client_fine = m.client_fine;
    host_fine = m.host_fine;
    down = m.down;
    up = m.up;
    told_down = m.told_down;
    told_up = m.told_up;
    phase = subst (λ (ms : List (List ℕ)). Phase (c.core).shake ((s.core).core).shake (m.down ++ ((s.core).core).outbox ++ ms) (m.up ++ waiting_messages c)) (sym outbox) m.phase;
    early = λ off. record { lives = lives ∙ (m.early off).lives; outbox = outbox ∙ (m.early off).outbox; unasked = (m.early off).unasked };
  }

  -- a request is to be sent
  pub one_asked : (x : TableState) (message : List ℕ) → (c.core).shake ≡ client_state.Ready → SaysToClient message → x.outbox ≡ (s.table).outbox ++ message ∷ [] → MeetsAs c (record s { table = x }) t
  one_asked x message ready says outbox =
      let own : List (List ℕ) = ((s.core).core).outbox in
      let p = subst (λ (k : ClientState). Phase k ((s.core).core).shake (m.down ++ own ++ (s.table).outbox) (m.up ++ waiting_messages c)) ready m.phase in
      let served = phase_ready ((s.core).core).shake _ _ p in
      let more : Phase client_state.Ready ((s.core).core).shake ((m.down ++ own ++ (s.table).outbox) ++ message ∷ []) (m.up ++ waiting_messages c) =
      subst (λ (h : HostState). Phase client_state.Ready h ((m.down ++ own ++ (s.table).outbox) ++ message ∷ []) (m.up ++ waiting_messages c)) (sym served)
      (phase_down client_state.Ready (m.down ++ own ++ (s.table).outbox) (m.up ++ waiting_messages c) message says
      (subst (λ (h : HostState). Phase client_state.Ready h (m.down ++ own ++ (s.table).outbox) (m.up ++ waiting_messages c)) served p)) in
      record {
        client_fine = m.client_fine;
        host_fine = m.host_fine;
        down = m.down;
        up = m.up;
        told_down = m.told_down;
        told_up = m.told_up;
        phase = subst (λ (k : ClientState). Phase k ((s.core).core).shake (m.down ++ own ++ x.outbox) (m.up ++ waiting_messages c)) (sym ready)
            (subst (λ (ms : List (List ℕ)). Phase client_state.Ready ((s.core).core).shake ms (m.up ++ waiting_messages c))
            (append_assoc (m.down ++ own) (s.table).outbox (message ∷ []) ∙ ap (λ (ms : List (List ℕ)). m.down ++ own ++ ms) (sym outbox)) more);
        early = λ off. not_ready (c.core).shake ready off;
      }

  -- ---- the host sends

  pub host_sent : (message : List ℕ) → next_message s ≡ Some message → MeetsAs c (side_sends s) (record t { host_wrote = message ∷ t.host_wrote })
  host_sent message next = own ((s.core).core).outbox refl
    where
      told : message ∷ t.host_wrote ≡ reverse (m.down ++ message ∷ []) ++ t.client_read
      told = ap (λ (ms : List (List ℕ)). message ∷ ms) m.told_down ∙ reverse_more m.down message t.client_read

      asks : (o : List (List ℕ)) → (s.table).outbox ≡ o → ((s.core).core).outbox ≡ [] → MeetsAs c (side_sends s) (record t { host_wrote = message ∷ t.host_wrote })
      asks [] is none = let nothing : next_message s ≡ None = rw (none, is) refl in absurd (cc (nothing, next))
      asks (x ∷ others) is none =
          let first : next_message s ≡ Some x = rw (none, is) refl in
          let same : x ≡ message = cc (first, next) in
          let after : side_sends s ≡ record s { table = record s.table { outbox = others } } = rw (none, is) refl in
          subst (λ (y : HostSide). MeetsAs c y (record t { host_wrote = message ∷ t.host_wrote })) (sym after) (record {
            client_fine = m.client_fine;
            host_fine = m.host_fine;
            down = m.down ++ message ∷ [];
            up = m.up;
            told_down = told;
            told_up = m.told_up;
            phase = subst (λ (ms : List (List ℕ)). Phase (c.core).shake ((s.core).core).shake ms (m.up ++ waiting_messages c))
                (ap (λ (ms : List (List ℕ)). m.down ++ ((s.core).core).outbox ++ ms) is ∙ ap (λ (ms : List (List ℕ)). (m.down ++ ms) ++ x ∷ others) none ∙ ap (λ (ms : List (List ℕ)). ms ++ x ∷ others) (append-nil m.down)
                ∙ ap (λ (y : List ℕ). m.down ++ y ∷ others) same ∙ sym (append_assoc m.down (message ∷ []) others)
                ∙ ap (λ (ms : List (List ℕ)). ms ++ others) (sym (append-nil (m.down ++ message ∷ []))) ∙ ap (λ (ms : List (List ℕ)). ((m.down ++ message ∷ []) ++ ms) ++ others) (sym none))
                m.phase;
            early = λ off. let some : x ∷ others ≡ [] = sym is ∙ (m.early off).outbox in absurd (cc some);
          })

      own : (o : List (List ℕ)) → ((s.core).core).outbox ≡ o → MeetsAs c (side_sends s) (record t { host_wrote = message ∷ t.host_wrote })
      own [] is = asks (s.table).outbox refl is
      own (x ∷ others) is =
          let first : next_message s ≡ Some x = rw is refl in
          let same : x ≡ message = cc (first, next) in
          let after : side_sends s ≡ record s { core = record s.core { core = record (s.core).core { outbox = others } } } = rw is refl in
          subst (λ (y : HostSide). MeetsAs c y (record t { host_wrote = message ∷ t.host_wrote })) (sym after) (record {
            client_fine = m.client_fine;
            host_fine = m.host_fine;
            down = m.down ++ message ∷ [];
            up = m.up;
            told_down = told;
            told_up = m.told_up;
            phase = subst (λ (ms : List (List ℕ)). Phase (c.core).shake ((s.core).core).shake (ms ++ (s.table).outbox) (m.up ++ waiting_messages c))
                (ap (λ (ms : List (List ℕ)). m.down ++ ms) is ∙ ap (λ (y : List ℕ). m.down ++ y ∷ others) same ∙ sym (append_assoc m.down (message ∷ []) others)) m.phase;
            early = m.early;
          })

  -- ---- the client sends

  -- a message of the client goes on its way
  pub client_sent : (after : ClientCoreState) (o : Outgoing) → client.client_send c ≡ (after, Some o) → MeetsAs after s (record t { client_wrote = o.message ∷ t.client_wrote })
  client_sent after o made = by (c.core).outbox refl
    where
      by : (os : List Outgoing) → (c.core).outbox ≡ os → MeetsAs after s (record t { client_wrote = o.message ∷ t.client_wrote })
      by [] is = let none : (client.client_send c).1 ≡ None = rw is refl in absurd (cc (none, ap (λ (r : ClientCoreState × Option Outgoing). r.1) made))
      by (first ∷ os) is =
          let now : ClientCoreState = record c { core = record c.core { outbox = os } } in
          let one : client.client_send c ≡ (now, Some first) = rw is refl in
          let same : first ≡ o = (let both : Some first ≡ Some o = ap (λ (r : ClientCoreState × Option Outgoing). r.1) (sym one ∙ made) in cc) in
          let left : now ≡ after = ap (λ (r : ClientCoreState × Option Outgoing). r.0) (sym one ∙ made) in
          subst (λ (x : ClientCoreState). MeetsAs x s (record t { client_wrote = o.message ∷ t.client_wrote })) left (record {
            client_fine = m.client_fine;
            host_fine = m.host_fine;
            down = m.down;
            up = m.up ++ o.message ∷ [];
            told_down = m.told_down;
            told_up = ap (λ (ms : List (List ℕ)). o.message ∷ ms) m.told_up ∙ reverse_more m.up o.message t.host_read;
            phase = subst (Phase (c.core).shake ((s.core).core).shake (m.down ++ ((s.core).core).outbox ++ (s.table).outbox))
                (ap (λ (xs : List Outgoing). m.up ++ map (λ (x : Outgoing). x.message) xs) is ∙ ap (λ (x : Outgoing). m.up ++ x.message ∷ map (λ (x : Outgoing). x.message) os) same
                ∙ sym (append_assoc m.up (o.message ∷ []) (map (λ (x : Outgoing). x.message) os))) m.phase;
            early = m.early;
          })

  -- so does one that never waited
  pub client_sent_past : (message : List ℕ) → (c.core).shake ≡ client_state.Ready → (c.core).outbox ≡ [] → SaysToHost message → MeetsAs c s (record t { client_wrote = message ∷ t.client_wrote })
  client_sent_past message ready none says =
      let down : List (List ℕ) = m.down ++ ((s.core).core).outbox ++ (s.table).outbox in
      let p = subst (λ (k : ClientState). Phase k ((s.core).core).shake down (m.up ++ waiting_messages c)) ready m.phase in
      let quiet : m.up ++ waiting_messages c ≡ m.up = ap (λ (xs : List Outgoing). m.up ++ map (λ (x : Outgoing). x.message) xs) none ∙ append-nil m.up in
      let more = phase_up ((s.core).core).shake down m.up message says (subst (Phase client_state.Ready ((s.core).core).shake down) quiet p) in
      record {
        client_fine = m.client_fine;
        host_fine = m.host_fine;
        down = m.down;
        up = m.up ++ message ∷ [];
        told_down = m.told_down;
        told_up = ap (λ (ms : List (List ℕ)). message ∷ ms) m.told_up ∙ reverse_more m.up message t.host_read;
        phase = subst (λ (k : ClientState). Phase k ((s.core).core).shake down ((m.up ++ message ∷ []) ++ waiting_messages c)) (sym ready)
            (subst (Phase client_state.Ready ((s.core).core).shake down)
            (sym (append-nil (m.up ++ message ∷ [])) ∙ ap (λ (xs : List Outgoing). (m.up ++ message ∷ []) ++ map (λ (x : Outgoing). x.message) xs) (sym none)) more);
        early = m.early;
      }

  -- a ready client has a message more to send, whatever becomes of its devices
  pub client_waits : (after : ClientCoreState) (o : Outgoing) → (c.core).shake ≡ client_state.Ready → SaysToHost o.message → after.core ≡ record c.core { outbox = (c.core).outbox ++ o ∷ [] } → MeetsAs after s t
  client_waits after o ready says is =
      let down : List (List ℕ) = m.down ++ ((s.core).core).outbox ++ (s.table).outbox in
      let p = subst (λ (k : ClientState). Phase k ((s.core).core).shake down (m.up ++ waiting_messages c)) ready m.phase in
      let more = phase_up ((s.core).core).shake down (m.up ++ waiting_messages c) o.message says p in
      let shake : (after.core).shake ≡ (c.core).shake = ap (λ x. x.shake) is in
      record {
        client_fine = ap (λ x. x.fault) is ∙ m.client_fine;
        host_fine = m.host_fine;
        down = m.down;
        up = m.up;
        told_down = m.told_down;
        told_up = m.told_up;
        phase = subst (λ (k : ClientState). Phase k ((s.core).core).shake down (m.up ++ waiting_messages after)) (sym (shake ∙ ready))
            (subst (Phase client_state.Ready ((s.core).core).shake down)
            (append_assoc m.up (waiting_messages c) (o.message ∷ []) ∙ ap (λ (ms : List (List ℕ)). m.up ++ ms) (sym (waits (c.core).outbox)) ∙ ap (λ x. m.up ++ map (λ (y : Outgoing). y.message) x.outbox) (sym is)) more);
        early = λ off. not_ready (after.core).shake (shake ∙ ready) off;
      }
    where
      waits : (os : List Outgoing) → map (λ (x : Outgoing). x.message) (os ++ o ∷ []) ≡ map (λ (x : Outgoing). x.message) os ++ o.message ∷ []
      waits [] = refl
      waits (x ∷ os) = ap (λ (ms : List (List ℕ)). x.message ∷ ms) (waits os)

  -- other data of its devices change nothing
  pub client_alike : (after : ClientCoreState) → after.core ≡ c.core → MeetsAs after s t
  client_alike after is = record {
    client_fine = ap (λ x. x.fault) is ∙ m.client_fine;
    host_fine = m.host_fine;
    down = m.down;
    up = m.up;
    told_down = m.told_down;
    told_up = m.told_up;
    phase = subst (λ x. Phase x.shake ((s.core).core).shake (m.down ++ ((s.core).core).outbox ++ (s.table).outbox) (m.up ++ map (λ (y : Outgoing). y.message) x.outbox)) (sym is) m.phase;
    early = λ off. m.early (sym (ap (λ x. is_client_ready x.shake) is) ∙ off);
  }

  -- ---- the host tells

  pub host_told : (message : List ℕ) → ((s.core).core).shake ≡ host_state.Ready → SaysToClient message → MeetsAs c (record s { core = host.with_message s.core message }) t
  host_told message served says = record {
    client_fine = m.client_fine;
    host_fine = m.host_fine;
    down = m.down;
    up = m.up;
    told_down = m.told_down;
    told_up = m.told_up;
    phase = subst (λ (h : HostState). Phase (c.core).shake h (m.down ++ (own ++ message ∷ []) ++ asked) (m.up ++ waiting_messages c)) (sym served)
        (by (c.core).shake refl (subst (λ (h : HostState). Phase (c.core).shake h (m.down ++ own ++ asked) (m.up ++ waiting_messages c)) served m.phase));
    early = m.early;
  }
    where
      own : List (List ℕ)
      own = ((s.core).core).outbox

      asked : List (List ℕ)
      asked = (s.table).outbox

      by : (k : ClientState) → (c.core).shake ≡ k → Phase k host_state.Ready (m.down ++ own ++ asked) (m.up ++ waiting_messages c) → Phase k host_state.Ready (m.down ++ (own ++ message ∷ []) ++ asked) (m.up ++ waiting_messages c)
      by client_state.Waiting is p =
          let none : asked ≡ [] = (m.early (ap is_client_ready is)).outbox in
          let same : (m.down ++ own ++ asked) ++ message ∷ [] ≡ m.down ++ (own ++ message ∷ []) ++ asked =
          ap (λ (ms : List (List ℕ)). (m.down ++ own ++ ms) ++ message ∷ []) none ∙ ap (λ (ms : List (List ℕ)). ms ++ message ∷ []) (append-nil (m.down ++ own)) ∙ append_assoc m.down own (message ∷ [])
          ∙ sym (append-nil (m.down ++ (own ++ message ∷ []))) ∙ ap (λ (ms : List (List ℕ)). m.down ++ (own ++ message ∷ []) ++ ms) (sym none) in
          subst (λ (ms : List (List ℕ)). Phase client_state.Waiting host_state.Ready ms (m.up ++ waiting_messages c)) same (phase_down client_state.Waiting (m.down ++ own ++ asked) (m.up ++ waiting_messages c) message says p)
      by client_state.Ready is (all, others) = (
        all_append SaysToClient (m.down ++ (own ++ message ∷ [])) asked
            (subst (AllByRecursion SaysToClient) (append_assoc m.down own (message ∷ []))
            (all_append SaysToClient (m.down ++ own) (message ∷ []) (all_first SaysToClient (m.down ++ own) asked all) (says, tt)))
            (all_last SaysToClient (m.down ++ own) asked all),
        others,
      )
      by k is p = absurd p

  -- ---- the client hears

  -- the message that is read next is the first that is on its way
  pub client_reads_first : (message : List ℕ) (later : List (List ℕ)) → t.host_wrote ≡ reverse later ++ message ∷ t.client_read → SaysToHost (list_bytes (listed c))
      → ClientCame c ((s.core).core).shake (later ++ ((s.core).core).outbox ++ (s.table).outbox) m.up message (client_hear c message)
  client_reads_first message later told lists =
      let first : m.down ≡ message ∷ later = next_first m.down later t.client_read message (sym m.told_down ∙ told) in
      client_came c ((s.core).core).shake (later ++ ((s.core).core).outbox ++ (s.table).outbox) m.up message m.client_fine lists
      (subst (λ (ms : List (List ℕ)). Phase (c.core).shake ((s.core).core).shake (ms ++ ((s.core).core).outbox ++ (s.table).outbox) (m.up ++ waiting_messages c)) first m.phase)

  pub client_heard : (message : List ℕ) (later : List (List ℕ)) → t.host_wrote ≡ reverse later ++ message ∷ t.client_read → SaysToHost (list_bytes (listed c))
      → MeetsAs (client_hear c message).0 s (record t { client_read = message ∷ t.client_read })
  client_heard message later told lists =
      let came = client_reads_first message later told lists in record {
        client_fine = came.fine;
        host_fine = m.host_fine;
        down = later;
        up = m.up;
        told_down = told;
        told_up = m.told_up;
        phase = came.phase;
        early = λ off. let before = m.early (by (is_client_ready (c.core).shake) refl off) in
            record { lives = before.lives; outbox = before.outbox; unasked = ap (λ (b : Bool). if b then message ∷ filter is_request t.client_read else filter is_request t.client_read) (came.plain off) ∙ before.unasked };
      }
    where
      by : (b : Bool) → is_client_ready (c.core).shake ≡ b → is_client_ready (((client_hear c message).0).core).shake ≡ false → b ≡ false
      by false is off = refl
      by true is off = absurd (cc ((client_kept c message).ready is, off))

  -- ---- the host hears

  pub host_reads_first : (message : List ℕ) (later : List (List ℕ)) → t.client_wrote ≡ reverse later ++ message ∷ t.host_read
      → HostCame s.core (c.core).shake m.down (s.table).outbox (later ++ waiting_messages c) (host_hear s.core message)
  host_reads_first message later told =
      let first : m.up ≡ message ∷ later = next_first m.up later t.host_read message (sym m.told_up ∙ told) in
      host_came s.core (c.core).shake m.down (s.table).outbox (later ++ waiting_messages c) m.host_fine message
      (subst (λ (ms : List (List ℕ)). Phase (c.core).shake ((s.core).core).shake (m.down ++ ((s.core).core).outbox ++ (s.table).outbox) (ms ++ waiting_messages c)) first m.phase)

-- ---- what a host does by what it heard

-- replies are to be sent, and no request is more or less
record Serves (s new : HostSide) : Type 0 where
  shake : ((new.core).core).shake ≡ ((s.core).core).shake
  fault : ((new.core).core).fault ≡ ((s.core).core).fault
  replies : List (List ℕ)
  says : AllByRecursion SaysToClient replies
  outbox : ((new.core).core).outbox ≡ ((s.core).core).outbox ++ replies
  asked : (new.table).outbox ≡ (s.table).outbox

serves_none : (s : HostSide) (x : TableState) → x.outbox ≡ (s.table).outbox → Serves s (record s { table = x })
serves_none s x same = record { shake = refl; fault = refl; replies = []; says = tt; outbox = sym (append-nil ((s.core).core).outbox); asked = same }

serves_then : (s x new : HostSide) → Serves s x → Serves x new → Serves s new
serves_then s x new a b = record {
  shake = b.shake ∙ a.shake;
  fault = b.fault ∙ a.fault;
  replies = a.replies ++ b.replies;
  says = all_append SaysToClient a.replies b.replies a.says b.says;
  outbox = b.outbox ∙ ap (λ (ms : List (List ℕ)). ms ++ b.replies) a.outbox ∙ append_assoc ((s.core).core).outbox a.replies b.replies;
  asked = b.asked ∙ a.asked;
}

admitted : (s : HostSide) (a : Announce) → Serves s (admits s a)
admitted s a = by (is_served_type a.kind)
  where
    one : (x : TableState) (code : Status) → x.outbox ≡ (s.table).outbox → Serves s (record { table = x; core = host.reply s.core a.id code })
    one x code same = record { shake = refl; fault = refl; replies = _ ∷ []; says = (reply_says (record { id = a.id; code = code }), tt); outbox = refl; asked = same }

    by : (b : Bool) → Serves s (if b then record { table = (table.live s.table a.id).0; core = host.reply s.core a.id (live_code (table.live s.table a.id).1) } else record s { core = host.reply s.core a.id status.not_supported })
    by true = one (table.live s.table a.id).0 (live_code (table.live s.table a.id).1) (tame_live s.table a.id).outbox
    by false = one s.table status.not_supported refl

all_admitted : (devices : List Announce) (s : HostSide) → Serves s (fold admits s devices)
all_admitted [] s = serves_none s s.table refl
all_admitted (a ∷ devices) s = serves_then s (admits s a) (fold admits (admits s a) devices) (admitted s a) (all_admitted devices (admits s a))

all_forgot : (ids : List ℕ) (s : HostSide) → Serves s (fold forgets s ids)
all_forgot [] s = serves_none s s.table refl
all_forgot (id ∷ ids) s = serves_then s (forgets s id) (fold forgets (forgets s id) ids) (serves_none s (table.remove s.table id).0 (tame_remove s.table id).outbox) (all_forgot ids (forgets s id))

-- what is on its way from a host that serves a ready client is fine
serves_phase : (c : ClientState) (down up : List (List ℕ)) (s new : HostSide) → c ≡ client_state.Ready → Serves s new → Phase c ((s.core).core).shake (down ++ ((s.core).core).outbox ++ (s.table).outbox) up
    → Phase c ((new.core).core).shake (down ++ ((new.core).core).outbox ++ (new.table).outbox) up
serves_phase c down up s new ready v p =
    let own : List (List ℕ) = ((s.core).core).outbox in
    let asked : List (List ℕ) = (s.table).outbox in
    let q = subst (λ (k : ClientState). Phase k ((s.core).core).shake (down ++ own ++ asked) up) ready p in
    let served = phase_ready ((s.core).core).shake (down ++ own ++ asked) up q in
    let (all, others) = subst (λ (h : HostState). Phase client_state.Ready h (down ++ own ++ asked) up) served q in
    let more : AllByRecursion SaysToClient (down ++ (own ++ v.replies) ++ asked) =
    all_append SaysToClient (down ++ (own ++ v.replies)) asked
    (subst (AllByRecursion SaysToClient) (append_assoc down own v.replies) (all_append SaysToClient (down ++ own) v.replies (all_first SaysToClient (down ++ own) asked all) v.says))
    (all_last SaysToClient (down ++ own) asked all) in
    subst (λ (k : ClientState). Phase k ((new.core).core).shake (down ++ ((new.core).core).outbox ++ (new.table).outbox) up) (sym ready)
    (subst (λ (h : HostState). Phase client_state.Ready h (down ++ ((new.core).core).outbox ++ (new.table).outbox) up) (sym (v.shake ∙ served)) (
      subst (λ (ms : List (List ℕ)). AllByRecursion SaysToClient (down ++ ((new.core).core).outbox ++ ms)) (sym v.asked)
          (subst (λ (ms : List (List ℕ)). AllByRecursion SaysToClient (down ++ ms ++ asked)) (sym v.outbox) more),
      others,
    ))

module _ (c : ClientCoreState) (s : HostSide) (t : Traffic) (m : MeetsAs c s t) where
  pub host_heard_one : (message : List ℕ) (later : List (List ℕ)) → t.client_wrote ≡ reverse later ++ message ∷ t.host_read → MeetsAs c (hears s message) (record t { host_read = message ∷ t.host_read })
  host_heard_one message later told = by (host_hear s.core message) (host_reads_first c s t m message later told)
    where
      up : List (List ℕ)
      up = later ++ waiting_messages c

      Came : HostCoreState × Result Act EndFault → Type 0
      Came r = HostCame s.core (c.core).shake m.down (s.table).outbox up r

      -- as it is with the table's lives of before, or with a ready client
      made : (new : HostSide) → ((new.core).core).fault ≡ None → Phase (c.core).shake ((new.core).core).shake (m.down ++ ((new.core).core).outbox ++ (new.table).outbox) up
          → (is_client_ready (c.core).shake ≡ false → IsEarly new.table t.client_read) → MeetsAs c new (record t { host_read = message ∷ t.host_read })
      made new fine phase early = record {
        client_fine = m.client_fine;
        host_fine = fine;
        down = m.down;
        up = later;
        told_down = m.told_down;
        told_up = told;
        phase = phase;
        early = early;
      }

      served : (d : HostCoreState) (new : HostSide) → (c.core).shake ≡ client_state.Ready → (d.core).fault ≡ None → Phase (c.core).shake (d.core).shake (m.down ++ (d.core).outbox ++ (s.table).outbox) up
          → Serves (record s { core = d }) new → MeetsAs c new (record t { host_read = message ∷ t.host_read })
      served d new ready fine p v = made new (v.fault ∙ fine) (serves_phase (c.core).shake m.down up (record s { core = d }) new ready v p) (λ off. not_ready (c.core).shake ready off)

      by : (r : HostCoreState × Result Act EndFault) → HostCame s.core (c.core).shake m.down (s.table).outbox up r → MeetsAs c (host_heard (record s { core = r.0 }) r.1) (record t { host_read = message ∷ t.host_read })
      by (d, Err fault) came = absurd came.acts
      by (d, Ok act.Nothing) came = made (record s { core = d }) came.fine came.phase m.early
      by (d, Ok (act.Announced devices)) came = served d (fold admits (record s { core = d }) devices) came.acts.0 came.fine came.phase (all_admitted devices (record s { core = d }))
      by (d, Ok (act.Removed ids)) came = served d (fold forgets (record s { core = d }) ids) came.acts.0 came.fine came.phase (all_forgot ids (record s { core = d }))
      by (d, Ok (act.Complete head bytes)) came =
          served d (record s { core = d; table = (table.complete s.table head bytes).0 }) came.acts.0 came.fine came.phase
          (serves_none (record s { core = d }) (table.complete s.table head bytes).0 (tame_complete s.table head bytes).outbox)
