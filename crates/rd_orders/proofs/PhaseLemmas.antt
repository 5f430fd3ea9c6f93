-- A channel opens message by message: while it does one end alone has something to say, and what each end reads is never wrong.
use Rattle.std.proofs.Common.{◌≡◌, ◌∙◌, refl, sym, ap, subst, ℕ, Bool, true, false, List, [], ◌∷◌, ◌++◌, map, Some, None, append_assoc, append-nil}
use Rattle.std.specs.Prelude.{Result, Ok, Err, if◌then◌else◌, is_ok, is_some}
use Rattle.std.specs.List.{AllByRecursion}
use Rattle.rd_base.specs.Counted.{count_to, counted, counted_bytes}
use Rattle.rd_base.specs.Header.{component_field, header, header_among}
use Rattle.rd_client.specs.Core.{ClientCoreState, HostSays, Outgoing, becomes_ready, client_hear, client_hear_made, client_side, listed, notices, plain, replies, requests, with_outgoing}
use Rattle.rd_client.specs.declared.heard.Heard.{Heard}
use Rattle.rd_client.specs.declared.heard.Heard.TheVariants as heard
use Rattle.rd_client.specs.Events.{waiting_messages}
use Rattle.rd_core.specs.Hearing as hearing
use Rattle.rd_core.specs.Hearing.{Meaning, messages_of, opens, said, says}
use Rattle.rd_devices.specs.DeviceList.{list_bytes}
use Rattle.rd_drive.proofs.AllLemmas.{all_append}
use Rattle.rd_hello.specs.Capability.{body_of, capability, general, other, sets, special}
use Rattle.rd_hello.specs.Hello.{hello, hello_bytes, name, version}
use Rattle.rd_hello.specs.Own.{client_name, client_sets, host_announce, host_sets, own_minor}
use Rattle.rd_hello.specs.Rows.{OrderRow}
use Rattle.rd_hello.specs.declared.client.ClientState.{ClientState}
use Rattle.rd_hello.specs.declared.client.ClientState.TheVariants as client_state
use Rattle.rd_hello.specs.declared.end_fault.EndFault.{EndFault}
use Rattle.rd_hello.specs.declared.hello.Hello.TheVariants as greeting
use Rattle.rd_hello.specs.declared.hello.Version.{Version}
use Rattle.rd_hello.specs.declared.host.HostState.{HostState}
use Rattle.rd_hello.specs.declared.host.HostState.TheVariants as host_state
use Rattle.rd_host.specs.Core.{HostCoreState, host_hear, host_hear_made, host_side}
use Rattle.rd_host.specs.declared.act.Act.{Act}
use Rattle.rd_host.specs.declared.act.Act.TheVariants as act
use Rattle.rd_client.specs.Order.{is_client_ready}
use Rattle.rd_deeds.specs.Talk.{is_request, notice_in}
use Rattle.rd_printer.specs.Notice.{notice}
use Rattle.rd_devices.specs.declared.reply.DeviceReply.{DeviceReply}
use Rattle.rd_devices.specs.DeviceReply.{reply_bytes}
use Rattle.rd_orders.proofs.SayingLemmas.{SaysToClient, SaysToHost}

-- ---- the messages

abbrev pub own_version : Version
own_version = record { minor = own_minor; client = 1 }

abbrev pub announces : List ℕ
announces = hello_bytes (host_announce 1)

abbrev pub confirms : List ℕ
confirms = hello_bytes (greeting.Confirm own_version)

abbrev pub names : List ℕ
names = hello_bytes client_name

abbrev pub offers : List ℕ
offers = hello_bytes host_sets

abbrev pub accepts : List ℕ
accepts = hello_bytes client_sets

abbrev pub logged_on : List ℕ
logged_on = hello_bytes greeting.LoggedOn

-- What is on its way to a client and a host, and what they still have to send, where they stand so.
abbrev pub Phase : ClientState → HostState → List (List ℕ) → List (List ℕ) → Type 0
Phase client_state.Start host_state.Start down up = (down ≡ announces ∷ []) × (up ≡ [])
Phase client_state.Named host_state.Start down up = (down ≡ []) × (up ≡ confirms ∷ names ∷ [])
Phase client_state.Named (host_state.Confirmed v) down up = (v ≡ own_version) × (down ≡ []) × (up ≡ names ∷ [])
Phase client_state.Named host_state.Offered down up = (down ≡ offers ∷ confirms ∷ []) × (up ≡ [])
Phase (client_state.Offered tells) host_state.Offered down up = (tells ≡ true) × (down ≡ confirms ∷ []) × (up ≡ [])
Phase client_state.Waiting host_state.Offered down up = (down ≡ []) × (up ≡ accepts ∷ [])
Phase client_state.Waiting host_state.Ready down up = (later : List (List ℕ)) × (down ≡ logged_on ∷ later) × AllByRecursion SaysToClient later × (up ≡ [])
Phase client_state.Ready host_state.Ready down up = AllByRecursion SaysToClient down × AllByRecursion SaysToHost up
Phase client host down up = ⊥

-- ---- what they say

abbrev named_row : OrderRow ClientState
named_row = record { first = Some (greeting.Confirm own_version); second = Some client_name; next = client_state.Named }

abbrev offered_row : OrderRow ClientState
offered_row = record { first = None; second = None; next = client_state.Offered true }

abbrev waiting_row : OrderRow ClientState
waiting_row = record { first = Some client_sets; second = None; next = client_state.Waiting }

abbrev ready_row : OrderRow ClientState
ready_row = record { first = None; second = None; next = client_state.Ready }

abbrev confirmed_row : OrderRow HostState
confirmed_row = record { first = None; second = None; next = host_state.Confirmed own_version }

abbrev served_row : OrderRow HostState
served_row = record { first = Some greeting.LoggedOn; second = None; next = host_state.Ready }

abbrev offering_row : Version → OrderRow HostState
offering_row v = record { first = Some host_sets; second = Some (greeting.Confirm v); next = host_state.Offered }

module _ where
  announce_said : said client_side client_state.Start announces ≡ opens named_row
  unfolding header_among component_field header hello version name sets capability body_of special general other count_to counted counted_bytes
  announce_said = refl

  offer_said : said client_side client_state.Named offers ≡ opens offered_row
  unfolding header_among component_field header hello version name sets capability body_of special general other count_to counted counted_bytes
  offer_said = refl

  confirmed_said : said client_side (client_state.Offered true) confirms ≡ opens waiting_row
  unfolding header_among component_field header hello version name sets capability body_of special general other count_to counted counted_bytes
  confirmed_said = refl

  logged_on_said : said client_side client_state.Waiting logged_on ≡ opens ready_row
  unfolding header_among component_field header hello version name sets capability body_of special general other count_to counted counted_bytes
  logged_on_said = refl

  confirm_said : said host_side host_state.Start confirms ≡ opens confirmed_row
  unfolding header_among component_field header hello version name sets capability body_of special general other count_to counted counted_bytes
  confirm_said = refl

  name_said : (v : Version) → said host_side (host_state.Confirmed v) names ≡ opens (offering_row v)
  unfolding header_among component_field header hello version name sets capability body_of special general other count_to counted counted_bytes
  name_said v = refl

  accept_said : said host_side host_state.Offered accepts ≡ opens served_row
  unfolding header_among component_field header hello version name sets capability body_of special general other count_to counted counted_bytes
  accept_said = refl

  announce_plain : is_request announces ≡ false
  unfolding header_among component_field
  announce_plain = refl

  offer_plain : is_request offers ≡ false
  unfolding header_among component_field
  offer_plain = refl

  confirm_plain : is_request confirms ≡ false
  unfolding header_among component_field
  confirm_plain = refl

-- a message that is neither a request nor a notice
abbrev pub IsGreeting : List ℕ → Type 0
IsGreeting m = (is_request m ≡ false) × (is_some (notice_in m) ≡ false)

module _ where
  pub announces_greet : IsGreeting announces
  unfolding header_among component_field notice
  announces_greet = (refl, refl)

  offers_greet : IsGreeting offers
  unfolding header_among component_field notice
  offers_greet = (refl, refl)

  logged_on_greets : IsGreeting logged_on
  unfolding header_among component_field notice
  logged_on_greets = (refl, refl)

  confirms_greet : (v : Version) → v ≡ own_version → IsGreeting (hello_bytes (greeting.Confirm v))
  unfolding header_among component_field notice
  confirms_greet v own = (refl, refl)

  pub reply_greets : (r : DeviceReply) → IsGreeting (reply_bytes r)
  unfolding header_among component_field notice
  reply_greets r = (refl, refl)

-- ---- lists

first_is : {X : Type 0} {x y : X} {xs ys : List X} → x ∷ xs ≡ y ∷ ys → x ≡ y
first_is e = cc e

rest_is : {X : Type 0} {x y : X} {xs ys : List X} → x ∷ xs ≡ y ∷ ys → xs ≡ ys
rest_is e = cc e

none_is : {X Y : Type 0} {x : X} {xs : List X} → x ∷ xs ≡ [] → Y
none_is e = absurd (cc e)

pub no_parts : {X : Type 0} (xs ys : List X) → xs ++ ys ≡ [] → (xs ≡ []) × (ys ≡ [])
no_parts [] ys e = (refl, e)
no_parts (x ∷ xs) ys e = absurd (cc e)

pub all_first : {X : Type 0} (P : X → Type 0) (xs ys : List X) → AllByRecursion P (xs ++ ys) → AllByRecursion P xs
all_first P [] ys all = tt
all_first P (x ∷ xs) ys all = (all.0, all_first P xs ys all.1)

pub all_last : {X : Type 0} (P : X → Type 0) (xs ys : List X) → AllByRecursion P (xs ++ ys) → AllByRecursion P ys
all_last P [] ys all = all
all_last P (x ∷ xs) ys all = all_last P xs ys all.1

-- ---- more of it

pub phase_down : (c : ClientState) (down up : List (List ℕ)) (m : List ℕ) → SaysToClient m → Phase c host_state.Ready down up → Phase c host_state.Ready (down ++ m ∷ []) up
phase_down client_state.Waiting down up m fine (later, is, all, none) =
    (later ++ m ∷ [], ap (λ (ms : List (List ℕ)). ms ++ m ∷ []) is, all_append SaysToClient later (m ∷ []) all (fine, tt), none)
phase_down client_state.Ready down up m fine (all, others) = (all_append SaysToClient down (m ∷ []) all (fine, tt), others)
phase_down c down up m fine p = absurd p

pub phase_up : (h : HostState) (down up : List (List ℕ)) (m : List ℕ) → SaysToHost m → Phase client_state.Ready h down up → Phase client_state.Ready h down (up ++ m ∷ [])
phase_up host_state.Ready down up m fine (all, others) = (all, all_append SaysToHost up (m ∷ []) others (fine, tt))
phase_up h down up m fine p = absurd p

pub phase_ready : (h : HostState) (down up : List (List ℕ)) → Phase client_state.Ready h down up → h ≡ host_state.Ready
phase_ready host_state.Ready down up p = refl
phase_ready h down up p = absurd p

-- ---- a client hears

-- a request is heard by a ready client
abbrev pub AsksReady : ClientCoreState × Result Heard EndFault → Type 0
AsksReady (d, Ok (heard.Ask device job)) = (d.core).shake ≡ client_state.Ready
AsksReady r = Unit {0}

module _ (c : ClientCoreState) (h : HostState) (down up : List (List ℕ)) where
  abbrev made : Meaning ClientState HostSays → ClientCoreState × Result Heard EndFault
  made x = client_hear_made c (hearing.hear_said client_side c.core x)

  -- what comes of a message is no fault, and leaves what is on its way as it should be
  pub record ClientCame (m : List ℕ) (r : ClientCoreState × Result Heard EndFault) : Type 0 where
    pub plain : is_client_ready ((r.0).core).shake ≡ false → is_request m ≡ false
    pub fine : ((r.0).core).fault ≡ None
    pub ok : is_ok r.1 ≡ true
    pub phase : Phase ((r.0).core).shake h down (up ++ waiting_messages r.0)
    pub asks : AsksReady r

  more_waits : (os : List Outgoing) (ms : List (List ℕ)) → map (λ (o : Outgoing). o.message) (os ++ map plain ms) ≡ map (λ (o : Outgoing). o.message) os ++ ms
  more_waits [] [] = refl
  more_waits [] (m ∷ ms) = ap (λ (x : List (List ℕ)). m ∷ x) (more_waits [] ms)
  more_waits (o ∷ os) ms = ap (λ (x : List (List ℕ)). o.message ∷ x) (more_waits os ms)

  one_waits : (os : List Outgoing) (m : List ℕ) → map (λ (o : Outgoing). o.message) (os ++ plain m ∷ []) ≡ map (λ (o : Outgoing). o.message) os ++ m ∷ []
  one_waits [] m = refl
  one_waits (o ∷ os) m = ap (λ (x : List (List ℕ)). o.message ∷ x) (one_waits os m)

  module _ (m : List ℕ) (fault : (c.core).fault ≡ None) where
    opened : (row : OrderRow ClientState) → becomes_ready (c.core).shake row.next ≡ false → is_request m ≡ false → Phase row.next h down ((up ++ waiting_messages c) ++ messages_of row) → ClientCame m (made (opens row))
    opened row becomes other p =
        subst (λ (b : Bool). ClientCame m ((if b then with_outgoing (record c { core = hearing.after_row client_side c.core row }) (plain (list_bytes (listed c))) else record c { core = hearing.after_row client_side c.core row }), Ok heard.Nothing)) (sym becomes)
        (record {
          plain = λ off. other;
          fine = fault;
          ok = refl;
          phase = subst (Phase row.next h down) (append_assoc up (waiting_messages c) (messages_of row) ∙ ap (λ (ms : List (List ℕ)). up ++ ms) (sym (more_waits (c.core).outbox (messages_of row)))) p;
          asks = tt;
        })

    opened_ready : (row : OrderRow ClientState) → becomes_ready (c.core).shake row.next ≡ true → is_client_ready row.next ≡ true → Phase row.next h down (((up ++ waiting_messages c) ++ messages_of row) ++ list_bytes (listed c) ∷ [])
        → ClientCame m (made (opens row))
    opened_ready row becomes ready p =
        let os : List Outgoing = (c.core).outbox ++ map plain (messages_of row) in
        let all : ((up ++ waiting_messages c) ++ messages_of row) ++ list_bytes (listed c) ∷ [] ≡ up ++ map (λ (o : Outgoing). o.message) (os ++ plain (list_bytes (listed c)) ∷ []) =
        ap (λ (ms : List (List ℕ)). ms ++ list_bytes (listed c) ∷ []) (append_assoc up (waiting_messages c) (messages_of row) ∙ ap (λ (ms : List (List ℕ)). up ++ ms) (sym (more_waits (c.core).outbox (messages_of row))))
        ∙ append_assoc up (map (λ (o : Outgoing). o.message) os) (list_bytes (listed c) ∷ []) ∙ ap (λ (ms : List (List ℕ)). up ++ ms) (sym (one_waits os (list_bytes (listed c)))) in
        subst (λ (b : Bool). ClientCame m ((if b then with_outgoing (record c { core = hearing.after_row client_side c.core row }) (plain (list_bytes (listed c))) else record c { core = hearing.after_row client_side c.core row }), Ok heard.Nothing)) (sym becomes)
        (record { plain = λ off. absurd (cc (off, ready)); fine = fault; ok = refl; phase = subst (Phase row.next h down) all p; asks = tt })

    said_ready : (a : HostSays) → (c.core).shake ≡ client_state.Ready → Phase (c.core).shake h down (up ++ waiting_messages c) → ClientCame m (made (says a))
    said_ready (requests r) ready p = record { plain = λ off. absurd (cc (off, ready)); fine = fault; ok = refl; phase = p; asks = ready }
    said_ready (replies r) ready p = record { plain = λ off. absurd (cc (off, ready)); fine = fault; ok = refl; phase = p; asks = tt }
    said_ready (notices n) ready p = record { plain = λ off. absurd (cc (off, ready)); fine = fault; ok = refl; phase = p; asks = tt }

    listening : client_hear c m ≡ made (said client_side (c.core).shake m)
    listening = rw fault refl

    -- a client hears the message that comes first
    pub client_came : SaysToHost (list_bytes (listed c)) → Phase (c.core).shake h (m ∷ down) (up ++ waiting_messages c) → ClientCame m (client_hear c m)
    client_came lists p = subst (ClientCame m) (sym listening) (by (c.core).shake refl h refl p)
      where
        by : (s : ClientState) → (c.core).shake ≡ s → (g : HostState) → h ≡ g → Phase s g (m ∷ down) (up ++ waiting_messages c) → ClientCame m (made (said client_side (c.core).shake m))
        by client_state.Start e host_state.Start f (is, none) =
            let says : said client_side (c.core).shake m ≡ opens named_row =
            ap (λ (s : ClientState). said client_side s m) e ∙ ap (said client_side client_state.Start) (first_is is) ∙ announce_said in
            subst (λ (x : Meaning ClientState HostSays). ClientCame m (made x)) (sym says)
            (opened named_row (ap (λ (s : ClientState). becomes_ready s client_state.Named) e) (ap is_request (first_is is) ∙ announce_plain)
            (subst (λ (g : HostState). Phase client_state.Named g down ((up ++ waiting_messages c) ++ confirms ∷ names ∷ [])) (sym f) (rest_is is, ap (λ (ms : List (List ℕ)). ms ++ confirms ∷ names ∷ []) none)))
        by client_state.Named e host_state.Start f (is, none) = none_is is
        by client_state.Named e (host_state.Confirmed v) f (own, is, none) = none_is is
        by client_state.Named e host_state.Offered f (is, none) =
            let says : said client_side (c.core).shake m ≡ opens offered_row =
            ap (λ (s : ClientState). said client_side s m) e ∙ ap (said client_side client_state.Named) (first_is is) ∙ offer_said in
            subst (λ (x : Meaning ClientState HostSays). ClientCame m (made x)) (sym says)
            (opened offered_row (ap (λ (s : ClientState). becomes_ready s (client_state.Offered true)) e) (ap is_request (first_is is) ∙ offer_plain)
            (subst (λ (g : HostState). Phase (client_state.Offered true) g down ((up ++ waiting_messages c) ++ [])) (sym f) (refl, rest_is is, append-nil (up ++ waiting_messages c) ∙ none)))
        by (client_state.Offered tells) e host_state.Offered f (told, is, none) =
            let stands : (c.core).shake ≡ client_state.Offered true = e ∙ ap client_state.Offered told in
            let says : said client_side (c.core).shake m ≡ opens waiting_row =
            ap (λ (s : ClientState). said client_side s m) stands ∙ ap (said client_side (client_state.Offered true)) (first_is is) ∙ confirmed_said in
            subst (λ (x : Meaning ClientState HostSays). ClientCame m (made x)) (sym says)
            (opened waiting_row (ap (λ (s : ClientState). becomes_ready s client_state.Waiting) stands) (ap is_request (first_is is) ∙ confirm_plain)
            (subst (λ (g : HostState). Phase client_state.Waiting g down ((up ++ waiting_messages c) ++ accepts ∷ [])) (sym f) (rest_is is, ap (λ (ms : List (List ℕ)). ms ++ accepts ∷ []) none)))
        by client_state.Waiting e host_state.Offered f (is, none) = none_is is
        by client_state.Waiting e host_state.Ready f (later, is, all, none) =
            let says : said client_side (c.core).shake m ≡ opens ready_row =
            ap (λ (s : ClientState). said client_side s m) e ∙ ap (said client_side client_state.Waiting) (first_is is) ∙ logged_on_said in
            let none_up : (up ++ waiting_messages c) ++ [] ≡ [] = append-nil (up ++ waiting_messages c) ∙ none in
            subst (λ (x : Meaning ClientState HostSays). ClientCame m (made x)) (sym says)
            (opened_ready ready_row (ap (λ (s : ClientState). becomes_ready s client_state.Ready) e) refl
            (subst (λ (g : HostState). Phase client_state.Ready g down (((up ++ waiting_messages c) ++ []) ++ list_bytes (listed c) ∷ [])) (sym f)
            (subst (AllByRecursion SaysToClient) (sym (rest_is is)) all, subst (λ (ms : List (List ℕ)). AllByRecursion SaysToHost (ms ++ list_bytes (listed c) ∷ [])) (sym none_up) (lists, tt))))
        by client_state.Ready e host_state.Ready f (all, others) =
            let (a, says_a) = all.0 in
            let says : said client_side (c.core).shake m ≡ says a = ap (λ (s : ClientState). said client_side s m) e ∙ says_a in
            subst (λ (x : Meaning ClientState HostSays). ClientCame m (made x)) (sym says)
            (said_ready a e (subst (λ (s : ClientState). Phase s h down (up ++ waiting_messages c)) (sym e)
            (subst (λ (g : HostState). Phase client_state.Ready g down (up ++ waiting_messages c)) (sym f) (all.1, others))))
        by s e g f p = absurd p

-- ---- a host hears

module _ (h : HostCoreState) (c : ClientState) (way asked up : List (List ℕ)) where
  abbrev host_made : Meaning HostState Act → HostCoreState × Result Act EndFault
  host_made x = host_hear_made h (hearing.hear_said host_side h.core x)

  -- what is said to a host by an opening client is no act
  abbrev pub ActsReady : HostCoreState × Result Act EndFault → Type 0
  ActsReady (d, Ok act.Nothing) = Unit {0}
  ActsReady (d, Ok a) = (c ≡ client_state.Ready) × ((d.core).shake ≡ host_state.Ready)
  ActsReady (d, Err fault) = ⊥

  pub record HostCame (r : HostCoreState × Result Act EndFault) : Type 0 where
    pub fine : ((r.0).core).fault ≡ None
    -- what it has to send besides, which is neither a request nor a notice
    pub more : List (List ℕ)
    pub adds : ((r.0).core).outbox ≡ (h.core).outbox ++ more
    pub plain : AllByRecursion IsGreeting more
    pub phase : Phase c ((r.0).core).shake (way ++ ((r.0).core).outbox ++ asked) up
    pub acts : ActsReady r

  as_they_are : (ms : List (List ℕ)) → map (λ (m : List ℕ). m) ms ≡ ms
  as_they_are [] = refl
  as_they_are (m ∷ ms) = ap (λ (x : List (List ℕ)). m ∷ x) (as_they_are ms)

  -- where nothing is on its way only what a row writes is then
  row_alone : (messages : List (List ℕ)) → way ++ (h.core).outbox ++ asked ≡ [] → way ++ ((h.core).outbox ++ map (λ (m : List ℕ). m) messages) ++ asked ≡ messages
  row_alone messages none =
      let (others, no_asked) = no_parts (way ++ (h.core).outbox) asked none in
      let (no_way, no_own) = no_parts way (h.core).outbox others in
      rw (no_way, no_own, no_asked) (append-nil (map (λ (m : List ℕ). m) messages) ∙ as_they_are messages)

  module _ (fault : (h.core).fault ≡ None) where
    host_opened : (row : OrderRow HostState) → AllByRecursion IsGreeting (map (λ (m : List ℕ). m) (messages_of row)) → Phase c row.next (way ++ ((h.core).outbox ++ map (λ (m : List ℕ). m) (messages_of row)) ++ asked) up → HostCame (host_made (opens row))
    host_opened row plain p = record { fine = fault; more = map (λ (m : List ℕ). m) (messages_of row); adds = refl; plain = plain; phase = p; acts = tt }

    host_said : (a : Act) → c ≡ client_state.Ready → (h.core).shake ≡ host_state.Ready → Phase c (h.core).shake (way ++ (h.core).outbox ++ asked) up → HostCame (host_made (says a))
    host_said act.Nothing ready own p = record { fine = fault; more = []; adds = sym (append-nil (h.core).outbox); plain = tt; phase = p; acts = tt }
    host_said (act.Announced devices) ready own p = record { fine = fault; more = []; adds = sym (append-nil (h.core).outbox); plain = tt; phase = p; acts = (ready, own) }
    host_said (act.Removed ids) ready own p = record { fine = fault; more = []; adds = sym (append-nil (h.core).outbox); plain = tt; phase = p; acts = (ready, own) }
    host_said (act.Complete head bytes) ready own p = record { fine = fault; more = []; adds = sym (append-nil (h.core).outbox); plain = tt; phase = p; acts = (ready, own) }

    host_listening : (m : List ℕ) → host_hear h m ≡ host_made (said host_side (h.core).shake m)
    host_listening m = rw fault refl

    pub host_came : (m : List ℕ) → Phase c (h.core).shake (way ++ (h.core).outbox ++ asked) (m ∷ up) → HostCame (host_hear h m)
    host_came m p = subst HostCame (sym (host_listening m)) (by c refl (h.core).shake refl p)
      where
        by : (d : ClientState) → c ≡ d → (s : HostState) → (h.core).shake ≡ s → Phase d s (way ++ (h.core).outbox ++ asked) (m ∷ up) → HostCame (host_made (said host_side (h.core).shake m))
        by client_state.Start f host_state.Start e (none, is) = none_is is
        by client_state.Named f host_state.Start e (none, is) =
            let says : said host_side (h.core).shake m ≡ opens confirmed_row =
            ap (λ (s : HostState). said host_side s m) e ∙ ap (said host_side host_state.Start) (first_is is) ∙ confirm_said in
            subst (λ (x : Meaning HostState Act). HostCame (host_made x)) (sym says)
            (host_opened confirmed_row tt (subst (λ (d : ClientState). Phase d (host_state.Confirmed own_version) (way ++ ((h.core).outbox ++ []) ++ asked) up) (sym f) (refl, row_alone [] none, rest_is is)))
        by client_state.Named f (host_state.Confirmed v) e (own, none, is) =
            let says : said host_side (h.core).shake m ≡ opens (offering_row v) =
            ap (λ (s : HostState). said host_side s m) e ∙ ap (said host_side (host_state.Confirmed v)) (first_is is) ∙ name_said v in
            subst (λ (x : Meaning HostState Act). HostCame (host_made x)) (sym says)
            (host_opened (offering_row v) (offers_greet, (confirms_greet v own, tt)) (subst (λ (d : ClientState). Phase d host_state.Offered (way ++ ((h.core).outbox ++ offers ∷ hello_bytes (greeting.Confirm v) ∷ []) ++ asked) up) (sym f)
            (row_alone (offers ∷ hello_bytes (greeting.Confirm v) ∷ []) none ∙ ap (λ (x : Version). offers ∷ hello_bytes (greeting.Confirm x) ∷ []) own, rest_is is)))
        by client_state.Named f host_state.Offered e (none, is) = none_is is
        by (client_state.Offered tells) f host_state.Offered e (told, none, is) = none_is is
        by client_state.Waiting f host_state.Offered e (none, is) =
            let says : said host_side (h.core).shake m ≡ opens served_row =
            ap (λ (s : HostState). said host_side s m) e ∙ ap (said host_side host_state.Offered) (first_is is) ∙ accept_said in
            subst (λ (x : Meaning HostState Act). HostCame (host_made x)) (sym says)
            (host_opened served_row (logged_on_greets, tt) (subst (λ (d : ClientState). Phase d host_state.Ready (way ++ ((h.core).outbox ++ logged_on ∷ []) ++ asked) up) (sym f) ([], row_alone (logged_on ∷ []) none, tt, rest_is is)))
        by client_state.Waiting f host_state.Ready e (later, down, all, is) = none_is is
        by client_state.Ready f host_state.Ready e (all, others) =
            let (a, says_a) = others.0 in
            let says : said host_side (h.core).shake m ≡ says a = ap (λ (s : HostState). said host_side s m) e ∙ says_a in
            subst (λ (x : Meaning HostState Act). HostCame (host_made x)) (sym says)
            (host_said a f e (subst (λ (s : HostState). Phase c s (way ++ (h.core).outbox ++ asked) up) (sym e)
            (subst (λ (d : ClientState). Phase d host_state.Ready (way ++ (h.core).outbox ++ asked) up) (sym f) (all, others.1))))
        by d f s e p = absurd p
