-- What a client hears and writes, and what it said by it.
use Rattle.std.proofs.Common.{◌≡◌, ◌∙◌, refl, sym, ap, subst, ℕ, ◌==◌, Bool, true, false, cond, append-nil, append_assoc, List, [], ◌∷◌, ◌++◌, map, inl, inr, Some, None, Option, Result, Ok, Err}
use Rattle.std.specs.Prelude.{◌&&◌, not}
use Rattle.std.specs.List.{list_any}
use Rattle.std.specs.Option.{option_to_list}
use Rattle.std.specs.List.{AllByRecursion}
use Rattle.rd_base.specs.Statuses.{insufficient_resources, no_such_device}
use Rattle.rd_base.specs.declared.journal.Key.{Key}
use Rattle.rd_base.specs.declared.status.Status.{Status}
use Rattle.rd_client.specs.Core as client
use Rattle.rd_client.specs.Core.{AreDevices, ClientCoreState, ClientDevice, HostSays, Outgoing, announces, becomes_ready, client_hear, client_hear_made, client_opened, client_side, is_present, listed, plain}
use Rattle.rd_client.specs.Order.{is_client_ready}
use Rattle.rd_client.specs.declared.heard.Heard.{Heard}
use Rattle.rd_client.specs.declared.heard.Heard.TheVariants as heard
use Rattle.rd_core.specs.Core.{CoreState}
use Rattle.rd_core.specs.Hearing as hearing
use Rattle.rd_core.specs.Hearing.{Meaning, messages_of, nothing, opens, says, wrong}
use Rattle.rd_devices.specs.DeviceList.{list_bytes}
use Rattle.rd_drive.specs.Outcome.{fault}
use Rattle.rd_hello.specs.Hello.{hello_bytes}
use Rattle.rd_hello.specs.declared.client.ClientState.{ClientState}
use Rattle.rd_hello.specs.declared.end_fault.EndFault.{EndFault}
use Rattle.rd_hello.specs.declared.hello.Hello.{Hello}
use Rattle.rd_irp.specs.declared.completion.Head.{Head}
use Rattle.rd_irp.specs.declared.completion.Reply.{Reply}
use Rattle.rd_refused.proofs.JournalsWritingLemmas.{AreOwn}
use Rattle.rd_refused.proofs.MarkLemmas.{first_marks}
use Rattle.rd_refused.proofs.SaidLemmas.{hello_says}
use Rattle.rd_refused.specs.Refused.{RefusesDirectly}
use Rattle.rd_deeds.proofs.Messages.{head_read}
use Rattle.rd_world.specs.Opening.{AreShort}
use Rattle.rd_deeds.specs.Talk.{Deed, client_wrote, completes, head_in}
use Rattle.rd_deeds.specs.Told.{is_said_gone}
use Rattle.rd_answered.proofs.ListedLemmas.{ready_moves, spells}
use Rattle.rd_answered.specs.Refusing.{AllRefuse, HasRoomToAnnounce, RefusesGone, SaysMarks, is_told_by, written_then}

-- ---- what waits

pub then_more : (xs ys : List Outgoing) (older : List (List ℕ)) → written_then (xs ++ ys) older ≡ written_then ys (written_then xs older)
then_more [] ys older = refl
then_more (x ∷ xs) ys older = then_more xs ys (x.message ∷ older)

pub refuse_more : (xs ys : List Outgoing) (older : List (List ℕ)) → AllRefuse xs older → AllRefuse ys (written_then xs older) → AllRefuse (xs ++ ys) older
refuse_more [] ys older all others = others
refuse_more (x ∷ xs) ys older all others = (all.0, refuse_more xs ys (x.message ∷ older) all.1 others)

none_refuses : (a : Option Key) (m : List ℕ) (older : List (List ℕ)) → a ≡ None → RefusesGone a m older
none_refuses None m older e = tt
none_refuses (Some key) m older e = absurd (cc e)

pub own_refuse : (ys : List Outgoing) (older : List (List ℕ)) → AreOwn ys → AllRefuse ys older
own_refuse [] older own = tt
own_refuse (y ∷ ys) older own = (none_refuses y.answers y.message older (own y (inl refl)).0, own_refuse ys (y.message ∷ older) (λ o has. own o (inr has)))

-- ---- a refusal

-- A message that says that there is no such device, behind what says that its device is gone, is the refusal that is called for.
pub refuses_so : (key : Key) (m : List ℕ) (before : List Deed) → RefusesGone (Some key) m (client_wrote key.channel before) → RefusesDirectly before (completes key m)
refuses_so key m before (h, is_head, status, gone) r reply read done never refusal =
    let k : Head = record { device = r.device; completion = r.completion; status = reply.status } in
    let back = head_read k m done.head in
    let is : head_in m ≡ Some k = rw back.1 refl in
    let both : Some h ≡ Some k = sym is_head ∙ is in
    let same : h ≡ k = cc both in
    let said : is_said_gone r.device (client_wrote key.channel before) ≡ true = subst (λ (x : Head). is_said_gone x.device (client_wrote key.channel before) ≡ true) same gone in
    let no_such : reply.status ≡ no_such_device = ap (λ (x : Head). x.status) (sym same) ∙ status in
    elim refusal [
      | inl is_gone ↦ inl (said, is_gone)
      | inr short ↦ absurd (let differ : insufficient_resources ≡ no_such_device = ap (λ (x : Reply). x.status) (sym short) ∙ no_such in let no : false ≡ true = ap (λ (s : Status). s.0 == no_such_device.0) differ in cc no)
    ]

-- ---- what is heard

-- what a client has to send then: messages of the opening, and where it becomes ready its devices
abbrev list_if : Bool → ClientCoreState → List Outgoing
list_if ready c = cond ready (plain (list_bytes (listed c)) ∷ []) []

pub record HearsOn (c : ClientCoreState) (r : ClientCoreState × Result Heard EndFault) : Type 0 where
  pub devices : (r.0).devices ≡ c.devices
  pub hellos : List Hello
  pub more : ((r.0).core).outbox ≡ (c.core).outbox ++ (map plain (map hello_bytes hellos) ++ list_if (becomes_ready (c.core).shake ((r.0).core).shake) c)
  pub opens : becomes_ready (c.core).shake ((r.0).core).shake ≡ true → r.1 ≡ Ok heard.Nothing

same_ready : (s : ClientState) → becomes_ready s s ≡ false
same_ready s = ready_moves s s ∙ none (is_client_ready s)
  where
    none : (b : Bool) → (not b && b) ≡ false
    none true = refl
    none false = refl

quiet : (c : ClientCoreState) (r : ClientCoreState × Result Heard EndFault) → (r.0).devices ≡ c.devices → ((r.0).core).shake ≡ (c.core).shake → ((r.0).core).outbox ≡ (c.core).outbox → HearsOn c r
quiet c r same state out =
    let never : becomes_ready (c.core).shake ((r.0).core).shake ≡ false = ap (λ (s : ClientState). becomes_ready (c.core).shake s) state ∙ same_ready (c.core).shake in
    record {
      devices = same;
      hellos = [];
      more = out ∙ sym (append-nil (c.core).outbox) ∙ ap (λ (b : Bool). (c.core).outbox ++ list_if b c) (sym never);
      opens = λ e. absurd (cc (e, never));
    }

opened : (c : ClientCoreState) (after : CoreState ClientState Outgoing) (hs : List Hello) → after.outbox ≡ (c.core).outbox ++ map plain (map hello_bytes hs) → HearsOn c (client_opened c after, Ok heard.Nothing)
opened c after hs more = by (becomes_ready (c.core).shake after.shake) refl
  where
    next : ClientCoreState
    next = record c { core = after }

    own : List Outgoing
    own = map plain (map hello_bytes hs)

    by : (b : Bool) → becomes_ready (c.core).shake after.shake ≡ b → HearsOn c (cond b (client.with_outgoing next (plain (list_bytes (listed c)))) next, Ok heard.Nothing)
    by true e = record {
      devices = refl;
      hellos = hs;
      more = ap (λ (os : List Outgoing). os ++ plain (list_bytes (listed c)) ∷ []) more ∙ append_assoc (c.core).outbox own (plain (list_bytes (listed c)) ∷ []) ∙ ap (λ (b : Bool). (c.core).outbox ++ (own ++ list_if b c)) (sym e);
      opens = λ e. refl;
    }
    by false e = record {
      devices = refl;
      hellos = hs;
      more = more ∙ ap (λ (os : List Outgoing). (c.core).outbox ++ os) (sym (append-nil own)) ∙ ap (λ (b : Bool). (c.core).outbox ++ (own ++ list_if b c)) (sym e);
      opens = λ e. refl;
    }

abbrev made : ClientCoreState → Meaning ClientState HostSays → ClientCoreState × Result Heard EndFault
made c s = client_hear_made c (hearing.hear_said client_side c.core s)

said_on : (c : ClientCoreState) (s : Meaning ClientState HostSays) → HearsOn c (made c s)
said_on c (wrong fault) = quiet c (made c (wrong fault)) refl refl refl
said_on c nothing = opened c c.core [] (sym (append-nil (c.core).outbox))
said_on c (opens row) = opened c (hearing.after_row client_side c.core row) (option_to_list row.first ++ option_to_list row.second) refl
said_on c (says (client.requests r)) = quiet c (made c (says (client.requests r))) refl refl refl
said_on c (says (client.replies r)) = quiet c (made c (says (client.replies r))) refl refl refl
said_on c (says (client.notices n)) = quiet c (made c (says (client.notices n))) refl refl refl

deaf : (c : ClientCoreState) (m : List ℕ) (fault : EndFault) → (c.core).fault ≡ Some fault → client_hear c m ≡ (c, Err fault)
deaf c m fault e = rw e refl

listening : (c : ClientCoreState) (m : List ℕ) → (c.core).fault ≡ None → client_hear c m ≡ made c (hearing.said client_side (c.core).shake m)
listening c m e = rw e refl

pub hear_on : (c : ClientCoreState) (m : List ℕ) → HearsOn c (client_hear c m)
hear_on c m = by (c.core).fault refl
  where
    by : (f : Option EndFault) → (c.core).fault ≡ f → HearsOn c (client_hear c m)
    by (Some fault) e = subst (HearsOn c) (sym (deaf c m fault e)) (quiet c (c, Err fault) refl refl refl)
    by None e = subst (HearsOn c) (sym (listening c m e)) (said_on c (hearing.said client_side (c.core).shake m))

-- ---- what is said by it

hellos_say : (d : ℕ) (hs : List Hello) (older : List (List ℕ)) → is_said_gone d (written_then (map plain (map hello_bytes hs)) older) ≡ is_said_gone d older
hellos_say d [] older = refl
hellos_say d (h ∷ hs) older = hellos_say d hs (hello_bytes h ∷ older) ∙ hello_says d h older

abbrev Shown : Bool → List ClientDevice → ℕ → Bool
Shown ready ds d = ready && (list_any (client.is_device d) ds && not (list_any (λ x. client.is_device d x && x.removed) ds))

pub hear_marks : (c : ClientCoreState) (r : ClientCoreState × Result Heard EndFault) (wrote : List (List ℕ)) → HearsOn c r → (is_client_ready (c.core).shake ≡ true → is_client_ready ((r.0).core).shake ≡ true)
    → AreDevices (announces c) → AreShort (announces c) → AllByRecursion HasRoomToAnnounce (announces c) → SaysMarks c (written_then (c.core).outbox wrote) → SaysMarks r.0 (written_then ((r.0).core).outbox wrote)
hear_marks c r wrote on stays are short room say d =
    ap (λ (os : List Outgoing). is_said_gone d (written_then os wrote)) on.more
    ∙ ap (is_said_gone d) (then_more (c.core).outbox (own ++ list_if (becomes_ready (c.core).shake ((r.0).core).shake) c) wrote ∙ then_more own (list_if (becomes_ready (c.core).shake ((r.0).core).shake) c) older)
    ∙ by (is_client_ready (c.core).shake) (is_client_ready ((r.0).core).shake) (becomes_ready (c.core).shake ((r.0).core).shake) (ready_moves (c.core).shake ((r.0).core).shake) stays say
    ∙ ap (λ (ds : List ClientDevice). not (Shown (is_client_ready ((r.0).core).shake) ds d)) (sym on.devices)
  where
    own : List Outgoing
    own = map plain (map hello_bytes on.hellos)

    older : List (List ℕ)
    older = written_then (c.core).outbox wrote

    by : (p q b : Bool) → b ≡ (not p && q) → (p ≡ true → q ≡ true) → ((e : ℕ) → is_said_gone e older ≡ not (Shown p c.devices e))
        → is_said_gone d (written_then (list_if b c) (written_then own older)) ≡ not (Shown q c.devices d)
    by true true b moves stays say = subst (λ (x : Bool). is_said_gone d (written_then (list_if x c) (written_then own older)) ≡ not (Shown true c.devices d)) (sym moves) (hellos_say d on.hellos older ∙ say d)
    by true false b moves stays say = absurd (cc (stays refl))
    by false false b moves stays say = subst (λ (x : Bool). is_said_gone d (written_then (list_if x c) (written_then own older)) ≡ not (Shown false c.devices d)) (sym moves) (hellos_say d on.hellos older ∙ say d)
    by false true b moves stays say = subst (λ (x : Bool). is_said_gone d (written_then (list_if x c) (written_then own older)) ≡ not (Shown true c.devices d)) (sym moves)
        (first_marks c (written_then own older) are (spells is_present c short room) (λ e. hellos_say e on.hellos older ∙ say e) d)

pub hear_refuses : (c : ClientCoreState) (r : ClientCoreState × Result Heard EndFault) (wrote : List (List ℕ)) (more : List Outgoing) → ((r.0).core).outbox ≡ (c.core).outbox ++ more → AreOwn more → AllRefuse (c.core).outbox wrote → AllRefuse ((r.0).core).outbox wrote
hear_refuses c r wrote more same own all = subst (λ (os : List Outgoing). AllRefuse os wrote) (sym same) (refuse_more (c.core).outbox more wrote all (own_refuse more (written_then (c.core).outbox wrote) own))

-- a device that the host is told of then was told of before, unless the client becomes ready
pub told_before : (c : ClientCoreState) (r : ClientCoreState × Result Heard EndFault) → HearsOn c r → becomes_ready (c.core).shake ((r.0).core).shake ≡ false → (d : ℕ) → is_told_by r.0 d ≡ true → is_told_by c d ≡ true
told_before c r on never d told =
    by (is_client_ready (c.core).shake) (is_client_ready ((r.0).core).shake) (sym (ready_moves (c.core).shake ((r.0).core).shake) ∙ never) (ap (λ (ds : List ClientDevice). Shown (is_client_ready ((r.0).core).shake) ds d) (sym on.devices) ∙ told)
  where
    by : (p q : Bool) → (not p && q) ≡ false → Shown q c.devices d ≡ true → Shown p c.devices d ≡ true
    by true true e is = is
    by true false e is = absurd (cc is)
    by false true e is = absurd (cc e)
    by false false e is = absurd (cc is)
