-- Parts that read a message, tell of a device, or change what is under way: the core has its own messages more to write, and no more.
use Rattle.std.proofs.Common.{◌≡◌, ◌∙◌, refl, sym, ap, subst, ℕ, List, [], ◌∷◌, Option, Some, None, Result, Ok, Err, append-nil}
use Rattle.std.specs.List.{AllByRecursion}
use Rattle.rd_client.specs.Core as client
use Rattle.rd_client.specs.Core.{ClientCoreState, Outgoing, client_hear, client_side}
use Rattle.rd_client.specs.declared.heard.Heard.{Heard}
use Rattle.rd_client.specs.declared.heard.Heard.TheVariants.{Nothing, Ask, Print}
use Rattle.rd_core.specs.Hearing as hearing
use Rattle.rd_devices.specs.DeviceList.{list_bytes}
use Rattle.rd_devices.specs.Removal.{removal_bytes}
use Rattle.rd_front.specs.Front.{with_new_data}
use Rattle.rd_front.specs.State.{FrontState}
use Rattle.rd_hello.specs.declared.end_fault.EndFault.{EndFault}
use Rattle.rd_hello.specs.declared.end_fault.EndFault.TheVariants as fault
use Rattle.rd_station.specs.declared.answers.Completion.{Completion}
use Rattle.rd_deeds.specs.Talk.{Deed, adds, client_reads, removes}
use Rattle.rd_refused.proofs.JournalsWritingLemmas.{AddsOwn, adds_own, hear_adds, list_own, removal_own}
use Rattle.rd_served.specs.Deeds.{deeds_of}
use Rattle.rd_served.specs.Parts.{FrontPart, PartGoes, asking_by, begins, calls, directs, ends, forgets, hears, keeps, learns, misplaces, refreshes, sends, tells_gone, tells_there, tries, unwritten, writes}
use Rattle.rd_served.specs.Served.{Asking, Served, asks, hands, idle}
use Rattle.rd_served.proofs.StandingLemmas.{refreshed_more, sent_none}
use Rattle.std.specs.Map.{lookup}
use Rattle.std.specs.Option.{option_map_or}
use Rattle.std.specs.Ordering.{nat_cmp}
use Rattle.std.specs.BTreeMap.{is_at}
use Rattle.rd_declared.specs.Devices.{PrinterNames, printer_data}

abbrev pub outbox_of : Served → List Outgoing
outbox_of p = (((p.front).client).core).outbox

-- a deed that stores nothing and writes nothing
abbrev pub IsLight : Deed → Type 0
IsLight (client_reads channel message) = Unit {0}
IsLight (removes device) = Unit {0}
IsLight (adds device) = Unit {0}
IsLight _ = ⊥

abbrev pub IsQuiet : FrontPart → Type 0
IsQuiet (directs st (Ok done)) = ⊥
IsQuiet (calls place id does back items) = ⊥
IsQuiet (sends channel (Some o)) = ⊥
IsQuiet (writes device c) = ⊥
IsQuiet (begins channel) = ⊥
IsQuiet (ends over told) = ⊥
IsQuiet _ = Unit {0}

pub record Quiet (p : Served) (x : FrontPart) (q : Served) : Type 0 where
  pub channel : (q.front).channel ≡ (p.front).channel
  pub on : (q.front).on ≡ (p.front).on
  pub own : AddsOwn (outbox_of p) (outbox_of q)
  pub handing : (device : ℕ) (c : Completion) → q.asking ≡ hands device c → p.asking ≡ hands device c
  pub light : AllByRecursion IsLight (deeds_of x)

none_more : (old new : List Outgoing) → new ≡ old → AddsOwn old new
none_more old new same = ([], same ∙ sym (append-nil old), λ o none. absurd none)

-- it isn't that a completion is handed out
abbrev NotHands : Asking → Type 0
NotHands (hands device c) = ⊥
NotHands _ = Unit {0}

not_hands : (a b : Asking) → a ≡ b → NotHands b → (device : ℕ) (c : Completion) → a ≡ hands device c → ⊥
not_hands a b is none device c same = subst NotHands (sym is ∙ same) none

asked_not : (a : Result Heard EndFault) → NotHands (asking_by a)
asked_not (Ok (Ask device job)) = tt
asked_not (Ok Nothing) = tt
asked_not (Ok (Print n)) = tt
asked_not (Err cause) = tt

hears_quiet : (p q : Served) (channel : ℕ) (m : List ℕ) (answer : Result Heard EndFault) → PartGoes p (hears channel m answer) q → Quiet p (hears channel m answer) q
hears_quiet p q channel m answer goes = record {
  channel = ap (λ (s : FrontState). s.channel) (goes.3).1;
  on = ap (λ (s : FrontState). s.on) (goes.3).1;
  own = more answer ((goes.3).0).1;
  handing = λ device c same. absurd (not_hands q.asking (asking_by answer) goes.4 (asked_not answer) device c same);
  light = light answer;
}
  where
    heard : (a : Result Heard EndFault) → client_hear (p.front).client m ≡ ((q.front).client, a) → AddsOwn (outbox_of p) (outbox_of q)
    heard a e = subst (λ (r : ClientCoreState × Result Heard EndFault). AddsOwn (outbox_of p) ((r.0).core).outbox) e (hear_adds (p.front).client m)

    more : (a : Result Heard EndFault) → hearing.Hears client_side (λ (c : ClientCoreState). c.core) client_hear (p.front).client m a (q.front).client → AddsOwn (outbox_of p) (outbox_of q)
    more (Err fault.Memory) did = none_more (outbox_of p) (outbox_of q) (ap (λ (c : ClientCoreState). (c.core).outbox) did.1)
    more (Err (fault.Order state packet)) did = heard (Err (fault.Order state packet)) did
    more (Err (fault.Grammar bad)) did = heard (Err (fault.Grammar bad)) did
    more (Ok h) did = heard (Ok h) did

    light : (a : Result Heard EndFault) → AllByRecursion IsLight (deeds_of (hears channel m a))
    light (Err fault.Memory) = tt
    light (Err (fault.Order state packet)) = (tt, tt)
    light (Err (fault.Grammar bad)) = (tt, tt)
    light (Ok h) = (tt, tt)

-- the same front but for what is under way and kept back
same_client : (p q : Served) (x : FrontPart) → (q.front).channel ≡ (p.front).channel → (q.front).on ≡ (p.front).on → outbox_of q ≡ outbox_of p → ((device : ℕ) (c : Completion) → q.asking ≡ hands device c → p.asking ≡ hands device c) → AllByRecursion IsLight (deeds_of x) → Quiet p x q
same_client p q x channel on outbox handing light = record { channel = channel; on = on; own = none_more (outbox_of p) (outbox_of q) outbox; handing = handing; light = light }

client_quiet : (p q : Served) (x : FrontPart) (unsent : ℕ) → q.front ≡ record p.front { client = (q.front).client; unsent = unsent } → AddsOwn (outbox_of p) (outbox_of q) → ((device : ℕ) (c : Completion) → q.asking ≡ hands device c → p.asking ≡ hands device c)
    → AllByRecursion IsLight (deeds_of x) → Quiet p x q
client_quiet p q x unsent is own handing light = record { channel = ap (λ (s : FrontState). s.channel) is; on = ap (λ (s : FrontState). s.on) is; own = own; handing = handing; light = light }

refreshed_on : (s : FrontState) (device : ℕ) → let t = with_new_data s device in (t.channel ≡ s.channel) × (t.on ≡ s.on)
refreshed_on s device = go (lookup (is_at (nat_cmp device)) s.printers)
  where
    go : (o : Option PrinterNames) → let t = option_map_or (λ (names : PrinterNames). record s { client = client.refresh s.client device (printer_data s.cache names) }) o s in (t.channel ≡ s.channel) × (t.on ≡ s.on)
    go None = (refl, refl)
    go (Some names) = (refl, refl)

pub part_quiet : (p q : Served) (x : FrontPart) → IsQuiet x → PartGoes p x q → Quiet p x q
part_quiet p q (hears channel m answer) is goes = hears_quiet p q channel m answer goes
part_quiet p q tries is goes = same_client p q tries (ap (λ (s : Served). (s.front).channel) goes.4) (ap (λ (s : Served). (s.front).on) goes.4) (ap outbox_of goes.4)
    (λ device c same. absurd (not_hands q.asking (asks goes.0) (ap (λ (s : Served). s.asking) goes.4) tt device c same)) tt
part_quiet p q keeps is goes = same_client p q keeps (ap (λ (s : Served). (s.front).channel) goes.3) (ap (λ (s : Served). (s.front).on) goes.3) (ap outbox_of goes.3)
    (λ device c same. absurd (not_hands q.asking idle (ap (λ (s : Served). s.asking) goes.3) tt device c same)) tt
part_quiet p q forgets is goes = same_client p q forgets (ap (λ (s : Served). (s.front).channel) goes.4) (ap (λ (s : Served). (s.front).on) goes.4) (ap outbox_of goes.4)
    (λ device c same. absurd (not_hands q.asking idle (ap (λ (s : Served). s.asking) goes.4) tt device c same)) tt
part_quiet p q misplaces is goes = same_client p q misplaces (ap (λ (s : Served). (s.front).channel) goes.3) (ap (λ (s : Served). (s.front).on) goes.3) (ap outbox_of goes.3)
    (λ device c same. absurd (not_hands q.asking idle (ap (λ (s : Served). s.asking) goes.3) tt device c same)) tt
part_quiet p q (unwritten device x) is goes = same_client p q (unwritten device x) (ap (λ (s : Served). (s.front).channel) goes.1) (ap (λ (s : Served). (s.front).on) goes.1) (ap outbox_of goes.1)
    (λ d c same. absurd (not_hands q.asking idle (ap (λ (s : Served). s.asking) goes.1) tt d c same)) tt
part_quiet p q (directs st (Ok done)) is goes = absurd is
part_quiet p q (directs st (Err error)) is goes = client_quiet p q (directs st (Err error)) _ (goes.2).1 (none_more (outbox_of p) (outbox_of q) (ap (λ (c : ClientCoreState). (c.core).outbox) ((goes.2).0).1))
    (λ device c same. absurd (not_hands q.asking idle goes.3 tt device c same)) tt
part_quiet p q (calls place id does back items) is goes = absurd is
part_quiet p q (tells_gone device (Ok done)) is goes = client_quiet p q (tells_gone device (Ok done)) _ (goes.0).1
    (subst (AddsOwn (outbox_of p)) (sym (ap (λ (c : ClientCoreState). (c.core).outbox) ((goes.0).0).1)) (adds_own (outbox_of p) (removal_bytes (device ∷ [])) (removal_own (device ∷ []))))
    (λ d c same. sym goes.1 ∙ same) (tt, tt)
part_quiet p q (tells_gone device (Err error)) is goes = client_quiet p q (tells_gone device (Err error)) _ (goes.0).1 (none_more (outbox_of p) (outbox_of q) (ap (λ (c : ClientCoreState). (c.core).outbox) ((goes.0).0).1))
    (λ d c same. sym goes.1 ∙ same) tt
part_quiet p q (tells_there device (Ok done)) is goes = client_quiet p q (tells_there device (Ok done)) _ (goes.0).1
    (subst (AddsOwn (outbox_of p)) (sym (ap (λ (c : ClientCoreState). (c.core).outbox) ((goes.0).0).1)) (adds_own (outbox_of p) (list_bytes (client.listed_one (p.front).client device)) (list_own (client.listed_one (p.front).client device))))
    (λ d c same. sym goes.1 ∙ same) (tt, tt)
part_quiet p q (tells_there device (Err error)) is goes = client_quiet p q (tells_there device (Err error)) _ (goes.0).1 (none_more (outbox_of p) (outbox_of q) (ap (λ (c : ClientCoreState). (c.core).outbox) ((goes.0).0).1))
    (λ d c same. sym goes.1 ∙ same) tt
part_quiet p q (sends channel (Some o)) is goes = absurd is
part_quiet p q (sends channel None) is goes = client_quiet p q (sends channel None) _ (goes.1).1 (none_more (outbox_of p) (outbox_of q) (sent_none (p.front).client (q.front).client (goes.1).0))
    (λ d c same. sym goes.2 ∙ same) tt
part_quiet p q (writes device c) is goes = absurd is
part_quiet p q (learns n answer) is goes = same_client p q (learns n answer) (ap (λ (s : Served). (s.front).channel) goes.1) (ap (λ (s : Served). (s.front).on) goes.1) (ap outbox_of goes.1)
    (λ d c same. sym (ap (λ (s : Served). s.asking) goes.1) ∙ same) tt
part_quiet p q (refreshes device) is goes =
    let on = refreshed_on p.front device in
    same_client p q (refreshes device) (ap (λ (s : Served). (s.front).channel) goes ∙ on.0) (ap (λ (s : Served). (s.front).on) goes ∙ on.1) (ap outbox_of goes ∙ ap (λ c. c.outbox) (refreshed_more p.front device).1)
    (λ d c same. sym (ap (λ (s : Served). s.asking) goes) ∙ same) tt
part_quiet p q (begins channel) is goes = absurd is
part_quiet p q (ends over told) is goes = absurd is
