-- What readers of messages tell is what is heard.
use Rattle.std.proofs.Common.{◌≡◌, ℕ, Bool, true, false, List, [], ◌∷◌, length, drop, map, Some, None, cond, Result, Ok, Err, refl, sym, ap, subst, ◌∙◌}
use Rattle.std.specs.Prelude.{◌==◌, ◌&&◌, ◌≢◌, IsErrAnd}
use Rattle.std.proofs.lemmas.Bool.{eqb-true}
use Rattle.rd_base.specs.declared.bad.Bad.{Bad}
use Rattle.rd_base.specs.declared.bad.Why.TheVariants as why
use Rattle.rd_base.specs.declared.packet.Packet.{Packet}
use Rattle.rd_base.specs.declared.packet.Packet.TheVariants as packet
use Rattle.rd_base.specs.Header.{header, SpellsHeader}
use Rattle.rd_base.specs.Layout.{Layout, met, Spells}
use Rattle.rd_base.specs.Position.{Position, at_start}
use Rattle.rd_base.specs.Reading.{WithTail}
use Rattle.rd_base.proofs.HeaderLemmas.{named_back}
use Rattle.rd_base.proofs.LayoutLemmas.{meets}
use Rattle.rd_devices.specs.declared.list.Announce.{Announce}
use Rattle.rd_devices.specs.DeviceList.{device_list}
use Rattle.rd_devices.specs.Removal.{removal}
use Rattle.rd_base.specs.declared.status.Status.{Status}
use Rattle.rd_irp.specs.declared.completion.Head.{Head}
use Rattle.rd_irp.specs.declared.completion.Kind.{Kind}
use Rattle.rd_irp.specs.Completion.{completion_body, completion_head, SpellsHead}
use Rattle.rd_irp.specs.Measure.{tail_of}
use Rattle.rd_decode.specs.declared.side.Side.{Side}
use Rattle.rd_decode.specs.declared.fault.EntryFault.{EntryFault}
use Rattle.rd_decode.specs.declared.fault.FaultWhy.TheVariants as fault
use Rattle.rd_decode.specs.Awaited.{AwaitedOf, first_awaited, others_of, with_awaited}
use Rattle.rd_decode.specs.declared.fault.LineNo.{LineNo}
use Rattle.rd_decode.specs.Kept.{line_no_of}
use Rattle.rd_decode.specs.Lines.{may_send}
use Rattle.rd_decode.specs.Messages.{in_frame, plain_tail, unless_bad}
use Rattle.rd_recorded.specs.Channels.{Open, announces, completes, removes}
use Rattle.rd_recorded.specs.Kept.{Hears}
use Rattle.rd_recorded.specs.Messages.{with_completion, message_heard, heard_completion, heard_list, heard_of, heard_packet, heard_removal, heard_sent, asked_kind, saying}

-- what a reader read
layout_met : {A : Type 0} (l : Layout A) (bytes message : List ℕ) (a : A) (count : ℕ) → bytes ≡ message → WithTail count (λ tail. Spells l a tail bytes) → (p : Position) × (met l (at_start message) ≡ Ok (a, p))
layout_met l bytes message a count same (tail, is, s) = let m = meets l 0 bytes a tail s in subst (λ (xs : List ℕ). (p : Position) × (met l (at_start xs) ≡ Ok (a, p))) same (_, m.1)

pub removal_heard : (entry : ℕ) (bytes message : List ℕ) (o : Open) (ids : List ℕ) (count : ℕ) → bytes ≡ message → WithTail count (λ tail. Spells removal ids tail bytes) → heard_removal entry message o ≡ Ok (saying entry (removes ids) o)
removal_heard entry bytes message o ids count same s = rw (layout_met removal bytes message ids count same s).1 refl

pub list_heard : (entry : ℕ) (bytes message : List ℕ) (o : Open) (list : List Announce) (ids : List ℕ) (count : ℕ) → bytes ≡ message → WithTail count (λ tail. Spells device_list list tail bytes) → ids ≡ map (λ (a : Announce). a.id) list
    → heard_list entry message o ≡ Ok (saying entry (announces ids) o)
list_heard entry bytes message o list ids count same s is = rw ((layout_met device_list bytes message list count same s).1, is) refl

-- ---- completions
-- a completion whose head reads
pub head_heard : (entry : ℕ) (bytes message : List ℕ) (o : Open) (head : Head) (n : ℕ) → bytes ≡ message → SpellsHead head n bytes → heard_completion entry message o ≡ heard_of entry message head o (o.awaited head.device head.completion)
head_heard entry bytes message o head n same s =
    let m = meets completion_head 0 bytes head n s in
    subst (λ (xs : List ℕ). heard_completion entry xs o ≡ heard_of entry xs head o (o.awaited head.device head.completion)) same (rw m.1 refl)

-- no request is left of its pair
pub stray_heard : (entry : ℕ) (message : List ℕ) (o : Open) (head : Head) (queue : List ℕ) → None ≡ first_awaited queue → heard_of entry message head o queue ≡ Ok (saying entry (completes None message) o)
stray_heard entry message o head [] none = refl
stray_heard entry message o head (index ∷ others) none = absurd cc

-- where nothing was to come of a pair, that nothing is changes nothing
pub none_changes : {K : Type 0} (d c : ℕ) (queue : List K) (awaited : AwaitedOf K) → None ≡ first_awaited queue → awaited d c ≡ queue → with_awaited d c (others_of queue) awaited ≡ awaited
none_changes {K} d c [] awaited none is = λ i. λ x y. (same x y (d == x) refl (c == y) refl) i
  where
    same : (x y : ℕ) (a : Bool) → (d == x) ≡ a → (b : Bool) → (c == y) ≡ b → cond (a && b) [] (awaited x y) ≡ awaited x y
    same x y true device true completion = sym (ap (λ (n : ℕ). awaited n y) (sym (eqb-true d x device)) ∙ ap (awaited d) (sym (eqb-true c y completion)) ∙ is)
    same x y true device false completion = refl
    same x y false device b completion = refl
none_changes d c (index ∷ others) awaited none is = absurd cc

-- how the body of the completion of a request reads
body_at : (bytes message : List ℕ) (o : Open) (status : Status) (index k : ℕ) (kind : Kind) (r : Result ℕ Bad) → bytes ≡ message → kind ≡ asked_kind index o.requests → k ≡ index → tail_of (completion_body kind status) (drop 16 bytes) ≡ r
    → tail_of (completion_body (asked_kind k o.requests) status) (drop 16 message) ≡ r
body_at bytes message o status index k kind r same is at e =
    ap (λ (n : ℕ). tail_of (completion_body (asked_kind n o.requests) status) (drop 16 message)) at ∙ ap (λ (x : Kind). tail_of (completion_body x status) (drop 16 message)) (sym is) ∙ ap (λ (xs : List ℕ). tail_of (completion_body kind status) (drop 16 xs)) (sym same) ∙ e

-- the first request of its pair says so
pub completion_heard : (entry : ℕ) (bytes message : List ℕ) (o : Open) (head : Head) (queue : List ℕ) (index tail : ℕ) (kind : Kind) → bytes ≡ message → kind ≡ asked_kind index o.requests → Some index ≡ first_awaited queue
    → tail_of (completion_body kind head.status) (drop 16 bytes) ≡ Ok tail
    → heard_of entry message head o queue ≡ Ok (saying entry (completes (Some index) message) (record o
    { requests = with_completion index (length o.sayings) o.requests; awaited = with_awaited head.device head.completion (others_of queue) o.awaited }))
completion_heard entry bytes message o head [] index tail kind same is first e = absurd cc
completion_heard entry bytes message o head (k ∷ others) index tail kind same is first e =
    let at : k ≡ index = cc in
    rw (body_at bytes message o head.status index k kind (Ok tail) same is at e) (ap (λ (n : ℕ). Ok (saying entry (completes (Some n) message) (record o { requests = with_completion n (length o.sayings) o.requests; awaited = with_awaited head.device head.completion others o.awaited }))) at)

pub completion_fails : (entry : ℕ) (bytes message : List ℕ) (o : Open) (head : Head) (queue : List ℕ) (index : ℕ) (kind : Kind) (bad : Bad) → bytes ≡ message → kind ≡ asked_kind index o.requests → Some index ≡ first_awaited queue
    → tail_of (completion_body kind head.status) (drop 16 bytes) ≡ Err bad → heard_of entry message head o queue ≡ in_frame (fault.Field bad.why)
completion_fails entry bytes message o head [] index kind bad same is first e = absurd cc
completion_fails entry bytes message o head (k ∷ others) index kind bad same is first e =
    let at : k ≡ index = cc in
    rw (body_at bytes message o head.status index k kind (Err bad) same is at e) refl

-- a fault of a field comes as the error that it becomes
pub hears_fault : (r : Result Open EntryFault) (new : Open) (result : Result (Unit {0}) LineNo) (bad : Bad) → IsErrAnd result (λ e. e ≡ line_no_of bad) → r ≡ in_frame (fault.Field bad.why) → Hears r new result
hears_fault r new (Ok u) bad is e = absurd is
hears_fault r new (Err f) bad is e = subst (λ (n : LineNo). Hears r new (Err n)) (sym is) e

-- ---- messages
-- a message whose header reads
header_heard : (entry : ℕ) (side : Side) (message : List ℕ) (o : Open) (p : Packet) (tail : ℕ) → SpellsHeader p tail message → message_heard entry side message o ≡ heard_sent entry side message o (Some p)
header_heard entry side message o p tail s = let m = meets (header p) 0 message tt tail s in rw (named_back p (at_start message) m.0 m.1) refl

-- a packet that this side sends
pub sent_heard : (entry : ℕ) (side : Side) (bytes message : List ℕ) (o : Open) (p : Packet) (tail : ℕ) → bytes ≡ message → SpellsHeader p tail bytes → may_send side p ≡ true → message_heard entry side message o ≡ heard_packet p entry message o
sent_heard entry side bytes message o p tail same s is = subst (λ (xs : List ℕ). message_heard entry side xs o ≡ heard_packet p entry xs o) same (header_heard entry side bytes o p tail s ∙ rw is refl)

-- and one that it doesn't
pub not_sent_heard : (entry : ℕ) (side : Side) (bytes message : List ℕ) (o : Open) (p : Packet) (tail : ℕ) → bytes ≡ message → SpellsHeader p tail bytes → may_send side p ≡ false → message_heard entry side message o ≡ Err (record { offset = 0; why = fault.Field why.Value })
not_sent_heard entry side bytes message o p tail same s is = subst (λ (xs : List ℕ). message_heard entry side xs o ≡ Err (record { offset = 0; why = fault.Field why.Value })) same (header_heard entry side bytes o p tail s ∙ rw is refl)

-- a packet that says nothing of requests or devices
pub plain_heard : (p : Packet) (entry : ℕ) (message : List ℕ) (o : Open) → p ≢ packet.IoRequest → p ≢ packet.IoCompletion → p ≢ packet.DeviceListAnnounce → p ≢ packet.DeviceListRemove
    → heard_packet p entry message o ≡ unless_bad (plain_tail p message) (λ tail. Ok o)
plain_heard packet.IoRequest entry message o request completion list gone = absurd (request refl)
plain_heard packet.IoCompletion entry message o request completion list gone = absurd (completion refl)
plain_heard packet.DeviceListAnnounce entry message o request completion list gone = absurd (list refl)
plain_heard packet.DeviceListRemove entry message o request completion list gone = absurd (gone refl)
plain_heard p entry message o request completion list gone = refl
