-- What readers of messages tell is what the definitions of lines ask.
use Rattle.std.proofs.Common.{◌≡◌, ℕ, ◌+◌, ◌-◌, ◌≤◌, ◌^◌, min, List, [], ◌∷◌, ◌++◌, length, take, drop, Some, None, Fits, w8, get_or, true, false, Result, Ok, Err, refl, sym, ap, subst, ◌∙◌, inl, inr, arith}
use Rattle.std.proofs.lemmas.List.{length-append, length-drop, take_all}
use Rattle.rd_base.specs.declared.bad.Bad.{Bad}
use Rattle.rd_base.specs.Position.{at_start}
use Rattle.rd_base.specs.Layout.{Layout, met, Spells}
use Rattle.rd_base.specs.Reading.{WithTail}
use Rattle.rd_base.specs.Header.{header, SpellsHeader}
use Rattle.rd_base.proofs.HeaderLemmas.{named_back}
use Rattle.rd_base.proofs.LayoutLemmas.{meets}
use Rattle.rd_chunk.specs.Sizes.{max_message}
use Rattle.std.specs.Prelude.{◌≢◌, ◌⊎◌}
use Rattle.rd_base.specs.declared.bad.Why.TheVariants as why
use Rattle.rd_base.specs.declared.packet.Packet.{Packet}
use Rattle.rd_base.specs.declared.packet.Packet.TheVariants as packet
use Rattle.rd_hello.specs.Hello.{hello}
use Rattle.rd_printer.specs.Notice.{notice}
use Rattle.std.specs.Prelude.{IsErrAnd}
use Rattle.rd_base.proofs.NumberLemmas.{are_bytes, IsBytes-drop}
use Rattle.rd_irp.specs.Measure.{measure_of, tail_of}
use Rattle.rd_irp.specs.declared.request.RequestHead.{RequestHead}
use Rattle.rd_irp.specs.declared.completion.Head.{Head}
use Rattle.rd_irp.specs.declared.completion.Kind.{Kind}
use Rattle.rd_irp.specs.Fits.{kind_of_major}
use Rattle.rd_irp.specs.Completion.{completion_body, completion_head, FirstFaultOfBody, SpellsHead}
use Rattle.rd_irp.proofs.MeasureLemmas.{measure_short, tail_short}
use Rattle.rd_decode.specs.declared.side.Side.{Side}
use Rattle.rd_decode.specs.declared.fault.EntryFault.{EntryFault}
use Rattle.rd_decode.specs.declared.fault.FaultWhy.TheVariants as fault
use Rattle.rd_decode.specs.declared.fault.LineNo.{LineNo}
use Rattle.rd_decode.specs.Awaited.{Awaited, first_awaited, others_of, with_awaited}
use Rattle.rd_decode.specs.Lines.{completion_shown, line, may_send, request_shown}
use Rattle.rd_decode.specs.Kept.{PrintsLine, line_no_of}
use Rattle.rd_decode.specs.Messages.{Printed, body_line, completion_line, in_frame, message_line, packet_line, plain_line, plain_tail, request_line, sent_line}

-- a count of a tail that is short is the tail
pub short_tail : (count tail : ℕ) → count ≡ min tail (2 ^ 32 - 1) → tail ≤ max_message → count ≡ tail
short_tail count tail is short = omega (arith, is, short)

-- what a reader counted is what the value leaves
pub tail_found : {A : Type 0} (l : Layout A) (bytes : List ℕ) (a : A) (count : ℕ) → length bytes ≤ max_message → WithTail count (λ tail. Spells l a tail bytes) → tail_of l bytes ≡ Ok count
tail_found l bytes a count short (tail, is, s) =
    let m = meets l 0 bytes a tail s in
    let parts : length bytes ≡ length s.0 + length s.1 = ap length s.2 ∙ length-append s.0 s.1 in
    let same : count ≡ tail = short_tail count tail is (omega (arith, parts, s.3, short)) in
    rw m.1 (ap (λ (n : ℕ). Ok n) (m.2 ∙ sym same))

-- a packet that is none of those with a layout of their own opens a channel
pub plain_default : (p : Packet) (message : List ℕ) (count : ℕ) → p ≢ packet.DeviceListAnnounce → p ≢ packet.DeviceListRemove → p ≢ packet.DeviceReply → p ≢ packet.PrinterCacheData → p ≢ packet.PrinterUsingXps
    → tail_of hello message ≡ Ok count → plain_tail p message ≡ Ok count
plain_default packet.DeviceListAnnounce message count list removal reply cache xps e = absurd (list refl)
plain_default packet.DeviceListRemove message count list removal reply cache xps e = absurd (removal refl)
plain_default packet.DeviceReply message count list removal reply cache xps e = absurd (reply refl)
plain_default packet.PrinterCacheData message count list removal reply cache xps e = absurd (cache refl)
plain_default packet.PrinterUsingXps message count list removal reply cache xps e = absurd (xps refl)
plain_default p message count list removal reply cache xps e = e

-- both packets of printers have one layout
pub plain_notice : (p : Packet) (message : List ℕ) (count : ℕ) → (p ≡ packet.PrinterCacheData) ⊎ (p ≡ packet.PrinterUsingXps) → tail_of notice message ≡ Ok count → plain_tail p message ≡ Ok count
plain_notice p message count (inl is) e = rw is e
plain_notice p message count (inr is) e = rw is e

-- ---- requests
-- what was measured of a request
pub request_measured : (bytes : List ℕ) (head : RequestHead) (count : ℕ) → ((i : ℕ) → Fits w8 (get_or bytes i 0)) → length bytes ≤ max_message → WithTail count (λ tail. measure_of bytes ≡ Ok (head, tail)) → measure_of bytes ≡ Ok (head, count)
request_measured bytes head count fits short (tail, is, e) =
    let within = measure_short bytes head tail (record { below = are_bytes bytes fits }) e in
    let same : count ≡ tail = short_tail count tail is (omega (arith, within, short)) in
    e ∙ ap (λ (n : ℕ). Ok (head, n)) (sym same)

-- a request that was measured
pub request_found : (side : Side) (awaited : Awaited) (message : List ℕ) (head : RequestHead) (tail : ℕ) → measure_of message ≡ Ok (head, tail)
    → request_line side awaited message ≡ Ok (record { text = line side packet.IoRequest (length message) (request_shown head) tail; awaited = with_awaited head.device head.completion (awaited head.device head.completion ++ kind_of_major head.major ∷ []) awaited })
request_found side awaited message head tail e = rw e refl

-- ---- completions
-- a slice from a place on
pub slice_from : (n : ℕ) (xs : List ℕ) → take (length xs - n) (drop n xs) ≡ drop n xs
slice_from n xs = let len : length (drop n xs) ≡ length xs - n = length-drop n xs in take_all (length xs - n) (drop n xs) (omega (arith, len))

pub body_measured : {A : Type 0} (l : Layout A) (message : List ℕ) (count : ℕ) → ((i : ℕ) → Fits w8 (get_or message i 0)) → length message ≤ max_message → WithTail count (λ tail. tail_of l (drop 16 message) ≡ Ok tail) → tail_of l (drop 16 message) ≡ Ok count
body_measured l message count fits short (tail, is, e) =
    let within = tail_short l (drop 16 message) tail (IsBytes-drop 16 message (record { below = are_bytes message fits })) e in
    let len : length (drop 16 message) ≡ length message - 16 = length-drop 16 message in
    let same : count ≡ tail = short_tail count tail is (omega (arith, within, len, short)) in
    e ∙ ap (λ (n : ℕ). Ok n) (sym same)

-- a completion whose head reads
pub head_found : (side : Side) (awaited : Awaited) (message : List ℕ) (head : Head) (tail : ℕ) → SpellsHead head tail message → completion_line side awaited message ≡ body_line side awaited message head (awaited head.device head.completion)
head_found side awaited message head tail s = let m = meets completion_head 0 message head tail s in rw m.1 refl

-- no request is left of its pair
pub is_stray : (side : Side) (awaited : Awaited) (message : List ℕ) (head : Head) (kinds : List Kind) → None ≡ first_awaited kinds → body_line side awaited message head kinds ≡ in_frame fault.Stray
is_stray side awaited message head [] none = refl
is_stray side awaited message head (kind ∷ others) none = absurd cc

-- the first request of its pair says how its body reads
pub body_found : (side : Side) (awaited : Awaited) (message : List ℕ) (head : Head) (kinds : List Kind) (kind : Kind) (tail : ℕ) → Some kind ≡ first_awaited kinds → tail_of (completion_body kind head.status) (drop 16 message) ≡ Ok tail
    → body_line side awaited message head kinds ≡ Ok (record { text = line side packet.IoCompletion (length message) (completion_shown head) tail; awaited = with_awaited head.device head.completion (others_of kinds) awaited })
body_found side awaited message head [] kind tail first e = absurd cc
body_found side awaited message head (k ∷ others) kind tail first e =
    let same : k ≡ kind = cc in
    let read : tail_of (completion_body k head.status) (drop 16 message) ≡ Ok tail = ap (λ (x : Kind). tail_of (completion_body x head.status) (drop 16 message)) same ∙ e in
    rw read refl

pub body_faulty : (side : Side) (awaited : Awaited) (message : List ℕ) (head : Head) (kinds : List Kind) (kind : Kind) (bad : Bad) → Some kind ≡ first_awaited kinds → FirstFaultOfBody kind head.status (drop 16 message) bad
    → body_line side awaited message head kinds ≡ in_frame (fault.Field bad.why)
body_faulty side awaited message head [] kind bad first e = absurd cc
body_faulty side awaited message head (k ∷ others) kind bad first e =
    let same : k ≡ kind = cc in
    let read : met (completion_body k head.status) (at_start (drop 16 message)) ≡ Err bad = ap (λ (x : Kind). met (completion_body x head.status) (at_start (drop 16 message))) same ∙ e in
    rw read refl

-- a fault of a field comes as the error that it becomes
pub prints_fault : (r : Result Printed EntryFault) (text : List ℕ) (awaited : Awaited) (result : Result (Unit {0}) LineNo) (bad : Bad) → IsErrAnd result (λ e. e ≡ line_no_of bad) → r ≡ in_frame (fault.Field bad.why) → PrintsLine r text text awaited result
prints_fault r text awaited (Ok u) bad is e = absurd is
prints_fault r text awaited (Err f) bad is e = subst (λ (n : LineNo). PrintsLine r text text awaited (Err n)) (sym is) (e, refl)

-- ---- messages
-- a message whose header reads
pub header_found : (side : Side) (awaited : Awaited) (message : List ℕ) (p : Packet) (tail : ℕ) → SpellsHeader p tail message → message_line side awaited message ≡ sent_line side awaited message (Some p)
header_found side awaited message p tail s = let m = meets (header p) 0 message tt tail s in rw (named_back p (at_start message) m.0 m.1) refl

-- a packet that this side sends
pub sent : (side : Side) (awaited : Awaited) (message : List ℕ) (p : Packet) (tail : ℕ) → SpellsHeader p tail message → may_send side p ≡ true → message_line side awaited message ≡ packet_line p side awaited message
sent side awaited message p tail s is = header_found side awaited message p tail s ∙ rw is refl

-- and one that it doesn't
pub not_sent : (side : Side) (awaited : Awaited) (message : List ℕ) (p : Packet) (tail : ℕ) → SpellsHeader p tail message → may_send side p ≡ false → message_line side awaited message ≡ Err (record { offset = 0; why = fault.Field why.Value })
not_sent side awaited message p tail s is = header_found side awaited message p tail s ∙ rw is refl

-- packets that say nothing of requests
pub plain_packet : (p : Packet) (side : Side) (awaited : Awaited) (message : List ℕ) → p ≢ packet.IoRequest → p ≢ packet.IoCompletion → packet_line p side awaited message ≡ plain_line side p awaited message
plain_packet packet.IoRequest side awaited message request completion = absurd (request refl)
plain_packet packet.IoCompletion side awaited message request completion = absurd (completion refl)
plain_packet p side awaited message request completion = refl

-- the same of the line of a message as of what it comes to
pub prints_same : (r other : Result Printed EntryFault) (before after : List ℕ) (awaited : Awaited) (result : Result (Unit {0}) LineNo) → r ≡ other → PrintsLine other before after awaited result → PrintsLine r before after awaited result
prints_same r other before after awaited result same prints = subst (λ (x : Result Printed EntryFault). PrintsLine x before after awaited result) (sym same) prints
