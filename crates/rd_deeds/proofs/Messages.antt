-- What messages say: each names one packet, and says what that packet says.
use Rattle.std.proofs.Common.{◌≡◌, ◌∙◌, refl, sym, ap, subst, ℕ, ◌+◌, ◌==◌, true, false, List, [], ◌++◌, length, drop, Some, None, arith, append-nil, eq-eqb, length-append}
use Rattle.std.specs.Prelude.{Result, Ok, Err}
use Rattle.std.proofs.lemmas.List.{drop_at}
use Rattle.rd_base.specs.declared.bad.Bad.{Bad}
use Rattle.rd_base.specs.declared.packet.Packet.{Packet}
use Rattle.rd_base.specs.declared.packet.Packet.TheVariants.{DeviceListAnnounce, DeviceListRemove, IoCompletion, IoRequest}
use Rattle.rd_base.specs.Header.{any_header, header, header_bytes, packet_id}
use Rattle.rd_base.specs.Layout.{IsSpelled, Layout, and_then, done, met, ◌>>◌}
use Rattle.rd_base.specs.Position.{Position, at_start}
use Rattle.rd_base.proofs.HeaderLemmas.{header_then, named_back}
use Rattle.rd_base.proofs.LayoutLemmas.{again}
use Rattle.rd_base.proofs.ResultLemmas.{and_then_ok, ok_one}
use Rattle.rd_base.proofs.WrittenLemmas.{done_last}
use Rattle.rd_client.specs.Core.{op_read, request_with_head}
use Rattle.rd_devices.specs.declared.list.Announce.{Announce}
use Rattle.rd_devices.specs.DeviceList.{device_list}
use Rattle.rd_devices.specs.Removal.{removal}
use Rattle.rd_hello.specs.Moves.{is_of, packet_in}
use Rattle.rd_irp.specs.declared.completion.Head.{Head}
use Rattle.rd_irp.specs.declared.op.Op.{Op}
use Rattle.rd_irp.specs.declared.request.Request.{Request}
use Rattle.rd_irp.specs.declared.request.RequestHead.{RequestHead}
use Rattle.rd_irp.specs.Completion.{SpellsHead, completion_head}
use Rattle.rd_irp.specs.Request.{SpellsRequest, body_after, request_head}
use Rattle.rd_irp.proofs.HeadLemmas.{head_length}
use Rattle.rd_irp.proofs.RequestLemmas.{reading, request_reading, with_body}
use Rattle.rd_deeds.specs.Talk.{announced_in, head_in, is_request, removed_in, request_in}

-- ---- packets

-- bytes that a packet's header is met in are of that packet
pub after_header : (p : Packet) (bytes : List ℕ) (x : Unit {0} × Position) → met (header p) (at_start bytes) ≡ Ok x → packet_in bytes ≡ Some p
after_header p bytes x e =
    let named : met any_header (at_start bytes) ≡ Ok (Some p, x.1) = named_back p (at_start bytes) x.1 e in
    rw named refl

-- bytes that begin with a packet's header
abbrev alone : Packet → Layout (Unit {0})
alone p = header p >> done tt

pub written_packet : (p : Packet) (rest : List ℕ) → packet_in (header_bytes p ++ rest) ≡ Some p
written_packet p rest =
    let spelled : IsSpelled (alone p) tt (header_bytes p ++ []) rest = (header_then p (done_last tt rest)).spelled in
    let q : Position = record { at = 0 + length (header_bytes p ++ []); left = rest } in
    let own : met (alone p) (record { at = 0; left = (header_bytes p ++ []) ++ rest }) ≡ Ok (tt, q) = again {A = Unit {0}} (alone p) 0 tt (header_bytes p ++ []) rest spelled in
    let there : met (alone p) (at_start (header_bytes p ++ rest)) ≡ Ok (tt, q) = subst (λ (w : List ℕ). met (alone p) (at_start (w ++ rest)) ≡ Ok (tt, q)) (append-nil (header_bytes p)) own in
    let first = and_then_ok (met (header p) (at_start (header_bytes p ++ rest))) _ (tt, q) there in
    after_header p (header_bytes p ++ rest) first.0 first.1

pub packet_is : (p q : Packet) (bytes : List ℕ) → packet_in bytes ≡ Some p → is_of q bytes ≡ (packet_id p == packet_id q)
packet_is p q bytes e = rw e refl

-- ---- requests

pub request_read : (r : Request) (tail : ℕ) (bytes : List ℕ) → SpellsRequest r tail bytes → request_in bytes ≡ Some r
request_read r tail bytes spelled = go (met request_head (at_start bytes)) refl
  where
    both : reading bytes ≡ Ok (r, tail)
    both = request_reading r tail bytes spelled

    same : (h : RequestHead) (q : Position) (o : Result (Op × Position) Bad) → request_with_head h (op_read h o) ≡ (with_body h q o).0
    same h q (Ok x) = refl
    same h q (Err bad) = refl

    go : (x : Result (RequestHead × Position) Bad) → met request_head (at_start bytes) ≡ x → request_in bytes ≡ Some r
    go (Ok (h, q)) e =
        let there : Ok (with_body h q (met (body_after h) q)) ≡ Ok (r, tail) = sym (ap (λ (y : Result (RequestHead × Position) Bad). and_then y (λ z. Ok (with_body z.0 z.1 (met (body_after z.0) z.1)))) e) ∙ both in
        let is : with_body h q (met (body_after h) q) ≡ (r, tail) = ok_one (Ok (r, tail)) _ (r, tail) (sym there) refl in
        rw e (ap Some (same h q (met (body_after h) q) ∙ ap (λ (y : Request × ℕ). y.0) is))
    go (Err bad) e =
        let there : Err bad ≡ Ok (r, tail) = sym (ap (λ (y : Result (RequestHead × Position) Bad). and_then y (λ z. Ok (with_body z.0 z.1 (met (body_after z.0) z.1)))) e) ∙ both in
        absurd (cc there)

head_packet : (bytes : List ℕ) (x : RequestHead × Position) → met request_head (at_start bytes) ≡ Ok x → packet_in bytes ≡ Some IoRequest
unfolding request_head
head_packet bytes x e = let first = and_then_ok (met (header IoRequest) (at_start bytes)) _ x e in after_header IoRequest bytes first.0 first.1

pub request_is : (bytes : List ℕ) (r : Request) → request_in bytes ≡ Some r → is_request bytes ≡ true
request_is bytes r e = go (met request_head (at_start bytes)) refl
  where
    go : (x : Result (RequestHead × Position) Bad) → met request_head (at_start bytes) ≡ x → is_request bytes ≡ true
    go (Ok y) e2 = packet_is IoRequest IoRequest bytes (head_packet bytes y e2)
    go (Err bad) e2 = let none : request_in bytes ≡ None = rw e2 refl in absurd (cc (none, e))

-- ---- completions

completion_packet : (bytes : List ℕ) (x : Head × Position) → met completion_head (at_start bytes) ≡ Ok x → packet_in bytes ≡ Some IoCompletion
unfolding completion_head
completion_packet bytes x e = let first = and_then_ok (met (header IoCompletion) (at_start bytes)) _ x e in after_header IoCompletion bytes first.0 first.1

pub head_is : (bytes : List ℕ) (h : Head) → head_in bytes ≡ Some h → packet_in bytes ≡ Some IoCompletion
head_is bytes h e = go (met completion_head (at_start bytes)) refl
  where
    go : (x : Result (Head × Position) Bad) → met completion_head (at_start bytes) ≡ x → packet_in bytes ≡ Some IoCompletion
    go (Ok y) e2 = completion_packet bytes y e2
    go (Err bad) e2 = let none : head_in bytes ≡ None = rw e2 refl in absurd (cc (none, e))

-- a spelled head is read, and the body is after it
pub head_read : (h : Head) (bytes : List ℕ) → SpellsHead h (length (drop 16 bytes)) bytes
    → (q : Position) × (met completion_head (at_start bytes) ≡ Ok (h, q)) × (q.left ≡ drop 16 bytes)
head_read h bytes spelled =
    let long : length bytes ≡ 16 + length (drop 16 bytes) = head_length h (length (drop 16 bytes)) bytes spelled in
    let field : length spelled.0 ≡ 16 = omega (arith, long, ap length spelled.2, length-append spelled.0 spelled.1, spelled.3) in (
      record { at = 0 + length spelled.0; left = spelled.1 },
      ap (λ (w : List ℕ). met completion_head (at_start w)) spelled.2 ∙ again completion_head 0 h spelled.0 spelled.1 spelled.4,
      sym (ap (drop 16) spelled.2 ∙ drop_at spelled.0 spelled.1 16 field),
    )

-- ---- what other packets don't say

removal_packet : (bytes : List ℕ) (x : List ℕ × Position) → met removal (at_start bytes) ≡ Ok x → packet_in bytes ≡ Some DeviceListRemove
unfolding removal
removal_packet bytes x e = let first = and_then_ok (met (header DeviceListRemove) (at_start bytes)) _ x e in after_header DeviceListRemove bytes first.0 first.1

list_packet : (bytes : List ℕ) (x : List Announce × Position) → met device_list (at_start bytes) ≡ Ok x → packet_in bytes ≡ Some DeviceListAnnounce
unfolding device_list
list_packet bytes x e = let first = and_then_ok (met (header DeviceListAnnounce) (at_start bytes)) _ x e in after_header DeviceListAnnounce bytes first.0 first.1

apart : (p q : Packet) (bytes : List ℕ) → packet_in bytes ≡ Some p → packet_in bytes ≡ Some q → (packet_id p == packet_id q) ≡ false → ⊥
apart p q bytes e e2 other =
    let same : p ≡ q = cc (e, e2) in
    let own : (packet_id p == packet_id q) ≡ true = subst (λ (x : Packet). (packet_id p == packet_id x) ≡ true) same (itself (packet_id p)) in
    cc (own, other)
  where
    itself : (n : ℕ) → (n == n) ≡ true
    itself n = eq-eqb n n refl

pub no_removal_in : (p : Packet) (bytes : List ℕ) → packet_in bytes ≡ Some p → (packet_id p == packet_id DeviceListRemove) ≡ false → removed_in bytes ≡ []
no_removal_in p bytes is other = go (met removal (at_start bytes)) refl
  where
    go : (x : Result (List ℕ × Position) Bad) → met removal (at_start bytes) ≡ x → removed_in bytes ≡ []
    go (Ok y) e = absurd (apart p DeviceListRemove bytes is (removal_packet bytes y e) other)
    go (Err bad) e = rw e refl

pub no_list_in : (p : Packet) (bytes : List ℕ) → packet_in bytes ≡ Some p → (packet_id p == packet_id DeviceListAnnounce) ≡ false → announced_in bytes ≡ []
no_list_in p bytes is other = go (met device_list (at_start bytes)) refl
  where
    go : (x : Result (List Announce × Position) Bad) → met device_list (at_start bytes) ≡ x → announced_in bytes ≡ []
    go (Ok y) e = absurd (apart p DeviceListAnnounce bytes is (list_packet bytes y e) other)
    go (Err bad) e = rw e refl

pub no_head_in : (p : Packet) (bytes : List ℕ) → packet_in bytes ≡ Some p → (packet_id p == packet_id IoCompletion) ≡ false → head_in bytes ≡ None
no_head_in p bytes is other = go (met completion_head (at_start bytes)) refl
  where
    go : (x : Result (Head × Position) Bad) → met completion_head (at_start bytes) ≡ x → head_in bytes ≡ None
    go (Ok y) e = absurd (apart p IoCompletion bytes is (completion_packet bytes y e) other)
    go (Err bad) e = rw e refl

-- bytes without a packet's header say nothing of any
pub nothing_in : (bytes : List ℕ) → packet_in bytes ≡ None → (removed_in bytes ≡ []) × (announced_in bytes ≡ []) × (head_in bytes ≡ None)
nothing_in bytes none = (removed (met removal (at_start bytes)) refl, announced (met device_list (at_start bytes)) refl, head (met completion_head (at_start bytes)) refl)
  where
    removed : (x : Result (List ℕ × Position) Bad) → met removal (at_start bytes) ≡ x → removed_in bytes ≡ []
    removed (Ok y) e = absurd (cc (none, removal_packet bytes y e))
    removed (Err bad) e = rw e refl

    announced : (x : Result (List Announce × Position) Bad) → met device_list (at_start bytes) ≡ x → announced_in bytes ≡ []
    announced (Ok y) e = absurd (cc (none, list_packet bytes y e))
    announced (Err bad) e = rw e refl

    head : (x : Result (Head × Position) Bad) → met completion_head (at_start bytes) ≡ x → head_in bytes ≡ None
    head (Ok y) e = absurd (cc (none, completion_packet bytes y e))
    head (Err bad) e = rw e refl
