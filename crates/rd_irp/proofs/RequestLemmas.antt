-- Requests: bytes are one request, malformed or not, or their head has one first fault.
use Rattle.std.proofs.Common.{Fits, ◌≡◌, ℕ, ◌+◌, List, length, get_or, Result, Ok, Err, refl, arith, sym, ap, subst, ◌∙◌, ◌⊎◌, inl, inr}
use Rattle.std.specs.Int.{w8}
use Rattle.rd_base.specs.declared.bad.Bad.{Bad}
use Rattle.rd_base.specs.declared.bad.ReadNo.{ReadNo}
use Rattle.rd_base.specs.declared.bad.ReadNo.TheVariants as no
use Rattle.rd_base.specs.Position.{Position, at_start}
use Rattle.rd_base.specs.Reading.{ReadsInto}
use Rattle.rd_base.specs.Layout.{Spells, and_then, met}
use Rattle.rd_base.proofs.NumberLemmas.{are_bytes}
use Rattle.rd_base.proofs.ResultLemmas.{ok_one, err_one, and_then_ok}
use Rattle.rd_base.proofs.LayoutLemmas.{spells, meets, again, reader_spells, fault_after}
use Rattle.rd_base.specs.Reading.{IsOneOf}
use Rattle.rd_irp.specs.declared.op.Op.{Op}
use Rattle.rd_irp.specs.declared.op.Op.TheVariants.{Malformed}
use Rattle.rd_irp.specs.declared.request.Request.{Request}
use Rattle.rd_irp.specs.declared.request.RequestHead.{RequestHead}
use Rattle.rd_irp.proofs.OpLemmas.{IsReadable, bodies_read}
use Rattle.rd_irp.specs.Request.{request_head, body_after, whole_request, SpellsWith, SpellsRequest, FirstFaultOfRequest}

-- the request with this head and operation
abbrev pub request_with : RequestHead → Op → Request
request_with h o = record { device = h.device; file = h.file; completion = h.completion; op = o }

-- the request that a head begins, by what was met after it, and its tail
abbrev pub with_body : RequestHead → Position → Result (Op × Position) Bad → Request × ℕ
with_body h q (Ok x) = (request_with h x.0, length x.1.left)
with_body h q (Err bad) = (request_with h (Malformed h.major h.minor bad), length q.left)

-- the request and the tail of bytes, or their fault
abbrev pub reading : List ℕ → Result (Request × ℕ) Bad
reading bytes = and_then (met request_head (at_start bytes)) (λ x. Ok (with_body x.0 x.1 (met (body_after x.0) x.1)))

-- an operation that was read is no malformed one
pub spells_readable : (o : Op) (r : Request) (tail : ℕ) (bytes : List ℕ) → IsReadable o → Spells whole_request r tail bytes → SpellsWith o r tail bytes
spells_readable (Malformed a b c) r tail bytes h s = absurd h
spells_readable _ r tail bytes h s = s

-- head and body, where both were met
pub met-whole : (h : RequestHead) (o : Op) (start p q : Position) → met request_head start ≡ Ok (h, p) → met (body_after h) p ≡ Ok (o, q) → met whole_request start ≡ Ok (request_with h o, q)
unfolding whole_request
met-whole h o start p q e d = rw (e, d) refl

whole_reading : (r : Request) (tail : ℕ) (bytes : List ℕ) → Spells whole_request r tail bytes → reading bytes ≡ Ok (r, tail)
unfolding whole_request
whole_reading r tail bytes s =
    let m = meets whole_request 0 bytes r tail s in
    let h = and_then_ok (met request_head (at_start bytes)) _ (r, m.0) m.1 in
    let o = and_then_ok (met (body_after h.0.0) h.0.1) _ (r, m.0) h.2 in
    let last : ◌≡◌ {A = Request × Position} (request_with h.0.0 o.0.0, o.0.1) (r, m.0) = ok_one _ (request_with h.0.0 o.0.0, o.0.1) (r, m.0) refl o.2 in
    let tail_is : ◌≡◌ {A = Result (Request × ℕ) Bad} (Ok (r, length m.0.left)) (Ok (r, tail)) = ap (λ (n : ℕ). Ok (r, n)) m.2 in
    let both : ◌≡◌ {A = Result (Request × ℕ) Bad} (Ok (request_with h.0.0 o.0.0, length o.0.1.left)) (Ok (r, length m.0.left)) = ap (λ (x : Request × Position). Ok (x.0, length x.1.left)) last in
    rw (h.1, o.1, both) tail_is

malformed_reading : (r : Request) (major minor : ℕ) (bad : Bad) (tail : ℕ) (bytes : List ℕ) → SpellsWith (Malformed major minor bad) r tail bytes → reading bytes ≡ Ok (record r { op = Malformed major minor bad }, tail)
malformed_reading r major minor bad tail bytes f =
    let h : RequestHead = record { device = r.device; file = r.file; completion = r.completion; major = major; minor = minor } in
    let head = again request_head 0 h f.0 f.1 f.4 in
    let place : 0 + length f.0 ≡ length f.0 = omega arith in
    let there : met (body_after h) (record { at = length f.0; left = f.1 }) ≡ Err bad = f.5 in
    rw (f.2, head, place, there, f.3) refl

with_reading : (o : Op) (r : Request) (tail : ℕ) (bytes : List ℕ) → r.op ≡ o → SpellsWith o r tail bytes → reading bytes ≡ Ok (r, tail)
with_reading (Malformed major minor bad) r tail bytes is s =
    malformed_reading r major minor bad tail bytes s ∙ ap (λ (o : Op). Ok (record r { op = o }, tail)) (sym is)
with_reading _ r tail bytes is s = whole_reading r tail bytes s

-- what is spelled is what bytes are read as
pub request_reading : (r : Request) (tail : ℕ) (bytes : List ℕ) → SpellsRequest r tail bytes → reading bytes ≡ Ok (r, tail)
request_reading r tail bytes s = with_reading r.op r tail bytes refl s

fault_reading : (bytes : List ℕ) (bad : Bad) → FirstFaultOfRequest bytes bad → reading bytes ≡ Err bad
fault_reading bytes bad f = rw f refl

reading_or_fault : (bytes : List ℕ) → ((i : ℕ) → Fits w8 (get_or bytes i 0)) → ((r : Request) × (tail : ℕ) × SpellsRequest r tail bytes) ⊎ ((bad : Bad) × FirstFaultOfRequest bytes bad)
reading_or_fault bytes fits = go_head (met request_head (at_start bytes)) refl
  where
    go_body : (h : RequestHead) (q : Position) → met request_head (at_start bytes) ≡ Ok (h, q) → (b : Result (Op × Position) Bad) → met (body_after h) q ≡ b → ((r : Request) × (tail : ℕ) × SpellsRequest r tail bytes) ⊎ ((bad : Bad) × FirstFaultOfRequest bytes bad)
    go_body h q e (Ok x) d =
        let whole = spells whole_request 0 bytes (request_with h x.0) x.1 (are_bytes bytes fits) (met-whole h x.0 (at_start bytes) q x.1 e d) in
        inl (request_with h x.0, length x.1.left, spells_readable x.0 (request_with h x.0) (length x.1.left) bytes ((bodies_read h.major h.minor).each q x.0 x.1 d) whole)
    go_body h q e (Err bad) d =
        inl (request_with h (Malformed h.major h.minor bad), length q.left, fault_after request_head body_after bytes (at_start bytes) h q bad (length q.left) fits refl e d refl)

    go_head : (r : Result (RequestHead × Position) Bad) → met request_head (at_start bytes) ≡ r → ((r : Request) × (tail : ℕ) × SpellsRequest r tail bytes) ⊎ ((bad : Bad) × FirstFaultOfRequest bytes bad)
    go_head (Ok x) e = go_body x.0 x.1 e (met (body_after x.0) x.1) refl
    go_head (Err bad) e = inr (bad, e)

-- bytes spell one request
pub request_one_value : (r s : Request) (m n : ℕ) (bytes : List ℕ) → SpellsRequest r m bytes → SpellsRequest s n bytes → (r ≡ s) × (m ≡ n)
request_one_value r s m n bytes x y =
    let same : ◌≡◌ {A = Request × ℕ} (r, m) (s, n) = ok_one (reading bytes) (r, m) (s, n) (request_reading r m bytes x) (request_reading s n bytes y) in
    (ap (λ (z : Request × ℕ). z.0) same, ap (λ (z : Request × ℕ). z.1) same)

-- bytes that spell a request have no fault
pub request_not_both : (r : Request) (tail : ℕ) (bad : Bad) (bytes : List ℕ) → SpellsRequest r tail bytes → FirstFaultOfRequest bytes bad → ⊥
request_not_both r tail bad bytes s f = let e = request_reading r tail bytes s in let d = fault_reading bytes bad f in cc

-- the law of requests
pub request_one_of : (bytes : List ℕ) → ((i : ℕ) → Fits w8 (get_or bytes i 0)) → IsOneOf SpellsRequest FirstFaultOfRequest bytes
request_one_of bytes fits = record {
  one_of = reading_or_fault bytes fits;
  not_both = λ r tail bad s f. request_not_both r tail bad bytes s f;
  one_value = λ r s m n x y. request_one_value r s m n bytes x y;
  one_fault = λ bad other e o. err_one _ bad other e o;
}

-- what a reader has read, head and body
pub read_whole : (bytes : List ℕ) (start p q : Position) (h : RequestHead) (o : Op) (tail : ℕ) → ((i : ℕ) → Fits w8 (get_or bytes i 0)) → start ≡ at_start bytes → met request_head start ≡ Ok (h, p) → met (body_after h) p ≡ Ok (o, q) → tail ≡ length q.left → SpellsRequest (request_with h o) tail bytes
read_whole bytes start p q h o tail fits begun e d is =
    spells_readable o (request_with h o) tail bytes ((bodies_read h.major h.minor).each p o q d)
    (reader_spells whole_request bytes start (request_with h o) q tail fits begun (met-whole h o start p q e d) is)

-- the head that it has read, and the fault after it
pub read_malformed : (bytes : List ℕ) (start p q : Position) (h : RequestHead) (bad : Bad) (e : ReadNo) (tail : ℕ) → ((i : ℕ) → Fits w8 (get_or bytes i 0)) → start ≡ at_start bytes → met request_head start ≡ Ok (h, p) → e ≡ no.Bad bad → ReadsInto (λ (o : Op). o) (body_after h) p q (Err e) → tail ≡ length p.left → SpellsRequest (request_with h (Malformed h.major h.minor bad)) tail bytes
read_malformed bytes start p q h bad e tail fits begun head_read is faulty tail_is =
    let fault_met : met (body_after h) p ≡ Err bad = subst (λ (n : ReadNo). ReadsInto (λ (o : Op). o) (body_after h) p q (Err n)) is faulty in
    fault_after request_head body_after bytes start h p bad tail fits begun head_read fault_met tail_is
