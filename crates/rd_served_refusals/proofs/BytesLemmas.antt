-- Whose completion a message is that this project writes: its device's, whatever its other numbers. And the number of the device that bytes name.
use Rattle.std.proofs.Common.{◌≡◌, ◌∙◌, refl, sym, ap, subst, ℕ, zero, suc, ◌<◌, ◌^◌, ◌==◌, List, ◌++◌, length, arith, get_or, drop, false, Some, Option}
use Rattle.std.specs.Int.{from_le_bytes, to_le_bytes, w32}
use Rattle.std.specs.Prelude.{None, Result, Ok, Err}
use Rattle.std.specs.Option.{option_map_or}
use Rattle.std.proofs.lemmas.Nat.{le_bytes_4}
use Rattle.rd_base.specs.Header.{header_bytes}
use Rattle.rd_base.specs.declared.packet.Packet.TheVariants.{IoCompletion}
use Rattle.rd_base.proofs.LayoutLemmas.{spells}
use Rattle.rd_base.specs.Layout.{AreBytes, met}
use Rattle.rd_base.specs.Position.{Position, at_start}
use Rattle.rd_base.specs.declared.bad.Bad.{Bad}
use Rattle.rd_client.specs.Core.{op_read, request_with_head}
use Rattle.rd_irp.specs.Request.{body_after, request_head}
use Rattle.rd_irp.specs.declared.request.Request.{Request}
use Rattle.rd_irp.specs.declared.request.RequestHead.{RequestHead}
use Rattle.rd_irp.proofs.WrittenLemmas.{body_after_head, head_spelled}
use Rattle.rd_irp.specs.Completion.{SpellsHead}
use Rattle.rd_irp.specs.Written.{body_bytes, completion_bytes, head_bytes}
use Rattle.rd_irp.specs.declared.completion.Body.{Body}
use Rattle.rd_irp.specs.declared.completion.Head.{Head}
use Rattle.rd_irp.specs.declared.completion.Kind.{Kind}
use Rattle.rd_deeds.proofs.Messages.{head_read}
use Rattle.rd_deeds.specs.Talk.{head_in, request_in}
use Rattle.rd_deeds.specs.Told.{is_of_device}

-- each byte of a number is below 256
small_at : (n i : ℕ) → get_or (to_le_bytes w32 n) i 0 < 256
small_at n zero = omega arith
small_at n (suc zero) = omega arith
small_at n (suc (suc zero)) = omega arith
small_at n (suc (suc (suc zero))) = omega arith
small_at n (suc (suc (suc (suc i)))) = omega arith

-- the number that a field of 32 bits has of a number
abbrev in_field : ℕ → ℕ
in_field n = from_le_bytes w32 (to_le_bytes w32 n)

field_small : (n : ℕ) → in_field n < 2 ^ 32
field_small n = omega arith

field_same : (n : ℕ) → to_le_bytes w32 (in_field n) ≡ to_le_bytes w32 n
field_same n = le_bytes_4 (to_le_bytes w32 n) (in_field n) refl (small_at n) refl

pub is_of_own : (k : Kind) (h : Head) (b : Body) → h.device < 2 ^ 32 → (q : ℕ) → is_of_device q (completion_bytes k h b) ≡ (h.device == q)
is_of_own k h b room q =
    subst (λ (m : List ℕ). is_of_device q m ≡ (h.device == q)) same (ap (λ (o : Option Head). option_map_or (λ (x : Head). x.device == q) o false) is_head)
  where
    fit : Head
    fit = record { device = h.device; completion = in_field h.completion; status = record { 0 = in_field (h.status).0 } }

    body : List ℕ
    body = body_bytes k b

    same : head_bytes fit ++ body ≡ completion_bytes k h b
    same = λ i. (header_bytes IoCompletion ++ to_le_bytes w32 h.device ++ field_same h.completion i ++ field_same (h.status).0 i) ++ body

    spelled : SpellsHead fit (length (drop 16 (head_bytes fit ++ body))) (head_bytes fit ++ body)
    spelled = head_spelled fit body (length (drop 16 (head_bytes fit ++ body))) (ap length (sym (body_after_head fit body))) room (field_small h.completion) (field_small (h.status).0)

    is_head : head_in (head_bytes fit ++ body) ≡ Some fit
    is_head = rw (head_read fit (head_bytes fit ++ body) spelled).1 refl

-- ---- what a request names

head_room : (m : List ℕ) → AreBytes m → (read : RequestHead × Position) → met request_head (at_start m) ≡ Ok read → (read.0).device < 2 ^ 32
unfolding request_head
head_room m bytes read e =
    let s = spells request_head 0 m read.0 read.1 bytes e in
    subst (λ (h : RequestHead). h.device < 2 ^ 32) (sym s.4.5.5.5.5.5.5.0) s.4.5.4.1

-- a request that bytes spell names a device whose number has room
pub bytes_name : (m : List ℕ) → AreBytes m → (r : Request) → request_in m ≡ Some r → r.device < 2 ^ 32
bytes_name m bytes r is = by (met request_head (at_start m)) refl
  where
    by : (x : Result (RequestHead × Position) Bad) → met request_head (at_start m) ≡ x → r.device < 2 ^ 32
    by (Ok read) e =
        let own : Request = request_with_head read.0 (op_read read.0 (met (body_after read.0) read.1)) in
        let some : request_in m ≡ Some own = rw e refl in
        let both : Some own ≡ Some r = sym some ∙ is in
        let same : own ≡ r = cc (both) in
        subst (λ (q : Request). q.device < 2 ^ 32) same (head_room m bytes read e)
    by (Err bad) e = absurd (let none : request_in m ≡ None = rw e refl in cc (none, is))
