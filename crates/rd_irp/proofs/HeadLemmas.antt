-- The head of a completion: it is the first 16 bytes.
use Rattle.std.proofs.Common.{Fits, ◌≡◌, ℕ, ◌+◌, ◌-◌, ◌≤◌, List, length, get_or, Result, Ok, Err, IfOk, OnOk, refl, arith}
use Rattle.std.specs.Int.{w8}
use Rattle.rd_base.specs.declared.bad.Bad.{Bad}
use Rattle.rd_base.specs.Position.{Position}
use Rattle.rd_base.specs.Reading.{Reads}
use Rattle.rd_base.proofs.SizeLemmas.{HasSize, size_done, size_number, size_then, sized_tail}
use Rattle.rd_base.proofs.HeaderLemmas.{size_header}
use Rattle.rd_base.proofs.LayoutLemmas.{reader_spells}
use Rattle.rd_irp.specs.declared.completion.Head.{Head}
use Rattle.rd_irp.specs.Completion.{completion_head, SpellsHead}

size_head : HasSize 16 completion_head
unfolding completion_head
size_head =
    size_then 4 12 16 refl (size_header _) λ u.
    size_then 4 8 12 refl (size_number _) λ device.
    size_then 4 4 8 refl (size_number _) λ completion.
    size_then 4 0 4 refl (size_number _) λ status.
    size_done _

-- bytes that begin with a head are its 16 bytes and the tail
pub head_length : (head : Head) (tail : ℕ) (bytes : List ℕ) → SpellsHead head tail bytes → length bytes ≡ 16 + tail
head_length head tail bytes s = sized_tail 16 completion_head head tail bytes size_head s

-- what a reader of a head returns
pub head_spelled : (bytes : List ℕ) (start q : Position) (r : Result Head Bad) → ((i : ℕ) → Fits w8 (get_or bytes i 0)) → start ≡ record { at = 0; left = bytes } → Reads (λ head. head) completion_head start q r → IfOk r (λ head. SpellsHead head (length bytes - 16) bytes)
head_spelled bytes start q (Ok head) fits begun e =
    let s = reader_spells completion_head bytes start head q (length q.left) fits begun e refl in
    let len : length bytes ≡ 16 + length q.left = head_length head (length q.left) bytes s in
    reader_spells completion_head bytes start head q (length bytes - 16) fits begun e (omega (arith, len))
head_spelled bytes start q (Err bad) fits begun e = tt

pub head_enough : (bytes : List ℕ) (r : Result Head Bad) → IfOk r (λ head. SpellsHead head (length bytes - 16) bytes) → OnOk r (16 ≤ length bytes)
head_enough bytes (Ok head) s = let len : length bytes ≡ 16 + (length bytes - 16) = head_length head (length bytes - 16) bytes s in omega (arith, len)
head_enough bytes (Err bad) s = tt
