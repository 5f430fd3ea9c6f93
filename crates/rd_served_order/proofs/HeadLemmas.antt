-- What is written as a completion begins with a completion's head, from which its device is read.
use Rattle.std.proofs.Common.{◌≡◌, ◌∙◌, refl, sym, ap, subst, ℕ, zero, suc, ◌<◌, ◌^◌, ◌/◌, ◌%◌, ◌==◌, true, false, List, ◌++◌, get_or, length, Option, Some, arith, eq-eqb}
use Rattle.std.specs.Prelude.{Result, Ok, is_ok}
use Rattle.std.specs.Int.{byte_at, bytes_low_first, from_le_bytes, to_le_bytes, w32}
use Rattle.std.specs.Option.{option_map_or}
use Rattle.std.proofs.lemmas.Nat.{from_le_bytes-to_le_bytes_4, le_bytes_4}
use Rattle.rd_base.specs.declared.bad.Bad.{Bad}
use Rattle.rd_base.specs.declared.packet.Packet.TheVariants.{IoCompletion}
use Rattle.rd_base.specs.Header.{header_bytes}
use Rattle.rd_base.specs.Layout.{four_bytes, met}
use Rattle.rd_base.specs.Position.{Position, at_start}
use Rattle.rd_base.proofs.NumberLemmas.{number_below}
use Rattle.rd_irp.specs.declared.completion.Head.{Head}
use Rattle.rd_irp.specs.Completion.{SpellsHead, completion_head}
use Rattle.rd_irp.specs.Written.{body_bytes, head_bytes}
use Rattle.rd_irp.proofs.WrittenLemmas.{body_after_head, head_spelled}
use Rattle.rd_station.specs.declared.answers.Completion.{Completion}
use Rattle.rd_world.specs.Events.{completion_message}
use Rattle.rd_deeds.specs.Talk.{head_in}
use Rattle.rd_deeds.specs.Told.{is_of_device}
use Rattle.rd_deeds.proofs.Messages.{head_read}

mod_low : (n : ℕ) → n % 256 < 256
mod_low n = omega arith

byte_low : (i n : ℕ) → byte_at i n < 256
byte_low zero n = mod_low n
byte_low (suc i) n = mod_low (n / 256 ^ suc i)

low_bytes : (k i n j : ℕ) → get_or (bytes_low_first i k n) j 0 < 256
low_bytes zero i n j = omega arith
low_bytes (suc k) i n zero = byte_low i n
low_bytes (suc k) i n (suc j) = low_bytes k (suc i) n j

-- what a field of 32 bits keeps of a number
abbrev low : ℕ → ℕ
low n = from_le_bytes w32 (to_le_bytes w32 n)

low_same : (n : ℕ) → to_le_bytes w32 (low n) ≡ to_le_bytes w32 n
low_same n = le_bytes_4 (to_le_bytes w32 n) (low n) refl (low_bytes 4 0 n) refl

low_fits : (n : ℕ) → low n < 2 ^ 32
low_fits n = number_below four_bytes (to_le_bytes w32 n) (record { below = low_bytes 4 0 n })

-- what a head keeps of its numbers
abbrev low_head : Head → Head
low_head head = record { device = low head.device; completion = low head.completion; status = record { 0 = low (head.status).0 } }

low_head_same : (head : Head) → head_bytes (low_head head) ≡ head_bytes head
low_head_same head = λ i. header_bytes IoCompletion ++ low_same head.device i ++ low_same head.completion i ++ low_same (head.status).0 i

read_back : (head : Head) (rest : List ℕ) → (q : Position) × (met completion_head (at_start (head_bytes head ++ rest)) ≡ Ok (low_head head, q))
read_back head rest =
    let bytes : List ℕ = head_bytes head ++ rest in
    let spelled = head_spelled (low_head head) rest (length rest) refl (low_fits head.device) (low_fits head.completion) (low_fits (head.status).0) in
    let read = head_read (low_head head) (head_bytes (low_head head) ++ rest)
    (subst (λ (n : ℕ). SpellsHead (low_head head) n (head_bytes (low_head head) ++ rest)) (ap (λ (w : List ℕ). length w) (sym (body_after_head (low_head head) rest))) spelled) in
    (read.0, ap (λ (w : List ℕ). met completion_head (at_start (w ++ rest))) (sym (low_head_same head)) ∙ read.1)

head_of : (m : List ℕ) (h : Head) (q : Position) → met completion_head (at_start m) ≡ Ok (h, q) → head_in m ≡ Some h
head_of m h q e = rw e refl

pub head_met : (device : ℕ) (c : Completion) → is_ok (met completion_head (at_start (completion_message device c))) ≡ true
head_met device c =
    let read = read_back (record { device = device; completion = c.completion; status = (c.reply).status }) (body_bytes c.kind (c.reply).body) in
    ap (λ (r : Result (Head × Position) Bad). is_ok r) read.1

-- a completion is of its device, where that has room in it
pub of_device : (device : ℕ) (c : Completion) → device < 2 ^ 32 → is_of_device device (completion_message device c) ≡ true
of_device device c room =
    let head : Head = record { device = device; completion = c.completion; status = (c.reply).status } in
    let read = read_back head (body_bytes c.kind (c.reply).body) in
    ap (λ (o : Option Head). option_map_or (λ (h : Head). h.device == device) o false) (head_of (completion_message device c) (low_head head) read.0 read.1)
    ∙ ap (λ (n : ℕ). n == device) (from_le_bytes-to_le_bytes_4 device room) ∙ eq-eqb device device refl
