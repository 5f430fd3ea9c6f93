-- What the header of a message says to an end is the first part of what the message says.
use Rattle.std.proofs.Common.{◌≡◌, refl, sym, ap, ◌∙◌, ℕ, List, Some, None, Option, Result, Ok, Err}
use Rattle.rd_base.specs.declared.bad.Bad.{Bad}
use Rattle.rd_base.specs.declared.packet.Packet.{Packet}
use Rattle.rd_base.specs.Header.{SpellsHeader, any_header, header}
use Rattle.rd_base.specs.Layout.{met}
use Rattle.rd_base.specs.Position.{Position, at_start}
use Rattle.rd_base.proofs.HeaderLemmas.{named_back}
use Rattle.rd_base.proofs.LayoutLemmas.{meets}
use Rattle.rd_hello.specs.declared.end_fault.EndFault.{EndFault}
use Rattle.rd_hello.specs.declared.end_fault.EndFault.TheVariants.{Order, Grammar, Memory}
use Rattle.rd_hello.specs.Moves.{packet_in}
use Rattle.rd_core.specs.Core.{CoreState}
use Rattle.rd_core.specs.Hearing.{Side, wrong, from_header, from_known, from_packet, faulty, hear, hear_said, hear_unless, said}
use Rattle.rd_core.specs.Expected.{IsComing, IsExpected}

-- the reader of a header names the packet
pub packet_named : (bytes : List ℕ) (p : Packet) (tail : ℕ) → SpellsHeader p tail bytes → packet_in bytes ≡ Some p
packet_named bytes p tail s =
    let m = meets (header p) 0 bytes tt tail s in
    let e : met any_header (at_start bytes) ≡ Ok (Some p, m.0) = named_back p (at_start bytes) m.0 m.1 in
    rw e refl

module _ {S M A : Type 0} (side : Side S M A) where
  -- a message whose packet is named says what one of that packet says
  known_said : (state : S) (bytes : List ℕ) (p : Packet) → packet_in bytes ≡ Some p → said side state bytes ≡ from_known side state bytes p
  known_said state bytes p = go (met any_header (at_start bytes)) refl
    where
      go : (r : Result (Option Packet × Position) Bad) → met any_header (at_start bytes) ≡ r → packet_in bytes ≡ Some p → said side state bytes ≡ from_known side state bytes p
      go (Ok (None, rest)) e named = let other : None ≡ Some p = sym (rw e refl) ∙ named in cc
      go (Ok (Some q, rest)) e named = let other : Some q ≡ Some p = sym (rw e refl) ∙ named in let same : q ≡ p = cc in rw (e, same) refl
      go (Err bad) e named = let other : None ≡ Some p = sym (rw e refl) ∙ named in cc

  -- a message that comes says what one of its packet says
  pub coming_said : (e : CoreState S M) (bytes : List ℕ) (p : Packet) → IsComing side e bytes p → said side e.shake bytes ≡ from_packet side e.shake p bytes
  coming_said e bytes p coming = known_said e.shake bytes p coming.named ∙ rw coming.read refl

  pub coming_heard : (e : CoreState S M) (bytes : List ℕ) (p : Packet) → IsComing side e bytes p → hear side e bytes ≡ hear_said side e (from_packet side e.shake p bytes)
  coming_heard e bytes p coming =
      let sound = coming.sound in
      ap (λ fault. hear_unless side e bytes fault) sound ∙ ap (λ says. hear_said side e says) (coming_said e bytes p coming)

  -- what is wrong with a header is what is wrong with the message
  expected_wrong : (state : S) (bytes : List ℕ) (fault : EndFault) → IsExpected (side.number state) (side.reads_in state) bytes (Err fault) → said side state bytes ≡ wrong fault
  expected_wrong state bytes (Order number id) (p, named, unread, same, is) = known_said state bytes p named ∙ rw (unread, same, is) refl
  expected_wrong state bytes (Grammar bad) faulty = ap (λ r. from_header side state bytes r) faulty
  expected_wrong state bytes Memory never = absurd never

  pub wrong_heard : (e : CoreState S M) (bytes : List ℕ) (fault : EndFault) → e.fault ≡ None → IsExpected (side.number e.shake) (side.reads_in e.shake) bytes (Err fault)
      → hear side e bytes ≡ (faulty side e fault, Err fault)
  wrong_heard e bytes fault sound is =
      ap (λ held. hear_unless side e bytes held) sound ∙ ap (λ says. hear_said side e says) (expected_wrong e.shake bytes fault is)

  -- a fault that is held is answered again
  pub held_heard : (e : CoreState S M) (bytes : List ℕ) (fault : EndFault) → e.fault ≡ Some fault → hear side e bytes ≡ (e, Err fault)
  held_heard e bytes fault held = ap (λ f. hear_unless side e bytes f) held
