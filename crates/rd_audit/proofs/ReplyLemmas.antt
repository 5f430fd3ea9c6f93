-- Whether a completion's message has a reply.
use Rattle.std.proofs.Common.{◌≡◌, ◌≢◌, ◌∙◌, ℕ, Bool, true, false, ◌-◌, List, length, length-drop, drop, take, subst, Result, Ok, Err, refl, sym, ap, arith}
use Rattle.std.specs.Prelude.{◌==◌}
use Rattle.std.proofs.lemmas.Bool.Decides.{nat_tests}
use Rattle.std.proofs.Math.Seq.{take-length}
use Rattle.rd_base.specs.declared.bad.Bad.{Bad}
use Rattle.rd_base.specs.Layout.{met}
use Rattle.rd_base.specs.Position.{Position, at_start}
use Rattle.rd_base.specs.Reading.{WithTail}
use Rattle.rd_base.proofs.LayoutLemmas.{meets}
use Rattle.rd_irp.specs.declared.completion.Body.{Body}
use Rattle.rd_irp.specs.declared.completion.Head.{Head}
use Rattle.rd_irp.specs.declared.completion.Kind.{Kind}
use Rattle.rd_irp.specs.declared.completion.Reply.{Reply}
use Rattle.rd_irp.specs.Completion.{FirstFaultOfBody, SpellsBody, SpellsHead, completion_body, completion_head}
use Rattle.rd_audit.specs.Said.{same_body, says}

differs : (n m : ℕ) → n ≢ m → (n == m) ≡ false
differs n m apart = grind (arith, nat_tests)

equals : (n m : ℕ) → n ≡ m → (n == m) ≡ true
equals n m same = grind (arith, nat_tests)

rest_is : (message : List ℕ) → take (length message - 16) (drop 16 message) ≡ drop 16 message
rest_is message = ap (λ n. take n (drop 16 message)) (sym (length-drop 16 message)) ∙ take-length (drop 16 message)

module _ (kind : Kind) (message : List ℕ) (reply : Reply) (head : Head) (tail : ℕ) (spelled : SpellsHead head tail message) where
  -- another status
  pub says_apart : (head.status).0 ≢ (reply.status).0 → false ≡ says kind message reply
  says_apart apart = go (met (completion_body kind head.status) (at_start (drop 16 message))) refl
    where
      go : (r : Result (Body × Position) Bad) → met (completion_body kind head.status) (at_start (drop 16 message)) ≡ r → false ≡ says kind message reply
      go (Ok read) e = let first = (meets completion_head 0 message head tail spelled).1 in rw (first, e, differs (head.status).0 (reply.status).0 apart) refl
      go (Err bad) e = let first = (meets completion_head 0 message head tail spelled).1 in rw (first, e) refl

  -- a body
  pub says_body : (body : Body) (count : ℕ) (same : Bool) → (head.status).0 ≡ (reply.status).0 → WithTail count (λ left. SpellsBody kind head.status body left (take (length message - 16) (drop 16 message)))
      → same ≡ same_body body reply.body → same ≡ says kind message reply
  says_body body count same status (left, is, body_spelled) are =
      let first = (meets completion_head 0 message head tail spelled).1 in
      let second = (meets (completion_body kind head.status) 0 (drop 16 message) body left (subst (λ (w : List ℕ). SpellsBody kind head.status body left w) (rest_is message) body_spelled)).1 in
      rw (first, second, equals (head.status).0 (reply.status).0 status) are

  -- none
  pub says_none : (bad : Bad) → FirstFaultOfBody kind head.status (take (length message - 16) (drop 16 message)) bad → false ≡ says kind message reply
  says_none bad fault =
      let first = (meets completion_head 0 message head tail spelled).1 in
      let second : met (completion_body kind head.status) (at_start (drop 16 message)) ≡ Err bad = subst (λ (w : List ℕ). FirstFaultOfBody kind head.status w bad) (rest_is message) fault in
      rw (first, second) refl
