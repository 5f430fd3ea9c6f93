use Rattle.std.proofs.Common.{◌≡◌, ℕ, ◌+◌, arith, List, [], ◌++◌, length, take, drop, sym, ap, subst, ◌∙◌}
use Rattle.std.specs.Prelude.{Vec}
use Rattle.std.specs.Vec.{with_items}
use Rattle.std.specs.List.{length_refill}
use Rattle.rd_carry.specs.Incoming.{IncomingState, HasHeard, IsIncoming}
use Rattle.rd_carry.proofs.IncomingLemmas.{heard_of, kept_empty, kept_read}
use Rattle.rd_carry.proofs.incoming.Incoming.read.Goals as goal

-- a read leaves the buffer as long as it was
same_length : {A : Type 0} (v : Vec ℕ A) (read : List ℕ) → length (with_items v read).items ≡ length v.items
same_length v read = sym (length_refill v.len v.items read v.ok.0) ∙ v.ok.0

pub returns-then-most-eq0-clause-heard : goal.returns-then-most-eq0-clause-heard
returns-then-most-eq0-clause-heard g c =
    subst HasHeard c.self.view_is (heard_of (g.S.Source.left c.self.inside.source) (g.S.Source.faults c.self.inside.source) _ _ _ _ _ _ _ _ c.self.invariant)

-- nothing came
pub returns-in_default-clause-heard : goal.returns-in_default-clause-heard
returns-in_default-clause-heard g c =
    let half = c.self.inside in
    let none : drop half.front (take half.end half.buffer.items) ≡ [] = ap (λ (s : IncomingState). s.unhandled) c.self.view_is ∙ c.requires in
    heard_of _ _ _ _ _ _ _ _ _ _ (kept_empty half.joiner half.buffer.items (with_items half.buffer c.read_once.new.buffer).items half.front half.end half.count half.heard half.read.items half.messages.items c.self.invariant none (same_length half.buffer c.read_once.new.buffer))

-- what came isn't handled yet
pub invariant_of-self-2 : goal.invariant_of-self-2
invariant_of-self-2 g c =
    let half = c.self.inside in
    let none : drop half.front (take half.end half.buffer.items) ≡ [] = ap (λ (s : IncomingState). s.unhandled) c.self.view_is ∙ c.requires in
    let new : List ℕ = (with_items half.buffer c.read_once.new.buffer).items in
    let read : c.becoming-self-inside.result.items ≡ half.read.items ++ take c.in-Ok.count new = c.becoming-self-inside.ensures ∙ ap (λ (r : List ℕ). half.read.items ++ take c.in-Ok.count r) c.as_slice.ensures.value in
    let same : length new ≡ length half.buffer.items = same_length half.buffer c.read_once.new.buffer in
    subst (λ (r : List ℕ). IsIncoming half.joiner new 0 c.in-Ok.count (half.count + c.in-Ok.count) half.heard r half.messages.items) (sym read)
    (kept_read half.joiner half.buffer.items new half.front half.end c.in-Ok.count half.count half.heard half.read.items half.messages.items c.self.invariant none same
    (omega (arith, same, c.in-Ok.ensures.count.1, c.read_once.auto.buffer, ap length c.as_mut_slice.ensures.value)) (omega (arith, c.in-Ok.ensures.count.0, c.self.invariant.few)))

pub returns-clause-heard : goal.returns-clause-heard
returns-clause-heard g c = heard_of _ _ _ _ _ _ _ _ _ _ (invariant_of-self-2 g c)
