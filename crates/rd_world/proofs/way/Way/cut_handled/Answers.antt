use Rattle.std.proofs.Common.{◌≡◌, ℕ, ◌-◌, List, drop, take, ap, ◌∙◌}
use Rattle.rd_world.specs.World.{WayState}
use Rattle.rd_world.proofs.WayLemmas.{cut_off}
use Rattle.rd_world.proofs.way.Way.cut_handled.Goals as goal

pub returns : goal.returns
returns c =
    let way = c.self.inside in
    let new : List ℕ = c.drop-drain.new.self.0.items in
    let left : new ≡ drop way.front way.bytes.items = c.drop-drain.ensures.items ∙ c.drain.ensures.kept in
    let same = cut_off way.front way.read way.bytes.items c.self.invariant.front_within in
    let unhandled = ap (λ (r : List ℕ). take (way.read - way.front) r) left ∙ same.0 in
    let pipe = ap (λ (r : List ℕ). drop (way.read - way.front) r) left ∙ same.1 in
    let view : WayState = record { part = way.part.items; taken = way.joiner.taken; unhandled = drop way.front (take way.read way.bytes.items); pipe = drop way.read way.bytes.items; ended = way.ended } in
    (λ i. record view { unhandled = unhandled i; pipe = pipe i }) ∙ c.self.view_is
