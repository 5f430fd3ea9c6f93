use Rattle.std.proofs.Common.{ap, sym, ◌∙◌}
use Rattle.std.proofs.lemmas.List.{drop-drop}
use Rattle.rd_world.specs.World.{having_read}
use Rattle.rd_world.proofs.WayLemmas.{read_on}
use Rattle.rd_world.proofs.way.Way.read.Goals as goal

pub returns : goal.returns
returns c =
    let way = c.self.inside in
    let unhandled = read_on way.front way.read c.args.count way.bytes.items c.self.invariant.front_within c.self.invariant.read_within in
    let pipe = sym (drop-drop c.args.count way.read way.bytes.items) in
    (λ i. record { part = way.part.items; taken = way.joiner.taken; unhandled = unhandled i; pipe = pipe i; ended = way.ended }) ∙ ap (having_read c.args.count) c.self.view_is
