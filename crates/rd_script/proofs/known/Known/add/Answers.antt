use Rattle.std.proofs.Common.{◌∙◌, sym, ap}
use Rattle.std.specs.Prelude.{position, ◌==◌}
use Rattle.rd_script.specs.Said.{Said, SaidDevice, with_node_at, with_said_node}
use Rattle.rd_script.proofs.SaidLemmas.{on_ok, node_put, node_nowhere}
use Rattle.rd_script.proofs.known.Known.add.Goals as goal

pub returns-in-Some : goal.returns-in-Some
returns-in-Some c = on_ok c.add.result (λ made.
    node_put _ c.args.id c.in-Some.i c.args.path.now c.args.folder c.index_mut.result.now c.add.new.self
    (ap (λ (s : Said). position (λ (d : SaidDevice). d.id == c.args.id) s.devices) c.self.view_is ∙ sym c.position.ensures ∙ c.in-Some.is)
    c.index_mut.ensures.value
    (made ∙ ap (λ p. with_said_node p c.args.folder c.index_mut.result.now) c.names.ensures.names)
    ∙ ap (λ (s : Said). with_node_at s c.args.id c.args.path.now c.args.folder) c.self.view_is) c.add.ensures

pub returns-in-None : goal.returns-in-None
returns-in-None c = node_nowhere c.args.self.now c.args.id c.args.path.now c.args.folder (sym c.position.ensures ∙ c.in-None.is)
