use Rattle.std.proofs.Common.{◌∙◌, ap, map}
use Rattle.rd_script.specs.Said.{SaidDevice, said_node}
use Rattle.rd_script.proofs.KeptLemmas.{kept_lookup}
use Rattle.rd_script.proofs.known.Device.node_at.Goals as goal

pub returns : goal.returns
returns c =
    c.copied.ensures ∙ c.get.ensures.value
    ∙ kept_lookup c.args.key.now c.self.inside.nodes.entries
    ∙ ap (λ (d : SaidDevice). said_node d.nodes (map (λ name. name.items) c.args.key.now)) c.self.view_is
