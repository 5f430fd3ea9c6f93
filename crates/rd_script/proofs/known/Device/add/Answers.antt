use Rattle.std.proofs.Common.{◌∙◌, sym, ap}
use Rattle.rd_script.specs.Said.{SaidDevice, naming_of, with_said_node}
use Rattle.rd_script.specs.Kept.{kept_key, kept_nodes}
use Rattle.rd_script.proofs.KeptLemmas.{kept_insert, node_added}
use Rattle.rd_script.proofs.known.Device.add.Goals as goal

pub returns-in_ok-insert : goal.returns-in_ok-insert
returns-in_ok-insert c =
    node_added c.self.inside.id c.self.inside.kind c.in-Some.naming c.args.path.now (kept_key c.in_ok-key.key) c.args.folder (kept_nodes c.self.inside.nodes.entries) (kept_nodes c.insert.new.self.entries)
    (ap (λ (d : SaidDevice). naming_of d.kind) c.self.view_is ∙ sym c.naming.ensures ∙ c.in-Some.is)
    c.in_ok-key.ensures
    (ap kept_nodes c.in_ok-insert.ensures.entries ∙ kept_insert c.self.inside.nodes.entries c.in_ok-key.key c.args.folder)
    ∙ ap (with_said_node c.args.path.now c.args.folder) c.self.view_is
