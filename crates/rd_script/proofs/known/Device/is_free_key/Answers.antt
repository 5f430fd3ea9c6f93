use Rattle.std.proofs.Common.{refl, ◌∙◌, sym}
use Rattle.rd_script.proofs.KeptLemmas.{free_kept, closed_kept, open_kept}
use Rattle.rd_script.proofs.known.Device.is_free_key.Goals as goal

pub returns-then-not-unwrap_or : goal.returns-then-not-unwrap_or
returns-then-not-unwrap_or c =
    closed_kept _ c.node_at.result _ (free_kept c.args.self.now.nodes c.args.key.now c.node_at.result _ (sym c.is_empty.ensures ∙ c.if-is_empty.false) c.node_at.ensures refl) (sym c.unwrap_or.ensures ∙ c.if-not-unwrap_or.true)

pub returns : goal.returns
returns c =
    open_kept _ c.is_none.result c.node_at.result c.node_at-2.result (free_kept c.args.self.now.nodes c.args.key.now c.node_at.result c.node_at-2.result (sym c.is_empty.ensures ∙ c.if-is_empty.false) c.node_at.ensures c.node_at-2.ensures) (sym c.unwrap_or.ensures ∙ c.if-not-unwrap_or.false) c.is_none.ensures
