use Rattle.std.proofs.Common.{◌∙◌, sym, ap, position, Some, List}
use Rattle.rd_dirinfo.specs.declared.naming.Naming.TheVariants.{Exact}
use Rattle.rd_drive.specs.DriveState.{Node, is_at_path}
use Rattle.rd_folder.specs.FolderCalls.{node_there}
use Rattle.rd_folder.proofs.AtLemmas.{some_path, there_at, there_none}
use Rattle.rd_folder.proofs.mem_nodes.MemNodes.get.Goals as goal

pub returns-in-Some : goal.returns-in-Some
returns-in-Some c =
    ap (λ (node : Node). Some node) c.index.ensures
    ∙ sym (there_at c.self.inside.root c.self.inside.others.items c.self.invariant c.args.path.now c.in-Some.at c.index.result.now
    (ap (position (is_at_path Exact c.args.path.now)) (sym c.as_slice.ensures.value) ∙ sym c.position.ensures ∙ c.in-Some.is))
    ∙ ap (λ (nodes : List Node). node_there nodes c.args.path.now) c.self.view_is

pub returns-in-None : goal.returns-in-None
returns-in-None c =
    sym (there_none c.self.inside.root c.self.inside.others.items c.self.invariant c.args.path.now (some_path c.args.path.now (sym c.is_empty.ensures ∙ c.if-is_empty.false))
    (ap (position (is_at_path Exact c.args.path.now)) (sym c.as_slice.ensures.value) ∙ sym c.position.ensures ∙ c.in-None.is))
    ∙ ap (λ (nodes : List Node). node_there nodes c.args.path.now) c.self.view_is
