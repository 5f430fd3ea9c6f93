use Rattle.std.proofs.Common.{◌∙◌, sym}
use Rattle.rd_folder.specs.FolderCalls.{ended_at}
use Rattle.rd_folder.proofs.AtLemmas.{changed_map, missing, root_no_file, tried_on}
use Rattle.rd_folder.proofs.mem_nodes.MemNodes.resize.Goals as goal

pub returns-in_default : goal.returns-in_default
returns-in_default c =
    missing c.self.inside.root c.self.inside.others.items c.self.invariant c.args.path.now (ended_at c.args.end c.args.moment) c.args.self.now c.self.view_is
    (root_no_file c.self.inside.root c.self.inside.others.items c.self.invariant _) (sym c.place_of.ensures ∙ c.in_default.is)

pub invariant_of-self : goal.invariant_of-self
invariant_of-self c =
    changed_map c.self.inside.root c.self.inside.others.items c.self.invariant c.args.path.now (ended_at c.args.end c.args.moment) c.in-Some.at c.index_mut-node.result.now c.resize.new.self
    (sym c.place_of.ensures ∙ c.in-Some.is) c.index_mut-node.ensures.value c.resize.ensures.place

pub returns : goal.returns
returns c =
    tried_on c.self.inside.root c.self.inside.others.items c.self.invariant c.args.path.now (ended_at c.args.end c.args.moment) c.in-Some.at c.index_mut-node.result.now c.resize.new.self
    (sym c.place_of.ensures ∙ c.in-Some.is) c.index_mut-node.ensures.value c.resize.ensures.place c.args.self.now c.self.view_is c.resize.result c.resize.ensures.alters
