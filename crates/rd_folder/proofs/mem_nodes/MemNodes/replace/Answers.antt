use Rattle.std.proofs.Common.{◌∙◌, sym}
use Rattle.rd_folder.specs.FolderCalls.{emptied}
use Rattle.rd_folder.proofs.AtLemmas.{changed_map, missing, root_no_file, tried_on}
use Rattle.rd_folder.proofs.mem_nodes.MemNodes.replace.Goals as goal

pub returns-in_default : goal.returns-in_default
returns-in_default c =
    missing c.self.inside.root c.self.inside.others.items c.self.invariant c.args.path.now (emptied c.args.attributes c.args.moment) c.args.self.now c.self.view_is
    (root_no_file c.self.inside.root c.self.inside.others.items c.self.invariant _) (sym c.place_of.ensures ∙ c.in_default.is)

pub invariant_of-self : goal.invariant_of-self
invariant_of-self c =
    changed_map c.self.inside.root c.self.inside.others.items c.self.invariant c.args.path.now (emptied c.args.attributes c.args.moment) c.in-Some.at c.index_mut-node.result.now c.replace.new.self
    (sym c.place_of.ensures ∙ c.in-Some.is) c.index_mut-node.ensures.value c.replace.ensures.place

pub returns : goal.returns
returns c =
    tried_on c.self.inside.root c.self.inside.others.items c.self.invariant c.args.path.now (emptied c.args.attributes c.args.moment) c.in-Some.at c.index_mut-node.result.now c.replace.new.self
    (sym c.place_of.ensures ∙ c.in-Some.is) c.index_mut-node.ensures.value c.replace.ensures.place c.args.self.now c.self.view_is c.replace.result c.replace.ensures.alters
