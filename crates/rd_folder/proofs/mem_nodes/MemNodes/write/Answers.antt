use Rattle.std.proofs.Common.{◌∙◌, sym}
use Rattle.rd_folder.specs.FolderCalls.{overwritten}
use Rattle.rd_folder.proofs.AtLemmas.{changed_map, missing, overwritten_root, tried_on}
use Rattle.rd_folder.proofs.mem_nodes.MemNodes.write.Goals as goal

pub returns-in_default : goal.returns-in_default
returns-in_default c =
    missing c.self.inside.root c.self.inside.others.items c.self.invariant c.args.path.now (overwritten c.args.offset c.args.bytes.now c.args.moment) c.args.self.now c.self.view_is
    (overwritten_root c.self.inside.root c.self.inside.others.items c.self.invariant c.args.offset c.args.bytes.now c.args.moment) (sym c.place_of.ensures ∙ c.in_default.is)

pub invariant_of-self : goal.invariant_of-self
invariant_of-self c =
    changed_map c.self.inside.root c.self.inside.others.items c.self.invariant c.args.path.now (overwritten c.args.offset c.args.bytes.now c.args.moment) c.in-Some.at c.index_mut-node.result.now c.write.new.self
    (sym c.place_of.ensures ∙ c.in-Some.is) c.index_mut-node.ensures.value c.write.ensures.place

pub returns : goal.returns
returns c =
    tried_on c.self.inside.root c.self.inside.others.items c.self.invariant c.args.path.now (overwritten c.args.offset c.args.bytes.now c.args.moment) c.in-Some.at c.index_mut-node.result.now c.write.new.self
    (sym c.place_of.ensures ∙ c.in-Some.is) c.index_mut-node.ensures.value c.write.ensures.place c.args.self.now c.self.view_is c.write.result c.write.ensures.alters
