use Rattle.std.proofs.Common.{◌∙◌, sym, Ok}
use Rattle.rd_folder.specs.FolderCalls.{marked_so}
use Rattle.rd_folder.proofs.AtLemmas.{changed_map, missing_past, no_path, root_changed, some_path, tried_on}
use Rattle.rd_folder.proofs.mem_nodes.MemNodes.mark.Goals as goal

pub returns-then-is_empty : goal.returns-then-is_empty
returns-then-is_empty c =
    root_changed c.self.inside.root c.self.inside.others.items c.self.invariant c.args.path.now (marked_so c.args.attributes c.args.moments) c.args.self.now c.self.view_is
    (no_path c.args.path.now (sym c.is_empty.ensures ∙ c.if-is_empty.true)) c.mark.new.self c.mark.ensures.marked c.mark.ensures.place

pub returns-in_default : goal.returns-in_default
returns-in_default c =
    missing_past c.self.inside.root c.self.inside.others.items c.self.invariant c.args.path.now (marked_so c.args.attributes c.args.moments) c.args.self.now c.self.view_is
    (some_path c.args.path.now (sym c.is_empty.ensures ∙ c.if-is_empty.false)) (sym c.place_of.ensures ∙ c.in_default.is)

pub invariant_of-self-2 : goal.invariant_of-self-2
invariant_of-self-2 c =
    changed_map c.self.inside.root c.self.inside.others.items c.self.invariant c.args.path.now (marked_so c.args.attributes c.args.moments) c.in-Some.at c.index_mut-node.result.now c.mark-2.new.self
    (sym c.place_of.ensures ∙ c.in-Some.is) c.index_mut-node.ensures.value c.mark-2.ensures.place

pub returns : goal.returns
returns c =
    tried_on c.self.inside.root c.self.inside.others.items c.self.invariant c.args.path.now (marked_so c.args.attributes c.args.moments) c.in-Some.at c.index_mut-node.result.now c.mark-2.new.self
    (sym c.place_of.ensures ∙ c.in-Some.is) c.index_mut-node.ensures.value c.mark-2.ensures.place c.args.self.now c.self.view_is (Ok tt) (sym c.mark-2.ensures.marked)
