use Rattle.std.proofs.Common.{◌∙◌, sym}
use Rattle.rd_drive.proofs.TellLemmas.{above_itself, above_root, above_step, shorter}
use Rattle.rd_drive.proofs.telling.is_above.Goals as goal

pub returns-then-node-eq0 : goal.returns-then-node-eq0
returns-then-node-eq0 c =
    sym (above_root c.args.tree.now c.requires.is_whole c.args.folder.0 c.loop-node.node.0 c.requires.folder c.loop-node.invariant.live c.loop-node-test.true c.if-node-eq0.true) ∙ c.loop-node.invariant.same

pub loop-node-preserved : goal.loop-node-preserved
loop-node-preserved c = record {
  live = c.parent-node.ensures.live;
  same = sym (above_step c.args.tree.now c.requires.is_whole c.args.folder.0 c.loop-node.node.0 c.requires.folder c.loop-node.invariant.live c.loop-node-test.true c.parent-node.result.0 c.parent-node.ensures.above (λ z. c.if-node-eq0.false (sym z))) ∙ c.loop-node.invariant.same;
}

pub loop-node-smaller : goal.loop-node-smaller
loop-node-smaller c =
    shorter c.args.tree.now c.requires.is_whole c.loop-node.node.0 c.loop-node.invariant.live (λ z. c.if-node-eq0.false (sym z)) c.parent-node.result.0 c.parent-node.ensures.above

pub returns : goal.returns
returns c =
    sym (above_itself c.args.tree.now c.requires.is_whole c.args.folder.0 c.loop-node.node.0 c.requires.folder c.loop-node.invariant.live c.loop-node-test.false) ∙ c.loop-node.invariant.same
