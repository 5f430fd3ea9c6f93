use Rattle.std.proofs.Common.{◌∙◌, arith, ◌+◌}
use Rattle.rd_contents.proofs.PageLemmas.{kept_more}
use Rattle.rd_contents.proofs.pages.make_room.Goals as goal

pub loop-done-preserved : goal.loop-done-preserved
loop-done-preserved c = record {
  within = omega arith;
  bytes = λ i. c.hold.ensures.bytes i ∙ c.loop-done.invariant.bytes i;
  kept = λ i from to. kept_more c.loop-done.pages.entries c.hold.new.pages.entries c.args.offset (c.args.offset + c.loop-done.done) c.min-piece.result i c.hold.ensures.grows (omega arith) c.in_ok-hold.ensures.long c.loop-done.invariant.kept from (omega arith);
  lacks = λ k past h. c.hold.ensures.others k (λ e. absurd (omega arith)) (c.loop-done.invariant.lacks k past h);
}
