use Rattle.std.proofs.Common.{◌∙◌, map}
use Rattle.std.proofs.lemmas.List.Elements.{All-same}
use Rattle.rd_desk.specs.Hand.{HandState}
use Rattle.rd_pool.specs.Desks.{KeepsMoment}
use Rattle.rd_pool.proofs.workers.work.Goals as goal

pub loop-preserved : goal.loop-preserved
loop-preserved g c = record {
  none = c.work-batch.ensures.none;
  turns = c.work-batch.ensures.turns ∙ c.loop.invariant.turns;
  moments = c.work-batch.ensures.moments c.loop.invariant.moments;
}

pub returns-clause-moments : goal.returns-clause-moments
returns-clause-moments g c =
    All-same (KeepsMoment (g.X.Outside.moment c.args.outside.now)) c.into_passes.result (map (λ (hand : HandState g.row.D.Denot). hand.pass) c.loop.hands) c.into_passes.ensures.same c.loop.invariant.moments
