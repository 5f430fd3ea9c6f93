use Rattle.std.proofs.Common.{◌≡◌, [], map}
use Rattle.std.specs.Prelude.{All}
use Rattle.rd_desk.specs.Hand.{HandState}
use Rattle.rd_pool.specs.Desks.{KeepsMoment}
use Rattle.rd_pool.proofs.workers.work.Given as goal

abbrev pub invariant-loop : goal.invariant-loop
invariant-loop g l = record {
  none : l.batch ≡ [];
  turns : map (λ (hand : HandState g.row.D.Denot). hand.turn) l.hands ≡ map (λ (hand : HandState g.row.D.Denot). hand.turn) l.initial.hands;
  moments : All (KeepsMoment (g.X.Outside.moment l.outside)) (map (λ (hand : HandState g.row.D.Denot). hand.pass) l.hands);
}
