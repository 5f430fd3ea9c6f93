use Rattle.rd_turn.specs.History.{calls_of}
use Rattle.rd_desk.proofs.OwnLemmas.{none_back}
use Rattle.rd_desk.proofs.hand.Hand.new.Goals as goal

pub invariant_of-result : goal.invariant_of-result
invariant_of-result g c = (c.requires.own, none_back (calls_of c.args.pass.number c.args.pass.seen) c.requires.fresh)
