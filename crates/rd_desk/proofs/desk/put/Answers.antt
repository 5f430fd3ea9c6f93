use Rattle.std.proofs.Common.{rules, refl}
use Rattle.rd_desk.proofs.StepLemmas.{put_told}
use Rattle.rd_desk.proofs.desk.put.Goals as goal

pub returns-then-not-may_put : goal.returns-then-not-may_put
returns-then-not-may_put g c = ((c.args.station.now, (search rules, refl, refl), refl), tt)

pub returns : goal.returns
returns g c = (put_told _ _ _ c.args.station.now c.put.new.self c.args.job c.put.result c.put.ensures.came c.put.ensures.refused, tt)
