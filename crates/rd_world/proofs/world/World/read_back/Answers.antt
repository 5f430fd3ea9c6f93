use Rattle.std.proofs.Common.{sym, ◌∙◌}
use Rattle.std.proofs.lemmas.Result.{on_ok_weaker}
use Rattle.rd_script.specs.declared.line.Errand.TheVariants as errands
use Rattle.rd_world.proofs.PlayingLemmas.{did_back, did_nothing}
use Rattle.rd_world.proofs.world.World.read_back.Goals as goal

pub returns-then-host_may_read-clause-done : goal.returns-then-host_may_read-clause-done
returns-then-host_may_read-clause-done c =
    on_ok_weaker c.host_read_all.result
    (λ done starves most. did_back starves most c.args.self.now c.host_read_all.new.self c.args.number (sym c.host_may_read.ensures ∙ c.if-host_may_read.true) (done starves))
    c.host_read_all.ensures.read

pub returns-else-host_may_read-clause-done : goal.returns-else-host_may_read-clause-done
returns-else-host_may_read-clause-done c =
    on_ok_weaker c.idles.result
    (λ done starves most. did_nothing starves most c.args.self.now c.idles.new.self c.args.number errands.Back (sym c.host_may_read.ensures ∙ c.if-host_may_read.false) done)
    c.idles.ensures
