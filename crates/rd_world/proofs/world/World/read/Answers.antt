use Rattle.std.proofs.Common.{sym, ◌∙◌}
use Rattle.std.proofs.lemmas.Result.{on_ok_weaker}
use Rattle.rd_script.specs.declared.line.Errand.TheVariants as errands
use Rattle.rd_world.proofs.PlayingLemmas.{did_read, did_nothing}
use Rattle.rd_world.proofs.world.World.read.Goals as goal

pub returns-then-client_may_read-clause-done : goal.returns-then-client_may_read-clause-done
returns-then-client_may_read-clause-done c =
    on_ok_weaker c.client_read_all.result
    (λ done starves most. did_read starves most c.args.self.now c.client_read_all.new.self c.args.number (sym c.client_may_read.ensures ∙ c.if-client_may_read.true) (done starves))
    c.client_read_all.ensures.read

pub returns-else-client_may_read-clause-done : goal.returns-else-client_may_read-clause-done
returns-else-client_may_read-clause-done c =
    on_ok_weaker c.idles.result
    (λ done starves most. did_nothing starves most c.args.self.now c.idles.new.self c.args.number errands.Read (sym c.client_may_read.ensures ∙ c.if-client_may_read.false) done)
    c.idles.ensures
