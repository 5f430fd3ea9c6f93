use Rattle.std.proofs.Common.{sym, ◌∙◌}
use Rattle.std.proofs.lemmas.Result.{on_ok_weaker}
use Rattle.rd_script.specs.declared.line.Errand.TheVariants as errands
use Rattle.rd_world.proofs.PlayingLemmas.{did, did_nothing}
use Rattle.rd_world.proofs.world.World.send.Goals as goal

pub returns-then-enabled-clause-done : goal.returns-then-enabled-clause-done
returns-then-enabled-clause-done c =
    on_ok_weaker c.host_send_all.result
    (λ done starves most. did starves most c.args.self.now c.host_send_all.new.self c.args.number errands.Send (sym c.enabled.ensures ∙ c.if-enabled.true) (done starves))
    c.host_send_all.ensures.sent

pub returns-else-enabled-clause-done : goal.returns-else-enabled-clause-done
returns-else-enabled-clause-done c =
    on_ok_weaker c.idles.result
    (λ done starves most. did_nothing starves most c.args.self.now c.idles.new.self c.args.number errands.Send (sym c.enabled.ensures ∙ c.if-enabled.false) done)
    c.idles.ensures
