use Rattle.std.proofs.Common.{sym, ◌∙◌}
use Rattle.std.proofs.lemmas.Result.{on_ok_weaker}
use Rattle.rd_script.specs.declared.line.Line.TheVariants as lines
use Rattle.rd_world.specs.Run.{controls}
use Rattle.rd_world.proofs.PlayingLemmas.{any_most, connected_not}
use Rattle.rd_world.proofs.world.World.reconnect.Goals as goal

pub returns-else-enabled-clause-done : goal.returns-else-enabled-clause-done
returns-else-enabled-clause-done c =
    on_ok_weaker c.idles.result
    (λ done. any_most c.args.self.now c.idles.new.self (λ starves most. controls starves most c.args.self.now c.args.number lines.Connect)
    (λ starves most. connected_not starves most _ _ c.args.number (sym c.enabled.ensures ∙ c.if-enabled.false) done))
    c.idles.ensures
