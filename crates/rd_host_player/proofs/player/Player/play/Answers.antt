use Rattle.std.proofs.Common.{zero, suc, refl}
use Rattle.rd_host_player.proofs.PlayLemmas.{of_none, of_some}
use Rattle.rd_host_player.proofs.player.Player.play.Goals as goal
use Rattle.rd_host_player.specs.Play.{Stops}
use Rattle.rd_host_player.specs.declared.player.Stop.{Stop}

pub loop-init : goal.loop-init
loop-init g c = (c.wait_for.new.self, zero, c.wait_for.ensures, refl)

pub returns-in-Some-2 : goal.returns-in-Some-2
returns-in-Some-2 g c =
    let stops = of_some (λ (why : Stop). Stops g.W.TableTurn.turn why c.loop.self c.act.new.self) c.in_ok-stop.field-0 c.in-Some-2.stop c.in-Some-2.is c.in_ok-stop.ensures.stops in
    (c.loop.invariant.0, c.loop.invariant.1, c.loop.self, c.loop.invariant.2, c.loop.invariant.3, stops)

pub loop-preserved : goal.loop-preserved
loop-preserved g c =
    let acts = of_none _ c.in_ok-stop.field-0 c.in_default.is c.in_ok-stop.ensures.goes_on in
    (c.loop.invariant.0, suc c.loop.invariant.1, c.loop.invariant.2, (c.loop.self, c.loop.invariant.3, acts))
