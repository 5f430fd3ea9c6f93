use Rattle.std.proofs.Common.{◌≡◌, ◌==◌, ℕ, Bool, false, suc, arith, subst}
use Rattle.std.proofs.lemmas.Bool.Decides.{nat_tests}
use Rattle.rd_host_front.specs.declared.calls.Came.{Came}
use Rattle.rd_host_front.specs.declared.calls.Came.TheVariants as came
use Rattle.rd_host_player.specs.Play.{TriesToEnd}
use Rattle.rd_host_player.proofs.player.Player.end_channel.Goals as goal

later : (n : ℕ) → false ≡ (suc n == 0)
later n = grind (arith, nat_tests)

pub loop-preserved : goal.loop-preserved
loop-preserved g c =
    let tried = subst (λ (w : Came). TriesToEnd c.loop.anew w c.loop.self c.try_to_end.new.self) c.in-NotYet.is c.try_to_end.ensures in
    (suc c.loop.invariant.0, (c.loop.self, c.loop.invariant.1, subst (λ (b : Bool). TriesToEnd b came.NotYet c.loop.self c.try_to_end.new.self) c.loop.invariant.2 tried), later c.loop.invariant.0)

pub returns-in-Done : goal.returns-in-Done
returns-in-Done g c =
    let tried = subst (λ (w : Came). TriesToEnd c.loop.anew w c.loop.self c.try_to_end.new.self) c.in-Done.is c.try_to_end.ensures in
    (c.loop.invariant.0, c.loop.self, c.loop.invariant.1, subst (λ (b : Bool). TriesToEnd b came.Done c.loop.self c.try_to_end.new.self) c.loop.invariant.2 tried)
