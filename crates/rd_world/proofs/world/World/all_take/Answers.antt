use Rattle.std.proofs.Common.{◌∙◌, ap, sym, ℕ, List, length, arith}
use Rattle.std.specs.Prelude.{fold}
use Rattle.rd_world.specs.Bits.{has, where_holds}
use Rattle.rd_world.specs.World.{WorldState}
use Rattle.rd_world.proofs.BitsLemmas.{first_out, picked}
use Rattle.rd_world.proofs.OutcomesLemmas.{places_first, takes_at}
use Rattle.rd_world.proofs.world.World.all_take.Goals as goal

pub mark-requires : goal.mark-requires
mark-requires c = (picked _ _ _ _ c.pick-place.ensures).0

pub overflow_add-place : goal.overflow_add-place
overflow_add-place c = omega (arith, (picked _ _ _ _ c.pick-place.ensures).0)

pub loop-taken-init : goal.loop-taken-init
loop-taken-init c = record {
  take = places_first c.args.self.now c.self.inside.applications c.awaiting.result.now c.copy-awaiting.result (ap (λ (w : WorldState). w.applications) c.self.view_is) c.copy-awaiting.ensures
      c.awaiting.ensures.places c.awaiting.ensures.kept;
  left = omega arith;
}

pub loop-taken-preserved : goal.loop-taken-preserved
loop-taken-preserved c =
    let out = first_out _ _ _ c.pick-place.ensures c.mark.ensures in record {
      take = ap (λ (w : WorldState). fold takes_at w (where_holds (has c.mark.new.self) 64)) c.in_ok-take_outcome.ensures ∙ sym (ap (λ (l : List ℕ). fold takes_at c.loop-taken.self l) out)
          ∙ c.loop-taken.invariant.take;
      left = omega (arith, ap length out, c.loop-taken.invariant.left);
    }
