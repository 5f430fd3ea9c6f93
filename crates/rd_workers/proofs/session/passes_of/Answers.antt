use Rattle.std.proofs.Common.{arith, length, ◌∙◌, ◌++◌, ◌∷◌, [], ap, append_assoc, subst, sym, List}
use Rattle.std.specs.List.{AllZip}
use Rattle.rd_front.specs.State.{DeviceDeskState}
use Rattle.rd_workers.specs.Passes.{IsPassOf}
use Rattle.rd_workers.proofs.PassLemmas.{zip_push}
use Rattle.rd_workers.proofs.session.passes_of.Goals as goal

pub loop-desk-preserved : goal.loop-desk-preserved
loop-desk-preserved g c =
    let done = c.loop-desk.invariant.0 in
    let d = c.in-Some.desk in (
      done ++ d ∷ [],
      c.loop-desk.invariant.1 ∙ ap (λ (l : List DeviceDeskState). done ++ l) c.in-Some.ensures.steps.0 ∙ sym (append_assoc done (d ∷ []) c.next.new.self.rest.items),
      subst (AllZip IsPassOf (done ++ d ∷ [])) (sym c.add.ensures.home) (zip_push IsPassOf done c.loop-desk.home.home d c.into_pass.result c.loop-desk.invariant.2 (c.into_pass.ensures.own, c.into_pass.ensures.same)),
      omega (arith, ap length c.in-Some.ensures.steps.0, c.add.ensures.to_come, c.loop-desk.invariant.3),
    )

pub add-requires : goal.add-requires
add-requires g c = omega (arith, ap length c.in-Some.ensures.steps.0, c.loop-desk.invariant.3)
