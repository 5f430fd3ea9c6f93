use Rattle.std.proofs.Common.{◌∙◌, ◌<◌, ◌-◌, List, Option, ℕ, ap, length, arith}
use Rattle.rd_drive.specs.declared.plan.Job.{Job}
use Rattle.rd_world.proofs.HandsLemmas.{held_is, keeps_set, with_is}
use Rattle.rd_world.proofs.hands.Hands.take.Goals as goal

pub invariant_of-self : goal.invariant_of-self
invariant_of-self c =
    let within : c.args.hand - 1 < length c.self.inside.list.items = omega (arith, ap (λ (l : List (Option (ℕ × Job))). length l) c.self.view_is) in
    rw c.take.ensures.after (keeps_set _ _ _ _ _ _ _ c.self.invariant within c.mark.ensures c.mark-2.ensures)

pub returns-clause-held : goal.returns-clause-held
returns-clause-held c =
    let within : c.args.hand - 1 < length c.self.inside.list.items = omega (arith, ap (λ (l : List (Option (ℕ × Job))). length l) c.self.view_is) in
    c.take.ensures.value ∙ held_is _ _ _ _ c.self.view_is c.requires.first within c.index_mut.ensures.value

pub returns-clause-empty : goal.returns-clause-empty
returns-clause-empty c =
    let within : c.args.hand - 1 < length c.self.inside.list.items = omega (arith, ap (λ (l : List (Option (ℕ × Job))). length l) c.self.view_is) in
    rw c.take.ensures.after (with_is _ _ _ _ c.self.view_is c.requires.first within)
