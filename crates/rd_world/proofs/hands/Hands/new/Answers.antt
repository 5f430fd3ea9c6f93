use Rattle.std.proofs.Common.{◌≡◌, ◌∙◌, ◌++◌, ◌∷◌, List, None, Option, [], ap, ℕ, sym, arith}
use Rattle.std.specs.Prelude.{replicate}
use Rattle.rd_drive.specs.declared.plan.Job.{Job}
use Rattle.rd_world.proofs.HandsLemmas.{free_at_start, free_more, keeps_new, replicate_more}
use Rattle.rd_world.proofs.hands.Hands.new.Goals as goal

pub loop-place-init : goal.loop-place-init
loop-place-init c = record { made = c.new-list.ensures.items; free = rw c.new-free.ensures free_at_start }

pub loop-place-preserved : goal.loop-place-preserved
loop-place-preserved c = record {
  made = c.in_ok-push.ensures.items ∙ ap (λ (l : List (Option (ℕ × Job))). l ++ None ∷ []) c.loop-place.invariant.made ∙ sym (replicate_more c.loop-place.place None);
  free = free_more _ _ _ c.loop-place.invariant.free c.mark.ensures;
}

pub invariant_of-result : goal.invariant_of-result
invariant_of-result c =
    let all : c.loop-place.place ≡ c.args.count = omega arith in
    rw (c.loop-place.invariant.made, all, c.new.ensures) (keeps_new _ _ c.requires.some c.requires.few (rw all at c.loop-place.invariant.free))

pub returns : goal.returns
returns c =
    let all : c.loop-place.place ≡ c.args.count = omega arith in
    c.loop-place.invariant.made ∙ ap (λ (n : ℕ). replicate n None) all
