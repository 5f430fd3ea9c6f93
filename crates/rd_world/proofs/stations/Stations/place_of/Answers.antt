use Rattle.std.proofs.Common.{◌≡◌, ◌<◌, arith, subst, ℕ, List, length, get_or}
use Rattle.std.specs.List.Sorted.{IsNonDecreasingBy, IsPartitionPoint}
use Rattle.std.specs.Ordering.{nat_cmp, ordering_index}
use Rattle.std.specs.declared.cmp.Ordering.TheVariants.{Less, Equal, Greater}
use Rattle.rd_world.proofs.StationsLemmas.{length_zip, place_found, place_missing}
use Rattle.rd_world.proofs.stations.Stations.place_of.Goals as goal

pub returns-in-Ok-clause-within : goal.returns-in-Ok-clause-within
returns-in-Ok-clause-within c =
    let there = subst (λ (ks : List ℕ). c.in-Ok.place < length ks) c.deref.ensures.value c.in-Ok.ensures.bound in
    rw (← c.self.view_is) (omega (arith, there, c.self.invariant.same, length_zip _ _ c.self.invariant.same))

pub returns-in-Ok-clause-place : goal.returns-in-Ok-clause-place
returns-in-Ok-clause-place c =
    let there = subst (λ (ks : List ℕ). c.in-Ok.place < length ks) c.deref.ensures.value c.in-Ok.ensures.bound in
    let equal = subst (λ (ks : List ℕ). nat_cmp (get_or ks c.in-Ok.place 0) c.args.device ≡ Equal) c.deref.ensures.value (c.in-Ok.ensures.ok 0) in
    rw (← c.self.view_is) (place_found _ _ _ _ _ _ _ c.self.invariant there equal)

pub returns-in-Err-clause-place : goal.returns-in-Err-clause-place
returns-in-Err-clause-place c =
    let parts = subst (λ (ks : List ℕ). IsNonDecreasingBy (λ (k : ℕ). ordering_index (nat_cmp k c.args.device)) ks
    → IsPartitionPoint (λ (k : ℕ). nat_cmp k c.args.device ≡ Less) (λ (k : ℕ). nat_cmp k c.args.device ≡ Greater) ks c.in-Err.field-0)
    c.deref.ensures.value c.in-Err.ensures.position in
    rw (← c.self.view_is) (place_missing _ _ _ _ _ _ c.in-Err.field-0 c.self.invariant parts)
