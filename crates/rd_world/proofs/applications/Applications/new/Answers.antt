use Rattle.std.proofs.Common.{◌∙◌, ◌++◌, List, ap, ℕ}
use Rattle.std.specs.BTreeMap.{insert_entry}
use Rattle.std.specs.Ordering.{nat_cmp}
use Rattle.rd_world.specs.Applications.{standing_at}
use Rattle.rd_world.specs.World.{ApplicationState}
use Rattle.rd_world.proofs.PlacesLemmas.{asking_all, keeps_made, made_more}
use Rattle.rd_world.proofs.applications.Applications.new.Goals as goal

pub loop-number-init : goal.loop-number-init
loop-number-init c = record {
  made = ap (λ (es : List (ℕ × ApplicationState)). es ++ standing_at c.args.lines.now c.into_iter-number-iterator.result) c.new-by_number.ensures.empty;
  asking = rw c.into_iter-number-iterator.ensures.into_iter_gives.0 (asking_all _ _ c.requires c.in_ok-items.ensures);
}

pub loop-number-preserved-in_ok-insert : goal.loop-number-preserved-in_ok-insert
loop-number-preserved-in_ok-insert c =
    let gives = c.into_iter-number-iterator.ensures.into_iter_gives in
    let rise = rw (← gives.0) at gives.5 in
    let left = rw c.in-Some.ensures.steps at c.loop-number.invariant.asking in record {
      made = ap (λ (es : List (ℕ × ApplicationState)). es ++ standing_at c.args.lines.now c.next.new.self) (c.in_ok-insert.ensures.entries ∙ ap (λ x. insert_entry nat_cmp c.loop-number.by_number.entries c.in-Some.number x) c.new.ensures)
          ∙ made_more _ _ _ _ _ _ _ rise c.in-Some.ensures.steps c.loop-number.invariant.made;
      asking = left.1;
    }

pub loop-number-preserved : goal.loop-number-preserved
loop-number-preserved c =
    let gives = c.into_iter-number-iterator.ensures.into_iter_gives in
    let rise = rw (← gives.0) at gives.5 in
    let left = rw c.in-Some.ensures.steps at c.loop-number.invariant.asking in record {
      made = ap (λ (es : List (ℕ × ApplicationState)). es ++ standing_at c.args.lines.now c.next.new.self) (c.in_ok-insert.ensures.entries ∙ ap (λ x. insert_entry nat_cmp c.loop-number.by_number.entries c.in-Some.number x) c.new.ensures)
          ∙ made_more _ _ _ _ _ _ _ rise c.in-Some.ensures.steps c.loop-number.invariant.made;
      asking = left.1;
    }

pub invariant_of-result : goal.invariant_of-result
invariant_of-result c =
    let gives = c.into_iter-number-iterator.ensures.into_iter_gives in
    let rise = rw (← gives.0) at gives.5 in
    let found = rw (← gives.0) at c.in_ok-items.ensures in
    rw (c.new-2.ensures, c.new-3.ensures) (keeps_made _ _ _ _ c.requires rise found c.in-None.ensures.steps.0 c.loop-number.invariant.made)

pub returns-clause-kept : goal.returns-clause-kept
returns-clause-kept c = (invariant_of-result c).are
