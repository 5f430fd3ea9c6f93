use Rattle.std.proofs.Common.{rules, ◌≡◌, ◌∙◌, subst, ℕ, suc, ◌-◌, ◌+◌, ◌++◌, arith}
use Rattle.std.specs.Option.{option_to_list}
use Rattle.rd_station.proofs.Settling.{Settling, settled_none, settling_next}
use Rattle.rd_station.proofs.held.settle_all.Goals as goal

pub jobs-preserved : goal.jobs-preserved
jobs-preserved c =
    let first = c.settle_first-next.ensures.first in
    let more : c.len-end.result - c.jobs.counter ≡ suc (c.len-end.result - (c.jobs.counter + 1)) = omega arith in
    let before = subst (λ (n : ℕ). Settling c.args.parked.now.items c.args.ready.now.items c.args.ends.now c.jobs.parked.items c.jobs.ready.items (option_to_list c.jobs.next ++ c.jobs.ends) n) more c.jobs.invariant.settling in
    record {
      settling = settling_next _ _ _ _ _ _ (c.len-end.result - (c.jobs.counter + 1)) before first.0 first.1 first.2 _ _ _ first.3;
      capacity = (c.settle_first-next.ensures.parked ∙ c.jobs.invariant.capacity.0, c.settle_first-next.ensures.ready ∙ c.jobs.invariant.capacity.1);
      last = c.settle_first-next.ensures.last;
      count = c.settle_first-next.ensures.count ∙ c.jobs.invariant.count;
    }

pub returns-then-is_empty-clause-parked : goal.returns-then-is_empty-clause-parked
returns-then-is_empty-clause-parked c = (settled_none c.args.ready.now.items c.args.parked.now.items c.args.ends.now (search rules)).0

pub returns-then-is_empty-clause-ready : goal.returns-then-is_empty-clause-ready
returns-then-is_empty-clause-ready c = (settled_none c.args.ready.now.items c.args.parked.now.items c.args.ends.now (search rules)).1
