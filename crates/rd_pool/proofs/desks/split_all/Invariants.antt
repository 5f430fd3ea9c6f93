use Rattle.std.proofs.Common.{◌≡◌, ◌+◌, ◌<◌, ◌≤◌, ◌++◌, [], map, drop}
use Rattle.std.specs.Prelude.{All}
use Rattle.std.specs.List.{AllZip}
use Rattle.std.specs.VecDeque.{deque_capacity, deque_len}
use Rattle.rd_turn.specs.History.{calls_of}
use Rattle.rd_turn.specs.Pass.{after_split, max_made, new_pass}
use Rattle.rd_pool.specs.Desks.{IsFirst}
use Rattle.rd_pool.proofs.desks.split_all.Given as goal

abbrev pub invariant-loop-pass : goal.invariant-loop-pass
invariant-loop-pass g l = record {
  kept : l.to.items ++ map after_split l.from.items ≡ map after_split l.initial.from.items;
  given : l.new.items ++ map new_pass l.from.items ≡ map new_pass l.initial.from.items;
  fresh : All (λ p. calls_of p.number p.seen ≡ []) l.new.items;
  first : AllZip IsFirst (drop l.at l.turns.items) l.from.items;
  few : All (λ p. p.made < max_made) l.from.items;
  room : (deque_len l.to + deque_len l.from ≤ deque_capacity l.to) × (deque_len l.new + deque_len l.from ≤ deque_capacity l.new);
  capacity : (deque_capacity l.from ≡ deque_capacity l.initial.from) × (deque_capacity l.new ≡ deque_capacity l.initial.new);
}

abbrev pub decreases-loop-pass : goal.decreases-loop-pass
decreases-loop-pass g l = deque_len l.from
