use Rattle.std.proofs.Common.{◌≡◌, ◌+◌, ◌≤◌}
use Rattle.std.specs.Prelude.{All}
use Rattle.std.specs.List.{AllZip, zip}
use Rattle.std.specs.VecDeque.{deque_capacity, deque_len}
use Rattle.rd_pool.specs.Desks.{IsClosed, IsFirst}
use Rattle.rd_pool.proofs.ZipLemmas.{ZipsOn}
use Rattle.rd_pool.proofs.desks.close_all.Given as goal

abbrev pub invariant-loop-turn : goal.invariant-loop-turn
invariant-loop-turn g l = record {
  closed : ZipsOn (IsClosed g.D.Device.runs g.D.Device.parked g.D.Device.cuts) (zip l.initial.turns.items l.initial.passes.items) (zip l.turns.items l.passes.items) l.stations.items;
  first : AllZip IsFirst l.turns.items l.passes.items;
  home : All (λ p. p.out ≡ 0) l.passes.items;
  room : deque_len l.stations + deque_len l.turns ≤ deque_capacity l.stations;
}

abbrev pub decreases-loop-turn : goal.decreases-loop-turn
decreases-loop-turn g l = deque_len l.turns
