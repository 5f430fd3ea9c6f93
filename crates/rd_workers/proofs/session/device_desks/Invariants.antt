use Rattle.std.proofs.Common.{◌≡◌, ◌++◌, length, map, drop, take}
use Rattle.std.specs.List.{AllZip}
use Rattle.rd_pool.specs.Desks.{IsOther}
use Rattle.rd_workers.proofs.session.device_desks.Given as goal

abbrev pub invariant-loop-pass : goal.invariant-loop-pass
invariant-loop-pass g l = record {
  others : AllZip IsOther (drop l.place l.desks.turns) l.own;
  turns : map (λ d. d.turn) l.list.items ≡ take l.place l.desks.turns;
  passes : map (λ d. d.pass) l.list.items ++ l.own ≡ l.fn.own;
  ids : map (λ d. d.id) l.list.items ≡ take l.place l.ids;
}

abbrev pub decreases-loop-pass : goal.decreases-loop-pass
decreases-loop-pass g l = length l.own
