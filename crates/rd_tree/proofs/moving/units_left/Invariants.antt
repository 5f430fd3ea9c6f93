use Rattle.std.proofs.Common.{◌≡◌, ◌+◌, ◌-◌, drop}
use Rattle.rd_tree.specs.Walk.{added_units}
use Rattle.rd_tree.proofs.moving.units_left.Given as goal

abbrev pub invariant-loop-name : goal.invariant-loop-name
invariant-loop-name l = record {
  rest : l.left ≡ (4097 - added_units l.names) + added_units (drop l.name-index l.names);
}
