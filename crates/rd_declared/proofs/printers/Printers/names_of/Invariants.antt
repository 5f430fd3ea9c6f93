use Rattle.std.proofs.Common.{◌≡◌, drop}
use Rattle.std.specs.Map.{lookup}
use Rattle.std.specs.Ordering.{nat_cmp}
use Rattle.std.specs.BTreeMap.{is_at}
use Rattle.rd_declared.proofs.printers.Printers.names_of.Given as goal

-- the printers so far are others
abbrev pub invariant-loop-id : goal.invariant-loop-id
invariant-loop-id l = lookup (is_at (nat_cmp l.device)) l.id-items ≡ lookup (is_at (nat_cmp l.device)) (drop l.id-index l.id-items)
