use Rattle.std.proofs.Common.{◌≡◌, ℕ, Some}
use Rattle.std.specs.List.{All}
use Rattle.rd_tree.specs.Walk.{Key}
use Rattle.rd_tree.specs.Nodes.{child_of}
use Rattle.rd_tree.proofs.ThroughLemmas.{IsSmall}
use Rattle.rd_tree.proofs.moving.+fits.Given as goal

abbrev pub decreases-fits : goal.decreases-fits
decreases-fits l = l.names

abbrev pub invariant-loop-key : goal.invariant-loop-key
invariant-loop-key l = record {
  found : All (λ e. child_of l.nodes l.node e.0.items ≡ Some e.1) l.key-iterator;
  rest : All (λ e. IsSmall (child_of l.nodes) l.names l.units e.0.items e.1) l.key-iterator → (x : Key) (k : ℕ) → child_of l.nodes l.node x ≡ Some k → IsSmall (child_of l.nodes) l.names l.units x k;
}
