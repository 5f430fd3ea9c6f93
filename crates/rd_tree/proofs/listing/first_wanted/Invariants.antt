use Rattle.std.proofs.Common.{◌≡◌}
use Rattle.std.specs.Option.{option_map}
use Rattle.rd_dirinfo.specs.Patterns.{is_wanted}
use Rattle.rd_tree.specs.Nodes.{first_in, names_in}
use Rattle.rd_tree.proofs.listing.first_wanted.Given as goal

abbrev pub invariant-loop-child : goal.invariant-loop-child
invariant-loop-child l = first_in (is_wanted l.naming (option_map (λ other. other.now) l.after) l.pattern) (names_in l.nodes l.fn.entries) ≡ first_in (is_wanted l.naming (option_map (λ other. other.now) l.after) l.pattern) (names_in l.nodes l.child-iterator)
