use Rattle.std.proofs.Common.{◌≡◌, map, drop, true}
use Rattle.std.specs.List.{list_all}
use Rattle.rd_dirinfo.specs.Naming.{seen}
use Rattle.rd_dirinfo.specs.Paths.{is_name}
use Rattle.rd_tree.specs.Walk.{LeadsThrough}
use Rattle.rd_tree.specs.Nodes.{child_of}
use Rattle.rd_tree.proofs.moving.leads_through.Given as goal

abbrev pub invariant-loop-name : goal.invariant-loop-name
invariant-loop-name l = record {
  on : LeadsThrough (child_of l.nodes) 0 l.node (map (seen l.naming) l.names) → LeadsThrough (child_of l.nodes) l.here l.node (map (seen l.naming) (drop l.name-index l.names));
  back : LeadsThrough (child_of l.nodes) l.here l.node (map (seen l.naming) (drop l.name-index l.names)) → LeadsThrough (child_of l.nodes) 0 l.node (map (seen l.naming) l.names);
  names : list_all is_name (drop l.name-index l.names) ≡ true;
}
