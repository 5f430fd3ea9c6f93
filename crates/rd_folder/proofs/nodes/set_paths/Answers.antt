use Rattle.std.proofs.Common.{◌≡◌, ◌∙◌, sym, ap, length, length-append, ◌∷◌, [], arith, ◌++◌}
use Rattle.rd_dirinfo.specs.declared.naming.Naming.TheVariants.{Exact}
use Rattle.rd_drive.specs.DriveState.{Node, add_node}
use Rattle.rd_folder.specs.InMemory.{carried, paths_of}
use Rattle.rd_folder.proofs.PutLemmas.{goes_onto, length_added, onto, onto_none}
use Rattle.rd_folder.proofs.nodes.set_paths.Goals as goal

pub loop-node-init : goal.loop-node-init
loop-node-init c = record {
  left = ap (onto (carried c.args.nodes.items (paths_of c.args.paths.items))) c.requires.empty ∙ onto_none (carried c.args.nodes.items (paths_of c.args.paths.items));
  each = c.requires.each;
  room = omega (arith, c.requires.room, ap (length {A = Node}) c.requires.empty);
}

pub loop-node-preserved : goal.loop-node-preserved
loop-node-preserved c =
    let nodes : c.loop-node.nodes.items ≡ c.pop.new.self.items ++ c.in-Some-Some.node ∷ [] = c.in-Some-Some.ensures.items in
    let paths : c.loop-node.paths.items ≡ c.pop-in-loop-node.new.self.items ++ c.in-Some-Some.path ∷ [] = c.in-Some-Some.ensures'.items in
    let fewer_nodes = ap length nodes ∙ length-append c.pop.new.self.items (c.in-Some-Some.node ∷ []) in
    let fewer_paths = ap length paths ∙ length-append c.pop-in-loop-node.new.self.items (c.in-Some-Some.path ∷ []) in
    let each : length c.pop-in-loop-node.new.self.items ≡ length c.pop.new.self.items = omega (arith, c.loop-node.invariant.each, fewer_nodes, fewer_paths) in
    let put = c.put.ensures.items ∙ ap (λ (n : Node). add_node Exact n c.loop-node.into.items) c.set_path.ensures in
    record {
      left =
          ap (onto (carried c.pop.new.self.items (paths_of c.pop-in-loop-node.new.self.items))) put
          ∙ sym (goes_onto c.pop.new.self.items c.pop-in-loop-node.new.self.items c.in-Some-Some.node c.in-Some-Some.path c.loop-node.into.items each)
          ∙ (λ i. onto (carried (sym nodes i) (paths_of (sym paths i))) c.loop-node.into.items) ∙ c.loop-node.invariant.left;
      each = each;
      room = omega (arith, c.loop-node.invariant.room, fewer_nodes, ap length put, length_added (record c.in-Some-Some.node { path = c.in-Some-Some.path.items }) c.loop-node.into.items, c.put.ensures.capacity);
    }
