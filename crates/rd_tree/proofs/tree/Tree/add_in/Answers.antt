use Rattle.std.proofs.Common.{ℕ, ◌≡◌, ◌∙◌, refl, sym, ap, subst, ◌≤◌, ◌++◌, ◌∷◌, length, Option, arith, cond, List, [], not, None, Some, true}
use Rattle.std.specs.List.{list_all}
use Rattle.std.specs.Option.{is_some, unwrap_or, option_map, option_and_then}
use Rattle.slab.specs.Slab.{Slab}
use Rattle.rd_dirinfo.specs.declared.naming.Naming.{Naming}
use Rattle.rd_dirinfo.specs.Naming.{Name, seen}
use Rattle.rd_dirinfo.specs.Paths.{Names, is_name}
use Rattle.rd_tree.specs.declared.node.Node.{Node}
use Rattle.rd_tree.specs.declared.refusal.AddNo.{AddNo}
use Rattle.rd_tree.specs.declared.refusal.AddNo.TheVariants as add
use Rattle.rd_tree.specs.Places.{Place, Places, add_refusal, folder_of, node_at, Adds}
use Rattle.rd_tree.specs.Nodes.{child_of, places_of, placed, link_of, kind_of, IsSoundTree, Locates}
use Rattle.rd_tree.proofs.NameLemmas.{path_names, path_depth}
use Rattle.rd_tree.proofs.AccessLemmas.{folder_found}
use Rattle.rd_tree.proofs.AddLemmas.{refused_full, not_refused, same_seen, sound_seen, sound_inserted, made_seen}
use Rattle.rd_tree.proofs.PlaceLemmas.{located_node}
use Rattle.rd_tree.proofs.TreeLemmas.{not_some}
use Rattle.rd_tree.proofs.ViewLemmas.{place_seen}
use Rattle.rd_tree.proofs.WholeLemmas.{whole}
use Rattle.rd_tree.proofs.tree.Tree.add_in.Goals as goal

-- what is asked of a call, as its nodes have it: the folder in which the last name is to stand, and that nothing stands there
located : (naming : Naming) (nodes : Slab Node) → IsSoundTree naming nodes → (tree : Places) → places_of naming nodes ≡ tree → (path names front : Names) (name : Name) (folder : ℕ)
    → names ≡ path → list_all is_name names ≡ true → names ≡ front ++ name ∷ [] → folder_of tree path ≡ Some folder → node_at tree path ≡ None
    → Locates naming nodes names folder name × (child_of nodes folder (seen naming name) ≡ None)
located naming nodes s tree view path names front name folder same named split found free =
    let l = subst (λ (p : Names). Locates naming nodes p folder name) (sym split)
    (folder_found naming nodes s front name folder (sym (ap (list_all is_name) split) ∙ named) (ap (folder_of (places_of naming nodes)) (sym split ∙ same) ∙ ap (λ (t : Places). folder_of t path) view ∙ found)) in
    (l, sym (located_node naming nodes s names folder name l) ∙ ap (node_at (places_of naming nodes)) same ∙ ap (λ (t : Places). node_at t path) view ∙ free)

pub returns-then-len-ge-MAX_NODES-clause-refused : goal.returns-then-len-ge-MAX_NODES-clause-refused
returns-then-len-ge-MAX_NODES-clause-refused c =
    let naming = c.self.inside.naming in
    let nodes = c.self.inside.nodes in
    let names : Names = c.names.result.now in
    let at = located naming nodes c.self.invariant c.args.self.now c.self.view_is c.args.path.now names c.in-Some.field-0-1.now c.in-Some.name.now c.args.parent.0
    c.names.ensures.names (path_names names c.args.path.now c.names.ensures.names c.names.ensures.within) c.in-Some.ensures.cases.0 c.requires.place c.requires.free in
    let why = refused_full naming nodes c.self.invariant names c.args.parent.0 c.in-Some.name.now at.0 (ap is_some at.1) (omega arith) in
    sym (ap (λ (o : Option AddNo). unwrap_or o add.Memory) (sym (λ i. add_refusal (c.self.view_is i) (c.names.ensures.names i)) ∙ why))

pub insert-made-requires-clause-parent : goal.insert-made-requires-clause-parent
insert-made-requires-clause-parent c =
    let naming = c.self.inside.naming in
    let nodes = c.self.inside.nodes in
    let names : Names = c.names.result.now in
    let at = located naming nodes c.self.invariant c.args.self.now c.self.view_is c.args.path.now names c.in-Some.field-0-1.now c.as_slice.result.now c.args.parent.0
    c.names.ensures.names (path_names names c.args.path.now c.names.ensures.names c.names.ensures.within) (c.in-Some.ensures.cases.0 ∙ ap (λ (name : Name). c.in-Some.field-0-1.now ++ name ∷ []) (sym c.as_slice.ensures)) c.requires.place c.requires.free in
    ap is_some at.0.is_folder

pub invariant_of-self : goal.invariant_of-self
invariant_of-self c = sound_seen c.self.inside.naming c.self.inside.nodes c.insert-made.new.nodes c.self.invariant c.in_default-made.ensures.refused

pub returns-in_default-made-clause-refused : goal.returns-in_default-made-clause-refused
returns-in_default-made-clause-refused c =
    let naming = c.self.inside.naming in
    let nodes = c.self.inside.nodes in
    let names : Names = c.names.result.now in
    let at = located naming nodes c.self.invariant c.args.self.now c.self.view_is c.args.path.now names c.in-Some.field-0-1.now c.as_slice.result.now c.args.parent.0
    c.names.ensures.names (path_names names c.args.path.now c.names.ensures.names c.names.ensures.within) (c.in-Some.ensures.cases.0 ∙ ap (λ (name : Name). c.in-Some.field-0-1.now ++ name ∷ []) (sym c.as_slice.ensures)) c.requires.place c.requires.free in
    let why = not_refused naming nodes c.self.invariant names c.args.parent.0 c.as_slice.result.now at.0 (ap is_some at.1) (omega arith) in
    sym (ap (λ (o : Option AddNo). unwrap_or o add.Memory) (sym (λ i. add_refusal (c.self.view_is i) (c.names.ensures.names i)) ∙ why))

pub returns-in_default-made-clause-err : goal.returns-in_default-made-clause-err
returns-in_default-made-clause-err c = same_seen c.self.inside.naming c.self.inside.nodes c.insert-made.new.nodes c.in_default-made.ensures.refused ∙ c.self.view_is

pub invariant_of-self-2 : goal.invariant_of-self-2
invariant_of-self-2 c =
    let naming = c.self.inside.naming in
    let nodes = c.self.inside.nodes in
    let names : Names = c.names.result.now in
    let at = located naming nodes c.self.invariant c.args.self.now c.self.view_is c.args.path.now names c.in-Some.field-0-1.now c.as_slice.result.now c.args.parent.0
    c.names.ensures.names (path_names names c.args.path.now c.names.ensures.names c.names.ensures.within) (c.in-Some.ensures.cases.0 ∙ ap (λ (name : Name). c.in-Some.field-0-1.now ++ name ∷ []) (sym c.as_slice.ensures)) c.requires.place c.requires.free in
    let deep : length names ≤ 64 = omega (arith, path_depth c.args.path.now c.names.ensures.within, ap (λ (p : Names). length p) c.names.ensures.names) in
    sound_inserted naming nodes c.insert-made.new.nodes c.self.invariant names c.args.parent.0 c.as_slice.result.now at.0 deep at.1 _ c.in-Ok.node c.in-Ok.ensures.inserted

pub returns-clause-is_whole : goal.returns-clause-is_whole
returns-clause-is_whole c =
    let naming = c.self.inside.naming in
    let nodes = c.self.inside.nodes in
    let names : Names = c.names.result.now in
    let at = located naming nodes c.self.invariant c.args.self.now c.self.view_is c.args.path.now names c.in-Some.field-0-1.now c.as_slice.result.now c.args.parent.0
    c.names.ensures.names (path_names names c.args.path.now c.names.ensures.names c.names.ensures.within) (c.in-Some.ensures.cases.0 ∙ ap (λ (name : Name). c.in-Some.field-0-1.now ++ name ∷ []) (sym c.as_slice.ensures)) c.requires.place c.requires.free in
    let deep : length names ≤ 64 = omega (arith, path_depth c.args.path.now c.names.ensures.within, ap (λ (p : Names). length p) c.names.ensures.names) in
    whole naming c.insert-made.new.nodes (sound_inserted naming nodes c.insert-made.new.nodes c.self.invariant names c.args.parent.0 c.as_slice.result.now at.0 deep at.1 _ c.in-Ok.node c.in-Ok.ensures.inserted)

pub returns-clause-added : goal.returns-clause-added
returns-clause-added c =
    let naming = c.self.inside.naming in
    let nodes = c.self.inside.nodes in
    let names : Names = c.names.result.now in
    let at = located naming nodes c.self.invariant c.args.self.now c.self.view_is c.args.path.now names c.in-Some.field-0-1.now c.as_slice.result.now c.args.parent.0
    c.names.ensures.names (path_names names c.args.path.now c.names.ensures.names c.names.ensures.within) (c.in-Some.ensures.cases.0 ∙ ap (λ (name : Name). c.in-Some.field-0-1.now ++ name ∷ []) (sym c.as_slice.ensures)) c.requires.place c.requires.free in
    let deep : length names ≤ 64 = omega (arith, path_depth c.args.path.now c.names.ensures.within, ap (λ (p : Names). length p) c.names.ensures.names) in
    let new : Places = places_of naming c.insert-made.new.nodes in
    let why = not_refused naming nodes c.self.invariant names c.args.parent.0 c.as_slice.result.now at.0 (ap is_some at.1) (omega arith) in
    let made = made_seen naming nodes c.insert-made.new.nodes c.self.invariant names c.args.parent.0 c.as_slice.result.now at.0 deep at.1 _ c.in-Ok.node c.in-Ok.ensures.inserted c.args.folder refl why in
    subst (λ (t : Places). Adds t new c.args.path.now c.args.folder c.in-Ok.node) c.self.view_is
    (subst (λ (p : Names). Adds (places_of naming nodes) new p c.args.folder c.in-Ok.node) c.names.ensures.names made)

pub returns-clause-live : goal.returns-clause-live
returns-clause-live c = ap is_some (place_seen c.self.inside.naming c.insert-made.new.nodes c.in-Ok.node ∙ ap (option_map (placed (link_of c.insert-made.new.nodes) c.in-Ok.node)) c.in-Ok.ensures.inserted.file)

pub returns-clause-file : goal.returns-clause-file
returns-clause-file c e =
    let empty : Option (List ℕ) = Some [] in
    ap (λ (o : Option Place). is_some (option_and_then (λ (p : Place). p.bytes) o)) (place_seen c.self.inside.naming c.insert-made.new.nodes c.in-Ok.node ∙ ap (option_map (placed (link_of c.insert-made.new.nodes) c.in-Ok.node)) c.in-Ok.ensures.inserted.file)
    ∙ ap (λ b. is_some (cond b None empty)) e

pub returns-clause-other : goal.returns-clause-other
returns-clause-other c e = not_some (kind_of c.self.inside.nodes 0) (ap (kind_of c.self.inside.nodes) e ∙ ap (option_map (λ bytes. not (is_some bytes))) c.in-Ok.ensures.inserted.fresh) (ap is_some c.self.invariant.tree.root)
