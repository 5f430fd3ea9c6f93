-- What callers see of a file, and of a change of its bytes.
use Rattle.std.proofs.Common.{◌≡◌, ◌∙◌, refl, sym, ap, ℕ, true, false, Bool, List, Option, Some, None, cond, [], arith}
use Rattle.std.specs.Option.{option_map, option_map_or, option_and_then, unwrap_or, is_some, IsSome}
use Rattle.slab.specs.Slab.{Slab, get, with_value}
use Rattle.rd_dirinfo.specs.declared.naming.Naming.{Naming}
use Rattle.rd_tree.specs.declared.node.Node.{Node}
use Rattle.rd_tree.specs.Walk.{Up}
use Rattle.rd_tree.specs.Places.{Place, Places, place, bytes_at, file_at, IsFile, with_place, with_bytes}
use Rattle.rd_tree.specs.Nodes.{link_of, file_of, node_bytes, placed, places_of}
use Rattle.rd_tree.proofs.NodeLemmas.{exchange, file_of-at, file_of-none, exchanged_file_here, exchanged_file_other, exchanged_link}
use Rattle.rd_tree.proofs.ViewLemmas.{place_seen, placed_at}

pub bytes_is : (naming : Naming) (nodes : Slab Node) (n : ℕ) (node : Node) → get nodes n ≡ Some node → bytes_at (places_of naming nodes) n ≡ node_bytes node
bytes_is naming nodes n node is = ap (option_and_then (λ (p : Place). p.bytes)) (place_seen naming nodes n ∙ ap (option_map (placed (link_of nodes) n)) (file_of-at nodes n node is))

pub bytes_none : (naming : Naming) (nodes : Slab Node) (n : ℕ) → get nodes n ≡ None → bytes_at (places_of naming nodes) n ≡ None
bytes_none naming nodes n is = ap (option_and_then (λ (p : Place). p.bytes)) (place_seen naming nodes n ∙ ap (option_map (placed (link_of nodes) n)) (file_of-none nodes n is))

contents_are : (b : Bool) (contents : List ℕ) → IsSome (cond b None (Some contents)) → b ≡ false
contents_are true contents h = absurd (cc)
contents_are false contents h = refl

pub file_found : (naming : Naming) (nodes : Slab Node) (n : ℕ) → IsFile (places_of naming nodes) n → get nodes n ≡ None → ⊥
file_found naming nodes n file is = none (bytes_at (places_of naming nodes) n) (bytes_none naming nodes n is) file
  where
    none : (o : Option (List ℕ)) → o ≡ None → IsSome o → ⊥
    none o e h = grind arith

module _ (naming : Naming) (nodes : Slab Node) (n : ℕ) (was : Node) (is : get nodes n ≡ Some was) (file : IsFile (places_of naming nodes) n) where
  is_file : was.folder ≡ false
  is_file = contents_are was.folder was.contents (ap is_some (sym (bytes_is naming nodes n was is)) ∙ file)

  has_bytes : node_bytes was ≡ Some was.contents
  has_bytes = ap (λ b. cond b None (Some was.contents)) is_file

  pub contents_seen : file_at (places_of naming nodes) n ≡ was.contents
  contents_seen = ap (λ o. unwrap_or o []) (bytes_is naming nodes n was is ∙ has_bytes)

  pub changed : (now : Node) (change : List ℕ → List ℕ) → now.parent ≡ was.parent → now.name ≡ was.name → now.folder ≡ was.folder → now.contents ≡ change was.contents
      → places_of naming (with_value nodes n now) ≡ with_bytes (places_of naming nodes) n change
  changed now change parent name folder contents =
      let new : Slab Node = with_value nodes n now in
      let tree : Places = places_of naming nodes in
      let links : link_of new ≡ link_of nodes = λ i. λ k. (exchanged_link nodes n was now is parent name k) i in
      let p : Place = placed (link_of nodes) n (Some was.contents) in
      let q : Place = placed (link_of nodes) n (Some (change was.contents)) in
      let bytes : node_bytes now ≡ Some (change was.contents) = ap (λ b. cond b None (Some now.contents)) (folder ∙ is_file) ∙ ap Some contents in
      let before : place tree n ≡ Some p = place_seen naming nodes n ∙ ap (option_map (placed (link_of nodes) n)) (file_of-at nodes n was is ∙ ap Some has_bytes) in
      let here : place (places_of naming new) n ≡ Some q =
      place_seen naming new n ∙ ap (option_map (placed (link_of new) n)) (exchanged_file_here nodes n was now is ∙ ap Some bytes) ∙ ap (λ (l : Up). Some (placed l n (Some (change was.contents)))) links in
      placed_at naming nodes new n q here
      (λ k not. place_seen naming new k ∙ ap (λ (l : Up). option_map (placed l k) (file_of new k)) links ∙ ap (option_map (placed (link_of nodes) k)) (exchanged_file_other nodes n was now is k not) ∙ sym (place_seen naming nodes k))
      ∙ sym (ap (λ o. option_map_or (λ (p : Place). with_place tree n (record { path = p.path; bytes = option_map change p.bytes })) o tree) before)

-- it is a file still, whatever its bytes
pub file_still : (naming : Naming) (nodes : Slab Node) (n : ℕ) (was now : Node) → get nodes n ≡ Some was → IsFile (places_of naming nodes) n → now.folder ≡ was.folder → IsFile (places_of naming (with_value nodes n now)) n
file_still naming nodes n was now is file folder = ap is_some (bytes_is naming (with_value nodes n now) n now (exchange nodes n was now is).changed ∙ ap (λ b. cond b None (Some now.contents)) (folder ∙ is_file naming nodes n was is file))
