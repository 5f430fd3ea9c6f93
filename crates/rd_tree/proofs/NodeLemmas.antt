-- What a change of one node does to the edges, the links and the bytes.
use Rattle.std.proofs.Common.{◌≡◌, ◌∙◌, refl, sym, ap, ℕ, zero, suc, ⊎_elim, Bool, true, false, not, if◌then◌else◌, List, [], ◌∷◌, Some, None, Vec, Result, Ok, Err, ◌<◌, length, arith}
use Rattle.std.specs.Result.{OnErr}
use Rattle.std.specs.Option.{option_map, option_and_then, is_some}
use Rattle.std.specs.Ordering.{nat_cmp, eq_by_cmp}
use Rattle.std.specs.Cmp.{eq_by_cmp_equiv}
use Rattle.std.specs.Cmp.Lexicographic.{slice_cmp}
use Rattle.std.specs.Str.{bytes_eq}
use Rattle.std.specs.BTreeMap.{is_at}
use Rattle.std.specs.Map.{lookup, KeepsOthers}
use Rattle.std.proofs.lemmas.Cmp.{nat_list_cmp_total}
use Rattle.std.proofs.lemmas.Bool.{cases_eq}
use Rattle.std.proofs.lemmas.Slice.Eq.{bytes_eq-Decides}
use Rattle.std.proofs.lemmas.Map.Text.{is_eq-slice_cmp}
use Rattle.slab.specs.Slab.{Slab, get, Updates, with_value}
use Rattle.slab.proofs.SlabLemmas.{Updates-with_value}
use Rattle.rd_dirinfo.specs.declared.naming.Naming.{Naming}
use Rattle.rd_dirinfo.specs.Naming.{seen}
use Rattle.rd_tree.specs.declared.node.Node.{Node}
use Rattle.rd_tree.specs.Walk.{Key}
use Rattle.rd_tree.specs.Nodes.{child_of, link_of, up_of, file_of, kind_of, node_bytes, to_kept}

-- ---- the children of one folder
decides_not : {P : Type 0} (b : Bool) → (b ≡ true → P) → (P → ⊥) → b ≡ false
decides_not true f g = absurd (g (f refl))
decides_not false f g = refl

pub other_keys : {A X : Type 0} (key : Key) (old new : List (Vec ℕ A × X)) → KeepsOthers (eq_by_cmp (λ (x y : Vec ℕ A). slice_cmp nat_cmp x.items y.items)) (is_at (to_kept key)) old new
    → (x : Key) → (x ≡ key → ⊥) → lookup (is_at (to_kept x)) new ≡ lookup (is_at (to_kept x)) old
unfolding KeepsOthers
other_keys key old new keeps x apart = keeps (is_at (to_kept x)) (λ u v. (eq_by_cmp_equiv nat_list_cmp_total).congr x u.items v.items)
    (λ k e. is_eq-slice_cmp x k.items ∙ decides_not (bytes_eq x k.items) (bytes_eq-Decides x k.items).0
    (λ same. apart (same ∙ sym ((bytes_eq-Decides key k.items).0 (sym (is_eq-slice_cmp key k.items) ∙ e)))))

-- ---- one node
pub child_of-at : (nodes : Slab Node) (n : ℕ) (node : Node) (x : Key) → get nodes n ≡ Some node → child_of nodes n x ≡ lookup (is_at (to_kept x)) node.children.entries
unfolding child_of
child_of-at nodes n node x is = ap (option_and_then (λ node. lookup (is_at (to_kept x)) node.children.entries)) is

pub child_of-none : (nodes : Slab Node) (n : ℕ) (x : Key) → get nodes n ≡ None → child_of nodes n x ≡ None
unfolding child_of
child_of-none nodes n x is = ap (option_and_then (λ node. lookup (is_at (to_kept x)) node.children.entries)) is

pub child_of-same : (old new : Slab Node) (n : ℕ) (x : Key) → get new n ≡ get old n → child_of new n x ≡ child_of old n x
unfolding child_of
child_of-same old new n x is = ap (option_and_then (λ node. lookup (is_at (to_kept x)) node.children.entries)) is

pub file_of-at : (nodes : Slab Node) (n : ℕ) (node : Node) → get nodes n ≡ Some node → file_of nodes n ≡ Some (node_bytes node)
unfolding file_of
file_of-at nodes n node is = ap (option_map node_bytes) is

pub file_of-none : (nodes : Slab Node) (n : ℕ) → get nodes n ≡ None → file_of nodes n ≡ None
unfolding file_of
file_of-none nodes n is = ap (option_map node_bytes) is

pub file_of-same : (old new : Slab Node) (n : ℕ) → get new n ≡ get old n → file_of new n ≡ file_of old n
unfolding file_of
file_of-same old new n is = ap (option_map node_bytes) is

is_folder : (b : Bool) (contents : List ℕ) → not (is_some (if b then None else Some contents)) ≡ b
is_folder true contents = refl
is_folder false contents = refl

pub kind_of-at : (nodes : Slab Node) (n : ℕ) (node : Node) → get nodes n ≡ Some node → kind_of nodes n ≡ Some node.folder
kind_of-at nodes n node is = ap (option_map (λ bytes. not (is_some bytes))) (file_of-at nodes n node is) ∙ ap Some (is_folder node.folder node.contents)

pub kind_of-none : (nodes : Slab Node) (n : ℕ) → get nodes n ≡ None → kind_of nodes n ≡ None
kind_of-none nodes n is = ap (option_map (λ bytes. not (is_some bytes))) (file_of-none nodes n is)

pub link_of-at : (nodes : Slab Node) (n : ℕ) (node : Node) → (0 ≡ n → ⊥) → get nodes n ≡ Some node → link_of nodes n ≡ Some (node.parent, node.name)
unfolding link_of
link_of-at nodes zero node not is = absurd (not refl)
link_of-at nodes (suc n) node not is = ap (option_map (λ node. (node.parent, node.name))) is

pub link_of-none : (nodes : Slab Node) (n : ℕ) → get nodes n ≡ None → link_of nodes n ≡ None
unfolding link_of
link_of-none nodes zero is = refl
link_of-none nodes (suc n) is = ap (option_map (λ node. (node.parent, node.name))) is

pub link_of-root : (nodes : Slab Node) → link_of nodes 0 ≡ None
unfolding link_of
link_of-root nodes = refl

pub link_of-same : (old new : Slab Node) (n : ℕ) → get new n ≡ get old n → link_of new n ≡ link_of old n
unfolding link_of
link_of-same old new zero is = refl
link_of-same old new (suc n) is = ap (option_map (λ node. (node.parent, node.name))) is

pub pair : (a b : ℕ) (x y : Key) → a ≡ b → x ≡ y → ◌≡◌ {A = ℕ × Key} (a, x) (b, y)
pair a b x y e f = cc

-- a node that keeps its place
link_of-kept : (old new : Slab Node) (n : ℕ) (was now : Node) → get old n ≡ Some was → get new n ≡ Some now → now.parent ≡ was.parent → now.name ≡ was.name → link_of new n ≡ link_of old n
unfolding link_of
link_of-kept old new zero was now is is_now parent name = refl
link_of-kept old new (suc n) was now is is_now parent name =
    ap (option_map (λ node. (node.parent, node.name))) is_now ∙ ap Some (pair now.parent was.parent now.name was.name parent name) ∙ sym (ap (option_map (λ node. (node.parent, node.name))) is)

-- ---- links by keys
pub up_of-at : (naming : Naming) (nodes : Slab Node) (n a : ℕ) (x : Key) → link_of nodes n ≡ Some (a, x) → up_of naming nodes n ≡ Some (a, seen naming x)
unfolding up_of
up_of-at naming nodes n a x is = ap (option_map (λ p. (p.0, seen naming p.1))) is

pub up_of-none : (naming : Naming) (nodes : Slab Node) (n : ℕ) → link_of nodes n ≡ None → up_of naming nodes n ≡ None
unfolding up_of
up_of-none naming nodes n is = ap (option_map (λ p. (p.0, seen naming p.1))) is

pub up_of-same : (naming : Naming) (old new : Slab Node) (n : ℕ) → link_of new n ≡ link_of old n → up_of naming new n ≡ up_of naming old n
unfolding up_of
up_of-same naming old new n is = ap (option_map (λ p. (p.0, seen naming p.1))) is

pub kind_of-same : (old new : Slab Node) (n : ℕ) → file_of new n ≡ file_of old n → kind_of new n ≡ kind_of old n
kind_of-same old new n is = ap (option_map (λ bytes. not (is_some bytes))) is

-- ---- a node is exchanged for another
module _ (s : Slab Node) (key : ℕ) (was now : Node) (is : get s key ≡ Some was) where
  pub exchange : Updates s (with_value s key now) key (Some now)
  exchange = Updates-with_value s key now (ap is_some is)

  pub exchanged_here : (x : Key) → child_of (with_value s key now) key x ≡ lookup (is_at (to_kept x)) now.children.entries
  exchanged_here x = child_of-at (with_value s key now) key now x exchange.changed

  pub exchanged_child : (n : ℕ) (x : Key) → (n ≡ key → lookup (is_at (to_kept x)) now.children.entries ≡ lookup (is_at (to_kept x)) was.children.entries) → child_of (with_value s key now) n x ≡ child_of s n x
  exchanged_child n x same = ⊎_elim
      (λ e. ap (λ k. child_of (with_value s key now) k x) e ∙ exchanged_here x ∙ same e ∙ sym (child_of-at s key was x is) ∙ ap (λ k. child_of s k x) (sym e))
      (λ not. child_of-same s (with_value s key now) n x (exchange.others n not)) (cases_eq n key)

  pub exchanged_file_here : file_of (with_value s key now) key ≡ Some (node_bytes now)
  exchanged_file_here = file_of-at (with_value s key now) key now exchange.changed

  pub exchanged_file_other : (n : ℕ) → (n ≡ key → ⊥) → file_of (with_value s key now) n ≡ file_of s n
  exchanged_file_other n not = file_of-same s (with_value s key now) n (exchange.others n not)

  pub exchanged_file : node_bytes now ≡ node_bytes was → (n : ℕ) → file_of (with_value s key now) n ≡ file_of s n
  exchanged_file same n = ⊎_elim
      (λ e. ap (file_of (with_value s key now)) e ∙ exchanged_file_here ∙ ap Some same ∙ sym (file_of-at s key was is) ∙ ap (file_of s) (sym e))
      (exchanged_file_other n) (cases_eq n key)

  pub exchanged_kind : now.folder ≡ was.folder → (n : ℕ) → kind_of (with_value s key now) n ≡ kind_of s n
  exchanged_kind same n = ⊎_elim
      (λ e. ap (kind_of (with_value s key now)) e ∙ kind_of-at (with_value s key now) key now exchange.changed ∙ ap Some same ∙ sym (kind_of-at s key was is) ∙ ap (kind_of s) (sym e))
      (λ other. kind_of-same s (with_value s key now) n (exchanged_file_other n other)) (cases_eq n key)

  pub exchanged_link : now.parent ≡ was.parent → now.name ≡ was.name → (n : ℕ) → link_of (with_value s key now) n ≡ link_of s n
  exchanged_link parent name n = ⊎_elim
      (λ e. ap (link_of (with_value s key now)) e ∙ link_of-kept s (with_value s key now) key was now is exchange.changed parent name ∙ ap (link_of s) (sym e))
      (λ not. link_of-same s (with_value s key now) n (exchange.others n not)) (cases_eq n key)

  pub exchanged_link_here : (0 ≡ key → ⊥) → link_of (with_value s key now) key ≡ Some (now.parent, now.name)
  exchanged_link_here not = link_of-at (with_value s key now) key now not exchange.changed

  pub exchanged_link_other : (n : ℕ) → (n ≡ key → ⊥) → link_of (with_value s key now) n ≡ link_of s n
  exchanged_link_other n not = link_of-same s (with_value s key now) n (exchange.others n not)

pub no_entries : {E : Type 0} (es : List E) → (0 < length es → false ≡ true) → es ≡ []
no_entries [] h = refl
no_entries (e ∷ es) h = let both : false ≡ true = h (omega arith) in absurd (cc)

pub on_err : {T E P : Type 0} (r : Result T E) → P → OnErr r P
on_err (Ok v) p = tt
on_err (Err e) p = p
