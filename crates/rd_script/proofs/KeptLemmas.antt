-- Nodes: a map of keys is the nodes that it keeps.
use Rattle.std.proofs.Common.{◌≡◌, refl, sym, ap, ◌∙◌, ℕ, ◌-◌, ◌<◌, arith, List, [], ◌∷◌, Bool, true, false, cond, length, map, take, Option, Some, Vec, ◌&&◌, ◌==◌, not}
use Rattle.std.specs.Option.{is_some, unwrap_or}
use Rattle.std.specs.Ordering.{nat_cmp, is_eq, match_ordering}
use Rattle.std.specs.Cmp.Lexicographic.{slice_cmp}
use Rattle.std.specs.Cmp.Derive.Mapped.{lex_map}
use Rattle.std.specs.declared.cmp.Ordering.{Ordering}
use Rattle.std.specs.declared.cmp.Ordering.TheVariants.{Less, Equal, Greater}
use Rattle.std.proofs.lemmas.List.{take-map, length-map}
use Rattle.std.proofs.lemmas.Bool.Decides.{nat_tests}
use Rattle.std.specs.Map.{lookup}
use Rattle.std.specs.BTreeMap.{insert_entry, is_at}
use Rattle.rd_dirinfo.specs.declared.naming.Naming.{Naming}
use Rattle.rd_dirinfo.specs.Paths.{Names, seen_path}
use Rattle.rd_script.specs.declared.known.DeviceKind.{DeviceKind}
use Rattle.rd_script.specs.Said.{Nodes, names_cmp, said_node, naming_of, with_said_node, is_free_key}
use Rattle.rd_script.specs.Kept.{kept_key, kept_nodes}

-- how kept names compare
abbrev pub name_items_cmp : {A : Type 0} → Vec ℕ A → Vec ℕ A → Ordering
name_items_cmp x y = slice_cmp nat_cmp x.items y.items

-- how kept keys compare
abbrev pub kept_cmp : {A B : Type 0} → Vec (Vec ℕ A) B → Vec (Vec ℕ A) B → Ordering
kept_cmp x y = slice_cmp name_items_cmp x.items y.items

kept_cmp-is : {A : Type 0} (x y : List (Vec ℕ A)) → slice_cmp name_items_cmp x y ≡ names_cmp (map (λ (name : Vec ℕ A). name.items) x) (map (λ (name : Vec ℕ A). name.items) y)
kept_cmp-is {A = A} x y = sym (lex_map (λ (name : Vec ℕ A). name.items) (slice_cmp nat_cmp) x y)

-- a key that is put in is a node that is put in
pub kept_insert : {A B : Type 0} (es : List (Vec (Vec ℕ A) B × Bool)) (key : Vec (Vec ℕ A) B) (folder : Bool) → kept_nodes (insert_entry kept_cmp es key folder) ≡ insert_entry names_cmp (kept_nodes es) (kept_key key) folder
kept_insert [] key folder = refl
kept_insert {A = A} {B = B} (e ∷ es) key folder =
    of (kept_cmp key e.0) (insert_entry kept_cmp es key folder) (insert_entry names_cmp (kept_nodes es) (kept_key key) folder) (kept_insert es key folder)
    ∙ ap (λ (o : Ordering). match_ordering o ((kept_key key, folder) ∷ kept_nodes (e ∷ es)) ((kept_key e.0, folder) ∷ kept_nodes es) ((kept_key e.0, e.1) ∷ insert_entry names_cmp (kept_nodes es) (kept_key key) folder)) (kept_cmp-is key.items e.0.items)
  where
    of : (o : Ordering) (more : List (Vec (Vec ℕ A) B × Bool)) (nodes : Nodes) → kept_nodes more ≡ nodes
        → kept_nodes (match_ordering o ((key, folder) ∷ e ∷ es) ((e.0, folder) ∷ es) (e ∷ more)) ≡ match_ordering o ((kept_key key, folder) ∷ kept_nodes (e ∷ es)) ((kept_key e.0, folder) ∷ kept_nodes es) ((kept_key e.0, e.1) ∷ nodes)
    of Less more nodes h = refl
    of Equal more nodes h = refl
    of Greater more nodes h = ap (λ (ns : Nodes). (kept_key e.0, e.1) ∷ ns) h

-- what the map has at a key is the node there
pub kept_lookup : {A B : Type 0} (key : List (Vec ℕ A)) (es : List (Vec (Vec ℕ A) B × Bool)) → lookup (is_at (λ (x : Vec (Vec ℕ A) B). slice_cmp name_items_cmp key x.items)) es ≡ said_node (kept_nodes es) (map (λ (name : Vec ℕ A). name.items) key)
kept_lookup key [] = refl
kept_lookup {A = A} {B = B} key (e ∷ es) =
    ap (λ (o : Ordering). cond (is_eq o) (Some e.1) (lookup (is_at (λ (x : Vec (Vec ℕ A) B). slice_cmp name_items_cmp key x.items)) es)) (kept_cmp-is key e.0.items)
    ∙ ap (λ (rest : Option Bool). cond (is_eq (names_cmp (map (λ (name : Vec ℕ A). name.items) key) (kept_key e.0))) (Some e.1) rest) (kept_lookup key es)

-- a device with one more node
pub node_added : (id : ℕ) (kind : DeviceKind) (n : Naming) (path key : Names) (folder : Bool) (old new : Nodes) → naming_of kind ≡ Some n → key ≡ seen_path n path → new ≡ insert_entry names_cmp old key folder → record { id = id; kind = kind; nodes = new } ≡ with_said_node path folder (record { id = id; kind = kind; nodes = old })
node_added id kind n path key folder old new named same is = rw (named, is, same) refl

-- whether a key is free, where it isn't the root's
pub free_key : (nodes : Nodes) (key : Names) → 0 < length key → is_free_key nodes key ≡ (unwrap_or (said_node nodes (take (length key - 1) key)) false && not (is_some (said_node nodes key)))
free_key nodes [] some = absurd (omega arith)
free_key nodes (name ∷ names) some = refl

-- the same of a kept key, by what is at its parent's and at its own
pub free_kept : {A : Type 0} (nodes : Nodes) (key : List (Vec ℕ A)) (up at : Option Bool) → (length key == 0) ≡ false → up ≡ said_node nodes (map (λ (name : Vec ℕ A). name.items) (take (length key - 1) key)) → at ≡ said_node nodes (map (λ (name : Vec ℕ A). name.items) key) → is_free_key nodes (map (λ (name : Vec ℕ A). name.items) key) ≡ (unwrap_or up false && not (is_some at))
free_kept {A = A} nodes key up at some above here =
    let h : Vec ℕ A → List ℕ = λ name. name.items in
    let len : length (map h key) ≡ length key = length-map key h in
    let filled : 0 < length key = grind (arith, nat_tests) in
    let cut : take (length (map h key) - 1) (map h key) ≡ map h (take (length key - 1) key) = ap (λ (n : ℕ). take (n - 1) (map h key)) len ∙ take-map h (length key - 1) key in
    free_key nodes (map h key) (rw len filled)
    ∙ ap (λ (k : Names). unwrap_or (said_node nodes k) false && not (is_some (said_node nodes (map h key)))) cut
    ∙ ap (λ (o : Option Bool). unwrap_or o false && not (is_some (said_node nodes (map h key)))) (sym above)
    ∙ ap (λ (o : Option Bool). unwrap_or up false && not (is_some o)) (sym here)

-- no folder is at its parent's
pub closed_kept : (free : Bool) (up at : Option Bool) → free ≡ (unwrap_or up false && not (is_some at)) → unwrap_or up false ≡ false → false ≡ free
closed_kept free up at is closed = sym (is ∙ ap (λ (b : Bool). b && not (is_some at)) closed)

-- a folder is, and so its own place decides
pub open_kept : (free r : Bool) (up at : Option Bool) → free ≡ (unwrap_or up false && not (is_some at)) → unwrap_or up false ≡ true → is_some at ≡ not r → r ≡ free
open_kept free r up at is there own = of r own ∙ sym (is ∙ ap (λ (b : Bool). b && not (is_some at)) there)
  where
    of : (r : Bool) → is_some at ≡ not r → r ≡ not (is_some at)
    of true h = sym (ap not h)
    of false h = sym (ap not h)
