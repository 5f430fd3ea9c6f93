-- Nodes put among others, one after the other.
use Rattle.std.proofs.Common.{◌≡◌, ◌∙◌, refl, sym, ap, ℕ, ◌+◌, ◌≤◌, Bool, true, false, not, cond, List, [], ◌∷◌, ◌++◌, length, insert, suc, Vec, arith, position, Option, Some, None, unwrap_or, nat_lt}
use Rattle.std.specs.List.{last_or, position_or_len}
use Rattle.std.specs.Ordering.{is_lt}
use Rattle.std.proofs.lemmas.Bool.{ltb-false}
use Rattle.std.proofs.lemmas.List.{take_all, drop_all, map-append}
use Rattle.rd_dirinfo.specs.declared.naming.Naming.TheVariants.{Exact}
use Rattle.rd_dirinfo.specs.Naming.{Name}
use Rattle.rd_dirinfo.specs.Paths.{Names, last_name, path_cmp}
use Rattle.rd_drive.specs.DriveState.{Node, add_node, in_order}
use Rattle.rd_folder.specs.InMemory.{carried, is_no_earlier, paths_of}

-- a node goes before the first that doesn't come before it
put_at : (node : Node) (nodes : List Node) → insert nodes (position_or_len (is_no_earlier node.path) nodes) node ≡ add_node Exact node nodes
put_at node [] = refl
put_at node (other ∷ others) = by (is_lt (path_cmp Exact other.path node.path)) (put_at node others)
  where
    k : ℕ
    k = position_or_len (is_no_earlier node.path) others

    by : (t : Bool) → insert others (position_or_len (is_no_earlier node.path) others) node ≡ add_node Exact node others
        → insert (other ∷ others) (cond (not (not t)) (1 + position_or_len (is_no_earlier node.path) others) 0) node ≡ cond t (other ∷ add_node Exact node others) (node ∷ other ∷ others)
    by true later =
        let e : 1 + position_or_len (is_no_earlier node.path) others ≡ suc (position_or_len (is_no_earlier node.path) others) = omega arith in
        ap (λ (n : ℕ). insert (other ∷ others) n node) e ∙ ap (◌∷◌ other) later
    by false later = refl

-- to put a node in at the place that is found is to add it
pub put_found : (node : Node) (nodes : List Node) → insert nodes (unwrap_or (position (is_no_earlier node.path) nodes) (length nodes)) node ≡ add_node Exact node nodes
put_found node nodes = by (nat_lt (position_or_len (is_no_earlier node.path) nodes) (length nodes)) refl ∙ put_at node nodes
  where
    k : ℕ
    k = position_or_len (is_no_earlier node.path) nodes

    by : (b : Bool) → nat_lt (position_or_len (is_no_earlier node.path) nodes) (length nodes) ≡ b
        → insert nodes (unwrap_or (cond (nat_lt (position_or_len (is_no_earlier node.path) nodes) (length nodes)) (Some (position_or_len (is_no_earlier node.path) nodes)) None) (length nodes)) node
        ≡ insert nodes (position_or_len (is_no_earlier node.path) nodes) node
    by true e = ap (λ (b : Bool). insert nodes (unwrap_or (cond b (Some (position_or_len (is_no_earlier node.path) nodes)) None) (length nodes)) node) e
    by false e =
        let past : length nodes ≤ position_or_len (is_no_earlier node.path) nodes = ltb-false (position_or_len (is_no_earlier node.path) nodes) (length nodes) e in
        ap (λ (b : Bool). insert nodes (unwrap_or (cond b (Some (position_or_len (is_no_earlier node.path) nodes)) None) (length nodes)) node) e
        ∙ (λ i. (take_all (length nodes) nodes (omega arith) ∙ sym (take_all (position_or_len (is_no_earlier node.path) nodes) nodes past)) i ++ node ∷ (drop_all (length nodes) nodes (omega arith) ∙ sym (drop_all (position_or_len (is_no_earlier node.path) nodes) nodes past)) i)

-- the last of some names and one more
last_after : (o : Option Name) (names : Names) (name : Name) → last_or o (names ++ name ∷ []) ≡ Some name
last_after o [] name = refl
last_after o (first ∷ names) name = last_after (Some first) names name

pub last_joined : (path names : Names) (name : Name) → path ≡ names ++ name ∷ [] → last_name path ≡ name
last_joined path names name is = ap last_name is ∙ ap (λ (o : Option Name). unwrap_or o []) (last_after None names name)

-- ---- one after the other, from the last on

-- nodes put among others, the last one first
abbrev pub onto : List Node → List Node → List Node
onto [] others = others
onto (node ∷ nodes) others = add_node Exact node (onto nodes others)

pub onto_none : (nodes : List Node) → onto nodes [] ≡ in_order Exact nodes
onto_none [] = refl
onto_none (node ∷ nodes) = ap (add_node Exact node) (onto_none nodes)

onto_last : (nodes : List Node) (node : Node) (others : List Node) → onto (nodes ++ node ∷ []) others ≡ onto nodes (add_node Exact node others)
onto_last [] node others = refl
onto_last (first ∷ nodes) node others = ap (add_node Exact first) (onto_last nodes node others)

carried_last : (nodes : List Node) (paths : List Names) (node : Node) (path : Names) → length paths ≡ length nodes → carried (nodes ++ node ∷ []) (paths ++ path ∷ []) ≡ carried nodes paths ++ record node { path = path } ∷ []
carried_last [] [] node path same = refl
carried_last [] (p ∷ ps) node path same = absurd (omega (arith, same))
carried_last (n ∷ ns) [] node path same = absurd (omega (arith, same))
carried_last (n ∷ ns) (p ∷ ps) node path same = ap (◌∷◌ (record n { path = p })) (carried_last ns ps node path (omega (arith, same)))

pub length_added : (node : Node) (nodes : List Node) → length (add_node Exact node nodes) ≡ length nodes + 1
length_added node [] = refl
length_added node (other ∷ others) = by (length_added node others) (is_lt (path_cmp Exact other.path node.path))
  where
    by : length (add_node Exact node others) ≡ length others + 1 → (b : Bool) → length (cond b (other ∷ add_node Exact node others) (node ∷ other ∷ others)) ≡ length (other ∷ others) + 1
    by later true = omega (arith, later)
    by later false = omega arith

-- one more is put among the others, with its path
pub goes_onto : {A : Type 0} (nodes : List Node) (paths : List (Vec Name A)) (node : Node) (path : Vec Name A) (others : List Node) → length paths ≡ length nodes
    → onto (carried (nodes ++ node ∷ []) (paths_of (paths ++ path ∷ []))) others ≡ onto (carried nodes (paths_of paths)) (add_node Exact (record node { path = path.items }) others)
goes_onto {A = A} nodes paths node path others same =
    ap (λ (ps : List Names). onto (carried (nodes ++ node ∷ []) ps) others) (map-append (λ (p : Vec Name A). p.items) paths (path ∷ []))
    ∙ ap (λ (ns : List Node). onto ns others) (carried_last nodes (paths_of paths) node path.items (length_paths paths ∙ same))
    ∙ onto_last (carried nodes (paths_of paths)) (record node { path = path.items }) others
  where
    length_paths : (ps : List (Vec Name A)) → length (paths_of ps) ≡ length ps
    length_paths [] = refl
    length_paths (p ∷ ps) = omega (arith, length_paths ps)
