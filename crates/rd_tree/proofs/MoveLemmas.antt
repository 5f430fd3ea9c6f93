-- What a node with another link means to callers, and that the nodes are a tree still.
use Rattle.std.proofs.Common.{◌≡◌, ◌∙◌, refl, sym, ap, subst, ℕ, ◌-◌, ◌==◌, ◌⊎◌, inl, inr, ⊎_elim, Bool, true, false, not, ◌&&◌, cond, List, [], ◌∷◌, ◌++◌, length, take, drop, map, Option, Some, None, arith, append_assoc, length-append}
use Rattle.std.proofs.lemmas.List.{take-append-le, take_all, take-map, length-map, map-append, append-nil}
use Rattle.std.proofs.lemmas.Bool.{cases_eq}
use Rattle.std.proofs.lemmas.Bool.Decides.{nat_tests}
use Rattle.std.proofs.Math.Seq.{drop-append_seam}
use Rattle.std.specs.Prelude.{T}
use Rattle.std.specs.Option.{option_map, option_map_or, option_and_then, unwrap_or, is_some, IsSome}
use Rattle.std.specs.Ordering.{nat_cmp, is_lt, eq_by_cmp}
use Rattle.std.specs.FinMap.{find, is_sorted}
use Rattle.std.specs.FinMap.Entries.{below_all, is_sorted-where_key}
use Rattle.std.proofs.lemmas.Option.{same_Some, none-some}
use Rattle.rd_tree.proofs.WithoutLemmas.{place_without}
use Rattle.slab.specs.Slab.{Slab}
use Rattle.rd_dirinfo.specs.declared.naming.Naming.{Naming}
use Rattle.rd_dirinfo.specs.Naming.{Name, seen}
use Rattle.rd_dirinfo.specs.Paths.{Names, is_name, seen_path, parent, is_prefix}
use Rattle.rd_tree.specs.declared.node.Node.{Node}
use Rattle.rd_tree.specs.Walk.{Key, Keys, onward, down, path_of, Starts}
use Rattle.rd_tree.specs.Places.{Place, Places, place, without, own_path, asked_path, cleared, moved}
use Rattle.rd_dirinfo.specs.Paths.{moved_path}
use Rattle.rd_tree.specs.Nodes.{child_of, link_of, up_of, file_of, kind_of, placed, places_of, Locates, LacksFolder, Relinks, Retitles, IsSoundTree}
use Rattle.rd_tree.proofs.KeyLemmas.{one_path, down_on}
use Rattle.rd_tree.proofs.TreeLemmas.{not_some, inside, sound_same}
use Rattle.rd_tree.proofs.NodeLemmas.{up_of-at, up_of-same, kind_of-same}
use Rattle.rd_tree.proofs.ViewLemmas.{place_seen, seen_sorted, naming_seen, same_places, apart, itself}
use Rattle.rd_tree.proofs.WayLemmas.{keys_of_way, same_way, live_above, way_step, node_found}
use Rattle.rd_tree.proofs.PlaceLemmas.{path_seen, live_file, asked_is, located_node, keys_split}
use Rattle.rd_tree.proofs.ParentLemmas.{linked}
use Rattle.rd_tree.proofs.RefuseLemmas.{prefix_split, split_prefix, own_keys, there, only_way}

-- ---- lists of places
find_mapped : (g : Place → Place) (k : ℕ) (es : List (ℕ × Place)) → find nat_cmp k (map (λ (e : ℕ × Place). (e.0, g e.1)) es) ≡ option_map g (find nat_cmp k es)
find_mapped g k [] = refl
find_mapped g k (e ∷ es) = by (find_mapped g k es) (eq_by_cmp nat_cmp k e.0)
  where
    by : find nat_cmp k (map (λ (e : ℕ × Place). (e.0, g e.1)) es) ≡ option_map g (find nat_cmp k es) → (b : Bool)
        → cond b (Some (g e.1)) (find nat_cmp k (map (λ (e : ℕ × Place). (e.0, g e.1)) es)) ≡ option_map g (cond b (Some e.1) (find nat_cmp k es))
    by rest true = refl
    by rest false = rest

below_mapped : (g : Place → Place) (k : ℕ) (es : List (ℕ × Place)) → below_all nat_cmp k (map (λ (e : ℕ × Place). (e.0, g e.1)) es) ≡ below_all nat_cmp k es
below_mapped g k [] = refl
below_mapped g k (e ∷ es) = ap (λ b. is_lt (nat_cmp k e.0) && b) (below_mapped g k es)

sorted_mapped : (g : Place → Place) (es : List (ℕ × Place)) → is_sorted nat_cmp (map (λ (e : ℕ × Place). (e.0, g e.1)) es) ≡ is_sorted nat_cmp es
sorted_mapped g [] = refl
sorted_mapped g (e ∷ es) = λ i. below_mapped g e.0 es i && sorted_mapped g es i

-- the tree without a number, if there is one
abbrev pub less : Places → Option ℕ → Places
less tree gone = option_map_or (λ t. without tree t) gone tree

less_sorted : (tree : Places) (gone : Option ℕ) → T (is_sorted nat_cmp tree.list) → T (is_sorted nat_cmp (less tree gone).list)
less_sorted tree None t = t
less_sorted tree (Some n) t = is_sorted-where_key nat_cmp (λ k. not (eq_by_cmp nat_cmp n k)) tree.list t

less_gone : (tree : Places) (gone : Option ℕ) (k : ℕ) → gone ≡ Some k → place (less tree gone) k ≡ None
less_gone tree None k e = absurd (none-some k e)
less_gone tree (Some n) k e = place_without tree n k ∙ ap (λ b. cond (not b) (place tree k) None) (ap (λ j. eq_by_cmp nat_cmp j k) (same_Some n k e) ∙ itself k)

less_kept : (tree : Places) (gone : Option ℕ) (k : ℕ) → (gone ≡ Some k → ⊥) → place (less tree gone) k ≡ place tree k
less_kept tree None k other = refl
less_kept tree (Some n) k other = place_without tree n k ∙ ap (λ b. cond (not b) (place tree k) None) (apart n k (λ e. other (ap Some e)))

pub is_gone : (gone : Option ℕ) (k : ℕ) → (gone ≡ Some k) ⊎ (gone ≡ Some k → ⊥)
is_gone None k = inr (none-some k)
is_gone (Some n) k = ⊎_elim (λ e. inl (ap Some e)) (λ not. inr (λ e. not (same_Some n k e))) (cases_eq n k)

pub prefix_itself : (naming : Naming) (p : Names) → is_prefix naming p p ≡ true
prefix_itself naming p = (split_prefix naming p p [] (sym (append-nil (seen_path naming p)))).0

prefix_longer : (naming : Naming) (p q : Names) (x : Name) → is_prefix naming p q ≡ true → is_prefix naming p (q ++ x ∷ []) ≡ true
prefix_longer naming p q x t = (split_prefix naming p (q ++ x ∷ []) (seen_path naming (drop (length p) q) ++ seen naming x ∷ [])
    (map-append (seen naming) q (x ∷ []) ∙ ap (λ (k : Keys). k ++ seen naming x ∷ []) (prefix_split naming p q t) ∙ append_assoc (seen_path naming p) (seen_path naming (drop (length p) q)) (seen naming x ∷ []))).0

-- ---- what callers see
module _ (naming : Naming) (old new : Slab Node) (s : IsSoundTree naming old) (t : IsSoundTree naming new) (m : ℕ) (live : IsSome (kind_of old m)) (to : Names) (b : ℕ) (y : Name) (l : Locates naming old to b y) (gone : Option ℕ)
    (r : Relinks old new m b y gone) (bare : (k : ℕ) (x : Key) → gone ≡ Some k → child_of old k x ≡ None) (not_folder : gone ≡ Some b → ⊥) (outside : Starts (path_of (up_of naming old) m) (seen_path naming l.front) → ⊥) where
  own : Names
  own = path_of (link_of old) m

  abbrev IsOutside : ℕ → Type 0
  IsOutside k = IsSome (kind_of old k) × (gone ≡ Some k → ⊥) × (is_prefix naming (path_of (link_of old) m) (path_of (link_of old) k) ≡ true → ⊥)

  ways_stay : (k : ℕ) → IsOutside k → path_of (link_of new) k ≡ path_of (link_of old) k
  ways_stay k o = same_way IsOutside (link_of old) (link_of new)
      (λ j a x p link. (
        live_above naming old s j a x link,
        λ g. none-some j (sym (bare a (seen naming x) g) ∙ s.tree.back j a (seen naming x) (up_of-at naming old j a x link)),
        λ pre. p.2 (ap (is_prefix naming (path_of (link_of old) m)) (way_step naming old s j a x link) ∙ prefix_longer naming (path_of (link_of old) m) (path_of (link_of old) a) x pre),
      ))
      (λ j p. r.links j (λ e. p.2 (ap (λ i. is_prefix naming (path_of (link_of old) m) (path_of (link_of old) i)) e ∙ prefix_itself naming (path_of (link_of old) m))) p.1) 64 k [] o

  -- each way on from the node is as it was
  ways_on : (q p : Keys) (j k : ℕ) → down (child_of old) 0 (path_of (up_of naming old) m ++ p) ≡ Some j → down (child_of old) j q ≡ Some k → (gone ≡ Some k → ⊥)
      → (d : Names) × (path_of (link_of old) k ≡ path_of (link_of old) j ++ d) × (path_of (link_of new) k ≡ path_of (link_of new) j ++ d)
  ways_on [] p j k at is stays =
      let e : j ≡ k = same_Some j k is in
      ([], ap (path_of (link_of old)) (sym e) ∙ sym (append-nil (path_of (link_of old) j)), ap (path_of (link_of new)) (sym e) ∙ sym (append-nil (path_of (link_of new) j)))
  ways_on (x ∷ q) p j k at is stays = by (λ i. ways_on q (p ++ x ∷ []) i k) (child_of old j x) refl
    where
      keys : Keys
      keys = path_of (up_of naming old) m

      not_gone : (i : ℕ) (w : Keys) → down (child_of old) i w ≡ Some k → gone ≡ Some i → ⊥
      not_gone i [] f g = stays (g ∙ f)
      not_gone i (z ∷ w) f g = none-some k (sym (ap (λ o. onward o (λ h. down (child_of old) h w)) (bare i z g)) ∙ f)

      by : ((i : ℕ) → down (child_of old) 0 (path_of (up_of naming old) m ++ (p ++ x ∷ [])) ≡ Some i → down (child_of old) i q ≡ Some k → (gone ≡ Some k → ⊥)
          → (d : Names) × (path_of (link_of old) k ≡ path_of (link_of old) i ++ d) × (path_of (link_of new) k ≡ path_of (link_of new) i ++ d))
          → (o : Option ℕ) → child_of old j x ≡ o → (d : Names) × (path_of (link_of old) k ≡ path_of (link_of old) j ++ d) × (path_of (link_of new) k ≡ path_of (link_of new) j ++ d)
      by later None f = absurd (none-some k (sym (ap (λ o. onward o (λ h. down (child_of old) h q)) f) ∙ is))
      by later (Some i) f =
          let on : down (child_of old) i q ≡ Some k = sym (ap (λ o. onward o (λ h. down (child_of old) h q)) f) ∙ is in
          let full : down (child_of old) 0 ((keys ++ p) ++ x ∷ []) ≡ Some i = down_on (child_of old) 0 j (keys ++ p) (x ∷ []) at ∙ ap (λ o. onward o (λ h. Some h)) f in
          let way : down (child_of old) 0 (keys ++ (p ++ x ∷ [])) ≡ Some i = ap (down (child_of old) 0) (sym (append_assoc keys p (x ∷ []))) ∙ full in
          let other : i ≡ m → ⊥ = λ e.
          let same : keys ++ (p ++ x ∷ []) ≡ keys = one_path (child_of old) (up_of naming old) s.tree.agrees (keys ++ (p ++ x ∷ [])) keys m (way ∙ ap Some e) (there naming old s m live) in
          absurd (omega (arith, ap (λ (k : Keys). length k) same, length-append keys (p ++ x ∷ []), length-append p (x ∷ []))) in
          let n = linked naming old s i j x (s.tree.agrees.links j x i f) in
          let link : link_of new i ≡ Some (j, n.0) = r.links i other (not_gone i q on) ∙ n.1 in
          let d = later i way on stays in (
            n.0 ∷ d.0,
            d.1 ∙ ap (λ (k : Names). k ++ d.0) (way_step naming old s i j n.0 n.1) ∙ append_assoc (path_of (link_of old) j) (n.0 ∷ []) d.0,
            d.2 ∙ ap (λ (k : Names). k ++ d.0) (way_step naming new t i j n.0 link) ∙ append_assoc (path_of (link_of new) j) (n.0 ∷ []) d.0,
          )

  own_made : path_of (link_of new) m ≡ asked_path (places_of naming old) to
  own_made =
      let folder_live : IsSome (kind_of old b) = ap is_some l.is_folder in
      let far : is_prefix naming (path_of (link_of old) m) (path_of (link_of old) b) ≡ true → ⊥ = λ pre.
      let rest : Keys = seen_path naming (drop (length (path_of (link_of old) m)) (path_of (link_of old) b)) in
      let front : seen_path naming l.front ≡ path_of (up_of naming old) b = one_path (child_of old) (up_of naming old) s.tree.agrees (seen_path naming l.front) (path_of (up_of naming old) b) b l.at (s.tree.rooted b folder_live) in
      outside (rest, front ∙ sym (keys_of_way naming old b) ∙ prefix_split naming (path_of (link_of old) m) (path_of (link_of old) b) pre ∙ ap (λ (k : Keys). k ++ rest) (own_keys naming old s m live)) in
      way_step naming new t m b y r.link ∙ ap (λ (p : Names). p ++ y ∷ []) (ways_stay b (folder_live, not_folder, far)) ∙ sym (asked_is naming old s to b y l)

  way_moved : (k : ℕ) → IsSome (kind_of old k) → (gone ≡ Some k → ⊥) → path_of (link_of new) k ≡ moved_path naming (path_of (link_of old) m) (asked_path (places_of naming old) to) (path_of (link_of old) k)
  way_moved k alive stays = by (is_prefix naming (path_of (link_of old) m) (path_of (link_of old) k)) refl
    where
      from : Names
      from = path_of (link_of old) m

      path : Names
      path = path_of (link_of old) k

      asked : Names
      asked = asked_path (places_of naming old) to

      by : (v : Bool) → is_prefix naming (path_of (link_of old) m) (path_of (link_of old) k) ≡ v → path_of (link_of new) k ≡ moved_path naming (path_of (link_of old) m) (asked_path (places_of naming old) to) (path_of (link_of old) k)
      by false e = ways_stay k (alive, stays, λ f. two (sym e ∙ f)) ∙ sym (ap (λ v. cond v (asked ++ drop (length from) path) path) e)
        where
          two : false ≡ true → ⊥
          two f = absurd (cc)
      by true e =
          let keys : Keys = path_of (up_of naming old) m in
          let rest : Keys = seen_path naming (drop (length from) path) in
          let way : path_of (up_of naming old) k ≡ keys ++ rest = sym (keys_of_way naming old k) ∙ prefix_split naming from path e ∙ ap (λ (p : Keys). p ++ rest) (own_keys naming old s m live) in
          let on : down (child_of old) m rest ≡ Some k = sym (down_on (child_of old) 0 m keys rest (there naming old s m live)) ∙ ap (down (child_of old) 0) (sym way) ∙ s.tree.rooted k alive in
          let d = ways_on rest [] m k (ap (down (child_of old) 0) (append-nil keys) ∙ there naming old s m live) on stays in
          let left : drop (length from) path ≡ d.0 = ap (drop (length from)) d.1 ∙ drop-append_seam from d.0 in
          d.2 ∙ ap (λ (p : Names). p ++ d.0) own_made ∙ ap (λ (p : Names). asked ++ p) (sym left) ∙ sym (ap (λ v. cond v (asked ++ drop (length from) path) path) e)

  abbrev Carried : Place → Place
  Carried p = record { path = moved_path naming (path_of (link_of old) m) (asked_path (places_of naming old) to) p.path; bytes = p.bytes }

  place_moved : (k : ℕ) → place (places_of naming new) k ≡ option_map Carried (place (less (places_of naming old) gone) k)
  place_moved k = ⊎_elim
      (λ g. place_seen naming new k ∙ ap (option_map (placed (link_of new) k)) (r.dead k g) ∙ sym (ap (option_map Carried) (less_gone (places_of naming old) gone k g)))
      (λ stays. place_seen naming new k ∙ ap (option_map (placed (link_of new) k)) (r.files k stays) ∙ by stays (file_of old k) refl ∙ sym (ap (option_map Carried) (less_kept (places_of naming old) gone k stays ∙ place_seen naming old k)))
      (is_gone gone k)
    where
      by : (gone ≡ Some k → ⊥) → (o : Option (Option (List ℕ))) → file_of old k ≡ o → option_map (placed (link_of new) k) (file_of old k) ≡ option_map Carried (option_map (placed (link_of old) k) (file_of old k))
      by stays None e = ap (option_map (placed (link_of new) k)) e ∙ sym (ap (λ o. option_map Carried (option_map (placed (link_of old) k) o)) e)
      by stays (Some v) e = ap (option_map (placed (link_of new) k)) e ∙ ap (λ (p : Names). Some (record { path = p; bytes = v })) (way_moved k (live_file old k (ap is_some e)) stays) ∙ sym (ap (λ o. option_map Carried (option_map (placed (link_of old) k) o)) e)

  moved_as : (from : Names) (tree : Places) → own_path (places_of naming old) m ≡ from → cleared (places_of naming old) m to ≡ tree
      → moved (places_of naming old) m to ≡ record (places_of naming old) { list = map (λ (e : ℕ × Place). (e.0, record { path = moved_path naming from (asked_path (places_of naming old) to) e.1.path; bytes = e.1.bytes })) tree.list }
  unfolding places_of
  moved_as from tree e f = λ i. record (places_of naming old) { list = map (λ (e' : ℕ × Place). (e'.0, record { path = moved_path naming (e i) (asked_path (places_of naming old) to) e'.1.path; bytes = e'.1.bytes })) (f i).list }

  pub moved_seen : cleared (places_of naming old) m to ≡ less (places_of naming old) gone → places_of naming new ≡ moved (places_of naming old) m to
  moved_seen is =
      let list : List (ℕ × Place) = (less (places_of naming old) gone).list in
      let other : Places = record (places_of naming old) { list = map (λ (e : ℕ × Place). (e.0, Carried e.1)) list } in
      same_places (places_of naming new) other (seen_sorted naming new) (subst T (sym (sorted_mapped Carried list)) (less_sorted (places_of naming old) gone (seen_sorted naming old)))
      (naming_seen naming new ∙ sym (naming_seen naming old)) (λ k. place_moved k ∙ sym (find_mapped Carried k list))
      ∙ sym (moved_as (path_of (link_of old) m) (less (places_of naming old) gone) (ap (λ (o : Option Names). unwrap_or o []) (path_seen naming old m live)) is)

-- ---- a new name for the same key
module _ (naming : Naming) (old new : Slab Node) (s : IsSoundTree naming old) (m : ℕ) (to : Names) (b : ℕ) (y : Name) (l : Locates naming old to b y) (is : down (child_of old) 0 (seen_path naming to) ≡ Some m) (r : Retitles old new m b y) where
  onward_same : (o : Option ℕ) → onward o (λ k. Some k) ≡ o
  onward_same None = refl
  onward_same (Some n) = refl

  own_edge : child_of old b (seen naming y) ≡ Some m
  own_edge = sym (located_node naming old s to b y l) ∙ node_found naming old s to ∙ is

  ups : (k : ℕ) → up_of naming new k ≡ up_of naming old k
  ups k = ⊎_elim
      (λ e. ap (up_of naming new) e ∙ up_of-at naming new m b y r.steps.link ∙ sym (s.tree.agrees.links b (seen naming y) m own_edge) ∙ ap (up_of naming old) (sym e))
      (λ other. up_of-same naming old new k (r.steps.links k other (none-some k))) (cases_eq k m)

  pub sound_retitled : IsSoundTree naming new
  sound_retitled = record {
    tree = sound_same (child_of old) (child_of new) (up_of naming old) (up_of naming new) (kind_of old) (kind_of new) s.tree r.children ups (λ k. kind_of-same old new k (r.steps.files k (none-some k)));
    names = λ n a x link. ⊎_elim
        (λ e. let p : ◌≡◌ {A = ℕ × Key} (b, y) (a, x) = inside (b, y) (a, x) (sym r.steps.link ∙ ap (link_of new) (sym e) ∙ link) in sym (ap (λ q. is_name q.1) p) ∙ l.named)
        (λ other. s.names n a x (sym (r.steps.links n other (none-some n)) ∙ link)) (cases_eq n m);
    small = λ n alive. s.small n (subst (λ (o : Option Bool). IsSome o) (kind_of-same old new n (r.steps.files n (none-some n))) alive);
  }

  pub retitled_seen : IsSome (kind_of old m) → places_of naming new ≡ moved (places_of naming old) m to
  retitled_seen live = moved_seen naming old new s sound_retitled m live to b y l None r.steps (λ k x e. absurd (none-some k e)) (none-some b)
      (λ w. absurd (omega (arith, ap (λ (p : Keys). length p) w.1, length-append (path_of (up_of naming old) m) w.0, ap (λ (p : Keys). length p) keys_are, length-append (seen_path naming l.front) (seen naming y ∷ []))))
      (ap (λ o. option_map_or (λ t. cond (t == m) (places_of naming old) (without (places_of naming old) t)) o (places_of naming old)) (node_found naming old s to ∙ is) ∙ ap (λ v. cond v (places_of naming old) (without (places_of naming old) m)) (same m))
    where
      keys_are : path_of (up_of naming old) m ≡ seen_path naming l.front ++ seen naming y ∷ []
      keys_are = sym (own_keys naming old s m live) ∙ sym (only_way naming old s m live (seen_path naming to) is) ∙ keys_split naming old s to b y l

      same : (n : ℕ) → (n == n) ≡ true
      same n = grind (arith, nat_tests)

-- the own path has a folder above it
pub own_found : (naming : Naming) (nodes : Slab Node) → IsSoundTree naming nodes → (m a : ℕ) (x : Name) (to : Names) → IsSome (kind_of nodes m) → link_of nodes m ≡ Some (a, x) → down (child_of nodes) 0 (seen_path naming to) ≡ Some m → LacksFolder naming nodes to → ⊥
own_found naming nodes s m a x to live link is lacks =
    let above : Names = path_of (link_of nodes) a in
    let keys : seen_path naming to ≡ seen_path naming above ++ seen naming x ∷ [] = only_way naming nodes s m live (seen_path naming to) is ∙ ap (seen_path naming) (way_step naming nodes s m a x link) ∙ map-append (seen naming) above (x ∷ []) in
    let long : length to - 1 ≡ length (seen_path naming above) = omega (arith, length-map to (seen naming), ap (λ (k : Keys). length k) keys, length-append (seen_path naming above) (seen naming x ∷ [])) in
    let parents : seen_path naming (parent to) ≡ seen_path naming above =
    sym (take-map (seen naming) (length to - 1) to) ∙ ap (take (length to - 1)) keys ∙ ap (λ n. take n (seen_path naming above ++ seen naming x ∷ [])) long
    ∙ take-append-le (length (seen_path naming above)) (seen_path naming above) (seen naming x ∷ []) (omega arith) ∙ take_all (length (seen_path naming above)) (seen_path naming above) (omega arith) in
    let alive = live_above naming nodes s m a x link in
    lacks (ap (λ (o : Option ℕ). option_and_then (kind_of nodes) o) (ap (down (child_of nodes) 0) (parents ∙ keys_of_way naming nodes a) ∙ s.tree.rooted a alive) ∙ by (kind_of nodes a) refl alive)
  where
    by : (o : Option Bool) → kind_of nodes a ≡ o → IsSome o → kind_of nodes a ≡ Some true
    by None e some = absurd (not_some {T = Bool} None refl some)
    by (Some true) e some = e
    by (Some false) e some = absurd (none-some m (sym (s.tree.files a (seen naming x) e) ∙ s.tree.back m a (seen naming x) (up_of-at naming nodes m a x link)))
