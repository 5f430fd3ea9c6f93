-- A folder, or a file with its bytes, is added to a drive.
use Rattle.std.proofs.Common.{◌≡◌, ◌∙◌, refl, sym, ap, subst, ℕ, ◌+◌, ◌==◌, ◌⊎◌, inl, inr, Bool, true, false, not, cond, List, [], ◌∷◌, ◌++◌, map, length, drop, Option, Some, None, Ok, Err, nat_eq, zero, suc, if◌then◌else◌, arith}
use Rattle.std.specs.Prelude.{nat_le}
use Rattle.std.specs.List.Sorted.{IsStrictlySortedBy}
use Rattle.std.specs.Option.{option_and_then, option_map, option_map_or, unwrap_or, is_some, IsSome}
use Rattle.std.specs.Ordering.{nat_cmp, is_eq}
use Rattle.std.proofs.lemmas.Bool.Decides.{nat_tests}
use Rattle.std.specs.declared.cmp.Ordering.{Ordering}
use Rattle.std.specs.declared.cmp.Ordering.TheVariants.{Less, Equal, Greater}
use Rattle.std.specs.Map.{keys_of}
use Rattle.std.specs.HashMap.{get}
use Rattle.std.specs.FinMap.{put}
use Rattle.std.specs.FinMap.Entries.{by_order}
use Rattle.std.proofs.lemmas.List.{append-nil, length-map}
use Rattle.rd_drive.proofs.TargetLemmas.{folder_at}
use Rattle.rd_tree.proofs.ViewLemmas.{itself}
use Rattle.rd_dirinfo.specs.Naming.{Name}
use Rattle.rd_dirinfo.specs.Paths.{Names, parent, is_within_limits, is_same_path}
use Rattle.rd_contents.specs.Contents.{written}
use Rattle.rd_tree.specs.declared.refusal.AddNo.{AddNo}
use Rattle.rd_tree.specs.declared.refusal.AddNo.TheVariants as add_no
use Rattle.rd_tree.specs.Places as places
use Rattle.rd_tree.specs.Places.{Place, Places, add_refusal, has_child, new_place, node_at, own_path, place, with_bytes, with_place, without, IsFile, IsLive, IsWhole}
use Rattle.rd_drive.specs.declared.store.Store.{Store}
use Rattle.rd_drive.specs.DriveState as drive
use Rattle.rd_drive.specs.DriveState.{DriveState, Node, holding, is_at_path, opening_attributes, with_new_node, new_node}
use Rattle.rd_drive.specs.Adding.{hold_refusal, HoldsNode}
use Rattle.rd_drive.specs.Made.{made_state, AddsNode, IsAlike}
use Rattle.rd_drive.specs.Store.{drive_of, node_of, node_with, state_of, IsSound}
use Rattle.rd_drive.proofs.AlikeLemmas.{alike_drive, alike_sound}
use Rattle.rd_drive.proofs.AskedLemmas.{asked_alone, asked_fits, asked_seen, childless, node_seen}
use Rattle.rd_drive.proofs.GrownLemmas.{back, grown_drive, grown_here, grown_sound, live_apart}
use Rattle.rd_drive.proofs.HandlesLemmas.{all_kept}
use Rattle.rd_drive.proofs.OrderLemmas.{order_length}
use Rattle.rd_drive.proofs.StoreLemmas.{all_listed, first_listed, node_of_number}

-- ---- what is put again replaces what was put
equal_itself : (n : ℕ) → nat_cmp n n ≡ Equal
equal_itself n = equal (nat_cmp n n) (itself n)
  where
    equal : (r : Ordering) → is_eq r ≡ true → r ≡ Equal
    equal Less e = absurd (cc)
    equal Equal e = refl
    equal Greater e = absurd (cc)

put_twice : {X : Type 0} (n : ℕ) (x y : X) (l : List (ℕ × X)) → put nat_cmp n x (put nat_cmp n y l) ≡ put nat_cmp n x l
put_twice n x y [] = ap (λ r. by_order r ((n, x) ∷ (n, y) ∷ []) ((n, x) ∷ []) ((n, y) ∷ put nat_cmp n x [])) (equal_itself n)
put_twice n x y (d ∷ l) = by (put_twice n x y l) (nat_cmp n d.0) refl
  where
    by : put nat_cmp n x (put nat_cmp n y l) ≡ put nat_cmp n x l → (r : Ordering) → nat_cmp n d.0 ≡ r
        → put nat_cmp n x (by_order r ((n, y) ∷ d ∷ l) ((d.0, y) ∷ l) (d ∷ put nat_cmp n y l)) ≡ by_order r ((n, x) ∷ d ∷ l) ((d.0, x) ∷ l) (d ∷ put nat_cmp n x l)
    by later Less e = ap (λ r. by_order r ((n, x) ∷ (n, y) ∷ d ∷ l) ((n, x) ∷ d ∷ l) ((n, y) ∷ put nat_cmp n x (d ∷ l))) (equal_itself n)
    by later Equal e = ap (λ r. by_order r ((n, x) ∷ (d.0, y) ∷ l) ((d.0, x) ∷ l) ((d.0, y) ∷ put nat_cmp n x l)) e
    by later Greater e =
        ap (λ r. by_order r ((n, x) ∷ d ∷ put nat_cmp n y l) ((d.0, x) ∷ put nat_cmp n y l) (d ∷ put nat_cmp n x (put nat_cmp n y l))) e ∙ ap (◌∷◌ d) later

-- bytes that are written to an empty file are all that it has
written_alone : (bytes : List ℕ) → written [] 0 bytes ≡ bytes
written_alone [] = refl
written_alone (b ∷ bs) = ap (λ (l : List ℕ). (b ∷ bs) ++ l) (none_left (0 + length (b ∷ bs))) ∙ append-nil (b ∷ bs)
  where
    none_left : (n : ℕ) → drop {A = ℕ} n [] ≡ []
    none_left zero = refl
    none_left (suc n) = refl

-- ---- what is refused
abbrev why : Bool → Bool → Bool → Option AddNo
why a b c = cond a (Some add_no.PathNotFound) (cond b (Some add_no.Collision) (cond c (Some add_no.Full) None))

module _ (s : Store) (sound : IsSound s) where
  is_there : (path : Names) → is_some (drive.node_of_path (drive_of s) path) ≡ is_some (node_at s.tree path)
  is_there path = ap is_some (node_seen s sound path) ∙ by (node_at s.tree path) refl
    where
      live : (n : ℕ) (o : Option Place) → IsSome o → is_some (option_map (node_with (state_of s.states n)) o) ≡ true
      live n None l = absurd (cc)
      live n (Some x) l = refl

      by : (o : Option ℕ) → node_at s.tree path ≡ o → is_some (option_and_then (node_of_number s.tree sound.whole s.states) o) ≡ is_some o
      by None e = refl
      by (Some n) e = live n (place s.tree n) (first_listed s.tree sound.whole path n s.tree.list (all_listed s.tree sound.whole) e).0

  as_many : length (drive_of s).nodes ≡ length s.tree.list
  as_many = order_length s.tree.naming (map (node_of s.states) s.tree.list) ∙ length-map s.tree.list (node_of s.states)

  pub refusal_seen : (path : Names) → hold_refusal (drive_of s) path ≡ add_refusal s.tree path
  refusal_seen [] = refl
  refusal_seen (y ∷ ys) = λ i. why (not (folder_at s sound (parent (y ∷ ys)) i)) (is_there (y ∷ ys) i) (nat_le 65536 (as_many i))

  -- a path at which something may be added isn't the root's, and nothing is there
  some_name : (path : Names) → add_refusal s.tree path ≡ None → (y : Name) × (ys : Names) × (path ≡ y ∷ ys) × (node_at s.tree path ≡ None)
  some_name [] e = absurd (cc)
  some_name (y ∷ ys) e = (y, ys, refl, none (not (places.is_folder_at s.tree (parent (y ∷ ys)))) (node_at s.tree (y ∷ ys)) (nat_le 65536 (length s.tree.list)) e)
    where
      none : (a : Bool) (o : Option ℕ) (c : Bool) → why a (is_some o) c ≡ None → o ≡ None
      none true o c e = absurd (cc)
      none false None c e = refl
      none false (Some n) c e = absurd (cc)

  -- ---- what is added
  module _ (rising : IsStrictlySortedBy nat_cmp (keys_of s.handles.entries)) (path : Names) (fits : is_within_limits path ≡ true) (mid : Store) (folds : Bool) (attributes n : ℕ) (other : 0 ≡ n → ⊥)
      (added : AddsNode s mid path folds attributes 0 n) where
    name : (y : Name) × (ys : Names) × (path ≡ y ∷ ys) × (node_at s.tree path ≡ None)
    name = some_name path added.adds.allowed

    abbrev place_of : Option (List ℕ) → Place
    place_of bytes = record { path = places.asked_path s.tree path; bytes = bytes }

    alone : (bytes : Option (List ℕ)) (k : ℕ) → IsLive s.tree k → is_same_path s.tree.naming (places.asked_path s.tree path) (own_path s.tree k) ≡ false
    alone bytes k live =
        ap (λ (q : Names). is_same_path s.tree.naming (places.asked_path s.tree q) (own_path s.tree k)) name.2
        ∙ asked_alone s.tree sound.whole name.0 name.1 (ap (node_at s.tree) (sym name.2) ∙ name.3) k live

    within : is_within_limits (places.asked_path s.tree path) ≡ true
    within = ap (λ (q : Names). is_within_limits (places.asked_path s.tree q)) name.2 ∙ asked_fits s.tree sound.whole name.0 name.1 (ap is_within_limits (sym name.2) ∙ fits)

    abbrev base : Option (List ℕ) → Store
    base bytes = record s { tree = with_place s.tree n (place_of bytes); states = mid.states }

    held_sound : (bytes : Option (List ℕ)) → IsWhole (with_place s.tree n (place_of bytes)) → IsSound (base bytes)
    held_sound bytes = grown_sound s sound (all_kept s rising) n added.adds.fresh other (place_of bytes) within (alone bytes) mid.states (made_state attributes 0) refl added.kept

    pub held_drive : (bytes : Option (List ℕ)) → attributes ≡ opening_attributes bytes → holding (drive_of s) (path, bytes) ≡ drive_of (base bytes)
    held_drive bytes are =
        (λ i. with_new_node (drive_of s) (new_node (asked_seen s sound path i) bytes (sym are i) 0))
        ∙ sym (grown_drive s sound (all_kept s rising) n added.adds.fresh other (place_of bytes) within (alone bytes) mid.states (made_state attributes 0) refl added.kept)

    abbrev begun : Option (List ℕ)
    begun = if folds then None else Some []

    mid_is : mid ≡ base begun
    mid_is = added.others ∙ (λ i. record s { tree = added.adds.made i; states = mid.states })

    pub allowed : hold_refusal (drive_of s) path ≡ None
    allowed = refusal_seen path ∙ added.adds.allowed

    -- a folder
    pub holds_folder : folds ≡ true → attributes ≡ 0 → IsSound mid × HoldsNode (drive_of s) (path, None) (Ok tt) (drive_of mid)
    holds_folder is plain =
        let now : mid ≡ base None = mid_is ∙ ap (λ (b : Bool). base (if b then None else Some [])) is in
        subst (λ (t : Store). IsSound t × HoldsNode (drive_of s) (path, None) (Ok tt) (drive_of t)) (sym now) (held_sound None (subst (λ (t : Store). IsWhole t.tree) now added.is_whole), (allowed, held_drive None plain))

    -- ---- a file
    module _ (is : folds ≡ false) (file : attributes ≡ 0x20) (bytes : List ℕ) where
      made_empty : mid ≡ base (Some [])
      made_empty = mid_is ∙ ap (λ (b : Bool). base (if b then None else Some [])) is

      there : place mid.tree n ≡ Some (place_of (Some []))
      there = ap (λ (t : Store). place t.tree n) made_empty ∙ grown_here s.tree sound.whole n added.adds.fresh (place_of (Some []))

      pub file_there : IsFile mid.tree n
      file_there = ap (λ (o : Option Place). is_some (option_and_then (λ (p : Place). p.bytes) o)) there

      tree_written : with_bytes mid.tree n (λ file. written file 0 bytes) ≡ with_place s.tree n (place_of (Some bytes))
      tree_written =
          ap (λ (o : Option Place). option_map_or (λ (p : Place). with_place mid.tree n (record { path = p.path; bytes = option_map (λ file. written file 0 bytes) p.bytes })) o mid.tree) there
          ∙ (λ i. with_place (ap (λ (t : Store). t.tree) made_empty i) n (place_of (Some (written_alone bytes i))))
          ∙ (λ i. record s.tree { list = put_twice n (place_of (Some bytes)) (place_of (Some [])) s.tree.list i })

      pub holds_file : (new : Store) → new ≡ record mid { tree = new.tree } → new.tree ≡ with_bytes mid.tree n (λ file. written file 0 bytes) → IsWhole new.tree → IsSound new × HoldsNode (drive_of s) (path, Some bytes) (Ok tt) (drive_of new)
      holds_file new rest tree after =
          let now : new ≡ base (Some bytes) = rest ∙ (λ i. record (made_empty i) { tree = (tree ∙ tree_written) i }) in
          subst (λ (t : Store). IsSound t × HoldsNode (drive_of s) (path, Some bytes) (Ok tt) (drive_of t)) (sym now) (held_sound (Some bytes) (subst (λ (t : Store). IsWhole t.tree) now after), (allowed, held_drive (Some bytes) file))

      -- ---- taken back
      pub held_live : IsLive mid.tree n
      held_live = ap is_some there

      pub held_empty : has_child mid.tree n ≡ false
      held_empty =
          let tree_is : mid.tree ≡ with_place s.tree n (place_of (Some [])) = ap (λ (t : Store). t.tree) made_empty in
          ap (λ (t : Places). has_child t n) tree_is ∙ childless s.tree sound.whole n added.adds.fresh (place_of (Some [])) (alone (Some [])) (subst IsWhole tree_is added.is_whole)

      pub held_back : (t : Store) → t ≡ record mid { tree = t.tree; states = t.states } → t.tree ≡ without mid.tree n → ((k : ℕ) → get nat_eq t.states k ≡ cond (nat_eq n k) None (get nat_eq mid.states k)) → IsSound t × (drive_of t ≡ drive_of s)
      held_back t rest tree states = (alike_sound s sound t alike, alike_drive s sound t alike)
        where
          differ : (a b : ℕ) → (a == b) ≡ false → nat_eq b a ≡ false
          differ a b e = grind (arith, nat_tests)

          tree_is : mid.tree ≡ with_place s.tree n (place_of (Some []))
          tree_is = ap (λ (u : Store). u.tree) made_empty

          alike : IsAlike s t
          alike = record {
            others = rest ∙ (λ i. record (made_empty i) { tree = t.tree; states = t.states }) ∙ (λ i. record s { tree = t.tree; states = t.states; handles = (sym (ap (λ (u : Store). u.handles) made_empty) ∙ sym (ap (λ (u : Store). u.handles) rest)) i });
            tree = tree ∙ ap (λ (u : Places). without u n) tree_is ∙ back s.tree sound.whole n added.adds.fresh (place_of (Some []));
            states = λ k live.
                let apart = live_apart s.tree sound.whole n added.adds.fresh (place_of (Some [])) k live in
                states k ∙ ap (λ b. cond b None (get nat_eq mid.states k)) (differ k n apart)
                ∙ added.kept k ∙ ap (λ b. cond b (Some (made_state attributes 0)) (get nat_eq s.states k)) (differ k n apart);
            entries = ap (λ (u : Store). u.handles.entries) rest ∙ ap (λ (u : Store). u.handles.entries) made_empty;
          }

  -- ---- refused
  pub holds_refused : (first : Names × Option (List ℕ)) (no_more : AddNo) → add_refusal s.tree first.0 ≡ Some no_more → HoldsNode (drive_of s) first (Err no_more) (drive_of s)
  holds_refused first no_more refused = (inl (sym (ap (λ (o : Option AddNo). unwrap_or o add_no.Memory) (refusal_seen first.0 ∙ refused))), refl)

  pub holds_none : (first : Names × Option (List ℕ)) (mid : Store) → IsAlike s mid → (no_more : AddNo) → (no_more ≡ unwrap_or (add_refusal s.tree first.0) add_no.Memory) ⊎ (no_more ≡ add_no.Memory)
      → IsSound mid × HoldsNode (drive_of s) first (Err no_more) (drive_of mid)
  holds_none first mid alike no_more refused = (alike_sound s sound mid alike, (by refused, alike_drive s sound mid alike))
    where
      by : (no_more ≡ unwrap_or (add_refusal s.tree first.0) add_no.Memory) ⊎ (no_more ≡ add_no.Memory) → (no_more ≡ unwrap_or (hold_refusal (drive_of s) first.0) add_no.Memory) ⊎ (no_more ≡ add_no.Memory)
      by (inl e) = inl (e ∙ ap (λ (o : Option AddNo). unwrap_or o add_no.Memory) (sym (refusal_seen first.0)))
      by (inr e) = inr e
