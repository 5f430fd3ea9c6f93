-- What a Create leaves and returns: a node that is there with a handle more, a file that is replaced, and a node that is made or taken back.
use Rattle.std.proofs.Common.{◌≡◌, ◌∙◌, refl, sym, ap, subst, ℕ, ◌+◌, ◌<◌, ◌==◌, Bool, true, false, not, ◌&&◌, cond, List, [], ◌∷◌, length, Option, Some, None, Ok, arith}
use Rattle.std.specs.Prelude.{nat_eq}
use Rattle.std.specs.List.Sorted.{IsStrictlySortedBy}
use Rattle.std.specs.Option.{option_map_or, option_and_then, is_some}
use Rattle.std.specs.Ordering.{nat_cmp}
use Rattle.std.specs.HashMap.{get}
use Rattle.std.specs.Map.{keys_of, lookup, remove_entry}
use Rattle.std.specs.BTreeMap.{insert_entry, is_at}
use Rattle.std.proofs.lemmas.Bool.Decides.{nat_tests}
use Rattle.rd_base.specs.declared.status.Status.{Status}
use Rattle.rd_irp.specs.declared.completion.Body.TheVariants.{Created}
use Rattle.rd_contents.specs.Contents.{resized}
use Rattle.rd_tree.specs.declared.node.NodeId.{NodeId}
use Rattle.rd_tree.specs.Places.{Place, Places, own_path, bytes_at, with_bytes, IsFile, IsLive, IsWhole}
use Rattle.rd_drive.specs.declared.access.Use.{Use}
use Rattle.rd_drive.specs.declared.asked.Asked.{Asked}
use Rattle.rd_drive.specs.declared.node.NodeState.{NodeState}
use Rattle.rd_drive.specs.declared.store.Store.{Store}
use Rattle.rd_drive.specs.declared.store.Done.{Done}
use Rattle.rd_drive.specs.declared.store.Done.TheVariants as done
use Rattle.rd_drive.specs.declared.news.Named.TheVariants as named
use Rattle.rd_drive.specs.Changes.{modified}
use Rattle.rd_drive.specs.Create.{deletes_on_close, found_information, is_full, new_handle, open_node, opened, replaced, replaces}
use Rattle.rd_drive.specs.DriveState.{with_new_handle, with_node}
use Rattle.rd_drive.specs.Kept.{own_node, with_bytes_at, IsKept}
use Rattle.rd_drive.specs.Made.{with_asked_use, first_no, made_handle, open_checks, renewed, replace, AddsHandle, IsAlike}
use Rattle.rd_drive.specs.Outcome.{Outcome, changed, no_news, one_of, refused, succeeded}
use Rattle.rd_drive.specs.Uses.{uses_of}
use Rattle.rd_drive.specs.Store.{States, Handles, about, nothing, state_of, drive_of, kept_handle, IsSound, Serves}
use Rattle.rd_drive.proofs.CheckLemmas.{one_false, one_true}
use Rattle.rd_drive.proofs.CreateLemmas.{all_pass, comes_open}
use Rattle.rd_drive.proofs.HandlesLemmas.{inserted_removed}
use Rattle.rd_drive.proofs.KeptLemmas.{changed_store, drive_changed, lived, own_paths, sound_changed, state_here, written_tree, filed, file_lives}
use Rattle.rd_drive.proofs.NodeLemmas.{place_put}
use Rattle.rd_drive.proofs.OpenedLemmas.{absent, has_room, opened_drive, opened_sound, used}
use Rattle.rd_drive.proofs.ServesLemmas.{serves_change, serves_quiet}

-- ---- a handle on a node of a sound drive

module _ (base : Store) (sound : IsSound base) (node : NodeId) (live : IsLive base.tree node.0) (asked : Asked) (root : node.0 ≡ 0 → deletes_on_close asked ≡ false) (free : is_full (drive_of base) ≡ false)
    (handles : Handles) (entries : handles.entries ≡ insert_entry nat_cmp base.handles.entries base.next (made_handle asked node))
    (looked : (k : ℕ) → lookup (is_at (nat_cmp k)) handles.entries ≡ cond (is_at (nat_cmp base.next) k) (Some (made_handle asked node)) (kept_handle base k)) (states : States) (now : IsKept base.states states node.0 (with_asked_use (state_of base.states node.0) asked))
    (old t : Store) (is : t ≡ record base { handles = handles; states = states; next = base.next + 1 }) (comes : Outcome) (file information : ℕ) (id : file ≡ base.next) (returns : Done) where
  sound' : IsSound (record base { handles = handles; states = states; next = base.next + 1 })
  sound' = opened_sound base sound node live asked root (has_room base free).0 (has_room base free).1 handles entries looked states now

  drive' : drive_of (record base { handles = handles; states = states; next = base.next + 1 }) ≡ with_new_handle (drive_of base) (new_handle asked (own_path base.tree node.0))
  drive' = opened_drive base sound node live asked root (has_room base free).0 (has_room base free).1 handles entries looked states now

  -- nothing is told
  pub serves_opened : returns ≡ done.Replied (Created file information) nothing → comes ≡ opened (drive_of base) asked (own_path base.tree node.0) information [] → Serves old t comes (Ok returns)
  serves_opened quiet e =
      subst (λ (d : Done). Serves old t comes (Ok d)) (sym quiet)
      (subst (λ (u : Store). Serves old u comes (Ok (done.Replied (Created file information) nothing))) (sym is)
      (serves_quiet old (record base { handles = handles; states = states; next = base.next + 1 }) comes (Created file information) nothing sound' refl
      (e ∙ (λ i. succeeded (sym drive' i) (Created (sym id i) information) no_news))))

  -- a change of the node is told
  pub serves_opened_change : (action bits : ℕ) → returns ≡ done.Replied (Created file information) (about (record { action = action; named = named.Node node; bits = bits }))
      → comes ≡ opened (drive_of base) asked (own_path base.tree node.0) information (record { action = action; path = own_path base.tree node.0; bits = bits } ∷ []) → Serves old t comes (Ok returns)
  serves_opened_change action bits told e =
      subst (λ (d : Done). Serves old t comes (Ok d)) (sym told)
      (subst (λ (u : Store). Serves old u comes (Ok (done.Replied (Created file information) (about (record { action = action; named = named.Node node; bits = bits }))))) (sym is)
      (serves_change old (record base { handles = handles; states = states; next = base.next + 1 }) comes (Created file information) _ sound' (record { action = action; named = named.Node node; bits = bits }) refl live
      (e ∙ (λ i. succeeded (sym drive' i) (Created (sym id i) information) (changed (record { action = action; path = own_path base.tree node.0; bits = bits } ∷ []))))))

-- what a node is put to, where a handle was added that isn't counted yet
pub used_still : (s : Store) → IsSound s → is_full (drive_of s) ≡ false → (n : ℕ) → IsLive s.tree n → (states : States) → (state_of states n).uses ≡ (state_of s.states n).uses
    → (uses : List Use) × ((state_of states n).uses ≡ uses_of uses) × (length uses < 4096)
used_still s sound free n live states same = let is = used s sound n live (has_room s free).0 in (is.0, same ∙ is.1, is.2)

-- ---- what is there

module _ (s : Store) (sound : IsSound s) (rising : IsStrictlySortedBy nat_cmp (keys_of s.handles.entries)) (n : ℕ) (live : IsLive s.tree n) (asked : Asked) (moment : ℕ)
    (folder : Bool) (folds : folder ≡ not (is_some (bytes_at s.tree n))) (state : NodeState) (kept : state ≡ state_of s.states n) where
  abbrev comes : Outcome
  comes = open_node (drive_of s) asked moment (own_node s n)

  abbrev after : Outcome
  after = one_of (replaces asked) (replace (drive_of s) asked moment (own_node s n)) (opened (drive_of s) asked (own_path s.tree n) (found_information asked) [])

  checks_are : first_no (open_checks asked folder (n == 0) state) ≡ first_no (open_checks asked folder (n == 0) (state_of s.states n))
  checks_are = ap (λ (st : NodeState). first_no (open_checks asked folder (n == 0) st)) kept

  comes_is : comes ≡ option_map_or (refused (drive_of s)) (first_no (open_checks asked folder (n == 0) (state_of s.states n))) after
  comes_is = comes_open s sound n live rising asked moment folder folds

  pub open_refused : (status : Status) → Some status ≡ first_no (open_checks asked folder (n == 0) state) → comes ≡ refused (drive_of s) status
  open_refused status e = comes_is ∙ ap (λ (o : Option Status). option_map_or (refused (drive_of s)) o after) (sym (e ∙ checks_are))

  module _ (passed : None ≡ first_no (open_checks asked folder (n == 0) state)) where
    open_goes : comes ≡ after
    open_goes = comes_is ∙ ap (λ (o : Option Status). option_map_or (refused (drive_of s)) o after) (sym (passed ∙ checks_are))

    pub open_replaced : replaces asked ≡ true → comes ≡ replace (drive_of s) asked moment (own_node s n)
    open_replaced e = open_goes ∙ one_true _ _ _ e

    pub open_found : replaces asked ≡ false → comes ≡ opened (drive_of s) asked (own_path s.tree n) (found_information asked) []
    open_found e = open_goes ∙ one_false _ _ _ e

    -- the root isn't deleted
    pub open_root : n ≡ 0 → deletes_on_close asked ≡ false
    open_root z = by (deletes_on_close asked) (n == 0) (all_pass (open_checks asked folder (n == 0) state) (sym passed)).1.1.1.1.0 (same n z)
      where
        same : (m : ℕ) → m ≡ 0 → (m == 0) ≡ true
        same m e = grind (arith, nat_tests)

        by : (a b : Bool) → (a && b) ≡ false → b ≡ true → a ≡ false
        by true true e t = absurd (cc)
        by true false e t = absurd (cc)
        by false b e t = refl

-- ---- a file that is replaced

module _ (s : Store) (sound : IsSound s) (node : NodeId) (file_there : IsFile s.tree node.0) where
  abbrev n : ℕ
  n = node.0

  file_bytes : (b : List ℕ) × (bytes_at s.tree n ≡ Some b)
  file_bytes = filed s.tree n file_there

  file_live : IsLive s.tree n
  file_live = file_lives s.tree n file_there

  -- it isn't the root
  pub file_below : (b : Bool) → n ≡ 0 → b ≡ false
  file_below b z = absurd (let both : None ≡ Some file_bytes.0 = sym (ap (λ (m : ℕ). bytes_at s.tree m) z ∙ ap (option_and_then (λ (p : Place). p.bytes)) sound.whole.root) ∙ file_bytes.1 in cc)

  module _ (asked : Asked) (moment : ℕ) (free : is_full (drive_of s) ≡ false) (add : Store) (added : AddsHandle s add asked node) where
    -- no memory is found for the file without its bytes: the handle goes again
    pub replace_undone : (t : Store) (file : ℕ) → file ≡ s.next → t.handles.entries ≡ remove_entry (is_at (nat_cmp file)) add.handles.entries → (tree : Places) → tree ≡ add.tree → t ≡ record add { tree = tree; handles = t.handles } → IsAlike s t
    replace_undone t file id out tree same is = record {
      others = is' ∙ (λ i. record s { tree = (sym (ap (λ (u : Store). u.tree) is) i); states = (sym (ap (λ (u : Store). u.states) is') i); handles = t.handles });
      tree = ap (λ (u : Store). u.tree) is ∙ same ∙ ap (λ (u : Store). u.tree) added.others;
      states = λ k lives. ap (λ (u : Store). get nat_eq u.states k) is';
      entries = out ∙ (λ i. remove_entry (is_at (nat_cmp (id i))) (added.entries i)) ∙ inserted_removed s.next (made_handle asked node) s.handles.entries (absent s sound);
    }
      where
        is' : t ≡ record s { tree = tree; handles = t.handles }
        is' = is ∙ (λ i. record (added.others i) { tree = tree; handles = t.handles })

    module _ (tree : Places) (cut : tree ≡ with_bytes add.tree n (λ (bytes : List ℕ). resized bytes 0)) (after : IsWhole tree) (written : States) (new : IsKept add.states written n (renewed (state_of add.states n) asked moment)) where
      abbrev pub base : Store
      base = changed_store s n (Some []) written

      state : NodeState
      state = renewed (state_of s.states n) asked moment

      renews : IsKept s.states written n (renewed (state_of s.states n) asked moment)
      renews = subst (λ (u : Store). IsKept u.states written n (renewed (state_of u.states n) asked moment)) added.others new

      tree_is : tree ≡ with_bytes_at s.tree n (Some [])
      tree_is =
          written_tree s.tree sound.whole n file_live file_bytes.0 file_bytes.1 (λ (bytes : List ℕ). resized bytes 0) tree
          (cut ∙ ap (λ (u : Store). with_bytes u.tree n (λ (bytes : List ℕ). resized bytes 0)) added.others)

      base_sound : IsSound base
      base_sound = sound_changed None s sound n file_live (Some []) written (renewed (state_of s.states n) asked moment) renews (subst IsWhole tree_is after) refl (λ z. file_below (state_of s.states n).pending z)

      pub used_renewed : (uses : List Use) × ((state_of written n).uses ≡ uses_of uses) × (length uses < 4096)
      used_renewed = used_still s sound free n file_live written (ap (λ (st : NodeState). st.uses) (state_here s.states written n (renewed (state_of s.states n) asked moment) renews))

      base_drive : drive_of base ≡ with_node (drive_of s) (replaced asked moment (own_node s n))
      base_drive = drive_changed None s sound n file_live (Some []) written (renewed (state_of s.states n) asked moment) renews

      base_path : own_path base.tree n ≡ own_path s.tree n
      base_path = own_paths None s sound n file_live (Some []) written (renewed (state_of s.states n) asked moment) renews n

      base_live : IsLive base.tree n
      base_live = ap is_some (place_put s.tree sound.whole n (lived s.tree n file_live).0 (lived s.tree n file_live).1 (Some []))

      base_free : is_full (drive_of base) ≡ false
      base_free = ap is_full base_drive ∙ free

      pub serves_replaced : (mid t : Store) (states : States) → mid ≡ record add { tree = tree; states = written } → t ≡ record mid { states = states; next = mid.next + 1 } → IsKept written states n (with_asked_use (state_of written n) asked)
          → (file information : ℕ) → file ≡ s.next → information ≡ found_information asked
          → (returns : Done) → returns ≡ done.Replied (Created file information) (about (record { action = 3; named = named.Node node; bits = 0x18 }))
          → Serves s t (replace (drive_of s) asked moment (own_node s n)) (Ok returns)
      serves_replaced mid t states is then now file information id info returns told =
          serves_opened_change base base_sound node base_live asked (λ z. file_below (deletes_on_close asked) z) base_free add.handles added.entries added.looked states now
          s t (then ∙ (λ i. record (is i) { states = states; next = (is i).next + 1 }) ∙ (λ i. record (added.others i) { tree = tree_is i; states = states; next = (added.others i).next + 1 }))
          (replace (drive_of s) asked moment (own_node s n)) file information id returns 3 0x18 told
          (λ i. opened (sym base_drive i) asked (sym base_path i) (sym info i) (modified (sym base_path i) ∷ []))
