-- A Create, check by check: of what is there, and of what isn't.
use Rattle.std.proofs.Common.{◌≡◌, ◌∙◌, refl, sym, ap, subst, ℕ, ◌==◌, Bool, true, false, not, ◌&&◌, ◌||◌, cond, List, [], ◌∷◌, map, length, Option, Some, None, find, arith}
use Rattle.std.specs.Prelude.{nat_le}
use Rattle.std.specs.List.{list_all, AllByRecursion}
use Rattle.std.specs.List.Sorted.{IsStrictlySortedBy}
use Rattle.std.specs.Option.{option_map, option_map_or, option_and_then, unwrap_or}
use Rattle.std.specs.Ordering.{nat_cmp}
use Rattle.std.specs.Map.{keys_of}
use Rattle.std.proofs.lemmas.Bool.Decides.{nat_tests}
use Rattle.std.proofs.lemmas.List.{length-map}
use Rattle.std.proofs.lemmas.Bool.{eqb-true}
use Rattle.rd_base.specs.Limits.{max_nodes}
use Rattle.rd_base.specs.declared.status.Status.{Status}
use Rattle.rd_irp.specs.declared.completion.Reply.{Reply}
use Rattle.rd_dirinfo.specs.Naming.{Name}
use Rattle.rd_dirinfo.specs.Paths.{Names, parent}
use Rattle.rd_tree.specs.Places as places
use Rattle.rd_tree.specs.Places.{Place, Places, place, own_path, bytes_at, node_at, folder_of, new_place, IsLive, IsWhole}
use Rattle.rd_drive.specs.declared.asked.Asked.{Asked}
use Rattle.rd_drive.specs.declared.store.Store.{Store}
use Rattle.rd_drive.specs.Access.{clash, has_any, writes}
use Rattle.rd_drive.specs.Changes.{added}
use Rattle.rd_drive.specs.Create.{asked_use, create_new, deletes_on_close, folders_above, found_information, is_full, is_in_use, is_pending_at, made_attributes, made_node, make_node, open_node, opened, open_or_make, replaces, wants_file, wants_folder}
use Rattle.rd_drive.specs.DriveState.{DriveState, Node, has_folder, is_at_path, is_folder_node, with_new_node}
use Rattle.rd_drive.specs.Kept.{own_node}
use Rattle.rd_drive.specs.Made.{create_at, first_no, made_state, needs_node, open_checks, replace}
use Rattle.rd_drive.specs.Outcome.{Outcome, checked, fault, one_of, outcome_with_reply, refused}
use Rattle.rd_base.specs.Statuses.{access_denied, delete_pending, disk_full, file_is_a_directory, not_a_directory, object_name_collision, object_name_not_found, object_path_not_found, sharing_violation, too_many_opened_files}
use Rattle.rd_drive.specs.Store.{state_of, node_of, node_with, drive_of, uses_on, IsSound}
use Rattle.rd_drive.specs.UseCounts.{is_clashing}
use Rattle.rd_drive.proofs.AboveLemmas.{above_node, all_above, at_root, folder_seen, root_at}
use Rattle.rd_drive.proofs.AskedLemmas.{asked_seen, node_seen}
use Rattle.rd_drive.proofs.CheckLemmas.{check_applies, check_passed, checks_done}
use Rattle.rd_drive.proofs.CloseLemmas.{own_names}
use Rattle.rd_drive.proofs.HandlesLemmas.{all_kept, in_use_counted}
use Rattle.rd_drive.proofs.KeptLemmas.{lived}
use Rattle.rd_drive.proofs.NodeLemmas.{place_here}
use Rattle.rd_drive.proofs.OrderLemmas.{order_length}
use Rattle.rd_drive.proofs.StoreLemmas.{first_listed, all_listed, node_of_number, own_is}
use Rattle.rd_drive.proofs.UsesLemmas.{clash_seen}

-- ---- the first check that applies

abbrev faulted : Bool × Status → Bool × Reply
faulted check = (check.0, fault check.1)

pub checks_first : (s : DriveState) (outcome : Outcome) (checks : List (Bool × Status)) → checked s (map faulted checks) outcome ≡ option_map_or (refused s) (first_no checks) outcome
unfolding checked
checks_first s outcome [] = refl
checks_first s outcome (check ∷ checks) = by (checks_first s outcome checks) check.0
  where
    by : checked s (map faulted checks) outcome ≡ option_map_or (refused s) (first_no checks) outcome → (b : Bool) → cond b (outcome_with_reply s (fault check.1)) (checked s (map faulted checks) outcome) ≡ option_map_or (refused s) (cond b (Some check.1) (first_no checks)) outcome
    by later true = refl
    by later false = later

-- where none applies, each is false
pub all_pass : (checks : List (Bool × Status)) → first_no checks ≡ None → AllByRecursion (λ (check : Bool × Status). check.0 ≡ false) checks
all_pass [] none = tt
all_pass (check ∷ checks) none = by (λ later. all_pass checks later) check.0 refl none
  where
    by : (first_no checks ≡ None → AllByRecursion (λ (check : Bool × Status). check.0 ≡ false) checks) → (b : Bool) → check.0 ≡ b → cond b (Some check.1) (first_no checks) ≡ None
        → (check.0 ≡ false) × AllByRecursion (λ (check : Bool × Status). check.0 ≡ false) checks
    by later true t e = absurd (cc)
    by later false t e = (t, later e)

module _ (s : Store) (sound : IsSound s) where
  -- ---- a node is there

  module _ (n : ℕ) (live : IsLive s.tree n) where
    -- the root alone has no names
    root_is : (length (own_path s.tree n) == 0) ≡ (n == 0)
    root_is = by (n == 0) refl
      where
        none : own_path s.tree 0 ≡ []
        none = own_is s.tree sound.whole 0 (record { path = []; bytes = None }) sound.whole.root

        differ : (a : ℕ) → (a == 0) ≡ false → 0 ≡ a → ⊥
        differ a t e = grind (arith, nat_tests)

        longer : (y : Name) (ys : List Name) → (length (y ∷ ys) == 0) ≡ false
        longer y ys = grind (arith, nat_tests)

        by : (b : Bool) → (n == 0) ≡ b → (length (own_path s.tree n) == 0) ≡ b
        by true t = ap (λ (p : Names). length p == 0) (ap (own_path s.tree) (eqb-true n 0 t) ∙ none)
        by false t =
            let names = own_names s.tree sound.whole n live (differ n t) in
            ap (λ (p : Names). length p == 0) names.2 ∙ longer names.0 names.1

    module _ (rising : IsStrictlySortedBy nat_cmp (keys_of s.handles.entries)) (asked : Asked) (moment : ℕ) where
      in_use_is : is_in_use (drive_of s) asked (own_path s.tree n) ≡ is_clashing (asked_use asked) (state_of s.states n).uses
      in_use_is =
          in_use_counted s sound n live (clash (asked_use asked)) s.handles.entries (all_kept s rising)
          ∙ sym (clash_seen (asked_use asked) (uses_on n s.handles.entries))
          ∙ ap (is_clashing (asked_use asked)) (sym (sound.uses n live))

      abbrev pub checks_of : Bool → List (Bool × Status)
      checks_of folder = open_checks asked folder (n == 0) (state_of s.states n)

      pub comes_open : (folder : Bool) → folder ≡ is_folder_node (own_node s n)
          → open_node (drive_of s) asked moment (own_node s n)
          ≡ option_map_or (refused (drive_of s)) (first_no (checks_of folder))
          (one_of (replaces asked) (replace (drive_of s) asked moment (own_node s n)) (opened (drive_of s) asked (own_path s.tree n) (found_information asked) []))
      comes_open folder e =
          (λ i. checked (drive_of s) (map faulted (checks_seen (sym e i) (root_is i) (in_use_is i))) after)
          ∙ checks_first (drive_of s) after (checks_of folder)
        where
          after : Outcome
          after = one_of (replaces asked) (replace (drive_of s) asked moment (own_node s n)) (opened (drive_of s) asked (own_path s.tree n) (found_information asked) [])

          checks_seen : Bool → Bool → Bool → List (Bool × Status)
          checks_seen folds root in_use =
              (asked.disposition == create_new, object_name_collision)
              ∷ (wants_folder asked && not folds, not_a_directory)
              ∷ (folds && (wants_file asked || replaces asked), file_is_a_directory)
              ∷ ((state_of s.states n).pending, delete_pending)
              ∷ (deletes_on_close asked && root, access_denied)
              ∷ ((not folds && has_any 1 (state_of s.states n).attributes) && (writes asked.access || replaces asked), access_denied)
              ∷ (in_use, sharing_violation)
              ∷ []

  -- ---- what is at a path

  folder_at_seen : (p : Names) → has_folder (drive_of s) p ≡ places.is_folder_at s.tree p
  folder_at_seen p = subst (λ naming. option_map_or is_folder_node (find (is_at_path naming p) (drive_of s).nodes) false ≡ places.is_folder_at s.tree p) sound.naming (folder_seen s.tree sound.whole s.states p)

  above_seen : (path : Names) → list_all (has_folder (drive_of s)) (folders_above path) ≡ list_all (places.is_folder_at s.tree) (folders_above path)
  above_seen path = ap (λ (f : Names → Bool). list_all f (folders_above path)) (λ i. λ (p : Names). folder_at_seen p i)

  module _ (asked : Asked) (moment : ℕ) (path : Names) where
    abbrev comes : Outcome
    comes = create_at (drive_of s) moment asked path

    pub comes_full : is_full (drive_of s) ≡ true → comes ≡ refused (drive_of s) too_many_opened_files
    comes_full full = check_applies (drive_of s) _ _ _ full

    module _ (free : is_full (drive_of s) ≡ false) where
      -- a node is there
      pub comes_found : (n : ℕ) → node_at s.tree path ≡ Some n → comes ≡ open_node (drive_of s) asked moment (own_node s n)
      comes_found n at =
          check_passed (drive_of s) _ _ _ free ∙ check_passed (drive_of s) _ _ _ (ap not (above_seen path ∙ above path at)) ∙ checks_done (drive_of s) _
          ∙ ap (open_or_make (drive_of s) asked moment path) (node_seen s sound path ∙ ap (option_and_then (node_of_number s.tree sound.whole s.states)) at ∙ here)
        where
          live : IsLive s.tree n
          live = (first_listed s.tree sound.whole path n s.tree.list (all_listed s.tree sound.whole) at).0

          here : option_map (node_with (state_of s.states n)) (place s.tree n) ≡ Some (own_node s n)
          here = let x = lived s.tree n live in ap (option_map (node_with (state_of s.states n))) x.1 ∙ ap (λ (p : Place). Some (node_with (state_of s.states n) p)) (sym (place_here s.tree sound.whole n x.0 x.1))

          above : (p : Names) → node_at s.tree p ≡ Some n → list_all (places.is_folder_at s.tree) (folders_above p) ≡ true
          above [] e = refl
          above (y ∷ ys) e = all_above s.tree sound.whole y ys ∙ above_node s.tree sound.whole (y ∷ ys) n e (λ z. lower (at_root s.tree sound.whole (y ∷ ys) (e ∙ ap (λ (m : ℕ). Some m) (sym z))))
            where
              lower : y ∷ ys ≡ [] → ⊥
              lower e = absurd (cc)

      module _ (none : node_at s.tree path ≡ None) where
        -- the path has a name
        pub named : (y : Name) × (ys : Names) × (path ≡ y ∷ ys)
        named = by path refl
          where
            by : (p : Names) → path ≡ p → (y : Name) × (ys : Names) × (p ≡ y ∷ ys)
            by [] e = absurd (let both : None ≡ Some 0 = sym none ∙ ap (node_at s.tree) e ∙ root_at s.tree sound.whole in cc)
            by (y ∷ ys) e = (y, ys, refl)

        above_is : list_all (places.is_folder_at s.tree) (folders_above path) ≡ places.is_folder_at s.tree (parent path)
        above_is = ap (λ (p : Names). list_all (places.is_folder_at s.tree) (folders_above p)) named.2 ∙ all_above s.tree sound.whole named.0 named.1 ∙ ap (λ (p : Names). places.is_folder_at s.tree (parent p)) (sym named.2)

        -- no folder is there
        pub comes_lost : folder_of s.tree path ≡ None → comes ≡ refused (drive_of s) object_path_not_found
        comes_lost lost = check_passed (drive_of s) _ _ _ free ∙ check_applies (drive_of s) _ _ _ (ap not (above_seen path ∙ above_is ∙ by (node_at s.tree (parent path)) refl))
          where
            without : (b : Bool) (n : ℕ) → cond b (Some n) None ≡ None → b ≡ false
            without true n e = absurd (cc)
            without false n e = refl

            by : (o : Option ℕ) → node_at s.tree (parent path) ≡ o → places.is_folder_at s.tree (parent path) ≡ false
            by None e = ap (λ (o : Option ℕ). unwrap_or (option_and_then (places.is_folder s.tree) o) false) e
            by (Some n) e = without (places.is_folder_at s.tree (parent path)) n (sym (ap (λ (o : Option ℕ). cond (places.is_folder_at s.tree (parent path)) o None) e) ∙ lost)

        module _ (folder : ℕ) (found : folder_of s.tree path ≡ Some folder) where
          parts : (b : Bool) (o : Option ℕ) → cond b o None ≡ Some folder → (b ≡ true) × (o ≡ Some folder)
          parts true o e = (refl, e)
          parts false o e = absurd (cc)

          pub there : (places.is_folder_at s.tree (parent path) ≡ true) × (node_at s.tree (parent path) ≡ Some folder)
          there = parts (places.is_folder_at s.tree (parent path)) (node_at s.tree (parent path)) found

          pub comes_new : comes ≡ make_node (drive_of s) asked moment path
          comes_new =
              check_passed (drive_of s) _ _ _ free ∙ check_passed (drive_of s) _ _ _ (ap not (above_seen path ∙ above_is ∙ there.0)) ∙ checks_done (drive_of s) _
              ∙ ap (open_or_make (drive_of s) asked moment path) (node_seen s sound path ∙ ap (option_and_then (node_of_number s.tree sound.whole s.states)) none)

          -- ---- the folder's own state, and the room

          folder_live : IsLive s.tree folder
          folder_live = (first_listed s.tree sound.whole (parent path) folder s.tree.list (all_listed s.tree sound.whole) there.1).0

          pending_is : is_pending_at (drive_of s) (parent path) ≡ (state_of s.states folder).pending
          pending_is =
              let x = lived s.tree folder folder_live in
              ap (λ (o : Option Node). option_map_or (λ (node : Node). node.pending) o false) (node_seen s sound (parent path) ∙ ap (option_and_then (node_of_number s.tree sound.whole s.states)) there.1 ∙ ap (option_map (node_with (state_of s.states folder))) x.1)

          count_is : length (drive_of s).nodes ≡ length s.tree.list
          count_is = order_length s.tree.naming (map (node_of s.states) s.tree.list) ∙ length-map s.tree.list (node_of s.states)

          abbrev making : Outcome
          making = make_node (drive_of s) asked moment path

          pub comes_unasked : needs_node asked ≡ true → making ≡ refused (drive_of s) object_name_not_found
          comes_unasked e = check_applies (drive_of s) _ _ _ e

          module _ (wanted : needs_node asked ≡ false) where
            pub comes_pending : (state_of s.states folder).pending ≡ true → making ≡ refused (drive_of s) delete_pending
            comes_pending e = check_passed (drive_of s) _ _ _ wanted ∙ check_applies (drive_of s) _ _ _ (pending_is ∙ e)

            module _ (stays : (state_of s.states folder).pending ≡ false) where
              pub comes_crowded : nat_le max_nodes (length s.tree.list) ≡ true → making ≡ refused (drive_of s) disk_full
              comes_crowded e = check_passed (drive_of s) _ _ _ wanted ∙ check_passed (drive_of s) _ _ _ (pending_is ∙ stays) ∙ check_applies (drive_of s) _ _ _ (ap (nat_le max_nodes) count_is ∙ e)

              abbrev pub made : Node
              made = node_with (made_state (made_attributes asked) moment) (new_place s.tree path (wants_folder asked))

              pub comes_made : nat_le max_nodes (length s.tree.list) ≡ false → making ≡ opened (with_new_node (drive_of s) made) asked made.path 0 (added made ∷ [])
              comes_made e =
                  check_passed (drive_of s) _ _ _ wanted ∙ check_passed (drive_of s) _ _ _ (pending_is ∙ stays) ∙ check_passed (drive_of s) _ _ _ (ap (nat_le max_nodes) count_is ∙ e) ∙ checks_done (drive_of s) _
                  ∙ ap (λ (p : Names). opened (with_new_node (drive_of s) (made_node asked p moment)) asked p 0 (added (made_node asked p moment) ∷ [])) (asked_seen s sound path)
