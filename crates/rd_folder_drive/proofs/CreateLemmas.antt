-- What a Create comes to over a folder's nodes, check by check: of what is there, and of what isn't.
use Rattle.std.proofs.Common.{◌≡◌, ◌∙◌, refl, sym, ap, subst, inl, ℕ, ◌==◌, Bool, true, false, not, ◌&&◌, ◌||◌, cond, List, [], ◌∷◌, ◌++◌, map, length, Option, Some, None, nat_le, ◌<◌, arith}
use Rattle.std.specs.List.{list_all, list_any, AllByRecursion}
use Rattle.std.specs.Option.{is_some, option_and_then, option_map, option_map_or}
use Rattle.std.proofs.lemmas.Bool.Decides.{nat_tests}
use Rattle.std.proofs.lemmas.List.{length-map}
use Rattle.std.proofs.lemmas.Option.{none-some, same_Some}
use Rattle.rd_base.specs.declared.status.Status.{Status}
use Rattle.rd_base.specs.Statuses.{access_denied, delete_pending, file_is_a_directory, invalid_parameter, not_a_directory, object_name_collision, object_name_invalid, object_name_not_found, object_path_not_found, sharing_violation, too_many_opened_files}
use Rattle.rd_dirinfo.specs.declared.naming.Naming.TheVariants.{Exact}
use Rattle.rd_dirinfo.specs.Paths.{Names, is_path, is_same_path, last_name, names_of, parent, parsed_path, path_fault}
use Rattle.rd_irp.specs.declared.completion.Reply.{Reply}
use Rattle.rd_drive.specs.declared.asked.Asked.{Asked}
use Rattle.rd_drive.specs.declared.node.NodeState.{NodeState}
use Rattle.rd_drive.specs.Access.{clash, has_any, use_of, writes}
use Rattle.rd_drive.specs.Changes.{added, modified}
use Rattle.rd_drive.specs.Create.{asked_use, create, create_new, deletes_on_close, folders_above, found_information, is_contradictory, is_full, is_in_use, is_pending_at, made_node, make_node, open_node, opened, open_or_make, replaced, replaces, wants_file, wants_folder}
use Rattle.rd_drive.specs.DriveState as drive
use Rattle.rd_drive.specs.DriveState.{DriveState, Node, has_folder, has_open, is_at_path, is_folder_node, made_path, with_new_node, with_node}
use Rattle.rd_drive.specs.Made.{create_at, first_no, needs_node, open_checks}
use Rattle.rd_drive.specs.Outcome.{Outcome, checked, fault, given, one_of, refused}
use Rattle.rd_drive.specs.UseCounts.{is_clashing}
use Rattle.rd_drive.proofs.CheckLemmas.{check_applies, check_passed, checks_done, given_none, given_some, one_false, one_true}
use Rattle.rd_drive.proofs.CreateLemmas.{all_pass, checks_first}
use Rattle.rd_drive.proofs.UsesLemmas.{clash_seen}
use Rattle.rd_folder.specs.declared.look.Look.{Look}
use Rattle.rd_folder.specs.FolderCalls.{look_of, node_there}
use Rattle.rd_folder.specs.Told.{drive_over}
use Rattle.rd_folder.proofs.ExactLemmas.{exact_apart, same_exact}
use Rattle.rd_folder.proofs.HasLemmas.{Has, find_has, there_is}
use Rattle.rd_folder.proofs.MapLemmas.{folder_at, made_same}
use Rattle.rd_folder_drive.specs.declared.handle.Handle as kept
use Rattle.rd_folder_drive.specs.declared.open.Open.{Open}
use Rattle.rd_folder_drive.specs.declared.table.Table.{Table}
use Rattle.rd_folder_drive.specs.Opening.{IsAtPath, IsFree, MayHold, is_of_kind, told_state}
use Rattle.rd_folder_drive.specs.Served.{IsOwnStatus}
use Rattle.rd_folder_drive.specs.Table.{HasNodes, IsSound, drive_of, is_pending_open, kept_handle, marked, open_at, path_at}
use Rattle.rd_folder_drive.proofs.AboveLemmas.{all_above, folder_seen, found_above}
use Rattle.rd_folder_drive.proofs.FoundLemmas.{pending_found, pending_none}
use Rattle.rd_folder_drive.proofs.HandlesLemmas.{AreKept, all_kept, in_use_counted, seen_entry}
use Rattle.rd_folder_drive.proofs.HoldLemmas.{may_again, may_first}
use Rattle.rd_folder_drive.proofs.TableLemmas.{node_seen}

-- ---- the units

no_path : (units : List ℕ) (at : ℕ) → path_fault units ≡ Some at → parsed_path units ≡ None
no_path units at e = ap (λ (o : Option ℕ). elim o as (λ _. Option Names) [ Some at ↦ None | None ↦ Some (names_of units) ]) e

module _ (s : DriveState) (asked : Asked) (moment : ℕ) (units : List ℕ) where
  pub comes_contradictory : is_contradictory asked ≡ true → create s moment asked units ≡ refused s invalid_parameter
  comes_contradictory e = check_applies s _ _ _ e

  module _ (asks : is_contradictory asked ≡ false) where
    pub comes_spelled : (path : Names) → parsed_path units ≡ Some path → create s moment asked units ≡ create_at s moment asked path
    comes_spelled path spelled =
        check_passed s _ _ _ asks ∙ checks_done s _ ∙ ap (λ (o : Option Names). given s o object_name_invalid (create_at s moment asked)) spelled ∙ given_some s path object_name_invalid (create_at s moment asked)

    pub comes_unspelled : (at : ℕ) → path_fault units ≡ Some at → create s moment asked units ≡ refused s object_name_invalid
    comes_unspelled at bad =
        check_passed s _ _ _ asks ∙ checks_done s _ ∙ ap (λ (o : Option Names). given s o object_name_invalid (create_at s moment asked)) (no_path units at bad) ∙ given_none s object_name_invalid (create_at s moment asked)

-- ---- what was told

-- a node that was told of
pub look_node : (found : Option Node) (look : Look) → option_map look_of found ≡ Some look → (node : Node) × (found ≡ Some node) × (look_of node ≡ look)
look_node None look is = absurd (none-some look is)
look_node (Some node) look is = (node, refl, same_Some (look_of node) look is)

-- nothing was told
pub look_none : (found : Option Node) → option_map look_of found ≡ None → found ≡ None
look_none None is = refl
look_none (Some node) is = absurd (none-some (look_of node) (sym is))

-- ---- why what is there isn't opened

first_own : (checks : List (Bool × Status)) → AllByRecursion (λ (check : Bool × Status). IsOwnStatus check.1) checks → (why : Status) → first_no checks ≡ Some why → IsOwnStatus why
first_own [] all why is = absurd (none-some why is)
first_own (check ∷ checks) all why is = by (λ later. first_own checks all.1 why later) check.0 is
  where
    by : (first_no checks ≡ Some why → IsOwnStatus why) → (b : Bool) → cond b (Some check.1) (first_no checks) ≡ Some why → IsOwnStatus why
    by later true e = subst IsOwnStatus (same_Some check.1 why e) all.0
    by later false e = later e

pub checks_own : (asked : Asked) (folder root : Bool) (state : NodeState) (why : Status) → first_no (open_checks asked folder root state) ≡ Some why → IsOwnStatus why
checks_own asked folder root state why is =
    first_own (open_checks asked folder root state) ((refl, refl), ((refl, refl), ((refl, refl), ((refl, refl), ((refl, refl), ((refl, refl), ((refl, refl), tt))))))) why is

left_false : (a b : Bool) → (a && b) ≡ false → b ≡ true → a ≡ false
left_false true true e t = absurd (cc)
left_false true false e t = absurd (cc)
left_false false b e t = refl

or_right : (a b : Bool) → b ≡ true → (a || b) ≡ true
or_right true b t = refl
or_right false b t = t

-- ---- what is known of what is open

abbrev pub state_found : Table → Look → Option ℕ → NodeState
state_found t look found = told_state look (option_and_then (open_at t) found)

-- the checks, as they were made
pub checks_made : (t : Table) (asked : Asked) (path : Names) (look : Look) (found : Option ℕ) (root : Bool) → root ≡ (length path == 0) → (state : NodeState) → state ≡ state_found t look found → (why : Option Status) → why ≡ first_no (open_checks asked look.folder root state)
    → first_no (open_checks asked look.folder (length path == 0) (state_found t look found)) ≡ why
checks_made t asked path look found root top state is why made = sym (made ∙ (λ i. first_no (open_checks asked look.folder (top i) (is i))))

-- a path with names isn't the root's
pub some_names : (path names : Names) → names ≡ path → false ≡ (length names == 0) → path ≡ [] → ⊥
some_names path names same some top = absurd (let clash : false ≡ true = some ∙ ap (λ (p : Names). length p == 0) (same ∙ top) in cc)

-- a handle can be made
pub not_full : (t : Table) → IsFree t → (nodes : List Node) → is_full (drive_of t nodes) ≡ false
not_full t free nodes =
    (λ i. nat_le 4096 (length-map t.handles.entries (seen_entry t) i) || nat_le 4294967296 t.next)
    ∙ (λ i. past 4096 (length t.handles.entries) free.0 i || past 4294967296 t.next free.1 i)
  where
    past : (most k : ℕ) → k < most → nat_le most k ≡ false
    past most k low = grind (arith, nat_tests)

no_names : (path : Names) → path ≡ [] → (length path == 0) ≡ true
no_names path e = ap (λ (p : Names). length p == 0) e

-- where no check applies a handle may be made
pub may_found : (t : Table) → IsSound t → (asked : Asked) (path : Names) (look : Look) (folder : Bool) → is_path path ≡ true → (found : Option ℕ) → IsAtPath t path found
    → first_no (open_checks asked look.folder (length path == 0) (state_found t look found)) ≡ None → MayHold t asked path folder found
may_found t sound asked path look folder names None at passed =
    may_first t sound asked path folder names
    (λ top. left_false (deletes_on_close asked) (length path == 0) (all_pass (open_checks asked look.folder (length path == 0) (state_found t look None)) passed).1.1.1.1.0 (no_names path top)) at
may_found t sound asked path look folder names (Some m) at passed =
    may_again t sound asked path folder m
    (λ top. left_false (deletes_on_close asked) (length path == 0) (all_pass (open_checks asked look.folder (length path == 0) (state_found t look (Some m))) passed).1.1.1.1.0 (no_names path top)) at
    (λ p on. sym (ap (λ (x : Option Open). (told_state look x).pending) on) ∙ (all_pass (open_checks asked look.folder (length path == 0) (state_found t look (Some m))) passed).1.1.1.0)

-- ---- over nodes

module _ (t : Table) (sound : IsSound t) (asked : Asked) (moment : ℕ) (path : Names) (nodes : List Node) (holds : HasNodes t nodes) where
  abbrev s : DriveState
  s = drive_of t nodes

  abbrev comes : Outcome
  comes = create_at s moment asked path

  above_seen : list_all (has_folder s) (folders_above path) ≡ list_all (has_folder (drive_over nodes)) (folders_above path)
  above_seen = ap (λ (f : Names → Bool). list_all f (folders_above path)) (λ i. λ (p : Names). folder_seen t nodes p i)

  pub comes_full : is_full s ≡ true → comes ≡ refused s too_many_opened_files
  comes_full full = check_applies s _ _ _ full

  -- the root is there
  root_there : path ≡ [] → node_there nodes path ≡ None → ⊥
  root_there top none =
      let root = holds.map.root in
      absurd (none-some root.0 (sym none ∙ there_is nodes holds.map.rises root.0 (first root.0 root.1 root.2) path (root.3 ∙ sym top)))
    where
      first : (x : Node) (xs : List Node) → nodes ≡ x ∷ xs → Has nodes x
      first x xs is = subst (λ (l : List Node). Has l x) (sym is) (inl refl)

  module _ (free : is_full s ≡ false) where
    -- ---- a node is there

    module _ (node : Node) (there : node_there nodes path ≡ Some node) where
      abbrev own : Node
      own = marked t.opens.entries node

      path_is : node.path ≡ path
      path_is = same_exact node.path path (find_has (is_at_path Exact path) nodes node there).1

      goes : comes ≡ open_node s asked moment own
      goes =
          check_passed s _ _ _ free ∙ check_passed s _ _ _ (ap not (above_seen ∙ found_above nodes holds.map path node there)) ∙ checks_done s _
          ∙ ap (open_or_make s asked moment path) (node_seen t nodes path ∙ ap (option_map (marked t.opens.entries)) there)

      -- where nothing is open at the path, no handle is on it
      unopened_seen : IsAtPath t path None → (q : drive.Handle → Bool) (es : List (ℕ × kept.Handle)) → AreKept (kept_handle t) es → list_any (λ (entry : ℕ × drive.Handle). has_open s path entry && q (entry.1)) (map (seen_entry t) es) ≡ false
      unopened_seen none q [] all = refl
      unopened_seen none q (e ∷ es) all =
          (λ i. (elsewhere (open_at t (e.1).node) refl i && q (seen_entry t e).1) || unopened_seen none q es all.1 i)
        where
          elsewhere : (o : Option Open) → open_at t (e.1).node ≡ o → is_same_path Exact (path_at t (e.1).node) path ≡ false
          elsewhere None is = absurd (let on = (sound.handles e.0 e.1 all.0).on in let clash : true ≡ false = sym on ∙ ap is_some is in cc)
          elsewhere (Some o) is = exact_apart (path_at t (e.1).node) path (λ same. none (e.1).node o is (sym (ap (λ (x : Option Open). option_map_or (λ (p : Open). p.path) x []) is) ∙ same))

      in_use_is : (look : Look) (found : Option ℕ) → IsAtPath t path found → is_in_use s asked node.path ≡ is_clashing (asked_use asked) (state_found t look found).uses
      in_use_is look None none =
          ap (is_in_use s asked) path_is ∙ unopened_seen none (λ (h : drive.Handle). clash (asked_use asked) (use_of h.access h.share)) t.handles.entries (all_kept t sound.rising.1) ∙ sym (clash_seen (asked_use asked) [])
      in_use_is look (Some m) (o, on, at) =
          ap (is_in_use s asked) (path_is ∙ sym at ∙ sym (ap (λ (x : Option Open). option_map_or (λ (p : Open). p.path) x []) on))
          ∙ in_use_counted t sound nodes m (ap is_some on) (clash (asked_use asked)) t.handles.entries (all_kept t sound.rising.1)
          ∙ sym (clash_seen (asked_use asked) _)
          ∙ ap (is_clashing (asked_use asked)) (sym (sound.opened m o on).uses ∙ ap (λ (x : Option Open). (told_state look x).uses) (sym on))

      pending_is : (look : Look) (found : Option ℕ) → IsAtPath t path found → list_any (is_pending_open node.path) t.opens.entries ≡ (state_found t look found).pending
      pending_is look None none = ap (λ (p : Names). list_any (is_pending_open p) t.opens.entries) path_is ∙ sym (pending_none t sound path none)
      pending_is look (Some m) (o, on, at) =
          ap (λ (p : Names). list_any (is_pending_open p) t.opens.entries) path_is ∙ sym (pending_found t sound path m o (o, on, at) on) ∙ ap (λ (x : Option Open). (told_state look x).pending) (sym on)

      module _ (look : Look) (told : look_of node ≡ look) (found : Option ℕ) (at : IsAtPath t path found) where
        abbrev pub state : NodeState
        state = state_found t look found

        abbrev pub checks : List (Bool × Status)
        checks = open_checks asked look.folder (length path == 0) state

        folds : is_folder_node node ≡ look.folder
        folds = ap (λ (x : Look). x.folder) told

        attributes_is : node.attributes ≡ (state_found t look found).attributes
        attributes_is = ap (λ (x : Look). x.attributes) told ∙ by (option_and_then (open_at t) found)
          where
            by : (o : Option Open) → look.attributes ≡ (told_state look o).attributes
            by None = refl
            by (Some o) = refl

        abbrev whole : Outcome
        whole = opened (with_node s (replaced asked moment own)) asked path (found_information asked) (modified path ∷ [])

        abbrev plain : Outcome
        plain = opened s asked path (found_information asked) []

        comes_open : comes ≡ option_map_or (refused s) (first_no checks) (one_of (replaces asked) whole plain)
        comes_open =
            goes ∙ (λ i. checked s (map faulted (checks_seen (folds i) (pending_is look found at i) (ap (λ (p : Names). length p == 0) path_is i) (attributes_is i) (in_use_is look found at i))) (after (path_is i)))
            ∙ checks_first s (after path) checks
          where
            faulted : Bool × Status → Bool × Reply
            faulted check = (check.0, fault check.1)

            after : Names → Outcome
            after p =
                one_of (replaces asked) (opened (with_node s (replaced asked moment own)) asked p (found_information asked) (modified p ∷ []))
                (opened s asked p (found_information asked) [])

            checks_seen : Bool → Bool → Bool → ℕ → Bool → List (Bool × Status)
            checks_seen fold pends root attributes in_use =
                (asked.disposition == create_new, object_name_collision)
                ∷ (wants_folder asked && not fold, not_a_directory)
                ∷ (fold && (wants_file asked || replaces asked), file_is_a_directory)
                ∷ (pends, delete_pending)
                ∷ (deletes_on_close asked && root, access_denied)
                ∷ ((not fold && has_any 1 attributes) && (writes asked.access || replaces asked), access_denied)
                ∷ (in_use, sharing_violation)
                ∷ []

        pub comes_refused : (why : Status) → first_no checks ≡ Some why → comes ≡ refused s why
        comes_refused why is = comes_open ∙ ap (λ (o : Option Status). option_map_or (refused s) o (one_of (replaces asked) whole plain)) is

        module _ (passed : first_no checks ≡ None) where
          comes_passed : comes ≡ one_of (replaces asked) whole plain
          comes_passed = comes_open ∙ ap (λ (o : Option Status). option_map_or (refused s) o (one_of (replaces asked) whole plain)) passed

          -- it is opened as it is
          pub comes_plain : replaces asked ≡ false → comes ≡ plain
          comes_plain e = comes_passed ∙ one_false (replaces asked) whole plain e

          -- it is opened without its bytes
          pub comes_whole : replaces asked ≡ true → (is_folder_node node ≡ false) × (comes ≡ whole)
          comes_whole e = (
            folds ∙ left_false look.folder (wants_file asked || replaces asked) (all_pass checks passed).1.1.0 (or_right (wants_file asked) (replaces asked) e),
            comes_passed ∙ one_true (replaces asked) whole plain e,
          )

        -- what is open is of its kind
        kind_told : is_of_kind look.folder (option_and_then (open_at t) found) ≡ true
        kind_told = by found at
          where
            alike : (a b : Bool) → a ≡ b → cond a b (not b) ≡ true
            alike true true e = refl
            alike true false e = absurd (cc)
            alike false true e = absurd (cc)
            alike false false e = refl

            by : (found : Option ℕ) → IsAtPath t path found → is_of_kind look.folder (option_and_then (open_at t) found) ≡ true
            by None none = refl
            by (Some m) (o, on, at) =
                let is = holds.there m o on in
                let one : node ≡ is.0 = same_Some node is.0 (sym there ∙ ap (node_there nodes) (sym at) ∙ is.1) in
                ap (is_of_kind look.folder) on ∙ alike look.folder o.folder (sym folds ∙ ap is_folder_node one ∙ is.2)

        pub kind_same : false ≡ is_of_kind look.folder (option_and_then (open_at t) found) → ⊥
        kind_same other = absurd (let clash : false ≡ true = other ∙ kind_told in cc)

    -- ---- none is there

    module _ (none : node_there nodes path ≡ None) where
      pub below_root : path ≡ [] → ⊥
      below_root top = root_there top none

      pub bare : IsAtPath t path None
      bare = λ n o on at. let is = holds.there n o on in none-some is.0 (sym none ∙ ap (node_there nodes) (sym at) ∙ is.1)

      folders_is : list_all (has_folder s) (folders_above path) ≡ has_folder (drive_over nodes) (parent path)
      folders_is = above_seen ∙ all_above nodes holds.map path below_root

      pub comes_lost : has_folder (drive_over nodes) (parent path) ≡ false → comes ≡ refused s object_path_not_found
      comes_lost lost = check_passed s _ _ _ free ∙ check_applies s _ _ _ (ap not (folders_is ∙ lost))

      module _ (folder : has_folder (drive_over nodes) (parent path) ≡ true) where
        goes_on : comes ≡ make_node s asked moment path
        goes_on =
            check_passed s _ _ _ free ∙ check_passed s _ _ _ (ap not (folders_is ∙ folder)) ∙ checks_done s _
            ∙ ap (open_or_make s asked moment path) (node_seen t nodes path ∙ ap (option_map (marked t.opens.entries)) none)

        pub comes_unasked : needs_node asked ≡ true → comes ≡ refused s object_name_not_found
        comes_unasked e = goes_on ∙ check_applies s _ _ _ e

        pends : is_pending_at s (parent path) ≡ list_any (is_pending_open (parent path)) t.opens.entries
        pends =
            let found = folder_at nodes (parent path) folder in
            ap (λ (o : Option Node). option_map_or (λ (x : Node). x.pending) o false)
            (node_seen t nodes (parent path) ∙ ap (option_map (marked t.opens.entries)) (there_is nodes holds.map.rises found.0 found.1 (parent path) found.2))
            ∙ ap (λ (p : Names). list_any (is_pending_open p) t.opens.entries) found.2

        module _ (wanted : needs_node asked ≡ false) where
          pub comes_pending : list_any (is_pending_open (parent path)) t.opens.entries ≡ true → comes ≡ refused s delete_pending
          comes_pending e = goes_on ∙ check_passed s _ _ _ wanted ∙ check_applies s _ _ _ (pends ∙ e)

          module _ (stays : list_any (is_pending_open (parent path)) t.opens.entries ≡ false) where
            made_seen : made_path s path ≡ path
            made_seen =
                ap (λ (p : Names). p ++ last_name path ∷ []) (ap (λ (x : Option Node). option_map_or (λ (y : Node). y.path) x (parent path)) (node_seen t nodes (parent path)) ∙ alike (node_there nodes (parent path)))
                ∙ made_same nodes holds.map.rises path below_root folder
              where
                alike : (o : Option Node) → option_map_or (λ (y : Node). y.path) (option_map (marked t.opens.entries) o) (parent path) ≡ option_map_or (λ (y : Node). y.path) o (parent path)
                alike None = refl
                alike (Some y) = refl

            pub comes_made : comes ≡ opened (with_new_node s (made_node asked path moment)) asked path 0 (added (made_node asked path moment) ∷ [])
            comes_made =
                goes_on ∙ check_passed s _ _ _ wanted ∙ check_passed s _ _ _ (pends ∙ stays) ∙ check_passed s _ _ _ refl ∙ checks_done s _
                ∙ ap (λ (p : Names). opened (with_new_node s (made_node asked p moment)) asked p 0 (added (made_node asked p moment) ∷ [])) made_seen
