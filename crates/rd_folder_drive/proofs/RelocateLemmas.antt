-- The move of a Rename: what it comes to where its new path is one to which it may go, by what stands there and what is open.
use Rattle.std.proofs.Common.{◌≡◌, ◌∙◌, refl, sym, ap, subst, ℕ, inl, inr, ◌==◌, Bool, true, false, not, ◌&&◌, ◌||◌, List, [], ◌∷◌, ◌++◌, length, map, Option, Some, None, Result, Ok, Err}
use Rattle.std.specs.List.{list_all, list_any}
use Rattle.std.specs.BTreeMap.{BTreeMap}
use Rattle.std.specs.Option.{IfSome, IsSome, is_some, option_map, option_map_or}
use Rattle.std.proofs.lemmas.Bool.{and_parts, cases_Bool, eqb-true, lt-ltb, or_parts}
use Rattle.std.proofs.lemmas.Option.{none-some}
use Rattle.std.proofs.Math.Bool.{or-true}
use Rattle.rd_base.specs.declared.status.Status.{Status}
use Rattle.rd_base.specs.Statuses.{access_denied, object_name_collision, object_name_invalid}
use Rattle.rd_irp.specs.declared.completion.Body.TheVariants.{Count}
use Rattle.rd_dirinfo.specs.declared.naming.Naming.TheVariants.{Exact}
use Rattle.rd_dirinfo.specs.Paths.{Names, is_below, is_name, is_path, is_prefix, is_same_path, is_within_limits, moved_path, parent}
use Rattle.rd_drive.specs.declared.step.Step.TheVariants as step
use Rattle.rd_drive.specs.DriveState as drive
use Rattle.rd_drive.specs.DriveState.{DriveState, Node, has_folder, is_at_path, is_folder_node, is_open, made_path, node_of_path}
use Rattle.rd_drive.specs.Access.{is_readonly}
use Rattle.rd_drive.specs.Changes.{name_bit, renamed_from, renamed_to}
use Rattle.rd_drive.specs.Outcome as outcome
use Rattle.rd_drive.specs.Outcome.{Outcome, changed, checked, fault, refused, succeeded}
use Rattle.rd_drive.specs.Rename.{goes_too_deep, handles_go_too_deep, is_protected, renamed, target_removed, without_target}
use Rattle.rd_drive.proofs.CheckLemmas.{check_applies, check_passed, checks_done}
use Rattle.rd_drive.proofs.LockLemmas.{alike}
use Rattle.rd_folder.specs.declared.look.Look.{Look}
use Rattle.rd_folder.specs.declared.folder.FolderNo.{FolderNo}
use Rattle.rd_folder.specs.FolderLaws.{CountsNo, DoesCall}
use Rattle.rd_folder.specs.FolderCalls.{folder_rename, look_of, node_there}
use Rattle.rd_folder.specs.Told.{drive_over}
use Rattle.rd_folder.proofs.AtLemmas.{some_path}
use Rattle.rd_folder.proofs.ExactLemmas.{exact_apart, exact_same, same_exact}
use Rattle.rd_folder.proofs.HasLemmas.{Has, find_has}
use Rattle.rd_folder_drive.specs.declared.handle.Handle as kept
use Rattle.rd_folder_drive.specs.declared.open.Open.{Open}
use Rattle.rd_folder_drive.specs.declared.table.Table.{Table}
use Rattle.rd_folder_drive.specs.declared.news.Named.TheVariants as named
use Rattle.rd_folder_drive.specs.declared.news.Change as told
use Rattle.rd_folder_drive.specs.declared.news.News as told_news
use Rattle.rd_folder_drive.specs.declared.table.Done.TheVariants as done
use Rattle.rd_folder_drive.specs.Asking.{IsLookAt}
use Rattle.rd_folder_drive.specs.Moving.{is_barred, is_covered, is_far, is_kept_look, is_open_in, kind_bit, moved_entry, move_news, target_gone, IsNewPath, MayNotReplace, MayReplace}
use Rattle.rd_folder_drive.specs.Served.{IsOver, IsTold, Seen, Serves, change_of, changes_of, folder_status, news_of}
use Rattle.rd_folder_drive.specs.Setting.{renames, IsBelowRoot, OfOpen}
use Rattle.rd_folder_drive.specs.Table.{HasNodes, IsSound, drive_of, handle_of, handles_of, kept_handle, marked, open_at, path_at, uses_on}
use Rattle.rd_folder_drive.specs.Ways.{goes_far}
use Rattle.rd_folder_drive.proofs.AskLemmas.{calm_by, refusal_by, refusal_missing, refusal_same}
use Rattle.rd_folder_drive.proofs.AskedLemmas.{folder_marked}
use Rattle.rd_folder_drive.proofs.EntryLemmas.{any_entry, entry_any}
use Rattle.rd_folder_drive.proofs.MovedDriveLemmas.{drive_moved, holds_moved, made_seen}
use Rattle.rd_folder_drive.proofs.MovedLemmas.{moved_own, on_so, own_prefix, path_so, sound_moved}
use Rattle.rd_folder_drive.proofs.MovedNodesLemmas.{moved_nodes, IsMove}
use Rattle.rd_folder_drive.proofs.MovedNodesLemmas as nodes_moved
use Rattle.rd_folder_drive.proofs.RenameLemmas as rename
use Rattle.rd_folder_drive.proofs.ServeLemmas.{held_by, leaves_by, refused_by}
use Rattle.rd_folder_drive.proofs.TableLemmas as table
use Rattle.rd_folder_drive.proofs.TableLemmas.{node_seen}
use Rattle.rd_folder_drive.proofs.UsesLemmas.{any_handle}

-- ---- the paths of the handles are those of what is open

module _ (t : Table) (sound : IsSound t) (q : Names → Bool) where
  abbrev of_handle : ℕ × kept.Handle → Bool
  of_handle e = q (path_at t (e.1).node)

  abbrev of_open : ℕ × Open → Bool
  of_open e = q (e.1).path

  listed : (es : List (ℕ × kept.Handle)) → list_any (λ (e : ℕ × drive.Handle). q (e.1).path) (map {B = ℕ × drive.Handle} (λ (e : ℕ × kept.Handle). (e.0, handle_of t e.1)) es) ≡ list_any of_handle es
  listed [] = refl
  listed (e ∷ es) = ap (λ b. of_handle e || b) (listed es)

  path_of : (n : ℕ) (o : Open) → open_at t n ≡ Some o → path_at t n ≡ o.path
  path_of n o on = ap (λ (found : Option Open). option_map_or (λ (p : Open). p.path) found []) on

  down : list_any of_handle t.handles.entries ≡ true → list_any of_open t.opens.entries ≡ true
  down some =
      let found = any_entry of_handle t.handles.entries sound.rising.1 some in
      by found.1.node (open_at t found.1.node) refl (sound.handles found.0 found.1 found.2).on found.3
    where
      by : (n : ℕ) (o : Option Open) → open_at t n ≡ o → IsSome (open_at t n) → q (path_at t n) ≡ true → list_any of_open t.opens.entries ≡ true
      by n None e on passes = absurd (let clash : true ≡ false = sym on ∙ ap is_some e in cc)
      by n (Some o) e on passes = entry_any of_open t.opens.entries n o e (ap q (sym (path_of n o e)) ∙ passes)

  up : list_any of_open t.opens.entries ≡ true → list_any of_handle t.handles.entries ≡ true
  up some =
      let found = any_entry of_open t.opens.entries sound.rising.0 some in
      let used = any_entry (λ (e : ℕ × kept.Handle). e.1.node == found.0) t.handles.entries sound.rising.1 (sym (any_handle found.0 t.handles.entries) ∙ lt-ltb 0 (length (uses_on found.0 t.handles.entries)) (sound.opened found.0 found.1 found.2).used) in
      entry_any of_handle t.handles.entries used.0 used.1 used.2 (ap (λ n. q (path_at t n)) (eqb-true (used.1).node found.0 used.3) ∙ ap q (path_of found.0 found.1 found.2) ∙ found.3)

  -- so a test of them passes alike
  pub paths_any : list_any (λ (e : ℕ × drive.Handle). q (e.1).path) (handles_of t) ≡ list_any of_open t.opens.entries
  paths_any = listed t.handles.entries ∙ alike (list_any of_handle t.handles.entries) (list_any of_open t.opens.entries) down up

-- ---- what comes of it

module _ (t : Table) (sound : IsSound t) (moment file count : ℕ) (replace : Bool) (h : kept.Handle) (o : Open) (is : kept_handle t file ≡ Some h) (on : open_at t h.node ≡ Some o) (nodes : List Node) (holds : HasNodes t nodes) (to : Names)
    (below : (length o.path == 0) ≡ false) (some : (length to == 0) ≡ false) (other : is_same_path Exact to o.path ≡ false) (past : is_below Exact o.path to ≡ false) (above : has_folder (drive_over nodes) (parent to) ≡ true) (path : is_path to ≡ true) where
  abbrev s : DriveState
  s = drive_of t nodes

  abbrev from : Names
  from = o.path

  abbrev node : Node
  node = table.node t sound nodes holds file h o is on

  abbrev own : Node
  own = marked t.opens.entries node

  own_path : own.path ≡ from
  own_path = table.node_path t sound nodes holds file h o is on

  abbrev target : Option Node
  target = node_of_path s to

  abbrev there : Option Node
  there = node_there nodes to

  abbrev comes : Outcome
  comes = renames file moment count replace to s

  abbrev made : Outcome
  made = succeeded (renamed (without_target s target) moment own (made_path s to)) (Count count) (changed (target_removed target ++ renamed_from own.path own ∷ renamed_to (made_path s to) own ∷ []))

  abbrev deep : Bool
  deep = goes_too_deep s own.path to

  abbrev covered : Bool
  covered = is_some target && not replace

  abbrev barred : Bool
  barred = option_map_or (is_protected s) target false

  goes : comes ≡ checked s ((deep, fault object_name_invalid) ∷ (covered, fault object_name_collision) ∷ (barred, fault access_denied) ∷ []) made
  goes =
      rename.moves t sound moment file count replace h o is on nodes holds to some other
      ∙ check_passed s _ _ _ (ap (λ (p : Names). is_below Exact p to) own_path ∙ past)
      ∙ check_passed s _ _ _ (ap not (folder_marked t nodes (parent to) ∙ above))

  -- ---- the limits
  deep_seen : deep ≡ list_any (is_far from to) t.opens.entries
  deep_seen =
      ap (λ b. not b || handles_go_too_deep s own.path to) (and_parts (list_all is_name to) (is_within_limits to) path).1
      ∙ ap (λ (p : Names). list_any (λ (e : ℕ × drive.Handle). goes_far p to (e.1).path) (handles_of t)) own_path
      ∙ paths_any t sound (goes_far from to)

  pub too_far : list_any (is_far from to) t.opens.entries ≡ true → comes ≡ refused s object_name_invalid
  too_far far = goes ∙ check_applies s _ _ _ (deep_seen ∙ far)

  -- ---- what stands at the target
  open_seen : (p : Names) → is_open s p ≡ list_any (λ (e : ℕ × Open). is_same_path Exact (e.1).path p) t.opens.entries
  open_seen p = paths_any t sound (λ (q : Names). is_same_path Exact q p)

  covered_seen : covered ≡ is_covered replace (option_map look_of there)
  covered_seen = ap (λ (found : Option Node). is_some found && not replace) (node_seen t nodes to) ∙ by there
    where
      by : (found : Option Node) → (is_some (option_map (marked t.opens.entries) found) && not replace) ≡ is_covered replace (option_map look_of found)
      by None = refl
      by (Some x) = refl

  -- what is open at it is open at it or below it
  open_in : (p : Names) → p ≡ to → list_any (is_open_in to) t.opens.entries ≡ false → is_open s p ≡ false
  open_in p same bare = open_seen p ∙ none (list_any (λ (e : ℕ × Open). is_same_path Exact (e.1).path p) t.opens.entries) refl
    where
      none : (b : Bool) → list_any (λ (e : ℕ × Open). is_same_path Exact (e.1).path p) t.opens.entries ≡ b → b ≡ false
      none false e = refl
      none true e =
          let found = any_entry (λ (e : ℕ × Open). is_same_path Exact (e.1).path p) t.opens.entries sound.rising.0 e in
          let at : (found.1).path ≡ to = same_exact (found.1).path p found.3 ∙ same in
          sym (entry_any (is_open_in to) t.opens.entries found.0 found.1 found.2 (ap (is_prefix Exact to) at ∙ own_prefix to)) ∙ bare

  there_path : (x : Node) → there ≡ Some x → x.path ≡ to
  there_path x e = same_exact x.path to (find_has (is_at_path Exact to) nodes x e).1

  not_barred : is_barred t.opens.entries to (option_map look_of there) ≡ false → barred ≡ false
  not_barred none = ap (λ (found : Option Node). option_map_or (is_protected s) found false) (node_seen t nodes to) ∙ by there refl (or_parts _ _ none)
    where
      by : (found : Option Node) → there ≡ found → (option_map_or is_kept_look (option_map look_of found) false ≡ false) × (list_any (is_open_in to) t.opens.entries ≡ false) → option_map_or (is_protected s) (option_map (marked t.opens.entries) found) false ≡ false
      by None e parts = refl
      by (Some x) e parts = λ i. parts.0 i || open_in x.path (there_path x e) parts.1 i

  bare_by : is_barred t.opens.entries to (option_map look_of there) ≡ false → has_folder (drive_over nodes) to ≡ false
  bare_by none = by there (or_parts _ _ none).0
    where
      by : (found : Option Node) → option_map_or is_kept_look (option_map look_of found) false ≡ false → option_map_or is_folder_node found false ≡ false
      by None e = refl
      by (Some x) e = (or_parts (is_folder_node x) (is_readonly x) e).0

  pub move : has_folder (drive_over nodes) to ≡ false → IsMove nodes from to moment node
  move bare =
      nodes_moved.moves nodes holds.map from to moment node (table.there t sound nodes holds file h o is on) (some_path from below)
      (λ i. not (some i) && (not (past i) && (above i && not (bare i))))
      (exact_apart from to (λ e. absurd (let clash : true ≡ false = sym (exact_same to from (sym e)) ∙ other in cc)))
      (and_parts (list_all is_name to) (is_within_limits to) path).0

  -- what can't be replaced
  protects : (x : Node) → there ≡ Some x → (is_kept_look (look_of x) || is_open s x.path) ≡ true → barred ≡ true
  protects x e kept = ap (λ (found : Option Node). option_map_or (is_protected s) found false) (node_seen t nodes to ∙ ap (option_map (marked t.opens.entries)) e) ∙ kept

  kept_there : option_map_or is_kept_look (option_map look_of there) false ≡ true → barred ≡ true
  kept_there kept = by there refl kept
    where
      by : (found : Option Node) → there ≡ found → option_map_or is_kept_look (option_map look_of found) false ≡ true → barred ≡ true
      by None e k = absurd (cc)
      by (Some x) e k = protects x e (ap (λ b. b || is_open s x.path) k)

  folder_there : has_folder (drive_over nodes) to ≡ true → barred ≡ true
  folder_there folder = by there refl folder
    where
      by : (found : Option Node) → there ≡ found → option_map_or is_folder_node found false ≡ true → barred ≡ true
      by None e k = absurd (cc)
      by (Some x) e k = protects x e (ap (λ b. (b || is_readonly x) || is_open s x.path) k)

  module _ (n : ℕ) (p : Open) (at : open_at t n ≡ Some p) where
    abbrev x : Node
    x = (holds.there n p at).0

    x_found : Has nodes x × (is_at_path Exact p.path x ≡ true)
    x_found = find_has (is_at_path Exact p.path) nodes x (holds.there n p at).1

    x_path : x.path ≡ p.path
    x_path = same_exact x.path p.path x_found.1

    open_there : is_prefix Exact to p.path ≡ true → barred ≡ true
    open_there front = elim (cases_Bool (is_at_path Exact to x)) [
      | inl same ↦
          let here : x.path ≡ to = same_exact x.path to same in
          protects x (ap (node_there nodes) (sym here ∙ x_path) ∙ (holds.there n p at).1)
          (ap (λ b. is_kept_look (look_of x) || b) (open_seen x.path ∙ entry_any (λ (e : ℕ × Open). is_same_path Exact (e.1).path x.path) t.opens.entries n p at (exact_same p.path x.path (sym x_path))) ∙ or-true (is_kept_look (look_of x)))
      | inr off ↦ elim (cases_Bool (has_folder (drive_over nodes) to)) [
        | inl folder ↦ folder_there folder
        | inr bare ↦ absurd ((move bare).free x x_found.0 (λ e. absurd (let clash : true ≡ false = sym (exact_same x.path to e) ∙ off in cc)) (ap (is_prefix Exact to) x_path ∙ front))
      ]
    ]

  is_barred_so : is_barred t.opens.entries to (option_map look_of there) ≡ true → barred ≡ true
  is_barred_so some = elim (cases_Bool (option_map_or is_kept_look (option_map look_of there) false)) [
    | inl kept ↦ kept_there kept
    | inr off ↦
        let found = any_entry (is_open_in to) t.opens.entries sound.rising.0 (ap (λ b. b || list_any (is_open_in to) t.opens.entries) (sym off) ∙ some) in
        open_there found.0 found.1 found.2 found.3
  ]

  -- ---- it is refused, or done
  module _ (near : list_any (is_far from to) t.opens.entries ≡ false) (seen : Option Look) (look : option_map look_of there ≡ seen) where
    near_so : comes ≡ checked s ((covered, fault object_name_collision) ∷ (barred, fault access_denied) ∷ []) made
    near_so = goes ∙ check_passed s _ _ _ (deep_seen ∙ near)

    pub collides : is_covered replace seen ≡ true → comes ≡ refused s object_name_collision
    collides e = near_so ∙ check_applies s _ _ _ (covered_seen ∙ ap (is_covered replace) look ∙ e)

    module _ (uncovered : is_covered replace seen ≡ false) where
      pub is_denied : is_barred t.opens.entries to seen ≡ true → comes ≡ refused s access_denied
      is_denied e = near_so ∙ check_passed s _ _ _ (covered_seen ∙ ap (is_covered replace) look ∙ uncovered) ∙ check_applies s _ _ _ (is_barred_so (ap (is_barred t.opens.entries to) look ∙ e))

      is_made : is_barred t.opens.entries to seen ≡ false → comes ≡ made
      is_made e =
          near_so ∙ check_passed s _ _ _ (covered_seen ∙ ap (is_covered replace) look ∙ uncovered)
          ∙ check_passed s _ _ _ (not_barred (ap (is_barred t.opens.entries to) look ∙ e)) ∙ checks_done s _

      module _ (unbarred : is_barred t.opens.entries to seen ≡ false) where
        bare : list_any (is_open_in to) t.opens.entries ≡ false
        bare = (or_parts _ _ unbarred).1

        pub moved : IsMove nodes from to moment node
        moved = move (bare_by (ap (is_barred t.opens.entries to) look ∙ unbarred))

        module _ (opens : BTreeMap ℕ Open) (are : opens.entries ≡ map (moved_entry from to) t.opens.entries) where
          abbrev new : Table
          new = record t { opens = opens }

          state_so : renamed (without_target s target) moment own (made_path s to) ≡ drive_of new (moved_nodes nodes to moment node)
          state_so =
              drive_moved t from to opens are (some_path from below) bare nodes moment node own_path moved
              (λ at. absurd (let clash : true ≡ false = sym (entry_any (is_open_in to) t.opens.entries h.node o on at) ∙ bare in cc))

          kind : is_folder_node node ≡ o.folder
          kind = table.kind t sound nodes holds file h o is on

          path_then : path_at new h.node ≡ to
          path_then = path_so t from to opens are (some_path from below) h.node ∙ ap (moved_path Exact from to) (table.path_is t sound nodes holds file h o is on) ∙ moved_own from to

          abbrev was_from : told.Change
          was_from = record { action = 4; named = named.Gone from; bits = kind_bit o.folder }

          abbrev is_to : told.Change
          is_to = record { action = 5; named = named.Node h.node; bits = kind_bit o.folder }

          from_so : renamed_from own.path own ≡ change_of new was_from
          from_so = λ i. record { action = 4; path = own_path i; bits = kind_bit (kind i) }

          to_so : renamed_to (made_path s to) own ≡ change_of new is_to
          to_so = λ i. record { action = 5; path = (made_seen t from to opens are (some_path from below) bare nodes moment node own_path moved ∙ sym path_then) i; bits = kind_bit (kind i) }

          changes_so : (target_removed target ++ renamed_from own.path own ∷ renamed_to (made_path s to) own ∷ []) ≡ changes_of new (target_gone to seen ∷ Some was_from ∷ Some is_to ∷ [])
          changes_so =
              (λ i. target_removed (node_seen t nodes to i) ++ from_so i ∷ to_so i ∷ [])
              ∙ by there refl
              ∙ ap (λ (x : Option Look). changes_of new (target_gone to x ∷ Some was_from ∷ Some is_to ∷ [])) look
            where
              by : (found : Option Node) → there ≡ found
                  → (target_removed (option_map (marked t.opens.entries) found) ++ change_of new was_from ∷ change_of new is_to ∷ []) ≡ changes_of new (target_gone to (option_map look_of found) ∷ Some was_from ∷ Some is_to ∷ [])
              by None e = refl
              by (Some x) e = λ i. record { action = 2; path = there_path x e i; bits = name_bit x } ∷ change_of new was_from ∷ change_of new is_to ∷ []

          pub made_so : comes ≡ succeeded (drive_of new (moved_nodes nodes to moment node)) (Count count) (news_of new (move_news from to h.node o.folder seen))
          made_so = is_made unbarred ∙ (λ i. succeeded (state_so i) (Count count) (changed (changes_so i)))

          pub holds_so : HasNodes new (moved_nodes nodes to moment node)
          holds_so = holds_moved t from to opens are (some_path from below) bare nodes moment node own_path moved holds

-- ---- what is served

module _ (t : Table) (sound : IsSound t) (before : Seen) (over : IsOver t before) (moment file count : ℕ) (replace : Bool) (h : kept.Handle) (o : Open) (is : kept_handle t file ≡ Some h) (on : open_at t h.node ≡ Some o) (to : Names) (path : is_path to ≡ true)
    (root : OfOpen t file IsBelowRoot) (may : IsNewPath t before file to) where
  abbrev outcomes : DriveState → Outcome
  outcomes = renames file moment count replace to

  below_root : (length o.path == 0) ≡ false
  below_root = root h o is on

  elsewhere : is_same_path Exact to o.path ≡ false
  elsewhere = may.other h o is on

  not_below : is_below Exact o.path to ≡ false
  not_below = may.past h o is on

  -- some path would be past the limits
  pub serves_far : list_any (is_far o.path to) t.opens.entries ≡ true → Serves t before t before outcomes (Err object_name_invalid)
  serves_far far =
      rename.refused_told t before before over sound outcomes refl object_name_invalid (refl, refl)
      (λ nodes told holds. too_far t sound moment file count replace h o is on nodes holds to below_root may.some elsewhere not_below (may.parent nodes told) path far)

  module _ (near : list_any (is_far o.path to) t.opens.entries ≡ false) (seen : Option Look) (look : IsLookAt before to seen) where
    -- what stands at the target can't be replaced, or isn't to be
    pub serves_barred : (after : Seen) → after ≡ before → (status : Status) → MayNotReplace t to replace seen status → Serves t before t after outcomes (Err status)
    serves_barred after same status (inl (is_status, covers)) =
        subst (λ (x : Status). Serves t before t after outcomes (Err x)) (sym is_status)
        (rename.refused_told t before after over sound outcomes same object_name_collision (refl, refl)
        (λ nodes told holds. collides t sound moment file count replace h o is on nodes holds to below_root may.some elsewhere not_below (may.parent nodes told) path near seen (look nodes told) covers))
    serves_barred after same status (inr (is_status, uncovered, bars)) =
        subst (λ (x : Status). Serves t before t after outcomes (Err x)) (sym is_status)
        (rename.refused_told t before after over sound outcomes same access_denied (refl, refl)
        (λ nodes told holds. is_denied t sound moment file count replace h o is on nodes holds to below_root may.some elsewhere not_below (may.parent nodes told) path near seen (look nodes told) uncovered bars))

    module _ (free : MayReplace t to replace seen) (after : Seen) where
      -- it is moved
      pub serves_moved : DoesCall before.told after.told (folder_rename o.path to moment) (Result.Ok tt) → after.faults ≡ before.faults → (opens : BTreeMap ℕ Open) → opens.entries ≡ map (moved_entry o.path to) t.opens.entries
          → (news : told_news.News) → news ≡ move_news o.path to h.node o.folder seen → Serves t before (record t { opens = opens }) after outcomes (Ok (done.Replied (Count count) news))
      serves_moved does counted opens are news tells = subst (λ (x : told_news.News). Serves t before (record t { opens = opens }) after outcomes (Ok (done.Replied (Count count) x))) (sym tells) (
        sound_moved t o.path to opens are sound (some_path o.path below_root) (some_path to may.some) path near (or_parts _ _ free.1).1,
        (tt, (gone_told seen, ((sound.opened h.node o on).path, (on_so t o.path to opens are h.node (ap is_some on), tt)))),
        calm_by before after counted,
        leaves_by t (record t { opens = opens }) before after over (folder_rename o.path to moment) does
            (λ s left. outcomes s ≡ record { state = left; answer = step.Reply (outcome.done (Count count)); news = news_of (record t { opens = opens }) (move_news o.path to h.node o.folder seen) })
            (λ nodes told holds. (
              moved_nodes nodes to moment (table.node t sound nodes holds file h o is on),
              (moved t sound moment file count replace h o is on nodes holds to below_root may.some elsewhere not_below (may.parent nodes told) path near seen (look nodes told) free.0 free.1).comes,
              holds_so t sound moment file count replace h o is on nodes holds to below_root may.some elsewhere not_below (may.parent nodes told) path near seen (look nodes told) free.0 free.1 opens are,
              made_so t sound moment file count replace h o is on nodes holds to below_root may.some elsewhere not_below (may.parent nodes told) path near seen (look nodes told) free.0 free.1 opens are,
            )),
      )
        where
          gone_told : (x : Option Look) → IfSome (target_gone to x) (λ (c : told.Change). IsTold (record t { opens = opens }) c.named)
          gone_told None = tt
          gone_told (Some x) = path

      -- the folder refused
      pub serves_refused : (why : FolderNo) → DoesCall before.told after.told (folder_rename o.path to moment) (Result.Err why) → CountsNo before.told why before.faults after.faults → Serves t before t after outcomes (Err (folder_status why))
      serves_refused why does counted =
          refused_by t before after over (refusal_same before after (folder_rename o.path to moment) why does) sound outcomes (folder_status why)
          (refusal_by before after (folder_rename o.path to moment) why counted
          (λ nodes told missing.
          let holds = held_by t before over nodes told in
          none-some _ (sym (refusal_missing before after (folder_rename o.path to moment) why does missing nodes told)
          ∙ (moved t sound moment file count replace h o is on nodes holds to below_root may.some elsewhere not_below (may.parent nodes told) path near seen (look nodes told) free.0 free.1).comes)))
