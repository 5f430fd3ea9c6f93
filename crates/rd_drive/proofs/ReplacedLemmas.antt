-- A node that gets the path of another one, which goes.
use Rattle.std.proofs.Common.{◌≡◌, ◌∙◌, refl, sym, ap, ℕ, ◌==◌, Bool, true, false, not, ◌&&◌, ◌||◌, cond, [], ◌∷◌, ◌++◌, nat_eq, Option, Some, None, Ok, Err}
use Rattle.std.specs.Option.{option_map_or, unwrap_or, is_some, IfSome}
use Rattle.std.specs.Ordering.{nat_cmp}
use Rattle.std.specs.HashMap.{get}
use Rattle.std.specs.Map.{keys_of}
use Rattle.std.specs.List.Sorted.{IsStrictlySortedBy}
use Rattle.std.proofs.lemmas.Bool.{false_from_ne_true, eqb-true}
use Rattle.std.proofs.lemmas.Option.{same_Some}
use Rattle.rd_tree.proofs.WithoutLemmas.{without_lives, without_other}
use Rattle.rd_drive.proofs.TellLemmas.{has_names}
use Rattle.rd_irp.specs.declared.completion.Body.TheVariants.{Count}
use Rattle.rd_dirinfo.specs.Naming.{Name}
use Rattle.rd_dirinfo.specs.Paths.{Names, IsSamePath, is_below, is_prefix, is_within_limits, last_name}
use Rattle.rd_tree.specs.declared.node.NodeId.{NodeId}
use Rattle.rd_tree.specs.declared.refusal.MoveNo.{MoveNo}
use Rattle.rd_tree.specs.declared.refusal.MoveNo.TheVariants as move
use Rattle.rd_tree.specs.Places as places
use Rattle.rd_tree.specs.Places.{Places, place, own_path, bytes_at, cleared, is_folder, moved, move_refusal, node_at, without, IsLive, IsWhole}
use Rattle.rd_tree.proofs.WayLemmas.{true_same}
use Rattle.rd_drive.specs.declared.store.Store.{Store}
use Rattle.rd_drive.specs.declared.store.Done.{Done}
use Rattle.rd_drive.specs.declared.store.Done.TheVariants as done
use Rattle.rd_drive.specs.declared.news.Change as told
use Rattle.rd_drive.specs.Access.{is_readonly}
use Rattle.rd_drive.specs.DriveState as drive
use Rattle.rd_drive.specs.DriveState.{Node, made_path, without_node}
use Rattle.rd_drive.specs.Changes.{removed, renamed_from, renamed_to}
use Rattle.rd_drive.specs.Kept.{own_node, IsKept}
use Rattle.rd_drive.specs.Outcome.{Outcome, changed, succeeded}
use Rattle.rd_drive.specs.Rename.{is_protected, relocate, renamed}
use Rattle.rd_drive.specs.Renaming.{changed_at, going, kind_bit, move_status, renaming, IsAbove}
use Rattle.rd_base.specs.Statuses.{no_memory}
use Rattle.rd_drive.specs.Store.{States, changes_of, state_of, drive_of, IsSound, IsTold, Serves}
use Rattle.rd_drive.proofs.KeptLemmas.{lived}
use Rattle.rd_drive.proofs.MovedLemmas.{folder_moved, live_after, live_cleared, moved_fits, own_stays}
use Rattle.rd_drive.proofs.ProtectedLemmas.{cleared_one, drive_without, not_folder, not_opened}
use Rattle.rd_drive.proofs.RefusalLemmas.{Moves, moves_as, refused_as, serves_no, shallow_at, IsTaken}
use Rattle.rd_drive.proofs.RenameLemmas.{serves_moved}
use Rattle.rd_drive.proofs.ServesLemmas.{serves_no_memory}
use Rattle.rd_drive.proofs.StoreLemmas.{all_listed, first_listed, turned}
use Rattle.rd_drive.proofs.AskedLemmas.{asked_seen}
use Rattle.rd_drive.proofs.TargetLemmas.{below_alike, folder_at, joined_at, one_at, parent_below}

-- what can't be replaced is taken, and what isn't to be
taken_as : (replace folder readonly rest : Bool) → (not (replace && not (folder || readonly || rest)) || folder) ≡ (not replace || (folder || readonly || rest))
taken_as false folder readonly rest = refl
taken_as true true readonly rest = refl
taken_as true false true rest = refl
taken_as true false false true = refl
taken_as true false false false = refl

module _ (s : Store) (sound : IsSound s) (order : IsStrictlySortedBy nat_cmp (keys_of s.handles.entries)) (node : NodeId) (live : IsLive s.tree node.0) (to : Names)
    (target : NodeId) (at : node_at s.tree to ≡ Some target.0) (differ : target.0 ≡ node.0 → ⊥) (there : IsLive s.tree target.0) (moment count : ℕ) (replace : Bool) where
  abbrev n : ℕ
  n = node.0

  abbrev t : ℕ
  t = target.0

  abbrev pub comes_over : Outcome
  comes_over = relocate (drive_of s) moment count (own_node s node.0) replace to (made_path (drive_of s) to) (Some (own_node s target.0))

  abbrev moves : Outcome
  moves = succeeded (renamed (without_node (drive_of s) (own_path s.tree target.0)) moment (own_node s node.0) (made_path (drive_of s) to)) (Count count)
      (changed (removed (own_node s target.0) ∷ renamed_from (own_path s.tree node.0) (own_node s node.0) ∷ renamed_to (made_path (drive_of s) to) (own_node s node.0) ∷ []))

  apart : node_at s.tree to ≡ Some n → ⊥
  apart e = differ (same_Some t n (sym at ∙ e))

  is_there : is_some (Some (own_node s t)) ≡ false → option_map_or (is_protected (drive_of s)) (Some (own_node s t)) false ≡ false
  is_there e = absurd (cc)

  folder_is : places.is_folder_at s.tree to ≡ drive.is_folder_node (own_node s t)
  folder_is = sym (folder_at s sound to) ∙ ap (λ (o : Option Node). option_map_or drive.is_folder_node o false) (one_at s sound to t there at)

  taken : (replaces : Bool) → replaces ≡ (replace && not (is_protected (drive_of s) (own_node s t))) → IsTaken (places.is_taken s.tree to replaces) true replace (is_protected (drive_of s) (own_node s t))
  taken replaces is =
      (λ i. is_some (at i) && (not (is i) || folder_is i))
      ∙ taken_as replace (drive.is_folder_node (own_node s t)) (is_readonly (own_node s t)) (drive.is_open (drive_of s) (own_path s.tree t))

  pub replace_starved : (new : Store) → new ≡ s → Serves s new comes_over (Err no_memory)
  replace_starved new same = serves_no_memory s new comes_over sound same

  module _ (replaces : Bool) (asked : replaces ≡ (replace && not (is_protected (drive_of s) (own_node s target.0)))) where
    pub replace_refused : (why : MoveNo) → why ≡ unwrap_or (move_refusal s.tree n to replaces) move.Memory → (new : Store) → new ≡ s → Serves s new comes_over (Err (move_status why replace))
    replace_refused why is new same =
        serves_no s new same sound comes_over (move_status why replace) (refused_as s sound n live to apart (Some (own_node s t)) replaces replace is_there (taken replaces asked) moves why is)

    module _ (allowed : move_refusal s.tree node.0 to replaces ≡ None) (other : 0 ≡ node.0 → ⊥) (below : 0 ≡ target.0 → ⊥) (some : to ≡ [] → ⊥) (after : IsWhole (moved s.tree node.0 to)) where
      passes : Moves s sound n live to apart (Some (own_node s t)) replaces replace is_there (taken replaces asked) moves
      passes = moves_as s sound n live to apart (Some (own_node s t)) replaces replace is_there (taken replaces asked) moves allowed

      free : is_protected (drive_of s) (own_node s t) ≡ false
      free = passes.replaced refl

      -- ---- what stays
      gone_alone : cleared s.tree n to ≡ without s.tree t
      gone_alone = cleared_one s.tree t n to at differ

      others : (k : ℕ) → IsLive (moved s.tree n to) k → (k == t) ≡ false
      others k lives = without_lives s.tree t k (sym (ap (λ (p : Places). is_some (place p k)) gone_alone) ∙ live_cleared s.tree sound.whole n to after k lives)

      same : (k : ℕ) → IsLive (moved s.tree n to) k → place (cleared s.tree n to) k ≡ place s.tree k
      same k lives = ap (λ (p : Places). place p k) gone_alone ∙ without_other s.tree t k (others k lives)

      stays : (k : ℕ) → (k == t) ≡ false → IsLive s.tree k → IsLive (moved s.tree n to) k
      stays k e was = live_after s.tree sound.whole n to after k (ap (λ (p : Places). place p k) gone_alone ∙ without_other s.tree t k e) was

      pub replace_lives : IsLive (moved s.tree node.0 to) node.0
      replace_lives = stays n (by (n == t) refl) live
        where
          by : (b : Bool) → (n == t) ≡ b → b ≡ false
          by true e = absurd (differ (sym (eqb-true n t e)))
          by false e = refl

      folder_stays : (folder : NodeId) → is_folder s.tree folder.0 ≡ Some true → IsLive s.tree folder.0 → IsLive (moved s.tree n to) folder.0
      folder_stays folder folds was = stays folder.0 (not_folder s sound order t there free folder.0 folds) was

      kept_same : (states : States) → ((k : ℕ) → get nat_eq states k ≡ cond (nat_eq t k) None (get nat_eq s.states k)) → (k : ℕ) → IsLive (moved s.tree n to) k → get nat_eq states k ≡ get nat_eq s.states k
      kept_same states gone k lives = gone k ∙ ap (λ b. cond b None (get nat_eq s.states k)) (turned k t (others k lives))

      pub replace_kept : (states : States) → ((k : ℕ) → get nat_eq states k ≡ cond (nat_eq target.0 k) None (get nat_eq s.states k)) → is_some (get nat_eq states node.0) ≡ true
      replace_kept states gone = ap is_some (kept_same states gone n replace_lives) ∙ sound.states n live

      -- ---- the one that goes
      same_place : IsSamePath s.tree.naming (own_path s.tree t) to
      same_place = true_same s.tree.naming (own_path s.tree t) to (first_listed s.tree sound.whole to t s.tree.list (all_listed s.tree sound.whole) at).1

      module _ (place_of : NodeId) (over : IsAbove s.tree target.0 place_of) where
        holds : IsLive (moved s.tree n to) place_of.0
        holds = folder_stays place_of over.folds over.live

        past : is_prefix s.tree.naming (own_path s.tree n) (own_path s.tree place_of.0) ≡ false
        past = false_from_ne_true (is_prefix s.tree.naming (own_path s.tree n) (own_path s.tree place_of.0)) (λ pre.
            let inside : is_below s.tree.naming (own_path s.tree n) (own_path s.tree t) ≡ true =
            parent_below s.tree.naming (own_path s.tree n) (own_path s.tree t) (has_names s.tree sound.whole t there below) (ap (is_prefix s.tree.naming (own_path s.tree n)) (sym over.path) ∙ pre) in
            let clash : true ≡ false = sym inside ∙ below_alike s.tree.naming (own_path s.tree n) (own_path s.tree t) to same_place ∙ passes.outside in
            absurd (cc))

        gone_path : own_path (moved s.tree n to) place_of.0 ++ last_name (own_path s.tree t) ∷ [] ≡ own_path s.tree t
        gone_path =
            ap (λ (p : Names). p ++ last_name (own_path s.tree t) ∷ []) (own_stays s.tree sound.whole n to after same place_of.0 holds past ∙ over.path)
            ∙ joined_at (own_path s.tree t) (has_names s.tree sound.whole t there below)

        heard : IfSome (Some (going s.tree t place_of)) (λ (c : told.Change). IsTold (moved s.tree n to) c.named)
        heard = (folder_moved s.tree sound.whole n to after same place_of.0 holds ∙ over.folds, ap is_within_limits gone_path ∙ sound.fitting t there)

        tells : changes_of (moved s.tree n to) (Some (going s.tree t place_of) ∷ []) ≡ removed (own_node s t) ∷ []
        tells = λ i. record { action = 2; path = gone_path i; bits = kind_bit (bytes_at s.tree t) } ∷ []

        pub replace_moved : (folder : NodeId) → IsAbove s.tree node.0 folder → (old : Name) → old ≡ last_name (own_path s.tree node.0)
            → (states : States) → ((k : ℕ) → get nat_eq states k ≡ cond (nat_eq target.0 k) None (get nat_eq s.states k))
            → (new : Store) → new ≡ record s { tree = moved s.tree node.0 to; states = new.states } → IsKept states new.states node.0 (changed_at (state_of states node.0) moment)
            → (returns : Done) → returns ≡ done.Replied (Count count) (renaming (Some (going s.tree target.0 place_of)) folder old node (kind_bit (bytes_at (moved s.tree node.0 to) node.0))) → Serves s new comes_over (Ok returns)
        replace_moved folder above old named_so states gone new is now returns told_so =
            let x = lived s.tree t there in
            serves_moved s sound order node live other to after same replace_lives states (kept_same states gone)
            (λ file h found. stays h.node.0 (not_opened s sound order t there free file h found) (sound.opened file h found).0)
            (moved_fits s.tree sound.whole n to after same some sound.fitting (shallow_at s.tree n to passes.shallow))
            folder above (folder_stays folder above.folds above.live) old named_so moment new.states now count (Some (going s.tree t place_of)) (removed (own_node s t) ∷ []) heard tells comes_over
            (passes.served ∙ (λ i. succeeded (renamed (sym (drive_without s sound t x.0 x.1 (cleared s.tree n to) gone_alone) i) moment (own_node s n) (asked_seen s sound to i)) (Count count)
            (changed (removed (own_node s t) ∷ renamed_from (own_path s.tree n) (own_node s n) ∷ renamed_to (asked_seen s sound to i) (own_node s n) ∷ []))))
            new is returns told_so
