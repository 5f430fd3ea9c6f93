-- What comes of each value that is set of a node: of its moments and attributes, of its mark, and of its end.
use Rattle.std.proofs.Common.{◌≡◌, ◌∙◌, refl, sym, ap, subst, ℕ, ◌==◌, Bool, true, false, not, ◌&&◌, ◌||◌, cond, List, [], ◌∷◌, length, map, Option, Some, None, Result}
use Rattle.std.specs.Prelude.{nat_lt, bit_and}
use Rattle.std.specs.List.{list_any}
use Rattle.std.specs.Option.{option_map, unwrap_or, is_some}
use Rattle.rd_base.specs.declared.moments.Moments.{Moments}
use Rattle.rd_base.specs.declared.status.Status.{Status}
use Rattle.rd_irp.specs.declared.completion.Body.TheVariants.{Count}
use Rattle.rd_contents.specs.Contents.{resized, max_len}
use Rattle.rd_dirinfo.specs.declared.naming.Naming.{Naming}
use Rattle.rd_dirinfo.specs.Paths.{is_parent}
use Rattle.rd_fileinfo.specs.declared.set_info.SetInfo.{SetInfo}
use Rattle.rd_fileinfo.specs.declared.set_info.SetInfo.TheVariants as set
use Rattle.rd_fileinfo.specs.SetInfo.{SpellsSetInfo}
use Rattle.rd_tree.specs.Places.{Place, Places, own_path, bytes_at, has_child, IsLive, IsWhole}
use Rattle.rd_drive.specs.declared.node.NodeState.{NodeState}
use Rattle.rd_drive.specs.declared.handle.Handle as open_file
use Rattle.rd_drive.specs.declared.store.Store.{Store}
use Rattle.rd_drive.specs.declared.store.Done.{Done}
use Rattle.rd_drive.specs.DriveState.{Node, with_node, is_folder_node, has_children}
use Rattle.rd_drive.specs.Access.{is_readonly}
use Rattle.rd_drive.specs.Changes.{marked, modified}
use Rattle.rd_drive.specs.Outcome.{Outcome, refused, succeeded, changed, no_news, given, on_handle}
use Rattle.rd_drive.specs.SetFile.{set_file, set_info_of, set_moments, set_pending, set_end, set_outcome}
use Rattle.rd_base.specs.Statuses.{access_denied, directory_not_empty, disk_full, invalid_parameter}
use Rattle.rd_drive.specs.Store.{state_of, node_with, node_of, handle_of, drive_of, kept_handle, IsSound, Serves}
use Rattle.rd_drive.specs.Kept.{own_node, place_with, set_gate, written_at, MaySet, MayNotSet}
use Rattle.rd_drive.proofs.CheckLemmas.{check_applies, check_passed, checks_done, given_some, given_none}
use Rattle.rd_drive.proofs.OrderLemmas.{order_any}
use Rattle.rd_drive.proofs.KeptLemmas.{on_own}
use Rattle.rd_drive.proofs.SetLemmas.{info_spelled, root_alone}

module _ (s : Store) (n count : ℕ) where
  -- ---- moments and attributes
  -- what is kept of a node whose moments and attributes were set
  abbrev pub basic_state : Moments → ℕ → ℕ → NodeState
  basic_state moments attributes moment = record (state_of s.states n) {
    attributes = cond (attributes == 0) (state_of s.states n).attributes (cond (not (is_some (bytes_at s.tree n))) (bit_and attributes 7) (bit_and attributes 0x27));
    moments = set_moments (state_of s.states n).moments moments moment;
  }

  pub basic_done : (moments : Moments) (attributes moment : ℕ) → set_outcome (drive_of s) moment count (own_node s n) (set.Basic moments attributes)
      ≡ succeeded (with_node (drive_of s) (node_with (basic_state moments attributes moment) (place_with s.tree n (bytes_at s.tree n)))) (Count count) (changed (marked (own_path s.tree n) ∷ []))
  basic_done moments attributes moment = refl

  -- ---- the mark
  children_seen : s.tree.naming ≡ s.naming → has_children (drive_of s) (own_path s.tree n) ≡ has_child s.tree n
  children_seen naming =
      ap (λ (m : Naming). list_any (λ (node : Node). is_parent m (own_path s.tree n) node.path) (drive_of s).nodes) (sym naming)
      ∙ order_any s.tree.naming (λ (node : Node). is_parent s.tree.naming (own_path s.tree n) node.path) (map (node_of s.states) s.tree.list)
      ∙ by s.tree.list
    where
      by : (l : List (ℕ × Place)) → list_any (λ (node : Node). is_parent s.tree.naming (own_path s.tree n) node.path) (map (node_of s.states) l) ≡ list_any (λ (e : ℕ × Place). is_parent s.tree.naming (own_path s.tree n) e.1.path) l
      by [] = refl
      by (e ∷ l) = ap (λ b. is_parent s.tree.naming (own_path s.tree n) e.1.path || b) (by l)

  module _ (naming : s.tree.naming ≡ s.naming) where
    pub mark_readonly : is_readonly (own_node s n) ≡ true → set_pending (drive_of s) count (own_node s n) true ≡ refused (drive_of s) access_denied
    mark_readonly is = check_applies (drive_of s) _ _ _ is

    pub mark_full : is_readonly (own_node s n) ≡ false → is_folder_node (own_node s n) ≡ true → has_child s.tree n ≡ true → set_pending (drive_of s) count (own_node s n) true ≡ refused (drive_of s) directory_not_empty
    mark_full writable folder full =
        check_passed (drive_of s) _ _ _ writable
        ∙ check_applies (drive_of s) _ _ _ (ap (λ b. b && has_children (drive_of s) (own_path s.tree n)) folder ∙ children_seen naming ∙ full)

    -- what is kept of a node with another mark
    abbrev pub marked_state : Bool → NodeState
    marked_state pending = record (state_of s.states n) { pending = pending }

    abbrev pub mark_made : Bool → Outcome
    mark_made pending = succeeded (with_node (drive_of s) (node_with (marked_state pending) (place_with s.tree n (bytes_at s.tree n)))) (Count count) no_news

    pub mark_cleared : (pending : Bool) → pending ≡ false → set_pending (drive_of s) count (own_node s n) pending ≡ mark_made pending
    mark_cleared pending none =
        check_passed (drive_of s) _ _ _ (ap (λ b. b && is_readonly (own_node s n)) none)
        ∙ check_passed (drive_of s) _ _ _ (ap (λ b. (b && is_folder_node (own_node s n)) && has_children (drive_of s) (own_path s.tree n)) none)
        ∙ checks_done (drive_of s) _

    pub mark_set : (pending : Bool) → pending ≡ true → is_readonly (own_node s n) ≡ false → (is_folder_node (own_node s n) && has_child s.tree n) ≡ false → set_pending (drive_of s) count (own_node s n) pending ≡ mark_made pending
    mark_set pending some writable empty =
        check_passed (drive_of s) _ _ _ (ap (λ b. b && is_readonly (own_node s n)) some ∙ writable)
        ∙ check_passed (drive_of s) _ _ _ (ap (λ b. (b && is_folder_node (own_node s n)) && has_children (drive_of s) (own_path s.tree n)) some ∙ ap (λ b. is_folder_node (own_node s n) && b) (children_seen naming) ∙ empty)
        ∙ checks_done (drive_of s) _

  -- ---- the end
  module _ (moment asked end : ℕ) where
    pub end_far : nat_lt max_len asked ≡ true → set_end (drive_of s) moment count (own_node s n) asked end ≡ refused (drive_of s) disk_full
    end_far far = check_applies (drive_of s) _ _ _ far

    pub end_done : (b : List ℕ) → bytes_at s.tree n ≡ Some b → nat_lt max_len asked ≡ false → set_end (drive_of s) moment count (own_node s n) asked end
        ≡ succeeded (with_node (drive_of s) (node_with (written_at (state_of s.states n) moment) (place_with s.tree n (Some (resized b end))))) (Count count) (changed (modified (own_path s.tree n) ∷ []))
    end_done b some near_by =
        check_passed (drive_of s) _ _ _ near_by ∙ checks_done (drive_of s) _
        ∙ ap (λ (o : Option (List ℕ)). succeeded (with_node (drive_of s) (node_with (written_at (state_of s.states n) moment) (place_with s.tree n (Some (resized (unwrap_or o []) end))))) (Count count) (changed (modified (own_path s.tree n) ∷ []))) some

-- ---- the operation, from the class that may be set on
module _ (s : Store) (sound : IsSound s) (file : ℕ) (h : open_file.Handle) (is : kept_handle s file ≡ Some h) (moment class : ℕ) (buffer : List ℕ) where
  abbrev pub comes : Outcome
  comes = on_handle (drive_of s) file (set_file (drive_of s) moment class buffer)

  abbrev setting : Option SetInfo → Outcome
  setting o = given (drive_of s) o invalid_parameter (set_outcome (drive_of s) moment (length buffer) (own_node s h.node.0))

  goes : comes ≡ set_gate (drive_of s) (handle_of s.tree h) (own_node s h.node.0) class (setting (set_info_of class buffer))
  goes = on_own s sound file h is (set_file (drive_of s) moment class buffer)

  pub set_refused : (status : Status) → MayNotSet (drive_of s) (handle_of s.tree h) (own_node s h.node.0) class status → comes ≡ refused (drive_of s) status
  set_refused status may_not = goes ∙ may_not (setting (set_info_of class buffer))

  module _ (may : MaySet (drive_of s) (handle_of s.tree h) (own_node s h.node.0) class) where
    pub set_wrong : set_info_of class buffer ≡ None → comes ≡ refused (drive_of s) invalid_parameter
    set_wrong e = goes ∙ may (setting (set_info_of class buffer)) ∙ ap setting e ∙ given_none (drive_of s) {X = SetInfo} invalid_parameter (set_outcome (drive_of s) moment (length buffer) (own_node s h.node.0))

    pub set_right : (info : SetInfo) → set_info_of class buffer ≡ Some info → comes ≡ set_outcome (drive_of s) moment (length buffer) (own_node s h.node.0) info
    set_right info e = goes ∙ may (setting (set_info_of class buffer)) ∙ ap setting e ∙ given_some (drive_of s) info invalid_parameter (set_outcome (drive_of s) moment (length buffer) (own_node s h.node.0))

    -- what serves the value serves the operation
    pub set_serves : (info : SetInfo) (tail : ℕ) → SpellsSetInfo class info tail buffer → (new : Store) (result : Result Done Status) → Serves s new (set_outcome (drive_of s) moment (length buffer) (own_node s h.node.0) info) result → Serves s new comes result
    set_serves info tail spelled new result done = subst (λ (o : Outcome). Serves s new o result) (sym (set_right info (info_spelled class info tail buffer spelled))) done

pub not_root : (tree : Places) → IsWhole tree → (n : ℕ) → IsLive tree n → (length (own_path tree n) == 0) ≡ false → 0 ≡ n → ⊥
not_root tree whole n live some is =
    let other : (n == 0) ≡ false = sym (root_alone tree whole n live) ∙ some in
    let both : true ≡ false = ap (λ (k : ℕ). k == 0) is ∙ other in absurd (cc)

pub no_folder : (o : Option (List ℕ)) → not (is_some o) ≡ false → is_some o ≡ true
no_folder None e = absurd (cc)
no_folder (Some b) e = refl

-- the end of a file is the number of its bytes
pub end_is : (r : Option ℕ) (o : Option (List ℕ)) → r ≡ option_map (length {A = ℕ}) o → unwrap_or r 0 ≡ length (unwrap_or o [])
end_is r None e = ap (λ (q : Option ℕ). unwrap_or q 0) e
end_is r (Some b) e = ap (λ (q : Option ℕ). unwrap_or q 0) e

-- a buffer that spells a value spells what that is
pub spelled_as : (class : ℕ) (buffer : List ℕ) (info other : SetInfo) → info ≡ other → (tail : ℕ) × SpellsSetInfo class info tail buffer → (tail : ℕ) × SpellsSetInfo class other tail buffer
spelled_as class buffer info other e s = subst (λ (i : SetInfo). (tail : ℕ) × SpellsSetInfo class i tail buffer) e s
