-- A listing of what a file id has open, check by check.
use Rattle.std.proofs.Common.{◌≡◌, ◌∙◌, refl, sym, ap, ℕ, Bool, true, false, not, List, [], Option, Some, None, Ok, Err, inl}
use Rattle.std.specs.Option.{option_and_then, option_map, is_some}
use Rattle.std.specs.Ordering.{nat_cmp}
use Rattle.std.specs.BTreeMap.{is_at}
use Rattle.std.proofs.lemmas.Map.Steps.{set_value_same}
use Rattle.rd_base.specs.Classes.{choice, is_listed}
use Rattle.rd_irp.specs.declared.completion.Body.TheVariants.{Buffer}
use Rattle.rd_dirinfo.specs.Entry.{entry_classes}
use Rattle.rd_dirinfo.specs.Naming.{Name}
use Rattle.rd_dirinfo.specs.Patterns.{pattern_of, pattern_fault}
use Rattle.rd_tree.specs.Places.{Place, Places, bytes_at, is_folder as is_folder_number, own_path, place}
use Rattle.rd_drive.specs.declared.handle.Handle as open_file
use Rattle.rd_drive.specs.declared.news.News as told_news
use Rattle.rd_drive.specs.declared.query_dir.Listed.{Listed}
use Rattle.rd_drive.specs.declared.store.Store.{Store}
use Rattle.rd_drive.specs.declared.store.Done.TheVariants as done
use Rattle.rd_drive.specs.DriveState.{DriveState, Node}
use Rattle.rd_drive.specs.Outcome.{Outcome, no_news, on_handle, refused, succeeded}
use Rattle.rd_drive.specs.QueryDir.{lists, next_node, query_dir, with_listing}
use Rattle.rd_base.specs.Statuses.{invalid_info_class, invalid_parameter, no_more_files, no_such_file, object_name_invalid}
use Rattle.rd_drive.specs.Store.{drive_of, handle_of, kept_handle, nothing, IsSound, Serves}
use Rattle.rd_drive.specs.Kept.{own_node}
use Rattle.rd_drive.specs.Relisted.{Finds, Relists}
use Rattle.rd_drive.proofs.CheckLemmas.{check_applies, check_passed, checks_done}
use Rattle.rd_drive.proofs.HandleLemmas.{handle_seen}
use Rattle.rd_drive.proofs.KeptLemmas.{on_own}
use Rattle.rd_drive.proofs.RelistedLemmas.{relists_sound}
use Rattle.rd_drive.proofs.ServesLemmas.{serves_quiet}

-- a number that is a folder's has no bytes
pub folder_number : (tree : Places) (n : ℕ) → is_folder_number tree n ≡ Some true → not (is_some (bytes_at tree n)) ≡ true
folder_number tree n e = by (place tree n) e
  where
    by : (o : Option Place) → option_map (λ (p : Place). not (is_some p.bytes)) o ≡ Some true → not (is_some (option_and_then (λ (p : Place). p.bytes) o)) ≡ true
    by None h = refl
    by (Some p) h = cc

module _ (s : Store) (sound : IsSound s) (file : ℕ) (h : open_file.Handle) (is : kept_handle s file ≡ Some h) (class : ℕ) where
  module _ (initial : Bool) (units : List ℕ) where
    abbrev pub comes : Outcome
    comes = on_handle (drive_of s) file (query_dir (drive_of s) file class initial units)

    goes : comes ≡ query_dir (drive_of s) file class initial units (handle_of s.tree h) (own_node s h.node.0)
    goes = on_own s sound file h is (query_dir (drive_of s) file class initial units)

    pub dir_file : not (is_some (bytes_at s.tree h.node.0)) ≡ false → comes ≡ refused (drive_of s) invalid_parameter
    dir_file e = goes ∙ check_applies (drive_of s) _ _ _ (ap not e)

    pub dir_class : not (is_some (bytes_at s.tree h.node.0)) ≡ true → is_listed (choice entry_classes class) ≡ false → comes ≡ refused (drive_of s) invalid_info_class
    dir_class e other = goes ∙ check_passed (drive_of s) _ _ _ (ap not e) ∙ check_applies (drive_of s) _ _ _ (ap not other)

  module _ (folder : not (is_some (bytes_at s.tree h.node.0)) ≡ true) (has : is_listed (choice entry_classes class) ≡ true) where
    abbrev pub listing : Bool → List ℕ → Option Name → Option Node → Outcome
    listing initial pattern last found = lists (drive_of s) file class initial (handle_of s.tree h) pattern last found

    abbrev pub found_by : List ℕ → Option Name → Option Node
    found_by pattern last = next_node (drive_of s) (own_path s.tree h.node.0) pattern last

    pub anew_invalid : (units : List ℕ) (at : ℕ) → pattern_fault units ≡ Some at → comes true units ≡ refused (drive_of s) object_name_invalid
    anew_invalid units at bad =
        goes true units ∙ check_passed (drive_of s) _ _ _ (ap not folder) ∙ check_passed (drive_of s) _ _ _ (ap not has) ∙ check_applies (drive_of s) _ _ _ (ap is_some bad)

    anew : (units : List ℕ) → pattern_fault units ≡ None → comes true units ≡ listing true (pattern_of units) None (found_by (pattern_of units) None)
    anew units good =
        goes true units ∙ check_passed (drive_of s) _ _ _ (ap not folder) ∙ check_passed (drive_of s) _ _ _ (ap not has) ∙ check_passed (drive_of s) _ _ _ (ap is_some good) ∙ checks_done (drive_of s) _

    on : comes false [] ≡ listing false h.pattern h.last (found_by h.pattern h.last)
    on = goes false [] ∙ check_passed (drive_of s) _ _ _ (ap not folder) ∙ check_passed (drive_of s) _ _ _ (ap not has) ∙ check_passed (drive_of s) _ _ _ refl ∙ checks_done (drive_of s) _

    -- the handle as it is
    same_listing : with_listing (drive_of s) file (handle_of s.tree h) h.pattern h.last ≡ drive_of s
    same_listing = ap (λ hs. record (drive_of s) { handles = hs }) (set_value_same (is_at (nat_cmp file)) (drive_of s).handles (handle_of s.tree h) (handle_seen s file ∙ ap (option_map (handle_of s.tree)) is))

    module _ (new : Store) (units : List ℕ) (good : pattern_fault units ≡ None) where
      pub anew_none : Finds (drive_of s) (own_path s.tree h.node.0) (pattern_of units) None class None → Relists s file h (pattern_of units) None new → Serves s new (comes true units) (Err no_such_file)
      anew_none none relists =
          let left = relists_sound s new sound file h is (pattern_of units) None relists in
          (left.0, inl (anew units good ∙ ap (listing true (pattern_of units) None) none ∙ ap (λ (d : DriveState). refused d no_such_file) (sym left.1)))

      pub anew_some : (found : Listed) → Finds (drive_of s) (own_path s.tree h.node.0) (pattern_of units) None class (Some found) → Relists s file h (pattern_of units) (Some found.name) new
          → (news : told_news.News) → news ≡ nothing → Serves s new (comes true units) (Ok (done.Replied (Buffer found.bytes) news))
      anew_some found (node, next, name, bytes) relists news quiet =
          let left = relists_sound s new sound file h is (pattern_of units) (Some found.name) relists in
          serves_quiet s new _ _ _ left.0 quiet
          (anew units good ∙ ap (listing true (pattern_of units) None) next
          ∙ (λ i. succeeded (with_listing (drive_of s) file (handle_of s.tree h) (pattern_of units) (Some (sym name i))) (Buffer (sym bytes i)) no_news)
          ∙ ap (λ (d : DriveState). succeeded d (Buffer found.bytes) no_news) (sym left.1))

    pub on_none : Finds (drive_of s) (own_path s.tree h.node.0) h.pattern h.last class None → Serves s s (comes false []) (Err no_more_files)
    on_none none = (sound, inl (on ∙ ap (listing false h.pattern h.last) none ∙ ap (λ (d : DriveState). refused d no_more_files) same_listing))

    pub on_some : (new : Store) (found : Listed) → Finds (drive_of s) (own_path s.tree h.node.0) h.pattern h.last class (Some found) → Relists s file h h.pattern (Some found.name) new
        → (news : told_news.News) → news ≡ nothing → Serves s new (comes false []) (Ok (done.Replied (Buffer found.bytes) news))
    on_some new found (node, next, name, bytes) relists news quiet =
        let left = relists_sound s new sound file h is h.pattern (Some found.name) relists in
        serves_quiet s new _ _ _ left.0 quiet
        (on ∙ ap (listing false h.pattern h.last) next
        ∙ (λ i. succeeded (with_listing (drive_of s) file (handle_of s.tree h) h.pattern (Some (sym name i))) (Buffer (sym bytes i)) no_news)
        ∙ ap (λ (d : DriveState). succeeded d (Buffer found.bytes) no_news) (sym left.1))
