-- What a rename comes to before the move itself: by what its units spell, and by how that path stands to the file's own.
use Rattle.std.proofs.Common.{◌≡◌, ◌∙◌, refl, sym, ap, ℕ, ◌==◌, ◌-◌, zero, suc, Bool, true, false, not, ◌&&◌, List, [], ◌∷◌, length, take, Some, Err, IsTrue}
use Rattle.std.specs.List.{list_all}
use Rattle.std.proofs.lemmas.Bool.{and_parts}
use Rattle.std.specs.Prelude.{bytes_eq}
use Rattle.std.proofs.lemmas.Slice.Eq.{bytes_eq-Decides}
use Rattle.rd_base.specs.declared.status.Status.{Status}
use Rattle.rd_base.specs.Statuses.{access_denied, invalid_parameter, object_name_invalid, object_path_not_found}
use Rattle.rd_irp.specs.declared.completion.Body.TheVariants.{Count}
use Rattle.rd_dirinfo.specs.declared.naming.Naming.TheVariants.{Exact}
use Rattle.rd_dirinfo.specs.Paths.{Names, is_below, is_name, is_path, is_same_path, is_within_limits, last_name, parent, parsed_path, path_fault}
use Rattle.rd_fileinfo.specs.declared.set_info.SetInfo.TheVariants as set
use Rattle.rd_tree.proofs.PlaceLemmas.{last_of}
use Rattle.rd_drive.specs.DriveState.{DriveState, Node, has_folder, made_path, node_of_path, node_path}
use Rattle.rd_drive.specs.Outcome.{Outcome, no_news, one_of, refused, succeeded}
use Rattle.rd_drive.specs.Rename.{relocate, respell}
use Rattle.rd_drive.specs.Renaming.{rename_path}
use Rattle.rd_drive.proofs.CheckLemmas.{check_applies, check_passed, checks_done, one_false, one_true}
use Rattle.rd_drive.proofs.PathedLemmas.{comes_no_path, comes_path}
use Rattle.rd_folder.specs.Told.{drive_over}
use Rattle.rd_folder.proofs.ExactLemmas.{same_exact}
use Rattle.rd_folder_drive.specs.declared.handle.Handle as kept
use Rattle.rd_folder_drive.specs.declared.open.Open.{Open}
use Rattle.rd_folder_drive.specs.declared.table.Table.{Table}
use Rattle.rd_folder_drive.specs.Served.{IsOver, IsOwnStatus, Seen, Serves}
use Rattle.rd_folder_drive.specs.Setting.{renames, sets_of}
use Rattle.rd_folder_drive.specs.Table.{HasNodes, IsSound, drive_of, kept_handle, marked, open_at}
use Rattle.rd_folder_drive.proofs.AskLemmas.{calm_by}
use Rattle.rd_folder_drive.proofs.AskedLemmas.{folder_marked}
use Rattle.rd_folder_drive.proofs.ServeLemmas.{refused_so}
use Rattle.rd_folder_drive.proofs.SetLemmas.{setting}
use Rattle.rd_folder_drive.proofs.TableLemmas as table

module _ (t : Table) (sound : IsSound t) (moment file count : ℕ) (replace : Bool) (h : kept.Handle) (o : Open) (is : kept_handle t file ≡ Some h) (on : open_at t h.node ≡ Some o) (nodes : List Node) (holds : HasNodes t nodes) where
  abbrev s : DriveState
  s = drive_of t nodes

  abbrev own : Node
  own = marked t.opens.entries (table.node t sound nodes holds file h o is on)

  own_path : own.path ≡ o.path
  own_path = table.node_path t sound nodes holds file h o is on

  goes : (to : Names) → renames file moment count replace to s ≡ rename_path s moment count own replace to
  goes to = table.on_open t sound nodes holds file h o is on (λ handle n. rename_path s moment count n replace to)

  -- ---- the units

  pub spells_path : (units : List ℕ) (to : Names) → parsed_path units ≡ Some to → sets_of file moment count (set.Rename replace units) s ≡ renames file moment count replace to s
  spells_path units to spelled = setting t sound moment file count h o is on nodes holds (set.Rename replace units) ∙ comes_path s moment count own replace units to spelled ∙ sym (goes to)

  pub spells_none : (units : List ℕ) (at : ℕ) → path_fault units ≡ Some at → sets_of file moment count (set.Rename replace units) s ≡ refused s object_name_invalid
  spells_none units at bad = setting t sound moment file count h o is on nodes holds (set.Rename replace units) ∙ comes_no_path s moment count own replace units at bad

  -- ---- the path

  module _ (to : Names) where
    pub to_root : (length to == 0) ≡ true → renames file moment count replace to s ≡ refused s access_denied
    to_root empty = goes to ∙ check_applies s _ _ _ empty

    module _ (some : (length to == 0) ≡ false) where
      abbrev own_again : Outcome
      own_again = respell s moment count own (made_path s to)

      abbrev elsewhere : Outcome
      elsewhere = relocate s moment count own replace to (made_path s to) (node_of_path s to)

      passed : renames file moment count replace to s ≡ one_of (is_same_path Exact to own.path) own_again elsewhere
      passed = goes to ∙ check_passed s _ _ _ some ∙ checks_done s _

      same_name : is_same_path Exact to o.path ≡ true → bytes_eq (last_name own.path) (last_name (made_path s to)) ≡ true
      same_name same =
          ap (λ (p : Names). bytes_eq (last_name p) (last_name (made_path s to))) (own_path ∙ sym (same_exact to o.path same))
          ∙ ap (bytes_eq (last_name to)) (last_of (node_path s (parent to)) (last_name to))
          ∙ (bytes_eq-Decides (last_name to) (last_name to)).1 refl

      -- to its own path
      pub to_own : is_same_path Exact to o.path ≡ true → renames file moment count replace to s ≡ succeeded s (Count count) no_news
      to_own same =
          passed ∙ one_true (is_same_path Exact to own.path) own_again elsewhere (ap (is_same_path Exact to) own_path ∙ same)
          ∙ one_true (bytes_eq (last_name own.path) (last_name (made_path s to))) _ _ (same_name same)

      module _ (other : is_same_path Exact to o.path ≡ false) where
        pub moves : renames file moment count replace to s ≡ elsewhere
        moves = passed ∙ one_false (is_same_path Exact to own.path) own_again elsewhere (ap (is_same_path Exact to) own_path ∙ other)

        -- below itself
        pub to_below : is_below Exact o.path to ≡ true → renames file moment count replace to s ≡ refused s invalid_parameter
        to_below below = moves ∙ check_applies s _ _ _ (ap (λ (p : Names). is_below Exact p to) own_path ∙ below)

        -- to where no folder is
        pub to_nowhere : is_below Exact o.path to ≡ false → has_folder (drive_over nodes) (parent to) ≡ false → renames file moment count replace to s ≡ refused s object_path_not_found
        to_nowhere past none =
            moves ∙ check_passed s _ _ _ (ap (λ (p : Names). is_below Exact p to) own_path ∙ past) ∙ check_applies s _ _ _ (ap not (folder_marked t nodes (parent to) ∙ none))

-- the names of a parent are names
pub parent_named : (to : Names) → is_path to ≡ true → list_all is_name (parent to) ≡ true
parent_named to is = taken (length to - 1) to (and_parts (list_all is_name to) (is_within_limits to) is).0
  where
    taken : (n : ℕ) (l : Names) → list_all is_name l ≡ true → list_all is_name (take n l) ≡ true
    taken zero l all = refl
    taken (suc n) [] all = refl
    taken (suc n) (x ∷ xs) all = let parts = and_parts (is_name x) (list_all is_name xs) all in λ i. parts.0 i && taken n xs parts.1 i

-- refused once the folder was asked, which told what it is
pub refused_told : (t : Table) (before after : Seen) → IsOver t before → IsSound t → (comes : DriveState → Outcome) → after ≡ before → (status : Status) → IsOwnStatus status
    → ((nodes : List Node) → before.told ≡ Some nodes → HasNodes t nodes → comes (drive_of t nodes) ≡ refused (drive_of t nodes) status) → Serves t before t after comes (Err status)
refused_told t before after over sound comes same status own each =
    refused_so t before after over (ap (λ (s : Seen). s.told) same) sound comes (calm_by before after (ap (λ (s : Seen). s.faults) same)) status own each

-- a test that is so is true
pub is_true : (b : Bool) → IsTrue b → b ≡ true
is_true true t = refl
is_true false t = absurd (cc)
