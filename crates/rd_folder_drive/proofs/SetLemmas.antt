-- What is set of an open file: which class may be set, and what comes of each value but a new path.
use Rattle.std.proofs.Common.{◌≡◌, ◌∙◌, refl, sym, ap, subst, ℕ, ◌≤◌, ◌==◌, Bool, true, false, not, cond, List, [], ◌∷◌, length, min, nat_lt, Option, Some, None, Result, Ok, Err, OnOk, IfErr, arith}
use Rattle.std.specs.Option.{option_and_then, option_map}
use Rattle.std.proofs.lemmas.Bool.Decides.{nat_tests}
use Rattle.std.proofs.lemmas.Option.{same_Some}
use Rattle.rd_base.specs.declared.moments.Moments.{Moments}
use Rattle.rd_base.specs.declared.status.Status.{Status}
use Rattle.rd_base.specs.Statuses.{disk_full, invalid_parameter}
use Rattle.rd_irp.specs.declared.completion.Body.TheVariants.{Count}
use Rattle.rd_contents.specs.Contents.{max_len, resized}
use Rattle.rd_dirinfo.specs.Paths.{Names}
use Rattle.rd_fileinfo.specs.declared.set_info.SetInfo.{SetInfo}
use Rattle.rd_fileinfo.specs.declared.set_info.SetInfo.TheVariants as set
use Rattle.rd_drive.specs.Changes.{modified}
use Rattle.rd_drive.specs.Changes as changes
use Rattle.rd_drive.specs.DriveState.{DriveState, Node, bytes_of, is_folder_node, new_node}
use Rattle.rd_drive.specs.Kept.{MayNotSet, MaySet, set_gate}
use Rattle.rd_drive.specs.Outcome.{Outcome, changed, fault, given, on_handle, refused, succeeded}
use Rattle.rd_drive.specs.ReadWrite.{node_with_bytes}
use Rattle.rd_drive.specs.SetFile.{set_checks, set_end, set_file, set_info_of, set_outcome, with_basic}
use Rattle.rd_drive.proofs.CheckLemmas.{check_applies, check_passed, checks_done, given_none, given_some}
use Rattle.rd_drive.proofs.SetLemmas.{allocation_of_file, end_of_file_of_file, gate_one, gate_two, granted, mark_of_other, rename_of_other}
use Rattle.rd_folder.specs.declared.look.Look.{Look}
use Rattle.rd_folder.specs.FolderCalls.{ended_at, folder_mark, folder_resize, leaving, look_of, marked_so, node_there, only_if, with_put}
use Rattle.rd_folder_drive.specs.declared.handle.Handle as kept
use Rattle.rd_folder_drive.specs.declared.open.Open.{Open}
use Rattle.rd_folder_drive.specs.declared.table.Table.{Table}
use Rattle.rd_folder_drive.specs.Served.{IsOwnStatus}
use Rattle.rd_folder_drive.specs.Setting.{MayNotSetOpen, MaySetOpen, OfOpen, ends, sets_of}
use Rattle.rd_folder_drive.specs.Table.{HasNodes, IsNodeOf, IsSound, drive_of, handle_of, kept_handle, marked, open_at, path_at}
use Rattle.rd_folder_drive.proofs.AskedLemmas.{look_is}
use Rattle.rd_folder_drive.proofs.TableLemmas as table

-- ---- which class may be set

-- what says the status of a check
pub own_one : (test : Bool) (status : Status) → IsOwnStatus status → (r : Result (Unit {0}) Status) → r ≡ cond test (Err status) granted → IfErr r IsOwnStatus
own_one test status own r e = subst (λ (q : Result (Unit {0}) Status). IfErr q IsOwnStatus) (sym e) (by test)
  where
    by : (b : Bool) → IfErr (cond b (Err status) granted) IsOwnStatus
    by true = own
    by false = tt

pub own_two : (test other : Bool) (status second : Status) → IsOwnStatus status → IsOwnStatus second → (r : Result (Unit {0}) Status) → r ≡ cond test (Err status) (cond other (Err second) granted) → IfErr r IsOwnStatus
own_two test other status second own owned r e = subst (λ (q : Result (Unit {0}) Status). IfErr q IsOwnStatus) (sym e) (by test other)
  where
    by : (b c : Bool) → IfErr (cond b (Err status) (cond c (Err second) granted)) IsOwnStatus
    by true c = own
    by false true = owned
    by false false = tt

module _ (h : kept.Handle) (o : Open) (class : ℕ) where
  gathered : (r : Result (Unit {0}) Status)
      → ((t : Table) (s : DriveState) (node : Node) → node.path ≡ o.path → IsNodeOf o node → OnOk r (MaySet s (handle_of t h) node class) × IfErr r (MayNotSet s (handle_of t h) node class))
      → OnOk r (MaySetOpen h o class) × IfErr r (MayNotSetOpen h o class)
  gathered (Ok x) each = ((λ t s node at kind. (each t s node at kind).0), tt)
  gathered (Err status) each = (tt, (λ t s node at kind. (each t s node at kind).1))

  -- one with one check, which sees the path alone
  pub open_one : (test : Names → Bool) (status : Status) → ((t : Table) (node : Node) → set_checks (handle_of t h) node class ≡ Some ((test node.path, fault status) ∷ [])) → (r : Result (Unit {0}) Status)
      → r ≡ cond (test o.path) (Err status) granted → OnOk r (MaySetOpen h o class) × IfErr r (MayNotSetOpen h o class)
  open_one test status is r e =
      gathered r (λ t s node at kind. gate_one s (handle_of t h) node class (test node.path) status (is t node) r (e ∙ ap (λ (p : Names). cond (test p) (Err status) granted) (sym at)))

  -- one with two, of which the first sees the kind alone
  pub open_two : (other : Bool) (status second : Status) → ((t : Table) (node : Node) → set_checks (handle_of t h) node class ≡ Some ((is_folder_node node, fault status) ∷ (other, fault second) ∷ [])) → (r : Result (Unit {0}) Status)
      → r ≡ cond o.folder (Err status) (cond other (Err second) granted) → OnOk r (MaySetOpen h o class) × IfErr r (MayNotSetOpen h o class)
  open_two other status second is r e =
      gathered r (λ t s node at kind. gate_two s (handle_of t h) node class (is_folder_node node) other status second (is t node) r (e ∙ ap (λ (b : Bool). cond b (Err status) (cond other (Err second) granted)) (sym kind)))

  -- ---- what a class that may be set says of what is open
  like : Node
  like = new_node o.path (cond o.folder None (Some [])) 0 0

  like_kind : is_folder_node like ≡ o.folder
  unfolding like
  like_kind = by o.folder
    where
      by : (b : Bool) → is_folder_node (new_node o.path (cond b None (Some [])) 0 0) ≡ b
      by true = refl
      by false = refl

  like_path : like.path ≡ o.path
  unfolding like
  like_path = refl

  module _ (t : Table) (s : DriveState) (may : MaySetOpen h o class) where
    pub renames_other : class ≡ 0x0a → (length o.path == 0) ≡ false
    renames_other e = ap (λ (p : Names). length p == 0) (sym like_path) ∙ rename_of_other s (handle_of t h) like class e (may t s like like_path like_kind)

    pub marks_other : class ≡ 0x0d → (length o.path == 0) ≡ false
    marks_other e = ap (λ (p : Names). length p == 0) (sym like_path) ∙ mark_of_other s (handle_of t h) like class e (may t s like like_path like_kind)

    pub cuts_file : class ≡ 0x13 → o.folder ≡ false
    cuts_file e = sym like_kind ∙ allocation_of_file s (handle_of t h) like class e (may t s like like_path like_kind)

    pub ends_file : class ≡ 0x14 → o.folder ≡ false
    ends_file e = sym like_kind ∙ end_of_file_of_file s (handle_of t h) like class e (may t s like like_path like_kind)

-- what holds of what a file id has open
pub of_open : (t : Table) (file : ℕ) (P : Open → Type 0) (h : kept.Handle) (o : Open) → kept_handle t file ≡ Some h → open_at t h.node ≡ Some o → P o → OfOpen t file P
of_open t file P h o is on holds i p at open_too = subst P (same_Some o p (sym on ∙ ap (λ (x : kept.Handle). open_at t x.node) (same_Some h i (sym is ∙ at)) ∙ open_too)) holds

-- ---- an open file

module _ (t : Table) (sound : IsSound t) (moment file count : ℕ) (h : kept.Handle) (o : Open) (is : kept_handle t file ≡ Some h) (on : open_at t h.node ≡ Some o) (nodes : List Node) (holds : HasNodes t nodes) where
  abbrev pub s : DriveState
  s = drive_of t nodes

  abbrev pub node : Node
  node = table.node t sound nodes holds file h o is on

  abbrev pub own : Node
  own = marked t.opens.entries node

  kind : is_folder_node node ≡ o.folder
  kind = table.kind t sound nodes holds file h o is on

  -- a value that is set is set of the node
  pub setting : (info : SetInfo) → sets_of file moment count info s ≡ set_outcome s moment count own info
  setting info = table.on_open t sound nodes holds file h o is on (λ handle n. set_outcome s moment count n info)

  -- ---- moments and attributes

  module _ (asked : Moments) (attributes : ℕ) where
    abbrev pub basic_node : Node
    basic_node = with_basic node asked attributes moment

    pub basic_does : (a : ℕ) (m : Moments) → a ≡ basic_node.attributes → m ≡ basic_node.moments → folder_mark o.path a m nodes ≡ Some (tt, with_put nodes basic_node)
    basic_does a m same kept =
        ap (λ (found : Option Node). option_and_then (λ (n : Node). option_and_then (λ (after : Node). leaving (with_put nodes after)) (marked_so a m n)) found) (table.there t sound nodes holds file h o is on)
        ∙ (λ i. Some (tt, with_put nodes (record node { attributes = same i; moments = kept i })))

    pub basic_done : sets_of file moment count (set.Basic asked attributes) s ≡ succeeded (drive_of t (with_put nodes basic_node)) (Count count) (changed (changes.marked (path_at t h.node) ∷ []))
    basic_done =
        setting (set.Basic asked attributes)
        ∙ (λ i. succeeded (sym (table.with_seen t nodes basic_node) i) (Count count) (changed (changes.marked (table.node_at t sound nodes holds file h o is on i) ∷ [])))

  -- ---- the end

  module _ (asked end : ℕ) where
    ending : ends file moment count asked end s ≡ set_end s moment count own asked end
    ending = table.on_open t sound nodes holds file h o is on (λ handle n. set_end s moment count n asked end)

    pub end_far : nat_lt max_len asked ≡ true → ends file moment count asked end s ≡ refused s disk_full
    end_far far = ending ∙ check_applies s _ _ _ far

    module _ (plain : o.folder ≡ false) (most : end ≤ asked) (within : nat_lt max_len asked ≡ false) where
      abbrev pub end_node : Node
      end_node = node_with_bytes node moment (resized (bytes_of node) end)

      end_within : nat_lt max_len end ≡ false
      end_within = by max_len within
        where
          by : (k : ℕ) → nat_lt k asked ≡ false → nat_lt k end ≡ false
          by k e = grind (arith, nat_tests, most, e)

      pub end_does : folder_resize o.path end moment nodes ≡ Some (tt, with_put nodes end_node)
      end_does =
          ap (λ (found : Option Node). option_and_then (λ (n : Node). option_and_then (λ (after : Node). leaving (with_put nodes after)) (ended_at end moment n)) found) (table.there t sound nodes holds file h o is on)
          ∙ ap (λ (c : Bool). option_and_then (λ (after : Node). leaving (with_put nodes after)) (cond (not c) (only_if (not (nat_lt max_len end)) (Some end_node)) None)) (kind ∙ plain)
          ∙ ap (λ (c : Bool). option_and_then (λ (after : Node). leaving (with_put nodes after)) (only_if (not c) (Some end_node))) end_within

      pub end_kind : is_folder_node end_node ≡ is_folder_node node
      end_kind = sym (kind ∙ plain)

      pub end_done : ends file moment count asked end s ≡ succeeded (drive_of t (with_put nodes end_node)) (Count count) (changed (modified (path_at t h.node) ∷ []))
      end_done =
          ending ∙ check_passed s _ _ _ within ∙ checks_done s _
          ∙ (λ i. succeeded (sym (table.with_seen t nodes end_node) i) (Count count) (changed (modified (table.node_at t sound nodes holds file h o is on i) ∷ [])))

  -- an allocation cuts at the lesser of itself and the end that was told
  pub cut_same : (size end : ℕ) (found : Option Look) (look : Look) → option_map look_of (node_there nodes o.path) ≡ found → found ≡ Some look → end ≡ min size look.end → sets_of file moment count (set.Allocation size) s ≡ ends file moment count size end s
  cut_same size end found look told some e =
      setting (set.Allocation size)
      ∙ ap (λ (k : ℕ). set_end s moment count own size k) (sym (e ∙ ap (λ (l : Look). min size l.end) (look_is nodes o.path node (table.there t sound nodes holds file h o is on) found told look some)))
      ∙ sym (ending size end)

-- ---- the operation

module _ (t : Table) (sound : IsSound t) (moment file class : ℕ) (buffer : List ℕ) (h : kept.Handle) (o : Open) (is : kept_handle t file ≡ Some h) (on : open_at t h.node ≡ Some o) (nodes : List Node) (holds : HasNodes t nodes) where
  abbrev pub file_sets : DriveState → Outcome
  file_sets s = on_handle s file (set_file s moment class buffer)

  abbrev reading : Option SetInfo → Outcome
  reading found = given (drive_of t nodes) found invalid_parameter (set_outcome (drive_of t nodes) moment (length buffer) (marked t.opens.entries (table.node t sound nodes holds file h o is on)))

  goes : file_sets (drive_of t nodes) ≡ set_gate (drive_of t nodes) (handle_of t h) (marked t.opens.entries (table.node t sound nodes holds file h o is on)) class (reading (set_info_of class buffer))
  goes = table.on_open t sound nodes holds file h o is on (set_file (drive_of t nodes) moment class buffer)

  pub set_refused : (status : Status) → MayNotSetOpen h o class status → file_sets (drive_of t nodes) ≡ refused (drive_of t nodes) status
  set_refused status may_not =
      goes ∙ may_not t (drive_of t nodes) (marked t.opens.entries (table.node t sound nodes holds file h o is on)) (table.node_path t sound nodes holds file h o is on) (table.kind t sound nodes holds file h o is on) (reading (set_info_of class buffer))

  module _ (may : MaySetOpen h o class) where
    passed : file_sets (drive_of t nodes) ≡ reading (set_info_of class buffer)
    passed =
        goes ∙ may t (drive_of t nodes) (marked t.opens.entries (table.node t sound nodes holds file h o is on)) (table.node_path t sound nodes holds file h o is on) (table.kind t sound nodes holds file h o is on) (reading (set_info_of class buffer))

    pub set_wrong : set_info_of class buffer ≡ None → file_sets (drive_of t nodes) ≡ refused (drive_of t nodes) invalid_parameter
    set_wrong e = passed ∙ ap reading e ∙ given_none (drive_of t nodes) {X = SetInfo} invalid_parameter _

    pub set_right : (info : SetInfo) → set_info_of class buffer ≡ Some info → file_sets (drive_of t nodes) ≡ sets_of file moment (length buffer) info (drive_of t nodes)
    set_right info e = passed ∙ ap reading e ∙ given_some (drive_of t nodes) info invalid_parameter _ ∙ sym (setting t sound moment file (length buffer) h o is on nodes holds info)
