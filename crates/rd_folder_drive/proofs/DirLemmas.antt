-- A listing, check by check, and what it gives next.
use Rattle.std.proofs.Common.{◌≡◌, ◌∙◌, refl, sym, ap, ℕ, Bool, true, false, not, cond, ◌&&◌, List, [], ◌∷◌, map, find, length, ◌≤◌, arith, Option, Some, None}
use Rattle.std.specs.Prelude.{nat_le}
use Rattle.std.specs.List.{list_all}
use Rattle.std.proofs.lemmas.Bool.{and_parts, leb-true}
use Rattle.std.specs.Option.{option_map, is_some}
use Rattle.std.specs.Ordering.{nat_cmp}
use Rattle.std.specs.BTreeMap.{is_at}
use Rattle.std.proofs.lemmas.Map.Steps.{set_value_same}
use Rattle.rd_base.specs.Classes.{choice, is_listed}
use Rattle.rd_base.specs.Statuses.{invalid_info_class, invalid_parameter, no_more_files, no_such_file, object_name_invalid}
use Rattle.rd_dirinfo.specs.declared.naming.Naming.TheVariants.{Exact}
use Rattle.rd_dirinfo.specs.Entry.{entry_classes}
use Rattle.rd_dirinfo.specs.Naming.{Name}
use Rattle.rd_dirinfo.specs.Paths.{Names, is_dots, is_name, is_name_unit, most_name_units, is_parent, last_name}
use Rattle.rd_dirinfo.specs.Patterns.{is_wanted, pattern_fault, pattern_of}
use Rattle.rd_irp.specs.declared.completion.Body.TheVariants.{Buffer}
use Rattle.rd_drive.specs.DriveState.{DriveState, Node, is_folder_node}
use Rattle.rd_drive.specs.Outcome.{Outcome, no_news, on_handle, refused, succeeded}
use Rattle.rd_drive.specs.QueryDir.{lists, next_node, query_dir, with_listing}
use Rattle.rd_drive.proofs.CheckLemmas.{check_applies, check_passed, checks_done}
use Rattle.rd_folder.specs.Told.{drive_over}
use Rattle.rd_folder_drive.specs.declared.handle.Handle as kept
use Rattle.rd_folder_drive.specs.declared.open.Open.{Open}
use Rattle.rd_folder_drive.specs.declared.query_dir.Entered.{Entered}
use Rattle.rd_folder_drive.specs.declared.table.Table.{Table}
use Rattle.rd_folder_drive.specs.Listing.{FindsNext}
use Rattle.rd_folder_drive.specs.Table.{HasNodes, IsSound, drive_of, handle_of, kept_handle, marked, open_at}
use Rattle.rd_folder_drive.proofs.TableLemmas as table
use Rattle.rd_folder_drive.proofs.TableLemmas.{handle_seen}

-- what isn't somewhere is nowhere
pub nowhere : (o : Option ℕ) → ((at : ℕ) → o ≡ Some at → ⊥) → o ≡ None
nowhere None not_there = refl
nowhere (Some at) not_there = absurd (not_there at refl)

-- a name isn't long
pub name_short : (name : Name) → is_name name ≡ true → length name ≤ 4096
name_short name is = few (second (nat_le 1 (length name)) (nat_le (length name) most_name_units) (list_all is_name_unit name) (not (is_dots name)) is)
  where
    few : nat_le (length name) most_name_units ≡ true → length name ≤ 4096
    few e = let most : length name ≤ 255 = leb-true (length name) 255 e in omega (arith, most)

    second : (a b c d : Bool) → (a && b && c && d) ≡ true → b ≡ true
    second a b c d e = (and_parts a b (and_parts (a && b) c (and_parts (a && b && c) d e).0).0).1

-- the first that is listed next, where marks don't tell
next_marked : (opens : List (ℕ × Open)) (path : Names) (pattern : List ℕ) (last : Option Name) (nodes : List Node)
    → find (λ (node : Node). is_parent Exact path node.path && is_wanted Exact last pattern (last_name node.path)) (map (marked opens) nodes)
    ≡ option_map (marked opens) (find (λ (node : Node). is_parent Exact path node.path && is_wanted Exact last pattern (last_name node.path)) nodes)
next_marked opens path pattern last [] = refl
next_marked opens path pattern last (node ∷ nodes) = by (next_marked opens path pattern last nodes) (is_parent Exact path node.path && is_wanted Exact last pattern (last_name node.path))
  where
    passes : Node → Bool
    passes n = is_parent Exact path n.path && is_wanted Exact last pattern (last_name n.path)

    by : find passes (map (marked opens) nodes) ≡ option_map (marked opens) (find passes nodes) → (b : Bool) → cond b (Some (marked opens node)) (find passes (map (marked opens) nodes)) ≡ option_map (marked opens) (cond b (Some node) (find passes nodes))
    by later true = refl
    by later false = later

module _ (t : Table) (sound : IsSound t) (file : ℕ) (h : kept.Handle) (o : Open) (is : kept_handle t file ≡ Some h) (on : open_at t h.node ≡ Some o) (class : ℕ) (nodes : List Node) (holds : HasNodes t nodes) where
  abbrev pub s : DriveState
  s = drive_of t nodes

  abbrev pub node : Node
  node = table.node t sound nodes holds file h o is on

  kind : is_folder_node node ≡ o.folder
  kind = table.kind t sound nodes holds file h o is on

  module _ (initial : Bool) (units : List ℕ) where
    abbrev pub comes : DriveState → Outcome
    comes s = on_handle s file (query_dir s file class initial units)

    goes : comes s ≡ query_dir s file class initial units (handle_of t h) (marked t.opens.entries node)
    goes = table.on_open t sound nodes holds file h o is on (query_dir s file class initial units)

    pub dir_file : o.folder ≡ false → comes s ≡ refused s invalid_parameter
    dir_file plain = goes ∙ check_applies s _ _ _ (ap not (kind ∙ plain))

    pub dir_class : o.folder ≡ true → is_listed (choice entry_classes class) ≡ false → comes s ≡ refused s invalid_info_class
    dir_class folder other = goes ∙ check_passed s _ _ _ (ap not (kind ∙ folder)) ∙ check_applies s _ _ _ (ap not other)

  module _ (folder : o.folder ≡ true) (has : is_listed (choice entry_classes class) ≡ true) where
    abbrev listing : Bool → List ℕ → Option Name → Option Node → Outcome
    listing initial pattern last found = lists s file class initial (handle_of t h) pattern last found

    -- what the drive lists next is the folder's, marked
    next_is : (pattern : List ℕ) (last : Option Name) → next_node s (marked t.opens.entries node).path pattern last ≡ option_map (marked t.opens.entries) (next_node (drive_over nodes) o.path pattern last)
    next_is pattern last =
        ap (λ (p : Names). next_node s p pattern last) (table.node_path t sound nodes holds file h o is on) ∙ next_marked t.opens.entries o.path pattern last nodes

    pub anew_invalid : (units : List ℕ) (at : ℕ) → pattern_fault units ≡ Some at → comes true units s ≡ refused s object_name_invalid
    anew_invalid units at bad =
        goes true units ∙ check_passed s _ _ _ (ap not (kind ∙ folder)) ∙ check_passed s _ _ _ (ap not has) ∙ check_applies s _ _ _ (ap is_some bad)

    anew : (units : List ℕ) → pattern_fault units ≡ None → comes true units s ≡ listing true (pattern_of units) None (option_map (marked t.opens.entries) (next_node (drive_over nodes) o.path (pattern_of units) None))
    anew units good =
        goes true units ∙ check_passed s _ _ _ (ap not (kind ∙ folder)) ∙ check_passed s _ _ _ (ap not has) ∙ check_passed s _ _ _ (ap is_some good) ∙ checks_done s _
        ∙ ap (listing true (pattern_of units) None) (next_is (pattern_of units) None)

    further : (units : List ℕ) → comes false units s ≡ listing false h.pattern h.last (option_map (marked t.opens.entries) (next_node (drive_over nodes) o.path h.pattern h.last))
    further units =
        goes false units ∙ check_passed s _ _ _ (ap not (kind ∙ folder)) ∙ check_passed s _ _ _ (ap not has) ∙ check_passed s _ _ _ refl ∙ checks_done s _
        ∙ ap (listing false h.pattern h.last) (next_is h.pattern h.last)

    -- the handle as it is
    same_listing : with_listing s file (handle_of t h) h.pattern h.last ≡ s
    same_listing = ap (λ hs. record s { handles = hs }) (set_value_same (is_at (nat_cmp file)) s.handles (handle_of t h) (handle_seen t nodes file ∙ ap (option_map (handle_of t)) is))

    module _ (units : List ℕ) (good : pattern_fault units ≡ None) where
      pub anew_none : FindsNext nodes o.path (pattern_of units) None class None → comes true units s ≡ refused (with_listing s file (handle_of t h) (pattern_of units) None) no_such_file
      anew_none none = anew units good ∙ ap (λ (found : Option Node). listing true (pattern_of units) None (option_map (marked t.opens.entries) found)) none

      pub anew_some : (found : Entered) → FindsNext nodes o.path (pattern_of units) None class (Some found) → comes true units s ≡ succeeded (with_listing s file (handle_of t h) (pattern_of units) (Some found.name)) (Buffer found.bytes) no_news
      anew_some found (next, there, name, bytes) =
          anew units good ∙ ap (λ (found : Option Node). listing true (pattern_of units) None (option_map (marked t.opens.entries) found)) there
          ∙ (λ i. succeeded (with_listing s file (handle_of t h) (pattern_of units) (Some (sym name i))) (Buffer (sym bytes i)) no_news)

    module _ (units : List ℕ) where
      pub on_none : FindsNext nodes o.path h.pattern h.last class None → comes false units s ≡ refused s no_more_files
      on_none none = further units ∙ ap (λ (found : Option Node). listing false h.pattern h.last (option_map (marked t.opens.entries) found)) none ∙ ap (λ (d : DriveState). refused d no_more_files) same_listing

      pub on_some : (found : Entered) → FindsNext nodes o.path h.pattern h.last class (Some found) → comes false units s ≡ succeeded (with_listing s file (handle_of t h) h.pattern (Some found.name)) (Buffer found.bytes) no_news
      on_some found (next, there, name, bytes) =
          further units ∙ ap (λ (found : Option Node). listing false h.pattern h.last (option_map (marked t.opens.entries) found)) there
          ∙ (λ i. succeeded (with_listing s file (handle_of t h) h.pattern (Some (sym name i))) (Buffer (sym bytes i)) no_news)
