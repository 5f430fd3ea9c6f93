-- What a Create leaves and answers: what is there is opened, as it is or without its bytes, or a node is made.
use Rattle.std.proofs.Common.{◌≡◌, ◌∙◌, refl, sym, ap, subst, inl, inr, ℕ, Bool, true, false, not, ◌&&◌, cond, List, [], ◌∷◌, map, Option, Some, None, Result, Ok, Err}
use Rattle.std.specs.List.{list_all}
use Rattle.std.specs.Option.{is_some, option_and_then, option_map_or}
use Rattle.std.specs.Ordering.{is_lt}
use Rattle.std.proofs.lemmas.Bool.{and_parts}
use Rattle.std.proofs.lemmas.Option.{none-some, same_Some}
use Rattle.rd_dirinfo.specs.declared.naming.Naming.TheVariants.{Exact}
use Rattle.rd_dirinfo.specs.Paths.{Names, is_name, is_path, is_within_limits, parent, path_cmp}
use Rattle.rd_irp.specs.declared.completion.Body.TheVariants.{Created}
use Rattle.rd_drive.specs.declared.asked.Asked.{Asked}
use Rattle.rd_drive.specs.Access.{new_file_attributes}
use Rattle.rd_drive.specs.Changes.{modified}
use Rattle.rd_drive.specs.Create.{found_information, made_attributes, made_node, new_handle, opened, replaced, wants_folder}
use Rattle.rd_drive.specs.DriveState.{DriveState, Node, add_node, has_folder, is_at_path, is_folder_node, made_path, new_node, with_new_handle, with_new_node}
use Rattle.rd_drive.specs.Made.{create_at}
use Rattle.rd_drive.specs.Outcome.{Outcome, changed, no_news, succeeded}
use Rattle.rd_folder.specs.declared.folder.FolderNo.{FolderNo}
use Rattle.rd_folder.specs.FolderCalls.{emptied, folder_make, folder_replace, leaving, may_make, node_there, only_if, with_put}
use Rattle.rd_folder.specs.FolderLaws.{CountsNo, DoesCall}
use Rattle.rd_folder.specs.Told.{drive_over, IsFolderMap, Rises}
use Rattle.rd_folder.specs.InMemory.{IsSamePlace}
use Rattle.rd_folder.proofs.ExactLemmas.{exact_same, same_exact}
use Rattle.rd_folder.proofs.HasLemmas.{Has, add_has, find_has, map_has, there_is}
use Rattle.rd_folder.proofs.MapLemmas.{add_map, made_same, no_root}
use Rattle.rd_folder_drive.specs.declared.news.News as told_news
use Rattle.rd_folder_drive.specs.declared.news.Named.TheVariants as named
use Rattle.rd_folder_drive.specs.declared.open.Open.{Open}
use Rattle.rd_folder_drive.specs.declared.table.Done.TheVariants as done
use Rattle.rd_folder_drive.specs.declared.table.Table.{Table}
use Rattle.rd_folder_drive.specs.Opening.{Becomes, IsAsBefore, IsAtPath, IsFree, IsHolding, IsMaking, IsReplacing, MayHold, MayOpen}
use Rattle.rd_folder_drive.specs.Served.{IsOver, Seen, Serves, about, folder_status, nothing}
use Rattle.rd_folder_drive.specs.Table.{HasNodes, IsNodeOf, IsSound, drive_of, marked, open_at, path_at}
use Rattle.rd_folder_drive.proofs.AskLemmas.{calm_by, refusal_by, refusal_missing, refusal_same}
use Rattle.rd_folder_drive.proofs.HoldLemmas.{becomes_path, serves_before}
use Rattle.rd_folder_drive.proofs.OpeningLemmas.{opened_here, opening_drive, opening_holds, opening_sound}
use Rattle.rd_folder_drive.proofs.PutLemmas.{put_holds}
use Rattle.rd_folder_drive.proofs.ServeLemmas.{done_with, held_by, leaves_by}
use Rattle.rd_folder_drive.proofs.TableLemmas.{nothing_pending, with_seen}

-- what is held is of the kind of its node
becomes_kind : (t : Table) (asked : Asked) (path : Names) (folder : Bool) (nodes : List Node) → HasNodes t nodes → (node : Node) → node_there nodes path ≡ Some node → is_folder_node node ≡ folder
    → (found : Option ℕ) → IsAtPath t path found → (n : ℕ) (o : Open) → Becomes t asked path folder found n o → IsNodeOf o node
becomes_kind t asked path folder nodes holds node there kind None at n o (same, is) = kind ∙ sym (ap (λ (x : Open). x.folder) is)
becomes_kind t asked path folder nodes holds node there kind (Some m) (q, on, at) n o (p, was, same, is) =
    let found = holds.there m q on in
    let one : node ≡ found.0 = same_Some node found.0 (sym there ∙ ap (node_there nodes) (sym at) ∙ found.1) in
    ap is_folder_node one ∙ found.2 ∙ ap (λ (x : Open). x.folder) (same_Some q p (sym on ∙ was)) ∙ sym (ap (λ (x : Open). x.folder) is)

-- ---- what the folder makes of its nodes

-- a file that loses its bytes
pub replace_does : (asked : Asked) (moment : ℕ) (path : Names) (nodes : List Node) (node : Node) → node_there nodes path ≡ Some node → is_folder_node node ≡ false → (attributes : ℕ) → attributes ≡ new_file_attributes asked.attributes
    → folder_replace path attributes moment nodes ≡ Some (tt, with_put nodes (replaced asked moment node))
replace_does asked moment path nodes node there file attributes is =
    ap (λ (a : ℕ). folder_replace path a moment nodes) is
    ∙ ap (λ (found : Option Node). option_and_then (λ (n : Node). option_and_then (λ (after : Node). leaving (with_put nodes after)) (emptied (new_file_attributes asked.attributes) moment n)) found) there
    ∙ ap (λ (b : Bool). option_and_then (λ (after : Node). leaving (with_put nodes after)) (only_if (not b) (Some (replaced asked moment node)))) file

-- a node that is made
pub make_does : (asked : Asked) (moment : ℕ) (path : Names) (nodes : List Node) → Rises nodes → (path ≡ [] → ⊥) → node_there nodes path ≡ None → has_folder (drive_over nodes) (parent path) ≡ true
    → (folder : Bool) → folder ≡ wants_folder asked → (attributes : ℕ) → attributes ≡ made_attributes asked → folder_make path folder attributes moment nodes ≡ Some (tt, add_node Exact (made_node asked path moment) nodes)
make_does asked moment path nodes rises some none above folder is attributes stored =
    (λ i. folder_make path (is i) (stored i) moment nodes)
    ∙ ap (λ (b : Bool). only_if b (leaving (add_node Exact (new_node (made_path (drive_over nodes) path) bytes (made_attributes asked) moment) nodes))) may
    ∙ ap (λ (p : Names). Some (tt, add_node Exact (new_node p bytes (made_attributes asked) moment) nodes)) (made_same nodes rises path some above)
  where
    bytes : Option (List ℕ)
    bytes = cond (wants_folder asked) None (Some [])

    may : may_make nodes path ≡ true
    may = λ i. not (no_root path some i) && (above i && not (is_some (none i)))

-- ---- nodes with one changed or one more

-- the changed node is at its path
put_there : (t : Table) (nodes : List Node) → HasNodes t nodes → (path : Names) (old new : Node) → node_there nodes path ≡ Some old → IsSamePlace old new → node_there (with_put nodes new) path ≡ Some new
put_there t nodes holds path old new there same =
    let found : Has nodes old × (is_at_path Exact path old ≡ true) = find_has (is_at_path Exact path) nodes old there in
    let at : new.path ≡ path = same.0 ∙ same_exact old.path path found.1 in
    let here : is_at_path Exact new.path old ≡ true = exact_same old.path new.path (sym same.0) in
    let has : Has (with_put nodes new) new =
    subst (Has (with_put nodes new)) (ap (λ (b : Bool). cond b new old) here) (map_has (λ (other : Node). cond (is_at_path Exact new.path other) new other) nodes old found.0) in
    there_is (with_put nodes new) (put_holds t nodes holds path old new there same).map.rises new has path at

module _ (t : Table) (nodes : List Node) (new : Node) where
  -- what is open is among the nodes where one more is made
  made_holds : HasNodes t nodes → node_there nodes new.path ≡ None → (new.path ≡ [] → ⊥) → has_folder (drive_over nodes) (parent new.path) ≡ true → list_all is_name new.path ≡ true → HasNodes t (add_node Exact new nodes)
  made_holds holds none some folder names =
      let is : IsFolderMap (add_node Exact new nodes) = add_map nodes holds.map new none some folder names in
      record {
        map = is;
        there = λ n o on.
            let was : (node : Node) × (node_there nodes o.path ≡ Some node) × IsNodeOf o node = holds.there n o on in
            let found : Has nodes was.0 × (is_at_path Exact o.path was.0 ≡ true) = find_has (is_at_path Exact o.path) nodes was.0 was.1 in
            (was.0, there_is (add_node Exact new nodes) is.rises was.0 (add_has new nodes was.0 (inr found.0)) o.path (same_exact (was.0).path o.path found.1), was.2);
      }

  -- a node among others, marked then or before
  made_marked : (l : List Node) → map (marked t.opens.entries) (add_node Exact new l) ≡ add_node Exact (marked t.opens.entries new) (map (marked t.opens.entries) l)
  made_marked [] = refl
  made_marked (x ∷ xs) = by (made_marked xs) (is_lt (path_cmp Exact x.path new.path))
    where
      by : map (marked t.opens.entries) (add_node Exact new xs) ≡ add_node Exact (marked t.opens.entries new) (map (marked t.opens.entries) xs)
          → (b : Bool) → map (marked t.opens.entries) (cond b (x ∷ add_node Exact new xs) (new ∷ x ∷ xs))
          ≡ cond b (marked t.opens.entries x ∷ add_node Exact (marked t.opens.entries new) (map (marked t.opens.entries) xs)) (marked t.opens.entries new ∷ map (marked t.opens.entries) (x ∷ xs))
      by later true = ap (λ l. marked t.opens.entries x ∷ l) later
      by later false = refl

  -- the drive over the nodes with one more is the drive with it, where nothing is open at its path
  made_drive : IsSound t → IsAtPath t new.path None → new.pending ≡ false → drive_of t (add_node Exact new nodes) ≡ with_new_node (drive_of t nodes) new
  made_drive sound none rests = λ i. record (drive_of t nodes) { nodes = (made_marked nodes ∙ ap (λ (x : Node). add_node Exact x (map (marked t.opens.entries) nodes)) unmarked) i }
    where
      unmarked : marked t.opens.entries new ≡ new
      unmarked = λ i. record new { pending = (nothing_pending t sound new.path none ∙ sym rests) i }

-- ---- the next file id has its handle

module _ (t : Table) (sound : IsSound t) (asked : Asked) (moment : ℕ) (path : Names) (folder : Bool) (found : Option ℕ) (at : IsAtPath t path found) (may : MayHold t asked path folder found) (free : IsFree t)
    (n : ℕ) (new : Table) (held : IsHolding t asked path folder found n new) (file : ℕ) (given : file ≡ t.next) (before : Seen) (over : IsOver t before) where
  abbrev o : Open
  o = held.o

  may_open : MayOpen t asked n o
  may_open = may n o held.becomes

  pub new_sound : IsSound new
  new_sound = opening_sound t sound asked n o may_open new held.opening free.0 free.1

  abbrev comes : DriveState → Outcome
  comes s = create_at s moment asked path

  path_is : o.path ≡ path
  path_is = becomes_path t asked path folder found at n o held.becomes

  -- what is open by the number
  pub new_there : open_at new n ≡ Some o
  new_there = opened_here t sound asked n o may_open new held.opening

  pub new_path : path_at new n ≡ path
  new_path = ap (λ (x : Option Open). option_map_or (λ (p : Open). p.path) x []) new_there ∙ path_is

  -- it is among nodes, of which one of its kind is at the path
  new_holds : (nodes : List Node) → HasNodes t nodes → (node : Node) → node_there nodes path ≡ Some node → is_folder_node node ≡ folder → HasNodes new nodes
  new_holds nodes holds node there kind =
      opening_holds t sound asked n o may_open new held.opening nodes holds node (ap (node_there nodes) path_is ∙ there) (becomes_kind t asked path folder nodes holds node there kind found at n o held.becomes)

  new_drive : (nodes : List Node) → drive_of new nodes ≡ with_new_handle (drive_of t nodes) (new_handle asked path)
  new_drive nodes = opening_drive t sound asked n o may_open new held.opening nodes ∙ ap (λ (p : Names). with_new_handle (drive_of t nodes) (new_handle asked p)) path_is

  -- what is there is opened as it is
  pub serves_plain : (information : ℕ) → information ≡ found_information asked → (news : told_news.News) → news ≡ nothing
      → ((nodes : List Node) → before.told ≡ Some nodes → HasNodes t nodes → (node : Node) × (node_there nodes path ≡ Some node) × (is_folder_node node ≡ folder) × (comes (drive_of t nodes) ≡ opened (drive_of t nodes) asked path (found_information asked) []))
      → Serves t before new before comes (Ok (done.Replied (Created file information) news))
  serves_plain information info news quiet each =
      done_with t new before before over refl new_sound comes (calm_by before before refl) (Created file information) news quiet
      (λ nodes told holds. let is = each nodes told holds in (
        new_holds nodes holds is.0 is.1 is.2,
        is.3 ∙ (λ i. succeeded (sym (new_drive nodes) i) (Created (sym given i) (sym info i)) no_news),
      ))

  -- what is open by the number is at the path
  pub names_are : (p : Open) → open_at new n ≡ Some p → p.path ≡ path
  names_are p on = ap (λ (x : Open). x.path) (same_Some p o (sym on ∙ new_there)) ∙ path_is

  -- ---- the folder refused

  -- the handle was taken back
  pub serves_refused : (after : Seen) (call : List Node → Option (Unit {0} × List Node)) → ((nodes : List Node) → before.told ≡ Some nodes → HasNodes t nodes → (left : List Node) × (call nodes ≡ Some (tt, left)))
      → (why : FolderNo) → DoesCall before.told after.told call (Result.Err why) → CountsNo before.told why before.faults after.faults → (back : Table) → IsAsBefore t back → Serves t before back after comes (Err (folder_status why))
  serves_refused after call can why does counted back same =
      serves_before t sound back same before after over (refusal_same before after call why does) comes (folder_status why)
      (refusal_by before after call why counted (λ nodes told missing. none-some _ (sym (refusal_missing before after call why does missing nodes told) ∙ (can nodes told (held_by t before over nodes told)).1)))

  -- what the folder does, at the path
  pub call_at : (after : Seen) (call : Names → List Node → Option (Unit {0} × List Node)) (names : Names) (p : Open) → names ≡ p.path → open_at new n ≡ Some p → (result : Result (Unit {0}) FolderNo) → DoesCall before.told after.told (call names) result
      → DoesCall before.told after.told (call path) result
  call_at after call names p is on result does = subst (λ (q : Names). DoesCall before.told after.told (call q) result) (is ∙ names_are p on) does

  -- ---- the folder has changed

  module _ (after : Seen) (counted : after.faults ≡ before.faults) where
    -- a change of what is open is told, by what becomes of the nodes
    serves_changed : (call : List Node → Option (Unit {0} × List Node)) → DoesCall before.told after.told call (Result.Ok tt) → (information action bits : ℕ)
        → (news : told_news.News) → news ≡ about (record { action = action; named = named.Node n; bits = bits })
        → ((nodes : List Node) → before.told ≡ Some nodes → HasNodes t nodes → (left : List Node) × (call nodes ≡ Some (tt, left)) × HasNodes new left
        × (comes (drive_of t nodes) ≡ succeeded (with_new_handle (drive_of t left) (new_handle asked path)) (Created t.next information) (changed (record { action = action; path = path; bits = bits } ∷ []))))
        → Serves t before new after comes (Ok (done.Replied (Created file information) news))
    serves_changed call does information action bits news told each =
        subst (λ (x : told_news.News). Serves t before new after comes (Ok (done.Replied (Created file information) x))) (sym told) (
          new_sound,
          (tt, (ap is_some new_there, (tt, (tt, tt)))),
          calm_by before after counted,
          leaves_by t new before after over call does (λ s left. comes s ≡ succeeded left (Created file information) (changed (record { action = action; path = path_at new n; bits = bits } ∷ [])))
              (λ nodes is holds. let made = each nodes is holds in (
                made.0,
                made.1,
                made.2,
                made.3 ∙ (λ i. succeeded (sym (new_drive made.0) i) (Created (sym given i) information) (changed (record { action = action; path = sym new_path i; bits = bits } ∷ []))),
              )),
        )

    -- a file is opened without its bytes
    pub serves_replaced : folder ≡ false → IsReplacing t before asked moment path → (attributes : ℕ) → attributes ≡ new_file_attributes asked.attributes → DoesCall before.told after.told (folder_replace path attributes moment) (Result.Ok tt)
        → (information : ℕ) → information ≡ found_information asked → (news : told_news.News) → news ≡ about (record { action = 3; named = named.Node n; bits = 0x18 })
        → Serves t before new after comes (Ok (done.Replied (Created file information) news))
    serves_replaced plain replacing attributes stored does information info news told =
        serves_changed (folder_replace path attributes moment) does information 3 0x18 news told (λ nodes is holds.
        let r = replacing nodes is in
        let node : Node = r.0 in
        let put : HasNodes t (with_put nodes (replaced asked moment node)) = put_holds t nodes holds path node (replaced asked moment node) r.1 (refl, sym r.2) in (
          with_put nodes (replaced asked moment node),
          replace_does asked moment path nodes node r.1 r.2 attributes stored,
          new_holds (with_put nodes (replaced asked moment node)) put (replaced asked moment node) (put_there t nodes holds path node (replaced asked moment node) r.1 (refl, sym r.2)) (sym plain),
          r.3 ∙ (λ i. succeeded (with_new_handle (sym (with_seen t nodes (replaced asked moment node)) i) (new_handle asked path)) (Created t.next (sym info i)) (changed (modified path ∷ []))),
        ))

    -- a node is made
    pub serves_made : found ≡ None → folder ≡ wants_folder asked → IsMaking t before asked moment path → (attributes : ℕ) → attributes ≡ made_attributes asked → DoesCall before.told after.told (folder_make path folder attributes moment) (Result.Ok tt)
        → (bits : ℕ) → bits ≡ cond folder 2 1 → (news : told_news.News) → news ≡ about (record { action = 1; named = named.Node n; bits = bits })
        → Serves t before new after comes (Ok (done.Replied (Created file 0) news))
    serves_made bare wants making attributes stored does bits bit news told =
        serves_changed (folder_make path folder attributes moment) does 0 1 bits news told (λ nodes is holds.
        let m = making nodes is in
        let node : Node = made_node asked path moment in
        let put : HasNodes t (add_node Exact node nodes) = made_holds t nodes node holds m.1 m.0 m.2 (and_parts (list_all is_name path) (is_within_limits path) (ap is_path (sym path_is) ∙ may_open.path)).0 in (
          add_node Exact node nodes,
          make_does asked moment path nodes holds.map.rises m.0 m.1 m.2 folder wants attributes stored,
          new_holds (add_node Exact node nodes) put node (there_is (add_node Exact node nodes) put.map.rises node (add_has node nodes node (inl refl)) path refl) (kind_is ∙ sym wants),
          m.3 ∙ (λ i. succeeded (with_new_handle (sym (made_drive t nodes node sound (subst (IsAtPath t path) bare at) refl) i) (new_handle asked path)) (Created t.next 0) (changed (record { action = 1; path = path; bits = (ap (λ (b : Bool). cond b 2 1) (kind_is ∙ sym wants) ∙ sym bit) i } ∷ []))),
        ))
      where
        kind_is : is_folder_node (made_node asked path moment) ≡ wants_folder asked
        kind_is = by (wants_folder asked)
          where
            by : (b : Bool) → not (is_some (cond {A = Option (List ℕ)} b None (Some []))) ≡ b
            by true = refl
            by false = refl
