-- A Close of what a file id has open: its node stays, stays as a folder in which something stands, or goes; or the folder keeps it.
use Rattle.std.proofs.Common.{◌≡◌, ◌∙◌, refl, sym, ap, subst, inl, inr, ℕ, Bool, true, false, not, ◌&&◌, ◌||◌, cond, List, [], ◌∷◌, length, Option, Some, None, Result, Ok, Err, nat_lt, rules}
use Rattle.std.specs.List.{list_any}
use Rattle.std.specs.Option.{IfSome, IsSome, is_some, option_map, option_map_or}
use Rattle.std.specs.Ordering.{nat_cmp}
use Rattle.std.specs.Map.{lookup, remove_entry}
use Rattle.std.specs.BTreeMap.{is_at}
use Rattle.std.proofs.lemmas.Bool.{lt-ltb}
use Rattle.std.proofs.lemmas.Option.{none-some}
use Rattle.std.proofs.Math.Bool.{and-false}
use Rattle.rd_base.specs.Statuses.{invalid_handle}
use Rattle.rd_dirinfo.specs.Paths.{Names, is_path}
use Rattle.rd_irp.specs.declared.completion.Body.TheVariants.{Closed}
use Rattle.rd_irp.specs.declared.op.Op.TheVariants.{Close}
use Rattle.rd_drive.specs.declared.step.Step.TheVariants as step
use Rattle.rd_drive.specs.Changes.{name_bit, removed}
use Rattle.rd_drive.specs.Close.{close, closing, without_file}
use Rattle.rd_drive.specs.DriveState as drive
use Rattle.rd_drive.specs.DriveState.{DriveState, Node, handle_at, has_children, has_open, is_folder_node, is_open, node_of_path, with_node, without_node}
use Rattle.rd_drive.specs.Outcome as outcome
use Rattle.rd_drive.specs.Outcome.{Outcome, on_handle, succeeded}
use Rattle.rd_drive.proofs.CheckLemmas.{one_false, one_true}
use Rattle.rd_folder.specs.declared.folder.FolderNo.{FolderNo}
use Rattle.rd_folder.specs.declared.folder.FolderNo.TheVariants as no
use Rattle.rd_folder.specs.FolderCalls.{folder_remove, leaving, node_there, only_if}
use Rattle.rd_folder.specs.FolderLaws.{CountsNo, DoesCall, one_fault}
use Rattle.rd_folder.specs.Told.{drive_over}
use Rattle.rd_folder.proofs.MapLemmas.{less_map, no_root}
use Rattle.rd_folder_drive.specs.declared.handle.Handle as kept
use Rattle.rd_folder_drive.specs.declared.news.Change as told
use Rattle.rd_folder_drive.specs.declared.news.Named.{Named}
use Rattle.rd_folder_drive.specs.declared.news.Named.TheVariants as named
use Rattle.rd_folder_drive.specs.declared.news.News as told_news
use Rattle.rd_folder_drive.specs.declared.open.Open.{Open}
use Rattle.rd_folder_drive.specs.declared.table.Done.TheVariants as done
use Rattle.rd_folder_drive.specs.declared.table.Table.{Table}
use Rattle.rd_folder_drive.specs.Closing.{IsFed, IsOff, kept_done, used_once_less, other_handles}
use Rattle.rd_folder_drive.specs.Served.{FitsBody, IfReplied, IsCalmClose, IsFaultBy, IsOver, Leaves, Seen, ServesClose, folder_status, keeping_node, news_of, takes_out}
use Rattle.rd_folder_drive.specs.Table.{HasNodes, IsSound, drive_of, handle_of, kept_handle, marked, open_at, path_at, uses_on}
use Rattle.rd_folder_drive.proofs.AskLemmas.{answer_is, refusal_missing, refusal_same}
use Rattle.rd_folder_drive.proofs.ChildLemmas.{children_folder, filled_seen}
use Rattle.rd_folder_drive.proofs.HandlesLemmas.{all_kept, kept_fewer, open_counted, removed_seen}
use Rattle.rd_folder_drive.proofs.MarkLemmas.{children_marked}
use Rattle.rd_folder_drive.proofs.OffLemmas.{none_open, nodes_left, off_goes_holds, off_goes_seen, off_holds_same, off_sound, off_stays_seen, open_here}
use Rattle.rd_folder_drive.proofs.ServeLemmas.{held_by, leaves_by, stays}
use Rattle.rd_folder_drive.proofs.TableLemmas as table

-- a file id is closed, and its node stays
abbrev pub closed_on : ℕ → Named → told_news.News
closed_on file about = record { closed = Some file; unlocked = Some about; changes = None ∷ None ∷ None ∷ [] }

-- a file id is closed, and this changed
abbrev pub closed_with : ℕ → told.Change → told_news.News
closed_with file change = record { closed = Some file; unlocked = None; changes = Some change ∷ None ∷ None ∷ [] }

-- what is left where the folder tells what it told
pub leaves_same : (old new : Table) (before after : Seen) → IsOver old before → after.told ≡ before.told → (P : DriveState → DriveState → Type 0)
    → ((nodes : List Node) → before.told ≡ Some nodes → HasNodes old nodes → HasNodes new nodes × P (drive_of old nodes) (drive_of new nodes)) → Leaves old before new after P
leaves_same old new before after over same P each = (
  subst (λ (found : Option (List Node)). IfSome found (HasNodes new)) (sym same) (by before.told refl),
  (λ none. same ∙ none),
  λ nodes told. (nodes, same ∙ told, (each nodes told (held_by old before over nodes told)).1),
)
  where
    by : (found : Option (List Node)) → before.told ≡ found → IfSome found (HasNodes new)
    by None told = tt
    by (Some nodes) told = (each nodes told (held_by old before over nodes told)).0

module _ (t : Table) (sound : IsSound t) (file : ℕ) (h : kept.Handle) (o : Open) (is : kept_handle t file ≡ Some h) (on : open_at t h.node ≡ Some o) where
  abbrev n : ℕ
  n = h.node

  abbrev count : ℕ
  count = length (uses_on n (other_handles t file))

  abbrev pub pending : Bool
  pending = o.pending || h.delete_on_close

  -- what is pending isn't the root
  pub not_root : pending ≡ true → o.path ≡ [] → ⊥
  not_root goes top =
      let at : path_at t n ≡ [] = ap (λ (found : Option Open). option_map_or (λ (x : Open). x.path) found []) on ∙ top in
      let stays : pending ≡ false = (λ i. (sound.opened n o on).root top i || (sound.handles file h is).root at i) in
      absurd (let clash : true ≡ false = sym goes ∙ stays in cc)

  module _ (nodes : List Node) (holds : HasNodes t nodes) where
    abbrev pub node : Node
    node = table.node t sound nodes holds file h o is on

    abbrev pub own : Node
    own = marked t.opens.entries node

    abbrev pub rest : DriveState
    rest = without_file (drive_of t nodes) file

    abbrev comes : Outcome
    comes = on_handle (drive_of t nodes) file (close (drive_of t nodes) file)

    goes : comes ≡ close (drive_of t nodes) file (handle_of t h) own
    goes = table.on_open t sound nodes holds file h o is on (close (drive_of t nodes) file)

    pub own_path : own.path ≡ o.path
    own_path = table.node_path t sound nodes holds file h o is on

    own_pending : own.pending ≡ o.pending
    own_pending = ap (λ (x : Node). x.pending) (table.marked_is t sound nodes holds file h o is on)

    still_open : is_open rest own.path ≡ nat_lt 0 count
    still_open =
        ap (λ (p : Names). is_open rest p) (table.node_at t sound nodes holds file h o is on)
        ∙ ap (list_any (has_open (drive_of t nodes) (path_at t n))) (removed_seen t (is_at (nat_cmp file)) t.handles.entries)
        ∙ open_counted t sound nodes n (ap is_some on) (other_handles t file) (kept_fewer (kept_handle t) (is_at (nat_cmp file)) t.handles.entries (all_kept t sound.rising.1))

    pending_is : (own.pending || h.delete_on_close) ≡ pending
    pending_is = ap (λ b. b || h.delete_on_close) own_pending

    goes_is : ((own.pending || h.delete_on_close) && not (is_open rest own.path)) ≡ (pending && not (nat_lt 0 count))
    goes_is = λ i. pending_is i && not (still_open i)

    filled_is : (is_folder_node own && has_children (drive_of t nodes) own.path) ≡ has_children (drive_over nodes) o.path
    filled_is =
        (λ i. is_folder_node node && children_marked t.opens.entries (own_path i) nodes i)
        ∙ filled_seen nodes holds.map o.path node (table.there t sound nodes holds file h o is on)

    pub comes_staying : (pending && not (nat_lt 0 count)) ≡ false → comes ≡ succeeded (with_node rest (record own { pending = pending })) Closed (closing file own.path)
    comes_staying e = goes ∙ one_false _ _ _ (goes_is ∙ e) ∙ (λ i. succeeded (with_node rest (record own { pending = pending_is i })) Closed (closing file own.path))

    module _ (last : (pending && not (nat_lt 0 count)) ≡ true) where
      pub comes_filled : has_children (drive_over nodes) o.path ≡ true → comes ≡ succeeded (with_node rest (record own { pending = false })) Closed (closing file own.path)
      comes_filled some = goes ∙ one_true _ _ _ (goes_is ∙ last) ∙ one_true _ _ _ (filled_is ∙ some)

      pub comes_gone : has_children (drive_over nodes) o.path ≡ false
          → comes ≡ succeeded (without_node rest own.path) Closed (record { closed = Some file; unlocked = None; changes = removed own ∷ [] })
      comes_gone none = goes ∙ one_true _ _ _ (goes_is ∙ last) ∙ one_false _ _ _ (filled_is ∙ none)

      pub takes_it : takes_out (drive_of t nodes) file (handle_of t h) own ≡ true
      takes_it = goes_is ∙ last

    -- ---- what the folder does

    module _ (goes : pending ≡ true) where
      removes : folder_remove o.path nodes ≡ only_if (not (has_children (drive_over nodes) o.path)) (leaving (without_node (drive_over nodes) o.path).nodes)
      removes = λ i. only_if (not (no_root o.path (not_root goes) i) && (is_some (table.there t sound nodes holds file h o is on i) && not (has_children (drive_over nodes) o.path))) (leaving (without_node (drive_over nodes) o.path).nodes)

      pub removes_bare : has_children (drive_over nodes) o.path ≡ false → folder_remove o.path nodes ≡ Some (tt, (without_node (drive_over nodes) o.path).nodes)
      removes_bare none = removes ∙ ap (λ b. only_if (not b) (leaving (without_node (drive_over nodes) o.path).nodes)) none

      pub removes_none : has_children (drive_over nodes) o.path ≡ true → folder_remove o.path nodes ≡ None
      removes_none some = removes ∙ ap (λ b. only_if (not b) (leaving (without_node (drive_over nodes) o.path).nodes)) some

      pub missing_filled : folder_remove o.path nodes ≡ None → has_children (drive_over nodes) o.path ≡ true
      missing_filled none = by (has_children (drive_over nodes) o.path) refl
        where
          by : (b : Bool) → has_children (drive_over nodes) o.path ≡ b → has_children (drive_over nodes) o.path ≡ true
          by true e = e
          by false e = absurd (none-some _ (sym none ∙ removes_bare e))

-- ---- what is served

module _ (t : Table) (sound : IsSound t) (file : ℕ) (h : kept.Handle) (o : Open) (is : kept_handle t file ≡ Some h) (on : open_at t h.node ≡ Some o) (new : Table) (before : Seen) (over : IsOver t before) where
  abbrev uses : ℕ
  uses = length (uses_on h.node (other_handles t file))

  abbrev to_go : Bool
  to_go = o.pending || h.delete_on_close

  -- other handles have it open
  pub serves_used : IsOff t file h o None new → (news : told_news.News) → news ≡ closed_on file (named.Node h.node) → ServesClose t before new before file (Ok (done.Replied Closed news))
  serves_used off news told = subst (λ (x : told_news.News). ServesClose t before new before file (Ok (done.Replied Closed x))) (sym told) (
    off_sound t sound file h o is on None new off,
    (ap is_some here, (tt, (tt, (tt, tt)))),
    inl refl,
    leaves_same t new before before over refl (λ s left. on_handle s file (close s file) ≡ record { state = left; answer = step.Reply (outcome.done Closed); news = news_of new (closed_on file (named.Node h.node)) })
        (λ nodes at holds. (off_holds_same t sound file h o is on None new off nodes holds, comes_to nodes holds)),
    refl,
  )
    where
      here : open_at new h.node ≡ Some (used_once_less t file h o)
      here = open_here t sound file h o is on None new off

      path_here : path_at new h.node ≡ o.path
      path_here = ap (λ (found : Option Open). option_map_or (λ (x : Open). x.path) found []) here

      comes_to : (nodes : List Node) (holds : HasNodes t nodes) → on_handle (drive_of t nodes) file (close (drive_of t nodes) file) ≡ succeeded (drive_of new nodes) Closed (closing file (path_at new h.node))
      comes_to nodes holds =
          comes_staying t sound file h o is on nodes holds (ap (λ b. to_go && not b) (lt-ltb 0 uses off.taken) ∙ and-false to_go)
          ∙ (λ i. succeeded (sym (off_stays_seen t sound file h o is on None new off nodes holds) i) Closed (closing file ((own_path t sound file h o is on nodes holds ∙ sym path_here) i)))

  module _ (taken : Open) (off : IsOff t file h o (Some taken) new) where
    taken_path : taken.path ≡ o.path
    taken_path = ap (λ (x : Open). x.path) off.taken.0

    taken_pending : taken.pending ≡ to_go
    taken_pending = ap (λ (x : Open). x.pending) off.taken.0

    unused : not (nat_lt 0 uses) ≡ true
    unused = ap (λ k. not (nat_lt 0 k)) off.taken.1

    goes_out : taken.pending ≡ true → (to_go && not (nat_lt 0 uses)) ≡ true
    goes_out e = λ i. (sym taken_pending ∙ e) i && unused i

    heard : (m : ℕ) (p : Open) → open_at new m ≡ Some p → p.path ≡ taken.path → ⊥
    heard m p at same = none_open t sound file h o is on (Some taken) new off taken refl m p at (same ∙ taken_path)

    abbrev gone_news : told_news.News
    gone_news = closed_on file (named.Gone taken.path)

    -- the drive where the node stays and isn't pending
    stays_state : (nodes : List Node) (holds : HasNodes t nodes) (b : Bool) → b ≡ false
        → with_node (rest t sound file h o is on nodes holds) (record (own t sound file h o is on nodes holds) { pending = b }) ≡ drive_of new nodes
    stays_state nodes holds b e =
        ap (λ c. with_node (rest t sound file h o is on nodes holds) (record (own t sound file h o is on nodes holds) { pending = c })) e
        ∙ sym (off_stays_seen t sound file h o is on (Some taken) new off nodes holds)

    gone_path : (nodes : List Node) (holds : HasNodes t nodes) → (own t sound file h o is on nodes holds).path ≡ taken.path
    gone_path nodes holds = own_path t sound file h o is on nodes holds ∙ sym taken_path

    -- it wasn't pending
    pub serves_left : taken.pending ≡ false → (news : told_news.News) → news ≡ gone_news → ServesClose t before new before file (Ok (done.Replied Closed news))
    serves_left rests news told = subst (λ (x : told_news.News). ServesClose t before new before file (Ok (done.Replied Closed x))) (sym told) (
      off_sound t sound file h o is on (Some taken) new off,
      (heard, (tt, (tt, (tt, tt)))),
      inl refl,
      leaves_same t new before before over refl (λ s left. on_handle s file (close s file) ≡ record { state = left; answer = step.Reply (outcome.done Closed); news = news_of new gone_news })
          (λ nodes at holds. (
            off_holds_same t sound file h o is on (Some taken) new off nodes holds,
            comes_staying t sound file h o is on nodes holds (ap (λ b. b && not (nat_lt 0 uses)) (sym taken_pending ∙ rests))
                ∙ (λ i. succeeded (stays_state nodes holds to_go (sym taken_pending ∙ rests) i) Closed (closing file (gone_path nodes holds i))),
          )),
      refl,
    )

    module _ (goes : taken.pending ≡ true) (after : Seen) where
      pends : to_go ≡ true
      pends = sym taken_pending ∙ goes

      -- what the folder was asked for
      asked : (X : Result (Unit {0}) FolderNo) → DoesCall before.told after.told (folder_remove taken.path) X → DoesCall before.told after.told (folder_remove o.path) X
      asked X does = subst (λ (p : Names). DoesCall before.told after.told (folder_remove p) X) taken_path does

      -- the folder took it out
      pub serves_gone : DoesCall before.told after.told (folder_remove taken.path) (Result.Ok tt) → after.faults ≡ before.faults → (bits : ℕ) → bits ≡ cond taken.folder 2 1
          → (news : told_news.News) → news ≡ closed_with file (record { action = 2; named = named.Gone taken.path; bits = bits }) → ServesClose t before new after file (Ok (done.Replied Closed news))
      serves_gone does calm bits kind news told = subst (λ (x : told_news.News). ServesClose t before new after file (Ok (done.Replied Closed x))) (sym told) (
        off_sound t sound file h o is on (Some taken) new off,
        (tt, (ap is_path taken_path ∙ (sound.opened h.node o on).path, (tt, (tt, tt)))),
        inl calm,
        leaves_by t new before after over (folder_remove o.path) (asked (Result.Ok tt) does)
            (λ s left. on_handle s file (close s file) ≡ record { state = left; answer = step.Reply (outcome.done Closed); news = news_of new (closed_with file (record { action = 2; named = named.Gone taken.path; bits = bits })) })
            (λ nodes at holds.
            let bare : has_children (drive_over nodes) o.path ≡ false = nothing_in nodes at holds in (
              nodes_left t sound file h o is on (Some taken) new off nodes holds,
              removes_bare t sound file h o is on nodes holds pends bare,
              off_goes_holds t sound file h o is on (Some taken) new off nodes holds taken refl (less_map nodes holds.map o.path (not_root t sound file h o is on pends) bare),
              comes_gone t sound file h o is on nodes holds (goes_out goes) bare
                  ∙ (λ i. succeeded ((ap (without_node (rest t sound file h o is on nodes holds)) (own_path t sound file h o is on nodes holds) ∙ sym (off_goes_seen t sound file h o is on (Some taken) new off nodes holds)) i) Closed
                  (record { closed = Some file; unlocked = None; changes = record { action = 2; path = gone_path nodes holds i; bits = (kind_is nodes holds ∙ sym kind) i } ∷ [] })),
            )),
        refl,
      )
        where
          nothing_in : (nodes : List Node) → before.told ≡ Some nodes → HasNodes t nodes → has_children (drive_over nodes) o.path ≡ false
          nothing_in nodes at holds = by (has_children (drive_over nodes) o.path) refl
            where
              came : (left : List Node) × (folder_remove o.path nodes ≡ Some (tt, left)) × (after.told ≡ Some left)
              came = answer_is before after (folder_remove o.path) tt (asked (Result.Ok tt) does) nodes at

              by : (b : Bool) → has_children (drive_over nodes) o.path ≡ b → has_children (drive_over nodes) o.path ≡ false
              by true e = absurd (none-some _ (sym (removes_none t sound file h o is on nodes holds pends e) ∙ came.1))
              by false e = e

          kind_is : (nodes : List Node) (holds : HasNodes t nodes) → name_bit (own t sound file h o is on nodes holds) ≡ cond taken.folder 2 1
          kind_is nodes holds = ap (λ b. cond b 2 1) (table.kind t sound nodes holds file h o is on ∙ sym (ap (λ (x : Open). x.folder) off.taken.0))

      -- something stands in it
      pub serves_filled : DoesCall before.told after.told (folder_remove taken.path) (Err no.Missing) → CountsNo before.told no.Missing before.faults after.faults → (news : told_news.News) → news ≡ gone_news
          → ServesClose t before new after file (Ok (done.Replied Closed news))
      serves_filled does counted news told = subst (λ (x : told_news.News). ServesClose t before new after file (Ok (done.Replied Closed x))) (sym told) (
        off_sound t sound file h o is on (Some taken) new off,
        (heard, (tt, (tt, (tt, tt)))),
        calm before.told refl counted,
        leaves_same t new before after over (refusal_same before after (folder_remove o.path) no.Missing (asked (Err no.Missing) does))
            (λ s left. on_handle s file (close s file) ≡ record { state = left; answer = step.Reply (outcome.done Closed); news = news_of new gone_news })
            (λ nodes at holds. (
              off_holds_same t sound file h o is on (Some taken) new off nodes holds,
              comes_filled t sound file h o is on nodes holds (goes_out goes)
                  (missing_filled t sound file h o is on nodes holds pends (refusal_missing before after (folder_remove o.path) no.Missing (asked (Err no.Missing) does) refl nodes at))
                  ∙ (λ i. succeeded (stays_state nodes holds false refl i) Closed (closing file (gone_path nodes holds i))),
            )),
        refl,
      )
        where
          calm : (found : Option (List Node)) → before.told ≡ found → CountsNo found no.Missing before.faults after.faults → IsCalmClose before after
          calm None told c = inr (told, c)
          calm (Some nodes) told c = inl c

      -- the folder keeps it
      module _ (why : FolderNo) (untold : why ≡ no.Missing → before.told ≡ None) (memory : why ≡ no.Memory → ⊥) (does : DoesCall before.told after.told (folder_remove taken.path) (Err why)) (counted : CountsNo before.told why before.faults after.faults) where
        kept_by : IsFaultBy before after (folder_status why)
        kept_by = (why, refl, memory, untold, by why untold memory counted)
          where
            by : (given : FolderNo) → (given ≡ no.Missing → before.told ≡ None) → (given ≡ no.Memory → ⊥) → CountsNo before.told given before.faults after.faults → after.faults ≡ one_fault given before.faults
            by no.Failed m n c = c
            by no.Full m n c = c
            by no.Denied m n c = c
            by no.Missing m n c = subst (λ (found : Option (List Node)). CountsNo found no.Missing before.faults after.faults) (m refl) c
            by no.Memory m n c = absurd (n refl)

        pub serves_kept : (news : told_news.News) → news ≡ gone_news → ServesClose t before new after file (Ok (done.Kept (folder_status why) news))
        serves_kept news told = subst (λ (x : told_news.News). ServesClose t before new after file (Ok (done.Kept (folder_status why) x))) (sym told) (
          off_sound t sound file h o is on (Some taken) new off,
          refl,
          (heard, (tt, (tt, (tt, tt)))),
          kept_by,
          leaves_same t new before after over (refusal_same before after (folder_remove o.path) why (asked (Err why) does))
              (λ s left. (handle : drive.Handle) × (node : Node) × (handle_at s file ≡ Some handle) × (node_of_path s handle.path ≡ Some node) × (takes_out s file handle node ≡ true)
              × (keeping_node s file (folder_status why) handle node ≡ record { state = left; answer = step.Reply (outcome.fault (folder_status why)); news = news_of new gone_news }))
              (λ nodes at holds. (
                off_holds_same t sound file h o is on (Some taken) new off nodes holds,
                (
                  handle_of t h,
                  own t sound file h o is on nodes holds,
                  table.handle_seen t nodes file ∙ ap (option_map (handle_of t)) is,
                  table.node_seen t nodes (path_at t h.node) ∙ ap (λ (p : Names). option_map (marked t.opens.entries) (node_there nodes p)) (table.path_is t sound nodes holds file h o is on) ∙ ap (option_map (marked t.opens.entries)) (table.there t sound nodes holds file h o is on),
                  takes_it t sound file h o is on nodes holds (goes_out goes),
                  (λ i. record { state = stays_state nodes holds false refl i; answer = step.Reply (outcome.fault (folder_status why)); news = closing file (gone_path nodes holds i) }),
                ),
              )),
        )

      -- a file is there to be taken out, where the folder tells its nodes
      untold_file : taken.folder ≡ false → DoesCall before.told after.told (folder_remove taken.path) (Err no.Missing) → before.told ≡ None
      untold_file kind does = by before.told refl
        where
          file_there : (nodes : List Node) → before.told ≡ Some nodes → ⊥
          file_there nodes at =
              let holds = held_by t before over nodes at in
              let filled = missing_filled t sound file h o is on nodes holds pends (refusal_missing before after (folder_remove o.path) no.Missing (asked (Err no.Missing) does) refl nodes at) in
              let folder : is_folder_node (table.node t sound nodes holds file h o is on) ≡ true = children_folder nodes holds.map o.path (table.node t sound nodes holds file h o is on) (table.there t sound nodes holds file h o is on) filled in
              absurd (let clash : true ≡ false = sym folder ∙ table.kind t sound nodes holds file h o is on ∙ sym (ap (λ (x : Open). x.folder) off.taken.0) ∙ kind in cc)

          by : (found : Option (List Node)) → before.told ≡ found → before.told ≡ None
          by None told = told
          by (Some nodes) told = absurd (file_there nodes told)

      -- the folder doesn't take it out
      pub serves_not_gone : (why : FolderNo) → (why ≡ no.Memory → ⊥) → (is_folder : Bool) → taken.folder ≡ is_folder → DoesCall before.told after.told (folder_remove taken.path) (Err why) → CountsNo before.told why before.faults after.faults
          → (news : told_news.News) → news ≡ gone_news → ServesClose t before new after file (Ok (kept_done why is_folder news))
      serves_not_gone no.Missing memory true kind does counted = serves_filled does counted
      serves_not_gone no.Missing memory false kind does counted = serves_kept no.Missing (λ e. untold_file kind does) memory does counted
      serves_not_gone no.Failed memory is_folder kind does counted = serves_kept no.Failed (λ e. absurd (cc)) memory does counted
      serves_not_gone no.Full memory is_folder kind does counted = serves_kept no.Full (λ e. absurd (cc)) memory does counted
      serves_not_gone no.Denied memory is_folder kind does counted = serves_kept no.Denied (λ e. absurd (cc)) memory does counted
      serves_not_gone no.Memory memory is_folder kind does counted = absurd (memory refl)

-- its answer isn't want of memory
pub fed_kept : (why : FolderNo) (is_folder : Bool) (news : told_news.News) → (why ≡ no.Memory → ⊥) → IsFed (Ok (kept_done why is_folder news))
fed_kept no.Missing true news memory = tt
fed_kept no.Missing false news memory = refl
fed_kept no.Failed is_folder news memory = refl
fed_kept no.Full is_folder news memory = refl
fed_kept no.Denied is_folder news memory = refl
fed_kept no.Memory is_folder news memory = absurd (memory refl)

-- and is of its layout
pub fits_kept : (why : FolderNo) (is_folder : Bool) (news : told_news.News) → IfReplied (Ok (kept_done why is_folder news)) (FitsBody Close)
fits_kept no.Missing true news = search rules
fits_kept no.Missing false news = tt
fits_kept no.Failed is_folder news = tt
fits_kept no.Full is_folder news = tt
fits_kept no.Denied is_folder news = tt
fits_kept no.Memory is_folder news = tt

-- what a file id has open
pub opened_by : (t : Table) → IsSound t → (file : ℕ) (h : kept.Handle) → kept_handle t file ≡ Some h → (o : Open) × (open_at t h.node ≡ Some o)
opened_by t sound file h is = by (open_at t h.node) (sound.handles file h is).on
  where
    by : (found : Option Open) → IsSome found → (o : Open) × (found ≡ Some o)
    by None on = absurd (cc)
    by (Some o) on = (o, refl)

-- nothing is closed where the file id has no handle
pub serves_unopened : (t : Table) → IsSound t → (file : ℕ) → kept_handle t file ≡ None → (before : Seen) → IsOver t before → ServesClose t before t before file (Err invalid_handle)
serves_unopened t sound file none before over = (
  sound,
  (refl, refl),
  refl,
  stays t before before over refl (λ s left. on_handle s file (close s file) ≡ outcome.refused left invalid_handle) (λ nodes told holds. table.unopened t nodes file (close (drive_of t nodes) file) none),
)

-- and no handle goes
pub none_removed : (test : ℕ → Bool) (es : List (ℕ × kept.Handle)) → lookup test es ≡ None → remove_entry test es ≡ es
none_removed test [] none = refl
none_removed test (e ∷ es) none = by (test e.0) refl (λ later. none_removed test es later)
  where
    by : (b : Bool) → test e.0 ≡ b → (lookup test es ≡ None → remove_entry test es ≡ es) → cond (test e.0) es (e ∷ remove_entry test es) ≡ e ∷ es
    by true here later = absurd (none-some e.1 (sym (sym (ap (λ b. cond b (Some e.1) (lookup test es)) here) ∙ none)))
    by false past later = ap (λ b. cond b es (e ∷ remove_entry test es)) past ∙ ap (◌∷◌ e) (later (sym (ap (λ b. cond b (Some e.1) (lookup test es)) past) ∙ none))
