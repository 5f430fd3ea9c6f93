-- What is left when a drive is cut off.
use Rattle.std.proofs.Common.{◌≡◌, ◌∙◌, refl, sym, ap, subst, ℕ, ◌+◌, ◌==◌, inl, inr, true, false, cond, List, [], ◌∷◌, map, fold, length, Option, Some, None, Result, Ok, Err, arith, sum_by, Vec, Global, vec_capacity}
use Rattle.std.specs.Prelude.{slice_get}
use Rattle.std.specs.List.{AllByRecursion}
use Rattle.std.specs.Option.{IsSome, option_map_or, unwrap_or}
use Rattle.std.specs.Ordering.{nat_cmp}
use Rattle.std.specs.Map.{keys_of, remove_entry}
use Rattle.std.specs.BTreeMap.{is_at}
use Rattle.rd_tree.proofs.ViewLemmas.{itself}
use Rattle.rd_locks.specs.Locks.{LockList}
use Rattle.rd_base.specs.declared.status.Status.{Status}
use Rattle.rd_drive.specs.declared.step.Step.{Step}
use Rattle.rd_drive.specs.declared.step.Step.TheVariants as step
use Rattle.rd_drive.specs.declared.waiting.Waiting as kept_waiting
use Rattle.rd_drive.specs.Close.{close}
use Rattle.rd_drive.specs.DriveState as drive
use Rattle.rd_drive.specs.DriveState.{DriveState, Node, handle_at, node_of_path}
use Rattle.rd_drive.specs.DriveStep.{step_of}
use Rattle.rd_drive.specs.Outcome as outcome
use Rattle.rd_drive.specs.Outcome.{Outcome, on_handle}
use Rattle.rd_drive.specs.Store.{HasRoom, lock_of, waiting_of, wish_ranges}
use Rattle.rd_drive.specs.Stepped.{Settled}
use Rattle.rd_drive.specs.Waiting.{settles}
use Rattle.rd_folder_drive.specs.declared.handle.Handle as kept
use Rattle.rd_folder_drive.specs.declared.table.Done.{Done}
use Rattle.rd_folder_drive.specs.declared.table.Done.TheVariants as done
use Rattle.rd_folder_drive.specs.declared.table.Table.{Table}
use Rattle.rd_folder_drive.specs.Cutting.{ClosesEach, ClosesFirst, Cuts, IsOnTheWay, OverTold}
use Rattle.rd_folder_drive.specs.FolderDrive.{Closes, ClosesAll}
use Rattle.rd_folder_drive.specs.Served.{IsCalmClose, IsOver, Leaves, Seen, ServesClose, keeping_node, news_of, takes_out}
use Rattle.rd_folder_drive.specs.Settling.{IsBeside}
use Rattle.rd_folder_drive.specs.Table.{IsSound, IsSoundBut, drive_of, handle_of, kept_handle}
use Rattle.rd_folder_drive.proofs.BesideLemmas.{IsWaiting, beside_sound}
use Rattle.rd_folder_drive.proofs.LockLemmas.{IsHome}

-- ---- one Close

-- where none waits, what holds but for a closed file id holds
pub sound_alone : (t : Table) (closed : Option ℕ) → IsSoundBut closed t → t.waiting.items ≡ [] → IsSound t
sound_alone t closed sound none = record {
  label = sound.label;
  rising = sound.rising;
  handles = sound.handles;
  opened = sound.opened;
  apart = sound.apart;
  locked = sound.locked;
  waits = subst (AllByRecursion (λ (w : kept_waiting.Waiting). (option_map_or (◌==◌ w.file) None false ≡ false → IsSome (kept_handle t w.file)) × HasRoom w.wish)) (sym none) tt;
  reserved = sound.reserved;
  few = sound.few;
  ids = sound.ids;
}

-- what a step comes to where none waits
step_idle : (s : DriveState) (answer : Step) (news : outcome.News) → s.waiting ≡ [] → step_of (record { state = s; answer = answer; news = news }) ≡ record { state = s; answer = answer; ends = [] }
step_idle s answer news none =
    (λ i. let left : Settled DriveState = fold (settles news) (record { state = record s { waiting = [] }; ends = [] }) (none i) in record { state = left.state; answer = answer; ends = left.ends })
    ∙ (λ i. record { state = record s { waiting = sym none i }; answer = answer; ends = [] })

pub told_so : (before : Seen) (nodes : List Node) → before.told ≡ Some nodes → before.told ≡ None → ⊥
told_so before nodes told none = absurd (let clash : Some nodes ≡ None = sym told ∙ none in cc)

-- a folder that tells its nodes counts no fault
pub calm_told : (before after : Seen) → IsCalmClose before after → (nodes : List Node) → before.told ≡ Some nodes → after.faults ≡ before.faults
calm_told before after (inl calm) nodes told = calm
calm_told before after (inr (none, counted)) nodes told = absurd (told_so before nodes told none)

first_entry : (es : List (ℕ × kept.Handle)) (file : ℕ) (h : kept.Handle) → slice_get es 0 ≡ Some (file, h) → (rest : List (ℕ × kept.Handle)) × (es ≡ (file, h) ∷ rest)
first_entry [] file h e = absurd (cc)
first_entry (d ∷ rest) file h e = (rest, ap (λ (x : ℕ × kept.Handle). x ∷ rest) (same d (file, h) e))
  where
    same : (a b : ℕ × kept.Handle) → Some a ≡ Some b → a ≡ b
    same a b e = ap (λ (o : Option (ℕ × kept.Handle)). unwrap_or o a) e

module _ (t new : Table) (before after : Seen) (sound : IsSound t) (none : t.waiting.items ≡ []) (file : ℕ) (h : kept.Handle) (first : slice_get t.handles.entries 0 ≡ Some (file, h))
    (handles : new.handles.entries ≡ remove_entry (is_at (nat_cmp file)) t.handles.entries) (waiting : new.waiting ≡ t.waiting) where
  entries : (rest : List (ℕ × kept.Handle)) × (t.handles.entries ≡ (file, h) ∷ rest)
  entries = first_entry t.handles.entries file h first

  others : new.handles.entries ≡ entries.0
  others = handles ∙ ap (remove_entry (is_at (nat_cmp file))) entries.1 ∙ ap (λ b. cond b entries.0 ((file, h) ∷ remove_entry (is_at (nat_cmp file)) entries.0)) (itself file)

  pub first_none : new.waiting.items ≡ []
  first_none = ap (λ (w : Vec kept_waiting.Waiting Global). w.items) waiting ∙ none

  abbrev First : DriveState → DriveState → Type 0
  First s left = Closes s file left before.faults after.faults

  -- what is left, whatever is answered
  left_over : (P : DriveState → DriveState → Type 0) → ((nodes left : List Node) → before.told ≡ Some nodes → P (drive_of t nodes) (drive_of new left) → First (drive_of t nodes) (drive_of new left)) → Leaves t before new after P
      → IsOver new after × (before.told ≡ None → after.told ≡ None) × OverTold t before new after First
  left_over P so leaves = (leaves.0, leaves.1, λ nodes told. let l = leaves.2 nodes told in (l.0, l.1, so nodes l.0 told l.2))

  used_once_less : (result : Result Done Status) → ServesClose t before new after file result → ((closed : Option ℕ) × IsSoundBut closed new) × (IsOver new after × (before.told ≡ None → after.told ≡ None) × OverTold t before new after First)
  used_once_less (Ok (done.Replied body news)) serves = (
    (news.closed, serves.0),
    left_over (λ s left. on_handle s file (close s file) ≡ record { state = left; answer = step.Reply (outcome.done body); news = news_of new news }) (λ nodes left told is. inl (ap (λ (o : Outcome). o.state) is, calm_told before after serves.2 nodes told)) serves.3,
  )
  used_once_less (Ok done.Parked) serves = (
    (None, serves.0),
    left_over (λ s left. on_handle s file (close s file) ≡ record { state = left; answer = step.Parked; news = outcome.no_news }) (λ nodes left told is. inl (ap (λ (o : Outcome). o.state) is, serves.1)) serves.2,
  )
  used_once_less (Ok (done.Kept status news)) serves = (
    (Some file, serves.0),
    left_over (λ s left. (handle : drive.Handle) × (node : Node) × (handle_at s file ≡ Some handle) × (node_of_path s handle.path ≡ Some node) × (takes_out s file handle node ≡ true)
        × (keeping_node s file status handle node ≡ record { state = left; answer = step.Reply (outcome.fault status); news = news_of new news })) (λ nodes left told is. inr (
          step.Reply (outcome.fault status),
          record {
            no = serves.3.0;
            some = serves.3.2;
            found = λ e. absurd (told_so before nodes told (serves.3.3 e));
            handle = is.0;
            node = is.1;
            opened = is.2;
            there = is.3;
            takes = is.4;
            comes = ap (λ (st : Status). step_of (keeping_node (drive_of t nodes) file st is.0 is.1)) (sym serves.3.1) ∙ ap step_of is.5 ∙ step_idle (drive_of new left) (step.Reply (outcome.fault status)) (news_of new news) (ap (map waiting_of) first_none);
            counted = serves.3.4;
          },
        )) serves.4,
  )
  used_once_less (Err status) serves = (
    (None, serves.0),
    left_over (λ s left. on_handle s file (close s file) ≡ outcome.refused left status) (λ nodes left told is. inl (ap (λ (o : Outcome). o.state) is, serves.2)) serves.3,
  )

  pub first_closed : (result : Result Done Status) → ServesClose t before new after file result → IsSound new × IsOver new after × (before.told ≡ None → after.told ≡ None) × ClosesFirst t before new after
  first_closed result serves =
      let left = used_once_less result serves in (
        sound_alone new left.0.0 left.0.1 first_none,
        left.1.0,
        left.1.1,
        record { file = file; keys = ap keys_of entries.1 ∙ ap (λ (es : List (ℕ × kept.Handle)). file ∷ keys_of es) (sym others); closes = left.1.2 },
      )

-- ---- all of them

-- what is not begun
pub way_begins : (t : Table) (before : Seen) → IsOnTheWay t before t before
way_begins t before = λ nodes told. (nodes, told, λ left faults all. all)

pub way_goes_on : (old : Table) (before : Seen) (now : Table) (midway : Seen) → IsOnTheWay old before now midway → (new : Table) (after : Seen) → ClosesFirst now midway new after → IsOnTheWay old before new after
way_goes_on old before now midway way new after first = λ nodes told.
    let mid = way nodes told in
    let next = first.closes mid.0 mid.1 in (
      next.0,
      next.1,
      λ left faults all. mid.2 left faults (subst (λ (ks : List ℕ). ClosesAll (drive_of now mid.0) ks left midway.faults faults) (sym first.keys) (drive_of new next.0, after.faults, next.2, all)),
    )

pub way_ends : (old : Table) (before : Seen) (new : Table) (after : Seen) → IsOnTheWay old before new after → new.handles.entries ≡ [] → ClosesEach old before new after
way_ends old before new after way none = λ nodes told.
    let last = way nodes told in
    (last.0, last.1, last.2 (drive_of new last.0) after.faults (subst (λ (ks : List ℕ). ClosesAll (drive_of new last.0) ks (drive_of new last.0) after.faults after.faults) (ap keys_of (sym none)) (refl, refl)))

keys_length : {X : Type 0} (es : List (ℕ × X)) → length (keys_of es) ≡ length es
keys_length [] = refl
keys_length (e ∷ es) = let later = keys_length es in omega (arith, later)

pub fewer_open : (old : Table) (before : Seen) (new : Table) (after : Seen) → ClosesFirst old before new after → length new.handles.entries + 1 ≡ length old.handles.entries
fewer_open old before new after first =
    let olds = keys_length old.handles.entries in
    let news = keys_length new.handles.entries in
    let one = ap (length {A = ℕ}) first.keys in
    omega (arith, olds, news, one)

-- ---- the whole cut

pub keys_seen : (t : Table) (es : List (ℕ × kept.Handle)) → keys_of (map (λ (e : ℕ × kept.Handle). (e.0, handle_of t e.1)) es) ≡ keys_of es
keys_seen t [] = refl
keys_seen t (e ∷ es) = ap (λ (ks : List ℕ). e.0 ∷ ks) (keys_seen t es)

-- the requests that wait are cancelled
pub cancelled_sound : (t : Table) → IsSound t → (locks : LockList) → locks ≡ record t.locks { reserved = 0 } → (waiting : Vec kept_waiting.Waiting Global) → waiting.items ≡ [] → vec_capacity waiting ≡ vec_capacity t.waiting
    → IsSound (record t { locks = locks; waiting = waiting })
cancelled_sound t sound locks free waiting none room =
    beside_sound t locks waiting sound None (subst (λ (l : LockList). AllByRecursion (IsHome t) l.locks) (sym free) sound.locked)
    (subst (AllByRecursion (IsWaiting None t)) (sym none) tt)
    (ap (λ (l : LockList). l.reserved) free ∙ ap (sum_by (λ (w : kept_waiting.Waiting). wish_ranges w.wish)) (sym none))
    (omega (arith, ap (length {A = kept_waiting.Waiting}) none))
    (omega (arith, room, sound.few.2))

pub cut_is : (old : Table) (mid : Table) → IsBeside old mid → mid.locks ≡ record old.locks { reserved = 0 } → mid.waiting.items ≡ [] → (before : Seen) (new : Table) (after : Seen) → ClosesEach mid before new after → Cuts old before new after
cut_is old mid beside locks none before new after each = λ nodes told.
    let all = each nodes told in
    let same : drive_of mid nodes ≡ record (drive_of old nodes) { waiting = [] } = ap (λ (t : Table). drive_of t nodes) beside
    ∙ (λ i. record (drive_of old nodes) { locks = map lock_of (ap (λ (l : LockList). l.locks) locks i); waiting = map waiting_of (none i) }) in
    let keys : keys_of mid.handles.entries ≡ keys_of (drive_of old nodes).handles = ap (λ (t : Table). keys_of t.handles.entries) beside ∙ sym (keys_seen old old.handles.entries) in
    (all.0, all.1, subst (λ (d : DriveState). ClosesAll d (keys_of (drive_of old nodes).handles) (drive_of new all.0) before.faults after.faults) same (subst (λ (ks : List ℕ). ClosesAll (drive_of mid nodes) ks (drive_of new all.0) before.faults after.faults) keys all.2))
