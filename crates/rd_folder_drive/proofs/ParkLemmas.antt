-- A request that begins to wait: the table after it is sound, and the request waits as it says.
use Rattle.std.proofs.Common.{◌≡◌, ◌∙◌, refl, sym, ap, subst, true, ◌+◌, ◌<◌, ◌≤◌, List, [], ◌∷◌, ◌++◌, map, length, sum_by, None, Ok, vec_capacity, arith, length-append}
use Rattle.std.specs.List.{AllByRecursion}
use Rattle.std.specs.Option.{IsSome}
use Rattle.std.proofs.lemmas.List.{map-append}
use Rattle.std.proofs.lemmas.List.Sums.{sum_by_push}
use Rattle.rd_locks.specs.Locks.{LockList}
use Rattle.rd_drive.specs.declared.step.Step.TheVariants as step
use Rattle.rd_drive.specs.declared.waiting.Waiting as kept_waiting
use Rattle.rd_drive.specs.DriveState.{DriveState, Node}
use Rattle.rd_drive.specs.Locking.{waits}
use Rattle.rd_drive.specs.Outcome.{Outcome, no_news}
use Rattle.rd_drive.specs.Answered.{parked_of}
use Rattle.rd_drive.specs.Store.{HasRoom, lock_of, waiting_of, wish_ranges}
use Rattle.rd_drive.proofs.AllLemmas.{all_append}
use Rattle.rd_folder_drive.specs.declared.table.Table.{Table}
use Rattle.rd_folder_drive.specs.declared.table.Done.{Done}
use Rattle.rd_folder_drive.specs.Alone.{ServesAlone}
use Rattle.rd_folder_drive.specs.Table.{HasNodes, IsSound, drive_of, kept_handle}
use Rattle.rd_folder_drive.specs.Waits.{IsParked, WaitsBy, parked_in}
use Rattle.rd_folder_drive.proofs.BesideLemmas.{IsWaiting, beside, beside_holds, beside_sound}
use Rattle.rd_folder_drive.proofs.LockLemmas.{IsHome}

-- a request that is parked waits after the others
pub waits_last : (old between new : Table) (w : kept_waiting.Waiting) (result : Done) → IsParked between new w result → between.waiting ≡ old.waiting → WaitsBy old new (parked_of (waiting_of w)) true (Ok result)
waits_last old between new w result parked same = subst (λ (r : Done). WaitsBy old new (parked_of (waiting_of w)) true (Ok r)) (sym parked.parked) (refl, last)
  where
    items : new.waiting.items ≡ old.waiting.items ++ w ∷ []
    items = parked.items ∙ (λ i. (same i).items ++ w ∷ [])

    last : parked_in new ≡ parked_in old ++ parked_of (waiting_of w) ∷ []
    last =
        ap (λ (ws : List kept_waiting.Waiting). map parked_of (map waiting_of ws)) items
        ∙ ap (map parked_of) (map-append waiting_of old.waiting.items (w ∷ []))
        ∙ map-append parked_of (map waiting_of old.waiting.items) (waiting_of w ∷ [])

module _ (t between new : Table) (sound : IsSound t) (locks : LockList) (w : kept_waiting.Waiting) (result : Done) (is : between ≡ record t { locks = locks }) (parked : IsParked between new w result)
    (same : locks.locks ≡ t.locks.locks) (reserved : locks.reserved ≡ t.locks.reserved + wish_ranges w.wish) (few : length t.waiting.items < 64) (opened : IsSome (kept_handle t w.file)) (room : HasRoom w.wish) where
  abbrev IsLater : Table → Type 0
  IsLater u = (new ≡ record u { waiting = new.waiting }) × (new.waiting.items ≡ u.waiting.items ++ w ∷ []) × (vec_capacity u.waiting ≤ vec_capacity new.waiting)

  later : IsLater (record t { locks = locks })
  later = subst IsLater is (parked.same, parked.items, parked.room)

  items : new.waiting.items ≡ t.waiting.items ++ w ∷ []
  items = later.1

  new_is : new ≡ beside t locks new.waiting
  new_is = later.0

  after_sound : IsSound (beside t locks new.waiting)
  after_sound = beside_sound t locks new.waiting sound None
      (subst (AllByRecursion (IsHome t)) (sym same) sound.locked)
      (subst (AllByRecursion (IsWaiting None t)) (sym items) (all_append (IsWaiting None t) t.waiting.items (w ∷ []) sound.waits (((λ e. opened), room), tt)))
      (reserved ∙ ap (λ k. k + wish_ranges w.wish) sound.reserved ∙ sym (ap (sum_by (λ (v : kept_waiting.Waiting). wish_ranges v.wish)) items ∙ sum_by_push (λ (v : kept_waiting.Waiting). wish_ranges v.wish) t.waiting.items w))
      (omega (arith, ap length items, length-append t.waiting.items (w ∷ [])))
      (omega (arith, sound.few.2, later.2))

  drive_after : (nodes : List Node) → drive_of new nodes ≡ record (drive_of t nodes) { waiting = (drive_of t nodes).waiting ++ waiting_of w ∷ [] }
  drive_after nodes =
      ap (λ (u : Table). drive_of u nodes) new_is
      ∙ (λ i. record (drive_of t nodes) { locks = map lock_of (same i); waiting = (ap (map waiting_of) items ∙ map-append waiting_of t.waiting.items (w ∷ [])) i })

  -- the table is sound, and the request waits
  pub alone_parked : (comes : DriveState → Outcome) → ((nodes : List Node) → HasNodes t nodes → comes (drive_of t nodes) ≡ waits (drive_of t nodes) w.key w.file (waiting_of w).wish) → ServesAlone t new comes (Ok result)
  alone_parked comes e =
      subst (λ (r : Done). ServesAlone t new comes (Ok r)) (sym parked.parked) (
        subst IsSound (sym new_is) after_sound,
        λ nodes holds. (
          subst (λ (u : Table). HasNodes u nodes) (sym new_is) (beside_holds t locks new.waiting nodes holds),
          e nodes holds ∙ ap (λ d. record { state = d; answer = step.Parked; news = no_news }) (sym (drive_after nodes)),
        ),
      )
