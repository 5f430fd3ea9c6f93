-- A request that begins to wait: the drive after it is sound, and waits as it says.
use Rattle.std.proofs.Common.{◌≡◌, ◌∙◌, sym, ap, subst, ℕ, ◌+◌, ◌<◌, ◌≤◌, true, false, List, [], ◌∷◌, ◌++◌, map, length, sum_by, None, Ok, vec_capacity, arith, length-append}
use Rattle.std.specs.List.{AllByRecursion}
use Rattle.std.specs.Option.{option_map_or, IsSome}
use Rattle.std.proofs.lemmas.List.{map-append}
use Rattle.std.proofs.lemmas.List.Sums.{sum_by_push}
use Rattle.rd_locks.specs.Locks.{LockList}
use Rattle.rd_drive.specs.declared.waiting.Waiting as kept_waiting
use Rattle.rd_drive.specs.declared.store.Store.{Store}
use Rattle.rd_drive.specs.declared.store.Done.{Done}
use Rattle.rd_drive.specs.declared.step.Step.TheVariants as step
use Rattle.rd_drive.specs.Outcome.{Outcome, no_news}
use Rattle.rd_drive.specs.Locking.{waits}
use Rattle.rd_drive.specs.Store.{drive_of, kept_handle, wish_ranges, waiting_of, lock_of, HasRoom, IsSound, Serves}
use Rattle.rd_drive.specs.Waits.{IsParked}
use Rattle.rd_drive.proofs.AllLemmas.{all_append}
use Rattle.rd_drive.proofs.ConflictLemmas.{IsHome}

module _ (s between new : Store) (sound : IsSound s) (locks : LockList) (w : kept_waiting.Waiting) (result : Done) (is : between ≡ record s { locks = locks }) (parked : IsParked between new w result)
    (same : locks.locks ≡ s.locks.locks) (reserved : locks.reserved ≡ s.locks.reserved + wish_ranges w.wish) (few : length s.waiting.items < 64) (opened : IsSome (kept_handle s w.file)) (room : HasRoom w.wish) where
  abbrev IsLater : Store → Type 0
  IsLater t = (new ≡ record t { waiting = new.waiting }) × (new.waiting.items ≡ t.waiting.items ++ w ∷ []) × (vec_capacity t.waiting ≤ vec_capacity new.waiting)

  later : IsLater (record s { locks = locks })
  later = subst IsLater is (parked.same, parked.items, parked.room)

  items : new.waiting.items ≡ s.waiting.items ++ w ∷ []
  items = later.1

  capacity : vec_capacity s.waiting ≤ vec_capacity new.waiting
  capacity = later.2

  abbrev after : Store
  after = record s { locks = locks; waiting = new.waiting }

  new_is : new ≡ after
  new_is = later.0

  after_sound : IsSound after
  after_sound = record {
    whole = sound.whole;
    naming = sound.naming;
    label = sound.label;
    states = sound.states;
    root = sound.root;
    fitting = sound.fitting;
    opened = sound.opened;
    uses = sound.uses;
    locked = subst (λ ls. AllByRecursion (IsHome s) ls) (sym same) sound.locked;
    waits = subst (λ (ws : List kept_waiting.Waiting). AllByRecursion (λ (v : kept_waiting.Waiting). (option_map_or (λ (n : ℕ). true) None false ≡ false → IsSome (kept_handle s v.file)) × HasRoom v.wish) ws) (sym items) (all_append _ s.waiting.items (w ∷ []) sound.waits (((λ e. opened), room), tt));
    reserved = reserved ∙ ap (λ k. k + wish_ranges w.wish) sound.reserved ∙ sym (ap (sum_by (λ (v : kept_waiting.Waiting). wish_ranges v.wish)) items ∙ sum_by_push (λ (v : kept_waiting.Waiting). wish_ranges v.wish) s.waiting.items w);
    few = (sound.few.0, omega (arith, ap length items, length-append s.waiting.items (w ∷ [])), omega (arith, sound.few.2, capacity));
    ids = sound.ids;
  }

  -- the drive is sound
  pub parked_sound : IsSound new
  parked_sound = subst IsSound (sym new_is) after_sound

  drive_after : drive_of new ≡ record (drive_of s) { waiting = (drive_of s).waiting ++ waiting_of w ∷ [] }
  drive_after =
      ap drive_of new_is
      ∙ (λ i. record (drive_of s) { locks = map lock_of (same i); waiting = (ap (map waiting_of) items ∙ map-append waiting_of s.waiting.items (w ∷ [])) i })

  -- and the request waits
  pub serves_parked : (old : Store) (comes : Outcome) → comes ≡ waits (drive_of s) w.key w.file (waiting_of w).wish → Serves old new comes (Ok result)
  serves_parked old comes e =
      subst (λ (r : Done). Serves old new comes (Ok r)) (sym parked.parked)
      (parked_sound, e ∙ ap (λ d. record { state = d; answer = step.Parked; news = no_news }) (sym drive_after))
