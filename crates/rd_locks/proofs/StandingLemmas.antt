-- The locks that stand in slots: what is found among them, and what is left of them as one goes.
use Rattle.std.proofs.Common.{◌≡◌, ◌∙◌, sym, ap, refl, ℕ, zero, suc, ◌+◌, ◌<◌, ◌≤◌, ◌==◌, ◌&&◌, not, Bool, true, false, List, [], ◌∷◌, ◌++◌, length, arith, set, if◌then◌else◌}
use Rattle.std.proofs.lemmas.Bool.{and_parts, ne_eqb}
use Rattle.std.specs.Prelude.{find, filter, Some, None, is_some, ◌||◌, Err}
use Rattle.rd_irp.specs.declared.op.Range.{Range}
use Rattle.std.specs.List.{list_any}
use Rattle.rd_locks.specs.declared.held.Held.{Held}
use Rattle.rd_locks.specs.declared.slots.Slot.{Slot}
use Rattle.rd_locks.specs.Locks.{without_first, is_lock_of, unlocked, released}
use Rattle.rd_locks.proofs.SlotLemmas.{by_equal}
use Rattle.std.proofs.Math.Bool.{and-true, and-false}
use Rattle.std.proofs.Common.{eq-eqb}
use Rattle.std.proofs.lemmas.List.{get_or_past}
use Rattle.rd_locks.specs.Slots.{slot_at, no_slot, standing}

-- the slot's lock no longer stands
abbrev pub gone_at : List Slot → ℕ → List Slot
gone_at slots k = set slots k (record (slot_at slots k) { stands = false })

-- a lock that passes stands in the slot
abbrev pub passes : (Held → Bool) → Slot → Bool
passes test slot = slot.stands && test slot.lock

pub length-standing : (slots : List Slot) → length (standing slots) ≤ length slots
length-standing [] = omega arith
length-standing (slot ∷ slots) =
    elim slot.stands as (λ b. length (if b then (slot.lock ∷ standing slots) else standing slots) ≤ length (slot ∷ slots))
    [ true ↦ omega (arith, length-standing slots) | false ↦ omega (arith, length-standing slots) ]

-- a slot whose lock stands goes, whatever else of it changes
pub length-dropped : (slots : List Slot) (k : ℕ) (slot : Slot) → k < length slots → slot.stands ≡ false → (slot_at slots k).stands ≡ true → length (standing (set slots k slot)) + 1 ≡ length (standing slots)
length-dropped [] k new within gone stands = absurd (omega arith)
length-dropped (slot ∷ slots) zero new within gone stands = rw (stands, gone) (omega arith)
length-dropped (slot ∷ slots) (suc k) new within gone stands =
    elim slot.stands as (λ b. length (if b then (slot.lock ∷ standing (set slots k new)) else standing (set slots k new)) + 1 ≡ length (if b then (slot.lock ∷ standing slots) else standing slots))
    [ true ↦ omega (arith, length-dropped slots k new (omega arith) gone stands) | false ↦ length-dropped slots k new (omega arith) gone stands ]

pub length-gone_at : (slots : List Slot) (k : ℕ) → k < length slots → (slot_at slots k).stands ≡ true → length (standing (gone_at slots k)) + 1 ≡ length (standing slots)
length-gone_at slots k within stands = length-dropped slots k (record (slot_at slots k) { stands = false }) within refl stands

find-skip : (test : Held → Bool) (slot : Slot) (slots : List Slot) → passes test slot ≡ false → find test (standing (slot ∷ slots)) ≡ find test (standing slots)
find-skip test slot slots miss =
    elim slot.stands as (λ b. (b && test slot.lock) ≡ false → find test (if b then (slot.lock ∷ standing slots) else standing slots) ≡ find test (standing slots))
    [ true ↦ λ m. rw m refl | false ↦ λ _. refl ] miss

without-skip : (test : Held → Bool) (slot : Slot) (slots : List Slot) → passes test slot ≡ false
    → without_first test (standing (slot ∷ slots)) ≡ (if slot.stands then (slot.lock ∷ without_first test (standing slots)) else without_first test (standing slots))
without-skip test slot slots miss =
    elim slot.stands as (λ b. (b && test slot.lock) ≡ false → without_first test (if b then (slot.lock ∷ standing slots) else standing slots) ≡ (if b then (slot.lock ∷ without_first test (standing slots)) else without_first test (standing slots)))
    [ true ↦ λ m. rw m refl | false ↦ λ _. refl ] miss

-- the first slot in which a lock that passes stands has the first such lock
pub find-standing : (test : Held → Bool) (slots : List Slot) (k : ℕ) → k < length slots → ((i : ℕ) → i < k → passes test (slot_at slots i) ≡ false) → passes test (slot_at slots k) ≡ true
    → find test (standing slots) ≡ Some (slot_at slots k).lock
find-standing test [] k within before here = absurd (omega arith)
find-standing test (slot ∷ slots) zero within before here = let s : slot.stands ≡ true = (and_parts _ _ here).0 in let t : test slot.lock ≡ true = (and_parts slot.stands _ here).1 in rw s (rw t refl)
find-standing test (slot ∷ slots) (suc k) within before here =
    find-skip test slot slots (before 0 (omega arith)) ∙ find-standing test slots k (omega arith) (λ i lt. before (suc i) (omega arith)) here

pub find-standing_none : (test : Held → Bool) (slots : List Slot) → ((i : ℕ) → i < length slots → passes test (slot_at slots i) ≡ false) → find test (standing slots) ≡ None
find-standing_none test [] none = refl
find-standing_none test (slot ∷ slots) none =
    find-skip test slot slots (none 0 (omega arith)) ∙ find-standing_none test slots (λ i lt. none (suc i) (omega arith))

-- without that lock the others stand
pub without-standing : (test : Held → Bool) (slots : List Slot) (k : ℕ) → k < length slots → ((i : ℕ) → i < k → passes test (slot_at slots i) ≡ false) → passes test (slot_at slots k) ≡ true
    → without_first test (standing slots) ≡ standing (gone_at slots k)
without-standing test [] k within before here = absurd (omega arith)
without-standing test (slot ∷ slots) zero within before here = let s : slot.stands ≡ true = (and_parts _ _ here).0 in let t : test slot.lock ≡ true = (and_parts slot.stands _ here).1 in rw s (rw t refl)
without-standing test (slot ∷ slots) (suc k) within before here =
    without-skip test slot slots (before 0 (omega arith))
    ∙ ap (λ (locks : List Held). if slot.stands then (slot.lock ∷ locks) else locks) (without-standing test slots k (omega arith) (λ i lt. before (suc i) (omega arith)) here)

-- a test passes some element exactly where one is found
pub any-find : (test : Held → Bool) (locks : List Held) → list_any test locks ≡ is_some (find test locks)
any-find test [] = refl
any-find test (lock ∷ locks) =
    elim (test lock) as (λ b. (b || list_any test locks) ≡ is_some (if b then Some lock else find test locks))
    [ true ↦ refl | false ↦ any-find test locks ]

-- where the same locks stand the list is the same
pub standing-same : (old new : List Slot) → length new ≡ length old → ((i : ℕ) → (slot_at new i).lock ≡ (slot_at old i).lock) → ((i : ℕ) → (slot_at new i).stands ≡ (slot_at old i).stands) → standing new ≡ standing old
standing-same [] [] long lock stands = refl
standing-same [] (b ∷ bs) long lock stands = absurd (omega arith)
standing-same (a ∷ as') [] long lock stands = absurd (omega arith)
standing-same (a ∷ as') (b ∷ bs) long lock stands =
    let rest : standing bs ≡ standing as' = standing-same as' bs (omega arith) (λ i. lock (suc i)) (λ i. stands (suc i)) in
    let s : b.stands ≡ a.stands = stands 0 in
    let l : b.lock ≡ a.lock = lock 0 in
    rw (s, l, rest) refl

-- where those stand that are kept, they are the list filtered
pub standing-kept : (keep : Held → Bool) (old new : List Slot) → length new ≡ length old → ((i : ℕ) → (slot_at new i).lock ≡ (slot_at old i).lock)
    → ((i : ℕ) → (slot_at new i).stands ≡ ((slot_at old i).stands && keep (slot_at old i).lock)) → standing new ≡ filter keep (standing old)
standing-kept keep [] [] long lock stands = refl
standing-kept keep [] (b ∷ bs) long lock stands = absurd (omega arith)
standing-kept keep (a ∷ as') [] long lock stands = absurd (omega arith)
standing-kept keep (a ∷ as') (b ∷ bs) long lock stands =
    let rest : standing bs ≡ filter keep (standing as') = standing-kept keep as' bs (omega arith) (λ i. lock (suc i)) (λ i. stands (suc i)) in
    let s : b.stands ≡ (a.stands && keep a.lock) = stands 0 in
    let l : b.lock ≡ a.lock = lock 0 in
    rw (s, l, rest)
    (elim a.stands as (λ t. (if (t && keep a.lock) then (a.lock ∷ filter keep (standing as')) else filter keep (standing as')) ≡ filter keep (if t then (a.lock ∷ standing as') else standing as'))
    [ true ↦ refl | false ↦ refl ])

-- a lock that is taken stands last
pub standing-push : (slots : List Slot) (slot : Slot) → slot.stands ≡ true → standing (slots ++ slot ∷ []) ≡ standing slots ++ slot.lock ∷ []
standing-push [] slot stands = rw stands refl
standing-push (first ∷ slots) slot stands =
    elim first.stands as (λ b. (if b then (first.lock ∷ standing (slots ++ slot ∷ [])) else standing (slots ++ slot ∷ [])) ≡ (if b then (first.lock ∷ standing slots) else standing slots) ++ slot.lock ∷ [])
    [ true ↦ ap (λ (locks : List Held). first.lock ∷ locks) (standing-push slots slot stands) | false ↦ standing-push slots slot stands ]

-- one more range is unlocked, or is missing
pub unlocked_step : (node file : ℕ) (locks left : List Held) (range : Range) (ranges : List Range) → list_any (is_lock_of node file range) locks ≡ true → without_first (is_lock_of node file range) locks ≡ left
    → unlocked node file locks (range ∷ ranges) ≡ unlocked node file left ranges
unlocked_step node file locks left range ranges found e = rw found (ap (λ (l : List Held). unlocked node file l ranges) e)

pub unlocked_missing : (node file : ℕ) (locks : List Held) (range : Range) (ranges : List Range) → list_any (is_lock_of node file range) locks ≡ false → unlocked node file locks (range ∷ ranges) ≡ Err range
unlocked_missing node file locks range ranges missing = rw missing refl

-- what is left of a file's locks after a release on their node
pub standing-released : (file : ℕ) (old new : List Slot) → length new ≡ length old → ((i : ℕ) → (slot_at new i).lock ≡ (slot_at old i).lock)
    → ((i : ℕ) → (slot_at old i).lock.file ≡ file → (slot_at new i).stands ≡ false) → ((i : ℕ) → ((slot_at old i).lock.file ≡ file → ⊥) → (slot_at new i).stands ≡ (slot_at old i).stands)
    → standing new ≡ released file (standing old)
standing-released file old new long lock gone others =
    standing-kept (λ held. not (held.file == file)) old new long lock
    (λ i. by_equal ((slot_at new i).stands ≡ ((slot_at old i).stands && not ((slot_at old i).lock.file == file))) (slot_at old i).lock.file file
    (λ e. gone i e ∙ sym (rw (eq-eqb _ _ e) (and-false (slot_at old i).stands)))
    (λ ne. others i ne ∙ sym (rw (ne_eqb _ _ ne) (and-true (slot_at old i).stands))))

-- past the last slot none stands, and none is kept
pub none_kept : (keep : Held → Bool) (old new : List Slot) (i : ℕ) → length old ≤ i → length new ≡ length old → (slot_at new i).stands ≡ ((slot_at old i).stands && keep (slot_at old i).lock)
none_kept keep old new i past long =
    let o : slot_at old i ≡ no_slot = get_or_past old i no_slot past in
    let n : slot_at new i ≡ no_slot = get_or_past new i no_slot (omega arith) in
    rw (o, n) refl
