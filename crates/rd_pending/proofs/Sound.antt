-- What holds of a table and its history, and what goes on whatever is called.
use Rattle.std.proofs.Common.{◌≡◌, ◌∙◌, refl, sym, ap, subst, ℕ, suc, ◌+◌, ◌<◌, ◌≤◌, ◌==◌, Bool, true, false, cond, List, [], ◌∷◌, ◌++◌, length, take, Some, None, Option, append-nil, eq-eqb, eqb-true, inl, inr}
use Rattle.std.specs.Prelude.{slice_get}
use Rattle.std.specs.Option.{option_map, option_or}
use Rattle.std.proofs.lemmas.Bool.{cases_Bool}
use Rattle.rd_base.specs.declared.journal.Cause.TheVariants.{Dropped}
use Rattle.rd_irp.specs.Fits.{kind_of}
use Rattle.rd_pending.specs.declared.calls.Outcome.{Outcome}
use Rattle.rd_pending.specs.declared.calls.Outcome.TheVariants.{Lost}
use Rattle.rd_pending.specs.Outcomes.{Accepted, Agrees, Course, course_from, ended_in}
use Rattle.rd_pending.specs.Table.{AreSlots, Slot, TableState, Untaken, awaits, fate_at, is_awaited, life_of, slot_for, untaken_at}
use Rattle.rd_pending.specs.History.{Call, accepted_in, after, ended_on, heard_by, heard_on, is_open_on, lives_before}
use Rattle.rd_pending.proofs.CountLemmas.{pairs}
use Rattle.rd_pending.proofs.CourseLemmas.{ended_more, heard_pairs, or_none, through}
use Rattle.rd_pending.proofs.FateLemmas.{fate_of, is_waiting, live_waits, waiting}

-- the course of a channel
abbrev pub course : ℕ → List Call → Course
course c h = through (course_from (lives_before c h)) (heard_on c h)

-- one where a slot is held of a device
abbrev pub held : Option Slot → ℕ → ℕ
held None d = 0
held (Some s) d = cond (s.device == d) 1 0

-- what came of a request before which so many have its pair
abbrev pub outcome_after : ℕ → Accepted → List Call → Option Outcome
outcome_after m a h =
    option_or (ended_in a m (course_from (lives_before a.channel h)) (heard_on a.channel h)) (cond (ended_on a.channel h) (Some (Lost Dropped)) None)

-- how many have a request's pair among some
abbrev pub alike_before : List Accepted → Accepted → ℕ
alike_before xs a = pairs a.channel a.device a.id xs

-- A slot is of a request that was accepted on the open channel, with its number, device, id and layout.
pub record IsSlotOf (t : TableState) (h : List Call) (id : ℕ) (slot : Slot) : Type 0 where
  pub before : ℕ
  pub numbered : slot.number ≡ suc before
  pub request : Accepted
  pub is : slice_get (accepted_in h) before ≡ Some request
  pub channel : t.channel ≡ Some request.channel
  pub device : request.device ≡ slot.device
  pub own_id : request.id ≡ id
  pub kind : kind_of request.op ≡ slot.kind

-- The request after so many has what there is of its outcome by what was heard, and the device and life that are kept of it. While it is awaited its
-- device's life goes on, and no later one has its pair.
pub record IsTracked (t : TableState) (h : List Call) (n : ℕ) (a : Accepted) : Type 0 where
  pub below : a.channel < t.below
  pub agrees : Agrees (fate_at t (suc n)) (outcome_after (alike_before (take n (accepted_in h)) a) a h)
  pub named : (u : Untaken) → untaken_at t (suc n) ≡ Some u → (u.device ≡ a.device) × (u.life ≡ a.life)
  pub alive : awaits t (suc n) ≡ true → life_of t a.device ≡ Some a.life
  pub last : awaits t (suc n) ≡ true → alike_before (accepted_in h) a ≡ suc (alike_before (take n (accepted_in h)) a)

-- On the open channel the requests with a pair are the completions heard with it, and one more where its slot is held.
pub record Sound (t : TableState) (h : List Call) : Type 0 where
  pub slots : AreSlots t
  pub count : t.count ≡ length (accepted_in h)
  pub below : (c : ℕ) → t.channel ≡ Some c → c < t.below
  pub fresh : (c : ℕ) → t.below ≤ c → (heard_on c h ≡ []) × (ended_on c h ≡ false) × ((d i : ℕ) → pairs c d i (accepted_in h) ≡ 0)
  pub shut : (c : ℕ) → t.channel ≡ Some c → ended_on c h ≡ false
  pub lives : (c : ℕ) → t.channel ≡ Some c → ((course c h).lives ≡ t.lives) × ((course c h).given ≡ t.given)
  pub balanced : (c : ℕ) → t.channel ≡ Some c → (d i : ℕ) → pairs c d i (accepted_in h) ≡ heard_pairs d i (course c h) + held (slot_for t i) d
  pub of_slot : (id : ℕ) (slot : Slot) → slot_for t id ≡ Some slot → IsSlotOf t h id slot
  pub requests : (n : ℕ) (a : Accepted) → slice_get (accepted_in h) n ≡ Some a → IsTracked t h n a

-- a request that is awaited is one of the open channel, and has its slot there
pub own_slot : (t : TableState) (h : List Call) (n : ℕ) (a : Accepted) → Sound t h → slice_get (accepted_in h) n ≡ Some a → awaits t (suc n) ≡ true
    → (t.channel ≡ Some a.channel) × (slot_for t a.id ≡ Some (record { number = suc n; device = a.device; kind = kind_of a.op; dead = false }))
own_slot t h n a s is none =
    let waits = waiting (untaken_at t (suc n)) none in
    let its = s.slots.of_awaited (suc n) waits.one waits.is (ap is_awaited waits.fate) in
    let slot : Slot = record { number = suc n; device = waits.one.device; kind = its.kind; dead = false } in
    let own = s.of_slot its.id slot its.held in
    let place : n ≡ own.before = cc (own.numbered) in
    let same : own.request ≡ a = cc (own.is, subst (λ (k : ℕ). slice_get (accepted_in h) k ≡ Some a) place is) in
    let device : waits.one.device ≡ a.device = sym own.device ∙ ap (λ (b : Accepted). b.device) same in
    let kind : its.kind ≡ kind_of a.op = sym own.kind ∙ ap (λ (b : Accepted). kind_of b.op) same in
    let id : its.id ≡ a.id = sym own.own_id ∙ ap (λ (b : Accepted). b.id) same in (
      own.channel ∙ ap (λ (b : Accepted). Some b.channel) same,
      subst (λ (k : ℕ). slot_for t k ≡ Some (record { number = suc n; device = a.device; kind = kind_of a.op; dead = false })) id
          (its.held ∙ rw (device, kind) refl),
    )

pub opens : (t : TableState) (h : List Call) (n : ℕ) (a : Accepted) → Sound t h → slice_get (accepted_in h) n ≡ Some a → awaits t (suc n) ≡ true → t.channel ≡ Some a.channel
opens t h n a s is none = (own_slot t h n a s is none).0

-- a slot that isn't dead is of a request that is awaited
pub slot_waits : (t : TableState) (id : ℕ) (slot : Slot) → AreSlots t → slot_for t id ≡ Some slot → slot.dead ≡ false → awaits t slot.number ≡ true
slot_waits t id slot s held alive =
    let waits = live_waits (untaken_at t slot.number) ((s.of_slot id slot held).mark ∙ ap Some alive) in
    ap (λ (o : Option Untaken). is_waiting (option_map fate_of o)) waits.is ∙ ap is_awaited waits.fate

-- ---- what is heard by a call

pub open_on : (t : TableState) (c : ℕ) → t.channel ≡ Some c → is_open_on t c ≡ true
open_on t c e = rw e (eq-eqb c c refl)

pub is_open : (t : TableState) (c : ℕ) → is_open_on t c ≡ true → t.channel ≡ Some c
is_open t c e = go t.channel refl
  where
    go : (o : Option ℕ) → t.channel ≡ o → o ≡ Some c
    go None e2 = let shut : is_open_on t c ≡ false = rw e2 refl in absurd (cc (shut, e))
    go (Some x) e2 = let same : (x == c) ≡ true = sym (rw e2 refl) ∙ e in ap Some (eqb-true x c same)

pub heard_open : (call : Call) (h : List Call) (c : ℕ) → (after h).channel ≡ Some c → heard_on c (call ∷ h) ≡ heard_on c h ++ heard_by call
heard_open call h c e = ap (λ (b : Bool). heard_on c h ++ cond b (heard_by call) []) (open_on (after h) c e)

pub heard_else : (call : Call) (h : List Call) (c : ℕ) → is_open_on (after h) c ≡ false → heard_on c (call ∷ h) ≡ heard_on c h
heard_else call h c e = ap (λ (b : Bool). heard_on c h ++ cond b (heard_by call) []) e ∙ append-nil (heard_on c h)

pub heard_none : (call : Call) (h : List Call) (c : ℕ) → heard_by call ≡ [] → heard_on c (call ∷ h) ≡ heard_on c h
heard_none call h c none = rw none (go (is_open_on (after h) c))
  where
    go : (b : Bool) → heard_on c h ++ cond b [] [] ≡ heard_on c h
    go true = append-nil (heard_on c h)
    go false = append-nil (heard_on c h)

-- ---- outcomes go on

-- a call that neither begins nor ends a channel
pub record IsWithin (call : Call) (h : List Call) : Type 0 where
  pub lives : (c : ℕ) → lives_before c (call ∷ h) ≡ lives_before c h
  pub ended : (c : ℕ) → ended_on c (call ∷ h) ≡ ended_on c h

pub outcome_open : (call : Call) (h : List Call) (m : ℕ) (a : Accepted) → IsWithin call h → (after h).channel ≡ Some a.channel → ended_on a.channel h ≡ false
    → outcome_after m a (call ∷ h) ≡ option_or (outcome_after m a h) (ended_in a m (course a.channel h) (heard_by call))
outcome_open call h m a within is_open_one running =
    rw (within.lives a.channel, within.ended a.channel, running, heard_open call h a.channel is_open_one)
    (or_none (ended_in a m (course_from (lives_before a.channel h)) (heard_on a.channel h ++ heard_by call))
    ∙ ended_more a m (course_from (lives_before a.channel h)) (heard_on a.channel h) (heard_by call)
    ∙ ap (λ (o : Option Outcome). option_or o (ended_in a m (course a.channel h) (heard_by call))) (sym (or_none (ended_in a m (course_from (lives_before a.channel h)) (heard_on a.channel h)))))

pub outcome_else : (call : Call) (h : List Call) (m : ℕ) (a : Accepted) → IsWithin call h → is_open_on (after h) a.channel ≡ false
    → outcome_after m a (call ∷ h) ≡ outcome_after m a h
outcome_else call h m a within elsewhere = rw (within.lives a.channel, within.ended a.channel, heard_else call h a.channel elsewhere) refl

pub outcome_quiet : (call : Call) (h : List Call) (m : ℕ) (a : Accepted) → IsWithin call h → heard_by call ≡ [] → outcome_after m a (call ∷ h) ≡ outcome_after m a h
outcome_quiet call h m a within none = rw (within.lives a.channel, within.ended a.channel, heard_none call h a.channel none) refl

-- an outcome stays
pub outcome_stays : (call : Call) (h : List Call) (m : ℕ) (a : Accepted) (o : Outcome) → IsWithin call h → ((after h).channel ≡ Some a.channel → ended_on a.channel h ≡ false)
    → outcome_after m a h ≡ Some o → outcome_after m a (call ∷ h) ≡ Some o
outcome_stays call h m a o within running known_one = elim (cases_Bool (is_open_on (after h) a.channel)) [
  | inl e ↦
      let open_one = is_open (after h) a.channel e in
      outcome_open call h m a within open_one (running open_one) ∙ ap (λ (x : Option Outcome). option_or x (ended_in a m (course a.channel h) (heard_by call))) known_one
  | inr e ↦ outcome_else call h m a within e ∙ known_one
]
