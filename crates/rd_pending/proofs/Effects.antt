-- What a call of a table does that isn't refused.
use Rattle.std.proofs.Common.{◌≡◌, ◌⊎◌, refl, ap, inl, inr, ℕ, ◌+◌, ◌<◌, ◌==◌, Bool, true, false, List, length, map, Some, None, Option, arith, eqb-true}
use Rattle.std.specs.Prelude.{Result, Ok, Err, IsOk, is_ok, is_some, nat_le}
use Rattle.std.specs.Ordering.{nat_cmp}
use Rattle.std.specs.Map.{remove_entry}
use Rattle.std.specs.BTreeMap.{insert_entry, is_at}
use Rattle.std.proofs.lemmas.Bool.Decides.{nat_tests}
use Rattle.rd_base.specs.declared.bad.Bad.{Bad}
use Rattle.rd_base.specs.declared.journal.Cause.TheVariants.{Removed}
use Rattle.rd_base.specs.Layout.{met}
use Rattle.rd_base.specs.Position.{Position, at_start}
use Rattle.rd_base.specs.Limits.{max_devices}
use Rattle.rd_irp.specs.declared.completion.Body.{Body}
use Rattle.rd_irp.specs.declared.completion.Head.{Head}
use Rattle.rd_irp.specs.declared.completion.Reply.{Reply}
use Rattle.rd_irp.specs.declared.op.Op.{Op}
use Rattle.rd_irp.specs.Completion.{completion_body}
use Rattle.rd_irp.specs.Fits.{kind_of}
use Rattle.rd_pending.specs.declared.calls.CompleteNo.{CompleteNo}
use Rattle.rd_pending.specs.declared.calls.Outcome.{Outcome}
use Rattle.rd_pending.specs.declared.calls.Outcome.TheVariants.{Done}
use Rattle.rd_pending.specs.declared.calls.SubmitNo.{SubmitNo}
use Rattle.rd_pending.specs.declared.calls.Target.{Target}
use Rattle.rd_pending.specs.Outcomes.{Accepted, reply_in}
use Rattle.rd_pending.specs.Table.{Fate, Slot, TableState, Untaken, accept, awaited, complete, dead_of, device_in, freed, known, life_of, live, live_refusal, losing, max_slots, remove, slot_for, stale, submit, submit_refusal, take, untaken_at, with_fate}

-- ---- a life

pub record Lives (t : TableState) (device : ℕ) : Type 0 where
  pub channel : ℕ
  pub is_open : t.channel ≡ Some channel
  pub absent : life_of t device ≡ None
  pub few : length t.lives < max_devices
  pub new : (live t device).0 ≡ record t { lives = insert_entry nat_cmp t.lives device (t.given + 1); given = t.given + 1; begun = t.begun + 1 }

pub lives : (t : TableState) (device : ℕ) → live_refusal t device ≡ None → Lives t device
lives t device free = go t.channel refl (life_of t device) refl (nat_le max_devices (length t.lives)) refl
  where
    go : (c : Option ℕ) → t.channel ≡ c → (l : Option ℕ) → life_of t device ≡ l → (b : Bool) → nat_le max_devices (length t.lives) ≡ b → Lives t device
    go None e l e2 b e3 = let some : is_some (live_refusal t device) ≡ true = rw e refl in absurd (cc (ap is_some free, some))
    go (Some c) e (Some l) e2 b e3 = let some : is_some (live_refusal t device) ≡ true = rw (e, e2) refl in absurd (cc (ap is_some free, some))
    go (Some c) e None e2 true e3 = let some : is_some (live_refusal t device) ≡ true = rw (e, e2, e3) refl in absurd (cc (ap is_some free, some))
    go (Some c) e None e2 false e3 = record { channel = c; is_open = e; absent = e2; few = grind (arith, nat_tests); new = rw free refl }

-- ---- a request

pub record Submits (t : TableState) (application : ℕ) (named : Target) (o : Op) : Type 0 where
  pub channel : ℕ
  pub is_open : t.channel ≡ Some channel
  pub life : ℕ
  pub present : life_of t (device_in named) ≡ Some life
  pub few : length t.slots < max_slots
  pub new : (submit t application named o).0 ≡ accept t named o

pub submits : (t : TableState) (application : ℕ) (named : Target) (o : Op) → submit_refusal t named ≡ None → Submits t application named o
submits t application named o free = go t.channel refl (life_of t (device_in named)) refl
  where
    few_slots : (c l : ℕ) → t.channel ≡ Some c → life_of t (device_in named) ≡ Some l → (s : Option SubmitNo) → stale named l ≡ s → (b : Bool) → nat_le max_slots (length t.slots) ≡ b → length t.slots < max_slots
    few_slots c l e e2 (Some cause) e3 b e4 = let some : is_some (submit_refusal t named) ≡ true = rw (e, e2, e3) refl in absurd (cc (ap is_some free, some))
    few_slots c l e e2 None e3 true e4 = let some : is_some (submit_refusal t named) ≡ true = rw (e, e2, e3, e4) refl in absurd (cc (ap is_some free, some))
    few_slots c l e e2 None e3 false e4 = grind (arith, nat_tests)

    go : (c : Option ℕ) → t.channel ≡ c → (l : Option ℕ) → life_of t (device_in named) ≡ l → Submits t application named o
    go None e l e2 = let some : is_some (submit_refusal t named) ≡ true = rw e refl in absurd (cc (ap is_some free, some))
    go (Some c) e None e2 = let some : is_some (submit_refusal t named) ≡ true = rw (e, e2) refl in absurd (cc (ap is_some free, some))
    go (Some c) e (Some l) e2 = record {
      channel = c;
      is_open = e;
      life = l;
      present = e2;
      few = few_slots c l e e2 (stale named l) refl (nat_le max_slots (length t.slots)) refl;
      new = rw free refl;
    }

-- ---- a completion

-- the completion of a request that was lost before
pub record IsLate (t : TableState) (head : Head) (bytes : List ℕ) (slot : Slot) : Type 0 where
  pub dead : slot.dead ≡ true
  pub new : (complete t head bytes).0 ≡ freed t head.completion

-- the completion of a request that was awaited
pub record IsGiven (t : TableState) (head : Head) (bytes : List ℕ) (slot : Slot) : Type 0 where
  pub alive : slot.dead ≡ false
  pub reply : Reply
  pub reads : (a : Accepted) → kind_of a.op ≡ slot.kind → reply_in a head bytes ≡ Some (Done reply)
  pub new : (complete t head bytes).0 ≡ with_fate (freed t head.completion) slot.number (known (Done reply))

pub record Completes (t : TableState) (head : Head) (bytes : List ℕ) : Type 0 where
  pub slot : Slot
  pub held : slot_for t head.completion ≡ Some slot
  pub named : slot.device ≡ head.device
  pub effect : IsLate t head bytes slot ⊎ IsGiven t head bytes slot

pub completes : (t : TableState) (head : Head) (bytes : List ℕ) → IsOk (complete t head bytes).1 → Completes t head bytes
completes t head bytes ok = go (slot_for t head.completion) refl
  where
    none : is_ok (complete t head bytes).1 ≡ false → {A : Type 0} → A
    none failed = absurd (cc (failed, ok))

    reads : (slot : Slot) → slot_for t head.completion ≡ Some slot → (slot.device == head.device) ≡ true → slot.dead ≡ false
        → (r : Result (Body × Position) Bad) → met (completion_body slot.kind head.status) (at_start bytes) ≡ r → IsGiven t head bytes slot
    reads slot e same alive (Err bad) e2 = none (rw (e, same, alive, e2) refl)
    reads slot e same alive (Ok read) e2 = record {
      alive = alive;
      reply = record { status = head.status; body = read.0 };
      reads = λ a kind. rw (kind, e2) refl;
      new = rw (e, same, alive, e2) refl;
    }

    by_mark : (slot : Slot) → slot_for t head.completion ≡ Some slot → (slot.device == head.device) ≡ true → (b : Bool) → slot.dead ≡ b
        → IsLate t head bytes slot ⊎ IsGiven t head bytes slot
    by_mark slot e same true dead = inl (record { dead = dead; new = rw (e, same, dead) refl })
    by_mark slot e same false alive = inr (reads slot e same alive (met (completion_body slot.kind head.status) (at_start bytes)) refl)

    by_device : (slot : Slot) → slot_for t head.completion ≡ Some slot → (b : Bool) → (slot.device == head.device) ≡ b → Completes t head bytes
    by_device slot e false other = none (rw (e, other) refl)
    by_device slot e true same = record { slot = slot; held = e; named = eqb-true slot.device head.device same; effect = by_mark slot e same slot.dead refl }

    go : (o : Option Slot) → slot_for t head.completion ≡ o → Completes t head bytes
    go None e = none (rw e refl)
    go (Some slot) e = by_device slot e (slot.device == head.device) refl

-- a completion that isn't taken changes nothing
pub refused : (t : TableState) (head : Head) (bytes : List ℕ) (cause : CompleteNo) → (complete t head bytes).1 ≡ Err cause → (complete t head bytes).0 ≡ t
refused t head bytes cause failed = go (slot_for t head.completion) refl
  where
    taken_one : is_ok (complete t head bytes).1 ≡ true → {A : Type 0} → A
    taken_one ok = absurd (cc (ap is_ok failed, ok))

    reads : (slot : Slot) → slot_for t head.completion ≡ Some slot → (slot.device == head.device) ≡ true → slot.dead ≡ false
        → (r : Result (Body × Position) Bad) → met (completion_body slot.kind head.status) (at_start bytes) ≡ r → (complete t head bytes).0 ≡ t
    reads slot e same alive (Err bad) e2 = rw (e, same, alive, e2) refl
    reads slot e same alive (Ok read) e2 = taken_one (rw (e, same, alive, e2) refl)

    by_mark : (slot : Slot) → slot_for t head.completion ≡ Some slot → (slot.device == head.device) ≡ true → (b : Bool) → slot.dead ≡ b → (complete t head bytes).0 ≡ t
    by_mark slot e same true dead = taken_one (rw (e, same, dead) refl)
    by_mark slot e same false alive = reads slot e same alive (met (completion_body slot.kind head.status) (at_start bytes)) refl

    by_device : (slot : Slot) → slot_for t head.completion ≡ Some slot → (b : Bool) → (slot.device == head.device) ≡ b → (complete t head bytes).0 ≡ t
    by_device slot e false other = rw (e, other) refl
    by_device slot e true same = by_mark slot e same slot.dead refl

    go : (o : Option Slot) → slot_for t head.completion ≡ o → (complete t head bytes).0 ≡ t
    go None e = rw e refl
    go (Some slot) e = by_device slot e (slot.device == head.device) refl

-- ---- a removal

pub record Removes (t : TableState) (device : ℕ) : Type 0 where
  pub life : ℕ
  pub present : life_of t device ≡ Some life
  pub new : (remove t device).0 ≡ record t {
    lives = remove_entry (is_at (nat_cmp device)) t.lives;
    slots = map (dead_of device) t.slots;
    untaken = losing (λ (u : Untaken). u.device == device) Removed t.untaken;
  }

pub record IsAbsent (t : TableState) (device : ℕ) : Type 0 where
  pub absent : life_of t device ≡ None
  pub same : (remove t device).0 ≡ t

pub removes : (t : TableState) (device : ℕ) → IsAbsent t device ⊎ Removes t device
removes t device = go (life_of t device) refl
  where
    go : (l : Option ℕ) → life_of t device ≡ l → IsAbsent t device ⊎ Removes t device
    go None e = inl (record { absent = e; same = rw e refl })
    go (Some l) e = inr (record { life = l; present = e; new = rw e refl })

-- ---- an outcome that is handed out

pub record Takes (t : TableState) (number : ℕ) : Type 0 where
  pub request : Untaken
  pub is : untaken_at t number ≡ Some request
  pub outcome : Outcome
  pub fate : request.fate ≡ known outcome
  pub given : (take t number).1 ≡ Ok (record { device = request.device; life = request.life; outcome = outcome })
  pub new : (take t number).0 ≡ record t { untaken = remove_entry (is_at (nat_cmp number)) t.untaken }

pub takes : (t : TableState) (number : ℕ) → IsOk (take t number).1 → Takes t number
takes t number ok = go (untaken_at t number) refl
  where
    none : is_ok (take t number).1 ≡ false → {A : Type 0} → A
    none failed = absurd (cc (failed, ok))

    by_fate : (u : Untaken) → untaken_at t number ≡ Some u → (f : Fate) → u.fate ≡ f → Takes t number
    by_fate u e awaited e2 = none (rw (e, e2) refl)
    by_fate u e (known o) e2 = record { request = u; is = e; outcome = o; fate = e2; given = rw (e, e2) refl; new = rw (e, e2) refl }

    go : (o : Option Untaken) → untaken_at t number ≡ o → Takes t number
    go None e = none (rw e refl)
    go (Some u) e = by_fate u e u.fate refl
