-- What always holds of a table goes on at each step.
use Rattle.std.proofs.Common.{◌≡◌, ◌∙◌, refl, sym, ap, subst, inl, inr, ℕ, ◌+◌, ◌<◌, ◌≤◌, List, [], ◌∷◌, length, Some, None, Option, arith}
use Rattle.std.specs.Prelude.{Result, Ok, Err, is_ok}
use Rattle.std.specs.List.Sorted.{IsStrictlySortedBy}
use Rattle.std.specs.Ordering.{nat_cmp}
use Rattle.std.specs.Map.{remove_entry}
use Rattle.std.specs.BTreeMap.{insert_entry, is_at}
use Rattle.std.proofs.lemmas.List.Elements.{All-nil, All-rest}
use Rattle.rd_chunk.specs.Carrier.{IsMessage}
use Rattle.rd_irp.specs.declared.completion.Head.{Head}
use Rattle.rd_irp.specs.declared.op.Op.{Op}
use Rattle.rd_pending.specs.declared.calls.CompleteNo.{CompleteNo}
use Rattle.rd_pending.specs.declared.calls.CompleteNo.TheVariants as complete_no
use Rattle.rd_pending.specs.declared.calls.Completed.{Completed}
use Rattle.rd_pending.specs.declared.calls.LiveNo.{LiveNo}
use Rattle.rd_pending.specs.declared.calls.LiveNo.TheVariants as live_no
use Rattle.rd_pending.specs.declared.calls.Outcome.TheVariants.{Done}
use Rattle.rd_pending.specs.declared.calls.SubmitNo.{SubmitNo}
use Rattle.rd_pending.specs.declared.calls.SubmitNo.TheVariants as submit_no
use Rattle.rd_pending.specs.declared.calls.Target.{Target}
use Rattle.rd_pending.specs.Table as table
use Rattle.rd_pending.specs.Table.{AreSlots, Fate, Slot, TableCall, TableState, TableStep, Untaken, awaited, begin, begins, begins_unfit, complete, completes, drop_channel, drop_sent, drops, drops_sent, freed, known, live, live_refusal, lives, max_slots, new_table, next_id, remove, removes, send, sends, stages, submit, submit_refusal, submits, submits_unfit, take, takes, untaken_at, with_fate}
use Rattle.rd_pending.proofs.Effects as effects
use Rattle.rd_pending.proofs.FateLemmas.{Waits, fate_set, live_waits}
use Rattle.rd_pending.proofs.MapLemmas.{free, free_within, one_longer, one_shorter}
use Rattle.rd_pending.proofs.RequestSteps.{all_above}
use Rattle.rd_pending.proofs.SlotLemmas.{accepted_slots, done_slots, dropped_slots, freed_slots, removed_slots, same_slots, taken_slots}

pub new_slots : AreSlots new_table
unfolding IsStrictlySortedBy
new_slots = record {
  rising = tt;
  untaken_rising = tt;
  few_lives = omega arith;
  of_slot = λ id slot e. absurd (cc e);
  apart = λ i j x y e. absurd (cc e);
  numbers = λ n u e. absurd (cc e);
  of_awaited = λ n u e. absurd (cc e);
  messages = All-nil IsMessage;
  closed = λ shut. (refl, refl, refl, λ n. refl);
}

begin_slots : (t : TableState) (c : ℕ) → AreSlots t → AreSlots (begin t c).0
begin_slots t c s = go t.channel refl
  where
    go : (o : Option ℕ) → t.channel ≡ o → AreSlots (begin t c).0
    go None e = rw e (same_slots t (record t { channel = Some c; below = c + 1; asked = 0; begun = 0 }) s refl refl refl s.few_lives s.messages (λ shut. absurd (cc shut)))
    go (Some x) e = let same : (begin t c).0 ≡ t = rw e refl in subst AreSlots (sym same) s

live_slots : (t : TableState) (device : ℕ) → AreSlots t → AreSlots (live t device).0
live_slots t device s = go (live_refusal t device) refl
  where
    go : (o : Option LiveNo) → live_refusal t device ≡ o → AreSlots (live t device).0
    go (Some cause) e = rw e s
    go None e =
        let effect = effects.lives t device e in
        let longer : length (insert_entry nat_cmp t.lives device (t.given + 1)) ≤ length t.lives + 1 = one_longer device (t.given + 1) t.lives in
        subst AreSlots (sym effect.new)
        (same_slots t (record t { lives = insert_entry nat_cmp t.lives device (t.given + 1); given = t.given + 1; begun = t.begun + 1 }) s refl refl refl
        (omega (arith, longer, effect.few)) s.messages (λ shut. absurd (cc (effect.is_open, shut))))

submit_slots : (t : TableState) (application : ℕ) (named : Target) (o : Op) → table.MaySubmit named o → AreSlots t → AreSlots (submit t application named o).0
submit_slots t application named o may s = go (submit_refusal t named) refl
  where
    go : (r : Option SubmitNo) → submit_refusal t named ≡ r → AreSlots (submit t application named o).0
    go (Some cause) e = rw e s
    go None e =
        let effect = effects.submits t application named o e in
        let is_free = free 0 t.slots s.rising (all_above t.slots) in
        let low : next_id t < max_slots = omega (arith, free_within 0 t.slots, effect.few) in
        subst AreSlots (sym effect.new) (accepted_slots t named o effect.channel s may.fits effect.is_open is_free.0 low)

send_slots : (t : TableState) → AreSlots t → AreSlots (send t).0
send_slots t s = go t.outbox refl
  where
    go : (o : List (List ℕ)) → t.outbox ≡ o → AreSlots (send t).0
    go [] e = let same : (send t).0 ≡ t = rw e refl in subst AreSlots (sym same) s
    go (m ∷ ms) e = rw e (same_slots t (record t { outbox = ms }) s refl refl refl s.few_lives (All-rest IsMessage m ms t.outbox e s.messages) (λ shut. absurd (cc (e, (s.closed shut).2))))

complete_slots : (t : TableState) (head : Head) (bytes : List ℕ) → AreSlots t → AreSlots (complete t head bytes).0
complete_slots t head bytes s = go (complete t head bytes).1 refl
  where
    go : (r : Result Completed CompleteNo) → (complete t head bytes).1 ≡ r → AreSlots (complete t head bytes).0
    go (Err cause) e = subst AreSlots (sym (effects.refused t head bytes cause e)) s
    go (Ok gave) e =
        let found = effects.completes t head bytes (ap is_ok e) in
        elim found.effect [
          | inl late ↦ subst AreSlots (sym late.new) (freed_slots t head.completion found.slot s found.held late.dead)
          | inr given ↦
              let waits : Waits (untaken_at t found.slot.number) = live_waits (untaken_at t found.slot.number) ((s.of_slot head.completion found.slot found.held).mark ∙ ap Some given.alive) in
              subst AreSlots (sym (given.new ∙ fate_set (freed t head.completion) found.slot.number waits.one (known (Done given.reply)) waits.is))
              (done_slots t head.completion found.slot waits.one (Done given.reply) s found.held waits.is waits.fate)
        ]

remove_slots : (t : TableState) (device : ℕ) → AreSlots t → AreSlots (remove t device).0
remove_slots t device s = elim (effects.removes t device) [
  | inl none ↦ subst AreSlots (sym none.same) s
  | inr effect ↦ subst AreSlots (sym effect.new) (removed_slots t device (remove_entry (is_at (nat_cmp device)) t.lives) s
      (omega (arith, one_shorter (is_at (nat_cmp device)) t.lives, s.few_lives))
      (λ shut. ap (λ (es : List (ℕ × ℕ)). remove_entry (is_at (nat_cmp device)) es) (s.closed shut).1))
]

take_slots : (t : TableState) (number : ℕ) → AreSlots t → AreSlots (take t number).0
take_slots t number s = go (untaken_at t number) refl
  where
    by_fate : (u : Untaken) → untaken_at t number ≡ Some u → (f : Fate) → u.fate ≡ f → AreSlots (take t number).0
    by_fate u e awaited e2 = rw (e, e2) s
    by_fate u e (known o) e2 = rw (e, e2) (taken_slots t number u o s e e2)

    go : (o : Option Untaken) → untaken_at t number ≡ o → AreSlots (take t number).0
    go None e = rw e s
    go (Some u) e = by_fate u e u.fate refl

drop_sent_slots : (t : TableState) → AreSlots t → AreSlots (drop_sent t).0
drop_sent_slots t s = go t.outbox refl
  where
    go : (o : List (List ℕ)) → t.outbox ≡ o → AreSlots (drop_sent t).0
    go [] e = rw e (dropped_slots t s)
    go (m ∷ ms) e = let same : (drop_sent t).0 ≡ t = rw e refl in subst AreSlots (sym same) s

-- the state of a step's answer
of_answer : {A : Type 0} (p : TableState × A) (new : TableState) (answer : A) → p ≡ (new, answer) → AreSlots p.0 → AreSlots new
of_answer {A} p new answer e s = subst AreSlots (ap (λ (q : TableState × A). q.0) e) s

unchanged : (old new : TableState) → new ≡ old → AreSlots old → AreSlots new
unchanged old new e s = subst AreSlots (sym e) s

pub step_slots : (old new : TableState) (call : TableCall) → AreSlots old → TableStep old call new → AreSlots new
step_slots old new (begins channel answer) s step = of_answer (begin old channel) new answer step.1 (begin_slots old channel s)
step_slots old new (lives device (Err live_no.Memory)) s step = unchanged old new step.1 s
step_slots old new (lives device answer) s step = of_answer (live old device) new _ step (live_slots old device s)
step_slots old new (submits application named o (Err submit_no.Memory)) s step = unchanged old new step.2 s
step_slots old new (submits application named o answer) s step = of_answer (submit old application named o) new _ step.1 (submit_slots old application named o step.0 s)
step_slots old new (sends answer) s step = of_answer (send old) new answer step (send_slots old s)
step_slots old new (completes head bytes (Err complete_no.Memory)) s step = unchanged old new step.2 s
step_slots old new (completes head bytes answer) s step = of_answer (complete old head bytes) new _ step (complete_slots old head bytes s)
step_slots old new (removes device answer) s step = of_answer (remove old device) new answer step (remove_slots old device s)
step_slots old new (takes number answer) s step = of_answer (take old number) new answer step (take_slots old number s)
step_slots old new drops s step = subst AreSlots step (dropped_slots old s)
step_slots old new (drops_sent answer) s step = of_answer (drop_sent old) new answer step (drop_sent_slots old s)
step_slots old new (stages answer) s step = unchanged old new step.1 s
step_slots old new (begins_unfit channel) s step = unchanged old new step.1 s
step_slots old new (submits_unfit application named o) s step = unchanged old new step.1 s
