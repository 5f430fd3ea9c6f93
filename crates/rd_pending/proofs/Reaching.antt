-- A step changes nothing, or is a call more of the table's history.
use Rattle.std.proofs.Common.{◌≡◌, ◌∙◌, refl, sym, ap, subst, ℕ, suc, ◌+◌, ◌<◌, Bool, true, false, cond, List, [], ◌∷◌, ◌++◌, Some, None, Ok, Err, Option, is_ok, arith, length}
use Rattle.std.specs.Prelude.{All, IfSome, IsOk, is_some}
use Rattle.std.specs.List.Sorted.{IsStrictlySortedBy}
use Rattle.std.specs.Map.{keys_of, lookup}
use Rattle.std.specs.Option.{option_map, option_map_or}
use Rattle.std.specs.Ordering.{nat_cmp}
use Rattle.std.specs.BTreeMap.{is_at}
use Rattle.std.proofs.lemmas.List.Elements.{All-head}
use Rattle.rd_base.specs.declared.journal.Cause.{Cause}
use Rattle.rd_base.specs.declared.journal.Cause.TheVariants.{Dropped}
use Rattle.rd_chunk.specs.Carrier.{IsMessage}
use Rattle.rd_irp.specs.declared.op.Op.{Op}
use Rattle.rd_pending.specs.declared.calls.CompleteNo.TheVariants as complete_no
use Rattle.rd_pending.specs.declared.calls.LiveNo.{LiveNo}
use Rattle.rd_pending.specs.declared.calls.LiveNo.TheVariants as live_no
use Rattle.rd_pending.specs.declared.calls.SubmitNo.{SubmitNo}
use Rattle.rd_pending.specs.declared.calls.SubmitNo.TheVariants as submit_no
use Rattle.rd_pending.specs.declared.calls.TakeNo.{TakeNo}
use Rattle.rd_pending.specs.declared.calls.Target.{Target}
use Rattle.rd_pending.specs.History as call
use Rattle.rd_pending.specs.History.{Call, ContinuesTo, Holds, IsReachedTable, May, accepted_in, after, called, done_by, outcome_in}
use Rattle.rd_pending.specs.Outcomes.{Accepted, Agrees}
use Rattle.rd_pending.specs.Table.{AreSlots, Fate, Slot, TableCall, TableState, TableStep, Untaken, awaited, awaits, begin, begins, begins_unfit, complete, completes, drop_channel, drop_sent, drops, drops_sent, fate_at, is_awaited, known, life_of, live, live_refusal, lives, losing, lost_where, new_table, remove, removes, send, sends, slot_for, stages, submit, submit_refusal, submits, submits_unfit, take, takes, untaken_at}
use Rattle.rd_pending.proofs.Effects as effects
use Rattle.rd_pending.proofs.Histories.{outcomes, sound}
use Rattle.rd_pending.proofs.MapLemmas.{above_first, apart, itself}

-- ---- a channel's end where none is open

still : (test : Untaken → Bool) (cause : Cause) (k : ℕ) (u : Untaken) → is_awaited u.fate ≡ false → lost_where test cause (k, u) ≡ (k, u)
still test cause k u done = rw done refl

none_lost : (test : Untaken → Bool) (cause : Cause) (es : List (ℕ × Untaken)) → IsStrictlySortedBy nat_cmp (keys_of es)
    → ((n : ℕ) (u : Untaken) → lookup (is_at (nat_cmp n)) es ≡ Some u → is_awaited u.fate ≡ false) → losing test cause es ≡ es
unfolding IsStrictlySortedBy
none_lost test cause [] rising done = refl
none_lost test cause (e ∷ es) rising done =
    let first = still test cause e.0 e.1 (done e.0 e.1 (rw (itself e.0) refl)) in
    let rest = none_lost test cause es rising.1 (λ n u found.
    let above : e.0 < n = above_first e.0 n u es rising.0 found in
    let other : is_at (nat_cmp n) e.0 ≡ false = apart n e.0 (λ same. omega arith) in
    done n u (rw other found)) in
    cc

none_awaited : (t : TableState) → ((n : ℕ) → awaits t n ≡ false) → (n : ℕ) (u : Untaken) → untaken_at t n ≡ Some u → is_awaited u.fate ≡ false
none_awaited t none n u found = ap (λ (o : Option Untaken). option_map_or is_awaited (option_map (λ v. v.fate) o) false) (sym found) ∙ none n

pub shut_dropped : (t : TableState) → AreSlots t → t.channel ≡ None → drop_channel t ≡ t
shut_dropped t s shut =
    let closed = s.closed shut in
    let slots = closed.0 in
    let lives = closed.1 in
    let outbox = closed.2 in
    let untaken = none_lost (λ (u : Untaken). true) Dropped t.untaken s.untaken_rising (none_awaited t closed.3) in
    let same : drop_channel t ≡ record t { channel = t.channel; lives = t.lives; slots = t.slots; untaken = t.untaken; outbox = t.outbox } = cc in
    same

-- ---- what an answer tells

module _ {A : Type 0} (p : TableState × A) (new : TableState) (answer : A) (is : p ≡ (new, answer)) where
  state : p.0 ≡ new
  state = ap (λ (q : TableState × A). q.0) is

  answered : p.1 ≡ answer
  answered = ap (λ (q : TableState × A). q.1) is

began : (t new : TableState) (c : ℕ) → begin t c ≡ (new, true) → t.channel ≡ None
began t new c is = go t.channel refl
  where
    go : (o : Option ℕ) → t.channel ≡ o → t.channel ≡ None
    go None e = e
    go (Some d) e = let no : (begin t c).1 ≡ false = rw e refl in absurd (let yes = answered (begin t c) new true is in cc)

not_begun : (t new : TableState) (c : ℕ) → begin t c ≡ (new, false) → new ≡ t
not_begun t new c is = go t.channel refl
  where
    go : (o : Option ℕ) → t.channel ≡ o → new ≡ t
    go None e = let yes : (begin t c).1 ≡ true = rw e refl in absurd (let no = answered (begin t c) new false is in cc)
    go (Some d) e = let same : (begin t c).0 ≡ t = rw e refl in sym (state (begin t c) new false is) ∙ same

lived : (t new : TableState) (device life : ℕ) → live t device ≡ (new, Ok life) → live_refusal t device ≡ None
lived t new device life is = go (live_refusal t device) refl
  where
    go : (o : Option LiveNo) → live_refusal t device ≡ o → o ≡ None
    go None e = refl
    go (Some why) e = let failed : (live t device).1 ≡ Err why = rw e refl in absurd (let ok = answered (live t device) new (Ok life) is in cc)

not_lived : (t new : TableState) (device : ℕ) (cause : LiveNo) → live t device ≡ (new, Err cause) → new ≡ t
not_lived t new device cause is = go (live_refusal t device) refl
  where
    go : (o : Option LiveNo) → live_refusal t device ≡ o → new ≡ t
    go None e = let ok : (live t device).1 ≡ Ok (t.given + 1) = rw e refl in absurd (let failed = answered (live t device) new (Err cause) is in cc)
    go (Some why) e = let same : (live t device).0 ≡ t = rw e refl in sym (state (live t device) new (Err cause) is) ∙ same

submitted : (t new : TableState) (x : ℕ) (named : Target) (o : Op) (number : ℕ) → submit t x named o ≡ (new, Ok number) → submit_refusal t named ≡ None
submitted t new x named o number is = go (submit_refusal t named) refl
  where
    go : (r : Option SubmitNo) → submit_refusal t named ≡ r → r ≡ None
    go None e = refl
    go (Some why) e = let failed : (submit t x named o).1 ≡ Err why = rw e refl in absurd (let ok = answered (submit t x named o) new (Ok number) is in cc)

pub not_submitted : (t new : TableState) (x : ℕ) (named : Target) (o : Op) (cause : SubmitNo) → submit t x named o ≡ (new, Err cause) → new ≡ t
not_submitted t new x named o cause is = go (submit_refusal t named) refl
  where
    go : (r : Option SubmitNo) → submit_refusal t named ≡ r → new ≡ t
    go None e = let ok : (submit t x named o).1 ≡ Ok (suc t.count) = rw e refl in absurd (let failed = answered (submit t x named o) new (Err cause) is in cc)
    go (Some why) e = let same : (submit t x named o).0 ≡ t = rw e refl in sym (state (submit t x named o) new (Err cause) is) ∙ same

sent : (t new : TableState) (message : List ℕ) → send t ≡ (new, Some message) → (send t).0 ≡ new
sent t new message is = state (send t) new (Some message) is

not_sent : (t new : TableState) → send t ≡ (new, None) → new ≡ t
not_sent t new is = go t.outbox refl
  where
    go : (o : List (List ℕ)) → t.outbox ≡ o → new ≡ t
    go [] e = let same : (send t).0 ≡ t = rw e refl in sym (state (send t) new None is) ∙ same
    go (m ∷ ms) e = let some : (send t).1 ≡ Some m = rw e refl in absurd (let none = answered (send t) new None is in cc)

not_removed : (t new : TableState) (device : ℕ) → remove t device ≡ (new, false) → new ≡ t
not_removed t new device is = go (life_of t device) refl
  where
    go : (o : Option ℕ) → life_of t device ≡ o → new ≡ t
    go None e = let same : (remove t device).0 ≡ t = rw e refl in sym (state (remove t device) new false is) ∙ same
    go (Some l) e = let yes : (remove t device).1 ≡ true = rw e refl in absurd (let none = answered (remove t device) new false is in cc)

gone : (t new : TableState) (device : ℕ) → remove t device ≡ (new, true) → (l : ℕ) × (life_of t device ≡ Some l)
gone t new device is = go (life_of t device) refl
  where
    go : (o : Option ℕ) → life_of t device ≡ o → (l : ℕ) × (life_of t device ≡ Some l)
    go None e = let none : (remove t device).1 ≡ false = rw e refl in absurd (let yes = answered (remove t device) new true is in cc)
    go (Some l) e = (l, e)

not_taken : (t new : TableState) (number : ℕ) (cause : TakeNo) → take t number ≡ (new, Err cause) → new ≡ t
not_taken t new number cause is = go (untaken_at t number) refl
  where
    by_fate : (u : Untaken) → untaken_at t number ≡ Some u → (f : Fate) → u.fate ≡ f → new ≡ t
    by_fate u e awaited e2 = let same : (take t number).0 ≡ t = rw (e, e2) refl in sym (state (take t number) new (Err cause) is) ∙ same
    by_fate u e (known o) e2 =
        let ok : is_ok (take t number).1 ≡ true = rw (e, e2) refl in
        let failed = ap is_ok (answered (take t number) new (Err cause) is) in
        absurd (cc (ok, failed))

    go : (o : Option Untaken) → untaken_at t number ≡ o → new ≡ t
    go None e = let same : (take t number).0 ≡ t = rw e refl in sym (state (take t number) new (Err cause) is) ∙ same
    go (Some u) e = by_fate u e u.fate refl

ended : (t new : TableState) → drop_sent t ≡ (new, true) → drop_channel t ≡ new
ended t new is = go t.outbox refl
  where
    go : (o : List (List ℕ)) → t.outbox ≡ o → drop_channel t ≡ new
    go [] e = let same : (drop_sent t).0 ≡ drop_channel t = rw e refl in sym same ∙ state (drop_sent t) new true is
    go (m ∷ ms) e = let none : (drop_sent t).1 ≡ false = rw e refl in absurd (let yes = answered (drop_sent t) new true is in cc)

not_ended : (t new : TableState) → drop_sent t ≡ (new, false) → new ≡ t
not_ended t new is = go t.outbox refl
  where
    go : (o : List (List ℕ)) → t.outbox ≡ o → new ≡ t
    go [] e = let yes : (drop_sent t).1 ≡ true = rw e refl in absurd (let none = answered (drop_sent t) new false is in cc)
    go (m ∷ ms) e = let same : (drop_sent t).0 ≡ t = rw e refl in sym (state (drop_sent t) new false is) ∙ same

-- ---- an open channel

-- where a device is there, and where a slot is held, a channel is open
open_life : (t : TableState) (device l : ℕ) → AreSlots t → life_of t device ≡ Some l → (c : ℕ) × (t.channel ≡ Some c)
open_life t device l s there = go t.channel refl
  where
    go : (o : Option ℕ) → t.channel ≡ o → (c : ℕ) × (t.channel ≡ Some c)
    go None e = let none : lookup (is_at (nat_cmp device)) t.lives ≡ None = rw ((s.closed e).1) refl in absurd (cc (none, there))
    go (Some c) e = (c, e)

open_slot : (t : TableState) (id : ℕ) (slot : Slot) → AreSlots t → slot_for t id ≡ Some slot → (c : ℕ) × (t.channel ≡ Some c)
open_slot t id slot s held = go t.channel refl
  where
    go : (o : Option ℕ) → t.channel ≡ o → (c : ℕ) × (t.channel ≡ Some c)
    go None e = let none : lookup (is_at (nat_cmp id)) t.slots ≡ None = rw ((s.closed e).0) refl in absurd (cc (none, held))
    go (Some c) e = (c, e)

-- ---- a step

module _ (h : List Call) (holds : Holds h) where
  slots : AreSlots (after h)
  slots = (sound h holds).slots

  -- nothing changes
  same : (call : TableCall) (new : TableState) → done_by (after h) call ≡ [] → new ≡ after h → ContinuesTo h call new
  same call new none is = record {
    holds = subst (λ (cs : List Call). Holds (cs ++ h)) (sym none) holds;
    is = ap (λ (cs : List Call). after (cs ++ h)) none ∙ sym is;
  }

  -- one call more
  more : (call : TableCall) (new : TableState) (c : Call) → done_by (after h) call ≡ c ∷ [] → May (after h) c → called (after h) c ≡ new → ContinuesTo h call new
  more call new c one may is = record {
    holds = subst (λ (cs : List Call). Holds (cs ++ h)) (sym one) (may, holds);
    is = ap (λ (cs : List Call). after (cs ++ h)) one ∙ is;
  }

  dropped : (step : TableCall) (new : TableState) → done_by (after h) step ≡ cond (is_some (after h).channel) (call.drops ∷ []) [] → drop_channel (after h) ≡ new → ContinuesTo h step new
  dropped step new done is = go (after h).channel refl
    where
      go : (o : Option ℕ) → (after h).channel ≡ o → ContinuesTo h step new
      go None e = same step new (done ∙ rw e refl) (sym is ∙ shut_dropped (after h) slots e)
      go (Some c) e = more step new call.drops (done ∙ rw e refl) (c, e) is

  pub goes : (call : TableCall) (new : TableState) → TableStep (after h) call new → ContinuesTo h call new
  goes (begins channel true) new step = more _ new (call.begins channel) refl (began (after h) new channel step.1, step.0) (state (begin (after h) channel) new true step.1)
  goes (begins channel false) new step = same _ new refl (not_begun (after h) new channel step.1)
  goes (lives device (Ok life)) new step = more _ new (call.lives device) refl (lived (after h) new device life step) (state (live (after h) device) new (Ok life) step)
  goes (lives device (Err live_no.Memory)) new step = same _ new refl step.1
  goes (lives device (Err cause)) new step = same _ new refl (not_lived (after h) new device _ step)
  goes (submits x named o (Ok number)) new step =
      more _ new (call.submits x named o) refl (step.0, submitted (after h) new x named o number step.1) (state (submit (after h) x named o) new (Ok number) step.1)
  goes (submits x named o (Err submit_no.Memory)) new step = same _ new refl step.2
  goes (submits x named o (Err cause)) new step = same _ new refl (not_submitted (after h) new x named o _ step.1)
  goes (sends (Some message)) new step = more _ new call.sends refl tt (sent (after h) new message step)
  goes (sends None) new step = same _ new refl (not_sent (after h) new step)
  goes (completes head bytes (Ok completed)) new step =
      let p = complete (after h) head bytes in
      let ok : IsOk p.1 = ap is_ok (answered p new (Ok completed) step) in
      let effect = effects.completes (after h) head bytes ok in
      let channel = open_slot (after h) head.completion effect.slot slots effect.held in
      more _ new (call.completes head bytes) refl (channel.0, channel.1, ok) (state p new (Ok completed) step)
  goes (completes head bytes (Err complete_no.Memory)) new step = same _ new refl step.2
  goes (completes head bytes (Err cause)) new step =
      let p = complete (after h) head bytes in
      same _ new refl (sym (state p new (Err _) step) ∙ effects.refused (after h) head bytes _ (answered p new (Err _) step))
  goes (removes device true) new step =
      let life = gone (after h) new device step in
      let channel = open_life (after h) device life.0 slots life.1 in
      more _ new (call.removes device) refl channel (state (remove (after h) device) new true step)
  goes (removes device false) new step = same _ new refl (not_removed (after h) new device step)
  goes (takes number (Ok taken)) new step =
      let p = take (after h) number in
      more _ new (call.takes number) refl (ap is_ok (answered p new (Ok taken) step)) (state p new (Ok taken) step)
  goes (takes number (Err cause)) new step = same _ new refl (not_taken (after h) new number cause step)
  goes drops new step = dropped drops new refl step
  goes (drops_sent true) new step = dropped (drops_sent true) new refl (ended (after h) new step)
  goes (drops_sent false) new step = same _ new refl (not_ended (after h) new step)
  goes (stages answer) new step = same _ new refl step.1
  goes (begins_unfit channel) new step = same _ new refl step.1
  goes (submits_unfit x named o) new step = same _ new refl step.1

pub first_reached : IsReachedTable new_table
first_reached = record { history = []; holds = tt; is = refl }

pub step_reached : (old new : TableState) (call : TableCall) → IsReachedTable old → TableStep old call new → IsReachedTable new
step_reached old new call reached step =
    let on = goes reached.history reached.holds call new (subst (λ (t : TableState). TableStep t call new) (sym reached.is) step) in
    record { history = done_by (after reached.history) call ++ reached.history; holds = on.holds; is = on.is }

pub reached_slots : (t : TableState) → IsReachedTable t → AreSlots t
reached_slots t reached = subst AreSlots reached.is (sound reached.history reached.holds).slots

-- ---- what is sent

pub sent_message : (t new : TableState) (message : Option (List ℕ)) → IsReachedTable t → send t ≡ (new, message) → IfSome message IsMessage
sent_message t new message reached is = subst (λ (o : Option (List ℕ)). IfSome o IsMessage) (answered (send t) new message is) (go t.outbox refl (reached_slots t reached).messages)
  where
    go : (o : List (List ℕ)) → t.outbox ≡ o → All IsMessage t.outbox → IfSome (send t).1 IsMessage
    go [] e all = let none : (send t).1 ≡ None = rw e refl in rw none tt
    go (m ∷ ms) e all = let some : (send t).1 ≡ Some m = rw e refl in rw some (All-head IsMessage m ms (rw e at all))

-- ---- what came of each request

pub reached_outcomes : (t : TableState) (reached : IsReachedTable t) (earlier : List Accepted) (a : Accepted) (later : List Accepted) → accepted_in reached.history ≡ earlier ++ a ∷ later
    → Agrees (fate_at t (suc (length earlier))) (outcome_in reached.history earlier a)
reached_outcomes t reached earlier a later parts =
    subst (λ (u : TableState). Agrees (fate_at u (suc (length earlier))) (outcome_in reached.history earlier a)) reached.is (outcomes reached.history reached.holds earlier a later parts)

pub reached_count : (t : TableState) (reached : IsReachedTable t) → t.count ≡ length (accepted_in reached.history)
reached_count t reached = ap (λ (u : TableState). u.count) (sym reached.is) ∙ (sound reached.history reached.holds).count
