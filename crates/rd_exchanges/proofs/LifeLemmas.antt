-- What an application asks may come before a device's life or behind it.
use Rattle.std.proofs.Common.{◌≡◌, ◌≢◌, ◌∙◌, refl, sym, ap, ℕ, ◌+◌, Some, None, Option}
use Rattle.std.specs.Prelude.{IsOk}
use Rattle.std.specs.Ordering.{nat_cmp}
use Rattle.std.specs.BTreeMap.{insert_entry}
use Rattle.rd_irp.specs.declared.op.Op.{Op}
use Rattle.rd_pending.specs.declared.calls.LiveNo.{LiveNo}
use Rattle.rd_pending.specs.declared.calls.Target.{Target}
use Rattle.rd_pending.specs.History.{Call, May, begins, called, completes, drops, lives, removes, sends, submits, takes}
use Rattle.rd_pending.specs.Table.{TableState, accept, device_in, life_of, live, live_refusal, submit, submit_refusal, take}
use Rattle.rd_pending.proofs.Effects as effects
use Rattle.rd_pending.proofs.Effects.{Lives, Submits, Takes}
use Rattle.rd_pending.proofs.MapLemmas.{beside}
use Rattle.rd_exchanges.specs.Exchanges.{IsAsk, accepted_at, handed_at}
use Rattle.rd_exchanges.proofs.CallLemmas.{taken_from}
use Rattle.rd_exchanges.proofs.PassingLemmas.{Passes}

-- a table in which a device began its next life
abbrev with_life : TableState → ℕ → TableState
with_life t d = record t { lives = insert_entry nat_cmp t.lives d (t.given + 1); given = t.given + 1; begun = t.begun + 1 }

-- where the device begins no life, nothing changes
module _ (t : TableState) (d : ℕ) (c : Call) (may : May t c) (why : LiveNo) (refused : live_refusal t d ≡ Some why) (still : live_refusal (called t c) d ≡ Some why) where
  none : (live t d).0 ≡ t
  none = rw refused refl

  pub no_life : Passes live t d c
  no_life = record {
    may = may;
    may_past = rw none may;
    same = ap (λ (u : TableState). called u c) none ∙ rw still refl;
    answer = rw (refused, still) refl;
    accepted = ap (λ (u : TableState). accepted_at u c) none;
    handed = ap (λ (u : TableState). handed_at u c) none;
  }

-- ---- a request

module _ (t : TableState) (d application : ℕ) (named : Target) (o : Op) (may : May t (submits application named o)) where
  submitting : Submits t application named o
  submitting = effects.submits t application named o may.1

  -- a device's life asks nothing of requests
  same_after_submission : live_refusal (called t (submits application named o)) d ≡ live_refusal t d
  same_after_submission = ap (λ (u : TableState). live_refusal u d) submitting.new

  begun_at_submission : live_refusal t d ≡ None → Passes live t d (submits application named o)
  begun_at_submission free = record {
    may = may;
    may_past = rw life.new (may.0, free_past);
    same =
        ap (λ (u : TableState). (submit u application named o).0) life.new
        ∙ past.new
        ∙ same_life
        ∙ sym (effects.lives (accept t named o) d free).new
        ∙ ap (λ (u : TableState). (live u d).0) (sym submitting.new);
    answer = rw (submitting.new, free) refl;
    accepted = rw (life.new, life_at) refl;
    handed = refl;
  }
    where
      life : Lives t d
      life = effects.lives t d free

      new : TableState
      new = with_life t d

      other : device_in named ≢ d
      other same = cc (submitting.present, life.absent, ap (life_of t) same)

      life_at : life_of new (device_in named) ≡ life_of t (device_in named)
      life_at = beside d (t.given + 1) (device_in named) other t.lives

      free_past : submit_refusal new named ≡ None
      free_past = rw life_at may.1

      past : Submits new application named o
      past = effects.submits new application named o free_past

      same_life : accept new named o ≡ with_life (accept t named o) d
      same_life = rw life_at refl

  pub submission_passes : Passes live t d (submits application named o)
  submission_passes = go (live_refusal t d) refl
    where
      go : (r : Option LiveNo) → live_refusal t d ≡ r → Passes live t d (submits application named o)
      go None e = begun_at_submission e
      go (Some why) e = no_life t d (submits application named o) may why e (same_after_submission ∙ e)

-- ---- an outcome that is taken

module _ (t : TableState) (d number : ℕ) (may : May t (takes number)) where
  taking : Takes t number
  taking = effects.takes t number may

  same_after_take : live_refusal (called t (takes number)) d ≡ live_refusal t d
  same_after_take = ap (λ (u : TableState). live_refusal u d) taking.new

  begun_at_take : live_refusal t d ≡ None → Passes live t d (takes number)
  begun_at_take free = record {
    may = may;
    may_past = rw life.new may_new;
    same =
        ap (λ (u : TableState). (take u number).0) life.new
        ∙ past.new
        ∙ sym (effects.lives (taken_from t number) d free).new
        ∙ ap (λ (u : TableState). (live u d).0) (sym taking.new);
    answer = rw (taking.new, free) refl;
    accepted = refl;
    handed = ap (λ (u : TableState). handed_at u (takes number)) life.new ∙ handed_same;
  }
    where
      life : Lives t d
      life = effects.lives t d free

      new : TableState
      new = with_life t d

      may_new : IsOk (take new number).1
      may_new = rw (taking.is, taking.fate) refl

      past : Takes new number
      past = effects.takes new number may_new

      handed_same : handed_at (with_life t d) (takes number) ≡ handed_at t (takes number)
      handed_same = rw (taking.is, taking.fate) refl

  pub take_passes : Passes live t d (takes number)
  take_passes = go (live_refusal t d) refl
    where
      go : (r : Option LiveNo) → live_refusal t d ≡ r → Passes live t d (takes number)
      go None e = begun_at_take e
      go (Some why) e = no_life t d (takes number) may why e (same_after_take ∙ e)

pub ask_passes : (t : TableState) (d : ℕ) (c : Call) → IsAsk c → May t c → Passes live t d c
ask_passes t d (submits a n o) ask may = submission_passes t d a n o may
ask_passes t d (takes number) ask may = take_passes t d number may
ask_passes t d (begins c) ask may = absurd ask
ask_passes t d (lives e) ask may = absurd ask
ask_passes t d (removes e) ask may = absurd ask
ask_passes t d (completes head bytes) ask may = absurd ask
ask_passes t d sends ask may = absurd ask
ask_passes t d drops ask may = absurd ask
