-- A submission behind a take may come before it; and what applications ask parts into its submissions and its takes.
use Rattle.std.proofs.Common.{◌≡◌, ◌≢◌, ◌∙◌, refl, sym, ap, subst, ℕ, suc, ◌≤◌, List, [], ◌∷◌, ◌++◌, arith}
use Rattle.std.specs.Prelude.{IsOk, is_ok}
use Rattle.std.specs.Option.{unwrap_or}
use Rattle.rd_irp.specs.declared.op.Op.{Op}
use Rattle.rd_pending.specs.declared.calls.Taken.{Taken}
use Rattle.rd_pending.specs.declared.calls.Target.{Target}
use Rattle.rd_pending.specs.History.{Call, IsReachedTable, May, begins, called, completes, drops, lives, removes, sends, submits, takes}
use Rattle.rd_pending.specs.Outcomes.{Accepted}
use Rattle.rd_pending.specs.Table.{AreSlots, TableState, Untaken, accept, awaited, device_in, life_of, submit, take, untaken_at}
use Rattle.rd_pending.proofs.Effects as effects
use Rattle.rd_pending.proofs.Effects.{Submits, Takes}
use Rattle.rd_pending.proofs.MapLemmas.{beside}
use Rattle.rd_pending.proofs.Reaching.{reached_slots}
use Rattle.rd_exchanges.specs.Exchanges.{AreAsks, MayGo, accepted_at, accepted_along, goes, handed_at, handed_along, submissions_among, takes_among}
use Rattle.rd_exchanges.proofs.CallLemmas.{IsSubmission, are_submissions, taken_from}
use Rattle.rd_exchanges.proofs.EntryLemmas.{inserted_removed}
use Rattle.rd_exchanges.proofs.PassingLemmas.{PassAll, Passes, ahead}
use Rattle.rd_exchanges.proofs.ReachedLemmas.{call_reached}

-- a table in which a number has an outcome
record HasTaken (n : ℕ) (t : TableState) : Type 0 where
  reached : IsReachedTable t
  ok : IsOk (take t n).1

module _ (t : TableState) (n application : ℕ) (named : Target) (o : Op) (has : HasTaken n t) (may_past : May (take t n).0 (submits application named o)) where
  abbrev asked : Call
  asked = submits application named o

  taking : Takes t n
  taking = effects.takes t n has.ok

  may_new : May (taken_from t n) (submits application named o)
  may_new = rw taking.new at may_past

  submitting : Submits t application named o
  submitting = effects.submits t application named o may_new.1

  past : Submits (taken_from t n) application named o
  past = effects.submits (taken_from t n) application named o may_new.1

  abbrev own : Untaken
  own = record { device = device_in named; life = unwrap_or (life_of t (device_in named)) 0; fate = awaited }

  slots : AreSlots t
  slots = reached_slots t has.reached

  other : n ≢ suc t.count
  other same = let most : n ≤ t.count = (slots.numbers n taking.request taking.is).1 in omega (arith, most, same)

  same_new : accept (taken_from t n) named o ≡ taken_from (accept t named o) n
  same_new = ap (λ (es : List (ℕ × Untaken)). record (accept t named o) { untaken = es }) (inserted_removed (suc t.count) n own other t.untaken slots.untaken_rising)

  there_still : untaken_at (accept t named o) n ≡ untaken_at t n
  there_still = beside (suc t.count) own n other t.untaken

  taken_later : (take (accept t named o) n).0 ≡ taken_from (accept t named o) n
  taken_later = rw (there_still, taking.is, taking.fate) refl

  same_answer : (take (accept t named o) n).1 ≡ (take t n).1
  same_answer = rw (there_still, taking.is, taking.fate) refl

  submission_passes : Passes take t n (submits application named o)
  submission_passes = record {
    may = may_new;
    may_past = may_past;
    same =
        ap (λ (u : TableState). (submit u application named o).0) taking.new
        ∙ past.new
        ∙ same_new
        ∙ sym taken_later
        ∙ ap (λ (u : TableState). (take u n).0) (sym submitting.new);
    answer = ap (λ (u : TableState). (take u n).1) submitting.new ∙ same_answer;
    accepted = rw taking.new refl;
    handed = refl;
  }

takes_past : (n : ℕ) (t : TableState) (c : Call) → HasTaken n t → IsSubmission c → May (take t n).0 c → Passes take t n c
takes_past n t (submits a named o) has is may = submission_passes t n a named o has may
takes_past n t (takes m) has is may = absurd (cc is)
takes_past n t (begins c) has is may = absurd (cc is)
takes_past n t (lives e) has is may = absurd (cc is)
takes_past n t (removes e) has is may = absurd (cc is)
takes_past n t (completes head bytes) has is may = absurd (cc is)
takes_past n t sends has is may = absurd (cc is)
takes_past n t drops has is may = absurd (cc is)

still_has : (n : ℕ) (t : TableState) (c : Call) → HasTaken n t → IsSubmission c → Passes take t n c → HasTaken n (called t c)
still_has n t c has is p = record { reached = call_reached t c has.reached p.may; ok = ap is_ok p.answer ∙ has.ok }

-- ---- submissions, and then takes

-- Calls come to the same as their submissions, and then their takes.
pub record Parts (t : TableState) (cs submissions takes : List Call) : Type 0 where
  pub may_submit : MayGo t submissions
  pub may_take : MayGo (goes t submissions) takes
  pub same : goes (goes t submissions) takes ≡ goes t cs
  pub accepted : accepted_along t submissions ≡ accepted_along t cs
  pub handed : handed_along (goes t submissions) takes ≡ handed_along t cs

-- a take more
takes_first : (t : TableState) (n : ℕ) (cs : List Call) → IsReachedTable t → May t (takes n) → Parts (take t n).0 cs (submissions_among cs) (takes_among cs)
    → Parts t (takes n ∷ cs) (submissions_among cs) (takes n ∷ takes_among cs)
takes_first t n cs reached may parts = record {
  may_submit = p.may;
  may_take = (ap is_ok p.answer ∙ may, subst (λ (u : TableState). MayGo u (takes_among cs)) p.same parts.may_take);
  same = ap (λ (u : TableState). goes u (takes_among cs)) (sym p.same) ∙ parts.same;
  accepted = sym p.accepted ∙ parts.accepted;
  handed =
      ap (λ (u : TableState). handed_at (goes t (submissions_among cs)) (takes n) ++ handed_along u (takes_among cs)) (sym p.same)
      ∙ ap (λ (xs : List (ℕ × Taken)). handed_at (goes t (submissions_among cs)) (takes n) ++ xs) parts.handed
      ∙ same_first;
}
  where
    p : PassAll take t n (submissions_among cs)
    p = ahead take n (HasTaken n) IsSubmission (still_has n) (takes_past n) (submissions_among cs) t (record { reached = reached; ok = may }) (are_submissions cs) parts.may_submit

    same_first : handed_at (goes t (submissions_among cs)) (takes n) ++ handed_along (take t n).0 cs ≡ handed_along t (takes n ∷ cs)
    same_first = rw p.answer refl

pub asks_part : (cs : List Call) (t : TableState) → IsReachedTable t → AreAsks cs → MayGo t cs → Parts t cs (submissions_among cs) (takes_among cs)
asks_part [] t reached asks may = record { may_submit = tt; may_take = tt; same = refl; accepted = refl; handed = refl }
asks_part (submits a named o ∷ cs) t reached asks may =
    let c : Call = submits a named o in
    let parts = asks_part cs (called t (submits a named o)) (call_reached t (submits a named o) reached may.0) asks.1 may.1 in
    record {
      may_submit = (may.0, parts.may_submit);
      may_take = parts.may_take;
      same = parts.same;
      accepted = ap (λ (xs : List Accepted). accepted_at t c ++ xs) parts.accepted;
      handed = parts.handed;
    }
asks_part (takes n ∷ cs) t reached asks may = takes_first t n cs reached may.0 (asks_part cs (take t n).0 (call_reached t (takes n) reached may.0) asks.1 may.1)
asks_part (begins c ∷ cs) t reached asks may = absurd asks.0
asks_part (lives e ∷ cs) t reached asks may = absurd asks.0
asks_part (removes e ∷ cs) t reached asks may = absurd asks.0
asks_part (completes head bytes ∷ cs) t reached asks may = absurd asks.0
asks_part (sends ∷ cs) t reached asks may = absurd asks.0
asks_part (drops ∷ cs) t reached asks may = absurd asks.0
