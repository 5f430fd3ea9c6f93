use Rattle.std.proofs.Common.{refl, ap, inl, inr, ◌∷◌, [], arith}
use Rattle.std.specs.Prelude.{Contains}
use Rattle.std.proofs.lemmas.List.Elements.{All-contains_itself, All-head, All-nil}
use Rattle.rd_drive.specs.declared.plan.Job.{Job}
use Rattle.rd_station.specs.Worked.{close, closes, with_taken}
use Rattle.rd_station.proofs.Members.{Has, from_contains}
use Rattle.rd_desk.specs.Own.{WereGiven}
use Rattle.rd_desk.specs.Worked.{five_wait, gave, one_ran, took}
use Rattle.rd_desk.proofs.OwnLemmas.{more_back, none_back}
use Rattle.rd_desk.proofs.laws.desks_are_as_listed.Goals as goal

pub returns-clause-four : goal.returns-clause-four
returns-clause-four c = (
  (with_taken 1 five_wait, refl, (with_taken 2 five_wait, refl, (with_taken 3 five_wait, refl, (with_taken 4 five_wait, refl, refl)))),
  record {
    answers = refl;
    few = omega arith;
    left = ((λ t e. cc (e)), (λ some. refl));
    ready = ((λ t. absurd (cc (t))), (λ some. absurd (some refl)));
    over = refl;
  },
)

pub returns-clause-runs : goal.returns-clause-runs
returns-clause-runs c = (
  (
    one_ran,
    (
      closes 1 [],
      refl,
      λ did. record {
        runs = refl;
        answers = ((tt, tt), tt);
        parks = record { left = []; ended = (refl, refl); waits = refl; few = omega arith };
        starved = λ t. absurd (cc (t));
        close = λ e. refl;
      },
    ),
    (one_ran, refl, refl),
  ),
  record {
    answers = refl;
    few = omega arith;
    left = ((λ t. absurd (cc (t))), (λ some. absurd (some refl)));
    ready = ((λ t e. cc (e)), (λ some. refl));
    over = refl;
  },
)

pub returns-clause-own : goal.returns-clause-own
returns-clause-own c =
    more_back (took 1 (close 0 7 ∷ []) ∷ []) (gave 1 (close 0 7)) (more_back [] (took 1 (close 0 7 ∷ [])) (none_back [] refl) (All-nil (Contains []))) (All-contains_itself (close 0 7 ∷ []))

-- a job with another index isn't among those given
other : Has (close 1 8) (close 0 7 ∷ []) → ⊥
other (inl same) = omega (arith, ap (λ (job : Job). job.key.index) same)
other (inr none) = none

pub returns-clause-not_own : goal.returns-clause-not_own
returns-clause-not_own c = λ gives.
    let given : WereGiven (took 1 (close 0 7 ∷ []) ∷ []) (close 1 8 ∷ []) = gives.each (took 1 (close 0 7 ∷ []) ∷ []) [] (gave 1 (close 1 8)) refl in
    other (from_contains (close 0 7 ∷ []) (close 1 8) (All-head (Contains (close 0 7 ∷ [])) (close 1 8) [] given))

pub returns-clause-not_later : goal.returns-clause-not_later
returns-clause-not_later c = λ gives.
    let given : WereGiven [] (close 0 7 ∷ []) = gives.each [] (took 1 (close 0 7 ∷ []) ∷ []) (gave 1 (close 0 7)) refl in
    from_contains [] (close 0 7) (All-head (Contains []) (close 0 7) [] given)
