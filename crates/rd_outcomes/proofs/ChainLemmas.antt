-- Lines that ended, one after the other, come out as they should.
use Rattle.std.proofs.Common.{◌≡◌, ◌∙◌, refl, sym, ap, subst, ℕ, suc, List, [], ◌∷◌, ◌++◌, length, reverse, take, Some, None, Option, Ok, append_assoc}
use Rattle.std.specs.Prelude.{slice_get}
use Rattle.std.proofs.lemmas.List.{reverse-append}
use Rattle.std.specs.Option.{option_and_then}
use Rattle.rd_pending.specs.declared.calls.Handle.{Handle}
use Rattle.rd_pending.specs.declared.calls.Outcome as table_outcome
use Rattle.rd_pending.specs.declared.calls.SubmitNo.{SubmitNo}
use Rattle.rd_pending.specs.declared.calls.Taken.{Taken}
use Rattle.rd_pending.specs.declared.calls.Target.{Target}
use Rattle.rd_pending.specs.History as call
use Rattle.rd_pending.specs.History.{Call, Holds, after, accepted_in, outcome_in}
use Rattle.rd_pending.specs.Outcomes.{Accepted}
use Rattle.rd_pending.specs.Table as table
use Rattle.rd_pending.specs.Table.{submit_refusal}
use Rattle.rd_pending.proofs.Handed.{handed_out}
use Rattle.rd_script.specs.declared.outcome.Outcome.{Outcome}
use Rattle.rd_script.specs.declared.outcome.Outcome.TheVariants as outcome
use Rattle.rd_script.specs.declared.outcome.Refusal.TheVariants as refusal
use Rattle.rd_declared.specs.Devices.{Declared}
use Rattle.rd_world.specs.Events.{target_of}
use Rattle.rd_world.specs.Hearing.{given_handle, holding_after}
use Rattle.rd_deeds.specs.HostDeeds.{calls_of, side_of}
use Rattle.rd_deeds.specs.Joining.{accepted}
use Rattle.rd_world.specs.Lines.{AskedEnds, IsHandedOut, LineEnds, LinesEnd, Waits, given_at, outcome_at}
use Rattle.rd_world.specs.Recording.{client_id}
use Rattle.rd_deeds.specs.Talk.{Deed, EndsWith, submits, takes}
use Rattle.rd_world.specs.World.{ApplicationState, new_application}
use Rattle.rd_deeds.proofs.Calls.{Does, calls_hold, calls_since, table_of}
use Rattle.rd_outcomes.specs.Trail.{Chain, EndsAsked, EndsOf, HandedAt, IsEnded, IsKnownAt, Stage, accepted_before}

-- ---- deeds grow

pub grown_more : {x y z : List Deed} → EndsWith z y → EndsWith y x → EndsWith z x
grown_more {x} (p, e) (q, f) = (p ++ q, e ∙ ap (λ (ds : List Deed). p ++ ds) f ∙ sym (append_assoc p q x))

pub handed_more : (deeds more : List Deed) (number : ℕ) (given : Taken) → HandedAt deeds number given → HandedAt (more ++ deeds) number given
handed_more deeds more number given (later, before, e, is) = (more ++ later, before, ap (λ (ds : List Deed). more ++ ds) e ∙ sym (append_assoc more later (takes number ∷ before)), is)

pub known_more : (deeds more : List Deed) (k : Option (ℕ × Taken)) → IsKnownAt k deeds → IsKnownAt k (more ++ deeds)
known_more deeds more None is = tt
known_more deeds more (Some (number, given)) is = handed_more deeds more number given is

module _ (devices : List (ℕ × Declared)) (a : ℕ) (deeds more : List Deed) where
  ends_more : {x : List Deed} → EndsWith deeds x → EndsWith (more ++ deeds) x
  ends_more is = grown_more (more, refl) is

  asked_more : (s : Stage) (x : Waits) (o : Outcome) (t : Stage) (before : List Deed) (named : Target) (r : Option SubmitNo) → EndsAsked devices a deeds s x o t before named r → EndsAsked devices a (more ++ deeds) s x o t before named r
  asked_more s x o t before named (Some cause) is = is
  asked_more s x o t before named None (given, grown, handed, same, stage) = (given, ends_more grown, handed_more deeds more (suc (accepted_before before)) given handed, same, stage)

  of_more : (s : Stage) (x : Waits) (o : Outcome) (t : Stage) (before : List Deed) (n : Option Target) → EndsOf devices a deeds s x o t before n → EndsOf devices a (more ++ deeds) s x o t before n
  of_more s x o t before None is = is
  of_more s x o t before (Some named) is = asked_more s x o t before named (submit_refusal (side_of client_id before).table named) is

  ended_more : (s : Stage) (x : Waits) (o : Outcome) (t : Stage) → IsEnded devices a deeds s x o t → IsEnded devices a (more ++ deeds) s x o t
  ended_more s x o t is = record {
    before = is.before;
    grown = ends_more is.grown;
    nothing = is.nothing;
    known = is.known;
    due = is.due;
    ends = of_more s x o t is.before (target_of s.holds x.asked) is.ends;
  }

  pub chain_more : (xs : List Waits) (os : List Outcome) (s : Stage) → Chain devices a deeds xs os s → Chain devices a (more ++ deeds) xs os s
  chain_more [] [] s is = is
  chain_more [] (o ∷ os) s is = is
  chain_more (x ∷ xs) [] s is = is
  chain_more (x ∷ xs) (o ∷ os) s (r, chain, ended) = (r, chain_more xs os r chain, ended_more r x o s ended)

-- ---- what was handed out

got_at : {A : Type 0} (xs : List A) (x : A) (ys : List A) → slice_get (xs ++ x ∷ ys) (length xs) ≡ Some x
got_at [] x ys = refl
got_at (z ∷ xs) x ys = got_at xs x ys

took_at : {A : Type 0} (xs ys : List A) → take (length xs) (xs ++ ys) ≡ xs
took_at [] ys = refl
took_at (z ∷ xs) ys = ap (λ (zs : List _). z ∷ zs) (took_at xs ys)

-- it is what came of its request, with the handle that it gives
pub handed : (deeds : List Deed) → Does client_id deeds → (count : ℕ) (given : Taken) → HandedAt deeds (suc count) given
    → (outcome_at deeds count ≡ Some given.outcome) × (given_at deeds count given.outcome ≡ given_handle given)
handed deeds does count given (later, before, parts, is) =
    let (calls, since) = calls_since client_id later (takes (suc count) ∷ before) in
    let whole : calls_of client_id deeds ≡ calls ++ call.takes (suc count) ∷ calls_of client_id before = ap (calls_of client_id) parts ∙ since in
    let holds : Holds (calls ++ call.takes (suc count) ∷ calls_of client_id before) = subst Holds whole (calls_hold client_id deeds does) in
    let took : (table.take (after (calls_of client_id before)) (suc count)).1 ≡ Ok given = ap (λ (t : table.TableState). (table.take t (suc count)).1) (table_of client_id before) ∙ is in
    let (x, came, number, device, life) = handed_out calls (calls_of client_id before) (call.takes (suc count)) holds given took in
    let same : count ≡ length came.earlier = cc number in
    let at : slice_get (accepted client_id deeds) count ≡ Some x =
    (λ i. slice_get ((ap accepted_in whole ∙ came.accepted) i) (same i)) ∙ got_at came.earlier x came.later in
    let first : take count (accepted client_id deeds) ≡ came.earlier = (λ i. take (same i) ((ap accepted_in whole ∙ came.accepted) i)) ∙ took_at came.earlier (x ∷ came.later) in
    let out : outcome_in (calls_of client_id deeds) came.earlier x ≡ Some given.outcome = ap (λ (h : List Call). outcome_in h came.earlier x) whole ∙ came.is in (
      ap (λ (o : Option Accepted). option_and_then (λ (y : Accepted). outcome_in (calls_of client_id deeds) (take count (accepted client_id deeds)) y) o) at
          ∙ ap (λ (xs : List Accepted). outcome_in (calls_of client_id deeds) xs x) first ∙ out,
      ap (λ (o : Option Accepted). option_and_then (λ (y : Accepted). given_handle (record { device = y.device; life = y.life; outcome = given.outcome })) o) at
          ∙ λ i. given_handle (record { device = sym device i; life = sym life i; outcome = given.outcome }),
    )

-- ---- lines come out

-- the outcome of a line was handed out
abbrev pub WasHandedOut : Option (ℕ × Taken) → List Deed → Type 0
WasHandedOut None later = Unit {0}
WasHandedOut (Some (number, given)) later = IsHandedOut number given.outcome later

pub was_handed_out : (k : Option (ℕ × Taken)) (deeds : List Deed) → IsKnownAt k deeds → WasHandedOut k deeds
was_handed_out None deeds is = tt
was_handed_out (Some (number, given)) deeds (later, before, taken, gives) = record { later = later; before = before; taken = taken; given = given; gives = gives; came_is = refl }

module _ (devices : List (ℕ × Declared)) (a : ℕ) (deeds : List Deed) (does : Does client_id deeds) where
  abbrev Ends : ApplicationState → List Waits → List Outcome → (List Deed → Type 0) → List Deed → Type 0
  Ends holds xs os received from = LinesEnd devices deeds a holds xs os received from

  -- a line goes before those after it
  one_line : (s : Stage) (x : Waits) (o : Outcome) (t : Stage) (xs : List Waits) (os : List Outcome) → IsEnded devices a deeds s x o t
      → Ends t.holds xs os (WasHandedOut t.known) t.from → Ends s.holds (x ∷ xs) (o ∷ os) (WasHandedOut s.known) s.from
  one_line s x o t xs os is after_it =
      (is.before, is.nothing, was_handed_out s.known is.before is.known, is.due, ends (target_of s.holds x.asked) is.ends)
    where
      asked : (named : Target) (r : Option SubmitNo) → EndsAsked devices a deeds s x o t is.before named r
          → AskedEnds devices deeds a s.holds x.asked o (λ next received after. LinesEnd devices deeds a next xs os received after) is.before named r
      asked named (Some cause) (why, same) = (why, subst (λ (t : Stage). Ends t.holds xs os (WasHandedOut t.known) t.from) same after_it)
      asked named None (given, (more, grown), out, said, same) =
          let (came, holds) = handed deeds does (accepted_before is.before) given out in (
            more,
            grown,
            given.outcome,
            came,
            said,
            subst (λ (h : Option Handle). Ends (holding_after s.holds x.asked h) xs os (IsHandedOut (suc (accepted_before is.before)) given.outcome) (submits a named (x.asked).op ∷ is.before)) (sym holds)
                (subst (λ (t : Stage). Ends t.holds xs os (WasHandedOut t.known) t.from) same after_it),
          )

      ends : (n : Option Target) → EndsOf devices a deeds s x o t is.before n
          → LineEnds devices deeds a s.holds x.asked o (λ next received after. LinesEnd devices deeds a next xs os received after) is.before n
      ends None (why, same) = (why, subst (λ (t : Stage). Ends t.holds xs os (WasHandedOut t.known) t.from) same after_it)
      ends (Some named) own = asked named (submit_refusal (side_of client_id is.before).table named) own

  pub chain_ends : (xs : List Waits) (os : List Outcome) (s : Stage) → Chain devices a deeds xs os s → (ys : List Waits) (qs : List Outcome) → Ends s.holds ys qs (WasHandedOut s.known) s.from
      → Ends new_application (reverse xs ++ ys) (reverse os ++ qs) (λ later. Unit {0}) []
  chain_ends [] [] s is ys qs after_it = subst (λ (t : Stage). Ends t.holds ys qs (WasHandedOut t.known) t.from) is after_it
  chain_ends [] (o ∷ os) s is ys qs after_it = absurd is
  chain_ends (x ∷ xs) [] s is ys qs after_it = absurd is
  chain_ends (x ∷ xs) (o ∷ os) s (r, chain, ended) ys qs after_it =
      let all = chain_ends xs os r chain (x ∷ ys) (o ∷ qs) (one_line r x o s ys qs ended after_it) in
      subst (λ (p : List Waits × List Outcome). Ends new_application p.0 p.1 (λ later. Unit {0}) []) (λ i. (sym (turned x xs ys) i, sym (turned o os qs) i)) all
    where
      turned : {A : Type 0} (x : A) (xs ys : List A) → reverse (x ∷ xs) ++ ys ≡ reverse xs ++ x ∷ ys
      turned x xs ys = ap (λ (zs : List _). zs ++ ys) (reverse-append (x ∷ []) xs) ∙ append_assoc (reverse xs) (x ∷ []) ys
