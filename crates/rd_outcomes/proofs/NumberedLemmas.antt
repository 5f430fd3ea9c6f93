-- The applications of every run have numbers that they may have, in order; so the outcomes of their lines are told by application and line.
use Rattle.std.proofs.Common.{◌≡◌, ◌≢◌, ◌⊎◌, ◌∙◌, refl, sym, ap, subst, inl, inr, ℕ, zero, suc, ◌+◌, ◌<◌, ◌≤◌, Bool, true, false, cond, List, [], ◌∷◌, ◌++◌, length, map, filter_map, Some, None, Option, arith}
use Rattle.std.specs.Prelude.{fold, zip}
use Rattle.std.specs.List.{AllByRecursion, flat_map, range_with_len}
use Rattle.std.specs.List.Sorted.{IsStrictlySortedBy}
use Rattle.std.specs.Map.{keys_of, lookup}
use Rattle.std.specs.Ordering.{is_eq, nat_cmp, match_ordering}
use Rattle.std.specs.declared.cmp.Ordering.{Ordering}
use Rattle.std.specs.declared.cmp.Ordering.TheVariants.{Less, Equal, Greater}
use Rattle.std.specs.BTreeMap.{insert_entry, is_at}
use Rattle.std.specs.Option.{IfSome, unwrap_or}
use Rattle.std.proofs.lemmas.Bool.{cases_eq}
use Rattle.rd_base.specs.declared.journal.Key.{Key}
use Rattle.rd_journals.proofs.ChannelLemmas.{all_refreshed, begun_on}
use Rattle.rd_pending.proofs.MapLemmas.{rises_with}
use Rattle.rd_controls.proofs.RunsBeginningLemmas.{Unset, begins_as}
use Rattle.rd_controls.proofs.RunsParts.{MayBe, Part, accepts, begins, by_parts, done, hands_out, queues_one, reached_behind, refuses}
use Rattle.rd_controls.specs.RunsMoves.{Reached}
use Rattle.rd_script.specs.declared.line.NumberedLine.{NumberedLine}
use Rattle.rd_script.specs.declared.outcome.Outcome.{Outcome}
use Rattle.rd_script.specs.Report.{numbered_from}
use Rattle.rd_script.specs.Rows.{max_applications}
use Rattle.rd_world.specs.Applications.{AreApplications, AreNumbered, IsNumber}
use Rattle.rd_declared.specs.Devices.{PrinterNames}
use Rattle.rd_world.specs.Events.{may_issue}
use Rattle.rd_world.specs.Report.{outcomes_of, outcomes_under}
use Rattle.rd_world.specs.Run.{asked_by, asking, world_of}
use Rattle.rd_deeds.specs.Talk.{Has}
use Rattle.rd_world.specs.World.{ApplicationState, Asked, WorldState, application_at, new_application}
use Rattle.rd_world.proofs.ApplicationsLemmas.{apart_at, below_of, equal_is}
use Rattle.rd_world.proofs.PlacesLemmas.{numbers_of}
use Rattle.rd_outcomes.proofs.ComingLemmas.{applications_stay}

-- ---- keys

keys_with : (P : ℕ → Type 0) (es : List (ℕ × ApplicationState)) (a : ℕ) (x : ApplicationState) → P a → AllByRecursion P (keys_of es) → AllByRecursion P (keys_of (insert_entry nat_cmp es a x))
keys_with P [] a x p all = (p, tt)
keys_with P (e ∷ es) a x p all =
    elim (nat_cmp a e.0) as (λ (r : Ordering). AllByRecursion P (keys_of (match_ordering r ((a, x) ∷ e ∷ es) ((e.0, x) ∷ es) (e ∷ insert_entry nat_cmp es a x)))) [
      | Less ↦ (p, all)
      | Equal ↦ all
      | Greater ↦ (all.0, keys_with P es a x p all.1)
    ]

key_there : (P : ℕ → Type 0) (es : List (ℕ × ApplicationState)) (a : ℕ) → AllByRecursion P (keys_of es) → (lookup (is_at (nat_cmp a)) es ≡ None) ⊎ P a
key_there P [] a all = inl refl
key_there P (e ∷ es) a all = elim (cases_eq a e.0) [
  | inl here ↦ inr (subst P (sym here) all.0)
  | inr other ↦ elim (key_there P es a all.1) [
    | inl none ↦ inl (rw (apart_at a e.0 other) none)
    | inr p ↦ inr p
  ]
]

-- an application that has something of its own is there
own_there : (P : ℕ → Type 0) (w : WorldState) (a : ℕ) → AllByRecursion P (keys_of w.applications) → ((application_at w a ≡ new_application) → ⊥) → P a
own_there P w a all other = elim (key_there P w.applications a all) [
  | inl none ↦ absurd (other (ap (λ (o : Option ApplicationState). unwrap_or o new_application) none))
  | inr p ↦ p
]

put_are : (es : List (ℕ × ApplicationState)) (a : ℕ) (x : ApplicationState) → IsNumber a → AreApplications es → AreApplications (insert_entry nat_cmp es a x)
put_are es a x number are = record { rise = rises_with a x es are.rise; numbers = keys_with IsNumber es a x number are.numbers }

-- ---- the applications of a run

rises_asked : (pairs : List (ℕ × Asked)) (es : List (ℕ × ApplicationState)) → IsStrictlySortedBy nat_cmp (keys_of es) → IsStrictlySortedBy nat_cmp (keys_of (fold asking es pairs))
rises_asked [] es rise = rise
rises_asked (p ∷ pairs) es rise = rises_asked pairs (asking es p) (rises_with p.0 _ es rise)

found_line : (lines : List NumberedLine) (l : NumberedLine) → Has l lines → AllByRecursion (λ (l : NumberedLine). IfSome (asked_by l.line) (λ (x : ℕ × Asked). IsNumber x.0)) lines → IfSome (asked_by l.line) (λ (x : ℕ × Asked). IsNumber x.0)
found_line [] l has all = absurd has
found_line (x ∷ lines) l (inl same) all = subst (λ (y : NumberedLine). IfSome (asked_by y.line) (λ (x : ℕ × Asked). IsNumber x.0)) (sym same) all.0
found_line (x ∷ lines) l (inr has) all = found_line lines l has all.1

module _ (lines : List NumberedLine) (starves : Key → Bool) (numbered : AreNumbered lines) where
  issues_not : (x : ApplicationState) → may_issue x ≡ true → x ≡ new_application → ⊥
  issues_not x may same = let cant : may_issue x ≡ false = ap may_issue same in cc (may, cant)

  awaits_not : (x : ApplicationState) (n : ℕ) → x.awaits ≡ Some n → x ≡ new_application → ⊥
  awaits_not x n awaits same = let none : x.awaits ≡ None = ap (λ (y : ApplicationState). y.awaits) same in cc (awaits, none)

  part_are : (w : WorldState) (p : Part) → MayBe lines starves w p → AreApplications w.applications → AreApplications (done starves w p).applications
  part_are w (accepts a asked named t number) (reached, may, next, target, made) are = put_are w.applications a _ (own_there IsNumber w a are.numbers (issues_not (application_at w a) may)) are
  part_are w (refuses a asked cause) (may, next, refused) are = put_are w.applications a _ (own_there IsNumber w a are.numbers (issues_not (application_at w a) may)) are
  part_are w (hands_out a number t given None) may are = are
  part_are w (hands_out a number t given (Some asked)) (awaits, asks, made) are = put_are w.applications a _ (own_there IsNumber w a are.numbers (awaits_not (application_at w a) number awaits)) are
  part_are w begins may are =
      subst (λ (x : WorldState). AreApplications (begun_on w x).applications) (sym (all_refreshed (map (λ (e : ℕ × PrinterNames). e.0) w.printers) w)) are
  part_are w (queues_one a) (l, asked, has, asks) are =
      let number : IsNumber a = subst (λ (o : Option (ℕ × Asked)). IfSome o (λ (x : ℕ × Asked). IsNumber x.0)) asks (found_line lines l has numbered.numbers) in
      put_are w.applications a _ number are
  part_are w p may are = subst AreApplications (sym (applications_stay lines starves w p may tt)) are

  first_are : AreApplications (world_of lines).applications
  unfolding IsStrictlySortedBy
  first_are =
      begins_as lines (λ (u : Unset). AreApplications u.applications)
      (record { rise = rises_asked (filter_map asked_by (map (λ (l : NumberedLine). l.line) lines)) [] (tt); numbers = numbers_of lines numbered })

  pub are_applications : (w : WorldState) → Reached lines starves w → AreApplications w.applications
  are_applications w reached = by_parts lines starves (λ x. AreApplications x.applications) first_are (λ x p before after may are. part_are x p may are) w (reached_behind lines starves w reached)

-- ---- their outcomes

under_from : (a from : ℕ) (os : List Outcome) → map (λ (o : ℕ × Outcome). ((a, o.0), o.1)) (zip (range_with_len from (length os)) os) ≡ numbered_from a from os
under_from a from [] = refl
under_from a from (o ∷ os) = ap (λ (es : List ((ℕ × ℕ) × Outcome)). ((a, from), o) ∷ es) (under_from a (from + 1) os)

abbrev Between : ℕ → ℕ → ℕ → Type 0
Between low high k = (low < k) × (k ≤ high)

between_more : (ks : List ℕ) (first low low' high high' : ℕ) → AllByRecursion (λ (k : ℕ). nat_cmp first k ≡ Less) ks → low' ≤ first → high ≡ high' → AllByRecursion (Between low high) ks
    → AllByRecursion (Between low' high') ks
between_more [] first low low' high high' rise from to all = tt
between_more (k ∷ ks) first low low' high high' rise from to all =
    let under : first < k = below_of first k rise.0 in
    let most : k ≤ high = all.0.1 in
    ((omega arith, omega arith), between_more ks first low low' high high' rise.1 from to all.1)

abbrev outcomes_in : List (ℕ × ApplicationState) → ℕ → List Outcome
outcomes_in es a = (unwrap_or (lookup (is_at (nat_cmp a)) es) new_application).outcomes

later_in : (e : ℕ × ApplicationState) (es : List (ℕ × ApplicationState)) (b : ℕ) → b ≢ e.0 → outcomes_in (e ∷ es) b ≡ outcomes_in es b
later_in e es b apart = ap (λ (t : Bool). (unwrap_or (cond t (Some e.1) (lookup (is_at (nat_cmp b)) es)) new_application).outcomes) (apart_at b e.0 apart)

none_in : (es : List (ℕ × ApplicationState)) (a high : ℕ) → AllByRecursion (Between a high) (keys_of es) → outcomes_in es a ≡ []
none_in [] a high all = refl
none_in (e ∷ es) a high all =
    let under : a < e.0 = all.0.0 in
    let apart : a ≢ e.0 = λ (same : a ≡ e.0). omega (arith, under) in
    later_in e es a apart ∙ none_in es a high all.1

here_in : (e : ℕ × ApplicationState) (es : List (ℕ × ApplicationState)) → outcomes_in (e ∷ es) e.0 ≡ (e.1).outcomes
here_in e es = ap (λ (r : Ordering). (unwrap_or (cond (is_eq r) (Some e.1) (lookup (is_at (nat_cmp e.0)) es)) new_application).outcomes) (equal_is e.0 e.0 refl)

numbers_each : (n place : ℕ) (es : List (ℕ × ApplicationState)) (f : ℕ → List Outcome) → IsStrictlySortedBy nat_cmp (keys_of es) → AllByRecursion (Between place (place + n)) (keys_of es)
    → ((b : ℕ) → place < b → outcomes_in es b ≡ f b) → flat_map outcomes_under es ≡ flat_map (λ (a : ℕ). numbered_from a 1 (f a)) (range_with_len (place + 1) n)
unfolding IsStrictlySortedBy
numbers_each zero place [] f rise within same = refl
numbers_each zero place (e ∷ es) f rise within same =
    let over : place < e.0 = within.0.0 in
    let under : e.0 ≤ place + 0 = within.0.1 in
    absurd (omega arith)
numbers_each (suc n) place [] f rise within same =
    let none : f (place + 1) ≡ [] = sym (same (place + 1) (omega arith)) ∙ none_in [] (place + 1) 0 tt in
    rw none (numbers_each n (place + 1) [] f rise tt (λ b u. same b (omega arith)))
numbers_each (suc n) place (e ∷ es) f rise within same =
    let over : place < e.0 = within.0.0 in
    let under : e.0 ≤ place + suc n = within.0.1 in
    elim (cases_eq e.0 (place + 1)) [
      | inl here ↦
          let after : AllByRecursion (Between (place + 1) (place + 1 + n)) (keys_of es) =
          between_more (keys_of es) e.0 place (place + 1) (place + suc n) (place + 1 + n) rise.0 (omega arith) (omega arith) within.1 in
          let own : (e.1).outcomes ≡ f (place + 1) = sym (here_in e es) ∙ ap (outcomes_in (e ∷ es)) here ∙ same (place + 1) (omega arith) in
          let first : outcomes_under e ≡ numbered_from (place + 1) 1 (f (place + 1)) = under_from e.0 1 (e.1).outcomes ∙ λ i. numbered_from (here i) 1 (own i) in
          let others = numbers_each n (place + 1) es f rise.1 after (λ b u. sym (later_in e es b (λ (is : b ≡ e.0). omega arith)) ∙ same b (omega arith)) in
          λ i. first i ++ others i
      | inr apart ↦
          let after : AllByRecursion (Between (place + 1) (place + 1 + n)) (keys_of (e ∷ es)) =
          ((omega arith, omega arith), between_more (keys_of es) e.0 place (place + 1) (place + suc n) (place + 1 + n) rise.0 (omega arith) (omega arith) within.1) in
          let none : f (place + 1) ≡ [] = sym (same (place + 1) (omega arith)) ∙ none_in (e ∷ es) (place + 1) (place + 1 + n) after in
          rw none (numbers_each n (place + 1) (e ∷ es) f rise after (λ b u. same b (omega arith)))
    ]

-- the outcomes by application and line are those of each application
pub outcomes_numbered : (w : WorldState) → AreApplications w.applications → outcomes_of w ≡ flat_map (λ (a : ℕ). numbered_from a 1 (application_at w a).outcomes) (range_with_len 1 max_applications)
outcomes_numbered w are = numbers_each max_applications 0 w.applications (λ (a : ℕ). (application_at w a).outcomes) are.rise are.numbers (λ b u. refl)
