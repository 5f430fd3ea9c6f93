-- The applications take what came of their requests: those alone that await something.
use Rattle.std.proofs.Common.{◌≡◌, ◌≢◌, ◌∙◌, refl, sym, ap, subst, ℕ, zero, suc, ◌+◌, ◌<◌, ◌≤◌, inl, inr, Bool, false, List, [], ◌∷◌, Some, None, Option, Result, Ok, Err, arith}
use Rattle.std.specs.Prelude.{fold, is_some}
use Rattle.std.specs.List.{AllByRecursion, filter, range_with_len}
use Rattle.std.specs.List.Sorted.{IsStrictlySortedBy}
use Rattle.std.specs.Map.{keys_of, lookup}
use Rattle.std.specs.Option.{option_map_or, unwrap_or}
use Rattle.std.specs.Ordering.{nat_cmp}
use Rattle.std.specs.declared.cmp.Ordering.TheVariants.{Less, Equal}
use Rattle.std.specs.BTreeMap.{is_at}
use Rattle.std.proofs.lemmas.Bool.{cases_Bool, cases_eq}
use Rattle.std.proofs.lemmas.Bool.Decides.{nat_tests}
use Rattle.std.proofs.lemmas.Cmp.{nat_cmp_total}
use Rattle.rd_pending.specs.declared.calls.Handle.{Handle}
use Rattle.rd_pending.specs.declared.calls.Taken.{Taken}
use Rattle.rd_pending.specs.declared.calls.TakeNo.{TakeNo}
use Rattle.rd_pending.specs.Table as table
use Rattle.rd_pending.specs.Table.{TableState}
use Rattle.rd_printer.proofs.EntryLemmas.{lookup-inserted_other}
use Rattle.rd_script.specs.Rows.{max_applications}
use Rattle.rd_script.specs.declared.outcome.Outcome.{Outcome}
use Rattle.rd_world.specs.Applications.{AreApplications, application_in, awaits_at}
use Rattle.rd_world.specs.Bits.{has, where_holds}
use Rattle.rd_world.specs.Hearing.{all_take, given_handle, next_asked, reported_outcome, takes_awaited, takes_from, takes_outcome, with_outcome}
use Rattle.rd_deeds.specs.Talk.{takes}
use Rattle.rd_world.specs.World.{ApplicationState, Asked, WorldState, application_at, new_application, with_application, with_deed, with_table}

-- ---- the others stay as they are

same_number : (x y : ℕ) → nat_cmp x y ≡ Equal → x ≡ y
same_number x y e = grind (arith, nat_tests)

apart_at : (k l : ℕ) → k ≢ l → is_at (nat_cmp k) l ≡ false
apart_at k l apart = grind (arith, nat_tests)

below_of : (k l : ℕ) → nat_cmp k l ≡ Less → k < l
below_of k l e = grind (arith, nat_tests)

none_is : (o : Option ℕ) → is_some o ≡ false → o ≡ None
none_is None none = refl
none_is (Some n) none = absurd cc

ended_apart : (w : WorldState) (a b : ℕ) (o : Outcome) (given : Option Handle) (asked : Option Asked) → b ≢ a
    → application_at (option_map_or (λ (x : Asked). with_application w a (with_outcome (application_at w a) o given x)) asked w) b ≡ application_at w b
ended_apart w a b o given None apart = refl
ended_apart w a b o given (Some x) apart =
    ap (λ (found : Option ApplicationState). unwrap_or found new_application)
    (lookup-inserted_other nat_cmp_total same_number b a (with_outcome (application_at w a) o given x) (apart_at b a apart) w.applications)

from_apart : (w : WorldState) (a b number : ℕ) (came : TableState × Result Taken TakeNo) → b ≢ a → application_at (takes_from w a number came) b ≡ application_at w b
from_apart w a b number (t, Err cause) apart = refl
from_apart w a b number (t, Ok taken) apart =
    ended_apart (with_deed (with_table w t) (takes number)) a b (reported_outcome taken.outcome) (given_handle taken) (next_asked (application_at w a)) apart

awaited_apart : (w : WorldState) (a b : ℕ) (awaits : Option ℕ) → b ≢ a → application_at (takes_awaited w a awaits) b ≡ application_at w b
awaited_apart w a b None apart = refl
awaited_apart w a b (Some number) apart = from_apart w a b number (table.take (w.side).table number) apart

-- An outcome that an application takes leaves the others as they are.
pub takes_apart : (w : WorldState) (a b : ℕ) → b ≢ a → application_at (takes_outcome w a) b ≡ application_at w b
takes_apart w a b apart = awaited_apart w a b (application_at w a).awaits apart

-- An application that awaits nothing takes nothing.
pub idle_takes : (w : WorldState) (a : ℕ) → is_some (application_at w a).awaits ≡ false → takes_outcome w a ≡ w
idle_takes w a none = ap (takes_awaited w a) (none_is (application_at w a).awaits none)

-- ---- all of them

-- numbers above one, up to another
abbrev Within : ℕ → ℕ → ℕ → Type 0
Within low high k = (low < k) × (k ≤ high)

above : (ks : List ℕ) (first low low' high high' : ℕ) → AllByRecursion (λ (k : ℕ). nat_cmp first k ≡ Less) ks → low' ≤ first → high ≡ high' → AllByRecursion (Within low high) ks
    → AllByRecursion (Within low' high') ks
above [] first low low' high high' rise from to all = tt
above (k ∷ ks) first low low' high high' rise from to all =
    let under : first < k = below_of first k rise.0 in
    let most : k ≤ high = all.0.1 in
    ((omega arith, omega arith), above ks first low low' high high' rise.1 from to all.1)

missing : (es : List (ℕ × ApplicationState)) (a high : ℕ) → AllByRecursion (Within a high) (keys_of es) → lookup (is_at (nat_cmp a)) es ≡ None
missing [] a high all = refl
missing (e ∷ es) a high all =
    let under : a < e.0 = all.0.0 in
    rw (apart_at a e.0 (λ (same : a ≡ e.0). omega arith)) (missing es a high all.1)

none_awaits : (es : List (ℕ × ApplicationState)) (place high : ℕ) → AllByRecursion (Within (place + 1) high) (keys_of es) → awaits_at es place ≡ false
none_awaits es place high all = ap (λ (o : Option ApplicationState). is_some (unwrap_or o new_application).awaits) (missing es (place + 1) high all)

later : (e : ℕ × ApplicationState) (es : List (ℕ × ApplicationState)) (b : ℕ) → b ≢ e.0 → application_in (e ∷ es) b ≡ application_in es b
later e es b apart = rw (apart_at b e.0 apart) refl

-- the application whose number less one is this place takes its outcome
abbrev pub takes_at : WorldState → ℕ → WorldState
takes_at w place = takes_outcome w (place + 1)

-- those whose numbers less one stand from a place on
taking : (n place : ℕ) (es : List (ℕ × ApplicationState)) (p : ℕ → Bool) (w : WorldState) → IsStrictlySortedBy nat_cmp (keys_of es) → AllByRecursion (Within place (place + n)) (keys_of es)
    → ((b : ℕ) → place < b → application_at w b ≡ application_in es b) → ((j : ℕ) → place ≤ j → p j ≡ awaits_at es j)
    → fold takes_at w (filter p (range_with_len place n)) ≡ fold takes_outcome w (keys_of es)
unfolding IsStrictlySortedBy
taking zero place [] p w rise within same marks = refl
taking zero place (e ∷ es) p w rise within same marks =
    let over : place < e.0 = within.0.0 in
    let under : e.0 ≤ place + 0 = within.0.1 in
    absurd (omega arith)
taking (suc n) place [] p w rise within same marks =
    let idle : p place ≡ false = marks place (omega arith) in
    rw idle (taking n (place + 1) [] p w rise tt (λ b u. same b (omega arith)) (λ j u. marks j (omega arith)))
taking (suc n) place (e ∷ es) p w rise within same marks =
    let over : place < e.0 = within.0.0 in
    let under : e.0 ≤ place + suc n = within.0.1 in
    elim (cases_eq e.0 (place + 1)) [
      | inl here ↦
          let after : AllByRecursion (Within (place + 1) (place + 1 + n)) (keys_of es) =
          above (keys_of es) e.0 place (place + 1) (place + suc n) (place + 1 + n) rise.0 (omega arith) (omega arith) within.1 in
          let others : (b : ℕ) → place + 1 < b → application_in (e ∷ es) b ≡ application_in es b = λ b u. later e es b (λ (is : b ≡ e.0). omega arith) in
          let marked : (j : ℕ) → place + 1 ≤ j → p j ≡ awaits_at es j =
          λ j u. marks j (omega arith) ∙ ap (λ (x : ApplicationState). is_some x.awaits) (others (j + 1) (omega arith)) in
          elim (cases_Bool (p place)) [
            | inl on ↦
                rw (on, here) (taking n (place + 1) es p (takes_outcome w (place + 1)) rise.1 after
                (λ b u. takes_apart w (place + 1) b (λ (is : b ≡ place + 1). omega arith) ∙ same b (omega arith) ∙ others b u) marked)
            | inr off ↦
                let idle : is_some (application_at w (place + 1)).awaits ≡ false =
                ap (λ (x : ApplicationState). is_some x.awaits) (same (place + 1) (omega arith)) ∙ sym (marks place (omega arith)) ∙ off in
                rw (off, here, idle_takes w (place + 1) idle) (taking n (place + 1) es p w rise.1 after (λ b u. same b (omega arith) ∙ others b u) marked)
          ]
      | inr apart ↦
          let after : AllByRecursion (Within (place + 1) (place + 1 + n)) (keys_of (e ∷ es)) =
          ((omega arith, omega arith), above (keys_of es) e.0 place (place + 1) (place + suc n) (place + 1 + n) rise.0 (omega arith) (omega arith) within.1) in
          let idle : p place ≡ false = marks place (omega arith) ∙ none_awaits (e ∷ es) place (place + 1 + n) after in
          rw idle (taking n (place + 1) (e ∷ es) p w rise after (λ b u. same b (omega arith)) (λ j u. marks j (omega arith)))
    ]

-- So all of them take what those take that await something.
pub all_places : (n : ℕ) (w : WorldState) → n ≡ max_applications → AreApplications w.applications → fold takes_at w (where_holds (awaits_at w.applications) n) ≡ all_take w
unfolding where_holds
all_places n w is are =
    let top : max_applications ≡ 0 + n = omega arith in
    taking n 0 w.applications (awaits_at w.applications) w are.rise (subst (λ (high : ℕ). AllByRecursion (Within 0 high) (keys_of w.applications)) top are.numbers)
    (λ b u. refl) (λ j u. refl)

-- Where a word's places are those that await, going through them from the first does what all are to do.
pub places_first : (w : WorldState) (es : List (ℕ × ApplicationState)) (word copied : ℕ) → es ≡ w.applications → copied ≡ word
    → where_holds (has word) 64 ≡ where_holds (awaits_at es) 64 → AreApplications es → fold takes_at w (where_holds (has copied) 64) ≡ all_take w
places_first w es word copied is copy places are =
    ap (λ (k : ℕ). fold takes_at w (where_holds (has k) 64)) copy ∙ ap (λ (l : List ℕ). fold takes_at w l) places
    ∙ ap (λ (l : List (ℕ × ApplicationState)). fold takes_at w (where_holds (awaits_at l) 64)) is ∙ all_places 64 w refl (subst AreApplications is are)
