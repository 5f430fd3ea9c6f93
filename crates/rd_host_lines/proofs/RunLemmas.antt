-- Applications that run beside each other keep that what they ask for has room, and so do those to whose lines the script comes.
use Rattle.std.proofs.Common.{◌≡◌, refl, sym, subst, ℕ, zero, suc, ◌+◌, ◌-◌, ◌<◌, ◌≤◌, arith, List, [], ◌∷◌, length, Contains, Some, None, Option}
use Rattle.std.specs.Prelude.{slice_get, slice_index_or, slice_set}
use Rattle.std.specs.List.{AllByRecursion}
use mathlib.Core.List.{IsPrefix}
use Rattle.rd_host_front.specs.State.{PassOfTable}
use Rattle.rd_host_player.specs.Play.{HasCome, QueuedAt, queued}
use Rattle.rd_issuer.specs.declared.issuer.Issuer.{Issuer}
use Rattle.rd_issuer.specs.Issues.{Does, DoesAll, Issue, at_table, calls_of_issues, holds_nothing}
use Rattle.rd_issuer.specs.SideBySide.{RanSideBySide}
use Rattle.rd_pending.specs.Table.{TableState, new_table}
use Rattle.rd_script.specs.declared.line.NumberedLine.{NumberedLine}
use Rattle.rd_table.specs.declared.calls.PendingCall.{PendingCall}
use Rattle.rd_table.specs.declared.calls.PendingCall.TheVariants as call
use Rattle.rd_table.specs.declared.calls.PendingReply.{PendingReply}
use Rattle.rd_table.specs.declared.calls.PendingReply.TheVariants as reply
use Rattle.rd_table.specs.Calls.{PendingStep}
use Rattle.rd_turn.specs.History.{Leads, calls_of, entry}
use Rattle.rd_world.specs.Run.{asked_by}
use Rattle.rd_world.specs.World.{ApplicationState, Asked}
use Rattle.rd_host_turns.specs.Turns.{TableEntry}
use Rattle.rd_host_lines.specs.Requests.{AcceptsInRange}
use Rattle.rd_host_lines.proofs.FileLemmas.{HandsFileEntry, IsSafeCall, IsSafeEntry}
use Rattle.rd_host_lines.proofs.FrontLemmas.{IsFronts}
use Rattle.rd_host_lines.proofs.IssueLemmas.{AppFits, issues_fit}
use Rattle.rd_host_lines.proofs.PassLemmas.{AreSuch}
use Rattle.rd_host_lines.proofs.PlayLemmas.{Keeping}

-- ---- lists

module _ {A : Type 0} (P : A → Type 0) where
  at_place : (xs : List A) (place : ℕ) (d : A) → place < length xs → AllByRecursion P xs → P (slice_index_or xs place d)
  at_place [] place d less all = absurd (omega arith)
  at_place (x ∷ xs) zero d less (here, all) = here
  at_place (x ∷ xs) (suc place) d less (here, all) = at_place xs place d (omega arith) all

  all_places : (xs : List A) → ((place : ℕ) (d : A) → place < length xs → P (slice_index_or xs place d)) → AllByRecursion P xs
  all_places [] each = tt
  all_places (x ∷ xs) each = (each 0 x (omega arith), all_places xs (λ place d less. each (suc place) d (omega arith)))

  at_got : (xs : List A) (place : ℕ) (x : A) → slice_get xs place ≡ Some x → AllByRecursion P xs → P x
  at_got [] place x is all = absurd (cc is)
  at_got (y ∷ xs) zero x is (here, all) = let same : y ≡ x = cc is in subst P same here
  at_got (y ∷ xs) (suc place) x is (here, all) = at_got xs place x is all

  all_with : (xs : List A) (place : ℕ) (x : A) → P x → AllByRecursion P xs → AllByRecursion P (slice_set xs place x)
  all_with [] place x own all = tt
  all_with (y ∷ xs) zero x own (here, all) = (own, all)
  all_with (y ∷ xs) (suc place) x own (here, all) = (here, all_with xs place x own all)

pub one_of : (issuers : List Issuer) → 0 < length issuers → Issuer
one_of [] some = absurd (omega arith)
one_of (i ∷ issuers) some = i

-- What holds of what each application does holds of the passes that were made for it.
pub each_pass : (before after : PassOfTable) (old new : List Issuer) (P : TableEntry → Type 0) → RanSideBySide before after old new
    → ((place : ℕ) → place < length old → AreSuch P (calls_of (suc (before.made + place)) after.seen))
    → (k : ℕ) → before.made < k → k ≤ after.made → (n : ℕ) × Contains after.joined (k, n) × AreSuch P (calls_of k after.seen)
each_pass before after old new P r such k less le =
    let place = k - suc before.made in
    let is : suc (before.made + place) ≡ k = omega arith in
    let within : place < length old = (let made = r.made in omega arith) in
    let d = one_of old (omega arith) in
    subst (λ (j : ℕ). (n : ℕ) × Contains after.joined (j, n) × AreSuch P (calls_of j after.seen)) is
    (length (calls_of (suc (before.made + place)) after.seen), (r.ran place d d within).joined, such place within)

-- ---- completions

-- An application hears no completion.
issues_safe : (a pass : ℕ) (issues : List Issue) (old new : ApplicationState) → DoesAll a old issues new → AreSuch IsSafeEntry (calls_of_issues pass issues)
issues_safe a pass [] old new does = tt
issues_safe a pass (holds_nothing ∷ issues) old new (next, here, does) = issues_safe a pass issues next new does
issues_safe a pass (at_table asked back ∷ issues) old new (next, here, does) = (by asked back here, issues_safe a pass issues next new does)
  where
    by : (does : PendingCall) (back : PendingReply) → Does a old (at_table does back) next → IsSafeCall does
    by (call.Submit application named op) (reply.Submitted answer) here = tt
    by (call.Take number) (reply.Taken answer) here = tt
    by _ _ here = absurd here

fronts_safe : (by : ℕ) (does : PendingCall) (back : PendingReply) → IsFronts does → IsSafeEntry (entry by does back)
fronts_safe by (call.Begin channel) back is = tt
fronts_safe by (call.Live device) back is = tt
fronts_safe by (call.Submit application named op) back is = absurd is
fronts_safe by call.Outbox back is = tt
fronts_safe by (call.Complete head body) back is = is
fronts_safe by (call.Remove device) back is = tt
fronts_safe by call.DropChannel back is = tt
fronts_safe by call.DropSent back is = tt
fronts_safe by (call.Take number) back is = absurd is
fronts_safe by call.Stage back is = tt

pub keeps_safe : (all : List TableEntry) → Keeping IsSafeEntry (λ (issuers : List Issuer). Unit {0}) all
keeps_safe all = record {
  such = fronts_safe;
  queue = λ l old new has fit. tt;
  runs = λ before after old new r prefix fit. (
    tt,
    each_pass before after old new IsSafeEntry r (λ place within.
        let d = one_of old (omega arith) in
        let issued = (r.ran place d d within).issued in
        subst (AreSuch IsSafeEntry) (sym issued.calls) (issues_safe _ (suc (before.made + place)) issued.issues _ _ issued.does)),
  );
}

-- ---- requests

fronts_fit : (by : ℕ) (does : PendingCall) (back : PendingReply) → IsFronts does → AcceptsInRange (entry by does back)
fronts_fit by (call.Begin channel) back is = tt
fronts_fit by (call.Live device) back is = tt
fronts_fit by (call.Submit application named op) back is = absurd is
fronts_fit by call.Outbox back is = tt
fronts_fit by (call.Complete head body) back is = tt
fronts_fit by (call.Remove device) back is = tt
fronts_fit by call.DropChannel back is = tt
fronts_fit by call.DropSent back is = tt
fronts_fit by (call.Take number) back is = absurd is
fronts_fit by call.Stage back is = tt

module _ (all : List TableEntry) (t : TableState) (leads : Leads PendingStep new_table all t) (files : AllByRecursion HandsFileEntry all) where
  -- what each asks for has room
  abbrev pub IssuersFit : List Issuer → Type 0
  IssuersFit issuers = AllByRecursion (λ (i : Issuer). AppFits all i.application) issuers

  queue_fits : (l : NumberedLine) (old new : List Issuer) → HasCome l.line old new → IssuersFit old → IssuersFit new
  queue_fits l old new has fit = by (asked_by l.line) refl
    where
      at : (a : ℕ) → QueuedAt a old new → IssuersFit new
      at a (place, i, got, number, is) =
          let own = at_got (λ (i : Issuer). AppFits all i.application) old place i got fit in
          subst IssuersFit (sym is) (all_with (λ (i : Issuer). AppFits all i.application) old place (queued i) (record { asks = own.asks; handles = own.handles; awaits = own.awaits }) fit)

      by : (o : Option (ℕ × Asked)) → asked_by l.line ≡ o → IssuersFit new
      by None e = let h : new ≡ old = rw e at has in subst IssuersFit (sym h) fit
      by (Some (a, asked)) e = let h : QueuedAt a old new = rw e at has in at a h

  runs_fit : (before after : PassOfTable) (old new : List Issuer) → RanSideBySide before after old new → IsPrefix after.seen all → IssuersFit old
      → IssuersFit new × ((k : ℕ) → before.made < k → k ≤ after.made → (n : ℕ) × Contains after.joined (k, n) × AreSuch AcceptsInRange (calls_of k after.seen))
  runs_fit before after old new r prefix fit = (
    all_places (λ (i : Issuer). AppFits all i.application) new (λ place e within.
        let less : place < length old = (let count = r.count in omega arith) in
        let d = one_of old (omega arith) in
        (one place d e less).0),
    each_pass before after old new AcceptsInRange r (λ place within.
        let d = one_of old (omega arith) in
        let issued = (r.ran place d d within).issued in
        (one place d d within).1),
  )
    where
      one : (place : ℕ) (d e : Issuer) → place < length old → AppFits all (slice_index_or new place e).application × AreSuch AcceptsInRange (calls_of (suc (before.made + place)) after.seen)
      one place d e within =
          let issued = (r.ran place d e within).issued in
          let done = issues_fit all t leads files (suc (before.made + place)) after.seen prefix _ issued.issues [] _ _ issued.does issued.calls
          (at_place (λ (i : Issuer). AppFits all i.application) old place d within fit) in
          (done.0, subst (AreSuch AcceptsInRange) (sym issued.calls) done.1)

  pub keeps_fit : Keeping AcceptsInRange IssuersFit all
  keeps_fit = record { such = fronts_fit; queue = queue_fits; runs = runs_fit }
