-- The numbers of the files that a table's replies give have room in their fields, where its completions begin in bytes.
use Rattle.std.proofs.Common.{◌≡◌, refl, sym, ap, subst, ℕ, suc, ◌+◌, ◌==◌, ◌&&◌, Bool, true, false, cond, List, [], ◌∷◌, Some, None, Option, Result, Ok, Err, is_some}
use Rattle.std.specs.Prelude.{if◌then◌else◌, is_none}
use Rattle.std.specs.List.{AllByRecursion}
use Rattle.std.specs.Map.{set_value}
use Rattle.std.specs.Ordering.{nat_cmp}
use Rattle.std.specs.BTreeMap.{is_at}
use Rattle.std.specs.Option.{IfSome, option_map_or}
use Rattle.rd_base.specs.declared.bad.Bad.{Bad}
use Rattle.rd_base.specs.declared.journal.Cause.{Cause}
use Rattle.rd_base.specs.declared.journal.Cause.TheVariants.{Dropped, Removed}
use Rattle.rd_base.specs.Layout.{met}
use Rattle.rd_base.specs.Position.{Position, at_start}
use Rattle.rd_irp.specs.declared.completion.Body.{Body}
use Rattle.rd_irp.specs.declared.completion.Head.{Head}
use Rattle.rd_irp.specs.declared.op.Op.{Op}
use Rattle.rd_irp.specs.Completion.{completion_body}
use Rattle.rd_pending.specs.declared.calls.CompleteNo.{CompleteNo}
use Rattle.rd_pending.specs.declared.calls.CompleteNo.TheVariants as complete_no
use Rattle.rd_pending.specs.declared.calls.Completed.{Completed}
use Rattle.rd_pending.specs.declared.calls.LiveNo.{LiveNo}
use Rattle.rd_pending.specs.declared.calls.LiveNo.TheVariants as live_no
use Rattle.rd_pending.specs.declared.calls.Outcome.TheVariants.{Done, Lost}
use Rattle.rd_pending.specs.declared.calls.SubmitNo.{SubmitNo}
use Rattle.rd_pending.specs.declared.calls.SubmitNo.TheVariants as submit_no
use Rattle.rd_pending.specs.declared.calls.Taken.{Taken}
use Rattle.rd_pending.specs.declared.calls.TakeNo.{TakeNo}
use Rattle.rd_pending.specs.declared.calls.Target.{Target}
use Rattle.rd_pending.specs.Table as pending
use Rattle.rd_pending.specs.Table.{Fate, Slot, TableState, Untaken, awaited, freed, is_awaited, known, life_of, live_refusal, losing, lost_where, slot_for, submit_refusal, untaken_at, with_fate}
use Rattle.rd_runs.proofs.FileNumbers.{BeginsInBytes, file_fits}
use Rattle.rd_runs.proofs.KeysOnLemmas.{all_mapped}
use Rattle.rd_runs.proofs.RoomLemmas.{OfAll, OutcomeHasRoom, all_inserted, all_removed, all_set, found_in}
use Rattle.rd_table.specs.declared.calls.PendingCall.{PendingCall}
use Rattle.rd_table.specs.declared.calls.PendingCall.TheVariants as call
use Rattle.rd_table.specs.declared.calls.PendingReply.{PendingReply}
use Rattle.rd_table.specs.declared.calls.PendingReply.TheVariants as reply
use Rattle.rd_table.specs.Calls.{PendingStep}
use Rattle.rd_turn.specs.History.{Leads}
use Rattle.rd_host_turns.specs.Turns.{TableEntry}

-- ---- a table

-- the file that there is of an outcome has room
abbrev FateFits : Fate → Type 0
FateFits awaited = Unit {0}
FateFits (known o) = OutcomeHasRoom o

abbrev UntakenFits : Untaken → Type 0
UntakenFits u = FateFits u.fate

abbrev pub FilesFit : TableState → Type 0
FilesFit t = OfAll UntakenFits t.untaken

lost_fit : (test : Untaken → Bool) (cause : Cause) (es : List (ℕ × Untaken)) → OfAll UntakenFits es → OfAll UntakenFits (losing test cause es)
lost_fit test cause es all =
    all_mapped (λ (e : ℕ × Untaken). UntakenFits e.1) (lost_where test cause) (λ (e : ℕ × Untaken). UntakenFits e.1) one es all
  where
    by : (u : Untaken) → UntakenFits u → (b : Bool) → UntakenFits (if b then record u { fate = known (Lost cause) } else u)
    by u own true = tt
    by u own false = own

    one : (e : ℕ × Untaken) → UntakenFits e.1 → UntakenFits (lost_where test cause e).1
    one e own = by e.1 own (is_awaited (e.1).fate && test e.1)

begun_fit : (t : TableState) (c : ℕ) → FilesFit t → FilesFit (pending.begin t c).0
begun_fit t c fit = by (is_some t.channel)
  where
    by : (b : Bool) → FilesFit (cond {A = TableState × Bool} b (t, false) (record t { channel = Some c; below = c + 1; asked = 0; begun = 0 }, true)).0
    by true = fit
    by false = fit

lived_fit : (t : TableState) (device : ℕ) → FilesFit t → FilesFit (pending.live t device).0
lived_fit t device fit = by (live_refusal t device) refl
  where
    by : (o : Option LiveNo) → live_refusal t device ≡ o → FilesFit (pending.live t device).0
    by None e = rw e fit
    by (Some cause) e = rw e fit

removed_fit : (t : TableState) (device : ℕ) → FilesFit t → FilesFit (pending.remove t device).0
removed_fit t device fit = by (is_none (life_of t device)) refl
  where
    by : (b : Bool) → is_none (life_of t device) ≡ b → FilesFit (pending.remove t device).0
    by true e = rw e fit
    by false e = rw e (lost_fit (λ u. u.device == device) Removed t.untaken fit)

submitted_fit : (t : TableState) (a : ℕ) (named : Target) (o : Op) → FilesFit t → FilesFit (pending.submit t a named o).0
submitted_fit t a named o fit = by (submit_refusal t named) refl
  where
    by : (r : Option SubmitNo) → submit_refusal t named ≡ r → FilesFit (pending.submit t a named o).0
    by None e = rw e (all_inserted UntakenFits nat_cmp t.untaken (suc t.count) _ tt fit)
    by (Some cause) e = rw e fit

sent_fit : (t : TableState) → FilesFit t → FilesFit (pending.send t).0
sent_fit t fit = by t.outbox refl
  where
    by : (o : List (List ℕ)) → t.outbox ≡ o → FilesFit (pending.send t).0
    by [] e = rw e fit
    by (m ∷ ms) e = rw e fit

dropped_fit : (t : TableState) → FilesFit t → FilesFit (pending.drop_channel t)
dropped_fit t fit = lost_fit (λ u. true) Dropped t.untaken fit

drop_sent_fit : (t : TableState) → FilesFit t → FilesFit (pending.drop_sent t).0
drop_sent_fit t fit = by t.outbox refl
  where
    by : (o : List (List ℕ)) → t.outbox ≡ o → FilesFit (pending.drop_sent t).0
    by [] e = rw e (dropped_fit t fit)
    by (m ∷ ms) e = rw e fit

fate_fit : (t : TableState) (n : ℕ) (f : Fate) → FateFits f → FilesFit t → FilesFit (with_fate t n f)
fate_fit t n f own fit = by (untaken_at t n)
  where
    by : (o : Option Untaken) → FilesFit (option_map_or (λ u. record t { untaken = set_value (is_at (nat_cmp n)) t.untaken (record u { fate = f }) }) o t)
    by None = fit
    by (Some u) = all_set UntakenFits (is_at (nat_cmp n)) t.untaken (record u { fate = f }) own fit

completed_fit : (t : TableState) (head : Head) (bytes : List ℕ) → BeginsInBytes bytes → FilesFit t → FilesFit (pending.complete t head bytes).0
completed_fit t head bytes safe fit = by (slot_for t head.completion) refl
  where
    read : (slot : Slot) → slot_for t head.completion ≡ Some slot → (slot.device == head.device) ≡ true → slot.dead ≡ false → (r : Result (Body × Position) Bad)
        → met (completion_body slot.kind head.status) (at_start bytes) ≡ r → FilesFit (pending.complete t head bytes).0
    read slot e same alive (Err bad) e2 = rw (e, same, alive, e2) fit
    read slot e same alive (Ok gave) e2 =
        rw (e, same, alive, e2) (fate_fit (freed t head.completion) slot.number (known (Done (record { status = head.status; body = gave.0 }))) (file_fits slot.kind head.status bytes gave safe e2) fit)

    marked : (slot : Slot) → slot_for t head.completion ≡ Some slot → (slot.device == head.device) ≡ true → (b : Bool) → slot.dead ≡ b → FilesFit (pending.complete t head bytes).0
    marked slot e same true dead = rw (e, same, dead) fit
    marked slot e same false alive = read slot e same alive (met (completion_body slot.kind head.status) (at_start bytes)) refl

    held : (slot : Slot) → slot_for t head.completion ≡ Some slot → (b : Bool) → (slot.device == head.device) ≡ b → FilesFit (pending.complete t head bytes).0
    held slot e false other = rw (e, other) fit
    held slot e true same = marked slot e same slot.dead refl

    by : (o : Option Slot) → slot_for t head.completion ≡ o → FilesFit (pending.complete t head bytes).0
    by None e = rw e fit
    by (Some slot) e = held slot e (slot.device == head.device) refl

-- what is handed out has room
abbrev HandsFit : Result Taken TakeNo → Type 0
HandsFit (Ok taken) = OutcomeHasRoom taken.outcome
HandsFit (Err cause) = Unit {0}

taken_fit : (t : TableState) (n : ℕ) → FilesFit t → FilesFit (pending.take t n).0 × HandsFit (pending.take t n).1
taken_fit t n fit = by (untaken_at t n) refl (found_in UntakenFits (is_at (nat_cmp n)) t.untaken fit)
  where
    from : (u : Untaken) → untaken_at t n ≡ Some u → (f : Fate) → u.fate ≡ f → FateFits u.fate → FilesFit (pending.take t n).0 × HandsFit (pending.take t n).1
    from u e awaited e2 own = rw (e, e2) (fit, tt)
    from u e (known o) e2 own = rw (e, e2) (all_removed UntakenFits (is_at (nat_cmp n)) t.untaken fit, subst FateFits e2 own)

    by : (o : Option Untaken) → untaken_at t n ≡ o → IfSome o UntakenFits → FilesFit (pending.take t n).0 × HandsFit (pending.take t n).1
    by None e found = rw e (fit, tt)
    by (Some u) e found = from u e u.fate refl found

-- ---- its calls

-- where a completion is heard it begins in bytes
abbrev pub IsSafeCall : PendingCall → Type 0
IsSafeCall (call.Complete head body) = BeginsInBytes body
IsSafeCall _ = Unit {0}

abbrev pub IsSafeEntry : TableEntry → Type 0
IsSafeEntry e = IsSafeCall e.call

-- where an outcome is handed out the file that it gives has room
abbrev pub HandsFile : PendingReply → Type 0
HandsFile (reply.Taken (Ok taken)) = OutcomeHasRoom taken.outcome
HandsFile _ = Unit {0}

abbrev pub HandsFileEntry : TableEntry → Type 0
HandsFileEntry e = HandsFile e.reply

by_fit : {X : Type 0} (r : TableState × X) (new : TableState) (x : X) → r ≡ (new, x) → FilesFit r.0 → FilesFit new
by_fit {X} r new x is fit = subst FilesFit (ap (λ (p : TableState × X). p.0) is) fit

live_step : (old new : TableState) (device : ℕ) (answer : Result ℕ LiveNo) → pending.TableStep old (pending.lives device answer) new → FilesFit old → FilesFit new
live_step old new device (Err live_no.Memory) step fit = subst FilesFit (sym step.1) fit
live_step old new device (Err live_no.NoChannel) step fit = by_fit (pending.live old device) new _ step (lived_fit old device fit)
live_step old new device (Err live_no.Already) step fit = by_fit (pending.live old device) new _ step (lived_fit old device fit)
live_step old new device (Err live_no.Full) step fit = by_fit (pending.live old device) new _ step (lived_fit old device fit)
live_step old new device (Err (live_no.Worn count)) step fit = by_fit (pending.live old device) new _ step (lived_fit old device fit)
live_step old new device (Ok life) step fit = by_fit (pending.live old device) new _ step (lived_fit old device fit)

submit_step : (old new : TableState) (a : ℕ) (named : Target) (o : Op) (answer : Result ℕ SubmitNo) → pending.TableStep old (pending.submits a named o answer) new → FilesFit old → FilesFit new
submit_step old new a named o (Err submit_no.Memory) step fit = subst FilesFit (sym step.2) fit
submit_step old new a named o (Err submit_no.NoChannel) step fit = by_fit (pending.submit old a named o) new _ step.1 (submitted_fit old a named o fit)
submit_step old new a named o (Err submit_no.NoDevice) step fit = by_fit (pending.submit old a named o) new _ step.1 (submitted_fit old a named o fit)
submit_step old new a named o (Err (submit_no.StaleHandle was now)) step fit = by_fit (pending.submit old a named o) new _ step.1 (submitted_fit old a named o fit)
submit_step old new a named o (Err (submit_no.Full held)) step fit = by_fit (pending.submit old a named o) new _ step.1 (submitted_fit old a named o fit)
submit_step old new a named o (Err (submit_no.Worn count)) step fit = by_fit (pending.submit old a named o) new _ step.1 (submitted_fit old a named o fit)
submit_step old new a named o (Ok number) step fit = by_fit (pending.submit old a named o) new _ step.1 (submitted_fit old a named o fit)

complete_step : (old new : TableState) (head : Head) (body : List ℕ) (answer : Result Completed CompleteNo) → BeginsInBytes body → pending.TableStep old (pending.completes head body answer) new → FilesFit old
    → FilesFit new
complete_step old new head body (Err complete_no.Memory) safe step fit = subst FilesFit (sym step.2) fit
complete_step old new head body (Err (complete_no.Stray device id)) safe step fit = by_fit (pending.complete old head body) new _ step (completed_fit old head body safe fit)
complete_step old new head body (Err (complete_no.BodyBad bad)) safe step fit = by_fit (pending.complete old head body) new _ step (completed_fit old head body safe fit)
complete_step old new head body (Ok done) safe step fit = by_fit (pending.complete old head body) new _ step (completed_fit old head body safe fit)

take_step : (old new : TableState) (n : ℕ) (answer : Result Taken TakeNo) → pending.take old n ≡ (new, answer) → FilesFit old → FilesFit new × HandsFit answer
take_step old new n answer step fit = subst (λ (r : TableState × Result Taken TakeNo). FilesFit r.0 × HandsFit r.1) step (taken_fit old n fit)

hands_file : (answer : Result Taken TakeNo) → HandsFit answer → HandsFile (reply.Taken answer)
hands_file (Ok taken) fit = fit
hands_file (Err cause) fit = tt

one_fit : (old : TableState) (does : PendingCall) (back : PendingReply) (new : TableState) → IsSafeCall does → PendingStep old does back new → FilesFit old → FilesFit new × HandsFile back
one_fit old (call.Begin channel) (reply.Begun answer) new safe step fit = (by_fit (pending.begin old channel) new answer (step.0).1 (begun_fit old channel fit), tt)
one_fit old (call.Begin channel) reply.Unfit new safe step fit = (subst FilesFit (sym (step.0).1) fit, tt)
one_fit old (call.Live device) (reply.Lives answer) new safe step fit = (live_step old new device answer step.0 fit, tt)
one_fit old (call.Submit a named o) (reply.Submitted answer) new safe step fit = (submit_step old new a named o answer step.0 fit, tt)
one_fit old (call.Submit a named o) reply.Unfit new safe step fit = (subst FilesFit (sym (step.0).1) fit, tt)
one_fit old call.Outbox (reply.Sent answer) new safe step fit = (by_fit (pending.send old) new answer step.0 (sent_fit old fit), tt)
one_fit old (call.Complete head body) (reply.Completed answer) new safe step fit = (complete_step old new head body answer safe step.0 fit, tt)
one_fit old (call.Remove device) (reply.Removed answer) new safe step fit = (by_fit (pending.remove old device) new answer step.0 (removed_fit old device fit), tt)
one_fit old call.DropChannel reply.Dropped new safe step fit = (subst FilesFit step.0 (dropped_fit old fit), tt)
one_fit old call.DropSent (reply.DroppedSent answer) new safe step fit = (by_fit (pending.drop_sent old) new answer step.0 (drop_sent_fit old fit), tt)
one_fit old (call.Take number) (reply.Taken answer) new safe step fit = let t = take_step old new number answer step.0 fit in (t.0, hands_file answer t.1)
one_fit old call.Stage (reply.Stands answer) new safe step fit = (subst FilesFit (sym (step.0).1) fit, tt)
one_fit old _ _ new safe step fit = absurd step.0

-- Where completions begin in bytes, the files that outcomes give have room.
pub files_fit : (entries : List TableEntry) (old new : TableState) → Leads PendingStep old entries new → AllByRecursion IsSafeEntry entries → FilesFit old → AllByRecursion HandsFileEntry entries
files_fit [] old new leads safe fit = tt
files_fit (e ∷ entries) old new (next, step, leads) (here, safe) fit = let one = one_fit old e.call e.reply next here step fit in (one.1, files_fit entries next new leads safe one.0)
