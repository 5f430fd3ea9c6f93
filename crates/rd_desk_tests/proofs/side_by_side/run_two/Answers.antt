use Rattle.std.proofs.Common.{◌≡◌, ◌∙◌, ℕ, zero, suc, ◌+◌, ◌≤◌, List, ap, sym, subst, arith}
use Rattle.std.specs.Prelude.{All}
use Rattle.rd_drive.specs.declared.drive.MemoryDrive.{MemoryDrive}
use Rattle.rd_drive.specs.Answered.{drive_cuts, drive_parked, drive_runs}
use Rattle.rd_drive.specs.DriveStep.{drive_cut, drive_step}
use Rattle.rd_drive.proofs.BoundedLemmas.{cut_cancels}
use Rattle.rd_station.specs.Station.{StationState}
use Rattle.rd_station.specs.Tied.{IsRunBy, IsTied}
use Rattle.rd_turn.specs.declared.object.Entry.{Entry}
use Rattle.rd_turn.specs.History.{Leads, calls_of}
use Rattle.rd_desk.specs.declared.calls.DeskCall.{DeskCall}
use Rattle.rd_desk.specs.declared.calls.DeskReply.{DeskReply}
use Rattle.rd_desk.specs.Desk.{DeskStep, told_calls}
use Rattle.rd_desk.specs.Own.{GivesOwnBack, request_put}
use Rattle.rd_desk.proofs.OwnLemmas.{none_back}
use Rattle.rd_desk.proofs.RunLemmas.{history_tied}
use Rattle.rd_desk_tests.proofs.side_by_side.run_two.Goals as goal

by_step : IsRunBy drive_step drive_cut drive_runs drive_parked drive_cuts
by_step = record { runs = λ old planned moment answer ends new did. did; cuts = λ old new left. left; cancels = cut_cancels }

-- there are three passes
each_of : (seen : List (Entry DeskCall DeskReply)) → GivesOwnBack (calls_of 0 seen) → GivesOwnBack (calls_of 1 seen) → GivesOwnBack (calls_of 2 seen) → (number : ℕ) → number ≤ 2 → GivesOwnBack (calls_of number seen)
each_of seen none one two zero few = none
each_of seen none one two (suc zero) few = one
each_of seen none one two (suc (suc zero)) few = two
each_of seen none one two (suc (suc (suc number))) few = absurd (omega (arith, few))

pub returns : goal.returns
returns g c =
    let opened = c.in-Ok-new-2.ensures.pass in
    let both = c.work_side_by_side-pass.ensures in
    let seen = c.work_side_by_side-pass.result.seen in
    let number : c.tell-3.new.pass.number ≡ 0 = c.tell-3.ensures.same.0 ∙ (c.tell-2.ensures.same.0 ∙ (c.tell.ensures.same.0 ∙ ap (λ p. p.number) opened)) in
    let made : c.tell-3.new.pass.made ≡ 0 = c.tell-3.ensures.same.1 ∙ (c.tell-2.ensures.same.1 ∙ (c.tell.ensures.same.1 ∙ ap (λ p. p.made) opened)) in
    let first = c.tell-3.ensures.gives (c.tell-2.ensures.gives (c.tell.ensures.gives (none_back (calls_of c.in-Ok-new-2.pass.number c.in-Ok-new-2.pass.seen) (ap (λ p. calls_of p.number p.seen) opened)))) in
    let own : GivesOwnBack (calls_of 0 seen) = subst GivesOwnBack (sym both.own_calls) (subst (λ (n : ℕ). GivesOwnBack (calls_of n c.tell-3.new.pass.seen)) number first) in
    let one : GivesOwnBack (calls_of 1 seen) = subst (λ (n : ℕ). GivesOwnBack (calls_of (suc n) seen)) made both.one_gives in
    let two : GivesOwnBack (calls_of 2 seen) = subst (λ (n : ℕ). GivesOwnBack (calls_of (suc (suc n)) seen)) made both.two_gives in
    let few = subst (λ (n : ℕ). All (λ (e : Entry DeskCall DeskReply). e.by ≤ n) seen) (both.counts.1 ∙ ap (λ n. n + 2) made) (c.close.ensures.numbers both.counts.0) in
    let leads = subst (λ (s : StationState MemoryDrive). Leads (DeskStep drive_runs drive_parked drive_cuts) s seen c.close.result) (c.in-Ok-new-2.ensures.turn ∙ (c.in-Ok-new.ensures.made ∙ c.in-Ok.ensures.made)) c.close.ensures.leads in (
      seen,
      subst (λ (s : StationState MemoryDrive). IsTied drive_step drive_cut (request_put (told_calls seen)) c.args.drive s) (sym c.into_station.ensures)
          (history_tied drive_runs drive_parked drive_cuts drive_step drive_cut c.args.drive c.close.result seen 2 by_step c.requires leads few (each_of seen own one two)),
    )
