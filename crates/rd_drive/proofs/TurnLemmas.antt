-- The journal of what is done to a drive tells it.
use Rattle.std.proofs.Common.{◌≡◌, ◌≢◌, ◌∙◌, refl, sym, ap, subst, ℕ, true, false, List, [], ◌∷◌, ◌++◌, map}
use Rattle.std.specs.Prelude.{IsFalse}
use Rattle.std.specs.List.{AllByRecursion}
use Rattle.rd_base.specs.declared.journal.Key.{Key}
use Rattle.rd_irp.specs.declared.op.Op.{Op}
use Rattle.rd_irp.specs.declared.op.Op.TheVariants.{Close}
use Rattle.rd_irp.specs.declared.request.Request.{Request}
use Rattle.rd_drive.specs.declared.step.Step.{Step}
use Rattle.rd_drive.specs.declared.step.End.{End}
use Rattle.rd_drive.specs.Planned.{Planned}
use Rattle.rd_drive.specs.DriveState.{DriveState, Waiting}
use Rattle.rd_drive.specs.Device.{is_parked, is_starved}
use Rattle.rd_drive.specs.DriveStep.{cancelled_end, drive_cut, drive_step}
use Rattle.rd_drive.specs.Stepped.{Stepped, ran_step}
use Rattle.rd_drive.specs.Answered.{drive_cuts, drive_parked, drive_runs, parked_of}
use Rattle.rd_drive.specs.Replies.{KeyedReply, IsToldBy, end_reply, own_reply, replies_at, run_of, state_after}
use Rattle.rd_drive.specs.Turns.{RunsItsRequest, TakesAll, TellsTurns, Turn, cancelled_reply, cuts, item_of, runs, turn_replies}

cancelled_keys : (ws : List Waiting) → map end_reply (map cancelled_end ws) ≡ map cancelled_reply (map parked_of ws)
cancelled_keys [] = refl
cancelled_keys (w ∷ ws) = ap (λ (rs : List KeyedReply). cancelled_reply (parked_of w) ∷ rs) (cancelled_keys ws)

module _ (requests : Key → Request) where
  -- what its entry says of a turn is so, and what is left of the turns is told after it
  behind : (old between new : DriveState) (turn : Turn) (turns : List Turn) → state_after drive_step drive_cut requests old (item_of turn) ≡ between
      → replies_at drive_step drive_cut requests old (item_of turn) ≡ turn_replies turn → IsToldBy drive_step drive_cut requests old (item_of turn)
      → TellsTurns between new requests turns → TellsTurns old new requests (turn ∷ turns)
  behind old between new turn turns state replies marks told =
      let rest : TellsTurns (state_after drive_step drive_cut requests old (item_of turn)) new requests turns = subst (λ (s : DriveState). TellsTurns s new requests turns) (sym state) told in
      record {
        state = rest.state;
        replies = (λ i. replies i ++ rest.replies i);
        marks = (marks, rest.marks);
      }

  ran : (old new : DriveState) (planned : Planned) (moment : ℕ) (answer : Step) (ends : List End) → RunsItsRequest requests (runs planned moment answer ends)
      → drive_runs old planned moment answer ends new → run_of drive_step drive_cut requests old planned.job.key moment (is_starved answer) ≡ record { state = new; answer = answer; ends = ends }
  ran old new planned moment answer ends its did =
      (λ i. ran_step drive_step old planned.job.key (its.0 i) (its.1 i) moment (is_starved answer)) ∙ did

  fed : (answer : Step) (o asked : Op) → asked ≡ o → (o ≡ Close → IsFalse (is_starved answer)) → is_starved answer ≡ true → asked ≢ Close
  fed answer o asked same close starved is_close = let never : is_starved answer ≡ false = close (sym same ∙ is_close) in cc

  pub told : (turns : List Turn) (old new : DriveState) → TakesAll drive_runs drive_parked drive_cuts old turns new → AllByRecursion (RunsItsRequest requests) turns → TellsTurns old new requests turns
  told [] old new takes its = record { state = sym takes; replies = refl; marks = tt }
  told (runs planned moment answer ends ∷ turns) old new (between, took, takes) its =
      let did = ran old between planned moment answer ends its.0 took.0 in
      behind old between new (runs planned moment answer ends) turns
      (ap (λ (r : Stepped DriveState). r.state) did)
      (ap (λ (r : Stepped DriveState). own_reply planned.job.key r.answer ++ map end_reply r.ends) did)
      (ap (λ (r : Stepped DriveState). is_parked r.answer) did, fed answer planned.job.op (requests planned.job.key).op its.0.1 took.1)
      (told turns between new takes its.1)
  told (cuts cause waiting ∷ turns) old new (between, took, takes) its =
      behind old between new (cuts cause waiting) turns took.1
      (cancelled_keys old.waiting ∙ ap (map cancelled_reply) (sym took.0))
      tt
      (told turns between new takes its.1)
