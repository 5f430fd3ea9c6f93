use Rattle.std.proofs.Common.{subst, Ok}
use Rattle.rd_drive.specs.declared.store.Done.{Done}
use Rattle.rd_drive.specs.DriveStep.{outcome_of}
use Rattle.rd_drive.specs.Store.{drive_of, Serves}
use Rattle.rd_drive.proofs.ServedLemmas.{served_parked, served_refused, served_reply}
use Rattle.rd_drive.proofs.store.Store.serve.Goals as goal

pub returns-in-Ok-Replied-clause-served : goal.returns-in-Ok-Replied-clause-served
returns-in-Ok-Replied-clause-served c =
    let served = subst (λ (d : Done). Serves c.args.self.now c.outcome.new.self (outcome_of (drive_of c.args.self.now) c.args.job.key c.args.job.file c.args.job.op c.args.moment) (Ok d)) c.in-Ok-Replied.field-0-is c.in-Ok-Replied.ensures.serves in
    served_reply c.args.self.now c.requires.sound c.args.job c.args.moment c.outcome.new.self c.settle.new.self c.in-Ok-Replied.body c.in-Ok-Replied.news served.0 served.1 served.2
    c.settle.new.ends c.settle.ensures.settled c.settle.ensures.sound c.success.result c.success.ensures

pub returns-in-Ok-Parked-clause-served : goal.returns-in-Ok-Parked-clause-served
returns-in-Ok-Parked-clause-served c =
    let served = subst (λ (d : Done). Serves c.args.self.now c.outcome.new.self (outcome_of (drive_of c.args.self.now) c.args.job.key c.args.job.file c.args.job.op c.args.moment) (Ok d)) c.in-Ok-Parked.field-0-is c.in-Ok-Parked.ensures.serves in
    served_parked c.args.self.now c.requires.sound c.args.job c.args.moment c.outcome.new.self served.0 served.1 c.args.ends.now c.requires.ends

pub returns-in-Err-clause-served : goal.returns-in-Err-clause-served
returns-in-Err-clause-served c =
    let served = c.in-Err.ensures.serves in
    served_refused c.args.self.now c.requires.sound c.args.job c.args.moment c.outcome.new.self served.0 c.in-Err.status served.1 c.args.ends.now c.requires.ends c.fault.result c.fault.ensures
