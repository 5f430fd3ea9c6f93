use Rattle.std.proofs.Common.{ap, refl, subst, Ok}
use Rattle.rd_folder_drive.specs.declared.table.Done.{Done}
use Rattle.rd_folder_drive.specs.declared.table.Done.TheVariants as done
use Rattle.rd_folder_drive.specs.declared.table.Table.{Table}
use Rattle.rd_folder_drive.specs.Files.{FilesBy}
use Rattle.rd_folder_drive.specs.Served.{Seen, seen}
use Rattle.rd_folder_drive.specs.Serving.{ServesClosing, ServesOther, WaitsForJob}
use Rattle.rd_folder_drive.proofs.BesideLemmas.{over_beside}
use Rattle.rd_folder_drive.proofs.FilesLemmas.{files_kept, files_parked, files_refused, files_replied}
use Rattle.rd_folder_drive.proofs.ServingLemmas.{kept_settles, over_after, parked_sound, parks_last, parks_on, refusal_sound, replied_settles, serve_kept, serve_parked, serve_refused, serve_replied}
use Rattle.rd_folder_drive.proofs.table.Table.serve.Goals as goal

pub settle-requires-clause-sound : goal.settle-requires-clause-sound
settle-requires-clause-sound g c =
    let t = c.args.self.now in
    let before : Seen = seen g.F.Folder.nodes g.F.Folder.faults c.args.folder.now in
    let middle = c.outcome.new.self in
    let after : Seen = seen g.F.Folder.nodes g.F.Folder.faults c.outcome.new.folder in
    let other = subst (λ (d : Done). ServesOther t before middle after c.args.job c.args.moment (Ok d)) c.in-Ok-Replied.field-0-is c.in-Ok-Replied.ensures.other in
    let closing = subst (λ (d : Done). ServesClosing t before middle after c.args.job (Ok d)) c.in-Ok-Replied.field-0-is c.in-Ok-Replied.ensures.closing in
    (replied_settles t middle before after c.args.job c.args.moment c.in-Ok-Replied.body c.in-Ok-Replied.news other closing).0

pub settle-requires-in-Ok-Kept-clause-sound : goal.settle-requires-in-Ok-Kept-clause-sound
settle-requires-in-Ok-Kept-clause-sound g c =
    let t = c.args.self.now in
    let before : Seen = seen g.F.Folder.nodes g.F.Folder.faults c.args.folder.now in
    let middle = c.outcome.new.self in
    let after : Seen = seen g.F.Folder.nodes g.F.Folder.faults c.outcome.new.folder in
    let other = subst (λ (d : Done). ServesOther t before middle after c.args.job c.args.moment (Ok d)) c.in-Ok-Kept.field-0-is c.in-Ok-Kept.ensures.other in
    let closing = subst (λ (d : Done). ServesClosing t before middle after c.args.job (Ok d)) c.in-Ok-Kept.field-0-is c.in-Ok-Kept.ensures.closing in
    (kept_settles t middle before after c.args.job c.args.moment c.in-Ok-Kept.status c.in-Ok-Kept.news other closing).0

pub returns-in-Ok-Replied-clause-over : goal.returns-in-Ok-Replied-clause-over
returns-in-Ok-Replied-clause-over g c =
    let t = c.args.self.now in
    let before : Seen = seen g.F.Folder.nodes g.F.Folder.faults c.args.folder.now in
    let middle = c.outcome.new.self in
    let after : Seen = seen g.F.Folder.nodes g.F.Folder.faults c.outcome.new.folder in
    let other = subst (λ (d : Done). ServesOther t before middle after c.args.job c.args.moment (Ok d)) c.in-Ok-Replied.field-0-is c.in-Ok-Replied.ensures.other in
    let closing = subst (λ (d : Done). ServesClosing t before middle after c.args.job (Ok d)) c.in-Ok-Replied.field-0-is c.in-Ok-Replied.ensures.closing in
    over_beside middle c.settle.new.self c.settle.ensures.others after (over_after t middle before after c.args.job c.args.moment (Ok (done.Replied c.in-Ok-Replied.body c.in-Ok-Replied.news)) other closing)

pub returns-in-Ok-Replied-clause-runs : goal.returns-in-Ok-Replied-clause-runs
returns-in-Ok-Replied-clause-runs g c =
    let t = c.args.self.now in
    let before : Seen = seen g.F.Folder.nodes g.F.Folder.faults c.args.folder.now in
    let middle = c.outcome.new.self in
    let after : Seen = seen g.F.Folder.nodes g.F.Folder.faults c.outcome.new.folder in
    let other = subst (λ (d : Done). ServesOther t before middle after c.args.job c.args.moment (Ok d)) c.in-Ok-Replied.field-0-is c.in-Ok-Replied.ensures.other in
    let closing = subst (λ (d : Done). ServesClosing t before middle after c.args.job (Ok d)) c.in-Ok-Replied.field-0-is c.in-Ok-Replied.ensures.closing in
    serve_replied t before c.args.job c.args.moment middle c.settle.new.self after c.in-Ok-Replied.news c.settle.new.ends c.settle.ensures.settled
    c.in-Ok-Replied.body (files_replied t middle c.settle.new.self c.requires.sound (ap (λ (u : Table). u.handles) c.settle.ensures.others) before after c.args.job.file c.args.job.op c.in-Ok-Replied.body c.in-Ok-Replied.news
    (subst (λ (d : Done). FilesBy t middle c.args.job.op c.args.job.file (Ok d)) c.in-Ok-Replied.field-0-is c.in-Ok-Replied.ensures.files)) other closing c.success.result c.success.ensures

pub returns-in-Ok-Kept-clause-over : goal.returns-in-Ok-Kept-clause-over
returns-in-Ok-Kept-clause-over g c =
    let t = c.args.self.now in
    let before : Seen = seen g.F.Folder.nodes g.F.Folder.faults c.args.folder.now in
    let middle = c.outcome.new.self in
    let after : Seen = seen g.F.Folder.nodes g.F.Folder.faults c.outcome.new.folder in
    let other = subst (λ (d : Done). ServesOther t before middle after c.args.job c.args.moment (Ok d)) c.in-Ok-Kept.field-0-is c.in-Ok-Kept.ensures.other in
    let closing = subst (λ (d : Done). ServesClosing t before middle after c.args.job (Ok d)) c.in-Ok-Kept.field-0-is c.in-Ok-Kept.ensures.closing in
    over_beside middle c.settle-in-Ok-Kept.new.self c.settle-in-Ok-Kept.ensures.others after (over_after t middle before after c.args.job c.args.moment (Ok (done.Kept c.in-Ok-Kept.status c.in-Ok-Kept.news)) other closing)

pub returns-in-Ok-Kept-clause-runs : goal.returns-in-Ok-Kept-clause-runs
returns-in-Ok-Kept-clause-runs g c =
    let t = c.args.self.now in
    let before : Seen = seen g.F.Folder.nodes g.F.Folder.faults c.args.folder.now in
    let middle = c.outcome.new.self in
    let after : Seen = seen g.F.Folder.nodes g.F.Folder.faults c.outcome.new.folder in
    let other = subst (λ (d : Done). ServesOther t before middle after c.args.job c.args.moment (Ok d)) c.in-Ok-Kept.field-0-is c.in-Ok-Kept.ensures.other in
    let closing = subst (λ (d : Done). ServesClosing t before middle after c.args.job (Ok d)) c.in-Ok-Kept.field-0-is c.in-Ok-Kept.ensures.closing in
    serve_kept t before c.args.job c.args.moment middle c.settle-in-Ok-Kept.new.self after c.in-Ok-Kept.news c.settle-in-Ok-Kept.new.ends c.settle-in-Ok-Kept.ensures.settled
    c.in-Ok-Kept.status (files_kept t middle c.settle-in-Ok-Kept.new.self c.requires.sound (ap (λ (u : Table). u.handles) c.settle-in-Ok-Kept.ensures.others) before after c.args.job.file c.args.job.op c.in-Ok-Kept.status c.in-Ok-Kept.news
    (subst (λ (d : Done). FilesBy t middle c.args.job.op c.args.job.file (Ok d)) c.in-Ok-Kept.field-0-is c.in-Ok-Kept.ensures.files)) other closing c.fault.result c.fault.ensures

pub returns-in-Ok-Parked-clause-runs : goal.returns-in-Ok-Parked-clause-runs
returns-in-Ok-Parked-clause-runs g c =
    let t = c.args.self.now in
    let before : Seen = seen g.F.Folder.nodes g.F.Folder.faults c.args.folder.now in
    let middle = c.outcome.new.self in
    let after : Seen = seen g.F.Folder.nodes g.F.Folder.faults c.outcome.new.folder in
    let other = subst (λ (d : Done). ServesOther t before middle after c.args.job c.args.moment (Ok d)) c.in-Ok-Parked.field-0-is c.in-Ok-Parked.ensures.other in
    let closing = subst (λ (d : Done). ServesClosing t before middle after c.args.job (Ok d)) c.in-Ok-Parked.field-0-is c.in-Ok-Parked.ensures.closing in
    serve_parked t before c.args.job c.args.moment middle after
    (files_parked t middle middle c.requires.sound refl before after c.args.job.file c.args.job.op (subst (λ (d : Done). FilesBy t middle c.args.job.op c.args.job.file (Ok d)) c.in-Ok-Parked.field-0-is c.in-Ok-Parked.ensures.files)) other closing c.args.ends.now c.requires.ends

pub returns-in-Ok-Parked-clause-parks : goal.returns-in-Ok-Parked-clause-parks
returns-in-Ok-Parked-clause-parks g c =
    let t = c.args.self.now in
    let before : Seen = seen g.F.Folder.nodes g.F.Folder.faults c.args.folder.now in
    let middle = c.outcome.new.self in
    let after : Seen = seen g.F.Folder.nodes g.F.Folder.faults c.outcome.new.folder in
    let other = subst (λ (d : Done). ServesOther t before middle after c.args.job c.args.moment (Ok d)) c.in-Ok-Parked.field-0-is c.in-Ok-Parked.ensures.other in
    let closing = subst (λ (d : Done). ServesClosing t before middle after c.args.job (Ok d)) c.in-Ok-Parked.field-0-is c.in-Ok-Parked.ensures.closing in
    parks_last t middle c.args.job c.args.ends.now c.requires.ends (parked_sound t middle before after c.args.job c.args.moment other closing)
    (subst (λ (d : Done). WaitsForJob t middle c.args.job (Ok d)) c.in-Ok-Parked.field-0-is c.in-Ok-Parked.ensures.waits).1

pub returns-in-Err-clause-runs : goal.returns-in-Err-clause-runs
returns-in-Err-clause-runs g c =
    let t = c.args.self.now in
    let before : Seen = seen g.F.Folder.nodes g.F.Folder.faults c.args.folder.now in
    let middle = c.outcome.new.self in
    let after : Seen = seen g.F.Folder.nodes g.F.Folder.faults c.outcome.new.folder in
    let other = c.in-Err.ensures.other in
    let closing = c.in-Err.ensures.closing in
    serve_refused t before c.args.job c.args.moment middle after (files_refused t middle middle c.requires.sound refl before after c.args.job.file c.args.job.op c.in-Err.status c.in-Err.ensures.files) c.in-Err.status other closing c.args.ends.now c.requires.ends
    c.fault-in-Err.result c.fault-in-Err.ensures

pub returns-in-Err-clause-parks : goal.returns-in-Err-clause-parks
returns-in-Err-clause-parks g c = parks_on c.args.self.now c.outcome.new.self c.args.job c.fault-in-Err.result c.args.ends.now c.requires.ends c.requires.sound c.in-Err.ensures.waits

pub returns-in-Err-clause-sound : goal.returns-in-Err-clause-sound
returns-in-Err-clause-sound g c =
    let before : Seen = seen g.F.Folder.nodes g.F.Folder.faults c.args.folder.now in
    let after : Seen = seen g.F.Folder.nodes g.F.Folder.faults c.outcome.new.folder in
    refusal_sound c.args.self.now c.outcome.new.self before after c.args.job c.args.moment c.in-Err.status c.in-Err.ensures.other c.in-Err.ensures.closing
