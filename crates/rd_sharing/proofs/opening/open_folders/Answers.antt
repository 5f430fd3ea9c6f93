use Rattle.std.proofs.Common.{rules, ◌∙◌, refl, ℕ, List, subst}
use Rattle.std.proofs.lemmas.Bool.{false≢true}
use Rattle.rd_served_devices.specs.ServedDevices.{ServedDeviceState}
use Rattle.rd_declared.specs.Devices.{Declared}
use Rattle.rd_world.proofs.OpenedLemmas.{nothing_left}
use Rattle.rd_sharing.specs.Devices.{AddsDevice}
use Rattle.rd_sharing.specs.Refused.{StopsOpening}
use Rattle.rd_sharing.specs.ServedOpening.{folders_told}
use Rattle.rd_sharing.proofs.FoldersLemmas.{HasOpened, if_err, opened_all, opened_more, opened_none, over_faultless, over_quiet, stops_next}
use Rattle.rd_sharing.proofs.opening.open_folders.Goals as goal

pub loop-id-init : goal.loop-id-init
loop-id-init g c = record {
  opened = opened_none c.args.drives.entries (g.D.Folders.opened c.args.folders.now) c.args.served.now c.requires.same c.requires.calm c.requires.are;
  failures = refl;
  trouble = refl;
}

pub add-requires-clause-same : goal.add-requires-clause-same
add-requires-clause-same g c = c.loop-id.invariant.opened.same

pub add-requires-clause-quiet : goal.add-requires-clause-quiet
add-requires-clause-quiet g c = rw c.over-device.ensures (over_quiet _ _ _ _ c.in_ok-drive_over.ensures.opened)

pub add-requires-clause-calm : goal.add-requires-clause-calm
add-requires-clause-calm g c = c.loop-id.invariant.opened.calm

pub add-requires-clause-faultless : goal.add-requires-clause-faultless
add-requires-clause-faultless g c = rw c.over-device.ensures (over_faultless _ _ _ _ c.in_ok-drive_over.ensures.opened)

pub loop-id-preserved : goal.loop-id-preserved
loop-id-preserved g c =
    let before = g.D.Folders.opened c.args.folders.now in
    let has = subst (λ (left : List (ℕ × Declared)). HasOpened c.args.drives.entries left before (g.D.Folders.opened c.loop-id.folders) c.args.served.now c.loop-id.served) c.in-Some.ensures.removal c.loop-id.invariant.opened in
    let adds = subst (λ (device : ServedDeviceState). AddsDevice c.in-Some.id device c.announce.result c.loop-id.served c.add.new.self) c.over-device.ensures c.in_ok-add.ensures.added in
    record {
      opened = opened_more c.args.drives.entries c.pop_first.new.self.entries (c.in-Some.id, c.in-Some.drive) before (g.D.Folders.opened c.loop-id.folders) (g.D.Folders.opened c.open.new.folders)
          c.args.served.now c.loop-id.served c.add.new.self c.in_ok-drive_over.drive_over c.announce.result has c.in_ok-drive_over.ensures.opened adds c.announce.ensures.announced c.add.ensures.calm;
      failures = c.in_ok-drive_over.ensures.failures ∙ c.loop-id.invariant.failures;
      trouble = c.open.ensures.trouble ∙ c.loop-id.invariant.trouble;
    }

pub returns-clause-opened : goal.returns-clause-opened
returns-clause-opened g c =
    opened_all c.args.drives.entries c.loop-id.drives.entries (g.D.Folders.opened c.args.folders.now) (g.D.Folders.opened c.loop-id.folders) c.args.served.now c.loop-id.served c.loop-id.invariant.opened
    (nothing_left c.loop-id.drives.entries c.in_default.ensures.variant.1 false≢true)

pub returns-in_err-drive_over-clause-refused : goal.returns-in_err-drive_over-clause-refused
returns-in_err-drive_over-clause-refused g c =
    let before = folders_told (g.D.Folders.opened c.args.folders.now) (g.D.Folders.failures c.args.folders.now) (g.D.Folders.trouble c.args.folders.now) in
    let now = folders_told (g.D.Folders.opened c.loop-id.folders) (g.D.Folders.failures c.loop-id.folders) (g.D.Folders.trouble c.loop-id.folders) in
    let after = folders_told (g.D.Folders.opened c.open.new.folders) (g.D.Folders.failures c.open.new.folders) (g.D.Folders.trouble c.open.new.folders) in
    let has = subst (λ (left : List (ℕ × Declared)). HasOpened c.args.drives.entries left before.opened now.opened c.args.served.now c.loop-id.served) c.in-Some.ensures.removal c.loop-id.invariant.opened in
    if_err c.from_residual.result c.in_err-drive_over.field-0.0 (StopsOpening c.args.drives.entries before after) (search rules)
    (stops_next c.args.drives.entries c.pop_first.new.self.entries c.in-Some.id c.in-Some.drive before now after c.args.served.now c.loop-id.served c.in_err-drive_over.field-0.0
    has c.loop-id.invariant.failures c.in_err-drive_over.ensures.refused c.in_err-drive_over.ensures.unopened)
