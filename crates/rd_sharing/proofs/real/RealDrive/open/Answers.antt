use Rattle.std.proofs.Common.{◌∙◌, ap}
use Rattle.rd_declared.specs.Devices.{Declared}
use Rattle.rd_sharing.proofs.RealLemmas.{one_opened}
use Rattle.rd_sharing.proofs.real.RealDrive.open.Goals as goal

pub returns-in_ok-new-in-Ok-open-clause-opened : goal.returns-in_ok-new-in-Ok-open-clause-opened
returns-in_ok-new-in-Ok-open-clause-opened g c =
    one_opened g.D.F.Folder.nodes g.D.F.Folder.faults c.in-Ok-open.folder _ _ _ _ _ c.in_ok-new-in-Ok-open.ensures (c.in_ok-label.ensures ∙ ap (λ (d : Declared). d.name) c.self.view_is)
    c.in-Ok-open.ensures.faultless c.in-Ok-open.ensures.opens c.in-Ok-open.ensures.whole
