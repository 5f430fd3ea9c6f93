use Rattle.std.proofs.Common.{sym, subst}
use Rattle.std.specs.List.{AllByRecursion}
use Rattle.rd_sharing.specs.FolderLines.{IsFolderDevice}
use Rattle.rd_sharing.proofs.OrderLemmas.{all_with}
use Rattle.rd_sharing.proofs.RealLemmas.{real_device}
use Rattle.rd_sharing.proofs.real.add_real.Goals as goal

pub returns-clause-are : goal.returns-clause-are
returns-clause-are c =
    subst (AllByRecursion IsFolderDevice) (sym c.in_ok-insert.ensures.entries)
    (all_with IsFolderDevice c.args.id c.in_ok-drive.drive c.args.drives.now.entries (real_device c.args.id c.args.name.now c.in_ok-drive.drive c.in_ok-drive.ensures.made c.in_ok-drive.ensures.short) c.requires)
