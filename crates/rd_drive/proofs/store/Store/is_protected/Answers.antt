use Rattle.std.proofs.Common.{◌∙◌}
use Rattle.rd_drive.proofs.ProtectedLemmas.{protected_is}
use Rattle.rd_drive.proofs.store.Store.is_protected.Goals as goal

pub returns : goal.returns
returns c =
    let s = c.args.self.now in
    c.any_of.ensures
    ∙ protected_is s c.requires.sound c.ordered.ensures c.args.node.0 c.requires.live c.is_folder-folder.result c.is_folder-folder.ensures.bytes c.state-state.result c.state-state.ensures c.is_readonly-readonly.result c.is_readonly-readonly.ensures
