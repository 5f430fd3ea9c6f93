use Rattle.std.proofs.Common.{◌≡◌, ◌∙◌, sym, Some, None}
use Rattle.rd_folder_drive.proofs.FoundLemmas.{at_path, pending_found, pending_none}
use Rattle.rd_folder_drive.proofs.table.Table.is_pending_at.Goals as goal

pub returns-in-Some-opened : goal.returns-in-Some-opened
returns-in-Some-opened c =
    let t = c.args.self.now in
    pending_found t c.requires.sound c.args.path.now c.in-Some.node c.in-Some-opened.opened.now (at_path t c.requires.sound.rising.0 c.args.path.now (Some c.in-Some.node) c.in-Some.ensures) (sym c.in-Some-opened.ensures)

pub returns-in-None-opened : goal.returns-in-None-opened
returns-in-None-opened c =
    let at = at_path c.args.self.now c.requires.sound.rising.0 c.args.path.now (Some c.in-Some.node) c.in-Some.ensures in
    absurd (let clash : None ≡ Some at.0 = c.in-None-opened.ensures ∙ at.1 in cc)

pub returns-in-None : goal.returns-in-None
returns-in-None c =
    let t = c.args.self.now in
    pending_none t c.requires.sound c.args.path.now (at_path t c.requires.sound.rising.0 c.args.path.now None c.in-None.ensures)
