use Rattle.rd_folder_drive.proofs.HoldLemmas.{first_undone}
use Rattle.rd_folder_drive.proofs.table.Table.hold_first.Goals as goal

pub returns-clause-err : goal.returns-clause-err
returns-clause-err c =
    first_undone c.args.self.now c.requires.sound c.args.asked c.next_file-file.result c.next_file-file.ensures c.next_file-file.result c.add_handle.new.self c.in-Ok.ensures.added
    c.insert.new.self c.in-Err-insert.ensures.err c.insert.ensures.ordered c.remove.new.self c.remove.ensures.entries c.remove.ensures.ordered
