use Rattle.rd_folder_drive.proofs.CutLemmas.{cancelled_sound}
use Rattle.rd_folder_drive.proofs.table.Table.cancel_all.Goals as goal

pub returns-clause-sound : goal.returns-clause-sound
returns-clause-sound c = cancelled_sound c.args.self.now c.requires.sound c.give_back_all.new.self c.give_back_all.ensures c.clear.new.self c.clear.ensures.items c.clear.ensures.capacity
