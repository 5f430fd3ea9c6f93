use Rattle.rd_drive.proofs.CutLemmas.{first_closed, first_none, first_sound}
use Rattle.rd_drive.proofs.store.Store.close_first.Goals as goal

pub returns-in-Some-clause-sound : goal.returns-in-Some-clause-sound
returns-in-Some-clause-sound c =
    first_sound c.args.self.now c.close.new.self c.requires.sound c.requires.none c.in-Some.file.now c.in-Some.field-0-1.now c.in-Some.ensures.first c.close.result c.close.ensures.serves c.close.ensures.fed

pub returns-in-Some-clause-closed : goal.returns-in-Some-clause-closed
returns-in-Some-clause-closed c =
    first_closed c.args.self.now c.close.new.self c.requires.sound c.requires.none c.in-Some.file.now c.in-Some.field-0-1.now c.in-Some.ensures.first c.close.result c.close.ensures.serves c.close.ensures.fed

pub returns-in-Some-clause-none : goal.returns-in-Some-clause-none
returns-in-Some-clause-none c =
    first_none c.args.self.now c.close.new.self c.requires.sound c.requires.none c.in-Some.file.now c.in-Some.field-0-1.now c.in-Some.ensures.first c.close.result c.close.ensures.serves c.close.ensures.fed
