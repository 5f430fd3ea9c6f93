use Rattle.std.proofs.Common.{refl}
use Rattle.rd_folder_drive.proofs.table.Table.add_handle.Goals as goal

pub returns-clause-err : goal.returns-clause-err
returns-clause-err c = record {
  others = refl;
  entries = c.in-Err.ensures.err;
  opens = λ k. refl;
  rising = (c.requires.sound.rising.0, c.insert.ensures.ordered);
}
