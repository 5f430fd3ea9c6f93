use Rattle.std.proofs.Common.{◌∙◌}
use Rattle.rd_folder_drive.proofs.TellingLemmas.{told_whole}
use Rattle.rd_folder_drive.proofs.telling.told_bytes.Goals as goal

pub returns : goal.returns
returns c =
    c.of.ensures
    ∙ told_whole c.args.action c.args.names.now c.args.room.items c.put_u32.new.out.items c.put_u32-2.new.out.items c.put_u32-3.new.out.items c.put_joined.new.out.items c.joined_len.result
    c.requires.empty c.put_u32.ensures.bytes c.put_u32-2.ensures.bytes c.put_u32-3.ensures.bytes c.put_joined.ensures.bytes c.joined_len.ensures
