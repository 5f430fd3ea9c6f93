use Rattle.rd_fileinfo.proofs.WrittenLemmas.{volume_spelled}
use Rattle.rd_fileinfo.proofs.volume_info.put_volume.Goals as goal

pub returns-clause-spelled : goal.returns-clause-spelled
returns-clause-spelled c = volume_spelled c.args.info.now c.requires c.in_ok-append_volume.ensures.in_range
