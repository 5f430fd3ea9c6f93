use Rattle.rd_fileinfo.proofs.WrittenLemmas.{set_info_spelled}
use Rattle.rd_fileinfo.proofs.set_info.put_set_info.Goals as goal

pub returns-clause-spelled : goal.returns-clause-spelled
returns-clause-spelled c = set_info_spelled c.args.info.now c.requires c.in_ok-append_set_info.ensures.in_range
