use Rattle.rd_fileinfo.proofs.WrittenLemmas.{file_info_spelled}
use Rattle.rd_fileinfo.proofs.file_info.put_file_info.Goals as goal

pub returns-clause-spelled : goal.returns-clause-spelled
returns-clause-spelled c = file_info_spelled c.args.info.now c.in_ok-append_file_info.ensures.in_range
