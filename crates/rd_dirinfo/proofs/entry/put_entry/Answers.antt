use Rattle.rd_dirinfo.proofs.WrittenLemmas.{entry_spelled}
use Rattle.rd_dirinfo.proofs.entry.put_entry.Goals as goal

pub returns-clause-spelled : goal.returns-clause-spelled
returns-clause-spelled c = entry_spelled c.args.class c.args.entry.now c.in_ok-append_entry.ensures.listed c.requires c.in_ok-append_entry.ensures.in_range
