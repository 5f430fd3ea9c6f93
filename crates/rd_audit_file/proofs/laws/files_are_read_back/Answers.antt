use Rattle.rd_audit_file.proofs.FileLemmas.{read_back}
use Rattle.rd_audit_file.proofs.laws.files_are_read_back.Goals as goal

pub returns : goal.returns
returns c = read_back c.args.script.now c.args.text.now c.args.recording.now c.requires.script c.requires.text
