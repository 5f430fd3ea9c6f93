use Rattle.rd_audit_file.proofs.LineLemmas.{begins_once}
use Rattle.rd_audit_file.proofs.laws.texts_begin_with_one_line.Goals as goal

pub returns : goal.returns
returns c = λ line other rest left one two. begins_once c.args.text.now line other rest left one two
