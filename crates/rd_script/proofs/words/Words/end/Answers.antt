use Rattle.std.proofs.Common.{◌∙◌, sym}
use Rattle.rd_script.proofs.WordLemmas.{left_some}
use Rattle.rd_script.proofs.words.Words.end.Goals as goal

pub returns-then-is_some : goal.returns-then-is_some
returns-then-is_some c = cc (left_some c.self.inside.left (sym c.is_some.ensures ∙ c.if-is_some.true), c.self.view_is)
