use Rattle.std.proofs.Common.{sym, ◌∙◌, ap, List, ℕ, length}
use Rattle.rd_contents.proofs.PageLemmas.{length-bytes_from}
use Rattle.rd_contents.proofs.contents.Contents.len.Goals as goal

pub returns-clause-len : goal.returns-clause-len
returns-clause-len c = sym (length-bytes_from c.self.inside.pages.entries 0 c.self.inside.end) ∙ ap (λ (file : List ℕ). length file) c.self.view_is
