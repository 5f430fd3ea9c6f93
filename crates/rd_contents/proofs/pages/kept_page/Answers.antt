use Rattle.std.proofs.Common.{sym, ◌∙◌}
use Rattle.rd_contents.proofs.PageLemmas.{kept_page-found, kept_page-none}
use Rattle.rd_contents.proofs.pages.kept_page.Goals as goal

pub returns-in-Some : goal.returns-in-Some
returns-in-Some c = c.as_slice.ensures.value ∙ sym (kept_page-found c.args.pages.now.entries c.args.number c.in-Some.page.now (sym c.in-Some.ensures.value))

pub returns-in-None : goal.returns-in-None
returns-in-None c = sym (kept_page-none c.args.pages.now.entries c.args.number (sym c.in-None.ensures.value))
