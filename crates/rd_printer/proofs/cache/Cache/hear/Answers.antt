use Rattle.std.proofs.Common.{◌∙◌, ap, sym}
use Rattle.rd_printer.specs.Cache.{by_bytes, forgetting, heard}
use Rattle.rd_printer.proofs.CacheLemmas.{seen_removed}
use Rattle.rd_printer.proofs.cache.Cache.hear.Goals as goal

pub returns-in-Delete : goal.returns-in-Delete
returns-in-Delete c =
    ap by_bytes c.remove.ensures.entries
    ∙ seen_removed c.as_slice-in-Delete.result.now c.self.inside.kept.entries
    ∙ (λ i. forgetting (c.self.view_is i) (c.as_slice-in-Delete.ensures i))
    ∙ sym (ap (heard c.args.self.now) c.in-Delete.is)
