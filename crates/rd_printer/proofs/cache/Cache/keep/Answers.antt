use Rattle.std.proofs.Common.{◌∙◌, ap}
use Rattle.rd_printer.specs.Cache.{by_bytes, keeping}
use Rattle.rd_printer.proofs.CacheLemmas.{seen_inserted}
use Rattle.rd_printer.proofs.cache.Cache.keep.Goals as goal

pub returns-clause-ok : goal.returns-clause-ok
returns-clause-ok c =
    let name = c.in_ok-to_vec.ensures.items_if_clones_equal (λ x y e. e) in
    ap by_bytes c.in_ok-insert.ensures.entries
    ∙ seen_inserted c.in_ok-to_vec.field-0 c.in_ok-config.config c.self.inside.kept.entries
    ∙ (λ i. keeping (c.self.view_is i) (name i) (c.in_ok-config.ensures i))
