use Rattle.std.proofs.Common.{◌∙◌, ap}
use Rattle.std.specs.Map.{lookup}
use Rattle.std.specs.BTreeMap.{is_at}
use Rattle.rd_printer.specs.Cache.{kept_for}
use Rattle.rd_printer.proofs.CacheLemmas.{seen_lookup, to_printer_name}
use Rattle.rd_printer.proofs.cache.Cache.get.Goals as goal

pub returns : goal.returns
returns c =
    c.get.ensures.value
    ∙ ap (λ name. lookup (is_at (to_printer_name name)) c.self.inside.kept.entries) c.as_slice.ensures
    ∙ seen_lookup c.args.name.now c.self.inside.kept.entries
    ∙ ap (λ cache. kept_for cache c.args.name.now) c.self.view_is
