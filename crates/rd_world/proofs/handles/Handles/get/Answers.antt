use Rattle.std.proofs.Common.{◌∙◌, ap, List, ℕ}
use Rattle.std.specs.Map.{lookup}
use Rattle.std.specs.BTreeMap.{is_at}
use Rattle.rd_pending.specs.declared.calls.Handle.{Handle}
use Rattle.rd_printer.specs.Cache.{bytes_cmp}
use Rattle.rd_world.proofs.NamesLemmas.{seen_lookup}
use Rattle.rd_world.proofs.handles.Handles.get.Goals as goal

pub returns : goal.returns
returns c =
    let name = c.args.name.now in
    c.copied.ensures ∙ c.get.ensures.value
    ∙ seen_lookup name c.self.inside.files.entries
    ∙ ap (λ (handles : List (List ℕ × Handle)). lookup (is_at (bytes_cmp name)) handles) c.self.view_is
