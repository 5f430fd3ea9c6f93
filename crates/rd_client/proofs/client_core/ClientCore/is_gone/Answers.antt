use Rattle.std.proofs.Common.{◌∙◌, ap, sym}
use Rattle.std.specs.BTreeSet.{contains}
use Rattle.std.specs.List.{list_any}
use Rattle.std.specs.Ordering.{nat_cmp}
use Rattle.std.specs.Prelude.{◌==◌, ◌&&◌}
use Rattle.rd_devices.specs.declared.list.Announce.{Announce}
use Rattle.rd_client.proofs.MarkLemmas.{gone_is}
use Rattle.rd_client.proofs.client_core.ClientCore.is_gone.Goals as goal

pub returns : goal.returns
returns c =
    let there = c.is_among-there.ensures ∙ ap (λ ds. list_any (λ (a : Announce). a.id == c.args.device) ds) c.as_slice.ensures.value in
    rw (← c.self.view_is)
    (ap (λ b. b && c.is_among-there.result) c.contains-removed.ensures ∙ ap (λ b. contains nat_cmp c.self.inside.gone c.args.device && b) there
    ∙ sym (gone_is c.self.inside.gone c.args.device c.self.inside.devices.items))
