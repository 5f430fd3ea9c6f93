use Rattle.std.proofs.Common.{◌∙◌, ap, sym}
use Rattle.std.specs.Prelude.{◌==◌}
use Rattle.std.specs.List.{list_any}
use Rattle.rd_devices.specs.declared.list.Announce.{Announce}
use Rattle.rd_client.proofs.MarkLemmas.{any_same}
use Rattle.rd_client.proofs.client_core.ClientCore.has_device.Goals as goal

pub returns : goal.returns
returns c =
    rw (← c.self.view_is)
    (c.is_among.ensures ∙ ap (λ ds. list_any (λ (a : Announce). a.id == c.args.device) ds) c.as_slice.ensures.value ∙ sym (any_same c.self.inside.gone c.args.device c.self.inside.devices.items))
