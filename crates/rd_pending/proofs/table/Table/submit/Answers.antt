use Rattle.std.proofs.Common.{◌∙◌, ◌+◌, ap}
use Rattle.rd_pending.specs.contracts.table.Table.{the_view}
use Rattle.rd_pending.specs.Table.{TableState}
use Rattle.rd_pending.proofs.SubmitLemmas.{accepted}
use Rattle.rd_pending.proofs.table.Table.submit.Goals as goal

pub returns : goal.returns
returns c =
    accepted c.args.self.now (the_view c.self-2.inside) c.hold.new.self c.args.app c.args.named c.args.op c.in_ok-place.place (c.self.inside.count + 1) c.device_in-device.result c.file_in.result
    c.kind_of-kind.result c.new.result c.in-Ok.message c.requires c.in_ok-place.ensures.ok (ap (λ (t : TableState). t.count + 1) c.self.view_is) c.device_in-device.ensures c.file_in.ensures
    c.kind_of-kind.ensures c.new.ensures c.in-Ok.ensures.written (c.self-2.view_is ∙ c.in-Ok-keep.ensures.ok) c.hold.ensures
