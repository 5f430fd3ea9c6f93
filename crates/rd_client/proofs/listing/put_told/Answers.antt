use Rattle.std.proofs.Common.{◌∙◌, ap, arith, length, length-append, sym}
use Rattle.rd_devices.specs.DeviceList.{announce_bytes}
use Rattle.rd_client.specs.Heard.{is_in_list}
use Rattle.rd_client.proofs.ListingLemmas.{next_fits}
use Rattle.rd_client.proofs.listing.put_told.Goals as goal

pub put-requires-clause-room : goal.put-requires-clause-room
put-requires-clause-room c =
    let written = simp length-append at (ap length c.loop-announce.invariant.bytes) in
    let next = next_fits announce_bytes (is_in_list c.args.gone.now c.args.only) c.args.devices.now c.loop-announce.announce-index c.announce-item.result c.loop-announce-test.true c.announce-item.is
    (sym c.is_in_list.ensures ∙ c.if-is_in_list.true) in
    omega (arith, written, next)
