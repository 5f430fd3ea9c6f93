use Rattle.std.proofs.Common.{arith}
use Rattle.rd_client.specs.Heard.{is_in_list}
use Rattle.rd_client.proofs.ListingLemmas.{count_less}
use Rattle.rd_client.proofs.listing.count_of_told.Goals as goal

pub overflow_add-count : goal.overflow_add-count
overflow_add-count c = omega (arith, count_less (is_in_list c.args.gone.now c.args.only) c.args.devices.now c.loop-announce.announce-index c.loop-announce-test.true)
