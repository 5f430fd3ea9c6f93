use Rattle.std.proofs.Common.{◌≡◌, length, take}
use Rattle.std.specs.Prelude.{filter}
use Rattle.rd_client.specs.Heard.{is_in_list}
use Rattle.rd_client.proofs.listing.count_of_told.Given as goal

abbrev pub invariant-loop-announce : goal.invariant-loop-announce
invariant-loop-announce l = l.count ≡ length (filter (is_in_list l.gone l.only) (take l.announce-index l.devices))
