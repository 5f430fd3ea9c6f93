use Rattle.std.proofs.Common.{◌≡◌, ◌≤◌, ◌++◌, take, vec_capacity}
use Rattle.std.specs.Prelude.{filter}
use Rattle.std.specs.List.{flat_map}
use Rattle.rd_devices.specs.DeviceList.{announce_bytes}
use Rattle.rd_client.specs.Heard.{is_in_list}
use Rattle.rd_client.proofs.listing.put_told.Given as goal

abbrev pub invariant-loop-announce : goal.invariant-loop-announce
invariant-loop-announce l = record {
  bytes : l.out.items ≡ l.initial.out.items ++ flat_map announce_bytes (filter (is_in_list l.gone l.only) (take l.announce-index l.devices));
  room : vec_capacity l.initial.out ≤ vec_capacity l.out;
}
