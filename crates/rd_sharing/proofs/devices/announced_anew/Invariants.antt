use Rattle.std.proofs.Common.{◌≡◌, ◌++◌}
use Rattle.std.specs.Prelude.{All}
use Rattle.rd_client.specs.Events.{IsWritableDevice}
use Rattle.rd_sharing.proofs.devices.announced_anew.Given as goal

-- the announcements so far
abbrev pub invariant-loop-announce : goal.invariant-loop-announce
invariant-loop-announce l = record {
  so_far : l.announced.items ++ l.announce-iterator.rest.items ≡ l.fn.list;
  writable : All IsWritableDevice l.announced.items;
}
