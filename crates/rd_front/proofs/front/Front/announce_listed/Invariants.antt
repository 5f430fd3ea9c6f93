use Rattle.std.proofs.Common.{◌≡◌}
use Rattle.rd_front.specs.Front.{AnnouncesOne}
use Rattle.rd_front.proofs.EachLemmas.{EachOn}
use Rattle.rd_front.proofs.front.Front.announce_listed.Given as goal

-- those that are left come to what all come to
abbrev pub invariant-loop-place : goal.invariant-loop-place
invariant-loop-place g l = record {
  on : EachOn AnnouncesOne l.fn.self.client.devices l.place l.fn.self l.self;
  client : l.self.client ≡ l.fn.self.client;
}
