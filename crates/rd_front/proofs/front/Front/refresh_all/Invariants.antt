use Rattle.std.proofs.Common.{◌≡◌}
use Rattle.rd_front.specs.Front.{RefreshesOne}
use Rattle.rd_front.proofs.EachLemmas.{EachOn}
use Rattle.rd_front.proofs.front.Front.refresh_all.Given as goal

-- those that are left come to what all come to
abbrev pub invariant-loop-place : goal.invariant-loop-place
invariant-loop-place g l = record {
  on : EachOn RefreshesOne l.fn.self.printers l.place l.fn.self l.self;
  printers : l.self.printers ≡ l.fn.self.printers;
}
