use Rattle.std.proofs.Common.{◌≡◌, ◌≤◌, ℕ, length, get_or, take}
use Rattle.std.specs.List.{AllZip}
use Rattle.rd_front.specs.Front.{EndsBy, end_call}
use Rattle.rd_front.specs.State.{DeviceDeskState}
use Rattle.rd_front.proofs.ending.end_desks.Given as goal

-- those before the place were told, and the others are as they were
abbrev pub invariant-loop-place : goal.invariant-loop-place
invariant-loop-place g l = record {
  told : AllZip (EndsBy (end_call l.over)) (take l.place l.fn.desks) (take l.place l.desks);
  others : (j : ℕ) (d : DeviceDeskState) → l.place ≤ j → get_or l.desks j d ≡ get_or l.fn.desks j d;
  same : length l.desks ≡ length l.fn.desks;
}
