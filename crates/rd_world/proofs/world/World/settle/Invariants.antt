use Rattle.std.proofs.Common.{◌≡◌, ℕ, ◌+◌, Bool}
use Rattle.rd_base.specs.declared.journal.Key.{Key}
use Rattle.rd_declared.specs.Marks.{AreLonger, MarksAgree}
use Rattle.rd_world.specs.Run.{settled}
use Rattle.rd_world.specs.Wire.{Records}
use Rattle.rd_world.specs.World.{journals_in}
use Rattle.rd_world.proofs.world.World.settle.Given as goal

-- So many draws lead from the beginning to here: what settles from here settles from there. What was recorded on the way was written, or is gathered.
abbrev pub invariant-settling : goal.invariant-settling
invariant-settling g l = record {
  reached : (k : ℕ) × ((most : ℕ) (starves : Key → Bool) → MarksAgree starves (journals_in l.self) → settled starves (k + most) l.initial.self ≡ settled starves most l.self);
  longer : AreLonger (journals_in l.initial.self) (journals_in l.self);
  records : Records (g.R.Sink.held l.initial.wire) (g.R.Sink.held l.wire) l.initial.self l.initial.recorder l.self l.recorder;
  counted : g.R.Sink.faults l.wire ≡ g.R.Sink.faults l.initial.wire;
}
