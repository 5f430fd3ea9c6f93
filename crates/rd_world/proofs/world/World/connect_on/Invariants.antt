use Rattle.std.proofs.Common.{◌≡◌, ◌+◌, ℕ, Bool}
use Rattle.rd_base.specs.declared.journal.Key.{Key}
use Rattle.rd_world.specs.Events.{connects}
use Rattle.rd_world.specs.Run.{rounds}
use Rattle.rd_world.specs.Wire.{StaysRecorded}
use Rattle.rd_world.proofs.world.World.connect_on.Given as goal

-- So many rounds lead from the begin to here: the rounds from here are those from there.
abbrev pub invariant-rounds : goal.invariant-rounds
invariant-rounds l = record {
  reached : (k : ℕ) × ((most : ℕ) (starves : Key → Bool) → rounds starves (k + most) (connects l.fn.self) ≡ rounds starves most l.self);
  recorded : StaysRecorded l.fn.self l.fn.recorder l.self l.recorder;
}
