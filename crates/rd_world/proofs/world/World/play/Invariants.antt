use Rattle.std.proofs.Common.{◌≡◌, take}
use Rattle.rd_world.specs.Stations.{AreStations}
use Rattle.rd_world.specs.Wire.{Records}
use Rattle.rd_world.proofs.PlayingLemmas.{PlaysTo}
use Rattle.rd_world.proofs.world.World.play.Given as goal

-- the lines so far are played, and what was recorded is written or gathered
abbrev pub invariant-loop-line : goal.invariant-loop-line
invariant-loop-line g l = record {
  played : PlaysTo (take l.line-index l.lines) l.initial.self l.self;
  stand : AreStations l.self.stations;
  records : Records (g.R.Sink.held l.initial.wire) (g.R.Sink.held l.wire) l.initial.self l.initial.recorder l.self l.recorder;
  counted : g.R.Sink.faults l.wire ≡ g.R.Sink.faults l.initial.wire;
}
