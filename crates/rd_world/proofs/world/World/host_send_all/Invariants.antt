use Rattle.std.proofs.Common.{◌≡◌, Bool}
use Rattle.rd_base.specs.declared.journal.Key.{Key}
use Rattle.rd_world.specs.Run.{all_host_sends, host_count}
use Rattle.rd_world.specs.Wire.{StaysRecorded}
use Rattle.rd_world.proofs.world.World.host_send_all.Given as goal

-- what is still to be sent is sent from here
abbrev pub invariant-sending : goal.invariant-sending
invariant-sending l = record {
  reached : (starves : Key → Bool) → all_host_sends starves l.initial.self ≡ all_host_sends starves l.self;
  recorded : StaysRecorded l.initial.self l.initial.recorder l.self l.recorder;
}

abbrev pub decreases-sending : goal.decreases-sending
decreases-sending l = host_count l.self
