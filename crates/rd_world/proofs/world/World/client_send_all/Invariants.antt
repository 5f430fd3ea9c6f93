use Rattle.std.proofs.Common.{◌≡◌, Bool}
use Rattle.rd_base.specs.declared.journal.Key.{Key}
use Rattle.rd_world.specs.Run.{all_client_sends}
use Rattle.rd_world.specs.Wire.{StaysRecorded}
use Rattle.rd_world.proofs.RoundsLemmas.{client_count}
use Rattle.rd_world.proofs.world.World.client_send_all.Given as goal

-- what is still to be sent is sent from here
abbrev pub invariant-sending : goal.invariant-sending
invariant-sending l = record {
  reached : (starves : Key → Bool) → all_client_sends starves l.initial.self ≡ all_client_sends starves l.self;
  recorded : StaysRecorded l.initial.self l.initial.recorder l.self l.recorder;
}

abbrev pub decreases-sending : goal.decreases-sending
decreases-sending l = client_count l.self
