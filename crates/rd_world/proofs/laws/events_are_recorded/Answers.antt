use Rattle.rd_world.proofs.RecordedLemmas.{event_recorded}
use Rattle.rd_world.proofs.laws.events_are_recorded.Goals as goal

pub returns : goal.returns
returns c = λ starves w e enabled. event_recorded starves w e
