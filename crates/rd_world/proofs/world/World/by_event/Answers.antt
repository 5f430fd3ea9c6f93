use Rattle.rd_world.specs.Step.{event_in}
use Rattle.rd_world.specs.World.{marks_of}
use Rattle.rd_world.proofs.RoundsLemmas.{event_stays}
use Rattle.rd_world.proofs.SettlingLemmas.{on_ok_two}
use Rattle.rd_world.proofs.world.World.by_event.Goals as goal

pub returns-then-enabled-clause-recorded : goal.returns-then-enabled-clause-recorded
returns-then-enabled-clause-recorded c =
    on_ok_two _ _ _ c.act.result
    (λ marked added. event_stays (marks_of c.act.new.self) c.args.self.now c.act.new.self (event_in c.args.event) c.args.recorder.now c.act.new.recorder marked added)
    c.act.ensures.marked c.act.ensures.recorded
