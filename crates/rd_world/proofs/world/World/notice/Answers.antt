use Rattle.std.proofs.Common.{sym, ◌∙◌}
use Rattle.std.proofs.lemmas.Result.{on_ok_weaker}
use Rattle.rd_world.specs.Run.{notice_of}
use Rattle.rd_world.proofs.PlayingLemmas.{noticed}
use Rattle.rd_world.proofs.world.World.notice.Goals as goal

pub returns-in-Some-clause-told : goal.returns-in-Some-clause-told
returns-in-Some-clause-told c =
    on_ok_weaker c.by_event.result
    (λ done starves most agrees. noticed starves most c.args.self.now c.by_event.new.self c.args.line.now.number c.in-Some.notice (notice_of c.args.line.now.line) (sym c.in_ok-notice.ensures.notice ∙ c.in-Some.is) (done starves most agrees))
    c.by_event.ensures.came
