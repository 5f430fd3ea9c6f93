use Rattle.std.proofs.Common.{◌∙◌, ap, refl}
use Rattle.std.proofs.lemmas.Result.{on_ok_weaker}
use Rattle.rd_script.specs.declared.line.Errand.{Errand}
use Rattle.rd_script.specs.declared.line.Errand.TheVariants as errands
use Rattle.rd_script.specs.declared.line.Line.TheVariants as lines
use Rattle.rd_world.specs.Events.{apply_job, collect, issue, take_job}
use Rattle.rd_world.specs.Run.{controls}
use Rattle.rd_world.proofs.PlayingLemmas.{did_event}
use Rattle.rd_world.proofs.world.World.errand.Goals as goal

pub returns-in-Issue-clause-done : goal.returns-in-Issue-clause-done
returns-in-Issue-clause-done c =
    on_ok_weaker c.by_event.result
    (λ done starves most agrees. ap (λ (e : Errand). controls starves most c.args.self.now c.args.number (lines.Do e)) c.in-Issue.is
    ∙ did_event starves most c.args.self.now c.by_event.new.self c.args.number (errands.Issue c.in-Issue.application) (issue c.in-Issue.application) refl refl (done starves most agrees))
    c.by_event.ensures.came

pub returns-in-Take-clause-done : goal.returns-in-Take-clause-done
returns-in-Take-clause-done c =
    on_ok_weaker c.by_event-in-Take.result
    (λ done starves most agrees. ap (λ (e : Errand). controls starves most c.args.self.now c.args.number (lines.Do e)) c.in-Take.is
    ∙ did_event starves most c.args.self.now c.by_event-in-Take.new.self c.args.number (errands.Take c.in-Take.device c.in-Take.hand) (take_job c.in-Take.device c.in-Take.hand) refl refl (done starves most agrees))
    c.by_event-in-Take.ensures.came

pub returns-in-Apply-clause-done : goal.returns-in-Apply-clause-done
returns-in-Apply-clause-done c =
    on_ok_weaker c.by_event-in-Apply.result
    (λ done starves most agrees. ap (λ (e : Errand). controls starves most c.args.self.now c.args.number (lines.Do e)) c.in-Apply.is
    ∙ did_event starves most c.args.self.now c.by_event-in-Apply.new.self c.args.number (errands.Apply c.in-Apply.hand) (apply_job c.in-Apply.hand) refl refl (done starves most agrees))
    c.by_event-in-Apply.ensures.came

pub returns-in-Collect-clause-done : goal.returns-in-Collect-clause-done
returns-in-Collect-clause-done c =
    on_ok_weaker c.by_event-in-Collect.result
    (λ done starves most agrees. ap (λ (e : Errand). controls starves most c.args.self.now c.args.number (lines.Do e)) c.in-Collect.is
    ∙ did_event starves most c.args.self.now c.by_event-in-Collect.new.self c.args.number (errands.Collect c.in-Collect.device) (collect c.in-Collect.device) refl refl (done starves most agrees))
    c.by_event-in-Collect.ensures.came

pub returns-in-Send-clause-done : goal.returns-in-Send-clause-done
returns-in-Send-clause-done c =
    on_ok_weaker c.send.result
    (λ done starves most agrees. ap (λ (e : Errand). controls starves most c.args.self.now c.args.number (lines.Do e)) c.in-Send.is ∙ done starves most)
    c.send.ensures.done

pub returns-in-Read-clause-done : goal.returns-in-Read-clause-done
returns-in-Read-clause-done c =
    on_ok_weaker c.read.result
    (λ done starves most agrees. ap (λ (e : Errand). controls starves most c.args.self.now c.args.number (lines.Do e)) c.in-Read.is ∙ done starves most)
    c.read.ensures.done

pub returns-in-Answer-clause-done : goal.returns-in-Answer-clause-done
returns-in-Answer-clause-done c =
    on_ok_weaker c.answer.result
    (λ done starves most agrees. ap (λ (e : Errand). controls starves most c.args.self.now c.args.number (lines.Do e)) c.in-Answer.is ∙ done starves most)
    c.answer.ensures.done

pub returns-in-Back-clause-done : goal.returns-in-Back-clause-done
returns-in-Back-clause-done c =
    on_ok_weaker c.read_back.result
    (λ done starves most agrees. ap (λ (e : Errand). controls starves most c.args.self.now c.args.number (lines.Do e)) c.in-Back.is ∙ done starves most)
    c.read_back.ensures.done
