use Rattle.std.proofs.Common.{◌∙◌, length, ap}
use Rattle.rd_audit.specs.declared.course.Courses.TheInside.{Inside}
use Rattle.rd_audit.specs.contracts.course.Courses.{the_view}
use Rattle.rd_audit.specs.Kept.{with_course}
use Rattle.rd_audit.proofs.CourseLemmas.{none_view, past_test, put_view}
use Rattle.rd_audit.proofs.course.Courses.put.Goals as goal
use Rattle.rd_audit.proofs.course.Courses.put.Goals.{in-Some, in_default}

pub returns : goal.returns
returns c =
    let channel = c.args.channel in
    let channels = c.self.inside.channels.items in
    elim c.match-get_mut.branch [
      | in-Some w ↦
          ap (λ (i : Inside). the_view i) w.self-inside-is
          ∙ put_view channels channel c.args.index c.args.course w.in-Some.courses.now w.put_at.new.courses w.in-Some.ensures.item.3.0 w.in-Some.ensures.value w.put_at.ensures
          ∙ ap (with_course channel c.args.index c.args.course) c.self.view_is
      | in_default w ↦
          ap (λ (i : Inside). the_view i) w.self-inside-is
          ∙ none_view channels channel c.args.index c.args.course (past_test channel (length channels) w.in_default.ensures.item.0)
          ∙ ap (with_course channel c.args.index c.args.course) c.self.view_is
    ]
