use Rattle.std.proofs.Common.{sym, subst, ◌∙◌}
use Rattle.rd_audit.specs.declared.course.Course.{Course}
use Rattle.rd_audit.specs.Kept.{Changes}
use Rattle.rd_audit.proofs.CourseLemmas.{changes_put}
use Rattle.rd_audit.proofs.course.Courses.give.Goals as goal

pub returns-in-Some-at : goal.returns-in-Some-at
returns-in-Some-at c =
    let change = λ (x : Course). record x { given = c.args.given } in
    subst (Changes c.args.key change c.args.self.now) (sym c.put.ensures)
    (changes_put c.args.self.now c.args.key change c.in-Some.channel c.in-Some.index c.in-Some-at.course (sym c.key_places.ensures ∙ c.in-Some.is) (sym c.at.ensures ∙ c.in-Some-at.is))
