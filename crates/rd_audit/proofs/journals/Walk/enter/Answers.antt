use Rattle.std.proofs.Common.{◌≡◌, ℕ, ◌+◌, true, Some, refl, sym, ap, subst, ◌∙◌, rules}
use Rattle.std.specs.Prelude.{◌==◌, if◌then◌else◌}
use Rattle.rd_base.specs.declared.journal.Key.{Key}
use Rattle.rd_audit.specs.Kept.{KeepsCourses, counted_in}
use Rattle.rd_audit.specs.Replayed.{course_after}
use Rattle.rd_audit.proofs.WalkLemmas.{some_entered, standing_of}
use Rattle.rd_audit.proofs.journals.Walk.enter.Goals as goal

-- src/journals.rt:119:5
pub returns-clause-entered : goal.returns-clause-entered
returns-clause-entered c p most s done =
    let was : c.args.self.now.replay ≡ Some c.in-Some.replay = search rules in
    let st = standing_of c.args.channels.now p most c.args.self.now c.in-Some.replay was s in
    let d = st.0 in
    let t = c.in_ok-take.ensures.taken d st.2 in
    let agreed : c.in_ok-take.field-0 ≡ true = search rules in
    let of_it : c.id.result ≡ d.device = search rules in
    let counted : c.count.result ≡ d.count + 1 = c.count.ensures ∙ c.in_ok-take.ensures.count ∙ ap (λ (n : ℕ). n + 1) st.2.count in
    some_entered c.args.channels.now p d most c.args.entry c.args.self.now _ c.take.new.self s st.1 st.3 refl refl (t.stands agreed)
    (subst (λ kept. KeepsCourses c.args.channels.now (λ (key : Key). course_after c.args.channels.now d c.args.entry key (p.account.courses key)) kept) (sym c.in_ok-count.ensures.courses) (t.keeps agreed p.account.courses s.keeps.courses))
    (λ device. c.in_ok-count.ensures.counts device
    ∙ ap (λ (i : ℕ). if i == device then c.count.result else counted_in c.args.self.now.replayed device) of_it
    ∙ ap (λ (n : ℕ). if d.device == device then n else counted_in c.args.self.now.replayed device) counted)
