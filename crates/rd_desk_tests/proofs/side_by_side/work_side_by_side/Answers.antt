use Rattle.std.proofs.Common.{◌≡◌, ◌∙◌, ℕ, suc, ap, refl, length, sym, subst, rules, arith}
use Rattle.std.specs.Prelude.{Contains}
use Rattle.rd_turn.specs.History.{calls_of}
use Rattle.rd_turn.specs.Pass.{IsSamePass}
use Rattle.rd_turn.proofs.HistoryLemmas.{GoesOn-joined}
use Rattle.rd_desk.specs.Own.{GivesOwnBack}
use Rattle.rd_desk_tests.proofs.side_by_side.work_side_by_side.Goals as goal

pub returns-clause-one_gives : goal.returns-clause-one_gives
returns-clause-one_gives g c =
    let r = c.join-one.result.0 in
    let same : IsSamePass c.split-one.result r = search rules in
    let gives : GivesOwnBack (calls_of r.number r.seen) = search rules in
    let number : r.number ≡ suc c.args.pass.made = same.0 ∙ ap (λ p. p.number) c.split-one.ensures.given in
    let first : c.join.new.pass.number ≡ 0 = c.join.ensures.counts.0 in
    let n = length (calls_of r.number r.seen) in
    let stays = GoesOn-joined c.join.new.pass c.join-2.new.pass r.number n first (subst (λ js. Contains js (r.number, n)) (sym c.join.ensures.joined) (0, omega arith, refl)) c.join-2.ensures.goes_on in
    subst (λ (n : ℕ). GivesOwnBack (calls_of n c.join-2.new.pass.seen)) number (subst GivesOwnBack (sym (stays ∙ c.join.ensures.other_calls)) gives)

pub returns-clause-two_gives : goal.returns-clause-two_gives
returns-clause-two_gives g c =
    let r = c.join-one.result.1 in
    let same : IsSamePass c.split-two.result r = search rules in
    let gives : GivesOwnBack (calls_of r.number r.seen) = search rules in
    let number : r.number ≡ suc (suc c.args.pass.made) = same.0 ∙ (ap (λ p. p.number) c.split-two.ensures.given ∙ ap (λ p. suc p.made) c.split-one.ensures.kept) in
    subst (λ (n : ℕ). GivesOwnBack (calls_of n c.join-2.new.pass.seen)) number (subst GivesOwnBack (sym c.join-2.ensures.other_calls) gives)
