use Rattle.std.proofs.Common.{◌≡◌, ◌++◌, ◌∷◌, [], ap, ◌∙◌, subst, rules}
use Rattle.rd_turn.specs.History.{entry, calls_of}
use Rattle.rd_turn.specs.Pass.{IsSamePass}
use Rattle.rd_turn.proofs.HistoryLemmas.{GoesOn-own}
use Rattle.rd_turn_tests.specs.Calls.{HasMade}
use Rattle.rd_turn_tests.proofs.side_by_side.call_side_by_side.Goals as goal

pub returns-clause-own_calls : goal.returns-clause-own_calls
returns-clause-own_calls g c =
    let p = c.split-second.new.pass in
    let r = c.join-first_reply.result.0 in
    let same : IsSamePass p r.1 = search rules in
    let made : HasMade p c.args.own r.0 r.1 = search rules in
    let first : p.number ≡ 0 = ap (λ q. q.number) c.split-second.ensures.kept ∙ c.requires.first in
    let joined = subst (λ n. calls_of n c.join.new.pass.seen ≡ calls_of n r.1.seen) (same.0 ∙ first) (GoesOn-own r.1 c.join.new.pass c.join.ensures.goes_on) in
    let called = subst (λ n. calls_of n r.1.seen ≡ calls_of n p.seen ++ entry n c.args.own r.0 ∷ []) first made in
    joined ∙ (called ∙ ap (λ q. calls_of 0 q.seen ++ entry 0 c.args.own r.0 ∷ []) c.split-second.ensures.kept)

pub returns-clause-other_calls : goal.returns-clause-other_calls
returns-clause-other_calls g c =
    let p = c.split-second.result in
    let r = c.join-first_reply.result.1 in
    let same : IsSamePass p r.1 = search rules in
    let made : HasMade p c.args.other r.0 r.1 = search rules in
    let joined = subst (λ n. calls_of n c.join.new.pass.seen ≡ calls_of n r.1.seen) same.0 c.join.ensures.other_calls in
    let called = made ∙ ap (λ l. l ++ entry p.number c.args.other r.0 ∷ []) c.split-second.ensures.fresh in
    subst (λ n. calls_of n c.join.new.pass.seen ≡ entry n c.args.other r.0 ∷ []) (ap (λ q. q.number) c.split-second.ensures.given) (joined ∙ called)
