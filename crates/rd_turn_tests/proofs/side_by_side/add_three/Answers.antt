use Rattle.std.proofs.Common.{◌≡◌, ◌≤◌, ◌++◌, ◌∷◌, [], All, suc, ap, ◌∙◌, subst}
use Rattle.rd_turn.specs.History.{Leads, entry, calls_of}
use Rattle.rd_turn_tests.specs.Calls.{AddsOnce}
use Rattle.rd_turn_tests.proofs.SumLemmas.{added_by_two}
use Rattle.rd_turn_tests.proofs.side_by_side.add_three.Goals as goal

pub returns : goal.returns
returns g c =
    let opened = c.in-Ok.ensures.pass in
    let called = c.call-first_reply.ensures in
    let both = c.call_side_by_side-own_reply.ensures in
    let seen = c.call_side_by_side-own_reply.result.2.seen in
    let number : c.in-Ok.pass.number ≡ 0 = ap (λ p. p.number) opened in
    let made : c.call-first_reply.new.pass.made ≡ 0 = called.same.1 ∙ ap (λ p. p.made) opened in
    let first = subst (λ n. calls_of n c.call-first_reply.new.pass.seen ≡ calls_of n c.in-Ok.pass.seen ++ entry n c.args.first c.call-first_reply.result ∷ []) number called.own_calls in
    let own = both.own_calls ∙ ap (λ l. l ++ entry 0 c.args.own c.call_side_by_side-own_reply.result.0 ∷ []) (first ∙ ap (λ p. calls_of 0 p.seen ++ entry 0 c.args.first c.call-first_reply.result ∷ []) opened) in
    let other = subst (λ n. calls_of (suc n) seen ≡ entry (suc n) c.args.other c.call_side_by_side-own_reply.result.1 ∷ []) made both.other_calls in
    let numbers = subst (λ n. All (λ e. e.by ≤ n) seen) (both.counts.1 ∙ ap suc made) (c.close.ensures.numbers both.counts.0) in
    let leads = subst (λ o. Leads AddsOnce o seen c.close.result) c.in-Ok.ensures.turn c.close.ensures.leads in
    added_by_two seen c.close.result c.args.first c.args.own c.args.other c.call-first_reply.result c.call_side_by_side-own_reply.result.0 c.call_side_by_side-own_reply.result.1 leads numbers own other
