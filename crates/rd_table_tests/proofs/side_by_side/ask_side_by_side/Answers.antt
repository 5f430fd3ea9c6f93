use Rattle.std.proofs.Common.{◌≡◌, ◌∙◌, ℕ, suc, [], ◌∷◌, ap, length, sym, subst, rules, arith, refl, Some, Ok}
use Rattle.std.specs.Prelude.{Contains}
use Rattle.rd_pending.specs.declared.calls.Target.TheVariants as target
use Rattle.rd_turn.specs.History.{calls_of, entry}
use Rattle.rd_turn.specs.Pass.{IsSamePass}
use Rattle.rd_turn.proofs.HistoryLemmas.{GoesOn-joined}
use Rattle.rd_table.specs.declared.calls.PendingCall.TheVariants as ask
use Rattle.rd_table.specs.declared.calls.PendingReply.TheVariants as reply
use Rattle.rd_table_tests.proofs.side_by_side.ask_side_by_side.Goals as goal

pub returns-clause-left : goal.returns-clause-left
returns-clause-left g c number is =
    let r = c.join-first.result.0 in
    let made = c.split-one.result in
    let same : IsSamePass made r.1 = search rules in
    let asked : (n : ℕ) → r.0 ≡ Some n → calls_of made.number r.1.seen ≡ entry made.number (ask.Submit 1 (target.Device 1) c.args.left) (reply.Submitted (Ok n)) ∷ [] = search rules in
    let own : made.number ≡ suc c.args.pass.made = ap (λ p. p.number) c.split-one.ensures.given in
    let first : c.join.new.pass.number ≡ 0 = c.join.ensures.counts.0 in
    let n = length (calls_of r.1.number r.1.seen) in
    let stays = GoesOn-joined c.join.new.pass c.join-2.new.pass r.1.number n first (subst (λ js. Contains js (r.1.number, n)) (sym c.join.ensures.joined) (0, omega arith, refl)) c.join-2.ensures.goes_on in
    let moved = stays ∙ c.join.ensures.other_calls in
    subst (λ (k : ℕ). calls_of k c.join-2.new.pass.seen ≡ entry k (ask.Submit 1 (target.Device 1) c.args.left) (reply.Submitted (Ok number)) ∷ []) own
    (subst (λ (k : ℕ). calls_of k c.join-2.new.pass.seen ≡ calls_of k r.1.seen) same.0 moved ∙ asked number is)

pub returns-clause-right : goal.returns-clause-right
returns-clause-right g c number is =
    let r = c.join-first.result.1 in
    let made = c.split-two.result in
    let same : IsSamePass made r.1 = search rules in
    let asked : (n : ℕ) → r.0 ≡ Some n → calls_of made.number r.1.seen ≡ entry made.number (ask.Submit 2 (target.Device 1) c.args.right) (reply.Submitted (Ok n)) ∷ [] = search rules in
    let own : made.number ≡ suc (suc c.args.pass.made) = ap (λ p. p.number) c.split-two.ensures.given ∙ ap (λ p. suc p.made) c.split-one.ensures.kept in
    subst (λ (k : ℕ). calls_of k c.join-2.new.pass.seen ≡ entry k (ask.Submit 2 (target.Device 1) c.args.right) (reply.Submitted (Ok number)) ∷ []) own
    (subst (λ (k : ℕ). calls_of k c.join-2.new.pass.seen ≡ calls_of k r.1.seen) same.0 c.join-2.ensures.other_calls ∙ asked number is)
