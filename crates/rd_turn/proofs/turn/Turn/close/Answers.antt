use Rattle.std.proofs.Common.{sym, ap, ◌∙◌, subst, Some}
use Rattle.std.proofs.lemmas.Option.{same_Some}
use mathlib.Core.Option.{some-injective}
use Rattle.rd_turn.specs.History.{Leads}
use Rattle.rd_turn.specs.Pass.{HasAllCalls, IsNumbered}
use Rattle.rd_turn.proofs.CloseLemmas.{closes, closes_all, closes_known}
use Rattle.rd_turn.proofs.turn.Turn.close.Goals as goal

pub unreachable-requires : goal.unreachable-requires
unreachable-requires g c =
    let final = c.close_with-closed.ensures.values.2 in
    let same = c.into_seat.ensures.0 in
    let home = closes g.O.Object.steps _ final.0 _ _ final.1 (ap (λ t. t.number) same ∙ c.requires.first) c.into_seat.ensures.1.idle (ap (λ t. t.out) same ∙ c.requires.all_joined) in
    let is = some-injective _ _ (sym c.take.ensures.value ∙ final.4 0 (Some home.0) home.1) in
    c.in_default.not-Some home.0 is

pub returns-clause-leads : goal.returns-clause-leads
returns-clause-leads g c =
    let final = c.close_with-closed.ensures.values.2 in
    let same = c.into_seat.ensures.0 in
    let home = closes g.O.Object.steps _ final.0 _ _ final.1 (ap (λ t. t.number) same ∙ c.requires.first) c.into_seat.ensures.1.idle (ap (λ t. t.out) same ∙ c.requires.all_joined) in
    let is = some-injective _ _ (sym c.take.ensures.value ∙ final.4 0 (Some home.0) home.1) in
    let opening = ap (λ p. p.opening) c.self.view_is in
    subst (λ o. Leads g.O.Object.steps o c.args.pass.seen c.in-Some.object) opening
    (subst (λ l. Leads g.O.Object.steps c.self.inside.table.shared.key.value l c.in-Some.object) (ap (λ t. t.seen) same)
    (subst (λ o. Leads g.O.Object.steps c.self.inside.table.shared.key.value c.into_seat.result.me.0.seen o) (same_Some _ _ (sym is ∙ c.in-Some.is)) home.2))

pub returns-clause-all : goal.returns-clause-all
returns-clause-all g c =
    let final = c.close_with-closed.ensures.values.2 in
    let same = c.into_seat.ensures.0 in
    subst HasAllCalls same (closes_all g.O.Object.steps _ final.0 _ _ final.1 (ap (λ t. t.number) same ∙ c.requires.first) c.into_seat.ensures.1.idle (ap (λ t. t.out) same ∙ c.requires.all_joined))

pub returns-clause-numbers : goal.returns-clause-numbers
returns-clause-numbers g c =
    let final = c.close_with-closed.ensures.values.2 in
    subst IsNumbered c.into_seat.ensures.0 (closes_known g.O.Object.steps _ final.0 _ _ final.1 c.into_seat.ensures.1.idle)
