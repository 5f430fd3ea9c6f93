use Rattle.std.proofs.Common.{◌∷◌, rules, refl, sym, ap, ◌∙◌, subst}
use Rattle.rd_turn.specs.History.{calls_of}
use Rattle.rd_turn.specs.Rule.{is_live, live}
use Rattle.rd_turn.specs.Plays.{both_views, Settled}
use Rattle.rd_turn.specs.Seats.{pass_of}
use Rattle.rd_turn.proofs.HistoryLemmas.{are_others, count_of_is}
use Rattle.rd_turn.proofs.RuleLemmas.{learn_keeps}
use Rattle.rd_turn.proofs.JoinLemmas.{join_keeps, joined_on, other_calls}
use Rattle.rd_turn.proofs.steps.join.Goals as goal

pub load-requires : goal.load-requires
load-requires g c = (c.requires.table.0, search rules, learn_keeps g.O.Object.steps _ _ _ _ (ap is_live c.requires.rests.0.idle))

pub join_seat-requires : goal.join_seat-requires
join_seat-requires g c =
    let e = c.load.ensures in
    let same = e.2.0 in (
      e.0 ∙ c.requires.table.0,
      c.requires.table.1,
      c.requires.rests.1.holds_none,
      search rules,
      join_keeps g.O.Object.steps _ _ _ _ _ (ap (λ m. m.0.number) same ∙ c.requires.first) c.requires.later (ap (λ m. m.0.stage) same ∙ c.requires.rests.0.idle) c.requires.rests.1.idle,
    )

pub load-requires-2 : goal.load-requires-2
load-requires-2 g c =
    let e = c.load.ensures in
    let f = c.join_seat.ensures in
    (f.0 ∙ (e.0 ∙ c.requires.table.0), search rules, learn_keeps g.O.Object.steps _ _ _ _ (ap (λ m. live m.0) (f.2 ∙ ap (λ m. (both_views m.0 c.args.other.me.0, m.1)) e.2.0) ∙ ap is_live c.requires.rests.0.idle))

pub returns-clause-joined : goal.returns-clause-joined
returns-clause-joined g c =
    let joined = c.load-2.ensures.2.0 ∙ (c.join_seat.ensures.2 ∙ ap (λ m. (both_views m.0 c.args.other.me.0, m.1)) c.load.ensures.2.0) in
    let w = c.args.other.me.0 in
    ap (λ m. m.0.joined) joined ∙ ap (λ n. (w.number, n) ∷ c.args.seat.now.me.0.joined) (sym (count_of_is w.number w.seen ∙ c.requires.rests.1.own))

pub returns-clause-other_calls : goal.returns-clause-other_calls
returns-clause-other_calls g c =
    let joined = c.join_seat.ensures.2 ∙ ap (λ m. (both_views m.0 c.args.other.me.0, m.1)) c.load.ensures.2.0 in
    let settled = subst (λ m. Settled m.0) joined c.load-2.ensures.2.1 in
    let w = c.args.other.me.0 in
    let counts = settled.joined c.requires.first 0 w.number w.calls refl ∙ sym c.requires.rests.1.own in
    ap (λ m. calls_of w.number m.0.seen) (c.load-2.ensures.2.0 ∙ joined) ∙ other_calls c.args.seat.now.me.0 w settled counts

pub returns-clause-goes_on : goal.returns-clause-goes_on
returns-clause-goes_on g c =
    let joined = c.join_seat.ensures.2 ∙ ap (λ m. (both_views m.0 c.args.other.me.0, m.1)) c.load.ensures.2.0 in
    let settled = subst (λ m. Settled m.0) joined c.load-2.ensures.2.1 in
    let on = joined_on c.args.seat.now.me.0 c.args.other.me.0 c.requires.first c.load.ensures.2.1 settled in
    (on.0, ap (λ m. m.0.seen) (c.load-2.ensures.2.0 ∙ joined) ∙ on.1, are_others (pass_of c.args.seat.now) on.0 on.2 on.3)
