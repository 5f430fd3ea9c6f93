use Rattle.std.proofs.Common.{◌≡◌, ◌≢◌, ◌∙◌, ap, subst, sym, ℕ, ◌<◌, List, length, get_or, set, map}
use Rattle.std.specs.Prelude.{All}
use Rattle.std.proofs.lemmas.List.{get_or-map, length-map, map-set}
use Rattle.std.proofs.lemmas.List.Elements.{All-same, All-set}
use Rattle.rd_desk.specs.Hand.{HandState}
use Rattle.rd_pool.specs.Desks.{AllByHand, KeepsMoment}
use Rattle.rd_pool.proofs.ZipLemmas.{map_set}
use Rattle.rd_pool.proofs.hands.Hands.work.Goals as goal

pub invariant_of-self : goal.invariant_of-self
invariant_of-self g c =
    let Other = λ (hand : HandState g.row.D.Denot). hand.pass.number ≢ 0 in
    let Hands = λ (hand : HandState g.row.D.Denot). AllByHand hand.pass in
    let kept = c.self.invariant in
    let hands = c.self.inside.list.items in
    let at = c.args.place in
    let hand = c.index_mut.result.now in
    let within : at < length hands = subst (λ (l : List (HandState g.row.D.Denot)). at < length l) (sym c.self.view_is) c.requires.place.0 in
    let other : Other hand = subst Other (sym c.index_mut.ensures.value) (kept.4 at hand within) in
    let by_hand : AllByHand hand.pass = subst Hands (sym c.index_mut.ensures.value) (kept.5 at hand within) in (
      kept.0,
      kept.1,
      kept.2,
      kept.3,
      All-set Other hands at c.work_at.new.hand (subst (λ (n : ℕ). n ≢ 0) (sym c.work_at.ensures.number) other) kept.4,
      All-set Hands hands at c.work_at.new.hand (c.work_at.ensures.by_hand by_hand) kept.5,
    )

pub returns-clause-turns : goal.returns-clause-turns
returns-clause-turns g c =
    let turn_of = λ (hand : HandState g.row.D.Denot). hand.turn in
    map_set turn_of c.self.inside.list.items c.args.place c.index_mut.result.now c.work_at.new.hand (c.work_at.ensures.turn ∙ ap turn_of c.index_mut.ensures.value)
    ∙ ap (λ (l : List (HandState g.row.D.Denot)). map turn_of l) c.self.view_is

pub returns-clause-moments : goal.returns-clause-moments
returns-clause-moments g c keeps =
    let pass_of = λ (hand : HandState g.row.D.Denot). hand.pass in
    let P = KeepsMoment (g.X.Outside.moment c.args.outside.now) in
    let at = c.args.place in
    let hand = c.index_mut.result.now in
    let len : at < length (map pass_of c.args.self.now) = subst (λ (n : ℕ). at < n) (sym (length-map c.args.self.now pass_of)) c.requires.place.0 in
    let here : get_or (map pass_of c.args.self.now) at hand.pass ≡ hand.pass = get_or-map pass_of c.args.self.now at hand hand.pass c.requires.place.0
    ∙ ap pass_of (sym (c.index_mut.ensures.value ∙ ap (λ (l : List (HandState g.row.D.Denot)). get_or l at hand) c.self.view_is)) in
    let before : P hand.pass = subst P here (keeps at hand.pass len) in
    let all : All P (map pass_of c.self.inside.list.items) = All-same P (map pass_of c.self.inside.list.items) (map pass_of c.args.self.now) (ap (map pass_of) c.self.view_is) keeps in
    All-same P (map pass_of (set c.self.inside.list.items at c.work_at.new.hand)) (set (map pass_of c.self.inside.list.items) at c.work_at.new.hand.pass) (map-set pass_of c.self.inside.list.items at c.work_at.new.hand)
    (All-set P (map pass_of c.self.inside.list.items) at c.work_at.new.hand.pass (c.work_at.ensures.moments before) all)
