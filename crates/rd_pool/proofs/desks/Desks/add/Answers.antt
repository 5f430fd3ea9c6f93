use Rattle.std.proofs.Common.{rules, ◌≡◌, ◌∙◌, ap, ℕ, List, [], ◌∷◌, ◌++◌}
use Rattle.rd_pool.specs.Desks.{DeskPass, DeskTurn, DesksState, GivesThen, IsByHandBut}
use Rattle.rd_pool.proofs.DeskLemmas.{desks_same, more_first}
use Rattle.rd_pool.proofs.CallsLemmas.{first_holds}
use Rattle.rd_pool.proofs.desks.Desks.add.Goals as goal

pub returns-clause-added : goal.returns-clause-added
returns-clause-added g c =
    let t = c.in-Ok.both.0 in
    let added : c.add.new.self ≡ c.args.passes.now ++ c.in-Ok.both.1 ∷ [] = search rules in (
      t,
      desks_same c.push_reserved.new.self.items (c.args.self.now.ids ++ c.args.id ∷ []) c.push_back_reserved.new.self.items (c.args.self.now.turns ++ t ∷ [])
          (c.push_reserved.ensures.items ∙ ap (λ (l : List ℕ). l ++ c.args.id ∷ []) (c.reserve.ensures.items ∙ ap (λ (d : DesksState g.row.D.Denot). d.ids) c.self.view_is))
          (c.push_back_reserved.ensures.items ∙ ap (λ (l : List (DeskTurn g.row.D.Denot)). l ++ t ∷ []) (c.reserve-else-is_err.ensures.items ∙ ap (λ (d : DesksState g.row.D.Denot). d.turns) c.self.view_is)),
      c.in-Ok.ensures.turn ∙ c.in_ok-desk.ensures.made,
      added ∙ ap (λ (p : DeskPass g.row.D.Denot). c.args.passes.now ++ p ∷ []) c.in-Ok.ensures.pass,
    )

pub returns-clause-first : goal.returns-clause-first
returns-clause-first g c =
    let t = c.in-Ok.both.0 in
    let added : c.add.new.self ≡ c.args.passes.now ++ c.in-Ok.both.1 ∷ [] = search rules in
    more_first c.args.self.now.turns c.push_back_reserved.new.self.items c.args.passes.now c.add.new.self t c.in-Ok.both.1
    (c.push_back_reserved.ensures.items ∙ ap (λ (l : List (DeskTurn g.row.D.Denot)). l ++ t ∷ []) (c.reserve-else-is_err.ensures.items ∙ ap (λ (d : DesksState g.row.D.Denot). d.turns) c.self.view_is))
    added c.in-Ok.ensures.pass c.requires.first

pub returns-clause-moments : goal.returns-clause-moments
returns-clause-moments g c told =
    let added : c.add.new.self ≡ c.args.passes.now ++ c.in-Ok.both.1 ∷ [] = search rules in
    first_holds (GivesThen told) c.in-Ok.both.0 c.args.passes.now c.add.new.self c.in-Ok.both.1 added c.in-Ok.ensures.pass

pub returns-clause-by_hand : goal.returns-clause-by_hand
returns-clause-by_hand g c number =
    let added : c.add.new.self ≡ c.args.passes.now ++ c.in-Ok.both.1 ∷ [] = search rules in
    first_holds (IsByHandBut number) c.in-Ok.both.0 c.args.passes.now c.add.new.self c.in-Ok.both.1 added c.in-Ok.ensures.pass
