use Rattle.std.proofs.Common.{◌≡◌, [], rules, sym, ap, ◌∙◌, subst}
use Rattle.rd_turn.specs.History.{calls_of}
use Rattle.rd_turn.specs.Rule.{live}
use Rattle.rd_turn.proofs.HistoryLemmas.{calls_of_none}
use Rattle.rd_turn.proofs.RuleLemmas.{learn_keeps}
use Rattle.rd_turn.proofs.SplitLemmas.{split_keeps}
use Rattle.rd_turn.proofs.steps.split.Goals as goal

pub split_seat-other-requires : goal.split_seat-other-requires
split_seat-other-requires g c = (c.requires.table.0, search rules, split_keeps g.O.Object.steps _ _ _ c.requires.first c.requires.rests.idle c.requires.few)

pub load-requires : goal.load-requires
load-requires g c = let split = c.split_seat-other.ensures in (split.3 ∙ c.requires.table.0, search rules, learn_keeps g.O.Object.steps _ _ _ _ (ap (λ m. live m.0) split.4))

pub returns-clause-fresh : goal.returns-clause-fresh
returns-clause-fresh g c =
    let learned = c.load.ensures.2 in
    let none = learned.1.own ∙ ap (λ m. m.0.calls) c.split_seat-other.ensures.4 in
    subst (λ m. calls_of m.0.number m.0.seen ≡ []) (sym learned.0) (calls_of_none _ _ none)
