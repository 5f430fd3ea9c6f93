use Rattle.std.proofs.Common.{rules, ◌≡◌, ◌∙◌, [], Some, ap, sym, false, subst}
use Rattle.rd_carry.specs.Outgoing.{OutgoingState}
use Rattle.rd_workers.specs.Writing.{PutsTo}
use Rattle.rd_workers.proofs.WritingLemmas.{flushed, hands_back}
use Rattle.rd_workers.proofs.writer.Writer.finish.Goals as goal

pub returns : goal.returns
returns g c =
    let puts : PutsTo false [] c.in-Some.output c.hang_up.new.self =
    subst (λ (s : OutgoingState). PutsTo false [] c.in-Some.output s) (sym c.hang_up.ensures) (flushed c.in-Some.output c.flush.new.self c.flush.ensures.since c.flush.ensures.over) in
    let none : c.hang_up.new.self.pending ≡ [] = ap (λ (s : OutgoingState). s.pending) (c.hang_up.ensures ∙ c.flush.ensures.flushed) in
    let half : c.args.self.now.half ≡ Some c.in-Some.output = search rules in
    hands_back c.args.self.now _ c.in-Some.output c.hang_up.new.self c.self.inside.starved half (search rules) puts none (search rules)
