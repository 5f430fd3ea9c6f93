use Rattle.std.proofs.Common.{◌≡◌, ◌∙◌, ◌+◌, arith, subst, sym, length, rules}
use Rattle.std.proofs.lemmas.Bool.{eqb-true, eq-eqb}
use Rattle.rd_chunk.specs.Standing.{Held, StandsFor}
use Rattle.rd_chunk.specs.Kept.{held_of, head_of}
use Rattle.rd_chunk.proofs.BetweenLemmas.{nothing_came, nothing_held}
use Rattle.rd_chunk.proofs.joiner.Joiner.between.Goals as goal

pub returns-then-is_none-clause-stands : goal.returns-then-is_none-clause-stands
returns-then-is_none-clause-stands c = λ before bytes t.
    let h : Held = held_of c.self.inside.progress c.self.inside.message.items c.self.inside.bad in
    let s : StandsFor (held_of c.self.inside.progress c.self.inside.message.items c.self.inside.bad) before bytes = subst (λ (v : Held). StandsFor v before bytes) (sym c.self.view_is) t in
    let len : c.len.result ≡ length c.self.inside.message.items = search rules in
    let sum : c.len.result + c.self.inside.progress.have ≡ length c.self.inside.message.items + length (head_of c.self.inside.progress) = omega (arith, len, c.self.invariant.count) in (
      λ yes. nothing_came h before bytes s (sym sum ∙ eqb-true (c.len.result + c.self.inside.progress.have) 0 yes),
      λ e. eq-eqb (c.len.result + c.self.inside.progress.have) 0 (sum ∙ nothing_held h before bytes s e),
    )
