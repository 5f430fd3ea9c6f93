use Rattle.std.proofs.Common.{◌≡◌, ◌∙◌, ℕ, ◌+◌, None, ap, subst, sym, length, true, rules, List, Option, Some, ◌↔◌}
use Rattle.rd_chunk.specs.Frames.{One}
use Rattle.rd_chunk.specs.Standing.{Held, StandsFor, is_complete, waiting}
use Rattle.rd_chunk.specs.Kept.{held_of}
use Rattle.rd_chunk.proofs.BetweenLemmas.{fresh, complete_parts, no_head_after}
use Rattle.rd_chunk.proofs.CarriedLemmas.{waits_at_one}
use Rattle.rd_chunk.proofs.joiner.Joiner.take.Goals as goal

pub returns-clause-next : goal.returns-clause-next
returns-clause-next c = λ before bytes t.
    let p = c.self.inside.progress in
    let items = c.self.inside.message.items in
    let h : Held = held_of c.self.inside.progress c.self.inside.message.items c.self.inside.bad in
    let s : StandsFor (held_of c.self.inside.progress c.self.inside.message.items c.self.inside.bad) before bytes = subst (λ (v : Held). StandsFor v before bytes) (sym c.self.view_is) t in
    let len : c.len.result ≡ length c.self.inside.message.items = search rules in
    let done : is_complete c.self.inside.progress.left (length c.self.inside.message.items) c.self.inside.progress.length ≡ true =
    ap (λ (k : ℕ). is_complete c.self.inside.progress.left k c.self.inside.progress.length) (sym len) ∙ sym c.is_done.ensures ∙ c.if-not-is_done.false in
    let parts = complete_parts c.self.inside.progress.left (length c.self.inside.message.items) c.self.inside.progress.length done in
    fresh (held_of c.self.inside.progress c.replace.new.dest.items c.self.inside.bad) (before + length bytes)
    (search rules) (no_head_after h before bytes s done) parts.0 s.most s.taken_are s.no_fault

pub returns-then-is_some-clause-whole : goal.returns-then-is_some-clause-whole
returns-then-is_some-clause-whole c = λ before bytes message s.
    let none : None ≡ waiting c.args.self.now = search rules in
    subst (λ (r : Option (List ℕ)). (r ≡ Some message) ↔ One message bytes) (sym none) (waits_at_one c.args.self.now before bytes message s)

pub returns-clause-whole : goal.returns-clause-whole
returns-clause-whole c = λ before bytes message s.
    let some : Some c.of.result ≡ waiting c.args.self.now = search rules in
    subst (λ (r : Option (List ℕ)). (r ≡ Some message) ↔ One message bytes) (sym some) (waits_at_one c.args.self.now before bytes message s)
