use Rattle.std.proofs.Common.{ℕ, ap, sym, ◌∙◌, w64}
use Rattle.std.specs.Prelude.{◌==◌}
use Rattle.std.proofs.lemmas.Nat.Bits.{bit_at_set_same, bit_at_set_other, bit_at_clear_same, bit_at_clear_other}
use Rattle.rd_world.proofs.bits.with_bit.Goals as goal

pub returns-then-on-clause-same : goal.returns-then-on-clause-same
returns-then-on-clause-same c = ap (λ (x : ℕ). x == 1) (bit_at_set_same w64 c.args.word c.args.place c.requires) ∙ sym c.if-on.true

pub returns-then-on-clause-others : goal.returns-then-on-clause-others
returns-then-on-clause-others c i u d = ap (λ (x : ℕ). x == 1) (bit_at_set_other w64 c.args.word c.args.place c.requires i d)

pub returns-else-on-clause-same : goal.returns-else-on-clause-same
returns-else-on-clause-same c = ap (λ (x : ℕ). x == 1) (bit_at_clear_same w64 c.args.word c.args.place c.requires) ∙ sym c.if-on.false

pub returns-else-on-clause-others : goal.returns-else-on-clause-others
returns-else-on-clause-others c i u d = ap (λ (x : ℕ). x == 1) (bit_at_clear_other w64 c.args.word c.args.place c.requires i u d)
