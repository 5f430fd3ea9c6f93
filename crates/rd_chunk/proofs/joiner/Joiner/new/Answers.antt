use Rattle.std.proofs.Common.{ℕ, arith, None, refl, ap, take}
use Rattle.rd_chunk.proofs.BetweenLemmas.{fresh}
use Rattle.rd_chunk.specs.Kept.{held_of}
use Rattle.rd_chunk.proofs.joiner.Joiner.new.Goals as goal

pub returns-clause-stands : goal.returns-clause-stands
returns-clause-stands c = fresh (held_of c.start.result c.new.result.items None) 0 c.new.ensures.items (ap (λ (k : ℕ). take k c.start.result.head) c.start.ensures.have) c.start.ensures.left (omega (arith, c.start.ensures.length)) c.start.ensures.taken refl
