use Rattle.std.proofs.Common.{◌∙◌, ap, refl, length, ℕ, List, arith}
use Rattle.rd_sharing.proofs.RealLemmas.{dos_length}
use Rattle.rd_sharing.proofs.real.RealDrive.announce.Goals as goal

pub returns-clause-announced : goal.returns-clause-announced
returns-clause-announced c = rw (← c.self.view_is, c.dos_name.ensures, c.of.ensures, c.new.ensures.items) refl

pub returns-clause-writable : goal.returns-clause-writable
returns-clause-writable c = (omega arith, c.self.invariant.0, ap (λ (l : List ℕ). length l) c.dos_name.ensures ∙ dos_length c.self.inside.name c.self.invariant.1)
