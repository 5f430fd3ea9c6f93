use Rattle.std.proofs.Common.{◌∙◌, sym, refl, false}
use Rattle.std.proofs.lemmas.Bool.{and_parts}
use Rattle.rd_locks.specs.Slots.{slot_at}
use Rattle.rd_locks.proofs.StandingLemmas.{length-dropped}
use Rattle.rd_locks.proofs.SlotLemmas.{chained_dropped}
use Rattle.rd_locks.proofs.slots.let_go_at.Goals as goal

pub returns-clause-count : goal.returns-clause-count
returns-clause-count c =
    length-dropped c.args.slots.now c.args.i (record (slot_at c.args.slots.now c.args.i) { stands = false; linked = false }) c.requires.within refl (and_parts _ _ (sym c.is_of.ensures ∙ c.if-not-is_of.false)).0

pub returns-clause-chained : goal.returns-clause-chained
returns-clause-chained c = chained_dropped c.args.slots.now c.args.i c.requires.within c.requires.chained
