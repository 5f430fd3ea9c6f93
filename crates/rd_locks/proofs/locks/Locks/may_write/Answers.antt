use Rattle.std.proofs.Common.{◌∙◌, sym, ap, false}
use Rattle.std.specs.Prelude.{is_some}
use Rattle.rd_locks.specs.declared.slots.Aim.TheVariants as Aim
use Rattle.rd_locks.specs.Slots.{is_sought}
use Rattle.rd_locks.proofs.StandingLemmas.{any-find}
use Rattle.rd_locks.proofs.WantedLemmas.{flip}
use Rattle.rd_locks.proofs.locks.Locks.may_write.Goals as goal

pub returns : goal.returns
returns c =
    flip _ _ (any-find (is_sought Aim.Write (record { node = c.args.node; file = c.args.file; exclusive = false; range = c.args.range })) c.args.self.now.locks ∙ ap is_some (sym c.first.ensures) ∙ c.is_none.ensures)
