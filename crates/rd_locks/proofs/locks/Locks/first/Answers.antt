use Rattle.std.proofs.Common.{◌≡◌, ◌∙◌, sym, ap, arith, List}
use Rattle.std.specs.Prelude.{find}
use Rattle.rd_locks.specs.declared.held.Held.{Held}
use Rattle.rd_locks.specs.Locks.{LockList}
use Rattle.rd_locks.specs.Slots.{standing, is_sought}
use Rattle.rd_locks.proofs.StandingLemmas.{find-standing, find-standing_none}
use Rattle.rd_locks.proofs.locks.Locks.first.Goals as goal

pub returns-then-found-slots : goal.returns-then-found-slots
returns-then-found-slots c =
    let locks : c.args.self.now.locks ≡ standing c.as_slice-slots.result.now = sym (ap (λ (l : LockList). l.locks) c.self.view_is) ∙ ap standing (sym c.as_slice-slots.ensures.value) in
    sym (ap (λ (l : List Held). find (is_sought c.args.aim c.args.wanted.now) l) locks
    ∙ find-standing (is_sought c.args.aim c.args.wanted.now) c.as_slice-slots.result.now c.first-found.result (omega arith) c.first-found.ensures.before (c.first-found.ensures.found (omega arith)))

pub returns : goal.returns
returns c =
    let locks : c.args.self.now.locks ≡ standing c.as_slice-slots.result.now = sym (ap (λ (l : LockList). l.locks) c.self.view_is) ∙ ap standing (sym c.as_slice-slots.ensures.value) in
    sym (ap (λ (l : List Held). find (is_sought c.args.aim c.args.wanted.now) l) locks
    ∙ find-standing_none (is_sought c.args.aim c.args.wanted.now) c.as_slice-slots.result.now (λ i lt. c.first-found.ensures.before i (omega arith)))
