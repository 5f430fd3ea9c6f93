use Rattle.std.proofs.Common.{◌∙◌, ap, refl, sym, subst, Some, None, Bool}
use Rattle.std.specs.Prelude.{Err}
use Rattle.rd_carry.specs.Incoming.{IncomingState}
use Rattle.rd_workers.specs.Lines.{StartsOnce}
use Rattle.rd_workers.specs.Reading.{HearsOn, having_written}
use Rattle.rd_workers.specs.declared.reader.Ending.{Ending}
use Rattle.rd_workers.specs.declared.reader.Ending.TheVariants as ending
use Rattle.rd_workers.proofs.ReadingLemmas.{hears_none, hears_unread}
use Rattle.rd_workers.proofs.reader.Reader.read_on.Goals as goal

pub returns-then-not-hand_out : goal.returns-then-not-hand_out
returns-then-not-hand_out g c =
    hears_none (StartsOnce (Some ending.Unwritten)) (Some ending.Unwritten) c.args.self.now c.hand_out.new.self c.args.incoming.now c.args.incoming.now tt
    (c.hand_out.ensures ∙ ap (λ (b : Bool). having_written b c.args.self.now) c.if-not-hand_out.true) refl refl (λ is. is) (λ began is. is) refl tt

pub returns-in-Ok-true : goal.returns-in-Ok-true
returns-in-Ok-true g c =
    let is = c.hand_out.ensures ∙ ap (λ (b : Bool). having_written b c.args.self.now) c.if-not-hand_out.false in
    let reads = c.in-Ok-true.ensures.read in
    hears_none (StartsOnce None) None c.args.self.now c.hand_out.new.self c.args.incoming.now c.read.new.self tt is (ap (λ (s : IncomingState). s.messages) reads.new_is) (ap (λ (s : IncomingState). s.faults) reads.new_is)
    (λ _. c.read.ensures.heard) c.read.ensures.since (ap (λ (s : IncomingState). s.room) reads.new_is) tt

pub returns-in-Ok-false : goal.returns-in-Ok-false
returns-in-Ok-false g c =
    let is = c.hand_out.ensures ∙ ap (λ (b : Bool). having_written b c.args.self.now) c.if-not-hand_out.false in
    let reads = c.in-Ok-false.ensures.read in
    hears_none (StartsOnce (Some ending.Input)) (Some ending.Input) c.args.self.now c.hand_out.new.self c.args.incoming.now c.read.new.self refl is (ap (λ (s : IncomingState). s.messages) reads.new_is)
    (ap (λ (s : IncomingState). s.faults) reads.new_is) (λ _. c.read.ensures.heard) c.read.ensures.since (ap (λ (s : IncomingState). s.room) reads.new_is) (let end = reads.ended c.in-Ok-false.field-0-test in (tt, end.0, end.1))

pub returns-in-Err : goal.returns-in-Err
returns-in-Err g c =
    let is = c.hand_out.ensures ∙ ap (λ (b : Bool). having_written b c.args.self.now) c.if-not-hand_out.false in
    subst (λ (e : Ending). HearsOn (StartsOnce (Some e)) (Some e) c.args.self.now c.hand_out.new.self c.args.incoming.now c.read.new.self) (sym c.ending_of.ensures)
    (hears_unread c.in-Err.no c.args.self.now c.hand_out.new.self c.args.incoming.now c.read.new.self is (λ e. c.read.ensures.failed (c.in-Err.is ∙ ap Err e))
    (λ e. (c.read.ensures.long.0 (c.in-Err.is ∙ ap Err e), c.read.ensures.unread (c.in-Err.is ∙ ap Err e))) (λ e. c.read.ensures.no_other.0 (c.in-Err.is ∙ ap Err e)) (λ bad e. c.read.ensures.no_other.1 bad (c.in-Err.is ∙ ap Err e))
    c.read.ensures.heard c.read.ensures.since)
