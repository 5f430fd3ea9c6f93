use Rattle.std.proofs.Common.{◌∙◌, ◌≡◌, [], ap, sym, subst, Some, ℕ, List, Option, refl}
use Rattle.std.specs.Prelude.{Err, IfNone, IfSome}
use Rattle.rd_base.specs.Layout.{AreBytes}
use Rattle.rd_carry.specs.Incoming.{GivesMessage}
use Rattle.rd_front.specs.declared.calls.FrontCall.TheVariants as call
use Rattle.rd_turn.specs.History.{entry}
use Rattle.rd_workers.specs.Lines.{StartsOnce}
use Rattle.rd_workers.specs.Reading.{Follows, HearsOn}
use Rattle.rd_workers.specs.declared.reader.Ending.{Ending}
use Rattle.rd_workers.proofs.ReadingLemmas.{hears_handled, hears_message, hears_wrong}
use Rattle.rd_workers.proofs.reader.Reader.hear.Goals as goal

pub returns-in-Ok-Some : goal.returns-in-Ok-Some
returns-in-Ok-Some g c =
    hears_message c.follow.result c.args.self.now c.call_front-reply.new.self c.follow.new.self c.args.incoming.now c.message.new.self (entry c.args.self.now.front.number (call.Hear c.in-Ok-Some.message) c.call_front-reply.result) c.in-Ok-Some.message
    (subst (λ (o : Option (List ℕ)). IfSome o (GivesMessage c.args.incoming.now c.message.new.self)) c.in-Ok-Some.field-0-is c.in-Ok-Some.ensures.some) c.message.ensures.heard
    (record { left = c.message.ensures.kept.0; faults = c.message.ensures.kept.1; read = c.message.ensures.kept.2 }) refl (subst AreBytes c.as_slice.ensures c.are_bytes.ensures) c.call_front-reply.ensures
    (subst (λ (n : ℕ). Follows c.call_front-reply.result n c.follow.result c.call_front-reply.new.self c.follow.new.self) c.heard.ensures c.follow.ensures)

pub returns-in-Ok-None : goal.returns-in-Ok-None
returns-in-Ok-None g c =
    hears_handled c.read_on.result c.args.self.now c.read_on.new.self c.args.incoming.now c.message.new.self c.read_on.new.incoming
    (subst (λ (o : Option (List ℕ)). IfNone o (c.message.new.self ≡ record c.args.incoming.now { unhandled = [] })) c.in-Ok-None.field-0-is c.in-Ok-None.ensures.none) c.message.ensures.heard c.read_on.ensures

pub returns-in-Err : goal.returns-in-Err
returns-in-Err g c =
    subst (λ (e : Ending). HearsOn (StartsOnce (Some e)) (Some e) c.args.self.now c.args.self.now c.args.incoming.now c.message.new.self) (sym c.ending_of.ensures)
    (hears_wrong c.in-Err.no c.args.self.now c.args.self.now c.args.incoming.now c.message.new.self refl c.in-Err.ensures.err (λ bad e. (c.message.ensures.fault bad).1 (c.in-Err.is ∙ ap Err e))
    (λ e. c.message.ensures.no_read.0 (c.in-Err.is ∙ ap Err e)) (λ e. c.message.ensures.no_read.1 (c.in-Err.is ∙ ap Err e)) c.message.ensures.heard)
