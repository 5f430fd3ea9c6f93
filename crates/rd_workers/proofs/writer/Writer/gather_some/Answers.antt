use Rattle.std.proofs.Common.{rules, ◌≡◌, ◌∙◌, [], ap, sym, subst, List, ℕ, true, false}
use Rattle.rd_front.specs.Calls.{RanOut}
use Rattle.rd_workers.specs.Passes.{WriterState}
use Rattle.rd_front.specs.declared.calls.FrontCall.TheVariants as call
use Rattle.rd_front.specs.declared.calls.FrontReply.{FrontReply}
use Rattle.rd_workers.specs.Logs.{messages_by}
use Rattle.rd_workers.specs.Writing.{PutsTo}
use Rattle.rd_workers.proofs.WritingLemmas.{for_it, other_reply, puts_none, takes_none, takes_one}
use Rattle.rd_workers.proofs.writer.Writer.gather_some.Goals as goal

pub returns-in_default : goal.returns-in_default
returns-in_default g c = takes_none c.args.self.now c.starve.new.self c.args.output.now c.starve.new.output c.starve.ensures.put (search rules) (λ _. search rules)

pub returns-in-Messages : goal.returns-in-Messages
returns-in-Messages g c =
    let ch = c.args.self.now.channel in
    let asks_any = call.Next ch c.args.place c.in-Some.room in
    let are : messages_by ch asks_any c.ask.result ≡ c.in-Messages.room.messages = ap (λ (r : FrontReply). messages_by ch asks_any r) c.in-Messages.is ∙ for_it ch c.args.place c.in-Some.room c.in-Messages.room c.in-Messages.rest in
    takes_one c.args.self.now c.ask.new.self c.put_room.new.self c.args.output.now c.put_room.new.output c.args.place c.in-Some.room c.ask.result (search rules) c.put_room.ensures.same c.requires
    (subst (λ (l : List (List ℕ)). PutsTo c.put_room.new.self.starved l c.args.output.now c.put_room.new.output) (sym are) c.put_room.ensures.put)
    (λ fed out. c.put_room.ensures.found fed (subst RanOut c.in-Messages.is out))

pub returns-in_default-ask : goal.returns-in_default-ask
returns-in_default-ask g c =
    let ch = c.args.self.now.channel in
    let asks_any = call.Next ch c.args.place c.in-Some.room in
    let none : messages_by ch asks_any c.ask.result ≡ [] = other_reply ch c.args.place c.in-Some.room c.ask.result (λ filled left is. c.in_default-ask.not-Messages filled left is) in
    takes_one c.args.self.now c.ask.new.self c.starve-in_default-ask.new.self c.args.output.now c.starve-in_default-ask.new.output c.args.place c.in-Some.room c.ask.result (search rules) (search rules) c.requires
    (subst (λ (l : List (List ℕ)). PutsTo c.starve-in_default-ask.new.self.starved l c.args.output.now c.starve-in_default-ask.new.output) (sym none) (puts_none _ c.args.output.now c.starve-in_default-ask.new.output c.starve-in_default-ask.ensures.put))
    (λ fed out. let both : true ≡ false = sym (ap (λ (w : WriterState g.row.F.Denot). w.starved) c.starve-in_default-ask.ensures.same) ∙ fed in absurd (cc both))
