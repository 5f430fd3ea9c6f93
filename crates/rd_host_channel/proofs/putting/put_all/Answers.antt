use Rattle.std.proofs.Common.{◌∙◌, ◌∷◌, [], ap, subst, not, Bool, List, ℕ, Option}
use Rattle.rd_host_channel.specs.Putting.{PutsTo}
use Rattle.rd_host_channel.proofs.PuttingLemmas.{popped, popped_more, popped_wanting}
use Rattle.rd_host_channel.proofs.putting.put_all.Goals as goal

pub returns-then-not-put : goal.returns-then-not-put
returns-then-not-put g c =
    popped_wanting c.args.room.messages c.loop-message.room.messages c.pop.new.self.messages c.in-Some.message c.args.output.now c.loop-message.output c.put.new.output c.loop-message.invariant
    (popped c.loop-message.room c.pop.new.self c.in-Some.message (c.pop.ensures ∙ ap (λ (o : Option (List ℕ)). (c.pop.new.self, o)) c.in-Some.is))
    (subst (λ (b : Bool). PutsTo (not b) (c.in-Some.message ∷ []) c.loop-message.output c.put.new.output) c.if-not-put.true c.put.ensures)

pub loop-message-preserved : goal.loop-message-preserved
loop-message-preserved g c =
    popped_more c.args.room.messages c.loop-message.room.messages c.pop.new.self.messages c.in-Some.message c.args.output.now c.loop-message.output c.put.new.output c.loop-message.invariant
    (popped c.loop-message.room c.pop.new.self c.in-Some.message (c.pop.ensures ∙ ap (λ (o : Option (List ℕ)). (c.pop.new.self, o)) c.in-Some.is))
    (subst (λ (b : Bool). PutsTo (not b) (c.in-Some.message ∷ []) c.loop-message.output c.put.new.output) c.if-not-put.false c.put.ensures)
