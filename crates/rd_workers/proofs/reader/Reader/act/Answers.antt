use Rattle.std.proofs.Common.{◌∙◌, ◌≡◌, ◌∷◌, [], ap, refl, sym, subst, Some, None, List}
use Rattle.rd_front.specs.Calls.{FrontEntry, hinders}
use Rattle.rd_front.specs.declared.calls.FrontCall.TheVariants as call
use Rattle.rd_turn.specs.History.{entry}
use Rattle.rd_workers.specs.Lines.{ActsAll, DoesAct}
use Rattle.rd_workers.specs.declared.reader.Ending.TheVariants as ending
use Rattle.rd_workers.proofs.LineLemmas.{AreActing, acting_first, acts_early, acts_none, acts_on, acts_over, acts_unseen, acts_up}
use Rattle.rd_workers.proofs.ReadingLemmas.{goes_aside, goes_badly, goes_fit, goes_same, goes_then}
use Rattle.rd_workers.proofs.reader.Reader.act.Goals as goal

pub returns-then-not-waits : goal.returns-then-not-waits
returns-then-not-waits g c = λ count.
    goes_same (ActsAll c.args.channel None c.args.due.now c.waits.new.self) count c.args.self.now (acts_none c.args.channel c.args.due.now c.waits.new.self (sym c.waits.ensures.waits ∙ c.if-not-waits.true) c.waits.ensures.left)

pub returns-in_default : goal.returns-in_default
returns-in_default g c = λ count.
    let e = entry c.args.self.now.front.number call.Look c.call_front.result in
    goes_fit (λ (calls : List FrontEntry). calls ≡ e ∷ []) (ActsAll c.args.channel (Some ending.Memory) c.args.due.now c.waits.new.self) (Some ending.Memory) count c.args.self.now c.call_front.new.self
    (λ xs one. subst (ActsAll c.args.channel (Some ending.Memory) c.args.due.now c.waits.new.self) (sym one) (acts_unseen c.args.channel c.args.due.now c.waits.new.self e refl c.waits.ensures.left))
    (goes_badly count c.args.self.now c.call_front.new.self e tt c.call_front.ensures)

pub returns-then-not-ready : goal.returns-then-not-ready
returns-then-not-ready g c = λ count.
    let e = entry c.args.self.now.front.number call.Look c.call_front.result in
    goes_fit (λ (calls : List FrontEntry). calls ≡ e ∷ []) (ActsAll c.args.channel None c.args.due.now c.waits.new.self) None count c.args.self.now c.call_front.new.self
    (λ xs one. subst (ActsAll c.args.channel None c.args.due.now c.waits.new.self) (sym one) (acts_early c.args.channel c.args.due.now c.waits.new.self e c.in-Stands.ready c.in-Stands.asked refl c.in-Stands.is c.if-not-ready.true c.waits.ensures.left))
    (goes_aside count c.args.self.now c.call_front.new.self e tt c.call_front.ensures (ap hinders c.in-Stands.is))

pub loop-init : goal.loop-init
loop-init g c = λ count.
    let e = entry c.args.self.now.front.number call.Look c.call_front.result in
    goes_fit (λ (calls : List FrontEntry). calls ≡ e ∷ []) (AreActing c.args.channel c.in-Stands.asked c.args.due.now c.waits.new.self) None count c.args.self.now c.call_front.new.self
    (λ xs one. subst (AreActing c.args.channel c.in-Stands.asked c.args.due.now c.waits.new.self) (sym one) (acting_first c.args.channel c.args.due.now c.waits.new.self e c.in-Stands.ready c.in-Stands.asked refl c.in-Stands.is c.if-not-ready.false c.waits.ensures.left))
    (goes_aside count c.args.self.now c.call_front.new.self e tt c.call_front.ensures (ap hinders c.in-Stands.is))

pub returns-in_default-next : goal.returns-in_default-next
returns-in_default-next g c = λ count.
    goes_fit (AreActing c.args.channel c.in-Stands.asked c.args.due.now c.loop.due) (ActsAll c.args.channel None c.args.due.now c.next-in-loop.new.self) None count c.args.self.now c.loop.self
    (λ xs acting. acts_over c.args.channel c.in-Stands.asked c.args.due.now c.loop.due c.next-in-loop.new.self xs acting (sym c.next-in-loop.ensures.due ∙ c.in_default-next.is) c.next-in-loop.ensures.left) (c.loop.invariant count)

pub returns-in-Some-act_once : goal.returns-in-Some-act_once
returns-in-Some-act_once g c = λ count.
    let e = c.in-Some-act_once.ending in
    goes_then (AreActing c.args.channel c.in-Stands.asked c.args.due.now c.loop.due) (DoesAct c.in-Some-next.act (Some e)) (ActsAll c.args.channel (Some e) c.args.due.now c.next-in-loop.new.self) (Some e) count c.args.self.now c.loop.self c.act_once.new.self
    (λ xs ys acting does. acts_up c.args.channel c.in-Stands.asked c.args.due.now c.loop.due c.next-in-loop.new.self xs acting c.in-Some-next.act (sym c.next-in-loop.ensures.due ∙ c.in-Some-next.is) c.next-in-loop.ensures.left e ys does)
    (c.loop.invariant count) (c.in-Some-act_once.ensures count)

pub loop-preserved : goal.loop-preserved
loop-preserved g c = λ count.
    goes_then (AreActing c.args.channel c.in-Stands.asked c.args.due.now c.loop.due) (DoesAct c.in-Some-next.act None) (AreActing c.args.channel c.in-Stands.asked c.args.due.now c.next-in-loop.new.self) None count c.args.self.now c.loop.self
    c.act_once.new.self (λ xs ys acting does. acts_on c.args.channel c.in-Stands.asked c.args.due.now c.loop.due c.next-in-loop.new.self xs acting c.in-Some-next.act (sym c.next-in-loop.ensures.due ∙ c.in-Some-next.is) c.next-in-loop.ensures.left ys does)
    (c.loop.invariant count) (c.in_default-act_once.ensures count)
