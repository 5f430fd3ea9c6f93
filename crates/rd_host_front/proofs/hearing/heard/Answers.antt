use Rattle.std.proofs.Common.{◌≡◌, ◌∙◌, sym, subst, Ok, List, ℕ}
use Rattle.rd_base.specs.Layout.{AreBytes}
use Rattle.rd_host.specs.declared.act.Act.TheVariants as act
use Rattle.rd_host.specs.declared.act.LentAct.{LentAct}
use Rattle.rd_host.specs.declared.act.LentAct.TheVariants as lent
use Rattle.rd_host.specs.Core.{HostCoreState, host_hear}
use Rattle.rd_host.specs.Heard.{act_of}
use Rattle.rd_host_front.proofs.CoreLemmas.{announced_ready, body_last}
use Rattle.rd_host_front.proofs.hearing.heard.Goals as goal

-- what was heard of the bytes of a message was heard of it
of_message : (old new : HostCoreState) (bytes message : List ℕ) (asks heard : LentAct) → bytes ≡ message → asks ≡ heard → host_hear old bytes ≡ (new, Ok (act_of asks))
    → host_hear old message ≡ (new, Ok (act_of heard))
of_message old new bytes message asks heard same is e =
    subst (λ (m : List ℕ). host_hear old m ≡ (new, Ok (act_of heard))) same (subst (λ (l : LentAct). host_hear old bytes ≡ (new, Ok (act_of l))) is e)

pub last_of-requires : goal.last_of-requires
last_of-requires c =
    let heard = of_message c.args.core.now c.hear_lent.new.self c.as_slice-bytes.result.now c.args.message c.in-Ok-Complete.field-0 (lent.Complete c.in-Ok-Complete.head c.in-Ok-Complete.body) c.as_slice-bytes.ensures c.in-Ok-Complete.field-0-is c.in-Ok-Complete.ensures.step in
    let fits : AreBytes c.args.message = subst AreBytes c.as_slice-bytes.ensures c.are_bytes.ensures in
    (body_last c.args.core.now c.hear_lent.new.self c.args.message c.in-Ok-Complete.head c.in-Ok-Complete.body.now fits heard).short

pub returns-in-Ok-Complete-clause-step : goal.returns-in-Ok-Complete-clause-step
returns-in-Ok-Complete-clause-step c =
    let heard = of_message c.args.core.now c.hear_lent.new.self c.as_slice-bytes.result.now c.args.message c.in-Ok-Complete.field-0 (lent.Complete c.in-Ok-Complete.head c.in-Ok-Complete.body) c.as_slice-bytes.ensures c.in-Ok-Complete.field-0-is c.in-Ok-Complete.ensures.step in
    let fits : AreBytes c.args.message = subst AreBytes c.as_slice-bytes.ensures c.are_bytes.ensures in
    let last = body_last c.args.core.now c.hear_lent.new.self c.args.message c.in-Ok-Complete.head c.in-Ok-Complete.body.now fits heard in
    subst (λ (b : List ℕ). host_hear c.args.core.now c.args.message ≡ (c.hear_lent.new.self, Ok (act.Complete c.in-Ok-Complete.head b))) (sym (c.last_of.ensures ∙ last.last)) heard

pub returns-in-Ok-Announced-clause-ready : goal.returns-in-Ok-Announced-clause-ready
returns-in-Ok-Announced-clause-ready c =
    let heard = of_message c.args.core.now c.hear_lent.new.self c.as_slice-bytes.result.now c.args.message c.in-Ok-Announced.field-0 (lent.Announced c.in-Ok-Announced.devices) c.as_slice-bytes.ensures c.in-Ok-Announced.field-0-is c.in-Ok-Announced.ensures.step in
    let fits : AreBytes c.args.message = subst AreBytes c.as_slice-bytes.ensures c.are_bytes.ensures in
    announced_ready c.args.core.now c.hear_lent.new.self c.args.message c.in-Ok-Announced.devices fits heard
