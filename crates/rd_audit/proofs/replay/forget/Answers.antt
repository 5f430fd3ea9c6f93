use Rattle.std.proofs.Common.{sym, ◌∙◌, ap}
use Rattle.std.specs.List.{position}
use Rattle.rd_base.specs.declared.journal.Key.{Key}
use Rattle.rd_lawful.specs.Rules.{key_is}
use Rattle.rd_audit.proofs.ReplayLemmas.{first_none, first_taken, times}
use Rattle.rd_audit.proofs.replay.forget.Goals as goal

pub returns-in-Some : goal.returns-in-Some
returns-in-Some c k =
    ap (times k) c.remove.ensures.items
    ∙ first_taken c.args.key c.args.keys.now.items c.in-Some.place (ap (position (λ (x : Key). key_is x c.args.key)) (sym c.as_slice.ensures.value) ∙ sym c.place_of.ensures ∙ c.in-Some.is) k

pub returns-in_default : goal.returns-in_default
returns-in_default c k =
    first_none c.args.key c.args.keys.now.items (ap (position (λ (x : Key). key_is x c.args.key)) (sym c.as_slice.ensures.value) ∙ sym c.place_of.ensures ∙ c.in_default.is) k
