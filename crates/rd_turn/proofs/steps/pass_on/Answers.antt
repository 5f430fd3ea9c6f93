use Rattle.std.proofs.Common.{rules}
use Rattle.rd_turn.proofs.RuleLemmas.{pass_on_keeps}
use Rattle.rd_turn.proofs.steps.pass_on.Goals as goal

pub fetch_add-served-requires : goal.fetch_add-served-requires
fetch_add-served-requires g c = let h = c.requires.seat.2 in
    (c.requires.seat.0, search rules, pass_on_keeps g.O.Object.steps _ _ _ _ _ c.args.reply.now h.0 h.1 h.2 h.3 h.4 c.requires.said h.5 h.6 h.7 h.8 h.9)
