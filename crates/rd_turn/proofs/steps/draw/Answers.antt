use Rattle.std.proofs.Common.{rules}
use Rattle.rd_turn.proofs.RuleLemmas.{draw_keeps}
use Rattle.rd_turn.proofs.steps.draw.Goals as goal

pub fetch_add-requires : goal.fetch_add-requires
fetch_add-requires g c = (c.requires.seat.0, search rules, draw_keeps g.O.Object.steps _ _ _ _ _ c.args.call.now c.requires.said c.requires.seat.3)
