use Rattle.std.proofs.Common.{rules}
use Rattle.rd_workers.proofs.session.serve_with_workers.Goals as goal

pub with_workers-other-requires-clause-part : goal.with_workers-other-requires-clause-part
with_workers-other-requires-clause-part g c κs within = (
  (search rules, search rules, search rules, search rules, search rules, search rules, c.requires.none, c.requires.places, c.requires.room, c.requires.front, c.requires.caller, c.requires.other, c.requires.moments.1),
  (search rules, search rules, search rules, search rules, search rules, search rules),
)

pub returns-clause-by_hand : goal.returns-clause-by_hand
returns-clause-by_hand g c = (c.with_workers-other.ensures.part.9, c.with_workers-other.ensures.by_hand 1 c.requires.by_hand)
