use Rattle.rd_lawful.proofs.KnownLemmas.{set_at, unfound}
use Rattle.rd_lawful.proofs.known.set_stage.Goals as goal

pub returns-in-Some : goal.returns-in-Some
returns-in-Some c = let (k, at, same) = c.in-Some.ensures.some in set_at c.args.known.now c.args.key c.args.stage c.in-Some.place k _ c.requires at same

pub returns-in_default : goal.returns-in_default
returns-in_default c = unfound c.args.known.now c.args.key c.args.stage c.in_default.ensures.none
