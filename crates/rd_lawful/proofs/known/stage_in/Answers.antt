use Rattle.rd_lawful.proofs.KnownLemmas.{stage_at}
use Rattle.rd_lawful.proofs.known.stage_in.Goals as goal

pub returns-in-Some : goal.returns-in-Some
returns-in-Some c = let (k, at, same) = c.in-Some.ensures.some in stage_at c.args.known.now c.args.key c.in-Some.place k _ c.requires at same
