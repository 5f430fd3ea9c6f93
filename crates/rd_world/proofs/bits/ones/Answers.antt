use Rattle.rd_world.proofs.BitsLemmas.{ones_places}
use Rattle.rd_world.proofs.bits.ones.Goals as goal

pub returns : goal.returns
returns c = ones_places 64 c.args.word c.ranges.word.fits
