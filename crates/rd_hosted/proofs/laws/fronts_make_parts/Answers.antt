use Rattle.rd_hosted.proofs.GoLemmas.{history_told}
use Rattle.rd_hosted.proofs.laws.fronts_make_parts.Goals as goal

pub returns : goal.returns
returns g c entries here there made leads = let told = history_told entries here there made leads in (told.parts, told.along)
