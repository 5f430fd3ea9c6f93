use Rattle.rd_headline.proofs.SessionLemmas.{runs_are_whole}
use Rattle.rd_headline.proofs.laws.loads_are_whole.Goals as goal
use Rattle.rd_loads.proofs.LoadLemmas.{loads_meet_all}
use Rattle.rd_script.specs.Load.{load_script}

pub returns : goal.returns
returns c number books told deeds few run = runs_are_whole (load_script number) books told deeds (loads_meet_all number few) run
