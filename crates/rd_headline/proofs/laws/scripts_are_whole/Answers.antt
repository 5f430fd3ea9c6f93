use Rattle.rd_headline.proofs.SessionLemmas.{runs_are_whole}
use Rattle.rd_headline.proofs.laws.scripts_are_whole.Goals as goal
use Rattle.rd_loads.proofs.ScriptLemmas.{scripts_meet_all}

pub returns : goal.returns
returns c text script books told deeds is run = runs_are_whole script books told deeds (scripts_meet_all text script is) run
