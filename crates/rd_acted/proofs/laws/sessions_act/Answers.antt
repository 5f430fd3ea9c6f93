use Rattle.rd_acted.proofs.RunLemmas.{acted_whole, run_acted}
use Rattle.rd_acted.proofs.laws.sessions_act.Goals as goal
use Rattle.rd_rest.proofs.ControlsScriptLemmas.{scripts_ordered}
use Rattle.rd_rest.proofs.JoinedScriptLemmas.{script_premises}
use Rattle.rd_script.specs.declared.keyword.Mode.TheVariants as mode
use Rattle.rd_world.proofs.NumberedLemmas.{scripts_are_numbered}
use Rattle.rd_world.specs.World.{marks_of}

pub returns-clause-acted : goal.returns-clause-acted
returns-clause-acted c text script w is (most, run) well told =
    run_acted script.lines (marks_of w) (script_premises mode.Both text script is) most w (scripts_are_numbered mode.Both text script is).few (scripts_ordered text script is) run well told

pub returns-clause-whole : goal.returns-clause-whole
returns-clause-whole c devices lines idle deeds acted opened settled = acted_whole devices lines idle deeds acted opened settled
