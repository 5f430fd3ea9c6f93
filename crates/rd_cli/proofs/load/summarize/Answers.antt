use Rattle.std.proofs.Common.{sym, subst}
use Rattle.rd_script.specs.declared.script.Script.{Script}
use Rattle.rd_headline.proofs.LoadsLoadLemmas.{loads_meet_all}
use Rattle.rd_headline.specs.LoadsAllPremises.{MeetPremises}
use Rattle.rd_cli.proofs.LoadingLemmas.{printed}
use Rattle.rd_cli.proofs.load.summarize.Goals as goal

pub play-requires-clause-script : goal.play-requires-clause-script
play-requires-clause-script g c = subst (λ (s : Script). MeetPremises s.lines) (sym c.in_ok-script.ensures) (loads_meet_all c.args.number c.requires.number.1)

pub returns : goal.returns
returns g c = printed c.args.number _ _ _ _ _ c.in_ok-script.script c.in_ok-told.told _ c.in_ok-script.ensures c.in_ok-told.ensures.played c.print_summary.ensures
