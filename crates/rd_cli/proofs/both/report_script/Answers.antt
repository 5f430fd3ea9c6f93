use Rattle.std.proofs.Common.{refl}
use Rattle.rd_cli.specs.Headline.{report_printed}
use Rattle.rd_cli.proofs.PlayingLemmas.{printed, stopped_playing, stopped_reading, stopped_with}
use Rattle.rd_headline.proofs.LoadsScriptLemmas.{scripts_meet_all}
use Rattle.rd_cli.proofs.both.report_script.Goals as goal

pub play-requires-clause-script : goal.play-requires-clause-script
play-requires-clause-script g c =
    let reads = c.in_ok-script.ensures.script in
    scripts_meet_all reads.text c.in_ok-script.script reads.script_is

pub returns-in_err-script : goal.returns-in_err-script
returns-in_err-script g c =
    stopped_with report_printed _ _ _ _ _ c.from_residual.ensures.1 (stopped_reading report_printed _ _ _ _ c.in_err-script.ensures.err refl refl c.requires)

pub returns-in_err-told : goal.returns-in_err-told
returns-in_err-told g c =
    stopped_with report_printed _ _ _ _ _ c.from_residual-in_err-told.ensures.1 (stopped_playing report_printed _ _ _ c.in_ok-script.script _ c.in_ok-script.ensures.script refl c.in_err-told.ensures.err)

pub returns : goal.returns
returns g c = printed report_printed _ _ _ c.in_ok-script.script c.in_ok-told.told _ c.in_ok-script.ensures.script c.in_ok-told.ensures.played c.print_report.ensures
