use Rattle.rd_cli.specs.Headline.{report_printed}
use Rattle.rd_cli.proofs.PlayingLemmas.{played_end, stopped_end}
use Rattle.rd_cli.proofs.both.both.Goals as goal

pub returns-in-Ok : goal.returns-in-Ok
returns-in-Ok g c = played_end report_printed _ _ _ c.in-Ok.ensures

pub returns-in-Err : goal.returns-in-Err
returns-in-Err g c = stopped_end report_printed _ _ _ _ c.in-Err.stop _ c.in-Err.ensures c.end.ensures
