use Rattle.rd_cli.proofs.DecodingLemmas.{printed_end, stopped_with}
use Rattle.rd_cli.proofs.decoding.decode.Goals as goal

pub returns-in-Ok : goal.returns-in-Ok
returns-in-Ok g c = printed_end _ _ _ _ c.in-Ok.ensures

pub returns-in-Err : goal.returns-in-Err
returns-in-Err g c = stopped_with _ _ _ _ _ c.in-Err.no _ _ c.in-Err.ensures c.stop_for.ensures c.end.ensures
