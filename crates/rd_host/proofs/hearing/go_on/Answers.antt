use Rattle.rd_host.proofs.HearLemmas.{rows_writable}
use Rattle.rd_host.proofs.hearing.go_on.Goals as goal

pub write_opening-requires : goal.write_opening-requires
write_opening-requires c = (rows_writable c.state.result _ c.args.hello.now _ _ c.in-Ok.ensures.row).0
