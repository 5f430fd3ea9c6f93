use Rattle.rd_opening.proofs.Running.{run_opens}
use Rattle.rd_opening.proofs.laws.requests_come_opened.Goals as goal

pub returns : goal.returns
returns c lines starves most w premises writable is = (run_opens lines starves premises writable most w is).1
