use Rattle.std.proofs.Common.{false}
use Rattle.rd_served_causes.proofs.CallLemmas.{heard_unhindered}
use Rattle.rd_served_causes.proofs.laws.starts_are_heard_unhindered.Goals as goal

pub returns : goal.returns
returns c entries is = heard_unhindered entries false is
