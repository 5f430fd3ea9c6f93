use Rattle.rd_orders.proofs.AddressLemmas.{scripts_writable}
use Rattle.rd_orders.proofs.laws.scripts_are_writable.Goals as goal

pub returns : goal.returns
returns c m text script is = scripts_writable m text script is
