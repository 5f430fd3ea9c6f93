use Rattle.rd_host_orders.proofs.OrderedLemmas.{all_sound, all_written, ordered}
use Rattle.rd_host_orders.proofs.laws.hosts_keep_the_order.Goals as goal

pub returns-clause-order : goal.returns-clause-order
returns-clause-order c deeds may channel = (ordered deeds may).orders channel

pub returns-clause-written : goal.returns-clause-written
returns-clause-written c deeds channel = all_written channel deeds

pub returns-clause-sound : goal.returns-clause-sound
returns-clause-sound c deeds channel right = all_sound channel deeds right
