use Rattle.std.proofs.Common.{refl}
use Rattle.rd_base.specs.Header.{component_field, header, header_among}
use Rattle.rd_host_orders.proofs.laws.one_wrong_message.Goals as goal

pub returns-clause-counted : goal.returns-clause-counted
unfolding component_field header header_among
returns-clause-counted c = refl

pub returns-clause-not_all : goal.returns-clause-not_all
unfolding component_field header header_among
returns-clause-not_all c = λ is. cc is
