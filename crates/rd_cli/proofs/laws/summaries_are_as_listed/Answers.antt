use Rattle.std.proofs.Common.{refl}
use Rattle.std.specs.Fmt.{digits}
use Rattle.rd_cli.proofs.laws.summaries_are_as_listed.Goals as goal

pub returns-clause-nothing : goal.returns-clause-nothing
unfolding digits
returns-clause-nothing c = refl

pub returns-clause-worked : goal.returns-clause-worked
unfolding digits
returns-clause-worked c = refl
