use Rattle.rd_ranges.proofs.DeclaredLemmas.{declared_fit}
use Rattle.rd_ranges.proofs.ScriptLemmas.{scripts_short}
use Rattle.rd_ranges.proofs.laws.scripts_declare_fresh_devices.Goals as goal

pub returns : goal.returns
returns c mode text script is = declared_fit _ (scripts_short mode text script is)
