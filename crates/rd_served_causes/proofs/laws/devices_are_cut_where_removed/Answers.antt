use Rattle.rd_served_causes.proofs.CutLemmas.{all_cut}
use Rattle.rd_served_causes.proofs.laws.devices_are_cut_where_removed.Goals as goal

pub returns : goal.returns
returns c devices old new entries parts begins goes = all_cut devices old new entries parts begins goes
