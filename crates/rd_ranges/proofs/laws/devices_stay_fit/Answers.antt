use Rattle.rd_ranges.proofs.DeclaredLemmas.{declared_fit}
use Rattle.rd_ranges.proofs.DeviceLemmas.{any_devices, cut_applies, run_applies}
use Rattle.rd_ranges.proofs.laws.devices_stay_fit.Goals as goal

pub returns-clause-devices : goal.returns-clause-devices
returns-clause-devices c = any_devices

pub returns-clause-runs : goal.returns-clause-runs
returns-clause-runs c = run_applies

pub returns-clause-cuts : goal.returns-clause-cuts
returns-clause-cuts c = cut_applies

pub returns-clause-declared : goal.returns-clause-declared
returns-clause-declared c = declared_fit
