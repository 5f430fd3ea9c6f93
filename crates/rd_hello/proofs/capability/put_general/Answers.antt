use Rattle.rd_hello.proofs.CapabilityLemmas.{general_spelled}
use Rattle.rd_hello.proofs.capability.put_general.Goals as goal

pub returns-clause-spelled : goal.returns-clause-spelled
returns-clause-spelled c =
    let system = c.put_system.ensures.fits in
    let codes = c.put_codes.ensures.fits in
    general_spelled c.args.general.now
    (record { os = system.0; os_version = system.1; minor = system.2; codes = codes.0; codes2 = codes.1; extended = codes.2; extra = codes.3; extra2 = codes.4 }) c.put_special.ensures.fits
