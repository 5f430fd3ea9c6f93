use Rattle.std.proofs.Common.{◌∙◌, refl, sym, ap, Err}
use Rattle.rd_dirinfo.specs.Paths.{path_fault}
use Rattle.rd_script.proofs.PathLemmas.{path_none}
use Rattle.rd_script.proofs.devices.split.Goals as goal

pub returns-in-Err-Invalid : goal.returns-in-Err-Invalid
returns-in-Err-Invalid c =
    let at = c.in-Err-Invalid.field-0-0 in
    let fault = (c.split.ensures.invalid at).0 (c.in-Err-Invalid.is ∙ ap Err c.in-Err-Invalid.field-0-is) in
    (path_none c.args.units.now at (ap path_fault (sym c.as_slice.ensures) ∙ fault), refl)
