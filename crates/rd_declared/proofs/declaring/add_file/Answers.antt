use Rattle.std.proofs.Common.{◌∙◌, ap, sym, Some}
use Rattle.rd_declared.proofs.HeldLemmas.{held_none, held_ok}
use Rattle.rd_declared.proofs.declaring.add_file.Goals as goal

pub returns-in-Some : goal.returns-in-Some
returns-in-Some c =
    held_ok c.args.id (c.args.path.now, Some c.args.bytes.now) c.add_file.result c.add_file.new.self c.in-Some.device.now c.args.devices.now.entries _ c.add_file.ensures (c.get_mut.follows.holds c.add_file.new.self).0
    (sym c.in-Some.ensures.value) c.get_mut.ensures.ordered

pub returns-in-None : goal.returns-in-None
returns-in-None c =
    ap (λ m. m.entries) c.get_mut.follows.holds-at-none
    ∙ sym (held_none c.args.id (c.args.path.now, Some c.args.bytes.now) c.args.devices.now.entries (sym c.in-None.ensures.value))
