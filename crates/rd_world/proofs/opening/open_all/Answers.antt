use Rattle.std.proofs.Common.{subst, ℕ, List}
use Rattle.std.proofs.lemmas.Bool.{false≢true}
use Rattle.rd_declared.specs.Devices.{Declared}
use Rattle.rd_world.proofs.OpenedLemmas.{OpensSome, nothing_left, opens_above, opens_all, opens_few}
use Rattle.rd_world.proofs.opening.open_all.Goals as goal

pub add-requires-clause-above : goal.add-requires-clause-above
add-requires-clause-above c =
    let opens = subst (λ (left : List (ℕ × Declared)). OpensSome c.args.devices.entries left c.loop-id.opened.stations c.loop-id.opened.announced.items c.loop-id.opened.printers)
    c.in-Some.ensures.removal c.loop-id.invariant in
    opens_above c.args.devices.entries c.pop_first.new.self.entries (c.in-Some.id, c.in-Some.device) c.loop-id.opened.stations c.loop-id.opened.announced.items c.loop-id.opened.printers c.requires opens

pub add-requires-clause-few : goal.add-requires-clause-few
add-requires-clause-few c =
    let opens = subst (λ (left : List (ℕ × Declared)). OpensSome c.args.devices.entries left c.loop-id.opened.stations c.loop-id.opened.announced.items c.loop-id.opened.printers)
    c.in-Some.ensures.removal c.loop-id.invariant in
    opens_few c.args.devices.entries c.pop_first.new.self.entries (c.in-Some.id, c.in-Some.device) c.loop-id.opened.stations c.loop-id.opened.announced.items c.loop-id.opened.printers c.requires opens

pub returns : goal.returns
returns c =
    let opens = subst (λ (left : List (ℕ × Declared)). OpensSome c.args.devices.entries left c.loop-id.opened.stations c.loop-id.opened.announced.items c.loop-id.opened.printers)
    (nothing_left c.loop-id.devices.entries c.in_default.ensures.variant.1 false≢true) c.loop-id.invariant in
    rw c.of.ensures (opens_all c.args.devices.entries c.loop-id.opened.stations c.loop-id.opened.announced.items c.loop-id.opened.printers c.requires opens)
