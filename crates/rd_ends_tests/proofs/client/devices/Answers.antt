-- The one drive can be announced.
use Rattle.std.proofs.Common.{[], ◌∷◌, lit≤, refl}
use Rattle.std.specs.List.{IsDistinct}
use Rattle.rd_client.specs.Core.{AreDevices}
use Rattle.rd_ends_tests.proofs.client.devices.Goals as goal

one_drive : AreDevices (record { kind = 8; id = 1; dos = 68 ∷ 65 ∷ 84 ∷ 65 ∷ 0 ∷ 0 ∷ 0 ∷ 0 ∷ []; body = [] } ∷ [])
unfolding IsDistinct
one_drive = record { few = lit≤ tt; apart = (tt, tt); fit = (lit≤ tt, lit≤ tt) }

pub returns : goal.returns
returns g c =
    let items = rw c.expect-list.ensures at c.from_array.ensures.items in
    rw (c.of-2.ensures, items, c.of.ensures, c.new.ensures.items) record { drive = refl; devices = one_drive }
