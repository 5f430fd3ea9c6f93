-- The replies that a device's journal gives, by the requests that its client read.
use Rattle.std.specs.Prelude.{◌≡◌, ℕ, List, [], Some}
use Rattle.std.specs.Map.{lookup}
use Rattle.std.specs.Option.{option_map_or, unwrap_or}
use Rattle.std.specs.Ordering.{nat_cmp}
use Rattle.std.specs.BTreeMap.{is_at}
use Rattle.rd_base.specs.declared.journal.Item.{Item}
use Rattle.rd_base.specs.declared.journal.Item.TheVariants.{Ran}
use Rattle.rd_base.specs.declared.journal.Key.{Key}
use Rattle.rd_drive.specs.Replies.{replies_by}
use Rattle.rd_irp.specs.declared.request.Request.{Request}
use Rattle.rd_declared.specs.Devices.{Declared, device_cut, device_step}
use Rattle.rd_deeds.specs.Talk.{Deed, client_read, request_at}
use Rattle.rd_deeds.specs.Told.{Replies}
use Rattle.rd_irp.specs.declared.op.Op.TheVariants.{Close}

-- what a key that names no request stands for
abbrev pub no_request : Request
no_request = record { device = 0; file = 0; completion = 0; op = Close }

-- the request of a key among those that the client read
abbrev pub request_read : List Deed → Key → Request
request_read deeds key = unwrap_or (request_at (client_read key.channel deeds) key.index) no_request

-- the replies that a device's journal gives by those, from the device's beginning on
abbrev pub replies_read : List (ℕ × Declared) → List Deed → Replies
replies_read devices deeds device items =
    option_map_or (λ (d : Declared). replies_by device_step device_cut (request_read deeds) d.state items) (lookup (is_at (nat_cmp device)) devices) []

-- the request that ran was read
abbrev pub RanRead : List Deed → Item → Type 0
RanRead deeds (Ran key moment starved parked) = (r : Request) × (request_at (client_read key.channel deeds) key.index ≡ Some r)
RanRead deeds _ = Unit {0}
