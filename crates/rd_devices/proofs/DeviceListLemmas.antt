-- That the bytes of a device and of a list spell it.
use Rattle.std.proofs.Common.{◌≡◌, ◌<◌, ◌^◌, List, [], length}
use Rattle.rd_base.specs.declared.packet.Packet.TheVariants.{DeviceListAnnounce}
use Rattle.rd_base.specs.Layout.{four_bytes}
use Rattle.rd_base.specs.Counted.{counted, items_and_count}
use Rattle.rd_base.specs.Spelling.{IsSpelling}
use Rattle.rd_base.specs.Limits.{max_devices}
use Rattle.rd_base.proofs.WrittenLemmas.{done_last, number_then, bytes_then, spells_all}
use Rattle.rd_base.proofs.SpellingLemmas.{written}
use Rattle.rd_base.proofs.CountedLemmas.{counted_bytes_last}
use Rattle.rd_base.proofs.HeaderLemmas.{header_then}
use Rattle.rd_devices.specs.declared.list.Announce.{Announce}
use Rattle.rd_devices.specs.DeviceList.{announce, device_list, announce_bytes, list_bytes, SpellsList}

pub announce_spelled : (a : Announce) → a.kind < 2 ^ 32 → a.id < 2 ^ 32 → length a.dos ≡ 8 → length a.body < 2 ^ 32 → IsSpelling announce a (announce_bytes a)
unfolding announce
announce_spelled a kind id dos body = written announce a (announce_bytes a) λ after.
    number_then a.kind kind (number_then a.id id (bytes_then a.dos dos (counted_bytes_last a.body body (done_last a after))))

-- a whole list, whose count and devices are spelled
pub list_spelled : (list : List Announce) → IsSpelling (counted four_bytes max_devices announce) list (items_and_count announce_bytes list) → SpellsList list 0 (list_bytes list)
unfolding device_list
list_spelled list each = spells_all device_list list (list_bytes list) (header_then DeviceListAnnounce (record { spelled = each.whatever [] }))
