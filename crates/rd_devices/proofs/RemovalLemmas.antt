-- That the bytes of a removal spell it.
use Rattle.std.proofs.Common.{◌≡◌, ℕ, ◌*◌, List, [], ◌∷◌, length, refl, arith, length-append}
use Rattle.std.specs.List.{flat_map}
use Rattle.std.specs.Int.{w32, to_le_bytes}
use Rattle.rd_base.specs.declared.packet.Packet.TheVariants.{DeviceListRemove}
use Rattle.rd_base.specs.Layout.{four_bytes}
use Rattle.rd_base.specs.Fields.{number32}
use Rattle.rd_base.specs.Counted.{counted, items_and_count}
use Rattle.rd_base.specs.Spelling.{IsSpelling}
use Rattle.rd_base.specs.Limits.{max_devices}
use Rattle.rd_base.proofs.WrittenLemmas.{spells_all}
use Rattle.rd_base.proofs.HeaderLemmas.{header_then}
use Rattle.rd_devices.specs.Removal.{removal, removal_bytes, SpellsRemoval}

-- a whole removal, whose count and ids are spelled
pub removal_spelled : (ids : List ℕ) → IsSpelling (counted four_bytes max_devices number32) ids (items_and_count (to_le_bytes w32) ids) → SpellsRemoval ids 0 (removal_bytes ids)
unfolding removal
removal_spelled ids each = spells_all removal ids (removal_bytes ids) (header_then DeviceListRemove (record { spelled = each.whatever [] }))

-- ids take four bytes each
pub length_ids : (ids : List ℕ) → length (flat_map (to_le_bytes w32) ids) ≡ 4 * length ids
length_ids [] = refl
length_ids (id ∷ ids) = omega (arith, length-append (to_le_bytes w32 id) (flat_map (to_le_bytes w32) ids), length_ids ids)
