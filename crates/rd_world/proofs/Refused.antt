-- Wrong turns of a session, which clauses refuse.
use Rattle.std.proofs.Common.{◌≡◌, refl, sym, subst, ◌≤◌, true, false, List, [], ◌∷◌, ◌++◌, length, arith}
use Rattle.rd_base.specs.Counted.{count_to, counted, counted_bytes, four_fields, four_fields_bytes, two_fields, two_fields_bytes}
use Rattle.rd_base.specs.Fields.{bytes16, bytes32, bytes64, bytes8}
use Rattle.rd_base.specs.Header.{component_field, header, header_among}
use Rattle.rd_devices.specs.DeviceList.{announce, device_list, list_bytes}
use Rattle.rd_devices.specs.Removal.{removal, removal_bytes}
use Rattle.std.specs.Option.{option_map_or}
use Rattle.rd_world.specs.Acts.{IsToldInTime, Opens, is_settled_client, tellings_on}
use Rattle.rd_world.specs.Recording.{client_stand}
use Rattle.rd_declared.specs.Devices.{announce_of}
use Rattle.rd_world.specs.Found.{found_devices, found_drive}
use Rattle.rd_world.specs.Lines.{IsDue}
use Rattle.rd_deeds.specs.Talk.{Deed, client_writes, host_begins}

abbrev told_early_deeds : List Deed
told_early_deeds = client_writes 1 (removal_bytes (1 ∷ [])) ∷ client_writes 1 (list_bytes (announce_of [] found_drive ∷ [])) ∷ host_begins 1 ∷ []

two_told : length (tellings_on 1 told_early_deeds) ≡ 2
unfolding count_to counted counted_bytes two_fields four_fields two_fields_bytes four_fields_bytes bytes8 bytes16 bytes32 bytes64 component_field header header_among announce device_list removal
two_told = refl

pub told_early : ¬ (IsToldInTime told_early_deeds)
told_early in_time = let one : length (tellings_on 1 told_early_deeds) ≤ 1 = in_time 1 in omega (arith, one, two_told)

nothing_before : (since before : List Deed) → [] ≡ since ++ before → before ≡ []
nothing_before [] before e = sym e
nothing_before (x ∷ since) before e = absurd (cc)

pub unopened : ¬ (Opens found_devices [] 0)
unopened (since, before, parts, opened) =
    let ready = subst (λ (deeds : List Deed). option_map_or is_settled_client (client_stand found_devices deeds 0) false ≡ true) (nothing_before since before parts) opened.client in
    absurd (cc (ready))

pub issued_early : ¬ (IsDue found_devices 2 (host_begins 1 ∷ []))
issued_early due = let more : 2 ≤ 1 = due.acted in omega (arith, more)
