use Rattle.std.proofs.Common.{◌≡◌, ◌∙◌, Some, ap, false, sym}
use Rattle.std.specs.Prelude.{filter, map}
use Rattle.rd_devices.specs.DeviceList.{list_bytes}
use Rattle.rd_client.specs.Core.{announce_in, is_device, plain}
use Rattle.rd_client.specs.Heard.{client_devices, is_in_list}
use Rattle.rd_client.proofs.KeptLemmas.{some_list_fits}
use Rattle.rd_client.proofs.ListingLemmas.{listed_one_is, announces_are, list_countable, list_short}
use Rattle.rd_client.proofs.MarkLemmas.{marked_are, told, told_kept}
use Rattle.rd_client.proofs.client_core.ClientCore.tell_added.Goals as goal

pub write_told-requires-clause-countable : goal.write_told-requires-clause-countable
write_told-requires-clause-countable c =
    list_countable c.as_slice.result.now (rw (c.as_slice.ensures.value, ← announces_are c.self.inside.gone c.self.inside.devices.items) c.self.invariant.devices.fit)

pub write_told-requires-clause-short : goal.write_told-requires-clause-short
write_told-requires-clause-short c =
    list_short _ c.as_slice.result.now (rw (c.as_slice.ensures.value, ← announces_are c.self.inside.gone c.self.inside.devices.items) c.self.invariant.devices.fit)

pub invariant_of-self-2 : goal.invariant_of-self-2
invariant_of-self-2 c =
    let same : c.plain.result ≡ plain (list_bytes (map announce_in (filter (is_device c.args.device) (client_devices c.self.inside.devices.items c.self.inside.gone)))) =
    c.plain.ensures ∙ ap (λ m. plain m)
    (c.in_ok-message.ensures ∙ ap (λ ds. list_bytes (filter (is_in_list c.self.inside.gone (Some c.args.device)) ds)) c.as_slice.ensures.value
    ∙ ap (λ ds. list_bytes ds) (sym (listed_one_is c.self.inside.gone c.args.device c.self.inside.devices.items))) in
    let marks = marked_are c.self.inside.gone c.remove.new.self c.args.device false c.remove.ensures.updates.0 c.self.inside.devices.items in
    told_kept _ c.args.device false _ _ _ _ c.self.invariant (some_list_fits (is_device c.args.device) (client_devices c.self.inside.devices.items c.self.inside.gone) c.self.invariant.devices) c.in_ok-put.ensures.ok same marks

pub returns-clause-step : goal.returns-clause-step
returns-clause-step c =
    let same : c.plain.result ≡ plain (list_bytes (map announce_in (filter (is_device c.args.device) (client_devices c.self.inside.devices.items c.self.inside.gone)))) =
    c.plain.ensures ∙ ap (λ m. plain m)
    (c.in_ok-message.ensures ∙ ap (λ ds. list_bytes (filter (is_in_list c.self.inside.gone (Some c.args.device)) ds)) c.as_slice.ensures.value
    ∙ ap (λ ds. list_bytes ds) (sym (listed_one_is c.self.inside.gone c.args.device c.self.inside.devices.items))) in
    let marks = marked_are c.self.inside.gone c.remove.new.self c.args.device false c.remove.ensures.updates.0 c.self.inside.devices.items in
    (c.requires, rw (← c.self.view_is) (told _ c.args.device false _ _ _ _ c.in_ok-put.ensures.ok same marks))

pub returns-clause-kept : goal.returns-clause-kept
returns-clause-kept c =
    let same : c.plain.result ≡ plain (list_bytes (map announce_in (filter (is_device c.args.device) (client_devices c.self.inside.devices.items c.self.inside.gone)))) =
    c.plain.ensures ∙ ap (λ m. plain m)
    (c.in_ok-message.ensures ∙ ap (λ ds. list_bytes (filter (is_in_list c.self.inside.gone (Some c.args.device)) ds)) c.as_slice.ensures.value
    ∙ ap (λ ds. list_bytes ds) (sym (listed_one_is c.self.inside.gone c.args.device c.self.inside.devices.items))) in
    let marks = marked_are c.self.inside.gone c.remove.new.self c.args.device false c.remove.ensures.updates.0 c.self.inside.devices.items in
    told_kept _ c.args.device false _ _ _ _ c.self.invariant (some_list_fits (is_device c.args.device) (client_devices c.self.inside.devices.items c.self.inside.gone) c.self.invariant.devices) c.in_ok-put.ensures.ok same marks
