use Rattle.std.proofs.Common.{◌≡◌, ◌≤◌, ℕ, Some, refl, sym, subst, true, arith}
use Rattle.rd_base.specs.Counted.{count_to, counted, counted_bytes, two_fields, four_fields}
use Rattle.rd_base.specs.Header.{component_field, header, header_among}
use Rattle.rd_devices.specs.DeviceList.{announce, device_list}
use Rattle.rd_devices.specs.DeviceReply.{device_reply}
use Rattle.rd_devices.specs.Removal.{removal}
use Rattle.rd_hello.specs.Capability.{special, general, other, body_of, capability, sets}
use Rattle.rd_hello.specs.Hello.{version, name, hello}
use Rattle.rd_irp.specs.Completion.{completion_head}
use Rattle.rd_irp.specs.Op.{close_body, op_body}
use Rattle.rd_irp.specs.Request.{request_head}
use Rattle.rd_printer.specs.Notice.{add_event, update_event, delete_event, rename_event, event_body, cache_data, using_xps, notice}
use Rattle.rd_base.specs.declared.packet.Packet.{Packet}
use Rattle.rd_base.specs.declared.packet.Packet.TheVariants as packet
use Rattle.rd_core.specs.Hearing.{IsSoundTo, is_read_in, said}
use Rattle.rd_host.specs.Core.{host_asks_at, host_side}
use Rattle.rd_host.specs.Worked.{host, ready, short_head}
use Rattle.rd_host.proofs.laws.hosts_want_memory.Goals as goal

pub returns-clause-list : goal.returns-clause-list
unfolding component_field header header_among count_to counted counted_bytes two_fields four_fields version name hello special general other body_of capability sets announce device_list device_reply removal completion_head request_head close_body op_body add_event update_event delete_event rename_event event_body cache_data using_xps notice
returns-clause-list c = (record { sound = refl; packet = packet.DeviceListAnnounce; named = refl; read = refl; place = 8; asks = refl; none_before = tt }, refl)

pub returns-clause-short_head : goal.returns-clause-short_head
unfolding component_field header header_among count_to counted counted_bytes two_fields four_fields version name hello special general other body_of capability sets announce device_list device_reply removal completion_head request_head close_body op_body add_event update_event delete_event rename_event event_body cache_data using_xps notice
returns-clause-short_head c = λ step.
    let lack = step.0 in
    let is : packet.IoCompletion ≡ lack.packet = cc lack.named in
    let at : Some 16 ≡ Some lack.place = subst (λ (p : Packet). host_asks_at p ≡ Some lack.place) (sym is) lack.asks in
    let same : 16 ≡ lack.place = cc at in
    let before : 16 ≤ 4 = subst (λ (n : ℕ). IsSoundTo host_side n (said host_side (ready.core).shake short_head)) (sym same) lack.none_before in
    absurd (omega (arith, before))

pub returns-clause-unread : goal.returns-clause-unread
unfolding component_field header header_among count_to counted counted_bytes two_fields four_fields version name hello special general other body_of capability sets announce device_list device_reply removal completion_head request_head close_body op_body add_event update_event delete_event rename_event event_body cache_data using_xps notice
returns-clause-unread c = λ step.
    let is : packet.DeviceListAnnounce ≡ step.0.packet = cc step.0.named in
    cc (subst (λ (p : Packet). is_read_in host_side (host.core).shake p ≡ true) (sym is) step.0.read)
