use Rattle.std.proofs.Common.{◌≡◌, ◌≤◌, ℕ, Some, refl, sym, subst, true, lit<, take, arith}
use Rattle.rd_base.specs.Counted.{count_to, counted, counted_bytes, two_fields, four_fields}
use Rattle.rd_base.specs.Header.{component_field, header, header_among}
use Rattle.rd_devices.specs.DeviceList.{announce, device_list}
use Rattle.rd_devices.specs.DeviceReply.{device_reply}
use Rattle.rd_devices.specs.Removal.{removal}
use Rattle.rd_hello.specs.Capability.{special, general, other, body_of, capability, sets}
use Rattle.rd_hello.specs.Hello.{version, name, hello}
use Rattle.rd_irp.specs.Completion.{completion_head}
use Rattle.rd_irp.specs.Op.{close_body, op_body}
use Rattle.rd_irp.specs.Request.{request_head}
use Rattle.rd_printer.specs.Notice.{add_event, update_event, delete_event, rename_event, event_body, cache_data, using_xps, notice}
use Rattle.rd_base.specs.declared.packet.Packet.{Packet}
use Rattle.rd_base.specs.declared.packet.Packet.TheVariants as packet
use Rattle.rd_core.specs.Hearing.{IsSoundTo, is_read_in, said}
use Rattle.rd_client.specs.Core.{client_asks_at, client_side}
use Rattle.rd_client.specs.Worked.{client, close_bytes, ready}
use Rattle.rd_client.proofs.laws.clients_want_memory.Goals as goal

pub returns-clause-request : goal.returns-clause-request
unfolding component_field header header_among count_to counted counted_bytes two_fields four_fields version name hello special general other body_of capability sets announce device_list device_reply removal completion_head request_head close_body op_body add_event update_event delete_event rename_event event_body cache_data using_xps notice
returns-clause-request c = (lit< tt, (record { sound = refl; packet = packet.IoRequest; named = refl; read = refl; place = 24; asks = refl; none_before = tt }, refl))

pub returns-clause-short : goal.returns-clause-short
unfolding component_field header header_among count_to counted counted_bytes two_fields four_fields version name hello special general other body_of capability sets announce device_list device_reply removal completion_head request_head close_body op_body add_event update_event delete_event rename_event event_body cache_data using_xps notice
returns-clause-short c = λ step.
    let lack = step.1.0 in
    let is : packet.IoRequest ≡ lack.packet = cc lack.named in
    let at : Some 24 ≡ Some lack.place = subst (λ (p : Packet). client_asks_at p ≡ Some lack.place) (sym is) lack.asks in
    let same : 24 ≡ lack.place = cc at in
    let before : 24 ≤ 8 = subst (λ (n : ℕ). IsSoundTo client_side n (said client_side (ready.core).shake (take 10 (close_bytes 5)))) (sym same) lack.none_before in
    absurd (omega (arith, before))

pub returns-clause-reply : goal.returns-clause-reply
unfolding component_field header header_among count_to counted counted_bytes two_fields four_fields version name hello special general other body_of capability sets announce device_list device_reply removal completion_head request_head close_body op_body add_event update_event delete_event rename_event event_body cache_data using_xps notice
returns-clause-reply c = λ step.
    let lack = step.1.0 in
    let is : packet.DeviceReply ≡ lack.packet = cc lack.named in
    cc (subst (λ (p : Packet). client_asks_at p ≡ Some lack.place) (sym is) lack.asks)

pub returns-clause-unread : goal.returns-clause-unread
unfolding component_field header header_among count_to counted counted_bytes two_fields four_fields version name hello special general other body_of capability sets announce device_list device_reply removal completion_head request_head close_body op_body add_event update_event delete_event rename_event event_body cache_data using_xps notice
returns-clause-unread c = λ step.
    let lack = step.1.0 in
    let is : packet.IoRequest ≡ lack.packet = cc lack.named in
    cc (subst (λ (p : Packet). is_read_in client_side (client.core).shake p ≡ true) (sym is) lack.read)
