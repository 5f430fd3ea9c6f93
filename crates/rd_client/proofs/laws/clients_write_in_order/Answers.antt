use Rattle.std.proofs.Common.{refl}
use Rattle.rd_base.specs.Counted.{count_to, counted, counted_bytes, two_fields, four_fields}
use Rattle.rd_base.specs.Header.{component_field, header, header_among}
use Rattle.rd_devices.specs.DeviceList.{announce, device_list}
use Rattle.rd_devices.specs.DeviceReply.{device_reply}
use Rattle.rd_devices.specs.Removal.{removal}
use Rattle.rd_hello.specs.Capability.{special, general, other, body_of, capability, sets}
use Rattle.rd_hello.specs.Hello.{version, name, hello}
use Rattle.rd_irp.specs.Completion.{completion_head}
use Rattle.rd_irp.specs.Op.{close_body, op_body}
use Rattle.rd_irp.specs.Request.{request_head}
use Rattle.rd_printer.specs.Notice.{add_event, update_event, delete_event, rename_event, event_body, cache_data, using_xps, notice}
use Rattle.rd_client.proofs.laws.clients_write_in_order.Goals as goal

pub returns-clause-opens : goal.returns-clause-opens
unfolding component_field header header_among count_to counted counted_bytes two_fields four_fields version name hello special general other body_of capability sets announce device_list device_reply removal completion_head request_head close_body op_body add_event update_event delete_event rename_event event_body cache_data using_xps notice
returns-clause-opens c = refl

pub returns-clause-unasked : goal.returns-clause-unasked
unfolding component_field header header_among count_to counted counted_bytes two_fields four_fields version name hello special general other body_of capability sets announce device_list device_reply removal completion_head request_head close_body op_body add_event update_event delete_event rename_event event_body cache_data using_xps notice
returns-clause-unasked c = refl

pub returns-clause-other_order : goal.returns-clause-other_order
unfolding component_field header header_among count_to counted counted_bytes two_fields four_fields version name hello special general other body_of capability sets announce device_list device_reply removal completion_head request_head close_body op_body add_event update_event delete_event rename_event event_body cache_data using_xps notice
returns-clause-other_order c = refl

pub returns-clause-early : goal.returns-clause-early
unfolding component_field header header_among count_to counted counted_bytes two_fields four_fields version name hello special general other body_of capability sets announce device_list device_reply removal completion_head request_head close_body op_body add_event update_event delete_event rename_event event_body cache_data using_xps notice
returns-clause-early c = refl

pub returns-clause-too_short : goal.returns-clause-too_short
unfolding component_field header header_among count_to counted counted_bytes two_fields four_fields version name hello special general other body_of capability sets announce device_list device_reply removal completion_head request_head close_body op_body add_event update_event delete_event rename_event event_body cache_data using_xps notice
returns-clause-too_short c = refl

pub returns-clause-without : goal.returns-clause-without
unfolding component_field header header_among count_to counted counted_bytes two_fields four_fields version name hello special general other body_of capability sets announce device_list device_reply removal completion_head request_head close_body op_body add_event update_event delete_event rename_event event_body cache_data using_xps notice
returns-clause-without c = refl

pub returns-clause-too_long : goal.returns-clause-too_long
unfolding component_field header header_among count_to counted counted_bytes two_fields four_fields version name hello special general other body_of capability sets announce device_list device_reply removal completion_head request_head close_body op_body add_event update_event delete_event rename_event event_body cache_data using_xps notice
returns-clause-too_long c = refl

pub returns-clause-ignores : goal.returns-clause-ignores
unfolding component_field header header_among count_to counted counted_bytes two_fields four_fields version name hello special general other body_of capability sets announce device_list device_reply removal completion_head request_head close_body op_body add_event update_event delete_event rename_event event_body cache_data using_xps notice
returns-clause-ignores c = refl

pub returns-clause-removes : goal.returns-clause-removes
unfolding component_field header header_among count_to counted counted_bytes two_fields four_fields version name hello special general other body_of capability sets announce device_list device_reply removal completion_head request_head close_body op_body add_event update_event delete_event rename_event event_body cache_data using_xps notice
returns-clause-removes c = refl

pub returns-clause-removed_before : goal.returns-clause-removed_before
unfolding component_field header header_among count_to counted counted_bytes two_fields four_fields version name hello special general other body_of capability sets announce device_list device_reply removal completion_head request_head close_body op_body add_event update_event delete_event rename_event event_body cache_data using_xps notice
returns-clause-removed_before c = refl

pub returns-clause-adds : goal.returns-clause-adds
unfolding component_field header header_among count_to counted counted_bytes two_fields four_fields version name hello special general other body_of capability sets announce device_list device_reply removal completion_head request_head close_body op_body add_event update_event delete_event rename_event event_body cache_data using_xps notice
returns-clause-adds c = refl

pub returns-clause-announced_before : goal.returns-clause-announced_before
unfolding component_field header header_among count_to counted counted_bytes two_fields four_fields version name hello special general other body_of capability sets announce device_list device_reply removal completion_head request_head close_body op_body add_event update_event delete_event rename_event event_body cache_data using_xps notice
returns-clause-announced_before c = refl

pub returns-clause-foreign : goal.returns-clause-foreign
unfolding component_field header header_among count_to counted counted_bytes two_fields four_fields version name hello special general other body_of capability sets announce device_list device_reply removal completion_head request_head close_body op_body add_event update_event delete_event rename_event event_body cache_data using_xps notice
returns-clause-foreign c = refl

pub returns-clause-completes : goal.returns-clause-completes
unfolding component_field header header_among count_to counted counted_bytes two_fields four_fields version name hello special general other body_of capability sets announce device_list device_reply removal completion_head request_head close_body op_body add_event update_event delete_event rename_event event_body cache_data using_xps notice
returns-clause-completes c = refl

pub returns-clause-completes_before : goal.returns-clause-completes_before
unfolding component_field header header_among count_to counted counted_bytes two_fields four_fields version name hello special general other body_of capability sets announce device_list device_reply removal completion_head request_head close_body op_body add_event update_event delete_event rename_event event_body cache_data using_xps notice
returns-clause-completes_before c = refl
