use Rattle.std.proofs.Common.{refl}
use Rattle.rd_base.specs.Counted.{count_to, counted, counted_bytes, two_fields, four_fields}
use Rattle.rd_base.specs.Header.{component_field, header, header_among}
use Rattle.rd_devices.specs.DeviceList.{announce, device_list}
use Rattle.rd_devices.specs.DeviceReply.{device_reply}
use Rattle.rd_devices.specs.Removal.{removal}
use Rattle.rd_hello.specs.Capability.{special, general, other, body_of, capability, sets}
use Rattle.rd_hello.specs.Hello.{version, name, hello}
use Rattle.rd_irp.specs.Completion.{completion_head}
use Rattle.rd_irp.specs.Op.{close_body, op_body}
use Rattle.rd_irp.specs.Request.{request_head}
use Rattle.rd_printer.specs.Notice.{add_event, update_event, delete_event, rename_event, event_body, cache_data, using_xps, notice}
use Rattle.rd_client.proofs.laws.clients_open_as_listed.Goals as goal

pub returns-clause-ready : goal.returns-clause-ready
unfolding component_field header header_among count_to counted counted_bytes two_fields four_fields version name hello special general other body_of capability sets announce device_list device_reply removal completion_head request_head close_body op_body add_event update_event delete_event rename_event event_body cache_data using_xps notice
returns-clause-ready c = refl

pub returns-clause-writes : goal.returns-clause-writes
unfolding component_field header header_among count_to counted counted_bytes two_fields four_fields version name hello special general other body_of capability sets announce device_list device_reply removal completion_head request_head close_body op_body add_event update_event delete_event rename_event event_body cache_data using_xps notice
returns-clause-writes c = refl

pub returns-clause-confirm_first : goal.returns-clause-confirm_first
unfolding component_field header header_among count_to counted counted_bytes two_fields four_fields version name hello special general other body_of capability sets announce device_list device_reply removal completion_head request_head close_body op_body add_event update_event delete_event rename_event event_body cache_data using_xps notice
returns-clause-confirm_first c = refl

pub returns-clause-waiting : goal.returns-clause-waiting
unfolding component_field header header_among count_to counted counted_bytes two_fields four_fields version name hello special general other body_of capability sets announce device_list device_reply removal completion_head request_head close_body op_body add_event update_event delete_event rename_event event_body cache_data using_xps notice
returns-clause-waiting c = refl

pub returns-clause-once : goal.returns-clause-once
unfolding component_field header header_among count_to counted counted_bytes two_fields four_fields version name hello special general other body_of capability sets announce device_list device_reply removal completion_head request_head close_body op_body add_event update_event delete_event rename_event event_body cache_data using_xps notice
returns-clause-once c = refl

pub returns-clause-next_channel : goal.returns-clause-next_channel
unfolding component_field header header_among count_to counted counted_bytes two_fields four_fields version name hello special general other body_of capability sets announce device_list device_reply removal completion_head request_head close_body op_body add_event update_event delete_event rename_event event_body cache_data using_xps notice
returns-clause-next_channel c = refl

pub returns-clause-gone : goal.returns-clause-gone
unfolding component_field header header_among count_to counted counted_bytes two_fields four_fields version name hello special general other body_of capability sets announce device_list device_reply removal completion_head request_head close_body op_body add_event update_event delete_event rename_event event_body cache_data using_xps notice
returns-clause-gone c = refl

pub returns-clause-tells_removed : goal.returns-clause-tells_removed
unfolding component_field header header_among count_to counted counted_bytes two_fields four_fields version name hello special general other body_of capability sets announce device_list device_reply removal completion_head request_head close_body op_body add_event update_event delete_event rename_event event_body cache_data using_xps notice
returns-clause-tells_removed c = refl

pub returns-clause-tells_added : goal.returns-clause-tells_added
unfolding component_field header header_among count_to counted counted_bytes two_fields four_fields version name hello special general other body_of capability sets announce device_list device_reply removal completion_head request_head close_body op_body add_event update_event delete_event rename_event event_body cache_data using_xps notice
returns-clause-tells_added c = refl

pub returns-clause-no_trace : goal.returns-clause-no_trace
unfolding component_field header header_among count_to counted counted_bytes two_fields four_fields version name hello special general other body_of capability sets announce device_list device_reply removal completion_head request_head close_body op_body add_event update_event delete_event rename_event event_body cache_data using_xps notice
returns-clause-no_trace c = refl

pub returns-clause-refreshes : goal.returns-clause-refreshes
unfolding component_field header header_among count_to counted counted_bytes two_fields four_fields version name hello special general other body_of capability sets announce device_list device_reply removal completion_head request_head close_body op_body add_event update_event delete_event rename_event event_body cache_data using_xps notice
returns-clause-refreshes c = refl
