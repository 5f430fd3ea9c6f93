use Rattle.std.proofs.Common.{refl}
use Rattle.rd_base.specs.Counted.{count_to, counted, counted_bytes, two_fields, four_fields}
use Rattle.rd_base.specs.Header.{component_field, header, header_among}
use Rattle.rd_devices.specs.DeviceList.{announce, device_list}
use Rattle.rd_devices.specs.DeviceReply.{device_reply}
use Rattle.rd_devices.specs.Removal.{removal}
use Rattle.rd_hello.specs.Capability.{special, general, other, body_of, capability, sets}
use Rattle.rd_hello.specs.Hello.{version, name, hello}
use Rattle.rd_irp.specs.Completion.{completion_head}
use Rattle.rd_irp.specs.Op.{close_body, op_body}
use Rattle.rd_irp.specs.Request.{request_head}
use Rattle.rd_printer.specs.Notice.{add_event, update_event, delete_event, rename_event, event_body, cache_data, using_xps, notice}
use Rattle.rd_host.proofs.laws.hosts_write_in_order.Goals as goal

pub returns-clause-opens : goal.returns-clause-opens
unfolding component_field header header_among count_to counted counted_bytes two_fields four_fields version name hello special general other body_of capability sets announce device_list device_reply removal completion_head request_head close_body op_body add_event update_event delete_event rename_event event_body cache_data using_xps notice
returns-clause-opens c = refl

pub returns-clause-replies : goal.returns-clause-replies
unfolding component_field header header_among count_to counted counted_bytes two_fields four_fields version name hello special general other body_of capability sets announce device_list device_reply removal completion_head request_head close_body op_body add_event update_event delete_event rename_event event_body cache_data using_xps notice
returns-clause-replies c = refl

pub returns-clause-unannounced : goal.returns-clause-unannounced
unfolding component_field header header_among count_to counted counted_bytes two_fields four_fields version name hello special general other body_of capability sets announce device_list device_reply removal completion_head request_head close_body op_body add_event update_event delete_event rename_event event_body cache_data using_xps notice
returns-clause-unannounced c = refl

pub returns-clause-twice : goal.returns-clause-twice
unfolding component_field header header_among count_to counted counted_bytes two_fields four_fields version name hello special general other body_of capability sets announce device_list device_reply removal completion_head request_head close_body op_body add_event update_event delete_event rename_event event_body cache_data using_xps notice
returns-clause-twice c = refl

pub returns-clause-code : goal.returns-clause-code
unfolding component_field header header_among count_to counted counted_bytes two_fields four_fields version name hello special general other body_of capability sets announce device_list device_reply removal completion_head request_head close_body op_body add_event update_event delete_event rename_event event_body cache_data using_xps notice
returns-clause-code c = refl

pub returns-clause-no_room : goal.returns-clause-no_room
unfolding component_field header header_among count_to counted counted_bytes two_fields four_fields version name hello special general other body_of capability sets announce device_list device_reply removal completion_head request_head close_body op_body add_event update_event delete_event rename_event event_body cache_data using_xps notice
returns-clause-no_room c = refl

pub returns-clause-collides : goal.returns-clause-collides
unfolding component_field header header_among count_to counted counted_bytes two_fields four_fields version name hello special general other body_of capability sets announce device_list device_reply removal completion_head request_head close_body op_body add_event update_event delete_event rename_event event_body cache_data using_xps notice
returns-clause-collides c = refl

pub returns-clause-no_second : goal.returns-clause-no_second
unfolding component_field header header_among count_to counted counted_bytes two_fields four_fields version name hello special general other body_of capability sets announce device_list device_reply removal completion_head request_head close_body op_body add_event update_event delete_event rename_event event_body cache_data using_xps notice
returns-clause-no_second c = refl

pub returns-clause-next_life : goal.returns-clause-next_life
unfolding component_field header header_among count_to counted counted_bytes two_fields four_fields version name hello special general other body_of capability sets announce device_list device_reply removal completion_head request_head close_body op_body add_event update_event delete_event rename_event event_body cache_data using_xps notice
returns-clause-next_life c = refl

pub returns-clause-silent : goal.returns-clause-silent
unfolding component_field header header_among count_to counted counted_bytes two_fields four_fields version name hello special general other body_of capability sets announce device_list device_reply removal completion_head request_head close_body op_body add_event update_event delete_event rename_event event_body cache_data using_xps notice
returns-clause-silent c = refl
