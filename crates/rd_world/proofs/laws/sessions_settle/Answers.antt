use Rattle.std.proofs.Common.{refl}
use Rattle.rd_base.specs.Counted.{count_to, counted, counted_bytes, two_fields, four_fields, two_fields_bytes, four_fields_bytes}
use Rattle.rd_base.specs.Fields.{bytes8, bytes16, bytes32, bytes64}
use Rattle.rd_base.specs.Header.{component_field, header, header_among}
use Rattle.rd_chunk.specs.Carrier.{carrier_frame}
use Rattle.rd_chunk.specs.Frames.{size_of, length_of, flags_of}
use Rattle.rd_devices.specs.DeviceList.{announce, device_list}
use Rattle.rd_devices.specs.DeviceReply.{device_reply}
use Rattle.rd_devices.specs.Removal.{removal}
use Rattle.rd_drive.specs.Outcome.{checked, one_of, given}
use Rattle.rd_hello.specs.Capability.{special, general, other, body_of, capability, sets}
use Rattle.rd_hello.specs.Hello.{version, name, hello}
use Rattle.rd_irp.specs.Completion.{completion_head, success_body, completion_body}
use Rattle.rd_irp.specs.Op.{create_body, close_body, read_body, write_body, notify_body, range, lock_body, directory_body, op_body}
use Rattle.rd_irp.specs.Request.{request_head}
use Rattle.rd_printer.specs.Notice.{add_event, update_event, delete_event, rename_event, event_body, cache_data, using_xps, notice}
use Rattle.rd_declared.specs.Devices.{declaring, furnishing}
use Rattle.rd_world.specs.Control.{controlled}
use Rattle.rd_world.specs.Run.{asked_by, notice_of, controls, setting}
use Rattle.rd_world.specs.Acts.{is_settle}
use Rattle.rd_world.proofs.laws.sessions_settle.Goals as goal

pub returns-clause-printers : goal.returns-clause-printers
unfolding count_to counted counted_bytes two_fields four_fields two_fields_bytes four_fields_bytes bytes8 bytes16 bytes32 bytes64 component_field header header_among carrier_frame size_of length_of flags_of announce device_list device_reply removal checked one_of given special general other body_of capability sets version name hello completion_head success_body completion_body create_body close_body read_body write_body notify_body range lock_body directory_body op_body request_head add_event update_event delete_event rename_event event_body cache_data using_xps notice declaring furnishing asked_by notice_of controls setting controlled is_settle
returns-clause-printers c = refl

pub returns-clause-removals : goal.returns-clause-removals
unfolding count_to counted counted_bytes two_fields four_fields two_fields_bytes four_fields_bytes bytes8 bytes16 bytes32 bytes64 component_field header header_among carrier_frame size_of length_of flags_of announce device_list device_reply removal checked one_of given special general other body_of capability sets version name hello completion_head success_body completion_body create_body close_body read_body write_body notify_body range lock_body directory_body op_body request_head add_event update_event delete_event rename_event event_body cache_data using_xps notice declaring furnishing asked_by notice_of controls setting controlled is_settle
returns-clause-removals c = refl

pub returns-clause-reconnections : goal.returns-clause-reconnections
unfolding count_to counted counted_bytes two_fields four_fields two_fields_bytes four_fields_bytes bytes8 bytes16 bytes32 bytes64 component_field header header_among carrier_frame size_of length_of flags_of announce device_list device_reply removal checked one_of given special general other body_of capability sets version name hello completion_head success_body completion_body create_body close_body read_body write_body notify_body range lock_body directory_body op_body request_head add_event update_event delete_event rename_event event_body cache_data using_xps notice declaring furnishing asked_by notice_of controls setting controlled is_settle
returns-clause-reconnections c = refl

pub returns-clause-locks : goal.returns-clause-locks
unfolding count_to counted counted_bytes two_fields four_fields two_fields_bytes four_fields_bytes bytes8 bytes16 bytes32 bytes64 component_field header header_among carrier_frame size_of length_of flags_of announce device_list device_reply removal checked one_of given special general other body_of capability sets version name hello completion_head success_body completion_body create_body close_body read_body write_body notify_body range lock_body directory_body op_body request_head add_event update_event delete_event rename_event event_body cache_data using_xps notice declaring furnishing asked_by notice_of controls setting controlled is_settle
returns-clause-locks c = refl

pub returns-clause-notifications : goal.returns-clause-notifications
unfolding count_to counted counted_bytes two_fields four_fields two_fields_bytes four_fields_bytes bytes8 bytes16 bytes32 bytes64 component_field header header_among carrier_frame size_of length_of flags_of announce device_list device_reply removal checked one_of given special general other body_of capability sets version name hello completion_head success_body completion_body create_body close_body read_body write_body notify_body range lock_body directory_body op_body request_head add_event update_event delete_event rename_event event_body cache_data using_xps notice declaring furnishing asked_by notice_of controls setting controlled is_settle
returns-clause-notifications c = refl
