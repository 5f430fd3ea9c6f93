use Rattle.std.proofs.Common.{◌∙◌, refl}
use Rattle.rd_base.specs.Counted.{count_to, counted, counted_bytes, four_fields, four_fields_bytes, two_fields, two_fields_bytes}
use Rattle.rd_base.specs.Fields.{bytes16, bytes32, bytes64, bytes8}
use Rattle.rd_base.specs.Header.{component_field, header, header_among}
use Rattle.rd_devices.specs.DeviceList.{announce, device_list}
use Rattle.rd_devices.specs.DeviceReply.{device_reply}
use Rattle.rd_devices.specs.Removal.{removal}
use Rattle.rd_drive.specs.Outcome.{checked, given, one_of}
use Rattle.rd_hello.specs.Capability.{body_of, capability, general, other, sets, special}
use Rattle.rd_hello.specs.Hello.{hello, name, version}
use Rattle.rd_irp.specs.Completion.{completion_body, completion_head, success_body}
use Rattle.rd_irp.specs.Op.{close_body, create_body, directory_body, lock_body, notify_body, op_body, range, read_body, write_body}
use Rattle.rd_irp.specs.Request.{request_head}
use Rattle.rd_deeds.proofs.Example as example
use Rattle.rd_deeds.proofs.laws.a_session_is_joined.Goals as goal

pub returns-clause-joined : goal.returns-clause-joined
returns-clause-joined c = example.joined

pub returns-clause-outcomes : goal.returns-clause-outcomes
unfolding count_to counted counted_bytes two_fields four_fields two_fields_bytes four_fields_bytes bytes8 bytes16 bytes32 bytes64 component_field header header_among announce device_list device_reply removal checked one_of given special general other body_of capability sets version name hello completion_head success_body completion_body create_body close_body read_body write_body notify_body range lock_body directory_body op_body request_head
returns-clause-outcomes c = example.outcomes_along ∙ refl

pub returns-clause-waiting : goal.returns-clause-waiting
returns-clause-waiting c = refl
