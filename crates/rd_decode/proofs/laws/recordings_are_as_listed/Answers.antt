use Rattle.std.proofs.Common.{refl}
use Rattle.std.specs.Fmt.{digits}
use Rattle.rd_base.specs.Header.{component_field, header, header_among}
use Rattle.rd_base.specs.Counted.{count_to, counted, counted_bytes, two_fields, four_fields, two_fields_bytes, four_fields_bytes}
use Rattle.rd_hello.specs.Hello.{version, name, hello}
use Rattle.rd_irp.specs.Completion.{completion_head, success_body, completion_body}
use Rattle.rd_chunk.specs.Frames.{size_of, length_of, flags_of}
use Rattle.rd_chunk.specs.Faults.{fields_fault}
use Rattle.rd_decode.proofs.laws.recordings_are_as_listed.Goals as goal

-- src/laws.rt:20:1
pub returns-clause-nothing : goal.returns-clause-nothing
unfolding digits component_field header header_among count_to counted counted_bytes two_fields four_fields two_fields_bytes four_fields_bytes version name hello completion_head success_body completion_body size_of length_of flags_of fields_fault
returns-clause-nothing c = refl

-- src/laws.rt:20:1
pub returns-clause-no_channel : goal.returns-clause-no_channel
unfolding digits component_field header header_among count_to counted counted_bytes two_fields four_fields two_fields_bytes four_fields_bytes version name hello completion_head success_body completion_body size_of length_of flags_of fields_fault
returns-clause-no_channel c = refl

-- src/laws.rt:20:1
pub returns-clause-no_begin : goal.returns-clause-no_begin
unfolding digits component_field header header_among count_to counted counted_bytes two_fields four_fields two_fields_bytes four_fields_bytes version name hello completion_head success_body completion_body size_of length_of flags_of fields_fault
returns-clause-no_begin c = refl

-- src/laws.rt:20:1
pub returns-clause-line : goal.returns-clause-line
unfolding digits component_field header header_among count_to counted counted_bytes two_fields four_fields two_fields_bytes four_fields_bytes version name hello completion_head success_body completion_body size_of length_of flags_of fields_fault
returns-clause-line c = refl

-- src/laws.rt:20:1
pub returns-clause-good : goal.returns-clause-good
unfolding digits component_field header header_among count_to counted counted_bytes two_fields four_fields two_fields_bytes four_fields_bytes version name hello completion_head success_body completion_body size_of length_of flags_of fields_fault
returns-clause-good c = refl

-- src/laws.rt:20:1
pub returns-clause-cut : goal.returns-clause-cut
unfolding digits component_field header header_among count_to counted counted_bytes two_fields four_fields two_fields_bytes four_fields_bytes version name hello completion_head success_body completion_body size_of length_of flags_of fields_fault
returns-clause-cut c = refl

-- src/laws.rt:20:1
pub returns-clause-cut_text : goal.returns-clause-cut_text
unfolding digits component_field header header_among count_to counted counted_bytes two_fields four_fields two_fields_bytes four_fields_bytes version name hello completion_head success_body completion_body size_of length_of flags_of fields_fault
returns-clause-cut_text c = refl

-- src/laws.rt:20:1
pub returns-clause-empty_frame : goal.returns-clause-empty_frame
unfolding digits component_field header header_among count_to counted counted_bytes two_fields four_fields two_fields_bytes four_fields_bytes version name hello completion_head success_body completion_body size_of length_of flags_of fields_fault
returns-clause-empty_frame c = refl

-- src/laws.rt:20:1
pub returns-clause-stray : goal.returns-clause-stray
unfolding digits component_field header header_among count_to counted counted_bytes two_fields four_fields two_fields_bytes four_fields_bytes version name hello completion_head success_body completion_body size_of length_of flags_of fields_fault
returns-clause-stray c = refl

-- src/laws.rt:20:1
pub returns-clause-wrong_side : goal.returns-clause-wrong_side
unfolding digits component_field header header_among count_to counted counted_bytes two_fields four_fields two_fields_bytes four_fields_bytes version name hello completion_head success_body completion_body size_of length_of flags_of fields_fault
returns-clause-wrong_side c = refl

-- src/laws.rt:20:1
pub returns-clause-unfinished : goal.returns-clause-unfinished
unfolding digits component_field header header_among count_to counted counted_bytes two_fields four_fields two_fields_bytes four_fields_bytes version name hello completion_head success_body completion_body size_of length_of flags_of fields_fault
returns-clause-unfinished c = refl
