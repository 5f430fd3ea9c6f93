use Rattle.std.proofs.Common.{Some, ap}
use Rattle.std.specs.Prelude.{Result}
use Rattle.rd_decode.specs.declared.fault.EntryFault.{EntryFault}
use Rattle.rd_decode.specs.Messages.{Printed}
use Rattle.rd_printed.specs.Printed.{text_of}
use Rattle.rd_printed.proofs.ValueLemmas.{completion_line_is, request_text_is}
use Rattle.rd_printed.proofs.laws.lines_say_values.Goals as goal
use Rattle.rd_world.specs.Recording.{request_of}

pub returns : goal.returns
returns c = record {
  requests = λ before channel message r spells. request_text_is before channel message r spells;
  completions = λ before key message reply is. ap (λ (x : Result Printed EntryFault). text_of (Some x)) (completion_line_is (request_of before key) reply message is);
}
