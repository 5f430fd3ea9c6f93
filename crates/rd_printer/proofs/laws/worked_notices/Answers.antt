use Rattle.std.proofs.Common.{refl}
use Rattle.rd_base.specs.Header.{component_field, header_among}
use Rattle.rd_base.specs.Counted.{counted_bytes, two_fields, four_fields, two_fields_bytes, four_fields_bytes}
use Rattle.rd_printer.specs.Notice.{add_event, rename_event, delete_event, event_body, cache_data, notice}
use Rattle.rd_printer.proofs.laws.worked_notices.Goals as goal

pub returns : goal.returns
unfolding component_field header_among counted_bytes two_fields four_fields two_fields_bytes four_fields_bytes add_event rename_event delete_event event_body cache_data notice
returns c = record {
  unknown_event = refl;
  other_packet = refl;
  cut_name = refl;
  addition = (refl, refl);
  addition_bytes = refl;
  renaming = (refl, refl);
  renaming_bytes = refl;
  whole_port = refl;
}
