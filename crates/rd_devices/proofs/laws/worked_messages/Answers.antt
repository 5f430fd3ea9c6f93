use Rattle.std.proofs.Common.{refl}
use Rattle.rd_base.specs.Header.{component_field, header}
use Rattle.rd_base.specs.Counted.{count_to, counted, counted_bytes, four_fields, four_fields_bytes}
use Rattle.rd_devices.specs.DeviceList.{announce, device_list}
use Rattle.rd_devices.specs.PrinterInfo.{printer_info}
use Rattle.rd_devices.proofs.laws.worked_messages.Goals as goal

pub returns : goal.returns
unfolding component_field header count_to counted counted_bytes four_fields four_fields_bytes announce device_list printer_info
returns c = record {
  list = refl;
  long_list = refl;
  cut_list = refl;
  removal = refl;
  reply = refl;
  printer = (refl, refl);
  printer_bytes = refl;
  cut_printer = refl;
}
