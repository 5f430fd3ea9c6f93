use Rattle.std.proofs.Common.{refl}
use Rattle.rd_base.specs.Header.{component_field, header_among}
use Rattle.rd_base.specs.Counted.{count_to}
use Rattle.rd_hello.specs.Capability.{special, general, other, body_of, capability, sets}
use Rattle.rd_hello.specs.Hello.{version, name, hello}
use Rattle.rd_hello.proofs.laws.worked_sets.Goals as goal

pub returns : goal.returns
unfolding component_field header_among count_to version name special general other body_of capability sets hello
returns c = record {
  first_version = refl;
  long_printer = refl;
  port = refl;
}
