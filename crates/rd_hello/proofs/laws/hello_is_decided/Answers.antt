use Rattle.rd_base.proofs.LayoutLemmas.{layout_one_of}
use Rattle.rd_hello.specs.Hello.{hello}
use Rattle.rd_hello.proofs.laws.hello_is_decided.Goals as goal

pub returns : goal.returns
returns c = layout_one_of hello _ c.type_inv.bytes
