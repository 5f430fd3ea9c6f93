use Rattle.rd_script.proofs.LoadLemmas.{write_same}
use Rattle.rd_script.proofs.load.write_line.Goals as goal

pub returns : goal.returns
returns c = write_same c.args.application c.args.i c.of-handle.result c.in_ok-bytes.bytes c.from.result c.from-2.result c.of-handle.ensures c.from.ensures c.from-2.ensures c.in_ok-bytes.ensures
