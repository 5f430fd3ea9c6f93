use Rattle.std.proofs.Common.{ap}
use Rattle.rd_decode.specs.Recording.{Decoded}
use Rattle.rd_printed.proofs.DeedLemmas.{lines_printed, printed}
use Rattle.rd_printed.proofs.laws.deeds_are_printed.Goals as goal

pub returns : goal.returns
returns c = record {
  lines = λ deeds is. lines_printed deeds is;
  good = λ deeds is. ap (λ (d : Decoded). d.fault) (printed deeds is);
  whole = λ deeds is. ap (λ (d : Decoded). d.whole_fault) (printed deeds is);
}
