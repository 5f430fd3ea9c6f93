use Rattle.rd_told.proofs.PrintedLemmas.{device_left, documents_told}
use Rattle.rd_told.proofs.laws.devices_are_left.Goals as goal

pub returns : goal.returns
returns c = record {
  left = λ lines starves w premises reached. device_left lines starves premises w reached;
  documents = λ lines starves w premises reached. documents_told lines starves premises w reached;
}
