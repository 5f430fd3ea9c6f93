use Rattle.rd_decode.proofs.MoreBytes.{more_bytes}
use Rattle.rd_decode.proofs.laws.first_fault_stays.Goals as goal

-- src/laws.rt:13:1
pub returns : goal.returns
returns c = λ bytes more f is. let same = more_bytes bytes more f is in (same.fault, same.whole, same.text)
