use Rattle.std.proofs.Common.{[]}
use Rattle.rd_served_replies.proofs.EachLemmas.{all_answered}
use Rattle.rd_served_replies.proofs.ReadLemmas.{history_bytes}
use Rattle.rd_served_replies.proofs.laws.completions_are_answered.Goals as goal

pub returns : goal.returns
returns c calm devices old new entries parts begins opened goes gives quiet bytes = all_answered calm devices old new entries parts begins opened goes gives quiet (history_bytes entries parts old new [] goes bytes tt)
