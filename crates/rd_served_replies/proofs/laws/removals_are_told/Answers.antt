use Rattle.std.proofs.Common.{[]}
use Rattle.rd_served_replies.proofs.EachLemmas.{all_told}
use Rattle.rd_served_replies.proofs.ReadLemmas.{history_bytes}
use Rattle.rd_served_replies.proofs.laws.removals_are_told.Goals as goal

pub returns : goal.returns
returns c old new entries parts begins goes bytes = all_told old new entries parts begins goes (history_bytes entries parts old new [] goes bytes tt)
