use Rattle.std.proofs.Common.{◌≤◌, ◌<◌, arith}
use Rattle.std.proofs.Math.Decide.{dec_le}
use Rattle.std.proofs.lemmas.List.Elements.{All-weaker}
use mathlib.Core.Logic.{dite}
use Rattle.rd_desk.specs.declared.calls.DeskCall.{DeskCall}
use Rattle.rd_desk.specs.declared.calls.DeskReply.{DeskReply}
use Rattle.rd_desk.proofs.OwnLemmas.{none_back}
use Rattle.rd_turn.specs.History.{calls_of}
use Rattle.rd_turn.specs.declared.object.Entry.{Entry}
use Rattle.rd_turn.proofs.HistoryLemmas.{calls_of_none, count_of_none}
use Rattle.rd_served_replies.proofs.GivenLemmas.{own_before}
use Rattle.rd_served_replies.proofs.laws.passes_gave_their_own.Goals as goal

pub returns-clause-before : goal.returns-clause-before
returns-clause-before c seen later gives = own_before seen later gives

pub returns-clause-closed : goal.returns-clause-closed
returns-clause-closed c seen most few gives number = dite (dec_le number most)
    (λ le. gives number le)
    (λ n. let less : most < number = omega arith in
    none_back (calls_of number seen) (calls_of_none number seen (count_of_none number seen
    (All-weaker (λ (e : Entry DeskCall DeskReply). e.by ≤ most) (λ (e : Entry DeskCall DeskReply). e.by < number) (λ e within. omega (arith, within, less)) seen few))))
