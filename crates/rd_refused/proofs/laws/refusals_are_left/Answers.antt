use Rattle.std.proofs.Common.{[], refl}
use Rattle.rd_replied.proofs.JournalsAnswerLemmas.{reached_spelled}
use Rattle.rd_replied.proofs.JournalsDeclaredLemmas.{bounded_fit}
use Rattle.rd_replied.proofs.JournalsRunLemmas.{orderly_lawful, reached_orderly}
use Rattle.rd_replied.proofs.RunsTogether.{known}
use Rattle.rd_declared.specs.Declaring.{bare_lines, declared_devices}
use Rattle.rd_world.specs.Session.{replies_in}
use Rattle.rd_deeds.proofs.Joined.{carried_now}
use Rattle.rd_replied.proofs.GoneLemmas.{reached_gone}
use Rattle.rd_replied.proofs.MatchLemmas.{all_same}
use Rattle.rd_replied.proofs.SinceLemmas.{all_since}
use Rattle.rd_refused.proofs.AnswerLemmas.{all_answer}
use Rattle.rd_refused.proofs.laws.refusals_are_left.Goals as goal

pub returns : goal.returns
returns c lines starves w premises reached refuses =
    let fit = bounded_fit lines premises.bounded in
    let orderly = reached_orderly lines starves w fit reached in
    all_answer (replies_in (declared_devices (bare_lines lines)) w.deeds) w.deeds refuses
    (all_since (declared_devices (bare_lines lines)) w.deeds fit (orderly_lawful w orderly) [] w.deeds refl (reached_gone lines starves fit premises w reached).each
    (all_same (declared_devices (bare_lines lines)) w.deeds (carried_now w.deeds (known lines starves premises w reached).carries.each) (orderly_lawful w orderly) orderly.held.reads
    [] w.deeds refl (reached_spelled lines starves fit premises w reached).each))
