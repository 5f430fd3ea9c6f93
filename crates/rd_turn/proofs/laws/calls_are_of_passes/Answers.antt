use Rattle.rd_turn.specs.History.{calls_of}
use Rattle.rd_turn.proofs.HistoryLemmas.{calls_of-append, calls_of-at, by_at}
use Rattle.rd_turn.proofs.laws.calls_are_of_passes.Goals as goal

pub returns-clause-appended : goal.returns-clause-appended
returns-clause-appended g k number xs ys = calls_of-append number xs ys

pub returns-clause-whole : goal.returns-clause-whole
returns-clause-whole g k test most entries few each before later e is =
    each e.by (calls_of e.by before) (calls_of e.by later) e (by_at most entries before later e few is) (calls_of-at entries before later e is)
