use Rattle.rd_journals.proofs.ReplyLemmas.{replies_grow, replies_once}
use Rattle.rd_journals.proofs.laws.replies_stay.Goals as goal

pub returns-clause-grows : goal.returns-clause-grows
returns-clause-grows c devices deeds device earlier more reply = replies_grow devices deeds device earlier more reply

pub returns-clause-once : goal.returns-clause-once
returns-clause-once c devices deeds device items fit lawful = replies_once devices deeds device items fit lawful
