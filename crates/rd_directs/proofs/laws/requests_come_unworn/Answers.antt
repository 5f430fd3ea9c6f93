use Rattle.std.specs.Prelude.{ℕ}
use Rattle.rd_deeds.proofs.Journals.{plain_of}
use Rattle.rd_deeds.specs.Talk.{journal}
use Rattle.rd_directs.proofs.WornLemmas.{comes_unworn}
use Rattle.rd_directs.proofs.laws.requests_come_unworn.Goals as goal

pub returns : goal.returns
returns c replies deeds answers lawful few = comes_unworn replies deeds answers (λ d. plain_of (journal d deeds) (lawful d)) few
