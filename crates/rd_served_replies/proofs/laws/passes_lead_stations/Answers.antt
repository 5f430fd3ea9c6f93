use Rattle.std.proofs.Common.{[]}
use Rattle.rd_served_replies.proofs.BeginLemmas.{IsNewStation, IsOneOf, first_new, first_of, known_first}
use Rattle.rd_served_replies.proofs.FollowLemmas.{history_followed}
use Rattle.rd_served_replies.proofs.laws.passes_lead_stations.Goals as goal

pub returns-clause-stationed : goal.returns-clause-stationed
returns-clause-stationed c old new entries parts begins goes place d s there has = (history_followed IsNewStation entries parts old new [] goes (known_first old begins) (first_new old begins)).stationed place d s (there, has)

pub returns-clause-opened : goal.returns-clause-opened
returns-clause-opened c devices old new entries parts begins opened goes = record {
  fit = opened.fit;
  each = λ place d there.
      let one = (history_followed (IsOneOf devices) entries parts old new [] goes (known_first old begins) (first_of devices old begins opened)).opened place d there in
      (one.opening, one.found, one.is);
}
