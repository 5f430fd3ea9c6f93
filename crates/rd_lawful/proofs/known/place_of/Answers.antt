use Rattle.std.proofs.Common.{rules}
use Rattle.std.proofs.lemmas.List.Sorted.{answers_always}
use Rattle.rd_lawful.specs.Memory.{known_key}
use Rattle.rd_lawful.proofs.KnownLemmas.{searched}
use Rattle.rd_lawful.proofs.known.place_of.Goals as goal

pub returns-clause-some : goal.returns-clause-some
returns-clause-some c =
    let is = c.binary_search_by_key.ensures.position known_key (answers_always _ _ _ (λ f a r g h. search rules)) in
    (searched c.args.known.now c.args.key c.binary_search_by_key.result c.ok.result c.requires c.binary_search_by_key.ensures.bound is c.ok.ensures.value).0

pub returns-clause-none : goal.returns-clause-none
returns-clause-none c =
    let is = c.binary_search_by_key.ensures.position known_key (answers_always _ _ _ (λ f a r g h. search rules)) in
    (searched c.args.known.now c.args.key c.binary_search_by_key.result c.ok.result c.requires c.binary_search_by_key.ensures.bound is c.ok.ensures.value).1
