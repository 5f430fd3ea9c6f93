use Rattle.std.proofs.Common.{sym}
use Rattle.std.proofs.lemmas.Map.Lookups.{exact_bytes}
use Rattle.rd_tree.proofs.listing.stored.Goals as goal

pub returns-in-Some : goal.returns-in-Some
returns-in-Some c = sym (exact_bytes _ _ c.in-Some.ensures.same_key)
