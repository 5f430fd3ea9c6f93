use Rattle.std.proofs.Common.{◌≡◌, []}
use Rattle.std.specs.Prelude.{fold}
use Rattle.rd_host_player.specs.Telling.{with_issuer}
use Rattle.rd_host_player.proofs.telling.by_number.Given as goal

-- the applications so far, and then the rest
abbrev pub invariant-loop-issuer : goal.invariant-loop-issuer
invariant-loop-issuer l = fold with_issuer [] l.fn.issuers.items ≡ fold with_issuer l.found.entries l.issuer-iterator.rest.items
