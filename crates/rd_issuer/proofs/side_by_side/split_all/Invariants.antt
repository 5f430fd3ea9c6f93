use Rattle.std.proofs.Common.{◌≡◌, ◌≤◌, ◌+◌, ◌++◌, length}
use Rattle.std.specs.Prelude.{All, vec_capacity}
use Rattle.rd_turn.specs.Pass.{Belongs, max_made}
use Rattle.rd_issuer.specs.Stints.{IsFresh, after_splits, stints_of}
use Rattle.rd_issuer.proofs.side_by_side.split_all.Given as goal

abbrev pub invariant-loop-issuer : goal.invariant-loop-issuer
invariant-loop-issuer l = record {
  own : Belongs l.turn l.pass;
  first : l.pass.number ≡ 0;
  few : l.pass.made + length l.issuer-iterator.rest.items ≤ max_made;
  room : length l.stints.items + length l.issuer-iterator.rest.items ≤ vec_capacity l.stints;
  kept : after_splits l.pass l.issuer-iterator.rest.items ≡ after_splits l.fn.pass l.fn.issuers.items;
  stints : l.stints.items ++ stints_of l.turn l.pass l.issuer-iterator.rest.items ≡ stints_of l.turn l.fn.pass l.fn.issuers.items;
  fresh : All IsFresh l.stints.items;
}
