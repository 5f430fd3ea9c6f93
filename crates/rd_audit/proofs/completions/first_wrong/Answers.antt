use Rattle.std.proofs.Common.{◌≡◌, Some, length, refl, arith}
use Rattle.std.specs.Prelude.{slice_get}
use Rattle.std.proofs.lemmas.Option.{slice_get_read}
use Rattle.rd_audit.proofs.LineLemmas.{none_is, some_is}
use Rattle.rd_audit.proofs.TellingLemmas.{channel_kept, right_there, wrong_there}
use Rattle.rd_audit.proofs.completions.first_wrong.Goals as goal

-- src/completions.rt:40:13
pub returns-then-is_some : goal.returns-then-is_some
returns-then-is_some c account keeps =
    let channels = c.args.channels.now in
    let place = c.loop-place.place in
    let channel = c.index-channels-place.result in
    let at : slice_get channels place ≡ Some channel = slice_get_read channels (length channels) place channel refl (omega arith) c.index-channels-place.is in
    let is = c.in_ok-found.ensures account (channel_kept channels account place channel c.args.replayed.now at keeps) in
    wrong_there account channels place channel c.in_ok-found.found at is (some_is c.in_ok-found.found c.if-is_some.ensures) (c.loop-place.invariant account keeps)

-- src/completions.rt:37:5
pub loop-place-preserved : goal.loop-place-preserved
loop-place-preserved c account keeps =
    let channels = c.args.channels.now in
    let place = c.loop-place.place in
    let channel = c.index-channels-place.result in
    let at : slice_get channels place ≡ Some channel = slice_get_read channels (length channels) place channel refl (omega arith) c.index-channels-place.is in
    let is = c.in_ok-found.ensures account (channel_kept channels account place channel c.args.replayed.now at keeps) in
    right_there account channels place channel c.in_ok-found.found at is (none_is c.in_ok-found.found c.if-is_some.ensures) (c.loop-place.invariant account keeps)
