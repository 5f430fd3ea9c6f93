use Rattle.std.proofs.Common.{◌<◌, ◌≡◌, ℕ, length, subst, drop, rules, arith}
use Rattle.rd_world.specs.Bits.{has, where_holds}
use Rattle.rd_world.proofs.BitsLemmas.{place_more, place_last}
use Rattle.rd_world.proofs.bits.nth_one.Goals as goal

pub overflow_shl-rest : goal.overflow_shl-rest
overflow_shl-rest c =
    let within : c.loop-passed._passed < length (where_holds (has c.args.word) 64) = omega arith in
    (place_more _ _ _ c.loop-passed.invariant.fits c.loop-passed.invariant.cleared within).0

pub loop-passed-preserved : goal.loop-passed-preserved
loop-passed-preserved c =
    let within : c.loop-passed._passed < length (where_holds (has c.args.word) 64) = omega arith in
    record { fits = search rules; cleared = (place_more _ _ _ c.loop-passed.invariant.fits c.loop-passed.invariant.cleared within).2 }

pub returns : goal.returns
returns c =
    let at : c.loop-passed._passed ≡ c.args.index = omega arith in
    let cleared = subst (λ (i : ℕ). where_holds (has c.loop-passed.rest) 64 ≡ drop i (where_holds (has c.args.word) 64)) at c.loop-passed.invariant.cleared in
    place_last _ _ _ c.loop-passed.invariant.fits cleared c.requires
