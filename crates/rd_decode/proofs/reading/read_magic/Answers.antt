use Rattle.std.proofs.Common.{◌≡◌, ◌<◌, ◌++◌, ℕ, List, length, ap, ◌∙◌, rules}
use Rattle.rd_decode.proofs.ReadingLemmas.{begin_same, ends_early, err_same, fails_to_begin}
use Rattle.rd_decode.proofs.reading.read_magic.Goals as goal

-- src/reading.rt:33:20
pub returns-in_err-next-clause-err : goal.returns-in_err-next-clause-err
returns-in_err-next-clause-err g c =
    let few : length (c.loop-alloc.held).items < 8 = search rules in
    err_same c.from_residual.result c.in_err-next.field-0.0 _ (search rules) (fails_to_begin _ _ _ (c.loop-alloc.held).items _ c.loop-alloc.invariant.0 few c.in_err-next.ensures.err)

-- src/reading.rt:35:13
pub returns-then-len-clause-err : goal.returns-then-len-clause-err
returns-then-len-clause-err g c =
    let few : length (c.loop-alloc.held).items < 8 = search rules in
    let same : length (c.in_ok-next.next).items ≡ length (c.loop-alloc.held).items = search rules in
    let read = c.in_ok-next.ensures.read in
    let early = ends_early _ _ _ (c.loop-alloc.held).items read.0 (c.in_ok-next.next).items c.loop-alloc.invariant.0 few (read.1 ∙ ap (λ (xs : List ℕ). xs ++ read.0) c.as_slice.ensures.value) same read.2 read.5 in
    begin_same _ _ _ _ c.no_magic.ensures early
