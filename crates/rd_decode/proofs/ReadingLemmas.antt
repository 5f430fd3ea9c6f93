-- Reading the magic of a recording.
use Rattle.std.proofs.Common.{◌≡◌, ℕ, ◌+◌, ◌<◌, true, List, [], ◌++◌, length, Result, Ok, Err, IfErr, refl, sym, ap, subst, ◌∙◌, length-append, lt-ltb, inr, arith}
use Rattle.std.specs.Prelude.{IsErrAnd, nat_lt}
use Rattle.std.specs.Io.KnownBytes.{IsAtEnd}
use Rattle.std.proofs.KnownBytes.{Consumes-kept, Consumes-trans}
use Rattle.std.proofs.lemmas.List.{append-nil, nil_from_length}
use Rattle.rd_base.specs.Faults.{one_more}
use Rattle.rd_decode.specs.declared.fault.DecodeNo.{DecodeNo}
use Rattle.rd_decode.specs.declared.fault.DecodeNo.TheVariants as no
use Rattle.rd_decode.specs.Recording.{Decoded, decoded, no_magic, unfinished}
use Rattle.rd_decode.specs.Streams.{Read, Stream}
use Rattle.rd_decode.specs.Kept.{FailsToBegin, FailsToRead}

-- what holds of the one error that a result may be
pub err_same : {T E : Type 0} (r : Result T E) (e : E) (P : E → Type 0) → IsErrAnd r (λ s. s ≡ e) → P e → IfErr r P
err_same (Ok x) e P is p = absurd is
err_same (Err s) e P is p = subst P (sym is) p

module _ {S : Type 0} where
  -- one piece after another
  pub read_both : (i j k : Stream S) (bytes piece : List ℕ) → Read i j bytes → Read j k piece → Read i k (bytes ++ piece)
  read_both i j k bytes piece first second =
      record { taken = Consumes-trans i.bytes j.bytes k.bytes bytes piece first.taken second.taken; faultless = second.faultless ∙ first.faultless }

  -- a failed read, or want of memory
  pub fails_to_begin : (i j k : Stream S) (bytes : List ℕ) (stop : DecodeNo) → Read i j bytes → length bytes < 8 → FailsToRead j k stop → FailsToBegin i k stop
  fails_to_begin i j k bytes no.Input read few fails = (bytes, Consumes-kept i.bytes j.bytes k.bytes bytes read.taken fails.1, fails.0 ∙ ap one_more read.faultless, few)
  fails_to_begin i j k bytes no.Memory read few (piece, more) = (bytes ++ piece, read_both i j k bytes piece read more)
  fails_to_begin i j k bytes no.Output read few fails = absurd fails
  fails_to_begin i j k bytes no.Long read few fails = absurd fails
  fails_to_begin i j k bytes (no.Bad f) read few fails = absurd fails

  -- the input ended before the magic
  pub ends_early : (i j k : Stream S) (bytes piece longer : List ℕ) → Read i j bytes → length bytes < 8 → longer ≡ bytes ++ piece → length longer ≡ length bytes → Read j k piece → (piece ≡ [] → IsAtEnd k.bytes) → FailsToBegin i k (no.Bad no_magic)
  ends_early i j k bytes piece longer read few is same more ended =
      let parts : length longer ≡ length bytes + length piece = ap length is ∙ length-append bytes piece in
      let none : piece ≡ [] = nil_from_length piece (omega (arith, parts, same)) in
      let all : bytes ++ piece ≡ bytes = ap (λ (p : List ℕ). bytes ++ p) none ∙ append-nil bytes in
      let whole = subst (λ (xs : List ℕ). Read i k xs) all (read_both i j k bytes piece read more) in
      let short : nat_lt (length bytes) 8 ≡ true = lt-ltb (length bytes) 8 few in
      let comes : decoded bytes ≡ unfinished no_magic = rw short refl in
      (bytes, whole, omega (arith, few), inr (ended none, omega (arith, few), ap (λ (d : Decoded). d.whole_fault) comes), ap (λ (d : Decoded). d.text) comes)

  pub begin_same : (i k : Stream S) (stop other : DecodeNo) → other ≡ stop → FailsToBegin i k stop → FailsToBegin i k other
  begin_same i k stop other is fails = subst (λ (e : DecodeNo). FailsToBegin i k e) (sym is) fails
