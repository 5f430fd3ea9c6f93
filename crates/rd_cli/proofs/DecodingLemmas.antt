-- How the command `decode` ends, from how the printing did.
use Rattle.std.proofs.Common.{◌≡◌, ℕ, List, [], ◌++◌, length, take, Option, Some, None, refl, sym, ap, subst, ◌∙◌, append-nil, length-append, inl, inr, arith}
use Rattle.std.specs.Prelude.{Err}
use Rattle.std.specs.Io.KnownBytes.{Appends, Consumes, IsAtEnd}
use Rattle.std.proofs.Math.Seq.{take-length}
use Rattle.std.proofs.KnownBytes.{Appends-nil, Consumes-nil}
use Rattle.std.proofs.lemmas.Option.{none-some, same_Some}
use Rattle.rd_decode.specs.declared.fault.Fault.{Fault}
use Rattle.rd_decode.specs.declared.fault.DecodeNo.{DecodeNo}
use Rattle.rd_decode.specs.declared.fault.DecodeNo.TheVariants as no
use Rattle.rd_decode.specs.Recording.{decoded}
use Rattle.rd_decode.specs.Ends.{EndsDecode, EndsInFault, FailedToPrint, FailedToRead, PrintedAll, RanOut, limit}
use Rattle.rd_cli.specs.Outside.{Read, Stream, Wrote}
use Rattle.rd_cli.specs.Stops.{StopsWith}
use Rattle.rd_cli.specs.declared.stop.Stop.{Stop}
use Rattle.rd_cli.specs.Decoding.{Gives, IsEndOfDecode, SaysFault, SaysLong, stop_for}
use Rattle.rd_decode.proofs.MoreBytes.{more_bytes}

-- ---- the bytes that an input gives
-- What was read of an input that gives these bytes, they begin with.
parts : (left rest : Option (List ℕ)) (all bytes : List ℕ) → left ≡ Some all → Consumes left rest bytes → (others : List ℕ) × (rest ≡ Some others) × (all ≡ bytes ++ others)
parts None rest all bytes is taken = absurd (cc)
parts (Some xs) None all bytes is taken = absurd taken
parts (Some xs) (Some ys) all bytes is taken = (ys, refl, sym (same_Some _ _ is) ∙ taken)

-- What was read to its end is all of them.
pub all_read : (left rest : Option (List ℕ)) (all bytes : List ℕ) → left ≡ Some all → Consumes left rest bytes → IsAtEnd rest → all ≡ bytes
all_read left rest all bytes is taken ended =
    let p = parts left rest all bytes is taken in
    p.2 ∙ ap (λ ys. bytes ++ ys) (subst (λ (o : Option (List ℕ)). IsAtEnd o) p.1 ended) ∙ append-nil bytes

-- The first fault of what was read is that of all.
fault_of_all : {S : Type 0} (input input_after : Stream S) (all bytes : List ℕ) (fault : Fault) → input.bytes ≡ Some all → Read input input_after bytes → EndsInFault input_after bytes fault → (decoded all).whole_fault ≡ Some fault
fault_of_all input input_after all bytes fault is read (inl found) =
    let p = parts input.bytes input_after.bytes all bytes is read.taken in
    ap (λ bs. (decoded bs).whole_fault) p.2 ∙ (more_bytes bytes p.0 fault found).whole
fault_of_all input input_after all bytes fault is read (inr (ended, short, found)) =
    ap (λ bs. (decoded bs).whole_fault) (all_read input.bytes input_after.bytes all bytes is read.taken ended) ∙ found

-- A limit of bytes isn't read of fewer.
not_so_many : {S : Type 0} (input input_after : Stream S) (all bytes : List ℕ) → Gives input.bytes all → Read input input_after bytes → length bytes ≡ limit → ⊥
not_so_many input input_after all bytes (is, short) read full =
    let p = parts input.bytes input_after.bytes all bytes is read.taken in
    absurd (omega (arith, short, full, ap length p.2, length-append bytes p.0))

-- ---- memory that ran out after the lines
ran_out : {S K : Type 0} (input input_after : Stream S) (output lines output_after : Stream K) (bytes : List ℕ) → Read input input_after bytes → Wrote output lines (decoded bytes).text → output_after ≡ lines → RanOut input input_after output output_after
ran_out input input_after output lines output_after bytes read wrote same = record {
  bytes = bytes;
  read = read;
  prefix = (length (decoded bytes).text, subst (λ (o : Stream _). Appends output.bytes o.bytes (take (length (decoded bytes).text) (decoded bytes).text)) (sym same) (subst (λ bs. Appends output.bytes lines.bytes bs) (sym (take-length (decoded bytes).text)) wrote.written));
  faultless = ap (λ (o : Stream _). o.faults) same ∙ wrote.faultless;
}

-- where nothing was touched
pub untouched : {S K : Type 0} (input : Stream S) (output output_after : Stream K) → output_after ≡ output → RanOut input input output output_after
untouched input output output_after same = record {
  bytes = [];
  read = record { taken = Consumes-nil input.bytes; faultless = refl };
  prefix = (0, subst (λ (o : Stream _). Appends output.bytes o.bytes []) (sym same) (Appends-nil output.bytes));
  faultless = ap (λ (o : Stream _). o.faults) same;
}

-- ---- the end, by the status
-- a recording that was printed ends with 0
pub printed_end : {S K : Type 0} (input input_after : Stream S) (output output_after : Stream K) → PrintedAll input input_after output output_after → IsEndOfDecode input input_after output output_after 0
printed_end input input_after output output_after all = record {
  known = inl refl;
  printed = λ zero. all;
  unread = λ two. absurd (omega (arith, two));
  unwritten = λ three. absurd (omega (arith, three));
  faulty = λ four. absurd (omega (arith, four));
  starved = λ six. absurd (omega (arith, six));
  long = λ seven. absurd (omega (arith, seven));
  completes = λ bytes gives good. inl refl;
  names = λ bytes fault gives bad.
      let same = all_read input.bytes input_after.bytes bytes all.recording gives.0 all.read.read.taken all.read.ended in
      absurd (none-some fault (sym all.good ∙ ap (λ bs. (decoded bs).whole_fault) (sym same) ∙ bad));
}

unread_end : {S K : Type 0} (input input_after : Stream S) (output output_after : Stream K) (status : ℕ) → status ≡ 2 → FailedToRead input input_after output output_after → IsEndOfDecode input input_after output output_after status
unread_end input input_after output output_after status is failed = record {
  known = inr (inl is);
  printed = λ zero. absurd (omega (arith, zero, is));
  unread = λ two. failed;
  unwritten = λ three. absurd (omega (arith, three, is));
  faulty = λ four. absurd (omega (arith, four, is));
  starved = λ six. absurd (omega (arith, six, is));
  long = λ seven. absurd (omega (arith, seven, is));
  completes = λ bytes gives good. inr (inl is);
  names = λ bytes fault gives bad. inr (inl is);
}

unwritten_end : {S K : Type 0} (input input_after : Stream S) (output output_after : Stream K) (status : ℕ) → status ≡ 3 → FailedToPrint input input_after output output_after → IsEndOfDecode input input_after output output_after status
unwritten_end input input_after output output_after status is failed = record {
  known = inr (inr (inl is));
  printed = λ zero. absurd (omega (arith, zero, is));
  unread = λ two. absurd (omega (arith, two, is));
  unwritten = λ three. failed;
  faulty = λ four. absurd (omega (arith, four, is));
  starved = λ six. absurd (omega (arith, six, is));
  long = λ seven. absurd (omega (arith, seven, is));
  completes = λ bytes gives good. inr (inr (inl is));
  names = λ bytes fault gives bad. inr (inr (inl is));
}

-- a fault that was said ends with 4
fault_end : {S K : Type 0} (input input_after : Stream S) (output output_after : Stream K) (status : ℕ) (fault : Fault) → status ≡ 4 → SaysFault fault input input_after output output_after → IsEndOfDecode input input_after output output_after status
fault_end input input_after output output_after status fault is says = record {
  known = inr (inr (inr (inl is)));
  printed = λ zero. absurd (omega (arith, zero, is));
  unread = λ two. absurd (omega (arith, two, is));
  unwritten = λ three. absurd (omega (arith, three, is));
  faulty = λ four. (fault, says);
  starved = λ six. absurd (omega (arith, six, is));
  long = λ seven. absurd (omega (arith, seven, is));
  completes = λ bytes gives good. absurd (none-some fault (sym good ∙ own bytes gives));
  names = λ bytes other gives bad. inl (is, subst (λ (f : Fault). SaysFault f input input_after output output_after) (same_Some _ _ (sym (own bytes gives) ∙ bad)) says);
}
  where
    own : (bytes : List ℕ) → Gives input.bytes bytes → (decoded bytes).whole_fault ≡ Some fault
    own bytes gives = fault_of_all input input_after bytes says.printed.bytes fault gives.0 says.printed.read says.printed.faulty

pub starved_end : {S K : Type 0} (input input_after : Stream S) (output output_after : Stream K) (status : ℕ) → status ≡ 6 → RanOut input input_after output output_after → IsEndOfDecode input input_after output output_after status
starved_end input input_after output output_after status is ran = record {
  known = inr (inr (inr (inr (inl is))));
  printed = λ zero. absurd (omega (arith, zero, is));
  unread = λ two. absurd (omega (arith, two, is));
  unwritten = λ three. absurd (omega (arith, three, is));
  faulty = λ four. absurd (omega (arith, four, is));
  starved = λ six. ran;
  long = λ seven. absurd (omega (arith, seven, is));
  completes = λ bytes gives good. inr (inr (inr is));
  names = λ bytes fault gives bad. inr (inr (inr is));
}

-- a recording past the limit ends with 7
long_end : {S K : Type 0} (input input_after : Stream S) (output output_after : Stream K) (status : ℕ) → status ≡ 7 → SaysLong input input_after output output_after → IsEndOfDecode input input_after output output_after status
long_end input input_after output output_after status is says = record {
  known = inr (inr (inr (inr (inr is))));
  printed = λ zero. absurd (omega (arith, zero, is));
  unread = λ two. absurd (omega (arith, two, is));
  unwritten = λ three. absurd (omega (arith, three, is));
  faulty = λ four. absurd (omega (arith, four, is));
  starved = λ six. absurd (omega (arith, six, is));
  long = λ seven. says;
  completes = λ bytes gives good. absurd (not_so_many input input_after bytes says.printed.bytes gives says.printed.read says.printed.full);
  names = λ bytes fault gives bad. absurd (not_so_many input input_after bytes says.printed.bytes gives says.printed.read says.printed.full);
}

-- How the command ends, from why the printing stopped and what was said of it.
stopped_end : {S K : Type 0} (input input_after : Stream S) (output middle output_after : Stream K) (n : DecodeNo) (status : ℕ)
    → EndsDecode input input_after output middle (Err n) → StopsWith (stop_for n) middle output_after status → IsEndOfDecode input input_after output output_after status
stopped_end input input_after output middle output_after no.Input status failed said = unread_end _ _ _ _ status said.0 (subst (λ (o : Stream _). FailedToRead input input_after output o) (sym said.1) failed)
stopped_end input input_after output middle output_after no.Output status failed said = unwritten_end _ _ _ _ status said.0 (subst (λ (o : Stream _). FailedToPrint input input_after output o) (sym said.1) failed)
stopped_end input input_after output middle output_after (no.Bad fault) status printed (inl said) = fault_end _ _ _ _ status fault said.0 (record { lines = middle; printed = printed; says = said.1 })
stopped_end input input_after output middle output_after (no.Bad fault) status printed (inr starved) = starved_end _ _ _ _ status starved.0 (ran_out _ _ _ middle _ printed.bytes printed.read printed.printed starved.1)
stopped_end input input_after output middle output_after no.Long status printed (inl said) = long_end _ _ _ _ status said.0 (record { lines = middle; printed = printed; says = said.1 })
stopped_end input input_after output middle output_after no.Long status printed (inr starved) = starved_end _ _ _ _ status starved.0 (ran_out _ _ _ middle _ printed.bytes printed.read printed.printed starved.1)
stopped_end input input_after output middle output_after no.Memory status ran said = starved_end _ _ _ _ status said.0 (subst (λ (o : Stream _). RanOut input input_after output o) (sym said.1) ran)

pub stopped_with : {S K : Type 0} (input input_after : Stream S) (output middle output_after : Stream K) (n : DecodeNo) (s : Stop) (status : ℕ)
    → EndsDecode input input_after output middle (Err n) → s ≡ stop_for n → StopsWith s middle output_after status → IsEndOfDecode input input_after output output_after status
stopped_with input input_after output middle output_after n s status printed is said = stopped_end input input_after output middle output_after n status printed (subst (λ (t : Stop). StopsWith t middle output_after status) is said)
