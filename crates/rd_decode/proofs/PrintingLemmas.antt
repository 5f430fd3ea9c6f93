-- The printing of a recording, a step after another, and its ends.
use Rattle.std.proofs.Common.{◌≡◌, ℕ, ◌+◌, ◌-◌, ◌<◌, ◌≤◌, true, false, List, [], ◌∷◌, ◌++◌, length, take, drop, Option, None, Result, Ok, Err, refl, sym, ap, subst, ◌∙◌, append_assoc, length-append, inl, inr, lt-ltb, arith}
use Rattle.std.specs.Prelude.{◌⊎◌, nat_eq, nat_lt, IsErrAnd}
use Rattle.std.specs.List.{starts_with}
use Rattle.std.specs.Io.KnownBytes.{Appends, IsAtEnd}
use Rattle.std.proofs.KnownBytes.{Appends-nil, Appends-trans, Consumes-kept, Consumes-trans}
use Rattle.std.proofs.lemmas.Bool.{cases_lt, le-ltb}
use Rattle.std.proofs.lemmas.List.{append-nil, nil_from_length, drop-append-le, length-drop, take-append-le, take_all}
use Rattle.std.proofs.Math.Seq.{take-append-add}
use Rattle.rd_base.specs.Faults.{one_more}
use Rattle.rd_base.specs.Prefixes.{AppendsPrefix}
use Rattle.rd_decode.specs.declared.fault.Fault.{Fault}
use Rattle.rd_decode.specs.declared.fault.DecodeNo.{DecodeNo}
use Rattle.rd_decode.specs.declared.fault.DecodeNo.TheVariants as no
use Rattle.rd_decode.specs.Entries.{Channel, cut, next_entry, wrong}
use Rattle.rd_decode.specs.Recording.{Decoded, decoded, decoded_from, faulty, magic, no_magic, text_before, unfinished}
use Rattle.rd_decode.specs.Streams.{FailedToWrite, Read, Stream, Wrote}
use Rattle.rd_decode.specs.Ends.{EndsDecode, limit}
use Rattle.rd_decode.specs.Kept.{FailsToBegin, FailsToRead, Flushed, GoesOn, Printing, PrintsBefore, PrintsUnread, TakesAll, nothing_left}
use Rattle.rd_decode.proofs.GoesOnLemmas.{after_both, no_bytes, one_cut, one_fault}

-- ---- prefixes of what is written
-- what begins with some bytes has their prefixes
take_prefix : (a b : List ℕ) (n : ℕ) → (m : ℕ) × (take m (a ++ b) ≡ take n a)
take_prefix a b n = elim (cases_lt (length a) n) [
  | inl past ↦ (length a, take-append-le (length a) a b (omega arith) ∙ take_all (length a) a (omega arith) ∙ sym (take_all n a (omega (arith, past))))
  | inr within ↦ (n, take-append-le n a b within)
]

prefix_more : (held grown : Option (List ℕ)) (a b : List ℕ) → AppendsPrefix held grown a → AppendsPrefix held grown (a ++ b)
prefix_more held grown a b prefix = let longer = take_prefix a b prefix.0 in (longer.0, subst (λ (bytes : List ℕ). Appends held grown bytes) (sym longer.1) prefix.1)

prefix_after : (held middle grown : Option (List ℕ)) (a b : List ℕ) → Appends held middle a → AppendsPrefix middle grown b → AppendsPrefix held grown (a ++ b)
prefix_after held middle grown a b first prefix =
    (length a + prefix.0, subst (λ (bytes : List ℕ). Appends held grown bytes) (sym (take-append-add a b prefix.0)) (Appends-trans held middle grown a (take prefix.0 b) first prefix.1))

wrote_both : {K : Type 0} (before middle after : Stream K) (a b : List ℕ) → Wrote before middle a → Wrote middle after b → Wrote before after (a ++ b)
wrote_both before middle after a b first second =
    record { written = Appends-trans before.bytes middle.bytes after.bytes a b first.written second.written; faultless = second.faultless ∙ first.faultless }

failed_after : {K : Type 0} (before middle after : Stream K) (a b : List ℕ) → Wrote before middle a → FailedToWrite middle after b → FailedToWrite before after (a ++ b)
failed_after before middle after a b first failed =
    record { prefix = prefix_after before.bytes middle.bytes after.bytes a b first.written failed.prefix; fault = failed.fault ∙ ap one_more first.faultless }

failed_more : {K : Type 0} (before after : Stream K) (a b : List ℕ) → FailedToWrite before after a → FailedToWrite before after (a ++ b)
failed_more before after a b failed = record { prefix = prefix_more before.bytes after.bytes a b failed.prefix; fault = failed.fault }

wrote_prefix : {K : Type 0} (before after : Stream K) (a : List ℕ) → Wrote before after a → AppendsPrefix before.bytes after.bytes a
wrote_prefix before after a wrote = (length a, subst (λ (bytes : List ℕ). Appends before.bytes after.bytes bytes) (sym (take_all (length a) a (omega arith))) wrote.written)

-- where an entry isn't all there, no more lines come, and there is no fault yet
cut_comes_to : (fewer at : ℕ) (channel : Option Channel) (held : List ℕ) → length held ≤ fewer → next_entry channel held ≡ cut → ((decoded_from fewer at channel held).text ≡ []) × ((decoded_from fewer at channel held).fault ≡ None)
cut_comes_to fewer at channel [] enough is = rw (no_bytes fewer at channel) (refl, refl)
cut_comes_to fewer at channel (byte ∷ rest) enough is = rw (one_cut fewer at channel byte rest enough is) (refl, refl)

-- bytes too few for the magic
few_bytes : (bytes : List ℕ) → length bytes < 8 → decoded bytes ≡ unfinished no_magic
few_bytes bytes few = let short : nat_lt (length bytes) 8 ≡ true = lt-ltb (length bytes) 8 few in rw short refl

module _ {S K : Type 0} where
  -- ---- steps
  -- the magic was read
  pub begun : (i j : Stream S) (o : Stream K) (bytes : List ℕ) → Read i j bytes → 8 ≤ length bytes → starts_with nat_eq bytes magic ≡ true → Printing i j o o (length bytes) 8 None [] (drop 8 bytes)
  begun i j o bytes read eight is =
      let len : length (drop 8 bytes) ≡ length bytes - 8 = length-drop 8 bytes in
      record {
        bytes = bytes;
        written = [];
        read = read;
        wrote = record { written = Appends-nil o.bytes; faultless = refl };
        counted = refl;
        place = omega (arith, len, eight);
        on = λ more.
            let all : length (bytes ++ more) ≡ length bytes + length more = length-append bytes more in
            let long : nat_lt (length (bytes ++ more)) 8 ≡ false = le-ltb (length (bytes ++ more)) 8 (omega (arith, all, eight)) in
            let same : starts_with nat_eq (bytes ++ more) magic ≡ starts_with nat_eq bytes magic = rw (take-append-le 8 bytes more eight) refl in
            let rest : drop 8 (bytes ++ more) ≡ drop 8 bytes ++ more = drop-append-le 8 bytes more eight in
            let others : length (drop 8 bytes ++ more) ≡ length (drop 8 bytes) + length more = length-append (drop 8 bytes) more in
            (length (bytes ++ more), omega (arith, all, others, len), rw (long, same, is, rest) refl);
      }

  -- entries were taken
  pub took : (i j : Stream S) (o p : Stream K) (count at next : ℕ) (channel later : Option Channel) (text longer shown held rest : List ℕ)
      → Printing i j o p count at channel text held → longer ≡ text ++ shown → GoesOn at channel held shown next later rest → Printing i j o p count next later longer rest
  took i j o p count at next channel later text longer shown held rest so_far is g = record {
    bytes = so_far.bytes;
    written = so_far.written;
    read = so_far.read;
    wrote = so_far.wrote;
    counted = so_far.counted;
    place = g.place ∙ so_far.place;
    on = λ more.
        let before = so_far.on more in
        let others = g.on more before.0 before.1 in
        let lines : (so_far.written ++ text) ++ shown ≡ so_far.written ++ longer = append_assoc so_far.written text shown ∙ ap (λ (t : List ℕ). so_far.written ++ t) (sym is) in (
          others.0,
          others.1,
          before.2 ∙ ap (text_before (so_far.written ++ text)) others.2 ∙ after_both (so_far.written ++ text) shown (decoded_from others.0 next later (rest ++ more))
              ∙ ap (λ (t : List ℕ). text_before t (decoded_from others.0 next later (rest ++ more))) lines,
        );
  }

  -- lines were written
  pub flushed : (i j : Stream S) (o p q : Stream K) (count at : ℕ) (channel : Option Channel) (text kept held : List ℕ) → Printing i j o p count at channel text held → Flushed p q text kept → Printing i j o q count at channel kept held
  flushed i j o p q count at channel text kept held so_far (written, parts, wrote) = record {
    bytes = so_far.bytes;
    written = so_far.written ++ written;
    read = so_far.read;
    wrote = wrote_both o p q so_far.written written so_far.wrote wrote;
    counted = so_far.counted;
    place = so_far.place;
    on = λ more.
        let before = so_far.on more in
        let lines : so_far.written ++ text ≡ (so_far.written ++ written) ++ kept = ap (λ (t : List ℕ). so_far.written ++ t) parts ∙ sym (append_assoc so_far.written written kept) in
        (before.0, before.1, before.2 ∙ ap (λ (t : List ℕ). text_before t (decoded_from before.0 at channel (held ++ more))) lines);
  }

  -- a piece was read
  pub read_on : (i j k : Stream S) (o p : Stream K) (count at : ℕ) (channel : Option Channel) (text held piece : List ℕ) → Printing i j o p count at channel text held → Read j k piece
      → Printing i k o p (count + length piece) at channel text (held ++ piece)
  read_on i j k o p count at channel text held piece so_far read =
      let all : length (so_far.bytes ++ piece) ≡ length so_far.bytes + length piece = length-append so_far.bytes piece in
      let longer : length (held ++ piece) ≡ length held + length piece = length-append held piece in
      record {
        bytes = so_far.bytes ++ piece;
        written = so_far.written;
        read = record { taken = Consumes-trans i.bytes j.bytes k.bytes so_far.bytes piece so_far.read.taken read.taken; faultless = read.faultless ∙ so_far.read.faultless };
        wrote = so_far.wrote;
        counted = omega (arith, all, so_far.counted);
        place = omega (arith, longer, so_far.place);
        on = λ more.
            let before = so_far.on (piece ++ more) in
            let first = append_assoc so_far.bytes piece more in
            let second = append_assoc held piece more in (
              before.0,
              subst (λ (xs : List ℕ). length xs ≤ before.0) (sym second) before.1,
              ap decoded first ∙ before.2 ∙ ap (λ (xs : List ℕ). text_before (so_far.written ++ text) (decoded_from before.0 at channel xs)) (sym second),
            );
      }

  -- what was read so far comes to
  so_far_is : (i j : Stream S) (o p : Stream K) (count at : ℕ) (channel : Option Channel) (text held : List ℕ) (so_far : Printing i j o p count at channel text held)
      → (fewer : ℕ) × (length held ≤ fewer) × (decoded so_far.bytes ≡ text_before (so_far.written ++ text) (decoded_from fewer at channel held))
  so_far_is i j o p count at channel text held so_far =
      let now = so_far.on [] in (
        now.0,
        subst (λ (xs : List ℕ). length xs ≤ now.0) (append-nil held) now.1,
        ap decoded (sym (append-nil so_far.bytes)) ∙ now.2 ∙ ap (λ (xs : List ℕ). text_before (so_far.written ++ text) (decoded_from now.0 at channel xs)) (append-nil held),
      )

  -- its lines begin with those that were written and those that weren't yet
  lines_begin : (i j : Stream S) (o p : Stream K) (count at : ℕ) (channel : Option Channel) (text held : List ℕ) (so_far : Printing i j o p count at channel text held)
      → (more : List ℕ) × ((decoded so_far.bytes).text ≡ (so_far.written ++ text) ++ more)
  lines_begin i j o p count at channel text held so_far =
      let now = so_far_is i j o p count at channel text held so_far in
      ((decoded_from now.0 at channel held).text, ap (λ (d : Decoded). d.text) now.2)

  -- so the lines are those that were taken
  cut_lines : (i j : Stream S) (o p : Stream K) (count at : ℕ) (channel : Option Channel) (text held : List ℕ) (so_far : Printing i j o p count at channel text held) → next_entry channel held ≡ cut
      → ((decoded so_far.bytes).text ≡ so_far.written ++ text) × ((decoded so_far.bytes).fault ≡ None)
  cut_lines i j o p count at channel text held so_far is =
      let now = so_far_is i j o p count at channel text held so_far in
      let comes = cut_comes_to now.0 at channel held now.1 is in
      (ap (λ (d : Decoded). d.text) now.2 ∙ ap (λ (t : List ℕ). (so_far.written ++ text) ++ t) comes.0 ∙ append-nil (so_far.written ++ text), ap (λ (d : Decoded). d.fault) now.2 ∙ comes.1)

  -- ---- ends
  -- the input has ended
  pub ends : (i j k : Stream S) (o p : Stream K) (count at : ℕ) (channel : Option Channel) (held : List ℕ) (result : Result (Unit {0}) DecodeNo) → Printing i j o p count at channel [] held → Read j k [] → IsAtEnd k.bytes → count < limit
      → next_entry channel held ≡ cut → result ≡ nothing_left at held → EndsDecode i k o p result
  ends i j k o p count at channel [] result so_far read ended short is same =
      let on = read_on i j k o p count at channel [] [] [] so_far read in
      let now = so_far_is i k o p (count + 0) at channel [] [] on in
      let lines = cut_lines i k o p (count + 0) at channel [] [] on is in
      subst (λ (r : Result (Unit {0}) DecodeNo). EndsDecode i k o p r) (sym same) (record {
        recording = on.bytes;
        read = record { read = on.read; ended = ended };
        good = ap (λ (d : Decoded). d.whole_fault) (now.2 ∙ ap (text_before (on.written ++ [])) (no_bytes now.0 at channel));
        short = omega (arith, on.counted, short);
        printed = subst (λ (t : List ℕ). Wrote o p t) (sym (lines.0 ∙ append-nil on.written)) on.wrote;
      })
  ends i j k o p count at channel (byte ∷ rest) result so_far read ended short is same =
      let on = read_on i j k o p count at channel [] (byte ∷ rest) [] so_far read in
      let held_is : (byte ∷ rest) ++ [] ≡ byte ∷ rest = append-nil (byte ∷ rest) in
      let own = subst (λ (xs : List ℕ). Printing i k o p (count + 0) at channel [] xs) held_is on in
      let now = so_far_is i k o p (count + 0) at channel [] (byte ∷ rest) own in
      let lines = cut_lines i k o p (count + 0) at channel [] (byte ∷ rest) own is in
      let cut_short = one_cut now.0 at channel byte rest now.1 is in
      subst (λ (r : Result (Unit {0}) DecodeNo). EndsDecode i k o p r) (sym same) (record {
        bytes = own.bytes;
        read = own.read;
        short = omega (arith, own.counted, short);
        faulty = inr (ended, omega (arith, own.counted, short), ap (λ (d : Decoded). d.whole_fault) (now.2 ∙ ap (text_before (own.written ++ [])) cut_short));
        printed = subst (λ (t : List ℕ). Wrote o p t) (sym (lines.0 ∙ append-nil own.written)) own.wrote;
      })

  -- as much as may be was read
  pub ends_at_limit : (i j : Stream S) (o p : Stream K) (count at : ℕ) (channel : Option Channel) (held : List ℕ) → Printing i j o p count at channel [] held → count ≡ limit → next_entry channel held ≡ cut → EndsDecode i j o p (Err no.Long)
  ends_at_limit i j o p count at channel held so_far full is =
      let lines = cut_lines i j o p count at channel [] held so_far is in
      record { bytes = so_far.bytes; read = so_far.read; full = so_far.counted ∙ full; good = lines.1; printed = subst (λ (t : List ℕ). Wrote o p t) (sym (lines.0 ∙ append-nil so_far.written)) so_far.wrote }

  -- a write failed
  pub ends_unwritten : (i j : Stream S) (o p q : Stream K) (count at : ℕ) (channel : Option Channel) (text held : List ℕ) → Printing i j o p count at channel text held → FailedToWrite p q text → EndsDecode i j o q (Err no.Output)
  ends_unwritten i j o p q count at channel text held so_far failed =
      let lines = lines_begin i j o p count at channel text held so_far in
      record { bytes = so_far.bytes; read = so_far.read; failed = subst (λ (t : List ℕ). FailedToWrite o q t) (sym lines.1) (failed_more o q (so_far.written ++ text) lines.0 (failed_after o p q so_far.written text so_far.wrote failed)) }

  -- a fault, after the lines before it
  pub ends_at_fault : (i j : Stream S) (o p q : Stream K) (count at : ℕ) (channel : Option Channel) (text held : List ℕ) (offset : ℕ) (f : Fault) (result : DecodeNo) → Printing i j o p count at channel text held → count ≤ limit
      → next_entry channel held ≡ wrong offset f.why → f.at ≡ at + offset → PrintsBefore p q text (no.Bad f) result → EndsDecode i j o q (Err result)
  ends_at_fault i j o p q count at channel text held offset f result so_far short is place (inl printed) =
      let now = so_far_is i j o p count at channel text held so_far in
      let bad : decoded_from now.0 at channel held ≡ faulty f = one_fault now.0 at channel held offset f.why now.1 is ∙ ap (λ (n : ℕ). faulty (record { at = n; why = f.why })) (sym place) in
      let all : decoded so_far.bytes ≡ text_before (so_far.written ++ text) (faulty f) = now.2 ∙ ap (text_before (so_far.written ++ text)) bad in
      let lines : (decoded so_far.bytes).text ≡ so_far.written ++ text = ap (λ (d : Decoded). d.text) all ∙ append-nil (so_far.written ++ text) in
      subst (λ (r : DecodeNo). EndsDecode i j o q (Err r)) (sym printed.0) (record {
        bytes = so_far.bytes;
        read = so_far.read;
        short = omega (arith, so_far.counted, short);
        faulty = inl (ap (λ (d : Decoded). d.fault) all);
        printed = subst (λ (t : List ℕ). Wrote o q t) (sym lines) (wrote_both o p q so_far.written text so_far.wrote printed.1);
      })
  ends_at_fault i j o p q count at channel text held offset f result so_far short is place (inr failed) =
      subst (λ (r : DecodeNo). EndsDecode i j o q (Err r)) (sym failed.0) (ends_unwritten i j o p q count at channel text held so_far failed.1)

  -- memory ran out
  pub ends_starved : (i j : Stream S) (o p : Stream K) (count at : ℕ) (channel : Option Channel) (text held : List ℕ) → Printing i j o p count at channel text held → EndsDecode i j o p (Err no.Memory)
  ends_starved i j o p count at channel text held so_far =
      let lines = lines_begin i j o p count at channel text held so_far in
      let all : (decoded so_far.bytes).text ≡ so_far.written ++ (text ++ lines.0) = lines.1 ∙ append_assoc so_far.written text lines.0 in
      record {
        bytes = so_far.bytes;
        read = so_far.read;
        prefix = subst (λ (t : List ℕ). AppendsPrefix o.bytes p.bytes t) (sym all) (prefix_more o.bytes p.bytes so_far.written (text ++ lines.0) (wrote_prefix o p so_far.written so_far.wrote));
        faultless = so_far.wrote.faultless;
      }

  -- after a further piece
  starved_after : (i j k : Stream S) (o p : Stream K) (count at : ℕ) (channel : Option Channel) (text held piece : List ℕ) → Printing i j o p count at channel text held → Read j k piece → EndsDecode i k o p (Err no.Memory)
  starved_after i j k o p count at channel text held piece so_far read = ends_starved i k o p (count + length piece) at channel text (held ++ piece) (read_on i j k o p count at channel text held piece so_far read)

  -- a read failed, or memory ran out beside it
  pub ends_unread : (i j k : Stream S) (o p q : Stream K) (count at : ℕ) (channel : Option Channel) (text held : List ℕ) (stop result : DecodeNo) → Printing i j o p count at channel text held → next_entry channel held ≡ cut
      → FailsToRead j k stop → PrintsUnread p q text stop result → EndsDecode i k o q (Err result)
  ends_unread i j k o p q count at channel text held no.Input result so_far is fails (same, printed) =
      let lines = cut_lines i j o p count at channel text held so_far is in
      subst (λ (r : DecodeNo). EndsDecode i k o q (Err r)) (sym same) (record {
        bytes = so_far.bytes;
        taken = Consumes-kept i.bytes j.bytes k.bytes so_far.bytes so_far.read.taken fails.1;
        fault = fails.0 ∙ ap one_more so_far.read.faultless;
        good = lines.1;
        printed = go (sym lines.0) printed;
      })
    where
      go : {t : List ℕ} → so_far.written ++ text ≡ t → Wrote p q text ⊎ FailedToWrite p q text → Wrote o q t ⊎ FailedToWrite o q t
      go lines (inl wrote) = inl (subst (λ (t : List ℕ). Wrote o q t) lines (wrote_both o p q so_far.written text so_far.wrote wrote))
      go lines (inr failed) = inr (subst (λ (t : List ℕ). FailedToWrite o q t) lines (failed_after o p q so_far.written text so_far.wrote failed))
  ends_unread i j k o p q count at channel text held no.Memory result so_far is (piece, read) (same, silent) =
      subst (λ (r : DecodeNo). EndsDecode i k o q (Err r)) (sym same) (subst (λ (s : Stream K). EndsDecode i k o s (Err no.Memory)) (sym silent) (starved_after i j k o p count at channel text held piece so_far read))
  ends_unread i j k o p q count at channel text held no.Output result so_far is fails prints = absurd fails
  ends_unread i j k o p q count at channel text held no.Long result so_far is fails prints = absurd fails
  ends_unread i j k o p q count at channel text held (no.Bad f) result so_far is fails prints = absurd fails

  -- ---- what the program does
  -- how it ended, where that is an error
  pub ends_err : (i j : Stream S) (o p : Stream K) (r : Result (Unit {0}) DecodeNo) (e : DecodeNo) → IsErrAnd r (λ s. s ≡ e) → EndsDecode i j o p (Err e) → EndsDecode i j o p r
  ends_err i j o p (Ok u) e is ends_so = absurd is
  ends_err i j o p (Err s) e is ends_so = subst (λ (x : DecodeNo). EndsDecode i j o p (Err x)) (sym is) ends_so

  -- before the first entry
  pub ends_at_begin : (i j : Stream S) (o : Stream K) (stop : DecodeNo) → FailsToBegin i j stop → EndsDecode i j o o (Err stop)
  ends_at_begin i j o (no.Bad f) (bytes, read, short, has, text) =
      record { bytes = bytes; read = read; short = short; faulty = has; printed = subst (λ (t : List ℕ). Wrote o o t) (sym text) (record { written = Appends-nil o.bytes; faultless = refl }) }
  ends_at_begin i j o no.Input (bytes, taken, one, few) =
      let comes = few_bytes bytes few in
      record {
        bytes = bytes;
        taken = taken;
        fault = one;
        good = ap (λ (d : Decoded). d.fault) comes;
        printed = inl (subst (λ (t : List ℕ). Wrote o o t) (sym (ap (λ (d : Decoded). d.text) comes)) (record { written = Appends-nil o.bytes; faultless = refl }));
      }
  ends_at_begin i j o no.Memory (bytes, read) = record { bytes = bytes; read = read; prefix = (0, Appends-nil o.bytes); faultless = refl }
  ends_at_begin i j o no.Output fails = absurd fails
  ends_at_begin i j o no.Long fails = absurd fails

  -- entries were taken, from a slice
  pub taken_step : (i j : Stream S) (o p : Stream K) (count at next n : ℕ) (channel later : Option Channel) (text longer slice held : List ℕ) → Printing i j o p count at channel text held → slice ≡ held
      → TakesAll at channel slice next later text longer (Ok n) → Printing i j o p count next later longer (drop n held) × (next_entry later (drop n held) ≡ cut) × (n ≤ length held)
  taken_step i j o p count at next n channel later text longer slice held so_far is takes =
      let own = subst (λ (xs : List ℕ). TakesAll at channel xs next later text longer (Ok n)) is takes in
      (took i j o p count at next channel later text longer own.0 held (drop n held) so_far own.2 own.3, own.4, own.1)

  -- or they were taken up to a stop
  pub ends_taking : (i j : Stream S) (o p q : Stream K) (count at next : ℕ) (channel later : Option Channel) (text longer slice held : List ℕ) (words : List ℕ) (stop result : DecodeNo) → Printing i j o p count at channel text held → count ≤ limit → slice ≡ held
      → TakesAll at channel slice next later text longer (Err stop) → words ≡ longer → PrintsBefore p q words stop result → EndsDecode i j o q (Err result)
  ends_taking i j o p q count at next channel later text longer slice held words (no.Bad f) result so_far short is (shown, middle, rest, offset, lines, g, bad, place) same prints =
      let own = subst (λ (xs : List ℕ). GoesOn at channel xs shown next middle rest) is g in
      ends_at_fault i j o p q count next middle longer rest offset f result (took i j o p count at next channel middle text longer shown held rest so_far lines own) short bad place (subst (λ (t : List ℕ). PrintsBefore p q t (no.Bad f) result) same prints)
  ends_taking i j o p q count at next channel later text longer slice held words no.Memory result so_far short is takes lines (same, silent) =
      subst (λ (r : DecodeNo). EndsDecode i j o q (Err r)) (sym same) (subst (λ (s : Stream K). EndsDecode i j o s (Err no.Memory)) (sym silent) (ends_starved i j o p count at channel text held so_far))
  ends_taking i j o p q count at next channel later text longer slice held words no.Input result so_far short is takes same prints = absurd takes
  ends_taking i j o p q count at next channel later text longer slice held words no.Output result so_far short is takes same prints = absurd takes
  ends_taking i j o p q count at next channel later text longer slice held words no.Long result so_far short is takes same prints = absurd takes

  -- the same of equal indices
  pub printing_same : (i j : Stream S) (o p : Stream K) (count count' at at' : ℕ) (channel channel' : Option Channel) (text text' held held' : List ℕ) → count ≡ count' → at ≡ at' → channel ≡ channel' → text ≡ text' → held ≡ held'
      → Printing i j o p count at channel text held → Printing i j o p count' at' channel' text' held'
  printing_same i j o p count count' at at' channel channel' text text' held held' a b c d e so_far = rw (← a, ← b, ← c, ← d, ← e) so_far

  -- a write failed
  pub ends_unwritten_as : (i j : Stream S) (o p q : Stream K) (count at : ℕ) (channel : Option Channel) (text held : List ℕ) (stop : DecodeNo) → Printing i j o p count at channel text held → (stop ≡ no.Output) × FailedToWrite p q text → EndsDecode i j o q (Err stop)
  ends_unwritten_as i j o p q count at channel text held stop so_far (is, failed) = subst (λ (e : DecodeNo). EndsDecode i j o q (Err e)) (sym is) (ends_unwritten i j o p q count at channel text held so_far failed)

  -- a read failed
  pub ends_unread_as : (i j k : Stream S) (o p q : Stream K) (count at : ℕ) (channel : Option Channel) (text held words : List ℕ) (stop result : DecodeNo) → Printing i j o p count at channel text held → next_entry channel held ≡ cut
      → FailsToRead j k stop → words ≡ text → PrintsUnread p q words stop result → EndsDecode i k o q (Err result)
  ends_unread_as i j k o p q count at channel text held words stop result so_far is fails same prints =
      ends_unread i j k o p q count at channel text held stop result so_far is fails (subst (λ (t : List ℕ). PrintsUnread p q t stop result) same prints)

  -- no piece came
  pub ends_after : (i j k : Stream S) (o p : Stream K) (count at : ℕ) (channel : Option Channel) (text held rest piece longer : List ℕ) (result : Result (Unit {0}) DecodeNo) → Printing i j o p count at channel text held → text ≡ [] → rest ≡ held
      → longer ≡ rest ++ piece → length longer - length rest ≡ 0 → Read j k piece → (piece ≡ [] → IsAtEnd k.bytes) → count < limit → next_entry channel held ≡ cut → result ≡ nothing_left at rest → EndsDecode i k o p result
  ends_after i j k o p count at channel text held rest piece longer result so_far none same parts len read ended short is result_is =
      let all : length longer ≡ length rest + length piece = ap length parts ∙ length-append rest piece in
      let empty : piece ≡ [] = nil_from_length piece (omega (arith, all, len)) in
      ends i j k o p count at channel held result (subst (λ (t : List ℕ). Printing i j o p count at channel t held) none so_far) (subst (λ (xs : List ℕ). Read j k xs) empty read) (ended empty) short is
      (result_is ∙ ap (nothing_left at) same)

  -- a piece came
  pub goes_on : (i j k : Stream S) (o p : Stream K) (count more at : ℕ) (channel : Option Channel) (text held rest piece longer : List ℕ) → Printing i j o p count at channel text held → rest ≡ held → longer ≡ rest ++ piece → more ≡ length longer - length rest
      → Read j k piece → Printing i k o p (count + more) at channel text longer
  goes_on i j k o p count more at channel text held rest piece longer so_far same parts len read =
      let all : length longer ≡ length rest + length piece = ap length parts ∙ length-append rest piece in
      let more_is : length piece ≡ more = omega (arith, all, len) in
      let longer_is : held ++ piece ≡ longer = ap (λ (xs : List ℕ). xs ++ piece) (sym same) ∙ sym parts in
      printing_same i k o p (count + length piece) (count + more) at at channel channel text text (held ++ piece) longer (ap (λ (n : ℕ). count + n) more_is) refl refl refl longer_is (read_on i j k o p count at channel text held piece so_far read)
