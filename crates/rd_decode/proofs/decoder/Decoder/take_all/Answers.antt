use Rattle.std.proofs.Common.{◌≡◌, ◌+◌, ◌-◌, ℕ, List, [], ◌++◌, length, take, drop, Option, Ok, Err, sym, ap, subst, ◌∙◌, append_assoc, arith}
use Rattle.std.proofs.lemmas.List.{append-nil, drop-drop, length-drop}
use Rattle.std.specs.String.{string_bytes}
use Rattle.rd_decode.specs.Entries.{entry, next_entry, wrong}
use Rattle.rd_decode.specs.Kept.{GoesOn, TakesEntry, kept_channel}
use Rattle.rd_decode.specs.declared.fault.LineNo.{LineNo}
use Rattle.rd_decode.proofs.MessageLemmas.{slice_from}
use Rattle.rd_decode.proofs.GoesOnLemmas.{entry_stays, goes_further, goes_nowhere}
use Rattle.rd_decode.proofs.decoder.Decoder.take_all.Goals as goal

-- src/decoder.rt:43:9
pub loop-size-init : goal.loop-size-init
loop-size-init c = ([], omega arith, sym (append-nil _), goes_nowhere _ _ _)

-- src/decoder.rt:43:9
pub loop-size-preserved : goal.loop-size-preserved
loop-size-preserved c =
    let so_far = c.loop-size.invariant in
    let rest = drop c.loop-size.taken c.args.bytes.now in
    let slice = take (length c.args.bytes.now - c.loop-size.taken) (drop c.loop-size.taken c.args.bytes.now) in
    let before = kept_channel c.loop-size.self.channel in
    let taken = subst (λ (o : Option ℕ). TakesEntry (next_entry before slice) before (kept_channel c.take_entry.new.channel) (string_bytes c.loop-size.self.text) (string_bytes c.take_entry.new.text) (Ok o)) c.in-Ok-Some.field-0-is c.in-Ok-Some.ensures in
    let next = subst (λ (xs : List ℕ). next_entry before xs ≡ entry c.in-Ok-Some.size (kept_channel c.take_entry.new.channel) taken.0) (slice_from c.loop-size.taken c.args.bytes.now) taken.1 in
    let own = entry_stays before rest [] c.in-Ok-Some.size (kept_channel c.take_entry.new.channel) taken.0 next in
    let len : length rest ≡ length c.args.bytes.now - c.loop-size.taken = length-drop c.loop-size.taken c.args.bytes.now in
    let further = goes_further _ _ _ so_far.0 _ _ rest _ _ taken.0 so_far.3 next in (
      so_far.0 ++ taken.0,
      omega (arith, so_far.1, own.1, len),
      taken.2 ∙ ap (λ (t : List ℕ). t ++ taken.0) so_far.2 ∙ append_assoc _ so_far.0 taken.0,
      subst (GoesOn _ _ _ _ _ _) (drop-drop _ c.loop-size.taken c.args.bytes.now) further,
    )

-- src/decoder.rt:51:21
pub returns-in-Err-Bad : goal.returns-in-Err-Bad
returns-in-Err-Bad c =
    let so_far = c.loop-size.invariant in
    let rest = take (length c.args.bytes.now - c.loop-size.taken) (drop c.loop-size.taken c.args.bytes.now) in
    let before = kept_channel c.loop-size.self.channel in
    let faulty = subst (λ (e : LineNo). TakesEntry (next_entry before rest) before (kept_channel c.take_entry.new.channel) (string_bytes c.loop-size.self.text) (string_bytes c.take_entry.new.text) (Err e)) c.in-Err-Bad.field-0-is c.in-Err-Bad.ensures in
    let next = subst (λ (xs : List ℕ). next_entry before xs ≡ wrong c.in-Err-Bad.fault.offset c.in-Err-Bad.fault.why) (slice_from c.loop-size.taken c.args.bytes.now) faulty.0 in
    (so_far.0, kept_channel c.loop-size.self.channel, drop c.loop-size.taken c.args.bytes.now, _, faulty.1 ∙ so_far.2, so_far.3, next, ap (λ (n : ℕ). c.loop-size.self.at + n) c.from.ensures)
