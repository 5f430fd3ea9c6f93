use Rattle.std.proofs.Common.{◌≡◌, ℕ, ◌+◌, ◌-◌, ◌≤◌, true, List, length, take, drop, Option, Some, Ok, Err, sym, ap, subst, ◌∙◌, rules, arith}
use Rattle.std.specs.Prelude.{nat_eq}
use Rattle.std.specs.List.{starts_with}
use Rattle.std.proofs.lemmas.List.{drop-drop, length-drop}
use Rattle.rd_decode.specs.Recording.{magic}
use Rattle.rd_decode.specs.declared.fault.LineNo.{LineNo}
use Rattle.rd_decode.proofs.MessageLemmas.{slice_from}
use Rattle.rd_recorded.specs.declared.no.RecordingNo.{RecordingNo}
use Rattle.rd_recorded.specs.Entries.{Hearing, recorded_channels, cut, entry, heard_from, next_heard, wrong}
use Rattle.rd_recorded.specs.Kept.{RefusedFor, HearsEntry, hearing_of}
use Rattle.rd_recorded.proofs.EntryLemmas.{begun, entry_follows, one_cut, one_entry, one_fault}
use Rattle.rd_recorded.proofs.reading.recorded_channels.Goals as goal

-- an entry was taken where so many bytes were before
taken_entry : (h new : Hearing) (bytes : List ℕ) (taken size : ℕ) (o : Option ℕ) → o ≡ Some size → HearsEntry (next_heard h h.current (take (length bytes - taken) (drop taken bytes))) new (Ok o) → next_heard h h.current (drop taken bytes) ≡ entry size new
taken_entry h new bytes taken size o is took =
    subst (λ (xs : List ℕ). next_heard h h.current xs ≡ entry size new) (slice_from taken bytes) (subst (λ (x : Option ℕ). HearsEntry (next_heard h h.current (take (length bytes - taken) (drop taken bytes))) new (Ok x)) is took)

-- src/reading.rt:34:5
pub loop-taken-init : goal.loop-taken-init
loop-taken-init c =
    let bytes = c.args.bytes.now in
    let eight : 8 ≤ length bytes = search rules in
    let is : starts_with nat_eq bytes magic ≡ true = search rules in
    let h = c.new-hearing.ensures in
    let entries : c.new-hearing.result.entries ≡ 0 = ap (λ (x : Hearing). x.entries) h in
    (length bytes, omega (arith, length-drop 8 bytes), eight, omega (arith, entries), begun c.args.at bytes eight is ∙ ap (λ (x : Hearing). heard_from (length bytes) (c.args.at + 8) x (drop 8 bytes)) (sym h))

-- src/reading.rt:37:31
pub overflow_add-taken : goal.overflow_add-taken
overflow_add-taken c =
    let so_far = c.loop-taken.invariant in
    let next = taken_entry (hearing_of c.loop-taken.hearing) (hearing_of c.take.new.self) c.args.bytes.now c.loop-taken.taken c.in-Ok-Some.size _ c.in-Ok-Some.field-0-is c.in-Ok-Some.ensures in
    let follows = entry_follows (hearing_of c.loop-taken.hearing) (drop c.loop-taken.taken c.args.bytes.now) c.in-Ok-Some.size (hearing_of c.take.new.self) next in
    omega (arith, follows.1, length-drop c.loop-taken.taken c.args.bytes.now, so_far.2, c.requires)

-- src/reading.rt:34:5
pub loop-taken-smaller : goal.loop-taken-smaller
loop-taken-smaller c =
    let next = taken_entry (hearing_of c.loop-taken.hearing) (hearing_of c.take.new.self) c.args.bytes.now c.loop-taken.taken c.in-Ok-Some.size _ c.in-Ok-Some.field-0-is c.in-Ok-Some.ensures in
    let follows = entry_follows (hearing_of c.loop-taken.hearing) (drop c.loop-taken.taken c.args.bytes.now) c.in-Ok-Some.size (hearing_of c.take.new.self) next in
    omega (arith, follows.0, follows.1, length-drop c.loop-taken.taken c.args.bytes.now)

-- src/reading.rt:34:5
pub loop-taken-preserved : goal.loop-taken-preserved
loop-taken-preserved c =
    let bytes = c.args.bytes.now in
    let at = c.args.at in
    let taken = c.loop-taken.taken in
    let size = c.in-Ok-Some.size in
    let new = hearing_of c.take.new.self in
    let so_far = c.loop-taken.invariant in
    let next = taken_entry (hearing_of c.loop-taken.hearing) new bytes taken size _ c.in-Ok-Some.field-0-is c.in-Ok-Some.ensures in
    let follows = entry_follows (hearing_of c.loop-taken.hearing) (drop c.loop-taken.taken c.args.bytes.now) c.in-Ok-Some.size (hearing_of c.take.new.self) next in
    let one = one_entry so_far.0 (at + taken) (hearing_of c.loop-taken.hearing) (drop taken bytes) size new so_far.1 next in
    let len = length-drop taken bytes in
    let left = length-drop (taken + size) bytes in
    let place : at + taken + size ≡ at + (taken + size) = omega arith in (
      one.0,
      omega (arith, one.1, so_far.1, len, left, follows.0, follows.1),
      omega (arith, len, follows.1, so_far.2),
      omega (arith, follows.0, follows.2, so_far.3),
      so_far.4 ∙ one.2 ∙ ap (λ (n : ℕ). heard_from one.0 n new (drop size (drop taken bytes))) place ∙ ap (λ (xs : List ℕ). heard_from one.0 (at + (taken + size)) new xs) (drop-drop size taken bytes),
    )

-- src/reading.rt:38:25
pub returns-in-Ok-None-clause-refused : goal.returns-in-Ok-None-clause-refused
returns-in-Ok-None-clause-refused c =
    let bytes = c.args.bytes.now in
    let taken = c.loop-taken.taken in
    let h = hearing_of c.loop-taken.hearing in
    let so_far = c.loop-taken.invariant in
    let slice = take (length bytes - taken) (drop taken bytes) in
    let took = subst (λ (o : Option ℕ). HearsEntry (next_heard h h.current slice) (hearing_of c.take.new.self) (Ok o)) c.in-Ok-None.field-0-is c.in-Ok-None.ensures in
    let next = subst (λ (xs : List ℕ). next_heard h h.current xs ≡ cut) (slice_from taken bytes) took in
    let some : 1 ≤ length (drop taken bytes) = omega (arith, length-drop taken bytes, c.loop-taken-test.true) in
    subst (λ (n : RecordingNo). RefusedFor (recorded_channels c.args.at bytes) n) (sym c.bad-in-Ok-None.ensures) (so_far.4 ∙ one_cut so_far.0 (c.args.at + taken) h (drop taken bytes) some so_far.1 next)

-- src/reading.rt:40:17
pub returns-in-Err-Bad-clause-refused : goal.returns-in-Err-Bad-clause-refused
returns-in-Err-Bad-clause-refused c =
    let bytes = c.args.bytes.now in
    let taken = c.loop-taken.taken in
    let h = hearing_of c.loop-taken.hearing in
    let fault = c.in-Err-Bad.fault in
    let so_far = c.loop-taken.invariant in
    let slice = take (length bytes - taken) (drop taken bytes) in
    let took = subst (λ (e : LineNo). HearsEntry (next_heard h h.current slice) (hearing_of c.take.new.self) (Err e)) c.in-Err-Bad.field-0-is c.in-Err-Bad.ensures in
    let next = subst (λ (xs : List ℕ). next_heard h h.current xs ≡ wrong fault.offset fault.why) (slice_from taken bytes) took in
    so_far.4 ∙ one_fault so_far.0 (c.args.at + taken) h (drop taken bytes) fault.offset fault.why so_far.1 next ∙ ap (λ (n : ℕ). Err (record { at = c.args.at + taken + n; why = fault.why })) (sym c.from.ensures)
