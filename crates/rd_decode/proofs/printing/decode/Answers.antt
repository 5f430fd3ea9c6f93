use Rattle.std.proofs.Common.{rules, ◌≡◌, ◌+◌, ◌-◌, ℕ, length, take, drop, None, length-append, refl, sym, ap, ◌∙◌, arith}
use Rattle.std.proofs.lemmas.List.{drop-drop}
use Rattle.rd_decode.specs.Kept.{kept_channel}
use Rattle.rd_decode.proofs.MessageLemmas.{slice_from}
use Rattle.rd_decode.proofs.PrintingLemmas.{begun, ends_after, ends_at_begin, ends_at_limit, ends_err, ends_taking, ends_unread_as, ends_unwritten_as, flushed, goes_on, printing_same, taken_step}
use Rattle.rd_decode.proofs.printing.decode.Goals as goal

-- src/printing.rt:25:20
pub returns-in_err-held : goal.returns-in_err-held
returns-in_err-held g c = ends_err _ _ _ _ c.from_residual.result c.in_err-held.field-0.0 (search rules) (ends_at_begin _ _ _ _ c.in_err-held.ensures.err)

-- src/printing.rt:29:5
pub loop-count-init : goal.loop-count-init
loop-count-init g c =
    let e = c.in_ok-held.ensures in
    let count : length (c.in_ok-held.held).items ≡ c.len-read.result = search rules in
    let channel : None ≡ kept_channel c.new-decoder.result.channel = search rules in
    let first = begun _ _ _ (c.in_ok-held.held).items e.read e.begins.0 e.begins.1 in
    (printing_same _ _ _ _ _ _ _ _ _ _ _ _ _ _ count (sym c.new-decoder.ensures.at) channel (sym c.new-decoder.ensures.text) refl first, e.begins.0, omega (arith, e.few, count))

-- src/printing.rt:32:24
pub returns-in-Err : goal.returns-in-Err
returns-in-Err g c =
    let so_far = c.loop-count.invariant in
    let slice = slice_from c.loop-count.taken c.deref.result.now ∙ ap (drop c.loop-count.taken) c.deref.ensures.value in
    ends_taking _ _ _ _ _ _ _ _ _ (kept_channel c.take_all.new.self.channel) _ _ _ _ _ c.in-Err.no _ so_far.0 so_far.2 slice c.in-Err.ensures c.as_str.ensures.value c.print_before.ensures

-- src/printing.rt:34:9
pub returns-in_err-flush_full : goal.returns-in_err-flush_full
returns-in_err-flush_full g c =
    let so_far = c.loop-count.invariant in
    let slice = slice_from c.loop-count.taken c.deref.result.now ∙ ap (drop c.loop-count.taken) c.deref.ensures.value in
    let step = taken_step _ _ _ _ _ _ _ c.in-Ok.count _ _ _ _ _ _ so_far.0 slice c.in-Ok.ensures in
    ends_err _ _ _ _ c.from_residual-in_err-flush_full.result c.in_err-flush_full.field-0.0 (search rules) (ends_unwritten_as _ _ _ _ _ _ _ _ _ _ _ step.0 c.in_err-flush_full.ensures.failed)

-- src/printing.rt:36:13
pub returns-in_err-flush : goal.returns-in_err-flush
returns-in_err-flush g c =
    let so_far = c.loop-count.invariant in
    let slice = slice_from c.loop-count.taken c.deref.result.now ∙ ap (drop c.loop-count.taken) c.deref.ensures.value in
    let step = taken_step _ _ _ _ _ _ _ c.in-Ok.count _ _ _ _ _ _ so_far.0 slice c.in-Ok.ensures in
    let printed = flushed _ _ _ _ _ _ _ _ _ _ _ step.0 c.in_ok-flush_full.ensures.flushed in
    ends_err _ _ _ _ c.from_residual-in_err-flush.result c.in_err-flush.field-0.0 (search rules) (ends_unwritten_as _ _ _ _ _ _ _ _ _ _ _ printed c.in_err-flush.ensures.failed)

-- src/printing.rt:37:13
pub returns-then-read-ge-LIMIT : goal.returns-then-read-ge-LIMIT
returns-then-read-ge-LIMIT g c =
    let so_far = c.loop-count.invariant in
    let slice = slice_from c.loop-count.taken c.deref.result.now ∙ ap (drop c.loop-count.taken) c.deref.ensures.value in
    let step = taken_step _ _ _ _ _ _ _ c.in-Ok.count _ _ _ _ _ _ so_far.0 slice c.in-Ok.ensures in
    let printed = flushed _ _ _ _ _ _ _ _ _ _ _ step.0 c.in_ok-flush_full.ensures.flushed in
    let all = flushed _ _ _ _ _ _ _ _ _ _ _ printed c.in_ok-flush.ensures.flushed in
    let none = printing_same _ _ _ _ _ _ _ _ _ _ _ _ _ _ refl refl refl c.in_ok-flush.ensures.all refl all in
    ends_at_limit _ _ _ _ _ _ _ _ none (omega (arith, so_far.2, c.if-read-ge-LIMIT.true)) step.1

-- src/printing.rt:42:24
pub returns-in-Err-read_after : goal.returns-in-Err-read_after
returns-in-Err-read_after g c =
    let so_far = c.loop-count.invariant in
    let slice = slice_from c.loop-count.taken c.deref.result.now ∙ ap (drop c.loop-count.taken) c.deref.ensures.value in
    let step = taken_step _ _ _ _ _ _ _ c.in-Ok.count _ _ _ _ _ _ so_far.0 slice c.in-Ok.ensures in
    let printed = flushed _ _ _ _ _ _ _ _ _ _ _ step.0 c.in_ok-flush_full.ensures.flushed in
    ends_unread_as _ _ _ _ _ _ _ _ _ _ _ _ c.in-Err-read_after.no _ printed step.1 c.in-Err-read_after.ensures.err c.as_str-in-Err-read_after.ensures.value c.print_unread.ensures

-- src/printing.rt:46:13
pub returns-in_err-flush-2 : goal.returns-in_err-flush-2
returns-in_err-flush-2 g c =
    let so_far = c.loop-count.invariant in
    let slice = slice_from c.loop-count.taken c.deref.result.now ∙ ap (drop c.loop-count.taken) c.deref.ensures.value in
    let step = taken_step _ _ _ _ _ _ _ c.in-Ok.count _ _ _ _ _ _ so_far.0 slice c.in-Ok.ensures in
    let printed = flushed _ _ _ _ _ _ _ _ _ _ _ step.0 c.in_ok-flush_full.ensures.flushed in
    let rest = slice_from (c.loop-count.taken + c.in-Ok.count) c.deref-in-loop-count.result.now ∙ ap (drop (c.loop-count.taken + c.in-Ok.count)) c.deref-in-loop-count.ensures.value ∙ sym (drop-drop c.in-Ok.count c.loop-count.taken (c.loop-count.held).items) in
    let piece = c.in-Ok-read_after.ensures.read in
    let on = goes_on _ _ _ _ _ _ _ _ _ _ _ _ _ _ printed rest piece.1 refl piece.2 in
    ends_err _ _ _ _ c.from_residual-in_err-flush-2.result c.in_err-flush-2.field-0.0 (search rules) (ends_unwritten_as _ _ _ _ _ _ _ _ _ _ _ on c.in_err-flush-2.ensures.failed)

-- src/printing.rt:47:13
pub returns-then-count-eq0 : goal.returns-then-count-eq0
returns-then-count-eq0 g c =
    let so_far = c.loop-count.invariant in
    let slice = slice_from c.loop-count.taken c.deref.result.now ∙ ap (drop c.loop-count.taken) c.deref.ensures.value in
    let step = taken_step _ _ _ _ _ _ _ c.in-Ok.count _ _ _ _ _ _ so_far.0 slice c.in-Ok.ensures in
    let printed = flushed _ _ _ _ _ _ _ _ _ _ _ step.0 c.in_ok-flush_full.ensures.flushed in
    let rest = slice_from (c.loop-count.taken + c.in-Ok.count) c.deref-in-loop-count.result.now ∙ ap (drop (c.loop-count.taken + c.in-Ok.count)) c.deref-in-loop-count.ensures.value ∙ sym (drop-drop c.in-Ok.count c.loop-count.taken (c.loop-count.held).items) in
    let piece = c.in-Ok-read_after.ensures.read in
    let left = take (length c.deref-in-loop-count.result.now - (c.loop-count.taken + c.in-Ok.count)) (drop (c.loop-count.taken + c.in-Ok.count) c.deref-in-loop-count.result.now) in
    let len : c.len.result ≡ length (c.in-Ok-read_after.next).items = search rules in
    let none : length (c.in-Ok-read_after.next).items - length left ≡ 0 = ap (λ (n : ℕ). n - length left) (sym len) ∙ c.if-count-eq0.true in
    let all = flushed _ _ _ _ _ _ _ _ _ _ _ printed c.in_ok-flush-2.ensures.flushed in
    ends_after _ _ _ _ _ _ _ _ _ _ _ _ _ _ all c.in_ok-flush-2.ensures.all rest piece.1 none piece.2 piece.5 (omega (arith, c.if-read-ge-LIMIT.false)) step.1 c.end.ensures

-- src/printing.rt:29:5
pub loop-count-preserved : goal.loop-count-preserved
loop-count-preserved g c =
    let so_far = c.loop-count.invariant in
    let slice = slice_from c.loop-count.taken c.deref.result.now ∙ ap (drop c.loop-count.taken) c.deref.ensures.value in
    let step = taken_step _ _ _ _ _ _ _ c.in-Ok.count _ _ _ _ _ _ so_far.0 slice c.in-Ok.ensures in
    let printed = flushed _ _ _ _ _ _ _ _ _ _ _ step.0 c.in_ok-flush_full.ensures.flushed in
    let rest = slice_from (c.loop-count.taken + c.in-Ok.count) c.deref-in-loop-count.result.now ∙ ap (drop (c.loop-count.taken + c.in-Ok.count)) c.deref-in-loop-count.ensures.value ∙ sym (drop-drop c.in-Ok.count c.loop-count.taken (c.loop-count.held).items) in
    let piece = c.in-Ok-read_after.ensures.read in
    let left = take (length c.deref-in-loop-count.result.now - (c.loop-count.taken + c.in-Ok.count)) (drop (c.loop-count.taken + c.in-Ok.count) c.deref-in-loop-count.result.now) in
    let len : c.len.result ≡ length (c.in-Ok-read_after.next).items = search rules in
    let parts : length (c.in-Ok-read_after.next).items ≡ length left + length piece.0 = ap length piece.1 ∙ length-append left piece.0 in
    let on = goes_on _ _ _ _ _ _ _ _ _ _ _ _ _ _ printed rest piece.1 (ap (λ (n : ℕ). n - length left) len) piece.2 in
    (on, omega arith, omega (arith, len, parts, piece.3, so_far.2))
