use Rattle.std.proofs.Common.{◌≡◌, ◌++◌, ap, ◌∙◌, sym, List, ℕ, add-one, append_assoc, arith, length, length-append, vec_len, vec_capacity, rules}
use Rattle.std.specs.List.{concat}
use Rattle.rd_chunk.specs.Carrier.{carrier_frame, carrier_frames}
use Rattle.rd_base.proofs.ListLemmas.{concat-push}
use Rattle.rd_chunk.proofs.CarrierLemmas.{room_for_frame}
use Rattle.rd_chunk.proofs.splitter.put_frames.Goals as goal

pub loop-k-preserved : goal.loop-k-preserved
loop-k-preserved c =
    let before = c.args.stream.now.items in
    let frames = carrier_frames c.args.message.now c.loop-k.k in
    let frame = carrier_frame c.args.message.now c.loop-k.k in record {
      items = rw add-one (c.in_ok-put_frame.ensures.frame ∙ ap (λ (r : List ℕ). r ++ frame) c.loop-k.invariant.items ∙ append_assoc before (concat frames) frame ∙ ap (λ (r : List ℕ). before ++ r) (sym (concat-push frames frame)));
      room = omega (arith, c.loop-k.invariant.room, c.put_frame.ensures.capacity);
      grown = omega (arith, c.loop-k.invariant.grown, c.put_frame.ensures.capacity);
    }

pub returns-in_err-put_frame-clause-err : goal.returns-in_err-put_frame-clause-err
returns-in_err-put_frame-clause-err c =
    let before = c.args.stream.now in
    let frames = concat (carrier_frames c.args.message.now c.loop-k.k) in
    let held : vec_len c.loop-k.stream ≡ length c.loop-k.stream.items = search rules in
    let began : vec_len before ≡ length before.items = search rules in
    let room = room_for_frame c.args.message.now c.loop-k.k (vec_len before) (vec_capacity c.loop-k.stream) (omega arith) c.loop-k.invariant.room in
    absurd (omega (arith, c.in_err-put_frame.ensures.full, room, ap length c.loop-k.invariant.items, length-append before.items frames, held, began))
