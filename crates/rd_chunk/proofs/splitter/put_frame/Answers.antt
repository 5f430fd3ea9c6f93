use Rattle.std.proofs.Common.{◌++◌, ◌+◌, ap, ◌∙◌, length, List, ℕ, Bool}
use Rattle.std.specs.Prelude.{if◌then◌else◌}
use Rattle.std.specs.Int.{w32, to_le_bytes}
use Rattle.rd_chunk.specs.Carrier.{carrier_frame, carrier_data, carrier_flags}
use Rattle.rd_base.proofs.ResultLemmas.{on_ok_of}
use Rattle.rd_chunk.proofs.CarrierLemmas.{four_pushed}
use Rattle.rd_chunk.proofs.splitter.put_frame.Goals as goal

pub returns-clause-frame : goal.returns-clause-frame
unfolding carrier_frame
returns-clause-frame c = on_ok_of c.extend_from_slice-4.result (λ ok.
    let value = c.carrier_data-bytes.ensures.value in
    let one = c.in_ok-extend_from_slice.ensures.items ∙ ap (λ (r : List ℕ). c.args.stream.now.items ++ r) (c.to_le_bytes.ensures ∙ ap (λ (r : List ℕ). to_le_bytes w32 (length r + 8)) value) in
    let two = c.in_ok-extend_from_slice-2.ensures.items ∙ ap (λ (r : List ℕ). c.extend_from_slice.new.self.items ++ r) c.to_le_bytes-2.ensures in
    let three = c.in_ok-extend_from_slice-3.ensures.items ∙ ap (λ (r : List ℕ). c.extend_from_slice-2.new.self.items ++ r) (c.to_le_bytes-3.ensures ∙ ap (to_le_bytes w32) c.carrier_flags.ensures) in
    let four = c.extend_from_slice-4.ensures.items ∙ ap (λ (b : Bool). if b then c.extend_from_slice-3.new.self.items ++ c.carrier_data-bytes.result.now else c.extend_from_slice-3.new.self.items) ok ∙ ap (λ (r : List ℕ). c.extend_from_slice-3.new.self.items ++ r) value in
    four_pushed c.args.stream.now.items c.extend_from_slice.new.self.items c.extend_from_slice-2.new.self.items c.extend_from_slice-3.new.self.items c.extend_from_slice-4.new.self.items
    (to_le_bytes w32 (length (carrier_data c.args.message.now c.args.k) + 8)) (to_le_bytes w32 (length c.args.message.now)) (to_le_bytes w32 (carrier_flags (length c.args.message.now) c.args.k)) (carrier_data c.args.message.now c.args.k)
    one two three four)
