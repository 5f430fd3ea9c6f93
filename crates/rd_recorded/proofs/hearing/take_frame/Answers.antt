use Rattle.std.proofs.Common.{◌≡◌, ◌≤◌, ◌+◌, ◌-◌, length, take, drop, None, sym, ap, ◌∙◌, rules, arith}
use Rattle.std.specs.Prelude.{ℕ}
use Rattle.rd_chunk.specs.Frames.{length_of, size_of}
use Rattle.rd_chunk.specs.Faults.{fields_fault, head_fault, size_fault}
use Rattle.rd_chunk.proofs.HeadLemmas.{good_size}
use Rattle.rd_decode.proofs.EntryLemmas.{enough_room}
use Rattle.rd_recorded.specs.Entries.{heard_data, heard_frame, open_under_way}
use Rattle.rd_recorded.specs.Kept.{open_of}
use Rattle.rd_recorded.proofs.FrameLemmas.{frame_data, takes_same, whole_frame}
use Rattle.rd_recorded.proofs.hearing.take_frame.Goals as goal

-- src/hearing.rt:133:5
pub take_data-requires : goal.take_data-requires
take_data-requires c =
    let before = (open_under_way c.args.side (open_of c.args.channel.now)).joined in
    let head = c.in-Some-head_of.head in
    let none : fields_fault c.whole.result (length before) c.in-Some.size head.length head.flags ≡ None = search rules in
    let good : size_fault c.in-Some.size ≡ None = search rules in
    enough_room _ (length before) c.in-Some.size head.length head.flags c.args.bytes.now none good c.if-bytes-len.false

-- src/hearing.rt:107:1
pub returns : goal.returns
returns c =
    let bytes = c.args.bytes.now in
    let number = c.args.number in
    let side = c.args.side in
    let before = open_of c.args.channel.now in
    let size_is : c.in-Some.size ≡ size_of bytes = search rules in
    let good : size_fault (size_of bytes) ≡ None = search rules in
    let none : head_fault (open_under_way side before).whole (length (open_under_way side before).joined) bytes ≡ None = search rules in
    let twelve : 12 ≤ length bytes = search rules in
    let all : size_of bytes + 4 ≤ length bytes = search rules in
    let low = good_size (size_of bytes) good in
    let len = c.in-Some.size + 4 in
    let part = take (len - 12) (drop 12 bytes) in
    let length_is : length_of bytes ≡ c.in-Some-head_of.head.length = search rules in
    let same = whole_frame number side before bytes good none twelve all ∙ ap (λ (n : ℕ). heard_frame number side before (take (n + 4) bytes)) (sym size_is)
    ∙ frame_data number side before bytes len (omega (arith, size_is, low)) (omega (arith, size_is, all)) ∙ ap (λ (n : ℕ). heard_data (13 + length part) number side before n part) length_is in
    takes_same _ _ _ _ same c.take_data.ensures
