use Rattle.std.proofs.Common.{rules, ◌≤◌, length, sym, ◌∙◌}
use Rattle.rd_decode.proofs.FrameHeadLemmas.{flags_there, length_there, size_there}
use Rattle.rd_decode.proofs.frame.head_of.Goals as goal

-- src/frame.rt:23:1
pub returns-clause-size : goal.returns-clause-size
returns-clause-size c =
    let there : 12 ≤ length c.args.bytes.now = search rules in
    let four : 4 ≤ length c.args.bytes.now = search rules in
    (there, c.from_le_bytes.ensures ∙ sym (size_there c.args.bytes.now four))

-- src/frame.rt:23:1
pub returns-clause-length : goal.returns-clause-length
returns-clause-length c =
    let there : 12 ≤ length c.args.bytes.now = search rules in
    c.from_le_bytes-2.ensures ∙ sym (length_there c.args.bytes.now there)

-- src/frame.rt:23:1
pub returns-clause-flags : goal.returns-clause-flags
returns-clause-flags c =
    let there : 12 ≤ length c.args.bytes.now = search rules in
    c.from_le_bytes-3.ensures ∙ sym (flags_there c.args.bytes.now there)
