use Rattle.std.proofs.Common.{rules, ◌≤◌, length, sym, ◌∙◌}
use Rattle.rd_decode.proofs.FrameHeadLemmas.{size_there}
use Rattle.rd_decode.proofs.frame.size_of.Goals as goal

-- src/frame.rt:12:1
pub returns-clause-size : goal.returns-clause-size
returns-clause-size c =
    let there : 4 ≤ length c.args.bytes.now = search rules in
    (there, c.from_le_bytes.ensures ∙ sym (size_there c.args.bytes.now there))
