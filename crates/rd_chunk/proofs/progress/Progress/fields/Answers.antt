use Rattle.std.proofs.Common.{sym, ◌∙◌}
use Rattle.rd_chunk.proofs.HeadLemmas.{size_at, length_at, flags_at}
use Rattle.rd_chunk.proofs.progress.Progress.fields.Goals as goal

pub returns-clause-size : goal.returns-clause-size
returns-clause-size c = λ h. c.from_le_bytes.ensures ∙ sym (size_at c.args.self.head c.args.self.have h)

pub returns-clause-length : goal.returns-clause-length
returns-clause-length c = λ h. rw h (c.from_le_bytes-2.ensures ∙ sym (length_at c.args.self.head))

pub returns-clause-flags : goal.returns-clause-flags
returns-clause-flags c = λ h. rw h (c.from_le_bytes-3.ensures ∙ sym (flags_at c.args.self.head))
