-- The verdict on the parts of an audit file.
use Rattle.std.specs.Prelude.{ℕ, List, [], Option, Some, None, Result, Ok, Err, unwrap_or}
use Rattle.std.specs.Option.{option_or}
use Rattle.rd_declared.specs.Devices.{Declared}
use Rattle.rd_audit_file.specs.declared.line.JournalLine.{JournalLine}
use Rattle.rd_recorded.specs.Channels.{HeardChannel}
use Rattle.rd_audit.specs.declared.verdict.Verdict.{Verdict}
use Rattle.rd_audit.specs.declared.verdict.Verdict.TheVariants.{Yes}
use Rattle.rd_audit.specs.Completions.{first_lacking, first_wrong}
use Rattle.rd_audit.specs.Lawful.{first_unlawful}
use Rattle.rd_audit.specs.Replayed.{Account, replayed, account_new}

-- what is found behind lawful journals
abbrev pub first_amiss : List HeardChannel → Result Account Verdict → Option Verdict
first_amiss channels (Err mark) = Some mark
first_amiss channels (Ok r) = option_or (first_wrong r 1 channels) (first_lacking r 1 channels)

-- The first that doesn't belong, in this order: an entry of a journal that breaks a rule, or the end of one; an entry that doesn't agree with its device; a completion
-- that doesn't belong; and a channel that lacks one.
abbrev pub judged : List (ℕ × Declared) → List JournalLine → List HeardChannel → Verdict
judged devices lines channels = unwrap_or (option_or (first_unlawful 0 [] lines) (first_amiss channels (replayed channels devices None account_new lines))) Yes
