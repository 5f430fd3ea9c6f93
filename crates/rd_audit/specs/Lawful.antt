-- The first entry of journals that breaks a rule of journals.
use Rattle.std.specs.Prelude.{◌≡◌, ℕ, ◌+◌, if◌then◌else◌, List, [], ◌∷◌, ◌++◌, length, Option, Some, None, option_map}
use Rattle.std.specs.Option.{option_or}
use Rattle.rd_base.specs.declared.journal.Item.{Item}
use Rattle.rd_audit_file.specs.declared.line.JournalLine.{JournalLine}
use Rattle.rd_audit_file.specs.declared.line.JournalLine.TheVariants.{Device, Entry}
use Rattle.rd_audit_file.specs.Lines.{BeginsWithLine, BeginsWithNoLine}
use Rattle.rd_lawful.specs.declared.rule.Rule.{Rule}
use Rattle.rd_lawful.specs.declared.rule.Rule.TheVariants as rule
use Rattle.rd_lawful.specs.Judged.{HasTaken}
use Rattle.rd_lawful.specs.Rules.{few_unsent, rule_broken, rule_number}
use Rattle.rd_audit.specs.declared.lawful.Judged.{Judged}
use Rattle.rd_audit.specs.declared.verdict.Verdict.{Verdict}
use Rattle.rd_audit.specs.declared.verdict.Verdict.TheVariants as verdict

-- an entry of a device's journal breaks a rule after these, the lowest of those that it breaks
abbrev pub entry_broken : ℕ → List Item → Item → Option Verdict
entry_broken device items entry = option_map (λ (r : Rule). verdict.Item device (length items + 1) (rule_number r)) (rule_broken items entry)

-- a device's journal may not end after these entries
abbrev pub broken_at_end : ℕ → List Item → Option Verdict
broken_at_end device items = if few_unsent items then None else Some (verdict.Item device (length items + 1) (rule_number rule.FewUnsent))

-- Of the journals of these lines, where these entries of a device's journal stand before them: the first entry that breaks a rule, or the first journal that may
-- not end where it does, whichever comes first.
abbrev pub first_unlawful : ℕ → List Item → List JournalLine → Option Verdict
first_unlawful device items [] = broken_at_end device items
first_unlawful device items (Device id ∷ lines) = option_or (broken_at_end device items) (first_unlawful id [] lines)
first_unlawful device items (Entry entry ∷ lines) = option_or (entry_broken device items entry) (first_unlawful device (items ++ entry ∷ []) lines)

-- these entries of a device's journal were judged
pub record HasJudged (j : Judged) (device : ℕ) (items : List Item) : Type 0 where
  pub of_device : j.device ≡ device
  pub counted : j.count ≡ length items
  pub taken : HasTaken j.judge items

-- a line in form was next and was read, or none is
abbrev pub ReadsNextLine : (old new : List ℕ) → Option JournalLine → Type 0
ReadsNextLine old new (Some line) = BeginsWithLine old line new
ReadsNextLine old new None = BeginsWithNoLine old
