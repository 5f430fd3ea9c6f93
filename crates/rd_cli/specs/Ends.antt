-- How a run of the top call ends, by its words.
use Rattle.std.specs.Prelude.{◌≡◌, ℕ, List, []}
use Rattle.rd_base.specs.History.{History}
use Rattle.rd_cli.specs.Outside.{Linked, Outside, Sharing}
use Rattle.rd_cli.specs.Shapes.{HasShape}
use Rattle.rd_cli.specs.Stops.{StopsWith}
use Rattle.rd_cli.specs.Playing.{IsEndOfBoth, IsEndOfTrace}
use Rattle.rd_cli.specs.Decoding.{IsEndOfDecode}
use Rattle.rd_cli.specs.Auditing.{IsEndOfAudit}
use Rattle.rd_cli.specs.Loading.{IsEndOfLoad}
use Rattle.rd_cli.specs.Client.{IsEndOfClient}
use Rattle.rd_cli.specs.Host.{IsEndOfHost}
use Rattle.rd_cli.specs.declared.words.Command.{Command}
use Rattle.rd_cli.specs.declared.words.Command.TheVariants as command
use Rattle.rd_cli.specs.declared.stop.Stop.TheVariants as stop

-- how each command ends with a status; but for `client` and `host` none uses the linker, and but for `client` none opens a folder; `decode`, `audit`, `client` and `host` touch no recording, `decode`, `audit` and
-- `host` store no journal, and `load` reads no input
abbrev pub EndsCommand : {S K R L D : Type 0} → Command → (before after : Outside S K R) → (linked linked_after : Linked L) → (sharing sharing_after : Sharing D) → List (ℕ × History) → ℕ → Type 0
EndsCommand command.Both before after linked linked_after sharing sharing_after books status = IsEndOfBoth before after books status × (linked_after ≡ linked) × (sharing_after ≡ sharing)
EndsCommand command.Trace before after linked linked_after sharing sharing_after books status = IsEndOfTrace before after books status × (linked_after ≡ linked) × (sharing_after ≡ sharing)
EndsCommand command.Decode before after linked linked_after sharing sharing_after books status =
    IsEndOfDecode before.input after.input before.output after.output status × (after.recording ≡ before.recording) × (books ≡ []) × (linked_after ≡ linked) × (sharing_after ≡ sharing)
EndsCommand command.Audit before after linked linked_after sharing sharing_after books status =
    IsEndOfAudit before.input after.input before.output after.output status × (after.recording ≡ before.recording) × (books ≡ []) × (linked_after ≡ linked) × (sharing_after ≡ sharing)
EndsCommand (command.Load number) before after linked linked_after sharing sharing_after books status =
    IsEndOfLoad number before.output after.output before.recording after.recording books status × (after.input ≡ before.input) × (linked_after ≡ linked) × (sharing_after ≡ sharing)
EndsCommand (command.Client path) before after linked linked_after sharing sharing_after books status =
    IsEndOfClient before.input after.input before.output after.output linked linked_after sharing sharing_after books status × (after.recording ≡ before.recording)
EndsCommand (command.Host path) before after linked linked_after sharing sharing_after books status =
    IsEndOfHost before.input after.input before.output after.output linked linked_after status × (after.recording ≡ before.recording) × (books ≡ []) × (sharing_after ≡ sharing)

-- Words that are no command are refused, and nothing but the output was touched. It says so, unless the write of that failed or memory ran out before.
pub record RefusesWords {S K R L D : Type 0} (before after : Outside S K R) (linked linked_after : Linked L) (sharing sharing_after : Sharing D) (books : List (ℕ × History)) (status : ℕ) : Type 0 where
  pub says : StopsWith stop.Words before.output after.output status
  pub unread : after.input ≡ before.input
  pub unrecorded : after.recording ≡ before.recording
  pub unlinked : linked_after ≡ linked
  pub unshared : sharing_after ≡ sharing
  pub unstored : books ≡ []

-- How a run ends: words that are no command are refused, and those of a command end as it does.
pub record IsEnd {S K R L D : Type 0} (words : List (List ℕ)) (before after : Outside S K R) (linked linked_after : Linked L) (sharing sharing_after : Sharing D) (books : List (ℕ × History)) (status : ℕ) : Type 0 where
  pub refuses : ((command : Command) → ¬ (HasShape words command)) → RefusesWords before after linked linked_after sharing sharing_after books status
  pub runs : (command : Command) → HasShape words command → EndsCommand command before after linked linked_after sharing sharing_after books status

-- How the program ends: as a run of its words does, whatever journals it stored.
pub record EndsProgram {S K R L D : Type 0} (words : List (List ℕ)) (before after : Outside S K R) (linked linked_after : Linked L) (sharing sharing_after : Sharing D) (status : ℕ) : Type 0 where
  pub books : List (ℕ × History)
  pub ends : IsEnd words before after linked linked_after sharing sharing_after books status

-- It ended for want of memory before anything was read, written, connected or opened.
pub record EndsUntouched {S K R L D : Type 0} (before after : Outside S K R) (linked linked_after : Linked L) (sharing sharing_after : Sharing D) (status : ℕ) : Type 0 where
  pub same : after ≡ before
  pub unlinked : linked_after ≡ linked
  pub unshared : sharing_after ≡ sharing
  pub starved : status ≡ 6
