-- How the command `client` ends.
use Rattle.std.specs.Prelude.{◌≡◌, ℕ, List, []}
use Rattle.rd_base.specs.History.{History}
use Rattle.rd_carry.specs.declared.ended.Ended.{Ended}
use Rattle.rd_script.specs.declared.keyword.Mode.TheVariants as mode
use Rattle.rd_script.specs.declared.script.Script.{Script}
use Rattle.rd_script.specs.Report.{device_lines}
use Rattle.rd_sharing.specs.FolderLines.{folder_devices}
use Rattle.rd_sharing.specs.Refused.{StopsAtFolder}
use Rattle.rd_sharing.specs.ServedOpening.{folders_told}
use Rattle.rd_workers.specs.Books.{AreLawfulBooks, RunAtTold}
use Rattle.rd_workers.specs.Channels.{told_as}
use Rattle.rd_workers.specs.Faults.{TellsFaults}
use Rattle.rd_workers.specs.Served.{HasServedLines}
use Rattle.rd_workers.specs.declared.client_ended.ClientEnded.TheVariants as client
use Rattle.rd_declared.specs.Declaring.{bare_lines}
use Rattle.rd_cli.specs.Outside.{Linked, Sharing, Stream}
use Rattle.rd_cli.specs.Serving.{IsEndOfServing}

-- What holds of a session of a script's devices that came to this end, of the books that it left, and of the text that tells of it.
pub record IsClientSession {L D : Type 0} (linked linked_after : Linked L) (sharing sharing_after : Sharing D) (books : List (ℕ × History)) (script : Script) (e : Ended) (text : List ℕ) : Type 0 where
  -- by one history of the front over the script's devices, whose folders were opened, and their faults counted at the end: what was read on each channel was heard, and what was handed out is what was written
  pub channels : HasServedLines script.lines (client.Ended e) books (told_as linked.links linked.failures) (told_as linked_after.links linked_after.failures)
      (folders_told sharing.opened sharing.failures sharing.trouble) (folders_told sharing_after.opened sharing_after.failures sharing_after.trouble)
  pub lawful : AreLawfulBooks books
  -- each run at the moment that the clock tells
  pub moments : RunAtTold linked.moment books
  pub faults : TellsFaults e linked.failures linked_after.failures linked.trouble linked_after.trouble
  -- of each device how many requests it ran
  pub lines : text ≡ device_lines script.lines books

-- nothing was connected, no folder opened, and no journal stored
pub record ServedNothing {L D : Type 0} (linked linked_after : Linked L) (sharing sharing_after : Sharing D) (books : List (ℕ × History)) : Type 0 where
  pub unlinked : linked_after ≡ linked
  pub unshared : sharing_after ≡ sharing
  pub unstored : books ≡ []

-- The folder of a device of the script couldn't be opened, which counts one failure; those of the devices before it were, in the order of the ids, and no others. Nothing was connected, no journal stored, and the
-- count of faults of closed folders stayed.
pub record IsFolderUnopened {L D : Type 0} (linked linked_after : Linked L) (sharing sharing_after : Sharing D) (books : List (ℕ × History)) (script : Script) : Type 0 where
  pub device : ℕ
  pub stops : StopsAtFolder (folder_devices (bare_lines script.lines)) device (folders_told sharing.opened sharing.failures sharing.trouble)
      (folders_told sharing_after.opened sharing_after.failures sharing_after.trouble)
  pub untroubled : sharing_after.trouble ≡ sharing.trouble
  pub unlinked : linked_after ≡ linked
  pub unstored : books ≡ []

-- How the command ends with a status: as one that serves a client's script.
abbrev pub IsEndOfClient : {S K L D : Type 0} → (input input_after : Stream S) → (output output_after : Stream K) → (linked linked_after : Linked L) → (sharing sharing_after : Sharing D) → List (ℕ × History) → ℕ → Type 0
IsEndOfClient input input_after output output_after linked linked_after sharing sharing_after books status =
    IsEndOfServing mode.Client (IsClientSession linked linked_after sharing sharing_after books) (ServedNothing linked linked_after sharing sharing_after books)
    (IsFolderUnopened linked linked_after sharing sharing_after books) input input_after output output_after status
