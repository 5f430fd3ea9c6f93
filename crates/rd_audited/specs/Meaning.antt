-- What an auditor's yes says of journals and channels, each by itself.
use Rattle.std.specs.Prelude.{◌≡◌, ◌≢◌, ℕ, false, List, [], ◌∷◌, Some, None}
use Rattle.std.specs.List.{AllByRecursion}
use Rattle.rd_base.specs.declared.journal.Item.{Item}
use Rattle.rd_base.specs.declared.journal.Item.TheVariants.{Came, Ran}
use Rattle.rd_base.specs.Lawful.{IsLawful}
use Rattle.rd_drive.specs.Replies.{AreToldBy}
use Rattle.rd_irp.specs.declared.request.Request.{Request}
use Rattle.rd_declared.specs.Devices.{Declared, device_cut, device_step}
use Rattle.rd_recorded.specs.Channels.{HeardChannel, HeardRequest, Saying, completes}
use Rattle.rd_audit.specs.Replayed.{heard_at, named_by, request_named}

-- what came is a request of the recording to the device, and what ran is one of the recording
abbrev pub NamesOwn : List HeardChannel → ℕ → Item → Type 0
NamesOwn channels device (Came key) = (a : HeardRequest) × (heard_at channels key ≡ Some a) × (a.device ≡ device)
NamesOwn channels device (Ran key moment starved parked) = (r : Request) × (named_by channels key ≡ Some r)
NamesOwn channels device _ = Unit {0}

-- A journal is lawful, names requests of the recording to its device, and has the marks of what the device does with them.
pub record IsOwnJournal (channels : List HeardChannel) (d : ℕ × Declared) (items : List Item) : Type 0 where
  pub lawful : IsLawful items
  pub named : AllByRecursion (NamesOwn channels d.0) items
  pub marked : AreToldBy device_step device_cut (request_named channels) (d.1).state items

-- one journal a device, in order
abbrev pub AreOwnJournals : List HeardChannel → List (ℕ × Declared) → List (ℕ × List Item) → Type 0
AreOwnJournals channels [] [] = Unit {0}
AreOwnJournals channels (d ∷ devices) (j ∷ journals) = (j.0 ≡ d.0) × IsOwnJournal channels d j.1 × AreOwnJournals channels devices journals
AreOwnJournals channels _ _ = ⊥

-- each completion is of some request
abbrev pub HasNoStray : HeardChannel → Type 0
HasNoStray c = AllByRecursion (λ (s : Saying). (message : List ℕ) → s.said ≢ completes None message) c.sayings

-- where a channel didn't end, each of its requests is completed
abbrev pub IsComplete : HeardChannel → Type 0
IsComplete c = c.ended ≡ false → AllByRecursion (λ (a : HeardRequest). a.completion ≢ None) c.requests
