-- The requests that a client read, by their keys.
use Rattle.std.specs.Prelude.{◌≡◌, ◌⊎◌, ℕ, ◌<◌, suc, if◌then◌else◌, List, [], ◌∷◌, Some}
use Rattle.rd_base.specs.declared.journal.Item.{Item}
use Rattle.rd_base.specs.declared.journal.Item.TheVariants.{Came, Cut}
use Rattle.rd_base.specs.declared.journal.Key.{Key}
use Rattle.rd_irp.specs.declared.request.Request.{Request}
use Rattle.rd_deeds.specs.Talk.{Deed, client_read, client_reads, is_request, request_at, stores}

-- the request of a key was read, and names the device
abbrev pub IsRead : ℕ → Key → List Deed → Type 0
IsRead device key deeds = (r : Request) × (request_at (client_read key.channel deeds) key.index ≡ Some r) × (r.device ≡ device)

-- A key comes after the read of its request, which names the journal's device.
abbrev pub ComesRead : List Deed → Deed → Type 0
ComesRead before (stores device (Came key)) = IsRead device key before
ComesRead before _ = Unit {0}

-- how many requests were read, on all channels
abbrev pub reads_count : List Deed → ℕ
reads_count [] = 0
reads_count (client_reads channel message ∷ before) = if is_request message then suc (reads_count before) else reads_count before
reads_count (deed ∷ before) = reads_count before

-- Of so many channels that began and so many requests that were read on the last one: the key is of one that was read.
abbrev pub IsGiven : ℕ → ℕ → Key → Type 0
IsGiven channels asked key = (key.channel < channels) ⊎ ((key.channel ≡ channels) × (key.index < asked))

-- how many entries of a journal say that the device was cut off
abbrev pub cuts : List Item → ℕ
cuts [] = 0
cuts (Cut cause ∷ entries) = suc (cuts entries)
cuts (entry ∷ entries) = cuts entries
