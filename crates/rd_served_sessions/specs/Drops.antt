-- What the end of a channel leaves of it at the devices.
use Rattle.std.specs.Prelude.{◌≡◌, ℕ, ◌<◌, List, [], ◌∷◌, IfSome}
use Rattle.std.specs.List.{AllByRecursion}
use Rattle.rd_base.specs.Lawful.{named_key}
use Rattle.rd_base.specs.declared.journal.Item.{Item}
use Rattle.rd_base.specs.declared.journal.Item.TheVariants.{Came, Cut}
use Rattle.rd_base.specs.declared.journal.Key.{Key}
use Rattle.rd_deeds.specs.Talk.{Deed, client_read, client_reads, client_writes, client_wrote, completes, journal, stores}

-- the keys that came to a device since it was cut off last, by its journal, the newest first
abbrev pub uncut_keys : List Item → List Key
uncut_keys [] = []
uncut_keys (Came key ∷ before) = key ∷ uncut_keys before
uncut_keys (Cut cause ∷ before) = []
uncut_keys (item ∷ before) = uncut_keys before

-- at each device these are all of one channel
abbrev pub UncutAreOf : ℕ → List Deed → Type 0
UncutAreOf channel deeds = (device : ℕ) → AllByRecursion (λ (key : Key). key.channel ≡ channel) (uncut_keys (journal device deeds))

-- nothing was read or written on a later channel
abbrev pub NoneLater : ℕ → List Deed → Type 0
NoneLater channel deeds = (c : ℕ) → channel < c → (client_read c deeds ≡ []) × (client_wrote c deeds ≡ [])

-- Before anything is read or written on a channel, each device is cut off to which something came on another since it was cut off last. And no entry is stored of a key once anything was read or written on a later channel.
abbrev pub EndsFirst : List Deed → Deed → Type 0
EndsFirst before (client_reads channel message) = UncutAreOf channel before
EndsFirst before (client_writes channel message) = UncutAreOf channel before
EndsFirst before (completes key message) = UncutAreOf key.channel before
EndsFirst before (stores device item) = IfSome (named_key item) (λ key. NoneLater key.channel before)
EndsFirst before _ = Unit {0}
