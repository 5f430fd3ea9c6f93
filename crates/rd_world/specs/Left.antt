-- Which requests of a channel its journals leave waiting, by their indices.
use Rattle.std.specs.Prelude.{ℕ, ◌==◌, ◌&&◌, Bool, false, if◌then◌else◌, List, Option, Some, None}
use Rattle.std.specs.List.{list_any}
use Rattle.std.specs.Option.{option_map_or}
use Rattle.rd_base.specs.declared.journal.Item.{Item}
use Rattle.rd_base.specs.declared.journal.Item.TheVariants.{Ran, Sent}

-- the index of a request on a channel that an entry says was left waiting when it ran
abbrev pub parked_index : ℕ → Item → Option ℕ
parked_index channel (Ran key moment starved parked) = if parked && key.channel == channel then Some key.index else None
parked_index channel _ = None

-- the index of a request on a channel whose completion an entry says was handed out
abbrev pub sent_index : ℕ → Item → Option ℕ
sent_index channel (Sent key) = if key.channel == channel then Some key.index else None
sent_index channel _ = None

abbrev pub is_index : ℕ → Option ℕ → Bool
is_index index o = option_map_or (λ i. index == i) o false

-- whether some entry says one or the other of an index
abbrev pub is_parked_in : List Item → ℕ → ℕ → Bool
is_parked_in journal channel index = list_any (λ item. is_index index (parked_index channel item)) journal

abbrev pub is_sent_in : List Item → ℕ → ℕ → Bool
is_sent_in journal channel index = list_any (λ item. is_index index (sent_index channel item)) journal
