-- What a station remembers of the requests that its journal names, and whether another may come by that.
use Rattle.std.specs.Prelude.{◌≡◌, ℕ, ◌≤◌, ◌⊎◌, ◌==◌, ◌&&◌, ◌||◌, Bool, true, nat_lt, if◌then◌else◌, List, Some, None, Any, Contains}
use Rattle.std.specs.Option.{option_map, option_map_or}
use Rattle.rd_base.specs.declared.journal.Item.{Item}
use Rattle.rd_base.specs.declared.journal.Key.{Key}
use Rattle.rd_base.specs.Lawful.{IsBelow, named_key}
use Rattle.rd_station.specs.declared.memory.Memory.{Memory}
use Rattle.rd_station.specs.Station.{IsKnown, StationState, held}

-- before any request came
abbrev pub nothing_remembered : Memory
nothing_remembered = record { last = None; forgotten = None }

abbrev pub is_key_below : Key → Key → Bool
is_key_below a b = nat_lt a.channel b.channel || (a.channel == b.channel && nat_lt a.index b.index)

-- A key may come that is above the last, of its channel where requests are held, and of a later channel than what was forgotten.
abbrev pub may_come : Memory → ℕ → Key → Bool
may_come m count key =
    option_map_or (λ (last : Key). is_key_below last key && (count == 0 || last.channel == key.channel) && option_map_or (λ c. nat_lt c key.channel) m.forgotten true) m.last true

abbrev pub after_come : Memory → Key → Memory
after_come m key = record m { last = Some key }

abbrev pub after_drop : Memory → ℕ → Memory
after_drop m count = if nat_lt 0 count then record m { forgotten = option_map (λ (last : Key). last.channel) m.last } else m

-- an entry of the journal names the key
abbrev pub NamesKey : List Item → Key → Type 0
NamesKey journal key = Any (λ entry. named_key entry ≡ Some key) journal

-- A station's memory is of its journal: the greatest key that this names, and the last channel of which it names one that isn't known any more.
pub record Remembers {S : Type 0} (s : StationState S) (m : Memory) : Type 0 where
  pub none : m.last ≡ None → (key : Key) → ¬ (NamesKey s.journal key)
  pub named : (last : Key) → m.last ≡ Some last → NamesKey s.journal last
  pub greatest : (last key : Key) → m.last ≡ Some last → NamesKey s.journal key → (key ≡ last) ⊎ IsBelow key last
  pub channel : (job : Key × ℕ) → Contains (held s) job → (last : Key) × (m.last ≡ Some last) × ((job.0).channel ≡ last.channel)
  pub known : (key : Key) → NamesKey s.journal key → IsKnown s key ⊎ ((c : ℕ) × (m.forgotten ≡ Some c) × (key.channel ≤ c))
  pub forgot : (c : ℕ) → m.forgotten ≡ Some c → (key : Key) × NamesKey s.journal key × (key.channel ≡ c) × (¬ (IsKnown s key))
