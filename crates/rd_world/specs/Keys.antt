-- The keys of a session's requests in its journals: each is given once, so that of a request one run is stored at most.
use Rattle.std.specs.Prelude.{◌≡◌, ℕ, ◌⊎◌, List, map, slice_get, Option, Some, None, Result, Ok, Err}
use Rattle.rd_base.specs.declared.journal.Item.{Item}
use Rattle.rd_base.specs.declared.journal.Key.{Key}
use Rattle.rd_base.specs.Lawful.{IsBelow}
use Rattle.rd_station.specs.Memory.{NamesKey}
use Rattle.rd_station.specs.Station.{StationState}
use Rattle.rd_station.specs.declared.refusals.PutNo.{PutNo}
use Rattle.rd_declared.specs.declared.device.SessionDevice.{SessionDevice}

-- ---- what journals say of runs

-- each device's journal, by the device's id
abbrev pub station_journals : List (ℕ × StationState SessionDevice) → List (ℕ × List Item)
station_journals stations = map (λ (e : ℕ × StationState SessionDevice). let s = e.1 in (e.0, s.journal)) stations

-- ---- keys

-- the journal of the station at a place names the key
abbrev pub NamesAt : List (ℕ × StationState SessionDevice) → ℕ → Key → Type 0
NamesAt stations place key = (e : ℕ × StationState SessionDevice) × (slice_get stations place ≡ Some e) × NamesKey (e.1).journal key

-- No key is named at two places. So it has at most one run in all journals together, since it has in each, which is lawful.
abbrev pub KeysApart : List (ℕ × StationState SessionDevice) → Type 0
KeysApart stations = (key : Key) (i : ℕ) (j : ℕ) → NamesAt stations i key → NamesAt stations j key → i ≡ j

-- each key that a journal names is below this one
abbrev pub AreBelow : List (ℕ × StationState SessionDevice) → Key → Type 0
AreBelow stations key = (earlier : Key) (place : ℕ) → NamesAt stations place earlier → IsBelow earlier key

-- there is a last key, and this one is it or below it
abbrev pub IsUpTo : Key → Option Key → Type 0
IsUpTo key None = ⊥
IsUpTo key (Some last) = (key ≡ last) ⊎ IsBelow key last

-- No journal names a key above the last.
abbrev pub AreUpTo : List (ℕ × StationState SessionDevice) → Option Key → Type 0
AreUpTo stations last = (key : Key) (place : ℕ) → NamesAt stations place key → IsUpTo key last

-- the key that came last, after a job with this key came or not
abbrev pub last_after : Option Key → Key → Result (Unit {0}) PutNo → Option Key
last_after last key (Ok done) = Some key
last_after last key (Err refusal) = last
