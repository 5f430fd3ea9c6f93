-- What a judge keeps is of the entries that it took.
use Rattle.std.specs.Prelude.{◌≡◌, ◌≤◌, Bool, true, cond, not, List, length, Option, Some, None, count_by}
use Rattle.std.specs.List.{AllByRecursion, list_any}
use Rattle.rd_base.specs.declared.journal.Key.{Key}
use Rattle.rd_base.specs.declared.journal.Item.{Item}
use Rattle.rd_base.specs.Lawful.{sends}
use Rattle.rd_lawful.specs.declared.known.Known.{Known}
use Rattle.rd_lawful.specs.declared.known.Stage.{Stage}
use Rattle.rd_lawful.specs.declared.known.Stage.TheVariants as stage
use Rattle.rd_lawful.specs.Rules.{IsLawfulSoFar, came_before, is_cut, is_drop, is_removal, key_below, last_channel, says_came, says_came_above, says_settled, still_waits, unsent_count}
use Rattle.rd_lawful.specs.Memory.{IsRisingByKey, Remembered, channel_of_last, is_above, is_waiting, known_key, stage_in}

-- how far entries say that a request got, if they say that it came
abbrev pub stage_of : List Item → Key → Option Stage
stage_of items key =
    cond (list_any (sends key) items) (Some stage.Sent) (cond (list_any (says_settled key) items) (Some stage.Settled) (cond (list_any (says_came key) items) (Some stage.Waits) None))

-- A mark among the keys that came tells which of them came before an entry that passes the test: those that aren't above it.
pub record IsMark (test : Item → Bool) (mark last : Option Key) (items : List Item) : Type 0 where
  pub below : (key : Key) → is_above last key ≡ true → is_above mark key ≡ true
  pub tells : (key : Key) → list_any (says_came key) items ≡ true → came_before test key items ≡ not (is_above mark key)

-- What is kept is of these entries: each of its parts tells what the entries do.
pub record IsMemoryOf (items : List Item) (m : Remembered) : Type 0 where
  pub rising : IsRisingByKey m.known
  -- a key above the last is above each that came
  pub above : (key : Key) → is_above m.last key ≡ true → AllByRecursion (λ (k : Known). key_below (known_key k) key ≡ true) m.known
  -- and no other is
  pub rises : (key : Key) → not (list_any (says_came_above key) items) ≡ is_above m.last key
  pub stages : (key : Key) → stage_in m.known key ≡ stage_of items key
  -- what is sent ran or was cancelled, and what did came
  pub orderly : (key : Key) → (list_any (sends key) items ≡ true → list_any (says_settled key) items ≡ true) × (list_any (says_settled key) items ≡ true → list_any (says_came key) items ≡ true)
  -- which requests came before a cut, a removal, a drop
  pub cut : IsMark is_cut m.cut m.last items
  pub removed : IsMark is_removal m.removed m.last items
  pub dropped : IsMark is_drop m.dropped m.last items
  pub waiting : (key : Key) → still_waits key items ≡ is_waiting m.waiting key
  pub channel : last_channel items ≡ channel_of_last m.last
  -- each request came once
  pub once : (key : Key) → count_by (says_came key) items ≤ 1
  -- on the last channel
  pub unsent : unsent_count items (channel_of_last m.last) ≡ m.unsent
  pub few : m.unsent ≤ length m.known

-- A judge has taken these entries: they are lawful so far, and what it keeps is of them.
pub record HasTaken (m : Remembered) (items : List Item) : Type 0 where
  pub lawful : IsLawfulSoFar items
  pub memory : IsMemoryOf items m
