-- What a judge keeps of the entries that it took, what one more makes of that, and the rule that an entry breaks by it.
use Rattle.std.specs.Prelude.{◌≡◌, ℕ, ◌+◌, ◌-◌, ◌==◌, ◌&&◌, Bool, true, false, cond, not, nat_le, List, [], ◌∷◌, ◌++◌, Option, Some, None}
use Rattle.std.specs.List.{AllByRecursion}
use Rattle.std.specs.Option.{option_map_or}
use Rattle.rd_base.specs.declared.journal.Key.{Key}
use Rattle.rd_base.specs.declared.journal.Cause.TheVariants.{Dropped, Removed}
use Rattle.rd_base.specs.declared.journal.Item.{Item}
use Rattle.rd_base.specs.declared.journal.Item.TheVariants.{Came, Cancelled, Cut, Ran, Sent}
use Rattle.rd_lawful.specs.declared.known.Known.{Known}
use Rattle.rd_lawful.specs.declared.known.Stage.{Stage}
use Rattle.rd_lawful.specs.declared.known.Stage.TheVariants as stage
use Rattle.rd_lawful.specs.declared.rule.Rule.{Rule}
use Rattle.rd_lawful.specs.declared.rule.Rule.TheVariants as rule
use Rattle.rd_lawful.specs.Rules.{key_below, key_is}

pub record Remembered : Type 0 where
  -- the requests that came, in order
  pub known : List Known
  -- the last of their keys
  pub last : Option Key
  -- the last key that came before a cut, before a removal, before a drop
  pub cut : Option Key
  pub removed : Option Key
  pub dropped : Option Key
  -- what the last run or cut left waiting inside the device
  pub waiting : Option Key
  -- how many requests of the last channel came and aren't sent
  pub unsent : ℕ

-- of no entries
abbrev pub nothing_taken : Remembered
nothing_taken = record { known = []; last = None; cut = None; removed = None; dropped = None; waiting = None; unsent = 0 }

abbrev pub known_key : Known → Key
known_key k = record { channel = k.channel; index = k.index }

-- requests whose keys rise
abbrev pub IsRisingByKey : List Known → Type 0
IsRisingByKey [] = Unit {0}
IsRisingByKey (k ∷ ks) = AllByRecursion (λ (l : Known). key_below (known_key k) (known_key l) ≡ true) ks × IsRisingByKey ks

-- how far the request got, if it came
abbrev pub stage_in : List Known → Key → Option Stage
stage_in [] key = None
stage_in (k ∷ ks) key = cond (key_is (known_key k) key) (Some k.stage) (stage_in ks key)

-- the same requests, this one as far as that
abbrev pub with_stage : Key → Stage → List Known → List Known
with_stage key stage [] = []
with_stage key stage (k ∷ ks) = cond (key_is (known_key k) key) (record k { stage = stage }) k ∷ with_stage key stage ks

-- the key is above this one, if there is one
abbrev pub is_above : Option Key → Key → Bool
is_above mark key = option_map_or (λ (last : Key). key_below last key) mark true

abbrev pub channel_of_last : Option Key → ℕ
channel_of_last last = option_map_or (λ (key : Key). key.channel) last 0

-- one more entry, which breaks no rule
abbrev pub remember : Remembered → Item → Remembered
remember m (Came key) = record m {
  known = m.known ++ record { index = key.index; channel = key.channel; stage = stage.Waits } ∷ [];
  last = Some key;
  unsent = cond (channel_of_last m.last == key.channel) (m.unsent + 1) 1;
}
remember m (Ran key moment starved parked) = record m { known = with_stage key stage.Settled m.known; waiting = cond parked (Some key) None }
remember m (Cancelled key) = record m { known = with_stage key stage.Settled m.known }
remember m (Sent key) = record m { known = with_stage key stage.Sent m.known; unsent = m.unsent - 1 }
remember m (Cut Removed) = record m { cut = m.last; removed = m.last; waiting = None }
remember m (Cut Dropped) = record m { cut = m.last; dropped = m.last; waiting = None }

abbrev pub stage_waits : Option Stage → Bool
stage_waits (Some stage.Waits) = true
stage_waits _ = false

abbrev pub stage_settled : Option Stage → Bool
stage_settled (Some stage.Settled) = true
stage_settled _ = false

-- the key is what was left waiting
abbrev pub is_waiting : Option Key → Key → Bool
is_waiting waiting key = option_map_or (λ (k : Key). key_is k key) waiting false

-- a request that came may still be named
abbrev pub may_name : Remembered → Key → Bool
may_name m key = is_above m.dropped key && nat_le (channel_of_last m.last) key.channel

-- this rule where the test fails, and else what comes after it
abbrev pub unless : Bool → Rule → Option Rule → Option Rule
unless kept rule others = cond (not kept) (Some rule) others

-- the lowest rule that an entry breaks
abbrev pub broken_by : Remembered → Item → Option Rule
broken_by m (Came key) = unless (is_above m.last key) rule.KeysRise None
broken_by m (Ran key moment starved parked) =
    unless (stage_waits (stage_in m.known key)) rule.RunsOnce (unless (is_above m.cut key) rule.NoRunAfterCut (unless (may_name m key) rule.DropForgets None))
broken_by m (Cancelled key) =
    unless (stage_waits (stage_in m.known key)) rule.RunsOnce (unless (not (is_above m.removed key)) rule.CancelledAfterRemoval (unless (may_name m key) rule.DropForgets None))
broken_by m (Sent key) = unless (stage_settled (stage_in m.known key) && not (is_waiting m.waiting key)) rule.SentOnce (unless (may_name m key) rule.DropForgets None)
broken_by m (Cut cause) = unless (nat_le m.unsent 128) rule.FewUnsent None
