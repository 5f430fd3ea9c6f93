-- The rules of a journal one by one: what each asks of an entry by the entries before it, whether the entry keeps it, and the lowest rule that an
-- entry breaks.
use Rattle.std.specs.Prelude.{ℕ, max, ◌==◌, ◌&&◌, ◌||◌, Bool, true, false, not, nat_lt, nat_le, List, [], ◌∷◌, Option, find, count_by}
use Rattle.std.specs.List.{list_all, list_any}
use Rattle.std.specs.Option.{option_map_or}
use Rattle.rd_base.specs.declared.journal.Key.{Key}
use Rattle.rd_base.specs.declared.journal.Cause.TheVariants.{Dropped, Removed}
use Rattle.rd_base.specs.declared.journal.Item.{Item}
use Rattle.rd_base.specs.declared.journal.Item.TheVariants.{Came, Cancelled, Cut, Ran, Sent}
use Rattle.rd_base.specs.Lawful.{CancelsRemoved, CutsFewUnsent, EachEntry, NamesRemembered, RisesAbove, RunsUncut, SendsFirst, SettlesFirst, is_unsent, named_key, sends}
use Rattle.rd_lawful.specs.declared.rule.Rule.{Rule}
use Rattle.rd_lawful.specs.declared.rule.Rule.TheVariants as rule

-- what a rule asks of an entry
abbrev pub KeepsRule : Rule → List Item → Item → Type 0
KeepsRule rule.KeysRise = RisesAbove
KeepsRule rule.RunsOnce = SettlesFirst
KeepsRule rule.SentOnce = SendsFirst
KeepsRule rule.NoRunAfterCut = RunsUncut
KeepsRule rule.CancelledAfterRemoval = CancelsRemoved
KeepsRule rule.DropForgets = NamesRemembered
KeepsRule rule.FewUnsent = CutsFewUnsent

-- A journal that may go on: each entry keeps each rule. To be lawful it must, besides, have few unsent at its end.
abbrev pub IsLawfulSoFar : List Item → Type 0
IsLawfulSoFar journal = (rule : Rule) → EachEntry (KeepsRule rule) journal

-- ---- the same as tests

abbrev pub key_is : Key → Key → Bool
key_is k l = k.channel == l.channel && k.index == l.index

abbrev pub key_below : Key → Key → Bool
key_below k l = nat_lt k.channel l.channel || (k.channel == l.channel && nat_lt k.index l.index)

-- an entry says that the request came
abbrev pub says_came : Key → Item → Bool
says_came key (Came k) = key_is k key
says_came key _ = false

-- that it ran or was cancelled
abbrev pub says_settled : Key → Item → Bool
says_settled key (Ran k moment starved parked) = key_is k key
says_settled key (Cancelled k) = key_is k key
says_settled key _ = false

-- that it was left waiting inside its device
abbrev pub says_parked : Key → Item → Bool
says_parked key (Ran k moment starved parked) = parked && key_is k key
says_parked key _ = false

-- that a request came whose key isn't below this one
abbrev pub says_came_above : Key → Item → Bool
says_came_above key (Came k) = not (key_below k key)
says_came_above key _ = false

-- it may end what waits inside the device
abbrev pub may_end : Item → Bool
may_end (Ran key moment starved parked) = true
may_end (Cut cause) = true
may_end _ = false

abbrev pub is_cut : Item → Bool
is_cut (Cut cause) = true
is_cut _ = false

abbrev pub is_removal : Item → Bool
is_removal (Cut Removed) = true
is_removal _ = false

abbrev pub is_drop : Item → Bool
is_drop (Cut Dropped) = true
is_drop _ = false

-- an entry that passes the test stands after the request came
abbrev pub came_before : (Item → Bool) → Key → List Item → Bool
came_before test key [] = false
came_before test key (x ∷ xs) = (says_came key x && list_any test xs) || came_before test key xs

-- the request was left waiting, and nothing after that may end it
abbrev pub still_waits : Key → List Item → Bool
still_waits key [] = false
still_waits key (x ∷ xs) = (says_parked key x && not (list_any may_end xs)) || still_waits key xs

-- the channel of the key that an entry names, 0 where it names none
abbrev pub named_channel : Item → ℕ
named_channel entry = option_map_or (λ (key : Key). key.channel) (named_key entry) 0

-- the last channel that entries name, 0 where they name none
abbrev pub last_channel : List Item → ℕ
last_channel [] = 0
last_channel (x ∷ xs) = max (named_channel x) (last_channel xs)

-- an entry names no later channel
abbrev pub names_within : ℕ → Item → Bool
names_within channel entry = option_map_or (λ (key : Key). nat_le key.channel channel) (named_key entry) true

-- how many requests of a channel came and aren't sent
abbrev pub unsent_count : List Item → ℕ → ℕ
unsent_count journal channel = count_by (is_unsent journal channel) journal

-- at most 128 of the last channel
abbrev pub few_unsent : List Item → Bool
few_unsent journal = nat_le (unsent_count journal (last_channel journal)) 128

abbrev pub rises_above : List Item → Item → Bool
rises_above before (Came key) = not (list_any (says_came_above key) before)
rises_above before _ = true

abbrev pub is_unsettled : List Item → Key → Bool
is_unsettled before key = list_any (says_came key) before && not (list_any (says_settled key) before)

abbrev pub settles_first : List Item → Item → Bool
settles_first before (Ran key moment starved parked) = is_unsettled before key
settles_first before (Cancelled key) = is_unsettled before key
settles_first before _ = true

abbrev pub sends_first : List Item → Item → Bool
sends_first before (Sent key) = list_any (says_settled key) before && (not (still_waits key before) && not (list_any (sends key) before))
sends_first before _ = true

abbrev pub runs_uncut : List Item → Item → Bool
runs_uncut before (Ran key moment starved parked) = not (came_before is_cut key before)
runs_uncut before _ = true

abbrev pub cancels_removed : List Item → Item → Bool
cancels_removed before (Cancelled key) = came_before is_removal key before
cancels_removed before _ = true

abbrev pub remembers_key : List Item → Key → Bool
remembers_key before key = not (came_before is_drop key before) && list_all (names_within key.channel) before

abbrev pub names_remembered : List Item → Item → Bool
names_remembered before entry = option_map_or (remembers_key before) (named_key entry) true

abbrev pub cuts_few_unsent : List Item → Item → Bool
cuts_few_unsent before (Cut cause) = few_unsent before
cuts_few_unsent before _ = true

-- whether an entry keeps the rule
abbrev pub keeps_rule : Rule → List Item → Item → Bool
keeps_rule rule.KeysRise = rises_above
keeps_rule rule.RunsOnce = settles_first
keeps_rule rule.SentOnce = sends_first
keeps_rule rule.NoRunAfterCut = runs_uncut
keeps_rule rule.CancelledAfterRemoval = cancels_removed
keeps_rule rule.DropForgets = names_remembered
keeps_rule rule.FewUnsent = cuts_few_unsent

abbrev pub rules : List Rule
rules = rule.KeysRise ∷ rule.RunsOnce ∷ rule.SentOnce ∷ rule.NoRunAfterCut ∷ rule.CancelledAfterRemoval ∷ rule.DropForgets ∷ rule.FewUnsent ∷ []

-- the place of a rule among them, from 1
abbrev pub rule_number : Rule → ℕ
rule_number rule.KeysRise = 1
rule_number rule.RunsOnce = 2
rule_number rule.SentOnce = 3
rule_number rule.NoRunAfterCut = 4
rule_number rule.CancelledAfterRemoval = 5
rule_number rule.DropForgets = 6
rule_number rule.FewUnsent = 7

-- the lowest rule that an entry breaks after these, if it breaks one
abbrev pub rule_broken : List Item → Item → Option Rule
rule_broken before entry = find (λ rule. not (keeps_rule rule before entry)) rules
