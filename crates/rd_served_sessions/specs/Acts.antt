-- What the lines of a script did on a channel, by the calls by which they acted; and what they do, by the devices that are there.
use Rattle.std.specs.Prelude.{◌≡◌, ℕ, ◌==◌, ◌&&◌, ◌||◌, Bool, false, not, if◌then◌else◌, List, [], ◌∷◌, ◌++◌}
use Rattle.rd_front.specs.Calls.{FrontEntry}
use Rattle.rd_front.specs.declared.calls.FrontCall.{FrontCall}
use Rattle.rd_front.specs.declared.calls.FrontCall.TheVariants as call
use Rattle.rd_front.specs.declared.calls.FrontReply.{FrontReply}
use Rattle.rd_front.specs.declared.calls.FrontReply.TheVariants as reply
use Rattle.rd_world.specs.Control.{Act, added, is_among, removed}
use Rattle.rd_workers.specs.Channels.{ChannelRun}
use Rattle.rd_workers.specs.Lines.{was_full}

-- ---- what calls did

-- A call that is done removes its device, or adds it.
abbrev pub act_done : FrontCall → FrontReply → List Act
act_done (call.Remove device) (reply.Done at full) = removed device ∷ []
act_done (call.Add device) (reply.Done at full) = added device ∷ []
act_done does back = []

-- by calls, one after the other
abbrev pub acts_done : List FrontEntry → List Act
acts_done [] = []
acts_done (e ∷ entries) = act_done e.call e.reply ++ acts_done entries

-- ---- what lines do

-- the call by which a line acts; where too much is to be written, none does
abbrev pub line_acting : FrontCall → FrontReply → List FrontCall
line_acting (call.Remove device) back = if was_full back then [] else call.Remove device ∷ []
line_acting (call.Add device) back = if was_full back then [] else call.Add device ∷ []
line_acting does back = []

abbrev pub lines_acting : List FrontEntry → List FrontCall
lines_acting [] = []
lines_acting (e ∷ entries) = line_acting e.call e.reply ++ lines_acting entries

-- It removes a device of the session that isn't gone, or adds one that is. Else it does nothing.
abbrev pub line_does : List ℕ → (ℕ → Bool) → FrontCall → List Act
line_does ids gone (call.Remove device) = if is_among ids device && not (gone device) then removed device ∷ [] else []
line_does ids gone (call.Add device) = if is_among ids device && gone device then added device ∷ [] else []
line_does ids gone other = []

-- which devices are gone after acts
abbrev pub gone_by : (ℕ → Bool) → Act → ℕ → Bool
gone_by gone (removed d) device = d == device || gone device
gone_by gone (added d) device = not (d == device) && gone device
gone_by gone a device = gone device

abbrev pub gone_after : (ℕ → Bool) → List Act → ℕ → Bool
gone_after gone [] = gone
gone_after gone (a ∷ acts) = gone_after (gone_by gone a) acts

-- lines, one after the other
abbrev pub lines_do : List ℕ → (ℕ → Bool) → List FrontCall → List Act
lines_do ids gone [] = []
lines_do ids gone (a ∷ lines) = let here = line_does ids gone a in here ++ lines_do ids (gone_after gone here) lines

-- no device is
abbrev pub none_gone : ℕ → Bool
none_gone device = false

-- Which devices were gone when a channel began is by what was done on those before; and what was done on it is what the lines do that acted there.
abbrev pub RunsDo : List ℕ → (ℕ → ℕ → Bool) → (ℕ → Bool) → List ChannelRun → Type 0
RunsDo ids gone before [] = Unit {0}
RunsDo ids gone before (r ∷ runs) =
    let acts = acts_done (r.reading).calls in (gone (r.reading).channel ≡ before) × (acts ≡ lines_do ids before (lines_acting (r.reading).calls)) × RunsDo ids gone (gone_after before acts) runs
