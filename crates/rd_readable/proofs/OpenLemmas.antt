-- Channels begin one after another under new numbers, and what is written is written on the open one.
use Rattle.std.proofs.Common.{◌≡◌, refl, sym, ◌∙◌, ℕ, ◌<◌, ◌≤◌, List, [], ◌∷◌, Some, None, arith, ne_eqb}
use Rattle.std.specs.Prelude.{IfSome}
use Rattle.rd_printed.specs.Printed.{IsOnOpen}
use Rattle.rd_runs.proofs.BelowLemmas.{below_is, channel_is, channels_below}
use Rattle.rd_deeds.proofs.Calls.{Does}
use Rattle.rd_world.specs.Recording.{client_channel}
use Rattle.rd_deeds.specs.Talk.{Deed, EachAfter, client_writes, client_wrote, completes, host_begins, host_ends, host_writes, host_wrote, open_channel}

-- a channel begins above all that began, while none is open; what is written is on the open one
abbrev IsOpened : List Deed → Deed → Type 0
IsOpened before (host_begins c) = (open_channel before ≡ None) × (channels_below before ≤ c)
IsOpened before (host_ends c) = open_channel before ≡ Some c
IsOpened before (host_writes c m) = open_channel before ≡ Some c
IsOpened before (client_writes c m) = open_channel before ≡ Some c
IsOpened before (completes key m) = open_channel before ≡ Some key.channel
IsOpened before _ = Unit {0}

all_opened : (client : ℕ) (deeds : List Deed) → Does client deeds → EachAfter (λ before deed. IfSome (client_channel deed) (λ c. open_channel before ≡ Some c)) deeds → EachAfter IsOpened deeds
all_opened client [] may on_open = tt
all_opened client (host_begins c ∷ before) may on_open =
    let low = may.0.1 in
    ((sym (channel_is client before may.1) ∙ may.0.0, omega (arith, low, below_is client before may.1)), all_opened client before may.1 on_open.1)
all_opened client (host_ends c ∷ before) may on_open = (sym (channel_is client before may.1) ∙ may.0, all_opened client before may.1 on_open.1)
all_opened client (host_writes c m ∷ before) may on_open = (sym (channel_is client before may.1) ∙ may.0.0, all_opened client before may.1 on_open.1)
all_opened client (client_writes c m ∷ before) may on_open = (on_open.0, all_opened client before may.1 on_open.1)
all_opened client (completes key m ∷ before) may on_open = (on_open.0, all_opened client before may.1 on_open.1)
all_opened client (deed ∷ before) may on_open = (tt, all_opened client before may.1 on_open.1)

-- the open channel began
open_below : (deeds : List Deed) (c : ℕ) → open_channel deeds ≡ Some c → c < channels_below deeds
open_below [] c is = absurd (cc is)
open_below (host_begins k ∷ before) c is = let same : k ≡ c = cc is in omega (arith, same)
open_below (host_ends k ∷ before) c is = absurd (cc is)
open_below (deed ∷ before) c is = open_below before c is

-- on a channel that didn't begin nothing is written
host_silent : (deeds : List Deed) (c : ℕ) → EachAfter IsOpened deeds → channels_below deeds ≤ c → host_wrote c deeds ≡ []
host_silent [] c opened high = refl
host_silent (host_begins k ∷ before) c opened high = let low = opened.0.1 in host_silent before c opened.1 (omega (arith, low, high))
host_silent (host_writes k m ∷ before) c opened high =
    rw (ne_eqb k c (λ same. omega (arith, same, high, open_below before k opened.0))) (host_silent before c opened.1 high)
host_silent (deed ∷ before) c opened high = host_silent before c opened.1 high

client_silent : (deeds : List Deed) (c : ℕ) → EachAfter IsOpened deeds → channels_below deeds ≤ c → client_wrote c deeds ≡ []
client_silent [] c opened high = refl
client_silent (host_begins k ∷ before) c opened high = let low = opened.0.1 in client_silent before c opened.1 (omega (arith, low, high))
client_silent (client_writes k m ∷ before) c opened high =
    rw (ne_eqb k c (λ same. omega (arith, same, high, open_below before k opened.0))) (client_silent before c opened.1 high)
client_silent (completes key m ∷ before) c opened high =
    rw (ne_eqb key.channel c (λ same. omega (arith, same, high, open_below before key.channel opened.0))) (client_silent before c opened.1 high)
client_silent (deed ∷ before) c opened high = client_silent before c opened.1 high

each_on_open : (deeds : List Deed) → EachAfter IsOpened deeds → EachAfter IsOnOpen deeds
each_on_open [] opened = tt
each_on_open (host_begins c ∷ before) opened =
    ((opened.0.0, host_silent before c opened.1 opened.0.1, client_silent before c opened.1 opened.0.1), each_on_open before opened.1)
each_on_open (host_ends c ∷ before) opened = (opened.0, each_on_open before opened.1)
each_on_open (host_writes c m ∷ before) opened = (opened.0, each_on_open before opened.1)
each_on_open (client_writes c m ∷ before) opened = (opened.0, each_on_open before opened.1)
each_on_open (completes key m ∷ before) opened = (opened.0, each_on_open before opened.1)
each_on_open (deed ∷ before) opened = (tt, each_on_open before opened.1)

pub all_on_open : (client : ℕ) (deeds : List Deed) → Does client deeds → EachAfter (λ before deed. IfSome (client_channel deed) (λ c. open_channel before ≡ Some c)) deeds → EachAfter IsOnOpen deeds
all_on_open client deeds may on_open = each_on_open deeds (all_opened client deeds may on_open)
