-- The number that each channel which began is below, by what a host did.
use Rattle.std.proofs.Common.{◌≡◌, ◌∙◌, refl, sym, ap, inl, inr, ℕ, ◌+◌, ◌==◌, Bool, true, false, List, [], ◌∷◌, ◌++◌, Some, None, Option, Result, Ok, Err}
use Rattle.rd_base.specs.declared.bad.Bad.{Bad}
use Rattle.rd_base.specs.Layout.{met}
use Rattle.rd_base.specs.Position.{Position, at_start}
use Rattle.rd_host.specs.Core.{host_hear}
use Rattle.rd_irp.specs.declared.completion.Body.{Body}
use Rattle.rd_irp.specs.declared.completion.Head.{Head}
use Rattle.rd_irp.specs.declared.op.Op.{Op}
use Rattle.rd_irp.specs.Completion.{completion_body}
use Rattle.rd_pending.specs.declared.calls.LiveNo.{LiveNo}
use Rattle.rd_pending.specs.declared.calls.SubmitNo.{SubmitNo}
use Rattle.rd_pending.specs.declared.calls.Target.{Target}
use Rattle.rd_pending.specs.History as call
use Rattle.rd_pending.specs.History.{Call, after, called}
use Rattle.rd_pending.specs.Table as table
use Rattle.rd_pending.specs.Table.{Fate, Slot, TableState, Untaken, awaited, freed, known, live_refusal, slot_for, submit_refusal, untaken_at, with_fate}
use Rattle.rd_pending.proofs.Effects as effects
use Rattle.rd_pending.proofs.Neutral.{AreNeutral, IsNeutral, channel_all}
use Rattle.rd_deeds.specs.HostDeeds.{calls_by, calls_of, sending, side_of}
use Rattle.rd_deeds.specs.Talk.{Deed, host_begins, host_ends, host_reads, host_writes, open_channel, submits, takes}
use Rattle.rd_deeds.proofs.Calls.{Does, neutral_reading, table_of}

-- ---- calls that neither begin nor end a channel leave it

fate_below : (t : TableState) (n : ℕ) (f : Fate) → (with_fate t n f).below ≡ t.below
fate_below t n f = by (untaken_at t n) refl
  where
    by : (o : Option Untaken) → untaken_at t n ≡ o → (with_fate t n f).below ≡ t.below
    by None e = rw e refl
    by (Some u) e = rw e refl

live_below : (t : TableState) (device : ℕ) → ((table.live t device).0).below ≡ t.below
live_below t device = by (live_refusal t device) refl
  where
    by : (o : Option LiveNo) → live_refusal t device ≡ o → ((table.live t device).0).below ≡ t.below
    by None e = rw e refl
    by (Some cause) e = rw e refl

submit_below : (t : TableState) (a : ℕ) (named : Target) (o : Op) → ((table.submit t a named o).0).below ≡ t.below
submit_below t a named o = by (submit_refusal t named) refl
  where
    by : (r : Option SubmitNo) → submit_refusal t named ≡ r → ((table.submit t a named o).0).below ≡ t.below
    by None e = rw e refl
    by (Some cause) e = rw e refl

take_below : (t : TableState) (n : ℕ) → ((table.take t n).0).below ≡ t.below
take_below t n = by (untaken_at t n) refl
  where
    fate : (u : Untaken) → untaken_at t n ≡ Some u → (f : Fate) → u.fate ≡ f → ((table.take t n).0).below ≡ t.below
    fate u e awaited e2 = rw (e, e2) refl
    fate u e (known o) e2 = rw (e, e2) refl

    by : (o : Option Untaken) → untaken_at t n ≡ o → ((table.take t n).0).below ≡ t.below
    by None e = rw e refl
    by (Some u) e = fate u e u.fate refl

complete_below : (t : TableState) (head : Head) (bytes : List ℕ) → ((table.complete t head bytes).0).below ≡ t.below
complete_below t head bytes = by (slot_for t head.completion) refl
  where
    read : (slot : Slot) → slot_for t head.completion ≡ Some slot → (slot.device == head.device) ≡ true → slot.dead ≡ false → (r : Result (Body × Position) Bad)
        → met (completion_body slot.kind head.status) (at_start bytes) ≡ r → ((table.complete t head bytes).0).below ≡ t.below
    read slot e same alive (Err bad) e2 = rw (e, same, alive, e2) refl
    read slot e same alive (Ok gave) e2 = rw (e, same, alive, e2) (fate_below (freed t head.completion) slot.number _)

    marked : (slot : Slot) → slot_for t head.completion ≡ Some slot → (slot.device == head.device) ≡ true → (b : Bool) → slot.dead ≡ b → ((table.complete t head bytes).0).below ≡ t.below
    marked slot e same true dead = rw (e, same, dead) refl
    marked slot e same false alive = read slot e same alive (met (completion_body slot.kind head.status) (at_start bytes)) refl

    held : (slot : Slot) → slot_for t head.completion ≡ Some slot → (b : Bool) → (slot.device == head.device) ≡ b → ((table.complete t head bytes).0).below ≡ t.below
    held slot e false other = rw (e, other) refl
    held slot e true same = marked slot e same slot.dead refl

    by : (o : Option Slot) → slot_for t head.completion ≡ o → ((table.complete t head bytes).0).below ≡ t.below
    by None e = rw e refl
    by (Some slot) e = held slot e (slot.device == head.device) refl

send_below : (t : TableState) → ((table.send t).0).below ≡ t.below
send_below t = by t.outbox refl
  where
    by : (o : List (List ℕ)) → t.outbox ≡ o → ((table.send t).0).below ≡ t.below
    by [] e = rw e refl
    by (m ∷ ms) e = rw e refl

call_below : (x : Call) → IsNeutral x → (t : TableState) → (called t x).below ≡ t.below
call_below (call.begins c) is t = absurd is
call_below (call.lives device) is t = live_below t device
call_below (call.removes device) is t = elim (effects.removes t device) [
  | inl none ↦ ap (λ (x : TableState). x.below) none.same
  | inr effect ↦ ap (λ (x : TableState). x.below) effect.new
]
call_below (call.takes n) is t = take_below t n
call_below (call.submits a named o) is t = submit_below t a named o
call_below (call.completes head bytes) is t = complete_below t head bytes
call_below call.sends is t = send_below t
call_below call.drops is t = absurd is

calls_below : (xs h : List Call) → AreNeutral xs → (after (xs ++ h)).below ≡ (after h).below
calls_below [] h all = refl
calls_below (x ∷ xs) h all = call_below x all.0 (after (xs ++ h)) ∙ calls_below xs h all.1

-- ---- by deeds

neutral_sending : (o : List (List ℕ)) → AreNeutral (sending o)
neutral_sending [] = (tt, tt)
neutral_sending (m ∷ ms) = tt

-- the number that each channel that began is below
abbrev pub channels_below : List Deed → ℕ
channels_below [] = 0
channels_below (host_begins c ∷ before) = c + 1
channels_below (deed ∷ before) = channels_below before

neutral_deed : (client : ℕ) (deed : Deed) (before : List Deed) → AreNeutral (calls_by (side_of client before) deed)
    → ((side_of client (deed ∷ before)).table).below ≡ ((side_of client before).table).below
neutral_deed client deed before are =
    ap (λ (t : TableState). t.below) (sym (table_of client (deed ∷ before)))
    ∙ calls_below (calls_by (side_of client before) deed) (calls_of client before) are
    ∙ ap (λ (t : TableState). t.below) (table_of client before)

begun_below : (t : TableState) (c : ℕ) → t.channel ≡ None → ((table.begin t c).0).below ≡ c + 1
begun_below t c shut = rw shut refl

pub below_is : (client : ℕ) (deeds : List Deed) → Does client deeds → ((side_of client deeds).table).below ≡ channels_below deeds
below_is client [] does = refl
below_is client (host_begins c ∷ before) does = begun_below (side_of client before).table c does.0.0
below_is client (submits a named o ∷ before) does = neutral_deed client (submits a named o) before (tt, tt) ∙ below_is client before does.1
below_is client (takes n ∷ before) does = neutral_deed client (takes n) before (tt, tt) ∙ below_is client before does.1
below_is client (host_writes c m ∷ before) does = neutral_deed client (host_writes c m) before (neutral_sending (((side_of client before).core).core).outbox) ∙ below_is client before does.1
below_is client (host_reads c m ∷ before) does =
    neutral_deed client (host_reads c m) before (neutral_reading (side_of client before).table (host_hear (side_of client before).core m).1) ∙ below_is client before does.1
below_is client (deed ∷ before) does = below_is client before does.1

-- ---- the open channel is the table's

begun_channel : (t : TableState) (c : ℕ) → t.channel ≡ None → ((table.begin t c).0).channel ≡ Some c
begun_channel t c shut = rw shut refl

neutral_channel : (client : ℕ) (deed : Deed) (before : List Deed) → AreNeutral (calls_by (side_of client before) deed)
    → ((side_of client (deed ∷ before)).table).channel ≡ ((side_of client before).table).channel
neutral_channel client deed before are =
    ap (λ (t : TableState). t.channel) (sym (table_of client (deed ∷ before)))
    ∙ channel_all (calls_by (side_of client before) deed) (calls_of client before) are
    ∙ ap (λ (t : TableState). t.channel) (table_of client before)

pub channel_is : (client : ℕ) (deeds : List Deed) → Does client deeds → ((side_of client deeds).table).channel ≡ open_channel deeds
channel_is client [] does = refl
channel_is client (host_begins c ∷ before) does = begun_channel (side_of client before).table c does.0.0
channel_is client (host_ends c ∷ before) does = refl
channel_is client (submits a named o ∷ before) does = neutral_channel client (submits a named o) before (tt, tt) ∙ channel_is client before does.1
channel_is client (takes n ∷ before) does = neutral_channel client (takes n) before (tt, tt) ∙ channel_is client before does.1
channel_is client (host_writes c m ∷ before) does =
    neutral_channel client (host_writes c m) before (neutral_sending (((side_of client before).core).core).outbox) ∙ channel_is client before does.1
channel_is client (host_reads c m ∷ before) does =
    neutral_channel client (host_reads c m) before (neutral_reading (side_of client before).table (host_hear (side_of client before).core m).1) ∙ channel_is client before does.1
channel_is client (deed ∷ before) does = channel_is client before does.1
