-- Calls that neither begin nor end a channel.
use Rattle.std.proofs.Common.{◌≡◌, ◌∙◌, refl, sym, ap, inl, inr, ℕ, ◌==◌, Bool, true, false, cond, List, [], ◌∷◌, ◌++◌, Some, None, Option, append_assoc, append-nil}
use Rattle.std.specs.Prelude.{Result, Ok, Err}
use Rattle.std.specs.Option.{option_map_or}
use Rattle.rd_base.specs.declared.bad.Bad.{Bad}
use Rattle.rd_base.specs.Layout.{met}
use Rattle.rd_base.specs.Position.{Position, at_start}
use Rattle.rd_irp.specs.declared.completion.Body.{Body}
use Rattle.rd_irp.specs.declared.completion.Head.{Head}
use Rattle.rd_irp.specs.declared.op.Op.{Op}
use Rattle.rd_irp.specs.Completion.{completion_body}
use Rattle.rd_pending.specs.declared.calls.LiveNo.{LiveNo}
use Rattle.rd_pending.specs.declared.calls.SubmitNo.{SubmitNo}
use Rattle.rd_pending.specs.declared.calls.Target.{Target}
use Rattle.rd_pending.specs.History as call
use Rattle.rd_pending.specs.History.{Call, Holds, after, called, ended_on, heard_by, heard_on, is_open_on, lives_before}
use Rattle.rd_pending.specs.Outcomes.{Tidings}
use Rattle.rd_pending.specs.Table as table
use Rattle.rd_pending.specs.Table.{Fate, Slot, TableState, Untaken, awaited, freed, known, live_refusal, slot_for, submit_refusal, untaken_at, with_fate}
use Rattle.rd_pending.proofs.Effects as effects

abbrev pub IsNeutral : Call → Type 0
IsNeutral (call.begins c) = ⊥
IsNeutral call.drops = ⊥
IsNeutral _ = Unit {0}

abbrev pub AreNeutral : List Call → Type 0
AreNeutral [] = Unit {0}
AreNeutral (x ∷ xs) = IsNeutral x × AreNeutral xs

pub neutral_more : (xs ys : List Call) → AreNeutral xs → AreNeutral ys → AreNeutral (xs ++ ys)
neutral_more [] ys all others = others
neutral_more (x ∷ xs) ys all others = (all.0, neutral_more xs ys all.1 others)

-- ---- the channel stays

fate_channel : (t : TableState) (n : ℕ) (f : Fate) → (with_fate t n f).channel ≡ t.channel
fate_channel t n f = go (untaken_at t n) refl
  where
    go : (o : Option Untaken) → untaken_at t n ≡ o → (with_fate t n f).channel ≡ t.channel
    go None e = rw e refl
    go (Some u) e = rw e refl

live_channel : (t : TableState) (d : ℕ) → ((table.live t d).0).channel ≡ t.channel
live_channel t d = go (live_refusal t d) refl
  where
    go : (o : Option LiveNo) → live_refusal t d ≡ o → ((table.live t d).0).channel ≡ t.channel
    go None e = rw e refl
    go (Some cause) e = rw e refl

submit_channel : (t : TableState) (x : ℕ) (named : Target) (o : Op) → ((table.submit t x named o).0).channel ≡ t.channel
submit_channel t x named o = go (submit_refusal t named) refl
  where
    go : (r : Option SubmitNo) → submit_refusal t named ≡ r → ((table.submit t x named o).0).channel ≡ t.channel
    go None e = rw e refl
    go (Some cause) e = rw e refl

take_channel : (t : TableState) (n : ℕ) → ((table.take t n).0).channel ≡ t.channel
take_channel t n = go (untaken_at t n) refl
  where
    by_fate : (u : Untaken) → untaken_at t n ≡ Some u → (f : Fate) → u.fate ≡ f → ((table.take t n).0).channel ≡ t.channel
    by_fate u e awaited e2 = rw (e, e2) refl
    by_fate u e (known o) e2 = rw (e, e2) refl

    go : (o : Option Untaken) → untaken_at t n ≡ o → ((table.take t n).0).channel ≡ t.channel
    go None e = rw e refl
    go (Some u) e = by_fate u e u.fate refl

complete_channel : (t : TableState) (head : Head) (bytes : List ℕ) → ((table.complete t head bytes).0).channel ≡ t.channel
complete_channel t head bytes = go (slot_for t head.completion) refl
  where
    reads : (slot : Slot) → slot_for t head.completion ≡ Some slot → (slot.device == head.device) ≡ true → slot.dead ≡ false → (r : Result (Body × Position) Bad)
        → met (completion_body slot.kind head.status) (at_start bytes) ≡ r → ((table.complete t head bytes).0).channel ≡ t.channel
    reads slot e same alive (Err bad) e2 = rw (e, same, alive, e2) refl
    reads slot e same alive (Ok read) e2 = rw (e, same, alive, e2) (fate_channel (freed t head.completion) slot.number _)

    by_mark : (slot : Slot) → slot_for t head.completion ≡ Some slot → (slot.device == head.device) ≡ true → (b : Bool) → slot.dead ≡ b → ((table.complete t head bytes).0).channel ≡ t.channel
    by_mark slot e same true dead = rw (e, same, dead) refl
    by_mark slot e same false alive = reads slot e same alive (met (completion_body slot.kind head.status) (at_start bytes)) refl

    by_device : (slot : Slot) → slot_for t head.completion ≡ Some slot → (b : Bool) → (slot.device == head.device) ≡ b → ((table.complete t head bytes).0).channel ≡ t.channel
    by_device slot e false other = rw (e, other) refl
    by_device slot e true same = by_mark slot e same slot.dead refl

    go : (o : Option Slot) → slot_for t head.completion ≡ o → ((table.complete t head bytes).0).channel ≡ t.channel
    go None e = rw e refl
    go (Some slot) e = by_device slot e (slot.device == head.device) refl

send_channel : (t : TableState) → ((table.send t).0).channel ≡ t.channel
send_channel t = go t.outbox refl
  where
    go : (o : List (List ℕ)) → t.outbox ≡ o → ((table.send t).0).channel ≡ t.channel
    go [] e = rw e refl
    go (m ∷ ms) e = rw e refl

pub channel_kept : (x : Call) → IsNeutral x → (t : TableState) → (called t x).channel ≡ t.channel
channel_kept (call.begins c) is t = absurd is
channel_kept (call.lives d) is t = live_channel t d
channel_kept (call.removes d) is t = elim (effects.removes t d) [
  | inl none ↦ ap (λ (x : TableState). x.channel) none.same
  | inr effect ↦ ap (λ (x : TableState). x.channel) effect.new
]
channel_kept (call.takes n) is t = take_channel t n
channel_kept (call.submits x named o) is t = submit_channel t x named o
channel_kept (call.completes head bytes) is t = complete_channel t head bytes
channel_kept call.sends is t = send_channel t
channel_kept call.drops is t = absurd is

pub channel_all : (xs h : List Call) → AreNeutral xs → (after (xs ++ h)).channel ≡ (after h).channel
channel_all [] h all = refl
channel_all (x ∷ xs) h all = channel_kept x all.0 (after (xs ++ h)) ∙ channel_all xs h all.1

-- ---- what is heard

-- the oldest first
abbrev pub heard_all : List Call → List Tidings
heard_all [] = []
heard_all (x ∷ xs) = heard_all xs ++ heard_by x

pub heard_all_more : (xs ys : List Call) → heard_all (xs ++ ys) ≡ heard_all ys ++ heard_all xs
heard_all_more [] ys = sym (append-nil (heard_all ys))
heard_all_more (x ∷ xs) ys = ap (λ (zs : List Tidings). zs ++ heard_by x) (heard_all_more xs ys) ∙ append_assoc (heard_all ys) (heard_all xs) (heard_by x)

pub heard_more : (c : ℕ) (xs h : List Call) → AreNeutral xs → heard_on c (xs ++ h) ≡ heard_on c h ++ cond (is_open_on (after h) c) (heard_all xs) []
heard_more c [] h all = go (is_open_on (after h) c)
  where
    go : (b : Bool) → heard_on c h ≡ heard_on c h ++ cond b [] []
    go true = sym (append-nil (heard_on c h))
    go false = sym (append-nil (heard_on c h))
heard_more c (x ∷ xs) h all =
    ap (λ (t : Option ℕ). heard_on c (xs ++ h) ++ cond (option_map_or (λ (channel : ℕ). channel == c) t false) (heard_by x) []) (channel_all xs h all.1)
    ∙ ap (λ (zs : List Tidings). zs ++ cond (is_open_on (after h) c) (heard_by x) []) (heard_more c xs h all.1)
    ∙ go (is_open_on (after h) c)
  where
    go : (b : Bool) → (heard_on c h ++ cond b (heard_all xs) []) ++ cond b (heard_by x) [] ≡ heard_on c h ++ cond b (heard_all xs ++ heard_by x) []
    go true = append_assoc (heard_on c h) (heard_all xs) (heard_by x)
    go false = append-nil (heard_on c h ++ [])

pub lives_all : (c : ℕ) (xs h : List Call) → AreNeutral xs → lives_before c (xs ++ h) ≡ lives_before c h
lives_all c [] h all = refl
lives_all c (call.begins d ∷ xs) h all = absurd all.0
lives_all c (call.lives d ∷ xs) h all = lives_all c xs h all.1
lives_all c (call.removes d ∷ xs) h all = lives_all c xs h all.1
lives_all c (call.takes d ∷ xs) h all = lives_all c xs h all.1
lives_all c (call.submits x named o ∷ xs) h all = lives_all c xs h all.1
lives_all c (call.completes head bytes ∷ xs) h all = lives_all c xs h all.1
lives_all c (call.sends ∷ xs) h all = lives_all c xs h all.1
lives_all c (call.drops ∷ xs) h all = absurd all.0

pub ended_all : (c : ℕ) (xs h : List Call) → AreNeutral xs → ended_on c (xs ++ h) ≡ ended_on c h
ended_all c [] h all = refl
ended_all c (call.begins d ∷ xs) h all = absurd all.0
ended_all c (call.lives d ∷ xs) h all = ended_all c xs h all.1
ended_all c (call.removes d ∷ xs) h all = ended_all c xs h all.1
ended_all c (call.takes d ∷ xs) h all = ended_all c xs h all.1
ended_all c (call.submits x named o ∷ xs) h all = ended_all c xs h all.1
ended_all c (call.completes head bytes ∷ xs) h all = ended_all c xs h all.1
ended_all c (call.sends ∷ xs) h all = ended_all c xs h all.1
ended_all c (call.drops ∷ xs) h all = absurd all.0
