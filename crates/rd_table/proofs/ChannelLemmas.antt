-- What a table counts on a channel, and whether that is open, by the history of its calls.
use Rattle.std.proofs.Common.{◌≡◌, ◌∙◌, refl, sym, ap, subst, inl, inr, ℕ, ◌+◌, Bool, List, [], ◌∷◌, ◌++◌, Some, None, Option}
use Rattle.std.specs.Prelude.{is_some}
use Rattle.rd_pending.specs.declared.calls.Stage.{Stage}
use Rattle.rd_pending.specs.History.{Call, Holds, after, begins, completes, drops, lives, removes, sends, submits, takes}
use Rattle.rd_pending.specs.Table.{Fate, TableState, Untaken, freed, new_table, send, untaken_at, with_fate}
use Rattle.rd_pending.proofs.Effects as effects
use Rattle.rd_turn.specs.History.{Leads, entry}
use Rattle.rd_turn.proofs.HistoryLemmas.{Leads-parted}
use Rattle.rd_table.specs.declared.calls.PendingCall.TheVariants as ask
use Rattle.rd_table.specs.declared.calls.PendingReply.TheVariants as reply
use Rattle.rd_table.specs.Calls.{PendingStep}
use Rattle.rd_table.specs.Histories.{table_history, lives_begun, on_channel}
use Rattle.rd_table.proofs.StepLemmas.{E, led_goes}

-- what a look at a table tells
abbrev looked : TableState → ℕ × Bool
looked t = (t.begun, is_some t.channel)

fated_looks : (t : TableState) (number : ℕ) (f : Fate) → looked (with_fate t number f) ≡ looked t
fated_looks t number f = go (untaken_at t number) refl
  where
    go : (o : Option Untaken) → untaken_at t number ≡ o → looked (with_fate t number f) ≡ looked t
    go None e = rw e refl
    go (Some u) e = rw e refl

sent_looks : (t : TableState) → looked (send t).0 ≡ looked t
sent_looks t = go t.outbox refl
  where
    go : (o : List (List ℕ)) → t.outbox ≡ o → looked (send t).0 ≡ looked t
    go [] e = rw e refl
    go (message ∷ messages) e = rw e refl

pub looks_so : (h : List Call) → Holds h → looked (after h) ≡ (lives_begun h, on_channel h)
looks_so [] holds = refl
looks_so (begins c ∷ h) holds = rw holds.0.0 refl
looks_so (lives d ∷ h) holds = ap looked (effects.lives (after h) d holds.0).new ∙ ap (λ (x : ℕ × Bool). (x.0 + 1, x.1)) (looks_so h holds.1)
looks_so (removes d ∷ h) holds = elim (effects.removes (after h) d) [
  | inl absent ↦ ap looked absent.same ∙ looks_so h holds.1
  | inr removed ↦ ap looked removed.new ∙ looks_so h holds.1
]
looks_so (takes n ∷ h) holds = ap looked (effects.takes (after h) n holds.0).new ∙ looks_so h holds.1
looks_so (submits x named o ∷ h) holds = ap looked (effects.submits (after h) x named o holds.0.1).new ∙ looks_so h holds.1
looks_so (completes head bytes ∷ h) holds =
    let effect = effects.completes (after h) head bytes holds.0.2 in
    elim effect.effect [
      | inl late ↦ ap looked late.new ∙ looks_so h holds.1
      | inr given ↦ ap looked given.new ∙ (fated_looks (freed (after h) head.completion) effect.slot.number _ ∙ looks_so h holds.1)
    ]
looks_so (sends ∷ h) holds = sent_looks (after h) ∙ looks_so h holds.1
looks_so (drops ∷ h) holds = ap (λ (x : ℕ × Bool). (x.0, is_some {T = ℕ} None)) (looks_so h holds.1)

pub stage_told : (entries before later : List E) (t : TableState) (by : ℕ) (stage : Stage) → Leads PendingStep new_table entries t
    → entries ≡ before ++ entry by ask.Stage (reply.Stands stage) ∷ later → (stage.lives ≡ lives_begun (table_history before)) × (stage.channel ≡ on_channel (table_history before))
stage_told entries before later t by stage leads place =
    let parted = Leads-parted PendingStep new_table before (entry by ask.Stage (reply.Stands stage) ∷ later) t (subst (λ (es : List E). Leads PendingStep new_table es t) place leads) in
    let there = led_goes before parted.0 parted.1 in
    let step = parted.2.1.0 in
    let so : looked parted.0 ≡ (lives_begun (table_history before), on_channel (table_history before)) = ap looked (sym there.is) ∙ looks_so (table_history before) there.holds in
    (ap (λ (s : Stage). s.lives) (sym step.0) ∙ ap (λ (x : ℕ × Bool). x.0) so, ap (λ (s : Stage). s.channel) (sym step.0) ∙ ap (λ (x : ℕ × Bool). x.1) so)
