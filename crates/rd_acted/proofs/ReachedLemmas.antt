-- What waits to be told on the channel that is open, in every world that lines come to.
use Rattle.std.proofs.Common.{◌≡◌, ◌∙◌, refl, sym, ap, subst, inl, inr, ℕ, Bool, true, false, List, [], ◌∷◌, ◌++◌, length, Some}
use Rattle.rd_base.specs.declared.journal.Key.{Key}
use Rattle.rd_rest.proofs.ControlsUnseen.{client_ready}
use Rattle.rd_printer.specs.Notice.{notice_bytes}
use Rattle.rd_rest.proofs.RunsParts.{IsBehind}
use Rattle.rd_rest.proofs.RunsStanding.{Stands}
use Rattle.rd_rest.proofs.RunsTogether.{knows}
use Rattle.rd_rest.specs.RunsPremises.{RunPremises}
use Rattle.rd_script.specs.declared.line.NumberedLine.{NumberedLine}
use Rattle.rd_world.specs.Acts.{Tells, notices_on, tellings_on}
use Rattle.rd_world.specs.Control.{lists}
use Rattle.rd_declared.specs.Devices.{Declared}
use Rattle.rd_declared.specs.Declaring.{bare_lines, declared_devices}
use Rattle.rd_deeds.specs.Talk.{open_channel}
use Rattle.rd_world.specs.World.{WorldState}
use Rattle.rd_acted.proofs.PrinterLemmas.{behind_notices}
use Rattle.rd_acted.proofs.TellLemmas.{behind_tells, ids_in}
use Rattle.rd_acted.specs.Acted.{AreReadWell, SayFirst, due_on, notices_due, there_of}
use Rattle.rd_acted.specs.Waiting.{notices_waiting, tellings_waiting}

-- the channel that is open is the last that began
pub opened_last : (w : WorldState) (c : ℕ) → Stands w → open_channel w.deeds ≡ Some c → c ≡ w.channels
opened_last w c stands opened = elim stands.host.last [ inl shut ↦ absurd (cc (opened, shut)) | inr is ↦ (let same : Some c ≡ Some w.channels = sym opened ∙ is in cc) ]

nothing_first : {A : Type 0} (xs ys : List A) → xs ++ ys ≡ [] → xs ≡ []
nothing_first [] ys e = refl
nothing_first (x ∷ xs) ys e = absurd (cc e)

module _ (lines : List NumberedLine) (starves : Key → Bool) (premises : RunPremises lines) (w : WorldState) (b : IsBehind lines starves w) where
  abbrev devices : List (ℕ × Declared)
  devices = declared_devices (bare_lines lines)

  stands : Stands w
  stands = (knows lines starves premises w b).stands

  module _ (well : AreReadWell w.deeds) (c : ℕ) (opened : open_channel w.deeds ≡ Some c) where
    pub waiting_told_at : client_ready w ≡ true
        → SayFirst (Tells devices w.deeds c) (tellings_on c w.deeds ++ tellings_waiting ((w.client).core).outbox) (due_on (ids_in devices) c w.deeds) × (length (tellings_on c w.deeds ++ tellings_waiting ((w.client).core).outbox) ≡ length (due_on (ids_in devices) c w.deeds))
    waiting_told_at ready =
        let t = behind_tells lines starves premises w b well in
        let last : c ≡ w.channels = opened_last w c stands opened in
        subst (λ (n : ℕ). SayFirst (Tells devices w.deeds n) (tellings_on n w.deeds ++ tellings_waiting ((w.client).core).outbox) (due_on (ids_in devices) n w.deeds) × (length (tellings_on n w.deeds ++ tellings_waiting ((w.client).core).outbox) ≡ length (due_on (ids_in devices) n w.deeds))) (sym last)
        (t.now, t.all (opened ∙ ap (λ (n : ℕ). Some n) last) ready)

    pub unready_told : client_ready w ≡ false → (tellings_on c w.deeds ≡ []) × (due_on (ids_in devices) c w.deeds ≡ lists (there_of (ids_in devices) w.deeds) ∷ [])
    unready_told unready =
        let t = behind_tells lines starves premises w b well in
        let last : c ≡ w.channels = opened_last w c stands opened in
        let (none, due) = t.first (opened ∙ ap (λ (n : ℕ). Some n) last) unready in
        subst (λ (n : ℕ). (tellings_on n w.deeds ≡ []) × (due_on (ids_in devices) n w.deeds ≡ lists (there_of (ids_in devices) w.deeds) ∷ [])) (sym last) (nothing_first (tellings_on w.channels w.deeds) _ none, due)

  pub waiting_noted_at : (c : ℕ) → open_channel w.deeds ≡ Some c
      → SayFirst (λ n message. message ≡ notice_bytes n) (notices_on c w.deeds ++ notices_waiting (((w.side).core).core).outbox) (notices_due c w.deeds) × (length (notices_on c w.deeds ++ notices_waiting (((w.side).core).core).outbox) ≡ length (notices_due c w.deeds))
  waiting_noted_at c opened =
      let n = behind_notices lines starves premises w b in
      let last : c ≡ w.channels = opened_last w c stands opened in
      subst (λ (k : ℕ). SayFirst (λ m message. message ≡ notice_bytes m) (notices_on k w.deeds ++ notices_waiting (((w.side).core).core).outbox) (notices_due k w.deeds) × (length (notices_on k w.deeds ++ notices_waiting (((w.side).core).core).outbox) ≡ length (notices_due k w.deeds))) (sym last)
      (n.now, n.all (opened ∙ ap (λ (k : ℕ). Some k) last))
