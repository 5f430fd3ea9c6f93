-- How a half that is written goes on (`HasWritten`).
use Rattle.std.proofs.Common.{◌≡◌, ◌<◌, ℕ, ◌↔◌, length, arith, refl, sym, ap, subst, ◌∙◌, List, [], ◌∷◌, ◌++◌, take, drop, inl, inr, Option, append_assoc, true, false, Bool, Result, Ok, Err}
use Rattle.std.specs.Prelude.{◌||◌, not, if◌then◌else◌, IsTrue, OnOk}
use Rattle.std.specs.List.{AllByRecursion}
use Rattle.std.specs.Result.{is_err}
use Rattle.std.specs.Io.KnownBytes.{Appends}
use Rattle.std.proofs.KnownBytes.{Appends-trans}
use Rattle.std.proofs.Math.Seq.{take-append_seam}
use Rattle.std.proofs.lemmas.Bool.{cases_eq}
use Rattle.std.proofs.lemmas.List.{append-nil, take-append-drop, take_all}
use Rattle.std.proofs.lemmas.Grind.{common_steps}
use Rattle.std.proofs.lemmas.List.Concat.{flat_map-append}
use Rattle.rd_base.specs.Faults.{one_more}
use Rattle.rd_base.specs.Prefixes.{AppendsPrefix}
use Rattle.rd_chunk.specs.Carrier.{IsMessage, carrier_of, carrier_stream}
use Rattle.rd_carry.specs.Outgoing.{HasWritten, OutgoingState}

-- one message more
stream-push : (messages : List (List ℕ)) (message : List ℕ) → carrier_stream (messages ++ message ∷ []) ≡ carrier_stream messages ++ carrier_of message
stream-push messages message = flat_map-append carrier_of messages (message ∷ []) ∙ ap (λ (r : List ℕ). carrier_stream messages ++ r) (append-nil (carrier_of message))

-- one message more that can be carried
fit-push : (messages : List (List ℕ)) (message : List ℕ) → AllByRecursion IsMessage messages → IsMessage message → AllByRecursion IsMessage (messages ++ message ∷ [])
fit-push [] message fit is = (is, tt)
fit-push (m ∷ ms) message fit is = (fit.0, fit-push ms message fit.1 is)

-- where no write failed its frames wait after the others
gathered : (failed : Bool) (faults : ℕ) (rest pending pending' more : List ℕ) → IsTrue failed ↔ (0 < faults) → pending' ≡ (if failed then pending else pending ++ more) → (faults ≡ 0 → rest ≡ pending) → faults ≡ 0
    → rest ++ more ≡ pending'
gathered true faults rest pending pending' more is grown waits none = absurd (omega (arith, is.0 refl, none))
gathered false faults rest pending pending' more is grown waits none = ap (λ (r : List ℕ). r ++ more) (waits none) ∙ sym grown

-- a message was put
pub written_put : (began held : Option (List ℕ)) (failed : Bool) (faults : ℕ) (messages : List (List ℕ)) (pending pending' : List ℕ) (capacity capacity' : ℕ) (message : List ℕ) → IsMessage message
    → IsTrue failed ↔ (0 < faults) → pending' ≡ (if failed then pending else pending ++ carrier_of message)
    → HasWritten began messages (record { held = held; faults = faults; pending = pending; capacity = capacity })
    → HasWritten began (messages ++ message ∷ []) (record { held = held; faults = faults; pending = pending'; capacity = capacity' })
written_put began held failed faults messages pending pending' capacity capacity' message is failed_is grown w = record {
  fit = fit-push messages message w.fit is;
  written = w.written;
  rest = w.rest ++ carrier_of message;
  frames_are = stream-push messages message ∙ ap (λ (r : List ℕ). r ++ carrier_of message) w.frames_are ∙ append_assoc w.written w.rest (carrier_of message);
  wrote = w.wrote;
  waits = gathered failed faults w.rest pending pending' (carrier_of message) failed_is grown w.waits;
}

-- what waits was written, or a prefix of it where a write failed
pub written_flush : (began : Option (List ℕ)) (messages : List (List ℕ)) (old new : OutgoingState) → HasWritten began messages old → new.pending ≡ []
    → AppendsPrefix old.held new.held old.pending → (new.faults ≡ 0 → Appends old.held new.held old.pending) → (new.faults ≡ 0 → old.faults ≡ 0) → (0 < old.faults → old.pending ≡ []) → HasWritten began messages new
written_flush began messages old new w none some all fewer over = elim (cases_eq old.faults 0) [
  | inl sound ↦
      let rest_is : w.rest ≡ old.pending = w.waits sound in elim (cases_eq new.faults 0) [
        | inl still ↦ record {
          fit = w.fit;
          written = w.written ++ old.pending;
          rest = [];
          frames_are = w.frames_are ∙ ap (λ (r : List ℕ). w.written ++ r) rest_is ∙ sym (append-nil (w.written ++ old.pending));
          wrote = Appends-trans began old.held new.held w.written old.pending w.wrote (all still);
          waits = λ _. sym none;
        }
        | inr failed ↦ record {
          fit = w.fit;
          written = w.written ++ take some.0 old.pending;
          rest = drop some.0 old.pending;
          frames_are = w.frames_are ∙ ap (λ (r : List ℕ). w.written ++ r) (rest_is ∙ sym (take-append-drop some.0 old.pending))
              ∙ sym (append_assoc w.written (take some.0 old.pending) (drop some.0 old.pending));
          wrote = Appends-trans began old.held new.held w.written (take some.0 old.pending) w.wrote some.1;
          waits = λ z. absurd (failed z);
        }
      ]
  | inr faulty ↦
      let nothing : take some.0 old.pending ≡ [] = ap (take some.0) (over (omega (arith, faulty))) ∙ grind (arith, common_steps) in record {
        fit = w.fit;
        written = w.written;
        rest = w.rest;
        frames_are = w.frames_are;
        wrote = subst (Appends began new.held) (append-nil w.written) (Appends-trans began old.held new.held w.written [] w.wrote (subst (Appends old.held new.held) nothing some.1));
        waits = λ z. absurd (faulty (fewer z));
      }
]

-- where no fault was counted none was before, and all was written
pub sound_before : (failed failed' : Bool) (faults faults' : ℕ) → IsTrue failed ↔ (0 < faults) → faults' ≡ (if failed || not failed' then faults else one_more faults) → faults' ≡ 0
    → (failed' ≡ false) × (faults ≡ 0)
sound_before false false faults faults' is counted none = (refl, sym counted ∙ none)
sound_before false true faults faults' is counted none = absurd (omega (arith, counted, none))
sound_before true failed' faults faults' is counted none = absurd (omega (arith, is.0 refl, counted, none))

pub all_prefix : (old new : Option (List ℕ)) (bytes : List ℕ) → Appends old new bytes → AppendsPrefix old new bytes
all_prefix old new bytes all = (length bytes, subst (Appends old new) (sym (take_all (length bytes) bytes (omega arith))) all)

pub on_ok : {T E : Type 0} (r : Result T E) (A : Type 0) → is_err r ≡ false → OnOk r A → A
on_ok (Ok y) A isnt a = a
on_ok (Err e) A isnt a = absurd cc

-- what was written is a prefix of all frames
pub prefix_written : (began : Option (List ℕ)) (messages : List (List ℕ)) (s : OutgoingState) → HasWritten began messages s → AppendsPrefix began s.held (carrier_stream messages)
prefix_written began messages s w = (length w.written, subst (Appends began s.held) (sym (ap (take (length w.written)) w.frames_are ∙ take-append_seam w.written w.rest)) w.wrote)

pub all_written : (began : Option (List ℕ)) (messages : List (List ℕ)) (s : OutgoingState) → HasWritten began messages s → s.faults ≡ 0 → s.pending ≡ [] → Appends began s.held (carrier_stream messages)
all_written began messages s w sound none =
    subst (Appends began s.held) (sym (w.frames_are ∙ ap (λ (r : List ℕ). w.written ++ r) (w.waits sound ∙ none) ∙ append-nil w.written)) w.wrote
