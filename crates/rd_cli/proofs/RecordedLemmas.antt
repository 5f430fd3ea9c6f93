-- What `decode` makes of the recording of a session that came to its end.
use Rattle.std.proofs.Common.{◌≡◌, ℕ, List, [], Option, Some, None, ap, sym, subst, ◌∙◌, ◌++◌, inl, inr}
use Rattle.std.specs.Io.KnownBytes.{Appends}
use Rattle.rd_base.specs.History.{History}
use Rattle.rd_cli.specs.Decoding.{Gives, HasRecording, IsEndOfDecode, PrintsJust}
use Rattle.rd_cli.specs.Headline.{Played}
use Rattle.rd_cli.specs.Outside.{Stream, Wrote}
use Rattle.rd_cli.proofs.DecodingLemmas.{all_read}
use Rattle.rd_decode.specs.Recording.{decoded}
use Rattle.rd_readable.specs.PrintedPrinted.{lines_by}
use Rattle.rd_readable.proofs.SessionLemmas.{recording_good, recording_lines}
use Rattle.rd_script.specs.declared.outcome.Outcomes.{Outcomes}
use Rattle.rd_script.specs.declared.script.Script.{Script}

-- what was empty has what was appended
appended : (old new : Option (List ℕ)) (bytes : List ℕ) → old ≡ Some [] → Appends old new bytes → new ≡ Some bytes
appended None new bytes empty more = absurd (cc empty)
appended (Some xs) None bytes empty more = absurd more
appended (Some xs) (Some ys) bytes empty more = let none : xs ≡ [] = cc empty in ap (λ (b : List ℕ). Some b) (more ∙ ap (λ (b : List ℕ). b ++ bytes) none)

pub recording_printed : {R S K : Type 0} (script : Script) (before after : Stream R) (books : List (ℕ × History)) (told : Outcomes) (p : Played script before after books told) (input input_after : Stream S) (output output_after : Stream K)
    (status : ℕ) → HasRecording before after input → IsEndOfDecode input input_after output output_after status → PrintsJust (lines_by p.whole.deeds) output output_after status
recording_printed script before after books told p input input_after output output_after status has is =
    let held = appended before.bytes after.bytes p.recording has.empty p.recorded.written in
    let gives : Gives input.bytes p.recording = (has.same ∙ held, has.short p.recording held) in
    elim (is.completes p.recording gives (recording_good script p.recording books told _ p.whole)) [
      | inl zero ↦
          let all = is.printed zero in
          let same : p.recording ≡ all.recording = all_read input.bytes input_after.bytes p.recording all.recording gives.0 all.read.read.taken all.read.ended in
          let lines : (decoded all.recording).text ≡ lines_by p.whole.deeds = ap (λ b. (decoded b).text) (sym same) ∙ recording_lines script p.recording books told _ p.whole in
          inl (zero, subst (λ (t : List ℕ). Wrote output output_after t) lines all.printed)
      | inr other ↦ inr other
    ]
