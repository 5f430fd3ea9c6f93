-- How the command `load` ends, from how it came out.
use Rattle.std.proofs.Common.{◌≡◌, ◌∙◌, ℕ, List, refl, sym, subst, inl, inr, arith}
use Rattle.std.specs.Prelude.{◌⊎◌, Result, Ok, Err, IsErrAnd}
use Rattle.rd_base.specs.History.{History}
use Rattle.rd_script.specs.declared.outcome.Outcomes.{Outcomes}
use Rattle.rd_script.specs.declared.script.Script.{Script}
use Rattle.rd_script.specs.Load.{load_script}
use Rattle.rd_cli.specs.declared.stop.Stop.{Stop}
use Rattle.rd_cli.specs.declared.stop.Stop.TheVariants as stop
use Rattle.rd_cli.specs.Headline.{Played}
use Rattle.rd_cli.specs.Outside.{Stream}
use Rattle.rd_cli.specs.Loading.{ComesOutOfLoad, FailedToSummarize, IsEndOfLoad, LoadedToEnd, StoppedLoading}
use Rattle.rd_cli.specs.Playing.{IsUnplayed, StarvedPlaying, StopsForRecording}
use Rattle.rd_cli.proofs.PlayingLemmas.{played_starved}
use Rattle.rd_cli.specs.Summary.{summary_of}
use Rattle.rd_cli.specs.Stops.{Prints, StopsWith}

-- how the command came out that stopped with this one error
pub stopped_with : {T K R : Type 0} (number : ℕ) (output output_after : Stream K) (recording recording_after : Stream R) (books : List (ℕ × History)) (r : Result T Stop) (s : Stop)
    → IsErrAnd r (λ e. e ≡ s) → StoppedLoading number output output_after recording recording_after books s → ComesOutOfLoad number output output_after recording recording_after books r
stopped_with number output output_after recording recording_after books (Ok x) s is stopped = absurd is
stopped_with number output output_after recording recording_after books (Err e) s is stopped =
    subst (λ (e : Stop). StoppedLoading number output output_after recording recording_after books e) (sym is) stopped

-- a stop of the playing of a load, whose output is as it was
stopped_script : {K R : Type 0} (number : ℕ) (output : Stream K) (recording recording_after : Stream R) (books : List (ℕ × History)) (s : Stop)
    → StopsForRecording (load_script number) recording recording_after books s → StoppedLoading number output output recording recording_after books s
stopped_script number output recording recording_after books stop.Recording (failed, none) = (failed, refl, none)
stopped_script number output recording recording_after books stop.Memory starved = (refl, starved)
stopped_script number output recording recording_after books stop.Words other = absurd other
stopped_script number output recording recording_after books (stop.Line line cause) other = absurd other
stopped_script number output recording recording_after books stop.Input other = absurd other
stopped_script number output recording recording_after books stop.Output other = absurd other
stopped_script number output recording recording_after books (stop.Fault fault) other = absurd other
stopped_script number output recording recording_after books (stop.Channel channel at message why) other = absurd other
stopped_script number output recording recording_after books stop.Link other = absurd other
stopped_script number output recording recording_after books stop.Long other = absurd other
stopped_script number output recording recording_after books stop.Folder other = absurd other
stopped_script number output recording recording_after books (stop.No found) other = absurd other

pub stopped_loading : {K R : Type 0} (number : ℕ) (script : Script) (output : Stream K) (recording recording_after : Stream R) (books : List (ℕ × History)) (s : Stop)
    → script ≡ load_script number → StopsForRecording script recording recording_after books s → StoppedLoading number output output recording recording_after books s
stopped_loading number script output recording recording_after books s is stopped =
    stopped_script number output recording recording_after books s (subst (λ (x : Script). StopsForRecording x recording recording_after books s) is stopped)

-- how the command came out whose load was played, by what came of the printing of its summary
pub printed : {T K R : Type 0} (number : ℕ) (output output_after : Stream K) (recording recording_after : Stream R) (books : List (ℕ × History)) (script : Script) (told : Outcomes) (r : Result T Stop)
    → script ≡ load_script number → Played script recording recording_after books told → Prints (summary_of number told.lines.entries) output output_after r
    → ComesOutOfLoad number output output_after recording recording_after books r
printed {T} number output output_after recording recording_after books script told r is played prints =
    by r (subst (λ (x : Script). Played x recording recording_after books told) is played) prints
  where
    by : (r : Result T Stop) → Played (load_script number) recording recording_after books told → Prints (summary_of number told.lines.entries) output output_after r
        → ComesOutOfLoad number output output_after recording recording_after books r
    by (Ok done) own prints = record { told = told; played = own; summarized = prints }
    by (Err stop.Output) own prints = record { told = told; played = own; failed = prints }
    by (Err stop.Memory) own prints = (prints, inr (inr (played_starved (load_script number) recording recording_after books told own)))
    by (Err stop.Words) own prints = absurd prints
    by (Err (stop.Line line cause)) own prints = absurd prints
    by (Err stop.Input) own prints = absurd prints
    by (Err stop.Recording) own prints = absurd prints
    by (Err (stop.Fault fault)) own prints = absurd prints
    by (Err (stop.Channel channel at message why)) own prints = absurd prints
    by (Err stop.Link) own prints = absurd prints
    by (Err stop.Long) own prints = absurd prints
    by (Err stop.Folder) own prints = absurd prints
    by (Err (stop.No found)) own prints = absurd prints

-- ---- the end, by the status
-- A load that came to its end ends with 0.
pub loaded_end : {K R : Type 0} (number : ℕ) (output output_after : Stream K) (recording recording_after : Stream R) (books : List (ℕ × History))
    → LoadedToEnd number output output_after recording recording_after books → IsEndOfLoad number output output_after recording recording_after books 0
loaded_end number output output_after recording recording_after books loaded = record {
  known = inl refl;
  played = λ zero. loaded;
  unwritten = λ three. absurd (omega (arith, three));
  starved = λ six. absurd (omega (arith, six));
}

-- Want of memory ends with 6.
pub starved_end : {K R : Type 0} (number : ℕ) (output output_after : Stream K) (recording recording_after : Stream R) (books : List (ℕ × History)) (status : ℕ) → status ≡ 6
    → output_after ≡ output → IsUnplayed recording recording_after books ⊎ StarvedPlaying (load_script number) recording recording_after books → IsEndOfLoad number output output_after recording recording_after books status
starved_end number output output_after recording recording_after books status is silent starved = record {
  known = inr (inr is);
  played = λ zero. absurd (omega (arith, zero, is));
  unwritten = λ three. absurd (omega (arith, three, is));
  starved = λ six. (silent, starved);
}

-- a failed write ends with 3
unwritten_end : {K R : Type 0} (number : ℕ) (output output_after : Stream K) (recording recording_after : Stream R) (books : List (ℕ × History)) (status : ℕ) → status ≡ 3
    → StoppedLoading number output output_after recording recording_after books stop.Recording ⊎ StoppedLoading number output output_after recording recording_after books stop.Output
    → IsEndOfLoad number output output_after recording recording_after books status
unwritten_end number output output_after recording recording_after books status is stopped = record {
  known = inr (inl is);
  played = λ zero. absurd (omega (arith, zero, is));
  unwritten = λ three. stopped;
  starved = λ six. absurd (omega (arith, six, is));
}

-- How the command ends, from how it stopped and what was said of it.
pub stopped_end : {K R : Type 0} (number : ℕ) (output middle output_after : Stream K) (recording recording_after : Stream R) (books : List (ℕ × History)) (s : Stop) (status : ℕ)
    → StoppedLoading number output middle recording recording_after books s → StopsWith s middle output_after status → IsEndOfLoad number output output_after recording recording_after books status
stopped_end number output middle output_after recording recording_after books stop.Recording status stopped said =
    unwritten_end number output output_after recording recording_after books status said.0 (inl (stopped.0, said.1 ∙ stopped.1, stopped.2))
stopped_end number output middle output_after recording recording_after books stop.Output status stopped said =
    unwritten_end number output output_after recording recording_after books status said.0 (inr (subst (λ (o : Stream _). FailedToSummarize number output o recording recording_after books) (sym said.1) stopped))
stopped_end number output middle output_after recording recording_after books stop.Memory status stopped said =
    starved_end number output output_after recording recording_after books status said.0 (said.1 ∙ stopped.0) stopped.1
stopped_end number output middle output_after recording recording_after books stop.Words status stopped said = absurd stopped
stopped_end number output middle output_after recording recording_after books (stop.Line line cause) status stopped said = absurd stopped
stopped_end number output middle output_after recording recording_after books stop.Input status stopped said = absurd stopped
stopped_end number output middle output_after recording recording_after books (stop.Fault fault) status stopped said = absurd stopped
stopped_end number output middle output_after recording recording_after books (stop.Channel channel at message why) status stopped said = absurd stopped
stopped_end number output middle output_after recording recording_after books stop.Link status stopped said = absurd stopped
stopped_end number output middle output_after recording recording_after books stop.Long status stopped said = absurd stopped
stopped_end number output middle output_after recording recording_after books stop.Folder status stopped said = absurd stopped
stopped_end number output middle output_after recording recording_after books (stop.No found) status stopped said = absurd stopped
