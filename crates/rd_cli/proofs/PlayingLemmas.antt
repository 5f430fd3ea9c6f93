-- How a command ends that plays a script, from how it came out.
use Rattle.std.proofs.Common.{◌≡◌, ℕ, List, [], ◌++◌, take, drop, Some, refl, sym, ap, ap₂, subst, ◌∙◌, append-nil, inl, inr, arith}
use Rattle.std.proofs.lemmas.List.{take-append-drop}
use Rattle.std.specs.Io.KnownBytes.{Appends}
use Rattle.std.specs.Prelude.{◌⊎◌, Result, Ok, Err, IfErr, IsErrAnd}
use Rattle.rd_audit_file.specs.File.{audit_file}
use Rattle.rd_audit_file.specs.Journals.{entries_of, journal_text}
use Rattle.rd_base.specs.History.{History}
use Rattle.rd_base.specs.Prefixes.{AppendsPrefix}
use Rattle.rd_script.specs.declared.outcome.Outcomes.{Outcomes}
use Rattle.rd_script.specs.declared.script.Script.{Script}
use Rattle.rd_script.specs.declared.keyword.Mode.TheVariants as mode
use Rattle.rd_script.specs.Script.{BadLine}
use Rattle.rd_ended.proofs.CutRuns.{cut_off}
use Rattle.rd_headline.proofs.SessionLemmas.{runs_are_whole}
use Rattle.rd_headline.specs.LoadsAllPremises.{MeetPremises}
use Rattle.rd_world.specs.Recording.{recording_of_deeds}
use Rattle.rd_world.specs.Run.{WorldRun}
use Rattle.rd_world.specs.Session.{IsRun, journals_of}
use Rattle.rd_deeds.specs.Talk.{Deed}
use Rattle.rd_world.specs.Wire.{CountsWire, IsCutRun}
use Rattle.rd_world.specs.World.{WorldState}
use Rattle.rd_world.specs.declared.event.StepNo.{StepNo}
use Rattle.rd_world.specs.declared.event.StepNo.TheVariants as no
use Rattle.rd_cli.proofs.ReadingLemmas.{script_not_bad, whole_not_bad}
use Rattle.rd_cli.specs.declared.stop.Stop.{Stop}
use Rattle.rd_cli.specs.declared.stop.Stop.TheVariants as stop
use Rattle.rd_cli.specs.Outside.{HasOneFault, IsFaultless, Outside, Stream, Wrote}
use Rattle.rd_cli.specs.Headline.{Played, PlayedAs, PlayedToEnd, Printout, audit_printed}
use Rattle.rd_cli.specs.Reading.{ReadsBadLine, ReadsScript, ReadsText, StopsForScript}
use Rattle.rd_cli.specs.Stops.{Prints, StopsWith, early_stop}
use Rattle.rd_cli.specs.Playing.{ComesOut, IsEndOfPlaying, FailedToPrintSession, FailedToRecord, RefusesScript, Starved, StarvedAfterSession, StarvedPlaying, StoppedEarly, StoppedPlaying, StopsForRecording}

-- what holds of the one error that a result may be
pub err_is : {T E : Type 0} (r : Result T E) (e : E) (P : E → Type 0) → IsErrAnd r (λ s. s ≡ e) → P e → IfErr r P
err_is (Ok x) e P is p = absurd is
err_is (Err s) e P is p = subst P (sym is) p

-- how the command came out that stopped with this one error
pub stopped_with : {T S K R : Type 0} (p : Printout) (before after : Outside S K R) (books : List (ℕ × History)) (r : Result T Stop) (s : Stop) → IsErrAnd r (λ e. e ≡ s) → StoppedPlaying p before after books s → ComesOut p before after books r
stopped_with p before after books (Ok x) s is stopped = absurd is
stopped_with p before after books (Err e) s is stopped = subst (λ (e : Stop). StoppedPlaying p before after books e) (sym is) stopped

-- want of memory before a script was played
pub starved_unplayed : {S K R : Type 0} (before after : Outside S K R) (books : List (ℕ × History)) → IsFaultless before.input after.input → after.output ≡ before.output → after.recording ≡ before.recording → books ≡ [] → Starved before after books
starved_unplayed before after books input silent unrecorded unstored = record {
  faultless = record { input = input; output = ap (λ (o : Stream _). o.faults) silent; recording = ap (λ (o : Stream _). o.faults) unrecorded };
  unprinted = silent;
  recording = inl (unrecorded, unstored);
}

-- a stop of the reading of a script, where nothing else was touched
pub stopped_reading : {S K R : Type 0} (p : Printout) (before after : Outside S K R) (books : List (ℕ × History)) (s : Stop) → StopsForScript mode.Both before.input after.input s → after.output ≡ before.output → after.recording ≡ before.recording → books ≡ []
    → StoppedPlaying p before after books s
stopped_reading p before after books (stop.Line line cause) reads silent unrecorded unstored = (reads, silent, unrecorded, unstored)
stopped_reading p before after books stop.Input failed silent unrecorded unstored = (failed, silent, unrecorded, unstored)
stopped_reading p before after books stop.Memory faultless silent unrecorded unstored = starved_unplayed before after books faultless silent unrecorded unstored
stopped_reading p before after books stop.Words other silent unrecorded unstored = absurd other
stopped_reading p before after books stop.Output other silent unrecorded unstored = absurd other
stopped_reading p before after books stop.Recording other silent unrecorded unstored = absurd other
stopped_reading p before after books (stop.Fault fault) other silent unrecorded unstored = absurd other
stopped_reading p before after books (stop.Channel channel at message why) other silent unrecorded unstored = absurd other
stopped_reading p before after books stop.Link other silent unrecorded unstored = absurd other
stopped_reading p before after books stop.Long other silent unrecorded unstored = absurd other
stopped_reading p before after books stop.Folder other silent unrecorded unstored = absurd other
stopped_reading p before after books (stop.No found) other silent unrecorded unstored = absurd other

-- a session that stopped early
pub stopped_early : {R : Type 0} (script : Script) (before after : Stream R) (books : List (ℕ × History)) (cause : StepNo) → MeetPremises script.lines
    → (x : WorldState) × IsCutRun before.bytes after.bytes script.lines x → CountsWire {T = Unit {0}} (Err cause) before.faults after.faults → books ≡ []
    → StopsForRecording script before after books (early_stop cause)
stopped_early {R} script before after books cause premises (x, cut) counted unstored = by cause counted
  where
    stopped : StoppedEarly script before after
    stopped = let (written, appended, off) = cut_off script.lines premises.run premises.writable before.bytes after.bytes x cut in record { written = written; appended = appended; cut_off = off }

    by : (cause : StepNo) → CountsWire {T = Unit {0}} (Err cause) before.faults after.faults → StopsForRecording script before after books (early_stop cause)
    by no.Wire counted = (record { stopped = stopped; fault = counted }, unstored)
    by no.Memory counted = inr (inl (record { stopped = stopped; faultless = counted; unstored = unstored }))
    by (no.Disabled event) counted = absurd counted

-- want of memory in the midst of a session or after it counted no fault
starved_faultless : {R : Type 0} (before after : Stream R) (books : List (ℕ × History)) (script : Script) → StarvedPlaying script before after books → IsFaultless before after
starved_faultless before after books script (inl cut) = cut.faultless
starved_faultless before after books script (inr ended) = ended.recorded.faultless

-- want of memory while a script was played that was read, or after that
starved_playing : {S K R : Type 0} (before after : Outside S K R) (books : List (ℕ × History)) (script : Script) → ReadsScript mode.Both before.input after.input script → after.output ≡ before.output
    → StarvedPlaying script before.recording after.recording books → Starved before after books
starved_playing before after books script reads silent starved = record {
  faultless = record {
    input = reads.read.read.faultless;
    output = ap (λ (o : Stream _). o.faults) silent;
    recording = starved_faultless before.recording after.recording books script starved;
  };
  unprinted = silent;
  recording = inr (script, reads, starved);
}

-- a whole session that was recorded came of a run
pub played : {R : Type 0} (script : Script) (before after : Stream R) (books : List (ℕ × History)) (told : Outcomes) (deeds : List Deed) → MeetPremises script.lines → IsRun script books told deeds
    → Wrote before after (recording_of_deeds deeds) → Played script before after books told
played script before after books told deeds premises run recorded = record {
  recording = recording_of_deeds deeds;
  whole = runs_are_whole script books told deeds premises run;
  recorded = recorded;
}

-- the same, whose recording was kept
pub played_as : {R : Type 0} (bytes : List ℕ) (script : Script) (before after : Stream R) (books : List (ℕ × History)) (told : Outcomes) (deeds : List Deed) → MeetPremises script.lines → IsRun script books told deeds → recording_of_deeds deeds ≡ bytes
    → Wrote before after bytes → PlayedAs bytes script before after books told
unfolding played
played_as bytes script before after books told deeds premises run same recorded = (played script before after books told deeds premises run (subst (λ (b : List ℕ). Wrote before after b) (sym same) recorded), same)

-- what was written to an empty sink is what it holds
pub kept_bytes : (old held bytes : List ℕ) → old ≡ [] → Appends (Some old) (Some held) bytes → bytes ≡ held
kept_bytes old held bytes empty appended = sym (appended ∙ ap (λ (b : List ℕ). b ++ bytes) empty)

-- The writing of a whole recording failed: what was written is a beginning of it.
pub whole_unrecorded : {R : Type 0} (script : Script) (before after : Stream R) (world : WorldState) (bytes : List ℕ) → WorldRun script.lines world → recording_of_deeds world.deeds ≡ bytes → AppendsPrefix before.bytes after.bytes bytes
    → HasOneFault before after → FailedToRecord script before after
whole_unrecorded script before after world bytes run same (n, appended) fault = record {
  stopped = record {
    written = take n bytes;
    appended = appended;
    cut_off = record { world = world; run = run; rest = drop n bytes; recorded = same ∙ sym (take-append-drop n bytes) };
  };
  fault = fault;
}

-- Memory ran out after the session of a script that was played.
pub played_starved : {R : Type 0} (script : Script) (before after : Stream R) (books : List (ℕ × History)) (told : Outcomes) → Played script before after books told → StarvedAfterSession script before after books
played_starved script before after books told p =
    let run = (p.whole).run in
    record {
      world = run.world;
      run = run.run;
      recorded = subst (λ (bytes : List ℕ). Wrote before after bytes) ((p.whole).wire.bytes ∙ ap recording_of_deeds (sym same)) p.recorded;
      stored = ([], sym run.stored ∙ sym (append-nil (journals_of books)));
    }
  where
    same : ((p.whole).run).world.deeds ≡ (p.whole).deeds
    same = ((p.whole).run).did

-- a stop of the playing of a script that was read
pub stopped_playing : {S K R : Type 0} (p : Printout) (before after : Outside S K R) (books : List (ℕ × History)) (script : Script) (s : Stop) → ReadsScript mode.Both before.input after.input script → after.output ≡ before.output
    → StopsForRecording script before.recording after.recording books s → StoppedPlaying p before after books s
stopped_playing p before after books script stop.Recording reads silent (failed, none) = (script, reads, failed, silent, none)
stopped_playing p before after books script stop.Memory reads silent (inl unplayed) = starved_unplayed before after books reads.read.read.faultless silent unplayed.0 unplayed.1
stopped_playing p before after books script stop.Memory reads silent (inr starved) = starved_playing before after books script reads silent starved
stopped_playing p before after books script stop.Words reads silent other = absurd other
stopped_playing p before after books script (stop.Line line cause) reads silent other = absurd other
stopped_playing p before after books script stop.Input reads silent other = absurd other
stopped_playing p before after books script stop.Output reads silent other = absurd other
stopped_playing p before after books script (stop.Fault fault) reads silent other = absurd other
stopped_playing p before after books script (stop.Channel channel at message why) reads silent other = absurd other
stopped_playing p before after books script stop.Link reads silent other = absurd other
stopped_playing p before after books script stop.Long reads silent other = absurd other
stopped_playing p before after books script stop.Folder reads silent other = absurd other
stopped_playing p before after books script (stop.No found) reads silent other = absurd other

-- how the command came out whose script was played, by what came of the printing
pub printed : {T S K R : Type 0} (p : Printout) (before after : Outside S K R) (books : List (ℕ × History)) (script : Script) (told : Outcomes) (r : Result T Stop) (reads : ReadsScript mode.Both before.input after.input script)
    (own : Played script before.recording after.recording books told) → Prints (p reads.text script told books own.recording) before.output after.output r → ComesOut p before after books r
printed p before after books script told (Ok done) reads own prints =
    record { text = reads.text; script = script; told = told; read = reads.read; script_is = reads.script_is; played = own; wrote = prints }
printed p before after books script told (Err stop.Output) reads own prints = (script, reads, record { told = told; played = own; failed = prints })
printed p before after books script told (Err stop.Memory) reads own prints =
    starved_playing before after books script reads prints (inr (played_starved script before.recording after.recording books told own))
printed p before after books script told (Err stop.Words) reads own prints = absurd prints
printed p before after books script told (Err (stop.Line line cause)) reads own prints = absurd prints
printed p before after books script told (Err stop.Input) reads own prints = absurd prints
printed p before after books script told (Err stop.Recording) reads own prints = absurd prints
printed p before after books script told (Err (stop.Fault fault)) reads own prints = absurd prints
printed p before after books script told (Err (stop.Channel channel at message why)) reads own prints = absurd prints
printed p before after books script told (Err stop.Link) reads own prints = absurd prints
printed p before after books script told (Err stop.Long) reads own prints = absurd prints
printed p before after books script told (Err stop.Folder) reads own prints = absurd prints
printed p before after books script told (Err (stop.No found)) reads own prints = absurd prints

-- The same of an audit file, for which the text and the recording are lent.
pub audit_written : {T S K R : Type 0} (before after : Outside S K R) (books : List (ℕ × History)) (text kept lent_text lent_recording : List ℕ) (script : Script) (told : Outcomes) (r : Result T Stop) → ReadsText mode.Both before.input after.input text script
    → PlayedAs kept script before.recording after.recording books told → lent_text ≡ text → lent_recording ≡ kept → Prints (audit_file lent_text (journal_text (entries_of books)) lent_recording) before.output after.output r
    → ComesOut audit_printed before after books r
audit_written before after books text kept lent_text lent_recording script told r reads (own, is_kept) same_text same_recording prints =
    let file_is = ap₂ (λ (t b : List ℕ). audit_file t (journal_text (entries_of books)) b) same_text (same_recording ∙ sym is_kept) in
    printed audit_printed before after books script told r (record { text = text; read = reads.read; script_is = reads.script_is }) own (subst (λ (file : List ℕ). Prints file before.output after.output r) file_is prints)

-- ---- the end, by the status
-- A session that came to its end ends with 0.
pub played_end : {S K R : Type 0} (p : Printout) (before after : Outside S K R) (books : List (ℕ × History)) → PlayedToEnd p before after books → IsEndOfPlaying p before after books 0
played_end p before after books played = record {
  known = inl refl;
  played = λ zero. played;
  refused = λ one. absurd (omega (arith, one));
  unread = λ two. absurd (omega (arith, two));
  unwritten = λ three. absurd (omega (arith, three));
  starved = λ six. absurd (omega (arith, six));
  refuses = λ bad gives. absurd (whole_not_bad mode.Both before.input after.input played.text played.script bad played.read played.script_is gives);
  completes = λ script. inl refl;
}

-- Want of memory ends with 6.
pub starved_end : {S K R : Type 0} (p : Printout) (before after : Outside S K R) (books : List (ℕ × History)) (status : ℕ) → status ≡ 6 → Starved before after books → IsEndOfPlaying p before after books status
starved_end p before after books status is starved = record {
  known = inr (inr (inr (inr is)));
  played = λ zero. absurd (omega (arith, zero, is));
  refused = λ one. absurd (omega (arith, one, is));
  unread = λ two. absurd (omega (arith, two, is));
  unwritten = λ three. absurd (omega (arith, three, is));
  starved = λ six. starved;
  refuses = λ bad gives. inr (inr is);
  completes = λ script. inr (inr (inr is));
}

-- A refusal ends with 1, when its last line is said.
refused_end : {S K R : Type 0} (p : Printout) (before after : Outside S K R) (books : List (ℕ × History)) (status : ℕ) → status ≡ 1 → RefusesScript before after books → IsEndOfPlaying p before after books status
refused_end p before after books status is refused = record {
  known = inr (inl is);
  played = λ zero. absurd (omega (arith, zero, is));
  refused = λ one. refused;
  unread = λ two. absurd (omega (arith, two, is));
  unwritten = λ three. absurd (omega (arith, three, is));
  starved = λ six. absurd (omega (arith, six, is));
  refuses = λ bad gives. inl is;
  completes = λ script. absurd (script_not_bad mode.Both before.input after.input refused.reads.0 refused.bad refused.reads.1 refused.reads.2 script);
}

-- a failed read ends with 2
unread_end : {S K R : Type 0} (p : Printout) (before after : Outside S K R) (books : List (ℕ × History)) (status : ℕ) → status ≡ 2 → StoppedPlaying p before after books stop.Input → IsEndOfPlaying p before after books status
unread_end p before after books status is stopped = record {
  known = inr (inr (inl is));
  played = λ zero. absurd (omega (arith, zero, is));
  refused = λ one. absurd (omega (arith, one, is));
  unread = λ two. stopped;
  unwritten = λ three. absurd (omega (arith, three, is));
  starved = λ six. absurd (omega (arith, six, is));
  refuses = λ bad gives. inr (inl is);
  completes = λ script. inr (inl is);
}

-- a failed write ends with 3
unwritten_end : {S K R : Type 0} (p : Printout) (before after : Outside S K R) (books : List (ℕ × History)) (status : ℕ) (script : Script) → status ≡ 3 → ReadsScript mode.Both before.input after.input script
    → StoppedPlaying p before after books stop.Recording ⊎ StoppedPlaying p before after books stop.Output → IsEndOfPlaying p before after books status
unwritten_end p before after books status script is reads stopped = record {
  known = inr (inr (inr (inl is)));
  played = λ zero. absurd (omega (arith, zero, is));
  refused = λ one. absurd (omega (arith, one, is));
  unread = λ two. absurd (omega (arith, two, is));
  unwritten = λ three. stopped;
  starved = λ six. absurd (omega (arith, six, is));
  refuses = λ bad gives. absurd (whole_not_bad mode.Both before.input after.input reads.text script bad reads.read reads.script_is gives);
  completes = λ gives. inr (inr (inl is));
}

-- the outside with another output
abbrev pub with_output : {S K R : Type 0} → Outside S K R → Stream K → Outside S K R
with_output o output = record { input = o.input; output = output; recording = o.recording }

-- want of memory, where the output is still the same
still_starved : {S K R : Type 0} (before middle : Outside S K R) (output : Stream K) (books : List (ℕ × History)) → Starved before middle books → output ≡ middle.output → Starved before (with_output middle output) books
still_starved before middle output books starved same = record {
  faultless = record {
    input = starved.faultless.input;
    output = ap (λ (o : Stream _). o.faults) same ∙ starved.faultless.output;
    recording = starved.faultless.recording;
  };
  unprinted = same ∙ starved.unprinted;
  recording = starved.recording;
}

-- A refused line, which is said, or can't be put together.
line_end : {S K R : Type 0} (p : Printout) (before middle : Outside S K R) (output : Stream K) (books : List (ℕ × History)) (bad : BadLine) (status : ℕ) → ReadsBadLine mode.Both before.input middle.input bad → middle.output ≡ before.output → middle.recording ≡ before.recording → books ≡ []
    → StopsWith (stop.Line bad.line bad.why) middle.output output status → IsEndOfPlaying p before (with_output middle output) books status
line_end p before middle output books bad status reads silent unrecorded unstored (inl said) =
    let says = subst (λ (o : Stream _). StopsWith (stop.Line bad.line bad.why) o output 1) silent (inl (refl, said.1)) in
    refused_end p before (with_output middle output) books status said.0 (record { bad = bad; reads = reads; says = says; unrecorded = unrecorded; unstored = unstored })
line_end p before middle output books bad status reads silent unrecorded unstored (inr starved) =
    starved_end p before (with_output middle output) books status starved.0 (starved_unplayed before (with_output middle output) books reads.1.read.faultless (starved.1 ∙ silent) unrecorded unstored)

-- How the command ends, from how it stopped and what was said of it.
pub stopped_end : {S K R : Type 0} (p : Printout) (before middle : Outside S K R) (output : Stream K) (books : List (ℕ × History)) (s : Stop) (status : ℕ)
    → StoppedPlaying p before middle books s → StopsWith s middle.output output status → IsEndOfPlaying p before (with_output middle output) books status
stopped_end p before middle output books (stop.Line line cause) status stopped said = line_end p before middle output books (record { line = line; why = cause }) status stopped.0 stopped.1 stopped.2 stopped.3 said
stopped_end p before middle output books stop.Input status stopped said = unread_end p before (with_output middle output) books status said.0 (stopped.0, said.1 ∙ stopped.1, stopped.2, stopped.3)
stopped_end p before middle output books stop.Recording status stopped said =
    unwritten_end p before (with_output middle output) books status stopped.0 said.0 stopped.1 (inl (stopped.0, stopped.1, stopped.2, said.1 ∙ stopped.3, stopped.4))
stopped_end p before middle output books stop.Output status stopped said =
    let failed = subst (λ (o : Stream _). FailedToPrintSession p (stopped.1).text stopped.0 before (with_output middle o) books) (sym said.1) stopped.2 in
    unwritten_end p before (with_output middle output) books status stopped.0 said.0 stopped.1 (inr (stopped.0, stopped.1, failed))
stopped_end p before middle output books stop.Memory status stopped said = starved_end p before (with_output middle output) books status said.0 (still_starved before middle output books stopped said.1)
stopped_end p before middle output books stop.Words status stopped said = absurd stopped
stopped_end p before middle output books (stop.Fault fault) status stopped said = absurd stopped
stopped_end p before middle output books (stop.Channel channel at message why) status stopped said = absurd stopped
stopped_end p before middle output books stop.Link status stopped said = absurd stopped
stopped_end p before middle output books stop.Long status stopped said = absurd stopped
stopped_end p before middle output books stop.Folder status stopped said = absurd stopped
stopped_end p before middle output books (stop.No found) status stopped said = absurd stopped
