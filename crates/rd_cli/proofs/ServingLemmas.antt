-- How a command ends that serves a script, from how its session did, or from why there was none.
use Rattle.std.proofs.Common.{◌≡◌, ℕ, List, [], ◌++◌, refl, subst, append-nil, inl, inr, arith}
use Rattle.std.specs.Prelude.{◌⊎◌, Vec, Result, Ok, Err, IfOk, IsErr}
use Rattle.rd_carry.specs.declared.ended.Ended.{Ended}
use Rattle.rd_carry.specs.declared.ended.Ended.TheVariants as ended
use Rattle.rd_script.specs.declared.keyword.Mode.{Mode}
use Rattle.rd_script.specs.declared.script.Script.{Script}
use Rattle.rd_script.specs.Script.{BadLine}
use Rattle.rd_cli.specs.Outside.{FailedToWrite, Stream, Wrote}
use Rattle.rd_cli.specs.Reading.{GivesBadLine, StopsForScript}
use Rattle.rd_cli.specs.Serving.{EndsServed, FailedToReadServing, FailedToTell, IsEndOfServing, RefusesServing, SaysChannel, ServedAndPrinted, ServedAndSaid, ServedScript, StarvedServing, UnopenedServing}
use Rattle.rd_cli.specs.Stops.{StopsWith, long_line}
use Rattle.rd_cli.specs.declared.stop.Stop.{Stop}
use Rattle.rd_cli.specs.declared.stop.Stop.TheVariants as stop
use Rattle.rd_cli.proofs.ReadingLemmas.{script_not_bad, whole_not_bad}

-- ---- the end, by the status
module _ {S K : Type 0} (m : Mode) (Session : Script → Ended → List ℕ → Type 0) (Untouched : Type 0) (Unopened : Script → Type 0) (input input_after : Stream S) (output output_after : Stream K) (status : ℕ) where
  abbrev End : Type 0
  End = IsEndOfServing m Session Untouched Unopened input input_after output output_after status

  abbrev Serves : Ended → Type 0
  Serves e = ServedScript m Session input input_after e

  -- want of memory ends with 6
  pub starved_end : status ≡ 6 → StarvedServing m Session Untouched input input_after output output_after → End
  starved_end is starved = record {
    known = omega (arith, is);
    served = λ zero. absurd (omega (arith, zero, is));
    refused = λ one. absurd (omega (arith, one, is));
    unread = λ two. absurd (omega (arith, two, is));
    unwritten = λ three. absurd (omega (arith, three, is));
    faulty = λ four. absurd (omega (arith, four, is));
    unlinked = λ five. absurd (omega (arith, five, is));
    starved = λ six. starved;
    long = λ seven. absurd (omega (arith, seven, is));
    unopened = λ eight. absurd (omega (arith, eight, is));
    refuses = λ bad gives. inr (inr is);
    takes = λ script one. absurd (omega (arith, one, is));
  }

  -- a refusal with 1, when its last line is said
  refused_end : status ≡ 1 → RefusesServing m Untouched input input_after output output_after → End
  refused_end is refused = record {
    known = omega (arith, is);
    served = λ zero. absurd (omega (arith, zero, is));
    refused = λ one. refused;
    unread = λ two. absurd (omega (arith, two, is));
    unwritten = λ three. absurd (omega (arith, three, is));
    faulty = λ four. absurd (omega (arith, four, is));
    unlinked = λ five. absurd (omega (arith, five, is));
    starved = λ six. absurd (omega (arith, six, is));
    long = λ seven. absurd (omega (arith, seven, is));
    unopened = λ eight. absurd (omega (arith, eight, is));
    refuses = λ bad gives. inl is;
    takes = λ script one. script_not_bad m input input_after refused.reads.0 refused.bad refused.reads.1 refused.reads.2 script;
  }

  -- a failed read with 2
  unread_end : status ≡ 2 → FailedToReadServing Untouched input input_after output output_after → End
  unread_end is failed = record {
    known = omega (arith, is);
    served = λ zero. absurd (omega (arith, zero, is));
    refused = λ one. absurd (omega (arith, one, is));
    unread = λ two. failed;
    unwritten = λ three. absurd (omega (arith, three, is));
    faulty = λ four. absurd (omega (arith, four, is));
    unlinked = λ five. absurd (omega (arith, five, is));
    starved = λ six. absurd (omega (arith, six, is));
    long = λ seven. absurd (omega (arith, seven, is));
    unopened = λ eight. absurd (omega (arith, eight, is));
    refuses = λ bad gives. inr (inl is);
    takes = λ script one. absurd (omega (arith, one, is));
  }

  -- a script that was read has no bad line
  never_bad : {A : Type 0} (e : Ended) → Serves e → (bad : BadLine) → GivesBadLine m input.bytes bad → A
  never_bad e session bad gives = absurd (whole_not_bad m input input_after session.reads.text session.script bad session.reads.read session.reads.script_is gives)

  over_end : status ≡ 0 → ServedAndPrinted m Session input input_after output output_after ended.Over → End
  over_end is served = record {
    known = omega (arith, is);
    served = λ zero. served;
    refused = λ one. absurd (omega (arith, one, is));
    unread = λ two. absurd (omega (arith, two, is));
    unwritten = λ three. absurd (omega (arith, three, is));
    faulty = λ four. absurd (omega (arith, four, is));
    unlinked = λ five. absurd (omega (arith, five, is));
    starved = λ six. absurd (omega (arith, six, is));
    long = λ seven. absurd (omega (arith, seven, is));
    unopened = λ eight. absurd (omega (arith, eight, is));
    refuses = never_bad ended.Over served.session;
    takes = λ script one. absurd (omega (arith, one, is));
  }

  unwritten_end : (e : Ended) → Serves e → status ≡ 3 → FailedToTell m Session input input_after output output_after ended.Over ⊎ FailedToTell m Session input input_after output output_after ended.Link → End
  unwritten_end e session is failed = record {
    known = omega (arith, is);
    served = λ zero. absurd (omega (arith, zero, is));
    refused = λ one. absurd (omega (arith, one, is));
    unread = λ two. absurd (omega (arith, two, is));
    unwritten = λ three. failed;
    faulty = λ four. absurd (omega (arith, four, is));
    unlinked = λ five. absurd (omega (arith, five, is));
    starved = λ six. absurd (omega (arith, six, is));
    long = λ seven. absurd (omega (arith, seven, is));
    unopened = λ eight. absurd (omega (arith, eight, is));
    refuses = never_bad e session;
    takes = λ script one. absurd (omega (arith, one, is));
  }

  faulty_end : status ≡ 4 → SaysChannel m Session input input_after output output_after → End
  faulty_end is says = record {
    known = omega (arith, is);
    served = λ zero. absurd (omega (arith, zero, is));
    refused = λ one. absurd (omega (arith, one, is));
    unread = λ two. absurd (omega (arith, two, is));
    unwritten = λ three. absurd (omega (arith, three, is));
    faulty = λ four. says;
    unlinked = λ five. absurd (omega (arith, five, is));
    starved = λ six. absurd (omega (arith, six, is));
    long = λ seven. absurd (omega (arith, seven, is));
    unopened = λ eight. absurd (omega (arith, eight, is));
    refuses = never_bad (ended.Channel says.channel says.at says.message says.why) says.said.session;
    takes = λ script one. absurd (omega (arith, one, is));
  }

  unlinked_end : status ≡ 5 → ServedAndPrinted m Session input input_after output output_after ended.Link → End
  unlinked_end is served = record {
    known = omega (arith, is);
    served = λ zero. absurd (omega (arith, zero, is));
    refused = λ one. absurd (omega (arith, one, is));
    unread = λ two. absurd (omega (arith, two, is));
    unwritten = λ three. absurd (omega (arith, three, is));
    faulty = λ four. absurd (omega (arith, four, is));
    unlinked = λ five. served;
    starved = λ six. absurd (omega (arith, six, is));
    long = λ seven. absurd (omega (arith, seven, is));
    unopened = λ eight. absurd (omega (arith, eight, is));
    refuses = never_bad ended.Link served.session;
    takes = λ script one. absurd (omega (arith, one, is));
  }

  long_end : status ≡ 7 → ServedAndSaid m Session input input_after output output_after long_line ended.Long → End
  long_end is says = record {
    known = omega (arith, is);
    served = λ zero. absurd (omega (arith, zero, is));
    refused = λ one. absurd (omega (arith, one, is));
    unread = λ two. absurd (omega (arith, two, is));
    unwritten = λ three. absurd (omega (arith, three, is));
    faulty = λ four. absurd (omega (arith, four, is));
    unlinked = λ five. absurd (omega (arith, five, is));
    starved = λ six. absurd (omega (arith, six, is));
    long = λ seven. says;
    unopened = λ eight. absurd (omega (arith, eight, is));
    refuses = never_bad ended.Long says.session;
    takes = λ script one. absurd (omega (arith, one, is));
  }

  -- a folder that couldn't be opened, with 8
  pub unopened_end : status ≡ 8 → UnopenedServing m Unopened input input_after output output_after → End
  unopened_end is unopened = record {
    known = omega (arith, is);
    served = λ zero. absurd (omega (arith, zero, is));
    refused = λ one. absurd (omega (arith, one, is));
    unread = λ two. absurd (omega (arith, two, is));
    unwritten = λ three. absurd (omega (arith, three, is));
    faulty = λ four. absurd (omega (arith, four, is));
    unlinked = λ five. absurd (omega (arith, five, is));
    starved = λ six. absurd (omega (arith, six, is));
    long = λ seven. absurd (omega (arith, seven, is));
    unopened = λ eight. unopened;
    refuses = λ bad gives. absurd (whole_not_bad m input input_after unopened.reads.text unopened.script bad unopened.reads.read unopened.reads.script_is gives);
    takes = λ script one. absurd (omega (arith, one, is));
  }

  -- want of memory after a session
  after_session : (e : Ended) → Serves e → status ≡ 6 → output_after ≡ output → End
  after_session e session is silent = starved_end is (record { faultless = session.reads.read.read.faultless; unprinted = silent; session = inr (e, session) })

  -- a text with no last line behind it was written
  whole : (e : Ended) (session : Serves e) → Wrote output output_after (session.text ++ []) → ServedAndPrinted m Session input input_after output output_after e
  whole e session wrote = record { session = session; printed = subst (λ (t : List ℕ). Wrote output output_after t) (append-nil session.text) wrote }

  -- or a fault ended that
  cut : (e : Ended) (session : Serves e) → FailedToWrite output output_after (session.text ++ []) → FailedToTell m Session input input_after output output_after e
  cut e session failed = record { session = session; failed = subst (λ (t : List ℕ). FailedToWrite output output_after t) (append-nil session.text) failed }

  -- How the command ends, from how its session did and what was printed.
  served_end : (e : Ended) (session : Serves e) → EndsServed session.text e output output_after status → End
  served_end ended.Over session (inl printed) = over_end printed.0 (whole ended.Over session printed.1)
  served_end ended.Over session (inr (inl failed)) = unwritten_end ended.Over session failed.0 (inl (cut ended.Over session failed.1))
  served_end ended.Over session (inr (inr starved)) = after_session ended.Over session starved.0 starved.1
  served_end ended.Link session (inl printed) = unlinked_end printed.0 (whole ended.Link session printed.1)
  served_end ended.Link session (inr (inl failed)) = unwritten_end ended.Link session failed.0 (inr (cut ended.Link session failed.1))
  served_end ended.Link session (inr (inr starved)) = after_session ended.Link session starved.0 starved.1
  served_end (ended.Channel channel at message why) session (inl printed) =
      faulty_end printed.0 (record { channel = channel; at = at; message = message; why = why; said = record { session = session; says = inl printed.1 } })
  served_end (ended.Channel channel at message why) session (inr (inl failed)) =
      faulty_end failed.0 (record { channel = channel; at = at; message = message; why = why; said = record { session = session; says = inr failed.1 } })
  served_end (ended.Channel channel at message why) session (inr (inr starved)) = after_session (ended.Channel channel at message why) session starved.0 starved.1
  served_end ended.Long session (inl printed) = long_end printed.0 (record { session = session; says = inl printed.1 })
  served_end ended.Long session (inr (inl failed)) = long_end failed.0 (record { session = session; says = inr failed.1 })
  served_end ended.Long session (inr (inr starved)) = after_session ended.Long session starved.0 starved.1
  served_end ended.Memory session starved = after_session ended.Memory session starved.0 starved.1

  -- The same, from what came of the text that tells of the session.
  pub told_end : {A E : Type 0} (e : Ended) (session : Serves e) (text : Result (Vec ℕ A) E) → IfOk text (λ t. t.items ≡ session.text)
      → IfOk text (λ t. EndsServed t.items e output output_after status) → (IsErr text → (status ≡ 6) × (output_after ≡ output)) → End
  told_end e session (Ok t) is ends starved = served_end e session (subst (λ (l : List ℕ). EndsServed l e output output_after status) is ends)
  told_end e session (Err cause) is ends starved = after_session e session (starved refl).0 (starved refl).1

  -- How the command ends where there was no session, from why its script wasn't read and what was said of that.
  pub stopped_end : (s : Stop) → StopsForScript m input input_after s → Untouched → StopsWith s output output_after status → End
  stopped_end (stop.Line line cause) reads unserved (inl said) =
      refused_end said.0 (record { bad = record { line = line; why = cause }; reads = reads; says = inl (refl, said.1); unserved = unserved })
  stopped_end (stop.Line line cause) reads unserved (inr starved) =
      starved_end starved.0 (record { faultless = reads.1.read.faultless; unprinted = starved.1; session = inl unserved })
  stopped_end stop.Input failed unserved said = unread_end said.0 (record { fault = failed; unprinted = said.1; unserved = unserved })
  stopped_end stop.Memory faultless unserved said = starved_end said.0 (record { faultless = faultless; unprinted = said.1; session = inl unserved })
  stopped_end stop.Words other unserved said = absurd other
  stopped_end stop.Output other unserved said = absurd other
  stopped_end stop.Recording other unserved said = absurd other
  stopped_end (stop.Fault fault) other unserved said = absurd other
  stopped_end (stop.Channel channel at message why) other unserved said = absurd other
  stopped_end stop.Link other unserved said = absurd other
  stopped_end stop.Long other unserved said = absurd other
  stopped_end stop.Folder other unserved said = absurd other
  stopped_end (stop.No found) other unserved said = absurd other
