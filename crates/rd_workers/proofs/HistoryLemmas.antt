-- A writer's history in which pass 0 begins and ends channels, and the others only write: what its log says of the halves that came back.
use Rattle.std.proofs.Common.{◌≡◌, ◌≢◌, ◌∙◌, ◌<◌, ◌≤◌, ◌==◌, ◌⊎◌, ℕ, List, [], ◌∷◌, ◌++◌, Option, Some, None, Bool, true, false, ap, sym, refl, subst, inl, inr, arith, append-nil, ne_eqb}
use Rattle.std.specs.Prelude.{if◌then◌else◌}
use Rattle.std.proofs.lemmas.Bool.{cases_Bool}
use Rattle.std.specs.List.{AllByRecursion}
use Rattle.rd_carry.specs.Outgoing.{OutgoingState}
use Rattle.rd_drive.proofs.AllLemmas.{all_append}
use Rattle.rd_front.specs.Calls.{FrontEntry}
use Rattle.rd_room.specs.Room.{MessageRoom}
use Rattle.rd_front.specs.declared.calls.FrontCall.{FrontCall}
use Rattle.rd_front.specs.declared.calls.FrontCall.TheVariants as call
use Rattle.rd_front.specs.declared.calls.FrontReply.{FrontReply}
use Rattle.rd_front.specs.declared.calls.FrontReply.TheVariants as reply
use Rattle.rd_turn.specs.History.{Leads, calls_of}
use Rattle.rd_turn.specs.declared.object.Entry.{Entry}
use Rattle.rd_workers.specs.Logs.{AllAskFor, AllFound, AsksOn, IsWriteCall, RunsOutFor, WriterLog, Writing, Wrote, asks_any, back_from, begun_on, finished_on, messages_by, messages_for, no_halves, stop, wrote_on, writes_by, writes_on}
use Rattle.rd_workers.specs.Passes.{WriterState}
use Rattle.rd_workers.specs.Served.{IsWritten}
use Rattle.rd_workers.specs.Writing.{BeginsOn, HandsBack, PutsTo, TakesMore, WriterStep, WritesReady}
use Rattle.rd_workers.specs.declared.writer.WriterCall.{WriterCall}
use Rattle.rd_workers.specs.declared.writer.WriterCall.TheVariants as write
use Rattle.rd_workers.specs.declared.writer.WriterReply.{WriterReply}
use Rattle.rd_workers.specs.declared.writer.WriterReply.TheVariants as wrote
use Rattle.rd_workers.proofs.LogLemmas.{AllAsk}
use Rattle.rd_workers.proofs.WritingLemmas.{for_append, found_append, puts_and, puts_then, unflushed}

-- ---- calls for other channels

-- a call for messages of a channel up to this one
abbrev pub AsksUpTo : ℕ → FrontCall → Type 0
AsksUpTo c (call.Next channel place room) = channel ≤ c
AsksUpTo c _ = ⊥

abbrev pub AllUpTo : ℕ → List FrontEntry → Type 0
AllUpTo c entries = AllByRecursion (λ (e : FrontEntry). AsksUpTo c e.call) entries

not_for : (c : ℕ) (channel place : ℕ) (room : MessageRoom) (back : FrontReply) → channel ≢ c → messages_by c (call.Next channel place room) back ≡ []
not_for c channel place room (reply.Messages filled left) apart = ap (λ (b : Bool). if b then filled.messages else []) (ne_eqb channel c apart)
not_for c channel place room (reply.Done at full) apart = refl
not_for c channel place room (reply.Stands ready asked) apart = refl
not_for c channel place room reply.Kept apart = refl
not_for c channel place room (reply.Wrong cause) apart = refl
not_for c channel place room (reply.Duplicate key) apart = refl
not_for c channel place room reply.Unfit apart = refl
not_for c channel place room reply.Memory apart = refl
not_for c channel place room reply.Full apart = refl
not_for c channel place room reply.Refused apart = refl

one_apart : (c d : ℕ) (does : FrontCall) (back : FrontReply) → AsksOn d does → d ≢ c → messages_by c does back ≡ []
one_apart c d (call.Next channel place room) back is apart = not_for c channel place room back (λ same. apart (sym is ∙ same))
one_apart c d (call.Begin channel) back is apart = absurd is
one_apart c d (call.Hear message) back is apart = absurd is
one_apart c d call.Retry back is apart = absurd is
one_apart c d (call.Remove device) back is apart = absurd is
one_apart c d (call.Add device) back is apart = absurd is
one_apart c d call.Look back is apart = absurd is
one_apart c d call.EndChannel back is apart = absurd is
one_apart c d call.EndSession back is apart = absurd is

all_apart : (c d : ℕ) (entries : List FrontEntry) → AllAskFor d entries → d ≢ c → messages_for c entries ≡ []
all_apart c d [] all apart = refl
all_apart c d (e ∷ entries) all apart = ap (λ (l : List (List ℕ)). l ++ messages_for c entries) (one_apart c d e.call e.reply all.0 apart) ∙ all_apart c d entries all.1 apart

one_above : (c d : ℕ) (does : FrontCall) (back : FrontReply) → AsksUpTo d does → d < c → messages_by c does back ≡ []
one_above c d (call.Next channel place room) back is less = not_for c channel place room back (λ same. omega (arith, same, is, less))
one_above c d (call.Begin channel) back is less = absurd is
one_above c d (call.Hear message) back is less = absurd is
one_above c d call.Retry back is less = absurd is
one_above c d (call.Remove device) back is less = absurd is
one_above c d (call.Add device) back is less = absurd is
one_above c d call.Look back is less = absurd is
one_above c d call.EndChannel back is less = absurd is
one_above c d call.EndSession back is less = absurd is

none_above : (c d : ℕ) (entries : List FrontEntry) → AllUpTo d entries → d < c → messages_for c entries ≡ []
none_above c d [] all less = refl
none_above c d (e ∷ entries) all less = ap (λ (l : List (List ℕ)). l ++ messages_for c entries) (one_above c d e.call e.reply all.0 less) ∙ none_above c d entries all.1 less

up_more : (c d : ℕ) (does : FrontCall) → AsksUpTo c does → c ≤ d → AsksUpTo d does
up_more c d (call.Next channel place room) is less = omega (arith, is, less)
up_more c d (call.Begin channel) is less = absurd is
up_more c d (call.Hear message) is less = absurd is
up_more c d call.Retry is less = absurd is
up_more c d (call.Remove device) is less = absurd is
up_more c d (call.Add device) is less = absurd is
up_more c d call.Look is less = absurd is
up_more c d call.EndChannel is less = absurd is
up_more c d call.EndSession is less = absurd is

all_more : (c d : ℕ) (entries : List FrontEntry) → AllUpTo c entries → c ≤ d → AllUpTo d entries
all_more c d [] all less = tt
all_more c d (e ∷ entries) all less = (up_more c d e.call all.0 less, all_more c d entries all.1 less)

up_for : (c : ℕ) (does : FrontCall) → AsksOn c does → AsksUpTo c does
up_for c (call.Next channel place room) is = omega (arith, is)
up_for c (call.Begin channel) is = absurd is
up_for c (call.Hear message) is = absurd is
up_for c call.Retry is = absurd is
up_for c (call.Remove device) is = absurd is
up_for c (call.Add device) is = absurd is
up_for c call.Look is = absurd is
up_for c call.EndChannel is = absurd is
up_for c call.EndSession is = absurd is

up_append : (c : ℕ) (xs ys : List FrontEntry) → AllUpTo c xs → AllAskFor c ys → AllUpTo c (xs ++ ys)
up_append c [] [] all more = tt
up_append c [] (y ∷ ys) all more = (up_for c y.call more.0, up_append c [] ys tt more.1)
up_append c (x ∷ xs) ys all more = (all.0, up_append c xs ys all.1 more)

up_asks : (c : ℕ) (does : FrontCall) → AsksUpTo c does → asks_any does ≡ true
up_asks c (call.Next channel place room) is = refl
up_asks c (call.Begin channel) is = absurd is
up_asks c (call.Hear message) is = absurd is
up_asks c call.Retry is = absurd is
up_asks c (call.Remove device) is = absurd is
up_asks c (call.Add device) is = absurd is
up_asks c call.Look is = absurd is
up_asks c call.EndChannel is = absurd is
up_asks c call.EndSession is = absurd is

all_ask : (c : ℕ) (entries : List FrontEntry) → AllUpTo c entries → AllAsk entries
all_ask c [] all = tt
all_ask c (e ∷ entries) all = (up_asks c e.call all.0, all_ask c entries all.1)

-- no memory is wanting for a channel by calls for messages of others
found_one_apart : (c d : ℕ) (does : FrontCall) (back : FrontReply) → AsksOn d does → d ≢ c → ¬ (RunsOutFor c does back)
found_one_apart c d (call.Next channel place room) back is apart = λ out. apart (sym is ∙ out.0)
found_one_apart c d (call.Begin channel) back is apart = absurd is
found_one_apart c d (call.Hear message) back is apart = absurd is
found_one_apart c d call.Retry back is apart = absurd is
found_one_apart c d (call.Remove device) back is apart = absurd is
found_one_apart c d (call.Add device) back is apart = absurd is
found_one_apart c d call.Look back is apart = absurd is
found_one_apart c d call.EndChannel back is apart = absurd is
found_one_apart c d call.EndSession back is apart = absurd is

found_apart : (c d : ℕ) (entries : List FrontEntry) → AllAskFor d entries → d ≢ c → AllFound c entries
found_apart c d [] all apart = tt
found_apart c d (e ∷ entries) all apart = (found_one_apart c d e.call e.reply all.0 apart, found_apart c d entries all.1 apart)

found_one_above : (c d : ℕ) (does : FrontCall) (back : FrontReply) → AsksUpTo d does → d < c → ¬ (RunsOutFor c does back)
found_one_above c d (call.Next channel place room) back is less = λ out. (let same = out.0 in omega (arith, same, is, less))
found_one_above c d (call.Begin channel) back is less = absurd is
found_one_above c d (call.Hear message) back is less = absurd is
found_one_above c d call.Retry back is less = absurd is
found_one_above c d (call.Remove device) back is less = absurd is
found_one_above c d (call.Add device) back is less = absurd is
found_one_above c d call.Look back is less = absurd is
found_one_above c d call.EndChannel back is less = absurd is
found_one_above c d call.EndSession back is less = absurd is

found_above : (c d : ℕ) (entries : List FrontEntry) → AllUpTo d entries → d < c → AllFound c entries
found_above c d [] all less = tt
found_above c d (e ∷ entries) all less = (found_one_above c d e.call e.reply all.0 less, found_above c d entries all.1 less)

module _ {K : Type 0} where
  -- each call that isn't pass 0's writes
  abbrev pub OthersWrite : List (Entry (WriterCall K) (WriterReply K)) → Type 0
  OthersWrite entries = AllByRecursion (λ (e : Entry (WriterCall K) (WriterReply K)). (e.by ≡ 0) ⊎ ((e.by ≢ 0) × IsWriteCall e.call)) entries

-- ---- where a writer stands

module _ {F : Type 0} where
  -- a half that is written to
  pub record FitsHalf (w : WriterState F) (o : OutgoingState) (b : Writing) : Type 0 where
    pub channel : b.channel ≡ w.channel
    pub puts : PutsTo w.starved (messages_for w.channel w.own) b.began o
    pub found : w.starved ≡ false → AllFound w.channel w.own
    pub stopped : b.stopped ≡ true → (0 < o.faults) ⊎ (w.starved ≡ true)

  abbrev pub FitsOn : WriterState F → Option OutgoingState → Option Writing → Type 0
  FitsOn w None None = Unit {0}
  FitsOn w (Some o) (Some b) = FitsHalf w o b
  FitsOn w _ _ = ⊥

  -- a half that came back: of a channel below the one that is on
  pub record FitsDone (w : WriterState F) (d : Wrote) : Type 0 where
    pub below : d.channel ≤ w.channel
    pub under : (o : OutgoingState) → w.half ≡ Some o → d.channel < w.channel
    pub written : IsWritten w.own d

  -- A writer stands where its log says.
  pub record FitsLog (w : WriterState F) (l : WriterLog) : Type 0 where
    pub up_to : AllUpTo w.channel w.own
    pub on : FitsOn w w.half l.on
    pub done : AllByRecursion (FitsDone w) l.done

  pub fits_first : (w : WriterState F) → w.own ≡ [] → w.half ≡ None → FitsLog w no_halves
  fits_first w none off = record {
    up_to = subst (AllUpTo w.channel) (sym none) tt;
    on = subst (λ (h : Option OutgoingState). FitsOn w h None) (sym off) tt;
    done = tt;
  }

  -- ---- a channel begins

  done_begun : (w : WriterState F) (channel : ℕ) (output : OutgoingState) (ds : List Wrote) → w.channel < channel → AllByRecursion (FitsDone w) ds
      → AllByRecursion (FitsDone (record w { channel = channel; half = Some output; starved = false })) ds
  done_begun w channel output [] less all = tt
  done_begun w channel output (d ∷ ds) less all =
      (record { below = (let b = (all.0).below in omega (arith, b, less)); under = λ o is. (let b = (all.0).below in omega (arith, b, less)); written = (all.0).written }, done_begun w channel output ds less all.1)

  fits_begun : (w w' : WriterState F) (l : WriterLog) (channel : ℕ) (output : OutgoingState) → FitsLog w l → BeginsOn channel output w w' → FitsLog w' (begun_on l channel output)
  fits_begun w w' l channel output fits begins =
      subst (λ (x : WriterState F). FitsLog x (begun_on l channel output)) (sym begins.2)
      (record {
        up_to = all_more w.channel channel w.own fits.up_to (let less = begins.1 in omega (arith, less));
        on = record {
          channel = refl;
          puts = subst (λ (ms : List (List ℕ)). PutsTo false ms output output) (sym (none_above channel w.channel w.own fits.up_to begins.1)) (unflushed output output refl);
          found = λ _. found_above channel w.channel w.own fits.up_to begins.1;
          stopped = λ is. absurd (cc is);
        };
        done = done_begun w channel output l.done begins.1 fits.done;
      })

  -- ---- it goes on

  done_written : (w w' : WriterState F) (from to : OutgoingState) (ds : List Wrote) → w.half ≡ Some from → TakesMore w from to w' → AllByRecursion (FitsDone w) ds → AllByRecursion (FitsDone w') ds
  done_written w w' from to [] on takes all = tt
  done_written w w' from to (d ∷ ds) on takes all = (one all.0, done_written w w' from to ds on takes all.1)
    where
      channel : w'.channel ≡ w.channel
      channel = ap (λ (x : WriterState F). x.channel) takes.same

      one : FitsDone w d → FitsDone w' d
      one fits =
          let less : d.channel < w.channel = fits.under from on in
          let same : messages_for d.channel w'.own ≡ messages_for d.channel w.own =
          ap (messages_for d.channel) takes.own ∙ for_append d.channel w.own takes.calls
          ∙ ap (λ (ms : List (List ℕ)). messages_for d.channel w.own ++ ms) (all_apart d.channel w.channel takes.calls takes.ask (λ is. omega (arith, less, is))) ∙ append-nil (messages_for d.channel w.own) in
          record {
            below = (let b = fits.below in omega (arith, b, channel));
            under = λ o is. omega (arith, less, channel);
            written = record {
              puts = subst (λ (ms : List (List ℕ)). PutsTo d.starved ms d.began d.ended) (sym same) (fits.written).puts;
              found = λ fed. subst (AllFound d.channel) (sym takes.own) (found_append d.channel w.own takes.calls ((fits.written).found fed) (found_apart d.channel w.channel takes.calls takes.ask (λ is. omega (arith, less, is))));
              flushed = (fits.written).flushed;
              stopped = (fits.written).stopped;
            };
          }

  half_written : (w w' : WriterState F) (from to : OutgoingState) (b : Writing) → FitsHalf w from b → TakesMore w from to w' → FitsHalf w' to b
  half_written w w' from to b fits takes = record {
    channel = fits.channel ∙ sym channel;
    puts = subst (λ (ms : List (List ℕ)). PutsTo w'.starved ms b.began to) (sym are) (both w.starved refl);
    found = λ fed. subst (λ (n : ℕ). AllFound n w'.own) (sym channel) (subst (AllFound w.channel) (sym takes.own) (found_append w.channel w.own takes.calls (fits.found (fed_before (cases_Bool w.starved) fed)) (takes.found fed)));
    stopped = λ is. later (fits.stopped is);
  }
    where
      fed_before : (w.starved ≡ true) ⊎ (w.starved ≡ false) → w'.starved ≡ false → w.starved ≡ false
      fed_before (inl was) fed = let both_are : true ≡ false = sym (takes.over was).1 ∙ fed in absurd (cc both_are)
      fed_before (inr was) fed = was

      channel : w'.channel ≡ w.channel
      channel = ap (λ (x : WriterState F). x.channel) takes.same

      are : messages_for w'.channel w'.own ≡ messages_for w.channel w.own ++ messages_for w.channel takes.calls
      are = ap (λ (n : ℕ). messages_for n w'.own) channel ∙ ap (messages_for w.channel) takes.own ∙ for_append w.channel w.own takes.calls

      both : (wanting : Bool) → w.starved ≡ wanting → PutsTo w'.starved (messages_for w.channel w.own ++ messages_for w.channel takes.calls) b.began to
      both false is =
          puts_then w'.starved (messages_for w.channel w.own) (messages_for w.channel takes.calls) b.began from to (subst (λ (s : Bool). PutsTo s (messages_for w.channel w.own) b.began from) is fits.puts) takes.puts
      both true is =
          let none : messages_for w.channel takes.calls ≡ [] = ap (messages_for w.channel) (takes.over is).0 in
          subst (λ (s : Bool). PutsTo s (messages_for w.channel w.own ++ messages_for w.channel takes.calls) b.began to) (is ∙ sym (takes.over is).1)
          (subst (λ (ms : List (List ℕ)). PutsTo w.starved ms b.began to) (sym (ap (λ (ms : List (List ℕ)). messages_for w.channel w.own ++ ms) none ∙ append-nil (messages_for w.channel w.own)))
          (puts_and w.starved w'.starved (messages_for w.channel w.own) b.began from to fits.puts (subst (λ (ms : List (List ℕ)). PutsTo w'.starved ms from to) none takes.puts)))

      later : (0 < from.faults) ⊎ (w.starved ≡ true) → (0 < to.faults) ⊎ (w'.starved ≡ true)
      later (inl some) = inl ((takes.puts).failed some)
      later (inr is) = inr (takes.over is).1

  half_stopped : (w : WriterState F) (o : OutgoingState) (b : Writing) → FitsHalf w o b → (0 < o.faults) ⊎ (w.starved ≡ true) → FitsHalf w o (record b { stopped = true })
  half_stopped w o b fits why = record { channel = fits.channel; puts = fits.puts; found = fits.found; stopped = λ is. why }

  on_written : (w w' : WriterState F) (from to : OutgoingState) (on : Option Writing) → FitsOn w (Some from) on → TakesMore w from to w' → FitsOn w' (Some to) on
  on_written w w' from to (Some b) fits takes = half_written w w' from to b fits takes
  on_written w w' from to None fits takes = absurd fits

  on_stopped : (w : WriterState F) (h : Option OutgoingState) (on : Option Writing) → FitsOn w h on → ((o : OutgoingState) → h ≡ Some o → (0 < o.faults) ⊎ (w.starved ≡ true)) → FitsOn w h (stop on)
  on_stopped w None None fits why = tt
  on_stopped w (Some o) (Some b) fits why = half_stopped w o b fits (why o refl)
  on_stopped w None (Some b) fits why = absurd fits
  on_stopped w (Some o) None fits why = absurd fits

  -- what is ready is written, whoever does it
  fits_written : (w w' : WriterState F) (l : WriterLog) (going : Bool) (h : Option OutgoingState) → w.half ≡ h → FitsLog w l → WritesReady h going w w' → FitsLog w' l
  fits_written w w' l going None off fits writes = subst (λ (x : WriterState F). FitsLog x l) (sym writes.1) fits
  fits_written w w' l going (Some from) on fits (to, half, takes, cause) = record {
    up_to = subst (λ (n : ℕ). AllUpTo n w'.own) (sym (ap (λ (x : WriterState F). x.channel) takes.same)) (subst (AllUpTo w.channel) (sym takes.own) (up_append w.channel w.own takes.calls fits.up_to takes.ask));
    on = subst (λ (x : Option OutgoingState). FitsOn w' x l.on) (sym half) (on_written w w' from to l.on (subst (λ (x : Option OutgoingState). FitsOn w x l.on) on fits.on) takes);
    done = done_written w w' from to l.done on takes fits.done;
  }

  -- and where nothing more can be
  cause_of : (w w' : WriterState F) (h : Option OutgoingState) → WritesReady h false w w' → w.half ≡ h → (o : OutgoingState) → w'.half ≡ Some o → (0 < o.faults) ⊎ (w'.starved ≡ true)
  cause_of w w' None writes off o is = let both : None ≡ Some o = sym off ∙ sym (ap (λ (x : WriterState F). x.half) writes.1) ∙ is in absurd (cc both)
  cause_of w w' (Some from) (to, half, takes, cause) on o is = let both : Some to ≡ Some o = sym half ∙ is in let same : to ≡ o = cc both in subst (λ (x : OutgoingState). (0 < x.faults) ⊎ (w'.starved ≡ true)) same (cause refl)

  fits_wrote : (w w' : WriterState F) (l : WriterLog) (going : Bool) → FitsLog w l → WritesReady w.half going w w' → FitsLog w' (wrote_on l going)
  fits_wrote w w' l true fits writes = fits_written w w' l true w.half refl fits writes
  fits_wrote w w' l false fits writes =
      let later = fits_written w w' l false w.half refl fits writes in
      record { up_to = later.up_to; on = on_stopped w' w'.half l.on later.on (cause_of w w' w.half writes refl); done = later.done }

  -- ---- it ends

  done_finished : (w : WriterState F) (ds : List Wrote) → AllByRecursion (FitsDone w) ds → AllByRecursion (FitsDone (record w { half = None })) ds
  done_finished w [] all = tt
  done_finished w (d ∷ ds) all = (record { below = (all.0).below; under = λ o is. absurd (cc is); written = (all.0).written }, done_finished w ds all.1)

  fits_finished : (w w' : WriterState F) (l : WriterLog) (h : Option OutgoingState) (output : OutgoingState) (starved : Bool) → w.half ≡ h → FitsLog w l → HandsBack h (Some output) starved w w' → FitsLog w' (finished_on l output starved)
  fits_finished w w' l None output starved off fits back = let none : Some output ≡ None = back.0 in absurd (cc none)
  fits_finished w w' l (Some from) output starved half fits (to, same, wanting, puts, none, is) = by l.on refl
    where
      it : to ≡ output
      it = let both : Some output ≡ Some to = same in cc both

      at : FitsOn w (Some from) l.on
      at = subst (λ (x : Option OutgoingState). FitsOn w x l.on) half fits.on

      by : (on : Option Writing) → l.on ≡ on → FitsLog w' (back_from l.on l output starved)
      by None off = absurd (subst (FitsOn w (Some from)) off at)
      by (Some b) on =
          let fit : FitsHalf w from b = subst (FitsOn w (Some from)) on at in
          let d : Wrote = record { channel = b.channel; began = b.began; ended = output; starved = starved; stopped = b.stopped } in
          let written : IsWritten w.own d = record {
            puts = subst (λ (n : ℕ). PutsTo starved (messages_for n w.own) b.began output) (sym fit.channel)
                (subst (λ (s : Bool). PutsTo s (messages_for w.channel w.own) b.began output) (sym wanting)
                (subst (λ (o : OutgoingState). PutsTo w.starved (messages_for w.channel w.own) b.began o) it (puts_and w.starved false (messages_for w.channel w.own) b.began from to fit.puts puts)));
            found = λ fed. subst (λ (n : ℕ). AllFound n w.own) (sym fit.channel) (fit.found (sym wanting ∙ fed));
            flushed = subst (λ (o : OutgoingState). o.pending ≡ []) it none;
            stopped = λ was. later (fit.stopped was);
          } in
          subst (λ (x : WriterState F). FitsLog x (back_from l.on l output starved)) (sym is)
          (subst (λ (o : Option Writing). FitsLog (record w { half = None }) (back_from o l output starved)) (sym on)
          (record {
            up_to = fits.up_to;
            on = tt;
            done = all_append (FitsDone (record w { half = None })) l.done (d ∷ []) (done_finished w l.done fits.done) (record { below = (let c = fit.channel in omega (arith, c)); under = λ o none. absurd (cc none); written = written }, tt);
          }))
        where
          later : (0 < from.faults) ⊎ (w.starved ≡ true) → (0 < output.faults) ⊎ (starved ≡ true)
          later (inl some) = inl (subst (λ (o : OutgoingState). 0 < o.faults) it (puts.failed some))
          later (inr was) = inr (wanting ∙ was)

  -- ---- a history

  module _ {K : Type 0} where
    -- a call of pass 0
    fits_call : (w w' : WriterState F) (l : WriterLog) (does : WriterCall K) (back : WriterReply K) → FitsLog w l → WriterStep w does back w' → FitsLog w' (writes_by l does back)
    fits_call w w' l (write.Begin channel output) (wrote.Done going) fits step = fits_begun w w' l channel output fits step
    fits_call w w' l (write.Begin channel output) (wrote.Refused half) fits step = subst (λ (x : WriterState F). FitsLog x l) (sym step.1) fits
    fits_call w w' l (write.Begin channel output) (wrote.Finished half starved) fits step = absurd step
    fits_call w w' l (write.Write place last) (wrote.Done going) fits step = fits_wrote w w' l going fits step
    fits_call w w' l (write.Write place last) (wrote.Refused half) fits step = absurd step
    fits_call w w' l (write.Write place last) (wrote.Finished half starved) fits step = absurd step
    fits_call w w' l write.Finish (wrote.Done going) fits step = absurd step
    fits_call w w' l write.Finish (wrote.Refused half) fits step = absurd step
    fits_call w w' l write.Finish (wrote.Finished (Some output) starved) fits step = fits_finished w w' l w.half output starved refl fits step
    fits_call w w' l write.Finish (wrote.Finished None starved) fits step = none w.half refl step
      where
        none : (h : Option OutgoingState) → w.half ≡ h → HandsBack h None starved w w' → FitsLog w' l
        none None off gives = subst (λ (x : WriterState F). FitsLog x l) (sym gives.1) fits
        none (Some from) on gives = let is : None ≡ Some gives.0 = gives.1 in absurd (cc is)

    -- another's call that writes
    fits_other : (w w' : WriterState F) (l : WriterLog) (does : WriterCall K) (back : WriterReply K) → IsWriteCall does → FitsLog w l → WriterStep w does back w' → FitsLog w' l
    fits_other w w' l (write.Write place last) (wrote.Done going) is fits step = fits_written w w' l going w.half refl fits step
    fits_other w w' l (write.Write place last) (wrote.Refused half) is fits step = absurd step
    fits_other w w' l (write.Write place last) (wrote.Finished half starved) is fits step = absurd step
    fits_other w w' l (write.Begin channel output) back is fits step = absurd is
    fits_other w w' l write.Finish back is fits step = absurd is

    fits_step : (w w' next : WriterState F) (l : WriterLog) (e : Entry (WriterCall K) (WriterReply K)) (entries : List (Entry (WriterCall K) (WriterReply K))) → FitsLog w l → WriterStep w e.call e.reply next
        → (e.by ≡ 0) ⊎ ((e.by ≢ 0) × IsWriteCall e.call) → ((l' : WriterLog) → FitsLog next l' → FitsLog w' (writes_on l' (calls_of 0 entries))) → FitsLog w' (writes_on l (calls_of 0 (e ∷ entries)))
    fits_step w w' next l e entries fits step (inl is) later =
        subst (λ (n : ℕ). FitsLog w' (writes_on l (if n == 0 then e ∷ calls_of 0 entries else calls_of 0 entries))) (sym is) (later (writes_by l e.call e.reply) (fits_call w next l e.call e.reply fits step))
    fits_step w w' next l e entries fits step (inr is) later =
        subst (λ (b : Bool). FitsLog w' (writes_on l (if b then e ∷ calls_of 0 entries else calls_of 0 entries))) (sym (ne_eqb e.by 0 is.0)) (later l (fits_other w next l e.call e.reply is.1 fits step))

    pub history_fits : (w w' : WriterState F) (l : WriterLog) (entries : List (Entry (WriterCall K) (WriterReply K))) → FitsLog w l → Leads WriterStep w entries w' → OthersWrite entries → FitsLog w' (writes_on l (calls_of 0 entries))
    history_fits w w' l [] fits leads others = subst (λ (x : WriterState F). FitsLog x l) leads fits
    history_fits w w' l (e ∷ entries) fits (next, step, leads) others = fits_step w w' next l e entries fits step others.0 (λ l' fits'. history_fits next w' l' entries fits' leads others.1)

  -- ---- what that says

  done_are : (w : WriterState F) (ds : List Wrote) → AllByRecursion (FitsDone w) ds → AllByRecursion (IsWritten w.own) ds
  done_are w [] all = tt
  done_are w (d ∷ ds) all = ((all.0).written, done_are w ds all.1)

  pub written_are : (w : WriterState F) (l : WriterLog) → FitsLog w l → AllByRecursion (IsWritten w.own) l.done
  written_are w l fits = done_are w l.done fits.done

  pub own_asks : (w : WriterState F) (l : WriterLog) → FitsLog w l → AllAsk w.own
  own_asks w l fits = all_ask w.channel w.own fits.up_to

  -- ---- what it calls the front by

  ready_front : (h : Option OutgoingState) (going : Bool) (w w' : WriterState F) → WritesReady h going w w' → w'.front ≡ w.front
  ready_front None going w w' writes = ap (λ (x : WriterState F). x.front) writes.1
  ready_front (Some from) going w w' (to, half, takes, cause) = ap (λ (x : WriterState F). x.front) takes.same

  back_front : (h output : Option OutgoingState) (starved : Bool) (w w' : WriterState F) → HandsBack h output starved w w' → w'.front ≡ w.front
  back_front None output starved w w' gives = ap (λ (x : WriterState F). x.front) gives.1
  back_front (Some from) output starved w w' (to, same, wanting, puts, none, is) = ap (λ (x : WriterState F). x.front) is

  module _ {K : Type 0} where
    step_front : (w w' : WriterState F) (does : WriterCall K) (back : WriterReply K) → WriterStep w does back w' → w'.front ≡ w.front
    step_front w w' (write.Begin channel output) (wrote.Done going) step = ap (λ (x : WriterState F). x.front) step.2
    step_front w w' (write.Begin channel output) (wrote.Refused half) step = ap (λ (x : WriterState F). x.front) step.1
    step_front w w' (write.Begin channel output) (wrote.Finished half starved) step = absurd step
    step_front w w' (write.Write place last) (wrote.Done going) step = ready_front w.half going w w' step
    step_front w w' (write.Write place last) (wrote.Refused half) step = absurd step
    step_front w w' (write.Write place last) (wrote.Finished half starved) step = absurd step
    step_front w w' write.Finish (wrote.Done going) step = absurd step
    step_front w w' write.Finish (wrote.Refused half) step = absurd step
    step_front w w' write.Finish (wrote.Finished output starved) step = back_front w.half output starved w w' step

    pub front_stays : (w w' : WriterState F) (entries : List (Entry (WriterCall K) (WriterReply K))) → Leads WriterStep w entries w' → w'.front ≡ w.front
    front_stays w w' [] leads = ap (λ (x : WriterState F). x.front) (sym leads)
    front_stays w w' (e ∷ entries) (next, step, leads) = front_stays next w' entries leads ∙ step_front w next e.call e.reply step
