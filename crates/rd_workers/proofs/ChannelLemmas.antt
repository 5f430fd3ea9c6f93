-- Channels that are served one after the other: what is known after each.
use Rattle.std.proofs.Common.{◌≡◌, ◌∙◌, ◌⊎◌, ◌+◌, ◌<◌, ℕ, suc, List, [], ◌∷◌, ◌++◌, length, Option, Some, None, Bool, true, false, ap, sym, refl, subst, inl, inr, arith, append_assoc, append-nil}
use Rattle.std.proofs.lemmas.List.{length-append, map-append}
use Rattle.std.specs.List.{AllByRecursion}
use Rattle.std.specs.Io.KnownBytes.{Consumes}
use Rattle.rd_carry.specs.Incoming.{HasHeard, IncomingState, new_incoming}
use Rattle.rd_carry.specs.Outgoing.{HasWritten, OutgoingState}
use Rattle.rd_carry.specs.declared.ended.Ended.{Ended}
use Rattle.rd_carry.specs.declared.ended.Ended.TheVariants as ended
use Rattle.rd_drive.proofs.AllLemmas.{all_append}
use Rattle.rd_front.specs.Calls.{FrontEntry}
use Rattle.rd_link.specs.Links.{Lends, Links, TakesBack}
use Rattle.rd_workers.specs.Channels.{AllGoByLines, ChannelReading, ChannelRun, EndsOn, EndsSo, GoesByThem, HaveNumbers, IsChannelRun, IsReading, IsWholeRun, LinkerTold, ServesNext, ServesOne, ServesSome, SettlesRun, SettlesRuns, Standing, calls_by_all, ended_as, ended_session, none_served, stands_at, told_as}
use Rattle.rd_workers.specs.Faults.{HasRisen, faults_by}
use Rattle.rd_workers.specs.Lines.{KeepsToLines, lines_stand}
use Rattle.rd_workers.specs.Logs.{WriterLog, Wrote, begun_on, finished_on, messages_heard, no_halves}
use Rattle.rd_workers.specs.Passes.{ReaderState}
use Rattle.rd_workers.specs.Reading.{BeginsChannel, BeginsNone, EndsChannel, HearsOn, IsSame, stopped_where, written_back}
use Rattle.rd_workers.specs.declared.due.AtLine.{AtLine}
use Rattle.rd_workers.specs.declared.reader.Ending.{Ending}
use Rattle.rd_workers.specs.declared.reader.Ending.TheVariants as ending
use Rattle.rd_workers.proofs.ReadingLemmas.{same_then}

-- ---- one more at the end

all_push : (P : ChannelRun → Type 0) (runs : List ChannelRun) (r : ChannelRun) → AllByRecursion P runs → P r → AllByRecursion P (runs ++ r ∷ [])
all_push P runs r all is = all_append P runs (r ∷ []) all (is, tt)

calls_push : (runs : List ChannelRun) (r : ChannelRun) → calls_by_all (runs ++ r ∷ []) ≡ calls_by_all runs ++ r.calls
calls_push [] r = append-nil r.calls
calls_push (x ∷ runs) r = ap (λ (l : List FrontEntry). x.calls ++ l) (calls_push runs r) ∙ sym (append_assoc x.calls (calls_by_all runs) r.calls)

numbered_push : (n : ℕ) (runs : List ChannelRun) (r : ChannelRun) → HaveNumbers n runs → (r.reading).channel ≡ suc (n + length runs) → HaveNumbers n (runs ++ r ∷ [])
numbered_push n [] r are is = (omega (arith, is), tt)
numbered_push n (x ∷ runs) r are is = (are.0, numbered_push (suc n) runs r are.1 (omega (arith, is)))

settles_push : (runs : List ChannelRun) (r : ChannelRun) (old mid new : LinkerTold) → SettlesRuns runs old mid → SettlesRun r mid new → SettlesRuns (runs ++ r ∷ []) old new
settles_push [] r old mid new are is = (new, subst (λ (l : LinkerTold). SettlesRun r l new) are is, refl)
settles_push (x ∷ runs) r old mid new are is = (are.0, are.1, settles_push runs r are.0 mid new are.2 is)

lines_push : (runs : List ChannelRun) (r : ChannelRun) (lines mid left : List AtLine) → AllGoByLines runs lines mid → GoesByThem r.reading mid left → AllGoByLines (runs ++ r ∷ []) lines left
lines_push [] r lines mid left are is = (left, subst (λ (l : List AtLine). GoesByThem r.reading l left) are is, refl)
lines_push (x ∷ runs) r lines mid left are is = (are.0, are.1, lines_push runs r are.0 mid left are.2 is)

served_none : (lines : List AtLine) (linker : LinkerTold) → ServesSome [] lines linker (none_served lines linker)
served_none lines linker = record { served = record { each = tt; numbered = tt; calls_are = refl; done_are = refl; lines_go = refl; settled = refl }; on = tt }

served_more : (runs : List ChannelRun) (r : ChannelRun) (lines : List AtLine) (old : LinkerTold) (mid new : Standing) → ServesSome runs lines old mid → (r.reading).channel ≡ suc (length runs) → ServesNext None r mid new → ServesSome (runs ++ r ∷ []) lines old new
served_more runs r lines old mid new some number next =
    let s = some.served in
    record {
      served = record {
        each = all_push IsChannelRun runs r s.each next.is;
        numbered = numbered_push 0 runs r s.numbered (omega (arith, number));
        calls_are = next.calls_are ∙ ap (λ (l : List FrontEntry). l ++ r.calls) s.calls_are ∙ sym (calls_push runs r);
        done_are = next.done_are ∙ ap (λ (l : List Wrote). l ++ r.wrote ∷ []) s.done_are ∙ sym (map-append (λ (x : ChannelRun). x.wrote) runs (r ∷ []));
        lines_go = lines_push runs r lines mid.lines new.lines s.lines_go next.lines_go;
        settled = settles_push runs r old mid.linker new.linker s.settled next.settles;
      };
      on = all_push (λ (x : ChannelRun). ended_session x ≡ None) runs r some.on next.ends;
    }

-- ---- one channel

consumes_none : (given : Option (List ℕ)) → Consumes given given []
consumes_none None = tt
consumes_none (Some bytes) = refl

is_unwritten : Ending → Bool
is_unwritten ending.Unwritten = true
is_unwritten _ = false

unwritten_is : (by : Ending) → by ≡ ending.Unwritten → is_unwritten by ≡ true
unfolding is_unwritten
unwritten_is by is = ap is_unwritten is

finished_is : (by : Ending) (w : WriterLog) (c : ℕ) (o e : OutgoingState) (starved : Bool)
    → (finished_on (stopped_where (Some by) (begun_on w c o)) e starved).done ≡ w.done ++ record { channel = c; began = o; ended = e; starved = starved; stopped = is_unwritten by } ∷ []
unfolding is_unwritten
finished_is ending.Input w c o e starved = refl
finished_is ending.Dropped w c o e starved = refl
finished_is ending.Unread w c o e starved = refl
finished_is ending.Unwritten w c o e starved = refl
finished_is (ending.Fault at message why) w c o e starved = refl
finished_is ending.Long w c o e starved = refl
finished_is ending.Memory w c o e starved = refl

taken : (old new : Option Links) (left left' back back' : Option (List ℕ)) (n n' m m' : ℕ) → TakesBack old new left back n m → left ≡ left' → back ≡ back' → n ≡ n' → m ≡ m' → TakesBack old new left' back' n' m'
taken old new left left' back back' n n' m m' takes one two three four =
    subst (λ (x : Option (List ℕ)). TakesBack old new x back' n' m') one (subst (λ (x : Option (List ℕ)). TakesBack old new left x n' m') two
    (subst (λ (x : ℕ). TakesBack old new left back x m') three (subst (λ (x : ℕ). TakesBack old new left back n x) four takes)))

-- a half that had no fault when it was given
pub incoming_is : (s : IncomingState) (given : Option (List ℕ)) (n room : ℕ) → s ≡ new_incoming given n room → n ≡ 0 → s ≡ new_incoming given 0 s.room
incoming_is s given n room is none = is ∙ ap (λ (k : ℕ). new_incoming given k room) none ∙ ap (new_incoming given 0) (sym (ap (λ (x : IncomingState). x.room) is))

-- ---- the channels so far

-- Each channel up to this number was served, and the session goes on.
pub record HasGone (channel : ℕ) (lines : List AtLine) (old : LinkerTold) (here : Standing) : Type 0 where
  pub runs : List ChannelRun
  pub count : length runs ≡ channel
  pub some : ServesSome runs lines old here

pub gone_none : (lines : List AtLine) (old : LinkerTold) (here : Standing) → here ≡ none_served lines old → HasGone 0 lines old here
gone_none lines old here is = subst (HasGone 0 lines old) (sym is) (record { runs = []; count = refl; some = served_none lines old })

pub stands_first : {F : Type 0} (s : ReaderState F) (lines due : List AtLine) (linker : LinkerTold) → s.own ≡ [] → s.written ≡ no_halves → due ≡ lines → stands_at s due linker ≡ none_served lines linker
stands_first s lines due linker own written same = λ i. record { calls = own i; done = (written i).done; lines = same i; linker = linker }

pub gone_more : (channel next : ℕ) (lines : List AtLine) (old : LinkerTold) (here new : Standing) → next ≡ channel + 1 → HasGone channel lines old here → ServesOne next None here new → HasGone next lines old new
gone_more channel next lines old here new is gone (r, number, serves) = record {
  runs = gone.runs ++ r ∷ [];
  count = let n = gone.count in omega (arith, n, is, length-append gone.runs (r ∷ []));
  some = served_more gone.runs r lines old here new gone.some (let n = gone.count in omega (arith, number, n, is)) serves;
}

-- one of them ended it
pub gone_short : (channel next channels : ℕ) (by : Ended) (lines : List AtLine) (old : LinkerTold) (here new : Standing) → next ≡ channel + 1 → channel < channels → HasGone channel lines old here → EndsOn next by here new → EndsSo lines channels by old new
gone_short channel next channels by lines old here new is less gone ends =
    let n = gone.count in
    let next_is : next ≡ suc (length gone.runs) = omega (arith, n, is) in
    record { runs = gone.runs; here = here; some = gone.some; ends = inr (omega (arith, n, less), subst (λ (c : ℕ). EndsOn c by here new) next_is ends) }

-- or none did
pub gone_whole : (channel channels : ℕ) (by : Ended) (lines : List AtLine) (old : LinkerTold) (here : Standing) → channel ≡ channels → (by ≡ ended.Over) ⊎ (by ≡ ended.Link) → HasGone channel lines old here → EndsSo lines channels by old here
gone_whole channel channels by lines old here is over gone = record { runs = gone.runs; here = here; some = gone.some; ends = inl (gone.count ∙ is, over, refl) }

module _ {F : Type 0} where
  -- ---- a channel, and its reader

  -- how a channel was read, by what its reader did
  abbrev reading_of : (Fits : List FrontEntry → Type 0) (channel : ℕ) (by : Ending) (given : Option (List ℕ)) (old new : ReaderState F) (from to : IncomingState) → HearsOn Fits (Some by) old new from to → ChannelReading
  reading_of Fits channel by given old new from to hears = record { channel = channel; given = given; incoming = to; by = by; calls = hears.calls; rest = hears.rest }

  is_reading : (Fits : List FrontEntry → Type 0) (channel : ℕ) (by : Ending) (given : Option (List ℕ)) (old new : ReaderState F) (from to : IncomingState) → (hears : HearsOn Fits (Some by) old new from to) → from ≡ new_incoming given 0 from.room → HasHeard from
      → IsReading (reading_of Fits channel by given old new from to hears)
  is_reading Fits channel by given old new from to hears is heard = record {
    stream = hears.stream heard;
    consumed = hears.consumed given (subst (λ (s : IncomingState). Consumes given s.left s.read) (sym is) (consumes_none given));
    counted = hears.counted ∙ ap (λ (s : IncomingState). faults_by (Some by) s.faults) is;
    messages = hears.messages ∙ ap (λ (s : IncomingState). s.messages ++ (messages_heard hears.calls ++ hears.rest)) is;
    all = hears.all;
    bytes = (hears.made).bytes;
    end_is = hears.end_is;
  }

  -- what stays the same where a channel is begun, read and ended
  pub same_through : (Fits : List FrontEntry → Type 0) (channel : ℕ) (by : Ending) (starved : Bool) (back : Option OutgoingState) (s0 s1 s2 s3 : ReaderState F) (from to : IncomingState) (o : OutgoingState) → BeginsChannel channel o s0 s1
      → HearsOn Fits (Some by) s1 s2 from to → EndsChannel back starved s2 s3 → IsSame s0 s3
  same_through Fits channel by starved back s0 s1 s2 s3 from to o begins hears ends = same_then s0 s1 s3 (begins.called).same (same_then s1 s2 s3 (hears.made).same (ends.called).same)

  -- A channel was begun, read to an end by these lines, and ended.
  pub record WasServed (channel : ℕ) (by : Ending) (back : Option OutgoingState) (starved : Bool) (lines left : List AtLine) (s0 s1 s2 s3 : ReaderState F) (from to : IncomingState) (o : OutgoingState) (given held : Option (List ℕ)) : Type 0 where
    pub begins : BeginsChannel channel o s0 s1
    pub hears : HearsOn (KeepsToLines channel (Some by) lines left) (Some by) s1 s2 from to
    pub ends : EndsChannel back starved s2 s3
    pub is : from ≡ new_incoming given 0 from.room
    pub heard : HasHeard from
    pub began : HasWritten held [] o

  module _ (channel : ℕ) (by : Ending) (back : Option OutgoingState) (starved : Bool) (lines left : List AtLine) (s0 s1 s2 s3 : ReaderState F) (from to : IncomingState) (o : OutgoingState) (given held : Option (List ℕ))
      (w : WasServed channel by back starved lines left s0 s1 s2 s3 from to o given held) where
    abbrev Fits : List FrontEntry → Type 0
    Fits = KeepsToLines channel (Some by) lines left

    -- all its calls
    all_calls : List FrontEntry
    all_calls = ((w.begins).called).call ∷ ((w.hears).calls ++ ((w.ends).called).call ∷ [])

    calls_then_are : s3.own ≡ s0.own ++ all_calls
    unfolding all_calls
    calls_then_are =
        ((w.ends).called).own ∙ ap (λ (l : List FrontEntry). l ++ ((w.ends).called).call ∷ []) (((w.hears).made).own ∙ ap (λ (l : List FrontEntry). l ++ (w.hears).calls) ((w.begins).called).own)
        ∙ append_assoc (s0.own ++ ((w.begins).called).call ∷ []) (w.hears).calls (((w.ends).called).call ∷ []) ∙ append_assoc s0.own (((w.begins).called).call ∷ []) ((w.hears).calls ++ ((w.ends).called).call ∷ [])

    is_whole : IsWholeRun channel (w.hears).calls all_calls
    unfolding all_calls
    is_whole = record { begin = ((w.begins).called).call; end = ((w.ends).called).call; whole_are = refl; begins = ((w.begins).called).is_so; ends = ((w.ends).called).is_so }

    goes_by : GoesByThem (reading_of Fits channel by given s1 s2 from to w.hears) lines left
    goes_by = (w.hears).fits (lines_stand lines) refl

    written_is : s3.written ≡ written_back back starved (stopped_where (Some by) (begun_on s0.written channel o))
    written_is = (w.ends).written ∙ ap (written_back back starved) (((w.hears).made).written ∙ ap (stopped_where (Some by)) (w.begins).written)

    -- it was settled
    pub serves_it : (e : OutgoingState) (l0 l1 l2 : Option Links) (n0 n1 n2 : ℕ) → back ≡ Some e → Lends l0 l1 given held → (left' back' : Option (List ℕ)) (n m : ℕ) → TakesBack l1 l2 left' back' n m → left' ≡ to.left → back' ≡ e.held
        → n ≡ to.faults → m ≡ e.faults → n1 ≡ n0 → n2 ≡ n1 → ServesOne channel (ended_as channel by starved) (stands_at s0 lines (told_as l0 n0)) (stands_at s3 left (told_as l2 n2))
    serves_it e l0 l1 l2 n0 n1 n2 some lends left' back' n m takes left_is back_is n_is m_is same1 same2 = (
      record {
        reading = reading_of Fits channel by given s1 s2 from to w.hears;
        calls = all_calls;
        held = held;
        wrote = record { channel = channel; began = o; ended = e; starved = starved; stopped = is_unwritten by };
      },
      refl,
      record {
        is = record { reading = is_reading Fits channel by given s1 s2 from to w.hears w.is w.heard; whole = is_whole; channel = refl; began = w.began; stopped = unwritten_is by };
        ends = refl;
        calls_are = calls_then_are;
        done_are = ap (λ (x : WriterLog). x.done) (written_is ∙ ap (λ (b : Option OutgoingState). written_back b starved (stopped_where (Some by) (begun_on s0.written channel o))) some) ∙ finished_is by s0.written channel o e starved;
        lines_go = goes_by;
        settles = (l1, lends, taken l1 l2 left' to.left back' e.held n to.faults m e.faults takes left_is back_is n_is m_is, same2 ∙ same1);
      },
    )

    -- its other half didn't come back
    pub leaves_lent : (l0 l1 : Option Links) (n0 n1 : ℕ) → back ≡ None → Lends l0 l1 given held → n1 ≡ n0 → EndsOn channel ended.Memory (stands_at s0 lines (told_as l0 n0)) (stands_at s3 left (told_as l1 n1))
    leaves_lent l0 l1 n0 n1 none lends same =
        inr (inr (record {
          reading = reading_of Fits channel by given s1 s2 from to w.hears;
          is = is_reading Fits channel by given s1 s2 from to w.hears w.is w.heard;
          channel_is = refl;
          calls = all_calls;
          whole = is_whole;
          held = held;
          calls_are = calls_then_are;
          done_are = ap (λ (x : WriterLog). x.done) (written_is ∙ ap (λ (b : Option OutgoingState). written_back b starved (stopped_where (Some by) (begun_on s0.written channel o))) none) ∙ stopped_done by s0.written channel o;
          lines_go = goes_by;
          lent = (lends, same);
        }))
      where
        stopped_done : (b : Ending) (x : WriterLog) (c : ℕ) (y : OutgoingState) → (stopped_where (Some b) (begun_on x c y)).done ≡ x.done
        stopped_done ending.Input x c y = refl
        stopped_done ending.Dropped x c y = refl
        stopped_done ending.Unread x c y = refl
        stopped_done ending.Unwritten x c y = refl
        stopped_done (ending.Fault at message why) x c y = refl
        stopped_done ending.Long x c y = refl
        stopped_done ending.Memory x c y = refl

  -- it couldn't be begun
  pub leaves_unused : (channel : ℕ) (s0 s1 : ReaderState F) (lines left : List AtLine) (given held left' back : Option (List ℕ)) (n m : ℕ) (l0 l1 l2 : Option Links) (n0 n1 n2 : ℕ) → BeginsNone channel s0 s1 → Lends l0 l1 given held → TakesBack l1 l2 left' back n m
      → left' ≡ given → back ≡ held → n ≡ 0 → m ≡ 0 → n1 ≡ n0 → n2 ≡ n1 → EndsOn channel ended.Memory (stands_at s0 lines (told_as l0 n0)) (stands_at s1 left (told_as l2 n2))
  leaves_unused channel s0 s1 lines left given held left' back n m l0 l1 l2 n0 n1 n2 begins lends takes left_is back_is n_is m_is same1 same2 =
      inr (inl (record {
        call = (begins.called).call;
        asks = (begins.called).is_so;
        calls_are = (begins.called).own;
        done_are = ap (λ (w : WriterLog). w.done) begins.written;
        settled = (given, held, (l1, lends, taken l1 l2 left' given back held n 0 m 0 takes left_is back_is n_is m_is, same2 ∙ same1));
      }))

  -- none could be had
  pub connects_none : (channel : ℕ) (s : ReaderState F) (lines : List AtLine) (l0 l1 : Option Links) (n0 n1 : ℕ) → l1 ≡ l0 → HasRisen n0 n1 → EndsOn channel ended.Link (stands_at s lines (told_as l0 n0)) (stands_at s lines (told_as l1 n1))
  connects_none channel s lines l0 l1 n0 n1 same risen = inr (record { calls_are = refl; done_are = refl; had = (same, risen) })
