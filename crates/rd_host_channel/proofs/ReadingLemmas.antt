-- How a channel is read on, one thing after another.
use Rattle.std.proofs.Common.{◌≡◌, ◌≢◌, ◌∙◌, ℕ, List, [], ◌∷◌, ◌++◌, length, Option, Some, None, inl, inr, ap, sym, refl, subst, append_assoc, append-nil}
use Rattle.std.specs.Io.KnownBytes.{Consumes}
use Rattle.rd_chunk.specs.declared.fault.ChunkBad.{ChunkBad}
use Rattle.rd_carry.specs.Incoming.{HasHeard, IncomingState}
use Rattle.rd_carry.specs.declared.ended.EndWhy.TheVariants as why
use Rattle.rd_carry.specs.declared.feeding.CarryNo.{CarryNo}
use Rattle.rd_carry.specs.declared.feeding.CarryNo.TheVariants as carry
use Rattle.rd_host_channel.specs.Calls.{HostEntry, HostPass}
use Rattle.rd_host_channel.specs.Reading.{AllPlain, AreGiven, EndsHindered, IsEndingOf, IsReadEnd, Reads, ReadsMore, ReadsOn, ending_by, faults_after}
use Rattle.rd_host_channel.specs.declared.ending.Ending.{Ending}
use Rattle.rd_host_channel.specs.declared.ending.Ending.TheVariants as ending
use Rattle.rd_host_channel.proofs.CallLemmas.{bytes_append, made_none, made_then}
use Rattle.rd_host_channel.proofs.GivenLemmas.{given_more, given_then, plain_append}

-- ---- where no message came

-- what was read stays
pub record IsKept (from to : IncomingState) : Type 0 where
  pub left : to.left ≡ from.left
  pub faults : to.faults ≡ from.faults
  pub read : to.read ≡ from.read

kept_consumes : (from to : IncomingState) → IsKept from to → (began : Option (List ℕ)) → Consumes began from.left from.read → Consumes began to.left to.read
kept_consumes from to kept began is = subst (λ (l : Option (List ℕ)). Consumes began l to.read) (sym kept.left) (subst (Consumes began from.left) (sym kept.read) is)

kept_by : (from to : IncomingState) → to ≡ record from { fault = to.fault } → IsKept from to
kept_by from to same = record { left = ap (λ (s : IncomingState). s.left) same; faults = ap (λ (s : IncomingState). s.faults) same; read = ap (λ (s : IncomingState). s.read) same }

-- this is the end, if it is any
ends_so : (e : Ending) (to : IncomingState) → IsReadEnd e to → (f : Ending) → Some e ≡ Some f → IsReadEnd f to
ends_so e to is f same = let it : e ≡ f = cc same in subst (λ (x : Ending). IsReadEnd x to) it is

-- a frame that is wrong, or no memory for a message
pub on_wrong : (no : CarryNo) (from to : IncomingState) → to ≡ record from { fault = to.fault } → ((bad : ChunkBad) → no ≡ carry.Bad bad → to.fault ≡ Some bad) → no ≢ carry.Failed → no ≢ carry.Long → HasHeard to → ReadsOn (Some (ending_by no)) from to
on_wrong (carry.Bad bad) from to same fault not_failed not_long stream = record {
  counted = ap (λ (s : IncomingState). s.faults) same;
  stream = λ _. stream;
  consumed = kept_consumes from to (kept_by from to same);
  room = ap (λ (s : IncomingState). s.room) same;
  messages = ap (λ (s : IncomingState). s.messages) same;
  end_is = ends_so (ending.Fault bad.at 0 (why.Chunk bad.why)) to (refl, fault bad refl);
  over = refl;
}
on_wrong carry.Memory from to same fault not_failed not_long stream = record {
  counted = ap (λ (s : IncomingState). s.faults) same;
  stream = λ _. stream;
  consumed = kept_consumes from to (kept_by from to same);
  room = ap (λ (s : IncomingState). s.room) same;
  messages = ap (λ (s : IncomingState). s.messages) same;
  end_is = ends_so ending.Memory to tt;
  over = refl;
}
on_wrong carry.Failed from to same fault not_failed not_long stream = absurd (not_failed refl)
on_wrong carry.Long from to same fault not_failed not_long stream = absurd (not_long refl)

-- all that was read is handled, and then more is read
pub on_handled : (by : Option Ending) (from mid to : IncomingState) → mid ≡ record from { unhandled = [] } → HasHeard mid → ReadsOn by mid to → ReadsOn by from to
on_handled by from mid to same stream reads =
    let kept : IsKept from mid = record { left = ap (λ (s : IncomingState). s.left) same; faults = ap (λ (s : IncomingState). s.faults) same; read = ap (λ (s : IncomingState). s.read) same } in
    record {
      counted = reads.counted ∙ ap (faults_after by) kept.faults;
      stream = λ _. reads.stream stream;
      consumed = λ began is. reads.consumed began (kept_consumes from mid kept began is);
      room = reads.room ∙ ap (λ (s : IncomingState). s.room) same;
      messages = reads.messages ∙ ap (λ (s : IncomingState). s.messages) same;
      end_is = reads.end_is;
      over = reads.over;
    }

-- none of no replies hindered
end_read : (W : Type 0) (by : Option Ending) (to : IncomingState) → ((e : Ending) → by ≡ Some e → IsReadEnd e to) → IsEndingOf {W = W} by [] to
end_read W None to is = tt
end_read W (Some by) to is = inl (tt, is by refl)

reads_none : (W : Type 0) (channel : ℕ) (by : Option Ending) (from to : IncomingState) → ReadsOn by from to → Reads {W = W} channel by [] from to
reads_none W channel by from to reads = record {
  bytes = tt;
  counted = reads.counted;
  stream = reads.stream;
  consumed = reads.consumed;
  room = reads.room;
  came = [];
  messages = reads.messages ∙ sym (append-nil from.messages);
  rest = [];
  given = refl;
  all = reads.over;
  end_is = end_read W by to reads.end_is;
}

module _ {W : Type 0} where
  -- ---- ends

  hindered_then : (by : Ending) (count : ℕ) (xs ys : List (HostEntry W)) → AllPlain xs → EndsHindered by count ys → EndsHindered by count (xs ++ ys)
  hindered_then by count xs ys plain ends = record {
    before = xs ++ ends.before;
    last = ends.last;
    calls_are = ap (λ (l : List (HostEntry W)). xs ++ l) ends.calls_are ∙ sym (append_assoc xs ends.before (ends.last ∷ []));
    plain = plain_append xs ends.before plain ends.plain;
    is_so = ends.is_so;
  }

  ending_then : (by : Option Ending) (xs ys : List (HostEntry W)) (to : IncomingState) → AllPlain xs → IsEndingOf by ys to → IsEndingOf by (xs ++ ys) to
  ending_then None xs ys to plain is = plain_append xs ys plain is
  ending_then (Some by) xs ys to plain (inl is) = inl (plain_append xs ys plain is.0, is.1)
  ending_then (Some by) xs ys to plain (inr is) = inr (hindered_then by (length to.messages) xs ys plain is)

  -- ---- reading on

  -- by these calls, and then by those
  reads_then : (channel : ℕ) (by : Option Ending) (xs ys : List (HostEntry W)) (f g h : IncomingState) → Reads channel None xs f g → Reads channel by ys g h → Reads channel by (xs ++ ys) f h
  reads_then channel by xs ys f g h one two = record {
    bytes = bytes_append xs ys one.bytes two.bytes;
    counted = two.counted ∙ ap (faults_after by) one.counted;
    stream = λ is. two.stream (one.stream is);
    consumed = λ began is. two.consumed began (one.consumed began is);
    room = two.room ∙ one.room;
    came = one.came ++ two.came;
    messages = two.messages ∙ ap (λ (l : List (List ℕ)). l ++ two.came) one.messages ∙ append_assoc f.messages one.came two.came;
    rest = two.rest;
    given = given_then channel xs ys (one.came ++ two.came) two.came two.rest
        (given_more channel xs one.came [] two.came (subst (λ (l : List (List ℕ)). AreGiven channel xs one.came l) one.all one.given)) two.given;
    all = two.all;
    end_is = ending_then by xs ys h one.end_is two.end_is;
  }

module _ {F W : Type 0} where
  -- nothing was done yet
  pub more_first : (channel : ℕ) (old : HostPass F W) (from : IncomingState) → ReadsMore channel None old old from from
  more_first channel old from = record {
    calls = [];
    made = made_none old;
    reads = reads_none W channel None from from (record { counted = refl; stream = λ is. is; consumed = λ began is. is; room = refl; messages = refl; end_is = λ e is. absurd (cc is); over = refl });
  }

  -- one thing more
  pub more_then : (channel : ℕ) (by : Option Ending) (a b c : HostPass F W) (f g h : IncomingState) → ReadsMore channel None a b f g → ReadsMore channel by b c g h → ReadsMore channel by a c f h
  more_then channel by a b c f g h one two =
      record { calls = one.calls ++ two.calls; made = made_then one.calls two.calls a b c one.made two.made; reads = reads_then channel by one.calls two.calls f g h one.reads two.reads }

  -- no message came
  pub more_none : (channel : ℕ) (by : Option Ending) (old : HostPass F W) (from to : IncomingState) → ReadsOn by from to → ReadsMore channel by old old from to
  more_none channel by old from to reads = record { calls = []; made = made_none old; reads = reads_none W channel by from to reads }
