-- What a reader does on a channel, one thing after another.
use Rattle.std.proofs.Common.{◌≡◌, ◌≢◌, ◌∙◌, ◌⊎◌, ◌-◌, ℕ, List, [], ◌∷◌, ◌++◌, length, Option, Some, None, false, inl, inr, ap, sym, refl, subst, append_assoc, append-nil}
use Rattle.std.proofs.lemmas.Bool.{cases_Bool}
use Rattle.std.specs.Io.KnownBytes.{Consumes}
use Rattle.rd_chunk.specs.declared.fault.ChunkBad.{ChunkBad}
use Rattle.rd_carry.specs.Incoming.{GivesMessage, HasHeard, IncomingState, ReadFails, max_incoming}
use Rattle.rd_carry.specs.declared.ended.EndWhy.TheVariants as why
use Rattle.rd_carry.specs.declared.feeding.CarryNo.{CarryNo}
use Rattle.rd_carry.specs.declared.feeding.CarryNo.TheVariants as carry
use Rattle.rd_drive.proofs.AllLemmas.{all_append}
use Rattle.rd_front.specs.Calls.{FrontEntry, HearBytes, HearsBytes, hinders}
use Rattle.rd_front.specs.declared.calls.FrontCall.{FrontCall}
use Rattle.rd_front.specs.declared.calls.FrontCall.TheVariants as call
use Rattle.rd_front.specs.declared.calls.FrontReply.{FrontReply}
use Rattle.rd_front.specs.declared.calls.FrontReply.TheVariants as reply
use Rattle.rd_workers.specs.Faults.{ending_of, faults_by}
use Rattle.rd_workers.specs.Lines.{ActsAll, ByCall, DoesAct, IsPlainEnd, IsStart, KeepsToLines, StartsOnce, was_full}
use Rattle.rd_workers.specs.Logs.{WriterLog, given_by, messages_heard}
use Rattle.rd_workers.specs.Passes.{ReaderState}
use Rattle.rd_workers.specs.Reading.{AllPlain, CallsOn, EndsHindered, Follows, GoesOn, HearsOn, IsEndingOf, IsHeardEnd, IsRelieved, IsRest, IsSame, IsWanting, SaysDuplicate, SaysWanting, TellsOf, completion_id, stopped_where, wrong_at}
use Rattle.rd_workers.specs.declared.due.Act.TheVariants as act
use Rattle.rd_workers.specs.declared.due.AtLine.{AtLine}
use Rattle.rd_workers.specs.declared.reader.Ending.{Ending}
use Rattle.rd_workers.specs.declared.reader.Ending.TheVariants as ending
use Rattle.rd_workers.proofs.LineLemmas.{keeps_acted, keeps_none, keeps_started, keeps_then}

-- ---- lists of calls

plain_append : (xs ys : List FrontEntry) → AllPlain xs → AllPlain ys → AllPlain (xs ++ ys)
plain_append xs ys all more = all_append (λ (e : FrontEntry). hinders e.reply ≡ false) xs ys all more

bytes_append : (xs ys : List FrontEntry) → HearBytes xs → HearBytes ys → HearBytes (xs ++ ys)
bytes_append xs ys all more = all_append (λ (e : FrontEntry). HearsBytes e.call) xs ys all more

pub heard_append : (xs ys : List FrontEntry) → messages_heard (xs ++ ys) ≡ messages_heard xs ++ messages_heard ys
heard_append [] ys = refl
heard_append (x ∷ xs) ys = ap (λ (l : List (List ℕ)). given_by x.call x.reply ++ l) (heard_append xs ys) ∙ sym (append_assoc (given_by x.call x.reply) (messages_heard xs) (messages_heard ys))

none_append : (xs ys : List FrontEntry) → messages_heard xs ≡ [] → messages_heard ys ≡ [] → messages_heard (xs ++ ys) ≡ []
none_append xs ys none more = heard_append xs ys ∙ ap (λ (l : List (List ℕ)). l ++ messages_heard ys) none ∙ more

-- ---- ends

hindered_then : (IsSo : FrontCall → FrontReply → Type 0) (xs ys : List FrontEntry) → AllPlain xs → EndsHindered IsSo ys → EndsHindered IsSo (xs ++ ys)
hindered_then IsSo xs ys plain ends = record {
  before = xs ++ ends.before;
  last = ends.last;
  calls_are = ap (λ (l : List FrontEntry). xs ++ l) ends.calls_are ∙ sym (append_assoc xs ends.before (ends.last ∷ []));
  plain = plain_append xs ends.before plain ends.plain;
  is_so = ends.is_so;
}

heard_then : (by : Option Ending) (count : ℕ) (xs ys : List FrontEntry) → AllPlain xs → IsHeardEnd by count ys → IsHeardEnd by count (xs ++ ys)
heard_then None count xs ys plain is = plain_append xs ys plain is
heard_then (Some ending.Dropped) count xs ys plain is = plain_append xs ys plain is
heard_then (Some ending.Unwritten) count xs ys plain is = plain_append xs ys plain is
heard_then (Some ending.Memory) count xs ys plain (inl is) = inl (plain_append xs ys plain is)
heard_then (Some ending.Memory) count xs ys plain (inr is) = inr (hindered_then SaysWanting xs ys plain is)
heard_then (Some (ending.Fault at message (why.Message wrong))) count xs ys plain is = (hindered_then _ xs ys plain is.0, is.1, is.2)
heard_then (Some (ending.Fault at message why.Duplicate)) count xs ys plain is = (hindered_then _ xs ys plain is.0, is.1, is.2)
heard_then (Some (ending.Fault at message (why.Chunk wrong))) count xs ys plain is = absurd is
heard_then (Some (ending.Fault at message why.Stray)) count xs ys plain is = absurd is
heard_then (Some (ending.Fault at message (why.BodyBad wrong))) count xs ys plain is = absurd is
heard_then (Some ending.Input) count xs ys plain is = absurd is
heard_then (Some ending.Unread) count xs ys plain is = absurd is
heard_then (Some ending.Long) count xs ys plain is = absurd is

ending_then : (by : Option Ending) (xs ys : List FrontEntry) (to : IncomingState) → AllPlain xs → IsEndingOf by ys to → IsEndingOf by (xs ++ ys) to
ending_then (Some ending.Input) xs ys to plain is = (plain_append xs ys plain is.0, is.1, is.2)
ending_then (Some ending.Unread) xs ys to plain is = plain_append xs ys plain is
ending_then (Some ending.Long) xs ys to plain is = (plain_append xs ys plain is.0, is.1)
ending_then (Some (ending.Fault at message (why.Chunk wrong))) xs ys to plain is = (plain_append xs ys plain is.0, is.1, is.2)
ending_then None xs ys to plain is = heard_then None (length to.messages) xs ys plain is
ending_then (Some ending.Dropped) xs ys to plain is = heard_then (Some ending.Dropped) (length to.messages) xs ys plain is
ending_then (Some ending.Unwritten) xs ys to plain is = heard_then (Some ending.Unwritten) (length to.messages) xs ys plain is
ending_then (Some ending.Memory) xs ys to plain is = heard_then (Some ending.Memory) (length to.messages) xs ys plain is
ending_then (Some (ending.Fault at message (why.Message wrong))) xs ys to plain is = heard_then (Some (ending.Fault at message (why.Message wrong))) (length to.messages) xs ys plain is
ending_then (Some (ending.Fault at message why.Duplicate)) xs ys to plain is = heard_then (Some (ending.Fault at message why.Duplicate)) (length to.messages) xs ys plain is
ending_then (Some (ending.Fault at message why.Stray)) xs ys to plain is = absurd is
ending_then (Some (ending.Fault at message (why.BodyBad wrong))) xs ys to plain is = absurd is

-- an end by the replies is no end by what was read
end_heard : (by : Option Ending) (calls : List FrontEntry) (to : IncomingState) → IsHeardEnd by (length to.messages) calls → IsEndingOf by calls to
end_heard None calls to is = is
end_heard (Some ending.Dropped) calls to is = is
end_heard (Some ending.Unwritten) calls to is = is
end_heard (Some ending.Memory) calls to is = is
end_heard (Some (ending.Fault at message (why.Message wrong))) calls to is = is
end_heard (Some (ending.Fault at message why.Duplicate)) calls to is = is
end_heard (Some (ending.Fault at message (why.Chunk wrong))) calls to is = absurd is
end_heard (Some (ending.Fault at message why.Stray)) calls to is = absurd is
end_heard (Some (ending.Fault at message (why.BodyBad wrong))) calls to is = absurd is
end_heard (Some ending.Input) calls to is = absurd is
end_heard (Some ending.Unread) calls to is = absurd is
end_heard (Some ending.Long) calls to is = absurd is

-- nor is it a failed read
heard_faults : (by : Option Ending) (count n : ℕ) (calls : List FrontEntry) → IsHeardEnd by count calls → n ≡ faults_by by n
heard_faults None count n calls is = refl
heard_faults (Some ending.Dropped) count n calls is = refl
heard_faults (Some ending.Unwritten) count n calls is = refl
heard_faults (Some ending.Memory) count n calls is = refl
heard_faults (Some (ending.Fault at message wrong)) count n calls is = refl
heard_faults (Some ending.Input) count n calls is = refl
heard_faults (Some ending.Unread) count n calls is = absurd is
heard_faults (Some ending.Long) count n calls is = refl

rest_none : (by : Option Ending) → IsRest by []
rest_none None = refl
rest_none (Some ending.Dropped) = refl
rest_none (Some ending.Unwritten) = refl
rest_none (Some ending.Memory) = tt
rest_none (Some (ending.Fault at message wrong)) = refl
rest_none (Some ending.Input) = refl
rest_none (Some ending.Unread) = refl
rest_none (Some ending.Long) = refl

-- a call by which nothing is heard
abbrev pub IsAside : FrontCall → Type 0
IsAside (call.Remove device) = Unit {0}
IsAside (call.Add device) = Unit {0}
IsAside call.Look = Unit {0}
IsAside _ = ⊥

aside_none : (does : FrontCall) (back : FrontReply) → IsAside does → given_by does back ≡ []
aside_none (call.Remove device) back is = refl
aside_none (call.Add device) back is = refl
aside_none call.Look back is = refl
aside_none (call.Begin channel) back is = absurd is
aside_none (call.Hear message) back is = absurd is
aside_none call.Retry back is = absurd is
aside_none (call.Next channel place room) back is = absurd is
aside_none call.EndChannel back is = absurd is
aside_none call.EndSession back is = absurd is

aside_bytes : (does : FrontCall) → IsAside does → HearsBytes does
aside_bytes (call.Remove device) is = tt
aside_bytes (call.Add device) is = tt
aside_bytes call.Look is = tt
aside_bytes (call.Begin channel) is = absurd is
aside_bytes (call.Hear message) is = absurd is
aside_bytes call.Retry is = absurd is
aside_bytes (call.Next channel place room) is = absurd is
aside_bytes call.EndChannel is = absurd is
aside_bytes call.EndSession is = absurd is

aside_wanting : (does : FrontCall) (back : FrontReply) → IsAside does → SaysWanting does back
aside_wanting (call.Remove device) back is = tt
aside_wanting (call.Add device) back is = tt
aside_wanting call.Look back is = tt
aside_wanting (call.Begin channel) back is = absurd is
aside_wanting (call.Hear message) back is = absurd is
aside_wanting call.Retry back is = absurd is
aside_wanting (call.Next channel place room) back is = absurd is
aside_wanting call.EndChannel back is = absurd is
aside_wanting call.EndSession back is = absurd is

tells_aside : (does : FrontCall) → TellsOf does → IsAside does
tells_aside (call.Remove device) is = tt
tells_aside (call.Add device) is = tt
tells_aside (call.Begin channel) is = absurd is
tells_aside (call.Hear message) is = absurd is
tells_aside call.Retry is = absurd is
tells_aside (call.Next channel place room) is = absurd is
tells_aside call.Look is = absurd is
tells_aside call.EndChannel is = absurd is
tells_aside call.EndSession is = absurd is

-- what was read stays
pub record IsKept (from to : IncomingState) : Type 0 where
  pub left : to.left ≡ from.left
  pub faults : to.faults ≡ from.faults
  pub read : to.read ≡ from.read

kept_consumes : (from to : IncomingState) → IsKept from to → (began : Option (List ℕ)) → Consumes began from.left from.read → Consumes began to.left to.read
kept_consumes from to kept began is = subst (λ (l : Option (List ℕ)). Consumes began l to.read) (sym kept.left) (subst (Consumes began from.left) (sym kept.read) is)

kept_by : (from to : IncomingState) → to ≡ record from { fault = to.fault } → IsKept from to
kept_by from to same = record { left = ap (λ (s : IncomingState). s.left) same; faults = ap (λ (s : IncomingState). s.faults) same; read = ap (λ (s : IncomingState). s.read) same }

-- calls that were to be none
abbrev pub AreNone : List FrontEntry → Type 0
AreNone calls = calls ≡ []

none_then : (P : List FrontEntry → Type 0) (xs ys : List FrontEntry) → AreNone xs → P ys → P (xs ++ ys)
none_then P xs ys none is = subst (λ (l : List FrontEntry). P (l ++ ys)) (sym none) is

-- what a reply to a message, or to a job that is tried again, says where the channel ends for want of memory
wanting : (count : ℕ) (e : FrontEntry) → IsStart e.call → SaysWanting e.call e.reply ⊎ (hinders e.reply ≡ false) → IsHeardEnd (Some ending.Memory) count (e ∷ [])
wanting count e start (inl so) = inr (record { before = []; last = e; calls_are = refl; plain = tt; is_so = so })
wanting count e start (inr plain) = inl (plain, tt)

says_wanting : (does : FrontCall) (back : FrontReply) → IsStart does → IsWanting back → SaysWanting does back
says_wanting (call.Hear message) back start is = is
says_wanting call.Retry back start is = is
says_wanting (call.Begin channel) back start is = absurd start
says_wanting (call.Next channel place room) back start is = absurd start
says_wanting (call.Remove device) back start is = absurd start
says_wanting (call.Add device) back start is = absurd start
says_wanting call.Look back start is = absurd start
says_wanting call.EndChannel back start is = absurd start
says_wanting call.EndSession back start is = absurd start

retry_none : (e : FrontEntry) → e.call ≡ call.Retry → messages_heard (e ∷ []) ≡ []
retry_none e is = ap (λ (d : FrontCall). given_by d e.reply ++ []) is

-- the message was taken, or it is left for want of memory
record IsTaken (by : Option Ending) (e : FrontEntry) (message : List ℕ) : Type 0 where
  pub rest : List (List ℕ)
  pub parts : message ∷ [] ≡ messages_heard (e ∷ []) ++ rest
  pub all : IsRest by rest

taken_whole : (by : Option Ending) (e : FrontEntry) (message : List ℕ) → given_by e.call e.reply ≡ message ∷ [] → IsTaken by e message
taken_whole by e message is = record { rest = []; parts = sym (ap (λ (l : List (List ℕ)). (l ++ []) ++ []) is); all = rest_none by }

taken_not : (by : Option Ending) (e : FrontEntry) (message : List ℕ) → by ≡ Some ending.Memory → given_by e.call e.reply ≡ [] → IsTaken by e message
taken_not by e message end is = record { rest = message ∷ []; parts = sym (ap (λ (l : List (List ℕ)). (l ++ []) ++ message ∷ []) is); all = subst (λ (b : Option Ending). IsRest b (message ∷ [])) (sym end) tt }

module _ {F : Type 0} where
  same_here : (s : ReaderState F) → IsSame s s
  same_here s = record { front = refl; writer = refl; desks = refl; moment = refl }

  pub same_then : (a b c : ReaderState F) → IsSame a b → IsSame b c → IsSame a c
  same_then a b c one two = record { front = two.front ∙ one.front; writer = two.writer ∙ one.writer; desks = two.desks ∙ one.desks; moment = two.moment ∙ one.moment }

  -- ---- calls

  calls_none : (old : ReaderState F) → CallsOn None [] old old
  calls_none old = record { same = same_here old; own = sym (append-nil old.own); bytes = tt; written = refl }

  calls_then : (by : Option Ending) (xs ys : List FrontEntry) (a b c : ReaderState F) → CallsOn None xs a b → CallsOn by ys b c → CallsOn by (xs ++ ys) a c
  calls_then by xs ys a b c one two = record {
    same = same_then a b c one.same two.same;
    own = two.own ∙ ap (λ (l : List FrontEntry). l ++ ys) one.own ∙ append_assoc a.own xs ys;
    bytes = bytes_append xs ys one.bytes two.bytes;
    written = two.written ∙ ap (stopped_where by) one.written;
  }

  abbrev pub having_called : ReaderState F → FrontEntry → ReaderState F
  having_called old e = record old { own = old.own ++ e ∷ [] }

  calls_one : (old new : ReaderState F) (e : FrontEntry) → new ≡ having_called old e → HearsBytes e.call → CallsOn None (e ∷ []) old new
  calls_one old new e is bytes = subst (CallsOn None (e ∷ []) old) (sym is) (record { same = record { front = refl; writer = refl; desks = refl; moment = refl }; own = refl; bytes = (bytes, tt); written = refl })

  -- the writer was asked to write, and may have said that nothing more can be
  calls_relieved : (by : Option Ending) (old new : ReaderState F) → IsRelieved by old new → CallsOn by [] old new
  calls_relieved None old new is = subst (CallsOn None [] old) (sym is) (calls_none old)
  calls_relieved (Some ending.Unwritten) old new is =
      subst (CallsOn (Some ending.Unwritten) [] old) (sym is) (record { same = record { front = refl; writer = refl; desks = refl; moment = refl }; own = sym (append-nil old.own); bytes = tt; written = refl })
  calls_relieved (Some ending.Input) old new is = absurd is
  calls_relieved (Some ending.Dropped) old new is = absurd is
  calls_relieved (Some ending.Unread) old new is = absurd is
  calls_relieved (Some (ending.Fault at message wrong)) old new is = absurd is
  calls_relieved (Some ending.Long) old new is = absurd is
  calls_relieved (Some ending.Memory) old new is = absurd is

  relieved_end : (by : Option Ending) (count : ℕ) (old new : ReaderState F) → IsRelieved by old new → IsHeardEnd by count []
  relieved_end None count old new is = tt
  relieved_end (Some ending.Unwritten) count old new is = tt
  relieved_end (Some ending.Input) count old new is = absurd is
  relieved_end (Some ending.Dropped) count old new is = absurd is
  relieved_end (Some ending.Unread) count old new is = absurd is
  relieved_end (Some (ending.Fault at message wrong)) count old new is = absurd is
  relieved_end (Some ending.Long) count old new is = absurd is
  relieved_end (Some ending.Memory) count old new is = absurd is

  relieved_plain : (by : Option Ending) (old new : ReaderState F) → IsRelieved by old new → IsPlainEnd by
  relieved_plain None old new is = tt
  relieved_plain (Some ending.Unwritten) old new is = tt
  relieved_plain (Some ending.Input) old new is = absurd is
  relieved_plain (Some ending.Dropped) old new is = absurd is
  relieved_plain (Some ending.Unread) old new is = absurd is
  relieved_plain (Some (ending.Fault at message wrong)) old new is = absurd is
  relieved_plain (Some ending.Long) old new is = absurd is
  relieved_plain (Some ending.Memory) old new is = absurd is

  starts_none : (by : Option Ending) (old new : ReaderState F) → IsRelieved by old new → StartsOnce by []
  starts_none None old new is = tt
  starts_none (Some ending.Unwritten) old new is = tt
  starts_none (Some ending.Input) old new is = absurd is
  starts_none (Some ending.Dropped) old new is = absurd is
  starts_none (Some ending.Unread) old new is = absurd is
  starts_none (Some (ending.Fault at message wrong)) old new is = absurd is
  starts_none (Some ending.Long) old new is = absurd is
  starts_none (Some ending.Memory) old new is = absurd is

  -- ---- where nothing is heard

  pub goes_fit : (P Q : List FrontEntry → Type 0) (by : Option Ending) (count : ℕ) (old new : ReaderState F) → ((xs : List FrontEntry) → P xs → Q xs) → GoesOn P by count old new → GoesOn Q by count old new
  goes_fit P Q by count old new fit goes = record { calls = goes.calls; made = goes.made; fits = fit goes.calls goes.fits; none = goes.none; end_is = goes.end_is }

  pub goes_same : (P : List FrontEntry → Type 0) (count : ℕ) (old : ReaderState F) → P [] → GoesOn P None count old old
  goes_same P count old fits = record { calls = []; made = calls_none old; fits = fits; none = refl; end_is = tt }

  pub goes_then : (P Q R : List FrontEntry → Type 0) (by : Option Ending) (count : ℕ) (a b c : ReaderState F) → ((xs ys : List FrontEntry) → P xs → Q ys → R (xs ++ ys)) → GoesOn P None count a b → GoesOn Q by count b c → GoesOn R by count a c
  goes_then P Q R by count a b c both one two = record {
    calls = one.calls ++ two.calls;
    made = calls_then by one.calls two.calls a b c one.made two.made;
    fits = both one.calls two.calls one.fits two.fits;
    none = none_append one.calls two.calls one.none two.none;
    end_is = heard_then by count one.calls two.calls one.end_is two.end_is;
  }

  pub goes_relieved : (P : List FrontEntry → Type 0) (by : Option Ending) (count : ℕ) (old new : ReaderState F) → P [] → IsRelieved by old new → GoesOn P by count old new
  goes_relieved P by count old new fits is = record { calls = []; made = calls_relieved by old new is; fits = fits; none = refl; end_is = relieved_end by count old new is }

  pub goes_dropped : (count : ℕ) (old : ReaderState F) → GoesOn (DoesAct act.Drop (Some ending.Dropped)) (Some ending.Dropped) count old old
  goes_dropped count old = record { calls = []; made = record { same = same_here old; own = sym (append-nil old.own); bytes = tt; written = refl }; fits = (refl, refl); none = refl; end_is = tt }

  -- one call that is answered by what hinders nothing
  pub goes_aside : (count : ℕ) (old new : ReaderState F) (e : FrontEntry) → IsAside e.call → new ≡ having_called old e → hinders e.reply ≡ false → GoesOn (λ calls. calls ≡ e ∷ []) None count old new
  goes_aside count old new e aside is plain =
      record { calls = e ∷ []; made = calls_one old new e is (aside_bytes e.call aside); fits = refl; none = ap (λ (l : List (List ℕ)). l ++ []) (aside_none e.call e.reply aside); end_is = (plain, tt) }

  -- any other
  pub goes_badly : (count : ℕ) (old new : ReaderState F) (e : FrontEntry) → IsAside e.call → new ≡ having_called old e → GoesOn (λ calls. calls ≡ e ∷ []) (Some ending.Memory) count old new
  goes_badly count old new e aside is = record {
    calls = e ∷ [];
    made = let m = calls_one old new e is (aside_bytes e.call aside) in record { same = m.same; own = m.own; bytes = m.bytes; written = m.written };
    fits = refl;
    none = ap (λ (l : List (List ℕ)). l ++ []) (aside_none e.call e.reply aside);
    end_is = elim (cases_Bool (hinders e.reply)) [
      | inl so ↦ inr (record { before = []; last = e; calls_are = refl; plain = tt; is_so = aside_wanting e.call e.reply aside })
      | inr plain ↦ inl (plain, tt)
    ];
  }

  -- The host is told of a device, and the writer may be asked to write then.
  pub tells_done : (by : Option Ending) (count : ℕ) (old mid new : ReaderState F) (e : FrontEntry) → TellsOf e.call → mid ≡ having_called old e → hinders e.reply ≡ false → was_full e.reply ≡ false → IsRelieved by mid new
      → GoesOn (ByCall (Some e.call) by) by count old new
  tells_done by count old mid new e tells is plain done relieved =
      goes_then (λ calls. calls ≡ e ∷ []) AreNone (ByCall (Some e.call) by) by count old mid new
      (λ xs ys one none. record { plain = relieved_plain by mid new relieved; call = e; does_is = refl; calls_are = ap (λ (l : List FrontEntry). xs ++ l) none ∙ append-nil xs ∙ one; done = λ _. done })
      (goes_aside count old mid e (tells_aside e.call tells) is plain) (goes_relieved AreNone by count mid new refl relieved)

  -- it isn't, since no memory was found
  pub tells_badly : (count : ℕ) (old new : ReaderState F) (e : FrontEntry) → TellsOf e.call → new ≡ having_called old e → GoesOn (ByCall (Some e.call) (Some ending.Memory)) (Some ending.Memory) count old new
  tells_badly count old new e tells is =
      let g = goes_badly count old new e (tells_aside e.call tells) is in
      record { calls = g.calls; made = g.made; fits = record { plain = tt; call = e; does_is = refl; calls_are = g.fits; done = λ none. absurd (cc none) }; none = g.none; end_is = g.end_is }

  -- ---- what follows from a reply

  -- What was done after a call by which a message was given to be heard, or a job tried again.
  record FollowsUp (by : Option Ending) (count : ℕ) (e : FrontEntry) (mid new : ReaderState F) : Type 0 where
    pub made : CallsOn by [] mid new
    pub end_is : IsHeardEnd by count (e ∷ [])
    pub starts : StartsOnce by (e ∷ [])

  up_relieved : (by : Option Ending) (count : ℕ) (e : FrontEntry) (mid new : ReaderState F) → IsStart e.call → IsRelieved by mid new → hinders e.reply ≡ false → FollowsUp by count e mid new
  up_relieved None count e mid new start is plain = record { made = calls_relieved None mid new is; end_is = (plain, tt); starts = start }
  up_relieved (Some ending.Unwritten) count e mid new start is plain = record { made = calls_relieved (Some ending.Unwritten) mid new is; end_is = (plain, tt); starts = start }
  up_relieved (Some ending.Input) count e mid new start is plain = absurd is
  up_relieved (Some ending.Dropped) count e mid new start is plain = absurd is
  up_relieved (Some ending.Unread) count e mid new start is plain = absurd is
  up_relieved (Some (ending.Fault at message wrong)) count e mid new start is plain = absurd is
  up_relieved (Some ending.Long) count e mid new start is plain = absurd is
  up_relieved (Some ending.Memory) count e mid new start is plain = absurd is

  -- an end at which nothing is written
  up_end : (end : Ending) (by : Option Ending) (count : ℕ) (e : FrontEntry) (mid new : ReaderState F) → (by ≡ Some end) × (new ≡ mid) → ((w : WriterLog) → stopped_where (Some end) w ≡ w) → IsHeardEnd (Some end) count (e ∷ []) → StartsOnce (Some end) (e ∷ []) → FollowsUp by count e mid new
  up_end end by count e mid new is plain end_is starts =
      subst (λ (b : Option Ending). FollowsUp b count e mid new) (sym is.0)
      (record {
        made = subst (CallsOn (Some end) [] mid) (sym is.1) (record { same = same_here mid; own = sym (append-nil mid.own); bytes = tt; written = sym (plain mid.written) });
        end_is = end_is;
        starts = starts;
      })

  follows_up : (by : Option Ending) (count : ℕ) (e : FrontEntry) (mid new : ReaderState F) → IsStart e.call → Follows e.reply count by mid new → FollowsUp by count e mid new
  follows_up by count e mid new start follow = by_reply e.reply refl follow
    where
      so : (r : FrontReply) → e.reply ≡ r → hinders r ≡ false → hinders e.reply ≡ false
      so r is plain = ap hinders is ∙ plain

      short : (r : FrontReply) → e.reply ≡ r → (by ≡ Some ending.Memory) × (new ≡ mid) → hinders r ≡ false → FollowsUp by count e mid new
      short r is end plain = up_end ending.Memory by count e mid new end (λ w. refl) (wanting count e start (inr (so r is plain))) start

      want : (r : FrontReply) → e.reply ≡ r → (by ≡ Some ending.Memory) × (new ≡ mid) → IsWanting r → FollowsUp by count e mid new
      want r is end wants = up_end ending.Memory by count e mid new end (λ w. refl) (wanting count e start (inl (says_wanting e.call e.reply start (subst IsWanting (sym is) wants)))) start

      by_reply : (r : FrontReply) → e.reply ≡ r → Follows r count by mid new → FollowsUp by count e mid new
      by_reply (reply.Done at full) is f = up_relieved by count e mid new start f (so (reply.Done at full) is refl)
      by_reply reply.Kept is f = up_relieved by count e mid new start (subst (λ (b : Option Ending). IsRelieved b mid new) (sym f.0) f.1) (so reply.Kept is refl)
      by_reply (reply.Wrong wrong) is f =
          up_end (ending.Fault (wrong_at wrong) (count - 1) (why.Message wrong)) by count e mid new f (λ w. refl) (record { before = []; last = e; calls_are = refl; plain = tt; is_so = is }, refl, refl) start
      by_reply (reply.Duplicate key) is f =
          up_end (ending.Fault completion_id (count - 1) why.Duplicate) by count e mid new f (λ w. refl)
          (record { before = []; last = e; calls_are = refl; plain = tt; is_so = subst (SaysDuplicate e.call) (sym is) tt }, refl, refl) start
      by_reply reply.Unfit is f = want reply.Unfit is f tt
      by_reply reply.Memory is f = want reply.Memory is f tt
      by_reply reply.Full is f = short reply.Full is f refl
      by_reply reply.Refused is f = short reply.Refused is f refl
      by_reply (reply.Stands ready asked) is f = short (reply.Stands ready asked) is f refl
      by_reply (reply.Messages filled left) is f = short (reply.Messages filled left) is f refl

  -- ---- a job that is tried again

  pub retries : (by : Option Ending) (count : ℕ) (old mid new : ReaderState F) (e : FrontEntry) → e.call ≡ call.Retry → mid ≡ having_called old e → Follows e.reply count by mid new → GoesOn (StartsOnce by) by count old new
  retries by count old mid new e is made follow =
      let up = follows_up by count e mid new (subst IsStart (sym is) tt) follow in
      record {
        calls = e ∷ [];
        made = calls_then by (e ∷ []) [] old mid new (calls_one old mid e made (subst HearsBytes (sym is) tt)) up.made;
        fits = up.starts;
        none = retry_none e is;
        end_is = up.end_is;
      }

  -- room was made before
  pub retries_not : (by : Option Ending) (count : ℕ) (old new : ReaderState F) → IsRelieved by old new → GoesOn (StartsOnce by) by count old new
  retries_not by count old new is = goes_relieved (StartsOnce by) by count old new (starts_none by old new is) is

  -- ---- reading on

  pub hears_goes : (P Q : List FrontEntry → Type 0) (by : Option Ending) (old new : ReaderState F) (s : IncomingState) → ((xs : List FrontEntry) → P xs → Q xs) → GoesOn P by (length s.messages) old new → HearsOn Q by old new s s
  hears_goes P Q by old new s fit goes = record {
    calls = goes.calls;
    made = goes.made;
    fits = fit goes.calls goes.fits;
    counted = heard_faults by (length s.messages) s.faults goes.calls goes.end_is;
    stream = λ is. is;
    consumed = λ began is. is;
    room = refl;
    rest = [];
    messages = sym (ap (λ (l : List (List ℕ)). s.messages ++ (l ++ [])) goes.none ∙ append-nil s.messages);
    all = rest_none by;
    end_is = end_heard by goes.calls s goes.end_is;
  }

  pub hears_then : (P Q R : List FrontEntry → Type 0) (by : Option Ending) (a b c : ReaderState F) (f g h : IncomingState) → ((xs ys : List FrontEntry) → P xs → Q ys → R (xs ++ ys)) → HearsOn P None a b f g → HearsOn Q by b c g h → HearsOn R by a c f h
  hears_then P Q R by a b c f g h both one two =
      let heard = messages_heard one.calls in
      let more = messages_heard two.calls in
      let first : g.messages ≡ f.messages ++ heard = one.messages ∙ ap (λ (l : List (List ℕ)). f.messages ++ (heard ++ l)) one.all ∙ ap (λ (l : List (List ℕ)). f.messages ++ l) (append-nil heard) in
      record {
        calls = one.calls ++ two.calls;
        made = calls_then by one.calls two.calls a b c one.made two.made;
        fits = both one.calls two.calls one.fits two.fits;
        counted = two.counted ∙ ap (faults_by by) one.counted;
        stream = λ is. two.stream (one.stream is);
        consumed = λ began is. two.consumed began (one.consumed began is);
        room = two.room ∙ one.room;
        rest = two.rest;
        messages = two.messages ∙ ap (λ (l : List (List ℕ)). l ++ (more ++ two.rest)) first ∙ append_assoc f.messages heard (more ++ two.rest)
            ∙ ap (λ (l : List (List ℕ)). f.messages ++ l) (sym (append_assoc heard more two.rest)) ∙ ap (λ (l : List (List ℕ)). f.messages ++ (l ++ two.rest)) (sym (heard_append one.calls two.calls));
        all = two.all;
        end_is = ending_then by one.calls two.calls h one.end_is two.end_is;
      }

  -- where no message came
  pub hears_none : (P : List FrontEntry → Type 0) (by : Option Ending) (old new : ReaderState F) (from to : IncomingState) → P [] → new ≡ record old { written = stopped_where by old.written } → to.messages ≡ from.messages → to.faults ≡ faults_by by from.faults
      → (HasHeard from → HasHeard to) → ((began : Option (List ℕ)) → Consumes began from.left from.read → Consumes began to.left to.read) → to.room ≡ from.room → IsEndingOf by [] to → HearsOn P by old new from to
  hears_none P by old new from to fits is messages counted stream consumed room end =
      subst (λ (s : ReaderState F). HearsOn P by old s from to) (sym is)
      (record {
        calls = [];
        made = record { same = record { front = refl; writer = refl; desks = refl; moment = refl }; own = sym (append-nil old.own); bytes = tt; written = refl };
        fits = fits;
        counted = counted;
        stream = stream;
        consumed = consumed;
        room = room;
        rest = [];
        messages = messages ∙ sym (append-nil from.messages);
        all = rest_none by;
        end_is = end;
      })

  -- ---- a message

  taken : (by : Option Ending) (count : ℕ) (e : FrontEntry) (message : List ℕ) (mid new : ReaderState F) → e.call ≡ call.Hear message → Follows e.reply count by mid new → IsTaken by e message
  taken by count e message mid new does follow = by_reply e.reply refl follow
    where
      whole : (r : FrontReply) → e.reply ≡ r → given_by (call.Hear message) r ≡ message ∷ [] → IsTaken by e message
      whole r is took = taken_whole by e message (ap (λ (d : FrontCall). given_by d e.reply) does ∙ ap (given_by (call.Hear message)) is ∙ took)

      wants : (r : FrontReply) → e.reply ≡ r → by ≡ Some ending.Memory → given_by (call.Hear message) r ≡ [] → IsTaken by e message
      wants r is end none = taken_not by e message end (ap (λ (d : FrontCall). given_by d e.reply) does ∙ ap (given_by (call.Hear message)) is ∙ none)

      by_reply : (r : FrontReply) → e.reply ≡ r → Follows r count by mid new → IsTaken by e message
      by_reply (reply.Done at full) is f = whole (reply.Done at full) is refl
      by_reply (reply.Stands ready asked) is f = whole (reply.Stands ready asked) is refl
      by_reply reply.Kept is f = whole reply.Kept is refl
      by_reply (reply.Wrong wrong) is f = whole (reply.Wrong wrong) is refl
      by_reply (reply.Duplicate key) is f = whole (reply.Duplicate key) is refl
      by_reply reply.Unfit is f = whole reply.Unfit is refl
      by_reply reply.Memory is f = whole reply.Memory is refl
      by_reply (reply.Messages filled left) is f = whole (reply.Messages filled left) is refl
      by_reply reply.Full is f = wants reply.Full is f.0 refl
      by_reply reply.Refused is f = wants reply.Refused is f.0 refl

  -- A message is given to be heard, and its reply followed.
  pub hears_message : (by : Option Ending) (old mid new : ReaderState F) (from to : IncomingState) (e : FrontEntry) (message : List ℕ) → GivesMessage from to message → HasHeard to → IsKept from to → e.call ≡ call.Hear message → HearsBytes e.call
      → mid ≡ having_called old e → Follows e.reply (length to.messages) by mid new → HearsOn (StartsOnce by) by old new from to
  hears_message by old mid new from to e message gives stream kept does bytes is follow =
      let up = follows_up by (length to.messages) e mid new (subst IsStart (sym does) tt) follow in
      let took = taken by (length to.messages) e message mid new does follow in
      record {
        calls = e ∷ [];
        made = calls_then by (e ∷ []) [] old mid new (calls_one old mid e is bytes) up.made;
        fits = up.starts;
        counted = kept.faults ∙ heard_faults by (length to.messages) from.faults (e ∷ []) up.end_is;
        stream = λ was. stream;
        consumed = kept_consumes from to kept;
        room = ap (λ (s : IncomingState). s.room) gives.new_is;
        rest = took.rest;
        messages = ap (λ (s : IncomingState). s.messages) gives.new_is ∙ ap (λ (l : List (List ℕ)). from.messages ++ l) took.parts;
        all = took.all;
        end_is = end_heard by (e ∷ []) to up.end_is;
      }

  -- ---- what can't be read, or is no message

  -- a read that failed, or would be too much
  pub hears_unread : (no : CarryNo) (old new : ReaderState F) (from to : IncomingState) → new ≡ old → (no ≡ carry.Failed → ReadFails from to) → (no ≡ carry.Long → (length from.read ≡ max_incoming) × (to ≡ from)) → no ≢ carry.Memory
      → ((bad : ChunkBad) → no ≢ carry.Bad bad) → HasHeard to → ((began : Option (List ℕ)) → Consumes began from.left from.read → Consumes began to.left to.read) → HearsOn (StartsOnce (Some (ending_of no))) (Some (ending_of no)) old new from to
  hears_unread carry.Failed old new from to is failed long not_memory not_bad stream since =
      let fails = failed refl in
      hears_none (StartsOnce (Some ending.Unread)) (Some ending.Unread) old new from to tt is (ap (λ (s : IncomingState). s.messages) fails.new_is) (ap (λ (s : IncomingState). s.faults) fails.new_is) (λ _. stream) since (ap (λ (s : IncomingState). s.room) fails.new_is) tt
  hears_unread carry.Long old new from to is failed long not_memory not_bad stream since =
      let (most, same) = long refl in
      hears_none (StartsOnce (Some ending.Long)) (Some ending.Long) old new from to tt is (ap (λ (s : IncomingState). s.messages) same) (ap (λ (s : IncomingState). s.faults) same) (λ _. stream) since (ap (λ (s : IncomingState). s.room) same)
      (tt, ap (λ (s : IncomingState). length s.read) same ∙ most)
  hears_unread carry.Memory old new from to is failed long not_memory not_bad stream since = absurd (not_memory refl)
  hears_unread (carry.Bad bad) old new from to is failed long not_memory not_bad stream since = absurd (not_bad bad refl)

  -- a frame that is wrong, or no memory for a message
  pub hears_wrong : (no : CarryNo) (old new : ReaderState F) (from to : IncomingState) → new ≡ old → to ≡ record from { fault = to.fault } → ((bad : ChunkBad) → no ≡ carry.Bad bad → to.fault ≡ Some bad) → no ≢ carry.Failed → no ≢ carry.Long
      → HasHeard to → HearsOn (StartsOnce (Some (ending_of no))) (Some (ending_of no)) old new from to
  hears_wrong (carry.Bad bad) old new from to is same fault not_failed not_long stream =
      hears_none (StartsOnce (Some (ending.Fault bad.at 0 (why.Chunk bad.why)))) (Some (ending.Fault bad.at 0 (why.Chunk bad.why))) old new from to tt is (ap (λ (s : IncomingState). s.messages) same) (ap (λ (s : IncomingState). s.faults) same) (λ _. stream)
      (kept_consumes from to (kept_by from to same)) (ap (λ (s : IncomingState). s.room) same) (tt, refl, fault bad refl)
  hears_wrong carry.Memory old new from to is same fault not_failed not_long stream =
      hears_none (StartsOnce (Some ending.Memory)) (Some ending.Memory) old new from to tt is (ap (λ (s : IncomingState). s.messages) same) (ap (λ (s : IncomingState). s.faults) same) (λ _. stream)
      (kept_consumes from to (kept_by from to same)) (ap (λ (s : IncomingState). s.room) same) (inl tt)
  hears_wrong carry.Failed old new from to is same fault not_failed not_long stream = absurd (not_failed refl)
  hears_wrong carry.Long old new from to is same fault not_failed not_long stream = absurd (not_long refl)

  -- all that was read is handled, and then more is read
  pub hears_handled : (by : Option Ending) (old new : ReaderState F) (from mid to : IncomingState) → mid ≡ record from { unhandled = [] } → HasHeard mid → HearsOn (StartsOnce by) by old new mid to → HearsOn (StartsOnce by) by old new from to
  hears_handled by old new from mid to same stream hears =
      hears_then AreNone (StartsOnce by) (StartsOnce by) by old old new from mid to (none_then (StartsOnce by))
      (hears_none AreNone None old old from mid refl refl (ap (λ (s : IncomingState). s.messages) same) (ap (λ (s : IncomingState). s.faults) same) (λ _. stream)
      (kept_consumes from mid (record { left = ap (λ (s : IncomingState). s.left) same; faults = ap (λ (s : IncomingState). s.faults) same; read = ap (λ (s : IncomingState). s.read) same }))
      (ap (λ (s : IncomingState). s.room) same) tt) hears

  -- ---- lines

  -- nothing was done yet
  pub reads_first : (channel : ℕ) (lines : List AtLine) (old : ReaderState F) (from : IncomingState) → HearsOn (KeepsToLines channel None lines lines) None old old from from
  reads_first channel lines old from =
      hears_goes (KeepsToLines channel None lines lines) (KeepsToLines channel None lines lines) None old old from (λ xs is. is) (goes_same (KeepsToLines channel None lines lines) (length from.messages) old (keeps_none channel lines))

  -- one thing more
  pub reads_then : (channel : ℕ) (by : Option Ending) (lines mid left : List AtLine) (a b c : ReaderState F) (f g h : IncomingState) → HearsOn (KeepsToLines channel None lines mid) None a b f g → HearsOn (KeepsToLines channel by mid left) by b c g h
      → HearsOn (KeepsToLines channel by lines left) by a c f h
  reads_then channel by lines mid left a b c f g h one two =
      hears_then (KeepsToLines channel None lines mid) (KeepsToLines channel by mid left) (KeepsToLines channel by lines left) by a b c f g h (keeps_then channel by lines mid left) one two

  -- a line's act ended it
  pub steps_acted : (channel : ℕ) (e : Ending) (lines left : List AtLine) (old new : ReaderState F) (s : IncomingState) → GoesOn (ActsAll channel (Some e) lines left) (Some e) (length s.messages) old new
      → HearsOn (KeepsToLines channel (Some e) lines left) (Some e) old new s s
  steps_acted channel e lines left old new s goes =
      hears_goes (ActsAll channel (Some e) lines left) (KeepsToLines channel (Some e) lines left) (Some e) old new s (keeps_acted channel e lines left) goes

  -- lines acted, and a job was tried again
  pub steps_tried : (channel : ℕ) (by : Option Ending) (lines left : List AtLine) (old mid new : ReaderState F) (s : IncomingState) → GoesOn (ActsAll channel None lines left) None (length s.messages) old mid
      → GoesOn (StartsOnce by) by (length s.messages) mid new → HearsOn (KeepsToLines channel by lines left) by old new s s
  steps_tried channel by lines left old mid new s acts starts =
      hears_goes (KeepsToLines channel by lines left) (KeepsToLines channel by lines left) by old new s (λ xs is. is)
      (goes_then (ActsAll channel None lines left) (StartsOnce by) (KeepsToLines channel by lines left) by (length s.messages) old mid new (keeps_started channel by lines left) acts starts)

  -- or it was read on
  pub steps_heard : (channel : ℕ) (by : Option Ending) (lines left : List AtLine) (old mid new : ReaderState F) (from to : IncomingState) → GoesOn (ActsAll channel None lines left) None (length from.messages) old mid
      → HearsOn (StartsOnce by) by mid new from to → HearsOn (KeepsToLines channel by lines left) by old new from to
  steps_heard channel by lines left old mid new from to acts hears =
      hears_then (ActsAll channel None lines left) (StartsOnce by) (KeepsToLines channel by lines left) by old mid new from from to (keeps_started channel by lines left)
      (hears_goes (ActsAll channel None lines left) (ActsAll channel None lines left) None old mid from (λ xs is. is) acts) hears
