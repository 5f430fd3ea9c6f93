-- What logs of calls tell, as calls are added, and of a history in which another's calls stand between.
use Rattle.std.proofs.Common.{◌≡◌, ◌∙◌, ◌≤◌, ◌==◌, ◌⊎◌, ℕ, zero, suc, List, [], ◌∷◌, ◌++◌, Option, Some, None, Bool, true, false, ap, sym, refl, subst, inl, inr, arith}
use Rattle.std.specs.Prelude.{All, if◌then◌else◌}
use Rattle.std.specs.List.{AllByRecursion}
use Rattle.std.proofs.lemmas.List.Elements.{All-head, All-tail}
use Rattle.rd_drive.proofs.AllLemmas.{all_append}
use Rattle.rd_front.specs.Calls.{FrontEntry}
use Rattle.rd_front.specs.declared.calls.FrontCall.{FrontCall}
use Rattle.rd_front.specs.declared.calls.FrontCall.TheVariants as call
use Rattle.rd_front.specs.declared.calls.FrontReply.{FrontReply}
use Rattle.rd_front.specs.declared.calls.FrontReply.TheVariants as reply
use Rattle.rd_carry.specs.Outgoing.{OutgoingState}
use Rattle.rd_turn.specs.History.{IsLegal, Leads, calls_of, entry}
use Rattle.rd_turn.specs.Pass.{Called, IsSamePass, PassState, TurnId}
use Rattle.rd_turn.specs.declared.object.Entry.{Entry}
use Rattle.rd_workers.specs.Logs.{AllFound, AllWrite, IsWriteCall, NoneAsks, RunsOutFor, WriterLog, asks_any, begun_on, messages_by, messages_for, no_halves, reader_calls, writer_log, writes_by, writes_on}
use Rattle.rd_workers.specs.Passes.{ReaderState, WriterState, caller_id}
use Rattle.rd_workers.specs.Reading.{AsksToBegin, Begins, BeginsChannel, BeginsNone, CallsOnce, EndsCalls, EndsChannel, written_back}
use Rattle.rd_workers.specs.declared.writer.WriterCall.{WriterCall}
use Rattle.rd_workers.specs.declared.writer.WriterCall.TheVariants as write
use Rattle.rd_workers.specs.declared.writer.WriterReply.{WriterReply}
use Rattle.rd_workers.specs.declared.writer.WriterReply.TheVariants as wrote

-- ---- one call more

pub none_one : (entries later : List FrontEntry) (number : ℕ) (does : FrontCall) (back : FrontReply) → later ≡ entries ++ entry number does back ∷ [] → NoneAsks entries → asks_any does ≡ false → NoneAsks later
none_one entries later number does back is none not = subst NoneAsks (sym is) (all_append (λ (e : FrontEntry). asks_any e.call ≡ false) entries (entry number does back ∷ []) none (not, tt))

module _ {K : Type 0} where
  writes_append : (log : WriterLog) (xs ys : List (Entry (WriterCall K) (WriterReply K))) → writes_on log (xs ++ ys) ≡ writes_on (writes_on log xs) ys
  writes_append log [] ys = refl
  writes_append log (x ∷ xs) ys = writes_append (writes_by log x.call x.reply) xs ys

  pub writes_one : (entries later : List (Entry (WriterCall K) (WriterReply K))) (number : ℕ) (does : WriterCall K) (back : WriterReply K) → later ≡ entries ++ entry number does back ∷ []
      → writer_log later ≡ writes_by (writer_log entries) does back
  writes_one entries later number does back is = ap writer_log is ∙ writes_append no_halves entries (entry number does back ∷ [])

  pub write_one : (entries later : List (Entry (WriterCall K) (WriterReply K))) (number : ℕ) (does : WriterCall K) (back : WriterReply K) → later ≡ entries ++ entry number does back ∷ [] → AllWrite entries → IsWriteCall does → AllWrite later
  write_one entries later number does back is all also = subst AllWrite (sym is) (all_append (λ (e : Entry (WriterCall K) (WriterReply K)). IsWriteCall e.call) entries (entry number does back ∷ []) all (also, tt))

  pub write_none : (entries : List (Entry (WriterCall K) (WriterReply K))) → entries ≡ [] → AllWrite entries
  write_none entries none = subst AllWrite (sym none) tt

-- ---- a history of two passes

-- a call that asks for no messages is handed none
unasked_none : (c : ℕ) (does : FrontCall) (back : FrontReply) → asks_any does ≡ false → messages_by c does back ≡ []
unasked_none c (call.Next channel place room) back is = absurd (cc is)
unasked_none c (call.Begin channel) back is = refl
unasked_none c (call.Hear message) back is = refl
unasked_none c call.Retry back is = refl
unasked_none c (call.Remove device) back is = refl
unasked_none c (call.Add device) back is = refl
unasked_none c call.Look back is = refl
unasked_none c call.EndChannel back is = refl
unasked_none c call.EndSession back is = refl

-- each of these calls asks for messages
abbrev pub AllAsk : List FrontEntry → Type 0
AllAsk entries = AllByRecursion (λ (e : FrontEntry). asks_any e.call ≡ true) entries

-- the first call of a history is of one of two passes, and stands first in what that pass made
either : (n : ℕ) → n ≤ 1 → (n ≡ 0) ⊎ (n ≡ 1)
either zero few = inl refl
either (suc zero) few = inr refl
either (suc (suc n)) few = absurd (omega (arith, few))

calls_step : (e : FrontEntry) (entries : List FrontEntry) → NoneAsks (calls_of 0 (e ∷ entries)) → AllAsk (calls_of 1 (e ∷ entries)) → (e.by ≡ 0) ⊎ (e.by ≡ 1)
    → (NoneAsks (calls_of 0 entries) → AllAsk (calls_of 1 entries) → reader_calls entries ≡ calls_of 0 entries) → reader_calls (e ∷ entries) ≡ calls_of 0 (e ∷ entries)
calls_step e entries none all (inl is) later =
    let nones : NoneAsks (e ∷ calls_of 0 entries) = subst (λ (n : ℕ). NoneAsks (if n == 0 then e ∷ calls_of 0 entries else calls_of 0 entries)) is none in
    let others : AllAsk (calls_of 1 entries) = subst (λ (n : ℕ). AllAsk (if n == 1 then e ∷ calls_of 1 entries else calls_of 1 entries)) is all in
    ap (λ (b : Bool). if b then reader_calls entries else e ∷ reader_calls entries) nones.0 ∙ ap (λ (l : List FrontEntry). e ∷ l) (later nones.1 others)
    ∙ ap (λ (n : ℕ). if n == 0 then e ∷ calls_of 0 entries else calls_of 0 entries) (sym is)
calls_step e entries none all (inr is) later =
    let nones : NoneAsks (calls_of 0 entries) = subst (λ (n : ℕ). NoneAsks (if n == 0 then e ∷ calls_of 0 entries else calls_of 0 entries)) is none in
    let others : AllAsk (e ∷ calls_of 1 entries) = subst (λ (n : ℕ). AllAsk (if n == 1 then e ∷ calls_of 1 entries else calls_of 1 entries)) is all in
    ap (λ (b : Bool). if b then reader_calls entries else e ∷ reader_calls entries) others.0 ∙ later nones others.1
    ∙ ap (λ (n : ℕ). if n == 0 then e ∷ calls_of 0 entries else calls_of 0 entries) (sym is)

-- The calls of a history that ask for no messages are those of pass 0, where that asks for none and pass 1 for nothing else.
pub whole_calls : (entries : List FrontEntry) → All (λ (e : FrontEntry). e.by ≤ 1) entries → NoneAsks (calls_of 0 entries) → AllAsk (calls_of 1 entries) → reader_calls entries ≡ calls_of 0 entries
whole_calls [] few none all = refl
whole_calls (e ∷ entries) few none all =
    calls_step e entries none all (either e.by (All-head (λ (x : FrontEntry). x.by ≤ 1) e entries few)) (λ nones others. whole_calls entries (All-tail (λ (x : FrontEntry). x.by ≤ 1) e entries few) nones others)

messages_step : (c : ℕ) (e : FrontEntry) (entries : List FrontEntry) → NoneAsks (calls_of 0 (e ∷ entries)) → (e.by ≡ 0) ⊎ (e.by ≡ 1) → (NoneAsks (calls_of 0 entries) → messages_for c entries ≡ messages_for c (calls_of 1 entries))
    → messages_for c (e ∷ entries) ≡ messages_for c (calls_of 1 (e ∷ entries))
messages_step c e entries none (inl is) later =
    let others : NoneAsks (e ∷ calls_of 0 entries) = subst (λ (n : ℕ). NoneAsks (if n == 0 then e ∷ calls_of 0 entries else calls_of 0 entries)) is none in
    ap (λ (l : List (List ℕ)). l ++ messages_for c entries) (unasked_none c e.call e.reply others.0) ∙ later others.1 ∙ ap (λ (n : ℕ). messages_for c (if n == 1 then e ∷ calls_of 1 entries else calls_of 1 entries)) (sym is)
messages_step c e entries none (inr is) later =
    let others : NoneAsks (calls_of 0 entries) = subst (λ (n : ℕ). NoneAsks (if n == 0 then e ∷ calls_of 0 entries else calls_of 0 entries)) is none in
    ap (λ (l : List (List ℕ)). messages_by c e.call e.reply ++ l) (later others) ∙ ap (λ (n : ℕ). messages_for c (if n == 1 then e ∷ calls_of 1 entries else calls_of 1 entries)) (sym is)

-- What a history hands out for a channel is what pass 1 is handed, where pass 0 asks for none.
pub whole_messages : (c : ℕ) (entries : List FrontEntry) → All (λ (e : FrontEntry). e.by ≤ 1) entries → NoneAsks (calls_of 0 entries) → messages_for c entries ≡ messages_for c (calls_of 1 entries)
whole_messages c [] few none = refl
whole_messages c (e ∷ entries) few none =
    messages_step c e entries none (either e.by (All-head (λ (x : FrontEntry). x.by ≤ 1) e entries few)) (λ others. whole_messages c entries (All-tail (λ (x : FrontEntry). x.by ≤ 1) e entries few) others)

-- and memory is wanting for a channel by the calls of pass 1 alone
unasked_found : (c : ℕ) (does : FrontCall) (back : FrontReply) → asks_any does ≡ false → ¬ (RunsOutFor c does back)
unasked_found c (call.Next channel place room) back is = absurd (cc is)
unasked_found c (call.Begin channel) back is = λ none. none
unasked_found c (call.Hear message) back is = λ none. none
unasked_found c call.Retry back is = λ none. none
unasked_found c (call.Remove device) back is = λ none. none
unasked_found c (call.Add device) back is = λ none. none
unasked_found c call.Look back is = λ none. none
unasked_found c call.EndChannel back is = λ none. none
unasked_found c call.EndSession back is = λ none. none

found_step : (c : ℕ) (e : FrontEntry) (entries : List FrontEntry) → NoneAsks (calls_of 0 (e ∷ entries)) → AllFound c (calls_of 1 (e ∷ entries)) → (e.by ≡ 0) ⊎ (e.by ≡ 1) → (NoneAsks (calls_of 0 entries) → AllFound c (calls_of 1 entries) → AllFound c entries)
    → AllFound c (e ∷ entries)
found_step c e entries none all (inl is) later =
    let nones : NoneAsks (e ∷ calls_of 0 entries) = subst (λ (n : ℕ). NoneAsks (if n == 0 then e ∷ calls_of 0 entries else calls_of 0 entries)) is none in
    let others : AllFound c (calls_of 1 entries) = subst (λ (n : ℕ). AllFound c (if n == 1 then e ∷ calls_of 1 entries else calls_of 1 entries)) is all in
    (unasked_found c e.call e.reply nones.0, later nones.1 others)
found_step c e entries none all (inr is) later =
    let nones : NoneAsks (calls_of 0 entries) = subst (λ (n : ℕ). NoneAsks (if n == 0 then e ∷ calls_of 0 entries else calls_of 0 entries)) is none in
    let others : AllFound c (e ∷ calls_of 1 entries) = subst (λ (n : ℕ). AllFound c (if n == 1 then e ∷ calls_of 1 entries else calls_of 1 entries)) is all in
    (others.0, later nones others.1)

pub whole_found : (c : ℕ) (entries : List FrontEntry) → All (λ (e : FrontEntry). e.by ≤ 1) entries → NoneAsks (calls_of 0 entries) → AllFound c (calls_of 1 entries) → AllFound c entries
whole_found c [] few none all = tt
whole_found c (e ∷ entries) few none all =
    found_step c e entries none all (either e.by (All-head (λ (x : FrontEntry). x.by ≤ 1) e entries few)) (λ nones others. whole_found c entries (All-tail (λ (x : FrontEntry). x.by ≤ 1) e entries few) nones others)

-- ---- a caller's call

module _ {O C R : Type 0} where
  pub caller_same : (t t' : TurnId O) (p q : PassState O C R) → t' ≡ t → IsSamePass p q → caller_id t' q ≡ caller_id t p
  caller_same t t' p q turn same = λ i. record { turn = turn i; number = same.0 i; made = same.1 i; out = same.2 i }

  pub no_calls_of : (p : PassState O C R) → p.seen ≡ [] → calls_of p.number p.seen ≡ []
  no_calls_of p none = ap (calls_of p.number) none

  -- the last call of a legal history is one that the object makes
  pub last_step : (steps : O → C → R → O → Type 0) (a b : O) (xs : List (Entry C R)) (e : Entry C R) → Leads steps a (xs ++ e ∷ []) b → (x : O) × (y : O) × steps x e.call e.reply y
  last_step steps a b [] e leads = (a, leads.0, leads.1)
  last_step steps a b (x ∷ xs) e leads = last_step steps leads.0 b xs e leads.2

  pub called_step : (steps : O → C → R → O → Type 0) (a : O) (p q : PassState O C R) (does : C) (back : R) → Called p does back q → IsLegal steps a q.seen → (x : O) × (y : O) × steps x does back y
  called_step steps a p q does back called legal =
      last_step steps a legal.0 (p.seen ++ called.0) (entry p.number does back) (subst (λ (l : List (Entry C R)). Leads steps a l legal.0) called.1 legal.1)

module _ {F : Type 0} where
  pub own_called : (p q : PassState F FrontCall FrontReply) (does : FrontCall) (back : FrontReply) → IsSamePass p q → calls_of p.number q.seen ≡ calls_of p.number p.seen ++ entry p.number does back ∷ []
      → calls_of q.number q.seen ≡ calls_of p.number p.seen ++ entry p.number does back ∷ []
  own_called p q does back same own = ap (λ (n : ℕ). calls_of n q.seen) same.0 ∙ own

  pub none_called : (p q : PassState F FrontCall FrontReply) (does : FrontCall) (back : FrontReply) → IsSamePass p q → calls_of p.number q.seen ≡ calls_of p.number p.seen ++ entry p.number does back ∷ []
      → NoneAsks (calls_of p.number p.seen) → asks_any does ≡ false → NoneAsks (calls_of q.number q.seen)
  none_called p q does back same own none not = subst (λ (n : ℕ). NoneAsks (calls_of n q.seen)) (sym same.0) (none_one (calls_of p.number p.seen) (calls_of p.number q.seen) p.number does back own none not)

  -- a reader once the front was called
  pub reader_called : (old here new : ReaderState F) (does : FrontCall) (back : FrontReply) → here ≡ old → new.front ≡ here.front → new.own ≡ here.own ++ entry (here.front).number does back ∷ [] → new.writer ≡ here.writer
      → new.written ≡ here.written → new.desks ≡ here.desks → new.moment ≡ here.moment → new ≡ record old { own = old.own ++ entry (old.front).number does back ∷ [] }
  reader_called old here new does back is front own writer written desks moment =
      (λ i. record { front = front i; own = own i; writer = writer i; written = written i; desks = desks i; moment = moment i })
      ∙ ap (λ (s : ReaderState F). record s { own = s.own ++ entry (s.front).number does back ∷ [] }) is

  module _ {K : Type 0} where
    pub writes_called : (p q : PassState (WriterState F) (WriterCall K) (WriterReply K)) (does : WriterCall K) (back : WriterReply K) → IsSamePass p q
        → calls_of p.number q.seen ≡ calls_of p.number p.seen ++ entry p.number does back ∷ [] → writer_log (calls_of q.number q.seen) ≡ writes_by (writer_log (calls_of p.number p.seen)) does back
    writes_called p q does back same own = ap (λ (n : ℕ). writer_log (calls_of n q.seen)) same.0 ∙ writes_one (calls_of p.number p.seen) (calls_of p.number q.seen) p.number does back own

    -- and once the writer was
    pub reader_wrote : (old here new : ReaderState F) (does : WriterCall K) (back : WriterReply K) → here ≡ old → new.front ≡ here.front → new.own ≡ here.own → new.writer ≡ here.writer → new.written ≡ writes_by here.written does back
        → new.desks ≡ here.desks → new.moment ≡ here.moment → new ≡ record old { written = writes_by old.written does back }
    reader_wrote old here new does back is front own writer written desks moment =
        (λ i. record { front = front i; own = own i; writer = writer i; written = written i; desks = desks i; moment = moment i }) ∙ ap (λ (s : ReaderState F). record s { written = writes_by s.written does back }) is

-- ---- where a channel begins and ends

module _ {F : Type 0} where
  -- one call of the front was made, and what else follows leaves what the reader calls by
  once_called : (IsSo : FrontEntry → Type 0) (old mid new : ReaderState F) (e : FrontEntry) → IsSo e → mid ≡ record old { own = old.own ++ e ∷ [] } → new ≡ record mid { written = new.written } → CallsOnce IsSo old new
  once_called IsSo old mid new e is called same =
      let whole : new ≡ record old { own = old.own ++ e ∷ []; written = new.written } = same ∙ ap (λ (s : ReaderState F). record s { written = new.written }) called in
      record {
        same = record { front = ap (λ (s : ReaderState F). s.front) whole; writer = ap (λ (s : ReaderState F). s.writer) whole; desks = ap (λ (s : ReaderState F). s.desks) whole; moment = ap (λ (s : ReaderState F). s.moment) whole };
        call = e;
        is_so = is;
        own = ap (λ (s : ReaderState F). s.own) whole;
      }

  -- the session ends
  pub ends_calls : (old new : ReaderState F) (e : FrontEntry) → e.call ≡ call.EndSession → new ≡ record old { own = old.own ++ e ∷ [] } → EndsCalls old new
  ends_calls old new e is called = record {
    called = once_called (λ x. x.call ≡ call.EndSession) old new new e is called refl;
    written = ap (λ (s : ReaderState F). s.written) called;
  }

  -- the front began no channel
  pub begins_no_call : (channel : ℕ) (old new : ReaderState F) (e : FrontEntry) → e.call ≡ call.Begin channel → new ≡ record old { own = old.own ++ e ∷ [] } → BeginsNone channel old new
  begins_no_call channel old new e is called = record { called = once_called (AsksToBegin channel) old new new e is called refl; written = ap (λ (s : ReaderState F). s.written) called }

  module _ (K : Type 0) where
    pub begins_channel : (channel : ℕ) (old mid new : ReaderState F) (e : FrontEntry) (output : OutgoingState) (at : Option ℕ) (full going : Bool) → e.call ≡ call.Begin channel → e.reply ≡ reply.Done at full → mid ≡ record old { own = old.own ++ e ∷ [] }
        → new ≡ record mid { written = writes_by {K = K} mid.written (write.Begin channel output) (wrote.Done going) } → BeginsChannel channel output old new
    begins_channel channel old mid new e output at full going is done called began = record {
      called = once_called (Begins channel) old mid new e (is, (at, full, done)) called (began ∙ ap (λ (w : WriterLog). record mid { written = w }) (sym (ap (λ (s : ReaderState F). s.written) began)));
      written = ap (λ (s : ReaderState F). s.written) began ∙ ap (λ (s : ReaderState F). begun_on s.written channel output) called;
    }

    -- nor did the writer
    pub begins_no_half : (channel : ℕ) (old mid new : ReaderState F) (e : FrontEntry) (output half : OutgoingState) → e.call ≡ call.Begin channel → mid ≡ record old { own = old.own ++ e ∷ [] }
        → new ≡ record mid { written = writes_by {K = K} mid.written (write.Begin channel output) (wrote.Refused half) } → BeginsNone channel old new
    begins_no_half channel old mid new e output half is called refused = record {
      called = once_called (AsksToBegin channel) old mid new e is called (refused ∙ ap (λ (w : WriterLog). record mid { written = w }) (sym (ap (λ (s : ReaderState F). s.written) refused)));
      written = ap (λ (s : ReaderState F). s.written) refused ∙ ap (λ (s : ReaderState F). s.written) called;
    }

-- the half comes back
module _ (K : Type 0) where
  back_is : (log : WriterLog) (output : Option OutgoingState) (starved : Bool) → writes_by {K = K} log write.Finish (wrote.Finished output starved) ≡ written_back output starved log
  back_is log None starved = refl
  back_is log (Some o) starved = refl

  pub ends_channel : {F : Type 0} (old mid new : ReaderState F) (e : FrontEntry) (output : Option OutgoingState) (starved : Bool) → e.call ≡ call.EndChannel → mid ≡ record old { own = old.own ++ e ∷ [] }
      → new ≡ record mid { written = writes_by {K = K} mid.written write.Finish (wrote.Finished output starved) } → EndsChannel output starved old new
  ends_channel {F} old mid new e output starved is ended finished =
      subst (EndsChannel output starved old) (sym (finished ∙ ap (λ (s : ReaderState F). record s { written = writes_by {K = K} s.written write.Finish (wrote.Finished output starved) }) ended))
      (record { called = record { same = record { front = refl; writer = refl; desks = refl; moment = refl }; call = e; is_so = is; own = refl }; written = back_is old.written output starved })
