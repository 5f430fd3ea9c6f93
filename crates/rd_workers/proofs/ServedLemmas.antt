-- What the histories of a front and of its writer come to, once all passes were joined.
use Rattle.std.proofs.Common.{◌≡◌, ◌∙◌, ◌≤◌, ◌==◌, ℕ, zero, suc, List, [], ◌∷◌, None, ap, sym, refl, subst, inl, inr, arith}
use Rattle.std.specs.Prelude.{All, if◌then◌else◌}
use Rattle.std.specs.List.{AllByRecursion}
use Rattle.std.proofs.lemmas.List.Elements.{All-head, All-tail}
use Rattle.rd_carry.specs.declared.ended.Ended.{Ended}
use Rattle.rd_front.specs.Calls.{FrontEntry}
use Rattle.rd_front.specs.declared.calls.FrontCall.{FrontCall}
use Rattle.rd_front.specs.declared.calls.FrontReply.{FrontReply}
use Rattle.rd_turn.specs.History.{Leads, calls_of}
use Rattle.rd_turn.specs.Pass.{GoesOn, IsNumbered, PassState}
use Rattle.rd_turn.specs.declared.object.Entry.{Entry}
use Rattle.rd_turn.proofs.HistoryLemmas.{GoesOn-own}
use Rattle.rd_workers.specs.Channels.{EndsByCalls, LinkerTold}
use Rattle.rd_workers.specs.Logs.{AllFound, AllWrite, NoneAsks, WriterLog, Wrote, messages_for, no_halves, reader_calls, writer_log}
use Rattle.rd_workers.specs.Passes.{ReaderState, WriterState}
use Rattle.rd_workers.specs.Reading.{EndsCalls}
use Rattle.rd_workers.specs.Served.{HasCalled, IsRead, IsWritten, ServesEntries}
use Rattle.rd_workers.specs.Writing.{PutsTo, WriterStep}
use Rattle.rd_workers.specs.declared.due.AtLine.{AtLine}
use Rattle.rd_workers.specs.declared.writer.WriterCall.{WriterCall}
use Rattle.rd_workers.specs.declared.writer.WriterReply.{WriterReply}
use Rattle.rd_workers.proofs.HistoryLemmas.{OthersWrite, fits_first, history_fits, own_asks, written_are}
use Rattle.rd_workers.proofs.LogLemmas.{AllAsk, whole_calls, whole_found, whole_messages}

-- passes of a front, and of its writer
abbrev pub FrontPass : Type 0 → Type 0
FrontPass F = PassState F FrontCall FrontReply

abbrev pub WriterPass : (F K : Type 0) → Type 0
WriterPass F K = PassState (WriterState F) (WriterCall K) (WriterReply K)

module _ {K : Type 0} where
  others_step : (e : Entry (WriterCall K) (WriterReply K)) (entries : List (Entry (WriterCall K) (WriterReply K))) (n : ℕ) → e.by ≡ n → n ≤ 1 → AllWrite (calls_of 1 (e ∷ entries)) → (AllWrite (calls_of 1 entries) → OthersWrite entries) → OthersWrite (e ∷ entries)
  others_step e entries zero is few all later =
      (inl is, later (subst (λ (k : ℕ). AllWrite (if k == 1 then e ∷ calls_of 1 entries else calls_of 1 entries)) is all))
  others_step e entries (suc zero) is few all later =
      let both : AllWrite (e ∷ calls_of 1 entries) = subst (λ (k : ℕ). AllWrite (if k == 1 then e ∷ calls_of 1 entries else calls_of 1 entries)) is all in
      (inr (λ none. omega (arith, is, none), both.0), later both.1)
  others_step e entries (suc (suc n)) is few all later = absurd (omega (arith, few))

  others_write : (entries : List (Entry (WriterCall K) (WriterReply K))) → All (λ (e : Entry (WriterCall K) (WriterReply K)). e.by ≤ 1) entries → AllWrite (calls_of 1 entries) → OthersWrite entries
  others_write [] few all = tt
  others_write (e ∷ entries) few all =
      others_step e entries e.by refl (All-head (λ (x : Entry (WriterCall K) (WriterReply K)). x.by ≤ 1) e entries few) all
      (λ others. others_write entries (All-tail (λ (x : Entry (WriterCall K) (WriterReply K)). x.by ≤ 1) e entries few) others)

-- what was handed out is all that these say of calls
written_same : (xs ys : List FrontEntry) (ds : List Wrote) → ((c : ℕ) → messages_for c xs ≡ messages_for c ys) → ((c : ℕ) → AllFound c xs → AllFound c ys) → AllByRecursion (IsWritten xs) ds → AllByRecursion (IsWritten ys) ds
written_same xs ys [] same found all = tt
written_same xs ys (d ∷ ds) same found all = (
  record {
    puts = subst (λ (ms : List (List ℕ)). PutsTo d.starved ms d.began d.ended) (same d.channel) (all.0).puts;
    found = λ fed. found d.channel ((all.0).found fed);
    flushed = (all.0).flushed;
    stopped = (all.0).stopped;
  },
  written_same xs ys ds same found all.1,
)

-- A reader's channels were served, and then the session ended.
pub read_whole : {F K : Type 0} (lines : List AtLine) (channels : ℕ) (by : Ended) (here over : ReaderState F) (front : FrontPass F) (writer : WriterPass F K) (old new : LinkerTold) → EndsByCalls lines channels by here.own (here.written).done old new
    → EndsCalls here over → calls_of front.number front.seen ≡ over.own → writer_log (calls_of writer.number writer.seen) ≡ over.written → NoneAsks (calls_of front.number front.seen) → IsRead lines channels by front writer old new
read_whole lines channels by here over front writer old new ends ended own written none = record {
  none = none;
  called = record {
    calls = here.own;
    last = (ended.called).call;
    ends = subst (λ (w : WriterLog). EndsByCalls lines channels by here.own w.done old new) (sym (written ∙ ended.written)) ends;
    all_are = own ∙ (ended.called).own;
    over = (ended.called).is_so;
  };
}

module _ {F K : Type 0} where
  -- The reader's passes of the front and of the writer at the end, the writer's pass of the front and the other thread's pass of the writer, and the passes to which these were joined.
  pub record AreJoined (reader writer front : PassState F FrontCall FrontReply) (main other whole : PassState (WriterState F) (WriterCall K) (WriterReply K)) (first last : WriterState F) : Type 0 where
    pub reader_number : reader.number ≡ 0
    pub writer_number : writer.number ≡ 1
    pub front_number : front.number ≡ 0
    pub front_made : front.made ≡ 1
    pub front_numbers : IsNumbered front
    pub front_goes : GoesOn reader front
    pub front_other : calls_of writer.number front.seen ≡ calls_of writer.number writer.seen
    pub own : calls_of writer.number writer.seen ≡ last.own
    pub main_number : main.number ≡ 0
    pub other_number : other.number ≡ 1
    pub whole_number : whole.number ≡ 0
    pub whole_made : whole.made ≡ 1
    pub whole_numbers : IsNumbered whole
    pub whole_goes : GoesOn main whole
    pub whole_other : calls_of other.number whole.seen ≡ calls_of other.number other.seen
    pub writes : AllWrite (calls_of other.number other.seen)
    pub none : first.own ≡ []
    pub off : first.half ≡ None
    pub leads : Leads WriterStep first whole.seen last

  module _ (reader writer front : PassState F FrontCall FrontReply) (main other whole : PassState (WriterState F) (WriterCall K) (WriterReply K)) (first last : WriterState F) (j : AreJoined reader writer front main other whole first last) where
    main_own : calls_of 0 whole.seen ≡ calls_of main.number main.seen
    main_own = subst (λ (n : ℕ). calls_of n whole.seen ≡ calls_of main.number main.seen) j.main_number (GoesOn-own main whole j.whole_goes)

    reader_own : calls_of 0 front.seen ≡ calls_of reader.number reader.seen
    reader_own = subst (λ (n : ℕ). calls_of n front.seen ≡ calls_of reader.number reader.seen) j.reader_number (GoesOn-own reader front j.front_goes)

    other_own : AllWrite (calls_of 1 whole.seen)
    other_own = subst (λ (n : ℕ). AllWrite (calls_of n whole.seen)) j.other_number (subst AllWrite (sym j.whole_other) j.writes)

    writer_own : calls_of 1 front.seen ≡ last.own
    writer_own = subst (λ (n : ℕ). calls_of n front.seen ≡ last.own) j.writer_number (j.front_other ∙ j.own)

    few_whole : All (λ (e : Entry (WriterCall K) (WriterReply K)). e.by ≤ 1) whole.seen
    few_whole = subst (λ (n : ℕ). All (λ (e : Entry (WriterCall K) (WriterReply K)). e.by ≤ n) whole.seen) j.whole_made (j.whole_numbers j.whole_number)

    few_front : All (λ (e : FrontEntry). e.by ≤ 1) front.seen
    few_front = subst (λ (n : ℕ). All (λ (e : FrontEntry). e.by ≤ n) front.seen) j.front_made (j.front_numbers j.front_number)

    pub is_served : (lines : List AtLine) (channels : ℕ) (by : Ended) (old new : LinkerTold) → IsRead lines channels by reader main old new → ServesEntries lines channels by front.seen old new
    is_served lines channels by old new read =
        let fits = history_fits first last no_halves whole.seen (fits_first first j.none j.off) j.leads (others_write whole.seen few_whole other_own) in
        let all_ask : AllAsk (calls_of 1 front.seen) = subst AllAsk (sym writer_own) (own_asks last _ fits) in
        let none : NoneAsks (calls_of 0 front.seen) = subst NoneAsks (sym reader_own) read.none in
        let own : reader_calls front.seen ≡ calls_of reader.number reader.seen = whole_calls front.seen few_front none all_ask ∙ reader_own in
        let same : (c : ℕ) → messages_for c last.own ≡ messages_for c front.seen = λ c. ap (messages_for c) (sym writer_own) ∙ sym (whole_messages c front.seen few_front none) in
        let found : (c : ℕ) → AllFound c last.own → AllFound c front.seen = λ c all. whole_found c front.seen few_front none (subst (AllFound c) (sym writer_own) all) in
        let done : List Wrote = (writer_log (calls_of main.number main.seen)).done in
        record {
          done = done;
          called = subst (λ (l : List FrontEntry). HasCalled lines channels by l done old new) (sym own) read.called;
          written = written_same last.own front.seen done same found
              (subst (λ (es : List (Entry (WriterCall K) (WriterReply K))). AllByRecursion (IsWritten last.own) ((writer_log es).done)) main_own (written_are last _ fits));
        }
