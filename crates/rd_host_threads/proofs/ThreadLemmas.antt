-- What the history of a host's front comes to, put together.
use Rattle.std.proofs.Common.{◌≡◌, ◌≢◌, ◌∙◌, ◌+◌, ◌<◌, ◌≤◌, ◌⊎◌, ℕ, List, [], ◌∷◌, ◌++◌, Option, Some, inl, inr, ap, sym, subst, refl, append-nil, arith}
use Rattle.std.proofs.lemmas.Bool.{cases_eq}
use Rattle.std.specs.List.{AllByRecursion}
use Rattle.rd_carry.specs.Outgoing.{HasWritten}
use Rattle.rd_carry.specs.declared.ended.Ended.{Ended}
use Rattle.rd_carry.specs.declared.ended.Ended.TheVariants as ended
use Rattle.rd_host_channel.proofs.GivenLemmas.{came_heard}
use Rattle.rd_host_channel.specs.Calls.{HostEntry, HostPass, messages_for, messages_heard}
use Rattle.rd_host_front.specs.State.{HostFrontState, PassOfTable, TurnOfTable}
use Rattle.rd_host_front.specs.declared.calls.HostFrontCall.TheVariants as call
use Rattle.rd_host_player.specs.Plan.{awaited_devices}
use Rattle.rd_host_player.specs.Play.{play_state}
use Rattle.rd_host_session.specs.Channels.{LinkedTold, stands}
use Rattle.rd_host_session.specs.Hosted.{PlaysOver, issuers_of}
use Rattle.rd_issuer.specs.declared.issuer.Issuer.{Issuer}
use Rattle.rd_script.specs.declared.line.NumberedLine.{NumberedLine}
use Rattle.rd_turn.specs.History.{calls_of, entry}
use Rattle.rd_turn.specs.Pass.{after_split, first_pass}
use Rattle.rd_host_threads.specs.Calls.{AreHostsCalls, IsHostsCall, reader_of, writer_of}
use Rattle.rd_host_threads.specs.Channels.{EndsAfter, HostChannel, IsServedBy}
use Rattle.rd_host_threads.specs.Threads.{AreThreadsCalls, front_calls, played_calls, played_stops}
use Rattle.rd_host_threads.proofs.ChannelLemmas.{HasChannel}
use Rattle.rd_host_threads.proofs.EntryLemmas.{IsFit, all_by_passes, all_first, all_fit, all_listed, all_of_pass, asks_so, each_pass, fit_gives, handed_nowhere, handed_to_own, heard_append, heard_by_own, heard_nowhere, own_numbers, reads_so}
use Rattle.rd_host_threads.proofs.PassLemmas.{all_map, all_more}
use Rattle.rd_host_threads.proofs.SessionLemmas.{session_goes}

module _ {F W : Type 0} (p : HostPass F W) where
  -- ---- the calls of a channel's passes

  reader_fits : (c : HostChannel W) → HasChannel p c → AllByRecursion IsFit p.seen → AllByRecursion IsFit c.reads
  reader_fits c has fit =
      all_first IsFit c.reads (entry (reader_of c.channel) (call.DropChannel c.channel) c.dropped ∷ [])
      (subst (AllByRecursion IsFit) (has.reader).are (all_of_pass IsFit (reader_of c.channel) p.seen fit))

  reader_hosts : (c : HostChannel W) → HasChannel p c → AllByRecursion IsFit p.seen → AreHostsCalls (calls_of (reader_of c.channel) p.seen)
  reader_hosts c has fit =
      let k = reader_of c.channel in
      let drop = entry k (call.DropChannel c.channel) c.dropped in
      let own : AllByRecursion (λ (e : HostEntry W). e.by ≡ k) c.reads =
      all_first (λ (e : HostEntry W). e.by ≡ k) c.reads (drop ∷ []) (subst (AllByRecursion (λ (e : HostEntry W). e.by ≡ k)) (has.reader).are (own_numbers k p.seen)) in
      let served = has.served in
      let reads : AreHostsCalls c.reads = reads_so c.channel c.reads (c.incoming).messages c.rest c.by c.incoming has.some served.found served.are_given served.bytes served.end_is own (reader_fits c has fit) in
      subst AreHostsCalls (sym (has.reader).are) (all_more IsHostsCall c.reads (drop ∷ []) reads ((has.some, refl), tt))

  writer_hosts : (c : HostChannel W) → HasChannel p c → AllByRecursion IsFit p.seen → AreHostsCalls (calls_of (writer_of c.channel) p.seen)
  writer_hosts c has fit =
      let k = writer_of c.channel in
      let own : AllByRecursion (λ (e : HostEntry W). e.by ≡ k) c.asks = subst (AllByRecursion (λ (e : HostEntry W). e.by ≡ k)) (has.writer).are (own_numbers k p.seen) in
      let fits : AllByRecursion IsFit c.asks = subst (AllByRecursion IsFit) (has.writer).are (all_of_pass IsFit k p.seen fit) in
      subst AreHostsCalls (sym (has.writer).are) (asks_so c.channel c.asks has.some (has.served).ask own fits)

  -- ---- a channel by all calls

  served_by : (c : HostChannel W) → HasChannel p c → AllByRecursion IsFit p.seen → AreHostsCalls p.seen → IsServedBy p.seen c
  served_by c has fit hosts =
      let served = has.served in
      let drop = entry (reader_of c.channel) (call.DropChannel c.channel) c.dropped in
      let heard : messages_heard c.channel p.seen ≡ messages_heard c.channel c.reads =
      heard_by_own c.channel p.seen hosts ∙ ap (messages_heard c.channel) (has.reader).are ∙ heard_append c.channel c.reads (drop ∷ []) ∙ append-nil (messages_heard c.channel c.reads) in
      let handed : messages_for c.channel p.seen ≡ messages_for c.channel c.asks = handed_to_own c.channel p.seen hosts ∙ ap (messages_for c.channel) (has.writer).are in
      record {
        served = served;
        reader = (has.reader).are;
        writer = (has.writer).are;
        heard = heard;
        handed = handed;
        messages = came_heard c.channel c.reads (c.incoming).messages c.rest served.are_given (fit_gives c.reads (reader_fits c has fit)) ∙ ap (λ (l : List (List ℕ)). l ++ c.rest) (sym heard);
        written = subst (λ (l : List (List ℕ)). HasWritten c.held l c.outgoing) (sym handed) served.wrote;
      }

-- ---- the session

pub threads_so : {W : Type 0} (turn : TurnOfTable) (lines : List NumberedLine) (other : Option Ended) (issuers : List Issuer) (first last : PassOfTable) (old new : LinkedTold) → other ≢ Some ended.Memory
    → (plays : PlaysOver W turn lines other issuers first last old new)
    → AreThreadsCalls (front_calls turn lines other issuers first last old new plays) (played_calls turn lines other issuers first last old new plays)
    (played_stops turn lines other issuers first last old new plays) other old new
threads_so {W} turn lines other issuers first last old new found plays =
    let start = stands (play_state HostFrontState W lines (issuers_of lines) (after_split first) plays.at (first_pass plays.at)) old in
    let ends = plays.ends in
    let front = (ends.play).front in
    let all = session_goes turn (awaited_devices lines) other start ends plays.serves refl refl found in
    let goes = all.goes in
    let n = all.n in
    let count = all.count in
    let fit = all_fit (plays.at).opening front.seen plays.closed plays.leads in
    let listed = all_listed (λ (e : HostEntry W). e.by ≤ front.made) front.seen (plays.numbers goes.number) in
    let made = goes.made in
    let few = all_map (λ (e : HostEntry W). e.by ≤ front.made) (λ (e : HostEntry W). e.by ≤ n + n) front.seen (λ e less. omega (arith, less, made)) listed in
    let Own : ℕ → Type 0 = λ k. AreHostsCalls (calls_of k front.seen) in
    let own_zero : Own 0 = subst AreHostsCalls (sym goes.are) goes.hosts in
    let both = all_map (HasChannel front) (λ (c : HostChannel W). Own (reader_of c.channel) × Own (writer_of c.channel)) all.channels (λ c has. (reader_hosts front c has fit, writer_hosts front c has fit)) all.has in
    let hosts = all_by_passes IsHostsCall (n + n) front.seen few
    (λ k le. elim (cases_eq k 0) [
      | inl none ↦ subst Own (sym none) own_zero
      | inr some ↦ each_pass Own 0 all.channels all.numbered both k (omega arith) (omega (arith, le, count))
    ]) in
    record {
      hosts = hosts;
      played_are = goes.are;
      channels = all.channels;
      numbered = all.numbered;
      stopped = all.stopped;
      each = all_map (HasChannel front) (IsServedBy front.seen) all.channels (λ c has. served_by front c has fit hosts) all.has;
      unheard = λ c none. heard_nowhere c n front.seen hosts few (subst (λ (k : ℕ). (c ≡ 0) ⊎ (k < c)) count none);
      unhanded = λ c none. handed_nowhere c n front.seen hosts few (subst (λ (k : ℕ). (c ≡ 0) ⊎ (k < c)) count none);
      ends = subst (EndsAfter other all.channels old) plays.linker all.ends;
    }
