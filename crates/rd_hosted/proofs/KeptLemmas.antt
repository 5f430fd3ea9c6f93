-- A host keeps its table: its front's history goes by parts, between which only quiet calls stand in the table's.
use Rattle.std.proofs.Common.{◌≡◌, ◌∙◌, ◌≢◌, refl, sym, ap, subst, ℕ, List, [], ◌∷◌, ◌++◌, append-nil, Some, None, Option, Ok, arith}
use Rattle.std.specs.Prelude.{Contains}
use Rattle.std.specs.List.{AllByRecursion}
use Rattle.std.specs.declared.marker.Brand.{Brand}
use Rattle.rd_carry.specs.declared.ended.Ended.{Ended}
use Rattle.rd_carry.specs.declared.ended.Ended.TheVariants as ended
use Rattle.rd_hello.specs.Moves.{Move}
use Rattle.rd_host.specs.Core.{HostCoreState, new_host}
use Rattle.rd_host_channel.specs.Calls.{HostEntry}
use Rattle.rd_host_front.specs.HostFront.{HostFrontStep}
use Rattle.rd_host_front.specs.State.{HostFrontState}
use Rattle.rd_host_lines.specs.Requests.{AcceptsCallInRange, AreInRange}
use Rattle.rd_host_lines.proofs.RoomLemmas.{have_room}
use Rattle.rd_host_session.specs.Channels.{LinkedTold}
use Rattle.rd_host_session.specs.Hosted.{Hosts, front_over}
use Rattle.rd_host_threads.proofs.ThreadLemmas.{threads_so}
use Rattle.rd_host_turns.specs.Turns.{TableEntry}
use Rattle.rd_host_turns.proofs.SessionLemmas.{session_quiet}
use Rattle.rd_pending.specs.declared.calls.Taken.{Taken}
use Rattle.rd_pending.specs.History as call
use Rattle.rd_pending.specs.History.{Call, HandsOut, Holds, after}
use Rattle.rd_pending.specs.Table as table
use Rattle.rd_pending.specs.Table.{TableState, new_table}
use Rattle.rd_pending.proofs.Handed.{handed_out}
use Rattle.rd_runs.specs.Premises.{AreSubmittable}
use Rattle.rd_script.specs.declared.line.NumberedLine.{NumberedLine}
use Rattle.rd_script.specs.declared.outcome.Outcome.{Outcome}
use Rattle.rd_table.specs.declared.calls.PendingCall.{PendingCall}
use Rattle.rd_table.specs.declared.calls.PendingCall.TheVariants as ask
use Rattle.rd_table.specs.declared.calls.PendingReply.{PendingReply}
use Rattle.rd_table.specs.declared.calls.PendingReply.TheVariants as reply
use Rattle.rd_table.specs.Histories.{handed_in}
use Rattle.rd_turn.specs.History.{Leads}
use Rattle.rd_turn.specs.Pass.{first_pass}
use Rattle.rd_deeds.specs.Host.{HostSide}
use Rattle.rd_deeds.specs.HostDeeds.{calls_of}
use Rattle.rd_world.specs.Recording.{client_id}
use Rattle.rd_deeds.specs.Talk.{Deed, host_moves, host_read, host_wrote, takes}
use Rattle.rd_deeds.proofs.Calls.{calls_hold, calls_since, table_of}
use Rattle.rd_hosted.specs.Asks.{asked_as, asks_among, table_at}
use Rattle.rd_hosted.specs.Kept.{AsksInRange, CameOf, IsTakenIn, KeepsTable, calls_of_front, calls_of_table}
use Rattle.rd_hosted.proofs.BetweenLemmas.{IsTableHistory, earlier_history, fit_in, fit_last}
use Rattle.rd_hosted.proofs.GoLemmas.{HistoryTold, ToldAlong, channel_of, history_told}
use Rattle.rd_hosted.proofs.StandLemmas.{Stands}
use Rattle.rd_hosted.proofs.ToldLemmas.{AnyChannel, StandsAt, Told, moved_more, nothing, read_more, sent_all_along, sent_more, told_quiet, written_more}

-- each request that was accepted has room for its numbers: so have all that were asked for
abbrev FitAsks : List TableEntry → Type 0
FitAsks seen = AllByRecursion AsksInRange (asks_among seen)

one_fits : (does : PendingCall) (back : PendingReply) (more : List Call) → AcceptsCallInRange does back → AllByRecursion AsksInRange more → AllByRecursion AsksInRange (asked_as does back ++ more)
one_fits (ask.Submit application named o) (reply.Submitted (Ok number)) more fit rest = (fit, rest)
one_fits (ask.Take number) (reply.Taken (Ok taken)) more fit rest = (tt, rest)
one_fits does back more fit rest = rest

all_fit : (seen : List TableEntry) → AreInRange seen → FitAsks seen
all_fit [] fit = tt
all_fit (e ∷ seen) fit = one_fits e.call e.reply (asks_among seen) fit.0 (all_fit seen fit.1)

-- where a host begins
begins_so : StandsAt (new_host 1) [] None []
begins_so = record {
  stands = record { own = tt; may = tt; stands = refl; accepted_are = refl; gives = λ number taken has. absurd (none (number, taken) has) };
  channel = refl;
}
  where
    none : (x : ℕ × Taken) → Contains [] x → ⊥
    none x has = let low = has.1 in omega (arith, low)

-- what is told of a host is what it keeps, with what applications asked last
kept_so : {W : Type 0} (core : HostCoreState) (own seen : List TableEntry) (open_on : Option ℕ) (entries : List (HostEntry W)) → (told : ToldAlong entries core own open_on []) → Told AnyChannel core seen open_on nothing nothing (told.more ++ [])
    → KeepsTable seen entries
kept_so core own seen open_on entries told last =
    let deeds : List Deed = last.more ++ told.more in
    let whole : last.more ++ (told.more ++ []) ≡ deeds = ap (λ (l : List Deed). last.more ++ l) (append-nil told.more) in
    let stands = subst (Stands core (table_at seen) _ _) whole (last.stands).stands in
    record {
      deeds = deeds;
      own = stands.own;
      may = stands.may;
      leads = ap (λ (x : HostSide). x.table) stands.stands;
      accepted_are = stands.accepted_are;
      gives = stands.gives;
      read = λ c. read_more c last.more told.more ∙ (ap (λ (l : List (List ℕ)). l ++ host_read c told.more) (last.read c) ∙ told.read c);
      written = λ c. written_more c last.more told.more ∙ (ap (λ (l : List (List ℕ)). l ++ host_wrote c told.more) (last.written c) ∙ told.written c);
      moves = λ c. moved_more c last.more told.more ∙ (ap (λ (l : List Move). l ++ host_moves c told.more) (last.moved c) ∙ told.moved c);
      sent = λ c none. sent_all_along c deeds (sent_more c last.more told.more [] (last.sent c tt) (told.sent c none));
    }

pub host_keeps : (lines : List NumberedLine) (other : Option Ended) (told : List ((ℕ × ℕ) × Outcome)) (old new : LinkedTold) → AreSubmittable lines → other ≢ Some ended.Memory → (hosts : Hosts lines other told old new)
    → KeepsTable (calls_of_table lines other told old new hosts) (calls_of_front lines other told old new hosts)
host_keeps lines other told old new submittable found hosts =
    let fit : FitAsks (hosts.last).seen = all_fit (hosts.last).seen (have_room lines other told old new submittable hosts) in
    let plays = hosts.plays in
    let entries : List (HostEntry Brand) = ((plays.ends).play).front.seen in
    let front : HostFrontState = front_over hosts.turn (first_pass hosts.turn) in
    let threads = threads_so hosts.turn lines other hosts.issuers (first_pass hosts.turn) hosts.last old new found plays in
    let leads = subst (λ (s : HostFrontState). Leads HostFrontStep s entries plays.closed) plays.opening plays.leads in
    let history : HistoryTold entries front plays.closed = history_told entries front plays.closed threads.hosts leads in
    let quiet = session_quiet hosts.turn lines other hosts.issuers hosts.last old new plays history.parts history.along in
    let own : List TableEntry = ((plays.closed).table).pass.seen in
    let rest : List TableEntry = quiet.1.0 in
    let whole : (hosts.last).seen ≡ own ++ rest = quiet.1.1 in
    let legal : IsTableHistory (hosts.last).seen = (hosts.table, hosts.leads) in
    let legal_own = earlier_history own rest (hosts.last).seen whole legal in
    let fit_own = fit_in AsksInRange own rest (hosts.last).seen (sym whole) fit in
    let done = history.tells [] own quiet.0 legal_own fit_own [] begins_so in
    let ended = told_quiet (plays.closed).core own rest (hosts.last).seen (channel_of plays.closed) (done.more ++ []) whole quiet.1.2 legal (fit_last AsksInRange own rest (subst FitAsks whole fit)) done.stands in
    kept_so (plays.closed).core own (hosts.last).seen (channel_of plays.closed) entries done ended

-- ---- outcomes

pub outcome_came : {W : Type 0} (seen : List TableEntry) (entries : List (HostEntry W)) (number : ℕ) (taken : Taken) → (keeps : KeepsTable seen entries) → Contains (handed_in seen) (number, taken) → CameOf keeps.deeds number taken
outcome_came seen entries number taken keeps has =
    let g : IsTakenIn keeps.deeds number taken = keeps.gives number taken has in
    let behind = calls_since client_id g.later (takes number ∷ g.before) in
    let before : List Call = calls_of client_id g.before in
    let whole : calls_of client_id keeps.deeds ≡ behind.0 ++ call.takes number ∷ before = ap (calls_of client_id) g.place ∙ behind.1 in
    let holds : Holds (behind.0 ++ call.takes number ∷ before) = subst Holds whole (calls_hold client_id keeps.deeds keeps.may) in
    let gives : (table.take (after before) number).1 ≡ Ok taken = ap (λ (t : TableState). (table.take t number).1) (table_of client_id g.before) ∙ g.gives in
    let out = subst (λ (h : List Call). HandsOut h before (call.takes number)) (sym whole) (handed_out behind.0 before (call.takes number) holds) taken gives in
    record { request = out.0; came = out.1; numbered = out.2; device = out.3; life = out.4 }
