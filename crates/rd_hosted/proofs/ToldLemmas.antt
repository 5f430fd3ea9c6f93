-- What a call of a host's front tells of what the host did: what it comes to between quiet calls of the table.
use Rattle.std.proofs.Common.{◌≡◌, ◌∙◌, refl, sym, ap, subst, ℕ, ◌==◌, Bool, true, false, cond, List, [], ◌∷◌, ◌++◌, append_assoc, append-nil, Option}
use Rattle.std.specs.List.{AllByRecursion}
use Rattle.std.specs.Prelude.{map}
use Rattle.std.proofs.lemmas.List.Elements.{filter_map-append}
use Rattle.rd_hello.specs.Moves as move
use Rattle.rd_hello.specs.Moves.{Move}
use Rattle.rd_host.specs.Core.{HostCoreState}
use Rattle.rd_pending.specs.History as call
use Rattle.rd_pending.specs.History.{Call, accepted_in}
use Rattle.rd_table.specs.Histories.{handed_in, table_history}
use Rattle.rd_exchanges.specs.Exchanges.{goes}
use Rattle.rd_host_turns.specs.Turns.{AreQuiet, TableEntry}
use Rattle.rd_deeds.specs.Talk.{Deed, EachAfter, host_move, host_moves, host_read, host_reads, host_writes, host_wrote, read_by_host, written_by_host}
use Rattle.rd_hosted.specs.Asks.{asks_among, table_at}
use Rattle.rd_hosted.specs.Kept.{AsksInRange, LeavesNothing}
use Rattle.rd_hosted.proofs.BetweenLemmas.{IsTableHistory, accepted_behind, asks_behind, handed_behind}
use Rattle.rd_hosted.proofs.ChannelLemmas.{quiet_channel}
use Rattle.rd_hosted.proofs.StandLemmas.{Stands, asks_moved, asks_read, asks_stand, asks_written, deed_for, deeds_for, stands_as}

-- ---- where a host stands by a history

-- After these deeds a host has this core, and its table is that after this history, on this channel, if on one.
pub record StandsAt (core : HostCoreState) (seen : List TableEntry) (open_on : Option ℕ) (deeds : List Deed) : Type 0 where
  pub stands : Stands core (table_at seen) (accepted_in (table_history seen)) (handed_in seen) deeds
  pub channel : (table_at seen).channel ≡ open_on

-- messages that were written, behind those that were read, the newest first: the moves of a call, which does one of both
abbrev pub moves_of : List (List ℕ) → List (List ℕ) → List Move
moves_of wrote read = map (λ message. move.writes message) wrote ++ map (λ message. move.reads message) read

-- Where deeds behind others end this channel, nothing was left to send then.
abbrev pub SentIn : ℕ → List Deed → List Deed → Type 0
SentIn c [] deeds = Unit {0}
SentIn c (deed ∷ more) deeds = LeavesNothing c (more ++ deeds) deed × SentIn c more deeds

-- each channel counts
abbrev pub AnyChannel : ℕ → Type 0
AnyChannel c = Unit {0}

-- It stands so by more deeds than before, by which these messages were read and written on each channel, the newest first; where they ended a channel that counts, nothing was left to send.
pub record Told (Counts : ℕ → Type 0) (core : HostCoreState) (seen : List TableEntry) (open_on : Option ℕ) (reads writes : ℕ → List (List ℕ)) (deeds : List Deed) : Type 0 where
  pub more : List Deed
  pub stands : StandsAt core seen open_on (more ++ deeds)
  pub read : (c : ℕ) → host_read c more ≡ reads c
  pub written : (c : ℕ) → host_wrote c more ≡ writes c
  pub moved : (c : ℕ) → host_moves c more ≡ moves_of (writes c) (reads c)
  pub sent : (c : ℕ) → Counts c → SentIn c more deeds

abbrev pub nothing : ℕ → List (List ℕ)
nothing c = []

-- a message on one channel
abbrev pub only : ℕ → List ℕ → ℕ → List (List ℕ)
only channel message c = cond (channel == c) (message ∷ []) []

-- ---- messages of deeds

pub read_first : (c channel : ℕ) (m : List ℕ) (deeds : List Deed) → host_read c deeds ≡ [] → host_read c (host_reads channel m ∷ deeds) ≡ only channel m c
read_first c channel m deeds none = go (channel == c) refl
  where
    go : (b : Bool) → (channel == c) ≡ b → host_read c (host_reads channel m ∷ deeds) ≡ only channel m c
    go true e = rw e (ap (λ (l : List (List ℕ)). m ∷ l) none)
    go false e = rw e none

pub written_first : (c channel : ℕ) (m : List ℕ) (deeds : List Deed) (xs : List (List ℕ)) → host_wrote c deeds ≡ xs → host_wrote c (host_writes channel m ∷ deeds) ≡ only channel m c ++ xs
written_first c channel m deeds xs is = go (channel == c) refl
  where
    go : (b : Bool) → (channel == c) ≡ b → host_wrote c (host_writes channel m ∷ deeds) ≡ only channel m c ++ xs
    go true e = rw e (ap (λ (l : List (List ℕ)). m ∷ l) is)
    go false e = rw e is

pub read_more : (c : ℕ) (xs ys : List Deed) → host_read c (xs ++ ys) ≡ host_read c xs ++ host_read c ys
read_more c xs ys = filter_map-append (read_by_host c) xs ys

pub written_more : (c : ℕ) (xs ys : List Deed) → host_wrote c (xs ++ ys) ≡ host_wrote c xs ++ host_wrote c ys
written_more c xs ys = filter_map-append (written_by_host c) xs ys

pub moved_more : (c : ℕ) (xs ys : List Deed) → host_moves c (xs ++ ys) ≡ host_moves c xs ++ host_moves c ys
moved_more c xs ys = filter_map-append (host_move c) xs ys

pub moved_read : (c channel : ℕ) (m : List ℕ) (deeds : List Deed) → host_moves c deeds ≡ [] → host_moves c (host_reads channel m ∷ deeds) ≡ moves_of [] (only channel m c)
moved_read c channel m deeds none = go (channel == c) refl
  where
    go : (b : Bool) → (channel == c) ≡ b → host_moves c (host_reads channel m ∷ deeds) ≡ moves_of [] (only channel m c)
    go true e = rw e (ap (λ (l : List Move). move.reads m ∷ l) none)
    go false e = rw e none

pub moved_write : (c channel : ℕ) (m : List ℕ) (deeds : List Deed) → host_moves c deeds ≡ [] → host_moves c (host_writes channel m ∷ deeds) ≡ moves_of (only channel m c) []
moved_write c channel m deeds none = go (channel == c) refl
  where
    go : (b : Bool) → (channel == c) ≡ b → host_moves c (host_writes channel m ∷ deeds) ≡ moves_of (only channel m c) []
    go true e = rw e (ap (λ (l : List Move). move.writes m ∷ l) none)
    go false e = rw e none

-- moves of messages that were written alone, of two lists
writes_joined : (xs ys : List (List ℕ)) → moves_of xs [] ++ moves_of ys [] ≡ moves_of (xs ++ ys) []
writes_joined [] ys = refl
writes_joined (x ∷ xs) ys = ap (λ (l : List Move). move.writes x ∷ l) (writes_joined xs ys)

-- ---- what was left to send

pub sent_more : (c : ℕ) (xs ys deeds : List Deed) → SentIn c xs (ys ++ deeds) → SentIn c ys deeds → SentIn c (xs ++ ys) deeds
sent_more c [] ys deeds later first = first
sent_more c (x ∷ xs) ys deeds later first = (subst (λ (l : List Deed). LeavesNothing c l x) (sym (append_assoc xs ys deeds)) later.0, sent_more c xs ys deeds later.1 first)

pub asks_sent : (c : ℕ) (cs : List Call) (deeds : List Deed) → SentIn c (deeds_for cs) deeds
asks_sent c [] deeds = tt
asks_sent c (x ∷ cs) deeds = sent_more c (deeds_for cs) (deed_for x) deeds (asks_sent c cs (deed_for x ++ deeds)) (one x)
  where
    one : (x : Call) → SentIn c (deed_for x) deeds
    one (call.submits application named o) = (tt, tt)
    one (call.takes n) = (tt, tt)
    one (call.begins n) = tt
    one (call.lives n) = tt
    one (call.removes n) = tt
    one (call.completes head body) = tt
    one call.sends = tt
    one call.drops = tt

-- of all deeds
pub sent_all_along : (c : ℕ) (deeds : List Deed) → SentIn c deeds [] → EachAfter (λ before deed. LeavesNothing c before deed) deeds
sent_all_along c [] sent = tt
sent_all_along c (deed ∷ before) sent = (subst (λ (l : List Deed). LeavesNothing c l deed) (append-nil before) sent.0, sent_all_along c before sent.1)

-- ---- what applications ask

pub quiet_stands : (core : HostCoreState) (old added : List TableEntry) (open_on : Option ℕ) (deeds : List Deed) → StandsAt core old open_on deeds → AreQuiet added → IsTableHistory (old ++ added) → AllByRecursion AsksInRange (asks_among added)
    → StandsAt core (old ++ added) open_on (deeds_for (asks_among added) ++ deeds)
quiet_stands core old added open_on deeds s quiet legal fit =
    let asks = asks_behind old added quiet legal in
    record {
      stands = stands_as core core (goes (table_at old) (asks_among added)) (table_at (old ++ added)) _ _ _ _ (deeds_for (asks_among added) ++ deeds) refl asks.leads (sym (accepted_behind old added quiet legal)) (sym (handed_behind old added quiet legal))
          (asks_stand (asks_among added) core (table_at old) (accepted_in (table_history old)) (handed_in old) deeds s.stands asks.may asks.asks fit);
      channel = quiet_channel old added quiet ∙ s.channel;
    }

-- nothing was done, or only asked
pub told_as : (core other : HostCoreState) (seen : List TableEntry) (old new : List TableEntry) (open_on on_now : Option ℕ) (deeds : List Deed) → core ≡ other → old ≡ new → open_on ≡ on_now → StandsAt core old open_on deeds → StandsAt other new on_now deeds
told_as core other seen old new open_on on_now deeds a b c s =
    subst (λ (x : HostCoreState). StandsAt x new on_now deeds) a (subst (λ (l : List TableEntry). StandsAt core l on_now deeds) b (subst (λ (o : Option ℕ). StandsAt core old o deeds) c s))

pub told_nothing : (core other : HostCoreState) (old new : List TableEntry) (open_on : Option ℕ) (deeds : List Deed) → core ≡ other → new ≡ old → StandsAt core old open_on deeds → Told AnyChannel other new open_on nothing nothing deeds
told_nothing core other old new open_on deeds same is s = record {
  more = [];
  stands = told_as core other old old new open_on open_on deeds same (sym is) refl s;
  read = λ c. refl;
  written = λ c. refl;
  moved = λ c. refl;
  sent = λ c counts. tt;
}

pub told_quiet : (core : HostCoreState) (old added new : List TableEntry) (open_on : Option ℕ) (deeds : List Deed) → new ≡ old ++ added → AreQuiet added → IsTableHistory new → AllByRecursion AsksInRange (asks_among added) → StandsAt core old open_on deeds
    → Told AnyChannel core new open_on nothing nothing deeds
told_quiet core old added new open_on deeds is quiet legal fit s = record {
  more = deeds_for (asks_among added);
  stands = told_as core core old (old ++ added) new open_on open_on (deeds_for (asks_among added) ++ deeds) refl (sym is) refl (quiet_stands core old added open_on deeds s quiet (subst IsTableHistory is legal) fit);
  read = λ c. asks_read c (asks_among added);
  written = λ c. asks_written c (asks_among added);
  moved = λ c. asks_moved c (asks_among added);
  sent = λ c counts. asks_sent c (asks_among added) deeds;
}

-- one told after another, where nothing was read
pub told_then : (core mid : HostCoreState) (between new : List TableEntry) (open_on on_now : Option ℕ) (writes more_writes : ℕ → List (List ℕ)) (deeds : List Deed) (one : Told AnyChannel mid between open_on nothing writes deeds)
    → Told AnyChannel core new on_now nothing more_writes (one.more ++ deeds) → Told AnyChannel core new on_now nothing (λ c. more_writes c ++ writes c) deeds
told_then core mid between new open_on on_now writes more_writes deeds one other = record {
  more = other.more ++ one.more;
  stands = subst (StandsAt core new on_now) (sym (append_assoc other.more one.more deeds)) other.stands;
  read = λ c. read_more c other.more one.more ∙ (ap (λ (l : List (List ℕ)). l ++ host_read c one.more) (other.read c) ∙ one.read c);
  written = λ c. written_more c other.more one.more ∙ (ap (λ (l : List (List ℕ)). l ++ host_wrote c one.more) (other.written c) ∙ ap (λ (l : List (List ℕ)). more_writes c ++ l) (one.written c));
  moved = λ c. moved_more c other.more one.more ∙ (ap (λ (l : List Move). l ++ host_moves c one.more) (other.moved c) ∙ (ap (λ (l : List Move). moves_of (more_writes c) [] ++ l) (one.moved c) ∙ writes_joined (more_writes c) (writes c)));
  sent = λ c counts. sent_more c other.more one.more deeds (other.sent c counts) (one.sent c counts);
}

pub told_alike : (core : HostCoreState) (new : List TableEntry) (open_on : Option ℕ) (reads writes other_reads other_writes : ℕ → List (List ℕ)) (deeds : List Deed) → ((c : ℕ) → reads c ≡ other_reads c) → ((c : ℕ) → writes c ≡ other_writes c)
    → Told AnyChannel core new open_on reads writes deeds → Told AnyChannel core new open_on other_reads other_writes deeds
told_alike core new open_on reads writes other_reads other_writes deeds r w t = record { more = t.more; stands = t.stands; read = λ c. t.read c ∙ r c; written = λ c. t.written c ∙ w c; moved = λ c. t.moved c ∙ (ap (λ (l : List (List ℕ)). moves_of l (reads c)) (w c) ∙ ap (moves_of (other_writes c)) (r c)); sent = t.sent }

-- where fewer channels count
pub told_fewer : (Counts : ℕ → Type 0) (core : HostCoreState) (new : List TableEntry) (open_on : Option ℕ) (reads writes : ℕ → List (List ℕ)) (deeds : List Deed) → Told AnyChannel core new open_on reads writes deeds
    → Told Counts core new open_on reads writes deeds
told_fewer Counts core new open_on reads writes deeds t = record { more = t.more; stands = t.stands; read = t.read; written = t.written; moved = t.moved; sent = λ c counts. t.sent c tt }
