-- Deeds by which a host keeps its table: what applications ask, a message that is read, one that is sent, and how a channel begins and ends.
use Rattle.std.proofs.Common.{◌≡◌, ◌∙◌, refl, sym, ap, subst, inl, inr, ℕ, zero, suc, ◌<◌, List, [], ◌∷◌, ◌++◌, append_assoc, append-nil, Some, None, Ok, Err, arith}
use Rattle.std.specs.Prelude.{Contains, Result, slice_index_or}
use Rattle.std.specs.List.{AllByRecursion}
use Rattle.std.proofs.lemmas.List.Elements.{Contains-append_cases, filter_map-append}
use Rattle.rd_hello.specs.Moves.{Move}
use Rattle.rd_host.specs.Core.{HostCoreState}
use Rattle.rd_pending.specs.declared.calls.TakeNo.{TakeNo}
use Rattle.rd_pending.specs.declared.calls.Taken.{Taken}
use Rattle.rd_pending.specs.History as call
use Rattle.rd_pending.specs.History.{Call, May, accepted_in, accepted_of, after, called}
use Rattle.rd_pending.specs.Outcomes.{Accepted}
use Rattle.rd_pending.specs.Table as table
use Rattle.rd_pending.specs.Table.{MayBegin, TableState}
use Rattle.rd_exchanges.specs.Exchanges.{AreAsks, IsAsk, MayGo, accepted_along, accepted_at, goes, handed_along, handed_at, handed_of}
use Rattle.rd_deeds.specs.Host.{HostSide, begins_on, ends_channel, hears, next_message, side_sends}
use Rattle.rd_deeds.specs.HostDeeds.{MayDo, calls_of, side_after, side_of}
use Rattle.rd_world.specs.Recording.{client_id}
use Rattle.rd_deeds.specs.Talk.{Deed, host_begins, host_ends, host_move, host_moves, host_read, host_reads, host_writes, host_wrote, read_by_host, submits, takes, written_by_host}
use Rattle.rd_deeds.proofs.Calls.{Does, read_tame, sent_same, table_of}
use Rattle.rd_hosted.specs.Kept.{AsksInRange, IsOfHost, IsTakenIn}

-- the side with this core and this table
abbrev pub side : HostCoreState → TableState → HostSide
side core t = record { core = core; table = t }

-- After these deeds, by which it keeps its table, a host has this core and this table; these requests were accepted, in order; and each of these outcomes was handed out.
pub record Stands (core : HostCoreState) (t : TableState) (accepted : List Accepted) (handed : List (ℕ × Taken)) (deeds : List Deed) : Type 0 where
  pub own : AllByRecursion IsOfHost deeds
  pub may : Does client_id deeds
  pub stands : side_of client_id deeds ≡ side core t
  pub accepted_are : accepted_in (calls_of client_id deeds) ≡ accepted
  pub gives : (number : ℕ) (taken : Taken) → Contains handed (number, taken) → IsTakenIn deeds number taken

pub gives_still : (more deeds : List Deed) (number : ℕ) (taken : Taken) → IsTakenIn deeds number taken → IsTakenIn (more ++ deeds) number taken
gives_still more deeds number taken g = record {
  later = more ++ g.later;
  before = g.before;
  place = ap (λ (l : List Deed). more ++ l) g.place ∙ sym (append_assoc more g.later (takes number ∷ g.before));
  gives = g.gives;
}

-- the same side, with other names for what there is
pub stands_as : (core other : HostCoreState) (t u : TableState) (accepted others : List Accepted) (handed given : List (ℕ × Taken)) (deeds : List Deed) → core ≡ other → t ≡ u → accepted ≡ others → handed ≡ given
    → Stands core t accepted handed deeds → Stands other u others given deeds
stands_as core other t u accepted others handed given deeds a b c d s = record {
  own = s.own;
  may = s.may;
  stands = s.stands ∙ (ap (λ (x : HostCoreState). side x t) a ∙ ap (λ (x : TableState). side other x) b);
  accepted_are = s.accepted_are ∙ c;
  gives = λ number taken has. s.gives number taken (subst (λ (l : List (ℕ × Taken)). Contains l (number, taken)) (sym d) has);
}

-- ---- what applications ask

-- an ask as a deed
abbrev pub deed_for : Call → List Deed
deed_for (call.submits application named o) = submits application named o ∷ []
deed_for (call.takes number) = takes number ∷ []
deed_for _ = []

-- what was asked, in order, as deeds, the newest first
abbrev pub deeds_for : List Call → List Deed
deeds_for [] = []
deeds_for (c ∷ cs) = deeds_for cs ++ deed_for c

-- a deed after which the table is this, that accepts this and hands this out, and changes no core
one_more : (core : HostCoreState) (t u : TableState) (accepted more : List Accepted) (handed given : List (ℕ × Taken)) (deeds : List Deed) (deed : Deed) → Stands core t accepted handed deeds
    → IsOfHost deed → MayDo (side core t) deed → side_after (side core t) deed ≡ side core u → accepted_in (calls_of client_id (deed ∷ deeds)) ≡ accepted_in (calls_of client_id deeds) ++ more
    → ((number : ℕ) (taken : Taken) → Contains given (number, taken) → IsTakenIn (deed ∷ deeds) number taken) → Stands core u (accepted ++ more) (handed ++ given) (deed ∷ deeds)
one_more core t u accepted more handed given deeds deed s own may leads accepts gives = record {
  own = (own, s.own);
  may = (subst (λ (x : HostSide). MayDo x deed) (sym s.stands) may, s.may);
  stands = ap (λ (x : HostSide). side_after x deed) s.stands ∙ leads;
  accepted_are = accepts ∙ ap (λ (l : List Accepted). l ++ more) s.accepted_are;
  gives = λ number taken has. elim (Contains-append_cases handed given (number, taken) has) [
    | inl before ↦ gives_still (deed ∷ []) deeds number taken (s.gives number taken before)
    | inr now ↦ gives number taken now
  ];
}

contains_one : {A : Type 0} (x y : A) → Contains (x ∷ []) y → x ≡ y
contains_one {A} x y has = go has.0 has.1 has.2
  where
    go : (k : ℕ) → k < 1 → slice_index_or (x ∷ []) k y ≡ y → x ≡ y
    go zero low is = is
    go (suc k) low is = absurd (omega (arith, low))

contains_none : {A : Type 0} (y : A) → Contains [] y → ⊥
contains_none y has = let low = has.1 in omega (arith, low)

ask_stands : (c : Call) (core : HostCoreState) (t : TableState) (accepted : List Accepted) (handed : List (ℕ × Taken)) (deeds : List Deed) → Stands core t accepted handed deeds → May t c → IsAsk c → AsksInRange c
    → Stands core (called t c) (accepted ++ accepted_at t c) (handed ++ handed_at t c) (deed_for c ++ deeds)
ask_stands (call.submits application named o) core t accepted handed deeds s may ask fit =
    let there : after (calls_of client_id deeds) ≡ t = table_of client_id deeds ∙ ap (λ (x : HostSide). x.table) s.stands in
    one_more core t (called t (call.submits application named o)) accepted (accepted_of t application named o ∷ []) handed [] deeds (submits application named o) s tt (may.0, fit, may.1) refl
    (ap (λ (u : TableState). accepted_in (calls_of client_id deeds) ++ accepted_of u application named o ∷ []) there) (λ number taken has. absurd (contains_none (number, taken) has))
ask_stands (call.takes n) core t accepted handed deeds s may ask fit =
    one_more core t (called t (call.takes n)) accepted [] handed (handed_of n (table.take t n).1) deeds (takes n) s tt may refl (sym (append-nil (accepted_in (calls_of client_id deeds))))
    (λ number taken has. given (table.take t n).1 refl number taken has)
  where
    given : (r : Result Taken TakeNo) → (table.take t n).1 ≡ r → (number : ℕ) (taken : Taken) → Contains (handed_of n r) (number, taken) → IsTakenIn (takes n ∷ deeds) number taken
    given (Err cause) e number taken has = absurd (contains_none (number, taken) has)
    given (Ok gave) e number taken has =
        let one : (n, gave) ≡ (number, taken) = contains_one (n, gave) (number, taken) has in
        let numbers : n ≡ number = ap (λ (p : ℕ × Taken). p.0) one in
        record {
          later = [];
          before = deeds;
          place = ap (λ (k : ℕ). takes k ∷ deeds) numbers;
          gives = ap (λ (x : HostSide). (table.take x.table number).1) s.stands ∙ (ap (λ (k : ℕ). (table.take t k).1) (sym numbers) ∙ (e ∙ ap (λ (p : ℕ × Taken). Ok p.1) one));
        }
ask_stands (call.begins c) core t accepted handed deeds s may ask fit = absurd ask
ask_stands (call.lives c) core t accepted handed deeds s may ask fit = absurd ask
ask_stands (call.removes c) core t accepted handed deeds s may ask fit = absurd ask
ask_stands (call.completes head body) core t accepted handed deeds s may ask fit = absurd ask
ask_stands call.sends core t accepted handed deeds s may ask fit = absurd ask
ask_stands call.drops core t accepted handed deeds s may ask fit = absurd ask

pub asks_stand : (cs : List Call) (core : HostCoreState) (t : TableState) (accepted : List Accepted) (handed : List (ℕ × Taken)) (deeds : List Deed) → Stands core t accepted handed deeds → MayGo t cs → AreAsks cs
    → AllByRecursion AsksInRange cs → Stands core (goes t cs) (accepted ++ accepted_along t cs) (handed ++ handed_along t cs) (deeds_for cs ++ deeds)
asks_stand [] core t accepted handed deeds s may asks fit = stands_as core core t t accepted (accepted ++ []) handed (handed ++ []) deeds refl refl (sym (append-nil accepted)) (sym (append-nil handed)) s
asks_stand (c ∷ cs) core t accepted handed deeds s may asks fit =
    let one = ask_stands c core t accepted handed deeds s may.0 asks.0 fit.0 in
    let rest = asks_stand cs core (called t c) (accepted ++ accepted_at t c) (handed ++ handed_at t c) (deed_for c ++ deeds) one may.1 asks.1 fit.1 in
    subst (Stands core (goes (called t c) cs) (accepted ++ accepted_along t (c ∷ cs)) (handed ++ handed_along t (c ∷ cs))) (sym (append_assoc (deeds_for cs) (deed_for c) deeds))
    (stands_as core core (goes (called t c) cs) (goes (called t c) cs) _ _ _ _ (deeds_for cs ++ (deed_for c ++ deeds)) refl refl
    (append_assoc accepted (accepted_at t c) (accepted_along (called t c) cs)) (append_assoc handed (handed_at t c) (handed_along (called t c) cs)) rest)

-- ---- the channel

-- the same side, as its core and its table
whole : (s : HostSide) → s ≡ side s.core s.table
whole s = refl

-- a deed by which nothing is accepted and nothing handed out
plain_stands : (deed : Deed) (core : HostCoreState) (t : TableState) (after_it : HostSide) (accepted : List Accepted) (handed : List (ℕ × Taken)) (deeds : List Deed) → Stands core t accepted handed deeds
    → IsOfHost deed → MayDo (side core t) deed → side_after (side core t) deed ≡ after_it → accepted_in (calls_of client_id (deed ∷ deeds)) ≡ accepted_in (calls_of client_id deeds) → Stands after_it.core after_it.table accepted handed (deed ∷ deeds)
plain_stands deed core t after_it accepted handed deeds s own may leads accepts = record {
  own = (own, s.own);
  may = (subst (λ (x : HostSide). MayDo x deed) (sym s.stands) may, s.may);
  stands = ap (λ (x : HostSide). side_after x deed) s.stands ∙ leads;
  accepted_are = accepts ∙ s.accepted_are;
  gives = λ number taken has. gives_still (deed ∷ []) deeds number taken (s.gives number taken has);
}

pub read_stands : (c : ℕ) (m : List ℕ) (core : HostCoreState) (t : TableState) (after_it : HostSide) (accepted : List Accepted) (handed : List (ℕ × Taken)) (deeds : List Deed) → Stands core t accepted handed deeds
    → t.channel ≡ Some c → hears (side core t) m ≡ after_it → Stands after_it.core after_it.table accepted handed (host_reads c m ∷ deeds)
read_stands c m core t after_it accepted handed deeds s opened leads = plain_stands (host_reads c m) core t after_it accepted handed deeds s tt opened leads (read_tame client_id c m deeds).1

pub write_stands : (c : ℕ) (m : List ℕ) (core : HostCoreState) (t : TableState) (after_it : HostSide) (accepted : List Accepted) (handed : List (ℕ × Taken)) (deeds : List Deed) → Stands core t accepted handed deeds
    → t.channel ≡ Some c → next_message (side core t) ≡ Some m → side_sends (side core t) ≡ after_it → Stands after_it.core after_it.table accepted handed (host_writes c m ∷ deeds)
write_stands c m core t after_it accepted handed deeds s opened next leads =
    plain_stands (host_writes c m) core t after_it accepted handed deeds s tt (opened, next) leads (sent_same (((side_of client_id deeds).core).core).outbox (calls_of client_id deeds))

pub begin_stands : (c : ℕ) (core : HostCoreState) (t : TableState) (after_it : HostSide) (accepted : List Accepted) (handed : List (ℕ × Taken)) (deeds : List Deed) → Stands core t accepted handed deeds
    → t.channel ≡ None → MayBegin t c → begins_on (side core t) c ≡ after_it → Stands after_it.core after_it.table accepted handed (host_begins c ∷ deeds)
begin_stands c core t after_it accepted handed deeds s none may leads = plain_stands (host_begins c) core t after_it accepted handed deeds s tt (none, may) leads refl

pub end_stands : (c : ℕ) (core : HostCoreState) (t : TableState) (after_it : HostSide) (accepted : List Accepted) (handed : List (ℕ × Taken)) (deeds : List Deed) → Stands core t accepted handed deeds
    → t.channel ≡ Some c → ends_channel (side core t) ≡ after_it → Stands after_it.core after_it.table accepted handed (host_ends c ∷ deeds)
end_stands c core t after_it accepted handed deeds s opened leads = plain_stands (host_ends c) core t after_it accepted handed deeds s tt opened leads refl

-- ---- what stands on channels

pub asks_read : (c : ℕ) (cs : List Call) → host_read c (deeds_for cs) ≡ []
asks_read c [] = refl
asks_read c (x ∷ cs) = filter_map-append (read_by_host c) (deeds_for cs) (deed_for x) ∙ (ap (λ (l : List (List ℕ)). l ++ host_read c (deed_for x)) (asks_read c cs) ∙ none x)
  where
    none : (x : Call) → host_read c (deed_for x) ≡ []
    none (call.submits application named o) = refl
    none (call.takes n) = refl
    none (call.begins n) = refl
    none (call.lives n) = refl
    none (call.removes n) = refl
    none (call.completes head body) = refl
    none call.sends = refl
    none call.drops = refl

pub asks_written : (c : ℕ) (cs : List Call) → host_wrote c (deeds_for cs) ≡ []
asks_written c [] = refl
asks_written c (x ∷ cs) = filter_map-append (written_by_host c) (deeds_for cs) (deed_for x) ∙ (ap (λ (l : List (List ℕ)). l ++ host_wrote c (deed_for x)) (asks_written c cs) ∙ none x)
  where
    none : (x : Call) → host_wrote c (deed_for x) ≡ []
    none (call.submits application named o) = refl
    none (call.takes n) = refl
    none (call.begins n) = refl
    none (call.lives n) = refl
    none (call.removes n) = refl
    none (call.completes head body) = refl
    none call.sends = refl
    none call.drops = refl

pub asks_moved : (c : ℕ) (cs : List Call) → host_moves c (deeds_for cs) ≡ []
asks_moved c [] = refl
asks_moved c (x ∷ cs) = filter_map-append (host_move c) (deeds_for cs) (deed_for x) ∙ (ap (λ (l : List Move). l ++ host_moves c (deed_for x)) (asks_moved c cs) ∙ none x)
  where
    none : (x : Call) → host_moves c (deed_for x) ≡ []
    none (call.submits application named o) = refl
    none (call.takes n) = refl
    none (call.begins n) = refl
    none (call.lives n) = refl
    none (call.removes n) = refl
    none (call.completes head body) = refl
    none call.sends = refl
    none call.drops = refl
