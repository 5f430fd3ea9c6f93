-- Desks that were closed: the station of each as the front's pass saw it last, and what hands did there afterwards; and that each pass gave back its own.
use Rattle.std.proofs.Common.{◌≡◌, ◌≢◌, ◌≤◌, ◌<◌, refl, sym, subst, ℕ, zero, suc, List, [], ◌∷◌, ◌++◌, arith}
use Rattle.std.specs.Prelude.{All}
use Rattle.std.specs.List.{AllZip}
use Rattle.std.proofs.Math.Decide.{dec_le}
use Rattle.std.proofs.lemmas.List.Elements.{All-weaker}
use mathlib.Core.Logic.{dite}
use Rattle.rd_desk.specs.declared.batch.Run.{Run}
use Rattle.rd_desk.specs.declared.calls.DeskCall.{DeskCall}
use Rattle.rd_desk.specs.declared.calls.DeskCall.TheVariants as desk
use Rattle.rd_desk.specs.declared.calls.DeskReply.{DeskReply}
use Rattle.rd_desk.specs.Own.{GivesOwnBack}
use Rattle.rd_desk.proofs.OwnLemmas.{none_back}
use Rattle.rd_front.specs.State.{DeviceDeskState, SessionDeskStep, SessionStation}
use Rattle.rd_turn.specs.History.{Leads, calls_of}
use Rattle.rd_turn.specs.declared.object.Entry.{Entry}
use Rattle.rd_turn.proofs.HistoryLemmas.{calls_of_none, count_of_none}
use Rattle.rd_workers.specs.Closed.{ClosesAfter}
use Rattle.rd_served_causes.proofs.ServedWorkLemmas.{hands_work}
use Rattle.rd_served_causes.specs.ServedServed.{IsHandCall, IsStationed, Works}
use Rattle.rd_served_causes.proofs.ServedRepliesGivenLemmas.{own_before}
use Rattle.rd_served_causes.specs.ServedRepliesPremises.{GiveOwn, GivesOwn}

abbrev Of : Type 0
Of = SessionStation

abbrev E : Type 0
E = Entry DeskCall DeskReply

-- ---- one desk

-- calls that lead somewhere, first to a point between
leads_split : (xs ys : List E) (a b : Of) → Leads SessionDeskStep a (xs ++ ys) b → (mid : Of) × Leads SessionDeskStep a xs mid × Leads SessionDeskStep mid ys b
leads_split [] ys a b leads = (a, refl, leads)
leads_split (x ∷ xs) ys a b leads = let (mid, first, last) = leads_split xs ys leads.0 b leads.2 in (mid, (leads.0, leads.1, first), last)

by_hand : (e : E) → ((runs : List Run) × (e.call ≡ desk.Work runs)) → IsHandCall e.call
by_hand e is = subst IsHandCall (sym is.1) tt

-- the station where the front's pass saw it last
pub closed_station : (d : DeviceDeskState) (s : Of) → ClosesAfter d s → (mid : Of) × IsStationed d mid × Works mid s
closed_station d s is =
    let (mid, first, last) = leads_split (d.pass).seen is.later (d.turn).opening s is.leads in (
      mid,
      record { leads = first; hands = All-weaker (λ (e : E). e.by ≢ (d.pass).number → (runs : List Run) × (e.call ≡ desk.Work runs)) (λ (e : E). e.by ≢ (d.pass).number → IsHandCall e.call) (λ e hand other. by_hand e (hand other)) (d.pass).seen is.hands },
      hands_work mid is.later s (All-weaker (λ (e : E). (runs : List Run) × (e.call ≡ desk.Work runs)) (λ (e : E). IsHandCall e.call) by_hand is.later is.later_hands) last,
    )

gave_own : (seen : List E) (most : ℕ) → All (λ (e : E). e.by ≤ most) seen → ((number : ℕ) → number ≤ most → GivesOwnBack (calls_of number seen)) → GivesOwn seen
gave_own seen most few gives number = dite (dec_le number most)
    (λ le. gives number le)
    (λ n. let less : most < number = omega arith in
    none_back (calls_of number seen) (calls_of_none number seen (count_of_none number seen
    (All-weaker (λ (e : E). e.by ≤ most) (λ (e : E). e.by < number) (λ e within. omega (arith, within, less)) seen few))))

-- ---- all of them

-- The stations of desks that were closed, as the front's passes saw them last.
pub record WereClosed (ds : List DeviceDeskState) (ss : List Of) : Type 0 where
  pub mids : List Of
  pub stationed : AllZip IsStationed ds mids
  pub works : AllZip Works mids ss

pub were_closed : (ds : List DeviceDeskState) (ss : List Of) → AllZip ClosesAfter ds ss → WereClosed ds ss
were_closed [] [] closes = record { mids = []; stationed = tt; works = tt }
were_closed [] (s ∷ ss) closes = absurd closes
were_closed (d ∷ ds) [] closes = absurd closes
were_closed (d ∷ ds) (s ∷ ss) closes =
    let (mid, at, works) = closed_station d s closes.0 in
    let more = were_closed ds ss closes.1 in
    record { mids = mid ∷ more.mids; stationed = (at, more.stationed); works = (works, more.works) }

pub closed_own : (ds : List DeviceDeskState) (ss : List Of) → AllZip ClosesAfter ds ss → GiveOwn ds
closed_own [] [] closes place d there = absurd (cc (there))
closed_own [] (s ∷ ss) closes place d there = absurd closes
closed_own (d ∷ ds) [] closes place e there = absurd closes
closed_own (d ∷ ds) (s ∷ ss) closes zero e there =
    let same : d ≡ e = cc (there) in
    let is = closes.0 in
    subst (λ (x : DeviceDeskState). GivesOwn (x.pass).seen) same (own_before (d.pass).seen is.later (gave_own ((d.pass).seen ++ is.later) is.most is.numbers is.gives))
closed_own (d ∷ ds) (s ∷ ss) closes (suc place) e there = closed_own ds ss closes.1 place e there
