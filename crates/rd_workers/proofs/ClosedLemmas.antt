-- Desks that are closed, and the front's passes of them: all other calls there are hands', and these passes came home.
use Rattle.std.proofs.Common.{◌≡◌, ◌∙◌, refl, sym, ap, subst, ℕ, suc, ◌≤◌, List, [], ◌∷◌, get_or, map}
use Rattle.std.specs.Prelude.{All}
use Rattle.std.specs.List.{AllZip, zip}
use Rattle.std.proofs.lemmas.List.Elements.{All-cons, All-head, All-map, All-nil, All-same, All-tail}
use Rattle.rd_turn.specs.declared.object.Entry.{Entry}
use Rattle.rd_turn.specs.History.{Leads, calls_of}
use Rattle.rd_turn.specs.Pass.{TurnId, first_pass, new_pass}
use Rattle.rd_desk.specs.declared.calls.DeskCall.{DeskCall}
use Rattle.rd_desk.specs.declared.calls.DeskReply.{DeskReply}
use Rattle.rd_desk.specs.Own.{GivesOwnBack}
use Rattle.rd_pool.specs.Desks.{AllByHandBut, CameHome, IsClosed}
use Rattle.rd_pool.proofs.CallsLemmas.{the_one, then_hands, with_hands}
use Rattle.rd_front.specs.Kept.{DeskGoesOn}
use Rattle.rd_front.specs.State.{DeviceDeskState, FrontState, SessionDeskStep, SessionPass, SessionStation}
use Rattle.rd_served_devices.specs.ServedDevices.{served_cuts, served_parked, served_runs}
use Rattle.rd_workers.specs.Closed.{ClosesAfter, FrontCameHome}
use Rattle.rd_workers.specs.Passes.{IsPassOf}

abbrev Turns : Type 0
Turns = List (TurnId SessionStation)

-- the number that the front's pass of each desk has
abbrev pub AreFirsts : List SessionPass → Type 0
AreFirsts passes = All (λ (p : SessionPass). p.number ≡ 1) passes

-- ---- their numbers

pub split_first : (turns : Turns) (passes own : List SessionPass) → passes ≡ map first_pass turns → own ≡ map new_pass passes → AreFirsts own
split_first turns passes own are given =
    All-same (λ (p : SessionPass). p.number ≡ 1) own (map new_pass (map first_pass turns)) (given ∙ ap (map new_pass) are)
    (All-map (λ (p : SessionPass). p.number ≡ 1) new_pass (map first_pass turns) (All-map (λ (p : SessionPass). suc p.made ≡ 1) first_pass turns (λ k t within. refl)))

-- the front's calls keep them, and give the passes back
pub still_firsts : (olds news : List DeviceDeskState) (own : List SessionPass) → map (λ (d : DeviceDeskState). d.pass) olds ≡ own → AreFirsts own → AllZip DeskGoesOn olds news → AreFirsts (map (λ (d : DeviceDeskState). d.pass) news)
still_firsts olds news own own_are firsts goes = by olds news (subst AreFirsts (sym own_are) firsts) goes
  where
    by : (olds news : List DeviceDeskState) → AreFirsts (map (λ (d : DeviceDeskState). d.pass) olds) → AllZip DeskGoesOn olds news → AreFirsts (map (λ (d : DeviceDeskState). d.pass) news)
    by [] [] firsts goes = All-nil (λ (p : SessionPass). p.number ≡ 1)
    by [] (n ∷ ns) firsts goes = absurd goes
    by (o ∷ os) [] firsts goes = absurd goes
    by (o ∷ os) (n ∷ ns) firsts goes =
        All-cons (λ (p : SessionPass). p.number ≡ 1) n.pass (map (λ (d : DeviceDeskState). d.pass) ns)
        ((goes.0).same.0 ∙ All-head (λ (p : SessionPass). p.number ≡ 1) o.pass (map (λ (d : DeviceDeskState). d.pass) os) firsts)
        (by os ns (All-tail (λ (p : SessionPass). p.number ≡ 1) o.pass (map (λ (d : DeviceDeskState). d.pass) os) firsts) goes.1)

pub their_passes : (desks : List DeviceDeskState) (passes : List SessionPass) → AllZip IsPassOf desks passes → passes ≡ map (λ (d : DeviceDeskState). d.pass) desks
their_passes [] [] are = refl
their_passes [] (p ∷ ps) are = absurd are
their_passes (d ∷ ds) [] are = absurd are
their_passes (d ∷ ds) (p ∷ ps) are = let here = (are.0).1 in let later = their_passes ds ps are.1 in cc (here, later)

pub their_turns : (turns : Turns) (olds news : List DeviceDeskState) → map (λ (d : DeviceDeskState). d.turn) olds ≡ turns → AllZip DeskGoesOn olds news → map (λ (d : DeviceDeskState). d.turn) news ≡ turns
their_turns turns olds news turns_are goes = by olds news goes ∙ turns_are
  where
    by : (olds news : List DeviceDeskState) → AllZip DeskGoesOn olds news → map (λ (d : DeviceDeskState). d.turn) news ≡ map (λ (d : DeviceDeskState). d.turn) olds
    by [] [] goes = refl
    by [] (n ∷ ns) goes = absurd goes
    by (o ∷ os) [] goes = absurd goes
    by (o ∷ os) (n ∷ ns) goes = let here = (goes.0).turn in let later = by os ns goes.1 in cc (here, later)

-- all calls of these passes are their own
pub firsts_but : (passes : List SessionPass) → AreFirsts passes → All (AllByHandBut 1) passes
firsts_but passes firsts = λ k d within. the_one 1 (get_or passes k d) (λ none. absurd (cc none)) (firsts k d within)

-- ---- the close

closes_one : (d : DeviceDeskState) (p : SessionPass) (s : SessionStation) → (d.pass).number ≡ 1 → AllByHandBut 1 p → CameHome p d.pass → IsClosed served_runs served_parked served_cuts (d.turn, p) s → ClosesAfter d s
closes_one d p s number hands home is =
    let but : AllByHandBut (d.pass).number p = subst (λ (n : ℕ). AllByHandBut n p) (sym number) hands in
    let after = then_hands p d.pass is.numbers is.number is.all but home in
    record {
      hands = with_hands p d.pass is.numbers is.number is.all but home;
      later = after.0;
      later_hands = after.2;
      puts_none = after.3;
      leads = subst (λ (l : List (Entry DeskCall DeskReply)). Leads SessionDeskStep (d.turn).opening l s) after.1 is.leads;
      most = p.made;
      numbers = subst (All (λ (e : Entry DeskCall DeskReply). e.by ≤ p.made)) after.1 is.numbers;
      gives = λ n le. subst (λ (l : List (Entry DeskCall DeskReply)). GivesOwnBack (calls_of n l)) after.1 (is.gives n le);
    }

-- Each desk closes after what the front's pass of it has seen.
pub all_close : (turns : Turns) (desks : List DeviceDeskState) (passes : List SessionPass) (stations : List SessionStation) → map (λ (d : DeviceDeskState). d.turn) desks ≡ turns → AreFirsts (map (λ (d : DeviceDeskState). d.pass) desks)
    → All (AllByHandBut 1) passes → AllZip CameHome passes (map (λ (d : DeviceDeskState). d.pass) desks) → AllZip (IsClosed served_runs served_parked served_cuts) (zip turns passes) stations → AllZip ClosesAfter desks stations
all_close turns desks passes stations turns_are firsts hands home closed =
    by desks passes stations firsts hands home (subst (λ (l : Turns). AllZip (IsClosed served_runs served_parked served_cuts) (zip l passes) stations) (sym turns_are) closed)
  where
    by : (desks : List DeviceDeskState) (passes : List SessionPass) (stations : List SessionStation) → AreFirsts (map (λ (d : DeviceDeskState). d.pass) desks)
        → All (AllByHandBut 1) passes → AllZip CameHome passes (map (λ (d : DeviceDeskState). d.pass) desks) → AllZip (IsClosed served_runs served_parked served_cuts) (zip (map (λ (d : DeviceDeskState). d.turn) desks) passes) stations
        → AllZip ClosesAfter desks stations
    by [] [] [] firsts hands home closed = tt
    by [] [] (s ∷ ss) firsts hands home closed = absurd closed
    by [] (p ∷ ps) ss firsts hands home closed = absurd home
    by (d ∷ ds) [] ss firsts hands home closed = absurd home
    by (d ∷ ds) (p ∷ ps) [] firsts hands home closed = absurd closed
    by (d ∷ ds) (p ∷ ps) (s ∷ ss) firsts hands home closed = (
      closes_one d p s (All-head (λ (q : SessionPass). q.number ≡ 1) d.pass (map (λ (e : DeviceDeskState). e.pass) ds) firsts) (All-head (AllByHandBut 1) p ps hands) home.0 closed.0,
      by ds ps ss (All-tail (λ (q : SessionPass). q.number ≡ 1) d.pass (map (λ (e : DeviceDeskState). e.pass) ds) firsts) (All-tail (AllByHandBut 1) p ps hands) home.1 closed.1,
    )

pub home_close : (last : FrontState) (turns : Turns) (passes : List SessionPass) (stations : List SessionStation) → FrontCameHome last turns passes → AllZip (IsClosed served_runs served_parked served_cuts) (zip turns passes) stations
    → AllZip ClosesAfter last.desks stations
home_close last turns passes stations home closed = all_close turns last.desks passes stations home.turns_are home.numbers home.by_hand home.home closed
