-- What holds of the journals that a client stores, by what was known of its desks and of all passes when they were closed.
use Rattle.std.proofs.Common.{◌≡◌, ◌≢◌, refl, sym, ap, subst, ℕ, List, [], ◌∷◌, length, map, Some, None, arith}
use Rattle.std.specs.Prelude.{All, Option}
use Rattle.std.specs.List.{AllZip, zip}
use Rattle.std.proofs.lemmas.List.Elements.{All-cons, All-head, All-map, All-nil, All-same, All-tail}
use Rattle.rd_base.specs.declared.journal.Item.{Item}
use Rattle.rd_base.specs.History.{History}
use Rattle.rd_base.specs.Lawful.{IsLawful, RunsAt}
use Rattle.rd_drive.specs.declared.step.Step.{Step}
use Rattle.rd_drive.specs.declared.step.End.{End}
use Rattle.rd_drive.specs.Device.{Parked}
use Rattle.rd_drive.specs.Planned.{Planned}
use Rattle.rd_station.specs.Station.{StationState}
use Rattle.rd_station.specs.Tied.{IsReached}
use Rattle.rd_station.proofs.Calls.{reached_kept}
use Rattle.rd_turn.specs.declared.object.Entry.{Entry}
use Rattle.rd_turn.specs.History.{entry}
use Rattle.rd_turn.specs.Pass.{first_pass}
use Rattle.rd_turn.proofs.HistoryLemmas.{All-prefix}
use Rattle.rd_desk.specs.declared.calls.DeskCall.{DeskCall}
use Rattle.rd_desk.specs.declared.calls.DeskCall.TheVariants as desk
use Rattle.rd_desk.specs.declared.calls.DeskReply.{DeskReply}
use Rattle.rd_desk.proofs.RunLemmas.{history_then}
use Rattle.rd_desk.proofs.StepLemmas.{led_reached}
use Rattle.rd_pool.specs.Desks.{DeskPass, DeskTurn, GivesThen, HoldsOfCalls, IsClosed, KeepsMoment}
use Rattle.rd_pool.proofs.CallsLemmas.{all_hold, call_holds}
use Rattle.rd_pool.proofs.MomentLemmas.{gives_none}
use Rattle.rd_served_devices.specs.ServedDevices.{IsServedReached, ServedDeviceState, served_cuts, served_parked, served_runs}
use Rattle.rd_sharing.specs.ServedOpening.{ServedDeclared, served_station}
use Rattle.rd_world.specs.Session.{StoresSome, journals_of}
use Rattle.rd_front.specs.Kept.{DeskGoesOn, GoesBy, IsFrontCall}
use Rattle.rd_front.specs.State.{DeviceDeskState, SessionPass, SessionStation}
use Rattle.rd_workers.specs.Books.{AreLawfulBooks, RunAtTold}
use Rattle.rd_workers.specs.Passes.{IsPassOf}
use Rattle.rd_workers.proofs.StoringLemmas.{journal_in}

-- ---- stations of desks that were closed

module _ {S : Type 0} (Runs : S → Planned → ℕ → Step → List End → S → Type 0) (parked : S → List Parked) (Cuts : S → S → Type 0) where
  -- what holds of the station of each desk
  closed_each : (P : StationState S → Type 0) (Q : DeskTurn S → Type 0) (R : DeskPass S → Type 0) → ((t : DeskTurn S) (p : DeskPass S) (s : StationState S) → Q t → R p → IsClosed Runs parked Cuts (t, p) s → P s)
      → (turns : List (DeskTurn S)) (passes : List (DeskPass S)) (stations : List (StationState S)) → All Q turns → All R passes → AllZip (IsClosed Runs parked Cuts) (zip turns passes) stations → All P stations
  closed_each P Q R each [] passes [] q r closed = All-nil P
  closed_each P Q R each [] passes (s ∷ stations) q r closed = absurd closed
  closed_each P Q R each (t ∷ turns) [] [] q r closed = All-nil P
  closed_each P Q R each (t ∷ turns) [] (s ∷ stations) q r closed = absurd closed
  closed_each P Q R each (t ∷ turns) (p ∷ passes) [] q r closed = absurd closed
  closed_each P Q R each (t ∷ turns) (p ∷ passes) (s ∷ stations) q r closed =
      All-cons P s stations (each t p s (All-head Q t turns q) (All-head R p passes r) closed.0)
      (closed_each P Q R each turns passes stations (All-tail Q t turns q) (All-tail R p passes r) closed.1)

  pub closed_lawful : (turns : List (DeskTurn S)) (passes : List (DeskPass S)) (stations : List (StationState S)) → All (λ (t : DeskTurn S). IsReached Runs parked Cuts t.opening) turns
      → AllZip (IsClosed Runs parked Cuts) (zip turns passes) stations → All (λ (s : StationState S). IsLawful s.journal) stations
  closed_lawful turns passes stations reached closed =
      closed_each (λ (s : StationState S). IsLawful s.journal) (λ (t : DeskTurn S). IsReached Runs parked Cuts t.opening) (λ (p : DeskPass S). Unit {0})
      (λ t p s opening any is. (reached_kept Runs parked Cuts s (led_reached Runs parked Cuts t.opening s p.seen opening is.leads)).lawful) turns passes stations reached (λ k d within. tt) closed

  pub closed_then : (moment : ℕ) (turns : List (DeskTurn S)) (passes : List (DeskPass S)) (stations : List (StationState S)) → All (λ (t : DeskTurn S). (t.opening).journal ≡ []) turns → All (KeepsMoment (Some moment)) passes
      → AllZip (IsClosed Runs parked Cuts) (zip turns passes) stations → All (λ (s : StationState S). All (RunsAt moment) s.journal) stations
  closed_then moment turns passes stations new keeps closed =
      closed_each (λ (s : StationState S). All (RunsAt moment) s.journal) (λ (t : DeskTurn S). (t.opening).journal ≡ []) (KeepsMoment (Some moment))
      (λ t p s none gives is. history_then moment Runs parked Cuts t.opening s p.seen p.made is.leads is.numbers (all_hold (GivesThen (Some moment)) p is.number gives is.all)
      (All-same (RunsAt moment) (t.opening).journal [] none (All-nil (RunsAt moment)))) turns passes stations new keeps closed

-- ---- the books

-- what holds of each of some holds of each that stands beside an id
all_beside : {X : Type 0} (P : X → Type 0) (ids : List ℕ) (xs : List X) → All P xs → All (λ (e : ℕ × X). P e.1) (zip ids xs)
all_beside {X} P [] xs all = All-nil (λ (e : ℕ × X). P e.1)
all_beside {X} P (i ∷ ids) [] all = All-nil (λ (e : ℕ × X). P e.1)
all_beside {X} P (i ∷ ids) (x ∷ xs) all = All-cons (λ (e : ℕ × X). P e.1) (i, x) (zip ids xs) (All-head P x xs all) (all_beside P ids xs (All-tail P x xs all))

of_journals : (P : List Item → Type 0) (books : List (ℕ × History)) → All (λ (e : ℕ × List Item). P e.1) (journals_of books) → All (λ (b : ℕ × History). P (b.1).items) books
of_journals P [] all = All-nil (λ (b : ℕ × History). P (b.1).items)
of_journals P (b ∷ books) all =
    All-cons (λ (c : ℕ × History). P (c.1).items) b books (All-head (λ (e : ℕ × List Item). P e.1) (b.0, (b.1).items) (journals_of books) all)
    (of_journals P books (All-tail (λ (e : ℕ × List Item). P e.1) (b.0, (b.1).items) (journals_of books) all))

-- books that have the first of the journals of stations
in_books : {S : Type 0} (P : List Item → Type 0) (ids : List ℕ) (stations : List (StationState S)) (books : List (ℕ × History)) → All (λ (s : StationState S). P s.journal) stations
    → StoresSome (zip ids (map journal_in stations)) books → All (λ (b : ℕ × History). P (b.1).items) books
in_books {S} P ids stations books all (rest, stored) =
    of_journals P books (All-prefix (λ (e : ℕ × List Item). P e.1) (journals_of books) rest
    (subst (All (λ (e : ℕ × List Item). P e.1)) stored (all_beside P ids (map journal_in stations) (All-map P journal_in stations all))))

module _ (turns : List (DeskTurn ServedDeviceState)) (passes : List (DeskPass ServedDeviceState)) (stations : List SessionStation) (ids : List ℕ) (books : List (ℕ × History))
    (closed : AllZip (IsClosed served_runs served_parked served_cuts) (zip turns passes) stations) (stored : StoresSome (zip ids (map journal_in stations)) books)
  where
    -- each journal is lawful, where the desks began with stations that came to be by calls
    pub books_lawful : All (λ (t : DeskTurn ServedDeviceState). IsServedReached t.opening) turns → AreLawfulBooks books
    books_lawful reached = in_books IsLawful ids stations books (closed_lawful served_runs served_parked served_cuts turns passes stations reached closed) stored

    -- each run is at the moment that was told, where they began with no journal, and all that was given back was to be run then
    pub books_then : (told : Option ℕ) → All (λ (t : DeskTurn ServedDeviceState). (t.opening).journal ≡ []) turns → All (KeepsMoment told) passes → RunAtTold told books
    books_then None new keeps = tt
    books_then (Some moment) new keeps = in_books (All (RunsAt moment)) ids stations books (closed_then served_runs served_parked served_cuts moment turns passes stations new keeps closed) stored

-- the desks of devices that were just opened have no journal
pub none_yet : (devices : List (ℕ × ServedDeclared)) (ids : List ℕ) (turns : List (DeskTurn ServedDeviceState)) → length turns ≡ length ids → zip ids (map (λ (t : DeskTurn ServedDeviceState). t.opening) turns) ≡ map served_station devices
    → All (λ (t : DeskTurn ServedDeviceState). (t.opening).journal ≡ []) turns
none_yet devices [] [] same are = All-nil (λ (t : DeskTurn ServedDeviceState). (t.opening).journal ≡ [])
none_yet devices [] (t ∷ turns) same are = absurd (omega (arith, same))
none_yet devices (i ∷ ids) [] same are = absurd (omega (arith, same))
none_yet [] (i ∷ ids) (t ∷ turns) same are = absurd (cc are)
none_yet (e ∷ devices) (i ∷ ids) (t ∷ turns) same are =
    let here : (i, t.opening) ≡ served_station e = cc are in
    All-cons (λ (u : DeskTurn ServedDeviceState). (u.opening).journal ≡ []) t turns (ap (λ (x : ℕ × SessionStation). (x.1).journal) here) (none_yet devices ids turns (omega (arith, same)) (cc are))

-- ---- what holds of the calls of passes

-- of the passes that desks were made with
pub first_hold : {S : Type 0} (P : Entry DeskCall DeskReply → Type 0) (turns : List (DeskTurn S)) (passes : List (DeskPass S)) → passes ≡ map first_pass turns → All (HoldsOfCalls P) passes
first_hold {S} P turns passes are = All-same (HoldsOfCalls P) passes (map first_pass turns) are (All-map (HoldsOfCalls P) first_pass turns
    (λ k t within. record { own = All-nil P; joined = λ first. All-nil (λ (j : ℕ × ℕ). (j.0 ≢ 0) × All P []) }))

-- of the front's passes, where it holds of each call that a front makes
module _ (P : Entry DeskCall DeskReply → Type 0) (fits : (number : ℕ) (call : DeskCall) (reply : DeskReply) → IsFrontCall call → P (entry number call reply)) where
  goes_hold : (p : SessionPass) (calls : List (DeskCall × DeskReply)) (q : SessionPass) → All (λ (c : DeskCall × DeskReply). IsFrontCall c.0) calls → GoesBy p calls q → HoldsOfCalls P p → HoldsOfCalls P q
  goes_hold p [] q fit goes holds = subst (HoldsOfCalls P) (sym goes) holds
  goes_hold p (c ∷ calls) q fit (next, same, called, later) holds =
      goes_hold next calls q (All-tail (λ (d : DeskCall × DeskReply). IsFrontCall d.0) c calls fit) later
      (call_holds P p next c.0 c.1 same called (fits p.number c.0 c.1 (All-head (λ (d : DeskCall × DeskReply). IsFrontCall d.0) c calls fit)) holds)

  each_hold : (olds news : List DeviceDeskState) (passes : List SessionPass) → All (HoldsOfCalls P) (map (λ (d : DeviceDeskState). d.pass) olds) → AllZip DeskGoesOn olds news → AllZip IsPassOf news passes → All (HoldsOfCalls P) passes
  each_hold [] [] [] hold goes are = All-nil (HoldsOfCalls P)
  each_hold [] [] (p ∷ ps) hold goes are = absurd are
  each_hold [] (n ∷ ns) ps hold goes are = absurd goes
  each_hold (o ∷ os) [] ps hold goes are = absurd goes
  each_hold (o ∷ os) (n ∷ ns) [] hold goes are = absurd are
  each_hold (o ∷ os) (n ∷ ns) (p ∷ ps) hold goes are =
      All-cons (HoldsOfCalls P) p ps
      (subst (HoldsOfCalls P) (sym (are.0).1) (goes_hold o.pass (goes.0).calls n.pass (goes.0).fit (goes.0).goes (All-head (HoldsOfCalls P) o.pass (map (λ (d : DeviceDeskState). d.pass) os) hold)))
      (each_hold os ns ps (All-tail (HoldsOfCalls P) o.pass (map (λ (d : DeviceDeskState). d.pass) os) hold) goes.1 are.1)

front_gives : (told : Option ℕ) (number : ℕ) (call : DeskCall) (reply : DeskReply) → IsFrontCall call → GivesThen told (entry number call reply)
front_gives told number desk.Announce reply fit = gives_none told desk.Announce refl
front_gives told number (desk.Put job) reply fit = gives_none told (desk.Put job) refl
front_gives told number (desk.Work runs) reply fit = absurd fit
front_gives told number desk.Collect reply fit = gives_none told desk.Collect refl
front_gives told number desk.Remove reply fit = gives_none told desk.Remove refl
front_gives told number desk.DropChannel reply fit = gives_none told desk.DropChannel refl
front_gives told number desk.End reply fit = gives_none told desk.End refl

-- a front gives nothing back
pub front_keeps : (told : Option ℕ) (olds news : List DeviceDeskState) (passes own : List SessionPass) → map (λ (d : DeviceDeskState). d.pass) olds ≡ own → All (KeepsMoment told) own → AllZip DeskGoesOn olds news → AllZip IsPassOf news passes
    → All (KeepsMoment told) passes
front_keeps told olds news passes own own_are keeps = each_hold (GivesThen told) (front_gives told) olds news passes (subst (All (KeepsMoment told)) (sym own_are) keeps)
