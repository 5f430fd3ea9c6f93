-- What a client has to send on the channel that is open is what would be left to be said if the channel ended.
use Rattle.std.proofs.Common.{◌≡◌, ◌∙◌, refl, sym, ap, subst, inl, inr, ℕ, ◌+◌, ◌==◌, ◌&&◌, Bool, true, false, arith, eq-eqb, eqb-true, List, [], ◌∷◌, ◌++◌, length, map, fold, Some, None, Option, append-nil}
use Rattle.std.specs.Prelude.{filter, if◌then◌else◌, not}
use Rattle.std.specs.List.{AllByRecursion, cons_option}
use Rattle.std.specs.Option.{IfSome, option_map_or}
use Rattle.std.proofs.lemmas.List.Elements.{filter-append}
use Rattle.rd_acted.proofs.TellLemmas.{TellsAs}
use Rattle.rd_acted.specs.AnsweredRefusing.{IsSaying}
use Rattle.rd_base.specs.declared.journal.Cause.TheVariants.{Dropped}
use Rattle.rd_base.specs.declared.journal.Item.{Item}
use Rattle.rd_base.specs.declared.journal.Item.TheVariants.{Cut}
use Rattle.rd_base.specs.declared.journal.Key.{Key}
use Rattle.rd_base.specs.Lawful.{IsBelow}
use Rattle.rd_client.specs.Core.{Outgoing}
use Rattle.rd_acted.specs.DirectsTurns.{DirectTurn, InTurn, kept_at, never, said}
use Rattle.rd_acted.proofs.JournalsCameLemmas.{never_came}
use Rattle.rd_acted.proofs.JournalsHeldLemmas.{stored_deeds}
use Rattle.rd_acted.proofs.JournalsServingLemmas.{came_is_named}
use Rattle.rd_acted.specs.JournalsJobs.{IsSpelledOut}
use Rattle.rd_acted.specs.JournalsOrderly.{IsNext, Orderly}
use Rattle.rd_acted.specs.JournalsStanding.{IsNamed, IsOut, IsStanding, IsUnserved, pending_of}
use Rattle.rd_acted.proofs.RunsKeysOn.{AnswersOn}
use Rattle.rd_station.specs.Station as station
use Rattle.rd_station.specs.Station.{StationState}
use Rattle.rd_declared.specs.Devices.{Declared, device_cut}
use Rattle.rd_world.specs.Events.{cutting, dropping}
use Rattle.rd_deeds.specs.Talk.{Deed, EndsWith, Has, client_read, host_ends, is_request, journal, stores}
use Rattle.rd_deeds.specs.Told.{came, requests_to, told, without_last}
use Rattle.rd_world.specs.World.{Kept, WorldState, station_at, with_station}
use Rattle.rd_declared.specs.declared.device.SessionDevice.{SessionDevice}
use Rattle.rd_said.proofs.LastLemmas.{IsKeptLast, last_asked, requests_end}
use Rattle.rd_said.proofs.SameLemmas.{SameOn, same_by, same_none, same_one}
use Rattle.rd_said.specs.Rest.{IsAnswerOn, RefusesUnserved, WasLeft}

abbrev Of : Type 0
Of = StationState SessionDevice

abbrev now : WorldState → Option ℕ
now w = ((w.side).table).channel

not_below : (key : Key) → IsBelow key key → ⊥
not_below key (inl less) = omega (arith, less)
not_below key (inr less) = omega (arith, less.1)

-- What holds of a world on whose channel the client may go on: its jobs, its answers and what it says are as they should be, and nothing is wrong.
pub record GoesOn (devices : List (ℕ × Declared)) (w : WorldState) : Type 0 where
  pub opened : now w ≡ Some w.channels
  pub fine : ((w.client).core).fault ≡ None
  pub ordered : Orderly w
  pub standing : IsStanding w
  pub spelled : IsSpelledOut devices w
  pub saying : IsSaying w
  pub turns : InTurn w
  pub last : IsKeptLast w.kept (w.client).asked
  pub answers : AllByRecursion (AnswersOn w.channels) ((w.client).core).outbox
  pub tells : TellsAs devices w

answers_on : (c : ℕ) (os : List Outgoing) → AllByRecursion (AnswersOn c) os → AllByRecursion (IsAnswerOn c) os
answers_on c [] all = tt
answers_on c (o ∷ os) all = ((all.0).0, answers_on c os all.1)

answer_on : (c : ℕ) (os : List Outgoing) (o : Outgoing) → AllByRecursion (AnswersOn c) os → Has o os → IsAnswerOn c o
answer_on c [] o all has = absurd has
answer_on c (x ∷ os) o all (inl same) = subst (IsAnswerOn c) (sym same) (all.0).0
answer_on c (x ∷ os) o all (inr has) = answer_on c os o all.1 has

module _ (devices : List (ℕ × Declared)) (w : WorldState) (is : GoesOn devices w) where
  c : ℕ
  c = w.channels

  os : List Outgoing
  os = ((w.client).core).outbox

  -- a key that no journal names never came
  unnamed_never : (key : Key) → key.channel ≡ w.channels → (IsNamed w.stations key → ⊥) → (d : ℕ) → came w.channels (journal d w.deeds) key.index ≡ false
  unnamed_never key own none d =
      ap (λ (n : ℕ). came n (journal d w.deeds) key.index) (sym own) ∙ never_came key (journal d w.deeds) (λ has. none (came_is_named w is.ordered d key has))

  out_unserved : (o : Outgoing) → Has o ((w.client).core).outbox → RefusesUnserved w.channels w.deeds o
  out_unserved o has key e =
      let own : key.channel ≡ w.channels = subst (λ (a : Option Key). IfSome a (λ (k : Key). k.channel ≡ w.channels)) e (answer_on w.channels ((w.client).core).outbox o is.answers has) in
      let unserved : IsUnserved w.channels (w.client).asked w.stations (pending_of w.kept) key =
      subst (λ (a : Option Key). IsOut (IsUnserved w.channels (w.client).asked w.stations (pending_of w.kept)) a o.message) e ((is.standing).out o has) in
      ((is.spelled).out o has key e, unnamed_never key own unserved.unnamed)

  -- the key of a job that is kept back is named by no journal
  kept_unnamed : (k : Kept) → IsNext w.stations w.channels (w.client).asked w.deeds k.device k.job → IsNamed w.stations k.job.key → ⊥
  kept_unnamed k next (d, s, has, names) = not_below k.job.key (next.above d s has k.job.key names)

  each_request : (d : ℕ) → EndsWith (never w.channels (journal d w.deeds) (said w.channels d ((w.client).core).outbox (told w.channels d w.deeds)))
      (never w.channels (journal d w.deeds) (requests_to d (without_last (client_read w.channels w.deeds))))
  each_request d = by w.kept refl
    where
      j : List Item
      j = journal d w.deeds

      line : List ℕ
      line = said w.channels d ((w.client).core).outbox (told w.channels d w.deeds)

      reqs : List ℕ
      reqs = requests_to d (client_read w.channels w.deeds)

      older : List ℕ
      older = requests_to d (without_last (client_read w.channels w.deeds))

      turn : DirectTurn w.channels (journal d w.deeds) reqs (cons_option (kept_at w.channels d w.kept) line) ((w.client).core).fault (now w)
      turn = (is.turns).at w.channels d

      all_told : never w.channels j reqs ≡ never w.channels j (cons_option (kept_at w.channels d w.kept) line)
      all_told = turn.stands ∙ ap (λ (xs : List ℕ). xs ++ never w.channels j (cons_option (kept_at w.channels d w.kept) line)) (turn.all is.fine is.opened)

      plainly : never w.channels j reqs ≡ never w.channels j line → EndsWith (never w.channels j line) (never w.channels j older)
      plainly same =
          let (first, parts) = requests_end d (client_read w.channels w.deeds) in
          (never w.channels j first, sym same ∙ ap (never w.channels j) parts ∙ filter-append (λ index. not (came w.channels j index)) first older)

      kept_first : (k : Kept) → w.kept ≡ Some k → k.device ≡ d → k.job.key.channel ≡ w.channels → never w.channels j reqs ≡ never w.channels j (k.job.key.index ∷ line) → EndsWith (never w.channels j line) (never w.channels j older)
      kept_first k e device own same =
          let next : IsNext w.stations w.channels (w.client).asked w.deeds k.device k.job = (is.ordered).kept_next k e in
          let count : length (filter is_request (client_read w.channels w.deeds)) ≡ k.job.key.index + 1 = (is.ordered).counted is.fine ∙ sym (is.last k e) in
          let newest : reqs ≡ k.job.key.index ∷ older = last_asked d k.job.key.index next.request (client_read w.channels w.deeds) next.read (sym next.device_is ∙ device) count in
          let none : came w.channels j k.job.key.index ≡ false = unnamed_never k.job.key own (kept_unnamed k next) d in
          let first : (xs : List ℕ) → never w.channels j (k.job.key.index ∷ xs) ≡ k.job.key.index ∷ never w.channels j xs =
          λ xs. ap (λ (b : Bool). if not b then k.job.key.index ∷ never w.channels j xs else never w.channels j xs) none in
          let both : k.job.key.index ∷ never w.channels j older ≡ k.job.key.index ∷ never w.channels j line = sym (first older) ∙ ap (never w.channels j) (sym newest) ∙ same ∙ first line in
          ([], sym (cc both))

      by : (o : Option Kept) → w.kept ≡ o → EndsWith (never w.channels j line) (never w.channels j older)
      by None e = plainly (all_told ∙ ap (λ (o : Option Kept). never w.channels j (cons_option (kept_at w.channels d o) line)) e)
      by (Some k) e = at (k.device == d) refl
        where
          own : k.job.key.channel ≡ w.channels
          own = ((is.ordered).kept_next k e).channel

          same : never w.channels j reqs ≡ never w.channels j (cons_option (kept_at w.channels d (Some k)) line)
          same = all_told ∙ ap (λ (o : Option Kept). never w.channels j (cons_option (kept_at w.channels d o) line)) e

          own_at : (b : Bool) → (k.device == d) ≡ b → kept_at w.channels d (Some k) ≡ (if b then Some k.job.key.index else None)
          own_at b f = ap (λ (x : Bool). if x && k.device == d then Some k.job.key.index else None) (eq-eqb k.job.key.channel w.channels own) ∙ ap (λ (x : Bool). if x then Some k.job.key.index else None) f

          at : (b : Bool) → (k.device == d) ≡ b → EndsWith (never w.channels j line) (never w.channels j older)
          at true f = kept_first k e (eqb-true k.device d f) own (same ∙ ap (λ (o : Option ℕ). never w.channels j (cons_option o line)) (own_at true f))
          at false f = plainly (same ∙ ap (λ (o : Option ℕ). never w.channels j (cons_option o line)) (own_at false f))

  pub left_now : WasLeft devices w.channels ((w.client).core).outbox w.deeds
  left_now = record {
    on = answers_on w.channels ((w.client).core).outbox is.answers;
    refuse = (is.saying).out;
    unserved = out_unserved;
    each = each_request;
    tells = (is.tells).now;
  }

-- ---- the channel ends

dropping_same : (c : ℕ) (w : WorldState) (d : ℕ) → SameOn c (dropping w d).deeds w.deeds
dropping_same c w d = by (station_at w d) refl
  where
    by : (o : Option Of) → station_at w d ≡ o → SameOn c (option_map_or (λ (s : Of). with_station w d (station.drop_channel s (device_cut s.device).state)) o w).deeds w.deeds
    by None there = same_none c w.deeds
    by (Some s) there = at s.live refl
      where
        cut : Of
        cut = station.drop_channel s (device_cut s.device).state

        at : (b : Bool) → s.live ≡ b → SameOn c (with_station w d cut).deeds w.deeds
        at true e =
            let longer : cut.journal ≡ s.journal ++ Cut Dropped ∷ [] = rw e refl in
            subst (λ (ds : List Deed). SameOn c ds w.deeds) (sym (stored_deeds w d s cut there (Cut Dropped ∷ []) longer)) (same_one c w.deeds (stores d (Cut Dropped)) tt)
        at false e =
            let same : cut.journal ≡ s.journal ++ [] = rw e (sym (append-nil s.journal)) in
            subst (λ (ds : List Deed). SameOn c ds w.deeds) (sym (stored_deeds w d s cut there [] same)) (same_none c w.deeds)

all_dropped_same : (c : ℕ) (ds : List ℕ) (w : WorldState) → SameOn c (fold dropping w ds).deeds w.deeds
all_dropped_same c [] w = same_none c w.deeds
all_dropped_same c (d ∷ ds) w = same_by (all_dropped_same c ds (dropping w d)) (dropping_same c w d)

pub cutting_same : (c : ℕ) (w : WorldState) → SameOn c (cutting w).deeds w.deeds
cutting_same c w =
    let stations : List ℕ = map (λ (e : ℕ × Of). e.0) w.stations in
    let cut : WorldState = fold dropping w stations in
    same_by (same_one c cut.deeds (host_ends cut.channels) tt) (all_dropped_same c stations w)
