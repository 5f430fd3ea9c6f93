-- In each world that lines come to the requests that never came are in line, up to a last one; and all of them while the channel is open and nothing is wrong.
use Rattle.std.proofs.Common.{◌≡◌, ◌∙◌, refl, sym, ap, subst, inr, ℕ, ◌≤◌, Bool, List, [], ◌∷◌, ◌++◌, length, Some, None, Option, append_assoc}
use Rattle.std.specs.List.{cons_option}
use Rattle.rd_answered.proofs.GrowingLemmas.{part_grows}
use Rattle.rd_answered.proofs.SessionLemmas.{reached_joins}
use Rattle.rd_answered.specs.Refusing.{DeclareInRoom}
use Rattle.rd_base.specs.declared.journal.Item.{Item}
use Rattle.rd_base.specs.declared.journal.Item.TheVariants.{Came}
use Rattle.rd_base.specs.declared.journal.Key.{Key}
use Rattle.rd_answered.proofs.DirectsAloneLemmas.{kept_open, none_held, none_met}
use Rattle.rd_answered.proofs.DirectsDirectLemmas.{begins_turns, part_turns}
use Rattle.rd_answered.specs.DirectsTurns.{InTurn, MeetsNone}
use Rattle.rd_drive.specs.Ranged.{IsReplyInRange}
use Rattle.rd_answered.proofs.JournalsCameLemmas.{fines}
use Rattle.rd_answered.proofs.JournalsCompletionLemmas.{lost_ranged, runs_good}
use Rattle.rd_answered.proofs.JournalsDeclaredLemmas.{bounded_fit}
use Rattle.rd_answered.proofs.JournalsRunLemmas.{behind_orderly, hears_open}
use Rattle.rd_answered.proofs.JournalsWorkLemmas.{behind_working}
use Rattle.rd_answered.specs.JournalsJobs.{FitsCompletion}
use Rattle.rd_answered.specs.JournalsStations.{AreFit}
use Rattle.rd_answered.proofs.RunsInsides.{hears_inside}
use Rattle.rd_answered.proofs.RunsParts.{IsBehind, MayBe, Part, by_parts, client_hears_one, done, reached_behind, tries_one}
use Rattle.rd_answered.specs.RunsMoves.{Reached}
use Rattle.rd_answered.specs.RunsPremises.{RunPremises}
use Rattle.rd_script.specs.declared.line.NumberedLine.{NumberedLine}
use Rattle.rd_deeds.proofs.Lists.{each_end, each_weaker}
use Rattle.rd_deeds.specs.Joining.{IsAlone}
use Rattle.rd_declared.specs.Declaring.{bare_lines, declared_devices}
use Rattle.rd_deeds.specs.Talk.{Deed, EachAfter, EndsWith, Has, client_reads, journal, stored_by}
use Rattle.rd_world.specs.World.{WorldState, handling_by}

option_has : {A : Type 0} (x : A) (o : Option A) (xs : List A) → Has x xs → Has x (cons_option o xs)
option_has x None xs has = has
option_has x (Some y) xs has = inr has

pub journal_has : (d : ℕ) (x : Item) (more deeds : List Deed) → Has x (journal d deeds) → Has x (journal d (more ++ deeds))
journal_has d x [] deeds has = has
journal_has d x (y ∷ more) deeds has = option_has x (stored_by d y) (journal d (more ++ deeds)) (journal_has d x more deeds has)

-- what is alone by all that was done is so by less
alone_less : (all deeds : List Deed) → EndsWith all deeds → (before : List Deed) (y : Deed) → IsAlone all before y → IsAlone deeds before y
alone_less all deeds (more, same) before (client_reads c m) is = λ r index spelled asked came.
    is r index spelled asked (subst (λ (ds : List Deed). Has (Came (record { channel = c; index = index })) (journal r.device ds)) (sym same) (journal_has r.device (Came (record { channel = c; index = index })) more deeds came))
alone_less all deeds e before y is = tt

module _ (lines : List NumberedLine) (starves : Key → Bool) (fit : AreFit (declared_devices (bare_lines lines))) (premises : RunPremises lines) (all : List Deed) (alone : EachAfter (IsAlone all) all) where
  alone_end : (deeds : List Deed) → EndsWith all deeds → EachAfter (IsAlone deeds) deeds
  alone_end deeds (more, same) = each_weaker (IsAlone all) (IsAlone deeds) (alone_less all deeds (more, same)) deeds (each_end (IsAlone all) more deeds (subst (EachAfter (IsAlone all)) same alone))

  ends_before : (mid deeds more : List Deed) → mid ≡ more ++ deeds → EndsWith all mid → EndsWith all deeds
  ends_before mid deeds more e (later, same) = (later ++ more, same ∙ ap (λ (ds : List Deed). later ++ ds) e ∙ sym (append_assoc later more deeds))

  meets : (w : WorldState) (p : Part) → MayBe lines starves w p → IsBehind lines starves w → EndsWith all (done starves w p).deeds → MeetsNone w p
  meets w (client_hears_one m rest) (kept, some) behind e = λ r spelled.
      let (ordered, handled) = behind_orderly lines starves w fit behind in
      let (c, opened) = hears_open w ordered handled m rest some in
      let i = hears_inside (record w { to_client = (handling_by w.to_client (Some (m, rest))).0 }) m in
      let read : List Deed = client_reads w.channels m ∷ w.deeds in
      none_held FitsCompletion IsReplyInRange (declared_devices (bare_lines lines)) w c ordered opened
      (behind_working FitsCompletion IsReplyInRange lost_ranged runs_good lines starves w fit behind (fines lines starves premises w behind)) m
      (alone_end read (ends_before (done starves w (client_hears_one m rest)).deeds read i.more i.deeds e)).0 r spelled
  meets w (tries_one k) some behind e =
      let ordered = (behind_orderly lines starves w fit behind).0 in
      let (c, opened) = kept_open w k ordered some in
      let (more, same) = part_grows starves w (tries_one k) in
      none_met FitsCompletion IsReplyInRange (declared_devices (bare_lines lines)) w c ordered opened
      (behind_working FitsCompletion IsReplyInRange lost_ranged runs_good lines starves w fit behind (fines lines starves premises w behind)) k some
      (alone_end w.deeds (ends_before (done starves w (tries_one k)).deeds w.deeds more same e))
  meets w p may behind e = tt

  behind_turns : (w : WorldState) → IsBehind lines starves w → EndsWith all w.deeds → InTurn w
  behind_turns w behind =
      by_parts lines starves (λ x. (EndsWith all x.deeds → InTurn x)) (λ e. begins_turns lines)
      (λ x p before after may is e.
      let both = behind_orderly lines starves x fit before in
      let (more, same) = part_grows starves x p in
      part_turns lines starves fit premises x p may before after both.0 both.1 (meets x p may before e) (is (ends_before (done starves x p).deeds x.deeds more same e))) w behind

-- so it is in each world that lines come to
pub reached_in_turn : (lines : List NumberedLine) (starves : Key → Bool) → RunPremises lines → DeclareInRoom lines → length lines ≤ 1000000 → (w : WorldState) → Reached lines starves w → InTurn w
reached_in_turn lines starves premises writable few w reached =
    behind_turns lines starves (bounded_fit lines premises.bounded) premises w.deeds (reached_joins lines starves premises few w reached writable).alone w (reached_behind lines starves w reached) ([], refl)
