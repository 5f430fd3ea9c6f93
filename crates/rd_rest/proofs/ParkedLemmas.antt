-- What waits inside a device ran, and its journal says that it was left waiting.
use Rattle.std.proofs.Common.{◌≡◌, ◌∙◌, refl, sym, ap, subst, inl, inr, ℕ, Bool, true, List, ◌++◌, map, fold, Some, None, Option}
use Rattle.rd_base.specs.declared.journal.Item.{Item}
use Rattle.rd_base.specs.declared.journal.Item.TheVariants.{Ran}
use Rattle.rd_base.specs.declared.journal.Key.{Key}
use Rattle.rd_answered.proofs.JournalsHeldLemmas.{found_then}
use Rattle.rd_rest.proofs.CalmLemmas.{Calm, IsCalm, added, all_refreshed_calm, calm_by, calm_same, calm_station, collected_calm, hears_calm, put_calm, removed}
use Rattle.rd_rest.proofs.HandLemmas.{Gave, begins_idle, gave_back, took, took_parked}
use Rattle.rd_rest.specs.Rest.{AreLeftParked}
use Rattle.rd_answered.proofs.RunsIdleLemmas.{cut_idle}
use Rattle.rd_answered.proofs.RunsParts.{MayBe, Part, accepts, adds_one, applies_one, begins, by_parts, client_gets, client_hears_one, client_keeps_part, client_sends_one, collects_one, done, draws_one, ends, hands_out, host_gets, host_hears_one, host_keeps_part, host_sends_one, idle_one, queues_one, reached_behind, refuses, removes_one, takes_one, tells_one, tries_one}
use Rattle.rd_answered.specs.RunsMoves.{Reached}
use Rattle.rd_script.specs.declared.line.NumberedLine.{NumberedLine}
use Rattle.rd_station.proofs.Members.{has_left, has_right}
use Rattle.rd_station.specs.Station as station
use Rattle.rd_station.specs.Station.{StationState}
use Rattle.rd_station.specs.declared.answers.Completion.{Completion}
use Rattle.rd_station.specs.declared.held.ParkedJob.{ParkedJob}
use Rattle.rd_declared.specs.declared.device.SessionDevice.{SessionDevice}
use Rattle.rd_declared.specs.Devices.{PrinterNames}
use Rattle.rd_world.specs.Events.{came_of, refreshing}
use Rattle.rd_deeds.specs.Talk.{Has}
use Rattle.rd_world.specs.World.{WorldState, handling_by, with_station}

abbrev Of : Type 0
Of = StationState SessionDevice

abbrev LeftParked : List Item → Key → Type 0
LeftParked items key = (moment : ℕ) × (starved : Bool) × Has (Ran key moment starved true) items

left_longer : (items more all : List Item) (key : Key) → all ≡ items ++ more → LeftParked items key → LeftParked all key
left_longer items more all key longer (moment, starved, has) = (moment, starved, subst (Has (Ran key moment starved true)) (sym longer) (has_left (Ran key moment starved true) items more has))

calm_left : (w v : WorldState) → IsCalm w v → AreLeftParked w → AreLeftParked v
calm_left w v calm is d t there p has = let (s, at, c) = calm.each d t there in left_longer s.journal c.more t.journal p.key c.longer (is d s at p (c.parked p has))

module _ (lines : List NumberedLine) (starves : Key → Bool) where
  part_left : (w : WorldState) (p : Part) → MayBe lines starves w p → AreLeftParked w → AreLeftParked (done starves w p)
  part_left w (accepts a asked named t number) may is = is
  part_left w (refuses a asked cause) may is = is
  part_left w (hands_out a number t got None) may is = is
  part_left w (hands_out a number t got (Some asked)) may is = is
  part_left w (host_sends_one m) may is = is
  part_left w (host_gets n) may is = is
  part_left w host_keeps_part may is = is
  part_left w (host_hears_one m rest) may is = is
  part_left w (tells_one n) may is = is
  part_left w begins may is = calm_left w (fold refreshing w (map (λ (e : ℕ × PrinterNames). e.0) w.printers)) (all_refreshed_calm (map (λ (e : ℕ × PrinterNames). e.0) w.printers) w) is
  part_left w ends may is = λ d s there x has. absurd (subst (Has x) (cut_idle w d s there).parked has)
  part_left w (client_sends_one c o) may is = is
  part_left w (client_gets n) may is = is
  part_left w client_keeps_part may is = is
  part_left w (client_hears_one m rest) may is =
      let x : WorldState = record w { to_client = (handling_by w.to_client (Some (m, rest))).0 } in calm_left x (done starves w (client_hears_one m rest)) (hears_calm x m) is
  part_left w (tries_one k) may is = calm_left (record w { kept = None }) (done starves w (tries_one k)) (put_calm (record w { kept = None }) k.device k.job) is
  part_left w (collects_one d s after c) (reached, idle, there, made) is =
      calm_left w (done starves w (collects_one d s after c)) (calm_by (with_station w d after) (calm_station w d s after there (subst (λ (r : Of × Option Completion). Calm s r.0) made (collected_calm s))) (calm_same refl refl)) is
  part_left w (takes_one d hand s after job) (free, there, made) is = λ q t at x has. elim (found_then w.stations d after q t at) [
    | inl (here, equal) ↦
        let was : Has x s.parked = subst (λ (ps : List ParkedJob). Has x ps) (ap (λ (y : Of). y.parked) equal ∙ took_parked s after job made) has in
        subst (λ (j : List Item). LeftParked j x.key) (sym (ap (λ (y : Of). y.journal) equal ∙ (took s after job made).1)) (is d s there x was)
    | inr (apart, was) ↦ is q t was x has
  ]
  part_left w (applies_one hand d job None) may is = is
  part_left w (applies_one hand d job (Some s)) (holds, there) is = λ q t at x has. elim (found_then w.stations d new q t at) [
    | inl (here, equal) ↦ subst (λ (y : Of). LeftParked y.journal x.key) (sym equal) (elim (gave.parked x (subst (λ (y : Of). Has x y.parked) equal has)) [
      | inl was ↦ left_longer s.journal gave.more new.journal x.key gave.longer (is d s there x was)
      | inr (moment, starved, last) ↦ (moment, starved, subst (Has (Ran x.key moment starved true)) (sym gave.longer) (has_right (Ran x.key moment starved true) s.journal gave.more last))
    ])
    | inr (apart, was) ↦ is q t was x has
  ]
    where
      new : Of
      new = (station.apply s job w.moment (came_of starves w job s.device)).0

      gave : Gave s job new
      gave = gave_back s job w.moment (came_of starves w job s.device)
  part_left w (removes_one d o) (can, there) is = calm_left w (done starves w (removes_one d o)) (removed w d o there) is
  part_left w (adds_one d names o) (can, printers, there) is = calm_left w (done starves w (adds_one d names o)) (added w d names o there) is
  part_left w (queues_one a) may is = is
  part_left w (idle_one number) may is = is
  part_left w draws_one may is = is

  pub reached_left_parked : (w : WorldState) → Reached lines starves w → AreLeftParked w
  reached_left_parked w reached =
      by_parts lines starves AreLeftParked (λ d s there x has. absurd (subst (Has x) (begins_idle lines starves d s there).parked has)) (λ x p before after may is. part_left x p may is) w (reached_behind lines starves w reached)
