-- There is a hand; and where a device was cut off last since a channel ended, its journal names keys of earlier channels.
use Rattle.std.proofs.Common.{◌≡◌, ◌⊎◌, ◌∙◌, refl, sym, ap, subst, inl, inr, ℕ, zero, suc, ◌+◌, ◌-◌, ◌<◌, ◌≤◌, Bool, arith, List, [], ◌∷◌, ◌++◌, length, map, reverse, fold, take, drop, Some, None, Option, append-nil}
use Rattle.std.specs.Prelude.{replicate}
use Rattle.std.specs.Option.{option_map_or}
use Rattle.rd_base.specs.declared.journal.Cause.TheVariants.{Dropped}
use Rattle.rd_base.specs.declared.journal.Item.{Item}
use Rattle.rd_base.specs.declared.journal.Item.TheVariants.{Cut}
use Rattle.rd_base.specs.declared.journal.Key.{Key}
use Rattle.rd_drive.specs.declared.plan.Job.{Job}
use Rattle.rd_answered.proofs.JournalsHeldLemmas.{found_then}
use Rattle.rd_answered.proofs.JournalsRunLemmas.{behind_orderly}
use Rattle.rd_answered.proofs.JournalsServingLemmas.{all_dropped}
use Rattle.rd_answered.proofs.JournalsStandingLemmas.{still_not}
use Rattle.rd_answered.specs.JournalsOrderly.{Orderly, current}
use Rattle.rd_answered.specs.JournalsStations.{AreFit}
use Rattle.rd_rest.proofs.CalmLemmas.{Calm, IsCalm, added, all_refreshed_calm, collected_calm, hears_calm, put_calm, removed}
use Rattle.rd_rest.proofs.HandLemmas.{Gave, gave_back, took}
use Rattle.rd_rest.specs.Rest.{AreOver}
use Rattle.rd_answered.proofs.RunsBeginningLemmas.{Unset, begins_as}
use Rattle.rd_answered.proofs.RunsInsides.{IsInside, Outside, added_inside, hears_inside, put_inside, removed_inside, stationed}
use Rattle.rd_answered.proofs.RunsParts.{MayBe, Part, accepts, adds_one, applies_one, begins, by_parts, client_gets, client_hears_one, client_keeps_part, client_sends_one, collects_one, done, draws_one, ends, hands_out, host_gets, host_hears_one, host_keeps_part, host_sends_one, idle_one, queues_one, reached_behind, refuses, removes_one, takes_one, tells_one, tries_one}
use Rattle.rd_answered.proofs.RunsStanding.{open_inside}
use Rattle.rd_answered.specs.RunsMoves.{Reached}
use Rattle.rd_answered.specs.RunsPremises.{RunPremises}
use Rattle.rd_script.specs.declared.line.NumberedLine.{NumberedLine}
use Rattle.rd_station.specs.Memory.{NamesKey}
use Rattle.rd_station.specs.Station as station
use Rattle.rd_station.specs.Station.{StationState}
use Rattle.rd_station.specs.declared.answers.Completion.{Completion}
use Rattle.rd_station.proofs.Members.{has_right}
use Rattle.rd_world.proofs.OpeningLemmas.{first_within, lines_begin, setting_within}
use Rattle.rd_declared.specs.declared.device.SessionDevice.{SessionDevice}
use Rattle.rd_world.specs.declared.opening.Settings.{Settings}
use Rattle.rd_declared.specs.Devices.{PrinterNames}
use Rattle.rd_world.specs.Events.{came_of, refreshing}
use Rattle.rd_declared.specs.Declaring.{AreDeclarable, bare_lines, declared_devices}
use Rattle.rd_world.specs.Opening.{AreSettings, first_settings, with_line_setting, with_setting}
use Rattle.rd_world.specs.Run.{world_of}
use Rattle.rd_deeds.specs.Talk as deed
use Rattle.rd_deeds.specs.Talk.{Deed, Has, client_reads, open_channel}
use Rattle.rd_world.specs.World.{WorldState, handling_by, station_at, with_deed, with_station}

abbrev Of : Type 0
Of = StationState SessionDevice

-- ---- there is a hand

abbrev SomeHand : WorldState → Type 0
SomeHand w = w.hands ≡ [] → ⊥

not_nothing : {A : Type 0} (xs : List A) (y : A) (ys : List A) → xs ++ y ∷ ys ≡ [] → ⊥
not_nothing [] y ys e = cc (e)
not_nothing (x ∷ xs) y ys e = cc (e)

all_within : (lines : List NumberedLine) (s : Settings) → AreSettings s → AreDeclarable lines → AreSettings (fold with_line_setting s lines)
all_within [] s are each = are
all_within (l ∷ lines) s are each = all_within lines (with_setting s l.line) (setting_within s l.line are each.0) each.1

replicates : (n : ℕ) → 1 ≤ n → replicate {A = Option (ℕ × Job)} n None ≡ [] → ⊥
replicates zero few e = absurd (omega (arith, few))
replicates (suc n) few e = cc (e)

module _ (lines : List NumberedLine) (starves : Key → Bool) where
  calm_some : (w v : WorldState) → IsCalm w v → SomeHand w → SomeHand v
  calm_some w v calm some e = some (sym calm.hands ∙ e)

  part_some : (w : WorldState) (p : Part) → MayBe lines starves w p → SomeHand w → SomeHand (done starves w p)
  part_some w (accepts a asked named t number) may is = is
  part_some w (refuses a asked cause) may is = is
  part_some w (hands_out a number t got None) may is = is
  part_some w (hands_out a number t got (Some asked)) may is = is
  part_some w (host_sends_one m) may is = is
  part_some w (host_gets n) may is = is
  part_some w host_keeps_part may is = is
  part_some w (host_hears_one m rest) may is = is
  part_some w (tells_one n) may is = is
  part_some w begins may is = calm_some w (fold refreshing w (map (λ (e : ℕ × PrinterNames). e.0) w.printers)) (all_refreshed_calm (map (λ (e : ℕ × PrinterNames). e.0) w.printers) w) is
  part_some w ends may is = λ e. is (sym (ap (λ (x : WorldState). x.hands) (all_dropped (map (λ (d : ℕ × Of). d.0) w.stations) w w (record { alone = refl; still = still_not w.stations w.deeds })).alone) ∙ e)
  part_some w (client_sends_one c o) may is = is
  part_some w (client_gets n) may is = is
  part_some w client_keeps_part may is = is
  part_some w (client_hears_one m rest) may is =
      let x : WorldState = record w { to_client = (handling_by w.to_client (Some (m, rest))).0 } in calm_some x (done starves w (client_hears_one m rest)) (hears_calm x m) is
  part_some w (tries_one k) may is = calm_some (record w { kept = None }) (done starves w (tries_one k)) (put_calm (record w { kept = None }) k.device k.job) is
  part_some w (collects_one d s after c) may is = is
  part_some w (takes_one d hand s after job) may is = not_nothing (take (hand - 1) w.hands) (Some (d, job)) (drop hand w.hands)
  part_some w (applies_one hand d job None) may is = not_nothing (take (hand - 1) w.hands) None (drop hand w.hands)
  part_some w (applies_one hand d job (Some s)) may is = not_nothing (take (hand - 1) w.hands) None (drop hand w.hands)
  part_some w (removes_one d o) (can, there) is = calm_some w (done starves w (removes_one d o)) (removed w d o there) is
  part_some w (adds_one d names o) (can, printers, there) is = calm_some w (done starves w (adds_one d names o)) (added w d names o there) is
  part_some w (queues_one a) may is = is
  part_some w (idle_one number) may is = is
  part_some w draws_one may is = is

  module _ (premises : RunPremises lines) where
    first_some : SomeHand (world_of lines)
    first_some e =
        let are = all_within lines first_settings first_within (premises.declared).each in
        replicates (fold with_line_setting first_settings lines).hands are.some_hands (sym (lines_begin lines).hands ∙ e)

    -- there is a hand
    pub reached_some : (w : WorldState) → Reached lines starves w → 1 ≤ length w.hands
    reached_some w reached = by w.hands (by_parts lines starves SomeHand first_some (λ x p before after may is. part_some x p may is) w (reached_behind lines starves w reached))
      where
        by : (hands : List (Option (ℕ × Job))) → (hands ≡ [] → ⊥) → 1 ≤ length hands
        by [] some = absurd (some refl)
        by (h ∷ hands) some = omega arith

  -- ---- channels that are over

  -- the channel that is open, or begins next
  abbrev now : WorldState → ℕ
  now w = current (open_channel w.deeds) w.channels

  last_of : {A : Type 0} (x : A) (xs more earlier : List A) → xs ++ more ≡ earlier ++ x ∷ [] → (more ≡ []) ⊎ Has x more
  last_of x [] more earlier e = inr (subst (Has x) (sym e) (has_right x earlier (x ∷ []) (inl refl)))
  last_of x (y ∷ xs) more [] e = let rest : xs ++ more ≡ [] = cc in inl (none_right xs more rest)
    where
      none_right : {A : Type 0} (xs more : List A) → xs ++ more ≡ [] → more ≡ []
      none_right [] more e = e
      none_right (x ∷ xs) more e = absurd (cc (e))
  last_of x (y ∷ xs) more (z ∷ earlier) e = let rest : xs ++ more ≡ earlier ++ x ∷ [] = cc in last_of x xs more earlier rest

  -- a station that stores this, of which nothing says that its device was dropped
  over_more : (n m : ℕ) (s t : Of) (more : List Item) → t.journal ≡ s.journal ++ more → (Has (Cut Dropped) more → ⊥) → m ≡ n
      → ((earlier : List Item) → s.journal ≡ earlier ++ Cut Dropped ∷ [] → (key : Key) → NamesKey s.journal key → key.channel < n)
      → (earlier : List Item) → t.journal ≡ earlier ++ Cut Dropped ∷ [] → (key : Key) → NamesKey t.journal key → key.channel < m
  over_more n m s t more longer undropped same is earlier closes key names = elim (last_of (Cut Dropped) s.journal more earlier (sym longer ∙ closes)) [
    | inl none ↦
        let equal : t.journal ≡ s.journal = longer ∙ ap (λ (xs : List Item). s.journal ++ xs) none ∙ append-nil s.journal in
        omega (arith, is earlier (sym equal ∙ closes) key (subst (λ (j : List Item). NamesKey j key) equal names), same)
    | inr has ↦ absurd (undropped has)
  ]

  calm_over : (w v : WorldState) → IsCalm w v → now v ≡ now w → AreOver w → AreOver v
  calm_over w v calm same is d t there =
      let (s, at, c) = calm.each d t there in
      over_more (now w) (now v) s t c.more c.longer c.undropped same (is d s at)

  inside_now : (w v : WorldState) → IsInside w v → now v ≡ now w
  inside_now w v i = λ k. current (open_inside w v i k) (ap (λ (o : Outside). o.channels) i.same k)

  station_over : (w : WorldState) (d : ℕ) (s new : Of) → station_at w d ≡ Some s → (more : List Item) → new.journal ≡ s.journal ++ more → (Has (Cut Dropped) more → ⊥) → AreOver w → AreOver (with_station w d new)
  station_over w d s new there more longer undropped is q t at =
      let same : now (with_station w d new) ≡ now w = inside_now w (with_station w d new) (stationed w d new) in
      elim (found_then w.stations d new q t at) [
        | inl (here, equal) ↦ over_more (now w) (now (with_station w d new)) s t more (ap (λ (x : Of). x.journal) equal ∙ longer) undropped same (is d s there)
        | inr (apart, was) ↦ over_more (now w) (now (with_station w d new)) t t [] (sym (append-nil t.journal)) (λ has. has) same (is q t was)
      ]

  part_over : (w : WorldState) (p : Part) → MayBe lines starves w p → Orderly (done starves w p) → AreOver w → AreOver (done starves w p)
  part_over w (accepts a asked named t number) may ordered is = is
  part_over w (refuses a asked cause) may ordered is = is
  part_over w (hands_out a number t got None) may ordered is = is
  part_over w (hands_out a number t got (Some asked)) may ordered is = is
  part_over w (host_sends_one m) may ordered is = is
  part_over w (host_gets n) may ordered is = is
  part_over w host_keeps_part may ordered is = is
  part_over w (host_hears_one m rest) may ordered is = is
  part_over w (tells_one n) may ordered is = is
  part_over w begins may ordered is = λ d t there earlier closes key names.
      let (s, at, c) = (all_refreshed_calm (map (λ (e : ℕ × PrinterNames). e.0) w.printers) w).each d t there in
      let low : key.channel < now w = over_more (now w) (now w) s t c.more c.longer c.undropped refl (is d s at) earlier closes key names in
      let most : now w ≤ w.channels + 1 = at_most (open_channel w.deeds) w.channels in
      omega (arith, low, most)
    where
      at_most : (o : Option ℕ) (channels : ℕ) → current o channels ≤ channels + 1
      at_most None channels = omega arith
      at_most (Some c) channels = omega arith
  part_over w ends may ordered is = λ d s there earlier closes key names. elim ((ordered.held).named d s there key names) [
    | inl less ↦ omega (arith, less)
    | inr here ↦ omega (arith, here.0)
  ]
  part_over w (client_sends_one c o) may ordered is = by o.answers
    where
      by : (a : Option Key) → AreOver (with_deed w (option_map_or (λ key. deed.completes key o.message) a (deed.client_writes w.channels o.message)))
      by None = is
      by (Some key) = is
  part_over w (client_gets n) may ordered is = is
  part_over w client_keeps_part may ordered is = is
  part_over w (client_hears_one m rest) may ordered is =
      let x : WorldState = record w { to_client = (handling_by w.to_client (Some (m, rest))).0 } in
      let v : WorldState = done starves w (client_hears_one m rest) in
      calm_over x v (hears_calm x m) (inside_now (with_deed x (client_reads w.channels m)) v (hears_inside x m)) is
  part_over w (tries_one k) may ordered is =
      let x : WorldState = record w { kept = None } in
      calm_over x (done starves w (tries_one k)) (put_calm x k.device k.job) (inside_now x (done starves w (tries_one k)) (put_inside x k.device k.job)) is
  part_over w (collects_one d s after c) (reached, idle, there, made) ordered is =
      let calm : Calm s after = subst (λ (r : Of × Option Completion). Calm s r.0) made (collected_calm s) in
      station_over w d s after there calm.more calm.longer calm.undropped is
  part_over w (takes_one d hand s after job) (free, there, made) ordered is =
      station_over w d s after there [] ((took s after job made).1 ∙ sym (append-nil s.journal)) (λ has. has) is
  part_over w (applies_one hand d job None) may ordered is = is
  part_over w (applies_one hand d job (Some s)) (holds, there) ordered is =
      let gave : Gave s job (station.apply s job w.moment (came_of starves w job s.device)).0 = gave_back s job w.moment (came_of starves w job s.device) in
      station_over w d s (station.apply s job w.moment (came_of starves w job s.device)).0 there gave.more gave.longer gave.undropped is
  part_over w (removes_one d o) (can, there) ordered is =
      calm_over w (done starves w (removes_one d o)) (removed w d o there) (inside_now w (done starves w (removes_one d o)) (removed_inside w d o)) is
  part_over w (adds_one d names o) (can, printers, there) ordered is =
      calm_over w (done starves w (adds_one d names o)) (added w d names o there) (inside_now w (done starves w (adds_one d names o)) (added_inside w d names o)) is
  part_over w (queues_one a) may ordered is = is
  part_over w (idle_one number) may ordered is = is
  part_over w draws_one may ordered is = is

  module _ (fit : AreFit (declared_devices (bare_lines lines))) where
    -- nothing is named at the beginning
    first_over : AreOver (world_of lines)
    first_over d s there earlier closes key names =
        let ordered : Orderly (world_of lines) = (behind_orderly lines starves (world_of lines) fit (record { parts = []; may = tt; few = omega arith; leads = refl })).0 in
        let none : (world_of lines).deeds ≡ [] = begun in
        let told : reverse (deed.journal d (world_of lines).deeds) ≡ s.journal = (ordered.held).tied d s there in
        let empty : [] ≡ s.journal = ap (λ (ds : List Deed). reverse (deed.journal d ds)) (sym none) ∙ told in
        absurd (not_nothing earlier (Cut Dropped) [] (sym closes ∙ sym empty))
      where
        begun : (world_of lines).deeds ≡ []
        begun = begins_as lines (λ (u : Unset). u.deeds ≡ []) refl

    pub reached_over : (w : WorldState) → Reached lines starves w → AreOver w
    reached_over w reached = by_parts lines starves AreOver first_over (λ x p before after may is. part_over x p may (behind_orderly lines starves (done starves x p) fit after).0 is) w (reached_behind lines starves w reached)
