-- What was done stays: each part of a move only adds to the deeds, and what holds of each deed, or of a journal's length, held before.
use Rattle.std.proofs.Common.{◌∙◌, refl, sym, ap, ℕ, ◌<◌, arith, append_assoc, Bool, List, [], ◌∷◌, ◌++◌, map, Some, None, Option, length}
use Rattle.std.specs.List.{cons_option}
use Rattle.rd_base.specs.declared.journal.Item.{Item}
use Rattle.rd_base.specs.declared.journal.Key.{Key}
use Rattle.rd_refused.proofs.RunsInsides.{IsInside, added_inside, all_dropped_inside, all_refreshed_inside, applied_inside, hears_inside, put_inside, removed_inside, stationed}
use Rattle.rd_refused.proofs.RunsParts.{Part, accepts, adds_one, applies_one, begins, client_gets, client_hears_one, client_keeps_part, client_sends_one, collects_one, done, draws_one, ends, hands_out, host_gets, host_hears_one, host_keeps_part, host_sends_one, idle_one, queues_one, refuses, removes_one, takes_one, tells_one, tries_one}
use Rattle.rd_station.specs.Station.{StationState}
use Rattle.rd_declared.specs.Devices.{PrinterNames}
use Rattle.rd_world.specs.Events.{completion_message, deed_on}
use Rattle.rd_deeds.specs.Talk as deed
use Rattle.rd_deeds.specs.Talk.{Deed, EndsWith, completes, journal, stored_by}
use Rattle.rd_world.specs.World.{WorldState, handling_by, with_station}
use Rattle.rd_declared.specs.declared.device.SessionDevice.{SessionDevice}

-- all that was done stays
abbrev pub Grows : WorldState → WorldState → Type 0
Grows w v = EndsWith v.deeds w.deeds

inside_grows : (w v : WorldState) → IsInside w v → Grows w v
inside_grows w v i = (i.more, i.deeds)

-- a deed behind what is done by itself, and one before it
behind_inside : (w x : WorldState) (y : Deed) → IsInside w x → EndsWith (y ∷ x.deeds) w.deeds
behind_inside w x y i = (y ∷ i.more, ap (λ (ds : List Deed). y ∷ ds) i.deeds)

pub part_grows : (starves : Key → Bool) (w : WorldState) (p : Part) → Grows w (done starves w p)
part_grows starves w (accepts a asked named t number) = (deed.submits a named asked.op ∷ [], refl)
part_grows starves w (refuses a asked cause) = ([], refl)
part_grows starves w (hands_out a number t had None) = (deed.takes number ∷ [], refl)
part_grows starves w (hands_out a number t had (Some asked)) = (deed.takes number ∷ [], refl)
part_grows starves w (host_sends_one m) = (deed.host_writes w.channels m ∷ [], refl)
part_grows starves w (host_gets n) = ([], refl)
part_grows starves w host_keeps_part = ([], refl)
part_grows starves w (host_hears_one m rest) = (deed.host_reads w.channels m ∷ [], refl)
part_grows starves w (tells_one n) = (deed.tells n ∷ [], refl)
part_grows starves w begins = behind_inside w _ _ (all_refreshed_inside (map (λ (e : ℕ × PrinterNames). e.0) w.printers) w)
part_grows starves w ends = behind_inside w _ _ (all_dropped_inside (map (λ (e : ℕ × StationState SessionDevice). e.0) w.stations) w)
part_grows starves w (client_sends_one x o) = (deed_on w.channels o ∷ [], refl)
part_grows starves w (client_gets n) = ([], refl)
part_grows starves w client_keeps_part = ([], refl)
part_grows starves w (client_hears_one m rest) =
    let i = hears_inside (record w { to_client = (handling_by w.to_client (Some (m, rest))).0 }) m in
    (i.more ++ deed.client_reads w.channels m ∷ [], i.deeds ∙ sym (append_assoc i.more (deed.client_reads w.channels m ∷ []) w.deeds))
part_grows starves w (tries_one k) = let i = put_inside (record w { kept = None }) k.device k.job in (i.more, i.deeds)
part_grows starves w (collects_one d s after c) = behind_inside w (with_station w d after) (completes c.key (completion_message d c)) (stationed w d after)
part_grows starves w (takes_one d hand s after job) = inside_grows w (with_station w d after) (stationed w d after)
part_grows starves w (applies_one hand d job o) = inside_grows w _ (applied_inside starves w hand d job o)
part_grows starves w (removes_one d o) = inside_grows w _ (removed_inside w d o)
part_grows starves w (adds_one d names o) = inside_grows w _ (added_inside w d names o)
part_grows starves w (queues_one a) = ([], refl)
part_grows starves w (idle_one number) = ([], refl)
part_grows starves w draws_one = ([], refl)

-- a journal was no longer before
few_one : (n : ℕ) (o : Option Item) (js : List Item) → length (cons_option o js) < n → length js < n
few_one n None js few = few
few_one n (Some x) js few = omega (arith, few)

pub few_end : (n d : ℕ) (more deeds : List Deed) → length (journal d (more ++ deeds)) < n → length (journal d deeds) < n
few_end n d [] deeds few = few
few_end n d (y ∷ more) deeds few = few_end n d more deeds (few_one n (stored_by d y) (journal d (more ++ deeds)) few)
