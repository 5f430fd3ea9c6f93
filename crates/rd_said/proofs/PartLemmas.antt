-- What each part of a move adds to what was done, where no channel begins or ends by it.
use Rattle.std.proofs.Common.{◌≡◌, ◌∙◌, refl, sym, ap, Bool, List, [], ◌∷◌, ◌++◌, Some, None, Option, append_assoc}
use Rattle.std.specs.Option.{option_map_or}
use Rattle.rd_base.specs.declared.journal.Key.{Key}
use Rattle.rd_acted.proofs.RunsInsides.{AreOwn, IsInside, Outside, added_inside, applied_inside, hears_inside, put_inside, removed_inside, stationed}
use Rattle.rd_acted.proofs.RunsParts.{Part, accepts, adds_one, applies_one, begins, client_gets, client_hears_one, client_keeps_part, client_sends_one, collects_one, done, draws_one, ends, hands_out, host_gets, host_hears_one, host_keeps_part, host_sends_one, idle_one, queues_one, refuses, removes_one, takes_one, tells_one, tries_one}
use Rattle.rd_world.specs.Events.{completion_message, deed_on}
use Rattle.rd_deeds.specs.Talk as deed
use Rattle.rd_deeds.specs.Talk.{Deed, client_reads, client_writes, completes}
use Rattle.rd_world.specs.World.{WorldState, handling_by, with_deed, with_station}
use Rattle.rd_said.proofs.SameLemmas.{ArePassing, IsPassing}

-- no channel begins or ends between the first world and the second
pub record Passes (w v : WorldState) : Type 0 where
  pub more : List Deed
  pub passing : ArePassing more
  pub deeds : v.deeds ≡ more ++ w.deeds
  pub channels : v.channels ≡ w.channels

passes_none : {w v : WorldState} → v.deeds ≡ w.deeds → v.channels ≡ w.channels → Passes w v
passes_none same channels = record { more = []; passing = tt; deeds = same; channels = channels }

passes_one : {w v : WorldState} (y : Deed) → IsPassing y → v.deeds ≡ y ∷ w.deeds → v.channels ≡ w.channels → Passes w v
passes_one y pass same channels = record { more = y ∷ []; passing = (pass, tt); deeds = same; channels = channels }

own_passing : (more : List Deed) → AreOwn more → ArePassing more
own_passing [] own = tt
own_passing (deed.stores d x ∷ more) own = (tt, own_passing more own.1)
own_passing (deed.removes d ∷ more) own = (tt, own_passing more own.1)
own_passing (deed.adds d ∷ more) own = (tt, own_passing more own.1)
own_passing (y ∷ more) own = absurd own.0

passing_more : (more others : List Deed) → ArePassing more → ArePassing others → ArePassing (more ++ others)
passing_more [] others pass rest = rest
passing_more (y ∷ more) others pass rest = (pass.0, passing_more more others pass.1 rest)

pub passes_inside : (w v : WorldState) → IsInside w v → Passes w v
passes_inside w v i = record { more = i.more; passing = own_passing i.more i.own; deeds = i.deeds; channels = ap (λ (o : Outside). o.channels) i.same }

passes_by : {w x v : WorldState} → Passes w x → Passes x v → Passes w v
passes_by {w} first second = record {
  more = second.more ++ first.more;
  passing = passing_more second.more first.more second.passing first.passing;
  deeds = second.deeds ∙ ap (λ (ds : List Deed). second.more ++ ds) first.deeds ∙ sym (append_assoc second.more first.more w.deeds);
  channels = second.channels ∙ first.channels;
}

-- no channel begins or ends by the part
abbrev pub IsWithin : Part → Type 0
IsWithin begins = ⊥
IsWithin ends = ⊥
IsWithin p = Unit {0}

pub part_passes : (starves : Key → Bool) (w : WorldState) (p : Part) → IsWithin p → Passes w (done starves w p)
part_passes starves w begins within = absurd within
part_passes starves w ends within = absurd within
part_passes starves w (accepts a asked named t number) within = passes_one (deed.submits a named asked.op) tt refl refl
part_passes starves w (refuses a asked cause) within = passes_none refl refl
part_passes starves w (hands_out a number t had None) within = passes_one (deed.takes number) tt refl refl
part_passes starves w (hands_out a number t had (Some asked)) within = passes_one (deed.takes number) tt refl refl
part_passes starves w (host_sends_one m) within = passes_one (deed.host_writes w.channels m) tt refl refl
part_passes starves w (host_gets n) within = passes_none refl refl
part_passes starves w host_keeps_part within = passes_none refl refl
part_passes starves w (host_hears_one m rest) within = passes_one (deed.host_reads w.channels m) tt refl refl
part_passes starves w (tells_one n) within = passes_one (deed.tells n) tt refl refl
part_passes starves w (client_sends_one x o) within = passes_one (deed_on w.channels o) (by o.answers) refl refl
  where
    by : (a : Option Key) → IsPassing (option_map_or (λ key. completes key o.message) a (client_writes w.channels o.message))
    by None = tt
    by (Some key) = tt
part_passes starves w (client_gets n) within = passes_none refl refl
part_passes starves w client_keeps_part within = passes_none refl refl
part_passes starves w (client_hears_one m rest) within =
    let x : WorldState = record w { to_client = (handling_by w.to_client (Some (m, rest))).0 } in
    let first : Passes w (with_deed x (client_reads w.channels m)) = passes_one (client_reads w.channels m) tt refl refl in
    passes_by first (passes_inside (with_deed x (client_reads w.channels m)) (done starves w (client_hears_one m rest)) (hears_inside x m))
part_passes starves w (tries_one k) within =
    let i = put_inside (record w { kept = None }) k.device k.job in
    record { more = i.more; passing = own_passing i.more i.own; deeds = i.deeds; channels = ap (λ (o : Outside). o.channels) i.same }
part_passes starves w (collects_one d s after c) within =
    let x : WorldState = with_station w d after in
    let last : Passes x (done starves w (collects_one d s after c)) = passes_one (completes c.key (completion_message d c)) tt refl refl in
    passes_by (passes_inside w x (stationed w d after)) last
part_passes starves w (takes_one d hand s after job) within = let i = stationed w d after in record { more = i.more; passing = own_passing i.more i.own; deeds = i.deeds; channels = refl }
part_passes starves w (applies_one hand d job o) within = passes_inside w _ (applied_inside starves w hand d job o)
part_passes starves w (removes_one d o) within = passes_inside w _ (removed_inside w d o)
part_passes starves w (adds_one d names o) within = passes_inside w _ (added_inside w d names o)
part_passes starves w (queues_one a) within = passes_none refl refl
part_passes starves w (idle_one number) within = passes_none refl refl
part_passes starves w draws_one within = passes_none refl refl
