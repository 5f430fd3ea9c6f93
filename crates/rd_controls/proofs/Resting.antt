-- What is done stays done along a run, and where a `settle` line ends nothing can happen by itself.
use Rattle.std.proofs.Common.{◌≡◌, ◌∙◌, refl, sym, ap, ℕ, ◌&&◌, Bool, true, false, List, [], ◌∷◌, ◌++◌, append_assoc, map, fold, Some, None, Option}
use Rattle.std.specs.Prelude.{if◌then◌else◌}
use Rattle.std.specs.Option.{IfSome, option_map_or}
use Rattle.rd_base.specs.declared.journal.Key.{Key}
use Rattle.rd_controls.proofs.Acting.{added_unseen, all_dropped, all_refreshed, refreshed_unseen, removed_unseen}
use Rattle.rd_controls.proofs.Unseen.{all_take_unseen, event_unseen}
use Rattle.rd_controls.proofs.Walking.{does_keeps, rounds_keep, settled_keeps, settled_rests}
use Rattle.rd_printer.specs.declared.notice.Notice.{Notice}
use Rattle.rd_runs.specs.Moves.{event_weight}
use Rattle.rd_script.specs.declared.line.Line.{Line}
use Rattle.rd_script.specs.declared.line.Line.TheVariants as line
use Rattle.rd_script.specs.declared.line.NumberedLine.{NumberedLine}
use Rattle.rd_station.specs.Station.{StationState}
use Rattle.rd_world.specs.Acts.{is_settle}
use Rattle.rd_declared.specs.Devices.{PrinterNames}
use Rattle.rd_world.specs.Events as event
use Rattle.rd_world.specs.Events.{Event, act, cutting, dropping, is_channel_open, is_enabled, refreshing}
use Rattle.rd_world.specs.Run.{Most, asked_by, by_event, choices, connects_on, controls, does, drawing, ends_session, event_of, idles, is_quiet, notice_of, plays_line, queueing, settled, some_left}
use Rattle.rd_deeds.specs.Talk.{Deed, EndsWith, adds, host_begins, host_ends, removes, tells}
use Rattle.rd_world.specs.World.{Asked, WorldState}
use Rattle.rd_declared.specs.declared.device.SessionDevice.{SessionDevice}

-- ---- what is done

pub then_more : (a b c : List Deed) → EndsWith c b → EndsWith b a → EndsWith c a
then_more a b c (more, is) (first, same) = (more ++ first, is ∙ ap (λ (ds : List Deed). more ++ ds) same ∙ sym (append_assoc more first a))

one_deed : (d : Deed) (deeds new : List Deed) → EndsWith new (d ∷ deeds) → EndsWith new deeds
one_deed d deeds new grows = then_more deeds (d ∷ deeds) new grows (d ∷ [], refl)

module _ (ids : List ℕ) (lines : List NumberedLine) where
  -- whatever happens, what was done stays
  pub event_grows : (starves : Key → Bool) (w : WorldState) (e : Event) → EndsWith (act starves w e).deeds w.deeds
  event_grows starves w (event.issue a) = (event_unseen starves w (event.issue a) refl).grows
  event_grows starves w event.host_send = (event_unseen starves w event.host_send refl).grows
  event_grows starves w (event.client_read n) = (event_unseen starves w (event.client_read n) refl).grows
  event_grows starves w event.client_send = (event_unseen starves w event.client_send refl).grows
  event_grows starves w (event.collect device) = (event_unseen starves w (event.collect device) refl).grows
  event_grows starves w (event.host_read n) = (event_unseen starves w (event.host_read n) refl).grows
  event_grows starves w (event.take_job device hand) = (event_unseen starves w (event.take_job device hand) refl).grows
  event_grows starves w (event.apply_job hand) = (event_unseen starves w (event.apply_job hand) refl).grows
  event_grows starves w (event.remove device) = one_deed (removes device) w.deeds _ (removed_unseen ids lines w device).grows
  event_grows starves w (event.add device) =
      let fresh : WorldState = refreshing w device in
      then_more w.deeds fresh.deeds _ (one_deed (adds device) fresh.deeds _ (added_unseen ids lines w device).grows) (refreshed_unseen ids lines w device).grows
  event_grows starves w event.drop_channel =
      let cut : WorldState = fold dropping w (map (λ (e : ℕ × StationState SessionDevice). e.0) w.stations) in
      then_more w.deeds cut.deeds _ (one_deed (host_ends cut.channels) cut.deeds _ (all_take_unseen (cutting w)).grows)
      (all_dropped ids lines (map (λ (e : ℕ × StationState SessionDevice). e.0) w.stations) w).grows
  event_grows starves w event.connect =
      let fresh : WorldState = fold refreshing w (map (λ (e : ℕ × PrinterNames). e.0) w.printers) in
      then_more w.deeds fresh.deeds _ (host_begins _ ∷ [], refl) (all_refreshed ids lines (map (λ (e : ℕ × PrinterNames). e.0) w.printers) w).grows
  event_grows starves w (event.tell n) = (tells n ∷ [], refl)

  module _ (starves : Key → Bool) (most : Most) (before : List Deed) where
    -- with these done before
    abbrev Later : WorldState → Type 0
    Later w = EndsWith w.deeds before

    later_free : (w : WorldState) (e : Event) → event_weight e ≡ 0 → is_enabled w e ≡ true → Later w → Later (act starves w e)
    later_free w e free can l = then_more before w.deeds (act starves w e).deeds (event_grows starves w e) l

    later_event : (w : WorldState) (e : Event) → Later w → Later (act starves w e)
    later_event w e l = then_more before w.deeds (act starves w e).deeds (event_grows starves w e) l

    later_drawn : (w : WorldState) → Later w → Later (drawing w)
    later_drawn w l = l

    pub later_settled : (w : WorldState) → Later w → IfSome (settled starves most.draws w) Later
    later_settled w l = settled_keeps starves Later later_free later_drawn most.draws w l

    later_by : (w : WorldState) (number : ℕ) (e : Event) → Later w → Later (by_event starves most w number e)
    later_by w number e l = by (is_enabled w e)
      where
        by : (b : Bool) → Later (if b then act starves w e else idles w number)
        by true = later_event w e l
        by false = l

    later_connected : (w : WorldState) → Later w → IfSome (connects_on starves most w) Later
    later_connected w l = by (connects_on starves most w) (rounds_keep starves Later later_free later_drawn most.rounds (act starves w event.connect) (later_event w event.connect l))
      where
        by : (o : Option WorldState) → IfSome o (λ v. Later v × (is_quiet v ≡ true)) → IfSome o Later
        by None own = tt
        by (Some v) own = own.0

    later_controls : (w : WorldState) (number : ℕ) (x : Line) → Later w → IfSome (controls starves most w number x) Later
    unfolding controls
    later_controls w number line.Settle l = later_settled w l
    later_controls w number (line.Remove device) l = later_by w number (event.remove device) l
    later_controls w number (line.Add device) l = later_by w number (event.add device) l
    later_controls w number line.Drop l = later_by w number event.drop_channel l
    later_controls w number line.Connect l = by (is_enabled w event.connect)
      where
        by : (b : Bool) → IfSome (if b then connects_on starves most w else Some (idles w number)) Later
        by true = later_connected w l
        by false = l
    later_controls w number (line.Do e) l = by (is_enabled w (event_of w e)) refl
      where
        by : (b : Bool) → is_enabled w (event_of w e) ≡ b → Later (if b then does starves most w e else idles w number)
        by true can = does_keeps starves Later later_free later_drawn most w e can l
        by false cant = l
    later_controls w number x l = by (notice_of x)
      where
        by : (o : Option Notice) → Later (option_map_or (λ n. by_event starves most w number (event.tell n)) o w)
        by None = l
        by (Some n) = later_by w number (event.tell n) l

    pub later_line : (w : WorldState) (x : NumberedLine) → Later w → IfSome (plays_line starves most w x) Later
    later_line w x l = by (asked_by x.line)
      where
        by : (o : Option (ℕ × Asked)) → IfSome (option_map_or (λ (asked : ℕ × Asked). Some (queueing w asked.0)) o (controls starves most w x.number x.line)) Later
        by None = later_controls w x.number x.line l
        by (Some asked) = l

    pub later_end : (w : WorldState) → Later w → IfSome (ends_session starves most w) Later
    later_end w l = by (is_channel_open w && some_left w)
      where
        by : (b : Bool) → IfSome (if b then settled starves most.draws (act starves w event.drop_channel) else Some w) Later
        by true = later_settled (act starves w event.drop_channel) (later_event w event.drop_channel l)
        by false = l

-- ---- where a `settle` line ends

pub settle_rests : (starves : Key → Bool) (most : Most) (w : WorldState) (x : NumberedLine) → is_settle x.line ≡ true → IfSome (plays_line starves most w x) (λ v. choices v ≡ [])
unfolding is_settle asked_by controls
settle_rests starves most w x is = by x.line is
  where
    second : (o : Option WorldState) → IfSome o (λ v. Unit {0} × (choices v ≡ [])) → IfSome o (λ v. choices v ≡ [])
    second None own = tt
    second (Some v) own = own.1

    by : (y : Line) → is_settle y ≡ true
        → IfSome (option_map_or (λ (asked : ℕ × Asked). Some (queueing w asked.0)) (asked_by y) (controls starves most w x.number y)) (λ v. choices v ≡ [])
    by line.Settle is = second (settled starves most.draws w) (settled_rests starves (λ v. Unit {0}) (λ v e free can own. tt) (λ v own. tt) most.draws w tt)
    by y is = absurd cc
