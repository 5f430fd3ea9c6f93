-- After the last line of a run nothing can happen by itself at some world, and then the run ends, or a channel ends and what is queued is issued. What leads there stands in `Leading` of `rd_controls`, for itself alone.
use Rattle.std.proofs.Common.{◌≡◌, ◌∙◌, refl, sym, ap, subst, inl, inr, ℕ, ◌+◌, ◌≤◌, ◌&&◌, Bool, true, false, List, [], ◌∷◌, length, map, fold, Some, None, Option, arith}
use Rattle.std.specs.Prelude.{if◌then◌else◌, is_some, not}
use Rattle.std.specs.List.{AllByRecursion}
use Rattle.std.specs.Option.{IfSome, option_and_then, option_map_or}
use Rattle.std.proofs.lemmas.Map.Keys.{sorted_from_strictly_increasing}
use Rattle.rd_base.specs.declared.journal.Key.{Key}
use Rattle.rd_client.specs.Core as client
use Rattle.rd_controls.proofs.Acting.{SeenAs, added_as, added_unseen, begun_as, dropped_as, errand_idled, idled_as, passed, refreshed_unseen, removed_as, removed_unseen, told_as}
use Rattle.rd_rest.specs.Ending.{EndsAtRest}
use Rattle.rd_rest.proofs.DroppedLemmas.{IsDropped, drop_closed, dropped_drawn, dropped_free}
use Rattle.rd_controls.proofs.Marks.{first_marks, gone_marks, known_marks}
use Rattle.rd_controls.proofs.Numbers.{Rise, an_errand, no_errand, numbers, picked_reverse}
use Rattle.rd_controls.proofs.Unseen.{client_ready, event_unseen, host_ready, seen}
use Rattle.rd_controls.proofs.Walking.{round_keeps, does_keeps, rounds_keep, settled_keeps, settled_rests}
use Rattle.rd_controls.specs.Controls.{AreReady, AreOrderedLines, NamesKnown}
use Rattle.rd_printer.specs.declared.notice.Notice.{Notice}
use Rattle.rd_answered.specs.RunsMoves.{IsOfLines, MayPass, RunMove, ReachedWithin, draws, event_weight, happens, idle, after_move, queues, weight, Reached}
use Rattle.rd_script.specs.declared.line.Errand.{Errand}
use Rattle.rd_script.specs.declared.line.Line.{Line}
use Rattle.rd_script.specs.declared.line.Line.TheVariants as line
use Rattle.rd_script.specs.declared.line.NumberedLine.{NumberedLine}
use Rattle.rd_world.proofs.PlayingLemmas.{may_connect}
use Rattle.rd_world.specs.Acts.{act_by, is_errand, is_errand_at}
use Rattle.rd_world.specs.Control.{Control, added_at, connected, control_of, controlled, dropped_at, idled, is_among, noticed_at, removed_at, where_open}
use Rattle.rd_declared.specs.Devices.{Declared}
use Rattle.rd_world.specs.Events as event
use Rattle.rd_world.specs.Events.{Event, act, is_channel_open, is_enabled}
use Rattle.rd_declared.specs.Declaring.{declared_devices}
use Rattle.rd_world.specs.Run.{Most, applications_of, asked_by, by_event, choices, connects_on, controls, does, drawing, ends_session, event_of, idles, is_quiet, new_world, notice_of, plays, plays_line, queueing, run_of, setting, settled, some_left, world_of, rounds}
use Rattle.rd_deeds.specs.Talk.{Has}
use Rattle.rd_controls.proofs.Opening.{begins_at, opened}
use Rattle.rd_answered.specs.RunsPremises.{RunPremises}
use Rattle.rd_world.specs.World.{Asked, WorldState}

both_true : (a b : Bool) → a ≡ true → b ≡ true → (a && b) ≡ true
both_true true b e f = f
both_true false b e f = absurd cc

first_false : (a b : Bool) → a ≡ false → (a && b) ≡ false
first_false true b e = absurd cc
first_false false b e = refl

second_false : (a b : Bool) → b ≡ false → (a && b) ≡ false
second_false true b e = e
second_false false b e = refl

-- ---- lines that control nothing

pub asked_controls_none : (c : Control) (number : ℕ) (l : Line) (asked : ℕ × Asked) → asked_by l ≡ Some asked → controlled c number l ≡ c
unfolding asked_by controlled notice_of
asked_controls_none c number (line.Open a handle device path) asked e = refl
asked_controls_none c number (line.Create a handle device path disposition access share options attributes) asked e = refl
asked_controls_none c number (line.Close a handle) asked e = refl
asked_controls_none c number (line.Read a handle offset len) asked e = refl
asked_controls_none c number (line.Write a handle offset bytes) asked e = refl
asked_controls_none c number (line.Query a handle class) asked e = refl
asked_controls_none c number (line.Set a handle class bytes) asked e = refl
asked_controls_none c number (line.Volume a handle class) asked e = refl
asked_controls_none c number (line.SetVolume a handle class bytes) asked e = refl
asked_controls_none c number (line.Dir a handle class initial path) asked e = refl
asked_controls_none c number (line.Lock a handle operation wait ranges) asked e = refl
asked_controls_none c number (line.Control a handle code output bytes) asked e = refl
asked_controls_none c number (line.Notify a handle tree filters) asked e = refl
asked_controls_none c number l asked e = absurd cc

-- a line that tells of a printer is no `do` line
no_errand_told : (l : Line) (n : Notice) → notice_of l ≡ Some n → is_errand l ≡ false
unfolding is_errand notice_of
no_errand_told (line.Do e) n told = absurd cc
no_errand_told l n told = refl

-- before the first channel
abbrev pub before_all : List ℕ → Control
before_all ids = record { devices = ids; current = None; channels = 0; absent = []; acts = []; told = []; notices = []; cuts = []; idle = [] }

module _ (lines : List NumberedLine) (starves : Key → Bool) (most : Most) (ids : List ℕ) (rise : Rise (numbers lines)) (premises : RunPremises lines) where
  -- What is seen of a world is what the control lines did, and it is reached behind the lines that are not still to come.
  pub record Base (c : Control) (ls : List NumberedLine) (w : WorldState) : Type 0 where
    pub count : ℕ
    pub reached : ReachedWithin count lines starves w
    pub few : count + length ls ≤ length lines + 1
    pub sees : SeenAs ids lines c ls (seen w)

  -- And where a channel is open both ends are ready.
  pub record Led (c : Control) (ls : List NumberedLine) (w : WorldState) : Type 0 where
    pub base : Base c ls w
    pub client : is_some c.current ≡ true → client_ready w ≡ true
    pub host : is_some c.current ≡ true → host_ready w ≡ true

  -- ---- what happens by itself

  moves_on : (n k : ℕ) (w : WorldState) (m : RunMove) → weight m + n ≤ k → MayPass lines w m → ReachedWithin n lines starves w → ReachedWithin k lines starves (after_move starves w m)
  moves_on n k w m few may r = record {
    moves = m ∷ r.moves;
    pass = (subst (λ (x : WorldState). MayPass lines x m) r.leads may, r.pass);
    few = omega (arith, few, r.few);
    leads = ap (λ (x : WorldState). after_move starves x m) r.leads;
  }

  within_more : (n k : ℕ) (w : WorldState) → n ≤ k → ReachedWithin n lines starves w → ReachedWithin k lines starves w
  within_more n k w few r = record { moves = r.moves; pass = r.pass; few = omega (arith, few, r.few); leads = r.leads }

  free_of_lines : (e : Event) → event_weight e ≡ 0 → IsOfLines lines e
  free_of_lines (event.tell n) free = absurd (omega (arith, free))
  free_of_lines e free = tt

  base_free : (c : Control) (ls : List NumberedLine) (w : WorldState) (e : Event) → event_weight e ≡ 0 → is_enabled w e ≡ true → Base c ls w → Base c ls (act starves w e)
  base_free c ls w e free can b = record {
    count = b.count;
    reached = moves_on b.count b.count w (happens e) (omega (arith, free)) (free_of_lines e free, can) b.reached;
    few = b.few;
    sees = subst (SeenAs ids lines c ls) (sym (event_unseen starves w e free).same) b.sees;
  }

  base_drawn : (c : Control) (ls : List NumberedLine) (w : WorldState) → Base c ls w → Base c ls (drawing w)
  base_drawn c ls w b = record { count = b.count; reached = moves_on b.count b.count w draws (omega arith) tt b.reached; few = b.few; sees = b.sees }

  pub led_free : (c : Control) (ls : List NumberedLine) (w : WorldState) (e : Event) → event_weight e ≡ 0 → is_enabled w e ≡ true → Led c ls w → Led c ls (act starves w e)
  led_free c ls w e free can l =
      let u = event_unseen starves w e free in
      record { base = base_free c ls w e free can l.base; client = λ open_is. u.client (l.client open_is); host = λ open_is. u.host (l.host open_is) }

  pub led_drawn : (c : Control) (ls : List NumberedLine) (w : WorldState) → Led c ls w → Led c ls (drawing w)
  led_drawn c ls w l = record { base = base_drawn c ls w l.base; client = l.client; host = l.host }

  -- ---- a line passes

  -- it did nothing, or nothing that is seen
  pub led_passed : (c : Control) (x : NumberedLine) (ls : List NumberedLine) (w : WorldState) → Led c (x ∷ ls) w → Led c ls w
  led_passed c x ls w l = record {
    base = record { count = l.base.count; reached = l.base.reached; few = omega (arith, l.base.few); sees = passed ids lines c x ls (seen w) l.base.sees };
    client = l.client;
    host = l.host;
  }

  -- by a move that stands for it
  base_by : (c d : Control) (x : NumberedLine) (ls : List NumberedLine) (w : WorldState) (m : RunMove) → weight m ≤ 1 → MayPass lines w m → Base c (x ∷ ls) w
      → SeenAs ids lines d ls (seen (after_move starves w m)) → Base d ls (after_move starves w m)
  base_by c d x ls w m one may b sees =
      record { count = b.count + 1; reached = moves_on b.count (b.count + 1) w m (omega (arith, one)) may b.reached; few = omega (arith, b.few); sees = sees }

  led_queued : (c : Control) (x : NumberedLine) (ls : List NumberedLine) (w : WorldState) (a : ℕ) (asked : Asked) → Has x lines → asked_by x.line ≡ Some (a, asked)
      → Led c (x ∷ ls) w → Led c ls (queueing w a)
  led_queued c x ls w a asked has asks l = record {
    base = base_by c c x ls w (queues a) (omega arith) (x, asked, has, asks) l.base (passed ids lines c x ls (seen w) l.base.sees);
    client = l.client;
    host = l.host;
  }

  led_idle : (c : Control) (x : NumberedLine) (ls : List NumberedLine) (w : WorldState) → is_errand_at lines x.number ≡ false → Led c (x ∷ ls) w → Led (idled c x.number) ls (idles w x.number)
  led_idle c x ls w off l = record {
    base = base_by c (idled c x.number) x ls w (idle x.number) (omega arith) tt l.base (idled_as ids lines c x ls w off l.base.sees);
    client = l.client;
    host = l.host;
  }

  led_errand : (c : Control) (x : NumberedLine) (ls : List NumberedLine) (w : WorldState) → is_errand_at lines x.number ≡ true → Led c (x ∷ ls) w → Led c ls (idles w x.number)
  led_errand c x ls w on l = record {
    base = base_by c c x ls w (idle x.number) (omega arith) tt l.base (errand_idled ids lines c x ls w on l.base.sees);
    client = l.client;
    host = l.host;
  }

  -- ---- a channel begins

  -- the rounds of its beginning end where both ends are ready
  pub begins_led : (c : Control) (ls : List NumberedLine) (w : WorldState) (n : ℕ) → ReachedWithin n lines starves w → n + 1 + length ls ≤ length lines + 1 → SeenAs ids lines c ls (seen w)
      → is_enabled w event.connect ≡ true → ((w.side).table).channel ≡ None → IfSome (connects_on starves most w) (Led (connected c) ls)
  begins_led c ls w n r few sees can none =
      let x : WorldState = act starves w event.connect in
      let b : Base (connected c) ls x = record {
        count = n + 1;
        reached = moves_on n (n + 1) w (happens event.connect) (omega arith) (tt, can) r;
        few = few;
        sees = begun_as ids lines c ls w sees none;
      } in
      let reached : Reached lines starves w = within_more n (length lines + 2) w (omega (arith, few)) r in
      opened starves (Base (connected c) ls) (Led (connected c) ls) (round_keeps starves (Base (connected c) ls) (base_free (connected c) ls) (base_drawn (connected c) ls))
      (λ k v own client_is host_is. go (rounds starves k v) (rounds_keep starves (Led (connected c) ls) (led_free (connected c) ls) (led_drawn (connected c) ls) k v
      (record { base = own; client = λ open_is. client_is; host = λ open_is. host_is }))) most.rounds x b (begins_at lines starves premises w reached none sees.number)
    where
      go : (o : Option WorldState) → IfSome o (λ v. Led (connected c) ls v × (is_quiet v ≡ true)) → IfSome o (Led (connected c) ls)
      go None own = tt
      go (Some v) own = own.0

  -- ---- events of lines

  -- what comes of an event of a line, where it can happen, and where it can't
  by_true : (w : WorldState) (number : ℕ) (e : Event) → is_enabled w e ≡ true → by_event starves most w number e ≡ act starves w e
  by_true w number e can = ap (λ (b : Bool). if b then act starves w e else idles w number) can

  by_false : (w : WorldState) (number : ℕ) (e : Event) → is_enabled w e ≡ false → by_event starves most w number e ≡ idles w number
  by_false w number e cant = ap (λ (b : Bool). if b then act starves w e else idles w number) cant

  open_by : (c : Control) (number x : ℕ) (on : ℕ → Control) → c.current ≡ Some x → where_open c number on ≡ on x
  open_by c number x on open_is = ap (λ (o : Option ℕ). option_map_or on o (idled c number)) open_is

  shut_by : (c : Control) (number : ℕ) (on : ℕ → Control) → c.current ≡ None → where_open c number on ≡ idled c number
  shut_by c number on shut = ap (λ (o : Option ℕ). option_map_or on o (idled c number)) shut

  module _ (c : Control) (x : NumberedLine) (ls : List NumberedLine) (w : WorldState) (has : Has x lines) (l : Led c (x ∷ ls) w) where
    abbrev Sees : Control → WorldState → Type 0
    Sees d v = SeenAs ids lines d ls (seen v)

    sees : SeenAs ids lines c ls (seen w)
    sees = passed ids lines c x ls (seen w) l.base.sees

    shut_now : c.current ≡ None → is_channel_open w ≡ false
    shut_now shut = ap is_some (l.base.sees.channel ∙ shut)

    open_now : (k : ℕ) → c.current ≡ Some k → is_channel_open w ≡ true
    open_now k open_is = ap is_some (l.base.sees.channel ∙ open_is)

    did_nothing : (e : Event) (d : Control) → is_errand x.line ≡ false → d ≡ idled c x.number → is_enabled w e ≡ false → Led d ls (by_event starves most w x.number e)
    did_nothing e d off is cant =
        let own = led_idle c x ls w (no_errand lines x rise has off) l in
        subst (λ (v : WorldState). Led d ls v) (sym (by_false w x.number e cant)) (subst (λ (k : Control). Led k ls (idles w x.number)) (sym is) own)

    did : (e : Event) (d k : Control) → event_weight e ≤ 1 → IsOfLines lines e → d ≡ k → is_enabled w e ≡ true → Led k ls (act starves w e) → Led d ls (by_event starves most w x.number e)
    did e d k one said is can own = subst (λ (v : WorldState). Led d ls v) (sym (by_true w x.number e can)) (subst (λ (y : Control). Led y ls (act starves w e)) (sym is) own)

    base_event : (e : Event) (d : Control) → event_weight e ≤ 1 → IsOfLines lines e → is_enabled w e ≡ true → Sees d (act starves w e) → Base d ls (act starves w e)
    base_event e d one said can own = base_by c d x ls w (happens e) one (said, can) l.base own

    -- ---- each of them

    drop_led : (d : Control) → is_errand x.line ≡ false → d ≡ where_open c x.number (dropped_at c) → Led d ls (by_event starves most w x.number event.drop_channel)
    drop_led d off is = go c.current refl
      where
        go : (o : Option ℕ) → c.current ≡ o → Led d ls (by_event starves most w x.number event.drop_channel)
        go None shut = did_nothing event.drop_channel d off (is ∙ shut_by c x.number (dropped_at c) shut) (shut_now shut)
        go (Some k) open_is =
            did event.drop_channel d (dropped_at c k) (omega arith) tt (is ∙ open_by c x.number k (dropped_at c) open_is) (open_now k open_is)
            (record {
              base = base_event event.drop_channel (dropped_at c k) (omega arith) tt (open_now k open_is) (dropped_as ids lines c ls w k open_is sees);
              client = λ (never : false ≡ true). absurd cc;
              host = λ (never : false ≡ true). absurd cc;
            })

    tell_led : (n : Notice) (d : Control) → notice_of x.line ≡ Some n → d ≡ where_open c x.number (noticed_at c n) → Led d ls (by_event starves most w x.number (event.tell n))
    tell_led n d told is = go c.current refl
      where
        go : (o : Option ℕ) → c.current ≡ o → Led d ls (by_event starves most w x.number (event.tell n))
        go None shut =
            did_nothing (event.tell n) d (no_errand_told x.line n told) (is ∙ shut_by c x.number (noticed_at c n) shut) (first_false (is_channel_open w) (host_ready w) (shut_now shut))
        go (Some k) open_is =
            let can : is_enabled w (event.tell n) ≡ true = both_true (is_channel_open w) (host_ready w) (open_now k open_is) (l.host (ap is_some open_is)) in
            did (event.tell n) d (noticed_at c n k) (omega arith) (x, has, told) (is ∙ open_by c x.number k (noticed_at c n) open_is) can
            (record {
              base = base_event (event.tell n) (noticed_at c n k) (omega arith) (x, has, told) can (told_as ids lines c ls w n k sees);
              client = l.client;
              host = l.host;
            })

    -- a device of the session is there, or gone
    has_known : (device : ℕ) → is_among ids device ≡ true → client.has_device w.client device ≡ true
    has_known device known = known_marks w.client c.absent ids device l.base.sees.marks ∙ known

    is_absent : (device : ℕ) → is_among ids device ≡ true → client.is_gone w.client device ≡ is_among c.absent device
    is_absent device known = gone_marks w.client c.absent ids device l.base.sees.marks ∙ ap (λ (b : Bool). b && is_among c.absent device) known

    ready_now : (k : ℕ) → c.current ≡ Some k → event.is_ready w ≡ true
    ready_now k open_is = both_true (is_channel_open w) (client_ready w) (open_now k open_is) (l.client (ap is_some open_is))

    unready : c.current ≡ None → event.is_ready w ≡ false
    unready shut = first_false (is_channel_open w) (client_ready w) (shut_now shut)

    abbrev removing_on : ℕ → ℕ → Control
    removing_on device channel = if is_among c.absent device then idled c x.number else removed_at c device channel

    remove_led : (device : ℕ) (d : Control) → is_errand x.line ≡ false → is_among ids device ≡ true → d ≡ where_open c x.number (removing_on device)
        → Led d ls (by_event starves most w x.number (event.remove device))
    remove_led device d off known is = go c.current refl
      where
        there : Bool
        there = client.has_device w.client device && not (client.is_gone w.client device)

        on : (k : ℕ) → c.current ≡ Some k → (b : Bool) → is_among c.absent device ≡ b → Led d ls (by_event starves most w x.number (event.remove device))
        on k open_is true absent =
            let gone : not (client.is_gone w.client device) ≡ false = ap not (is_absent device known ∙ absent) in
            did_nothing (event.remove device) d off
            (is ∙ open_by c x.number k (removing_on device) open_is ∙ ap (λ (b : Bool). if b then idled c x.number else removed_at c device k) absent)
            (second_false (event.is_ready w) (client.has_device w.client device && not (client.is_gone w.client device)) (second_false (client.has_device w.client device) (not (client.is_gone w.client device)) gone))
        on k open_is false absent =
            let gone : not (client.is_gone w.client device) ≡ true = ap not (is_absent device known ∙ absent) in
            let can : is_enabled w (event.remove device) ≡ true = both_true (event.is_ready w) (client.has_device w.client device && not (client.is_gone w.client device)) (ready_now k open_is)
            (both_true (client.has_device w.client device) (not (client.is_gone w.client device)) (has_known device known) gone) in
            let u = removed_unseen ids lines w device in
            did (event.remove device) d (removed_at c device k) (omega arith) tt
            (is ∙ open_by c x.number k (removing_on device) open_is ∙ ap (λ (b : Bool). if b then idled c x.number else removed_at c device k) absent) can
            (record {
              base = base_event (event.remove device) (removed_at c device k) (omega arith) tt can (removed_as ids lines c ls w device k sees);
              client = λ open_too. u.client (l.client open_too);
              host = λ open_too. u.host (l.host open_too);
            })

        go : (o : Option ℕ) → c.current ≡ o → Led d ls (by_event starves most w x.number (event.remove device))
        go None shut =
            did_nothing (event.remove device) d off (is ∙ shut_by c x.number (removing_on device) shut)
            (first_false (event.is_ready w) (client.has_device w.client device && not (client.is_gone w.client device)) (unready shut))
        go (Some k) open_is = on k open_is (is_among c.absent device) refl

    abbrev adding_on : ℕ → ℕ → Control
    adding_on device channel = if is_among c.absent device then added_at c device channel else idled c x.number

    add_led : (device : ℕ) (d : Control) → is_errand x.line ≡ false → is_among ids device ≡ true → d ≡ where_open c x.number (adding_on device)
        → Led d ls (by_event starves most w x.number (event.add device))
    add_led device d off known is = go c.current refl
      where
        on : (k : ℕ) → c.current ≡ Some k → (b : Bool) → is_among c.absent device ≡ b → Led d ls (by_event starves most w x.number (event.add device))
        on k open_is true absent =
            let can : is_enabled w (event.add device) ≡ true = both_true (event.is_ready w) (client.is_gone w.client device) (ready_now k open_is) (is_absent device known ∙ absent) in
            let u = added_unseen ids lines w device in
            let v = refreshed_unseen ids lines w device in
            did (event.add device) d (added_at c device k) (omega arith) tt
            (is ∙ open_by c x.number k (adding_on device) open_is ∙ ap (λ (b : Bool). if b then added_at c device k else idled c x.number) absent) can
            (record {
              base = base_event (event.add device) (added_at c device k) (omega arith) tt can (added_as ids lines c ls w device k sees);
              client = λ open_too. u.client (v.client (l.client open_too));
              host = λ open_too. u.host (v.host (l.host open_too));
            })
        on k open_is false absent =
            did_nothing (event.add device) d off
            (is ∙ open_by c x.number k (adding_on device) open_is ∙ ap (λ (b : Bool). if b then added_at c device k else idled c x.number) absent)
            (second_false (event.is_ready w) (client.is_gone w.client device) (is_absent device known ∙ absent))

        go : (o : Option ℕ) → c.current ≡ o → Led d ls (by_event starves most w x.number (event.add device))
        go None shut =
            did_nothing (event.add device) d off (is ∙ shut_by c x.number (adding_on device) shut) (first_false (event.is_ready w) (client.is_gone w.client device) (unready shut))
        go (Some k) open_is = on k open_is (is_among c.absent device) refl

    -- ---- a line

    begin_led : (d : Control) → is_errand x.line ≡ false → d ≡ (if is_some c.current then idled c x.number else connected c)
        → IfSome (if is_enabled w event.connect then connects_on starves most w else Some (idles w x.number)) (Led d ls)
    begin_led d off is = go c.current refl
      where
        go : (o : Option ℕ) → c.current ≡ o → IfSome (if is_enabled w event.connect then connects_on starves most w else Some (idles w x.number)) (Led d ls)
        go None shut =
            let none : ((w.side).table).channel ≡ None = l.base.sees.channel ∙ shut in
            let can : is_enabled w event.connect ≡ true = ap not (shut_now shut) in
            let same : d ≡ connected c = is ∙ ap (λ (o : Option ℕ). if is_some o then idled c x.number else connected c) shut in
            let few : l.base.count + 1 + length ls ≤ length lines + 1 = omega (arith, l.base.few) in
            subst (λ (b : Bool). IfSome (if b then connects_on starves most w else Some (idles w x.number)) (Led d ls)) (sym can)
            (subst (λ (k : Control). IfSome (connects_on starves most w) (Led k ls)) (sym same) (begins_led c ls w l.base.count l.base.reached few sees can none))
        go (Some k) open_is =
            let cant : is_enabled w event.connect ≡ false = ap not (open_now k open_is) in
            let same : d ≡ idled c x.number = is ∙ ap (λ (o : Option ℕ). if is_some o then idled c x.number else connected c) open_is in
            subst (λ (b : Bool). IfSome (if b then connects_on starves most w else Some (idles w x.number)) (Led d ls)) (sym cant)
            (subst (λ (k : Control). Led k ls (idles w x.number)) (sym same) (led_idle c x ls w (no_errand lines x rise has off) l))

    errand_led : (e : Errand) → is_errand x.line ≡ true → Led c ls (if is_enabled w (event_of w e) then does starves most w e else idles w x.number)
    errand_led e on = go (is_enabled w (event_of w e)) refl
      where
        go : (b : Bool) → is_enabled w (event_of w e) ≡ b → Led c ls (if b then does starves most w e else idles w x.number)
        go true can = does_keeps starves (Led c ls) (led_free c ls) (led_drawn c ls) most w e can (led_passed c x ls w l)
        go false cant = led_errand c x ls w (an_errand lines x has on) l

    told_led : (o : Option Notice) → notice_of x.line ≡ o
        → Led (option_map_or (λ n. where_open c x.number (noticed_at c n)) o c) ls (option_map_or (λ n. by_event starves most w x.number (event.tell n)) o w)
    told_led None told = led_passed c x ls w l
    told_led (Some n) told = tell_led n (where_open c x.number (noticed_at c n)) told refl

    controls_led : (y : Line) → x.line ≡ y → NamesKnown ids y → IfSome (controls starves most w x.number y) (Led (controlled c x.number y) ls)
    unfolding controls controlled NamesKnown is_errand notice_of
    controls_led line.Settle same known = settled_keeps starves (Led c ls) (led_free c ls) (led_drawn c ls) most.draws w (led_passed c x ls w l)
    controls_led (line.Remove device) same known = remove_led device (controlled c x.number (line.Remove device)) (ap is_errand same) known refl
    controls_led (line.Add device) same known = add_led device (controlled c x.number (line.Add device)) (ap is_errand same) known refl
    controls_led line.Drop same known = drop_led (controlled c x.number line.Drop) (ap is_errand same) refl
    controls_led line.Connect same known = begin_led (controlled c x.number line.Connect) (ap is_errand same) refl
    controls_led (line.Do e) same known = errand_led e (ap is_errand same)
    controls_led y same known = told_led (notice_of y) (ap notice_of same)

    pub line_led : NamesKnown ids x.line → IfSome (plays_line starves most w x) (Led (controlled c x.number x.line) ls)
    line_led known = go (asked_by x.line) refl
      where
        go : (o : Option (ℕ × Asked)) → asked_by x.line ≡ o
            → IfSome (option_map_or (λ (asked : ℕ × Asked). Some (queueing w asked.0)) o (controls starves most w x.number x.line)) (Led (controlled c x.number x.line) ls)
        go None asks = controls_led x.line refl known
        go (Some (a, asked)) asks =
            subst (λ (d : Control). Led d ls (queueing w a)) (sym (asked_controls_none c x.number x.line (a, asked) asks)) (led_queued c x ls w a asked has asks l)

  -- ---- all lines

  abbrev after_lines : Control → List NumberedLine → Control
  after_lines c ls = fold (λ (d : Control) (x : NumberedLine). controlled d x.number x.line) c ls

  plays_led : (ls : List NumberedLine) → ((x : NumberedLine) → Has x ls → Has x lines) → AllByRecursion (λ (x : NumberedLine). NamesKnown ids x.line) ls
      → (c : Control) (w : WorldState) → Led c ls w → IfSome (plays starves most ls w) (Led (after_lines c ls) [])
  plays_led [] among known c w l = l
  plays_led (x ∷ ls) among known c w l =
      go (plays_line starves most w x) (line_led c x ls w (among x (inl refl)) l known.0) (plays_led ls (λ y has. among y (inr has)) known.1 (controlled c x.number x.line))
    where
      go : (o : Option WorldState) → IfSome o (Led (controlled c x.number x.line) ls)
          → ((v : WorldState) → Led (controlled c x.number x.line) ls v → IfSome (plays starves most ls v) (Led (after_lines c (x ∷ ls)) []))
          → IfSome (option_and_then (plays starves most ls) o) (Led (after_lines c (x ∷ ls)) [])
      go None own next = tt
      go (Some v) own next = next v own

  -- ---- the last world

  abbrev EndsBy : Control → WorldState → Type 0
  EndsBy c w = EndsAtRest lines starves c w

  abbrev AtEnd : Control → WorldState → Type 0
  AtEnd c w = Led c [] w × (choices w ≡ [])

  ends_by : (c : Control) (w : WorldState) → AtEnd c w → IfSome (ends_session starves most w) (EndsBy c)
  ends_by c w (l, rests) = go (is_channel_open w) refl (some_left w) refl
    where
      few : l.base.count ≤ length lines + 2
      few = omega (arith, l.base.few)

      at : Reached lines starves w
      at = let r = l.base.reached in record { moves = r.moves; pass = r.pass; few = omega (arith, few, r.few); leads = r.leads }

      ready : is_some c.current ≡ true → AreReady w
      ready open_is = record { client = l.client open_is; host = l.host open_is }

      still : (is_channel_open w && some_left w) ≡ false → EndsBy c w
      still none = record { last = w; reached = at; rests = rests; acts = picked_reverse act_by w.deeds ∙ l.base.sees.acts; channel = l.base.sees.channel; ready = ready; comes = inl (refl, none) }

      dropped : is_channel_open w ≡ true → IsDropped lines starves w (act starves w event.drop_channel)
      dropped is_open = record {
        reached = (let r = l.base.reached in record {
          moves = happens event.drop_channel ∷ r.moves;
          pass = (subst (λ (x : WorldState). MayPass lines x (happens event.drop_channel)) r.leads (tt, is_open), r.pass);
          few = omega (arith, l.base.few, r.few);
          leads = ap (λ (x : WorldState). act starves x event.drop_channel) r.leads;
        });
        closed = drop_closed starves w rests;
      }

      over : is_channel_open w ≡ true → some_left w ≡ true → (o : Option WorldState) → IfSome o (IsDropped lines starves w) → IfSome o (EndsBy c)
      over is_open waits None own = tt
      over is_open waits (Some v) own = record {
        last = w;
        reached = at;
        rests = rests;
        acts = picked_reverse act_by w.deeds ∙ l.base.sees.acts;
        channel = l.base.sees.channel;
        ready = ready;
        comes = inr (is_open, waits, own.reached, own.closed);
      }

      go : (a : Bool) → is_channel_open w ≡ a → (b : Bool) → some_left w ≡ b → IfSome (if a && b then settled starves most.draws (act starves w event.drop_channel) else Some w) (EndsBy c)
      go true is_open true waits = over is_open waits (settled starves most.draws (act starves w event.drop_channel))
          (settled_keeps starves (IsDropped lines starves w) (dropped_free lines starves premises w) (dropped_drawn lines starves w) most.draws (act starves w event.drop_channel) (dropped is_open))
      go true is_open false waits = still (second_false (is_channel_open w) (some_left w) waits)
      go false is_open b waits = still (first_false (is_channel_open w) (some_left w) is_open)

  pub then_on : (P Q : WorldState → Type 0) (on : WorldState → Option WorldState) (o : Option WorldState) → ((v : WorldState) → P v → IfSome (on v) Q) → IfSome o P → IfSome (option_and_then on o) Q
  then_on P Q on None next own = tt
  then_on P Q on (Some v) next own = next v own

  run_ends : AllByRecursion (λ (x : NumberedLine). NamesKnown ids x.line) lines → SeenAs ids lines (before_all ids) lines (seen (world_of lines))
      → IfSome (run_of most starves lines) (EndsBy (control_of ids lines))
  run_ends known sees =
      let start : ReachedWithin 0 lines starves (world_of lines) = record { moves = []; pass = tt; few = omega arith; leads = refl } in
      let first : Control = before_all ids in
      let begun : Option WorldState = connects_on starves most (world_of lines) in
      let played : Option WorldState = option_and_then (plays starves most lines) begun in
      then_on (AtEnd (control_of ids lines)) (EndsBy (control_of ids lines)) (ends_session starves most) (option_and_then (settled starves most.draws) played) (ends_by (control_of ids lines))
      (then_on (Led (control_of ids lines) []) (AtEnd (control_of ids lines)) (settled starves most.draws) played
      (settled_rests starves (Led (control_of ids lines) []) (led_free (control_of ids lines) []) (led_drawn (control_of ids lines) []) most.draws)
      (then_on (Led (connected first) lines) (Led (control_of ids lines) []) (plays starves most lines) begun (plays_led lines (λ x has. has) known (connected first))
      (begins_led first lines (world_of lines) 0 start (omega arith) sees (may_connect lines) sees.channel)))

-- ---- a run

one_set_seen : (w : WorldState) (l : Line) → seen (setting w l) ≡ seen w
unfolding setting
one_set_seen w (line.Seed number) = refl
one_set_seen w (line.Clock moment) = refl
one_set_seen w (line.Piece most) = refl
one_set_seen w (line.Workers count) = refl
one_set_seen w l = refl

all_set_seen : (ls : List Line) (w : WorldState) → seen (fold setting w ls) ≡ seen w
all_set_seen [] w = refl
all_set_seen (l ∷ ls) w = all_set_seen ls (setting w l) ∙ one_set_seen w l

-- what is seen at first
pub first_sees : (lines : List NumberedLine) → Rise (numbers lines)
    → let ids = map (λ (e : ℕ × Declared). e.0) (declared_devices (map (λ (x : NumberedLine). x.line) lines)) in SeenAs ids lines (before_all ids) lines (seen (world_of lines))
first_sees lines rise =
    let bare : List Line = map (λ (x : NumberedLine). x.line) lines in
    let ids : List ℕ = map (λ (e : ℕ × Declared). e.0) (declared_devices bare) in
    subst (SeenAs ids lines (before_all ids) lines) (sym (all_set_seen bare (new_world (declared_devices bare) (applications_of bare))))
    (record { number = refl; channel = refl; channels = refl; last = tt; marks = first_marks bare; acts = refl; idle = refl; rises = rise })

pub runs_end : (lines : List NumberedLine) (starves : Key → Bool) (most : Most) (w : WorldState)
    → let ids = map (λ (e : ℕ × Declared). e.0) (declared_devices (map (λ (x : NumberedLine). x.line) lines)) in
    (ordered : AreOrderedLines ids lines) (premises : RunPremises lines) → run_of most starves lines ≡ Some w
    → EndsAtRest lines starves (control_of ids lines) w
runs_end lines starves most w ordered premises is =
    let ids : List ℕ = map (λ (e : ℕ × Declared). e.0) (declared_devices (map (λ (x : NumberedLine). x.line) lines)) in
    let rise : Rise (numbers lines) = sorted_from_strictly_increasing (numbers lines) ordered.rise in
    subst (λ (o : Option WorldState). IfSome o (EndsBy lines starves most ids rise premises (control_of ids lines))) is
    (run_ends lines starves most ids rise premises ordered.known (first_sees lines rise))
