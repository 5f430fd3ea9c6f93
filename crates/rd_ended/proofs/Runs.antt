-- Every run ends: what each line comes to is reached by some draws and rounds, and those of all lines together do for the run.
use Rattle.std.proofs.Common.{◌≡◌, ◌∙◌, refl, sym, ap, subst, inl, inr, ℕ, suc, ◌+◌, ◌≤◌, ◌&&◌, arith, Bool, true, false, List, [], ◌∷◌, length, map, fold, Some, None, Option}
use Rattle.std.specs.Prelude.{if◌then◌else◌, is_some}
use Rattle.std.specs.List.{AllByRecursion}
use Rattle.std.specs.Option.{option_and_then, option_map_or}
use Rattle.rd_base.specs.declared.journal.Key.{Key}
use Rattle.rd_opening.proofs.ControlsWalking.{does_keeps}
use Rattle.rd_hello.specs.Hello.{hello_bytes}
use Rattle.rd_hello.specs.Own.{host_announce}
use Rattle.rd_opening.proofs.Greeting.{IsOpening}
use Rattle.rd_opening.proofs.TellingCounts.{tellings}
use Rattle.rd_opening.proofs.OrdersMeeting.{behind_meets, inside_traffic}
use Rattle.rd_opening.proofs.OrdersPhaseLemmas.{IsGreeting, announces_greet}
use Rattle.rd_opening.specs.OrdersOrders.{DeclaresWritable}
use Rattle.rd_pending.specs.Table as table
use Rattle.rd_pending.specs.Table.{TableState}
use Rattle.rd_printer.specs.declared.notice.Notice.{Notice}
use Rattle.rd_told.proofs.RunsInsides.{all_refreshed_inside}
use Rattle.rd_told.proofs.RunsParts.{reached_behind}
use Rattle.rd_told.proofs.RunsStanding.{is_off, shut_now}
use Rattle.rd_told.proofs.RunsTogether.{known}
use Rattle.rd_told.proofs.RunsTrafficLemmas.{Traffic, no_traffic, traffic}
use Rattle.rd_told.specs.RunsMoves.{IsOfLines, Reached, event_weight}
use Rattle.rd_told.specs.RunsPremises.{RunPremises}
use Rattle.rd_script.specs.declared.line.Errand.{Errand}
use Rattle.rd_script.specs.declared.line.Line.{Line}
use Rattle.rd_script.specs.declared.line.Line.TheVariants as line
use Rattle.rd_script.specs.declared.line.NumberedLine.{NumberedLine}
use Rattle.rd_world.proofs.FuelLemmas.{AreWithin, IsKept, both, kept_then, connects_on_more, ends_session_more, first_within, plays_line_more, plays_more, second_within, settled_more}
use Rattle.rd_deeds.proofs.Written.{sound_side}
use Rattle.rd_told.proofs.RunsBelowLemmas.{channel_is}
use Rattle.rd_world.proofs.PlayingLemmas.{may_connect}
use Rattle.rd_declared.specs.Devices.{PrinterNames}
use Rattle.rd_world.specs.Events as event
use Rattle.rd_world.specs.Events.{Event, act, is_channel_open, is_enabled, refreshing}
use Rattle.rd_deeds.specs.Host.{HostSide}
use Rattle.rd_world.specs.Recording.{client_id}
use Rattle.rd_world.specs.Run.{Most, asked_by, by_event, connects_on, controls, does, ends_session, event_of, idles, notice_of, plays, plays_line, queueing, run_of, settled, some_left, world_of}
use Rattle.rd_deeds.specs.Talk.{Has, client_wrote, open_channel}
use Rattle.rd_world.specs.World.{Asked, WorldState}
use Rattle.rd_ended.proofs.Ending.{StandsBefore, drawing_on, event_on, first_on, free_less, idles_on, more_on, passed_on, queued_on, reached, rounds_settle, settles}

-- some draws and rounds come to a world of which this holds
abbrev pub Ends : (Most → Option WorldState) → (WorldState → Type 0) → Type 0
Ends f P = (most : Most) × (x : WorldState) × (f most ≡ Some x) × P x

no_steps : Most
no_steps = record { draws = 0; rounds = 0 }

ends_now : (P : WorldState → Type 0) (x : WorldState) → P x → Ends (λ most. Some x) P
ends_now P x p = (no_steps, x, refl, p)

within_then : (least most more : Most) → AreWithin least most → AreWithin most more → AreWithin least more
within_then least most more a b = record { draws = omega (arith, a.draws, b.draws); rounds = omega (arith, a.rounds, b.rounds) }

-- what so many draws and rounds come to, more of them come to, and so to one world alone
run_more : (starves : Key → Bool) (lines : List NumberedLine) (most more : Most) → AreWithin most more → IsKept (run_of most starves lines) (run_of more starves lines)
run_more starves lines most more within =
    let begun : IsKept (connects_on starves most (world_of lines)) (connects_on starves more (world_of lines)) = connects_on_more starves most more within (world_of lines) in
    let played = kept_then (plays starves most lines) (plays starves more lines) (connects_on starves most (world_of lines)) (connects_on starves more (world_of lines)) begun (plays_more starves most more within lines) in
    let rested = kept_then (settled starves most.draws) (settled starves more.draws) (option_and_then (plays starves most lines) (connects_on starves most (world_of lines)))
    (option_and_then (plays starves more lines) (connects_on starves more (world_of lines))) played (settled_more starves most.draws more.draws within.draws) in
    kept_then (ends_session starves most) (ends_session starves more)
    (option_and_then (settled starves most.draws) (option_and_then (plays starves most lines) (connects_on starves most (world_of lines))))
    (option_and_then (settled starves more.draws) (option_and_then (plays starves more lines) (connects_on starves more (world_of lines)))) rested (ends_session_more starves most more within)

pub one_end : (starves : Key → Bool) (lines : List NumberedLine) (most more : Most) (w v : WorldState) → run_of most starves lines ≡ Some w → run_of more starves lines ≡ Some v → v ≡ w
one_end starves lines most more w v first second =
    let a : run_of (both most more) starves lines ≡ Some w = run_more starves lines most (both most more) (first_within most more) w first in
    let b : run_of (both most more) starves lines ≡ Some v = run_more starves lines more (both most more) (second_within most more) v second in
    let same : Some v ≡ Some w = sym b ∙ a in
    cc same

begun_outbox : (t : TableState) (channel : ℕ) → ((table.begin t channel).0).outbox ≡ t.outbox
begun_outbox t channel = by (is_some t.channel)
  where
    by : (b : Bool) → ((if◌then◌else◌ {A = TableState × Bool} b (t, false) (record t { channel = Some channel; below = channel + 1; asked = 0; begun = 0 }, true)).0).outbox ≡ t.outbox
    by true = refl
    by false = refl

module _ (lines : List NumberedLine) (starves : Key → Bool) (premises : RunPremises lines) (writable : DeclaresWritable lines) where
  -- a channel begins
  opening_first : (v : WorldState) → Reached lines starves v → is_enabled v event.connect ≡ true → IsOpening (act starves v event.connect)
  opening_first v r can =
      let k = known lines starves premises v r in
      let stand = k.stands in
      let off : open_channel v.deeds ≡ None = shut_now v stand (is_off (is_channel_open v) can) in
      let fresh : WorldState = fold refreshing v (map (λ (e : ℕ × PrinterNames). e.0) v.printers) in
      let inside = all_refreshed_inside (map (λ (e : ℕ × PrinterNames). e.0) v.printers) v in
      let none : traffic (v.channels + 1) fresh.deeds ≡ no_traffic = inside_traffic v fresh inside (v.channels + 1) ∙ k.carries.later (v.channels + 1) (omega arith) in
      let closed = (sound_side client_id v.deeds stand.host.may).slots.closed (channel_is client_id v.deeds stand.host.may ∙ off) in
      let asked : ((table.begin (v.side).table (v.channels + 1)).0).outbox ≡ [] = begun_outbox (v.side).table (v.channels + 1) ∙ ap (λ (x : HostSide). (x.table).outbox) (sym stand.host.is) ∙ closed.2 in
      let number = (behind_meets lines starves premises writable v (reached_behind lines starves v r)).number in
      record {
        is = refl;
        asked = asked;
        wrote = subst (λ (t : Traffic). AllByRecursion IsGreeting t.host_wrote) (sym none) tt;
        sends = (subst (λ (n : ℕ). IsGreeting (hello_bytes (host_announce n))) (sym number) announces_greet, tt);
        told = (let nothing : tellings (client_wrote (v.channels + 1) fresh.deeds) ≡ 0 = ap (λ (t : Traffic). tellings t.client_wrote) none in omega (arith, nothing));
      }

  abbrev On : ℕ → List NumberedLine → WorldState → Type 0
  On = StandsBefore lines starves premises

  -- a channel begins, and its rounds end
  pub connects_end : (n : ℕ) (rest : List NumberedLine) (w : WorldState) → n + 1 ≤ length lines + 2 → is_enabled w event.connect ≡ true → On n rest w → Ends (λ most. connects_on starves most w) (On (n + 1) rest)
  connects_end n rest w few can on =
      let begun : On (n + 1) rest (act starves w event.connect) = event_on lines starves premises n (n + 1) rest w event.connect (omega arith) few tt can on in
      let opening = opening_first w (reached lines starves premises n rest w on) can in
      let (most, x, is, p) = rounds_settle lines starves premises writable (n + 1) rest (act starves w event.connect) begun opening in
      (record { draws = 0; rounds = most }, x, is, p.0)

  pub settles_end : (n : ℕ) (rest : List NumberedLine) (w : WorldState) → On n rest w → Ends (λ most. settled starves most.draws w) (On n rest)
  settles_end n rest w on =
      let (most, x, is, p) = settles lines starves premises n rest w on in
      (record { draws = most; rounds = 0 }, x, is, p)

  -- an event of a line
  event_ends : (most : Most) (n : ℕ) (rest : List NumberedLine) (w : WorldState) (number : ℕ) (e : Event) → n + 1 ≤ length lines + 2 → event_weight e ≡ 1 → IsOfLines lines e → On n rest w → On (n + 1) rest (by_event starves most w number e)
  event_ends most n rest w number e few one of on = by (is_enabled w e) refl
    where
      by : (b : Bool) → is_enabled w e ≡ b → On (n + 1) rest (if b then act starves w e else idles w number)
      by true can = event_on lines starves premises n (n + 1) rest w e (omega (arith, one)) few of can on
      by false can = idles_on lines starves premises n rest w number few on

  errand_ends : (most : Most) (n : ℕ) (rest : List NumberedLine) (w : WorldState) (number : ℕ) (e : Errand) → n + 1 ≤ length lines + 2 → On n rest w
      → On (n + 1) rest (if is_enabled w (event_of w e) then does starves most w e else idles w number)
  errand_ends most n rest w number e few on = by (is_enabled w (event_of w e)) refl
    where
      by : (b : Bool) → is_enabled w (event_of w e) ≡ b → On (n + 1) rest (if b then does starves most w e else idles w number)
      by true can =
          more_on lines starves premises n (n + 1) rest (does starves most w e) (omega arith) few
          (does_keeps starves (On n rest) (λ x d free can own. (free_less lines starves premises n rest x d free can own).0) (drawing_on lines starves premises n rest) most w e can on)
      by false can = idles_on lines starves premises n rest w number few on

  controls_end : (n : ℕ) (rest : List NumberedLine) (w : WorldState) (number : ℕ) (l : NumberedLine) → n + 1 ≤ length lines + 2 → Has l lines → (x : Line) → l.line ≡ x → On n rest w
      → Ends (λ most. controls starves most w number x) (On (n + 1) rest)
  unfolding controls
  controls_end n rest w number l few has line.Settle same on =
      let (most, x, is, p) = settles_end n rest w on in
      (most, x, is, more_on lines starves premises n (n + 1) rest x (omega arith) few p)
  controls_end n rest w number l few has (line.Remove device) same on = (no_steps, by_event starves no_steps w number (event.remove device), refl, event_ends no_steps n rest w number (event.remove device) few refl tt on)
  controls_end n rest w number l few has (line.Add device) same on = (no_steps, by_event starves no_steps w number (event.add device), refl, event_ends no_steps n rest w number (event.add device) few refl tt on)
  controls_end n rest w number l few has line.Drop same on = (no_steps, by_event starves no_steps w number event.drop_channel, refl, event_ends no_steps n rest w number event.drop_channel few refl tt on)
  controls_end n rest w number l few has line.Connect same on = by (is_enabled w event.connect) refl
    where
      by : (b : Bool) → is_enabled w event.connect ≡ b → Ends (λ most. if b then connects_on starves most w else Some (idles w number)) (On (n + 1) rest)
      by true can = connects_end n rest w few can on
      by false can = ends_now (On (n + 1) rest) (idles w number) (idles_on lines starves premises n rest w number few on)
  controls_end n rest w number l few has (line.Do e) same on = (no_steps, if is_enabled w (event_of w e) then does starves no_steps w e else idles w number, refl, errand_ends no_steps n rest w number e few on)
  controls_end n rest w number l few has x same on = by (notice_of x) (ap notice_of same)
    where
      by : (o : Option Notice) → notice_of l.line ≡ o → Ends (λ most. Some (option_map_or (λ n. by_event starves most w number (event.tell n)) o w)) (On (n + 1) rest)
      by None said = ends_now (On (n + 1) rest) w (more_on lines starves premises n (n + 1) rest w (omega arith) few on)
      by (Some notice) said = (no_steps, by_event starves no_steps w number (event.tell notice), refl, event_ends no_steps n rest w number (event.tell notice) few refl (l, has, said) on)

  pub line_ends : (n : ℕ) (l : NumberedLine) (rest : List NumberedLine) (w : WorldState) → n + 1 ≤ length lines + 2 → Has l lines → On n (l ∷ rest) w → Ends (λ most. plays_line starves most w l) (On (n + 1) rest)
  line_ends n l rest w few has on = by (asked_by l.line) refl
    where
      by : (o : Option (ℕ × Asked)) → asked_by l.line ≡ o
          → Ends (λ most. option_map_or (λ (asked : ℕ × Asked). Some (queueing w asked.0)) o (controls starves most w l.number l.line)) (On (n + 1) rest)
      by None is = controls_end n rest w l.number l few has l.line refl (passed_on lines starves premises n l rest w is on)
      by (Some (a, asked)) is = ends_now (On (n + 1) rest) (queueing w a) (queued_on lines starves premises n l rest w a asked has is few on)

  pub plays_end : (ls : List NumberedLine) (n : ℕ) (w : WorldState) → n + length ls ≤ length lines + 2 → ((l : NumberedLine) → Has l ls → Has l lines) → On n ls w → Ends (λ most. plays starves most ls w) (On (n + length ls) [])
  plays_end [] n w few among on = ends_now (On (n + 0) []) w (more_on lines starves premises n (n + 0) [] w (omega arith) few on)
  plays_end (l ∷ ls) n w few among on =
      let (first, y, is, p) = line_ends n l ls w (omega (arith, few)) (among l (inl refl)) on in
      let (second, x, then_is, q) = plays_end ls (n + 1) y (omega (arith, few)) (λ k has. among k (inr has)) p in
      let most : Most = both first second in
      let one : plays_line starves most w l ≡ Some y = plays_line_more starves first most (first_within first second) w l y is in
      let rest : plays starves most ls y ≡ Some x = plays_more starves second most (second_within first second) ls y x then_is in
      (most, x, ap (option_and_then (plays starves most ls)) one ∙ rest, more_on lines starves premises (n + 1 + length ls) (n + suc (length ls)) [] x (omega arith) few q)

  session_ends : (n : ℕ) (w : WorldState) → n + 1 ≤ length lines + 2 → On n [] w → Ends (λ most. ends_session starves most w) (On (n + 1) [])
  session_ends n w few on = by (is_channel_open w) refl (some_left w)
    where
      by : (a : Bool) → is_channel_open w ≡ a → (b : Bool) → Ends (λ most. if a && b then settled starves most.draws (act starves w event.drop_channel) else Some w) (On (n + 1) [])
      by true can true = settles_end (n + 1) [] (act starves w event.drop_channel) (event_on lines starves premises n (n + 1) [] w event.drop_channel (omega arith) few tt can on)
      by true can false = ends_now (On (n + 1) []) w (more_on lines starves premises n (n + 1) [] w (omega arith) few on)
      by false can b = ends_now (On (n + 1) []) w (more_on lines starves premises n (n + 1) [] w (omega arith) few on)

  -- the parts of a run, one after the other
  run_by : (most : Most) (begun played rested last : WorldState) → connects_on starves most (world_of lines) ≡ Some begun → plays starves most lines begun ≡ Some played → settled starves most.draws played ≡ Some rested
      → ends_session starves most rested ≡ Some last → run_of most starves lines ≡ Some last
  run_by most begun played rested last e1 e2 e3 e4 =
      ap (λ (o : Option WorldState). option_and_then (ends_session starves most) (option_and_then (settled starves most.draws) (option_and_then (plays starves most lines) o))) e1
      ∙ ap (λ (o : Option WorldState). option_and_then (ends_session starves most) (option_and_then (settled starves most.draws) o)) e2
      ∙ ap (option_and_then (ends_session starves most)) e3
      ∙ e4

  pub run_ends : (most : Most) × (w : WorldState) × (run_of most starves lines ≡ Some w)
  run_ends =
      begin_ends (connects_end 0 lines (world_of lines) (omega arith) (may_connect lines) (first_on lines starves premises))
    where
      ends_after : (m1 m2 m3 : Most) (begun played rested : WorldState) → connects_on starves m1 (world_of lines) ≡ Some begun → plays starves m2 lines begun ≡ Some played → settled starves m3.draws played ≡ Some rested
          → Ends (λ most. ends_session starves most rested) (On (0 + 1 + length lines + 1) []) → (most : Most) × (w : WorldState) × (run_of most starves lines ≡ Some w)
      ends_after m1 m2 m3 begun played rested is1 is2 is3 (m4, last, is4, p4) =
          let a : Most = both m1 m2 in
          let b : Most = both m3 m4 in
          let most : Most = both a b in
          let w1 = within_then m1 a most (first_within m1 m2) (first_within a b) in
          let w2 = within_then m2 a most (second_within m1 m2) (first_within a b) in
          let w3 = within_then m3 b most (first_within m3 m4) (second_within a b) in
          let w4 = within_then m4 b most (second_within m3 m4) (second_within a b) in (
            most,
            last,
            run_by most begun played rested last (connects_on_more starves m1 most w1 (world_of lines) begun is1) (plays_more starves m2 most w2 lines begun played is2)
                (settled_more starves m3.draws most.draws w3.draws played rested is3) (ends_session_more starves m4 most w4 rested last is4),
          )

      rests_after : (m1 m2 : Most) (begun played : WorldState) → connects_on starves m1 (world_of lines) ≡ Some begun → plays starves m2 lines begun ≡ Some played
          → Ends (λ most. settled starves most.draws played) (On (0 + 1 + length lines) []) → (most : Most) × (w : WorldState) × (run_of most starves lines ≡ Some w)
      rests_after m1 m2 begun played is1 is2 (m3, rested, is3, p3) = ends_after m1 m2 m3 begun played rested is1 is2 is3 (session_ends (0 + 1 + length lines) rested (omega arith) p3)

      plays_after : (m1 : Most) (begun : WorldState) → connects_on starves m1 (world_of lines) ≡ Some begun
          → Ends (λ most. plays starves most lines begun) (On (0 + 1 + length lines) []) → (most : Most) × (w : WorldState) × (run_of most starves lines ≡ Some w)
      plays_after m1 begun is1 (m2, played, is2, p2) = rests_after m1 m2 begun played is1 is2 (settles_end (0 + 1 + length lines) [] played p2)

      begin_ends : Ends (λ most. connects_on starves most (world_of lines)) (On (0 + 1) lines) → (most : Most) × (w : WorldState) × (run_of most starves lines ≡ Some w)
      begin_ends (m1, begun, is1, p1) = plays_after m1 begun is1 (plays_end lines (0 + 1) begun (omega arith) (λ l has. has) p1)
