-- In every run each channel that began has opened.
use Rattle.std.proofs.Common.{◌≡◌, ◌∙◌, refl, sym, ap, subst, inl, inr, ℕ, ◌+◌, ◌≤◌, ◌&&◌, arith, Bool, true, false, List, [], ◌∷◌, length, map, fold, Some, None, Option}
use Rattle.std.specs.Prelude.{if◌then◌else◌}
use Rattle.std.specs.Option.{IfSome, option_and_then, option_map_or}
use Rattle.std.proofs.lemmas.Bool.{cases_eq}
use Rattle.rd_base.specs.declared.journal.Key.{Key}
use Rattle.rd_orders.proofs.ControlsResting.{event_grows, then_more}
use Rattle.rd_orders.proofs.ControlsUnseen.{Seen, event_unseen}
use Rattle.rd_orders.proofs.ControlsWalking.{does_keeps, settled_keeps}
use Rattle.rd_printer.specs.declared.notice.Notice.{Notice}
use Rattle.rd_orders.proofs.RunsBeginningLemmas.{Unset, begins_as}
use Rattle.rd_orders.specs.RunsMoves.{IsOfLines, MayPass, ReachedWithin, RunMove, after_move, draws, event_weight, happens, idle, queues, weight}
use Rattle.rd_orders.specs.RunsPremises.{RunPremises}
use Rattle.rd_script.specs.declared.line.Line.{Line}
use Rattle.rd_script.specs.declared.line.Line.TheVariants as line
use Rattle.rd_script.specs.declared.line.NumberedLine.{NumberedLine}
use Rattle.rd_world.proofs.PlayingLemmas.{may_connect}
use Rattle.rd_world.specs.Acts.{HasOpened, Opens}
use Rattle.rd_declared.specs.Devices.{Declared, PrinterNames}
use Rattle.rd_world.specs.Events as event
use Rattle.rd_world.specs.Events.{Event, act, cutting, dropping, is_channel_open, is_enabled, refreshing}
use Rattle.rd_declared.specs.Declaring.{bare_lines, declared_devices}
use Rattle.rd_world.specs.Run.{Most, asked_by, by_event, connects_on, controls, does, drawing, ends_session, event_of, idles, is_quiet, notice_of, plays, plays_line, queueing, run_of, settled, some_left, world_of}
use Rattle.rd_deeds.specs.Talk.{Deed, EachAfter, EndsWith, Has}
use Rattle.rd_world.specs.World.{Asked, WorldState}
use Rattle.rd_orders.specs.Orders.{DeclaresWritable}
use Rattle.rd_opening.proofs.EventParts.{KeepsChannels, event_parts_keep}
use Rattle.rd_opening.proofs.Issuing.{AreOpened, OpenedFor, inside_comes, opened_more, part_opened, round_comes}
use Rattle.rd_opening.proofs.Opened.{connected_opens}
use Rattle.rd_opening.proofs.Rounds.{IsRoundEvent, round_event_keeps, rounds_keep}
use Rattle.rd_opening.specs.Issued.{ComesOpened}
use Rattle.rd_orders.proofs.RunsInsides.{all_refreshed_inside}

free_keeps : (e : Event) → event_weight e ≡ 0 → KeepsChannels e
free_keeps event.connect free = absurd (omega (arith, free))
free_keeps e free = tt

free_of_lines : (lines : List NumberedLine) (e : Event) → event_weight e ≡ 0 → IsOfLines lines e
free_of_lines lines (event.tell n) free = absurd (omega (arith, free))
free_of_lines lines e free = tt

round_keeps : (e : Event) → IsRoundEvent e → event_weight e ≡ 0
round_keeps event.host_send round = refl
round_keeps (event.client_read n) round = refl
round_keeps event.client_send round = refl
round_keeps (event.host_read n) round = refl
round_keeps e round = absurd round

module _ (lines : List NumberedLine) (starves : Key → Bool) (premises : RunPremises lines) (writable : DeclaresWritable lines) where
  abbrev declared : List (ℕ × Declared)
  declared = declared_devices (bare_lines lines)

  abbrev Opened : WorldState → Type 0
  Opened w = AreOpened declared w

  moves_on : (n k : ℕ) (w : WorldState) (m : RunMove) → weight m + n ≤ k → MayPass lines w m → ReachedWithin n lines starves w → ReachedWithin k lines starves (after_move starves w m)
  moves_on n k w m few may r = record {
    moves = m ∷ r.moves;
    pass = (subst (λ (x : WorldState). MayPass lines x m) r.leads may, r.pass);
    few = omega (arith, few, r.few);
    leads = ap (λ (x : WorldState). after_move starves x m) r.leads;
  }

  within_more : (n k : ℕ) (w : WorldState) → n ≤ k → ReachedWithin n lines starves w → ReachedWithin k lines starves w
  within_more n k w few r = record { moves = r.moves; pass = r.pass; few = omega (arith, few, r.few); leads = r.leads }

  -- ---- what happens by itself

  -- behind so many lines, which are no more than there are and two
  record Walks (n : ℕ) (w : WorldState) : Type 0 where
    reached : ReachedWithin n lines starves w
    few : n ≤ length lines + 2
    opened : Opened w

  event_opened : (n : ℕ) (w : WorldState) (e : Event) → KeepsChannels e → IsOfLines lines e → is_enabled w e ≡ true → Walks n w → Opened (act starves w e)
  event_opened n w e keeps said can l =
      event_parts_keep lines starves Opened (part_opened lines starves premises writable) w e keeps (within_more n (length lines + 2) w l.few l.reached) said can l.opened

  free_walks : (n : ℕ) (w : WorldState) (e : Event) → event_weight e ≡ 0 → is_enabled w e ≡ true → Walks n w → Walks n (act starves w e)
  free_walks n w e free can l = record {
    reached = moves_on n n w (happens e) (omega (arith, free)) (free_of_lines lines e free, can) l.reached;
    few = l.few;
    opened = event_opened n w e (free_keeps e free) (free_of_lines lines e free) can l;
  }

  drawn_walks : (n : ℕ) (w : WorldState) → Walks n w → Walks n (drawing w)
  drawn_walks n w l = record { reached = moves_on n n w draws (omega arith) tt l.reached; few = l.few; opened = l.opened }

  walks_more : (n k : ℕ) (w : WorldState) → n ≤ k → k ≤ length lines + 2 → Walks n w → Walks k w
  walks_more n k w more few l = record { reached = within_more n k w more l.reached; few = few; opened = l.opened }

  -- ---- a channel begins

  -- since a channel began: no request was accepted
  record Since (n : ℕ) (w x : WorldState) : Type 0 where
    reached : ReachedWithin (n + 1) lines starves x
    channels : x.channels ≡ w.channels + 1
    grows : EndsWith x.deeds w.deeds
    comes : EachAfter (ComesOpened declared) x.deeds

  since_round : (n : ℕ) (w x : WorldState) (e : Event) → IsRoundEvent e → is_enabled x e ≡ true → Since n w x → Since n w (act starves x e)
  since_round n w x e round can s =
      let free = round_keeps e round in
      record {
        reached = moves_on (n + 1) (n + 1) x (happens e) (omega (arith, free)) (free_of_lines lines e free, can) s.reached;
        channels = ap (λ (y : Seen). y.channels) (event_unseen starves x e free).same ∙ s.channels;
        grows = then_more w.deeds x.deeds (act starves x e).deeds (event_unseen starves x e free).grows s.grows;
        comes = round_event_keeps lines starves (λ y. EachAfter (ComesOpened declared) y.deeds) (round_comes lines starves premises writable) x e round can s.comes;
      }

  since_begun : (n : ℕ) (w : WorldState) → is_enabled w event.connect ≡ true → Walks n w → Since n w (act starves w event.connect)
  since_begun n w can l = record {
    reached = moves_on n (n + 1) w (happens event.connect) (omega arith) (tt, can) l.reached;
    channels = refl;
    grows = event_grows [] [] starves w event.connect;
    comes = (tt, inside_comes declared w (fold refreshing w (map (λ (e : ℕ × PrinterNames). e.0) w.printers)) (all_refreshed_inside (map (λ (e : ℕ × PrinterNames). e.0) w.printers) w) (l.opened).1);
  }

  connects_walks : (most : Most) (n : ℕ) (w : WorldState) → n ≤ length lines → is_enabled w event.connect ≡ true → Walks n w → IfSome (connects_on starves most w) (Walks (n + 1))
  connects_walks most n w few can l =
      both_of (connects_on starves most w) (rounds_keep starves (Since n w) (since_round n w) most.rounds (act starves w event.connect) (since_begun n w can l))
      (connected_opens lines starves premises writable most w can (within_more n (length lines + 1) w (omega (arith, few)) l.reached))
    where
      all : (x : WorldState) → Since n w x → HasOpened declared x.deeds x.channels → Opened x
      all x s has = (
        λ c first last. elim (cases_eq c x.channels) [
          | inl here ↦ ([], x.deeds, refl, subst (HasOpened declared x.deeds) (sym here) has)
          | inr other ↦
              let (more, grows) = s.grows in
              subst (λ (ds : List Deed). Opens declared ds c) (sym grows) (opened_more declared w.deeds more c ((l.opened).0 c first (omega (arith, last, s.channels, other))))
        ],
        s.comes,
      )

      both_of : (v : Option WorldState) → IfSome v (λ x. Since n w x × (is_quiet x ≡ true)) → IfSome v (λ x. HasOpened declared x.deeds x.channels) → IfSome v (Walks (n + 1))
      both_of None own has = tt
      both_of (Some x) (s, quiet) has = record { reached = s.reached; few = omega (arith, few); opened = all x s has }

  -- ---- lines

  idle_walks : (n : ℕ) (w : WorldState) (number : ℕ) → n ≤ length lines → Walks n w → Walks (n + 1) (idles w number)
  idle_walks n w number few l = record { reached = moves_on n (n + 1) w (idle number) (omega arith) tt l.reached; few = omega (arith, few); opened = l.opened }

  by_event_walks : (most : Most) (n : ℕ) (w : WorldState) (number : ℕ) (e : Event) → KeepsChannels e → event_weight e ≤ 1 → IsOfLines lines e → n ≤ length lines → Walks n w → Walks (n + 1) (by_event starves most w number e)
  by_event_walks most n w number e keeps one said few l = by (is_enabled w e) refl
    where
      by : (b : Bool) → is_enabled w e ≡ b → Walks (n + 1) (if b then act starves w e else idles w number)
      by true can = record { reached = moves_on n (n + 1) w (happens e) (omega (arith, one)) (said, can) l.reached; few = omega (arith, few); opened = event_opened n w e keeps said can l }
      by false cant = idle_walks n w number few l

  controls_walks : (most : Most) (n : ℕ) (w : WorldState) (x : NumberedLine) (y : Line) → n ≤ length lines → Has x lines → x.line ≡ y → Walks n w → IfSome (controls starves most w x.number y) (Walks (n + 1))
  unfolding controls
  controls_walks most n w x line.Settle few has same l = settled_keeps starves (Walks (n + 1)) (free_walks (n + 1)) (drawn_walks (n + 1)) most.draws w (walks_more n (n + 1) w (omega arith) (omega (arith, few)) l)
  controls_walks most n w x (line.Remove device) few has same l = by_event_walks most n w x.number (event.remove device) tt (omega arith) tt few l
  controls_walks most n w x (line.Add device) few has same l = by_event_walks most n w x.number (event.add device) tt (omega arith) tt few l
  controls_walks most n w x line.Drop few has same l = by_event_walks most n w x.number event.drop_channel tt (omega arith) tt few l
  controls_walks most n w x line.Connect few has same l = by (is_enabled w event.connect) refl
    where
      by : (b : Bool) → is_enabled w event.connect ≡ b → IfSome (if b then connects_on starves most w else Some (idles w x.number)) (Walks (n + 1))
      by true can = connects_walks most n w few can l
      by false cant = idle_walks n w x.number few l
  controls_walks most n w x (line.Do e) few has same l = by (is_enabled w (event_of w e)) refl
    where
      by : (b : Bool) → is_enabled w (event_of w e) ≡ b → Walks (n + 1) (if b then does starves most w e else idles w x.number)
      by true can = does_keeps starves (Walks (n + 1)) (free_walks (n + 1)) (drawn_walks (n + 1)) most w e can (walks_more n (n + 1) w (omega arith) (omega (arith, few)) l)
      by false cant = idle_walks n w x.number few l
  controls_walks most n w x y few has same l = by (notice_of y) (ap notice_of same)
    where
      by : (o : Option Notice) → notice_of x.line ≡ o → Walks (n + 1) (option_map_or (λ n. by_event starves most w x.number (event.tell n)) o w)
      by None told = walks_more n (n + 1) w (omega arith) (omega (arith, few)) l
      by (Some notice) told = by_event_walks most n w x.number (event.tell notice) tt (omega arith) (x, has, told) few l

  line_walks : (most : Most) (n : ℕ) (w : WorldState) (x : NumberedLine) → n ≤ length lines → Has x lines → Walks n w → IfSome (plays_line starves most w x) (Walks (n + 1))
  line_walks most n w x few has l = by (asked_by x.line) refl
    where
      by : (o : Option (ℕ × Asked)) → asked_by x.line ≡ o → IfSome (option_map_or (λ (asked : ℕ × Asked). Some (queueing w asked.0)) o (controls starves most w x.number x.line)) (Walks (n + 1))
      by None asks = controls_walks most n w x x.line few has refl l
      by (Some (a, asked)) asks = record { reached = moves_on n (n + 1) w (queues a) (omega arith) (x, asked, has, asks) l.reached; few = omega (arith, few); opened = l.opened }

  plays_walks : (most : Most) (ls : List NumberedLine) → ((x : NumberedLine) → Has x ls → Has x lines) → (n : ℕ) (w : WorldState) → n + length ls ≤ length lines + 1 → Walks n w → IfSome (plays starves most ls w) (Walks (length lines + 1))
  plays_walks most [] among n w few l = walks_more n (length lines + 1) w (omega (arith, few)) (omega arith) l
  plays_walks most (x ∷ ls) among n w few l =
      by (plays_line starves most w x) (line_walks most n w x (omega (arith, few)) (among x (inl refl)) l) (λ v own. plays_walks most ls (λ y has. among y (inr has)) (n + 1) v (omega (arith, few)) own)
    where
      by : (o : Option WorldState) → IfSome o (Walks (n + 1)) → ((v : WorldState) → Walks (n + 1) v → IfSome (plays starves most ls v) (Walks (length lines + 1))) → IfSome (option_and_then (plays starves most ls) o) (Walks (length lines + 1))
      by None own next = tt
      by (Some v) own next = next v own

  -- ---- a run

  then_some : (P Q : WorldState → Type 0) (on : WorldState → Option WorldState) (o : Option WorldState) → ((x : WorldState) → P x → IfSome (on x) Q) → IfSome o P → IfSome (option_and_then on o) Q
  then_some P Q on None next some = tt
  then_some P Q on (Some x) next some = next x some

  settled_walks : (most : Most) (n : ℕ) (w : WorldState) → Walks n w → IfSome (settled starves most.draws w) (Walks n)
  settled_walks most n w l = settled_keeps starves (Walks n) (free_walks n) (drawn_walks n) most.draws w l

  ends_walks : (most : Most) (w : WorldState) → Walks (length lines + 1) w → IfSome (ends_session starves most w) (Walks (length lines + 2))
  ends_walks most w l = by (is_channel_open w) refl (some_left w)
    where
      by : (a : Bool) → is_channel_open w ≡ a → (b : Bool) → IfSome (if a && b then settled starves most.draws (act starves w event.drop_channel) else Some w) (Walks (length lines + 2))
      by true can true =
          settled_walks most (length lines + 2) (act starves w event.drop_channel) (record {
            reached = moves_on (length lines + 1) (length lines + 2) w (happens event.drop_channel) (omega arith) (tt, can) l.reached;
            few = omega arith;
            opened = event_opened (length lines + 1) w event.drop_channel tt tt can l;
          })
      by true can false = walks_more (length lines + 1) (length lines + 2) w (omega arith) (omega arith) l
      by false can b = walks_more (length lines + 1) (length lines + 2) w (omega arith) (omega arith) l

  first_walks : Walks 0 (world_of lines)
  first_walks = record {
    reached = record { moves = []; pass = tt; few = omega arith; leads = refl };
    few = omega arith;
    opened = begins_as lines (λ (u : Unset). OpenedFor declared u.channels u.deeds) ((λ c first last. absurd (omega (arith, first, last))), tt);
  }

  run_walks : (most : Most) → IfSome (run_of most starves lines) (Walks (length lines + 2))
  run_walks most =
      then_some (Walks (length lines + 1)) (Walks (length lines + 2)) (ends_session starves most) _ (ends_walks most)
      (then_some (Walks (length lines + 1)) (Walks (length lines + 1)) (settled starves most.draws) _ (settled_walks most (length lines + 1))
      (then_some (Walks (0 + 1)) (Walks (length lines + 1)) (plays starves most lines) _ (λ x l. plays_walks most lines (λ y has. has) (0 + 1) x (omega arith) l)
      (connects_walks most 0 (world_of lines) (omega arith) (may_connect lines) first_walks)))

  -- each channel that began has opened, and each request came after the opening of the channel that had begun last
  pub run_opens : (most : Most) (w : WorldState) → run_of most starves lines ≡ Some w → AreOpened declared w
  run_opens most w is = (subst (λ (o : Option WorldState). IfSome o (Walks (length lines + 2))) is (run_walks most)).opened
