-- What is kept by everything that passes in a run, line by line, holds where the run ends: a walk along the lines for whatever else is to be said of them.
use Rattle.std.proofs.Common.{◌≡◌, ◌∙◌, refl, sym, ap, subst, inl, inr, ℕ, ◌+◌, ◌≤◌, ◌&&◌, Bool, true, false, List, [], ◌∷◌, length, map, fold, Some, None, Option, arith}
use Rattle.std.specs.Prelude.{if◌then◌else◌, not}
use Rattle.std.proofs.lemmas.Map.Keys.{sorted_from_strictly_increasing}
use Rattle.std.specs.List.{AllByRecursion}
use Rattle.std.specs.Option.{IfSome, option_and_then, option_map_or}
use Rattle.rd_base.specs.declared.journal.Key.{Key}
use Rattle.rd_controls.proofs.Acting.{SeenAs}
use Rattle.rd_controls.proofs.Leading.{Led, asked_controls_none, before_all, begins_led, first_sees, led_drawn, led_free, led_passed, line_led, then_on}
use Rattle.rd_controls.proofs.Numbers.{Rise, numbers}
use Rattle.rd_controls.proofs.Unseen.{host_ready, seen}
use Rattle.rd_controls.proofs.Walking.{does_keeps, settled_keeps}
use Rattle.rd_controls.specs.Controls.{AreOrderedLines, NamesKnown}
use Rattle.rd_printer.specs.declared.notice.Notice.{Notice}
use Rattle.rd_runs.specs.Moves.{IsOfLines, MayPass, draws, RunMove, Reached, ReachedWithin, after_move, event_weight, happens, idle, queues, weight}
use Rattle.rd_runs.specs.Premises.{RunPremises}
use Rattle.rd_script.specs.declared.line.Errand.{Errand}
use Rattle.rd_script.specs.declared.line.Line.{Line}
use Rattle.rd_script.specs.declared.line.Line.TheVariants as line
use Rattle.rd_script.specs.declared.line.NumberedLine.{NumberedLine}
use Rattle.rd_world.proofs.PlayingLemmas.{may_connect}
use Rattle.rd_world.specs.Control.{Control, connected, control_of, controlled, first_control}
use Rattle.rd_declared.specs.Devices.{Declared}
use Rattle.rd_world.specs.Events as event
use Rattle.rd_world.specs.Events.{Event, act, is_channel_open, is_enabled}
use Rattle.rd_declared.specs.Declaring.{declared_devices}
use Rattle.rd_world.specs.Run.{Most, asked_by, by_event, choices, connects_on, controls, does, drawing, ends_session, event_of, idles, notice_of, plays, plays_line, queueing, run_of, settled, some_left, world_of}
use Rattle.rd_deeds.specs.Talk.{Has}
use Rattle.rd_world.specs.World.{Asked, WorldState}

module _ (lines : List NumberedLine) (starves : Key → Bool) (most : Most) (ids : List ℕ) (rise : Rise (numbers lines)) (premises : RunPremises lines) where
  abbrev pub Leads : Control → List NumberedLine → WorldState → Type 0
  Leads c ls w = Led lines starves most ids rise premises c ls w

  -- What keeps a statement about a world before these lines: what happens by itself and draws; a line that is queued; a line that passes, whatever else it does; what
  -- an event of a line comes to, or that a line did nothing; and the begin of a channel with its rounds.
  pub record Keeps (P : Control → List NumberedLine → WorldState → Type 0) : Type 0 where
    pub free : (c : Control) (ls : List NumberedLine) (w : WorldState) (e : Event) → Reached lines starves w → event_weight e ≡ 0 → is_enabled w e ≡ true → P c ls w → P c ls (act starves w e)
    pub draw : (c : Control) (ls : List NumberedLine) (w : WorldState) → P c ls w → P c ls (drawing w)
    pub queued : (c : Control) (x : NumberedLine) (ls : List NumberedLine) (w : WorldState) (a : ℕ) (asked : Asked) → Has x lines → asked_by x.line ≡ Some (a, asked)
        → Leads c (x ∷ ls) w → P c (x ∷ ls) w → P c ls (queueing w a)
    pub passes : (c : Control) (x : NumberedLine) (ls : List NumberedLine) (w : WorldState) → asked_by x.line ≡ None → P c (x ∷ ls) w → P (controlled c x.number x.line) ls w
    pub moves : (c : Control) (ls : List NumberedLine) (w : WorldState) (e : Event) (n : ℕ) → ReachedWithin n lines starves w → n + 1 ≤ length lines + 2 → MayPass lines w (happens e) → event_weight e ≡ 1
        → is_enabled w event.connect ≡ false → P c ls w → P c ls (act starves w e)
    pub idled : (c : Control) (ls : List NumberedLine) (w : WorldState) (number : ℕ) → P c ls w → P c ls (idles w number)
    pub begins : (c : Control) (ls : List NumberedLine) (w v : WorldState) (n : ℕ) → ReachedWithin n lines starves w → n + 1 ≤ length lines + 2 → is_enabled w event.connect ≡ true
        → connects_on starves most w ≡ Some v → P c ls w → P c ls v

  module _ (P : Control → List NumberedLine → WorldState → Type 0) (k : Keeps P) where
    reached_of : (c : Control) (ls : List NumberedLine) (w : WorldState) → Leads c ls w → Reached lines starves w
    reached_of c ls w l =
        let r = l.base.reached in
        record { moves = r.moves; pass = r.pass; few = omega (arith, l.base.few, r.few); leads = r.leads }

    -- both, so that what happens by itself keeps them
    abbrev Both : Control → Control → List NumberedLine → WorldState → Type 0
    Both c d ls w = Leads c ls w × P d ls w

    both_free : (c d : Control) (ls : List NumberedLine) (w : WorldState) (e : Event) → event_weight e ≡ 0 → is_enabled w e ≡ true → Both c d ls w → Both c d ls (act starves w e)
    both_free c d ls w e free can (l, p) = (led_free lines starves most ids rise premises c ls w e free can l, k.free d ls w e (reached_of c ls w l) free can p)

    both_drawn : (c d : Control) (ls : List NumberedLine) (w : WorldState) → Both c d ls w → Both c d ls (drawing w)
    both_drawn c d ls w (l, p) = (led_drawn lines starves most ids rise premises c ls w l, k.draw d ls w p)

    owned : (c d : Control) (ls : List NumberedLine) (o : Option WorldState) → IfSome o (Both c d ls) → IfSome o (P d ls)
    owned c d ls None own = tt
    owned c d ls (Some w) own = own.1

    -- an event of a line, where it can happen
    by_event_along : (c d : Control) (ls : List NumberedLine) (w : WorldState) (number : ℕ) (e : Event) (n : ℕ) → ReachedWithin n lines starves w → n + 1 ≤ length lines + 2 → event_weight e ≡ 1 → (is_enabled w e ≡ true → MayPass lines w (happens e))
        → (is_enabled w e ≡ true → is_enabled w event.connect ≡ false) → P d ls w → P d ls (by_event starves most w number e)
    by_event_along c d ls w number e n r few one may shut p = go (is_enabled w e) refl
      where
        go : (b : Bool) → is_enabled w e ≡ b → P d ls (if b then act starves w e else idles w number)
        go true can = k.moves d ls w e n r few (may can) one (shut can) p
        go false cant = k.idled d ls w number p

    open_shut : (w : WorldState) → is_channel_open w ≡ true → is_enabled w event.connect ≡ false
    open_shut w is = ap not is

    first_of : (a b : Bool) → (a && b) ≡ true → a ≡ true
    first_of true b e = refl
    first_of false b e = absurd cc

    module _ (c : Control) (x : NumberedLine) (ls : List NumberedLine) (w : WorldState) (has : Has x lines) (l : Leads c (x ∷ ls) w) (p : P c (x ∷ ls) w) where
      abbrev next : Control
      next = controlled c x.number x.line

      on_open : (e : Event) → event_weight e ≡ 1 → (is_enabled w e ≡ true → MayPass lines w (happens e)) → (is_enabled w e ≡ true → is_channel_open w ≡ true) → asked_by x.line ≡ None
          → P next ls (by_event starves most w x.number e)
      on_open e one may is_open asks =
          let few : l.base.count + 1 ≤ length lines + 2 = omega (arith, l.base.few) in
          by_event_along c next ls w x.number e l.base.count l.base.reached few one may (λ can. open_shut w (is_open can)) (k.passes c x ls w asks p)

      begun_along : asked_by x.line ≡ None → IfSome (if is_enabled w event.connect then connects_on starves most w else Some (idles w x.number)) (P next ls)
      begun_along asks = go (is_enabled w event.connect) refl
        where
          from : (o : Option WorldState) → connects_on starves most w ≡ o → is_enabled w event.connect ≡ true → IfSome o (P next ls)
          from None made can = tt
          from (Some v) made can =
              let few : l.base.count + 1 ≤ length lines + 2 = omega (arith, l.base.few) in
              k.begins next ls w v l.base.count l.base.reached few can made (k.passes c x ls w asks p)

          go : (b : Bool) → is_enabled w event.connect ≡ b → IfSome (if b then connects_on starves most w else Some (idles w x.number)) (P next ls)
          go true can = from (connects_on starves most w) refl can
          go false cant = k.idled next ls w x.number (k.passes c x ls w asks p)

      errand_along : (e : Errand) → asked_by x.line ≡ None → P next ls (if is_enabled w (event_of w e) then does starves most w e else idles w x.number)
      errand_along e asks = go (is_enabled w (event_of w e)) refl
        where
          go : (b : Bool) → is_enabled w (event_of w e) ≡ b → P next ls (if b then does starves most w e else idles w x.number)
          go true can = (does_keeps starves (Both c next ls) (both_free c next ls) (both_drawn c next ls) most w e can (led_passed lines starves most ids rise premises c x ls w l, k.passes c x ls w asks p)).1
          go false cant = k.idled next ls w x.number (k.passes c x ls w asks p)

      told_along : (o : Option Notice) → notice_of x.line ≡ o → asked_by x.line ≡ None → P next ls (option_map_or (λ n. by_event starves most w x.number (event.tell n)) o w)
      told_along None told asks = k.passes c x ls w asks p
      told_along (Some n) told asks = on_open (event.tell n) refl (λ can. ((x, has, told), can)) (λ can. first_of (is_channel_open w) (host_ready w) can) asks

      controls_along : (y : Line) → x.line ≡ y → asked_by x.line ≡ None → IfSome (controls starves most w x.number y) (P next ls)
      unfolding controls notice_of
      controls_along line.Settle same asks =
          owned c next ls (settled starves most.draws w)
          (settled_keeps starves (Both c next ls) (both_free c next ls) (both_drawn c next ls) most.draws w (led_passed lines starves most ids rise premises c x ls w l, k.passes c x ls w asks p))
      controls_along (line.Remove device) same asks = on_open (event.remove device) refl (λ can. (tt, can)) (λ can. first_of _ _ (first_of _ _ can)) asks
      controls_along (line.Add device) same asks = on_open (event.add device) refl (λ can. (tt, can)) (λ can. first_of _ _ (first_of _ _ can)) asks
      controls_along line.Drop same asks = on_open event.drop_channel refl (λ can. (tt, can)) (λ can. can) asks
      controls_along line.Connect same asks = begun_along asks
      controls_along (line.Do e) same asks = errand_along e asks
      controls_along y same asks = told_along (notice_of y) (ap notice_of same) asks

      pub line_along : IfSome (plays_line starves most w x) (P next ls)
      line_along = go (asked_by x.line) refl
        where
          go : (o : Option (ℕ × Asked)) → asked_by x.line ≡ o → IfSome (option_map_or (λ (asked : ℕ × Asked). Some (queueing w asked.0)) o (controls starves most w x.number x.line)) (P next ls)
          go None asks = controls_along x.line refl asks
          go (Some (a, asked)) asks = subst (λ (d : Control). P d ls (queueing w a)) (sym (asked_controls_none c x.number x.line (a, asked) asks)) (k.queued c x ls w a asked has asks l p)

    abbrev after_lines : Control → List NumberedLine → Control
    after_lines c ls = fold (λ (d : Control) (x : NumberedLine). controlled d x.number x.line) c ls

    plays_along : (ls : List NumberedLine) → ((x : NumberedLine) → Has x ls → Has x lines) → AllByRecursion (λ (x : NumberedLine). NamesKnown ids x.line) ls
        → (c : Control) (w : WorldState) → Both c c ls w → IfSome (plays starves most ls w) (Both (after_lines c ls) (after_lines c ls) [])
    plays_along [] among known c w b = b
    plays_along (x ∷ ls) among known c w b =
        go (plays_line starves most w x) (line_led lines starves most ids rise premises c x ls w (among x (inl refl)) b.0 known.0) (line_along c x ls w (among x (inl refl)) b.0 b.1)
        (plays_along ls (λ y has. among y (inr has)) known.1 (controlled c x.number x.line))
      where
        go : (o : Option WorldState) → IfSome o (Leads (controlled c x.number x.line) ls) → IfSome o (P (controlled c x.number x.line) ls)
            → ((v : WorldState) → Both (controlled c x.number x.line) (controlled c x.number x.line) ls v → IfSome (plays starves most ls v) (Both (after_lines c (x ∷ ls)) (after_lines c (x ∷ ls)) []))
            → IfSome (option_and_then (plays starves most ls) o) (Both (after_lines c (x ∷ ls)) (after_lines c (x ∷ ls)) [])
        go None led own on = tt
        go (Some v) led own on = on v (led, own)

    -- what was reached, whatever lines it is behind
    record Past (c : Control) (w : WorldState) : Type 0 where
      reached : Reached lines starves w
      own : P c [] w

    of_no_line : (e : Event) → event_weight e ≡ 0 → IsOfLines lines e
    of_no_line (event.tell n) free = absurd (omega (arith, free))
    of_no_line e free = tt

    past_free : (c : Control) (w : WorldState) (e : Event) → event_weight e ≡ 0 → is_enabled w e ≡ true → Past c w → Past c (act starves w e)
    past_free c w e free can q = record {
      reached = record {
        moves = happens e ∷ q.reached.moves;
        pass = (subst (λ (x : WorldState). MayPass lines x (happens e)) q.reached.leads (of_no_line e free, can), q.reached.pass);
        few = omega (arith, free, q.reached.few);
        leads = ap (λ (x : WorldState). act starves x e) q.reached.leads;
      };
      own = k.free c [] w e q.reached free can q.own;
    }

    past_drawn : (c : Control) (w : WorldState) → Past c w → Past c (drawing w)
    past_drawn c w q = record {
      reached = record {
        moves = draws ∷ q.reached.moves;
        pass = (tt, q.reached.pass);
        few = omega (arith, q.reached.few);
        leads = ap drawing q.reached.leads;
      };
      own = k.draw c [] w q.own;
    }

    owns : (c : Control) (o : Option WorldState) → IfSome o (Past c) → IfSome o (P c [])
    owns c None own = tt
    owns c (Some w) own = own.own

    -- after the last line
    ends_along : (c : Control) (w : WorldState) → Both c c [] w → IfSome (ends_session starves most w) (P c [])
    ends_along c w (l, p) = go (is_channel_open w) refl (some_left w)
      where
        cut : is_channel_open w ≡ true → Past c (act starves w event.drop_channel)
        cut is_open =
            let r = l.base.reached in
            let few : l.base.count + 1 ≤ length lines + 2 = omega (arith, l.base.few) in
            record {
              reached = record {
                moves = happens event.drop_channel ∷ r.moves;
                pass = (subst (λ (x : WorldState). MayPass lines x (happens event.drop_channel)) r.leads (tt, is_open), r.pass);
                few = omega (arith, l.base.few, r.few);
                leads = ap (λ (x : WorldState). act starves x event.drop_channel) r.leads;
              };
              own = k.moves c [] w event.drop_channel l.base.count r few (tt, is_open) refl (open_shut w is_open) p;
            }

        go : (a : Bool) → is_channel_open w ≡ a → (b : Bool) → IfSome (if a && b then settled starves most.draws (act starves w event.drop_channel) else Some w) (P c [])
        go true is_open true = owns c (settled starves most.draws (act starves w event.drop_channel))
            (settled_keeps starves (Past c) (past_free c) (past_drawn c) most.draws (act starves w event.drop_channel) (cut is_open))
        go true is_open false = p
        go false shut b = p

    -- a whole run
    pub run_along : AllByRecursion (λ (x : NumberedLine). NamesKnown ids x.line) lines → SeenAs ids lines (before_all ids) lines (seen (world_of lines))
        → ((v : WorldState) → connects_on starves most (world_of lines) ≡ Some v → P (connected (before_all ids)) lines v) → IfSome (run_of most starves lines) (P (control_of ids lines) [])
    run_along known sees begun_so =
        let start : ReachedWithin 0 lines starves (world_of lines) = record { moves = []; pass = tt; few = omega arith; leads = refl } in
        let first : Control = connected (before_all ids) in
        let said : Control = control_of ids lines in
        let begun : Option WorldState = connects_on starves most (world_of lines) in
        let played : Option WorldState = option_and_then (plays starves most lines) begun in
        then_on lines starves most ids rise premises (Both said said []) (P said []) (ends_session starves most) (option_and_then (settled starves most.draws) played) (ends_along said)
        (then_on lines starves most ids rise premises (Both said said []) (Both said said []) (settled starves most.draws) played
        (settled_keeps starves (Both said said []) (both_free said said []) (both_drawn said said []) most.draws)
        (then_on lines starves most ids rise premises (Both first first lines) (Both said said []) (plays starves most lines) begun (plays_along lines (λ x has. has) known first)
        (both begun refl (begins_led lines starves most ids rise premises (before_all ids) lines (world_of lines) 0 start (omega arith) sees (may_connect lines) sees.channel))))
      where
        both : (o : Option WorldState) → connects_on starves most (world_of lines) ≡ o → IfSome o (Leads (connected (before_all ids)) lines)
            → IfSome o (Both (connected (before_all ids)) (connected (before_all ids)) lines)
        both None made led = tt
        both (Some v) made led = (led, begun_so v made)

-- ---- the runs of lines

-- the ids of the devices that lines declare
abbrev pub ids_of : List NumberedLine → List ℕ
ids_of lines = map (λ (e : ℕ × Declared). e.0) (declared_devices (map (λ (x : NumberedLine). x.line) lines))

pub runs_along : (lines : List NumberedLine) (starves : Key → Bool) (most : Most) (w : WorldState) (ordered : AreOrderedLines (ids_of lines) lines) (premises : RunPremises lines)
    (P : Control → List NumberedLine → WorldState → Type 0) → Keeps lines starves most (ids_of lines) (sorted_from_strictly_increasing (numbers lines) ordered.rise) premises P
    → ((v : WorldState) → connects_on starves most (world_of lines) ≡ Some v → P (first_control (ids_of lines)) lines v) → run_of most starves lines ≡ Some w → P (control_of (ids_of lines) lines) [] w
runs_along lines starves most w ordered premises P k begun is =
    let rise : Rise (numbers lines) = sorted_from_strictly_increasing (numbers lines) ordered.rise in
    subst (λ (o : Option WorldState). IfSome o (P (control_of (ids_of lines) lines) [])) is
    (run_along lines starves most (ids_of lines) rise premises P k ordered.known (first_sees lines rise) begun)
