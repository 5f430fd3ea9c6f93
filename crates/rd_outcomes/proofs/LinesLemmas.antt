-- Where a run ends the lines of each application have come out.
use Rattle.std.proofs.Common.{◌≡◌, ◌≢◌, ◌⊎◌, ◌∙◌, refl, sym, ap, subst, inl, inr, ℕ, zero, suc, ◌+◌, ◌<◌, ◌≤◌, ◌==◌, ◌&&◌, Bool, true, false, cond, not, List, [], ◌∷◌, ◌++◌, length, reverse, map, filter_map, Some, None, Option, arith, append_assoc, append-nil, length-append, ne_eqb, eq-eqb}
use Rattle.std.specs.Prelude.{fold, is_none, nat_lt, slice_get}
use Rattle.std.specs.List.{AllByRecursion, cons_option, flat_map}
use Rattle.std.specs.Map.{lookup}
use Rattle.std.specs.Ordering.{nat_cmp}
use Rattle.std.specs.BTreeMap.{is_at}
use Rattle.std.specs.Option.{IfSome, option_and_then, option_map_or, unwrap_or}
use Rattle.std.proofs.lemmas.Bool.{cases_eq}
use Rattle.std.proofs.lemmas.Bool.Decides.{nat_tests}
use Rattle.std.proofs.lemmas.List.{length-reverse, reverse-reverse}
use Rattle.std.proofs.lemmas.Map.Keys.{sorted_from_strictly_increasing}
use Rattle.rd_base.specs.declared.journal.Key.{Key}
use Rattle.rd_controls.proofs.Along.{Keeps, ids_of, runs_along}
use Rattle.rd_controls.proofs.Leading.{asked_controls_none}
use Rattle.rd_controls.proofs.Numbers.{Rise, numbers}
use Rattle.rd_controls.proofs.Walking.{IsOpening, opening_rounds_keep}
use Rattle.rd_controls.specs.Controls.{AreOrderedLines}
use Rattle.rd_journals.proofs.ChannelLemmas.{all_refreshed, begun_on}
use Rattle.rd_pending.proofs.MapLemmas.{beside, inserted}
use Rattle.rd_controls.specs.RunsMoves.{ReachedWithin}
use Rattle.rd_controls.specs.RunsPremises.{RunPremises}
use Rattle.rd_controls.proofs.RunsBeginningLemmas.{Unset, begins_as}
use Rattle.rd_controls.proofs.RunsParts.{IsBehind, IsBehindWithin, MayBe, Part, all_take_keeps, begins, client_all_keeps, client_gets, client_send_keeps, done, host_gets, host_handling_keeps, host_send_keeps, is_issue, one_part, part_weight, within_behind}
use Rattle.rd_script.specs.declared.line.Line.{Line}
use Rattle.rd_script.specs.declared.line.NumberedLine.{NumberedLine}
use Rattle.rd_script.specs.declared.outcome.Outcome.{Outcome}
use Rattle.rd_world.proofs.PlayingLemmas.{may_connect}
use Rattle.rd_world.specs.Acts.{Opens, act_by}
use Rattle.rd_world.specs.Control.{Control, control_of, controlled, first_control}
use Rattle.rd_declared.specs.Devices.{Declared, PrinterNames}
use Rattle.rd_world.specs.Events as event
use Rattle.rd_world.specs.Events.{Event, act, is_enabled, is_read, may_issue}
use Rattle.rd_world.specs.Lines.{IsDue, LinesEnd, Waits, last_begun, waits_after, waits_of}
use Rattle.rd_declared.specs.Declaring.{bare_lines, declared_devices}
use Rattle.rd_world.specs.Run.{event as next_event}
use Rattle.rd_world.specs.Run.{Most, NextStep, applications_of, asked_by, asking, choices, connects_on, drawing, idles, is_quiet, queueing, rounds, run_of, where_true, world_of}
use Rattle.rd_deeds.specs.Talk.{Deed, on}
use Rattle.rd_world.specs.World.{ApplicationState, Asked, Kept, WorldState, application_at, most_messages, new_application}
use Rattle.rd_world.specs.Hearing.{host_handles}
use Rattle.rd_outcomes.specs.Opened.{ChannelsOpen}
use Rattle.rd_outcomes.specs.Trail.{IsTrailed, StandsWith, first_stage}
use Rattle.rd_outcomes.proofs.TrailLemmas.{chain_long}
use Rattle.rd_world.proofs.ApplicationsLemmas.{apart_at}
use Rattle.rd_deeds.proofs.Calls.{Does}
use Rattle.rd_world.specs.Recording.{client_id}
use Rattle.rd_outcomes.proofs.ChainLemmas.{chain_ends, was_handed_out}
use Rattle.rd_outcomes.proofs.ComingLemmas.{AreDue, From, Going, event_goes, going_queued, line_goes, part_acted, part_going, part_queued}

-- ---- what applications ask for

abbrev pub asks_in : List (ℕ × ApplicationState) → ℕ → ApplicationState
asks_in es a = unwrap_or (lookup (is_at (nat_cmp a)) es) new_application

of_pairs : ℕ → List (ℕ × Asked) → List Asked
of_pairs a pairs = filter_map (λ (p : ℕ × Asked). on a p.0 p.1) pairs

all_asks : (a : ℕ) (pairs : List (ℕ × Asked)) (es : List (ℕ × ApplicationState)) → (asks_in (fold asking es pairs) a).asks ≡ (asks_in es a).asks ++ of_pairs a pairs
unfolding of_pairs
all_asks a [] es = sym (append-nil (asks_in es a).asks)
all_asks a (p ∷ pairs) es = all_asks a pairs (asking es p) ∙ elim (cases_eq a p.0) [
  | inl e ↦ at e
  | inr other ↦
      let same : asks_in (asking es p) a ≡ asks_in es a = ap (λ (o : Option ApplicationState). unwrap_or o new_application) (beside p.0 _ a other es) in
      ap (λ (x : ApplicationState). x.asks ++ of_pairs a pairs) same
      ∙ ap (λ (b : Bool). (asks_in es a).asks ++ cons_option (cond b (Some p.1) None) (of_pairs a pairs)) (sym (ne_eqb p.0 a (λ (same : p.0 ≡ a). other (sym same))))
]
  where
    at : a ≡ p.0 → (asks_in (asking es p) a).asks ++ of_pairs a pairs ≡ (asks_in es a).asks ++ of_pairs a (p ∷ pairs)
    at e =
        let own : asks_in (asking es p) a ≡ record (asks_in es p.0) { asks = (asks_in es p.0).asks ++ p.1 ∷ [] } =
        ap (λ (n : ℕ). asks_in (asking es p) n) e ∙ ap (λ (o : Option ApplicationState). unwrap_or o new_application) (inserted p.0 (record (asks_in es p.0) { asks = (asks_in es p.0).asks ++ p.1 ∷ [] }) es) in
        ap (λ (x : ApplicationState). x.asks ++ of_pairs a pairs) own ∙ append_assoc (asks_in es p.0).asks (p.1 ∷ []) (of_pairs a pairs)
        ∙ ap (λ (n : ℕ). (asks_in es n).asks ++ p.1 ∷ of_pairs a pairs) (sym e)
        ∙ ap (λ (b : Bool). (asks_in es a).asks ++ cons_option (cond b (Some p.1) None) (of_pairs a pairs)) (sym (eq-eqb p.0 a (sym e)))

-- nothing else is set at first
abbrev pub fresh : (es : List (ℕ × ApplicationState)) → Type 0
fresh es = (a : ℕ) → asks_in es a ≡ record new_application { asks = (asks_in es a).asks }

pub all_fresh : (pairs : List (ℕ × Asked)) (es : List (ℕ × ApplicationState)) → fresh es → fresh (fold asking es pairs)
all_fresh [] es is = is
all_fresh (p ∷ pairs) es is = all_fresh pairs (asking es p) (λ a. elim (cases_eq a p.0) [
  | inl e ↦
      let own : asks_in (asking es p) a ≡ record (asks_in es p.0) { asks = (asks_in es p.0).asks ++ p.1 ∷ [] } =
      ap (λ (n : ℕ). asks_in (asking es p) n) e ∙ ap (λ (o : Option ApplicationState). unwrap_or o new_application) (inserted p.0 (record (asks_in es p.0) { asks = (asks_in es p.0).asks ++ p.1 ∷ [] }) es) in
      own ∙ ap (λ (x : ApplicationState). record x { asks = (asks_in es p.0).asks ++ p.1 ∷ [] }) (is p.0) ∙ ap (λ (x : ApplicationState). record new_application { asks = x.asks }) (sym own)
  | inr other ↦
      let same : asks_in (asking es p) a ≡ asks_in es a = ap (λ (o : Option ApplicationState). unwrap_or o new_application) (beside p.0 _ a other es) in
      same ∙ is a ∙ ap (λ (x : ApplicationState). record new_application { asks = x.asks }) (sym same)
])

-- what is going at first
GoingAs : List NumberedLine → List (ℕ × ApplicationState) → List Deed → Type 0
GoingAs lines es deeds = (a : ℕ) → IsTrailed (declared_devices (bare_lines lines)) a deeds (waits_of (declared_devices (bare_lines lines)) a lines) (asks_in es a)
    × ((asks_in es a).asks ≡ map (λ (l : Waits). l.asked) (waits_of (declared_devices (bare_lines lines)) a lines)) × ((asks_in es a).queued ≡ 0)

going_as : (lines : List NumberedLine) (es : List (ℕ × ApplicationState)) → fresh es
    → ((a : ℕ) → (asks_in es a).asks ≡ map (λ (l : Waits). l.asked) (waits_of (declared_devices (bare_lines lines)) a lines)) → GoingAs lines es []
unfolding GoingAs
going_as lines es is asks a = (
  subst (λ (x : ApplicationState). IsTrailed (declared_devices (bare_lines lines)) a [] (waits_of (declared_devices (bare_lines lines)) a lines) x) (sym (is a)) (record {
    ended = [];
    rest = waits_of (declared_devices (bare_lines lines)) a lines;
    whole = refl;
    stage = first_stage;
    chain = refl;
    handles = refl;
    stands = (([], refl, refl), tt);
  }),
  asks a,
  ap (λ (x : ApplicationState). x.queued) (is a),
)

-- the lines of an application ask for these
waits_asked : (a : ℕ) (c : Control) (ls : List NumberedLine) → map (λ (l : Waits). l.asked) (waits_after a c ls) ≡ of_pairs a (filter_map asked_by (map (λ (l : NumberedLine). l.line) ls))
unfolding of_pairs
waits_asked a c [] = refl
waits_asked a c (x ∷ ls) = by (asked_by x.line) (waits_asked a (controlled c x.number x.line) ls)
  where
    rest : List Waits
    rest = waits_after a (controlled c x.number x.line) ls

    pairs : List (ℕ × Asked)
    pairs = filter_map asked_by (map (λ (l : NumberedLine). l.line) ls)

    when : (b : Bool) (asked : Asked) → map (λ (l : Waits). l.asked) rest ≡ of_pairs a pairs
        → map (λ (l : Waits). l.asked) (option_map_or (λ (asked : Asked). record { asked = asked; acts = length c.acts } ∷ []) (cond b (Some asked) None) [] ++ rest) ≡ cons_option (cond b (Some asked) None) (of_pairs a pairs)
    when true asked later = ap (λ (xs : List Asked). asked ∷ xs) later
    when false asked later = later

    by : (o : Option (ℕ × Asked)) → map (λ (l : Waits). l.asked) rest ≡ of_pairs a pairs
        → map (λ (l : Waits). l.asked) (option_map_or (λ (asked : Asked). record { asked = asked; acts = length c.acts } ∷ []) (option_and_then (λ (p : ℕ × Asked). on a p.0 p.1) o) [] ++ rest)
        ≡ of_pairs a (cons_option o pairs)
    by None later = later
    by (Some (b, asked)) later = when (b == a) asked later

-- ---- rounds

module _ (lines : List NumberedLine) (starves : Key → Bool) (most : Most) (premises : RunPremises lines) where
  abbrev devices : List (ℕ × Declared)
  devices = declared_devices (bare_lines lines)

  -- a world in the rounds of a channel's begin, whatever may be issued there
  record Rolls (w v : WorldState) : Type 0 where
    behind : IsBehind lines starves v
    going : Going lines starves v
    acted : length (filter_map act_by w.deeds) ≤ length (filter_map act_by v.deeds)
    queued : (a : ℕ) → (application_at v a).queued ≡ (application_at w a).queued

  -- no line is issued
  abbrev InRounds : Part → Type 0
  InRounds p = (part_weight p ≡ 0) × (is_issue p ≡ false)

  rolls_part : (w v : WorldState) (p : Part) → InRounds p → MayBe lines starves v p → Rolls w v → Rolls w (done starves v p)
  rolls_part w v p (free, none) may r = record {
    behind = (let same : part_weight p + (length lines + 2) ≡ length lines + 2 = omega (arith, free) in subst (λ (k : ℕ). IsBehindWithin lines starves k (done starves v p)) same (one_part lines starves (length lines + 2) v p may r.behind));
    going = part_going lines starves premises v p may r.behind (λ issue. absurd (cc (issue, none))) r.going;
    acted = omega (arith, r.acted, part_acted lines starves v p may free);
    queued = λ a. part_queued lines starves v p may free a ∙ r.queued a;
  }

  rolls_event : (w v : WorldState) (e : Event) → IsOpening e → is_enabled v e ≡ true → Rolls w v → Rolls w (act starves v e)
  rolls_event w v event.host_send is can r = host_send_keeps lines starves (Rolls w) InRounds (λ p free none. (free, none)) (rolls_part w) v r
  rolls_event w v event.client_send is can r = client_send_keeps lines starves (Rolls w) InRounds (λ p free none. (free, none)) (rolls_part w) v r
  rolls_event w v (event.client_read n) is can r =
      let (some, none) = both_of (is_read (v.to_client).pipe n) v.kept can in
      client_all_keeps lines starves (Rolls w) InRounds (λ p free none. (free, none)) (rolls_part w) (done starves v (client_gets n)) (rolls_part w v (client_gets n) (refl, refl) (some, none) r)
    where
      both_of : (b : Bool) (o : Option Kept) → (b && is_none o) ≡ true → (b ≡ true) × (o ≡ None)
      both_of true None e = (refl, refl)
      both_of true (Some k) e = absurd (cc e)
      both_of false o e = absurd (cc e)
  rolls_event w v (event.host_read n) is can r =
      let x : WorldState = done starves v (host_gets n) in
      all_take_keeps lines starves (Rolls w) InRounds (λ p free none. (free, none)) (rolls_part w) (host_handles (most_messages x.to_host) x)
      (host_handling_keeps lines starves (Rolls w) InRounds (λ p free none. (free, none)) (rolls_part w) (most_messages x.to_host) x (rolls_part w v (host_gets n) (refl, refl) can r))
  rolls_event w v e is can r = absurd is

  -- a channel begins, and its rounds end
  begun_rolls : (w v : WorldState) (n : ℕ) → ReachedWithin n lines starves w → n + 1 ≤ length lines + 2 → is_enabled w event.connect ≡ true → connects_on starves most w ≡ Some v → Going lines starves w → Rolls w v
  begun_rolls w v n r few can made going =
      let behind : IsBehindWithin lines starves n w = within_behind lines starves n w (omega (arith, few)) r in
      let x : WorldState = act starves w event.connect in
      let next = one_part lines starves n w begins can behind in
      let first : Rolls w x = record {
        behind = record { parts = next.parts; may = next.may; few = omega (arith, next.few, few); leads = next.leads };
        going = part_going lines starves premises w begins can (record { parts = behind.parts; may = behind.may; few = omega (arith, behind.few, few); leads = behind.leads }) (λ issue. absurd (cc issue)) going;
        acted = begun_acted w;
        queued = begun_queued w;
      } in
      ended (rounds starves most.rounds x) made (opening_rounds_keep starves (Rolls w) IsOpening (rolls_event w) (λ e is. is) most.rounds x first)
    where
      ended : (o : Option WorldState) → o ≡ Some v → IfSome o (λ y. Rolls w y × (is_quiet y ≡ true)) → Rolls w v
      ended None made own = absurd (cc made)
      ended (Some y) made own = let same : y ≡ v = cc made in subst (Rolls w) same own.0

      begun_acted : (w : WorldState) → length (filter_map act_by w.deeds) ≤ length (filter_map act_by (act starves w event.connect).deeds)
      begun_acted w =
          subst (λ (x : WorldState). length (filter_map act_by w.deeds) ≤ length (filter_map act_by (begun_on w x).deeds)) (sym (all_refreshed (map (λ (e : ℕ × PrinterNames). e.0) w.printers) w)) (omega arith)

      begun_queued : (w : WorldState) (a : ℕ) → (application_at (act starves w event.connect) a).queued ≡ (application_at w a).queued
      begun_queued w a =
          subst (λ (x : WorldState). (application_at (begun_on w x) a).queued ≡ (application_at w a).queued) (sym (all_refreshed (map (λ (e : ℕ × PrinterNames). e.0) w.printers) w)) refl

  -- ---- the beginning

  at_first : GoingAs lines (world_of lines).applications (world_of lines).deeds
  unfolding GoingAs
  at_first =
      let bare : List Line = map (λ (l : NumberedLine). l.line) lines in
      begins_as lines (λ (u : Unset). GoingAs lines u.applications u.deeds)
      (going_as lines (applications_of bare) (all_fresh (filter_map asked_by bare) [] (λ a. refl)) (λ a. all_asks a (filter_map asked_by bare) [] ∙ sym (waits_asked a (first_control (ids_of lines)) lines)))

  none_queued : (a : ℕ) → (application_at (world_of lines) a).queued ≡ 0
  unfolding GoingAs
  none_queued a = (at_first a).2

  first_going : Going lines starves (world_of lines)
  unfolding GoingAs
  first_going =
      record { trails = λ a. (told at_first a).0; asks = λ a. (told at_first a).1 }
    where
      told : GoingAs lines (world_of lines).applications (world_of lines).deeds → (a : ℕ) → IsTrailed devices a (world_of lines).deeds (waits_of devices a lines) (application_at (world_of lines) a)
          × ((application_at (world_of lines) a).asks ≡ map (λ (l : Waits). l.asked) (waits_of devices a lines)) × ((application_at (world_of lines) a).queued ≡ 0)
      told all a = all a

  -- ---- along the lines

  -- Of an application the lines that were passed are queued, and due.
  pub record IsQueued (a : ℕ) (c : Control) (ls : List NumberedLine) (w : WorldState) : Type 0 where
    pub passed : List Waits
    pub whole : waits_of devices a lines ≡ passed ++ waits_after a c ls
    pub queued : (application_at w a).queued ≡ length passed
    pub due : AllByRecursion (λ (l : Waits). IsDue devices l.acts w.deeds) passed

  pub record Walked (c : Control) (ls : List NumberedLine) (w : WorldState) : Type 0 where
    pub going : Going lines starves w
    pub queues : (a : ℕ) → IsQueued a c ls w
    pub opened : Opens devices w.deeds (last_begun w.deeds)

  had_at : (P : Waits → Type 0) (xs : List Waits) (ys : List Waits) (k : ℕ) (l : Waits) → AllByRecursion P xs → slice_get (xs ++ ys) k ≡ Some l → k < length xs → P l
  had_at P [] ys k l all at low = absurd (omega (arith, low))
  had_at P (x ∷ xs) ys zero l all at low = let same : x ≡ l = cc at in subst P same all.0
  had_at P (x ∷ xs) ys (suc k) l all at low = had_at P xs ys k l all.1 at (omega (arith, low))

  -- what is queued is due
  due_of : (c : Control) (ls : List NumberedLine) (w : WorldState) → ((a : ℕ) → IsQueued a c ls w) → AreDue lines starves w
  due_of c ls w queues a k l at low =
      let q = queues a in
      had_at (λ (l : Waits). IsDue devices l.acts w.deeds) q.passed (waits_after a c ls) k l q.due (ap (λ (xs : List Waits). slice_get xs k) (sym q.whole) ∙ at) (subst (λ (n : ℕ). k < n) q.queued low)

  all_due : (w v : WorldState) → From lines starves w v → (xs : List Waits) → AllByRecursion (λ (l : Waits). IsDue devices l.acts w.deeds) xs → AllByRecursion (λ (l : Waits). IsDue devices l.acts v.deeds) xs
  all_due w v f [] all = tt
  all_due w v f (x ∷ xs) all = (f.due x.acts all.0, all_due w v f xs all.1)

  -- the same lines are passed
  walked_from : (c : Control) (ls : List NumberedLine) (w v : WorldState) → From lines starves w v → Going lines starves v → Walked c ls w → Walked c ls v
  walked_from c ls w v f going k = record {
    going = going;
    queues = λ a. let q = k.queues a in record { passed = q.passed; whole = q.whole; queued = f.queued a ∙ q.queued; due = all_due w v f q.passed q.due };
    opened = (f.due 0 (record { acted = omega arith; opened = k.opened })).opened;
  }

  -- a line of an application is passed
  last_all : (P : Waits → Type 0) (xs : List Waits) (x : Waits) → AllByRecursion P xs → P x → AllByRecursion P (xs ++ x ∷ [])
  last_all P [] x all own = (own, tt)
  last_all P (y ∷ xs) x all own = (all.0, last_all P xs x all.1 own)

  queue_same : (a b : ℕ) (w : WorldState) → (a ≢ b) → application_at (queueing w b) a ≡ application_at w a
  queue_same a b w other = ap (λ (o : Option ApplicationState). unwrap_or o new_application) (beside b (record (application_at w b) { queued = (application_at w b).queued + 1 }) a other w.applications)

  queue_own : (b : ℕ) (w : WorldState) → application_at (queueing w b) b ≡ record (application_at w b) { queued = (application_at w b).queued + 1 }
  queue_own b w = ap (λ (o : Option ApplicationState). unwrap_or o new_application) (inserted b (record (application_at w b) { queued = (application_at w b).queued + 1 }) w.applications)

  queued_one : (c : Control) (x : NumberedLine) (ls : List NumberedLine) (w : WorldState) (b : ℕ) (asked : Asked) → asked_by x.line ≡ Some (b, asked) → length c.acts ≡ length (filter_map act_by w.deeds)
      → Walked c (x ∷ ls) w → (a : ℕ) → IsQueued a c ls (queueing w b)
  queued_one c x ls w b asked asks acts k a = elim (cases_eq a b) [ inl e ↦ mine e | inr other ↦ others other ]
    where
      q : IsQueued a c (x ∷ ls) w
      q = k.queues a

      next : Waits
      next = record { asked = asked; acts = length c.acts }

      after_it : (e : (b == a) ≡ true) → waits_after a c (x ∷ ls) ≡ next ∷ waits_after a c ls
      after_it e =
          ap (λ (o : Option (ℕ × Asked)). option_map_or (λ (asked : Asked). record { asked = asked; acts = length c.acts } ∷ []) (option_and_then (λ (p : ℕ × Asked). on a p.0 p.1) o) [] ++ waits_after a (controlled c x.number x.line) ls) asks
          ∙ ap (λ (t : Bool). option_map_or (λ (asked : Asked). record { asked = asked; acts = length c.acts } ∷ []) (cond t (Some asked) None) [] ++ waits_after a (controlled c x.number x.line) ls) e
          ∙ ap (λ (d : Control). next ∷ waits_after a d ls) (asked_controls_none c x.number x.line (b, asked) asks)

      beside_it : (e : (b == a) ≡ false) → waits_after a c (x ∷ ls) ≡ waits_after a c ls
      beside_it e =
          ap (λ (o : Option (ℕ × Asked)). option_map_or (λ (asked : Asked). record { asked = asked; acts = length c.acts } ∷ []) (option_and_then (λ (p : ℕ × Asked). on a p.0 p.1) o) [] ++ waits_after a (controlled c x.number x.line) ls) asks
          ∙ ap (λ (t : Bool). option_map_or (λ (asked : Asked). record { asked = asked; acts = length c.acts } ∷ []) (cond t (Some asked) None) [] ++ waits_after a (controlled c x.number x.line) ls) e
          ∙ ap (λ (d : Control). waits_after a d ls) (asked_controls_none c x.number x.line (b, asked) asks)

      mine : a ≡ b → IsQueued a c ls (queueing w b)
      mine e = record {
        passed = q.passed ++ next ∷ [];
        whole = q.whole ∙ ap (λ (xs : List Waits). q.passed ++ xs) (after_it (eq-eqb b a (sym e))) ∙ sym (append_assoc q.passed (next ∷ []) (waits_after a c ls));
        queued = ap (λ (n : ℕ). (application_at (queueing w b) n).queued) e ∙ ap (λ (y : ApplicationState). y.queued) (queue_own b w) ∙ ap (λ (n : ℕ). (application_at w n).queued + 1) (sym e)
            ∙ ap (λ (n : ℕ). n + 1) q.queued ∙ sym (length-append q.passed (next ∷ []));
        due = last_all (λ (l : Waits). IsDue devices l.acts w.deeds) q.passed next q.due (record { acted = omega (arith, acts); opened = k.opened });
      }

      others : (a ≢ b) → IsQueued a c ls (queueing w b)
      others other = record {
        passed = q.passed;
        whole = q.whole ∙ ap (λ (xs : List Waits). q.passed ++ xs) (beside_it (ne_eqb b a (λ (same : b ≡ a). other (sym same))));
        queued = ap (λ (y : ApplicationState). y.queued) (queue_same a b w other) ∙ q.queued;
        due = q.due;
      }

  -- a line of no application
  passed_none : (c : Control) (x : NumberedLine) (ls : List NumberedLine) (w : WorldState) → asked_by x.line ≡ None → (a : ℕ) → IsQueued a c (x ∷ ls) w → IsQueued a (controlled c x.number x.line) ls w
  passed_none c x ls w asks a q = record {
    passed = q.passed;
    whole = q.whole ∙ ap (λ (xs : List Waits). q.passed ++ xs)
        (ap (λ (o : Option (ℕ × Asked)). option_map_or (λ (asked : Asked). record { asked = asked; acts = length c.acts } ∷ []) (option_and_then (λ (p : ℕ × Asked). on a p.0 p.1) o) [] ++ waits_after a (controlled c x.number x.line) ls) asks);
    queued = q.queued;
    due = q.due;
  }

  module _ (opens : ChannelsOpen lines starves most) where
    begun_walked : (c : Control) (ls : List NumberedLine) (w v : WorldState) (n : ℕ) → ReachedWithin n lines starves w → n + 1 ≤ length lines + 2 → is_enabled w event.connect ≡ true → connects_on starves most w ≡ Some v
        → Going lines starves w → ((a : ℕ) → IsQueued a c ls w) → Walked c ls v
    begun_walked c ls w v n r few can made going queues =
        let rolls = begun_rolls w v n r few can made going in
        let opened : Opens devices v.deeds (last_begun v.deeds) = opens n w v few r can made in
        record {
          going = rolls.going;
          queues = λ a. (let q = queues a in record { passed = q.passed; whole = q.whole; queued = rolls.queued a ∙ q.queued; due = again rolls.acted opened q.passed q.due });
          opened = opened;
        }
      where
        again : length (filter_map act_by w.deeds) ≤ length (filter_map act_by v.deeds) → Opens devices v.deeds (last_begun v.deeds) → (xs : List Waits)
            → AllByRecursion (λ (l : Waits). IsDue devices l.acts w.deeds) xs → AllByRecursion (λ (l : Waits). IsDue devices l.acts v.deeds) xs
        again less opened [] all = tt
        again less opened (x ∷ xs) all = (record { acted = omega (arith, less, (all.0).acted); opened = opened }, again less opened xs all.1)

    module _ (ordered : AreOrderedLines (ids_of lines) lines) where
      rise : Rise (numbers lines)
      rise = sorted_from_strictly_increasing (numbers lines) ordered.rise

      keeps : Keeps lines starves most (ids_of lines) (sorted_from_strictly_increasing (numbers lines) ordered.rise) premises Walked
      keeps = record {
        free = λ c ls w e reached free can k.
            (let both = event_goes lines starves premises w e reached free can k.going (due_of c ls w k.queues) in walked_from c ls w (act starves w e) both.1 both.0 k);
        draw = λ c ls w k. walked_from c ls w (drawing w) (record { due = λ acts is. is; queued = λ a. refl }) (record { trails = (k.going).trails; asks = (k.going).asks }) k;
        queued = λ c x ls w b asked has asks led k. record {
          going = going_queued lines starves w b k.going;
          queues = queued_one c x ls w b asked asks (ap length (sym (led.base.sees).acts) ∙ length-reverse (filter_map act_by w.deeds)) k;
          opened = k.opened;
        };
        passes = λ c x ls w asks k. record { going = k.going; queues = λ a. passed_none c x ls w asks a (k.queues a); opened = k.opened };
        moves = λ c ls w e n r few may one shut k.
            (let both = line_goes lines starves premises n w e r few may one shut k.going (due_of c ls w k.queues) in walked_from c ls w (act starves w e) both.1 both.0 k);
        idled = λ c ls w number k. walked_from c ls w (idles w number) (record { due = λ acts is. is; queued = λ a. refl }) (record { trails = (k.going).trails; asks = (k.going).asks }) k;
        begins = λ c ls w v n r few can made k. begun_walked c ls w v n r few can made k.going k.queues;
      }

      pub run_walked : (w : WorldState) → run_of most starves lines ≡ Some w → Walked (control_of (ids_of lines) lines) [] w
      run_walked w is =
          runs_along lines starves most w ordered premises Walked keeps
          (λ v made. begun_walked (first_control (ids_of lines)) lines (world_of lines) v 0 (record { moves = []; pass = tt; few = omega arith; leads = refl }) (omega arith) (may_connect lines) made first_going
          (λ a. record { passed = []; whole = refl; queued = none_queued a; due = tt })) is

      -- ---- where a run ends

      nothing_before : {A : Type 0} (xs ys : List A) → xs ++ ys ≡ [] → xs ≡ []
      nothing_before [] ys none = refl
      nothing_before (x ∷ xs) ys none = absurd (cc none)

      none_true : (b : Bool) (n : NextStep) → where_true b n ≡ [] → b ≡ false
      none_true true n none = absurd (cc none)
      none_true false n none = refl

      none_issued : (w : WorldState) (es : List (ℕ × ApplicationState)) → flat_map (λ (a : ℕ). where_true (is_enabled w (event.issue a)) (next_event (event.issue a))) (map (λ (e : ℕ × ApplicationState). e.0) es) ≡ []
          → (a : ℕ) → (lookup (is_at (nat_cmp a)) es ≡ None) ⊎ (may_issue (application_at w a) ≡ false)
      none_issued w [] none a = inl refl
      none_issued w (e ∷ es) none a = elim (cases_eq a e.0) [
        | inl here ↦ inr (subst (λ (n : ℕ). may_issue (application_at w n) ≡ false) (sym here) (none_true (is_enabled w (event.issue e.0)) _ (nothing_before (where_true (is_enabled w (event.issue e.0)) (next_event (event.issue e.0))) _ none)))
        | inr other ↦ elim (none_issued w es (nothing_after (where_true (is_enabled w (event.issue e.0)) (next_event (event.issue e.0))) _ none) a) [
          | inl gone ↦ inl (rw (apart_at a e.0 other) gone)
          | inr not ↦ inr not
        ]
      ]
        where
          nothing_after : (xs ys : List NextStep) → xs ++ ys ≡ [] → ys ≡ []
          nothing_after [] ys none = none
          nothing_after (x ∷ xs) ys none = absurd (cc none)

      -- at rest no application may issue a line
      rests_idle : (w : WorldState) → choices w ≡ [] → (a : ℕ) → may_issue (application_at w a) ≡ false
      rests_idle w none a = elim (none_issued w w.applications (nothing_before _ _ (nothing_before _ _ (nothing_before _ _ (nothing_before _ _ (nothing_before _ _ (nothing_before _ _ (nothing_before _ _ none))))))) a) [
        | inl gone ↦ ap (λ (o : Option ApplicationState). may_issue (unwrap_or o new_application)) gone
        | inr not ↦ not
      ]

      all_issued : (x : ApplicationState) → may_issue x ≡ false → x.awaits ≡ None → x.queued ≤ length x.outcomes
      all_issued x may none = by (nat_lt (length x.outcomes) x.queued) refl (ap (λ (o : Option ℕ). nat_lt (length x.outcomes) x.queued && is_none o) (sym none) ∙ may)
        where
          by : (b : Bool) → nat_lt (length x.outcomes) x.queued ≡ b → (b && true) ≡ false → x.queued ≤ length x.outcomes
          by true e off = absurd (cc off)
          by false e off = grind (arith, nat_tests, e)

      -- each line of an application has come out, where what it awaits was handed out
      pub lines_end : (w : WorldState) → run_of most starves lines ≡ Some w → choices w ≡ [] → Does client_id w.deeds → (a : ℕ) → (application_at w a).awaits ≡ None
          → LinesEnd devices w.deeds a new_application (waits_of devices a lines) (application_at w a).outcomes (λ later. Unit {0}) []
      lines_end w is rests does a none =
          let k = run_walked w is in
          let x : ApplicationState = application_at w a in
          let t = (k.going).trails a in
          let q = k.queues a in
          let issued = all_issued x (rests_idle w rests a) none in
          let stands : StandsWith devices a w.deeds t.stage t.rest None = subst (StandsWith devices a w.deeds t.stage t.rest) none t.stands in
          let long : length t.ended ≡ length x.outcomes = chain_long devices a w.deeds t.ended (reverse x.outcomes) t.stage t.chain ∙ length-reverse x.outcomes in
          let all : waits_of devices a lines ≡ q.passed = q.whole ∙ append-nil q.passed in
          let whole : length (waits_of devices a lines) ≡ length (reverse t.ended) + length t.rest = ap length t.whole ∙ length-append (reverse t.ended) t.rest in
          let none_left : length t.rest ≡ 0 = omega (arith, issued, long, ap length all, whole, q.queued, length-reverse t.ended) in
          let rest : t.rest ≡ [] = empty t.rest none_left in
          let ended : waits_of devices a lines ≡ reverse t.ended ++ [] = t.whole ∙ ap (λ (xs : List Waits). reverse t.ended ++ xs) rest in
          let outs : reverse (reverse x.outcomes) ++ [] ≡ x.outcomes = append-nil (reverse (reverse x.outcomes)) ∙ reverse-reverse x.outcomes in
          subst (λ (p : List Waits × List Outcome). LinesEnd devices w.deeds a new_application p.0 p.1 (λ later. Unit {0}) []) (λ i. (sym ended i, outs i))
          (chain_ends devices a w.deeds does t.ended (reverse x.outcomes) t.stage t.chain [] [] (stands.0, was_handed_out t.stage.known w.deeds stands.1))
        where
          empty : (xs : List Waits) → length xs ≡ 0 → xs ≡ []
          empty [] e = refl
          empty (x ∷ xs) e = absurd (cc e)
