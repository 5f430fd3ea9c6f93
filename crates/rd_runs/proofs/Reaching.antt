-- What a run of lines comes to is reached by moves, and what each move keeps holds of all that is reached.
use Rattle.std.proofs.Common.{◌≡◌, ◌∙◌, refl, sym, ap, subst, inl, inr, ℕ, zero, suc, ◌+◌, ◌<◌, ◌≤◌, ◌&&◌, ◌/◌, ◌^◌, Bool, true, false, List, [], ◌∷◌, length, Some, None, Option, arith}
use Rattle.std.specs.Prelude.{if◌then◌else◌, is_none, max, min, nat_le, nat_lt, slice_get}
use Rattle.std.specs.List.{AllByRecursion, flat_map}
use Rattle.std.specs.Option.{IfSome, option_and_then, option_map_or, unwrap_or}
use Rattle.std.proofs.Math.Nat.{le-max_left, le-min, min-le_right, mod-lt}
use Rattle.std.proofs.lemmas.Bool.Decides.{nat_tests}
use Rattle.rd_base.specs.declared.journal.Key.{Key}
use Rattle.rd_drive.proofs.AllLemmas.{all_append}
use Rattle.rd_printer.specs.declared.notice.Notice.{Notice}
use Rattle.rd_script.specs.declared.line.Errand.{Errand}
use Rattle.rd_script.specs.declared.line.Errand.TheVariants as errand
use Rattle.rd_script.specs.declared.line.Line.{Line}
use Rattle.rd_script.specs.declared.line.Line.TheVariants as line
use Rattle.rd_script.specs.declared.line.NumberedLine.{NumberedLine}
use Rattle.rd_runs.specs.Moves.{IsOfLines, MayPass, RunMove, Reached, ReachedWithin, after_moves, draws, event_weight, happens, idle, after_move, queues, total_weight, weight}
use Rattle.rd_world.proofs.PlayingLemmas.{may_connect}
use Rattle.rd_world.specs.Events.{Event, act, add, apply_job, client_read, client_send, collect, connect, drop_channel, host_has_message, host_read, host_send, client_has_message, is_channel_open, is_enabled, is_read, issue, remove, take_job, tell}
use Rattle.rd_world.specs.Run.{Most, NextStep, all_client_sends, all_host_sends, application_ids, asked_by, by_event, choices, chosen, client_reads_all, connects_on, controls, device_ids, does, drawing, drawn_count, ends_session, event, event_of, hand_numbers, host_count, host_reads_all, idles, is_quiet, notice_of, picked, plays, plays_line, queueing, reads_client, reads_host, rounds, run_of, settled, settles_by, some_left, takes_of, when_enabled, where_true, while_enabled, world_of}
use Rattle.rd_deeds.specs.Talk.{EachAfter, Has}
use Rattle.rd_world.specs.World.{Asked, WorldState}

-- ---- induction

-- what a world's step may take: that it was reached, and that what comes of it is
abbrev pub Steps : List NumberedLine → (Key → Bool) → WorldState → RunMove → Type 0
Steps lines starves w m = Reached lines starves w × Reached lines starves (after_move starves w m) × MayPass lines w m

module _ (lines : List NumberedLine) (starves : Key → Bool) where
  -- What holds at the beginning, behind no line, and is kept by each move, of which a line's adds one, holds of each world that is reached.
  pub by_counted_moves : (P : ℕ → WorldState → Type 0) → P 0 (world_of lines)
      → ((n : ℕ) (w : WorldState) (m : RunMove) → Steps lines starves w m → P n w → P (weight m + n) (after_move starves w m))
      → (w : WorldState) (r : Reached lines starves w) → P (total_weight r.moves) w
  by_counted_moves P first step w r = subst (P (total_weight r.moves)) (sym r.leads) (go r.moves r.pass r.few)
    where
      go : (moves : List RunMove) → EachAfter (λ before m. MayPass lines (after_moves starves (world_of lines) before) m) moves → total_weight moves ≤ length lines + 2
          → P (total_weight moves) (after_moves starves (world_of lines) moves)
      go [] pass few = first
      go (m ∷ before) pass few =
          let w : WorldState = after_moves starves (world_of lines) before in
          let less : total_weight before ≤ length lines + 2 = omega (arith, few) in
          step (total_weight before) w m
          (record { moves = before; pass = pass.1; few = less; leads = refl }, record { moves = m ∷ before; pass = pass; few = few; leads = refl }, pass.0)
          (go before pass.1 less)

  -- What holds at the beginning and is kept by each move holds of each world that is reached. What was proved before of worlds that are reached may be used of
  -- the world before the move and of the one after it.
  pub by_moves : (P : WorldState → Type 0) → P (world_of lines) → ((w : WorldState) (m : RunMove) → Steps lines starves w m → P w → P (after_move starves w m))
      → (w : WorldState) → Reached lines starves w → P w
  by_moves P first step w r = by_counted_moves (λ n. P) first (λ n. step) w r

-- ---- reads that are drawn

pub both : (a b : Bool) → (a && b) ≡ true → (a ≡ true) × (b ≡ true)
both true true e = (refl, refl)
both true false e = absurd (cc)
both false b e = absurd (cc)

and_true : (a b : Bool) → a ≡ true → b ≡ true → (a && b) ≡ true
and_true true b e f = f
and_true false b e f = absurd (cc)

-- a count that is drawn is one of bytes that are there
drawn_fits : (w : WorldState) (pipe : List ℕ) → is_read pipe (length pipe) ≡ true → is_read pipe (drawn_count w pipe) ≡ true
drawn_fits w pipe can =
    let some : 0 < length pipe = grind (arith, nat_tests, both (nat_lt 0 (length pipe)) (nat_le (length pipe) (length pipe)) can) in
    let most : ℕ = min (max 1 w.piece) (length pipe) in
    let drawn : ℕ = picked w.draws most in
    let below : drawn < most = mod-lt (w.draws / 2 ^ 33) (min_some (max 1 w.piece) (length pipe) (max_some w.piece) some) in
    let few : most ≤ length pipe = min-le_right (max 1 w.piece) (length pipe) in
    let first : 0 < 1 + drawn = omega arith in
    let last : 1 + drawn ≤ length pipe = omega (arith, below, few) in
    and_true (nat_lt 0 (1 + drawn)) (nat_le (1 + drawn) (length pipe)) (grind (arith, nat_tests, first)) (grind (arith, nat_tests, last))
  where
    max_some : (n : ℕ) → 0 < max 1 n
    max_some n = le-max_left 1 n

    min_some : (a b : ℕ) → 0 < a → 0 < b → 0 < min a b
    min_some a b one two = le-min {k = 1} {a = a} {b = b} one two

module _ (lines : List NumberedLine) (starves : Key → Bool) where
  abbrev Within : ℕ → WorldState → Type 0
  Within n w = ReachedWithin n lines starves w

  -- ---- one move

  one_more : (n k : ℕ) (w : WorldState) (m : RunMove) → weight m + n ≤ k → MayPass lines w m → Within n w → Within k (after_move starves w m)
  one_more n k w m few may r = record {
    moves = m ∷ r.moves;
    pass = (subst (λ (x : WorldState). MayPass lines x m) r.leads may, r.pass);
    few = omega (arith, few, r.few);
    leads = ap (λ (x : WorldState). after_move starves x m) r.leads;
  }

  within_more : (n k : ℕ) (w : WorldState) → n ≤ k → Within n w → Within k w
  within_more n k w few r = record { moves = r.moves; pass = r.pass; few = omega (arith, few, r.few); leads = r.leads }

  -- what happens by itself
  abbrev IsFree : Event → Type 0
  IsFree e = (event_weight e ≡ 0) × IsOfLines lines e

  free_event : (n : ℕ) (w : WorldState) (e : Event) → IsFree e → is_enabled w e ≡ true → Within n w → Within n (act starves w e)
  free_event n w e (free, of_lines) can r = one_more n n w (happens e) (omega (arith, free)) (of_lines, can) r

  line_event : (n : ℕ) (w : WorldState) (e : Event) → event_weight e ≡ 1 → IsOfLines lines e → is_enabled w e ≡ true → Within n w → Within (n + 1) (act starves w e)
  line_event n w e one of_lines can r = one_more n (n + 1) w (happens e) (omega (arith, one)) (of_lines, can) r

  drawn : (n : ℕ) (w : WorldState) → Within n w → Within n (drawing w)
  drawn n w r = one_more n n w draws (omega arith) tt r

  idled : (n : ℕ) (w : WorldState) (number : ℕ) → Within n w → Within (n + 1) (idles w number)
  idled n w number r = one_more n (n + 1) w (idle number) (omega arith) tt r

  -- ---- settling

  -- what can be drawn can happen
  abbrev CanBeDrawn : WorldState → NextStep → Type 0
  CanBeDrawn w (event e) = IsFree e × (is_enabled w e ≡ true)
  CanBeDrawn w reads_client = is_enabled w (client_read (length (w.to_client).pipe)) ≡ true
  CanBeDrawn w reads_host = is_enabled w (host_read (length (w.to_host).pipe)) ≡ true

  flat_all : {A : Type 0} (P : NextStep → Type 0) (f : A → List NextStep) (xs : List A) → ((x : A) → AllByRecursion P (f x)) → AllByRecursion P (flat_map f xs)
  flat_all P f [] each = tt
  flat_all P f (x ∷ xs) each = all_append P (f x) (flat_map f xs) (each x) (flat_all P f xs each)

  true_all : (P : NextStep → Type 0) (b : Bool) (c : NextStep) → (b ≡ true → P c) → AllByRecursion P (where_true b c)
  true_all P true c is = (is refl, tt)
  true_all P false c is = tt

  all_can : (w : WorldState) → AllByRecursion (CanBeDrawn w) (choices w)
  all_can w =
      let P : NextStep → Type 0 = CanBeDrawn w in
      all_append P _ _ (all_append P _ _ (all_append P _ _ (all_append P _ _ (all_append P _ _ (all_append P _ _ (all_append P _ _
      (flat_all P (λ a. where_true (is_enabled w (issue a)) (event (issue a))) (application_ids w) (λ a. true_all P (is_enabled w (issue a)) (event (issue a)) (λ can. ((refl, tt), can))))
      (true_all P (host_has_message w) (event host_send) (λ can. ((refl, tt), can))))
      (true_all P (is_enabled w (client_read (length (w.to_client).pipe))) reads_client (λ can. can)))
      (true_all P (client_has_message w) (event client_send) (λ can. ((refl, tt), can))))
      (flat_all P (λ d. where_true (is_enabled w (collect d)) (event (collect d))) (device_ids w) (λ d. true_all P (is_enabled w (collect d)) (event (collect d)) (λ can. ((refl, tt), can)))))
      (true_all P (is_enabled w (host_read (length (w.to_host).pipe))) reads_host (λ can. can)))
      (flat_all P (takes_of w) (device_ids w)
      (λ d. flat_all P (λ h. where_true (is_enabled w (take_job d h)) (event (take_job d h))) (hand_numbers w) (λ h. true_all P (is_enabled w (take_job d h)) (event (take_job d h)) (λ can. ((refl, tt), can))))))
      (flat_all P (λ h. where_true (is_enabled w (apply_job h)) (event (apply_job h))) (hand_numbers w) (λ h. true_all P (is_enabled w (apply_job h)) (event (apply_job h)) (λ can. ((refl, tt), can))))

  -- a draw leaves what can happen as it was
  same_enabled : (w : WorldState) (e : Event) → is_enabled (drawing w) e ≡ is_enabled w e
  same_enabled w (issue a) = refl
  same_enabled w host_send = refl
  same_enabled w (client_read n) = refl
  same_enabled w client_send = refl
  same_enabled w (collect device) = refl
  same_enabled w (host_read n) = refl
  same_enabled w (take_job device hand) = refl
  same_enabled w (apply_job hand) = refl
  same_enabled w (remove device) = refl
  same_enabled w (add device) = refl
  same_enabled w drop_channel = refl
  same_enabled w connect = refl
  same_enabled w (tell n) = refl

  chosen_within : (n : ℕ) (w : WorldState) (c : NextStep) → CanBeDrawn w c → Within n w → Within n (chosen starves (drawing w) c)
  chosen_within n w (event e) (free, can) r = free_event n (drawing w) e free (same_enabled w e ∙ can) (drawn n w r)
  chosen_within n w reads_client can r =
      let x : WorldState = drawing (drawing w) in
      let (some, kept) = both (is_read (w.to_client).pipe (length (w.to_client).pipe)) (is_none w.kept) can in
      free_event n x (client_read (drawn_count x (w.to_client).pipe)) (refl, tt)
      (and_true (is_read (w.to_client).pipe (drawn_count x (w.to_client).pipe)) (is_none w.kept) (drawn_fits x (w.to_client).pipe some) kept) (drawn n (drawing w) (drawn n w r))
  chosen_within n w reads_host can r =
      let x : WorldState = drawing (drawing w) in
      free_event n x (host_read (drawn_count x (w.to_host).pipe)) (refl, tt) (drawn_fits x (w.to_host).pipe can) (drawn n (drawing w) (drawn n w r))

  one_of_all : (P : NextStep → Type 0) (xs : List NextStep) (i : ℕ) (d : NextStep) → AllByRecursion P xs → P d → P (unwrap_or (slice_get xs i) d)
  one_of_all P [] i d all own = own
  one_of_all P (x ∷ xs) zero d all own = all.0
  one_of_all P (x ∷ xs) (suc i) d all own = one_of_all P xs i d all.1 own

  -- where something comes of it that is reached
  abbrev Comes : ℕ → Option WorldState → Type 0
  Comes n o = IfSome o (Within n)

  settles_by_within : (n : ℕ) (w : WorldState) (cs : List NextStep) (on : WorldState → Option WorldState) → AllByRecursion (CanBeDrawn w) cs
      → ((x : WorldState) → Within n x → Comes n (on x)) → Within n w → Comes n (settles_by starves w cs on)
  settles_by_within n w [] on all next r = r
  settles_by_within n w (c ∷ cs) on all next r =
      let i : ℕ = picked (drawing w).draws (length (c ∷ cs)) in
      let one : NextStep = unwrap_or (slice_get (c ∷ cs) i) c in
      next (chosen starves (drawing w) one) (chosen_within n w one (one_of_all (CanBeDrawn w) (c ∷ cs) i c all all.0) r)

  settled_within : (n most : ℕ) (w : WorldState) → Within n w → Comes n (settled starves most w)
  settled_within n zero w r = tt
  settled_within n (suc most) w r = settles_by_within n w (choices w) (settled starves most) (all_can w) (settled_within n most) r

  -- ---- all of one kind, and rounds

  while_within : (n most : ℕ) (e : Event) → IsFree e → (w : WorldState) → Within n w → Within n (while_enabled starves most e w)
  while_within n zero e free w r = r
  while_within n (suc most) e free w r = by (is_enabled w e) refl (while_within n most e free)
    where
      by : (b : Bool) → is_enabled w e ≡ b → ((x : WorldState) → Within n x → Within n (while_enabled starves most e x))
          → Within n (if b then while_enabled starves most e (act starves w e) else w)
      by true can next = next (act starves w e) (free_event n w e free can r)
      by false can next = r

  when_within : (n : ℕ) (e : Event) → IsFree e → (w : WorldState) → Within n w → Within n (when_enabled starves e w)
  when_within n e free w r = by (is_enabled w e) refl
    where
      by : (b : Bool) → is_enabled w e ≡ b → Within n (if b then act starves w e else w)
      by true can = free_event n w e free can r
      by false can = r

  host_sends_within : (n : ℕ) (w : WorldState) → Within n w → Within n (all_host_sends starves w)
  host_sends_within n w r = while_within n (host_count w) host_send (refl, tt) w r

  client_sends_within : (n : ℕ) (w : WorldState) → Within n w → Within n (all_client_sends starves w)
  client_sends_within n w r = while_within n (length ((w.client).core).outbox) client_send (refl, tt) w r

  rounds_within : (n most : ℕ) (w : WorldState) → Within n w → Comes n (rounds starves most w)
  rounds_within n zero w r = tt
  rounds_within n (suc most) w r = by (is_quiet w) (rounds_within n most)
    where
      answered : WorldState
      answered = all_client_sends starves (all_host_sends starves w)

      read : WorldState
      read = client_reads_all starves answered

      read_within : Within n read
      read_within =
          when_within n (client_read (length (answered.to_client).pipe)) (refl, tt) answered (client_sends_within n (all_host_sends starves w) (host_sends_within n w r))

      by : (b : Bool) → ((x : WorldState) → Within n x → Comes n (rounds starves most x))
          → Comes n (if b then Some w else rounds starves most (host_reads_all starves read))
      by true next = r
      by false next = next (host_reads_all starves read) (when_within n (host_read (length (read.to_host).pipe)) (refl, tt) read read_within)

  -- ---- lines

  module _ (most : Most) where
    does_within : (n : ℕ) (w : WorldState) (e : Errand) → is_enabled w (event_of w e) ≡ true → Within n w → Within n (does starves most w e)
    does_within n w errand.Send can r = host_sends_within n w r
    does_within n w errand.Answer can r = client_sends_within n w r
    does_within n w (errand.Issue a) can r = free_event n w (issue a) (refl, tt) can r
    does_within n w errand.Read can r = free_event n w (client_read (length (w.to_client).pipe)) (refl, tt) can r
    does_within n w (errand.Take device hand) can r = free_event n w (take_job device hand) (refl, tt) can r
    does_within n w (errand.Apply hand) can r = free_event n w (apply_job hand) (refl, tt) can r
    does_within n w (errand.Collect device) can r = free_event n w (collect device) (refl, tt) can r
    does_within n w errand.Back can r = free_event n w (host_read (length (w.to_host).pipe)) (refl, tt) can r

    by_event_within : (n : ℕ) (w : WorldState) (number : ℕ) (e : Event) → event_weight e ≡ 1 → IsOfLines lines e → Within n w → Within (n + 1) (by_event starves most w number e)
    by_event_within n w number e one of_lines r = by (is_enabled w e) refl
      where
        by : (b : Bool) → is_enabled w e ≡ b → Within (n + 1) (if b then act starves w e else idles w number)
        by true can = line_event n w e one of_lines can r
        by false can = idled n w number r

    connects_within : (n : ℕ) (w : WorldState) → is_enabled w connect ≡ true → Within n w → Comes (n + 1) (connects_on starves most w)
    connects_within n w can r = rounds_within (n + 1) most.rounds (act starves w connect) (line_event n w connect refl tt can r)

    controls_within : (n : ℕ) (w : WorldState) (number : ℕ) (l : NumberedLine) → Has l lines → (x : Line) → l.line ≡ x → Within n w → Comes (n + 1) (controls starves most w number x)
    unfolding controls
    controls_within n w number l has line.Settle same r = settled_within (n + 1) most.draws w (within_more n (n + 1) w (omega arith) r)
    controls_within n w number l has (line.Remove device) same r = by_event_within n w number (remove device) refl tt r
    controls_within n w number l has (line.Add device) same r = by_event_within n w number (add device) refl tt r
    controls_within n w number l has line.Drop same r = by_event_within n w number drop_channel refl tt r
    controls_within n w number l has line.Connect same r = by (is_enabled w connect) refl
      where
        by : (b : Bool) → is_enabled w connect ≡ b → Comes (n + 1) (if b then connects_on starves most w else Some (idles w number))
        by true can = connects_within n w can r
        by false can = idled n w number r
    controls_within n w number l has (line.Do e) same r = by (is_enabled w (event_of w e)) refl
      where
        by : (b : Bool) → is_enabled w (event_of w e) ≡ b → Within (n + 1) (if b then does starves most w e else idles w number)
        by true can = within_more n (n + 1) (does starves most w e) (omega arith) (does_within n w e can r)
        by false can = idled n w number r
    controls_within n w number l has x same r = by (notice_of x) (ap notice_of same)
      where
        by : (o : Option Notice) → notice_of l.line ≡ o → Within (n + 1) (option_map_or (λ n. by_event starves most w number (tell n)) o w)
        by None said = within_more n (n + 1) w (omega arith) r
        by (Some notice) said = by_event_within n w number (tell notice) refl (l, has, said) r

    line_within : (n : ℕ) (w : WorldState) (l : NumberedLine) → Has l lines → Within n w → Comes (n + 1) (plays_line starves most w l)
    line_within n w l has r = by (asked_by l.line) refl
      where
        by : (o : Option (ℕ × Asked)) → asked_by l.line ≡ o
            → Comes (n + 1) (option_map_or (λ (asked : ℕ × Asked). Some (queueing w asked.0)) o (controls starves most w l.number l.line))
        by None asks = controls_within n w l.number l has l.line refl r
        by (Some (a, asked)) asks = one_more n (n + 1) w (queues a) (omega arith) (l, asked, has, asks) r

    plays_within : (ls : List NumberedLine) → ((l : NumberedLine) → Has l ls → Has l lines) → (n : ℕ) (w : WorldState) → Within n w
        → Comes (n + length ls) (plays starves most ls w)
    plays_within [] among n w r = subst (λ (k : ℕ). Within k w) (omega arith) r
    plays_within (l ∷ ls) among n w r = by (plays_line starves most w l) (line_within n w l (among l (inl refl)) r) (plays_within ls (λ x has. among x (inr has)) (n + 1))
      where
        by : (o : Option WorldState) → Comes (n + 1) o → ((x : WorldState) → Within (n + 1) x → Comes (n + 1 + length ls) (plays starves most ls x))
            → Comes (n + suc (length ls)) (option_and_then (plays starves most ls) o)
        by None none next = tt
        by (Some x) some next = subst (λ (k : ℕ). Comes k (plays starves most ls x)) (omega arith) (next x some)

    ends_within : (n : ℕ) (w : WorldState) → Within n w → Comes (n + 1) (ends_session starves most w)
    ends_within n w r = by (is_channel_open w) refl (some_left w)
      where
        by : (a : Bool) → is_channel_open w ≡ a → (b : Bool) → Comes (n + 1) (if a && b then settled starves most.draws (act starves w drop_channel) else Some w)
        by true can true = settled_within (n + 1) most.draws (act starves w drop_channel) (line_event n w drop_channel refl tt can r)
        by true can false = within_more n (n + 1) w (omega arith) r
        by false can b = within_more n (n + 1) w (omega arith) r

    comes_then : (n k : ℕ) (on : WorldState → Option WorldState) (o : Option WorldState) → ((x : WorldState) → Within n x → Comes k (on x)) → Comes n o → Comes k (option_and_then on o)
    comes_then n k on None next some = tt
    comes_then n k on (Some x) next some = next x some

    run_within : Comes (length lines + 2) (run_of most starves lines)
    run_within =
        let start : Within 0 (world_of lines) = record { moves = []; pass = tt; few = omega arith; leads = refl } in
        let begun : Option WorldState = connects_on starves most (world_of lines) in
        let played : Option WorldState = option_and_then (plays starves most lines) begun in
        let n : ℕ = 0 + 1 + length lines in
        subst (λ (k : ℕ). Comes k (run_of most starves lines)) (omega arith)
        (comes_then n (n + 1) (ends_session starves most) (option_and_then (settled starves most.draws) played) (ends_within n)
        (comes_then n n (settled starves most.draws) played (settled_within n most.draws)
        (comes_then (0 + 1) n (plays starves most lines) begun (plays_within lines (λ l has. has) (0 + 1)) (connects_within 0 (world_of lines) (may_connect lines) start))))

  pub run_reached : (most : Most) (w : WorldState) → run_of most starves lines ≡ Some w → Reached lines starves w
  run_reached most w is = subst (Comes (length lines + 2)) is (run_within most)

-- ---- where a run ends nothing more can happen by itself

module _ (starves : Key → Bool) where
  abbrev IsAtRest : WorldState → Type 0
  IsAtRest w = choices w ≡ []

  settles_by_rests : (w : WorldState) (cs : List NextStep) (on : WorldState → Option WorldState) → choices w ≡ cs → ((x : WorldState) → IfSome (on x) IsAtRest)
      → IfSome (settles_by starves w cs on) IsAtRest
  settles_by_rests w [] on none next = none
  settles_by_rests w (c ∷ cs) on some next = next (chosen starves (drawing w) (unwrap_or (slice_get (c ∷ cs) (picked (drawing w).draws (length (c ∷ cs)))) c))

  settled_rests : (most : ℕ) (w : WorldState) → IfSome (settled starves most w) IsAtRest
  settled_rests zero w = tt
  settled_rests (suc most) w = settles_by_rests w (choices w) (settled starves most) refl (settled_rests most)

  ends_rests : (most : Most) (w : WorldState) → IsAtRest w → IfSome (ends_session starves most w) IsAtRest
  ends_rests most w rests = by (is_channel_open w && some_left w)
    where
      by : (b : Bool) → IfSome (if b then settled starves most.draws (act starves w drop_channel) else Some w) IsAtRest
      by true = settled_rests most.draws (act starves w drop_channel)
      by false = rests

  pub run_rests : (most : Most) (lines : List NumberedLine) (w : WorldState) → run_of most starves lines ≡ Some w → choices w ≡ []
  run_rests most lines w is =
      let settles : Option WorldState = option_and_then (settled starves most.draws) (option_and_then (plays starves most lines) (connects_on starves most (world_of lines))) in
      subst (λ (o : Option WorldState). IfSome o IsAtRest) is (by settles (from (option_and_then (plays starves most lines) (connects_on starves most (world_of lines)))))
    where
      from : (o : Option WorldState) → IfSome (option_and_then (settled starves most.draws) o) IsAtRest
      from None = tt
      from (Some x) = settled_rests most.draws x

      by : (o : Option WorldState) → IfSome o IsAtRest → IfSome (option_and_then (ends_session starves most) o) IsAtRest
      by None rests = tt
      by (Some x) rests = ends_rests most x rests
