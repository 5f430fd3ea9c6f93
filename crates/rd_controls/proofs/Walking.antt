-- What each event that happens by itself keeps, and a draw, is kept by settling, by the rounds of a channel's begin, and by a `do` line.
use Rattle.std.proofs.Common.{◌≡◌, refl, ℕ, zero, suc, ◌+◌, ◌<◌, ◌≤◌, ◌&&◌, ◌/◌, ◌^◌, Bool, true, false, List, [], ◌∷◌, length, Some, None, Option, arith}
use Rattle.std.specs.Prelude.{if◌then◌else◌, is_none, max, min, nat_le, nat_lt, slice_get}
use Rattle.std.specs.List.{AllByRecursion, flat_map}
use Rattle.std.specs.Option.{IfSome, unwrap_or}
use Rattle.std.proofs.Math.Nat.{le-max_left, le-min, min-le_right, mod-lt}
use Rattle.std.proofs.lemmas.Bool.Decides.{nat_tests}
use Rattle.rd_base.specs.declared.journal.Key.{Key}
use Rattle.rd_drive.proofs.AllLemmas.{all_append}
use Rattle.rd_runs.specs.Moves.{event_weight}
use Rattle.rd_runs.proofs.Reaching.{both}
use Rattle.rd_script.specs.declared.line.Errand.{Errand}
use Rattle.rd_script.specs.declared.line.Errand.TheVariants as errand
use Rattle.rd_world.specs.Events.{Event, act, apply_job, client_has_message, client_read, client_send, collect, host_has_message, host_read, host_send, is_enabled, is_read, issue, take_job}
use Rattle.rd_world.specs.Run.{Most, NextStep, all_client_sends, all_host_sends, application_ids, choices, chosen, client_reads_all, device_ids, does, drawing, drawn_count, event, event_of, hand_numbers, host_count, host_reads_all, is_quiet, picked, reads_client, reads_host, rounds, settled, settles_by, takes_of, when_enabled, where_true, while_enabled}
use Rattle.rd_world.specs.World.{WorldState}

-- ---- what can be drawn

-- an event that happens by itself, and can
abbrev Happens : WorldState → Event → Type 0
Happens w e = (event_weight e ≡ 0) × (is_enabled w e ≡ true)

abbrev CanCome : WorldState → NextStep → Type 0
CanCome w (event e) = Happens w e
CanCome w reads_client = is_enabled w (client_read (length (w.to_client).pipe)) ≡ true
CanCome w reads_host = is_enabled w (host_read (length (w.to_host).pipe)) ≡ true

each_flat : {A : Type 0} (Q : NextStep → Type 0) (f : A → List NextStep) (xs : List A) → ((x : A) → AllByRecursion Q (f x)) → AllByRecursion Q (flat_map f xs)
each_flat Q f [] each = tt
each_flat Q f (x ∷ xs) each = all_append Q (f x) (flat_map f xs) (each x) (each_flat Q f xs each)

where_can : (Q : NextStep → Type 0) (b : Bool) (c : NextStep) → (b ≡ true → Q c) → AllByRecursion Q (where_true b c)
where_can Q true c is = (is refl, tt)
where_can Q false c is = tt

choices_can : (w : WorldState) → AllByRecursion (CanCome w) (choices w)
choices_can w =
    let Q : NextStep → Type 0 = CanCome w in
    all_append Q _ _ (all_append Q _ _ (all_append Q _ _ (all_append Q _ _ (all_append Q _ _ (all_append Q _ _ (all_append Q _ _
    (each_flat Q (λ a. where_true (is_enabled w (issue a)) (event (issue a))) (application_ids w) (λ a. where_can Q (is_enabled w (issue a)) (event (issue a)) (λ can. (refl, can))))
    (where_can Q (host_has_message w) (event host_send) (λ can. (refl, can))))
    (where_can Q (is_enabled w (client_read (length (w.to_client).pipe))) reads_client (λ can. can)))
    (where_can Q (client_has_message w) (event client_send) (λ can. (refl, can))))
    (each_flat Q (λ d. where_true (is_enabled w (collect d)) (event (collect d))) (device_ids w) (λ d. where_can Q (is_enabled w (collect d)) (event (collect d)) (λ can. (refl, can)))))
    (where_can Q (is_enabled w (host_read (length (w.to_host).pipe))) reads_host (λ can. can)))
    (each_flat Q (takes_of w) (device_ids w)
    (λ d. each_flat Q (λ h. where_true (is_enabled w (take_job d h)) (event (take_job d h))) (hand_numbers w) (λ h. where_can Q (is_enabled w (take_job d h)) (event (take_job d h)) (λ can. (refl, can))))))
    (each_flat Q (λ h. where_true (is_enabled w (apply_job h)) (event (apply_job h))) (hand_numbers w) (λ h. where_can Q (is_enabled w (apply_job h)) (event (apply_job h)) (λ can. (refl, can))))

-- a draw leaves what can happen by itself as it was
drawing_can : (w : WorldState) (e : Event) → event_weight e ≡ 0 → is_enabled w e ≡ true → is_enabled (drawing w) e ≡ true
drawing_can w (issue a) free can = can
drawing_can w host_send free can = can
drawing_can w (client_read n) free can = can
drawing_can w client_send free can = can
drawing_can w (collect device) free can = can
drawing_can w (host_read n) free can = can
drawing_can w (take_job device hand) free can = can
drawing_can w (apply_job hand) free can = can
drawing_can w e free can = absurd (omega (arith, free))

and_both : (a b : Bool) → a ≡ true → b ≡ true → (a && b) ≡ true
and_both true b e f = f
and_both false b e f = absurd (cc)

-- a count that is drawn is one of bytes that are there
count_fits : (w : WorldState) (pipe : List ℕ) → is_read pipe (length pipe) ≡ true → is_read pipe (drawn_count w pipe) ≡ true
count_fits w pipe can =
    let some : 0 < length pipe = grind (arith, nat_tests, both (nat_lt 0 (length pipe)) (nat_le (length pipe) (length pipe)) can) in
    let most : ℕ = min (max 1 w.piece) (length pipe) in
    let one : 0 < max 1 w.piece = le-max_left 1 w.piece in
    let least : 0 < most = le-min {k = 1} {a = max 1 w.piece} {b = length pipe} one some in
    let drawn : ℕ = picked w.draws most in
    let below : drawn < most = mod-lt (w.draws / 2 ^ 33) least in
    let few : most ≤ length pipe = min-le_right (max 1 w.piece) (length pipe) in
    let first : 0 < 1 + drawn = omega arith in
    let last : 1 + drawn ≤ length pipe = omega (arith, below, few) in
    and_both (nat_lt 0 (1 + drawn)) (nat_le (1 + drawn) (length pipe)) (grind (arith, nat_tests, first)) (grind (arith, nat_tests, last))

pick_has : (Q : NextStep → Type 0) (xs : List NextStep) (i : ℕ) (d : NextStep) → AllByRecursion Q xs → Q d → Q (unwrap_or (slice_get xs i) d)
pick_has Q [] i d all own = own
pick_has Q (x ∷ xs) zero d all own = all.0
pick_has Q (x ∷ xs) (suc i) d all own = pick_has Q xs i d all.1 own

-- ---- what rounds keep

-- the events of a channel's opening
abbrev pub IsOpening : Event → Type 0
IsOpening host_send = Unit {0}
IsOpening client_send = Unit {0}
IsOpening (client_read n) = Unit {0}
IsOpening (host_read n) = Unit {0}
IsOpening e = ⊥

module _ (starves : Key → Bool) (P : WorldState → Type 0) (IsKind : Event → Type 0) (comes : (w : WorldState) (e : Event) → IsKind e → is_enabled w e ≡ true → P w → P (act starves w e))
    (opening : (e : Event) → IsOpening e → IsKind e) where
  while_keeps : (most : ℕ) (e : Event) → IsKind e → (w : WorldState) → P w → P (while_enabled starves most e w)
  while_keeps zero e none w p = p
  while_keeps (suc most) e none w p = by (is_enabled w e) refl (while_keeps most e none)
    where
      by : (b : Bool) → is_enabled w e ≡ b → ((x : WorldState) → P x → P (while_enabled starves most e x))
          → P (if b then while_enabled starves most e (act starves w e) else w)
      by true can next = next (act starves w e) (comes w e none can p)
      by false can next = p

  when_keeps : (e : Event) → IsKind e → (w : WorldState) → P w → P (when_enabled starves e w)
  when_keeps e none w p = by (is_enabled w e) refl
    where
      by : (b : Bool) → is_enabled w e ≡ b → P (if b then act starves w e else w)
      by true can = comes w e none can p
      by false can = p

  host_sends_keep : (w : WorldState) → P w → P (all_host_sends starves w)
  host_sends_keep w p = while_keeps (host_count w) host_send (opening host_send tt) w p

  client_sends_keep : (w : WorldState) → P w → P (all_client_sends starves w)
  client_sends_keep w p = while_keeps (length ((w.client).core).outbox) client_send (opening client_send tt) w p

  pub opening_round_keeps : (w : WorldState) → P w → P (host_reads_all starves (client_reads_all starves (all_client_sends starves (all_host_sends starves w))))
  opening_round_keeps w p =
      let answered : WorldState = all_client_sends starves (all_host_sends starves w) in
      let read : WorldState = client_reads_all starves answered in
      when_keeps (host_read (length (read.to_host).pipe)) (opening (host_read (length (read.to_host).pipe)) tt) read
      (when_keeps (client_read (length (answered.to_client).pipe)) (opening (client_read (length (answered.to_client).pipe)) tt) answered (client_sends_keep (all_host_sends starves w) (host_sends_keep w p)))

  -- rounds end where nothing is to be sent or read
  pub opening_rounds_keep : (most : ℕ) (w : WorldState) → P w → IfSome (rounds starves most w) (λ x. P x × (is_quiet x ≡ true))
  opening_rounds_keep zero w p = tt
  opening_rounds_keep (suc most) w p = by (is_quiet w) refl (opening_rounds_keep most)
    where
      answered : WorldState
      answered = all_client_sends starves (all_host_sends starves w)

      read : WorldState
      read = client_reads_all starves answered

      read_keeps : P read
      read_keeps = when_keeps (client_read (length (answered.to_client).pipe)) (opening (client_read (length (answered.to_client).pipe)) tt) answered (client_sends_keep (all_host_sends starves w) (host_sends_keep w p))

      by : (b : Bool) → is_quiet w ≡ b → ((x : WorldState) → P x → IfSome (rounds starves most x) (λ y. P y × (is_quiet y ≡ true)))
          → IfSome (if b then Some w else rounds starves most (host_reads_all starves read)) (λ y. P y × (is_quiet y ≡ true))
      by true quiet next = (p, quiet)
      by false quiet next = next (host_reads_all starves read) (when_keeps (host_read (length (read.to_host).pipe)) (opening (host_read (length (read.to_host).pipe)) tt) read read_keeps)

-- ---- what is kept

module _ (starves : Key → Bool) (P : WorldState → Type 0) (free : (w : WorldState) (e : Event) → event_weight e ≡ 0 → is_enabled w e ≡ true → P w → P (act starves w e))
    (draw : (w : WorldState) → P w → P (drawing w)) where
  chosen_keeps : (w : WorldState) (c : NextStep) → CanCome w c → P w → P (chosen starves (drawing w) c)
  chosen_keeps w (event e) can p = free (drawing w) e can.0 (drawing_can w e can.0 can.1) (draw w p)
  chosen_keeps w reads_client can p =
      let x : WorldState = drawing (drawing w) in
      let (some, kept) = both (is_read (w.to_client).pipe (length (w.to_client).pipe)) (is_none w.kept) can in
      free x (client_read (drawn_count x (w.to_client).pipe)) refl
      (and_both (is_read (w.to_client).pipe (drawn_count x (w.to_client).pipe)) (is_none w.kept) (count_fits x (w.to_client).pipe some) kept) (draw (drawing w) (draw w p))
  chosen_keeps w reads_host can p =
      let x : WorldState = drawing (drawing w) in
      free x (host_read (drawn_count x (w.to_host).pipe)) refl (count_fits x (w.to_host).pipe can) (draw (drawing w) (draw w p))

  settles_keeps : (R : WorldState → Type 0) (w : WorldState) (cs : List NextStep) (on : WorldState → Option WorldState) → (cs ≡ [] → R w) → AllByRecursion (CanCome w) cs
      → ((x : WorldState) → P x → IfSome (on x) R) → P w → IfSome (settles_by starves w cs on) R
  settles_keeps R w [] on rests all next p = rests refl
  settles_keeps R w (c ∷ cs) on rests all next p =
      let i : ℕ = picked (drawing w).draws (length (c ∷ cs)) in
      let one : NextStep = unwrap_or (slice_get (c ∷ cs) i) c in
      next (chosen starves (drawing w) one) (chosen_keeps w one (pick_has (CanCome w) (c ∷ cs) i c all all.0) p)

  -- settling ends where nothing can happen by itself
  pub settled_rests : (most : ℕ) (w : WorldState) → P w → IfSome (settled starves most w) (λ x. P x × (choices x ≡ []))
  settled_rests zero w p = tt
  settled_rests (suc most) w p = settles_keeps (λ x. P x × (choices x ≡ [])) w (choices w) (settled starves most) (λ rests. (p, rests)) (choices_can w) (settled_rests most) p

  pub settled_keeps : (most : ℕ) (w : WorldState) → P w → IfSome (settled starves most w) P
  settled_keeps most w p = by (settled starves most w) (settled_rests most w p)
    where
      by : (o : Option WorldState) → IfSome o (λ x. P x × (choices x ≡ [])) → IfSome o P
      by None own = tt
      by (Some x) own = own.0

  opening_free : (e : Event) → IsOpening e → event_weight e ≡ 0
  opening_free host_send is = refl
  opening_free client_send is = refl
  opening_free (client_read n) is = refl
  opening_free (host_read n) is = refl
  opening_free e is = absurd is

  abbrev IsFree : Event → Type 0
  IsFree e = event_weight e ≡ 0

  pub round_keeps : (w : WorldState) → P w → P (host_reads_all starves (client_reads_all starves (all_client_sends starves (all_host_sends starves w))))
  round_keeps w p = opening_round_keeps starves P IsFree free opening_free w p

  -- rounds end where nothing is to be sent or read
  pub rounds_keep : (most : ℕ) (w : WorldState) → P w → IfSome (rounds starves most w) (λ x. P x × (is_quiet x ≡ true))
  rounds_keep most w p = opening_rounds_keep starves P IsFree free opening_free most w p

  pub does_keeps : (most : Most) (w : WorldState) (e : Errand) → is_enabled w (event_of w e) ≡ true → P w → P (does starves most w e)
  does_keeps most w errand.Send can p = host_sends_keep starves P IsFree free opening_free w p
  does_keeps most w errand.Answer can p = client_sends_keep starves P IsFree free opening_free w p
  does_keeps most w (errand.Issue a) can p = free w (issue a) refl can p
  does_keeps most w errand.Read can p = free w (client_read (length (w.to_client).pipe)) refl can p
  does_keeps most w (errand.Take device hand) can p = free w (take_job device hand) refl can p
  does_keeps most w (errand.Apply hand) can p = free w (apply_job hand) refl can p
  does_keeps most w (errand.Collect device) can p = free w (collect device) refl can p
  does_keeps most w errand.Back can p = free w (host_read (length (w.to_host).pipe)) refl can p
