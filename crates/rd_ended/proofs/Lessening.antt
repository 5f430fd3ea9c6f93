-- What makes one of some counts smaller, and leaves those before it as they are, doesn't go on for ever: so settling ends, and rounds.
use Rattle.std.proofs.Common.{◌≡◌, ◌⊎◌, ◌∙◌, refl, sym, subst, inl, inr, ℕ, zero, suc, ◌+◌, ◌<◌, ◌≤◌, ◌&&◌, ◌/◌, ◌^◌, arith, Bool, true, false, List, [], ◌∷◌, length, Some}
use Rattle.std.specs.Prelude.{if◌then◌else◌, is_none, max, min, nat_le, nat_lt, slice_get}
use Rattle.std.specs.List.{AllByRecursion, flat_map}
use Rattle.std.specs.Option.{unwrap_or}
use Rattle.std.proofs.Math.Nat.{le-max_left, le-min, min-le_right, mod-lt}
use Rattle.std.proofs.lemmas.Bool.Decides.{nat_tests}
use Rattle.rd_base.specs.declared.journal.Key.{Key}
use Rattle.rd_drive.proofs.AllLemmas.{all_append}
use Rattle.rd_told.proofs.RunsReaching.{both}
use Rattle.rd_told.specs.RunsMoves.{event_weight}
use Rattle.rd_world.proofs.RoundsLemmas.{client_sends_more, client_sent, host_sends_more, host_sent, round}
use Rattle.rd_world.specs.Events.{Event, act, apply_job, client_has_message, client_read, client_send, client_sends_next, collect, host_has_message, host_read, host_send, host_sends_next, is_empty, is_enabled, is_read, issue, take_job}
use Rattle.rd_world.specs.Run.{NextStep, all_client_sends, all_host_sends, application_ids, choices, chosen, client_reads_all, device_ids, drawing, drawn_count, event, hand_numbers, host_count, host_reads_all, is_quiet, picked, reads_client, reads_host, rounds, settled, settles_by, takes_of, when_enabled, where_true, while_enabled}
use Rattle.rd_world.specs.World.{WorldState}

-- one of these is smaller in the second world, and those before it are as they were
abbrev pub Lessens : List (WorldState → ℕ) → WorldState → WorldState → Type 0
Lessens [] w v = ⊥
Lessens (f ∷ fs) w v = (f v < f w) ⊎ ((f v ≡ f w) × Lessens fs w v)

-- what holds of a world where it holds of all that lessen it holds of all
pub by_lessening : (fs : List (WorldState → ℕ)) (P : WorldState → Type 0) → ((w : WorldState) → ((v : WorldState) → Lessens fs w v → P v) → P w) → (w : WorldState) → P w
by_lessening [] P step w = step w (λ v none. absurd none)
by_lessening (f ∷ fs) P step w = below (by_lessening fs) (suc (f w)) w (omega arith)
  where
    below : ((Q : WorldState → Type 0) → ((x : WorldState) → ((v : WorldState) → Lessens fs x v → Q v) → Q x) → (x : WorldState) → Q x) → (n : ℕ) (x : WorldState) → f x < n → P x
    below rest zero x few = absurd (omega (arith, few))
    below rest (suc n) x few =
        rest (λ v. f v ≤ n → P v)
        (λ v later few_v. step v (λ u less. elim less [
          | inl smaller ↦ below rest n u (omega (arith, smaller, few_v))
          | inr same ↦ later u same.1 (omega (arith, same.0, few_v))
        ])) x (omega (arith, few))

pub lessens_then : (fs : List (WorldState → ℕ)) (w x v : WorldState) → Lessens fs w x → Lessens fs x v → Lessens fs w v
lessens_then [] w x v first second = absurd first
lessens_then (f ∷ fs) w x v (inl a) (inl b) = inl (omega (arith, a, b))
lessens_then (f ∷ fs) w x v (inl a) (inr b) = inl (omega (arith, a, b.0))
lessens_then (f ∷ fs) w x v (inr a) (inl b) = inl (omega (arith, a.0, b))
lessens_then (f ∷ fs) w x v (inr a) (inr b) = inr (b.0 ∙ a.0, lessens_then fs w x v a.1 b.1)

-- ---- what can be drawn

abbrev pub CanCome : WorldState → NextStep → Type 0
CanCome w (event e) = (event_weight e ≡ 0) × (is_enabled w e ≡ true)
CanCome w reads_client = is_enabled w (client_read (length (w.to_client).pipe)) ≡ true
CanCome w reads_host = is_enabled w (host_read (length (w.to_host).pipe)) ≡ true

each_flat : {A : Type 0} (Q : NextStep → Type 0) (f : A → List NextStep) (xs : List A) → ((x : A) → AllByRecursion Q (f x)) → AllByRecursion Q (flat_map f xs)
each_flat Q f [] each = tt
each_flat Q f (x ∷ xs) each = all_append Q (f x) (flat_map f xs) (each x) (each_flat Q f xs each)

where_can : (Q : NextStep → Type 0) (b : Bool) (c : NextStep) → (b ≡ true → Q c) → AllByRecursion Q (where_true b c)
where_can Q true c is = (is refl, tt)
where_can Q false c is = tt

pub choices_can : (w : WorldState) → AllByRecursion (CanCome w) (choices w)
choices_can w =
    let Q : NextStep → Type 0 = CanCome w in
    all_append Q _ _ (all_append Q _ _ (all_append Q _ _ (all_append Q _ _ (all_append Q _ _ (all_append Q _ _ (all_append Q _ _
    (each_flat Q (λ a. where_true (is_enabled w (issue a)) (event (issue a))) (application_ids w) (λ a. where_can Q (is_enabled w (issue a)) (event (issue a)) (λ can. (refl, can))))
    (where_can Q (host_has_message w) (event host_send) (λ can. (refl, can))))
    (where_can Q (is_enabled w (client_read (length (w.to_client).pipe))) reads_client (λ can. can)))
    (where_can Q (client_has_message w) (event client_send) (λ can. (refl, can))))
    (each_flat Q (λ d. where_true (is_enabled w (collect d)) (event (collect d))) (device_ids w) (λ d. where_can Q (is_enabled w (collect d)) (event (collect d)) (λ can. (refl, can)))))
    (where_can Q (is_enabled w (host_read (length (w.to_host).pipe))) reads_host (λ can. can)))
    (each_flat Q (takes_of w) (device_ids w)
    (λ d. each_flat Q (λ h. where_true (is_enabled w (take_job d h)) (event (take_job d h))) (hand_numbers w) (λ h. where_can Q (is_enabled w (take_job d h)) (event (take_job d h)) (λ can. (refl, can))))))
    (each_flat Q (λ h. where_true (is_enabled w (apply_job h)) (event (apply_job h))) (hand_numbers w) (λ h. where_can Q (is_enabled w (apply_job h)) (event (apply_job h)) (λ can. (refl, can))))

-- a draw leaves what can happen by itself as it was
drawing_can : (w : WorldState) (e : Event) → event_weight e ≡ 0 → is_enabled w e ≡ true → is_enabled (drawing w) e ≡ true
drawing_can w (issue a) free can = can
drawing_can w host_send free can = can
drawing_can w (client_read n) free can = can
drawing_can w client_send free can = can
drawing_can w (collect device) free can = can
drawing_can w (host_read n) free can = can
drawing_can w (take_job device hand) free can = can
drawing_can w (apply_job hand) free can = can
drawing_can w e free can = absurd (omega (arith, free))

and_both : (a b : Bool) → a ≡ true → b ≡ true → (a && b) ≡ true
and_both true b e f = f
and_both false b e f = absurd (cc)

-- a count that is drawn is one of bytes that are there
count_fits : (w : WorldState) (pipe : List ℕ) → is_read pipe (length pipe) ≡ true → is_read pipe (drawn_count w pipe) ≡ true
count_fits w pipe can =
    let some : 0 < length pipe = grind (arith, nat_tests, both (nat_lt 0 (length pipe)) (nat_le (length pipe) (length pipe)) can) in
    let most : ℕ = min (max 1 w.piece) (length pipe) in
    let one : 0 < max 1 w.piece = le-max_left 1 w.piece in
    let least : 0 < most = le-min {k = 1} {a = max 1 w.piece} {b = length pipe} one some in
    let drawn : ℕ = picked w.draws most in
    let below : drawn < most = mod-lt (w.draws / 2 ^ 33) least in
    let few : most ≤ length pipe = min-le_right (max 1 w.piece) (length pipe) in
    let first : 0 < 1 + drawn = omega arith in
    let last : 1 + drawn ≤ length pipe = omega (arith, below, few) in
    and_both (nat_lt 0 (1 + drawn)) (nat_le (1 + drawn) (length pipe)) (grind (arith, nat_tests, first)) (grind (arith, nat_tests, last))

pub pick_has : (Q : NextStep → Type 0) (xs : List NextStep) (i : ℕ) (d : NextStep) → AllByRecursion Q xs → Q d → Q (unwrap_or (slice_get xs i) d)
pick_has Q [] i d all own = own
pick_has Q (x ∷ xs) zero d all own = all.0
pick_has Q (x ∷ xs) (suc i) d all own = pick_has Q xs i d all.1 own

-- ---- settling

-- so many draws come to a world of which this holds
abbrev pub Settles : (Key → Bool) → (WorldState → Type 0) → WorldState → Type 0
Settles starves P w = (most : ℕ) × (x : WorldState) × (settled starves most w ≡ Some x) × P x

module _ (starves : Key → Bool) (fs : List (WorldState → ℕ)) (P : WorldState → Type 0)
    (free : (w : WorldState) (e : Event) → event_weight e ≡ 0 → is_enabled w e ≡ true → P w → P (act starves w e) × Lessens fs w (act starves w e))
    (draw : (w : WorldState) → P w → P (drawing w)) (undrawn : (w v : WorldState) → Lessens fs (drawing w) v → Lessens fs w v) where
  pub chosen_lessens : (w : WorldState) (c : NextStep) → CanCome w c → P w → P (chosen starves (drawing w) c) × Lessens fs w (chosen starves (drawing w) c)
  chosen_lessens w (event e) can p =
      let done = free (drawing w) e can.0 (drawing_can w e can.0 can.1) (draw w p) in
      (done.0, undrawn w _ done.1)
  chosen_lessens w reads_client can p =
      let x : WorldState = drawing (drawing w) in
      let (some, kept) = both (is_read (w.to_client).pipe (length (w.to_client).pipe)) (is_none w.kept) can in
      let done = free x (client_read (drawn_count x (w.to_client).pipe)) refl
      (and_both (is_read (w.to_client).pipe (drawn_count x (w.to_client).pipe)) (is_none w.kept) (count_fits x (w.to_client).pipe some) kept) (draw (drawing w) (draw w p)) in
      (done.0, undrawn w _ (undrawn (drawing w) _ done.1))
  chosen_lessens w reads_host can p =
      let x : WorldState = drawing (drawing w) in
      let done = free x (host_read (drawn_count x (w.to_host).pipe)) refl (count_fits x (w.to_host).pipe can) (draw (drawing w) (draw w p)) in
      (done.0, undrawn w _ (undrawn (drawing w) _ done.1))

  -- settling ends
  pub settling_ends : (w : WorldState) → P w → Settles starves P w
  settling_ends w p = by_lessening fs (λ v. P v → Settles starves P v) step w p
    where
      by : (v : WorldState) (cs : List NextStep) → AllByRecursion (CanCome v) cs → ((u : WorldState) → Lessens fs v u → P u → Settles starves P u) → P v
          → (most : ℕ) × (x : WorldState) × (settles_by starves v cs (settled starves most) ≡ Some x) × P x
      by v [] all later p = (0, v, refl, p)
      by v (c ∷ cs) all later p =
          let i : ℕ = picked (drawing v).draws (length (c ∷ cs)) in
          let one : NextStep = unwrap_or (slice_get (c ∷ cs) i) c in
          let done = chosen_lessens v one (pick_has (CanCome v) (c ∷ cs) i c all all.0) p in
          later (chosen starves (drawing v) one) done.1 done.0

      step : (v : WorldState) → ((u : WorldState) → Lessens fs v u → P u → Settles starves P u) → P v → Settles starves P v
      step v later p = let (most, x, is, q) = by v (choices v) (choices_can v) later p in (suc most, x, is, q)

-- ---- rounds

-- the events of a round
abbrev pub IsOfRounds : Event → Type 0
IsOfRounds host_send = Unit {0}
IsOfRounds client_send = Unit {0}
IsOfRounds (client_read n) = Unit {0}
IsOfRounds (host_read n) = Unit {0}
IsOfRounds e = ⊥

-- so many rounds come to a world of which this holds
abbrev pub RoundsEnd : (Key → Bool) → (WorldState → Type 0) → WorldState → Type 0
RoundsEnd starves P w = (most : ℕ) × (x : WorldState) × (rounds starves most w ≡ Some x) × P x

module _ (starves : Key → Bool) (fs : List (WorldState → ℕ)) (P : WorldState → Type 0) (none_kept : (w : WorldState) → P w → is_none w.kept ≡ true)
    (free : (w : WorldState) (e : Event) → IsOfRounds e → is_enabled w e ≡ true → P w → P (act starves w e) × Lessens fs w (act starves w e)) where
  -- a stage of a round leaves the world as it is, where this is off, or lessens it
  abbrev Stage : Bool → WorldState → WorldState → Type 0
  Stage test w v = P v × (((test ≡ false) × (v ≡ w)) ⊎ Lessens fs w v)

  while_stage : (most : ℕ) (e : Event) → IsOfRounds e → (w : WorldState) → P w → P (while_enabled starves most e w) × ((while_enabled starves most e w ≡ w) ⊎ Lessens fs w (while_enabled starves most e w))
  while_stage zero e of w p = (p, inl refl)
  while_stage (suc most) e of w p = by (is_enabled w e) refl (while_stage most e of)
    where
      by : (b : Bool) → is_enabled w e ≡ b → ((x : WorldState) → P x → P (while_enabled starves most e x) × ((while_enabled starves most e x ≡ x) ⊎ Lessens fs x (while_enabled starves most e x)))
          → let v : WorldState = if b then while_enabled starves most e (act starves w e) else w in P v × ((v ≡ w) ⊎ Lessens fs w v)
      by true can next =
          let one = free w e of can p in
          let more = next (act starves w e) one.0 in (
            more.0,
            inr (elim more.1 [
              | inl same ↦ subst (Lessens fs w) (sym same) one.1
              | inr less ↦ lessens_then fs w (act starves w e) _ one.1 less
            ]),
          )
      by false can next = (p, inl refl)

  -- an event that can happen, and then more of its kind
  first_stage : (e : Event) → IsOfRounds e → (w v : WorldState) (most : ℕ) → is_enabled w e ≡ true → v ≡ while_enabled starves most e (act starves w e) → P w → Stage true w v
  first_stage e of w v most can is p =
      let one = free w e of can p in
      let more = while_stage most e of (act starves w e) one.0 in
      subst (Stage true w) (sym is) (
        more.0,
        inr (elim more.1 [
          | inl same ↦ subst (Lessens fs w) (sym same) one.1
          | inr less ↦ lessens_then fs w (act starves w e) _ one.1 less
        ]),
      )

  host_stage : (w : WorldState) → P w → Stage (host_has_message w) w (all_host_sends starves w)
  host_stage w p = by (host_has_message w) refl
    where
      by : (b : Bool) → host_has_message w ≡ b → Stage b w (all_host_sends starves w)
      by true can = first_stage host_send tt w (all_host_sends starves w) (host_count (host_sends_next w)) can (host_sends_more starves w can) p
      by false off = subst (Stage false w) (sym (host_sent starves w off)) (p, inl (refl, refl))

  client_stage : (w : WorldState) → P w → Stage (client_has_message w) w (all_client_sends starves w)
  client_stage w p = by (client_has_message w) refl
    where
      by : (b : Bool) → client_has_message w ≡ b → Stage b w (all_client_sends starves w)
      by true can = first_stage client_send tt w (all_client_sends starves w) (length (((client_sends_next w).client).core).outbox) can (client_sends_more starves w can) p
      by false off = subst (Stage false w) (sym (client_sent starves w off)) (p, inl (refl, refl))

  when_stage : (e : Event) → IsOfRounds e → (w : WorldState) → P w → Stage (is_enabled w e) w (when_enabled starves e w)
  when_stage e of w p = by (is_enabled w e) refl
    where
      by : (b : Bool) → is_enabled w e ≡ b → Stage b w (if b then act starves w e else w)
      by true can = let one = free w e of can p in (one.0, inr one.1)
      by false off = (p, inl (refl, refl))

  empty_pipe : (pipe : List ℕ) (b : Bool) → (is_read pipe (length pipe) && b) ≡ false → b ≡ true → is_empty pipe ≡ true
  empty_pipe [] b off on = refl
  empty_pipe (x ∷ pipe) b off on =
      let some : nat_lt 0 (suc (length pipe)) ≡ true = grind (arith, nat_tests) in
      let few : nat_le (suc (length pipe)) (suc (length pipe)) ≡ true = grind (arith, nat_tests) in
      absurd (cc (off, and_both (is_read (x ∷ pipe) (length (x ∷ pipe))) b (and_both (nat_lt 0 (suc (length pipe))) (nat_le (suc (length pipe)) (suc (length pipe))) some few) on))

  and_true : (b : Bool) → (b && true) ≡ b
  and_true true = refl
  and_true false = refl

  quiet_by : (w : WorldState) → host_has_message w ≡ false → client_has_message w ≡ false → is_enabled w (client_read (length (w.to_client).pipe)) ≡ false → is_enabled w (host_read (length (w.to_host).pipe)) ≡ false → P w
      → is_quiet w ≡ true
  quiet_by w host client down up p =
      let d : is_empty (w.to_client).pipe ≡ true = empty_pipe (w.to_client).pipe (is_none w.kept) down (none_kept w p) in
      let u : is_empty (w.to_host).pipe ≡ true = empty_pipe (w.to_host).pipe true (and_true (is_read (w.to_host).pipe (length (w.to_host).pipe)) ∙ up) refl in
      rw (host, client, d, u) refl

  -- a round lessens a world that isn't quiet
  round_lessens : (w : WorldState) → P w → is_quiet w ≡ false → P (round starves w) × Lessens fs w (round starves w)
  round_lessens w p busy = (fourth.0, all)
    where
      a : WorldState
      a = all_host_sends starves w

      b : WorldState
      b = all_client_sends starves a

      c : WorldState
      c = client_reads_all starves b

      d : WorldState
      d = host_reads_all starves c

      first : Stage (host_has_message w) w a
      first = host_stage w p

      second : Stage (client_has_message a) a b
      second = client_stage a first.0

      third : Stage (is_enabled b (client_read (length (b.to_client).pipe))) b c
      third = when_stage (client_read (length (b.to_client).pipe)) tt b second.0

      fourth : Stage (is_enabled c (host_read (length (c.to_host).pipe))) c d
      fourth = when_stage (host_read (length (c.to_host).pipe)) tt c third.0

      Moves : WorldState → WorldState → Type 0
      Moves x y = (y ≡ x) ⊎ Lessens fs x y

      moved : {t : Bool} {x y : WorldState} → Stage t x y → Moves x y
      moved (q, inl (off, same)) = inl same
      moved (q, inr less) = inr less

      moves_then : (x y z : WorldState) → Moves x y → Moves y z → Moves x z
      moves_then x y z (inl same) second = subst (λ (v : WorldState). Moves v z) same second
      moves_then x y z (inr less) (inl same) = inr (subst (Lessens fs x) (sym same) less)
      moves_then x y z (inr less) (inr more) = inr (lessens_then fs x y z less more)

      less_then : (x y z : WorldState) → Lessens fs x y → Moves y z → Lessens fs x z
      less_then x y z less (inl same) = subst (Lessens fs x) (sym same) less
      less_then x y z less (inr more) = lessens_then fs x y z less more

      all : Lessens fs w d
      all = elim first.1 [
        | inr less ↦ less_then w a d less (moves_then a b d (moved second) (moves_then b c d (moved third) (moved fourth)))
        | inl (host_off, a_is) ↦ elim second.1 [
          | inr less ↦ less_then w b d (subst (λ (x : WorldState). Lessens fs x b) a_is less) (moves_then b c d (moved third) (moved fourth))
          | inl (client_off, b_is) ↦ elim third.1 [
            | inr less ↦ less_then w c d (subst (λ (x : WorldState). Lessens fs x c) (b_is ∙ a_is) less) (moved fourth)
            | inl (down_off, c_is) ↦ elim fourth.1 [
              | inr less ↦ subst (λ (x : WorldState). Lessens fs x d) (c_is ∙ b_is ∙ a_is) less
              | inl (up_off, d_is) ↦ absurd (
                  let quiet : is_quiet w ≡ true = quiet_by w host_off (subst (λ (x : WorldState). client_has_message x ≡ false) a_is client_off)
                  (subst (λ (x : WorldState). is_enabled x (client_read (length (x.to_client).pipe)) ≡ false) (b_is ∙ a_is) down_off)
                  (subst (λ (x : WorldState). is_enabled x (host_read (length (x.to_host).pipe)) ≡ false) (c_is ∙ b_is ∙ a_is) up_off) p in
                  cc (quiet, busy))
            ]
          ]
        ]
      ]

  pub rounds_end : (w : WorldState) → P w → RoundsEnd starves P w
  rounds_end w p = by_lessening fs (λ v. P v → RoundsEnd starves P v) (λ v later p. by v (is_quiet v) refl later p) w p
    where
      by : (v : WorldState) (b : Bool) → is_quiet v ≡ b → ((u : WorldState) → Lessens fs v u → P u → RoundsEnd starves P u) → P v → RoundsEnd starves P v
      by v true quiet later p = (1, v, rw quiet refl, p)
      by v false busy later p =
          let done = round_lessens v p busy in
          let (most, x, is, q) = later (round starves v) done.1 done.0 in
          (suc most, x, (rw busy is), q)
