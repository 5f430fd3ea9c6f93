-- While a request waits its device is there, and wasn't removed since the request was accepted.
use Rattle.std.proofs.Common.{◌≡◌, ◌⊎◌, ◌∙◌, refl, sym, ap, subst, inl, inr, ℕ, suc, ◌<◌, ◌≤◌, ◌==◌, Bool, true, false, cond, List, [], ◌∷◌, ◌++◌, length, take, Some, None, Option, arith, length-append, eq-eqb, eqb-true, ne_eqb}
use Rattle.std.specs.Prelude.{filter, is_some, slice_get}
use Rattle.std.specs.List.{list_any}
use Rattle.std.specs.Option.{option_map_or, option_or}
use Rattle.std.proofs.lemmas.List.Elements.{filter_map-append}
use Rattle.rd_base.specs.declared.journal.Cause.TheVariants.{Dropped}
use Rattle.rd_pending.specs.declared.calls.Outcome.{Outcome}
use Rattle.rd_pending.specs.declared.calls.Outcome.TheVariants.{Lost}
use Rattle.rd_pending.specs.History as call
use Rattle.rd_pending.specs.History.{Call, Holds, May, accepted_in, after, ended_on, heard_on, lives_before}
use Rattle.rd_pending.specs.Outcomes.{Accepted, Agrees, Course, Tidings, course_from, ended_in}
use Rattle.rd_pending.specs.Table.{Fate, awaited, awaits, fate_at, is_awaited, known}
use Rattle.rd_pending.proofs.CourseLemmas.{ended_more, or_none, through}
use Rattle.rd_pending.proofs.Handed.{still_there}
use Rattle.rd_pending.proofs.Histories.{sound}
use Rattle.rd_pending.proofs.Sound.{alike_before, outcome_after}
use Rattle.rd_deeds.specs.HostDeeds.{calls_of, side_of}
use Rattle.rd_deeds.specs.Joining.{IsCarried, accepted}
use Rattle.rd_deeds.specs.Talk.{Deed, EndsWith, adds, client_read, client_reads, client_writes, client_wrote, completes, host_begins, host_ends, host_read, host_reads, host_writes, is_request, read_by_client, read_by_host, removed_in, removes, stores, submits, takes, tells, written_by_client}
use Rattle.rd_deeds.proofs.Calls.{Does, calls_hold, calls_since, heard_by_deed, heard_step}
use Rattle.rd_deeds.proofs.Kept.{Was, kept_by, kept_long, kept_since, was}
use Rattle.rd_deeds.proofs.Lists.{fewer_in_end}
use Rattle.rd_deeds.proofs.Lives.{Open, is_there, lives_rise, stays, was_open}
use Rattle.rd_deeds.proofs.Written.{sound_side}

-- ---- requests that wait

-- nothing that was heard ended it so far
abbrev pub Waits : ℕ → List Deed → ℕ → ℕ → Accepted → Type 0
Waits client deeds c n a =
    ended_in a (alike_before (take n (accepted client deeds)) a) (course_from (lives_before c (calls_of client deeds))) (heard_on c (calls_of client deeds)) ≡ None

agrees_waits : (f : Option Fate) → Agrees f None → option_map_or is_awaited f false ≡ true
agrees_waits (Some awaited) e = refl
agrees_waits (Some (known o)) e = absurd (cc e)
agrees_waits None e = absurd (cc e.1)

waits_on : (client : ℕ) (deeds : List Deed) (c n : ℕ) (a : Accepted) → Does client deeds → ((side_of client deeds).table).channel ≡ Some c → slice_get (accepted client deeds) n ≡ Some a
    → a.channel ≡ c → Waits client deeds c n a → awaits (side_of client deeds).table (suc n) ≡ true
waits_on client deeds c n a may is_open at in_c waits =
    let s = sound_side client deeds may in
    let h = calls_of client deeds in
    let m : ℕ = alike_before (take n (accepted client deeds)) a in
    let none : option_or (ended_in a m (course_from (lives_before c h)) (heard_on c h)) (cond (ended_on c h) (Some (Lost Dropped)) None) ≡ None =
    rw (s.shut c is_open) (or_none _ ∙ waits) in
    let nothing_yet : outcome_after m a h ≡ None = subst (λ (x : ℕ). option_or (ended_in a m (course_from (lives_before x h)) (heard_on x h)) (cond (ended_on x h) (Some (Lost Dropped)) None) ≡ None) (sym in_c) none in
    agrees_waits (fate_at (side_of client deeds).table (suc n)) (subst (Agrees (fate_at (side_of client deeds).table (suc n))) nothing_yet (s.requests n a at).agrees)

-- its device is there
pub waits_there : (client : ℕ) (deeds : List Deed) (c n : ℕ) (a : Accepted) → Does client deeds → ((side_of client deeds).table).channel ≡ Some c → slice_get (accepted client deeds) n ≡ Some a
    → a.channel ≡ c → Waits client deeds c n a → is_there (side_of client deeds).table a.device ≡ true
waits_there client deeds c n a may is_open at in_c waits =
    ap is_some (((sound_side client deeds may).requests n a at).alive (waits_on client deeds c n a may is_open at in_c waits))

-- no channel with requests begins
lives_by_call : (x : Call) (h : List Call) (c : ℕ) → May (after h) x → c < (after h).below → lives_before c (x ∷ h) ≡ lives_before c h
lives_by_call (call.begins channel) h c may low = rw (ne_eqb channel c (λ same. omega (arith, low, may.1, same))) refl
lives_by_call (call.lives d) h c may low = refl
lives_by_call (call.removes d) h c may low = refl
lives_by_call (call.takes number) h c may low = refl
lives_by_call (call.submits x named o) h c may low = refl
lives_by_call (call.completes head bytes) h c may low = refl
lives_by_call call.sends h c may low = refl
lives_by_call call.drops h c may low = refl

lives_kept : (later h : List Call) (n : ℕ) (a : Accepted) → Holds (later ++ h) → slice_get (accepted_in h) n ≡ Some a → lives_before a.channel (later ++ h) ≡ lives_before a.channel h
lives_kept [] h n a holds at = refl
lives_kept (x ∷ later) h n a holds at =
    let low : a.channel < (after (later ++ h)).below = ((sound (later ++ h) holds.1).requests n a (still_there later h n a at).0).below in
    lives_by_call x (later ++ h) a.channel holds.0 low ∙ lives_kept later h n a holds.1 at

pub lives_since : (client c n : ℕ) (late early : List Deed) (a : Accepted) → Does client (late ++ early) → slice_get (accepted client early) n ≡ Some a → a.channel ≡ c
    → lives_before c (calls_of client (late ++ early)) ≡ lives_before c (calls_of client early)
lives_since client c n late early a may at in_c =
    let (later, e) = calls_since client late early in
    let holds : Holds (later ++ calls_of client early) = subst Holds e (calls_hold client (late ++ early) may) in
    subst (λ (x : ℕ). lives_before x (calls_of client (late ++ early)) ≡ lives_before x (calls_of client early)) in_c
    (ap (lives_before a.channel) e ∙ lives_kept later (calls_of client early) n a holds at)

-- one that waits still waited before
waited : (client c n : ℕ) (deed : Deed) (before : List Deed) (a : Accepted) → Does client (deed ∷ before) → Was (accepted client before) (accepted client (deed ∷ before)) n a → a.channel ≡ c
    → Waits client (deed ∷ before) c n a → Waits client before c n a
waited client c n deed before a may w in_c waits =
    let more = heard_by_deed client c before deed in
    let h = calls_of client before in
    let m : ℕ = alike_before (take n (accepted client before)) a in
    let k : Course = course_from (lives_before c h) in
    let now : ended_in a m k (heard_on c h ++ more) ≡ None =
    subst (λ (xs : List Accepted). ended_in a (alike_before xs a) k (heard_on c h ++ more) ≡ None) w.earlier
    (subst (λ (g : ℕ). ended_in a (alike_before (take n (accepted client (deed ∷ before))) a) (course_from g) (heard_on c h ++ more) ≡ None) (lives_since client c n (deed ∷ []) before a may w.at in_c)
    (subst (λ (xs : List Tidings). ended_in a (alike_before (take n (accepted client (deed ∷ before))) a) (course_from (lives_before c (calls_of client (deed ∷ before)))) xs ≡ None) (heard_step client c before deed may) waits)) in
    first_none (ended_in a m k (heard_on c h)) (ended_in a m (through k (heard_on c h)) more) (sym (ended_more a m k (heard_on c h) more) ∙ now)
  where
    first_none : (x y : Option Outcome) → option_or x y ≡ None → x ≡ None
    first_none None y e = refl
    first_none (Some x) y e = absurd (cc e)

-- where one waits, its device wasn't removed since it was accepted
pub not_removed : (client c n : ℕ) (late : List Deed) (m : List ℕ) (early : List Deed) (a : Accepted) → Does client (late ++ host_reads c m ∷ early) → Open client (late ++ host_reads c m ∷ early) c
    → n < length (accepted client early) → slice_get (accepted client (late ++ host_reads c m ∷ early)) n ≡ Some a → a.channel ≡ c
    → Waits client (late ++ host_reads c m ∷ early) c n a → list_any (λ (id : ℕ). id == a.device) (removed_in m) ≡ false
not_removed client c n [] m early a may o low at in_c waits =
    (stays (side_of client early) m a.device (lives_rise client early may.1 c may.0) o.fine (waits_there client (host_reads c m ∷ early) c n a may o.channel at in_c waits)).unremoved
not_removed client c n (deed ∷ late) m early a may o low at in_c waits =
    let before : List Deed = late ++ host_reads c m ∷ early in
    let still : n < length (accepted client before) =
    omega (
      arith,
      low,
      kept_long (accepted client early) (accepted client (host_reads c m ∷ early)) (kept_by client early (host_reads c m)),
      kept_long (accepted client (host_reads c m ∷ early)) (accepted client before) (kept_since client late (host_reads c m ∷ early)),
    ) in
    let old = was (accepted client before) (accepted client (deed ∷ before)) n a (kept_by client before deed) still at in
    elim (was_open client before deed c may o) [
      | inr begun ↦
          let began : Does client (host_begins c ∷ before) = subst (λ (x : Deed). Does client (x ∷ before)) begun may in
          let below : a.channel < (side_of client before).table.below = ((sound_side client before may.1).requests n a old.at).below in
          absurd (omega (arith, began.0.1, below, in_c))
      | inl was_so ↦ not_removed client c n late m early a may.1 was_so low old.at in_c (waited client c n deed before a may old in_c waits)
    ]

-- ---- where things stand among what was done

pub read_is : (c : ℕ) (m : List ℕ) (deed : Deed) → read_by_host c deed ≡ Some m → deed ≡ host_reads c m
read_is c m (host_reads channel x) e = go (channel == c) refl e
  where
    go : (b : Bool) → (channel == c) ≡ b → cond b (Some x) None ≡ Some m → host_reads channel x ≡ host_reads c m
    go true is e = let same : x ≡ m = cc e in rw (eqb-true channel c is, same) refl
    go false is e = absurd (cc e)
read_is c m (host_begins x) e = absurd (cc e)
read_is c m (host_ends x) e = absurd (cc e)
read_is c m (removes x) e = absurd (cc e)
read_is c m (adds x) e = absurd (cc e)
read_is c m (submits x named o) e = absurd (cc e)
read_is c m (takes n) e = absurd (cc e)
read_is c m (tells n) e = absurd (cc e)
read_is c m (host_writes x y) e = absurd (cc e)
read_is c m (client_reads x y) e = absurd (cc e)
read_is c m (client_writes x y) e = absurd (cc e)
read_is c m (completes key y) e = absurd (cc e)
read_is c m (stores device item) e = absurd (cc e)

-- all that a client read by what it wrote it had read when the host read that
pub read_by_then : (c : ℕ) (m : List ℕ) (v early : List Deed) → IsCarried (host_reads c m ∷ v) → host_read c v ≡ client_wrote c early
    → EndsWith v (client_writes c m ∷ early) ⊎ EndsWith (client_writes c m ∷ early) v → length (filter is_request (client_read c early)) ≤ length (filter is_request (client_read c v))
read_by_then c m v early carried same (inl (w, e)) =
    fewer_in_end is_request (client_read c v) (client_read c early) (client_read c w, ap (client_read c) e ∙ filter_map-append (read_by_client c) w (client_writes c m ∷ early))
read_by_then c m v early carried same (inr ([], e)) = rw (sym e) (omega arith)
read_by_then c m v early carried same (inr (x ∷ w, e)) =
    let rest : early ≡ w ++ v = cc e in
    let (prefix, wrote) = carried.to_host c in
    let all : client_wrote c v ≡ prefix ++ m ∷ client_wrote c early = wrote ∙ ap (λ (ms : List (List ℕ)). prefix ++ ms) (rw (eq-eqb c c refl) (ap (λ (ms : List (List ℕ)). m ∷ ms) same)) in
    let early_wrote : client_wrote c early ≡ client_wrote c w ++ client_wrote c v = ap (client_wrote c) rest ∙ filter_map-append (written_by_client c) w v in
    absurd (omega (arith, ap length all, length-append {A = List ℕ} prefix (m ∷ client_wrote c early), ap length early_wrote, length-append {A = List ℕ} (client_wrote c w) (client_wrote c v)))
