-- Which devices are there on a host's open channel, by what it read on it.
use Rattle.std.proofs.Common.{◌≡◌, ◌⊎◌, ◌∙◌, refl, sym, ap, subst, inl, inr, ℕ, ◌+◌, ◌==◌, ◌||◌, Bool, true, false, cond, List, [], ◌∷◌, Some, None, Option, eq-eqb, ne_eqb}
use Rattle.std.specs.Prelude.{fold, is_ok, is_some, Result, Ok, Err, IsOk}
use Rattle.std.specs.List.{list_any}
use Rattle.std.specs.Map.{keys_of, lookup, remove_entry}
use Rattle.std.specs.Ordering.{nat_cmp}
use Rattle.std.specs.BTreeMap.{insert_entry, is_at}
use Rattle.std.specs.List.Sorted.{IsStrictlySortedBy}
use Rattle.std.proofs.lemmas.Bool.{cases_eq}
use Rattle.rd_devices.specs.declared.list.Announce.{Announce}
use Rattle.rd_hello.specs.declared.end_fault.EndFault.{EndFault}
use Rattle.rd_host.specs.Core.{HostCoreState, host_hear}
use Rattle.rd_host.specs.Served.{is_served_type}
use Rattle.rd_host.specs.declared.act.Act.{Act}
use Rattle.rd_host.specs.declared.act.Act.TheVariants as act
use Rattle.rd_irp.specs.declared.completion.Head.{Head}
use Rattle.rd_pending.specs.declared.calls.CompleteNo.{CompleteNo}
use Rattle.rd_pending.specs.declared.calls.Completed.{Completed}
use Rattle.rd_pending.specs.declared.calls.LiveNo.{LiveNo}
use Rattle.rd_pending.specs.Outcomes.{course_from}
use Rattle.rd_pending.specs.History.{heard_on, lives_before}
use Rattle.rd_pending.specs.Table as table
use Rattle.rd_pending.specs.Table.{Fate, TableState, Untaken, freed, life_of, live_refusal, untaken_at, with_fate}
use Rattle.rd_pending.proofs.CourseLemmas.{course_begins, through_course}
use Rattle.rd_pending.proofs.Effects as effects
use Rattle.rd_pending.proofs.MapLemmas.{beside, gone, kept, rises_without}
use Rattle.rd_pending.proofs.Tame.{tame_take}
use Rattle.rd_deeds.specs.Host.{HostSide, admits, forgets, hears, side_sends}
use Rattle.rd_deeds.specs.HostDeeds.{calls_of, side_of}
use Rattle.rd_deeds.specs.Talk.{Deed, adds, announced_in, client_reads, client_writes, completes, host_begins, host_ends, host_read, host_reads, host_writes, removed_in, removes, stores, submits, takes, tells}
use Rattle.rd_deeds.specs.Told.{is_said_gone}
use Rattle.rd_deeds.proofs.Calls.{Does, admits_table, read_tame}
use Rattle.rd_deeds.proofs.Hearings.{Heard, heard}
use Rattle.rd_deeds.proofs.Written.{sound_side}

abbrev pub is_there : TableState → ℕ → Bool
is_there t d = is_some (life_of t d)

abbrev Rises : TableState → Type 0
Rises t = IsStrictlySortedBy nat_cmp (keys_of t.lives)

-- ---- the calls of a table

fate_lives : (t : TableState) (n : ℕ) (f : Fate) → (with_fate t n f).lives ≡ t.lives
fate_lives t n f = go (untaken_at t n) refl
  where
    go : (o : Option Untaken) → untaken_at t n ≡ o → (with_fate t n f).lives ≡ t.lives
    go None e = rw e refl
    go (Some u) e = rw e refl

completed_lives : (t : TableState) (head : Head) (bytes : List ℕ) → ((table.complete t head bytes).0).lives ≡ t.lives
completed_lives t head bytes = go (table.complete t head bytes).1 refl
  where
    go : (r : Result Completed CompleteNo) → (table.complete t head bytes).1 ≡ r → ((table.complete t head bytes).0).lives ≡ t.lives
    go (Err cause) e = ap (λ (x : TableState). x.lives) (effects.refused t head bytes cause e)
    go (Ok gave) e =
        let done = effects.completes t head bytes (ap is_ok e) in
        elim done.effect [
          | inl late ↦ ap (λ (x : TableState). x.lives) late.new
          | inr given ↦ ap (λ (x : TableState). x.lives) given.new ∙ fate_lives (freed t head.completion) (done.slot).number _
        ]

taken_lives : (t : TableState) (n : ℕ) → IsOk (table.take t n).1 → ((table.take t n).0).lives ≡ t.lives
taken_lives t n ok = ap (λ (x : TableState). x.lives) (effects.takes t n ok).new

begun_one : (t : TableState) (d e : ℕ) → is_there (table.live t d).0 e ≡ true → ((d == e) ≡ true) ⊎ (is_there t e ≡ true)
begun_one t d e there = go (live_refusal t d) refl
  where
    go : (o : Option LiveNo) → live_refusal t d ≡ o → ((d == e) ≡ true) ⊎ (is_there t e ≡ true)
    go (Some cause) is = let same : (table.live t d).0 ≡ t = rw is refl in inr (subst (λ (x : TableState). is_there x e ≡ true) same there)
    go None is = elim (cases_eq e d) [
      | inl same ↦ inl (eq-eqb d e (sym same))
      | inr other ↦
          let new : is_some (lookup (is_at (nat_cmp e)) (insert_entry nat_cmp t.lives d (t.given + 1))) ≡ true = subst (λ (x : TableState). is_there x e ≡ true) (effects.lives t d is).new there in
          inr (subst (λ (o : Option ℕ). is_some o ≡ true) (beside d (t.given + 1) e other t.lives) new)
    ]

removed_one : (t : TableState) (d e : ℕ) → Rises t → is_there (table.remove t d).0 e ≡ true → ((d == e) ≡ false) × (is_there t e ≡ true)
removed_one t d e rising there = elim (effects.removes t d) [
  | inl none ↦
      let old : is_there t e ≡ true = subst (λ (x : TableState). is_there x e ≡ true) none.same there in
      (ne_eqb d e (λ same. absurd (cc (old, ap is_some none.absent, same))), old)
  | inr effect ↦
      let new : is_some (lookup (is_at (nat_cmp e)) (remove_entry (is_at (nat_cmp d)) t.lives)) ≡ true = subst (λ (x : TableState). is_there x e ≡ true) effect.new there in
      elim (cases_eq e d) [
        | inl same ↦
            let none : is_some (lookup (is_at (nat_cmp e)) (remove_entry (is_at (nat_cmp d)) t.lives)) ≡ false = subst (λ (x : ℕ). is_some (lookup (is_at (nat_cmp x)) (remove_entry (is_at (nat_cmp d)) t.lives)) ≡ false) (sym same) (ap is_some (gone d t.lives rising)) in
            absurd (cc (new, none))
        | inr other ↦ (ne_eqb d e (λ same. other (sym same)), subst (λ (o : Option ℕ). is_some o ≡ true) (kept d e other t.lives) new)
      ]
]

removed_rises : (t : TableState) (d : ℕ) → Rises t → Rises (table.remove t d).0
removed_rises t d rising = elim (effects.removes t d) [
  | inl none ↦ subst Rises (sym none.same) rising
  | inr effect ↦ subst Rises (sym effect.new) (rises_without (is_at (nat_cmp d)) t.lives rising)
]

-- ---- a message

admitted_one : (s : HostSide) (a : Announce) (d : ℕ) → is_there (admits s a).table d ≡ true → ((a.id == d) ≡ true) ⊎ (is_there s.table d ≡ true)
admitted_one s a d there = go (is_served_type a.kind) (subst (λ (x : TableState). is_there x d ≡ true) (admits_table s a) there)
  where
    go : (b : Bool) → is_there (cond b (table.live s.table a.id).0 s.table) d ≡ true → ((a.id == d) ≡ true) ⊎ (is_there s.table d ≡ true)
    go true there = begun_one s.table a.id d there
    go false there = inr there

admitted_all : (s : HostSide) (devices : List Announce) (d : ℕ) → is_there (fold admits s devices).table d ≡ true
    → (list_any (λ (a : Announce). a.id == d) devices ≡ true) ⊎ (is_there s.table d ≡ true)
admitted_all s [] d there = inr there
admitted_all s (a ∷ devices) d there = elim (admitted_all (admits s a) devices d there) [
  | inl later ↦ inl (rw later (either (a.id == d)))
  | inr old ↦ elim (admitted_one s a d old) [ inl here ↦ inl (rw here refl) | inr older ↦ inr older ]
]
  where
    either : (b : Bool) → (b || true) ≡ true
    either true = refl
    either false = refl

forgot_all : (s : HostSide) (ids : List ℕ) (d : ℕ) → Rises s.table → is_there (fold forgets s ids).table d ≡ true
    → (list_any (λ (id : ℕ). id == d) ids ≡ false) × (is_there s.table d ≡ true)
forgot_all s [] d rising there = (refl, there)
forgot_all s (id ∷ ids) d rising there =
    let later = forgot_all (forgets s id) ids d (removed_rises s.table id rising) there in
    let here = removed_one s.table id d rising later.1 in
    (rw (here.0, later.0) refl, here.1)

-- a device that is there after a message that was understood wasn't removed by it, and was there, or was announced by it
pub record Stays (s : HostSide) (m : List ℕ) (d : ℕ) : Type 0 where
  pub unremoved : list_any (λ (id : ℕ). id == d) (removed_in m) ≡ false
  pub since : (list_any (λ (a : Announce). a.id == d) (announced_in m) ≡ true) ⊎ (is_there s.table d ≡ true)

pub stays : (s : HostSide) (m : List ℕ) (d : ℕ) → Rises s.table → (((hears s m).core).core).fault ≡ None → is_there (hears s m).table d ≡ true → Stays s m d
stays s m d rising fine there = go (host_hear s.core m) refl (heard s.core m)
  where
    told : (x : HostSide) → hears s m ≡ x → is_there x.table d ≡ true
    told x e = subst (λ (y : HostSide). is_there y.table d ≡ true) e there

    go : (r : HostCoreState × Result Act EndFault) → host_hear s.core m ≡ r → Heard s.core m (host_hear s.core m) → Stays s m d
    go (c, Err fault) e says =
        let faulty : is_some (c.core).fault ≡ true = subst (Heard s.core m) e says in
        let same : (hears s m).core ≡ c = rw e refl in
        absurd (cc (ap is_some (subst (λ (x : HostCoreState). (x.core).fault ≡ None) same fine), faulty))
    go (c, Ok act.Nothing) e says =
        let (open_end, still, none, no_list, no_head) = subst (Heard s.core m) e says in
        record { unremoved = ap (list_any (λ (id : ℕ). id == d)) none; since = inr (told (record s { core = c }) (rw e refl)) }
    go (c, Ok (act.Announced devices)) e says =
        let (open_end, still, none, list, no_head) = subst (Heard s.core m) e says in
        record {
          unremoved = ap (list_any (λ (id : ℕ). id == d)) none;
          since = elim (admitted_all (record s { core = c }) devices d (told (fold admits (record s { core = c }) devices) (rw e refl))) [
            | inl named ↦ inl (ap (list_any (λ (a : Announce). a.id == d)) list ∙ named)
            | inr old ↦ inr old
          ];
        }
    go (c, Ok (act.Removed ids)) e says =
        let (open_end, still, gone_ones, no_list, no_head) = subst (Heard s.core m) e says in
        let all = forgot_all (record s { core = c }) ids d rising (told (fold forgets (record s { core = c }) ids) (rw e refl)) in
        record { unremoved = ap (list_any (λ (id : ℕ). id == d)) gone_ones ∙ all.0; since = inr all.1 }
    go (c, Ok (act.Complete head bytes)) e says =
        let (open_end, still, none, no_list, q, is, left) = subst (Heard s.core m) e says in
        let there_then = told (record s { core = c; table = (table.complete s.table head bytes).0 }) (rw e refl) in
        record {
          unremoved = ap (list_any (λ (id : ℕ). id == d)) none;
          since = inr (subst (λ (xs : List (ℕ × ℕ)). is_some (lookup (is_at (nat_cmp d)) xs) ≡ true) (completed_lives s.table head bytes) there_then);
        }

-- an end that has no fault had none
pub was_fine : (s : HostSide) (m : List ℕ) → (((hears s m).core).core).fault ≡ None → ((s.core).core).fault ≡ None
was_fine s m fine = go (host_hear s.core m) refl (heard s.core m)
  where
    go : (r : HostCoreState × Result Act EndFault) → host_hear s.core m ≡ r → Heard s.core m (host_hear s.core m) → ((s.core).core).fault ≡ None
    go (c, Err fault) e says =
        let faulty : is_some (c.core).fault ≡ true = subst (Heard s.core m) e says in
        let same : (hears s m).core ≡ c = rw e refl in
        absurd (cc (ap is_some (subst (λ (x : HostCoreState). (x.core).fault ≡ None) same fine), faulty))
    go (c, Ok act.Nothing) e says = (subst (Heard s.core m) e says).0
    go (c, Ok (act.Announced devices)) e says = (subst (Heard s.core m) e says).0
    go (c, Ok (act.Removed ids)) e says = (subst (Heard s.core m) e says).0
    go (c, Ok (act.Complete head bytes)) e says = (subst (Heard s.core m) e says).0

-- ---- the open channel

pub lives_rise : (client : ℕ) (deeds : List Deed) → Does client deeds → (c : ℕ) → ((side_of client deeds).table).channel ≡ Some c → Rises (side_of client deeds).table
lives_rise client deeds may c is_open =
    let h = calls_of client deeds in
    subst (λ (xs : List (ℕ × ℕ)). IsStrictlySortedBy nat_cmp (keys_of xs)) ((sound_side client deeds may).lives c is_open).0
    (through_course (course_from (lives_before c h)) (heard_on c h) (course_begins (lives_before c h))).rising

-- where a channel is open, and its end has no fault, it was so before, unless it began
pub record Open (client : ℕ) (deeds : List Deed) (c : ℕ) : Type 0 where
  pub channel : ((side_of client deeds).table).channel ≡ Some c
  pub fine : (((side_of client deeds).core).core).fault ≡ None

sends_open : (s : HostSide) → (((side_sends s).table).channel ≡ (s.table).channel) × ((((side_sends s).core).core).fault ≡ ((s.core).core).fault)
sends_open s = go ((s.core).core).outbox refl (s.table).outbox refl
  where
    go : (o : List (List ℕ)) → ((s.core).core).outbox ≡ o → (p : List (List ℕ)) → (s.table).outbox ≡ p → (((side_sends s).table).channel ≡ (s.table).channel) × ((((side_sends s).core).core).fault ≡ ((s.core).core).fault)
    go (m ∷ ms) e p e2 = rw e (refl, refl)
    go [] e [] e2 = rw (e, e2) (refl, refl)
    go [] e (m ∷ ms) e2 = rw (e, e2) (refl, refl)

-- the deed before, unless the channel began
pub was_open : (client : ℕ) (before : List Deed) (deed : Deed) (c : ℕ) → Does client (deed ∷ before) → Open client (deed ∷ before) c → Open client before c ⊎ (deed ≡ host_begins c)
was_open client before (host_begins channel) c may o = inr (ap host_begins (begins (side_of client before).table may.0.0 o.channel))
  where
    begins : (t : TableState) → t.channel ≡ None → ((table.begin t channel).0).channel ≡ Some c → channel ≡ c
    begins t shut is = let new : ((table.begin t channel).0).channel ≡ Some channel = rw shut refl in cc (new, is)
was_open client before (host_ends channel) c may o = absurd (cc o.channel)
was_open client before (submits application named x) c may o =
    let effect = effects.submits (side_of client before).table application named x may.0.2 in
    inl (record { channel = subst (λ (t : TableState). t.channel ≡ Some c) effect.new o.channel; fine = o.fine })
was_open client before (takes number) c may o =
    inl (record { channel = sym (tame_take (side_of client before).table number).channel ∙ o.channel; fine = o.fine })
was_open client before (host_writes channel message) c may o =
    let same = sends_open (side_of client before) in
    inl (record { channel = sym same.0 ∙ o.channel; fine = sym same.1 ∙ o.fine })
was_open client before (host_reads channel message) c may o =
    inl (record { channel = sym ((read_tame client channel message before).0).channel ∙ o.channel; fine = was_fine (side_of client before) message o.fine })
was_open client before (tells n) c may o = inl (record { channel = o.channel; fine = o.fine })
was_open client before (removes device) c may o = inl (record { channel = o.channel; fine = o.fine })
was_open client before (adds device) c may o = inl (record { channel = o.channel; fine = o.fine })
was_open client before (client_reads channel message) c may o = inl (record { channel = o.channel; fine = o.fine })
was_open client before (client_writes channel message) c may o = inl (record { channel = o.channel; fine = o.fine })
was_open client before (completes key message) c may o = inl (record { channel = o.channel; fine = o.fine })
was_open client before (stores device item) c may o = inl (record { channel = o.channel; fine = o.fine })

-- ---- what was said of a device that is there

nothing_begun : (client : ℕ) (before : List Deed) (channel d : ℕ) → Does client (host_begins channel ∷ before) → is_there ((side_of client (host_begins channel ∷ before)).table) d ≡ false
nothing_begun client before channel d may =
    let t : TableState = (side_of client before).table in
    let none : t.lives ≡ [] = ((sound_side client before may.1).slots.closed may.0.0).1 in
    let same : (side_of client (host_begins channel ∷ before)).table.lives ≡ t.lives = begins t in
    ap (λ (xs : List (ℕ × ℕ)). is_some (lookup (is_at (nat_cmp d)) xs)) (same ∙ none)
  where
    begins : (t : TableState) → ((table.begin t channel).0).lives ≡ t.lives
    begins t = go t.channel refl
      where
        go : (o : Option ℕ) → t.channel ≡ o → ((table.begin t channel).0).lives ≡ t.lives
        go None e = rw e refl
        go (Some x) e = rw e refl

sends_lives : (s : HostSide) → ((side_sends s).table).lives ≡ (s.table).lives
sends_lives s = go ((s.core).core).outbox refl (s.table).outbox refl
  where
    go : (o : List (List ℕ)) → ((s.core).core).outbox ≡ o → (p : List (List ℕ)) → (s.table).outbox ≡ p → ((side_sends s).table).lives ≡ (s.table).lives
    go (m ∷ ms) e p e2 = rw e refl
    go [] e [] e2 = rw (e, e2) refl
    go [] e (m ∷ ms) e2 = rw (e, e2) refl

-- a device that is there on the open channel wasn't said to be gone since it was announced
pub said : (client : ℕ) (deeds : List Deed) (c d : ℕ) → Does client deeds → Open client deeds c → is_there (side_of client deeds).table d ≡ true → is_said_gone d (host_read c deeds) ≡ false
said client [] c d may o there = absurd (cc o.channel)
said client (deed ∷ before) c d may o there = elim (was_open client before deed c may o) [
  | inr begun ↦
      let none : is_there ((side_of client (deed ∷ before)).table) d ≡ false =
      subst (λ (x : Deed). is_there ((side_of client (x ∷ before)).table) d ≡ false) (sym begun) (nothing_begun client before c d (subst (λ (x : Deed). Does client (x ∷ before)) begun may)) in
      absurd (cc (none, there))
  | inl old ↦ by deed may o there old (λ was. said client before c d may.1 old was)
]
  where
    same_lives : (t : TableState) → is_there t d ≡ true → (side_of client before).table.lives ≡ t.lives → is_there (side_of client before).table d ≡ true
    same_lives t there same = subst (λ (xs : List (ℕ × ℕ)). is_some (lookup (is_at (nat_cmp d)) xs) ≡ true) (sym same) there

    by : (deed : Deed) → Does client (deed ∷ before) → Open client (deed ∷ before) c → is_there (side_of client (deed ∷ before)).table d ≡ true → Open client before c
        → (is_there (side_of client before).table d ≡ true → is_said_gone d (host_read c before) ≡ false) → is_said_gone d (host_read c (deed ∷ before)) ≡ false
    by (host_begins channel) may o there old earlier = absurd (cc (nothing_begun client before channel d may, there))
    by (host_ends channel) may o there old earlier = absurd (cc o.channel)
    by (submits application named x) may o there old earlier =
        let effect = effects.submits (side_of client before).table application named x may.0.2 in
        earlier (same_lives (side_of client (submits application named x ∷ before)).table there (sym (ap (λ (t : TableState). t.lives) effect.new)))
    by (takes number) may o there old earlier =
        earlier (same_lives (side_of client (takes number ∷ before)).table there (sym (taken_lives (side_of client before).table number may.0)))
    by (host_writes channel message) may o there old earlier =
        earlier (same_lives (side_of client (host_writes channel message ∷ before)).table there (sym (sends_lives (side_of client before))))
    by (host_reads channel message) may o there old earlier = here (channel == c) refl
      where
        s : HostSide
        s = side_of client before

        since : Stays s message d
        since = stays s message d (lives_rise client before may.1 c old.channel) o.fine there

        last : (b : Bool) → list_any (λ (a : Announce). a.id == d) (announced_in message) ≡ b → is_said_gone d (message ∷ host_read c before) ≡ false
        last true e = rw (since.unremoved, e) refl
        last false e = elim since.since [
          | inl named ↦ absurd (cc (named, e))
          | inr was ↦ rw (since.unremoved, e) (earlier was)
        ]

        here : (b : Bool) → (channel == c) ≡ b → is_said_gone d (host_read c (host_reads channel message ∷ before)) ≡ false
        here true e = rw e (last (list_any (λ (a : Announce). a.id == d) (announced_in message)) refl)
        here false e = let other : channel ≡ c = cc (may.0, old.channel) in absurd (cc (e, eq-eqb channel c other))
    by (tells n) may o there old earlier = earlier there
    by (removes device) may o there old earlier = earlier there
    by (adds device) may o there old earlier = earlier there
    by (client_reads channel message) may o there old earlier = earlier there
    by (client_writes channel message) may o there old earlier = earlier there
    by (completes key message) may o there old earlier = earlier there
    by (stores device item) may o there old earlier = earlier there
