-- The numbers in a host's table have room in their fields: the devices of its requests, and the files that their replies give.
use Rattle.std.proofs.Common.{◌≡◌, ◌∙◌, refl, sym, ap, subst, ℕ, suc, ◌+◌, ◌<◌, ◌^◌, ◌==◌, ◌&&◌, Bool, true, false, cond, List, [], ◌∷◌, fold, Some, None, Option, Result, Ok, Err, Ordering, is_some}
use Rattle.std.specs.Prelude.{if◌then◌else◌, is_none}
use Rattle.std.specs.List.{AllByRecursion}
use Rattle.std.specs.Map.{lookup, remove_entry, set_value}
use Rattle.std.specs.Ordering.{match_ordering, nat_cmp}
use Rattle.std.specs.declared.cmp.Ordering.TheVariants.{Less, Equal, Greater}
use Rattle.std.specs.BTreeMap.{insert_entry, is_at}
use Rattle.std.specs.Option.{IfSome, option_map_or}
use Rattle.rd_base.specs.declared.bad.Bad.{Bad}
use Rattle.rd_base.specs.declared.journal.Cause.{Cause}
use Rattle.rd_base.specs.declared.journal.Cause.TheVariants.{Dropped, Removed}
use Rattle.rd_base.specs.Layout.{met}
use Rattle.rd_base.specs.Position.{Position, at_start}
use Rattle.rd_base.specs.Statuses.{not_supported}
use Rattle.rd_host.specs.Core as host
use Rattle.rd_devices.specs.declared.list.Announce.{Announce}
use Rattle.rd_hello.specs.declared.end_fault.EndFault.{EndFault}
use Rattle.rd_host.specs.declared.act.Act.{Act}
use Rattle.rd_host.specs.declared.act.Act.TheVariants as act
use Rattle.rd_host.specs.Served.{is_served_type}
use Rattle.rd_irp.specs.declared.completion.Body.{Body}
use Rattle.rd_irp.specs.declared.completion.Head.{Head}
use Rattle.rd_irp.specs.declared.op.Op.{Op}
use Rattle.rd_irp.specs.Completion.{completion_body}
use Rattle.rd_pending.specs.declared.calls.LiveNo.{LiveNo}
use Rattle.rd_pending.specs.declared.calls.Outcome as outcomes
use Rattle.rd_pending.specs.declared.calls.Outcome.TheVariants.{Done, Lost}
use Rattle.rd_pending.specs.declared.calls.SubmitNo.{SubmitNo}
use Rattle.rd_pending.specs.declared.calls.Taken.{Taken}
use Rattle.rd_pending.specs.declared.calls.TakeNo.{TakeNo}
use Rattle.rd_pending.specs.declared.calls.TakeNo.TheVariants.{NotYet, Unknown}
use Rattle.rd_pending.specs.declared.calls.Target.{Target}
use Rattle.rd_pending.specs.Table as table
use Rattle.rd_pending.specs.Table.{Fate, Slot, TableState, Untaken, awaited, complete_in, device_in, freed, is_awaited, known, life_of, live_refusal, losing, lost_where, slot_for, submit_refusal, untaken_at, with_fate}
use Rattle.rd_runs.proofs.FileNumbers.{BeginsInBytes, HasRoom, file_fits}
use Rattle.rd_runs.proofs.KeysOnLemmas.{all_mapped}
use Rattle.rd_deeds.specs.Host.{HostSide, admits, forgets, host_heard, lived}

-- ---- entries

module _ {K X : Type 0} (P : X → Type 0) where
  abbrev pub OfAll : List (K × X) → Type 0
  OfAll es = AllByRecursion (λ (e : K × X). P e.1) es

  pub all_inserted : (cmp : K → K → Ordering) (es : List (K × X)) (k : K) (v : X) → P v → OfAll es → OfAll (insert_entry cmp es k v)
  all_inserted cmp [] k v own all = (own, tt)
  all_inserted cmp (e ∷ es) k v own all = by (cmp k e.0) (all_inserted cmp es k v own all.1)
    where
      by : (o : Ordering) → OfAll (insert_entry cmp es k v) → OfAll (match_ordering o ((k, v) ∷ e ∷ es) ((e.0, v) ∷ es) (e ∷ insert_entry cmp es k v))
      by Less later = (own, all)
      by Equal later = (own, all.1)
      by Greater later = (all.0, later)

  pub all_removed : (test : K → Bool) (es : List (K × X)) → OfAll es → OfAll (remove_entry test es)
  all_removed test [] all = tt
  all_removed test (e ∷ es) all = by (test e.0) (all_removed test es all.1)
    where
      by : (b : Bool) → OfAll (remove_entry test es) → OfAll (cond b es (e ∷ remove_entry test es))
      by true later = all.1
      by false later = (all.0, later)

  pub all_set : (test : K → Bool) (es : List (K × X)) (v : X) → P v → OfAll es → OfAll (set_value test es v)
  all_set test [] v own all = tt
  all_set test (e ∷ es) v own all = by (test e.0) (all_set test es v own all.1)
    where
      by : (b : Bool) → OfAll (set_value test es v) → OfAll (cond b ((e.0, v) ∷ es) (e ∷ set_value test es v))
      by true later = (own, all.1)
      by false later = (all.0, later)

  pub found_in : (test : K → Bool) (es : List (K × X)) → OfAll es → IfSome (lookup test es) P
  found_in test [] all = tt
  found_in test (e ∷ es) all = by (test e.0) (found_in test es all.1)
    where
      by : (b : Bool) → IfSome (lookup test es) P → IfSome (cond b (Some e.1) (lookup test es)) P
      by true later = all.0
      by false later = later

-- ---- a table

abbrev pub OutcomeHasRoom : outcomes.Outcome → Type 0
OutcomeHasRoom (Done reply) = HasRoom reply.status reply.body
OutcomeHasRoom (Lost cause) = Unit {0}

abbrev FateHasRoom : Fate → Type 0
FateHasRoom awaited = Unit {0}
FateHasRoom (known o) = OutcomeHasRoom o

pub record UntakenHasRoom (u : Untaken) : Type 0 where
  pub device : u.device < 2 ^ 32
  pub fate : FateHasRoom u.fate

abbrev pub TableHasRoom : TableState → Type 0
TableHasRoom t = AllByRecursion (λ (e : ℕ × Untaken). UntakenHasRoom e.1) t.untaken

lost_room : (test : Untaken → Bool) (cause : Cause) (es : List (ℕ × Untaken)) → OfAll UntakenHasRoom es → OfAll UntakenHasRoom (losing test cause es)
lost_room test cause es all =
    all_mapped (λ (e : ℕ × Untaken). UntakenHasRoom e.1) (lost_where test cause) (λ (e : ℕ × Untaken). UntakenHasRoom e.1) one es all
  where
    by : (u : Untaken) → UntakenHasRoom u → (b : Bool) → UntakenHasRoom (if b then record u { fate = known (Lost cause) } else u)
    by u own true = record { device = own.device; fate = tt }
    by u own false = own

    one : (e : ℕ × Untaken) → UntakenHasRoom e.1 → UntakenHasRoom (lost_where test cause e).1
    one e own = by e.1 own (is_awaited (e.1).fate && test e.1)

pub begun_room : (t : TableState) (c : ℕ) → TableHasRoom t → TableHasRoom (table.begin t c).0
begun_room t c room = by (is_some t.channel)
  where
    by : (b : Bool) → TableHasRoom (cond {A = TableState × Bool} b (t, false) (record t { channel = Some c; below = c + 1; asked = 0; begun = 0 }, true)).0
    by true = room
    by false = room

pub dropped_room : (t : TableState) → TableHasRoom t → TableHasRoom (table.drop_channel t)
dropped_room t room = lost_room (λ u. true) Dropped t.untaken room

lived_room : (t : TableState) (device : ℕ) → TableHasRoom t → TableHasRoom (table.live t device).0
lived_room t device room = by (live_refusal t device) refl
  where
    by : (o : Option LiveNo) → live_refusal t device ≡ o → TableHasRoom (table.live t device).0
    by None e = rw e room
    by (Some cause) e = rw e room

removed_room : (t : TableState) (device : ℕ) → TableHasRoom t → TableHasRoom (table.remove t device).0
removed_room t device room = by (is_none (life_of t device)) refl
  where
    by : (b : Bool) → is_none (life_of t device) ≡ b → TableHasRoom (table.remove t device).0
    by true e = rw e room
    by false e = rw e (lost_room (λ u. u.device == device) Removed t.untaken room)

pub submitted_room : (t : TableState) (a : ℕ) (named : Target) (o : Op) → device_in named < 2 ^ 32 → TableHasRoom t → TableHasRoom (table.submit t a named o).0
submitted_room t a named o few room = by (submit_refusal t named) refl
  where
    by : (r : Option SubmitNo) → submit_refusal t named ≡ r → TableHasRoom (table.submit t a named o).0
    by None e = rw e (all_inserted UntakenHasRoom nat_cmp t.untaken (suc t.count) _ (record { device = few; fate = tt }) room)
    by (Some cause) e = rw e room

pub sent_room : (t : TableState) → TableHasRoom t → TableHasRoom (table.send t).0
sent_room t room = by t.outbox refl
  where
    by : (o : List (List ℕ)) → t.outbox ≡ o → TableHasRoom (table.send t).0
    by [] e = rw e room
    by (m ∷ ms) e = rw e room

fate_room : (t : TableState) (n : ℕ) (f : Fate) → FateHasRoom f → TableHasRoom t → TableHasRoom (with_fate t n f)
fate_room t n f own room = by (untaken_at t n) (found_in UntakenHasRoom (is_at (nat_cmp n)) t.untaken room)
  where
    by : (o : Option Untaken) → IfSome o UntakenHasRoom
        → TableHasRoom (option_map_or (λ u. record t { untaken = set_value (is_at (nat_cmp n)) t.untaken (record u { fate = f }) }) o t)
    by None found = room
    by (Some u) found = all_set UntakenHasRoom (is_at (nat_cmp n)) t.untaken (record u { fate = f }) (record { device = found.device; fate = own }) room

completed_room : (t : TableState) (head : Head) (bytes : List ℕ) → BeginsInBytes bytes → TableHasRoom t → TableHasRoom (table.complete t head bytes).0
completed_room t head bytes safe room = by (slot_for t head.completion) refl
  where
    read : (slot : Slot) → slot_for t head.completion ≡ Some slot → (slot.device == head.device) ≡ true → slot.dead ≡ false → (r : Result (Body × Position) Bad)
        → met (completion_body slot.kind head.status) (at_start bytes) ≡ r → TableHasRoom (table.complete t head bytes).0
    read slot e same alive (Err bad) e2 = rw (e, same, alive, e2) room
    read slot e same alive (Ok gave) e2 =
        rw (e, same, alive, e2) (fate_room (freed t head.completion) slot.number (known (Done (record { status = head.status; body = gave.0 }))) (file_fits slot.kind head.status bytes gave safe e2) room)

    marked : (slot : Slot) → slot_for t head.completion ≡ Some slot → (slot.device == head.device) ≡ true → (b : Bool) → slot.dead ≡ b → TableHasRoom (table.complete t head bytes).0
    marked slot e same true dead = rw (e, same, dead) room
    marked slot e same false alive = read slot e same alive (met (completion_body slot.kind head.status) (at_start bytes)) refl

    held : (slot : Slot) → slot_for t head.completion ≡ Some slot → (b : Bool) → (slot.device == head.device) ≡ b → TableHasRoom (table.complete t head bytes).0
    held slot e false other = rw (e, other) room
    held slot e true same = marked slot e same slot.dead refl

    by : (o : Option Slot) → slot_for t head.completion ≡ o → TableHasRoom (table.complete t head bytes).0
    by None e = rw e room
    by (Some slot) e = held slot e (slot.device == head.device) refl

-- what is handed out has room
pub taken_room : (t new : TableState) (n : ℕ) (taken : Taken) → table.take t n ≡ (new, Ok taken) → TableHasRoom t → (taken.device < 2 ^ 32) × OutcomeHasRoom taken.outcome × TableHasRoom new
taken_room t new n taken made room = by (untaken_at t n) refl (found_in UntakenHasRoom (is_at (nat_cmp n)) t.untaken room)
  where
    from : (u : Untaken) → untaken_at t n ≡ Some u → (f : Fate) → u.fate ≡ f → UntakenHasRoom u → (taken.device < 2 ^ 32) × OutcomeHasRoom taken.outcome × TableHasRoom new
    from u e awaited e2 own = let none : (table.take t n).1 ≡ Err NotYet = rw (e, e2) refl in absurd (cc (none, ap (λ (r : TableState × Result Taken TakeNo). r.1) made))
    from u e (known o) e2 own =
        let now : TableState = record t { untaken = remove_entry (is_at (nat_cmp n)) t.untaken } in
        let gave : Taken = record { device = u.device; life = u.life; outcome = o } in
        let one : table.take t n ≡ (now, Ok gave) = rw (e, e2) refl in
        let same : gave ≡ taken = (let both : ◌≡◌ {A = Result Taken TakeNo} (Ok gave) (Ok taken) = ap (λ (r : TableState × Result Taken TakeNo). r.1) (sym one ∙ made) in cc) in
        let left : now ≡ new = ap (λ (r : TableState × Result Taken TakeNo). r.0) (sym one ∙ made) in (
          subst (λ (x : Taken). x.device < 2 ^ 32) same own.device,
          subst (λ (x : Taken). OutcomeHasRoom x.outcome) same (subst FateHasRoom e2 own.fate),
          subst TableHasRoom left (all_removed UntakenHasRoom (is_at (nat_cmp n)) t.untaken room),
        )

    by : (o : Option Untaken) → untaken_at t n ≡ o → IfSome o UntakenHasRoom → (taken.device < 2 ^ 32) × OutcomeHasRoom taken.outcome × TableHasRoom new
    by None e found = let none : (table.take t n).1 ≡ Err Unknown = rw e refl in absurd (cc (none, ap (λ (r : TableState × Result Taken TakeNo). r.1) made))
    by (Some u) e found = from u e u.fate refl found

-- ---- what a host hears

abbrev pub SideHasRoom : HostSide → Type 0
SideHasRoom s = TableHasRoom s.table

all_admitted_room : (devices : List Announce) (s : HostSide) → SideHasRoom s → SideHasRoom (fold admits s devices)
all_admitted_room [] s room = room
all_admitted_room (a ∷ devices) s room = all_admitted_room devices (admits s a) (by (is_served_type a.kind))
  where
    live : (r : TableState × Result ℕ LiveNo) → TableHasRoom r.0 → SideHasRoom (lived s a.id r)
    live (after, life) own = own

    by : (b : Bool) → SideHasRoom (if b then lived s a.id (table.live s.table a.id) else record s { core = host.reply s.core a.id not_supported })
    by true = live (table.live s.table a.id) (lived_room s.table a.id room)
    by false = room

all_forgotten_room : (ids : List ℕ) (s : HostSide) → SideHasRoom s → SideHasRoom (fold forgets s ids)
all_forgotten_room [] s room = room
all_forgotten_room (id ∷ ids) s room = all_forgotten_room ids (forgets s id) (removed_room s.table id room)

-- the bytes after the head of a completion begin in bytes
abbrev pub ActIsSafe : Result Act EndFault → Type 0
ActIsSafe (Ok (act.Complete head bytes)) = BeginsInBytes bytes
ActIsSafe r = Unit {0}

pub heard_room : (s : HostSide) (r : Result Act EndFault) → ActIsSafe r → SideHasRoom s → SideHasRoom (host_heard s r)
heard_room s (Err fault) safe room = room
heard_room s (Ok act.Nothing) safe room = room
heard_room s (Ok (act.Announced devices)) safe room = all_admitted_room devices s room
heard_room s (Ok (act.Removed ids)) safe room = all_forgotten_room ids s room
heard_room s (Ok (act.Complete head bytes)) safe room = completed_room s.table head bytes safe room
