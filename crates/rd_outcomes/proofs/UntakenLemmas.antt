-- What a host hears, and the end of a channel, take no outcome from its table.
use Rattle.std.proofs.Common.{◌≡◌, ◌∙◌, refl, sym, ap, subst, inl, inr, ℕ, Bool, true, false, List, [], ◌∷◌, fold, Some, None, Option, Result, Ok, Err}
use Rattle.std.specs.Prelude.{IsOk, IsSome, if◌then◌else◌, is_some}
use Rattle.std.specs.Map.{lookup, set_value}
use Rattle.std.specs.Ordering.{nat_cmp}
use Rattle.std.specs.BTreeMap.{is_at}
use Rattle.std.specs.Option.{option_map}
use Rattle.std.proofs.lemmas.Bool.{cases_eq}
use Rattle.rd_base.specs.declared.journal.Cause.{Cause}
use Rattle.rd_base.specs.declared.journal.Cause.TheVariants.{Dropped, Removed}
use Rattle.rd_devices.specs.declared.list.Announce.{Announce}
use Rattle.rd_hello.specs.declared.end_fault.EndFault.{EndFault}
use Rattle.rd_host.specs.Core.{host_hear}
use Rattle.rd_host.specs.Served.{is_served_type}
use Rattle.rd_host.specs.declared.act.Act.{Act}
use Rattle.rd_host.specs.declared.act.Act.TheVariants as act
use Rattle.rd_irp.specs.declared.completion.Head.{Head}
use Rattle.rd_pending.specs.declared.calls.CompleteNo.{CompleteNo}
use Rattle.rd_pending.specs.declared.calls.Completed.{Completed}
use Rattle.rd_pending.specs.declared.calls.LiveNo.{LiveNo}
use Rattle.rd_pending.specs.Table as table
use Rattle.rd_pending.specs.Table.{Fate, TableState, Untaken, freed, known, live_refusal, losing, untaken_at, with_fate}
use Rattle.rd_pending.proofs.Effects as effects
use Rattle.rd_pending.proofs.FateLemmas.{fate_set, lost, lost_at}
use Rattle.rd_pending.proofs.MapLemmas.{set_beside, set_here}
use Rattle.rd_deeds.specs.Host.{HostSide, admits, forgets, hears, host_heard}
use Rattle.rd_deeds.proofs.Calls.{admits_table}

-- Each outcome that wasn't handed out is still there, and no request is accepted.
pub record LeavesUntaken (t u : TableState) : Type 0 where
  pub untaken : (n : ℕ) → IsSome (untaken_at t n) → IsSome (untaken_at u n)
  pub count : u.count ≡ t.count

pub leaves_same : (t : TableState) → LeavesUntaken t t
leaves_same t = record { untaken = λ n some. some; count = refl }

leaves_then : (t u v : TableState) → LeavesUntaken t u → LeavesUntaken u v → LeavesUntaken t v
leaves_then t u v first second = record { untaken = λ n some. second.untaken n (first.untaken n some); count = second.count ∙ first.count }

lost_some : (test : Untaken → Bool) (cause : Cause) (es : List (ℕ × Untaken)) (n : ℕ) → IsSome (lookup (is_at (nat_cmp n)) es) → IsSome (lookup (is_at (nat_cmp n)) (losing test cause es))
lost_some test cause es n some = by (lookup (is_at (nat_cmp n)) es) (lost_at test cause n es) some
  where
    by : (o : Option Untaken) → lookup (is_at (nat_cmp n)) (losing test cause es) ≡ option_map (lost test cause) o → IsSome o → IsSome (lookup (is_at (nat_cmp n)) (losing test cause es))
    by None e some = absurd (cc some)
    by (Some u) e some = ap is_some e

leaves_live : (t : TableState) (device : ℕ) → LeavesUntaken t (table.live t device).0
leaves_live t device = by (live_refusal t device) refl
  where
    by : (o : Option LiveNo) → live_refusal t device ≡ o → LeavesUntaken t (table.live t device).0
    by None e = rw e (record { untaken = λ n some. some; count = refl })
    by (Some cause) e = rw e (leaves_same t)

leaves_remove : (t : TableState) (device : ℕ) → LeavesUntaken t (table.remove t device).0
leaves_remove t device = elim (effects.removes t device) [
  | inl none ↦ subst (LeavesUntaken t) (sym none.same) (leaves_same t)
  | inr effect ↦ subst (LeavesUntaken t) (sym effect.new) (record { untaken = λ n some. lost_some _ Removed t.untaken n some; count = refl })
]

leaves_fate : (t : TableState) (number : ℕ) (f : Fate) → LeavesUntaken t (with_fate t number f)
leaves_fate t number f = by (untaken_at t number) refl
  where
    by : (o : Option Untaken) → untaken_at t number ≡ o → LeavesUntaken t (with_fate t number f)
    by None e = rw e (leaves_same t)
    by (Some u) e = subst (LeavesUntaken t) (sym (fate_set t number u f e)) (record {
      untaken = λ n some. elim (cases_eq n number) [
        | inl here ↦ ap is_some (ap (λ (k : ℕ). lookup (is_at (nat_cmp k)) (set_value (is_at (nat_cmp number)) t.untaken (record u { fate = f }))) here ∙ set_here number (record u { fate = f }) u t.untaken e)
        | inr other ↦ ap is_some (set_beside number n (record u { fate = f }) other t.untaken) ∙ some
      ];
      count = refl;
    })

leaves_complete : (t : TableState) (head : Head) (bytes : List ℕ) → LeavesUntaken t (table.complete t head bytes).0
leaves_complete t head bytes = by (table.complete t head bytes).1 refl
  where
    by : (r : Result Completed CompleteNo) → (table.complete t head bytes).1 ≡ r → LeavesUntaken t (table.complete t head bytes).0
    by (Err cause) e = subst (LeavesUntaken t) (sym (effects.refused t head bytes cause e)) (leaves_same t)
    by (Ok gave) e =
        let c = effects.completes t head bytes (subst (λ (r : Result Completed CompleteNo). IsOk r) (sym e) refl) in
        elim c.effect [
          | inl late ↦ subst (LeavesUntaken t) (sym late.new) (record { untaken = λ n some. some; count = refl })
          | inr given ↦ subst (LeavesUntaken t) (sym given.new) (leaves_then t (freed t head.completion) (with_fate (freed t head.completion) c.slot.number (known _))
              (record { untaken = λ n some. some; count = refl }) (leaves_fate (freed t head.completion) c.slot.number (known _)))
        ]

leaves_admit : (s : HostSide) (a : Announce) → LeavesUntaken s.table (admits s a).table
leaves_admit s a = subst (LeavesUntaken s.table) (sym (admits_table s a)) (by (is_served_type a.kind))
  where
    by : (b : Bool) → LeavesUntaken s.table (if b then (table.live s.table a.id).0 else s.table)
    by true = leaves_live s.table a.id
    by false = leaves_same s.table

leaves_admits : (devices : List Announce) (s : HostSide) → LeavesUntaken s.table (fold admits s devices).table
leaves_admits [] s = leaves_same s.table
leaves_admits (a ∷ devices) s = leaves_then s.table (admits s a).table (fold admits (admits s a) devices).table (leaves_admit s a) (leaves_admits devices (admits s a))

leaves_forgets : (ids : List ℕ) (s : HostSide) → LeavesUntaken s.table (fold forgets s ids).table
leaves_forgets [] s = leaves_same s.table
leaves_forgets (id ∷ ids) s = leaves_then s.table (forgets s id).table (fold forgets (forgets s id) ids).table (leaves_remove s.table id) (leaves_forgets ids (forgets s id))

-- so does a message that is heard
pub leaves_heard : (s : HostSide) (m : List ℕ) → LeavesUntaken s.table (hears s m).table
leaves_heard s m = by (record s { core = (host_hear s.core m).0 }) (host_hear s.core m).1
  where
    by : (x : HostSide) (r : Result Act EndFault) → LeavesUntaken x.table (host_heard x r).table
    by x (Err fault) = leaves_same x.table
    by x (Ok act.Nothing) = leaves_same x.table
    by x (Ok (act.Announced devices)) = leaves_admits devices x
    by x (Ok (act.Removed ids)) = leaves_forgets ids x
    by x (Ok (act.Complete head bytes)) = leaves_complete x.table head bytes

-- and the end of a channel
pub leaves_drop : (t : TableState) → LeavesUntaken t (table.drop_channel t)
leaves_drop t = record { untaken = λ n some. lost_some _ Dropped t.untaken n some; count = refl }
