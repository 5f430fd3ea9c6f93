-- A table that is reached stays so, whatever does something; and what holds of it: its devices and its numbers rise.
use Rattle.std.proofs.Common.{◌≡◌, refl, sym, ap, subst, ℕ, List, [], ◌∷◌, Some, None, Option}
use Rattle.std.specs.List.Sorted.{IsStrictlySortedBy}
use Rattle.std.specs.Ordering.{nat_cmp}
use Rattle.std.specs.Map.{keys_of}
use Rattle.rd_pending.specs.declared.calls.LiveNo.{LiveNo}
use Rattle.rd_pending.specs.History as call
use Rattle.rd_pending.specs.History.{Call, IsReachedTable, May, after, called, heard_on, lives_before}
use Rattle.rd_pending.specs.Outcomes.{course_from}
use Rattle.rd_pending.specs.Table.{TableState, live, live_refusal, remove, removes}
use Rattle.rd_pending.proofs.CourseLemmas.{course_begins, through_course}
use Rattle.rd_pending.proofs.Histories.{sound}
use Rattle.rd_pending.proofs.Reaching.{step_reached}
use Rattle.rd_pending.proofs.Sound.{Sound}
use Rattle.rd_exchanges.specs.Exchanges.{MayGo, all_after, goes}

pub call_reached : (t : TableState) (c : Call) → IsReachedTable t → May t c → IsReachedTable (called t c)
call_reached t c reached may = record {
  history = c ∷ reached.history;
  holds = (subst (λ (u : TableState). May u c) (sym reached.is) may, reached.holds);
  is = ap (λ (u : TableState). called u c) reached.is;
}

pub calls_reached : (t : TableState) (cs : List Call) → IsReachedTable t → MayGo t cs → IsReachedTable (goes t cs)
calls_reached t [] reached may = reached
calls_reached t (c ∷ cs) reached may = calls_reached (called t c) cs (call_reached t c reached may.0) may.1

pub life_reached : (t : TableState) (device : ℕ) → IsReachedTable t → IsReachedTable (live t device).0
life_reached t device reached = go (live_refusal t device) refl
  where
    go : (o : Option LiveNo) → live_refusal t device ≡ o → IsReachedTable (live t device).0
    go None e = call_reached t (call.lives device) reached e
    go (Some why) e = let same : (live t device).0 ≡ t = rw e refl in subst IsReachedTable (sym same) reached

pub removal_reached : (t : TableState) (device : ℕ) → IsReachedTable t → IsReachedTable (remove t device).0
removal_reached t device reached = step_reached t (remove t device).0 (removes device (remove t device).1) reached refl

pub lives_reached : (t : TableState) (devices : List ℕ) → IsReachedTable t → IsReachedTable (all_after live t devices)
lives_reached t [] reached = reached
lives_reached t (device ∷ devices) reached = lives_reached (live t device).0 devices (life_reached t device reached)

pub removals_reached : (t : TableState) (devices : List ℕ) → IsReachedTable t → IsReachedTable (all_after remove t devices)
removals_reached t [] reached = reached
removals_reached t (device ∷ devices) reached = removals_reached (remove t device).0 devices (removal_reached t device reached)

-- ---- what rises

pub devices_rise : (t : TableState) → IsReachedTable t → IsStrictlySortedBy nat_cmp (keys_of t.lives)
unfolding IsStrictlySortedBy
devices_rise t reached = subst (λ (u : TableState). IsStrictlySortedBy nat_cmp (keys_of u.lives)) reached.is (go h.channel refl)
  where
    h : TableState
    h = after reached.history

    s : Sound (after reached.history) reached.history
    s = sound reached.history reached.holds

    go : (o : Option ℕ) → h.channel ≡ o → IsStrictlySortedBy nat_cmp (keys_of h.lives)
    go None e = rw ((s.slots.closed e).1) tt
    go (Some c) e = subst (λ (es : List (ℕ × ℕ)). IsStrictlySortedBy nat_cmp (keys_of es)) (s.lives c e).0
        (through_course (course_from (lives_before c reached.history)) (heard_on c reached.history) (course_begins (lives_before c reached.history))).rising
