-- A submission behind a device's removal may come before it, and a take before it may come behind it.
use Rattle.std.proofs.Common.{◌≡◌, ◌≢◌, ◌∙◌, refl, sym, ap, ℕ, suc, ◌==◌, Bool, true, false, cond, List, map, Some, None, Option, inl, inr, ne_eqb}
use Rattle.std.specs.Prelude.{IsOk}
use Rattle.std.specs.List.Sorted.{IsStrictlySortedBy}
use Rattle.std.specs.Option.{option_map, unwrap_or}
use Rattle.std.specs.Ordering.{nat_cmp}
use Rattle.std.specs.Map.{keys_of, remove_entry}
use Rattle.std.specs.BTreeMap.{insert_entry, is_at}
use Rattle.std.proofs.lemmas.List.{length-map}
use Rattle.rd_base.specs.declared.journal.Cause.TheVariants.{Removed}
use Rattle.rd_irp.specs.declared.op.Op.{Op}
use Rattle.rd_irp.specs.Fits.{kind_of}
use Rattle.rd_pending.specs.declared.calls.SubmitNo.{SubmitNo}
use Rattle.rd_pending.specs.declared.calls.Target.{Target}
use Rattle.rd_pending.specs.History.{Call, May, called, submits, takes}
use Rattle.rd_pending.specs.Table.{Slot, TableState, Untaken, accept, awaited, dead_of, device_in, is_awaited, life_of, losing, next_id, remove, stale, submit, submit_refusal, take, untaken_at}
use Rattle.rd_pending.proofs.Effects as effects
use Rattle.rd_pending.proofs.Effects.{IsAbsent, Removes, Submits, Takes}
use Rattle.rd_pending.proofs.FateLemmas.{kept_known, lost, lost_at, not_lost}
use Rattle.rd_pending.proofs.MapLemmas.{gone, kept}
use Rattle.rd_exchanges.specs.Exchanges.{accepted_at, handed_at}
use Rattle.rd_exchanges.proofs.CallLemmas.{taken_from}
use Rattle.rd_exchanges.proofs.EntryLemmas.{mapped_free, mapped_inserted, mapped_removed}
use Rattle.rd_exchanges.proofs.PassingLemmas.{Passes}

abbrev is_of : ℕ → Untaken → Bool
is_of d u = u.device == d

-- a slot that is dead, if it is of the device
abbrev ended : ℕ → Slot → Slot
ended d slot = cond (slot.device == d) (record slot { dead = true }) slot

-- a table whose device is gone
abbrev without : TableState → ℕ → TableState
without t d = record t { lives = remove_entry (is_at (nat_cmp d)) t.lives; slots = map (dead_of d) t.slots; untaken = losing (is_of d) Removed t.untaken }

-- ---- a request

-- a request to another device is refused as before
same_refusal : (t : TableState) (d : ℕ) (named : Target) → life_of (without t d) (device_in named) ≡ life_of t (device_in named) → submit_refusal (without t d) named ≡ submit_refusal t named
same_refusal t d named life_at = by t.channel refl (life_of t (device_in named)) refl
  where
    by_life : (c l : ℕ) → t.channel ≡ Some c → life_of t (device_in named) ≡ Some l → (s : Option SubmitNo) → stale named l ≡ s → submit_refusal (without t d) named ≡ submit_refusal t named
    by_life c l e e2 (Some cause) e3 = rw (e, life_at, e2, e3) refl
    by_life c l e e2 None e3 = rw (e, life_at, e2, e3, length-map t.slots (dead_of d)) refl

    by : (c : Option ℕ) → t.channel ≡ c → (l : Option ℕ) → life_of t (device_in named) ≡ l → submit_refusal (without t d) named ≡ submit_refusal t named
    by None e l e2 = rw e refl
    by (Some c) e None e2 = rw (e, life_at, e2) refl
    by (Some c) e (Some l) e2 = by_life c l e e2 (stale named l) refl

module _ (t : TableState) (d application : ℕ) (named : Target) (o : Op) where
  abbrev pub asked : Call
  asked = submits application named o

  -- where the device isn't there, nothing changes
  at_absent : May t asked → IsAbsent t d → Passes remove t d asked
  at_absent may absent = record {
    may = may;
    may_past = rw absent.same may;
    same = ap (λ (u : TableState). called u asked) absent.same ∙ sym (still.0);
    answer = still.1;
    accepted = ap (λ (u : TableState). accepted_at u asked) absent.same;
    handed = refl;
  }
    where
      new : (submit t application named o).0 ≡ accept t named o
      new = (effects.submits t application named o may.1).new

      still : ((remove (called t asked) d).0 ≡ called t asked) × ((remove (called t asked) d).1 ≡ (remove t d).1)
      still = rw new (rw absent.absent (refl, refl))

  module _ (may_new : May (without t d) asked) (gone_one : Removes t d) (rising : IsStrictlySortedBy nat_cmp (keys_of t.lives)) where
    past : Submits (without t d) application named o
    past = effects.submits (without t d) application named o may_new.1

    none_left : life_of (without t d) d ≡ None
    none_left = gone d t.lives rising

    other : device_in named ≢ d
    other same = cc (past.present, none_left, ap (life_of (without t d)) same)

    life_at : life_of (without t d) (device_in named) ≡ life_of t (device_in named)
    life_at = kept d (device_in named) other t.lives

    may : May t asked
    may = (may_new.0, sym (same_refusal t d named life_at) ∙ may_new.1)

    new : (submit t application named o).0 ≡ accept t named o
    new = (effects.submits t application named o may.1).new

    id_same : next_id (without t d) ≡ next_id t
    id_same = mapped_free (ended d) 0 t.slots

    abbrev slot : Slot
    slot = record { number = suc t.count; device = device_in named; kind = kind_of o; dead = false }

    abbrev own : Untaken
    own = record { device = device_in named; life = unwrap_or (life_of t (device_in named)) 0; fate = awaited }

    apart : (device_in named == d) ≡ false
    apart = ne_eqb (device_in named) d other

    slot_stays : ended d slot ≡ slot
    slot_stays = rw apart refl

    own_stays : lost (is_of d) Removed own ≡ own
    own_stays = not_lost (is_of d) Removed own apart

    same_slots : insert_entry nat_cmp (map (dead_of d) t.slots) (next_id t) slot ≡ map (dead_of d) (insert_entry nat_cmp t.slots (next_id t) slot)
    same_slots = sym (mapped_inserted (ended d) (next_id t) slot slot t.slots slot_stays)

    same_untaken : insert_entry nat_cmp (losing (is_of d) Removed t.untaken) (suc t.count) own ≡ losing (is_of d) Removed (insert_entry nat_cmp t.untaken (suc t.count) own)
    same_untaken = sym (mapped_inserted (lost (is_of d) Removed) (suc t.count) own own t.untaken own_stays)

    same_new : accept (without t d) named o ≡ without (accept t named o) d
    same_new = rw (life_at, id_same) (rw (same_slots, same_untaken) refl)

    gone_later : (remove (accept t named o) d).0 ≡ without (accept t named o) d
    gone_later = rw gone_one.present refl

    at_present : Passes remove t d asked
    at_present = record {
      may = may;
      may_past = rw gone_one.new may_new;
      same =
          ap (λ (u : TableState). (submit u application named o).0) gone_one.new
          ∙ past.new
          ∙ same_new
          ∙ sym gone_later
          ∙ ap (λ (u : TableState). (remove u d).0) (sym new);
      answer = rw (new, gone_one.present) refl;
      accepted = rw gone_one.new (rw (life_at, id_same) refl);
      handed = refl;
    }

  pub submission_passes : IsStrictlySortedBy nat_cmp (keys_of t.lives) → May (remove t d).0 asked → Passes remove t d asked
  submission_passes rising may_past = elim (effects.removes t d) [
    | inl absent ↦ at_absent (rw absent.same at may_past) absent
    | inr gone_one ↦ at_present (rw gone_one.new at may_past) gone_one rising
  ]

-- ---- an outcome that is taken

module _ (t : TableState) (d number : ℕ) (may : May t (takes number)) where
  effect : Takes t number
  effect = effects.takes t number may

  take_at_absent : IsAbsent t d → Passes remove t d (takes number)
  take_at_absent absent = record {
    may = may;
    may_past = rw absent.same may;
    same = ap (λ (u : TableState). called u (takes number)) absent.same ∙ sym (still.0);
    answer = still.1;
    accepted = refl;
    handed = ap (λ (u : TableState). handed_at u (takes number)) absent.same;
  }
    where
      still : ((remove (called t (takes number)) d).0 ≡ called t (takes number)) × ((remove (called t (takes number)) d).1 ≡ (remove t d).1)
      still = rw effect.new (rw absent.absent (refl, refl))

  -- an outcome that is known stays
  known_still : untaken_at (without t d) number ≡ Some effect.request
  known_still =
      lost_at (is_of d) Removed number t.untaken
      ∙ ap (option_map (lost (is_of d) Removed)) effect.is
      ∙ ap Some (kept_known (is_of d) Removed effect.request (ap is_awaited effect.fate))

  may_new : IsOk (take (without t d) number).1
  may_new = rw (known_still, effect.fate) refl

  take_past : Takes (without t d) number
  take_past = effects.takes (without t d) number may_new

  take_at_present : Removes t d → Passes remove t d (takes number)
  take_at_present gone_one = record {
    may = may;
    may_past = rw gone_one.new may_new;
    same =
        ap (λ (u : TableState). (take u number).0) gone_one.new
        ∙ take_past.new
        ∙ same_new
        ∙ sym later
        ∙ ap (λ (u : TableState). (remove u d).0) (sym effect.new);
    answer = rw (effect.new, gone_one.present) refl;
    accepted = refl;
    handed = ap (λ (u : TableState). handed_at u (takes number)) gone_one.new ∙ handed_same;
  }
    where
      same_new : taken_from (without t d) number ≡ without (taken_from t number) d
      same_new = ap (λ (es : List (ℕ × Untaken)). record (without t d) { untaken = es }) (sym (mapped_removed (lost (is_of d) Removed) (is_at (nat_cmp number)) t.untaken))

      later : (remove (taken_from t number) d).0 ≡ without (taken_from t number) d
      later = rw gone_one.present refl

      handed_same : handed_at (without t d) (takes number) ≡ handed_at t (takes number)
      handed_same = rw (known_still, effect.is, effect.fate) refl

  pub take_passes : Passes remove t d (takes number)
  take_passes = elim (effects.removes t d) [
    | inl absent ↦ take_at_absent absent
    | inr gone_one ↦ take_at_present gone_one
  ]
