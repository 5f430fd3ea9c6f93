-- The cuts of a device, by its journal, are those that follow from what was done.
use Rattle.std.proofs.Common.{◌≡◌, ◌∙◌, refl, sym, ap, ℕ, ◌==◌, Bool, true, false, List, [], ◌∷◌, ◌++◌, map, reverse, Some, None, Option, append-nil, append_assoc}
use Rattle.std.specs.Prelude.{filter_map, if◌then◌else◌}
use Rattle.std.specs.List.{cons_option}
use Rattle.std.specs.Option.{option_map_or}
use Rattle.std.proofs.lemmas.List.{map-append}
use Rattle.std.proofs.lemmas.List.Elements.{filter_map-append}
use Rattle.rd_base.specs.declared.journal.Cause.{Cause}
use Rattle.rd_base.specs.declared.journal.Cause.TheVariants.{Dropped, Removed}
use Rattle.rd_base.specs.declared.journal.Item.{Item}
use Rattle.rd_base.specs.declared.journal.Item.TheVariants.{Came, Cancelled, Cut, Ran, Sent}
use Rattle.rd_rest.proofs.ControlsNumbers.{picked_reverse, reverse_cons}
use Rattle.rd_world.specs.Acts.{IsCutThere, IsDone, cause_in, cut_last, of_channel, there_at}
use Rattle.rd_world.specs.Control.{present}
use Rattle.rd_declared.specs.Devices.{Declared}
use Rattle.rd_deeds.specs.Talk.{Deed, EachAfter, adds, client_reads, client_writes, completes, host_begins, host_ends, host_reads, host_writes, journal, on, removes, stores, submits, takes, tells}
use Rattle.rd_acted.proofs.DueLemmas.{present_by_deeds}
use Rattle.rd_acted.proofs.TellLemmas.{ids_in}
use Rattle.rd_acted.specs.Acted.{control_by_deeds}

-- the device whose removal was done last, if it was
removing : List Deed → Option ℕ
removing (removes device ∷ before) = Some device
removing deeds = None

-- the causes of a device among these
abbrev of_device : ℕ → ℕ → Cause → List Cause
of_device d k cause = if k == d then cause ∷ [] else []

of_one : (d k : ℕ) (cause : Cause) → of_channel d ((k, cause) ∷ []) ≡ of_device d k cause
of_one d k cause = by (k == d)
  where
    by : (b : Bool) → cons_option (if b then Some cause else None) [] ≡ (if b then cause ∷ [] else [])
    by true = refl
    by false = refl

abbrev missing : ℕ → List Deed → List Cause
missing d deeds = option_map_or (λ k. of_device d k Removed) (removing deeds) []

abbrev early : ℕ → List Deed → List Cause
early d deeds = of_channel d (map (λ (k : ℕ). (k, Dropped)) (reverse (cut_last deeds)))

abbrev causes : ℕ → List Deed → List Cause
causes d deeds = reverse (filter_map cause_in (journal d deeds))

causes_more : (d k : ℕ) (cause : Cause) (deeds : List Deed) → causes d (stores k (Cut cause) ∷ deeds) ≡ causes d deeds ++ of_device d k cause
causes_more d k cause deeds = by (k == d)
  where
    by : (b : Bool) → reverse (filter_map cause_in (cons_option (if b then Some (Cut cause) else None) (journal d deeds))) ≡ causes d deeds ++ (if b then cause ∷ [] else [])
    by true = reverse_cons cause (filter_map cause_in (journal d deeds))
    by false = sym (append-nil (causes d deeds))

causes_same : (d k : ℕ) (x : Item) (deeds : List Deed) → cause_in x ≡ None → causes d (stores k x ∷ deeds) ≡ causes d deeds
causes_same d k x deeds none = by (k == d)
  where
    by : (b : Bool) → reverse (filter_map cause_in (cons_option (if b then Some x else None) (journal d deeds))) ≡ causes d deeds
    by true = ap (λ (o : Option Cause). reverse (cons_option o (filter_map cause_in (journal d deeds)))) none
    by false = refl

module _ (devices : List (ℕ × Declared)) where
  abbrev ids : List ℕ
  ids = ids_in devices

  -- ---- what stands before a deed

  IsOther : Deed → Type 0
  IsOther (host_ends channel) = ⊥
  IsOther (stores device (Cut cause)) = ⊥
  IsOther deed = Unit {0}

  before_removed : (before : List Deed) (k : ℕ) → IsCutThere devices before (stores k (Cut Removed)) → (removing before ≡ Some k) × (cut_last before ≡ [])
  unfolding removing
  before_removed [] k is = absurd is
  before_removed (removes d ∷ before) k is = (ap (λ (n : ℕ). Some n) is, refl)
  before_removed (x ∷ before) k is = absurd is

  before_dropped : (before : List Deed) (k : ℕ) → IsCutThere devices before (stores k (Cut Dropped)) → removing before ≡ None
  unfolding removing
  before_dropped (removes d ∷ before) k is = absurd (cc is)
  before_dropped before k is = refl

  before_end : (before : List Deed) (c : ℕ) → IsCutThere devices before (host_ends c) → (removing before ≡ None) × (reverse (cut_last before) ≡ there_at devices before)
  unfolding removing
  before_end (removes d ∷ before) c is = absurd (cc is)
  before_end [] c is = (refl, is)
  before_end (x ∷ before) c is = (refl, is)

  before_other : (before : List Deed) (x : Deed) → IsOther x → IsCutThere devices before x → (removing before ≡ None) × (cut_last before ≡ [])
  unfolding removing IsOther
  before_other (removes d ∷ before) (stores k (Cut cause)) other is = absurd other
  before_other (removes d ∷ before) (stores k (Came key)) other is = absurd (cc is)
  before_other (removes d ∷ before) x other is = absurd (cc is)
  before_other (stores d (Cut Dropped) ∷ before) (stores k (Cut cause)) other is = absurd other
  before_other (stores d (Cut Dropped) ∷ before) (host_ends c) other is = absurd other
  before_other (stores d (Cut Dropped) ∷ before) (stores k (Came key)) other is = absurd is
  before_other (stores d (Cut Dropped) ∷ before) x other is = absurd is
  before_other before x other is = (refl, refl)

  -- ---- all of them

  Same : ℕ → List Deed → Type 0
  Same d deeds = causes d deeds ++ missing d deeds ≡ of_channel d (control_by_deeds ids deeds).cuts ++ early d deeds

  other_same : (d : ℕ) (x : Deed) (before : List Deed) → IsOther x → IsCutThere devices before x → causes d (x ∷ before) ≡ causes d before → (control_by_deeds ids (x ∷ before)).cuts ≡ (control_by_deeds ids before).cuts
      → removing (x ∷ before) ≡ None → cut_last (x ∷ before) ≡ [] → Same d before → Same d (x ∷ before)
  unfolding Same
  other_same d x before other is kept cuts none last same =
      let (was_none, was_last) = before_other before x other is in
      ap (λ (cs : List Cause). cs ++ missing d (x ∷ before)) kept ∙ ap (λ (o : Option ℕ). causes d before ++ option_map_or (λ k. of_device d k Removed) o []) (none ∙ sym was_none) ∙ same
      ∙ ap (λ (ks : List ℕ). of_channel d (control_by_deeds ids before).cuts ++ of_channel d (map (λ (k : ℕ). (k, Dropped)) (reverse ks))) (was_last ∙ sym last)
      ∙ ap (λ (cs : List (ℕ × Cause)). of_channel d cs ++ early d (x ∷ before)) (sym cuts)

  of_more : (d : ℕ) (xs ys : List (ℕ × Cause)) → of_channel d (xs ++ ys) ≡ of_channel d xs ++ of_channel d ys
  of_more d xs ys = filter_map-append (λ t. on d t.0 t.1) xs ys

  all_same : (d : ℕ) (deeds : List Deed) → EachAfter (IsCutThere devices) deeds → Same d deeds
  unfolding Same removing IsOther
  all_same d [] each = refl
  all_same d (stores k (Cut Removed) ∷ before) each =
      let (was, last) = before_removed before k each.0 in
      append-nil (causes d (stores k (Cut Removed) ∷ before)) ∙ causes_more d k Removed before
      ∙ ap (λ (o : Option ℕ). causes d before ++ option_map_or (λ j. of_device d j Removed) o []) (sym was) ∙ all_same d before each.1
      ∙ ap (λ (ks : List ℕ). of_channel d (control_by_deeds ids before).cuts ++ of_channel d (map (λ (j : ℕ). (j, Dropped)) (reverse ks))) last
  all_same d (stores k (Cut Dropped) ∷ before) each =
      let none = before_dropped before k each.0 in
      let later : early d (stores k (Cut Dropped) ∷ before) ≡ early d before ++ of_device d k Dropped =
      ap (λ (ks : List ℕ). of_channel d (map (λ (j : ℕ). (j, Dropped)) ks)) (reverse_cons k (cut_last before))
      ∙ ap (of_channel d) (map-append (λ (j : ℕ). (j, Dropped)) (reverse (cut_last before)) (k ∷ []))
      ∙ of_more d (map (λ (j : ℕ). (j, Dropped)) (reverse (cut_last before))) ((k, Dropped) ∷ [])
      ∙ ap (λ (cs : List Cause). early d before ++ cs) (of_one d k Dropped) in
      let before_same : causes d before ≡ of_channel d (control_by_deeds ids before).cuts ++ early d before =
      sym (ap (λ (o : Option ℕ). causes d before ++ option_map_or (λ j. of_device d j Removed) o []) none ∙ append-nil (causes d before)) ∙ all_same d before each.1 in
      append-nil (causes d (stores k (Cut Dropped) ∷ before)) ∙ causes_more d k Dropped before ∙ ap (λ (cs : List Cause). cs ++ of_device d k Dropped) before_same
      ∙ append_assoc (of_channel d (control_by_deeds ids before).cuts) (early d before) (of_device d k Dropped) ∙ ap (λ (cs : List Cause). of_channel d (control_by_deeds ids before).cuts ++ cs) (sym later)
  all_same d (removes k ∷ before) each =
      let (none, last) = before_other before (removes k) tt each.0 in
      let before_same : causes d before ≡ of_channel d (control_by_deeds ids before).cuts =
      sym (ap (λ (o : Option ℕ). causes d before ++ option_map_or (λ j. of_device d j Removed) o []) none ∙ append-nil (causes d before)) ∙ all_same d before each.1
      ∙ ap (λ (ks : List ℕ). of_channel d (control_by_deeds ids before).cuts ++ of_channel d (map (λ (j : ℕ). (j, Dropped)) (reverse ks))) last ∙ append-nil (of_channel d (control_by_deeds ids before).cuts) in
      ap (λ (cs : List Cause). cs ++ of_device d k Removed) before_same ∙ ap (λ (cs : List Cause). of_channel d (control_by_deeds ids before).cuts ++ cs) (sym (of_one d k Removed))
      ∙ sym (of_more d (control_by_deeds ids before).cuts ((k, Removed) ∷ [])) ∙ sym (append-nil (of_channel d ((control_by_deeds ids before).cuts ++ (k, Removed) ∷ [])))
  all_same d (host_ends c ∷ before) each =
      let (none, those) = before_end before c each.0 in
      let there : map (λ (j : ℕ). (j, Dropped)) (reverse (cut_last before)) ≡ map (λ (j : ℕ). (j, Dropped)) (present (control_by_deeds ids before)) =
      ap (λ (ks : List ℕ). map (λ (j : ℕ). (j, Dropped)) ks) (those ∙ sym (present_by_deeds ids before)) in
      append-nil (causes d before) ∙ sym (ap (λ (o : Option ℕ). causes d before ++ option_map_or (λ j. of_device d j Removed) o []) none ∙ append-nil (causes d before)) ∙ all_same d before each.1
      ∙ ap (λ (cs : List (ℕ × Cause)). of_channel d (control_by_deeds ids before).cuts ++ of_channel d cs) there
      ∙ sym (of_more d (control_by_deeds ids before).cuts (map (λ (j : ℕ). (j, Dropped)) (present (control_by_deeds ids before))))
      ∙ sym (append-nil (of_channel d ((control_by_deeds ids before).cuts ++ map (λ (j : ℕ). (j, Dropped)) (present (control_by_deeds ids before)))))
  all_same d (stores k (Came key) ∷ before) each = other_same d (stores k (Came key)) before tt each.0 (causes_same d k (Came key) before refl) refl refl refl (all_same d before each.1)
  all_same d (stores k (Ran key moment starved parked) ∷ before) each =
      other_same d (stores k (Ran key moment starved parked)) before tt each.0 (causes_same d k (Ran key moment starved parked) before refl) refl refl refl (all_same d before each.1)
  all_same d (stores k (Cancelled key) ∷ before) each = other_same d (stores k (Cancelled key)) before tt each.0 (causes_same d k (Cancelled key) before refl) refl refl refl (all_same d before each.1)
  all_same d (stores k (Sent key) ∷ before) each = other_same d (stores k (Sent key)) before tt each.0 (causes_same d k (Sent key) before refl) refl refl refl (all_same d before each.1)
  all_same d (host_begins c ∷ before) each = other_same d (host_begins c) before tt each.0 refl refl refl refl (all_same d before each.1)
  all_same d (adds k ∷ before) each = other_same d (adds k) before tt each.0 refl refl refl refl (all_same d before each.1)
  all_same d (submits a named op ∷ before) each = other_same d (submits a named op) before tt each.0 refl refl refl refl (all_same d before each.1)
  all_same d (takes number ∷ before) each = other_same d (takes number) before tt each.0 refl refl refl refl (all_same d before each.1)
  all_same d (tells n ∷ before) each = other_same d (tells n) before tt each.0 refl refl refl refl (all_same d before each.1)
  all_same d (host_writes c message ∷ before) each = other_same d (host_writes c message) before tt each.0 refl refl refl refl (all_same d before each.1)
  all_same d (host_reads c message ∷ before) each = other_same d (host_reads c message) before tt each.0 refl refl refl refl (all_same d before each.1)
  all_same d (client_reads c message ∷ before) each = other_same d (client_reads c message) before tt each.0 refl refl refl refl (all_same d before each.1)
  all_same d (client_writes c message ∷ before) each = other_same d (client_writes c message) before tt each.0 refl refl refl refl (all_same d before each.1)
  all_same d (completes key message ∷ before) each = other_same d (completes key message) before tt each.0 refl refl refl refl (all_same d before each.1)

  none_left : (deeds : List Deed) → IsDone deeds → (removing deeds ≡ None) × (cut_last deeds ≡ [])
  unfolding removing
  none_left (removes d ∷ before) done = absurd done
  none_left (stores d (Cut Dropped) ∷ before) done = absurd (cc done)
  none_left deeds done = (refl, refl)

  pub cuts_by_deeds : (d : ℕ) (deeds : List Deed) → EachAfter (IsCutThere devices) deeds → IsDone deeds → filter_map cause_in (reverse (journal d deeds)) ≡ of_channel d (control_by_deeds ids deeds).cuts
  unfolding Same
  cuts_by_deeds d deeds each done =
      let (none, last) = none_left deeds done in
      picked_reverse cause_in (journal d deeds)
      ∙ sym (ap (λ (o : Option ℕ). causes d deeds ++ option_map_or (λ j. of_device d j Removed) o []) none ∙ append-nil (causes d deeds)) ∙ all_same d deeds each
      ∙ ap (λ (ks : List ℕ). of_channel d (control_by_deeds ids deeds).cuts ++ of_channel d (map (λ (j : ℕ). (j, Dropped)) (reverse ks))) last
      ∙ append-nil (of_channel d (control_by_deeds ids deeds).cuts)
