-- Deeds that pass tests did what control lines say: what was told in time, and where devices were cut.
use Rattle.std.proofs.Common.{◌≡◌, refl, sym, ap, subst, ℕ, ◌≤◌, ◌==◌, ◌&&◌, not, Bool, true, false, List, [], ◌∷◌, length, reverse, leb, leb-true, eqb-true, bytes_eq, filter, arith, inl, inr}
use Rattle.std.specs.Cmp.Lexicographic.{bytes_decides}
use Rattle.std.specs.List.{list_all}
use Rattle.std.proofs.lemmas.Bool.{and_parts, not-true, cases_Bool}
use Rattle.rd_base.specs.declared.journal.Cause.TheVariants.{Dropped, Removed}
use Rattle.rd_base.specs.declared.journal.Item.TheVariants.{Came, Cut}
use Rattle.rd_world.specs.Acts.{AreSaid, IsCutThere, IsToldInTime, cut_last, is_telling, tellings_due, tellings_on, there_at}
use Rattle.rd_declared.specs.Devices.{Declared}
use Rattle.rd_deeds.specs.Talk.{AtEachPoint, Deed, EachAfter, host_ends, is_removed, removes, stores}
use Rattle.rd_deeds.proofs.TestedDeeds.{each, each_passes}
use Rattle.rd_world.proofs.TestedLines.{are_within, none_client_wrote, rest_within}
use Rattle.rd_deeds.proofs.TestedTelling.{among, of_members}

-- ---- what is said

-- nothing is said where there is nothing to say
pub none_said : {A : Type 0} (Says : A → List ℕ → Type 0) (things : List A) (messages : List (List ℕ)) (ended : Bool) → things ≡ [] → messages ≡ [] → AreSaid Says things messages ended
none_said {A} Says things messages ended no_things no_messages =
    subst (λ (xs : List A). AreSaid Says xs messages ended) (sym no_things)
    (subst (λ (ms : List (List ℕ)). AreSaid Says [] ms ended) (sym no_messages) (record { each = tt; all = λ on. refl }))

-- ---- what is told in time

-- a test at each point
abbrev pub at_points : (List Deed → Bool) → List Deed → Bool
at_points p [] = p []
at_points p (x ∷ before) = p (x ∷ before) && at_points p before

-- no more is told on these channels than is due
abbrev pub is_told_in_time : List ℕ → List Deed → Bool
is_told_in_time channels deeds = list_all (λ c. leb (length (tellings_on c deeds)) (tellings_due c deeds)) channels

module _ (channels devices applications : List ℕ) where
  pub none_told_on : (deeds : List Deed) → are_within channels devices applications deeds ≡ true → (c : ℕ) → among c channels ≡ false → tellings_on c deeds ≡ []
  none_told_on deeds within c isnt = ap (λ (ms : List (List ℕ)). filter is_telling (reverse ms)) (none_client_wrote channels devices applications deeds within c isnt)

  told_now : (deeds : List Deed) → are_within channels devices applications deeds ≡ true → is_told_in_time channels deeds ≡ true → IsToldInTime deeds
  told_now deeds within e c = elim (cases_Bool (among c channels)) [
    | inl is ↦ leb-true (length (tellings_on c deeds)) (tellings_due c deeds) (of_members (λ x. leb (length (tellings_on x deeds)) (tellings_due x deeds)) channels e c is)
    | inr isnt ↦ subst (λ (ms : List (List ℕ)). length ms ≤ tellings_due c deeds) (sym (none_told_on deeds within c isnt)) (omega arith)
  ]

  pub told_in_time_by_test : (deeds : List Deed) → are_within channels devices applications deeds ≡ true → at_points (is_told_in_time channels) deeds ≡ true → AtEachPoint IsToldInTime deeds
  told_in_time_by_test [] within e = told_now [] within e
  told_in_time_by_test (x ∷ before) within e =
      let parts = and_parts _ _ e in
      (told_now (x ∷ before) within parts.0, told_in_time_by_test before (rest_within channels devices applications x before within) parts.1)

-- ---- where devices are cut

abbrev removes_last : List Deed → ℕ → Bool
removes_last (removes d ∷ before) device = d == device
removes_last _ device = false

abbrev is_removal_of : ℕ → Deed → Bool
is_removal_of d (stores device (Cut Removed)) = device == d
is_removal_of d _ = false

abbrev is_drop : Deed → Bool
is_drop (stores other (Cut Dropped)) = true
is_drop _ = false

abbrev pub is_cut_there : List (ℕ × Declared) → List Deed → Deed → Bool
is_cut_there devices before (stores device (Cut Removed)) = removes_last before device
is_cut_there devices (removes d ∷ before) deed = is_removal_of d deed
is_cut_there devices before (host_ends channel) = bytes_eq (reverse (cut_last before)) (there_at devices before)
is_cut_there devices (stores device (Cut Dropped) ∷ before) deed = is_drop deed
is_cut_there devices before (stores device (Came key)) = not (is_removed device before)
is_cut_there devices before deed = true

removal_is : (d : ℕ) (deed : Deed) → is_removal_of d deed ≡ true → deed ≡ stores d (Cut Removed)
removal_is d (stores device (Cut Removed)) e = ap (λ (x : ℕ). stores x (Cut Removed)) (eqb-true device d e)
removal_is d _ e = absurd (cc)

cut_is : (devices : List (ℕ × Declared)) (before : List Deed) (x : Deed) → is_cut_there devices before x ≡ true → IsCutThere devices before x
cut_is devices (removes d ∷ before) (stores device (Cut Removed)) e = eqb-true d device e
cut_is devices before (stores device (Cut Removed)) e = absurd (cc)
cut_is devices (removes d ∷ before) deed e = removal_is d deed e
cut_is devices before (host_ends channel) e = (bytes_decides (reverse (cut_last before)) (there_at devices before)).0 e
cut_is devices (stores device (Cut Dropped) ∷ before) (stores other (Cut Dropped)) e = tt
cut_is devices (stores device (Cut Dropped) ∷ before) deed e = absurd (cc)
cut_is devices before (stores device (Came key)) e = not-true (is_removed device before) e
cut_is devices before deed e = tt

pub cut_by_test : (devices : List (ℕ × Declared)) (deeds : List Deed) → each (is_cut_there devices) deeds ≡ true → EachAfter (IsCutThere devices) deeds
cut_by_test devices = each_passes (is_cut_there devices) (cut_is devices)
