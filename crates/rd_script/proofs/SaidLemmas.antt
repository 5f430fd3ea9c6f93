-- What is said: a device that is changed.
use Rattle.std.proofs.Common.{◌≡◌, refl, sym, ap, ◌∙◌, ℕ, zero, suc, ◌<◌, arith, List, [], ◌∷◌, Bool, true, false, length, get_or, set, Some, None, Result, Ok, Err}
use Rattle.std.specs.Prelude.{position, ◌==◌, OnOk}
use Rattle.std.proofs.lemmas.List.Quantifiers.{position-Some}
use Rattle.rd_dirinfo.specs.Paths.{Names}
use Rattle.rd_script.specs.Said.{Said, SaidDevice, with_device_changed, with_node_at, with_said_node}
use Rattle.rd_script.proofs.ListLemmas.{position_none}

-- a fact that holds of a success
pub on_ok : {P Q T E : Type 0} (r : Result T E) → (P → Q) → OnOk r P → OnOk r Q
on_ok (Ok x) f h = f h
on_ok (Err e) f h = h

abbrev has_id : ℕ → SaidDevice → Bool
has_id id d = d.id == id

changed_none : (id : ℕ) (f : SaidDevice → SaidDevice) (ds : List SaidDevice) (d : SaidDevice) → ((k : ℕ) → k < length ds → has_id id (get_or ds k d) ≡ false) → with_device_changed id f ds ≡ ds
changed_none id f [] d h = refl
changed_none id f (e ∷ es) d h =
    let first : (e.id == id) ≡ false = h 0 (omega arith) in
    rw (first, changed_none id f es d (λ k below. h (suc k) (omega arith))) refl

changed_some : (id : ℕ) (f : SaidDevice → SaidDevice) (ds : List SaidDevice) (i : ℕ) (d : SaidDevice) → i < length ds → has_id id (get_or ds i d) ≡ true → ((k : ℕ) → k < i → has_id id (get_or ds k d) ≡ false) → with_device_changed id f ds ≡ set ds i (f (get_or ds i d))
changed_some id f [] i d below is before = absurd (omega arith)
changed_some id f (e ∷ es) zero d below is before = rw is refl
changed_some id f (e ∷ es) (suc i) d below is before =
    let first : (e.id == id) ≡ false = before 0 (omega arith) in
    rw (first, changed_some id f es i d (omega arith) is (λ k h. before (suc k) (omega arith))) refl

-- the node stands on the device that was found
pub node_put : (s : Said) (id i : ℕ) (path : Names) (folder : Bool) (d new : SaidDevice) → position (λ (e : SaidDevice). e.id == id) s.devices ≡ Some i → d ≡ get_or s.devices i d → new ≡ with_said_node path folder d → record s { devices = set s.devices i new } ≡ with_node_at s id path folder
node_put s id i path folder d new found is made =
    let there = position-Some (has_id id) s.devices i d found in
    let same : with_device_changed id (with_said_node path folder) s.devices ≡ set s.devices i new =
    changed_some id (with_said_node path folder) s.devices i d there.0 there.1 there.2
    ∙ ap (λ (e : SaidDevice). set s.devices i (with_said_node path folder e)) (sym is)
    ∙ ap (λ (e : SaidDevice). set s.devices i e) (sym made) in
    ap (λ (ds : List SaidDevice). record s { devices = ds }) (sym same)

-- there is no such device
pub node_nowhere : (s : Said) (id : ℕ) (path : Names) (folder : Bool) → position (λ (e : SaidDevice). e.id == id) s.devices ≡ None → s ≡ with_node_at s id path folder
node_nowhere s id path folder none = of s.devices refl none
  where
    of : (ds : List SaidDevice) → s.devices ≡ ds → position (has_id id) ds ≡ None → s ≡ with_node_at s id path folder
    of [] e none = ap (λ (xs : List SaidDevice). record s { devices = xs }) (e ∙ sym (ap (with_device_changed id (with_said_node path folder)) e))
    of (d ∷ ds) e none =
        let all = position_none (has_id id) (d ∷ ds) d none in
        ap (λ (xs : List SaidDevice). record s { devices = xs }) (e ∙ sym (changed_none id (with_said_node path folder) (d ∷ ds) d all) ∙ sym (ap (with_device_changed id (with_said_node path folder)) e))
