-- Going through the devices of a message, one after the other.
use Rattle.std.proofs.Common.{◌≡◌, ◌∙◌, refl, sym, ap, subst, ℕ, zero, suc, ◌+◌, ◌<◌, ◌≤◌, Bool, true, false, List, [], ◌∷◌, length, drop, get_or, drop-cons, add-one, arith}
use Rattle.rd_devices.specs.declared.list.Announce.{Announce}
use Rattle.rd_host_front.specs.HostFront.{Admits, AdmitsAll, Forgets, ForgetsAll}
use Rattle.rd_host_front.specs.State.{HostFrontState}

-- from a place on a list has the item there, and then those from the next place on
from_there : {A : Type 0} (xs : List A) (i : ℕ) (x : A) → i < length xs → x ≡ get_or xs i x → drop i xs ≡ x ∷ drop (i + 1) xs
from_there xs i x within is = drop-cons xs i x within ∙ ap (λ (y : _). y ∷ drop (suc i) xs) (sym is) ∙ ap (λ (n : ℕ). x ∷ drop n xs) (sym (add-one i))

none_left : {A : Type 0} (xs : List A) (i : ℕ) → length xs ≤ i → drop i xs ≡ []
none_left [] zero all = refl
none_left [] (suc i) all = refl
none_left (x ∷ xs) zero all = absurd (omega arith)
none_left (x ∷ xs) (suc i) all = none_left xs i (omega arith)

-- ---- devices that are announced

-- what the devices from a place on come to from here, all of them come to
abbrev pub AdmitsOn : List Announce → ℕ → HostFrontState → HostFrontState → Type 0
AdmitsOn devices i first here = (found : Bool) (new : HostFrontState) → AdmitsAll (drop i devices) here found new → AdmitsAll devices first found new

pub admits_next : (devices : List Announce) (i : ℕ) (a : Announce) (first here next : HostFrontState) → i < length devices → a ≡ get_or devices i a → Admits here a true next
    → AdmitsOn devices i first here → AdmitsOn devices (i + 1) first next
admits_next devices i a first here next within is did on found new later =
    on found new (subst (λ (l : List Announce). AdmitsAll l here found new) (sym (from_there devices i a within is)) (true, next, did, later))

pub admits_stops : (devices : List Announce) (i : ℕ) (a : Announce) (first here next : HostFrontState) → i < length devices → a ≡ get_or devices i a → Admits here a false next
    → AdmitsOn devices i first here → AdmitsAll devices first false next
admits_stops devices i a first here next within is did on =
    on false next (subst (λ (l : List Announce). AdmitsAll l here false next) (sym (from_there devices i a within is)) (false, next, did, (refl, refl)))

pub admits_end : (devices : List Announce) (i : ℕ) (first here : HostFrontState) → length devices ≤ i → AdmitsOn devices i first here → AdmitsAll devices first true here
admits_end devices i first here all on = on true here (subst (λ (l : List Announce). AdmitsAll l here true here) (sym (none_left devices i all)) (refl, refl))

-- ---- devices that are gone

abbrev pub ForgetsOn : List ℕ → ℕ → HostFrontState → HostFrontState → Type 0
ForgetsOn ids i first here = (new : HostFrontState) → ForgetsAll (drop i ids) here new → ForgetsAll ids first new

pub forgets_next : (ids : List ℕ) (i : ℕ) (first here next : HostFrontState) → i < length ids → Forgets here (get_or ids i 0) next
    → ForgetsOn ids i first here → ForgetsOn ids (i + 1) first next
forgets_next ids i first here next within did on new later =
    on new (subst (λ (l : List ℕ). ForgetsAll l here new) (sym (drop-cons ids i 0 within ∙ ap (λ (n : ℕ). get_or ids i 0 ∷ drop n ids) (sym (add-one i)))) (next, did, later))

pub forgets_end : (ids : List ℕ) (i : ℕ) (first here : HostFrontState) → length ids ≤ i → ForgetsOn ids i first here → ForgetsAll ids first here
forgets_end ids i first here all on = on here (subst (λ (l : List ℕ). ForgetsAll l here here) (sym (none_left ids i all)) refl)
