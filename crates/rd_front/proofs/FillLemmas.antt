-- Messages for the writer, one after the other.
use Rattle.std.proofs.Common.{◌≡◌, refl, sym, subst, ℕ, suc, ◌-◌, ◌<◌, ◌≤◌, List, [], ◌∷◌, ◌++◌, length, length-append, append_assoc, append-nil, arith}
use Rattle.rd_front.specs.declared.calls.Rest.{Rest}
use Rattle.rd_front.specs.declared.calls.Rest.TheVariants as rest
use Rattle.rd_front.specs.declared.next.Got.TheVariants as got
use Rattle.rd_front.specs.Front.{Fills, GivesNext}
use Rattle.rd_front.specs.State.{FrontState}

-- what comes after these messages comes to what all come to
abbrev pub FillsOn : ℕ → ℕ → FrontState → FrontState → List (List ℕ) → Type 0
FillsOn place most first here before =
    (later : List (List ℕ)) (left : Rest) (new : FrontState) → Fills (most - length before) here place later left new → Fills most first place (before ++ later) left new

pub fills_more : (place most : ℕ) (first here next : FrontState) (before : List (List ℕ)) (message : List ℕ) → length before < most
    → GivesNext here place (got.Message message) next → FillsOn place most first here before → FillsOn place most first next (before ++ message ∷ [])
fills_more place most first here next before message more gives on later left new rest_of =
    let longer = length-append before (message ∷ []) in
    let one_less : suc (most - length (before ++ message ∷ [])) ≡ most - length before = omega (arith, longer) in
    subst (λ (ms : List (List ℕ)). Fills most first place ms left new) (sym (append_assoc before (message ∷ []) later))
    (on (message ∷ later) left new (subst (λ (n : ℕ). Fills n here place (message ∷ later) left new) one_less (got.Message message, next, gives, (later, refl, rest_of))))

pub fills_nothing : (place most : ℕ) (first here next : FrontState) (before : List (List ℕ)) → length before < most
    → GivesNext here place got.Nothing next → FillsOn place most first here before → Fills most first place before rest.Nothing next
fills_nothing place most first here next before more gives on =
    let one_less : suc (most - length before - 1) ≡ most - length before = omega arith in
    subst (λ (ms : List (List ℕ)). Fills most first place ms rest.Nothing next) (append-nil before)
    (on [] rest.Nothing next (subst (λ (n : ℕ). Fills n here place [] rest.Nothing next) one_less (got.Nothing, next, gives, (refl, refl, refl))))

pub fills_wanting : (place most : ℕ) (first here next : FrontState) (before : List (List ℕ)) → length before < most
    → GivesNext here place got.Memory next → FillsOn place most first here before → Fills most first place before rest.Memory next
fills_wanting place most first here next before more gives on =
    let one_less : suc (most - length before - 1) ≡ most - length before = omega arith in
    subst (λ (ms : List (List ℕ)). Fills most first place ms rest.Memory next) (append-nil before)
    (on [] rest.Memory next (subst (λ (n : ℕ). Fills n here place [] rest.Memory next) one_less (got.Memory, next, gives, (refl, refl, refl))))

pub fills_all : (place most : ℕ) (first here : FrontState) (before : List (List ℕ)) → most ≤ length before
    → FillsOn place most first here before → Fills most first place before rest.More here
fills_all place most first here before all on =
    let none : 0 ≡ most - length before = omega arith in
    subst (λ (ms : List (List ℕ)). Fills most first place ms rest.More here) (append-nil before)
    (on [] rest.More here (subst (λ (n : ℕ). Fills n here place [] rest.More here) none (refl, refl, refl)))
