-- Messages for the writer, one after the other.
use Rattle.std.proofs.Common.{◌≡◌, refl, sym, subst, ℕ, suc, ◌-◌, ◌<◌, ◌≤◌, List, [], ◌∷◌, ◌++◌, length, Some, None, length-append, append_assoc, append-nil, arith}
use Rattle.rd_host_front.specs.declared.calls.Stop.{Stop}
use Rattle.rd_host_front.specs.declared.calls.Stop.TheVariants as stop
use Rattle.rd_host_front.specs.HostFront.{FillsRoom, HandsOne}
use Rattle.rd_host_front.specs.State.{HostFrontState}

-- what comes after these messages comes to what all come to
abbrev pub FillsOn : ℕ → HostFrontState → HostFrontState → List (List ℕ) → Type 0
FillsOn most first here before =
    (later : List (List ℕ)) (why : Stop) (new : HostFrontState) → FillsRoom (most - length before) here later why new → FillsRoom most first (before ++ later) why new

pub fills_more : (most : ℕ) (first here next : HostFrontState) (before : List (List ℕ)) (message : List ℕ) → length before < most
    → HandsOne here (Some message) next → FillsOn most first here before → FillsOn most first next (before ++ message ∷ [])
fills_more most first here next before message more gives on later why new rest_of =
    let longer = length-append before (message ∷ []) in
    let one_less : suc (most - length (before ++ message ∷ [])) ≡ most - length before = omega (arith, longer) in
    subst (λ (ms : List (List ℕ)). FillsRoom most first ms why new) (sym (append_assoc before (message ∷ []) later))
    (on (message ∷ later) why new (subst (λ (n : ℕ). FillsRoom n here (message ∷ later) why new) one_less (Some message, next, gives, (later, refl, rest_of))))

pub fills_empty : (most : ℕ) (first here next : HostFrontState) (before : List (List ℕ)) → length before < most
    → HandsOne here None next → FillsOn most first here before → FillsRoom most first before stop.Empty next
fills_empty most first here next before more gives on =
    let one_less : suc (most - length before - 1) ≡ most - length before = omega arith in
    subst (λ (ms : List (List ℕ)). FillsRoom most first ms stop.Empty next) (append-nil before)
    (on [] stop.Empty next (subst (λ (n : ℕ). FillsRoom n here [] stop.Empty next) one_less (None, next, gives, (refl, refl, refl))))

pub fills_all : (most : ℕ) (first here : HostFrontState) (before : List (List ℕ)) → most ≤ length before
    → FillsOn most first here before → FillsRoom most first before stop.Full here
fills_all most first here before all on =
    let none : 0 ≡ most - length before = omega arith in
    subst (λ (ms : List (List ℕ)). FillsRoom most first ms stop.Full here) (append-nil before)
    (on [] stop.Full here (subst (λ (n : ℕ). FillsRoom n here [] stop.Full here) none (refl, refl, refl)))
