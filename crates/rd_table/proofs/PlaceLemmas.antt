-- Where the calls of one pass stand among all calls.
use Rattle.std.proofs.Common.{◌≡◌, ◌∙◌, refl, sym, ap, subst, ℕ, ◌==◌, Bool, true, false, cond, List, [], ◌∷◌, ◌++◌, append_assoc, length, eq-eqb}
use mathlib.Core.List.{IsPrefix}
use Rattle.rd_turn.specs.History.{calls_of}
use Rattle.rd_turn.proofs.HistoryLemmas.{calls_of-at, calls_of_none, count_of_after, count_of_is}
use Rattle.rd_table.proofs.StepLemmas.{E}

not_empty : (xs ys : List E) (e : E) → xs ++ e ∷ ys ≡ [] → ⊥
not_empty [] ys e is = cc is
not_empty (x ∷ xs) ys e is = cc is

-- a call more of others
others_first : (pass : ℕ) (x : E) (xs : List E) → calls_of pass (x ∷ xs) ≡ [] → calls_of pass xs ≡ []
others_first pass x xs none = go (x.by == pass) none
  where
    go : (b : Bool) → cond b (x ∷ calls_of pass xs) (calls_of pass xs) ≡ [] → calls_of pass xs ≡ []
    go true is = absurd (cc is)
    go false is = is

own_first : (x : E) (xs : List E) → calls_of x.by (x ∷ xs) ≡ [] → ⊥
own_first x xs none =
    let here : calls_of x.by (x ∷ xs) ≡ x ∷ calls_of x.by xs = ap (λ (b : Bool). cond b (x ∷ calls_of x.by xs) (calls_of x.by xs)) (eq-eqb x.by x.by refl) in
    cc (sym here ∙ none)

behind_these : (seen more before later : List E) (e : E) → calls_of e.by seen ≡ [] → seen ++ more ≡ before ++ e ∷ later → (rest : List E) × (seen ++ rest ≡ before)
behind_these [] more before later e none is = (before, refl)
behind_these (x ∷ seen) more [] later e none is =
    let heads : e ≡ x = cc is in
    absurd (own_first x seen (subst (λ (y : E). calls_of y.by (x ∷ seen) ≡ []) heads none))
behind_these (x ∷ seen) more (b ∷ before) later e none is =
    let heads : x ≡ b = cc is in
    let rest = behind_these seen more before later e (others_first e.by x seen none) (cc is) in
    (rest.0, ap (λ (y : E). y ∷ seen ++ rest.0) heads ∙ ap (λ (l : List E). b ∷ l) rest.1)

within_these : (seen more before later : List E) (e : E) → calls_of e.by more ≡ [] → seen ++ more ≡ before ++ e ∷ later → (rest : List E) × (before ++ e ∷ rest ≡ seen)
within_these [] more before later e none is = absurd (not_empty (calls_of e.by before) (calls_of e.by later) e (sym (calls_of-at more before later e is) ∙ none))
within_these (x ∷ seen) more [] later e none is = (seen, cc is)
within_these (x ∷ seen) more (b ∷ before) later e none is =
    let heads : b ≡ x = cc is in
    let rest = within_these seen more before later e none (cc is) in
    (rest.0, ap (λ (y : E). y ∷ before ++ e ∷ rest.0) heads ∙ ap (λ (l : List E). x ∷ l) rest.1)

pub stands_behind : (entries seen before later : List E) (e : E) → IsPrefix seen entries → calls_of e.by seen ≡ [] → entries ≡ before ++ e ∷ later → IsPrefix seen before
stands_behind entries seen before later e prefix none is = behind_these seen prefix.0 before later e none (prefix.1 ∙ is)

pub stands_within : (entries seen before later : List E) (e : E) → IsPrefix seen entries → calls_of e.by seen ≡ calls_of e.by entries → entries ≡ before ++ e ∷ later → IsPrefix (before ++ e ∷ []) seen
stands_within entries seen before later e prefix all is =
    let n = length (calls_of e.by seen) in
    let none : calls_of e.by prefix.0 ≡ [] = calls_of_none e.by prefix.0 (count_of_after e.by n seen prefix.0 entries (sym prefix.1) (sym (count_of_is e.by seen)) (sym (count_of_is e.by entries) ∙ ap length (sym all))) in
    let rest = within_these seen prefix.0 before later e none (prefix.1 ∙ is) in
    (rest.0, append_assoc before (e ∷ []) rest.0 ∙ rest.1)
