-- What a history leads the adder to.
use Rattle.std.proofs.Common.{◌≡◌, ℕ, zero, suc, ◌+◌, ◌%◌, ◌<◌, ◌≤◌, eqb, Bool, true, false, cond, List, [], ◌∷◌, All, ap, refl, arith}
use Rattle.std.proofs.lemmas.List.Elements.{All-head, All-tail}
use Rattle.rd_turn.specs.declared.object.Entry.{Entry}
use Rattle.rd_turn.specs.History.{Leads, entry, calls_of}
use Rattle.rd_turn.specs.Rule.{total}
use Rattle.rd_turn_tests.specs.declared.adder.Adder.{Adder}
use Rattle.rd_turn_tests.specs.Calls.{AddsOnce, adder}

abbrev E : Type 0
E = Entry ℕ ℕ

-- the adder's sum is what was added to it, and its count that of the calls
sum_led : (a : Adder) (es : List E) (b : Adder) → a.sum < 18446744073709551616 → Leads AddsOnce a es b → b.sum ≡ (a.sum + total (λ (e : E). e.call) es) % 18446744073709551616
sum_led a [] b less l = let same : a.sum ≡ b.sum = ap (λ (x : Adder). x.sum) l in omega arith
sum_led a (e ∷ es) b less l = let s = l.1.0 in let t = sum_led l.0 es b (omega arith) l.2 in omega arith

calls_led : (a : Adder) (es : List E) (b : Adder) → a.calls < 18446744073709551616 → Leads AddsOnce a es b → b.calls ≡ (a.calls + total (λ (e : E). 1) es) % 18446744073709551616
calls_led a [] b less l = let same : a.calls ≡ b.calls = ap (λ (x : Adder). x.calls) l in omega arith
calls_led a (e ∷ es) b less l = let s = l.1.1 in let t = calls_led l.0 es b (omega arith) l.2 in omega arith

total_if : (f : E → ℕ) (b : Bool) (x : E) (l : List E) → total f (cond b (x ∷ l) l) ≡ cond b (f x) 0 + total f l
total_if f true x l = refl
total_if f false x l = omega arith

-- what the calls of two passes are in all
pub total_of_two : (f : E → ℕ) (es : List E) → All (λ e. e.by ≤ 1) es → total f es ≡ total f (calls_of 0 es) + total f (calls_of 1 es)
total_of_two f [] h = refl
total_of_two f (e ∷ es) h =
    let t = total_of_two f es (All-tail (λ (x : E). x.by ≤ 1) e es h) in
    let here : e.by ≤ 1 = All-head (λ (x : E). x.by ≤ 1) e es h in
    let zero_part = total_if f (eqb e.by 0) e (calls_of 0 es) in
    let one_part = total_if f (eqb e.by 1) e (calls_of 1 es) in
    parts e.by _ _ _ _ (f e) _ here zero_part one_part t
  where
    parts : (n a b c d x y : ℕ) → n ≤ 1 → a ≡ cond (eqb n 0) x 0 + b → c ≡ cond (eqb n 1) x 0 + d → y ≡ b + d → x + y ≡ a + c
    parts zero a b c d x y le p q t = omega arith
    parts (suc zero) a b c d x y le p q t = omega arith
    parts (suc (suc n)) a b c d x y le p q t = absurd (omega arith)

-- the adder after two calls of one pass and one of another, in whatever order
pub added_by_two : (es : List E) (last : Adder) (x y z p q r : ℕ) → Leads AddsOnce (adder 0 0) es last → All (λ e. e.by ≤ 1) es
    → calls_of 0 es ≡ entry 0 x p ∷ entry 0 y q ∷ [] → calls_of 1 es ≡ entry 1 z r ∷ [] → (last.sum ≡ (x + y + z) % 18446744073709551616) × (last.calls ≡ 3)
added_by_two es last x y z p q r leads numbers own other =
    let s = sum_led (adder 0 0) es last (omega arith) leads in
    let c = calls_led (adder 0 0) es last (omega arith) leads in
    let s₂ = total_of_two (λ (e : E). e.call) es numbers in
    let c₂ = total_of_two (λ (e : E). 1) es numbers in
    let s₀ : total (λ (e : E). e.call) (calls_of 0 es) ≡ x + (y + 0) = ap (total (λ (e : E). e.call)) own in
    let s₁ : total (λ (e : E). e.call) (calls_of 1 es) ≡ z + 0 = ap (total (λ (e : E). e.call)) other in
    let c₀ : total (λ (e : E). 1) (calls_of 0 es) ≡ 2 = ap (total (λ (e : E). 1)) own in
    let c₁ : total (λ (e : E). 1) (calls_of 1 es) ≡ 1 = ap (total (λ (e : E). 1)) other in
    (omega arith, omega arith)
