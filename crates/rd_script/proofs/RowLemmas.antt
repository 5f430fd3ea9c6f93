-- Rows: what is met is spelled, and what is spelled is met, so words have exactly one of a value and a first wrong word.
use Rattle.std.proofs.Common.{◌≡◌, refl, sym, ap, ◌∙◌, subst, ℕ, true, false, List, [], ◌∷◌, ◌++◌, append_assoc, Some, None, Result, Ok, Err, ◌⊎◌, inl, inr}
use Rattle.std.specs.Result.{result_unwrap_or}
use Rattle.rd_base.specs.Layout.{and_then}
use Rattle.rd_script.specs.declared.why.LineWhy.{LineWhy}
use Rattle.rd_script.specs.Row.{Row, done, word, last, test, given, ◌>>=◌, met_words}
use Rattle.rd_script.specs.Spelled.{IsSpelledByWords, SpellsByWords, FirstWrong, IsDecided}

-- what was met of some words
record Took {A : Type 0} (l : Row A) (ws : List (List ℕ)) (a : A) (rest : List (List ℕ)) : Type 0 where
  first : List (List ℕ)
  parts : ws ≡ first ++ rest
  spelled : IsSpelledByWords l a first rest

-- a success is of a success before it
pub then_ok : {A B : Type 0} (r : Result A LineWhy) (f : A → Result B LineWhy) (y : B) → and_then r f ≡ Ok y → (x : A) × (r ≡ Ok x) × (f x ≡ Ok y)
then_ok (Ok x) f y e = (x, refl, e)
then_ok (Err cause) f y e = absurd cc

pub ok_same : {A : Type 0} (x y : A) → ◌≡◌ {A = Result A LineWhy} (Ok x) (Ok y) → x ≡ y
ok_same {A = A} x y e = ap (λ (r : Result A LineWhy). result_unwrap_or r x) e

-- what is met is spelled by the first of the words
found : {A : Type 0} (l : Row A) (ws : List (List ℕ)) (a : A) (rest : List (List ℕ)) → met_words l ws ≡ Ok (a, rest) → Took l ws a rest
found (done {A = A} x) ws a rest e =
    subst (λ (y : A × List (List ℕ)). Took (done x) ws y.0 y.1) (ok_same (x, ws) (a, rest) e) (record { first = []; parts = refl; spelled = (refl, refl) })
found word [] w rest e = absurd cc
found word (v ∷ vs) w rest e =
    subst (λ (y : List ℕ × List (List ℕ)). Took word (v ∷ vs) y.0 y.1) (ok_same (v, vs) (w, rest) e) (record { first = v ∷ []; parts = refl; spelled = refl })
found last [] u rest e =
    subst (λ (y : Unit {0} × List (List ℕ)). Took last [] y.0 y.1) (ok_same (tt, []) (u, rest) e) (record { first = []; parts = refl; spelled = (refl, refl) })
found last (v ∷ vs) u rest e = absurd cc
found (test true cause) ws u rest e =
    subst (λ (y : Unit {0} × List (List ℕ)). Took (test true cause) ws y.0 y.1) (ok_same (tt, ws) (u, rest) e) (record { first = []; parts = refl; spelled = (refl, refl) })
found (test false cause) ws u rest e = absurd cc
found (given {A = A} None cause) ws a rest e = absurd cc
found (given {A = A} (Some x) cause) ws a rest e =
    subst (λ (y : A × List (List ℕ)). Took (given (Some x) cause) ws y.0 y.1) (ok_same (x, ws) (a, rest) e) (record { first = []; parts = refl; spelled = (refl, refl) })
found (◌>>=◌ {A = A} l next) ws b rest e =
    let a = then_ok (met_words l ws) (λ x. met_words (next x.0) x.1) (b, rest) e in
    let t = found l ws a.0.0 a.0.1 a.1 in
    let u = found (next a.0.0) a.0.1 b rest a.2 in
    record {
      first = t.first ++ u.first;
      parts = t.parts ∙ ap (λ (vs : List (List ℕ)). t.first ++ vs) u.parts ∙ sym (append_assoc t.first u.first rest);
      spelled = (a.0.0, t.first, u.first, refl, subst (λ (vs : List (List ℕ)). IsSpelledByWords l a.0.0 t.first vs) u.parts t.spelled, u.spelled);
    }

-- what is spelled is met
again : {A : Type 0} (l : Row A) (a : A) (first after : List (List ℕ)) → IsSpelledByWords l a first after → met_words l (first ++ after) ≡ Ok (a, after)
again (done x) a first after s = rw (s.1, s.0) refl
again word w first after s = rw s refl
again last u first after s = rw (s.0, s.1) refl
again (test holds cause) u first after s = rw (s.1, s.0) refl
again (given o cause) a first after s = rw (s.1, s.0) refl
again (◌>>=◌ l next) b first after (a, front, back, parts, one, other) =
    ap (λ (vs : List (List ℕ)). and_then (met_words l (vs ++ after)) (λ x. met_words (next x.0) x.1)) parts
    ∙ ap (λ (vs : List (List ℕ)). and_then (met_words l vs) (λ x. met_words (next x.0) x.1)) (append_assoc front back after)
    ∙ rw (again l a front (back ++ after) one) (again (next a) b back after other)

-- words that begin with a spelling are met
spells_met : {A : Type 0} (l : Row A) (a : A) (ws : List (List ℕ)) → SpellsByWords l a ws → (rest : List (List ℕ)) × (met_words l ws ≡ Ok (a, rest))
spells_met l a ws (first, after, parts, spelled) = (after, ap (met_words l) parts ∙ again l a first after spelled)

same_value : {A : Type 0} (r : Result (A × List (List ℕ)) LineWhy) (a b : A) (m n : List (List ℕ)) → r ≡ Ok (a, m) → r ≡ Ok (b, n) → a ≡ b
same_value {A = A} r a b m n e f = ap (λ (y : A × List (List ℕ)). y.0) (ok_same (a, m) (b, n) (sym e ∙ f))

-- every row is decided at all words
pub row_is_decided : {A : Type 0} (l : Row A) (ws : List (List ℕ)) → IsDecided l ws
row_is_decided {A = A} l ws = record {
  one_of = of (met_words l ws) refl;
  not_both = λ a cause spelled wrong. let m = spells_met l a ws spelled in cc (m.1, wrong);
  one_value = λ a b one other. let m = spells_met l a ws one in let n = spells_met l b ws other in same_value (met_words l ws) a b m.0 n.0 m.1 n.1;
  one_reason = λ cause other one two. cc (one, two);
}
  where
    of : (r : Result (A × List (List ℕ)) LineWhy) → met_words l ws ≡ r → ((a : A) × SpellsByWords l a ws) ⊎ ((cause : LineWhy) × FirstWrong l ws cause)
    of (Ok x) e = let t = found l ws x.0 x.1 e in inl (x.0, (t.first, x.1, t.parts, t.spelled))
    of (Err cause) e = inr (cause, e)
