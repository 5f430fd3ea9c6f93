-- Where a fault of a layout stands: not before the place from which on the layout is read.
use Rattle.std.proofs.Common.{◌≡◌, ◌∙◌, refl, sym, ap, ℕ, zero, suc, ◌+◌, ◌-◌, ◌^◌, ◌<◌, ◌≤◌, Bool, true, false, cond, ltb, List, length, take, Option, Some, Result, Ok, Err, arith}
use Rattle.std.specs.Prelude.{◌==◌, ◌||◌, is_some, nat_le}
use Rattle.rd_base.specs.declared.bad.Bad.{Bad}
use Rattle.rd_base.specs.declared.bad.Why.{Why}
use Rattle.rd_base.specs.declared.bad.Why.TheVariants as why
use Rattle.rd_base.specs.declared.bad.Why.TheVariants.{Short}
use Rattle.rd_base.specs.declared.packet.Packet.{Packet}
use Rattle.rd_base.specs.Counted.{count_to}
use Rattle.rd_base.specs.Header.{component_field, core, header, header_among, packet_among, packets, printing}
use Rattle.rd_base.specs.Position.{Position}
use Rattle.rd_base.specs.Layout.{Layout, Size, two_bytes, size_in_bytes, done, number, any_bytes, bytes_left, test, within, ◌>>=◌, and_then, bad_at, choose, field_of, met, past}
use Rattle.rd_base.specs.Fields.{number16, times}
use Rattle.rd_base.proofs.HeaderLemmas.{named_back}
use Rattle.rd_base.proofs.LayoutLemmas.{field_then}
use Rattle.rd_base.proofs.ResultLemmas.{and_then_ok}
use Rattle.rd_base.proofs.MessageLemmas.{test_ok}

-- where there are enough bytes for a field, the field is what is read
field_is : {A : Type 0} (n : ℕ) (p : Position) (r : Result A Bad) (a : A) → field_of n p r ≡ Ok a → r ≡ Ok a
field_is n p r a = go (ltb (length p.left) n)
  where
    go : (b : Bool) → cond b (Err (bad_at p.at Short)) r ≡ Ok a → r ≡ Ok a
    go true e = cc
    go false e = e

-- what is read from a position leaves a position
end_is : {A : Type 0} (x : A) (p : Position) (a : A) (q : Position) → ◌≡◌ {A = Result (A × Position) Bad} (Ok (x, p)) (Ok (a, q)) → p.at ≡ q.at
end_is {A = A} x p a q e = let same : ◌≡◌ {A = A × Position} (x, p) (a, q) = cc in ap (λ (y : A × Position). y.1.at) same

-- a position doesn't go back
advances : {A : Type 0} (l : Layout A) (p : Position) (a : A) (q : Position) → met l p ≡ Ok (a, q) → p.at ≤ q.at
advances (done x) p a q e = omega (arith, end_is x p a q e)
advances (number s) p a q e = omega (arith, end_is _ (past (size_in_bytes s) p) a q (field_is (size_in_bytes s) p _ (a, q) e))
advances (any_bytes count) p a q e = omega (arith, end_is _ (past count p) a q (field_is count p _ (a, q) e))
advances bytes_left p a q e = omega (arith, end_is (length p.left) p a q e)
advances (test holds back why) p a q e = go holds e
  where
    go : (b : Bool) → cond {A = Result (Unit {0} × Position) Bad} b (Ok (tt, p)) (Err (bad_at (p.at - back) why)) ≡ Ok (a, q) → p.at ≤ q.at
    go true e = omega (arith, end_is tt p a q e)
    go false e = absurd cc
advances (within count l) p a q e =
    let inner : Position = record { at = p.at; left = take count p.left } in
    let is = field_is count p (and_then (met l inner) (λ x. Ok (x.0, past count p))) (a, q) e in
    let both = and_then_ok (met l inner) (λ x. Ok (x.0, past count p)) (a, q) is in
    omega (arith, end_is both.0.0 (past count p) a q both.2)
advances (l >>= next) p a q e =
    let both = and_then_ok (met l p) (λ x. met (next x.0) x.1) (a, q) e in
    omega (arith, advances l p both.0.0 both.0.1 both.1, advances (next both.0.0) both.0.1 a q both.2)

-- after a number so many bytes more were read
pub number_place : (s : Size) (p : Position) (n : ℕ) (q : Position) → met (number s) p ≡ Ok (n, q) → q.at ≡ p.at + size_in_bytes s
number_place s p n q e = sym (end_is _ (past (size_in_bytes s) p) n q (field_is (size_in_bytes s) p _ (n, q) e))

pub bytes_place : (count : ℕ) (p : Position) (xs : List ℕ) (q : Position) → met (any_bytes count) p ≡ Ok (xs, q) → q.at ≡ p.at + count
bytes_place count p xs q e = sym (end_is _ (past count p) xs q (field_is count p _ (xs, q) e))

pub test_place : (holds : Bool) (back : ℕ) (why : Why) (p : Position) (u : Unit {0}) (q : Position) → met (test holds back why) p ≡ Ok (u, q) → q.at ≡ p.at
test_place holds back why p u q e = ap (λ (x : Position). x.at) (test_ok holds back why p (u, q) e).1

pub count_place : (s : Size) (most : ℕ) (p : Position) (n : ℕ) (q : Position) → met (count_to s most) p ≡ Ok (n, q) → q.at ≡ p.at + size_in_bytes s
unfolding count_to
count_place s most p n q e =
    let first = and_then_ok (met (number s) p) _ (n, q) e in
    let second = and_then_ok (met (test (nat_le first.0.0 most) (size_in_bytes s) why.Count) first.0.1) _ (n, q) first.2 in
    omega (arith, number_place s p first.0.0 first.0.1 first.1, test_place _ _ _ first.0.1 second.0.0 second.0.1 second.1, end_is _ second.0.1 n q second.2)

-- the header of any of these packets has four bytes
component_place : (p : Position) (n : ℕ) (q : Position) → met component_field p ≡ Ok (n, q) → q.at ≡ p.at + 2
unfolding component_field
component_place p n q e =
    let first = and_then_ok (met number16 p) _ (n, q) e in
    let second = and_then_ok (met (test (first.0.0 == core || first.0.0 == printing) 2 why.Component) first.0.1) _ (n, q) first.2 in
    omega (arith, number_place two_bytes p first.0.0 first.0.1 first.1, test_place _ _ _ first.0.1 second.0.0 second.0.1 second.1, end_is _ second.0.1 n q second.2)

pub header_place : (wanted : List Packet) (p : Position) (found : Option Packet) (q : Position) → met (header_among wanted) p ≡ Ok (found, q) → q.at ≡ p.at + 4
unfolding header_among
header_place wanted p found q e =
    let first = and_then_ok (met component_field p) _ (found, q) e in
    let second = and_then_ok (met number16 first.0.1) _ (found, q) first.2 in
    let third = and_then_ok (met (test (is_some (packet_among wanted first.0.0 second.0.0)) 2 why.Packet) second.0.1) _ (found, q) second.2 in
    omega (
      arith,
      component_place p first.0.0 first.0.1 first.1,
      number_place two_bytes first.0.1 second.0.0 second.0.1 second.1,
      test_place _ _ _ second.0.1 third.0.0 third.0.1 third.1,
      end_is _ third.0.1 found q third.2,
    )

-- the header of one packet has four bytes
pub own_header_place : (packet : Packet) (p : Position) (u : Unit {0}) (q : Position) → met (header packet) p ≡ Ok (u, q) → q.at ≡ p.at + 4
own_header_place packet p u q e = header_place packets p (Some packet) q (named_back packet p q e)

-- From a position on that stands so many bytes or more after a place, each fault stands at the place or after it.
pub record Onward {A : Type 0} (place more : ℕ) (l : Layout A) : Type 0 where
  pub onward : (p : Position) (bad : Bad) → place + more ≤ p.at → met l p ≡ Err bad → place ≤ bad.at

module _ (place : ℕ) (small : place < 2 ^ 32) where
  short_there : (n : ℕ) (p : Position) {A : Type 0} (r : Result A Bad) (bad : Bad) → place ≤ p.at → ((bad : Bad) → r ≡ Err bad → place ≤ bad.at) → field_of n p r ≡ Err bad → place ≤ bad.at
  short_there n p r bad there after = go (ltb (length p.left) n)
    where
      go : (b : Bool) → cond b (Err (bad_at p.at Short)) r ≡ Err bad → place ≤ bad.at
      go true e = let same : bad_at p.at Short ≡ bad = cc in omega (arith, small, ap (λ (x : Bad). x.at) same)
      go false e = after bad e

  pub onward_done : {A : Type 0} (more : ℕ) (x : A) → Onward place more (done x)
  onward_done more x = record { onward = λ p bad there e. absurd cc }

  -- a number, and what comes after it
  pub onward_number : {B : Type 0} (more : ℕ) (s : Size) (next : ℕ → Layout B) → ((n : ℕ) → Onward place (more + size_in_bytes s) (next n)) → Onward place more (number s >>= next)
  onward_number more s next after = record {
    onward = λ p bad there e.
        short_there (size_in_bytes s) p _ bad (omega arith)
        (λ other d. (after _).onward (past (size_in_bytes s) p) other (omega arith) d)
        (sym (field_then (size_in_bytes s) p _ (λ x. met (next x.0) x.1)) ∙ e);
  }

  pub onward_number_last : (more : ℕ) (s : Size) → Onward place more (number s)
  onward_number_last more s = record { onward = λ p bad there e. short_there (size_in_bytes s) p _ bad (omega arith) (λ other d. absurd cc) e }

  pub onward_bytes_last : (more count : ℕ) → Onward place more (any_bytes count)
  onward_bytes_last more count = record { onward = λ p bad there e. short_there count p _ bad (omega arith) (λ other d. absurd cc) e }

  -- bytes, and what comes after them
  pub onward_bytes : {B : Type 0} (more count : ℕ) (next : List ℕ → Layout B) → ((xs : List ℕ) → Onward place more (next xs)) → Onward place more (any_bytes count >>= next)
  onward_bytes more count next after = record {
    onward = λ p bad there e.
        short_there count p _ bad (omega arith)
        (λ other d. (after _).onward (past count p) other (omega arith) d)
        (sym (field_then count p _ (λ x. met (next x.0) x.1)) ∙ e);
  }

  -- a test of what stands at most so far back, and what comes after it
  pub onward_test : {B : Type 0} (more back : ℕ) (holds : Bool) (why : Why) (next : Unit {0} → Layout B) → back ≤ more → ((u : Unit {0}) → Onward place more (next u)) → Onward place more (test holds back why >>= next)
  onward_test {B = B} more back holds why next near after = record { onward = λ p bad there. go holds p bad there }
    where
      go : (b : Bool) (p : Position) (bad : Bad) → place + more ≤ p.at → ◌≡◌ {A = Result (B × Position) Bad} (and_then {A = Unit {0} × Position} (cond b (Ok (tt, p)) (Err (bad_at (p.at - back) why))) (λ x. met (next x.0) x.1)) (Err bad) → place ≤ bad.at
      go true p bad there e = (after tt).onward p bad there e
      go false p bad there e = let same : bad_at (p.at - back) why ≡ bad = cc in omega (arith, small, near, ap (λ (x : Bad). x.at) same)

  pub onward_choose : {A : Type 0} (more : ℕ) (b : Bool) (l other : Layout A) → Onward place more l → Onward place more other → Onward place more (choose b l other)
  onward_choose more true l other first second = first
  onward_choose more false l other first second = second

  -- within so many bytes
  pub onward_within : {A : Type 0} (more count : ℕ) (l : Layout A) → Onward place more l → Onward place more (within count l)
  onward_within {A = A} more count l inside = record {
    onward = λ p bad there e.
        short_there count p _ bad (omega arith) (λ other d. go p other there (met l (record { at = p.at; left = take count p.left })) refl d) e;
  }
    where
      go : (p : Position) (bad : Bad) → place + more ≤ p.at → (r : Result (A × Position) Bad) → met l (record { at = p.at; left = take count p.left }) ≡ r
          → and_then {B = A × Position} r (λ x. Ok (x.0, past count p)) ≡ Err bad → place ≤ bad.at
      go p bad there (Ok x) is e = absurd cc
      go p bad there (Err other) is e = let same : other ≡ bad = cc in inside.onward (record { at = p.at; left = take count p.left }) bad there (is ∙ ap (λ (d : Bad). Err d) same)

  -- a layout, and what comes after it
  pub onward_then : {A B : Type 0} (more : ℕ) (l : Layout A) (next : A → Layout B) → Onward place more l → ((a : A) → Onward place more (next a)) → Onward place more (l >>= next)
  onward_then {A = A} {B = B} more l next first after = record { onward = λ p bad there. go p bad there (met l p) refl }
    where
      go : (p : Position) (bad : Bad) → place + more ≤ p.at → (r : Result (A × Position) Bad) → met l p ≡ r
          → ◌≡◌ {A = Result (B × Position) Bad} (and_then r (λ x. met (next x.0) x.1)) (Err bad) → place ≤ bad.at
      go p bad there (Ok x) is e = (after x.0).onward x.1 bad (omega (arith, there, advances l p x.0 x.1 is)) e
      go p bad there (Err other) is e = let same : other ≡ bad = cc in first.onward p bad there (is ∙ ap (λ (d : Bad). Err d) same)

  pub onward_times : {A : Type 0} (more count : ℕ) (l : Layout A) → Onward place more l → Onward place more (times count l)
  onward_times more zero l each = onward_done more _
  onward_times more (suc count) l each = onward_then more l _ each (λ first. onward_then more (times count l) _ (onward_times more count l each) (λ others. onward_done more _))
