-- What holds of the messages of the opening and of a side's own holds of all that the side writes in order.
use Rattle.std.proofs.Common.{◌≡◌, refl, subst, ℕ, Bool, true, false, List, [], ◌∷◌, ◌++◌, reverse, Some, None, Option}
use Rattle.std.specs.Prelude.{IsSome, bytes_eq, if◌then◌else◌}
use Rattle.std.specs.List.{AllByRecursion, cons_option}
use Rattle.std.specs.Option.{option_and_then, option_map}
use Rattle.std.proofs.lemmas.List.{reverse-append}
use Rattle.std.proofs.lemmas.Slice.Eq.{bytes_eq-Decides}
use Rattle.rd_core.specs.Hearing.{Meaning, Side, messages_of, nothing, opens, said, says, wrong}
use Rattle.rd_core.specs.Order.{OrderPart, Stand, after_opened, after_owed, after_said, stand_after}
use Rattle.rd_core.proofs.KeptLemmas.{IsTabled, said_tabled}
use Rattle.rd_hello.specs.declared.hello.Hello.{Hello}
use Rattle.rd_hello.specs.Moves.{Move, reads, writes}
use Rattle.rd_hello.specs.Rows.{OrderRow}
use Rattle.rd_deeds.proofs.Lists.{all_more}

-- it holds of what is written by a move
abbrev pub IsWrittenWell : (List ℕ → Type 0) → Move → Type 0
IsWrittenWell Good (writes m) = Good m
IsWrittenWell Good (reads m) = Unit {0}

module _ {S M A P : Type 0} (side : Side S M A) (part : OrderPart S A P) (Good : List ℕ → Type 0)
    (rows : (state : S) (h : Hello) (row : OrderRow S) → side.row state h ≡ Some row → AllByRecursion Good (messages_of row))
    (own : (state : S) (m : List ℕ) (p q : P) → part.written state m p ≡ Some q → Good m) where
  -- what comes of the other moves
  abbrev Later : List Move → Type 0
  Later moves = (t : Stand S P) → AllByRecursion Good t.owed → IsSome (stand_after side part t moves) → AllByRecursion (IsWrittenWell Good) moves

  read_well : (s : Stand S P) (moves : List Move) → AllByRecursion Good s.owed → Later moves → (x : Meaning S A) → IsTabled side s.shake x
      → IsSome (option_and_then (λ t. stand_after side part t moves) (after_said side part s x)) → AllByRecursion (IsWrittenWell Good) moves
  read_well s moves owed later (wrong fault) tabled is = absurd (cc is)
  read_well s moves owed later nothing tabled is = later s owed is
  read_well s moves owed later (opens row) (h, e) is = later (after_opened side part s row) (all_more Good s.owed (messages_of row) owed (rows s.shake h row e)) is
  read_well s moves owed later (says a) tabled is = later (record s { own = part.read a s.own }) owed is

  own_well : (s : Stand S P) (m : List ℕ) (moves : List Move) → AllByRecursion Good s.owed → Later moves → (o : Option P) → part.written s.shake m s.own ≡ o
      → IsSome (option_and_then (λ t. stand_after side part t moves) (option_map (λ p. record s { own = p }) o)) → Good m × AllByRecursion (IsWrittenWell Good) moves
  own_well s m moves owed later None e is = absurd (cc is)
  own_well s m moves owed later (Some p) e is = (own s.shake m s.own p e, later (record s { own = p }) owed is)

  owed_well : (s : Stand S P) (m : List ℕ) (moves : List Move) → AllByRecursion Good s.owed → Later moves → (ms : List (List ℕ)) → AllByRecursion Good ms
      → IsSome (option_and_then (λ t. stand_after side part t moves) (after_owed side part s m ms)) → Good m × AllByRecursion (IsWrittenWell Good) moves
  owed_well s m moves owed later [] all is = own_well s m moves owed later (part.written s.shake m s.own) refl is
  owed_well s m moves owed later (message ∷ others) all is = by (bytes_eq message m) refl is
    where
      by : (b : Bool) → bytes_eq message m ≡ b → IsSome (option_and_then (λ t. stand_after side part t moves) (if b then Some (record s { owed = others }) else None))
          → Good m × AllByRecursion (IsWrittenWell Good) moves
      by true same is = (subst Good ((bytes_eq-Decides message m).0 same) all.0, later (record s { owed = others }) all.1 is)
      by false same is = absurd (cc is)

  pub written_well : (s : Stand S P) (moves : List Move) → AllByRecursion Good s.owed → IsSome (stand_after side part s moves) → AllByRecursion (IsWrittenWell Good) moves
  written_well s [] owed is = tt
  written_well s (reads m ∷ moves) owed is =
      (tt, read_well s moves owed (λ t more some. written_well t moves more some) (said side s.shake m) (said_tabled side s.shake m) is)
  written_well s (writes m ∷ moves) owed is = owed_well s m moves owed (λ t more some. written_well t moves more some) s.owed owed is

-- ---- lists

-- what holds of all of two lists holds of each
parts : {A : Type 0} (P : A → Type 0) (xs ys : List A) → AllByRecursion P (xs ++ ys) → AllByRecursion P xs × AllByRecursion P ys
parts P [] ys all = (tt, all)
parts P (x ∷ xs) ys all = let others = parts P xs ys all.1 in ((all.0, others.0), others.1)

pub all_reversed : {A : Type 0} (P : A → Type 0) (xs : List A) → AllByRecursion P (reverse xs) → AllByRecursion P xs
all_reversed P [] all = tt
all_reversed P (x ∷ xs) all =
    let both = parts P (reverse xs) (x ∷ []) (subst (AllByRecursion P) (reverse-append (x ∷ []) xs) all) in
    (both.1.0, all_reversed P xs both.0)

-- what holds of all holds of those after the first
pub all_later : {A : Type 0} (P : A → Type 0) (o : Option A) (xs : List A) → AllByRecursion P (cons_option o xs) → AllByRecursion P xs
all_later P None xs all = all
all_later P (Some x) xs all = all.1
