-- What an end reads without a fault and what it has to send is in order.
use Rattle.std.proofs.Common.{◌≡◌, ◌∙◌, refl, subst, sym, ap, ℕ, true, List, [], ◌∷◌, ◌++◌, Some, None, Option, append_assoc, append-nil, map, inl, inr}
use Rattle.std.specs.Prelude.{◌⊎◌, IsOk, IsSome, bytes_eq}
use Rattle.std.specs.Option.{option_and_then, option_map}
use Rattle.std.proofs.lemmas.Slice.Eq.{bytes_eq-Decides}
use Rattle.rd_hello.specs.declared.end_fault.EndFault.{EndFault}
use Rattle.rd_hello.specs.Moves.{Move, writes}
use Rattle.rd_hello.specs.Rows.{OrderRow}
use Rattle.rd_core.specs.Core.{CoreState}
use Rattle.rd_core.specs.Hearing.{Side, Meaning, wrong, nothing, opens, says, hear, hear_said, hear_unless, messages_of, said}
use Rattle.rd_core.specs.Order.{IsStand, OrderPart, Stand, after_move, after_opened, after_owed, after_read, after_said, after_write, stand_after, written_after}

-- a message is the same as itself
same_bytes : (xs ys : List ℕ) → xs ≡ ys → bytes_eq xs ys ≡ true
same_bytes xs ys is = (bytes_eq-Decides xs ys).1 is

-- ---- messages of a side's own

module _ {S A P : Type 0} (part : OrderPart S A P) (state : S) where
  -- one more is written
  pub written_more : (messages : List (List ℕ)) (message : List ℕ) (p q r : P) → written_after part state messages p ≡ Some q → part.written state message q ≡ Some r
      → written_after part state (messages ++ message ∷ []) p ≡ Some r
  written_more [] message p q r before last =
      let same : p ≡ q = cc in
      ap (λ (o : Option P). option_and_then (λ (x : P). Some x) o) (ap (λ (x : P). part.written state message x) same ∙ last)
  written_more (first ∷ messages) message p q r before last = go (part.written state first p) (λ x e. written_more messages message x q r e last) before
    where
      go : (o : Option P) → ((x : P) → written_after part state messages x ≡ Some q → written_after part state (messages ++ message ∷ []) x ≡ Some r)
          → option_and_then (λ (x : P). written_after part state messages x) o ≡ Some q
          → option_and_then (λ (x : P). written_after part state (messages ++ message ∷ []) x) o ≡ Some r
      go None later e = absurd cc
      go (Some x) later e = later x e

-- ---- where an end stands

module _ {S M A P : Type 0} (side : Side S M A) (part : OrderPart S A P) where
  -- moves, and then others
  pub stand_onward : (s t : Stand S P) (moves others : List Move) → stand_after side part s moves ≡ Some t
      → stand_after side part s (moves ++ others) ≡ stand_after side part t others
  stand_onward s t [] others e = let same : s ≡ t = cc in ap (λ (x : Stand S P). stand_after side part x others) same
  stand_onward s t (move ∷ moves) others e = go (after_move side part s move) (λ x later. stand_onward x t moves others later) e
    where
      go : (o : Option (Stand S P)) → ((x : Stand S P) → stand_after side part x moves ≡ Some t → stand_after side part x (moves ++ others) ≡ stand_after side part t others)
          → option_and_then (λ (x : Stand S P). stand_after side part x moves) o ≡ Some t
          → option_and_then (λ (x : Stand S P). stand_after side part x (moves ++ others)) o ≡ stand_after side part t others
      go None onward e = absurd cc
      go (Some x) onward e = onward x e

  -- ---- what is read

  -- a message is read in an end's state as the end hears it
  pub read_as_heard : (state : S) (s : Stand S P) (bytes : List ℕ) → s.shake ≡ state → after_read side part s bytes ≡ after_said side part s (said side state bytes)
  read_as_heard state s bytes same = ap (λ (x : S). after_said side part s (said side x bytes)) same

  -- ---- what is written

  -- where it stands once a message is written
  pub record Wrote (s : Stand S P) (state : S) (message : List ℕ) (rest : List (List ℕ)) (last : P) : Type 0 where
    pub stand : Stand S P
    pub wrote : after_write side part s message ≡ Some stand
    pub stands : IsStand part stand state rest last

  -- a message of the side's own is written
  own_written : (s : Stand S P) (state : S) (message : List ℕ) (own : List (List ℕ)) (last : P) → s.shake ≡ state → s.owed ≡ []
      → option_and_then (λ (q : P). written_after part state own q) (part.written state message s.own) ≡ Some last → Wrote s state message own last
  own_written s state message own last same none later = go (part.written state message s.own) refl later
    where
      go : (o : Option P) → part.written state message s.own ≡ o → option_and_then (λ (q : P). written_after part state own q) o ≡ Some last → Wrote s state message own last
      go None is e = absurd cc
      go (Some q) is e = record {
        stand = record s { own = q };
        wrote = ap (λ (owed : List (List ℕ)). after_owed side part s message owed) none
            ∙ ap (λ (o : Option P). option_map (λ (own : P). record s { own = own }) o) (ap (λ (x : S). part.written x message s.own) same ∙ is);
        stands = record { shake = same; own = own; waits = ap (λ (owed : List (List ℕ)). owed ++ own) (sym none); written = e };
      }

  -- the first of the messages that wait is written
  pub first_written : (s : Stand S P) (state : S) (message : List ℕ) (rest : List (List ℕ)) (last : P) → IsStand part s state (message ∷ rest) last
      → Wrote s state message rest last
  first_written s state message rest last at = go s.owed at.own refl at.waits at.written
    where
      go : (owed own : List (List ℕ)) → s.owed ≡ owed → message ∷ rest ≡ owed ++ own → written_after part state own s.own ≡ Some last → Wrote s state message rest last
      go [] [] is waits written = absurd cc
      go [] (next ∷ own) is waits written =
          let first : next ≡ message = cc in
          let others : own ≡ rest = cc in
          subst (λ (ms : List (List ℕ)). Wrote s state message ms last) others
          (own_written s state message own last at.shake is
          (ap (λ (m : List ℕ). option_and_then (λ (q : P). written_after part state own q) (part.written state m s.own)) (sym first) ∙ written))
      go (next ∷ owed) own is waits written =
          let first : next ≡ message = cc in
          let others : rest ≡ owed ++ own = cc in
          let eq : bytes_eq next message ≡ true = same_bytes next message first in record {
            stand = record s { owed = owed };
            wrote = ap (λ (x : List (List ℕ)). after_owed side part s message x) is ∙ rw eq refl;
            stands = record { shake = at.shake; own = own; waits = others; written = written };
          }

  -- all that waits may be written
  pub all_written : (s : Stand S P) (state : S) (waiting : List (List ℕ)) (last : P) → IsStand part s state waiting last → IsSome (stand_after side part s (map writes waiting))
  all_written s state [] last at = refl
  all_written s state (message ∷ waiting) last at =
      let next = first_written s state message waiting last at in
      subst (λ (o : Option (Stand S P)). IsSome (option_and_then (λ (t : Stand S P). stand_after side part t (map writes waiting)) o)) (sym next.wrote)
      (all_written next.stand state waiting last next.stands)

  -- where nothing waits a message of the side's own may be written at once
  pub written_past : (s : Stand S P) (state : S) (message : List ℕ) (last after : P) → IsStand part s state [] last → part.written state message last ≡ Some after
      → Wrote s state message [] after
  written_past s state message last after at may = first_written s state message [] after (record {
    shake = at.shake;
    own = at.own ++ message ∷ [];
    waits = ap (λ (ms : List (List ℕ)). ms ++ message ∷ []) at.waits ∙ append_assoc s.owed at.own (message ∷ []);
    written = written_more part state at.own message s.own last after at.written may;
  })

  -- ---- what is to be sent from now on

  -- a message of the side's own is to be sent
  pub own_waits : (s : Stand S P) (state : S) (waiting : List (List ℕ)) (message : List ℕ) (last after : P) → IsStand part s state waiting last
      → part.written state message last ≡ Some after
      → IsStand part s state (waiting ++ message ∷ []) after
  own_waits s state waiting message last after at may = record {
    shake = at.shake;
    own = at.own ++ message ∷ [];
    waits = ap (λ (ms : List (List ℕ)). ms ++ message ∷ []) at.waits ∙ append_assoc s.owed at.own (message ∷ []);
    written = written_more part state at.own message s.own last after at.written may;
  }

  -- A row of the opening keeps what waits in order: what a message of the side's own comes to, it comes to after the row as well, and where one may wait the row writes nothing.
  pub record KeepsOwn (state : S) (row : OrderRow S) : Type 0 where
    pub later : (own : List (List ℕ)) (p q : P) → written_after part state own p ≡ Some q
        → written_after part row.next own (part.opened state row.next p) ≡ Some (part.opened state row.next q)
    pub quiet : (own : List (List ℕ)) (p q : P) → written_after part state own p ≡ Some q → (own ≡ []) ⊎ (messages_of row ≡ [])

  pub row_waits : (s : Stand S P) (state : S) (row : OrderRow S) (waiting : List (List ℕ)) (last : P) → KeepsOwn state row → IsStand part s state waiting last
      → IsStand part (after_opened side part s row) row.next (waiting ++ messages_of row) (part.opened state row.next last)
  row_waits s state row waiting last keeps at = record {
    shake = refl;
    own = at.own;
    waits = ap (λ (ms : List (List ℕ)). ms ++ messages_of row) at.waits ∙ go (keeps.quiet at.own s.own last at.written);
    written = ap (λ (x : S). written_after part row.next at.own (part.opened x row.next s.own)) at.shake ∙ keeps.later at.own s.own last at.written;
  }
    where
      go : (at.own ≡ []) ⊎ (messages_of row ≡ []) → (s.owed ++ at.own) ++ messages_of row ≡ (s.owed ++ messages_of row) ++ at.own
      go (inl none) = rw none (ap (λ (ms : List (List ℕ)). ms ++ messages_of row) (append-nil s.owed) ∙ sym (append-nil (s.owed ++ messages_of row)))
      go (inr none) = rw none (append-nil (s.owed ++ at.own) ∙ ap (λ (ms : List (List ℕ)). ms ++ at.own) (sym (append-nil s.owed)))
