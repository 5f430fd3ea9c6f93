-- Where an end stands after messages that are written, and that what is heard changes nothing of what may be written.
use Rattle.std.proofs.Common.{◌≡◌, ◌∙◌, refl, sym, ap, ℕ, List, [], ◌∷◌, Some, None, Option, inl, inr}
use Rattle.std.specs.Prelude.{◌⊎◌, map, bytes_eq}
use Rattle.std.specs.Option.{option_and_then, option_map}
use Rattle.std.proofs.lemmas.Bool.{cases_Bool}
use Rattle.std.proofs.lemmas.Option.{option_and_then_some}
use Rattle.std.proofs.lemmas.Slice.Eq.{bytes_eq-Decides}
use Rattle.rd_hello.specs.Moves.{writes}
use Rattle.rd_core.specs.Hearing.{Side}
use Rattle.rd_core.specs.Order.{OrderPart, Stand, after_owed, after_write, stand_after}

module _ {S M A P : Type 0} (side : Side S M A) (part : OrderPart S A P) where
  -- ---- messages that are written

  -- the next message of the opening may be written
  pub next_owed : (state : S) (own : P) (message : List ℕ) (others : List (List ℕ)) → after_write side part (record { shake = state; owed = message ∷ others; own = own }) message
      ≡ Some (record { shake = state; owed = others; own = own })
  next_owed state own message others = rw ((bytes_eq-Decides message message).1 refl) refl

  -- all that are owed may be written
  pub all_owed : (state : S) (own : P) (messages : List (List ℕ)) → stand_after side part (record { shake = state; owed = messages; own = own }) (map writes messages)
      ≡ Some (record { shake = state; owed = []; own = own })
  all_owed state own [] = refl
  all_owed state own (message ∷ others) =
      ap (λ o. option_and_then (λ t. stand_after side part t (map writes others)) o) (next_owed state own message others) ∙ all_owed state own others

  -- A message is written that is the next of the opening's, or where none is owed one of the side's own.
  owed_or_own : (s t : Stand S P) (message : List ℕ) (owed : List (List ℕ)) → after_owed side part s message owed ≡ Some t
      → ((others : List (List ℕ)) × (owed ≡ message ∷ others) × (t ≡ record s { owed = others }))
      ⊎ ((own : P) × (owed ≡ []) × (part.written s.shake message s.own ≡ Some own) × (t ≡ record s { own = own }))
  owed_or_own s t message [] e = go (part.written s.shake message s.own) refl e
    where
      go : (o : Option P) → part.written s.shake message s.own ≡ o → option_map (λ own. record s { own = own }) o ≡ Some t
          → ((others : List (List ℕ)) × (◌≡◌ {A = List (List ℕ)} [] (message ∷ others)) × (t ≡ record s { owed = others }))
          ⊎ ((own : P) × (◌≡◌ {A = List (List ℕ)} [] []) × (part.written s.shake message s.own ≡ Some own) × (t ≡ record s { own = own }))
      go None is e = absurd cc
      go (Some own) is e = let same : record s { own = own } ≡ t = cc in inr (own, refl, is, sym same)
  owed_or_own s t message (first ∷ others) e = elim (cases_Bool (bytes_eq first message)) [
    | inl is ↦
        let named : first ≡ message = (bytes_eq-Decides first message).0 is in
        let there = rw is at e in
        let same : record s { owed = others } ≡ t = cc in
        inl (others, ap (λ m. m ∷ others) named, sym same)
    | inr is ↦ let none = rw is at e in absurd cc
  ]

  -- writing leaves the state of the opening
  pub written_state : (s t : Stand S P) (message : List ℕ) → after_write side part s message ≡ Some t → t.shake ≡ s.shake
  written_state s t message e = go (owed_or_own s t message s.owed e)
    where
      go : ((others : List (List ℕ)) × (s.owed ≡ message ∷ others) × (t ≡ record s { owed = others }))
          ⊎ ((own : P) × (s.owed ≡ []) × (part.written s.shake message s.own ≡ Some own) × (t ≡ record s { own = own })) → t.shake ≡ s.shake
      go (inl (others, owed, is)) = ap (λ (u : Stand S P). u.shake) is
      go (inr (own, none, may, is)) = ap (λ (u : Stand S P). u.shake) is

  -- where the side writes nothing of its own, what is written up to the last that is owed is all that is owed
  pub only_owed : (s t : Stand S P) (messages : List (List ℕ)) → ((message : List ℕ) (own : P) → part.written s.shake message own ≡ None)
      → stand_after side part s (map writes messages) ≡ Some t → t.owed ≡ [] → (s.owed ≡ messages) × (s.own ≡ t.own)
  only_owed s t [] silent e done = let same : s ≡ t = cc in (ap (λ (u : Stand S P). u.owed) same ∙ done, ap (λ (u : Stand S P). u.own) same)
  only_owed s t (message ∷ messages) silent e done =
      option_and_then_some (λ u. stand_after side part u (map writes messages)) (after_write side part s message) t e λ u first later.
      go (λ others there. only_owed (record s { owed = others }) t messages silent there done) u (owed_or_own s u message s.owed first) later
    where
      go : ((others : List (List ℕ)) → stand_after side part (record s { owed = others }) (map writes messages) ≡ Some t → (others ≡ messages) × (s.own ≡ t.own))
          → (u : Stand S P)
          → ((others : List (List ℕ)) × (s.owed ≡ message ∷ others) × (u ≡ record s { owed = others }))
          ⊎ ((own : P) × (s.owed ≡ []) × (part.written s.shake message s.own ≡ Some own) × (u ≡ record s { own = own }))
          → stand_after side part u (map writes messages) ≡ Some t → (s.owed ≡ message ∷ messages) × (s.own ≡ t.own)
      go again u (inl (others, owed, is)) later =
          let there = rw is at later in
          let all = again others there in
          (owed ∙ ap (λ ms. message ∷ ms) all.0, all.1)
      go again u (inr (own, none, may, is)) later = let no : None ≡ Some own = sym (silent message s.own) ∙ may in absurd cc

  -- ---- what is read changes nothing of what may be written

  abbrev with_own : (P → P) → Stand S P → Stand S P
  with_own f s = record s { own = f s.own }

  module _ (f : P → P) (apart : (state : S) (message : List ℕ) (own after : P) → part.written state message own ≡ Some after → part.written state message (f own) ≡ Some (f after)) where
    one_written : (s t : Stand S P) (message : List ℕ) → after_write side part s message ≡ Some t → after_write side part (with_own f s) message ≡ Some (with_own f t)
    one_written s t message e = go s.owed (owed_or_own s t message s.owed e)
      where
        go : (owed : List (List ℕ))
            → ((others : List (List ℕ)) × (owed ≡ message ∷ others) × (t ≡ record s { owed = others }))
            ⊎ ((own : P) × (owed ≡ []) × (part.written s.shake message s.own ≡ Some own) × (t ≡ record s { own = own }))
            → after_owed side part (with_own f s) message owed ≡ Some (with_own f t)
        go owed (inl (others, is, same)) = rw (is, same, (bytes_eq-Decides message message).1 refl) refl
        go owed (inr (own, none, may, same)) = rw (none, same, apart s.shake message s.own own may) refl

    pub all_written_with : (s t : Stand S P) (messages : List (List ℕ)) → stand_after side part s (map writes messages) ≡ Some t
        → stand_after side part (with_own f s) (map writes messages) ≡ Some (with_own f t)
    all_written_with s t [] e = let same : s ≡ t = cc in ap (λ u. Some (with_own f u)) same
    all_written_with s t (message ∷ messages) e =
        option_and_then_some (λ u. stand_after side part u (map writes messages)) (after_write side part s message) t e λ u first later.
        ap (λ o. option_and_then (λ v. stand_after side part v (map writes messages)) o) (one_written s u message first) ∙ all_written_with u t messages later
