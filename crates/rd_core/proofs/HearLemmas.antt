-- What comes of a message that comes to an end: of the opening by the row of the table, of any other packet by what the side reads of it.
use Rattle.std.proofs.Common.{◌≡◌, ◌∙◌, refl, sym, ap, ℕ, ◌≤◌, List, [], ◌∷◌, ◌++◌, Some, None, Option, Result, Ok, Err, append_assoc}
use Rattle.std.specs.Prelude.{IsFalse, IsTrue, map}
use Rattle.std.specs.Option.{option_map, option_to_list}
use Rattle.std.proofs.lemmas.List.{append-nil}
use Rattle.rd_base.specs.declared.bad.Bad.{Bad}
use Rattle.rd_base.specs.declared.packet.Packet.{Packet}
use Rattle.rd_base.specs.Layout.{met}
use Rattle.rd_base.specs.Position.{Position, at_start}
use Rattle.rd_hello.specs.declared.hello.Hello.{Hello}
use Rattle.rd_hello.specs.Hello.{FirstFaultOfHello, hello, hello_bytes}
use Rattle.rd_hello.specs.Rows.{OrderRow}
use Rattle.rd_core.specs.Core.{CoreState}
use Rattle.rd_core.specs.Hearing.{IsSoundTo, MayLack, Side, after_row, by_row, from_hello, from_own, from_packet, hear, hear_said, is_hello}
use Rattle.rd_core.specs.Expected.{IsComing, opening_asks_at}
use Rattle.rd_core.proofs.ExpectedLemmas.{coming_heard, coming_said}

module _ {S M A : Type 0} (side : Side S M A) where
  -- ---- the opening

  opening_says : (state : S) (p : Packet) (bytes : List ℕ) → IsTrue (is_hello p) → from_packet side state p bytes ≡ from_hello side state (met hello (at_start bytes))
  opening_says state p bytes is = rw is refl

  pub opening_heard : (e : CoreState S M) (bytes : List ℕ) (p : Packet) (h : Hello) (rest : Position) → IsComing side e bytes p → IsTrue (is_hello p) → met hello (at_start bytes) ≡ Ok (h, rest)
      → hear side e bytes ≡ hear_said side e (by_row side (side.row e.shake h))
  opening_heard e bytes p h rest coming is e_met =
      coming_heard side e bytes p coming ∙ ap (λ says. hear_said side e says) (opening_says e.shake p bytes is ∙ ap (λ r. from_hello side e.shake r) e_met)

  pub opening_wrong : (e : CoreState S M) (bytes : List ℕ) (p : Packet) (bad : Bad) → IsComing side e bytes p → IsTrue (is_hello p) → FirstFaultOfHello bytes bad
      → hear side e bytes ≡ hear_said side e (from_hello side e.shake (Err bad))
  opening_wrong e bytes p bad coming is faulty =
      coming_heard side e bytes p coming ∙ ap (λ says. hear_said side e says) (opening_says e.shake p bytes is ∙ ap (λ r. from_hello side e.shake r) faulty)

  row_sound : (place : ℕ) (o : Option (OrderRow S)) → IsSoundTo side place (by_row side o)
  row_sound place None = tt
  row_sound place (Some row) = tt

  hello_sound : (place : ℕ) (state : S) (r : Result (Hello × Position) Bad) → ((bad : Bad) → r ≡ Err bad → place ≤ bad.at) → IsSoundTo side place (from_hello side state r)
  hello_sound place state (Ok read) none = row_sound place (side.row state read.0)
  hello_sound place state (Err bad) none = none bad refl

  -- where nothing is wrong before the place, memory may be wanting
  pub opening_lacks : (e : CoreState S M) (bytes : List ℕ) (p : Packet) → IsComing side e bytes p → IsTrue (is_hello p) → side.asks_at p ≡ Some (opening_asks_at p)
      → ((bad : Bad) → FirstFaultOfHello bytes bad → opening_asks_at p ≤ bad.at) → MayLack side e bytes
  opening_lacks e bytes p coming is asks none = record {
    sound = coming.sound;
    packet = p;
    named = coming.named;
    read = coming.read;
    place = opening_asks_at p;
    asks = asks;
    none_before = rw (coming_said side e bytes p coming, opening_says e.shake p bytes is) (hello_sound (opening_asks_at p) e.shake (met hello (at_start bytes)) none);
  }

  -- so it may be while what is to be written after a message that was read is made
  pub opening_lacks_after : (e : CoreState S M) (bytes : List ℕ) (p : Packet) (h : Hello) (rest : Position) → IsComing side e bytes p → IsTrue (is_hello p) → side.asks_at p ≡ Some (opening_asks_at p)
      → met hello (at_start bytes) ≡ Ok (h, rest) → MayLack side e bytes
  opening_lacks_after e bytes p h rest coming is asks e_met =
      opening_lacks e bytes p coming is asks (λ bad faulty. let other : Ok (h, rest) ≡ Err bad = sym e_met ∙ faulty in absurd cc)

  -- ---- any other packet

  own_says : (state : S) (p : Packet) (bytes : List ℕ) → IsFalse (is_hello p) → from_packet side state p bytes ≡ from_own side (side.own p bytes)
  own_says state p bytes is = rw is refl

  pub own_heard : (e : CoreState S M) (bytes : List ℕ) (p : Packet) (r : Result A Bad) → IsComing side e bytes p → IsFalse (is_hello p) → side.own p bytes ≡ r
      → hear side e bytes ≡ hear_said side e (from_own side r)
  own_heard e bytes p r coming is says =
      coming_heard side e bytes p coming ∙ ap (λ said. hear_said side e said) (own_says e.shake p bytes is ∙ ap (λ r. from_own side r) says)

  own_sound : (place : ℕ) (r : Result A Bad) → ((bad : Bad) → r ≡ Err bad → place ≤ bad.at) → IsSoundTo side place (from_own side r)
  own_sound place (Ok a) none = tt
  own_sound place (Err bad) none = none bad refl

  pub own_lacks : (e : CoreState S M) (bytes : List ℕ) (p : Packet) (place : ℕ) → IsComing side e bytes p → IsFalse (is_hello p) → side.asks_at p ≡ Some place
      → ((bad : Bad) → side.own p bytes ≡ Err bad → place ≤ bad.at) → MayLack side e bytes
  own_lacks e bytes p place coming is asks none = record {
    sound = coming.sound;
    packet = p;
    named = coming.named;
    read = coming.read;
    place = place;
    asks = asks;
    none_before = rw (coming_said side e bytes p coming, own_says e.shake p bytes is) (own_sound place (side.own p bytes) none);
  }

-- ---- what a row writes

pub rows_outbox : {M : Type 0} (outgoing : List ℕ → M) (outbox : List M) (first second : Option Hello)
    → outbox ++ option_to_list (option_map (λ h. outgoing (hello_bytes h)) first) ++ option_to_list (option_map (λ h. outgoing (hello_bytes h)) second)
    ≡ outbox ++ map outgoing (map hello_bytes (option_to_list first ++ option_to_list second))
rows_outbox outgoing outbox (Some h) (Some k) = append_assoc outbox (outgoing (hello_bytes h) ∷ []) (outgoing (hello_bytes k) ∷ [])
rows_outbox outgoing outbox (Some h) None = append-nil (outbox ++ outgoing (hello_bytes h) ∷ [])
rows_outbox outgoing outbox None (Some k) = ap (λ xs. xs ++ outgoing (hello_bytes k) ∷ []) (append-nil outbox)
rows_outbox outgoing outbox None None = ap (λ xs. xs ++ []) (append-nil outbox)

-- an end that opens by the messages of a row opens by the row
pub row_opened : {S M A : Type 0} (side : Side S M A) (e new : CoreState S M) (first second : Option Hello) (next : S) (f s : Option M)
    → f ≡ option_map (λ h. side.outgoing (hello_bytes h)) first → s ≡ option_map (λ h. side.outgoing (hello_bytes h)) second
    → new ≡ record e { shake = next; outbox = e.outbox ++ option_to_list f ++ option_to_list s ++ [] }
    → new ≡ after_row side e (record { first = first; second = second; next = next })
row_opened side e new first second next f s f_is s_is opened =
    opened ∙ ap (λ outbox. record e { shake = next; outbox = outbox }) (append-nil (e.outbox ++ option_to_list f ++ option_to_list s) ∙ rw (f_is, s_is) (rows_outbox side.outgoing e.outbox first second))
