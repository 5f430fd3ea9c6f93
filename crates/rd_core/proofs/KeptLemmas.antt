-- What always holds of an end is kept by what both sides do with it.
use Rattle.std.proofs.Common.{◌≡◌, refl, ℕ, List, [], ◌∷◌, Some, None, Option, inl, inr}
use Rattle.std.specs.Prelude.{◌≢◌, All, Result, Ok, Err, map}
use Rattle.std.proofs.lemmas.List.Elements.{All-append, All-cons, All-map, All-nil, All-tail}
use Rattle.std.proofs.lemmas.Bool.{cases_Bool}
use Rattle.rd_base.specs.declared.bad.Bad.{Bad}
use Rattle.rd_base.specs.declared.packet.Packet.{Packet}
use Rattle.rd_base.specs.Header.{any_header}
use Rattle.rd_base.specs.Layout.{met}
use Rattle.rd_base.specs.Position.{Position, at_start}
use Rattle.rd_chunk.specs.Carrier.{IsMessage}
use Rattle.rd_hello.specs.declared.end_fault.EndFault.{EndFault}
use Rattle.rd_hello.specs.declared.end_fault.EndFault.TheVariants.{Memory}
use Rattle.rd_hello.specs.declared.hello.Hello.{Hello}
use Rattle.rd_hello.specs.Hello.{hello as hello_layout}
use Rattle.rd_hello.specs.Rows.{OrderRow}
use Rattle.rd_core.specs.Core.{CoreState, IsCoreKept, new_core, send, send_from, with_message}
use Rattle.rd_core.specs.Hearing.{Side, Meaning, wrong, nothing, opens, says, by_row, from_header, from_hello, from_known, from_own, from_packet, hear, hear_said, hear_unless, is_hello, is_read_in, messages_of, said}

module _ {S M : Type 0} (bytes_of : M → List ℕ) where
  pub kept_new : (start : S) → IsCoreKept bytes_of (new_core start)
  kept_new start = record { fit = All-nil (λ (m : M). IsMessage (bytes_of m)); wrong = λ is. cc is }

  pub kept_message : (e : CoreState S M) (message : M) → IsCoreKept bytes_of e → IsMessage (bytes_of message) → IsCoreKept bytes_of (with_message e message)
  kept_message e message kept fits = record {
    fit = All-append (λ (m : M). IsMessage (bytes_of m)) e.outbox (message ∷ []) kept.fit
        (All-cons (λ (m : M). IsMessage (bytes_of m)) message [] fits (All-nil (λ (m : M). IsMessage (bytes_of m))));
    wrong = kept.wrong;
  }

  kept_send_from : (e : CoreState S M) → IsCoreKept bytes_of e → (o : List M) → All (λ (m : M). IsMessage (bytes_of m)) o → IsCoreKept bytes_of (send_from e o).0
  kept_send_from e kept [] all = kept
  kept_send_from e kept (m ∷ ms) all = record { fit = All-tail (λ (x : M). IsMessage (bytes_of x)) m ms all; wrong = kept.wrong }

  pub kept_send : (e : CoreState S M) → IsCoreKept bytes_of e → IsCoreKept bytes_of (send e).0
  kept_send e kept = kept_send_from e kept e.outbox kept.fit

-- sending leaves what was wrong
pub sent_fault : {S M : Type 0} (e : CoreState S M) (outbox : List M) → (send_from e outbox).0.fault ≡ e.fault
sent_fault e [] = refl
sent_fault e (m ∷ ms) = refl

-- the messages of every row of the side's table fit
abbrev pub AreShort : {S M A : Type 0} → (M → List ℕ) → Side S M A → Type 0
AreShort {S = S} {M = M} bytes_of side = (state : S) (h : Hello) (row : OrderRow S) → side.row state h ≡ Some row → All (λ (m : List ℕ). IsMessage (bytes_of (side.outgoing m))) (messages_of row)

-- what a message says is no want of memory, and opens by a row of the table
abbrev pub IsTabled : {S M A : Type 0} → Side S M A → S → Meaning S A → Type 0
IsTabled side state (wrong fault) = fault ≢ Memory
IsTabled side state nothing = Unit {0}
IsTabled side state (opens row) = (h : Hello) × (side.row state h ≡ Some row)
IsTabled side state (says a) = Unit {0}

module _ {S M A : Type 0} (side : Side S M A) where
  by_row_tabled : (state : S) (h : Hello) (o : Option (OrderRow S)) → side.row state h ≡ o → IsTabled side state (by_row side o)
  by_row_tabled state h None e = tt
  by_row_tabled state h (Some row) e = (h, e)

  hello_tabled : (state : S) (r : Result (Hello × Position) Bad) → IsTabled side state (from_hello side state r)
  hello_tabled state (Err bad) = λ is. cc is
  hello_tabled state (Ok read) = by_row_tabled state read.0 (side.row state read.0) refl

  own_tabled : (state : S) (r : Result A Bad) → IsTabled side state (from_own side r)
  own_tabled state (Err bad) = λ is. cc is
  own_tabled state (Ok a) = tt

  packet_tabled : (state : S) (p : Packet) (bytes : List ℕ) → IsTabled side state (from_packet side state p bytes)
  packet_tabled state p bytes = elim (cases_Bool (is_hello p)) [
    | inl e ↦ rw e (hello_tabled state (met hello_layout (at_start bytes)))
    | inr e ↦ rw e (own_tabled state (side.own p bytes))
  ]

  known_tabled : (state : S) (bytes : List ℕ) (p : Packet) → IsTabled side state (from_known side state bytes p)
  known_tabled state bytes p = elim (cases_Bool (is_read_in side state p)) [
    | inl e ↦ rw e (packet_tabled state p bytes)
    | inr e ↦ rw e (λ is. cc is)
  ]

  header_tabled : (state : S) (bytes : List ℕ) (r : Result (Option Packet × Position) Bad) → IsTabled side state (from_header side state bytes r)
  header_tabled state bytes (Err bad) = λ is. cc is
  header_tabled state bytes (Ok (None, rest)) = tt
  header_tabled state bytes (Ok (Some p, rest)) = known_tabled state bytes p

  pub said_tabled : (state : S) (bytes : List ℕ) → IsTabled side state (said side state bytes)
  said_tabled state bytes = header_tabled state bytes (met any_header (at_start bytes))

  module _ (bytes_of : M → List ℕ) (short : AreShort bytes_of side) where
    kept_said : (e : CoreState S M) → IsCoreKept bytes_of e → (x : Meaning S A) → IsTabled side e.shake x → IsCoreKept bytes_of (hear_said side e x).0
    kept_said e kept (wrong fault) tabled = record { fit = kept.fit; wrong = λ is. tabled (cc is) }
    kept_said e kept nothing tabled = kept
    kept_said e kept (opens row) (h, is) = record {
      fit = All-append (λ (m : M). IsMessage (bytes_of m)) e.outbox (map side.outgoing (messages_of row)) kept.fit
          (All-map (λ (m : M). IsMessage (bytes_of m)) side.outgoing (messages_of row) (short e.shake h row is));
      wrong = kept.wrong;
    }
    kept_said e kept (says a) tabled = kept

    kept_unless : (e : CoreState S M) (bytes : List ℕ) → IsCoreKept bytes_of e → (o : Option EndFault) → IsCoreKept bytes_of (hear_unless side e bytes o).0
    kept_unless e bytes kept (Some fault) = kept
    kept_unless e bytes kept None = kept_said e kept (said side e.shake bytes) (said_tabled e.shake bytes)

    pub kept_hear : (e : CoreState S M) (bytes : List ℕ) → IsCoreKept bytes_of e → IsCoreKept bytes_of (hear side e bytes).0
    kept_hear e bytes kept = kept_unless e bytes kept e.fault
