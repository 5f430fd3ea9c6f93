-- Chunk faults: each stream has one, or is whole frames and a part of one.
use Rattle.std.proofs.Common.{◌≡◌, ◌≢◌, ◌≤◌, ◌<◌, ℕ, ◌+◌, ◌-◌, ◌%◌, ◌^◌, arith, sym, ◌∙◌, ap, subst, length, ◌++◌, ◌∷◌, [], inl, inr, None, Some, Option, length-append, append_assoc, refl, List, false, ◌⊎◌}
use Rattle.std.proofs.lemmas.List.{append-nil, take_all}
use Rattle.std.proofs.lemmas.Bool.{cases_eq, cases_Bool}
use Rattle.rd_chunk.specs.declared.head.RowFault.{RowFault}
use Rattle.rd_chunk.specs.declared.fault.ChunkWhy.{ChunkWhy}
use Rattle.rd_chunk.specs.Frames.{size_of, length_of, Carried}
use Rattle.rd_chunk.specs.Faults.{size_fault, head_fault, ShowsFault, ChunkFault}
use Rattle.rd_chunk.specs.Standing.{Held, StandsFor, is_complete}
use Rattle.rd_chunk.specs.Streams.{HasChunkFault, IsStream}
use Rattle.rd_chunk.proofs.HeadLemmas.{size_of-append}
use Rattle.rd_chunk.proofs.TakesLemmas.{lacks}
use Rattle.rd_chunk.proofs.StandsForLemmas.{head_stands, data_stands, head_faults, short_part, no_part}
use Rattle.rd_chunk.proofs.BetweenLemmas.{fresh}
use Rattle.rd_chunk.proofs.StreamLemmas.{never_both}
use Rattle.rd_chunk.proofs.CarriedLemmas.{one_of, Carried-append, carried_one, fault_after, begun_of}

-- what a byte more makes of bytes that a joiner stands for
pub Next : ℕ → List ℕ → Type 0
Next before bytes = ((held : Held) × StandsFor held before bytes) ⊎ ((place : ℕ) × (why : ChunkWhy) × ChunkFault bytes place why)

cases_Option : (found : Option RowFault) → (found ≡ None) ⊎ ((fault : RowFault) × (found ≡ Some fault))
cases_Option None = inl refl
cases_Option (Some fault) = inr (fault, refl)

module _ (held : Held) (before : ℕ) (bytes : List ℕ) (b : ℕ) (s : StandsFor held before bytes) (lacking : is_complete held.left (length held.joined) held.whole ≡ false) where
  in_data : 0 < held.left → Next before (bytes ++ b ∷ [])
  unfolding Next
  in_data some =
      elim (cases_eq held.left 1) [
        | inl one ↦
            let next : Held = record held { joined = held.joined ++ b ∷ []; head = []; left = 0; taken = (held.taken + 1) % 2 ^ 64 } in
            inl (next, data_stands held next before bytes (b ∷ []) s some (omega arith) refl refl (omega arith) (λ ne. absurd (ne refl)) (λ z. refl) refl s.no_fault)
        | inr more ↦
            let next : Held = record held { joined = held.joined ++ b ∷ []; left = held.left - 1; taken = (held.taken + 1) % 2 ^ 64 } in
            inl (next, data_stands held next before bytes (b ∷ []) s some (omega arith) refl refl refl (λ ne. refl) (λ z. absurd (omega (arith, more))) refl s.no_fault)
      ]

  module _ (left : held.left ≡ 0) where
    short : length s.part < 12
    short = short_part held before bytes s left

    head_is : held.head ≡ s.part
    head_is = s.head_is ∙ take_all 12 s.part (omega (arith, short))

    grown : length (held.head ++ b ∷ []) ≡ length s.part + 1
    grown = length-append held.head (b ∷ []) ∙ omega (arith, ap length head_is)

    unfinished : 0 < length held.joined → length held.joined ≢ held.whole
    unfinished = lacks held.left (length held.joined) held.whole left lacking

    -- a size that was good stays so
    size_stays : 4 < length (held.head ++ b ∷ []) → size_fault (size_of (held.head ++ b ∷ [])) ≡ None
    size_stays more = ap size_fault (size_of-append held.head (b ∷ []) (omega (arith, grown, ap length head_is)) ∙ ap size_of head_is) ∙ s.is_part.size (omega (arith, grown))

    early : length (held.head ++ b ∷ []) < 12 → (4 ≤ length (held.head ++ b ∷ []) → size_fault (size_of (held.head ++ b ∷ [])) ≡ None) → Next before (bytes ++ b ∷ [])
    unfolding Next
    early less good =
        let next : Held = record held { head = held.head ++ b ∷ []; taken = (held.taken + 1) % 2 ^ 64 } in
        inl (next, head_stands held next before bytes (b ∷ []) s left unfinished refl refl (omega arith) (λ _. (refl, left)) (λ e. absurd (omega (arith, e))) good (λ e. absurd (omega (arith, e))) refl s.no_fault)

    faulty : (fault : RowFault) → ShowsFault held.whole (length held.joined) (held.head ++ b ∷ []) fault → Next before (bytes ++ b ∷ [])
    unfolding Next
    faulty fault has = inr (_, _, (head_faults held before bytes (b ∷ []) fault s left unfinished has).0)

    at_12 : length (held.head ++ b ∷ []) ≡ 12 → Next before (bytes ++ b ∷ [])
    unfolding Next
    at_12 e = elim (cases_Option (head_fault held.whole (length held.joined) (held.head ++ b ∷ []))) [
      | inl none ↦
          let next : Held = record held { head = held.head ++ b ∷ []; left = size_of (held.head ++ b ∷ []) - 8; whole = length_of (held.head ++ b ∷ []); taken = (held.taken + 1) % 2 ^ 64 } in
          inl (next, head_stands held next before bytes (b ∷ []) s left unfinished refl refl (omega (arith, e)) (λ less. absurd (omega (arith, e, less))) (λ _. (refl, refl)) (λ _. size_stays (omega (arith, e))) (λ _. none) refl s.no_fault)
      | inr some ↦ faulty some.0 (record { holds = inr (e, size_stays (omega (arith, e)), some.1) })
    ]

    in_head : Next before (bytes ++ b ∷ [])
    in_head = elim (cases_eq (length (held.head ++ b ∷ [])) 4) [
      | inl four ↦ elim (cases_Option (size_fault (size_of (held.head ++ b ∷ [])))) [
        | inl none ↦ early (omega (arith, four)) (λ _. none)
        | inr some ↦ faulty some.0 (record { holds = inl (four, some.1) })
      ]
      | inr ne ↦ elim (cases_eq (length (held.head ++ b ∷ [])) 12) [
        | inl twelve ↦ at_12 twelve
        | inr other ↦ early (omega (arith, short, grown, other)) (λ more. size_stays (omega (arith, more, ne)))
      ]
    ]

  pub next_byte : Next before (bytes ++ b ∷ [])
  next_byte = elim (cases_eq held.left 0) [ inl left ↦ in_head left | inr some ↦ in_data (omega (arith, some)) ]

-- messages, and a joiner that stands for what comes after them
record Sound (bytes : List ℕ) : Type 0 where
  messages : List (List ℕ)
  whole : List ℕ
  tail : List ℕ
  held : Held
  are_whole : Carried messages whole
  bytes_are : bytes ≡ whole ++ tail
  stands : StandsFor held 0 tail
  lacking : is_complete held.left (length held.joined) held.whole ≡ false

sound_start : (messages : List (List ℕ)) (whole bytes : List ℕ) → Carried messages whole → bytes ≡ whole → Sound bytes
sound_start messages whole bytes c e = record {
  messages = messages;
  whole = whole;
  tail = [];
  held = record { joined = []; head = []; left = 0; whole = 0; taken = 0; fault = None };
  are_whole = c;
  bytes_are = e ∙ sym (append-nil whole);
  stands = fresh (record { joined = []; head = []; left = 0; whole = 0; taken = 0; fault = None }) 0 refl refl refl (omega arith) refl refl;
  lacking = refl;
}

-- a byte more
sound_on : (bytes : List ℕ) (b : ℕ) → Sound bytes → Sound (bytes ++ b ∷ []) ⊎ ((place : ℕ) × (why : ChunkWhy) × ChunkFault (bytes ++ b ∷ []) place why)
unfolding Next
sound_on bytes b s =
    let on : bytes ++ b ∷ [] ≡ s.whole ++ (s.tail ++ b ∷ []) = ap (λ (r : List ℕ). r ++ b ∷ []) s.bytes_are ∙ append_assoc s.whole s.tail (b ∷ []) in
    elim (next_byte s.held 0 s.tail b s.stands s.lacking) [
      | inl next ↦ elim (cases_Bool (is_complete next.0.left (length next.0.joined) next.0.whole)) [
        | inl done ↦ inl (sound_start (s.messages ++ next.0.joined ∷ []) (s.whole ++ (s.tail ++ b ∷ [])) (bytes ++ b ∷ [])
            (Carried-append s.messages (next.0.joined ∷ []) s.whole (s.tail ++ b ∷ []) s.are_whole (carried_one next.0.joined (s.tail ++ b ∷ []) (one_of next.0 0 (s.tail ++ b ∷ []) next.1 done))) on)
        | inr lacking ↦ inl (record { messages = s.messages; whole = s.whole; tail = s.tail ++ b ∷ []; held = next.0; are_whole = s.are_whole; bytes_are = on; stands = next.1; lacking = lacking })
      ]
      | inr found ↦ inr (length s.whole + found.0, found.1, subst (λ (r : List ℕ). ChunkFault r (length s.whole + found.0) found.1) (sym on) (fault_after s.messages s.whole (s.tail ++ b ∷ []) found.0 found.1 s.are_whole found.2))
    ]

-- a stream of messages with one that isn't complete after them
pub stream_after : (ms ns : List (List ℕ)) (a b : List ℕ) → Carried ms a → IsStream ns b → IsStream (ms ++ ns) (a ++ b)
stream_after ms ns a b c s = record {
  whole = a ++ s.whole;
  n = s.n;
  joined = s.joined;
  begun = s.begun;
  part = s.part;
  are_whole = Carried-append ms ns a s.whole c s.are_whole;
  are_begun = s.are_begun;
  is_part = s.is_part;
  bytes_are = ap (λ (r : List ℕ). a ++ r) (s.bytes_are ∙ append_assoc s.whole s.begun s.part) ∙ sym (append_assoc a s.whole (s.begun ++ s.part)) ∙ sym (append_assoc (a ++ s.whole) s.begun s.part);
}

go : (rest bytes : List ℕ) → Sound bytes → HasChunkFault (bytes ++ rest) ⊎ ((messages : List (List ℕ)) × IsStream messages (bytes ++ rest))
go [] bytes s = inr (s.messages ++ [], subst (IsStream (s.messages ++ [])) (sym s.bytes_are ∙ sym (append-nil bytes)) (stream_after s.messages [] s.whole s.tail s.are_whole (begun_of s.held 0 s.tail s.stands s.lacking)))
go (b ∷ rest) bytes s =
    let on : (bytes ++ b ∷ []) ++ rest ≡ bytes ++ b ∷ rest = append_assoc bytes (b ∷ []) rest in
    elim (sound_on bytes b s) [
      | inl next ↦ subst (λ (r : List ℕ). HasChunkFault r ⊎ ((messages : List (List ℕ)) × IsStream messages r)) on (go rest (bytes ++ b ∷ []) next)
      | inr found ↦ inl (record { prefix = bytes ++ b ∷ []; rest = rest; place = found.0; why = found.1; bytes_are = sym on; fault = found.2 })
    ]

-- a stream has a fault, or is whole frames and a part of one
pub either : (bytes : List ℕ) → HasChunkFault bytes ⊎ ((messages : List (List ℕ)) × IsStream messages bytes)
either bytes = go bytes [] (sound_start [] [] [] refl refl)

-- whole messages are a stream
pub carried_stream : (ms : List (List ℕ)) (a : List ℕ) → Carried ms a → IsStream ms a
carried_stream ms a c = record {
  whole = a;
  n = 1;
  joined = [];
  begun = [];
  part = [];
  are_whole = c;
  are_begun = record { frames = []; are = tt; joined_are = refl; bytes_are = refl; short = omega arith; most = omega arith };
  is_part = no_part 1 0;
  bytes_are = sym (append-nil (a ++ []) ∙ append-nil a);
}

-- what a joiner stands for is a stream
pub stands_stream : (held : Held) (before : ℕ) (bytes : List ℕ) → StandsFor held before bytes → (messages : List (List ℕ)) × IsStream messages bytes
stands_stream held before bytes s =
    elim (cases_Bool (is_complete held.left (length held.joined) held.whole)) [
      | inl done ↦ (held.joined ∷ [], carried_stream (held.joined ∷ []) bytes (carried_one held.joined bytes (one_of held before bytes s done)))
      | inr lacking ↦ ([], begun_of held before bytes s lacking)
    ]

pub stands_clean : (held : Held) (before : ℕ) (bytes : List ℕ) → StandsFor held before bytes → HasChunkFault bytes → ⊥
stands_clean held before bytes s fault = let m = stands_stream held before bytes s in never_both m.0 bytes fault m.1
