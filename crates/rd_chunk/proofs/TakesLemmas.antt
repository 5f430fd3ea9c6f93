-- What one step of a joiner takes (`Takes`), and which fault it brings (`BringsFault`).
use Rattle.std.proofs.Common.{◌≡◌, ◌≢◌, ◌≤◌, ◌<◌, ℕ, ◌+◌, ◌-◌, arith, sym, ◌∙◌, ap, length, ◌++◌, ◌∷◌, [], inl, inr, None, length-append, refl, List}
use Rattle.std.proofs.lemmas.Bool.{cases_lt, cases_eq}
use Rattle.std.proofs.Common.{subst, Bool, true, not, take, get_or, Some, ◌%◌, ◌^◌, false, ◌⊎◌}
use Rattle.std.specs.List.{concat}
use Rattle.std.proofs.Common.{drop, append_assoc}
use Rattle.std.proofs.lemmas.List.{take_all, take_rest}
use Rattle.std.proofs.lemmas.Bool.Decides.{nat_tests}
use Rattle.std.proofs.Math.Seq.{take-add}
use Rattle.rd_chunk.specs.declared.head.RowFault.{RowFault}
use Rattle.rd_chunk.specs.declared.fault.ChunkBad.{ChunkBad}
use Rattle.rd_chunk.specs.declared.fault.ChunkWhy.{ChunkWhy}
use Rattle.rd_chunk.specs.declared.fault.FeedNo.{FeedNo}
use Rattle.rd_chunk.specs.declared.fault.FeedNo.TheVariants.{Bad, Memory}
use Rattle.rd_chunk.specs.declared.progress.Progress.{Progress}
use Rattle.rd_chunk.specs.Standing.{is_complete, Takes, BringsFault, Held, StandsFor, ForFeedBad}
use Rattle.rd_chunk.specs.Kept.{InRange, head_of, held_of, next_test}
use Rattle.rd_chunk.specs.Frames.{size_of, length_of, flags_of}
use Rattle.rd_chunk.specs.Faults.{size_fault, head_fault, ShowsFault, FaultInMessage}
use Rattle.rd_chunk.proofs.HeadLemmas.{size_of-append, good_size, good_from_none}
use Rattle.rd_chunk.proofs.StandsForLemmas.{head_stands, head_faults, short_part}

-- bytes that pass no test of a head leave a good size
size_stays : (head head' d : List ℕ) → head' ≡ head ++ d → (length head < 4 → length head' ≤ 4) → (4 ≤ length head → size_fault (size_of head) ≡ None) → (length head' ≡ 4 → size_fault (size_of head') ≡ None) → 4 ≤ length head' → size_fault (size_of head') ≡ None
size_stays head head' d e tested old new h =
    elim (cases_lt 3 (length head)) [
      | inl more ↦ ap size_fault (ap size_of e ∙ size_of-append head d (omega arith)) ∙ old (omega arith)
      | inr less ↦ new (omega (arith, tested (omega arith)))
    ]

module _ (p next q : Progress) (joined : ℕ) (d : List ℕ)
    (old : InRange p joined) (in_head : p.left ≡ 0) (count_old : length (head_of p) ≡ p.have)
    (within : next.have ≤ 12) (tested : p.have < 4 → next.have ≤ 4)
    (head : head_of next ≡ head_of p ++ d) (have : next.have ≡ p.have + length d) (left : next.left ≡ p.left)
    (at_4 : next.have ≡ 4 → size_fault (size_of (head_of next)) ≡ None)
    (at_12 : next.have ≡ 12 → head_fault next.length joined (head_of next) ≡ None)
    (head_q : head_of q ≡ head_of next) (have_q : q.have ≡ next.have) (early_q : next.have < 12 → q ≡ next)
    (left_q : next.have ≡ 12 → q.left ≡ size_of (head_of next) - 8) where
  count : length (head_of next) ≡ next.have
  count = ap length head ∙ length-append (head_of p) d ∙ omega arith

  size : 4 ≤ next.have → size_fault (size_of (head_of next)) ≡ None
  size h = size_stays (head_of p) (head_of next) d head (λ l. omega (arith, count, tested (omega arith))) (λ l. old.size (omega arith)) (λ l. at_4 (omega (arith, count))) (omega (arith, count))

  pub head_in_range : InRange q joined
  head_in_range = record {
    head = omega arith;
    count = ap length head_q ∙ count ∙ sym have_q;
    to_come = λ e. omega (arith, left_q (omega arith), good_size (size_of (head_of next)) (size (omega arith)));
    size = λ h. ap (λ x. size_fault (size_of x)) head_q ∙ size (omega arith);
    room = elim (cases_eq next.have 12) [
      | inl e ↦ let good = good_from_none next.length joined (size_of (head_of next)) (length_of (head_of next)) (flags_of (head_of next)) (at_12 e) in omega (arith, left_q e, good.within, good.most)
      | inr ne ↦ omega (arith, ap (λ (r : Progress). r.left) (early_q (omega arith)), old.room)
    ];
  }

-- what doesn't pass the next test of a head
pub tests : (have next : ℕ) → next ≤ next_test have → (next ≤ 12) × (have < 4 → next ≤ 4)
tests have next h = (grind (arith, nat_tests, h), λ less. grind (arith, nat_tests, h))

-- an incomplete message lacks bytes
pub lacks : (left joined whole : ℕ) → left ≡ 0 → is_complete left joined whole ≡ false → 0 < joined → joined ≢ whole
lacks left joined whole z lacking some same = grind (arith, nat_tests, lacking)

-- the place of a fault in the stream
pub place_at : (at have taken offset sum before c part len n : ℕ) → at < 2 ^ 64 → (at + have) % 2 ^ 64 ≡ (taken + offset) % 2 ^ 64
    → taken ≡ (sum + n) % 2 ^ 64 → sum ≡ (before + len) % 2 ^ 64 → len ≡ c + part → have ≡ part + n → at ≡ (before + (c + offset)) % 2 ^ 64
place_at at have taken offset sum before c part len n fits e t s l h = omega arith

module _ (p next : Progress) (message : List ℕ) (joined : ℕ) (d : List ℕ)
    (old : InRange p joined) (in_head : p.left ≡ 0) (count_old : length (head_of p) ≡ p.have)
    (within : next.have ≤ 12) (tested : p.have < 4 → next.have ≤ 4) (message_is : length message ≡ joined)
    (lacking : is_complete p.left joined p.length ≡ false)
    (head : head_of next ≡ head_of p ++ d) (have : next.have ≡ p.have + length d)
    (length_next : next.length ≡ p.length) (taken_next : next.taken ≡ (p.taken + length d) % 2 ^ 64) where
  count_next : length (head_of next) ≡ next.have
  count_next = ap length head ∙ length-append (head_of p) d ∙ omega arith

  unfinished : 0 < length message → length message ≢ p.length
  unfinished = subst (λ (k : ℕ). 0 < k → k ≢ p.length) (sym message_is) (lacks p.left joined p.length in_head lacking)

  module _ (q : Progress) (left : next.left ≡ p.left)
      (at_4 : next.have ≡ 4 → size_fault (size_of (head_of next)) ≡ None)
      (at_12 : next.have ≡ 12 → head_fault next.length joined (head_of next) ≡ None)
      (head_q : head_of q ≡ head_of next) (have_q : q.have ≡ next.have) (early_q : next.have < 12 → q ≡ next)
      (left_q : next.have ≡ 12 → q.left ≡ size_of (head_of next) - 8)
      (length_q : next.have ≡ 12 → q.length ≡ length_of (head_of next)) (taken_q : q.taken ≡ next.taken) where
    pub head_takes : Takes (held_of p message None) (held_of q message None) d
    head_takes before bytes s =
        let full : length (head_of q) ≡ next.have = ap length head_q ∙ count_next in
        head_stands (held_of p message None) (held_of q message None) before bytes d s in_head unfinished refl (head_q ∙ head) (omega arith)
        (λ less. (ap (λ (r : Progress). r.length) (early_q (omega arith)) ∙ length_next, ap (λ (r : Progress). r.left) (early_q (omega arith)) ∙ left ∙ in_head))
        (λ e. (length_q (omega arith) ∙ sym (ap length_of head_q), left_q (omega arith) ∙ sym (ap (λ (r : List ℕ). size_of r - 8) head_q)))
        (λ more. (head_in_range p next q joined d old in_head count_old within tested head have left at_4 at_12 head_q have_q early_q left_q).size (omega arith))
        (λ e. subst (λ (k : ℕ). head_fault k (length message) (head_of q) ≡ None) length_next
        (subst (λ (k : ℕ). head_fault next.length k (head_of q) ≡ None) (sym message_is)
        (subst (λ (r : List ℕ). head_fault next.length joined r ≡ None) (sym head_q) (at_12 (omega arith)))))
        (taken_q ∙ taken_next) refl

  module _ (row : RowFault) (bad : ChunkBad)
      (at_4 : next.have ≡ 4 → size_fault (size_of (head_of next)) ≡ Some row)
      (at_12 : next.have ≡ 12 → head_fault next.length joined (head_of next) ≡ Some row)
      (only : (next.have ≡ 4) ⊎ (next.have ≡ 12))
      (fits : bad.at < 2 ^ 64) (place : (bad.at + next.have) % 2 ^ 64 ≡ (next.taken + row.offset) % 2 ^ 64) (why : bad.why ≡ row.why) where
    has : ShowsFault p.length (length message) (head_of p ++ d) row
    has = subst (λ (r : List ℕ). ShowsFault p.length (length message) r row) head (record {
      holds = elim only [
        | inl four ↦ inl (count_next ∙ four, at_4 four)
        | inr twelve ↦ inr (
          count_next ∙ twelve,
          size_stays (head_of p) (head_of next) d head (λ l. omega (arith, count_next, tested (omega arith))) (λ l. old.size (omega arith)) (λ l. absurd (omega (arith, count_next))) (omega (arith, count_next)),
          subst (λ (k : ℕ). head_fault k (length message) (head_of next) ≡ Some row) length_next
              (subst (λ (k : ℕ). head_fault next.length k (head_of next) ≡ Some row) (sym message_is) (at_12 twelve)),
        )
      ];
    })

    pub head_faulty : BringsFault (held_of p message None) d bad
    head_faulty before bytes s =
        let short : length s.part < 12 = short_part (held_of p message None) before bytes s in_head in
        let part_len : length (head_of p) ≡ length s.part = ap length (s.head_is ∙ take_all 12 s.part (omega arith)) in
        let bytes_len : length bytes ≡ length (concat s.frames) + length s.part = ap length s.bytes_are ∙ length-append (concat s.frames) s.part in (
          length (concat s.frames) + row.offset,
          subst (λ (w : ChunkWhy). FaultInMessage (bytes ++ d) (length (concat s.frames) + row.offset) w) (sym why)
              (head_faults (held_of p message None) before bytes d row s in_head unfinished has),
          place_at bad.at next.have next.taken row.offset p.taken before (length (concat s.frames)) (length s.part) (length bytes) (length d) fits place taken_next s.taken_are bytes_len (omega arith),
        )

-- a piece that is taken in parts
pub at_piece : (bytes piece : List ℕ) (at n : ℕ) → (bytes ++ take at piece) ++ take n (take (length piece - at) (drop at piece)) ≡ bytes ++ take (at + n) piece
at_piece bytes piece at n =
    append_assoc bytes (take at piece) (take n (take (length piece - at) (drop at piece)))
    ∙ ap (λ (r : List ℕ). bytes ++ (take at piece ++ take n r)) (take_rest piece at) ∙ ap (λ (r : List ℕ). bytes ++ r) (sym (take-add at n piece))

-- one step after others
pub takes_then : (old mid new : Held) (piece : List ℕ) (at n : ℕ) → Takes old mid (take at piece) → Takes mid new (take n (take (length piece - at) (drop at piece))) → Takes old new (take (at + n) piece)
takes_then old mid new piece at n first then before bytes s =
    subst (λ (r : List ℕ). StandsFor new before r) (at_piece bytes piece at n)
    (then before (bytes ++ take at piece) (first before bytes s))

pub faults_then : (old mid : Held) (piece : List ℕ) (at n : ℕ) (bad : ChunkBad) → Takes old mid (take at piece) → BringsFault mid (take n (take (length piece - at) (drop at piece))) bad → BringsFault old (take (at + n) piece) bad
faults_then old mid piece at n bad first fault before bytes s =
    let found = fault before (bytes ++ take at piece) (first before bytes s) in
    (found.0, subst (λ (r : List ℕ). FaultInMessage r found.0 bad.why) (at_piece bytes piece at n) found.1, found.2)

-- a weaker fact of the fault
pub for_bad : (no : FeedNo) (P Q : ChunkBad → Type 0) → ((bad : ChunkBad) → P bad → Q bad) → ForFeedBad P no → ForFeedBad Q no
for_bad (Bad bad) P Q f h = f bad h
for_bad Memory P Q f h = tt

pub not_complete : (b c : Bool) → b ≡ c → c ≡ true → not b ≡ true → ⊥
not_complete b c e t f = cc
