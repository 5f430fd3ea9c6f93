-- Whole messages (`One`, `Carried`), and the joiners at which they wait.
use Rattle.std.proofs.Common.{◌≡◌, ◌≤◌, ◌<◌, ℕ, ◌+◌, arith, sym, ◌∙◌, ap, subst, length, ◌++◌, ◌∷◌, [], inl, inr, None, Some, length-append, append_assoc, refl, List, true, false, ◌↔◌}
use Rattle.std.specs.List.{concat, flat_map}
use Rattle.std.proofs.lemmas.List.{append-nil}
use Rattle.std.proofs.lemmas.Bool.{cases_eq}
use Rattle.std.proofs.lemmas.Bool.Decides.{nat_tests}
use Rattle.rd_chunk.specs.declared.fault.ChunkWhy.{ChunkWhy}
use Rattle.rd_chunk.specs.Frames.{size_of, length_of, flags_of, data_of, AreFrames, One, Carried}
use Rattle.rd_chunk.specs.Faults.{head_fault, ChunkFault}
use Rattle.rd_chunk.specs.Standing.{Held, StandsFor, is_complete, waiting}
use Rattle.rd_chunk.specs.Streams.{IsStream}
use Rattle.rd_chunk.proofs.TakesLemmas.{lacks}
use Rattle.rd_chunk.proofs.StandsForLemmas.{joined_whole, frames-nil, frames-within, fresh_head}
use Rattle.rd_chunk.proofs.BetweenLemmas.{complete_parts, no_part_after}
use Rattle.rd_chunk.proofs.FrameLemmas.{unique, done_blocks, part_blocks}
use Rattle.rd_chunk.proofs.StreamLemmas.{frames_agree}

-- the bytes of a complete message are that message in frames
pub one_of : (held : Held) (before : ℕ) (bytes : List ℕ) → StandsFor held before bytes → is_complete held.left (length held.joined) held.whole ≡ true → One held.joined bytes
one_of held before bytes s done =
    let parts = complete_parts held.left (length held.joined) held.whole done in
    record {
      frames = s.frames;
      are = subst (λ (k : ℕ). AreFrames k 0 s.frames) (sym parts.2) s.are;
      joined = sym (joined_whole held before bytes s parts.0);
      bytes_are = sym (s.bytes_are ∙ ap (λ (r : List ℕ). concat s.frames ++ r) (no_part_after held before bytes s done) ∙ append-nil (concat s.frames));
      some = omega (arith, parts.1);
      most = omega (arith, parts.2, s.most);
    }

complete_from : (left joined whole : ℕ) → left ≡ 0 → 0 < joined → joined ≡ whole → is_complete left joined whole ≡ true
complete_from left joined whole z some same = grind (arith, nat_tests)

-- and only there is the message complete
pub complete_at_one : (held : Held) (before : ℕ) (bytes m : List ℕ) → StandsFor held before bytes → One m bytes → (held.joined ≡ m) × (is_complete held.left (length held.joined) held.whole ≡ true)
complete_at_one held before bytes m s o =
    let lo : length (flat_map data_of o.frames) ≡ length m = ap length o.joined in
    let same = unique (length m) held.whole 0 (length m) (length (flat_map data_of s.frames)) o.frames s.frames [] s.part o.most s.most (λ z. absurd (omega arith)) o.are s.are
    (omega arith) (omega arith) (done_blocks (length m) (length m) [] o.some refl) (part_blocks held.whole (length (flat_map data_of s.frames)) s.part s.is_part)
    (append-nil (concat o.frames) ∙ o.bytes_are ∙ s.bytes_are) in
    let part : length s.part ≡ 0 = sym (ap length same.1) in
    let left : held.left ≡ 0 = s.in_head (omega arith) in
    let joined : held.joined ≡ m = joined_whole held before bytes s left ∙ ap (flat_map data_of) (sym same.0) ∙ o.joined in
    let agree : length m ≡ held.whole = frames_agree (length m) held.whole s.frames (subst (AreFrames (length m) 0) same.0 o.are) s.are (omega (arith, o.some, ap (λ (r : List (List ℕ)). length (flat_map data_of r)) same.0)) in
    (joined, complete_from held.left (length held.joined) held.whole left (omega (arith, o.some, ap length joined)) (omega (arith, agree, ap length joined)))

waiting_from : (held : Held) → held.fault ≡ None → is_complete held.left (length held.joined) held.whole ≡ true → waiting held ≡ Some held.joined
waiting_from held f done = grind (arith, f, done)

waiting_gives : (held : Held) (m : List ℕ) → waiting held ≡ Some m → (is_complete held.left (length held.joined) held.whole ≡ true) × (held.joined ≡ m)
waiting_gives held m e = grind (arith, e)

-- a message waits exactly where the bytes are that message in frames
pub waits_at_one : (held : Held) (before : ℕ) (bytes m : List ℕ) → StandsFor held before bytes → (waiting held ≡ Some m) ↔ One m bytes
waits_at_one held before bytes m s = (
  λ e. let w = waiting_gives held m e in subst (λ (r : List ℕ). One r bytes) w.1 (one_of held before bytes s w.0),
  λ o. let c = complete_at_one held before bytes m s o in waiting_from held s.no_fault c.1 ∙ ap (λ (r : List ℕ). Some r) c.0,
)

-- messages after messages
pub Carried-append : (ms ns : List (List ℕ)) (a b : List ℕ) → Carried ms a → Carried ns b → Carried (ms ++ ns) (a ++ b)
Carried-append [] ns a b c d = subst (λ (r : List ℕ). Carried ns (r ++ b)) (sym c) d
Carried-append (m ∷ ms) ns a b c d = (c.0, c.1 ++ b, ap (λ (r : List ℕ). r ++ b) c.2 ∙ append_assoc c.0 c.1 b, c.3, Carried-append ms ns c.1 b c.4 d)

pub carried_one : (m a : List ℕ) → One m a → Carried (m ∷ []) a
carried_one m a o = (a, [], sym (append-nil a), o, refl)

-- a fault after messages
pub fault_after : (ms : List (List ℕ)) (a b : List ℕ) (place : ℕ) (why : ChunkWhy) → Carried ms a → ChunkFault b place why → ChunkFault (a ++ b) (length a + place) why
fault_after ms a b place why c f = record {
  messages = ms ++ f.messages;
  whole = a ++ f.whole;
  n = f.n;
  joined = f.joined;
  begun = f.begun;
  head = f.head;
  fault = f.fault;
  are_whole = Carried-append ms f.messages a f.whole c f.are_whole;
  are_begun = f.are_begun;
  bytes_are = ap (λ (r : List ℕ). a ++ r) (f.bytes_are ∙ append_assoc f.whole f.begun f.head) ∙ sym (append_assoc a f.whole (f.begun ++ f.head)) ∙ sym (append_assoc (a ++ f.whole) f.begun f.head);
  has = f.has;
  place_is = omega (arith, f.place_is, length-append a f.whole);
  why_is = f.why_is;
}

lacking_short : (held : Held) (before : ℕ) (bytes : List ℕ) (s : StandsFor held before bytes) → is_complete held.left (length held.joined) held.whole ≡ false
    → 0 < length (flat_map data_of s.frames) → 0 + length (flat_map data_of s.frames) ≤ held.whole → length (flat_map data_of s.frames) < held.whole
lacking_short held before bytes s lacking some within =
    elim (cases_eq (length (flat_map data_of s.frames)) held.whole) [
      | inl same ↦
          let no_part : s.part ≡ [] = s.complete some same in
          let left : held.left ≡ 0 = s.in_head (omega (arith, ap length no_part)) in
          let joined = ap length (joined_whole held before bytes s left) in
          absurd (lacks held.left (length held.joined) held.whole left lacking (omega (arith, joined)) (omega (arith, joined)))
      | inr ne ↦ omega (arith, ne)
    ]

-- a joiner with an incomplete message stands for the rest of a stream
pub begun_of : (held : Held) (before : ℕ) (bytes : List ℕ) → StandsFor held before bytes → is_complete held.left (length held.joined) held.whole ≡ false → IsStream [] bytes
begun_of held before bytes s lacking =
    elim (cases_eq (length (flat_map data_of s.frames)) 0) [
      | inl none ↦
          let no_frames : s.frames ≡ [] = frames-nil held.whole 0 s.frames s.are none in
          record {
            whole = [];
            n = 1;
            joined = [];
            begun = concat s.frames;
            part = s.part;
            are_whole = refl;
            are_begun = record { frames = []; are = tt; joined_are = refl; bytes_are = ap concat (sym no_frames); short = omega arith; most = omega arith };
            is_part = record {
              size = s.is_part.size;
              head = λ more. fresh_head held.whole 1 (size_of s.part) (length_of s.part) (flags_of s.part) ∙ subst (λ (k : ℕ). head_fault held.whole k s.part ≡ None) none (s.is_part.head more);
              short = s.is_part.short;
            };
            bytes_are = s.bytes_are;
          }
      | inr some ↦
          let within = frames-within held.whole 0 s.frames s.are (λ (e : s.frames ≡ []). some (ap (λ (r : List (List ℕ)). length (flat_map data_of r)) e)) in
          record {
            whole = [];
            n = held.whole;
            joined = flat_map data_of s.frames;
            begun = concat s.frames;
            part = s.part;
            are_whole = refl;
            are_begun = record { frames = s.frames; are = s.are; joined_are = refl; bytes_are = refl; short = lacking_short held before bytes s lacking (omega arith) within; most = s.most };
            is_part = s.is_part;
            bytes_are = s.bytes_are;
          }
    ]
