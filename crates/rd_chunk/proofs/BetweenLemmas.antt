-- Joiners between two messages (`Joiner::between`), and at a complete one.
use Rattle.std.proofs.Common.{◌≡◌, ◌≤◌, ◌<◌, ℕ, ◌+◌, ◌%◌, ◌^◌, arith, sym, ◌∙◌, ap, length, ◌++◌, ◌∷◌, [], None, length-append, length-drop, length-take, refl, List, take, true}
use Rattle.std.specs.List.{concat, flat_map}
use Rattle.std.proofs.lemmas.List.{nil_from_length}
use Rattle.rd_chunk.specs.Frames.{data_of, AreFrames}
use Rattle.rd_chunk.specs.Standing.{Held, StandsFor, is_complete}
use Rattle.rd_chunk.proofs.StandsForLemmas.{no_part, frames-nil, joined_whole}
use Rattle.std.proofs.lemmas.Bool.Decides.{nat_tests}

pub fresh : (held : Held) (before : ℕ) → held.joined ≡ [] → held.head ≡ [] → held.left ≡ 0 → held.whole ≤ 1052672 → held.taken ≡ before % 2 ^ 64 → held.fault ≡ None → StandsFor held before []
fresh held before joined head left most taken fault = record {
  frames = [];
  part = [];
  are = tt;
  bytes_are = refl;
  is_part = no_part held.whole 0;
  joined_are = joined;
  head_is = head;
  still = λ h. absurd (omega arith);
  in_head = λ h. left;
  same = λ h. absurd (omega arith);
  most = most;
  complete = λ y e. refl;
  taken_are = taken ∙ ap (λ (k : ℕ). k % 2 ^ 64) (omega arith);
  no_fault = fault;
}

-- frames are never empty
frames-empty : (n before : ℕ) (xs : List (List ℕ)) → AreFrames n before xs → length (concat xs) ≡ 0 → xs ≡ []
frames-empty n before [] h e = refl
frames-empty n before (x ∷ xs) h e = absurd (omega (arith, h.0.some, length-drop 12 x, length-append x (concat xs)))

-- a joiner with nothing of a frame and no data stands for nothing
pub nothing_came : (held : Held) (before : ℕ) (bytes : List ℕ) → StandsFor held before bytes → length held.joined + length held.head ≡ 0 → bytes ≡ []
nothing_came held before bytes s none =
    let part_nil : length s.part ≡ 0 = omega (arith, ap length s.head_is, length-take 12 s.part) in
    let data_nil : length (flat_map data_of s.frames) ≡ 0 = omega (arith, ap length s.joined_are, length-append (flat_map data_of s.frames) (data_of s.part)) in
    s.bytes_are ∙ ap (λ (r : List (List ℕ)). concat r ++ s.part) (frames-nil held.whole 0 s.frames s.are data_nil) ∙ nil_from_length s.part part_nil

pub nothing_held : (held : Held) (before : ℕ) (bytes : List ℕ) → StandsFor held before bytes → bytes ≡ [] → length held.joined + length held.head ≡ 0
nothing_held held before bytes s e =
    let len : length (concat s.frames) + length s.part ≡ 0 = sym (length-append (concat s.frames) s.part) ∙ sym (ap length s.bytes_are) ∙ ap length e in
    let no_frames : s.frames ≡ [] = frames-empty held.whole 0 s.frames s.are (omega arith) in
    let part_nil : s.part ≡ [] = nil_from_length s.part (omega arith) in
    let joined : length held.joined ≡ 0 = ap length (s.joined_are ∙ ap (λ (r : List (List ℕ)). flat_map data_of r ++ data_of s.part) no_frames ∙ ap data_of part_nil) in
    omega (arith, ap length (s.head_is ∙ ap (take 12) part_nil))

pub complete_parts : (left joined whole : ℕ) → is_complete left joined whole ≡ true → (left ≡ 0) × (0 < joined) × (joined ≡ whole)
complete_parts left joined whole h = grind (arith, nat_tests, h)

-- a complete message has no part of a frame after it
pub no_part_after : (held : Held) (before : ℕ) (bytes : List ℕ) (s : StandsFor held before bytes) → is_complete held.left (length held.joined) held.whole ≡ true → s.part ≡ []
no_part_after held before bytes s done =
    let parts = complete_parts held.left (length held.joined) held.whole done in
    let same = ap length (joined_whole held before bytes s parts.0) in
    s.complete (omega (arith, same, parts.1)) (omega (arith, same, parts.2))

pub no_head_after : (held : Held) (before : ℕ) (bytes : List ℕ) (s : StandsFor held before bytes) → is_complete held.left (length held.joined) held.whole ≡ true → held.head ≡ []
no_head_after held before bytes s done = s.head_is ∙ ap (take 12) (no_part_after held before bytes s done)
