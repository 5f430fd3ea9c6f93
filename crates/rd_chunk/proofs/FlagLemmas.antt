-- The flags of a message's frames by their places.
use Rattle.std.proofs.Common.{◌≡◌, ℕ, ◌+◌, arith, sym, ◌∙◌, ap, subst, length, ◌++◌, ◌∷◌, [], length-append, add-zero, List, ◌↔◌, IsTrue}
use Rattle.std.specs.List.{flat_map}
use Rattle.std.proofs.lemmas.Bool.{eqb-true, eq-eqb}
use Rattle.std.proofs.lemmas.List.Concat.{flat_map-append}
use Rattle.rd_chunk.specs.Frames.{AreFrames, IsFrame, data_of, is_first, is_last}
use Rattle.rd_chunk.proofs.StandsForLemmas.{frames-nil}

-- a frame among others
record Among (n before : ℕ) (earlier : List (List ℕ)) (frame : List ℕ) (later : List (List ℕ)) : Type 0 where
  are_earlier : AreFrames n before earlier
  it : IsFrame n (before + length (flat_map data_of earlier)) frame
  are_later : AreFrames n (before + length (flat_map data_of earlier) + length (data_of frame)) later

among : (n before : ℕ) (earlier : List (List ℕ)) (frame : List ℕ) (later : List (List ℕ)) → AreFrames n before (earlier ++ frame ∷ later) → Among n before earlier frame later
among n before [] frame later h = record {
  are_earlier = tt;
  it = subst (λ (k : ℕ). IsFrame n k frame) (sym (add-zero before)) h.0;
  are_later = subst (λ (k : ℕ). AreFrames n (k + length (data_of frame)) later) (sym (add-zero before)) h.1;
}
among n before (f ∷ earlier) frame later h =
    let rest = among n (before + length (data_of f)) earlier frame later h.1 in
    let at : before + length (data_of f) + length (flat_map data_of earlier) ≡ before + length (flat_map data_of (f ∷ earlier)) = omega (arith, length-append (data_of f) (flat_map data_of earlier)) in
    record {
      are_earlier = (h.0, rest.are_earlier);
      it = subst (λ (k : ℕ). IsFrame n k frame) at rest.it;
      are_later = subst (λ (k : ℕ). AreFrames n (k + length (data_of frame)) later) at rest.are_later;
    }

no_data : (n before : ℕ) (frames : List (List ℕ)) → frames ≡ [] → length (flat_map data_of frames) ≡ 0
no_data n before frames e = ap (λ (r : List (List ℕ)). length (flat_map data_of r)) e

pub first_alone : (n : ℕ) (earlier later : List (List ℕ)) (frame : List ℕ) → AreFrames n 0 (earlier ++ frame ∷ later) → IsTrue (is_first frame) ↔ (earlier ≡ [])
first_alone n earlier later frame h =
    let a = among n 0 earlier frame later h in (
      λ yes. frames-nil n 0 earlier a.are_earlier (omega (arith, eqb-true (0 + length (flat_map data_of earlier)) 0 (sym a.it.first ∙ yes))),
      λ none. a.it.first ∙ eq-eqb (0 + length (flat_map data_of earlier)) 0 (omega (arith, no_data n 0 earlier none)),
    )

pub last_alone : (n : ℕ) (earlier later : List (List ℕ)) (frame : List ℕ) → AreFrames n 0 (earlier ++ frame ∷ later) → length (flat_map data_of (earlier ++ frame ∷ later)) ≡ n → IsTrue (is_last frame) ↔ (later ≡ [])
last_alone n earlier later frame h whole =
    let a = among n 0 earlier frame later h in
    let sum : length (flat_map data_of earlier) + (length (data_of frame) + length (flat_map data_of later)) ≡ n =
    omega (arith, whole, ap length (flat_map-append data_of earlier (frame ∷ later)), length-append (flat_map data_of earlier) (flat_map data_of (frame ∷ later)), length-append (data_of frame) (flat_map data_of later)) in (
      λ yes. frames-nil n (0 + length (flat_map data_of earlier) + length (data_of frame)) later a.are_later (omega (arith, sum, eqb-true (0 + length (flat_map data_of earlier) + length (data_of frame)) n (sym a.it.last ∙ yes))),
      λ none. a.it.last ∙ eq-eqb (0 + length (flat_map data_of earlier) + length (data_of frame)) n (omega (arith, sum, no_data n 0 later none)),
    )
