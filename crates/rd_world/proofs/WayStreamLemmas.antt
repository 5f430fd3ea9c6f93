-- The first message of a stream (`first_message`): frames that carry a message give it, whatever comes after; and what is found in a part of carried messages is their first.
use Rattle.std.proofs.Common.{◌≡◌, ◌≤◌, ◌<◌, inl, inr, ℕ, zero, suc, ◌+◌, arith, sym, ◌∙◌, ap, subst, refl, length, ◌++◌, ◌∷◌, [], List, take, drop, true, false, Bool, Some, None, Option, length-append, length-drop, append_assoc, append-nil}
use Rattle.std.specs.Prelude.{nat_lt}
use Rattle.std.specs.List.{concat, flat_map, AllByRecursion}
use Rattle.std.proofs.lemmas.List.{take_at, drop_at, take-append-le, drop-append-le, append_cancel_right}
use Rattle.std.proofs.lemmas.Bool.{cases_Bool}
use Rattle.std.proofs.lemmas.Bool.Decides.{nat_tests}
use Rattle.rd_chunk.specs.Carrier.{IsMessage, carrier_of, carrier_stream}
use Rattle.rd_chunk.specs.Frames.{AreFrames, IsFrame, One, data_of, is_last, size_of}
use Rattle.rd_chunk.proofs.CarrierLemmas.{carrier_one}
use Rattle.rd_chunk.proofs.HeadLemmas.{size_of-append}
use Rattle.rd_world.specs.World.{first_frame, first_message, message_in}

-- ---- the first frame

frame_length : (n before : ℕ) (f : List ℕ) → IsFrame n before f → length f ≡ length (data_of f) + 12
frame_length n before f is = omega (arith, is.some, length-drop 12 f)

-- what is known of a first frame that is found
record Found (bytes frame rest : List ℕ) : Type 0 where
  long : 12 ≤ length bytes
  whole : size_of bytes + 4 ≤ length bytes
  frame_is : frame ≡ take (size_of bytes + 4) bytes
  rest_is : rest ≡ drop (size_of bytes + 4) bytes

at_least : (a b : ℕ) → nat_lt a b ≡ false → b ≤ a
at_least a b e = grind (arith, nat_tests)

finds : (bytes : List ℕ) → 12 ≤ length bytes → size_of bytes + 4 ≤ length bytes → first_frame bytes ≡ Some (take (size_of bytes + 4) bytes, drop (size_of bytes + 4) bytes)
finds bytes long whole =
    let a : nat_lt (length bytes) 12 ≡ false = grind (arith, nat_tests) in
    let b : nat_lt (length bytes) (size_of bytes + 4) ≡ false = grind (arith, nat_tests) in
    rw (a, b) refl

found : (bytes frame rest : List ℕ) → first_frame bytes ≡ Some (frame, rest) → Found bytes frame rest
found bytes frame rest e =
    elim (cases_Bool (nat_lt (length bytes) 12)) [
      | inl short ↦ absurd (cc (rw short at e))
      | inr long ↦ elim (cases_Bool (nat_lt (length bytes) (size_of bytes + 4))) [
        | inl less ↦ absurd (cc (rw (long, less) at e))
        | inr whole ↦
            let same : Some (take (size_of bytes + 4) bytes, drop (size_of bytes + 4) bytes) ≡ Some (frame, rest) = rw (long, whole) at e in
            let both : (take (size_of bytes + 4) bytes, drop (size_of bytes + 4) bytes) ≡ (frame, rest) = cc in
            record {
              long = at_least (length bytes) 12 long;
              whole = at_least (length bytes) (size_of bytes + 4) whole;
              frame_is = sym (ap (λ (x : List ℕ × List ℕ). x.0) both);
              rest_is = sym (ap (λ (x : List ℕ × List ℕ). x.1) both);
            }
      ]
    ]

-- a frame at the start is found
frame_first : (n before : ℕ) (f rest : List ℕ) → IsFrame n before f → first_frame (f ++ rest) ≡ Some (f, rest)
frame_first n before f rest is =
    let long = frame_length n before f is in
    let size : size_of (f ++ rest) ≡ size_of f = size_of-append f rest (omega (arith, long)) in
    let len : length f ≡ size_of (f ++ rest) + 4 = omega (arith, long, is.size, size) in
    let all : length (f ++ rest) ≡ length f + length rest = length-append f rest in
    finds (f ++ rest) (omega (arith, long, is.some)) (omega arith)
    ∙ cc (take_at f rest (size_of (f ++ rest) + 4) len, drop_at f rest (size_of (f ++ rest) + 4) len)

-- and where more comes after
frame_grows : (bytes tail frame rest : List ℕ) → first_frame bytes ≡ Some (frame, rest) → first_frame (bytes ++ tail) ≡ Some (frame, rest ++ tail)
frame_grows bytes tail frame rest e =
    let f = found bytes frame rest e in
    let size : size_of (bytes ++ tail) ≡ size_of bytes = size_of-append bytes tail (omega (arith, f.long)) in
    let all : length (bytes ++ tail) ≡ length bytes + length tail = length-append bytes tail in
    finds (bytes ++ tail) (omega (arith, f.long)) (omega (arith, f.whole))
    ∙ cc (take-append-le (size_of bytes + 4) bytes tail f.whole, drop-append-le (size_of bytes + 4) bytes tail f.whole, f.frame_is, f.rest_is)

-- ---- the first message

-- it stays so where more comes after, and where more frames are looked at
message_grows : (n m : ℕ) (joined bytes tail message rest : List ℕ) → n ≤ m → message_in n joined bytes ≡ Some (message, rest)
    → message_in m joined (bytes ++ tail) ≡ Some (message, rest ++ tail)
message_grows zero m joined bytes tail message rest le e = absurd (cc)
message_grows (suc n) zero joined bytes tail message rest le e = absurd (omega arith)
message_grows (suc n) (suc m) joined bytes tail message rest le e = go (first_frame bytes) refl (λ j b. message_grows n m j b tail message rest (omega arith))
  where
    last : (frame after : List ℕ) → first_frame bytes ≡ Some (frame, after) → (b : Bool) → is_last frame ≡ b
        → ((j b : List ℕ) → message_in n j b ≡ Some (message, rest) → message_in m j (b ++ tail) ≡ Some (message, rest ++ tail))
        → message_in (suc m) joined (bytes ++ tail) ≡ Some (message, rest ++ tail)
    last frame after f true l again =
        let same : Some (joined ++ data_of frame, after) ≡ Some (message, rest) = rw (f, l) at e in
        let both : (joined ++ data_of frame, after) ≡ (message, rest) = cc in
        rw (frame_grows bytes tail frame after f, l) (ap (λ (x : List ℕ × List ℕ). Some (x.0, x.1 ++ tail)) both)
    last frame after f false l again =
        let on : message_in n (joined ++ data_of frame) after ≡ Some (message, rest) = rw (f, l) at e in
        rw (frame_grows bytes tail frame after f, l) (again (joined ++ data_of frame) after on)

    go : (o : Option (List ℕ × List ℕ)) → first_frame bytes ≡ o
        → ((j b : List ℕ) → message_in n j b ≡ Some (message, rest) → message_in m j (b ++ tail) ≡ Some (message, rest ++ tail))
        → message_in (suc m) joined (bytes ++ tail) ≡ Some (message, rest ++ tail)
    go None f again = absurd (cc (rw f at e))
    go (Some (frame, after)) f again = last frame after f (is_last frame) refl again

first_grows : (bytes tail message rest : List ℕ) → first_message bytes ≡ Some (message, rest) → first_message (bytes ++ tail) ≡ Some (message, rest ++ tail)
first_grows bytes tail message rest e = message_grows (length bytes) (length (bytes ++ tail)) [] bytes tail message rest (omega (arith, length-append bytes tail)) e

-- the frames of a message give it
frames_join : (n before most : ℕ) (joined rest f : List ℕ) (fs : List (List ℕ)) → AreFrames n before (f ∷ fs) → before + length (flat_map data_of (f ∷ fs)) ≡ n
    → length (f ∷ fs) ≤ most → message_in most joined (concat (f ∷ fs) ++ rest) ≡ Some (joined ++ flat_map data_of (f ∷ fs), rest)
frames_join n before zero joined rest f fs are all le = absurd (omega arith)
frames_join n before (suc most) joined rest f [] are all le =
    let whole : before + length (data_of f) ≡ n = omega (arith, length-append (data_of f) [], all) in
    let last : is_last f ≡ true = are.0.last ∙ grind (arith, nat_tests) in
    let one : first_frame ((f ++ []) ++ rest) ≡ Some (f, rest) = ap first_frame (ap (λ (x : List ℕ). x ++ rest) (append-nil f)) ∙ frame_first n before f rest are.0 in
    rw (one, last) (ap (λ (x : List ℕ). Some (joined ++ x, rest)) (sym (append-nil (data_of f))))
frames_join n before (suc most) joined rest f (g ∷ gs) are all le =
    let more : length (flat_map data_of (f ∷ g ∷ gs)) ≡ length (data_of f) + length (flat_map data_of (g ∷ gs)) = length-append (data_of f) (flat_map data_of (g ∷ gs)) in
    let some : length (flat_map data_of (g ∷ gs)) ≡ length (data_of g) + length (flat_map data_of gs) = length-append (data_of g) (flat_map data_of gs) in
    let not_whole : before + length (data_of f) < n = omega (arith, are.1.0.some) in
    let last : is_last f ≡ false = are.0.last ∙ grind (arith, nat_tests) in
    let one : first_frame ((f ++ concat (g ∷ gs)) ++ rest) ≡ Some (f, concat (g ∷ gs) ++ rest) =
    ap first_frame (append_assoc f (concat (g ∷ gs)) rest) ∙ frame_first n before f (concat (g ∷ gs) ++ rest) are.0 in
    rw (one, last) (frames_join n (before + length (data_of f)) most (joined ++ data_of f) rest g gs are.1 (omega arith) (omega arith)
    ∙ ap (λ (x : List ℕ). Some (x, rest)) (append_assoc joined (data_of f) (flat_map data_of (g ∷ gs))))

-- each frame has a byte
few_frames : (n before : ℕ) (fs : List (List ℕ)) → AreFrames n before fs → length fs ≤ length (concat fs)
few_frames n before [] are = omega arith
few_frames n before (f ∷ fs) are =
    omega (arith, length-append f (concat fs), frame_length n before f are.0, few_frames n (before + length (data_of f)) fs are.1)

-- bytes that carry one message give it, whatever comes after
pub first_of_one : (message bytes rest : List ℕ) → One message bytes → first_message (bytes ++ rest) ≡ Some (message, rest)
first_of_one message bytes rest one = go one.frames one.are one.joined one.bytes_are
  where
    go : (fs : List (List ℕ)) → AreFrames (length message) 0 fs → flat_map data_of fs ≡ message → concat fs ≡ bytes → first_message (bytes ++ rest) ≡ Some (message, rest)
    go [] are joined same = absurd (omega (arith, one.some, ap length joined))
    go (f ∷ fs) are joined same =
        let few : length (f ∷ fs) ≤ length (bytes ++ rest) = omega (arith, few_frames (length message) 0 (f ∷ fs) are, ap length same, length-append bytes rest) in
        let given = frames_join (length message) 0 (length (bytes ++ rest)) [] rest f fs are (omega (arith, ap length joined)) few in
        ap (λ (x : List ℕ). message_in (length (bytes ++ rest)) [] (x ++ rest)) (sym same) ∙ given ∙ ap (λ (x : List ℕ). Some (x, rest)) joined

-- what is found in a part of carried messages is a whole message at its start
pub found_is_one : (messages : List (List ℕ)) (bytes later message rest : List ℕ) → AllByRecursion IsMessage messages → bytes ++ later ≡ carrier_stream messages
    → first_message bytes ≡ Some (message, rest) → One message (carrier_of message) × (carrier_of message ++ rest ≡ bytes)
found_is_one [] bytes later message rest fit carried e =
    let none : first_message (bytes ++ later) ≡ None = ap first_message carried in
    absurd (cc (first_grows bytes later message rest e))
found_is_one (m ∷ ms) bytes later message rest fit carried e =
    let one : One m (carrier_of m) = carrier_one m fit.0.0 fit.0.1 in
    let same : Some (m, carrier_stream ms) ≡ Some (message, rest ++ later) =
    sym (first_of_one m (carrier_of m) (carrier_stream ms) one) ∙ ap first_message (sym carried) ∙ first_grows bytes later message rest e in
    let both : (m, carrier_stream ms) ≡ (message, rest ++ later) = cc in
    let is : m ≡ message = ap (λ (x : List ℕ × List ℕ). x.0) both in
    let left : carrier_stream ms ≡ rest ++ later = ap (λ (x : List ℕ × List ℕ). x.1) both in (
      subst (λ (x : List ℕ). One x (carrier_of x)) is one,
      append_cancel_right (carrier_of message ++ rest) bytes later
          (append_assoc (carrier_of message) rest later ∙ ap (λ (x : List ℕ). carrier_of message ++ x) (sym left) ∙ ap (λ (x : List ℕ). carrier_of x ++ carrier_stream ms) (sym is) ∙ sym carried),
    )

-- ---- what is handled gets shorter

frame_shorter : (bytes frame rest : List ℕ) → first_frame bytes ≡ Some (frame, rest) → length rest < length bytes
frame_shorter bytes frame rest e =
    let f = found bytes frame rest e in
    omega (arith, f.long, f.whole, ap length f.rest_is, length-drop (size_of bytes + 4) bytes)

pub message_shorter : (most : ℕ) (joined bytes message rest : List ℕ) → message_in most joined bytes ≡ Some (message, rest) → length rest < length bytes
message_shorter zero joined bytes message rest e = absurd (cc)
message_shorter (suc most) joined bytes message rest e = go (first_frame bytes) refl (λ j b. message_shorter most j b message rest)
  where
    last : (frame after : List ℕ) → first_frame bytes ≡ Some (frame, after) → (b : Bool) → is_last frame ≡ b
        → ((j b : List ℕ) → message_in most j b ≡ Some (message, rest) → length rest < length b) → length rest < length bytes
    last frame after f true l again =
        let same : Some (joined ++ data_of frame, after) ≡ Some (message, rest) = rw (f, l) at e in
        let both : (joined ++ data_of frame, after) ≡ (message, rest) = cc in
        let left : after ≡ rest = ap (λ (x : List ℕ × List ℕ). x.1) both in
        omega (arith, frame_shorter bytes frame after f, ap length left)
    last frame after f false l again =
        let on : message_in most (joined ++ data_of frame) after ≡ Some (message, rest) = rw (f, l) at e in
        omega (arith, frame_shorter bytes frame after f, again (joined ++ data_of frame) after on)

    go : (o : Option (List ℕ × List ℕ)) → first_frame bytes ≡ o
        → ((j b : List ℕ) → message_in most j b ≡ Some (message, rest) → length rest < length b) → length rest < length bytes
    go None f again = absurd (cc (rw f at e))
    go (Some (frame, after)) f again = last frame after f (is_last frame) refl again
