-- The carrier stream: its frames carry their message.
use Rattle.std.proofs.Common.{◌≡◌, ◌≤◌, ◌<◌, ℕ, zero, suc, ◌+◌, ◌-◌, ◌*◌, ◌^◌, min, arith, sym, ◌∙◌, ap, subst, length, ◌++◌, ◌∷◌, [], length-append, length-drop, length-take, append_assoc, refl, List, take, drop, true, false, Bool, mul_comm}
use Rattle.std.specs.Prelude.{◌==◌, nat_lt, not, bit_and, bit_or, if◌then◌else◌}
use Rattle.std.specs.List.{concat, flat_map, AllByRecursion}
use Rattle.std.specs.Int.{w32, to_le_bytes, div_ceil}
use Rattle.std.proofs.lemmas.List.{take_min, take_all}
use Rattle.std.proofs.lemmas.Nat.{from_le_bytes-to_le_bytes_4}
use Rattle.std.proofs.lemmas.Grind.{div_ceil_times}
use Rattle.std.proofs.lemmas.Bool.Decides.{nat_tests}
use Rattle.std.proofs.Math.Seq.{take-add}
use Rattle.rd_chunk.specs.Frames.{size_of, length_of, flags_of, data_of, IsFrame, AreFrames, One, Carried}
use Rattle.rd_chunk.specs.Carrier.{carrier_data, carrier_flags, carrier_frame, carrier_frames, carrier_of, IsMessage, carrier_stream}
use Rattle.rd_chunk.proofs.StandsForLemmas.{data-push, AreFrames-push}
use Rattle.rd_base.proofs.ListLemmas.{concat-push}
use Rattle.rd_chunk.specs.Sizes.{max_message}

-- bytes of a length that a message can have
pub is_message : (n : ℕ) (m : List ℕ) → length m ≡ n → 1 ≤ n → n ≤ max_message → IsMessage m
is_message n m is low high = (omega (arith, is, low), omega (arith, is, high))

-- the data of a frame, as the code cuts them
pub data_slice : (xs : List ℕ) (k to : ℕ) → to ≡ min (length xs) (k * 1600 + 1600) → 1600 * k < length xs → take (to - k * 1600) (drop (k * 1600) xs) ≡ carrier_data xs k
data_slice xs k to e h =
    let same : k * 1600 ≡ 1600 * k = mul_comm k 1600 in
    let cut : to - 1600 * k ≡ min 1600 (length (drop (1600 * k) xs)) = omega (arith, length-drop (1600 * k) xs) in
    ap (λ (j : ℕ). take (to - j) (drop j xs)) same ∙ ap (λ (j : ℕ). take j (drop (1600 * k) xs)) cut ∙ take_min 1600 (drop (1600 * k) xs)

pub four_pushed : (s0 s1 s2 s3 s4 a b c d : List ℕ) → s1 ≡ s0 ++ a → s2 ≡ s1 ++ b → s3 ≡ s2 ++ c → s4 ≡ s3 ++ d → s4 ≡ s0 ++ (a ++ b ++ c ++ d)
four_pushed s0 s1 s2 s3 s4 a b c d p q r s =
    let all : s4 ≡ s0 ++ a ++ b ++ c ++ d = cc in
    all ∙ ap (λ (x : List ℕ). x ++ c ++ d) (append_assoc s0 a b) ∙ ap (λ (x : List ℕ). x ++ d) (append_assoc s0 (a ++ b) c) ∙ append_assoc s0 (a ++ b ++ c) d

-- the fields of a head as they were written
record Fields (a b c : ℕ) (d f : List ℕ) : Type 0 where
  size : size_of f ≡ a
  whole : length_of f ≡ b
  flags : flags_of f ≡ c
  rest : data_of f ≡ d
  long : length f ≡ length d + 12

fields : (a b c : ℕ) (d : List ℕ) → a < 2 ^ 32 → b < 2 ^ 32 → c < 2 ^ 32 → Fields a b c d (to_le_bytes w32 a ++ to_le_bytes w32 b ++ to_le_bytes w32 c ++ d)
unfolding size_of length_of flags_of
fields a b c d ha hb hc = record {
  size = from_le_bytes-to_le_bytes_4 a ha;
  whole = from_le_bytes-to_le_bytes_4 b hb;
  flags = from_le_bytes-to_le_bytes_4 c hc;
  rest = refl;
  long = omega arith;
}

flag_bits : (first more : Bool) → let flags = bit_or (if first then 0x1 else 0) (if more then 0 else 0x2) in
    (not (bit_and flags 0x1 == 0) ≡ first) × (not (bit_and flags 0x2 == 0) ≡ not more) × (not (bit_and flags 0x200000 == 0) ≡ false) × (flags < 2 ^ 32)
flag_bits true true = (refl, refl, refl, omega arith)
flag_bits true false = (refl, refl, refl, omega arith)
flag_bits false true = (refl, refl, refl, omega arith)
flag_bits false false = (refl, refl, refl, omega arith)

no_data_before : (k : ℕ) → (k == 0) ≡ (1600 * k == 0)
no_data_before k = grind (arith, nat_tests)

last_flag : (k d n : ℕ) → d ≡ min 1600 (n - 1600 * k) → 1600 * k < n → not (nat_lt (1600 * k + 1600) n) ≡ (1600 * k + d == n)
last_flag k d n e h = grind (arith, nat_tests)

data_length : (m : List ℕ) (k : ℕ) → length (carrier_data m k) ≡ min 1600 (length m - 1600 * k)
data_length m k = length-take 1600 (drop (1600 * k) m) ∙ ap (min 1600) (length-drop (1600 * k) m)

is_frame : (m : List ℕ) (k : ℕ) → 1600 * k < length m → length m ≤ 1052672 → IsFrame (length m) (1600 * k) (carrier_frame m k)
unfolding carrier_frame
is_frame m k more most =
    let bits = flag_bits (k == 0) (nat_lt (1600 * k + 1600) (length m)) in
    let d : length (carrier_data m k) ≡ min 1600 (length m - 1600 * k) = data_length m k in
    let f = fields (length (carrier_data m k) + 8) (length m) (carrier_flags (length m) k) (carrier_data m k) (omega (arith, d)) (omega arith) bits.3 in
    let frame : List ℕ = to_le_bytes w32 (length (carrier_data m k) + 8) ++ to_le_bytes w32 (length m) ++ to_le_bytes w32 (carrier_flags (length m) k) ++ carrier_data m k in
    let data_len = ap length f.rest in
    record {
      size = omega (arith, f.size, data_len);
      some = omega (arith, data_len, d);
      most = omega (arith, data_len, d);
      plain = ap (λ (x : ℕ). not (bit_and x 0x200000 == 0)) f.flags ∙ bits.2;
      whole = f.whole;
      within = omega (arith, data_len, d);
      first = ap (λ (x : ℕ). not (bit_and x 0x1 == 0)) f.flags ∙ bits.0 ∙ no_data_before k;
      last = ap (λ (x : ℕ). not (bit_and x 0x2 == 0)) f.flags ∙ bits.1 ∙ last_flag k (length (carrier_data m k)) (length m) d more ∙ ap (λ (x : ℕ). 1600 * k + x == length m) (sym data_len);
    }

data_is : (m : List ℕ) (k : ℕ) → 1600 * k < length m → length m ≤ 1052672 → data_of (carrier_frame m k) ≡ carrier_data m k
unfolding carrier_frame
data_is m k more most = refl

-- the first frames carry a prefix of the message
frames_carry : (m : List ℕ) (k : ℕ) → 1600 * k < length m + 1600 → length m ≤ 1052672 → AreFrames (length m) 0 (carrier_frames m k) × (flat_map data_of (carrier_frames m k) ≡ take (1600 * k) m)
frames_carry m zero h most = (tt, refl)
frames_carry m (suc k) h most =
    let before = frames_carry m k (omega arith) most in
    let more : 1600 * k < length m = omega arith in
    let at : 0 + length (flat_map data_of (carrier_frames m k)) ≡ 1600 * k = omega (arith, ap length before.1, length-take (1600 * k) m) in (
      AreFrames-push (length m) 0 (carrier_frames m k) (carrier_frame m k) before.0 (subst (λ (x : ℕ). IsFrame (length m) x (carrier_frame m k)) (sym at) (is_frame m k more most)),
      data-push (carrier_frames m k) (carrier_frame m k) ∙ ap (λ (x : List ℕ). x ++ data_of (carrier_frame m k)) before.1 ∙ ap (λ (x : List ℕ). take (1600 * k) m ++ x) (data_is m k more most)
          ∙ sym (take-add (1600 * k) 1600 m) ∙ ap (λ (x : ℕ). take x m) (omega arith),
    )

-- the bytes of the first frames, and of one of them
frame_length : (m : List ℕ) (k : ℕ) → length (carrier_frame m k) ≡ length (carrier_data m k) + 12
unfolding carrier_frame
frame_length m k = omega arith

frames_length : (m : List ℕ) (k : ℕ) → length (concat (carrier_frames m k)) ≡ min (1600 * k) (length m) + 12 * k
frames_length m zero = omega arith
frames_length m (suc k) = omega (arith, ap length (concat-push (carrier_frames m k) (carrier_frame m k)), length-append (concat (carrier_frames m k)) (carrier_frame m k), frames_length m k, frame_length m k, data_length m k)

-- where there is room for all frames, there is for each behind those before it
pub room_for_frame : (m : List ℕ) (k held capacity : ℕ) → k < div_ceil (length m) 1600 → held + (length m + 12 * div_ceil (length m) 1600) ≤ capacity
    → held + length (concat (carrier_frames m k)) + length (carrier_frame m k) ≤ capacity
room_for_frame m k held capacity less room = omega (arith, frames_length m k, frame_length m k, data_length m k)

-- what is written carries the message
pub carrier_one : (m : List ℕ) → 1 ≤ length m → length m ≤ 1052672 → One m (carrier_of m)
carrier_one m some most =
    let times = div_ceil_times (length m) 1600 (omega arith) in
    let carry = frames_carry m (div_ceil (length m) 1600) (omega (arith, times, mul_comm (div_ceil (length m) 1600) 1600)) most in
    record {
      frames = carrier_frames m (div_ceil (length m) 1600);
      are = carry.0;
      joined = carry.1 ∙ take_all (1600 * div_ceil (length m) 1600) m (omega (arith, times, mul_comm (div_ceil (length m) 1600) 1600));
      bytes_are = refl;
      some = some;
      most = most;
    }

-- and so do the streams of several
pub stream_carried : (messages : List (List ℕ)) → AllByRecursion IsMessage messages → Carried messages (carrier_stream messages)
stream_carried [] all = refl
stream_carried (m ∷ ms) all = (carrier_of m, carrier_stream ms, refl, carrier_one m all.0.0 all.0.1, stream_carried ms all.1)
