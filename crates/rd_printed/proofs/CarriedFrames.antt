-- The frames that are written for a message carry it, as they stand in the list of them.
use Rattle.std.proofs.Common.{◌≡◌, ◌≤◌, ◌<◌, ℕ, zero, suc, ◌+◌, ◌-◌, ◌*◌, ◌^◌, min, arith, sym, ◌∙◌, ap, subst, length, ◌++◌, length-drop, length-take, refl, List, take, drop, true, false, Bool, mul_comm}
use Rattle.std.specs.Prelude.{◌==◌, nat_lt, not, bit_and, bit_or, if◌then◌else◌}
use Rattle.std.specs.List.{flat_map}
use Rattle.std.specs.Int.{w32, to_le_bytes, div_ceil}
use Rattle.std.proofs.lemmas.List.{take_all}
use Rattle.std.proofs.lemmas.Nat.{from_le_bytes-to_le_bytes_4}
use Rattle.std.proofs.lemmas.Grind.{div_ceil_times}
use Rattle.std.proofs.lemmas.Bool.Decides.{nat_tests}
use Rattle.std.proofs.Math.Seq.{take-add}
use Rattle.rd_chunk.specs.Frames.{size_of, length_of, flags_of, data_of, IsFrame, AreFrames}
use Rattle.rd_chunk.specs.Carrier.{IsMessage, carrier_data, carrier_flags, carrier_frame, carrier_frames, frames_for}
use Rattle.rd_chunk.proofs.StandsForLemmas.{data-push, AreFrames-push}

-- the fields of a head as they were written
record Fields (a b c : ℕ) (d f : List ℕ) : Type 0 where
  size : size_of f ≡ a
  whole : length_of f ≡ b
  flags : flags_of f ≡ c
  rest : data_of f ≡ d
  long : length f ≡ length d + 12

fields : (a b c : ℕ) (d : List ℕ) → a < 2 ^ 32 → b < 2 ^ 32 → c < 2 ^ 32 → Fields a b c d (to_le_bytes w32 a ++ to_le_bytes w32 b ++ to_le_bytes w32 c ++ d)
unfolding size_of length_of flags_of
fields a b c d ha hb hc = record {
  size = from_le_bytes-to_le_bytes_4 a ha;
  whole = from_le_bytes-to_le_bytes_4 b hb;
  flags = from_le_bytes-to_le_bytes_4 c hc;
  rest = refl;
  long = omega arith;
}

flag_bits : (first more : Bool) → let flags = bit_or (if first then 0x1 else 0) (if more then 0 else 0x2) in
    (not (bit_and flags 0x1 == 0) ≡ first) × (not (bit_and flags 0x2 == 0) ≡ not more) × (not (bit_and flags 0x200000 == 0) ≡ false) × (flags < 2 ^ 32)
flag_bits true true = (refl, refl, refl, omega arith)
flag_bits true false = (refl, refl, refl, omega arith)
flag_bits false true = (refl, refl, refl, omega arith)
flag_bits false false = (refl, refl, refl, omega arith)

no_data_before : (k : ℕ) → (k == 0) ≡ (1600 * k == 0)
no_data_before k = grind (arith, nat_tests)

last_flag : (k d n : ℕ) → d ≡ min 1600 (n - 1600 * k) → 1600 * k < n → not (nat_lt (1600 * k + 1600) n) ≡ (1600 * k + d == n)
last_flag k d n e h = grind (arith, nat_tests)

data_length : (m : List ℕ) (k : ℕ) → length (carrier_data m k) ≡ min 1600 (length m - 1600 * k)
data_length m k = length-take 1600 (drop (1600 * k) m) ∙ ap (min 1600) (length-drop (1600 * k) m)

is_frame : (m : List ℕ) (k : ℕ) → 1600 * k < length m → length m ≤ 1052672 → IsFrame (length m) (1600 * k) (carrier_frame m k)
unfolding carrier_frame
is_frame m k more most =
    let bits = flag_bits (k == 0) (nat_lt (1600 * k + 1600) (length m)) in
    let d : length (carrier_data m k) ≡ min 1600 (length m - 1600 * k) = data_length m k in
    let f = fields (length (carrier_data m k) + 8) (length m) (carrier_flags (length m) k) (carrier_data m k) (omega (arith, d)) (omega arith) bits.3 in
    let frame : List ℕ = to_le_bytes w32 (length (carrier_data m k) + 8) ++ to_le_bytes w32 (length m) ++ to_le_bytes w32 (carrier_flags (length m) k) ++ carrier_data m k in
    let data_len = ap length f.rest in
    record {
      size = omega (arith, f.size, data_len);
      some = omega (arith, data_len, d);
      most = omega (arith, data_len, d);
      plain = ap (λ (x : ℕ). not (bit_and x 0x200000 == 0)) f.flags ∙ bits.2;
      whole = f.whole;
      within = omega (arith, data_len, d);
      first = ap (λ (x : ℕ). not (bit_and x 0x1 == 0)) f.flags ∙ bits.0 ∙ no_data_before k;
      last = ap (λ (x : ℕ). not (bit_and x 0x2 == 0)) f.flags ∙ bits.1 ∙ last_flag k (length (carrier_data m k)) (length m) d more ∙ ap (λ (x : ℕ). 1600 * k + x == length m) (sym data_len);
    }

data_is : (m : List ℕ) (k : ℕ) → 1600 * k < length m → length m ≤ 1052672 → data_of (carrier_frame m k) ≡ carrier_data m k
unfolding carrier_frame
data_is m k more most = refl

-- the first frames carry a prefix of the message
frames_carry : (m : List ℕ) (k : ℕ) → 1600 * k < length m + 1600 → length m ≤ 1052672 → AreFrames (length m) 0 (carrier_frames m k) × (flat_map data_of (carrier_frames m k) ≡ take (1600 * k) m)
frames_carry m zero h most = (tt, refl)
frames_carry m (suc k) h most =
    let before = frames_carry m k (omega arith) most in
    let more : 1600 * k < length m = omega arith in
    let at : 0 + length (flat_map data_of (carrier_frames m k)) ≡ 1600 * k = omega (arith, ap length before.1, length-take (1600 * k) m) in (
      AreFrames-push (length m) 0 (carrier_frames m k) (carrier_frame m k) before.0 (subst (λ (x : ℕ). IsFrame (length m) x (carrier_frame m k)) (sym at) (is_frame m k more most)),
      data-push (carrier_frames m k) (carrier_frame m k) ∙ ap (λ (x : List ℕ). x ++ data_of (carrier_frame m k)) before.1 ∙ ap (λ (x : List ℕ). take (1600 * k) m ++ x) (data_is m k more most)
          ∙ sym (take-add (1600 * k) 1600 m) ∙ ap (λ (x : ℕ). take x m) (omega arith),
    )

-- all frames of a message
pub frames_carry_all : (m : List ℕ) → IsMessage m → AreFrames (length m) 0 (frames_for m) × (flat_map data_of (frames_for m) ≡ m)
frames_carry_all m is =
    let times = div_ceil_times (length m) 1600 (omega arith) in
    let carry = frames_carry m (div_ceil (length m) 1600) (omega (arith, times, mul_comm (div_ceil (length m) 1600) 1600)) is.1 in
    (carry.0, carry.1 ∙ take_all (1600 * div_ceil (length m) 1600) m (omega (arith, times, mul_comm (div_ceil (length m) 1600) 1600)))
