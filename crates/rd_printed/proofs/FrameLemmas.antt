-- The frames of a message, one after another, come to its line.
use Rattle.std.proofs.Common.{◌≡◌, ℕ, ◌+◌, ◌-◌, ◌≤◌, ◌<◌, true, false, List, [], ◌∷◌, ◌++◌, length, take, Option, Some, None, Ok, refl, sym, ap, subst, ◌∙◌, append_assoc, append-nil, length-append, length-drop, arith, eq-eqb, ne_eqb}
use Rattle.std.specs.Prelude.{◌==◌}
use Rattle.std.specs.List.{flat_map}
use Rattle.std.proofs.lemmas.List.{drop_all, take_all}
use Rattle.rd_chunk.specs.Carrier.{IsMessage, frames_for}
use Rattle.rd_chunk.specs.Frames.{AreFrames, IsFrame, data_of, flags_of, length_of, size_of}
use Rattle.rd_chunk.specs.Faults.{fields_fault, size_fault}
use Rattle.rd_chunk.proofs.HeadLemmas.{none_from_good, size_good}
use Rattle.rd_decode.specs.declared.side.Side.{Side}
use Rattle.rd_decode.specs.declared.side.Side.TheVariants.{Host, Client}
use Rattle.rd_decode.specs.Entries.{Channel, after_data, entry, frame_entry, next_entry, nothing_under_way, side_mark, under_way, with_under_way}
use Rattle.rd_decode.specs.Kept.{GoesOn}
use Rattle.rd_decode.specs.Messages.{Printed, message_line}
use Rattle.rd_decode.specs.Recording.{decoded_from, text_before}
use Rattle.rd_decode.proofs.EntryLemmas.{part_ends, part_goes_on, whole_frame, with_data}
use Rattle.rd_decode.proofs.GoesOnLemmas.{after_both, goes_further, goes_nowhere}
use Rattle.rd_printed.proofs.CarriedFrames.{frames_carry_all}
use Rattle.rd_world.specs.Recording.{mark_before}

-- ---- bytes that go on

-- bytes that go on to their end, and then others
pub goes_both : (at : ℕ) (channel : Option Channel) (bytes shown : List ℕ) (place : ℕ) (middle : Option Channel) (others text : List ℕ) (end : ℕ) (last : Option Channel)
    → GoesOn at channel bytes shown place middle [] → GoesOn place middle others text end last [] → GoesOn at channel (bytes ++ others) (shown ++ text) end last []
goes_both at channel bytes shown place middle others text end last first second = record {
  place = omega (arith, first.place, second.place, length-append bytes others);
  on = λ more most enough.
      let same : (bytes ++ others) ++ more ≡ bytes ++ (others ++ more) = append_assoc bytes others more in
      let before = first.on (others ++ more) most (subst (λ (xs : List ℕ). length xs ≤ most) same enough) in
      let after = second.on more before.0 before.1 in (
        after.0,
        after.1,
        ap (decoded_from most at channel) same ∙ before.2 ∙ ap (text_before shown) after.2 ∙ after_both shown text (decoded_from after.0 end last more),
      );
}

-- one entry
pub goes_one : (at : ℕ) (channel : Option Channel) (bytes : List ℕ) (next : Option Channel) (text : List ℕ) → next_entry channel bytes ≡ entry (length bytes) next text
    → GoesOn at channel bytes text (at + length bytes) next []
goes_one at channel bytes next text is =
    subst (λ (rest : List ℕ). GoesOn at channel bytes text (at + length bytes) next rest) (drop_all (length bytes) bytes (omega arith))
    (goes_further at channel bytes [] at channel bytes (length bytes) next text (goes_nowhere at channel bytes) is)

-- ---- a frame in its place

-- no row of the table holds of it
good_frame : (n whole before : ℕ) (frame : List ℕ) → n ≤ 1052672 → (0 < before → whole ≡ n) → IsFrame n before frame → fields_fault whole before (size_of frame) (length_of frame) (flags_of frame) ≡ None
good_frame n whole before frame most same f =
    let long : length frame ≡ length (data_of frame) + 12 = omega (arith, f.some, length-drop 12 frame) in
    let len : size_of frame - 8 ≡ length (data_of frame) = omega (arith, f.size) in
    none_from_good whole before (size_of frame) (length_of frame) (flags_of frame) (record {
      plain = f.plain;
      first = f.first;
      most = omega (arith, f.whole);
      same = λ some. f.whole ∙ sym (same (omega (arith, some)));
      within = omega (arith, f.whole, f.within, len);
      last = f.last ∙ ap (λ (k : ℕ). before + k == n) (sym len) ∙ ap (λ (k : ℕ). before + (size_of frame - 8) == k) (sym f.whole);
    })

-- an entry of so many bytes
sized : (k n : ℕ) (next : Option Channel) (text : List ℕ) → k ≡ n → entry k next text ≡ entry n next text
sized k n next text same = ap (λ (i : ℕ). entry i next text) same

-- its side's bytes come to what its data come to
side_entry : (side : Side) (c : Channel) (bytes : List ℕ) → next_entry (Some c) (mark_before (side_mark side) bytes) ≡ frame_entry side c bytes
side_entry Host c bytes = refl
side_entry Client c bytes = refl

frame_comes : (side : Side) (c : Channel) (n : ℕ) (frame : List ℕ) → n ≤ 1052672 → (0 < length (under_way side c).joined → (under_way side c).whole ≡ n) → IsFrame n (length (under_way side c).joined) frame
    → next_entry (Some c) (mark_before (side_mark side) frame) ≡ after_data (1 + length frame) side c n (data_of frame)
frame_comes side c n frame most same f =
    let long : length frame ≡ length (data_of frame) + 12 = omega (arith, f.some, length-drop 12 frame) in
    let size : size_fault (size_of frame) ≡ None = size_good (size_of frame) (omega (arith, f.size, f.some)) (omega (arith, f.size, f.most)) in
    let cut : take (size_of frame + 4) frame ≡ frame = take_all (size_of frame + 4) frame (omega (arith, f.size, long)) in
    side_entry side c frame
    ∙ whole_frame side c frame size (good_frame n (under_way side c).whole (length (under_way side c).joined) frame most same f) (omega (arith, long)) (omega (arith, f.size, long))
    ∙ ap (λ (xs : List ℕ). after_data (1 + length xs) side c (length_of xs) (data_of xs)) cut
    ∙ ap (λ (k : ℕ). after_data (1 + length frame) side c k (data_of frame)) f.whole

-- ---- a message

-- the channel in which nothing is under way on a side, with other completions still to come
abbrev pub after_line : Side → Channel → Printed → Channel
after_line side c p = with_under_way side nothing_under_way (record c { awaited = p.awaited })

joined_more : (side : Side) (c : Channel) (n : ℕ) (part : List ℕ) → under_way side (with_data side c n part) ≡ record { whole = n; joined = (under_way side c).joined ++ part }
joined_more Host c n part = refl
joined_more Client c n part = refl

awaits_same : (side : Side) (c : Channel) (n : ℕ) (part : List ℕ) → (with_data side c n part).awaited ≡ c.awaited
awaits_same Host c n part = refl
awaits_same Client c n part = refl

line_same : (side : Side) (c : Channel) (n : ℕ) (part : List ℕ) (p : Printed) → after_line side c p ≡ after_line side (with_data side c n part) p
line_same Host c n part p = refl
line_same Client c n part p = refl

-- the bytes of frames of a side
abbrev pub marked : Side → List (List ℕ) → List ℕ
marked side frames = flat_map (mark_before (side_mark side)) frames

pub frames_go : (at : ℕ) (side : Side) (c : Channel) (message : List ℕ) (p : Printed) (frame : List ℕ) (frames : List (List ℕ)) → length message ≤ 1052672
    → (0 < length (under_way side c).joined → (under_way side c).whole ≡ length message) → AreFrames (length message) (length (under_way side c).joined) (frame ∷ frames)
    → (under_way side c).joined ++ flat_map data_of (frame ∷ frames) ≡ message → message_line side c.awaited message ≡ Ok p
    → (place : ℕ) × GoesOn at (Some c) (marked side (frame ∷ frames)) p.text place (Some (after_line side c p)) []
frames_go at side c message p frame [] most same are joined is =
    let whole : (under_way side c).joined ++ data_of frame ≡ message = ap (λ (xs : List ℕ). (under_way side c).joined ++ xs) (sym (append-nil (data_of frame))) ∙ joined in
    let full : (length ((under_way side c).joined ++ data_of frame) == length message) ≡ true = eq-eqb _ _ (ap length whole) in
    let own = with_data side c (length message) (data_of frame) in
    let line : message_line side own.awaited (under_way side own).joined ≡ Ok p =
    ap (λ a. message_line side a (under_way side own).joined) (awaits_same side c (length message) (data_of frame))
    ∙ ap (λ u. message_line side c.awaited u.joined) (joined_more side c (length message) (data_of frame))
    ∙ ap (message_line side c.awaited) whole ∙ is in
    let one : next_entry (Some c) (mark_before (side_mark side) frame) ≡ entry (length (mark_before (side_mark side) frame)) (Some (after_line side c p)) p.text =
    frame_comes side c (length message) frame most same are.0
    ∙ part_ends (1 + length frame) side c (after_line side c p) (length message) (data_of frame) p full line (line_same side c (length message) (data_of frame) p)
    ∙ sized (1 + length frame) (length (mark_before (side_mark side) frame)) (Some (after_line side c p)) p.text (omega arith) in
    let go = goes_one at (Some c) (mark_before (side_mark side) frame) (Some (after_line side c p)) p.text one in (
      at + length (mark_before (side_mark side) frame),
      subst (λ (xs : List ℕ). GoesOn at (Some c) xs p.text (at + length (mark_before (side_mark side) frame)) (Some (after_line side c p)) []) (sym (append-nil (mark_before (side_mark side) frame))) go,
    )
frames_go at side c message p frame (other ∷ frames) most same are joined is =
    let before = under_way side c in
    let own = with_data side c (length message) (data_of frame) in
    let now : (under_way side own).joined ≡ before.joined ++ data_of frame = ap (λ u. u.joined) (joined_more side c (length message) (data_of frame)) in
    let long : length (before.joined ++ data_of frame) ≡ length before.joined + length (data_of frame) = length-append before.joined (data_of frame) in
    let next : IsFrame (length message) (length before.joined + length (data_of frame)) other = are.1.0 in
    let short : (length (before.joined ++ data_of frame) == length message) ≡ false = ne_eqb _ _ (λ e. omega (arith, e, long, next.some, next.within)) in
    let first : next_entry (Some c) (mark_before (side_mark side) frame) ≡ entry (length (mark_before (side_mark side) frame)) (Some own) [] =
    frame_comes side c (length message) frame most same are.0 ∙ part_goes_on (1 + length frame) side c (length message) (data_of frame) short
    ∙ sized (1 + length frame) (length (mark_before (side_mark side) frame)) (Some own) [] (omega arith) in
    let all : (under_way side own).joined ++ flat_map data_of (other ∷ frames) ≡ message =
    ap (λ (xs : List ℕ). xs ++ flat_map data_of (other ∷ frames)) now ∙ append_assoc before.joined (data_of frame) (flat_map data_of (other ∷ frames)) ∙ joined in
    let others = frames_go (at + length (mark_before (side_mark side) frame)) side own message p other frames most (λ some. ap (λ u. u.whole) (joined_more side c (length message) (data_of frame)))
    (subst (λ (k : ℕ). AreFrames (length message) k (other ∷ frames)) (sym (ap length now ∙ long)) are.1) all (ap (λ a. message_line side a message) (awaits_same side c (length message) (data_of frame)) ∙ is) in (
      others.0,
      goes_both at (Some c) (mark_before (side_mark side) frame) [] (at + length (mark_before (side_mark side) frame)) (Some own) (marked side (other ∷ frames)) p.text others.0 (Some (after_line side c p))
          (goes_one at (Some c) (mark_before (side_mark side) frame) (Some own) [] first)
          (subst (λ (e : Channel). GoesOn (at + length (mark_before (side_mark side) frame)) (Some own) (marked side (other ∷ frames)) p.text others.0 (Some e) []) (sym (line_same side c (length message) (data_of frame) p)) others.1),
    )

-- a message in its frames, where nothing is under way on its side
pub message_goes : (at : ℕ) (side : Side) (c : Channel) (message : List ℕ) (p : Printed) → IsMessage message → under_way side c ≡ nothing_under_way → message_line side c.awaited message ≡ Ok p
    → (place : ℕ) × GoesOn at (Some c) (marked side (frames_for message)) p.text place (Some (after_line side c p)) []
message_goes at side c message p is none line = by (frames_for message) (frames_carry_all message is).0 (frames_carry_all message is).1
  where
    by : (frames : List (List ℕ)) → AreFrames (length message) 0 frames → flat_map data_of frames ≡ message
        → (place : ℕ) × GoesOn at (Some c) (marked side frames) p.text place (Some (after_line side c p)) []
    by [] are joined = absurd (omega (arith, is.0, ap length joined))
    by (frame ∷ frames) are joined =
        let empty : (under_way side c).joined ≡ [] = ap (λ u. u.joined) none in
        frames_go at side c message p frame frames is.1 (λ some. absurd (omega (arith, some, ap length empty)))
        (subst (λ (k : ℕ). AreFrames (length message) k (frame ∷ frames)) (sym (ap length empty)) are)
        (ap (λ (xs : List ℕ). xs ++ flat_map data_of (frame ∷ frames)) empty ∙ joined) line
