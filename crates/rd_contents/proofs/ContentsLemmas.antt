-- The bytes of a file, read, written and resized place by place.
use Rattle.std.proofs.Common.{◌≡◌, ◌∙◌, refl, sym, ap, ℕ, ◌+◌, ◌-◌, ◌<◌, ◌≤◌, List, [], ◌∷◌, ◌++◌, length, take, drop, Vec, arith, get_or}
use Rattle.std.specs.Prelude.{replicate, min, max}
use Rattle.std.proofs.lemmas.List.{ext_get_or, length-take, length-drop, length-append, length-replicate, get_or-take, get_or-drop, get_or-replicate, get_or_append_left, get_or-append_right, get_or_past}
use Rattle.rd_contents.specs.Contents.{resized, written}
use Rattle.rd_contents.specs.Pages.{byte_at, kept_page, bytes_from, over, IsSound}
use Rattle.rd_contents.proofs.OverLemmas.{around, before_or_past, over_before, over_at, over_past, over_same}
use Rattle.rd_contents.proofs.PageLemmas.{length-bytes_from, get_or-bytes_from}

-- ---- what the words mean at a place
pub length-resized : (file : List ℕ) (end : ℕ) → length (resized file end) ≡ end
length-resized file end = simp (length-take, length-append, length-replicate) (omega arith)

pub get_or-resized : (file : List ℕ) (end i : ℕ) → i < end → get_or (resized file end) i 0 ≡ get_or file i 0
get_or-resized file end i h =
    let zeros : List ℕ = replicate (end - length file) 0 in
    get_or-take end (file ++ zeros) i 0 h
    ∙ before_or_past i (length file)
    (λ k. get_or_append_left file zeros 0 i k)
    (λ k. get_or-append_right file zeros (length file) i 0 refl k
    ∙ get_or-replicate (end - length file) (i - length file) 0 0 (omega arith)
    ∙ sym (get_or_past file i 0 k))

written_as : (file bytes : List ℕ) (offset : ℕ) → 0 < length bytes → written file offset bytes ≡ resized file offset ++ bytes ++ drop (offset + length bytes) file
written_as file [] offset some = absurd (omega arith)
written_as file (b ∷ bs) offset some = refl

length-written : (file bytes : List ℕ) (offset : ℕ) → 0 < length bytes → length (written file offset bytes) ≡ max (length file) (offset + length bytes)
length-written file bytes offset some =
    let before : List ℕ = resized file offset in
    let after : List ℕ = drop (offset + length bytes) file in
    ap (λ (xs : List ℕ). length xs) (written_as file bytes offset some)
    ∙ omega (arith, length-append (before ++ bytes) after, length-append before bytes, length-resized file offset, length-drop (offset + length bytes) file)

get_or-written : (file bytes : List ℕ) (offset i : ℕ) → 0 < length bytes → get_or (written file offset bytes) i 0 ≡ over offset (length bytes) bytes (λ n. get_or file n 0) i
get_or-written file bytes offset i some =
    let before : List ℕ = resized file offset in
    let after : List ℕ = drop (offset + length bytes) file in
    let long : length before ≡ offset = length-resized file offset in
    let both : length (before ++ bytes) ≡ offset + length bytes = omega (arith, length-append before bytes) in
    ap (λ (xs : List ℕ). get_or xs i 0) (written_as file bytes offset some)
    ∙ around i offset (length bytes)
    (λ h. get_or_append_left (before ++ bytes) after 0 i (omega arith)
    ∙ get_or_append_left before bytes 0 i (omega arith)
    ∙ get_or-resized file offset i h
    ∙ sym (over_before offset (length bytes) bytes (λ n. get_or file n 0) i h))
    (λ h l. get_or_append_left (before ++ bytes) after 0 i (omega arith)
    ∙ get_or-append_right before bytes offset i 0 long h
    ∙ sym (over_at offset (length bytes) bytes (λ n. get_or file n 0) i h l))
    (λ h. get_or-append_right (before ++ bytes) after (offset + length bytes) i 0 both h
    ∙ get_or-drop (offset + length bytes) file (i - (offset + length bytes)) 0
    ∙ ap (λ n. get_or file n 0) (omega arith)
    ∙ sym (over_past offset (length bytes) bytes (λ n. get_or file n 0) i h))

-- ---- the bytes after a change
module _ {A : Type 0} where
  -- the byte at any place of a file that shows nothing past its end
  shown_at : (pages : List (ℕ × Vec ℕ A)) (end : ℕ) → ((i : ℕ) → end ≤ i → byte_at pages i ≡ 0) → (i : ℕ) → get_or (bytes_from pages 0 end) i 0 ≡ byte_at pages i
  shown_at pages end clear i = before_or_past i end
      (λ h. get_or-bytes_from pages 0 end i i h (omega arith))
      (λ h. get_or_past (bytes_from pages 0 end) i 0 (omega (arith, length-bytes_from pages 0 end)) ∙ sym (clear i h))

  shows : (file : List ℕ) (end : ℕ) (pages : List (ℕ × Vec ℕ A)) → length file ≡ end → ((i : ℕ) → i < end → byte_at pages i ≡ get_or file i 0) → bytes_from pages 0 end ≡ file
  shows file end pages long is = ext_get_or 0 (bytes_from pages 0 end) file (length-bytes_from pages 0 end ∙ sym long)
      (λ i h. let below : i < end = omega (arith, length-bytes_from pages 0 end) in get_or-bytes_from pages 0 end i i below (omega arith) ∙ is i below)

  pub none_sound : (pages : List (ℕ × Vec ℕ A)) → pages ≡ [] → IsSound 0 pages
  unfolding byte_at kept_page
  none_sound pages none = record { short = omega arith; clear = λ i h. rw none refl; within = λ k h. rw none refl }

  pub shows_none : (pages : List (ℕ × Vec ℕ A)) → bytes_from pages 0 0 ≡ []
  unfolding bytes_from
  shows_none pages = refl

  -- where no page is kept, all bytes are zero
  none_at : (pages : List (ℕ × Vec ℕ A)) (i : ℕ) → length pages ≡ 0 → byte_at pages i ≡ 0
  unfolding byte_at kept_page
  none_at [] i none = refl
  none_at (page ∷ pages) i none = absurd (omega arith)

  pub shows_zeros : (pages : List (ℕ × Vec ℕ A)) (end : ℕ) → length pages ≡ 0 → bytes_from pages 0 end ≡ replicate end 0
  shows_zeros pages end none = shows (replicate end 0) end pages (length-replicate end 0) (λ i h. none_at pages i none ∙ sym (get_or-replicate end i 0 0 h))

  -- no byte before the end changes
  pub same_shown : (old new : List (ℕ × Vec ℕ A)) (end : ℕ) → ((i : ℕ) → i < end → byte_at new i ≡ byte_at old i) → bytes_from new 0 end ≡ bytes_from old 0 end
  same_shown old new end same = shows (bytes_from old 0 end) end new (length-bytes_from old 0 end) (λ i h. same i h ∙ sym (get_or-bytes_from old 0 end i i h (omega arith)))

  pub resized_shown : (old new : List (ℕ × Vec ℕ A)) (was end : ℕ) → ((i : ℕ) → was ≤ i → byte_at old i ≡ 0) → ((i : ℕ) → i < end → byte_at new i ≡ byte_at old i) → bytes_from new 0 end ≡ resized (bytes_from old 0 was) end
  resized_shown old new was end clear same = shows (resized (bytes_from old 0 was) end) end new (length-resized (bytes_from old 0 was) end)
      (λ i h. same i h ∙ sym (shown_at old was clear i) ∙ sym (get_or-resized (bytes_from old 0 was) end i h))

  pub written_clear : (old new : List (ℕ × Vec ℕ A)) (was offset : ℕ) (bytes : List ℕ) → ((i : ℕ) → was ≤ i → byte_at old i ≡ 0) → ((i : ℕ) → byte_at new i ≡ over offset (length bytes) bytes (byte_at old) i)
      → (i : ℕ) → max was (offset + length bytes) ≤ i → byte_at new i ≡ 0
  written_clear old new was offset bytes clear is i h = is i ∙ over_past offset (length bytes) bytes (byte_at old) i (omega arith) ∙ clear i (omega arith)

  pub written_shown : (old new : List (ℕ × Vec ℕ A)) (was offset : ℕ) (bytes : List ℕ) → 0 < length bytes → ((i : ℕ) → was ≤ i → byte_at old i ≡ 0) → ((i : ℕ) → byte_at new i ≡ over offset (length bytes) bytes (byte_at old) i)
      → bytes_from new 0 (max was (offset + length bytes)) ≡ written (bytes_from old 0 was) offset bytes
  written_shown old new was offset bytes some clear is =
      let file : List ℕ = bytes_from old 0 was in
      shows (written file offset bytes) (max was (offset + length bytes)) new
      (length-written file bytes offset some ∙ ap (λ n. max n (offset + length bytes)) (length-bytes_from old 0 was))
      (λ i h. is i
      ∙ over_same offset (length bytes) bytes (byte_at old) (λ n. get_or file n 0) i (λ j. sym (shown_at old was clear j))
      ∙ sym (get_or-written file bytes offset i some))

  -- a part of the file
  pub part_shown : (pages : List (ℕ × Vec ℕ A)) (end offset count : ℕ) → bytes_from pages offset (min (end - offset) count) ≡ take count (drop offset (bytes_from pages 0 end))
  part_shown pages end offset count =
      let file : List ℕ = bytes_from pages 0 end in
      let part : ℕ = min (end - offset) count in
      ext_get_or 0 (bytes_from pages offset part) (take count (drop offset file))
      (length-bytes_from pages offset part ∙ sym (omega (arith, length-take count (drop offset file), length-drop offset file, length-bytes_from pages 0 end)))
      (λ i h. let below : i < part = omega (arith, length-bytes_from pages offset part) in
      get_or-bytes_from pages offset part i (offset + i) below refl
      ∙ sym (get_or-bytes_from pages 0 end (offset + i) (offset + i) (omega arith) (omega arith))
      ∙ sym (get_or-drop offset file i 0)
      ∙ sym (get_or-take count (drop offset file) i 0 (omega arith)))
