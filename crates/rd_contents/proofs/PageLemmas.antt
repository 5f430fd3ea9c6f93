-- The bytes that pages stand for, and how they change.
use Rattle.std.proofs.Common.{◌≡◌, ◌∙◌, refl, sym, ap, subst, ℕ, zero, suc, ◌+◌, ◌-◌, ◌*◌, ◌/◌, ◌%◌, ◌<◌, ◌≤◌, ◌++◌, Bool, true, false, cond, List, [], length, take, drop, Option, Some, None, Vec, arith, eqb, ltb, get_or, ⊎_elim, BTreeMap}
use Rattle.std.specs.Prelude.{min, replicate}
use Rattle.std.specs.Option.{option_map_or, IsSome, IfSome, IfNone}
use Rattle.std.specs.Ordering.{nat_cmp}
use Rattle.std.specs.BTreeMap.{is_at, get, Updates, IsUpperBound, IsUnchanged}
use Rattle.std.proofs.lemmas.Map.Keys.{ge_from_not_lt}
use Rattle.std.specs.Map.{lookup}
use Rattle.std.proofs.lemmas.List.FromFn.{length-map-range_with_len, get_or-map-range_with_len}
use Rattle.std.proofs.lemmas.Bool.{cases_eq, eq-eqb, ne_eqb}
use Rattle.std.proofs.lemmas.Bool.Decides.{nat_tests}
use Rattle.std.proofs.lemmas.List.{ext_get_or, length-append, get_or-replicate, length-replicate, get_or-take, get_or-drop, get_or_append_left, get_or-append_right, get_or_past, length-take, length-drop}
use Rattle.rd_contents.specs.Pages.{page_len, kept_page, byte_at, bytes_from, IsKept, LacksPage, over}
use Rattle.rd_contents.proofs.OverLemmas.{around, before_or_past, cond_before, cond_past, over_before, over_at, over_past}

-- ---- a part of a page as far as the page is kept, and then zeros
length-part : (page : List ℕ) (within count start end : ℕ) → start ≡ min within (length page) → end ≡ min (length page) (within + count) → length (take (end - start) (drop start page) ++ replicate (count - (end - start)) 0) ≡ count
length-part page within count start end starts ends = simp (length-append, length-take, length-drop, length-replicate) (omega arith)

-- zeros show what no bytes show
pub get_or_zeros : (n j : ℕ) → get_or (replicate n 0) j 0 ≡ get_or {A = ℕ} [] j 0
get_or_zeros n j = before_or_past j n (λ h. get_or-replicate n j 0 0 h) (λ h. get_or_past (replicate n 0) j 0 (omega (arith, length-replicate {A = ℕ} n 0)))

-- zeros after bytes change nothing that shows
zeros_at : (bytes : List ℕ) (count j : ℕ) → get_or (bytes ++ replicate count 0) j 0 ≡ get_or bytes j 0
zeros_at bytes count j = before_or_past j (length bytes)
    (λ h. get_or_append_left bytes (replicate count 0) 0 j h)
    (λ h. get_or-append_right bytes (replicate count 0) (length bytes) j 0 refl h ∙ get_or_zeros count (j - length bytes) ∙ sym (get_or_past bytes j 0 h))

part_at : (page : List ℕ) (within count start end j : ℕ) → start ≡ min within (length page) → end ≡ min (length page) (within + count) → j < count → get_or (take (end - start) (drop start page)) j 0 ≡ get_or page (within + j) 0
part_at page within count start end j starts ends h = before_or_past j (end - start)
    (λ k. let same : start + j ≡ within + j = omega arith in get_or-take (end - start) (drop start page) j 0 k ∙ get_or-drop start page j 0 ∙ ap (λ n. get_or page n 0) same)
    (λ k. get_or_past (take (end - start) (drop start page)) j 0 (omega (arith, length-take (end - start) (drop start page))) ∙ sym (get_or_past page (within + j) 0 (omega arith)))

-- ---- places and pages
pub same_page : (at i count : ℕ) → at ≤ i → i < at + count → at % page_len + count ≤ page_len → i / page_len ≡ at / page_len
same_page at i count from to fits = omega arith

pub within_page : (at i count : ℕ) → at ≤ i → i < at + count → at % page_len + count ≤ page_len → i % page_len ≡ at % page_len + (i - at)
within_page at i count from to fits = omega (arith, same_page at i count from to fits)

module _ {A : Type 0} where
  -- a page takes the place of the one with its number, and the others stay
  abbrev pub Exchanges : List (ℕ × Vec ℕ A) → List (ℕ × Vec ℕ A) → ℕ → Vec ℕ A → Type 0
  Exchanges old new number page = (q : ℕ) → lookup (is_at (nat_cmp q)) new ≡ cond (is_at (nat_cmp number) q) (Some page) (lookup (is_at (nat_cmp q)) old)

  kept_page-updates : (old new : List (ℕ × Vec ℕ A)) (number : ℕ) (page : Vec ℕ A) → Exchanges old new number page
      → (k : ℕ) → kept_page new k ≡ cond (eqb k number) page.items (kept_page old k)
  unfolding kept_page
  kept_page-updates old new number page is k = ap (λ p. option_map_or (λ (v : Vec ℕ A). v.items) p []) (is k) ∙ chosen (is_at (nat_cmp number) k) (eqb k number) (grind (arith, nat_tests))
    where
      chosen : (b d : Bool) → b ≡ d → option_map_or (λ (v : Vec ℕ A). v.items) (cond b (Some page) (lookup (is_at (nat_cmp k)) old)) [] ≡ cond d page.items (option_map_or (λ (v : Vec ℕ A). v.items) (lookup (is_at (nat_cmp k)) old) [])
      chosen true true e = refl
      chosen false false e = refl
      chosen true false e = absurd (cc)
      chosen false true e = absurd (cc)

  pub kept_page-found : (pages : List (ℕ × Vec ℕ A)) (number : ℕ) (page : Vec ℕ A) → lookup (is_at (nat_cmp number)) pages ≡ Some page → kept_page pages number ≡ page.items
  unfolding kept_page
  kept_page-found pages number page is = ap (λ p. option_map_or (λ (v : Vec ℕ A). v.items) p []) is

  pub kept_page-none : (pages : List (ℕ × Vec ℕ A)) (number : ℕ) → lookup (is_at (nat_cmp number)) pages ≡ None → kept_page pages number ≡ []
  unfolding kept_page
  kept_page-none pages number is = ap (λ p. option_map_or (λ (v : Vec ℕ A). v.items) p []) is

  -- no other page comes
  pub lacks_still : (old new : List (ℕ × Vec ℕ A)) (number : ℕ) (page : Vec ℕ A) → Exchanges old new number page
      → (k : ℕ) → (k ≡ number → ⊥) → LacksPage old k → LacksPage new k
  lacks_still old new number page is k ne lacks = is k ∙ ap (λ b. cond b (Some page) (lookup (is_at (nat_cmp k)) old)) (let other : is_at (nat_cmp number) k ≡ false = grind (arith, nat_tests) in other) ∙ lacks

  -- a page that is kept has another number than one that isn't
  pub not_lacked : (pages : List (ℕ × Vec ℕ A)) (number : ℕ) (page : Vec ℕ A) → Some page ≡ lookup (is_at (nat_cmp number)) pages → (k : ℕ) → LacksPage pages k → k ≡ number → ⊥
  not_lacked pages number page is k lacks e = let none : lookup (is_at (nat_cmp number)) pages ≡ None = subst (λ (n : ℕ). LacksPage pages n) e lacks in cc

  -- what holds between each page before and after: at the one that is exchanged, and at those that stay
  pub exchanged : (old new : List (ℕ × Vec ℕ A)) (number : ℕ) (page : Vec ℕ A) (P : ℕ → List ℕ → List ℕ → Type 0) → Exchanges old new number page
      → P number (kept_page old number) page.items → ((k : ℕ) → (k ≡ number → ⊥) → P k (kept_page old k) (kept_page old k)) → (k : ℕ) → P k (kept_page old k) (kept_page new k)
  exchanged old new number page P is here others k = ⊎_elim
      (λ e. subst (λ (j : ℕ). P j (kept_page old j) (kept_page new j)) (sym e) (subst (P number (kept_page old number)) (sym (kept_page-updates old new number page is number ∙ ap (λ b. cond b page.items (kept_page old number)) (eq-eqb number number refl))) here))
      (λ ne. subst (P k (kept_page old k)) (sym (kept_page-updates old new number page is k ∙ ap (λ b. cond b page.items (kept_page old k)) (ne_eqb k number ne))) (others k ne)) (cases_eq k number)

  -- ---- what it does to the bytes
  pub byte_at-same : (old new : List (ℕ × Vec ℕ A)) → ((k : ℕ) → (j : ℕ) → get_or (kept_page new k) j 0 ≡ get_or (kept_page old k) j 0) → (i : ℕ) → byte_at new i ≡ byte_at old i
  unfolding byte_at
  byte_at-same old new same i = same (i / page_len) (i % page_len)

  -- a page of which a piece is overwritten
  pub byte_at-over : (old new : List (ℕ × Vec ℕ A)) (place : ℕ) (piece : List ℕ) → place % page_len + length piece ≤ page_len
      → ((k : ℕ) → (k ≡ place / page_len → (j : ℕ) → get_or (kept_page new k) j 0 ≡ over (place % page_len) (length piece) piece (λ n. get_or (kept_page old k) n 0) j) × ((k ≡ place / page_len → ⊥) → kept_page new k ≡ kept_page old k))
      → (i : ℕ) → byte_at new i ≡ over place (length piece) piece (byte_at old) i
  unfolding byte_at
  byte_at-over old new place piece fits is i =
      let number : ℕ = i / page_len in
      let within : ℕ = i % page_len in
      let other : (number ≡ place / page_len → ⊥) → get_or (kept_page new number) within 0 ≡ get_or (kept_page old number) within 0 = λ ne. ap (λ (p : List ℕ). get_or p within 0) ((is number).1 ne) in
      around i place (length piece)
      (λ h. ⊎_elim (λ e. (is number).0 e within ∙ over_before (place % page_len) (length piece) piece _ within (omega arith)) other (cases_eq number (place / page_len))
      ∙ sym (over_before place (length piece) piece (byte_at old) i h))
      (λ h l. let e : number ≡ place / page_len = omega arith in
      (is number).0 e within
      ∙ over_at (place % page_len) (length piece) piece _ within (omega arith) (omega arith)
      ∙ ap (λ j. get_or piece j 0) (omega arith)
      ∙ sym (over_at place (length piece) piece (byte_at old) i h l))
      (λ h. ⊎_elim (λ e. (is number).0 e within ∙ over_past (place % page_len) (length piece) piece _ within (omega arith)) other (cases_eq number (place / page_len))
      ∙ sym (over_past place (length piece) piece (byte_at old) i h))

module _ {A : Type 0} where
  -- ---- which bytes are kept
  -- a page is kept as far as its last byte that is
  pub kept_to : (pages : List (ℕ × Vec ℕ A)) (at count : ℕ) → 0 < count → at % page_len + count ≤ page_len → IsKept pages (at + (count - 1)) → at % page_len + count ≤ length (kept_page pages (at / page_len))
  unfolding IsKept
  kept_to pages at count some fits kept =
      let i : ℕ = at + (count - 1) in
      let page : i / page_len ≡ at / page_len = same_page at i count (omega arith) (omega arith) fits in
      let place : i % page_len ≡ at % page_len + (i - at) = within_page at i count (omega arith) (omega arith) fits in
      let here : i % page_len < length (kept_page pages (at / page_len)) = subst (λ (k : ℕ). i % page_len < length (kept_page pages k)) page kept in
      omega arith

  -- a piece after others that are kept
  pub kept_more : (old new : List (ℕ × Vec ℕ A)) (offset at count i : ℕ) → ((k : ℕ) → length (kept_page old k) ≤ length (kept_page new k)) → at % page_len + count ≤ page_len → at % page_len + count ≤ length (kept_page new (at / page_len))
      → ((j : ℕ) → offset ≤ j → j < at → IsKept old j) → offset ≤ i → i < at + count → IsKept new i
  unfolding IsKept
  kept_more old new offset at count i grows fits long before from to = before_or_past i at
      (λ h. omega (arith, before i from h, grows (i / page_len)))
      (λ h. let page : at / page_len ≡ i / page_len = sym (same_page at i count h to fits) in
      let here : at % page_len + count ≤ length (kept_page new (i / page_len)) = subst (λ (k : ℕ). at % page_len + count ≤ length (kept_page new k)) page long in
      omega (arith, within_page at i count h to fits))

  pub kept_same : (old new : List (ℕ × Vec ℕ A)) (i : ℕ) → ((k : ℕ) → length (kept_page new k) ≡ length (kept_page old k)) → IsKept old i → IsKept new i
  unfolding IsKept
  kept_same old new i same kept = omega (arith, same (i / page_len))

  -- ---- giving back
  -- the last page leaves, whose number isn't before the first to leave
  pub popped : (old new : BTreeMap ℕ (Vec ℕ A)) (r : Option (ℕ × Vec ℕ A)) (first k m : ℕ) → IfSome r (λ p. Updates nat_cmp old new p.0 None) → IfSome r (λ p. IsUpperBound nat_cmp old p.0) → IfNone r (IsUnchanged old new)
      → first ≤ m → IsSome (get nat_cmp old m) → k < first → kept_page new.entries k ≡ kept_page old.entries k
  unfolding kept_page
  popped old new None first k m updates greatest same from there below = ap (λ (es : List (ℕ × Vec ℕ A)). option_map_or (λ (v : Vec ℕ A). v.items) (lookup (is_at (nat_cmp k)) es) []) same
  popped old new (Some p) first k m updates greatest same from there below =
      let top : m ≤ p.0 = ge_from_not_lt p.0 m (greatest m there) in
      ap (λ o. option_map_or (λ (v : Vec ℕ A). v.items) o []) (updates.2 k (grind (arith, nat_tests)))

  pub given_back : (old new : List (ℕ × Vec ℕ A)) (first k : ℕ) → ((j : ℕ) → j < first → kept_page new j ≡ kept_page old j) → (first ≤ k → lookup (is_at (nat_cmp k)) new ≡ None) → kept_page new k ≡ cond (ltb k first) (kept_page old k) []
  given_back old new first k same gone = before_or_past k first
      (λ h. same k h ∙ sym (cond_before (kept_page old k) [] k first h))
      (λ h. kept_page-none new k (gone h) ∙ sym (cond_past (kept_page old k) [] k first h))

  -- pages leave from the end on, and the page that it lies in is cut
  pub cut_bytes : (old mid new : List (ℕ × Vec ℕ A)) (end first : ℕ) → end ≤ first * page_len → first * page_len < end + page_len → ((k : ℕ) → kept_page mid k ≡ cond (ltb k first) (kept_page old k) [])
      → ((k : ℕ) → k ≡ end / page_len → kept_page new k ≡ take (end % page_len) (kept_page mid k)) → ((k : ℕ) → (k ≡ end / page_len → ⊥) → kept_page new k ≡ kept_page mid k) → (i : ℕ) → byte_at new i ≡ cond (ltb i end) (byte_at old i) 0
  unfolding byte_at
  cut_bytes old mid new end first reaches near left here there i =
      let number : ℕ = i / page_len in
      let within : ℕ = i % page_len in
      let byte : List ℕ → ℕ = λ page. get_or page within 0 in
      before_or_past i end
      (λ h. let kept : kept_page mid number ≡ kept_page old number = left number ∙ cond_before (kept_page old number) [] number first (omega arith) in
      ⊎_elim
      (λ e. ap byte (here number e) ∙ get_or-take (end % page_len) (kept_page mid number) within 0 (omega arith))
      (λ ne. ap byte (there number ne)) (cases_eq number (end / page_len))
      ∙ ap byte kept
      ∙ sym (cond_before (byte (kept_page old number)) 0 i end h))
      (λ h. ⊎_elim
      (λ e. ap byte (here number e) ∙ get_or_past (take (end % page_len) (kept_page mid number)) within 0 (omega (arith, length-take (end % page_len) (kept_page mid number))))
      (λ ne. ap byte (there number ne ∙ left number ∙ cond_past (kept_page old number) [] number first (omega arith))) (cases_eq number (end / page_len))
      ∙ sym (cond_past (byte (kept_page old number)) 0 i end h))

pub take-none : (n : ℕ) → take {A = ℕ} n [] ≡ []
take-none zero = refl
take-none (suc n) = refl

module _ {A : Type 0} where
  -- a byte by the page of an earlier place
  pub byte_at-page : (pages : List (ℕ × Vec ℕ A)) (at count i j : ℕ) → i ≡ at + j → j < count → at % page_len + count ≤ page_len → byte_at pages i ≡ get_or (kept_page pages (at / page_len)) (at % page_len + j) 0
  unfolding byte_at
  byte_at-page pages at count i j is below fits =
      let page : i / page_len ≡ at / page_len = same_page at i count (omega arith) (omega arith) fits in
      let place : i % page_len ≡ at % page_len + j = omega (arith, within_page at i count (omega arith) (omega arith) fits) in
      ap (λ (k : ℕ). get_or (kept_page pages k) (i % page_len) 0) page ∙ ap (λ (n : ℕ). get_or (kept_page pages (at / page_len)) n 0) place

  -- ---- so many bytes from an offset on
  pub length-bytes_from : (pages : List (ℕ × Vec ℕ A)) (offset count : ℕ) → length (bytes_from pages offset count) ≡ count
  unfolding bytes_from
  length-bytes_from pages offset count = length-map-range_with_len (byte_at pages) offset count

  pub get_or-bytes_from : (pages : List (ℕ × Vec ℕ A)) (offset count i place : ℕ) → i < count → offset + i ≡ place → get_or (bytes_from pages offset count) i 0 ≡ byte_at pages place
  unfolding bytes_from
  get_or-bytes_from pages offset count i place h is = get_or-map-range_with_len (byte_at pages) offset count i place 0 h is

  -- a piece is a part of its page, and then zeros
  pub piece_is : (pages : List (ℕ × Vec ℕ A)) (place count start end : ℕ) (page : List ℕ) → page ≡ kept_page pages (place / page_len) → place % page_len + count ≤ page_len
      → start ≡ min (place % page_len) (length page) → end ≡ min (length page) (place % page_len + count)
      → take (end - start) (drop start page) ++ replicate (count - (end - start)) 0 ≡ bytes_from pages place count
  piece_is pages place count start end page is fits starts ends =
      ext_get_or 0 (take (end - start) (drop start page) ++ replicate (count - (end - start)) 0) (bytes_from pages place count)
      (length-part page (place % page_len) count start end starts ends ∙ sym (length-bytes_from pages place count))
      (λ j h. let below : j < count = omega (arith, length-part page (place % page_len) count start end starts ends) in
      zeros_at (take (end - start) (drop start page)) (count - (end - start)) j
      ∙ part_at page (place % page_len) count start end j starts ends below
      ∙ ap (λ (p : List ℕ). get_or p (place % page_len + j) 0) is
      ∙ sym (byte_at-page pages place count (place + j) j refl below fits)
      ∙ sym (get_or-bytes_from pages place count j (place + j) below refl))

  -- those of a piece after others
  pub bytes_from-append : (pages : List (ℕ × Vec ℕ A)) (offset done count : ℕ) → bytes_from pages offset done ++ bytes_from pages (offset + done) count ≡ bytes_from pages offset (done + count)
  bytes_from-append pages offset done count =
      let before : List ℕ = bytes_from pages offset done in
      let after : List ℕ = bytes_from pages (offset + done) count in
      let all : length (before ++ after) ≡ done + count = omega (arith, length-append before after, length-bytes_from pages offset done, length-bytes_from pages (offset + done) count) in
      ext_get_or 0 (before ++ after) (bytes_from pages offset (done + count)) (all ∙ sym (length-bytes_from pages offset (done + count)))
      (λ i h. before_or_past i done
      (λ k. get_or_append_left before after 0 i (omega (arith, length-bytes_from pages offset done)) ∙ get_or-bytes_from pages offset done i (offset + i) k refl)
      (λ k. get_or-append_right before after done i 0 (length-bytes_from pages offset done) k ∙ get_or-bytes_from pages (offset + done) count (i - done) (offset + i) (omega arith) (omega arith))
      ∙ sym (get_or-bytes_from pages offset (done + count) i (offset + i) (omega arith) refl))

  pub bytes_from-none : (pages : List (ℕ × Vec ℕ A)) (offset : ℕ) → bytes_from pages offset 0 ≡ []
  unfolding bytes_from
  bytes_from-none pages offset = refl
