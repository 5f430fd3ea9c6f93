-- Frames: bytes are whole frames, and then no frame, in one way.
use Rattle.std.proofs.Common.{◌≡◌, ◌≤◌, ◌<◌, ℕ, ◌+◌, ◌-◌, arith, sym, ◌∙◌, ap, subst, length, ◌++◌, ◌∷◌, [], inl, inr, None, Some, Option, length-append, length-drop, append_assoc, refl, List, take, drop}
use Rattle.std.specs.Prelude.{◌==◌}
use Rattle.std.specs.List.{concat, flat_map}
use Rattle.std.proofs.lemmas.List.{take_at, drop_at}
use Rattle.std.proofs.lemmas.Bool.{cases_eq}
use Rattle.rd_chunk.specs.declared.head.RowFault.{RowFault}
use Rattle.rd_chunk.specs.Frames.{size_of, length_of, flags_of, data_of, IsFrame, AreFrames}
use Rattle.rd_chunk.specs.Faults.{size_fault, fields_fault, head_fault, ShowsFault, IsPart}
use Rattle.rd_chunk.proofs.HeadLemmas.{size_of-append, length_of-append, flags_of-append, size_good, none_from_good}
use Rattle.rd_chunk.proofs.StandsForLemmas.{fresh_head}

-- no frame of a message of n bytes stands at the start of these bytes, after `before` data bytes of it
pub Blocked : (n before : ℕ) (bytes : List ℕ) → Type 0
Blocked n before bytes = (m : ℕ) (frame rest : List ℕ) → m ≤ 1052672 → (0 < before → n ≡ m) → IsFrame m before frame → bytes ≡ frame ++ rest → ⊥

frame_length : (n before : ℕ) (frame : List ℕ) → IsFrame n before frame → length frame ≡ length (data_of frame) + 12
frame_length n before frame f = omega (arith, f.some, length-drop 12 frame)

-- no row of the table holds of a frame in its place
good_frame : (n before : ℕ) (frame : List ℕ) → n ≤ 1052672 → IsFrame n before frame → fields_fault n before (size_of frame) (length_of frame) (flags_of frame) ≡ None
good_frame n before frame most f =
    let len : size_of frame - 8 ≡ length (data_of frame) = omega (arith, frame_length n before frame f, f.size) in
    none_from_good n before (size_of frame) (length_of frame) (flags_of frame) (record {
      plain = f.plain;
      first = f.first;
      most = omega (arith, f.whole);
      same = λ _. f.whole;
      within = omega (arith, f.whole, f.within, len);
      last = f.last ∙ ap (λ (k : ℕ). before + k == n) (sym len) ∙ ap (λ (k : ℕ). before + (size_of frame - 8) == k) (sym f.whole);
    })

pub done_blocks : (n before : ℕ) (bytes : List ℕ) → 0 < before → before ≡ n → Blocked n before bytes
unfolding Blocked
done_blocks n before bytes some done m frame rest most same f e = omega (arith, same some, f.within, f.some)

pub part_blocks : (n before : ℕ) (part : List ℕ) → IsPart n before part → Blocked n before part
unfolding Blocked
part_blocks n before part p m frame rest most same f e =
    let long : length part ≡ length frame + length rest = ap length e ∙ length-append frame rest in
    let size : size_of part ≡ size_of frame = ap size_of e ∙ size_of-append frame rest (omega (arith, frame_length m before frame f)) in
    omega (arith, frame_length m before frame f, f.size, p.short (omega (arith, frame_length m before frame f)))

pub some_is_some : (found : Option RowFault) (a : RowFault) → found ≡ Some a → found ≡ None → ⊥
some_is_some found a e f = cc

-- of fields that are the same the same rows hold
pub fields_same : (n m before : ℕ) (a b : List ℕ) → (0 < before → n ≡ m) → size_of a ≡ size_of b → length_of a ≡ length_of b → flags_of a ≡ flags_of b → head_fault n before a ≡ head_fault m before b
fields_same n m before a b same size len flags =
    let fields : head_fault n before a ≡ head_fault n before b = cc in
    fields ∙ elim (cases_eq before 0) [
      | inl z ↦ ap (λ (k : ℕ). head_fault n k b) z ∙ fresh_head m n (size_of b) (length_of b) (flags_of b) ∙ ap (λ (k : ℕ). head_fault m k b) (sym z)
      | inr ne ↦ ap (λ (k : ℕ). head_fault k before b) (same (omega arith))
    ]

pub fault_blocks : (n before : ℕ) (bytes head tail : List ℕ) (fault : RowFault) → bytes ≡ head ++ tail → ShowsFault n before head fault → Blocked n before bytes
unfolding Blocked
fault_blocks n before bytes head tail fault is has m frame rest most same f e =
    let len = frame_length m before frame f in
    let both : head ++ tail ≡ frame ++ rest = sym is ∙ e in
    elim has.holds [
      | inl four ↦
          let size : size_of head ≡ size_of frame = sym (size_of-append head tail (omega (arith, four.0))) ∙ ap size_of both ∙ size_of-append frame rest (omega (arith, len)) in
          some_is_some (size_fault (size_of head)) fault four.1 (ap size_fault size ∙ size_good (size_of frame) (omega (arith, len, f.size, f.some)) (omega (arith, len, f.size, f.most)))
      | inr twelve ↦
          let size : size_of head ≡ size_of frame = sym (size_of-append head tail (omega (arith, twelve.0))) ∙ ap size_of both ∙ size_of-append frame rest (omega (arith, len)) in
          let length' : length_of head ≡ length_of frame = sym (length_of-append head tail (omega (arith, twelve.0))) ∙ ap length_of both ∙ length_of-append frame rest (omega (arith, len, f.some)) in
          let flags : flags_of head ≡ flags_of frame = sym (flags_of-append head tail (omega (arith, twelve.0))) ∙ ap flags_of both ∙ flags_of-append frame rest (omega (arith, len, f.some)) in
          some_is_some (head_fault n before head) fault twelve.2 (fields_same n m before head frame same size length' flags ∙ good_frame m before frame most f)
    ]

-- frames that begin the same bytes are one
frame_same : (n m before : ℕ) (f g x y : List ℕ) → IsFrame n before f → IsFrame m before g → f ++ x ≡ g ++ y → (f ≡ g) × (x ≡ y)
frame_same n m before f g x y a b e =
    let size : size_of f ≡ size_of g = sym (size_of-append f x (omega (arith, frame_length n before f a))) ∙ ap size_of e ∙ size_of-append g y (omega (arith, frame_length m before g b)) in
    let len : length g ≡ length f = omega (arith, a.size, b.size, frame_length n before f a, frame_length m before g b) in (
      sym (take_at f x (length f) refl) ∙ ap (take (length f)) e ∙ take_at g y (length f) len,
      sym (drop_at f x (length f) refl) ∙ ap (drop (length f)) e ∙ drop_at g y (length f) len,
    )

-- bytes are whole frames, and then no frame, in one way
pub unique : (n m before k l : ℕ) (fs gs : List (List ℕ)) (x y : List ℕ) → n ≤ 1052672 → m ≤ 1052672 → (0 < before → n ≡ m) → AreFrames n before fs → AreFrames m before gs
    → k ≡ before + length (flat_map data_of fs) → l ≡ before + length (flat_map data_of gs) → Blocked n k x → Blocked m l y → concat fs ++ x ≡ concat gs ++ y → (fs ≡ gs) × (x ≡ y)
unfolding Blocked
unique n m before k l [] [] x y nm mm same a b ek el p q e = (refl, e)
unique n m before k l (f ∷ fs) [] x y nm mm same a b ek el p q e =
    let at : l ≡ before = omega arith in
    absurd (q n f (concat fs ++ x) nm (λ z. sym (same (omega arith))) (subst (λ (j : ℕ). IsFrame n j f) (sym at) a.0) (sym e ∙ append_assoc f (concat fs) x))
unique n m before k l [] (g ∷ gs) x y nm mm same a b ek el p q e =
    let at : k ≡ before = omega arith in
    absurd (p m g (concat gs ++ y) mm (λ z. same (omega arith)) (subst (λ (j : ℕ). IsFrame m j g) (sym at) b.0) (e ∙ append_assoc g (concat gs) y))
unique n m before k l (f ∷ fs) (g ∷ gs) x y nm mm same a b ek el p q e =
    let one = frame_same n m before f g (concat fs ++ x) (concat gs ++ y) a.0 b.0 (sym (append_assoc f (concat fs) x) ∙ e ∙ append_assoc g (concat gs) y) in
    let nm_same : n ≡ m = sym a.0.whole ∙ ap length_of one.0 ∙ b.0.whole in
    let data_len : length (data_of g) ≡ length (data_of f) = ap (λ (r : List ℕ). length (data_of r)) (sym one.0) in
    let rest = unique n m (before + length (data_of f)) k l fs gs x y nm mm (λ _. nm_same) a.1 (subst (λ (j : ℕ). AreFrames m (before + j) gs) data_len b.1)
    (omega (arith, ek, length-append (data_of f) (flat_map data_of fs))) (omega (arith, el, data_len, length-append (data_of g) (flat_map data_of gs))) p q one.1 in
    (ap (λ (r : List (List ℕ)). r) (cc (one.0, rest.0)), rest.1)
