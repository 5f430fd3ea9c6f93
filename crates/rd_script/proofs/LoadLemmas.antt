-- Loads: lines that are added one after the other.
use Rattle.std.proofs.Common.{◌≡◌, refl, sym, ap, ◌∙◌, subst, ℕ, zero, suc, ◌+◌, ◌*◌, codes, add-one, arith, List, [], ◌∷◌, ◌++◌, length, append_assoc, append-nil}
use Rattle.std.proofs.lemmas.List.{length_push}
use Rattle.rd_script.specs.declared.line.Line.{Line}
use Rattle.rd_script.specs.declared.line.Line.TheVariants as line
use Rattle.rd_script.specs.declared.line.NumberedLine.{NumberedLine}
use Rattle.rd_script.specs.Load.{AddsLines, block, block_bytes, blocks, numbered, write_and_read}

-- one line is added
pub adds_one : (old new : List NumberedLine) (l : Line) → new ≡ old ++ record { number = length old + 1; line = l } ∷ [] → AddsLines old new (l ∷ [])
adds_one old new l is rest =
    let one : NumberedLine = record { number = length old + 1; line = l } in
    let long : length new ≡ length old + 1 = ap length is ∙ length_push old one in
    ap (λ (xs : List NumberedLine). xs ++ numbered (length new + 1) rest) is
    ∙ ap (λ (n : ℕ). (old ++ one ∷ []) ++ numbered (n + 1) rest) long
    ∙ append_assoc old (one ∷ []) (numbered (length old + 1 + 1) rest)

-- none is
pub adds_none : (old : List NumberedLine) → AddsLines old old []
adds_none old rest = refl

-- some are, and then more
pub adds_more : (a b c : List NumberedLine) (xs ys : List Line) → AddsLines a b xs → AddsLines b c ys → AddsLines a c (xs ++ ys)
adds_more a b c xs ys first second rest =
    second rest ∙ first (ys ++ rest) ∙ ap (λ (ls : List Line). a ++ numbered (length a + 1) ls) (sym (append_assoc xs ys rest))

-- so many blocks are those before a block, the block, and those after it
blocks-more : (application i n : ℕ) → blocks application i (suc n) ≡ blocks application i n ++ write_and_read application (i + n)
blocks-more application i zero =
    let zero_more : i + 0 ≡ i = omega arith in
    ap (λ (j : ℕ). write_and_read application j) (sym zero_more)
blocks-more application i (suc n) =
    let on : i + 1 + n ≡ i + suc n = omega arith in
    ap (λ (ls : List Line). write_and_read application i ++ ls) (blocks-more application (i + 1) n ∙ ap (λ (j : ℕ). blocks application (i + 1) n ++ write_and_read application j) on)

-- one block more
pub adds_block : (a b c : List NumberedLine) (application i : ℕ) → AddsLines a b (blocks application 0 i) → AddsLines b c (write_and_read application i) → AddsLines a c (blocks application 0 (i + 1))
adds_block a b c application i first second rest =
    let none : 0 + i ≡ i = omega arith in
    let more : blocks application 0 (i + 1) ≡ blocks application 0 i ++ write_and_read application i =
    ap (blocks application 0) (add-one i) ∙ blocks-more application 0 i ∙ ap (λ (j : ℕ). blocks application 0 i ++ write_and_read application j) none in
    adds_more a b c (blocks application 0 i) (write_and_read application i) first second rest
    ∙ ap (λ (ls : List Line). a ++ numbered (length a + 1) (ls ++ rest)) (sym more)

-- the same block is written
pub write_same : (application i : ℕ) (handle bytes : List ℕ) (m n : ℕ) → handle ≡ codes "h" → m ≡ block → n ≡ i → bytes ≡ block_bytes application i → line.Write application handle (m * n) bytes ≡ line.Write application (codes "h") (block * i) (block_bytes application i)
write_same application i handle bytes m n same_handle same_m same_n same_bytes = rw (same_handle, same_m, same_n, same_bytes) refl

-- all lines, from the first on
adds_all : (new : List NumberedLine) (ls : List Line) → AddsLines [] new ls → new ≡ numbered 1 ls
adds_all new ls all = sym (append-nil new) ∙ all [] ∙ ap (numbered 1) (append-nil ls)

-- the same line is added
pub adds_same : (old new : List NumberedLine) (l m : Line) → l ≡ m → AddsLines old new (l ∷ []) → AddsLines old new (m ∷ [])
adds_same old new l m e first = subst (λ (x : Line). AddsLines old new (x ∷ [])) e first

-- all lines, from none on
pub adds_from : (old new : List NumberedLine) (ls : List Line) → old ≡ [] → AddsLines old new ls → new ≡ numbered 1 ls
adds_from old new ls none all = adds_all new ls (subst (λ (xs : List NumberedLine). AddsLines xs new ls) none all)
