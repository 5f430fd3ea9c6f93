-- Scripts: their lines, one after the other.
use Rattle.std.proofs.Common.{◌≡◌, refl, sym, ap, ◌∙◌, subst, ℕ, ◌+◌, List, [], ◌∷◌, Bool, true, false, cond, length, Option, Some, None, Result, Ok, Err}
use Rattle.std.specs.Prelude.{◌==◌, IfErr, IsErrAnd}
use Rattle.std.specs.Borrow.{Bor}
use Rattle.std.specs.List.{slice_split, onto_first}
use Rattle.rd_script.specs.declared.keyword.Mode.{Mode}
use Rattle.rd_script.specs.Row.{parts_left}
use Rattle.rd_script.specs.declared.why.ScriptNo.{ScriptNo}
use Rattle.rd_script.specs.declared.why.ScriptNo.TheVariants as no
use Rattle.rd_script.specs.Script.{lines_from, lines_of, size_with, is_end, Reading, BadLine, IsBadLine, Steps, read_all, step, reading_at_start, script_of, script_read}

-- a text has a part
pub some_part : (text : List ℕ) → (p : List ℕ) × (ps : List (List ℕ)) × (slice_split (λ b. b == 0x0a) text ≡ p ∷ ps)
some_part [] = ([], [], refl)
some_part (c ∷ cs) = of (c == 0x0a) (slice_split (λ b. b == 0x0a) cs)
  where
    of : (b : Bool) (parts : List (List ℕ)) → (p : List ℕ) × (ps : List (List ℕ)) × (cond b ([] ∷ parts) (onto_first c parts) ≡ p ∷ ps)
    of true parts = ([], parts, refl)
    of false [] = (c ∷ [], [], refl)
    of false (q ∷ qs) = (c ∷ q, qs, refl)

-- the next line
pub lines_next : (line : List ℕ) (others : Option (Bor (List ℕ))) → is_end line others ≡ false → lines_from (line ∷ parts_left 0x0a others) ≡ record { text = line; size = size_with line others } ∷ lines_from (parts_left 0x0a others)
lines_next line None e = rw e refl
lines_next line (Some others) e =
    let some = some_part others.now in
    ap (λ (parts : List (List ℕ)). lines_from (line ∷ parts)) some.2
    ∙ ap (λ (parts : List (List ℕ)). record { text = line; size = length line + 1 } ∷ lines_from parts) (sym some.2)

-- no further line
pub lines_end : (line : List ℕ) (others : Option (Bor (List ℕ))) → is_end line others ≡ true → lines_from (line ∷ parts_left 0x0a others) ≡ []
lines_end line None e = rw e refl
lines_end line (Some others) e = cc e

-- one more line is read
pub read_next : (text line : List ℕ) (others : Option (Bor (List ℕ))) (old new : Reading) (end : Result Reading BadLine) → slice_split (λ b. b == 0x0a) text ≡ line ∷ parts_left 0x0a others → is_end line others ≡ false → step old (record { text = line; size = size_with line others }) ≡ Ok new → read_all (lines_from (slice_split (λ b. b == 0x0a) text)) old ≡ end → read_all (lines_from (parts_left 0x0a others)) new ≡ end
read_next text line others old new end parts more is all =
    let lines = ap lines_from parts ∙ lines_next line others more in
    rw (lines, is) at all

-- a line is bad
pub read_bad : (text line : List ℕ) (others : Option (Bor (List ℕ))) (old : Reading) (bad : BadLine) (end : Result Reading BadLine) → slice_split (λ b. b == 0x0a) text ≡ line ∷ parts_left 0x0a others → is_end line others ≡ false → step old (record { text = line; size = size_with line others }) ≡ Err bad → read_all (lines_from (slice_split (λ b. b == 0x0a) text)) old ≡ end → Err bad ≡ end
read_bad text line others old bad end parts more is all =
    let lines = ap lines_from parts ∙ lines_next line others more in
    rw (lines, is) at all

-- all lines are read
pub read_end : (text line : List ℕ) (others : Option (Bor (List ℕ))) (old : Reading) (end : Result Reading BadLine) → slice_split (λ b. b == 0x0a) text ≡ line ∷ parts_left 0x0a others → is_end line others ≡ true → read_all (lines_from (slice_split (λ b. b == 0x0a) text)) old ≡ end → Ok old ≡ end
read_end text line others old end parts over all =
    let lines = ap lines_from parts ∙ lines_end line others over in
    rw lines at all

-- the first bad line of the text, unless memory ran out
pub bad_case : (m : Mode) (bytes text line : List ℕ) (others : Option (Bor (List ℕ))) (old new : Reading) (size : ℕ) (e : ScriptNo) → slice_split (λ b. b == 0x0a) text ≡ line ∷ parts_left 0x0a others → is_end line others ≡ false → size ≡ size_with line others → Steps old new (record { text = line; size = size }) (Err e) → read_all (lines_from (slice_split (λ b. b == 0x0a) text)) old ≡ read_all (lines_of bytes) (reading_at_start m) → IsBadLine (λ bad. script_of m bytes ≡ Err bad) e
bad_case m bytes text line others old new size no.Memory parts more sized is all = tt
bad_case m bytes text line others old new size (no.BadLine number cause) parts more sized is all =
    ap (script_read m) (sym (read_bad text line others old (record { line = number; why = cause }) (read_all (lines_of bytes) (reading_at_start m)) parts more (ap (λ (n : ℕ). step old (record { text = line; size = n })) (sym sized) ∙ is) all))

-- an error that is passed on is the same
pub err_same : {T : Type 0} (P : ScriptNo → Type 0) (r : Result T ScriptNo) (e : ScriptNo) → IsErrAnd r (λ x. x ≡ e) → P e → IfErr r P
err_same P (Ok x) e h p = tt
err_same P (Err x) e h p = subst P (sym h) p
