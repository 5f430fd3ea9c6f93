-- Texts that are longer than a script may be.
use Rattle.std.proofs.Common.{◌≡◌, refl, sym, ap, ◌∙◌, arith, ℕ, zero, suc, ◌+◌, ◌≤◌, ◌<◌, Bool, true, false, cond, List, [], ◌∷◌, ◌++◌, append-nil, length, Result, Ok, Err, inl, inr}
use Rattle.std.specs.Prelude.{◌==◌, not, nat_le, nat_lt}
use Rattle.std.specs.List.{onto_first, slice_split}
use Rattle.std.proofs.lemmas.Bool.{and_parts, cases_lt, false_from_ne_true, leb-true}
use Rattle.std.proofs.lemmas.Bool.Decides.{nat_tests}
use Rattle.std.proofs.lemmas.List.{length-append}
use Rattle.rd_script.specs.declared.keyword.Mode.{Mode}
use Rattle.rd_script.specs.declared.line.Line.{Line}
use Rattle.rd_script.specs.declared.script.Script.{Script}
use Rattle.rd_script.specs.declared.why.LineWhy.{LineWhy}
use Rattle.rd_script.specs.declared.why.LineWhy.TheVariants as why
use Rattle.rd_script.specs.Script.{BadLine, Reading, TextLine, bad_line, fits, go_on, is_skipped, line_of, lines_from, lines_of, max_bytes, read_all, reading, reading_at_start, script_of, script_read, skipping, step, taken}
use Rattle.rd_script.proofs.ScriptLemmas.{some_part}

-- the parts of a text between its line feeds
abbrev parts : List ℕ → List (List ℕ)
parts text = slice_split (λ b. b == 0x0a) text

-- A text has no line feed, or a first line with one. What comes after it doesn't change that line.
data Cut (text : List ℕ) : Type 0 where
  unfed : ((rest : List ℕ) → (p : List ℕ) × (ps : List (List ℕ)) × (parts (text ++ rest) ≡ (text ++ p) ∷ ps)) → Cut text
  fed : (first behind : List ℕ) → length text ≡ length first + 1 + length behind → ((rest : List ℕ) → parts (text ++ rest) ≡ first ∷ parts (behind ++ rest)) → Cut text

cut : (text : List ℕ) → Cut text
cut [] = unfed (λ rest. some_part rest)
cut (c ∷ cs) = by (c == 0x0a) refl (cut cs)
  where
    split_feed : (c == 0x0a) ≡ true → (rest : List ℕ) → parts ((c ∷ cs) ++ rest) ≡ [] ∷ parts (cs ++ rest)
    split_feed e rest = rw e refl

    split_other : (c == 0x0a) ≡ false → (rest : List ℕ) → parts ((c ∷ cs) ++ rest) ≡ onto_first c (parts (cs ++ rest))
    split_other e rest = rw e refl

    by : (b : Bool) → (c == 0x0a) ≡ b → Cut cs → Cut (c ∷ cs)
    by true e others = fed [] cs (omega arith) (split_feed e)
    by false e (unfed more) = unfed (λ rest. let m = more rest in (m.0, m.1, split_other e rest ∙ ap (onto_first c) m.2))
    by false e (fed first behind long split_is) = fed (c ∷ first) behind (omega (arith, long)) (λ rest. split_other e rest ∙ ap (onto_first c) (split_is rest))

-- ---- one line that is read

-- what is within the limits
within_bytes : (r : Reading) (size : ℕ) → fits r size ≡ true → r.bytes + size ≤ max_bytes
within_bytes r size within = leb-true (r.bytes + size) max_bytes (and_parts (nat_lt r.number 1000000) (nat_le (r.bytes + size) max_bytes) within).1

-- the bytes of a line that was read are counted, and are within the limits
record Counted (r : Reading) (size : ℕ) (new : Reading) : Type 0 where
  bytes : new.bytes ≡ r.bytes + size
  within : r.bytes + size ≤ max_bytes

same_reading : (x y : Reading) → ◌≡◌ {A = Result Reading BadLine} (Ok x) (Ok y) → y.bytes ≡ x.bytes
same_reading x y e = sym (ap (λ (r : Result Reading BadLine). bytes_in r) e)
  where
    bytes_in : Result Reading BadLine → ℕ
    bytes_in (Ok r) = r.bytes
    bytes_in (Err bad) = 0

counted : (r : Reading) (l : TextLine) (new : Reading) → step r l ≡ Ok new → Counted r l.size new
unfolding step
counted r l new is = by (fits r l.size) (is_skipped l.text) (line_of r.said l.text) refl is
  where
    by : (within skipped : Bool) (found : Result Line LineWhy) → fits r l.size ≡ within
        → cond (not within) (Err (bad_line r why.Many)) (cond skipped (Ok (skipping r l.size)) (taken r l.size found)) ≡ Ok new → Counted r l.size new
    by false skipped found e h = absurd cc
    by true true found e h = record { bytes = same_reading (skipping r l.size) new h; within = within_bytes r l.size e }
    by true false (Ok found) e h = record { bytes = same_reading (reading r l.size found) new h; within = within_bytes r l.size e }
    by true false (Err cause) e h = absurd cc

-- ---- the first line that is bad

-- A text of which a script can't be read: its first bad line, which nothing that comes after the text changes.
abbrev Long : List ℕ → Reading → Type 0
Long text r = (bad : BadLine) × ((rest : List ℕ) → read_all (lines_of (text ++ rest)) r ≡ Err bad)

too_long : (r : Reading) (l : TextLine) → max_bytes < r.bytes + l.size → step r l ≡ Err (bad_line r why.Many)
unfolding step
too_long r l long =
    let over : fits r l.size ≡ false = false_from_ne_true (fits r l.size) (λ is. omega (arith, within_bytes r l.size is, long)) in
    rw over refl

-- without a line feed: the one line is too long
first_long : (text p : List ℕ) (ps : List (List ℕ)) (r : Reading) → r.bytes ≤ max_bytes → max_bytes < r.bytes + length text → read_all (lines_from ((text ++ p) ∷ ps)) r ≡ Err (bad_line r why.Many)
first_long text p [] r few long = by (length (text ++ p) == 0) refl
  where
    by : (b : Bool) → (length (text ++ p) == 0) ≡ b → read_all (cond b [] (record { text = text ++ p; size = length (text ++ p) } ∷ [])) r ≡ Err (bad_line r why.Many)
    by true e = let none : length (text ++ p) ≡ 0 = grind (arith, nat_tests, e) in absurd (omega (arith, none, few, long, length-append text p))
    by false e = ap (go_on (read_all [])) (too_long r (record { text = text ++ p; size = length (text ++ p) }) (omega (arith, long, length-append text p)))
first_long text p (q ∷ ps) r few long =
    ap (go_on (read_all (lines_from (q ∷ ps)))) (too_long r (record { text = text ++ p; size = length (text ++ p) + 1 }) (omega (arith, long, length-append text p)))

unfed_long : (text : List ℕ) (r : Reading) → r.bytes ≤ max_bytes → max_bytes < r.bytes + length text
    → ((rest : List ℕ) → (p : List ℕ) × (ps : List (List ℕ)) × (parts (text ++ rest) ≡ (text ++ p) ∷ ps)) → Long text r
unfed_long text r few long more =
    (bad_line r why.Many, λ rest. let m = more rest in ap (λ (ps : List (List ℕ)). read_all (lines_from ps) r) m.2 ∙ first_long text m.0 m.1 r few long)

-- the line before the others
abbrev fed_line : List ℕ → TextLine
fed_line first = record { text = first; size = length first + 1 }

fed_lines : (first behind : List ℕ) → lines_from (first ∷ parts behind) ≡ fed_line first ∷ lines_of behind
fed_lines first behind =
    let some = some_part behind in
    ap (λ (ps : List (List ℕ)). lines_from (first ∷ ps)) some.2 ∙ ap (λ (ps : List (List ℕ)). fed_line first ∷ lines_from ps) (sym some.2)

-- the first line is read, and then the others
fed_read : (text first behind rest : List ℕ) (r : Reading) → parts (text ++ rest) ≡ first ∷ parts (behind ++ rest)
    → read_all (lines_of (text ++ rest)) r ≡ go_on (read_all (lines_of (behind ++ rest))) (step r (fed_line first))
fed_read text first behind rest r split_is =
    ap (λ (ps : List (List ℕ)). read_all (lines_from ps) r) split_is ∙ ap (λ (ls : List TextLine). read_all ls r) (fed_lines first (behind ++ rest))

long_text : (fuel : ℕ) (text : List ℕ) (r : Reading) → length text < fuel → r.bytes ≤ max_bytes → max_bytes < r.bytes + length text → Long text r
long_text zero text r enough few long = absurd (omega (arith, enough))
long_text (suc fuel) text r enough few long = by (long_text fuel) (cut text)
  where
    on : ((t : List ℕ) (m : Reading) → length t < fuel → m.bytes ≤ max_bytes → max_bytes < m.bytes + length t → Long t m) → (first behind : List ℕ) → length text ≡ length first + 1 + length behind
        → ((rest : List ℕ) → parts (text ++ rest) ≡ first ∷ parts (behind ++ rest)) → (s : Result Reading BadLine) → step r (fed_line first) ≡ s → Long text r
    on rec first behind size split_is (Err bad) is =
        (bad, λ rest. fed_read text first behind rest r (split_is rest) ∙ ap (go_on (read_all (lines_of (behind ++ rest)))) is)
    on rec first behind size split_is (Ok middle) is =
        let c = counted r (fed_line first) middle is in
        let counts : middle.bytes ≡ r.bytes + (length first + 1) = c.bytes in
        let most : r.bytes + (length first + 1) ≤ max_bytes = c.within in
        let later = rec behind middle (omega (arith, enough, size)) (omega (arith, counts, most)) (omega (arith, counts, size, long)) in
        (later.0, λ rest. fed_read text first behind rest r (split_is rest) ∙ ap (go_on (read_all (lines_of (behind ++ rest)))) is ∙ later.1 rest)

    by : ((t : List ℕ) (m : Reading) → length t < fuel → m.bytes ≤ max_bytes → max_bytes < m.bytes + length t → Long t m) → Cut text → Long text r
    by rec (unfed more) = unfed_long text r few long more
    by rec (fed first behind size split_is) = on rec first behind size split_is (step r (fed_line first)) refl

-- ---- texts

-- Of a text that is longer than a script may be a line is refused, whatever comes after it.
long_refused : (m : Mode) (text : List ℕ) → max_bytes < length text → (bad : BadLine) × ((rest : List ℕ) → script_of m (text ++ rest) ≡ Err bad)
long_refused m text long =
    let l = long_text (suc (length text)) text (reading_at_start m) (omega arith) (omega arith) (omega (arith, long)) in
    (l.0, λ rest. ap (script_read m) (l.1 rest))

-- What comes after such a text doesn't change its refusal.
pub script_cut : (m : Mode) (text rest : List ℕ) → max_bytes < length text → script_of m (text ++ rest) ≡ script_of m text
script_cut m text rest long =
    let l = long_refused m text long in
    l.1 rest ∙ sym (ap (script_of m) (sym (append-nil text)) ∙ l.1 [])

-- A script isn't longer.
pub script_short : (m : Mode) (text : List ℕ) (script : Script) → script_of m text ≡ Ok script → length text ≤ max_bytes
script_short m text script is =
    elim (cases_lt max_bytes (length text)) [
      | inl long ↦
          let l = long_refused m text long in
          let bad = sym (ap (script_of m) (sym (append-nil text)) ∙ l.1 []) ∙ is in
          absurd (cc bad)
      | inr short ↦ short
    ]
