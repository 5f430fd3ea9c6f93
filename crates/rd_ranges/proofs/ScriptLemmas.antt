-- What each line keeps that is read holds of all that was read of a script.
use Rattle.std.proofs.Common.{◌≡◌, refl, ap, subst, ℕ, ◌+◌, Bool, true, false, cond, List, [], ◌∷◌, ◌++◌, map, Result, Ok, Err}
use Rattle.std.specs.Prelude.{not}
use Rattle.std.specs.List.{AllByRecursion}
use Rattle.std.specs.Result.{result_unwrap_or}
use Rattle.rd_ranges.proofs.RowLemmas.{IsPlaced, line_placed}
use Rattle.rd_ranges.specs.Ranges.{NamesShort}
use Rattle.rd_script.specs.declared.keyword.Mode.{Mode}
use Rattle.rd_script.specs.declared.line.Line.{Line}
use Rattle.rd_script.specs.declared.line.Line.TheVariants as line
use Rattle.rd_script.specs.declared.line.NumberedLine.{NumberedLine}
use Rattle.rd_script.specs.declared.script.Script.{Script}
use Rattle.rd_script.specs.declared.why.LineWhy.{LineWhy}
use Rattle.rd_script.specs.declared.why.LineWhy.TheVariants as why
use Rattle.rd_script.specs.Said.{Said}
use Rattle.rd_script.specs.Script.{BadLine, Reading, TextLine, bad_line, fits, go_on, is_skipped, line_of, lines_of, read_all, reading, reading_at_start, script_of, script_read, skipping, step, taken}

same_reading : (x y : Reading) → ◌≡◌ {A = Result Reading BadLine} (Ok x) (Ok y) → x ≡ y
same_reading x y e = ap (λ (r : Result Reading BadLine). result_unwrap_or r x) e

module _ (P : Reading → Type 0) (skips : (r : Reading) (size : ℕ) → P r → P (skipping r size)) (more : (r : Reading) (size : ℕ) (found : Line) → IsPlaced r.said found → P r → P (reading r size found)) where
  step_keeps : (r new : Reading) (l : TextLine) → P r → step r l ≡ Ok new → P new
  unfolding step
  step_keeps r new l p is = by (fits r l.size) (is_skipped l.text) (line_of r.said l.text) refl is
    where
      by : (within skipped : Bool) (found : Result Line LineWhy) → line_of r.said l.text ≡ found
          → cond (not within) (Err (bad_line r why.Many)) (cond skipped (Ok (skipping r l.size)) (taken r l.size found)) ≡ Ok new → P new
      by false skipped found e h = absurd cc
      by true true found e h = subst P (same_reading _ _ h) (skips r l.size p)
      by true false (Ok found) e h = subst P (same_reading _ _ h) (more r l.size found (line_placed r.said l.text found e) p)
      by true false (Err cause) e h = absurd cc

  all_keep : (ls : List TextLine) (r new : Reading) → P r → read_all ls r ≡ Ok new → P new
  all_keep [] r new p is = subst P (same_reading r new is) p
  all_keep (l ∷ ls) r new p is = by (step r l) refl (all_keep ls) is
    where
      by : (first : Result Reading BadLine) → step r l ≡ first → ((r new : Reading) → P r → read_all ls r ≡ Ok new → P new) → go_on (read_all ls) first ≡ Ok new → P new
      by (Ok middle) e next h = next middle new (step_keeps r middle l p e) h
      by (Err bad) e next h = absurd cc

  pub script_keeps : (m : Mode) (text : List ℕ) (script : Script) → P (reading_at_start m) → script_of m text ≡ Ok script → (last : Reading) × P last × (last.lines ≡ script.lines)
  script_keeps m text script p is = by (read_all (lines_of text) (reading_at_start m)) refl is
    where
      by : (r : Result Reading BadLine) → read_all (lines_of text) (reading_at_start m) ≡ r → script_read m r ≡ Ok script → (last : Reading) × P last × (last.lines ≡ script.lines)
      by (Ok last) e h = (last, all_keep (lines_of text) (reading_at_start m) last p e, ap (λ (r : Result Script BadLine). (result_unwrap_or r script).lines) h)
      by (Err bad) e h = absurd cc

-- ---- names with room

each_more : {A : Type 0} (P : A → Type 0) (xs : List A) (x : A) → AllByRecursion P xs → P x → AllByRecursion P (xs ++ x ∷ [])
each_more P [] x all own = (own, tt)
each_more P (y ∷ xs) x all own = (all.0, each_more P xs x all.1 own)

placed_short : (said : Said) (l : Line) → IsPlaced said l → NamesShort l
unfolding IsPlaced NamesShort
placed_short said (line.Drive device name) placed = placed
placed_short said (line.DriveFold device name) placed = placed
placed_short said (line.Folder device path) placed = placed
placed_short said (line.File device path bytes) placed = placed
placed_short said (line.Fill device path len byte) placed = placed
placed_short said l placed = tt

bare_short : (ls : List NumberedLine) → AllByRecursion (λ (l : NumberedLine). NamesShort l.line) ls → AllByRecursion NamesShort (map (λ (l : NumberedLine). l.line) ls)
bare_short [] all = tt
bare_short (l ∷ ls) all = (all.0, bare_short ls all.1)

pub scripts_short : (m : Mode) (text : List ℕ) (script : Script) → script_of m text ≡ Ok script → AllByRecursion NamesShort (map (λ (l : NumberedLine). l.line) script.lines)
scripts_short m text script is =
    let read = script_keeps (λ (r : Reading). AllByRecursion (λ (l : NumberedLine). NamesShort l.line) r.lines) (λ r size all. all)
    (λ r size found placed all. each_more (λ (l : NumberedLine). NamesShort l.line) r.lines (record { number = r.number + 1; line = found }) all (placed_short r.said found placed)) m text script tt is in
    bare_short script.lines (subst (λ (ls : List NumberedLine). AllByRecursion (λ (l : NumberedLine). NamesShort l.line) ls) read.2 read.1)
