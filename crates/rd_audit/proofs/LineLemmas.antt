-- The lines of journals, as far as they were judged.
use Rattle.std.proofs.Common.{◌≡◌, ℕ, suc, ◌+◌, ◌≤◌, Bool, true, false, List, [], ◌∷◌, ◌++◌, length, All, Option, Some, None, refl, sym, ap, subst, ◌∙◌, length-append, arith}
use Rattle.std.specs.Prelude.{IsTrue, ◌↔◌, ◌≢◌, is_some}
use Rattle.std.specs.Option.{option_or}
use Rattle.rd_base.specs.declared.journal.Item.{Item}
use Rattle.rd_base.specs.Lawful.{FewUnsent}
use Rattle.rd_audit_file.specs.declared.line.JournalLine.{JournalLine}
use Rattle.rd_audit_file.specs.declared.line.JournalLine.TheVariants.{Device, Entry}
use Rattle.rd_audit_file.specs.Lines.{BeginsWithLine, BeginsWithNoLine, LineFits, line_text}
use Rattle.rd_audit_file.specs.Journals.{lines_text}
use Rattle.rd_audit_file.proofs.LineLemmas.{begins_once, line_nonempty}
use Rattle.rd_lawful.specs.Rules.{few_unsent}
use Rattle.rd_lawful.proofs.TestLemmas.{few-decides}
use Rattle.rd_audit.specs.Lawful.{HasJudged, broken_at_end, entry_broken, first_unlawful}
use Rattle.rd_audit.specs.declared.lawful.Judged.{Judged}
use Rattle.rd_audit.specs.declared.verdict.Verdict.{Verdict}

-- what decides whether few are unsent says so
pub few_is : (items : List Item) (may : Bool) → (IsTrue may ↔ FewUnsent items) → few_unsent items ≡ may
few_is items may is = go (few_unsent items) may refl is
  where
    go : (b m : Bool) → few_unsent items ≡ b → (IsTrue m ↔ FewUnsent items) → b ≡ m
    go true true e m = refl
    go true false e m = sym (m.1 ((few-decides items).0 e))
    go false true e m = sym e ∙ (few-decides items).1 (m.0 refl)
    go false false e m = refl

-- Of a text of lines, a judge has judged all up to where this rest begins; what it judged has no more entries than the text has bytes there.
pub record IsJudgedTo (text : List ℕ) (j : Judged) (left : List ℕ) : Type 0 where
  pub entries : List Item
  pub judged : HasJudged j j.device entries
  pub few : length entries + length left ≤ length text
  pub of_lines : (lines : List JournalLine) → text ≡ lines_text lines → All LineFits lines
      → (rest : List JournalLine) × (left ≡ lines_text rest) × All LineFits rest × (first_unlawful 0 [] lines ≡ first_unlawful j.device entries rest)

-- the whole text, before its first line
pub judged_none : (text : List ℕ) (j : Judged) → HasJudged j 0 [] → IsJudgedTo text j text
judged_none text j judged = record {
  entries = [];
  judged = subst (λ (d : ℕ). HasJudged j d []) (sym judged.of_device) judged;
  few = omega arith;
  of_lines = λ lines is fit. (lines, is, fit, ap (λ (d : ℕ). first_unlawful d [] lines) (sym judged.of_device));
}

-- the lines of a text that begins with a line
pub one_line : (left : List ℕ) (line : JournalLine) (after : List ℕ) (rest : List JournalLine) → BeginsWithLine left line after → left ≡ lines_text rest → All LineFits rest
    → (others : List JournalLine) × (rest ≡ line ∷ others) × (after ≡ lines_text others) × All LineFits others
one_line left line after [] begins is fit =
    let nothing : line_text line ++ after ≡ [] = sym begins.parts ∙ is in
    let some = line_nonempty line in
    let none : length (line_text line) + length after ≡ 0 = sym (length-append (line_text line) after) ∙ ap length nothing in
    absurd (omega (arith, some, none))
one_line left line after (first ∷ others) begins is fit =
    let same = begins_once left line first after (lines_text others) begins (record { parts = is; fits = fit 0 first (omega arith) }) in
    (others, ap (λ (l : JournalLine). l ∷ others) (sym same.0), same.1, λ k d below. fit (suc k) d (omega (arith, below)))

-- the bytes of a line that was read are fewer by one at least
pub line_less : (left : List ℕ) (line : JournalLine) (after : List ℕ) → BeginsWithLine left line after → 1 + length after ≤ length left
line_less left line after begins =
    let some = line_nonempty line in
    let parts : length left ≡ length (line_text line) + length after = ap length begins.parts ∙ length-append (line_text line) after in
    omega (arith, some, parts)

-- what is found where a line is one of a device
pub device_found : (text : List ℕ) (j : Judged) (left : List ℕ) (id : ℕ) (after : List ℕ) (s : IsJudgedTo text j left) → BeginsWithLine left (Device id) after
    → (lines : List JournalLine) → text ≡ lines_text lines → All LineFits lines
    → (others : List JournalLine) × (after ≡ lines_text others) × All LineFits others × (first_unlawful 0 [] lines ≡ option_or (broken_at_end j.device s.entries) (first_unlawful id [] others))
device_found text j left id after s begins lines is fit =
    let o = s.of_lines lines is fit in
    let one = one_line left (Device id) after o.0 begins o.1 o.2 in
    (one.0, one.2, one.3, o.3 ∙ ap (first_unlawful j.device s.entries) one.1)

-- and of an entry
pub entry_found : (text : List ℕ) (j : Judged) (left : List ℕ) (entry : Item) (after : List ℕ) (s : IsJudgedTo text j left) → BeginsWithLine left (Entry entry) after
    → (lines : List JournalLine) → text ≡ lines_text lines → All LineFits lines
    → (others : List JournalLine) × (after ≡ lines_text others) × All LineFits others × (first_unlawful 0 [] lines ≡ option_or (entry_broken j.device s.entries entry) (first_unlawful j.device (s.entries ++ entry ∷ []) others))
entry_found text j left entry after s begins lines is fit =
    let o = s.of_lines lines is fit in
    let one = one_line left (Entry entry) after o.0 begins o.1 o.2 in
    (one.0, one.2, one.3, o.3 ∙ ap (first_unlawful j.device s.entries) one.1)

-- where the journal before a device's line may end, its own is judged from there
pub judged_device : (text : List ℕ) (j new : Judged) (left : List ℕ) (id : ℕ) (after : List ℕ) (s : IsJudgedTo text j left) → BeginsWithLine left (Device id) after → HasJudged new id [] → broken_at_end j.device s.entries ≡ None → IsJudgedTo text new after
judged_device text j new left id after s begins judged none = record {
  entries = [];
  judged = subst (λ (d : ℕ). HasJudged new d []) (sym judged.of_device) judged;
  few = omega (arith, s.few, line_less left (Device id) after begins);
  of_lines = λ lines is fit.
      let o = device_found text j left id after s begins lines is fit in
      (o.0, o.1, o.2, o.3 ∙ ap (λ (f : Option Verdict). option_or f (first_unlawful id [] o.0)) none ∙ ap (λ (d : ℕ). first_unlawful d [] o.0) (sym judged.of_device));
}

-- where an entry breaks no rule, what it makes of the journal is judged
pub judged_entry : (text : List ℕ) (j new : Judged) (left : List ℕ) (entry : Item) (after : List ℕ) (s : IsJudgedTo text j left) → BeginsWithLine left (Entry entry) after → HasJudged new j.device (s.entries ++ entry ∷ []) → entry_broken j.device s.entries entry ≡ None → IsJudgedTo text new after
judged_entry text j new left entry after s begins judged none = record {
  entries = s.entries ++ entry ∷ [];
  judged = subst (λ (d : ℕ). HasJudged new d (s.entries ++ entry ∷ [])) (sym judged.of_device) judged;
  few = omega (arith, s.few, line_less left (Entry entry) after begins, length-append s.entries (entry ∷ []));
  of_lines = λ lines is fit.
      let o = entry_found text j left entry after s begins lines is fit in
      (o.0, o.1, o.2, o.3 ∙ ap (λ (f : Option Verdict). option_or f (first_unlawful j.device (s.entries ++ entry ∷ []) o.0)) none ∙ ap (λ (d : ℕ). first_unlawful d (s.entries ++ entry ∷ []) o.0) (sym judged.of_device));
}

-- what was found first stands
pub found_stands : (found other : Option Verdict) → found ≢ None → option_or found other ≡ found
found_stands (Some v) other some = refl
found_stands None other some = absurd (some refl)

-- nothing is found in none, and what is found is something
pub none_is : (f : Option Verdict) → false ≡ is_some f → f ≡ None
none_is None is = refl
none_is (Some v) is = absurd cc

pub some_is : (f : Option Verdict) → true ≡ is_some f → f ≢ None
some_is (Some v) is = λ none. cc none
some_is None is = absurd cc

-- no text that is over begins with a line
pub over_begins : (left : List ℕ) → left ≡ [] → BeginsWithNoLine left
over_begins left over line rest begins =
    let some = line_nonempty line in
    let nothing : length (line_text line) + length rest ≡ 0 = sym (length-append (line_text line) rest) ∙ ap length (sym begins.parts ∙ over) in
    absurd (omega (arith, some, nothing))

-- where no line is next, a text of lines is over
pub ends_judged : (text : List ℕ) (j : Judged) (left : List ℕ) (s : IsJudgedTo text j left) → BeginsWithNoLine left
    → (lines : List JournalLine) → text ≡ lines_text lines → All LineFits lines → first_unlawful 0 [] lines ≡ broken_at_end j.device s.entries
ends_judged text j left s none lines is fit =
    let o = s.of_lines lines is fit in
    o.3 ∙ go o.0 o.1 o.2
  where
    go : (rest : List JournalLine) → left ≡ lines_text rest → All LineFits rest → first_unlawful j.device s.entries rest ≡ broken_at_end j.device s.entries
    go [] parts fits = refl
    go (line ∷ others) parts fits = absurd (none line (lines_text others) (record { parts = parts; fits = fits 0 line (omega arith) }))
