-- Journal texts: how far one is read, and that it has one reading.
use Rattle.std.proofs.Common.{◌≡◌, ◌≢◌, refl, sym, ◌∙◌, ap, subst, ℕ, zero, suc, ◌+◌, arith, List, [], ◌∷◌, ◌++◌, length, map, Bool, true, false, cond, Some, None, append_assoc}
use Rattle.std.specs.Prelude.{◌==◌, All, Ok}
use Rattle.std.proofs.lemmas.Bool.{eqb-true}
use Rattle.std.proofs.lemmas.Bool.Decides.{nat_tests}
use Rattle.std.proofs.lemmas.Grind.{flat_map-append}
use Rattle.std.proofs.lemmas.List.{append-nil, length-append, map-append}
use Rattle.std.proofs.lemmas.List.Elements.{All-append, All-nil}
use Rattle.std.proofs.lemmas.Option.{none-some, same_Some}
use Rattle.rd_base.specs.declared.bad.Why.TheVariants.{Short, Value}
use Rattle.rd_base.specs.declared.journal.Item.{Item}
use Rattle.rd_audit_file.specs.declared.line.JournalLine.{JournalLine}
use Rattle.rd_audit_file.specs.declared.line.JournalLine.TheVariants.{Device, Entry}
use Rattle.rd_audit_file.specs.Lines.{line_text, BeginsWithLine, BeginsWithNoLine, LineFits}
use Rattle.rd_audit_file.specs.Journals.{journal_ids, journal_lines, journal_text, lines_of_journal, lines_text, ChecksJournals, JournalFault, JournalsFit, LineGoesOn}
use Rattle.rd_audit_file.specs.Taken.{left_behind}
use Rattle.rd_audit_file.proofs.LineLemmas.{begins_once, line_nonempty}

-- How far the text of these devices' journals is read: to this place, before the rest, with those devices to come.
pub record IsRead (ids text : List ℕ) (place : ℕ) (rest left : List ℕ) (begun : Bool) : Type 0 where
  pub journals : List (ℕ × List Item)
  pub of_these : journal_ids journals ++ left ≡ ids
  pub parts : text ≡ journal_text journals ++ rest
  pub at : place ≡ length (journal_text journals)
  pub fit : JournalsFit journals
  pub none : begun ≡ false → journals ≡ []
  pub some : begun ≡ true → journals ≢ []

-- nothing is read
pub read_none : (ids text : List ℕ) → IsRead ids text 0 text ids false
read_none ids text = record {
  journals = [];
  of_these = refl;
  parts = refl;
  at = refl;
  fit = All-nil LineFits;
  none = λ is. refl;
  some = λ is. cc;
}

-- an entry more in the last journal
with_entry : List (ℕ × List Item) → Item → List (ℕ × List Item)
with_entry [] entry = []
with_entry (j ∷ []) entry = (j.0, j.1 ++ entry ∷ []) ∷ []
with_entry (j ∷ k ∷ ks) entry = j ∷ with_entry (k ∷ ks) entry

ids-with_entry : (js : List (ℕ × List Item)) (entry : Item) → journal_ids (with_entry js entry) ≡ journal_ids js
unfolding with_entry
ids-with_entry [] entry = refl
ids-with_entry (j ∷ []) entry = refl
ids-with_entry (j ∷ k ∷ ks) entry = ap (λ (ids : List ℕ). j.0 ∷ ids) (ids-with_entry (k ∷ ks) entry)

lines-with_entry : (js : List (ℕ × List Item)) (entry : Item) → js ≢ [] → journal_lines (with_entry js entry) ≡ journal_lines js ++ Entry entry ∷ []
unfolding with_entry
lines-with_entry [] entry some = absurd (some refl)
lines-with_entry (j ∷ []) entry some =
    let more : map (λ (e : Item). Entry e) (j.1 ++ entry ∷ []) ≡ map (λ (e : Item). Entry e) j.1 ++ Entry entry ∷ [] = map-append (λ (e : Item). Entry e) j.1 (entry ∷ []) in
    ap (λ (ls : List JournalLine). Device j.0 ∷ (ls ++ [])) more ∙ last (map (λ (e : Item). Entry e) j.1)
  where
    last : (ls : List JournalLine) → Device j.0 ∷ ((ls ++ Entry entry ∷ []) ++ []) ≡ (Device j.0 ∷ (ls ++ [])) ++ Entry entry ∷ []
    last ls = ap (λ (xs : List JournalLine). Device j.0 ∷ xs) (append-nil (ls ++ Entry entry ∷ []) ∙ ap (λ (xs : List JournalLine). xs ++ Entry entry ∷ []) (sym (append-nil ls)))
lines-with_entry (j ∷ k ∷ ks) entry some =
    ap (λ (ls : List JournalLine). lines_of_journal j ++ ls) (lines-with_entry (k ∷ ks) entry (λ none. cc none)) ∙ sym (append_assoc (lines_of_journal j) (journal_lines (k ∷ ks)) (Entry entry ∷ []))

some-with_entry : (js : List (ℕ × List Item)) (entry : Item) → js ≢ [] → with_entry js entry ≢ []
unfolding with_entry
some-with_entry [] entry some = absurd (some refl)
some-with_entry (j ∷ []) entry some = λ none. cc none
some-with_entry (j ∷ k ∷ ks) entry some = λ none. cc none

lines_text-more : (ls : List JournalLine) (line : JournalLine) → lines_text (ls ++ line ∷ []) ≡ lines_text ls ++ line_text line
lines_text-more ls line = flat_map-append line_text ls (line ∷ []) ∙ ap (λ (xs : List ℕ). lines_text ls ++ xs) (append-nil (line_text line))

pub all_one : (line : JournalLine) → LineFits line → All LineFits (line ∷ [])
all_one line fits zero d below = fits
all_one line fits (suc k) d below = absurd (omega arith)

end_some : (js : List (ℕ × List Item)) (j : ℕ × List Item) → js ++ j ∷ [] ≢ []
end_some [] j = λ none. cc none
end_some (k ∷ ks) j = λ none. cc none

-- one more line is read, with which the journals go on
read_line : (ids text : List ℕ) (place : ℕ) (rest left : List ℕ) (begun : Bool) (line : JournalLine) (after others : List ℕ)
    → (read : IsRead ids text place rest left begun) (journals : List (ℕ × List Item)) → BeginsWithLine rest line after
    → journal_ids journals ++ others ≡ ids → journal_lines journals ≡ journal_lines read.journals ++ line ∷ [] → journals ≢ []
    → IsRead ids text (place + length (line_text line)) after others true
read_line ids text place rest left begun line after others read journals begins of_these lines some =
    let shown : journal_text journals ≡ journal_text read.journals ++ line_text line = ap lines_text lines ∙ lines_text-more (journal_lines read.journals) line in
    record {
      journals = journals;
      of_these = of_these;
      parts = read.parts ∙ ap (λ (xs : List ℕ). journal_text read.journals ++ xs) begins.parts ∙ sym (append_assoc (journal_text read.journals) (line_text line) after) ∙ ap (λ (xs : List ℕ). xs ++ after) (sym shown);
      at = ap (λ (n : ℕ). n + length (line_text line)) read.at ∙ sym (ap length shown ∙ length-append (journal_text read.journals) (line_text line));
      fit = subst (All LineFits) (sym lines) (All-append LineFits (journal_lines read.journals) (line ∷ []) read.fit (all_one line begins.fits));
      none = λ is. cc is;
      some = λ is. some;
    }

-- Another line is read, with which the journals go on.
pub read_more : (ids text : List ℕ) (place : ℕ) (rest left : List ℕ) (begun : Bool) (line : JournalLine) (after others : List ℕ)
    → IsRead ids text place rest left begun → BeginsWithLine rest line after → left_behind left begun line ≡ Some others
    → IsRead ids text (place + length (line_text line)) after others true
read_more ids text place rest [] begun (Device id) after others read begins goes = absurd (none-some others goes)
read_more ids text place rest (next ∷ more) begun (Device id) after others read begins goes = of (next == id) refl goes
  where
    of : (b : Bool) → (next == id) ≡ b → cond b (Some more) None ≡ Some others → IsRead ids text (place + length (line_text (Device id))) after others true
    of true is goes =
        let same : next ≡ id = eqb-true next id is in
        let left : more ≡ others = same_Some more others goes in
        let journals = read.journals ++ (id, []) ∷ [] in
        let these : journal_ids journals ++ others ≡ ids =
        ap (λ (xs : List ℕ). xs ++ others) (map-append (λ (j : ℕ × List Item). j.0) read.journals ((id, []) ∷ []))
        ∙ append_assoc (journal_ids read.journals) (id ∷ []) others
        ∙ ap (λ (n : ℕ). journal_ids read.journals ++ n ∷ others) (sym same) ∙ ap (λ (xs : List ℕ). journal_ids read.journals ++ next ∷ xs) (sym left) ∙ read.of_these in
        let lines : journal_lines journals ≡ journal_lines read.journals ++ Device id ∷ [] = flat_map-append lines_of_journal read.journals ((id, []) ∷ []) in
        read_line ids text place rest (next ∷ more) begun (Device id) after others read journals begins these lines (end_some read.journals (id, []))
    of false is goes = absurd (none-some others goes)
read_more ids text place rest left true (Entry entry) after others read begins goes =
    let some : read.journals ≢ [] = read.some refl in
    let same : left ≡ others = same_Some left others goes in
    let these : journal_ids (with_entry read.journals entry) ++ others ≡ ids =
    ap (λ (xs : List ℕ). xs ++ others) (ids-with_entry read.journals entry) ∙ ap (λ (xs : List ℕ). journal_ids read.journals ++ xs) (sym same) ∙ read.of_these in
    read_line ids text place rest left true (Entry entry) after others read (with_entry read.journals entry) begins these (lines-with_entry read.journals entry some) (some-with_entry read.journals entry some)
read_more ids text place rest left false (Entry entry) after others read begins goes = absurd (none-some others goes)

-- ---- what is wrong

goes : (left : List ℕ) (begun : Bool) (journals : List (ℕ × List Item)) (line : JournalLine) → (begun ≡ false → journals ≡ []) → left_behind left begun line ≡ None → ¬ (LineGoesOn journals left line)
goes [] begun journals (Device id) none stops next = none-some id next
goes (n ∷ ns) begun journals (Device id) none stops next =
    let same : n ≡ id = same_Some n id next in
    let test : (n == id) ≡ true = grind (arith, nat_tests) in
    none-some ns (sym stops ∙ rw test refl)
goes left true journals (Entry entry) none stops some = none-some left (sym stops)
goes left false journals (Entry entry) none stops some = some (none refl)

pub begins_some : (rest : List ℕ) (line : JournalLine) (after : List ℕ) → BeginsWithLine rest line after → rest ≢ []
begins_some rest line after begins none =
    let lengths : length rest ≡ length (line_text line) + length after = ap length begins.parts ∙ length-append (line_text line) after in
    let empty : length rest ≡ 0 = ap length none in
    absurd (omega (arith, lengths, empty, line_nonempty line))

-- what isn't empty
pub left_some : (left : List ℕ) → false ≡ (length left == 0) → left ≢ []
left_some [] is none = cc is
left_some (n ∷ ns) is none = cc none

-- The next line doesn't go on with the journals.
pub wrong_line : (ids text : List ℕ) (place : ℕ) (rest left : List ℕ) (begun : Bool) (line : JournalLine) (after : List ℕ)
    → IsRead ids text place rest left begun → BeginsWithLine rest line after → left_behind left begun line ≡ None → JournalFault ids text (record { at = place; why = Value })
wrong_line ids text place rest left begun line after read begins stops = record {
  journals = read.journals;
  left = left;
  rest = rest;
  of_these = read.of_these;
  parts = read.parts;
  place = read.at;
  fit = read.fit;
  wrong = (
    begins_some rest line after begins,
    λ other others is next.
        let same : other ≡ line = (begins_once rest other line others after is begins).0 in
        goes left begun read.journals line read.none stops (subst (LineGoesOn read.journals left) same next),
  );
}

-- No line in form is next.
pub no_line : (ids text : List ℕ) (place : ℕ) (rest left : List ℕ) (begun : Bool)
    → IsRead ids text place rest left begun → rest ≢ [] → BeginsWithNoLine rest → JournalFault ids text (record { at = place; why = Value })
no_line ids text place rest left begun read some none = record {
  journals = read.journals;
  left = left;
  rest = rest;
  of_these = read.of_these;
  parts = read.parts;
  place = read.at;
  fit = read.fit;
  wrong = (some, λ line after begins next. none line after begins);
}

-- The text ends before the last device.
pub ends_early : (ids text : List ℕ) (place : ℕ) (rest left : List ℕ) (begun : Bool)
    → IsRead ids text place rest left begun → rest ≡ [] → left ≢ [] → JournalFault ids text (record { at = place; why = Short })
ends_early ids text place rest left begun read over more = record {
  journals = read.journals;
  left = left;
  rest = rest;
  of_these = read.of_these;
  parts = read.parts;
  place = read.at;
  fit = read.fit;
  wrong = (over, more);
}

-- The text ends after the last device's journal.
pub ends_well : (ids text : List ℕ) (place : ℕ) (rest left : List ℕ) (begun : Bool)
    → IsRead ids text place rest left begun → rest ≡ [] → left ≡ [] → ChecksJournals ids text (Ok tt)
ends_well ids text place rest left begun read over none = (
  read.journals,
  record {
    of_these = sym (append-nil (journal_ids read.journals)) ∙ ap (λ (xs : List ℕ). journal_ids read.journals ++ xs) (sym none) ∙ read.of_these;
    parts = read.parts ∙ ap (λ (xs : List ℕ). journal_text read.journals ++ xs) over ∙ append-nil (journal_text read.journals);
    fit = read.fit;
  },
)
