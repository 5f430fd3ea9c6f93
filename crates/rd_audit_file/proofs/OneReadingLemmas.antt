-- A journal text has one reading.
use Rattle.std.proofs.Common.{◌≡◌, refl, sym, ◌∙◌, ap, ap₂, subst, inl, inr, ℕ, zero, suc, ◌+◌, ◌≤◌, Bool, false, true, arith, List, [], ◌∷◌, ◌++◌, length, map, append_assoc}
use Rattle.std.specs.Prelude.{◌⊎◌, All, Option, Some, None, Result, Ok, Err, slice_get}
use Rattle.std.proofs.lemmas.List.{append-nil, append_cancel_left, length-append}
use Rattle.rd_base.specs.declared.bad.Why.{Why}
use Rattle.rd_base.specs.declared.bad.Why.TheVariants.{Short, Component, Packet, Count, Length, Value}
use Rattle.rd_base.specs.declared.journal.Item.{Item}
use Rattle.rd_base.specs.Position.{Position}
use Rattle.rd_audit_file.specs.declared.fault.FieldFault.{FieldFault}
use Rattle.rd_audit_file.specs.declared.line.JournalLine.{JournalLine}
use Rattle.rd_audit_file.specs.declared.line.JournalLine.TheVariants.{Device, Entry}
use Rattle.rd_audit_file.specs.Lines.{line_text, BeginsWithLine, LineFits}
use Rattle.rd_audit_file.specs.Journals.{journal_ids, journal_lines, lines_text, ChecksJournals, HasOneReading, IsJournalText, IsWrong, JournalFault, LineGoesOn, ReadsLine}
use Rattle.rd_audit_file.specs.Taken.{left_behind, line_at}
use Rattle.rd_audit_file.proofs.LineLemmas.{begins_once, line_at_some, line_nonempty, takes_none}
use Rattle.rd_audit_file.proofs.JournalLemmas.{begins_some, ends_early, ends_well, no_line, read_more, read_none, wrong_line, IsRead}

-- ---- lines and the journals that they are

-- the entries before the first line of a device, and the journals from there on
parted : List JournalLine → List Item × List (ℕ × List Item)
parted [] = ([], [])
parted (Device id ∷ ls) = ([], (id, (parted ls).0) ∷ (parted ls).1)
parted (Entry entry ∷ ls) = (entry ∷ (parted ls).0, (parted ls).1)

parted-lines : (entries : List Item) (js : List (ℕ × List Item)) → parted (map (λ e. Entry e) entries ++ journal_lines js) ≡ (entries, js)
unfolding parted
parted-lines [] [] = refl
parted-lines [] (j ∷ js) = let others = parted-lines j.1 js in rw others refl
parted-lines (e ∷ es) js = let others = parted-lines es js in rw others refl

lines_injective : (js ks : List (ℕ × List Item)) → journal_lines js ≡ journal_lines ks → js ≡ ks
lines_injective js ks same = ap (λ (p : List Item × List (ℕ × List Item)). p.1) (sym (parted-lines [] js) ∙ ap parted same ∙ parted-lines [] ks)

-- the devices whose lines are among these
devices_in : List JournalLine → List ℕ
devices_in [] = []
devices_in (Device id ∷ ls) = id ∷ devices_in ls
devices_in (Entry entry ∷ ls) = devices_in ls

devices_in-append : (ls ms : List JournalLine) → devices_in (ls ++ ms) ≡ devices_in ls ++ devices_in ms
unfolding devices_in
devices_in-append [] ms = refl
devices_in-append (Device id ∷ ls) ms = ap (λ (ids : List ℕ). id ∷ ids) (devices_in-append ls ms)
devices_in-append (Entry entry ∷ ls) ms = devices_in-append ls ms

devices_in-entries : (entries : List Item) (ls : List JournalLine) → devices_in (map (λ e. Entry e) entries ++ ls) ≡ devices_in ls
unfolding devices_in
devices_in-entries [] ls = refl
devices_in-entries (e ∷ es) ls = devices_in-entries es ls

devices_in-journals : (js : List (ℕ × List Item)) → devices_in (journal_lines js) ≡ journal_ids js
unfolding devices_in
devices_in-journals [] = refl
devices_in-journals (j ∷ js) = ap (λ (ids : List ℕ). j.0 ∷ ids) (devices_in-entries j.1 (journal_lines js) ∙ devices_in-journals js)

-- an entry isn't the first line of journals
no_entry : (js : List (ℕ × List Item)) (entry : Item) (others : List JournalLine) → journal_lines js ≡ Entry entry ∷ others → ⊥
no_entry [] entry others same = cc same
no_entry (j ∷ js) entry others same = cc same

-- A line after the lines of journals, and before others of the same devices' journals, goes on with them.
goes_on : (ids : List ℕ) (js ks : List (ℕ × List Item)) (left more : List ℕ) (line : JournalLine) (others : List JournalLine)
    → journal_ids js ++ left ≡ ids → journal_ids ks ++ more ≡ ids → journal_lines ks ≡ journal_lines js ++ line ∷ others → LineGoesOn js left line
unfolding devices_in
goes_on ids js ks left more line others first second lines = by line lines
  where
    to_come : (line : JournalLine) → journal_lines ks ≡ journal_lines js ++ line ∷ others → left ≡ devices_in (line ∷ others) ++ more
    to_come line lines =
        let all : journal_ids ks ≡ journal_ids js ++ devices_in (line ∷ others) =
        sym (devices_in-journals ks) ∙ ap devices_in lines ∙ devices_in-append (journal_lines js) (line ∷ others) ∙ ap (λ (xs : List ℕ). xs ++ devices_in (line ∷ others)) (devices_in-journals js) in
        append_cancel_left (journal_ids js) left (devices_in (line ∷ others) ++ more)
        (first ∙ sym second ∙ ap (λ (xs : List ℕ). xs ++ more) all ∙ append_assoc (journal_ids js) (devices_in (line ∷ others)) more)

    by : (line : JournalLine) → journal_lines ks ≡ journal_lines js ++ line ∷ others → LineGoesOn js left line
    by (Device id) lines = ap (λ (xs : List ℕ). slice_get xs 0) (to_come (Device id) lines)
    by (Entry entry) lines = λ none. no_entry ks entry others (lines ∙ ap (λ (xs : List (ℕ × List Item)). journal_lines xs ++ Entry entry ∷ others) none)

-- ---- two readings of the lines of one text

-- the second lines are the first and more, and the rest begins with the next of them
record Longer (ls ms : List JournalLine) (rest : List ℕ) : Type 0 where
  line : JournalLine
  others : List JournalLine
  after : List ℕ
  is : ms ≡ ls ++ line ∷ others
  begins : BeginsWithLine rest line after

-- the same lines, and the same rest
record AreSame (ls ms : List JournalLine) (rest left : List ℕ) : Type 0 where
  lines : ls ≡ ms
  rests : rest ≡ left

Forks : (ls ms : List JournalLine) (rest left : List ℕ) → Type 0
Forks ls ms rest left = AreSame ls ms rest left ⊎ (Longer ls ms rest ⊎ Longer ms ls left)

head_fits : (line : JournalLine) (ls : List JournalLine) → All LineFits (line ∷ ls) → LineFits line
head_fits line ls all = all 0 line (omega arith)

others_fit : (line : JournalLine) (ls : List JournalLine) → All LineFits (line ∷ ls) → All LineFits ls
others_fit line ls all = λ k d below. all (suc k) d (omega arith)

first_line : (text : List ℕ) (line : JournalLine) (ls : List JournalLine) (rest : List ℕ) → All LineFits (line ∷ ls) → text ≡ lines_text (line ∷ ls) ++ rest → BeginsWithLine text line (lines_text ls ++ rest)
first_line text line ls rest all is = record { parts = is ∙ append_assoc (line_text line) (lines_text ls) rest; fits = head_fits line ls all }

one_more : (line : JournalLine) (ls ms : List JournalLine) (rest left : List ℕ) → Forks ls ms rest left → Forks (line ∷ ls) (line ∷ ms) rest left
unfolding Forks
one_more line ls ms rest left (inl same) = inl (record { lines = ap (λ (xs : List JournalLine). line ∷ xs) same.lines; rests = same.rests })
one_more line ls ms rest left (inr (inl more)) =
    inr (inl (record { line = more.line; others = more.others; after = more.after; is = ap (λ (xs : List JournalLine). line ∷ xs) more.is; begins = more.begins }))
one_more line ls ms rest left (inr (inr more)) =
    inr (inr (record { line = more.line; others = more.others; after = more.after; is = ap (λ (xs : List JournalLine). line ∷ xs) more.is; begins = more.begins }))

forks : (text : List ℕ) (ls ms : List JournalLine) (rest left : List ℕ) → All LineFits ls → All LineFits ms → text ≡ lines_text ls ++ rest → text ≡ lines_text ms ++ left → Forks ls ms rest left
unfolding Forks
forks text [] [] rest left one two is also = inl (record { lines = refl; rests = sym is ∙ also })
forks text [] (m ∷ ms) rest left one two is also =
    inr (inl (record { line = m; others = ms; after = lines_text ms ++ left; is = refl; begins = first_line rest m ms left two (sym is ∙ also) }))
forks text (l ∷ ls) [] rest left one two is also =
    inr (inr (record { line = l; others = ls; after = lines_text ls ++ rest; is = refl; begins = first_line left l ls rest one (sym also ∙ is) }))
forks text (l ∷ ls) (m ∷ ms) rest left one two is also =
    let once = begins_once text l m (lines_text ls ++ rest) (lines_text ms ++ left) (first_line text l ls rest one is) (first_line text m ms left two also) in
    let next = forks (lines_text ls ++ rest) ls ms rest left (others_fit l ls one) (others_fit m ms two) refl once.1 in
    subst (λ (n : JournalLine). Forks (l ∷ ls) (n ∷ ms) rest left) once.0 (one_more l ls ms rest left next)

-- ---- the law

no_rest : (text : List ℕ) (ls : List JournalLine) → text ≡ lines_text ls → text ≡ lines_text ls ++ []
no_rest text ls is = is ∙ sym (append-nil (lines_text ls))

-- what is wrong after journals isn't wrong where a line stands there that goes on
not_wrong : (js : List (ℕ × List Item)) (left rest : List ℕ) (why : Why) (line : JournalLine) (after : List ℕ) → BeginsWithLine rest line after → LineGoesOn js left line → IsWrong js left rest why → ⊥
not_wrong js left rest Short line after begins goes wrong = begins_some rest line after begins wrong.0
not_wrong js left rest Value line after begins goes wrong = wrong.1 line after begins goes
not_wrong js left rest Component line after begins goes wrong = wrong
not_wrong js left rest Packet line after begins goes wrong = wrong
not_wrong js left rest Count line after begins goes wrong = wrong
not_wrong js left rest Length line after begins goes wrong = wrong

-- nothing is wrong where nothing is left
not_over : (js : List (ℕ × List Item)) (left rest : List ℕ) (why : Why) → rest ≡ [] → left ≡ [] → IsWrong js left rest why → ⊥
not_over js left rest Short over none wrong = wrong.1 none
not_over js left rest Value over none wrong = wrong.0 over
not_over js left rest Component over none wrong = wrong
not_over js left rest Packet over none wrong = wrong
not_over js left rest Count over none wrong = wrong
not_over js left rest Length over none wrong = wrong

same_why : (js ks : List (ℕ × List Item)) (left more rest : List ℕ) (why other : Why) → IsWrong js left rest why → IsWrong ks more rest other → why ≡ other
same_why js ks left more rest Short Short one two = refl
same_why js ks left more rest Value Value one two = refl
same_why js ks left more rest Short Value one two = absurd (two.0 one.0)
same_why js ks left more rest Value Short one two = absurd (one.0 two.0)
same_why js ks left more rest Component other one two = absurd one
same_why js ks left more rest Packet other one two = absurd one
same_why js ks left more rest Count other one two = absurd one
same_why js ks left more rest Length other one two = absurd one
same_why js ks left more rest Short Component one two = absurd two
same_why js ks left more rest Short Packet one two = absurd two
same_why js ks left more rest Short Count one two = absurd two
same_why js ks left more rest Short Length one two = absurd two
same_why js ks left more rest Value Component one two = absurd two
same_why js ks left more rest Value Packet one two = absurd two
same_why js ks left more rest Value Count one two = absurd two
same_why js ks left more rest Value Length one two = absurd two

no_begin : (line : JournalLine) (after : List ℕ) → BeginsWithLine [] line after → ⊥
no_begin line after begins = begins_some [] line after begins refl

not_both : (ids text : List ℕ) (js : List (ℕ × List Item)) (fault : FieldFault) → IsJournalText ids text js → JournalFault ids text fault → ⊥
unfolding Forks
not_both ids text js fault whole bad =
    of (forks text (journal_lines js) (journal_lines bad.journals) [] bad.rest whole.fit bad.fit (no_rest text (journal_lines js) whole.parts) bad.parts)
  where
    of : Forks (journal_lines js) (journal_lines bad.journals) [] bad.rest → ⊥
    of (inl same) =
        let journals : js ≡ bad.journals = lines_injective js bad.journals same.lines in
        let none : bad.left ≡ [] = append_cancel_left (journal_ids bad.journals) bad.left [] (bad.of_these ∙ sym whole.of_these ∙ ap journal_ids journals ∙ sym (append-nil (journal_ids bad.journals))) in
        not_over bad.journals bad.left bad.rest fault.why (sym same.rests) none bad.wrong
    of (inr (inl more)) = no_begin more.line more.after more.begins
    of (inr (inr more)) = not_wrong bad.journals bad.left bad.rest fault.why more.line more.after more.begins
        (goes_on ids bad.journals js bad.left [] more.line more.others bad.of_these (append-nil (journal_ids js) ∙ whole.of_these) more.is) bad.wrong

one_list : (ids text : List ℕ) (js ks : List (ℕ × List Item)) → IsJournalText ids text js → IsJournalText ids text ks → js ≡ ks
unfolding Forks
one_list ids text js ks one two =
    of (forks text (journal_lines js) (journal_lines ks) [] [] one.fit two.fit (no_rest text (journal_lines js) one.parts) (no_rest text (journal_lines ks) two.parts))
  where
    of : Forks (journal_lines js) (journal_lines ks) [] [] → js ≡ ks
    of (inl same) = lines_injective js ks same.lines
    of (inr (inl more)) = absurd (no_begin more.line more.after more.begins)
    of (inr (inr more)) = absurd (no_begin more.line more.after more.begins)

one_fault : (ids text : List ℕ) (fault other : FieldFault) → JournalFault ids text fault → JournalFault ids text other → fault ≡ other
unfolding Forks
one_fault ids text fault other one two =
    of (forks text (journal_lines one.journals) (journal_lines two.journals) one.rest two.rest one.fit two.fit one.parts two.parts)
  where
    of : Forks (journal_lines one.journals) (journal_lines two.journals) one.rest two.rest → fault ≡ other
    of (inl same) =
        let place : fault.at ≡ other.at = one.place ∙ ap (λ (ls : List JournalLine). length (lines_text ls)) same.lines ∙ sym two.place in
        let why : fault.why ≡ other.why =
        same_why one.journals two.journals one.left two.left one.rest fault.why other.why one.wrong (subst (λ (xs : List ℕ). IsWrong two.journals two.left xs other.why) (sym same.rests) two.wrong) in
        ap₂ (λ (n : ℕ) (w : Why). record { at = n; why = w }) place why
    of (inr (inl more)) = absurd (not_wrong one.journals one.left one.rest fault.why more.line more.after more.begins
        (goes_on ids one.journals two.journals one.left two.left more.line more.others one.of_these two.of_these more.is) one.wrong)
    of (inr (inr more)) = absurd (not_wrong two.journals two.left two.rest other.why more.line more.after more.begins
        (goes_on ids two.journals one.journals two.left one.left more.line more.others two.of_these one.of_these more.is) two.wrong)

-- ---- a text has a reading

-- the text is that of journals, or has a fault
Outcome : (ids text : List ℕ) → Type 0
Outcome ids text = ((journals : List (ℕ × List Item)) × IsJournalText ids text journals) ⊎ ((fault : FieldFault) × JournalFault ids text fault)

at_end : (ids text : List ℕ) (place : ℕ) (left : List ℕ) (begun : Bool) → IsRead ids text place [] left begun → Outcome ids text
unfolding Outcome
at_end ids text place [] begun read = inl (ends_well ids text place [] [] begun read refl refl)
at_end ids text place (id ∷ others) begun read =
    let early = ends_early ids text place [] (id ∷ others) begun read refl (λ none. cc none) in
    inr (record { at = place; why = Short }, early)

shorter : (rest : List ℕ) (line : JournalLine) (after : List ℕ) (most : ℕ) → BeginsWithLine rest line after → length rest ≤ suc most → length after ≤ most
shorter rest line after most begins few =
    let lengths : length rest ≡ length (line_text line) + length after = ap length begins.parts ∙ length-append (line_text line) after in
    omega (arith, lengths, line_nonempty line)

read_on : (ids text : List ℕ) (most : ℕ) (place : ℕ) (rest left : List ℕ) (begun : Bool) → length rest ≤ most → IsRead ids text place rest left begun → Outcome ids text
unfolding Outcome
read_on ids text most place [] left begun few read = at_end ids text place left begun read
read_on ids text zero place (c ∷ cs) left begun few read = absurd (omega arith)
read_on ids text (suc most) place (c ∷ cs) left begun few read =
    next (line_at (c ∷ cs)) refl (λ line after others begins goes.
    read_on ids text most (place + length (line_text line)) after others true (shorter (c ∷ cs) line after most begins few) (read_more ids text place (c ∷ cs) left begun line after others read begins goes))
  where
    wrong : JournalFault ids text (record { at = place; why = Value }) → Outcome ids text
    wrong bad = inr (record { at = place; why = Value }, bad)

    behind : (line : JournalLine) (after : List ℕ) → BeginsWithLine (c ∷ cs) line after → (o : Option (List ℕ)) → left_behind left begun line ≡ o
        → ((others : List ℕ) → left_behind left begun line ≡ Some others → Outcome ids text) → Outcome ids text
    behind line after begins None stops more = wrong (wrong_line ids text place (c ∷ cs) left begun line after read begins stops)
    behind line after begins (Some others) goes more = more others goes

    next : (o : Option (JournalLine × List ℕ)) → line_at (c ∷ cs) ≡ o
        → ((line : JournalLine) (after others : List ℕ) → BeginsWithLine (c ∷ cs) line after → left_behind left begun line ≡ Some others → Outcome ids text) → Outcome ids text
    next None is more = wrong (no_line ids text place (c ∷ cs) left begun read (λ none. cc none) (takes_none (c ∷ cs) is))
    next (Some p) is more =
        let begins = line_at_some (c ∷ cs) p is in
        behind p.0 p.1 begins (left_behind left begun p.0) refl (λ others goes. more p.0 p.1 others begins goes)

pub one_reading : (ids text : List ℕ) → HasOneReading ids text
unfolding Outcome
one_reading ids text = record {
  one_of = read_on ids text (length text) 0 text ids false (omega arith) (read_none ids text);
  not_both = λ js fault whole bad. not_both ids text js fault whole bad;
  one_list = λ js ks one two. one_list ids text js ks one two;
  one_fault = λ fault other one two. one_fault ids text fault other one two;
}

-- ---- what readers return of texts that are as they should be

-- The text of journals of these devices passes.
pub checks_text : (ids text : List ℕ) (js : List (ℕ × List Item)) (r : Result (Unit {0}) FieldFault) → IsJournalText ids text js → ChecksJournals ids text r → r ≡ Ok tt
checks_text ids text js (Ok done) whole checks = refl
checks_text ids text js (Err fault) whole checks = absurd (not_both ids text js fault whole checks)

-- Of the text of lines the first is read, and that of the others is left.
pub reads_first : (line : JournalLine) (ls : List JournalLine) (rest : List ℕ) (old new : Position) (r : Result (Option JournalLine) FieldFault)
    → All LineFits (line ∷ ls) → old.left ≡ lines_text (line ∷ ls) ++ rest → ReadsLine old new r → (r ≡ Ok (Some line)) × (new.left ≡ lines_text ls ++ rest)
reads_first line ls rest old new (Ok None) all is reads = absurd (begins_some old.left line (lines_text ls ++ rest) (first_line old.left line ls rest all is) reads.0)
reads_first line ls rest old new (Ok (Some other)) all is reads =
    let once = begins_once old.left other line new.left (lines_text ls ++ rest) reads.0 (first_line old.left line ls rest all is) in
    (ap (λ (l : JournalLine). Ok (Some l)) once.0, once.1)
reads_first line ls rest old new (Err fault) all is reads = absurd (reads.1 line (lines_text ls ++ rest) (first_line old.left line ls rest all is))

-- Where no line is left the end is read.
pub reads_end : (old new : Position) (r : Result (Option JournalLine) FieldFault) → old.left ≡ [] → ReadsLine old new r → r ≡ Ok None
reads_end old new (Ok None) over reads = refl
reads_end old new (Ok (Some line)) over reads = absurd (begins_some old.left line new.left reads.0 over)
reads_end old new (Err fault) over reads = absurd (reads.0 over)
