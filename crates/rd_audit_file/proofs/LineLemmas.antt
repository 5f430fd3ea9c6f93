-- Lines: what is taken of a text is the line that it begins with, and a text begins with one line at most.
use Rattle.std.proofs.Common.{◌≡◌, refl, sym, ◌∙◌, ap, subst, ℕ, ◌+◌, ◌-◌, ◌^◌, ◌<◌, arith, List, [], ◌∷◌, ◌++◌, length, get_or, drop, Bool, Some, None, append_assoc, lit≤}
use Rattle.std.specs.Prelude.{codes, decimal}
use Rattle.std.specs.Borrow.{Bor}
use Rattle.std.specs.Option.{option_and_then, option_map}
use Rattle.std.proofs.lemmas.List.{drop_more, length-append}
use Rattle.std.proofs.lemmas.Option.{none-some, same_Some, option_and_then_some}
use Rattle.rd_base.specs.declared.journal.Key.{Key}
use Rattle.rd_base.specs.declared.journal.Item.{Item}
use Rattle.rd_base.specs.declared.journal.Item.TheVariants.{Came, Ran, Cancelled, Sent, Cut}
use Rattle.rd_base.specs.declared.journal.Cause.TheVariants.{Removed, Dropped}
use Rattle.rd_audit_file.specs.declared.form.Form.{Form}
use Rattle.rd_audit_file.specs.declared.form.Form.TheVariants as form
use Rattle.rd_audit_file.specs.declared.line.JournalLine.{JournalLine}
use Rattle.rd_audit_file.specs.declared.line.JournalLine.TheVariants.{Device, Entry}
use Rattle.rd_audit_file.specs.Lines.{entry_text, key_text, line_text, mark_text, BeginsWithLine, BeginsWithNoLine, KeyFits, LineFits, TakesLine}
use Rattle.rd_audit_file.specs.Taken.{after_word, all_forms, cut_line, decimal_at, fields_at, form_among, form_word, key_at, key_line, line_at, marks_at, run_line}
use Rattle.rd_audit_file.proofs.OptionLemmas.{option_map_some, option_or_some}
use Rattle.rd_audit_file.proofs.FieldLemmas.{after_word_some, decimal_at-append, key_at-append, key_at_some, marks_at-append, marks_at_some, number_at_some}

-- what stands after a line's word, where the line ends
record Ends (word text : List ℕ) (p : JournalLine × List ℕ) : Type 0 where
  parts : word ++ text ≡ line_text p.0 ++ p.1
  fits : LineFits p.0

-- the same of a line of a key alone
key_ends : (entry : Key → Item) (word text : List ℕ) (p : JournalLine × List ℕ)
    → ((key : Key) → entry_text (entry key) ≡ word ++ key_text key) → ((key : Key) → KeyFits key → LineFits (Entry (entry key)))
    → key_line entry text ≡ Some p → Ends word text p
key_ends entry word text p shown fit e = option_map_some (λ key. (Entry (entry key.0), key.1)) (key_at 10 text) p e
    (λ key is same.
    let taken_key = key_at_some 10 text key is in
    let whole : word ++ text ≡ entry_text (entry key.0) ++ codes "\n" ++ key.1 =
    ap (λ (xs : List ℕ). word ++ xs) taken_key.0 ∙ (let all : word ++ (key_text key.0 ++ 10 ∷ key.1) ≡ word ++ key_text key.0 ++ codes "\n" ++ key.1 = simp append_assoc in all)
    ∙ ap (λ (xs : List ℕ). xs ++ codes "\n" ++ key.1) (sym (shown key.0)) in
    subst (λ (q : JournalLine × List ℕ). Ends word text q) same (record { parts = whole; fits = fit key.0 taken_key.1 }))

run_parts : (key moment starved parked : List ℕ) (text after_key after_moment rest : List ℕ)
    → text ≡ key ++ 32 ∷ after_key → after_key ≡ moment ++ 32 ∷ after_moment → after_moment ≡ starved ++ codes " " ++ parked ++ 10 ∷ rest
    → codes "ran " ++ text ≡ codes "ran " ++ key ++ codes " " ++ moment ++ codes " " ++ starved ++ codes " " ++ parked ++ codes "\n" ++ rest
run_parts key moment starved parked text after_key after_moment rest first second third =
    ap (λ (xs : List ℕ). codes "ran " ++ xs) (first ∙ ap (λ (xs : List ℕ). key ++ 32 ∷ xs) (second ∙ ap (λ (xs : List ℕ). moment ++ 32 ∷ xs) third)) ∙ simp append_assoc

run_ends : (text : List ℕ) (p : JournalLine × List ℕ) → run_line text ≡ Some p → Ends (codes "ran ") text p
run_ends text p e = option_and_then_some
    (λ key. option_and_then (λ moment. option_map (λ marks. (Entry (Ran key.0 moment.0 (marks.0).0 (marks.0).1), marks.1)) (marks_at moment.1)) (decimal_at 64 32 key.1))
    (key_at 32 text) p e
    (λ key first then. option_and_then_some
    (λ moment. option_map (λ marks. (Entry (Ran key.0 moment.0 (marks.0).0 (marks.0).1), marks.1)) (marks_at moment.1)) (decimal_at 64 32 key.1) p then
    (λ moment second last. option_map_some
    (λ marks. (Entry (Ran key.0 moment.0 (marks.0).0 (marks.0).1), marks.1)) (marks_at moment.1) p last
    (λ marks third same.
    let one = key_at_some 32 text key first in
    let two = number_at_some 64 32 key.1 moment (lit≤ tt) second in
    let three = marks_at_some moment.1 marks third in
    subst (λ (q : JournalLine × List ℕ). Ends (codes "ran ") text q) same
    (record {
      parts = run_parts (key_text key.0) (decimal moment.0) (mark_text (marks.0).0) (mark_text (marks.0).1) text key.1 moment.1 marks.1 one.0 two.0 three;
      fits = (one.1, two.1);
    }))))

cut_ends : (text : List ℕ) (p : JournalLine × List ℕ) → cut_line text ≡ Some p → Ends (codes "cut ") text p
cut_ends text p e = option_or_some
    (option_map (λ rest. (Entry (Cut Removed), rest)) (after_word (codes "removed\n") text)) (option_map (λ rest. (Entry (Cut Dropped), rest)) (after_word (codes "dropped\n") text)) p e
    (λ first. option_map_some (λ rest. (Entry (Cut Removed), rest)) (after_word (codes "removed\n") text) p first (λ rest is same.
    subst (λ (q : JournalLine × List ℕ). Ends (codes "cut ") text q) same
    (record { parts = ap (λ (xs : List ℕ). codes "cut " ++ xs) (after_word_some (codes "removed\n") text rest is); fits = tt })))
    (λ second. option_map_some (λ rest. (Entry (Cut Dropped), rest)) (after_word (codes "dropped\n") text) p second (λ rest is same.
    subst (λ (q : JournalLine × List ℕ). Ends (codes "cut ") text q) same
    (record { parts = ap (λ (xs : List ℕ). codes "cut " ++ xs) (after_word_some (codes "dropped\n") text rest is); fits = tt })))

device_ends : (text : List ℕ) (p : JournalLine × List ℕ) → fields_at form.Device text ≡ Some p → Ends (codes "device ") text p
device_ends text p e = option_map_some (λ id. (Device id.0, id.1)) (decimal_at 32 10 text) p e (λ id is same.
    let number = number_at_some 32 10 text id (lit≤ tt) is in
    let whole : codes "device " ++ text ≡ codes "device " ++ decimal id.0 ++ codes "\n" ++ id.1 = ap (λ (xs : List ℕ). codes "device " ++ xs) number.0 ∙ simp append_assoc in
    subst (λ (q : JournalLine × List ℕ). Ends (codes "device ") text q) same (record { parts = whole; fits = number.1 }))

fields_end : (f : Form) (text : List ℕ) (p : JournalLine × List ℕ) → fields_at f text ≡ Some p → Ends (form_word f) text p
fields_end form.Device text p e = device_ends text p e
fields_end form.Came text p e = key_ends (λ key. Came key) (codes "came ") text p (λ key. refl) (λ key fits. fits) e
fields_end form.Ran text p e = run_ends text p e
fields_end form.Cancelled text p e = key_ends (λ key. Cancelled key) (codes "cancelled ") text p (λ key. refl) (λ key fits. fits) e
fields_end form.Sent text p e = key_ends (λ key. Sent key) (codes "sent ") text p (λ key. refl) (λ key fits. fits) e
fields_end form.Cut text p e = cut_ends text p e

form_among_some : (fs : List Form) (text : List ℕ) (p : Form × List ℕ) → form_among fs text ≡ Some p → text ≡ form_word p.0 ++ p.1
form_among_some [] text p e = absurd (none-some p e)
form_among_some (f ∷ fs) text p e = option_or_some (option_map (λ rest. (f, rest)) (after_word (form_word f) text)) (form_among fs text) p e
    (λ first. option_map_some (λ rest. (f, rest)) (after_word (form_word f) text) p first (λ rest is same.
    subst (λ (q : Form × List ℕ). text ≡ form_word q.0 ++ q.1) same (after_word_some (form_word f) text rest is)))
    (λ others. form_among_some fs text p others)

-- A line that is taken is the one with which the text begins.
pub line_at_some : (text : List ℕ) (p : JournalLine × List ℕ) → line_at text ≡ Some p → BeginsWithLine text p.0 p.1
line_at_some text p e = option_and_then_some (λ f. fields_at f.0 f.1) (form_among all_forms text) p e (λ f first then.
    let ends = fields_end f.0 f.1 p then in
    record { parts = form_among_some all_forms text f first ∙ ends.parts; fits = ends.fits })

-- ---- the line with which a text begins is taken

key_line-append : (entry : Key → Item) (key : Key) (rest : List ℕ) → KeyFits key → key_line entry (key_text key ++ 10 ∷ rest) ≡ Some (Entry (entry key), rest)
key_line-append entry key rest fits = ap (option_map (λ (k : Key × List ℕ). (Entry (entry k.0), k.1))) (key_at-append 10 key rest (omega arith) fits)

run_line-append : (key : Key) (moment : ℕ) (starved parked : Bool) (rest : List ℕ) → KeyFits key → moment < 2 ^ 64
    → run_line (key_text key ++ 32 ∷ (decimal moment ++ 32 ∷ (mark_text starved ++ codes " " ++ mark_text parked ++ 10 ∷ rest))) ≡ Some (Entry (Ran key moment starved parked), rest)
run_line-append key moment starved parked rest fits small =
    let marks = mark_text starved ++ codes " " ++ mark_text parked ++ 10 ∷ rest in
    ap (option_and_then (λ (k : Key × List ℕ). option_and_then (λ (m : ℕ × List ℕ). option_map (λ (marks : (Bool × Bool) × List ℕ). (Entry (Ran k.0 m.0 (marks.0).0 (marks.0).1), marks.1)) (marks_at m.1)) (decimal_at 64 32 k.1)))
    (key_at-append 32 key (decimal moment ++ 32 ∷ marks) (omega arith) fits)
    ∙ ap (option_and_then (λ (m : ℕ × List ℕ). option_map (λ (marks : (Bool × Bool) × List ℕ). (Entry (Ran key m.0 (marks.0).0 (marks.0).1), marks.1)) (marks_at m.1)))
    (decimal_at-append 64 32 moment marks (omega arith) (lit≤ tt) small)
    ∙ ap (option_map (λ (marks : (Bool × Bool) × List ℕ). (Entry (Ran key moment (marks.0).0 (marks.0).1), marks.1))) (marks_at-append starved parked rest)

line_at-append : (line : JournalLine) (rest : List ℕ) → LineFits line → line_at (line_text line ++ rest) ≡ Some (line, rest)
line_at-append (Device id) rest fits =
    let text : line_text (Device id) ++ rest ≡ codes "device " ++ (decimal id ++ 10 ∷ rest) = simp append_assoc in
    ap line_at text ∙ ap (option_map (λ (n : ℕ × List ℕ). (Device n.0, n.1))) (decimal_at-append 32 10 id rest (omega arith) (lit≤ tt) fits)
line_at-append (Entry (Came key)) rest fits =
    let text : line_text (Entry (Came key)) ++ rest ≡ codes "came " ++ (key_text key ++ 10 ∷ rest) = simp append_assoc in
    ap line_at text ∙ key_line-append (λ k. Came k) key rest fits
line_at-append (Entry (Ran key moment starved parked)) rest fits =
    let text : line_text (Entry (Ran key moment starved parked)) ++ rest ≡ codes "ran " ++ (key_text key ++ 32 ∷ (decimal moment ++ 32 ∷ (mark_text starved ++ codes " " ++ mark_text parked ++ 10 ∷ rest))) = simp append_assoc in
    ap line_at text ∙ run_line-append key moment starved parked rest fits.0 fits.1
line_at-append (Entry (Cancelled key)) rest fits =
    let text : line_text (Entry (Cancelled key)) ++ rest ≡ codes "cancelled " ++ (key_text key ++ 10 ∷ rest) = simp append_assoc in
    ap line_at text ∙ key_line-append (λ k. Cancelled k) key rest fits
line_at-append (Entry (Sent key)) rest fits =
    let text : line_text (Entry (Sent key)) ++ rest ≡ codes "sent " ++ (key_text key ++ 10 ∷ rest) = simp append_assoc in
    ap line_at text ∙ key_line-append (λ k. Sent k) key rest fits
line_at-append (Entry (Cut Removed)) rest fits = refl
line_at-append (Entry (Cut Dropped)) rest fits = refl

pub line_at_begins : (text : List ℕ) (line : JournalLine) (rest : List ℕ) → BeginsWithLine text line rest → line_at text ≡ Some (line, rest)
line_at_begins text line rest begins = ap line_at begins.parts ∙ line_at-append line rest begins.fits

-- A text begins with one line at most.
pub begins_once : (text : List ℕ) (line other : JournalLine) (rest left : List ℕ) → BeginsWithLine text line rest → BeginsWithLine text other left → (line ≡ other) × (rest ≡ left)
begins_once text line other rest left one two =
    let same : ◌≡◌ {A = JournalLine × List ℕ} (line, rest) (other, left) = same_Some (line, rest) (other, left) (sym (line_at_begins text line rest one) ∙ line_at_begins text other left two) in
    (ap (λ (p : JournalLine × List ℕ). p.0) same, ap (λ (p : JournalLine × List ℕ). p.1) same)

-- a line that is taken, and what comes after it, are the text
pub line_length : (text : List ℕ) (line : JournalLine) (rest : Bor (List ℕ)) → line_at text ≡ Some (line, rest.now) → length text ≡ length (line_text line) + length rest.now
line_length text line rest e = ap length (line_at_some text (line, rest.now) e).parts ∙ length-append (line_text line) rest.now

-- what was taken has the length of its line
pub takes_some : (text : List ℕ) (line : JournalLine) (rest : Bor (List ℕ)) → line_at text ≡ Some (line, rest.now) → TakesLine text (Some (line, length text - length rest.now))
takes_some text line rest e =
    let lengths = line_length text line rest e in
    ((rest.now, line_at_some text (line, rest.now) e), omega (arith, lengths))

pub takes_none : (text : List ℕ) → line_at text ≡ None → BeginsWithNoLine text
takes_none text e line rest begins = absurd (none-some (line, rest) (sym e ∙ line_at_begins text line rest begins))

-- a line has a byte at least
pub line_nonempty : (line : JournalLine) → 0 < length (line_text line)
line_nonempty (Device id) = rw length-append (omega arith)
line_nonempty (Entry entry) = rw length-append (omega arith)

-- a form whose word doesn't begin the text is passed
pub form_passed : (fs : List Form) (i : ℕ) (d : Form) (text : List ℕ) → i < length fs → after_word (form_word (get_or fs i d)) text ≡ None → form_among (drop i fs) text ≡ form_among (drop (i + 1) fs) text
form_passed fs i d text there none = ap (λ (xs : List Form). form_among xs text) (drop_more fs i d there) ∙ rw none refl

-- the pieces of a run's line
pub run_written : (key : Key) (moment : ℕ) (starved parked : Bool) (first second : List ℕ) → first ≡ mark_text starved → second ≡ mark_text parked
    → codes "ran " ++ (decimal key.channel ++ (codes " " ++ (decimal key.index ++ (codes " " ++ (decimal moment ++ (codes " " ++ (first ++ (codes " " ++ (second ++ codes "\n")))))))))
    ≡ line_text (Entry (Ran key moment starved parked))
run_written key moment starved parked first second is also = rw (is, also) (sym whole)
  where
    whole : line_text (Entry (Ran key moment starved parked))
        ≡ codes "ran " ++ (decimal key.channel ++ (codes " " ++ (decimal key.index ++ (codes " " ++ (decimal moment ++ (codes " " ++ (mark_text starved ++ (codes " " ++ (mark_text parked ++ codes "\n")))))))))
    whole = simp append_assoc
