-- How lines are taken off a text, field by field. No public clause names these.
use Rattle.std.specs.Prelude.{ℕ, ◌+◌, ◌-◌, ◌*◌, ◌^◌, ◌==◌, nat_lt, Bool, true, false, if◌then◌else◌, List, [], ◌∷◌, take, drop, position, Option, Some, None, codes}
use Rattle.std.specs.Borrow.{Bor}
use Rattle.std.specs.Char.{is_ascii_digit}
use Rattle.std.specs.Option.{option_and_then, option_map, option_or}
use Rattle.rd_base.specs.declared.journal.Key.{Key}
use Rattle.rd_base.specs.declared.journal.Item.{Item}
use Rattle.rd_base.specs.declared.journal.Item.TheVariants.{Came, Ran, Cancelled, Sent, Cut}
use Rattle.rd_base.specs.declared.journal.Cause.TheVariants.{Removed, Dropped}
use Rattle.rd_audit_file.specs.declared.form.Form.{Form}
use Rattle.rd_audit_file.specs.declared.form.Form.TheVariants as form
use Rattle.rd_audit_file.specs.declared.line.JournalLine.{JournalLine}
use Rattle.rd_audit_file.specs.declared.line.JournalLine.TheVariants.{Device, Entry}

-- what comes after a word, where the text begins with it
abbrev pub after_word : List ℕ → List ℕ → Option (List ℕ)
after_word [] text = Some text
after_word (w ∷ ws) [] = None
after_word (w ∷ ws) (c ∷ cs) = if c == w then after_word ws cs else None

-- the number, if it fits so many bits
abbrev pub fitting : ℕ → Option ℕ → Option ℕ
fitting bits None = None
fitting bits (Some n) = if nat_lt n (2 ^ bits) then Some n else None

-- what a decimal digit stands for
abbrev pub decimal_digit_of : ℕ → Option ℕ
decimal_digit_of c = if is_ascii_digit c then Some (c - 48) else None

-- the number that digits say after those that said a number
abbrev pub decimal_from : ℕ → List ℕ → Option ℕ
decimal_from said [] = Some said
decimal_from said (c ∷ cs) = option_and_then (λ digit. decimal_from (said * 10 + digit) cs) (decimal_digit_of c)

-- after a leading zero nothing may come
abbrev pub zero_alone : List ℕ → Option ℕ
zero_alone [] = Some 0
zero_alone (c ∷ cs) = None

-- the number that a word is: at least one digit, and no leading zero
abbrev pub decimal_of : List ℕ → Option ℕ
decimal_of [] = None
decimal_of (c ∷ cs) = if c == 48 then zero_alone cs else decimal_from 0 (c ∷ cs)

-- a number of so many bits up to the byte at this place, and what comes after that byte
abbrev pub decimal_before : ℕ → Option ℕ → List ℕ → Option (ℕ × List ℕ)
decimal_before bits None text = None
decimal_before bits (Some i) text = option_map (λ n. (n, drop (i + 1) text)) (fitting bits (decimal_of (take i text)))

-- a number of so many bits with which a text begins, the byte that has to stand after it, and what comes then
abbrev pub decimal_at : ℕ → ℕ → List ℕ → Option (ℕ × List ℕ)
decimal_at bits last text = decimal_before bits (position (λ b. b == last) text) text

-- the same of a key
abbrev pub key_at : ℕ → List ℕ → Option (Key × List ℕ)
key_at last text =
    option_and_then
    (λ channel. option_map (λ index. (record { channel = channel.0; index = index.0 }, index.1)) (decimal_at 64 last channel.1))
    (decimal_at 32 32 text)

-- what a digit says of whether something holds
abbrev pub run_mark_of : ℕ → Option Bool
run_mark_of c = if c == 48 then Some false else (if c == 49 then Some true else None)

-- the same of whether something holds
abbrev pub run_mark_at : ℕ → List ℕ → Option (Bool × List ℕ)
run_mark_at last [] = None
run_mark_at last (c ∷ []) = None
run_mark_at last (c ∷ d ∷ cs) = if d == last then option_map (λ mark. (mark, cs)) (run_mark_of c) else None

-- the word with which a line begins, and the space after it
abbrev pub form_word : Form → List ℕ
form_word form.Device = codes "device "
form_word form.Came = codes "came "
form_word form.Ran = codes "ran "
form_word form.Cancelled = codes "cancelled "
form_word form.Sent = codes "sent "
form_word form.Cut = codes "cut "

-- the first of these forms whose word begins the text, and what comes after that word
abbrev pub form_among : List Form → List ℕ → Option (Form × List ℕ)
form_among [] text = None
form_among (f ∷ fs) text = option_or (option_map (λ rest. (f, rest)) (after_word (form_word f) text)) (form_among fs text)

-- all forms
abbrev pub all_forms : List Form
all_forms = form.Device ∷ form.Came ∷ form.Ran ∷ form.Cancelled ∷ form.Sent ∷ form.Cut ∷ []

-- the key of a line that says nothing else, and the line that it makes
abbrev pub key_line : (Key → Item) → List ℕ → Option (JournalLine × List ℕ)
key_line entry text = option_map (λ key. (Entry (entry key.0), key.1)) (key_at 10 text)

-- whether a run was starved and whether it waits, and the end of its line
abbrev pub marks_at : List ℕ → Option ((Bool × Bool) × List ℕ)
marks_at text =
    option_and_then (λ starved. option_map (λ parked. ((starved.0, parked.0), parked.1)) (run_mark_at 10 starved.1)) (run_mark_at 32 text)

-- what a run says
abbrev pub run_line : List ℕ → Option (JournalLine × List ℕ)
run_line text =
    option_and_then
    (λ key. option_and_then
    (λ moment. option_map
    (λ marks. (Entry (Ran key.0 moment.0 (marks.0).0 (marks.0).1), marks.1))
    (marks_at moment.1))
    (decimal_at 64 32 key.1))
    (key_at 32 text)

-- why a device is gone, and the end of the line
abbrev pub cut_line : List ℕ → Option (JournalLine × List ℕ)
cut_line text =
    option_or
    (option_map (λ rest. (Entry (Cut Removed), rest)) (after_word (codes "removed\n") text))
    (option_map (λ rest. (Entry (Cut Dropped), rest)) (after_word (codes "dropped\n") text))

-- what comes after the word of a line
abbrev pub fields_at : Form → List ℕ → Option (JournalLine × List ℕ)
fields_at form.Device text = option_map (λ id. (Device id.0, id.1)) (decimal_at 32 10 text)
fields_at form.Came text = key_line (λ key. Came key) text
fields_at form.Ran text = run_line text
fields_at form.Cancelled text = key_line (λ key. Cancelled key) text
fields_at form.Sent text = key_line (λ key. Sent key) text
fields_at form.Cut text = cut_line text

-- the line with which a text begins, and what comes after it
abbrev pub line_at : List ℕ → Option (JournalLine × List ℕ)
line_at text = option_and_then (λ f. fields_at f.0 f.1) (form_among all_forms text)

-- what was taken, and what comes after it
abbrev pub as_taken : {A : Type 0} → Option (A × Bor (List ℕ)) → Option (A × List ℕ)
as_taken None = None
as_taken (Some (a, rest)) = Some (a, rest.now)

-- what is left of the devices to come after a line that goes on with the journals; they have begun, or not
abbrev pub left_behind : List ℕ → Bool → JournalLine → Option (List ℕ)
left_behind [] begun (Device id) = None
left_behind (next ∷ others) begun (Device id) = if next == id then Some others else None
left_behind left begun (Entry entry) = if begun then Some left else None
