-- The lines of a script: their applications have numbers that applications may have.
use Rattle.std.proofs.Common.{◌≡◌, refl, subst, ℕ, ◌+◌, ◌≤◌, inl, inr, Bool, true, false, List, [], ◌∷◌, ◌++◌, length, length-append, Result, Ok, Err, arith}
use Rattle.std.specs.Prelude.{◌&&◌, IfSome, nat_le}
use Rattle.std.specs.List.{AllByRecursion}
use Rattle.std.proofs.lemmas.Bool.{cases_Bool}
use Rattle.std.proofs.lemmas.Bool.Decides.{nat_tests}
use Rattle.rd_script.specs.declared.keyword.Keyword.{Keyword}
use Rattle.rd_script.specs.declared.keyword.Keyword.TheVariants as keyword
use Rattle.rd_script.specs.declared.keyword.Mode.{Mode}
use Rattle.rd_script.specs.declared.keyword.Act.{Act}
use Rattle.rd_script.specs.declared.keyword.Act.TheVariants as act
use Rattle.rd_script.specs.declared.keyword.NoticeWord.{NoticeWord}
use Rattle.rd_script.specs.declared.keyword.NoticeWord.TheVariants as notice
use Rattle.rd_script.specs.declared.keyword.Verb.{Verb}
use Rattle.rd_script.specs.declared.keyword.Verb.TheVariants as verb
use Rattle.rd_script.specs.declared.line.Line.{Line}
use Rattle.rd_script.specs.declared.line.NumberedLine.{NumberedLine}
use Rattle.rd_script.specs.declared.script.Script.{Script}
use Rattle.rd_script.specs.declared.why.LineWhy.{LineWhy}
use Rattle.rd_script.specs.Numbers.{number_word}
use Rattle.rd_script.specs.Row.{Row, done, test, ◌>>=◌, met_words, words_of}
use Rattle.rd_script.specs.Rows.{max_applications}
use Rattle.rd_script.specs.Rows as rows
use Rattle.rd_script.specs.Said.{Said}
use Rattle.rd_script.specs.Script.{BadLine, Reading, TextLine, fits, go_on, is_application, is_skipped, line_of, lines_of, max_lines, read_all, reading_at_start, script_of, script_read, step, taken}
use Rattle.rd_script.proofs.RowLemmas.{ok_same, then_ok}
use Rattle.rd_world.specs.Applications.{AreNumbered, IsNumber}
use Rattle.rd_world.specs.Run.{asked_by}
use Rattle.rd_world.specs.World.{Asked}

-- ---- what rows give

-- each value that words give by a row is such
record Gives {A : Type 0} (l : Row A) (P : A → Type 0) : Type 0 where
  gives : (ws : List (List ℕ)) (a : A) (rest : List (List ℕ)) → met_words l ws ≡ Ok (a, rest) → P a

value : {A : Type 0} (P : A → Type 0) (x : A) → P x → Gives (done x) P
value P x p = record { gives = λ ws a rest e. subst (λ y. P y.0) (ok_same (x, ws) (a, rest) e) p }

both : {A B : Type 0} (Q : A → Type 0) (P : B → Type 0) (l : Row A) (next : A → Row B) → Gives l Q → ((x : A) → Q x → Gives (next x) P) → Gives (l >>= next) P
both Q P l next first on = record {
  gives = λ ws b rest e. let t = then_ok (met_words l ws) (λ x. met_words (next x.0) x.1) (b, rest) e in
      (on (t.0).0 (first.gives ws (t.0).0 (t.0).1 t.1)).gives (t.0).1 b rest t.2;
}

any : {A B : Type 0} {P : B → Type 0} (l : Row A) (next : A → Row B) → ((x : A) → Gives (next x) P) → Gives (l >>= next) P
any {P = P} l next on = both (λ x. Unit {0}) P l next (record { gives = λ ws a rest e. tt }) (λ x u. on x)

tested : (b : Bool) (cause : LineWhy) → Gives (test b cause) (λ u. b ≡ true)
tested true cause = record { gives = λ ws a rest e. refl }
tested false cause = record { gives = λ ws a rest e. absurd (cc e) }

within_of : (least most n : ℕ) → (nat_le least n && nat_le n most) ≡ true → (least ≤ n) × (n ≤ most)
within_of least most n e = (grind (arith, nat_tests), grind (arith, nat_tests))

number_within : (least most : ℕ) → Gives (number_word least most) (λ n. (least ≤ n) × (n ≤ most))
unfolding number_word
number_within least most = any _ _ (λ w. any _ _ (λ n. both _ _ _ _ (tested _ _) (λ u e. value _ n (within_of least most n e))))

-- ---- a line

-- the application of a line, if it is one's, has a number that it may have
abbrev HasNumber : Line → Type 0
HasNumber l = IfSome (asked_by l) (λ (x : ℕ × Asked). IsNumber x.0)

open_numbered : (said : Said) (a : ℕ) (handle : List ℕ) → IsNumber a → Gives (rows.open_row said a handle) HasNumber
unfolding rows.open_row asked_by
open_numbered said a handle number = any _ _ (λ _. (any _ _ (λ _. value _ _ number)))

read_numbered : (a : ℕ) (handle : List ℕ) → IsNumber a → Gives (rows.read_row a handle) HasNumber
unfolding rows.read_row asked_by
read_numbered a handle number = any _ _ (λ _. (any _ _ (λ _. value _ _ number)))

write_numbered : (a : ℕ) (handle : List ℕ) → IsNumber a → Gives (rows.write_row a handle) HasNumber
unfolding rows.write_row asked_by
write_numbered a handle number = any _ _ (λ _. (any _ _ (λ _. value _ _ number)))

query_numbered : (a : ℕ) (handle : List ℕ) → IsNumber a → Gives (rows.query_row a handle) HasNumber
unfolding rows.query_row asked_by
query_numbered a handle number = any _ _ (λ _. value _ _ number)

set_numbered : (a : ℕ) (handle : List ℕ) → IsNumber a → Gives (rows.set_row a handle) HasNumber
unfolding rows.set_row asked_by
set_numbered a handle number = any _ _ (λ _. (any _ _ (λ _. value _ _ number)))

volume_numbered : (a : ℕ) (handle : List ℕ) → IsNumber a → Gives (rows.volume_row a handle) HasNumber
unfolding rows.volume_row asked_by
volume_numbered a handle number = any _ _ (λ _. value _ _ number)

setvolume_numbered : (a : ℕ) (handle : List ℕ) → IsNumber a → Gives (rows.setvolume_row a handle) HasNumber
unfolding rows.setvolume_row asked_by
setvolume_numbered a handle number = any _ _ (λ _. (any _ _ (λ _. value _ _ number)))

dir_numbered : (a : ℕ) (handle : List ℕ) → IsNumber a → Gives (rows.dir_row a handle) HasNumber
unfolding rows.dir_row asked_by
dir_numbered a handle number = any _ _ (λ _. (any _ _ (λ _. (any _ _ (λ _. value _ _ number)))))

lock_numbered : (a : ℕ) (handle : List ℕ) → IsNumber a → Gives (rows.lock_row a handle) HasNumber
unfolding rows.lock_row asked_by
lock_numbered a handle number = any _ _ (λ _. (any _ _ (λ _. (any _ _ (λ _. value _ _ number)))))

control_numbered : (a : ℕ) (handle : List ℕ) → IsNumber a → Gives (rows.control_row a handle) HasNumber
unfolding rows.control_row asked_by
control_numbered a handle number = any _ _ (λ _. (any _ _ (λ _. (any _ _ (λ _. value _ _ number)))))

notify_numbered : (a : ℕ) (handle : List ℕ) → IsNumber a → Gives (rows.notify_row a handle) HasNumber
unfolding rows.notify_row asked_by
notify_numbered a handle number = any _ _ (λ _. (any _ _ (λ _. value _ _ number)))

create_rest : (a : ℕ) (handle : List ℕ) (device : ℕ) (path : List ℕ) → IsNumber a → Gives (rows.create_numbers a handle device path) HasNumber
unfolding rows.create_numbers asked_by
create_rest a handle device path number = any _ _ (λ _. (any _ _ (λ _. (any _ _ (λ _. (any _ _ (λ _. (any _ _ (λ _. value _ _ number)))))))))

create_numbered : (said : Said) (a : ℕ) (handle : List ℕ) → IsNumber a → Gives (rows.create_row said a handle) HasNumber
unfolding rows.create_row
create_numbered said a handle number = any _ _ (λ device. any _ _ (λ path. create_rest a handle device path number))

verb_numbered : (said : Said) (a : ℕ) (handle : List ℕ) (v : Verb) → IsNumber a → Gives (rows.verb_row said a handle v) HasNumber
unfolding rows.verb_row asked_by
verb_numbered said a handle verb.Open number = open_numbered said a handle number
verb_numbered said a handle verb.Create number = create_numbered said a handle number
verb_numbered said a handle verb.Close number = value _ _ number
verb_numbered said a handle verb.Read number = read_numbered a handle number
verb_numbered said a handle verb.Write number = write_numbered a handle number
verb_numbered said a handle verb.Query number = query_numbered a handle number
verb_numbered said a handle verb.Set number = set_numbered a handle number
verb_numbered said a handle verb.Volume number = volume_numbered a handle number
verb_numbered said a handle verb.SetVolume number = setvolume_numbered a handle number
verb_numbered said a handle verb.Dir number = dir_numbered a handle number
verb_numbered said a handle verb.Lock number = lock_numbered a handle number
verb_numbered said a handle verb.Control number = control_numbered a handle number
verb_numbered said a handle verb.Notify number = notify_numbered a handle number

application_numbered : (said : Said) → Gives (rows.application_row said) HasNumber
unfolding rows.application_row
application_numbered said =
    both _ _ _ _ (number_within 1 max_applications) (λ a within. any _ _ (λ v. any _ _ (λ handle. verb_numbered said a handle v (let least : 1 ≤ a = within.0 in omega arith, within.1))))

-- ---- lines that are no application's

seed_none : Gives (rows.seed_row) HasNumber
unfolding rows.seed_row asked_by
seed_none = any _ _ (λ _. value _ _ tt)

clock_none : Gives (rows.clock_row) HasNumber
unfolding rows.clock_row asked_by
clock_none = any _ _ (λ _. value _ _ tt)

piece_none : Gives (rows.piece_row) HasNumber
unfolding rows.piece_row asked_by
piece_none = any _ _ (λ _. value _ _ tt)

workers_none : Gives (rows.workers_row) HasNumber
unfolding rows.workers_row asked_by
workers_none = any _ _ (λ _. value _ _ tt)

channels_none : Gives (rows.channels_row) HasNumber
unfolding rows.channels_row asked_by
channels_none = any _ _ (λ _. value _ _ tt)

devices_none : Gives (rows.devices_row) HasNumber
unfolding rows.devices_row asked_by
devices_none = any _ _ (λ _. value _ _ tt)

drive_none : (said : Said) → Gives (rows.drive_row said) HasNumber
unfolding rows.drive_row asked_by
drive_none said = any _ _ (λ _. (any _ _ (λ _. value _ _ tt)))

drivefold_none : (said : Said) → Gives (rows.drivefold_row said) HasNumber
unfolding rows.drivefold_row asked_by
drivefold_none said = any _ _ (λ _. (any _ _ (λ _. value _ _ tt)))

real_none : (said : Said) → Gives (rows.real_row said) HasNumber
unfolding rows.real_row asked_by
real_none said = any _ _ (λ _. (any _ _ (λ _. (any _ _ (λ _. value _ _ tt)))))

folder_none : (said : Said) → Gives (rows.folder_row said) HasNumber
unfolding rows.folder_row asked_by
folder_none said = any _ _ (λ _. (any _ _ (λ _. value _ _ tt)))

file_none : (said : Said) → Gives (rows.file_row said) HasNumber
unfolding rows.file_row asked_by
file_none said = any _ _ (λ _. (any _ _ (λ _. (any _ _ (λ _. value _ _ tt)))))

fill_none : (said : Said) → Gives (rows.fill_row said) HasNumber
unfolding rows.fill_row asked_by
fill_none said = any _ _ (λ _. (any _ _ (λ _. (any _ _ (λ _. (any _ _ (λ _. value _ _ tt)))))))

printer_none : (said : Said) → Gives (rows.printer_row said) HasNumber
unfolding rows.printer_row asked_by
printer_none said = any _ _ (λ _. (any _ _ (λ _. (any _ _ (λ _. (any _ _ (λ _. value _ _ tt)))))))

remove_none : (said : Said) → Gives (rows.remove_row said) HasNumber
unfolding rows.remove_row asked_by
remove_none said = any _ _ (λ _. value _ _ tt)

add_none : (said : Said) → Gives (rows.add_row said) HasNumber
unfolding rows.add_row asked_by
add_none said = any _ _ (λ _. value _ _ tt)

do_none : (said : Said) → Gives (rows.do_row said) HasNumber
unfolding rows.do_row asked_by
do_none said = any _ _ (λ _. value _ _ tt)

cache_add_none : Gives (rows.cache_add_row) HasNumber
unfolding rows.cache_add_row asked_by
cache_add_none = any _ _ (λ _. (any _ _ (λ _. (any _ _ (λ _. (any _ _ (λ _. value _ _ tt)))))))

cache_update_none : Gives (rows.cache_update_row) HasNumber
unfolding rows.cache_update_row asked_by
cache_update_none = any _ _ (λ _. (any _ _ (λ _. value _ _ tt)))

cache_delete_none : Gives (rows.cache_delete_row) HasNumber
unfolding rows.cache_delete_row asked_by
cache_delete_none = any _ _ (λ _. value _ _ tt)

cache_rename_none : Gives (rows.cache_rename_row) HasNumber
unfolding rows.cache_rename_row asked_by
cache_rename_none = any _ _ (λ _. (any _ _ (λ _. value _ _ tt)))

act_none : (said : Said) (channel requests : ℕ) (a : Act) → Gives (rows.act_row said channel requests a) HasNumber
unfolding rows.act_row rows.at_remove rows.at_add asked_by
act_none said channel requests act.Remove = any _ _ (λ _. value _ _ tt)
act_none said channel requests act.Add = any _ _ (λ _. value _ _ tt)
act_none said channel requests act.Drop = value _ _ tt

at_none : (said : Said) → Gives (rows.at_row said) HasNumber
unfolding rows.at_row
at_none said = any _ _ (λ moment. any _ _ (λ a. act_none said moment.0 moment.1 a))

notice_none : (w : NoticeWord) → Gives (rows.notice_row w) HasNumber
unfolding rows.notice_row
notice_none notice.Add = cache_add_none
notice_none notice.Update = cache_update_none
notice_none notice.Delete = cache_delete_none
notice_none notice.Rename = cache_rename_none

cache_none : Gives rows.cache_row HasNumber
unfolding rows.cache_row
cache_none = any _ _ (λ w. notice_none w)

keyword_none : (said : Said) (k : Keyword) → Gives (rows.keyword_row said k) HasNumber
unfolding rows.keyword_row asked_by
keyword_none said keyword.Seed = seed_none
keyword_none said keyword.Clock = clock_none
keyword_none said keyword.Piece = piece_none
keyword_none said keyword.Workers = workers_none
keyword_none said keyword.Channels = channels_none
keyword_none said keyword.Devices = devices_none
keyword_none said keyword.Drive = drive_none said
keyword_none said keyword.DriveFold = drivefold_none said
keyword_none said keyword.Real = real_none said
keyword_none said keyword.Folder = folder_none said
keyword_none said keyword.File = file_none said
keyword_none said keyword.Fill = fill_none said
keyword_none said keyword.Printer = printer_none said
keyword_none said keyword.At = at_none said
keyword_none said keyword.Settle = value _ _ tt
keyword_none said keyword.Remove = remove_none said
keyword_none said keyword.Add = add_none said
keyword_none said keyword.Do = do_none said
keyword_none said keyword.Cache = cache_none
keyword_none said keyword.Drop = value _ _ tt
keyword_none said keyword.Connect = value _ _ tt

form_numbered : (said : Said) (b : Bool) → Gives (rows.form_row said b) HasNumber
unfolding rows.form_row rows.control_line_row
form_numbered said true = application_numbered said
form_numbered said false = any _ _ (λ k. keyword_none said k)

row_numbered : (said : Said) (b : Bool) → Gives (rows.line_row said b) HasNumber
unfolding rows.line_row
row_numbered said b = both _ _ _ _ (form_numbered said b) (λ l number. any _ _ (λ _. value _ l number))

line_numbered : (said : Said) (text : List ℕ) (l : Line) → line_of said text ≡ Ok l → HasNumber l
unfolding line_of
line_numbered said text l e =
    let t = then_ok (met_words (rows.line_row said (is_application text)) (words_of text)) (λ x. Ok x.0) l e in
    subst HasNumber (ok_same (t.0).0 l t.2) ((row_numbered said (is_application text)).gives (words_of text) (t.0).0 (t.0).1 t.1)

-- ---- a script

-- what was read so far has few lines, each numbered so
record IsNumbered (r : Reading) : Type 0 where
  few : length r.lines ≤ r.number
  within : r.number ≤ max_lines
  numbers : AllByRecursion (λ (l : NumberedLine). HasNumber l.line) r.lines

all_last : (ls : List NumberedLine) (l : NumberedLine) → AllByRecursion (λ (k : NumberedLine). HasNumber k.line) ls → HasNumber l.line → AllByRecursion (λ (k : NumberedLine). HasNumber k.line) (ls ++ l ∷ [])
all_last [] l all h = (h, tt)
all_last (k ∷ ls) l all h = (all.0, all_last ls l all.1 h)

room : (r : Reading) (size : ℕ) → fits r size ≡ true → r.number + 1 ≤ max_lines
room r size e = grind (arith, nat_tests)

same_reading : (x y : Reading) → ◌≡◌ {A = Result Reading BadLine} (Ok x) (Ok y) → x ≡ y
same_reading x y e = cc

taken_numbered : (r new : Reading) (size : ℕ) (text : List ℕ) (found : Result Line LineWhy) → IsNumbered r → fits r size ≡ true → line_of r.said text ≡ found → taken r size found ≡ Ok new → IsNumbered new
taken_numbered r new size text (Err cause) are fit is e = absurd (cc e)
taken_numbered r new size text (Ok l) are fit is e = subst IsNumbered (same_reading _ new e) (record {
  few = let few : length r.lines ≤ r.number = are.few in omega (arith, length-append r.lines (record { number = r.number + 1; line = l } ∷ []));
  within = room r size fit;
  numbers = all_last r.lines (record { number = r.number + 1; line = l }) are.numbers (line_numbered r.said text l is);
})

step_numbered : (r new : Reading) (l : TextLine) → IsNumbered r → step r l ≡ Ok new → IsNumbered new
unfolding step
step_numbered r new l are e = elim (cases_Bool (fits r l.size)) [
  | inr full ↦ absurd (cc (rw full at e))
  | inl fit ↦ let e' = rw fit at e in elim (cases_Bool (is_skipped l.text)) [
    | inl skipped ↦ subst IsNumbered (same_reading _ new (rw skipped at e')) (record { few = let few : length r.lines ≤ r.number = are.few in omega arith; within = room r l.size fit; numbers = are.numbers })
    | inr read ↦ taken_numbered r new l.size l.text (line_of r.said l.text) are fit refl (rw read at e')
  ]
]

all_numbered : (ls : List TextLine) (r new : Reading) → IsNumbered r → read_all ls r ≡ Ok new → IsNumbered new
all_numbered [] r new are e = subst IsNumbered (same_reading r new e) are
all_numbered (l ∷ ls) r new are e =
    let on = elim (step r l) as (λ (o : Result Reading BadLine). step r l ≡ o → go_on (read_all ls) o ≡ Ok new → IsNumbered new) [
      | Ok next ↦ λ is d. all_numbered ls next new (step_numbered r next l are is) d
      | Err bad ↦ λ is d. absurd (cc d)
    ] in
    on refl e

script_numbered : (m : Mode) (o : Result Reading BadLine) (s : Script) → ((r : Reading) → o ≡ Ok r → IsNumbered r) → script_read m o ≡ Ok s → AreNumbered s.lines
script_numbered m (Err bad) s are e = absurd (cc e)
script_numbered m (Ok r) s are e =
    let numbered = are r refl in
    let lines : r.lines ≡ s.lines = cc in
    subst AreNumbered lines (record { few = let few : length r.lines ≤ r.number = numbered.few in let within : r.number ≤ max_lines = numbered.within in omega arith; numbers = numbered.numbers })

-- The lines of a script that was read are numbered so.
pub scripts_are_numbered : (m : Mode) (text : List ℕ) (s : Script) → script_of m text ≡ Ok s → AreNumbered s.lines
scripts_are_numbered m text s e =
    script_numbered m (read_all (lines_of text) (reading_at_start m)) s
    (λ r is. all_numbered (lines_of text) (reading_at_start m) r (record { few = omega arith; within = omega arith; numbers = tt }) is) e
