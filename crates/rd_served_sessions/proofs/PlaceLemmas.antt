-- Which lines are left on a channel, by the script's lines from one on.
use Rattle.std.proofs.Common.{◌≡◌, ◌∙◌, ◌≤◌, ◌<◌, refl, sym, ap, subst, inl, inr, ℕ, suc, ◌==◌, ◌&&◌, nat_le, nat_lt, Bool, true, false, List, [], ◌∷◌, ◌++◌, Option, Some, None, append_assoc, arith, eq-eqb, eqb-true}
use Rattle.std.specs.Prelude.{if◌then◌else◌}
use Rattle.std.specs.List.{AllByRecursion, cons_option}
use Rattle.std.specs.Option.{option_and_then, option_map_or}
use Rattle.std.proofs.lemmas.Bool.{leb-false, leb-true, ltb-false}
use Rattle.rd_front.specs.Calls.{FrontEntry}
use Rattle.rd_front.specs.declared.calls.FrontCall.{FrontCall}
use Rattle.rd_front.specs.declared.calls.FrontCall.TheVariants as call
use Rattle.rd_front.specs.declared.calls.FrontReply.{FrontReply}
use Rattle.rd_front.specs.declared.calls.FrontReply.TheVariants as reply
use Rattle.rd_script.specs.declared.line.Line.{Line}
use Rattle.rd_script.specs.declared.line.Line.TheVariants as line
use Rattle.rd_script.specs.declared.line.NumberedLine.{NumberedLine}
use Rattle.rd_declared.specs.Declaring.{bare_lines}
use Rattle.rd_deeds.specs.Talk.{EndsWith, Has}
use Rattle.rd_workers.proofs.LineLemmas.{from_later}
use Rattle.rd_workers.specs.Lines.{IsCallFor, LinesGo, LinesStand, LinesStep, at_line, at_lines, due_now, first_due, having_acted, left_from, lines_from_on, once_acted, waits_first, was_full}
use Rattle.rd_served_sessions.specs.Parted.{AreInPlace, line_place}

abbrev pub type_of : {A : Type 0} → A → Type 0
type_of {A} x = A

-- the script's lines that act at a place of a channel
abbrev pub Lines : Type 0
Lines = type_of (at_lines [])

-- ---- lists

pub ends_self : {A : Type 0} (xs : List A) → EndsWith xs xs
ends_self xs = ([], refl)

pub ends_then : {A : Type 0} (xs ys zs : List A) → EndsWith xs ys → EndsWith ys zs → EndsWith xs zs
ends_then xs ys zs first second = (first.0 ++ second.0, first.1 ∙ ap (λ l. first.0 ++ l) second.1 ∙ sym (append_assoc first.0 second.0 zs))

pub ends_tail : {A : Type 0} (xs : List A) (y : A) (ys : List A) → EndsWith xs (y ∷ ys) → EndsWith xs ys
ends_tail xs y ys ends = (ends.0 ++ y ∷ [], ends.1 ∙ sym (append_assoc ends.0 (y ∷ []) ys))

-- what is in the end is in the whole
pub ends_has : (x : NumberedLine) (prefix ys : List NumberedLine) → Has x.line (bare_lines (prefix ++ x ∷ ys))
ends_has x [] ys = inl refl
ends_has x (z ∷ prefix) ys = inr (ends_has x prefix ys)

-- what is in place stays so from a line on
pub placed_end : (prefix ys : List NumberedLine) → AreInPlace (prefix ++ ys) → AreInPlace ys
placed_end [] ys is = is
placed_end (z ∷ prefix) ys is = placed_end prefix ys is.1

-- one of the lines behind another
pub behind_first : (P : NumberedLine → Type 0) (prefix : List NumberedLine) (y : NumberedLine) (ys : List NumberedLine) → AllByRecursion P (prefix ++ y ∷ ys) → P y
behind_first P [] y ys all = all.0
behind_first P (z ∷ prefix) y ys all = behind_first P prefix y ys all.1

-- ---- from the first line on that acts on no channel before

-- the first of these lines has a place that is on no channel before
abbrev pub IsFrom : ℕ → Line → Type 0
IsFrom c (line.AtRemove channel requests device) = c ≤ channel
IsFrom c (line.AtAdd channel requests device) = c ≤ channel
IsFrom c (line.AtDrop channel requests) = c ≤ channel
IsFrom c _ = ⊥

abbrev pub IsFirstFrom : ℕ → List NumberedLine → Type 0
IsFirstFrom c [] = Unit {0}
IsFirstFrom c (l ∷ lines) = IsFrom c l.line

-- The script's lines from one on, those left on a channel among them.
pub record AreFrom (c : ℕ) (all : List NumberedLine) (left : Lines) : Type 0 where
  pub rest : List NumberedLine
  pub ends : EndsWith all rest
  pub left_are : left ≡ at_lines rest
  pub first : IsFirstFrom c rest

-- lines of channels before are passed over
pub from_first : (c : ℕ) (all rest : List NumberedLine) → EndsWith all rest → AreFrom c all (lines_from_on c (at_lines rest))
from_first c all [] ends = record { rest = []; ends = ends; left_are = refl; first = tt }
from_first c all (l ∷ rest) ends = one l.line refl (from_first c all rest (ends_tail all l rest ends))
  where
    stays : (y : Line) → l.line ≡ y → lines_from_on c (at_lines (l ∷ rest)) ≡ at_lines (l ∷ rest) → IsFrom c y → AreFrom c all (lines_from_on c (cons_option (at_line y) (at_lines rest)))
    stays y is same first = record {
      rest = l ∷ rest;
      ends = ends;
      left_are = ap (λ (z : Line). lines_from_on c (cons_option (at_line z) (at_lines rest))) (sym is) ∙ same;
      first = subst (IsFrom c) (sym is) first;
    }

    one : (y : Line) → l.line ≡ y → AreFrom c all (lines_from_on c (at_lines rest)) → AreFrom c all (lines_from_on c (cons_option (at_line y) (at_lines rest)))
    one (line.AtRemove channel requests device) is later = by (nat_lt channel c) refl
      where
        by : (b : Bool) → nat_lt channel c ≡ b → AreFrom c all (lines_from_on c (cons_option (at_line (line.AtRemove channel requests device)) (at_lines rest)))
        by true before = rw before later
        by false from = stays (line.AtRemove channel requests device) is (rw (is, from) refl) (ltb-false channel c from)
    one (line.AtAdd channel requests device) is later = by (nat_lt channel c) refl
      where
        by : (b : Bool) → nat_lt channel c ≡ b → AreFrom c all (lines_from_on c (cons_option (at_line (line.AtAdd channel requests device)) (at_lines rest)))
        by true before = rw before later
        by false from = stays (line.AtAdd channel requests device) is (rw (is, from) refl) (ltb-false channel c from)
    one (line.AtDrop channel requests) is later = by (nat_lt channel c) refl
      where
        by : (b : Bool) → nat_lt channel c ≡ b → AreFrom c all (lines_from_on c (cons_option (at_line (line.AtDrop channel requests)) (at_lines rest)))
        by true before = rw before later
        by false from = stays (line.AtDrop channel requests) is (rw (is, from) refl) (ltb-false channel c from)
    one y is later = later

-- ---- whether the first line is due

both_are : (a b : Bool) → (a && b) ≡ true → (a ≡ true) × (b ≡ true)
both_are true b is = (refl, is)
both_are false b is = absurd (cc (is))

second_not : (a b : Bool) → a ≡ true → (a && b) ≡ false → b ≡ false
second_not true b e is = is
second_not false b e is = absurd (cc (e))

-- A line that acts by a call has its place on the channel, at no more requests than were heard, and then the others are left.
pub record ActsOn (c n : ℕ) (y : Line) (ls : Lines) : Type 0 where
  pub requests : ℕ
  pub place : line_place y ≡ Some (c, requests)
  pub due : requests ≤ n
  pub left : once_acted c n (cons_option (at_line y) ls) ≡ ls

place_is : (c channel requests : ℕ) → channel ≡ c → ◌≡◌ {A = Option (ℕ × ℕ)} (Some (channel, requests)) (Some (c, requests))
place_is c channel requests same = ap (λ (n : ℕ). Some (n, requests)) same

pub acted_line : (c n : ℕ) (does : FrontCall) (y : Line) (ls : Lines) → IsFrom c y → IsCallFor (first_due c n (cons_option (at_line y) ls)) does → ActsOn c n y ls
acted_line c n does (line.AtRemove channel requests device) ls from is = by (channel == c && nat_le requests n) refl is
  where
    by : (b : Bool) → (channel == c && nat_le requests n) ≡ b → IsCallFor (first_due c n (cons_option (at_line (line.AtRemove channel requests device)) ls)) does → ActsOn c n (line.AtRemove channel requests device) ls
    by true e = λ is. let both = both_are (channel == c) (nat_le requests n) e in record { requests = requests; place = place_is c channel requests (eqb-true channel c both.0); due = leb-true requests n both.1; left = rw e refl }
    by false e = rw e (λ is. absurd is)
acted_line c n does (line.AtAdd channel requests device) ls from is = by (channel == c && nat_le requests n) refl is
  where
    by : (b : Bool) → (channel == c && nat_le requests n) ≡ b → IsCallFor (first_due c n (cons_option (at_line (line.AtAdd channel requests device)) ls)) does → ActsOn c n (line.AtAdd channel requests device) ls
    by true e = λ is. let both = both_are (channel == c) (nat_le requests n) e in record { requests = requests; place = place_is c channel requests (eqb-true channel c both.0); due = leb-true requests n both.1; left = rw e refl }
    by false e = rw e (λ is. absurd is)
acted_line c n does (line.AtDrop channel requests) ls from is = by (channel == c && nat_le requests n) refl is
  where
    by : (b : Bool) → (channel == c && nat_le requests n) ≡ b → IsCallFor (first_due c n (cons_option (at_line (line.AtDrop channel requests)) ls)) does → ActsOn c n (line.AtDrop channel requests) ls
    by true e = λ is. let both = both_are (channel == c) (nat_le requests n) e in record { requests = requests; place = place_is c channel requests (eqb-true channel c both.0); due = leb-true requests n both.1; left = rw e refl }
    by false e = rw e (λ is. absurd is)
acted_line c n does y ls from is = absurd from

-- it says what the call does
pub says_line : (c n device : ℕ) (y : Line) (ls : Lines) → IsFrom c y → IsCallFor (first_due c n (cons_option (at_line y) ls)) (call.Remove device) → (channel : ℕ) × (requests : ℕ) × (y ≡ line.AtRemove channel requests device)
says_line c n device (line.AtRemove channel requests d) ls from is = by (channel == c && nat_le requests n) refl is
  where
    by : (b : Bool) → (channel == c && nat_le requests n) ≡ b → IsCallFor (first_due c n (cons_option (at_line (line.AtRemove channel requests d)) ls)) (call.Remove device) → (ch : ℕ) × (rq : ℕ) × (line.AtRemove channel requests d ≡ line.AtRemove ch rq device)
    by true e = rw e (λ is. (channel, requests, (let same : d ≡ device = cc (is) in ap (λ (k : ℕ). line.AtRemove channel requests k) same)))
    by false e = rw e (λ is. absurd is)
says_line c n device (line.AtAdd channel requests d) ls from is = by (channel == c && nat_le requests n) refl is
  where
    by : (b : Bool) → (channel == c && nat_le requests n) ≡ b → IsCallFor (first_due c n (cons_option (at_line (line.AtAdd channel requests d)) ls)) (call.Remove device) → (ch : ℕ) × (rq : ℕ) × (line.AtAdd channel requests d ≡ line.AtRemove ch rq device)
    by true e = rw e (λ is. absurd (cc (is)))
    by false e = rw e (λ is. absurd is)
says_line c n device (line.AtDrop channel requests) ls from is = by (channel == c && nat_le requests n) refl is
  where
    by : (b : Bool) → (channel == c && nat_le requests n) ≡ b → IsCallFor (first_due c n (cons_option (at_line (line.AtDrop channel requests)) ls)) (call.Remove device) → (ch : ℕ) × (rq : ℕ) × (line.AtDrop channel requests ≡ line.AtRemove ch rq device)
    by true e = rw e (λ is. absurd (cc (is)))
    by false e = rw e (λ is. absurd is)
says_line c n device y ls from is = absurd from

pub place_at : (channel requests c rq : ℕ) → ◌≡◌ {A = Option (ℕ × ℕ)} (Some (channel, requests)) (Some (c, rq)) → (channel ≡ c) × (requests ≡ rq)
place_at channel requests c rq is = let both : (channel, requests) ≡ (c, rq) = cc (is) in (ap (λ (x : ℕ × ℕ). x.0) both, ap (λ (x : ℕ × ℕ). x.1) both)

-- where the first line's place is on the channel, one waits
pub waits_line : (c rq : ℕ) (y : Line) (ls : Lines) → line_place y ≡ Some (c, rq) → waits_first c (cons_option (at_line y) ls) ≡ true
waits_line c rq (line.AtRemove channel requests device) ls is = eq-eqb channel c (place_at channel requests c rq is).0
waits_line c rq (line.AtAdd channel requests device) ls is = eq-eqb channel c (place_at channel requests c rq is).0
waits_line c rq (line.AtDrop channel requests) ls is = eq-eqb channel c (place_at channel requests c rq is).0
waits_line c rq y ls is = absurd (cc (is))

below_it : (channel requests c rq n : ℕ) → ◌≡◌ {A = Option (ℕ × ℕ)} (Some (channel, requests)) (Some (c, rq)) → (channel == c && nat_le requests n) ≡ false → n < rq
below_it channel requests c rq n is e =
    let both = place_at channel requests c rq is in
    let below : n < requests = leb-false requests n (second_not (channel == c) (nat_le requests n) (eq-eqb channel c both.0) e) in
    let same = both.1 in
    omega (arith, below, same)

-- and where it isn't due, fewer requests were heard
pub undue_line : (c rq n : ℕ) (y : Line) (ls : Lines) → line_place y ≡ Some (c, rq) → first_due c n (cons_option (at_line y) ls) ≡ None → n < rq
undue_line c rq n (line.AtRemove channel requests device) ls is none = by (channel == c && nat_le requests n) refl none
  where
    by : (b : Bool) → (channel == c && nat_le requests n) ≡ b → first_due c n (cons_option (at_line (line.AtRemove channel requests device)) ls) ≡ None → n < rq
    by true e = rw e (λ none. absurd (cc (none)))
    by false e = λ none. below_it channel requests c rq n is e
undue_line c rq n (line.AtAdd channel requests device) ls is none = by (channel == c && nat_le requests n) refl none
  where
    by : (b : Bool) → (channel == c && nat_le requests n) ≡ b → first_due c n (cons_option (at_line (line.AtAdd channel requests device)) ls) ≡ None → n < rq
    by true e = rw e (λ none. absurd (cc (none)))
    by false e = λ none. below_it channel requests c rq n is e
undue_line c rq n (line.AtDrop channel requests) ls is none = by (channel == c && nat_le requests n) refl none
  where
    by : (b : Bool) → (channel == c && nat_le requests n) ≡ b → first_due c n (cons_option (at_line (line.AtDrop channel requests)) ls) ≡ None → n < rq
    by true e = rw e (λ none. absurd (cc (none)))
    by false e = λ none. below_it channel requests c rq n is e
undue_line c rq n y ls is none = absurd (cc (is))

-- ---- how many requests were heard

pub due_some : (c : ℕ) (left : Lines) (o : Option ℕ) (does : FrontCall) → IsCallFor (option_and_then (λ requests. first_due c requests left) o) does → (n : ℕ) × (o ≡ Some n) × IsCallFor (first_due c n left) does
due_some c left None does is = absurd is
due_some c left (Some n) does is = (n, refl, is)

-- ---- what a call leaves

-- What is known of the lines that are left, by the script's from one on.
abbrev pub AreLeftOf : ℕ → List NumberedLine → LinesStand → Type 0
AreLeftOf c all s = AreFrom c all (left_from c s)

-- A line acts by a call: it is the first of those that are left.
pub record ActsFirst (c : ℕ) (all : List NumberedLine) (s : LinesStand) (does : FrontCall) (are : AreLeftOf c all s) : Type 0 where
  pub n : ℕ
  pub asked : s.asked ≡ Some n
  pub first : NumberedLine
  pub behind : List NumberedLine
  pub rest_is : are.rest ≡ first ∷ behind
  pub from : IsFrom c first.line
  pub due : IsCallFor (first_due c n (cons_option (at_line first.line) (at_lines behind))) does
  pub requests : ℕ
  pub place : line_place first.line ≡ Some (c, requests)
  pub few : requests ≤ n
  -- where it acted
  pub acted : left_from c (having_acted c s) ≡ lines_from_on c (at_lines behind)

pub acts_first : (c : ℕ) (all : List NumberedLine) (s : LinesStand) (does : FrontCall) (are : AreLeftOf c all s) → IsCallFor (due_now c s) does → ActsFirst c all s does are
acts_first c all s does are is = by are.rest refl are.left_are are.first
  where
    heard : (n : ℕ) × (s.asked ≡ Some n) × IsCallFor (first_due c n (left_from c s)) does
    heard = due_some c (left_from c s) s.asked does is

    by : (rest : List NumberedLine) → are.rest ≡ rest → left_from c s ≡ at_lines rest → IsFirstFrom c rest → ActsFirst c all s does are
    by [] rest_is same first = absurd (subst (λ (ls : Lines). IsCallFor (first_due c heard.0 ls) does) same heard.2)
    by (l ∷ behind) rest_is same first =
        let due : IsCallFor (first_due c heard.0 (cons_option (at_line l.line) (at_lines behind))) does = subst (λ (ls : Lines). IsCallFor (first_due c heard.0 ls) does) same heard.2 in
        let one = acted_line c heard.0 does l.line (at_lines behind) first due in
        record {
          n = heard.0;
          asked = heard.1;
          first = l;
          behind = behind;
          rest_is = rest_is;
          from = first;
          due = due;
          requests = one.requests;
          place = one.place;
          few = one.due;
          acted = ap (lines_from_on c) (ap (λ (o : Option ℕ). option_map_or (λ requests. once_acted c requests (left_from c s)) o s.left) heard.1 ∙ ap (λ (ls : Lines). once_acted c heard.0 ls) same ∙ one.left);
        }

-- the lines that are left after a line acted
acted_from : (c : ℕ) (all : List NumberedLine) (s t : LinesStand) (does : FrontCall) (b : Bool) → AreLeftOf c all s → IsCallFor (due_now c s) does → t ≡ (if b then s else having_acted c s) → AreLeftOf c all t
acted_from c all s t does true are is same = subst (AreLeftOf c all) (sym same) are
acted_from c all s t does false are is same =
    let a = acts_first c all s does are is in
    subst (AreLeftOf c all) (sym same) (subst (AreFrom c all) (sym a.acted) (from_first c all a.behind (ends_tail all a.first a.behind (subst (EndsWith all) a.rest_is are.ends))))

same_from : (c : ℕ) (all : List NumberedLine) (s t : LinesStand) → t.left ≡ s.left → AreLeftOf c all s → AreLeftOf c all t
same_from c all s t same are = subst (λ (ls : Lines). AreFrom c all (lines_from_on c ls)) (sym same) are

-- So each call leaves some of the script's lines from one on.
pub step_from : (c : ℕ) (all : List NumberedLine) (s t : LinesStand) (does : FrontCall) (back : FrontReply) → LinesStep c s does back t → AreLeftOf c all s → AreLeftOf c all t
step_from c all s t call.Look (reply.Stands ready asked) step are = same_from c all s t (ap (λ (x : LinesStand). x.left) step) are
step_from c all s t call.Look (reply.Done at full) step are = same_from c all s t (ap (λ (x : LinesStand). x.left) step) are
step_from c all s t call.Look reply.Kept step are = same_from c all s t (ap (λ (x : LinesStand). x.left) step) are
step_from c all s t call.Look (reply.Wrong cause) step are = same_from c all s t (ap (λ (x : LinesStand). x.left) step) are
step_from c all s t call.Look (reply.Duplicate key) step are = same_from c all s t (ap (λ (x : LinesStand). x.left) step) are
step_from c all s t call.Look reply.Unfit step are = same_from c all s t (ap (λ (x : LinesStand). x.left) step) are
step_from c all s t call.Look reply.Memory step are = same_from c all s t (ap (λ (x : LinesStand). x.left) step) are
step_from c all s t call.Look reply.Full step are = same_from c all s t (ap (λ (x : LinesStand). x.left) step) are
step_from c all s t call.Look reply.Refused step are = same_from c all s t (ap (λ (x : LinesStand). x.left) step) are
step_from c all s t call.Look (reply.Messages filled left) step are = same_from c all s t (ap (λ (x : LinesStand). x.left) step) are
step_from c all s t (call.Remove device) back step are = acted_from c all s t (call.Remove device) (was_full back) are step.0 step.1
step_from c all s t (call.Add device) back step are = acted_from c all s t (call.Add device) (was_full back) are step.0 step.1
step_from c all s t (call.Hear message) back step are = same_from c all s t (ap (λ (x : LinesStand). x.left) step.1) are
step_from c all s t call.Retry back step are = same_from c all s t (ap (λ (x : LinesStand). x.left) step.1) are
step_from c all s t (call.Begin channel) back step are = absurd step
step_from c all s t (call.Next channel place room) back step are = absurd step
step_from c all s t call.EndChannel back step are = absurd step
step_from c all s t call.EndSession back step are = absurd step

pub steps_from : (c : ℕ) (all : List NumberedLine) (s t : LinesStand) (entries : List FrontEntry) → LinesGo c s entries t → AreLeftOf c all s → AreLeftOf c all t
steps_from c all s t [] goes are = subst (AreLeftOf c all) (sym goes) are
steps_from c all s t (e ∷ entries) goes are = steps_from c all goes.0 t entries goes.2 (step_from c all s goes.0 e.call e.reply goes.1 are)

-- those of the next channel
pub next_from : (c : ℕ) (all : List NumberedLine) (s : LinesStand) (lines : Lines) → AreLeftOf c all s → left_from (suc c) s ≡ lines_from_on (suc c) lines → AreFrom (suc c) all (lines_from_on (suc c) lines)
next_from c all s lines are same =
    subst (AreFrom (suc c) all) (ap (lines_from_on (suc c)) (sym are.left_are) ∙ from_later c (suc c) s.left (omega arith) ∙ same) (from_first (suc c) all are.rest are.ends)
