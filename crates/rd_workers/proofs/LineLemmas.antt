-- Which lines are left on a channel, and how calls go by them.
use Rattle.std.proofs.Common.{◌≡◌, ◌∙◌, ◌<◌, ◌≤◌, ◌==◌, ◌&&◌, ℕ, suc, List, [], ◌∷◌, ◌++◌, length, drop, get_or, Option, Some, None, Bool, true, false, inl, inr, ap, sym, refl, subst, arith}
use Rattle.std.specs.Prelude.{if◌then◌else◌, nat_le}
use Rattle.std.specs.Option.{option_and_then, option_map_or}
use Rattle.std.specs.List.{cons_option}
use Rattle.std.proofs.lemmas.Bool.{and_parts, cases_Bool, cases_lt, eqb-true, le-ltb, lt-ltb}
use Rattle.rd_front.specs.Calls.{FrontEntry}
use Rattle.rd_front.specs.declared.calls.FrontCall.{FrontCall}
use Rattle.rd_front.specs.declared.calls.FrontCall.TheVariants as call
use Rattle.rd_front.specs.declared.calls.FrontReply.{FrontReply}
use Rattle.rd_front.specs.declared.calls.FrontReply.TheVariants as reply
use Rattle.rd_script.specs.declared.line.NumberedLine.{NumberedLine}
use Rattle.rd_workers.specs.Lines.{AreLeftFor, ActsAll, ByCall, DoesAct, IsCallFor, IsDueEnd, IsPlainEnd, IsStart, KeepsToLines, LinesGo, LinesStand, LinesStep, LinesTo, NoneIsDue, StartsOnce, StartsWhere, was_full, at_line, at_lines, call_for, due_now, first_due, having_acted, is_due_at, left_from, lines_from_on, once_acted, waits_first}
use Rattle.rd_workers.specs.declared.due.Act.{Act}
use Rattle.rd_workers.specs.declared.due.Act.TheVariants as act
use Rattle.rd_workers.specs.declared.due.AtLine.{AtLine}
use Rattle.rd_workers.specs.declared.reader.Ending.{Ending}
use Rattle.rd_workers.specs.declared.reader.Ending.TheVariants as ending

-- ---- lines that are passed over

module _ (c : ℕ) (xs : List NumberedLine) (d : NumberedLine) (some : 1 ≤ length xs) where
  first_of : at_lines xs ≡ cons_option (at_line (get_or xs 0 d).line) (at_lines (drop 1 xs))
  first_of = by xs some
    where
      by : (ys : List NumberedLine) → 1 ≤ length ys → at_lines ys ≡ cons_option (at_line (get_or ys 0 d).line) (at_lines (drop 1 ys))
      by [] none = absurd (omega (arith, none))
      by (y ∷ ys) more = refl

  -- a line that acts at no place
  pub passes_none : at_line (get_or xs 0 d).line ≡ None → lines_from_on c (at_lines (drop 1 xs)) ≡ lines_from_on c (at_lines xs)
  passes_none none = sym (ap (lines_from_on c) (first_of ∙ ap (λ (o : Option AtLine). cons_option o (at_lines (drop 1 xs))) none))

  -- one that acts
  pub first_is : (a : AtLine) → at_line (get_or xs 0 d).line ≡ Some a → at_lines xs ≡ a ∷ at_lines (drop 1 xs)
  first_is a is = first_of ∙ ap (λ (o : Option AtLine). cons_option o (at_lines (drop 1 xs))) is

  -- on a channel before
  pub passes_before : (a : AtLine) → at_line (get_or xs 0 d).line ≡ Some a → a.channel < c → lines_from_on c (at_lines (drop 1 xs)) ≡ lines_from_on c (at_lines xs)
  passes_before a is less =
      sym (ap (lines_from_on c) (first_is a is) ∙ ap (λ (b : Bool). if b then lines_from_on c (at_lines (drop 1 xs)) else a ∷ at_lines (drop 1 xs)) (lt-ltb a.channel c less))

  -- on none before
  pub stays_first : (a : AtLine) → at_line (get_or xs 0 d).line ≡ Some a → c ≤ a.channel → at_lines xs ≡ lines_from_on c (at_lines xs)
  stays_first a is most =
      first_is a is ∙ sym (ap (lines_from_on c) (first_is a is) ∙ ap (λ (b : Bool). if b then lines_from_on c (at_lines (drop 1 xs)) else a ∷ at_lines (drop 1 xs)) (le-ltb a.channel c most))

-- there is none
pub no_lines : (c : ℕ) (xs : List NumberedLine) → length xs ≡ 0 → (at_lines xs ≡ []) × (at_lines xs ≡ lines_from_on c (at_lines xs))
no_lines c [] none = (refl, refl)
no_lines c (x ∷ xs) none = absurd (omega (arith, none))

-- from a channel on, and then from a later one
pub from_later : (c d : ℕ) (ls : List AtLine) → c ≤ d → lines_from_on d (lines_from_on c ls) ≡ lines_from_on d ls
from_later c d [] less = refl
from_later c d (l ∷ ls) less = elim (cases_lt l.channel c) [
  | inl before ↦
      ap (λ (b : Bool). lines_from_on d (if b then lines_from_on c ls else l ∷ ls)) (lt-ltb l.channel c before) ∙ from_later c d ls less
      ∙ sym (ap (λ (b : Bool). if b then lines_from_on d ls else l ∷ ls) (lt-ltb l.channel d (omega (arith, before, less))))
  | inr most ↦ ap (λ (b : Bool). lines_from_on d (if b then lines_from_on c ls else l ∷ ls)) (le-ltb l.channel c most)
]

-- the same ones are left for later channels
later_same : (c d : ℕ) (xs ys : List AtLine) → c ≤ d → lines_from_on c xs ≡ lines_from_on c ys → lines_from_on d xs ≡ lines_from_on d ys
later_same c d xs ys less same = sym (from_later c d xs less) ∙ ap (lines_from_on d) same ∙ from_later c d ys less

-- ---- what is due

-- a line that acts is of the channel, so that the same ones are left for later ones
acted_later : (c n : ℕ) (ls : List AtLine) → lines_from_on (suc c) (once_acted c n ls) ≡ lines_from_on (suc c) ls
acted_later c n [] = refl
acted_later c n (l ∷ ls) = elim (cases_Bool (is_due_at c n l)) [
  | inl is ↦
      let on : l.channel ≡ c = eqb-true l.channel c (and_parts (l.channel == c) (nat_le l.requests n) is).0 in
      ap (λ (b : Bool). lines_from_on (suc c) (if b then ls else l ∷ ls)) is ∙ sym (ap (λ (b : Bool). if b then lines_from_on (suc c) ls else l ∷ ls) (lt-ltb l.channel (suc c) (omega (arith, on))))
  | inr not ↦ ap (λ (b : Bool). lines_from_on (suc c) (if b then ls else l ∷ ls)) not
]

-- where the first one waits on another channel, none is due
waits_none : (c n : ℕ) (ls : List AtLine) → waits_first c ls ≡ false → first_due c n ls ≡ None
waits_none c n [] not = refl
waits_none c n (l ∷ ls) not = ap (λ (b : Bool). if b && nat_le l.requests n then Some l.act else None) not

due_none : (c : ℕ) (asked : Option ℕ) (ls : List AtLine) → waits_first c ls ≡ false → option_and_then (λ n. first_due c n ls) asked ≡ None
due_none c None ls not = refl
due_none c (Some n) ls not = waits_none c n ls not

-- ---- calls, one after the other

pub lines_then : (c : ℕ) (a b s : LinesStand) (xs ys : List FrontEntry) → LinesGo c a xs b → LinesGo c b ys s → LinesGo c a (xs ++ ys) s
lines_then c a b s [] ys goes more = subst (λ (x : LinesStand). LinesGo c x ys s) goes more
lines_then c a b s (x ∷ xs) ys (next, step, goes) more = (next, step, lines_then c next b s xs ys goes more)

-- no call
pub keeps_none : (c : ℕ) (lines : List AtLine) → KeepsToLines c None lines lines []
keeps_none c lines = λ s at. record { stand = s; goes = refl; left_are = at; due = tt }

pub keeps_then : (c : ℕ) (by : Option Ending) (lines mid left : List AtLine) (xs ys : List FrontEntry) → KeepsToLines c None lines mid xs → KeepsToLines c by mid left ys → KeepsToLines c by lines left (xs ++ ys)
keeps_then c by lines mid left xs ys one two = λ s at.
    let t = one s at in
    let u = two t.stand t.left_are in
    record { stand = u.stand; goes = lines_then c s t.stand u.stand xs ys t.goes u.goes; left_are = u.left_are; due = u.due }

-- where lines acted, up to an end
pub keeps_acted : (c : ℕ) (e : Ending) (lines left : List AtLine) (xs : List FrontEntry) → ActsAll c (Some e) lines left xs → KeepsToLines c (Some e) lines left xs
keeps_acted c e lines left xs acts = λ s at. (acts s at).0

-- the same ones are left for later channels
left_later : (c : ℕ) (by : Option Ending) (s : LinesStand) (left : List AtLine) → left_from c s ≡ lines_from_on c left → AreLeftFor c by s left
left_later c None s left at = at
left_later c (Some by) s left at = later_same c (suc c) s.left left (omega arith) at

start_due : (c : ℕ) (by : Option Ending) (s : LinesStand) → IsPlainEnd by → IsDueEnd c by s
start_due c None s plain = tt
start_due c (Some ending.Unread) s plain = tt
start_due c (Some ending.Unwritten) s plain = tt
start_due c (Some (ending.Fault at message why)) s plain = tt
start_due c (Some ending.Long) s plain = tt
start_due c (Some ending.Memory) s plain = tt
start_due c (Some ending.Dropped) s plain = absurd plain
start_due c (Some ending.Input) s plain = absurd plain

starts_step : (c : ℕ) (s new : LinesStand) (does : FrontCall) (back : FrontReply) → IsStart does → StartsWhere c s new → LinesStep c s does back new
starts_step c s new (call.Hear message) back is starts = starts
starts_step c s new call.Retry back is starts = starts
starts_step c s new (call.Begin channel) back is starts = absurd is
starts_step c s new (call.Next channel place room) back is starts = absurd is
starts_step c s new (call.Remove device) back is starts = absurd is
starts_step c s new (call.Add device) back is starts = absurd is
starts_step c s new call.Look back is starts = absurd is
starts_step c s new call.EndChannel back is starts = absurd is
starts_step c s new call.EndSession back is starts = absurd is

-- Nothing is to be done, and then a message is given to be heard, or a job tried again, or the input is at its end.
starts_to : (c : ℕ) (by : Option Ending) (s : LinesStand) (left : List AtLine) (ys : List FrontEntry) → NoneIsDue c s → left_from c s ≡ lines_from_on c left → IsPlainEnd by → StartsOnce by ys → LinesTo c by left s ys
starts_to c by s left [] none at plain starts = record { stand = s; goes = refl; left_are = left_later c by s left at; due = start_due c by s plain }
starts_to c by s left (e ∷ []) none at plain starts =
    let new : LinesStand = record s { looked = false; asked = None } in
    record { stand = new; goes = (new, starts_step c s new e.call e.reply (is_start by e plain starts) (none, refl), refl); left_are = left_later c by new left at; due = start_due c by new plain }
  where
    is_start : (b : Option Ending) (e : FrontEntry) → IsPlainEnd b → StartsOnce b (e ∷ []) → IsStart e.call
    is_start None e p is = is
    is_start (Some ending.Unread) e p is = is
    is_start (Some ending.Unwritten) e p is = is
    is_start (Some (ending.Fault at message why)) e p is = is
    is_start (Some ending.Long) e p is = is
    is_start (Some ending.Memory) e p is = is
    is_start (Some ending.Dropped) e p is = absurd p
    is_start (Some ending.Input) e p is = absurd p
starts_to c by s left (e ∷ (f ∷ fs)) none at plain starts = absurd (many by plain starts)
  where
    many : (b : Option Ending) → IsPlainEnd b → StartsOnce b (e ∷ (f ∷ fs)) → ⊥
    many None p is = is
    many (Some ending.Unread) p is = is
    many (Some ending.Unwritten) p is = is
    many (Some (ending.Fault at message why)) p is = is
    many (Some ending.Long) p is = is
    many (Some ending.Memory) p is = is
    many (Some ending.Dropped) p is = absurd p
    many (Some ending.Input) p is = absurd p

ends_to : (c : ℕ) (by : Option Ending) (s : LinesStand) (left : List AtLine) (ys : List FrontEntry) → NoneIsDue c s → left_from c s ≡ lines_from_on c left → StartsOnce by ys → LinesTo c by left s ys
ends_to c None s left ys none at starts = starts_to c None s left ys none at tt starts
ends_to c (Some ending.Unread) s left ys none at starts = starts_to c (Some ending.Unread) s left ys none at tt starts
ends_to c (Some ending.Unwritten) s left ys none at starts = starts_to c (Some ending.Unwritten) s left ys none at tt starts
ends_to c (Some (ending.Fault place message why)) s left ys none at starts = starts_to c (Some (ending.Fault place message why)) s left ys none at tt starts
ends_to c (Some ending.Long) s left ys none at starts = starts_to c (Some ending.Long) s left ys none at tt starts
ends_to c (Some ending.Memory) s left ys none at starts = starts_to c (Some ending.Memory) s left ys none at tt starts
ends_to c (Some ending.Dropped) s left ys none at starts = absurd starts
ends_to c (Some ending.Input) s left ys none at starts =
    subst (LinesTo c (Some ending.Input) left s) (sym starts) (record { stand = s; goes = refl; left_are = left_later c (Some ending.Input) s left at; due = none })

-- Lines acted, and then comes that.
pub keeps_started : (c : ℕ) (by : Option Ending) (lines left : List AtLine) (xs ys : List FrontEntry) → ActsAll c None lines left xs → StartsOnce by ys → KeepsToLines c by lines left (xs ++ ys)
keeps_started c by lines left xs ys acts starts = λ s at.
    let (t, none) = acts s at in
    let u = ends_to c by t.stand left ys (none refl) t.left_are starts in
    record { stand = u.stand; goes = lines_then c s t.stand u.stand xs ys t.goes u.goes; left_are = u.left_are; due = u.due }

-- ---- lines that act

-- none waits on the channel
pub acts_none : (c : ℕ) (lines left : List AtLine) → waits_first c (lines_from_on c lines) ≡ false → left ≡ lines_from_on c lines → ActsAll c None lines left []
acts_none c lines left not is = λ s at.
    let off : waits_first c (left_from c s) ≡ false = ap (waits_first c) at ∙ not in (
      record { stand = s; goes = refl; left_are = at ∙ sym (ap (lines_from_on c) is ∙ from_later c c lines (omega arith)); due = tt },
      λ _. record { looked = λ on. (let both : false ≡ true = sym off ∙ on in absurd (cc both)); none = due_none c s.asked (left_from c s) off },
    )

-- So many requests were heard, and lines act by these calls.
pub record IsActing (c n : ℕ) (lines left : List AtLine) (xs : List FrontEntry) (s : LinesStand) : Type 0 where
  pub stand : LinesStand
  pub goes : LinesGo c s xs stand
  pub left_are : left_from c stand ≡ lines_from_on c left
  pub looked : stand.looked ≡ true
  pub asked : stand.asked ≡ Some n

abbrev pub AreActing : (c n : ℕ) (lines left : List AtLine) (xs : List FrontEntry) → Type 0
AreActing c n lines left xs = (s : LinesStand) → left_from c s ≡ lines_from_on c lines → IsActing c n lines left xs s

looked_to : (c : ℕ) (s : LinesStand) (e : FrontEntry) (ready : Bool) (asked : ℕ) → e.call ≡ call.Look → e.reply ≡ reply.Stands ready asked → (r : Bool) → ready ≡ r
    → LinesGo c s (e ∷ []) (record s { looked = true; asked = if r then Some asked else None })
looked_to c s e ready asked does back r is =
    let new : LinesStand = record s { looked = true; asked = if r then Some asked else None } in (
      new,
      subst (λ (d : FrontCall). LinesStep c s d e.reply new) (sym does) (subst (λ (b : FrontReply). LinesStep c s call.Look b new) (sym back) (ap (λ (b : Bool). record s { looked = true; asked = if b then Some asked else None }) (sym is))),
      refl,
    )

-- it was looked up, and the opening isn't over
pub acts_early : (c : ℕ) (lines left : List AtLine) (e : FrontEntry) (ready : Bool) (asked : ℕ) → e.call ≡ call.Look → e.reply ≡ reply.Stands ready asked → ready ≡ false → left ≡ lines_from_on c lines → ActsAll c None lines left (e ∷ [])
acts_early c lines left e ready asked does back not is = λ s at. (
  record {
    stand = record s { looked = true; asked = None };
    goes = looked_to c s e ready asked does back false not;
    left_are = at ∙ sym (ap (lines_from_on c) is ∙ from_later c c lines (omega arith));
    due = tt;
  },
  λ _. record { looked = λ _. refl; none = refl },
)

-- it couldn't be looked up
pub acts_unseen : (c : ℕ) (lines left : List AtLine) (e : FrontEntry) → e.call ≡ call.Look → left ≡ lines_from_on c lines → ActsAll c (Some ending.Memory) lines left (e ∷ [])
acts_unseen c lines left e does is = λ s at. (looks s at e.reply refl, λ none. absurd (cc none))
  where
    here : (s : LinesStand) → left_from c s ≡ lines_from_on c lines → left_from c s ≡ lines_from_on c left
    here s at = at ∙ sym (ap (lines_from_on c) is ∙ from_later c c lines (omega arith))

    same : (s : LinesStand) → left_from c s ≡ lines_from_on c lines → LinesStep c s e.call e.reply s → LinesTo c (Some ending.Memory) left s (e ∷ [])
    same s at step = record { stand = s; goes = (s, step, refl); left_are = left_later c (Some ending.Memory) s left (here s at); due = tt }

    step_at : (s : LinesStand) (r : FrontReply) → e.reply ≡ r → LinesStep c s call.Look r s → LinesStep c s e.call e.reply s
    step_at s r back step = subst (λ (d : FrontCall). LinesStep c s d e.reply s) (sym does) (subst (λ (x : FrontReply). LinesStep c s call.Look x s) (sym back) step)

    looks : (s : LinesStand) → left_from c s ≡ lines_from_on c lines → (r : FrontReply) → e.reply ≡ r → LinesTo c (Some ending.Memory) left s (e ∷ [])
    looks s at (reply.Stands ready asked) back =
        let new : LinesStand = record s { looked = true; asked = if ready then Some asked else None } in
        record { stand = new; goes = looked_to c s e ready asked does back ready refl; left_are = left_later c (Some ending.Memory) new left (here s at); due = tt }
    looks s at (reply.Done at' full) back = same s at (step_at s (reply.Done at' full) back refl)
    looks s at reply.Kept back = same s at (step_at s reply.Kept back refl)
    looks s at (reply.Wrong wrong) back = same s at (step_at s (reply.Wrong wrong) back refl)
    looks s at (reply.Duplicate key) back = same s at (step_at s (reply.Duplicate key) back refl)
    looks s at reply.Unfit back = same s at (step_at s reply.Unfit back refl)
    looks s at reply.Memory back = same s at (step_at s reply.Memory back refl)
    looks s at reply.Full back = same s at (step_at s reply.Full back refl)
    looks s at reply.Refused back = same s at (step_at s reply.Refused back refl)
    looks s at (reply.Messages filled rest) back = same s at (step_at s (reply.Messages filled rest) back refl)

-- it is
pub acting_first : (c : ℕ) (lines left : List AtLine) (e : FrontEntry) (ready : Bool) (asked : ℕ) → e.call ≡ call.Look → e.reply ≡ reply.Stands ready asked → ready ≡ true → left ≡ lines_from_on c lines → AreActing c asked lines left (e ∷ [])
acting_first c lines left e ready asked does back over is = λ s at. record {
  stand = record s { looked = true; asked = Some asked };
  goes = looked_to c s e ready asked does back true over;
  left_are = at ∙ sym (ap (lines_from_on c) is ∙ from_later c c lines (omega arith));
  looked = refl;
  asked = refl;
}

-- no line is due any more
pub acts_over : (c n : ℕ) (lines mid left : List AtLine) (xs : List FrontEntry) → AreActing c n lines mid xs → first_due c n (lines_from_on c mid) ≡ None → left ≡ once_acted c n (lines_from_on c mid) → ActsAll c None lines left xs
acts_over c n lines mid left xs acting none is = λ s at.
    let t = acting s at in
    let due : due_now c t.stand ≡ None = ap (λ (o : Option ℕ). option_and_then (λ k. first_due c k (left_from c t.stand)) o) t.asked ∙ ap (first_due c n) t.left_are ∙ none in (
      record { stand = t.stand; goes = t.goes; left_are = t.left_are ∙ sym (ap (lines_from_on c) is ∙ same (lines_from_on c mid) none ∙ from_later c c mid (omega arith)); due = tt },
      λ _. record { looked = λ _. t.looked; none = due },
    )
  where
    same : (ls : List AtLine) → first_due c n ls ≡ None → lines_from_on c (once_acted c n ls) ≡ lines_from_on c ls
    same [] not = refl
    same (l ∷ ls) not = elim (cases_Bool (is_due_at c n l)) [
      | inl due ↦ (let both : Some l.act ≡ None = sym (ap (λ (b : Bool). if b then Some l.act else None) due) ∙ not in absurd (cc both))
      | inr off ↦ ap (λ (b : Bool). lines_from_on c (if b then ls else l ∷ ls)) off
    ]

-- a line is due, and acts by a call
module _ (c n : ℕ) (lines mid left : List AtLine) (xs : List FrontEntry) (acting : AreActing c n lines mid xs) (a : Act) (due : first_due c n (lines_from_on c mid) ≡ Some a) (left_is : left ≡ once_acted c n (lines_from_on c mid)) where
  due_at : (s : LinesStand) → (t : IsActing c n lines mid xs s) → due_now c t.stand ≡ Some a
  due_at s t = ap (λ (o : Option ℕ). option_and_then (λ k. first_due c k (left_from c t.stand)) o) t.asked ∙ ap (first_due c n) t.left_are ∙ due

  acted_at : (s : LinesStand) → (t : IsActing c n lines mid xs s) → (having_acted c t.stand).left ≡ left
  acted_at s t = ap (λ (o : Option ℕ). option_map_or (λ k. once_acted c k (left_from c t.stand)) o (t.stand).left) t.asked ∙ ap (once_acted c n) t.left_are ∙ sym left_is

  acts_step : (s : LinesStand) (e : FrontEntry) (does : FrontCall) → (t : IsActing c n lines mid xs s) → call_for a ≡ Some does → e.call ≡ does → (new : LinesStand) → new ≡ (if was_full e.reply then t.stand else having_acted c t.stand) → LinesGo c t.stand (e ∷ []) new
  acts_step s e does t calls is new new_is = (new, by a refl, refl)
    where
      by : (b : Act) → a ≡ b → LinesStep c t.stand e.call e.reply new
      by (act.Remove device) same =
          let it : Some (call.Remove device) ≡ Some does = sym (ap call_for same) ∙ calls in
          let does_is : call.Remove device ≡ e.call = cc it ∙ sym is in
          subst (λ (d : FrontCall). LinesStep c t.stand d e.reply new) does_is (subst (λ (o : Option Act). IsCallFor o (call.Remove device)) (sym (due_at s t ∙ ap Some same)) refl, new_is)
      by (act.Add device) same =
          let it : Some (call.Add device) ≡ Some does = sym (ap call_for same) ∙ calls in
          let does_is : call.Add device ≡ e.call = cc it ∙ sym is in
          subst (λ (d : FrontCall). LinesStep c t.stand d e.reply new) does_is (subst (λ (o : Option Act). IsCallFor o (call.Add device)) (sym (due_at s t ∙ ap Some same)) refl, new_is)
      by act.Drop same = let none : None ≡ Some does = sym (ap call_for same) ∙ calls in absurd (cc none)

  -- the same ones are left for later channels, whether it acted or not
  later_at : (s : LinesStand) → (t : IsActing c n lines mid xs s) → lines_from_on (suc c) (t.stand).left ≡ lines_from_on (suc c) left
  later_at s t = sym (ap (lines_from_on (suc c)) left_is ∙ acted_later c n (lines_from_on c mid) ∙ ap (lines_from_on (suc c)) (sym t.left_are) ∙ from_later c (suc c) (t.stand).left (omega arith))

  -- up to an end
  acts_end : (e : Ending) (ys : List FrontEntry) → DoesAct a (Some e) ys → (s : LinesStand) → left_from c s ≡ lines_from_on c lines → LinesTo c (Some e) left s (xs ++ ys)
  acts_end e ys does s at = with_call (call_for a) refl does
    where
      t : IsActing c n lines mid xs s
      t = acting s at

      drops : (b : Act) → a ≡ b → call_for b ≡ None → a ≡ act.Drop
      drops act.Drop same none = same
      drops (act.Remove device) same none = absurd (cc none)
      drops (act.Add device) same none = absurd (cc none)

      full_or_not : (full : Bool) → lines_from_on (suc c) (if full then t.stand else having_acted c t.stand).left ≡ lines_from_on (suc c) left
      full_or_not true = later_at s t
      full_or_not false = ap (lines_from_on (suc c)) (acted_at s t)

      with_call : (o : Option FrontCall) → call_for a ≡ o → ByCall o (Some e) ys → LinesTo c (Some e) left s (xs ++ ys)
      with_call None none (end, no_calls) =
          let e_is : ending.Dropped ≡ e = (let some_is : Some ending.Dropped ≡ Some e = sym end in cc some_is) in
          subst (λ (x : Ending). LinesTo c (Some x) left s (xs ++ ys)) e_is
          (record {
            stand = t.stand;
            goes = lines_then c s t.stand t.stand xs ys t.goes (subst (λ (l : List FrontEntry). LinesGo c t.stand l t.stand) (sym no_calls) refl);
            left_are = later_at s t;
            due = due_at s t ∙ ap Some (drops a refl none);
          })
      with_call (Some d) some one =
          let new : LinesStand = if was_full (one.call).reply then t.stand else having_acted c t.stand in
          record {
            stand = new;
            goes = lines_then c s t.stand new xs ys t.goes (subst (λ (l : List FrontEntry). LinesGo c t.stand l new) (sym one.calls_are) (acts_step s one.call d t some one.does_is new refl));
            left_are = full_or_not (was_full (one.call).reply);
            due = start_due c (Some e) new one.plain;
          }

  pub acts_up : (e : Ending) (ys : List FrontEntry) → DoesAct a (Some e) ys → ActsAll c (Some e) lines left (xs ++ ys)
  acts_up e ys does = λ s at. (acts_end e ys does s at, λ none. absurd (cc none))

  -- and on
  pub acts_on : (ys : List FrontEntry) → DoesAct a None ys → AreActing c n lines left (xs ++ ys)
  acts_on ys does = λ s at. with_call s (acting s at) (call_for a) refl does
    where
      with_call : (s : LinesStand) → (t : IsActing c n lines mid xs s) → (o : Option FrontCall) → call_for a ≡ o → ByCall o None ys → IsActing c n lines left (xs ++ ys) s
      with_call s t None none (end, no_calls) = absurd (cc end)
      with_call s t (Some d) some one =
          let new : LinesStand = having_acted c t.stand in
          let new_is : new ≡ (if was_full (one.call).reply then t.stand else having_acted c t.stand) = sym (ap (λ (b : Bool). if b then t.stand else having_acted c t.stand) (one.done refl)) in
          record {
            stand = new;
            goes = lines_then c s t.stand new xs ys t.goes (subst (λ (l : List FrontEntry). LinesGo c t.stand l new) (sym one.calls_are) (acts_step s one.call d t some one.does_is new new_is));
            left_are = ap (lines_from_on c) (acted_at s t);
            looked = t.looked;
            asked = t.asked;
          }
