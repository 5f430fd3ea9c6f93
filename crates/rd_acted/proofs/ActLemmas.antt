-- What control lines do is a function of their acts.
use Rattle.std.proofs.Common.{◌≡◌, ◌∙◌, refl, sym, ap, ℕ, ◌+◌, Bool, true, false, List, [], ◌∷◌, ◌++◌, fold, reverse, Some, None, Option}
use Rattle.std.specs.Prelude.{filter_map, if◌then◌else◌, is_some}
use Rattle.std.specs.List.{AllByRecursion, cons_option}
use Rattle.std.specs.Option.{option_map_or}
use Rattle.rd_rest.proofs.ControlsNumbers.{picked_reverse, reverse_cons}
use Rattle.rd_rest.specs.ControlsControls.{control_with}
use Rattle.rd_printer.specs.declared.notice.Notice.{Notice}
use Rattle.rd_script.specs.declared.line.Line.{Line}
use Rattle.rd_script.specs.declared.line.Line.TheVariants as line
use Rattle.rd_script.specs.declared.line.NumberedLine.{NumberedLine}
use Rattle.rd_world.specs.Acts.{act_by, is_settle}
use Rattle.rd_world.specs.Session.{at_settles}
use Rattle.rd_world.specs.Control.{Act, Control, added, added_at, begun, connected, control_of, controlled, dropped_at, ended, first_control, idled, is_among, noticed, noticed_at, removed, removed_at, where_open}
use Rattle.rd_world.specs.Run.{notice_of}
use Rattle.rd_deeds.specs.Talk.{Deed}
use Rattle.rd_acted.specs.Acted.{with_act, control_after, control_by_deeds, no_control, without_idle}

fold_last : {A B : Type 0} (f : B → A → B) (b : B) (xs : List A) (x : A) → fold f b (xs ++ x ∷ []) ≡ f (fold f b xs) x
fold_last f b [] x = refl
fold_last f b (y ∷ xs) x = fold_last f (f b y) xs x

-- what these control lines did is that of their acts
abbrev pub IsByActs : List ℕ → Control → Type 0
IsByActs ids c = without_idle c ≡ control_after ids c.acts

one_act : (ids : List ℕ) (c d : Control) (a : Act) → d.acts ≡ c.acts ++ a ∷ [] → without_idle d ≡ with_act (without_idle c) a → IsByActs ids c → IsByActs ids d
one_act ids c d a acts same is = same ∙ ap (λ (k : Control). with_act k a) is ∙ sym (fold_last with_act (no_control ids) c.acts a) ∙ ap (λ (done : List Act). control_after ids done) (sym acts)

connects_by : (ids : List ℕ) (c : Control) → IsByActs ids c → IsByActs ids (connected c)
connects_by ids c is = one_act ids c (connected c) (begun (c.channels + 1)) refl refl is

drops_by : (ids : List ℕ) (c : Control) (channel : ℕ) → IsByActs ids c → IsByActs ids (dropped_at c channel)
drops_by ids c channel is = one_act ids c (dropped_at c channel) (ended channel) refl refl is

where_open_by : (ids : List ℕ) (c : Control) (number : ℕ) (on : ℕ → Control) → ((channel : ℕ) → c.current ≡ Some channel → IsByActs ids (on channel)) → IsByActs ids c → IsByActs ids (where_open c number on)
where_open_by ids c number on keeps is = by c.current refl
  where
    by : (o : Option ℕ) → c.current ≡ o → IsByActs ids (option_map_or on o (idled c number))
    by None e = is
    by (Some channel) e = keeps channel e

removes_by : (ids : List ℕ) (c : Control) (number device channel : ℕ) → c.current ≡ Some channel → IsByActs ids c
    → IsByActs ids (if is_among c.absent device then idled c number else removed_at c device channel)
removes_by ids c number device channel open_is is = by (is_among c.absent device)
  where
    by : (b : Bool) → IsByActs ids (if b then idled c number else removed_at c device channel)
    by true = is
    by false = one_act ids c (removed_at c device channel) (removed device) refl (rw open_is refl) is

adds_by : (ids : List ℕ) (c : Control) (number device channel : ℕ) → c.current ≡ Some channel → IsByActs ids c
    → IsByActs ids (if is_among c.absent device then added_at c device channel else idled c number)
adds_by ids c number device channel open_is is = by (is_among c.absent device)
  where
    by : (b : Bool) → IsByActs ids (if b then added_at c device channel else idled c number)
    by true = one_act ids c (added_at c device channel) (added device) refl (rw open_is refl) is
    by false = is

notices_by : (ids : List ℕ) (c : Control) (n : Notice) (channel : ℕ) → c.current ≡ Some channel → IsByActs ids c → IsByActs ids (noticed_at c n channel)
notices_by ids c n channel open_is is = one_act ids c (noticed_at c n channel) (noticed n) refl (rw open_is refl) is

line_by : (ids : List ℕ) (c : Control) (number : ℕ) (l : Line) → IsByActs ids c → IsByActs ids (controlled c number l)
unfolding controlled
line_by ids c number line.Connect is = by (is_some c.current)
  where
    by : (b : Bool) → IsByActs ids (if b then idled c number else connected c)
    by true = is
    by false = connects_by ids c is
line_by ids c number line.Drop is = where_open_by ids c number (dropped_at c) (λ channel open_is. drops_by ids c channel is) is
line_by ids c number (line.Remove device) is =
    where_open_by ids c number (λ channel. if is_among c.absent device then idled c number else removed_at c device channel) (λ channel open_is. removes_by ids c number device channel open_is is) is
line_by ids c number (line.Add device) is =
    where_open_by ids c number (λ channel. if is_among c.absent device then added_at c device channel else idled c number) (λ channel open_is. adds_by ids c number device channel open_is is) is
line_by ids c number l is = by (notice_of l)
  where
    by : (o : Option Notice) → IsByActs ids (option_map_or (λ n. where_open c number (noticed_at c n)) o c)
    by None = is
    by (Some n) = where_open_by ids c number (noticed_at c n) (λ channel open_is. notices_by ids c n channel open_is is) is

lines_by : (ids : List ℕ) (lines : List NumberedLine) (c : Control) → IsByActs ids c → IsByActs ids (fold (λ d (l : NumberedLine). controlled d l.number l.line) c lines)
lines_by ids [] c is = is
lines_by ids (l ∷ lines) c is = lines_by ids lines (controlled c l.number l.line) (line_by ids c l.number l.line is)

pub control_by_acts : (ids : List ℕ) (lines : List NumberedLine) (left : Option ℕ) → without_idle (control_with left (control_of ids lines)) ≡ control_after ids (control_with left (control_of ids lines)).acts
control_by_acts ids lines left = by left (lines_by ids lines (first_control ids) (connects_by ids (no_control ids) refl))
  where
    by : (o : Option ℕ) → IsByActs ids (control_of ids lines) → IsByActs ids (option_map_or (dropped_at (control_of ids lines)) o (control_of ids lines))
    by None is = is
    by (Some channel) is = drops_by ids (control_of ids lines) channel is

pub acts_by_deeds : (ids : List ℕ) (deeds : List Deed) → control_after ids (filter_map act_by (reverse deeds)) ≡ control_by_deeds ids deeds
acts_by_deeds ids deeds = ap (control_after ids) (picked_reverse act_by deeds) ∙ go deeds
  where
    go : (ds : List Deed) → control_after ids (reverse (filter_map act_by ds)) ≡ control_by_deeds ids ds
    go [] = refl
    go (x ∷ ds) = by (act_by x) (go ds)
      where
        by : (o : Option Act) → control_after ids (reverse (filter_map act_by ds)) ≡ control_by_deeds ids ds
            → control_after ids (reverse (cons_option o (filter_map act_by ds))) ≡ option_map_or (with_act (control_by_deeds ids ds)) o (control_by_deeds ids ds)
        by None rest = rest
        by (Some a) rest =
            ap (control_after ids) (reverse_cons a (filter_map act_by ds)) ∙ fold_last with_act (no_control ids) (reverse (filter_map act_by ds)) a ∙ ap (λ (c : Control). with_act c a) rest

-- ---- where lines settle

settled_by : (ids : List ℕ) (ls : List NumberedLine) (c : Control) → IsByActs ids c → AllByRecursion (IsByActs ids) (at_settles c ls)
settled_by ids [] c is = tt
settled_by ids (l ∷ ls) c is = by (is_settle l.line) (settled_by ids ls (controlled c l.number l.line) (line_by ids c l.number l.line is))
  where
    by : (b : Bool) → AllByRecursion (IsByActs ids) (at_settles (controlled c l.number l.line) ls) → AllByRecursion (IsByActs ids) ((if b then c ∷ [] else []) ++ at_settles (controlled c l.number l.line) ls)
    by true rest = (is, rest)
    by false rest = rest

pub settles_by_acts : (ids : List ℕ) (lines : List NumberedLine) → AllByRecursion (IsByActs ids) (at_settles (first_control ids) lines)
settles_by_acts ids lines = settled_by ids lines (first_control ids) (connects_by ids (no_control ids) refl)

pub lines_by_acts : (ids : List ℕ) (lines : List NumberedLine) → IsByActs ids (control_of ids lines)
lines_by_acts ids lines = lines_by ids lines (first_control ids) (connects_by ids (no_control ids) refl)
