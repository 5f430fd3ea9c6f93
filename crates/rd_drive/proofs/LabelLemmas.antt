-- The label that a volume is given: the one that the buffer spells, and how many units it has at most.
use Rattle.std.proofs.Common.{◌≡◌, ◌∙◌, sym, ap, subst, ℕ, zero, suc, ◌+◌, ◌/◌, ◌≤◌, ◌==◌, Bool, true, false, not, cond, List, [], ◌∷◌, length, Option, Some, None, arith}
use Rattle.std.proofs.lemmas.List.Sums.{take_while-cons}
use Rattle.std.proofs.lemmas.Bool.{leb-true}
use Rattle.rd_base.specs.declared.bad.Bad.{Bad}
use Rattle.rd_base.specs.Layout.{IsSpelled}
use Rattle.rd_base.specs.Fields.{number16, times, path, before_zero}
use Rattle.rd_base.proofs.LayoutLemmas.{meets}
use Rattle.rd_irp.specs.declared.completion.Body.TheVariants.{Count}
use Rattle.rd_fileinfo.specs.Label.{label_set, SpellsLabel, FirstFaultOfLabel}
use Rattle.rd_drive.specs.declared.handle.Handle as open_file
use Rattle.rd_drive.specs.declared.store.Store.{Store}
use Rattle.rd_drive.specs.Outcome.{Outcome, refused, succeeded, no_news, given, on_handle}
use Rattle.rd_drive.specs.SetVolume.{label_class, label_of, label_read, set_volume}
use Rattle.rd_base.specs.Statuses.{invalid_info_class, invalid_parameter}
use Rattle.rd_drive.specs.Store.{handle_of, drive_of, kept_handle, IsSound}
use Rattle.rd_drive.specs.Kept.{own_node}
use Rattle.rd_drive.proofs.CheckLemmas.{check_applies, check_passed, checks_done, given_some, given_none}
use Rattle.rd_drive.proofs.KeptLemmas.{on_own}

-- ---- how long a path of some bytes is at most
so_many : (count : ℕ) (units field after : List ℕ) → IsSpelled (times count number16) units field after → length units ≡ count
so_many zero units field after s = ap (length {A = ℕ}) s.0
so_many (suc count) units field after s =
    let more = so_many count s.5.0 s.5.1 _ s.5.4 in
    let is : length units ≡ length s.5.0 + 1 = ap (length {A = ℕ}) s.5.5.0 ∙ cons_length s.0 s.5.0 in
    omega (arith, is, more)
  where
    cons_length : (x : ℕ) (xs : List ℕ) → length (x ∷ xs) ≡ length xs + 1
    cons_length x xs = omega arith

pub shorter : (units : List ℕ) → length (before_zero units) ≤ length units
shorter [] = omega arith
shorter (u ∷ us) = subst (λ (l : List ℕ). length l ≤ length (u ∷ us)) (sym (take_while-cons (λ v. not (v == 0)) u us)) (by (shorter us) (not (u == 0)))
  where
    by : length (before_zero us) ≤ length us → (b : Bool) → length (cond b (u ∷ before_zero us) []) ≤ length (u ∷ us)
    by later true = omega (arith, later)
    by later false = omega arith

path_length : (count : ℕ) (units field after : List ℕ) → IsSpelled (path count) units field after → length units ≤ count / 2
path_length count units field after s =
    let many = so_many (count / 2) s.0 s.4.0 s.4.1 s.4.4 in
    let cut : length units ≤ length s.0 = subst (λ (l : List ℕ). length l ≤ length s.0) (sym s.5.0) (shorter s.0) in
    omega (arith, many, cut)

label_short : (label field after : List ℕ) → IsSpelled label_set label field after → length label ≤ 32
unfolding label_set
label_short label field after s =
    let few : s.0 ≤ 64 = leb-true s.0 64 s.5.4.0 in
    let most = path_length s.0 label s.5.5.2 after s.5.5.5 in
    omega (arith, few, most)

pub label_limit : (label : List ℕ) (tail : ℕ) (buffer : List ℕ) → SpellsLabel label tail buffer → length label ≤ 32
label_limit label tail buffer s = label_short label s.0 s.1 s.4

-- ---- the label of a buffer
pub label_spelled : (label : List ℕ) (tail : ℕ) (buffer : List ℕ) → SpellsLabel label tail buffer → label_of buffer ≡ Some label
label_spelled label tail buffer s = ap label_read (meets label_set 0 buffer label tail s).1

pub label_faulty : (buffer : List ℕ) (bad : Bad) → FirstFaultOfLabel buffer bad → label_of buffer ≡ None
label_faulty buffer bad e = ap label_read e

module _ (s : Store) (sound : IsSound s) (file : ℕ) (h : open_file.Handle) (is : kept_handle s file ≡ Some h) (class : ℕ) (buffer : List ℕ) where
  abbrev pub comes : Outcome
  comes = on_handle (drive_of s) file (set_volume (drive_of s) class buffer)

  goes : comes ≡ set_volume (drive_of s) class buffer (handle_of s.tree h) (own_node s h.node.0)
  goes = on_own s sound file h is (set_volume (drive_of s) class buffer)

  pub label_refused : (class == label_class) ≡ false → comes ≡ refused (drive_of s) invalid_info_class
  label_refused other = goes ∙ check_applies (drive_of s) _ _ _ (ap not other)

  module _ (right : (class == label_class) ≡ true) where
    setting : Option (List ℕ) → Outcome
    setting o = given (drive_of s) o invalid_parameter (λ units. succeeded (record (drive_of s) { label = units }) (Count (length buffer)) no_news)

    on : comes ≡ setting (label_of buffer)
    unfolding setting
    on = goes ∙ check_passed (drive_of s) _ _ _ (ap not right) ∙ checks_done (drive_of s) _

    pub label_none : label_of buffer ≡ None → comes ≡ refused (drive_of s) invalid_parameter
    unfolding setting
    label_none e = on ∙ ap setting e ∙ given_none (drive_of s) {X = List ℕ} invalid_parameter _

    pub label_some : (label : List ℕ) → label_of buffer ≡ Some label → comes ≡ succeeded (drive_of (record s { label = label })) (Count (length buffer)) no_news
    unfolding setting
    label_some label e = on ∙ ap setting e ∙ given_some (drive_of s) label invalid_parameter _

-- the drive stays sound with a label that isn't too long
pub sound_label : (s : Store) → IsSound s → (label : List ℕ) → length label ≤ 32 → IsSound (record s { label = label })
sound_label s sound label short = record {
  whole = sound.whole;
  naming = sound.naming;
  label = short;
  states = sound.states;
  root = sound.root;
  fitting = sound.fitting;
  opened = sound.opened;
  uses = sound.uses;
  locked = sound.locked;
  waits = sound.waits;
  reserved = sound.reserved;
  few = sound.few;
  ids = sound.ids;
}
