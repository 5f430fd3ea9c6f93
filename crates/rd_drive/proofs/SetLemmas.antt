-- What is set of an open file: which class may be set, and the value that a buffer spells.
use Rattle.std.proofs.Common.{◌≡◌, ◌∙◌, refl, sym, ap, subst, ℕ, suc, ◌==◌, Bool, true, false, not, ◌||◌, cond, List, [], ◌∷◌, length, Option, Some, None, Result, Ok, Err, OnOk, IfErr, IsTrue, arith}
use Rattle.std.specs.Option.{option_map, unwrap_or, is_some}
use Rattle.std.proofs.lemmas.Bool.Decides.{nat_tests}
use Rattle.std.proofs.lemmas.Bool.{eqb-true, cond-false}
use Rattle.rd_base.specs.declared.bad.Bad.{Bad}
use Rattle.rd_base.specs.declared.bad.InfoNo.TheVariants as no
use Rattle.rd_base.specs.declared.status.Status.{Status}
use Rattle.rd_base.specs.Fields.{flag}
use Rattle.rd_base.specs.Layout.{Layout, IsSpelled, choose, done, ◌>>=◌}
use Rattle.rd_base.specs.Classes.{Choice, listed, unlisted, choice, choose_class, met_choice, with_info_no, is_listed, SpellsChoice, FirstFaultOfChoice, IsRefusal}
use Rattle.rd_base.proofs.LayoutLemmas.{meets}
use Rattle.rd_irp.specs.declared.completion.Reply.{Reply}
use Rattle.rd_dirinfo.specs.Paths.{Names, is_same_path}
use Rattle.rd_tree.specs.Places.{Place, Places, own_path, IsLive, IsWhole}
use Rattle.rd_tree.proofs.WayLemmas.{same_true}
use Rattle.rd_fileinfo.specs.declared.set_info.SetInfo.{SetInfo}
use Rattle.rd_fileinfo.specs.declared.set_info.SetInfo.TheVariants as set
use Rattle.rd_fileinfo.specs.SetInfo.{set_class, set_classes, basic_set, rename_set, disposition_set, allocation_set, end_of_file_set, SpellsSetInfo}
use Rattle.rd_drive.specs.declared.step.Step.TheVariants as step
use Rattle.rd_drive.specs.DriveState as drive
use Rattle.rd_drive.specs.DriveState.{DriveState, Node, is_folder_node}
use Rattle.rd_drive.specs.Access.{writes, deletes}
use Rattle.rd_drive.specs.Outcome.{Outcome, outcome_with_reply, fault, no_news, checked, given}
use Rattle.rd_drive.specs.SetFile.{set_checks, set_info_of, value_read}
use Rattle.rd_base.specs.Statuses.{invalid_info_class, access_denied, invalid_device_request}
use Rattle.rd_drive.specs.Kept.{set_gate, MaySet, MayNotSet}
use Rattle.rd_drive.proofs.CheckLemmas.{check_applies, check_passed, checks_done, given_some, given_none}

-- no refusal
abbrev pub granted : Result (Unit {0}) Status
granted = Ok tt

-- the root alone has no name
pub root_alone : (tree : Places) → IsWhole tree → (n : ℕ) → IsLive tree n → (length (own_path tree n) == 0) ≡ (n == 0)
root_alone tree whole n live = by (n == 0) refl
  where
    root : own_path tree 0 ≡ []
    root = ap (λ (o : Option Place). unwrap_or (option_map (λ (p : Place). p.path) o) []) whole.root

    no_names : (p : Names) → (length p == 0) ≡ true → p ≡ []
    no_names [] e = refl
    no_names (x ∷ xs) e = absurd (some_length (length xs) e)
      where
        some_length : (k : ℕ) → (suc k == 0) ≡ true → ⊥
        some_length k e = absurd (grind (arith, nat_tests))

    other : (n ≡ 0 → ⊥) → (b : Bool) → (length (own_path tree n) == 0) ≡ b → (length (own_path tree n) == 0) ≡ false
    other apart true e =
        let same : own_path tree n ≡ own_path tree 0 = no_names (own_path tree n) e ∙ sym root in
        absurd (apart (whole.apart n 0 live (ap is_some whole.root) (ap (λ (p : Names). is_same_path tree.naming p (own_path tree 0)) same ∙ same_true tree.naming (own_path tree 0) (own_path tree 0) refl)))
    other apart false e = e

    by : (b : Bool) → (n == 0) ≡ b → (length (own_path tree n) == 0) ≡ b
    by true e = ap (λ (k : ℕ). length (own_path tree k) == 0) (eqb-true n 0 e) ∙ ap (λ (p : Names). length p == 0) root
    by false e = other (λ is. absurd (let both : true ≡ false = sym (ap (λ (k : ℕ). k == 0) is) ∙ e in cc)) (length (own_path tree n) == 0) refl

-- ---- the checks of a class
module _ (s : DriveState) (handle : drive.Handle) (node : Node) (class : ℕ) where
  on : (checks : List (Bool × Reply)) → set_checks handle node class ≡ Some checks → (outcome : Outcome) → set_gate s handle node class outcome ≡ checked s checks outcome
  on checks e outcome = ap (λ (o : Option (List (Bool × Reply))). given s o invalid_info_class (λ cs. checked s cs outcome)) e ∙ given_some s checks invalid_info_class (λ cs. checked s cs outcome)

  -- a class that the call doesn't have
  pub gate_none : set_checks handle node class ≡ None → MayNotSet s handle node class invalid_info_class
  gate_none e outcome = ap (λ (o : Option (List (Bool × Reply))). given s o invalid_info_class (λ cs. checked s cs outcome)) e ∙ given_none s {X = List (Bool × Reply)} invalid_info_class (λ cs. checked s cs outcome)

  -- one with one check
  pub gate_one : (test : Bool) (status : Status) → set_checks handle node class ≡ Some ((test, fault status) ∷ []) → (r : Result (Unit {0}) Status) → r ≡ cond test (Err status) granted
      → OnOk r (MaySet s handle node class) × IfErr r (MayNotSet s handle node class)
  gate_one test status is r e = subst (λ (q : Result (Unit {0}) Status). OnOk q (MaySet s handle node class) × IfErr q (MayNotSet s handle node class)) (sym e) (by test refl)
    where
      by : (b : Bool) → test ≡ b → OnOk (cond b (Err status) granted) (MaySet s handle node class) × IfErr (cond b (Err status) granted) (MayNotSet s handle node class)
      by true t = (tt, λ outcome. on _ is outcome ∙ check_applies s (test, fault status) [] outcome t)
      by false t = (λ outcome. on _ is outcome ∙ check_passed s (test, fault status) [] outcome t ∙ checks_done s outcome, tt)

  -- one with two
  pub gate_two : (test other : Bool) (status second : Status) → set_checks handle node class ≡ Some ((test, fault status) ∷ (other, fault second) ∷ []) → (r : Result (Unit {0}) Status)
      → r ≡ cond test (Err status) (cond other (Err second) granted) → OnOk r (MaySet s handle node class) × IfErr r (MayNotSet s handle node class)
  gate_two test other status second is r e = subst (λ (q : Result (Unit {0}) Status). OnOk q (MaySet s handle node class) × IfErr q (MayNotSet s handle node class)) (sym e) (by test refl other refl)
    where
      by : (b : Bool) → test ≡ b → (d : Bool) → other ≡ d
          → OnOk (cond b (Err status) (cond d (Err second) granted)) (MaySet s handle node class) × IfErr (cond b (Err status) (cond d (Err second) granted)) (MayNotSet s handle node class)
      by true t d u = (tt, λ outcome. on _ is outcome ∙ check_applies s (test, fault status) ((other, fault second) ∷ []) outcome t)
      by false t true u = (tt, λ outcome. on _ is outcome ∙ check_passed s (test, fault status) ((other, fault second) ∷ []) outcome t ∙ check_applies s (other, fault second) [] outcome u)
      by false t false u = (λ outcome. on _ is outcome ∙ check_passed s (test, fault status) ((other, fault second) ∷ []) outcome t ∙ check_passed s (other, fault second) [] outcome u ∙ checks_done s outcome, tt)

  -- ---- what a class that may be set says of the node
  parked : Outcome
  parked = record { state = s; answer = step.Parked; news = no_news }

  not_parked : (reply : Reply) → outcome_with_reply s reply ≡ parked → ⊥
  unfolding parked
  not_parked reply e = let same : step.Reply reply ≡ step.Parked = ap (λ (o : Outcome). o.answer) e in absurd (cc)

  -- a first check doesn't apply
  passed : (test : Bool) (reply : Reply) (checks : List (Bool × Reply)) → set_checks handle node class ≡ Some ((test, reply) ∷ checks) → MaySet s handle node class → test ≡ false
  passed test reply checks is may = by test refl
    where
      by : (b : Bool) → test ≡ b → test ≡ false
      by true t = absurd (not_parked reply (sym (check_applies s (test, reply) checks parked t) ∙ sym (on _ is parked) ∙ may parked))
      by false t = t

module _ (s : DriveState) (handle : drive.Handle) (node : Node) where
  -- the bytes that may be set are a file's
  pub allocation_of_file : (class : ℕ) → class ≡ 0x13 → MaySet s handle node class → is_folder_node node ≡ false
  allocation_of_file class e may = passed s handle node class (is_folder_node node) (fault invalid_device_request) ((not (writes handle.access), fault access_denied) ∷ []) (ap (set_checks handle node) e) may

  pub end_of_file_of_file : (class : ℕ) → class ≡ 0x14 → MaySet s handle node class → is_folder_node node ≡ false
  end_of_file_of_file class e may = passed s handle node class (is_folder_node node) (fault invalid_device_request) ((not (writes handle.access), fault access_denied) ∷ []) (ap (set_checks handle node) e) may

  second_false : (a b : Bool) → (a || b) ≡ false → b ≡ false
  second_false true b e = absurd (cc)
  second_false false b e = e

  -- the node that may be renamed or marked isn't the root
  pub rename_of_other : (class : ℕ) → class ≡ 0x0a → MaySet s handle node class → (length node.path == 0) ≡ false
  rename_of_other class e may = second_false (not (deletes handle.access)) (length node.path == 0) (passed s handle node class (not (deletes handle.access) || length node.path == 0) (fault access_denied) [] (ap (set_checks handle node) e) may)

  pub mark_of_other : (class : ℕ) → class ≡ 0x0d → MaySet s handle node class → (length node.path == 0) ≡ false
  mark_of_other class e may = second_false (not (deletes handle.access)) (length node.path == 0) (passed s handle node class (not (deletes handle.access) || length node.path == 0) (fault access_denied) [] (ap (set_checks handle node) e) may)

pub no_checks : (handle : drive.Handle) (node : Node) (class : ℕ) → (class == 4) ≡ false → (class == 0x0a) ≡ false → (class == 0x0d) ≡ false → (class == 0x13) ≡ false → (class == 0x14) ≡ false → set_checks handle node class ≡ None
no_checks handle node class a b c d e = cond-false (class == 4) _ _ a ∙ cond-false (class == 0x0a) _ _ b ∙ cond-false (class == 0x0d) _ _ c ∙ cond-false (class == 0x13) _ _ d ∙ cond-false (class == 0x14) _ _ e

-- ---- the value of a buffer
pub info_spelled : (class : ℕ) (info : SetInfo) (tail : ℕ) (buffer : List ℕ) → SpellsSetInfo class info tail buffer → set_info_of class buffer ≡ Some info
info_spelled class info tail buffer s = by (choice set_classes class) s
  where
    by : (c : Choice SetInfo) → SpellsChoice c info tail buffer → value_read (met_choice c class (record { at = 0; left = buffer })) ≡ Some info
    by (listed l) t = ap (λ r. value_read (with_info_no r)) (meets l 0 buffer info tail t).1
    by unlisted t = absurd t

pub info_faulty : (class : ℕ) (buffer : List ℕ) (bad : Bad) → IsRefusal set_classes class buffer (no.Bad bad) → set_info_of class buffer ≡ None
info_faulty class buffer bad f = by (choice set_classes class) f
  where
    by : (c : Choice SetInfo) → FirstFaultOfChoice c buffer bad → value_read (met_choice c class (record { at = 0; left = buffer })) ≡ None
    by (listed l) t = ap (λ r. value_read (with_info_no r)) t
    by unlisted t = absurd t

pub info_unlisted : (class other : ℕ) (buffer : List ℕ) → IsRefusal set_classes class buffer (no.Class other) → set_info_of class buffer ≡ None
info_unlisted class other buffer f = by (choice set_classes class) f.1
  where
    by : (c : Choice SetInfo) → IsTrue (not (is_listed c)) → value_read (met_choice c class (record { at = 0; left = buffer })) ≡ None
    by (listed l) t = absurd (cc)
    by unlisted t = refl

-- ---- the class of a value
basic_class : (info : SetInfo) (field after : List ℕ) → IsSpelled basic_set info field after → set_class info ≡ 4
unfolding basic_set
basic_class info field after s = ap set_class s.5.5.0

rename_class : (info : SetInfo) (field after : List ℕ) → IsSpelled rename_set info field after → set_class info ≡ 0x0a
unfolding rename_set
rename_class info field after s = ap set_class s.5.5.5.5.0

disposition_class : (info : SetInfo) (field after : List ℕ) → IsSpelled disposition_set info field after → set_class info ≡ 0x0d
unfolding disposition_set
disposition_class info field after s = by (s.0 == 0) s.5
  where
    by : (b : Bool) → IsSpelled (choose b (done (set.Disposition true)) (flag >>= λ deletes. done (set.Disposition deletes))) info s.2 after → set_class info ≡ 0x0d
    by true t = ap set_class t.0
    by false t = ap set_class t.5.0

allocation_class : (info : SetInfo) (field after : List ℕ) → IsSpelled allocation_set info field after → set_class info ≡ 0x13
unfolding allocation_set
allocation_class info field after s = ap set_class s.5.0

end_of_file_class : (info : SetInfo) (field after : List ℕ) → IsSpelled end_of_file_set info field after → set_class info ≡ 0x14
unfolding end_of_file_set
end_of_file_class info field after s = ap set_class s.5.0

of_first : (number class : ℕ) (l : Layout SetInfo) (others : Choice SetInfo) (info : SetInfo) (tail : ℕ) (buffer : List ℕ) → ((field after : List ℕ) → IsSpelled l info field after → set_class info ≡ number)
    → (SpellsChoice others info tail buffer → class ≡ set_class info) → SpellsChoice (choose_class (class == number) (listed l) others) info tail buffer → class ≡ set_class info
of_first number class l others info tail buffer first rest = by (class == number) refl
  where
    by : (b : Bool) → (class == number) ≡ b → SpellsChoice (choose_class b (listed l) others) info tail buffer → class ≡ set_class info
    by true e t = eqb-true class number e ∙ sym (first t.0 t.1 t.4)
    by false e t = rest t

-- a value is spelled by its own class alone
pub class_of : (class : ℕ) (info : SetInfo) (tail : ℕ) (buffer : List ℕ) → SpellsSetInfo class info tail buffer → class ≡ set_class info
unfolding set_classes
class_of class info tail buffer =
    of_first 4 class basic_set _ info tail buffer (basic_class info)
    (of_first 0x0a class rename_set _ info tail buffer (rename_class info)
    (of_first 0x0d class disposition_set _ info tail buffer (disposition_class info)
    (of_first 0x13 class allocation_set _ info tail buffer (allocation_class info)
    (of_first 0x14 class end_of_file_set _ info tail buffer (end_of_file_class info) (λ t. absurd t)))))
