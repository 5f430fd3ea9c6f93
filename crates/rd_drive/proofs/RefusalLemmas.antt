-- Why a node isn't given a path: the checks of the drive, and the tests of its tree.
use Rattle.std.proofs.Common.{◌≡◌, ◌∙◌, refl, sym, ap, ℕ, ◌⊎◌, inl, inr, Bool, true, false, not, ◌&&◌, ◌||◌, cond, List, [], ◌∷◌, ◌++◌, length, drop, subst, Option, Some, None, Err}
use Rattle.std.specs.List.{list_any}
use Rattle.std.specs.Option.{option_map, option_map_or, unwrap_or, is_some}
use Rattle.std.specs.Ordering.{nat_cmp, eq_by_cmp}
use Rattle.std.specs.FinMap as entries
use Rattle.std.proofs.lemmas.Bool.{false_from_ne_true, or_parts}
use Rattle.rd_base.specs.declared.status.Status.{Status}
use Rattle.rd_irp.specs.declared.completion.Reply.{Reply}
use Rattle.rd_dirinfo.specs.Paths.{Names, is_below, is_prefix, is_within_limits, parent}
use Rattle.rd_tree.specs.declared.refusal.MoveNo.{MoveNo}
use Rattle.rd_tree.specs.declared.refusal.MoveNo.TheVariants as move
use Rattle.rd_tree.specs.Places as places
use Rattle.rd_tree.specs.Places.{Place, Places, place, node_at, own_path, is_own, is_taken, move_refusal, IsLive, IsWhole}
use Rattle.rd_tree.proofs.RefuseLemmas.{move_is}
use Rattle.rd_drive.specs.declared.store.Store.{Store}
use Rattle.rd_drive.specs.DriveState as drive
use Rattle.rd_drive.specs.DriveState.{DriveState, Node}
use Rattle.rd_drive.specs.Outcome.{Outcome, checked, fault, refused}
use Rattle.rd_drive.specs.Rename.{is_protected}
use Rattle.rd_drive.specs.Rename as renaming
use Rattle.rd_drive.specs.Renaming.{move_status}
use Rattle.rd_base.specs.Statuses.{access_denied, invalid_parameter, no_memory, object_name_collision, object_name_invalid, object_path_not_found}
use Rattle.rd_drive.specs.Store.{drive_of, IsSound, Serves}
use Rattle.rd_drive.proofs.KeptLemmas.{lived}
use Rattle.rd_drive.proofs.ServesLemmas.{serves_no_memory, serves_refused}
use Rattle.rd_drive.proofs.TargetLemmas.{deep_at, folder_at, only_at}

-- ---- the tests alone: below the node, a folder above, too deep, something there, asked to replace it, and that it can't be

-- the refusal of the tree, by its tests
abbrev pub by_tests : Bool → Bool → Bool → Bool → Option MoveNo
by_tests below folder deep taken = cond below (Some move.Inside) (cond (not folder) (Some move.PathNotFound) (cond deep (Some move.TooDeep) (cond taken (Some move.Collision) None)))

-- the checks of the drive, by their tests
abbrev pub by_checks : Bool → Bool → Bool → Bool → Bool → Bool → List (Bool × Reply)
by_checks below folder deep there replace protected =
    (below, fault invalid_parameter)
    ∷ (not folder, fault object_path_not_found)
    ∷ (deep, fault object_name_invalid)
    ∷ (there && not replace, fault object_name_collision)
    ∷ (protected, fault access_denied)
    ∷ []

-- what isn't there isn't protected, and what is there is taken as it is
abbrev pub IsTaken : Bool → Bool → Bool → Bool → Type 0
IsTaken taken there replace protected = taken ≡ (there && (not replace || protected))

module _ (s : DriveState) (outcome : Outcome) where
  refuses : (why : MoveNo) (below folder deep taken there replace protected : Bool) → (there ≡ false → protected ≡ false) → IsTaken taken there replace protected → why ≡ unwrap_or (by_tests below folder deep taken) move.Memory
      → (checked s (by_checks below folder deep there replace protected) outcome ≡ refused s (move_status why replace)) ⊎ (move_status why replace ≡ no_memory)
  unfolding checked
  refuses why true folder deep taken there replace protected free is e = inl (ap (λ m. refused s (move_status m replace)) (sym e))
  refuses why false false deep taken there replace protected free is e = inl (ap (λ m. refused s (move_status m replace)) (sym e))
  refuses why false true true taken there replace protected free is e = inl (ap (λ m. refused s (move_status m replace)) (sym e))
  refuses why false true false true true false protected free is e = inl (ap (λ m. refused s (move_status m false)) (sym e))
  refuses why false true false true true true true free is e = inl (ap (λ m. refused s (move_status m true)) (sym e))
  refuses why false true false true true true false free is e = absurd (cc)
  refuses why false true false true false replace protected free is e = absurd (cc)
  refuses why false true false false there replace protected free is e = inr (ap (λ m. move_status m replace) e)

  -- where the tree doesn't refuse, no check applies
  record Passes (below folder deep there replace protected : Bool) : Type 0 where
    pub served : checked s (by_checks below folder deep there replace protected) outcome ≡ outcome
    pub outside : below ≡ false
    pub shallow : deep ≡ false
    pub replaced : there ≡ true → protected ≡ false

  passes : (below folder deep taken there replace protected : Bool) → (there ≡ false → protected ≡ false) → IsTaken taken there replace protected → by_tests below folder deep taken ≡ None → Passes below folder deep there replace protected
  unfolding checked
  passes true folder deep taken there replace protected free is e = absurd (cc)
  passes false false deep taken there replace protected free is e = absurd (cc)
  passes false true true taken there replace protected free is e = absurd (cc)
  passes false true false true there replace protected free is e = absurd (cc)
  passes false true false false true false protected free is e = absurd (cc)
  passes false true false false true true true free is e = absurd (cc)
  passes false true false false true true false free is e = record { served = refl; outside = refl; shallow = refl; replaced = λ t. refl }
  passes false true false false false replace true free is e = let clash : true ≡ false = free refl in absurd (cc)
  passes false true false false false replace false free is e = record { served = refl; outside = refl; shallow = refl; replaced = λ t. refl }

-- ---- what isn't too deep
none_deep : (q : Place → Bool) (k : ℕ) (x : Place) (l : List (ℕ × Place)) → list_any (λ (e : ℕ × Place). q e.1) l ≡ false → entries.find nat_cmp k l ≡ Some x → q x ≡ false
none_deep q k x [] none is = absurd (cc)
none_deep q k x (e ∷ l) none is = by (or_parts (q e.1) (list_any (λ (d : ℕ × Place). q d.1) l) none) (λ rest there. none_deep q k x l rest there) (eq_by_cmp nat_cmp k e.0) is
  where
    inside : (a b : Place) → Some a ≡ Some b → a ≡ b
    inside a b h = ap (λ o. unwrap_or o a) h

    by : (q e.1 ≡ false) × (list_any (λ (d : ℕ × Place). q d.1) l ≡ false) → (list_any (λ (d : ℕ × Place). q d.1) l ≡ false → entries.find nat_cmp k l ≡ Some x → q x ≡ false) → (b : Bool)
        → cond b (Some e.1) (entries.find nat_cmp k l) ≡ Some x → q x ≡ false
    by both later true h = ap q (sym (inside e.1 x h)) ∙ both.0
    by both later false h = later both.1 h

pub shallow_at : (tree : Places) (n : ℕ) (to : Names) → places.is_too_deep tree n to ≡ false → (k : ℕ) → IsLive tree k → is_prefix tree.naming (own_path tree n) (own_path tree k) ≡ true
    → is_within_limits (to ++ drop (length (own_path tree n)) (own_path tree k)) ≡ true
shallow_at tree n to none k live = by (lived tree k live)
  where
    both : (a b : Bool) → (a && not b) ≡ false → a ≡ true → b ≡ true
    both true true e f = refl
    both true false e f = absurd (cc)
    both false b e f = absurd (cc)

    by : (x : Place) × (place tree k ≡ Some x) → is_prefix tree.naming (own_path tree n) (own_path tree k) ≡ true → is_within_limits (to ++ drop (length (own_path tree n)) (own_path tree k)) ≡ true
    by x below =
        let own : own_path tree k ≡ x.0.path = ap (λ (o : Option Place). unwrap_or (option_map (λ (p : Place). p.path) o) []) x.1 in
        ap (λ (p : Names). is_within_limits (to ++ drop (length (own_path tree n)) p)) own
        ∙ both (is_prefix tree.naming (own_path tree n) x.0.path) (is_within_limits (to ++ drop (length (own_path tree n)) x.0.path))
        (none_deep (λ (p : Place). is_prefix tree.naming (own_path tree n) p.path && not (is_within_limits (to ++ drop (length (own_path tree n)) p.path))) k x.0 tree.list none x.1)
        (ap (is_prefix tree.naming (own_path tree n)) (sym own) ∙ below)

-- ---- the tests of a drive
module _ (s : Store) (sound : IsSound s) (n : ℕ) (live : IsLive s.tree n) (to : Names) (apart : node_at s.tree to ≡ Some n → ⊥) where
  abbrev below : Bool
  below = is_below s.tree.naming (own_path s.tree n) to

  abbrev folder : Bool
  folder = places.is_folder_at s.tree (parent to)

  abbrev deep : Bool
  deep = places.is_too_deep s.tree n to

  not_own : is_own s.tree n to ≡ false
  not_own = false_from_ne_true (is_own s.tree n to) (λ t. apart (only_at s.tree sound.whole n live to t))

  tests_are : (replaces : Bool) → move_refusal s.tree n to replaces ≡ by_tests below folder deep (is_taken s.tree to replaces)
  tests_are replaces = move_is s.tree n to replaces false below folder deep (is_taken s.tree to replaces) not_own refl refl refl refl

  checks_are : (there replace protected : Bool)
      → by_checks (is_below s.naming (own_path s.tree n) to) (drive.has_folder (drive_of s) (parent to)) (renaming.goes_too_deep (drive_of s) (own_path s.tree n) to) there replace protected ≡ by_checks below folder deep there replace protected
  checks_are there replace protected = λ i. by_checks (is_below (sym sound.naming i) (own_path s.tree n) to) (folder_at s sound (parent to) i) (deep_at s sound n to i) there replace protected

  module _ (target : Option Node) (replaces replace : Bool) (free : is_some target ≡ false → option_map_or (is_protected (drive_of s)) target false ≡ false)
      (taken : IsTaken (is_taken s.tree to replaces) (is_some target) replace (option_map_or (is_protected (drive_of s)) target false)) (outcome : Outcome) where
    abbrev checks : List (Bool × Reply)
    checks = by_checks (is_below s.naming (own_path s.tree n) to) (drive.has_folder (drive_of s) (parent to)) (renaming.goes_too_deep (drive_of s) (own_path s.tree n) to) (is_some target) replace (option_map_or (is_protected (drive_of s)) target false)

    -- the refusal of the tree is the drive's, or there is no memory
    pub refused_as : (why : MoveNo) → why ≡ unwrap_or (move_refusal s.tree n to replaces) move.Memory → (checked (drive_of s) checks outcome ≡ refused (drive_of s) (move_status why replace)) ⊎ (move_status why replace ≡ no_memory)
    refused_as why e = by (refuses (drive_of s) outcome why below folder deep (is_taken s.tree to replaces) (is_some target) replace (option_map_or (is_protected (drive_of s)) target false) free taken (e ∙ ap (λ (o : Option MoveNo). unwrap_or o move.Memory) (tests_are replaces)))
      where
        by : (checked (drive_of s) (by_checks below folder deep (is_some target) replace (option_map_or (is_protected (drive_of s)) target false)) outcome ≡ refused (drive_of s) (move_status why replace)) ⊎ (move_status why replace ≡ no_memory)
            → (checked (drive_of s) checks outcome ≡ refused (drive_of s) (move_status why replace)) ⊎ (move_status why replace ≡ no_memory)
        by (inl is) = inl (ap (λ (l : List (Bool × Reply)). checked (drive_of s) l outcome) (checks_are (is_some target) replace (option_map_or (is_protected (drive_of s)) target false)) ∙ is)
        by (inr memory) = inr memory

    -- what the tree moves the drive does too
    pub record Moves : Type 0 where
      pub served : checked (drive_of s) checks outcome ≡ outcome
      pub outside : is_below s.tree.naming (own_path s.tree n) to ≡ false
      pub shallow : places.is_too_deep s.tree n to ≡ false
      pub replaced : is_some target ≡ true → option_map_or (is_protected (drive_of s)) target false ≡ false

    pub moves_as : move_refusal s.tree n to replaces ≡ None → Moves
    moves_as e =
        let p = passes (drive_of s) outcome below folder deep (is_taken s.tree to replaces) (is_some target) replace (option_map_or (is_protected (drive_of s)) target false) free taken (sym (tests_are replaces) ∙ e) in
        record {
          served = ap (λ (l : List (Bool × Reply)). checked (drive_of s) l outcome) (checks_are (is_some target) replace (option_map_or (is_protected (drive_of s)) target false)) ∙ p.served;
          outside = p.outside;
          shallow = p.shallow;
          replaced = p.replaced;
        }

-- what a call leaves and returns that refuses, or finds no memory
pub serves_no : (s new : Store) → new ≡ s → IsSound s → (comes : Outcome) (status : Status) → (comes ≡ refused (drive_of s) status) ⊎ (status ≡ no_memory) → Serves s new comes (Err status)
serves_no s new same sound comes status (inl is) = serves_refused s new comes sound same status is
serves_no s new same sound comes status (inr memory) = subst (λ (st : Status). Serves s new comes (Err st)) (sym memory) (serves_no_memory s new comes sound same)
