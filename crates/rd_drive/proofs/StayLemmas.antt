-- What every operation keeps of a drive: it stays fitting, the numbers of its answer are in range, and where its request waits there was room for it.
use Rattle.std.proofs.Common.{◌≡◌, ◌∙◌, refl, sym, ap, subst, ℕ, ◌≤◌, ◌<◌, ◌^◌, ◌==◌, ◌&&◌, ◌||◌, Bool, true, false, cond, not, List, [], ◌∷◌, ◌++◌, take, drop, length, filter, map, Option, Some, None, lit<}
use Rattle.std.specs.Prelude.{nat_le}
use Rattle.std.specs.List.{AllByRecursion, list_any}
use Rattle.std.specs.Option.{option_map_or}
use Rattle.std.proofs.lemmas.Bool.{leb-false, or_parts, and_parts}
use Rattle.std.proofs.lemmas.List.{take-append-drop}
use Rattle.rd_base.specs.declared.journal.Key.{Key}
use Rattle.rd_base.specs.declared.status.Status.{Status}
use Rattle.rd_irp.specs.declared.op.Op.{Op}
use Rattle.rd_irp.specs.declared.op.Op.TheVariants as op
use Rattle.rd_irp.specs.declared.op.Range.{Range}
use Rattle.rd_irp.specs.declared.completion.Reply.{Reply}
use Rattle.rd_irp.specs.declared.completion.Body.{Body}
use Rattle.rd_irp.specs.Written.{IsBodyInRange}
use Rattle.rd_dirinfo.specs.declared.naming.Naming.{Naming}
use Rattle.rd_dirinfo.specs.Naming.{Name}
use Rattle.rd_dirinfo.specs.Paths.{Names, IsSamePath, is_prefix, is_same_path, is_within_limits, last_name, names_of, parent, path_fault, parsed_path, seen_path}
use Rattle.rd_dirinfo.proofs.PathLemmas.{path_is_within}
use Rattle.rd_fileinfo.specs.declared.set_info.SetInfo.{SetInfo}
use Rattle.rd_fileinfo.specs.declared.set_info.SetInfo.TheVariants as set
use Rattle.rd_tree.proofs.WayLemmas.{true_same}
use Rattle.rd_drive.specs.declared.asked.Asked.{Asked}
use Rattle.rd_drive.specs.declared.step.Step.TheVariants as step
use Rattle.rd_drive.specs.DriveState.{DriveState, Handle, Node, Wish, file_id_limit, handle_at, is_at_path, made_path, max_handles, max_waiting, node_of_path, node_path, with_node}
use Rattle.rd_drive.specs.Outcome.{Change, News, Outcome, checked, fault, given, no_news, on_handle, one_of, outcome_with_reply, refused, succeeded}
use Rattle.rd_drive.specs.Create.{create, found_information, is_full, open_or_make, replaces, supersede}
use Rattle.rd_drive.specs.Close.{close, without_file}
use Rattle.rd_drive.specs.ReadWrite.{read, write}
use Rattle.rd_drive.specs.SetFile.{checks_by_class, set_checks, set_end, set_file, set_info_of, set_outcome}
use Rattle.rd_drive.specs.SetVolume.{label_of, set_volume}
use Rattle.rd_drive.specs.Rename.{goes_too_deep, handles_go_too_deep, nodes_go_too_deep, relocate, rename_to, renamed, target_removed, with_moved, without_target}
use Rattle.rd_drive.specs.Locking.{conflicts, exclusive_lock, is_waiting_full, lock, locks_on, asked_locks, waits, without_locks}
use Rattle.rd_drive.specs.Notify.{notify}
use Rattle.rd_drive.specs.Query.{drive_info, node_info, query_file, query_volume}
use Rattle.rd_drive.specs.QueryDir.{lists, next_node, query_dir}
use Rattle.rd_drive.specs.DriveStep.{outcome_of}
use Rattle.rd_drive.specs.Changes.{renamed_from, renamed_to}
use Rattle.rd_drive.specs.Answered.{IsFitting}
use Rattle.rd_drive.specs.Ranged.{IsAnswerInRange, IsReplyInRange, SetsFew}
use Rattle.rd_drive.proofs.AboveLemmas.{path_joined}
use Rattle.rd_drive.proofs.AllLemmas.{all_append, all_both}
use Rattle.rd_drive.proofs.AnswerLemmas.{found_has, found_passes, lookup_has}
use Rattle.rd_drive.proofs.AskedLemmas.{seen_joined}
use Rattle.rd_drive.proofs.FittingLemmas.{all_add, order_all}
use Rattle.rd_drive.proofs.ShapeLemmas.{label_few}
use Rattle.rd_drive.proofs.TargetLemmas.{carried_limits, joined_at}

-- ---- paths and nodes within the limits

abbrev pub Within : Names → Type 0
Within path = is_within_limits path ≡ true

abbrev pub Fits : Node → Type 0
Fits node = is_within_limits node.path ≡ true

abbrev pub AllFit : List Node → Type 0
AllFit nodes = AllByRecursion Fits nodes

pub all_kept : {X : Type 0} (P : X → Type 0) (p : X → Bool) (l : List X) → AllByRecursion P l → AllByRecursion P (filter p l)
all_kept P p [] all = tt
all_kept P p (x ∷ xs) all = by (all_kept P p xs all.1) (p x)
  where
    by : AllByRecursion P (filter p xs) → (b : Bool) → AllByRecursion P (cond b (x ∷ filter p xs) (filter p xs))
    by later true = (all.0, later)
    by later false = later

all_mapped : {X Y : Type 0} (P : X → Type 0) (Q : Y → Type 0) (f : X → Y) (l : List X) → ((x : X) → P x → Q (f x)) → AllByRecursion P l → AllByRecursion Q (map f l)
all_mapped P Q f [] each all = tt
all_mapped P Q f (x ∷ xs) each all = (each x all.0, all_mapped P Q f xs each all.1)

put_fits : (s : DriveState) (node : Node) → Fits node → AllFit s.nodes → AllFit (with_node s node).nodes
put_fits s node own all = all_mapped Fits Fits _ s.nodes (λ other fits. by other fits (is_at_path s.naming node.path other)) all
  where
    by : (other : Node) → Fits other → (b : Bool) → Fits (cond b node other)
    by other fits true = own
    by other fits false = fits

found_fits : (s : DriveState) (path : Names) (node : Node) → node_of_path s path ≡ Some node → AllFit s.nodes → Fits node
found_fits s path node there all = found_has Fits (is_at_path s.naming path) s.nodes node there all

-- ---- asked paths

kept_alike : (s : DriveState) (p : Names) → IsSamePath s.naming (node_path s p) p
kept_alike s p = by (node_of_path s p) refl
  where
    by : (o : Option Node) → node_of_path s p ≡ o → IsSamePath s.naming (option_map_or (λ (node : Node). node.path) o p) p
    by None e = refl
    by (Some node) e = true_same s.naming node.path p (found_passes (is_at_path s.naming p) s.nodes node e)

joined_within : (p : Names) → Within p → Within (parent p ++ last_name p ∷ [])
joined_within [] fits = refl
joined_within (y ∷ ys) fits = ap is_within_limits (path_joined y ys) ∙ fits

asked_within : (s : DriveState) (p : Names) → Within p → Within (made_path s p)
asked_within s p fits = carried_limits s.naming (parent p) (node_path s (parent p)) (last_name p ∷ []) (kept_alike s (parent p)) ∙ joined_within p fits

asked_alike : (s : DriveState) (p : Names) → (p ≡ [] → ⊥) → IsSamePath s.naming (made_path s p) p
asked_alike s p some =
    seen_joined s.naming (node_path s (parent p)) (last_name p ∷ [])
    ∙ ap (λ (q : Names). q ++ seen_path s.naming (last_name p ∷ [])) (kept_alike s (parent p))
    ∙ sym (seen_joined s.naming (parent p) (last_name p ∷ []))
    ∙ ap (seen_path s.naming) (joined_at p some)

spelled_within : (units : List ℕ) (path : Names) → parsed_path units ≡ Some path → Within path
spelled_within units path e = by (path_fault units) refl e
  where
    by : (o : Option ℕ) → path_fault units ≡ o → elim o [ Some at ↦ None | None ↦ Some (names_of units) ] ≡ Some path → Within path
    by None f h = let same : names_of units ≡ path = cc in subst Within same (and_parts _ (is_within_limits (names_of units)) (path_is_within units f)).1
    by (Some at) f h = absurd cc

-- ---- moved nodes

Carried : Naming → Names → Names → Node → Type 0
Carried naming from to node = is_prefix naming from node.path ≡ true → Within (to ++ drop (length from) node.path)

moved_within : (s : DriveState) (from to : Names) → AllFit s.nodes → AllByRecursion (Carried s.naming from to) s.nodes → AllFit (with_moved s from to).nodes
unfolding Carried
moved_within s from to all carried =
    order_all s.naming Fits _ (all_mapped (λ (x : Node). Fits x × Carried s.naming from to x) Fits _ s.nodes (λ x both. by x both.0 both.1 (is_prefix s.naming from x.path) refl) (all_both Fits (Carried s.naming from to) _ s.nodes (λ x own deep. (own, deep)) all carried))
  where
    by : (x : Node) → Fits x → Carried s.naming from to x → (b : Bool) → is_prefix s.naming from x.path ≡ b → Within (cond b (to ++ drop (length from) x.path) x.path)
    by x own deep true e = deep e
    by x own deep false e = own

renamed_fits : (s : DriveState) (moment : ℕ) (node : Node) (to : Names) → Within to → AllFit s.nodes → AllByRecursion (Carried s.naming node.path to) s.nodes → AllFit (renamed s moment node to).nodes
renamed_fits s moment node to own all carried = put_fits (with_moved s node.path to) (record node { path = to; moments = record node.moments { change = moment } }) own (moved_within s node.path to all carried)

shallow : (naming : Naming) (from path : Names) (l : List Node)
    → list_any (λ (node : Node). is_prefix naming from node.path && not (is_within_limits (path ++ drop (length from) node.path))) l ≡ false → AllByRecursion (Carried naming from path) l
unfolding Carried
shallow naming from path [] none = tt
shallow naming from path (x ∷ xs) none =
    let both = or_parts _ (list_any (λ (node : Node). is_prefix naming from node.path && not (is_within_limits (path ++ drop (length from) node.path))) xs) none in
    (one (is_prefix naming from x.path) (is_within_limits (path ++ drop (length from) x.path)) both.0, shallow naming from path xs both.1)
  where
    one : (a b : Bool) → (a && not b) ≡ false → a ≡ true → b ≡ true
    one true true e h = refl
    one true false e h = absurd cc
    one false b e h = absurd cc

-- a path that is the same carries as far
carried_alike : (naming : Naming) (from path to : Names) → IsSamePath naming to path → (l : List Node) → AllByRecursion (Carried naming from path) l → AllByRecursion (Carried naming from to) l
unfolding Carried
carried_alike naming from path to same [] all = tt
carried_alike naming from path to same (x ∷ xs) all =
    ((λ t. carried_limits naming path to (drop (length from) x.path) same ∙ all.0 t), carried_alike naming from path to same xs all.1)

-- and so does the path itself, spelled in another way
carried_own : (naming : Naming) (from to : Names) → IsSamePath naming to from → (l : List Node) → AllFit l → AllByRecursion (Carried naming from to) l
unfolding Carried
carried_own naming from to same [] all = tt
carried_own naming from to same (x ∷ xs) all = (one, carried_own naming from to same xs all.1)
  where
    one : is_prefix naming from x.path ≡ true → Within (to ++ drop (length from) x.path)
    one t =
        let begins : IsSamePath naming from (take (length from) x.path) = true_same naming from (take (length from) x.path) (and_parts (nat_le (length from) (length x.path)) (is_same_path naming from (take (length from) x.path)) t).1 in
        carried_limits naming (take (length from) x.path) to (drop (length from) x.path) (same ∙ begins) ∙ ap is_within_limits (take-append-drop (length from) x.path) ∙ all.0

-- ---- what is kept

pub record Stays (s : DriveState) (o : Op) (outcome : Outcome) : Type 0 where
  pub fits : IsFitting s → IsFitting outcome.state × AllByRecursion (λ (change : Change). is_within_limits change.path ≡ true) outcome.news.changes
  pub ranged : SetsFew o → IsAnswerInRange outcome.answer
  pub quiet : outcome.answer ≡ step.Parked → (outcome.news ≡ no_news) × (length s.waiting < 64)

-- with the same label and the same nodes
pub same_fits : (s new : DriveState) → new.limited ≡ s.limited → new.label ≡ s.label → new.nodes ≡ s.nodes → IsFitting s → IsFitting new
same_fits s new limited label nodes fitting = record { limited = limited ∙ fitting.limited; label = subst (λ (l : List ℕ). length l ≤ 32) (sym label) fitting.label; paths = subst AllFit (sym nodes) fitting.paths }

module _ (s : DriveState) (o : Op) where
  nodes_fit : (new : DriveState) → new.limited ≡ s.limited → new.label ≡ s.label → (AllFit s.nodes → AllFit new.nodes) → IsFitting s → IsFitting new
  nodes_fit new limited label nodes fitting = record { limited = limited ∙ fitting.limited; label = subst (λ (l : List ℕ). length l ≤ 32) (sym label) fitting.label; paths = nodes fitting.paths }

  stays_answered : (reply : Reply) → IsReplyInRange reply → Stays s o (outcome_with_reply s reply)
  stays_answered reply range = record { fits = λ fitting. (fitting, tt); ranged = λ few. range; quiet = λ e. absurd cc }

  stays_done : (new : DriveState) (b : Body) (news : News) → (SetsFew o → IsBodyInRange b)
      → (IsFitting s → IsFitting new × AllByRecursion (λ (change : Change). is_within_limits change.path ≡ true) news.changes) → Stays s o (succeeded new b news)
  stays_done new b news range fits = record { fits = fits; ranged = λ few. (lit< tt, range few); quiet = λ e. absurd cc }

  -- nothing changes but what the drive's nodes and label aren't
  stays_told : (new : DriveState) (b : Body) (news : News) → (SetsFew o → IsBodyInRange b) → new.limited ≡ s.limited → new.label ≡ s.label → new.nodes ≡ s.nodes → news.changes ≡ [] → Stays s o (succeeded new b news)
  stays_told new b news range limited label nodes none =
      stays_done new b news range (λ fitting. (same_fits s new limited label nodes fitting, subst (AllByRecursion (λ (change : Change). is_within_limits change.path ≡ true)) (sym none) tt))

  stays_waiting : (key : Key) (file : ℕ) (wish : Wish) → length s.waiting < 64 → Stays s o (waits s key file wish)
  stays_waiting key file wish room = record { fits = λ fitting. (same_fits s _ refl refl refl fitting, tt); ranged = λ few. tt; quiet = λ e. (refl, room) }

  after : (checks : List (Bool × Reply)) → AllByRecursion (λ (check : Bool × Reply). IsReplyInRange check.1) checks → (outcome : Outcome)
      → (AllByRecursion (λ (check : Bool × Reply). check.0 ≡ false) checks → Stays s o outcome) → Stays s o (checked s checks outcome)
  unfolding checked
  after [] ranges outcome later = later tt
  after (check ∷ checks) ranges outcome later = by check.0 refl (λ e. after checks ranges.1 outcome (λ others. later (e, others)))
    where
      by : (b : Bool) → check.0 ≡ b → (check.0 ≡ false → Stays s o (checked s checks outcome)) → Stays s o (cond b (outcome_with_reply s check.1) (checked s checks outcome))
      by true e further = stays_answered check.1 ranges.0
      by false e further = further e

  either : (test : Bool) (one other : Outcome) → (test ≡ true → Stays s o one) → (test ≡ false → Stays s o other) → Stays s o (one_of test one other)
  unfolding one_of
  either true one other first second = first refl
  either false one other first second = second refl

  where_given : {X : Type 0} (x : Option X) (st : Status) (f : X → Outcome) → st.0 < 2 ^ 32 → ((y : X) → x ≡ Some y → Stays s o (f y)) → Stays s o (given s x st f)
  unfolding given
  where_given None st f range later = stays_answered (fault st) (range, tt)
  where_given (Some y) st f range later = later y refl

  on_any : (file : ℕ) (f : Handle → Node → Outcome) → ((handle : Handle) (node : Node) → node_of_path s handle.path ≡ Some node → Stays s o (f handle node)) → Stays s o (on_handle s file f)
  on_any file f later = where_given (handle_at s file) _ _ (lit< tt) (λ handle e. where_given (node_of_path s handle.path) _ _ (lit< tt) (λ node there. later handle node there))

-- ---- Create

full_id : (s : DriveState) → is_full s ≡ false → s.next < 2 ^ 32
full_id s e = leb-false file_id_limit s.next (or_parts (nat_le max_handles (length s.handles)) (nat_le file_id_limit s.next) e).1

module _ (s : DriveState) (o : Op) where
  create_stays : (units : List ℕ) (moment : ℕ) (asked : Asked) → Stays s o (create s moment asked units)
  create_stays units moment asked =
      after s o _ ((lit< tt, tt), tt) _ (λ passed.
      where_given s o (parsed_path units) _ _ (lit< tt) (λ names e.
      after s o _ ((lit< tt, tt), ((lit< tt, tt), tt)) _ (λ room. each names (spelled_within units names e) (full_id s room.0) (node_of_path s names) refl)))
    where
      information : found_information asked < 2 ^ 8
      information = by (asked.disposition == supersede) (replaces asked)
        where
          by : (a b : Bool) → cond a 0 (cond b 3 1) < 2 ^ 8
          by true b = lit< tt
          by false true = lit< tt
          by false false = lit< tt

      each : (names : Names) → Within names → s.next < 2 ^ 32 → (found : Option Node) → node_of_path s names ≡ found → Stays s o (open_or_make s asked moment names found)
      each names within room (Some node) there =
          after s o _ ((lit< tt, tt), ((lit< tt, tt), ((lit< tt, tt), ((lit< tt, tt), ((lit< tt, tt), ((lit< tt, tt), ((lit< tt, tt), tt))))))) _ (λ passed.
          either s o (replaces asked) _ _
          (λ t. stays_done s o _ _ _ (λ few. (room, information)) (λ fitting.
          let own = found_fits s names node there fitting.paths in (nodes_fit s o _ refl refl (put_fits s _ own) fitting, (own, tt))))
          (λ t. stays_done s o _ _ _ (λ few. (room, information)) (λ fitting. (same_fits s _ refl refl refl fitting, tt))))
      each names within room None there =
          after s o _ ((lit< tt, tt), ((lit< tt, tt), ((lit< tt, tt), tt))) _ (λ passed.
          stays_done s o _ _ _ (λ few. (room, lit< tt)) (λ fitting. (nodes_fit s o _ refl refl (all_add s.naming Fits _ s.nodes (asked_within s names within)) fitting, (asked_within s names within, tt))))

  -- ---- Close
  close_stays : (file : ℕ) (handle : Handle) (node : Node) → node_of_path s handle.path ≡ Some node → Stays s o (close s file handle node)
  close_stays file handle node there =
      either s o _ _ _ (λ t. either s o _ _ _
      (λ u. stays_done s o _ _ _ (λ few. tt) (λ fitting. (nodes_fit s o _ refl refl (put_fits (without_file s file) _ (found_fits s handle.path node there fitting.paths)) fitting, tt)))
      (λ u. stays_done s o _ _ _ (λ few. tt) (λ fitting. (nodes_fit s o _ refl refl (all_kept Fits _ s.nodes) fitting, (found_fits s handle.path node there fitting.paths, tt)))))
      (λ t. stays_done s o _ _ _ (λ few. tt) (λ fitting. (nodes_fit s o _ refl refl (put_fits (without_file s file) _ (found_fits s handle.path node there fitting.paths)) fitting, tt)))

  abbrev AreInRange : List (Bool × Reply) → Type 0
  AreInRange checks = AllByRecursion (λ (check : Bool × Reply). IsReplyInRange check.1) checks

  -- ---- Write, SetFile, SetVolume: a count that is in range
  module _ (count : ℕ) (low : SetsFew o → count < 2 ^ 32) where
    write_stays : (bytes : List ℕ) → length bytes ≡ count → (moment file offset : ℕ) (handle : Handle) (node : Node) → node_of_path s handle.path ≡ Some node → Stays s o (write s moment file offset bytes handle node)
    write_stays bytes same moment file offset handle node there =
        after s o _ ((lit< tt, tt), ((lit< tt, tt), ((lit< tt, lit< tt), ((lit< tt, tt), ((lit< tt, tt), tt))))) _ (λ passed.
        stays_done s o _ _ _ (λ few. subst (λ (n : ℕ). n < 2 ^ 32) (sym same) (low few)) (λ fitting.
        let own = found_fits s handle.path node there fitting.paths in (nodes_fit s o _ refl refl (put_fits s _ own) fitting, (own, tt))))

    set_end_stays : (moment : ℕ) (node : Node) → (AllFit s.nodes → Fits node) → (asked end : ℕ) → Stays s o (set_end s moment count node asked end)
    set_end_stays moment node own asked end =
        after s o _ ((lit< tt, tt), tt) _ (λ passed.
        stays_done s o _ _ _ low (λ fitting. (nodes_fit s o _ refl refl (put_fits s _ (own fitting.paths)) fitting, (own fitting.paths, tt))))

    left_fits : (target : Option Node) (from to : Names) → AllFit s.nodes → AllByRecursion (Carried s.naming from to) s.nodes → AllFit (without_target s target).nodes × AllByRecursion (Carried s.naming from to) (without_target s target).nodes
    left_fits None from to all carried = (all, carried)
    left_fits (Some target) from to all carried = (all_kept Fits _ s.nodes all, all_kept (Carried s.naming from to) _ s.nodes carried)

    target_fits : (target : Option Node) (path : Names) → node_of_path s path ≡ target → AllFit s.nodes → AllByRecursion (λ (change : Change). is_within_limits change.path ≡ true) (target_removed target)
    target_fits None path there all = tt
    target_fits (Some target) path there all = (found_fits s path target there all, tt)

    limited_left : (target : Option Node) → (without_target s target).limited ≡ s.limited
    limited_left None = refl
    limited_left (Some target) = refl

    label_left : (target : Option Node) → (without_target s target).label ≡ s.label
    label_left None = refl
    label_left (Some target) = refl

    naming_left : (target : Option Node) → (without_target s target).naming ≡ s.naming
    naming_left None = refl
    naming_left (Some target) = refl

    -- where the nodes are limited, a path that goes not too deep is tested of each node that moves
    limited_deep : IsFitting s → (from path : Names) → goes_too_deep s from path ≡ false → nodes_go_too_deep s from path ≡ false
    limited_deep fitting from path none =
        sym (ap (λ (b : Bool). cond b (nodes_go_too_deep s from path) (not (is_within_limits path) || handles_go_too_deep s from path)) fitting.limited) ∙ none

    relocate_stays : (moment : ℕ) (node : Node) → (AllFit s.nodes → Fits node) → (replace : Bool) (path : Names) → Within path → (length path == 0) ≡ false → (target : Option Node) → node_of_path s path ≡ target
        → Stays s o (relocate s moment count node replace path (made_path s path) target)
    relocate_stays moment node own replace path within some target there =
        after s o _ ((lit< tt, tt), ((lit< tt, tt), ((lit< tt, tt), ((lit< tt, tt), ((lit< tt, tt), tt))))) _ (λ passed.
        stays_done s o _ _ _ low (λ fitting. go fitting (left_fits target node.path to fitting.paths (carried_alike s.naming node.path path to (asked_alike s path some_names) s.nodes (shallow s.naming node.path path s.nodes (limited_deep fitting node.path path passed.1.1.0))))))
      where
        to : Names
        to = made_path s path

        some_names : path ≡ [] → ⊥
        some_names e = let none : (length path == 0) ≡ true = ap (λ (p : Names). length p == 0) e in absurd cc

        go : IsFitting s → AllFit (without_target s target).nodes × AllByRecursion (Carried s.naming node.path to) (without_target s target).nodes
            → IsFitting (renamed (without_target s target) moment node to) × AllByRecursion (λ (change : Change). is_within_limits change.path ≡ true) (target_removed target ++ renamed_from node.path node ∷ renamed_to to node ∷ [])
        go fitting both = (
          record {
            limited = limited_left target ∙ fitting.limited;
            label = subst (λ (l : List ℕ). length l ≤ 32) (sym (label_left target)) fitting.label;
            paths = renamed_fits (without_target s target) moment node to (asked_within s path within) both.0 (subst (λ (n : Naming). AllByRecursion (Carried n node.path to) (without_target s target).nodes) (sym (naming_left target)) both.1);
          },
          all_append _ (target_removed target) _ (target_fits target path there fitting.paths) (own fitting.paths, (asked_within s path within, tt)),
        )

    rename_stays : (moment : ℕ) (node : Node) → (AllFit s.nodes → Fits node) → (replace : Bool) (units : List ℕ) → Stays s o (rename_to s moment count node replace units)
    rename_stays moment node own replace units =
        where_given s o (parsed_path units) _ _ (lit< tt) (λ path e.
        after s o _ ((lit< tt, tt), tt) _ (λ passed.
        either s o _ _ _ (λ same. either s o _ _ _ (λ t. stays_told s o _ _ _ low refl refl refl refl)
        (λ t. stays_done s o _ _ _ low (λ fitting. (
          nodes_fit s o _ refl refl (λ all. renamed_fits s moment node (made_path s path) (asked_within s path (spelled_within units path e)) all (carried_own s.naming node.path (made_path s path) (alike path passed.0 same) s.nodes all)) fitting,
          (own fitting.paths, (asked_within s path (spelled_within units path e), tt)),
        ))))
        (λ t. relocate_stays moment node own replace path (spelled_within units path e) passed.0 (node_of_path s path) refl)))
      where
        alike : (path : Names) → (length path == 0) ≡ false → is_same_path s.naming path node.path ≡ true → IsSamePath s.naming (made_path s path) node.path
        alike path some same = asked_alike s path (λ e. let none : (length path == 0) ≡ true = ap (λ (p : Names). length p == 0) e in absurd cc) ∙ true_same s.naming path node.path same

    sets_stay : (moment : ℕ) (node : Node) → (AllFit s.nodes → Fits node) → (info : SetInfo) → Stays s o (set_outcome s moment count node info)
    sets_stay moment node own (set.Basic moments attributes) =
        stays_done s o _ _ _ low (λ fitting. (nodes_fit s o _ refl refl (put_fits s _ (own fitting.paths)) fitting, (own fitting.paths, tt)))
    sets_stay moment node own (set.Rename replace units) = rename_stays moment node own replace units
    sets_stay moment node own (set.Disposition pending) =
        after s o _ ((lit< tt, tt), ((lit< tt, tt), tt)) _ (λ passed. stays_done s o _ _ _ low (λ fitting. (nodes_fit s o _ refl refl (put_fits s _ (own fitting.paths)) fitting, tt)))
    sets_stay moment node own (set.Allocation size) = set_end_stays moment node own size _
    sets_stay moment node own (set.EndOfFile end) = set_end_stays moment node own end end

  set_file_stays : (class : ℕ) (buffer : List ℕ) → (SetsFew o → length buffer < 2 ^ 32) → (moment : ℕ) (handle : Handle) (node : Node) → node_of_path s handle.path ≡ Some node → Stays s o (set_file s moment class buffer handle node)
  set_file_stays class buffer low moment handle node there =
      where_given s o (set_checks handle node class) _ _ (lit< tt) (λ checks e.
      after s o checks (ranges checks e) _ (λ passed.
      where_given s o (set_info_of class buffer) _ _ (lit< tt) (λ info f. sets_stay (length buffer) low moment node (found_fits s handle.path node there) info)))
    where
      ranges : (checks : List (Bool × Reply)) → set_checks handle node class ≡ Some checks → AreInRange checks
      ranges checks e = lookup_has AreInRange (◌==◌ class) (checks_by_class handle node) checks e
          (((lit< tt, tt), tt), (((lit< tt, tt), tt), (((lit< tt, tt), tt), (((lit< tt, tt), ((lit< tt, tt), tt)), (((lit< tt, tt), ((lit< tt, tt), tt)), tt)))))

  set_volume_stays : (class : ℕ) (buffer : List ℕ) → (SetsFew o → length buffer < 2 ^ 32) → (handle : Handle) (node : Node) → Stays s o (set_volume s class buffer handle node)
  set_volume_stays class buffer low handle node =
      after s o _ ((lit< tt, tt), tt) _ (λ passed.
      where_given s o (label_of buffer) _ _ (lit< tt) (λ units e. stays_done s o _ _ _ low (λ fitting. (record { limited = fitting.limited; label = label_few buffer units e; paths = fitting.paths }, tt))))

  -- ---- what reads

  read_stays : (offset count file : ℕ) (handle : Handle) (node : Node) → Stays s o (read s file offset count handle node)
  read_stays offset count file handle node =
      after s o _ ((lit< tt, tt), ((lit< tt, tt), ((lit< tt, tt), ((lit< tt, tt), ((lit< tt, tt), tt))))) _ (λ passed. stays_told s o _ _ _ (λ few. tt) refl refl refl refl)

  query_file_stays : (class : ℕ) (handle : Handle) (node : Node) → Stays s o (query_file s class handle node)
  query_file_stays class handle node = where_given s o (node_info node class) _ _ (lit< tt) (λ info e. stays_told s o _ _ _ (λ few. tt) refl refl refl refl)

  query_volume_stays : (class : ℕ) (handle : Handle) (node : Node) → Stays s o (query_volume s class handle node)
  query_volume_stays class handle node = where_given s o (drive_info s class) _ _ (lit< tt) (λ info e. stays_told s o _ _ _ (λ few. tt) refl refl refl refl)

  query_dir_stays : (class : ℕ) (initial : Bool) (units : List ℕ) (file : ℕ) (handle : Handle) (node : Node) → Stays s o (query_dir s file class initial units handle node)
  query_dir_stays class initial units file handle node =
      after s o _ ((lit< tt, tt), ((lit< tt, tt), ((lit< tt, tt), tt))) _ (λ passed. of _ _ initial (next_node s node.path _ _))
    where
      of : (pattern : List ℕ) (last : Option Name) (anew : Bool) (found : Option Node) → Stays s o (lists s file class anew handle pattern last found)
      of pattern last true None = record { fits = λ fitting. (same_fits s _ refl refl refl fitting, tt); ranged = λ few. (lit< tt, tt); quiet = λ e. absurd cc }
      of pattern last false None = record { fits = λ fitting. (same_fits s _ refl refl refl fitting, tt); ranged = λ few. (lit< tt, tt); quiet = λ e. absurd cc }
      of pattern last anew (Some found) = stays_told s o _ _ _ (λ few. tt) refl refl refl refl

  -- ---- what waits

  room : is_waiting_full s ≡ false → length s.waiting < 64
  room e = leb-false max_waiting (length s.waiting) e

  notify_stays : (key : Key) (deep : Bool) (filter file : ℕ) (handle : Handle) (node : Node) → Stays s o (notify s key file deep filter handle node)
  notify_stays key deep filter file handle node = after s o _ ((lit< tt, tt), ((lit< tt, tt), tt)) _ (λ passed. stays_waiting s o key file _ (room passed.1.0))

  lock_stays : (key : Key) (operation : ℕ) (wait : Bool) (ranges : List Range) (file : ℕ) (handle : Handle) (node : Node) → Stays s o (lock s key file operation wait ranges handle node)
  lock_stays key operation wait ranges file handle node =
      after s o _ ((lit< tt, tt), ((lit< tt, tt), ((lit< tt, tt), tt))) _ (λ passed.
      either s o _ _ _
      (λ t. where_given s o (without_locks file s.locks ranges) _ _ (lit< tt) (λ locks e. stays_told s o _ _ _ (λ few. tt) refl refl refl refl))
      (λ t. after s o _ ((lit< tt, tt), ((lit< tt, tt), ((lit< tt, tt), tt))) _ (λ free.
      either s o (conflicts (locks_on s node.path) (asked_locks file (operation == exclusive_lock) ranges)) _ _
      (λ blocked. stays_waiting s o key file _ (room (unfull _ (is_waiting_full s) free.1.0 blocked)))
      (λ u. stays_told s o _ _ _ (λ few. tt) refl refl refl refl))))
    where
      unfull : (a b : Bool) → (a && b) ≡ false → a ≡ true → b ≡ false
      unfull true b e h = e
      unfull false b e h = absurd cc

  refused_stays : (st : Status) → st.0 < 2 ^ 32 → Stays s o (refused s st)
  refused_stays st low = stays_answered s o (fault st) (low, tt)

-- ---- all of them

pub outcome_stays : (s : DriveState) (key : Key) (file : ℕ) (o : Op) (moment : ℕ) → Stays s o (outcome_of s key file o moment)
outcome_stays s key file (op.Malformed major minor wrong) moment = refused_stays s _ _ (lit< tt)
outcome_stays s key file (op.Unknown major minor) moment = refused_stays s _ _ (lit< tt)
outcome_stays s key file (op.Create access allocation attributes share disposition options path) moment =
    create_stays s _ path moment (record { access = access; attributes = attributes; share = share; disposition = disposition; options = options })
outcome_stays s key file op.Close moment = on_any s _ file _ (λ handle node there. close_stays s _ file handle node there)
outcome_stays s key file (op.Read offset count) moment = on_any s _ file _ (λ handle node there. read_stays s _ offset count file handle node)
outcome_stays s key file (op.Write offset bytes) moment = on_any s _ file _ (λ handle node there. write_stays s _ (length bytes) (λ few. few) bytes refl moment file offset handle node there)
outcome_stays s key file (op.QueryFile class) moment = on_any s _ file _ (λ handle node there. query_file_stays s _ class handle node)
outcome_stays s key file (op.SetFile class buffer) moment = on_any s _ file _ (λ handle node there. set_file_stays s _ class buffer (λ few. few) moment handle node there)
outcome_stays s key file (op.QueryVolume class) moment = on_any s _ file _ (λ handle node there. query_volume_stays s _ class handle node)
outcome_stays s key file (op.SetVolume class buffer) moment = on_any s _ file _ (λ handle node there. set_volume_stays s _ class buffer (λ few. few) handle node)
outcome_stays s key file (op.QueryDir class initial path) moment = on_any s _ file _ (λ handle node there. query_dir_stays s _ class initial path file handle node)
outcome_stays s key file (op.Notify deep filter) moment = on_any s _ file _ (λ handle node there. notify_stays s _ key deep filter file handle node)
outcome_stays s key file (op.Control output code bytes) moment = on_any s _ file _ (λ handle node there. refused_stays s _ _ (lit< tt))
outcome_stays s key file (op.Lock operation wait ranges) moment = on_any s _ file _ (λ handle node there. lock_stays s _ key operation wait ranges file handle node)
