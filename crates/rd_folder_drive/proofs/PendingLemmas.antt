-- What is open is marked to go, or the mark is taken away: the table stays sound, and the drive over it has the node with that mark.
use Rattle.std.proofs.Common.{◌≡◌, ◌∙◌, refl, sym, ap, subst, inl, inr, ℕ, ◌⊎◌, ◌==◌, Bool, true, false, not, ◌&&◌, ◌||◌, cond, List, [], ◌∷◌, length, map, Option, Some, None, Ok, Err}
use Rattle.std.specs.List.{list_any}
use Rattle.std.specs.List.Sorted.{IsStrictlySortedBy}
use Rattle.std.specs.Map.{keys_of, lookup, set_value}
use Rattle.std.specs.Option.{IsSome, option_map, option_map_or}
use Rattle.std.specs.Ordering.{nat_cmp}
use Rattle.std.specs.BTreeMap.{BTreeMap, is_at}
use Rattle.std.proofs.lemmas.Bool.{cases_Bool}
use Rattle.std.proofs.lemmas.Map.{keys-set_value}
use Rattle.std.proofs.lemmas.Option.{none-some, same_Some}
use Rattle.rd_base.specs.declared.status.Status.{Status}
use Rattle.rd_base.specs.Statuses.{access_denied, directory_not_empty}
use Rattle.rd_irp.specs.declared.completion.Body.TheVariants.{Count}
use Rattle.rd_dirinfo.specs.declared.naming.Naming.TheVariants.{Exact}
use Rattle.rd_dirinfo.specs.Paths.{Names, is_path, is_same_path}
use Rattle.rd_fileinfo.specs.declared.set_info.SetInfo.TheVariants as set
use Rattle.rd_drive.specs.Access.{has_any, is_readonly}
use Rattle.rd_drive.specs.DriveState as drive
use Rattle.rd_drive.specs.DriveState.{DriveState, Node, has_children, is_at_path, is_folder_node, with_node}
use Rattle.rd_drive.specs.Outcome.{Outcome, no_news, refused, succeeded}
use Rattle.rd_drive.proofs.CheckLemmas.{check_applies, check_passed, checks_done}
use Rattle.rd_drive.proofs.StoreLemmas.{is_equal}
use Rattle.rd_folder.specs.FolderCalls.{node_there}
use Rattle.rd_folder.specs.Told.{drive_over}
use Rattle.rd_folder.proofs.ExactLemmas.{exact_apart, exact_same, same_exact}
use Rattle.rd_folder.proofs.HasLemmas.{Has, find_has, one_at}
use Rattle.rd_folder_drive.specs.declared.handle.Handle as kept
use Rattle.rd_folder_drive.specs.declared.open.Open.{Open}
use Rattle.rd_folder_drive.specs.declared.table.Table.{Table}
use Rattle.rd_folder_drive.specs.declared.news.News as told_news
use Rattle.rd_folder_drive.specs.declared.table.Done.TheVariants as done
use Rattle.rd_folder_drive.specs.Served.{IsOver, Seen, Serves, nothing}
use Rattle.rd_folder_drive.specs.Setting.{MayBePending, MayNotGo, SetsPending, is_filled_folder, sets_of}
use Rattle.rd_folder_drive.specs.Table.{HasNodes, IsSound, drive_of, handle_of, is_pending_open, kept_handle, marked, open_at, path_at}
use Rattle.rd_folder_drive.proofs.AskLemmas.{calm_by}
use Rattle.rd_folder_drive.proofs.AskedLemmas.{children_marked, done_anew}
use Rattle.rd_folder_drive.proofs.ServeLemmas.{refused_by, refused_so}
use Rattle.rd_folder_drive.proofs.SetLemmas as set_lemma
use Rattle.rd_folder_drive.proofs.TableLemmas as table
use Rattle.rd_folder_drive.proofs.TableLemmas.{pending_seen}

-- ---- what may go

-- a folder is never read-only, and stays where something stands in it
pub folder_going : (nodes : List Node) (o : Open) (node other : Node) → node_there nodes o.path ≡ Some node → node_there nodes o.path ≡ Some other → is_folder_node node ≡ true → (some : Bool) → has_children (drive_over nodes) o.path ≡ some
    → (is_readonly other ≡ false) × (is_filled_folder nodes other ≡ some)
folder_going nodes o node other there at folder some full =
    let fold : is_folder_node other ≡ true = ap is_folder_node (same_Some other node (sym at ∙ there)) ∙ folder in
    let path : other.path ≡ o.path = same_exact other.path o.path (find_has (is_at_path Exact o.path) nodes other at).1 in
    (ap (λ (b : Bool). not b && has_any 1 other.attributes) fold, (λ i. fold i && has_children (drive_over nodes) (path i)) ∙ full)

-- ---- one of some entries gets another value

module _ {X : Type 0} (n : ℕ) (x w : X) where
  abbrev test : ℕ → Bool
  test = is_at (nat_cmp n)

  -- the value that a number has then, in place of the one that it had
  pub set_seen : (es : List (ℕ × X)) → lookup test es ≡ Some x → (m : ℕ) (v : X) → lookup (is_at (nat_cmp m)) (set_value test es w) ≡ Some v
      → ((m ≡ n) × (v ≡ w)) ⊎ (lookup (is_at (nat_cmp m)) es ≡ Some v)
  set_seen [] is m v there = absurd (none-some x is)
  set_seen (e ∷ es) is m v there = elim (cases_Bool (test e.0)) [
    | inl at ↦
        let found : cond (is_at (nat_cmp m) e.0) (Some w) (lookup (is_at (nat_cmp m)) es) ≡ Some v = sym (ap (λ (b : Bool). lookup (is_at (nat_cmp m)) (cond b ((e.0, w) ∷ es) (e ∷ set_value test es w))) at) ∙ there in
        elim (cases_Bool (is_at (nat_cmp m) e.0)) [
          | inl own ↦ inl (is_equal m e.0 own ∙ sym (is_equal n e.0 at), same_Some v w (sym found ∙ ap (λ (b : Bool). cond b (Some w) (lookup (is_at (nat_cmp m)) es)) own))
          | inr off ↦ inr (ap (λ (b : Bool). cond b (Some e.1) (lookup (is_at (nat_cmp m)) es)) off ∙ sym (ap (λ (b : Bool). cond b (Some w) (lookup (is_at (nat_cmp m)) es)) off) ∙ found)
        ]
    | inr off ↦
        let found : cond (is_at (nat_cmp m) e.0) (Some e.1) (lookup (is_at (nat_cmp m)) (set_value test es w)) ≡ Some v = sym (ap (λ (b : Bool). lookup (is_at (nat_cmp m)) (cond b ((e.0, w) ∷ es) (e ∷ set_value test es w))) off) ∙ there in
        let rest : lookup test es ≡ Some x = sym (ap (λ (b : Bool). cond b (Some e.1) (lookup test es)) off) ∙ is in
        elim (cases_Bool (is_at (nat_cmp m) e.0)) [
          | inl own ↦ inr (ap (λ (b : Bool). cond b (Some e.1) (lookup (is_at (nat_cmp m)) es)) own ∙ sym (ap (λ (b : Bool). cond b (Some e.1) (lookup (is_at (nat_cmp m)) (set_value test es w))) own) ∙ found)
          | inr other ↦
              let later : ((m ≡ n) × (v ≡ w)) ⊎ (lookup (is_at (nat_cmp m)) es ≡ Some v) = set_seen es rest m v (sym (ap (λ (b : Bool). cond b (Some e.1) (lookup (is_at (nat_cmp m)) (set_value test es w))) other) ∙ found) in
              elim later [
                | inl both ↦ inl both
                | inr was ↦ inr (ap (λ (b : Bool). cond b (Some e.1) (lookup (is_at (nat_cmp m)) es)) other ∙ was)
              ]
        ]
  ]

  -- what doesn't tell the two values apart sees the same
  pub same_seen : {Y : Type 0} (g : X → Y) → g w ≡ g x → (q : ℕ → Bool) (es : List (ℕ × X)) → lookup test es ≡ Some x → option_map g (lookup q (set_value test es w)) ≡ option_map g (lookup q es)
  same_seen g same q [] is = absurd (none-some x is)
  same_seen g same q (e ∷ es) is = by (λ there. same_seen g same q es there) (test e.0) is
    where
      here : e.1 ≡ x → (b : Bool) → option_map g (cond b (Some w) (lookup q es)) ≡ option_map g (cond b (Some e.1) (lookup q es))
      here one true = ap (λ y. Some y) (same ∙ sym (ap g one))
      here one false = refl

      rest : option_map g (lookup q (set_value test es w)) ≡ option_map g (lookup q es) → (b : Bool) → option_map g (cond b (Some e.1) (lookup q (set_value test es w))) ≡ option_map g (cond b (Some e.1) (lookup q es))
      rest later true = refl
      rest later false = later

      by : (lookup test es ≡ Some x → option_map g (lookup q (set_value test es w)) ≡ option_map g (lookup q es)) → (b : Bool) → cond b (Some e.1) (lookup test es) ≡ Some x
          → option_map g (lookup q (cond b ((e.0, w) ∷ es) (e ∷ set_value test es w))) ≡ option_map g (cond (q e.0) (Some e.1) (lookup q es))
      by later true one = here (same_Some e.1 x one) (q e.0)
      by later false there = rest (later there) (q e.0)

  -- nor does a test of the entries, then
  pub same_any : (q : ℕ × X → Bool) → ((m : ℕ) → q (m, w) ≡ q (m, x)) → (es : List (ℕ × X)) → lookup test es ≡ Some x → list_any q (set_value test es w) ≡ list_any q es
  same_any q same [] is = absurd (none-some x is)
  same_any q same (e ∷ es) is = by (λ there. same_any q same es there) (test e.0) is
    where
      by : (lookup test es ≡ Some x → list_any q (set_value test es w) ≡ list_any q es) → (b : Bool) → cond b (Some e.1) (lookup test es) ≡ Some x → list_any q (cond b ((e.0, w) ∷ es) (e ∷ set_value test es w)) ≡ (q e || list_any q es)
      by later true one = ap (λ b. b || list_any q es) (same e.0 ∙ ap (λ (y : X). q (e.0, y)) (sym (same_Some e.1 x one)))
      by later false there = ap (λ b. q e || b) (later there)

  -- the number has the value then
  pub set_there : (es : List (ℕ × X)) → lookup test es ≡ Some x → lookup test (set_value test es w) ≡ Some w
  set_there [] is = absurd (none-some x is)
  set_there (e ∷ es) is = by (λ there. set_there es there) (test e.0) refl is
    where
      by : (lookup test es ≡ Some x → lookup test (set_value test es w) ≡ Some w) → (b : Bool) → test e.0 ≡ b → cond b (Some e.1) (lookup test es) ≡ Some x → lookup test (cond b ((e.0, w) ∷ es) (e ∷ set_value test es w)) ≡ Some w
      by later true at one = ap (λ (b : Bool). cond b (Some w) (lookup test es)) at
      by later false off there = ap (λ (b : Bool). cond b (Some e.1) (lookup test (set_value test es w))) off ∙ later there

-- ---- the table with the mark

module _ (t : Table) (sound : IsSound t) (n : ℕ) (o : Open) (on : open_at t n ≡ Some o) (below : (length o.path == 0) ≡ false) (pending : Bool) (opens : BTreeMap ℕ Open) (sets_of : opens.entries ≡ set_value (is_at (nat_cmp n)) t.opens.entries (record o { pending = pending })) where
  abbrev pub now : Open
  now = record o { pending = pending }

  abbrev pub with_mark : Table
  with_mark = record t { opens = opens }

  -- what is open then was open, and is the same but for the mark
  was : (m : ℕ) (p : Open) → open_at with_mark m ≡ Some p → (q : Open) × (open_at t m ≡ Some q) × ((q ≡ p) ⊎ ((q ≡ o) × (p ≡ now)))
  was m p there = elim (set_seen n o now t.opens.entries on m p (ap (lookup (is_at (nat_cmp m))) (sym sets_of) ∙ there)) [
    | inl both ↦ (o, ap (open_at t) both.0 ∙ on, inr (refl, both.1))
    | inr same ↦ (p, same, inl refl)
  ]

  alike : {Y : Type 0} (g : Open → Y) → g now ≡ g o → (m : ℕ) (p : Open) (there : open_at with_mark m ≡ Some p) → g (was m p there).0 ≡ g p
  alike g same m p there = elim (was m p there).2 [
    | inl one ↦ ap g one
    | inr both ↦ ap g both.0 ∙ sym same ∙ sym (ap g both.1)
  ]

  seen_so : {Y : Type 0} (g : Open → Y) → g now ≡ g o → (m : ℕ) → option_map g (open_at with_mark m) ≡ option_map g (open_at t m)
  seen_so g same m = ap (λ (es : List (ℕ × Open)). option_map g (lookup (is_at (nat_cmp m)) es)) sets_of ∙ same_seen n o now g same (is_at (nat_cmp m)) t.opens.entries on

  pub path_so : (m : ℕ) → path_at with_mark m ≡ path_at t m
  path_so m = by (open_at with_mark m) (open_at t m) (seen_so (λ (p : Open). p.path) refl m)
    where
      by : (a b : Option Open) → option_map (λ (p : Open). p.path) a ≡ option_map (λ (p : Open). p.path) b → option_map_or (λ (p : Open). p.path) a [] ≡ option_map_or (λ (p : Open). p.path) b []
      by None None e = refl
      by None (Some p) e = absurd (cc)
      by (Some p) None e = absurd (cc)
      by (Some p) (Some q) e = same_Some p.path q.path e

  on_so : (m : ℕ) → IsSome (open_at t m) → IsSome (open_at with_mark m)
  on_so m = by (open_at with_mark m) (open_at t m) (seen_so (λ (p : Open). p.path) refl m)
    where
      by : (a b : Option Open) → option_map (λ (p : Open). p.path) a ≡ option_map (λ (p : Open). p.path) b → IsSome b → IsSome a
      by None None e some = some
      by None (Some p) e some = absurd (cc)
      by (Some p) b e some = refl

  no_root : o.path ≡ [] → ⊥
  no_root e = absurd (let clash : true ≡ false = sym (ap (λ (p : Names). length p == 0) e) ∙ below in cc)

  pub sound_marked : IsSound with_mark
  sound_marked = record {
    label = sound.label;
    rising = (subst (λ (ks : List ℕ). IsStrictlySortedBy nat_cmp ks) (sym (ap keys_of sets_of ∙ keys-set_value (is_at (nat_cmp n)) t.opens.entries now)) sound.rising.0, sound.rising.1);
    handles = λ file h is. let old = sound.handles file h is in record { on = on_so h.node old.on; before = old.before; root = λ e. old.root (sym (path_so h.node) ∙ e) };
    opened = λ m p there.
        let q = was m p there in
        let old = sound.opened m q.0 q.1 in
        record {
          path = ap (λ (names : Names). is_path names) (sym (alike (λ (x : Open). x.path) refl m p there)) ∙ old.path;
          root = λ e. elim q.2 [
            | inl one ↦ ap (λ (x : Open). x.pending) (sym one) ∙ old.root (ap (λ (x : Open). x.path) one ∙ e)
            | inr both ↦ absurd (no_root (sym (ap (λ (x : Open). x.path) both.1) ∙ e))
          ];
          used = old.used;
          uses = sym (alike (λ (x : Open). x.uses) refl m p there) ∙ old.uses;
          before = old.before;
        };
    apart = λ m k p q there other e.
        sound.apart m k (was m p there).0 (was k q other).0 (was m p there).1 (was k q other).1 (alike (λ (x : Open). x.path) refl m p there ∙ e ∙ sym (alike (λ (x : Open). x.path) refl k q other));
    locked = sound.locked;
    waits = sound.waits;
    reserved = sound.reserved;
    few = sound.few;
    ids = sound.ids;
  }

  module _ (nodes : List Node) (holds : HasNodes t nodes) where
    pub holds_marked : HasNodes with_mark nodes
    holds_marked = record {
      map = holds.map;
      there = λ m p there.
          let q = was m p there in
          let old = holds.there m q.0 q.1 in
          (old.0, ap (node_there nodes) (sym (alike (λ (x : Open). x.path) refl m p there)) ∙ old.1, old.2 ∙ alike (λ (x : Open). x.folder) refl m p there);
    }

    module _ (node : Node) (there : node_there nodes o.path ≡ Some node) where
      found : Has nodes node × (is_at_path Exact o.path node ≡ true)
      found = find_has (is_at_path Exact o.path) nodes node there

      node_path : node.path ≡ o.path
      node_path = same_exact node.path o.path found.1

      abbrev pub marked_node : Node
      marked_node = record (marked t.opens.entries node) { pending = pending }

      own_mark : marked_node ≡ marked opens.entries node
      own_mark = λ i. record node {
        pending = sym (ap (λ (p : Names). list_any (is_pending_open p) opens.entries) node_path ∙ pending_seen with_mark sound_marked n now (ap (lookup (is_at (nat_cmp n))) sets_of ∙ set_there n o now t.opens.entries on)) i;
      }

      other_mark : (x : Node) → (o.path ≡ x.path → ⊥) → marked t.opens.entries x ≡ marked opens.entries x
      other_mark x apart = λ i. record x {
        pending = sym (ap (list_any (is_pending_open x.path)) sets_of ∙ same_any n o now (is_pending_open x.path) (λ m. no_mark pending (is_same_path Exact o.path x.path) (exact_apart o.path x.path apart) ∙ sym (no_mark o.pending (is_same_path Exact o.path x.path) (exact_apart o.path x.path apart))) t.opens.entries on) i;
      }
        where
          no_mark : (b c : Bool) → c ≡ false → (b && c) ≡ false
          no_mark true c e = e
          no_mark false c e = refl

      each : (x : Node) → Has nodes x → cond (is_at_path Exact node.path (marked t.opens.entries x)) marked_node (marked t.opens.entries x) ≡ marked opens.entries x
      each x has = elim (cases_Bool (is_at_path Exact node.path x)) [
        | inl at ↦ ap (λ (b : Bool). cond b marked_node (marked t.opens.entries x)) at ∙ own_mark ∙ ap (marked opens.entries) (sym (one_at nodes holds.map.rises x node has found.0 (same_exact x.path node.path at)))
        | inr off ↦ ap (λ (b : Bool). cond b marked_node (marked t.opens.entries x)) off ∙ other_mark x (λ e. absurd (let clash : true ≡ false = sym (exact_same x.path node.path (sym e ∙ sym node_path)) ∙ off in cc))
      ]

      all_marked : (l : List Node) → ((x : Node) → Has l x → Has nodes x) → map (λ (other : Node). cond (is_at_path Exact node.path other) marked_node other) (map (marked t.opens.entries) l) ≡ map (marked opens.entries) l
      all_marked [] within = refl
      all_marked (x ∷ xs) within = λ i. each x (within x (inl refl)) i ∷ all_marked xs (λ y has. within y (inr has)) i

      handles_same : (es : List (ℕ × kept.Handle)) → map {B = ℕ × drive.Handle} (λ (e : ℕ × kept.Handle). (e.0, handle_of with_mark e.1)) es ≡ map {B = ℕ × drive.Handle} (λ (e : ℕ × kept.Handle). (e.0, handle_of t e.1)) es
      handles_same [] = refl
      handles_same (e ∷ es) = λ i. (e.0, record (handle_of t e.1) { path = path_so (e.1).node i }) ∷ handles_same es i

      -- the drive with the marked node
      pub drive_marked : with_node (drive_of t nodes) marked_node ≡ drive_of with_mark nodes
      drive_marked = λ i. record (drive_of t nodes) { nodes = all_marked nodes (λ x has. has) i; handles = sym (handles_same t.handles.entries) i }

-- ---- what comes of it

module _ (t : Table) (sound : IsSound t) (moment file count : ℕ) (h : kept.Handle) (o : Open) (is : kept_handle t file ≡ Some h) (on : open_at t h.node ≡ Some o) (nodes : List Node) (holds : HasNodes t nodes) where
  abbrev node : Node
  node = table.node t sound nodes holds file h o is on

  abbrev s : DriveState
  s = drive_of t nodes

  full_seen : (is_folder_node node && has_children s node.path) ≡ is_filled_folder nodes node
  full_seen = ap (λ b. is_folder_node node && b) (children_marked t nodes node.path)

  pub mark_readonly : (pending : Bool) → pending ≡ true → is_readonly node ≡ true → sets_of file moment count (set.Disposition pending) s ≡ refused s access_denied
  mark_readonly pending some readonly = set_lemma.setting t sound moment file count h o is on nodes holds (set.Disposition pending) ∙ check_applies s _ _ _ (ap (λ b. b && is_readonly node) some ∙ readonly)

  pub mark_full : (pending : Bool) → pending ≡ true → is_readonly node ≡ false → is_filled_folder nodes node ≡ true → sets_of file moment count (set.Disposition pending) s ≡ refused s directory_not_empty
  mark_full pending some writable full =
      set_lemma.setting t sound moment file count h o is on nodes holds (set.Disposition pending)
      ∙ check_passed s _ _ _ (ap (λ b. b && is_readonly node) some ∙ writable)
      ∙ check_applies s _ _ _ (ap (λ b. b && is_folder_node node && has_children s node.path) some ∙ full_seen ∙ full)

  -- the outcome of a mark that is set
  abbrev mark_made : Bool → Outcome
  mark_made pending = succeeded (with_node s (record (marked t.opens.entries node) { pending = pending })) (Count count) no_news

  pub mark_done : (pending : Bool) → (pending ≡ true → (is_readonly node ≡ false) × (is_filled_folder nodes node ≡ false)) → sets_of file moment count (set.Disposition pending) s ≡ mark_made pending
  mark_done pending may =
      set_lemma.setting t sound moment file count h o is on nodes holds (set.Disposition pending)
      ∙ check_passed s _ _ _ (only pending (is_readonly node) (λ some. (may some).0))
      ∙ check_passed s _ _ _ (both pending (is_folder_node node) (has_children s node.path) (λ some. full_seen ∙ (may some).1))
      ∙ checks_done s _
    where
      only : (b c : Bool) → (b ≡ true → c ≡ false) → (b && c) ≡ false
      only true c f = f refl
      only false c f = refl

      both : (b c d : Bool) → (b ≡ true → (c && d) ≡ false) → ((b && c) && d) ≡ false
      both true c d f = f refl
      both false c d f = refl

-- ---- what is served

module _ (t : Table) (sound : IsSound t) (before after : Seen) (over : IsOver t before) (moment file count : ℕ) (h : kept.Handle) (o : Open) (is : kept_handle t file ≡ Some h) (on : open_at t h.node ≡ Some o) (pending : Bool) where
  abbrev comes : DriveState → Outcome
  comes = sets_of file moment count (set.Disposition pending)

  -- the mark is refused
  pub mark_refused : pending ≡ true → (status : Status) → MayNotGo before after o status → Serves t before t after comes (Err status)
  mark_refused some status (inl (same, own, kept_for)) =
      refused_so t before after over (ap (λ (s : Seen). s.told) same) sound comes (calm_by before after (ap (λ (s : Seen). s.faults) same)) status own
      (λ nodes told holds. elim (kept_for nodes told (table.node t sound nodes holds file h o is on) (table.there t sound nodes holds file h o is on)) [
        | inl both ↦ mark_readonly t sound moment file count h o is on nodes holds pending some both.1 ∙ ap (refused (drive_of t nodes)) (sym both.0)
        | inr all ↦ mark_full t sound moment file count h o is on nodes holds pending some all.1 all.2 ∙ ap (refused (drive_of t nodes)) (sym all.0)
      ])
  mark_refused some status (inr by) = refused_by t before after over by.0 sound comes status by.1

  -- it is set, or taken away
  pub mark_serves : after ≡ before → (length o.path == 0) ≡ false → (new : Table) → SetsPending t h.node o pending new → (pending ≡ true → MayBePending before o) → (news : told_news.News) → news ≡ nothing
      → Serves t before new after comes (Ok (done.Replied (Count count) news))
  mark_serves same below new marks may news quiet =
      subst (λ (s : Seen). Serves t before new s comes (Ok (done.Replied (Count count) news))) (sym same)
      (subst (λ (n : Table). Serves t before n before comes (Ok (done.Replied (Count count) news))) (sym marks.rest)
      (done_anew t (record t { opens = new.opens }) before over (sound_marked t sound h.node o on below pending new.opens marks.opens) comes (Count count) news quiet
      (λ nodes told holds. (
        holds_marked t sound h.node o on below pending new.opens marks.opens nodes holds,
        mark_done t sound moment file count h o is on nodes holds pending (λ some. may some nodes told (table.node t sound nodes holds file h o is on) (table.there t sound nodes holds file h o is on))
            ∙ ap (λ (s : DriveState). succeeded s (Count count) no_news) (drive_marked t sound h.node o on below pending new.opens marks.opens nodes holds (table.node t sound nodes holds file h o is on) (table.there t sound nodes holds file h o is on)),
      ))))
