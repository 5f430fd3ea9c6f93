-- No end says that the folder failed; and where a file id is closed the others are open still.
use Rattle.std.proofs.Common.{◌≡◌, ◌∙◌, refl, sym, ap, subst, ℕ, ◌==◌, Bool, true, false, cond, ◌<◌, List, [], ◌∷◌, fold, Option, Some, None, find, ◌&&◌, not, arith}
use Rattle.std.proofs.lemmas.Bool.Decides.{nat_tests}
use Rattle.std.specs.List.{AllByRecursion}
use Rattle.std.specs.List.Sorted.{IsStrictlySortedBy}
use Rattle.std.specs.Map.{keys_of, remove_entry}
use Rattle.std.specs.Option.{option_map_or, unwrap_or}
use Rattle.std.specs.Ordering.{nat_cmp, is_lt}
use Rattle.std.specs.BTreeMap.{is_at}
use Rattle.std.specs.declared.cmp.Ordering.TheVariants.{Less}
use Rattle.rd_irp.specs.declared.op.Range.{Range}
use Rattle.rd_irp.specs.declared.completion.Reply.{Reply}
use Rattle.rd_irp.specs.declared.completion.Body.TheVariants.{Buffer, Locked}
use Rattle.rd_dirinfo.specs.Paths.{Names}
use Rattle.rd_drive.specs.declared.step.End.{End}
use Rattle.rd_drive.specs.DriveState.{DriveState, Waiting, Wish, Ranges, Notice, open_path}
use Rattle.rd_drive.specs.Locking.{asked_locks, conflicts, locks_on, with_locks}
use Rattle.rd_drive.specs.Outcome.{Change, News, done}
use Rattle.rd_drive.specs.Stepped.{Settled}
use Rattle.rd_drive.specs.Waiting.{change_bytes, closing_reply, ends_with, is_closed, is_told, is_tried, settled, settles, settles_open, waits_on}
use Rattle.rd_drive.proofs.AllLemmas.{all_append}
use Rattle.rd_drive.proofs.StoreLemmas.{is_below, is_equal}
use Rattle.rd_folder_drive.specs.Files.{files_but}
use Rattle.rd_folder_drive.specs.FolderDrive.{AreBlameless}
use Rattle.rd_folder_drive.specs.Served.{io_device_error}

-- ---- the ends

abbrev IsBlameless : End → Type 0
IsBlameless ended = (((ended.reply).status).0 == io_device_error.0) ≡ false

module _ (news : News) where
  -- one request more ends so, or waits on
  goes : (old : Settled DriveState) (w : Waiting) → AreBlameless old.ends → AreBlameless (settles news old w).ends
  goes old w are = by (is_closed news w)
    where
      path : Names
      path = unwrap_or (open_path old.state w.file) []

      ends_so : (s : DriveState) (reply : Reply) → ((reply.status).0 == io_device_error.0) ≡ false → AreBlameless (ends_with old s w reply).ends
      ends_so s reply other = all_append IsBlameless old.ends (record { key = w.key; reply = reply } ∷ []) are (other, tt)

      closes : (wish : Wish) → AreBlameless (ends_with old old.state w (closing_reply wish)).ends
      closes (Ranges exclusive ranges) = ends_so old.state (closing_reply (Ranges exclusive ranges)) refl
      closes (Notice deep filter) = ends_so old.state (closing_reply (Notice deep filter)) refl

      ranges_go : (exclusive : Bool) (ranges : List Range) (b : Bool)
          → AreBlameless (cond b (ends_with old (with_locks old.state (asked_locks w.file exclusive ranges)) w (done Locked)) (waits_on old (record { key = w.key; file = w.file; wish = Ranges exclusive ranges }))).ends
      ranges_go exclusive ranges true = ends_so (with_locks old.state (asked_locks w.file exclusive ranges)) (done Locked) refl
      ranges_go exclusive ranges false = are

      change_goes : (deep : Bool) (filter : ℕ) (found : Option Change)
          → AreBlameless (option_map_or (λ (change : Change). ends_with old old.state w (done (Buffer (change_bytes path change)))) found (waits_on old (record { key = w.key; file = w.file; wish = Notice deep filter }))).ends
      change_goes deep filter None = are
      change_goes deep filter (Some change) = ends_so old.state (done (Buffer (change_bytes path change))) refl

      open_goes : (wish : Wish) → AreBlameless (settles_open news old (record { key = w.key; file = w.file; wish = wish }) path wish).ends
      open_goes (Ranges exclusive ranges) = ranges_go exclusive ranges (is_tried old.state news path && not (conflicts (locks_on old.state path) (asked_locks w.file exclusive ranges)))
      open_goes (Notice deep filter) = change_goes deep filter (find (is_told old.state path deep filter) news.changes)

      by : (b : Bool) → AreBlameless (cond b (ends_with old old.state w (closing_reply w.wish)) (settles_open news old w path w.wish)).ends
      by true = closes w.wish
      by false = open_goes w.wish

  all_go : (ws : List Waiting) (old : Settled DriveState) → AreBlameless old.ends → AreBlameless (fold (settles news) old ws).ends
  all_go [] old are = are
  all_go (w ∷ ws) old are = all_go ws (settles news old w) (goes old w are)

  pub settled_blameless : (s : DriveState) → AreBlameless (settled s news).ends
  settled_blameless s = all_go s.waiting (record { state = record s { waiting = [] }; ends = [] }) tt

-- ---- the file that is closed

not_equal : (m n : ℕ) → is_at (nat_cmp m) n ≡ false → (n == m) ≡ false
not_equal m n apart = grind (arith, nat_tests)

above_apart : (m n : ℕ) → m < n → (n == m) ≡ false
above_apart m n above = grind (arith, nat_tests)

itself : (n : ℕ) → (n == n) ≡ true
itself n = grind (arith, nat_tests)

-- of numbers above another one all are left without it
all_above : (m : ℕ) (ks : List ℕ) → AllByRecursion (λ (y : ℕ). nat_cmp m y ≡ Less) ks → files_but m ks ≡ ks
all_above m [] low = refl
all_above m (k ∷ ks) low = ap (λ b. cond (not b) (k ∷ files_but m ks) (files_but m ks)) (above_apart m k (is_below m k (ap is_lt low.0))) ∙ ap (λ (l : List ℕ). k ∷ l) (all_above m ks low.1)

-- where an entry is taken out its number goes, and all others stay
pub others_left : {X : Type 0} (file : ℕ) (es : List (ℕ × X)) → IsStrictlySortedBy nat_cmp (keys_of es) → keys_of (remove_entry (is_at (nat_cmp file)) es) ≡ files_but file (keys_of es)
unfolding IsStrictlySortedBy
others_left file [] rising = refl
others_left file (e ∷ es) rising = by (others_left file es rising.1) (is_at (nat_cmp file) e.0) refl
  where
    by : keys_of (remove_entry (is_at (nat_cmp file)) es) ≡ files_but file (keys_of es) → (b : Bool) → is_at (nat_cmp file) e.0 ≡ b
        → keys_of (cond b es (e ∷ remove_entry (is_at (nat_cmp file)) es)) ≡ cond (not (e.0 == file)) (e.0 ∷ files_but file (keys_of es)) (files_but file (keys_of es))
    by later true here =
        let same : file ≡ e.0 = is_equal file e.0 here in
        sym (ap (λ b. cond (not b) (e.0 ∷ files_but file (keys_of es)) (files_but file (keys_of es))) (ap (λ (n : ℕ). n == file) (sym same) ∙ itself file)
        ∙ all_above file (keys_of es) (subst (λ (m : ℕ). AllByRecursion (λ (y : ℕ). nat_cmp m y ≡ Less) (keys_of es)) (sym same) rising.0))
    by later false there =
        ap (λ (l : List ℕ). e.0 ∷ l) later ∙ sym (ap (λ b. cond (not b) (e.0 ∷ files_but file (keys_of es)) (files_but file (keys_of es))) (not_equal file e.0 there))
