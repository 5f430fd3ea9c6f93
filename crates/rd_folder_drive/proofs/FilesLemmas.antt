-- The file ids that are open: what becomes of them by an operation.
use Rattle.std.proofs.Common.{◌≡◌, ◌∙◌, refl, ap, inl, inr, ℕ, ◌<◌, Bool, false, List, [], ◌∷◌, ◌++◌, Option, Result, Ok, Err, arith}
use Rattle.std.specs.List.{AllByRecursion}
use Rattle.std.specs.Map.{keys_of}
use Rattle.std.specs.Ordering.{nat_cmp, is_eq, is_lt, match_ordering}
use Rattle.std.specs.declared.cmp.Ordering.{Ordering}
use Rattle.std.specs.declared.cmp.Ordering.TheVariants.{Less, Equal, Greater}
use Rattle.std.specs.BTreeMap.{insert_entry, is_at}
use Rattle.std.proofs.lemmas.Map.{keys-set_value}
use Rattle.rd_base.specs.declared.status.Status.{Status}
use Rattle.rd_irp.specs.declared.op.Op.{Op}
use Rattle.rd_irp.specs.declared.op.Op.TheVariants as op
use Rattle.rd_irp.specs.declared.completion.Body.{Body}
use Rattle.rd_irp.specs.declared.completion.Body.TheVariants.{Created}
use Rattle.rd_drive.specs.declared.asked.Asked.{Asked}
use Rattle.rd_drive.specs.declared.step.Step.{Step}
use Rattle.rd_drive.specs.declared.step.Step.TheVariants as step
use Rattle.rd_drive.specs.Outcome.{done, fault}
use Rattle.rd_drive.proofs.StoreLemmas.{is_below, is_equal}
use Rattle.rd_dirinfo.specs.Naming.{Name}
use Rattle.rd_dirinfo.specs.Paths.{Names}
use Rattle.rd_folder_drive.specs.declared.handle.Handle as kept
use Rattle.rd_folder_drive.specs.declared.news.News as told_news
use Rattle.rd_folder_drive.specs.declared.table.Done.{Done}
use Rattle.rd_folder_drive.specs.declared.table.Done.TheVariants as done
use Rattle.rd_folder_drive.specs.declared.table.Table.{Table}
use Rattle.rd_folder_drive.specs.Files.{FilesBy, OpensNext, files_in}
use Rattle.rd_folder_drive.specs.FolderDrive.{ChangesFiles, FolderDriveState, IsOpenedBy, is_success, state_over}
use Rattle.rd_folder_drive.specs.Listing.{Relists, relisted}
use Rattle.rd_folder_drive.specs.Opening.{IsAsBefore, IsHolding, made_handle}
use Rattle.rd_folder_drive.specs.Served.{Seen}
use Rattle.rd_folder_drive.specs.Table.{IsSound, kept_handle}
use Rattle.rd_folder_drive.proofs.BlameLemmas.{others_left}
use Rattle.rd_folder_drive.proofs.HandlesLemmas.{AreKept, all_kept}

-- ---- the next file id

-- every file id is below the one that is given next
pub all_below : (t : Table) → IsSound t → AllByRecursion (λ (file : ℕ). file < t.next) (files_in t)
all_below t sound = by t.handles.entries (all_kept t sound.rising.1)
  where
    by : (es : List (ℕ × kept.Handle)) → AreKept (kept_handle t) es → AllByRecursion (λ (file : ℕ). file < t.next) (keys_of es)
    by [] all = tt
    by (e ∷ es) all = ((sound.handles e.0 e.1 all.0).before, by es all.1)

-- so an entry at it comes after all others
key_last : {X : Type 0} (k : ℕ) (x : X) (es : List (ℕ × X)) → AllByRecursion (λ (file : ℕ). file < k) (keys_of es) → keys_of (insert_entry nat_cmp es k x) ≡ keys_of es ++ k ∷ []
key_last k x [] all = refl
key_last k x (e ∷ es) all = by (nat_cmp k e.0) refl (key_last k x es all.1)
  where
    by : (r : Ordering) → nat_cmp k e.0 ≡ r → keys_of (insert_entry nat_cmp es k x) ≡ keys_of es ++ k ∷ []
        → keys_of (match_ordering (nat_cmp k e.0) ((k, x) ∷ e ∷ es) ((e.0, x) ∷ es) (e ∷ insert_entry nat_cmp es k x)) ≡ e.0 ∷ (keys_of es ++ k ∷ [])
    by Less is later = let above : k < e.0 = is_below k e.0 (ap is_lt is) in let below : e.0 < k = all.0 in absurd (omega arith)
    by Equal is later = let same : k ≡ e.0 = is_equal k e.0 (ap is_eq is) in let below : e.0 < k = all.0 in absurd (omega arith)
    by Greater is later = ap (λ (r : Ordering). keys_of (match_ordering r ((k, x) ∷ e ∷ es) ((e.0, x) ∷ es) (e ∷ insert_entry nat_cmp es k x))) is ∙ ap (λ (ks : List ℕ). e.0 ∷ ks) later

-- the next file id has a handle
pub held_next : (t : Table) → IsSound t → (asked : Asked) (path : Names) (folder : Bool) (found : Option ℕ) (n : ℕ) (new : Table) → IsHolding t asked path folder found n new → files_in new ≡ files_in t ++ t.next ∷ []
held_next t sound asked path folder found n new holds = ap keys_of holds.opening.entries ∙ key_last t.next (made_handle asked n) t.handles.entries (all_below t sound)

-- a Create is done, with the next file id
pub opens_next : (t : Table) → IsSound t → (asked : Asked) (path : Names) (folder : Bool) (found : Option ℕ) (n : ℕ) (new : Table) → IsHolding t asked path folder found n new
    → (file information : ℕ) → file ≡ t.next → (news : told_news.News) → OpensNext t new (Ok (done.Replied (Created file information) news))
opens_next t sound asked path folder found n new holds file information given news =
    (information, ap (λ (id : ℕ). Created id information) given, held_next t sound asked path folder found n new holds)

-- a handle was taken back
pub files_before : (t new : Table) → IsAsBefore t new → files_in new ≡ files_in t
files_before t new same = ap keys_of same.entries

-- a handle lists on
pub files_relisted : (t new : Table) (file : ℕ) (h : kept.Handle) (pattern : List ℕ) (last : Option Name) → Relists t file h pattern last new → files_in new ≡ files_in t
files_relisted t new file h pattern last lists = ap keys_of lists.handles ∙ keys-set_value (is_at (nat_cmp file)) t.handles.entries (relisted h pattern last)

-- ---- an operation

module _ (old middle new : Table) (sound : IsSound old) (same : new.handles ≡ middle.handles) (before after : Seen) (file : ℕ) where
  stays : files_in new ≡ files_in middle
  stays = λ i. keys_of (same i).entries

  by_op : (o : Op) (result : Result Done Status) (answer : Step) → (OpensNext old middle result → IsOpenedBy (state_over old before) answer (state_over new after)) → FilesBy old middle o file result
      → ChangesFiles (state_over old before) o file answer (state_over new after)
  by_op (op.Create access allocation attributes share disposition options path) result answer so files = so files
  by_op op.Close result answer so files = stays ∙ ap keys_of files ∙ others_left file old.handles.entries sound.rising.1
  by_op (op.Malformed major minor bad) result answer so files = stays ∙ files
  by_op (op.Unknown major minor) result answer so files = stays ∙ files
  by_op (op.Read offset count) result answer so files = stays ∙ files
  by_op (op.Write offset bytes) result answer so files = stays ∙ files
  by_op (op.QueryFile class) result answer so files = stays ∙ files
  by_op (op.SetFile class bytes) result answer so files = stays ∙ files
  by_op (op.QueryVolume class) result answer so files = stays ∙ files
  by_op (op.SetVolume class bytes) result answer so files = stays ∙ files
  by_op (op.QueryDir class initial path) result answer so files = stays ∙ files
  by_op (op.Notify deep filter) result answer so files = stays ∙ files
  by_op (op.Control output code bytes) result answer so files = stays ∙ files
  by_op (op.Lock operation wait ranges) result answer so files = stays ∙ files

  -- it is done
  pub files_replied : (o : Op) (body : Body) (news : told_news.News) → FilesBy old middle o file (Ok (done.Replied body news)) → ChangesFiles (state_over old before) o file (step.Reply (done body)) (state_over new after)
  files_replied o body news files = by_op o (Ok (done.Replied body news)) (step.Reply (done body)) (λ opened. inl (opened.0, ap (λ (b : Body). step.Reply (done b)) opened.1, stays ∙ opened.2, all_below old sound)) files

  -- the folder keeps the node of a Close
  pub files_kept : (o : Op) (status : Status) (news : told_news.News) → FilesBy old middle o file (Ok (done.Kept status news)) → ChangesFiles (state_over old before) o file (step.Reply (fault status)) (state_over new after)
  files_kept o status news files = by_op o (Ok (done.Kept status news)) (step.Reply (fault status)) (λ none. absurd none) files

  -- it is left waiting
  pub files_parked : (o : Op) → FilesBy old middle o file (Ok done.Parked) → (answer : Step) → is_success answer ≡ false → ChangesFiles (state_over old before) o file answer (state_over new after)
  files_parked o files answer isn't = by_op o (Ok done.Parked) answer (λ none. absurd none) files

  -- it is refused
  pub files_refused : (o : Op) (status : Status) → FilesBy old middle o file (Err status) → (answer : Step) → is_success answer ≡ false → ChangesFiles (state_over old before) o file answer (state_over new after)
  files_refused o status files answer isn't = by_op o (Err status) answer (λ kept. inr (isn't, stays ∙ kept)) files

-- nothing comes of an operation that isn't a Close
pub none_changed : (s : FolderDriveState) (o : Op) → (o ≡ op.Close → ⊥) → (file : ℕ) (answer : Step) → is_success answer ≡ false → ChangesFiles s o file answer s
none_changed s (op.Create access allocation attributes share disposition options path) other file answer isn't = inr (isn't, refl)
none_changed s op.Close other file answer isn't = absurd (other refl)
none_changed s (op.Malformed major minor bad) other file answer isn't = refl
none_changed s (op.Unknown major minor) other file answer isn't = refl
none_changed s (op.Read offset count) other file answer isn't = refl
none_changed s (op.Write offset bytes) other file answer isn't = refl
none_changed s (op.QueryFile class) other file answer isn't = refl
none_changed s (op.SetFile class bytes) other file answer isn't = refl
none_changed s (op.QueryVolume class) other file answer isn't = refl
none_changed s (op.SetVolume class bytes) other file answer isn't = refl
none_changed s (op.QueryDir class initial path) other file answer isn't = refl
none_changed s (op.Notify deep filter) other file answer isn't = refl
none_changed s (op.Control output code bytes) other file answer isn't = refl
none_changed s (op.Lock operation wait ranges) other file answer isn't = refl
