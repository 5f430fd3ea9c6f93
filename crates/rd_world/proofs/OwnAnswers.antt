-- No run of a device answers that a request was cancelled, or that the device isn't there.
use Rattle.std.proofs.Common.{◌≡◌, refl, subst, ℕ, ◌+◌, ◌-◌, ◌^◌, ◌==◌, ◌&&◌, ◌||◌, Bool, true, false, not, cond, List, [], ◌∷◌, ◌++◌, length, Some, None, Option}
use Rattle.std.specs.Prelude.{find, fold, nat_le, nat_lt}
use Rattle.std.specs.List.{AllByRecursion}
use Rattle.std.specs.Map.{lookup}
use Rattle.std.specs.Ordering.{nat_cmp}
use Rattle.std.specs.BTreeMap.{is_at}
use Rattle.std.specs.Option.{unwrap_or}
use Rattle.rd_base.specs.declared.journal.Key.{Key}
use Rattle.rd_base.specs.declared.status.Status.{Status}
use Rattle.rd_dirinfo.specs.Naming.{Name}
use Rattle.rd_dirinfo.specs.Paths.{Names, is_same_path, parsed_path}
use Rattle.rd_drive.specs.declared.asked.Asked.{Asked}
use Rattle.rd_drive.specs.declared.step.End.{End}
use Rattle.rd_drive.specs.declared.step.Step.{Step}
use Rattle.rd_drive.specs.declared.step.Step.TheVariants as step
use Rattle.rd_drive.specs.Close.{close}
use Rattle.rd_drive.specs.Create.{create, open_node, open_or_make, replaces}
use Rattle.rd_drive.specs.DriveState.{DriveState, Handle, Node, Notice, Ranges, Waiting, Wish, handle_at, node_of_path, open_path}
use Rattle.rd_drive.specs.DriveStep.{drive_step, outcome_of}
use Rattle.rd_drive.specs.Locking.{asked_locks, conflicts, is_unlock, lock, locks_on}
use Rattle.rd_drive.specs.Notify.{notify}
use Rattle.rd_drive.specs.Outcome.{Change, News, Outcome, checked, fault, given, on_handle, one_of}
use Rattle.rd_drive.specs.Query.{query_file, query_volume}
use Rattle.rd_drive.specs.QueryDir.{lists, next_node, query_dir}
use Rattle.rd_drive.specs.ReadWrite.{read, write}
use Rattle.rd_drive.specs.Rename.{rename_to}
use Rattle.rd_drive.specs.SetFile.{checks_by_class, set_checks, set_file, set_outcome}
use Rattle.rd_drive.specs.SetVolume.{set_volume}
use Rattle.rd_base.specs.Statuses.{cancelled, invalid_handle, no_such_device, no_such_file, no_more_files}
use Rattle.rd_drive.specs.Stepped.{Settled, Stepped, ran_step}
use Rattle.rd_drive.specs.Waiting.{closing_reply, is_closed, is_told, is_tried, settles, settles_change, settles_open, settles_ranges}
use Rattle.rd_fileinfo.specs.declared.set_info.SetInfo.{SetInfo}
use Rattle.rd_fileinfo.specs.declared.set_info.SetInfo.TheVariants as set
use Rattle.rd_irp.specs.declared.completion.Reply.{Reply}
use Rattle.rd_irp.specs.declared.op.Op.{Op}
use Rattle.rd_irp.specs.declared.op.Op.TheVariants as op
use Rattle.rd_irp.specs.declared.op.Range.{Range}
use Rattle.rd_printer.specs.Printer.{PrinterState, finish, on_document, open_document, print, printer_step}
use Rattle.rd_declared.specs.Devices.{device_step}
use Rattle.rd_declared.specs.declared.device.SessionDevice.{SessionDevice}
use Rattle.rd_declared.specs.declared.device.SessionDevice.TheVariants as session

-- whether a status is neither of these two
abbrev pub is_own : Status → Bool
is_own s = not (s.0 == cancelled.0) && not (s.0 == no_such_device.0)

abbrev pub IsOwn : Reply → Type 0
IsOwn reply = is_own reply.status ≡ true

abbrev pub IsOwnAnswer : Step → Type 0
IsOwnAnswer (step.Reply reply) = IsOwn reply
IsOwnAnswer step.Parked = Unit {0}

abbrev pub AreOwnEnds : List End → Type 0
AreOwnEnds ends = AllByRecursion (λ (e : End). IsOwn e.reply) ends

abbrev AreOwnChecks : List (Bool × Reply) → Type 0
AreOwnChecks checks = AllByRecursion (λ (c : Bool × Reply). IsOwn c.1) checks

-- ---- how operations are put together

checked_own : (s : DriveState) (checks : List (Bool × Reply)) (o : Outcome) → AreOwnChecks checks → IsOwnAnswer o.answer → IsOwnAnswer (checked s checks o).answer
unfolding checked
checked_own s [] o all own = own
checked_own s (check ∷ checks) o all own = go check.0 (checked_own s checks o all.1 own)
  where
    go : (b : Bool) → IsOwnAnswer (checked s checks o).answer → IsOwnAnswer (cond b (record { state = s; answer = step.Reply check.1; news = record { closed = None; unlocked = None; changes = [] } }) (checked s checks o)).answer
    go true later = all.0
    go false later = later

one_of_own : (test : Bool) (o other : Outcome) → IsOwnAnswer o.answer → IsOwnAnswer other.answer → IsOwnAnswer (one_of test o other).answer
unfolding one_of
one_of_own true o other own others = own
one_of_own false o other own others = others

given_own : {X : Type 0} (s : DriveState) (x : Option X) (status : Status) (o : X → Outcome) → is_own status ≡ true → ((y : X) → x ≡ Some y → IsOwnAnswer (o y).answer) → IsOwnAnswer (given s x status o).answer
unfolding given
given_own s None status o own all = own
given_own s (Some x) status o own all = all x refl

handle_own : (s : DriveState) (file : ℕ) (o : Handle → Node → Outcome) → ((handle : Handle) (node : Node) → IsOwnAnswer (o handle node).answer) → IsOwnAnswer (on_handle s file o).answer
handle_own s file o all =
    given_own s (handle_at s file) invalid_handle _ refl (λ handle e. given_own s (node_of_path s handle.path) invalid_handle (o handle) refl (λ node e. all handle node))

-- ---- the operations

open_own : (s : DriveState) (asked : Asked) (moment : ℕ) (node : Node) → IsOwnAnswer (open_node s asked moment node).answer
open_own s asked moment node = checked_own s _ _ (refl, (refl, (refl, (refl, (refl, (refl, (refl, tt))))))) (one_of_own (replaces asked) _ _ refl refl)

create_own : (s : DriveState) (moment : ℕ) (asked : Asked) (units : List ℕ) → IsOwnAnswer (create s moment asked units).answer
create_own s moment asked units = checked_own s _ _ (refl, tt) (given_own s (parsed_path units) _ _ refl (λ path e. checked_own s _ _ (refl, (refl, tt)) (by path (node_of_path s path))))
  where
    by : (path : Names) (o : Option Node) → IsOwnAnswer (open_or_make s asked moment path o).answer
    by path (Some node) = open_own s asked moment node
    by path None = checked_own s _ _ (refl, (refl, (refl, tt))) refl

close_own : (s : DriveState) (file : ℕ) (handle : Handle) (node : Node) → IsOwnAnswer (close s file handle node).answer
close_own s file handle node = one_of_own _ _ _ (one_of_own _ _ _ refl refl) refl

read_own : (s : DriveState) (file offset count : ℕ) (handle : Handle) (node : Node) → IsOwnAnswer (read s file offset count handle node).answer
read_own s file offset count handle node = checked_own s _ _ (refl, (refl, (refl, (refl, (refl, tt))))) refl

write_own : (s : DriveState) (moment file offset : ℕ) (bytes : List ℕ) (handle : Handle) (node : Node) → IsOwnAnswer (write s moment file offset bytes handle node).answer
write_own s moment file offset bytes handle node = checked_own s _ _ (refl, (refl, (refl, (refl, (refl, tt))))) refl

query_own : (s : DriveState) (class : ℕ) (handle : Handle) (node : Node) → IsOwnAnswer (query_file s class handle node).answer
query_own s class handle node = given_own s _ _ _ refl (λ info e. refl)

volume_own : (s : DriveState) (class : ℕ) (handle : Handle) (node : Node) → IsOwnAnswer (query_volume s class handle node).answer
volume_own s class handle node = given_own s _ _ _ refl (λ info e. refl)

label_own : (s : DriveState) (class : ℕ) (buffer : List ℕ) (handle : Handle) (node : Node) → IsOwnAnswer (set_volume s class buffer handle node).answer
label_own s class buffer handle node = checked_own s _ _ (refl, tt) (given_own s _ _ _ refl (λ units e. refl))

dir_own : (s : DriveState) (file class : ℕ) (initial : Bool) (units : List ℕ) (handle : Handle) (node : Node) → IsOwnAnswer (query_dir s file class initial units handle node).answer
dir_own s file class initial units handle node = checked_own s _ _ (refl, (refl, (refl, tt))) (by _ _ (next_node s node.path _ _))
  where
    none : (b : Bool) → IsOwn (fault (cond b no_such_file no_more_files))
    none true = refl
    none false = refl

    by : (pattern : List ℕ) (last : Option Name) (o : Option Node) → IsOwnAnswer (lists s file class initial handle pattern last o).answer
    by pattern last None = none initial
    by pattern last (Some found) = refl

notify_own : (s : DriveState) (key : Key) (file : ℕ) (deep : Bool) (filter : ℕ) (handle : Handle) (node : Node) → IsOwnAnswer (notify s key file deep filter handle node).answer
notify_own s key file deep filter handle node = checked_own s _ _ (refl, (refl, tt)) tt

lock_own : (s : DriveState) (key : Key) (file operation : ℕ) (wait : Bool) (ranges : List Range) (handle : Handle) (node : Node) → IsOwnAnswer (lock s key file operation wait ranges handle node).answer
lock_own s key file operation wait ranges handle node =
    checked_own s _ _ (refl, (refl, (refl, tt)))
    (one_of_own (is_unlock operation) _ _ (given_own s _ _ _ refl (λ locks e. refl)) (checked_own s _ _ (refl, (refl, (refl, tt))) (one_of_own _ _ _ tt refl)))

rename_own : (s : DriveState) (moment count : ℕ) (node : Node) (replace : Bool) (units : List ℕ) → IsOwnAnswer (rename_to s moment count node replace units).answer
rename_own s moment count node replace units =
    given_own s (parsed_path units) _ _ refl (λ path e. checked_own s _ _ (refl, tt)
    (one_of_own (is_same_path s.naming path node.path) _ _ (one_of_own _ _ _ refl refl) (checked_own s _ _ (refl, (refl, (refl, (refl, (refl, tt))))) refl)))

sets_own : (s : DriveState) (moment count : ℕ) (node : Node) (x : SetInfo) → IsOwnAnswer (set_outcome s moment count node x).answer
sets_own s moment count node (set.Basic moments attributes) = refl
sets_own s moment count node (set.Rename replace units) = rename_own s moment count node replace units
sets_own s moment count node (set.Disposition pending) = checked_own s _ _ (refl, (refl, tt)) refl
sets_own s moment count node (set.Allocation size) = checked_own s _ _ (refl, tt) refl
sets_own s moment count node (set.EndOfFile end) = checked_own s _ _ (refl, tt) refl

found_own : (class : ℕ) (es : List (ℕ × List (Bool × Reply))) (checks : List (Bool × Reply)) → AllByRecursion (λ (e : ℕ × List (Bool × Reply)). AreOwnChecks e.1) es → lookup (◌==◌ class) es ≡ Some checks → AreOwnChecks checks
found_own class [] checks all e = absurd (cc e)
found_own class (x ∷ es) checks all e = go (class == x.0) e (found_own class es checks all.1)
  where
    go : (b : Bool) → cond b (Some x.1) (lookup (◌==◌ class) es) ≡ Some checks → (lookup (◌==◌ class) es ≡ Some checks → AreOwnChecks checks) → AreOwnChecks checks
    go true e later = let same : x.1 ≡ checks = cc e in subst AreOwnChecks same all.0
    go false e later = later e

set_own : (s : DriveState) (moment class : ℕ) (buffer : List ℕ) (handle : Handle) (node : Node) → IsOwnAnswer (set_file s moment class buffer handle node).answer
set_own s moment class buffer handle node =
    given_own s (set_checks handle node class) _ _ refl (λ checks e. checked_own s checks _
    (found_own class (checks_by_class handle node) checks ((refl, tt), ((refl, tt), ((refl, tt), ((refl, (refl, tt)), ((refl, (refl, tt)), tt))))) e)
    (given_own s _ _ _ refl (λ x e. sets_own s moment (length buffer) node x)))

answer_own : (s : DriveState) (key : Key) (file : ℕ) (o : Op) (moment : ℕ) → IsOwnAnswer (outcome_of s key file o moment).answer
answer_own s key file (op.Malformed major minor bad) moment = refl
answer_own s key file (op.Unknown major minor) moment = refl
answer_own s key file (op.Create access allocation attributes share disposition options path) moment =
    create_own s moment (record { access = access; attributes = attributes; share = share; disposition = disposition; options = options }) path
answer_own s key file op.Close moment = handle_own s file _ (close_own s file)
answer_own s key file (op.Read offset count) moment = handle_own s file _ (read_own s file offset count)
answer_own s key file (op.Write offset bytes) moment = handle_own s file _ (write_own s moment file offset bytes)
answer_own s key file (op.QueryFile class) moment = handle_own s file _ (query_own s class)
answer_own s key file (op.SetFile class buffer) moment = handle_own s file _ (set_own s moment class buffer)
answer_own s key file (op.QueryVolume class) moment = handle_own s file _ (volume_own s class)
answer_own s key file (op.SetVolume class buffer) moment = handle_own s file _ (label_own s class buffer)
answer_own s key file (op.QueryDir class initial path) moment = handle_own s file _ (dir_own s file class initial path)
answer_own s key file (op.Notify deep filter) moment = handle_own s file _ (notify_own s key file deep filter)
answer_own s key file (op.Control output code bytes) moment = handle_own s file _ (λ handle node. refl)
answer_own s key file (op.Lock operation wait ranges) moment = handle_own s file _ (lock_own s key file operation wait ranges)

-- ---- the requests that wait

one_more : (ends : List End) (e : End) → AreOwnEnds ends → IsOwn e.reply → AreOwnEnds (ends ++ e ∷ [])
one_more [] e all own = (own, tt)
one_more (x ∷ ends) e all own = (all.0, one_more ends e all.1 own)

settles_own : (news : News) (old : Settled DriveState) (w : Waiting) → AreOwnEnds old.ends → AreOwnEnds (settles news old w).ends
settles_own news old w all = by_closed (is_closed news w)
  where
    closing : (x : Wish) → IsOwn (closing_reply x)
    closing (Ranges exclusive ranges) = refl
    closing (Notice deep filter) = refl

    by_closed : (b : Bool) → AreOwnEnds (cond b (record { state = old.state; ends = old.ends ++ record { key = w.key; reply = closing_reply w.wish } ∷ [] }) (settles_open news old w (unwrap_or (open_path old.state w.file) []) w.wish)).ends
    by_closed true = one_more old.ends _ all (closing w.wish)
    by_closed false = by_wish (unwrap_or (open_path old.state w.file) []) w.wish
      where
        by_change : (path : Names) (deep : Bool) (filter : ℕ) (o : Option Change) → find (is_told old.state path deep filter) news.changes ≡ o → AreOwnEnds (settles_change news old w path deep filter).ends
        by_change path deep filter None e = rw e all
        by_change path deep filter (Some change) e = rw e (one_more old.ends _ all refl)

        by_try : (path : Names) (exclusive : Bool) (ranges : List Range) (b : Bool) → (is_tried old.state news path && not (conflicts (locks_on old.state path) (asked_locks w.file exclusive ranges))) ≡ b
            → AreOwnEnds (settles_ranges news old w path exclusive ranges).ends
        by_try path exclusive ranges true e = rw e (one_more old.ends _ all refl)
        by_try path exclusive ranges false e = rw e all

        by_wish : (path : Names) (x : Wish) → AreOwnEnds (settles_open news old w path x).ends
        by_wish path (Ranges exclusive ranges) = by_try path exclusive ranges _ refl
        by_wish path (Notice deep filter) = by_change path deep filter _ refl

settled_own : (news : News) (ws : List Waiting) (old : Settled DriveState) → AreOwnEnds old.ends → AreOwnEnds (fold (settles news) old ws).ends
settled_own news [] old all = all
settled_own news (w ∷ ws) old all = settled_own news ws (settles news old w) (settles_own news old w all)

-- ---- a run of a device

drive_own : (s : DriveState) (key : Key) (file : ℕ) (o : Op) (moment : ℕ) → let x = drive_step s key file o moment in IsOwnAnswer x.answer × AreOwnEnds x.ends
drive_own s key file o moment = (answer_own s key file o moment, let came = outcome_of s key file o moment in settled_own came.news (came.state).waiting _ tt)

printer_own : (s : PrinterState) (key : Key) (file : ℕ) (o : Op) (moment : ℕ) → let x = printer_step s key file o moment in IsOwnAnswer x.answer × AreOwnEnds x.ends
printer_own s key file o moment = by o
  where
    document : (f : List ℕ → Stepped PrinterState) → ((bytes : List ℕ) → IsOwnAnswer (f bytes).answer × AreOwnEnds (f bytes).ends) → (x : Option (List ℕ)) → lookup (is_at (nat_cmp file)) s.documents ≡ x
        → IsOwnAnswer (on_document s file f).answer × AreOwnEnds (on_document s file f).ends
    document f all None e = rw e (refl, tt)
    document f all (Some bytes) e = rw e (all bytes)

    opened : (b : Bool) → (nat_le 4096 (length s.documents) || nat_le (2 ^ 32) s.next) ≡ b → IsOwnAnswer (open_document s).answer × AreOwnEnds (open_document s).ends
    opened true e = rw e (refl, tt)
    opened false e = rw e (refl, tt)

    printed : (bytes old : List ℕ) (b : Bool) → nat_lt (2 ^ 32 - 1) (length old + length bytes) ≡ b → IsOwnAnswer (print s file bytes old).answer × AreOwnEnds (print s file bytes old).ends
    printed bytes old true e = rw e (refl, tt)
    printed bytes old false e = rw e (refl, tt)

    by : (o : Op) → IsOwnAnswer (printer_step s key file o moment).answer × AreOwnEnds (printer_step s key file o moment).ends
    by (op.Malformed major minor bad) = (refl, tt)
    by (op.Unknown major minor) = (refl, tt)
    by (op.Create access allocation attributes share disposition options path) = opened _ refl
    by op.Close = document (finish s file) (λ bytes. (refl, tt)) _ refl
    by (op.Read offset count) = (refl, tt)
    by (op.Write offset bytes) = document (print s file bytes) (λ old. printed bytes old _ refl) _ refl
    by (op.QueryFile class) = (refl, tt)
    by (op.SetFile class buffer) = (refl, tt)
    by (op.QueryVolume class) = (refl, tt)
    by (op.SetVolume class buffer) = (refl, tt)
    by (op.QueryDir class initial path) = (refl, tt)
    by (op.Notify deep filter) = (refl, tt)
    by (op.Control output code bytes) = (refl, tt)
    by (op.Lock operation wait ranges) = (refl, tt)

pub run_own : (s : SessionDevice) (key : Key) (file : ℕ) (o : Op) (moment : ℕ) (starved : Bool) → let x = ran_step device_step s key file o moment starved in IsOwnAnswer x.answer × AreOwnEnds x.ends
run_own s key file o moment true = (refl, tt)
run_own (session.Drive s) key file o moment false = drive_own s key file o moment
run_own (session.Printer s) key file o moment false = printer_own s key file o moment
