-- Completions are written in the order in which the journals sent their keys.
use Rattle.std.proofs.Common.{◌≡◌, ◌∙◌, refl, sym, ap, subst, inl, inr, ℕ, ◌==◌, ◌&&◌, Bool, true, false, cond, not, List, [], ◌∷◌, ◌++◌, map, reverse, Option, Some, None, append_assoc, append-nil, arith, eq-eqb, eqb-true}
use Rattle.std.specs.Prelude.{◌||◌, Result, Ok, Err, filter, find, nat_le}
use Rattle.std.specs.List.{AllByRecursion, cons_option, list_any}
use Rattle.std.proofs.lemmas.Bool.Decides.{nat_tests}
use Rattle.std.proofs.lemmas.List.{reverse-append}
use Rattle.rd_base.specs.declared.journal.Cause.TheVariants.{Dropped, Removed}
use Rattle.rd_base.specs.declared.journal.Item.{Item}
use Rattle.rd_base.specs.declared.journal.Item.TheVariants.{Came, Cancelled, Cut, Ran, Sent}
use Rattle.rd_base.specs.declared.journal.Key.{Key}
use Rattle.rd_drive.specs.Device.{is_parked, is_starved}
use Rattle.rd_drive.specs.declared.plan.Job.{Job}
use Rattle.rd_desk.specs.Desk.{told_by}
use Rattle.rd_desk.specs.declared.calls.DeskCall.{DeskCall}
use Rattle.rd_desk.specs.declared.calls.DeskCall.TheVariants as desk
use Rattle.rd_desk.specs.declared.calls.DeskReply.{DeskReply}
use Rattle.rd_desk.specs.declared.calls.DeskReply.TheVariants as replied
use Rattle.rd_client.specs.declared.heard.Heard.{Heard}
use Rattle.rd_client.specs.declared.heard.Heard.TheVariants.{Nothing, Ask, Print}
use Rattle.rd_front.specs.Front.{end_call}
use Rattle.rd_front.specs.State.{DeviceDeskState, SessionDeskStep, SessionStation}
use Rattle.rd_front.specs.declared.calls.FrontCall.{FrontCall}
use Rattle.rd_front.specs.declared.calls.FrontReply.{FrontReply}
use Rattle.rd_hello.specs.declared.end_fault.EndFault.{EndFault}
use Rattle.rd_hello.specs.declared.end_fault.EndFault.TheVariants as fault
use Rattle.rd_station.specs.declared.refusals.PutWhy.TheVariants as why
use Rattle.rd_turn.specs.declared.object.Entry.{Entry}
use Rattle.rd_world.specs.Events.{completion_message}
use Rattle.rd_deeds.specs.Joining.{Stands}
use Rattle.rd_journals.specs.Standing.{IsOut}
use Rattle.rd_front.specs.Calls.{RanOut}
use Rattle.rd_served.specs.Histories.{Among, HistoryGoes}
use Rattle.rd_served.specs.Parts.{CallsAt, EndsEach, FrontPart, PartGoes, PartsGo, asking_by, begins, calls, directs, forgets, is_lost, keeps, learns, misplaces, refreshes, sends, tells_gone, tells_there, tries, unwritten, writes}
use Rattle.rd_served.specs.Parts as part
use Rattle.rd_served.proofs.ComesLemmas.{cancel}
use Rattle.rd_irp.specs.Fits.{kind_of}
use Rattle.rd_station.specs.Station as station
use Rattle.rd_station.specs.Station.{StationCall, announces, applies, apply_from, cancelled_in_hand, cancelled_parked, cancelled_waiting, collects, drop_channel, drops, emptied, ends, entry_count, is_key, marked_removed, max_entries, put_refusal, put_unless, puts, puts_unfit, ran, removes, take_first, takes}
use Rattle.rd_station.specs.declared.answers.Applied.{Applied}
use Rattle.rd_station.specs.declared.answers.Applied.TheVariants as applied
use Rattle.rd_station.specs.declared.answers.Completion.{Completion}
use Rattle.rd_station.specs.declared.answers.Given.{Given}
use Rattle.rd_station.specs.declared.answers.Given.TheVariants as given
use Rattle.rd_station.specs.declared.held.InHand.{InHand}
use Rattle.rd_station.specs.declared.refusals.AnnounceNo.{AnnounceNo}
use Rattle.rd_station.specs.declared.refusals.AnnounceNo.TheVariants as unannounced
use Rattle.rd_station.specs.declared.refusals.PutWhy.{PutWhy}
use Rattle.rd_station.proofs.Members.{has_append}
use Rattle.rd_deeds.specs.Talk.{Deed, EachAfter, Has, completes, is_completion_of, journal, on, stores}
use Rattle.rd_deeds.specs.Told.{came, sent}
use Rattle.rd_journals.proofs.CameLemmas.{came_true, never_came}
use Rattle.rd_journals.proofs.HeldLemmas.{turned_has}
use Rattle.rd_served.specs.Deeds.{completed, deeds_after, deeds_of, deeds_of_calls, sent_by, stored, stored_each}
use Rattle.rd_served.specs.Served.{Asking, CallsDesk, IsWork, Served, asks, hands, idle, refused}
use Rattle.rd_served.proofs.StandingLemmas.{IsKnownAt, IsUnserved, came_here, collected_ready, one_device, part_known, parts_known, sent_first, stored_same}
use Rattle.rd_served.proofs.StationLemmas.{Step, put_refused}
use Rattle.rd_served.proofs.WorkLemmas.{Steps}
use Rattle.rd_served_devices.specs.ServedDevices.{ServedDeviceState}

abbrev Of : Type 0
Of = SessionStation

-- ---- the order, but for a completion that was handed out and isn't written yet

abbrev owed : ℕ → ℕ → Asking → List ℕ
owed c device (hands d x) = cond (d == device) (cons_option (on c (x.key).channel (x.key).index) []) []
owed c device idle = []
owed c device (asks k) = []
owed c device (refused k cause) = []

abbrev pub InOrderBut : Asking → List Deed → Type 0
InOrderBut asking deeds = (c device : ℕ) → owed c device asking ++ filter (came c (journal device deeds)) (completed c deeds) ≡ sent c (journal device deeds)

-- neither a coming nor a sending
abbrev IsQuiet : Item → Type 0
IsQuiet (Came key) = ⊥
IsQuiet (Sent key) = ⊥
IsQuiet _ = Unit {0}

order_quiet : (a : Asking) (e : ℕ) (x : Item) (deeds : List Deed) → IsQuiet x → InOrderBut a deeds → InOrderBut a (stores e x ∷ deeds)
order_quiet a e x deeds quiet is c d = by (e == d) x quiet
  where
    by : (b : Bool) (x : Item) → IsQuiet x → owed c d a ++ filter (came c (cons_option (cond b (Some x) None) (journal d deeds))) (completed c deeds) ≡ sent c (cons_option (cond b (Some x) None) (journal d deeds))
    by false x quiet = is c d
    by true (Came k) quiet = absurd quiet
    by true (Sent k) quiet = absurd quiet
    by true (Ran k m s p) quiet = is c d
    by true (Cancelled k) quiet = is c d
    by true (Cut cause) quiet = is c d

-- a key that comes was completed by none
came_added : (key : Key) (c : ℕ) (j : List Item) (deeds : List Deed) → list_any (is_completion_of key) deeds ≡ false → filter (came c (Came key ∷ j)) (completed c deeds) ≡ filter (came c j) (completed c deeds)
came_added key c j [] none = refl
came_added key c j (completes k m ∷ deeds) none = by (is_key k key) refl none (k.channel == c) refl (came_added key c j deeds)
  where
    dropped : (t : Bool) → t ≡ false → filter (came c (Came key ∷ j)) (completed c deeds) ≡ filter (came c j) (completed c deeds)
        → cond (t || came c j k.index) (k.index ∷ filter (came c (Came key ∷ j)) (completed c deeds)) (filter (came c (Came key ∷ j)) (completed c deeds)) ≡ cond (came c j k.index) (k.index ∷ filter (came c j) (completed c deeds)) (filter (came c j) (completed c deeds))
    dropped true e later = absurd (cc e)
    dropped false e later = ap (λ (xs : List ℕ). cond (came c j k.index) (k.index ∷ xs) xs) later

    apart : is_key k key ≡ false → (k.channel == c) ≡ true → (key.channel == c && key.index == k.index) ≡ false
    apart e f = grind (arith, nat_tests, e, f)

    by : (a : Bool) → is_key k key ≡ a → (a || list_any (is_completion_of key) deeds) ≡ false → (b : Bool) → (k.channel == c) ≡ b
        → (list_any (is_completion_of key) deeds ≡ false → filter (came c (Came key ∷ j)) (completed c deeds) ≡ filter (came c j) (completed c deeds))
        → filter (came c (Came key ∷ j)) (cons_option (cond b (Some k.index) None) (completed c deeds)) ≡ filter (came c j) (cons_option (cond b (Some k.index) None) (completed c deeds))
    by true e none b f later = absurd (cc none)
    by false e none false f later = later none
    by false e none true f later = dropped (key.channel == c && key.index == k.index) (apart e f) (later none)
came_added key c j (_ ∷ deeds) none = came_added key c j deeds none

order_came : (a : Asking) (e : ℕ) (key : Key) (deeds : List Deed) → list_any (is_completion_of key) deeds ≡ false → InOrderBut a deeds → InOrderBut a (stores e (Came key) ∷ deeds)
order_came a e key deeds none is c d = by (e == d)
  where
    by : (b : Bool) → owed c d a ++ filter (came c (cons_option (cond b (Some (Came key)) None) (journal d deeds))) (completed c deeds) ≡ sent c (cons_option (cond b (Some (Came key)) None) (journal d deeds))
    by false = is c d
    by true = ap (λ (xs : List ℕ). owed c d a ++ xs) (came_added key c (journal d deeds) deeds none) ∙ is c d

-- entries of which none is sent, and each that came was completed by none
order_items : (a : Asking) (e : ℕ) (items : List Item) (deeds : List Deed) → ((key : Key) → Has (Sent key) items → ⊥) → ((key : Key) → Has (Came key) items → list_any (is_completion_of key) deeds ≡ false) → InOrderBut a deeds → InOrderBut a (map (stores e) items ++ deeds)
order_items a e [] deeds unsent fresh is = is
order_items a e (x ∷ items) deeds unsent fresh is = one x (λ key same. unsent key (inl same)) (λ key same. fresh key (inl same)) (order_items a e items deeds (λ key has. unsent key (inr has)) (λ key has. fresh key (inr has)) is)
  where
    one : (y : Item) → ((key : Key) → Sent key ≡ y → ⊥) → ((key : Key) → Came key ≡ y → list_any (is_completion_of key) deeds ≡ false) → InOrderBut a (map (stores e) items ++ deeds) → InOrderBut a (stores e y ∷ (map (stores e) items ++ deeds))
    one (Came key) never new so = order_came a e key (map (stores e) items ++ deeds) (stored_same key e items deeds ∙ new key refl) so
    one (Sent key) never new so = absurd (never key refl)
    one (Ran key moment starved parked) never new so = order_quiet a e (Ran key moment starved parked) (map (stores e) items ++ deeds) tt so
    one (Cancelled key) never new so = order_quiet a e (Cancelled key) (map (stores e) items ++ deeds) tt so
    one (Cut cause) never new so = order_quiet a e (Cut cause) (map (stores e) items ++ deeds) tt so

-- a completion is handed out
order_sent : (e : ℕ) (x : Completion) (deeds : List Deed) → InOrderBut idle deeds → InOrderBut (hands e x) (stores e (Sent x.key) ∷ deeds)
order_sent e x deeds is c d = by (e == d)
  where
    added : (b : Bool) → cons_option (cond b (Some (x.key).index) None) [] ++ filter (came c (journal d deeds)) (completed c deeds) ≡ cons_option (cond b (Some (x.key).index) None) (sent c (journal d deeds))
    added true = ap (λ (xs : List ℕ). (x.key).index ∷ xs) (is c d)
    added false = is c d

    by : (b : Bool) → cond b (cons_option (on c (x.key).channel (x.key).index) []) [] ++ filter (came c (cons_option (cond b (Some (Sent x.key)) None) (journal d deeds))) (completed c deeds) ≡ sent c (cons_option (cond b (Some (Sent x.key)) None) (journal d deeds))
    by true = added ((x.key).channel == c)
    by false = is c d

-- it is written
order_written : (e : ℕ) (x : Completion) (m : List ℕ) (deeds : List Deed) → Has (Came x.key) (journal e deeds) → ((d : ℕ) → Has (Came x.key) (journal d deeds) → e ≡ d) → InOrderBut (hands e x) deeds → InOrderBut idle (completes x.key m ∷ deeds)
order_written e x m deeds came_there alone is c d = by (e == d) refl ((x.key).channel == c) refl (is c d)
  where
    k : Key
    k = x.key

    keep : (t : Bool) → t ≡ true → cond t ((x.key).index ∷ filter (came c (journal d deeds)) (completed c deeds)) (filter (came c (journal d deeds)) (completed c deeds)) ≡ (x.key).index ∷ filter (came c (journal d deeds)) (completed c deeds)
    keep true f = refl
    keep false f = absurd (cc f)

    gone : (t : Bool) → t ≡ false → cond t ((x.key).index ∷ filter (came c (journal d deeds)) (completed c deeds)) (filter (came c (journal d deeds)) (completed c deeds)) ≡ filter (came c (journal d deeds)) (completed c deeds)
    gone true f = absurd (cc f)
    gone false f = refl

    there : (e == d) ≡ true → ((x.key).channel == c) ≡ true → came c (journal d deeds) (x.key).index ≡ true
    there f g = subst (λ (n : ℕ). came n (journal d deeds) (x.key).index ≡ true) (eqb-true (x.key).channel c g) (came_true x.key (journal d deeds) (subst (λ (n : ℕ). Has (Came x.key) (journal n deeds)) (eqb-true e d f) came_there))

    elsewhere : (e == d) ≡ false → ((x.key).channel == c) ≡ true → came c (journal d deeds) (x.key).index ≡ false
    elsewhere f g = subst (λ (n : ℕ). came n (journal d deeds) (x.key).index ≡ false) (eqb-true (x.key).channel c g) (never_came x.key (journal d deeds) (λ has. let t = eq-eqb e d (alone d has) in cc (t, f)))

    by : (a : Bool) → (e == d) ≡ a → (b : Bool) → ((x.key).channel == c) ≡ b
        → cond a (cons_option (cond b (Some (x.key).index) None) []) [] ++ filter (came c (journal d deeds)) (completed c deeds) ≡ sent c (journal d deeds)
        → filter (came c (journal d deeds)) (cons_option (cond b (Some (x.key).index) None) (completed c deeds)) ≡ sent c (journal d deeds)
    by true f true g was = keep (came c (journal d deeds) (x.key).index) (there f g) ∙ was
    by true f false g was = was
    by false f true g was = gone (came c (journal d deeds) (x.key).index) (elsewhere f g) ∙ was
    by false f false g was = was

-- an answer to a key that never came is none of those
order_direct : (a : Asking) (k : Key) (m : List ℕ) (deeds : List Deed) → ((d : ℕ) → Has (Came k) (journal d deeds) → ⊥) → InOrderBut a deeds → InOrderBut a (completes k m ∷ deeds)
order_direct a k m deeds never is c d = by (k.channel == c) refl
  where
    gone : (t : Bool) → t ≡ false → cond t (k.index ∷ filter (came c (journal d deeds)) (completed c deeds)) (filter (came c (journal d deeds)) (completed c deeds)) ≡ filter (came c (journal d deeds)) (completed c deeds)
    gone true f = absurd (cc f)
    gone false f = refl

    by : (b : Bool) → (k.channel == c) ≡ b → owed c d a ++ filter (came c (journal d deeds)) (cons_option (cond b (Some k.index) None) (completed c deeds)) ≡ sent c (journal d deeds)
    by true f = ap (λ (xs : List ℕ). owed c d a ++ xs) (gone (came c (journal d deeds) k.index) (subst (λ (n : ℕ). came n (journal d deeds) k.index ≡ false) (eqb-true k.channel c f) (never_came k (journal d deeds) (never d)))) ∙ is c d
    by false f = is c d

-- ---- what calls of a station store: nothing is sent but by a collection

abbrev pub IsNoCollection : StationCall → Type 0
IsNoCollection (collects (Some c)) = ⊥
IsNoCollection _ = Unit {0}

pub record StoresUnsent (old new : Of) : Type 0 where
  pub more : List Item
  pub longer : new.journal ≡ old.journal ++ more
  pub unsent : (key : Key) → Has (Sent key) more → ⊥

unsent_same : (old new s : Of) → new ≡ s → s.journal ≡ old.journal → StoresUnsent old new
unsent_same old new s is same = record { more = []; longer = ap (λ (x : Of). x.journal) is ∙ same ∙ sym (append-nil old.journal); unsent = λ key none. none }

unsent_some : (old new s : Of) (more : List Item) → new ≡ s → s.journal ≡ old.journal ++ more → ((key : Key) → Has (Sent key) more → ⊥) → StoresUnsent old new
unsent_some old new s more is longer none = record { more = more; longer = ap (λ (x : Of). x.journal) is ∙ longer; unsent = none }

no_cancel_sent : (jobs : List Job) (key : Key) → Has (Sent key) (map (λ (job : Job). Cancelled job.key) jobs) → ⊥
no_cancel_sent [] key none = none
no_cancel_sent (job ∷ jobs) key (inl same) = cc (same)
no_cancel_sent (job ∷ jobs) key (inr later) = no_cancel_sent jobs key later

announce_unsent : (old new : Of) (answer : Result (Unit {0}) AnnounceNo) → station.announce old ≡ (new, answer) → StoresUnsent old new
announce_unsent old new answer e = unsent_same old new (station.announce old).0 (sym (ap (λ (r : Of × Result (Unit {0}) AnnounceNo). r.0) e)) (by old.live (nat_le max_entries (entry_count old)))
  where
    by : (a b : Bool) → let s = (cond {A = Of × Result (Unit {0}) AnnounceNo} a (old, Err unannounced.Live) (cond b (old, Err (unannounced.Worn (entry_count old))) (record old { live = true }, Ok tt))).0 in s.journal ≡ old.journal
    by true b = refl
    by false true = refl
    by false false = refl

drop_unsent : (old new : Of) (cut : ServedDeviceState) → new.journal ≡ (let s = drop_channel old cut in s.journal) → StoresUnsent old new
drop_unsent old new cut e = by old.live e
  where
    by : (b : Bool) → new.journal ≡ (let s = cond b (record (emptied old) { device = cut; live = false; journal = old.journal ++ Cut Dropped ∷ [] }) (emptied old) in s.journal) → StoresUnsent old new
    by true f = record { more = Cut Dropped ∷ []; longer = f; unsent = λ key has. elim has [ inl same ↦ cc (same) | inr none ↦ none ] }
    by false f = record { more = []; longer = f ∙ sym (append-nil old.journal); unsent = λ key none. none }

pub step_unsent : (old new : Of) (call : StationCall) → IsNoCollection call → Step old call new → StoresUnsent old new
step_unsent old new (announces (Ok done)) own e = announce_unsent old new (Ok done) e
step_unsent old new (announces (Err unannounced.Memory)) own e = unsent_same old new old e.1 refl
step_unsent old new (announces (Err unannounced.Live)) own e = announce_unsent old new (Err unannounced.Live) e
step_unsent old new (announces (Err (unannounced.Worn count))) own e = announce_unsent old new (Err (unannounced.Worn count)) e
step_unsent old new (puts job None) own e = by (put_refusal old job) e.1
  where
    by : (found : Option PutWhy) → put_unless old job found ≡ (new, None) → StoresUnsent old new
    by None f = unsent_some old new (put_unless old job None).0 (Came job.key ∷ []) (sym (ap (λ (r : Of × Option PutWhy). r.0) f)) refl (λ key has. elim has [ inl same ↦ cc (same) | inr none ↦ none ])
    by (Some cause) f = absurd (let g : Some cause ≡ None = ap (λ (r : Of × Option PutWhy). r.1) f in cc (g))
step_unsent old new (puts job (Some refusal)) own e = unsent_same old new old (put_refused old new job refusal.why e.1) refl
step_unsent old new (puts_unfit job back) own e = unsent_same old new old e.1 refl
step_unsent old new (takes answer) own e = unsent_same old new (station.take old).0 (sym (ap (λ (r : Of × Given). r.0) e)) (by old.ended old.waiting)
  where
    by : (b : Bool) (jobs : List Job) → let s = (cond {A = Of × Given} b (old, given.Over) (take_first old jobs)).0 in s.journal ≡ old.journal
    by true jobs = refl
    by false [] = refl
    by false (job ∷ jobs) = refl
step_unsent old new (applies planned moment answer) own e = by (find (λ (t : InHand). is_key t.key planned.job.key) old.taken) e.1
  where
    hand : (t : InHand) (b : Bool)
        → cond {A = Of × Applied} b (cancelled_in_hand old t (kind_of planned.job.op), applied.Cancelled) (ran old t (kind_of planned.job.op) moment e.0, cond (is_parked (e.0).answer) applied.Parked applied.Ran) ≡ (new, answer) → StoresUnsent old new
    hand t true f = unsent_some old new (cancelled_in_hand old t (kind_of planned.job.op)) (Cancelled t.key ∷ []) (sym (ap (λ (r : Of × Applied). r.0) f)) refl (λ key has. elim has [ inl same ↦ cc (same) | inr none ↦ none ])
    hand t false f = unsent_some old new (ran old t (kind_of planned.job.op) moment e.0) (Ran t.key moment (is_starved (e.0).answer) (is_parked (e.0).answer) ∷ []) (sym (ap (λ (r : Of × Applied). r.0) f)) refl
        (λ key has. elim has [ inl same ↦ cc (same) | inr none ↦ none ])

    by : (found : Option InHand) → apply_from old planned.job moment e.0 found ≡ (new, answer) → StoresUnsent old new
    by None f = unsent_same old new old (sym (ap (λ (r : Of × Applied). r.0) f)) refl
    by (Some t) f = hand t t.removed f
step_unsent old new (collects None) own e = by old.ready e
  where
    by : (cs : List Completion) → station.collect_first old cs ≡ (new, None) → StoresUnsent old new
    by [] f = unsent_same old new old (sym (ap (λ (r : Of × Option Completion). r.0) f)) refl
    by (c ∷ cs) f = absurd (let g : Some c ≡ None = ap (λ (r : Of × Option Completion). r.1) f in cc (g))
step_unsent old new (collects (Some c)) own e = absurd own
step_unsent old new (removes answer) own e = by old.live e.1
  where
    gone : Of
    gone = record old {
      device = e.0;
      live = false;
      waiting = [];
      taken = map marked_removed old.taken;
      parked = [];
      ready = old.ready ++ map cancelled_parked old.parked ++ map cancelled_waiting old.waiting;
      journal = old.journal ++ Cut Removed ∷ map (λ (job : Job). Cancelled job.key) old.waiting;
    }

    by : (b : Bool) → cond {A = Of × Bool} (not b) (old, false) (gone, true) ≡ (new, answer) → StoresUnsent old new
    by false f = unsent_same old new old (sym (ap (λ (r : Of × Bool). r.0) f)) refl
    by true f = unsent_some old new gone (Cut Removed ∷ map (λ (job : Job). Cancelled job.key) old.waiting) (sym (ap (λ (r : Of × Bool). r.0) f)) refl
        (λ key has. elim has [ inl same ↦ cc (same) | inr later ↦ no_cancel_sent old.waiting key later ])
step_unsent old new drops own e = drop_unsent old new e.0 (ap (λ (s : Of). s.journal) (sym e.1))
step_unsent old new ends own e = drop_unsent old new e.0 (ap (λ (s : Of). s.journal) (sym e.1))

abbrev pub AreNoCollections : List StationCall → Type 0
AreNoCollections list = AllByRecursion IsNoCollection list

pub steps_unsent : (list : List StationCall) (old new : Of) → AreNoCollections list → Steps old list new → StoresUnsent old new
steps_unsent [] old new own is = unsent_same old new old is refl
steps_unsent (call ∷ others) old new own steps =
    let first = step_unsent old steps.0 call own.0 steps.1 in
    let later = steps_unsent others steps.0 new own.1 steps.2 in
    record {
      more = first.more ++ later.more;
      longer = later.longer ∙ ap (λ (j : List Item). j ++ later.more) first.longer ∙ append_assoc old.journal first.more later.more;
      unsent = λ key has. elim (has_append (Sent key) first.more later.more has) [ inl one ↦ first.unsent key one | inr other ↦ later.unsent key other ];
    }

-- ---- each part

-- no completion that was collected was lost
abbrev pub AreWritten : List (List FrontPart) → Type 0
AreWritten parts = AllByRecursion (λ ps. AllByRecursion (λ p. is_lost p ≡ false) ps) parts

abbrev NotHands : Asking → Type 0
NotHands (hands device c) = ⊥
NotHands _ = Unit {0}

to_idle : (a : Asking) (deeds : List Deed) → NotHands a → InOrderBut a deeds → InOrderBut idle deeds
to_idle idle deeds none is = is
to_idle (asks k) deeds none is = is
to_idle (refused k cause) deeds none is = is
to_idle (hands device c) deeds none is = absurd none

from_idle : (a : Asking) (deeds : List Deed) → NotHands a → InOrderBut idle deeds → InOrderBut a deeds
from_idle idle deeds none is = is
from_idle (asks k) deeds none is = is
from_idle (refused k cause) deeds none is = is
from_idle (hands device c) deeds none is = absurd none

-- from one that is no completion handed out to another
turns : (a b x y : Asking) (deeds : List Deed) → a ≡ x → b ≡ y → NotHands x → NotHands y → InOrderBut a deeds → InOrderBut b deeds
turns a b x y deeds is was none never order = subst (λ (z : Asking). InOrderBut z deeds) (sym was) (from_idle y deeds never (to_idle x deeds none (subst (λ (z : Asking). InOrderBut z deeds) is order)))

each_tail : {A : Type 0} (P : List A → A → Type 0) (xs ys : List A) → EachAfter P (xs ++ ys) → EachAfter P ys
each_tail P [] ys each = each
each_tail P (x ∷ xs) ys each = each_tail P xs ys each.1

-- what came was completed by none, by what stands
fresh_of : (e : ℕ) (items : List Item) (deeds : List Deed) → EachAfter Stands (map (stores e) items ++ deeds) → (key : Key) → Has (Came key) items → list_any (is_completion_of key) deeds ≡ false
fresh_of e [] deeds each key none = absurd none
fresh_of e (x ∷ items) deeds each key (inl here) =
    let one : Stands (map (stores e) items ++ deeds) (stores e (Came key)) = subst (λ (y : Item). Stands (map (stores e) items ++ deeds) (stores e y)) (sym here) each.0 in
    sym (stored_same key e items deeds) ∙ one.3
fresh_of e (x ∷ items) deeds each key (inr later) = fresh_of e items deeds each.1 key later

to_back : {A : Type 0} (x : A) (xs : List A) → Has x (reverse xs) → Has x xs
to_back x xs has = turned_has x xs has

order_stored : (a : Asking) (e : ℕ) (items : List Item) (deeds : List Deed) → ((key : Key) → Has (Sent key) items → ⊥) → EachAfter Stands (stored e items ++ deeds) → InOrderBut a deeds → InOrderBut a (stored e items ++ deeds)
order_stored a e items deeds unsent each is = order_items a e (reverse items) deeds (λ key has. unsent key (to_back (Sent key) items has)) (fresh_of e (reverse items) deeds each) is

work_no_collections : (list : List StationCall) → AllByRecursion IsWork list → AreNoCollections list
work_no_collections [] work = tt
work_no_collections (call ∷ others) work = (one call work.0, work_no_collections others work.1)
  where
    one : (c : StationCall) → IsWork c → IsNoCollection c
    one (takes answer) is = tt
    one (applies planned moment answer) is = tt
    one (announces answer) is = absurd is
    one (puts job answer) is = absurd is
    one (puts_unfit job back) is = absurd is
    one (collects answer) is = absurd is
    one (removes answer) is = absurd is
    one drops is = absurd is
    one ends is = absurd is

called_unsent : (d e : DeviceDeskState) (first last : Of) (does : DeskCall) (back : DeskReply) (items : List Item) → CallsDesk d e first does back items last → AreNoCollections (told_by does back) → (key : Key) → Has (Sent key) items → ⊥
called_unsent d e first last does back items called none key has =
    let work = steps_unsent called.works.calls first called.middle (work_no_collections called.works.calls called.works.work) called.works.steps in
    let own = steps_unsent (told_by does back) called.middle last none (called.step).0 in
    let both : last.journal ≡ first.journal ++ work.more ++ own.more = own.longer ∙ ap (λ (j : List Item). j ++ own.more) work.longer in
    let same : items ≡ work.more ++ own.more = cancel first.journal items (work.more ++ own.more) (sym called.stored ∙ both ∙ append_assoc first.journal work.more own.more) in
    elim (has_append (Sent key) work.more own.more (subst (Has (Sent key)) same has)) [ inl one ↦ work.unsent key one | inr other ↦ own.unsent key other ]

-- a completion is handed out by a desk
collects_order : (p q : Served) (place id : ℕ) (c : Completion) (items : List Item) (deeds : List Deed) → CallsAt p place id desk.Collect (replied.Collected (Some c)) items q → EachAfter Stands (stored id items ++ deeds) → InOrderBut idle deeds → InOrderBut (hands id c) (stored id items ++ deeds)
collects_order p q place id c items deeds at each is =
    let called = at.called in
    let work = steps_unsent called.works.calls at.first called.middle (work_no_collections called.works.calls called.works.work) called.works.steps in
    let ready = collected_ready called.middle ((called.step).0).0 c ((called.step).0).1 in
    let both : (at.last).journal ≡ (at.first).journal ++ work.more ++ Sent c.key ∷ [] = ap (λ (s : Of). s.journal) ((called.step).0).2 ∙ ready.1 ∙ ap (λ (j : List Item). j ++ Sent c.key ∷ []) work.longer in
    let same : items ≡ work.more ++ Sent c.key ∷ [] = cancel (at.first).journal items (work.more ++ Sent c.key ∷ []) (sym called.stored ∙ both ∙ append_assoc (at.first).journal work.more (Sent c.key ∷ [])) in
    let turned : stored id items ++ deeds ≡ stores id (Sent c.key) ∷ (stored id work.more ++ deeds) = ap (λ (xs : List Item). map (stores id) xs ++ deeds) (ap reverse same ∙ reverse-append work.more (Sent c.key ∷ [])) in
    let stand : EachAfter Stands (stores id (Sent c.key) ∷ (stored id work.more ++ deeds)) = subst (EachAfter Stands) turned each in
    subst (InOrderBut (hands id c)) (sym turned) (order_sent id c (stored id work.more ++ deeds) (order_stored idle id work.more deeds work.unsent stand.1 is))

calls_order : (p q : Served) (place id : ℕ) (does : DeskCall) (back : DeskReply) (items : List Item) (deeds : List Deed) → CallsAt p place id does back items q → EachAfter Stands (stored id items ++ deeds) → InOrderBut p.asking deeds → InOrderBut q.asking (stored id items ++ deeds)
calls_order p q place id desk.Announce (replied.Announced answer) items deeds at each is = subst (λ (z : Asking). InOrderBut z (stored id items ++ deeds)) (sym at.asking_is)
    (order_stored p.asking id items deeds (called_unsent at.before at.after at.first at.last desk.Announce (replied.Announced answer) items at.called (tt, tt)) each is)
calls_order p q place id desk.Remove (replied.Removed answer) items deeds at each is = subst (λ (z : Asking). InOrderBut z (stored id items ++ deeds)) (sym at.asking_is)
    (order_stored p.asking id items deeds (called_unsent at.before at.after at.first at.last desk.Remove (replied.Removed answer) items at.called (tt, tt)) each is)
calls_order p q place id desk.Collect (replied.Collected None) items deeds at each is = subst (λ (z : Asking). InOrderBut z (stored id items ++ deeds)) (sym at.asking_is)
    (order_stored p.asking id items deeds (called_unsent at.before at.after at.first at.last desk.Collect (replied.Collected None) items at.called (tt, tt)) each is)
calls_order p q place id desk.Collect (replied.Collected (Some c)) items deeds at each is = subst (λ (z : Asking). InOrderBut z (stored id items ++ deeds)) (sym (at.asking_is).1)
    (collects_order p q place id c items deeds at each (subst (λ (z : Asking). InOrderBut z deeds) (at.asking_is).0 is))
calls_order p q place id (desk.Put job) (replied.Put (Ok done)) items deeds at each is = turns p.asking q.asking (asks ((at.asking_is).0).kept) idle (stored id items ++ deeds) ((at.asking_is).0).asked (at.asking_is).1 tt tt
    (order_stored p.asking id items deeds (called_unsent at.before at.after at.first at.last (desk.Put job) (replied.Put (Ok done)) items at.called (tt, tt)) each is)
calls_order p q place id (desk.Put job) (replied.Put (Err refusal)) items deeds at each is = turns p.asking q.asking (asks ((at.asking_is).0).kept) (refused ((at.asking_is).0).kept refusal.why) (stored id items ++ deeds) ((at.asking_is).0).asked (at.asking_is).1 tt tt
    (order_stored p.asking id items deeds (called_unsent at.before at.after at.first at.last (desk.Put job) (replied.Put (Err refusal)) items at.called (tt, tt)) each is)
calls_order p q place id (desk.Put job) (replied.Unfit back) items deeds at each is = turns p.asking q.asking (asks ((at.asking_is).0).kept) idle (stored id items ++ deeds) ((at.asking_is).0).asked (at.asking_is).1 tt tt
    (order_stored p.asking id items deeds (called_unsent at.before at.after at.first at.last (desk.Put job) (replied.Unfit back) items at.called (tt, tt)) each is)
calls_order p q place id (desk.Put job) (replied.Announced answer) items deeds at each is = absurd (at.asking_is).1
calls_order p q place id (desk.Put job) (replied.Worked w) items deeds at each is = absurd (at.asking_is).1
calls_order p q place id (desk.Put job) (replied.Collected answer) items deeds at each is = absurd (at.asking_is).1
calls_order p q place id (desk.Put job) (replied.Removed answer) items deeds at each is = absurd (at.asking_is).1
calls_order p q place id (desk.Put job) replied.Dropped items deeds at each is = absurd (at.asking_is).1
calls_order p q place id (desk.Put job) replied.Ended items deeds at each is = absurd (at.asking_is).1
calls_order p q place id desk.Announce (replied.Put answer) items deeds at each is = absurd ((at.called).step).1
calls_order p q place id desk.Announce (replied.Unfit job) items deeds at each is = absurd ((at.called).step).1
calls_order p q place id desk.Announce (replied.Worked w) items deeds at each is = absurd ((at.called).step).1
calls_order p q place id desk.Announce (replied.Collected answer) items deeds at each is = absurd ((at.called).step).1
calls_order p q place id desk.Announce (replied.Removed answer) items deeds at each is = absurd ((at.called).step).1
calls_order p q place id desk.Announce replied.Dropped items deeds at each is = absurd ((at.called).step).1
calls_order p q place id desk.Announce replied.Ended items deeds at each is = absurd ((at.called).step).1
calls_order p q place id desk.Remove (replied.Announced answer) items deeds at each is = absurd ((at.called).step).1
calls_order p q place id desk.Remove (replied.Put answer) items deeds at each is = absurd ((at.called).step).1
calls_order p q place id desk.Remove (replied.Unfit job) items deeds at each is = absurd ((at.called).step).1
calls_order p q place id desk.Remove (replied.Worked w) items deeds at each is = absurd ((at.called).step).1
calls_order p q place id desk.Remove (replied.Collected answer) items deeds at each is = absurd ((at.called).step).1
calls_order p q place id desk.Remove replied.Dropped items deeds at each is = absurd ((at.called).step).1
calls_order p q place id desk.Remove replied.Ended items deeds at each is = absurd ((at.called).step).1
calls_order p q place id desk.Collect (replied.Announced answer) items deeds at each is = absurd ((at.called).step).1
calls_order p q place id desk.Collect (replied.Put answer) items deeds at each is = absurd ((at.called).step).1
calls_order p q place id desk.Collect (replied.Unfit job) items deeds at each is = absurd ((at.called).step).1
calls_order p q place id desk.Collect (replied.Worked w) items deeds at each is = absurd ((at.called).step).1
calls_order p q place id desk.Collect (replied.Removed answer) items deeds at each is = absurd ((at.called).step).1
calls_order p q place id desk.Collect replied.Dropped items deeds at each is = absurd ((at.called).step).1
calls_order p q place id desk.Collect replied.Ended items deeds at each is = absurd ((at.called).step).1
calls_order p q place id (desk.Work runs) back items deeds at each is = absurd at.own
calls_order p q place id desk.DropChannel back items deeds at each is = absurd at.own
calls_order p q place id desk.End back items deeds at each is = absurd at.own

end_no_collections : (over : Bool) (back : DeskReply) (middle last : Of) → SessionDeskStep middle (end_call over) back last → AreNoCollections (told_by (end_call over) back)
end_no_collections true replied.Ended middle last step = (tt, tt)
end_no_collections true (replied.Announced answer) middle last step = absurd step.1
end_no_collections true (replied.Put answer) middle last step = absurd step.1
end_no_collections true (replied.Unfit job) middle last step = absurd step.1
end_no_collections true (replied.Worked w) middle last step = absurd step.1
end_no_collections true (replied.Collected answer) middle last step = absurd step.1
end_no_collections true (replied.Removed answer) middle last step = absurd step.1
end_no_collections true replied.Dropped middle last step = absurd step.1
end_no_collections false replied.Dropped middle last step = (tt, tt)
end_no_collections false (replied.Announced answer) middle last step = absurd step.1
end_no_collections false (replied.Put answer) middle last step = absurd step.1
end_no_collections false (replied.Unfit job) middle last step = absurd step.1
end_no_collections false (replied.Worked w) middle last step = absurd step.1
end_no_collections false (replied.Collected answer) middle last step = absurd step.1
end_no_collections false (replied.Removed answer) middle last step = absurd step.1
end_no_collections false replied.Ended middle last step = absurd step.1

ends_order : (a : Asking) (over : Bool) (ds : List DeviceDeskState) (ss : List Of) (ts : List (ℕ × List Item)) (es : List DeviceDeskState) (us : List Of) (deeds : List Deed) → EndsEach over ds ss ts es us → EachAfter Stands (stored_each ts ++ deeds) → InOrderBut a deeds → InOrderBut a (stored_each ts ++ deeds)
ends_order a over [] [] [] [] [] deeds ended each is = is
ends_order a over (d ∷ ds) (s ∷ ss) (t ∷ ts) (e ∷ es) (u ∷ us) deeds ended each is =
    let same = append_assoc (stored_each ts) (stored t.0 t.1) deeds in
    let stand : EachAfter Stands (stored_each ts ++ (stored t.0 t.1 ++ deeds)) = subst (EachAfter Stands) same each in
    subst (InOrderBut a) (sym same) (ends_order a over ds ss ts es us (stored t.0 t.1 ++ deeds) ended.3 stand
    (order_stored a t.0 t.1 deeds (called_unsent d e s u (end_call over) ended.0 t.1 ended.2 (end_no_collections over ended.0 (ended.2).middle u (ended.2).step)) (each_tail Stands (stored_each ts) (stored t.0 t.1 ++ deeds) stand) is))
ends_order a over ds ss ts es us deeds ended each is = absurd ended

asked_not : (answer : Result Heard EndFault) → NotHands (asking_by answer)
asked_not (Ok (Ask device job)) = tt
asked_not (Ok Nothing) = tt
asked_not (Ok (Print n)) = tt
asked_not (Err cause) = tt

part_order : (p q : Served) (x : FrontPart) (deeds : List Deed) → is_lost x ≡ false → PartGoes p x q → IsKnownAt p deeds → EachAfter Stands (deeds_of x ++ deeds) → InOrderBut p.asking deeds → InOrderBut q.asking (deeds_of x ++ deeds)
part_order p q (part.hears channel m answer) deeds kept goes known each is = by answer
  where
    so : InOrderBut q.asking deeds
    so = turns p.asking q.asking idle (asking_by answer) deeds goes.1 goes.4 tt (asked_not answer) is

    by : (a : Result Heard EndFault) → InOrderBut q.asking (deeds_of (part.hears channel m a) ++ deeds)
    by (Err fault.Memory) = so
    by (Err (fault.Order state packet)) = so
    by (Err (fault.Grammar bad)) = so
    by (Ok h) = so
part_order p q tries deeds kept goes known each is = turns p.asking q.asking idle (asks goes.0) deeds goes.2 (ap (λ (s : Served). s.asking) goes.4) tt tt is
part_order p q keeps deeds kept goes known each is = turns p.asking q.asking (refused goes.0 (why.Full goes.1)) idle deeds goes.2 (ap (λ (s : Served). s.asking) goes.3) tt tt is
part_order p q forgets deeds kept goes known each is = turns p.asking q.asking (refused goes.0 goes.1) idle deeds goes.2 (ap (λ (s : Served). s.asking) goes.4) tt tt is
part_order p q misplaces deeds kept goes known each is = turns p.asking q.asking (asks goes.0) idle deeds goes.1 (ap (λ (s : Served). s.asking) goes.3) tt tt is
part_order p q (directs st answer) deeds kept goes known each is = elim goes.1 [
  | inl absent ↦ turns p.asking q.asking (asks goes.0) idle deeds absent.0 goes.3 tt tt is
  | inr (inl gone) ↦ turns p.asking q.asking (refused goes.0 why.Gone) idle deeds gone.0 goes.3 tt tt is
  | inr (inr worn) ↦ turns p.asking q.asking (refused goes.0 (why.Worn worn.0)) idle deeds worn.1 goes.3 tt tt is
]
part_order p q (calls place id does back items) deeds kept goes known each is = calls_order p q place id does back items deeds goes each is
part_order p q (tells_gone device (Ok done)) deeds kept goes known each is = subst (λ (z : Asking). InOrderBut z deeds) (sym goes.1) is
part_order p q (tells_gone device (Err error)) deeds kept goes known each is = subst (λ (z : Asking). InOrderBut z deeds) (sym goes.1) is
part_order p q (tells_there device (Ok done)) deeds kept goes known each is = subst (λ (z : Asking). InOrderBut z deeds) (sym goes.1) is
part_order p q (tells_there device (Err error)) deeds kept goes known each is = subst (λ (z : Asking). InOrderBut z deeds) (sym goes.1) is
part_order p q (sends channel None) deeds kept goes known each is = subst (λ (z : Asking). InOrderBut z deeds) (sym goes.2) is
part_order p q (sends channel (Some o)) deeds kept goes known each is =
    let (rest, first, then) = sent_first (p.front).client (q.front).client o (goes.1).0 in
    subst (λ (z : Asking). InOrderBut z (sent_by channel o.message o.answers ++ deeds)) (sym goes.2) (by o.answers (known.standing.out o (subst (Has o) (sym first) (inl refl))))
  where
    by : (answers : Option Key) → IsOut (IsUnserved p) answers o.message → InOrderBut p.asking (sent_by channel o.message answers ++ deeds)
    by None other = is
    by (Some key) mine = order_direct p.asking key o.message deeds (λ d came. mine.unnamed (came_here p deeds known.told known.standing d key came)) is
part_order p q (writes device c) deeds kept goes known each is =
    subst (λ (z : Asking). InOrderBut z (deeds_of (writes device c) ++ deeds)) (sym (ap (λ (s : Served). s.asking) goes.1))
    (let came = (known.standing.handing device c goes.0).1 in
    order_written device c (completion_message device c) deeds came (λ d other. one_device deeds known.read c.key device d came other) (subst (λ (z : Asking). InOrderBut z deeds) goes.0 is))
part_order p q (unwritten device c) deeds kept goes known each is = absurd (cc (kept))
part_order p q (learns n answer) deeds kept goes known each is = subst (λ (z : Asking). InOrderBut z deeds) (sym (ap (λ (s : Served). s.asking) goes.1)) is
part_order p q (refreshes device) deeds kept goes known each is = subst (λ (z : Asking). InOrderBut z deeds) (sym (ap (λ (s : Served). s.asking) goes)) is
part_order p q (begins channel) deeds kept goes known each is = subst (λ (z : Asking). InOrderBut z deeds) (sym (ap (λ (s : Served). s.asking) goes.3)) is
part_order p q (part.ends over told) deeds kept goes known each is =
    turns p.asking q.asking idle idle (stored_each told ++ deeds) goes.0 goes.3 tt tt (ends_order p.asking over (p.front).desks p.stations told (q.front).desks q.stations deeds goes.1 each is)

parts_order : (ps : List FrontPart) (p q : Served) (deeds : List Deed) → AllByRecursion (λ (x : FrontPart). is_lost x ≡ false) ps → PartsGo p ps q → IsKnownAt p deeds → InOrderBut p.asking deeds → InOrderBut q.asking (deeds_after ps deeds)
parts_order [] p q deeds kept goes known is = subst (λ (s : Served). InOrderBut s.asking deeds) (sym goes) is
parts_order (x ∷ ps) p q deeds kept goes known is =
    let next = part_known p goes.0 x deeds goes.1 known in
    parts_order ps goes.0 q (deeds_of x ++ deeds) kept.1 goes.2 next (part_order p goes.0 x deeds kept.0 goes.1 known next.standing.stand is)

pub history_order : (entries : List (Entry FrontCall FrontReply)) (parts : List (List FrontPart)) (p q : Served) (deeds : List Deed) → AreWritten parts → HistoryGoes p entries parts q → IsKnownAt p deeds → p.asking ≡ idle → InOrderBut idle deeds → InOrderBut idle (deeds_of_calls parts deeds)
history_order [] [] p q deeds kept goes known none is = is
history_order [] (ps ∷ parts) p q deeds kept goes known none is = absurd goes
history_order (e ∷ entries) [] p q deeds kept goes known none is = absurd goes
history_order (e ∷ entries) (ps ∷ parts) p q deeds kept goes known none is =
    let after = parts_order ps p goes.0 deeds kept.0 (goes.1).goes known (subst (λ (z : Asking). InOrderBut z deeds) (sym none) is) in
    history_order entries parts goes.0 q (deeds_after ps deeds) kept.1 goes.2 (parts_known ps p goes.0 deeds (goes.1).goes known) (goes.1).after (subst (λ (z : Asking). InOrderBut z (deeds_after ps deeds)) (goes.1).after after)

-- where no reply says that memory was wanting, no completion was lost
none_lost : (ps : List FrontPart) → (Among (λ p. is_lost p ≡ true) ps → ⊥) → AllByRecursion (λ (x : FrontPart). is_lost x ≡ false) ps
none_lost [] none = tt
none_lost (x ∷ ps) none = (by (is_lost x) refl, none_lost ps (λ some. none (inr some)))
  where
    by : (b : Bool) → is_lost x ≡ b → is_lost x ≡ false
    by true e = absurd (none (inl e))
    by false e = e

pub all_written : (entries : List (Entry FrontCall FrontReply)) (parts : List (List FrontPart)) (p q : Served) → HistoryGoes p entries parts q → AllByRecursion (λ (e : Entry FrontCall FrontReply). ¬ (RanOut e.reply)) entries → AreWritten parts
all_written [] [] p q goes none = tt
all_written [] (ps ∷ parts) p q goes none = absurd goes
all_written (e ∷ entries) [] p q goes none = absurd goes
all_written (e ∷ entries) (ps ∷ parts) p q goes none = (none_lost ps (λ some. none.0 ((goes.1).tells.lost some)), all_written entries parts goes.0 q goes.2 none.1)
