-- What holds of all channels, applications and devices where few are named; and lines that end as they should.
use Rattle.std.proofs.Common.{◌≡◌, ◌∙◌, refl, sym, ap, subst, inl, inr, ℕ, suc, Bool, true, false, List, [], ◌∷◌, ◌++◌, take, drop, take-append-drop, eqb-true, Option, Some, None, slice_get, Ok}
use Rattle.std.specs.Prelude.{filter_map}
use Rattle.std.specs.List.{AllByRecursion, list_all, list_any}
use Rattle.std.specs.Option.{option_and_then, option_map_or}
use Rattle.std.proofs.lemmas.Bool.{and_parts, or_cases, cases_Bool}
use Rattle.rd_pending.specs.declared.calls.Outcome as table_outcome
use Rattle.rd_pending.specs.declared.calls.Handle.{Handle}
use Rattle.rd_pending.specs.declared.calls.Taken.{Taken}
use Rattle.rd_pending.specs.declared.calls.Target.{Target}
use Rattle.rd_pending.specs.History.{Call, accepted_in, outcome_in}
use Rattle.rd_pending.specs.Outcomes.{Accepted}
use Rattle.rd_pending.specs.Table as table
use Rattle.rd_pending.specs.Table.{submit_refusal}
use Rattle.rd_script.specs.declared.line.NumberedLine.{NumberedLine}
use Rattle.rd_script.specs.declared.outcome.Outcome.{Outcome}
use Rattle.rd_world.specs.Acts.{HasOpened, Opens}
use Rattle.rd_world.specs.Control.{Control, controlled}
use Rattle.rd_declared.specs.Devices.{Declared}
use Rattle.rd_world.specs.Events.{target_of}
use Rattle.rd_deeds.specs.Host.{HostSide}
use Rattle.rd_world.specs.Hearing.{given_handle, holding_after, reported_outcome}
use Rattle.rd_deeds.specs.HostDeeds.{side_of}
use Rattle.rd_world.specs.Lines.{AskedEnds, IsAccepted, IsDue, IsHandedOut, LineEnds, LinesEnd, SubmitsNothing, Waits, given_at, is_submission_of, outcome_at, submitted, waits_after}
use Rattle.rd_world.specs.Recording.{client_id}
use Rattle.rd_world.specs.Run.{asked_by}
use Rattle.rd_deeds.specs.Talk.{Deed, client_wrote, completes, client_writes, host_begins, host_ends, host_read, host_reads, host_writes, host_wrote, is_open_at, journal, on, read_by_host, stored_by, stores, submits, takes, written_by_client, written_by_host}
use Rattle.rd_world.specs.World.{ApplicationState, Asked}
use Rattle.rd_deeds.proofs.TestedDeeds.{along, along_is}
use Rattle.rd_deeds.proofs.TestedTelling.{among, strange}

-- ---- few are named

of_named : (P : ℕ → Type 0) (xs : List ℕ) → AllByRecursion P xs → (x : ℕ) → among x xs ≡ true → P x
of_named P [] all x is = absurd (cc)
of_named P (y ∷ ys) all x is = elim (or_cases _ _ is) [
  | inl same ↦ subst P (sym (eqb-true x y same)) all.0
  | inr later ↦ of_named P ys all.1 x later
]

-- what holds of those that are named, and of each other one, holds of all
pub of_each : (P : ℕ → Type 0) (xs : List ℕ) → AllByRecursion P xs → ((x : ℕ) → among x xs ≡ false → P x) → (x : ℕ) → P x
of_each P xs all others x = elim (cases_Bool (among x xs)) [
  | inl is ↦ of_named P xs all x is
  | inr isnt ↦ others x isnt
]

-- nothing is kept of a list where nothing is kept of each member
none_kept : {A B : Type 0} (f : A → Option B) (p : A → Bool) → ((x : A) → p x ≡ true → f x ≡ None) → (xs : List A) → list_all p xs ≡ true → filter_map f xs ≡ []
none_kept f p none [] e = refl
none_kept f p none (x ∷ xs) e = let parts = and_parts _ _ e in rw (none x parts.0) (none_kept f p none xs parts.1)

-- what stands under other numbers is not on a channel
not_on : {A : Type 0} (named : List ℕ) (c : ℕ) → among c named ≡ false → (channel : ℕ) (x : A) → among channel named ≡ true → on c channel x ≡ None
not_on named c isnt channel x e = let other = strange channel c named e isnt in rw other refl

-- things that stand under these numbers
abbrev pub are_under : {A : Type 0} → List ℕ → List (ℕ × A) → Bool
are_under named things = list_all (λ t. among t.0 named) things

pub none_under : {A : Type 0} (named : List ℕ) (things : List (ℕ × A)) → are_under named things ≡ true → (c : ℕ) → among c named ≡ false → filter_map {X = ℕ × A} {Y = A} (λ t. on c t.0 t.1) things ≡ []
none_under {A} named things e c isnt = none_kept {A = ℕ × A} {B = A} (λ t. on c t.0 t.1) (λ t. among t.0 named) (λ t is. not_on named c isnt t.0 t.1 is) things e

-- ---- deeds on few channels, of few devices, by few applications

-- a deed is on one of these channels, of one of these devices, and by one of these applications
abbrev pub is_within : List ℕ → List ℕ → List ℕ → Deed → Bool
is_within channels devices applications (host_begins c) = among c channels
is_within channels devices applications (host_writes c m) = among c channels
is_within channels devices applications (host_reads c m) = among c channels
is_within channels devices applications (client_writes c m) = among c channels
is_within channels devices applications (completes key m) = among key.channel channels
is_within channels devices applications (stores device item) = among device devices
is_within channels devices applications (submits a named o) = among a applications
is_within channels devices applications _ = true

module _ (channels devices applications : List ℕ) where
  abbrev pub are_within : List Deed → Bool
  are_within deeds = list_all (is_within channels devices applications) deeds

  module _ (deeds : List Deed) (within : are_within deeds ≡ true) where
    pub none_host_wrote : (c : ℕ) → among c channels ≡ false → host_wrote c deeds ≡ []
    none_host_wrote c isnt = none_kept (written_by_host c) (is_within channels devices applications) one deeds within
      where
        one : (x : Deed) → is_within channels devices applications x ≡ true → written_by_host c x ≡ None
        one (host_writes channel m) e = not_on channels c isnt channel m e
        one _ e = refl

    pub none_host_read : (c : ℕ) → among c channels ≡ false → host_read c deeds ≡ []
    none_host_read c isnt = none_kept (read_by_host c) (is_within channels devices applications) one deeds within
      where
        one : (x : Deed) → is_within channels devices applications x ≡ true → read_by_host c x ≡ None
        one (host_reads channel m) e = not_on channels c isnt channel m e
        one _ e = refl

    pub none_client_wrote : (c : ℕ) → among c channels ≡ false → client_wrote c deeds ≡ []
    none_client_wrote c isnt = none_kept (written_by_client c) (is_within channels devices applications) one deeds within
      where
        one : (x : Deed) → is_within channels devices applications x ≡ true → written_by_client c x ≡ None
        one (client_writes channel m) e = not_on channels c isnt channel m e
        one (completes key m) e = not_on channels c isnt key.channel m e
        one _ e = refl

    pub none_stored : (d : ℕ) → among d devices ≡ false → journal d deeds ≡ []
    none_stored d isnt = none_kept (stored_by d) (is_within channels devices applications) one deeds within
      where
        one : (x : Deed) → is_within channels devices applications x ≡ true → stored_by d x ≡ None
        one (stores device item) e = not_on devices d isnt device item e
        one _ e = refl

  pub rest_within : (x : Deed) (before : List Deed) → are_within (x ∷ before) ≡ true → are_within before ≡ true
  rest_within x before e = (and_parts (is_within channels devices applications x) _ e).1

  pub none_by : (deeds : List Deed) → are_within deeds ≡ true → (a : ℕ) → among a applications ≡ false → list_any (is_submission_of a) deeds ≡ false
  none_by [] within a isnt = refl
  none_by (submits application named o ∷ before) within a isnt =
      let parts = and_parts _ _ within in
      let other = strange application a applications parts.0 isnt in
      rw other (none_by before parts.1 a isnt)
  none_by (x ∷ before) within a isnt = none_by before (rest_within x before within) a isnt

  not_open : (deeds : List Deed) → are_within deeds ≡ true → (c : ℕ) → among c channels ≡ false → is_open_at c deeds ≡ false
  not_open [] within c isnt = refl
  not_open (host_begins channel ∷ before) within c isnt = strange channel c channels (and_parts _ _ within).0 isnt
  not_open (host_ends channel ∷ before) within c isnt = refl
  not_open (x ∷ before) within c isnt = not_open before (rest_within x before within) c isnt

  pub none_submitted : (deeds : List Deed) → are_within deeds ≡ true → (c : ℕ) → among c channels ≡ false → submitted c deeds ≡ []
  none_submitted [] within c isnt = refl
  none_submitted (submits application named o ∷ before) within c isnt =
      let older : are_within before ≡ true = (and_parts _ _ within).1 in
      let closed = not_open before older c isnt in
      rw closed (none_submitted before older c isnt)
  none_submitted (x ∷ before) within c isnt = none_submitted before (rest_within x before within) c isnt

-- ---- the lines of few applications

-- a line is one of these applications, if it is one's
abbrev pub is_line_within : List ℕ → NumberedLine → Bool
is_line_within applications l = option_map_or (λ (x : ℕ × Asked). among x.0 applications) (asked_by l.line) true

none_asked : (applications : List ℕ) (a : ℕ) → among a applications ≡ false → (o : Option (ℕ × Asked)) → option_map_or (λ (x : ℕ × Asked). among x.0 applications) o true ≡ true
    → option_and_then (λ (x : ℕ × Asked). on a x.0 x.1) o ≡ None
none_asked applications a isnt None e = refl
none_asked applications a isnt (Some x) e = not_on applications a isnt x.0 x.1 e

pub none_waits : (applications : List ℕ) (lines : List NumberedLine) → list_all (is_line_within applications) lines ≡ true → (a : ℕ) → among a applications ≡ false → (c : Control) → waits_after a c lines ≡ []
none_waits applications [] e a isnt c = refl
none_waits applications (l ∷ ls) e a isnt c =
    let parts = and_parts _ _ e in
    let none = none_asked applications a isnt (asked_by l.line) parts.0 in
    rw none (none_waits applications ls parts.1 a isnt (controlled c l.number l.line))

-- ---- points

pub opens_by : (devices : List (ℕ × Declared)) (since : ℕ) (deeds : List Deed) (c : ℕ) → HasOpened devices (drop since deeds) c → Opens devices deeds c
opens_by devices since deeds c has = (take since deeds, drop since deeds, sym (take-append-drop since deeds), has)

pub quiet_by : (a since : ℕ) (later earlier : List Deed) → drop since later ≡ earlier → list_any (is_submission_of a) (take since later) ≡ false → SubmitsNothing a later earlier
quiet_by a since later earlier same none = (take since later, sym (take-append-drop since later) ∙ ap (λ (deeds : List Deed). take since later ++ deeds) same, none)

-- ---- what came of a request

-- the same in one pass
abbrev pub outcome_of_calls : ℕ → List Call → Option table_outcome.Outcome
outcome_of_calls count calls = option_and_then (λ (a : Accepted). outcome_in calls (take count (accepted_in calls)) a) (slice_get (accepted_in calls) count)

pub outcome_along : (deeds : List Deed) (count : ℕ) → outcome_at deeds count ≡ outcome_of_calls count (along client_id deeds).1
outcome_along deeds count = ap (λ (made : HostSide × List Call). outcome_of_calls count made.1) (sym (along_is client_id deeds))

abbrev pub given_of_calls : ℕ → table_outcome.Outcome → List Call → Option Handle
given_of_calls count o calls = option_and_then (λ (a : Accepted). given_handle (record { device = a.device; life = a.life; outcome = o })) (slice_get (accepted_in calls) count)

pub given_along : (deeds : List Deed) (count : ℕ) (o : table_outcome.Outcome) → given_at deeds count o ≡ given_of_calls count o (along client_id deeds).1
given_along deeds count o = ap (λ (made : HostSide × List Call). given_of_calls count o made.1) (sym (along_is client_id deeds))

-- it was handed out by the oldest of so many of the newest deeds
pub handed_by : (number since : ℕ) (given : Taken) (deeds : List Deed) → drop since deeds ≡ takes number ∷ drop (suc since) deeds
    → (table.take (side_of client_id (drop (suc since) deeds)).table number).1 ≡ Ok given → IsHandedOut number given.outcome deeds
handed_by number since given deeds at gives = record {
  later = take since deeds;
  before = drop (suc since) deeds;
  taken = sym (take-append-drop since deeds) ∙ ap (λ (older : List Deed). take since deeds ++ older) at;
  given = given;
  gives = gives;
  came_is = refl;
}

-- ---- a line whose request is accepted

module _ (devices : List (ℕ × Declared)) (deeds : List Deed) (a : ℕ) where
  pub line_accepted : (holds next : ApplicationState) (x : Waits) (xs : List Waits) (o : Outcome) (os : List Outcome) (received : List Deed → Type 0) (from before after : List Deed) (named : Target) (count : ℕ) (came : table_outcome.Outcome)
      → SubmitsNothing a before from → received before → IsDue devices x.acts before → target_of holds x.asked ≡ Some named → submit_refusal (side_of client_id before).table named ≡ None
      → ((side_of client_id before).table).count ≡ count → deeds ≡ after ++ submits a named (x.asked).op ∷ before → outcome_at deeds count ≡ Some came → o ≡ reported_outcome came
      → holding_after holds x.asked (given_at deeds count came) ≡ next
      → LinesEnd devices deeds a next xs os (IsHandedOut (suc count) came) (submits a named (x.asked).op ∷ before)
      → LinesEnd devices deeds a holds (x ∷ xs) (o ∷ os) received from
  line_accepted holds next x xs o os received from before after named count came quiet has_received due targets unrefused counts parts comes is holds_next on =
      let goes : ApplicationState → (List Deed → Type 0) → List Deed → Type 0 = λ holding received after. LinesEnd devices deeds a holding xs os received after in
      let accepted : IsAccepted devices deeds a holds x.asked o goes before named count =
      (after, parts, came, comes, is, subst (λ (h : ApplicationState). LinesEnd devices deeds a h xs os (IsHandedOut (suc count) came) (submits a named (x.asked).op ∷ before)) (sym holds_next) on) in
      let counted = subst (IsAccepted devices deeds a holds x.asked o goes before named) (sym counts) accepted in
      let asked = subst (AskedEnds devices deeds a holds x.asked o goes before named) (sym unrefused) counted in
      (before, quiet, has_received, due, subst (LineEnds devices deeds a holds x.asked o goes before) (sym targets) asked)
