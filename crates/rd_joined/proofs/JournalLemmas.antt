-- What the journals of a session's devices name and say, by its requests and its moment.
use Rattle.std.proofs.Common.{◌≡◌, ◌∙◌, refl, sym, ap, subst, inl, inr, ℕ, ◌<◌, Bool, arith, List, [], ◌∷◌, reverse, Some, Option}
use Rattle.std.specs.Prelude.{◌⊎◌, All, Contains}
use Rattle.std.specs.List.{AllByRecursion}
use Rattle.std.specs.List.Sorted.{IsStrictlySortedBy}
use Rattle.std.specs.Map.{keys_of, lookup}
use Rattle.std.specs.Ordering.{nat_cmp}
use Rattle.std.specs.declared.cmp.Ordering.TheVariants.{Less}
use Rattle.std.specs.BTreeMap.{is_at}
use Rattle.std.specs.Option.{IfSome, unwrap_or}
use Rattle.std.proofs.lemmas.List.Elements.{All-from_recursion, Contains-append_right}
use Rattle.rd_base.specs.declared.journal.Item.{Item}
use Rattle.rd_base.specs.declared.journal.Item.TheVariants.{Came, Cancelled, Cut, Ran, Sent}
use Rattle.rd_base.specs.declared.journal.Key.{Key}
use Rattle.rd_base.specs.Lawful.{named_key}
use Rattle.rd_drive.specs.Replies.{AreToldBy, IsToldBy, state_after}
use Rattle.rd_irp.specs.declared.request.Request.{Request}
use Rattle.rd_journals.specs.Reads.{ComesRead, IsRead}
use Rattle.rd_journals.proofs.ShortLemmas.{came_read}
use Rattle.rd_declared.specs.declared.device.SessionDevice.{SessionDevice}
use Rattle.rd_declared.specs.Devices.{device_cut, device_step}
use Rattle.rd_deeds.specs.Joining.{IsCarried}
use Rattle.rd_declared.specs.Replies.{RanRead, no_request, request_read}
use Rattle.rd_world.specs.Recording.{request_of}
use Rattle.rd_world.specs.Session.{IsOfDevice}
use Rattle.rd_deeds.specs.Talk.{Deed, EachAfter, Has, client_read, host_wrote, journal, request_at}
use Rattle.rd_world.proofs.Agreeing.{agree}
use Rattle.rd_world.proofs.ApplicationsLemmas.{apart_at, below_of, equal_is}
use Rattle.rd_deeds.proofs.Journals.{HasRun, IsPlain, contains_has}
use Rattle.rd_deeds.proofs.Replied.{request_since}

-- ---- keys that are named came

run_came : (items : List Item) → EachAfter IsPlain items → (key : Key) (moment : ℕ) (starved parked : Bool) → Has (Ran key moment starved parked) items → Has (Came key) items
run_came [] each key moment starved parked has = absurd has
run_came (x ∷ older) each key moment starved parked (inl same) = inr (subst (IsPlain older) (sym same) each.0).0
run_came (x ∷ older) each key moment starved parked (inr has) = inr (run_came older each.1 key moment starved parked has)

cancelled_came : (items : List Item) → EachAfter IsPlain items → (key : Key) → Has (Cancelled key) items → Has (Came key) items
cancelled_came [] each key has = absurd has
cancelled_came (x ∷ older) each key (inl same) = inr (subst (IsPlain older) (sym same) each.0).0
cancelled_came (x ∷ older) each key (inr has) = inr (cancelled_came older each.1 key has)

-- so what holds of each key that came holds of each that is named
all_named : (P : Key → Type 0) (items : List Item) → EachAfter IsPlain items → ((key : Key) → Has (Came key) items → P key) → AllByRecursion (λ (x : Item). IfSome (named_key x) P) items
all_named P [] each came = tt
all_named P (Came k ∷ older) each came = (came k (inl refl), all_named P older each.1 (λ key has. came key (inr has)))
all_named P (Ran k moment starved parked ∷ older) each came = (came k (inr each.0.0), all_named P older each.1 (λ key has. came key (inr has)))
all_named P (Cancelled k ∷ older) each came = (came k (inr each.0.0), all_named P older each.1 (λ key has. came key (inr has)))
all_named P (Sent k ∷ older) each came = (by each.0.0, all_named P older each.1 (λ key has. came key (inr has)))
  where
    by : (HasRun k older) ⊎ (Has (Cancelled k) older) → P k
    by (inl (moment, starved, parked, has)) = came k (inr (run_came older each.1 k moment starved parked has))
    by (inr has) = came k (inr (cancelled_came older each.1 k has))
all_named P (Cut cause ∷ older) each came = (tt, all_named P older each.1 (λ key has. came key (inr has)))

-- ---- the requests of a journal's keys

abbrev IsWritten : List Deed → ℕ → Key → Type 0
IsWritten deeds device key = (r : Request) × (request_at (host_wrote key.channel deeds) key.index ≡ Some r) × (r.device ≡ device)

read_written : (deeds : List Deed) (device : ℕ) (key : Key) → IsCarried deeds → IsRead device key deeds → IsWritten deeds device key
read_written deeds device key carried (r, read, named) =
    let (unread, wrote) = carried.to_client key.channel in
    (r, ap (λ (ms : List (List ℕ)). request_at ms key.index) wrote ∙ request_since r key.index unread (client_read key.channel deeds) read, named)

pub named_written : (deeds : List Deed) (device : ℕ) → IsCarried deeds → EachAfter ComesRead deeds → EachAfter IsPlain (journal device deeds)
    → All (IsOfDevice deeds device) (journal device deeds)
named_written deeds device carried reads plain =
    All-from_recursion (IsOfDevice deeds device) (journal device deeds)
    (all_named (IsWritten deeds device) (journal device deeds) plain (λ key has. read_written deeds device key carried (came_read device key deeds reads has)))

-- ---- the marks of a journal

each_contained : {A : Type 0} (P : A → Type 0) (xs : List A) → ((x : A) → Contains xs x → P x) → AllByRecursion P xs
each_contained P [] all = tt
each_contained P (x ∷ xs) all = (all x (0, omega arith, refl), each_contained P xs (λ y has. all y (Contains-append_right (x ∷ []) xs y has)))

ran_read : (deeds : List Deed) (device : ℕ) → EachAfter ComesRead deeds → EachAfter IsPlain (journal device deeds) → AllByRecursion (RanRead deeds) (reverse (journal device deeds))
ran_read deeds device reads plain = each_contained (RanRead deeds) (reverse (journal device deeds)) (λ x has. by x (contains_has x (journal device deeds) has))
  where
    by : (x : Item) → Has x (journal device deeds) → RanRead deeds x
    by (Ran key moment starved parked) has =
        let (r, read, named) = came_read device key deeds reads (run_came (journal device deeds) plain key moment starved parked has) in (r, read)
    by (Came key) has = tt
    by (Cancelled key) has = tt
    by (Sent key) has = tt
    by (Cut cause) has = tt

-- the marks are the same by the requests that were read and by those that were written
same_marks : (deeds : List Deed) → IsCarried deeds → (s : SessionDevice) (items : List Item) → AllByRecursion (RanRead deeds) items
    → AreToldBy device_step device_cut (request_read deeds) s items → AreToldBy device_step device_cut (request_of deeds) s items
same_marks deeds carried s [] all marks = tt
same_marks deeds carried s (Ran key moment starved parked ∷ items) ((r, read), all) marks =
    subst Marked same (marks.0, same_marks deeds carried (left (request_read deeds key)) items all marks.1)
  where
    left : Request → SessionDevice
    left q = state_after device_step device_cut (λ k. q) s (Ran key moment starved parked)

    Marked : Request → Type 0
    Marked q = IsToldBy device_step device_cut (λ k. q) s (Ran key moment starved parked) × AreToldBy device_step device_cut (request_of deeds) (left q) items

    same : request_read deeds key ≡ request_of deeds key
    same = ap (λ (o : Option Request). unwrap_or o no_request) read ∙ sym (agree deeds carried key r read)
same_marks deeds carried s (Cut cause ∷ items) all marks = (marks.0, same_marks deeds carried (device_cut s).state items all.1 marks.1)
same_marks deeds carried s (Came key ∷ items) all marks = (marks.0, same_marks deeds carried s items all.1 marks.1)
same_marks deeds carried s (Cancelled key ∷ items) all marks = (marks.0, same_marks deeds carried s items all.1 marks.1)
same_marks deeds carried s (Sent key ∷ items) all marks = (marks.0, same_marks deeds carried s items all.1 marks.1)

pub marked_written : (deeds : List Deed) (device : ℕ) (s : SessionDevice) → IsCarried deeds → EachAfter ComesRead deeds → EachAfter IsPlain (journal device deeds)
    → AreToldBy device_step device_cut (request_read deeds) s (reverse (journal device deeds)) → AreToldBy device_step device_cut (request_of deeds) s (reverse (journal device deeds))
marked_written deeds device s carried reads plain marks = same_marks deeds carried s (reverse (journal device deeds)) (ran_read deeds device reads plain) marks

-- ---- entries under rising numbers

module _ {X : Type 0} where
  found_head : (e : ℕ × X) (es : List (ℕ × X)) → lookup (is_at (nat_cmp e.0)) (e ∷ es) ≡ Some e.1
  found_head e es = rw (equal_is e.0 e.0 refl) refl

  later_found : (e : ℕ × X) (es : List (ℕ × X)) (k : ℕ) (x : X) → e.0 < k → lookup (is_at (nat_cmp k)) es ≡ Some x → lookup (is_at (nat_cmp k)) (e ∷ es) ≡ Some x
  later_found e es k x above is = rw (apart_at k e.0 (λ (same : k ≡ e.0). omega (arith, above))) is

  over : (P : ℕ → X → Type 0) (n : ℕ) (es : List (ℕ × X)) → AllByRecursion (λ (k : ℕ). nat_cmp n k ≡ Less) (keys_of es)
      → AllByRecursion (λ (e : ℕ × X). n < e.0 → P e.0 e.1) es → AllByRecursion (λ (e : ℕ × X). P e.0 e.1) es
  over P n [] above all = tt
  over P n (e ∷ es) above all = (all.0 (below_of n e.0 above.0), over P n es above.1 all.1)

  -- each entry is found under its number
  pub each_found : (es : List (ℕ × X)) → IsStrictlySortedBy nat_cmp (keys_of es) → (P : ℕ → X → Type 0) → ((k : ℕ) (x : X) → lookup (is_at (nat_cmp k)) es ≡ Some x → P k x)
      → AllByRecursion (λ (e : ℕ × X). P e.0 e.1) es
  unfolding IsStrictlySortedBy
  each_found [] rise P all = tt
  each_found (e ∷ es) rise P all =
      (all e.0 e.1 (found_head e es), over P e.0 es rise.0 (each_found es rise.1 (λ k x. (e.0 < k → P k x)) (λ k x is above. all k x (later_found e es k x above is))))
