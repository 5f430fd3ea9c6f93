-- Where no journal is worn, no request is refused for it.
use Rattle.std.proofs.Common.{◌==◌, eqb-true, Bool, List, [], ap, arith, false, inl, inr, refl, reverse, subst, sym, true, ℕ, ◌&&◌, ◌++◌, ◌<◌, ◌≤◌, ◌∙◌, ◌∷◌, ◌≡◌, ◌⊎◌}
use Rattle.std.specs.Prelude.{◌||◌, Contains, None, Option, Some, length}
use Rattle.std.specs.List.{cons_option}
use Rattle.std.specs.Option.{option_map_or}
use Rattle.rd_base.specs.Statuses.{insufficient_resources}
use Rattle.rd_base.specs.declared.journal.Item.{Item}
use Rattle.rd_base.specs.declared.journal.Item.TheVariants.{Came, Cancelled, Cut, Ran, Sent}
use Rattle.rd_base.specs.declared.journal.Key.{Key}
use Rattle.rd_irp.specs.declared.completion.Head.{Head}
use Rattle.rd_irp.specs.declared.completion.Reply.{Reply}
use Rattle.rd_irp.specs.declared.request.Request.{Request}
use Rattle.rd_journals.proofs.CameLemmas.{came_true}
use Rattle.rd_station.proofs.Members.{has_right, to_contains}
use Rattle.rd_deeds.proofs.Journals.{IsPlain, contains_has}
use Rattle.rd_deeds.proofs.Messages.{head_read}
use Rattle.rd_deeds.specs.Talk.{Deed, EachAfter, Has, client_reads, client_writes, completes, head_in, host_begins, host_ends, host_reads, host_writes, journal, stored_by, submits, takes, tells, removes, adds, stores}
use Rattle.rd_deeds.specs.Told.{Answers, ComesUnworn, CompletesWith, IsAnswerAt, Replies, came, came_as, says_worn, worn_entries}

-- ---- what ran, or was cancelled or sent, came

abbrev IsLate : Key → Item → Type 0
IsLate key (Ran k m s p) = k ≡ key
IsLate key (Cancelled k) = k ≡ key
IsLate key (Sent k) = k ≡ key
IsLate key _ = ⊥

late_came : (js : List Item) → EachAfter IsPlain js → (x : Item) → Has x js → (key : Key) → IsLate key x → Has (Came key) js
late_came [] each x has key late = absurd has
late_came (y ∷ js) each x (inr has) key late = inr (late_came js each.1 x has key late)
late_came (y ∷ js) each x (inl same) key late = by y each.0 (subst (IsLate key) same late) (λ z has l. late_came js each.1 z has key l)
  where
    by : (y : Item) → IsPlain js y → IsLate key y → ((z : Item) → Has z js → IsLate key z → Has (Came key) js) → Has (Came key) (y ∷ js)
    by (Ran k m s p) plain l later = inr (subst (λ (i : Key). Has (Came i) js) l plain.0)
    by (Cancelled k) plain l later = inr (subst (λ (i : Key). Has (Came i) js) l plain.0)
    by (Sent k) plain l later = elim plain.0 [ inl (m, s, p, has) ↦ inr (later (Ran k m s p) has l) | inr has ↦ inr (later (Cancelled k) has l) ]
    by (Came k) plain l later = absurd l
    by (Cut cause) plain l later = absurd l

-- ---- a request that never came and is answered so

says_so : (r : Request) (reply : Reply) (m : List ℕ) (d : ℕ) → CompletesWith r reply m → says_worn d m ≡ true → (r.device == d && (reply.status).0 == insufficient_resources.0) ≡ true
says_so r reply m d done says =
    let h : Head = record { device = r.device; completion = r.completion; status = reply.status } in
    let read = head_read h m done.head in
    let is_head : head_in m ≡ Some h = rw read.1 refl in
    sym (ap (λ (o : Option Head). option_map_or (λ (h : Head). h.device == d && (h.status).0 == insufficient_resources.0) o false) is_head) ∙ says

first_of : (a b : Bool) → (a && b) ≡ true → a ≡ true
first_of true b e = refl
first_of false b e = absurd (cc e)

second_of : (a b : Bool) → (a && b) ≡ true → b ≡ true
second_of true b e = e
second_of false b e = absurd (cc e)

refused : (replies : Replies) (before : List Deed) (k : Key) (m : List ℕ) (d : ℕ) → Answers replies before (completes k m) → EachAfter IsPlain (journal d before) → says_worn d m ≡ true → came k.channel (journal d before) k.index ≡ false
    → worn_entries ≤ length (journal d before)
refused replies before k m d (r, reply, read, done, at) plain says never =
    elim (subst (λ (n : ℕ). IsAnswerAt replies n k r reply before) (eqb-true r.device d (first_of (r.device == d) _ both)) at) [
      | inl replied ↦ absurd (came_not (Sent k)
          (contains_has (Sent k) (journal d before) (subst (λ (js : List Item). Contains js (Sent k)) (sym replied.stands) (to_contains (replied.earlier ++ Sent k ∷ replied.later) (Sent k) (has_right (Sent k) replied.earlier (Sent k ∷ replied.later) (inl refl))))) refl)
      | inr other ↦ elim other [
        | inl (cancelled, same, removed) ↦ absurd (came_not (Cancelled k) cancelled refl)
        | inr (unserved, direct) ↦ elim direct [
          | inl (gone, same) ↦ absurd (let no : ((reply.status).0 == insufficient_resources.0) ≡ false = ap (λ (x : Reply). (x.status).0 == insufficient_resources.0) same in cc (second_of (r.device == d) _ both, no))
          | inr (said, same, worn, later) ↦ worn
        ]
      ]
    ]
  where
    both : (r.device == d && (reply.status).0 == insufficient_resources.0) ≡ true
    both = says_so r reply m d done says

    came_not : (x : Item) → Has x (journal d before) → IsLate k x → ⊥
    came_not x has late = let yes = came_true k (journal d before) (late_came (journal d before) plain x has k late) in cc (yes, never)

-- ---- what holds of a journal holds of it before

plain_before : (o : Option Item) (js : List Item) → EachAfter IsPlain (cons_option o js) → EachAfter IsPlain js
plain_before None js each = each
plain_before (Some x) js each = each.1

few_before : (o : Option Item) (js : List Item) → length (cons_option o js) < worn_entries → length js < worn_entries
few_before None js few = few
few_before (Some x) js few = omega (arith, few)

never_before : (c i : ℕ) (o : Option Item) (js : List Item) → came c (cons_option o js) i ≡ false → came c js i ≡ false
never_before c i None js e = e
never_before c i (Some x) js e = by (came_as c i x) e
  where
    by : (b : Bool) → (b || came c js i) ≡ false → came c js i ≡ false
    by true e = absurd (cc e)
    by false e = e

none_worn : (replies : Replies) (deeds : List Deed) → EachAfter (Answers replies) deeds → (d : ℕ) → EachAfter IsPlain (journal d deeds) → length (journal d deeds) < worn_entries → (k : Key) (m : List ℕ) → Has (completes k m) deeds → says_worn d m ≡ true
    → came k.channel (journal d deeds) k.index ≡ false → ⊥
none_worn replies [] answers d plain few k m has says never = has
none_worn replies (y ∷ deeds) answers d plain few k m (inl same) says never =
    let js : List Item = journal d deeds in
    let worn : worn_entries ≤ length js = refused replies deeds k m d (subst (Answers replies deeds) (sym same) answers.0) (plain_before (stored_by d y) js plain) says (never_before k.channel k.index (stored_by d y) js never) in
    let less : length js < worn_entries = few_before (stored_by d y) js few in
    omega (arith, worn, less)
none_worn replies (y ∷ deeds) answers d plain few k m (inr has) says never =
    let js : List Item = journal d deeds in
    none_worn replies deeds answers.1 d (plain_before (stored_by d y) js plain) (few_before (stored_by d y) js few) k m has says (never_before k.channel k.index (stored_by d y) js never)

pub comes_unworn : (replies : Replies) (deeds : List Deed) → EachAfter (Answers replies) deeds → ((d : ℕ) → EachAfter IsPlain (journal d deeds)) → ((d : ℕ) → length (journal d deeds) < worn_entries) → EachAfter ComesUnworn deeds
comes_unworn replies [] answers plain few = tt
comes_unworn replies (y ∷ deeds) answers plain few =
    (by y, comes_unworn replies deeds answers.1 plains fews)
  where
    plains : (d : ℕ) → EachAfter IsPlain (journal d deeds)
    plains d = plain_before (stored_by d y) (journal d deeds) (plain d)

    fews : (d : ℕ) → length (journal d deeds) < worn_entries
    fews d = few_before (stored_by d y) (journal d deeds) (few d)

    by : (y : Deed) → ComesUnworn deeds y
    by (stores d (Came key)) = λ k m has same says never. absurd (none_worn replies deeds answers.1 d (plains d) (fews d) k m has says never)
    by (stores d (Ran k m s p)) = tt
    by (stores d (Cancelled k)) = tt
    by (stores d (Sent k)) = tt
    by (stores d (Cut cause)) = tt
    by (removes d) = tt
    by (adds d) = tt
    by (submits a n o) = tt
    by (takes n) = tt
    by (tells n) = tt
    by (host_begins c) = tt
    by (host_ends c) = tt
    by (host_writes c m) = tt
    by (host_reads c m) = tt
    by (client_reads c m) = tt
    by (client_writes c m) = tt
    by (completes k m) = tt
