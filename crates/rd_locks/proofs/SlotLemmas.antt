-- The slots of a node's chain: what a chain passes over, and what stays as slots change.
use Rattle.std.proofs.Common.{◌≡◌, ◌∙◌, sym, ap, subst, refl, ℕ, suc, ◌+◌, ◌-◌, ◌<◌, ◌≤◌, ◌==◌, ◌&&◌, ◌||◌, not, Bool, true, false, List, [], ◌∷◌, ◌++◌, length, arith, inl, inr, set}
use Rattle.std.proofs.lemmas.Bool.{cases_order, and_parts, false_from_ne_true}
use Rattle.std.proofs.lemmas.Bool.Decides.{nat_tests, Decides-eqb}
use Rattle.std.proofs.lemmas.List.{get_or-set_same, get_or-set_other, length-set, get_or_past, get_or_append_left}
use Rattle.std.proofs.Math.Seq.{get_or-append_seam}
use Rattle.std.proofs.Math.Nat.{add-sub_cancel}
use Rattle.std.proofs.Common.{eq-eqb, length-append, if◌then◌else◌}
use Rattle.std.proofs.lemmas.Bool.{ne_eqb}
use Rattle.rd_irp.specs.declared.op.Range.{Range}
use Rattle.rd_locks.specs.declared.held.Held.{Held}
use Rattle.rd_locks.specs.declared.slots.Slot.{Slot}
use Rattle.rd_locks.specs.declared.leap.Leap.{Leap}
use Rattle.rd_locks.specs.declared.slots.Aim.{Aim}
use Rattle.rd_locks.specs.Locks.{meets, overlaps}
use Rattle.rd_locks.specs.Slots.{slot_at, no_slot, is_sought, shows, Leads, Leaps, IsSpanned, IsChained, Follows, StaysLinked}

pub true_not_false : (b : Bool) → b ≡ true → b ≡ false → ⊥
true_not_false b e f = cc

-- the node of what is sought is the wanted one's
pub sought_node : (aim : Aim) (wanted lock : Held) → is_sought aim wanted lock ≡ true → lock.node ≡ wanted.node
sought_node Aim.Take wanted lock h =
    let on_node : (lock.node == wanted.node) ≡ true = (and_parts _ _ (and_parts (meets wanted lock) (wanted.exclusive || (lock.exclusive && not (lock.file == wanted.file))) h).0).0 in
    grind (arith, nat_tests)
sought_node Aim.Write wanted lock h =
    let on_node : (lock.node == wanted.node) ≡ true = (and_parts _ _ (and_parts (meets wanted lock) (not (lock.exclusive && lock.file == wanted.file)) h).0).0 in
    grind (arith, nat_tests)
sought_node Aim.Match wanted lock h =
    let on_node : (lock.node == wanted.node) ≡ true = (and_parts _ _ (and_parts _ _ (and_parts _ _ h).0).0).0 in
    grind (arith, nat_tests)

-- what a chain passes over shows nothing
pub passed_over : (slots : List Slot) (aim : Aim) (wanted : Held) (i b j : ℕ) → IsChained slots → Leads slots wanted.node i b → b ≤ j → j < i → shows aim wanted (slot_at slots j) ≡ false
passed_over slots aim wanted i b j chained leads from to =
    false_from_ne_true _ (λ shown. true_not_false _ (and_parts _ _ shown).0
    (chained.kept j (leads.passed j from to (sought_node aim wanted (slot_at slots j).lock (and_parts _ _ shown).1))))

-- one place below, at, or above another
pub by_place : (P : ℕ → Type 0) (i k : ℕ) → (i < k → P i) → P k → (k < i → P i) → P i
by_place P i k below at above =
    elim (cases_order i k) [ inl e ↦ subst P (sym e) at | inr o ↦ elim o [ inl lt ↦ below lt | inr gt ↦ above gt ] ]

-- what holds of each slot once one is changed
pub each_set : (slots : List Slot) (k : ℕ) (slot : Slot) (P : ℕ → Slot → Type 0) → k < length slots → P k slot → ((i : ℕ) → P i (slot_at slots i)) → (i : ℕ) → P i (slot_at (set slots k slot) i)
each_set slots k slot P within here there i =
    elim (cases_order i k) [
      | inl e ↦ subst (λ (j : ℕ). P j (slot_at (set slots k slot) j)) (sym e) (subst (P k) (sym (get_or-set_same slots k slot no_slot within)) here)
      | inr o ↦ subst (P i) (sym (get_or-set_other slots k i slot no_slot (elim o [ inl lt ↦ λ e. absurd (omega arith) | inr gt ↦ λ e. absurd (omega arith) ]))) (there i)
    ]

-- a chain that leads on to a place leads on to the one below it, if that slot isn't linked
pub leads_down : (slots : List Slot) (node i b : ℕ) → IsChained slots → Leads slots node i b → 0 < b → b ≤ length slots → (slot_at slots (b - 1)).linked ≡ false → Leads slots node i (slot_at slots (b - 1)).below
leads_down slots node i b chained leads some within unlinked =
    let next = chained.links (b - 1) (omega arith) in
    record {
      within = omega (arith, next.within, leads.within);
      same = λ more. next.same more ∙ leads.same some;
      passed = λ j from to e. by_place (λ j. (slot_at slots j).lock.node ≡ node → (slot_at slots j).linked ≡ false) j (b - 1)
          (λ lt e. next.passed j from lt (e ∙ sym (leads.same some))) (λ _. unlinked) (λ gt e. leads.passed j (omega arith) to e) e;
    }

-- a chain leads on as it did where no further slot is linked
pub leads_still : (old new : List Slot) (node i b : ℕ) → Follows old new → Leads old node i b → Leads new node i b
leads_still old new node i b follows leads = record {
  within = leads.within;
  same = λ some. ap (λ (lock : Held). lock.node) (follows.lock (b - 1)) ∙ leads.same some;
  passed = λ j from to e. follows.linked j (leads.passed j from to (sym (ap (λ (lock : Held). lock.node) (follows.lock j)) ∙ e));
}

pub leads_at : (slots : List Slot) (node node' i b b' : ℕ) → Leads slots node i b → node ≡ node' → b ≡ b' → Leads slots node' i b'
leads_at slots node node' i b b' leads e f = subst (λ (n : ℕ). Leads slots n i b') e (subst (λ (p : ℕ). Leads slots node i p) f leads)

was_true : (a b : Bool) → (a ≡ false → b ≡ false) → b ≡ true → a ≡ true
was_true true b f e = refl
was_true false b f e = absurd (true_not_false b e (f refl))

-- a leap passes what it did where no further slot is linked
pub leaps_still : (old new : List Slot) (node i : ℕ) (leap : Leap) → Follows old new → Leaps old node i leap → Leaps new node i leap
leaps_still old new node i leap follows leaps = record {
  within = leaps.within;
  same = λ some. ap (λ (lock : Held). lock.node) (follows.lock (leap.to - 1)) ∙ leaps.same some;
  spans = λ j from to e linked. subst (λ (lock : Held). IsSpanned leap lock.range) (sym (follows.lock j))
      (leaps.spans j from to (sym (ap (λ (lock : Held). lock.node) (follows.lock j)) ∙ e) (was_true _ _ (follows.linked j) linked));
}

pub leaps_at : (slots : List Slot) (node node' i : ℕ) (leap leap' : Leap) → Leaps slots node i leap → node ≡ node' → leap ≡ leap' → Leaps slots node' i leap'
leaps_at slots node node' i leap leap' leaps e f = subst (λ (n : ℕ). Leaps slots n i leap') e (subst (λ (l : Leap). Leaps slots node i l) f leaps)

-- each slot leaps as it did
all_leap : (old new : List Slot) → Follows old new → IsChained old → (i : ℕ) → i < length new → Leaps new (slot_at new i).lock.node i (slot_at new i).leap
all_leap old new follows chained i within =
    leaps_at new _ _ i _ _ (leaps_still old new _ i _ follows (chained.leaps i (subst (λ (n : ℕ). i < n) follows.long within))) (sym (ap (λ (lock : Held). lock.node) (follows.lock i))) (sym (follows.leap i))

-- slots that lead on in the same way are chained as they were
pub chained_still : (old new : List Slot) → Follows old new → ((i : ℕ) → (slot_at new i).below ≡ (slot_at old i).below) → ((i : ℕ) → (slot_at new i).linked ≡ false → (slot_at new i).stands ≡ false) → IsChained old → IsChained new
chained_still old new follows below kept chained = record {
  links = λ i within. leads_at new _ _ i _ _ (leads_still old new _ i _ follows (chained.links i (subst (λ (n : ℕ). i < n) follows.long within))) (sym (ap (λ (lock : Held). lock.node) (follows.lock i))) (sym (below i));
  leaps = all_leap old new follows chained;
  kept = kept;
}

pub follows_same : (slots : List Slot) → Follows slots slots
follows_same slots = record { long = refl; lock = λ i. refl; leap = λ i. refl; linked = λ i e. e }

pub follows_both : (a b c : List Slot) → Follows a b → Follows b c → Follows a c
follows_both a b c f g = record { long = g.long ∙ f.long; lock = λ i. g.lock i ∙ f.lock i; leap = λ i. g.leap i ∙ f.leap i; linked = λ i e. g.linked i (f.linked i e) }

pub stays_follows : (old new : List Slot) → StaysLinked old new → Follows old new
stays_follows old new stays = record { long = stays.long; lock = stays.lock; leap = stays.leap; linked = λ i e. stays.linked i ∙ e }

pub stays_chained : (old new : List Slot) → StaysLinked old new → IsChained old → IsChained new
stays_chained old new stays chained = chained_still old new (stays_follows old new stays) stays.below stays.kept chained

-- one slot's lock stands or not from now on
pub stays_set : (slots : List Slot) (k : ℕ) (stands : Bool) → k < length slots → IsChained slots → ((slot_at slots k).linked ≡ false → stands ≡ false) → StaysLinked slots (set slots k (record (slot_at slots k) { stands = stands }))
stays_set slots k stands within chained kept =
    let new : Slot = record (slot_at slots k) { stands = stands } in
    record {
      long = length-set slots k new;
      lock = each_set slots k new (λ i slot. slot.lock ≡ (slot_at slots i).lock) within refl (λ i. refl);
      leap = each_set slots k new (λ i slot. slot.leap ≡ (slot_at slots i).leap) within refl (λ i. refl);
      linked = each_set slots k new (λ i slot. slot.linked ≡ (slot_at slots i).linked) within refl (λ i. refl);
      below = each_set slots k new (λ i slot. slot.below ≡ (slot_at slots i).below) within refl (λ i. refl);
      kept = each_set slots k new (λ i slot. slot.linked ≡ false → slot.stands ≡ false) within kept (λ i. chained.kept i);
    }

pub stays_both : (a b c : List Slot) → StaysLinked a b → StaysLinked b c → StaysLinked a c
stays_both a b c f g = record {
  long = g.long ∙ f.long;
  lock = λ i. g.lock i ∙ f.lock i;
  leap = λ i. g.leap i ∙ f.leap i;
  linked = λ i. g.linked i ∙ f.linked i;
  below = λ i. g.below i ∙ f.below i;
  kept = g.kept;
}

-- one slot is unlinked
pub follows_unlinked : (slots : List Slot) (k : ℕ) → k < length slots → Follows slots (set slots k (record (slot_at slots k) { linked = false }))
follows_unlinked slots k within =
    let new : Slot = record (slot_at slots k) { linked = false } in
    record {
      long = length-set slots k new;
      lock = each_set slots k new (λ i slot. slot.lock ≡ (slot_at slots i).lock) within refl (λ i. refl);
      leap = each_set slots k new (λ i slot. slot.leap ≡ (slot_at slots i).leap) within refl (λ i. refl);
      linked = each_set slots k new (λ i slot. (slot_at slots i).linked ≡ false → slot.linked ≡ false) within (λ _. refl) (λ i e. e);
    }

-- one slot leads on to another place
pub follows_led : (slots : List Slot) (k below : ℕ) → k < length slots → Follows slots (set slots k (record (slot_at slots k) { below = below }))
follows_led slots k below within =
    let new : Slot = record (slot_at slots k) { below = below } in
    record {
      long = length-set slots k new;
      lock = each_set slots k new (λ i slot. slot.lock ≡ (slot_at slots i).lock) within refl (λ i. refl);
      leap = each_set slots k new (λ i slot. slot.leap ≡ (slot_at slots i).leap) within refl (λ i. refl);
      linked = each_set slots k new (λ i slot. (slot_at slots i).linked ≡ false → slot.linked ≡ false) within (λ e. e) (λ i e. e);
    }

pub leads_from : (slots : List Slot) (node i i' b : ℕ) → Leads slots node i b → i ≡ i' → Leads slots node i' b
leads_from slots node i i' b leads e = subst (λ (n : ℕ). Leads slots node n b) e leads

-- from a node's end on no slot is both the node's and linked
pub none_past_end : (slots : List Slot) (node b i : ℕ) → Leads slots node (length slots) b → b ≤ i → (slot_at slots i).lock.node ≡ node → (slot_at slots i).linked ≡ false
none_past_end slots node b i leads from e =
    by_place (λ i. b ≤ i → (slot_at slots i).lock.node ≡ node → (slot_at slots i).linked ≡ false) i (length slots)
    (λ lt from e. leads.passed i from lt e)
    (λ _ _. ap (λ (slot : Slot). slot.linked) (get_or_past slots (length slots) no_slot (omega arith)))
    (λ gt _ _. ap (λ (slot : Slot). slot.linked) (get_or_past slots i no_slot (omega arith))) from e

-- a slot is led on to another place
pub chained_led : (slots : List Slot) (k below : ℕ) → k < length slots → IsChained slots → Leads slots (slot_at slots k).lock.node k below → IsChained (set slots k (record (slot_at slots k) { below = below }))
chained_led slots k below within chained leads =
    let slot : Slot = record (slot_at slots k) { below = below } in
    let new : List Slot = set slots k slot in
    let follows : Follows slots new = follows_led slots k below within in
    record {
      links = λ i lt. each_set slots k slot (λ i slot. i < length slots → Leads new slot.lock.node i slot.below) within
          (λ _. leads_still slots new _ k below follows leads) (λ i lt. leads_still slots new _ i _ follows (chained.links i lt)) i (subst (λ (n : ℕ). i < n) follows.long lt);
      leaps = all_leap slots new follows chained;
      kept = each_set slots k slot (λ i slot. slot.linked ≡ false → slot.stands ≡ false) within (chained.kept k) (λ i. chained.kept i);
    }

-- one number is another, or isn't
pub by_equal : (P : Type 0) (m n : ℕ) → (m ≡ n → P) → ((m ≡ n → ⊥) → P) → P
by_equal P m n same other =
    elim (cases_order m n) [ inl e ↦ same e | inr o ↦ other (elim o [ inl lt ↦ λ e. absurd (omega arith) | inr gt ↦ λ e. absurd (omega arith) ]) ]

pub same_bool : (a b : Bool) → (a ≡ false → b ≡ false) → (b ≡ false → a ≡ false) → a ≡ b
same_bool true true f g = refl
same_bool true false f g = g refl
same_bool false true f g = sym (f refl)
same_bool false false f g = refl

-- lists of slots that are equal place by place are equal
pub slots_equal : (a b : List Slot) → length a ≡ length b → ((i : ℕ) → slot_at a i ≡ slot_at b i) → a ≡ b
slots_equal [] [] long same = refl
slots_equal [] (y ∷ ys) long same = absurd (omega arith)
slots_equal (x ∷ xs) [] long same = absurd (omega arith)
slots_equal (x ∷ xs) (y ∷ ys) long same =
    let head : x ≡ y = same 0 in
    let rest : xs ≡ ys = slots_equal xs ys (omega arith) (λ i. same (suc i)) in
    cc

-- slots that stay linked, and in which the same locks stand, are the same
pub stays_equal : (old new : List Slot) → StaysLinked old new → ((i : ℕ) → (slot_at new i).stands ≡ (slot_at old i).stands) → new ≡ old
stays_equal old new stays stands = slots_equal new old stays.long (λ i. λ j. record {
  lock = stays.lock i j;
  stands = stands i j;
  linked = stays.linked i j;
  below = stays.below i j;
  leap = stays.leap i j;
})

-- what holds of each slot once there is one more
pub each_push : (slots : List Slot) (slot : Slot) (P : ℕ → Slot → Type 0) → P (length slots) slot → ((i : ℕ) → (i ≡ length slots → ⊥) → P i (slot_at slots i)) → (i : ℕ) → P i (slot_at (slots ++ slot ∷ []) i)
each_push slots slot P here there i =
    by_place (λ i. P i (slot_at (slots ++ slot ∷ []) i)) i (length slots)
    (λ lt. subst (P i) (sym (get_or_append_left slots (slot ∷ []) no_slot i lt)) (there i (λ e. absurd (omega arith))))
    (subst (P (length slots)) (sym (get_or-append_seam slots slot [] no_slot)) here)
    (λ gt. subst (P i) (get_or_past slots i no_slot (omega arith) ∙ sym (get_or_past (slots ++ slot ∷ []) i no_slot (omega (arith, length-append slots (slot ∷ []))))) (there i (λ e. absurd (omega arith))))

-- a chain leads on as it did where there is one more slot
pub leads_push : (slots : List Slot) (slot : Slot) (node i b : ℕ) → i ≤ length slots → Leads slots node i b → Leads (slots ++ slot ∷ []) node i b
leads_push slots slot node i b within leads = record {
  within = leads.within;
  same = λ some. subst (λ (s : Slot). s.lock.node ≡ node) (sym (get_or_append_left slots (slot ∷ []) no_slot (b - 1) (omega (arith, leads.within)))) (leads.same some);
  passed = λ j from to. subst (λ (s : Slot). s.lock.node ≡ node → s.linked ≡ false) (sym (get_or_append_left slots (slot ∷ []) no_slot j (omega arith))) (leads.passed j from to);
}

-- a leap passes what it did where there is one more slot
pub leaps_push : (slots : List Slot) (slot : Slot) (node i : ℕ) (leap : Leap) → i < length slots → Leaps slots node i leap → Leaps (slots ++ slot ∷ []) node i leap
leaps_push slots slot node i leap within leaps = record {
  within = leaps.within;
  same = λ some. subst (λ (s : Slot). s.lock.node ≡ node) (sym (get_or_append_left slots (slot ∷ []) no_slot (leap.to - 1) (omega (arith, leaps.within)))) (leaps.same some);
  spans = λ j from to. subst (λ (s : Slot). s.lock.node ≡ node → s.linked ≡ true → IsSpanned leap s.lock.range) (sym (get_or_append_left slots (slot ∷ []) no_slot j (omega arith))) (leaps.spans j from to);
}

-- the new slot's own leap
pub leaps_new : (slots : List Slot) (slot : Slot) → Leads slots slot.lock.node (length slots) slot.below → slot.leap.to ≤ slot.below → (0 < slot.leap.to → (slot_at slots (slot.leap.to - 1)).lock.node ≡ slot.lock.node)
    → IsSpanned slot.leap slot.lock.range
    → ((j : ℕ) → slot.leap.to ≤ j → j < slot.below → (slot_at slots j).lock.node ≡ slot.lock.node → (slot_at slots j).linked ≡ true → IsSpanned slot.leap (slot_at slots j).lock.range)
    → Leaps (slots ++ slot ∷ []) slot.lock.node (length slots) slot.leap
leaps_new slots slot leads within same own spans = record {
  within = omega (arith, leads.within);
  same = λ some. subst (λ (s : Slot). s.lock.node ≡ slot.lock.node) (sym (get_or_append_left slots (slot ∷ []) no_slot (slot.leap.to - 1) (omega (arith, leads.within)))) (same some);
  spans = λ j from to e linked. each_push slots slot (λ j s. slot.leap.to ≤ j → j ≤ length slots → s.lock.node ≡ slot.lock.node → s.linked ≡ true → IsSpanned slot.leap s.lock.range)
      (λ _ _ _ _. own)
      (λ j ne from to e linked. by_place (λ j. slot.leap.to ≤ j → j < length slots → (slot_at slots j).lock.node ≡ slot.lock.node → (slot_at slots j).linked ≡ true → IsSpanned slot.leap (slot_at slots j).lock.range) j slot.below
      (λ lt from _ e linked. spans j from lt e linked)
      (λ _ to e linked. absurd (true_not_false _ linked (leads.passed slot.below (omega arith) to e)))
      (λ gt _ to e linked. absurd (true_not_false _ linked (leads.passed j (omega arith) to e))) from (omega (arith, ne)) e linked)
      j from to e linked;
}

pub chained_push : (slots : List Slot) (slot : Slot) → IsChained slots → Leads slots slot.lock.node (length slots) slot.below → Leaps (slots ++ slot ∷ []) slot.lock.node (length slots) slot.leap → (slot.linked ≡ false → slot.stands ≡ false) → IsChained (slots ++ slot ∷ [])
chained_push slots slot chained leads leaps kept = record {
  links = λ i within. each_push slots slot (λ i s. i < length slots + 1 → Leads (slots ++ slot ∷ []) s.lock.node i s.below)
      (λ _. leads_push slots slot slot.lock.node (length slots) slot.below (omega arith) leads)
      (λ i ne lt. leads_push slots slot _ i _ (omega arith) (chained.links i (omega (arith, ne)))) i (omega (arith, length-append slots (slot ∷ [])));
  leaps = λ i within. each_push slots slot (λ i s. i < length slots + 1 → Leaps (slots ++ slot ∷ []) s.lock.node i s.leap)
      (λ _. leaps)
      (λ i ne lt. leaps_push slots slot _ i _ (omega (arith, ne)) (chained.leaps i (omega (arith, ne)))) i (omega (arith, length-append slots (slot ∷ [])));
  kept = each_push slots slot (λ i s. s.linked ≡ false → s.stands ≡ false) kept (λ i _. chained.kept i);
}

-- the chain of the new slot's node ends there, the others where they did
pub reached_push : (slots : List Slot) (slot : Slot) (ends new_ends : ℕ → ℕ) → ((node : ℕ) → Leads slots node (length slots) (ends node)) → ((node : ℕ) → new_ends node ≡ (if node == slot.lock.node then (length slots + 1) else ends node))
    → (node : ℕ) → Leads (slots ++ slot ∷ []) node (length (slots ++ slot ∷ [])) (new_ends node)
reached_push slots slot ends new_ends reached is node =
    let long : length (slots ++ slot ∷ []) ≡ length slots + 1 = omega (arith, length-append slots (slot ∷ [])) in
    let all : List Slot = slots ++ slot ∷ [] in
    leads_from all node _ _ _
    (by_equal (Leads all node (length slots + 1) (new_ends node)) node slot.lock.node
    (λ e. leads_at all node node (length slots + 1) (length slots + 1) _
    (record {
      within = omega arith;
      same = λ some. ap (λ (n : ℕ). (slot_at all n).lock.node) (add-sub_cancel (length slots) 1) ∙ ap (λ (s : Slot). s.lock.node) (get_or-append_seam slots slot [] no_slot) ∙ sym e;
      passed = λ j from to. absurd (omega arith);
    }) refl (sym (is node ∙ rw (eq-eqb _ _ e) refl)))
    (λ ne. let old = leads_push slots slot node (length slots) (ends node) (omega arith) (reached node) in
    leads_at all node node (length slots + 1) (ends node) _
    (record {
      within = omega (arith, old.within);
      same = old.same;
      passed = λ j from to. by_place (λ j. ends node ≤ j → (slot_at all j).lock.node ≡ node → (slot_at all j).linked ≡ false) j (length slots)
          (λ lt from. old.passed j from lt)
          (λ _ e. absurd (ne (sym e ∙ ap (λ (s : Slot). s.lock.node) (get_or-append_seam slots slot [] no_slot))))
          (λ gt. absurd (omega arith)) from;
    }) refl (sym (is node ∙ rw (ne_eqb _ _ ne) refl)))) (sym long)

-- what lies outside a leap is not sought there
pub outside_not_sought : (aim : Aim) (wanted lock : Held) → overlaps wanted.range lock.range ≡ false → (lock.range.offset ≡ wanted.range.offset → lock.range.length ≡ wanted.range.length → ⊥) → is_sought aim wanted lock ≡ false
outside_not_sought aim wanted lock apart other = false_from_ne_true _ (go aim)
  where
    go : (a : Aim) → is_sought a wanted lock ≡ true → ⊥
    go Aim.Take h = true_not_false _ (and_parts _ _ (and_parts (meets wanted lock) _ h).0).1 apart
    go Aim.Write h = true_not_false _ (and_parts _ _ (and_parts (meets wanted lock) _ h).0).1 apart
    go Aim.Match h =
        let same_length : (lock.range.length == wanted.range.length) ≡ true = (and_parts _ _ h).1 in
        let same_offset : (lock.range.offset == wanted.range.offset) ≡ true = (and_parts _ _ (and_parts _ _ h).0).1 in
        other ((Decides-eqb _ _).0 same_offset) ((Decides-eqb _ _).0 same_length)

-- what a leap passes shows nothing that lies outside of it
pub leaped_over : (slots : List Slot) (aim : Aim) (wanted : Held) (i : ℕ) (leap : Leap) (j : ℕ) → IsChained slots → Leaps slots wanted.node i leap
    → ((other : Range) → IsSpanned leap other → overlaps wanted.range other ≡ false) → ((other : Range) → IsSpanned leap other → other.offset ≡ wanted.range.offset → other.length ≡ wanted.range.length → ⊥)
    → leap.to ≤ j → j ≤ i → shows aim wanted (slot_at slots j) ≡ false
leaped_over slots aim wanted i leap j chained leaps apart other from to =
    false_from_ne_true _ (λ shown.
    let sought : is_sought aim wanted (slot_at slots j).lock ≡ true = (and_parts (slot_at slots j).stands _ shown).1 in
    let linked : (slot_at slots j).linked ≡ true = was_true _ _ (chained.kept j) (and_parts _ _ shown).0 in
    let spanned = leaps.spans j from to (sought_node aim wanted (slot_at slots j).lock sought) linked in
    true_not_false _ sought (outside_not_sought aim wanted (slot_at slots j).lock (apart _ spanned) (other _ spanned)))

-- one slot's lock goes, and it is unlinked where it is
pub chained_dropped : (slots : List Slot) (k : ℕ) → k < length slots → IsChained slots → IsChained (set slots k (record (slot_at slots k) { stands = false; linked = false }))
chained_dropped slots k within chained =
    let new : Slot = record (slot_at slots k) { stands = false; linked = false } in
    let follows : Follows slots (set slots k new) = record {
      long = length-set slots k new;
      lock = each_set slots k new (λ i slot. slot.lock ≡ (slot_at slots i).lock) within refl (λ i. refl);
      leap = each_set slots k new (λ i slot. slot.leap ≡ (slot_at slots i).leap) within refl (λ i. refl);
      linked = each_set slots k new (λ i slot. (slot_at slots i).linked ≡ false → slot.linked ≡ false) within (λ _. refl) (λ i e. e);
    } in
    chained_still slots (set slots k new) follows (each_set slots k new (λ i slot. slot.below ≡ (slot_at slots i).below) within refl (λ i. refl))
    (each_set slots k new (λ i slot. slot.linked ≡ false → slot.stands ≡ false) within (λ _. refl) (λ i. chained.kept i)) chained
