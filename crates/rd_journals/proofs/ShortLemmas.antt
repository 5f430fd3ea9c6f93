-- A device's journal has at most three entries for each request that was read, and its cuts.
use Rattle.std.proofs.Common.{◌≡◌, ◌≢◌, ◌⊎◌, ◌∙◌, refl, sym, ap, subst, inl, inr, ℕ, suc, ◌+◌, ◌*◌, ◌≤◌, ◌==◌, ◌&&◌, Bool, true, false, cond, List, [], ◌∷◌, ◌++◌, length, reverse, append_assoc, arith, eqb-true}
use Rattle.std.specs.Prelude.{Some, None, Option, filter}
use Rattle.std.specs.List.{cons_option}
use Rattle.std.specs.Option.{option_map_or}
use Rattle.std.proofs.lemmas.Bool.Decides.{nat_tests}
use Rattle.std.proofs.lemmas.List.{reverse-append}
use Rattle.rd_base.specs.Lawful.{EachEntry, IsBelow, IsLawful, RisesAbove}
use Rattle.rd_base.specs.declared.journal.Item.{Item}
use Rattle.rd_base.specs.declared.journal.Item.TheVariants.{Came, Ran, Cancelled, Sent, Cut}
use Rattle.rd_base.specs.declared.journal.Key.{Key}
use Rattle.rd_irp.specs.declared.request.Request.{Request}
use Rattle.rd_station.specs.Memory.{is_key_below}
use Rattle.rd_station.specs.Station.{is_key}
use Rattle.rd_station.proofs.Members.{key_self, same_key}
use Rattle.rd_station.proofs.Remembering.{below_trans, below_true}
use Rattle.rd_deeds.specs.Talk.{Deed, EachAfter, Has, client_read, client_reads, is_request, journal, request_at, request_in, stores}
use Rattle.rd_world.specs.World.{WorldState}
use Rattle.rd_deeds.proofs.Journals.{HasRun, IsPlain, has_contains, plain_of}
use Rattle.rd_deeds.proofs.Telling.{request_later}
use Rattle.rd_journals.specs.Orderly.{Orderly}
use Rattle.rd_journals.specs.Reads.{ComesRead, IsRead, cuts, reads_count}
use Rattle.rd_journals.proofs.RunLemmas.{orderly_lawful}

-- ---- of an entry that ends a key, one for each key that came

without : Key → List Key → List Key
without k [] = []
without k (j ∷ ks) = cond (is_key j k) ks (j ∷ without k ks)

one_less : (k : Key) (ks : List Key) → Has k ks → length (without k ks) + 1 ≡ length ks
unfolding without
one_less k [] has = absurd has
one_less k (j ∷ ks) has = by (is_key j k) refl (one_less k ks)
  where
    by : (b : Bool) → is_key j k ≡ b → (Has k ks → length (without k ks) + 1 ≡ length ks) → length (cond b ks (j ∷ without k ks)) + 1 ≡ suc (length ks)
    by true e later = omega arith
    by false e later = elim has [
      | inl same ↦ absurd (cc (subst (λ (l : Key). is_key l k ≡ true) same (key_self k), e))
      | inr there ↦ omega (arith, later there)
    ]

others_stay : (j k : Key) (ks : List Key) → j ≢ k → Has k ks → Has k (without j ks)
unfolding without
others_stay j k [] apart has = absurd has
others_stay j k (l ∷ ks) apart has = by (is_key l j) refl (others_stay j k ks apart)
  where
    by : (b : Bool) → is_key l j ≡ b → (Has k ks → Has k (without j ks)) → Has k (cond b ks (l ∷ without j ks))
    by true e later = elim has [ inl same ↦ absurd (apart (sym (same_key l j e) ∙ sym same)) | inr there ↦ there ]
    by false e later = elim has [ inl same ↦ inl same | inr there ↦ inr (later there) ]

came_count : Item → ℕ
came_count (Came key) = 1
came_count _ = 0

comes : List Item → ℕ
comes [] = 0
comes (x ∷ items) = came_count x + comes items

onto : Item → List Key → List Key
onto (Came k) ks = k ∷ ks
onto x ks = ks

onto_length : (x : Item) (ks : List Key) → length (onto x ks) ≡ came_count x + length ks
unfolding onto came_count
onto_length (Came k) ks = omega arith
onto_length (Ran k m s p) ks = omega arith
onto_length (Cancelled k) ks = omega arith
onto_length (Sent k) ks = omega arith
onto_length (Cut cause) ks = omega arith

onto_keeps : (x : Item) (k : Key) (ks : List Key) → Has k ks → Has k (onto x ks)
unfolding onto
onto_keeps (Came j) k ks has = inr has
onto_keeps (Ran j m s p) k ks has = has
onto_keeps (Cancelled j) k ks has = has
onto_keeps (Sent j) k ks has = has
onto_keeps (Cut cause) k ks has = has

onto_own : (k : Key) (ks : List Key) → Has k (onto (Came k) ks)
unfolding onto
onto_own k ks = inl refl

module _ (key_of : Item → Option Key) where
  count : Item → ℕ
  count x = option_map_or (λ k. 1) (key_of x) 0

  ended : List Item → ℕ
  ended [] = 0
  ended (x ∷ items) = count x + ended items

  -- the keys that came and didn't end
  left : List Item → List Key
  left [] = []
  left (x ∷ items) = onto x (option_map_or (λ k. without k (left items)) (key_of x) (left items))

  -- an entry ends a key that came before, and that none before it ended
  abbrev EndsOnce : List Item → Item → Type 0
  EndsOnce before x = (k : Key) → key_of x ≡ Some k → Has (Came k) before × ((y : Item) → Has y before → key_of y ≢ Some k)

  has_left : (k : Key) (items : List Item) → Has (Came k) items → ((y : Item) → Has y items → key_of y ≢ Some k) → Has k (left items)
  unfolding left
  has_left k [] has none = absurd has
  has_left k (x ∷ items) has none = elim has [
    | inl same ↦ subst (λ (y : Item). Has k (onto y (option_map_or (λ j. without j (left items)) (key_of x) (left items)))) same (onto_own k _)
    | inr there ↦ onto_keeps x k _ (by (key_of x) refl (has_left k items there (λ y among. none y (inr among))))
  ]
    where
      by : (o : Option Key) → key_of x ≡ o → Has k (left items) → Has k (option_map_or (λ j. without j (left items)) o (left items))
      by None e there = there
      by (Some j) e there = others_stay j k (left items) (λ same. none x (inl refl) (e ∙ ap Some same)) there

  all_counted : (items : List Item) → EachAfter EndsOnce items → length (left items) + ended items ≡ comes items
  unfolding left ended count comes
  all_counted [] each = refl
  all_counted (x ∷ items) each = omega (arith, all_counted items each.1, onto_length x (option_map_or (λ k. without k (left items)) (key_of x) (left items)), spent (key_of x) refl)
    where
      spent : (o : Option Key) → key_of x ≡ o → length (option_map_or (λ k. without k (left items)) o (left items)) + option_map_or {T = Key} (λ k. 1) o 0 ≡ length (left items)
      spent None e = omega arith
      spent (Some k) e = let is = each.0 k e in one_less k (left items) (has_left k items is.0 is.1)

  few_end : (items : List Item) → EachAfter EndsOnce items → ended items ≤ comes items
  few_end items each = omega (arith, all_counted items each)

-- ---- of a lawful journal

abbrev settled_key : Item → Option Key
settled_key (Ran k moment starved parked) = Some k
settled_key (Cancelled k) = Some k
settled_key _ = None

abbrev sent_key : Item → Option Key
sent_key (Sent k) = Some k
sent_key _ = None

-- what ran or was cancelled came
settled_came : (items : List Item) → EachAfter IsPlain items → (key : Key) → HasRun key items ⊎ Has (Cancelled key) items → Has (Came key) items
settled_came [] each key (inl (m, s, p, none)) = absurd none
settled_came [] each key (inr none) = absurd none
settled_came (x ∷ items) each key (inl (m, s, p, inl same)) = inr (subst (IsPlain items) (sym same) each.0).0
settled_came (x ∷ items) each key (inl (m, s, p, inr there)) = inr (settled_came items each.1 key (inl (m, s, p, there)))
settled_came (x ∷ items) each key (inr (inl same)) = inr (subst (IsPlain items) (sym same) each.0).0
settled_came (x ∷ items) each key (inr (inr there)) = inr (settled_came items each.1 key (inr there))

settles_once : (items : List Item) → EachAfter IsPlain items → EachAfter (EndsOnce settled_key) items
settles_once [] each = tt
settles_once (x ∷ items) each = (one x each.0, settles_once items each.1)
  where
    fresh : (k j : Key) → ◌≡◌ {A = Option Key} (Some j) (Some k) → (¬ (HasRun j items)) → (¬ (Has (Cancelled j) items)) → (y : Item) → Has y items → settled_key y ≢ Some k
    fresh k j same unrun uncancelled (Ran l m s p) has e = let is : Some l ≡ Some j = e ∙ sym same in let equal : l ≡ j = cc in unrun (m, s, p, subst (λ (i : Key). Has (Ran i m s p) items) equal has)
    fresh k j same unrun uncancelled (Cancelled l) has e = let is : Some l ≡ Some j = e ∙ sym same in let equal : l ≡ j = cc in uncancelled (subst (λ (i : Key). Has (Cancelled i) items) equal has)
    fresh k j same unrun uncancelled (Came l) has e = cc (e)
    fresh k j same unrun uncancelled (Sent l) has e = cc (e)
    fresh k j same unrun uncancelled (Cut cause) has e = cc (e)

    one : (y : Item) → IsPlain items y → EndsOnce settled_key items y
    one (Ran j m s p) is = λ k e. let same : j ≡ k = cc in (subst (λ (i : Key). Has (Came i) items) same is.0, fresh k j e is.1 is.2)
    one (Cancelled j) is = λ k e. let same : j ≡ k = cc in (subst (λ (i : Key). Has (Came i) items) same is.0, fresh k j e is.1 is.2)
    one (Came j) is = λ k e. absurd (cc (e))
    one (Sent j) is = λ k e. absurd (cc (e))
    one (Cut cause) is = λ k e. absurd (cc (e))

sends_once : (items : List Item) → EachAfter IsPlain items → EachAfter (EndsOnce sent_key) items
sends_once [] each = tt
sends_once (x ∷ items) each = (one x each.0, sends_once items each.1)
  where
    fresh : (k j : Key) → ◌≡◌ {A = Option Key} (Some j) (Some k) → (¬ (Has (Sent j) items)) → (y : Item) → Has y items → sent_key y ≢ Some k
    fresh k j same unsent (Sent l) has e = let is : Some l ≡ Some j = e ∙ sym same in let equal : l ≡ j = cc in unsent (subst (λ (i : Key). Has (Sent i) items) equal has)
    fresh k j same unsent (Ran l m s p) has e = cc (e)
    fresh k j same unsent (Cancelled l) has e = cc (e)
    fresh k j same unsent (Came l) has e = cc (e)
    fresh k j same unsent (Cut cause) has e = cc (e)

    one : (y : Item) → IsPlain items y → EndsOnce sent_key items y
    one (Sent j) is = λ k e. let same : j ≡ k = cc in (subst (λ (i : Key). Has (Came i) items) same (settled_came items each.1 j is.0), fresh k j e is.1)
    one (Ran j m s p) is = λ k e. absurd (cc (e))
    one (Cancelled j) is = λ k e. absurd (cc (e))
    one (Came j) is = λ k e. absurd (cc (e))
    one (Cut cause) is = λ k e. absurd (cc (e))

in_all : (items : List Item) → length items ≡ comes items + ended settled_key items + ended sent_key items + cuts items
unfolding comes came_count ended count
in_all [] = refl
in_all (Came key ∷ items) = omega (arith, in_all items)
in_all (Ran key m s p ∷ items) = omega (arith, in_all items)
in_all (Cancelled key ∷ items) = omega (arith, in_all items)
in_all (Sent key ∷ items) = omega (arith, in_all items)
in_all (Cut cause ∷ items) = omega (arith, in_all items)

three_each : (items : List Item) → IsLawful (reverse items) → length items ≤ 3 * comes items + cuts items
three_each items lawful =
    let each = plain_of items lawful in
    omega (arith, in_all items, few_end settled_key items (settles_once items each), few_end sent_key items (sends_once items each))

-- ---- no more keys come than requests were read

key_at : ℕ → ℕ → Key
key_at c index = record { channel = c; index = index }

-- how many requests were read whose keys pass
reads_where : (Key → Bool) → List Deed → ℕ
reads_where p [] = 0
reads_where p (client_reads c m ∷ before) = cond (is_request m && p (key_at c (length (filter is_request (client_read c before))))) (suc (reads_where p before)) (reads_where p before)
reads_where p (deed ∷ before) = reads_where p before

all_pass : (deeds : List Deed) → reads_where (λ k. true) deeds ≡ reads_count deeds
unfolding reads_where
all_pass [] = refl
all_pass (client_reads c m ∷ before) = by (is_request m) (all_pass before)
  where
    by : (b : Bool) → reads_where (λ k. true) before ≡ reads_count before → cond (b && true) (suc (reads_where (λ k. true) before)) (reads_where (λ k. true) before) ≡ cond b (suc (reads_count before)) (reads_count before)
    by true later = ap suc later
    by false later = later
all_pass (_ ∷ before) = all_pass before

module _ (p q : Key → Bool) (less : (k : Key) → p k ≡ true → q k ≡ true) where
  where_less : (deeds : List Deed) → reads_where p deeds ≤ reads_where q deeds
  unfolding reads_where
  where_less [] = omega arith
  where_less (client_reads c m ∷ before) = by (is_request m) (p key) refl (q key) refl (where_less before)
    where
      key : Key
      key = key_at c (length (filter is_request (client_read c before)))

      by : (a b : Bool) → p key ≡ b → (d : Bool) → q key ≡ d → reads_where p before ≤ reads_where q before
          → cond (a && b) (suc (reads_where p before)) (reads_where p before) ≤ cond (a && d) (suc (reads_where q before)) (reads_where q before)
      by true true e true f later = omega (arith, later)
      by true true e false f later = absurd (cc (less key e, f))
      by true false e true f later = omega (arith, later)
      by true false e false f later = later
      by false b e d f later = later
  where_less (_ ∷ before) = where_less before

  -- one that was read passes the second test alone
  where_one : (k : Key) → p k ≡ false → q k ≡ true → (deeds : List Deed) (r : Request) → request_at (client_read k.channel deeds) k.index ≡ Some r → reads_where p deeds + 1 ≤ reads_where q deeds
  unfolding reads_where key_at
  where_one k fails passes [] r read = absurd (cc (read))
  where_one k fails passes (client_reads c m ∷ before) r read = on_channel (c == k.channel) refl read (λ was. where_one k fails passes before r was)
    where
      n : ℕ
      n = length (filter is_request (client_read c before))

      key : Key
      key = key_at c n

      P : ℕ
      P = reads_where p before

      Q : ℕ
      Q = reads_where q before

      other : P + 1 ≤ Q → (a b : Bool) → p key ≡ b → (d : Bool) → q key ≡ d → cond (a && b) (suc P) P + 1 ≤ cond (a && d) (suc Q) Q
      other later true true e true f = omega (arith, later)
      other later true true e false f = absurd (cc (less key e, f))
      other later true false e true f = omega (arith, later)
      other later true false e false f = later
      other later false b e d f = later

      own : (k ≡ key) → is_request m ≡ true → cond (is_request m && p key) (suc P) P + 1 ≤ cond (is_request m && q key) (suc Q) Q
      own same is = by (is_request m) is (p key) (sym (ap p same) ∙ fails) (q key) (sym (ap q same) ∙ passes)
        where
          by : (a : Bool) → a ≡ true → (b : Bool) → b ≡ false → (d : Bool) → d ≡ true → cond (a && b) (suc P) P + 1 ≤ cond (a && d) (suc Q) Q
          by true x false y true z = omega (arith, where_less before)
          by true x false y false z = absurd (cc (z))
          by true x true y d z = absurd (cc (y))
          by false x b y d z = absurd (cc (x))

      here : (c ≡ k.channel) → (a b : Bool) → is_request m ≡ a → (length (filter is_request (client_read k.channel before)) == k.index) ≡ b
          → cond (a && b) (request_in m) (request_at (client_read k.channel before) k.index) ≡ Some r → (request_at (client_read k.channel before) k.index ≡ Some r → P + 1 ≤ Q)
          → cond (is_request m && p key) (suc P) P + 1 ≤ cond (is_request m && q key) (suc Q) Q
      here same true true e f read later =
          let index : k.index ≡ n = sym (eqb-true (length (filter is_request (client_read k.channel before))) k.index f) ∙ ap (λ (x : ℕ). length (filter is_request (client_read x before))) (sym same) in
          own (λ i. key_at (sym same i) (index i)) e
      here same true false e f read later = other (later read) (is_request m) (p key) refl (q key) refl
      here same false b e f read later = other (later read) (is_request m) (p key) refl (q key) refl

      on_channel : (b : Bool) → (c == k.channel) ≡ b → request_at (cons_option (cond b (Some m) None) (client_read k.channel before)) k.index ≡ Some r
          → (request_at (client_read k.channel before) k.index ≡ Some r → P + 1 ≤ Q) → cond (is_request m && p key) (suc P) P + 1 ≤ cond (is_request m && q key) (suc Q) Q
      on_channel true e read later = here (eqb-true c k.channel e) (is_request m) (length (filter is_request (client_read k.channel before)) == k.index) refl refl read later
      on_channel false e read later = other (later read) (is_request m) (p key) refl (q key) refl
  where_one k fails passes (_ ∷ before) r read = where_one k fails passes before r read

-- each key that came is of a request that was read, and they rise
abbrev Rises : List Item → Item → Type 0
Rises before x = (key : Key) → x ≡ Came key → (earlier : Key) → Has (Came earlier) before → IsBelow earlier key

rises : (items : List Item) → EachEntry RisesAbove (reverse items) → EachAfter Rises items
rises [] each = tt
rises (x ∷ older) each = (
  (λ key same earlier has. subst (RisesAbove (reverse older)) same (each (reverse older) x [] (reverse-append (x ∷ []) older)) earlier (has_contains (Came earlier) older has)),
  rises older (λ before entry after same. each before entry (after ++ x ∷ []) (reverse-append (x ∷ []) older ∙ ap (λ (ys : List Item). ys ++ x ∷ []) same ∙ append_assoc before (entry ∷ after) (x ∷ []))),
)

below_is : (k key : Key) → IsBelow k key → is_key_below k key ≡ true
below_is k key (inl less) = grind (arith, nat_tests, less)
below_is k key (inr less) = grind (arith, nat_tests, less.0, less.1)

not_itself : (k : Key) → is_key_below k k ≡ false
not_itself k = grind (arith, nat_tests)

module _ (deeds : List Deed) where
  abbrev WasRead : Key → Type 0
  WasRead k = (r : Request) × (request_at (client_read k.channel deeds) k.index ≡ Some r)

  under : Key → Key → Bool
  under key k = is_key_below k key

  under_less : (k key : Key) → IsBelow k key → WasRead k → reads_where (under k) deeds + 1 ≤ reads_where (under key) deeds
  unfolding under
  under_less k key below (r, read) =
      where_one (under k) (under key) (λ j e. below_is j key (below_trans j k key (below_true j k e) below)) k (not_itself k) (below_is k key below) deeds r read

  under_all : (k : Key) → WasRead k → reads_where (under k) deeds + 1 ≤ reads_count deeds
  unfolding under
  under_all k (r, read) = subst (λ (n : ℕ). reads_where (under k) deeds + 1 ≤ n) (all_pass deeds) (where_one (under k) (λ j. true) (λ j e. refl) k (not_itself k) refl deeds r read)

  comes_under : (items : List Item) → EachAfter Rises items → ((k : Key) → Has (Came k) items → WasRead k) → (key : Key) → ((k : Key) → Has (Came k) items → IsBelow k key) → comes items ≤ reads_where (under key) deeds
  unfolding comes came_count
  comes_under [] each read key above = omega arith
  comes_under (Came k ∷ items) each read key above =
      omega (arith, comes_under items each.1 (λ j has. read j (inr has)) k (λ j has. each.0 k refl j has), under_less k key (above k (inl refl)) (read k (inl refl)))
  comes_under (Ran k m s p ∷ items) each read key above = omega (arith, comes_under items each.1 (λ j has. read j (inr has)) key (λ j has. above j (inr has)))
  comes_under (Cancelled k ∷ items) each read key above = omega (arith, comes_under items each.1 (λ j has. read j (inr has)) key (λ j has. above j (inr has)))
  comes_under (Sent k ∷ items) each read key above = omega (arith, comes_under items each.1 (λ j has. read j (inr has)) key (λ j has. above j (inr has)))
  comes_under (Cut cause ∷ items) each read key above = omega (arith, comes_under items each.1 (λ j has. read j (inr has)) key (λ j has. above j (inr has)))

  comes_few : (items : List Item) → EachAfter Rises items → ((k : Key) → Has (Came k) items → WasRead k) → comes items ≤ reads_count deeds
  unfolding comes came_count
  comes_few [] each read = omega arith
  comes_few (Came k ∷ items) each read = omega (arith, comes_under items each.1 (λ j has. read j (inr has)) k (λ j has. each.0 k refl j has), under_all k (read k (inl refl)))
  comes_few (Ran k m s p ∷ items) each read = omega (arith, comes_few items each.1 (λ j has. read j (inr has)))
  comes_few (Cancelled k ∷ items) each read = omega (arith, comes_few items each.1 (λ j has. read j (inr has)))
  comes_few (Sent k ∷ items) each read = omega (arith, comes_few items each.1 (λ j has. read j (inr has)))
  comes_few (Cut cause ∷ items) each read = omega (arith, comes_few items each.1 (λ j has. read j (inr has)))

-- a key that came was read, and is so still
read_later : (d : ℕ) (key : Key) (y : Deed) (deeds : List Deed) → IsRead d key deeds → IsRead d key (y ∷ deeds)
read_later d key (client_reads c m) deeds (r, read, named) = (r, request_later (c == key.channel) m r (client_read key.channel deeds) key.index read, named)
read_later d key y deeds is = is

pub came_read : (d : ℕ) (key : Key) (deeds : List Deed) → EachAfter ComesRead deeds → Has (Came key) (journal d deeds) → IsRead d key deeds
came_read d key [] each has = absurd has
came_read d key (stores q item ∷ before) each has = by (q == d) refl has (came_read d key before each.1)
  where
    by : (b : Bool) → (q == d) ≡ b → Has (Came key) (cons_option (cond b (Some item) None) (journal d before)) → (Has (Came key) (journal d before) → IsRead d key before) → IsRead d key before
    by true e (inl same) later = subst (λ (x : ℕ). IsRead x key before) (eqb-true q d e) (subst (λ (x : Item). ComesRead before (stores q x)) (sym same) each.0)
    by true e (inr there) later = later there
    by false e there later = later there
came_read d key (y ∷ before) each has = read_later d key y before (came_read d key before each.1 has)

-- ---- so a journal is short
pub orderly_short : (w : WorldState) → Orderly w → (d : ℕ) → length (journal d w.deeds) ≤ 3 * reads_count w.deeds + cuts (journal d w.deeds)
orderly_short w is d =
    let items : List Item = journal d w.deeds in
    let lawful : IsLawful (reverse items) = orderly_lawful w is d in
    omega (
      arith,
      three_each items lawful,
      comes_few w.deeds items (rises items lawful.keys_rise) (λ k has. let (r, read, named) = came_read d k w.deeds (is.held).reads has in (r, read)),
    )
