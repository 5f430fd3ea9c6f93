-- What a station remembers of the requests that its journal names: what each call makes of it, and that it says exactly which may come.
use Rattle.std.proofs.Common.{◌≡◌, ◌⊎◌, ◌∙◌, refl, sym, ap, subst, inl, inr, ℕ, suc, ◌<◌, ◌≤◌, ◌==◌, ◌&&◌, ◌||◌, Bool, true, false, cond, List, [], ◌∷◌, ◌++◌, length, arith, eqb-true, eq-eqb}
use Rattle.std.specs.Prelude.{All, Any, Contains, IfSome, None, Option, Some, nat_lt}
use Rattle.std.specs.Option.{option_map, option_map_or}
use Rattle.std.proofs.lemmas.Bool.{ltb-true}
use Rattle.std.proofs.lemmas.List.Elements.{All-contains}
use Rattle.rd_base.specs.declared.journal.Item.{Item}
use Rattle.rd_base.specs.declared.journal.Item.TheVariants.{Came, Sent}
use Rattle.rd_base.specs.declared.journal.Key.{Key}
use Rattle.rd_base.specs.Lawful.{IsBelow, named_key}
use Rattle.rd_station.specs.declared.memory.Memory.{Memory}
use Rattle.rd_station.specs.Memory.{NamesKey, Remembers, after_come, after_drop, is_key_below, may_come}
use Rattle.rd_station.specs.Station.{IsKnown, MayPut, StationState, held}
use Rattle.rd_station.proofs.Members.{Has, all_of, from_contains, has_append, has_left, has_right, to_contains}

-- ---- members that pass

pub any_has : {A : Type 0} (P : A → Type 0) (xs : List A) → Any P xs → (x : A) × Has x xs × P x
any_has P xs (k, x, below, is, holds) = (x, from_contains xs x (k, below, is), holds)

pub has_any : {A : Type 0} (P : A → Type 0) (xs : List A) (x : A) → Has x xs → P x → Any P xs
has_any P xs x has holds = let (k, below, is) = to_contains xs x has in (k, x, below, is, holds)

any_left : {A : Type 0} (P : A → Type 0) (xs ys : List A) → Any P xs → Any P (xs ++ ys)
any_left P xs ys any = let (x, has, holds) = any_has P xs any in has_any P (xs ++ ys) x (has_left x xs ys has) holds

any_split : {A : Type 0} (P : A → Type 0) (xs ys : List A) → Any P (xs ++ ys) → Any P xs ⊎ Any P ys
any_split P xs ys any =
    let (x, has, holds) = any_has P (xs ++ ys) any in
    elim (has_append x xs ys has) [ inl h ↦ inl (has_any P xs x h holds) | inr h ↦ inr (has_any P ys x h holds) ]

-- entries of which each names a key that was named, if any, name no other
pub names_none_new : (j more : List Item) → ((x : Item) → Has x more → (key : Key) → named_key x ≡ Some key → NamesKey j key) → (key : Key) → NamesKey (j ++ more) key → NamesKey j key
names_none_new j more each key names = elim (any_split (λ entry. named_key entry ≡ Some key) j more names) [
  | inl before ↦ before
  | inr new ↦ let (x, has, is) = any_has (λ entry. named_key entry ≡ Some key) more new in each x has key is
]

pub names_left : (j more : List Item) (key : Key) → NamesKey j key → NamesKey (j ++ more) key
names_left j more key names = any_left (λ entry. named_key entry ≡ Some key) j more names

pub came_named : (j : List Item) (key : Key) → Contains j (Came key) → NamesKey j key
came_named j key came = has_any (λ entry. named_key entry ≡ Some key) j (Came key) (from_contains j (Came key) came) refl

above_none : (n : ℕ) → nat_lt 0 (suc n) ≡ true
above_none n = grind arith

module _ {S : Type 0} where
  -- what is held with a key
  pub held_any : (s : StationState S) (key : Key) → Any (λ (other : Key × ℕ). other.0 ≡ key) (held s) → (x : Key × ℕ) × Has x (held s) × (x.0 ≡ key)
  held_any s key any = any_has (λ (other : Key × ℕ). other.0 ≡ key) (held s) any

  -- ---- calls that name nothing new and forget nothing

  pub still : (s new : StationState S) (m : Memory) → Remembers s m → ((key : Key) → NamesKey new.journal key → NamesKey s.journal key) → ((key : Key) → NamesKey s.journal key → NamesKey new.journal key)
      → ((key : Key) → IsKnown s key → IsKnown new key) → ((key : Key) → IsKnown new key → IsKnown s key) → ((x : Key × ℕ) → Has x (held new) → Has x (held s)) → Remembers new m
  still s new m is none_new none_lost known_on known_before fewer = record {
    none = λ e key names. is.none e key (none_new key names);
    named = λ last e. none_lost last (is.named last e);
    greatest = λ last key e names. is.greatest last key e (none_new key names);
    channel = λ job has. is.channel job (to_contains (held s) job (fewer job (from_contains (held new) job has)));
    known = λ key names. elim (is.known key (none_new key names)) [ inl k ↦ inl (known_on key k) | inr f ↦ inr f ];
    forgot = λ c e. let (key, names, on, unknown) = is.forgot c e in (key, none_lost key names, on, λ k. unknown (known_before key k));
  }

  -- a request is known as before where as much is held and as much was sent
  pub known_more : (s new : StationState S) → ((x : Key × ℕ) → Has x (held s) → Has x (held new)) → ((key : Key) → Has (Sent key) s.journal → Has (Sent key) new.journal) → (key : Key) → IsKnown s key → IsKnown new key
  known_more s new more sent key (inl any) = let (x, has, same) = held_any s key any in inl (has_any (λ (other : Key × ℕ). other.0 ≡ key) (held new) x (more x has) same)
  known_more s new more sent key (inr was) = inr (to_contains new.journal (Sent key) (sent key (from_contains s.journal (Sent key) was)))

  -- ---- a request comes

  pub remembers_come : (s new : StationState S) (m : Memory) (key : Key) (id : ℕ) → Remembers s m → MayPut s key → new.journal ≡ s.journal ++ Came key ∷ []
      → ((x : Key × ℕ) → Has x (held new) → (x ≡ (key, id)) ⊎ Has x (held s)) → ((x : Key × ℕ) → Has x (held s) → Has x (held new)) → Has (key, id) (held new) → Remembers new (after_come m key)
  remembers_come s new m key id is may e came more own = record {
    none = λ none. absurd (cc (none));
    named = λ last last_is. let same : key ≡ last = cc in subst (NamesKey new.journal) same named_here;
    greatest = λ last l last_is names. let same : key ≡ last = cc in subst (λ (k : Key). (l ≡ k) ⊎ IsBelow l k) same (elim (split l names) [ inl before ↦ inr (below l before) | inr here ↦ inl here ]);
    channel = λ job has. (
      key,
      refl,
      elim (came job (from_contains (held new) job has)) [
        | inl same ↦ ap (λ (x : Key × ℕ). (x.0).channel) same
        | inr before ↦ All-contains (λ (other : Key × ℕ). (other.0).channel ≡ key.channel) (held s) job may.same_channel (to_contains (held s) job before)
      ],
    );
    known = λ l names. elim (split l names) [
      | inl before ↦ elim (is.known l before) [ inl k ↦ inl (known_more s new more sent_on l k) | inr f ↦ inr f ]
      | inr here ↦ inl (inl (has_any (λ (other : Key × ℕ). other.0 ≡ l) (held new) (key, id) own (sym here)))
    ];
    forgot = λ c forgotten. let (l, names, on, unknown) = is.forgot c forgotten in (l, subst (λ (j : List Item). NamesKey j l) (sym e) (any_left (λ entry. named_key entry ≡ Some l) s.journal (Came key ∷ []) names), on, λ k. unknown (known_then l names k));
  }
    where
      named_here : NamesKey new.journal key
      named_here = subst (λ (j : List Item). NamesKey j key) (sym e) (has_any (λ entry. named_key entry ≡ Some key) (s.journal ++ Came key ∷ []) (Came key) (has_right (Came key) s.journal (Came key ∷ []) (inl refl)) refl)

      split : (l : Key) → NamesKey new.journal l → NamesKey s.journal l ⊎ (l ≡ key)
      split l names = elim (any_split (λ entry. named_key entry ≡ Some l) s.journal (Came key ∷ []) (subst (λ (j : List Item). NamesKey j l) e names)) [
        | inl before ↦ inl before
        | inr last ↦
            let (x, has, is_named) = any_has (λ entry. named_key entry ≡ Some l) (Came key ∷ []) last in
            elim has [ inl same ↦ inr (let named : Some key ≡ Some l = ap named_key (sym same) ∙ is_named in cc) | inr nowhere ↦ absurd nowhere ]
      ]

      below : (l : Key) → NamesKey s.journal l → IsBelow l key
      below l names =
          let (x, has, is_named) = any_has (λ entry. named_key entry ≡ Some l) s.journal names in
          subst (λ (o : Option Key). IfSome o (λ k. IsBelow k key)) is_named (All-contains (λ entry. IfSome (named_key entry) (λ k. IsBelow k key)) s.journal x may.above (to_contains s.journal x has))

      sent_on : (l : Key) → Has (Sent l) s.journal → Has (Sent l) new.journal
      sent_on l has = subst (Has (Sent l)) (sym e) (has_left (Sent l) s.journal (Came key ∷ []) has)

      not_itself : (k : Key) → IsBelow k k → ⊥
      not_itself k (inl less) = omega (arith, less)
      not_itself k (inr less) = omega (arith, less.1)

      known_then : (l : Key) → NamesKey s.journal l → IsKnown new l → IsKnown s l
      known_then l names (inl any) =
          let (x, has, same) = held_any new l any in
          elim (came x has) [
            | inl own_job ↦ absurd (not_itself key (subst (λ (k : Key). IsBelow k key) (sym same ∙ ap (λ (y : Key × ℕ). y.0) own_job) (below l names)))
            | inr before ↦ inl (has_any (λ (other : Key × ℕ). other.0 ≡ l) (held s) x before same)
          ]
      known_then l names (inr sent) = elim (has_append (Sent l) s.journal (Came key ∷ []) (subst (Has (Sent l)) e (from_contains new.journal (Sent l) sent))) [
        | inl before ↦ inr (to_contains s.journal (Sent l) before)
        | inr last ↦ elim last [ inl same ↦ absurd (cc (same)) | inr nowhere ↦ absurd nowhere ]
      ]

  -- ---- all that is held is forgotten

  pub remembers_drop : (s new : StationState S) (m : Memory) (count : ℕ) → Remembers s m → count ≡ length (held s) → held new ≡ [] → ((key : Key) → NamesKey new.journal key → NamesKey s.journal key) → ((key : Key) → NamesKey s.journal key → NamesKey new.journal key)
      → ((key : Key) → Has (Sent key) s.journal → Has (Sent key) new.journal) → ((key : Key) → Has (Sent key) new.journal → Has (Sent key) s.journal)
      → ((x : Key × ℕ) → Has x (held s) → NamesKey s.journal x.0 × (¬ (Has (Sent x.0) s.journal))) → Remembers new (after_drop m count)
  remembers_drop s new m count is counted none none_new none_lost sent_on sent_before unsent = by (held s) refl
    where
      nowhere : (x : Key × ℕ) → Has x (held new) → ⊥
      nowhere x has = subst (Has x) none has

      -- only what was sent is known then
      sent_only : (key : Key) → IsKnown new key → Has (Sent key) s.journal
      sent_only key (inl any) = let (x, has, same) = held_any new key any in absurd (nowhere x has)
      sent_only key (inr sent) = sent_before key (from_contains new.journal (Sent key) sent)

      known_sent : (key : Key) → Has (Sent key) s.journal → IsKnown new key
      known_sent key has = inr (to_contains new.journal (Sent key) (sent_on key has))

      by : (hs : List (Key × ℕ)) → held s ≡ hs → Remembers new (after_drop m count)
      by [] e = subst (Remembers new) (sym (ap (λ n. cond (nat_lt 0 n) (record m { forgotten = option_map (λ (last : Key). last.channel) m.last }) m) (counted ∙ ap (length {A = Key × ℕ}) e)))
          (still s new m is none_new none_lost (λ key k. known_sent key (was_sent key k)) (λ key k. inr (to_contains s.journal (Sent key) (sent_only key k))) (λ x has. absurd (nowhere x has)))
        where
          was_sent : (key : Key) → IsKnown s key → Has (Sent key) s.journal
          was_sent key (inl any) = let (x, has, same) = held_any s key any in absurd (subst (Has x) e has)
          was_sent key (inr sent) = from_contains s.journal (Sent key) sent
      by (x ∷ hs) e = subst (Remembers new) (sym (ap (λ n. cond (nat_lt 0 n) (record m { forgotten = option_map (λ (last : Key). last.channel) m.last }) m) (counted ∙ ap (length {A = Key × ℕ}) e) ∙ many (length hs)))
          (record {
            none = λ nothing key names. is.none nothing key (none_new key names);
            named = λ last last_is. none_lost last (is.named last last_is);
            greatest = λ last key last_is names. is.greatest last key last_is (none_new key names);
            channel = λ job has. absurd (nowhere job (from_contains (held new) job has));
            known = λ key names. known_then key (none_new key names) (is.known key (none_new key names));
            forgot = λ c forgotten. forgot_then c forgotten;
          })
        where
          here : Has x (held s)
          here = subst (Has x) (sym e) (inl refl)

          last : Key
          last = (is.channel x (to_contains (held s) x here)).0

          last_is : m.last ≡ Some last
          last_is = (is.channel x (to_contains (held s) x here)).1

          on_last : (x.0).channel ≡ last.channel
          on_last = (is.channel x (to_contains (held s) x here)).2

          forgotten_is : option_map (λ (k : Key). k.channel) m.last ≡ Some last.channel
          forgotten_is = ap (option_map (λ (k : Key). k.channel)) last_is

          many : (n : ℕ) → cond (nat_lt 0 (suc n)) (record m { forgotten = option_map (λ (k : Key). k.channel) m.last }) m ≡ record m { forgotten = option_map (λ (k : Key). k.channel) m.last }
          many n = ap (λ b. cond b (record m { forgotten = option_map (λ (k : Key). k.channel) m.last }) m) (above_none n)

          no_later : (key : Key) → NamesKey s.journal key → key.channel ≤ last.channel
          no_later key names = elim (is.greatest last key last_is names) [
            | inl same ↦ omega (arith, ap (λ (k : Key). k.channel) same)
            | inr below ↦ elim below [ inl less ↦ omega (arith, less) | inr less ↦ omega (arith, less.0) ]
          ]

          known_then : (key : Key) → NamesKey s.journal key → IsKnown s key ⊎ ((c : ℕ) × (m.forgotten ≡ Some c) × (key.channel ≤ c))
              → IsKnown new key ⊎ ((c : ℕ) × (option_map (λ (k : Key). k.channel) m.last ≡ Some c) × (key.channel ≤ c))
          known_then key names (inl (inr sent)) = inl (known_sent key (from_contains s.journal (Sent key) sent))
          known_then key names (inl (inl any)) = inr (last.channel, forgotten_is, no_later key names)
          known_then key names (inr f) = inr (last.channel, forgotten_is, no_later key names)

          forgot_then : (c : ℕ) → option_map (λ (k : Key). k.channel) m.last ≡ Some c → (key : Key) × NamesKey new.journal key × (key.channel ≡ c) × (¬ (IsKnown new key))
          forgot_then c forgotten =
              let same : Some last.channel ≡ Some c = sym forgotten_is ∙ forgotten in
              let equal : last.channel ≡ c = cc in
              let own = unsent x here in
              (x.0, none_lost x.0 own.0, on_last ∙ equal, λ k. own.1 (sent_only x.0 k))

-- ---- which may come

pub below_true : (a b : Key) → is_key_below a b ≡ true → IsBelow a b
below_true a b e = by (nat_lt a.channel b.channel) refl (a.channel == b.channel) refl (nat_lt a.index b.index) refl e
  where
    by : (p : Bool) → nat_lt a.channel b.channel ≡ p → (q : Bool) → (a.channel == b.channel) ≡ q → (r : Bool) → nat_lt a.index b.index ≡ r → (p || (q && r)) ≡ true → IsBelow a b
    by true p q qe r re e = inl (ltb-true a.channel b.channel p)
    by false p true qe true re e = inr (eqb-true a.channel b.channel qe, ltb-true a.index b.index re)
    by false p true qe false re e = absurd (cc)
    by false p false qe r re e = absurd (cc)

less-ltb : (n k : ℕ) → n < k → nat_lt n k ≡ true
less-ltb n k less = grind (arith, less)

true_below : (a b : Key) → IsBelow a b → is_key_below a b ≡ true
true_below a b (inl less) = ap (λ p. p || (a.channel == b.channel && nat_lt a.index b.index)) (less-ltb a.channel b.channel less)
true_below a b (inr less) = by (nat_lt a.channel b.channel)
  where
    by : (p : Bool) → (p || (a.channel == b.channel && nat_lt a.index b.index)) ≡ true
    by true = refl
    by false = ap (λ q. q && nat_lt a.index b.index) (eq-eqb a.channel b.channel less.0) ∙ less-ltb a.index b.index less.1

pub below_trans : (a b c : Key) → IsBelow a b → IsBelow b c → IsBelow a c
below_trans a b c (inl x) (inl y) = inl (omega (arith, x, y))
below_trans a b c (inl x) (inr y) = inl (omega (arith, x, y.0))
below_trans a b c (inr x) (inl y) = inl (omega (arith, x.0, y))
below_trans a b c (inr x) (inr y) = inr (x.0 ∙ y.0, omega (arith, x.1, y.1))

-- of each entry that names a key
each_entry : (P : Key → Type 0) (j : List Item) → ((key : Key) → NamesKey j key → P key) → All (λ entry. IfSome (named_key entry) P) j
each_entry P j each = all_of (λ entry. IfSome (named_key entry) P) j (λ x has. by x has (named_key x) refl)
  where
    by : (x : Item) → Has x j → (o : Option Key) → named_key x ≡ o → IfSome o P
    by x has None e = tt
    by x has (Some key) e = each key (has_any (λ entry. named_key entry ≡ Some key) j x has e)

module _ {S : Type 0} (s : StationState S) (m : Memory) (is : Remembers s m) (key : Key) where
  parts : (a b c : Bool) → (a && b && c) ≡ true → (a ≡ true) × (b ≡ true) × (c ≡ true)
  parts true true true e = (refl, refl, refl)
  parts true true false e = absurd (cc)
  parts true false c e = absurd (cc)
  parts false b c e = absurd (cc)

  pub may_then : (count : ℕ) → count ≡ length (held s) → may_come m count key ≡ true → MayPut s key
  may_then count counted e = by m.last refl e
    where
      by : (o : Option Key) → m.last ≡ o → option_map_or (λ (last : Key). is_key_below last key && (count == 0 || last.channel == key.channel) && option_map_or (λ c. nat_lt c key.channel) m.forgotten true) o true ≡ true → MayPut s key
      by None none e = record {
        above = each_entry (λ l. IsBelow l key) s.journal (λ l names. absurd (is.none none l names));
        same_channel = all_of (λ (other : Key × ℕ). (other.0).channel ≡ key.channel) (held s) (λ x has. let found = is.channel x (to_contains (held s) x has) in absurd (cc (none, found.1)));
        forgotten = each_entry (λ l. IsKnown s l ⊎ (l.channel < key.channel)) s.journal (λ l names. absurd (is.none none l names));
      }
      by (Some last) last_is e =
          let p = parts (is_key_below last key) (count == 0 || last.channel == key.channel) (option_map_or (λ c. nat_lt c key.channel) m.forgotten true) e in
          let above = below_true last key p.0 in
          record {
            above = each_entry (λ l. IsBelow l key) s.journal (λ l names. elim (is.greatest last l last_is names) [
              | inl same ↦ subst (λ (k : Key). IsBelow k key) (sym same) above
              | inr below ↦ below_trans l last key below above
            ]);
            same_channel = all_of (λ (other : Key × ℕ). (other.0).channel ≡ key.channel) (held s) (λ x has. on x has last last_is p.1);
            forgotten = each_entry (λ l. IsKnown s l ⊎ (l.channel < key.channel)) s.journal (λ l names. elim (is.known l names) [ inl k ↦ inl k | inr f ↦ inr (later f.0 f.1 l f.2 p.2) ]);
          }
        where
          some_left : (x : Key × ℕ) (hs : List (Key × ℕ)) → Has x hs → (length hs == 0) ≡ false
          some_left x [] none = absurd none
          some_left x (y ∷ hs) has = grind arith

          on : (x : Key × ℕ) → Has x (held s) → (k : Key) → m.last ≡ Some k → (count == 0 || k.channel == key.channel) ≡ true → (x.0).channel ≡ key.channel
          on x has k k_is e =
              let found = is.channel x (to_contains (held s) x has) in
              let same : Some k ≡ Some found.0 = sym k_is ∙ found.1 in
              let equal : k ≡ found.0 = cc in
              let rest : (k.channel == key.channel) ≡ true = sym (ap (λ b. b || k.channel == key.channel) (ap (λ n. n == 0) counted ∙ some_left x (held s) has)) ∙ e in
              found.2 ∙ ap (λ (l : Key). l.channel) (sym equal) ∙ eqb-true k.channel key.channel rest

          later : (c : ℕ) → m.forgotten ≡ Some c → (l : Key) → l.channel ≤ c → option_map_or (λ d. nat_lt d key.channel) m.forgotten true ≡ true → l.channel < key.channel
          later c f l low e =
              let less : c < key.channel = ltb-true c key.channel (sym (ap (λ o. option_map_or (λ d. nat_lt d key.channel) o true) f) ∙ e) in
              omega (arith, low, less)

  pub then_may : (count : ℕ) → count ≡ length (held s) → MayPut s key → may_come m count key ≡ true
  then_may count counted may = by m.last refl
    where
      at : (P : Key → Type 0) → All (λ entry. IfSome (named_key entry) P) s.journal → (l : Key) → NamesKey s.journal l → P l
      at P all l names =
          let (x, has, is_named) = any_has (λ entry. named_key entry ≡ Some l) s.journal names in
          subst (λ (o : Option Key). IfSome o P) is_named (All-contains (λ entry. IfSome (named_key entry) P) s.journal x all (to_contains s.journal x has))

      later : (o : Option ℕ) → m.forgotten ≡ o → option_map_or (λ c. nat_lt c key.channel) o true ≡ true
      later None f = refl
      later (Some c) f =
          let (l, names, on, unknown) = is.forgot c f in
          elim (at (λ k. IsKnown s k ⊎ (k.channel < key.channel)) may.forgotten l names) [ inl k ↦ absurd (unknown k) | inr less ↦ less-ltb c key.channel (omega (arith, less, on)) ]

      same : (last : Key) → m.last ≡ Some last → (hs : List (Key × ℕ)) → held s ≡ hs → (length hs == 0 || last.channel == key.channel) ≡ true
      same last last_is [] e = refl
      same last last_is (x ∷ hs) e =
          let has : Has x (held s) = subst (Has x) (sym e) (inl refl) in
          let found = is.channel x (to_contains (held s) x has) in
          let both : Some last ≡ Some found.0 = sym last_is ∙ found.1 in
          let equal : last ≡ found.0 = cc in
          let here = All-contains (λ (other : Key × ℕ). (other.0).channel ≡ key.channel) (held s) x may.same_channel (to_contains (held s) x has) in
          or_true (length (x ∷ hs) == 0) (eq-eqb last.channel key.channel (ap (λ (k : Key). k.channel) equal ∙ sym found.2 ∙ here))
        where
          or_true : (b : Bool) {c : Bool} → c ≡ true → (b || c) ≡ true
          or_true true e = refl
          or_true false e = e

      by : (o : Option Key) → m.last ≡ o → option_map_or (λ (last : Key). is_key_below last key && (count == 0 || last.channel == key.channel) && option_map_or (λ c. nat_lt c key.channel) m.forgotten true) o true ≡ true
      by None none = refl
      by (Some last) last_is =
          let a = true_below last key (at (λ l. IsBelow l key) may.above last (is.named last last_is)) in
          let b = ap (λ n. n == 0 || last.channel == key.channel) counted ∙ same last last_is (held s) refl in
          let c = later m.forgotten refl in
          λ i. a i && b i && c i
