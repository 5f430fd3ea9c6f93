-- How many requests that came on a channel aren't sent, and what one entry more makes of that.
use Rattle.std.proofs.Common.{◌≡◌, ◌≢◌, ◌∙◌, refl, sym, ap, inl, inr, ℕ, ◌≤◌, ◌+◌, ◌==◌, ◌&&◌, ◌||◌, Bool, true, false, cond, not, List, [], ◌∷◌, ◌++◌, arith, eqb-true, eq-eqb}
use Rattle.std.specs.Prelude.{All, Contains, IfSome, count_by}
use Rattle.std.specs.List.{list_any}
use Rattle.std.proofs.lemmas.List.Elements.{All-contains}
use Rattle.std.proofs.lemmas.List.Folds.{list_any-append}
use Rattle.rd_base.specs.declared.journal.Key.{Key}
use Rattle.rd_base.specs.declared.journal.Item.{Item}
use Rattle.rd_base.specs.declared.journal.Item.TheVariants.{Came, Ran, Cancelled, Sent, Cut}
use Rattle.rd_base.specs.Lawful.{FewUnsent, IsLawful, NoneAboveChannel, is_unsent, named_key, sends}
use Rattle.rd_station.proofs.Members.{Has, from_contains, key_self, same_key, to_contains}
use Rattle.rd_station.proofs.Counts.{cnt, cnt_append, cnt_fewer, cnt_is, cnt_less, cnt_none, cnt_one}
use Rattle.rd_station.proofs.Requests.{MayFollow, all_less, all_more, lawful_more}

abbrev pub unsent_on : ℕ → List Item → ℕ
unsent_on c j = cnt (is_unsent j c) j

-- whether an entry says that a request came on the channel
abbrev pub adds : ℕ → Item → Bool
adds c (Came key) = key.channel == c
adds c _ = false

-- what is unsent with one entry more was so before
milder : (j : List Item) (x : Item) (c : ℕ) (y : Item) → is_unsent (j ++ x ∷ []) c y ≡ true → is_unsent j c y ≡ true
milder j x c (Came key) e = by (key.channel == c) (list_any (sends key) j) (sends key x) (sym (ap (λ b. key.channel == c && not b) (list_any-append (sends key) j (x ∷ []))) ∙ e)
  where
    by : (a b d : Bool) → (a && not (b || (d || false))) ≡ true → (a && not b) ≡ true
    by true true d e = absurd (cc)
    by true false d e = refl
    by false b d e = absurd (cc)
milder j x c (Ran key moment starved parked) e = e
milder j x c (Cancelled key) e = e
milder j x c (Sent key) e = e
milder j x c (Cut cause) e = e

only_adds : (j : List Item) (c : ℕ) (x : Item) → cond {A = ℕ} (is_unsent j c x) 1 0 ≤ cond (adds c x) 1 0
only_adds j c (Came key) = by (key.channel == c) (not (list_any (sends key) j))
  where
    by : (a b : Bool) → cond {A = ℕ} (a && b) 1 0 ≤ cond a 1 0
    by true true = omega arith
    by true false = omega arith
    by false b = omega arith
only_adds j c (Ran key moment starved parked) = omega arith
only_adds j c (Cancelled key) = omega arith
only_adds j c (Sent key) = omega arith
only_adds j c (Cut cause) = omega arith

pub unsent_more : (c : ℕ) (j : List Item) (x : Item) → unsent_on c (j ++ x ∷ []) ≤ unsent_on c j + cond (adds c x) 1 0
unsent_more c j x =
    let now = is_unsent (j ++ x ∷ []) c in
    omega (arith, cnt_append now j (x ∷ []), cnt_one now x, cnt_less (is_unsent j c) now (milder j x c) j, only_adds (j ++ x ∷ []) c x)

-- what is sent was unsent
sends_none : (key : Key) (j : List Item) → All (λ x. x ≢ Sent key) j → list_any (sends key) j ≡ false
sends_none key j none = go j (λ x has. All-contains (λ y. y ≢ Sent key) j x none (to_contains j x has))
  where
    is_sent : (x : Item) → sends key x ≡ true → x ≡ Sent key
    is_sent (Sent k) e = ap Sent (same_key k key e)
    is_sent (Came k) e = absurd (cc)
    is_sent (Ran k moment starved parked) e = absurd (cc)
    is_sent (Cancelled k) e = absurd (cc)
    is_sent (Cut cause) e = absurd (cc)

    fails : (x : Item) → x ≢ Sent key → (b : Bool) → sends key x ≡ b → b ≡ false
    fails x apart true e = absurd (apart (is_sent x e))
    fails x apart false e = refl

    go : (xs : List Item) → ((x : Item) → Has x xs → x ≢ Sent key) → list_any (sends key) xs ≡ false
    go [] each = refl
    go (x ∷ xs) each = rw (fails x (each x (inl refl)) (sends key x) refl) (go xs (λ y has. each y (inr has)))

sends_last : (key : Key) (j : List Item) → list_any (sends key) (j ++ Sent key ∷ []) ≡ true
sends_last key j = list_any-append (sends key) j (Sent key ∷ []) ∙ by (list_any (sends key) j) (sends key (Sent key)) (key_self key)
  where
    by : (a b : Bool) → b ≡ true → (a || (b || false)) ≡ true
    by true b e = refl
    by false true e = refl
    by false false e = e

pub unsent_sent : (j : List Item) (key : Key) → Contains j (Came key) → All (λ x. x ≢ Sent key) j → unsent_on key.channel (j ++ Sent key ∷ []) + 1 ≤ unsent_on key.channel j
unsent_sent j key came unsent =
    let now = is_unsent (j ++ Sent key ∷ []) key.channel in
    let was : is_unsent j key.channel (Came key) ≡ true = rw (eq-eqb key.channel key.channel refl, sends_none key j unsent) refl in
    let isnt : now (Came key) ≡ false = rw (eq-eqb key.channel key.channel refl, sends_last key j) refl in
    omega (
      arith,
      cnt_append now j (Sent key ∷ []),
      cnt_one now (Sent key),
      cnt_fewer (is_unsent j key.channel) now (milder j (Sent key) key.channel) (Came key) was isnt j (from_contains j (Came key) came),
    )

-- none is where what came on the channel was sent
pub none_unsent : (c : ℕ) (j : List Item) → ((key : Key) → key.channel ≡ c → Contains j (Came key) → Contains j (Sent key)) → unsent_on c j ≡ 0
none_unsent c j each = cnt_none (is_unsent j c) j fails
  where
    any_sends : (key : Key) (xs : List Item) → Has (Sent key) xs → list_any (sends key) xs ≡ true
    any_sends key [] none = absurd none
    any_sends key (x ∷ xs) (inl here) = rw (sym (ap (sends key) here), key_self key) refl
    any_sends key (x ∷ xs) (inr later) = by (sends key x) (any_sends key xs later)
      where
        by : (a : Bool) → list_any (sends key) xs ≡ true → (a || list_any (sends key) xs) ≡ true
        by true e = refl
        by false e = e

    fails : (x : Item) → Has x j → is_unsent j c x ≡ false
    fails (Came key) has = by (key.channel == c) refl
      where
        by : (b : Bool) → (key.channel == c) ≡ b → (b && not (list_any (sends key) j)) ≡ false
        by true e = ap not (any_sends key j (from_contains j (Sent key) (each key (eqb-true key.channel c e) (to_contains j (Came key) has))))
        by false e = refl
    fails (Ran key moment starved parked) has = refl
    fails (Cancelled key) has = refl
    fails (Sent key) has = refl
    fails (Cut cause) has = refl

-- few are unsent with one entry more, where few are on the channel of one that comes
pub few_more : (j : List Item) (x : Item) → FewUnsent j → ((c : ℕ) → adds c x ≡ true → unsent_on c j + 1 ≤ 128) → FewUnsent (j ++ x ∷ [])
few_more j x few room c low = by (adds c x) refl
  where
    was : unsent_on c j ≤ 128
    was = omega (arith, cnt_is (is_unsent j c) j, few c (all_less (λ entry. IfSome (named_key entry) (λ key. key.channel ≤ c)) j (x ∷ []) low))

    by : (b : Bool) → adds c x ≡ b → count_by (is_unsent (j ++ x ∷ []) c) (j ++ x ∷ []) ≤ 128
    by true e = omega (arith, cnt_is (is_unsent (j ++ x ∷ []) c) (j ++ x ∷ []), unsent_more c j x, ap (λ b. cond {A = ℕ} b 1 0) e, room c e)
    by false e = omega (arith, cnt_is (is_unsent (j ++ x ∷ []) c) (j ++ x ∷ []), unsent_more c j x, ap (λ b. cond {A = ℕ} b 1 0) e, was)

-- nothing comes by such an entry
pub lawful_still : (j : List Item) (x : Item) → IsLawful j → MayFollow j x → ((c : ℕ) → adds c x ≡ false) → IsLawful (j ++ x ∷ [])
lawful_still j x law may none = lawful_more j x law may (few_more j x law.few_unsent.1 (λ c e. absurd (cc (none c, e))))

pub low_more : (c : ℕ) (j : List Item) (x : Item) → NoneAboveChannel c j → IfSome (named_key x) (λ key. key.channel ≤ c) → NoneAboveChannel c (j ++ x ∷ [])
low_more c j x low one = all_more (λ entry. IfSome (named_key entry) (λ key. key.channel ≤ c)) j x low one
