-- The keys of the jobs that are held, as they are found by completion ids: what calls make of them.
use Rattle.std.proofs.Common.{◌≡◌, ◌≢◌, ◌⊎◌, ◌∙◌, refl, sym, ap, ap₂, subst, inl, inr, ℕ, ◌≤◌, ◌+◌, ◌==◌, ◌&&◌, Bool, true, false, cond, not, List, [], ◌∷◌, length, arith, eq-eqb, eqb-true}
use Rattle.std.specs.Prelude.{Contains, None, Option, Some, find}
use Rattle.std.specs.Map.{lookup}
use Rattle.std.specs.Option.{option_map}
use Rattle.std.specs.Ordering.{nat_cmp}
use Rattle.std.specs.BTreeMap.{is_at}
use Rattle.rd_base.specs.declared.journal.Key.{Key}
use Rattle.rd_station.specs.Queues.{AreKeys}
use Rattle.rd_station.specs.Station.{StationState, held, is_key}
use Rattle.rd_station.proofs.Members.{Has, find_has, from_contains, key_self, same_key, to_contains}
use Rattle.rd_station.proofs.Counts.{cnt, cnt_cons, cnt_nil, cnt_some}
use Rattle.rd_station.proofs.Holding.{in_one, tally, with_id}

-- the key that is found by a completion id
abbrev found : List (ℕ × Key) → ℕ → Option Key
found keys id = lookup (is_at (nat_cmp id)) keys

abbrev pair : Key → ℕ → Key × ℕ
pair key id = (key, id)

-- ---- one job among those that are held

abbrev pub is_job : Key × ℕ → Key × ℕ → Bool
is_job x y = is_key y.0 x.0 && (y.1 == x.1)

job_self : (x : Key × ℕ) → is_job x x ≡ true
job_self x = rw (key_self x.0, eq-eqb x.1 x.1 refl) refl

same_job : (x y : Key × ℕ) → is_job x y ≡ true → y ≡ x
same_job x y e = by (is_key y.0 x.0) refl (y.1 == x.1) refl e
  where
    by : (a : Bool) → is_key y.0 x.0 ≡ a → (b : Bool) → (y.1 == x.1) ≡ b → (a && b) ≡ true → y ≡ x
    by true k true n e = λ i. (same_key y.0 x.0 k i, eqb-true y.1 x.1 n i)
    by true k false n e = absurd (cc)
    by false k b n e = absurd (cc)

-- where some pass, one does
cnt_has : {A : Type 0} (p : A → Bool) (xs : List A) → 1 ≤ cnt p xs → (x : A) × Has x xs × (p x ≡ true)
cnt_has p [] some = absurd (omega (arith, some, cnt_nil p))
cnt_has {A} p (x ∷ xs) some = by (p x) refl (cnt_has p xs)
  where
    by : (b : Bool) → p x ≡ b → (1 ≤ cnt p xs → (y : A) × Has y xs × (p y ≡ true)) → (y : A) × Has y (x ∷ xs) × (p y ≡ true)
    by true e later = (x, inl refl, e)
    by false e later =
        let none : cond {A = ℕ} (p x) 1 0 ≡ 0 = ap (λ b. cond {A = ℕ} b 1 0) e in
        let (y, has, passes) = later (omega (arith, some, cnt_cons p x xs, none)) in
        (y, inr has, passes)

-- a number is at itself alone
at_same : (id : ℕ) → is_at (nat_cmp id) id ≡ true
at_same id = grind arith

at_other : (id n : ℕ) → n ≢ id → is_at (nat_cmp id) n ≡ false
at_other id n apart = grind arith

-- where none is found by an id, none has it
none_with : (id : ℕ) (key : Key) (xs : List (Key × ℕ)) → find (λ (x : Key × ℕ). x.1 == id) xs ≡ None → Has (key, id) xs → ⊥
none_with id key [] none has = has
none_with id key (x ∷ xs) none has = go (x.1 == id) refl none has (none_with id key xs)
  where
    go : (b : Bool) → (x.1 == id) ≡ b → cond b (Some x) (find (λ (y : Key × ℕ). y.1 == id) xs) ≡ None → ((key, id) ≡ x) ⊎ Has (key, id) xs → (find (λ (y : Key × ℕ). y.1 == id) xs ≡ None → Has (key, id) xs → ⊥) → ⊥
    go true e none has later = absurd (cc)
    go false e none (inl same) later = absurd (cc (eq-eqb id id refl, ap (λ (y : Key × ℕ). y.1 == id) same, e))
    go false e none (inr there) later = later none there

module _ {S : Type 0} where
  has_tally : (s : StationState S) (x : Key × ℕ) → Has x (held s) → 1 ≤ tally (is_job x) s
  has_tally s x has = omega (arith, in_one (is_job x) s, cnt_some (is_job x) x (held s) has (job_self x))

  tally_has : (s : StationState S) (x : Key × ℕ) → 1 ≤ tally (is_job x) s → Has x (held s)
  tally_has s x some =
      let (y, has, same) = cnt_has (is_job x) (held s) (omega (arith, some, in_one (is_job x) s)) in
      subst (λ (z : Key × ℕ). Has z (held s)) (same_job x y same) has

  -- with a completion id
  id_tally : (s : StationState S) (x : Key × ℕ) → Has x (held s) → 1 ≤ tally (with_id x.1) s
  id_tally s x has = omega (arith, in_one (with_id x.1) s, cnt_some (with_id x.1) x (held s) has (eq-eqb x.1 x.1 refl))

  -- as many of each kind as before, where of none there are more, and as many in all
  pub tally_same : (s new : StationState S) → ((p : Key × ℕ → Bool) → tally p new ≤ tally p s) → length (held new) ≡ length (held s) → (p : Key × ℕ → Bool) → tally p new ≡ tally p s
  tally_same s new less all p = omega (
    arith,
    less p,
    less (λ x. not (p x)),
    both (held new),
    both (held s),
    in_one p s,
    in_one p new,
    in_one (λ x. not (p x)) s,
    in_one (λ x. not (p x)) new,
    all,
  )
    where
      one : (b : Bool) → cond {A = ℕ} b 1 0 + cond {A = ℕ} (not b) 1 0 ≡ 1
      one true = refl
      one false = refl

      both : (xs : List (Key × ℕ)) → cnt p xs + cnt (λ x. not (p x)) xs ≡ length xs
      both [] = omega (arith, cnt_nil p, cnt_nil (λ (x : Key × ℕ). not (p x)))
      both (x ∷ xs) = omega (arith, both xs, cnt_cons p x xs, cnt_cons (λ y. not (p y)) x xs, one (p x))

  -- where as many of each kind are held, the same are
  pub has_same : (s new : StationState S) → ((p : Key × ℕ → Bool) → tally p new ≡ tally p s) → (x : Key × ℕ) → Has x (held s) → Has x (held new)
  has_same s new same x has = tally_has new x (omega (arith, same (is_job x), has_tally s x has))

  -- where one more is held, it and the same are
  pub has_more : (s new : StationState S) (job : Key × ℕ) → ((p : Key × ℕ → Bool) → tally p new ≡ tally p s + cond (p job) 1 0)
      → ((x : Key × ℕ) → Has x (held new) → (x ≡ job) ⊎ Has x (held s)) × ((x : Key × ℕ) → Has x (held s) → Has x (held new)) × Has job (held new)
  has_more s new job more = (
    (λ x has. by x has (is_job x job) refl),
    (λ x has. tally_has new x (omega (arith, more (is_job x), has_tally s x has))),
    (let own : cond {A = ℕ} (is_job job job) 1 0 ≡ 1 = ap (λ b. cond {A = ℕ} b 1 0) (job_self job) in tally_has new job (omega (arith, more (is_job job), own))),
  )
    where
      by : (x : Key × ℕ) → Has x (held new) → (b : Bool) → is_job x job ≡ b → (x ≡ job) ⊎ Has x (held s)
      by x has true e = inl (sym (same_job x job e))
      by x has false e = let zero : cond {A = ℕ} (is_job x job) 1 0 ≡ 0 = ap (λ b. cond {A = ℕ} b 1 0) e in inr (tally_has s x (omega (arith, more (is_job x), zero, has_tally new x has)))

  -- ---- the keys

  -- the same jobs are held
  pub keys_same : (s new : StationState S) (keys : List (ℕ × Key)) → ((p : Key × ℕ → Bool) → tally p new ≡ tally p s) → AreKeys keys (held s) → AreKeys keys (held new)
  keys_same s new keys same are = record {
    of_held = λ job has. are.of_held job (to_contains (held s) job (tally_has s job (omega (arith, same (is_job job), has_tally new job (from_contains (held new) job has)))));
    held = λ id key is. to_contains (held new) (key, id) (tally_has new (key, id) (omega (arith, same (is_job (key, id)), has_tally s (key, id) (from_contains (held s) (key, id) (are.held id key is)))));
  }

  -- one is found by a completion id
  pub key_found : (s : StationState S) (keys : List (ℕ × Key)) → AreKeys keys (held s) → (id : ℕ) → option_map (λ (x : Key × ℕ). x.0) (find (λ (x : Key × ℕ). x.1 == id) (held s)) ≡ lookup (is_at (nat_cmp id)) keys
  key_found s keys are id = by (find (λ (x : Key × ℕ). x.1 == id) (held s)) refl (found keys id) refl
    where
      by : (one : Option (Key × ℕ)) → find (λ (x : Key × ℕ). x.1 == id) (held s) ≡ one → (key : Option Key) → found keys id ≡ key → option_map (λ (x : Key × ℕ). x.0) one ≡ found keys id
      by (Some x) f key is =
          let (has, same) = find_has (λ (x : Key × ℕ). x.1 == id) x (held s) f in
          let here = are.of_held x (to_contains (held s) x has) in
          sym (subst (λ (n : ℕ). found keys n ≡ Some x.0) (eqb-true x.1 id same) here)
      by None f None is = sym is
      by None f (Some key) is = absurd (none_with id key (held s) f (from_contains (held s) (key, id) (are.held id key is)))

  -- a job more is held, with an id that none had
  pub keys_more : (s new : StationState S) (keys keys_then : List (ℕ × Key)) (key : Key) (id : ℕ) → ((p : Key × ℕ → Bool) → tally p new ≡ tally p s + cond (p (key, id)) 1 0)
      → tally (with_id id) s ≡ 0 → ((n : ℕ) → lookup (is_at (nat_cmp n)) keys_then ≡ cond (is_at (nat_cmp id) n) (Some key) (lookup (is_at (nat_cmp n)) keys)) → AreKeys keys (held s) → AreKeys keys_then (held new)
  keys_more s new keys keys_then key id more none goes are = record { of_held = of_held; held = is_held }
    where
      of_held : (job : Key × ℕ) → Contains (held new) job → lookup (is_at (nat_cmp job.1)) keys_then ≡ Some job.0
      of_held job has = by (is_job job (key, id)) refl
        where
          by : (b : Bool) → is_job job (key, id) ≡ b → lookup (is_at (nat_cmp job.1)) keys_then ≡ Some job.0
          by true e =
              let same = same_job job (key, id) e in
              subst (λ (j : Key × ℕ). lookup (is_at (nat_cmp j.1)) keys_then ≡ Some j.0) same (goes id ∙ ap (λ b. cond b (Some key) (found keys id)) (at_same id))
          by false e =
              let zero : cond {A = ℕ} (is_job job (key, id)) 1 0 ≡ 0 = ap (λ b. cond {A = ℕ} b 1 0) e in
              let before = tally_has s job (omega (arith, more (is_job job), zero, has_tally new job (from_contains (held new) job has))) in
              let apart : job.1 ≢ id = λ same. omega (arith, none, subst (λ (n : ℕ). 1 ≤ tally (with_id n) s) same (id_tally s job before)) in
              goes job.1 ∙ ap (λ b. cond b (Some key) (found keys job.1)) (at_other id job.1 apart) ∙ are.of_held job (to_contains (held s) job before)

      is_held : (n : ℕ) (k : Key) → lookup (is_at (nat_cmp n)) keys_then ≡ Some k → Contains (held new) (k, n)
      is_held n k is = by (n == id) refl
        where
          by : (b : Bool) → (n == id) ≡ b → Contains (held new) (k, n)
          by true e =
              let same : n ≡ id = eqb-true n id e in
              let own : Some key ≡ Some k = sym (subst (λ (m : ℕ). found keys_then m ≡ Some key) (sym same) (goes id ∙ ap (λ b. cond b (Some key) (found keys id)) (at_same id))) ∙ is in
              let here : key ≡ k = cc in
              let job = ap₂ pair here (sym same) in
              let one : cond {A = ℕ} (is_job (k, n) (key, id)) 1 0 ≡ 1 = ap (λ (j : Key × ℕ). cond {A = ℕ} (is_job (k, n) j) 1 0) job ∙ ap (λ b. cond {A = ℕ} b 1 0) (job_self (k, n)) in
              to_contains (held new) (k, n) (tally_has new (k, n) (omega (arith, more (is_job (k, n)), one)))
          by false e =
              let apart : n ≢ id = λ same. cc (eq-eqb n id same, e) in
              let before = are.held n k (sym (goes n ∙ ap (λ b. cond b (Some key) (found keys n)) (at_other id n apart)) ∙ is) in
              to_contains (held new) (k, n) (tally_has new (k, n) (omega (arith, more (is_job (k, n)), has_tally s (k, n) (from_contains (held s) (k, n) before))))

  -- one less is held, and no other had its id
  pub keys_less : (s new : StationState S) (keys keys_then : List (ℕ × Key)) (key : Key) (id : ℕ) → ((p : Key × ℕ → Bool) → tally p s ≡ tally p new + cond (p (key, id)) 1 0)
      → tally (with_id id) s ≤ 1 → ((n : ℕ) → lookup (is_at (nat_cmp n)) keys_then ≡ cond (is_at (nat_cmp id) n) None (lookup (is_at (nat_cmp n)) keys)) → AreKeys keys (held s) → AreKeys keys_then (held new)
  keys_less s new keys keys_then key id less one goes are = record { of_held = of_held; held = is_held }
    where
      of_held : (job : Key × ℕ) → Contains (held new) job → lookup (is_at (nat_cmp job.1)) keys_then ≡ Some job.0
      of_held job has =
          let among = from_contains (held new) job has in
          let before = tally_has s job (omega (arith, less (is_job job), has_tally new job among)) in
          let own : cond {A = ℕ} (with_id id (key, id)) 1 0 ≡ 1 = ap (λ b. cond {A = ℕ} b 1 0) (eq-eqb id id refl) in
          let apart : job.1 ≢ id = λ same. omega (arith, one, less (with_id id), own, subst (λ (n : ℕ). 1 ≤ tally (with_id n) new) same (id_tally new job among)) in
          goes job.1 ∙ ap (λ b. cond b None (found keys job.1)) (at_other id job.1 apart) ∙ are.of_held job (to_contains (held s) job before)

      is_held : (n : ℕ) (k : Key) → lookup (is_at (nat_cmp n)) keys_then ≡ Some k → Contains (held new) (k, n)
      is_held n k is = by (n == id) refl
        where
          by : (b : Bool) → (n == id) ≡ b → Contains (held new) (k, n)
          by true e =
              let same : n ≡ id = eqb-true n id e in
              absurd (cc (is, subst (λ (m : ℕ). found keys_then m ≡ None) (sym same) (goes id ∙ ap (λ b. cond b None (found keys id)) (at_same id))))
          by false e =
              let apart : n ≢ id = λ same. cc (eq-eqb n id same, e) in
              let before = are.held n k (sym (goes n ∙ ap (λ b. cond b None (found keys n)) (at_other id n apart)) ∙ is) in
              let other : cond {A = ℕ} (is_job (k, n) (key, id)) 1 0 ≡ 0 = ap (λ b. cond {A = ℕ} b 1 0) (differs apart (is_job (k, n) (key, id)) refl) in
              to_contains (held new) (k, n) (tally_has new (k, n) (omega (arith, less (is_job (k, n)), other, has_tally s (k, n) (from_contains (held s) (k, n) before))))
            where
              differs : n ≢ id → (b : Bool) → is_job (k, n) (key, id) ≡ b → is_job (k, n) (key, id) ≡ false
              differs apart false e = e
              differs apart true e = absurd (apart (sym (ap (λ (j : Key × ℕ). j.1) (same_job (k, n) (key, id) e))))
