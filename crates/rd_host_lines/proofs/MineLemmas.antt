-- The calls of a history that are by some passes, where it goes on, and where one pass more is among them.
use Rattle.std.proofs.Common.{◌≡◌, ◌∙◌, refl, sym, ap, ℕ, ◌==◌, Bool, true, false, cond, List, [], ◌∷◌, ◌++◌, length, length-append, append-nil, map, filter, arith, eq-eqb, eqb-true}
use Rattle.std.specs.Prelude.{if◌then◌else◌}
use Rattle.std.specs.List.{AllByRecursion}
use Rattle.std.proofs.lemmas.List.Elements.{filter-append}
use Rattle.std.proofs.lemmas.List.{map-append}
use Rattle.rd_turn.specs.History.{calls_of}
use Rattle.rd_turn.proofs.HistoryLemmas.{calls_of-append}
use Rattle.rd_host_turns.specs.Turns.{TableEntry}
use Rattle.rd_host_lines.proofs.OutcomeLemmas.{calls_by, told_by}

-- one pass more
abbrev pub with_pass : (ℕ → Bool) → ℕ → ℕ → Bool
with_pass mine new k = if k == new then true else mine k

abbrev pub by_these : (ℕ → Bool) → List TableEntry → List TableEntry
by_these mine entries = filter (λ (e : TableEntry). mine e.by) entries

-- none of these calls is by one of the passes
abbrev pub HaveNone : (ℕ → Bool) → List TableEntry → Type 0
HaveNone mine entries = (k : ℕ) → mine k ≡ true → calls_of k entries ≡ []

later_none : (k : ℕ) (e : TableEntry) (entries : List TableEntry) → calls_of k (e ∷ entries) ≡ [] → calls_of k entries ≡ []
later_none k e entries is = by (e.by == k) is
  where
    by : (b : Bool) → cond b (e ∷ calls_of k entries) (calls_of k entries) ≡ [] → calls_of k entries ≡ []
    by true is = absurd (cc is)
    by false is = is

own_none : (e : TableEntry) (entries : List TableEntry) → calls_of e.by (e ∷ entries) ≡ [] → ⊥
own_none e entries is = by (e.by == e.by) (eq-eqb e.by e.by refl) is
  where
    by : (b : Bool) → b ≡ true → cond b (e ∷ calls_of e.by entries) (calls_of e.by entries) ≡ [] → ⊥
    by true own is = absurd (cc is)
    by false own is = absurd (cc own)

pub nothing_more : (xs ys : List TableEntry) → xs ++ ys ≡ xs → ys ≡ []
nothing_more xs [] is = refl
nothing_more xs (y ∷ ys) is = absurd (omega (arith, length-append xs (y ∷ ys), ap length is))

module _ (mine : ℕ → Bool) where
  not_mine : (e : TableEntry) (entries : List TableEntry) → HaveNone mine (e ∷ entries) → mine e.by ≡ false
  not_mine e entries none = by (mine e.by) refl
    where
      by : (b : Bool) → mine e.by ≡ b → b ≡ false
      by true own = absurd (own_none e entries (none e.by own))
      by false own = refl

  pub mine_none : (entries : List TableEntry) → HaveNone mine entries → by_these mine entries ≡ []
  mine_none [] none = refl
  mine_none (e ∷ entries) none =
      ap (λ (b : Bool). cond {A = List TableEntry} b (e ∷ by_these mine entries) (by_these mine entries)) (not_mine e entries none) ∙ mine_none entries (λ k own. later_none k e entries (none k own))

  -- of calls of which none is by the new pass, the same are by the others
  pub mine_before : (new : ℕ) (entries : List TableEntry) → calls_of new entries ≡ [] → by_these (with_pass mine new) entries ≡ by_these mine entries
  mine_before new [] none = refl
  mine_before new (e ∷ entries) none = by (mine_before new entries) (e.by == new) (mine e.by) none
    where
      by : (calls_of new entries ≡ [] → by_these (with_pass mine new) entries ≡ by_these mine entries) → (b c : Bool) → cond b (e ∷ calls_of new entries) (calls_of new entries) ≡ []
          → cond {A = List TableEntry} (if b then true else c) (e ∷ by_these (with_pass mine new) entries) (by_these (with_pass mine new) entries)
          ≡ cond {A = List TableEntry} c (e ∷ by_these mine entries) (by_these mine entries)
      by rest true c none = absurd (cc none)
      by rest false true none = ap (λ (l : List TableEntry). e ∷ l) (rest none)
      by rest false false none = rest none

  -- of calls of which none is by the others, those of the new pass are
  pub mine_after : (new : ℕ) (entries : List TableEntry) → HaveNone mine entries → by_these (with_pass mine new) entries ≡ calls_of new entries
  mine_after new [] none = refl
  mine_after new (e ∷ entries) none =
      by (e.by == new) (mine e.by) (not_mine e entries none) (mine_after new entries (λ k own. later_none k e entries (none k own)))
    where
      by : (b c : Bool) → c ≡ false → by_these (with_pass mine new) entries ≡ calls_of new entries
          → cond {A = List TableEntry} (if b then true else c) (e ∷ by_these (with_pass mine new) entries) (by_these (with_pass mine new) entries)
          ≡ cond {A = List TableEntry} b (e ∷ calls_of new entries) (calls_of new entries)
      by true c own rest = ap (λ (l : List TableEntry). e ∷ l) rest
      by false true own rest = absurd (cc own)
      by false false own rest = rest

  -- where the calls of each of the passes stay, none of those that are added is by them
  pub none_added : (xs more ys : List TableEntry) → xs ++ more ≡ ys → ((k : ℕ) → mine k ≡ true → calls_of k ys ≡ calls_of k xs) → HaveNone mine more
  none_added xs more ys is stay k own =
      nothing_more (calls_of k xs) (calls_of k more) (sym (calls_of-append k xs more) ∙ (ap (calls_of k) is ∙ stay k own))

  pub calls_stay : (xs more ys : List TableEntry) → xs ++ more ≡ ys → HaveNone mine more → calls_by mine ys ≡ calls_by mine xs
  calls_stay xs more ys is none =
      ap (map told_by) (ap (by_these mine) (sym is) ∙ (filter-append (λ (e : TableEntry). mine e.by) xs more ∙ (ap (λ (l : List TableEntry). by_these mine xs ++ l) (mine_none more none) ∙ append-nil (by_these mine xs))))

  pub calls_more : (new : ℕ) (xs more ys : List TableEntry) → xs ++ more ≡ ys → HaveNone mine more → calls_of new xs ≡ [] → calls_by (with_pass mine new) ys ≡ calls_by mine xs ++ map told_by (calls_of new ys)
  calls_more new xs more ys is none fresh =
      ap (map told_by) (ap (by_these (with_pass mine new)) (sym is) ∙ (filter-append (λ (e : TableEntry). with_pass mine new e.by) xs more
      ∙ (λ i. mine_before new xs fresh i ++ mine_after new more none i)))
      ∙ (map-append told_by (by_these mine xs) (calls_of new more)
      ∙ ap (λ (l : List TableEntry). calls_by mine xs ++ map told_by l) (sym (sym (ap (calls_of new) is) ∙ (calls_of-append new xs more ∙ ap (λ (l : List TableEntry). l ++ calls_of new more) fresh))))

  -- the calls of one of the passes are by them
  pub mine_are : (k : ℕ) → mine k ≡ true → (entries : List TableEntry) → AllByRecursion (λ (e : TableEntry). mine e.by ≡ true) (calls_of k entries)
  mine_are k own [] = tt
  mine_are k own (e ∷ entries) = by (e.by == k) refl (mine_are k own entries)
    where
      by : (b : Bool) → (e.by == k) ≡ b → AllByRecursion (λ (e : TableEntry). mine e.by ≡ true) (calls_of k entries)
          → AllByRecursion (λ (e : TableEntry). mine e.by ≡ true) (cond {A = List TableEntry} b (e ∷ calls_of k entries) (calls_of k entries))
      by true is rest = (ap mine (eqb-true e.by k is) ∙ own, rest)
      by false is rest = rest
