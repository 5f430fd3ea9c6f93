-- What the steps of one call make together.
use Rattle.std.proofs.Common.{◌≡◌, ℕ, suc, Option, Some, None, List, [], ◌∷◌, ◌++◌, get_or, All, ◌≤◌, sym, ap, ◌∙◌, subst, arith}
use Rattle.std.proofs.lemmas.List.Elements.{All-push}
use Rattle.std.proofs.lemmas.Option.{same_Some}
use Rattle.atomic_table.specs.Table.{Me, rest}
use Rattle.rd_turn.specs.declared.object.Entry.{Entry}
use Rattle.rd_turn.specs.declared.rule.Stage.TheVariants.{AtTurn}
use Rattle.rd_turn.specs.declared.rule.View.{View}
use Rattle.rd_turn.specs.History.{Leads, entry}
use Rattle.rd_turn.specs.Rule.{count_of}
use Rattle.rd_turn.specs.Plays.{waiting_view, turn_view, passed_view, Grown, Comes}
use mathlib.Core.Option.{some}
use lib.ListN.{get_elem?}
use Rattle.rd_turn.specs.Seats.{HasCalled}
use Rattle.rd_turn.proofs.HistoryLemmas.{leads-snoc, count_of-append, count_of_one}

pub one_held : {S : Type 0} (l : List (ℕ × S)) (y : ℕ × S) → l ≡ y ∷ [] → l ≡ y ∷ rest l
one_held l y e = e ∙ ap (λ z. y ∷ rest z) (sym e)

held_is : {S : Type 0} (l : List (ℕ × S)) (x o : S) → l ≡ (0, o) ∷ [] → l ≡ (0, x) ∷ rest l → x ≡ o
held_is {S} l x o e f = let g : (0, x) ∷ rest l ≡ (0, o) ∷ [] = sym f ∙ e in ap (λ (z : List (ℕ × S)). (get_or z 0 (0, o)).1) g

module _ {O C R : Type 0} (steps : O → C → R → O → Type 0) where
  abbrev V : Type 0
  V = View O C R

  abbrev M : Type 0
  M = Me (Option O) V

  -- what is known once the seat is at turn and the call is made
  pub record Done (v : V) (t : ℕ) (c : C) (reply : R) (after : O) (m : M) : Type 0 where
    pub first : O
    pub before : O
    pub seen : List (Entry C R)
    pub added : List (Entry C R)
    pub opened : v.opening ≡ Some first
    pub at_turn : m ≡ (turn_view v seen t c, (0, Some after) ∷ [])
    pub leads : Leads steps first seen before
    pub stepped : steps before c reply after
    pub grown : seen ≡ v.seen ++ added
    pub not_own : count_of v.number added ≡ 0
    pub not_joined : v.number ≡ 0 → (i k n : ℕ) → get_elem? v.joined i ≡ some (k, n) → count_of k added ≡ 0
    pub own : count_of v.number seen ≡ v.calls
    pub numbers : v.number ≡ 0 → All (λ e. e.by ≤ v.made) seen

  pub done : (v : V) (t : ℕ) (c : C) (reply : R) (m₁ m₂ m₃ m₄ : M) (x : Option O) (b after : O) → m₁ ≡ (waiting_view v t c, []) → Comes steps t c m₁ m₂
      → m₂.1 ≡ (0, x) ∷ rest m₂.1 → m₃ ≡ (m₂.0, (0, None) ∷ rest m₂.1) → m₄ ≡ (m₃.0, (0, Some after) ∷ rest m₃.1) → x ≡ Some b → steps b c reply after → Done v t c reply after m₄
  done v t c reply m₁ m₂ m₃ m₄ x b after e₁ comes out e₃ e₄ is stepped =
      let o = comes.1 in
      let seen = comes.2 in
      let e₂ : m₂ ≡ (turn_view v seen t c, (0, Some o) ∷ []) = comes.5 ∙ ap (λ (m : M). (turn_view m.0 seen t c, (0, Some o) ∷ [])) e₁ in
      let e₃' : m₃ ≡ (turn_view v seen t c, (0, None) ∷ []) = e₃ ∙ ap (λ (m : M). (m.0, (0, None) ∷ rest m.1)) e₂ in
      let same : x ≡ Some o = held_is m₂.1 x (Some o) (ap (λ (m : M). m.1) e₂) out in
      let same_b : b ≡ o = same_Some b o (sym is ∙ same) in
      let g : Grown (waiting_view v t c) seen comes.3 = subst (λ (m : M). Grown m.0 seen comes.3) e₁ comes.7 in
      record {
        first = comes.0;
        before = o;
        seen = seen;
        added = comes.3;
        opened = ap (λ (m : M). m.0.opening) (sym e₁) ∙ comes.4;
        at_turn = e₄ ∙ ap (λ (m : M). (m.0, (0, Some after) ∷ rest m.1)) e₃';
        leads = comes.6;
        stepped = subst (λ (y : O). steps y c reply after) same_b stepped;
        grown = g.grown;
        not_own = g.not_own;
        not_joined = g.not_joined;
        own = g.own;
        numbers = g.numbers;
      }

  pub has_called : (v : V) (t : ℕ) (c : C) (reply : R) (after : O) (m : M) → Done v t c reply after m → HasCalled steps reply m
  has_called v t c reply after m d = (
    t,
    c,
    d.first,
    d.before,
    after,
    ap (λ (z : M). z.0.stage) d.at_turn,
    ap (λ (z : M). z.0.opening) d.at_turn ∙ d.opened,
    subst (λ (l : List (Entry C R)). Leads steps d.first l d.before) (ap (λ (z : M). z.0.seen) (sym d.at_turn)) d.leads,
    d.stepped,
    ap (λ (z : M). z.1) d.at_turn,
  )

  pub is_passed : (v : V) (t : ℕ) (c : C) (reply : R) (after : O) (m m' : M) (d : Done v t c reply after m) → ((t' : ℕ) (c' : C) → m.0.stage ≡ AtTurn t' c' → m' ≡ (passed_view m.0 c' reply, []))
      → m' ≡ (passed_view (turn_view v d.seen t c) c reply, [])
  is_passed v t c reply after m m' d told = told t c (ap (λ (z : M). z.0.stage) d.at_turn) ∙ ap (λ (z : M). (passed_view z.0 c reply, [])) d.at_turn

  pub leads_on : (v : V) (t : ℕ) (c : C) (reply : R) (after : O) (m : M) (d : Done v t c reply after m) → Leads steps d.first (d.seen ++ entry v.number c reply ∷ []) after
  leads_on v t c reply after m d = leads-snoc steps d.first d.seen d.before (entry v.number c reply) after d.leads d.stepped

  pub one_more : (v : V) (t : ℕ) (c : C) (reply : R) (after : O) (m : M) (d : Done v t c reply after m) → count_of v.number (d.seen ++ entry v.number c reply ∷ []) ≡ suc v.calls
  one_more v t c reply after m d = let s = count_of-append v.number d.seen (entry v.number c reply ∷ []) in let o = count_of_one v.number c reply in let w = d.own in omega arith

  pub known_on : (v : V) (t : ℕ) (c : C) (reply : R) (after : O) (m : M) (d : Done v t c reply after m) → v.number ≡ 0 → All (λ (e : Entry C R). e.by ≤ v.made) (d.seen ++ entry v.number c reply ∷ [])
  known_on v t c reply after m d z = All-push (λ (e : Entry C R). e.by ≤ v.made) d.seen (entry v.number c reply) (d.numbers z) (omega arith)
