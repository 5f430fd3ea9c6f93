-- Passes that are split for applications and come home, and what came of these applications.
use Rattle.std.proofs.Common.{◌≡◌, ◌∙◌, refl, sym, ap, subst, ℕ, zero, suc, ◌+◌, ◌<◌, true, List, [], ◌∷◌, ◌++◌, length, get_or, map, append-nil, append_assoc, arith}
use Rattle.std.specs.Prelude.{All, Contains, Err, IfOk, Ok, Result}
use Rattle.std.proofs.lemmas.List.{get_or-map, length-map}
use Rattle.std.proofs.lemmas.List.Elements.{All-push, All-weaker}
use Rattle.rd_pending.specs.Table.{TableState}
use Rattle.rd_table.specs.declared.calls.PendingCall.{PendingCall}
use Rattle.rd_table.specs.declared.calls.PendingReply.{PendingReply}
use Rattle.rd_turn.specs.declared.object.Entry.{Entry}
use Rattle.rd_turn.specs.History.{calls_of}
use Rattle.rd_turn.specs.Pass.{Belongs, GoesOn, TurnId, after_split, new_pass}
use Rattle.rd_turn.proofs.HistoryLemmas.{All-after, GoesOn-joined, calls_of_kept}
use Rattle.rd_world.specs.World.{ApplicationState}
use Rattle.rd_issuer.specs.declared.issuer.Issuer.{Issuer}
use Rattle.rd_issuer.specs.Issues.{Issues, Rests, TablePass}
use Rattle.rd_issuer.specs.SideBySide.{RanSideBySide, RanWith}
use Rattle.rd_issuer.specs.Stints.{CameHome, HasIssued, IsFresh, StintState, after_splits, issuer_of, stints_of}

abbrev E : Type 0
E = Entry PendingCall PendingReply

-- ---- splits

-- what so many splits make of pass 0
pub record AreSplit (p q : TablePass) (count : ℕ) : Type 0 where
  pub table : q.table ≡ p.table
  pub opening : q.opening ≡ p.opening
  pub number : q.number ≡ p.number
  pub made : q.made ≡ p.made + count
  pub out : q.out ≡ p.out + count
  pub joined : q.joined ≡ p.joined

pub splits : (p : TablePass) (issuers : List Issuer) → AreSplit p (after_splits p issuers) (length issuers)
splits p [] = record { table = refl; opening = refl; number = refl; made = omega arith; out = omega arith; joined = refl }
splits p (i ∷ issuers) =
    let rest = splits (after_split p) issuers in
    record { table = rest.table; opening = rest.opening; number = rest.number; made = omega (arith, rest.made); out = omega (arith, rest.out); joined = rest.joined }

-- pass 0 stays pass 0 of its turn
pub splits_belong : (turn : TurnId TableState) (p q : TablePass) (issuers : List Issuer) → q ≡ after_splits p issuers → Belongs turn p → Belongs turn q
splits_belong turn p q issuers is own =
    let same = splits p issuers in
    (ap (λ (x : TablePass). x.table) is ∙ (same.table ∙ own.0), ap (λ (x : TablePass). x.opening) is ∙ (same.opening ∙ own.1))

pub splits_first : (p q : TablePass) (issuers : List Issuer) → q ≡ after_splits p issuers → p.number ≡ 0 → q.number ≡ 0
splits_first p q issuers is first = ap (λ (x : TablePass). x.number) is ∙ ((splits p issuers).number ∙ first)

-- what goes on from a pass that was split from goes on from the pass before
pub goes_on_split : (p q : TablePass) (issuers : List Issuer) → GoesOn (after_splits p issuers) q → GoesOn p q
goes_on_split p q [] on = on
goes_on_split p q (i ∷ issuers) on = goes_on_split (after_split p) q issuers on

pub goes_on_none : (p : TablePass) → GoesOn p p
goes_on_none p = ([], sym (append-nil p.seen), (refl, λ first place d within. refl))

-- one more split, for the application that comes first of those that are left
pub split_kept : (p q : TablePass) (i : Issuer) (left rest : List Issuer) → left ≡ i ∷ rest → q ≡ after_split p → after_splits q rest ≡ after_splits p left
split_kept p q i left rest is split = ap (λ (x : TablePass). after_splits x rest) split ∙ ap (after_splits p) (sym is)

pub split_next : (turn : TurnId TableState) (p q own : TablePass) (i : Issuer) (left rest : List Issuer) (done next : List StintState) (s : StintState) → left ≡ i ∷ rest → q ≡ after_split p → own ≡ new_pass p
    → s ≡ record { number = i.number; application = i.application; turn = turn; pass = own; found = true } → next ≡ done ++ s ∷ [] → next ++ stints_of turn q rest ≡ done ++ stints_of turn p left
split_next turn p q own i left rest done next s is split new made more =
    let first : s ≡ record { number = i.number; application = i.application; turn = turn; pass = new_pass p; found = true } =
    made ∙ ap (λ (x : TablePass). stint_with turn i x) new in
    ap (λ (l : List StintState). l ++ stints_of turn q rest) more
    ∙ (append_assoc done (s ∷ []) (stints_of turn q rest)
    ∙ (ap (λ (x : StintState). done ++ x ∷ stints_of turn q rest) first
    ∙ (ap (λ (x : TablePass). done ++ stint_with turn i (new_pass p) ∷ stints_of turn x rest) split ∙ ap (λ (l : List Issuer). done ++ stints_of turn p l) (sym is))))
  where
    stint_with : TurnId TableState → Issuer → TablePass → StintState
    stint_with t x pass = record { number = x.number; application = x.application; turn = t; pass = pass; found = true }

-- the stint of the application at a place, with the pass that is split for it
pub record IsStintOf (turn : TurnId TableState) (p : TablePass) (place : ℕ) (i : Issuer) (s : StintState) : Type 0 where
  pub number : s.number ≡ i.number
  pub application : s.application ≡ i.application
  pub own : s.turn ≡ turn
  pub pass : s.pass.number ≡ suc (p.made + place)
  pub seen : s.pass.seen ≡ p.seen

pub stint_at : (turn : TurnId TableState) (p : TablePass) (issuers : List Issuer) (place : ℕ) (d : StintState) (e : Issuer) → place < length issuers
    → IsStintOf turn p place (get_or issuers place e) (get_or (stints_of turn p issuers) place d)
stint_at turn p [] place d e within = absurd (omega arith)
stint_at turn p (i ∷ issuers) zero d e within = record { number = refl; application = refl; own = refl; pass = omega arith; seen = refl }
stint_at turn p (i ∷ issuers) (suc place) d e within =
    let rest = stint_at turn (after_split p) issuers place d e (omega arith) in
    record { number = rest.number; application = rest.application; own = rest.own; pass = omega (arith, rest.pass); seen = rest.seen }

pub stints_count : (turn : TurnId TableState) (p : TablePass) (issuers : List Issuer) → length (stints_of turn p issuers) ≡ length issuers
stints_count turn p [] = refl
stints_count turn p (i ∷ issuers) = ap suc (stints_count turn (after_split p) issuers)

-- ---- on its thread

abbrev pub EachIssued : List StintState → List StintState → Type 0
EachIssued stints done = (place : ℕ) (d e : StintState) → place < length stints → HasIssued (get_or stints place d) (get_or done place e)

-- each has the turn still that it was made with
pub turns_stay : (turn : TurnId TableState) (p : TablePass) (issuers : List Issuer) (stints done : List StintState) → stints ≡ stints_of turn p issuers → length done ≡ length stints → EachIssued stints done
    → All (λ (s : StintState). s.turn ≡ turn) done
turns_stay turn p issuers stints done is count each place d within =
    let known : length stints ≡ length issuers = ap length is ∙ stints_count turn p issuers in
    let old : get_or stints place d ≡ get_or (stints_of turn p issuers) place d = ap (λ (l : List StintState). get_or l place d) is in
    (each place d d (omega arith)).turn ∙ (ap (λ (s : StintState). s.turn) old ∙ (stint_at turn p issuers place d (issuer_of d) (omega arith)).own)

-- ---- joins

contains_more : {A : Type 0} (x y : A) (xs : List A) → Contains xs y → Contains (x ∷ xs) y
contains_more x y xs (place, within, is) = (suc place, omega arith, is)

-- a pass that came home before still has
came_on : (p new q : TablePass) (j : ℕ × ℕ) → p.number ≡ 0 → new.joined ≡ j ∷ p.joined → GoesOn p new → CameHome p q → CameHome new q
came_on p new q j first joined on came =
    let one : ℕ × ℕ = (q.number, length (calls_of q.number q.seen)) in
    record {
      joined = subst (λ (l : List (ℕ × ℕ)). Contains l one) (sym joined) (contains_more j one p.joined came.joined);
      calls = GoesOn-joined p new q.number (length (calls_of q.number q.seen)) first came.joined on ∙ came.calls;
    }

-- and the one that is joined has
pub all_came : (p new q : TablePass) (done : List StintState) (s : StintState) → p.number ≡ 0 → q ≡ s.pass → new.joined ≡ (q.number, length (calls_of q.number q.seen)) ∷ p.joined
    → calls_of q.number new.seen ≡ calls_of q.number q.seen → GoesOn p new → All (λ (t : StintState). CameHome p t.pass) done → All (λ (t : StintState). CameHome new t.pass) (done ++ s ∷ [])
all_came p new q done s first is joined calls on came =
    let j : ℕ × ℕ = (q.number, length (calls_of q.number q.seen)) in
    let home : CameHome new q = record { joined = subst (λ (l : List (ℕ × ℕ)). Contains l j) (sym joined) (0, omega arith, refl); calls = calls } in
    All-push (λ (t : StintState). CameHome new t.pass) done s
    (All-weaker (λ (t : StintState). CameHome p t.pass) (λ (t : StintState). CameHome new t.pass) (λ t was. came_on p new t.pass j first joined on was) done came)
    (subst (λ (r : TablePass). CameHome new r) is home)

-- pass 0 goes on twice
pub goes_on_then : (p q r : TablePass) (more : List (ℕ × ℕ)) → p.number ≡ 0 → q.number ≡ 0 → q.joined ≡ more ++ p.joined → GoesOn p q → GoesOn q r → GoesOn p r
goes_on_then p q r more first still joined (a, one, (none, joined_none)) (b, other, (none', joined_none')) =
    let same : q.number ≡ p.number = still ∙ sym first in
    let later : calls_of p.number b ≡ [] = subst (λ (n : ℕ). calls_of n b ≡ []) same none' in
    let P : ℕ × ℕ → Type 0 = λ j. calls_of j.0 b ≡ [] in
    let others : All P p.joined = All-after P more p.joined (subst (All P) joined (joined_none' still)) in (
      a ++ b,
      other ∙ (ap (λ (l : List E). l ++ b) one ∙ append_assoc p.seen a b),
      (calls_of_kept p.number a b later ∙ none, λ zero place d within. calls_of_kept (get_or p.joined place d).0 a b (others place d within) ∙ joined_none zero place d within),
    )

-- ---- what came of them

issues_same : (a a' n n' : ℕ) (x x' y y' : ApplicationState) (before before' after after' : List E) → a ≡ a' → n ≡ n' → x ≡ x' → y ≡ y' → before ≡ before' → after ≡ after' → Issues a n x y before after
    → Issues a' n' x' y' before' after'
issues_same a a' n n' x x' y y' before before' after after' number pass old new first last issued =
    subst (λ (z : ℕ). Issues z n' x' y' before' after') number (subst (λ (z : ℕ). Issues a z x' y' before' after') pass (subst (λ (z : ApplicationState). Issues a n z y' before' after') old
    (subst (λ (z : ApplicationState). Issues a n x z before' after') new (subst (λ (z : List E). Issues a n x y z after') first (subst (λ (z : List E). Issues a n x y before z) last issued)))))

ran_with : (turn : TurnId TableState) (before after : TablePass) (place : ℕ) (old new : Issuer) (s t : StintState) → IsStintOf turn before place old s → IsFresh s → HasIssued s t → t.found ≡ true → CameHome after t.pass
    → new ≡ issuer_of t → RanWith before after (suc (before.made + place)) old new
ran_with turn before after place old new s t of fresh issued found came is =
    let n = suc (before.made + place) in
    let number : t.pass.number ≡ n = issued.goes.same.0 ∙ of.pass in
    let all : calls_of n after.seen ≡ calls_of n t.pass.seen = subst (λ (k : ℕ). calls_of k after.seen ≡ calls_of k t.pass.seen) number came.calls in
    let none : calls_of n before.seen ≡ [] = subst (λ (l : List E). calls_of n l ≡ []) of.seen (subst (λ (k : ℕ). calls_of k s.pass.seen ≡ []) of.pass fresh) in
    record {
      number = ap (λ (i : Issuer). i.number) is ∙ (issued.number ∙ of.number);
      issued = issues_same s.number old.number s.pass.number n s.application old.application t.application new.application (calls_of s.pass.number s.pass.seen) [] (calls_of s.pass.number t.pass.seen) (calls_of n after.seen)
          of.number of.pass of.application (sym (ap (λ (i : Issuer). i.application) is)) fresh (ap (λ (k : ℕ). calls_of k t.pass.seen) of.pass ∙ sym all) (issued.goes.issued found);
      rests = subst (λ (l : List E). Rests new.application l) (sym all) (subst (λ (k : ℕ). Rests new.application (calls_of k t.pass.seen)) number
          (subst (λ (x : ApplicationState). Rests x (calls_of t.pass.number t.pass.seen)) (sym (ap (λ (i : Issuer). i.application) is)) (issued.rests found)));
      fresh = none;
      joined = subst (λ (l : List E). Contains after.joined (n, length l)) (sym all) (subst (λ (k : ℕ). Contains after.joined (k, length (calls_of k t.pass.seen))) number came.joined);
    }

pub ran_side_by_side : (turn : TurnId TableState) (p q r : TablePass) (issuers news : List Issuer) (stints done : List StintState) → stints ≡ stints_of turn p issuers → All IsFresh stints → q ≡ after_splits p issuers
    → length done ≡ length stints → EachIssued stints done → r.number ≡ 0 → r.made ≡ q.made → r.out + length done ≡ q.out → (more : List (ℕ × ℕ)) × (r.joined ≡ more ++ q.joined) → All (λ (s : StintState). CameHome r s.pass) done → All (λ (s : StintState). s.found ≡ true) done
    → news ≡ map issuer_of done → RanSideBySide p r issuers news
ran_side_by_side turn p q r issuers news stints done are fresh split count each first made out kept came found is =
    let old_count : length stints ≡ length issuers = ap length are ∙ stints_count turn p issuers in
    let new_count : length news ≡ length done = ap length is ∙ length-map done issuer_of in
    let halves = splits p issuers in
    let made_then : q.made ≡ p.made + length issuers = ap (λ (x : TablePass). x.made) split ∙ halves.made in
    let out_then : q.out ≡ p.out + length issuers = ap (λ (x : TablePass). x.out) split ∙ halves.out in
    record {
      count = new_count ∙ (count ∙ old_count);
      made = made ∙ made_then;
      out = omega arith;
      first = first;
      kept = (kept.0, kept.1 ∙ ap (λ (l : List (ℕ × ℕ)). kept.0 ++ l) (ap (λ (x : TablePass). x.joined) split ∙ halves.joined));
      ran = λ place d e within.
          let none : StintState = record { number = d.number; application = d.application; turn = turn; pass = p; found = true } in
          let here : place < length stints = omega arith in
          let there : place < length done = omega arith in
          let s = get_or stints place none in
          let t = get_or done place none in
          let of : IsStintOf turn p place (get_or issuers place d) s =
          subst (λ (l : List StintState). IsStintOf turn p place (get_or issuers place d) (get_or l place none)) (sym are) (stint_at turn p issuers place none d within) in
          let new : get_or news place e ≡ issuer_of t = ap (λ (l : List Issuer). get_or l place e) is ∙ get_or-map issuer_of done place none e there in
          ran_with turn p r place (get_or issuers place d) (get_or news place e) s t of (fresh place none here) (each place none none here) (found place none there) (came place none there) new;
    }

-- what two facts tell of a result, where it is one
pub both_ok : {T E : Type 0} (r : Result T E) (A B C : T → Type 0) → IfOk r A → IfOk r B → ((x : T) → A x → B x → C x) → IfOk r C
both_ok (Ok x) A B C first second so = so x first second
both_ok (Err e) A B C first second so = tt
