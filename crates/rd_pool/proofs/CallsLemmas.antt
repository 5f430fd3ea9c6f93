-- What a split, a call, a join and a close make of what holds of the calls of passes.
use Rattle.std.proofs.Common.{◌≡◌, ◌≢◌, ◌∙◌, refl, sym, ap, subst, ℕ, Bool, true, false, cond, ◌==◌, zero, suc, ◌≤◌, List, [], ◌∷◌, ◌++◌, append_assoc, length, map, eq-eqb, arith}
use Rattle.std.specs.Prelude.{All, Contains}
use Rattle.std.specs.List.{AllZip, zip}
use Rattle.std.proofs.lemmas.Bool.{eqb-true}
use Rattle.std.proofs.lemmas.List.{append_cancel_left, append-nil}
use Rattle.std.proofs.lemmas.List.Elements.{All-cons, All-contains, All-contains_itself, All-head, All-map, All-nil, All-push, All-same, All-tail, All-weaker, Contains-append_right, filter_passes}
use mathlib.Core.List.{IsPrefix}
use Rattle.rd_turn.specs.declared.object.Entry.{Entry}
use Rattle.rd_turn.specs.History.{calls_of, entry}
use Rattle.rd_turn.specs.Pass.{Called, GoesOn, HasAllCalls, IsSamePass, after_split, first_pass}
use Rattle.rd_turn.proofs.HistoryLemmas.{All-after, All-prefix, Called-joined, Called-own, GoesOn-joined, GoesOn-own, calls_of-append}
use Rattle.rd_desk.specs.declared.calls.DeskCall.{DeskCall}
use Rattle.rd_desk.specs.declared.calls.DeskReply.{DeskReply}
use Rattle.rd_desk.specs.Desk.{job_put}
use Rattle.rd_pool.specs.Desks.{AllByHand, AllByHandBut, CameHome, DeskPass, DeskTurn, HoldsOfCalls, IsByHand, IsByHandBut, IsFirst, IsFresh, IsJoined, IsOther}

abbrev E : Type 0
E = Entry DeskCall DeskReply

module _ {S : Type 0} (P : E → Type 0) where
  abbrev WasJoined : DeskPass S → ℕ × ℕ → Type 0
  WasJoined p j = (j.0 ≢ 0) × All P (calls_of j.0 p.seen)

  -- ---- a split

  pub split_holds : (ps qs : List (DeskPass S)) → qs ≡ map after_split ps → All (HoldsOfCalls P) ps → All (HoldsOfCalls P) qs
  split_holds ps qs is holds = All-same (HoldsOfCalls P) qs (map after_split ps) is (All-map (HoldsOfCalls P) after_split ps
      (All-weaker (HoldsOfCalls P) (λ (p : DeskPass S). HoldsOfCalls P (after_split p)) (λ p k. record { own = k.own; joined = k.joined }) ps holds))

  -- passes that were just split
  pub new_holds : (turn : DeskTurn S) (p : DeskPass S) → IsFresh turn p → HoldsOfCalls P p
  new_holds turn p fresh = record { own = All-same P (calls_of p.number p.seen) [] fresh.fresh (All-nil P); joined = λ first. absurd (fresh.number first) }

  pub fresh_hold : (turns : List (DeskTurn S)) (ps : List (DeskPass S)) → AllZip IsFresh turns ps → All (HoldsOfCalls P) ps
  fresh_hold [] [] fresh = All-nil (HoldsOfCalls P)
  fresh_hold [] (p ∷ ps) fresh = absurd fresh
  fresh_hold (t ∷ ts) [] fresh = absurd fresh
  fresh_hold (t ∷ ts) (p ∷ ps) fresh = All-cons (HoldsOfCalls P) p ps (new_holds t p fresh.0) (fresh_hold ts ps fresh.1)

  -- the pass that a turn is made with
  pub first_holds : (turn : DeskTurn S) (ps qs : List (DeskPass S)) (p : DeskPass S) → qs ≡ ps ++ p ∷ [] → p ≡ first_pass turn → All (HoldsOfCalls P) ps → All (HoldsOfCalls P) qs
  first_holds turn ps qs p more is holds = All-same (HoldsOfCalls P) qs (ps ++ p ∷ []) more
      (All-push (HoldsOfCalls P) ps p holds (subst (HoldsOfCalls P) (sym is) (record { own = All-nil P; joined = λ first. All-nil (WasJoined (first_pass turn)) })))

  -- ---- a call

  pub call_holds : (p q : DeskPass S) (call : DeskCall) (reply : DeskReply) → IsSamePass p q → Called p call reply q → P (entry p.number call reply) → HoldsOfCalls P p → HoldsOfCalls P q
  call_holds p q call reply same called now holds = record {
    own = subst (λ (n : ℕ). All P (calls_of n q.seen)) (sym same.0)
        (All-same P (calls_of p.number q.seen) (calls_of p.number p.seen ++ entry p.number call reply ∷ []) (Called-own p q call reply called)
        (All-push P (calls_of p.number p.seen) (entry p.number call reply) holds.own now));
    joined = λ first.
        let zero : p.number ≡ 0 = sym same.0 ∙ first in
        let before = holds.joined zero in
        All-same (WasJoined q) q.joined p.joined same.3
        (All-weaker (λ (j : ℕ × ℕ). Contains p.joined j × WasJoined p j) (WasJoined q)
        (λ j is. (is.1.0, All-same P (calls_of j.0 q.seen) (calls_of j.0 p.seen) (Called-joined p q call reply j.0 j.1 zero is.1.0 is.0 called) is.1.1))
        p.joined (λ k d within. (All-contains_itself p.joined k d within, before k d within)));
  }

  -- ---- a join

  join_holds : (turn : DeskTurn S) (p q new : DeskPass S) → IsFirst turn p → IsOther turn q → IsJoined (p, q) new → HoldsOfCalls P p → HoldsOfCalls P q → HoldsOfCalls P new
  join_holds turn p q new first other joined holds too = record {
    own = subst (λ (n : ℕ). All P (calls_of n new.seen)) (first.number ∙ sym joined.counts.0)
        (All-same P (calls_of p.number new.seen) (calls_of p.number p.seen) (GoesOn-own p new joined.goes_on) holds.own);
    joined = λ zero. All-same (WasJoined new) new.joined ((q.number, length (calls_of q.number q.seen)) ∷ p.joined) joined.joined
        (All-cons (WasJoined new) (q.number, length (calls_of q.number q.seen)) p.joined
        (other.number, All-same P (calls_of q.number new.seen) (calls_of q.number q.seen) joined.other_calls too.own)
        (let before = holds.joined first.number in
        All-weaker (λ (j : ℕ × ℕ). Contains p.joined j × WasJoined p j) (WasJoined new)
        (λ j is. (is.1.0, All-same P (calls_of j.0 new.seen) (calls_of j.0 p.seen) (GoesOn-joined p new j.0 j.1 first.number is.0 joined.goes_on) is.1.1))
        p.joined (λ k d within. (All-contains_itself p.joined k d within, before k d within))));
  }

  pub joins_hold : (turns : List (DeskTurn S)) (ps qs new : List (DeskPass S)) → AllZip IsFirst turns ps → AllZip IsOther turns qs → AllZip IsJoined (zip ps qs) new
      → All (HoldsOfCalls P) ps → All (HoldsOfCalls P) qs → All (HoldsOfCalls P) new
  joins_hold [] [] qs [] first other joined holds too = All-nil (HoldsOfCalls P)
  joins_hold [] [] qs (r ∷ rs) first other joined holds too = absurd joined
  joins_hold [] (p ∷ ps) qs new first other joined holds too = absurd first
  joins_hold (t ∷ ts) [] qs new first other joined holds too = absurd first
  joins_hold (t ∷ ts) (p ∷ ps) [] new first other joined holds too = absurd other
  joins_hold (t ∷ ts) (p ∷ ps) (q ∷ qs) [] first other joined holds too = absurd joined
  joins_hold (t ∷ ts) (p ∷ ps) (q ∷ qs) (r ∷ rs) first other joined holds too =
      All-cons (HoldsOfCalls P) r rs (join_holds t p q r first.0 other.0 joined.0 (All-head (HoldsOfCalls P) p ps holds) (All-head (HoldsOfCalls P) q qs too))
      (joins_hold ts ps qs rs first.1 other.1 joined.1 (All-tail (HoldsOfCalls P) p ps holds) (All-tail (HoldsOfCalls P) q qs too))

  -- ---- a close

  pub all_hold : (p : DeskPass S) → p.number ≡ 0 → HoldsOfCalls P p → HasAllCalls p → (number : ℕ) → number ≤ p.made → All P (calls_of number p.seen)
  all_hold p first holds all zero le = subst (λ (n : ℕ). All P (calls_of n p.seen)) first holds.own
  all_hold p first holds all (suc n) le = (All-contains (WasJoined p) p.joined (suc n, length (calls_of (suc n) p.seen)) (holds.joined first) (all (suc n) (omega arith) le)).1

-- what holds of the calls of each pass holds of all
pub each_holds : (P : E → Type 0) (most : ℕ) (entries : List E) → All (λ (e : E). e.by ≤ most) entries → ((number : ℕ) → number ≤ most → All P (calls_of number entries)) → All P entries
each_holds P most [] few each = All-nil P
each_holds P most (e ∷ entries) few each =
    All-cons P e entries
    (All-head P e (calls_of e.by entries) (subst (λ (b : Bool). All P (cond b (e ∷ calls_of e.by entries) (calls_of e.by entries))) (eq-eqb e.by e.by refl) (each e.by (All-head (λ (x : E). x.by ≤ most) e entries few))))
    (each_holds P most entries (All-tail (λ (x : E). x.by ≤ most) e entries few) (λ number le. later (e.by == number) (calls_of number entries) (each number le)))
  where
    later : (b : Bool) (own : List E) → All P (cond b (e ∷ own) own) → All P own
    later true own all = All-tail P e own all
    later false own all = all

-- where a pass made none of these calls, others did
others_made : (number : ℕ) (entries : List E) → calls_of number entries ≡ [] → All (λ (e : E). e.by ≢ number) entries
others_made number [] none = All-nil (λ (e : E). e.by ≢ number)
others_made number (e ∷ entries) none =
    All-cons (λ (x : E). x.by ≢ number) e entries
    (λ same. absurd (cc (subst (λ (b : Bool). cond b (e ∷ calls_of number entries) (calls_of number entries) ≡ []) (eq-eqb e.by number same) none)))
    (others_made number entries (later (e.by == number) (calls_of number entries) none))
  where
    later : (b : Bool) (own : List E) → cond b (e ∷ own) own ≡ [] → own ≡ []
    later true own is = absurd (cc is)
    later false own is = is

module _ {S : Type 0} where
  -- ---- hands

  -- the pass of a hand
  pub but_of_hand : (number : ℕ) (p : DeskPass S) → AllByHand p → AllByHandBut number p
  but_of_hand number p none = record {
    own = All-weaker IsByHand (IsByHandBut number) (λ e is other. is) (calls_of p.number p.seen) none.own;
    joined = λ first. All-weaker (WasJoined IsByHand p) (WasJoined (IsByHandBut number) p) (λ j is. (is.0, All-weaker IsByHand (IsByHandBut number) (λ e is other. is) (calls_of j.0 p.seen) is.1)) p.joined (none.joined first);
  }

  pub all_but_of_hands : (number : ℕ) (ps : List (DeskPass S)) → All AllByHand ps → All (AllByHandBut number) ps
  all_but_of_hands number ps none = All-weaker AllByHand (AllByHandBut number) (but_of_hand number) ps none

  -- the pass whose own calls are any
  pub the_one : (number : ℕ) (q : DeskPass S) → number ≢ 0 → q.number ≡ number → AllByHandBut number q
  the_one number q other is = record {
    own = All-weaker (λ (e : E). (e.by == q.number) ≡ true) (IsByHandBut number) (λ e own apart. absurd (apart (eqb-true e.by q.number own ∙ is))) (calls_of q.number q.seen)
        (filter_passes (λ (e : E). e.by == q.number) q.seen);
    joined = λ first. absurd (other (sym is ∙ first));
  }

  -- ---- a pass that was joined

  pub came_home : (p q new : DeskPass S) → IsJoined (p, q) new → CameHome new q
  came_home p q new joined = record {
    joined = subst (λ (l : List (ℕ × ℕ)). Contains l (q.number, length (calls_of q.number q.seen))) (sym joined.joined)
        (All-contains_itself ((q.number, length (calls_of q.number q.seen)) ∷ p.joined) 0 (0, 0) (omega arith));
    list = joined.longer.2;
    calls = joined.other_calls;
  }

  pub still_home : (p q r new : DeskPass S) → p.number ≡ 0 → CameHome p q → IsJoined (p, r) new → CameHome new q
  still_home p q r new first home joined = record {
    joined = subst (λ (l : List (ℕ × ℕ)). Contains l (q.number, length (calls_of q.number q.seen))) (sym joined.joined)
        (Contains-append_right ((r.number, length (calls_of r.number r.seen)) ∷ []) p.joined (q.number, length (calls_of q.number q.seen)) home.joined);
    list = let on = joined.goes_on in prefix_on home.list on;
    calls = GoesOn-joined p new q.number (length (calls_of q.number q.seen)) first home.joined joined.goes_on ∙ home.calls;
  }
    where
      prefix_on : IsPrefix q.seen p.seen → GoesOn p new → IsPrefix q.seen new.seen
      prefix_on before on = (before.0 ++ on.0, sym (append_assoc q.seen before.0 on.0) ∙ ap (λ (l : List E). l ++ on.0) before.1 ∙ sym on.1)

  -- of each desk
  pub all_came_home : (turns : List (DeskTurn S)) (ps qs new : List (DeskPass S)) → AllZip IsFirst turns ps → AllZip IsOther turns qs → AllZip IsJoined (zip ps qs) new → AllZip CameHome new qs
  all_came_home [] [] [] [] first other joined = tt
  all_came_home [] [] [] (r ∷ rs) first other joined = absurd joined
  all_came_home [] [] (q ∷ qs) new first other joined = absurd other
  all_came_home [] (p ∷ ps) qs new first other joined = absurd first
  all_came_home (t ∷ ts) [] qs new first other joined = absurd first
  all_came_home (t ∷ ts) (p ∷ ps) [] new first other joined = absurd other
  all_came_home (t ∷ ts) (p ∷ ps) (q ∷ qs) [] first other joined = absurd joined
  all_came_home (t ∷ ts) (p ∷ ps) (q ∷ qs) (r ∷ rs) first other joined = (came_home p q r joined.0, all_came_home ts ps qs rs first.1 other.1 joined.1)

  pub all_still_home : (turns : List (DeskTurn S)) (ps qs others new : List (DeskPass S)) → AllZip IsFirst turns ps → AllZip IsOther turns others → AllZip CameHome ps qs → AllZip IsJoined (zip ps others) new → AllZip CameHome new qs
  all_still_home [] [] [] others [] first other home joined = tt
  all_still_home [] [] [] others (r ∷ rs) first other home joined = absurd joined
  all_still_home [] [] (q ∷ qs) others new first other home joined = absurd home
  all_still_home [] (p ∷ ps) qs others new first other home joined = absurd first
  all_still_home (t ∷ ts) [] qs others new first other home joined = absurd first
  all_still_home (t ∷ ts) (p ∷ ps) [] others new first other home joined = absurd home
  all_still_home (t ∷ ts) (p ∷ ps) (q ∷ qs) [] new first other home joined = absurd other
  all_still_home (t ∷ ts) (p ∷ ps) (q ∷ qs) (o ∷ others) [] first other home joined = absurd joined
  all_still_home (t ∷ ts) (p ∷ ps) (q ∷ qs) (o ∷ others) (r ∷ rs) first other home joined =
      (still_home p q o r first.0.number home.0 joined.0, all_still_home ts ps qs others rs first.1 other.1 home.1 joined.1)

  -- So once a turn was closed the whole history is what that pass has seen, and then calls of hands.
  module _ (p q : DeskPass S) (numbers : All (λ (e : E). e.by ≤ p.made) p.seen) (first : p.number ≡ 0) (all : HasAllCalls p) (but : AllByHandBut q.number p) (home : CameHome p q) where
    each : All (IsByHandBut q.number) (q.seen ++ home.list.0)
    each = subst (All (IsByHandBut q.number)) (sym home.list.1) (each_holds (IsByHandBut q.number) p.made p.seen numbers (all_hold (IsByHandBut q.number) p first but all))

    pub with_hands : All (IsByHandBut q.number) q.seen
    with_hands = All-prefix (IsByHandBut q.number) q.seen home.list.0 each

    pub then_hands : (later : List E) × (p.seen ≡ q.seen ++ later) × All IsByHand later × All (λ (e : E). job_put e.call ≡ []) later
    then_hands =
        let later = home.list.0 in
        let none : calls_of q.number later ≡ [] = append_cancel_left (calls_of q.number q.seen) (calls_of q.number later) []
        (sym (calls_of-append q.number q.seen later) ∙ ap (calls_of q.number) home.list.1 ∙ home.calls ∙ sym (append-nil (calls_of q.number q.seen))) in
        let after : All (IsByHandBut q.number) later = All-after (IsByHandBut q.number) q.seen later each in
        let apart = others_made q.number later none in
        let hands : All IsByHand later = λ k d within. after k d within (apart k d within) in
        (later, sym home.list.1, hands, All-weaker IsByHand (λ (e : E). job_put e.call ≡ []) (λ e is. ap job_put is.1) later hands)
