-- What a split, a join and a close make of passes.
use Rattle.std.proofs.Common.{◌≡◌, ◌≢◌, ◌∙◌, refl, sym, ap, subst, ℕ, zero, suc, ◌+◌, ◌-◌, ◌<◌, ◌≤◌, List, [], ◌∷◌, ◌++◌, length, get_or, set, map, arith}
use Rattle.std.specs.Prelude.{All, Contains}
use Rattle.std.specs.List.{AllZip, zip}
use Rattle.std.proofs.lemmas.List.Elements.{All-cons, All-contains, All-contains_itself, All-head, All-map, All-nil, All-tail, All-weaker}
use Rattle.std.proofs.lemmas.Slice.Zip.{all_zipped_more}
use Rattle.rd_turn.specs.declared.object.Entry.{Entry}
use Rattle.rd_turn.specs.History.{calls_of}
use Rattle.rd_turn.specs.Pass.{Belongs, Called, GoesOn, HasAllCalls, IsLongerOf, IsSamePass, after_split, first_pass, max_made, new_pass}
use Rattle.rd_turn.proofs.HistoryLemmas.{Called-joined, Called-own, GoesOn-joined, GoesOn-own}
use Rattle.rd_desk.specs.declared.calls.DeskCall.{DeskCall}
use Rattle.rd_desk.specs.declared.calls.DeskReply.{DeskReply}
use Rattle.rd_desk.specs.Desk.{runs_of}
use Rattle.rd_desk.specs.Own.{GivesOwnBack}
use Rattle.rd_desk.proofs.OwnLemmas.{call_idle, none_back}
use Rattle.rd_pool.proofs.ZipLemmas.{zip_get, zip_set}
use Rattle.rd_pool.specs.Desks.{DeskPass, DeskTurn, DesksState, IsFirst, IsFresh, IsJoined, IsOther}

abbrev E : Type 0
E = Entry DeskCall DeskReply

module _ {S : Type 0} where
  -- a pass that made no call
  abbrev pub MadeNone : DeskPass S → Type 0
  MadeNone p = calls_of p.number p.seen ≡ []

  -- what holds of each pass that was joined to pass 0
  abbrev WasJoined : DeskPass S → ℕ × ℕ → Type 0
  WasJoined p j = (j.0 ≢ 0) × GivesOwnBack (calls_of j.0 p.seen)

  -- passes that were just split
  pub all_fresh : (turns : List (DeskTurn S)) (ps : List (DeskPass S)) → AllZip IsFirst turns ps → All MadeNone (map new_pass ps) → AllZip IsFresh turns (map new_pass ps)
  all_fresh [] [] first none = tt
  all_fresh [] (p ∷ ps) first none = absurd first
  all_fresh (t ∷ ts) [] first none = absurd first
  all_fresh (t ∷ ts) (p ∷ ps) first none = (
    record { own = first.0.own; number = λ (e : suc p.made ≡ 0). absurd (cc (e)); fresh = All-head MadeNone (new_pass p) (map new_pass ps) none },
    all_fresh ts ps first.1 (All-tail MadeNone (new_pass p) (map new_pass ps) none),
  )

  pub all_other : (turns : List (DeskTurn S)) (ps : List (DeskPass S)) → AllZip IsFresh turns ps → AllZip IsOther turns ps
  all_other [] [] fresh = tt
  all_other [] (p ∷ ps) fresh = absurd fresh
  all_other (t ∷ ts) [] fresh = absurd fresh
  all_other (t ∷ ts) (p ∷ ps) fresh = (record { own = fresh.0.own; number = fresh.0.number; gives = none_back (calls_of p.number p.seen) fresh.0.fresh }, all_other ts ps fresh.1)

  -- passes 0 stay so when one is split from each
  pub still_first : (turns : List (DeskTurn S)) (ps : List (DeskPass S)) → AllZip IsFirst turns ps → AllZip IsFirst turns (map after_split ps)
  still_first [] [] first = tt
  still_first [] (p ∷ ps) first = absurd first
  still_first (t ∷ ts) [] first = absurd first
  still_first (t ∷ ts) (p ∷ ps) first = (record { own = first.0.own; number = first.0.number; gives = first.0.gives; joined = first.0.joined }, still_first ts ps first.1)

  -- a pass to which another is joined stays pass 0
  pub joined_first : (turn : DeskTurn S) (p q new : DeskPass S) → IsFirst turn p → IsOther turn q → Belongs turn new → new.number ≡ 0 → new.joined ≡ (q.number, length (calls_of q.number q.seen)) ∷ p.joined
      → calls_of q.number new.seen ≡ calls_of q.number q.seen → GoesOn p new → IsFirst turn new
  joined_first turn p q new first other own number joined calls on = record {
    own = own;
    number = number;
    gives = subst GivesOwnBack (sym (subst (λ (n : ℕ). calls_of n new.seen ≡ calls_of n p.seen) first.number (GoesOn-own p new on))) first.gives;
    joined = subst (All (WasJoined new)) (sym joined)
        (All-cons (WasJoined new) (q.number, length (calls_of q.number q.seen)) p.joined (other.number, subst GivesOwnBack (sym calls) other.gives)
        (All-weaker (λ (j : ℕ × ℕ). Contains p.joined j × WasJoined p j) (WasJoined new) (λ j is. (is.1.0, subst GivesOwnBack (sym (GoesOn-joined p new j.0 j.1 first.number is.0 on)) is.1.1))
        p.joined (λ k d within. (All-contains_itself p.joined k d within, first.joined k d within))));
  }

  pub is_joined : (turn : DeskTurn S) (p q new : DeskPass S) → Belongs turn p → Belongs turn new → (new.number ≡ 0) × (new.made ≡ p.made) × (suc new.out ≡ p.out)
      → new.joined ≡ (q.number, length (calls_of q.number q.seen)) ∷ p.joined → IsLongerOf p.seen q.seen new.seen → calls_of q.number new.seen ≡ calls_of q.number q.seen → GoesOn p new → IsJoined (p, q) new
  is_joined turn p q new old own counts joined longer calls on =
      record { turn = (own.0 ∙ sym old.0, own.1 ∙ sym old.1); counts = counts; joined = joined; longer = longer; other_calls = calls; goes_on = on }

  -- the pass that a turn is made with
  pub made_first : (turn : DeskTurn S) → IsFirst turn (first_pass turn)
  made_first turn = record { own = (refl, refl); number = refl; gives = none_back [] refl; joined = All-nil (WasJoined (first_pass turn)) }

  pub more_first : (turns turns' : List (DeskTurn S)) (ps ps' : List (DeskPass S)) (turn : DeskTurn S) (p : DeskPass S) → turns' ≡ turns ++ turn ∷ [] → ps' ≡ ps ++ p ∷ [] → p ≡ first_pass turn → AllZip IsFirst turns ps → AllZip IsFirst turns' ps'
  more_first turns turns' ps ps' turn p t l is first =
      subst (λ (ts : List (DeskTurn S)). AllZip IsFirst ts ps') (sym t) (subst (λ (qs : List (DeskPass S)). AllZip IsFirst (turns ++ turn ∷ []) qs) (sym l)
      (all_zipped_more IsFirst turns ps turn p first (subst (λ (q : DeskPass S). IsFirst turn q) (sym is) (made_first turn))))

  -- ---- a call that gives nothing back

  pub still_other : (turn : DeskTurn S) (p q : DeskPass S) (call : DeskCall) (reply : DeskReply) → IsOther turn p → Belongs turn q → IsSamePass p q → Called p call reply q → runs_of call ≡ [] → IsOther turn q
  still_other turn p q call reply other own same called idle = record {
    own = own;
    number = subst (λ (n : ℕ). n ≢ 0) (sym same.0) other.number;
    gives = call_idle p q call reply same.0 (Called-own p q call reply called) idle other.gives;
  }

  pub zero_still : (turn : DeskTurn S) (p q : DeskPass S) (call : DeskCall) (reply : DeskReply) → IsFirst turn p → Belongs turn q → IsSamePass p q → Called p call reply q → runs_of call ≡ [] → IsFirst turn q
  zero_still turn p q call reply first own same called idle = record {
    own = own;
    number = same.0 ∙ first.number;
    gives = subst (λ (n : ℕ). GivesOwnBack (calls_of n q.seen)) (same.0 ∙ first.number) (call_idle p q call reply same.0 (Called-own p q call reply called) idle
        (subst (λ (n : ℕ). GivesOwnBack (calls_of n p.seen)) (sym first.number) first.gives));
    joined = subst (All (WasJoined q)) (sym same.3)
        (All-weaker (λ (j : ℕ × ℕ). Contains p.joined j × WasJoined p j) (WasJoined q) (λ j is. (is.1.0, subst GivesOwnBack (sym (Called-joined p q call reply j.0 j.1 first.number is.1.0 is.0 called)) is.1.1))
        p.joined (λ k d within. (All-contains_itself p.joined k d within, first.joined k d within)));
  }

  -- the turn and the pass at a place
  pub other_at : (turns turns' : List (DeskTurn S)) (ps ps' : List (DeskPass S)) (at : ℕ) (t : DeskTurn S) (p : DeskPass S) → turns' ≡ turns → ps' ≡ ps → t ≡ get_or turns' at t → p ≡ get_or ps' at p → at < length turns → AllZip IsOther turns ps
      → IsOther t p
  other_at turns turns' ps ps' at t p ts l here there within others =
      subst (λ (x : DeskTurn S). IsOther x p) (sym (here ∙ ap (λ (xs : List (DeskTurn S)). get_or xs at t) ts))
      (subst (λ (x : DeskPass S). IsOther (get_or turns at t) x) (sym (there ∙ ap (λ (xs : List (DeskPass S)). get_or xs at p) l)) (zip_get IsOther turns ps at t p within others))

  pub other_set : (turns turns' : List (DeskTurn S)) (ps ps' : List (DeskPass S)) (at : ℕ) (t : DeskTurn S) (q : DeskPass S) → turns' ≡ turns → ps' ≡ ps → t ≡ get_or turns' at t → IsOther t q → AllZip IsOther turns ps
      → AllZip IsOther turns (set ps' at q)
  other_set turns turns' ps ps' at t q ts l here other others =
      subst (λ (xs : List (DeskPass S)). AllZip IsOther turns (set xs at q)) (sym l)
      (zip_set IsOther turns ps at t q (subst (λ (x : DeskTurn S). IsOther x q) (here ∙ ap (λ (xs : List (DeskTurn S)). get_or xs at t) ts) other) others)

  -- where all were joined, no pass gives back what it wasn't given
  pub all_give : (turn : DeskTurn S) (p : DeskPass S) → IsFirst turn p → HasAllCalls p → (number : ℕ) → number ≤ p.made → GivesOwnBack (calls_of number p.seen)
  all_give turn p first all zero le = first.gives
  all_give turn p first all (suc n) le = (All-contains (WasJoined p) p.joined (suc n, length (calls_of (suc n) p.seen)) first.joined (all (suc n) (omega arith) le)).1

  -- ---- how many passes are out

  pub still_few : (workers : ℕ) (ps : List (DeskPass S)) → 0 < workers → All (λ (p : DeskPass S). p.made + workers < max_made) ps → All (λ (p : DeskPass S). p.made + (workers - 1) < max_made) (map after_split ps)
  still_few workers ps some few = All-map (λ (p : DeskPass S). p.made + (workers - 1) < max_made) after_split ps
      (All-weaker (λ (p : DeskPass S). p.made + workers < max_made) (λ (p : DeskPass S). suc p.made + (workers - 1) < max_made) (λ p is. omega (arith, some, is)) ps few)

  outs_split : (ps : List (DeskPass S)) → map (λ (p : DeskPass S). p.out) (map after_split ps) ≡ map (λ (p : DeskPass S). suc p.out) ps
  outs_split [] = refl
  outs_split (p ∷ ps) = ap (λ (l : List ℕ). suc p.out ∷ l) (outs_split ps)

  pub outs_joined : (turns : List (DeskTurn S)) (old others new : List (DeskPass S)) → AllZip IsFirst turns old → AllZip IsOther turns others → AllZip IsJoined (zip old others) new
      → map (λ (p : DeskPass S). suc p.out) new ≡ map (λ (p : DeskPass S). p.out) old
  outs_joined [] [] others [] first other joined = refl
  outs_joined [] [] others (r ∷ rs) first other joined = absurd joined
  outs_joined [] (p ∷ ps) others new first other joined = absurd first
  outs_joined (t ∷ ts) [] others new first other joined = absurd first
  outs_joined (t ∷ ts) (p ∷ ps) [] new first other joined = absurd other
  outs_joined (t ∷ ts) (p ∷ ps) (q ∷ qs) [] first other joined = absurd joined
  outs_joined (t ∷ ts) (p ∷ ps) (q ∷ qs) (r ∷ rs) first other joined =
      let here = joined.0.counts.2 in let later = outs_joined ts ps qs rs first.1 other.1 joined.1 in cc (here, later)

  outs_same : (xs ys : List (DeskPass S)) → map (λ (p : DeskPass S). suc p.out) xs ≡ map (λ (p : DeskPass S). suc p.out) ys → map (λ (p : DeskPass S). p.out) xs ≡ map (λ (p : DeskPass S). p.out) ys
  outs_same [] [] same = refl
  outs_same [] (y ∷ ys) same = absurd (cc (same))
  outs_same (x ∷ xs) [] same = absurd (cc (same))
  outs_same (x ∷ xs) (y ∷ ys) same =
      let here : suc x.out ≡ suc y.out = cc (same) in
      let there : x.out ≡ y.out = omega (arith, here) in
      let later = outs_same xs ys (cc (same)) in cc (there, later)

  -- as many are out as before once what was split is joined again
  pub outs_home : (turns : List (DeskTurn S)) (first split old others new : List (DeskPass S)) → split ≡ map after_split first → map (λ (p : DeskPass S). p.out) old ≡ map (λ (p : DeskPass S). p.out) split
      → AllZip IsFirst turns old → AllZip IsOther turns others → AllZip IsJoined (zip old others) new → map (λ (p : DeskPass S). p.out) new ≡ map (λ (p : DeskPass S). p.out) first
  outs_home turns first split old others new is same firsts other joined =
      outs_same new first (outs_joined turns old others new firsts other joined ∙ (same ∙ (ap (map (λ (p : DeskPass S). p.out)) is ∙ outs_split first)))

  pub none_out : (ps qs : List (DeskPass S)) → map (λ (p : DeskPass S). p.out) qs ≡ map (λ (p : DeskPass S). p.out) ps → All (λ (p : DeskPass S). p.out ≡ 0) ps → All (λ (p : DeskPass S). p.out ≡ 0) qs
  none_out [] [] same none = All-nil (λ (p : DeskPass S). p.out ≡ 0)
  none_out [] (q ∷ qs) same none = absurd (cc (same))
  none_out (p ∷ ps) [] same none = absurd (cc (same))
  none_out (p ∷ ps) (q ∷ qs) same none =
      let here : q.out ≡ p.out = cc (same) in
      All-cons (λ (x : DeskPass S). x.out ≡ 0) q qs (here ∙ All-head (λ (x : DeskPass S). x.out ≡ 0) p ps none) (none_out ps qs (cc (same)) (All-tail (λ (x : DeskPass S). x.out ≡ 0) p ps none))

  pub all_home : (first split old new : List (DeskPass S)) → split ≡ map after_split first → map (λ (p : DeskPass S). p.out) old ≡ map (λ (p : DeskPass S). p.out) split → map (λ (p : DeskPass S). suc p.out) new ≡ map (λ (p : DeskPass S). p.out) old
      → All (λ (p : DeskPass S). p.out ≡ 0) first → All (λ (p : DeskPass S). p.out ≡ 0) new
  all_home first split old new is same joined none = none_out first new (outs_same new first (joined ∙ (same ∙ (ap (map (λ (p : DeskPass S). p.out)) is ∙ outs_split first)))) none

-- desks by their parts
abbrev pub desks_with : {S : Type 0} → List ℕ → List (DeskTurn S) → DesksState S
desks_with ids turns = record { ids = ids; turns = turns }

pub desks_same : {S : Type 0} (ids ids' : List ℕ) (turns turns' : List (DeskTurn S)) → ids ≡ ids' → turns ≡ turns' → desks_with ids turns ≡ desks_with ids' turns'
desks_same ids ids' turns turns' i t = cc (i, t)
