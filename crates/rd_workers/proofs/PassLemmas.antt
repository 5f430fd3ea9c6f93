-- Passes of desks that are split twice, and come home.
use Rattle.std.proofs.Common.{◌≡◌, ◌≢◌, ◌∙◌, ◌<◌, ◌≤◌, ◌+◌, ℕ, zero, suc, List, [], ◌∷◌, ◌++◌, arith, ap, sym, refl, subst, length, map, drop, take}
use Rattle.std.specs.Prelude.{All, Err, IfSome, Ok, OnErr, Option, Result, Some}
use Rattle.std.specs.List.{AllZip}
use Rattle.std.proofs.lemmas.List.Elements.{All-head, All-map, All-same, All-tail, All-weaker}
use Rattle.rd_turn.specs.Pass.{Belongs, TurnId, after_split, max_made}
use Rattle.rd_pool.specs.Desks.{DeskPass, IsOther}
use Rattle.rd_pool.proofs.DeskLemmas.{none_out}
use Rattle.rd_turn.proofs.HistoryLemmas.{Called-own}
use Rattle.rd_turn.specs.History.{calls_of}
use Rattle.rd_desk.specs.declared.calls.DeskCall.{DeskCall}
use Rattle.rd_desk.specs.declared.calls.DeskCall.TheVariants as desk
use Rattle.rd_desk.specs.declared.calls.DeskReply.{DeskReply}
use Rattle.rd_desk.specs.Desk.{runs_of}
use Rattle.rd_desk.specs.Own.{GivesOwnBack}
use Rattle.rd_desk.proofs.OwnLemmas.{call_idle}
use Rattle.rd_front.specs.Kept.{DeskGoesOn, GoesBy, IsFrontCall}
use Rattle.rd_front.specs.State.{DeviceDeskState, SessionPass, SessionStation}
use Rattle.rd_workers.specs.Passes.{AreNew, IsPassOf}

-- what holds of a value, if there is one, holds of the one that is there
pub of_some : {A : Type 0} (o : Option A) (x : A) → o ≡ Some x → (P : A → Type 0) → IfSome o P → P x
of_some {A} o x is P all = subst (λ (p : Option A). IfSome p P) is all

-- what holds anyway holds at an error
pub on_err : {T E : Type 0} (r : Result T E) (A : Type 0) → A → OnErr r A
on_err (Ok x) A is = tt
on_err (Err x) A is = is

-- where nothing is left from a place on, that is the whole
pub zip_over : {A B : Type 0} (P : A → B → Type 0) (xs : List A) (place : ℕ) (ys : List B) → AllZip P (drop place xs) ys → ys ≡ [] → take place xs ≡ xs
zip_over P [] zero ys all none = refl
zip_over P [] (suc place) ys all none = refl
zip_over P (x ∷ xs) zero [] all none = absurd all
zip_over P (x ∷ xs) zero (y ∷ ys) all none = absurd (cc none)
zip_over {A} P (x ∷ xs) (suc place) ys all none = ap (λ (l : List A). x ∷ l) (zip_over P xs place ys all none)

-- and all are before that place
pub zip_ends : {A B : Type 0} (P : A → B → Type 0) (xs : List A) (place : ℕ) (ys : List B) → AllZip P (drop place xs) ys → ys ≡ [] → length xs ≤ place
zip_ends P [] place ys all none = omega arith
zip_ends P (x ∷ xs) zero [] all none = absurd all
zip_ends P (x ∷ xs) zero (y ∷ ys) all none = absurd (cc none)
zip_ends P (x ∷ xs) (suc place) ys all none = let less = zip_ends P xs place ys all none in omega (arith, less)

-- where something is left from a place on, the place is within
pub zip_within : {A B : Type 0} (P : A → B → Type 0) (xs : List A) (place : ℕ) (ys : List B) (y : B) (rest : List B) → AllZip P (drop place xs) ys → ys ≡ y ∷ rest → place < length xs
zip_within P [] zero [] y rest all some = absurd (cc some)
zip_within P [] zero (z ∷ ys) y rest all some = absurd all
zip_within P [] (suc place) [] y rest all some = absurd (cc some)
zip_within P [] (suc place) (z ∷ ys) y rest all some = absurd all
zip_within P (x ∷ xs) zero ys y rest all some = omega arith
zip_within P (x ∷ xs) (suc place) ys y rest all some = let within = zip_within P xs place ys y rest all some in omega (arith, within)

-- one more at the end of both
pub zip_push : {A B : Type 0} (P : A → B → Type 0) (xs : List A) (ys : List B) (x : A) (y : B) → AllZip P xs ys → P x y → AllZip P (xs ++ x ∷ []) (ys ++ y ∷ [])
zip_push P [] [] x y all is = (is, tt)
zip_push P [] (z ∷ ys) x y all is = absurd all
zip_push P (z ∷ xs) [] x y all is = absurd all
zip_push P (z ∷ xs) (v ∷ ys) x y all is = (all.0, zip_push P xs ys x y all.1 is)

module _ {S : Type 0} where
  pub new_few : (ps : List (DeskPass S)) → AreNew ps → All (λ (p : DeskPass S). p.made < max_made) ps
  new_few ps new = All-weaker (λ (p : DeskPass S). (p.made ≡ 0) × (p.out ≡ 0) × (p.seen ≡ [])) (λ (p : DeskPass S). p.made < max_made) (λ p is. (let none = is.0 in omega (arith, none))) ps new

  made_more : (n : ℕ) (ps split : List (DeskPass S)) → split ≡ map after_split ps → All (λ (p : DeskPass S). p.made ≡ n) ps → All (λ (p : DeskPass S). p.made ≡ suc n) split
  made_more n ps split is all =
      All-same (λ (p : DeskPass S). p.made ≡ suc n) split (map after_split ps) is
      (All-map (λ (p : DeskPass S). p.made ≡ suc n) after_split ps (All-weaker (λ (p : DeskPass S). p.made ≡ n) (λ (p : DeskPass S). suc p.made ≡ suc n) (λ p made. ap suc made) ps all))

  made_none : (ps : List (DeskPass S)) → AreNew ps → All (λ (p : DeskPass S). p.made ≡ 0) ps
  made_none ps new = All-weaker (λ (p : DeskPass S). (p.made ≡ 0) × (p.out ≡ 0) × (p.seen ≡ [])) (λ (p : DeskPass S). p.made ≡ 0) (λ p is. is.0) ps new

  pub once_few : (ps split : List (DeskPass S)) → split ≡ map after_split ps → AreNew ps → All (λ (p : DeskPass S). p.made < max_made) split
  once_few ps split is new =
      All-weaker (λ (p : DeskPass S). p.made ≡ 1) (λ (p : DeskPass S). p.made < max_made) (λ p made. omega (arith, made)) split (made_more 0 ps split is (made_none ps new))

  pub made_two : (ps once twice : List (DeskPass S)) → once ≡ map after_split ps → twice ≡ map after_split once → AreNew ps → All (λ (p : DeskPass S). p.made ≡ 2) twice
  made_two ps once twice is also new = made_more 1 once twice also (made_more 0 ps once is (made_none ps new))

  pub two_few : (ps : List (DeskPass S)) (workers : ℕ) → workers ≤ 16 → All (λ (p : DeskPass S). p.made ≡ 2) ps → All (λ (p : DeskPass S). p.made + workers < max_made) ps
  two_few ps workers few two = All-weaker (λ (p : DeskPass S). p.made ≡ 2) (λ (p : DeskPass S). p.made + workers < max_made) (λ p made. omega (arith, made, few)) ps two

  outs_same : (ps qs : List (DeskPass S)) → map (λ (p : DeskPass S). suc p.out) ps ≡ map (λ (p : DeskPass S). suc p.out) qs → map (λ (p : DeskPass S). p.out) ps ≡ map (λ (p : DeskPass S). p.out) qs
  outs_same [] [] same = refl
  outs_same [] (q ∷ qs) same = absurd (cc same)
  outs_same (p ∷ ps) [] same = absurd (cc same)
  outs_same (p ∷ ps) (q ∷ qs) same =
      let first : suc p.out ≡ suc q.out = cc same in
      let others : map (λ (r : DeskPass S). suc r.out) ps ≡ map (λ (r : DeskPass S). suc r.out) qs = cc same in
      let here : p.out ≡ q.out = omega (arith, first) in
      ap (λ (n : ℕ). n ∷ map (λ (r : DeskPass S). r.out) ps) here ∙ ap (λ (l : List ℕ). q.out ∷ l) (outs_same ps qs others)

  split_out : (ps : List (DeskPass S)) → map (λ (p : DeskPass S). p.out) (map after_split ps) ≡ map (λ (p : DeskPass S). suc p.out) ps
  split_out [] = refl
  split_out (p ∷ ps) = ap (λ (l : List ℕ). suc p.out ∷ l) (split_out ps)

  -- as many are out as before a split whose passes were joined again
  back : (first split old new : List (DeskPass S)) → split ≡ map after_split first → map (λ (p : DeskPass S). p.out) old ≡ map (λ (p : DeskPass S). p.out) split
      → map (λ (p : DeskPass S). suc p.out) new ≡ map (λ (p : DeskPass S). p.out) old → map (λ (p : DeskPass S). p.out) new ≡ map (λ (p : DeskPass S). p.out) first
  back first split old new is same joined = outs_same new first (joined ∙ same ∙ ap (map (λ (p : DeskPass S). p.out)) is ∙ split_out first)

  pub all_back : (ps once twice worked joined home : List (DeskPass S)) → once ≡ map after_split ps → twice ≡ map after_split once → map (λ (p : DeskPass S). p.out) worked ≡ map (λ (p : DeskPass S). p.out) twice
      → map (λ (p : DeskPass S). suc p.out) joined ≡ map (λ (p : DeskPass S). p.out) worked → map (λ (p : DeskPass S). suc p.out) home ≡ map (λ (p : DeskPass S). p.out) joined → AreNew ps
      → All (λ (p : DeskPass S). p.out ≡ 0) home
  all_back ps once twice worked joined home is also same first second new =
      none_out ps home (back ps once joined home is (back once twice worked joined also same first) second)
      (All-weaker (λ (p : DeskPass S). (p.made ≡ 0) × (p.out ≡ 0) × (p.seen ≡ [])) (λ (p : DeskPass S). p.out ≡ 0) (λ p none. none.1) ps new)

-- ---- the front's passes of desks

idle : (call : DeskCall) → IsFrontCall call → runs_of call ≡ []
idle desk.Announce is = refl
idle (desk.Put job) is = refl
idle (desk.Work runs) is = absurd is
idle desk.Collect is = refl
idle desk.Remove is = refl
idle desk.DropChannel is = refl
idle desk.End is = refl

goes_gives : (p : SessionPass) (calls : List (DeskCall × DeskReply)) (q : SessionPass) → All (λ (c : DeskCall × DeskReply). IsFrontCall c.0) calls → GoesBy p calls q → GivesOwnBack (calls_of p.number p.seen)
    → GivesOwnBack (calls_of q.number q.seen)
goes_gives p [] q fit goes gives = subst (λ (x : SessionPass). GivesOwnBack (calls_of x.number x.seen)) (sym goes) gives
goes_gives p (c ∷ calls) q fit (next, same, called, later) gives =
    goes_gives next calls q (All-tail (λ (d : DeskCall × DeskReply). IsFrontCall d.0) c calls fit) later
    (call_idle p next c.0 c.1 same.0 (Called-own p next c.0 c.1 called) (idle c.0 (All-head (λ (d : DeskCall × DeskReply). IsFrontCall d.0) c calls fit)) gives)

other_one : (old new : DeviceDeskState) (p : SessionPass) → IsOther old.turn old.pass → DeskGoesOn old new → IsPassOf new p → IsOther old.turn p
other_one old new p other goes is = record {
  own = subst (λ (t : TurnId SessionStation). Belongs t p) goes.turn is.0;
  number = subst (λ (q : SessionPass). q.number ≢ 0) (sym is.1) (subst (λ (n : ℕ). n ≢ 0) (sym goes.same.0) other.number);
  gives = subst (λ (q : SessionPass). GivesOwnBack (calls_of q.number q.seen)) (sym is.1) (goes_gives old.pass goes.calls new.pass goes.fit goes.goes other.gives);
}

each_other : (olds news : List DeviceDeskState) (passes : List SessionPass) → AllZip IsOther (map (λ (d : DeviceDeskState). d.turn) olds) (map (λ (d : DeviceDeskState). d.pass) olds) → AllZip DeskGoesOn olds news
    → AllZip IsPassOf news passes → AllZip IsOther (map (λ (d : DeviceDeskState). d.turn) olds) passes
each_other [] [] [] others goes are = tt
each_other [] [] (p ∷ ps) others goes are = absurd are
each_other [] (n ∷ ns) ps others goes are = absurd goes
each_other (o ∷ os) [] ps others goes are = absurd goes
each_other (o ∷ os) (n ∷ ns) [] others goes are = absurd are
each_other (o ∷ os) (n ∷ ns) (p ∷ ps) others goes are = (other_one o n p others.0 goes.0 are.0, each_other os ns ps others.1 goes.1 are.1)

-- the front's passes of desks still give back their own, as its calls give nothing back
pub still_others : (turns : List (TurnId SessionStation)) (olds news : List DeviceDeskState) (passes own : List SessionPass) → map (λ (d : DeviceDeskState). d.turn) olds ≡ turns → map (λ (d : DeviceDeskState). d.pass) olds ≡ own
    → AllZip IsOther turns own → AllZip DeskGoesOn olds news → AllZip IsPassOf news passes → AllZip IsOther turns passes
still_others turns olds news passes own turns_are own_are others goes are =
    let first = subst (λ (l : List (TurnId SessionStation)). AllZip IsOther l own) (sym turns_are) others in
    let both = subst (λ (l : List SessionPass). AllZip IsOther (map (λ (d : DeviceDeskState). d.turn) olds) l) (sym own_are) first in
    subst (λ (l : List (TurnId SessionStation)). AllZip IsOther l passes) turns_are (each_other olds news passes both goes are)
