-- What becomes of pass 0 of the table and of the front's pass, one thing after the other; and what the front's pass sees by that between its own calls.
use Rattle.std.proofs.Common.{◌≡◌, ◌≢◌, ◌∙◌, refl, sym, ap, subst, ℕ, suc, ◌<◌, ◌≤◌, List, [], ◌∷◌, ◌++◌, length, Contains, arith}
use Rattle.std.proofs.lemmas.List.Elements.{Contains-append_right}
use mathlib.Core.List.{IsPrefix}
use Rattle.rd_host_front.specs.State.{FrontPassCalls, FrontPassState, JoinsPass, PassOfTable, Renews, RenewsBy}
use Rattle.rd_pending.specs.declared.calls.Stage.{Stage}
use Rattle.rd_table.specs.declared.calls.PendingCall.{PendingCall}
use Rattle.rd_table.specs.declared.calls.PendingCall.TheVariants as table
use Rattle.rd_table.specs.declared.calls.PendingReply.{PendingReply}
use Rattle.rd_table.specs.declared.calls.PendingReply.TheVariants as replied
use Rattle.rd_turn.specs.History.{calls_of}
use Rattle.rd_turn.specs.Pass.{Called, GoesOn, IsSamePass}
use Rattle.rd_turn.proofs.HistoryLemmas.{Called-joined, Called-prefix, GoesOn-joined, GoesOn-own, GoesOn-prefix}
use Rattle.rd_host_turns.specs.Turns.{AreQuiet, TableEntry, TablePart, calls, renews, renews_by}
use Rattle.rd_host_turns.proofs.CountLemmas.{begun_by, prefix_is, prefix_then}

-- ---- what becomes of them

-- Passes were split from pass 0, made quiet calls, and were joined to it again.
pub record HaveRun (before after : PassOfTable) : Type 0 where
  pub first : after.number ≡ 0
  pub kept : (more : List (ℕ × ℕ)) × (after.joined ≡ more ++ before.joined)
  pub on : GoesOn before after
  pub least : before.made ≤ after.made
  pub each : (k : ℕ) → before.made < k → k ≤ after.made → (n : ℕ) × Contains after.joined (k, n) × AreQuiet (calls_of k after.seen)

-- Pass 0 looks.
pub record HasLooked (stage : Stage) (before after : PassOfTable) : Type 0 where
  pub same : IsSamePass before after
  pub called : Called before table.Stage (replied.Stands stage) after

-- applications run; pass 0 looks; and a part of a call of the front
pub data Move : Type 0 where
  ran : Move
  looked : Stage → Move
  part : TablePart → Move

abbrev pub Moves : PassOfTable → FrontPassState → List Move → PassOfTable → FrontPassState → Type 0
Moves p f [] q g = (q ≡ p) × (g ≡ f)
Moves p f (ran ∷ moves) q g = (next : PassOfTable) × HaveRun p next × Moves next f moves q g
Moves p f (looked stage ∷ moves) q g = (next : PassOfTable) × HasLooked stage p next × Moves next f moves q g
Moves p f (part (calls does back) ∷ moves) q g = (then : FrontPassState) × FrontPassCalls f does back then × Moves p then moves q g
Moves p f (part (renews given last) ∷ moves) q g = (next : PassOfTable) × (then : FrontPassState) × Renews p f next then × Moves next then moves q g
Moves p f (part (renews_by does back given last) ∷ moves) q g =
    (next : PassOfTable) × (then : FrontPassState) × RenewsBy does back p f next then × (begun_by does ≡ 1) × Moves next then moves q g

-- the parts among them
abbrev pub parts_in : List Move → List TablePart
parts_in [] = []
parts_in (ran ∷ moves) = parts_in moves
parts_in (looked stage ∷ moves) = parts_in moves
parts_in (part x ∷ moves) = x ∷ parts_in moves

-- ---- how the front's pass is renewed

-- The front's pass was joined to pass 0, when both had seen this, and a new one was split, which has seen what pass 0 has then.
pub record Renewed (p : PassOfTable) (f : FrontPassState) (both : List TableEntry) (next : PassOfTable) (then : FrontPassState) : Type 0 where
  pub number : next.number ≡ 0
  pub made : next.made ≡ suc p.made
  pub own : (then.pass).number ≡ suc p.made
  pub seen : (then.pass).seen ≡ next.seen
  pub front_before : IsPrefix (f.pass).seen both
  pub first_before : IsPrefix p.seen both
  pub on : IsPrefix both next.seen
  pub front_all : calls_of (f.pass).number both ≡ calls_of (f.pass).number (f.pass).seen
  pub zeros : calls_of 0 both ≡ calls_of 0 p.seen
  pub joined_front : (f.pass).number ≢ 0 → (n : ℕ) × Contains next.joined ((f.pass).number, n) × (calls_of (f.pass).number next.seen ≡ calls_of (f.pass).number both)
  pub kept : (k n : ℕ) → Contains p.joined (k, n) → Contains next.joined (k, n)
  pub stay : (k n : ℕ) → k ≢ 0 → Contains p.joined (k, n) → calls_of k next.seen ≡ calls_of k p.seen
  pub fresh : calls_of (suc p.made) next.seen ≡ []

contains_first : {A : Type 0} (x : A) (xs l : List A) → l ≡ x ∷ xs → Contains l x
contains_first x xs l is = subst (λ (l : List _). Contains l x) (sym is) (0, omega arith, refl)

contains_later : {A : Type 0} (x y : A) (xs l : List A) → l ≡ x ∷ xs → Contains xs y → Contains l y
contains_later x y xs l is (place, within, at) = subst (λ (l : List _). Contains l y) (sym is) (suc place, omega arith, at)

pub zeros_stay : (p both : PassOfTable) → p.number ≡ 0 → GoesOn p both → calls_of 0 both.seen ≡ calls_of 0 p.seen
zeros_stay p both first on = subst (λ (n : ℕ). calls_of n both.seen ≡ calls_of n p.seen) first (GoesOn-own p both on)

pub renews_so : (p next : PassOfTable) (f then : FrontPassState) → p.number ≡ 0 → (r : Renews p f next then) → Renewed p f (r.both).seen next then
renews_so p next f then first r =
    let j = r.joins in
    let seen : next.seen ≡ (r.both).seen = ap (λ (x : PassOfTable). x.seen) r.kept in
    let joined : next.joined ≡ ((f.pass).number, length (calls_of (f.pass).number (f.pass).seen)) ∷ p.joined = ap (λ (x : PassOfTable). x.joined) r.kept ∙ j.joined in
    let own : (then.pass).number ≡ suc p.made = ap (λ (x : FrontPassState). (x.pass).number) r.given ∙ ap suc j.made in
    let same : (then.pass).seen ≡ next.seen = ap (λ (x : FrontPassState). (x.pass).seen) r.given ∙ sym seen in
    record {
      number = ap (λ (x : PassOfTable). x.number) r.kept ∙ j.number;
      made = ap (λ (x : PassOfTable). x.made) r.kept ∙ ap suc j.made;
      own = own;
      seen = same;
      front_before = (j.longer).2;
      first_before = (j.longer).1;
      on = prefix_is (r.both).seen next.seen seen;
      front_all = j.other_calls;
      zeros = zeros_stay p r.both first j.goes_on;
      joined_front = λ later. (
        length (calls_of (f.pass).number (f.pass).seen),
        contains_first ((f.pass).number, length (calls_of (f.pass).number (f.pass).seen)) p.joined next.joined joined,
        ap (calls_of (f.pass).number) seen,
      );
      kept = λ k n has. contains_later ((f.pass).number, length (calls_of (f.pass).number (f.pass).seen)) (k, n) p.joined next.joined joined has;
      stay = λ k n ne has. ap (calls_of k) seen ∙ GoesOn-joined p r.both k n first has j.goes_on;
      fresh = subst (λ (l : List TableEntry). calls_of (suc p.made) l ≡ []) same (subst (λ (k : ℕ). calls_of k (then.pass).seen ≡ []) own r.fresh);
    }

pub renews_by_so : (does : PendingCall) (back : PendingReply) (p next : PassOfTable) (f then : FrontPassState) → p.number ≡ 0 → (r : RenewsBy does back p f next then)
    → Renewed p f (r.both).seen next then
renews_by_so does back p next f then first r =
    let j = r.joins in
    let c = r.calls in
    let j0 : ℕ × ℕ = ((f.pass).number, length (calls_of (f.pass).number (f.pass).seen)) in
    let seen : next.seen ≡ (r.after).seen = ap (λ (x : PassOfTable). x.seen) r.kept in
    let joined : next.joined ≡ j0 ∷ p.joined = ap (λ (x : PassOfTable). x.joined) r.kept ∙ (c.same.3 ∙ j.joined) in
    let own : (then.pass).number ≡ suc p.made = ap (λ (x : FrontPassState). (x.pass).number) r.given ∙ ap suc (c.same.1 ∙ j.made) in
    let same : (then.pass).seen ≡ next.seen = ap (λ (x : FrontPassState). (x.pass).seen) r.given ∙ sym seen in
    record {
      number = ap (λ (x : PassOfTable). x.number) r.kept ∙ (c.same.0 ∙ j.number);
      made = ap (λ (x : PassOfTable). x.made) r.kept ∙ ap suc (c.same.1 ∙ j.made);
      own = own;
      seen = same;
      front_before = (j.longer).2;
      first_before = (j.longer).1;
      on = subst (λ (l : List TableEntry). IsPrefix (r.both).seen l) (sym seen) (Called-prefix r.both r.after does back c.called);
      front_all = j.other_calls;
      zeros = zeros_stay p r.both first j.goes_on;
      joined_front = λ later. (
        length (calls_of (f.pass).number (f.pass).seen),
        contains_first j0 p.joined next.joined joined,
        ap (calls_of (f.pass).number) seen ∙ Called-joined r.both r.after does back (f.pass).number (length (calls_of (f.pass).number (f.pass).seen)) j.number later (contains_first j0 p.joined (r.both).joined j.joined) c.called,
      );
      kept = λ k n has. contains_later j0 (k, n) p.joined next.joined joined has;
      stay = λ k n ne has. ap (calls_of k) seen ∙ (Called-joined r.both r.after does back k n j.number ne (contains_later j0 (k, n) p.joined (r.both).joined j.joined has) c.called ∙ GoesOn-joined p r.both k n first has j.goes_on);
      fresh = subst (λ (l : List TableEntry). calls_of (suc p.made) l ≡ []) same (subst (λ (k : ℕ). calls_of k (then.pass).seen ≡ []) own r.fresh);
    }

-- ---- what comes to the end

-- All that both have seen is in the one history, and of a pass that was joined before this has all calls.
pub record Reaches (all : List TableEntry) (made : ℕ) (p : PassOfTable) (f : FrontPassState) : Type 0 where
  pub first_seen : IsPrefix p.seen all
  pub front_seen : IsPrefix (f.pass).seen all
  pub least : p.made ≤ made
  pub stay : (k n : ℕ) → k ≢ 0 → Contains p.joined (k, n) → calls_of k all ≡ calls_of k p.seen

reaches_home : (q last : PassOfTable) (g : FrontPassState) → q.number ≡ 0 → JoinsPass q g.pass last → Reaches last.seen last.made q g
reaches_home q last g first home = record {
  first_seen = GoesOn-prefix q last home.goes_on;
  front_seen = (home.longer).2;
  least = let made = home.made in omega arith;
  stay = λ k n ne has. GoesOn-joined q last k n first has home.goes_on;
}

reaches_renewed : (all : List TableEntry) (made : ℕ) (p next : PassOfTable) (f then : FrontPassState) (both : List TableEntry) → Renewed p f both next then → Reaches all made next then
    → Reaches all made p f
reaches_renewed all made p next f then both r rest = record {
  first_seen = prefix_then p.seen both all r.first_before (prefix_then both next.seen all r.on rest.first_seen);
  front_seen = prefix_then (f.pass).seen both all r.front_before (prefix_then both next.seen all r.on rest.first_seen);
  least = let more = r.made in let least = rest.least in omega arith;
  stay = λ k n ne has. rest.stay k n ne (r.kept k n has) ∙ r.stay k n ne has;
}

pub reaches : (moves : List Move) (p q last : PassOfTable) (f g : FrontPassState) → p.number ≡ 0 → Moves p f moves q g → JoinsPass q g.pass last → Reaches last.seen last.made p f
reaches [] p q last f g first (is_first, is_front) home =
    subst (λ (x : PassOfTable). Reaches last.seen last.made x f) is_first (subst (λ (y : FrontPassState). Reaches last.seen last.made q y) is_front (reaches_home q last g (ap (λ (x : PassOfTable). x.number) is_first ∙ first) home))
reaches (ran ∷ moves) p q last f g first (next, run, goes) home =
    let rest = reaches moves next q last f g run.first goes home in
    record {
      first_seen = prefix_then p.seen next.seen last.seen (GoesOn-prefix p next run.on) rest.first_seen;
      front_seen = rest.front_seen;
      least = let least = run.least in let after = rest.least in omega arith;
      stay = λ k n ne has.
          rest.stay k n ne (subst (λ (l : List (ℕ × ℕ)). Contains l (k, n)) (sym (run.kept).1) (Contains-append_right (run.kept).0 p.joined (k, n) has)) ∙ GoesOn-joined p next k n first has run.on;
    }
reaches (looked stage ∷ moves) p q last f g first (next, look, goes) home =
    let rest = reaches moves next q last f g (look.same.0 ∙ first) goes home in
    record {
      first_seen = prefix_then p.seen next.seen last.seen (Called-prefix p next table.Stage (replied.Stands stage) look.called) rest.first_seen;
      front_seen = rest.front_seen;
      least = let made = look.same.1 in let least = rest.least in omega arith;
      stay = λ k n ne has.
          rest.stay k n ne (subst (λ (l : List (ℕ × ℕ)). Contains l (k, n)) (sym look.same.3) has) ∙ Called-joined p next table.Stage (replied.Stands stage) k n first ne has look.called;
    }
reaches (part (calls does back) ∷ moves) p q last f g first (then, called, goes) home =
    let rest = reaches moves p q last then g first goes home in
    record {
      first_seen = rest.first_seen;
      front_seen = prefix_then (f.pass).seen (then.pass).seen last.seen (Called-prefix f.pass then.pass does back (called.calls).called) rest.front_seen;
      least = rest.least;
      stay = rest.stay;
    }
reaches (part (renews given handed) ∷ moves) p q last f g first (next, then, renewed, goes) home =
    let r = renews_so p next f then first renewed in
    reaches_renewed last.seen last.made p next f then ((renewed.both).seen) r (reaches moves next q last then g r.number goes home)
reaches (part (renews_by does back given handed) ∷ moves) p q last f g first (next, then, renewed, begins, goes) home =
    let r = renews_by_so does back p next f then first renewed in
    reaches_renewed last.seen last.made p next f then ((renewed.both).seen) r (reaches moves next q last then g r.number goes home)
