-- Between the calls that the front's pass of the table makes there are quiet calls alone.
use Rattle.std.proofs.Common.{◌≡◌, ◌≢◌, ◌∙◌, ◌⊎◌, inl, inr, refl, sym, ap, subst, ℕ, suc, ◌+◌, ◌<◌, ◌≤◌, List, [], ◌∷◌, ◌++◌, append_assoc, All, arith}
use Rattle.std.specs.List.{AllByRecursion}
use mathlib.Core.List.{IsPrefix}
use mathlib.Core.Logic.{dite}
use native.Mathlib.Decide.{dec_le}
use Rattle.rd_host_front.specs.State.{FrontPassState, JoinsPass, PassOfTable}
use Rattle.rd_pending.specs.declared.calls.Stage.{Stage}
use Rattle.rd_table.specs.declared.calls.PendingCall.{PendingCall}
use Rattle.rd_table.specs.declared.calls.PendingCall.TheVariants as table
use Rattle.rd_table.specs.declared.calls.PendingReply.{PendingReply}
use Rattle.rd_table.specs.declared.calls.PendingReply.TheVariants as replied
use Rattle.rd_turn.specs.History.{calls_of, entry}
use Rattle.rd_turn.specs.Pass.{Called, after_split}
use Rattle.rd_turn.specs.Rule.{count_of, total}
use Rattle.rd_turn.proofs.HistoryLemmas.{Called-own, Called-prefix, count_of-append, count_of_between}
use Rattle.rd_host_turns.specs.Turns.{AreQuiet, SeenAlong, TableEntry, TablePart, calls, renews, renews_by}
use Rattle.rd_host_turns.proofs.CountLemmas.{AreAway, IsFirsts, all_both, begins-append, begins_in, begins_prefix, begun, begun_by, between_quiet, count_none, count_prefix, count_same, prefix_is, prefix_then, total-append}
use Rattle.rd_host_turns.proofs.MoveLemmas.{HasLooked, Move, Moves, Reaches, Renewed, looked, part, parts_in, ran, reaches, renews_by_so, renews_so, zeros_stay}

-- ---- what comes later

-- Of each pass that is made later the calls are quiet, or the front's pass has seen none of them yet; and it has seen no channel begin that pass 0 hasn't begun.
pub record Later (all : List TableEntry) (made : ℕ) (p : PassOfTable) (f : FrontPassState) : Type 0 where
  pub fresh : (k : ℕ) → p.made < k → k ≤ made → AreQuiet (calls_of k all) ⊎ (count_of k (f.pass).seen ≡ 0)
  pub begins : begins_in (f.pass).seen ≤ begins_in p.seen
  pub firsts : AllByRecursion IsFirsts (calls_of 0 p.seen) → AllByRecursion IsFirsts (calls_of 0 all)

abbrev Firsts : List TableEntry → Type 0
Firsts l = AllByRecursion IsFirsts (calls_of 0 l)

-- What pass 0 has seen goes on with no call of its own.
firsts_same : (xs ys : List TableEntry) → calls_of 0 ys ≡ calls_of 0 xs → Firsts xs → Firsts ys
firsts_same xs ys same firsts = subst (AllByRecursion IsFirsts) (sym same) firsts

begins_same : (xs ys : List TableEntry) → calls_of 0 ys ≡ calls_of 0 xs → begins_in ys ≡ begins_in xs
begins_same xs ys same = ap (total begun) same

looked_own : (stage : Stage) (p next : PassOfTable) → p.number ≡ 0 → HasLooked stage p next → calls_of 0 next.seen ≡ calls_of 0 p.seen ++ entry 0 table.Stage (replied.Stands stage) ∷ []
looked_own stage p next first look =
    subst (λ (n : ℕ). calls_of n next.seen ≡ calls_of n p.seen ++ entry n table.Stage (replied.Stands stage) ∷ []) first (Called-own p next table.Stage (replied.Stands stage) look.called)

looked_begins : (stage : Stage) (p next : PassOfTable) → p.number ≡ 0 → HasLooked stage p next → begins_in next.seen ≡ begins_in p.seen
looked_begins stage p next first look =
    let e : TableEntry = entry 0 table.Stage (replied.Stands stage) in
    let s : total begun (calls_of 0 p.seen ++ e ∷ []) ≡ begins_in p.seen + 0 = total-append begun (calls_of 0 p.seen) (e ∷ []) in
    ap (total begun) (looked_own stage p next first look) ∙ (s ∙ omega arith)

-- Pass 0 begins a channel.
firsts_by : (does : PendingCall) (back : PendingReply) (both after next : PassOfTable) → both.number ≡ 0 → next ≡ after_split after → Called both does back after → begun_by does ≡ 1
    → Firsts both.seen → Firsts next.seen
firsts_by does back both after next first kept called begins firsts =
    let e : TableEntry = entry 0 does back in
    let own : calls_of 0 after.seen ≡ calls_of 0 both.seen ++ e ∷ [] =
    subst (λ (n : ℕ). calls_of n after.seen ≡ calls_of n both.seen ++ entry n does back ∷ []) first (Called-own both after does back called) in
    subst (AllByRecursion IsFirsts) (sym (ap (λ (x : PassOfTable). calls_of 0 x.seen) kept ∙ own)) (all_both IsFirsts (calls_of 0 both.seen) (e ∷ []) firsts (inr begins, tt))

later_renewed : (all : List TableEntry) (made : ℕ) (p next : PassOfTable) (f then : FrontPassState) (both : List TableEntry) → Renewed p f both next then
    → (Firsts both → Firsts next.seen) → Later all made next then → Later all made p f
later_renewed all made p next f then both r on rest = record {
  fresh = λ k less le. dite (dec_le k (suc p.made))
      (λ few. inr (
      let is : k ≡ suc p.made = omega arith in
      let seen = prefix_then (f.pass).seen both next.seen r.front_before r.on in
      let none : count_of k next.seen ≡ 0 = subst (λ (k : ℕ). count_of k next.seen ≡ 0) (sym is) (count_none (suc p.made) next.seen r.fresh) in
      let least = count_prefix k (f.pass).seen next.seen seen in omega arith))
      (λ more. elim (rest.fresh k (let made = r.made in omega arith) le) [
        | inl quiet ↦ inl quiet
        | inr none ↦ inr (
            let seen = prefix_then (f.pass).seen both next.seen r.front_before r.on in
            let few = count_prefix k (f.pass).seen next.seen seen in
            let same : count_of k (then.pass).seen ≡ count_of k next.seen = ap (count_of k) r.seen in omega arith)
      ]);
  begins =
      let few = begins_prefix (f.pass).seen both r.front_before in
      let same = begins_same p.seen both r.zeros in omega arith;
  firsts = λ firsts. rest.firsts (on (firsts_same p.seen both r.zeros firsts));
}

later_home : (q last : PassOfTable) (g : FrontPassState) → q.number ≡ 0 → JoinsPass q g.pass last → Later last.seen last.made q g
later_home q last g first home = record {
  fresh = λ k less le. absurd (let made = home.made in omega arith);
  begins =
      let few = begins_prefix (g.pass).seen last.seen (home.longer).2 in
      let same = begins_same q.seen last.seen (zeros_stay q last first home.goes_on) in omega arith;
  firsts = firsts_same q.seen last.seen (zeros_stay q last first home.goes_on);
}

pub later : (moves : List Move) (p q last : PassOfTable) (f g : FrontPassState) → p.number ≡ 0 → Moves p f moves q g → JoinsPass q g.pass last → Later last.seen last.made p f
later [] p q last f g first (is_first, is_front) home =
    subst (λ (x : PassOfTable). Later last.seen last.made x f) is_first (subst (λ (y : FrontPassState). Later last.seen last.made q y) is_front (later_home q last g (ap (λ (x : PassOfTable). x.number) is_first ∙ first) home))
later (ran ∷ moves) p q last f g first (next, run, goes) home =
    let rest = later moves next q last f g run.first goes home in
    let then = reaches moves next q last f g run.first goes home in
    let zeros = zeros_stay p next first run.on in
    record {
      fresh = λ k less le. dite (dec_le k next.made)
          (λ here. let own = run.each k less here in inl (subst AreQuiet (sym (then.stay k own.0 (λ z. absurd (omega arith)) own.1)) own.2))
          (λ more. rest.fresh k (omega arith) le);
      begins = let few = rest.begins in let same = begins_same p.seen next.seen zeros in omega arith;
      firsts = λ firsts. rest.firsts (firsts_same p.seen next.seen zeros firsts);
    }
later (looked stage ∷ moves) p q last f g first (next, look, goes) home =
    let rest = later moves next q last f g (look.same.0 ∙ first) goes home in
    let e : TableEntry = entry 0 table.Stage (replied.Stands stage) in
    let own = looked_own stage p next first look in
    record {
      fresh = λ k less le. rest.fresh k (let made = look.same.1 in omega arith) le;
      begins = let few = rest.begins in let same = looked_begins stage p next first look in omega arith;
      firsts = λ firsts. rest.firsts (subst (AllByRecursion IsFirsts) (sym own) (all_both IsFirsts (calls_of 0 p.seen) (e ∷ []) firsts (inl tt, tt)));
    }
later (part (calls does back) ∷ moves) p q last f g first (then, called, goes) home =
    let rest = later moves p q last then g first goes home in
    let seen = Called-prefix f.pass then.pass does back (called.calls).called in
    record {
      fresh = λ k less le. elim (rest.fresh k less le) [
        | inl quiet ↦ inl quiet
        | inr none ↦ inr (let few = count_prefix k (f.pass).seen (then.pass).seen seen in omega arith)
      ];
      begins = let few = begins_prefix (f.pass).seen (then.pass).seen seen in let more = rest.begins in omega arith;
      firsts = rest.firsts;
    }
later (part (renews given handed) ∷ moves) p q last f g first (next, then, renewed, goes) home =
    let r = renews_so p next f then first renewed in
    later_renewed last.seen last.made p next f then ((renewed.both).seen) r (firsts_same (renewed.both).seen next.seen (ap (λ (x : PassOfTable). calls_of 0 x.seen) renewed.kept)) (later moves next q last then g r.number goes home)
later (part (renews_by does back given handed) ∷ moves) p q last f g first (next, then, renewed, begins, goes) home =
    let r = renews_by_so does back p next f then first renewed in
    later_renewed last.seen last.made p next f then ((renewed.both).seen) r (firsts_by does back renewed.both renewed.after next (renewed.joins).number renewed.kept (renewed.calls).called begins) (later moves next q last then g r.number goes home)

-- ---- on the way

same_or : (k n : ℕ) → (k ≡ n) ⊎ (k ≢ n)
same_or k n = dite (dec_le k n) (λ less. dite (dec_le n k) (λ more. inl (omega arith)) (λ no. inr (λ is. no (omega arith)))) (λ no. inr (λ is. no (omega arith)))

-- Of each pass that was made the calls are quiet, or the front's pass has seen all of them, unless it is this pass; and it has seen all channels begin that pass 0 began.
pub record OnWay (all : List TableEntry) (p : PassOfTable) (f : FrontPassState) : Type 0 where
  pub first : p.number ≡ 0
  pub own : (f.pass).number ≢ 0
  pub settled : (k : ℕ) → k ≢ 0 → k ≤ p.made → k ≢ (f.pass).number → AreQuiet (calls_of k all) ⊎ (count_of k (f.pass).seen ≡ count_of k all)
  pub begins : begins_in p.seen ≤ begins_in (f.pass).seen

-- All that is known of the whole history.
pub record Whole (all : List TableEntry) (made : ℕ) : Type 0 where
  pub few : All (λ (e : TableEntry). e.by ≤ made) all
  pub firsts : Firsts all

-- What the front's pass sees more, and none of it by itself, is quiet.
gap_quiet : (all : List TableEntry) (made : ℕ) (p : PassOfTable) (f : FrontPassState) (added : List TableEntry) → Whole all made → OnWay all p f → IsPrefix ((f.pass).seen ++ added) all
    → count_of (f.pass).number added ≡ 0
    → ((k : ℕ) → p.made < k → k ≤ made → AreQuiet (calls_of k all) ⊎ (count_of k ((f.pass).seen ++ added) ≡ 0))
    → begins_in ((f.pass).seen ++ added) ≤ begins_in p.seen → AreQuiet added
gap_quiet all made p f added whole way prefix own fresh few =
    between_quiet made all (f.pass).seen added prefix.0 (sym prefix.1 ∙ append_assoc (f.pass).seen added prefix.0) whole.few away whole.firsts
    (let s = begins-append (f.pass).seen added in let more = way.begins in omega arith)
  where
    none : (k : ℕ) → count_of k ((f.pass).seen ++ added) ≡ 0 → count_of k added ≡ 0
    none k is = let s = count_of-append k (f.pass).seen added in omega arith

    settled : (k : ℕ) → AreQuiet (calls_of k all) ⊎ (count_of k (f.pass).seen ≡ count_of k all) → AreQuiet (calls_of k all) ⊎ (count_of k added ≡ 0)
    settled k (inl quiet) = inl quiet
    settled k (inr same) = inr (let s = count_of-append k (f.pass).seen added in let few = count_prefix k ((f.pass).seen ++ added) all prefix in omega arith)

    old : (k : ℕ) → k ≢ 0 → k ≤ p.made → (k ≡ (f.pass).number) ⊎ (k ≢ (f.pass).number) → AreQuiet (calls_of k all) ⊎ (count_of k added ≡ 0)
    old k ne le (inl is) = inr (subst (λ (n : ℕ). count_of n added ≡ 0) (sym is) own)
    old k ne le (inr other) = settled k (way.settled k ne le other)

    newer : (k : ℕ) → AreQuiet (calls_of k all) ⊎ (count_of k ((f.pass).seen ++ added) ≡ 0) → AreQuiet (calls_of k all) ⊎ (count_of k added ≡ 0)
    newer k (inl quiet) = inl quiet
    newer k (inr is) = inr (none k is)

    away : AreAway made all added
    away k ne le = dite (dec_le k p.made) (λ less. old k ne less (same_or k (f.pass).number)) (λ more. newer k (fresh k (omega arith) le))

-- The same where it is renewed.
renewed_quiet : (all : List TableEntry) (made : ℕ) (p next : PassOfTable) (f then : FrontPassState) (both added : List TableEntry) → Whole all made → OnWay all p f
    → Renewed p f both next then → Later all made next then
    → IsPrefix next.seen all → IsPrefix ((f.pass).seen ++ added) next.seen → begins_in ((f.pass).seen ++ added) ≤ begins_in p.seen → AreQuiet added
renewed_quiet all made p next f then both added whole way r rest prefix within few =
    gap_quiet all made p f added whole way (prefix_then ((f.pass).seen ++ added) next.seen all within prefix) own fresh few
  where
    own : count_of (f.pass).number added ≡ 0
    own =
        let n = (f.pass).number in
        let joined = r.joined_front way.own in
        let all_then : count_of n next.seen ≡ count_of n (f.pass).seen = count_same n next.seen (f.pass).seen (joined.2 ∙ r.front_all) in
        let s = count_of-append n (f.pass).seen added in
        let t = count_prefix n ((f.pass).seen ++ added) next.seen within in omega arith

    by : (k : ℕ) → AreQuiet (calls_of k all) ⊎ (count_of k (then.pass).seen ≡ 0) → AreQuiet (calls_of k all) ⊎ (count_of k ((f.pass).seen ++ added) ≡ 0)
    by k (inl quiet) = inl quiet
    by k (inr none) = inr (let s : count_of k (then.pass).seen ≡ count_of k next.seen = ap (count_of k) r.seen in let t = count_prefix k ((f.pass).seen ++ added) next.seen within in omega arith)

    fresh : (k : ℕ) → p.made < k → k ≤ made → AreQuiet (calls_of k all) ⊎ (count_of k ((f.pass).seen ++ added) ≡ 0)
    fresh k less le = dite (dec_le k (suc p.made))
        (λ least.
        let is : k ≡ suc p.made = omega arith in
        let none : count_of k next.seen ≡ 0 = subst (λ (k : ℕ). count_of k next.seen ≡ 0) (sym is) (count_none (suc p.made) next.seen r.fresh) in
        by k (inr (ap (count_of k) r.seen ∙ none)))
        (λ more. by k (rest.fresh k (let made = r.made in omega arith) le))

-- Once it was renewed, it has seen all calls that it had made before.
way_renewed : (all : List TableEntry) (made : ℕ) (p next : PassOfTable) (f then : FrontPassState) (both : List TableEntry) → OnWay all p f → Renewed p f both next then
    → Reaches all made next then → OnWay all next then
way_renewed all made p next f then both way r rest = record {
  first = r.number;
  own = λ zero. absurd (let own = r.own in omega arith);
  settled = λ k ne le other. old k ne (let made = r.made in let own = r.own in omega (arith, other)) (same_or k (f.pass).number);
  begins = let same : begins_in (then.pass).seen ≡ begins_in next.seen = ap begins_in r.seen in omega arith;
}
  where
    seen : IsPrefix (f.pass).seen (then.pass).seen
    seen = subst (λ (l : List TableEntry). IsPrefix (f.pass).seen l) (sym r.seen) (prefix_then (f.pass).seen both next.seen r.front_before r.on)

    by : (k : ℕ) → AreQuiet (calls_of k all) ⊎ (count_of k (f.pass).seen ≡ count_of k all) → AreQuiet (calls_of k all) ⊎ (count_of k (then.pass).seen ≡ count_of k all)
    by k (inl quiet) = inl quiet
    by k (inr same) = inr (count_of_between k (count_of k all) (f.pass).seen (then.pass).seen all seen rest.front_seen same refl)

    old : (k : ℕ) → k ≢ 0 → k ≤ p.made → (k ≡ (f.pass).number) ⊎ (k ≢ (f.pass).number) → AreQuiet (calls_of k all) ⊎ (count_of k (then.pass).seen ≡ count_of k all)
    old k ne le (inl is) =
        let joined = r.joined_front way.own in
        let stays = rest.stay (f.pass).number joined.0 way.own joined.1 in
        inr (subst (λ (n : ℕ). count_of n (then.pass).seen ≡ count_of n all) (sym is)
        (ap (count_of (f.pass).number) r.seen ∙ sym (count_same (f.pass).number all next.seen stays)))
    old k ne le (inr other) = by k (way.settled k ne le other)

-- What becomes of what the front's pass has seen.
abbrev pub SeesQuiet : List TableEntry → List TablePart → List TableEntry → List TableEntry → Type 0
SeesQuiet old parts new all = SeenAlong old parts new × ((rest : List TableEntry) × (all ≡ new ++ rest) × AreQuiet rest)

home_quiet : (q last : PassOfTable) (g : FrontPassState) → Whole last.seen last.made → OnWay last.seen q g → JoinsPass q g.pass last
    → (rest : List TableEntry) × (last.seen ≡ (g.pass).seen ++ rest) × AreQuiet rest
home_quiet q last g whole way home =
    let more = (home.longer).2 in
    let is : last.seen ≡ (g.pass).seen ++ more.0 = sym more.1 in
    let own : count_of (g.pass).number more.0 ≡ 0 =
    (let s = count_of-append (g.pass).number (g.pass).seen more.0 in
    let t = count_same (g.pass).number last.seen (g.pass).seen home.other_calls in
    let u : count_of (g.pass).number last.seen ≡ count_of (g.pass).number ((g.pass).seen ++ more.0) = ap (count_of (g.pass).number) is in omega arith) in
    let begins : begins_in ((g.pass).seen ++ more.0) ≤ begins_in q.seen =
    (let t : begins_in last.seen ≡ begins_in ((g.pass).seen ++ more.0) = ap begins_in is in
    let u = begins_same q.seen last.seen (zeros_stay q last way.first home.goes_on) in omega arith) in
    (more.0, is, gap_quiet last.seen last.made q g more.0 whole way (prefix_is ((g.pass).seen ++ more.0) last.seen is) own (λ k less le. absurd (let made = home.made in omega arith)) begins)

pub between : (moves : List Move) (p q last : PassOfTable) (f g : FrontPassState) → Whole last.seen last.made → OnWay last.seen p f → Moves p f moves q g → JoinsPass q g.pass last
    → SeesQuiet (f.pass).seen (parts_in moves) (g.pass).seen last.seen
between [] p q last f g whole way (is_first, is_front) home = (
  ap (λ (y : FrontPassState). (y.pass).seen) is_front,
  home_quiet q last g whole (subst (λ (x : PassOfTable). OnWay last.seen x g) (sym is_first) (subst (λ (y : FrontPassState). OnWay last.seen p y) (sym is_front) way)) home,
)
between (ran ∷ moves) p q last f g whole way (next, run, goes) home =
    let then = reaches moves next q last f g run.first goes home in
    between moves next q last f g whole (record {
      first = run.first;
      own = way.own;
      settled = λ k ne le other. dite (dec_le k p.made)
          (λ less. way.settled k ne less other)
          (λ more. let own = run.each k (omega arith) le in inl (subst AreQuiet (sym (then.stay k own.0 ne own.1)) own.2));
      begins = let same = begins_same p.seen next.seen (zeros_stay p next way.first run.on) in let few = way.begins in omega arith;
    }) goes home
between (looked stage ∷ moves) p q last f g whole way (next, look, goes) home =
    between moves next q last f g whole (record {
      first = look.same.0 ∙ way.first;
      own = way.own;
      settled = λ k ne le other. way.settled k ne (let made = look.same.1 in omega arith) other;
      begins = let same = looked_begins stage p next way.first look in let few = way.begins in omega arith;
    }) goes home
between (part (calls does back) ∷ moves) p q last f g whole way (then, called, goes) home =
    let n = (f.pass).number in
    let c = (called.calls).called in
    let same : (then.pass).number ≡ n = (called.calls).same.0 in
    let after = reaches moves p q last then g way.first goes home in
    let coming = later moves p q last then g way.first goes home in
    let seen = Called-prefix f.pass then.pass does back c in
    let within : IsPrefix ((f.pass).seen ++ c.0) (then.pass).seen = (entry n does back ∷ [], sym c.1) in
    let quiet = gap_quiet last.seen last.made p f c.0 whole way (prefix_then ((f.pass).seen ++ c.0) (then.pass).seen last.seen within after.front_seen) (count_none n c.0 c.2.0)
    (λ k less le. elim (coming.fresh k less le) [
      | inl is ↦ inl is
      | inr none ↦ inr (let few = count_prefix k ((f.pass).seen ++ c.0) (then.pass).seen within in omega arith)
    ])
    (let few = begins_prefix ((f.pass).seen ++ c.0) (then.pass).seen within in let more = coming.begins in omega arith) in
    let rest = between moves p q last then g whole (record {
      first = way.first;
      own = λ zero. way.own (sym same ∙ zero);
      settled = λ k ne le other. elim (way.settled k ne le (λ is. other (is ∙ sym same))) [
        | inl is ↦ inl is
        | inr all ↦ inr (count_of_between k (count_of k last.seen) (f.pass).seen (then.pass).seen last.seen seen after.front_seen all refl)
      ];
      begins = let few = begins_prefix (f.pass).seen (then.pass).seen seen in let more = way.begins in omega arith;
    }) goes home in
    (((then.pass).seen, (c.0, n, c.1, quiet), rest.0), rest.1)
between (part (renews given handed) ∷ moves) p q last f g whole way (next, then, renewed, goes) home =
    let both = (renewed.both).seen in
    let r = renews_so p next f then way.first renewed in
    let after = reaches moves next q last then g r.number goes home in
    let coming = later moves next q last then g r.number goes home in
    let more = r.front_before in
    let is : next.seen ≡ both = ap (λ (x : PassOfTable). x.seen) renewed.kept in
    let quiet = renewed_quiet last.seen last.made p next f then both more.0 whole way r coming after.first_seen (prefix_is ((f.pass).seen ++ more.0) next.seen (is ∙ sym more.1))
    (let t : begins_in ((f.pass).seen ++ more.0) ≡ begins_in both = ap begins_in more.1 in let u = begins_same p.seen both r.zeros in omega arith) in
    let rest = between moves next q last then g whole (way_renewed last.seen last.made p next f then both way r after) goes home in
    (((then.pass).seen, (more.0, r.seen ∙ (is ∙ sym more.1), quiet), rest.0), rest.1)
between (part (renews_by does back given handed) ∷ moves) p q last f g whole way (next, then, renewed, begins, goes) home =
    let both = (renewed.both).seen in
    let r = renews_by_so does back p next f then way.first renewed in
    let after = reaches moves next q last then g r.number goes home in
    let coming = later moves next q last then g r.number goes home in
    let more = r.front_before in
    let c = (renewed.calls).called in
    let n = (renewed.both).number in
    let added = more.0 ++ c.0 in
    let joined : (f.pass).seen ++ added ≡ both ++ c.0 = sym (append_assoc (f.pass).seen more.0 c.0) ∙ ap (λ (l : List TableEntry). l ++ c.0) more.1 in
    let is : next.seen ≡ ((f.pass).seen ++ added) ++ entry n does back ∷ [] =
    ap (λ (x : PassOfTable). x.seen) renewed.kept ∙ (c.1 ∙ ap (λ (l : List TableEntry). l ++ entry n does back ∷ []) (sym joined)) in
    let none : calls_of 0 c.0 ≡ [] = subst (λ (k : ℕ). calls_of k c.0 ≡ []) (renewed.joins).number c.2.0 in
    let quiet = renewed_quiet last.seen last.made p next f then both added whole way r coming after.first_seen (entry n does back ∷ [], sym is)
    (let t : begins_in ((f.pass).seen ++ added) ≡ begins_in (both ++ c.0) = ap begins_in joined in
    let s = begins-append both c.0 in
    let z : begins_in c.0 ≡ 0 = ap (total begun) none in
    let u = begins_same p.seen both r.zeros in omega arith) in
    let rest = between moves next q last then g whole (way_renewed last.seen last.made p next f then both way r after) goes home in
    (((then.pass).seen, (added, n, r.seen ∙ is, quiet), rest.0), rest.1)
