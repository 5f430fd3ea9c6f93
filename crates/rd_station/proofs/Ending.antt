-- Which of the jobs that wait in a device end: as the device has it by its requests, and as the station has it by their keys.
use Rattle.std.proofs.Common.{◌≡◌, ◌⊎◌, ◌∙◌, refl, sym, ap, subst, inl, inr, ℕ, ◌≤◌, ◌+◌, ◌&&◌, ◌||◌, Bool, true, false, cond, not, List, [], ◌∷◌, ◌++◌, length, map, arith}
use Rattle.std.specs.Prelude.{Some, None, Option, filter, find}
use Rattle.std.specs.List.{flat_map}
use Rattle.std.specs.Option.{option_map_or}
use Rattle.std.proofs.lemmas.List.{length-append, length-map}
use Rattle.rd_base.specs.declared.journal.Key.{Key}
use Rattle.rd_drive.specs.declared.step.End.{End}
use Rattle.rd_drive.specs.Device.{AreEnded, CompletesKind, IsEndOf, Parked}
use Rattle.rd_station.specs.declared.answers.Completion.{Completion}
use Rattle.rd_station.specs.declared.held.ParkedJob.{ParkedJob}
use Rattle.rd_station.specs.Station.{completion_of, ended_completion, is_ended, is_key}
use Rattle.rd_station.specs.Tied.{as_parked}
use Rattle.rd_station.proofs.Members.{AreApart, Has, apart_key, find_has, has_append, has_map, key_self, map_has, same_key}
use Rattle.rd_station.proofs.Counts.{cnt, cnt_append, cnt_nil, cnt_one, fewer, filter_same, filter_twice, has_filter, one_gone}

abbrev pub request_key : Parked → Key
request_key waiting = waiting.key

abbrev pub parked_key : ParkedJob → Key
parked_key p = p.key

abbrev pub end_key : End → Key
end_key e = e.key

-- ---- as the device has it

-- each end is that of one that waited
pub end_of : (ws : List Parked) (ends : List End) (left : List Parked) → AreEnded ws ends left → (e : End) → Has e ends → (w : Parked) × Has w ws × IsEndOf w e
end_of [] ends left are e has = absurd (subst (Has e) are.0 has)
end_of (w ∷ ws) ends left (inl one) e has = elim (subst (Has e) one.2 has) [
  | inl same ↦ (w, inl refl, subst (IsEndOf w) (sym same) one.3)
  | inr h ↦ let found = end_of ws one.1 left one.4 e h in (found.0, inr found.1, found.2)
]
end_of (w ∷ ws) ends left (inr on) e has = let found = end_of ws ends on.0 on.2 e has in (found.0, inr found.1, found.2)

pub end_among : (ws : List Parked) (ends : List End) (left : List Parked) → AreEnded ws ends left → (k : Key) → Has k (map end_key ends) → Has k (map request_key ws)
end_among ws ends left are k has =
    let found = map_has end_key k ends has in
    let w = end_of ws ends left are found.0 found.1 in
    subst (λ (x : Key). Has x (map request_key ws)) (sym (found.2 ∙ w.2.0)) (has_map request_key w.0 ws w.1)

left_among : (ws : List Parked) (ends : List End) (left : List Parked) → AreEnded ws ends left → (k : Key) → Has k (map request_key left) → Has k (map request_key ws)
left_among [] ends left are k has = subst (λ (ls : List Parked). Has k (map request_key ls)) are.1 has
left_among (w ∷ ws) ends left (inl one) k has = inr (left_among ws one.1 left one.4 k has)
left_among (w ∷ ws) ends left (inr on) k has = elim (subst (λ (ls : List Parked). Has k (map request_key ls)) on.1 has) [
  | inl same ↦ inl same
  | inr h ↦ inr (left_among ws ends on.0 on.2 k h)
]

pub ends_distinct : (ws : List Parked) (ends : List End) (left : List Parked) → AreEnded ws ends left → AreApart (map request_key ws) → AreApart (map end_key ends) × AreApart (map request_key left)
ends_distinct [] ends left are apart = (subst (λ (es : List End). AreApart (map end_key es)) (sym are.0) tt, subst (λ (ls : List Parked). AreApart (map request_key ls)) (sym are.1) tt)
ends_distinct (w ∷ ws) ends left (inl one) apart =
    let later = ends_distinct ws one.1 left one.4 apart.1 in
    (subst (λ (es : List End). AreApart (map end_key es)) (sym one.2) ((λ has. apart.0 (end_among ws one.1 left one.4 w.key (subst (λ (k : Key). Has k (map end_key one.1)) one.3.0 has))), later.0), later.1)
ends_distinct (w ∷ ws) ends left (inr on) apart =
    let later = ends_distinct ws ends on.0 on.2 apart.1 in
    (later.0, subst (λ (ls : List Parked). AreApart (map request_key ls)) (sym on.1) ((λ has. apart.0 (left_among ws ends on.0 on.2 w.key has)), later.1))

-- ---- as the station has it

pub unended : (ends : List End) (p : ParkedJob) → (¬ (Has p.key (map end_key ends))) → is_ended ends p ≡ false
unended [] p none = refl
unended (e ∷ ends) p none = λ i. apart_key e.key p.key (λ same. none (inl (sym same))) i || unended ends p (λ has. none (inr has)) i

pub same_keys : (ps : List ParkedJob) → map request_key (map as_parked ps) ≡ map parked_key ps
same_keys [] = refl
same_keys (p ∷ ps) = ap (λ (ks : List Key). p.key ∷ ks) (same_keys ps)

-- the jobs that wait on
pub left_is : (ps : List ParkedJob) (ends : List End) (left : List Parked) → AreEnded (map as_parked ps) ends left → AreApart (map parked_key ps) → map as_parked (filter (λ p. not (is_ended ends p)) ps) ≡ left
left_is [] ends left are apart = sym are.1
left_is (p ∷ ps) ends left (inl one) apart =
    let others : (q : ParkedJob) → Has q ps → not (is_ended ends q) ≡ not (is_ended one.1 q) = λ q has.
    ap (λ (es : List End). not (is_ended es q)) one.2
    ∙ ap (λ b. not (b || is_ended one.1 q)) (apart_key (one.0).key q.key (λ same. apart.0 (subst (λ (k : Key). Has k (map parked_key ps)) (sym same ∙ one.3.0) (has_map parked_key q ps has)))) in
    let here : not (is_ended ends p) ≡ false = ap (λ (es : List End). not (is_ended es p)) one.2 ∙ ap (λ b. not (b || is_ended one.1 p)) (ap (λ (k : Key). is_key k p.key) one.3.0 ∙ key_self p.key) in
    ap (map as_parked) (ap (λ b. cond b (p ∷ filter (λ q. not (is_ended ends q)) ps) (filter (λ q. not (is_ended ends q)) ps)) here)
    ∙ ap (map as_parked) (filter_same (λ q. not (is_ended ends q)) (λ q. not (is_ended one.1 q)) ps others)
    ∙ left_is ps one.1 left one.4 apart.1
left_is (p ∷ ps) ends left (inr on) apart =
    let stays : not (is_ended ends p) ≡ true = ap not (unended ends p (λ has. apart.0 (subst (Has p.key) (same_keys ps) (end_among (map as_parked ps) ends on.0 on.2 p.key has)))) in
    ap (map as_parked) (ap (λ b. cond b (p ∷ filter (λ q. not (is_ended ends q)) ps) (filter (λ q. not (is_ended ends q)) ps)) stays)
    ∙ ap (λ (ls : List Parked). as_parked p ∷ ls) (left_is ps ends on.0 on.2 apart.1)
    ∙ sym on.1

only : (ps : List ParkedJob) → AreApart (map parked_key ps) → (p q : ParkedJob) → Has p ps → Has q ps → p.key ≡ q.key → p ≡ q
only [] apart p q one other same = absurd one
only (x ∷ ps) apart p q one other same = elim one [
  | inl a ↦ elim other [
    | inl b ↦ a ∙ sym b
    | inr b ↦ absurd (apart.0 (subst (λ (k : Key). Has k (map parked_key ps)) (sym same ∙ ap parked_key a) (has_map parked_key q ps b)))
  ]
  | inr a ↦ elim other [
    | inl b ↦ absurd (apart.0 (subst (λ (k : Key). Has k (map parked_key ps)) (same ∙ ap parked_key b) (has_map parked_key p ps a)))
    | inr b ↦ only ps apart.1 p q a b same
  ]
]

-- what is ready by the ends fits
one_completes : (ps : List ParkedJob) → AreApart (map parked_key ps) → (e : End) (w : Parked) → Has w (map as_parked ps) → IsEndOf w e → (x : Completion) → Has x (ended_completion ps e) → CompletesKind x.kind x.reply
one_completes ps apart e w has is x there = go (find (λ (p : ParkedJob). is_key p.key e.key) ps) refl there
  where
    go : (found : Option ParkedJob) → find (λ (p : ParkedJob). is_key p.key e.key) ps ≡ found → Has x (option_map_or (λ (p : ParkedJob). completion_of p.key p.completion p.kind e.reply ∷ []) found []) → CompletesKind x.kind x.reply
    go None f there = absurd there
    go (Some p) f there = elim there [
      | inl same ↦
          let here = find_has (λ (p : ParkedJob). is_key p.key e.key) p ps f in
          let from = map_has as_parked w ps has in
          let key : p.key ≡ (from.0).key = same_key p.key e.key here.1 ∙ is.0 ∙ ap request_key from.2 in
          let job : p ≡ from.0 = only ps apart p from.0 here.0 from.1 key in
          subst (λ (c : Completion). CompletesKind c.kind c.reply) (sym same) (subst (λ (q : ParkedJob). CompletesKind q.kind e.reply) (sym job) (subst (λ (v : Parked). CompletesKind v.kind e.reply) from.2 is.1))
      | inr none ↦ absurd none
    ]

pub ends_complete : (ps : List ParkedJob) (ends : List End) (left : List Parked) → AreEnded (map as_parked ps) ends left → AreApart (map parked_key ps) → (x : Completion) → Has x (flat_map (ended_completion ps) ends) → CompletesKind x.kind x.reply
ends_complete ps ends left are apart x has = each ends (λ e h. end_of (map as_parked ps) ends left are e h) has
  where
    each : (es : List End) → ((e : End) → Has e es → (w : Parked) × Has w (map as_parked ps) × IsEndOf w e) → Has x (flat_map (ended_completion ps) es) → CompletesKind x.kind x.reply
    each [] from has = absurd has
    each (e ∷ es) from has = elim (has_append x (ended_completion ps e) (flat_map (ended_completion ps) es) has) [
      | inl h ↦ let w = from e (inl refl) in one_completes ps apart e w.0 w.1 w.2 x h
      | inr h ↦ each es (λ f there. from f (inr there)) h
    ]

-- ---- how many

abbrev pub of_parked : (Key × ℕ → Bool) → ParkedJob → Bool
of_parked p job = p (job.key, job.completion)

abbrev pub of_ready : (Key × ℕ → Bool) → Completion → Bool
of_ready p x = p (x.key, x.completion)

-- what becomes ready by ends, and what waits on, are no more than those that waited
pub no_more : (p : Key × ℕ → Bool) (ps : List ParkedJob) (ends : List End) → AreApart (map end_key ends) → cnt (of_ready p) (flat_map (ended_completion ps) ends) + cnt (of_parked p) (filter (λ q. not (is_ended ends q)) ps) ≤ cnt (of_parked p) ps
no_more p ps [] apart = let less = fewer (of_parked p) (λ q. not (is_ended [] q)) ps in let none = cnt_nil (of_ready p) in omega (arith, less, none)
no_more p ps (e ∷ ends) apart = go (find (λ (q : ParkedJob). is_key q.key e.key) ps) refl (no_more p ps ends apart.1)
  where
    on : List ParkedJob
    on = filter (λ q. not (is_ended ends q)) ps

    split : filter (λ q. not (is_ended (e ∷ ends) q)) ps ≡ filter (λ q. not (is_key e.key q.key)) (filter (λ q. not (is_ended ends q)) ps)
    split = filter_twice (λ (q : ParkedJob). not (is_ended ends q)) (λ q. not (is_key e.key q.key)) (λ q. not (is_ended (e ∷ ends) q)) (λ q. by (is_key e.key q.key) (is_ended ends q)) ps
      where
        by : (a b : Bool) → not (a || b) ≡ (not b && not a)
        by true true = refl
        by true false = refl
        by false true = refl
        by false false = refl

    go : (found : Option ParkedJob) → find (λ (q : ParkedJob). is_key q.key e.key) ps ≡ found → cnt (of_ready p) (flat_map (ended_completion ps) ends) + cnt (of_parked p) (filter (λ q. not (is_ended ends q)) ps) ≤ cnt (of_parked p) ps
        → cnt (of_ready p) (option_map_or (λ (q : ParkedJob). completion_of q.key q.completion q.kind e.reply ∷ []) found [] ++ flat_map (ended_completion ps) ends) + cnt (of_parked p) (filter (λ q. not (is_ended (e ∷ ends) q)) ps)
        ≤ cnt (of_parked p) ps
    go None f later =
        let less = fewer (of_parked p) (λ q. not (is_key e.key q.key)) (filter (λ q. not (is_ended ends q)) ps) in
        let same = ap (cnt (of_parked p)) split in
        omega (arith, later, less, same)
    go (Some x) f later =
        let here = find_has (λ (q : ParkedJob). is_key q.key e.key) x ps f in
        let key : x.key ≡ e.key = same_key x.key e.key here.1 in
        let waits_on = has_filter (λ q. not (is_ended ends q)) x ps here.0 (ap not (unended ends x (λ has. apart.0 (subst (λ (k : Key). Has k (map end_key ends)) key has)))) in
        let gone = one_gone (of_parked p) (λ q. not (is_key e.key q.key)) x (ap not (ap (is_key e.key) key ∙ key_self e.key)) (filter (λ q. not (is_ended ends q)) ps) waits_on in
        let same = ap (cnt (of_parked p)) split in
        let ready = cnt_append (of_ready p) (completion_of x.key x.completion x.kind e.reply ∷ []) (flat_map (ended_completion ps) ends) in
        let one = cnt_one (of_ready p) (completion_of x.key x.completion x.kind e.reply) in
        omega (arith, later, gone, same, ready, one)

-- those that end and those that wait on are all that waited
ended_size : (ws : List Parked) (ends : List End) (left : List Parked) → AreEnded ws ends left → length ws ≡ length ends + length left
ended_size [] ends left are = omega (arith, ap (length {A = End}) are.0, ap (length {A = Parked}) are.1)
ended_size (w ∷ ws) ends left (inl one) = omega (arith, ended_size ws one.1 left one.4, ap (length {A = End}) one.2)
ended_size (w ∷ ws) ends left (inr on) = omega (arith, ended_size ws ends on.0 on.2, ap (length {A = Parked}) on.1)

-- where one passes, one is found
some_found : {A : Type 0} (p : A → Bool) (x : A) (xs : List A) → Has x xs → p x ≡ true → (y : A) × (find p xs ≡ Some y)
some_found p x [] none e = absurd none
some_found {A} p x (y ∷ xs) has e = by (p y) refl has (λ later. some_found p x xs later e)
  where
    by : (b : Bool) → p y ≡ b → (x ≡ y) ⊎ Has x xs → (Has x xs → (z : A) × (find p xs ≡ Some z)) → (z : A) × (cond b (Some y) (find p xs) ≡ Some z)
    by true f has rest = (y, refl)
    by false f (inl same) rest = absurd (cc (ap p same, e, f))
    by false f (inr later) rest = rest later

-- each end makes one completion
all_complete : (ps : List ParkedJob) (ends : List End) → ((e : End) → Has e ends → Has e.key (map parked_key ps)) → length ends ≤ length (flat_map (ended_completion ps) ends)
all_complete ps [] each = omega arith
all_complete ps (e ∷ ends) each =
    let (p, has, key) = map_has parked_key e.key ps (each e (inl refl)) in
    let (q, found) = some_found (λ (r : ParkedJob). is_key r.key e.key) p ps has (ap (λ (k : Key). is_key k e.key) (sym key) ∙ key_self e.key) in
    let one : length (ended_completion ps e) ≡ 1 = ap (λ (o : Option ParkedJob). length (option_map_or (λ (r : ParkedJob). completion_of r.key r.completion r.kind e.reply ∷ []) o [])) found in
    omega (arith, all_complete ps ends (λ f h. each f (inr h)), one, length-append (ended_completion ps e) (flat_map (ended_completion ps) ends))

-- nor are they fewer
pub none_lost : (ps : List ParkedJob) (ends : List End) (left : List Parked) → AreEnded (map as_parked ps) ends left → AreApart (map parked_key ps)
    → length ps ≤ length (flat_map (ended_completion ps) ends) + length (filter (λ p. not (is_ended ends p)) ps)
none_lost ps ends left are apart =
    let found = all_complete ps ends (λ e has. subst (Has e.key) (same_keys ps) (end_among (map as_parked ps) ends left are e.key (has_map end_key e ends has))) in
    let on = ap (length {A = Parked}) (left_is ps ends left are apart) in
    omega (arith, found, on, ended_size (map as_parked ps) ends left are, length-map ps as_parked, length-map (filter (λ p. not (is_ended ends p)) ps) as_parked)

-- what becomes ready by ends has the key of one that waited
pub ended_key : (ps : List ParkedJob) (ends : List End) (x : Completion) → Has x (flat_map (ended_completion ps) ends) → (p : ParkedJob) × Has p ps × (x.key ≡ p.key)
ended_key ps [] x none = absurd none
ended_key ps (e ∷ ends) x has = elim (has_append x (ended_completion ps e) (flat_map (ended_completion ps) ends) has) [
  | inl here ↦ by (find (λ (p : ParkedJob). is_key p.key e.key) ps) refl here
  | inr later ↦ ended_key ps ends x later
]
  where
    by : (found : Option ParkedJob) → find (λ (p : ParkedJob). is_key p.key e.key) ps ≡ found → Has x (option_map_or (λ (p : ParkedJob). completion_of p.key p.completion p.kind e.reply ∷ []) found [])
        → (p : ParkedJob) × Has p ps × (x.key ≡ p.key)
    by None f none = absurd none
    by (Some p) f (inl same) = (p, (find_has (λ (q : ParkedJob). is_key q.key e.key) p ps f).0, ap (λ (y : Completion). y.key) same)
    by (Some p) f (inr none) = absurd none
