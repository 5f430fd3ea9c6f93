-- No request of a device has two replies: by how often its key is among the replies so far and among the requests that wait.
use Rattle.std.proofs.Common.{◌≡◌, ◌∙◌, refl, sym, ap, subst, ℕ, zero, suc, ◌+◌, ◌≤◌, ◌⊎◌, inl, inr, ◌==◌, ◌&&◌, Bool, true, false, cond, List, [], ◌∷◌, ◌++◌, map, arith}
use Rattle.std.specs.Prelude.{All, Contains}
use Rattle.std.proofs.lemmas.Bool.{eqb-true, eq-eqb}
use Rattle.std.proofs.lemmas.List.{append_assoc}
use Rattle.std.proofs.lemmas.List.Elements.{All-contains, All-contains_itself, All-weaker, Contains-append_cases, Contains-append_left, Contains-push}
use Rattle.rd_base.specs.declared.journal.Key.{Key}
use Rattle.rd_base.specs.declared.journal.Item.{Item}
use Rattle.rd_base.specs.declared.journal.Item.TheVariants.{Came, Ran, Cancelled, Sent, Cut}
use Rattle.rd_base.specs.Lawful.{EachEntry, Settles, SettlesFirst}
use Rattle.rd_irp.specs.declared.op.Op.{Op}
use Rattle.rd_irp.specs.declared.request.Request.{Request}
use Rattle.rd_irp.specs.declared.completion.Reply.{Reply}
use Rattle.rd_drive.specs.declared.plan.Job.{Job}
use Rattle.rd_drive.specs.declared.step.Step.{Step}
use Rattle.rd_drive.specs.declared.step.Step.TheVariants as step
use Rattle.rd_drive.specs.declared.step.End.{End}
use Rattle.rd_drive.specs.Device.{AreEnded, Parked, parked_by}
use Rattle.rd_drive.specs.Once.{HaveOneReplyEach}
use Rattle.rd_drive.specs.Promise.{IsDevice, cut_end}
use Rattle.rd_drive.specs.Replies.{KeyedReply, end_reply, own_reply, replies_at, replies_by, run_of, state_after}
use Rattle.rd_drive.specs.Stepped.{Settled, Stepped}

-- ---- how often a key is there

is_key : Key → Key → Bool
is_key a b = (a.channel == b.channel) && (a.index == b.index)

same_key : (a b : Key) → is_key a b ≡ true → a ≡ b
unfolding is_key
same_key a b e = by (a.channel == b.channel) refl e
  where
    by : (c : Bool) → (a.channel == b.channel) ≡ c → (c && (a.index == b.index)) ≡ true → a ≡ b
    by true f h = λ i. record { channel = eqb-true a.channel b.channel f i; index = eqb-true a.index b.index h i }
    by false f h = absurd cc

own_key : (a : Key) → is_key a a ≡ true
unfolding is_key
own_key a = λ i. eq-eqb a.channel a.channel refl i && eq-eqb a.index a.index refl i

-- how many have the key
count : {X : Type 0} → (X → Key) → Key → List X → ℕ
count f k [] = 0
count f k (x ∷ xs) = (cond (is_key (f x) k) 1 0) + count f k xs

count_append : {X : Type 0} (f : X → Key) (k : Key) (xs ys : List X) → count f k (xs ++ ys) ≡ count f k xs + count f k ys
unfolding count
count_append f k [] ys = omega arith
count_append f k (x ∷ xs) ys = let later = count_append f k xs ys in omega (arith, later)

count_map : {X Y : Type 0} (f : Y → Key) (g : X → Y) (k : Key) (xs : List X) → count f k (map g xs) ≡ count (λ x. f (g x)) k xs
unfolding count
count_map f g k [] = refl
count_map f g k (x ∷ xs) = ap (λ n. (cond (is_key (f (g x)) k) 1 0) + n) (count_map f g k xs)

abbrev parked_key : Parked → Key
parked_key waiting = waiting.key

abbrev end_key : End → Key
end_key ended = ended.key

abbrev reply_key : KeyedReply → Key
reply_key keyed = keyed.0

-- a request that waits ends, or waits on
ended_counts : (k : Key) (ps : List Parked) (ends : List End) (left : List Parked) → AreEnded ps ends left → count parked_key k ps ≡ count end_key k ends + count parked_key k left
unfolding count
ended_counts k [] ends left are =
    let none : count end_key k ends ≡ 0 = ap (count end_key k) are.0 in
    let no : count parked_key k left ≡ 0 = ap (count parked_key k) are.1 in
    omega (arith, none, no)
ended_counts k (p ∷ ps) ends left (inl one) =
    let later = ended_counts k ps one.1 left one.4 in
    let is : count end_key k ends ≡ cond (is_key p.key k) 1 0 + count end_key k one.1 = ap (count end_key k) one.2 ∙ ap (λ (key : Key). cond (is_key key k) 1 0 + count end_key k one.1) one.3.0 in
    omega (arith, later, is)
ended_counts k (p ∷ ps) ends left (inr on) =
    let later = ended_counts k ps ends on.0 on.2 in
    let is : count parked_key k left ≡ cond (is_key p.key k) 1 0 + count parked_key k on.0 = ap (count parked_key k) on.1 in
    omega (arith, later, is)

-- the request that ran is answered, or waits
answered_or_waits : (k : Key) (job : Job) (answer : Step) → count reply_key k (own_reply job.key answer) + count parked_key k (parked_by job answer) ≡ cond (is_key job.key k) 1 0
unfolding count
answered_or_waits k job (step.Reply reply) = omega arith
answered_or_waits k job step.Parked = omega arith

-- what a cut ends is what waits
cut_counts : (k : Key) (ps : List Parked) → count reply_key k (map end_reply (map cut_end ps)) ≡ count parked_key k ps
cut_counts k ps = count_map reply_key end_reply k (map cut_end ps) ∙ count_map (λ (ended : End). ended.key) cut_end k ps

-- ---- a list of replies

one_in : {X : Type 0} (x y : X) → Contains (x ∷ []) y → x ≡ y
one_in x y (zero, low, e) = e
one_in x y (suc i, low, e) = absurd (omega (arith, low))

in_front : {X : Type 0} (x y : X) (xs : List X) → Contains (x ∷ xs) y → (x ≡ y) ⊎ Contains xs y
in_front x y xs has = elim (Contains-append_cases (x ∷ []) xs y has) [ inl here ↦ inl (one_in x y here) | inr later ↦ inr later ]

here_counts : (k : Key) (x : KeyedReply) (xs : List KeyedReply) (r : Reply) → x ≡ (k, r) → count reply_key k (x ∷ xs) ≡ 1 + count reply_key k xs
unfolding count
here_counts k x xs r e = ap (λ b. cond b 1 0 + count reply_key k xs) (ap (λ (y : KeyedReply). is_key y.0 k) e ∙ own_key k)

less_counts : (k : Key) (x : KeyedReply) (xs : List KeyedReply) → count reply_key k (x ∷ xs) ≡ 0 → count reply_key k xs ≡ 0
unfolding count
less_counts k x xs none = omega (arith, none)

fewer_counts : (k : Key) (x : KeyedReply) (xs : List KeyedReply) → count reply_key k (x ∷ xs) ≤ 1 → count reply_key k xs ≤ 1
unfolding count
fewer_counts k x xs few = omega (arith, few)

none_counts : (k : Key) (xs : List KeyedReply) (r : Reply) → count reply_key k xs ≡ 0 → Contains xs (k, r) → ⊥
none_counts k [] r none has = omega (arith, has.1)
none_counts k (x ∷ xs) r none has = elim (in_front x (k, r) xs has) [
  | inl here ↦ let one = here_counts k x xs r here in omega (arith, one, none)
  | inr later ↦ none_counts k xs r (less_counts k x xs none) later
]

one_counts : (k : Key) (xs : List KeyedReply) (r q : Reply) → count reply_key k xs ≤ 1 → Contains xs (k, r) → Contains xs (k, q) → r ≡ q
one_counts k [] r q few one other = absurd (omega (arith, one.1))
one_counts k (x ∷ xs) r q few one other = go (one_counts k xs r q (fewer_counts k x xs few)) (in_front x (k, r) xs one) (in_front x (k, q) xs other)
  where
    alone : (p : Reply) → x ≡ (k, p) → count reply_key k xs ≡ 0
    alone p here = let is = here_counts k x xs p here in omega (arith, is, few)

    go : (Contains xs (k, r) → Contains xs (k, q) → r ≡ q) → (x ≡ (k, r)) ⊎ Contains xs (k, r) → (x ≡ (k, q)) ⊎ Contains xs (k, q) → r ≡ q
    go later (inl a) (inl b) = ap (λ (y : KeyedReply). y.1) (sym a ∙ b)
    go later (inl a) (inr b) = absurd (none_counts k xs q (alone r a) b)
    go later (inr a) (inl b) = absurd (none_counts k xs r (alone q b) a)
    go later (inr a) (inr b) = later a b

-- ---- a journal

module _ {S : Type 0} (step : S → Key → ℕ → Op → ℕ → Stepped S) (cut : S → Settled S) (parked : S → List Parked) (IsFit : S → Type 0) (device : IsDevice step cut parked IsFit) (requests : Key → Request) where
  module _ (k : Key) where
    waiting : S → ℕ
    waiting s = count parked_key k (parked s)

    given : List KeyedReply → ℕ
    given replies = count reply_key k replies

    Unsettled : List Item → Type 0
    Unsettled entries = All (λ entry. ¬ (Settles k entry)) entries

    earlier : (before : List Item) (entry : Item) → Unsettled (before ++ entry ∷ []) → Unsettled before
    unfolding Unsettled
    earlier before entry all =
        All-weaker (Contains before) (λ e. ¬ (Settles k e)) (λ e has. All-contains (λ e. ¬ (Settles k e)) (before ++ entry ∷ []) e all (Contains-append_left before (entry ∷ []) e has)) before (All-contains_itself before)

    -- the request is among those told and those that wait at most once, and only where it was settled before
    record IsOnce (before : List Item) (s : S) (told : ℕ) : Type 0 where
      fit : IsFit s
      few : told + waiting s ≤ 1
      none : Unsettled before → told + waiting s ≡ 0

    ran_counts : (s : S) (key : Key) (moment : ℕ) (starved : Bool) → IsFit s
        → IsFit (run_of step cut requests s key moment starved).state
        × (given (own_reply key (run_of step cut requests s key moment starved).answer ++ map end_reply (run_of step cut requests s key moment starved).ends) + waiting (run_of step cut requests s key moment starved).state ≡ waiting s + cond (is_key key k) 1 0)
    unfolding waiting given count
    ran_counts s key moment true fit = (fit, omega arith)
    ran_counts s key moment false fit =
        let request = requests key in
        let job : Job = record { key = key; file = request.file; completion = request.completion; op = request.op } in
        let came = step s key request.file request.op moment in
        let parks = device.parks s job moment fit in
        let ended = ended_counts k (parked s) came.ends parks.left parks.ended in
        let own = answered_or_waits k job came.answer in
        let all = count_append reply_key k (own_reply key came.answer) (map end_reply came.ends) in
        let ends = count_map reply_key end_reply k came.ends in
        let after : count parked_key k (parked came.state) ≡ count parked_key k (parks.left ++ parked_by job came.answer) = ap (count parked_key k) parks.waits in
        let both = count_append parked_key k parks.left (parked_by job came.answer) in
        (device.stays s key request.file request.op moment fit, omega (arith, ended, own, all, ends, after, both))

    quiet : (before : List Item) (entry : Item) (s : S) (told : ℕ) → IsOnce before s told → IsOnce (before ++ entry ∷ []) s (told + 0)
    quiet before entry s told once = record { fit = once.fit; few = omega (arith, once.few); none = λ all. let zero = once.none (earlier before entry all) in omega (arith, zero) }

    next : (before : List Item) (entry : Item) (s : S) (told : ℕ) → SettlesFirst before entry → IsOnce before s told
        → IsOnce (before ++ entry ∷ []) (state_after step cut requests s entry) (told + given (replies_at step cut requests s entry))
    unfolding waiting given count Unsettled
    next before (Came key) s told first once = quiet before _ s told once
    next before (Cancelled key) s told first once = quiet before _ s told once
    next before (Sent key) s told first once = quiet before _ s told once
    next before (Cut cause) s told first once =
        let cancels = device.cancels s once.fit in
        let gone : count reply_key k (map end_reply (cut s).ends) ≡ count parked_key k (parked s) = ap (λ (ends : List End). count reply_key k (map end_reply ends)) cancels.ends ∙ cut_counts k (parked s) in
        let left : count parked_key k (parked (cut s).state) ≡ 0 = ap (count parked_key k) cancels.none in
        record {
          fit = device.cut_stays s once.fit;
          few = omega (arith, once.few, gone, left);
          none = λ all. let zero = once.none (earlier before _ all) in omega (arith, zero, gone, left);
        }
    next before (Ran key moment starved mark) s told first once = by (is_key key k) refl (ran_counts s key moment starved once.fit)
      where
        new : Stepped S
        new = run_of step cut requests s key moment starved

        by : (b : Bool) → is_key key k ≡ b → IsFit new.state × (given (own_reply key new.answer ++ map end_reply new.ends) + waiting new.state ≡ waiting s + cond (is_key key k) 1 0)
            → IsOnce (before ++ Ran key moment starved mark ∷ []) new.state (told + given (own_reply key new.answer ++ map end_reply new.ends))
        by true e ran =
            let same : key ≡ k = same_key key k e in
            let zero : told + waiting s ≡ 0 = once.none (subst (λ (x : Key). All (λ entry. ¬ (Settles x entry)) before) same first.1) in
            let one : cond {A = ℕ} (is_key key k) 1 0 ≡ 1 = ap (λ b. cond b 1 0) e in
            record {
              fit = ran.0;
              few = omega (arith, zero, one, ran.1);
              none = λ all. absurd (All-contains (λ entry. ¬ (Settles k entry)) (before ++ Ran key moment starved mark ∷ []) (Ran key moment starved mark) all (Contains-push before (Ran key moment starved mark)) same);
            }
        by false e ran =
            let none : cond {A = ℕ} (is_key key k) 1 0 ≡ 0 = ap (λ b. cond b 1 0) e in
            record {
              fit = ran.0;
              few = omega (arith, once.few, none, ran.1);
              none = λ all. let zero = once.none (earlier before (Ran key moment starved mark) all) in omega (arith, zero, none, ran.1);
            }

    once_from : (rest before : List Item) (s : S) (told : ℕ) → EachEntry SettlesFirst (before ++ rest) → IsOnce before s told → told + given (replies_by step cut requests s rest) ≤ 1
    unfolding given count
    once_from [] before s told lawful once = omega (arith, once.few)
    once_from (entry ∷ rest) before s told lawful once =
        let after = state_after step cut requests s entry in
        let later = once_from rest (before ++ entry ∷ []) after (told + given (replies_at step cut requests s entry))
        (subst (EachEntry SettlesFirst) (sym (append_assoc before (entry ∷ []) rest)) lawful) (next before entry s told (lawful before entry rest refl) once) in
        let both = count_append reply_key k (replies_at step cut requests s entry) (replies_by step cut requests after rest) in
        omega (arith, later, both)

  -- each request has one reply at most, where nothing waits at the opening
  pub one_reply_each : (opening : S) (journal : List Item) → IsFit opening → parked opening ≡ [] → EachEntry SettlesFirst journal → HaveOneReplyEach (replies_by step cut requests opening journal)
  unfolding given waiting count
  one_reply_each opening journal fit nothing lawful = λ key one other has_one has_other.
      let none : count parked_key key (parked opening) ≡ 0 = ap (count parked_key key) nothing in
      let few = once_from key journal [] opening 0 lawful (record { fit = fit; few = omega (arith, none); none = λ all. omega (arith, none) }) in
      one_counts key (replies_by step cut requests opening journal) one other (omega (arith, few)) has_one has_other
