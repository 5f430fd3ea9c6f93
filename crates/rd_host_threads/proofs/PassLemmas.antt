-- What calls of a front, splits and joins make of its pass 0: its own calls go on, and those of each pass that was joined stay.
use Rattle.std.proofs.Common.{◌≡◌, ◌≢◌, ◌∙◌, ◌+◌, ℕ, suc, List, [], ◌∷◌, ◌++◌, length, Contains, ap, sym, subst, refl, append_assoc, append-nil, arith}
use Rattle.std.specs.List.{AllByRecursion}
use Rattle.rd_host_channel.specs.Calls.{HostEntry, HostPass, MakesCalls}
use Rattle.rd_host_front.specs.declared.calls.HostFrontCall.{HostFrontCall}
use Rattle.rd_host_front.specs.declared.calls.HostFrontReply.{HostFrontReply}
use Rattle.rd_host_player.specs.Play.{CallsFront, JoinsFront}
use Rattle.rd_turn.specs.History.{calls_of, entry}
use Rattle.rd_turn.specs.Pass.{after_split}
use Rattle.rd_turn.proofs.HistoryLemmas.{Called-joined, Called-own, GoesOn-joined, GoesOn-own}
use Rattle.rd_host_threads.specs.Calls.{AreHostsCalls, IsHostsCall, IsMadeBy}

module _ {A : Type 0} where
  pub all_more : (P : A → Type 0) (xs ys : List A) → AllByRecursion P xs → AllByRecursion P ys → AllByRecursion P (xs ++ ys)
  all_more P [] ys all more = more
  all_more P (x ∷ xs) ys all more = (all.0, all_more P xs ys all.1 more)

  pub all_map : (P Q : A → Type 0) (xs : List A) → ((x : A) → P x → Q x) → AllByRecursion P xs → AllByRecursion Q xs
  all_map P Q [] f all = tt
  all_map P Q (x ∷ xs) f all = (f x all.0, all_map P Q xs f all.1)

  pub contains_first : (xs ys : List A) (x : A) → xs ≡ x ∷ ys → Contains xs x
  contains_first xs ys x is = let first : Contains (x ∷ ys) x = (0, omega arith, refl) in subst (λ (l : List A). Contains l x) (sym is) first

  pub contains_later : (xs ys : List A) (y x : A) → xs ≡ y ∷ ys → Contains ys x → Contains xs x
  contains_later xs ys y x is has =
      let less = has.1 in
      let later : Contains (y ∷ ys) x = (suc has.0, omega arith, has.2) in
      subst (λ (l : List A). Contains l x) (sym is) later

module _ {F W : Type 0} where
  -- From one value of pass 0 to another: so many passes more were split from it, these calls are its own that came, each one that a host makes, and each pass that was joined before has the calls that it had.
  pub record GoesBy (more : ℕ) (own : List (HostEntry W)) (p q : HostPass F W) : Type 0 where
    pub number : q.number ≡ 0
    pub made : q.made ≡ p.made + more
    pub are : calls_of 0 q.seen ≡ calls_of 0 p.seen ++ own
    pub hosts : AreHostsCalls own
    pub kept : (k count : ℕ) → k ≢ 0 → Contains p.joined (k, count) → Contains q.joined (k, count) × (calls_of k q.seen ≡ calls_of k p.seen)

  pub goes_none : (p : HostPass F W) → p.number ≡ 0 → GoesBy 0 [] p p
  goes_none p first = record {
    number = first;
    made = omega arith;
    are = sym (append-nil (calls_of 0 p.seen));
    hosts = tt;
    kept = λ k count other has. (has, refl);
  }

  pub goes_then : (m n : ℕ) (xs ys : List (HostEntry W)) (p q r : HostPass F W) → GoesBy m xs p q → GoesBy n ys q r → GoesBy (m + n) (xs ++ ys) p r
  goes_then m n xs ys p q r one two = record {
    number = two.number;
    made = let a = one.made in let b = two.made in omega arith;
    are = two.are ∙ ap (λ (l : List (HostEntry W)). l ++ ys) one.are ∙ append_assoc (calls_of 0 p.seen) xs ys;
    hosts = all_more IsHostsCall xs ys one.hosts two.hosts;
    kept = λ k count other has.
        let a = one.kept k count other has in
        let b = two.kept k count other a.0 in
        (b.0, b.1 ∙ a.1);
  }

  -- the same, where the first and the last pass are given otherwise
  pub goes_from : (m : ℕ) (own : List (HostEntry W)) (p p' q q' : HostPass F W) → p ≡ p' → q ≡ q' → GoesBy m own p q → GoesBy m own p' q'
  goes_from m own p p' q q' first last goes = subst (λ (x : HostPass F W). GoesBy m own p' x) last (subst (λ (x : HostPass F W). GoesBy m own x q) first goes)

  pub goes_call : (p q : HostPass F W) (does : HostFrontCall W) (back : HostFrontReply W) → p.number ≡ 0 → CallsFront does back p q → IsMadeBy 0 does back → GoesBy 0 (entry 0 does back ∷ []) p q
  goes_call p q does back first calls is = record {
    number = (calls.0).0 ∙ first;
    made = let same = (calls.0).1 in omega arith;
    are = subst (λ (n : ℕ). calls_of n q.seen ≡ calls_of n p.seen ++ entry n does back ∷ []) first (Called-own p q does back calls.1);
    hosts = (is, tt);
    kept = λ k count other has. (subst (λ (l : List (ℕ × ℕ)). Contains l (k, count)) (sym (calls.0).3) has, Called-joined p q does back k count first other has calls.1);
  }

  pub goes_split : (p : HostPass F W) → p.number ≡ 0 → GoesBy 2 [] p (after_split (after_split p))
  goes_split p first = record {
    number = first;
    made = omega arith;
    are = sym (append-nil (calls_of 0 p.seen));
    hosts = tt;
    kept = λ k count other has. (has, refl);
  }

  pub goes_join : (p other q : HostPass F W) → p.number ≡ 0 → JoinsFront p other q → GoesBy 0 [] p q
  goes_join p other q first joins = record {
    number = joins.number;
    made = let same = joins.made in omega arith;
    are = subst (λ (n : ℕ). calls_of n q.seen ≡ calls_of n p.seen) first (GoesOn-own p q joins.goes_on) ∙ sym (append-nil (calls_of 0 p.seen));
    hosts = tt;
    kept = λ k count later has. (contains_later q.joined p.joined (other.number, length (calls_of other.number other.seen)) (k, count) joins.joined has, GoesOn-joined p q k count first has joins.goes_on);
  }

  -- A pass of this number was joined, which had made these calls.
  pub record HasJoined (p : HostPass F W) (number : ℕ) (calls : List (HostEntry W)) : Type 0 where
    pub count : ℕ
    pub joined : Contains p.joined (number, count)
    pub are : calls_of number p.seen ≡ calls

  pub joined_stays : (m : ℕ) (own : List (HostEntry W)) (p q : HostPass F W) (number : ℕ) (calls : List (HostEntry W)) → number ≢ 0 → GoesBy m own p q → HasJoined p number calls → HasJoined q number calls
  joined_stays m own p q number calls later goes has =
      let kept = goes.kept number has.count later has.joined in
      record { count = has.count; joined = kept.0; are = kept.1 ∙ has.are }

  -- A new pass made calls, and was joined.
  pub comes_home : (split other p q : HostPass F W) (calls : List (HostEntry W)) → calls_of split.number split.seen ≡ [] → MakesCalls calls split other → JoinsFront p other q → HasJoined q split.number calls
  comes_home split other p q calls fresh made joins =
      let same : other.number ≡ split.number = (made.same).0 in
      let n = length (calls_of other.number other.seen) in
      record {
        count = n;
        joined = subst (λ (k : ℕ). Contains q.joined (k, n)) same (contains_first q.joined p.joined (other.number, n) joins.joined);
        are = subst (λ (k : ℕ). calls_of k q.seen ≡ calls_of k other.seen) same joins.other_calls ∙ made.own ∙ ap (λ (l : List (HostEntry W)). l ++ calls) fresh;
      }
