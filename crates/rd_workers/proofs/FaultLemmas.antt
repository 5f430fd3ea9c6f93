-- Counts of faults, as channels are settled one after the other.
use Rattle.std.proofs.Common.{◌≡◌, ◌∙◌, ◌<◌, ◌+◌, ◌||◌, ℕ, zero, suc, arith, ap, sym, refl, subst, Bool, true, false, Some, inl}
use Rattle.std.specs.Prelude.{IsTrue, ◌↔◌}
use Rattle.std.proofs.lemmas.Grind.{common_steps}
use Rattle.rd_link.specs.Links.{more_faults}
use Rattle.rd_carry.specs.declared.ended.Ended.{Ended}
use Rattle.rd_carry.specs.declared.ended.Ended.TheVariants as ended
use Rattle.rd_workers.specs.Faults.{Counts, EndsSession, HasRisen, TellsFaults, faults_by, is_unread}
use Rattle.rd_workers.specs.declared.reader.Ending.{Ending}
use Rattle.rd_workers.specs.declared.reader.Ending.TheVariants as ending

-- some faults more: the count rose, or stands at its last value
pub risen : (old more : ℕ) → 0 < more → HasRisen old (more_faults old more)
risen old zero some = absurd (omega (arith, some))
risen old (suc n) some = grind (arith, common_steps)

-- more and then more
pub more_and_more : (old first second : ℕ) → more_faults (more_faults old first) second ≡ more_faults old (first + second)
more_and_more old zero second =
    let none : second ≡ 0 + second = omega arith in ap (more_faults old) none
more_and_more old (suc n) zero = grind (arith, common_steps)
more_and_more old (suc n) (suc m) = grind (arith, common_steps)

-- none, where some would be a fault
none_more : (n : ℕ) → (0 < n → IsTrue false) → n ≡ 0
none_more zero is = refl
none_more (suc n) is = absurd (cc (is (omega arith)))

pub counts_none : (x : ℕ) → Counts false x x
counts_none x = record { more = 0; counted = refl; some = (λ is. absurd (cc is), λ is. absurd (omega (arith, is))) }

-- one session after the other
pub counts_join : (a b : Bool) (x y z : ℕ) → Counts a x y → Counts b y z → Counts (a || b) x z
counts_join true b x y z one two = record {
  more = one.more + two.more;
  counted = two.counted ∙ ap (λ (n : ℕ). more_faults n two.more) one.counted ∙ more_and_more x one.more two.more;
  some = (λ is. (let p = one.some.0 refl in omega (arith, p)), λ is. refl);
}
counts_join false b x y z one two = record {
  more = one.more + two.more;
  counted = two.counted ∙ ap (λ (n : ℕ). more_faults n two.more) one.counted ∙ more_and_more x one.more two.more;
  some = (λ is. (let p = two.some.0 is in omega (arith, p)), λ is. two.some.1 (let p = none_more one.more one.some.1 in omega (arith, p, is)));
}

-- where channels had a fault, or had none
pub troubled_risen : (x y : ℕ) → Counts true x y → HasRisen x y
troubled_risen x y counts = subst (HasRisen x) (sym counts.counted) (risen x counts.more (counts.some.0 refl))

pub untroubled_same : (x y : ℕ) → Counts false x y → y ≡ x
untroubled_same x y counts = counts.counted ∙ ap (more_faults x) (none_more counts.more counts.some.1)

-- what ends a session before its last channel, after channels of which each was connected
pub tells_end : (e : Ended) (before between after trouble_before trouble : ℕ) → between ≡ before → EndsSession e between after → TellsFaults e before after trouble_before trouble
tells_end ended.Over before between after trouble_before trouble same ends = absurd ends
tells_end (ended.Channel channel at message why) before between after trouble_before trouble same ends = tt
tells_end ended.Link before between after trouble_before trouble same ends = inl (subst (λ (n : ℕ). HasRisen n after) same ends)
tells_end ended.Memory before between after trouble_before trouble same ends = tt
tells_end ended.Long before between after trouble_before trouble same ends = tt

-- ---- one channel

unread_some : (by : Ending) → IsTrue (is_unread by) ↔ (0 < faults_by (Some by) 0)
unread_some ending.Unread = (λ _. grind (arith, common_steps), λ _. refl)
unread_some ending.Input = (λ is. absurd (cc is), λ is. absurd (omega (arith, is)))
unread_some ending.Dropped = (λ is. absurd (cc is), λ is. absurd (omega (arith, is)))
unread_some ending.Unwritten = (λ is. absurd (cc is), λ is. absurd (omega (arith, is)))
unread_some (ending.Fault at message why) = (λ is. absurd (cc is), λ is. absurd (omega (arith, is)))
unread_some ending.Long = (λ is. absurd (cc is), λ is. absurd (omega (arith, is)))
unread_some ending.Memory = (λ is. absurd (cc is), λ is. absurd (omega (arith, is)))

some_more : (n m : ℕ) → 0 < m → 0 < more_faults n m
some_more n zero some = absurd (omega (arith, some))
some_more n (suc m) some = grind (arith, common_steps)

-- A channel counts a fault where a write failed or a read.
pub counts_by : (by : Ending) (failed result : Bool) (n m x z : ℕ) → IsTrue failed ↔ (0 < m) → n ≡ faults_by (Some by) 0 → z ≡ more_faults x (more_faults n m) → result ≡ failed || is_unread by → Counts result x z
counts_by by failed result n m x z failed_is n_is z_is result_is = record { more = more_faults n m; counted = z_is; some = subst (λ (b : Bool). IsTrue b ↔ (0 < more_faults n m)) (sym result_is) (which failed failed_is) }
  where
    which : (f : Bool) → IsTrue f ↔ (0 < m) → IsTrue (f || is_unread by) ↔ (0 < more_faults n m)
    which true is = (λ _. some_more n m (is.0 refl), λ _. refl)
    which false is =
        let none : m ≡ 0 = none_more m is.1 in
        let same : more_faults n m ≡ faults_by (Some by) 0 = ap (more_faults n) none ∙ n_is in
        (λ unread. subst (λ (k : ℕ). 0 < k) (sym same) ((unread_some by).0 unread), λ some. (unread_some by).1 (subst (λ (k : ℕ). 0 < k) same some))
