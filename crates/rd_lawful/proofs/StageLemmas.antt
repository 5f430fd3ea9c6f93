-- How far requests got, with one more request or another stage.
use Rattle.std.proofs.Common.{◌≡◌, ◌∙◌, refl, sym, ap, ap₂, subst, ◌||◌, Bool, true, false, cond, List, [], ◌∷◌, ◌++◌, length, arith}
use Rattle.std.specs.Prelude.{Option, Some, None}
use Rattle.std.specs.List.{AllByRecursion}
use Rattle.rd_base.specs.declared.journal.Key.{Key}
use Rattle.rd_lawful.specs.declared.known.Known.{Known}
use Rattle.rd_lawful.specs.declared.known.Stage.{Stage}
use Rattle.rd_lawful.specs.declared.known.Stage.TheVariants as stage
use Rattle.rd_lawful.specs.Rules.{key_below, key_is}
use Rattle.rd_lawful.specs.Memory.{IsRisingByKey, known_key, stage_in, stage_settled, stage_waits, with_stage}
use Rattle.rd_lawful.proofs.TestLemmas.{key_is-decides}

-- ---- one more

pub all_more : (P : Known → Type 0) (ks : List Known) (k : Known) → AllByRecursion P ks → P k → AllByRecursion P (ks ++ k ∷ [])
all_more P [] k all one = (one, tt)
all_more P (l ∷ ks) k all one = (all.0, all_more P ks k all.1 one)

pub rising_more : (ks : List Known) (k : Known) → IsRisingByKey ks → AllByRecursion (λ (l : Known). key_below (known_key l) (known_key k) ≡ true) ks → IsRisingByKey (ks ++ k ∷ [])
rising_more [] k rising below = (tt, tt)
rising_more (l ∷ ks) k rising below = (all_more (λ (m : Known). key_below (known_key l) (known_key m) ≡ true) ks k rising.0 below.0, rising_more ks k rising.1 below.1)

-- the first, or else the second
abbrev pub or_else : Option Stage → Option Stage → Option Stage
or_else (Some s) o = Some s
or_else None o = o

pub stage_more : (ks : List Known) (k : Known) (q : Key) → stage_in (ks ++ k ∷ []) q ≡ or_else (stage_in ks q) (cond (key_is (known_key k) q) (Some k.stage) None)
stage_more [] k q = refl
stage_more (l ∷ ks) k q = ap (λ (o : Option Stage). cond (key_is (known_key l) q) (Some l.stage) o) (stage_more ks k q) ∙ by (key_is (known_key l) q)
  where
    by : (b : Bool) → cond b (Some l.stage) (or_else (stage_in ks q) (cond (key_is (known_key k) q) (Some k.stage) None)) ≡ or_else (cond b (Some l.stage) (stage_in ks q)) (cond (key_is (known_key k) q) (Some k.stage) None)
    by true = refl
    by false = refl

-- ---- another stage

abbrev staged : Bool → Stage → Known → Known
staged b s k = cond b (record k { stage = s }) k

same_key : (b : Bool) (s : Stage) (k : Known) → known_key (staged b s k) ≡ known_key k
same_key true s k = refl
same_key false s k = refl

pub all_staged : (P : Key → Type 0) (key : Key) (s : Stage) (ks : List Known) → AllByRecursion (λ (k : Known). P (known_key k)) ks → AllByRecursion (λ (k : Known). P (known_key k)) (with_stage key s ks)
all_staged P key s [] all = tt
all_staged P key s (k ∷ ks) all = (subst P (sym (same_key (key_is (known_key k) key) s k)) all.0, all_staged P key s ks all.1)

pub rising_staged : (key : Key) (s : Stage) (ks : List Known) → IsRisingByKey ks → IsRisingByKey (with_stage key s ks)
rising_staged key s [] rising = tt
rising_staged key s (k ∷ ks) rising = (
  subst (λ (l : Key). AllByRecursion (λ (m : Known). key_below l (known_key m) ≡ true) (with_stage key s ks)) (sym (same_key (key_is (known_key k) key) s k))
      (all_staged (λ (l : Key). key_below (known_key k) l ≡ true) key s ks rising.0),
  rising_staged key s ks rising.1,
)

pub length_staged : (key : Key) (s : Stage) (ks : List Known) → length (with_stage key s ks) ≡ length ks
length_staged key s [] = refl
length_staged key s (k ∷ ks) = let later = length_staged key s ks in omega (arith, later)

-- another key's stage stays
pub stage_other : (key : Key) (s : Stage) (q : Key) → key_is key q ≡ false → (ks : List Known) → stage_in (with_stage key s ks) q ≡ stage_in ks q
stage_other key s q other [] = refl
stage_other key s q other (k ∷ ks) =
    ap₂ (λ (b : Bool) (o : Option Stage). cond b (Some (staged (key_is (known_key k) key) s k).stage) o) (ap (λ (l : Key). key_is l q) (same_key (key_is (known_key k) key) s k)) (stage_other key s q other ks)
    ∙ by (key_is (known_key k) q) refl (key_is (known_key k) key) refl
  where
    by : (b : Bool) → key_is (known_key k) q ≡ b → (a : Bool) → key_is (known_key k) key ≡ a → cond b (Some (staged a s k).stage) (stage_in ks q) ≡ cond b (Some k.stage) (stage_in ks q)
    by true is true same =
        let keys : known_key k ≡ key = (key_is-decides (known_key k) key).0 same in
        absurd (cc (ap (λ (l : Key). key_is l q) keys, is, other))
    by true is false same = refl
    by false is a same = refl

-- its own is the new one
pub stage_own : (key : Key) (s t : Stage) (ks : List Known) → stage_in ks key ≡ Some t → stage_in (with_stage key s ks) key ≡ Some s
stage_own key s t [] e = absurd (cc)
stage_own key s t (k ∷ ks) e = by (key_is (known_key k) key) refl e (stage_own key s t ks)
  where
    by : (b : Bool) → key_is (known_key k) key ≡ b → cond b (Some k.stage) (stage_in ks key) ≡ Some t → (stage_in ks key ≡ Some t → stage_in (with_stage key s ks) key ≡ Some s)
        → cond (key_is (known_key (staged b s k)) key) (Some (staged b s k).stage) (stage_in (with_stage key s ks) key) ≡ Some s
    by true is e later = ap (λ c. cond c (Some s) (stage_in (with_stage key s ks) key)) is
    by false is e later = ap (λ c. cond c (Some k.stage) (stage_in (with_stage key s ks) key)) is ∙ later e

-- ---- what a stage tells

-- the stage by what is said of the request: that its completion was sent, that it was settled, that it came
abbrev pub stage_by : Bool → Bool → Bool → Option Stage
stage_by sent settled came = cond sent (Some stage.Sent) (cond settled (Some stage.Settled) (cond came (Some stage.Waits) None))

pub stage_waits-is : (o : Option Stage) → stage_waits o ≡ true → o ≡ Some stage.Waits
stage_waits-is (Some stage.Waits) e = refl
stage_waits-is (Some stage.Settled) e = absurd (cc)
stage_waits-is (Some stage.Sent) e = absurd (cc)
stage_waits-is None e = absurd (cc)

pub stage_settled-is : (o : Option Stage) → stage_settled o ≡ true → o ≡ Some stage.Settled
stage_settled-is (Some stage.Settled) e = refl
stage_settled-is (Some stage.Waits) e = absurd (cc)
stage_settled-is (Some stage.Sent) e = absurd (cc)
stage_settled-is None e = absurd (cc)

pub waits_tells : (sent settled came : Bool) → stage_by sent settled came ≡ Some stage.Waits → (sent ≡ false) × (settled ≡ false) × (came ≡ true)
waits_tells true settled came e = let is : stage.Sent ≡ stage.Waits = cc in absurd (cc)
waits_tells false true came e = let is : stage.Settled ≡ stage.Waits = cc in absurd (cc)
waits_tells false false true e = (refl, refl, refl)
waits_tells false false false e = absurd (cc)

pub settled_tells : (sent settled came : Bool) → stage_by sent settled came ≡ Some stage.Settled → (sent ≡ false) × (settled ≡ true)
settled_tells true settled came e = let is : stage.Sent ≡ stage.Settled = cc in absurd (cc)
settled_tells false true came e = (refl, refl)
settled_tells false false true e = let is : stage.Waits ≡ stage.Settled = cc in absurd (cc)
settled_tells false false false e = absurd (cc)

-- a request that comes
pub came_by : (sent settled came here : Bool) → or_else (stage_by sent settled came) (cond here (Some stage.Waits) None) ≡ stage_by sent settled (came || here)
came_by true settled came here = refl
came_by false true came here = refl
came_by false false true here = refl
came_by false false false here = refl
