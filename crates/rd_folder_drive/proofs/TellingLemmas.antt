-- The names that a path has below a folder's: whether a change is watched by them, and how they are told.
use Rattle.std.proofs.Common.{◌≡◌, ◌∙◌, refl, sym, ap, ℕ, ◌+◌, ◌*◌, ◌==◌, ◌≤◌, Bool, true, false, not, ◌&&◌, ◌||◌, cond, List, [], ◌∷◌, ◌++◌, length, drop, Some, None, arith, append_assoc, length-append}
use Rattle.std.specs.Prelude.{flat_map, nat_eq, nat_le}
use Rattle.std.specs.Cmp.Lexicographic.{other_text, pointwise, same_text}
use Rattle.std.specs.Option.{option_map_or}
use Rattle.std.proofs.lemmas.Bool.{and_parts, eqb-true, eq-eqb, false_from_ne_true, leb-true}
use Rattle.std.proofs.Math.Bool.{and-false}
use Rattle.std.proofs.Math.ListN.{drop_of_length-le}
use Rattle.std.proofs.lemmas.List.{append-nil}
use Rattle.std.proofs.lemmas.Option.{same_Some}
use Rattle.rd_base.specs.Fields.{bytes32, text_bytes}
use Rattle.rd_base.proofs.WrittenPathLemmas.{length-units}
use Rattle.rd_dirinfo.specs.declared.naming.Naming.TheVariants.{Exact}
use Rattle.rd_dirinfo.specs.Naming.{Name}
use Rattle.rd_dirinfo.specs.Paths.{Names, is_below, is_prefix, backslash, is_within_limits, joined, most_names, most_path_units, path_len}
use Rattle.rd_drive.specs.Telling.{is_watched}
use Rattle.rd_drive.proofs.LengthLemmas.{below_length, joined_length}
use Rattle.rd_drive.proofs.LockLemmas.{alike}
use Rattle.rd_drive.proofs.NameBelowLemmas.{text_append}
use Rattle.rd_folder.proofs.ExactLemmas.{joined_prefix, prefix_exact}
use Rattle.rd_folder_drive.specs.Telling.{rest_below, told_bytes}

-- ---- name by name

-- nothing is below another name than its first
pub rest_other : (x y : Name) (p q : Names) → (x ≡ y → ⊥) → rest_below (x ∷ p) (y ∷ q) ≡ None
rest_other x y p q other = ap (λ b. cond b (Some (drop (length (x ∷ p)) (y ∷ q))) None) (false_from_ne_true (is_prefix Exact (x ∷ p) (y ∷ q)) apart)
  where
    apart : is_prefix Exact (x ∷ p) (y ∷ q) ≡ true → ⊥
    apart e = let split : y ∷ q ≡ x ∷ (p ++ drop (length (x ∷ p)) (y ∷ q)) = prefix_exact (x ∷ p) (y ∷ q) e in other (sym (cc))

prefix_step : (x : Name) (p q : Names) → is_prefix Exact (x ∷ p) (x ∷ q) ≡ is_prefix Exact p q
prefix_step x p q =
    alike (is_prefix Exact (x ∷ p) (x ∷ q)) (is_prefix Exact p q)
    (λ e. let split : x ∷ q ≡ x ∷ (p ++ drop (length p) q) = prefix_exact (x ∷ p) (x ∷ q) e in
    let rest : q ≡ p ++ drop (length p) q = cc in
    ap (is_prefix Exact p) rest ∙ joined_prefix p (drop (length p) q))
    (λ e. ap (λ (r : Names). is_prefix Exact (x ∷ p) (x ∷ r)) (prefix_exact p q e) ∙ joined_prefix (x ∷ p) (drop (length p) q))

pub rest_step : (x y : Name) (p q : Names) → x ≡ y → rest_below (x ∷ p) (y ∷ q) ≡ rest_below p q
rest_step x y p q same = ap (λ (z : Name). rest_below (x ∷ p) (z ∷ q)) (sym same) ∙ ap (λ b. cond b (Some (drop (length p) q)) None) (prefix_step x p q)

-- what the test of two names says
pub same_name : (x y : Name) (differ : Bool) → differ ≡ not (pointwise nat_eq x y) → differ ≡ false → x ≡ y
same_name x y differ is e = same_text x y (by (pointwise nat_eq x y) (sym is ∙ e))
  where
    by : (b : Bool) → not b ≡ false → true ≡ b
    by true h = refl
    by false h = absurd (cc)

pub other_name : (x y : Name) (differ : Bool) → differ ≡ not (pointwise nat_eq x y) → differ ≡ true → x ≡ y → ⊥
other_name x y differ is e = other_text x y (by (pointwise nat_eq x y) (sym is ∙ e))
  where
    by : (b : Bool) → not b ≡ true → false ≡ b
    by true h = absurd (cc)
    by false h = refl

-- ---- what is watched

-- what is below has names below the folder
pub rest_there : (folder path : Names) → is_below Exact folder path ≡ true → rest_below folder path ≡ Some (drop (length folder) path)
rest_there folder path below = ap (λ b. cond b (Some (drop (length folder) path)) None) (and_parts (is_prefix Exact folder path) (not (length folder == length path)) below).0

pub below_rest : (folder path rest : Names) → is_below Exact folder path ≡ true → Some rest ≡ rest_below folder path → rest ≡ drop (length folder) path
below_rest folder path rest below is = same_Some rest (drop (length folder) path) (is ∙ rest_there folder path below)

-- ---- how much is told

-- what is told of a path within the limits fits
pub rest_short : (folder path : Names) → is_within_limits path ≡ true → length (joined (drop (length folder) path)) ≤ 4096
rest_short folder path within =
    let limit : path_len path ≤ 4096 = leb-true (path_len path) 4096 (and_parts (nat_le (length path) most_names) (nat_le (path_len path) most_path_units) within).1 in
    let less : path_len (drop (length folder) path) ≤ path_len path = below_length (length folder) path in
    let same : length (joined (drop (length folder) path)) ≡ path_len (drop (length folder) path) = joined_length (drop (length folder) path) in
    omega (arith, limit, less, same)

-- the names as they are told: the first, and then the others, each after what stands between
abbrev pub with_gaps : Names → List ℕ
with_gaps names = flat_map (λ (other : Name). backslash ∷ other) names

pub told_first : (first : Name) (others : Names) (names : Names) (old new : List ℕ) → names ≡ first ∷ others → new ≡ old ++ text_bytes first → new ++ text_bytes (with_gaps others) ≡ old ++ text_bytes (joined names)
told_first first others names old new split put =
    ap (λ (l : List ℕ). l ++ text_bytes (with_gaps others)) put ∙ append_assoc old (text_bytes first) (text_bytes (with_gaps others))
    ∙ ap (λ (l : List ℕ). old ++ l) (sym (text_append first (with_gaps others))) ∙ ap (λ (ns : Names). old ++ text_bytes (joined ns)) (sym split)

pub told_last : (others : Names) (k : ℕ) (out : List ℕ) → length others ≤ k → out ++ text_bytes (with_gaps (drop k others)) ≡ out
told_last others k out past = ap (λ (ns : Names). out ++ text_bytes (with_gaps ns)) (drop_of_length-le others past) ∙ append-nil out

-- the whole, part by part
pub told_whole : (action : ℕ) (names : Names) (room a b c d : List ℕ) (count : ℕ) → room ≡ [] → a ≡ room ++ bytes32 0 → b ≡ a ++ bytes32 action → c ≡ b ++ bytes32 (2 * count) → d ≡ c ++ text_bytes (joined names)
    → count ≡ length (joined names) → d ≡ told_bytes action names
told_whole action names room a b c d count empty first second third last counted =
    let twice : 2 * count ≡ length (text_bytes (joined names)) = omega (arith, counted, length-units (joined names)) in
    last ∙ ap (λ (l : List ℕ). l ++ text_bytes (joined names)) (third ∙ ap (λ (l : List ℕ). l ++ bytes32 (2 * count)) (second ∙ ap (λ (l : List ℕ). l ++ bytes32 action) (first ∙ ap (λ (l : List ℕ). l ++ bytes32 0) empty)))
    ∙ ap (λ (n : ℕ). bytes32 0 ++ bytes32 action ++ bytes32 n ++ text_bytes (joined names)) twice
