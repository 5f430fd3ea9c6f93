-- The applications of lines at first: each has its number, which no other has, and asks for what its lines say.
use Rattle.std.proofs.Common.{◌≡◌, ◌≢◌, ◌∙◌, inl, inr, refl, sym, ap, subst, ℕ, zero, suc, ◌<◌, Bool, cond, List, [], ◌∷◌, ◌++◌, append_assoc, append-nil, map, fold, arith, Some, None, Option, eq-eqb, ne_eqb}
use Rattle.std.specs.Prelude.{filter_map, slice_get}
use Rattle.std.specs.declared.cmp.Ordering.TheVariants.{Less}
use Rattle.std.proofs.lemmas.Bool.Decides.{nat_tests}
use Rattle.std.specs.List.{AllByRecursion, cons_option}
use Rattle.std.specs.List.Sorted.{IsStrictlySortedBy}
use Rattle.std.specs.Map.{keys_of, lookup}
use Rattle.std.specs.Ordering.{nat_cmp}
use Rattle.std.specs.BTreeMap.{is_at}
use Rattle.std.specs.Option.{option_and_then, unwrap_or}
use Rattle.std.proofs.lemmas.Bool.{cases_eq}
use Rattle.rd_pending.proofs.MapLemmas.{apart, beside, inserted, itself, rises_with}
use Rattle.rd_script.specs.declared.line.NumberedLine.{NumberedLine}
use Rattle.rd_world.specs.Run.{applications_of, asked_by, asking}
use Rattle.rd_world.specs.World.{ApplicationState, Asked, new_application}
use Rattle.rd_host_session.specs.Hosted.{issuer_by, issuers_of}
use Rattle.rd_issuer.specs.declared.issuer.Issuer.{Issuer}
use Rattle.rd_host_lines.specs.Outcomes.{asks_under, line_under}
use Rattle.rd_host_lines.proofs.InPlayLemmas.{Differ, number_of}

-- ---- keys

pub below_apart : (k n : ℕ) → nat_cmp k n ≡ Less → k < n
below_apart k n is = grind (arith, nat_tests)

all_at : (P : ℕ → Type 0) (ks : List ℕ) (i n : ℕ) → slice_get ks i ≡ Some n → AllByRecursion P ks → P n
all_at P [] i n is all = absurd (cc is)
all_at P (k ∷ ks) zero n is all = let same : k ≡ n = cc is in subst P same all.0
all_at P (k ∷ ks) (suc i) n is all = all_at P ks i n is all.1

-- where keys rise, no two are the same
differ_rising : (ks : List ℕ) → IsStrictlySortedBy nat_cmp ks → Differ ks
unfolding IsStrictlySortedBy
differ_rising [] rise i j n one other = absurd (cc one)
differ_rising (k ∷ ks) rise zero zero n one other = refl
differ_rising (k ∷ ks) rise zero (suc j) n one other =
    let same : k ≡ n = cc one in
    let less : k < n = below_apart k n (all_at (λ (m : ℕ). nat_cmp k m ≡ Less) ks j n other rise.0) in
    absurd (omega arith)
differ_rising (k ∷ ks) rise (suc i) zero n one other =
    let same : k ≡ n = cc other in
    let less : k < n = below_apart k n (all_at (λ (m : ℕ). nat_cmp k m ≡ Less) ks i n one rise.0) in
    absurd (omega arith)
differ_rising (k ∷ ks) rise (suc i) (suc j) n one other = ap suc (differ_rising ks rise.1 i j n one other)

key_above : (P : ℕ → Type 0) (es : List (ℕ × ApplicationState)) (i : ℕ) (e : ℕ × ApplicationState) → slice_get es i ≡ Some e → AllByRecursion P (keys_of es) → P e.0
key_above P [] i e is all = absurd (cc is)
key_above P (x ∷ es) zero e is all = let same : x ≡ e = cc is in subst (λ (y : ℕ × ApplicationState). P y.0) same all.0
key_above P (x ∷ es) (suc i) e is all = key_above P es i e is all.1

-- where keys rise, a key finds what stands beside it
found : (es : List (ℕ × ApplicationState)) (i : ℕ) (e : ℕ × ApplicationState) → IsStrictlySortedBy nat_cmp (keys_of es) → slice_get es i ≡ Some e → lookup (is_at (nat_cmp e.0)) es ≡ Some e.1
unfolding IsStrictlySortedBy
found [] i e rise is = absurd (cc is)
found (x ∷ es) zero e rise is =
    let same : x ≡ e = cc is in
    subst (λ (y : ℕ × ApplicationState). lookup (is_at (nat_cmp y.0)) (x ∷ es) ≡ Some y.1) same (rw (itself x.0) refl)
found (x ∷ es) (suc i) e rise is =
    let less : x.0 < e.0 = below_apart x.0 e.0 (key_above (λ (k : ℕ). nat_cmp x.0 k ≡ Less) es i e is rise.0) in
    rw (apart e.0 x.0 (λ (same : e.0 ≡ x.0). omega arith)) (found es i e rise.1 is)

-- ---- what they ask for

abbrev asks_in : List (ℕ × ApplicationState) → ℕ → ApplicationState
asks_in es a = unwrap_or (lookup (is_at (nat_cmp a)) es) new_application

abbrev asked_more : ApplicationState → Asked → ApplicationState
asked_more x asked = record x { asks = x.asks ++ asked ∷ [] }

asks_own : (es : List (ℕ × ApplicationState)) (p : ℕ × Asked) → asks_in (asking es p) p.0 ≡ asked_more (asks_in es p.0) p.1
asks_own es p = ap (λ (o : Option ApplicationState). unwrap_or o new_application) (inserted p.0 (asked_more (asks_in es p.0) p.1) es)

asks_other : (es : List (ℕ × ApplicationState)) (p : ℕ × Asked) (a : ℕ) → a ≢ p.0 → asks_in (asking es p) a ≡ asks_in es a
asks_other es p a other = ap (λ (o : Option ApplicationState). unwrap_or o new_application) (beside p.0 (asked_more (asks_in es p.0) p.1) a other es)

abbrev of_pairs : ℕ → List (ℕ × Asked) → List Asked
of_pairs a pairs = filter_map (line_under a) pairs

of_own : (a : ℕ) (p : ℕ × Asked) (pairs : List (ℕ × Asked)) → p.0 ≡ a → of_pairs a (p ∷ pairs) ≡ p.1 ∷ of_pairs a pairs
of_own a p pairs same = ap (λ (b : Bool). cons_option (cond b (Some p.1) None) (of_pairs a pairs)) (eq-eqb p.0 a same)

of_other : (a : ℕ) (p : ℕ × Asked) (pairs : List (ℕ × Asked)) → p.0 ≢ a → of_pairs a (p ∷ pairs) ≡ of_pairs a pairs
of_other a p pairs other = ap (λ (b : Bool). cons_option (cond b (Some p.1) None) (of_pairs a pairs)) (ne_eqb p.0 a other)

-- an application of which nothing is set but what it asks for
abbrev pub asking_for : List Asked → ApplicationState
asking_for asks = record new_application { asks = asks }

all_asks : (a : ℕ) (pairs : List (ℕ × Asked)) (es : List (ℕ × ApplicationState)) (before : List Asked) → asks_in es a ≡ asking_for before → asks_in (fold asking es pairs) a ≡ asking_for (before ++ of_pairs a pairs)
all_asks a [] es before is = is ∙ ap asking_for (sym (append-nil before))
all_asks a (p ∷ pairs) es before is = elim (cases_eq a p.0) [
  | inl same ↦
      let own : asks_in (asking es p) a ≡ asking_for (before ++ p.1 ∷ []) =
      ap (asks_in (asking es p)) same ∙ (asks_own es p ∙ ap (λ (x : ApplicationState). asked_more x p.1) (ap (asks_in es) (sym same) ∙ is)) in
      all_asks a pairs (asking es p) (before ++ p.1 ∷ []) own
      ∙ ap asking_for (append_assoc before (p.1 ∷ []) (of_pairs a pairs) ∙ ap (λ (l : List Asked). before ++ l) (sym (of_own a p pairs (sym same))))
  | inr other ↦
      all_asks a pairs (asking es p) before (asks_other es p a other ∙ is) ∙ ap (λ (l : List Asked). asking_for (before ++ l)) (sym (of_other a p pairs (λ (same : p.0 ≡ a). other (sym same))))
]

all_rise : (pairs : List (ℕ × Asked)) (es : List (ℕ × ApplicationState)) → IsStrictlySortedBy nat_cmp (keys_of es) → IsStrictlySortedBy nat_cmp (keys_of (fold asking es pairs))
all_rise [] es rise = rise
all_rise (p ∷ pairs) es rise = all_rise pairs (asking es p) (rises_with p.0 (asked_more (asks_in es p.0) p.1) es rise)

none_rise : IsStrictlySortedBy nat_cmp []
unfolding IsStrictlySortedBy
none_rise = tt

lines_asked : (a : ℕ) (lines : List NumberedLine) → of_pairs a (filter_map asked_by (map (λ (l : NumberedLine). l.line) lines)) ≡ asks_under a lines
lines_asked a [] = refl
lines_asked a (l ∷ lines) = by (asked_by l.line) (lines_asked a lines)
  where
    pairs : List (ℕ × Asked)
    pairs = filter_map asked_by (map (λ (l : NumberedLine). l.line) lines)

    by : (o : Option (ℕ × Asked)) → of_pairs a pairs ≡ asks_under a lines → of_pairs a (cons_option o pairs) ≡ cons_option (option_and_then (line_under a) o) (asks_under a lines)
    by None later = later
    by (Some p) later = ap (cons_option (line_under a p)) later

-- ---- the applications

numbers_keys : (es : List (ℕ × ApplicationState)) → map number_of (map issuer_by es) ≡ keys_of es
numbers_keys [] = refl
numbers_keys (e ∷ es) = ap (λ (l : List ℕ). e.0 ∷ l) (numbers_keys es)

abbrev some_entry : Issuer → Option (ℕ × ApplicationState)
some_entry i = Some (i.number, i.application)

got_entry : (es : List (ℕ × ApplicationState)) (place : ℕ) (i : Issuer) → slice_get (map issuer_by es) place ≡ Some i → slice_get es place ≡ Some (i.number, i.application)
got_entry [] place i is = absurd (cc is)
got_entry (e ∷ es) zero i is = let same : issuer_by e ≡ i = cc is in ap some_entry same
got_entry (e ∷ es) (suc place) i is = got_entry es place i is

pub numbers_rise : (lines : List NumberedLine) → IsStrictlySortedBy nat_cmp (map number_of (issuers_of lines))
numbers_rise lines =
    let ls = map (λ (l : NumberedLine). l.line) lines in
    subst (IsStrictlySortedBy nat_cmp) (sym (numbers_keys (applications_of ls))) (all_rise (filter_map asked_by ls) [] none_rise)

pub numbers_differ : (lines : List NumberedLine) → Differ (map number_of (issuers_of lines))
numbers_differ lines = differ_rising (map number_of (issuers_of lines)) (numbers_rise lines)

pub begins_so : (lines : List NumberedLine) (place : ℕ) (i : Issuer) → slice_get (issuers_of lines) place ≡ Some i → i.application ≡ asking_for (asks_under i.number lines)
begins_so lines place i is =
    let ls = map (λ (l : NumberedLine). l.line) lines in
    let es = applications_of ls in
    let got = found es place (i.number, i.application) (all_rise (filter_map asked_by ls) [] none_rise) (got_entry es place i is) in
    sym (ap (λ (o : Option ApplicationState). unwrap_or o new_application) got) ∙ (all_asks i.number (filter_map asked_by ls) [] [] refl ∙ ap asking_for (lines_asked i.number lines))
