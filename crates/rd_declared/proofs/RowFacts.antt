-- What is known of the values that rows of a script's words give.
use Rattle.std.proofs.Common.{◌≡◌, refl, ap, subst, arith, ℕ, ◌≤◌, Bool, true, false, cond, List, [], ◌∷◌, length, Option, Some, None, Result, Ok, Err}
use Rattle.std.specs.Prelude.{◌&&◌, nat_le}
use Rattle.std.specs.List.{AllByRecursion, list_all}
use Rattle.std.specs.Result.{result_ok}
use Rattle.std.proofs.lemmas.Bool.{and_parts, leb-true}
use Rattle.std.proofs.lemmas.Option.{same_Some}
use Rattle.hex.proofs.HexLemmas.{decode_of-ok}
use Rattle.hex.specs.Hex.{decode_of}
use Rattle.hex.specs.declared.error.FromHexError.{FromHexError}
use Rattle.rd_script.specs.declared.why.LineWhy.{LineWhy}
use Rattle.rd_script.specs.declared.why.LineWhy.TheVariants as why
use Rattle.rd_script.proofs.RowLemmas.{ok_same, then_ok}
use Rattle.rd_script.specs.Numbers.{number_of, number_word, small}
use Rattle.rd_script.specs.Row.{◌>>=◌, Row, done, given, last, met_words, test, word}
use Rattle.rd_script.specs.Texts.{few_bytes, few_units, hex_decoded, hex_of, hex_word, is_application_name, is_dash, is_lower, name_word, units_word}
use Rattle.rd_declared.specs.Declaring.{max_device_name}

-- each word has at most so many bytes
abbrev pub AreShort : ℕ → List (List ℕ) → Type 0
AreShort n ws = AllByRecursion (λ (w : List ℕ). length w ≤ n) ws

-- Of words of at most so many bytes a row gives such a value, and leaves such words.
pub record Gives {A : Type 0} (n : ℕ) (P : A → Type 0) (l : Row A) : Type 0 where
  pub each : (ws : List (List ℕ)) (a : A) (rest : List (List ℕ)) → AreShort n ws → met_words l ws ≡ Ok (a, rest) → P a × AreShort n rest

module _ (n : ℕ) where
  -- a pair that is met has what the pair that is there has
  same_pair : {A : Type 0} (P : A → Type 0) (x a : A) (ws rest : List (List ℕ)) → ◌≡◌ {A = Result (A × List (List ℕ)) LineWhy} (Ok (x, ws)) (Ok (a, rest)) → P x → AreShort n ws → P a × AreShort n rest
  same_pair {A = A} P x a ws rest e own short = subst (λ (y : A × List (List ℕ)). P y.0 × AreShort n y.1) (ok_same (x, ws) (a, rest) e) (own, short)

  pub gives_done : {A : Type 0} (P : A → Type 0) (x : A) → P x → Gives n P (done x)
  gives_done P x own = record { each = λ ws a rest short e. same_pair P x a ws rest e own short }

  word_each : (ws : List (List ℕ)) (w : List ℕ) (rest : List (List ℕ)) → AreShort n ws → met_words word ws ≡ Ok (w, rest) → (length w ≤ n) × AreShort n rest
  word_each [] w rest short e = absurd cc
  word_each (v ∷ vs) w rest short e = same_pair (λ (w : List ℕ). length w ≤ n) v w vs rest e short.0 short.1

  pub gives_word : Gives n (λ (w : List ℕ). length w ≤ n) word
  gives_word = record { each = word_each }

  last_each : (ws : List (List ℕ)) (u : Unit {0}) (rest : List (List ℕ)) → AreShort n ws → met_words last ws ≡ Ok (u, rest) → Unit {0} × AreShort n rest
  last_each [] u rest short e = same_pair (λ (u : Unit {0}). Unit {0}) tt u [] rest e tt tt
  last_each (v ∷ vs) u rest short e = absurd cc

  pub gives_last : Gives n (λ (u : Unit {0}). Unit {0}) last
  gives_last = record { each = last_each }

  test_each : (b : Bool) (cause : LineWhy) (ws : List (List ℕ)) (u : Unit {0}) (rest : List (List ℕ)) → AreShort n ws → met_words (test b cause) ws ≡ Ok (u, rest) → (b ≡ true) × AreShort n rest
  test_each true cause ws u rest short e = same_pair (λ (u : Unit {0}). ◌≡◌ {A = Bool} true true) tt u ws rest e refl short
  test_each false cause ws u rest short e = absurd cc

  pub gives_test : (b : Bool) (cause : LineWhy) → Gives n (λ (u : Unit {0}). b ≡ true) (test b cause)
  gives_test b cause = record { each = test_each b cause }

  given_each : {A : Type 0} (o : Option A) (cause : LineWhy) (ws : List (List ℕ)) (a : A) (rest : List (List ℕ)) → AreShort n ws → met_words (given o cause) ws ≡ Ok (a, rest) → (o ≡ Some a) × AreShort n rest
  given_each None cause ws a rest short e = absurd cc
  given_each (Some x) cause ws a rest short e = same_pair (λ a. Some x ≡ Some a) x a ws rest e refl short

  pub gives_given : {A : Type 0} (o : Option A) (cause : LineWhy) → Gives n (λ (a : A). o ≡ Some a) (given o cause)
  gives_given o cause = record { each = given_each o cause }

  pub gives_then : {A B : Type 0} (P : A → Type 0) (Q : B → Type 0) (l : Row A) (next : A → Row B) → Gives n P l → ((a : A) → P a → Gives n Q (next a)) → Gives n Q (l >>= next)
  gives_then P Q l next first second = record {
    each = λ ws b rest short e.
        let a = then_ok (met_words l ws) (λ x. met_words (next x.0) x.1) (b, rest) e in
        let known = first.each ws a.0.0 a.0.1 short a.1 in
        (second a.0.0 known.0).each a.0.1 b rest known.1 a.2;
  }

  pub gives_weaker : {A : Type 0} (P Q : A → Type 0) (l : Row A) → ((a : A) → P a → Q a) → Gives n P l → Gives n Q l
  gives_weaker P Q l weaker g = record { each = λ ws a rest short e. let known = g.each ws a rest short e in (weaker a known.0, known.1) }

  -- any row
  pub gives_any : {A : Type 0} (l : Row A) → Gives n (λ (a : A). Unit {0}) l
  gives_any (done x) = gives_done (λ a. Unit {0}) x tt
  gives_any word = gives_weaker _ _ word (λ w known. tt) gives_word
  gives_any last = gives_last
  gives_any (test b cause) = gives_weaker _ _ (test b cause) (λ u known. tt) (gives_test b cause)
  gives_any (given o cause) = gives_weaker _ _ (given o cause) (λ a known. tt) (gives_given o cause)
  gives_any (◌>>=◌ l next) = gives_then (λ a. Unit {0}) (λ b. Unit {0}) l next (gives_any l) (λ a known. gives_any (next a))

  -- one of which nothing has to be known, and then another
  pub gives_after : {A B : Type 0} (Q : B → Type 0) (l : Row A) (next : A → Row B) → ((a : A) → Gives n Q (next a)) → Gives n Q (l >>= next)
  gives_after Q l next second = gives_then (λ a. Unit {0}) Q l next (gives_any l) (λ a known. second a)

  -- ---- numbers
  pub gives_between : (least most : ℕ) → Gives n (λ (k : ℕ). (least ≤ k) × (k ≤ most)) (number_word least most)
  unfolding number_word
  gives_between least most =
      gives_after _ word _ (λ w. gives_after _ (given (small (number_of w)) why.Number) _ (λ k. gives_then _ _ (test (nat_le least k && nat_le k most) why.Number) _ (gives_test _ _)
      (λ u holds. let both = and_parts (nat_le least k) (nat_le k most) holds in gives_done _ k (leb-true least k both.0, leb-true k most both.1))))

  -- ---- names
  pub gives_name : Gives n (λ (w : List ℕ). length w ≤ max_device_name) name_word
  unfolding name_word
  gives_name = gives_after _ word _ (λ w. gives_then _ _ (test (is_application_name w) why.Name) _ (gives_test _ _)
      (λ u holds. gives_done _ w (leb-true (length w) 7 (and_parts _ _ (and_parts _ _ holds).0).1)))

  -- ---- texts
  pub gives_few : (cause : LineWhy) (most : ℕ) → Gives n (λ (units : List ℕ). length units ≤ most) (few_units cause most)
  unfolding few_units
  gives_few cause most =
      gives_after _ (units_word cause) _ (λ units. gives_then _ _ (test (nat_le (length units) most) why.Many) _ (gives_test _ _) (λ u few. gives_done _ units (leb-true (length units) most few)))

-- ---- bytes
decoded_ok : (r : Result (List ℕ) FromHexError) (bytes : List ℕ) → result_ok r ≡ Some bytes → r ≡ Ok bytes
decoded_ok (Ok x) bytes is = ap (λ (b : List ℕ). Ok b) (same_Some x bytes is)
decoded_ok (Err e) bytes is = absurd cc

decoded_short : (w bytes : List ℕ) → hex_decoded w ≡ Some bytes → length bytes ≤ length w
decoded_short [] bytes is = absurd cc
decoded_short (c ∷ cs) bytes is = by (list_all is_lower (c ∷ cs)) is
  where
    by : (b : Bool) → cond b (result_ok (decode_of (c ∷ cs))) None ≡ Some bytes → length bytes ≤ length (c ∷ cs)
    by true h = let ok = decode_of-ok (c ∷ cs) bytes (decoded_ok (decode_of (c ∷ cs)) bytes h) in omega (arith, ok.2)
    by false h = absurd cc

hex_short : (w bytes : List ℕ) → hex_of w ≡ Some bytes → length bytes ≤ length w
hex_short w bytes is = by (is_dash w) is
  where
    by : (b : Bool) → cond b (Some []) (hex_decoded w) ≡ Some bytes → length bytes ≤ length w
    by true h = let same = ap length (same_Some [] bytes h) in omega (arith, same)
    by false h = decoded_short w bytes h

module _ (n : ℕ) where
  pub gives_hex : Gives n (λ (bytes : List ℕ). length bytes ≤ n) hex_word
  unfolding hex_word
  gives_hex = gives_then n _ _ word _ (gives_word n) (λ w short. gives_weaker n _ _ (given (hex_of w) why.Hex) (λ bytes is. let fewer = hex_short w bytes is in omega (arith, fewer, short)) (gives_given n (hex_of w) why.Hex))

  pub gives_few_bytes : (most : ℕ) → Gives n (λ (bytes : List ℕ). length bytes ≤ most) (few_bytes most)
  unfolding few_bytes
  gives_few_bytes most =
      gives_after n _ hex_word _ (λ bytes. gives_then n _ _ (test (nat_le (length bytes) most) why.Many) _ (gives_test n _ _) (λ u few. gives_done n _ bytes (leb-true (length bytes) most few)))
