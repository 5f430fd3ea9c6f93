-- Where the lines of applications stand in a script, and the applications that they make.
use Rattle.std.proofs.Common.{◌≡◌, ◌∙◌, refl, sym, ap, subst, ℕ, zero, suc, ◌+◌, ◌<◌, ◌≤◌, ◌⊎◌, inl, inr, Bool, true, false, ◌==◌, cond, append-nil, append_assoc, List, [], ◌∷◌, ◌++◌, length, length-append, get_or, slice_get, take, Some, None, Option, Vec, arith}
use Rattle.std.specs.Prelude.{filter_map, fold, is_some, map, IfSome, IsSome}
use Rattle.std.specs.List.{AllByRecursion, cons_option}
use Rattle.std.specs.List.Sorted.{IsStrictlySortedBy}
use Rattle.std.specs.Map.{keys_of, lookup}
use Rattle.std.specs.Option.{option_map, unwrap_or}
use Rattle.std.specs.Ordering.{nat_cmp, match_ordering}
use Rattle.std.specs.declared.cmp.Ordering.{Ordering}
use Rattle.std.specs.declared.cmp.Ordering.TheVariants.{Less, Equal, Greater}
use Rattle.std.specs.BTreeMap.{insert_entry, is_at}
use Rattle.std.proofs.lemmas.Bool.Decides.{nat_tests}
use Rattle.std.proofs.lemmas.List.{map-append, take_more}
use Rattle.std.proofs.Math.Seq.{take-length}
use Rattle.std.proofs.lemmas.Nat.Bits.{bit_at-zero}
use Rattle.std.proofs.lemmas.List.Elements.{filter_map-append}
use Rattle.std.proofs.lemmas.List.Sums.{fold-append}
use Rattle.std.proofs.lemmas.Option.{slice_get-get_or}
use Rattle.rd_script.specs.declared.line.Line.{Line}
use Rattle.rd_script.specs.declared.line.NumberedLine.{NumberedLine}
use Rattle.rd_world.specs.Applications.{AreAsking, ArePlaced, AreNumbered, FindsPlace, IsNumber, KeepsApplications, application_in, asked_at, asked_lines, nothing_asked, places_in, standing_at}
use Rattle.rd_script.specs.Script.{max_lines}
use Rattle.rd_world.specs.Bits.{has}
use Rattle.rd_world.specs.Events.{may_issue}
use Rattle.rd_world.specs.Run.{applications_of, asked_by, asking}
use Rattle.rd_world.specs.World.{ApplicationState, Asked, new_application}

-- ---- an entry more

turned : (k l : ℕ) → nat_cmp l k ≡ Less → nat_cmp k l ≡ Greater
turned k l e = grind (arith, nat_tests)

module _ {X : Type 0} where
  -- what holds of any key with a value holds of the entries with it
  all_insert : (P : ℕ × X → Type 0) (es : List (ℕ × X)) (a : ℕ) (v : X) → ((k : ℕ) → P (k, v)) → AllByRecursion P es → AllByRecursion P (insert_entry nat_cmp es a v)
  all_insert P [] a v p all = (p a, tt)
  all_insert P (e ∷ es) a v p all =
      elim (nat_cmp a e.0) as (λ (r : Ordering). AllByRecursion P (match_ordering r ((a, v) ∷ e ∷ es) ((e.0, v) ∷ es) (e ∷ insert_entry nat_cmp es a v))) [
        | Less ↦ (p a, all)
        | Equal ↦ (p e.0, all.1)
        | Greater ↦ (all.0, all_insert P es a v p all.1)
      ]

  all_weaken : (P Q : ℕ × X → Type 0) (es : List (ℕ × X)) → ((e : ℕ × X) → P e → Q e) → AllByRecursion P es → AllByRecursion Q es
  all_weaken P Q [] f all = tt
  all_weaken P Q (e ∷ es) f all = (f e all.0, all_weaken P Q es f all.1)

  some_one : (x y : X) → Some x ≡ Some y → x ≡ y
  some_one x y is = cc

  -- what holds of all entries holds of one that is found
  all_found : (P : X → Type 0) (es : List (ℕ × X)) (a : ℕ) (v : X) → AllByRecursion (λ (e : ℕ × X). P e.1) es → lookup (is_at (nat_cmp a)) es ≡ Some v → P v
  all_found P [] a v all found = absurd (cc)
  all_found P (e ∷ es) a v all found =
      let on = elim (is_at (nat_cmp a) e.0) as (λ (b : Bool). cond b (Some e.1) (lookup (is_at (nat_cmp a)) es) ≡ Some v → P v) [
        | true ↦ λ is. subst P (some_one e.1 v is) all.0
        | false ↦ λ is. all_found P es a v all.1 is
      ] in
      on found

module _ {X Y : Type 0} (f : X → Y) where
  -- the values are seen in another way
  abbrev seen_entry : ℕ × X → ℕ × Y
  seen_entry e = (e.0, f e.1)

  map_insert : (es : List (ℕ × X)) (a : ℕ) (v : X) → map seen_entry (insert_entry nat_cmp es a v) ≡ insert_entry nat_cmp (map seen_entry es) a (f v)
  map_insert [] a v = refl
  map_insert (e ∷ es) a v =
      elim (nat_cmp a e.0) as (λ (r : Ordering). map seen_entry (match_ordering r ((a, v) ∷ e ∷ es) ((e.0, v) ∷ es) (e ∷ insert_entry nat_cmp es a v))
      ≡ match_ordering r ((a, f v) ∷ seen_entry e ∷ map seen_entry es) ((e.0, f v) ∷ map seen_entry es) (seen_entry e ∷ insert_entry nat_cmp (map seen_entry es) a (f v))) [
        | Less ↦ refl
        | Equal ↦ refl
        | Greater ↦ ap (λ (l : List (ℕ × Y)). seen_entry e ∷ l) (map_insert es a v)
      ]

  map_lookup : (es : List (ℕ × X)) (a : ℕ) → lookup (is_at (nat_cmp a)) (map seen_entry es) ≡ option_map f (lookup (is_at (nat_cmp a)) es)
  map_lookup [] a = refl
  map_lookup (e ∷ es) a =
      elim (is_at (nat_cmp a) e.0) as (λ (b : Bool). cond b (Some (f e.1)) (lookup (is_at (nat_cmp a)) (map seen_entry es)) ≡ option_map f (cond b (Some e.1) (lookup (is_at (nat_cmp a)) es))) [
        | true ↦ refl
        | false ↦ map_lookup es a
      ]

  pub map_keys : (es : List (ℕ × X)) → keys_of (map seen_entry es) ≡ keys_of es
  map_keys [] = refl
  map_keys (e ∷ es) = ap (λ (ks : List ℕ). e.0 ∷ ks) (map_keys es)

-- ---- a place more

last_or : (xs : List ℕ) (y j place : ℕ) → slice_get (xs ++ y ∷ []) j ≡ Some place → (slice_get xs j ≡ Some place) ⊎ (y ≡ place)
last_or [] y zero place is = inr cc
last_or [] y (suc j) place is = absurd (cc)
last_or (x ∷ xs) y zero place is = inl is
last_or (x ∷ xs) y (suc j) place is = last_or xs y j place is

asking_more : (lines : List NumberedLine) (places : List ℕ) (place : ℕ) → AreAsking lines places → IsSome (asked_at lines place) → AreAsking lines (places ++ place ∷ [])
asking_more lines places place are some i p is = elim (last_or places place i p is) [
  | inl before ↦ are i p before
  | inr last ↦ subst (λ (q : ℕ). IsSome (asked_at lines q)) last some
]

-- the line at a place asks for this
asked_here : (lines : List NumberedLine) (place : ℕ) (d : NumberedLine) (asked : ℕ × Asked) → place < length lines → asked_by (get_or lines place d).line ≡ Some asked → asked_at lines place ≡ Some asked.1
asked_here lines place d asked u is = rw (slice_get-get_or lines place d u) (ap (λ (o : Option (ℕ × Asked)). option_map (λ (x : ℕ × Asked). x.1) o) is)

-- ---- a line more

lines_more : (lines : List NumberedLine) (i : ℕ) (d : NumberedLine) → i < length lines
    → map (λ (l : NumberedLine). l.line) (take (i + 1) lines) ≡ map (λ (l : NumberedLine). l.line) (take i lines) ++ (get_or lines i d).line ∷ []
lines_more lines i d u =
    ap (λ (ls : List NumberedLine). map (λ (l : NumberedLine). l.line) ls) (take_more lines i d u) ∙ map-append (λ (l : NumberedLine). l.line) (take i lines) (get_or lines i d ∷ [])

one_asks : (l : Line) (o : Option (ℕ × Asked)) → asked_by l ≡ o → filter_map asked_by (l ∷ []) ≡ filter_map (λ (x : Option (ℕ × Asked)). x) (o ∷ [])
one_asks l None is = rw is refl
one_asks l (Some x) is = rw is refl

applications_more : (ls : List Line) (l : Line) (o : Option (ℕ × Asked)) → asked_by l ≡ o → applications_of (ls ++ l ∷ []) ≡ fold asking (applications_of ls) (filter_map (λ (x : Option (ℕ × Asked)). x) (o ∷ []))
applications_more ls l o is =
    ap (λ (xs : List (ℕ × Asked)). fold asking [] xs) (filter_map-append asked_by ls (l ∷ [])) ∙ fold-append asking [] (filter_map asked_by ls) (filter_map asked_by (l ∷ []))
    ∙ ap (λ (xs : List (ℕ × Asked)). fold asking (applications_of ls) xs) (one_asks l o is)

none_asked : (o : Option (ℕ × Asked)) → option_map (λ (x : ℕ × Asked). x.0) o ≡ None → o ≡ None
none_asked None is = refl
none_asked (Some x) is = absurd (cc)

some_asked : (o : Option (ℕ × Asked)) (a : ℕ) → option_map (λ (x : ℕ × Asked). x.0) o ≡ Some a → (asked : Asked) × (o ≡ Some (a, asked))
some_asked None a is = absurd (cc)
some_asked (Some x) a is = let e : x.0 ≡ a = cc in (x.1, ap (λ (k : ℕ). Some (k, x.1)) e)

module _ {A : Type 0} where
  pub found_none : (lines : List NumberedLine) → ArePlaced {A = A} lines [] 0
  found_none lines = record { asking = tt; stand = refl }

  longer : (lines : List NumberedLine) (i : ℕ) (e : ℕ × Vec ℕ A) → AreAsking lines e.1.items × (length e.1.items ≤ i) → AreAsking lines e.1.items × (length e.1.items ≤ i + 1)
  longer lines i e all = (all.0, let u : length e.1.items ≤ i = all.1 in omega arith)

  -- the next line is no application's
  pub found_skip : (lines : List NumberedLine) (found : List (ℕ × Vec ℕ A)) (i : ℕ) (d : NumberedLine) → ArePlaced lines found i → i < length lines
      → option_map (λ (x : ℕ × Asked). x.0) (asked_by (get_or lines i d).line) ≡ None → ArePlaced lines found (i + 1)
  found_skip lines found i d are u none = record {
    asking = all_weaken _ _ found (longer lines i) are.asking;
    stand = are.stand ∙ sym (ap applications_of (lines_more lines i d u) ∙ applications_more (map (λ (l : NumberedLine). l.line) (take i lines)) (get_or lines i d).line None (none_asked _ none));
  }

  -- the places of an application so far
  places_are : (lines : List NumberedLine) (found : List (ℕ × Vec ℕ A)) (a i : ℕ) → AllByRecursion (λ (e : ℕ × Vec ℕ A). AreAsking lines e.1.items × (length e.1.items ≤ i)) found
      → AreAsking lines (places_in found a) × (length (places_in found a) ≤ i)
  places_are lines found a i all = go (lookup (is_at (nat_cmp a)) found) refl
    where
      go : (o : Option (Vec ℕ A)) → lookup (is_at (nat_cmp a)) found ≡ o
          → AreAsking lines (unwrap_or (option_map (λ (v : Vec ℕ A). v.items) o) []) × (length (unwrap_or (option_map (λ (v : Vec ℕ A). v.items) o) []) ≤ i)
      go None is = ((λ j p there. absurd (cc)), omega arith)
      go (Some v) is = all_found (λ (w : Vec ℕ A). AreAsking lines w.items × (length w.items ≤ i)) found a v all is

  -- the application that these places make
  abbrev made_of : List NumberedLine → Vec ℕ A → ApplicationState
  made_of lines places = record new_application { asks = asked_lines lines places.items }

  stands_in : (lines : List NumberedLine) (found : List (ℕ × Vec ℕ A)) (a : ℕ)
      → unwrap_or (lookup (is_at (nat_cmp a)) (standing_at lines found)) new_application ≡ record new_application { asks = asked_lines lines (places_in found a) }
  stands_in lines found a = ap (λ (o : Option ApplicationState). unwrap_or o new_application) (map_lookup (made_of lines) found a) ∙ go (lookup (is_at (nat_cmp a)) found)
    where
      go : (o : Option (Vec ℕ A)) → unwrap_or (option_map (made_of lines) o) new_application ≡ record new_application { asks = asked_lines lines (unwrap_or (option_map (λ (v : Vec ℕ A). v.items) o) []) }
      go None = refl
      go (Some v) = refl

  -- the next line is an application's
  pub found_more : (lines : List NumberedLine) (found new : List (ℕ × Vec ℕ A)) (a i : ℕ) (d : NumberedLine) → ArePlaced lines found i → i < length lines
      → option_map (λ (x : ℕ × Asked). x.0) (asked_by (get_or lines i d).line) ≡ Some a → FindsPlace found new a i → ArePlaced lines new (i + 1)
  found_more lines found new a i d are u some finds =
      let asks = some_asked (asked_by (get_or lines i d).line) a some in
      let asked : Asked = asks.0 in
      let here : asked_at lines i ≡ Some asked = asked_here lines i d (a, asked) u asks.1 in
      let before = places_are lines found a i are.asking in
      let more : AreAsking lines finds.places.items × (length finds.places.items ≤ i + 1) =
      rw finds.more (asking_more lines (places_in found a) i before.0 (ap is_some here), let few : length (places_in found a) ≤ i = before.1 in omega (arith, length-append (places_in found a) (i ∷ []))) in
      let asks_more : asked_lines lines finds.places.items ≡ asked_lines lines (places_in found a) ++ asked ∷ [] =
      ap (asked_lines lines) finds.more ∙ map-append (λ (p : ℕ). unwrap_or (asked_at lines p) nothing_asked) (places_in found a) (i ∷ [])
      ∙ ap (λ (o : Option Asked). asked_lines lines (places_in found a) ++ unwrap_or o nothing_asked ∷ []) here in record {
        asking = subst (λ (es : List (ℕ × Vec ℕ A)). AllByRecursion (λ (e : ℕ × Vec ℕ A). AreAsking lines e.1.items × (length e.1.items ≤ i + 1)) es) (sym finds.put)
            (all_insert _ found a finds.places (λ k. more) (all_weaken _ _ found (longer lines i) are.asking));
        stand = ap (standing_at lines) finds.put ∙ map_insert (made_of lines) found a finds.places
            ∙ ap (λ (asks : List Asked). insert_entry nat_cmp (standing_at lines found) a (record new_application { asks = asks })) asks_more
            ∙ ap (λ (x : ApplicationState). insert_entry nat_cmp (standing_at lines found) a (record x { asks = x.asks ++ asked ∷ [] })) (sym (stands_in lines found a))
            ∙ ap (λ (es : List (ℕ × ApplicationState)). asking es (a, asked)) are.stand
            ∙ sym (ap applications_of (lines_more lines i d u) ∙ applications_more (map (λ (l : NumberedLine). l.line) (take i lines)) (get_or lines i d).line (Some (a, asked)) asks.1);
      }

  pub places_found : (found : List (ℕ × Vec ℕ A)) (a : ℕ) (places : Vec ℕ A) → Some places ≡ lookup (is_at (nat_cmp a)) found → places_in found a ≡ places.items
  places_found found a places is = ap (λ (o : Option (Vec ℕ A)). unwrap_or (option_map (λ (v : Vec ℕ A). v.items) o) []) (sym is)

  pub places_missing : (found : List (ℕ × Vec ℕ A)) (a : ℕ) → None ≡ lookup (is_at (nat_cmp a)) found → places_in found a ≡ []
  places_missing found a is = ap (λ (o : Option (Vec ℕ A)). unwrap_or (option_map (λ (v : Vec ℕ A). v.items) o) []) (sym is)

-- ---- the applications that they make

module _ {X : Type 0} where
  -- what holds of all keys holds of one among them
  pub key_between : (P : ℕ → Type 0) (es : List (ℕ × X)) (k : ℕ) (v : X) (rest : List (ℕ × X)) → AllByRecursion P (keys_of (es ++ (k, v) ∷ rest)) → P k
  key_between P [] k v rest all = all.0
  key_between P (e ∷ es) k v rest all = key_between P es k v rest all.1

  -- an entry that is to come after the others is put there
  put_last : (es : List (ℕ × X)) (k : ℕ) (v : X) (rest : List (ℕ × X)) → IsStrictlySortedBy nat_cmp (keys_of (es ++ (k, v) ∷ rest)) → insert_entry nat_cmp es k v ≡ es ++ (k, v) ∷ []
  unfolding IsStrictlySortedBy
  put_last [] k v rest rise = refl
  put_last (e ∷ es) k v rest rise =
      rw (turned k e.0 (key_between (λ (l : ℕ). nat_cmp e.0 l ≡ Less) es k v rest rise.0)) (ap (λ (l : List (ℕ × X)). e ∷ l) (put_last es k v rest rise.1))

  all_keys_insert : (P : ℕ → Type 0) (es : List (ℕ × X)) (a : ℕ) (v : X) → P a → AllByRecursion P (keys_of es) → AllByRecursion P (keys_of (insert_entry nat_cmp es a v))
  all_keys_insert P [] a v p all = (p, tt)
  all_keys_insert P (e ∷ es) a v p all =
      elim (nat_cmp a e.0) as (λ (r : Ordering). AllByRecursion P (keys_of (match_ordering r ((a, v) ∷ e ∷ es) ((e.0, v) ∷ es) (e ∷ insert_entry nat_cmp es a v)))) [
        | Less ↦ (p, all)
        | Equal ↦ all
        | Greater ↦ (all.0, all_keys_insert P es a v p all.1)
      ]

numbers_fold : (acc : List (ℕ × ApplicationState)) (xs : List (ℕ × Asked)) → AllByRecursion IsNumber (keys_of acc) → AllByRecursion (λ (x : ℕ × Asked). IsNumber x.0) xs
    → AllByRecursion IsNumber (keys_of (fold asking acc xs))
numbers_fold acc [] before all = before
numbers_fold acc (x ∷ xs) before all = numbers_fold (asking acc x) xs (all_keys_insert IsNumber acc x.0 _ all.0 before) all.1

numbers_asked : (lines : List NumberedLine) → AllByRecursion (λ (l : NumberedLine). IfSome (asked_by l.line) (λ (x : ℕ × Asked). IsNumber x.0)) lines
    → AllByRecursion (λ (x : ℕ × Asked). IsNumber x.0) (filter_map asked_by (map (λ (l : NumberedLine). l.line) lines))
numbers_asked [] all = tt
numbers_asked (l ∷ lines) all =
    let on = elim (asked_by l.line) as (λ (o : Option (ℕ × Asked)). IfSome o (λ (x : ℕ × Asked). IsNumber x.0)
    → AllByRecursion (λ (x : ℕ × Asked). IsNumber x.0) (cons_option o (filter_map asked_by (map (λ (k : NumberedLine). k.line) lines)))) [
      | None ↦ λ h. numbers_asked lines all.1
      | Some x ↦ λ h. (h, numbers_asked lines all.1)
    ] in
    on all.0

-- the applications of lines have numbers that they may have
pub numbers_of : (lines : List NumberedLine) → AreNumbered lines → AllByRecursion IsNumber (keys_of (applications_of (map (λ (l : NumberedLine). l.line) lines)))
numbers_of lines are = numbers_fold [] (filter_map asked_by (map (λ (l : NumberedLine). l.line) lines)) tt (numbers_asked lines are.numbers)

unset : (i : ℕ) → has 0 i ≡ false
unset i = ap (λ (x : ℕ). x == 1) (bit_at-zero i)

module _ {A : Type 0} where
  rise_standing : (lines : List NumberedLine) (found : List (ℕ × Vec ℕ A)) → IsStrictlySortedBy nat_cmp (keys_of found) → IsStrictlySortedBy nat_cmp (keys_of (standing_at lines found))
  rise_standing lines found rise = subst (λ (ks : List ℕ). IsStrictlySortedBy nat_cmp ks) (sym (map_keys (made_of lines) found)) rise

  -- the next of them is made, and comes after the others
  pub made_more : (lines : List NumberedLine) (all left rest : List (ℕ × Vec ℕ A)) (made : List (ℕ × ApplicationState)) (k : ℕ) (places : Vec ℕ A) → IsStrictlySortedBy nat_cmp (keys_of all)
      → left ≡ (k, places) ∷ rest → made ++ standing_at lines left ≡ standing_at lines all
      → insert_entry nat_cmp made k (record new_application { asks = asked_lines lines places.items }) ++ standing_at lines rest ≡ standing_at lines all
  made_more lines all left rest made k places rise is joined =
      let here : made ++ (k, made_of lines places) ∷ standing_at lines rest ≡ standing_at lines all = ap (λ (es : List (ℕ × Vec ℕ A)). made ++ standing_at lines es) (sym is) ∙ joined in
      ap (λ (es : List (ℕ × ApplicationState)). es ++ standing_at lines rest)
      (put_last made k (made_of lines places) (standing_at lines rest) (subst (λ (es : List (ℕ × ApplicationState)). IsStrictlySortedBy nat_cmp (keys_of es)) (sym here) (rise_standing lines all rise)))
      ∙ append_assoc made ((k, made_of lines places) ∷ []) (standing_at lines rest) ∙ here

  -- none of them has anything to do yet
  nothing_yet : (test : ApplicationState → Bool) → ((asks : List Asked) → test (record new_application { asks = asks }) ≡ false) → (lines : List NumberedLine) (found : List (ℕ × Vec ℕ A)) (a : ℕ)
      → test (application_in (standing_at lines found) a) ≡ false
  nothing_yet test fails lines found a = ap test (stands_in lines found a) ∙ fails (asked_lines lines (places_in found a))

  pub keeps_made : (lines : List NumberedLine) (all left : List (ℕ × Vec ℕ A)) (made : List (ℕ × ApplicationState)) → AreNumbered lines → IsStrictlySortedBy nat_cmp (keys_of all)
      → ArePlaced lines all (length lines) → left ≡ [] → made ++ standing_at lines left ≡ standing_at lines all → KeepsApplications made 0 0
  keeps_made lines all left made numbered rise found is joined =
      let whole : made ≡ standing_at lines all = sym (append-nil made) ∙ ap (λ (es : List (ℕ × Vec ℕ A)). made ++ standing_at lines es) (sym is) ∙ joined in
      let said : standing_at lines all ≡ applications_of (map (λ (l : NumberedLine). l.line) lines) =
      found.stand ∙ ap (λ (ls : List NumberedLine). applications_of (map (λ (l : NumberedLine). l.line) ls)) (take-length lines) in
      subst (λ (es : List (ℕ × ApplicationState)). KeepsApplications es 0 0) (sym whole) (record {
        are = record {
          rise = rise_standing lines all rise;
          numbers = subst (λ (es : List (ℕ × ApplicationState)). AllByRecursion IsNumber (keys_of es)) (sym said) (numbers_of lines numbered);
        };
        issuing_marks = λ j within. unset j ∙ sym (nothing_yet may_issue (λ asks. refl) lines all (j + 1));
        awaiting_marks = λ j within. unset j ∙ sym (nothing_yet (λ (x : ApplicationState). is_some x.awaits) (λ asks. refl) lines all (j + 1));
      })

  -- each of those that are left has few places, with lines that ask
  pub asking_all : (lines : List NumberedLine) (all : List (ℕ × Vec ℕ A)) → AreNumbered lines → ArePlaced lines all (length lines)
      → AllByRecursion (λ (e : ℕ × Vec ℕ A). AreAsking lines e.1.items × (length e.1.items ≤ max_lines)) all
  asking_all lines all numbered found =
      all_weaken (λ (e : ℕ × Vec ℕ A). AreAsking lines e.1.items × (length e.1.items ≤ length lines)) _ all (λ e h. (h.0, let u : length e.1.items ≤ length lines = h.1 in omega (arith, numbered.few))) found.asking
