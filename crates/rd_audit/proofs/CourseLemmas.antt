-- What is kept of the requests of channels, as one course is changed.
use Rattle.std.proofs.Common.{Vec, Global, ◌≡◌, ◌≢◌, ◌∙◌, ℕ, inl, inr, zero, suc, ◌<◌, Bool, true, false, List, [], ◌∷◌, length, map, replicate, Option, Some, None, refl, sym, ap, subst, arith}
use Rattle.std.specs.Prelude.{◌==◌, ◌&&◌, if◌then◌else◌, ◌≤◌, slice_index_or, nat_lt, slice_get, slice_set, option_and_then, option_map}
use Rattle.std.proofs.lemmas.Bool.{cases_Bool}
use Rattle.std.proofs.lemmas.Bool.Decides.{nat_tests}
use Rattle.std.proofs.lemmas.List.{map-set}
use Rattle.std.proofs.lemmas.Option.{slice_get-get_or, slice_get_past}
use Rattle.rd_base.specs.declared.journal.Key.{Key}
use Rattle.rd_lawful.specs.Rules.{key_is}
use Rattle.rd_recorded.specs.Channels.{HeardChannel, HeardRequest}
use Rattle.rd_audit.specs.declared.course.Course.{Course}
use Rattle.rd_audit.specs.Kept.{Changes, KeepsCourses, places_by, key_places, with_course, with_item}
use Rattle.rd_audit.specs.Replayed.{heard_at, no_course, with_number}

-- what stands at a place after one was set
pub get_set_same : {X : Type 0} (xs : List X) (i : ℕ) (x y : X) → slice_get xs i ≡ Some x → slice_get (slice_set xs i y) i ≡ Some y
get_set_same [] i x y e = absurd cc
get_set_same (z ∷ xs) zero x y e = refl
get_set_same (z ∷ xs) (suc i) x y e = get_set_same xs i x y e

pub get_set_other : {X : Type 0} (xs : List X) (i j : ℕ) (y : X) → i ≢ j → slice_get (slice_set xs i y) j ≡ slice_get xs j
get_set_other [] i j y e = refl
get_set_other (z ∷ xs) zero zero y e = absurd (e refl)
get_set_other (z ∷ xs) zero (suc j) y e = refl
get_set_other (z ∷ xs) (suc i) zero y e = refl
get_set_other (z ∷ xs) (suc i) (suc j) y e = get_set_other xs i j y (λ same. e (ap suc same))

other_number : (n m : ℕ) → (n == m) ≡ false → n ≢ m
other_number n m e same = grind (arith, nat_tests)

same_next : (n m : ℕ) → (suc n == suc m) ≡ (n == m)
same_next n m = grind (arith, nat_tests)

pub get_map : {X Y : Type 0} (f : X → Y) (xs : List X) (i : ℕ) → slice_get (map f xs) i ≡ option_map f (slice_get xs i)
get_map f [] i = refl
get_map f (x ∷ xs) zero = refl
get_map f (x ∷ xs) (suc i) = get_map f xs i

pub get_replicate : {X Y : Type 0} (n i : ℕ) (x : X) (ys : List Y) → n ≡ length ys → slice_get (replicate n x) i ≡ option_map (λ y. x) (slice_get ys i)
get_replicate zero i x [] e = refl
get_replicate (suc n) i x [] e = absurd (omega arith)
get_replicate zero i x (y ∷ ys) e = absurd (omega arith)
get_replicate (suc n) zero x (y ∷ ys) e = refl
get_replicate (suc n) (suc i) x (y ∷ ys) e = get_replicate n i x ys (omega arith)

same_number : (n m : ℕ) → (n == m) ≡ true → n ≡ m
same_number n m e = grind (arith, nat_tests)

-- the course at an index of a channel that is kept, as another stands there
module _ (old : List (List Course)) (l : List Course) (channel index : ℕ) (course new : Course) (there : slice_get old channel ≡ Some l) (kept : slice_get l index ≡ Some course) where
  pub with_is : with_course channel index new old ≡ slice_set old channel (slice_set l index new)
  with_is = rw (there, kept) refl

  pub at_channel : (place i : ℕ) → option_and_then (λ (c : List Course). slice_get c i) (slice_get (slice_set old channel (slice_set l index new)) place)
      ≡ (if channel == place && index == i then Some new else option_and_then (λ (c : List Course). slice_get c i) (slice_get old place))
  at_channel place i = elim (cases_Bool (channel == place)) [
    | inl same ↦
        let at_place : channel ≡ place = same_number channel place same in
        let put : slice_get (slice_set old channel (slice_set l index new)) place ≡ Some (slice_set l index new) =
        subst (λ n. slice_get (slice_set old channel (slice_set l index new)) n ≡ Some (slice_set l index new)) at_place (get_set_same old channel l (slice_set l index new) there) in
        let here : slice_get old place ≡ Some l = ap (slice_get old) (sym at_place) ∙ there in
        rw (put, same, here) (at_index i)
    | inr other ↦ rw (get_set_other old channel place (slice_set l index new) (other_number channel place other), other) refl
  ]
    where
      at_index : (i : ℕ) → slice_get (slice_set l index new) i ≡ (if index == i then Some new else slice_get l i)
      at_index i = elim (cases_Bool (index == i)) [
        | inl same ↦ rw same (subst (λ n. slice_get (slice_set l index new) n ≡ Some new) (same_number index i same) (get_set_same l index course new kept))
        | inr other ↦ rw (get_set_other l index i new (other_number index i other), other) refl
      ]

option_map_same : {A : Type 0} (o : Option A) → option_map (λ c. c) o ≡ o
option_map_same None = refl
option_map_same (Some c) = refl

-- the request at a place is that of its key
places_are : (key : Key) (channel index : ℕ) → key_places key ≡ Some (channel, index) → (key.channel ≡ suc channel) × (key.index ≡ index)
places_are key channel index e = go key.channel e
  where
    go : (n : ℕ) → places_by n key.index ≡ Some (channel, index) → (n ≡ suc channel) × (key.index ≡ index)
    go zero e = absurd cc
    go (suc place) e = let both : ◌≡◌ {A = ℕ × ℕ} (place, key.index) (channel, index) = cc in (ap suc (ap (λ (p : ℕ × ℕ). p.0) both), ap (λ (p : ℕ × ℕ). p.1) both)

-- the course of the key at a place changes, where there is one
pub changes_put : (old : List (List Course)) (key : Key) (change : Course → Course) (channel index : ℕ) (course : Course) → key_places key ≡ Some (channel, index)
    → option_and_then (λ (c : List Course). slice_get c index) (slice_get old channel) ≡ Some course → Changes key change old (with_course channel index (change course) old)
changes_put old key change channel index course place found k = go (slice_get old channel) refl found k.channel
  where
    are : (key.channel ≡ suc channel) × (key.index ≡ index)
    are = places_are key channel index place

    go : (o : Option (List Course)) → slice_get old channel ≡ o → option_and_then (λ (c : List Course). slice_get c index) o ≡ Some course → (n : ℕ)
        → option_and_then (λ (c : List Course). slice_get c k.index) (with_number (with_course channel index (change course) old) n)
        ≡ option_map (λ c. if key.channel == n && key.index == k.index then change c else c) (option_and_then (λ (c : List Course). slice_get c k.index) (with_number old n))
    go None there kept n = absurd cc
    go (Some l) there kept zero = refl
    go (Some l) there kept (suc n) =
        ap (λ (w : List (List Course)). option_and_then (λ (c : List Course). slice_get c k.index) (slice_get w n)) (with_is old l channel index course (change course) there kept)
        ∙ at_channel old l channel index course (change course) there kept n k.index
        ∙ both (channel == n) refl (index == k.index) refl
      where
        both : (a : Bool) → (channel == n) ≡ a → (b : Bool) → (index == k.index) ≡ b
            → (if channel == n && index == k.index then Some (change course) else option_and_then (λ (c : List Course). slice_get c k.index) (slice_get old n))
            ≡ option_map (λ c. if key.channel == suc n && key.index == k.index then change c else c) (option_and_then (λ (c : List Course). slice_get c k.index) (slice_get old n))
        both true x true y =
            let here : slice_get old n ≡ Some l = ap (slice_get old) (sym (same_number channel n x)) ∙ there in
            let kept_here : slice_get l k.index ≡ Some course = ap (slice_get l) (sym (same_number index k.index y)) ∙ kept in
            rw (are.0, are.1, same_next channel n, x, y, here, kept_here) refl
        both true x false y = rw (are.0, are.1, same_next channel n, x, y) (sym (option_map_same (option_and_then (λ (c : List Course). slice_get c k.index) (slice_get old n))))
        both false x b y = rw (are.0, are.1, same_next channel n, x) (sym (option_map_same (option_and_then (λ (c : List Course). slice_get c k.index) (slice_get old n))))

-- ---- the code's vectors

module _ (channels : List (Vec Course Global)) (channel index : ℕ) (course : Course) where
  pub put_view : (v w : Vec Course Global) → channel < length channels → v ≡ slice_index_or channels channel v → w.items ≡ with_item index course v.items
      → map (λ (x : Vec Course Global). x.items) (slice_set channels channel w) ≡ with_course channel index course (map (λ (x : Vec Course Global). x.items) channels)
  put_view v w below is items =
      let there : slice_get (map (λ (x : Vec Course Global). x.items) channels) channel ≡ Some v.items =
      get_map (λ (x : Vec Course Global). x.items) channels channel ∙ ap (option_map (λ (x : Vec Course Global). x.items)) (slice_get-get_or channels channel v below ∙ ap Some (sym is)) in
      map-set (λ (x : Vec Course Global). x.items) channels channel w ∙ rw there (ap (slice_set (map (λ (x : Vec Course Global). x.items) channels) channel) items)

  pub none_view : length channels ≤ channel → map (λ (x : Vec Course Global). x.items) channels ≡ with_course channel index course (map (λ (x : Vec Course Global). x.items) channels)
  none_view past =
      let none : slice_get (map (λ (x : Vec Course Global). x.items) channels) channel ≡ None =
      get_map (λ (x : Vec Course Global). x.items) channels channel ∙ ap (option_map (λ (x : Vec Course Global). x.items)) (slice_get_past channels channel past) in
      rw none refl

-- ---- what is kept of requests that didn't come

abbrev pub absent_of : HeardChannel → List Course
absent_of c = replicate (length c.requests) no_course

pub absent_kept : (channels : List HeardChannel) → KeepsCourses channels (λ key. no_course) (map absent_of channels)
absent_kept channels key = go key.channel
  where
    at_place : (o : Option HeardChannel) → option_and_then (λ (c : List Course). slice_get c key.index) (option_map absent_of o)
        ≡ option_map (λ (a : HeardRequest). no_course) (option_and_then (λ (c : HeardChannel). slice_get c.requests key.index) o)
    at_place None = refl
    at_place (Some c) = get_replicate (length c.requests) key.index no_course c.requests refl

    go : (n : ℕ) → option_and_then (λ (c : List Course). slice_get c key.index) (with_number (map absent_of channels) n)
        ≡ option_map (λ (a : HeardRequest). no_course) (option_and_then (λ (c : HeardChannel). slice_get c.requests key.index) (with_number channels n))
    go zero = refl
    go (suc place) = ap (λ o. option_and_then (λ (c : List Course). slice_get c key.index) o) (get_map absent_of channels place) ∙ at_place (slice_get channels place)

-- ---- courses by key

-- what is kept where a key's course changes
pub changes_kept : (channels : List HeardChannel) (key : Key) (change : Course → Course) (old new : List (List Course)) → Changes key change old new
    → (courses : Key → Course) → KeepsCourses channels courses old → KeepsCourses channels (λ k. if key_is key k then change (courses k) else courses k) new
changes_kept channels key change old new changes courses keeps k =
    changes k ∙ ap (λ o. option_map (λ (c : Course). if key_is key k then change c else c) o) (keeps k) ∙ go (heard_at channels k)
  where
    go : (o : Option HeardRequest) → option_map (λ (c : Course). if key_is key k then change c else c) (option_map (λ a. courses k) o)
        ≡ option_map (λ a. if key_is key k then change (courses k) else courses k) o
    go None = refl
    go (Some a) = refl

pub kept_same : (channels : List HeardChannel) (one other : Key → Course) (kept : List (List Course)) → ((k : Key) → one k ≡ other k) → KeepsCourses channels one kept → KeepsCourses channels other kept
kept_same channels one other kept same keeps k = keeps k ∙ go (heard_at channels k)
  where
    go : (o : Option HeardRequest) → option_map (λ a. one k) o ≡ option_map (λ a. other k) o
    go None = refl
    go (Some a) = ap Some (same k)

pub past_test : (n m : ℕ) → false ≡ nat_lt n m → m ≤ n
past_test n m e = grind (arith, nat_tests)
