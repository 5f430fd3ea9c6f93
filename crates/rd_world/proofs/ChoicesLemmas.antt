-- Choices are counted part by part, and one is picked from the part in which its index falls.
use Rattle.std.proofs.Common.{◌≡◌, ◌∙◌, refl, sym, ap, subst, ℕ, zero, suc, ◌+◌, ◌-◌, ◌*◌, ◌<◌, ◌≤◌, Bool, true, false, List, [], ◌∷◌, ◌++◌, length, map, length-append, append_assoc, slice_get, Some, arith}
use Rattle.std.specs.Prelude.{◌/◌, ◌%◌}
use Rattle.std.specs.List.{flat_map, range_with_len}
use Rattle.std.specs.Option.{option_map}
use Rattle.std.proofs.Math.Nat.{div-lt_iff_lt-mul, mod-lt, sub-zero, zero-mul}
use Rattle.std.proofs.lemmas.Nat.{div-add-mod'}
use Rattle.std.proofs.lemmas.List.{length-map}
use Rattle.std.proofs.lemmas.List.FromFn.{length-range_with_len}
use Rattle.std.proofs.lemmas.List.Sums.{length-filter, count_by-le-length}
use Rattle.std.proofs.lemmas.Option.{slice_get-map}
use mir.Val.{bool_byte}
use Rattle.rd_world.specs.Bits.{has, where_holds}
use Rattle.rd_world.specs.Choices.{choice_where, choices_in, places, takes_in}
use Rattle.rd_world.specs.declared.choices.Choice.{Choice}
use Rattle.rd_world.specs.declared.choices.Choice.TheVariants as choice
use Rattle.rd_world.specs.declared.choices.Choices.{Choices}

-- ---- where an index falls

-- an index of the first list
here : {X : Type 0} (xs ys : List X) (i : ℕ) (x : X) → slice_get xs i ≡ Some x → slice_get (xs ++ ys) i ≡ Some x
here [] ys i x is = absurd (cc)
here (a ∷ xs) ys zero x is = is
here (a ∷ xs) ys (suc i) x is = here xs ys i x is

-- an index past it
past : {X : Type 0} (xs ys : List X) (i : ℕ) → length xs ≤ i → slice_get (xs ++ ys) i ≡ slice_get ys (i - length xs)
past [] ys i h = ap (slice_get ys) (sym (sub-zero i))
past (a ∷ xs) ys zero h = absurd (omega (arith, h))
past (a ∷ xs) ys (suc i) h = let e : suc i - length (a ∷ xs) ≡ i - length xs = omega arith in rw e (past xs ys i (omega (arith, h)))

pub at_map : {A B : Type 0} (f : A → B) (xs : List A) (i : ℕ) (x : A) → slice_get xs i ≡ Some x → slice_get (map f xs) i ≡ Some (f x)
at_map f xs i x is = slice_get-map f xs i ∙ ap (option_map f) is

pub here_map : {A B : Type 0} (f : A → B) (xs : List A) (ys : List B) (i : ℕ) (x : A) → slice_get xs i ≡ Some x → slice_get (map f xs ++ ys) i ≡ Some (f x)
here_map f xs ys i x is = here (map f xs) ys i (f x) (at_map f xs i x is)

pub past_map : {A B : Type 0} (f : A → B) (xs : List A) (ys : List B) (i n : ℕ) → n ≡ length xs → n ≤ i → slice_get (map f xs ++ ys) i ≡ slice_get ys (i - n)
past_map f xs ys i n e h =
    let k : n ≡ length (map f xs) = e ∙ sym (length-map xs f) in
    past (map f xs) ys i (omega (arith, k, h)) ∙ ap (λ (m : ℕ). slice_get ys (i - m)) (sym k)

pub here_where : (b : Bool) (c : Choice) (ys : List Choice) (i n : ℕ) → n ≡ bool_byte b → i < n → slice_get (choice_where b c ++ ys) i ≡ Some c
here_where true c ys zero n e h = refl
here_where true c ys (suc i) n e h = absurd (omega (arith, e, h))
here_where false c ys i n e h = absurd (omega (arith, e, h))

pub past_where : (b : Bool) (c : Choice) (ys : List Choice) (i n : ℕ) → n ≡ bool_byte b → n ≤ i → slice_get (choice_where b c ++ ys) i ≡ slice_get ys (i - n)
past_where true c ys i n e h = past (c ∷ []) ys i (omega (arith, e, h)) ∙ ap (λ (m : ℕ). slice_get ys (i - m)) (sym e)
past_where false c ys i n e h = past [] ys i (omega (arith, e, h)) ∙ ap (λ (m : ℕ). slice_get ys (i - m)) (sym e)

pub past_takes : (c : Choices) (ys : List Choice) (i n : ℕ) → n ≡ length (takes_in c) → n ≤ i → slice_get (takes_in c ++ ys) i ≡ slice_get ys (i - n)
past_takes c ys i n e h = past (takes_in c) ys i (omega (arith, e, h)) ∙ ap (λ (m : ℕ). slice_get ys (i - m)) (sym e)

pub here_takes : (c : Choices) (ys : List Choice) (i : ℕ) (x : Choice) → slice_get (takes_in c) i ≡ Some x → slice_get (takes_in c ++ ys) i ≡ Some x
here_takes c ys i x is = here (takes_in c) ys i x is

-- ---- the parts one after another

nest : {X : Type 0} (a b c d e f g h : List X) → a ++ b ++ c ++ d ++ e ++ f ++ g ++ h ≡ a ++ (b ++ (c ++ (d ++ (e ++ (f ++ (g ++ h))))))
nest a b c d e f g h = simp append_assoc refl

-- the list as its first part and what follows it, and so on
abbrev pub in_turn : Choices → List Choice
in_turn c =
    map choice.Issue (places c.issues)
    ++ (choice_where c.host_sends choice.HostSend
    ++ (choice_where c.client_reads choice.ClientRead
    ++ (choice_where c.client_sends choice.ClientSend
    ++ (map choice.Collect (places c.collects)
    ++ (choice_where c.host_reads choice.HostRead
    ++ (takes_in c
    ++ map choice.Apply (places c.full)))))))

pub listed_in_turn : (c : Choices) → choices_in c ≡ in_turn c
listed_in_turn c =
    nest (map choice.Issue (places c.issues)) (choice_where c.host_sends choice.HostSend) (choice_where c.client_reads choice.ClientRead)
    (choice_where c.client_sends choice.ClientSend) (map choice.Collect (places c.collects)) (choice_where c.host_reads choice.HostRead) (takes_in c) (map choice.Apply (places c.full))

-- the choices after those of an application and of messages
abbrev after_messages : Choices → List Choice
after_messages c =
    map choice.Collect (places c.collects)
    ++ (choice_where c.host_reads choice.HostRead
    ++ (takes_in c
    ++ map choice.Apply (places c.full)))

pub past_messages : (c : Choices) (i issues sends reads client_sends : ℕ) → issues ≡ length (places c.issues) → issues ≤ i
    → sends ≡ bool_byte c.host_sends → sends ≤ i - issues
    → reads ≡ bool_byte c.client_reads → reads ≤ i - issues - sends → client_sends ≡ bool_byte c.client_sends → client_sends ≤ i - issues - sends - reads
    → slice_get (in_turn c) i ≡ slice_get (after_messages c) (i - issues - sends - reads - client_sends)
past_messages c i issues sends reads client_sends e h f k g l d m = past_map _ _ _ _ _ e h ∙ past_where _ _ _ _ _ f k ∙ past_where _ _ _ _ _ g l ∙ past_where _ _ _ _ _ d m

-- ---- takes

abbrev pairs : {A B C : Type 0} → (A → B → C) → List A → List B → List C
pairs f xs ys = flat_map (λ x. map (f x) ys) xs

length_pairs : {A B C : Type 0} (f : A → B → C) (xs : List A) (ys : List B) → length (pairs f xs ys) ≡ length xs * length ys
length_pairs f [] ys = sym (zero-mul (length ys))
length_pairs f (x ∷ xs) ys =
    let long : length (pairs f (x ∷ xs) ys) ≡ length (map (f x) ys) + length (pairs f xs ys) = length-append (map (f x) ys) (pairs f xs ys) in
    omega (arith, long, length-map ys (f x), length_pairs f xs ys)

pair_at : {A B C : Type 0} (f : A → B → C) (xs : List A) (ys : List B) (q r : ℕ) (x : A) (y : B) → slice_get xs q ≡ Some x → slice_get ys r ≡ Some y
    → slice_get (pairs f xs ys) (q * length ys + r) ≡ Some (f x y)
pair_at f [] ys q r x y at_x at_y = absurd (cc)
pair_at {A} f (a ∷ xs) ys zero r x y at_x at_y =
    let e : 0 * length ys + r ≡ r = omega arith in
    let k : a ≡ x = cc in
    rw e (here_map (f a) ys (pairs f xs ys) r y at_y ∙ ap (λ (z : A). Some (f z y)) k)
pair_at f (a ∷ xs) ys (suc q) r x y at_x at_y =
    let e : suc q * length ys + r - length ys ≡ q * length ys + r = omega arith in
    past_map (f a) ys (pairs f xs ys) (suc q * length ys + r) (length ys) refl (omega arith) ∙ ap (slice_get (pairs f xs ys)) e ∙ pair_at f xs ys q r x y at_x at_y

-- how many takes there are
pub length_takes : (c : Choices) → length (takes_in c) ≡ length (places c.waiting) * length (places c.free)
length_takes c = length_pairs choice.Take (places c.waiting) (places c.free)

some_hand : (i w n : ℕ) → i < w * n → 0 < n
some_hand i w zero h = absurd (omega (arith, h))
some_hand i w (suc n) h = omega arith

-- a take's index has the device's place as its quotient, and the hand's as its remainder
pub take_within : (c : Choices) (i n : ℕ) → n ≡ length (places c.free) → i < length (takes_in c)
    → (0 < n) × (i / n < length (places c.waiting)) × (i % n < length (places c.free))
take_within c i n e h =
    let w : ℕ = length (places c.waiting) in
    let below : i < w * n = subst (λ (k : ℕ). i < k) (length_takes c ∙ ap (λ (m : ℕ). w * m) (sym e)) h in
    let some : 0 < n = some_hand i w n below in
    (some, (div-lt_iff_lt-mul some).1 below, subst (λ (k : ℕ). i % n < k) e (mod-lt i some))

pub take_at : (c : Choices) (i n device hand : ℕ) → n ≡ length (places c.free)
    → slice_get (places c.waiting) (i / n) ≡ Some device → slice_get (places c.free) (i % n) ≡ Some hand → slice_get (takes_in c) i ≡ Some (choice.Take device hand)
take_at c i n device hand e at_device at_hand =
    subst (λ (k : ℕ). slice_get (takes_in c) k ≡ Some (choice.Take device hand)) (ap (λ (m : ℕ). i / n * m + i % n) (sym e) ∙ div-add-mod' i n)
    (pair_at choice.Take (places c.waiting) (places c.free) (i / n) (i % n) device hand at_device at_hand)

-- ---- the count

few : (test : ℕ → Bool) (n : ℕ) → length (where_holds test n) ≤ n
unfolding where_holds
few test n = omega (arith, length-filter test (range_with_len 0 n), count_by-le-length test (range_with_len 0 n), length-range_with_len 0 n)

-- a word has 64 places at most
places_few : (word : ℕ) → length (places word) ≤ 64
places_few word = few (has word) 64

few_times : (a b : ℕ) → a ≤ 64 → b ≤ 64 → a * b ≤ 4096
few_times a b h k = grind arith

pub takes_few : (c : Choices) → length (takes_in c) ≤ 4096
takes_few c =
    subst (λ (k : ℕ). k ≤ 4096) (sym (length_takes c)) (few_times (length (places c.waiting)) (length (places c.free)) (places_few c.waiting) (places_few c.free))

where_few : (b : Bool) → bool_byte b ≤ 1
where_few true = omega arith
where_few false = omega arith

longer : {X : Type 0} (xs ys : List X) (n m : ℕ) → length xs ≡ n → length ys ≡ m → length (xs ++ ys) ≡ n + m
longer xs ys n m h k = omega (arith, length-append xs ys, h, k)

length_where : (b : Bool) (c : Choice) → length (choice_where b c) ≡ bool_byte b
length_where true c = refl
length_where false c = refl

pub length_listed : (c : Choices) → length (choices_in c)
    ≡ length (places c.issues) + (bool_byte c.host_sends + (bool_byte c.client_reads + (bool_byte c.client_sends
    + (length (places c.collects) + (bool_byte c.host_reads + (length (takes_in c) + length (places c.full)))))))
length_listed c =
    ap length (listed_in_turn c) ∙ longer _ _ _ _ (length-map (places c.issues) choice.Issue)
    (longer _ _ _ _ (length_where c.host_sends choice.HostSend)
    (longer _ _ _ _ (length_where c.client_reads choice.ClientRead)
    (longer _ _ _ _ (length_where c.client_sends choice.ClientSend)
    (longer _ _ _ _ (length-map (places c.collects) choice.Collect)
    (longer _ _ _ _ (length_where c.host_reads choice.HostRead)
    (longer (takes_in c) _ _ _ refl (length-map (places c.full) choice.Apply)))))))

pub listed_few : (c : Choices) → length (choices_in c) ≤ 4292
listed_few c =
    omega (
      arith,
      length_listed c,
      places_few c.issues,
      where_few c.host_sends,
      where_few c.client_reads,
      where_few c.client_sends,
      places_few c.collects,
      where_few c.host_reads,
      takes_few c,
      places_few c.full,
    )
