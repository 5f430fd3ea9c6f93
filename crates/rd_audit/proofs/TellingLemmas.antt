-- What a channel tells of its devices: what the code keeps of it, step by step.
use Rattle.std.proofs.Common.{◌≡◌, ℕ, ◌+◌, ◌<◌, Bool, true, false, List, [], ◌∷◌, ◌++◌, length, get_or, take, drop, Option, Some, None, ◌≢◌, suc, refl, sym, ap, subst, ◌∙◌, arith, add-one, inl, inr, drop-cons}
use Rattle.std.specs.Prelude.{◌==◌, ◌&&◌, not, if◌then◌else◌, slice_get, option_and_then, option_map}
use Rattle.std.specs.Option.{option_or}
use Rattle.std.proofs.lemmas.Bool.{cases_Bool, eqb-true}
use Rattle.std.proofs.lemmas.List.{append-nil, length-take-le, take_more}
use Rattle.std.proofs.lemmas.Option.{get_or_from_slice_get, slice_get_read, slice_get_within}
use Rattle.rd_base.specs.declared.journal.Key.{Key}
use Rattle.rd_base.proofs.LayoutLemmas.{meets}
use Rattle.rd_irp.specs.declared.completion.Head.{Head}
use Rattle.rd_irp.specs.Completion.{SpellsHead, completion_head}
use Rattle.rd_recorded.specs.Channels.{HeardChannel, HeardRequest}
use Rattle.rd_audit.specs.declared.course.Course.{Course}
use Rattle.rd_audit.specs.declared.journals.Replayed.{Replayed}
use Rattle.rd_audit.specs.declared.verdict.Verdict.{Verdict}
use Rattle.rd_audit.specs.Completions.{first_wrong, first_wrong_after, has_come, indices_where, last_of}
use Rattle.rd_audit.specs.Kept.{KeepsAccount, KeepsCourses}
use Rattle.rd_audit.specs.Replayed.{Account}
use Rattle.rd_audit.specs.Said.{status_in}
use Rattle.rd_audit.specs.Telling.{KeepsChannel, Told, told_asked, told_before, with_told}
use Rattle.rd_audit.proofs.LineLemmas.{found_stands}

-- the head of a completion that reads has its status
pub status_read : (message : List ℕ) (h : Head) (tail : ℕ) → SpellsHead h tail message → (h.status).0 ≡ status_in message
status_read message h tail spelled =
    let m = meets completion_head 0 message h tail spelled in
    rw m.1 refl

-- ---- lists, at an index

-- what was read there is what stands there
pub read_at : {A : Type 0} (items xs : List A) (i : ℕ) (x : A) → items ≡ xs → i < length items → x ≡ get_or items i x → slice_get xs i ≡ Some x
read_at {A} items xs i x same within read = subst (λ (ys : List A). slice_get ys i ≡ Some x) same (slice_get_read items (length items) i x refl within read)

-- it is the first that is left, and one more to those before it
pub drop_at : {A : Type 0} (xs : List A) (i : ℕ) (x : A) → slice_get xs i ≡ Some x → drop i xs ≡ x ∷ drop (i + 1) xs
drop_at xs i x e =
    let within = slice_get_within xs i x e in
    rw (add-one, drop-cons xs i x within, get_or_from_slice_get xs i x x e) refl

pub take_at : {A : Type 0} (xs : List A) (i : ℕ) (x : A) → slice_get xs i ≡ Some x → take (i + 1) xs ≡ take i xs ++ x ∷ []
take_at xs i x e =
    take_more xs i x (slice_get_within xs i x e) ∙ ap (λ y. take i xs ++ y ∷ []) (get_or_from_slice_get xs i x x e)

-- ---- the courses of a channel

-- the course that is kept of a request, by its channel's place
pub course_kept : (channels : List HeardChannel) (courses : Key → Course) (kept : List (List Course)) (place : ℕ) (c : HeardChannel) → slice_get channels place ≡ Some c → KeepsCourses channels courses kept
    → (index : ℕ) → option_and_then (λ (k : List Course). slice_get k index) (slice_get kept place) ≡ option_map (λ (a : HeardRequest). courses (record { channel = place + 1; index = index })) (slice_get c.requests index)
course_kept channels courses kept place c at keeps index =
    let e : option_and_then (λ (k : List Course). slice_get k index) (slice_get kept place)
    ≡ option_map (λ (a : HeardRequest). courses (record { channel = suc place; index = index })) (option_and_then (λ (c : HeardChannel). slice_get c.requests index) (slice_get channels place))
    = keeps (record { channel = suc place; index = index }) in
    rw add-one (e ∙ rw at refl)

pub channel_kept : (channels : List HeardChannel) (account : Account) (place : ℕ) (c : HeardChannel) (kept : Replayed) → slice_get channels place ≡ Some c → KeepsAccount channels account kept → KeepsChannel account place c kept
channel_kept channels account place c kept at keeps = record { courses = course_kept channels account.courses kept.courses place c at keeps.courses; counts = keeps.counts }

-- ---- requests

-- the index of a request, where the test holds of it
abbrev passed : (ℕ → HeardRequest → Bool) → HeardRequest → ℕ → List ℕ
passed test a n = if test n a then n ∷ [] else []

one_before : (n : ℕ) (b : Bool) (all xs ys : List ℕ) → all ≡ xs ++ ys → (if b then n ∷ all else all) ≡ (if b then n ∷ xs else xs) ++ ys
one_before n true all xs ys e = ap (λ ns. n ∷ ns) e
one_before n false all xs ys e = e

-- one request more is behind those before it
indices_more : (test : ℕ → HeardRequest → Bool) (from : ℕ) (xs : List HeardRequest) (a : HeardRequest) (n : ℕ) → n ≡ from + length xs
    → indices_where test from (xs ++ a ∷ []) ≡ indices_where test from xs ++ passed test a n
indices_more test from [] a n is =
    let e : from ≡ n = omega arith in ap (passed test a) e
indices_more test from (x ∷ xs) a n is =
    let later : indices_where test (from + 1) (xs ++ a ∷ []) ≡ indices_where test (from + 1) xs ++ passed test a n = indices_more test (from + 1) xs a n (omega arith) in
    one_before from (test from x) _ _ (passed test a n) later

last_more : (ns : List ℕ) (n : ℕ) → last_of (ns ++ n ∷ []) ≡ Some n
last_more [] n = refl
last_more (m ∷ ns) n = rw (last_more ns n) refl

-- what is told of a device of which nothing was said
abbrev known : (never : List ℕ) (came : Option ℕ) → Told
known never came = record { gone = true; removed = 0; sent = 0; unserved = never; served = 0; came = came }

known_more : (never came : List ℕ) (index : ℕ) (course : Course) (h b : Bool) → h ≡ has_come course
    → known (never ++ (if b && not h then index ∷ [] else [])) (last_of (came ++ (if b && h then index ∷ [] else []))) ≡ (if b then told_asked index course (known never (last_of came)) else known never (last_of came))
known_more never came index course true true is = rw (append-nil never, last_more came index, sym is) refl
known_more never came index course false true is = rw (append-nil came, sym is) refl
known_more never came index course h false is = rw (append-nil never, append-nil came) refl

told_more : (account : Account) (number : ℕ) (requests : List HeardRequest) (index : ℕ) (a : HeardRequest) (d : ℕ) → slice_get requests index ≡ Some a
    → told_before account number (take (index + 1) requests) [] d ≡ (if a.device == d then told_asked index (account.courses (record { channel = number; index = index })) (told_before account number (take index requests) [] d)
    else told_before account number (take index requests) [] d)
told_more account number requests index a d at =
    let R : List HeardRequest = take index requests in
    let within = slice_get_within requests index a at in
    let len : index ≡ 0 + length R = omega (arith, length-take-le index requests) in
    let course : Course = account.courses (record { channel = number; index = index }) in
    let came : ℕ → HeardRequest → Bool = λ i x. x.device == d && has_come (account.courses (record { channel = number; index = i })) in
    let never : ℕ → HeardRequest → Bool = λ i x. x.device == d && not (has_come (account.courses (record { channel = number; index = i }))) in
    ap (λ rs. told_before account number rs [] d) (take_at requests index a at)
    ∙ ap (λ ns. known ns (last_of (indices_where came 0 (R ++ a ∷ [])))) (indices_more never 0 R a index len)
    ∙ ap (λ ns. known (indices_where never 0 R ++ passed never a index) (last_of ns)) (indices_more came 0 R a index len)
    ∙ known_more (indices_where never 0 R) (indices_where came 0 R) index course (has_come course) (a.device == d) refl

-- a request more is kept
pub asked_more : (account : Account) (number : ℕ) (requests : List HeardRequest) (index : ℕ) (a : HeardRequest) (now middle new : ℕ → Told) → slice_get requests index ≡ Some a
    → ((d : ℕ) → now d ≡ told_before account number (take index requests) [] d) → ((d : ℕ) → (a.device == d) ≡ false → middle d ≡ now d)
    → ((d : ℕ) → new d ≡ with_told a.device (told_asked index (account.courses (record { channel = number; index = index })) (now a.device)) middle d)
    → (d : ℕ) → new d ≡ told_before account number (take (index + 1) requests) [] d
asked_more account number requests index a now middle new at so_far others put d = put d ∙ elim (cases_Bool (a.device == d)) [
  | inl e ↦
      let same : a.device ≡ d = eqb-true a.device d e in
      let before : now a.device ≡ told_before account number (take index requests) [] d = ap now same ∙ so_far d in
      rw (told_more account number requests index a d at, e, before) refl
  | inr e ↦ rw (told_more account number requests index a d at, e, others d e, so_far d) refl
]

-- ---- channels

first_more : (account : Account) (number : ℕ) (channels : List HeardChannel) (place : ℕ) (c : HeardChannel) → slice_get channels place ≡ Some c
    → first_wrong account number (drop place channels) ≡ option_or (first_wrong_after account number c.requests [] c.sayings) (first_wrong account (number + 1) (drop (place + 1) channels))
first_more account number channels place c at = ap (first_wrong account number) (drop_at channels place c at)

-- something is wrong on the channel at a place, where nothing was before; or nothing is
pub wrong_there : (account : Account) (channels : List HeardChannel) (place : ℕ) (c : HeardChannel) (found : Option Verdict) → slice_get channels place ≡ Some c → found ≡ first_wrong_after account (place + 1) c.requests [] c.sayings
    → found ≢ None → first_wrong account 1 channels ≡ first_wrong account (place + 1) (drop place channels) → found ≡ first_wrong account 1 channels
wrong_there account channels place c found at is some before =
    let rest : Option Verdict = first_wrong account (place + 1 + 1) (drop (place + 1) channels) in
    sym (before ∙ first_more account (place + 1) channels place c at ∙ ap (λ (o : Option Verdict). option_or o rest) (sym is) ∙ found_stands found rest some)

pub right_there : (account : Account) (channels : List HeardChannel) (place : ℕ) (c : HeardChannel) (found : Option Verdict) → slice_get channels place ≡ Some c → found ≡ first_wrong_after account (place + 1) c.requests [] c.sayings
    → found ≡ None → first_wrong account 1 channels ≡ first_wrong account (place + 1) (drop place channels) → first_wrong account 1 channels ≡ first_wrong account (place + 1 + 1) (drop (place + 1) channels)
right_there account channels place c found at is none before =
    let rest : Option Verdict = first_wrong account (place + 1 + 1) (drop (place + 1) channels) in
    before ∙ first_more account (place + 1) channels place c at ∙ ap (λ (o : Option Verdict). option_or o rest) (sym is ∙ none)
