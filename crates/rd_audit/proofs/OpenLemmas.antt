-- Channels that lack a completion, as far as they were gone over.
use Rattle.std.proofs.Common.{◌≡◌, ℕ, ◌+◌, Bool, true, false, List, ◌∷◌, drop, Option, Some, refl, sym, ap, ◌∙◌, arith}
use Rattle.std.specs.Prelude.{◌<◌, ◌&&◌, ◌||◌, Result, Ok, Err, if◌then◌else◌, is_none, min, slice_get, option_and_then, option_map, unwrap_or}
use Rattle.std.specs.Option.{option_map_or}
use Rattle.std.specs.Result.{OkIff, result_unwrap_or}
use Rattle.rd_recorded.specs.Channels.{HeardChannel, HeardRequest}
use Rattle.rd_audit.specs.declared.course.Course.{Course}
use Rattle.rd_audit.specs.declared.verdict.Verdict.{Verdict}
use Rattle.rd_audit.specs.declared.verdict.Verdict.TheVariants as verdict
use Rattle.rd_audit.specs.Completions.{first_lacking, is_due, lacks_completion, lacks_from}
use Rattle.rd_audit.specs.Kept.{KeepsCourses}
use Rattle.rd_audit.proofs.TellingLemmas.{course_kept, drop_at}
use Rattle.rd_audit.specs.Replayed.{Account}

-- none of the requests so far lacks its completion
pub record NoneLacks (c : HeardChannel) (place : ℕ) (courses : List (List Course)) (index : ℕ) : Type 0 where
  pub left : (channels : List HeardChannel) (account : Account) → slice_get channels place ≡ Some c → KeepsCourses channels account.courses courses
      → lacks_completion account (place + 1) c ≡ lacks_from account (place + 1) c.ended index (drop index c.requests)

pub lacks_none : (c : HeardChannel) (place : ℕ) (courses : List (List Course)) → NoneLacks c place courses 0
lacks_none c place courses = record { left = λ channels account there keeps. refl }

-- what is said from an index on is said of the request there, and behind it
pub lacks_there : (c : HeardChannel) (place : ℕ) (courses : List (List Course)) (index : ℕ) (a : HeardRequest) → NoneLacks c place courses index → slice_get c.requests index ≡ Some a
    → (channels : List HeardChannel) (account : Account) → slice_get channels place ≡ Some c → KeepsCourses channels account.courses courses
    → lacks_completion account (place + 1) c
    ≡ ((is_due c.ended (account.courses (record { channel = place + 1; index = index })) && is_none a.completion) || lacks_from account (place + 1) c.ended (index + 1) (drop (index + 1) c.requests))
lacks_there c place courses index a none asked channels account there keeps =
    none.left channels account there keeps ∙ ap (lacks_from account (place + 1) c.ended index) (drop_at c.requests index a asked)

-- none of the channels so far lacks one
pub record NoneOpen (channels : List HeardChannel) (courses : List (List Course)) (place : ℕ) : Type 0 where
  pub left : (account : Account) → KeepsCourses channels account.courses courses → first_lacking account 1 channels ≡ first_lacking account (place + 1) (drop place channels)

pub open_none : (channels : List HeardChannel) (courses : List (List Course)) → NoneOpen channels courses 0
open_none channels courses = record { left = λ account keeps. refl }

-- what is found from a place on is found of the channel there, or behind it
pub open_there : (channels : List HeardChannel) (courses : List (List Course)) (place : ℕ) (c : HeardChannel) → NoneOpen channels courses place → slice_get channels place ≡ Some c
    → (account : Account) → KeepsCourses channels account.courses courses
    → first_lacking account 1 channels ≡ first_lacking account (place + 1) (c ∷ drop (place + 1) channels)
open_there channels courses place c none there account keeps = none.left account keeps ∙ ap (first_lacking account (place + 1)) (drop_at channels place c there)

-- a test of a request's course that was made is that of its own course
due_is : (c : HeardChannel) (place : ℕ) (courses : List (List Course)) (index : ℕ) (a : HeardRequest) (tested : Bool) → slice_get c.requests index ≡ Some a
    → tested ≡ option_map_or (is_due c.ended) (option_and_then (λ (k : List Course). slice_get k index) (slice_get courses place)) false
    → (channels : List HeardChannel) (account : Account) → slice_get channels place ≡ Some c → KeepsCourses channels account.courses courses
    → is_due c.ended (account.courses (record { channel = place + 1; index = index })) ≡ tested
due_is c place courses index a tested asked is channels account there keeps =
    let kept = course_kept channels account.courses courses place c there keeps index ∙ ap (option_map (λ (h : HeardRequest). account.courses (record { channel = place + 1; index = index }))) asked in
    sym (is ∙ ap (λ (o : Option Course). option_map_or (is_due c.ended) o false) kept)

pub lacks_found : (c : HeardChannel) (place : ℕ) (courses : List (List Course)) (index : ℕ) (a : HeardRequest) (tested none : Bool) → NoneLacks c place courses index → slice_get c.requests index ≡ Some a
    → tested ≡ option_map_or (is_due c.ended) (option_and_then (λ (k : List Course). slice_get k index) (slice_get courses place)) false
    → none ≡ is_none a.completion → tested ≡ true → none ≡ true
    → (channels : List HeardChannel) (account : Account) → slice_get channels place ≡ Some c → KeepsCourses channels account.courses courses
    → true ≡ lacks_completion account (place + 1) c
lacks_found c place courses index a tested none so_far asked is is_not due lacks channels account there keeps =
    let d = due_is c place courses index a tested asked is channels account there keeps ∙ due in
    let n : is_none a.completion ≡ true = sym is_not ∙ lacks in
    sym (lacks_there c place courses index a so_far asked channels account there keeps
    ∙ ap (λ (b : Bool). (b && is_none a.completion) || lacks_from account (place + 1) c.ended (index + 1) (drop (index + 1) c.requests)) d
    ∙ ap (λ (b : Bool). b || lacks_from account (place + 1) c.ended (index + 1) (drop (index + 1) c.requests)) n)

pub lacks_next : (c : HeardChannel) (place : ℕ) (courses : List (List Course)) (index : ℕ) (a : HeardRequest) (tested : Bool) → NoneLacks c place courses index → slice_get c.requests index ≡ Some a
    → tested ≡ option_map_or (is_due c.ended) (option_and_then (λ (k : List Course). slice_get k index) (slice_get courses place)) false
    → tested && is_none a.completion ≡ false → NoneLacks c place courses (index + 1)
lacks_next c place courses index a tested so_far asked is none = record {
  left = λ channels account there keeps.
      lacks_there c place courses index a so_far asked channels account there keeps
      ∙ ap (λ (b : Bool). (b && is_none a.completion) || lacks_from account (place + 1) c.ended (index + 1) (drop (index + 1) c.requests)) (due_is c place courses index a tested asked is channels account there keeps)
      ∙ ap (λ (b : Bool). b || lacks_from account (place + 1) c.ended (index + 1) (drop (index + 1) c.requests)) none;
}

pub and_false : (a b : Bool) → a ≡ true → b ≡ false → a && b ≡ false
and_false true false e f = refl
and_false true true e f = f
and_false false b e f = refl

pub false_and : (a b : Bool) → a ≡ false → a && b ≡ false
false_and false b e = refl
false_and true b e = absurd cc

-- a channel that lacks one is found
pub open_found : (channels : List HeardChannel) (courses : List (List Course)) (place : ℕ) (c : HeardChannel) (lacks : Bool) (number : ℕ) → NoneOpen channels courses place → slice_get channels place ≡ Some c
    → ((all : List HeardChannel) (account : Account) → slice_get all place ≡ Some c → KeepsCourses all account.courses courses → lacks ≡ lacks_completion account (place + 1) c)
    → lacks ≡ true → number ≡ min (place + 1) 0xffff_ffff
    → (account : Account) → KeepsCourses channels account.courses courses → verdict.Open number ≡ unwrap_or (first_lacking account 1 channels) verdict.Yes
open_found channels courses place c lacks number none there is found told account keeps =
    let l : lacks_completion account (place + 1) c ≡ true = sym (is channels account there keeps) ∙ found in
    let o = open_there channels courses place c none there account keeps ∙ ap (λ (b : Bool). if b then Some (verdict.Open (min (place + 1) 0xffff_ffff)) else first_lacking account (place + 1 + 1) (drop (place + 1) channels)) l in
    ap (λ (n : ℕ). verdict.Open n) told ∙ ap (λ (f : Option Verdict). unwrap_or f verdict.Yes) (sym o)

pub open_next : (channels : List HeardChannel) (courses : List (List Course)) (place : ℕ) (c : HeardChannel) (lacks : Bool) → NoneOpen channels courses place → slice_get channels place ≡ Some c
    → ((all : List HeardChannel) (account : Account) → slice_get all place ≡ Some c → KeepsCourses all account.courses courses → lacks ≡ lacks_completion account (place + 1) c)
    → lacks ≡ false → NoneOpen channels courses (place + 1)
open_next channels courses place c lacks none there is not = record {
  left = λ account keeps.
      let l : lacks_completion account (place + 1) c ≡ false = sym (is channels account there keeps) ∙ not in
      open_there channels courses place c none there account keeps ∙ ap (λ (b : Bool). if b then Some (verdict.Open (min (place + 1) 0xffff_ffff)) else first_lacking account (place + 1 + 1) (drop (place + 1) channels)) l;
}

-- a number that doesn't fit is told as the greatest that does
pub told_number : {E : Type 0} (r : Result ℕ E) (n : ℕ) → OkIff r (n < 4294967296) n → result_unwrap_or r 4294967295 ≡ min n 4294967295
told_number (Ok x) n is = omega (arith, is.0, is.1)
told_number (Err e) n is = omega (arith, is)
