-- What is told of a host's lines: each line once, one application after the other.
use Rattle.std.proofs.Common.{◌≡◌, ◌∙◌, refl, sym, ap, subst, ℕ, suc, ◌+◌, ◌<◌, List, [], ◌∷◌, ◌++◌, append-nil, append_assoc, length, map, fold, Some, None, Option, Ok, Err, Result}
use Rattle.std.specs.Prelude.{slice_get, zip}
use Rattle.std.specs.List.{AllByRecursion, flat_map, range_with_len}
use Rattle.std.specs.List.Sorted.{IsStrictlySortedBy}
use Rattle.std.specs.Ordering.{nat_cmp}
use Rattle.std.specs.declared.cmp.Ordering.TheVariants.{Less}
use Rattle.std.proofs.lemmas.List.{map-append}
use Rattle.rd_carry.specs.declared.ended.Ended.{Ended}
use Rattle.rd_host_player.specs.Telling.{with_issuer}
use Rattle.rd_host_session.specs.Channels.{LinkedTold}
use Rattle.rd_host_session.specs.Hosted.{Hosts}
use Rattle.rd_issuer.specs.declared.issuer.Issuer.{Issuer}
use Rattle.rd_pending.specs.declared.calls.SubmitNo.{SubmitNo}
use Rattle.rd_pending.specs.declared.calls.Target.{Target}
use Rattle.rd_script.specs.declared.line.NumberedLine.{NumberedLine}
use Rattle.rd_script.specs.declared.outcome.Outcome.{Outcome}
use Rattle.rd_world.specs.Events.{target_of}
use Rattle.rd_world.specs.Report.{outcomes_under}
use Rattle.rd_world.specs.World.{ApplicationState, Asked}
use Rattle.rd_world.proofs.FinishingLemmas.{put_after}
use Rattle.rd_host_turns.proofs.CountLemmas.{all_both}
use Rattle.rd_host_turns.specs.Turns.{TableEntry}
use Rattle.rd_host_lines.specs.Outcomes.{AllCame, AnswerCame, IsAllTold, LineCame, LinesCame, asks_under, lines_under, issuer_told}
use Rattle.rd_host_lines.proofs.BeginLemmas.{below_apart, numbers_rise}
use Rattle.rd_host_lines.proofs.CameLemmas.{lines_came}
use Rattle.rd_host_lines.proofs.InPlayLemmas.{number_of}

-- ---- as many outcomes as lines

lines_count : (a : ℕ) (holds : ApplicationState) (xs : List Asked) (os : List Outcome) (entries : List TableEntry) → LinesCame a holds xs os entries → length os ≡ length xs
lines_count a holds [] [] entries came = refl
lines_count a holds [] (o ∷ os) entries came = absurd came
lines_count a holds (x ∷ xs) [] entries came = absurd came
lines_count a holds (x ∷ xs) (o ∷ os) entries came = ap suc (by (λ next rest more. lines_count a next xs os rest more) (target_of holds x) came)
  where
    Counts : Type 0
    Counts = (next : ApplicationState) (rest : List TableEntry) → LinesCame a next xs os rest → length os ≡ length xs

    answered : Counts → (answer : Result ℕ SubmitNo) (after : List TableEntry) → AnswerCame a holds x o (λ next rest. LinesCame a next xs os rest) answer after → length os ≡ length xs
    answered counts (Err cause) after (other, is, goes) = counts _ after goes
    answered counts (Ok number) after (between, who, taken, rest, is, none, o_is, goes) = counts _ rest goes

    by : Counts → (t : Option Target) → LineCame a holds x o (λ next rest. LinesCame a next xs os rest) entries t → length os ≡ length xs
    by counts None (is, goes) = counts _ entries goes
    by counts (Some named) (between, who, answer, after, is, none, answers) = answered counts answer after answers

-- ---- one application after the other

abbrev entry_of : Issuer → ℕ × ApplicationState
entry_of i = (i.number, i.application)

abbrev IsAbove : List (ℕ × ApplicationState) → Issuer → Type 0
IsAbove es i = AllByRecursion (λ (e : ℕ × ApplicationState). e.0 < i.number) es

above_more : (es : List (ℕ × ApplicationState)) (x : Issuer) (xs : List Issuer) → AllByRecursion (IsAbove es) xs → AllByRecursion (λ (m : ℕ). nat_cmp x.number m ≡ Less) (map number_of xs)
    → AllByRecursion (IsAbove (es ++ entry_of x ∷ [])) xs
above_more es x [] all rise = tt
above_more es x (y ∷ ys) all rise =
    (all_both (λ (e : ℕ × ApplicationState). e.0 < y.number) es (entry_of x ∷ []) all.0 (below_apart x.number y.number rise.0, tt), above_more es x ys all.1 rise.1)

by_rising : (es : List (ℕ × ApplicationState)) (xs : List Issuer) → IsStrictlySortedBy nat_cmp (map number_of xs) → AllByRecursion (IsAbove es) xs → fold with_issuer es xs ≡ es ++ map entry_of xs
unfolding IsStrictlySortedBy
by_rising es [] rise above = sym (append-nil es)
by_rising es (x ∷ xs) rise above =
    ap (λ (l : List (ℕ × ApplicationState)). fold with_issuer l xs) (put_after es x.number x.application above.0)
    ∙ by_rising (es ++ entry_of x ∷ []) xs rise.1 (above_more es x xs above.1 rise.0) ∙ append_assoc es (entry_of x ∷ []) (map entry_of xs)

told_each : (xs : List Issuer) → flat_map outcomes_under (map entry_of xs) ≡ flat_map issuer_told xs
told_each [] = refl
told_each (x ∷ xs) = ap (λ (l : List ((ℕ × ℕ) × Outcome)). issuer_told x ++ l) (told_each xs)

none_above : (xs : List Issuer) → AllByRecursion (IsAbove []) xs
none_above [] = tt
none_above (x ∷ xs) = (tt, none_above xs)

-- ---- each line once

abbrev line_of : (ℕ × ℕ) × Outcome → ℕ × ℕ
line_of t = t.0

lines_from : (a from : ℕ) (os : List Outcome) → map line_of (map (λ (o : ℕ × Outcome). ((a, o.0), o.1)) (zip (range_with_len from (length os)) os)) ≡ map (λ (n : ℕ). (a, n)) (range_with_len from (length os))
lines_from a from [] = refl
lines_from a from (o ∷ os) = ap (λ (l : List (ℕ × ℕ)). (a, from) ∷ l) (lines_from a (from + 1) os)

lines_told : (lines : List NumberedLine) (xs : List Issuer) → ((place : ℕ) (i : Issuer) → slice_get xs place ≡ Some i → length (i.application).outcomes ≡ length (asks_under i.number lines))
    → map line_of (flat_map issuer_told xs) ≡ flat_map (lines_under lines) (map number_of xs)
lines_told lines [] each = refl
lines_told lines (x ∷ xs) each =
    map-append line_of (issuer_told x) (flat_map issuer_told xs)
    ∙ ap (λ (l : List (ℕ × ℕ)). l ++ map line_of (flat_map issuer_told xs))
    (lines_from x.number 1 (x.application).outcomes ∙ ap (λ (n : ℕ). map (λ (k : ℕ). (x.number, k)) (range_with_len 1 n)) (each 0 x refl))
    ∙ ap (λ (l : List (ℕ × ℕ)). lines_under lines x.number ++ l) (lines_told lines xs (λ place i at. each (suc place) i at))

-- ---- the law

pub all_told : (lines : List NumberedLine) (other : Option Ended) (told : List ((ℕ × ℕ) × Outcome)) (old new : LinkedTold) (hosts : Hosts lines other told old new) → IsAllTold lines hosts.issuers told
all_told lines other told old new hosts =
    let issuers = hosts.issuers in
    let came : AllCame lines issuers (hosts.last).seen = lines_came lines other old new hosts.turn issuers hosts.last hosts.plays in
    let rise : IsStrictlySortedBy nat_cmp (map number_of issuers) = subst (IsStrictlySortedBy nat_cmp) (sym came.numbers) (numbers_rise lines) in
    let listed : told ≡ flat_map issuer_told issuers =
    hosts.told_are ∙ ap (flat_map outcomes_under) (by_rising [] issuers rise (none_above issuers)) ∙ told_each issuers in
    record {
      listed = listed;
      each = ap (map line_of) listed
          ∙ lines_told lines issuers (λ place i at. lines_count i.number _ (asks_under i.number lines) (i.application).outcomes (hosts.last).seen (came.each place i at))
          ∙ ap (flat_map (lines_under lines)) came.numbers;
    }
