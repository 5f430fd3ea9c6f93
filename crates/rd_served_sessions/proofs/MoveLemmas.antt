-- The calls of a session go by its script's lines, from channel to channel.
use Rattle.std.proofs.Common.{◌≡◌, ◌≤◌, ◌<◌, refl, sym, subst, ℕ, suc, Bool, true, false, List, [], ◌∷◌, ◌++◌, append_assoc, arith}
use Rattle.std.specs.Prelude.{if◌then◌else◌}
use Rattle.std.specs.List.{AllByRecursion}
use Rattle.rd_front.specs.Calls.{FrontEntry}
use Rattle.rd_front.specs.declared.calls.FrontCall.{FrontCall}
use Rattle.rd_front.specs.declared.calls.FrontCall.TheVariants as call
use Rattle.rd_front.specs.declared.calls.FrontReply.{FrontReply}
use Rattle.rd_script.specs.declared.line.NumberedLine.{NumberedLine}
use Rattle.rd_workers.specs.Channels.{AllGoByLines, ChannelRun, GoesByThem, HaveNumbers, IsChannelRun, calls_by_all}
use Rattle.rd_workers.specs.Lines.{LinesGo, LinesStand, LinesStep, at_lines, lines_from_on, lines_stand}
use Rattle.rd_workers.specs.Logs.{asks_any, reader_calls}
use Rattle.rd_served_sessions.proofs.PartedLemmas.{AllMove, MovesTo}
use Rattle.rd_served_sessions.proofs.PlaceLemmas.{AreFrom, Lines, ends_self, from_first, next_from, steps_from}

step_moves : (all : List NumberedLine) (c : ℕ) (s t : LinesStand) (does : FrontCall) (back : FrontReply) → LinesStep c s does back t → MovesTo all c s does back c t
step_moves all c s t (call.Hear message) back step = record { at = refl; step = step }
step_moves all c s t call.Retry back step = record { at = refl; step = step }
step_moves all c s t (call.Remove device) back step = record { at = refl; step = step }
step_moves all c s t (call.Add device) back step = record { at = refl; step = step }
step_moves all c s t call.Look back step = record { at = refl; step = step }
step_moves all c s t (call.Begin channel) back step = absurd step
step_moves all c s t (call.Next channel place room) back step = absurd step
step_moves all c s t call.EndChannel back step = absurd step
step_moves all c s t call.EndSession back step = absurd step

lines_move : (all : List NumberedLine) (c : ℕ) (s t : LinesStand) (entries later : List FrontEntry) → LinesGo c s entries t → AllMove all c t later → AllMove all c s (entries ++ later)
lines_move all c s t [] later goes moves = subst (λ (x : LinesStand). AllMove all c x later) goes moves
lines_move all c s t (e ∷ entries) later goes moves = (c, goes.0, step_moves all c s goes.0 e.call e.reply goes.1, lines_move all c goes.0 t entries later goes.2 moves)

run_moves : (all : List NumberedLine) (r : ChannelRun) (lines left : Lines) (c : ℕ) (s : LinesStand) (later : List FrontEntry) → IsChannelRun r → GoesByThem r.reading lines left → c < (r.reading).channel → AreFrom (r.reading).channel all (lines_from_on (r.reading).channel lines)
    → AllMove all (r.reading).channel (lines_stand []) later → AllMove all c s (r.calls ++ later)
run_moves all r lines left c s later is goes less from moves =
    let w = is.whole in
    let calls = (r.reading).calls in
    let channel = (r.reading).channel in
    let ended : AllMove all channel goes.stand (w.end ∷ later) = (channel, lines_stand [], subst (λ (x : FrontCall). MovesTo all channel goes.stand x (w.end).reply channel (lines_stand [])) (sym w.ends) (refl, refl), moves) in
    let read : AllMove all channel (lines_stand lines) ((calls ++ w.end ∷ []) ++ later) =
    subst (AllMove all channel (lines_stand lines)) (sym (append_assoc calls (w.end ∷ []) later)) (lines_move all channel (lines_stand lines) goes.stand calls (w.end ∷ later) goes.goes ended) in
    let begun : MovesTo all c s (w.begin).call (w.begin).reply channel (lines_stand lines) =
    subst (λ (x : FrontCall). MovesTo all c s x (w.begin).reply channel (lines_stand lines)) (sym (w.begins).0)
    (subst (λ (y : FrontReply). MovesTo all c s (call.Begin channel) y channel (lines_stand lines)) (sym ((w.begins).1).2) (refl, less, (lines, refl, from))) in
    subst (λ (es : List FrontEntry). AllMove all c s (es ++ later)) (sym w.whole_are) (channel, lines_stand lines, begun, read)

runs_move : (all : List NumberedLine) (runs : List ChannelRun) (n : ℕ) (lines left : Lines) (last : FrontEntry) (c : ℕ) (s : LinesStand) → last.call ≡ call.EndSession → AllByRecursion IsChannelRun runs → AllGoByLines runs lines left → HaveNumbers n runs → c ≤ n → AreFrom (suc n) all (lines_from_on (suc n) lines)
    → AllMove all c s (calls_by_all runs ++ last ∷ [])
runs_move all [] n lines left last c s over each go have less from = (c, lines_stand [], subst (λ (x : FrontCall). MovesTo all c s x last.reply c (lines_stand [])) (sym over) (refl, refl), tt)
runs_move all (r ∷ runs) n lines left last c s over each go have less from =
    let channel = (r.reading).channel in
    let here : AreFrom channel all (lines_from_on channel lines) = subst (λ (k : ℕ). AreFrom k all (lines_from_on k lines)) (sym have.0) from in
    let one = go.1 in
    let after : AreFrom (suc channel) all (lines_from_on (suc channel) go.0) = next_from channel all one.stand go.0 (steps_from channel all (lines_stand lines) one.stand (r.reading).calls one.goes here) one.left_are in
    let next : AreFrom (suc (suc n)) all (lines_from_on (suc (suc n)) go.0) = subst (λ (k : ℕ). AreFrom (suc k) all (lines_from_on (suc k) go.0)) have.0 after in
    subst (AllMove all c s) (sym (append_assoc r.calls (calls_by_all runs) (last ∷ [])))
    (run_moves all r lines go.0 c s (calls_by_all runs ++ last ∷ []) each.0 one (let is = have.0 in omega (arith, is, less)) here
    (runs_move all runs (suc n) go.0 left last channel (lines_stand []) over each.1 go.2 have.1 (let is = have.0 in omega (arith, is)) next))

-- calls for messages leave the reader where it is
asked_moves : (all : List NumberedLine) (c : ℕ) (s : LinesStand) (does : FrontCall) (back : FrontReply) → asks_any does ≡ true → MovesTo all c s does back c s
asked_moves all c s (call.Next channel place room) back asks = (refl, refl)
asked_moves all c s (call.Begin channel) back asks = absurd (cc (asks))
asked_moves all c s (call.Hear message) back asks = absurd (cc (asks))
asked_moves all c s call.Retry back asks = absurd (cc (asks))
asked_moves all c s (call.Remove device) back asks = absurd (cc (asks))
asked_moves all c s (call.Add device) back asks = absurd (cc (asks))
asked_moves all c s call.Look back asks = absurd (cc (asks))
asked_moves all c s call.EndChannel back asks = absurd (cc (asks))
asked_moves all c s call.EndSession back asks = absurd (cc (asks))

lift_moves : (all : List NumberedLine) (entries : List FrontEntry) (c : ℕ) (s : LinesStand) → AllMove all c s (reader_calls entries) → AllMove all c s entries
lift_moves all [] c s moves = tt
lift_moves all (e ∷ entries) c s moves = by (lift_moves all entries) (asks_any e.call) refl moves
  where
    by : ((d : ℕ) (t : LinesStand) → AllMove all d t (reader_calls entries) → AllMove all d t entries) → (b : Bool) → asks_any e.call ≡ b → AllMove all c s (if b then reader_calls entries else e ∷ reader_calls entries) → AllMove all c s (e ∷ entries)
    by others true asks these = (c, s, asked_moves all c s e.call e.reply asks, others c s these)
    by others false asks these = let (d, t, one, more) = these in (d, t, one, others d t more)

-- So it is in a session, whose reader's calls are those of its runs and the one that ends it.
pub session_moves : (all : List NumberedLine) (entries : List FrontEntry) (runs : List ChannelRun) (left : Lines) (last : FrontEntry) → reader_calls entries ≡ calls_by_all runs ++ last ∷ [] → last.call ≡ call.EndSession → AllByRecursion IsChannelRun runs → AllGoByLines runs (at_lines all) left → HaveNumbers 0 runs
    → AllMove all 0 (lines_stand []) entries
session_moves all entries runs left last whole over each go have =
    lift_moves all entries 0 (lines_stand []) (subst (AllMove all 0 (lines_stand [])) (sym whole) (runs_move all runs 0 (at_lines all) left last 0 (lines_stand []) over each go have (omega arith) (from_first 1 all all (ends_self all))))
