-- What comes of applications later in a host's session: their outcomes stay, and what they await is handed out; so where they look for it before, they find nothing.
use Rattle.std.proofs.Common.{◌≡◌, ◌≢◌, ◌∙◌, ◌⊎◌, inl, inr, refl, sym, ap, subst, ℕ, suc, ◌+◌, ◌<◌, List, [], ◌∷◌, ◌++◌, length, length-append, append_assoc, append-nil, arith, Some, None, Option, Ok, Err, Contains, lit<}
use Rattle.std.specs.Prelude.{AllPairs, slice_get, slice_index_or, slice_set}
use Rattle.std.specs.List.{AllByRecursion}
use Rattle.std.proofs.lemmas.Bool.{cases_eq}
use Rattle.std.proofs.lemmas.List.{get_or-append-add, get_or_append_left}
use Rattle.std.proofs.lemmas.List.Elements.{Contains-append_left, Contains-append_right}
use Rattle.std.proofs.lemmas.Option.{slice_get_within}
use mathlib.Core.List.{IsPrefix}
use Rattle.rd_host_front.specs.State.{PassOfTable}
use Rattle.rd_host_player.specs.Play.{HasCome, QueuedAt, queued}
use Rattle.rd_issuer.specs.declared.issuer.Issuer.{Issuer}
use Rattle.rd_issuer.specs.Issues.{Does, DoesAll, Issue, Issues, at_table, calls_of_issues, holds_nothing}
use Rattle.rd_issuer.specs.SideBySide.{RanSideBySide, RanWith}
use Rattle.rd_pending.specs.declared.calls.TakeNo.TheVariants as take_no
use Rattle.rd_pending.specs.declared.calls.Taken.{Taken}
use Rattle.rd_script.specs.declared.line.NumberedLine.{NumberedLine}
use Rattle.rd_script.specs.declared.outcome.Outcome.{Outcome}
use Rattle.rd_script.specs.declared.outcome.Outcome.TheVariants as outcome
use Rattle.rd_script.specs.declared.outcome.Refusal.TheVariants as refusal
use Rattle.rd_table.specs.declared.calls.PendingCall.{PendingCall}
use Rattle.rd_table.specs.declared.calls.PendingCall.TheVariants as call
use Rattle.rd_table.specs.declared.calls.PendingReply.{PendingReply}
use Rattle.rd_table.specs.declared.calls.PendingReply.TheVariants as reply
use Rattle.rd_table.specs.Histories.{handed_in}
use Rattle.rd_table.proofs.PassLemmas.{pass_hands}
use Rattle.rd_table.proofs.StepLemmas.{handed_more}
use Rattle.rd_turn.specs.History.{calls_of, entry}
use Rattle.rd_turn.proofs.HistoryLemmas.{calls_of-append}
use Rattle.rd_world.specs.Events.{refusal_of}
use Rattle.rd_world.specs.Hearing.{reported_outcome}
use Rattle.rd_world.specs.Run.{asked_by}
use Rattle.rd_world.specs.World.{ApplicationState, Asked}
use Rattle.rd_host_turns.specs.Turns.{TableEntry}
use Rattle.rd_host_lines.specs.Places.{FindsNothing}
use Rattle.rd_host_lines.proofs.InPlayLemmas.{awaits_none, got_indexed, got_other, got_same, indexed_got}
use Rattle.rd_host_lines.proofs.PassLemmas.{AreSuch}

-- ---- what an application does

-- the outcomes that there were stay
does_grow : (a : ℕ) (x : ApplicationState) (i : Issue) (y : ApplicationState) → Does a x i y → (more : List Outcome) × (y.outcomes ≡ x.outcomes ++ more)
does_grow a x holds_nothing y (asked, comes, none, is) = (outcome.Refused refusal.NoHandle ∷ [], ap (λ (z : ApplicationState). z.outcomes) is)
does_grow a x (at_table (call.Submit application named op) (reply.Submitted (Ok number))) y (asked, comes, mine, names, op_is, known, is) =
    ([], ap (λ (z : ApplicationState). z.outcomes) is ∙ sym (append-nil x.outcomes))
does_grow a x (at_table (call.Submit application named op) (reply.Submitted (Err cause))) y (asked, comes, mine, names, op_is, known, is) =
    (outcome.Refused (refusal_of cause) ∷ [], ap (λ (z : ApplicationState). z.outcomes) is)
does_grow a x (at_table (call.Take number) (reply.Taken (Ok taken))) y (asked, next, awaits, known, is) = (reported_outcome taken.outcome ∷ [], ap (λ (z : ApplicationState). z.outcomes) is)
does_grow a x (at_table (call.Take number) (reply.Taken (Err cause))) y (asked, next, awaits, known, is) = ([], ap (λ (z : ApplicationState). z.outcomes) is ∙ sym (append-nil x.outcomes))
does_grow a x (at_table does back) y did = absurd did

all_grow : (a : ℕ) (issues : List Issue) (x y : ApplicationState) → DoesAll a x issues y → (more : List Outcome) × (y.outcomes ≡ x.outcomes ++ more)
all_grow a [] x y is = ([], ap (λ (z : ApplicationState). z.outcomes) is ∙ sym (append-nil x.outcomes))
all_grow a (i ∷ issues) x y (next, does, more) =
    let (one, is) = does_grow a x i next does in
    let (rest, so) = all_grow a issues next y more in
    (one ++ rest, so ∙ (ap (λ (l : List Outcome). l ++ rest) is ∙ append_assoc x.outcomes one rest))

hands_first : (number : ℕ) (taken : Taken) (pass : ℕ) (rest : List TableEntry) → Contains (handed_in (entry pass (call.Take number) (reply.Taken (Ok taken)) ∷ rest)) (number, taken)
hands_first number taken pass rest =
    let e = entry pass (call.Take number) (reply.Taken (Ok taken)) in
    subst (λ (l : List (ℕ × Taken)). Contains l (number, taken)) (sym (handed_more (e ∷ []) rest)) (Contains-append_left (handed_in (e ∷ [])) (handed_in rest) (number, taken) (0, lit< tt, refl))

hands_later : (xs ys : List TableEntry) (x : ℕ × Taken) → Contains (handed_in ys) x → Contains (handed_in (xs ++ ys)) x
hands_later xs ys x has = subst (λ (l : List (ℕ × Taken)). Contains l x) (sym (handed_more xs ys)) (Contains-append_right (handed_in xs) (handed_in ys) x has)

hands_before : (xs ys : List TableEntry) (x : ℕ × Taken) → Contains (handed_in xs) x → Contains (handed_in (xs ++ ys)) x
hands_before xs ys x has = subst (λ (l : List (ℕ × Taken)). Contains l x) (sym (handed_more xs ys)) (Contains-append_left (handed_in xs) (handed_in ys) x has)

-- What it awaits it awaits still, or it was handed out.
abbrev StillOrTaken : ℕ → ℕ → List Issue → ApplicationState → Type 0
StillOrTaken pass n issues y = (y.awaits ≡ Some n) ⊎ ((taken : Taken) × Contains (handed_in (calls_of_issues pass issues)) (n, taken))

still_or_taken : (a pass n : ℕ) (issues : List Issue) (x y : ApplicationState) → DoesAll a x issues y → x.awaits ≡ Some n → StillOrTaken pass n issues y
still_or_taken a pass n [] x y is awaits = inl (ap (λ (z : ApplicationState). z.awaits) is ∙ awaits)
still_or_taken a pass n (holds_nothing ∷ issues) x y (next, (asked, comes, none, is), more) awaits = let free = awaits_none x comes.0 in absurd (cc (free, awaits))
still_or_taken a pass n (at_table (call.Submit application named op) (reply.Submitted answer) ∷ issues) x y (next, (asked, comes, mine, names, op_is, known, is), more) awaits =
    let free = awaits_none x comes.0 in absurd (cc (free, awaits))
still_or_taken a pass n (at_table (call.Take number) (reply.Taken (Err cause)) ∷ issues) x y (next, (asked, next_is, own, known, is), more) awaits =
    by (still_or_taken a pass n issues next y more (ap (λ (z : ApplicationState). z.awaits) is ∙ awaits))
  where
    by : StillOrTaken pass n issues y → StillOrTaken pass n (at_table (call.Take number) (reply.Taken (Err cause)) ∷ issues) y
    by (inl still) = inl still
    by (inr (taken, has)) = inr (taken, hands_later (entry pass (call.Take number) (reply.Taken (Err cause)) ∷ []) (calls_of_issues pass issues) (n, taken) has)
still_or_taken a pass n (at_table (call.Take number) (reply.Taken (Ok taken)) ∷ issues) x y (next, (asked, next_is, own, known, is), more) awaits =
    let same : number ≡ n = cc (own, awaits) in
    inr (taken, subst (λ (k : ℕ). Contains (handed_in (entry pass (call.Take number) (reply.Taken (Ok taken)) ∷ calls_of_issues pass issues)) (k, taken)) same (hands_first number taken pass (calls_of_issues pass issues)))
still_or_taken a pass n (at_table does back ∷ issues) x y (next, did, more) awaits = absurd did

-- ---- what comes out

module _ (all : List TableEntry) (final : List Issuer) where
  -- An application at a place, when these calls were made: at the end it has these outcomes, and further ones; and what it awaits is handed out by the calls that follow.
  pub record ComesOut (seen : List TableEntry) (place : ℕ) (i : Issuer) : Type 0 where
    pub last : Issuer
    pub there : slice_get final place ≡ Some last
    pub number : last.number ≡ i.number
    pub later : List Outcome
    pub outcomes : (last.application).outcomes ≡ (i.application).outcomes ++ later
    pub awaited : (n : ℕ) → (i.application).awaits ≡ Some n → (rest : List TableEntry) × (taken : Taken) × (seen ++ rest ≡ all) × Contains (handed_in rest) (n, taken)

  abbrev pub AllComeOut : List TableEntry → List Issuer → Type 0
  AllComeOut seen issuers = (place : ℕ) (i : Issuer) → slice_get issuers place ≡ Some i → ComesOut seen place i

  -- so it is of fewer calls
  pub sooner : (xs ys : List TableEntry) (issuers : List Issuer) → IsPrefix xs ys → AllComeOut ys issuers → AllComeOut xs issuers
  sooner xs ys issuers (more, is) out place i got =
      let c = out place i got in
      record {
        last = c.last;
        there = c.there;
        number = c.number;
        later = c.later;
        outcomes = c.outcomes;
        awaited = λ n awaits.
            let (rest, taken, whole, has) = c.awaited n awaits in
            (more ++ rest, taken, sym (append_assoc xs more rest) ∙ (ap (λ (l : List TableEntry). l ++ rest) is ∙ whole), hands_later more rest (n, taken) has);
      }

  -- and before the script came to a line
  pub come_sooner : (l : NumberedLine) (seen : List TableEntry) (old new : List Issuer) → HasCome l.line old new → AllComeOut seen new → AllComeOut seen old
  come_sooner l seen old new has out = by (asked_by l.line) refl
    where
      queued_at : (b : ℕ) → QueuedAt b old new → AllComeOut seen old
      queued_at b (other, i, got, number, is) place j at = elim (cases_eq place other) [
        | inl same ↦
            let own : slice_get old place ≡ Some i = ap (slice_get old) same ∙ got in
            let me : j ≡ i = cc (at, own) in
            let c = out place (queued i) (ap (λ (ls : List Issuer). slice_get ls place) is ∙ (ap (λ (n : ℕ). slice_get (slice_set old n (queued i)) place) (sym same) ∙ got_same old place i (queued i) own)) in
            record {
              last = c.last;
              there = c.there;
              number = c.number ∙ ap (λ (x : Issuer). x.number) (sym me);
              later = c.later;
              outcomes = c.outcomes ∙ ap (λ (x : Issuer). (x.application).outcomes ++ c.later) (sym me);
              awaited = λ n awaits. c.awaited n (ap (λ (x : Issuer). (x.application).awaits) (sym me) ∙ awaits);
            }
        | inr ne ↦ out place j (ap (λ (ls : List Issuer). slice_get ls place) is ∙ (got_other old place other (queued i) ne ∙ at))
      ]

      by : (o : Option (ℕ × Asked)) → asked_by l.line ≡ o → AllComeOut seen old
      by None e = let h : new ≡ old = rw e at has in subst (AllComeOut seen) h out
      by (Some (b, asked)) e = let h : QueuedAt b old new = rw e at has in queued_at b h

  -- and before applications ran
  pub ran_sooner : (p q : PassOfTable) (old new : List Issuer) → RanSideBySide p q old new → IsPrefix p.seen q.seen → IsPrefix q.seen all → AllComeOut q.seen new → AllComeOut p.seen old
  ran_sooner p q old new ran (added, added_is) (rest, whole) out place i got = record {
    last = c.last;
    there = c.there;
    number = c.number ∙ (w.number ∙ ap (λ (x : Issuer). x.number) here);
    later = grown.0 ++ c.later;
    outcomes = c.outcomes ∙ (ap (λ (l : List Outcome). l ++ c.later) grown.1 ∙ append_assoc (i.application).outcomes grown.0 c.later);
    awaited = λ n awaits. by n (still_or_taken i.number k n issued.issues i.application after.application issued.does awaits);
  }
    where
      less : place < length old
      less = slice_get_within old place i got

      k : ℕ
      k = suc (p.made + place)

      after : Issuer
      after = slice_index_or new place i

      c : ComesOut q.seen place after
      c = out place after (got_indexed new place i (let count = ran.count in omega (arith, less, count)))

      here : slice_index_or old place i ≡ i
      here = indexed_got old place i i got

      w : RanWith p q k (slice_index_or old place i) after
      w = ran.ran place i i less

      issued : Issues i.number k i.application after.application [] (calls_of k q.seen)
      issued = subst (λ (x : Issuer). Issues x.number k x.application after.application [] (calls_of k q.seen)) here w.issued

      grown : (more : List Outcome) × ((after.application).outcomes ≡ (i.application).outcomes ++ more)
      grown = all_grow i.number issued.issues i.application after.application issued.does

      own : calls_of k added ≡ calls_of_issues k issued.issues
      own = sym (sym (ap (calls_of k) added_is) ∙ (calls_of-append k p.seen added ∙ ap (λ (l : List TableEntry). l ++ calls_of k added) w.fresh)) ∙ issued.calls

      by : (n : ℕ) → StillOrTaken k n issued.issues after.application → (rest : List TableEntry) × (taken : Taken) × (p.seen ++ rest ≡ all) × Contains (handed_in rest) (n, taken)
      by n (inl still) =
          let (more, taken, is, has) = c.awaited n still in
          (added ++ more, taken, sym (append_assoc p.seen added more) ∙ (ap (λ (l : List TableEntry). l ++ more) added_is ∙ is), hands_later added more (n, taken) has)
      by n (inr (taken, has)) = (
        added ++ rest,
        taken,
        sym (append_assoc p.seen added rest) ∙ (ap (λ (l : List TableEntry). l ++ rest) added_is ∙ whole),
        hands_before added rest (n, taken) (pass_hands added k n taken (subst (λ (l : List TableEntry). Contains (handed_in l) (n, taken)) (sym own) has)),
      )

-- ---- looks in vain

-- a look for the outcome of a number that the table knows
abbrev IsKnownCall : PendingCall → PendingReply → Type 0
IsKnownCall (call.Take number) (reply.Taken answer) = answer ≢ Err take_no.Unknown
IsKnownCall (call.Take number) _ = ⊥
IsKnownCall _ back = Unit {0}

abbrev pub IsKnownLook : TableEntry → Type 0
IsKnownLook e = IsKnownCall e.call e.reply

at_place : (xs : List (ℕ × Taken)) (x d : ℕ × Taken) → (has : Contains xs x) → slice_index_or xs has.0 d ≡ x
at_place xs x d (place, within, is) = indexed_got xs place x d (got_indexed xs place x within ∙ ap (λ (y : ℕ × Taken). Some y) is)

-- what is handed out by the ones isn't by the others
apart : (xs ys : List (ℕ × Taken)) (n : ℕ) (t u : Taken) → AllPairs (λ x y. x.0 ≢ y.0) (xs ++ ys) → Contains xs (n, t) → Contains ys (n, u) → ⊥
apart xs ys n t u pairs (i, i_less, i_is) (j, j_less, j_is) =
    let d : ℕ × Taken = (n, t) in
    let long = length-append xs ys in
    let a : Contains (xs ++ ys) (n, t) = (i, omega arith, get_or_append_left xs ys (n, t) i i_less ∙ i_is) in
    let b : Contains (xs ++ ys) (n, u) = (length xs + j, omega arith, get_or-append-add xs ys j (n, u) ∙ j_is) in
    let first : (slice_index_or (xs ++ ys) i d).0 ≡ n = ap (λ (x : ℕ × Taken). x.0) (at_place (xs ++ ys) (n, t) d a) in
    let second : (slice_index_or (xs ++ ys) (length xs + j) d).0 ≡ n = ap (λ (x : ℕ × Taken). x.0) (at_place (xs ++ ys) (n, u) d b) in
    pairs i (length xs + j) d (omega arith) (omega arith) (first ∙ sym second)

-- Where a number's outcome is handed out by later calls, no look for it found anything before.
pub finds_nothing : (n : ℕ) (taken : Taken) (before xs rest : List TableEntry) → AllPairs (λ x y. x.0 ≢ y.0) (handed_in ((before ++ xs) ++ rest)) → Contains (handed_in rest) (n, taken) → AreSuch IsKnownLook xs
    → AllByRecursion (λ (e : TableEntry). FindsNothing n e.call e.reply) xs
finds_nothing n taken before [] rest pairs has known = tt
finds_nothing n taken before (e ∷ xs) rest pairs has (here, known) = (
  one e.call e.reply refl refl here,
  finds_nothing n taken (before ++ e ∷ []) xs rest (subst (λ (l : List TableEntry). AllPairs (λ x y. x.0 ≢ y.0) (handed_in (l ++ rest))) (sym (append_assoc before (e ∷ []) xs)) pairs) has known,
)
  where
    one : (does : PendingCall) (back : PendingReply) → e.call ≡ does → e.reply ≡ back → IsKnownCall does back → FindsNothing n does back
    one (call.Take other) (reply.Taken (Ok t)) is so known = λ same.
        let in_e : Contains (handed_in (entry e.by (call.Take other) (reply.Taken (Ok t)) ∷ xs)) (other, t) = hands_first other t e.by xs in
        let in_entry : Contains (handed_in (e ∷ xs)) (n, t) = subst (λ (x : TableEntry). Contains (handed_in (x ∷ xs)) (n, t)) (λ i. entry e.by (sym is i) (sym so i)) (subst (λ (k : ℕ). Contains (handed_in (entry e.by (call.Take other) (reply.Taken (Ok t)) ∷ xs)) (k, t)) same in_e) in
        absurd (apart (handed_in (before ++ e ∷ xs)) (handed_in rest) n t taken (subst (AllPairs (λ x y. x.0 ≢ y.0)) (handed_more (before ++ e ∷ xs) rest) pairs)
        (hands_later before (e ∷ xs) (n, t) in_entry) has)
    one (call.Take other) (reply.Taken (Err take_no.NotYet)) is so known = λ same. refl
    one (call.Take other) (reply.Taken (Err take_no.Unknown)) is so known = λ same. absurd (known refl)
    one (call.Take other) _ is so known = absurd known
    one _ back is so known = tt
