-- Of each application the lines ended so far as they should, and part by part that is kept.
use Rattle.std.proofs.Common.{◌≡◌, ◌∙◌, refl, sym, ap, subst, ℕ, suc, ◌+◌, ◌||◌, Bool, true, false, cond, List, [], ◌∷◌, ◌++◌, length, reverse, map, Some, None, Option, Result, Ok, Err, append_assoc}
use Rattle.std.specs.Prelude.{is_some, slice_get}
use Rattle.std.specs.List.{list_any}
use Rattle.std.specs.Option.{option_map_or}
use Rattle.std.proofs.lemmas.List.{length-reverse, reverse-append}
use Rattle.rd_irp.specs.declared.op.Op.{Op}
use Rattle.rd_pending.specs.declared.calls.Handle.{Handle}
use Rattle.rd_pending.specs.declared.calls.SubmitNo.{SubmitNo}
use Rattle.rd_pending.specs.declared.calls.Taken.{Taken}
use Rattle.rd_pending.specs.declared.calls.Target.{Target}
use Rattle.rd_pending.specs.declared.calls.TakeNo as table_no
use Rattle.rd_pending.specs.declared.calls.Target.TheVariants as target
use Rattle.rd_pending.specs.Table as table
use Rattle.rd_pending.specs.Table.{TableState, submit_refusal}
use Rattle.rd_script.specs.declared.outcome.Outcome.{Outcome}
use Rattle.rd_script.specs.declared.outcome.Outcome.TheVariants as outcome
use Rattle.rd_script.specs.declared.outcome.Refusal.{Refusal}
use Rattle.rd_script.specs.declared.outcome.Refusal.TheVariants as refusal
use Rattle.rd_declared.specs.Devices.{Declared}
use Rattle.rd_world.specs.Events.{refusal_of, target_of}
use Rattle.rd_world.specs.Hearing.{given_handle, holding_after, holding_under, next_asked, reported_outcome, with_outcome}
use Rattle.rd_deeds.specs.HostDeeds.{side_of}
use Rattle.rd_world.specs.Lines.{IsDue, SubmitsNothing, Waits, is_submission_of}
use Rattle.rd_world.specs.Recording.{client_id}
use Rattle.rd_deeds.specs.Talk.{Deed, submits, takes}
use Rattle.rd_world.specs.World.{ApplicationState, Asked, new_application}
use Rattle.rd_outcomes.specs.Trail.{Chain, EndsAsked, EndsOf, HandedAt, IsEnded, IsPending, IsTrailed, Stage, StandsWith, accepted_before}
use Rattle.rd_outcomes.proofs.ChainLemmas.{chain_more, grown_more, known_more}

-- ---- lists

any_of_both : {A : Type 0} (p : A → Bool) (xs ys : List A) → list_any p xs ≡ false → list_any p ys ≡ false → list_any p (xs ++ ys) ≡ false
any_of_both p [] ys none others = others
any_of_both p (x ∷ xs) ys none others = by (p x) none (any_of_both p xs ys)
  where
    by : (b : Bool) → (b || list_any p xs) ≡ false → (list_any p xs ≡ false → list_any p ys ≡ false → list_any p (xs ++ ys) ≡ false) → (b || list_any p (xs ++ ys)) ≡ false
    by true e next = absurd (cc e)
    by false e next = next e others

turned_more : {A : Type 0} (xs : List A) (x : A) → reverse (xs ++ x ∷ []) ≡ x ∷ reverse xs
turned_more xs x = reverse-append xs (x ∷ [])

got_past : {A B : Type 0} (f : A → B) (xs ys : List A) → slice_get (map f (xs ++ ys)) (length xs) ≡ slice_get (map f ys) 0
got_past f [] ys = refl
got_past f (x ∷ xs) ys = got_past f xs ys

past_of : {A : Type 0} (xs ys : List A) → slice_get (xs ++ ys) (length xs) ≡ slice_get ys 0
past_of [] ys = refl
past_of (x ∷ xs) ys = past_of xs ys

-- ---- what handles tell

target_same : (x y : ApplicationState) (asked : Asked) → x.handles ≡ y.handles → target_of x asked ≡ target_of y asked
target_same x y asked same =
    ap (λ (hs : List (List ℕ × Handle)). target_of (record new_application { handles = hs }) asked) same

held_same : (x y : ApplicationState) (asked : Asked) (given : Option Handle) → x.handles ≡ y.handles → (holding_after x asked given).handles ≡ (holding_after y asked given).handles
held_same x y asked given same = by (is_some asked.device)
  where
    by : (b : Bool) → (cond b (record x { handles = holding_under x.handles asked.handle given }) x).handles ≡ (cond b (record y { handles = holding_under y.handles asked.handle given }) y).handles
    by true = ap (λ (hs : List (List ℕ × Handle)). holding_under hs asked.handle given) same
    by false = same

-- why a line is refused
abbrev pub RefusedBy : TableState → ℕ → Asked → Refusal → Option Target → Type 0
RefusedBy t a asked cause None = cause ≡ refusal.NoHandle
RefusedBy t a asked cause (Some named) = (u : TableState) × (why : SubmitNo) × (table.submit t a named asked.op ≡ (u, Err why)) × (cause ≡ refusal_of why)

refused_is : (t u : TableState) (a : ℕ) (named : Target) (o : Op) (why : SubmitNo) → table.submit t a named o ≡ (u, Err why) → submit_refusal t named ≡ Some why
refused_is t u a named o why made = by (submit_refusal t named) refl
  where
    by : (r : Option SubmitNo) → submit_refusal t named ≡ r → r ≡ Some why
    by None e = let took : table.submit t a named o ≡ (table.accept t named o, Ok (suc t.count)) = rw e refl in absurd (cc (ap (λ (r : TableState × Result ℕ SubmitNo). r.1) took, ap (λ (r : TableState × Result ℕ SubmitNo). r.1) made))
    by (Some cause) e =
        let refused : table.submit t a named o ≡ (t, Err cause) = rw e refl in
        let both : Err cause ≡ Err why = ap (λ (r : TableState × Result ℕ SubmitNo). r.1) (sym refused ∙ made) in
        let same : cause ≡ why = cc both in ap (λ (c : SubmitNo). Some c) same

pub accepted_is : (t u : TableState) (a number : ℕ) (named : Target) (o : Op) → table.submit t a named o ≡ (u, Ok number) → (submit_refusal t named ≡ None) × (number ≡ suc t.count)
accepted_is t u a number named o made = by (submit_refusal t named) refl
  where
    by : (r : Option SubmitNo) → submit_refusal t named ≡ r → (r ≡ None) × (number ≡ suc t.count)
    by None e =
        let took : table.submit t a named o ≡ (table.accept t named o, Ok (suc t.count)) = rw e refl in
        let both : Ok (suc t.count) ≡ Ok number = ap (λ (r : TableState × Result ℕ SubmitNo). r.1) (sym took ∙ made) in
        let same : suc t.count ≡ number = cc both in (refl, sym same)
    by (Some cause) e = let refused : table.submit t a named o ≡ (t, Err cause) = rw e refl in absurd (cc (ap (λ (r : TableState × Result ℕ SubmitNo). r.1) refused, ap (λ (r : TableState × Result ℕ SubmitNo). r.1) made))

module _ (devices : List (ℕ × Declared)) (a : ℕ) where
  abbrev Trailed : List Deed → List Waits → ApplicationState → Type 0
  Trailed deeds lines x = IsTrailed devices a deeds lines x

  -- ---- what is done by others

  since_more : (deeds from more : List Deed) → list_any (is_submission_of a) more ≡ false → SubmitsNothing a deeds from → SubmitsNothing a (more ++ deeds) from
  since_more deeds from more quiet (between, e, none) =
      (more ++ between, ap (λ (ds : List Deed). more ++ ds) e ∙ sym (append_assoc more between from), any_of_both (is_submission_of a) more between quiet none)

  stands_more : (deeds more : List Deed) (s : Stage) (rest : List Waits) (o : Option ℕ) → list_any (is_submission_of a) more ≡ false → StandsWith devices a deeds s rest o → StandsWith devices a (more ++ deeds) s rest o
  stands_more deeds more s rest None quiet (nothing, known) = (since_more deeds s.from more quiet nothing, known_more deeds more s.known known)
  stands_more deeds more s rest (Some number) quiet p = record {
    next = p.next;
    later = p.later;
    first = p.first;
    before = p.before;
    named = p.named;
    grown = grown_more (more, refl) p.grown;
    nothing = p.nothing;
    known = p.known;
    due = p.due;
    target = p.target;
    free = p.free;
    number_is = p.number_is;
    since = since_more deeds (submits a p.named (p.next.asked).op ∷ p.before) more quiet p.since;
  }

  pub trailed_more : (deeds more : List Deed) (lines : List Waits) (x : ApplicationState) → list_any (is_submission_of a) more ≡ false → Trailed deeds lines x → Trailed (more ++ deeds) lines x
  trailed_more deeds more lines x quiet is = record {
    ended = is.ended;
    rest = is.rest;
    whole = is.whole;
    stage = is.stage;
    chain = chain_more devices a deeds more is.ended (reverse x.outcomes) is.stage is.chain;
    handles = is.handles;
    stands = stands_more deeds more is.stage is.rest x.awaits quiet is.stands;
  }

  -- ---- the next line

  pub chain_long : (deeds : List Deed) (xs : List Waits) (os : List Outcome) (s : Stage) → Chain devices a deeds xs os s → length xs ≡ length os
  chain_long deeds [] [] s is = refl
  chain_long deeds [] (o ∷ os) s is = absurd is
  chain_long deeds (x ∷ xs) [] s is = absurd is
  chain_long deeds (x ∷ xs) (o ∷ os) s (r, chain, ended) = ap suc (chain_long deeds xs os r chain)

  ended_count : (deeds : List Deed) (lines : List Waits) (x : ApplicationState) (is : Trailed deeds lines x) → length (reverse is.ended) ≡ length x.outcomes
  ended_count deeds lines x is = length-reverse is.ended ∙ chain_long deeds is.ended (reverse x.outcomes) is.stage is.chain ∙ length-reverse x.outcomes

  -- the line that asks next is the first of those that are to come
  record Next (lines rest : List Waits) (k : ℕ) (asked : Asked) : Type 0 where
    next : Waits
    later : List Waits
    first : rest ≡ next ∷ later
    asks : next.asked ≡ asked
    at : slice_get lines k ≡ Some next

  next_is : (deeds : List Deed) (lines : List Waits) (x : ApplicationState) (is : Trailed deeds lines x) (asked : Asked) → x.asks ≡ map (λ (l : Waits). l.asked) lines → next_asked x ≡ Some asked
      → Next lines is.rest (length x.outcomes) asked
  next_is deeds lines x is asked all asks =
      by is.rest refl
      (sym (got_past (λ (l : Waits). l.asked) (reverse is.ended) is.rest)
      ∙ (λ i. slice_get (map (λ (l : Waits). l.asked) (sym is.whole i)) (ended_count deeds lines x is i)) ∙ ap (λ (xs : List Asked). slice_get xs (length x.outcomes)) (sym all) ∙ asks)
    where
      by : (rest : List Waits) → is.rest ≡ rest → slice_get (map (λ (l : Waits). l.asked) is.rest) 0 ≡ Some asked → Next lines is.rest (length x.outcomes) asked
      by [] e got = let none : slice_get (map (λ (l : Waits). l.asked) is.rest) 0 ≡ None = ap (λ (ls : List Waits). slice_get (map (λ (l : Waits). l.asked) ls) 0) e in absurd (cc (none, got))
      by (l ∷ ls) e got = record {
        next = l;
        later = ls;
        first = e;
        asks = (let one : slice_get (map (λ (l : Waits). l.asked) is.rest) 0 ≡ Some l.asked = ap (λ (ls : List Waits). slice_get (map (λ (l : Waits). l.asked) ls) 0) e in cc (one, got));
        at = (λ i. slice_get (is.whole i) (sym (ended_count deeds lines x is) i)) ∙ past_of (reverse is.ended) is.rest ∙ ap (λ (ls : List Waits). slice_get ls 0) e;
      }

  -- ---- a line ends

  -- one more line ended
  grown_trail : (deeds : List Deed) (lines : List Waits) (x : ApplicationState) (is : Trailed deeds lines x) (next : Waits) (later : List Waits) → is.rest ≡ next ∷ later → (o : Outcome) (given : Option Handle) (t : Stage) (deeds' : List Deed)
      → Chain devices a deeds' is.ended (reverse x.outcomes) is.stage → IsEnded devices a deeds' is.stage next o t → (t.holds).handles ≡ (holding_after x next.asked given).handles
      → StandsWith devices a deeds' t later None → Trailed deeds' lines (with_outcome x o given next.asked)
  grown_trail deeds lines x is next later first o given t deeds' chain ended handles stands = record {
    ended = next ∷ is.ended;
    rest = later;
    whole = is.whole ∙ ap (λ (ls : List Waits). reverse is.ended ++ ls) first ∙ sym (append_assoc (reverse is.ended) (next ∷ []) later) ∙ ap (λ (ls : List Waits). ls ++ later) (sym (reverse-append (next ∷ []) is.ended));
    stage = t;
    chain = subst (λ (os : List Outcome). Chain devices a deeds' (next ∷ is.ended) os t) (sym (turned_more x.outcomes o)) (is.stage, chain, ended);
    handles = handles;
    stands = stands;
  }

  -- a line is refused
  pub refused_trail : (deeds : List Deed) (lines : List Waits) (x : ApplicationState) (is : Trailed deeds lines x) (asked : Asked) (cause : Refusal) → x.awaits ≡ None
      → x.asks ≡ map (λ (l : Waits). l.asked) lines → next_asked x ≡ Some asked → ((l : Waits) → slice_get lines (length x.outcomes) ≡ Some l → IsDue devices l.acts deeds)
      → RefusedBy (side_of client_id deeds).table a asked cause (target_of x asked) → Trailed deeds lines (with_outcome x (outcome.Refused cause) None asked)
  refused_trail deeds lines x is asked cause awaits all asks due refused =
      let n = next_is deeds lines x is asked all asks in
      let stands : StandsWith devices a deeds is.stage is.rest None = subst (StandsWith devices a deeds is.stage is.rest) awaits is.stands in
      let own : RefusedBy (side_of client_id deeds).table a n.next.asked cause (target_of is.stage.holds n.next.asked) =
      subst (λ (q : Asked). RefusedBy (side_of client_id deeds).table a q cause (target_of is.stage.holds q)) (sym n.asks)
      (subst (RefusedBy (side_of client_id deeds).table a asked cause) (sym (target_same is.stage.holds x asked is.handles)) refused) in
      subst (λ (q : Asked). Trailed deeds lines (with_outcome x (outcome.Refused cause) None q)) n.asks
      (grown_trail deeds lines x is n.next n.later n.first (outcome.Refused cause) None (after_it n.next) deeds is.chain
      (record { before = deeds; grown = ([], refl); nothing = stands.0; known = stands.1; due = due n.next n.at; ends = ends n.next (target_of is.stage.holds n.next.asked) own })
      (held_same is.stage.holds x n.next.asked None is.handles) (([], refl, refl), tt))
    where
      after_it : Waits → Stage
      after_it next = record { holds = holding_after is.stage.holds next.asked None; known = None; from = deeds }

      asked_ends : (next : Waits) (named : Target) (why : SubmitNo) → cause ≡ refusal_of why → (r : Option SubmitNo) → r ≡ Some why → EndsAsked devices a deeds is.stage next (outcome.Refused cause) (after_it next) deeds named r
      asked_ends next named why same None e = absurd (cc e)
      asked_ends next named why same (Some c) e =
          let one : c ≡ why = cc e in (ap (λ (r : Refusal). outcome.Refused r) same ∙ ap (λ (w : SubmitNo). outcome.Refused (refusal_of w)) (sym one), refl)

      ends : (next : Waits) (o : Option Target) → RefusedBy (side_of client_id deeds).table a next.asked cause o → EndsOf devices a deeds is.stage next (outcome.Refused cause) (after_it next) deeds o
      ends next None same = (ap (λ (r : Refusal). outcome.Refused r) same, refl)
      ends next (Some named) (u, why, made, same) =
          asked_ends next named why same (submit_refusal (side_of client_id deeds).table named) (refused_is (side_of client_id deeds).table u a named (next.asked).op why made)

  -- its request is accepted
  pub accepted_trail : (deeds : List Deed) (lines : List Waits) (x : ApplicationState) (is : Trailed deeds lines x) (asked : Asked) (named : Target) (u : TableState) (number : ℕ) → x.awaits ≡ None
      → x.asks ≡ map (λ (l : Waits). l.asked) lines → next_asked x ≡ Some asked → ((l : Waits) → slice_get lines (length x.outcomes) ≡ Some l → IsDue devices l.acts deeds)
      → target_of x asked ≡ Some named → table.submit (side_of client_id deeds).table a named asked.op ≡ (u, Ok number)
      → Trailed (submits a named asked.op ∷ deeds) lines (record x { awaits = Some number })
  accepted_trail deeds lines x is asked named u number awaits all asks due at made =
      let n = next_is deeds lines x is asked all asks in
      let stands : StandsWith devices a deeds is.stage is.rest None = subst (StandsWith devices a deeds is.stage is.rest) awaits is.stands in
      let own = accepted_is (side_of client_id deeds).table u a number named asked.op made in
      let same : submits a named asked.op ∷ deeds ≡ submits a named (n.next.asked).op ∷ deeds = ap (λ (q : Asked). submits a named q.op ∷ deeds) (sym n.asks) in
      record {
        ended = is.ended;
        rest = is.rest;
        whole = is.whole;
        stage = is.stage;
        chain = chain_more devices a deeds (submits a named asked.op ∷ []) is.ended (reverse x.outcomes) is.stage is.chain;
        handles = is.handles;
        stands = record {
          next = n.next;
          later = n.later;
          first = n.first;
          before = deeds;
          named = named;
          grown = ([], same);
          nothing = stands.0;
          known = stands.1;
          due = due n.next n.at;
          target = ap (λ (q : Asked). target_of is.stage.holds q) n.asks ∙ target_same is.stage.holds x asked is.handles ∙ at;
          free = own.0;
          number_is = own.1;
          since = ([], same, refl);
        };
      }

  -- its outcome is handed out
  pub handed_trail : (deeds : List Deed) (lines : List Waits) (x : ApplicationState) (is : Trailed deeds lines x) (number : ℕ) (u : TableState) (given : Taken) (o : Option Asked) → x.awaits ≡ Some number
      → x.asks ≡ map (λ (l : Waits). l.asked) lines → next_asked x ≡ o → table.take (side_of client_id deeds).table number ≡ (u, Ok given)
      → Trailed (takes number ∷ deeds) lines (option_map_or (λ (asked : Asked). with_outcome x (reported_outcome given.outcome) (given_handle given) asked) o x)
  handed_trail deeds lines x is number u given None awaits all asks made = trailed_more deeds (takes number ∷ []) lines x refl is
  handed_trail deeds lines x is number u given (Some asked) awaits all asks made =
      let p : IsPending devices a deeds is.stage is.rest number = subst (StandsWith devices a deeds is.stage is.rest) awaits is.stands in
      let n = next_is deeds lines x is asked all asks in
      let same : p.next ≡ n.next = (let both : p.next ∷ p.later ≡ n.next ∷ n.later = sym p.first ∙ n.first in cc both) in
      let own : (p.next).asked ≡ asked = ap (λ (l : Waits). l.asked) same ∙ n.asks in
      let count : number ≡ suc (accepted_before p.before) = p.number_is in
      let out : HandedAt (takes number ∷ deeds) number given = ([], deeds, refl, ap (λ (r : TableState × Result Taken table_no.TakeNo). r.1) made) in
      let counted : HandedAt (takes number ∷ deeds) (suc (accepted_before p.before)) given = subst (λ (k : ℕ). HandedAt (takes number ∷ deeds) k given) count out in
      let t : Stage = record { holds = holding_after is.stage.holds (p.next).asked (given_handle given); known = Some (suc (accepted_before p.before), given); from = submits a p.named ((p.next).asked).op ∷ p.before } in
      subst (λ (q : Asked). Trailed (takes number ∷ deeds) lines (with_outcome x (reported_outcome given.outcome) (given_handle given) q)) own
      (grown_trail deeds lines x is p.next p.later p.first (reported_outcome given.outcome) (given_handle given) t (takes number ∷ deeds)
      (chain_more devices a deeds (takes number ∷ []) is.ended (reverse x.outcomes) is.stage is.chain)
      (record {
        before = p.before;
        grown = grown_more (takes number ∷ [], refl) (grown_more p.grown (submits a p.named ((p.next).asked).op ∷ [], refl));
        nothing = p.nothing;
        known = p.known;
        due = p.due;
        ends = subst (λ (o : Option Target). EndsOf devices a (takes number ∷ deeds) is.stage p.next (reported_outcome given.outcome) t p.before o) (sym p.target)
            (subst (λ (r : Option SubmitNo). EndsAsked devices a (takes number ∷ deeds) is.stage p.next (reported_outcome given.outcome) t p.before p.named r) (sym p.free)
            (given, grown_more (takes number ∷ [], refl) p.grown, counted, refl, refl));
      })
      (held_same is.stage.holds x (p.next).asked (given_handle given) is.handles)
      (since_more deeds (submits a p.named ((p.next).asked).op ∷ p.before) (takes number ∷ []) refl p.since, counted))
