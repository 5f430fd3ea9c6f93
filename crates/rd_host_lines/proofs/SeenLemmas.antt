-- What pass 0 of the table sees more, one thing after the other, in the one history: by which passes the calls are that are added.
use Rattle.std.proofs.Common.{◌≡◌, ◌≢◌, ◌∙◌, ◌⊎◌, inl, inr, refl, sym, ap, subst, ℕ, zero, suc, ◌+◌, ◌-◌, ◌<◌, ◌≤◌, true, List, [], ◌∷◌, ◌++◌, append_assoc, append-nil, length, All, Contains, arith}
use Rattle.std.proofs.lemmas.List.{append_cancel_left}
use mathlib.Core.List.{IsPrefix}
use mathlib.Core.Logic.{dite}
use native.Mathlib.Decide.{dec_le}
use Rattle.rd_host_front.specs.State.{PassCalls, PassOfTable, TurnOfTable}
use Rattle.rd_issuer.specs.declared.issuer.Issuer.{Issuer}
use Rattle.rd_issuer.specs.Issues.{Does, DoesAll, Issue, at_table, calls_of_issues, holds_nothing}
use Rattle.rd_issuer.specs.SideBySide.{RanSideBySide}
use Rattle.rd_pending.specs.declared.calls.Stage.{Stage}
use Rattle.rd_table.specs.declared.calls.PendingCall.{PendingCall}
use Rattle.rd_table.specs.declared.calls.PendingCall.TheVariants as table
use Rattle.rd_table.specs.declared.calls.PendingReply.{PendingReply}
use Rattle.rd_table.specs.declared.calls.PendingReply.TheVariants as replied
use Rattle.rd_host_front.specs.Asked.{CallMade}
use Rattle.rd_turn.specs.History.{calls_of, entry}
use Rattle.rd_turn.specs.Pass.{GoesOn}
use Rattle.rd_turn.proofs.HistoryLemmas.{All-after, All-prefix, Called-own, calls_of-append, prefix_self}
use Rattle.rd_world.specs.World.{ApplicationState}
use Rattle.rd_host_turns.specs.Turns.{TableEntry}
use Rattle.rd_host_turns.proofs.CountLemmas.{all_both, all_left, all_right, prefix_then}
use Rattle.rd_host_turns.proofs.MoveLemmas.{zeros_stay}
use Rattle.rd_host_lines.specs.Places.{ActNothing, AllRest, EndsOnce, IsNoApplications, OnlyLooks, control_call, control_calls, drop_call, look_call}
use Rattle.rd_host_lines.proofs.ControlLemmas.{ActsNone, Alone, IsBy, IsIdle, calls_by_own, controls_then, ends_once, none_act, only_call, own_act}
use Rattle.rd_host_lines.proofs.InPlayLemmas.{looked_stays, ran_stays}
use Rattle.rd_host_lines.proofs.MineLemmas.{nothing_more}
use Rattle.rd_host_lines.proofs.PassLemmas.{AreSuch, Ends, Replaces, Stays, WithTries, all_as, made_by}
use Rattle.rd_host_lines.proofs.RunLemmas.{each_pass, one_of}
use Rattle.rd_host_lines.proofs.SessionLemmas.{all_such}
use Rattle.rd_host_lines.proofs.WalkLemmas.{LooksOn, begun_call}

-- ---- lists

left_none : (xs ys : List TableEntry) → xs ++ ys ≡ [] → xs ≡ []
left_none [] ys is = refl
left_none (x ∷ xs) ys is = absurd (cc is)

right_none : (xs ys : List TableEntry) → xs ++ ys ≡ [] → ys ≡ []
right_none [] ys is = is
right_none (x ∷ xs) ys is = absurd (cc is)

pub calls_parted : (k : ℕ) (xs ys zs : List TableEntry) → xs ++ ys ≡ zs → calls_of k zs ≡ calls_of k xs ++ calls_of k ys
calls_parted k xs ys zs is = sym (ap (calls_of k) is) ∙ calls_of-append k xs ys

prefix_none : (k : ℕ) (xs ys : List TableEntry) → IsPrefix xs ys → calls_of k ys ≡ [] → calls_of k xs ≡ []
prefix_none k xs ys (more, is) none = left_none (calls_of k xs) (calls_of k more) (sym (calls_parted k xs more ys is) ∙ none)

-- ---- pass 0 goes on

-- What was joined stays, and what is split later has made no call before.
pub record GoesTo (p q : PassOfTable) : Type 0 where
  pub stays : Stays p q
  pub fresh : (k : ℕ) → p.made < k → k ≤ q.made → calls_of k p.seen ≡ []

pub goes_then : (p q r : PassOfTable) → GoesTo p q → GoesTo q r → GoesTo p r
goes_then p q r one other = record {
  stays = record {
    number = (other.stays).number;
    least = (let a = (one.stays).least in let b = (other.stays).least in omega arith);
    seen = prefix_then p.seen q.seen r.seen (one.stays).seen (other.stays).seen;
    kept = λ k n ne has. let a = (one.stays).kept k n ne has in let b = (other.stays).kept k n ne a.0 in (b.0, b.1 ∙ a.1);
  };
  fresh = λ k more le. dite (dec_le k q.made) (λ few. one.fresh k more few) (λ no. prefix_none k p.seen q.seen (one.stays).seen (other.fresh k (omega arith) le));
}

pub ran_goes : (p q : PassOfTable) (old new : List Issuer) → p.number ≡ 0 → RanSideBySide p q old new → GoesOn p q → GoesTo p q
ran_goes p q old new first ran on = record {
  stays = ran_stays 0 p q old new ran on first;
  fresh = λ k more le.
      let made = ran.made in
      let place = k - suc p.made in
      let is : suc (p.made + place) ≡ k = omega arith in
      let within : place < length old = omega arith in
      let d = one_of old (omega arith) in
      subst (λ (j : ℕ). calls_of j p.seen ≡ []) is (ran.ran place d d within).fresh;
}

pub looked_goes : (turn : TurnOfTable) (stage : Stage) (p q : PassOfTable) → p.number ≡ 0 → PassCalls turn p table.Stage (replied.Stands stage) q → GoesTo p q
looked_goes turn stage p q first calls = record { stays = looked_stays 0 turn stage p q calls first; fresh = λ k more le. let made = (calls.same).1 in absurd (omega arith) }

pub replaced_goes : (P : TableEntry → Type 0) (own last : List CallMade) (p : PassOfTable) (f : ℕ) (q : PassOfTable) (g : ℕ) → Replaces P own last p f q g → GoesTo p q
replaced_goes P own last p f q g r = record {
  stays = r.stays;
  fresh = λ k more le.
      let made = r.made in
      let next = r.next in
      let is : g ≡ k = omega arith in
      subst (λ (j : ℕ). calls_of j p.seen ≡ []) is (prefix_none g p.seen q.seen (r.stays).seen r.fresh);
}

-- nothing happens
goes_same : (p : PassOfTable) → p.number ≡ 0 → GoesTo p p
goes_same p first = record {
  stays = record { number = first; least = omega arith; seen = prefix_self p.seen; kept = λ k n ne has. (has, refl) };
  fresh = λ k more le. absurd (omega arith);
}

-- pass 0 is pass 0 still where it looked
looked_first : (turn : TurnOfTable) (n : ℕ) (p q : PassOfTable) → p.number ≡ 0 → LooksOn turn n p q → q.number ≡ 0
looked_first turn zero p q first is = ap (λ (x : PassOfTable). x.number) is ∙ first
looked_first turn (suc n) p q first (r, stage, more, calls) = (calls.same).0 ∙ looked_first turn n p r first more

looked_goes_from : (turn : TurnOfTable) (n : ℕ) (stage : Stage) (p r q : PassOfTable) → p.number ≡ 0 → LooksOn turn n p r → PassCalls turn r table.Stage (replied.Stands stage) q → GoesTo r q
looked_goes_from turn n stage p r q first more calls = looked_goes turn stage r q (looked_first turn n p r first more) calls

pub looks_goes : (turn : TurnOfTable) (n : ℕ) (p q : PassOfTable) → p.number ≡ 0 → LooksOn turn n p q → GoesTo p q
looks_goes turn zero p q first is = subst (λ (x : PassOfTable). GoesTo p x) (sym is) (goes_same p first)
looks_goes turn (suc n) p q first (r, stage, more, calls) = goes_then p r q (looks_goes turn n p r first more) (looked_goes_from turn n stage p r q first more calls)

-- The calls that applications make by what they do act no line.
issues_act_none : (a pass : ℕ) (issues : List Issue) (old new : ApplicationState) → DoesAll a old issues new → AreSuch ActsNone (calls_of_issues pass issues)
issues_act_none a pass [] old new does = tt
issues_act_none a pass (holds_nothing ∷ issues) old new (next, here, does) = issues_act_none a pass issues next new does
issues_act_none a pass (at_table asked back ∷ issues) old new (next, here, does) = (by asked back here, issues_act_none a pass issues next new does)
  where
    by : (does : PendingCall) (back : PendingReply) → Does a old (at_table does back) next → control_call does back ≡ []
    by (table.Submit application named op) (replied.Submitted answer) here = refl
    by (table.Take number) (replied.Taken answer) here = refl
    by _ _ here = absurd here

pub only_then : (xs ys : List CallMade) → OnlyLooks xs → OnlyLooks ys → OnlyLooks (xs ++ ys)
only_then [] ys one other = other
only_then (x ∷ xs) ys (here, one) other = (here, only_then xs ys one other)

-- each pass that was split is joined, but for the front's of this number
abbrev pub Others : ℕ → PassOfTable → Type 0
Others f p = (k : ℕ) → k ≢ 0 → k ≤ p.made → (k ≡ f) ⊎ ((n : ℕ) × Contains p.joined (k, n))

pub looked_others : (turn : TurnOfTable) (stage : Stage) (f : ℕ) (p q : PassOfTable) → PassCalls turn p table.Stage (replied.Stands stage) q → Others f p → Others f q
looked_others turn stage f p q calls others k ne le =
    subst (λ (l : List (ℕ × ℕ)). (k ≡ f) ⊎ ((n : ℕ) × Contains l (k, n))) (sym (calls.same).3) (others k ne (let made = (calls.same).1 in omega arith))

module _ (all : List TableEntry) (made : ℕ) where
  -- All that it has seen is in the history; of a pass that was joined it has seen all calls, and of one that is split later none.
  pub record Seen (p : PassOfTable) : Type 0 where
    pub seen : IsPrefix p.seen all
    pub least : p.made ≤ made
    pub stay : (k n : ℕ) → k ≢ 0 → Contains p.joined (k, n) → calls_of k all ≡ calls_of k p.seen
    pub later : (k : ℕ) → p.made < k → k ≤ made → calls_of k p.seen ≡ []

  pub seen_before : (p q : PassOfTable) → GoesTo p q → Seen q → Seen p
  seen_before p q goes s = record {
    seen = prefix_then p.seen q.seen all (goes.stays).seen s.seen;
    least = (let a = (goes.stays).least in let b = s.least in omega arith);
    stay = λ k n ne has. let kept = (goes.stays).kept k n ne has in s.stay k n ne kept.0 ∙ kept.1;
    later = λ k more le. dite (dec_le k q.made) (λ few. goes.fresh k more few) (λ no. prefix_none k p.seen q.seen (goes.stays).seen (s.later k (omega arith) le));
  }

  -- the calls of the front's pass that was replaced
  pub front_idle : (own : List CallMade) (p : PassOfTable) (f : ℕ) (q : PassOfTable) (g : ℕ) → f ≢ 0 → Replaces IsIdle own [] p f q g → Seen q → AreSuch IsIdle (calls_of f all)
  front_idle own p f q g ne r s = let x = r.front ne in subst (AreSuch IsIdle) (sym (s.stay f x.0 ne x.2 ∙ (x.3 ∙ append-nil x.1))) x.4

  module _ (numbers : All (λ (e : TableEntry). e.by ≤ made) all) where
    -- Each call that is added is such a one, where those of the front's pass are, those of pass 0, and those of the passes that were split meanwhile.
    pub added_such : (Q : TableEntry → Type 0) (p q : PassOfTable) (f : ℕ) (added : List TableEntry) → p.seen ++ added ≡ q.seen → Others f p → Stays p q → Seen q → AreSuch Q (calls_of f all)
        → AreSuch Q (calls_of 0 added) → ((k : ℕ) → p.made < k → k ≤ q.made → AreSuch Q (calls_of k q.seen)) → AreSuch Q added
    added_such Q p q f added is others stays s front zeros new = all_such Q made added [] added refl few each
      where
        few_seen : All (λ (e : TableEntry). e.by ≤ made) q.seen
        few_seen = All-prefix (λ (e : TableEntry). e.by ≤ made) q.seen (s.seen).0 (subst (All (λ (e : TableEntry). e.by ≤ made)) (sym (s.seen).1) numbers)

        few : All (λ (e : TableEntry). e.by ≤ made) added
        few = All-after (λ (e : TableEntry). e.by ≤ made) p.seen added (subst (All (λ (e : TableEntry). e.by ≤ made)) (sym is) few_seen)

        none : (k : ℕ) → calls_of k added ≡ [] → AreSuch Q (calls_of k added)
        none k empty = subst (AreSuch Q) (sym empty) tt

        whole : p.seen ++ (added ++ (s.seen).0) ≡ all
        whole = sym (append_assoc p.seen added (s.seen).0) ∙ (ap (λ (l : List TableEntry). l ++ (s.seen).0) is ∙ (s.seen).1)

        of_front : AreSuch Q (calls_of f added)
        of_front =
            let parted = calls_parted f p.seen (added ++ (s.seen).0) all whole ∙ ap (λ (l : List TableEntry). calls_of f p.seen ++ l) (calls_of-append f added (s.seen).0) in
            all_left Q (calls_of f added) (calls_of f (s.seen).0) (all_right Q (calls_of f p.seen) (calls_of f added ++ calls_of f (s.seen).0) (subst (AreSuch Q) parted front))

        old : (k : ℕ) → k ≢ 0 → (k ≡ f) ⊎ ((n : ℕ) × Contains p.joined (k, n)) → AreSuch Q (calls_of k added)
        old k ne (inl same) = subst (λ (j : ℕ). AreSuch Q (calls_of j added)) (sym same) of_front
        old k ne (inr (n, has)) = none k (nothing_more (calls_of k p.seen) (calls_of k added) (sym (calls_parted k p.seen added q.seen is) ∙ (stays.kept k n ne has).1))

        each : (k : ℕ) → k ≤ made → AreSuch Q (calls_of k added)
        each zero le = zeros
        each (suc k) le =
            dite (dec_le (suc k) p.made) (λ less. old (suc k) (λ z. absurd (omega arith)) (others (suc k) (λ z. absurd (omega arith)) less))
            (λ more. dite (dec_le (suc k) q.made)
            (λ less. all_right Q (calls_of (suc k) p.seen) (calls_of (suc k) added) (subst (AreSuch Q) (calls_parted (suc k) p.seen added q.seen is) (new (suc k) (omega arith) less)))
            (λ no. none (suc k) (right_none (calls_of (suc k) p.seen) (calls_of (suc k) added) (sym (calls_parted (suc k) p.seen added q.seen is) ∙ s.later (suc k) (omega arith) le))))

    idle_rest : (e : TableEntry) → IsIdle e → IsNoApplications e.call
    idle_rest e idle = idle.0

    idle_none : (e : TableEntry) → IsIdle e → ActsNone e
    idle_none e idle = idle.1

    idle_by : (w : ℕ) (e : TableEntry) → IsIdle e → IsBy w e
    idle_by w e idle = inr idle.1

    abbrev Rests : TableEntry → Type 0
    Rests e = IsNoApplications e.call

    -- where it goes on so, pass 0 made these calls
    zeros_added : (p q : PassOfTable) (added own : List TableEntry) → p.seen ++ added ≡ q.seen → calls_of 0 q.seen ≡ calls_of 0 p.seen ++ own → calls_of 0 added ≡ own
    zeros_added p q added own is so = append_cancel_left (calls_of 0 p.seen) (calls_of 0 added) own (sym (calls_parted 0 p.seen added q.seen is) ∙ so)

    -- Where applications run, no line is acted.
    pub ran_acts : (p q : PassOfTable) (f : ℕ) (old new : List Issuer) (added : List TableEntry) → p.number ≡ 0 → RanSideBySide p q old new → GoesOn p q → p.seen ++ added ≡ q.seen → Others f p → Seen q
        → AreSuch IsIdle (calls_of f all) → ActNothing added
    ran_acts p q f old new added first ran on is others s front =
        none_act added (added_such ActsNone p q f added is others (ran_goes p q old new first ran on).stays s (all_as IsIdle ActsNone idle_none (calls_of f all) front)
        (subst (AreSuch ActsNone) (sym (zeros_added p q added [] is (zeros_stay p q first on ∙ sym (append-nil (calls_of 0 p.seen))))) tt)
        (λ k more le. (each_pass p q old new ActsNone ran (λ place within.
        let d = one_of old (omega arith) in
        let issued = (ran.ran place d d within).issued in
        subst (AreSuch ActsNone) (sym issued.calls) (issues_act_none _ (suc (p.made + place)) issued.issues _ _ issued.does)) k more le).2))

    -- A look.
    pub looked_acts : (turn : TurnOfTable) (stage : Stage) (p q : PassOfTable) (f : ℕ) (added : List TableEntry) → p.number ≡ 0 → PassCalls turn p table.Stage (replied.Stands stage) q → p.seen ++ added ≡ q.seen
        → Others f p → Seen q → AreSuch IsIdle (calls_of f all) → AllRest added × (control_calls added ≡ look_call stage ∷ [])
    looked_acts turn stage p q f added first calls is others s front = (
      added_such Rests p q f added is others stays s (all_as IsIdle Rests idle_rest (calls_of f all) front) (subst (AreSuch Rests) (sym zeros) (tt, tt)) (λ k more le. absurd (none k more le)),
      own_act 0 added (added_such (IsBy 0) p q f added is others stays s (all_as IsIdle (IsBy 0) (idle_by 0) (calls_of f all) front) (subst (AreSuch (IsBy 0)) (sym zeros) (inl refl, tt)) (λ k more le. absurd (none k more le)))
          ∙ ap control_calls zeros,
    )
      where
        stays : Stays p q
        stays = (looked_goes turn stage p q first calls).stays

        zeros : calls_of 0 added ≡ entry 0 table.Stage (replied.Stands stage) ∷ []
        zeros = zeros_added p q added (entry 0 table.Stage (replied.Stands stage) ∷ []) is
            (subst (λ (n : ℕ). calls_of n q.seen ≡ calls_of n p.seen ++ entry n table.Stage (replied.Stands stage) ∷ []) first (Called-own p q table.Stage (replied.Stands stage) calls.called))

        none : (k : ℕ) → p.made < k → k ≤ q.made → ⊥
        none k more le = let made = (calls.same).1 in omega arith

    -- A channel begins.
    pub begun_acts : (channel : ℕ) (p : PassOfTable) (f : ℕ) (q : PassOfTable) (g : ℕ) (added : List TableEntry) → f ≢ 0 → Replaces IsIdle (begun_call channel) [] p f q g → p.seen ++ added ≡ q.seen
        → Others f p → Seen q → AllRest added × AreSuch (IsBy 0) added × Alone 0 added (entry 0 (table.Begin channel) (replied.Begun true))
    begun_acts channel p f q g added ne r is others s = (
      added_such Rests p q f added is others r.stays s (all_as IsIdle Rests idle_rest (calls_of f all) front) (subst (AreSuch Rests) (sym zeros) (tt, tt)) (λ k more le. none Rests k more le),
      added_such (IsBy 0) p q f added is others r.stays s (all_as IsIdle (IsBy 0) (idle_by 0) (calls_of f all) front) (subst (AreSuch (IsBy 0)) (sym zeros) (inl refl, tt)) (λ k more le. none (IsBy 0) k more le),
      only_call 0 added (entry 0 (table.Begin channel) (replied.Begun true)) zeros,
    )
      where
        front : AreSuch IsIdle (calls_of f all)
        front = front_idle (begun_call channel) p f q g ne r s

        zeros : calls_of 0 added ≡ entry 0 (table.Begin channel) (replied.Begun true) ∷ []
        zeros = zeros_added p q added (entry 0 (table.Begin channel) (replied.Begun true) ∷ []) is r.zeros

        none : (Q : TableEntry → Type 0) (k : ℕ) → p.made < k → k ≤ q.made → AreSuch Q (calls_of k q.seen)
        none Q k more le =
            let made = r.made in
            let next = r.next in
            let is : g ≡ k = omega arith in
            subst (λ (j : ℕ). AreSuch Q (calls_of j q.seen)) is (subst (AreSuch Q) (sym r.fresh) tt)

    -- A channel ends.
    pub ended_goes : (p : PassOfTable) (f : ℕ) (q : PassOfTable) (g : ℕ) → Ends IsIdle p f q g → GoesTo p q
    ended_goes p f q g (r, h, first, drops) = goes_then p r q (replaced_goes IsIdle [] [] p f r h first) (replaced_goes (WithTries IsIdle) [] (drop_call true ∷ []) r h q g drops)

    pub ended_front : (p : PassOfTable) (f : ℕ) (q : PassOfTable) (g : ℕ) → f ≢ 0 → Ends IsIdle p f q g → Seen q → AreSuch IsIdle (calls_of f all)
    ended_front p f q g ne (r, h, first, drops) s = front_idle [] p f r h ne first (seen_before r q (replaced_goes (WithTries IsIdle) [] (drop_call true ∷ []) r h q g drops) s)

    try_rests : (e : TableEntry) → WithTries IsIdle e → Rests e
    try_rests e (inl idle) = idle.0
    try_rests e (inr (call_is, reply_is)) = subst IsNoApplications (sym call_is) tt

    pub ended_acts : (p : PassOfTable) (f : ℕ) (q : PassOfTable) (g : ℕ) (added : List TableEntry) → f ≢ 0 → Ends IsIdle p f q g → p.seen ++ added ≡ q.seen → Others f p → Seen q
        → AllRest added × EndsOnce (control_calls added)
    ended_acts p f q g added ne (r, h, first, drops) is others s = (
      added_such Rests p q f added is others stays s (all_as IsIdle Rests idle_rest (calls_of f all) front) (subst (AreSuch Rests) (sym zeros) tt) (λ k more le. new Rests such_rests k more le),
      subst EndsOnce (sym (own_act h added (added_such (IsBy h) p q f added is others stays s (all_as IsIdle (IsBy h) (idle_by h) (calls_of f all) front) (subst (AreSuch (IsBy h)) (sym zeros) tt)
          (λ k more le. new (IsBy h) (all_as (λ (e : TableEntry). e.by ≡ h) (IsBy h) (λ e own. inl own) (calls_of h q.seen) (calls_by_own h q.seen)) k more le)) ∙ ap control_calls own_added))
          (ends_once h x.1 x.4),
    )
      where
        front : AreSuch IsIdle (calls_of f all)
        front = ended_front p f q g ne (r, h, first, drops) s

        stays : Stays p q
        stays = (ended_goes p f q g (r, h, first, drops)).stays

        h_not : h ≢ 0
        h_not = λ z. let next = first.next in absurd (omega arith)

        x : (n : ℕ) × (calls : List TableEntry) × Contains q.joined (h, n) × (calls_of h q.seen ≡ calls ++ made_by h (drop_call true ∷ [])) × AreSuch (WithTries IsIdle) calls
        x = drops.front h_not

        zeros : calls_of 0 added ≡ []
        zeros = zeros_added p q added [] is (drops.zeros ∙ (append-nil (calls_of 0 r.seen) ∙ first.zeros))

        own_added : calls_of h added ≡ x.1 ++ entry h table.DropSent (replied.DroppedSent true) ∷ []
        own_added =
            let fresh : calls_of h p.seen ≡ [] = (replaced_goes IsIdle [] [] p f r h first).fresh h (let next = first.next in omega arith) (let next = first.next in let made = first.made in omega arith) in
            sym (calls_parted h p.seen added q.seen is ∙ ap (λ (l : List TableEntry). l ++ calls_of h added) fresh) ∙ x.3

        such_rests : AreSuch Rests (calls_of h q.seen)
        such_rests = subst (AreSuch Rests) (sym x.3) (all_both Rests x.1 (entry h table.DropSent (replied.DroppedSent true) ∷ []) (all_as (WithTries IsIdle) Rests try_rests x.1 x.4) (tt, tt))

        new : (Q : TableEntry → Type 0) → AreSuch Q (calls_of h q.seen) → (k : ℕ) → p.made < k → k ≤ q.made → AreSuch Q (calls_of k q.seen)
        new Q such k more le =
            dite (dec_le k h) (λ few. let next = first.next in let is : h ≡ k = omega arith in subst (λ (j : ℕ). AreSuch Q (calls_of j q.seen)) is such)
            (λ no.
            let next = first.next in
            let made = first.made in
            let last = drops.next in
            let made_more = drops.made in
            let is : g ≡ k = omega arith in
            subst (λ (j : ℕ). AreSuch Q (calls_of j q.seen)) is (subst (AreSuch Q) (sym drops.fresh) tt))

    -- Looks, one after the other.
    pub record HasLookedOn (f : ℕ) (p q : PassOfTable) : Type 0 where
      pub first : q.number ≡ 0
      pub goes : GoesTo p q
      pub others : Others f q
      pub added : List TableEntry
      pub is : p.seen ++ added ≡ q.seen
      pub rest : AllRest added
      pub looks : OnlyLooks (control_calls added)

    pub looks_on_act : (turn : TurnOfTable) (n : ℕ) (p q : PassOfTable) (f : ℕ) → p.number ≡ 0 → LooksOn turn n p q → Others f p → Seen q → AreSuch IsIdle (calls_of f all) → HasLookedOn f p q
    looks_on_act turn zero p q f first is others s front =
        let same : p.seen ++ [] ≡ q.seen = append-nil p.seen ∙ sym (ap (λ (x : PassOfTable). x.seen) is) in
        record {
          first = ap (λ (x : PassOfTable). x.number) is ∙ first;
          goes = subst (λ (x : PassOfTable). GoesTo p x) (sym is) (goes_same p first);
          others = subst (Others f) (sym is) others;
          added = [];
          is = same;
          rest = tt;
          looks = tt;
        }
    looks_on_act turn (suc n) p q f first (r, stage, more, calls) others s front =
        let l = looks_on_act turn n p r f first more others (seen_before r q (looked_goes_from turn n stage p r q first more calls) s) front in
        let goes = looked_goes turn stage r q l.first calls in
        let added = ((goes.stays).seen).0 in
        let acts = looked_acts turn stage r q f added l.first calls ((goes.stays).seen).1 l.others s front in
        record {
          first = (goes.stays).number;
          goes = goes_then p r q l.goes goes;
          others = looked_others turn stage f r q calls l.others;
          added = l.added ++ added;
          is = sym (append_assoc p.seen l.added added) ∙ (ap (λ (xs : List TableEntry). xs ++ added) l.is ∙ ((goes.stays).seen).1);
          rest = all_both Rests l.added added l.rest acts.0;
          looks = subst OnlyLooks (sym (controls_then l.added added)) (only_then (control_calls l.added) (control_calls added) l.looks (subst OnlyLooks (sym acts.1) ((stage, refl), tt)));
        }
