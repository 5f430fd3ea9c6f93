-- What is kept while a script is played, by each thing that the calling thread does and by applications that run, holds at the end of it.
use Rattle.std.proofs.Common.{◌≡◌, ◌≢◌, ◌∙◌, ◌⊎◌, inl, inr, sym, subst, ℕ, zero, suc, ◌<◌, ◌≤◌, true, List, [], ◌∷◌, ◌++◌, Contains, arith}
use Rattle.std.proofs.lemmas.List.Elements.{Contains-append_right}
use mathlib.Core.List.{IsPrefix}
use mathlib.Core.Logic.{dite}
use native.Mathlib.Decide.{dec_le}
use Rattle.rd_host_front.specs.Asked.{CallMade}
use Rattle.rd_host_front.specs.State.{PassCalls, PassOfTable, TurnOfTable}
use Rattle.rd_host_player.specs.declared.plan.Control.{Control}
use Rattle.rd_host_player.specs.declared.plan.Control.TheVariants as control
use Rattle.rd_host_player.specs.Play.{HasCome}
use Rattle.rd_issuer.specs.declared.issuer.Issuer.{Issuer}
use Rattle.rd_issuer.specs.SideBySide.{RanSideBySide}
use Rattle.rd_pending.specs.declared.calls.Stage.{Stage}
use Rattle.rd_script.specs.declared.line.NumberedLine.{NumberedLine}
use Rattle.rd_table.specs.declared.calls.PendingCall.{PendingCall}
use Rattle.rd_table.specs.declared.calls.PendingCall.TheVariants as table
use Rattle.rd_table.specs.declared.calls.PendingReply.{PendingReply}
use Rattle.rd_table.specs.declared.calls.PendingReply.TheVariants as replied
use Rattle.rd_turn.specs.History.{calls_of, entry}
use Rattle.rd_turn.specs.Pass.{GoesOn, IsSamePass}
use Rattle.rd_turn.proofs.HistoryLemmas.{Called-joined, Called-own, Called-prefix, GoesOn-joined, GoesOn-prefix, prefix_self}
use Rattle.rd_host_turns.specs.Turns.{TableEntry}
use Rattle.rd_host_turns.proofs.CountLemmas.{all_both, prefix_then}
use Rattle.rd_host_turns.proofs.MoveLemmas.{zeros_stay}
use Rattle.rd_host_lines.specs.Places.{drop_call}
use Rattle.rd_host_lines.proofs.PassLemmas.{Anew, AreSuch, Ends, Good, Replaces, WithTries, anew_good, made_by, replaced_anew, replaced_as}
use Rattle.rd_host_lines.proofs.FrontLemmas.{IsFronts}
use Rattle.rd_host_lines.proofs.WalkLemmas.{LooksOn, Meets, Mode, Spot, Walks, begun_call, going, over, playing, spot}

-- What is to be shown of calls of the table, with what is kept of the applications meanwhile: each call that no application makes is such a one; and so are those of applications that run.
pub record Keeping (P : TableEntry → Type 0) (Fit : List Issuer → Type 0) (all : List TableEntry) : Type 0 where
  pub such : (by : ℕ) (does : PendingCall) (back : PendingReply) → IsFronts does → P (entry by does back)
  pub queue : (l : NumberedLine) (old new : List Issuer) → HasCome l.line old new → Fit old → Fit new
  pub runs : (before after : PassOfTable) (old new : List Issuer) → RanSideBySide before after old new → IsPrefix after.seen all → Fit old
      → Fit new × ((k : ℕ) → before.made < k → k ≤ after.made → (n : ℕ) × Contains after.joined (k, n) × AreSuch P (calls_of k after.seen))

-- The same where what is kept is of the front's pass by its number, of pass 0, of the lines that are left and of the applications.
pub record Carrying (P : TableEntry → Type 0) (Inv : ℕ → PassOfTable → List NumberedLine → List Issuer → Type 0) (all : List TableEntry) : Type 0 where
  pub such : (by : ℕ) (does : PendingCall) (back : PendingReply) → IsFronts does → P (entry by does back)
  pub first : (f : ℕ) (p : PassOfTable) (lines : List NumberedLine) (issuers : List Issuer) → Inv f p lines issuers → p.number ≡ 0
  pub comes : (f : ℕ) (p : PassOfTable) (l : NumberedLine) (lines : List NumberedLine) (old new : List Issuer) → HasCome l.line old new → Inv f p (l ∷ lines) old → Inv f p lines new
  pub runs : (f : ℕ) (p q : PassOfTable) (lines : List NumberedLine) (old new : List Issuer) → RanSideBySide p q old new → GoesOn p q → IsPrefix q.seen all → Inv f p lines old → Inv f q lines new
  pub looks : (turn : TurnOfTable) (stage : Stage) (f : ℕ) (p q : PassOfTable) (lines : List NumberedLine) (issuers : List Issuer) → PassCalls turn p table.Stage (replied.Stands stage) q
      → Inv f p lines issuers → Inv f q lines issuers
  pub anew : (lines : List NumberedLine) (issuers : List Issuer) (p q : PassOfTable) (f g : ℕ) → Anew P p f q g → Inv f p lines issuers → Inv g q lines issuers

module _ (P : TableEntry → Type 0) (Fit : List Issuer → Type 0) (all : List TableEntry) (keeping : Keeping P Fit all) where
  ran_good : (f : ℕ) (p q : PassOfTable) (old new : List Issuer) → RanSideBySide p q old new → GoesOn p q → IsPrefix q.seen all → Good P f p → Fit old → Good P f q × Fit new
  ran_good f p q old new ran on prefix good fit =
      let done = keeping.runs p q old new ran prefix fit in (
        record {
          first = ran.first;
          own = subst (AreSuch P) (sym (zeros_stay p q good.first on)) good.own;
          each = λ k ne le. dite (dec_le k p.made) (λ few. was k (good.each k ne few)) (λ more. inr (done.1 k (omega arith) le));
        },
        done.0,
      )
    where
      was : (k : ℕ) → (k ≡ f) ⊎ ((n : ℕ) × Contains p.joined (k, n) × AreSuch P (calls_of k p.seen)) → (k ≡ f) ⊎ ((n : ℕ) × Contains q.joined (k, n) × AreSuch P (calls_of k q.seen))
      was k (inl is) = inl is
      was k (inr (n, has, are)) = inr (
        n,
        subst (λ (l : List (ℕ × ℕ)). Contains l (k, n)) (sym (ran.kept).1) (Contains-append_right (ran.kept).0 p.joined (k, n) has),
        subst (AreSuch P) (sym (GoesOn-joined p q k n good.first has on)) are,
      )

  looked_good : (turn : TurnOfTable) (stage : Stage) (f : ℕ) (p q : PassOfTable) → PassCalls turn p table.Stage (replied.Stands stage) q → Good P f p → Good P f q
  looked_good turn stage f p q calls good = record {
    first = same.0 ∙ good.first;
    own = subst (AreSuch P) (sym own) (all_both P (calls_of 0 p.seen) (entry 0 table.Stage (replied.Stands stage) ∷ []) good.own (keeping.such 0 table.Stage (replied.Stands stage) tt, tt));
    each = λ k ne le. was k ne (good.each k ne (let made = same.1 in omega arith));
  }
    where
      same : IsSamePass p q
      same = calls.same

      own : calls_of 0 q.seen ≡ calls_of 0 p.seen ++ entry 0 table.Stage (replied.Stands stage) ∷ []
      own = subst (λ (n : ℕ). calls_of n q.seen ≡ calls_of n p.seen ++ entry n table.Stage (replied.Stands stage) ∷ []) good.first (Called-own p q table.Stage (replied.Stands stage) calls.called)

      was : (k : ℕ) → k ≢ 0 → (k ≡ f) ⊎ ((n : ℕ) × Contains p.joined (k, n) × AreSuch P (calls_of k p.seen)) → (k ≡ f) ⊎ ((n : ℕ) × Contains q.joined (k, n) × AreSuch P (calls_of k q.seen))
      was k ne (inl is) = inl is
      was k ne (inr (n, has, are)) = inr (
        n,
        subst (λ (l : List (ℕ × ℕ)). Contains l (k, n)) (sym same.3) has,
        subst (AreSuch P) (sym (Called-joined p q table.Stage (replied.Stands stage) k n good.first ne has calls.called)) are,
      )

  -- what keeps so carries what is kept
  abbrev pub GoodFit : ℕ → PassOfTable → List NumberedLine → List Issuer → Type 0
  GoodFit f p lines issuers = Good P f p × Fit issuers

  pub carrying_of : Carrying P GoodFit all
  carrying_of = record {
    such = keeping.such;
    first = λ f p lines issuers (own : GoodFit f p lines issuers). (own.0).first;
    comes = λ f p l lines old new has (own : GoodFit f p (l ∷ lines) old). (own.0, keeping.queue l old new has own.1);
    runs = λ f p q lines old new ran on prefix (own : GoodFit f p lines old). ran_good f p q old new ran on prefix own.0 own.1;
    looks = λ turn stage f p q lines issuers calls (own : GoodFit f p lines issuers). (looked_good turn stage f p q calls own.0, own.1);
    anew = λ lines issuers p q f g one (own : GoodFit f p lines issuers). (anew_good P p q f g one own.0, own.1);
  }

module _ (P : TableEntry → Type 0) (Inv : ℕ → PassOfTable → List NumberedLine → List Issuer → Type 0) (all : List TableEntry) where
  abbrev pub Holds : Spot → Type 0
  Holds x = Inv x.front x.first x.lines x.issuers

  -- What pass 0 had seen it has seen then; and what is kept holds then too, where all that it has seen is of the history.
  abbrev pub Carries : Spot → Spot → Type 0
  Carries x y = IsPrefix (x.first).seen (y.first).seen × (IsPrefix (y.first).seen all → Holds x → Holds y)

  carries_then : (x y z : Spot) → Carries x y → Carries y z → Carries x z
  carries_then x y z (seen, one) (more, other) = (
    prefix_then (x.first).seen (y.first).seen (z.first).seen seen more,
    λ prefix own. other prefix (one (prefix_then (y.first).seen (z.first).seen all more prefix) own),
  )

  module _ (keeping : Carrying P Inv all) where
    try_such : (e : TableEntry) → WithTries P e → P e
    try_such e (inl is) = is
    try_such e (inr (call_is, reply_is)) = keeping.such e.by e.call e.reply (subst IsFronts (sym call_is) tt)

    runs : (m : Mode) (f : ℕ) (p q : PassOfTable) (lines : List NumberedLine) (old new : List Issuer) → RanSideBySide p q old new → GoesOn p q → Carries (spot m f p lines old) (spot m f q lines new)
    runs m f p q lines old new ran on = (GoesOn-prefix p q on, λ prefix own. keeping.runs f p q lines old new ran on prefix own)

    comes : (m : Mode) (f : ℕ) (p : PassOfTable) (l : NumberedLine) (lines : List NumberedLine) (old new : List Issuer) → HasCome l.line old new → Carries (spot m f p (l ∷ lines) old) (spot m f p lines new)
    comes m f p l lines old new has = (prefix_self p.seen, λ prefix own. keeping.comes f p l lines old new has own)

    meets : (c : Control) (m : Mode) (f : ℕ) (p q : PassOfTable) (l : NumberedLine) (lines : List NumberedLine) (old new : List Issuer) → Meets c l p q old new
        → Carries (spot m f p (l ∷ lines) old) (spot m f q lines new)
    meets c m f p q l lines old new x =
        carries_then (spot m f p (l ∷ lines) old) (spot m f q (l ∷ lines) x.between) (spot m f q lines new) (runs m f p q (l ∷ lines) old x.between x.ran x.on)
        (comes m f q l lines x.between new x.comes)

    looks : (turn : TurnOfTable) (stage : Stage) (m : Mode) (f : ℕ) (p q : PassOfTable) (lines : List NumberedLine) (issuers : List Issuer) → PassCalls turn p table.Stage (replied.Stands stage) q
        → Carries (spot m f p lines issuers) (spot m f q lines issuers)
    looks turn stage m f p q lines issuers calls =
        (Called-prefix p q table.Stage (replied.Stands stage) calls.called, λ prefix own. keeping.looks turn stage f p q lines issuers calls own)

    looks_on : (turn : TurnOfTable) (n : ℕ) (m : Mode) (f : ℕ) (p q : PassOfTable) (lines : List NumberedLine) (issuers : List Issuer) → LooksOn turn n p q
        → Carries (spot m f p lines issuers) (spot m f q lines issuers)
    looks_on turn zero m f p q lines issuers is =
        subst (λ (x : PassOfTable). Carries (spot m f p lines issuers) (spot m f x lines issuers)) (sym is) (prefix_self p.seen, λ prefix own. own)
    looks_on turn (suc n) m f p q lines issuers (r, stage, more, calls) =
        carries_then (spot m f p lines issuers) (spot m f r lines issuers) (spot m f q lines issuers) (looks_on turn n m f p r lines issuers more) (looks turn stage m f r q lines issuers calls)

    anew : (own last : List CallMade) (m : Mode) (f g : ℕ) (p q : PassOfTable) (lines : List NumberedLine) (issuers : List Issuer) → AreSuch P (made_by 0 own) → AreSuch P (made_by f last)
        → Replaces P own last p f q g → Carries (spot m f p lines issuers) (spot m g q lines issuers)
    anew own last m f g p q lines issuers zeros ends r =
        ((r.stays).seen, λ prefix kept. keeping.anew lines issuers p q f g (replaced_anew P own last p f q g zeros ends r) kept)

    ends : (m : Mode) (f g : ℕ) (p q : PassOfTable) (lines : List NumberedLine) (issuers : List Issuer) → Ends P p f q g → Carries (spot m f p lines issuers) (spot m g q lines issuers)
    ends m f g p q lines issuers (r, h, first, drops) =
        carries_then (spot m f p lines issuers) (spot m h r lines issuers) (spot m g q lines issuers) (anew [] [] m f h p r lines issuers tt tt first)
        (anew [] (drop_call true ∷ []) m h g r q lines issuers tt (keeping.such h table.DropSent (replied.DroppedSent true) tt, tt)
        (replaced_as (WithTries P) P try_such [] (drop_call true ∷ []) r h q g drops))

    pub walks : (turn : TurnOfTable) (devices : ℕ) → Walks P turn devices Carries
    walks turn devices = record {
      same = λ x. (prefix_self (x.first).seen, λ prefix own. own);
      joins = carries_then;
      comes = λ b f p l lines old new first none has. comes (going b) f p l lines old new has;
      runs = λ b f p q lines old new first ran on. runs (going b) f p q lines old new ran on;
      drops = λ f g p q r l lines old new x end.
          carries_then (spot playing f p (l ∷ lines) old) (spot playing f q lines new) (spot playing g r lines new) (meets control.Drop playing f p q l lines old new x) (ends playing f g q r lines new end);
      stays = λ stage f p q r l lines old new x calls is_open.
          carries_then (spot playing f p (l ∷ lines) old) (spot playing f q lines new) (spot playing f r lines new) (meets control.Connect playing f p q l lines old new x) (looks turn stage playing f q r lines new calls);
      stops = λ stage f p q r l lines old new x calls is_open.
          carries_then (spot playing f p (l ∷ lines) old) (spot playing f q lines new) (spot playing f r lines new) (meets control.Connect playing f p q l lines old new x) (looks turn stage playing f q r lines new calls);
      begins = λ channel n stage f g p q r s lines issuers first replaces looked calls ready.
          carries_then (spot playing f p lines issuers) (spot playing g r lines issuers) (spot playing g s lines issuers)
          (carries_then (spot playing f p lines issuers) (spot playing g q lines issuers) (spot playing g r lines issuers)
          (anew (begun_call channel) [] playing f g p q lines issuers (keeping.such 0 (table.Begin channel) (replied.Begun true) tt, tt) tt replaces) (looks_on turn n playing g q r lines issuers looked))
          (looks turn stage playing g r s lines issuers calls);
      gives_up = λ f p lines issuers. (prefix_self p.seen, λ prefix own. own);
      passes = λ c f p q l lines old new x. meets c over f p q l lines old new x;
      ends = λ f g p q r old new first ran on end.
          carries_then (spot over f p [] old) (spot over f q [] new) (spot over g r [] new) (runs over f p q [] old new ran on) (ends over f g q r [] new end);
    }
