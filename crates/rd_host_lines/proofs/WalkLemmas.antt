-- What relates each thing that a host's calling thread does, with what it makes of pass 0 of the table and of the front's pass, relates all that it does on a channel, and where no channel begins any more.
use Rattle.std.proofs.Common.{◌≡◌, ◌≢◌, ◌∙◌, inl, inr, refl, sym, ap, subst, ℕ, zero, suc, ◌==◌, Bool, true, false, List, [], ◌∷◌, ◌++◌, append_assoc, append-nil, Contains, Some, None, arith, eq-eqb, ne_eqb}
use Rattle.std.specs.List.{AllByRecursion}
use Rattle.rd_host_channel.specs.Calls.{HostEntry}
use Rattle.rd_host_front.specs.declared.calls.Came.{Came}
use Rattle.rd_host_front.specs.declared.calls.Came.TheVariants as came
use Rattle.rd_host_front.specs.declared.calls.HostFrontCall.{HostFrontCall}
use Rattle.rd_host_front.specs.declared.calls.HostFrontCall.TheVariants as call
use Rattle.rd_host_front.specs.declared.calls.HostFrontReply.{HostFrontReply}
use Rattle.rd_host_front.specs.declared.calls.HostFrontReply.TheVariants as reply
use Rattle.rd_host_front.specs.State.{PassCalls, PassOfTable, TurnOfTable}
use Rattle.rd_host_player.specs.declared.plan.Control.{Control}
use Rattle.rd_host_player.specs.declared.plan.Control.TheVariants as control
use Rattle.rd_host_player.specs.declared.player.Stop.{Stop}
use Rattle.rd_host_player.specs.declared.player.Stop.TheVariants as stop
use Rattle.rd_host_player.specs.Plan.{acted_by}
use Rattle.rd_host_player.specs.Play.{Acted, Acts, Begins, CallsFront, CameTo, ComesTo, ComesToControl, Ended, HasCome, IsReady, Issued, Looked, Looks, Passed, PlayState, Plays, PlaysOut, Ran, Runs, Stops, Tried, TriesToEnd, Waited}
use Rattle.rd_issuer.specs.declared.issuer.Issuer.{Issuer}
use Rattle.rd_issuer.specs.SideBySide.{RanSideBySide}
use Rattle.rd_pending.specs.declared.calls.Stage.{Stage}
use Rattle.rd_script.specs.declared.line.NumberedLine.{NumberedLine}
use Rattle.rd_table.specs.declared.calls.PendingCall.TheVariants as table
use Rattle.rd_table.specs.declared.calls.PendingReply.TheVariants as replied
use Rattle.rd_turn.specs.History.{calls_of, entry}
use Rattle.rd_turn.specs.Pass.{GoesOn}
use Rattle.rd_turn.proofs.HistoryLemmas.{Called-joined, Called-own}
use Rattle.rd_host_front.specs.Asked.{CallMade}
use Rattle.rd_host_turns.specs.Turns.{TableEntry}
use Rattle.rd_host_turns.proofs.CountLemmas.{all_both}
use Rattle.rd_host_lines.proofs.PassLemmas.{Ends, Replaces}
use Rattle.rd_host_lines.proofs.FrontLemmas.{HearsSafe, Hop, Hops, Tries, hops_parted}

-- ---- where it stands

-- A channel is to begin, if one can be had; one is played; none begins or ends any more.
pub data Mode : Type 0 where
  opening playing over : Mode

-- by whether channels begin and end still
abbrev pub going : Bool → Mode
going true = playing
going false = over

-- With that, the number of the front's pass of the table, pass 0, the lines that are left, and the applications.
pub record Spot : Type 0 where
  pub mode : Mode
  pub front : ℕ
  pub first : PassOfTable
  pub lines : List NumberedLine
  pub issuers : List Issuer

abbrev pub spot : Mode → ℕ → PassOfTable → List NumberedLine → List Issuer → Spot
spot mode front first lines issuers = record { mode = mode; front = front; first = first; lines = lines; issuers = issuers }

-- Applications ran, and rest. Then it comes to a line that it acts itself.
pub record Meets (c : Control) (l : NumberedLine) (p q : PassOfTable) (old new : List Issuer) : Type 0 where
  pub first : p.number ≡ 0
  pub between : List Issuer
  pub ran : RanSideBySide p q old between
  pub on : GoesOn p q
  pub acted : acted_by l.line ≡ Some c
  pub comes : HasCome l.line between new

-- Pass 0 looks so often.
abbrev pub LooksOn : TurnOfTable → ℕ → PassOfTable → PassOfTable → Type 0
LooksOn turn zero p q = q ≡ p
LooksOn turn (suc n) p q = (r : PassOfTable) × (stage : Stage) × LooksOn turn n p r × PassCalls turn r table.Stage (replied.Stands stage) q

-- the call of pass 0 by which a channel began
abbrev pub begun_call : ℕ → List CallMade
begun_call channel = (table.Begin channel, replied.Begun true) ∷ []

-- Each thing that is done relates where it stood before to where it stands then, and so does one thing after another.
pub record Walks (P : TableEntry → Type 0) (turn : TurnOfTable) (devices : ℕ) (R : Spot → Spot → Type 0) : Type 0 where
  pub same : (x : Spot) → R x x
  pub joins : (x y z : Spot) → R x y → R y z → R x z
  pub comes : (b : Bool) (f : ℕ) (p : PassOfTable) (l : NumberedLine) (lines : List NumberedLine) (old new : List Issuer) → p.number ≡ 0 → acted_by l.line ≡ None → HasCome l.line old new
      → R (spot (going b) f p (l ∷ lines) old) (spot (going b) f p lines new)
  pub runs : (b : Bool) (f : ℕ) (p q : PassOfTable) (lines : List NumberedLine) (old new : List Issuer) → p.number ≡ 0 → RanSideBySide p q old new → GoesOn p q
      → R (spot (going b) f p lines old) (spot (going b) f q lines new)
  pub drops : (f g : ℕ) (p q r : PassOfTable) (l : NumberedLine) (lines : List NumberedLine) (old new : List Issuer) → Meets control.Drop l p q old new → Ends P q f r g
      → R (spot playing f p (l ∷ lines) old) (spot playing g r lines new)
  pub stays : (stage : Stage) (f : ℕ) (p q r : PassOfTable) (l : NumberedLine) (lines : List NumberedLine) (old new : List Issuer) → Meets control.Connect l p q old new
      → PassCalls turn q table.Stage (replied.Stands stage) r → stage.channel ≡ true → R (spot playing f p (l ∷ lines) old) (spot playing f r lines new)
  pub stops : (stage : Stage) (f : ℕ) (p q r : PassOfTable) (l : NumberedLine) (lines : List NumberedLine) (old new : List Issuer) → Meets control.Connect l p q old new
      → PassCalls turn q table.Stage (replied.Stands stage) r → stage.channel ≡ false → R (spot playing f p (l ∷ lines) old) (spot opening f r lines new)
  pub begins : (channel n : ℕ) (stage : Stage) (f g : ℕ) (p q r s : PassOfTable) (lines : List NumberedLine) (issuers : List Issuer) → p.number ≡ 0 → Replaces P (begun_call channel) [] p f q g
      → LooksOn turn n q r → PassCalls turn r table.Stage (replied.Stands stage) s → IsReady devices stage → R (spot opening f p lines issuers) (spot playing g s lines issuers)
  pub gives_up : (f : ℕ) (p : PassOfTable) (lines : List NumberedLine) (issuers : List Issuer) → R (spot opening f p lines issuers) (spot over f p lines issuers)
  pub passes : (c : Control) (f : ℕ) (p q : PassOfTable) (l : NumberedLine) (lines : List NumberedLine) (old new : List Issuer) → Meets c l p q old new
      → R (spot over f p (l ∷ lines) old) (spot over f q lines new)
  pub ends : (f g : ℕ) (p q r : PassOfTable) (old new : List Issuer) → p.number ≡ 0 → RanSideBySide p q old new → GoesOn p q → Ends P q f r g
      → R (spot playing f p [] old) (spot over g r [] new)

module _ {F W : Type 0} where
  abbrev pub at : Mode → ℕ → PlayState F W → Spot
  at mode f s = spot mode f s.first s.lines s.issuers

  -- its pass of the front is pass 0 of that, and so is its pass of the table
  abbrev pub HasFirsts : PlayState F W → Type 0
  HasFirsts s = ((s.front).number ≡ 0) × ((s.first).number ≡ 0)

  -- It meets the next line.
  meets_so : (c : Control) (old here new : PlayState F W) → (old.first).number ≡ 0 → Runs old here → ComesToControl c here new
      → (l : NumberedLine) × (old.lines ≡ l ∷ new.lines) × Meets c l old.first new.first old.issuers new.issuers × (new.front ≡ old.front)
  meets_so c old here new first (ran, on, is) (l, (lines, has, so), acted) =
      let same : here.first ≡ new.first = sym (ap (λ (s : PlayState F W). s.first) so) in (
        l,
        sym (ap (λ (s : PlayState F W). s.lines) is) ∙ lines,
        record {
          first = first;
          between = here.issuers;
          ran = subst (λ (q : PassOfTable). RanSideBySide old.first q old.issuers here.issuers) same ran;
          on = subst (λ (q : PassOfTable). GoesOn old.first q) same on;
          acted = acted;
          comes = has;
        },
        ap (λ (s : PlayState F W). s.front) so ∙ ap (λ (s : PlayState F W). s.front) is,
      )

-- ---- by which calls of the front

module _ (P : TableEntry → Type 0) where
  -- What is known of the front's pass and of pass 0 before and after tries in vain to end a channel.
  abbrev After : ℕ → PassOfTable → PassOfTable → Bool → ℕ → Bool → ℕ → Type 0
  After zero p q b f c g = (c ≡ b) × (g ≡ f) × (q ≡ p)
  After (suc n) p q b f c g = b ≡ false → (c ≡ true) × Replaces P [] [] p f q g

  zero_first : (n : ℕ) → (suc n == 0) ≡ true → ⊥
  zero_first n is = absurd (cc (ne_eqb (suc n) 0 (λ z. absurd (omega arith)), is))

  after_more : (n : ℕ) (anew : Bool) (p q r : PassOfTable) (b : Bool) (f : ℕ) (c : Bool) (g : ℕ) (d : Bool) (h : ℕ) → (n == 0) ≡ anew → q.number ≡ 0 → After n p q b f c g
      → Tries P anew came.NotYet c g q r d h → After (suc n) p r b f d h
  after_more zero true p q r b f c g d h is first (c_is, g_is, same) tries = λ b_is.
      let t = subst (λ (x : Bool). Tries P true came.NotYet x g q r d h) (c_is ∙ b_is) tries in
      (t.0, subst (λ (x : PassOfTable). Replaces P [] [] x f r h) same (subst (λ (n : ℕ). Replaces P [] [] q n r h) g_is (t.1 first)))
  after_more zero false p q r b f c g d h is first after tries = absurd (cc (eq-eqb 0 0 refl, is))
  after_more (suc n) true p q r b f c g d h is first after tries = absurd (zero_first n is)
  after_more (suc n) false p q r b f c g d h is first after tries = λ b_is.
      let a = after b_is in
      let t = subst (λ (x : Bool). Tries P false came.NotYet x g q r d h) a.0 tries in
      (t.0, subst (λ (x : PassOfTable). Replaces P [] [] p f x h) (sym t.2) (subst (λ (n : ℕ). Replaces P [] [] p f q n) (sym t.1) a.1))

  -- and where it ended
  after_all : (n : ℕ) (anew : Bool) (p q r : PassOfTable) (b : Bool) (f : ℕ) (c : Bool) (g : ℕ) (d : Bool) (h : ℕ) → (n == 0) ≡ anew → q.number ≡ 0 → After n p q b f c g
      → Tries P anew came.Done c g q r d h → b ≡ false → (d ≡ false) × Ends P p f r h
  after_all zero true p q r b f c g d h is first (c_is, g_is, same) tries = λ b_is.
      let t = subst (λ (x : Bool). Tries P true came.Done x g q r d h) (c_is ∙ b_is) tries in
      (t.0, subst (λ (x : PassOfTable). Ends P x f r h) same (subst (λ (n : ℕ). Ends P q n r h) g_is (t.1 first)))
  after_all zero false p q r b f c g d h is first after tries = absurd (cc (eq-eqb 0 0 refl, is))
  after_all (suc n) true p q r b f c g d h is first after tries = absurd (zero_first n is)
  after_all (suc n) false p q r b f c g d h is first after tries = λ b_is.
      let a = after b_is in
      let t = subst (λ (x : Bool). Tries P false came.Done x g q r d h) a.0 tries in
      (t.0, (q, g, a.1, t.1 first))

  -- what is known where it ended
  abbrev Closes : PassOfTable → PassOfTable → Bool → ℕ → Bool → ℕ → Type 0
  Closes p q b f c g = b ≡ false → (c ≡ false) × Ends P p f q g

-- nothing changes
abbrev Still : Bool → ℕ → Bool → ℕ → Type 0
Still b f c g = (c ≡ b) × (g ≡ f)

-- where it stands when it stops
abbrev pub stopped : Stop → Mode
stopped stop.Connect = opening
stopped stop.End = over

module _ {F W : Type 0} (P : TableEntry → Type 0) where
  -- What was done, by these calls of the front, which its pass has made more, and what follows from what they make of the front's pass of the table. What was joined stays.
  pub record Walked (G : Bool → ℕ → Bool → ℕ → Type 0) (old new : PlayState F W) : Type 0 where
    pub number : (new.front).number ≡ 0
    pub first_number : (new.first).number ≡ 0
    pub made : (new.front).made ≡ (old.front).made
    pub calls : List (HostEntry W)
    pub safe : AllByRecursion (λ (e : HostEntry W). HearsSafe e.call) calls
    pub own : calls_of 0 (new.front).seen ≡ calls_of 0 (old.front).seen ++ calls
    pub kept : (k n : ℕ) → k ≢ 0 → Contains (old.front).joined (k, n) → Contains (new.front).joined (k, n) × (calls_of k (new.front).seen ≡ calls_of k (old.front).seen)
    pub goes : (b : Bool) (f : ℕ) (c : Bool) (g : ℕ) → Hops P b f calls c g → G b f c g

  pub firsts : (G : Bool → ℕ → Bool → ℕ → Type 0) (old new : PlayState F W) → Walked G old new → HasFirsts new
  firsts G old new w = (w.number, w.first_number)

  walked_then : (G H K : Bool → ℕ → Bool → ℕ → Type 0) (x y z : PlayState F W) → Walked G x y → Walked H y z
      → ((b : Bool) (f : ℕ) (c : Bool) (g : ℕ) (d : Bool) (h : ℕ) → G b f c g → H c g d h → K b f d h) → Walked K x z
  walked_then G H K x y z one other both = record {
    number = other.number;
    first_number = other.first_number;
    made = other.made ∙ one.made;
    calls = one.calls ++ other.calls;
    safe = all_both (λ (e : HostEntry W). HearsSafe e.call) one.calls other.calls one.safe other.safe;
    own = other.own ∙ (ap (λ l. l ++ other.calls) one.own ∙ append_assoc (calls_of 0 (x.front).seen) one.calls other.calls);
    kept = λ k n ne has. let here = one.kept k n ne has in let there = other.kept k n ne here.0 in (there.0, there.1 ∙ here.1);
    goes = λ b f d h hops.
        let (c, g, xs, ys) = hops_parted P b f d h one.calls other.calls hops in
        both b f c g d h (one.goes b f c g xs) (other.goes c g d h ys);
  }

  -- without a call of the front
  alone : (G : Bool → ℕ → Bool → ℕ → Type 0) (old new : PlayState F W) → (old.front).number ≡ 0 → (new.first).number ≡ 0 → new.front ≡ old.front → ((b : Bool) (f : ℕ) → G b f b f) → Walked G old new
  alone G old new number first front same = record {
    number = ap (λ (x : _). x.number) front ∙ number;
    first_number = first;
    made = ap (λ (x : _). x.made) front;
    calls = [];
    safe = tt;
    own = ap (λ (x : _). calls_of 0 x.seen) front ∙ sym (append-nil (calls_of 0 (old.front).seen));
    kept = λ k n ne has. (subst (λ (x : _). Contains x.joined (k, n)) (sym front) has, ap (λ (x : _). calls_of k x.seen) front);
    goes = λ b f c g is. subst (λ (x : Bool). G b f x g) (sym is.0) (subst (λ (n : ℕ). G b f b n) (sym is.1) (same b f));
  }

  -- by one call, to which pass 0 of the table is handed
  called : (G : Bool → ℕ → Bool → ℕ → Type 0) (old new : PlayState F W) (does : HostFrontCall W) (back : HostFrontReply W) → (old.front).number ≡ 0 → (new.first).number ≡ 0
      → CallsFront does back old.front new.front → HearsSafe does → ((b : Bool) (f : ℕ) (c : Bool) (g : ℕ) → Hop P b f does back c g → G b f c g) → Walked G old new
  called G old new does back number first (same, made) safe goes = record {
    number = same.0 ∙ number;
    first_number = first;
    made = same.1;
    calls = entry 0 does back ∷ [];
    safe = (safe, tt);
    own = subst (λ (n : ℕ). calls_of n (new.front).seen ≡ calls_of n (old.front).seen ++ entry n does back ∷ []) number (Called-own old.front new.front does back made);
    kept = λ k n ne has. (subst (λ (l : List (ℕ × ℕ)). Contains l (k, n)) (sym same.3) has, Called-joined old.front new.front does back k n number ne has made);
    goes = λ b f c g (d, h, hop, is).
        goes b f c g (subst (λ (x : Bool). Hop P b f does back x g) (sym is.0) (subst (λ (n : ℕ). Hop P b f does back d n) (sym is.1) hop));
  }

  -- ---- the end of a channel

  try_so : (anew : Bool) (what : Came) (old new : PlayState F W) → HasFirsts old → TriesToEnd anew what old new → Walked (λ b f c g. Tries P anew what b f old.first new.first c g) old new
  try_so anew what old new (number, first) (calls, handed, is) =
      called (λ b f c g. Tries P anew what b f old.first new.first c g) old new (call.DropSent old.first anew) (reply.First new.first what) number (handed.number ∙ first) calls tt (λ b f c g hop. hop)

  tried_so : (n : ℕ) (old new : PlayState F W) → HasFirsts old → Tried n old new → Walked (After P n old.first new.first) old new
  tried_so zero old new (number, first) is =
      let same : new.first ≡ old.first = ap (λ (s : PlayState F W). s.first) is in
      alone (After P zero old.first new.first) old new number (ap (λ (x : PassOfTable). x.number) same ∙ first) (ap (λ (s : PlayState F W). s.front) is) (λ b f. (refl, refl, same))
  tried_so (suc n) old new starts (here, done, tries) =
      let w = tried_so n old here starts done in
      let t = try_so (n == 0) came.NotYet here new (firsts (After P n old.first here.first) old here w) tries in
      walked_then (After P n old.first here.first) (λ b f c g. Tries P (n == 0) came.NotYet b f here.first new.first c g) (After P (suc n) old.first new.first) old here new w t
      (λ b f c g d h one other. after_more P n (n == 0) old.first here.first new.first b f c g d h refl w.first_number one other)

  ended_so : (old new : PlayState F W) → HasFirsts old → Ended old new → Walked (Closes P old.first new.first) old new
  ended_so old new starts (n, here, done, tries) =
      let w = tried_so n old here starts done in
      let t = try_so (n == 0) came.Done here new (firsts (After P n old.first here.first) old here w) tries in
      walked_then (After P n old.first here.first) (λ b f c g. Tries P (n == 0) came.Done b f here.first new.first c g) (Closes P old.first new.first) old here new w t
      (λ b f c g d h one other. after_all P n (n == 0) old.first here.first new.first b f c g d h refl w.first_number one other)

  tried_stays : (n : ℕ) (old new : PlayState F W) → Tried n old new → (new.lines ≡ old.lines) × (new.issuers ≡ old.issuers)
  tried_stays zero old new is = (ap (λ (s : PlayState F W). s.lines) is, ap (λ (s : PlayState F W). s.issuers) is)
  tried_stays (suc n) old new (here, done, tries) =
      let was = tried_stays n old here done in
      (ap (λ (s : PlayState F W). s.lines) tries.2 ∙ was.0, ap (λ (s : PlayState F W). s.issuers) tries.2 ∙ was.1)

  ended_stays : (old new : PlayState F W) → Ended old new → (new.lines ≡ old.lines) × (new.issuers ≡ old.issuers)
  ended_stays old new (n, here, done, tries) =
      let was = tried_stays n old here done in
      (ap (λ (s : PlayState F W). s.lines) tries.2 ∙ was.0, ap (λ (s : PlayState F W). s.issuers) tries.2 ∙ was.1)

  still : (old new : PlayState F W) → (old.front).number ≡ 0 → (new.first).number ≡ 0 → new.front ≡ old.front → Walked Still old new
  still old new number first front = alone Still old new number first front (λ b f. (refl, refl))

  module _ (turn : TurnOfTable) (devices : ℕ) (R : Spot → Spot → Type 0) (by : Walks P turn devices R) where
    -- Where it stood is related to where it stands, and no try to end a channel is left half done.
    abbrev pub Along : Mode → PlayState F W → Mode → PlayState F W → Bool → ℕ → Bool → ℕ → Type 0
    Along m old n new b f c g = b ≡ false → (c ≡ false) × R (at m f old) (at n g new)

    along_then : (l m n : Mode) (x y z : PlayState F W) → Walked (Along l x m y) x y → Walked (Along m y n z) y z → Walked (Along l x n z) x z
    along_then l m n x y z one other = walked_then (Along l x m y) (Along m y n z) (Along l x n z) x y z one other
        (λ b f c g d h first second is. let a = first is in let e = second a.0 in (e.0, by.joins (at l f x) (at m g y) (at n h z) a.1 e.1))

    along_alone : (m n : Mode) (old new : PlayState F W) → (old.front).number ≡ 0 → (new.first).number ≡ 0 → new.front ≡ old.front → ((f : ℕ) → R (at m f old) (at n f new)) → Walked (Along m old n new) old new
    along_alone m n old new number first front rel = alone (Along m old n new) old new number first front (λ b f is. (is, rel f))

    along_none : (m : Mode) (old new : PlayState F W) → HasFirsts old → new ≡ old → Walked (Along m old m new) old new
    along_none m old new (number, first) is =
        along_alone m m old new number (ap (λ (s : PlayState F W). (s.first).number) is ∙ first) (ap (λ (s : PlayState F W). s.front) is)
        (λ f. subst (λ (s : PlayState F W). R (at m f old) (at m f s)) (sym is) (by.same (at m f old)))

    comes_so : (b : Bool) (l : NumberedLine) (old new : PlayState F W) → HasFirsts old → acted_by l.line ≡ None → ComesTo l old new → Walked (Along (going b) old (going b) new) old new
    comes_so b l old new (number, first) none (lines, has, is) =
        let same : new.first ≡ old.first = ap (λ (s : PlayState F W). s.first) is in
        along_alone (going b) (going b) old new number (ap (λ (x : PassOfTable). x.number) same ∙ first) (ap (λ (s : PlayState F W). s.front) is)
        (λ f. subst (λ (ls : List NumberedLine). R (spot (going b) f old.first ls old.issuers) (at (going b) f new)) (sym lines)
        (subst (λ (x : PassOfTable). R (spot (going b) f old.first (l ∷ new.lines) old.issuers) (spot (going b) f x new.lines new.issuers)) (sym same)
        (by.comes b f old.first l new.lines old.issuers new.issuers first none has)))

    runs_so : (b : Bool) (old new : PlayState F W) → HasFirsts old → Runs old new → Walked (Along (going b) old (going b) new) old new
    runs_so b old new (number, first) (ran, on, is) =
        along_alone (going b) (going b) old new number ran.first (ap (λ (s : PlayState F W). s.front) is)
        (λ f. subst (λ (ls : List NumberedLine). R (at (going b) f old) (spot (going b) f new.first ls new.issuers)) (sym (ap (λ (s : PlayState F W). s.lines) is))
        (by.runs b f old.first new.first old.lines old.issuers new.issuers first ran on))

    came_so : (b : Bool) (n : ℕ) (old new : PlayState F W) → HasFirsts old → CameTo n old new → Walked (Along (going b) old (going b) new) old new
    came_so b zero old new starts is = along_none (going b) old new starts is
    came_so b (suc n) old new starts (here, l, done, none, comes) =
        let w = came_so b n old here starts done in
        along_then (going b) (going b) (going b) old here new w (comes_so b l here new (firsts (Along (going b) old (going b) here) old here w) none comes)

    ran_so : (b : Bool) (n : ℕ) (old new : PlayState F W) → HasFirsts old → Ran n old new → Walked (Along (going b) old (going b) new) old new
    ran_so b zero old new starts is = along_none (going b) old new starts is
    ran_so b (suc n) old new starts (here, done, runs) =
        let w = ran_so b n old here starts done in
        along_then (going b) (going b) (going b) old here new w (runs_so b here new (firsts (Along (going b) old (going b) here) old here w) runs)

    issued_before : (b : Bool) (old new : PlayState F W) → HasFirsts old → Issued old new → (here : PlayState F W) × Walked (Along (going b) old (going b) here) old here × Runs here new
    issued_before b old new starts (lines, times, mid, done, at_control, (here, ran, runs)) =
        let w = came_so b lines old mid starts done in
        (here, along_then (going b) (going b) (going b) old mid here w (ran_so b times mid here (firsts (Along (going b) old (going b) mid) old mid w) ran), runs)

    issued_so : (b : Bool) (old new : PlayState F W) → HasFirsts old → Issued old new → Walked (Along (going b) old (going b) new) old new
    issued_so b old new starts issued =
        let (here, w, runs) = issued_before b old new starts issued in
        along_then (going b) (going b) (going b) old here new w (runs_so b here new (firsts (Along (going b) old (going b) here) old here w) runs)

    -- ---- lines that it acts itself

    drops_so : (old here next new : PlayState F W) → HasFirsts old → Runs old here → ComesToControl control.Drop here next → Ended next new → Walked (Along playing old playing new) old new
    drops_so old here next new (number, first) runs comes ended =
        let (l, lines, meets, front) = meets_so control.Drop old here next first runs comes in
        let zero = (meets.ran).first in
        let w = ended_so next new (ap (λ (x : _). x.number) front ∙ number, zero) ended in
        let (same_lines, same_issuers) = ended_stays next new ended in
        walked_then Still (Closes P next.first new.first) (Along playing old playing new) old next new (still old next number zero front) w
        (λ b f c g d h one other is.
        let done = other (one.0 ∙ is) in (
          done.0,
          subst (λ (ls : List NumberedLine). R (spot playing f old.first ls old.issuers) (at playing h new)) (sym lines)
              (subst (λ (ls : List NumberedLine). R (spot playing f old.first (l ∷ next.lines) old.issuers) (spot playing h new.first ls new.issuers)) (sym same_lines)
              (subst (λ (is : List Issuer). R (spot playing f old.first (l ∷ next.lines) old.issuers) (spot playing h new.first next.lines is)) (sym same_issuers)
              (by.drops f h old.first next.first new.first l next.lines old.issuers next.issuers meets (subst (λ (n : ℕ). Ends P next.first n new.first h) one.1 done.1)))),
        ))

    -- it looks for a line by which a channel is to begin, or that goes on
    looks_so : (stage : Stage) (b : Bool) (n : Mode) (old here next new : PlayState F W) → HasFirsts old → Runs old here → ComesToControl control.Connect here next → Looks turn stage next new
        → stage.channel ≡ b
        → ((f : ℕ) (p q r : PassOfTable) (l : NumberedLine) (lines : List NumberedLine) (xs ys : List Issuer) → Meets control.Connect l p q xs ys → PassCalls turn q table.Stage (replied.Stands stage) r
        → stage.channel ≡ b → R (spot playing f p (l ∷ lines) xs) (spot n f r lines ys)) → Walked (Along playing old n new) old new
    looks_so stage b n old here next new (number, first) runs comes (calls, is) so rel =
        let (l, lines, meets, front) = meets_so control.Connect old here next first runs comes in
        along_alone playing n old new number ((calls.same).0 ∙ (meets.ran).first) (ap (λ (s : PlayState F W). s.front) is ∙ front)
        (λ f. subst (λ (ls : List NumberedLine). R (spot playing f old.first ls old.issuers) (at n f new)) (sym lines)
        (subst (λ (ls : List NumberedLine). R (spot playing f old.first (l ∷ next.lines) old.issuers) (spot n f new.first ls new.issuers)) (sym (ap (λ (s : PlayState F W). s.lines) is))
        (subst (λ (is : List Issuer). R (spot playing f old.first (l ∷ next.lines) old.issuers) (spot n f new.first next.lines is)) (sym (ap (λ (s : PlayState F W). s.issuers) is))
        (rel f old.first next.first new.first l next.lines old.issuers next.issuers meets calls so))))

    passes_so : (c : Control) (old here new : PlayState F W) → HasFirsts old → Runs old here → ComesToControl c here new → Walked (Along over old over new) old new
    passes_so c old here new (number, first) runs comes =
        let (l, lines, meets, front) = meets_so c old here new first runs comes in
        along_alone over over old new number (meets.ran).first front
        (λ f. subst (λ (ls : List NumberedLine). R (spot over f old.first ls old.issuers) (at over f new)) (sym lines) (by.passes c f old.first new.first l new.lines old.issuers new.issuers meets))

    -- the script is at its end
    finishes_so : (old here new : PlayState F W) → HasFirsts old → Runs old here → here.lines ≡ [] → Ended here new → Walked (Along playing old over new) old new
    finishes_so old here new (number, first) (ran, on, is) none ended =
        let front : here.front ≡ old.front = ap (λ (s : PlayState F W). s.front) is in
        let old_none : old.lines ≡ [] = sym (ap (λ (s : PlayState F W). s.lines) is) ∙ none in
        let w = ended_so here new (ap (λ (x : _). x.number) front ∙ number, ran.first) ended in
        let (same_lines, same_issuers) = ended_stays here new ended in
        walked_then Still (Closes P here.first new.first) (Along playing old over new) old here new (still old here number ran.first front) w
        (λ b f c g d h one other is.
        let done = other (one.0 ∙ is) in (
          done.0,
          subst (λ (ls : List NumberedLine). R (spot playing f old.first ls old.issuers) (at over h new)) (sym old_none)
              (subst (λ (ls : List NumberedLine). R (spot playing f old.first [] old.issuers) (spot over h new.first ls new.issuers)) (sym (same_lines ∙ none))
              (subst (λ (is : List Issuer). R (spot playing f old.first [] old.issuers) (spot over h new.first [] is)) (sym same_issuers)
              (by.ends f h old.first here.first new.first old.issuers here.issuers first ran on (subst (λ (n : ℕ). Ends P here.first n new.first h) one.1 done.1)))),
        ))

    acts_so : (old new : PlayState F W) → HasFirsts old → Acts turn old new → Walked (Along playing old playing new) old new
    acts_so old new starts (here, next, issued, inl (comes, ended)) =
        let (x, w, runs) = issued_before true old here starts issued in
        along_then playing playing playing old x new w (drops_so x here next new (firsts (Along playing old playing x) old x w) runs comes ended)
    acts_so old new starts (here, next, issued, inr (stage, comes, looks, is)) =
        let (x, w, runs) = issued_before true old here starts issued in
        along_then playing playing playing old x new w (looks_so stage true playing x here next new (firsts (Along playing old playing x) old x w) runs comes looks is (by.stays stage))

    acted_so : (n : ℕ) (old new : PlayState F W) → HasFirsts old → Acted turn n old new → Walked (Along playing old playing new) old new
    acted_so zero old new starts is = along_none playing old new starts is
    acted_so (suc n) old new starts (here, done, acts) =
        let w = acted_so n old here starts done in
        along_then playing playing playing old here new w (acts_so here new (firsts (Along playing old playing here) old here w) acts)

    stops_so : (why : Stop) (old new : PlayState F W) → HasFirsts old → Stops turn why old new → Walked (Along playing old (stopped why) new) old new
    stops_so stop.Connect old new starts (here, next, stage, issued, comes, looks, is) =
        let (x, w, runs) = issued_before true old here starts issued in
        along_then playing playing opening old x new w (looks_so stage false opening x here next new (firsts (Along playing old playing x) old x w) runs comes looks is (by.stops stage))
    stops_so stop.End old new starts (here, next, issued, none, ended, rest, all) =
        let (x, w, runs) = issued_before true old here starts issued in
        let v = finishes_so x here next (firsts (Along playing old playing x) old x w) runs none ended in
        along_then playing over over old next new (along_then playing playing over old x next w v) (issued_so false next new (firsts (Along playing x over next) x next v) rest)

    -- ---- on a channel that began

    looked_so : (n : ℕ) (old new : PlayState F W) → (old.first).number ≡ 0 → Looked turn n old new
        → LooksOn turn n old.first new.first × ((new.first).number ≡ 0) × (new.front ≡ old.front) × (new.lines ≡ old.lines) × (new.issuers ≡ old.issuers)
    looked_so zero old new first is =
        (ap (λ (s : PlayState F W). s.first) is, ap (λ (s : PlayState F W). (s.first).number) is ∙ first, ap (λ (s : PlayState F W). s.front) is, ap (λ (s : PlayState F W). s.lines) is, ap (λ (s : PlayState F W). s.issuers) is)
    looked_so (suc n) old new first (here, stage, done, (calls, is)) =
        let was = looked_so n old here first done in (
          (here.first, stage, was.0, calls),
          (calls.same).0 ∙ was.1,
          ap (λ (s : PlayState F W). s.front) is ∙ was.2,
          ap (λ (s : PlayState F W). s.lines) is ∙ was.3,
          ap (λ (s : PlayState F W). s.issuers) is ∙ was.4,
        )

    -- What a channel that began is related to is what stood before it began.
    abbrev pub FromBegun : PlayState F W → Mode → PlayState F W → Bool → ℕ → Bool → ℕ → Type 0
    FromBegun old n new b f c g = b ≡ false
        → (c ≡ false) × ((channel e : ℕ) (p : PassOfTable) → p.number ≡ 0 → Replaces P (begun_call channel) [] p e old.first f → R (spot opening e p old.lines old.issuers) (at n g new))

    waited_so : (old new : PlayState F W) → HasFirsts old → Waited turn devices old new → Walked (FromBegun old playing new) old new
    waited_so old new (number, first) (times, here, stage, done, (calls, is), ready) =
        let was = looked_so times old here first done in
        let lines : new.lines ≡ old.lines = ap (λ (s : PlayState F W). s.lines) is ∙ was.3 in
        let issuers : new.issuers ≡ old.issuers = ap (λ (s : PlayState F W). s.issuers) is ∙ was.4 in
        alone (FromBegun old playing new) old new number ((calls.same).0 ∙ was.1) (ap (λ (s : PlayState F W). s.front) is ∙ was.2)
        (λ b f b_is. (
          b_is,
          λ channel e p zero replaces.
              subst (λ (ls : List NumberedLine). R (spot opening e p old.lines old.issuers) (spot playing f new.first ls new.issuers)) (sym lines)
              (subst (λ (xs : List Issuer). R (spot opening e p old.lines old.issuers) (spot playing f new.first old.lines xs)) (sym issuers)
              (by.begins channel times stage e f p old.first here.first new.first old.lines old.issuers zero replaces was.0 calls ready)),
        ))

    from_then : (m n : Mode) (x y z : PlayState F W) → Walked (FromBegun x m y) x y → Walked (Along m y n z) y z → Walked (FromBegun x n z) x z
    from_then m n x y z one other = walked_then (FromBegun x m y) (Along m y n z) (FromBegun x n z) x y z one other
        (λ b f c g d h first second is.
        let a = first is in
        let e = second a.0 in
        (e.0, λ channel k p zero replaces. by.joins (spot opening k p x.lines x.issuers) (at m g y) (at n h z) (a.1 channel k p zero replaces) e.1))

    pub plays_so : (why : Stop) (old new : PlayState F W) → HasFirsts old → Plays turn devices why old new → Walked (FromBegun old (stopped why) new) old new
    plays_so why old new starts (here, times, next, waited, acted, stops) =
        let w = waited_so old here starts waited in
        let v = acted_so times here next (firsts (FromBegun old playing here) old here w) acted in
        from_then playing (stopped why) old next new (from_then playing playing old here next w v) (stops_so why next new (firsts (Along playing here playing next) here next v) stops)

    -- and how it begins
    pub begins_so : (channel : ℕ) (old new : PlayState F W) → HasFirsts old → Begins channel came.Done old new
        → Walked (λ b f c g. b ≡ false → (c ≡ false) × Replaces P (begun_call channel) [] old.first f new.first g) old new
    begins_so channel old new (number, first) (calls, handed, is) =
        called (λ b f c g. b ≡ false → (c ≡ false) × Replaces P (begun_call channel) [] old.first f new.first g) old new (call.Begin channel old.first) (reply.First new.first came.Done) number (handed.number ∙ first) calls tt
        (λ b f c g hop b_is. let h = subst (λ (x : Bool). Hop P {W = W} x f (call.Begin channel old.first) (reply.First new.first came.Done) c g) b_is hop in (h.0, h.1 first))

    -- ---- where no channel begins or ends any more

    passed_so : (n : ℕ) (old new : PlayState F W) → HasFirsts old → Passed n old new → Walked (Along over old over new) old new
    passed_so zero old new starts is = along_none over old new starts is
    passed_so (suc n) old new starts (here, next, c, done, issued, comes) =
        let w = passed_so n old here starts done in
        let (x, v, runs) = issued_before false here next (firsts (Along over old over here) old here w) issued in
        along_then over over over old x new (along_then over over over old here x w v) (passes_so c x next new (firsts (Along over here over x) here x v) runs comes)

    pub out_so : (old new : PlayState F W) → HasFirsts old → PlaysOut old new → Walked (Along over old over new) old new
    out_so old new starts (times, here, passed, issued, none, all) =
        let w = passed_so times old here starts passed in
        along_then over over over old here new w (issued_so false here new (firsts (Along over old over here) old here w) issued)

    pub gives_up_so : (old : PlayState F W) → HasFirsts old → Walked (Along opening old over old) old old
    gives_up_so old (number, first) = along_alone opening over old old number first refl (λ f. by.gives_up f old.first old.lines old.issuers)
