-- A host's script goes along the one history of its table: each thing that the calling thread does, and then all of it.
use Rattle.std.proofs.Common.{◌≡◌, ◌≢◌, ◌∙◌, ◌⊎◌, inl, inr, refl, sym, ap, subst, ℕ, ◌≤◌, arith, Bool, true, false, List, [], ◌∷◌, ◌++◌, append_assoc, append-nil, map, All, Option, Some, None}
use Rattle.std.specs.Prelude.{AllPairs}
use Rattle.std.proofs.lemmas.List.{append_cancel_left}
use Rattle.rd_host_front.specs.Asked.{CallMade}
use Rattle.rd_host_front.specs.State.{PassCalls, PassOfTable, TurnOfTable}
use Rattle.rd_host_player.specs.declared.plan.Control.{Control}
use Rattle.rd_host_player.specs.declared.plan.Control.TheVariants as control
use Rattle.rd_host_player.specs.Plan.{acted_by}
use Rattle.rd_host_player.specs.Play.{HasCome, IsReady}
use Rattle.rd_host_session.specs.Hosted.{issuers_of}
use Rattle.rd_issuer.specs.declared.issuer.Issuer.{Issuer}
use Rattle.rd_issuer.specs.SideBySide.{RanSideBySide}
use Rattle.rd_pending.specs.declared.calls.Stage.{Stage}
use Rattle.rd_pending.specs.Table.{TableState, new_table}
use Rattle.rd_script.specs.declared.line.NumberedLine.{NumberedLine}
use Rattle.rd_table.specs.declared.calls.PendingCall.TheVariants as table
use Rattle.rd_table.specs.declared.calls.PendingReply.TheVariants as replied
use Rattle.rd_table.specs.Calls.{PendingStep}
use Rattle.rd_table.specs.Histories.{handed_in}
use Rattle.rd_turn.specs.History.{Leads, calls_of, entry}
use Rattle.rd_turn.specs.Pass.{GoesOn}
use Rattle.rd_turn.proofs.HistoryLemmas.{GoesOn-prefix}
use Rattle.rd_host_turns.specs.Turns.{TableEntry}
use Rattle.rd_host_turns.proofs.CountLemmas.{all_both, all_left, all_right}
use Rattle.rd_host_lines.specs.Places.{ActNothing, ActsLine, ActsNext, AllRest, EndsOnce, GoesAlong, HasBegun, HaveCome, HaveDropped, IsNoApplications, LineGoes, OnlyLooks, Opens, OpensUnless, control_calls, drop_call, lives_given, look_call}
use Rattle.rd_host_lines.proofs.ControlLemmas.{Alone, IsBy, IsIdle, controls_then, own_act}
use Rattle.rd_host_lines.proofs.InPlayLemmas.{number_of}
use Rattle.rd_host_lines.proofs.LaterLemmas.{AllComeOut, IsKnownLook, come_sooner, ran_sooner, sooner}
use Rattle.rd_host_lines.proofs.PassLemmas.{Anew, AreSuch, Ends, Replaces, WithTries, replaced_anew, replaced_as}
use Rattle.rd_host_lines.proofs.PastLemmas.{NoRequest, Past, carries_past, have_come, idle_request}
use Rattle.rd_host_lines.proofs.PlayLemmas.{Carries, Carrying}
use Rattle.rd_host_lines.proofs.ReadyLemmas.{AreWaiting, IsWaiting, looks_wait, ready_more, ready_so}
use Rattle.rd_host_lines.proofs.SeenLemmas.{GoesTo, Seen, begun_acts, ended_acts, ended_front, ended_goes, front_idle, goes_then, looked_acts, looked_goes, looks_goes, looks_on_act, only_then, ran_acts, ran_goes, replaced_goes, seen_before}
use Rattle.rd_host_lines.proofs.WalkLemmas.{LooksOn, Meets, Mode, Spot, Walks, begun_call, going, opening, over, playing, spot}
use Rattle.rd_host_lines.proofs.PlayLemmas as play

module _ (turn : TurnOfTable) (devices : ℕ) (script : List NumberedLine) (final : List Issuer) (all : List TableEntry) (made : ℕ) where
  -- how the script goes along what follows, by where it stands
  abbrev GoesFrom : Mode → List NumberedLine → List NumberedLine → List TableEntry → List TableEntry → Type 0
  GoesFrom opening before lines seen rest = Opens devices final seen rest (λ plays whole more. GoesAlong devices final before lines plays whole more)
  GoesFrom playing before lines seen rest = GoesAlong devices final before lines true seen rest
  GoesFrom over before lines seen rest = GoesAlong devices final before lines false seen rest

  -- What holds where the thread stands somewhere, by what comes after: what pass 0 has seen; that the front's pass acts no line; what comes of the applications; and so the script goes along the rest, where all that is kept holds.
  pub record Reaches (x : Spot) : Type 0 where
    pub seen : Seen all made x.first
    pub front : x.front ≢ 0 → AreSuch IsIdle (calls_of x.front all)
    pub out : AllComeOut all final (x.first).seen x.issuers
    pub goes : Past script x.front x.first x.lines x.issuers → (before : List NumberedLine) → script ≡ before ++ x.lines → (rest : List TableEntry) → (x.first).seen ++ rest ≡ all
        → GoesFrom x.mode before x.lines (x.first).seen rest

  -- what stands somewhere reaches the end, where what follows on it does
  abbrev Back : Spot → Spot → Type 0
  Back x y = Reaches y → Reaches x

  past : Carrying NoRequest (Past script) all
  past = carries_past script all

  line_before : (before lines : List NumberedLine) (l : NumberedLine) → script ≡ before ++ l ∷ lines → script ≡ (before ++ l ∷ []) ++ lines
  line_before before lines l is = is ∙ sym (append_assoc before (l ∷ []) lines)

  module _ (numbers : All (λ (e : TableEntry). e.by ≤ made) all) (final_numbers : map number_of final ≡ map number_of (issuers_of script))
      (pairs : AllPairs (λ x y. x.0 ≢ y.0) (handed_in all)) (known : AreSuch IsKnownLook all) (t : TableState) (leads : Leads PendingStep new_table all t) where
    -- ---- lists

    abbrev Goes : Bool → List NumberedLine → List NumberedLine → List TableEntry → List TableEntry → Type 0
    Goes plays before lines seen rest = GoesAlong devices final before lines plays seen rest

    -- what stands between
    acts_next : (a b c issued acted more rest : List TableEntry) (before : List NumberedLine) (acts : List TableEntry → Type 0) (goes_on : List TableEntry → List TableEntry → Type 0)
        → a ++ issued ≡ b → b ++ acted ≡ c → c ++ more ≡ all → a ++ rest ≡ all → ActNothing issued → HaveCome final before b → AllRest acted → acts acted → goes_on c more
        → ActsNext devices final before a rest acts goes_on
    acts_next a b c issued acted more rest before acts goes_on b_is c_is all_is whole nothing come rests does on =
        let there : (a ++ issued) ++ acted ≡ c = ap (λ (l : List TableEntry). l ++ acted) b_is ∙ c_is in (
          issued,
          acted,
          more,
          append_cancel_left a rest ((issued ++ acted) ++ more) (whole ∙ sym (sym (append_assoc a (issued ++ acted) more) ∙ (ap (λ (l : List TableEntry). l ++ more) (sym (append_assoc a issued acted) ∙ there) ∙ all_is))),
          nothing,
          subst (HaveCome final before) (sym b_is) come,
          rests,
          does,
          subst (λ (l : List TableEntry). goes_on l more) (sym there) on,
        )

    -- what was issued before is issued with what follows
    issued_more : (seen added rest : List TableEntry) (before : List NumberedLine) (acts : List TableEntry → Type 0) (goes_on : List TableEntry → List TableEntry → Type 0) → ActNothing added
        → ActsNext devices final before (seen ++ added) rest acts goes_on → ActsNext devices final before seen (added ++ rest) acts goes_on
    issued_more seen added rest before acts goes_on none (issued, acted, more, is, nothing, come, rests, does, on) = (
      added ++ issued,
      acted,
      more,
      ap (λ (l : List TableEntry). added ++ l) is ∙ (sym (append_assoc added (issued ++ acted) more) ∙ ap (λ (l : List TableEntry). l ++ more) (sym (append_assoc added issued acted))),
      controls_then added issued ∙ (λ i. none i ++ nothing i),
      subst (HaveCome final before) (append_assoc seen added issued) come,
      rests,
      does,
      subst (λ (l : List TableEntry). goes_on (l ++ acted) more) (append_assoc seen added issued) on,
    )

    line_more : (plays : Bool) (c : Control) (seen added rest : List TableEntry) (before : List NumberedLine) (goes_on : Bool → List TableEntry → List TableEntry → Type 0) → ActNothing added
        → ActsLine devices final plays c before (seen ++ added) rest goes_on → ActsLine devices final plays c before seen (added ++ rest) goes_on
    line_more true control.Drop seen added rest before goes_on none acts = issued_more seen added rest before (λ acted. EndsOnce (control_calls acted)) (goes_on true) none acts
    line_more true control.Connect seen added rest before goes_on none (stage, acts) =
        (stage, issued_more seen added rest before (λ acted. control_calls acted ≡ look_call stage ∷ []) (λ whole more. OpensUnless devices final stage.channel whole more goes_on) none acts)
    line_more false c seen added rest before goes_on none acts = issued_more seen added rest before (λ acted. acted ≡ []) (goes_on false) none acts

    goes_more : (plays : Bool) (lines before : List NumberedLine) (seen added rest : List TableEntry) → ActNothing added → Goes plays before lines (seen ++ added) rest → Goes plays before lines seen (added ++ rest)
    goes_more true [] before seen added rest none goes = issued_more seen added rest before (λ acted. EndsOnce (control_calls acted)) (λ whole more. ActNothing more) none goes
    goes_more false [] before seen added rest none goes = controls_then added rest ∙ (λ i. none i ++ goes i)
    goes_more plays (l ∷ lines) before seen added rest none goes = by (goes_more plays lines (before ++ l ∷ []) seen added rest none) (acted_by l.line) goes
      where
        by : (Goes plays (before ++ l ∷ []) lines (seen ++ added) rest → Goes plays (before ++ l ∷ []) lines seen (added ++ rest)) → (o : Option Control)
            → LineGoes devices final o plays before (seen ++ added) rest (λ next whole more. Goes next (before ++ l ∷ []) lines whole more)
            → LineGoes devices final o plays before seen (added ++ rest) (λ next whole more. Goes next (before ++ l ∷ []) lines whole more)
        by on None goes = on goes
        by on (Some c) goes = line_more plays c seen added rest before (λ next whole more. Goes next (before ++ l ∷ []) lines whole more) none goes

    -- ---- what is kept

    keeps : Walks NoRequest turn devices (Carries NoRequest (Past script) all)
    keeps = play.walks NoRequest (Past script) all past turn devices

    ends_as : (p : PassOfTable) (f : ℕ) (q : PassOfTable) (g : ℕ) → Ends IsIdle p f q g → Ends NoRequest p f q g
    ends_as p f q g (r, h, first, drops) = (
      r,
      h,
      replaced_as IsIdle NoRequest idle_request [] [] p f r h first,
      replaced_as (WithTries IsIdle) (WithTries NoRequest) tries [] (drop_call true ∷ []) r h q g drops,
    )
      where
        tries : (e : TableEntry) → WithTries IsIdle e → WithTries NoRequest e
        tries e (inl idle) = inl (idle_request e idle)
        tries e (inr is) = inr is

    -- ---- lines that are issued

    comes_back : (b : Bool) (f : ℕ) (p : PassOfTable) (l : NumberedLine) (lines : List NumberedLine) (old new : List Issuer) → acted_by l.line ≡ None → HasCome l.line old new
        → Back (spot (going b) f p (l ∷ lines) old) (spot (going b) f p lines new)
    comes_back b f p l lines old new none has r = record {
      seen = r.seen;
      front = r.front;
      out = come_sooner all final l p.seen old new has r.out;
      goes = λ kept before is rest whole. by b before rest (r.goes (past.comes f p l lines old new has kept) (before ++ l ∷ []) (line_before before lines l is) rest whole);
    }
      where
        by : (b : Bool) (before : List NumberedLine) (rest : List TableEntry) → GoesFrom (going b) (before ++ l ∷ []) lines p.seen rest → GoesFrom (going b) before (l ∷ lines) p.seen rest
        by true before rest goes = subst (λ (o : Option Control). LineGoes devices final o true before p.seen rest (λ next whole more. Goes next (before ++ l ∷ []) lines whole more)) (sym none) goes
        by false before rest goes = subst (λ (o : Option Control). LineGoes devices final o false before p.seen rest (λ next whole more. Goes next (before ++ l ∷ []) lines whole more)) (sym none) goes

    runs_back : (b : Bool) (f : ℕ) (p q : PassOfTable) (lines : List NumberedLine) (old new : List Issuer) → p.number ≡ 0 → RanSideBySide p q old new → GoesOn p q
        → Back (spot (going b) f p lines old) (spot (going b) f q lines new)
    runs_back b f p q lines old new first ran on r = record {
      seen = seen_before all made p q (ran_goes p q old new first ran on) r.seen;
      front = r.front;
      out = ran_sooner all final p q old new ran (GoesOn-prefix p q on) (r.seen).seen r.out;
      goes = λ kept before is rest whole.
          let (added, added_is) = GoesOn-prefix p q on in
          let (more, more_is) = (r.seen).seen in
          let none = ran_acts all made numbers p q f old new added first ran on added_is kept.others r.seen (r.front kept.nonzero) in
          let goes = r.goes (past.runs f p q lines old new ran on (r.seen).seen kept) before is more more_is in
          by b before rest added more none (rest_is p.seen q.seen added more rest added_is more_is whole) added_is goes;
    }
      where
        rest_is : (a c added more rest : List TableEntry) → a ++ added ≡ c → c ++ more ≡ all → a ++ rest ≡ all → rest ≡ added ++ more
        rest_is a c added more rest is all_is whole = append_cancel_left a rest (added ++ more) (whole ∙ sym (sym (append_assoc a added more) ∙ (ap (λ (l : List TableEntry). l ++ more) is ∙ all_is)))

        by : (b : Bool) (before : List NumberedLine) (rest added more : List TableEntry) → ActNothing added → rest ≡ added ++ more → p.seen ++ added ≡ q.seen → GoesFrom (going b) before lines q.seen more
            → GoesFrom (going b) before lines p.seen rest
        by true before rest added more none is added_is goes =
            subst (Goes true before lines p.seen) (sym is) (goes_more true lines before p.seen added more none (subst (λ (l : List TableEntry). Goes true before lines l more) (sym added_is) goes))
        by false before rest added more none is added_is goes =
            subst (Goes false before lines p.seen) (sym is) (goes_more false lines before p.seen added more none (subst (λ (l : List TableEntry). Goes false before lines l more) (sym added_is) goes))

    -- ---- lines that are acted

    -- Where it meets a line, applications issued those before, and all rest.
    pub record HasMet (before : List NumberedLine) (p q : PassOfTable) : Type 0 where
      pub issued : List TableEntry
      pub is : p.seen ++ issued ≡ q.seen
      pub nothing : ActNothing issued
      pub come : HaveCome final before q.seen

    met : (f : ℕ) (p q : PassOfTable) (left before : List NumberedLine) (old new : List Issuer) → RanSideBySide p q old new → GoesOn p q → Past script f p left old → Seen all made q → AreSuch IsIdle (calls_of f all)
        → AllComeOut all final q.seen new → script ≡ before ++ left → HasMet before p q
    met f p q left before old new ran on kept seen front out is =
        let (added, added_is) = GoesOn-prefix p q on in
        record {
          issued = added;
          is = added_is;
          nothing = ran_acts all made numbers p q f old new added kept.first ran on added_is kept.others seen front;
          come = have_come script all made numbers final final_numbers pairs known f p q left before old new ran on kept seen front out is;
        }

    -- all that is known of what stands before a line is met, by what is known behind it
    meets_front : (c : Control) (l : NumberedLine) (p q : PassOfTable) (old new : List Issuer) (x : Meets c l p q old new) → AllComeOut all final q.seen new → Seen all made q
        → Seen all made p × AllComeOut all final p.seen old
    meets_front c l p q old new x out seen = (
      seen_before all made p q (ran_goes p q old x.between x.first x.ran x.on) seen,
      ran_sooner all final p q old x.between x.ran (GoesOn-prefix p q x.on) seen.seen (come_sooner all final l q.seen x.between new x.comes out),
    )

    drops_back : (f g : ℕ) (p q r : PassOfTable) (l : NumberedLine) (lines : List NumberedLine) (old new : List Issuer) → Meets control.Drop l p q old new → Ends IsIdle q f r g
        → Back (spot playing f p (l ∷ lines) old) (spot playing g r lines new)
    drops_back f g p q r l lines old new x end y = record {
      seen = known_before.0;
      front = front;
      out = known_before.1;
      goes = λ kept before is rest whole.
          let h = met f p q (l ∷ lines) before old x.between x.ran x.on kept seen (front kept.nonzero) (come_sooner all final l q.seen x.between new x.comes out) is in
          let (acted, acted_is) = (goes.stays).seen in
          let acts = ended_acts all made numbers q f r g acted kept.nonzero end acted_is (ran_kept kept).others y.seen in
          let (more, more_is) = (y.seen).seen in
          let kept_then = (keeps.drops f g p q r l lines old new x (ends_as q f r g end)).1 (y.seen).seen kept in
          let on = y.goes kept_then (before ++ l ∷ []) (line_before before lines l is) more more_is in
          subst (λ (o : Option Control). LineGoes devices final o true before p.seen rest (λ next every more. Goes next (before ++ l ∷ []) lines every more)) (sym x.acted)
          (acts_next p.seen q.seen r.seen h.issued acted more rest before (λ acted. EndsOnce (control_calls acted)) (λ every more. Goes true (before ++ l ∷ []) lines every more) h.is acted_is more_is whole h.nothing h.come acts.0 acts.1 on);
    }
      where
        goes : GoesTo q r
        goes = ended_goes all made numbers q f r g end

        seen : Seen all made q
        seen = seen_before all made q r goes y.seen

        out : AllComeOut all final q.seen new
        out = sooner all final q.seen r.seen new (goes.stays).seen y.out

        front : f ≢ 0 → AreSuch IsIdle (calls_of f all)
        front ne = ended_front all made numbers q f r g ne end y.seen

        known_before : Seen all made p × AllComeOut all final p.seen old
        known_before = meets_front control.Drop l p q old new x out seen

        ran_kept : Past script f p (l ∷ lines) old → Past script f q (l ∷ lines) x.between
        ran_kept kept = past.runs f p q (l ∷ lines) old x.between x.ran x.on seen.seen kept

    looks_back : (stage : Stage) (b : Bool) (m : Mode) (f : ℕ) (p q r : PassOfTable) (l : NumberedLine) (lines : List NumberedLine) (old new : List Issuer) → Meets control.Connect l p q old new
        → PassCalls turn q table.Stage (replied.Stands stage) r → stage.channel ≡ b
        → ((before : List NumberedLine) (more : List TableEntry) → GoesFrom m (before ++ l ∷ []) lines r.seen more → OpensUnless devices final b r.seen more (λ next every more. Goes next (before ++ l ∷ []) lines every more))
        → Carries NoRequest (Past script) all (spot playing f p (l ∷ lines) old) (spot m f r lines new)
        → Back (spot playing f p (l ∷ lines) old) (spot m f r lines new)
    looks_back stage b m f p q r l lines old new x calls so opens carry y = record {
      seen = known_before.0;
      front = y.front;
      out = known_before.1;
      goes = λ kept before is rest whole.
          let h = met f p q (l ∷ lines) before old x.between x.ran x.on kept seen (y.front kept.nonzero) (come_sooner all final l q.seen x.between new x.comes out) is in
          let (acted, acted_is) = (goes.stays).seen in
          let acts = looked_acts all made numbers turn stage q r f acted (x.ran).first calls acted_is (ran_kept kept).others y.seen (y.front kept.nonzero) in
          let (more, more_is) = (y.seen).seen in
          let on = opens before more (y.goes (carry.1 (y.seen).seen kept) (before ++ l ∷ []) (line_before before lines l is) more more_is) in
          subst (λ (o : Option Control). LineGoes devices final o true before p.seen rest (λ next every more. Goes next (before ++ l ∷ []) lines every more)) (sym x.acted) (
            stage,
            acts_next p.seen q.seen r.seen h.issued acted more rest before (λ acted. control_calls acted ≡ look_call stage ∷ [])
                (λ every more. OpensUnless devices final stage.channel every more (λ next every more. Goes next (before ++ l ∷ []) lines every more)) h.is acted_is more_is whole h.nothing h.come acts.0 acts.1
                (subst (λ (c : Bool). OpensUnless devices final c r.seen more (λ next every more. Goes next (before ++ l ∷ []) lines every more)) (sym so) on),
          );
    }
      where
        goes : GoesTo q r
        goes = looked_goes turn stage q r (x.ran).first calls

        seen : Seen all made q
        seen = seen_before all made q r goes y.seen

        out : AllComeOut all final q.seen new
        out = sooner all final q.seen r.seen new (goes.stays).seen y.out

        known_before : Seen all made p × AllComeOut all final p.seen old
        known_before = meets_front control.Connect l p q old new x out seen

        ran_kept : Past script f p (l ∷ lines) old → Past script f q (l ∷ lines) x.between
        ran_kept kept = past.runs f p q (l ∷ lines) old x.between x.ran x.on seen.seen kept

    passes_back : (c : Control) (f : ℕ) (p q : PassOfTable) (l : NumberedLine) (lines : List NumberedLine) (old new : List Issuer) → Meets c l p q old new
        → Back (spot over f p (l ∷ lines) old) (spot over f q lines new)
    passes_back c f p q l lines old new x y = record {
      seen = known_before.0;
      front = y.front;
      out = known_before.1;
      goes = λ kept before is rest whole.
          let h = met f p q (l ∷ lines) before old x.between x.ran x.on kept y.seen (y.front kept.nonzero) (come_sooner all final l q.seen x.between new x.comes y.out) is in
          let (more, more_is) = (y.seen).seen in
          let on = y.goes ((keeps.passes c f p q l lines old new x).1 (y.seen).seen kept) (before ++ l ∷ []) (line_before before lines l is) more more_is in
          subst (λ (o : Option Control). LineGoes devices final o false before p.seen rest (λ next every more. Goes next (before ++ l ∷ []) lines every more)) (sym x.acted)
          (acts_next p.seen q.seen q.seen h.issued [] more rest before (λ acted. acted ≡ []) (λ every more. Goes false (before ++ l ∷ []) lines every more) h.is (append-nil q.seen) more_is whole h.nothing h.come tt refl on);
    }
      where
        known_before : Seen all made p × AllComeOut all final p.seen old
        known_before = meets_front c l p q old new x y.out y.seen

    ends_back : (f g : ℕ) (p q r : PassOfTable) (old new : List Issuer) → p.number ≡ 0 → RanSideBySide p q old new → GoesOn p q → Ends IsIdle q f r g
        → Back (spot playing f p [] old) (spot over g r [] new)
    ends_back f g p q r old new first ran on end y = record {
      seen = seen_before all made p q (ran_goes p q old new first ran on) seen;
      front = front;
      out = ran_sooner all final p q old new ran (GoesOn-prefix p q on) seen.seen out;
      goes = λ kept before is rest whole.
          let h = met f p q [] before old new ran on kept seen (front kept.nonzero) out is in
          let (acted, acted_is) = (goes.stays).seen in
          let acts = ended_acts all made numbers q f r g acted kept.nonzero end acted_is (ran_kept kept).others y.seen in
          let (more, more_is) = (y.seen).seen in
          let kept_then = (keeps.ends f g p q r old new first ran on (ends_as q f r g end)).1 (y.seen).seen kept in
          acts_next p.seen q.seen r.seen h.issued acted more rest before (λ acted. EndsOnce (control_calls acted)) (λ every more. ActNothing more) h.is acted_is more_is whole h.nothing h.come acts.0 acts.1
          (y.goes kept_then before is more more_is);
    }
      where
        goes : GoesTo q r
        goes = ended_goes all made numbers q f r g end

        seen : Seen all made q
        seen = seen_before all made q r goes y.seen

        out : AllComeOut all final q.seen new
        out = sooner all final q.seen r.seen new (goes.stays).seen y.out

        front : f ≢ 0 → AreSuch IsIdle (calls_of f all)
        front ne = ended_front all made numbers q f r g ne end y.seen

        ran_kept : Past script f p [] old → Past script f q [] new
        ran_kept kept = past.runs f p q [] old new ran on seen.seen kept

    -- ---- a channel begins

    begins_back : (channel n : ℕ) (stage : Stage) (f g : ℕ) (p q r s : PassOfTable) (lines : List NumberedLine) (issuers : List Issuer) → p.number ≡ 0 → Replaces IsIdle (begun_call channel) [] p f q g
        → LooksOn turn n q r → PassCalls turn r table.Stage (replied.Stands stage) s → IsReady devices stage → Back (spot opening f p lines issuers) (spot playing g s lines issuers)
    begins_back channel n stage f g p q r s lines issuers first replaces looks calls ready y = record {
      seen = seen_before all made p q begins seen_q;
      front = λ ne. front_idle all made (begun_call channel) p f q g ne replaces seen_q;
      out = sooner all final p.seen s.seen issuers (((goes_then p q s begins (goes_then q r s looks_go last)).stays).seen) y.out;
      goes = λ kept before is rest whole.
          let (opened, opened_is) = (begins.stays).seen in
          let others_q = (past.anew lines issuers p q f g anew kept).others in
          let begun = begun_acts all made numbers channel p f q g opened kept.nonzero replaces opened_is kept.others seen_q in
          let front_g = y.front g_not in
          let looked = looks_on_act all made numbers turn n q r g q_first looks others_q seen_r front_g in
          let e = entry r.number table.Stage (replied.Stands stage) in
          let (seen_more, s_is, apart) = calls.called in
          let s_added : r.seen ++ (seen_more ++ e ∷ []) ≡ s.seen = sym (append_assoc r.seen seen_more (e ∷ [])) ∙ sym s_is in
          let ended = looked_acts all made numbers turn stage r s g (seen_more ++ e ∷ []) looked.first calls s_added looked.others y.seen front_g in
          let (more, more_is) = (y.seen).seen in
          let kept_then = (keeps.begins channel n stage f g p q r s lines issuers first (replaced_as IsIdle NoRequest idle_request (begun_call channel) [] p f q g replaces) looks calls ready).1 (y.seen).seen kept in
          let on = y.goes kept_then before is more more_is in
          inr (opens before rest opened looked.added seen_more more (begun.2) opened_is looked.is s_added more_is whole begun.0 begun.1 looked.rest looked.looks ended.0 ended.1 on);
    }
      where
        begins : GoesTo p q
        begins = replaced_goes IsIdle (begun_call channel) [] p f q g replaces

        q_first : q.number ≡ 0
        q_first = (replaces.stays).number

        looks_go : GoesTo q r
        looks_go = looks_goes turn n q r q_first looks

        last : GoesTo r s
        last = looked_goes turn stage r s (looks_go.stays).number calls

        seen_r : Seen all made r
        seen_r = seen_before all made r s last y.seen

        seen_q : Seen all made q
        seen_q = seen_before all made q r looks_go seen_r

        g_not : g ≢ 0
        g_not = λ z. let next = replaces.next in absurd (omega arith)

        anew : Anew NoRequest p f q g
        anew = replaced_anew NoRequest (begun_call channel) [] p f q g ((λ a. tt), tt) tt (replaced_as IsIdle NoRequest idle_request (begun_call channel) [] p f q g replaces)

        b : TableEntry
        b = entry 0 (table.Begin channel) (replied.Begun true)

        e : TableEntry
        e = entry r.number table.Stage (replied.Stands stage)

        opens : (before : List NumberedLine) (rest opened looked seen_more more : List TableEntry) → (alone : Alone 0 opened b) → p.seen ++ opened ≡ q.seen → q.seen ++ looked ≡ r.seen → r.seen ++ (seen_more ++ e ∷ []) ≡ s.seen
            → s.seen ++ more ≡ all → p.seen ++ rest ≡ all → AllRest opened → AreSuch (IsBy 0) opened → AllRest looked → OnlyLooks (control_calls looked) → AllRest (seen_more ++ e ∷ [])
            → control_calls (seen_more ++ e ∷ []) ≡ look_call stage ∷ [] → Goes true before lines s.seen more
            → (begun : List TableEntry) × (later : List TableEntry) × (rest ≡ begun ++ later) × AllRest begun × HasBegun devices begun × Goes true before lines (p.seen ++ begun) later
        opens before rest opened looked seen_more more alone opened_is looked_is last_is more_is whole rest_opened by_opened rest_looked looks_looked rest_last looks_last on = (
          whole_opened,
          more,
          append_cancel_left p.seen rest (whole_opened ++ more) (whole ∙ sym (sym (append_assoc p.seen whole_opened more) ∙ (ap (λ (l : List TableEntry). l ++ more) seen_is ∙ more_is))),
          all_both Rests opened (looked ++ (seen_more ++ e ∷ [])) rest_opened (all_both Rests looked (seen_more ++ e ∷ []) rest_looked rest_last),
          record {
            channel = channel;
            by = 0;
            before = alone.before;
            after = after;
            place = ap (λ (l : List TableEntry). l ++ (looked ++ (seen_more ++ e ∷ []))) alone.place ∙ append_assoc alone.before (b ∷ alone.after) (looked ++ (seen_more ++ e ∷ []));
            first = own_act 0 alone.before (all_left (IsBy 0) alone.before (b ∷ alone.after) by_place) ∙ ap control_calls alone.none_before;
            waits = subst OnlyLooks (sym controls) (only_then (control_calls looked) (look_call stage ∷ []) looks_looked ((stage, refl), tt));
            ready = subst (λ (l : List TableEntry). (devices ≤ lives_given l) ⊎ HaveDropped l) after_is
                (ready_more devices waited (e ∷ []) (ready_so all (p.seen ++ alone.before) waited more t channel 0 r.number devices stage leads place_all waited_waits ready));
          },
          subst (λ (l : List TableEntry). Goes true before lines l more) (sym seen_is) on,
        )
          where
            Rests : TableEntry → Type 0
            Rests = λ x. IsNoApplications x.call

            whole_opened : List TableEntry
            whole_opened = opened ++ (looked ++ (seen_more ++ e ∷ []))

            seen_is : p.seen ++ whole_opened ≡ s.seen
            seen_is = sym (append_assoc p.seen opened (looked ++ (seen_more ++ e ∷ []))) ∙ (ap (λ (l : List TableEntry). l ++ (looked ++ (seen_more ++ e ∷ []))) opened_is
                ∙ (sym (append_assoc q.seen looked (seen_more ++ e ∷ [])) ∙ (ap (λ (l : List TableEntry). l ++ (seen_more ++ e ∷ [])) looked_is ∙ last_is)))

            after : List TableEntry
            after = alone.after ++ (looked ++ (seen_more ++ e ∷ []))

            by_place : AreSuch (IsBy 0) (alone.before ++ b ∷ alone.after)
            by_place = subst (AreSuch (IsBy 0)) alone.place by_opened

            none_after : control_calls alone.after ≡ []
            none_after = own_act 0 alone.after (all_right (IsBy 0) alone.before (b ∷ alone.after) by_place).1 ∙ ap control_calls alone.none_after

            controls : control_calls after ≡ control_calls looked ++ look_call stage ∷ []
            controls = controls_then alone.after (looked ++ (seen_more ++ e ∷ [])) ∙ (ap (λ (l : List CallMade). l ++ control_calls (looked ++ (seen_more ++ e ∷ []))) none_after
                ∙ (controls_then looked (seen_more ++ e ∷ []) ∙ ap (λ (l : List CallMade). control_calls looked ++ l) looks_last))

            -- behind the beginning, up to the last look
            waited : List TableEntry
            waited = alone.after ++ (looked ++ seen_more)

            after_is : waited ++ e ∷ [] ≡ after
            after_is = append_assoc alone.after (looked ++ seen_more) (e ∷ []) ∙ ap (λ (l : List TableEntry). alone.after ++ l) (append_assoc looked seen_more (e ∷ []))

            waited_waits : AreWaiting waited
            waited_waits = all_left (λ (x : TableEntry). IsWaiting x.call) waited (e ∷ []) (looks_wait (waited ++ e ∷ []) (subst (λ (l : List TableEntry). OnlyLooks (control_calls l)) (sym after_is)
                (subst OnlyLooks (sym controls) (only_then (control_calls looked) (look_call stage ∷ []) looks_looked ((stage, refl), tt)))))

            place_all : all ≡ ((p.seen ++ alone.before) ++ b ∷ waited) ++ e ∷ more
            place_all = sym more_is ∙ (ap (λ (l : List TableEntry). l ++ more) (sym seen_is) ∙ (ap (λ (l : List TableEntry). (p.seen ++ l) ++ more) (ap (λ (l : List TableEntry). l ++ (looked ++ (seen_more ++ e ∷ []))) alone.place)
                ∙ move p.seen alone.before alone.after looked seen_more more))
              where
                move : (x y z v w u : List TableEntry) → (x ++ ((y ++ b ∷ z) ++ (v ++ (w ++ e ∷ [])))) ++ u ≡ ((x ++ y) ++ b ∷ (z ++ (v ++ w))) ++ e ∷ u
                move x y z v w u = simp append_assoc refl

    gives_up_back : (f : ℕ) (p : PassOfTable) (lines : List NumberedLine) (issuers : List Issuer) → Back (spot opening f p lines issuers) (spot over f p lines issuers)
    gives_up_back f p lines issuers y = record {
      seen = y.seen;
      front = y.front;
      out = y.out;
      goes = λ kept before is rest whole. inl (y.goes ((keeps.gives_up f p lines issuers).1 (y.seen).seen kept) before is rest whole);
    }

    pub walks_back : Walks IsIdle turn devices Back
    walks_back = record {
      same = λ x r. r;
      joins = λ x y z one other r. one (other r);
      comes = λ b f p l lines old new first none has. comes_back b f p l lines old new none has;
      runs = λ b f p q lines old new first ran on. runs_back b f p q lines old new first ran on;
      drops = drops_back;
      stays = λ stage f p q r l lines old new x calls so. looks_back stage true playing f p q r l lines old new x calls so (λ before more goes. goes) (keeps.stays stage f p q r l lines old new x calls so);
      stops = λ stage f p q r l lines old new x calls so. looks_back stage false opening f p q r l lines old new x calls so (λ before more goes. goes) (keeps.stops stage f p q r l lines old new x calls so);
      begins = begins_back;
      gives_up = gives_up_back;
      passes = passes_back;
      ends = ends_back;
    }
