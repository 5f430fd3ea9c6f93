-- What applications ask between lives may come behind all of them; of what they ask between removals, the submissions may come before all of them and the takes behind.
use Rattle.std.proofs.Common.{◌≡◌, ◌∙◌, refl, sym, ap, subst, ℕ, Bool, List, [], ◌∷◌, ◌++◌, append-nil}
use Rattle.std.proofs.lemmas.List.Elements.{filter-append}
use Rattle.std.specs.Prelude.{Result}
use Rattle.rd_pending.specs.declared.calls.LiveNo.{LiveNo}
use Rattle.rd_pending.specs.declared.calls.Taken.{Taken}
use Rattle.rd_pending.specs.History.{Call, IsReachedTable, May, begins, completes, drops, lives, removes, sends, submits, takes}
use Rattle.rd_pending.specs.Outcomes.{Accepted}
use Rattle.rd_pending.specs.Table.{TableState, live, remove}
use Rattle.rd_exchanges.specs.Exchanges.{AreAllAsks, AreAsks, AsksFollow, AsksPart, IsAsk, MayGo, MayGoBetween, accepted_between, accepted_along, all_after, answers_of, asks_in, devices_in, goes, handed_between, handed_along, is_take, submissions_among, takes_among}
use Rattle.rd_exchanges.proofs.CallLemmas.{IsSubmission, IsTake, accepted_on, are_submissions, are_takes, asks_on, goes_on, handed_on, may_go_on, none_handed, submissions_ask, submissions_on, takes_on}
use Rattle.rd_exchanges.proofs.LifeLemmas.{ask_passes}
use Rattle.rd_exchanges.proofs.PassingLemmas.{PassAll, PassEach, Passes, ahead, behind_each}
use Rattle.rd_exchanges.proofs.ReachedLemmas.{call_reached, calls_reached, devices_rise, removal_reached}
use Rattle.rd_exchanges.proofs.RemovalLemmas.{submission_passes, take_passes}
use Rattle.rd_exchanges.proofs.TakeLemmas.{Parts, asks_part}

-- ---- lives

abbrev Any : TableState → Type 0
Any t = Unit {0}

module _ (t : TableState) (e : ℕ × List Call) (more : List (ℕ × List Call)) (asks : AreAsks e.1) (may : MayGo (live t e.0).0 e.1) (q : AsksFollow live (goes (live t e.0).0 e.1) more) where
  abbrev next : TableState
  next = goes (live t e.0).0 e.1

  -- behind all lives
  abbrev past : TableState
  past = all_after live (live t e.0).0 (devices_in more)

  -- what is asked behind the first life may come behind the others
  p : PassEach live (live t e.0).0 (devices_in more) e.1
  p = behind_each live Any IsAsk (λ u c any m. tt) (λ u d any. tt) (λ u d c any ask m. ask_passes u d c ask m) (devices_in more) (live t e.0).0 e.1 tt asks may

  life_more : AsksFollow live t (e ∷ more)
  life_more = record {
    may = may_go_on past e.1 (asks_in more) p.may_past (subst (λ (u : TableState). MayGo u (asks_in more)) (sym p.same) q.may);
    same = goes_on past e.1 (asks_in more) ∙ ap (λ (u : TableState). goes u (asks_in more)) p.same ∙ q.same;
    answers = ap (λ (xs : List (Result ℕ LiveNo)). (live t e.0).1 ∷ xs) (sym p.answers ∙ q.answers);
    accepted =
        accepted_on past e.1 (asks_in more)
        ∙ ap (λ (u : TableState). accepted_along past e.1 ++ accepted_along u (asks_in more)) p.same
        ∙ ap (λ (xs : List Accepted). accepted_along past e.1 ++ xs) q.accepted
        ∙ ap (λ (xs : List Accepted). xs ++ accepted_between live next more) p.accepted;
    handed =
        handed_on past e.1 (asks_in more)
        ∙ ap (λ (u : TableState). handed_along past e.1 ++ handed_along u (asks_in more)) p.same
        ∙ ap (λ (xs : List (ℕ × Taken)). handed_along past e.1 ++ xs) q.handed
        ∙ ap (λ (xs : List (ℕ × Taken)). xs ++ handed_between live next more) p.handed;
  }

pub lives_followed : (more : List (ℕ × List Call)) (t : TableState) → AreAllAsks more → MayGoBetween live t more → AsksFollow live t more
lives_followed [] t asks may = record { may = tt; same = refl; answers = refl; accepted = refl; handed = refl }
lives_followed (e ∷ more) t asks may = life_more t e more asks.0 may.0 (lives_followed more (goes (live t e.0).0 e.1) asks.1 may.1)

-- ---- removals

submissions_pass : (t : TableState) (d : ℕ) (c : Call) → IsReachedTable t → IsSubmission c → May (remove t d).0 c → Passes remove t d c
submissions_pass t d (submits a named o) reached is may = submission_passes t d a named o (devices_rise t reached) may
submissions_pass t d (takes m) reached is may = absurd (cc is)
submissions_pass t d (begins c) reached is may = absurd (cc is)
submissions_pass t d (lives e) reached is may = absurd (cc is)
submissions_pass t d (removes e) reached is may = absurd (cc is)
submissions_pass t d (completes head bytes) reached is may = absurd (cc is)
submissions_pass t d sends reached is may = absurd (cc is)
submissions_pass t d drops reached is may = absurd (cc is)

takes_pass : (t : TableState) (d : ℕ) (c : Call) → IsTake c → May t c → Passes remove t d c
takes_pass t d (takes m) is may = take_passes t d m may
takes_pass t d (submits a named o) is may = absurd (cc is)
takes_pass t d (begins c) is may = absurd (cc is)
takes_pass t d (lives e) is may = absurd (cc is)
takes_pass t d (removes e) is may = absurd (cc is)
takes_pass t d (completes head bytes) is may = absurd (cc is)
takes_pass t d sends is may = absurd (cc is)
takes_pass t d drops is may = absurd (cc is)

module _ (t : TableState) (e : ℕ × List Call) (more : List (ℕ × List Call)) (reached : IsReachedTable t) (asks : AreAsks e.1) (may : MayGo (remove t e.0).0 e.1)
    (q : AsksPart remove (goes (remove t e.0).0 e.1) more) where
  abbrev first : TableState
  first = (remove t e.0).0

  abbrev after_asks : TableState
  after_asks = goes first e.1

  -- the submissions behind the second removal, and all of them
  abbrev later : List Call
  later = submissions_among (asks_in more)

  abbrev subs : List Call
  subs = submissions_among (asks_in (e ∷ more))

  reached_first : IsReachedTable first
  reached_first = removal_reached t e.0 reached

  -- behind the first removal: all submissions, and then the takes that stand before the second
  parts : Parts first (e.1 ++ later) subs (takes_among e.1)
  parts = subst (Parts first (e.1 ++ later) subs) (takes_on e.1 (asks_in more))
      (subst (λ (cs : List Call). Parts first (e.1 ++ later) cs (takes_among (e.1 ++ later))) (submissions_on e.1 (asks_in more))
      (asks_part (e.1 ++ later) first reached_first (asks_on e.1 later asks (submissions_ask (asks_in more))) (may_go_on first e.1 later may q.may_submit)))

  abbrev submitted : TableState
  submitted = goes first subs

  -- all submissions, and then all removals
  abbrev removed : TableState
  removed = all_after remove (remove (goes t subs) e.0).0 (devices_in more)

  parted : goes submitted (takes_among e.1) ≡ goes after_asks later
  parted = parts.same ∙ goes_on first e.1 later

  -- the submissions come before the first removal
  ahead_of_first : PassAll remove t e.0 subs
  ahead_of_first = ahead remove e.0 IsReachedTable IsSubmission (λ x c h g p. call_reached x c h p.may) (λ x c h g m. submissions_pass x e.0 c h g m) subs t reached
      (are_submissions (asks_in (e ∷ more))) parts.may_submit

  -- and the takes behind the other removals
  behind_others : PassEach remove submitted (devices_in more) (takes_among e.1)
  behind_others = behind_each remove IsReachedTable IsTake (λ x c h m. call_reached x c h m) (λ x d h. removal_reached x d h) (λ x d c h g m. takes_pass x d c g m)
      (devices_in more) submitted (takes_among e.1) (calls_reached first subs reached_first parts.may_submit) (are_takes e.1) parts.may_take

  removed_is : all_after remove submitted (devices_in more) ≡ removed
  removed_is = ap (λ (x : TableState). all_after remove x (devices_in more)) ahead_of_first.same

  all_takes : takes_among (asks_in (e ∷ more)) ≡ takes_among e.1 ++ takes_among (asks_in more)
  all_takes = filter-append is_take e.1 (asks_in more)

  may_here : MayGo removed (takes_among e.1)
  may_here = subst (λ (x : TableState). MayGo x (takes_among e.1)) removed_is behind_others.may_past

  same_here : goes removed (takes_among e.1) ≡ all_after remove (goes after_asks later) (devices_in more)
  same_here = ap (λ (x : TableState). goes x (takes_among e.1)) (sym removed_is) ∙ behind_others.same ∙ ap (λ (x : TableState). all_after remove x (devices_in more)) parted

  may_behind : MayGo (goes removed (takes_among e.1)) (takes_among (asks_in more))
  may_behind = subst (λ (x : TableState). MayGo x (takes_among (asks_in more))) (sym same_here) q.may_take

  handed_here : handed_along removed (takes_among e.1) ≡ handed_along first e.1
  handed_here =
      ap (λ (x : TableState). handed_along x (takes_among e.1)) (sym removed_is)
      ∙ behind_others.handed
      ∙ parts.handed
      ∙ handed_on first e.1 later
      ∙ ap (λ (xs : List (ℕ × Taken)). handed_along first e.1 ++ xs) (none_handed after_asks (asks_in more))
      ∙ append-nil (handed_along first e.1)

  removal_more : AsksPart remove t (e ∷ more)
  removal_more = record {
    may_submit = ahead_of_first.may;
    may_take = subst (MayGo removed) (sym all_takes) (may_go_on removed (takes_among e.1) (takes_among (asks_in more)) may_here may_behind);
    same =
        ap (goes removed) all_takes
        ∙ goes_on removed (takes_among e.1) (takes_among (asks_in more))
        ∙ ap (λ (x : TableState). goes x (takes_among (asks_in more))) same_here
        ∙ q.same;
    answers =
        ap (λ (b : Bool). b ∷ answers_of remove (remove (goes t subs) e.0).0 (devices_in more)) ahead_of_first.answer
        ∙ ap (λ (x : TableState). (remove t e.0).1 ∷ answers_of remove x (devices_in more)) (sym ahead_of_first.same)
        ∙ ap (λ (xs : List Bool). (remove t e.0).1 ∷ xs) (sym behind_others.answers ∙ ap (λ (x : TableState). answers_of remove x (devices_in more)) parted ∙ q.answers);
    accepted = sym ahead_of_first.accepted ∙ parts.accepted ∙ accepted_on first e.1 later ∙ ap (λ (xs : List Accepted). accepted_along first e.1 ++ xs) q.accepted;
    handed =
        ap (handed_along removed) all_takes
        ∙ handed_on removed (takes_among e.1) (takes_among (asks_in more))
        ∙ ap (λ (x : TableState). handed_along removed (takes_among e.1) ++ handed_along x (takes_among (asks_in more))) same_here
        ∙ ap (λ (xs : List (ℕ × Taken)). handed_along removed (takes_among e.1) ++ xs) q.handed
        ∙ ap (λ (xs : List (ℕ × Taken)). xs ++ handed_between remove after_asks more) handed_here;
  }

pub removals_parted : (more : List (ℕ × List Call)) (t : TableState) → IsReachedTable t → AreAllAsks more → MayGoBetween remove t more → AsksPart remove t more
removals_parted [] t reached asks may = record { may_submit = tt; may_take = tt; same = refl; answers = refl; accepted = refl; handed = refl }
removals_parted (e ∷ more) t reached asks may =
    removal_more t e more reached asks.0 may.0 (removals_parted more (goes (remove t e.0).0 e.1) (calls_reached (remove t e.0).0 e.1 (removal_reached t e.0 reached) may.0) asks.1 may.1)
