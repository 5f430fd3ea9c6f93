-- Each line of a script that a host played has its outcome, along the one history of its table.
use Rattle.std.proofs.Common.{◌≡◌, ◌≢◌, ◌∙◌, ◌⊎◌, inl, inr, refl, sym, ap, subst, ℕ, zero, suc, ◌+◌, ◌<◌, ◌≤◌, Bool, true, false, List, [], ◌∷◌, length, map, Contains, arith, Some, None, Option, is_none}
use Rattle.std.specs.Prelude.{◌&&◌, nat_lt, slice_get, slice_index_or}
use Rattle.std.proofs.lemmas.Bool.Decides.{nat_tests}
use Rattle.std.proofs.lemmas.List.Elements.{Contains-append_right}
use Rattle.std.proofs.lemmas.Option.{slice_get_within}
use mathlib.Core.List.{IsPrefix}
use Rattle.rd_carry.specs.declared.ended.Ended.{Ended}
use Rattle.rd_host_front.specs.State.{JoinsPass, PassOfTable, TurnOfTable}
use Rattle.rd_host_player.specs.Play.{HasCome, QueuedAt, queued}
use Rattle.rd_host_session.specs.Channels.{LinkedTold}
use Rattle.rd_host_session.specs.Hosted.{PlaysOver, issuers_of}
use Rattle.rd_issuer.specs.declared.issuer.Issuer.{Issuer}
use Rattle.rd_issuer.specs.Issues.{HasAllOutcomes}
use Rattle.rd_issuer.specs.SideBySide.{RanSideBySide}
use Rattle.rd_script.specs.declared.line.NumberedLine.{NumberedLine}
use Rattle.rd_script.specs.declared.outcome.Outcome.{Outcome}
use Rattle.rd_turn.specs.History.{calls_of}
use Rattle.rd_turn.specs.Pass.{after_split, first_pass}
use Rattle.rd_turn.proofs.HistoryLemmas.{GoesOn-joined, GoesOn-prefix}
use Rattle.rd_world.specs.Run.{asked_by}
use Rattle.rd_world.specs.World.{ApplicationState, Asked, new_application}
use Rattle.rd_host_turns.specs.Turns.{TableEntry}
use Rattle.rd_host_turns.proofs.MoveLemmas.{zeros_stay}
use Rattle.rd_host_lines.specs.Outcomes.{AllCame, AsksNothing, LinesCame, asks_under}
use Rattle.rd_host_lines.proofs.BeginLemmas.{asking_for, begins_so, numbers_differ}
use Rattle.rd_host_lines.proofs.InPlayLemmas.{InPlay, IsApart, bare, calls_on, carries, fronts_apart, got_indexed, indexed_got, issuer, number_at, number_of, numbers_same, numbers_set, others_ask}
use Rattle.rd_host_lines.proofs.MineLemmas.{mine_are}
use Rattle.rd_host_lines.proofs.OutcomeLemmas.{AreMine, all_came, calls_by, calls_in}
use Rattle.rd_host_lines.proofs.OverLemmas.{IsOver, session_over}
use Rattle.rd_host_lines.proofs.PassLemmas.{AreSuch, OwnAre, Stays, all_as}
use Rattle.rd_host_lines.proofs.PlayLemmas.{Carrying, Keeping}
use Rattle.rd_host_lines.proofs.RunLemmas.{each_pass, one_of}
use Rattle.rd_host_lines.proofs.SessionLemmas.{Carried, all_such, session_carried, session_such}

-- ---- numbers

abbrev Any : TableEntry → Type 0
Any e = Unit {0}

-- the applications keep their numbers
abbrev Numbered : List ℕ → ℕ → PassOfTable → List NumberedLine → List Issuer → Type 0
Numbered numbers f p lines issuers = (p.number ≡ 0) × (map number_of issuers ≡ numbers)

comes_numbered : (l : NumberedLine) (old new : List Issuer) → HasCome l.line old new → map number_of new ≡ map number_of old
comes_numbered l old new has = by (asked_by l.line) refl
  where
    at : (b : ℕ) → QueuedAt b old new → map number_of new ≡ map number_of old
    at b (place, i, got, number, is) = ap (map number_of) is ∙ numbers_set old place i (queued i) got refl

    by : (o : Option (ℕ × Asked)) → asked_by l.line ≡ o → map number_of new ≡ map number_of old
    by None e = let h : new ≡ old = rw e at has in ap (map number_of) h
    by (Some (b, asked)) e = let h : QueuedAt b old new = rw e at has in at b h

carries_numbers : (numbers : List ℕ) (all : List TableEntry) → Carrying Any (Numbered numbers) all
carries_numbers numbers all = record {
  such = λ by does back is. tt;
  first = λ f p lines issuers (x : Numbered numbers f p lines issuers). x.0;
  comes = λ f p l lines old new has (x : Numbered numbers f p (l ∷ lines) old). (x.0, comes_numbered l old new has ∙ x.1);
  runs = λ f p q lines old new ran on prefix (x : Numbered numbers f p lines old). (ran.first, numbers_same old new ran.count (λ n d e less. (ran.ran n d e less).number) ∙ x.1);
  looks = λ turn stage f p q lines issuers calls (x : Numbered numbers f p lines issuers). ((calls.same).0 ∙ x.0, x.1);
  anew = λ lines issuers p q f g one (x : Numbered numbers f p lines issuers). ((one.stays).number, x.1);
}

-- what has a number at a place has had it there
pub got_numbered : (xs : List Issuer) (place n : ℕ) → slice_get (map number_of xs) place ≡ Some n → (i : Issuer) × (slice_get xs place ≡ Some i) × (i.number ≡ n)
got_numbered [] place n is = absurd (cc is)
got_numbered (x ∷ xs) zero n is = (x, refl, cc is)
got_numbered (x ∷ xs) (suc place) n is = got_numbered xs place n is

-- ---- the end of the play

not_less : (n m : ℕ) → nat_lt n m ≡ false → m ≤ n
not_less n m is = grind (arith, nat_tests)

-- each line has its outcome where the script came to all
pub all_ended : (x : ApplicationState) (total : ℕ) → HasAllOutcomes x → x.queued ≡ total → total ≤ length x.outcomes
all_ended x total (none, free) is = by (nat_lt (length x.outcomes) x.queued) refl (subst (λ (o : Option ℕ). (nat_lt (length x.outcomes) x.queued && is_none o) ≡ false) free none)
  where
    by : (b : Bool) → nat_lt (length x.outcomes) x.queued ≡ b → (b && is_none {T = ℕ} None) ≡ false → total ≤ length x.outcomes
    by true less none = absurd (cc none)
    by false less none = let le : x.queued ≤ length x.outcomes = not_less (length x.outcomes) x.queued less in omega arith

pub home_stays : (p other last : PassOfTable) → p.number ≡ 0 → JoinsPass p other last → Stays p last
home_stays p other last first home = record {
  number = home.number;
  least = (let made = home.made in omega arith);
  seen = GoesOn-prefix p last home.goes_on;
  kept = λ k n ne has. (
    subst (λ (l : List (ℕ × ℕ)). Contains l (k, n)) (sym home.joined)
        (Contains-append_right ((other.number, length (calls_of other.number other.seen)) ∷ []) p.joined (k, n) has),
    GoesOn-joined p last k n first has home.goes_on,
  );
}

-- ---- the law

module _ (lines : List NumberedLine) (other : Option Ended) (old new : LinkedTold) (turn : TurnOfTable) (issuers : List Issuer) (last : PassOfTable) {W : Type 0}
    (over : PlaysOver W turn lines other issuers (first_pass turn) last old new) where
  abbrev numbers : List ℕ
  numbers = map number_of (issuers_of lines)

  all_numbers : map number_of issuers ≡ map number_of (issuers_of lines)
  all_numbers =
      let c = session_carried {W = W} Any (Numbered numbers) turn lines other issuers last old new over (carries_numbers numbers last.seen) (refl, refl) in
      ap (map number_of) (sym over.issuers_are) ∙ (c.holds).1

  -- an application that isn't the script's asks for nothing
  none_asked : (a : ℕ) → ((place : ℕ) (i : Issuer) → slice_get issuers place ≡ Some i → i.number ≢ a) → AsksNothing a last.seen
  none_asked a none = session_such {W = W} (IsApart a) (λ (xs : List Issuer). map number_of xs ≡ numbers) turn lines other issuers last old new over keeping refl
    where
      apart : (xs : List Issuer) (place : ℕ) (i : Issuer) → map number_of xs ≡ numbers → slice_get xs place ≡ Some i → i.number ≢ a
      apart xs place i same got is =
          let (j, at, number) = got_numbered issuers place i.number (ap (λ (l : List ℕ). slice_get l place) (all_numbers ∙ sym same) ∙ number_at xs place i got) in
          none place j at (number ∙ is)

      runs : (before after : PassOfTable) (xs ys : List Issuer) → RanSideBySide before after xs ys → IsPrefix after.seen last.seen → map number_of xs ≡ numbers
          → (map number_of ys ≡ numbers) × ((k : ℕ) → before.made < k → k ≤ after.made → (n : ℕ) × Contains after.joined (k, n) × AreSuch (IsApart a) (calls_of k after.seen))
      runs before after xs ys ran prefix same = (
        numbers_same xs ys ran.count (λ n d e less. (ran.ran n d e less).number) ∙ same,
        each_pass before after xs ys (IsApart a) ran (λ place within.
            let d = one_of xs (omega arith) in
            let issued = (ran.ran place d d within).issued in
            let other_is = apart xs place (slice_index_or xs place d) same (got_indexed xs place d within) in
            subst (AreSuch (IsApart a)) (sym issued.calls) (others_ask a (slice_index_or xs place d).number (suc (before.made + place)) other_is issued.issues _ _ issued.does)),
      )

      keeping : Keeping (IsApart a) (λ (xs : List Issuer). map number_of xs ≡ numbers) last.seen
      keeping = record { such = fronts_apart a; queue = λ l xs ys has same. comes_numbered l xs ys has ∙ same; runs = runs }

  -- of an application that was in play to the end
  in_play_came : (a place : ℕ) (i : Issuer) → slice_get issuers place ≡ Some i → OwnAre (IsApart a) (over.closed).table
      → InPlay a place (length (asks_under a lines)) numbers (asking_for (asks_under a lines)) (numbers_differ lines) (((over.closed).table).pass).number ((over.ends).play).first ((over.ends).play).lines ((over.ends).play).issuers
      → LinesCame a new_application (asks_under a lines) (i.application).outcomes last.seen
  in_play_came a place i at own x = subst (λ (l : List Outcome). LinesCame a new_application asks l last.seen) (sym (came.1) ∙ ap (λ (j : Issuer). (j.application).outcomes) now_is) came.2
    where
      asks : List Asked
      asks = asks_under a lines

      p : PassOfTable
      p = ((over.ends).play).first

      g : PassOfTable
      g = ((over.closed).table).pass

      home : JoinsPass p g last
      home = over.home

      done : IsOver (over.ends).play
      done = session_over turn _ other _ over.ends over.serves

      now_at : slice_get issuers place ≡ Some (issuer a x.now)
      now_at = ap (λ (l : List Issuer). slice_get l place) (sym over.issuers_are) ∙ x.at

      now_is : issuer a x.now ≡ i
      now_is = cc (now_at, at)

      stays : Stays p last
      stays = home_stays p g last (x.ran).first home

      calls : calls_by x.mine last.seen ≡ calls_in x.issues
      calls = calls_on a x.mine g.number p last x.ran stays ∙ x.calls

      apart : (xs : List TableEntry) → AreSuch (IsApart a) xs → AreSuch (λ (e : TableEntry). (x.mine e.by ≡ true) ⊎ IsApart a e) xs
      apart xs are = all_as (IsApart a) (λ (e : TableEntry). (x.mine e.by ≡ true) ⊎ IsApart a e) (λ e here. inr here) xs are

      class : (k : ℕ) → k ≢ 0 → (k ≡ g.number) ⊎ ((n : ℕ) × Contains p.joined (k, n) × ((x.mine k ≡ true) ⊎ AreSuch (IsApart a) (calls_of k p.seen)))
          → AreSuch (λ (e : TableEntry). (x.mine e.by ≡ true) ⊎ IsApart a e) (calls_of k last.seen)
      class k ne (inl is) = apart (calls_of k last.seen) (subst (λ (n : ℕ). AreSuch (IsApart a) (calls_of n last.seen)) (sym is) (subst (AreSuch (IsApart a)) (sym home.other_calls) own))
      class k ne (inr (n, has, inl mine)) =
          all_as (λ (e : TableEntry). x.mine e.by ≡ true) (λ (e : TableEntry). (x.mine e.by ≡ true) ⊎ IsApart a e) (λ e here. inl here) (calls_of k last.seen) (mine_are x.mine k mine last.seen)
      class k ne (inr (n, has, inr are)) = apart (calls_of k last.seen) (subst (AreSuch (IsApart a)) (sym (stays.kept k n ne has).1) are)

      each : (k : ℕ) → k ≤ last.made → AreSuch (λ (e : TableEntry). (x.mine e.by ≡ true) ⊎ IsApart a e) (calls_of k last.seen)
      each zero le = apart (calls_of 0 last.seen) (subst (AreSuch (IsApart a)) (sym (zeros_stay p last (x.ran).first home.goes_on)) (x.ran).own)
      each (suc k) le = let made = home.made in let ne : suc k ≢ 0 = λ z. absurd (omega arith) in class (suc k) ne ((x.ran).each (suc k) ne (omega arith))

      mine : AreMine x.mine a last.seen
      mine = all_such (λ (e : TableEntry). (x.mine e.by ≡ true) ⊎ IsApart a e) last.made last.seen [] last.seen refl (home.numbers home.number) each

      all : HasAllOutcomes x.now
      all = subst (λ (j : Issuer). HasAllOutcomes j.application) (indexed_got ((over.ends).play).issuers place (issuer a x.now) (issuer a x.now) x.at)
          (done.all place (issuer a x.now) (slice_get_within ((over.ends).play).issuers place (issuer a x.now) x.at))

      came_to_all : (x.now).queued ≡ length asks
      came_to_all = let left : (x.now).queued + 0 ≡ length asks = subst (λ (l : List NumberedLine). (x.now).queued + length (asks_under a l) ≡ length asks) done.none x.left in omega (arith, left)

      enough : length asks ≤ length (x.now).outcomes
      enough = all_ended x.now (length asks) all came_to_all

      came : (os : List Outcome) × ((x.now).outcomes ≡ os) × LinesCame a new_application asks os last.seen
      came = all_came a x.mine x.issues (asking_for asks) (bare x.now) new_application [] asks last.seen x.did (record { asks = refl; count = refl; handles = refl }) (omega (arith, enough)) all.1 mine calls

  one_came : (place : ℕ) (i begun : Issuer) → slice_get issuers place ≡ Some i → slice_get (issuers_of lines) place ≡ Some begun → begun.number ≡ i.number
      → LinesCame i.number new_application (asks_under i.number lines) (i.application).outcomes last.seen
  one_came place i begun at first number = in_play_came i.number place i at c.own c.holds
    where
      a : ℕ
      a = i.number

      asks : List Asked
      asks = asks_under a lines

      begun_is : begun ≡ issuer a (asking_for asks)
      begun_is = λ k. record { number = number k; application = (begins_so lines place begun first ∙ ap (λ (n : ℕ). asking_for (asks_under n lines)) number) k }

      begin : InPlay i.number place (length (asks_under i.number lines)) numbers (asking_for (asks_under i.number lines)) (numbers_differ lines) 1 (after_split (first_pass turn)) lines (issuers_of lines)
      begin = record {
        mine = λ k. false;
        ran = record { first = refl; own = tt; joined = λ k own. absurd (cc own); each = λ k ne le. inl (omega arith) };
        numbers_are = refl;
        now = asking_for (asks_under i.number lines);
        at = first ∙ ap (λ (j : Issuer). Some j) begun_is;
        left = omega arith;
        issues = [];
        did = refl;
        calls = refl;
      }

      c : Carried (IsApart i.number) (InPlay i.number place (length (asks_under i.number lines)) numbers (asking_for (asks_under i.number lines)) (numbers_differ lines)) issuers (over.ends).play over.closed
      c = session_carried {W = W} (IsApart i.number) (InPlay i.number place (length (asks_under i.number lines)) numbers (asking_for (asks_under i.number lines)) (numbers_differ lines)) turn lines other issuers last old new over
          (carries i.number place (length (asks_under i.number lines)) numbers (asking_for (asks_under i.number lines)) (numbers_differ lines) last.seen) begin

  pub lines_came : AllCame lines issuers last.seen
  lines_came = record {
    numbers = all_numbers;
    each = λ place i at.
        let (begun, first, number) = got_numbered (issuers_of lines) place i.number (ap (λ (l : List ℕ). slice_get l place) (sym all_numbers) ∙ number_at issuers place i at) in
        one_came place i begun at first number;
    others = none_asked;
  }
