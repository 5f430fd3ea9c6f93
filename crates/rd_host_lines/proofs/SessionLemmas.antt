-- What a session at a host's channels makes of the table: what holds of the calls that no application makes, and of those of applications that run, holds of all.
use Rattle.std.proofs.Common.{◌≡◌, ◌≢◌, ◌∙◌, ◌⊎◌, inl, inr, refl, sym, ap, subst, ℕ, zero, suc, ◌≤◌, Bool, false, cond, List, [], ◌∷◌, ◌++◌, length, append_assoc, append-nil, All, Contains, Option, Some, None, arith, eq-eqb, ne_eqb}
use Rattle.std.specs.List.{AllByRecursion}
use mathlib.Core.Logic.{dite}
use native.Mathlib.Decide.{dec_le}
use Rattle.rd_base.specs.Layout.{AreBytes}
use Rattle.rd_base.specs.Position.{at_start}
use Rattle.rd_base.proofs.LayoutLemmas.{found}
use Rattle.rd_base.proofs.NumberLemmas.{IsBytes-take}
use Rattle.rd_irp.specs.Completion.{completion_head}
use Rattle.rd_carry.specs.Incoming.{IncomingState}
use Rattle.rd_carry.specs.Outgoing.{OutgoingState}
use Rattle.rd_carry.specs.declared.ended.Ended.{Ended}
use Rattle.rd_host_channel.specs.Calls.{AllAskFor, AsksFor, HearBytes, HearsBytes, HostEntry, HostPass}
use Rattle.rd_host_channel.specs.Reading.{AreGiven, waiting_after}
use Rattle.rd_host_channel.specs.declared.ending.Ending.{Ending}
use Rattle.rd_host_front.specs.HostFront.{HostFrontStep}
use Rattle.rd_host_front.specs.declared.calls.HostFrontCall.{HostFrontCall}
use Rattle.rd_host_front.specs.declared.calls.HostFrontCall.TheVariants as call
use Rattle.rd_host_front.specs.State.{HostFrontState, JoinsPass, PassOfTable, TurnOfTable}
use Rattle.rd_host_player.specs.Plan.{awaited_devices}
use Rattle.rd_host_player.specs.Play.{JoinsFront, PlayState, PlaysOut, play_state}
use Rattle.rd_host_player.specs.declared.player.Stop.{Stop}
use Rattle.rd_host_player.specs.declared.player.Stop.TheVariants as stop
use Rattle.rd_host_session.specs.Channels.{EndsAt, LinkedTold, Served, ServesAll, ServesBegun, ServesChannel, SessionState, stands}
use Rattle.rd_host_session.specs.Hosted.{PlaysOver, front_over, issuers_of}
use Rattle.rd_issuer.specs.declared.issuer.Issuer.{Issuer}
use Rattle.rd_runs.proofs.FileNumbers.{IsSafe}
use Rattle.rd_script.specs.declared.line.NumberedLine.{NumberedLine}
use Rattle.rd_table.specs.declared.calls.PendingCall.{PendingCall}
use Rattle.rd_table.specs.declared.calls.PendingReply.{PendingReply}
use Rattle.rd_turn.specs.History.{Leads, calls_of, entry}
use Rattle.rd_turn.specs.Pass.{after_split, first_pass}
use Rattle.rd_turn.proofs.HistoryLemmas.{GoesOn-joined, GoesOn-own, by_at}
use Rattle.rd_host_turns.specs.Turns.{TableEntry}
use Rattle.rd_host_turns.proofs.CountLemmas.{all_both, of_own}
use Rattle.rd_host_turns.proofs.MoveLemmas.{zeros_stay}
use Rattle.rd_host_lines.proofs.PassLemmas.{AreSuch, Good, OwnAre, Replaces}
use Rattle.rd_host_lines.proofs.FrontLemmas.{HearsSafe, Hops, IsOther, IsPlain, OwnBy, hops_parted, one_hop, other_by, plain_fronts}
use Rattle.rd_host_lines.proofs.PlayLemmas.{Carries, Carrying, GoodFit, Keeping, carrying_of, walks}
use Rattle.rd_host_lines.proofs.WalkLemmas.{Along, FromBegun, HasFirsts, Mode, Spot, Walked, Walks, at, begins_so, begun_call, gives_up_so, opening, out_so, over, plays_so, spot, stopped}

bytes_safe : (m : List ℕ) → AreBytes m → IsSafe m
bytes_safe m bytes head q is = (IsBytes-take 4 q.left (found completion_head (at_start m) head q (record { below = bytes }) is).rest_fits).below

module _ {W : Type 0} where
  hears_safe : (does : HostFrontCall W) → HearsBytes does → HearsSafe does
  hears_safe (call.Hear channel message) bytes = bytes_safe message bytes
  hears_safe (call.Begin channel first) bytes = tt
  hears_safe (call.Next channel room) bytes = tt
  hears_safe (call.DropChannel channel) bytes = tt
  hears_safe (call.DropSent first anew) bytes = tt

  -- ---- calls of the front by its other passes

  -- pass 0 of the table is handed to the front in none of these, and what is heard is safe
  abbrev AreOther : List (HostEntry W) → Type 0
  AreOther calls = AllByRecursion (λ (e : HostEntry W). IsOther e.call × HearsSafe e.call) calls

  given_other : (channel : ℕ) (calls : List (HostEntry W)) (waiting rest : List (List ℕ)) → HearBytes calls → AreGiven channel calls waiting rest → AreOther calls
  given_other channel [] waiting rest bytes given = tt
  given_other channel (e ∷ calls) [] rest bytes given = absurd given
  given_other channel (e ∷ calls) (message ∷ later) rest (here, bytes) (is, given) =
      ((subst (λ (c : HostFrontCall W). IsOther c) (sym is) tt, hears_safe e.call here), given_other channel calls (waiting_after e.reply message later) rest bytes given)

  asks_other : (channel : ℕ) (does : HostFrontCall W) → AsksFor channel does → IsOther does × HearsSafe does
  asks_other channel (call.Next c room) asks = (tt, tt)
  asks_other channel _ asks = absurd asks

  ask_other : (channel : ℕ) (calls : List (HostEntry W)) → AllAskFor channel calls → AreOther calls
  ask_other channel [] ask = tt
  ask_other channel (e ∷ calls) (here, ask) = (asks_other channel e.call here, ask_other channel calls ask)

  -- a new pass made these calls
  new_calls : (k : ℕ) (old new calls : List (HostEntry W)) → calls_of k old ≡ [] → calls_of k new ≡ calls_of k old ++ calls → calls_of k new ≡ calls
  new_calls k old new calls fresh is = is ∙ ap (λ l. l ++ calls) fresh

contains_first : {A : Type 0} (x : A) (xs l : List A) → l ≡ x ∷ xs → Contains l x
contains_first {A} x xs l is = subst (λ (l : List A). Contains l x) (sym is) (0, omega arith, refl)

contains_later : {A : Type 0} (x y : A) (xs l : List A) → l ≡ x ∷ xs → Contains xs y → Contains l y
contains_later {A} x y xs l is (place, within, at) = subst (λ (l : List A). Contains l y) (sym is) (suc place, omega arith, at)

module _ {F W : Type 0} where
  -- Each pass that was split from this one was joined to it, and made such calls alone.
  abbrev AreClassed : HostPass F W → Type 0
  AreClassed p = (k : ℕ) → k ≢ 0 → k ≤ p.made → (n : ℕ) × Contains p.joined (k, n) × AreOther (calls_of k p.seen)

  -- a pass that was joined before another stays joined, with its calls
  joins_kept : (old other new : HostPass F W) (k n : ℕ) → old.number ≡ 0 → JoinsFront old other new → Contains old.joined (k, n)
      → Contains new.joined (k, n) × (calls_of k new.seen ≡ calls_of k old.seen)
  joins_kept old other new k n first j has =
      (contains_later (other.number, length (calls_of other.number other.seen)) (k, n) old.joined new.joined j.joined has, GoesOn-joined old new k n first has j.goes_on)

  joins_own : (old other new : HostPass F W) → old.number ≡ 0 → JoinsFront old other new → calls_of 0 new.seen ≡ calls_of 0 old.seen
  joins_own old other new first j = subst (λ (k : ℕ). calls_of k new.seen ≡ calls_of k old.seen) first (GoesOn-own old new j.goes_on)

  -- The other one is joined, with its calls.
  joins_other : (old other new : HostPass F W) (k : ℕ) → other.number ≡ k → JoinsFront old other new → (n : ℕ) × Contains new.joined (k, n) × (calls_of k new.seen ≡ calls_of k other.seen)
  joins_other old other new k is j =
      subst (λ (k : ℕ). (n : ℕ) × Contains new.joined (k, n) × (calls_of k new.seen ≡ calls_of k other.seen)) is (
        length (calls_of other.number other.seen),
        contains_first (other.number, length (calls_of other.number other.seen)) old.joined new.joined j.joined,
        j.other_calls,
      )

module _ {F W : Type 0} (P : TableEntry → Type 0) where
  -- The same of what is played, and of the front's other passes.
  pub record Played (G : Bool → ℕ → Bool → ℕ → Type 0) (old new : PlayState F W) : Type 0 where
    pub number : (new.front).number ≡ 0
    pub first_number : (new.first).number ≡ 0
    pub calls : List (HostEntry W)
    pub safe : AllByRecursion (λ (e : HostEntry W). HearsSafe e.call) calls
    pub own : calls_of 0 (new.front).seen ≡ calls_of 0 (old.front).seen ++ calls
    pub classed : AreClassed old.front → AreClassed new.front
    pub goes : (b : Bool) (f : ℕ) (c : Bool) (g : ℕ) → Hops P b f calls c g → G b f c g

  walked_played : (G : Bool → ℕ → Bool → ℕ → Type 0) (old new : PlayState F W) → Walked P G old new → Played G old new
  walked_played G old new w = record {
    number = w.number;
    first_number = w.first_number;
    calls = w.calls;
    safe = w.safe;
    own = w.own;
    classed = λ classed k ne le.
        let was = classed k ne (let made = w.made in omega arith) in
        let kept = w.kept k was.0 ne was.1 in
        (was.0, kept.0, subst AreOther (sym kept.1) was.2);
    goes = w.goes;
  }

  played_then : (G H K : Bool → ℕ → Bool → ℕ → Type 0) (x y z : PlayState F W) → Played G x y → Played H y z
      → ((b : Bool) (f : ℕ) (c : Bool) (g : ℕ) (d : Bool) (h : ℕ) → G b f c g → H c g d h → K b f d h) → Played K x z
  played_then G H K x y z one other both = record {
    number = other.number;
    first_number = other.first_number;
    calls = one.calls ++ other.calls;
    safe = all_both (λ (e : HostEntry W). HearsSafe e.call) one.calls other.calls one.safe other.safe;
    own = other.own ∙ (ap (λ l. l ++ other.calls) one.own ∙ append_assoc (calls_of 0 (x.front).seen) one.calls other.calls);
    classed = λ classed. other.classed (one.classed classed);
    goes = λ b f d h hops.
        let (c, g, xs, ys) = hops_parted P b f d h one.calls other.calls hops in
        both b f c g d h (one.goes b f c g xs) (other.goes c g d h ys);
  }

  module _ (turn : TurnOfTable) (devices : ℕ) (R : Spot → Spot → Type 0) (walks : Walks P turn devices R) where
    -- it went from one of these to the other, and no try to end a channel is left half done
    abbrev pub Went : Mode → PlayState F W → Mode → PlayState F W → Bool → ℕ → Bool → ℕ → Type 0
    Went m old n new = Along P turn devices R walks m old n new

    went_then : (l m n : Mode) (x y z : PlayState F W) → Played (Went l x m y) x y → Played (Went m y n z) y z → Played (Went l x n z) x z
    went_then l m n x y z one other = played_then (Went l x m y) (Went m y n z) (Went l x n z) x y z one other
        (λ b f c g d h first second is. let a = first is in let e = second a.0 in (e.0, walks.joins (at l f x) (at m g y) (at n h z) a.1 e.1))

    went_none : (m : Mode) (old new : PlayState F W) → HasFirsts old → new ≡ old → Played (Went m old m new) old new
    went_none m old new (number, first) is = subst (λ (s : PlayState F W). Played (Went m old m s) old s) (sym is) (record {
      number = number;
      first_number = first;
      calls = [];
      safe = tt;
      own = sym (append-nil (calls_of 0 (old.front).seen));
      classed = λ classed. classed;
      goes = λ b f c g hops b_is. (hops.0 ∙ b_is, subst (λ (n : ℕ). R (at m f old) (at m n old)) (sym hops.1) (walks.same (at m f old)));
    })

    begun_played : (channel : ℕ) (why : Stop) (by : Ending) (starved : Bool) (from : IncomingState) (to : OutgoingState) (begun : PlayState F W) (incoming : IncomingState) (outgoing : OutgoingState) (new : PlayState F W)
        → HasFirsts begun → ServesBegun turn devices channel why by starved from to begun incoming outgoing new → Played (FromBegun P turn devices R walks begun (stopped why) new) begun new
    begun_played channel why by starved from to begun incoming outgoing new starts s = record {
      number = (s.writer_home).number;
      first_number = ap (λ (p : PlayState F W). (p.first).number) s.is ∙ w.first_number;
      calls = w.calls;
      safe = w.safe;
      own = joins_own s.between s.writer new.front (s.reader_home).number s.writer_home ∙ (joins_own (s.over).front s.reader s.between w.number s.reader_home ∙ w.own);
      classed = λ classed k ne le.
          dite (dec_le k m) (λ less. old k ne (classed k ne less)) (λ more. dite (dec_le k (suc m)) (λ less. reads k (omega arith)) (λ no. writes k (
          let made = (s.writer_home).made in
          let then = (s.reader_home).made in
          let over = w.made in omega arith)));
      goes = λ b f c g hops is.
          let done = w.goes b f c g hops is in
          (done.0, λ channel e p zero replaces. subst (λ (x : PlayState F W). R (spot opening e p begun.lines begun.issuers) (at (stopped why) g x)) (sym s.is) (done.1 channel e p zero replaces));
    }
      where
        m : ℕ
        m = (begun.front).made

        split : PlayState F W
        split = record begun { front = after_split (after_split begun.front) }

        w : Walked P (FromBegun P turn devices R walks split (stopped why) s.over) split s.over
        w = plays_so P turn devices R walks why split s.over starts s.plays

        twice : (k n : ℕ) → k ≢ 0 → Contains ((s.over).front).joined (k, n) → Contains (new.front).joined (k, n) × (calls_of k (new.front).seen ≡ calls_of k ((s.over).front).seen)
        twice k n ne has =
            let one = joins_kept (s.over).front s.reader s.between k n w.number s.reader_home has in
            let other = joins_kept s.between s.writer new.front k n (s.reader_home).number s.writer_home one.0 in
            (other.0, other.1 ∙ one.1)

        old : (k : ℕ) → k ≢ 0 → (n : ℕ) × Contains (begun.front).joined (k, n) × AreOther (calls_of k (begun.front).seen)
            → (n : ℕ) × Contains (new.front).joined (k, n) × AreOther (calls_of k (new.front).seen)
        old k ne (n, has, other) =
            let kept = w.kept k n ne has in
            let then = twice k n ne kept.0 in
            (n, then.0, subst AreOther (sym (then.1 ∙ kept.1)) other)

        reader_calls : AreOther (calls_of (suc m) (s.reader).seen)
        reader_calls =
            let l = s.listens in
            let more : List (HostEntry W) = l.calls ++ entry (suc m) (call.DropChannel channel) l.dropped ∷ [] in
            subst AreOther (sym (new_calls (suc m) (begun.front).seen (s.reader).seen more s.reader_new (l.made).own))
            (all_both (λ (e : HostEntry W). IsOther e.call × HearsSafe e.call) l.calls (entry (suc m) (call.DropChannel channel) l.dropped ∷ [])
            (given_other channel l.calls (l.reads).came (l.reads).rest (l.reads).bytes (l.reads).given) ((tt, tt), tt))

        writer_calls : AreOther (calls_of (suc (suc m)) (s.writer).seen)
        writer_calls =
            let l = s.sends in
            subst AreOther (sym (new_calls (suc (suc m)) (begun.front).seen (s.writer).seen l.calls s.writer_new (l.made).own)) (ask_other channel l.calls l.ask)

        reads : (k : ℕ) → k ≡ suc m → (n : ℕ) × Contains (new.front).joined (k, n) × AreOther (calls_of k (new.front).seen)
        reads k is =
            let j = joins_other (s.over).front s.reader s.between (suc m) ((s.listens).made).same.0 s.reader_home in
            let then = joins_kept s.between s.writer new.front (suc m) j.0 (s.reader_home).number s.writer_home j.1 in
            subst (λ (k : ℕ). (n : ℕ) × Contains (new.front).joined (k, n) × AreOther (calls_of k (new.front).seen)) (sym is)
            (j.0, then.0, subst AreOther (sym (then.1 ∙ j.2)) reader_calls)

        writes : (k : ℕ) → k ≡ suc (suc m) → (n : ℕ) × Contains (new.front).joined (k, n) × AreOther (calls_of k (new.front).seen)
        writes k is =
            let j = joins_other s.between s.writer new.front (suc (suc m)) ((s.sends).made).same.0 s.writer_home in
            subst (λ (k : ℕ). (n : ℕ) × Contains (new.front).joined (k, n) × AreOther (calls_of k (new.front).seen)) (sym is)
            (j.0, j.1, subst AreOther (sym j.2) writer_calls)

    -- ---- channels

    channel_played : (channel : ℕ) (why : Stop) (by : Ending) (starved : Bool) (old new : SessionState F W) → HasFirsts old.play
        → ServesChannel turn devices channel why by starved old new → Played (Went opening old.play (stopped why) new.play) old.play new.play
    channel_played channel why by starved old new starts s =
        let w = begins_so P turn devices R walks channel old.play s.begun starts s.begins in
        let begins : Bool → ℕ → Bool → ℕ → Type 0 = λ b f c g. b ≡ false → (c ≡ false) × Replaces P (begun_call channel) [] (old.play).first f (s.begun).first g in
        let v = begun_played channel why by starved _ _ s.begun s.incoming s.outgoing new.play (w.number, w.first_number) s.serves in
        let lines : (s.begun).lines ≡ (old.play).lines = ap (λ (p : PlayState F W). p.lines) (s.begins).2 in
        let issuers : (s.begun).issuers ≡ (old.play).issuers = ap (λ (p : PlayState F W). p.issuers) (s.begins).2 in
        played_then begins (FromBegun P turn devices R walks s.begun (stopped why) new.play) (Went opening old.play (stopped why) new.play) old.play s.begun new.play (walked_played begins old.play s.begun w) v
        (λ b f c g d h one other is.
        let a = one is in
        let e = other a.0 in (
          e.0,
          subst (λ (ls : List NumberedLine). R (spot opening f (old.play).first ls (old.play).issuers) (at (stopped why) h new.play)) lines
              (subst (λ (xs : List Issuer). R (spot opening f (old.play).first (s.begun).lines xs) (at (stopped why) h new.play)) issuers
              (e.1 channel f (old.play).first starts.1 a.1)),
        ))

    out_played : (old new : PlayState F W) → HasFirsts old → PlaysOut old new → Played (Went over old over new) old new
    out_played old new starts play = walked_played (Went over old over new) old new (out_so P turn devices R walks old new starts play)

    gives_up_played : (old : PlayState F W) → HasFirsts old → Played (Went opening old over old) old old
    gives_up_played old starts = walked_played (Went opening old over old) old old (gives_up_so P turn devices R walks old starts)

    -- from where the last channel stopped
    stopped_out : (why : Stop) (old new : PlayState F W) → HasFirsts old → PlaysOut old new → Played (Went (stopped why) old over new) old new
    stopped_out stop.Connect old new starts play = went_then opening over over old old new (gives_up_played old starts) (out_played old new starts play)
    stopped_out stop.End old new starts play = out_played old new starts play

    served_played : (n : ℕ) (old new : SessionState F W) → HasFirsts old.play → Served turn devices n old new → Played (Went opening old.play opening new.play) old.play new.play
    served_played zero old new starts is = went_none opening old.play new.play starts (ap (λ (s : SessionState F W). s.play) is)
    served_played (suc n) old new starts (here, by, starved, served, serves, none) =
        let p = served_played n old here starts served in
        went_then opening opening opening old.play here.play new.play p (channel_played (suc n) stop.Connect by starved here new (p.number, p.first_number) serves)

    ends_played : (channel : ℕ) (other : Option Ended) (old new : SessionState F W) → HasFirsts old.play → EndsAt turn devices channel other old new → Played (Went opening old.play over new.play) old.play new.play
    ends_played channel None old new starts (inl (linker, gives, is, play)) = stopped_out stop.Connect old.play new.play starts play
    ends_played channel None old new starts (inr (by, starved, serves, none)) = channel_played channel stop.End by starved old new starts serves
    ends_played channel (Some e) old new starts (why, by, starved, here, serves, is, linker, play) =
        let p = channel_played channel why by starved old here starts serves in
        went_then opening (stopped why) over old.play here.play new.play p (stopped_out why here.play new.play (p.number, p.first_number) play)

    session_played : (other : Option Ended) (old new : SessionState F W) → HasFirsts old.play → ServesAll turn devices other old new → Played (Went opening old.play over new.play) old.play new.play
    session_played other old new starts (count, here, served, ends) =
        let p = served_played count old here starts served in
        went_then opening opening over old.play here.play new.play p (ends_played (suc count) other here new (p.number, p.first_number) ends)

-- ---- the session

module _ {W : Type 0} where
  -- a call of the front by pass 0 of that, or one by another pass of it, to which pass 0 of the table isn't handed
  abbrev IsSorted : HostEntry W → Type 0
  IsSorted e = HearsSafe e.call × ((e.by ≡ 0) ⊎ ((e.by ≢ 0) × IsOther e.call))

module _ {F W : Type 0} where
  sorted_from : (p : HostPass F W) (before here : List (HostEntry W)) → AreClassed p → AllByRecursion (λ (e : HostEntry W). HearsSafe e.call) (calls_of 0 p.seen)
      → All (λ (e : HostEntry W). e.by ≤ p.made) p.seen → p.seen ≡ before ++ here → AllByRecursion IsSorted here
  sorted_from p before [] classed zeros few is = tt
  sorted_from p before (e ∷ here) classed zeros few is =
      (one e.by refl, sorted_from p (before ++ e ∷ []) here classed zeros few (is ∙ sym (append_assoc before (e ∷ []) here)))
    where
      one : (n : ℕ) → e.by ≡ n → IsSorted e
      one zero by =
          (of_own (λ (x : HostEntry W). HearsSafe x.call) p.seen before here e is (subst (λ (n : ℕ). AllByRecursion (λ (x : HostEntry W). HearsSafe x.call) (calls_of n p.seen)) (sym by) zeros), inl by)
      one (suc k) by =
          let ne : e.by ≢ 0 = λ z. absurd (omega arith) in
          let c = classed e.by ne (by_at p.made p.seen before here e few is) in
          let o = of_own (λ (x : HostEntry W). IsOther x.call × HearsSafe x.call) p.seen before here e is c.2 in
          (o.1, inr (ne, o.0))

module _ {W : Type 0} where
  own_more : (e : HostEntry W) (es : List (HostEntry W)) → e.by ≡ 0 → calls_of 0 (e ∷ es) ≡ e ∷ calls_of 0 es
  own_more e es is = ap (λ (b : Bool). cond {A = List (HostEntry W)} b (e ∷ calls_of 0 es) (calls_of 0 es)) (eq-eqb e.by 0 is)

  others_more : (e : HostEntry W) (es : List (HostEntry W)) → e.by ≢ 0 → calls_of 0 (e ∷ es) ≡ calls_of 0 es
  others_more e es ne = ap (λ (b : Bool). cond {A = List (HostEntry W)} b (e ∷ calls_of 0 es) (calls_of 0 es)) (ne_eqb e.by 0 ne)

module _ {W : Type 0} (P : TableEntry → Type 0) (such : (by : ℕ) (does : PendingCall) (back : PendingReply) → IsPlain does → P (entry by does back)) where
  -- what the calls of the front make of its pass of the table
  pub record HasHopped (b : Bool) (entries : List (HostEntry W)) (old new : HostFrontState) : Type 0 where
    pub tries : Bool
    pub own : OwnBy P such tries new.table
    pub hops : Hops P b ((old.table).pass).number (calls_of 0 entries) tries ((new.table).pass).number

  front_hops : (b : Bool) (entries : List (HostEntry W)) (old new : HostFrontState) → Leads HostFrontStep old entries new → AllByRecursion IsSorted entries → OwnBy P such b old.table → HasHopped b entries old new
  front_hops b [] old new is sorted own =
      record { tries = b; own = subst (λ (s : HostFrontState). OwnBy P such b s.table) is own; hops = (refl, ap (λ (s : HostFrontState). ((s.table).pass).number) (sym is)) }
  front_hops b (e ∷ entries) old new (next, step, leads) ((safe, inl zero_is), sorted) own =
      let one = one_hop P such b old e.call e.reply next safe step own in
      let rest = front_hops one.tries entries next new leads sorted one.own in
      record {
        tries = rest.tries;
        own = rest.own;
        hops = subst (λ (l : List (HostEntry W)). Hops P b ((old.table).pass).number l rest.tries ((new.table).pass).number) (sym (own_more e entries zero_is))
            (one.tries, ((next.table).pass).number, one.hop, rest.hops);
      }
  front_hops b (e ∷ entries) old new (next, step, leads) ((safe, inr (ne, other)), sorted) own =
      let k = other_by P such b old e.call e.reply next other safe step own in
      let rest = front_hops b entries next new leads sorted k.0 in
      record {
        tries = rest.tries;
        own = rest.own;
        hops = subst (λ (l : List (HostEntry W)). Hops P b ((old.table).pass).number l rest.tries ((new.table).pass).number) (sym (others_more e entries ne))
            (subst (λ (n : ℕ). Hops P b n (calls_of 0 entries) rest.tries ((new.table).pass).number) k.1 rest.hops);
      }

-- Each call is such a one, where those of each pass are.
pub all_such : (P : TableEntry → Type 0) (made : ℕ) (seen before here : List TableEntry) → seen ≡ before ++ here → All (λ (e : TableEntry). e.by ≤ made) seen
    → ((k : ℕ) → k ≤ made → AreSuch P (calls_of k seen)) → AreSuch P here
all_such P made seen before [] is few each = tt
all_such P made seen before (e ∷ here) is few each = (
  of_own P seen before here e is (each e.by (by_at made seen before here e few is)),
  all_such P made seen (before ++ e ∷ []) here (is ∙ sym (append_assoc before (e ∷ []) here)) few each,
)

-- where a session stands before its first line
abbrev pub start_spot : TurnOfTable → List NumberedLine → Spot
start_spot turn lines = spot opening 1 (after_split (first_pass turn)) lines (issuers_of lines)

module _ {W : Type 0} (P : TableEntry → Type 0) (such : (by : ℕ) (does : PendingCall) (back : PendingReply) → IsPlain does → P (entry by does back)) where
  -- Where the script was played, the front's last pass made such calls, and where it stood before the first line is related to where it stands.
  pub record HasWalked (R : Spot → Spot → Type 0) (turn : TurnOfTable) (lines : List NumberedLine) (play : PlayState HostFrontState W) (closed : HostFrontState) : Type 0 where
    pub first : (play.first).number ≡ 0
    pub own : OwnAre P closed.table
    pub went : R (start_spot turn lines) (at over ((closed.table).pass).number play)

  pub session_walked : (R : Spot → Spot → Type 0) (turn : TurnOfTable) (lines : List NumberedLine) (other : Option Ended) (issuers : List Issuer) (last : PassOfTable) (old new : LinkedTold)
      → (over : PlaysOver W turn lines other issuers (first_pass turn) last old new) → Walks P turn (awaited_devices lines) R → HasWalked R turn lines (over.ends).play over.closed
  session_walked R turn lines other issuers last old new session walks =
      let start = play_state HostFrontState W lines (issuers_of lines) (after_split (first_pass turn)) session.at (first_pass session.at) in
      let p = session_played P turn (awaited_devices lines) R walks other (stands start old) session.ends (refl, refl) session.serves in
      let front = ((session.ends).play).front in
      let classed = p.classed (λ k ne le. absurd (omega arith)) in
      let zeros = subst (AllByRecursion (λ (e : HostEntry W). HearsSafe e.call)) (sym p.own) p.safe in
      let sorted = sorted_from front [] front.seen classed zeros (session.numbers p.number) refl in
      let leads = subst (λ (s : HostFrontState). Leads HostFrontStep s front.seen session.closed) session.opening session.leads in
      let h = front_hops P such false front.seen (front_over turn (first_pass turn)) session.closed leads sorted tt in
      let g : ℕ = (((session.closed).table).pass).number in
      let done = p.goes false 1 h.tries g (subst (λ (l : List (HostEntry W)). Hops P false 1 l h.tries g) p.own h.hops) refl in
      record { first = p.first_number; own = subst (λ (b : Bool). OwnBy P such b (session.closed).table) done.0 h.own; went = done.1 }

module _ {W : Type 0} (P : TableEntry → Type 0) (Inv : ℕ → PassOfTable → List NumberedLine → List Issuer → Type 0) where
  -- What is kept holds where the script was played, of the front's last pass, whose calls are such ones.
  pub record Carried (issuers : List Issuer) (over : PlayState HostFrontState W) (closed : HostFrontState) : Type 0 where
    pub own : OwnAre P closed.table
    pub holds : Inv ((closed.table).pass).number over.first over.lines over.issuers

  pub session_carried : (turn : TurnOfTable) (lines : List NumberedLine) (other : Option Ended) (issuers : List Issuer) (last : PassOfTable) (old new : LinkedTold)
      → (over : PlaysOver W turn lines other issuers (first_pass turn) last old new) → Carrying P Inv last.seen → Inv 1 (after_split (first_pass turn)) lines (issuers_of lines)
      → Carried issuers (over.ends).play over.closed
  session_carried turn lines other issuers last old new session keeping begin =
      let w = session_walked P (λ by does back is. keeping.such by does back (plain_fronts does is)) (Carries P Inv last.seen) turn lines other issuers last old new session
      (walks P Inv last.seen keeping turn (awaited_devices lines)) in
      record { own = w.own; holds = (w.went).1 (let on = (session.home).goes_on in (on.0, sym on.1)) begin }

module _ {W : Type 0} (P : TableEntry → Type 0) (Fit : List Issuer → Type 0) where
  pub session_such : (turn : TurnOfTable) (lines : List NumberedLine) (other : Option Ended) (issuers : List Issuer) (last : PassOfTable) (old new : LinkedTold)
      → PlaysOver W turn lines other issuers (first_pass turn) last old new → Keeping P Fit last.seen → Fit (issuers_of lines) → AreSuch P last.seen
  session_such turn lines other issuers last old new session keeping fit =
      let first : Good P 1 (after_split (first_pass turn)) = record { first = refl; own = tt; each = λ k ne le. inl (omega arith) } in
      let c = session_carried {W = W} P (GoodFit P Fit last.seen keeping) turn lines other issuers last old new session (carrying_of P Fit last.seen keeping) (first, fit) in
      let good : Good P (((session.closed).table).pass).number ((session.ends).play).first = (c.holds).0 in
      let home = session.home in
      all_such P last.made last.seen [] last.seen refl (home.numbers home.number) (λ k le. each session.closed ((session.ends).play).first last k c.own good home (let made = home.made in omega arith))
    where
      each : (closed : HostFrontState) (p q : PassOfTable) (k : ℕ) → OwnAre P closed.table → Good P ((closed.table).pass).number p → JoinsPass p (closed.table).pass q → k ≤ p.made → AreSuch P (calls_of k q.seen)
      each closed p q zero own good home le = subst (AreSuch P) (sym (zeros_stay p q good.first home.goes_on)) good.own
      each closed p q (suc k) own good home le = elim (good.each (suc k) (λ z. absurd (omega arith)) le) [
        | inl is ↦ subst (λ (n : ℕ). AreSuch P (calls_of n q.seen)) (sym is) (subst (AreSuch P) (sym home.other_calls) own)
        | inr joined ↦ subst (AreSuch P) (sym (GoesOn-joined p q (suc k) joined.0 good.first joined.1 home.goes_on)) joined.2
      ]
