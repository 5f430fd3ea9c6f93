-- What a session at a host's channels makes of pass 0 of the table and of the front's pass.
use Rattle.std.proofs.Common.{◌≡◌, ◌≢◌, ◌∙◌, inl, inr, refl, sym, ap, subst, ℕ, zero, suc, ◌≤◌, Bool, List, [], ◌∷◌, ◌++◌, length, append_assoc, append-nil, All, Contains, Option, Some, None, arith}
use Rattle.std.specs.List.{AllByRecursion}
use mathlib.Core.Logic.{dite}
use native.Mathlib.Decide.{dec_le}
use Rattle.rd_carry.specs.Incoming.{IncomingState}
use Rattle.rd_carry.specs.Outgoing.{OutgoingState}
use Rattle.rd_carry.specs.declared.ended.Ended.{Ended}
use Rattle.rd_host_channel.specs.Calls.{AllAskFor, AsksFor, HostEntry, HostPass}
use Rattle.rd_host_channel.specs.Reading.{AreGiven, waiting_after}
use Rattle.rd_host_channel.specs.declared.ending.Ending.{Ending}
use Rattle.rd_host_front.specs.declared.calls.Came.TheVariants as came
use Rattle.rd_host_front.specs.declared.calls.HostFrontCall.{HostFrontCall}
use Rattle.rd_host_front.specs.declared.calls.HostFrontCall.TheVariants as call
use Rattle.rd_host_front.specs.State.{HostFrontState, PassOfTable, TurnOfTable}
use Rattle.rd_host_player.specs.Play.{JoinsFront, PlayState, PlaysOut, play_state}
use Rattle.rd_host_player.specs.declared.player.Stop.{Stop}
use Rattle.rd_host_player.specs.declared.player.Stop.TheVariants as stop
use Rattle.rd_host_session.specs.Channels.{EndsAt, LinkedTold, Served, ServesAll, ServesBegun, ServesChannel, SessionState, stands}
use Rattle.rd_host_session.specs.Hosted.{PlaysOver, front_over, issuers_of}
use Rattle.rd_issuer.specs.declared.issuer.Issuer.{Issuer}
use Rattle.rd_script.specs.declared.line.NumberedLine.{NumberedLine}
use Rattle.rd_turn.specs.History.{calls_of, entry}
use Rattle.rd_turn.specs.Pass.{after_split, first_pass}
use Rattle.rd_turn.proofs.HistoryLemmas.{GoesOn-joined, GoesOn-own, by_at}
use Rattle.rd_host_turns.specs.Turns.{PartsAlong, TablePart, all_parts}
use Rattle.rd_host_turns.proofs.BetweenLemmas.{OnWay, SeesQuiet, Whole, between, later}
use Rattle.rd_host_turns.proofs.CountLemmas.{all_both, of_own}
use Rattle.rd_host_turns.proofs.MergeLemmas.{Act, ActsGo, IsOther, IsSorted, handed_in, merge}
use Rattle.rd_host_turns.proofs.PlayLemmas.{Went, begins_went, plays_out_went, plays_went, acts_then, handed-append}

module _ {W : Type 0} where
  -- ---- calls of the front by its other passes

  -- pass 0 of the table is handed to the front in none of these
  abbrev AreOther : List (HostEntry W) → Type 0
  AreOther calls = AllByRecursion (λ (e : HostEntry W). IsOther e.call) calls

  given_other : (channel : ℕ) (calls : List (HostEntry W)) (waiting rest : List (List ℕ)) → AreGiven channel calls waiting rest → AreOther calls
  given_other channel [] waiting rest given = tt
  given_other channel (e ∷ calls) [] rest given = absurd given
  given_other channel (e ∷ calls) (message ∷ later) rest (is, given) =
      (subst (λ (c : HostFrontCall W). IsOther c) (sym is) tt, given_other channel calls (waiting_after e.reply message later) rest given)

  asks_other : (channel : ℕ) (does : HostFrontCall W) → AsksFor channel does → IsOther does
  asks_other channel (call.Next c room) asks = tt
  asks_other channel _ asks = absurd asks

  ask_other : (channel : ℕ) (calls : List (HostEntry W)) → AllAskFor channel calls → AreOther calls
  ask_other channel [] ask = tt
  ask_other channel (e ∷ calls) (here, ask) = (asks_other channel e.call here, ask_other channel calls ask)

  -- a new pass made these calls
  new_calls : (k : ℕ) (old new calls : List (HostEntry W)) → calls_of k old ≡ [] → calls_of k new ≡ calls_of k old ++ calls → calls_of k new ≡ calls
  new_calls k old new calls fresh is = is ∙ ap (λ l. l ++ calls) fresh

contains_first : {A : Type 0} (x : A) (xs l : List A) → l ≡ x ∷ xs → Contains l x
contains_first {A} x xs l is = subst (λ (l : List A). Contains l x) (sym is) (0, omega arith, refl)

contains_later : {A : Type 0} (x y : A) (xs l : List A) → l ≡ x ∷ xs → Contains xs y → Contains l y
contains_later {A} x y xs l is (place, within, at) = subst (λ (l : List A). Contains l y) (sym is) (suc place, omega arith, at)

module _ {F W : Type 0} where
  -- Each pass that was split from this one was joined to it, and made such calls alone.
  abbrev pub AreClassed : HostPass F W → Type 0
  AreClassed p = (k : ℕ) → k ≢ 0 → k ≤ p.made → (n : ℕ) × Contains p.joined (k, n) × AreOther (calls_of k p.seen)

  -- ---- what is played

  -- What became of pass 0 of the table meanwhile, and of the calling thread's pass of the front.
  pub record Played (old new : PlayState F W) : Type 0 where
    pub first : (new.front).number ≡ 0
    pub acts : List (Act W)
    pub goes : ActsGo old.first acts new.first
    pub own : calls_of 0 (new.front).seen ≡ calls_of 0 (old.front).seen ++ handed_in acts
    pub classed : AreClassed old.front → AreClassed new.front

  went_played : (old new : PlayState F W) → Went old new → Played old new
  went_played old new w = record {
    first = w.first;
    acts = w.acts;
    goes = w.goes;
    own = w.own;
    classed = λ classed k ne le.
        let was = classed k ne (let made = w.made in omega arith) in
        let kept = w.kept k was.0 ne was.1 in
        (was.0, kept.0, subst AreOther (sym kept.1) was.2);
  }

  played_then : (a b c : PlayState F W) → Played a b → Played b c → Played a c
  played_then a b c one other = record {
    first = other.first;
    acts = one.acts ++ other.acts;
    goes = acts_then one.acts other.acts a.first b.first c.first one.goes other.goes;
    own = other.own
        ∙ (ap (λ l. l ++ handed_in other.acts) one.own
        ∙ (append_assoc (calls_of 0 (a.front).seen) (handed_in one.acts) (handed_in other.acts) ∙ ap (λ l. calls_of 0 (a.front).seen ++ l) (sym (handed-append one.acts other.acts))));
    classed = λ classed. other.classed (one.classed classed);
  }

  -- a pass that was joined before another stays joined, with its calls
  joins_kept : (old other new : HostPass F W) (k n : ℕ) → old.number ≡ 0 → JoinsFront old other new → Contains old.joined (k, n)
      → Contains new.joined (k, n) × (calls_of k new.seen ≡ calls_of k old.seen)
  joins_kept old other new k n first j has =
      (contains_later (other.number, length (calls_of other.number other.seen)) (k, n) old.joined new.joined j.joined has, GoesOn-joined old new k n first has j.goes_on)

  joins_own : (old other new : HostPass F W) → old.number ≡ 0 → JoinsFront old other new → calls_of 0 new.seen ≡ calls_of 0 old.seen
  joins_own old other new first j = subst (λ (k : ℕ). calls_of k new.seen ≡ calls_of k old.seen) first (GoesOn-own old new j.goes_on)

  -- The other one is joined, with its calls.
  joins_other : (old other new : HostPass F W) (k : ℕ) → other.number ≡ k → JoinsFront old other new → (n : ℕ) × Contains new.joined (k, n) × (calls_of k new.seen ≡ calls_of k other.seen)
  joins_other old other new k is j =
      subst (λ (k : ℕ). (n : ℕ) × Contains new.joined (k, n) × (calls_of k new.seen ≡ calls_of k other.seen)) is (
        length (calls_of other.number other.seen),
        contains_first (other.number, length (calls_of other.number other.seen)) old.joined new.joined j.joined,
        j.other_calls,
      )

module _ {F W : Type 0} (turn : TurnOfTable) (devices : ℕ) where
  begun_played : (channel : ℕ) (why : Stop) (by : Ending) (starved : Bool) (from : IncomingState) (to : OutgoingState) (begun : PlayState F W) (incoming : IncomingState) (outgoing : OutgoingState) (new : PlayState F W)
      → (begun.front).number ≡ 0 → ServesBegun turn devices channel why by starved from to begun incoming outgoing new → Played begun new
  begun_played channel why by starved from to begun incoming outgoing new first s = record {
    first = (s.writer_home).number;
    acts = w.acts;
    goes = subst (λ (x : PassOfTable). ActsGo begun.first w.acts x) (sym (ap (λ (p : PlayState F W). p.first) s.is)) w.goes;
    own = joins_own s.between s.writer new.front (s.reader_home).number s.writer_home ∙ (joins_own (s.over).front s.reader s.between w.first s.reader_home ∙ w.own);
    classed = λ classed k ne le.
        dite (dec_le k m) (λ less. old k ne (classed k ne less)) (λ more. dite (dec_le k (suc m)) (λ less. reads k (omega arith)) (λ no. writes k (
        let made = (s.writer_home).made in
        let then = (s.reader_home).made in
        let over = w.made in omega arith)));
  }
    where
      m : ℕ
      m = (begun.front).made

      split : PlayState F W
      split = record begun { front = after_split (after_split begun.front) }

      w : Went split s.over
      w = plays_went turn devices why split s.over first s.plays

      twice : (k n : ℕ) → k ≢ 0 → Contains ((s.over).front).joined (k, n) → Contains (new.front).joined (k, n) × (calls_of k (new.front).seen ≡ calls_of k ((s.over).front).seen)
      twice k n ne has =
          let one = joins_kept (s.over).front s.reader s.between k n w.first s.reader_home has in
          let other = joins_kept s.between s.writer new.front k n (s.reader_home).number s.writer_home one.0 in
          (other.0, other.1 ∙ one.1)

      old : (k : ℕ) → k ≢ 0 → (n : ℕ) × Contains (begun.front).joined (k, n) × AreOther (calls_of k (begun.front).seen)
          → (n : ℕ) × Contains (new.front).joined (k, n) × AreOther (calls_of k (new.front).seen)
      old k ne (n, has, other) =
          let kept = w.kept k n ne has in
          let then = twice k n ne kept.0 in
          (n, then.0, subst AreOther (sym (then.1 ∙ kept.1)) other)

      reader_calls : AreOther (calls_of (suc m) (s.reader).seen)
      reader_calls =
          let l = s.listens in
          let more : List (HostEntry W) = l.calls ++ entry (suc m) (call.DropChannel channel) l.dropped ∷ [] in
          subst AreOther (sym (new_calls (suc m) (begun.front).seen (s.reader).seen more s.reader_new (l.made).own))
          (all_both (λ (e : HostEntry W). IsOther e.call) l.calls (entry (suc m) (call.DropChannel channel) l.dropped ∷ []) (given_other channel l.calls (l.reads).came (l.reads).rest (l.reads).given) (tt, tt))

      writer_calls : AreOther (calls_of (suc (suc m)) (s.writer).seen)
      writer_calls =
          let l = s.sends in
          subst AreOther (sym (new_calls (suc (suc m)) (begun.front).seen (s.writer).seen l.calls s.writer_new (l.made).own)) (ask_other channel l.calls l.ask)

      reads : (k : ℕ) → k ≡ suc m → (n : ℕ) × Contains (new.front).joined (k, n) × AreOther (calls_of k (new.front).seen)
      reads k is =
          let j = joins_other (s.over).front s.reader s.between (suc m) ((s.listens).made).same.0 s.reader_home in
          let then = joins_kept s.between s.writer new.front (suc m) j.0 (s.reader_home).number s.writer_home j.1 in
          subst (λ (k : ℕ). (n : ℕ) × Contains (new.front).joined (k, n) × AreOther (calls_of k (new.front).seen)) (sym is)
          (j.0, then.0, subst AreOther (sym (then.1 ∙ j.2)) reader_calls)

      writes : (k : ℕ) → k ≡ suc (suc m) → (n : ℕ) × Contains (new.front).joined (k, n) × AreOther (calls_of k (new.front).seen)
      writes k is =
          let j = joins_other s.between s.writer new.front (suc (suc m)) ((s.sends).made).same.0 s.writer_home in
          subst (λ (k : ℕ). (n : ℕ) × Contains (new.front).joined (k, n) × AreOther (calls_of k (new.front).seen)) (sym is)
          (j.0, j.1, subst AreOther (sym j.2) writer_calls)

  -- ---- channels

  channel_played : (channel : ℕ) (why : Stop) (by : Ending) (starved : Bool) (old new : SessionState F W) → ((old.play).front).number ≡ 0
      → ServesChannel turn devices channel why by starved old new → Played old.play new.play
  channel_played channel why by starved old new first s =
      let w = begins_went channel came.Done old.play s.begun first s.begins in
      played_then old.play s.begun new.play (went_played old.play s.begun w) (begun_played channel why by starved _ _ s.begun s.incoming s.outgoing new.play w.first s.serves)

  out_played : (old new : PlayState F W) → (old.front).number ≡ 0 → PlaysOut old new → Played old new
  out_played old new first plays = went_played old new (plays_out_went old new first plays)

  none_played : (old new : SessionState F W) → ((old.play).front).number ≡ 0 → new ≡ old → Played old.play new.play
  none_played old new first is = subst (λ (s : SessionState F W). Played old.play s.play) (sym is) (record {
    first = first;
    acts = [];
    goes = refl;
    own = sym (append-nil (calls_of 0 ((old.play).front).seen));
    classed = λ classed. classed;
  })

  served_played : (n : ℕ) (old new : SessionState F W) → ((old.play).front).number ≡ 0 → Served turn devices n old new → Played old.play new.play
  served_played zero old new first is = none_played old new first is
  served_played (suc n) old new first (here, by, starved, served, serves, none) =
      let p = served_played n old here first served in
      played_then old.play here.play new.play p (channel_played (suc n) stop.Connect by starved here new p.first serves)

  ends_played : (channel : ℕ) (other : Option Ended) (old new : SessionState F W) → ((old.play).front).number ≡ 0 → EndsAt turn devices channel other old new → Played old.play new.play
  ends_played channel None old new first (inl (linker, gives, is, plays)) = out_played old.play new.play first plays
  ends_played channel None old new first (inr (by, starved, serves, none)) = channel_played channel stop.End by starved old new first serves
  ends_played channel (Some e) old new first (why, by, starved, here, serves, is, linker, plays) =
      let p = channel_played channel why by starved old here first serves in
      played_then old.play here.play new.play p (out_played here.play new.play p.first plays)

  session_played : (other : Option Ended) (old new : SessionState F W) → ((old.play).front).number ≡ 0 → ServesAll turn devices other old new → Played old.play new.play
  session_played other old new first (count, here, served, ends) =
      let p = served_played count old here first served in
      played_then old.play here.play new.play p (ends_played (suc count) other here new p.first ends)

-- ---- the session

module _ {F W : Type 0} where
  sorted_from : (p : HostPass F W) (before here : List (HostEntry W)) → AreClassed p → All (λ (e : HostEntry W). e.by ≤ p.made) p.seen → p.seen ≡ before ++ here → AllByRecursion IsSorted here
  sorted_from p before [] classed few is = tt
  sorted_from p before (e ∷ here) classed few is =
      (one e.by refl, sorted_from p (before ++ e ∷ []) here classed few (is ∙ sym (append_assoc before (e ∷ []) here)))
    where
      one : (n : ℕ) → e.by ≡ n → IsSorted e
      one zero by = inl by
      one (suc k) by =
          let ne : e.by ≢ 0 = λ z. absurd (omega arith) in
          let c = classed e.by ne (by_at p.made p.seen before here e few is) in
          inr (ne, of_own (λ (x : HostEntry W). IsOther x.call) p.seen before here e is c.2)

module _ {W : Type 0} where
  pub session_quiet : (turn : TurnOfTable) (lines : List NumberedLine) (other : Option Ended) (issuers : List Issuer) (last : PassOfTable) (old new : LinkedTold)
      → (plays : PlaysOver W turn lines other issuers (first_pass turn) last old new)
      → (parts : List (List TablePart)) → PartsAlong (front_over turn (first_pass turn)).table ((plays.ends).play).front.seen parts (plays.closed).table
      → SeesQuiet [] (all_parts parts) ((plays.closed).table).pass.seen last.seen
  session_quiet turn lines other issuers last old new plays parts along =
      let start = play_state HostFrontState W lines (issuers_of lines) (after_split (first_pass turn)) plays.at (first_pass plays.at) in
      let p = session_played turn _ other (stands start old) plays.ends refl plays.serves in
      let front = ((plays.ends).play).front in
      let classed = p.classed (λ k ne le. absurd (omega arith)) in
      let sorted = sorted_from front [] front.seen classed (plays.numbers p.first) refl in
      let table = (front_over turn (first_pass turn)).table in
      let m = merge front.seen parts p.acts (after_split (first_pass turn)) ((plays.ends).play).first table (plays.closed).table p.goes p.own sorted along in
      let home = plays.home in
      let then = later m.moves (after_split (first_pass turn)) ((plays.ends).play).first last table (plays.closed).table refl m.goes home in
      let whole : Whole last.seen last.made = record { few = home.numbers home.number; firsts = then.firsts tt } in
      let way : OnWay last.seen (after_split (first_pass turn)) table = record {
        first = refl;
        own = λ z. absurd (cc z);
        settled = λ k ne le other. absurd (omega arith);
        begins = omega arith;
      } in
      subst (λ (l : List TablePart). SeesQuiet [] l ((plays.closed).table).pass.seen last.seen) m.are
      (between m.moves (after_split (first_pass turn)) ((plays.ends).play).first last table (plays.closed).table whole way m.goes home)
