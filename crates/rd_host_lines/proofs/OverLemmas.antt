-- Where a session is over the script came to all its lines, and each has its outcome.
use Rattle.std.proofs.Common.{◌≡◌, ◌∙◌, inl, inr, ap, subst, sym, ℕ, Bool, [], Option, Some, None}
use Rattle.rd_carry.specs.Incoming.{IncomingState}
use Rattle.rd_carry.specs.Outgoing.{OutgoingState}
use Rattle.rd_carry.specs.declared.ended.Ended.{Ended}
use Rattle.rd_host_channel.specs.declared.ending.Ending.{Ending}
use Rattle.rd_host_front.specs.State.{TurnOfTable}
use Rattle.rd_host_player.specs.Play.{ComesTo, HaveAllOutcomes, PlayState, Plays, PlaysOut, Runs, TriesToEnd}
use Rattle.rd_host_player.specs.declared.player.Stop.TheVariants as stop
use Rattle.rd_host_session.specs.Channels.{EndsAt, ServesAll, ServesBegun, SessionState}
use Rattle.rd_host_lines.proofs.StepLemmas.{Relates, ended, issued}

module _ {F W : Type 0} where
  -- no line is left, and each has its outcome
  pub record IsOver (s : PlayState F W) : Type 0 where
    pub none : s.lines ≡ []
    pub all : HaveAllOutcomes s.issuers

  -- where no line is left, none is afterwards
  abbrev StaysOver : PlayState F W → PlayState F W → Type 0
  StaysOver old new = old.lines ≡ [] → new.lines ≡ []

  same_lines : (old new : PlayState F W) → new.lines ≡ old.lines → StaysOver old new
  same_lines old new is none = is ∙ none

  stays_over : Relates StaysOver
  stays_over = record {
    none = λ old new (is : new ≡ old). same_lines old new (ap (λ (s : PlayState F W). s.lines) is);
    joins = λ a b c (one : StaysOver a b) (other : StaysOver b c) none. other (one none);
    comes = λ l old new (comes : ComesTo l old new) none. absurd (cc (comes.0, none));
    runs = λ old new (runs : Runs old new). same_lines old new (ap (λ (s : PlayState F W). s.lines) runs.2);
    tries = λ anew what old new (tries : TriesToEnd anew what old new). same_lines old new (ap (λ (s : PlayState F W). s.lines) tries.2);
  }

  plays_over : (turn : TurnOfTable) (devices : ℕ) (old new : PlayState F W) → Plays turn devices stop.End old new → IsOver new
  plays_over turn devices old new (first, times, here, waited, acted, (then, next, issues, none, over, rest, all)) =
      record { none = issued StaysOver stays_over next new rest (ended StaysOver stays_over then next over none); all = all }

  out_over : (old new : PlayState F W) → PlaysOut old new → IsOver new
  out_over old new (times, here, passed, issues, none, all) = record { none = none; all = all }

  begun_over : (turn : TurnOfTable) (devices channel : ℕ) (by : Ending) (starved : Bool) (from : IncomingState) (to : OutgoingState) (begun : PlayState F W) (incoming : IncomingState) (outgoing : OutgoingState)
      (new : PlayState F W) → ServesBegun turn devices channel stop.End by starved from to begun incoming outgoing new → IsOver new
  begun_over turn devices channel by starved from to begun incoming outgoing new s =
      let over = plays_over turn devices _ s.over s.plays in
      record { none = ap (λ (p : PlayState F W). p.lines) s.is ∙ over.none; all = subst (λ (p : PlayState F W). HaveAllOutcomes p.issuers) (sym s.is) over.all }

  ends_over : (turn : TurnOfTable) (devices channel : ℕ) (other : Option Ended) (old new : SessionState F W) → EndsAt turn devices channel other old new → IsOver new.play
  ends_over turn devices channel None old new (inl (linker, gives, is, play)) = out_over old.play new.play play
  ends_over turn devices channel None old new (inr (by, starved, serves, none)) = begun_over turn devices channel by starved _ _ serves.begun serves.incoming serves.outgoing new.play serves.serves
  ends_over turn devices channel (Some e) old new (why, by, starved, here, serves, is, linker, play) = out_over here.play new.play play

  pub session_over : (turn : TurnOfTable) (devices : ℕ) (other : Option Ended) (old new : SessionState F W) → ServesAll turn devices other old new → IsOver new.play
  session_over turn devices other old new (count, here, served, ends) = ends_over turn devices _ other here new ends
