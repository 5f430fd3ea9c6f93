-- What becomes of a session where a channel was served, and how channels follow one another.
use Rattle.std.proofs.Common.{◌≡◌, ◌∙◌, ◌+◌, ℕ, zero, suc, arith, ap, sym, subst, Bool, List, [], Option, Some, None, Result, Ok, Err, refl, inl, inr}
use Rattle.std.specs.Prelude.{IfOk}
use Rattle.rd_carry.specs.Incoming.{IncomingState, new_incoming}
use Rattle.rd_carry.specs.Outgoing.{OutgoingState, new_outgoing}
use Rattle.rd_carry.specs.declared.ended.Ended.{Ended}
use Rattle.rd_host_channel.specs.Calls.{HostPass}
use Rattle.rd_host_channel.specs.Reading.{Listens}
use Rattle.rd_host_channel.specs.Sending.{Sends}
use Rattle.rd_host_channel.specs.declared.ending.Ending.{Ending}
use Rattle.rd_host_front.specs.State.{TurnOfTable}
use Rattle.rd_host_front.specs.declared.calls.Came.TheVariants as came
use Rattle.rd_host_player.proofs.TurnLemmas.{plays_out_turn, plays_turn}
use Rattle.rd_host_player.specs.Play.{Begins, JoinsFront, PlayState, Plays, PlaysOut}
use Rattle.rd_host_player.specs.declared.player.Stop.{Stop}
use Rattle.rd_host_player.specs.declared.player.Stop.TheVariants as stop
use Rattle.rd_link.specs.Links.{Lends, Links, TakesBack}
use Rattle.rd_turn.specs.History.{calls_of}
use Rattle.rd_turn.specs.Pass.{after_split, new_pass}
use Rattle.rd_host_session.specs.Channels.{EndsAt, GivesNone, LinkedTold, Served, ServesAll, ServesBegun, ServesChannel, ServesNext, SessionState, end_by_channel, linked_told, next_of, stands}
use Rattle.rd_host_session.specs.declared.channels.Next.{Next}
use Rattle.rd_host_session.specs.declared.channels.Next.TheVariants as next

pub of_ok : {T E : Type 0} (P : T → Type 0) (r : Result T E) (t : T) → r ≡ Ok t → IfOk r P → P t
of_ok P r t is holds = subst (λ r. IfOk r P) is holds

pub if_ok_map : {T E : Type 0} {P Q : T → Type 0} (r : Result T E) → ((t : T) → P t → Q t) → IfOk r P → IfOk r Q
if_ok_map (Ok t) follows holds = follows t holds
if_ok_map (Err e) follows holds = holds

pub plus_one : (n : ℕ) → n + 1 ≡ suc n
plus_one n = omega arith

module _ {F W : Type 0} (turn : TurnOfTable) (devices : ℕ) where
  -- ---- a channel

  -- The front's turn is the same once the script was played.
  pub played_turn : (why : Stop) (begun one two over : PlayState F W) → one ≡ record begun { front = after_split begun.front } → two ≡ record one { front = after_split one.front }
      → Plays turn devices why two over → over.at ≡ begun.at
  played_turn why begun one two over first second plays =
      plays_turn turn devices why two over plays ∙ ap (λ (s : PlayState F W). s.at) second ∙ ap (λ (s : PlayState F W). s.at) first

  pub serves_begun : (channel : ℕ) (why : Stop) (by : Ending) (starved : Bool) (from incoming : IncomingState) (to outgoing : OutgoingState) (begun one two over between new : PlayState F W)
      (for_reader for_writer reader writer home_reader home_writer : HostPass F W)
      → one ≡ record begun { front = after_split begun.front } → two ≡ record one { front = after_split one.front }
      → for_reader ≡ new_pass begun.front → for_writer ≡ new_pass one.front → calls_of for_reader.number for_reader.seen ≡ [] → calls_of for_writer.number for_writer.seen ≡ []
      → Plays turn devices why two over → Listens channel by for_reader reader from incoming → Sends channel starved for_writer writer to outgoing
      → home_reader ≡ reader → home_writer ≡ writer
      → between ≡ record over { front = between.front } → JoinsFront over.front home_reader between.front
      → new ≡ record between { front = new.front } → JoinsFront between.front home_writer new.front
      → ServesBegun turn devices channel why by starved from to begun incoming outgoing new
  serves_begun channel why by starved from incoming to outgoing begun one two over between new for_reader for_writer reader writer home_reader home_writer first second is_reader is_writer reader_new writer_new plays listens sends
      came_reader came_writer kept joined kept_again joined_again =
      let split = second ∙ ap (λ (s : PlayState F W). record s { front = after_split s.front }) first in
      let is_second = is_writer ∙ ap (λ (s : PlayState F W). new_pass s.front) first in
      record {
        reader_new = subst (λ (p : HostPass F W). calls_of p.number p.seen ≡ []) is_reader reader_new;
        writer_new = subst (λ (p : HostPass F W). calls_of p.number p.seen ≡ []) is_second writer_new;
        over = over;
        plays = subst (λ (s : PlayState F W). Plays turn devices why s over) split plays;
        reader = reader;
        listens = subst (λ (p : HostPass F W). Listens channel by p reader from incoming) is_reader listens;
        writer = writer;
        sends = subst (λ (p : HostPass F W). Sends channel starved p writer to outgoing) is_second sends;
        between = between.front;
        reader_home = subst (λ (p : HostPass F W). JoinsFront over.front p between.front) came_reader joined;
        writer_home = subst (λ (p : HostPass F W). JoinsFront between.front p new.front) came_writer joined_again;
        is = kept_again ∙ ap (λ (s : PlayState F W). record s { front = new.front }) kept;
      }

  pub serves_channel : (channel : ℕ) (why : Stop) (by : Ending) (starved : Bool) (old begun new : PlayState F W) (given_links lent_links left_links : Option Links) (failures then last : ℕ)
      (given held : Option (List ℕ)) (n room capacity : ℕ) (from incoming : IncomingState) (to outgoing : OutgoingState) (left back : Option (List ℕ)) (read_faults write_faults : ℕ)
      → Begins channel came.Done old begun → from ≡ new_incoming given n room → n ≡ 0 → to ≡ new_outgoing held capacity
      → ServesBegun turn devices channel why by starved from to begun incoming outgoing new
      → Lends given_links lent_links given held → TakesBack lent_links left_links left back read_faults write_faults
      → left ≡ incoming.left → back ≡ outgoing.held → read_faults ≡ incoming.faults → write_faults ≡ outgoing.faults → then ≡ failures → last ≡ then
      → ServesChannel turn devices channel why by starved (stands old (linked_told given_links failures)) (stands new (linked_told left_links last))
  serves_channel channel why by starved old begun new given_links lent_links left_links failures then last given held n room capacity from incoming to outgoing left back read_faults write_faults begins is_from none is_to
      serves lends takes is_left is_back is_read is_written same same_again =
      let is_new = is_from ∙ ap (λ (k : ℕ). new_incoming given k room) none in
      let by_left = subst (λ (x : Option (List ℕ)). TakesBack lent_links left_links x back read_faults write_faults) is_left takes in
      let by_back = subst (λ (x : Option (List ℕ)). TakesBack lent_links left_links incoming.left x read_faults write_faults) is_back by_left in
      let by_read = subst (λ (x : ℕ). TakesBack lent_links left_links incoming.left outgoing.held x write_faults) is_read by_back in
      record {
        given = given;
        held = held;
        begun = begun;
        begins = begins;
        room = room;
        capacity = capacity;
        incoming = incoming;
        outgoing = outgoing;
        serves = subst (λ (x : OutgoingState). ServesBegun turn devices channel why by starved (new_incoming given 0 room) x begun incoming outgoing new) is_to
            (subst (λ (x : IncomingState). ServesBegun turn devices channel why by starved x to begun incoming outgoing new) is_new serves);
        settles = (lent_links, lends, subst (λ (x : ℕ). TakesBack lent_links left_links incoming.left outgoing.held incoming.faults x) is_written by_read, same_again ∙ same);
      }

  -- A channel was served where the script stopped so, and this is what its end makes of the session.
  pub served_next : (channel : ℕ) (why : Stop) (by : Ending) (starved : Bool) (e : Option Ended) (old new : SessionState F W)
      → end_by_channel channel by starved ≡ e → ServesChannel turn devices channel why by starved old new → ServesNext turn devices channel (next_of e why) old new
  served_next channel why by starved (Some e) old new is serves = (why, by, starved, serves, is)
  served_next channel stop.Connect by starved None old new is serves = (by, starved, serves, is)
  served_next channel stop.End by starved None old new is serves = (by, starved, serves, is)

  -- ---- channels

  pub served_more : (n m : ℕ) (what : Next) (old here new : SessionState F W) → m ≡ suc n → what ≡ next.Goes → Served turn devices n old here → ServesNext turn devices m what here new
      → Served turn devices m old new
  served_more n m what old here new is goes served serves =
      let one = subst (λ (k : ℕ). ServesNext turn devices k next.Goes here new) is (subst (λ (x : Next). ServesNext turn devices m x here new) goes serves) in
      subst (λ (k : ℕ). Served turn devices k old new) (sym is) (here, one.0, one.1, served, one.2, one.3)

  -- No further channel could be had.
  pub ends_for_none : (n m : ℕ) (what : Next) (old here : SessionState F W) (then new : PlayState F W) (linker : LinkedTold) → m ≡ suc n → what ≡ next.None → Served turn devices n old here
      → ServesNext turn devices m what here (stands then linker) → PlaysOut then new → ServesAll turn devices None old (stands new linker)
  ends_for_none n m what old here then new linker is none served serves plays =
      let gives = subst (λ (x : Next). ServesNext turn devices m x here (stands then linker)) none serves in
      (n, here, served, inl (linker, gives.1, refl, subst (λ (s : PlayState F W). PlaysOut s new) gives.0 plays))

  -- The script was at its end on the last one.
  pub ends_as_last : (n m : ℕ) (what : Next) (old here new : SessionState F W) → m ≡ suc n → what ≡ next.Last → Served turn devices n old here → ServesNext turn devices m what here new
      → ServesAll turn devices None old new
  ends_as_last n m what old here new is last served serves =
      (n, here, served, inr (subst (λ (k : ℕ). ServesNext turn devices k next.Last here new) is (subst (λ (x : Next). ServesNext turn devices m x here new) last serves)))

  -- The end of the last one ended the session.
  pub ends_by_channel : (n m : ℕ) (what : Next) (e : Ended) (old here : SessionState F W) (then new : PlayState F W) (linker : LinkedTold) → m ≡ suc n → what ≡ next.Ends e → Served turn devices n old here
      → ServesNext turn devices m what here (stands then linker) → PlaysOut then new → ServesAll turn devices (Some e) old (stands new linker)
  ends_by_channel n m what e old here then new linker is ends served serves plays =
      let one = subst (λ (k : ℕ). ServesNext turn devices k (next.Ends e) here (stands then linker)) is (subst (λ (x : Next). ServesNext turn devices m x here (stands then linker)) ends serves) in
      (n, here, served, (one.0, one.1, one.2, stands then linker, one.3, one.4, refl, plays))

  -- ---- the front's turn

  channel_turn : (channel : ℕ) (why : Stop) (by : Ending) (starved : Bool) (old new : SessionState F W) → ServesChannel turn devices channel why by starved old new → (new.play).at ≡ (old.play).at
  channel_turn channel why by starved old new serves =
      let begun = serves.serves in
      ap (λ (s : PlayState F W). s.at) begun.is ∙ plays_turn turn devices why _ begun.over begun.plays ∙ ap (λ (s : PlayState F W). s.at) (serves.begins).2

  served_turn : (n : ℕ) (old new : SessionState F W) → Served turn devices n old new → (new.play).at ≡ (old.play).at
  served_turn zero old new is = ap (λ (s : SessionState F W). (s.play).at) is
  served_turn (suc n) old new (here, by, starved, served, serves, none) = channel_turn (suc n) stop.Connect by starved here new serves ∙ served_turn n old here served

  ends_turn : (channel : ℕ) (other : Option Ended) (old new : SessionState F W) → EndsAt turn devices channel other old new → (new.play).at ≡ (old.play).at
  ends_turn channel None old new (inl (linker, gives, is, plays)) = plays_out_turn old.play new.play plays
  ends_turn channel None old new (inr (by, starved, serves, none)) = channel_turn channel stop.End by starved old new serves
  ends_turn channel (Some e) old new (why, by, starved, here, serves, is, linker, plays) = plays_out_turn here.play new.play plays ∙ channel_turn channel why by starved old here serves

  -- It is the same through all channels.
  pub session_turn : (other : Option Ended) (old new : SessionState F W) → ServesAll turn devices other old new → (new.play).at ≡ (old.play).at
  session_turn other old new (count, here, served, ends) = ends_turn (suc count) other here new ends ∙ served_turn count old here served
