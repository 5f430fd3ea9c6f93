-- What a whole history of a host's front tells: each call by its parts, one after the other.
use Rattle.std.proofs.Common.{◌≡◌, ◌∙◌, ◌≢◌, refl, sym, ap, subst, ℕ, ◌==◌, ◌&&◌, Bool, true, false, cond, List, [], ◌∷◌, ◌++◌, append_assoc, Some, None, Option, Ok, Err, Result, eqb-true}
use Rattle.std.specs.Prelude.{MatchBool, map, not, reverse}
use Rattle.std.specs.List.{AllByRecursion}
use Rattle.std.specs.declared.alloc.AllocError.{AllocError}
use Rattle.std.proofs.lemmas.List.{reverse-append}
use Rattle.rd_hello.specs.Moves as move
use Rattle.rd_hello.specs.Moves.{Move}
use Rattle.rd_hello.specs.declared.end_fault.EndFault.{EndFault}
use Rattle.rd_host.specs.declared.act.Act.{Act}
use Rattle.rd_host.specs.declared.act.Act.TheVariants as act
use Rattle.rd_host.specs.Core.{HostCoreState, HostStep, begins, host_begin, host_hear}
use Rattle.rd_room.specs.Room.{MessageRoom}
use Rattle.rd_table.specs.declared.calls.PendingCall.TheVariants as ask
use Rattle.rd_table.specs.declared.calls.PendingReply.{PendingReply}
use Rattle.rd_table.specs.declared.calls.PendingReply.TheVariants as replied
use Rattle.rd_turn.specs.History.{Leads, entry}
use Rattle.rd_host_channel.specs.Calls.{HostEntry, heard_by, messages_by, messages_for, messages_heard}
use Rattle.rd_host_front.specs.declared.calls.Came.{Came}
use Rattle.rd_host_front.specs.declared.calls.Came.TheVariants as came
use Rattle.rd_host_front.specs.declared.calls.HostFrontCall.{HostFrontCall}
use Rattle.rd_host_front.specs.declared.calls.HostFrontCall.TheVariants as call
use Rattle.rd_host_front.specs.declared.calls.HostFrontReply.{HostFrontReply}
use Rattle.rd_host_front.specs.declared.calls.HostFrontReply.TheVariants as reply
use Rattle.rd_host_front.specs.declared.calls.Stop.{Stop}
use Rattle.rd_host_front.specs.Asked.{is_wanting}
use Rattle.rd_host_front.specs.HostFront.{BeginsChannel, BeginsIfFound, BeginsTable, Declines, DropsBy, DropsUnsent, EndsChannel, EndsSent, HandsBack, HandsOver, HearsMessage, HostFrontStep, RenewsIf, TableDoes, began_as, begun_if, has_begun, has_many_unsent, is_channel_on, is_found, may_begin_on, may_renew, none_over}
use Rattle.rd_host_front.specs.State.{FrontPassState, HostFrontState, PassOfTable, Renews, RenewsBy}
use Rattle.rd_host_front.proofs.GoingLemmas.{core_of, table_of}
use Rattle.rd_host_turns.specs.Turns.{ArePartsOf, HandsThrough, IsOwnCall, IsWithoutCall, PartsAlong, SeenAlong, TableEntry, TablePart, TablePartsGo, all_parts, calls, renews, renews_by}
use Rattle.rd_host_threads.specs.Calls.{AreHostsCalls, IsHeardReply, IsMadeBy}
use Rattle.rd_deeds.specs.Talk.{Deed, host_moves, host_read, host_wrote}
use Rattle.rd_hosted.specs.Asks.{asks_among}
use Rattle.rd_hosted.specs.Heard.{DoesAsked, DoesHeard, IsOnStill, took_message, served_in}
use Rattle.rd_hosted.specs.Kept.{AsksInRange, IsNoDropOf, moves_by, moves_on}
use Rattle.rd_hosted.proofs.BetweenLemmas.{IsTableHistory, earlier_history, fit_in, fit_last, seen_prefix}
use Rattle.rd_hosted.proofs.HeardLemmas.{channel_in, heard, on_of}
use Rattle.rd_hosted.proofs.HearToldLemmas.{HeardOn, complete_heard, lives_go, lives_heard, lives_own, plain_heard, removes_go, removes_heard, removes_own}
use Rattle.rd_hosted.proofs.SendToldLemmas.{HandsTold, all_on, fills_told, parts_on, seen_split, those}
use Rattle.rd_hosted.proofs.EndToldLemmas.{begin_told, drop_told, emptied, ended_told, kept_told}
use Rattle.rd_hosted.proofs.ToldLemmas.{AnyChannel, SentIn, StandsAt, Told, moved_more, moves_of, nothing, only, read_more, sent_more, told_alike, told_as, told_fewer, told_nothing, told_quiet, told_then, written_more}

-- the channel that is on, if one is
abbrev pub channel_of : HostFrontState → Option ℕ
channel_of s = cond s.on (Some s.channel) None

on_still : (old new : HostFrontState) → IsOnStill old new → channel_of new ≡ channel_of old
on_still old new still = ap (λ (b : Bool). cond b (Some new.channel) None) still.0 ∙ ap (λ (n : ℕ). cond old.on (Some n) None) still.1

both_true : (a b : Bool) → (a && b) ≡ true → (a ≡ true) × (b ≡ true)
both_true true b is = (refl, is)
both_true false b is = absurd (cc is)

on_channel : (s : HostFrontState) (channel : ℕ) → is_channel_on s channel ≡ true → channel_of s ≡ Some channel
on_channel s channel is =
    let both = both_true s.on (s.channel == channel) is in
    ap (λ (b : Bool). cond b (Some s.channel) None) both.0 ∙ ap Some (eqb-true s.channel channel both.1)

reverse_only : (b : Bool) (m : List ℕ) → reverse (cond b (m ∷ []) []) ≡ cond b (m ∷ []) []
reverse_only true m = refl
reverse_only false m = refl

reverse_those : (b : Bool) (ms : List (List ℕ)) → cond b (reverse ms) [] ≡ reverse (cond b ms [])
reverse_those true ms = refl
reverse_those false ms = refl

reverse_none : (b : Bool) → nothing 0 ≡ reverse (cond b [] [])
reverse_none true = refl
reverse_none false = refl

-- What a message comes to that is heard on a channel.
record HearTold (channel : ℕ) (message : List ℕ) (old new : HostFrontState) : Type 0 where
  parts : List TablePart
  own : AllByRecursion IsOwnCall parts
  goes : TablePartsGo old.table parts new.table
  tells : (a c : List TableEntry) → SeenAlong a parts c → IsTableHistory c → AllByRecursion AsksInRange (asks_among c) → (deeds : List Deed) → StandsAt old.core a (Some channel) deeds → HeardOn new.core c channel message deeds

hear_asked : (channel : ℕ) (message : List ℕ) (old new : HostFrontState) (core : HostCoreState) (answer : Result Act EndFault) → host_hear old.core message ≡ (core, answer) → DoesAsked answer core old.table new → HearTold channel message old new
hear_asked channel message old new core (Err fault) is did = record {
  parts = [];
  own = tt;
  goes = did.1;
  tells = λ a c seen legal fit deeds s.
      subst (λ (h : HostCoreState). HeardOn h c channel message deeds) (sym did.0) (plain_heard channel message old.core core a c (Err fault) deeds is refl seen s);
}
hear_asked channel message old new core (Ok act.Nothing) is did = record {
  parts = [];
  own = tt;
  goes = did.1;
  tells = λ a c seen legal fit deeds s.
      subst (λ (h : HostCoreState). HeardOn h c channel message deeds) (sym did.0) (plain_heard channel message old.core core a c (Ok act.Nothing) deeds is refl seen s);
}
hear_asked channel message old new core (Ok (act.Complete head body)) is (answer, fine, made, same) = record {
  parts = calls (ask.Complete head body) (replied.Completed answer) ∷ [];
  own = (tt, tt);
  goes = (new.table, made, refl);
  tells = λ a c seen legal fit deeds s.
      let (added, by, place, quiet) = seen.1 in
      let whole : c ≡ (a ++ added) ++ entry by (ask.Complete head body) (replied.Completed answer) ∷ [] = seen.2 ∙ place in
      let fit_added = fit_last AsksInRange a added (fit_in AsksInRange (a ++ added) (entry by (ask.Complete head body) (replied.Completed answer) ∷ []) c (sym whole) fit) in
      subst (λ (h : HostCoreState). HeardOn h c channel message deeds) (sym same) (complete_heard channel message old.core core a added c by head body answer deeds is fine whole quiet legal fit_added s);
}
hear_asked channel message old new core (Ok (act.Announced devices)) is (answers, lives, same) =
    let went = lives_go (served_in devices) answers old.table new.table lives in
    record {
      parts = _;
      own = (lives_own (served_in devices) answers).0;
      goes = went.1;
      tells = λ a c seen legal fit deeds s.
          subst (λ (h : HostCoreState). HeardOn h c channel message deeds) (sym same) (lives_heard channel message old.core core a c devices answers deeds is went.0 seen legal fit s);
    }
hear_asked channel message old new core (Ok (act.Removed ids)) is (removes, same) =
    let (answers, fine, went) = removes_go ids old.table new.table removes in
    record {
      parts = _;
      own = (removes_own ids answers).0;
      goes = went;
      tells = λ a c seen legal fit deeds s.
          subst (λ (h : HostCoreState). HeardOn h c channel message deeds) (sym same) (removes_heard channel message old.core core a c ids answers deeds is fine seen legal fit s);
    }

begun_true : (answer : PendingReply) → began_as (has_begun answer) ≡ came.Done → answer ≡ replied.Begun true
begun_true (replied.Begun true) is = refl
begun_true (replied.Begun false) is = absurd (cc is)
begun_true (replied.Lives x) is = absurd (cc is)
begun_true (replied.Submitted x) is = absurd (cc is)
begun_true replied.Unfit is = absurd (cc is)
begun_true (replied.Sent x) is = absurd (cc is)
begun_true (replied.Completed x) is = absurd (cc is)
begun_true (replied.Removed x) is = absurd (cc is)
begun_true replied.Dropped is = absurd (cc is)
begun_true (replied.DroppedSent x) is = absurd (cc is)
begun_true (replied.Taken x) is = absurd (cc is)
begun_true (replied.Stands x) is = absurd (cc is)

through_on : (xs ys : List TablePart) (first mid last : PassOfTable) → HandsThrough first xs mid → HandsThrough mid ys last → HandsThrough first (xs ++ ys) last
through_on [] ys first mid last is more = subst (λ (p : PassOfTable). HandsThrough p ys last) is more
through_on (calls does back ∷ xs) ys first mid last goes more = through_on xs ys first mid last goes more
through_on (renews given handed ∷ xs) ys first mid last goes more = (goes.0, through_on xs ys handed mid last goes.1 more)
through_on (renews_by does back given handed ∷ xs) ys first mid last goes more = (goes.0, through_on xs ys handed mid last goes.1 more)

-- What becomes of the front's pass and pass 0 where the table isn't called to any effect.
record Renewed (first last : PassOfTable) (old new : HostFrontState) : Type 0 where
  parts : List TablePart
  through : HandsThrough first parts last
  without : AllByRecursion IsWithoutCall parts
  goes : TablePartsGo old.table parts new.table
  core : new.core ≡ old.core
  still : IsOnStill old new
  tells : (core : HostCoreState) (open_on : Option ℕ) (a c : List TableEntry) → SeenAlong a parts c → IsTableHistory c → AllByRecursion AsksInRange (asks_among c) → (deeds : List Deed) → StandsAt core a open_on deeds
      → Told AnyChannel core c open_on nothing nothing deeds

renewal_told : (given last : PassOfTable) (core : HostCoreState) (open_on : Option ℕ) (a c : List TableEntry) → SeenAlong a (renews given last ∷ []) c → IsTableHistory c → AllByRecursion AsksInRange (asks_among c) → (deeds : List Deed)
    → StandsAt core a open_on deeds → Told AnyChannel core c open_on nothing nothing deeds
renewal_told given last core open_on a c seen legal fit deeds s =
    let (added, place, quiet) = seen.1 in
    let whole : c ≡ a ++ added = seen.2 ∙ place in
    told_quiet core a added c open_on deeds whole quiet legal (fit_last AsksInRange a added (subst (λ (l : List TableEntry). AllByRecursion AsksInRange (asks_among l)) whole fit)) s

renewed_if : (anew : Bool) (first last : PassOfTable) (old new : HostFrontState) → RenewsIf anew first old last new → Renewed first last old new
renewed_if true first last old new did = record {
  parts = renews first last ∷ [];
  through = (refl, refl);
  without = (tt, tt);
  goes = (new.table, did.0, refl);
  core = ap core_of did.1;
  still = (ap on_of did.1, ap channel_in did.1);
  tells = λ core open_on a c seen legal fit deeds s. renewal_told first last core open_on a c seen legal fit deeds s;
}
renewed_if false first last old new did = record {
  parts = [];
  through = did.0;
  without = tt;
  goes = ap table_of did.1;
  core = ap core_of did.1;
  still = (ap on_of did.1, ap channel_in did.1);
  tells = λ core open_on a c seen legal fit deeds s. told_nothing core core a c open_on deeds refl seen s;
}

map_on : {A B : Type 0} (f : A → B) (xs ys : List A) → map f (xs ++ ys) ≡ map f xs ++ map f ys
map_on f [] ys = refl
map_on {A} {B} f (x ∷ xs) ys = ap (λ (l : List B). f x ∷ l) (map_on f xs ys)

reversed_map : {A B : Type 0} (f : A → B) (xs : List A) → map f (reverse xs) ≡ reverse (map f xs)
reversed_map f [] = refl
reversed_map {A} {B} f (x ∷ xs) =
    ap (map f) (reverse-append (x ∷ []) xs) ∙ (map_on f (reverse xs) (x ∷ []) ∙ (ap (λ (l : List B). l ++ f x ∷ []) (reversed_map f xs) ∙ sym (reverse-append (f x ∷ []) (map f xs))))

module _ {W : Type 0} where
  -- What a call of the front tells, by parts.
  pub record StepTold (does : HostFrontCall W) (back : HostFrontReply W) (old new : HostFrontState) : Type 0 where
    pub parts : List TablePart
    pub are : ArePartsOf does back parts
    pub goes : TablePartsGo old.table parts new.table
    pub tells : (a c : List TableEntry) → SeenAlong a parts c → IsTableHistory c → AllByRecursion AsksInRange (asks_among c) → (deeds : List Deed) → StandsAt old.core a (channel_of old) deeds
        → Told (λ x. IsNoDropOf x does back) new.core c (channel_of new) (λ x. reverse (heard_by x does back)) (λ x. reverse (messages_by x does back)) deeds

  -- nothing was done
  same_told : (does : HostFrontCall W) (back : HostFrontReply W) (old new : HostFrontState) → ArePartsOf does back [] → new ≡ old → ((x : ℕ) → [] ≡ reverse (heard_by x does back)) → ((x : ℕ) → [] ≡ reverse (messages_by x does back))
      → StepTold does back old new
  same_told does back old new are same silent still = record {
    parts = [];
    are = are;
    goes = ap table_of same;
    tells = λ a c seen legal fit deeds s.
        let told = told_nothing old.core new.core a c (channel_of old) deeds (sym (ap core_of same)) seen s in
        subst (λ (o : Option ℕ). Told (λ x. IsNoDropOf x does back) new.core c o (λ x. reverse (heard_by x does back)) (λ x. reverse (messages_by x does back)) deeds) (sym (ap channel_of same))
        (told_fewer (λ x. IsNoDropOf x does back) new.core c (channel_of old) (λ x. reverse (heard_by x does back)) (λ x. reverse (messages_by x does back)) deeds
        (told_alike new.core c (channel_of old) nothing nothing (λ x. reverse (heard_by x does back)) (λ x. reverse (messages_by x does back)) deeds silent still told));
  }

  -- ---- a message is heard

  heard_taken : (channel x : ℕ) (message : List ℕ) (back : HostFrontReply W) → took_message back ≡ true → only channel message x ≡ reverse (heard_by x (call.Hear channel message) back)
  heard_taken channel x message (reply.Done wakes full) is = sym (reverse_only (channel == x) message)
  heard_taken channel x message (reply.Wrong cause) is = sym (reverse_only (channel == x) message)
  heard_taken channel x message (reply.Stray device id) is = sym (reverse_only (channel == x) message)
  heard_taken channel x message (reply.BodyBad bad) is = sym (reverse_only (channel == x) message)
  heard_taken channel x message reply.Memory is = sym (reverse_only (channel == x) message)
  heard_taken channel x message (reply.First last what) is = sym (reverse_only (channel == x) message)
  heard_taken channel x message (reply.Messages filled why) is = sym (reverse_only (channel == x) message)
  heard_taken channel x message (reply.Full other) is = absurd (cc is)
  heard_taken channel x message reply.Over is = absurd (cc is)

  hears_found : (message : List ℕ) (back : HostFrontReply W) → IsHeardReply message back → is_wanting back ≡ false
  hears_found message (reply.Done wakes full) is = refl
  hears_found message (reply.Full other) is = refl
  hears_found message (reply.Wrong cause) is = refl
  hears_found message (reply.Stray device id) is = refl
  hears_found message (reply.BodyBad bad) is = refl
  hears_found message reply.Over is = refl
  hears_found message reply.Memory is = absurd is
  hears_found message (reply.First last what) is = absurd is
  hears_found message (reply.Messages filled why) is = absurd is

  hear_step : (channel : ℕ) (message : List ℕ) (back : HostFrontReply W) (old new : HostFrontState) → IsHeardReply message back → HostFrontStep old (call.Hear channel message) back new → StepTold (call.Hear channel message) back old new
  hear_step channel message back old new fine step = on (is_channel_on old channel) refl step
    where
      told : channel_of old ≡ Some channel → DoesHeard old message back new → StepTold (call.Hear channel message) back old new
      told open_on did =
          let h = hear_asked channel message old new did.core did.answer did.hears did.does in
          record {
            parts = h.parts;
            are = h.own;
            goes = h.goes;
            tells = λ a c seen legal fit deeds s.
                subst (λ (o : Option ℕ). Told AnyChannel new.core c o (λ x. reverse (heard_by x (call.Hear channel message) back)) (λ x. reverse (messages_by x (call.Hear channel message) back)) deeds) (sym (on_still old new did.still ∙ open_on))
                (told_alike new.core c (Some channel) (only channel message) nothing (λ x. reverse (heard_by x (call.Hear channel message) back)) (λ x. reverse (messages_by x (call.Hear channel message) back)) deeds
                (λ x. heard_taken channel x message back did.taken) (λ x. refl) (h.tells a c seen legal fit deeds (subst (λ (o : Option ℕ). StandsAt old.core a o deeds) open_on s)));
          }

      room : (full : Bool) → channel_of old ≡ Some channel → MatchBool full (Declines (reply.Full message) back old new) (HearsMessage old message back new) → StepTold (call.Hear channel message) back old new
      room true open_on did =
          subst (λ (r : HostFrontReply W). StepTold (call.Hear channel message) r old new) (sym did.0) (same_told (call.Hear channel message) (reply.Full message) old new tt did.1 (λ x. refl) (λ x. refl))
      room false open_on did = told open_on (heard old message back new (hears_found message back fine) did)

      on : (b : Bool) → is_channel_on old channel ≡ b → MatchBool b (MatchBool (has_many_unsent old) (Declines (reply.Full message) back old new) (HearsMessage old message back new)) (Declines reply.Over back old new)
          → StepTold (call.Hear channel message) back old new
      on true e did = room (has_many_unsent old) (on_channel old channel e) did
      on false e did = subst (λ (r : HostFrontReply W). StepTold (call.Hear channel message) r old new) (sym did.0) (same_told (call.Hear channel message) reply.Over old new tt did.1 (λ x. refl) (λ x. refl))

  -- ---- messages are handed out

  next_step : (channel : ℕ) (room : MessageRoom) (back : HostFrontReply W) (old new : HostFrontState) → HostFrontStep old (call.Next channel room) back new → StepTold (call.Next channel room) back old new
  next_step channel room back old new step = on (is_channel_on old channel) refl step
    where
      filled_told : channel_of old ≡ Some channel → (filled : MessageRoom) (why : Stop) → HandsTold channel old new filled.messages → StepTold (call.Next channel room) (reply.Messages filled why) old new
      filled_told open_on filled why h = record {
        parts = h.parts;
        are = h.own;
        goes = h.goes;
        tells = λ a c seen legal fit deeds s.
            subst (λ (o : Option ℕ). Told AnyChannel new.core c o (λ x. reverse (heard_by {W = W} x (call.Next channel room) (reply.Messages filled why))) (λ x. reverse (messages_by {W = W} x (call.Next channel room) (reply.Messages filled why))) deeds)
            (sym (on_still old new h.still ∙ open_on))
            (told_alike new.core c (Some channel) nothing (those channel filled.messages) nothing (λ x. reverse (messages_by {W = W} x (call.Next channel room) (reply.Messages filled why))) deeds (λ x. refl)
            (λ x. reverse_those (channel == x) filled.messages) (h.tells a c seen legal fit deeds (subst (λ (o : Option ℕ). StandsAt old.core a o deeds) open_on s)));
      }

      hands : (back : HostFrontReply W) → channel_of old ≡ Some channel → HandsOver old room back new → StepTold (call.Next channel room) back old new
      hands (reply.Messages filled why) open_on did = filled_told open_on filled why (fills_told channel room.places old new filled.messages why did.1)
      hands (reply.First last what) open_on did = absurd did
      hands (reply.Done wakes full) open_on did = absurd did
      hands (reply.Full other) open_on did = absurd did
      hands (reply.Wrong cause) open_on did = absurd did
      hands (reply.Stray device id) open_on did = absurd did
      hands (reply.BodyBad bad) open_on did = absurd did
      hands reply.Over open_on did = absurd did
      hands reply.Memory open_on did = absurd did

      on : (b : Bool) → is_channel_on old channel ≡ b → MatchBool b (HandsOver old room back new) (Declines (none_over room) back old new) → StepTold (call.Next channel room) back old new
      on true e did = hands back (on_channel old channel e) did
      on false e did = subst (λ (r : HostFrontReply W). StepTold (call.Next channel room) r old new) (sym did.0)
          (same_told (call.Next channel room) (none_over room) old new tt did.1 (λ x. refl) (λ x. reverse_none (channel == x)))

  -- ---- a channel ends by its peer, or by a fault

  end_step : (channel : ℕ) (back : HostFrontReply W) (old new : HostFrontState) → HostFrontStep old (call.DropChannel channel) back new → StepTold (call.DropChannel channel) back old new
  end_step channel back old new step = on (is_channel_on old channel) refl step
    where
      on : (b : Bool) → is_channel_on old channel ≡ b → MatchBool b (EndsChannel old back new) (Declines reply.Over back old new) → StepTold (call.DropChannel channel) back old new
      on false e did = subst (λ (r : HostFrontReply W). StepTold (call.DropChannel channel) r old new) (sym did.0) (same_told (call.DropChannel channel) reply.Over old new tt did.1 (λ x. refl) (λ x. refl))
      on true e (next, made, over, is) =
          let core : new.core ≡ emptied old.core = ap core_of over ∙ ap (λ (s : HostFrontState). emptied s.core) made.1 in
          subst (λ (r : HostFrontReply W). StepTold (call.DropChannel channel) r old new) (sym is) (record {
            parts = calls ask.DropChannel replied.Dropped ∷ [];
            are = (tt, tt);
            goes = (next.table, made.0, ap table_of over);
            tells = λ a c seen legal fit deeds s.
                let (added, by, place, quiet) = seen.1 in
                let whole : c ≡ (a ++ added) ++ entry by ask.DropChannel replied.Dropped ∷ [] = seen.2 ∙ place in
                let fit_added = fit_last AsksInRange a added (fit_in AsksInRange (a ++ added) (entry by ask.DropChannel replied.Dropped ∷ []) c (sym whole) fit) in
                subst (λ (h : HostCoreState). Told (λ x. channel ≢ x) h c (channel_of new) nothing nothing deeds) (sym core)
                (subst (λ (o : Option ℕ). Told (λ x. channel ≢ x) (emptied old.core) c o nothing nothing deeds) (sym (ap channel_of over))
                (ended_told channel old.core a added c by deeds whole quiet legal fit_added (subst (λ (o : Option ℕ). StandsAt old.core a o deeds) (on_channel old channel e) s)));
          })

  -- ---- a channel begins

  begin_step : (channel : ℕ) (first last : PassOfTable) (old new : HostFrontState) → HostFrontStep {W = W} old (call.Begin channel first) (reply.First last came.Done) new → StepTold (call.Begin channel first) (reply.First last came.Done) old new
  begin_step channel first last old new step = on (may_begin_on old channel first) refl step
    where
      declined : (what : Came) (s : HostFrontState) → (what ≡ came.Done → ⊥) → Declines {W = W} (reply.First first what) (reply.First last came.Done) s new → ⊥
      declined what s other did = let is : came.Done ≡ what = cc did.0 in other (sym is)

      began : (next : HostFrontState) → old.on ≡ false → next.core ≡ host_begin old.core → next.table ≡ old.table → BeginsTable {W = W} next channel first (reply.First last came.Done) new
          → StepTold (call.Begin channel first) (reply.First last came.Done) old new
      began next off core table (answer, handed, renewed, is, back) =
          let what : began_as (has_begun answer) ≡ came.Done = (let e : came.Done ≡ began_as (has_begun answer) = cc back in sym e) in
          let same_pass : handed ≡ last = (let e : last ≡ handed = cc back in sym e) in
          let begun : answer ≡ replied.Begun true = begun_true answer what in
          let by_answer = subst (λ (r : PendingReply). RenewsBy (ask.Begin channel) r first next.table handed new.table) begun renewed in
          let by_last = subst (λ (p : PassOfTable). RenewsBy (ask.Begin channel) (replied.Begun true) first next.table p new.table) same_pass by_answer in
          let goes = subst (λ (f : FrontPassState). RenewsBy (ask.Begin channel) (replied.Begun true) first f last new.table) table by_last in
          let is_so = subst (λ (r : PendingReply). new ≡ record (begun_if (has_begun r) next channel) { table = new.table }) begun is in
          record {
            parts = renews_by (ask.Begin channel) (replied.Begun true) first last ∷ [];
            are = ((refl, refl), (refl, tt));
            goes = (new.table, goes, refl);
            tells = λ a c seen legal fit deeds s.
                let (added, by, place, quiet) = seen.1 in
                let whole : c ≡ (a ++ added) ++ entry by (ask.Begin channel) (replied.Begun true) ∷ [] = seen.2 ∙ place in
                let fit_added = fit_last AsksInRange a added (fit_in AsksInRange (a ++ added) (entry by (ask.Begin channel) (replied.Begun true) ∷ []) c (sym whole) fit) in
                let closed : channel_of old ≡ None = ap (λ (b : Bool). cond b (Some old.channel) None) off in
                subst (λ (h : HostCoreState). Told AnyChannel h c (channel_of new) nothing nothing deeds) (sym (ap core_of is_so ∙ core))
                (subst (λ (o : Option ℕ). Told AnyChannel (host_begin old.core) c o nothing nothing deeds) (sym (ap channel_of is_so))
                (begin_told channel old.core a added c by deeds whole quiet legal fit_added (subst (λ (o : Option ℕ). StandsAt old.core a o deeds) closed s)));
          }

      found : old.on ≡ false → (answer : Result (Unit {0}) AllocError) (next : HostFrontState) → HostStep old.core (begins answer) next.core → next.table ≡ old.table → BeginsIfFound {W = W} (is_found answer) next channel first (reply.First last came.Done) new
          → StepTold (call.Begin channel first) (reply.First last came.Done) old new
      found off (Ok u) next did table more = began next off did table more
      found off (Err e) next did table more = absurd (declined came.Memory next (λ e. cc e) more)

      off_of : (a b : Bool) → (not a && b) ≡ true → a ≡ false
      off_of false b is = refl
      off_of true b is = absurd (cc is)

      on : (b : Bool) → may_begin_on old channel first ≡ b → MatchBool b (BeginsChannel {W = W} old channel first (reply.First last came.Done) new) (HandsBack {W = W} first came.Refused (reply.First last came.Done) old new)
          → StepTold (call.Begin channel first) (reply.First last came.Done) old new
      on false e did = absurd (declined came.Refused old (λ x. cc x) did)
      on true e (answer, next, did, is, more) = found (off_of old.on _ e) answer next did (ap table_of is) more

  -- ---- a channel is to end by the script

  unsent_step : (first handed last : PassOfTable) (anew : Bool) (what : Came) (old next new : HostFrontState) → Renewed first handed old next → last ≡ handed → new ≡ next → StepTold (call.DropSent first anew) (reply.First last what) old new
  unsent_step first handed last anew what old next new r same_pass same = record {
    parts = r.parts;
    are = (subst (HandsThrough first r.parts) (sym same_pass) r.through, r.without);
    goes = subst (TablePartsGo old.table r.parts) (sym (ap table_of same)) r.goes;
    tells = λ a c seen legal fit deeds s.
        subst (λ (h : HostCoreState). Told AnyChannel h c (channel_of new) nothing nothing deeds) (sym (ap core_of same ∙ r.core))
        (subst (λ (o : Option ℕ). Told AnyChannel old.core c o nothing nothing deeds) (sym (ap channel_of same ∙ on_still old next r.still)) (r.tells old.core (channel_of old) a c seen legal fit deeds s));
  }

  -- the table was asked, and something is to be sent
  kept_step : (first handed last : PassOfTable) (anew : Bool) (what : Came) (old next mid new : HostFrontState) → Renewed first handed old next → TableDoes next ask.DropSent (replied.DroppedSent false) mid → last ≡ handed → new ≡ mid
      → StepTold (call.DropSent first anew) (reply.First last what) old new
  kept_step first handed last anew what old next mid new r made same_pass same = record {
    parts = r.parts ++ calls ask.DropSent (replied.DroppedSent false) ∷ [];
    are = (
      subst (HandsThrough first (r.parts ++ calls ask.DropSent (replied.DroppedSent false) ∷ [])) (sym same_pass) (through_on r.parts (calls ask.DropSent (replied.DroppedSent false) ∷ []) first handed handed r.through refl),
      all_on IsWithoutCall r.parts (calls ask.DropSent (replied.DroppedSent false) ∷ []) r.without (tt, tt),
    );
    goes = parts_on r.parts (calls ask.DropSent (replied.DroppedSent false) ∷ []) old.table next.table new.table r.goes (mid.table, made.0, ap table_of same);
    tells = λ a c seen legal fit deeds s.
        let (b, first_seen, rest) = seen_split r.parts (calls ask.DropSent (replied.DroppedSent false) ∷ []) a c seen in
        let (added, by, place, quiet) = rest.1 in
        let whole : c ≡ (b ++ added) ++ entry by ask.DropSent (replied.DroppedSent false) ∷ [] = rest.2 ∙ place in
        let on = seen_prefix (calls ask.DropSent (replied.DroppedSent false) ∷ []) b c rest in
        let one = r.tells old.core (channel_of old) a b first_seen (earlier_history b on.0 c (sym on.1) legal) (fit_in AsksInRange b on.0 c on.1 fit) deeds s in
        let fit_added = fit_last AsksInRange b added (fit_in AsksInRange (b ++ added) (entry by ask.DropSent (replied.DroppedSent false) ∷ []) c (sym whole) fit) in
        let two = kept_told old.core b added c by (channel_of old) (one.more ++ deeds) whole quiet legal fit_added one.stands in
        subst (λ (h : HostCoreState). Told AnyChannel h c (channel_of new) nothing nothing deeds) (sym (ap core_of (same ∙ made.1) ∙ r.core))
        (subst (λ (o : Option ℕ). Told AnyChannel old.core c o nothing nothing deeds) (sym (ap channel_of (same ∙ made.1) ∙ on_still old next r.still))
        (told_then old.core old.core b c (channel_of old) (channel_of old) nothing nothing deeds one two));
  }

  -- it was, and the channel ended
  dropped_step : (first handed last : PassOfTable) (anew : Bool) (what : Came) (old next mid new : HostFrontState) → ((next.core).core).outbox ≡ [] → Renewed first handed old next → TableDoes next ask.DropSent (replied.DroppedSent true) mid
      → Renews handed mid.table last new.table → new ≡ record mid { table = new.table; on = false; unsent = 0 } → StepTold (call.DropSent first anew) (reply.First last what) old new
  dropped_step first handed last anew what old next mid new empty r made renewal is =
      let last_parts : List TablePart = calls ask.DropSent (replied.DroppedSent true) ∷ renews handed last ∷ [] in
      let core : new.core ≡ old.core = ap core_of is ∙ (ap core_of made.1 ∙ r.core) in
      let none : (old.core).core.outbox ≡ [] = ap (λ (h : HostCoreState). (h.core).outbox) (sym r.core) ∙ empty in
      record {
        parts = r.parts ++ last_parts;
        are = (through_on r.parts last_parts first handed last r.through (refl, refl), all_on IsWithoutCall r.parts last_parts r.without (tt, (tt, tt)));
        goes = parts_on r.parts last_parts old.table next.table new.table r.goes (mid.table, made.0, (new.table, renewal, refl));
        tells = λ a c seen legal fit deeds s.
            let (b, first_seen, rest) = seen_split r.parts last_parts a c seen in
            let (d, called, renewing) = rest in
            let (added, by, whole, quiet) = called in
            let on = seen_prefix last_parts b c rest in
            let ends = seen_prefix (renews handed last ∷ []) d c renewing in
            let legal_d = earlier_history d ends.0 c (sym ends.1) legal in
            let fit_d = fit_in AsksInRange d ends.0 c ends.1 fit in
            let one = r.tells old.core (channel_of old) a b first_seen (earlier_history b on.0 c (sym on.1) legal) (fit_in AsksInRange b on.0 c on.1 fit) deeds s in
            let fit_added = fit_last AsksInRange b added (fit_in AsksInRange (b ++ added) (entry by ask.DropSent (replied.DroppedSent true) ∷ []) d (sym whole) fit_d) in
            let two = drop_told old.core b added d by (channel_of old) (one.more ++ deeds) none whole quiet legal_d fit_added one.stands in
            let both = told_then old.core old.core b d (channel_of old) None nothing nothing deeds one two in
            let three = renewal_told handed last old.core None d c renewing legal fit (both.more ++ deeds) both.stands in
            subst (λ (h : HostCoreState). Told AnyChannel h c (channel_of new) nothing nothing deeds) (sym core)
            (subst (λ (o : Option ℕ). Told AnyChannel old.core c o nothing nothing deeds) (sym (ap channel_of is))
            (told_then old.core old.core d c None None nothing nothing deeds both three));
      }

  drop_step : (first last : PassOfTable) (anew : Bool) (what : Came) (old new : HostFrontState) → (what ≡ came.Refused → ⊥) → HostFrontStep {W = W} old (call.DropSent first anew) (reply.First last what) new
      → StepTold (call.DropSent first anew) (reply.First last what) old new
  drop_step first last anew what old new fine step = on (may_renew first) step
    where
      by_table : (handed : PassOfTable) (next mid : HostFrontState) (dropped : Bool) → ((next.core).core).outbox ≡ [] → Renewed first handed old next → TableDoes next ask.DropSent (replied.DroppedSent dropped) mid → DropsBy {W = W} dropped handed mid (reply.First last what) new
          → StepTold (call.DropSent first anew) (reply.First last what) old new
      by_table handed next mid true empty r made (final, renewal, is, back) =
          let same_pass : final ≡ last = (let e : last ≡ final = cc back in sym e) in
          dropped_step first handed last anew what old next mid new empty r made (subst (λ (p : PassOfTable). Renews handed mid.table p new.table) same_pass renewal) is
      by_table handed next mid false empty r made did = let same_pass : last ≡ handed = cc did.0 in kept_step first handed last anew what old next mid new r made same_pass did.1

      unsent : (handed : PassOfTable) (next : HostFrontState) (o : List (List ℕ)) → ((next.core).core).outbox ≡ o → Renewed first handed old next → DropsUnsent {W = W} o handed next (reply.First last what) new → StepTold (call.DropSent first anew) (reply.First last what) old new
      unsent handed next (message ∷ others) e r did = let same_pass : last ≡ handed = cc did.0 in unsent_step first handed last anew what old next new r same_pass did.1
      unsent handed next [] e r (dropped, mid, made, did) = by_table handed next mid dropped e r made did

      on : (b : Bool) → MatchBool b (EndsSent {W = W} first anew old (reply.First last what) new) (HandsBack {W = W} first came.Refused (reply.First last what) old new) → StepTold (call.DropSent first anew) (reply.First last what) old new
      on false did = let refused : what ≡ came.Refused = cc did.0 in absurd (fine refused)
      on true (handed, next, renewal, did) = unsent handed next ((next.core).core).outbox refl (renewed_if anew first handed old next renewal) did

  -- ---- one call, and all

  step_told : (by : ℕ) (does : HostFrontCall W) (back : HostFrontReply W) (old new : HostFrontState) → IsMadeBy by does back → HostFrontStep old does back new → StepTold does back old new
  step_told by (call.Begin channel first) (reply.First last came.Done) old new made step = begin_step channel first last old new step
  step_told by (call.DropSent first anew) (reply.First last came.NotYet) old new made step = drop_step first last anew came.NotYet old new (λ e. cc e) step
  step_told by (call.DropSent first anew) (reply.First last came.Done) old new made step = drop_step first last anew came.Done old new (λ e. cc e) step
  step_told by (call.Hear channel message) back old new made step = hear_step channel message back old new made.2 step
  step_told by (call.DropChannel channel) back old new made step = end_step channel back old new step
  step_told by (call.Next channel room) back old new made step = next_step channel room back old new step
  step_told by does back old new made step = absurd made

  -- the moves of one call, the newest first
  moved_as : (x : ℕ) (does : HostFrontCall W) (back : HostFrontReply W) → moves_of (reverse (messages_by x does back)) (reverse (heard_by x does back)) ≡ reverse (moves_by x does back)
  moved_as x does back =
      ap (λ (l : List Move). l ++ map (λ m. move.reads m) (reverse (heard_by x does back))) (reversed_map (λ m. move.writes m) (messages_by x does back))
      ∙ (ap (λ (l : List Move). reverse (map (λ m. move.writes m) (messages_by x does back)) ++ l) (reversed_map (λ m. move.reads m) (heard_by x does back))
      ∙ sym (reverse-append (map (λ m. move.reads m) (heard_by x does back)) (map (λ m. move.writes m) (messages_by x does back))))

  -- What stands after a history, by more deeds than before.
  pub record ToldAlong (entries : List (HostEntry W)) (core : HostCoreState) (seen : List TableEntry) (open_on : Option ℕ) (deeds : List Deed) : Type 0 where
    pub more : List Deed
    pub stands : StandsAt core seen open_on (more ++ deeds)
    pub read : (c : ℕ) → host_read c more ≡ reverse (messages_heard c entries)
    pub written : (c : ℕ) → host_wrote c more ≡ reverse (messages_for c entries)
    pub moved : (c : ℕ) → host_moves c more ≡ reverse (moves_on c entries)
    pub sent : (c : ℕ) → AllByRecursion (λ (e : HostEntry W). IsNoDropOf c e.call e.reply) entries → SentIn c more deeds

  none_along : (core other : HostCoreState) (a c : List TableEntry) (open_on on_now : Option ℕ) (deeds : List Deed) → core ≡ other → c ≡ a → open_on ≡ on_now → StandsAt core a open_on deeds → ToldAlong [] other c on_now deeds
  none_along core other a c open_on on_now deeds same is on s = record {
    more = [];
    stands = told_as core other a a c open_on on_now deeds same (sym is) on s;
    read = λ x. refl;
    written = λ x. refl;
    moved = λ x. refl;
    sent = λ x none. tt;
  }

  one_along : (e : HostEntry W) (entries : List (HostEntry W)) (mid core : HostCoreState) (b c : List TableEntry) (open_on on_now : Option ℕ) (deeds : List Deed)
      → (one : Told (λ x. IsNoDropOf x e.call e.reply) mid b open_on (λ x. reverse (heard_by x e.call e.reply)) (λ x. reverse (messages_by x e.call e.reply)) deeds) → ToldAlong entries core c on_now (one.more ++ deeds) → ToldAlong (e ∷ entries) core c on_now deeds
  one_along e entries mid core b c open_on on_now deeds one rest = record {
    more = rest.more ++ one.more;
    stands = subst (StandsAt core c on_now) (sym (append_assoc rest.more one.more deeds)) rest.stands;
    read = λ x. read_more x rest.more one.more ∙ (ap (λ (l : List (List ℕ)). l ++ host_read x one.more) (rest.read x) ∙ (ap (λ (l : List (List ℕ)). reverse (messages_heard x entries) ++ l) (one.read x)
        ∙ sym (reverse-append (heard_by x e.call e.reply) (messages_heard x entries))));
    written = λ x. written_more x rest.more one.more ∙ (ap (λ (l : List (List ℕ)). l ++ host_wrote x one.more) (rest.written x) ∙ (ap (λ (l : List (List ℕ)). reverse (messages_for x entries) ++ l) (one.written x)
        ∙ sym (reverse-append (messages_by x e.call e.reply) (messages_for x entries))));
    moved = λ x. moved_more x rest.more one.more ∙ (ap (λ (l : List Move). l ++ host_moves x one.more) (rest.moved x) ∙ (ap (λ (l : List Move). reverse (moves_on x entries) ++ l) (one.moved x ∙ moved_as x e.call e.reply)
        ∙ sym (reverse-append (moves_by x e.call e.reply) (moves_on x entries))));
    sent = λ x none. sent_more x rest.more one.more deeds (rest.sent x none.1) (one.sent x none.0);
  }

  -- What a history tells.
  pub record HistoryTold (entries : List (HostEntry W)) (here there : HostFrontState) : Type 0 where
    pub parts : List (List TablePart)
    pub along : PartsAlong here.table entries parts there.table
    pub tells : (a c : List TableEntry) → SeenAlong a (all_parts parts) c → IsTableHistory c → AllByRecursion AsksInRange (asks_among c) → (deeds : List Deed) → StandsAt here.core a (channel_of here) deeds
        → ToldAlong entries there.core c (channel_of there) deeds

  pub history_told : (entries : List (HostEntry W)) (here there : HostFrontState) → AreHostsCalls entries → Leads HostFrontStep here entries there → HistoryTold entries here there
  history_told [] here there made is = record {
    parts = [];
    along = sym (ap table_of is);
    tells = λ a c seen legal fit deeds s. none_along here.core there.core a c (channel_of here) (channel_of there) deeds (ap core_of is) seen (ap channel_of is) s;
  }
  history_told (e ∷ entries) here there made (next, step, leads) =
      let one = step_told e.by e.call e.reply here next made.0 step in
      let rest = history_told entries next there made.1 leads in
      record {
        parts = one.parts ∷ rest.parts;
        along = (one.are, next.table, one.goes, rest.along);
        tells = λ a c seen legal fit deeds s.
            let (b, first, others) = seen_split one.parts (all_parts rest.parts) a c seen in
            let on = seen_prefix (all_parts rest.parts) b c others in
            let told = one.tells a b first (earlier_history b on.0 c (sym on.1) legal) (fit_in AsksInRange b on.0 c on.1 fit) deeds s in
            one_along e entries next.core there.core b c (channel_of next) (channel_of there) deeds told (rest.tells b c others legal fit (told.more ++ deeds) told.stands);
      }
