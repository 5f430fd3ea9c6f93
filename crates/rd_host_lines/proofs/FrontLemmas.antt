-- What the calls of a host's front make of its pass of the table, and of pass 0 that it is handed: which calls of the table they make.
use Rattle.std.proofs.Common.{◌≡◌, ◌∙◌, ◌⊎◌, inl, inr, refl, sym, ap, subst, ℕ, zero, suc, Bool, true, false, List, [], ◌∷◌, ◌++◌, append-nil, Option, Some, None, Result, Ok, Err}
use Rattle.std.specs.Prelude.{MatchBool}
use Rattle.rd_base.specs.declared.status.Status.{Status}
use Rattle.rd_base.specs.Statuses as status
use Rattle.rd_devices.specs.declared.list.Announce.{Announce}
use Rattle.rd_hello.specs.declared.end_fault.EndFault.{EndFault}
use Rattle.rd_hello.specs.declared.end_fault.EndFault.TheVariants as fault
use Rattle.rd_host.specs.declared.act.Act.{Act}
use Rattle.rd_host.specs.declared.act.Act.TheVariants as act
use Rattle.rd_host.specs.Core.{HostCoreState, HostStep, hears}
use Rattle.rd_host.specs.Served.{is_served_type}
use Rattle.rd_pending.specs.declared.calls.LiveNo.{LiveNo}
use Rattle.rd_pending.specs.declared.calls.LiveNo.TheVariants as live_no
use Rattle.rd_room.specs.Room.{MessageRoom}
use Rattle.rd_runs.proofs.FileNumbers.{BeginsInBytes, IsSafe}
use Rattle.rd_table.specs.declared.calls.PendingCall.{PendingCall}
use Rattle.rd_table.specs.declared.calls.PendingCall.TheVariants as table
use Rattle.rd_table.specs.declared.calls.PendingReply.{PendingReply}
use Rattle.rd_table.specs.declared.calls.PendingReply.TheVariants as replied
use Rattle.rd_turn.specs.declared.object.Entry.{Entry}
use Rattle.rd_turn.specs.History.{calls_of, entry}
use Rattle.rd_turn.proofs.HistoryLemmas.{Called-own}
use Rattle.rd_deeds.proofs.Hearings.{Heard, heard}
use Rattle.rd_host_front.specs.declared.calls.Came.{Came}
use Rattle.rd_host_front.specs.declared.calls.Came.TheVariants as came
use Rattle.rd_host_front.specs.declared.calls.HostFrontCall.{HostFrontCall}
use Rattle.rd_host_front.specs.declared.calls.HostFrontCall.TheVariants as call
use Rattle.rd_host_front.specs.declared.calls.HostFrontReply.{HostFrontReply}
use Rattle.rd_host_front.specs.declared.calls.HostFrontReply.TheVariants as reply
use Rattle.rd_host_front.specs.declared.calls.Stop.{Stop}
use Rattle.rd_host_front.specs.HostFront.{Admits, AdmitsAll, AdmitsBy, BeginsChannel, BeginsIfFound, BeginsLife, DropsBy, DropsUnsent, EndsChannel, EndsSent, FillsAfter, FillsRoom, Follows, FollowsAnswer, ForgetsAll, GivesAfter, HandsBack, HandsOver, HearsMessage, HostFrontStep, OnFound, RenewsIf, RepliesToDevice, TableDoes, has_many_unsent, is_channel_on, life_code, may_begin_on, may_renew, began_as, has_begun}
use Rattle.rd_host_front.specs.State.{FrontPassState, HostFrontState, PassOfTable, Renews, RenewsBy}
use Rattle.rd_host_turns.specs.Turns.{TableEntry}
use Rattle.rd_host_turns.proofs.CountLemmas.{all_both}
use Rattle.rd_host_lines.specs.Places.{drop_call}
use Rattle.rd_host_lines.proofs.PassLemmas.{AreSuch, Drops, Ends, OwnAre, Replaces, WithTries, all_as, fresh_are, made_by, renews_by_replaced, renews_replaced}

-- a call of the table that no application makes; a completion begins in bytes
abbrev pub IsFronts : PendingCall → Type 0
IsFronts (table.Submit application named op) = ⊥
IsFronts (table.Take number) = ⊥
IsFronts (table.Complete head body) = BeginsInBytes body
IsFronts _ = Unit {0}

module _ {W : Type 0} where
  -- a message that is to be heard is one that a completion is safe in
  abbrev pub HearsSafe : HostFrontCall W → Type 0
  HearsSafe (call.Hear channel message) = IsSafe message
  HearsSafe _ = Unit {0}

  -- a call of the front that pass 0 of the table isn't handed with
  abbrev pub IsOther : HostFrontCall W → Type 0
  IsOther (call.Begin channel first) = ⊥
  IsOther (call.DropSent first anew) = ⊥
  IsOther _ = Unit {0}

-- a call of the table by the front's pass for a message that is heard or is to be written, and where a channel ends by its peer
abbrev pub IsPlain : PendingCall → Type 0
IsPlain (table.Live device) = Unit {0}
IsPlain table.Outbox = Unit {0}
IsPlain (table.Complete head body) = BeginsInBytes body
IsPlain (table.Remove device) = Unit {0}
IsPlain table.DropChannel = Unit {0}
IsPlain _ = ⊥

pub plain_fronts : (does : PendingCall) → IsPlain does → IsFronts does
plain_fronts (table.Live device) is = tt
plain_fronts table.Outbox is = tt
plain_fronts (table.Complete head body) is = is
plain_fronts (table.Remove device) is = tt
plain_fronts table.DropChannel is = tt
plain_fronts _ is = absurd is

module _ (P : TableEntry → Type 0) where
  -- What a call that begins a channel makes of pass 0, and of the front's pass by its number, where that isn't one that tries to end a channel.
  abbrev pub Began : Came → Bool → ℕ → ℕ → PassOfTable → PassOfTable → Bool → ℕ → Type 0
  Began came.Done false channel f p q c g = (c ≡ false) × (p.number ≡ 0 → Replaces P ((table.Begin channel, replied.Begun true) ∷ []) [] p f q g)
  Began _ _ channel f p q c g = Unit {0}

  -- What a try to end a channel makes of them, the first one of a line or a later one; and whether the front's pass is one that tries, before and after.
  abbrev pub Tries : Bool → Came → Bool → ℕ → PassOfTable → PassOfTable → Bool → ℕ → Type 0
  Tries true came.NotYet false f p q c g = (c ≡ true) × (p.number ≡ 0 → Replaces P [] [] p f q g)
  Tries true came.Done false f p q c g = (c ≡ false) × (p.number ≡ 0 → Ends P p f q g)
  Tries false came.NotYet true f p q c g = (c ≡ true) × (g ≡ f) × (q ≡ p)
  Tries false came.Done true f p q c g = (c ≡ false) × (p.number ≡ 0 → Drops P p f q g)
  Tries _ _ _ f p q c g = Unit {0}

module _ (P : TableEntry → Type 0) {W : Type 0} where
  -- What a call makes of them. All others leave them as they are.
  abbrev pub Hop : Bool → ℕ → HostFrontCall W → HostFrontReply W → Bool → ℕ → Type 0
  Hop b f (call.Begin channel first) (reply.First last what) c g = Began P what b channel f first last c g
  Hop b f (call.DropSent first anew) (reply.First last what) c g = Tries P anew what b f first last c g
  Hop b f _ _ c g = (c ≡ b) × (g ≡ f)

  -- the same of calls, one after the other
  abbrev pub Hops : Bool → ℕ → List (Entry (HostFrontCall W) (HostFrontReply W)) → Bool → ℕ → Type 0
  Hops b f [] c g = (c ≡ b) × (g ≡ f)
  Hops b f (e ∷ es) c g = (d : Bool) × (h : ℕ) × Hop b f e.call e.reply d h × Hops d h es c g

  pub hops_parted : (b : Bool) (f : ℕ) (c : Bool) (g : ℕ) (xs ys : List (Entry (HostFrontCall W) (HostFrontReply W))) → Hops b f (xs ++ ys) c g
      → (d : Bool) × (h : ℕ) × Hops b f xs d h × Hops d h ys c g
  hops_parted b f c g [] ys hops = (b, f, (refl, refl), hops)
  hops_parted b f c g (e ∷ xs) ys (d, h, hop, hops) = let rest = hops_parted d h c g xs ys hops in (rest.0, rest.1, (d, h, hop, rest.2), rest.3)

-- what an answer to a message that was heard asks for
abbrev AsksSafe : Result Act EndFault → Type 0
AsksSafe (Ok (act.Complete head body)) = BeginsInBytes body
AsksSafe _ = Unit {0}

answers_safe : (old new : HostCoreState) (message : List ℕ) (answer : Result Act EndFault) → IsSafe message → HostStep old (hears message answer) new → AsksSafe answer
answers_safe old new message (Err cause) safe step = tt
answers_safe old new message (Ok act.Nothing) safe step = tt
answers_safe old new message (Ok (act.Announced devices)) safe step = tt
answers_safe old new message (Ok (act.Removed ids)) safe step = tt
answers_safe old new message (Ok (act.Complete head body)) safe step =
    let h = subst (Heard old message) step (heard old message) in
    subst BeginsInBytes (sym h.6) (safe head h.4 h.5)

module _ (P : TableEntry → Type 0) (such : (by : ℕ) (does : PendingCall) (back : PendingReply) → IsPlain does → P (entry by does back)) where
  abbrev number_of : HostFrontState → ℕ
  number_of s = ((s.table).pass).number

  -- ---- the front's pass

  -- The front's pass is the same one, and its own calls are such ones still.
  pub record Keeps (old new : HostFrontState) : Type 0 where
    pub number : ((new.table).pass).number ≡ ((old.table).pass).number
    pub own : OwnAre P old.table → OwnAre P new.table

  by_table : (old new : HostFrontState) → new.table ≡ old.table → Keeps old new
  by_table old new is = record { number = ap (λ (f : FrontPassState). (f.pass).number) is; own = λ own. subst (OwnAre P) (sym is) own }

  same : (old new : HostFrontState) → new ≡ old → Keeps old new
  same old new is = by_table old new (ap (λ (s : HostFrontState). s.table) is)

  joins : (a b c : HostFrontState) → Keeps a b → Keeps b c → Keeps a c
  joins a b c one other = record { number = other.number ∙ one.number; own = λ own. other.own (one.own own) }

  calls_by : (old new : HostFrontState) (does : PendingCall) (back : PendingReply) → IsPlain does → TableDoes old does back new → Keeps old new
  calls_by old new does back fronts did =
      let calls = (did.0).calls in
      let number = (calls.same).0 in
      record {
        number = number;
        own = λ own. subst (λ (n : ℕ). AreSuch P (calls_of n ((new.table).pass).seen)) (sym number)
            (subst (AreSuch P) (sym (Called-own (old.table).pass (new.table).pass does back calls.called))
            (all_both P (calls_of ((old.table).pass).number ((old.table).pass).seen) (entry ((old.table).pass).number does back ∷ []) own (such ((old.table).pass).number does back fronts, tt)));
      }

  either : (b : Bool) (A B : Type 0) (old new : HostFrontState) → (A → Keeps old new) → (B → Keeps old new) → MatchBool b A B → Keeps old new
  either true A B old new one other did = one did
  either false A B old new one other did = other did

  found_on : (went found : Bool) (old new : HostFrontState) (does : Type 0) → (does → Keeps old new) → OnFound went found old new does → Keeps old new
  found_on true found old new does on did = on did
  found_on false found old new does on did = same old new did.1

  replies_by : (old new : HostFrontState) (device : ℕ) (code : Status) (found : Bool) → RepliesToDevice old device code found new → Keeps old new
  replies_by old new device code found did = by_table old new (ap (λ (s : HostFrontState). s.table) did.1.1)

  admits_by : (old : HostFrontState) (device : ℕ) (life : Result ℕ LiveNo) (found : Bool) (new : HostFrontState) → AdmitsBy old device life found new → Keeps old new
  admits_by old device (Err live_no.Memory) found new did = same old new did.1
  admits_by old device (Ok life) found new did = replies_by old new device (life_code (Ok life)) found did
  admits_by old device (Err live_no.NoChannel) found new did = replies_by old new device (life_code (Err live_no.NoChannel)) found did
  admits_by old device (Err live_no.Already) found new did = replies_by old new device (life_code (Err live_no.Already)) found did
  admits_by old device (Err live_no.Full) found new did = replies_by old new device (life_code (Err live_no.Full)) found did
  admits_by old device (Err (live_no.Worn count)) found new did = replies_by old new device (life_code (Err (live_no.Worn count))) found did

  admits : (a : Announce) (old : HostFrontState) (found : Bool) (new : HostFrontState) → Admits old a found new → Keeps old new
  admits a old found new did = either (is_served_type a.kind) _ _ old new
      (λ (d : BeginsLife old a.id found new). joins old d.1 new (calls_by old d.1 (table.Live a.id) _ tt d.2) (admits_by d.1 a.id d.0 found new d.3))
      (λ (d : RepliesToDevice old a.id status.not_supported found new). replies_by old new a.id status.not_supported found d) did

  admits_all : (devices : List Announce) (old : HostFrontState) (found : Bool) (new : HostFrontState) → AdmitsAll devices old found new → Keeps old new
  admits_all [] old found new did = same old new did.1
  admits_all (a ∷ devices) old found new did =
      joins old did.1 new (admits a old did.0 did.1 did.2) (found_on did.0 found did.1 new _ (admits_all devices did.1 found new) did.3)

  forgets_all : (ids : List ℕ) (old new : HostFrontState) → ForgetsAll ids old new → Keeps old new
  forgets_all [] old new did = same old new did
  forgets_all (id ∷ ids) old new did = joins old did.0 new (calls_by old did.0 (table.Remove id) _ tt did.1.1) (forgets_all ids did.0 new did.2)

  gives_after : (old : HostFrontState) (sent given : Option (List ℕ)) (new : HostFrontState) → GivesAfter old sent given new → Keeps old new
  gives_after old (Some message) given new did = same old new did.1
  gives_after old None given new did = calls_by old new table.Outbox _ tt did

  fills_after : (given : Option (List ℕ)) (old : HostFrontState) (messages : List (List ℕ)) (why : Stop) (new : HostFrontState) (others : List (List ℕ) → Type 0)
      → ((later : List (List ℕ)) → others later → Keeps old new) → FillsAfter given old messages why new others → Keeps old new
  fills_after (Some message) old messages why new others on did = on did.0 did.2
  fills_after None old messages why new others on did = same old new did.2

  fills : (most : ℕ) (old : HostFrontState) (messages : List (List ℕ)) (why : Stop) (new : HostFrontState) → FillsRoom most old messages why new → Keeps old new
  fills zero old messages why new did = same old new did.2
  fills (suc most) old messages why new did =
      joins old did.1 new (joins old did.2.1 did.1 (by_table old did.2.1 (ap (λ (s : HostFrontState). s.table) did.2.2.1)) (gives_after did.2.1 did.2.0 did.0 did.1 did.2.3))
      (fills_after did.0 did.1 messages why new (λ later. FillsRoom most did.1 later why new) (λ later. fills most did.1 later why new) did.3)

  module _ {W : Type 0} where
    follows : (old : HostFrontState) (a : Act) (back : HostFrontReply W) (new : HostFrontState) → AsksSafe (Ok a) → Follows old a back new → Keeps old new
    follows old act.Nothing back new safe did = same old new did.1
    follows old (act.Complete head body) back new safe did = calls_by old new (table.Complete head body) _ safe did.1
    follows old (act.Announced devices) back new safe did = admits_all devices old did.0 new did.1
    follows old (act.Removed ids) back new safe did = forgets_all ids old new did.0

    follows_answer : (old : HostFrontState) (answer : Result Act EndFault) (back : HostFrontReply W) (new : HostFrontState) → AsksSafe answer → FollowsAnswer old answer back new → Keeps old new
    follows_answer old (Ok asks) back new safe did = follows old asks back new safe did
    follows_answer old (Err fault.Memory) back new safe did = same old new did.1
    follows_answer old (Err (fault.Order state packet)) back new safe did = same old new did.1
    follows_answer old (Err (fault.Grammar bad)) back new safe did = same old new did.1

    hands : (old : HostFrontState) (room : MessageRoom) (back : HostFrontReply W) (new : HostFrontState) → HandsOver old room back new → Keeps old new
    hands old room (reply.Messages filled why) new did = fills room.places old filled.messages why new did.1
    hands old room _ new did = absurd did

    hears_message : (old : HostFrontState) (message : List ℕ) (back : HostFrontReply W) (new : HostFrontState) → IsSafe message → HearsMessage old message back new → Keeps old new
    hears_message old message back new safe (answer, next, core, did) =
        joins old next new (by_table old next (ap (λ (s : HostFrontState). s.table) core.1)) (follows_answer next answer back new (answers_safe old.core next.core message answer safe core.0) did)

    -- a call that pass 0 isn't handed with
    pub other_keeps : (old : HostFrontState) (does : HostFrontCall W) (back : HostFrontReply W) (new : HostFrontState) → IsOther does → HearsSafe does → HostFrontStep old does back new → Keeps old new
    other_keeps old (call.Begin channel first) back new other safe did = absurd other
    other_keeps old (call.DropSent first anew) back new other safe did = absurd other
    other_keeps old (call.Hear channel message) back new other safe did = either (is_channel_on old channel) _ _ old new
        (λ d. either (has_many_unsent old) _ _ old new (λ e. same old new e.1) (λ (e : HearsMessage old message back new). hears_message old message back new safe e) d)
        (λ d. same old new d.1) did
    other_keeps old (call.Next channel room) back new other safe did = either (is_channel_on old channel) _ _ old new (hands old room back new) (λ d. same old new d.1) did
    other_keeps old (call.DropChannel channel) back new other safe did = either (is_channel_on old channel) _ _ old new
        (λ (d : EndsChannel old back new). joins old d.0 new (calls_by old d.0 table.DropChannel _ tt d.1) (by_table d.0 new (ap (λ (s : HostFrontState). s.table) d.2))) (λ d. same old new d.1) did

-- ---- pass 0

module _ (P : TableEntry → Type 0) (such : (by : ℕ) (does : PendingCall) (back : PendingReply) → IsPlain does → P (entry by does back)) where
  -- the own calls of the front's pass are such ones; and also tries, where it is one that tries to end a channel
  abbrev pub OwnBy : Bool → FrontPassState → Type 0
  OwnBy false s = OwnAre P s
  OwnBy true s = OwnAre (WithTries P) s

  plain_tries : (by : ℕ) (does : PendingCall) (back : PendingReply) → IsPlain does → WithTries P (entry by does back)
  plain_tries by does back is = inl (such by does back is)

  own_tries : (b : Bool) (s : FrontPassState) → OwnBy b s → OwnAre (WithTries P) s
  own_tries true s own = own
  own_tries false s own = all_as P (WithTries P) (λ e is. inl is) (calls_of (s.pass).number (s.pass).seen) own

  own_same : (b : Bool) (s t : FrontPassState) → t ≡ s → OwnBy b s → OwnBy b t
  own_same b s t is own = subst (OwnBy b) (sym is) own

  begun_hop : (b : Bool) (channel f : ℕ) (first last : PassOfTable) (new : FrontPassState) (old : FrontPassState) (answer : PendingReply) → OwnBy b old → (old.pass).number ≡ f
      → RenewsBy (table.Begin channel) answer first old last new → Began P (began_as (has_begun answer)) b channel f first last false (new.pass).number
  begun_hop false channel f first last new old (replied.Begun true) own number renews = (
    refl,
    λ zero. subst (λ (n : ℕ). Replaces P ((table.Begin channel, replied.Begun true) ∷ []) [] first n last (new.pass).number) number
        (renews_by_replaced P (table.Begin channel) (replied.Begun true) first last old new renews own zero),
  )
  begun_hop true channel f first last new old (replied.Begun true) own number renews = tt
  begun_hop b channel f first last new old (replied.Begun false) own number renews = tt
  begun_hop b channel f first last new old _ own number renews = tt

module _ (P : TableEntry → Type 0) (such : (by : ℕ) (does : PendingCall) (back : PendingReply) → IsPlain does → P (entry by does back)) {W : Type 0} where
  -- What a call comes to: whether the front's pass is one that tries afterwards, what it called, and what became of pass 0.
  pub record Comes (b : Bool) (old : HostFrontState) (does : HostFrontCall W) (back : HostFrontReply W) (new : HostFrontState) : Type 0 where
    pub tries : Bool
    pub own : OwnBy P such tries new.table
    pub hop : Hop P b ((old.table).pass).number does back tries ((new.table).pass).number

  -- a call that pass 0 isn't handed with
  pub other_by : (b : Bool) (old : HostFrontState) (does : HostFrontCall W) (back : HostFrontReply W) (new : HostFrontState) → IsOther does → HearsSafe does → HostFrontStep old does back new → OwnBy P such b old.table
      → OwnBy P such b new.table × (((new.table).pass).number ≡ ((old.table).pass).number)
  other_by false old does back new other safe did own = let k = other_keeps P such old does back new other safe did in (k.own own, k.number)
  other_by true old does back new other safe did own = let k = other_keeps (WithTries P) (plain_tries P such) old does back new other safe did in (k.own own, k.number)

  -- ---- tries

  -- The channel can't end yet; or it ended.
  pub record HasTried (first : PassOfTable) (old : HostFrontState) (back : HostFrontReply W) (new : HostFrontState) : Type 0 where
    pub is : back ≡ reply.First first came.NotYet
    pub number : ((new.table).pass).number ≡ ((old.table).pass).number
    pub own : OwnAre (WithTries P) new.table

  pub record HasDropped (first : PassOfTable) (old : HostFrontState) (back : HostFrontReply W) (new : HostFrontState) : Type 0 where
    pub last : PassOfTable
    pub is : back ≡ reply.First last came.Done
    pub own : OwnAre P new.table
    pub drops : first.number ≡ 0 → Drops P first ((old.table).pass).number last ((new.table).pass).number

  not_yet : (first : PassOfTable) (old : HostFrontState) (back : HostFrontReply W) (new : HostFrontState) → OwnAre (WithTries P) old.table → HandsBack first came.NotYet back old new → HasTried first old back new
  not_yet first old back new own (is, same) = record {
    is = is;
    number = ap (λ (s : HostFrontState). ((s.table).pass).number) same;
    own = subst (λ (s : HostFrontState). OwnAre (WithTries P) s.table) (sym same) own;
  }

  drops_by : (dropped : Bool) (first : PassOfTable) (old next : HostFrontState) (back : HostFrontReply W) (new : HostFrontState) → OwnAre (WithTries P) old.table
      → TableDoes old table.DropSent (replied.DroppedSent dropped) next → DropsBy dropped first next back new → HasTried first old back new ⊎ HasDropped first old back new
  drops_by dropped first old next back new own did by = on dropped did by
    where
      k : ℕ
      k = ((old.table).pass).number

      on : (dropped : Bool) → TableDoes old table.DropSent (replied.DroppedSent dropped) next → DropsBy dropped first next back new → HasTried first old back new ⊎ HasDropped first old back new
      on dropped did by =
          let calls = (did.0).calls in
          let number : ((next.table).pass).number ≡ k = (calls.same).0 in
          let made : calls_of k ((next.table).pass).seen ≡ calls_of k ((old.table).pass).seen ++ entry k table.DropSent (replied.DroppedSent dropped) ∷ [] =
          Called-own (old.table).pass (next.table).pass table.DropSent (replied.DroppedSent dropped) calls.called in
          told dropped number made by
        where
          told : (dropped : Bool) → ((next.table).pass).number ≡ k → calls_of k ((next.table).pass).seen ≡ calls_of k ((old.table).pass).seen ++ entry k table.DropSent (replied.DroppedSent dropped) ∷ []
              → DropsBy dropped first next back new → HasTried first old back new ⊎ HasDropped first old back new
          told false number made by =
              let own_next : OwnAre (WithTries P) next.table = subst (λ (n : ℕ). AreSuch (WithTries P) (calls_of n ((next.table).pass).seen)) (sym number)
              (subst (AreSuch (WithTries P)) (sym made) (all_both (WithTries P) (calls_of k ((old.table).pass).seen) (entry k table.DropSent (replied.DroppedSent false) ∷ []) own (inr (refl, refl), tt))) in
              let t = not_yet first next back new own_next by in
              inl (record { is = t.is; number = t.number ∙ number; own = t.own })
          told true number made (last, renews, is, said) = inr (record {
            last = last;
            is = said;
            own = fresh_are P new.table renews.fresh;
            drops = λ zero.
                subst (λ (n : ℕ). Drops P first n last ((new.table).pass).number) number
                (renews_replaced (WithTries P) (drop_call true ∷ []) (calls_of k ((old.table).pass).seen) first last next.table new.table renews
                (subst (λ (n : ℕ). calls_of n ((next.table).pass).seen ≡ calls_of k ((old.table).pass).seen ++ made_by n (drop_call true ∷ [])) (sym number) made) own zero);
          })

  drops_unsent : (outbox : List (List ℕ)) (first : PassOfTable) (old : HostFrontState) (back : HostFrontReply W) (new : HostFrontState) → OwnAre (WithTries P) old.table
      → DropsUnsent outbox first old back new → HasTried first old back new ⊎ HasDropped first old back new
  drops_unsent (message ∷ others) first old back new own did = inl (not_yet first old back new own did)
  drops_unsent [] first old back new own (dropped, next, does, did) = drops_by dropped first old next back new own does did

  -- what the first try of a line comes to, and what a later one does
  anew_comes : (b : Bool) (first given : PassOfTable) (old mid : HostFrontState) (back : HostFrontReply W) (new : HostFrontState) → OwnBy P such b old.table
      → Renews first old.table given mid.table → HasTried given mid back new ⊎ HasDropped given mid back new → Comes b old (call.DropSent first true) back new
  anew_comes true first given old mid back new own renews (inl t) =
      record { tries = true; own = t.own; hop = subst (λ (r : HostFrontReply W). Hop P true ((old.table).pass).number (call.DropSent first true) r true ((new.table).pass).number) (sym t.is) tt }
  anew_comes true first given old mid back new own renews (inr t) =
      record { tries = false; own = t.own; hop = subst (λ (r : HostFrontReply W). Hop P true ((old.table).pass).number (call.DropSent first true) r false ((new.table).pass).number) (sym t.is) tt }
  anew_comes false first given old mid back new own renews (inl t) = record {
    tries = true;
    own = t.own;
    hop = subst (λ (r : HostFrontReply W). Hop P false ((old.table).pass).number (call.DropSent first true) r true ((new.table).pass).number) (sym t.is) (
      refl,
      λ zero. subst (λ (n : ℕ). Replaces P [] [] first ((old.table).pass).number given n) (sym t.number)
          (renews_replaced P [] (calls_of ((old.table).pass).number ((old.table).pass).seen) first given old.table mid.table renews (sym (append-nil (calls_of ((old.table).pass).number ((old.table).pass).seen))) own zero),
    );
  }
  anew_comes false first given old mid back new own renews (inr t) = record {
    tries = false;
    own = t.own;
    hop = subst (λ (r : HostFrontReply W). Hop P false ((old.table).pass).number (call.DropSent first true) r false ((new.table).pass).number) (sym t.is) (
      refl,
      λ zero.
          let r = renews_replaced P [] (calls_of ((old.table).pass).number ((old.table).pass).seen) first given old.table mid.table renews (sym (append-nil (calls_of ((old.table).pass).number ((old.table).pass).seen))) own zero in
          (given, ((mid.table).pass).number, r, t.drops (r.stays).number),
    );
  }

  later_comes : (b : Bool) (first : PassOfTable) (old : HostFrontState) (back : HostFrontReply W) (new : HostFrontState) → HasTried first old back new ⊎ HasDropped first old back new
      → Comes b old (call.DropSent first false) back new
  later_comes true first old back new (inl t) = record {
    tries = true;
    own = t.own;
    hop = subst (λ (r : HostFrontReply W). Hop P true ((old.table).pass).number (call.DropSent first false) r true ((new.table).pass).number) (sym t.is) (refl, t.number, refl);
  }
  later_comes true first old back new (inr t) = record {
    tries = false;
    own = t.own;
    hop = subst (λ (r : HostFrontReply W). Hop P true ((old.table).pass).number (call.DropSent first false) r false ((new.table).pass).number) (sym t.is) (refl, t.drops);
  }
  later_comes false first old back new (inl t) =
      record { tries = true; own = t.own; hop = subst (λ (r : HostFrontReply W). Hop P false ((old.table).pass).number (call.DropSent first false) r true ((new.table).pass).number) (sym t.is) tt }
  later_comes false first old back new (inr t) =
      record { tries = false; own = t.own; hop = subst (λ (r : HostFrontReply W). Hop P false ((old.table).pass).number (call.DropSent first false) r false ((new.table).pass).number) (sym t.is) tt }

  refused_comes : (b anew : Bool) (first : PassOfTable) (old : HostFrontState) (back : HostFrontReply W) (new : HostFrontState) → OwnBy P such b old.table → HandsBack first came.Refused back old new
      → Comes b old (call.DropSent first anew) back new
  refused_comes b anew first old back new own (is, same) = record {
    tries = b;
    own = own_same P such b old.table new.table (ap (λ (s : HostFrontState). s.table) same) own;
    hop = subst (λ (r : HostFrontReply W). Hop P b ((old.table).pass).number (call.DropSent first anew) r b ((new.table).pass).number) (sym is) (on b anew);
  }
    where
      on : (b anew : Bool) → Tries P anew came.Refused b ((old.table).pass).number first first b ((new.table).pass).number
      on true true = tt
      on true false = tt
      on false true = tt
      on false false = tt

  drops_sent : (b : Bool) (first : PassOfTable) (anew : Bool) (old : HostFrontState) (back : HostFrontReply W) (new : HostFrontState) → HostFrontStep old (call.DropSent first anew) back new → OwnBy P such b old.table
      → Comes b old (call.DropSent first anew) back new
  drops_sent b first anew old back new did own = on (may_renew first) did
    where
      ends : (anew : Bool) (given : PassOfTable) (mid : HostFrontState) → RenewsIf anew first old given mid → DropsUnsent ((mid.core).core).outbox given mid back new → Comes b old (call.DropSent first anew) back new
      ends true given mid (renews, is) drops =
          anew_comes b first given old mid back new own renews (drops_unsent ((mid.core).core).outbox given mid back new (fresh_are (WithTries P) mid.table renews.fresh) drops)
      ends false given mid (is, same) drops =
          later_comes b first old back new
          (subst (λ (s : HostFrontState). HasTried first s back new ⊎ HasDropped first s back new) same
          (subst (λ (x : PassOfTable). HasTried x mid back new ⊎ HasDropped x mid back new) is
          (drops_unsent ((mid.core).core).outbox given mid back new (subst (λ (s : HostFrontState). OwnAre (WithTries P) s.table) (sym same) (own_tries P such b old.table own)) drops)))

      on : (may : Bool) → MatchBool may (EndsSent first anew old back new) (HandsBack first came.Refused back old new) → Comes b old (call.DropSent first anew) back new
      on true (given, mid, renews, drops) = ends anew given mid renews drops
      on false d = refused_comes b anew first old back new own d

  -- ---- a channel begins

  begins : (b : Bool) (channel : ℕ) (first : PassOfTable) (old : HostFrontState) (back : HostFrontReply W) (new : HostFrontState) → HostFrontStep old (call.Begin channel first) back new → OwnBy P such b old.table
      → Comes b old (call.Begin channel first) back new
  begins b channel first old back new did own = on (may_begin_on old channel first) did
    where
      stays : (what : Came) → Began P what b channel ((old.table).pass).number first first b ((new.table).pass).number → (next : HostFrontState) → next.table ≡ old.table → HandsBack first what back next new
          → Comes b old (call.Begin channel first) back new
      stays what hop next same (is, so) = record {
        tries = b;
        own = own_same P such b old.table new.table (ap (λ (s : HostFrontState). s.table) so ∙ same) own;
        hop = subst (λ (r : HostFrontReply W). Hop P b ((old.table).pass).number (call.Begin channel first) r b ((new.table).pass).number) (sym is) hop;
      }

      begun : (found : Bool) (next : HostFrontState) → next.table ≡ old.table → BeginsIfFound found next channel first back new → Comes b old (call.Begin channel first) back new
      begun true next same (answer, last, renews, is, said) = record {
        tries = false;
        own = fresh_are P new.table renews.fresh;
        hop = subst (λ (r : HostFrontReply W). Hop P b ((old.table).pass).number (call.Begin channel first) r false ((new.table).pass).number) (sym said)
            (begun_hop P such b channel ((old.table).pass).number first last new.table next.table answer (own_same P such b old.table next.table same own) (ap (λ (s : FrontPassState). (s.pass).number) same) renews);
      }
      begun false next same d = stays came.Memory tt next same d

      on : (may : Bool) → MatchBool may (BeginsChannel old channel first back new) (HandsBack first came.Refused back old new) → Comes b old (call.Begin channel first) back new
      on true (answer, next, step, is, d) = begun _ next (ap (λ (s : HostFrontState). s.table) is) d
      on false d = stays came.Refused tt old refl d

  -- what a call makes of the front's pass, and of pass 0 where it is handed that
  pub one_hop : (b : Bool) (old : HostFrontState) (does : HostFrontCall W) (back : HostFrontReply W) (new : HostFrontState) → HearsSafe does → HostFrontStep old does back new → OwnBy P such b old.table → Comes b old does back new
  one_hop b old (call.Begin channel first) back new safe did own = begins b channel first old back new did own
  one_hop b old (call.DropSent first anew) back new safe did own = drops_sent b first anew old back new did own
  one_hop b old (call.Hear channel message) back new safe did own = let k = other_by b old (call.Hear channel message) back new tt safe did own in record { tries = b; own = k.0; hop = (refl, k.1) }
  one_hop b old (call.Next channel room) back new safe did own = let k = other_by b old (call.Next channel room) back new tt safe did own in record { tries = b; own = k.0; hop = (refl, k.1) }
  one_hop b old (call.DropChannel channel) back new safe did own = let k = other_by b old (call.DropChannel channel) back new tt safe did own in record { tries = b; own = k.0; hop = (refl, k.1) }
