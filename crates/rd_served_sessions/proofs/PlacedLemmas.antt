-- Each call of a history stands with what it did: a call's deeds stand together, behind those of the calls before it.
use Rattle.std.proofs.Common.{◌≡◌, ◌∙◌, refl, sym, ap, subst, inr, ℕ, Bool, true, false, List, [], ◌∷◌, reverse, append-nil, arith}
use Rattle.std.specs.Prelude.{filter_map}
use Rattle.std.specs.List.{AllByRecursion}
use Rattle.std.proofs.lemmas.List.{reverse-reverse}
use Rattle.rd_base.specs.declared.journal.Item.TheVariants.{Came}
use Rattle.rd_base.specs.declared.journal.Key.{Key}
use Rattle.rd_devices.specs.declared.list.Announce.{Announce}
use Rattle.rd_front.specs.Calls.{FrontEntry}
use Rattle.rd_front.specs.Front.{FrontStep}
use Rattle.rd_front.specs.State.{DeviceDeskState, SessionStation}
use Rattle.rd_front.specs.declared.calls.FrontCall.{FrontCall}
use Rattle.rd_front.specs.declared.calls.FrontCall.TheVariants as call
use Rattle.rd_front.specs.declared.calls.FrontReply.{FrontReply}
use Rattle.rd_front.specs.declared.calls.FrontReply.TheVariants as reply
use Rattle.rd_deeds.specs.Talk.{Deed, Has, client_read, client_wrote, stores}
use Rattle.rd_workers.proofs.RunLemmas.{DoesSurely}
use Rattle.rd_workers.specs.Logs.{given_by, messages_by}
use Rattle.rd_served_causes.proofs.ServedCauseLemmas.{new_at}
use Rattle.rd_served_causes.proofs.ServedStandingLemmas.{begins_known}
use Rattle.rd_served_causes.specs.ServedDeeds.{EachOnChannel, PartsOnChannel, deeds_after}
use Rattle.rd_served_causes.specs.ServedHistories.{CallGoes, HistoryGoes, StartsBy, may_start}
use Rattle.rd_served_causes.specs.ServedParts.{FrontPart, act_told, heard_in}
use Rattle.rd_served_causes.specs.ServedServed.{Served}
use Rattle.rd_served_causes.proofs.ServedOrderOwnLemmas.{begins_own}
use Rattle.rd_served_causes.specs.ServedOrderOrders.{BeginsWith}
use Rattle.rd_served_causes.specs.ServedRefusalsHeeding.{hindered_by}
use Rattle.rd_served_causes.specs.Open.{IsDeskAt}
use Rattle.rd_served_sessions.proofs.ActLemmas.{parts_act, told_done}
use Rattle.rd_served_sessions.proofs.CallLemmas.{on_channel}
use Rattle.rd_served_sessions.proofs.ChainLemmas.{call_wrote, parts_read, surely_heard}
use Rattle.rd_served_sessions.proofs.LookLemmas.{IsCounted, LookUnhindered, call_counted, call_looks}
use Rattle.rd_served_sessions.proofs.RemovalLemmas.{AreLiveTold, HasCut, IsPoint, call_cuts}
use Rattle.rd_served_sessions.proofs.StillLemmas.{begun_to, tracks}
use Rattle.rd_served_sessions.proofs.StoredLemmas.{deeds_split, groups_of}
use Rattle.rd_served_sessions.proofs.UnderLemmas.{IsLast, came_on, idle_none, none_came}
use Rattle.rd_served_sessions.specs.Acts.{act_done}
use Rattle.rd_served_sessions.specs.Placed.{AreDoneBy, IsDoneBy, begun_after}
use Rattle.rd_served_sessions.specs.Steps.{AreSteps}

-- ---- the channel that began last

begun_same : (now : ℕ) (does : FrontCall) (back : FrontReply) → begun_to now does back ≡ begun_after now does back
begun_same now (call.Begin channel) (reply.Done at full) = refl
begun_same now (call.Begin channel) (reply.Stands ready asked) = refl
begun_same now (call.Begin channel) reply.Kept = refl
begun_same now (call.Begin channel) (reply.Wrong cause) = refl
begun_same now (call.Begin channel) (reply.Duplicate key) = refl
begun_same now (call.Begin channel) reply.Unfit = refl
begun_same now (call.Begin channel) reply.Memory = refl
begun_same now (call.Begin channel) reply.Full = refl
begun_same now (call.Begin channel) reply.Refused = refl
begun_same now (call.Begin channel) (reply.Messages filled left) = refl
begun_same now (call.Hear message) back = refl
begun_same now call.Retry back = refl
begun_same now (call.Next channel place room) back = refl
begun_same now (call.Remove device) back = refl
begun_same now (call.Add device) back = refl
begun_same now call.Look back = refl
begun_same now call.EndChannel back = refl
begun_same now call.EndSession back = refl

-- none begins by a call that may start something
start_same : (now : ℕ) (does : FrontCall) (back : FrontReply) → may_start does back ≡ true → begun_to now does back ≡ now
start_same now (call.Hear message) back may = refl
start_same now call.Retry back may = refl
start_same now (call.Begin channel) back may = absurd (cc (may))
start_same now (call.Next channel place room) back may = refl
start_same now (call.Remove device) back may = refl
start_same now (call.Add device) back may = refl
start_same now call.Look back may = refl
start_same now call.EndChannel back may = refl
start_same now call.EndSession back may = refl

-- ---- one call

module _ (devices : List Announce) (was : Bool) (does : FrontCall) (back : FrontReply) (ps : List FrontPart) (p q : Served) (deeds : List Deed) (goes : CallGoes p does back ps q) (step : FrontStep p.front does back q.front) (here : PartsOnChannel p ps q goes.goes) (sure : DoesSurely does back)
    (is : IsPoint devices p deeds) (opened : AreLiveTold p) (looks : does ≡ call.Look → was ≡ false) (counted : was ≡ false → IsCounted p deeds)
  where
    acts_are : filter_map act_told ps ≡ act_done does back
    acts_are = told_done does back (filter_map act_told ps) (goes.tells).acts sure

    cut : HasCut devices does back ps q deeds
    cut = call_cuts devices does back ps p q deeds goes.goes is (sym acts_are) goes.follows opened

    read_is : (c : ℕ) → client_read c (deeds_after ps []) ≡ on_channel c (p.front).channel (given_by does back)
    read_is c =
        parts_read c (may_start does back) ps p q goes.goes (goes.tells).first [] ∙ append-nil (on_channel c (p.front).channel (filter_map heard_in ps))
        ∙ ap (λ (ms : List (List ℕ)). on_channel c (p.front).channel ms) (surely_heard does back (filter_map heard_in ps) goes.heard sure)

    wrote_is : (c : ℕ) → reverse (client_wrote c (deeds_after ps [])) ≡ messages_by c does back
    wrote_is c = ap reverse (call_wrote c p q ps [] does back goes step here ∙ append-nil (reverse (messages_by c does back))) ∙ reverse-reverse (messages_by c does back)

    comes_is : (device : ℕ) (key : Key) → Has (stores device (Came key)) (deeds_after ps []) → (may_start does back ≡ true) × (key.channel ≡ (p.front).channel)
    comes_is device key has = by (may_start does back) refl
      where
        by : (b : Bool) → may_start does back ≡ b → (may_start does back ≡ true) × (key.channel ≡ (p.front).channel)
        by false none = absurd (none_came ps p q goes.goes (subst (λ (b : Bool). StartsBy b ps) none (goes.tells).first) (idle_none p goes.before) device key has)
        by true may =
            let same = tracks p.front does back q.front step ∙ start_same (p.front).channel does back may in
            (may, came_on (p.front).channel ps p q goes.goes ((is.known).keyed) (omega arith) (omega (arith, same)) device key has)

    pub call_placed : IsDoneBy (p.front).channel deeds does back (deeds_after ps [])
    call_placed = record {
      read = read_is;
      wrote = wrote_is;
      acts = parts_act ps [] ∙ acts_are;
      cuts = cut.cuts;
      comes = comes_is;
      looks = call_looks was does back p q.front deeds step looks counted;
    }

    -- what is known after it
    pub call_open : AreLiveTold q
    call_open = cut.opened

    pub call_point : IsPoint devices q (deeds_after ps deeds)
    call_point = cut.point

    pub counted_then : hindered_by was does back ≡ false → IsCounted q (deeds_after ps deeds)
    counted_then free = call_counted was does back ps p q deeds goes ((is.known).keyed) ((is.known).told) counted free

-- ---- a whole history

module _ (devices : List Announce) where
  calls_placed : (entries : List FrontEntry) (parts : List (List FrontPart)) (was : Bool) (p q : Served) (deeds : List Deed) (goes : HistoryGoes p entries parts q) → AreSteps p entries parts q goes → EachOnChannel p entries parts q goes
      → AllByRecursion (λ (e : FrontEntry). DoesSurely e.call e.reply) entries → LookUnhindered was entries → IsPoint devices p deeds → AreLiveTold p → (was ≡ false → IsCounted p deeds) → AreDoneBy (p.front).channel deeds entries (groups_of parts)
  calls_placed [] [] was p q deeds goes steps here sure looks is opened counted = tt
  calls_placed [] (ps ∷ parts) was p q deeds goes steps here sure looks is opened counted = absurd goes
  calls_placed (e ∷ entries) [] was p q deeds goes steps here sure looks is opened counted = absurd goes
  calls_placed (e ∷ entries) (ps ∷ parts) was p q deeds goes steps here sure looks is opened counted =
      let after = deeds_after ps deeds in
      let later : AreDoneBy ((goes.0).front).channel after entries (groups_of parts) =
      calls_placed entries parts (hindered_by was e.call e.reply) goes.0 q after goes.2 steps.1 here.1 sure.1 looks.1 (call_point devices was e.call e.reply ps p goes.0 deeds goes.1 steps.0 here.0 sure.0 is opened looks.0 counted)
      (call_open devices was e.call e.reply ps p goes.0 deeds goes.1 steps.0 here.0 sure.0 is opened looks.0 counted) (counted_then devices was e.call e.reply ps p goes.0 deeds goes.1 steps.0 here.0 sure.0 is opened looks.0 counted) in (
        call_placed devices was e.call e.reply ps p goes.0 deeds goes.1 steps.0 here.0 sure.0 is opened looks.0 counted,
        subst (λ (before : List Deed). AreDoneBy (begun_after (p.front).channel e.call e.reply) before entries (groups_of parts)) (deeds_split ps deeds)
            (subst (λ (n : ℕ). AreDoneBy n after entries (groups_of parts)) (tracks p.front e.call e.reply (goes.0).front steps.0 ∙ begun_same (p.front).channel e.call e.reply) later),
      )

  -- So each call of a history from the beginning on did what it is to do.
  pub history_placed : (entries : List FrontEntry) (parts : List (List FrontPart)) (p q : Served) (goes : HistoryGoes p entries parts q) → (p.front).channel ≡ 0 → AreSteps p entries parts q goes → EachOnChannel p entries parts q goes
      → AllByRecursion (λ (e : FrontEntry). DoesSurely e.call e.reply) entries → LookUnhindered false entries → IsPoint devices p [] → AreLiveTold p → IsCounted p [] → AreDoneBy 0 [] entries (groups_of parts)
  history_placed entries parts p q goes first steps here sure looks is opened counted =
      subst (λ (n : ℕ). AreDoneBy n [] entries (groups_of parts)) first (calls_placed entries parts false p q [] goes steps here sure looks is opened (λ none. counted))

-- ---- where a history begins

none_live : (devices : List Announce) (p : Served) → BeginsWith devices p → (place : ℕ) (d : DeviceDeskState) (s : SessionStation) → IsDeskAt p place d s → s.live ≡ false
none_live devices p start place d s here = ap (λ (x : SessionStation). x.live) (new_at (p.front).desks p.stations start.new.new.desks start.new.stationed place d s here.0 here.1).1

pub first_point : (devices : List Announce) (p : Served) → BeginsWith devices p → IsPoint devices p []
first_point devices p start = record {
  known = begins_known p start.new.new start.new.apart start.new.stationed start.new.idle_is;
  own = begins_own devices p start;
  off = λ off. none_live devices p start;
}

pub first_open : (devices : List Announce) (p : Served) → BeginsWith devices p → AreLiveTold p
first_open devices p start = record {
  told = λ place d s here on said. inr tt;
  live = λ place d s here lives. absurd (let none = none_live devices p start place d s here in cc (lives, none));
}

pub first_last : (devices : List Announce) (p : Served) → BeginsWith devices p → IsLast p []
first_last devices p start = record {
  asking = λ k under. absurd (idle_none p start.new.idle_is k under);
  kept = λ k some. absurd (let none = start.new.new.kept in cc (none, some));
}
