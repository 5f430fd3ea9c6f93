-- A desk that was called, with the station after the call: the station before it, and what was done in between.
use Rattle.std.proofs.Common.{◌≡◌, ◌≢◌, refl, ap, subst, ℕ, ◌==◌, Bool, true, false, cond, List, [], ◌∷◌, ◌++◌, eq-eqb}
use Rattle.std.specs.Prelude.{All}
use Rattle.std.proofs.lemmas.List.Elements.{All-head, All-tail, All-cons, All-nil}
use Rattle.rd_base.specs.declared.journal.Item.{Item}
use Rattle.rd_desk.specs.declared.calls.DeskCall.{DeskCall}
use Rattle.rd_desk.specs.declared.calls.DeskReply.{DeskReply}
use Rattle.rd_front.specs.State.{DeviceDeskState, IsCalled, SessionDeskStep, SessionStation}
use Rattle.rd_turn.specs.declared.object.Entry.{Entry}
use Rattle.rd_turn.specs.History.{Leads, calls_of, entry}
use Rattle.rd_turn.proofs.HistoryLemmas.{All-prefix, All-after, Leads-parted}
use Rattle.rd_served.specs.Served.{AreHands, CallsDesk, IsHandCall, IsStationed}
use Rattle.rd_served.proofs.WorkLemmas.{call_longer, hands_work, longer_on, works_longer}

abbrev Of : Type 0
Of = SessionStation

abbrev E : Type 0
E = Entry DeskCall DeskReply

-- where none of these calls is the pass's own, each is a hand's
others_work : (number : ℕ) (added : List E) → calls_of number added ≡ [] → AreHands number added → All (λ (e : E). IsHandCall e.call) added
others_work number [] none hands = All-nil (λ (e : E). IsHandCall e.call)
others_work number (e ∷ added) none hands =
    by (e.by == number) refl none (λ is. others_work number added is (All-tail (λ (x : E). x.by ≢ number → IsHandCall x.call) e added hands))
  where
    by : (b : Bool) → (e.by == number) ≡ b → cond b (e ∷ calls_of number added) (calls_of number added) ≡ [] → (calls_of number added ≡ [] → All (λ (x : E). IsHandCall x.call) added) → All (λ (x : E). IsHandCall x.call) (e ∷ added)
    by true own is later = absurd (cc (is))
    by false other is later = All-cons (λ (x : E). IsHandCall x.call) e added
        (All-head (λ (x : E). x.by ≢ number → IsHandCall x.call) e added hands (λ same. let t = eq-eqb e.by number same in cc (t, other)))
        (later is)

-- The station before a call, and what was done.
pub record Lifted (d e : DeviceDeskState) (does : DeskCall) (back : DeskReply) (last : Of) : Type 0 where
  pub first : Of
  pub at : IsStationed d first
  pub items : List Item
  pub called : CallsDesk d e first does back items last

pub lifted : (d e : DeviceDeskState) (does : DeskCall) (back : DeskReply) (last : Of) → IsCalled d does back e → IsStationed e last → Lifted d e does back last
lifted d e does back last is at =
    let added = (is.called).0 in
    let own : List E = entry (d.pass).number does back ∷ [] in
    let number : (e.pass).number ≡ (d.pass).number = (is.same).0 in
    let leads : Leads SessionDeskStep (d.turn).opening (((d.pass).seen ++ added) ++ own) last =
    subst (λ (es : List E). Leads SessionDeskStep (d.turn).opening es last) (is.called).1 (subst (λ (o : Of). Leads SessionDeskStep o (e.pass).seen last) (ap (λ t. t.opening) is.turn) at.leads) in
    let hands : AreHands (d.pass).number (((d.pass).seen ++ added) ++ own) = subst (λ (es : List E). AreHands (d.pass).number es) (is.called).1 (subst (λ (n : ℕ). AreHands n (e.pass).seen) number at.hands) in
    let before : AreHands (d.pass).number ((d.pass).seen ++ added) = All-prefix (λ (x : E). x.by ≢ (d.pass).number → IsHandCall x.call) ((d.pass).seen ++ added) own hands in
    let whole = Leads-parted SessionDeskStep (d.turn).opening ((d.pass).seen ++ added) own last leads in
    let start = Leads-parted SessionDeskStep (d.turn).opening (d.pass).seen added whole.0 whole.1 in
    let others : All (λ (x : E). IsHandCall x.call) added = others_work (d.pass).number added ((is.called).2).0 (All-after (λ (x : E). x.by ≢ (d.pass).number → IsHandCall x.call) (d.pass).seen added before) in
    let works = hands_work start.0 added whole.0 others start.2 in
    let step : SessionDeskStep whole.0 does back last = subst (λ (s : Of). SessionDeskStep whole.0 does back s) (whole.2).2 (whole.2).1 in
    let longer = longer_on start.0 whole.0 last (works_longer start.0 whole.0 works) (call_longer whole.0 last does back step) in
    record {
      first = start.0;
      at = record { leads = start.1; hands = All-prefix (λ (x : E). x.by ≢ (d.pass).number → IsHandCall x.call) (d.pass).seen added before };
      items = longer.items;
      called = record {
        id = is.id;
        middle = whole.0;
        works = works;
        sees = record { turn = is.turn; number = number; others = added; hands = others; leads = start.2; seen = (is.called).1 };
        step = step;
        stored = longer.stored;
      };
    }
