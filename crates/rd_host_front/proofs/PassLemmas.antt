-- What a host's front makes of pass 0 of the table, and of its own pass.
use Rattle.std.proofs.Common.{◌≡◌, ◌∙◌, refl, sym, ap, subst, ℕ, suc, ◌+◌, ◌≤◌, Bool, true, false, List, [], ◌∷◌, ◌++◌, append_assoc, arith}
use Rattle.std.specs.Prelude.{MatchBool}
use mathlib.Core.List.{IsPrefix}
use Rattle.rd_table.specs.declared.calls.PendingCall.{PendingCall}
use Rattle.rd_table.specs.declared.calls.PendingCall.TheVariants as table
use Rattle.rd_table.specs.declared.calls.PendingReply.{PendingReply}
use Rattle.rd_turn.specs.declared.object.Entry.{Entry}
use Rattle.rd_turn.specs.History.{calls_of}
use Rattle.rd_turn.proofs.HistoryLemmas.{Called-prefix, prefix_self}
use Rattle.rd_host_front.specs.declared.calls.Came.TheVariants as came
use Rattle.rd_host_front.specs.declared.calls.HostFrontCall.TheVariants as call
use Rattle.rd_host_front.specs.declared.calls.HostFrontReply.{HostFrontReply}
use Rattle.rd_host_front.specs.HostFront.{BeginsChannel, BeginsIfFound, DropsBy, DropsUnsent, EndsSent, HandsBack, HostFrontStep, RenewsIf, began_as, has_begun, is_found, may_begin_on, may_renew}
use Rattle.rd_host_front.specs.Kept.{BeginsBack, DropsBack, IsBehind, IsHandedBack, RenewsOnBegin, RenewsOnDrop, SeesOn}
use Rattle.rd_host_front.specs.State.{FrontPassCalls, FrontPassState, HostFrontState, PassOfTable, Renews, RenewsBy}

abbrev pub Entries : Type 0
Entries = List (Entry PendingCall PendingReply)

pub prefix_on : (xs ys zs : Entries) → IsPrefix xs ys → IsPrefix ys zs → IsPrefix xs zs
prefix_on xs ys zs (more, first) (rest, second) = (more ++ rest, sym (append_assoc xs more rest) ∙ ap (λ (l : Entries). l ++ rest) first ∙ second)

-- what the front's pass has seen goes on with a call
pub front_called_on : (old new : FrontPassState) (does : PendingCall) (back : PendingReply) → FrontPassCalls old does back new → IsPrefix (old.pass).seen (new.pass).seen
front_called_on old new does back calls = Called-prefix old.pass new.pass does back calls.calls.called

same_back : (first : PassOfTable) → IsHandedBack first first
same_back first = record { number = refl; least = omega arith; most = omega arith; out = refl; seen = prefix_self first.seen }

-- ---- the front's pass is renewed

renews_back : (first last : PassOfTable) (old new : FrontPassState) → first.number ≡ 0 → Renews first old last new → (last.number ≡ 0) × (last.made ≡ suc first.made) × (last.out ≡ first.out) × IsPrefix first.seen last.seen
renews_back first last old new zero r =
    let seen : last.seen ≡ (r.both).seen = ap (λ (p : PassOfTable). p.seen) r.kept in (
      ap (λ (p : PassOfTable). p.number) r.kept ∙ r.joins.number,
      ap (λ (p : PassOfTable). p.made) r.kept ∙ ap (λ (n : ℕ). suc n) r.joins.made,
      ap (λ (p : PassOfTable). p.out) r.kept ∙ r.joins.out,
      subst (λ (l : Entries). IsPrefix first.seen l) (sym seen) (r.joins.longer).1,
    )

pub renews_behind : (first last : PassOfTable) (old new : FrontPassState) → Renews first old last new → IsBehind old last new
renews_behind first last old new r =
    let seen : last.seen ≡ (r.both).seen = ap (λ (p : PassOfTable). p.seen) r.kept in
    let own : (new.pass).seen ≡ (r.both).seen = ap (λ (f : FrontPassState). (f.pass).seen) r.given in
    record {
      before = subst (λ (l : Entries). IsPrefix (old.pass).seen l) (sym seen) (r.joins.longer).2;
      after = subst (λ (l : Entries). IsPrefix last.seen l) (seen ∙ sym own) (prefix_self last.seen);
      fresh = subst (λ (l : Entries). calls_of (new.pass).number l ≡ []) (own ∙ sym seen) r.fresh;
    }

pub renews_by_behind : (does : PendingCall) (back : PendingReply) (first last : PassOfTable) (old new : FrontPassState) → RenewsBy does back first old last new → IsBehind old last new
renews_by_behind does back first last old new r =
    let seen : last.seen ≡ (r.after).seen = ap (λ (p : PassOfTable). p.seen) r.kept in
    let own : (new.pass).seen ≡ (r.after).seen = ap (λ (f : FrontPassState). (f.pass).seen) r.given in
    let grown = Called-prefix r.both r.after does back r.calls.called in
    record {
      before = subst (λ (l : Entries). IsPrefix (old.pass).seen l) (sym seen) (prefix_on (old.pass).seen (r.both).seen (r.after).seen (r.joins.longer).2 grown);
      after = subst (λ (l : Entries). IsPrefix last.seen l) (seen ∙ sym own) (prefix_self last.seen);
      fresh = subst (λ (l : Entries). calls_of (new.pass).number l ≡ []) (own ∙ sym seen) r.fresh;
    }

renews_by_back : (does : PendingCall) (back : PendingReply) (first last : PassOfTable) (old new : FrontPassState) → first.number ≡ 0 → RenewsBy does back first old last new → IsHandedBack first last
renews_by_back does back first last old new zero r =
    let seen : last.seen ≡ (r.after).seen = ap (λ (p : PassOfTable). p.seen) r.kept in
    let grown = Called-prefix r.both r.after does back r.calls.called in
    let (number, made, out, joined) = r.calls.same in
    let number_is : last.number ≡ 0 = ap (λ (p : PassOfTable). p.number) r.kept ∙ number ∙ r.joins.number in
    let made_is : last.made ≡ suc first.made = ap (λ (p : PassOfTable). p.made) r.kept ∙ ap (λ (n : ℕ). suc n) (made ∙ r.joins.made) in
    let out_is : last.out ≡ first.out = ap (λ (p : PassOfTable). p.out) r.kept ∙ ap (λ (n : ℕ). suc n) out ∙ r.joins.out in
    record {
      number = number_is ∙ sym zero;
      least = omega (arith, made_is);
      most = omega (arith, made_is);
      out = out_is;
      seen = subst (λ (l : Entries). IsPrefix first.seen l) (sym seen) (prefix_on first.seen (r.both).seen (r.after).seen (r.joins.longer).1 grown);
    }

began_back : (began : Bool) (old new : FrontPassState) (last : PassOfTable) → IsBehind old last new → RenewsOnBegin (began_as began) old last new
began_back true old new last behind = behind
began_back false old new last behind = behind

-- a renewal at the first try
abbrev Tried : Bool → PassOfTable → FrontPassState → PassOfTable → FrontPassState → Type 0
Tried true first old last new = IsBehind old last new
Tried false first old last new = new ≡ old

-- what a try comes to, from where it stands
record Comes (anew : Bool) (first : PassOfTable) (old : FrontPassState) (last : PassOfTable) (new : FrontPassState) : Type 0 where
  number : last.number ≡ 0
  least : first.made ≤ last.made
  most : last.made ≤ first.made + 1
  out : last.out ≡ first.out
  seen : IsPrefix first.seen last.seen
  tried : Tried anew first old last new

renews_if : (anew : Bool) (first : PassOfTable) (old : HostFrontState) (last : PassOfTable) (next : HostFrontState) → first.number ≡ 0 → RenewsIf anew first old last next → Comes anew first old.table last next.table
renews_if true first old last next zero did =
    let (number, made, out, seen) = renews_back first last old.table next.table zero did.0 in
    record { number = number; least = omega (arith, made); most = omega (arith, made); out = out; seen = seen; tried = renews_behind first last old.table next.table did.0 }
renews_if false first old last next zero did = record {
  number = ap (λ (p : PassOfTable). p.number) did.0 ∙ zero;
  least = subst (λ (p : PassOfTable). first.made ≤ p.made) (sym did.0) (omega arith);
  most = subst (λ (p : PassOfTable). p.made ≤ first.made + 1) (sym did.0) (omega arith);
  out = ap (λ (p : PassOfTable). p.out) did.0;
  seen = subst (λ (p : PassOfTable). IsPrefix first.seen p.seen) (sym did.0) (prefix_self first.seen);
  tried = ap (λ (s : HostFrontState). s.table) did.1;
}

-- what the front's pass had seen before a try, it has seen after it
tried_on : (anew : Bool) (first : PassOfTable) (old : FrontPassState) (last : PassOfTable) (new : FrontPassState) → Tried anew first old last new → SeesOn old new
tried_on true first old last new behind = prefix_on (old.pass).seen last.seen (new.pass).seen behind.before behind.after
tried_on false first old last new is = subst (λ (f : FrontPassState). SeesOn old f) (sym is) (prefix_self (old.pass).seen)

-- and a call more stays behind
tried_called : (anew : Bool) (first : PassOfTable) (old : FrontPassState) (last : PassOfTable) (here new : FrontPassState) → Tried anew first old last here → SeesOn here new → (new.pass).number ≡ (here.pass).number
    → RenewsOnDrop anew came.NotYet old last new
tried_called true first old last here new behind on same = record {
  before = behind.before;
  after = prefix_on last.seen (here.pass).seen (new.pass).seen behind.after on;
  fresh = subst (λ (n : ℕ). calls_of n last.seen ≡ []) (sym same) behind.fresh;
}
tried_called false first old last here new is on same = subst (λ (f : FrontPassState). SeesOn f new) is on

back_of : (anew : Bool) (first last : PassOfTable) (old here : FrontPassState) → first.number ≡ 0 → Comes anew first old last here → IsHandedBack first last
back_of anew first last old here zero c = record { number = c.number ∙ sym zero; least = c.least; most = omega (arith, c.most); out = c.out; seen = c.seen }

module _ {W : Type 0} where
  begins_if : (found : Bool) (old : HostFrontState) (channel : ℕ) (first : PassOfTable) (back : HostFrontReply W) (new : HostFrontState) → first.number ≡ 0
      → BeginsIfFound found old channel first back new → BeginsBack first old back new
  begins_if true old channel first back new zero did =
      record {
        last = did.1;
        what = began_as (has_begun did.0);
        is = did.4;
        kept = renews_by_back (table.Begin channel) did.0 first did.1 old.table new.table zero did.2;
        renews = began_back (has_begun did.0) old.table new.table did.1 (renews_by_behind (table.Begin channel) did.0 first did.1 old.table new.table did.2);
      }
  begins_if false old channel first back new zero did =
      record { last = first; what = came.Memory; is = did.0; kept = same_back first; renews = ap (λ (s : HostFrontState). s.table) did.1 }

  begins_channel : (old : HostFrontState) (channel : ℕ) (first : PassOfTable) (back : HostFrontReply W) (new : HostFrontState) → first.number ≡ 0
      → BeginsChannel old channel first back new → BeginsBack first old back new
  begins_channel old channel first back new zero did =
      let b = begins_if (is_found did.0) did.1 channel first back new zero did.4 in
      let stays : (did.1).table ≡ old.table = ap (λ (s : HostFrontState). s.table) did.3 in
      record { last = b.last; what = b.what; is = b.is; kept = b.kept; renews = subst (λ (f : FrontPassState). RenewsOnBegin b.what f b.last new.table) stays b.renews }

  pub begin_back : (old : HostFrontState) (channel : ℕ) (first : PassOfTable) (back : HostFrontReply W) (new : HostFrontState) → first.number ≡ 0
      → HostFrontStep old (call.Begin channel first) back new → BeginsBack first old back new
  begin_back old channel first back new zero step = by (may_begin_on old channel first) step
    where
      by : (b : Bool) → MatchBool b (BeginsChannel old channel first back new) (HandsBack first came.Refused back old new) → BeginsBack first old back new
      by true did = begins_channel old channel first back new zero did
      by false did = record { last = first; what = came.Refused; is = did.0; kept = same_back first; renews = ap (λ (s : HostFrontState). s.table) did.1 }

  drops_by : (dropped anew : Bool) (first last : PassOfTable) (old here next : HostFrontState) (back : HostFrontReply W) (new : HostFrontState) → first.number ≡ 0
      → Comes anew first old.table last here.table → SeesOn here.table next.table → ((next.table).pass).number ≡ ((here.table).pass).number → DropsBy dropped last next back new → DropsBack anew first old back new
  drops_by true anew first last old here next back new zero c on same did =
      let (number, made, out, seen) = renews_back last did.0 next.table new.table c.number did.1 in
      let behind = renews_behind last did.0 next.table new.table did.1 in
      record {
        last = did.0;
        what = came.Done;
        is = did.3;
        kept = record {
          number = number ∙ sym zero;
          least = omega (arith, c.least, made);
          most = omega (arith, c.most, made);
          out = out ∙ c.out;
          seen = prefix_on first.seen last.seen (did.0).seen c.seen seen;
        };
        renews = record {
          before = prefix_on ((old.table).pass).seen ((next.table).pass).seen (did.0).seen
              (prefix_on ((old.table).pass).seen ((here.table).pass).seen ((next.table).pass).seen (tried_on anew first old.table last here.table c.tried) on) behind.before;
          after = behind.after;
          fresh = behind.fresh;
        };
      }
  drops_by false anew first last old here next back new zero c on same did =
      let stays : SeesOn here.table new.table = subst (λ (s : HostFrontState). SeesOn here.table s.table) (sym did.1) on in
      let number = ap (λ (s : HostFrontState). ((s.table).pass).number) did.1 ∙ same in
      record {
        last = last;
        what = came.NotYet;
        is = did.0;
        kept = back_of anew first last old.table here.table zero c;
        renews = tried_called anew first old.table last here.table new.table c.tried stays number;
      }

  drops_unsent : (outbox : List (List ℕ)) (anew : Bool) (first last : PassOfTable) (old here : HostFrontState) (back : HostFrontReply W) (new : HostFrontState) → first.number ≡ 0
      → Comes anew first old.table last here.table → DropsUnsent outbox last here back new → DropsBack anew first old back new
  drops_unsent (message ∷ others) anew first last old here back new zero c did =
      let stays : SeesOn here.table new.table = subst (λ (s : HostFrontState). SeesOn here.table s.table) (sym did.1) (prefix_self ((here.table).pass).seen) in
      let number = ap (λ (s : HostFrontState). ((s.table).pass).number) did.1 in
      record {
        last = last;
        what = came.NotYet;
        is = did.0;
        kept = back_of anew first last old.table here.table zero c;
        renews = tried_called anew first old.table last here.table new.table c.tried stays number;
      }
  drops_unsent [] anew first last old here back new zero c did =
      drops_by did.0 anew first last old here did.1 back new zero c (front_called_on here.table (did.1).table _ _ did.2.0) (((did.2).0).calls.same).0 did.3

  pub drop_back : (old : HostFrontState) (first : PassOfTable) (anew : Bool) (back : HostFrontReply W) (new : HostFrontState) → first.number ≡ 0
      → HostFrontStep old (call.DropSent first anew) back new → DropsBack anew first old back new
  drop_back old first anew back new zero step = by (may_renew first) step
    where
      refused : (b : Bool) → new ≡ old → RenewsOnDrop b came.Refused old.table first new.table
      refused true is = subst (λ (s : HostFrontState). SeesOn old.table s.table) (sym is) (prefix_self ((old.table).pass).seen)
      refused false is = subst (λ (s : HostFrontState). SeesOn old.table s.table) (sym is) (prefix_self ((old.table).pass).seen)

      by : (b : Bool) → MatchBool b (EndsSent first anew old back new) (HandsBack first came.Refused back old new) → DropsBack anew first old back new
      by true did = drops_unsent (((did.1).core).core).outbox anew first did.0 old did.1 back new zero (renews_if anew first old did.0 did.1 zero did.2) did.3
      by false did = record { last = first; what = came.Refused; is = did.0; kept = same_back first; renews = refused anew did.1 }
