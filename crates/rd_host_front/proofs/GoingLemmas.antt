-- What a host's front does, call by call.
use Rattle.std.proofs.Common.{◌≡◌, ◌∙◌, refl, sym, ap, subst, true, false, List, [], ◌∷◌, ◌++◌, append_assoc, append-nil}
use mathlib.Core.List.{IsPrefix}
use Rattle.rd_host.specs.Core.{HostCall, HostCoreState, HostStep, begins, hears, replies, sends}
use Rattle.rd_table.specs.declared.calls.PendingCall.{PendingCall}
use Rattle.rd_table.specs.declared.calls.PendingReply.{PendingReply}
use Rattle.rd_turn.specs.History.{entry}
use Rattle.rd_turn.proofs.HistoryLemmas.{prefix_self}
use Rattle.rd_host_front.specs.Asked.{CallMade}
use Rattle.rd_host_front.specs.HostFront.{over_on}
use Rattle.rd_host_front.specs.Parts as kind
use Rattle.rd_host_front.specs.Parts.{FrontGoesOn, HostPart, HostPartGoes, HostPartsGo, StandIn, cleared, first, made_by_part, made_by_parts, own, renewed}
use Rattle.rd_host_front.specs.State.{FrontPassCalls, FrontPassState, HostFrontState, PassOfTable, Renews, RenewsBy}
use Rattle.rd_host_front.proofs.PassLemmas.{Entries, prefix_on, renews_behind}
use Rattle.rd_host_front.proofs.StepLemmas.{Carries, with_table}

-- ---- calls in a history

-- calls that stand in what was added later stand in all that was added
stand_later : (before more between after : Entries) (calls : List CallMade) → before ++ more ≡ between → StandIn between calls after → StandIn before calls after
stand_later before more between after [] is prefix = prefix_on before between after (more, is) prefix
stand_later before more between after (c ∷ calls) is (added, by, rest) =
    let moved : (between ++ added) ++ entry by c.0 c.1 ∷ [] ≡ (before ++ (more ++ added)) ++ entry by c.0 c.1 ∷ [] =
    ap (λ (l : Entries). l ++ entry by c.0 c.1 ∷ []) (ap (λ (l : Entries). l ++ added) (sym is) ∙ append_assoc before more added) in
    (more ++ added, by, subst (λ (l : Entries). StandIn l calls after) moved rest)

-- calls, and then more of them
stand_joined : (xs ys : List CallMade) (a b c : Entries) → StandIn a xs b → StandIn b ys c → StandIn a (xs ++ ys) c
stand_joined [] ys a b c (more, is) other = stand_later a more b c ys is other
stand_joined (x ∷ xs) ys a b c (added, by, rest) other = (added, by, stand_joined xs ys ((a ++ added) ++ entry by x.0 x.1 ∷ []) b c rest other)

made_joined : (xs ys : List HostPart) → made_by_parts (xs ++ ys) ≡ made_by_parts xs ++ made_by_parts ys
made_joined [] ys = refl
made_joined (x ∷ xs) ys = ap (λ (l : List CallMade). made_by_part x ++ l) (made_joined xs ys) ∙ sym (append_assoc (made_by_part x) (made_by_parts xs) (made_by_parts ys))

-- ---- parts

-- a front with the same core and the same pass goes by the same parts
parts_from : (parts : List HostPart) (a b c : HostFrontState) → b.core ≡ a.core → b.table ≡ a.table → HostPartsGo b parts c → HostPartsGo a parts c
parts_from [] a b c core table (is, also) = (is ∙ core, also ∙ table)
parts_from (part ∷ parts) a b c core table (next, goes, rest) = (next, part_from part goes, rest)
  where
    part_from : (p : HostPart) → HostPartGoes b p next → HostPartGoes a p next
    part_from (kind.core does) (step, same) = (subst (λ (h : HostCoreState). HostStep h does next.core) core step, same ∙ table)
    part_from cleared (is, same) = (is ∙ ap (λ (h : HostCoreState). record h { core = record h.core { outbox = [] } }) core, same ∙ table)
    part_from (own does back) (same, calls) = (same ∙ core, subst (λ (f : FrontPassState). FrontPassCalls f does back next.table) table calls)
    part_from renewed (same, given, last, renews) = (same ∙ core, given, last, subst (λ (f : FrontPassState). Renews given f last next.table) table renews)
    part_from (first does back) (same, given, last, renews) = (same ∙ core, given, last, subst (λ (f : FrontPassState). RenewsBy does back given f last next.table) table renews)

-- parts, and then more of them
pub parts_joined : (xs ys : List HostPart) (a b c : HostFrontState) → HostPartsGo a xs b → HostPartsGo b ys c → HostPartsGo a (xs ++ ys) c
parts_joined [] ys a b c (core, table) other = parts_from ys a b c core table other
parts_joined (x ∷ xs) ys a b c (next, part, rest) other = (next, part, parts_joined xs ys next b c rest other)

-- ---- a front

-- the core alone does something, or nothing does
still_on : (old new : HostFrontState) → new.table ≡ old.table → IsPrefix ((old.table).pass).seen ((new.table).pass).seen
still_on old new same = subst (λ (f : FrontPassState). IsPrefix ((old.table).pass).seen (f.pass).seen) (sym same) (prefix_self ((old.table).pass).seen)

stays_on : (old new : HostFrontState) → new.core ≡ old.core → new.table ≡ old.table → FrontGoesOn old new
stays_on old new core table = record { turn = ap (λ (f : FrontPassState). f.turn) table; parts = []; goes = (core, table); stand = still_on old new table }

core_on : (old new : HostFrontState) (does : HostCall) → HostStep old.core does new.core → new.table ≡ old.table → FrontGoesOn old new
core_on old new does step same = record { turn = ap (λ (f : FrontPassState). f.turn) same; parts = kind.core does ∷ []; goes = (new, (step, same), (refl, refl)); stand = still_on old new same }

joins_on : (a b c : HostFrontState) → FrontGoesOn a b → FrontGoesOn b c → FrontGoesOn a c
joins_on a b c one other = record {
  turn = other.turn ∙ one.turn;
  parts = one.parts ++ other.parts;
  goes = parts_joined one.parts other.parts a b c one.goes other.goes;
  stand = subst (λ (l : List CallMade). StandIn ((a.table).pass).seen l ((c.table).pass).seen) (sym (made_joined one.parts other.parts))
      (stand_joined (made_by_parts one.parts) (made_by_parts other.parts) ((a.table).pass).seen ((b.table).pass).seen ((c.table).pass).seen one.stand other.stand);
}

calls_on : (old new : HostFrontState) (does : PendingCall) (back : PendingReply) → new.core ≡ old.core → FrontPassCalls old.table does back new.table → FrontGoesOn old new
calls_on old new does back core calls =
    let (added, is, others) = calls.calls.called in
    record { turn = calls.turn; parts = own does back ∷ []; goes = (new, (core, calls), (refl, refl)); stand = (added, ((old.table).pass).number, ([], append-nil _ ∙ sym is)) }

renews_on : (given last : PassOfTable) (old new : HostFrontState) → new.core ≡ old.core → Renews given old.table last new.table → FrontGoesOn old new
renews_on given last old new core r =
    let behind = renews_behind given last old.table new.table r in
    record {
      turn = ap (λ (f : FrontPassState). f.turn) r.given;
      parts = renewed ∷ [];
      goes = (new, (core, given, last, r), (refl, refl));
      stand = prefix_on ((old.table).pass).seen last.seen ((new.table).pass).seen behind.before behind.after;
    }

renews_by_on : (does : PendingCall) (back : PendingReply) (given last : PassOfTable) (old new : HostFrontState) → new.core ≡ old.core → RenewsBy does back given old.table last new.table → FrontGoesOn old new
renews_by_on does back given last old new core r =
    let (added, is, others) = r.calls.called in
    let (more, from) = (r.joins.longer).2 in
    let own_is : ((new.table).pass).seen ≡ (r.after).seen = ap (λ (f : FrontPassState). (f.pass).seen) r.given in
    let here : StandIn (r.both).seen ((does, back) ∷ []) ((new.table).pass).seen = (added, (r.both).number, ([], append-nil _ ∙ sym (own_is ∙ is))) in
    record {
      turn = ap (λ (f : FrontPassState). f.turn) r.given;
      parts = first does back ∷ [];
      goes = (new, (core, given, last, r), (refl, refl));
      stand = stand_later ((old.table).pass).seen more (r.both).seen ((new.table).pass).seen ((does, back) ∷ []) from here;
    }

abbrev pub core_of : HostFrontState → HostCoreState
core_of s = s.core

abbrev pub table_of : HostFrontState → FrontPassState
table_of s = s.table

pub goes : Carries FrontGoesOn
goes = record {
  stays = λ s. stays_on s s refl refl;
  joins = joins_on;
  hears_by = λ old new message answer did. core_on old new (hears message answer) did.0 (ap table_of did.1);
  replies_by = λ old new device code answer did. core_on old new (replies device code answer) did.0 (ap table_of did.1);
  sends_by = λ old new sent did. core_on old new (sends sent) did.0 (ap table_of did.1);
  calls_by = λ old new does back did. calls_on old new does back (ap core_of did.1) did.0;
  renews_by = λ s given last table r. renews_on given last s (with_table s table) refl r;
  renews_at = λ s does back given last table r. renews_by_on does back given last s (with_table s table) refl r;
  begins_by = λ old new answer step is. core_on old new (begins answer) step (ap table_of is);
  takes_up = λ s channel. stays_on s (record s { channel = channel; on = true }) refl refl;
  ends_by = λ s. record { turn = refl; parts = cleared ∷ []; goes = (over_on s, (refl, refl), (refl, refl)); stand = prefix_self ((s.table).pass).seen };
  marks_by = λ s none. stays_on s (record s { on = false; unsent = 0 }) refl refl;
}
