-- What became of pass 0 of the table, and what the calls of the front made of its pass, put together one after the other.
use Rattle.std.proofs.Common.{◌≡◌, ◌≢◌, ◌∙◌, ◌⊎◌, inl, inr, refl, sym, ap, subst, ℕ, Bool, cond, List, [], ◌∷◌, ◌++◌, eq-eqb, ne_eqb}
use Rattle.std.specs.List.{AllByRecursion}
use Rattle.rd_host_front.specs.declared.calls.HostFrontCall.{HostFrontCall}
use Rattle.rd_host_front.specs.declared.calls.HostFrontCall.TheVariants as call
use Rattle.rd_host_front.specs.declared.calls.HostFrontReply.{HostFrontReply}
use Rattle.rd_host_front.specs.declared.calls.HostFrontReply.TheVariants as reply
use Rattle.rd_host_front.specs.State.{FrontPassState, PassOfTable, Renews, RenewsBy}
use Rattle.rd_pending.specs.declared.calls.Stage.{Stage}
use Rattle.rd_turn.specs.declared.object.Entry.{Entry}
use Rattle.rd_turn.specs.History.{calls_of, entry}
use Rattle.rd_host_turns.specs.Turns.{ArePartsOf, HandsThrough, IsBeginning, IsOwnCall, IsWithoutCall, PartsAlong, TablePart, TablePartsGo, all_parts, calls, renews, renews_by}
use Rattle.rd_host_turns.proofs.CountLemmas.{begun_by}
use Rattle.rd_host_turns.proofs.MoveLemmas.{HasLooked, HaveRun, Move, Moves, looked, part, parts_in, ran}

-- ---- what becomes of pass 0

-- applications run; pass 0 looks; and the front is called, which pass 0 is handed to
pub data Act (W : Type 0) : Type 0 where
  runs : Act W
  looks : Stage → Act W
  hands : HostFrontCall W → HostFrontReply W → Act W

module _ {W : Type 0} where
  -- Pass 0 was handed to the front as it was, and came back so.
  abbrev pub IsHanded : PassOfTable → HostFrontCall W → HostFrontReply W → PassOfTable → Type 0
  IsHanded p (call.Begin channel first) (reply.First last what) q = (first ≡ p) × (q ≡ last)
  IsHanded p (call.DropSent first anew) (reply.First last what) q = (first ≡ p) × (q ≡ last)
  IsHanded p _ _ q = ⊥

  -- pass 0 is handed to the front in none of these
  abbrev pub IsOther : HostFrontCall W → Type 0
  IsOther (call.Begin channel first) = ⊥
  IsOther (call.DropSent first anew) = ⊥
  IsOther _ = Unit {0}

  abbrev pub ActsGo : PassOfTable → List (Act W) → PassOfTable → Type 0
  ActsGo p [] q = q ≡ p
  ActsGo p (runs ∷ acts) q = (next : PassOfTable) × HaveRun p next × ActsGo next acts q
  ActsGo p (looks stage ∷ acts) q = (next : PassOfTable) × HasLooked stage p next × ActsGo next acts q
  ActsGo p (hands does back ∷ acts) q = (next : PassOfTable) × IsHanded p does back next × ActsGo next acts q

  -- the calls of the front among them
  abbrev pub handed_in : List (Act W) → List (Entry (HostFrontCall W) (HostFrontReply W))
  handed_in [] = []
  handed_in (runs ∷ acts) = handed_in acts
  handed_in (looks stage ∷ acts) = handed_in acts
  handed_in (hands does back ∷ acts) = entry 0 does back ∷ handed_in acts

  -- a call of the front by pass 0 of the front, or one by another pass of it, to which pass 0 of the table isn't handed
  abbrev pub IsSorted : Entry (HostFrontCall W) (HostFrontReply W) → Type 0
  IsSorted e = (e.by ≡ 0) ⊎ ((e.by ≢ 0) × IsOther e.call)

-- ---- moves

-- moves from these two to those, with these parts
pub record Merged (p : PassOfTable) (f : FrontPassState) (parts : List TablePart) (q : PassOfTable) (g : FrontPassState) : Type 0 where
  pub moves : List Move
  pub goes : Moves p f moves q g
  pub are : parts_in moves ≡ parts

own_parts : (parts others : List TablePart) (p q : PassOfTable) (f next g : FrontPassState) → TablePartsGo f parts next → AllByRecursion IsOwnCall parts → Merged p next others q g
    → Merged p f (parts ++ others) q g
own_parts [] others p q f next g is own rest = subst (λ (y : FrontPassState). Merged p y others q g) is rest
own_parts (calls does back ∷ parts) others p q f next g (mid, called, goes) (here, own) rest =
    let then = own_parts parts others p q mid next g goes own rest in
    record { moves = part (calls does back) ∷ then.moves; goes = (mid, called, then.goes); are = ap (λ (l : List TablePart). calls does back ∷ l) then.are }
own_parts (renews given handed ∷ parts) others p q f next g goes (here, own) rest = absurd here
own_parts (renews_by does back given handed ∷ parts) others p q f next g goes (here, own) rest = absurd here

-- a part that is a call by which a channel begins, if it is one by pass 0
abbrev IsFit : TablePart → Type 0
IsFit (renews_by does back given handed) = begun_by does ≡ 1
IsFit _ = Unit {0}

fit_beginning : (channel : ℕ) (parts : List TablePart) → AllByRecursion (IsBeginning channel) parts → AllByRecursion IsFit parts
fit_beginning channel [] all = tt
fit_beginning channel (calls does back ∷ parts) (here, all) = absurd here
fit_beginning channel (renews given handed ∷ parts) (here, all) = absurd here
fit_beginning channel (renews_by does back given handed ∷ parts) (here, all) = (ap begun_by here, fit_beginning channel parts all)

fit_without : (parts : List TablePart) → AllByRecursion IsWithoutCall parts → AllByRecursion IsFit parts
fit_without [] all = tt
fit_without (calls does back ∷ parts) (here, all) = (tt, fit_without parts all)
fit_without (renews given handed ∷ parts) (here, all) = (tt, fit_without parts all)
fit_without (renews_by does back given handed ∷ parts) (here, all) = absurd here

handed_parts : (parts others : List TablePart) (p then q : PassOfTable) (f next g : FrontPassState) → HandsThrough p parts then → TablePartsGo f parts next → AllByRecursion IsFit parts
    → Merged then next others q g
    → Merged p f (parts ++ others) q g
handed_parts [] others p then q f next g same is fit rest = subst (λ (x : PassOfTable). Merged x f others q g) same (subst (λ (y : FrontPassState). Merged then y others q g) is rest)
handed_parts (calls does back ∷ parts) others p then q f next g through (mid, called, goes) (here, fit) rest =
    let after = handed_parts parts others p then q mid next g through goes fit rest in
    record { moves = part (calls does back) ∷ after.moves; goes = (mid, called, after.goes); are = ap (λ (l : List TablePart). calls does back ∷ l) after.are }
handed_parts (renews given handed ∷ parts) others p then q f next g (is, through) (mid, renewed, goes) (here, fit) rest =
    let after = handed_parts parts others handed then q mid next g through goes fit rest in
    record {
      moves = part (renews given handed) ∷ after.moves;
      goes = (handed, mid, subst (λ (x : PassOfTable). Renews x f handed mid) is renewed, after.goes);
      are = ap (λ (l : List TablePart). renews given handed ∷ l) after.are;
    }
handed_parts (renews_by does back given handed ∷ parts) others p then q f next g (is, through) (mid, renewed, goes) (here, fit) rest =
    let after = handed_parts parts others handed then q mid next g through goes fit rest in
    record {
      moves = part (renews_by does back given handed) ∷ after.moves;
      goes = (handed, mid, subst (λ (x : PassOfTable). RenewsBy does back x f handed mid) is renewed, here, after.goes);
      are = ap (λ (l : List TablePart). renews_by does back given handed ∷ l) after.are;
    }

-- ---- calls of the front

module _ {W : Type 0} where
  handed_call : (does : HostFrontCall W) (back : HostFrontReply W) (parts others : List TablePart) (p then q : PassOfTable) (f next g : FrontPassState) → IsHanded p does back then
      → ArePartsOf does back parts
      → TablePartsGo f parts next → Merged then next others q g → Merged p f (parts ++ others) q g
  handed_call (call.Begin channel first) (reply.First last what) parts others p then q f next g (is, came) (through, all) goes rest =
      handed_parts parts others p then q f next g (subst (λ (x : PassOfTable). HandsThrough x parts then) is (subst (λ (x : PassOfTable). HandsThrough first parts x) (sym came) through)) goes
      (fit_beginning channel parts all) rest
  handed_call (call.DropSent first anew) (reply.First last what) parts others p then q f next g (is, came) (through, all) goes rest =
      handed_parts parts others p then q f next g (subst (λ (x : PassOfTable). HandsThrough x parts then) is (subst (λ (x : PassOfTable). HandsThrough first parts x) (sym came) through)) goes
      (fit_without parts all) rest
  handed_call _ _ parts others p then q f next g handed are goes rest = absurd handed

  other_call : (does : HostFrontCall W) (back : HostFrontReply W) (parts : List TablePart) → IsOther does → ArePartsOf does back parts → AllByRecursion IsOwnCall parts
  other_call (call.Begin channel first) back parts other are = absurd other
  other_call (call.DropSent first anew) back parts other are = absurd other
  other_call _ _ parts other are = are

  -- what becomes of pass 0 up to the next call of the front by pass 0 of that
  to_next : (acts : List (Act W)) (e : Entry (HostFrontCall W) (HostFrontReply W)) (rest : List (Entry (HostFrontCall W) (HostFrontReply W))) (parts : List TablePart) (p q : PassOfTable) (f g : FrontPassState)
      → ActsGo p acts q → handed_in acts ≡ e ∷ rest
      → ((more : List (Act W)) (here then : PassOfTable) → IsHanded here e.call e.reply then → ActsGo then more q → handed_in more ≡ rest → Merged here f parts q g) → Merged p f parts q g
  to_next [] e rest parts p q f g goes is on = absurd (cc is)
  to_next (runs ∷ acts) e rest parts p q f g (next, run, goes) is on =
      let then = to_next acts e rest parts next q f g goes is on in
      record { moves = ran ∷ then.moves; goes = (next, run, then.goes); are = then.are }
  to_next (looks stage ∷ acts) e rest parts p q f g (next, look, goes) is on =
      let then = to_next acts e rest parts next q f g goes is on in
      record { moves = looked stage ∷ then.moves; goes = (next, look, then.goes); are = then.are }
  to_next (hands does back ∷ acts) e rest parts p q f g (next, handed, goes) is on =
      let head : entry 0 does back ≡ e = cc is in
      on acts p next (subst (λ (x : Entry (HostFrontCall W) (HostFrontReply W)). IsHanded p x.call x.reply next) head handed) goes (cc is)

  -- and what becomes of it at last
  to_last : (acts : List (Act W)) (p q : PassOfTable) (f g : FrontPassState) → ActsGo p acts q → handed_in acts ≡ [] → g ≡ f → Merged p f [] q g
  to_last [] p q f g goes is same = record { moves = []; goes = (goes, same); are = refl }
  to_last (runs ∷ acts) p q f g (next, run, goes) is same =
      let then = to_last acts next q f g goes is same in
      record { moves = ran ∷ then.moves; goes = (next, run, then.goes); are = then.are }
  to_last (looks stage ∷ acts) p q f g (next, look, goes) is same =
      let then = to_last acts next q f g goes is same in
      record { moves = looked stage ∷ then.moves; goes = (next, look, then.goes); are = then.are }
  to_last (hands does back ∷ acts) p q f g goes is same = absurd (cc is)

  own_more : (e : Entry (HostFrontCall W) (HostFrontReply W)) (es : List (Entry (HostFrontCall W) (HostFrontReply W))) → e.by ≡ 0 → calls_of 0 (e ∷ es) ≡ e ∷ calls_of 0 es
  own_more e es is = ap (λ (b : Bool). cond {A = List (Entry (HostFrontCall W) (HostFrontReply W))} b (e ∷ calls_of 0 es) (calls_of 0 es)) (eq-eqb e.by 0 is)

  others_more : (e : Entry (HostFrontCall W) (HostFrontReply W)) (es : List (Entry (HostFrontCall W) (HostFrontReply W))) → e.by ≢ 0 → calls_of 0 (e ∷ es) ≡ calls_of 0 es
  others_more e es ne = ap (λ (b : Bool). cond {A = List (Entry (HostFrontCall W) (HostFrontReply W))} b (e ∷ calls_of 0 es) (calls_of 0 es)) (ne_eqb e.by 0 ne)

  pub merge : (entries : List (Entry (HostFrontCall W) (HostFrontReply W))) (parts : List (List TablePart)) (acts : List (Act W)) (p q : PassOfTable) (f g : FrontPassState) → ActsGo p acts q
      → calls_of 0 entries ≡ handed_in acts → AllByRecursion IsSorted entries → PartsAlong f entries parts g → Merged p f (all_parts parts) q g
  merge [] [] acts p q f g goes is sorted along = to_last acts p q f g goes (sym is) along
  merge [] (ps ∷ parts) acts p q f g goes is sorted along = absurd along
  merge (e ∷ entries) [] acts p q f g goes is sorted along = absurd along
  merge (e ∷ entries) (ps ∷ parts) acts p q f g goes is (inl none, sorted) (are, next, parts_go, along) =
      to_next acts e (calls_of 0 entries) (ps ++ all_parts parts) p q f g goes (sym is ∙ own_more e entries none)
      (λ more here then handed goes is. handed_call e.call e.reply ps (all_parts parts) here then q f next g handed are parts_go (merge entries parts more then q next g goes (sym is) sorted along))
  merge (e ∷ entries) (ps ∷ parts) acts p q f g goes is (inr (ne, other), sorted) (are, next, parts_go, along) =
      own_parts ps (all_parts parts) p q f next g parts_go (other_call e.call e.reply ps other are) (merge entries parts acts p q next g goes (sym (others_more e entries ne) ∙ is) sorted along)
