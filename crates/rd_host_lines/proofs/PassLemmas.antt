-- Passes of a host's table: of each that was split from pass 0 all calls hold something, once it was joined; and that pass 0 keeps this where the front's pass is renewed.
use Rattle.std.proofs.Common.{◌≡◌, ◌≢◌, ◌∙◌, ◌⊎◌, inl, inr, sym, ap, subst, ℕ, suc, ◌≤◌, true, false, List, [], ◌∷◌, ◌++◌, append-nil, map, Contains, arith}
use Rattle.std.specs.List.{AllByRecursion}
use mathlib.Core.List.{IsPrefix}
use mathlib.Core.Logic.{dite}
use native.Mathlib.Decide.{dec_le}
use Rattle.rd_host_front.specs.Asked.{CallMade}
use Rattle.rd_host_front.specs.State.{FrontPassState, PassOfTable, Renews, RenewsBy}
use Rattle.rd_table.specs.declared.calls.PendingCall.{PendingCall}
use Rattle.rd_table.specs.declared.calls.PendingCall.TheVariants as table
use Rattle.rd_table.specs.declared.calls.PendingReply.{PendingReply}
use Rattle.rd_table.specs.declared.calls.PendingReply.TheVariants as replied
use Rattle.rd_turn.specs.History.{calls_of, entry}
use Rattle.rd_turn.proofs.HistoryLemmas.{Called-own}
use Rattle.rd_host_turns.specs.Turns.{TableEntry}
use Rattle.rd_host_turns.proofs.CountLemmas.{all_both, prefix_then}
use Rattle.rd_host_turns.proofs.MoveLemmas.{Renewed, renews_by_so, renews_so}
use Rattle.rd_host_lines.specs.Places.{drop_call}

-- the calls of the pass of this number
abbrev pub made_by : ℕ → List CallMade → List TableEntry
made_by k calls = map (λ (c : CallMade). entry k c.0 c.1) calls

-- a try in vain to end a channel
abbrev pub IsTry : TableEntry → Type 0
IsTry e = (e.call ≡ table.DropSent) × (e.reply ≡ replied.DroppedSent false)

abbrev pub WithTries : (TableEntry → Type 0) → TableEntry → Type 0
WithTries P e = P e ⊎ IsTry e

-- Pass 0 goes on: those that were joined to it stay so, and make no more calls.
pub record Stays (p q : PassOfTable) : Type 0 where
  pub number : q.number ≡ 0
  pub least : p.made ≤ q.made
  pub seen : IsPrefix p.seen q.seen
  pub kept : (k n : ℕ) → k ≢ 0 → Contains p.joined (k, n) → Contains q.joined (k, n) × (calls_of k q.seen ≡ calls_of k p.seen)

module _ (P : TableEntry → Type 0) where
  -- each of these calls is such a one
  abbrev pub AreSuch : List TableEntry → Type 0
  AreSuch = AllByRecursion P

  -- the own calls of the front's pass are
  abbrev pub OwnAre : FrontPassState → Type 0
  OwnAre s = AreSuch (calls_of (s.pass).number (s.pass).seen)

  -- Of pass 0: its own calls are, and those of each pass that was split from it and joined to it, as all were but the one of this number.
  pub record Good (f : ℕ) (p : PassOfTable) : Type 0 where
    pub first : p.number ≡ 0
    pub own : AreSuch (calls_of 0 p.seen)
    pub each : (k : ℕ) → k ≢ 0 → k ≤ p.made → (k ≡ f) ⊎ ((n : ℕ) × Contains p.joined (k, n) × AreSuch (calls_of k p.seen))

  -- The front's pass of this number was joined to pass 0, and the next one was split from that.
  pub record Anew (p : PassOfTable) (f : ℕ) (q : PassOfTable) (g : ℕ) : Type 0 where
    pub stays : Stays p q
    pub made : q.made ≡ suc p.made
    pub next : g ≡ suc p.made
    pub front : f ≢ 0 → (n : ℕ) × Contains q.joined (f, n) × AreSuch (calls_of f q.seen)
    pub own : AreSuch (calls_of 0 p.seen) → AreSuch (calls_of 0 q.seen)

  pub anew_good : (p q : PassOfTable) (f g : ℕ) → Anew p f q g → Good f p → Good g q
  anew_good p q f g a good = record {
    first = (a.stays).number;
    own = a.own good.own;
    each = λ k ne le. dite (dec_le k p.made) (λ few. old k ne (good.each k ne few)) (λ more. inl (let made = a.made in let next = a.next in omega arith));
  }
    where
      old : (k : ℕ) → k ≢ 0 → (k ≡ f) ⊎ ((n : ℕ) × Contains p.joined (k, n) × AreSuch (calls_of k p.seen))
          → (k ≡ g) ⊎ ((n : ℕ) × Contains q.joined (k, n) × AreSuch (calls_of k q.seen))
      old k ne (inl is) = let j = a.front (λ z. ne (is ∙ z)) in inr (subst (λ (k : ℕ). (n : ℕ) × Contains q.joined (k, n) × AreSuch (calls_of k q.seen)) (sym is) j)
      old k ne (inr (n, has, are)) = let s = (a.stays).kept k n ne has in inr (n, s.0, subst AreSuch (sym s.1) are)

  -- a front's pass that was renewed has made no call yet
  pub fresh_are : (s : FrontPassState) → calls_of (s.pass).number (s.pass).seen ≡ [] → OwnAre s
  fresh_are s fresh = subst AreSuch (sym fresh) tt

-- what holds of each of these calls, where it follows for each
pub all_as : (P Q : TableEntry → Type 0) → ((e : TableEntry) → P e → Q e) → (xs : List TableEntry) → AreSuch P xs → AreSuch Q xs
all_as P Q to [] all = tt
all_as P Q to (x ∷ xs) (here, all) = (to x here, all_as P Q to xs all)

module _ (P : TableEntry → Type 0) where
  -- The front's pass of this number was joined to pass 0, and the next one was split from that. Of its own calls these are the last, and all others are such ones. Pass 0 made these meanwhile.
  pub record Replaces (own last : List CallMade) (p : PassOfTable) (f : ℕ) (q : PassOfTable) (g : ℕ) : Type 0 where
    pub stays : Stays p q
    pub made : q.made ≡ suc p.made
    pub next : g ≡ suc p.made
    pub fresh : calls_of g q.seen ≡ []
    pub zeros : calls_of 0 q.seen ≡ calls_of 0 p.seen ++ made_by 0 own
    pub front : f ≢ 0 → (n : ℕ) × (calls : List TableEntry) × Contains q.joined (f, n) × (calls_of f q.seen ≡ calls ++ made_by f last) × AreSuch P calls

module _ (P : TableEntry → Type 0) where
  replaced : (own last : List CallMade) (calls : List TableEntry) (p next : PassOfTable) (f then : FrontPassState) (both : List TableEntry) → Renewed p f both next then
      → calls_of (f.pass).number (f.pass).seen ≡ calls ++ made_by (f.pass).number last → AreSuch P calls → calls_of 0 next.seen ≡ calls_of 0 both ++ made_by 0 own
      → Replaces P own last p (f.pass).number next (then.pass).number
  replaced own last calls p next f then both r made such zeros = record {
    stays = record {
      number = r.number;
      least = (let made = r.made in omega arith);
      seen = prefix_then p.seen both next.seen r.first_before r.on;
      kept = λ k n ne has. (r.kept k n has, r.stay k n ne has);
    };
    made = r.made;
    next = r.own;
    fresh = subst (λ (k : ℕ). calls_of k next.seen ≡ []) (sym r.own) r.fresh;
    zeros = zeros ∙ ap (λ (l : List TableEntry). l ++ made_by 0 own) r.zeros;
    front = λ ne. let j = r.joined_front ne in (j.0, calls, j.1, j.2 ∙ (r.front_all ∙ made), such);
  }

  pub renews_replaced : (last : List CallMade) (calls : List TableEntry) (p next : PassOfTable) (f then : FrontPassState) → Renews p f next then
      → calls_of (f.pass).number (f.pass).seen ≡ calls ++ made_by (f.pass).number last → AreSuch P calls → p.number ≡ 0 → Replaces P [] last p (f.pass).number next (then.pass).number
  renews_replaced last calls p next f then r made such first =
      replaced [] last calls p next f then (r.both).seen (renews_so p next f then first r) made such
      (ap (λ (x : PassOfTable). calls_of 0 x.seen) r.kept ∙ sym (append-nil (calls_of 0 (r.both).seen)))

  pub renews_by_replaced : (does : PendingCall) (back : PendingReply) (p next : PassOfTable) (f then : FrontPassState) → RenewsBy does back p f next then → OwnAre P f
      → p.number ≡ 0 → Replaces P ((does, back) ∷ []) [] p (f.pass).number next (then.pass).number
  renews_by_replaced does back p next f then r own first =
      replaced ((does, back) ∷ []) [] (calls_of (f.pass).number (f.pass).seen) p next f then (r.both).seen (renews_by_so does back p next f then first r)
      (sym (append-nil (calls_of (f.pass).number (f.pass).seen))) own
      (ap (λ (x : PassOfTable). calls_of 0 x.seen) r.kept ∙ own_is)
    where
      own_is : calls_of 0 (r.after).seen ≡ calls_of 0 (r.both).seen ++ entry 0 does back ∷ []
      own_is = subst (λ (n : ℕ). calls_of n (r.after).seen ≡ calls_of n (r.both).seen ++ entry n does back ∷ []) (r.joins).number (Called-own r.both r.after does back (r.calls).called)

  -- What is such of all that was called is so of what was renewed.
  pub replaced_anew : (own last : List CallMade) (p : PassOfTable) (f : ℕ) (q : PassOfTable) (g : ℕ) → AreSuch P (made_by 0 own) → AreSuch P (made_by f last) → Replaces P own last p f q g → Anew P p f q g
  replaced_anew own last p f q g zeros ends r = record {
    stays = r.stays;
    made = r.made;
    next = r.next;
    front = λ ne. let x = r.front ne in (x.0, x.2, subst (AreSuch P) (sym x.3) (all_both P x.1 (made_by f last) x.4 ends));
    own = λ are. subst (AreSuch P) (sym r.zeros) (all_both P (calls_of 0 p.seen) (made_by 0 own) are zeros);
  }

  -- the same, where such ones are also others
  pub replaced_as : (Q : TableEntry → Type 0) → ((e : TableEntry) → P e → Q e) → (own last : List CallMade) (p : PassOfTable) (f : ℕ) (q : PassOfTable) (g : ℕ) → Replaces P own last p f q g → Replaces Q own last p f q g
  replaced_as Q to own last p f q g r = record {
    stays = r.stays;
    made = r.made;
    next = r.next;
    fresh = r.fresh;
    zeros = r.zeros;
    front = λ ne. let x = r.front ne in (x.0, x.1, x.2, x.3, all_as P Q to x.1 x.4);
  }

module _ (P : TableEntry → Type 0) where
  -- The front's pass was replaced by one that ended the channel at last, after tries in vain.
  abbrev pub Drops : PassOfTable → ℕ → PassOfTable → ℕ → Type 0
  Drops p f q g = Replaces (WithTries P) [] (drop_call true ∷ []) p f q g

  -- It was replaced by one that tries, and that by the next one.
  abbrev pub Ends : PassOfTable → ℕ → PassOfTable → ℕ → Type 0
  Ends p f q g = (r : PassOfTable) × (h : ℕ) × Replaces P [] [] p f r h × Drops r h q g
