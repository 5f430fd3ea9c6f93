-- Calls one after the other make a history: the newest of them comes first in it.
use Rattle.std.proofs.Common.{◌≡◌, ◌∙◌, refl, sym, ap, subst, List, [], ◌∷◌, ◌++◌, append_assoc, append-nil}
use Rattle.std.specs.Prelude.{reverse}
use Rattle.std.proofs.lemmas.Grind.{reverse_onto}
use Rattle.rd_pending.specs.History.{Call, Holds, accepted_in, after, begins, called, completes, drops, lives, removes, sends, submits, takes}
use Rattle.rd_pending.specs.Outcomes.{Accepted}
use Rattle.rd_exchanges.specs.Exchanges.{MayGo, accepted_along, accepted_at, goes}

-- one call, and then others
one_first : (c : Call) (cs h : List Call) → reverse (c ∷ cs) ++ h ≡ reverse cs ++ c ∷ h
one_first c cs h = ap (λ (xs : List Call). xs ++ h) (reverse_onto cs c []) ∙ append_assoc (reverse cs) (c ∷ []) h

pub leads : (cs h : List Call) → after (reverse cs ++ h) ≡ goes (after h) cs
leads [] h = refl
leads (c ∷ cs) h = ap after (one_first c cs h) ∙ leads cs (c ∷ h)

pub holds_on : (cs h : List Call) → Holds h → MayGo (after h) cs → Holds (reverse cs ++ h)
holds_on [] h holds may = holds
holds_on (c ∷ cs) h holds may = subst Holds (sym (one_first c cs h)) (holds_on cs (c ∷ h) (may.0, holds) may.1)

pub held_before : (cs h : List Call) → Holds (reverse cs ++ h) → Holds h × MayGo (after h) cs
held_before [] h holds = (holds, tt)
held_before (c ∷ cs) h holds =
    let both = held_before cs (c ∷ h) (subst Holds (one_first c cs h) holds) in
    (both.0.1, (both.0.0, both.1))

-- what a call has accepted comes behind the others
accepted_more : (c : Call) (h : List Call) → accepted_in (c ∷ h) ≡ accepted_in h ++ accepted_at (after h) c
accepted_more (submits a named o) h = refl
accepted_more (begins c) h = sym (append-nil (accepted_in h))
accepted_more (lives d) h = sym (append-nil (accepted_in h))
accepted_more (removes d) h = sym (append-nil (accepted_in h))
accepted_more (takes n) h = sym (append-nil (accepted_in h))
accepted_more (completes head bytes) h = sym (append-nil (accepted_in h))
accepted_more sends h = sym (append-nil (accepted_in h))
accepted_more drops h = sym (append-nil (accepted_in h))

pub accepted_in_order : (cs h : List Call) → accepted_in (reverse cs ++ h) ≡ accepted_in h ++ accepted_along (after h) cs
accepted_in_order [] h = sym (append-nil (accepted_in h))
accepted_in_order (c ∷ cs) h =
    ap accepted_in (one_first c cs h)
    ∙ accepted_in_order cs (c ∷ h)
    ∙ ap (λ (xs : List Accepted). xs ++ accepted_along (called (after h) c) cs) (accepted_more c h)
    ∙ append_assoc (accepted_in h) (accepted_at (after h) c) (accepted_along (called (after h) c) cs)
