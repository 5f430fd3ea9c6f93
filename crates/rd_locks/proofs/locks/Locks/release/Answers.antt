use Rattle.std.proofs.Common.{◌≡◌, ◌∙◌, sym, ap, refl, subst, List, ℕ, nat_eq}
use Rattle.std.specs.Prelude.{None, Option}
use Rattle.std.specs.HashMap.{get}
use Rattle.std.proofs.lemmas.Bool.{false_from_ne_true}
use Rattle.rd_locks.specs.declared.held.Held.{Held}
use Rattle.rd_locks.specs.Locks.{LockList, released}
use Rattle.rd_locks.specs.Slots.{slot_at, standing}
use Rattle.rd_locks.specs.Index.{IsHome}
use Rattle.rd_locks.specs.declared.slots.Slot.{Slot}
use Rattle.rd_locks.specs.declared.index.Home.{Home}
use Rattle.rd_locks.proofs.StandingLemmas.{standing-released}
use Rattle.rd_locks.proofs.locks.Locks.release.Goals as goal

pub returns-in_default : goal.returns-in_default
returns-in_default c =
    let slots : List Slot = c.self.inside.slots.items in
    let none : get nat_eq c.self.inside.homes c.args.file ≡ None = sym c.remove.ensures.value ∙ c.in_default.is in
    let left : standing slots ≡ released c.args.file (standing slots) =
    standing-released c.args.file slots slots refl (λ i. refl)
    (λ i e. false_from_ne_true _ (λ stands. subst (λ (home : Option Home). IsHome home (slot_at slots i).lock.node) none
    (subst (λ (file : ℕ). IsHome (get nat_eq c.self.inside.homes file) (slot_at slots i).lock.node) e (c.self.invariant.housed i stands)))) (λ i ne. refl) in
    let locks : standing slots ≡ c.args.self.now.locks = ap (λ (l : LockList). l.locks) c.self.view_is in
    λ i. record {
      locks = (left ∙ ap (λ (l : List Held). released c.args.file l) locks) i;
      reserved = (c.self.view_is i).reserved;
    }
