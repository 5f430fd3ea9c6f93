use Rattle.std.proofs.Common.{◌⊎◌, inl, inr, refl, ap, ◌≤◌, lit≤, arith, []}
use Rattle.rd_table.specs.Worked.{in_use}
use Rattle.rd_host_lines.specs.Places.{HasBegun, HaveDropped, lives_given}
use Rattle.rd_host_lines.proofs.ReadyLemmas.{ready_before}
use Rattle.rd_host_lines.proofs.laws.places_are_as_listed.Goals as goal

pub returns-clause-begun : goal.returns-clause-begun
returns-clause-begun c = record { channel = 1; by = 0; before = []; after = _; place = refl; first = refl; waits = tt; ready = inl (lit≤ tt) }

not_two : HasBegun 2 in_use → ⊥
not_two w = by (ready_before 2 w.before _ w.after in_use w.place w.ready)
  where
    by : (2 ≤ lives_given in_use) ⊎ HaveDropped in_use → ⊥
    by (inl few) = absurd (omega (arith, few))
    by (inr (inl none)) = absurd none
    by (inr (inr (inl none))) = absurd none
    by (inr (inr (inr (inl none)))) = absurd none
    by (inr (inr (inr (inr (inl none))))) = absurd none
    by (inr (inr (inr (inr (inr (inl none)))))) = absurd none
    by (inr (inr (inr (inr (inr (inr (inl none))))))) = absurd none
    by (inr (inr (inr (inr (inr (inr (inr none))))))) = absurd none

pub returns-clause-waited : goal.returns-clause-waited
returns-clause-waited c = not_two

pub returns-clause-control : goal.returns-clause-control
returns-clause-control c = refl

pub returns-clause-meanwhile : goal.returns-clause-meanwhile
returns-clause-meanwhile c = λ rest. rest.1.1.0

pub returns-clause-early : goal.returns-clause-early
returns-clause-early c = λ nothing. nothing.1.1.0 refl

pub returns-clause-late : goal.returns-clause-late
returns-clause-late c = λ x hurried passed. let patient = passed.patient in absurd (cc (patient, hurried))

pub returns-clause-found : goal.returns-clause-found
returns-clause-found c = λ awaited. let none = awaited.none.1.1.1.1.1.0 refl in absurd (cc none)

pub returns-clause-ends : goal.returns-clause-ends
returns-clause-ends c = (refl, refl)

pub returns-clause-not_twice : goal.returns-clause-not_twice
returns-clause-not_twice c = λ twice. let reply = ap (λ x. x.1) twice.0 in absurd (cc reply)

pub returns-clause-not_never : goal.returns-clause-not_never
returns-clause-not_never c = λ never. let reply = ap (λ x. x.1) never in absurd (cc reply)
