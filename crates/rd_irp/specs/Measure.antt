-- How far a request goes: what its head says, and how many bytes its body leaves.
use Rattle.std.specs.Prelude.{◌≡◌, ℕ, List, length, Result, Ok, Err, IsErr}
use Rattle.rd_base.specs.declared.bad.Bad.{Bad}
use Rattle.rd_base.specs.Position.{Position, at_start}
use Rattle.rd_base.specs.Layout.{Layout, and_then, met}
use Rattle.rd_irp.specs.declared.request.RequestHead.{RequestHead}
use Rattle.rd_irp.specs.Request.{request_head, body_after}

-- From the old position to the new one it goes over what a layout takes, or it meets the layout's first fault.
abbrev pub Skips : {A : Type 0} → Layout A → Position → Position → Result (Unit {0}) Bad → Type 0
Skips l old new (Ok u) = and_then (met l old) (λ x. Ok x.1) ≡ Ok new
Skips l old new (Err bad) = met l old ≡ Err bad

-- the same, where only that there is a fault counts, and not which
abbrev pub SkipsOrFails : {A : Type 0} → Layout A → Position → Position → Result (Unit {0}) Bad → Type 0
SkipsOrFails l old new (Ok u) = and_then (met l old) (λ x. Ok x.1) ≡ Ok new
SkipsOrFails l old new (Err bad) = IsErr (met l old)

-- how many bytes a layout's value leaves, or the first fault
abbrev pub tail_of : {A : Type 0} → Layout A → List ℕ → Result ℕ Bad
tail_of l bytes = and_then (met l (at_start bytes)) (λ x. Ok (length x.1.left))

-- how many bytes are left after a value, and where a fault was met instead, all of them
abbrev pub left_after : {A : Type 0} → ℕ → Result (A × Position) Bad → ℕ
left_after all (Ok x) = length x.1.left
left_after all (Err bad) = all

-- The head of a request, and how many bytes come after its body; where the body has a fault, all after the head. Or the first fault of the head.
abbrev pub measure_of : List ℕ → Result (RequestHead × ℕ) Bad
measure_of bytes = and_then (met request_head (at_start bytes)) (λ x. Ok (x.0, left_after (length x.1.left) (met (body_after x.0) x.1)))
