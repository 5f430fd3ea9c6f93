-- What is taken of a history, where each refusal is to have its cause.
use Rattle.std.specs.Prelude.{◌≡◌, ℕ, Bool, true, false, List, [], ◌∷◌, Some}
use Rattle.std.specs.List.{AllByRecursion}
use Rattle.rd_devices.specs.declared.list.Announce.{Announce}
use Rattle.rd_front.specs.Front.{desk_place}
use Rattle.rd_front.specs.State.{DeviceDeskState}
use Rattle.rd_front.specs.declared.calls.FrontCall.{FrontCall}
use Rattle.rd_front.specs.declared.calls.FrontReply.{FrontReply}
use Rattle.rd_turn.specs.declared.object.Entry.{Entry}
use Rattle.rd_served_order.specs.ServedHistories.{may_start}
use Rattle.rd_served_refusals.specs.Heeding.{hindered_by}

-- each device that is announced has a desk
abbrev pub HaveDesks : List Announce → List DeviceDeskState → Type 0
HaveDesks devices desks = AllByRecursion (λ (a : Announce). (place : ℕ) × (desk_place desks a.id ≡ Some place)) devices

-- A message is heard, or a job tried again, only where no reply hindered since the channel began.
abbrev pub StartUnhindered : Bool → List (Entry FrontCall FrontReply) → Type 0
StartUnhindered was [] = Unit {0}
StartUnhindered was (e ∷ es) = (may_start e.call e.reply ≡ true → was ≡ false) × StartUnhindered (hindered_by was e.call e.reply) es

-- whether a reply hindered since the channel began, after all calls of a history
abbrev pub hindered_after : Bool → List (Entry FrontCall FrontReply) → Bool
hindered_after was [] = was
hindered_after was (e ∷ es) = hindered_after (hindered_by was e.call e.reply) es
