-- A front's history by parts, each call of which is a step of the front.
use Rattle.std.specs.Prelude.{List, [], ◌∷◌}
use Rattle.rd_front.specs.Calls.{FrontEntry}
use Rattle.rd_front.specs.Front.{FrontStep}
use Rattle.rd_served_causes.specs.ServedHistories.{HistoryGoes}
use Rattle.rd_served_causes.specs.ServedParts.{FrontPart}
use Rattle.rd_served_causes.specs.ServedServed.{Served}

-- Each call leads the front from where the parts before it left it to where its own leave it, with this reply.
abbrev pub AreSteps : (old : Served) (entries : List FrontEntry) (parts : List (List FrontPart)) (new : Served) → HistoryGoes old entries parts new → Type 0
AreSteps old [] [] new goes = Unit {0}
AreSteps old (e ∷ es) (ps ∷ pss) new goes = FrontStep old.front e.call e.reply (goes.0).front × AreSteps goes.0 es pss new goes.2
AreSteps old _ _ new goes = ⊥
