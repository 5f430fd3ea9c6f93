-- What holds of each part of a history, with what was done before it.
use Rattle.std.proofs.Common.{List, [], ◌∷◌, ◌++◌}
use Rattle.rd_front.specs.declared.calls.FrontCall.{FrontCall}
use Rattle.rd_front.specs.declared.calls.FrontReply.{FrontReply}
use Rattle.rd_turn.specs.declared.object.Entry.{Entry}
use Rattle.rd_deeds.specs.Talk.{Deed}
use Rattle.rd_served.specs.Deeds.{deeds_after, deeds_of}
use Rattle.rd_served.specs.Histories.{HistoryGoes}
use Rattle.rd_served.specs.Parts.{FrontPart, PartsGo}
use Rattle.rd_served.specs.Served.{Served}

module _ (P : Served → List Deed → FrontPart → Type 0) where
  abbrev pub PartsMeet : (p : Served) (deeds : List Deed) (ps : List FrontPart) (q : Served) → PartsGo p ps q → Type 0
  PartsMeet p deeds [] q goes = Unit {0}
  PartsMeet p deeds (x ∷ ps) q goes = P p deeds x × PartsMeet goes.0 (deeds_of x ++ deeds) ps q goes.2

  abbrev pub CallsMeet : (p : Served) (deeds : List Deed) (entries : List (Entry FrontCall FrontReply)) (parts : List (List FrontPart)) (q : Served) → HistoryGoes p entries parts q → Type 0
  CallsMeet p deeds [] [] q goes = Unit {0}
  CallsMeet p deeds (e ∷ entries) (ps ∷ parts) q goes = PartsMeet p deeds ps goes.0 (goes.1).goes × CallsMeet goes.0 (deeds_after ps deeds) entries parts q goes.2
  CallsMeet p deeds _ _ q goes = ⊥
