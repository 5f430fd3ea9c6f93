-- The one desk of a front.
use Rattle.std.proofs.Common.{◌≡◌, subst, List, [], ◌∷◌, ◌++◌}
use Rattle.std.specs.List.{AllZip}
use Rattle.rd_front.specs.Kept.{DeskGoesOn}
use Rattle.rd_front.specs.State.{DeviceDeskState}

-- where there was one desk, the last one is that desk
pub one_goes_on : (old d : DeviceDeskState) (ds before : List DeviceDeskState) → AllZip DeskGoesOn (old ∷ []) ds → ds ≡ before ++ d ∷ [] → DeskGoesOn old d
one_goes_on old d [] before goes is = absurd goes
one_goes_on old d (e ∷ []) [] goes is =
    let same : e ≡ d = cc in subst (λ (x : DeviceDeskState). DeskGoesOn old x) same goes.0
one_goes_on old d (e ∷ []) (x ∷ []) goes is = absurd (cc is)
one_goes_on old d (e ∷ []) (x ∷ (y ∷ before)) goes is = absurd (cc is)
one_goes_on old d (e ∷ (f ∷ ds)) before goes is = absurd goes.1
