-- How a pattern is walked along a name up to its next `*`.
use Rattle.std.specs.Prelude.{◌≡◌, ℕ, ◌<◌, ◌≤◌, true, false, List, ◌∷◌, length}
use Rattle.rd_dirinfo.specs.declared.naming.Naming.{Naming}
use Rattle.rd_dirinfo.specs.declared.matching.Walk.{Walk}
use Rattle.rd_dirinfo.specs.declared.matching.Walk.TheVariants as walk
use Rattle.rd_dirinfo.specs.Naming.{Name, seen}
use Rattle.rd_dirinfo.specs.Patterns.{star, is_cut_by}

-- What a walk along a name tells of the pattern, and of the same pattern after a `*`: the whole name matches; or it is too short for
-- both; or the rest of both decides, from a `*` on; or the pattern differs from the name.
abbrev pub WalkTells : Naming → List ℕ → Name → Walk → Type 0
WalkTells naming pattern name walk.Whole = is_cut_by (seen naming pattern) (seen naming name) ≡ true
WalkTells naming pattern name walk.Short =
    (is_cut_by (seen naming pattern) (seen naming name) ≡ false)
    × (is_cut_by (star ∷ seen naming pattern) (seen naming name) ≡ false)
WalkTells naming pattern name (walk.Star others rest) =
    (is_cut_by (seen naming pattern) (seen naming name) ≡ is_cut_by (star ∷ seen naming others.now) (seen naming rest.now))
    × (is_cut_by (star ∷ seen naming pattern) (seen naming name) ≡ is_cut_by (star ∷ seen naming others.now) (seen naming rest.now))
    × (length others.now < length pattern)
    × (length rest.now ≤ length name)
WalkTells naming pattern name walk.Differs = is_cut_by (seen naming pattern) (seen naming name) ≡ false
