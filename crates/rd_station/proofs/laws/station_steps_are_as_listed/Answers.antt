use Rattle.std.proofs.Common.{refl, inl, inr, ◌∷◌, [], arith}
use Rattle.std.specs.Prelude.{IfSome}
use Rattle.std.proofs.lemmas.List.Elements.{All-head}
use Rattle.rd_base.specs.declared.journal.Item.TheVariants.{Came}
use Rattle.rd_base.specs.Lawful.{IsBelow, named_key}
use Rattle.rd_station.specs.Station.{MayPut}
use Rattle.rd_station.specs.Worked.{closes, close, key, told, with_jobs}
use Rattle.rd_station.proofs.laws.station_steps_are_as_listed.Goals as goal

not_below : IsBelow (key 1) (key 0) → ⊥
not_below (inl less) = omega (arith, less)
not_below (inr less) = omega (arith, less.1)

pub returns : goal.returns
returns c = record {
  runs = (
    closes 1 [],
    refl,
    λ did. record {
      runs = refl;
      answers = ((tt, tt), tt);
      parks = record { left = []; ended = (refl, refl); waits = refl; few = omega arith };
      starved = λ t. absurd (cc (t));
      close = λ e. refl;
    },
  );
  unfit = ((λ (may : MayPut (with_jobs told (close 1 7 ∷ [])) (key 0)). not_below (All-head (λ entry. IfSome (named_key entry) (λ earlier. IsBelow earlier (key 0))) (Came (key 1)) [] may.above)), refl, refl);
}
