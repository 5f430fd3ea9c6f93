use Rattle.std.proofs.Common.{◌∙◌, ◌++◌, ◌∷◌, List, [], ap, ℕ, sym}
use Rattle.std.specs.Prelude.{is_some}
use Rattle.std.specs.BTreeMap.{insert_entry}
use Rattle.std.specs.Ordering.{nat_cmp}
use Rattle.rd_world.proofs.ApplicationsLemmas.{put_same}
use Rattle.rd_world.proofs.PlacesLemmas.{places_found, places_missing}
use Rattle.rd_world.proofs.applications.find_place.Goals as goal

pub returns-in-Some : goal.returns-in-Some
returns-in-Some c = record {
  places = c.push.new.self;
  more = c.in_ok-push.ensures.items ∙ ap (λ (l : List ℕ). l ++ c.args.place ∷ []) (sym (places_found c.args.found.now.entries c.args.number c.in-Some.places.now c.in-Some.ensures.value));
  put = (c.get_mut.follows.holds c.push.new.self).0 ∙ sym (put_same c.args.found.now.entries c.args.number c.push.new.self c.get_mut.ensures.ordered (ap is_some (sym c.in-Some.ensures.value)));
}

pub returns : goal.returns
returns c = record {
  places = c.push-2.new.self;
  more = c.in_ok-push-2.ensures.items ∙ ap (λ (l : List ℕ). l ++ c.args.place ∷ []) (c.new-places.ensures.items ∙ sym (places_missing c.args.found.now.entries c.args.number c.in_default.ensures.value));
  put = c.in_ok-insert.ensures.entries ∙ ap (λ m. insert_entry nat_cmp m.entries c.args.number c.push-2.new.self) c.get_mut.follows.holds-at-none;
}
