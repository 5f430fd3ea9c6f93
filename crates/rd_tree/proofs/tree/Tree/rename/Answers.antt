use Rattle.std.proofs.Common.{◌≡◌, ◌∙◌, refl, sym, ap, subst, ℕ, ◌<◌, ◌-◌, length, Option, Some, true, false, arith}
use Rattle.std.specs.Option.{is_some, unwrap_or}
use Rattle.std.proofs.lemmas.Grind.{common_steps}
use Rattle.rd_dirinfo.specs.Naming.{Name}
use Rattle.rd_dirinfo.specs.Paths.{Names, seen_path, is_within_limits}
use Rattle.rd_tree.specs.declared.refusal.MoveNo.{MoveNo}
use Rattle.rd_tree.specs.declared.refusal.MoveNo.TheVariants as move
use Rattle.std.specs.Result.{OnOk}
use Rattle.rd_tree.specs.Places.{Places, IsLive, move_refusal, moved, IsWhole, Renames}
use Rattle.rd_tree.specs.Walk.{down, FitsWithin, IsDeep}
use Rattle.rd_tree.specs.Nodes.{child_of, places_of}
use Rattle.rd_tree.proofs.NameLemmas.{path_limits}
use Rattle.rd_tree.proofs.PlaceLemmas.{live_place, located_folder}
use Rattle.rd_tree.proofs.ParentLemmas.{link_is}
use Rattle.rd_tree.proofs.AddLemmas.{same_seen, sound_seen}
use Rattle.rd_tree.proofs.RefuseLemmas.{added_within, why_own, why_inside, why_lost, why_deep, why_last}
use Rattle.rd_tree.proofs.MoveLemmas.{own_found, sound_retitled, retitled_seen}
use Rattle.rd_tree.proofs.ShiftLemmas.{shifted}
use Rattle.rd_tree.proofs.WholeLemmas.{whole}
use Rattle.rd_tree.proofs.tree.Tree.rename.Goals.{in-Ok, in-Err, in-Ok-shift, in-Err-shift}
use Rattle.rd_tree.proofs.tree.Tree.rename.Goals as goal

pub returns-in_default-clause-renames : goal.returns-in_default-clause-renames
returns-in_default-clause-renames c =
    let naming = c.self.inside.naming in
    let nodes = c.self.inside.nodes in
    let s = c.self.invariant in
    let m : ℕ = c.args.node.0 in
    let names : Names = c.names-names.result.now in
    let live = live_place naming nodes m (subst (λ (t : Places). IsLive t m) (sym c.self.view_is) c.requires.live) in
    let link = link_is naming nodes s m live c.requires.other in
    let target : c.find-target.result ≡ Some m = grind (arith, common_steps) in
    let is = sym c.find-target.ensures ∙ target in
    absurd (own_found naming nodes s m link.0 link.1 names live link.2 is (c.in_default.ensures.lost (subst (λ (p : Names). 0 < length p) (sym c.names-names.ensures.names) c.requires.target)))

pub retitle-requires-clause-linked : goal.retitle-requires-clause-linked
retitle-requires-clause-linked c =
    let naming = c.self.inside.naming in
    let nodes = c.self.inside.nodes in
    let s = c.self.invariant in
    let m : ℕ = c.args.node.0 in
    let names : Names = c.names-names.result.now in
    let live = live_place naming nodes m (subst (λ (t : Places). IsLive t m) (sym c.self.view_is) c.requires.live) in
    let link = link_is naming nodes s m live c.requires.other in
    ap is_some link.2

pub invariant_of-self : goal.invariant_of-self
invariant_of-self c =
    let naming = c.self.inside.naming in
    let nodes = c.self.inside.nodes in
    let s = c.self.invariant in
    let m : ℕ = c.args.node.0 in
    let names : Names = c.names-names.result.now in
    let live = live_place naming nodes m (subst (λ (t : Places). IsLive t m) (sym c.self.view_is) c.requires.live) in
    let target : c.find-target.result ≡ Some m = grind (arith, common_steps) in
    let is = sym c.find-target.ensures ∙ target in
    elim c.match-retitle.branch [
      | in-Ok w ↦ sound_retitled naming nodes c.retitle.new.nodes s m names c.in-Some.folder c.in-Some.name.now c.in-Some.ensures.located is w.in-Ok.ensures.retitled
      | in-Err w ↦ sound_seen naming nodes c.retitle.new.nodes s w.in-Err.ensures.refused
    ]

pub returns-then-eq-clause-renames : goal.returns-then-eq-clause-renames
returns-then-eq-clause-renames c =
    let naming = c.self.inside.naming in
    let nodes = c.self.inside.nodes in
    let s = c.self.invariant in
    let m : ℕ = c.args.node.0 in
    let names : Names = c.names-names.result.now in
    let live = live_place naming nodes m (subst (λ (t : Places). IsLive t m) (sym c.self.view_is) c.requires.live) in
    let target : c.find-target.result ≡ Some m = grind (arith, common_steps) in
    let is = sym c.find-target.ensures ∙ target in
    let why = why_own naming nodes s m live names c.args.replace is in
    let table : move_refusal (places_of naming nodes) m names c.args.replace ≡ move_refusal c.args.self.now m c.args.to.now c.args.replace = λ i. move_refusal (c.self.view_is i) m (c.names-names.ensures.names i) c.args.replace in
    elim c.match-retitle.branch [
      | in-Ok w ↦ subst (λ r. Renames c.args.self.now (places_of naming c.retitle.new.nodes) m c.args.to.now c.args.replace r) (sym w.result-is) (
        sym table ∙ why,
        retitled_seen naming nodes c.retitle.new.nodes s m names c.in-Some.folder c.in-Some.name.now c.in-Some.ensures.located is w.in-Ok.ensures.retitled live ∙ (λ i. moved (c.self.view_is i) m (c.names-names.ensures.names i)),
      )
      | in-Err w ↦ subst (λ r. Renames c.args.self.now (places_of naming c.retitle.new.nodes) m c.args.to.now c.args.replace r) (sym w.result-is) (
        sym (ap (λ (o : Option MoveNo). unwrap_or o move.Memory) (sym table ∙ why)),
        same_seen naming nodes c.retitle.new.nodes w.in-Err.ensures.refused ∙ c.self.view_is,
      )
    ]

pub returns-then-eq-clause-is_whole : goal.returns-then-eq-clause-is_whole
returns-then-eq-clause-is_whole c =
    let naming = c.self.inside.naming in
    let nodes = c.self.inside.nodes in
    let s = c.self.invariant in
    let m : ℕ = c.args.node.0 in
    let names : Names = c.names-names.result.now in
    let target : c.find-target.result ≡ Some m = grind (arith, common_steps) in
    let is = sym c.find-target.ensures ∙ target in
    elim c.match-retitle.branch [
      | in-Ok w ↦ subst (λ r. OnOk r (IsWhole (places_of naming c.retitle.new.nodes))) (sym w.result-is)
          (whole naming c.retitle.new.nodes (sound_retitled naming nodes c.retitle.new.nodes s m names c.in-Some.folder c.in-Some.name.now c.in-Some.ensures.located is w.in-Ok.ensures.retitled))
      | in-Err w ↦ subst (λ r. OnOk r (IsWhole (places_of naming c.retitle.new.nodes))) (sym w.result-is) tt
    ]

pub returns-then-leads_through-clause-renames : goal.returns-then-leads_through-clause-renames
returns-then-leads_through-clause-renames c =
    let naming = c.self.inside.naming in
    let nodes = c.self.inside.nodes in
    let s = c.self.invariant in
    let m : ℕ = c.args.node.0 in
    let names : Names = c.names-names.result.now in
    let live = live_place naming nodes m (subst (λ (t : Places). IsLive t m) (sym c.self.view_is) c.requires.live) in
    let none : c.find-target.result ≡ Some m → ⊥ = λ e. grind (arith, common_steps) in
    let other = λ (e : down (child_of nodes) 0 (seen_path naming names) ≡ Some m). none (c.find-target.ensures ∙ e) in
    let why = why_inside naming nodes s m live names c.args.replace other (c.if-leads_through.ensures.through refl) in
    let table : move_refusal (places_of naming nodes) m names c.args.replace ≡ move_refusal c.args.self.now m c.args.to.now c.args.replace = λ i. move_refusal (c.self.view_is i) m (c.names-names.ensures.names i) c.args.replace in
    (sym (ap (λ (o : Option MoveNo). unwrap_or o move.Memory) (sym table ∙ why)), refl)

pub returns-in_default-locate-clause-renames : goal.returns-in_default-locate-clause-renames
returns-in_default-locate-clause-renames c =
    let naming = c.self.inside.naming in
    let nodes = c.self.inside.nodes in
    let s = c.self.invariant in
    let m : ℕ = c.args.node.0 in
    let names : Names = c.names-names.result.now in
    let live = live_place naming nodes m (subst (λ (t : Places). IsLive t m) (sym c.self.view_is) c.requires.live) in
    let some : 0 < length names = subst (λ (p : Names). 0 < length p) (sym c.names-names.ensures.names) c.requires.target in
    let none : c.find-target.result ≡ Some m → ⊥ = λ e. grind (arith, common_steps) in
    let other = λ (e : down (child_of nodes) 0 (seen_path naming names) ≡ Some m). none (c.find-target.ensures ∙ e) in
    let past = c.if-leads_through.ensures.past refl in
    let why = why_lost naming nodes s m live names c.args.replace other past (c.in_default-locate.ensures.lost some) in
    let table : move_refusal (places_of naming nodes) m names c.args.replace ≡ move_refusal c.args.self.now m c.args.to.now c.args.replace = λ i. move_refusal (c.self.view_is i) m (c.names-names.ensures.names i) c.args.replace in
    (sym (ap (λ (o : Option MoveNo). unwrap_or o move.Memory) (sym table ∙ why)), refl)

pub units_left-requires : goal.units_left-requires
units_left-requires c =
    let within : is_within_limits c.names-names.result.now ≡ true = path_limits c.names-names.result.now c.args.to.now c.names-names.ensures.names c.names-names.ensures.within in
    (added_within c.names-names.result.now within).1

pub returns-then-not-fits-clause-renames : goal.returns-then-not-fits-clause-renames
returns-then-not-fits-clause-renames c =
    let naming = c.self.inside.naming in
    let nodes = c.self.inside.nodes in
    let s = c.self.invariant in
    let m : ℕ = c.args.node.0 in
    let names : Names = c.names-names.result.now in
    let live = live_place naming nodes m (subst (λ (t : Places). IsLive t m) (sym c.self.view_is) c.requires.live) in
    let some : 0 < length names = subst (λ (p : Names). 0 < length p) (sym c.names-names.ensures.names) c.requires.target in
    let none : c.find-target.result ≡ Some m → ⊥ = λ e. grind (arith, common_steps) in
    let other = λ (e : down (child_of nodes) 0 (seen_path naming names) ≡ Some m). none (c.find-target.ensures ∙ e) in
    let past = c.if-leads_through.ensures.past refl in
    let loc = c.in-Some-locate.ensures.located in
    let folder = located_folder naming nodes s names c.in-Some-locate.folder c.in-Some-locate.name.now loc in
    let deep = subst (λ (u : ℕ). IsDeep (child_of nodes) m (64 - length names) u) c.units_left.ensures (c.if-not-fits.ensures.deep refl) in
    let why = why_deep naming nodes s m live names c.args.replace other past folder some deep in
    let table : move_refusal (places_of naming nodes) m names c.args.replace ≡ move_refusal c.args.self.now m c.args.to.now c.args.replace = λ i. move_refusal (c.self.view_is i) m (c.names-names.ensures.names i) c.args.replace in
    (sym (ap (λ (o : Option MoveNo). unwrap_or o move.Memory) (sym table ∙ why)), refl)

pub returns-then-is_taken-clause-renames : goal.returns-then-is_taken-clause-renames
returns-then-is_taken-clause-renames c =
    let naming = c.self.inside.naming in
    let nodes = c.self.inside.nodes in
    let s = c.self.invariant in
    let m : ℕ = c.args.node.0 in
    let names : Names = c.names-names.result.now in
    let live = live_place naming nodes m (subst (λ (t : Places). IsLive t m) (sym c.self.view_is) c.requires.live) in
    let some : 0 < length names = subst (λ (p : Names). 0 < length p) (sym c.names-names.ensures.names) c.requires.target in
    let none : c.find-target.result ≡ Some m → ⊥ = λ e. grind (arith, common_steps) in
    let other = λ (e : down (child_of nodes) 0 (seen_path naming names) ≡ Some m). none (c.find-target.ensures ∙ e) in
    let past = c.if-leads_through.ensures.past refl in
    let loc = c.in-Some-locate.ensures.located in
    let folder = located_folder naming nodes s names c.in-Some-locate.folder c.in-Some-locate.name.now loc in
    let fits = subst (λ (u : ℕ). FitsWithin (child_of nodes) m (64 - length names) u) c.units_left.ensures (c.if-not-fits.ensures.fits refl) in
    let within : is_within_limits names ≡ true = path_limits names c.args.to.now c.names-names.ensures.names c.names-names.ensures.within in
    let why = why_last naming nodes s m live names c.args.replace other past folder some true c.find-target.result c.find-target.ensures within fits (sym c.is_taken.ensures ∙ c.if-is_taken.true) in
    let table : move_refusal (places_of naming nodes) m names c.args.replace ≡ move_refusal c.args.self.now m c.args.to.now c.args.replace = λ i. move_refusal (c.self.view_is i) m (c.names-names.ensures.names i) c.args.replace in
    (sym (ap (λ (o : Option MoveNo). unwrap_or o move.Memory) (sym table ∙ why)), refl)

pub shift-requires-clause-linked : goal.shift-requires-clause-linked
shift-requires-clause-linked c =
    let naming = c.self.inside.naming in
    let nodes = c.self.inside.nodes in
    let s = c.self.invariant in
    let m : ℕ = c.args.node.0 in
    let names : Names = c.names-names.result.now in
    let live = live_place naming nodes m (subst (λ (t : Places). IsLive t m) (sym c.self.view_is) c.requires.live) in
    let link = link_is naming nodes s m live c.requires.other in
    ap is_some link.2

pub invariant_of-self-2 : goal.invariant_of-self-2
invariant_of-self-2 c =
    let naming = c.self.inside.naming in
    let nodes = c.self.inside.nodes in
    let s = c.self.invariant in
    let m : ℕ = c.args.node.0 in
    let names : Names = c.names-names.result.now in
    let live = live_place naming nodes m (subst (λ (t : Places). IsLive t m) (sym c.self.view_is) c.requires.live) in
    let link = link_is naming nodes s m live c.requires.other in
    let some : 0 < length names = subst (λ (p : Names). 0 < length p) (sym c.names-names.ensures.names) c.requires.target in
    let none : c.find-target.result ≡ Some m → ⊥ = λ e. grind (arith, common_steps) in
    let other = λ (e : down (child_of nodes) 0 (seen_path naming names) ≡ Some m). none (c.find-target.ensures ∙ e) in
    let past = c.if-leads_through.ensures.past refl in
    let loc = c.in-Some-locate.ensures.located in
    let folder = located_folder naming nodes s names c.in-Some-locate.folder c.in-Some-locate.name.now loc in
    let fits = subst (λ (u : ℕ). FitsWithin (child_of nodes) m (64 - length names) u) c.units_left.ensures (c.if-not-fits.ensures.fits refl) in
    let within : is_within_limits names ≡ true = path_limits names c.args.to.now c.names-names.ensures.names c.names-names.ensures.within in
    let limits = added_within names within in
    let b : ℕ = c.in-Some-locate.folder in
    let y : Name = c.in-Some-locate.name.now in
    let free = sym c.is_taken.ensures ∙ c.if-is_taken.false in
    let target : Option ℕ = c.find-target.result in
    elim c.match-shift.branch [
      | in-Ok-shift w ↦ (shifted naming nodes s m link.0 link.1 live link.2 names b y loc target c.find-target.ensures other past limits.0 fits c.args.replace free c.shift.new.nodes (w.in-Ok-shift.ensures.shifted link.0 link.1 link.2)).0
      | in-Err-shift w ↦ sound_seen naming nodes c.shift.new.nodes s w.in-Err-shift.ensures.refused
    ]

pub returns-clause-renames : goal.returns-clause-renames
returns-clause-renames c =
    let naming = c.self.inside.naming in
    let nodes = c.self.inside.nodes in
    let s = c.self.invariant in
    let m : ℕ = c.args.node.0 in
    let names : Names = c.names-names.result.now in
    let live = live_place naming nodes m (subst (λ (t : Places). IsLive t m) (sym c.self.view_is) c.requires.live) in
    let link = link_is naming nodes s m live c.requires.other in
    let some : 0 < length names = subst (λ (p : Names). 0 < length p) (sym c.names-names.ensures.names) c.requires.target in
    let none : c.find-target.result ≡ Some m → ⊥ = λ e. grind (arith, common_steps) in
    let other = λ (e : down (child_of nodes) 0 (seen_path naming names) ≡ Some m). none (c.find-target.ensures ∙ e) in
    let past = c.if-leads_through.ensures.past refl in
    let loc = c.in-Some-locate.ensures.located in
    let folder = located_folder naming nodes s names c.in-Some-locate.folder c.in-Some-locate.name.now loc in
    let fits = subst (λ (u : ℕ). FitsWithin (child_of nodes) m (64 - length names) u) c.units_left.ensures (c.if-not-fits.ensures.fits refl) in
    let within : is_within_limits names ≡ true = path_limits names c.args.to.now c.names-names.ensures.names c.names-names.ensures.within in
    let why = why_last naming nodes s m live names c.args.replace other past folder some false c.find-target.result c.find-target.ensures within fits (sym c.is_taken.ensures ∙ c.if-is_taken.false) in
    let table : move_refusal (places_of naming nodes) m names c.args.replace ≡ move_refusal c.args.self.now m c.args.to.now c.args.replace = λ i. move_refusal (c.self.view_is i) m (c.names-names.ensures.names i) c.args.replace in
    let limits = added_within names within in
    let b : ℕ = c.in-Some-locate.folder in
    let y : Name = c.in-Some-locate.name.now in
    let free = sym c.is_taken.ensures ∙ c.if-is_taken.false in
    let target : Option ℕ = c.find-target.result in
    elim c.match-shift.branch [
      | in-Ok-shift w ↦ subst (λ r. Renames c.args.self.now (places_of naming c.shift.new.nodes) m c.args.to.now c.args.replace r) (sym w.result-is) (
        sym table ∙ why,
        (shifted naming nodes s m link.0 link.1 live link.2 names b y loc target c.find-target.ensures other past limits.0 fits c.args.replace free c.shift.new.nodes (w.in-Ok-shift.ensures.shifted link.0 link.1 link.2)).1 ∙ (λ i. moved (c.self.view_is i) m (c.names-names.ensures.names i)),
      )
      | in-Err-shift w ↦ subst (λ r. Renames c.args.self.now (places_of naming c.shift.new.nodes) m c.args.to.now c.args.replace r) (sym w.result-is) (
        sym (ap (λ (o : Option MoveNo). unwrap_or o move.Memory) (sym table ∙ why)),
        same_seen naming nodes c.shift.new.nodes w.in-Err-shift.ensures.refused ∙ c.self.view_is,
      )
    ]

pub returns-clause-is_whole : goal.returns-clause-is_whole
returns-clause-is_whole c =
    let naming = c.self.inside.naming in
    let nodes = c.self.inside.nodes in
    let s = c.self.invariant in
    let m : ℕ = c.args.node.0 in
    let names : Names = c.names-names.result.now in
    let live = live_place naming nodes m (subst (λ (t : Places). IsLive t m) (sym c.self.view_is) c.requires.live) in
    let link = link_is naming nodes s m live c.requires.other in
    let some : 0 < length names = subst (λ (p : Names). 0 < length p) (sym c.names-names.ensures.names) c.requires.target in
    let none : c.find-target.result ≡ Some m → ⊥ = λ e. grind (arith, common_steps) in
    let other = λ (e : down (child_of nodes) 0 (seen_path naming names) ≡ Some m). none (c.find-target.ensures ∙ e) in
    let past = c.if-leads_through.ensures.past refl in
    let loc = c.in-Some-locate.ensures.located in
    let folder = located_folder naming nodes s names c.in-Some-locate.folder c.in-Some-locate.name.now loc in
    let fits = subst (λ (u : ℕ). FitsWithin (child_of nodes) m (64 - length names) u) c.units_left.ensures (c.if-not-fits.ensures.fits refl) in
    let within : is_within_limits names ≡ true = path_limits names c.args.to.now c.names-names.ensures.names c.names-names.ensures.within in
    let limits = added_within names within in
    let b : ℕ = c.in-Some-locate.folder in
    let y : Name = c.in-Some-locate.name.now in
    let free = sym c.is_taken.ensures ∙ c.if-is_taken.false in
    let target : Option ℕ = c.find-target.result in
    elim c.match-shift.branch [
      | in-Ok-shift w ↦ subst (λ r. OnOk r (IsWhole (places_of naming c.shift.new.nodes))) (sym w.result-is)
          (whole naming c.shift.new.nodes (shifted naming nodes s m link.0 link.1 live link.2 names b y loc target c.find-target.ensures other past limits.0 fits c.args.replace free c.shift.new.nodes (w.in-Ok-shift.ensures.shifted link.0 link.1 link.2)).0)
      | in-Err-shift w ↦ subst (λ r. OnOk r (IsWhole (places_of naming c.shift.new.nodes))) (sym w.result-is) tt
    ]
