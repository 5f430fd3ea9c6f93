use Rattle.std.proofs.Common.{rules, arith, refl, ◌≡◌, ◌∙◌, ℕ, ◌≤◌, List, length, sym, ap, get_or, subst, []}
use Rattle.std.specs.Result.{OnOk}
use Rattle.rd_contents.specs.Pages.{kept_page}
use Rattle.rd_contents.proofs.PageLemmas.{exchanged, lacks_still, byte_at-same, kept_page-found, kept_page-none, get_or_zeros}
use Rattle.rd_contents.proofs.pages.hold.Goals as goal

abbrev Same : ℕ → List ℕ → List ℕ → Type 0
Same k p q = (j : ℕ) → get_or q j 0 ≡ get_or p j 0

abbrev Grows : ℕ → List ℕ → List ℕ → Type 0
Grows k p q = length p ≤ length q

pub returns-in-Some-clause-bytes : goal.returns-in-Some-clause-bytes
returns-in-Some-clause-bytes c =
    let old = c.args.pages.now.entries in
    let new = (c.get_mut.follows.lender c.lengthen.new.page).entries in
    let was : kept_page old c.args.number ≡ c.in-Some.page.now.items = kept_page-found old c.args.number c.in-Some.page.now (sym c.in-Some.ensures.value) in
    byte_at-same old new (exchanged old new c.args.number c.lengthen.new.page Same ((c.get_mut.follows.holds c.lengthen.new.page).3 (search rules)).0
    (λ j. c.lengthen.ensures.bytes j ∙ ap (λ (p : List ℕ). get_or p j 0) (sym was)) (λ k ne j. refl))

pub returns-in-Some-clause-grows : goal.returns-in-Some-clause-grows
returns-in-Some-clause-grows c =
    let old = c.args.pages.now.entries in
    let new = (c.get_mut.follows.lender c.lengthen.new.page).entries in
    let was : kept_page old c.args.number ≡ c.in-Some.page.now.items = kept_page-found old c.args.number c.in-Some.page.now (sym c.in-Some.ensures.value) in
    exchanged old new c.args.number c.lengthen.new.page Grows ((c.get_mut.follows.holds c.lengthen.new.page).3 (search rules)).0
    (subst (λ (p : List ℕ). length p ≤ length c.lengthen.new.page.items) (sym was) (omega (arith, c.lengthen.ensures.grows))) (λ k ne. omega arith)

pub returns-in-Some-clause-long : goal.returns-in-Some-clause-long
returns-in-Some-clause-long c =
    let new = (c.get_mut.follows.lender c.lengthen.new.page).entries in
    let now : kept_page new c.args.number ≡ c.lengthen.new.page.items = kept_page-found new c.args.number c.lengthen.new.page ((c.get_mut.follows.holds c.lengthen.new.page).3 (search rules)).1 in
    subst (λ (p : List ℕ). OnOk c.lengthen.result (c.args.count ≤ length p)) (sym now) c.lengthen.ensures.long

pub returns-clause-bytes : goal.returns-clause-bytes
returns-clause-bytes c =
    let old = c.args.pages.now.entries in
    let new = c.insert.new.self.entries in
    let was : kept_page old c.args.number ≡ [] = kept_page-none old c.args.number (sym c.in_default.ensures.value) in
    let updates = rw c.get_mut.follows.holds-at-none at c.in_ok-insert.ensures.updates.0 in
    byte_at-same old new (exchanged old new c.args.number c.in_ok-page.page Same updates
    (λ j. ap (λ (p : List ℕ). get_or p j 0) (c.in_ok-page.ensures.items_if_clones_equal (λ y e. e)) ∙ get_or_zeros c.args.count j ∙ ap (λ (p : List ℕ). get_or p j 0) (sym was)) (λ k ne j. refl))

pub returns-clause-grows : goal.returns-clause-grows
returns-clause-grows c =
    let old = c.args.pages.now.entries in
    let new = c.insert.new.self.entries in
    let was : kept_page old c.args.number ≡ [] = kept_page-none old c.args.number (sym c.in_default.ensures.value) in
    let updates = rw c.get_mut.follows.holds-at-none at c.in_ok-insert.ensures.updates.0 in
    exchanged old new c.args.number c.in_ok-page.page Grows updates
    (subst (λ (p : List ℕ). length p ≤ length c.in_ok-page.page.items) (sym was) (omega arith)) (λ k ne. omega arith)

pub returns-clause-long : goal.returns-clause-long
returns-clause-long c =
    let new = c.insert.new.self.entries in
    let now : kept_page new c.args.number ≡ c.in_ok-page.page.items = kept_page-found new c.args.number c.in_ok-page.page c.in_ok-insert.ensures.updates.1 in
    subst (λ (p : List ℕ). c.args.count ≤ length p) (sym now) (omega (arith, c.in_ok-page.ensures.len))

pub returns-in-Some-clause-others : goal.returns-in-Some-clause-others
returns-in-Some-clause-others c k ne =
    let old = c.args.pages.now.entries in
    lacks_still old (c.get_mut.follows.lender c.lengthen.new.page).entries c.args.number c.lengthen.new.page ((c.get_mut.follows.holds c.lengthen.new.page).3 (search rules)).0 k ne

pub returns-clause-others : goal.returns-clause-others
returns-clause-others c k ne = lacks_still c.args.pages.now.entries c.insert.new.self.entries c.args.number c.in_ok-page.page (rw c.get_mut.follows.holds-at-none at c.in_ok-insert.ensures.updates.0) k ne
