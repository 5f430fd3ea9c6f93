use Rattle.std.proofs.Common.{rules, arith, refl, ◌≡◌, ◌∙◌, ℕ, ◌+◌, ◌/◌, ◌%◌, ◌≤◌, List, length, sym, ap, get_or, subst, []}
use Rattle.std.specs.Vec.{with_items}
use Rattle.std.proofs.lemmas.List.{with_items_is}
use Rattle.rd_contents.specs.Pages.{page_len, kept_page, byte_at, over}
use Rattle.rd_contents.proofs.OverLemmas.{over_none}
use Rattle.rd_contents.proofs.PageLemmas.{exchanged, lacks_still, not_lacked, byte_at-over, kept_page-found, kept_page-none}
use Rattle.rd_contents.proofs.pages.put_piece.Goals as goal

pub overwrite-requires : goal.overwrite-requires
overwrite-requires c =
    let was : kept_page c.args.pages.now.entries (c.args.place / page_len) ≡ c.in-Some.page.now.items = kept_page-found c.args.pages.now.entries (c.args.place / page_len) c.in-Some.page.now (sym c.in-Some.ensures.value) in
    subst (λ (p : List ℕ). (c.args.place % page_len) + length c.args.piece.now ≤ length p) (was ∙ sym c.as_mut_slice.ensures.value) c.requires.kept

pub returns-in-Some-clause-lengths : goal.returns-in-Some-clause-lengths
returns-in-Some-clause-lengths c =
    let old = c.args.pages.now.entries in
    let page = with_items c.in-Some.page.now c.overwrite.new.page in
    exchanged old (c.get_mut.follows.lender page).entries (c.args.place / page_len) page (λ k p q. length q ≡ length p) ((c.get_mut.follows.holds page).3 (search rules)).0
    (ap (λ (p : List ℕ). length p) (with_items_is c.in-Some.page.now c.overwrite.new.page (omega arith)) ∙ omega (arith, ap (λ (p : List ℕ). length p) (kept_page-found old (c.args.place / page_len) c.in-Some.page.now (sym c.in-Some.ensures.value)), ap (λ (p : List ℕ). length p) c.as_mut_slice.ensures.value)) (λ k ne. refl)

pub returns-in-Some-clause-bytes : goal.returns-in-Some-clause-bytes
returns-in-Some-clause-bytes c =
    let old = c.args.pages.now.entries in
    let page = with_items c.in-Some.page.now c.overwrite.new.page in
    let piece : List ℕ = c.args.piece.now in
    let was : kept_page old (c.args.place / page_len) ≡ c.as_mut_slice.result.now = kept_page-found old (c.args.place / page_len) c.in-Some.page.now (sym c.in-Some.ensures.value) ∙ sym c.as_mut_slice.ensures.value in
    let now : page.items ≡ c.overwrite.new.page = with_items_is c.in-Some.page.now c.overwrite.new.page (omega arith) in
    byte_at-over old (c.get_mut.follows.lender page).entries c.args.place piece c.requires.fits
    (exchanged old (c.get_mut.follows.lender page).entries (c.args.place / page_len) page (λ k p q. (k ≡ (c.args.place / page_len) → (j : ℕ) → get_or q j 0 ≡ over (c.args.place % page_len) (length piece) piece (λ n. get_or p n 0) j) × ((k ≡ (c.args.place / page_len) → ⊥) → q ≡ p)) ((c.get_mut.follows.holds page).3 (search rules)).0
    ((λ e j. ap (λ (p : List ℕ). get_or p j 0) now ∙ c.overwrite.ensures j ∙ ap (λ (p : List ℕ). over (c.args.place % page_len) (length piece) piece (λ n. get_or p n 0) j) (sym was)), (λ ne. absurd (ne refl)))
    (λ k ne. ((λ e. absurd (ne e)), (λ other. refl))))

pub returns-in_default-clause-bytes : goal.returns-in_default-clause-bytes
returns-in_default-clause-bytes c i =
    let old = c.args.pages.now.entries in
    let was : kept_page old (c.args.place / page_len) ≡ [] = kept_page-none old (c.args.place / page_len) (sym c.in_default.ensures.value) in
    let none : length c.args.piece.now ≡ 0 = let h : (c.args.place % page_len) + length c.args.piece.now ≤ 0 = subst (λ (p : List ℕ). (c.args.place % page_len) + length c.args.piece.now ≤ length p) was c.requires.kept in omega arith in
    ap (λ m. byte_at m.entries i) c.get_mut.follows.holds-at-none ∙ sym (over_none c.args.place (length c.args.piece.now) c.args.piece.now (byte_at old) i none)

pub returns-in-Some-clause-within : goal.returns-in-Some-clause-within
returns-in-Some-clause-within c k lacks =
    let old = c.args.pages.now.entries in
    let page = with_items c.in-Some.page.now c.overwrite.new.page in
    lacks_still old (c.get_mut.follows.lender page).entries (c.args.place / page_len) page ((c.get_mut.follows.holds page).3 (search rules)).0 k
    (not_lacked old (c.args.place / page_len) c.in-Some.page.now c.in-Some.ensures.value k lacks) lacks
