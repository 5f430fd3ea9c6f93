use Rattle.std.proofs.Common.{◌≤◌, rules, ◌≡◌, ◌∙◌, refl, sym, ap, arith, subst, ℕ, ◌/◌, ◌%◌, List, [], take}
use Rattle.std.proofs.lemmas.Grind.{common_steps}
use Rattle.std.specs.Ordering.{nat_cmp}
use Rattle.std.specs.BTreeMap.{is_at}
use Rattle.std.specs.Map.{lookup}
use Rattle.rd_contents.specs.Pages.{page_len, LacksPage, kept_page, byte_at}
use Rattle.rd_contents.proofs.PageLemmas.{lacks_still, not_lacked, cut_bytes, exchanged, kept_page-found, kept_page-none, take-none}
use Rattle.rd_contents.proofs.pages.cut.Goals as goal

pub returns-in-Some-clause-bytes : goal.returns-in-Some-clause-bytes
returns-in-Some-clause-bytes c =
    let mid = c.give_back.new.pages.entries in
    let page = c.truncate.new.self in
    let q : ℕ = c.args.end / page_len in
    let was : kept_page mid q ≡ c.in-Some.page.now.items = kept_page-found mid q c.in-Some.page.now (sym c.in-Some.ensures.value) in
    let pages = exchanged mid (c.get_mut.follows.lender page).entries q page (λ k p n. (k ≡ q → n ≡ take (c.args.end % page_len) p) × ((k ≡ q → ⊥) → n ≡ p)) ((c.get_mut.follows.holds page).3 (search rules)).0
    ((λ e. c.truncate.ensures.items ∙ ap (λ (p : List ℕ). take (c.args.end % page_len) p) (sym was)), (λ ne. absurd (ne refl)))
    (λ k ne. ((λ e. absurd (ne e)), (λ other. refl))) in
    cut_bytes c.args.pages.now.entries mid (c.get_mut.follows.lender page).entries c.args.end c.div_ceil.result (grind (arith, common_steps)) (grind (arith, common_steps)) c.give_back.ensures.pages (λ k. (pages k).0) (λ k. (pages k).1)

pub returns-in_default-clause-bytes : goal.returns-in_default-clause-bytes
returns-in_default-clause-bytes c i =
    let mid = c.give_back.new.pages.entries in
    let q : ℕ = c.args.end / page_len in
    let none : kept_page mid q ≡ [] = kept_page-none mid q (sym c.in_default.ensures.value) in
    ap (λ m. byte_at m.entries i) c.get_mut.follows.holds-at-none
    ∙ cut_bytes c.args.pages.now.entries mid mid c.args.end c.div_ceil.result (grind (arith, common_steps)) (grind (arith, common_steps)) c.give_back.ensures.pages
    (λ k e. subst (λ (n : ℕ). kept_page mid n ≡ take (c.args.end % page_len) (kept_page mid n)) (sym e) (none ∙ sym (ap (λ (p : List ℕ). take (c.args.end % page_len) p) none ∙ take-none (c.args.end % page_len)))) (λ k ne. refl) i

pub returns-in-Some-clause-within : goal.returns-in-Some-clause-within
returns-in-Some-clause-within c k past =
    let mid = c.give_back.new.pages.entries in
    let page = c.truncate.new.self in
    let first : c.div_ceil.result ≤ k = grind (arith, common_steps) in
    let lacks : LacksPage mid k = c.give_back.ensures.within k first in
    lacks_still mid (c.get_mut.follows.lender page).entries (c.args.end / page_len) page ((c.get_mut.follows.holds page).3 (search rules)).0 k
    (not_lacked mid (c.args.end / page_len) c.in-Some.page.now c.in-Some.ensures.value k lacks) lacks

pub returns-in_default-clause-within : goal.returns-in_default-clause-within
returns-in_default-clause-within c k past =
    let first : c.div_ceil.result ≤ k = grind (arith, common_steps) in
    ap (λ m. lookup (is_at (nat_cmp k)) m.entries) c.get_mut.follows.holds-at-none ∙ c.give_back.ensures.within k first
