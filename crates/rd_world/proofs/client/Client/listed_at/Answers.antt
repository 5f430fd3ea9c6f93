use Rattle.std.proofs.Common.{◌≡◌, ◌∙◌, ◌<◌, sym, ap, subst, true, false, ℕ, List, length, get_or, slice_get, Option, Some, None, Bor, arith}
use Rattle.std.specs.Prelude.{is_some, nat_lt, IfSome}
use Rattle.std.specs.Option.{option_copied}
use Rattle.std.proofs.lemmas.Bool.Decides.{nat_tests}
use Rattle.std.proofs.lemmas.Option.{slice_get-get_or}
use Rattle.rd_world.proofs.ListedLemmas.{listed_is}
use Rattle.rd_world.proofs.client.Client.listed_at.Goals as goal

below : (place n : ℕ) → nat_lt place n ≡ true → place < n
below place n is = grind (arith, nat_tests)

-- the id that was found stands at the place
stands : (ids slice : List ℕ) (place id : ℕ) (found : Option (Bor ℕ)) → slice ≡ ids → Some id ≡ option_copied found → is_some found ≡ nat_lt place (length slice)
    → IfSome found (λ (x : Bor ℕ). x.now ≡ get_or slice place x.now) → slice_get ids place ≡ Some id
stands ids slice place id None whole some there is = absurd cc
stands ids slice place id (Some x) whole some there is =
    let same : x.now ≡ id = cc in
    subst (λ (xs : List ℕ). slice_get xs place ≡ Some id) whole
    (slice_get-get_or slice place x.now (below place (length slice) (sym there)) ∙ ap (λ (k : ℕ). Some k) (sym is ∙ same))

pub returns-then-is_gone : goal.returns-then-is_gone
returns-then-is_gone c =
    rw (← c.self.view_is)
    (listed_is c.self.inside.core c.self.inside.ids.items c.args.place c.in_ok-id.id true c.self.invariant
    (stands _ _ c.args.place c.in_ok-id.id _ c.deref.ensures.value c.in_ok-id.ensures c.get.ensures.lookup.0 c.get.ensures.lookup.1) (sym c.is_gone.ensures ∙ c.if-is_gone.true))

pub returns : goal.returns
returns c =
    rw (← c.self.view_is)
    (listed_is c.self.inside.core c.self.inside.ids.items c.args.place c.in_ok-id.id false c.self.invariant
    (stands _ _ c.args.place c.in_ok-id.id _ c.deref.ensures.value c.in_ok-id.ensures c.get.ensures.lookup.0 c.get.ensures.lookup.1) (sym c.is_gone.ensures ∙ c.if-is_gone.false))
