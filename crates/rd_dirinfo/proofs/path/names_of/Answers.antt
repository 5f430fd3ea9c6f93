use Rattle.std.proofs.Common.{◌≡◌, ◌∷◌, [], ◌++◌, ◌-◌, ◌+◌, ℕ, List, length, map, ap, ◌∙◌, sym, append_assoc}
use Rattle.rd_dirinfo.specs.Naming.{Name}
use Rattle.rd_dirinfo.specs.Paths.{rest_parts, Part}
use Rattle.rd_dirinfo.proofs.path.names_of.Goals as goal

one_more : (all kept : List Name) (name : Name) (parts others : List Part) (at : ℕ) → all ≡ kept ++ map (λ (part : Part). part.name) parts → parts ≡ record { at = at; name = name } ∷ others → all ≡ (kept ++ name ∷ []) ++ map (λ (part : Part). part.name) others
one_more all kept name parts others at so_far cut =
    so_far ∙ ap (λ (ps : List Part). kept ++ map (λ (part : Part). part.name) ps) cut ∙ sym (append_assoc kept (name ∷ []) (map (λ (part : Part). part.name) others))

pub loop-rest-init : goal.loop-rest-init
loop-rest-init c = (
  length c.args.units.now - length c.without_first_backslash-rest.result.now,
  ap (map (λ (part : Part). part.name)) c.without_first_backslash-rest.ensures.parts
      ∙ ap (λ (kept : List Name). kept ++ map (λ (part : Part). part.name) (rest_parts (length c.args.units.now - length c.without_first_backslash-rest.result.now) c.without_first_backslash-rest.result.now)) (sym c.new-names.ensures.items),
)

pub loop-rest-preserved : goal.loop-rest-preserved
loop-rest-preserved c =
    let name : c.of.result ≡ c.cut_part.result.0.now = c.of.ensures ∙ c.in_ok-from_slice.ensures.items in
    let pushed : c.loop-rest.names.items ++ c.cut_part.result.0.now ∷ [] ≡ c.push.new.self.items = ap (λ (n : Name). c.loop-rest.names.items ++ n ∷ []) (sym name) ∙ sym c.in_ok-push.ensures.items in (
      c.loop-rest.invariant.0 + length c.cut_part.result.0.now + 1,
      one_more _ _ c.cut_part.result.0.now (rest_parts c.loop-rest.invariant.0 c.loop-rest.rest.now) (rest_parts (c.loop-rest.invariant.0 + length c.cut_part.result.0.now + 1) c.cut_part.result.1.now) c.loop-rest.invariant.0 c.loop-rest.invariant.1 (c.cut_part.ensures.parts c.loop-rest.invariant.0)
          ∙ ap (λ (kept : List Name). kept ++ map (λ (part : Part). part.name) (rest_parts (c.loop-rest.invariant.0 + length c.cut_part.result.0.now + 1) c.cut_part.result.1.now)) pushed,
    )
