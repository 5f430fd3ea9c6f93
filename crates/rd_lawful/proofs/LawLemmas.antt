-- Journals are judged entry by entry, and the rule that is named is the lowest one broken.
use Rattle.std.proofs.Common.{◌≡◌, ◌⊎◌, ◌∙◌, refl, sym, ap, subst, inl, inr, ℕ, ◌<◌, Bool, true, false, not, List, [], ◌∷◌, ◌++◌, IsTrue, suc, ◌≤◌, length, take, drop, get_or, append_assoc, arith, lit<}
use Rattle.std.specs.Prelude.{◌↔◌, None, Some, find}
use Rattle.std.specs.List.{AllByRecursion}
use Rattle.std.proofs.Math.Seq.{drop-cons}
use Rattle.std.proofs.lemmas.List.{take-append-drop, take_all}
use Rattle.rd_base.specs.declared.journal.Item.{Item}
use Rattle.rd_base.specs.Lawful.{EachEntry, FewUnsent, IsLawful}
use Rattle.rd_base.proofs.JournalLemmas.{EachAfter-append, EachAfter-from_turns}
use Rattle.rd_lawful.specs.declared.rule.Rule.{Rule}
use Rattle.rd_lawful.specs.declared.rule.Rule.TheVariants as rule
use Rattle.rd_lawful.specs.Rules.{IsLawfulSoFar, KeepsRule, keeps_rule, rule_broken, rule_number, rules}
use Rattle.rd_lawful.proofs.BoolLemmas.{either}
use Rattle.rd_lawful.proofs.TestLemmas.{rule-decides}

-- r is among them
abbrev IsAmong : Rule → List Rule → Type 0
IsAmong r [] = ⊥
IsAmong r (s ∷ rs) = (r ≡ s) ⊎ IsAmong r rs

among_rules : (r : Rule) → IsAmong r rules
among_rules rule.KeysRise = inl refl
among_rules rule.RunsOnce = inr (inl refl)
among_rules rule.SentOnce = inr (inr (inl refl))
among_rules rule.NoRunAfterCut = inr (inr (inr (inl refl)))
among_rules rule.CancelledAfterRemoval = inr (inr (inr (inr (inl refl))))
among_rules rule.DropForgets = inr (inr (inr (inr (inr (inl refl)))))
among_rules rule.FewUnsent = inr (inr (inr (inr (inr (inr (inl refl))))))

-- the numbers of the rules rise
abbrev NumbersRise : List Rule → Type 0
NumbersRise [] = Unit {0}
NumbersRise (r ∷ rs) = AllByRecursion (λ (s : Rule). rule_number r < rule_number s) rs × NumbersRise rs

numbers_rise : NumbersRise rules
numbers_rise = (
  (lit< tt, (lit< tt, (lit< tt, (lit< tt, (lit< tt, (lit< tt, tt)))))),
  (
    (lit< tt, (lit< tt, (lit< tt, (lit< tt, (lit< tt, tt))))),
    ((lit< tt, (lit< tt, (lit< tt, (lit< tt, tt)))), ((lit< tt, (lit< tt, (lit< tt, tt))), ((lit< tt, (lit< tt, tt)), ((lit< tt, tt), (tt, tt))))),
  ),
)

among_all : (P : Rule → Type 0) (rs : List Rule) (r : Rule) → AllByRecursion P rs → IsAmong r rs → P r
among_all P [] r all none = absurd none
among_all P (s ∷ rs) r all (inl same) = subst P (sym same) all.0
among_all P (s ∷ rs) r all (inr later) = among_all P rs r all.1 later

module _ (before : List Item) (entry : Item) where
  unbroken : (rs : List Rule) → find (λ r. not (keeps_rule r before entry)) rs ≡ None → (r : Rule) → IsAmong r rs → keeps_rule r before entry ≡ true
  unbroken [] none r among = absurd among
  unbroken (s ∷ rs) none r among = elim (either (keeps_rule s before entry)) [
    | inl kept ↦
        let later : find (λ t. not (keeps_rule t before entry)) rs ≡ None = rw kept at none in
        elim among [ inl same ↦ ap (λ (t : Rule). keeps_rule t before entry) same ∙ kept | inr there ↦ unbroken rs later r there ]
    | inr lost ↦ let some : Some s ≡ None = rw lost at none in absurd (cc)
  ]

  none_found : (rs : List Rule) → ((r : Rule) → keeps_rule r before entry ≡ true) → find (λ r. not (keeps_rule r before entry)) rs ≡ None
  none_found [] kept = refl
  none_found (s ∷ rs) kept = rw (kept s) (none_found rs kept)

  found : (rs : List Rule) (r : Rule) → find (λ t. not (keeps_rule t before entry)) rs ≡ Some r → keeps_rule r before entry ≡ false
  found [] r e = absurd (cc)
  found (s ∷ rs) r e = elim (either (keeps_rule s before entry)) [
    | inl kept ↦ let later : find (λ t. not (keeps_rule t before entry)) rs ≡ Some r = rw kept at e in found rs r later
    | inr lost ↦ let here : Some s ≡ Some r = rw lost at e in let same : s ≡ r = cc in ap (λ (t : Rule). keeps_rule t before entry) (sym same) ∙ lost
  ]

  lower_kept : (rs : List Rule) → NumbersRise rs → (r : Rule) → find (λ t. not (keeps_rule t before entry)) rs ≡ Some r → (lower : Rule) → IsAmong lower rs → rule_number lower < rule_number r → keeps_rule lower before entry ≡ true
  lower_kept [] rise r e lower among less = absurd among
  lower_kept (s ∷ rs) rise r e lower among less = elim (either (keeps_rule s before entry)) [
    | inl kept ↦
        let later : find (λ t. not (keeps_rule t before entry)) rs ≡ Some r = rw kept at e in
        elim among [ inl same ↦ ap (λ (t : Rule). keeps_rule t before entry) same ∙ kept | inr there ↦ lower_kept rs rise.1 r later lower there less ]
    | inr lost ↦
        let here : Some s ≡ Some r = rw lost at e in
        let same : s ≡ r = cc in
        let number : rule_number s ≡ rule_number r = ap rule_number same in
        elim among [
          | inl is ↦ absurd (omega (arith, less, number, ap rule_number is))
          | inr there ↦ let above = among_all (λ (t : Rule). rule_number s < rule_number t) rs lower rise.0 there in absurd (omega (arith, less, number, above))
        ]
  ]

-- ---- entry by entry

-- no entry breaks a rule
pub so_far-nil : IsLawfulSoFar []
so_far-nil r = EachAfter-from_turns (KeepsRule r) [] tt

-- an entry that breaks no rule
pub so_far-more : (items : List Item) (entry : Item) → IsLawfulSoFar items → rule_broken items entry ≡ None → IsLawfulSoFar (items ++ entry ∷ [])
so_far-more items entry law none r = EachAfter-append (KeepsRule r) items entry (law r) ((rule-decides r items entry).0 (unbroken items entry rules none r (among_rules r)))

pub so_far-less : (items : List Item) (entry : Item) → IsLawfulSoFar (items ++ entry ∷ []) → IsLawfulSoFar items × (rule_broken items entry ≡ None)
so_far-less items entry law = (
  λ r before x after e. law r before x (after ++ entry ∷ []) (ap (λ (ys : List Item). ys ++ entry ∷ []) e ∙ append_assoc before (x ∷ after) (entry ∷ [])),
  none_found items entry rules (λ r. (rule-decides r items entry).1 (law r items entry [] refl)),
)

pub whole_is : (items : List Item) → IsLawful items ↔ (IsLawfulSoFar items × FewUnsent items)
whole_is items = (
  λ law. (so_far law, law.few_unsent.1),
  λ both. record {
    keys_rise = both.0 rule.KeysRise;
    runs_once = both.0 rule.RunsOnce;
    sent_once = both.0 rule.SentOnce;
    no_run_after_cut = both.0 rule.NoRunAfterCut;
    cancelled_after_removal = both.0 rule.CancelledAfterRemoval;
    drop_forgets = both.0 rule.DropForgets;
    few_unsent = (both.0 rule.FewUnsent, both.1);
  },
)
  where
    so_far : IsLawful items → IsLawfulSoFar items
    so_far law rule.KeysRise = law.keys_rise
    so_far law rule.RunsOnce = law.runs_once
    so_far law rule.SentOnce = law.sent_once
    so_far law rule.NoRunAfterCut = law.no_run_after_cut
    so_far law rule.CancelledAfterRemoval = law.cancelled_after_removal
    so_far law rule.DropForgets = law.drop_forgets
    so_far law rule.FewUnsent = law.few_unsent.0

-- ---- the lowest rule

pub broken_is : (items : List Item) (entry : Item) (r : Rule) → rule_broken items entry ≡ Some r → ¬ (KeepsRule r items entry)
broken_is items entry r e keeps = cc (found items entry rules r e, (rule-decides r items entry).1 keeps)

pub lower_is : (items : List Item) (entry : Item) (r lower : Rule) → rule_broken items entry ≡ Some r → rule_number lower < rule_number r → KeepsRule lower items entry
lower_is items entry r lower e less = (rule-decides lower items entry).0 (lower_kept items entry rules numbers_rise r e lower (among_rules lower) less)

pub whole_broken : (items : List Item) (entry : Item) (rest : List Item) (r : Rule) → rule_broken items entry ≡ Some r → ¬ (EachEntry (KeepsRule r) (items ++ entry ∷ rest))
whole_broken items entry rest r e each = broken_is items entry r e (each items entry rest refl)

pub lower_whole : (items : List Item) (entry : Item) (r lower : Rule) → IsLawfulSoFar items → rule_broken items entry ≡ Some r → rule_number lower < rule_number r → EachEntry (KeepsRule lower) (items ++ entry ∷ [])
lower_whole items entry r lower law e less = EachAfter-append (KeepsRule lower) items entry (law lower) (lower_is items entry r lower e less)

-- ---- a whole journal

-- an entry of a journal breaks a rule by those before it, so the journal isn't lawful
pub unlawful_at : (entries : List Item) (i : ℕ) (d : Item) (r : Rule) → i < length entries → rule_broken (take i entries) (get_or entries i d) ≡ Some r → ¬ (IsLawful entries)
unlawful_at entries i d r low e law =
    let parts : entries ≡ take i entries ++ get_or entries i d ∷ drop (suc i) entries = sym (take-append-drop i entries) ∙ ap (λ (ys : List Item). take i entries ++ ys) (drop-cons entries i d low) in
    whole_broken (take i entries) (get_or entries i d) (drop (suc i) entries) r e (((whole_is (take i entries ++ get_or entries i d ∷ drop (suc i) entries)).0 (subst IsLawful parts law)).0 r)

pub lawful_at_end : (entries : List Item) (i : ℕ) (may : Bool) → length entries ≤ i → IsLawfulSoFar (take i entries) → (IsTrue may ↔ FewUnsent (take i entries)) → IsTrue may ↔ IsLawful entries
lawful_at_end entries i may past law ends =
    subst (λ (ys : List Item). IsTrue may ↔ IsLawful ys) (take_all i entries past)
    ((λ yes. (whole_is (take i entries)).1 (law, ends.0 yes)), (λ lawful. ends.1 ((whole_is (take i entries)).0 lawful).1))
