-- What a judge keeps tells which rule an entry breaks, and stays that of the entries with each one more.
use Rattle.std.proofs.Common.{◌≡◌, ◌∙◌, refl, sym, ap, ap₂, inl, inr, ℕ, ◌<◌, ◌≤◌, ◌+◌, ◌&&◌, ◌||◌, ◌==◌, Bool, true, false, cond, not, List, [], ◌∷◌, ◌++◌, length, arith, length-append}
use Rattle.std.specs.Prelude.{Option, Some, None, nat_le}
use Rattle.std.specs.List.{AllByRecursion, list_all, list_any}
use Rattle.std.proofs.lemmas.Bool.{le-leb, leb-true}
use Rattle.std.proofs.lemmas.Bool.Decides.{same_from_decides}
use Rattle.rd_base.specs.declared.journal.Key.{Key}
use Rattle.rd_base.specs.declared.journal.Cause.{Cause}
use Rattle.rd_base.specs.declared.journal.Cause.TheVariants.{Dropped, Removed}
use Rattle.rd_base.specs.declared.journal.Item.{Item}
use Rattle.rd_base.specs.declared.journal.Item.TheVariants.{Came, Cancelled, Cut, Ran, Sent}
use Rattle.rd_base.specs.Lawful.{sends}
use Rattle.rd_lawful.specs.declared.known.Known.{Known}
use Rattle.rd_lawful.specs.declared.known.Stage.{Stage}
use Rattle.rd_lawful.specs.declared.known.Stage.TheVariants as stage
use Rattle.rd_lawful.specs.declared.rule.Rule.{Rule}
use Rattle.rd_lawful.specs.declared.rule.Rule.TheVariants as rule
use Rattle.rd_lawful.specs.Rules.{came_before, is_cut, is_drop, is_removal, is_unsettled, key_below, key_is, last_channel, named_channel, names_within, remembers_key, rule_broken, says_came, says_came_above, says_settled, still_waits, unsent_count}
use Rattle.rd_lawful.specs.Memory.{Remembered, broken_by, channel_of_last, is_above, is_waiting, known_key, may_name, nothing_taken, remember, stage_in, stage_settled, stage_waits, unless, with_stage}
use Rattle.rd_lawful.specs.Judged.{IsMark, IsMemoryOf, stage_of}
use Rattle.rd_lawful.proofs.BoolLemmas.{and_false, and_true, either, first_true, is_false, not_true, or_false, right_true, second_true}
use Rattle.rd_lawful.proofs.KeyLemmas.{not_below_channel}
use Rattle.rd_lawful.proofs.TestLemmas.{all_within, key_is-decides}
use Rattle.rd_lawful.proofs.AppendLemmas.{above_channel, above_trans, any_more, any_same, before_came, came_above, last_more, mark_came, mark_other, mark_set, once_came, once_other, unsent_came, unsent_other, unsent_sent, waits_more}
use Rattle.rd_lawful.proofs.StageLemmas.{all_more, all_staged, came_by, length_staged, or_else, rising_more, rising_staged, settled_tells, stage_by, stage_more, stage_other, stage_own, stage_settled-is, stage_waits-is, waits_tells}

-- ---- of no entries

pub nothing_is : IsMemoryOf [] nothing_taken
nothing_is = record {
  rising = tt;
  above = λ q e. tt;
  rises = λ q. refl;
  stages = λ q. refl;
  orderly = λ q. (λ e. e, λ e. e);
  cut = record { below = λ q e. e; tells = λ q e. absurd (cc) };
  removed = record { below = λ q e. e; tells = λ q e. absurd (cc) };
  dropped = record { below = λ q e. e; tells = λ q e. absurd (cc) };
  waiting = λ q. refl;
  channel = refl;
  once = λ q. omega arith;
  unsent = refl;
  few = omega arith;
}

module _ (items : List Item) (m : Remembered) (mem : IsMemoryOf items m) where
  -- ---- what it tells

  -- a key that came isn't above the last, and one that is above it didn't come
  pub old : (q : Key) → list_any (says_came q) items ≡ true → is_above m.last q ≡ false
  old q has = sym (mem.rises q) ∙ ap not (came_above q items has)

  pub fresh : (q : Key) → is_above m.last q ≡ true → list_any (says_came q) items ≡ false
  fresh q above = is_false (list_any (says_came q) items) (λ has. cc (old q has, above))

  fresh_settled : (q : Key) → is_above m.last q ≡ true → list_any (says_settled q) items ≡ false
  fresh_settled q above = is_false (list_any (says_settled q) items) (λ e. cc ((mem.orderly q).1 e, fresh q above))

  fresh_sent : (q : Key) → is_above m.last q ≡ true → list_any (sends q) items ≡ false
  fresh_sent q above = is_false (list_any (sends q) items) (λ e. cc ((mem.orderly q).0 e, fresh_settled q above))

  -- no later channel came
  old_channel : (q : Key) → list_any (says_came q) items ≡ true → q.channel ≤ channel_of_last m.last
  old_channel q has = by m.last (old q has)
    where
      by : (last : Option Key) → is_above last q ≡ false → q.channel ≤ channel_of_last last
      by None e = absurd (cc)
      by (Some l) e = not_below_channel l q e

  waits_is : (q : Key) → stage_waits (stage_in m.known q) ≡ true → (list_any (sends q) items ≡ false) × (list_any (says_settled q) items ≡ false) × (list_any (says_came q) items ≡ true)
  waits_is q e = waits_tells (list_any (sends q) items) (list_any (says_settled q) items) (list_any (says_came q) items) (sym (mem.stages q) ∙ stage_waits-is (stage_in m.known q) e)

  settled_is : (q : Key) → stage_settled (stage_in m.known q) ≡ true → (list_any (sends q) items ≡ false) × (list_any (says_settled q) items ≡ true)
  settled_is q e = settled_tells (list_any (sends q) items) (list_any (says_settled q) items) (list_any (says_came q) items) (sym (mem.stages q) ∙ stage_settled-is (stage_in m.known q) e)

  -- ---- the tests

  settle_test : (q : Key) → is_unsettled items q ≡ stage_waits (stage_in m.known q)
  settle_test q =
      by (list_any (sends q) items) (list_any (says_settled q) items) (list_any (says_came q) items) (mem.orderly q).0 (mem.orderly q).1
      ∙ ap stage_waits (sym (mem.stages q))
    where
      by : (s t c : Bool) → (s ≡ true → t ≡ true) → (t ≡ true → c ≡ true) → (c && not t) ≡ stage_waits (stage_by s t c)
      by true true c f g = and_false c
      by true false c f g = absurd (cc (f refl))
      by false true c f g = and_false c
      by false false true f g = refl
      by false false false f g = refl

  send_test : (q : Key) → (list_any (says_settled q) items && (not (still_waits q items) && not (list_any (sends q) items))) ≡ (stage_settled (stage_in m.known q) && not (is_waiting m.waiting q))
  send_test q =
      by (list_any (sends q) items) (list_any (says_settled q) items) (list_any (says_came q) items) (still_waits q items) (mem.orderly q).0
      ∙ ap₂ (λ (o : Option Stage) (b : Bool). stage_settled o && not b) (sym (mem.stages q)) (mem.waiting q)
    where
      by : (s t c w : Bool) → (s ≡ true → t ≡ true) → (t && (not w && not s)) ≡ (stage_settled (stage_by s t c) && not w)
      by true true c w f = and_false (not w)
      by true false c w f = absurd (cc (f refl))
      by false true c w f = and_true (not w)
      by false false true w f = refl
      by false false false w f = refl

  within_test : (c : ℕ) → list_all (names_within c) items ≡ nat_le (channel_of_last m.last) c
  within_test c =
      same_from_decides (list_all (names_within c) items) (nat_le (channel_of_last m.last) c) (all_within c items)
      ((λ e. omega (arith, mem.channel, leb-true (channel_of_last m.last) c e)), (λ h. le-leb (channel_of_last m.last) c (omega (arith, mem.channel, h))))

  not_not : (b : Bool) → not (not b) ≡ b
  not_not true = refl
  not_not false = refl

  name_test : (q : Key) → list_any (says_came q) items ≡ true → remembers_key items q ≡ may_name m q
  name_test q has = ap₂ (λ (a b : Bool). a && b) (ap not (mem.dropped.tells q has) ∙ not_not (is_above m.dropped q)) (within_test q.channel)

  -- a test that fails is the first, so what comes after it doesn't count
  unless_same : (a b : Bool) (r : Rule) (others more : Option Rule) → a ≡ b → (b ≡ true → others ≡ more) → unless a r others ≡ unless b r more
  unless_same a true r others more e same = ap (λ c. unless c r others) e ∙ same refl
  unless_same a false r others more e same = ap (λ c. unless c r others) e

  -- The rule that is broken is told by what is kept.
  pub broken_same : (entry : Item) → rule_broken items entry ≡ broken_by m entry
  broken_same (Came q) = unless_same (not (list_any (says_came_above q) items)) (is_above m.last q) rule.KeysRise (unless (remembers_key items q) rule.DropForgets None) None (mem.rises q) may
    where
      may : is_above m.last q ≡ true → unless (remembers_key items q) rule.DropForgets None ≡ None
      may above =
          let unseen : came_before is_drop q items ≡ false = is_false (came_before is_drop q items) (λ e. cc (before_came is_drop q items e, fresh q above)) in
          let within : list_all (names_within q.channel) items ≡ true = within_test q.channel ∙ le-leb (channel_of_last m.last) q.channel (above_channel m.last q above) in
          ap₂ (λ (a b : Bool). unless (not a && b) rule.DropForgets None) unseen within
  broken_same (Ran q moment starved parked) =
      unless_same (is_unsettled items q) (stage_waits (stage_in m.known q)) rule.RunsOnce (unless (not (came_before is_cut q items)) rule.NoRunAfterCut (unless (remembers_key items q) rule.DropForgets None))
      (unless (is_above m.cut q) rule.NoRunAfterCut (unless (may_name m q) rule.DropForgets None)) (settle_test q) (λ may.
      let has = (waits_is q may).2 in
      unless_same (not (came_before is_cut q items)) (is_above m.cut q) rule.NoRunAfterCut (unless (remembers_key items q) rule.DropForgets None) (unless (may_name m q) rule.DropForgets None)
      (ap not (mem.cut.tells q has) ∙ not_not (is_above m.cut q)) (λ above. ap (λ b. unless b rule.DropForgets None) (name_test q has)))
  broken_same (Cancelled q) =
      unless_same (is_unsettled items q) (stage_waits (stage_in m.known q)) rule.RunsOnce (unless (came_before is_removal q items) rule.CancelledAfterRemoval (unless (remembers_key items q) rule.DropForgets None))
      (unless (not (is_above m.removed q)) rule.CancelledAfterRemoval (unless (may_name m q) rule.DropForgets None)) (settle_test q) (λ may.
      let has = (waits_is q may).2 in
      unless_same (came_before is_removal q items) (not (is_above m.removed q)) rule.CancelledAfterRemoval (unless (remembers_key items q) rule.DropForgets None) (unless (may_name m q) rule.DropForgets None)
      (mem.removed.tells q has) (λ above. ap (λ b. unless b rule.DropForgets None) (name_test q has)))
  broken_same (Sent q) =
      unless_same (list_any (says_settled q) items && (not (still_waits q items) && not (list_any (sends q) items))) (stage_settled (stage_in m.known q) && not (is_waiting m.waiting q)) rule.SentOnce
      (unless (remembers_key items q) rule.DropForgets None) (unless (may_name m q) rule.DropForgets None) (send_test q) (λ may.
      let settled = (settled_is q (first_true (stage_settled (stage_in m.known q)) (not (is_waiting m.waiting q)) may)).1 in
      ap (λ b. unless b rule.DropForgets None) (name_test q ((mem.orderly q).1 settled)))
  broken_same (Cut cause) = ap (λ n. unless (nat_le n 128) rule.FewUnsent None) (ap (unsent_count items) mem.channel ∙ mem.unsent)

  -- ---- a request that comes

  pub came_more : (k : Key) → is_above m.last k ≡ true → IsMemoryOf (items ++ Came k ∷ []) (remember m (Came k))
  came_more k above = record {
    rising = rising_more m.known new mem.rising (mem.above k above);
    above = λ q e. all_more (λ (l : Known). key_below (known_key l) q ≡ true) m.known new (mem.above q (above_trans m.last k q above e)) e;
    rises = λ q. ap not (any_more (says_came_above q) items (Came k)) ∙ above_all q;
    stages = λ q.
        stage_more m.known new q
        ∙ ap (λ (o : Option Stage). or_else o (cond (key_is k q) (Some stage.Waits) None)) (mem.stages q)
        ∙ came_by (list_any (sends q) items) (list_any (says_settled q) items) (list_any (says_came q) items) (key_is k q)
        ∙ sym (by_tests q);
    orderly = λ q. (
      λ e. any_same (says_settled q) items (Came k) refl ∙ (mem.orderly q).0 (sym (any_same (sends q) items (Came k) refl) ∙ e),
      λ e. any_more (says_came q) items (Came k) ∙ ap (λ b. b || key_is k q) ((mem.orderly q).1 (sym (any_same (says_settled q) items (Came k) refl) ∙ e)),
    );
    cut = mark_came is_cut m.cut m.last items k refl above (fresh k above) mem.cut;
    removed = mark_came is_removal m.removed m.last items k refl above (fresh k above) mem.removed;
    dropped = mark_came is_drop m.dropped m.last items k refl above (fresh k above) mem.dropped;
    waiting = λ q. waits_more q items (Came k) ∙ and_true (still_waits q items) ∙ mem.waiting q;
    channel = let low = above_channel m.last k above in omega (arith, last_more items (Came k), mem.channel, low);
    once = λ q. once_came items k q (fresh k above) (mem.once q);
    unsent = unsent_came items k (channel_of_last m.last) m.unsent mem.channel mem.unsent (above_channel m.last k above) (fresh_sent k above);
    few = few_still (channel_of_last m.last == k.channel);
  }
    where
      new : Known
      new = record { index = k.index; channel = k.channel; stage = stage.Waits }

      above_all : (q : Key) → not (list_any (says_came_above q) items || not (key_below k q)) ≡ key_below k q
      above_all q = elim (either (key_below k q)) [
        | inl below ↦
            let none : list_any (says_came_above q) items ≡ false = not_true (list_any (says_came_above q) items) (mem.rises q ∙ above_trans m.last k q above below) in
            ap₂ (λ (a b : Bool). not (a || not b)) none below ∙ sym below
        | inr other ↦
            ap (λ b. not (list_any (says_came_above q) items || not b)) other ∙ ap not (right_true (list_any (says_came_above q) items) true refl) ∙ sym other
      ]

      by_tests : (q : Key) → stage_of (items ++ Came k ∷ []) q ≡ stage_by (list_any (sends q) items) (list_any (says_settled q) items) (list_any (says_came q) items || key_is k q)
      by_tests q =
          ap₂ (λ (a b : Bool). stage_by a b (list_any (says_came q) (items ++ Came k ∷ []))) (any_same (sends q) items (Came k) refl) (any_same (says_settled q) items (Came k) refl)
          ∙ ap (stage_by (list_any (sends q) items) (list_any (says_settled q) items)) (any_more (says_came q) items (Came k))

      few_still : (b : Bool) → cond b (m.unsent + 1) 1 ≤ length (m.known ++ new ∷ [])
      few_still true = omega (arith, mem.few, length-append m.known (new ∷ []))
      few_still false = omega (arith, length-append m.known (new ∷ []))

  -- ---- an entry that says of no request that it came

  module _ (x : Item) (none : (q : Key) → says_came q x ≡ false) (none_above : (q : Key) → says_came_above q x ≡ false) where
    rises_still : (q : Key) → not (list_any (says_came_above q) (items ++ x ∷ [])) ≡ is_above m.last q
    rises_still q = ap not (any_same (says_came_above q) items x (none_above q)) ∙ mem.rises q

    came_still : (q : Key) → list_any (says_came q) (items ++ x ∷ []) ≡ list_any (says_came q) items
    came_still q = any_same (says_came q) items x (none q)

    channel_still : named_channel x ≤ channel_of_last m.last → last_channel (items ++ x ∷ []) ≡ channel_of_last m.last
    channel_still low = omega (arith, last_more items x, mem.channel, low)

    above_staged : (key : Key) (s : Stage) (q : Key) → is_above m.last q ≡ true → AllByRecursion (λ (k : Known). key_below (known_key k) q ≡ true) (with_stage key s m.known)
    above_staged key s q e = all_staged (λ (l : Key). key_below l q ≡ true) key s m.known (mem.above q e)

    few_staged : (key : Key) (s : Stage) → m.unsent ≤ length (with_stage key s m.known)
    few_staged key s = omega (arith, mem.few, length_staged key s m.known)

    -- by the tests after it
    staged_by : (q : Key) → stage_of (items ++ x ∷ []) q ≡ stage_by (list_any (sends q) items || sends q x) (list_any (says_settled q) items || says_settled q x) (list_any (says_came q) items)
    staged_by q =
        ap₂ (λ (a b : Bool). stage_by a b (list_any (says_came q) (items ++ x ∷ []))) (any_more (sends q) items x) (any_more (says_settled q) items x)
        ∙ ap (stage_by (list_any (sends q) items || sends q x) (list_any (says_settled q) items || says_settled q x)) (came_still q)

    -- where it settles a request
    settled_stages : (key : Key) → ((q : Key) → sends q x ≡ false) → ((q : Key) → says_settled q x ≡ key_is key q) → stage_waits (stage_in m.known key) ≡ true → (q : Key) → stage_in (with_stage key stage.Settled m.known) q ≡ stage_of (items ++ x ∷ []) q
    settled_stages key unsaid says may q =
        elim (either (key_is key q)) [
          | inl same ↦
              let is : key ≡ q = (key_is-decides key q).0 same in
              let unsent : list_any (sends q) items ≡ false = ap (λ (l : Key). list_any (sends l) items) (sym is) ∙ (waits_is key may).0 in
              ap (stage_in (with_stage key stage.Settled m.known)) (sym is)
              ∙ stage_own key stage.Settled stage.Waits m.known (stage_waits-is (stage_in m.known key) may)
              ∙ sym (ap₂ (λ (a b : Bool). stage_by a b (list_any (says_came q) items)) (ap₂ (λ (a b : Bool). a || b) unsent (unsaid q)) (right_true (list_any (says_settled q) items) (says_settled q x) (says q ∙ same)))
          | inr other ↦
              stage_other key stage.Settled q other m.known
              ∙ mem.stages q
              ∙ sym (ap₂ (λ (a b : Bool). stage_by a b (list_any (says_came q) items)) (ap (λ b. list_any (sends q) items || b) (unsaid q) ∙ or_false (list_any (sends q) items)) (ap (λ b. list_any (says_settled q) items || b) (says q ∙ other) ∙ or_false (list_any (says_settled q) items)))
        ]
        ∙ sym (staged_by q)

    settled_orderly : (key : Key) → ((q : Key) → sends q x ≡ false) → ((q : Key) → says_settled q x ≡ key_is key q) → list_any (says_came key) items ≡ true → (q : Key)
        → (list_any (sends q) (items ++ x ∷ []) ≡ true → list_any (says_settled q) (items ++ x ∷ []) ≡ true) × (list_any (says_settled q) (items ++ x ∷ []) ≡ true → list_any (says_came q) (items ++ x ∷ []) ≡ true)
    settled_orderly key unsaid says came q = (
      λ e. any_more (says_settled q) items x ∙ ap (λ b. b || says_settled q x) ((mem.orderly q).0 (sym (any_same (sends q) items x (unsaid q)) ∙ e)),
      λ e. came_still q ∙ elim (either (key_is key q)) [
        | inl same ↦ ap (λ (l : Key). list_any (says_came l) items) (sym ((key_is-decides key q).0 same)) ∙ came
        | inr other ↦ (mem.orderly q).1 (sym (any_same (says_settled q) items x (says q ∙ other)) ∙ e)
      ],
    )

    settles_more : (key : Key) (waiting : Option Key) → is_cut x ≡ false → is_removal x ≡ false → is_drop x ≡ false → named_channel x ≡ key.channel → ((q : Key) → sends q x ≡ false) → ((q : Key) → says_settled q x ≡ key_is key q)
        → ((q : Key) → still_waits q (items ++ x ∷ []) ≡ is_waiting waiting q)
        → unsent_count (items ++ x ∷ []) (channel_of_last m.last) ≡ m.unsent → stage_waits (stage_in m.known key) ≡ true
        → IsMemoryOf (items ++ x ∷ []) (record m { known = with_stage key stage.Settled m.known; waiting = waiting })
    settles_more key waiting no_cut no_removal no_drop channel unsaid says waits unsent may = record {
      rising = rising_staged key stage.Settled m.known mem.rising;
      above = above_staged key stage.Settled;
      rises = rises_still;
      stages = settled_stages key unsaid says may;
      orderly = settled_orderly key unsaid says (waits_is key may).2;
      cut = mark_other is_cut m.cut m.last items x no_cut none mem.cut;
      removed = mark_other is_removal m.removed m.last items x no_removal none mem.removed;
      dropped = mark_other is_drop m.dropped m.last items x no_drop none mem.dropped;
      waiting = waits;
      channel = channel_still (omega (arith, channel, old_channel key (waits_is key may).2));
      once = λ q. once_other items x q (none q) (mem.once q);
      unsent = unsent;
      few = few_staged key stage.Settled;
    }

  pub ran_more : (k : Key) (moment : ℕ) (starved parked : Bool) → stage_waits (stage_in m.known k) ≡ true → IsMemoryOf (items ++ Ran k moment starved parked ∷ []) (remember m (Ran k moment starved parked))
  ran_more k moment starved parked may =
      settles_more (Ran k moment starved parked) (λ q. refl) (λ q. refl) k (cond parked (Some k) None) refl refl refl refl (λ q. refl) (λ q. refl)
      (λ q. waits_more q items (Ran k moment starved parked) ∙ by q parked)
      (unsent_other items (Ran k moment starved parked) (channel_of_last m.last) (λ q. refl) refl ∙ mem.unsent) may
    where
      by : (q : Key) (parked : Bool) → ((parked && key_is k q) || (still_waits q items && false)) ≡ is_waiting (cond parked (Some k) None) q
      by q true = ap (λ b. key_is k q || b) (and_false (still_waits q items)) ∙ or_false (key_is k q)
      by q false = and_false (still_waits q items)

  pub cancelled_more : (k : Key) → stage_waits (stage_in m.known k) ≡ true → IsMemoryOf (items ++ Cancelled k ∷ []) (remember m (Cancelled k))
  cancelled_more k may =
      settles_more (Cancelled k) (λ q. refl) (λ q. refl) k m.waiting refl refl refl refl (λ q. refl) (λ q. refl)
      (λ q. waits_more q items (Cancelled k) ∙ and_true (still_waits q items) ∙ mem.waiting q)
      (unsent_other items (Cancelled k) (channel_of_last m.last) (λ q. refl) refl ∙ mem.unsent) may

  -- ---- a completion that is sent

  -- it is one of those of the last channel
  pub sent_counted : (k : Key) → stage_settled (stage_in m.known k) ≡ true → may_name m k ≡ true → unsent_count (items ++ Sent k ∷ []) (channel_of_last m.last) + 1 ≡ m.unsent
  sent_counted k may name =
      let settled = settled_is k may in
      let came = (mem.orderly k).1 settled.1 in
      let high : channel_of_last m.last ≤ k.channel = leb-true (channel_of_last m.last) k.channel (second_true (is_above m.dropped k) (nat_le (channel_of_last m.last) k.channel) name) in
      let channel : k.channel ≡ channel_of_last m.last = omega (arith, high, old_channel k came) in
      unsent_sent items k (channel_of_last m.last) channel settled.0 came (mem.once k) ∙ mem.unsent

  pub sent_more : (k : Key) → stage_settled (stage_in m.known k) ≡ true → may_name m k ≡ true → IsMemoryOf (items ++ Sent k ∷ []) (remember m (Sent k))
  sent_more k may name = record {
    rising = rising_staged k stage.Sent m.known mem.rising;
    above = above_staged (Sent k) (λ q. refl) (λ q. refl) k stage.Sent;
    rises = rises_still (Sent k) (λ q. refl) (λ q. refl);
    stages = stages;
    orderly = λ q. (
      λ e. any_same (says_settled q) items (Sent k) refl ∙ elim (either (sends q (Sent k))) [
        | inl same ↦ ap (λ (l : Key). list_any (says_settled l) items) (sym (own q same)) ∙ settled.1
        | inr other ↦ (mem.orderly q).0 (sym (any_same (sends q) items (Sent k) other) ∙ e)
      ],
      λ e. came_still (Sent k) (λ q. refl) (λ q. refl) q ∙ (mem.orderly q).1 (sym (any_same (says_settled q) items (Sent k) refl) ∙ e),
    );
    cut = mark_other is_cut m.cut m.last items (Sent k) refl (λ q. refl) mem.cut;
    removed = mark_other is_removal m.removed m.last items (Sent k) refl (λ q. refl) mem.removed;
    dropped = mark_other is_drop m.dropped m.last items (Sent k) refl (λ q. refl) mem.dropped;
    waiting = λ q. waits_more q items (Sent k) ∙ and_true (still_waits q items) ∙ mem.waiting q;
    channel = channel_still (Sent k) (λ q. refl) (λ q. refl) (old_channel k came);
    once = λ q. once_other items (Sent k) q refl (mem.once q);
    unsent = let counted = sent_counted k may name in omega (arith, counted);
    few = omega (arith, mem.few, length_staged k stage.Sent m.known);
  }
    where
      settled : (list_any (sends k) items ≡ false) × (list_any (says_settled k) items ≡ true)
      settled = settled_is k may

      came : list_any (says_came k) items ≡ true
      came = (mem.orderly k).1 settled.1

      own : (q : Key) → key_is k q ≡ true → k ≡ q
      own q same = (key_is-decides k q).0 same

      stages : (q : Key) → stage_in (with_stage k stage.Sent m.known) q ≡ stage_of (items ++ Sent k ∷ []) q
      stages q =
          elim (either (key_is k q)) [
            | inl same ↦
                ap (stage_in (with_stage k stage.Sent m.known)) (sym (own q same))
                ∙ stage_own k stage.Sent stage.Settled m.known (stage_settled-is (stage_in m.known k) may)
                ∙ sym (ap (λ a. stage_by a (list_any (says_settled q) items || false) (list_any (says_came q) items)) (right_true (list_any (sends q) items) (key_is k q) same))
            | inr other ↦
                stage_other k stage.Sent q other m.known
                ∙ mem.stages q
                ∙ sym (ap₂ (λ (a b : Bool). stage_by a b (list_any (says_came q) items)) (ap (λ b. list_any (sends q) items || b) other ∙ or_false (list_any (sends q) items)) (or_false (list_any (says_settled q) items)))
          ]
          ∙ sym (staged_by (Sent k) (λ q. refl) (λ q. refl) q)

  -- ---- a cut

  module _ (cause : Cause) where
    cut_stages : (q : Key) → stage_in m.known q ≡ stage_of (items ++ Cut cause ∷ []) q
    cut_stages q =
        mem.stages q
        ∙ sym (ap₂ (λ (a b : Bool). stage_by a b (list_any (says_came q) items)) (or_false (list_any (sends q) items)) (or_false (list_any (says_settled q) items)))
        ∙ sym (staged_by (Cut cause) (λ q. refl) (λ q. refl) q)

    cut_orderly : (q : Key)
        → (list_any (sends q) (items ++ Cut cause ∷ []) ≡ true → list_any (says_settled q) (items ++ Cut cause ∷ []) ≡ true) × (list_any (says_settled q) (items ++ Cut cause ∷ []) ≡ true → list_any (says_came q) (items ++ Cut cause ∷ []) ≡ true)
    cut_orderly q = (
      λ e. any_same (says_settled q) items (Cut cause) refl ∙ (mem.orderly q).0 (sym (any_same (sends q) items (Cut cause) refl) ∙ e),
      λ e. any_same (says_came q) items (Cut cause) refl ∙ (mem.orderly q).1 (sym (any_same (says_settled q) items (Cut cause) refl) ∙ e),
    )

    cut_waits : (q : Key) → still_waits q (items ++ Cut cause ∷ []) ≡ is_waiting None q
    cut_waits q = waits_more q items (Cut cause) ∙ and_false (still_waits q items)

    cuts_more : (removed dropped : Option Key) → IsMark is_removal removed m.last (items ++ Cut cause ∷ []) → IsMark is_drop dropped m.last (items ++ Cut cause ∷ [])
        → IsMemoryOf (items ++ Cut cause ∷ []) (record m { cut = m.last; removed = removed; dropped = dropped; waiting = None })
    cuts_more removed dropped is_removed is_dropped = record {
      rising = mem.rising;
      above = mem.above;
      rises = rises_still (Cut cause) (λ q. refl) (λ q. refl);
      stages = cut_stages;
      orderly = cut_orderly;
      cut = mark_set is_cut m.cut m.last items (Cut cause) refl (λ q. refl) old;
      removed = is_removed;
      dropped = is_dropped;
      waiting = cut_waits;
      channel = channel_still (Cut cause) (λ q. refl) (λ q. refl) (omega arith);
      once = λ q. once_other items (Cut cause) q refl (mem.once q);
      unsent = unsent_other items (Cut cause) (channel_of_last m.last) (λ q. refl) refl ∙ mem.unsent;
      few = mem.few;
    }

  pub cut_more : (cause : Cause) → IsMemoryOf (items ++ Cut cause ∷ []) (remember m (Cut cause))
  cut_more Removed =
      cuts_more Removed m.last m.dropped (mark_set is_removal m.removed m.last items (Cut Removed) refl (λ q. refl) old) (mark_other is_drop m.dropped m.last items (Cut Removed) refl (λ q. refl) mem.dropped)
  cut_more Dropped =
      cuts_more Dropped m.removed m.last (mark_other is_removal m.removed m.last items (Cut Dropped) refl (λ q. refl) mem.removed) (mark_set is_drop m.dropped m.last items (Cut Dropped) refl (λ q. refl) old)

  -- ---- an entry that breaks no rule

  kept_first : (b : Bool) (r : Rule) (others : Option Rule) → unless b r others ≡ None → b ≡ true
  kept_first true r others e = refl
  kept_first false r others e = absurd (cc)

  kept_later : (b : Bool) (r : Rule) (others : Option Rule) → unless b r others ≡ None → others ≡ None
  kept_later true r others e = e
  kept_later false r others e = absurd (cc)

  sendable : (k : Key) → broken_by m (Sent k) ≡ None → (stage_settled (stage_in m.known k) ≡ true) × (may_name m k ≡ true)
  sendable k e = (
    first_true (stage_settled (stage_in m.known k)) (not (is_waiting m.waiting k)) (kept_first (stage_settled (stage_in m.known k) && not (is_waiting m.waiting k)) rule.SentOnce (unless (may_name m k) rule.DropForgets None) e),
    kept_first (may_name m k) rule.DropForgets None (kept_later (stage_settled (stage_in m.known k) && not (is_waiting m.waiting k)) rule.SentOnce (unless (may_name m k) rule.DropForgets None) e),
  )

  -- What is kept after it is of the entries with this one.
  pub memory_more : (entry : Item) → broken_by m entry ≡ None → IsMemoryOf (items ++ entry ∷ []) (remember m entry)
  memory_more (Came k) e = came_more k (kept_first (is_above m.last k) rule.KeysRise None e)
  memory_more (Ran k moment starved parked) e =
      ran_more k moment starved parked (kept_first (stage_waits (stage_in m.known k)) rule.RunsOnce (unless (is_above m.cut k) rule.NoRunAfterCut (unless (may_name m k) rule.DropForgets None)) e)
  memory_more (Cancelled k) e =
      cancelled_more k (kept_first (stage_waits (stage_in m.known k)) rule.RunsOnce (unless (not (is_above m.removed k)) rule.CancelledAfterRemoval (unless (may_name m k) rule.DropForgets None)) e)
  memory_more (Sent k) e = let (may, name) = sendable k e in sent_more k may name
  memory_more (Cut cause) e = cut_more cause

  -- a completion that may be sent is counted
  pub some_unsent : (k : Key) → broken_by m (Sent k) ≡ None → 0 < m.unsent
  some_unsent k e = let (may, name) = sendable k e in omega (arith, sent_counted k may name)
