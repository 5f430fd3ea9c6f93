-- No application hears that its request was cancelled, or that its device isn't there.
use Rattle.std.proofs.Common.{◌≡◌, ◌∙◌, refl, sym, ap, subst, ℕ, Bool, true, false, List, [], ◌∷◌, ◌++◌, map, reverse, Some, None, Option, append_assoc, append-nil, arith, inl, inr}
use Rattle.std.specs.Prelude.{Contains}
use Rattle.std.specs.List.{AllByRecursion}
use Rattle.std.specs.Map.{lookup}
use Rattle.std.specs.Ordering.{nat_cmp}
use Rattle.std.specs.BTreeMap.{is_at}
use Rattle.std.proofs.lemmas.List.Elements.{All-contains, All-from_recursion, Contains-append_cases}
use Rattle.rd_base.specs.declared.journal.Cause.{Cause}
use Rattle.rd_base.specs.declared.journal.Item.{Item}
use Rattle.rd_base.specs.declared.journal.Item.TheVariants.{Came, Cancelled, Cut, Ran, Sent}
use Rattle.rd_base.specs.declared.journal.Key.{Key}
use Rattle.rd_drive.specs.declared.step.End.{End}
use Rattle.rd_drive.specs.declared.step.Step.{Step}
use Rattle.rd_drive.specs.declared.step.Step.TheVariants as step
use Rattle.rd_drive.specs.Replies.{KeyedReply, end_reply, last_state_by, own_reply, replies_at, replies_by, state_after}
use Rattle.rd_irp.specs.declared.completion.Reply.{Reply}
use Rattle.rd_irp.specs.declared.request.Request.{Request}
use Rattle.rd_pending.specs.declared.calls.Outcome.TheVariants.{Done}
use Rattle.rd_pending.specs.Outcomes.{Accepted}
use Rattle.rd_declared.specs.Devices.{Declared, device_cut, device_step}
use Rattle.rd_declared.specs.declared.device.SessionDevice.{SessionDevice}
use Rattle.rd_deeds.specs.Joining.{AreJoined, ClientCameTo, key_of}
use Rattle.rd_world.specs.Recording.{request_of}
use Rattle.rd_world.specs.Session.{replies_in}
use Rattle.rd_deeds.specs.Talk.{Deed, journal}
use Rattle.rd_deeds.proofs.Lists.{all_more}
use Rattle.rd_world.proofs.OwnAnswers.{AreOwnEnds, IsOwn, IsOwnAnswer, is_own, run_own}
use Rattle.rd_deeds.proofs.Replied.{replied, uncut}

abbrev IsOwnPair : KeyedReply → Type 0
IsOwnPair pair = IsOwn pair.1

-- ---- the replies of an entry

answer_owns : (key : Key) (answer : Step) → IsOwnAnswer answer → AllByRecursion IsOwnPair (own_reply key answer)
answer_owns key (step.Reply reply) own = (own, tt)
answer_owns key step.Parked own = tt

ends_own : (ends : List End) → AreOwnEnds ends → AllByRecursion IsOwnPair (map end_reply ends)
ends_own [] all = tt
ends_own (e ∷ ends) all = (all.0, ends_own ends all.1)

module _ (requests : Key → Request) (opening : SessionDevice) where
  abbrev Gives : List Item → List KeyedReply
  Gives items = replies_by device_step device_cut requests opening items

  one_more : (s : SessionDevice) (before : List Item) (entry : Item)
      → replies_by device_step device_cut requests s (before ++ entry ∷ []) ≡ replies_by device_step device_cut requests s before ++ replies_at device_step device_cut requests (last_state_by device_step device_cut requests s before) entry
  one_more s [] entry = append-nil (replies_at device_step device_cut requests s entry)
  one_more s (x ∷ before) entry =
      ap (λ (xs : List KeyedReply). replies_at device_step device_cut requests s x ++ xs) (one_more (state_after device_step device_cut requests s x) before entry)
      ∙ sym (append_assoc (replies_at device_step device_cut requests s x) _ _)

  run_owns : (s : SessionDevice) (key : Key) (moment : ℕ) (starved parked : Bool) → AllByRecursion IsOwnPair (replies_at device_step device_cut requests s (Ran key moment starved parked))
  run_owns s key moment starved parked =
      let own = run_own s key (requests key).file (requests key).op moment starved in
      all_more IsOwnPair _ _ (answer_owns key _ own.0) (ends_own _ own.1)

  -- what no cut gives, and no run gives, isn't given
  given_never : (items : List Item) (key : Key) (reply : Reply) → is_own reply.status ≡ false
      → ((first last : List Item) (cause : Cause) → items ≡ first ++ Cut cause ∷ last → ¬ (Contains (Gives first) (key, reply)) → ¬ (Contains (Gives (first ++ Cut cause ∷ [])) (key, reply)))
      → (before rest : List Item) → items ≡ before ++ rest → ¬ (Contains (Gives before) (key, reply)) → ¬ (Contains (Gives (before ++ rest)) (key, reply))
  given_never items key reply foreign no_cut before [] e hasnt = subst (λ (xs : List Item). ¬ (Contains (Gives xs) (key, reply))) (sym (append-nil before)) hasnt
  given_never items key reply foreign no_cut before (entry ∷ rest) e hasnt =
      subst (λ (xs : List Item). ¬ (Contains (Gives xs) (key, reply))) (append_assoc before (entry ∷ []) rest)
      (given_never items key reply foreign no_cut (before ++ entry ∷ []) rest (e ∙ sym (append_assoc before (entry ∷ []) rest)) (one entry e))
    where
      of_pair : (xs : List KeyedReply) → AllByRecursion IsOwnPair xs → Contains xs (key, reply) → is_own reply.status ≡ true
      of_pair xs all h = All-contains IsOwnPair xs (key, reply) (All-from_recursion IsOwnPair xs all) h

      by : (entry : Item) → AllByRecursion IsOwnPair (replies_at device_step device_cut requests (last_state_by device_step device_cut requests opening before) entry) → ¬ (Contains (Gives (before ++ entry ∷ [])) (key, reply))
      by entry all has = elim (Contains-append_cases (Gives before) _ (key, reply) (subst (λ (xs : List KeyedReply). Contains xs (key, reply)) (one_more opening before entry) has)) [
        | inl h ↦ hasnt h
        | inr h ↦ absurd (cc (of_pair (replies_at device_step device_cut requests (last_state_by device_step device_cut requests opening before) entry) all h, foreign))
      ]

      one : (entry : Item) → items ≡ before ++ entry ∷ rest → ¬ (Contains (Gives (before ++ entry ∷ [])) (key, reply))
      one (Cut cause) e = no_cut before rest cause e hasnt
      one (Ran k moment starved parked) e = by (Ran k moment starved parked) (run_owns _ k moment starved parked)
      one (Came k) e = by (Came k) tt
      one (Cancelled k) e = by (Cancelled k) tt
      one (Sent k) e = by (Sent k) tt

nothing_contained : (x : KeyedReply) → ¬ (Contains [] x)
nothing_contained x has = absurd (omega (arith, has.1))

pub unheard : (client : ℕ) (devices : List (ℕ × Declared)) (deeds : List Deed) → AreJoined client (replies_in devices deeds) deeds → (a : Accepted) (reply : Reply) → ClientCameTo client deeds a (Done reply) → ¬ (is_own reply.status ≡ false)
unheard client devices deeds is a reply came foreign = go (lookup (is_at (nat_cmp a.device)) devices) refl
  where
    has : Contains (replies_in devices deeds a.device (reverse (journal a.device deeds))) (key_of a, reply)
    has = (replied client (replies_in devices deeds) deeds is a reply came).given.has

    go : (o : Option Declared) → lookup (is_at (nat_cmp a.device)) devices ≡ o → ⊥
    go None e =
        let none : replies_in devices deeds a.device (reverse (journal a.device deeds)) ≡ [] = rw e refl in
        nothing_contained (key_of a, reply) (subst (λ (xs : List KeyedReply). Contains xs (key_of a, reply)) none has)
    go (Some d) e =
        let same : (xs : List Item) → replies_in devices deeds a.device xs ≡ Gives (request_of deeds) d.state xs = λ xs. rw e refl in
        given_never (request_of deeds) d.state (reverse (journal a.device deeds)) (key_of a) reply foreign
        (λ first last cause parts hasnt gives. uncut client (replies_in devices deeds) deeds is a reply came first last cause parts
        (λ had. hasnt (subst (λ (ys : List KeyedReply). Contains ys (key_of a, reply)) (same first) had))
        (subst (λ (ys : List KeyedReply). Contains ys (key_of a, reply)) (sym (same (first ++ Cut cause ∷ []))) gives))
        [] (reverse (journal a.device deeds)) refl (nothing_contained (key_of a, reply))
        (subst (λ (ys : List KeyedReply). Contains ys (key_of a, reply)) (same (reverse (journal a.device deeds))) has)
