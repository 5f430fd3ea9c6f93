-- What an operation comes to has a reply of its layout, or the request waits.
use Rattle.std.proofs.Common.{◌≡◌, ◌∙◌, refl, sym, ap, subst, ℕ, ◌==◌, Bool, true, false, cond, MatchBool, List, [], ◌∷◌, Option, Some, None, find}
use Rattle.std.specs.List.{AllByRecursion}
use Rattle.std.specs.Map.{lookup}
use Rattle.std.proofs.lemmas.Option.{same_Some}
use Rattle.rd_base.specs.declared.status.Status.{Status}
use Rattle.rd_base.specs.declared.journal.Key.{Key}
use Rattle.rd_irp.specs.declared.op.Op.{Op}
use Rattle.rd_irp.specs.declared.completion.Body.{Body}
use Rattle.rd_irp.specs.declared.completion.Body.TheVariants as body
use Rattle.rd_irp.specs.declared.completion.Reply.{Reply}
use Rattle.rd_irp.specs.Fits.{kind_of, IsReplyTo, IsOfKind, IsCountableBody, IsSendable}
use Rattle.rd_drive.specs.declared.step.Step.TheVariants as step
use Rattle.rd_drive.specs.DriveState.{DriveState, Handle, Node, handle_at, node_of_path}
use Rattle.rd_drive.specs.Outcome.{Outcome, News, outcome_with_reply, succeeded, checked, given, one_of, fault, on_handle}
use Rattle.rd_base.specs.Statuses.{invalid_handle, no_memory}
use Rattle.rd_drive.specs.Device.{is_starved}
use Rattle.rd_drive.specs.Answered.{IsAnswered}

-- a status that is a failure answers every operation
pub fault_answers : (o : Op) (status : Status) → (status.0 == 0) ≡ false → IsReplyTo o (fault status)
fault_answers o status failed = ((subst Fails (sym failed) refl, tt), tt)
  where
    Fails : Bool → Type 0
    Fails b = MatchBool b (IsOfKind (kind_of o) body.Fault) (body.Fault ≡ body.Fault)

module _ (s : DriveState) (key : Key) (o : Op) where
  -- a reply to the operation, which never says that no memory was found
  abbrev pub Suits : Reply → Type 0
  Suits reply = IsReplyTo o reply × (is_starved (step.Reply reply) ≡ false)

  abbrev pub SuitsAll : List (Bool × Reply) → Type 0
  SuitsAll checks = AllByRecursion (λ (check : Bool × Reply). Suits check.1) checks

  -- a status that is a failure
  pub suits_fault : (status : Status) → (status.0 == 0) ≡ false → (status.0 == no_memory.0) ≡ false → Suits (fault status)
  suits_fault status failed fed = (fault_answers o status failed, fed)

  pub is_answered : (reply : Reply) → Suits reply → IsAnswered s key o (outcome_with_reply s reply)
  is_answered reply suits = record { by = (suits.0, suits.1, refl) }

  -- what succeeds, with a body of the operation's layout
  pub is_done : (new : DriveState) (b : Body) (news : News) → IsOfKind (kind_of o) b → IsCountableBody b → IsSendable b → new.waiting ≡ s.waiting → IsAnswered s key o (succeeded new b news)
  is_done new b news kind counts sends same = record { by = (((kind, counts), sends), refl, same) }

  pub after_checks : (checks : List (Bool × Reply)) → SuitsAll checks → (outcome : Outcome) → IsAnswered s key o outcome → IsAnswered s key o (checked s checks outcome)
  unfolding checked
  after_checks [] suits outcome later = later
  after_checks (check ∷ checks) suits outcome later = by (after_checks checks suits.1 outcome later) check.0
    where
      by : IsAnswered s key o (checked s checks outcome) → (b : Bool) → IsAnswered s key o (cond b (outcome_with_reply s check.1) (checked s checks outcome))
      by further true = is_answered check.1 suits.0
      by further false = further

  pub one_or_other : (test : Bool) (outcome other : Outcome) → IsAnswered s key o outcome → IsAnswered s key o other → IsAnswered s key o (one_of test outcome other)
  unfolding one_of
  one_or_other true outcome other first second = first
  one_or_other false outcome other first second = second

  pub where_given : {X : Type 0} (x : Option X) (status : Status) (f : X → Outcome) → Suits (fault status) → ((y : X) → x ≡ Some y → IsAnswered s key o (f y)) → IsAnswered s key o (given s x status f)
  unfolding given
  where_given None status f suits later = is_answered (fault status) suits
  where_given (Some y) status f suits later = later y refl

  pub on_any_handle : (file : ℕ) (f : Handle → Node → Outcome) → ((handle : Handle) (node : Node) → node_of_path s handle.path ≡ Some node → IsAnswered s key o (f handle node)) → IsAnswered s key o (on_handle s file f)
  on_any_handle file f later =
      let suits = suits_fault invalid_handle refl refl in
      where_given (handle_at s file) invalid_handle (λ handle. given s (node_of_path s handle.path) invalid_handle (f handle)) suits
      (λ handle e. where_given (node_of_path s handle.path) invalid_handle (f handle) suits (λ node there. later handle node there))

-- what a list of values by their numbers has, each of its values has
pub lookup_has : {X : Type 0} (P : X → Type 0) (p : ℕ → Bool) (l : List (ℕ × X)) (x : X) → lookup p l ≡ Some x → AllByRecursion (λ (e : ℕ × X). P e.1) l → P x
lookup_has P p [] x e all = absurd (cc)
lookup_has P p (y ∷ ys) x e all = by (λ h. lookup_has P p ys x h all.1) (p y.0) e
  where
    by : (lookup p ys ≡ Some x → P x) → (b : Bool) → cond b (Some y.1) (lookup p ys) ≡ Some x → P x
    by later true h = subst P (same_Some y.1 x h) all.0
    by later false h = later h

-- what each of some values has, the one that is found has
pub found_has : {X : Type 0} (P : X → Type 0) (p : X → Bool) (l : List X) (x : X) → find p l ≡ Some x → AllByRecursion P l → P x
found_has P p [] x e all = absurd (cc)
found_has P p (y ∷ ys) x e all = by (λ h. found_has P p ys x h all.1) (p y) e
  where
    by : (find p ys ≡ Some x → P x) → (b : Bool) → cond b (Some y) (find p ys) ≡ Some x → P x
    by later true h = subst P (same_Some y x h) all.0
    by later false h = later h

-- what is found passes
pub found_passes : {X : Type 0} (p : X → Bool) (l : List X) (x : X) → find p l ≡ Some x → p x ≡ true
found_passes p [] x e = absurd (cc)
found_passes p (y ∷ ys) x e = by (λ h. found_passes p ys x h) (p y) refl e
  where
    by : (find p ys ≡ Some x → p x ≡ true) → (b : Bool) → p y ≡ b → cond b (Some y) (find p ys) ≡ Some x → p x ≡ true
    by later true is h = ap p (sym (same_Some y x h)) ∙ is
    by later false is h = later h
