-- What still stands in the core's outbox answers its requests too.
use Rattle.std.proofs.Common.{◌≡◌, ◌∙◌, refl, sym, ap, subst, inl, inr, ℕ, Bool, true, false, cond, List, [], ◌∷◌, ◌++◌, Option, Some, None, eq-eqb}
use Rattle.std.specs.List.{cons_option}
use Rattle.std.specs.Option.{option_map_or}
use Rattle.rd_base.specs.declared.journal.Item.{Item}
use Rattle.rd_base.specs.declared.journal.Item.TheVariants.{Came}
use Rattle.rd_base.specs.declared.journal.Key.{Key}
use Rattle.rd_client.specs.Core.{Outgoing}
use Rattle.rd_irp.specs.declared.completion.Reply.{Reply}
use Rattle.rd_irp.specs.declared.request.Request.{Request}
use Rattle.rd_served_order.specs.JournalsJobs.{IsAnswerOf, IsRefusalOf}
use Rattle.rd_served_order.specs.JournalsStanding.{IsOut}
use Rattle.rd_world.specs.Events.{deed_on}
use Rattle.rd_deeds.specs.Talk.{Deed, EachAfter, Has, client_read, client_writes, client_wrote, completes, journal, request_at}
use Rattle.rd_deeds.specs.Told.{Answers, CompletesWith, IsDirect, Replies, came}
use Rattle.rd_served_order.proofs.ServedStandingLemmas.{IsKnownAt, IsUnserved, came_here}
use Rattle.rd_served_order.specs.ServedServed.{Served}
use Rattle.rd_served_refusals.specs.Heeding.{once_written}
use Rattle.rd_served_causes.proofs.RefuseLemmas.{came_has, worn_same}
use Rattle.rd_served_causes.proofs.SayLemmas.{AllRight, IsWornFor, RightAt, one_right, right_so}

-- A completion refuses a request that never came, as was said before it.
abbrev pub RefusesRightly : List Deed → Deed → Type 0
RefusesRightly before (completes key m) =
    (r : Request) × (reply : Reply) × (request_at (client_read key.channel before) key.index ≡ Some r) × CompletesWith r reply m × (came key.channel (journal r.device before) key.index ≡ false) × IsDirect r.device key reply before
RefusesRightly before _ = Unit {0}

-- So does each that is still to be written, once those before it are.
abbrev pub RefuseRightly : (rest deeds : List Deed) → Type 0
RefuseRightly [] deeds = Unit {0}
RefuseRightly (y ∷ rest) deeds = RefusesRightly (rest ++ deeds) y × RefuseRightly rest deeds

right_answers : (replies : Replies) (before : List Deed) (y : Deed) → RefusesRightly before y → Answers replies before y
right_answers replies before (completes key m) (r, reply, read, completed, never, direct) = (r, reply, read, completed, inr (inr (never, direct)))
right_answers replies before y is = tt

-- so it answers, whatever the replies
pub rest_answers : (replies : Replies) (rest deeds : List Deed) → RefuseRightly rest deeds → EachAfter (Answers replies) deeds → EachAfter (Answers replies) (rest ++ deeds)
rest_answers replies [] deeds is each = each
rest_answers replies (y ∷ rest) deeds is each = (right_answers replies (rest ++ deeds) y is.0, rest_answers replies rest deeds is.1 each)

module _ (p : Served) (deeds : List Deed) (known : IsKnownAt p deeds) (c : ℕ) where
  -- a request that is unserved never came
  never_came : (key : Key) → IsUnserved p key → (device : ℕ) → came key.channel (journal device deeds) key.index ≡ false
  never_came key unserved device = by (came key.channel (journal device deeds) key.index) refl
    where
      by : (b : Bool) → came key.channel (journal device deeds) key.index ≡ b → b ≡ false
      by false is = refl
      by true is =
          let (other, has, channel, index) = came_has key.channel (journal device deeds) key.index is in
          let same : other ≡ key = λ i. record { channel = channel i; index = index i } in
          absurd (unserved.unnamed (came_here p deeds known.told known.standing device key (subst (λ (k : Key). Has (Came k) (journal device deeds)) same has)))

  one_refuses : (before : List Deed) → ((x : ℕ) → client_read x before ≡ client_read x deeds) → ((d : ℕ) → journal d before ≡ journal d deeds) → (key : Key) (m : List ℕ) → RightAt (IsWornFor p deeds) c (Some key) m (client_wrote c before) → IsUnserved p key → IsAnswerOf IsRefusalOf deeds key m
      → RefusesRightly before (completes key m)
  one_refuses before reads journals key m right unserved answer =
      let read : request_at (client_read key.channel before) key.index ≡ Some answer.request = ap (λ (ms : List (List ℕ)). request_at ms key.index) (reads key.channel) ∙ answer.read in
      let never : came key.channel (journal (answer.request).device before) key.index ≡ false = ap (λ (j : List Item). came key.channel j key.index) (journals (answer.request).device) ∙ never_came key unserved (answer.request).device in
      let now : RightAt (IsWornFor p before) c (Some key) m (client_wrote c before) =
      one_right (IsWornFor p deeds) (IsWornFor p before) c (worn_same p p deeds before refl refl journals) (Some key) m (client_wrote c before) (client_wrote c before) (λ d. refl) right in
      let here : key.channel ≡ c = right.2 in (
        answer.request,
        answer.reply,
        read,
        answer.completes,
        never,
        right_so p c key m before (subst (λ (n : ℕ). RightAt (IsWornFor p before) c (Some key) m (client_wrote n before)) (sym here) now) answer.request answer.reply read answer.completes never answer.given,
      )

  pub rest_refuses : (os : List Outgoing) (rest : List Deed) → ((x : ℕ) → client_read x (rest ++ deeds) ≡ client_read x deeds) → ((d : ℕ) → journal d (rest ++ deeds) ≡ journal d deeds) → AllRight (IsWornFor p deeds) c os (client_wrote c (rest ++ deeds))
      → ((o : Outgoing) → Has o os → IsOut (IsUnserved p) o.answers o.message) → ((o : Outgoing) → Has o os → (key : Key) → o.answers ≡ Some key → IsAnswerOf IsRefusalOf deeds key o.message) → RefuseRightly rest deeds
      → RefuseRightly (once_written c os rest) deeds
  rest_refuses [] rest reads journals right out answers each = each
  rest_refuses (o ∷ os) rest reads journals right out answers each =
      rest_refuses os (deed_on c o ∷ rest) (λ x. read_on o.answers x ∙ reads x) (λ d. journal_on o.answers d ∙ journals d)
      (subst (λ (ms : List (List ℕ)). AllRight (IsWornFor p deeds) c os ms) (sym (wrote_on o.answers right.0)) right.1) (λ y has. out y (inr has)) (λ y has. answers y (inr has))
      (own o.answers right.0 (out o (inl refl)) (answers o (inl refl)), each)
    where
      before : List Deed
      before = rest ++ deeds

      read_on : (a : Option Key) (x : ℕ) → client_read x (option_map_or (λ key. completes key o.message) a (client_writes c o.message) ∷ before) ≡ client_read x before
      read_on None x = refl
      read_on (Some key) x = refl

      journal_on : (a : Option Key) (d : ℕ) → journal d (option_map_or (λ key. completes key o.message) a (client_writes c o.message) ∷ before) ≡ journal d before
      journal_on None d = refl
      journal_on (Some key) d = refl

      wrote_on : (a : Option Key) → RightAt (IsWornFor p deeds) c a o.message (client_wrote c before) → client_wrote c (option_map_or (λ key. completes key o.message) a (client_writes c o.message) ∷ before) ≡ o.message ∷ client_wrote c before
      wrote_on None is = ap (λ (b : Bool). cons_option (cond b (Some o.message) None) (client_wrote c before)) (eq-eqb c c refl)
      wrote_on (Some key) is = ap (λ (b : Bool). cons_option (cond b (Some o.message) None) (client_wrote c before)) (eq-eqb key.channel c is.2)

      own : (a : Option Key) → RightAt (IsWornFor p deeds) c a o.message (client_wrote c before) → IsOut (IsUnserved p) a o.message → ((key : Key) → a ≡ Some key → IsAnswerOf IsRefusalOf deeds key o.message)
          → RefusesRightly before (option_map_or (λ key. completes key o.message) a (client_writes c o.message))
      own None is unserved answer = tt
      own (Some key) is unserved answer = one_refuses before reads journals key o.message is unserved (answer key refl)
