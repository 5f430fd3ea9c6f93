-- What a client had to send when a channel ended, as deeds: it is heeded, and it tells what is due.
use Rattle.std.proofs.Common.{◌≡◌, ◌∙◌, refl, sym, ap, subst, inl, inr, ℕ, ◌==◌, Bool, true, false, eq-eqb, List, [], ◌∷◌, ◌++◌, map, reverse, Some, None, Option, append-nil, append_assoc}
use Rattle.std.specs.Prelude.{filter, if◌then◌else◌}
use Rattle.std.proofs.lemmas.List.Elements.{All-from_recursion}
use Rattle.std.specs.List.{AllByRecursion, cons_option}
use Rattle.std.specs.Option.{IfSome, option_map_or}
use Rattle.rd_acted.proofs.SayingLemmas.{say_zip, wrote_more}
use Rattle.rd_acted.specs.Acted.{SayFirst, due_on}
use Rattle.rd_acted.specs.Waiting.{tellings_waiting}
use Rattle.rd_acted.proofs.AnsweredSayingLemmas.{refuses_so}
use Rattle.rd_acted.specs.AnsweredRefusing.{AllRefuse, RefusesGone}
use Rattle.rd_base.specs.declared.journal.Key.{Key}
use Rattle.rd_client.specs.Core.{Outgoing}
use Rattle.rd_acted.specs.DirectsTurns.{never, said}
use Rattle.rd_world.specs.Acts.{Tells, is_telling, of_channel, tellings_on}
use Rattle.rd_world.specs.Control.{Telling}
use Rattle.rd_declared.specs.Devices.{Declared}
use Rattle.rd_world.specs.Events.{deed_on}
use Rattle.rd_world.specs.Session.{IsLeftOver}
use Rattle.rd_deeds.specs.Talk.{Deed, EachAfter, EndsWith, Has, client_read, client_writes, client_wrote, completes, journal, request_at}
use Rattle.rd_deeds.specs.Told.{Answers, IsLeft, Replies, came, requests_to, told, without_last}
use Rattle.rd_said.specs.Rest.{IsAnswerOn, RefusesUnserved, WasLeft, deeds_then}

-- ---- one message

own_channel : {A : Type 0} (channel c : ℕ) (x : A) (xs : List A) → channel ≡ c → cons_option (if channel == c then Some x else None) xs ≡ x ∷ xs
own_channel {A} channel c x xs same = ap (λ (b : Bool). cons_option (if b then Some x else None) xs) (eq-eqb channel c same)

module _ (c : ℕ) where
  wrote_one : (o : Outgoing) (deeds : List Deed) → IsAnswerOn c o → client_wrote c (deed_on c o ∷ deeds) ≡ o.message ∷ client_wrote c deeds
  wrote_one o deeds on = by o.answers on
    where
      by : (a : Option Key) → IfSome a (λ (key : Key). key.channel ≡ c) → client_wrote c (option_map_or (λ key. completes key o.message) a (client_writes c o.message) ∷ deeds) ≡ o.message ∷ client_wrote c deeds
      by None on = own_channel c c o.message (client_wrote c deeds) refl
      by (Some key) on = own_channel key.channel c o.message (client_wrote c deeds) on

  read_one : (o : Outgoing) (deeds : List Deed) (n : ℕ) → client_read n (deed_on c o ∷ deeds) ≡ client_read n deeds
  read_one o deeds n = by o.answers
    where
      by : (a : Option Key) → client_read n (option_map_or (λ key. completes key o.message) a (client_writes c o.message) ∷ deeds) ≡ client_read n deeds
      by None = refl
      by (Some key) = refl

  journal_one : (o : Outgoing) (deeds : List Deed) (d : ℕ) → journal d (deed_on c o ∷ deeds) ≡ journal d deeds
  journal_one o deeds d = by o.answers
    where
      by : (a : Option Key) → journal d (option_map_or (λ key. completes key o.message) a (client_writes c o.message) ∷ deeds) ≡ journal d deeds
      by None = refl
      by (Some key) = refl

  -- ---- all of them

  pub then_parts : (os : List Outgoing) (deeds : List Deed) → deeds_then c os deeds ≡ deeds_then c os [] ++ deeds
  then_parts [] deeds = refl
  then_parts (o ∷ os) deeds =
      let x : Deed = deed_on c o in
      then_parts os (x ∷ deeds) ∙ sym (append_assoc (deeds_then c os []) (x ∷ []) deeds) ∙ ap (λ (ds : List Deed). ds ++ deeds) (sym (then_parts os (x ∷ [])))

  told_then : (d : ℕ) (os : List Outgoing) (deeds : List Deed) → told c d (deeds_then c os deeds) ≡ said c d os (told c d deeds)
  told_then d [] deeds = refl
  told_then d (o ∷ os) deeds = told_then d os (deed_on c o ∷ deeds)

  left_one : (o : Outgoing) → IsAnswerOn c o → IsLeft c (deed_on c o)
  left_one o on = by o.answers on
    where
      by : (a : Option Key) → IfSome a (λ (key : Key). key.channel ≡ c) → IsLeft c (option_map_or (λ key. completes key o.message) a (client_writes c o.message))
      by None on = refl
      by (Some key) on = on

  left_then : (os : List Outgoing) (deeds : List Deed) → AllByRecursion (IsAnswerOn c) os → AllByRecursion (IsLeft c) deeds → AllByRecursion (IsLeft c) (deeds_then c os deeds)
  left_then [] deeds on left = left
  left_then (o ∷ os) deeds on left = left_then os (deed_on c o ∷ deeds) on.1 (left_one o on.0, left)

  tells_then : (os : List Outgoing) (deeds : List Deed) → AllByRecursion (IsAnswerOn c) os → tellings_on c (deeds_then c os deeds) ≡ tellings_on c deeds ++ tellings_waiting os
  tells_then [] deeds on = sym (append-nil (tellings_on c deeds))
  tells_then (o ∷ os) deeds on =
      tells_then os (deed_on c o ∷ deeds) on.1
      ∙ ap (λ (ms : List (List ℕ)). ms ++ tellings_waiting os) (ap (λ (ms : List (List ℕ)). filter is_telling (reverse ms)) (wrote_one o deeds on.0) ∙ wrote_more c (Some o.message) (client_wrote c deeds))
      ∙ append_assoc (tellings_on c deeds) (filter is_telling (o.message ∷ [])) (tellings_waiting os)
      ∙ ap (λ (ms : List (List ℕ)). tellings_on c deeds ++ ms) (first (is_telling o.message))
    where
      first : (b : Bool) → (if b then o.message ∷ [] else []) ++ tellings_waiting os ≡ (if b then o.message ∷ tellings_waiting os else tellings_waiting os)
      first true = refl
      first false = refl

  -- each answers its key, as long as nothing was read, and nothing came, since
  module _ (replies : Replies) (base : List Deed) where
    answers_one : (o : Outgoing) (deeds : List Deed) → ((n : ℕ) → client_read n deeds ≡ client_read n base) → ((d : ℕ) → journal d deeds ≡ journal d base) → IsAnswerOn c o
        → RefusesGone o.answers o.message (client_wrote c deeds) → RefusesUnserved c base o → Answers replies deeds (deed_on c o)
    answers_one o deeds reads journals on refuses unserved = by o.answers refl
      where
        by : (a : Option Key) → o.answers ≡ a → Answers replies deeds (option_map_or (λ key. completes key o.message) a (client_writes c o.message))
        by None e = tt
        by (Some key) e =
            let own : key.channel ≡ c = subst (λ (a : Option Key). IfSome a (λ (k : Key). k.channel ≡ c)) e on in
            let (is, never_came) = unserved key e in
            let read : request_at (client_read key.channel deeds) key.index ≡ Some is.request = ap (λ (ms : List (List ℕ)). request_at ms key.index) (reads key.channel) ∙ is.read in
            let none : came key.channel (journal (is.request).device deeds) key.index ≡ false =
            ap (λ j. came key.channel j key.index) (journals (is.request).device) ∙ ap (λ (n : ℕ). came n (journal (is.request).device base) key.index) own ∙ never_came (is.request).device in
            let gone : RefusesGone (Some key) o.message (client_wrote key.channel deeds) =
            subst (λ (n : ℕ). RefusesGone (Some key) o.message (client_wrote n deeds)) (sym own) (subst (λ (a : Option Key). RefusesGone a o.message (client_wrote c deeds)) e refuses) in
            (is.request, is.reply, read, is.completes, inr (inr (none, refuses_so key o.message deeds gone is.request is.reply read is.completes none is.given)))

    answers_then : (os : List Outgoing) (deeds : List Deed) → ((n : ℕ) → client_read n deeds ≡ client_read n base) → ((d : ℕ) → journal d deeds ≡ journal d base) → AllByRecursion (IsAnswerOn c) os
        → AllRefuse os (client_wrote c deeds) → ((o : Outgoing) → Has o os → RefusesUnserved c base o) → EachAfter (Answers replies) deeds → EachAfter (Answers replies) (deeds_then c os deeds)
    answers_then [] deeds reads journals on refuses unserved each = each
    answers_then (o ∷ os) deeds reads journals on refuses unserved each =
        answers_then os (deed_on c o ∷ deeds) (λ n. read_one o deeds n ∙ reads n) (λ d. journal_one o deeds d ∙ journals d) on.1
        (subst (AllRefuse os) (sym (wrote_one o deeds on.0)) refuses.1) (λ x has. unserved x (inr has))
        (answers_one o deeds reads journals on.0 refuses.0 (unserved o (inl refl)), each)

-- What was left, as deeds, is what may have been still to be written.
pub left_over : (devices : List (ℕ × Declared)) (things : List (ℕ × Telling)) (replies : Replies) (c : ℕ) (os : List Outgoing) (deeds : List Deed)
    → of_channel c things ≡ due_on (map (λ (d : ℕ × Declared). d.0) devices) c deeds → EachAfter (Answers replies) deeds → WasLeft devices c os deeds → IsLeftOver devices things replies c deeds (deeds_then c os [])
left_over devices things replies c os deeds due answers is =
    let rest : List Deed = deeds_then c os [] in
    let parts : deeds_then c os deeds ≡ rest ++ deeds = then_parts c os deeds in
    let line : (device : ℕ) → told c device (rest ++ deeds) ≡ said c device os (told c device deeds) = λ device. ap (told c device) (sym parts) ∙ told_then c device os deeds in
    let tellings : tellings_on c (rest ++ deeds) ≡ tellings_on c deeds ++ tellings_waiting os = ap (tellings_on c) (sym parts) ∙ tells_then c os deeds is.on in
    record {
      heeded = record {
        left = All-from_recursion (IsLeft c) rest (left_then c os [] is.on tt);
        each = λ device. subst (λ (xs : List ℕ). EndsWith (never c (journal device deeds) xs) (never c (journal device deeds) (requests_to device (without_last (client_read c deeds))))) (sym (line device)) (is.each device);
        answers = subst (EachAfter (Answers replies)) parts (answers_then c replies deeds os deeds (λ n. refl) (λ d. refl) is.on is.refuse is.unserved answers);
      };
      tells = record {
        each = say_zip (Tells devices deeds c) (tellings_on c (rest ++ deeds)) (of_channel c things)
            (subst (λ (ms : List (List ℕ)). SayFirst (Tells devices deeds c) ms (of_channel c things)) (sym tellings) (subst (SayFirst (Tells devices deeds c) (tellings_on c deeds ++ tellings_waiting os)) (sym due) is.tells));
        all = λ e. absurd (cc e);
      };
    }
