-- Where a cut alone gives a reply, or a request is cancelled, its device was removed since: by replies that a cut adds only to keys that came before it.
use Rattle.std.proofs.Common.{◌≡◌, ◌∙◌, sym, ap, subst, inl, inr, ℕ, zero, suc, ◌<◌, arith, append_assoc, List, [], ◌∷◌, ◌++◌, reverse, Some}
use Rattle.std.specs.Prelude.{Contains, slice_get}
use Rattle.std.proofs.lemmas.List.{reverse-append, reverse-reverse}
use Rattle.rd_base.specs.Lawful.{IsBefore, IsLawful}
use Rattle.rd_base.specs.declared.journal.Cause.{Cause}
use Rattle.rd_base.specs.declared.journal.Cause.TheVariants.{Dropped, Removed}
use Rattle.rd_base.specs.declared.journal.Item.{Item}
use Rattle.rd_base.specs.declared.journal.Item.TheVariants.{Came, Cancelled, Cut, Ran, Sent}
use Rattle.rd_base.specs.declared.journal.Key.{Key}
use Rattle.rd_irp.specs.declared.completion.Reply.{Reply}
use Rattle.rd_irp.specs.declared.request.Request.{Request}
use Rattle.rd_refused.proofs.JournalsWorkLemmas.{grown_more}
use Rattle.rd_refused.specs.RepliedRemovals.{IsCutSince, IsGoneSince, TellsGone}
use Rattle.rd_refused.specs.RepliedReplied.{AnswersBy, ComesFrom}
use Rattle.rd_refused.specs.RepliedSince.{AnswersSince, IsAnswerSince}
use Rattle.rd_replied.proofs.CutLemmas.{is_before, since_add, since_join, since_of, turn}
use Rattle.rd_station.proofs.Members.{has_left}
use Rattle.rd_deeds.specs.Talk.{Deed, EachAfter, Has, adds, client_read, client_reads, client_writes, completes, host_begins, host_ends, host_reads, host_writes, journal, removes, request_at, stores, submits, takes, tells}
use Rattle.rd_deeds.specs.Told.{RemovedSince, Replies}
use Rattle.rd_served_replies.proofs.HandedLemmas.{journal_parts}

-- ---- lists

split_of : (x : Item) (xs : List Item) → Has x xs → (first : List Item) × (last : List Item) × (xs ≡ first ++ x ∷ last)
split_of x [] has = absurd has
split_of x (y ∷ xs) (inl same) = ([], xs, ap (λ (z : Item). z ∷ xs) (sym same))
split_of x (y ∷ xs) (inr has) = let (first, last, is) = split_of x xs has in (y ∷ first, last, ap (λ (zs : List Item). y ∷ zs) is)

since_right : (key : Key) (items old : List Item) → IsCutSince old key → IsCutSince (items ++ old) key
since_right key [] old is = is
since_right key (x ∷ items) old is = since_add key x (items ++ old) (since_right key items old is)

since_left : (key : Key) (items old : List Item) → IsCutSince items key → IsCutSince (items ++ old) key
since_left key [] old is = absurd is
since_left key (Cut Removed ∷ items) old (inl has) = inl (has_left (Came key) items old has)
since_left key (Cut Removed ∷ items) old (inr is) = inr (since_left key items old is)
since_left key (Cut Dropped ∷ items) old is = since_left key items old is
since_left key (Came k ∷ items) old is = since_left key items old is
since_left key (Ran k m s p ∷ items) old is = since_left key items old is
since_left key (Cancelled k ∷ items) old is = since_left key items old is
since_left key (Sent k ∷ items) old is = since_left key items old is

at_has : (xs : List Item) (i : ℕ) (y : Item) → slice_get xs i ≡ Some y → Has y xs
at_has [] i y e = absurd (cc (e))
at_has (x ∷ xs) zero y e = let same : x ≡ y = cc (e) in inl (sym same)
at_has (x ∷ xs) (suc i) y e = inr (at_has xs i y e)

before_cut : (key : Key) (xs : List Item) (i j : ℕ) → i < j → slice_get xs i ≡ Some (Came key) → slice_get xs j ≡ Some (Cut Removed) → IsCutSince (reverse xs) key
before_cut key [] i j less a b = absurd (cc (a))
before_cut key (x ∷ xs) i zero less a b = absurd (omega (arith, less))
before_cut key (x ∷ xs) zero (suc j) less a b =
    let same : x ≡ Came key = cc (a) in
    subst (λ (ys : List Item). IsCutSince ys key) (sym (reverse-append (x ∷ []) xs)) (since_join key (reverse xs) (x ∷ []) (turn (Cut Removed) xs (at_has xs j (Cut Removed) b)) (inl (sym same)))
before_cut key (x ∷ xs) (suc i) (suc j) less a b =
    subst (λ (ys : List Item). IsCutSince ys key) (sym (reverse-append (x ∷ []) xs)) (since_left key (reverse xs) (x ∷ []) (before_cut key xs i j (omega (arith, less)) a b))

-- ---- by the replies

-- a reply that a cut alone gives is to a key that came before it
abbrev pub CameFirst : Replies → List Deed → Type 0
CameFirst replies deeds = (device : ℕ) (key : Key) (reply : Reply) (first last : List Item) (cause : Cause) → reverse (journal device deeds) ≡ first ++ Cut cause ∷ last → ¬ (Contains (replies device first) (key, reply))
    → Contains (replies device (first ++ Cut cause ∷ [])) (key, reply) → Has (Came key) first

module _ (replies : Replies) (deeds : List Deed) (lawful : (device : ℕ) → IsLawful (reverse (journal device deeds))) (came_first : CameFirst replies deeds) where
  all_parts : (late before : List Deed) → deeds ≡ late ++ before → (d : ℕ) → reverse (journal d deeds) ≡ reverse (journal d before) ++ reverse (journal d late)
  all_parts late before parts d = ap (λ (ds : List Deed). reverse (journal d ds)) parts ∙ ap reverse (journal_parts d late before) ∙ reverse-append (journal d late) (journal d before)

  -- a request that was cancelled was overtaken by a removal
  cancelled_since : (late before : List Deed) → deeds ≡ late ++ before → (d : ℕ) (key : Key) → Has (Cancelled key) (journal d before) → IsCutSince (journal d before) key
  cancelled_since late before parts d key has =
      let (first, last, is) = split_of (Cancelled key) (reverse (journal d before)) (turn (Cancelled key) (journal d before) has) in
      let (i, j, less, a, b) = (lawful d).cancelled_after_removal first (Cancelled key) (last ++ reverse (journal d late)) (all_parts late before parts d ∙ ap (λ (xs : List Item). xs ++ reverse (journal d late)) is ∙ append_assoc first (Cancelled key ∷ last) (reverse (journal d late))) in
      subst (λ (xs : List Item). IsCutSince xs key) (ap reverse (sym is) ∙ reverse-reverse (journal d before))
      (subst (λ (xs : List Item). IsCutSince xs key) (sym (reverse-append first (Cancelled key ∷ last))) (since_right key (reverse (Cancelled key ∷ last)) (reverse first) (before_cut key first i j less a b)))

  cut_since : (late before : List Deed) → deeds ≡ late ++ before → (d : ℕ) (key : Key) (reply : Reply) (earlier later : List Item) → reverse (journal d before) ≡ earlier ++ Sent key ∷ later
      → (first last : List Item) (cause : Cause) → earlier ≡ first ++ Cut cause ∷ last → ¬ (Contains (replies d first) (key, reply)) → Contains (replies d (first ++ Cut cause ∷ [])) (key, reply) → IsCutSince (journal d before) key
  cut_since late before parts d key reply earlier later stands first last cause is hadnt has = by cause is
    where
      whole : reverse (journal d deeds) ≡ earlier ++ Sent key ∷ (later ++ reverse (journal d late))
      whole = all_parts late before parts d ∙ ap (λ (xs : List Item). xs ++ reverse (journal d late)) stands ∙ append_assoc earlier (Sent key ∷ later) (reverse (journal d late))

      came : Has (Came key) first
      came = came_first d key reply first (last ++ Sent key ∷ (later ++ reverse (journal d late))) cause
          (whole ∙ ap (λ (xs : List Item). xs ++ Sent key ∷ (later ++ reverse (journal d late))) is ∙ append_assoc first (Cut cause ∷ last) (Sent key ∷ (later ++ reverse (journal d late)))) hadnt has

      by : (why : Cause) → earlier ≡ first ++ Cut why ∷ last → IsCutSince (journal d before) key
      by Dropped e = absurd (((lawful d).drop_forgets earlier (Sent key) (later ++ reverse (journal d late)) whole).0 (subst (λ (xs : List Item). IsBefore xs (Came key) (Cut Dropped)) (sym e) (is_before (Came key) (Cut Dropped) first last came)))
      by Removed e =
          subst (λ (xs : List Item). IsCutSince xs key) (reverse-reverse (journal d before))
          (subst (λ (xs : List Item). IsCutSince (reverse xs) key) (sym (stands ∙ ap (λ (xs : List Item). xs ++ Sent key ∷ later) e ∙ append_assoc first (Cut Removed ∷ last) (Sent key ∷ later))) (since_of key first (last ++ Sent key ∷ later) came))

  removed_since : (d : ℕ) (key : Key) (r : Request) (before : List Deed) → request_at (client_read key.channel before) key.index ≡ Some r → IsGoneSince d key before → RemovedSince d key r before
  removed_since d key r before read (late, early, m, parts, says, (q, was, named)) =
      let now : request_at (client_read key.channel before) key.index ≡ Some q =
      subst (λ (ds : List Deed). request_at (client_read key.channel ds) key.index ≡ Some q) (sym parts) (grown_more late (client_writes key.channel m ∷ early) key.channel key.index q was) in
      let both : Some q ≡ Some r = sym now ∙ read in
      let same : q ≡ r = cc (both) in
      (late, early, m, parts, says, was ∙ ap (λ (x : Request). Some x) same)

  one_since : (late before : List Deed) (key : Key) (r : Request) (reply : Reply) → deeds ≡ late ++ before → request_at (client_read key.channel before) key.index ≡ Some r
      → ((device : ℕ) → IsCutSince (journal device before) key → IsGoneSince device key before) → ComesFrom replies before key r reply → IsAnswerSince replies before key r reply
  one_since late before key r reply parts read gone (inl is) = inl (record {
    earlier = is.earlier;
    later = is.later;
    stands = is.stands;
    given = is.given;
    cut = λ first last cause e hadnt has. removed_since r.device key r before read (gone r.device (cut_since late before parts r.device key reply is.earlier is.later is.stands first last cause e hadnt has));
  })
  one_since late before key r reply parts read gone (inr (inl (cancelled, same))) = inr (inl (cancelled, same, removed_since r.device key r before read (gone r.device (cancelled_since late before parts r.device key cancelled))))
  one_since late before key r reply parts read gone (inr (inr direct)) = inr (inr direct)

  deed_since : (late before : List Deed) (y : Deed) → deeds ≡ late ++ y ∷ before → TellsGone before y → AnswersBy replies before y → AnswersSince replies before y
  deed_since late before (completes key m) parts gone is = record {
    request = is.request;
    reply = is.reply;
    read = is.read;
    completes = is.completes;
    given = one_since (late ++ completes key m ∷ []) before key is.request is.reply (parts ∙ sym (append_assoc late (completes key m ∷ []) before)) is.read gone is.given;
  }
  deed_since late before (host_begins c) parts gone is = tt
  deed_since late before (host_ends c) parts gone is = tt
  deed_since late before (removes d) parts gone is = tt
  deed_since late before (adds d) parts gone is = tt
  deed_since late before (submits a n o) parts gone is = tt
  deed_since late before (takes n) parts gone is = tt
  deed_since late before (tells n) parts gone is = tt
  deed_since late before (host_writes c m) parts gone is = tt
  deed_since late before (host_reads c m) parts gone is = tt
  deed_since late before (client_reads c m) parts gone is = tt
  deed_since late before (client_writes c m) parts gone is = tt
  deed_since late before (stores d x) parts gone is = tt

  pub all_since : (late before : List Deed) → deeds ≡ late ++ before → EachAfter TellsGone before → EachAfter (AnswersBy replies) before → EachAfter (AnswersSince replies) before
  all_since late [] parts gone each = tt
  all_since late (y ∷ before) parts gone each = (deed_since late before y parts gone.0 each.0, all_since (late ++ y ∷ []) before (parts ∙ sym (append_assoc late (y ∷ []) before)) gone.1 each.1)
