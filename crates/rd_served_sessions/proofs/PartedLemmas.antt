-- Where a device is cut off as one that is gone, a line of the script removed it; and that parts the requests of its channel.
use Rattle.std.proofs.Common.{◌≡◌, ◌∙◌, ◌≤◌, ◌<◌, refl, sym, ap, subst, inl, inr, ℕ, suc, ◌+◌, ◌==◌, Bool, true, false, cond, List, [], ◌∷◌, ◌++◌, length, Option, Some, None, append_assoc, append-nil, arith, eqb-true}
use Rattle.std.specs.Prelude.{filter, if◌then◌else◌}
use Rattle.std.specs.List.{AllByRecursion, cons_option}
use Rattle.std.specs.Option.{option_and_then}
use Rattle.std.proofs.lemmas.List.Elements.{filter_map-append}
use Rattle.rd_base.specs.declared.journal.Cause.TheVariants.{Dropped, Removed}
use Rattle.rd_base.specs.declared.journal.Item.TheVariants.{Came, Cancelled, Cut, Ran, Sent}
use Rattle.rd_base.specs.declared.journal.Key.{Key}
use Rattle.rd_front.specs.Calls.{FrontEntry}
use Rattle.rd_front.specs.declared.calls.FrontCall.{FrontCall}
use Rattle.rd_front.specs.declared.calls.FrontCall.TheVariants as call
use Rattle.rd_front.specs.declared.calls.FrontReply.{FrontReply}
use Rattle.rd_front.specs.declared.calls.FrontReply.TheVariants as reply
use Rattle.rd_script.specs.declared.line.Line.{Line}
use Rattle.rd_script.specs.declared.line.Line.TheVariants as line
use Rattle.rd_script.specs.declared.line.NumberedLine.{NumberedLine}
use Rattle.rd_station.proofs.Members.{has_append, has_right}
use Rattle.rd_world.specs.Control.{removed}
use Rattle.rd_declared.specs.Declaring.{bare_lines}
use Rattle.rd_deeds.specs.Talk.{Deed, EachAfter, EndsWith, Has, client_read, is_request, read_by_client, stores}
use Rattle.rd_workers.specs.Lines.{IsCallFor, LinesStand, LinesStep, NoneIsDue, at_lines, due_now, first_due, having_acted, left_from, lines_from_on, lines_stand, waits_first, was_full}
use Rattle.rd_workers.specs.Logs.{given_by}
use Rattle.rd_served_causes.specs.ServedHistories.{may_start}
use Rattle.rd_served_sessions.proofs.PlaceLemmas.{ActsFirst, AreFrom, AreLeftOf, Lines, acts_first, behind_first, ends_has, ends_self, ends_tail, ends_then, from_first, place_at, placed_end, says_line, undue_line, waits_line}
use Rattle.rd_served_sessions.specs.Acts.{act_done}
use Rattle.rd_served_sessions.specs.Parted.{AreInPlace, ArePartedAt, IsNotBefore, IsParted, line_place}
use Rattle.rd_served_sessions.specs.Placed.{AreDoneBy, ComesLast, IsDoneBy, begun_after, all_done_by, requests_read}

-- ---- how many requests were read

pub requests_more : (c : ℕ) (more deeds : List Deed) → requests_read c deeds ≤ requests_read c (more ++ deeds)
requests_more c [] deeds = omega arith
requests_more c (y ∷ more) deeds = by (read_by_client c y) (requests_more c more deeds)
  where
    later : List (List ℕ)
    later = client_read c (more ++ deeds)

    by : (o : Option (List ℕ)) → requests_read c deeds ≤ length (filter is_request later) → requests_read c deeds ≤ length (filter is_request (cons_option o later))
    by None less = less
    by (Some m) less = one (is_request m)
      where
        one : (b : Bool) → requests_read c deeds ≤ length (cond b (m ∷ filter is_request later) (filter is_request later))
        one true = omega (arith, less)
        one false = less

-- a call reads one message at the most
requests_once : (c : ℕ) (did deeds : List Deed) (o : List (List ℕ)) → client_read c did ≡ o → length o ≤ 1 → requests_read c (did ++ deeds) ≤ requests_read c deeds + 1
requests_once c did deeds o read few =
    subst (λ (n : ℕ). n ≤ requests_read c deeds + 1) (sym (ap (λ (ms : List (List ℕ)). length (filter is_request ms)) (filter_map-append (read_by_client c) did deeds ∙ ap (λ (ms : List (List ℕ)). ms ++ client_read c deeds) read))) (by o few)
  where
    by : (ms : List (List ℕ)) → length ms ≤ 1 → length (filter is_request (ms ++ client_read c deeds)) ≤ requests_read c deeds + 1
    by [] less = omega arith
    by (m ∷ []) less = one (is_request m)
      where
        one : (b : Bool) → length (cond b (m ∷ filter is_request (client_read c deeds)) (filter is_request (client_read c deeds))) ≤ requests_read c deeds + 1
        one true = omega arith
        one false = omega arith
    by (m ∷ k ∷ ms) less = absurd (omega (arith, less))

-- where nothing is read
none_read : (c : ℕ) (did deeds : List Deed) → client_read c did ≡ [] → client_read c (did ++ deeds) ≡ client_read c deeds
none_read c did deeds none = filter_map-append (read_by_client c) did deeds ∙ ap (λ (ms : List (List ℕ)). ms ++ client_read c deeds) none

-- nothing was read by what was done before either
none_before : (c : ℕ) (later deeds : List Deed) → client_read c (later ++ deeds) ≡ [] → client_read c deeds ≡ []
none_before c [] deeds none = none
none_before c (y ∷ later) deeds none = by (none_before c later deeds) (read_by_client c y) none
  where
    by : (client_read c (later ++ deeds) ≡ [] → client_read c deeds ≡ []) → (o : Option (List ℕ)) → cons_option o (client_read c (later ++ deeds)) ≡ [] → client_read c deeds ≡ []
    by others None is = others is
    by others (Some m) is = absurd (cc (is))

-- a request that comes is the last that was read, so as many were read since
last_came : (n : ℕ) (later rest : List Deed) (device : ℕ) (key : Key) → EachAfter ComesLast (later ++ rest) → n ≤ requests_read key.channel rest → Has (stores device (Came key)) later → n ≤ suc key.index
last_came n [] rest device key each less has = absurd has
last_came n (y ∷ later) rest device key each less (inl same) =
    let is : requests_read key.channel (later ++ rest) ≡ suc key.index = subst (ComesLast (later ++ rest)) (sym same) each.0 in
    let more = requests_more key.channel later rest in
    omega (arith, is, more, less)
last_came n (y ∷ later) rest device key each less (inr others) = last_came n later rest device key each.1 less others

-- and no more were
came_most : (later rest : List Deed) (device : ℕ) (key : Key) → EachAfter ComesLast (later ++ rest) → Has (stores device (Came key)) later → suc key.index ≤ requests_read key.channel (later ++ rest)
came_most [] rest device key each has = absurd has
came_most (y ∷ later) rest device key each (inl same) =
    let is : requests_read key.channel (later ++ rest) ≡ suc key.index = subst (ComesLast (later ++ rest)) (sym same) each.0 in
    let more = requests_more key.channel (y ∷ []) (later ++ rest) in
    omega (arith, is, more)
came_most (y ∷ later) rest device key each (inr others) =
    let less = came_most later rest device key each.1 others in
    let more = requests_more key.channel (y ∷ []) (later ++ rest) in
    omega (arith, less, more)

each_behind : (P : List Deed → Deed → Type 0) (later deeds : List Deed) → EachAfter P (later ++ deeds) → EachAfter P deeds
each_behind P [] deeds each = each
each_behind P (y ∷ later) deeds each = each_behind P later deeds each.1

-- ---- where a line removes a device

-- What a line's place says as the device is cut off.
pub record IsForLine (lines : List NumberedLine) (device : ℕ) (before : List Deed) : Type 0 where
  pub channel : ℕ
  pub requests : ℕ
  pub says : Has (line.AtRemove channel requests device) (bare_lines lines)
  pub due : requests ≤ requests_read channel before
  pub latest : (c : ℕ) → channel < c → client_read c before ≡ []
  pub early : AreInPlace lines → (d : ℕ) (key : Key) → Has (stores d (Came key)) before → key.channel ≡ channel → key.index < requests

-- so it is wherever one is cut off as gone
abbrev pub IsCutFor : List NumberedLine → List Deed → Deed → Type 0
IsCutFor lines before (stores device (Cut Removed)) = IsForLine lines device before
IsCutFor lines before _ = Unit {0}

same_read : (c d : ℕ) (deeds : List Deed) → d ≡ c → requests_read c deeds ≤ requests_read d deeds
same_read c d deeds same = let is : requests_read d deeds ≡ requests_read c deeds = ap (λ (n : ℕ). requests_read n deeds) same in omega (arith, is)

-- That parts the requests of the channel.
parted_at : (lines : List NumberedLine) → AreInPlace lines → (device : ℕ) (later before : List Deed) → EachAfter (IsCutFor lines) (later ++ stores device (Cut Removed) ∷ before) → EachAfter ComesLast (later ++ stores device (Cut Removed) ∷ before) → IsParted lines device later before
parted_at lines place device later before each last =
    let is : IsForLine lines device before = (each_behind (IsCutFor lines) later (stores device (Cut Removed) ∷ before) each).0 in
    record {
      channel = is.channel;
      requests = is.requests;
      says = is.says;
      due = is.due;
      latest = is.latest;
      early = λ key has here. is.early place device key has here;
      late = λ key has here. last_came (requests_read is.channel before) later (stores device (Cut Removed) ∷ before) device key last (same_read is.channel key.channel before here) has;
    }

pub parted_all : (lines : List NumberedLine) → AreInPlace lines → (deeds : List Deed) → EachAfter (IsCutFor lines) deeds → EachAfter ComesLast deeds → ArePartedAt lines deeds
parted_all lines place deeds each last device later before are = parted_at lines place device later before (subst (EachAfter (IsCutFor lines)) are each) (subst (EachAfter ComesLast) are last)

-- ---- where the reader stands

-- what the last look told of the client's being ready, since a message was given to be heard or a job tried again
abbrev pub ready_by : Option Bool → FrontCall → FrontReply → Option Bool
ready_by was call.Look (reply.Stands ready asked) = Some ready
ready_by was call.Look back = was
ready_by was (call.Remove device) back = was
ready_by was (call.Add device) back = was
ready_by was (call.Next channel place room) back = was
ready_by was does back = None

-- No request comes by a call before which it was looked up that the client isn't ready.
abbrev pub NoneComes : Option Bool → List Deed → Type 0
NoneComes was did = was ≡ Some false → (device : ℕ) (key : Key) → Has (stores device (Came key)) did → ⊥

abbrev pub ComeReady : Option Bool → List FrontEntry → List (List Deed) → Type 0
ComeReady was [] [] = Unit {0}
ComeReady was (e ∷ entries) (did ∷ later) = NoneComes was did × ComeReady (ready_by was e.call e.reply) entries later
ComeReady was entries later = ⊥

-- a call of the channel goes by the lines
pub record GoesOn (c : ℕ) (s : LinesStand) (does : FrontCall) (back : FrontReply) (d : ℕ) (t : LinesStand) : Type 0 where
  pub at : d ≡ c
  pub step : LinesStep c s does back t

-- where a call leaves a reader, with the lines that are left
abbrev pub MovesTo : List NumberedLine → ℕ → LinesStand → FrontCall → FrontReply → ℕ → LinesStand → Type 0
MovesTo all c s (call.Next channel place room) back d t = (d ≡ c) × (t ≡ s)
MovesTo all c s (call.Begin channel) (reply.Done at full) d t = (d ≡ channel) × (c < channel) × ((left : Lines) × (t ≡ lines_stand left) × AreFrom channel all (lines_from_on channel left))
MovesTo all c s (call.Begin channel) back d t = ⊥
MovesTo all c s call.EndChannel back d t = (d ≡ c) × (t ≡ lines_stand [])
MovesTo all c s call.EndSession back d t = (d ≡ c) × (t ≡ lines_stand [])
MovesTo all c s does back d t = GoesOn c s does back d t

abbrev pub AllMove : List NumberedLine → ℕ → LinesStand → List FrontEntry → Type 0
AllMove all c s [] = Unit {0}
AllMove all c s (e ∷ entries) = (d : ℕ) × (t : LinesStand) × MovesTo all c s e.call e.reply d t × AllMove all d t entries

-- no request of the channel came whose index is at the number of the first line's place there or above
abbrev IsAbove : ℕ → List Deed → Option (ℕ × ℕ) → Type 0
IsAbove c deeds None = Unit {0}
IsAbove c deeds (Some place) = place.0 ≡ c → (device : ℕ) (key : Key) → Has (stores device (Came key)) deeds → key.channel ≡ c → key.index < place.1

abbrev AreAbove : ℕ → List Deed → List NumberedLine → Type 0
AreAbove c deeds [] = Unit {0}
AreAbove c deeds (l ∷ lines) = IsAbove c deeds (line_place l.line)

-- What is known between two calls.
record StandsSo (all : List NumberedLine) (c : ℕ) (s : LinesStand) (was : Option Bool) (deeds : List Deed) : Type 0 where
  are : AreLeftOf c all s
  above : AreInPlace all → AreAbove c deeds are.rest
  counts : (n : ℕ) → s.asked ≡ Some n → n ≡ requests_read c deeds
  unready : s.looked ≡ true → s.asked ≡ None → was ≡ Some false
  old : (device : ℕ) (key : Key) → Has (stores device (Came key)) deeds → key.channel ≤ c
  latest : (n : ℕ) → c < n → client_read n deeds ≡ []

-- lines stand nowhere once a channel ended
none_left : (c : ℕ) (all : List NumberedLine) → AreLeftOf c all (lines_stand [])
none_left c all = record { rest = []; ends = (all, sym (append-nil all)); left_are = refl; first = tt }

module _ (all : List NumberedLine) (c : ℕ) (s : LinesStand) (was : Option Bool) (deeds : List Deed) (did : List Deed) (is : StandsSo all c s was deeds) where
  -- it reads on this channel alone
  other_unread : (does : FrontCall) (back : FrontReply) → IsDoneBy c deeds does back did → (n : ℕ) → c < n → client_read n (did ++ deeds) ≡ []
  other_unread does back one n above = none_read n did deeds (one.read n ∙ by (c == n) refl) ∙ is.latest n above
    where
      by : (b : Bool) → (c == n) ≡ b → (if b then given_by does back else []) ≡ []
      by true same = absurd (let e = eqb-true c n same in omega (arith, e, above))
      by false other = refl

  old_keys : (does : FrontCall) (back : FrontReply) → IsDoneBy c deeds does back did → (device : ℕ) (key : Key) → Has (stores device (Came key)) (did ++ deeds) → key.channel ≤ c
  old_keys does back one device key has = elim (has_append (stores device (Came key)) did deeds has) [
    | inl now ↦ (let same = (one.comes device key now).1 in omega (arith, same))
    | inr before ↦ is.old device key before
  ]

  -- a call that may start nothing brings no request
  none_comes : (does : FrontCall) (back : FrontReply) → IsDoneBy c deeds does back did → may_start does back ≡ false → (device : ℕ) (key : Key) → Has (stores device (Came key)) (did ++ deeds) → Has (stores device (Came key)) deeds
  none_comes does back one quiet device key has = elim (has_append (stores device (Came key)) did deeds has) [
    | inl now ↦ absurd (let may = (one.comes device key now).0 in cc (may, quiet))
    | inr before ↦ before
  ]

  still_above : (does : FrontCall) (back : FrontReply) → IsDoneBy c deeds does back did → may_start does back ≡ false → (rest : List NumberedLine) → AreAbove c deeds rest → AreAbove c (did ++ deeds) rest
  still_above does back one quiet [] above = tt
  still_above does back one quiet (l ∷ rest) above = by (line_place l.line) above
    where
      by : (o : Option (ℕ × ℕ)) → IsAbove c deeds o → IsAbove c (did ++ deeds) o
      by None above = tt
      by (Some place) above = λ here device key has own. above here device key (none_comes does back one quiet device key has) own

  -- nothing is read
  still_counts : (does : FrontCall) (back : FrontReply) → IsDoneBy c deeds does back did → given_by does back ≡ [] → requests_read c (did ++ deeds) ≡ requests_read c deeds
  still_counts does back one none = ap (λ (ms : List (List ℕ)). length (filter is_request ms)) (none_read c did deeds (one.read c ∙ by (c == c)))
    where
      by : (b : Bool) → (if b then given_by does back else []) ≡ []
      by true = none
      by false = refl

  -- a call by which nothing is started or read and no line acts
  quiet_stands : (does : FrontCall) (back : FrontReply) (t : LinesStand) (now : Option Bool) → IsDoneBy c deeds does back did → may_start does back ≡ false → given_by does back ≡ [] → t.left ≡ s.left → ((n : ℕ) → t.asked ≡ Some n → n ≡ requests_read c deeds)
      → (t.looked ≡ true → t.asked ≡ None → now ≡ Some false) → StandsSo all c t now (did ++ deeds)
  quiet_stands does back t now one quiet none left counts unready = record {
    are = record { rest = (is.are).rest; ends = (is.are).ends; left_are = ap (lines_from_on c) left ∙ (is.are).left_are; first = (is.are).first };
    above = λ place. still_above does back one quiet (is.are).rest (is.above place);
    counts = λ n asked. counts n asked ∙ sym (still_counts does back one none);
    unready = unready;
    old = old_keys does back one;
    latest = other_unread does back one;
  }

  -- a line acts by a call
  not_before : (l m : NumberedLine) (requests : ℕ) → line_place l.line ≡ Some (c, requests) → IsNotBefore (line_place l.line) (line_place m.line) → ((device : ℕ) (key : Key) → Has (stores device (Came key)) (did ++ deeds) → key.channel ≡ c → key.index < requests) → IsAbove c (did ++ deeds) (line_place m.line)
  not_before l m requests place order below = by (line_place m.line) (subst (λ (o : Option (ℕ × ℕ)). IsNotBefore o (line_place m.line)) place order)
    where
      by : (o : Option (ℕ × ℕ)) → IsNotBefore (Some (c, requests)) o → IsAbove c (did ++ deeds) o
      by None order = tt
      by (Some next) (inl less) = λ here device key has own. absurd (omega (arith, less, here))
      by (Some next) (inr same) = λ here device key has own. let under = below device key has own in let more = same.1 in omega (arith, under, more)

  acted_above : (l : NumberedLine) (behind : List NumberedLine) (requests : ℕ) → line_place l.line ≡ Some (c, requests) → AllByRecursion (λ (m : NumberedLine). IsNotBefore (line_place l.line) (line_place m.line)) behind
      → ((device : ℕ) (key : Key) → Has (stores device (Came key)) (did ++ deeds) → key.channel ≡ c → key.index < requests) → (rest : List NumberedLine) → EndsWith behind rest → AreAbove c (did ++ deeds) rest
  acted_above l behind requests place order below [] ends = tt
  acted_above l behind requests place order below (m ∷ rest) ends =
      not_before l m requests place
      (behind_first (λ (x : NumberedLine). IsNotBefore (line_place l.line) (line_place x.line)) ends.0 m rest (subst (AllByRecursion (λ (x : NumberedLine). IsNotBefore (line_place l.line) (line_place x.line))) ends.1 order)) below

  -- what came before its line, which is the first
  first_above : (does : FrontCall) (a : ActsFirst c all s does is.are) → AreInPlace all → (device : ℕ) (key : Key) → Has (stores device (Came key)) deeds → key.channel ≡ c → key.index < a.requests
  first_above does a place = subst (IsAbove c deeds) a.place (subst (AreAbove c deeds) a.rest_is (is.above place)) refl

  acted_stands : (does : FrontCall) (back : FrontReply) (now : Option Bool) → IsDoneBy c deeds does back did → may_start does back ≡ false → given_by does back ≡ [] → IsCallFor (due_now c s) does → now ≡ was → StandsSo all c (having_acted c s) now (did ++ deeds)
  acted_stands does back now one quiet none due same = record {
    are = record { rest = f.rest; ends = ends_then all a.behind f.rest (ends_tail all a.first a.behind ends) f.ends; left_are = a.acted ∙ f.left_are; first = f.first };
    above = λ place.
        acted_above a.first a.behind a.requests a.place (placed_end ends.0 (a.first ∷ a.behind) (subst AreInPlace ends.1 place)).0
        (λ device key has own. first_above does a place device key (none_comes does back one quiet device key has) own) f.rest f.ends;
    counts = λ n asked. is.counts n asked ∙ sym (still_counts does back one none);
    unready = λ looked asked. same ∙ is.unready looked asked;
    old = old_keys does back one;
    latest = other_unread does back one;
  }
    where
      a : ActsFirst c all s does is.are
      a = acts_first c all s does is.are due

      ends : EndsWith all (a.first ∷ a.behind)
      ends = subst (EndsWith all) a.rest_is (is.are).ends

      f : AreFrom c a.behind (lines_from_on c (at_lines a.behind))
      f = from_first c a.behind a.behind (ends_self a.behind)

  -- by a call for which a line may be due
  lines_stand_on : (does : FrontCall) (back : FrontReply) (t : LinesStand) (now : Option Bool) (full : Bool) → IsDoneBy c deeds does back did → may_start does back ≡ false → given_by does back ≡ [] → IsCallFor (due_now c s) does → now ≡ was → t ≡ (if full then s else having_acted c s)
      → StandsSo all c t now (did ++ deeds)
  lines_stand_on does back t now true one quiet none due same step =
      subst (λ (x : LinesStand). StandsSo all c x now (did ++ deeds)) (sym step) (quiet_stands does back s now one quiet none refl is.counts (λ looked asked. same ∙ is.unready looked asked))
  lines_stand_on does back t now false one quiet none due same step =
      subst (λ (x : LinesStand). StandsSo all c x now (did ++ deeds)) (sym step) (acted_stands does back now one quiet none due same)

  -- a message is given to be heard, or a job tried again
  started_above : (does : FrontCall) (back : FrontReply) → IsDoneBy c deeds does back did → length (given_by does back) ≤ 1 → EachAfter ComesLast (did ++ deeds) → NoneComes was did → NoneIsDue c s → (rest : List NumberedLine) → left_from c s ≡ at_lines rest → AreAbove c deeds rest
      → AreAbove c (did ++ deeds) rest
  started_above does back one few last none due [] same above = tt
  started_above does back one few last none due (l ∷ rest) same above = by (line_place l.line) refl above
    where
      most : requests_read c (did ++ deeds) ≤ requests_read c deeds + 1
      most = requests_once c did deeds (if c == c then given_by does back else []) (one.read c) (less (c == c))
        where
          less : (b : Bool) → length (if b then given_by does back else []) ≤ 1
          less true = few
          less false = omega arith

      by : (o : Option (ℕ × ℕ)) → line_place l.line ≡ o → IsAbove c deeds o → IsAbove c (did ++ deeds) o
      by None place above = tt
      by (Some at) place above = λ here device key has own. elim (has_append (stores device (Came key)) did deeds has) [
        | inr before ↦ above here device key before own
        | inl now ↦ asked_of s.asked refl here device key now own
      ]
        where
          on_it : at.0 ≡ c → line_place l.line ≡ Some (c, at.1)
          on_it here = place ∙ ap (λ (n : ℕ). Some (n, at.1)) here

          asked_of : (o : Option ℕ) → s.asked ≡ o → at.0 ≡ c → (device : ℕ) (key : Key) → Has (stores device (Came key)) did → key.channel ≡ c → key.index < at.1
          asked_of None e here device key now own =
              let looked = due.looked (ap (waits_first c) same ∙ waits_line c at.1 l.line (at_lines rest) (on_it here)) in absurd (none (is.unready looked e) device key now)
          asked_of (Some n) e here device key now own =
              let counted = is.counts n e in
              let undue : first_due c n (left_from c s) ≡ None = ap (λ (o : Option ℕ). option_and_then (λ requests. first_due c requests (left_from c s)) o) (sym e) ∙ due.none in
              let below = undue_line c at.1 n l.line (at_lines rest) (on_it here) (ap (first_due c n) (sym same) ∙ undue) in
              let came = subst (λ (k : ℕ). suc key.index ≤ requests_read k (did ++ deeds)) own (came_most did deeds device key last now) in
              omega (arith, counted, below, came, most)

  started_stands : (does : FrontCall) (back : FrontReply) (t : LinesStand) (now : Option Bool) → IsDoneBy c deeds does back did → length (given_by does back) ≤ 1 → EachAfter ComesLast (did ++ deeds) → NoneComes was did → NoneIsDue c s → t ≡ record s { looked = false; asked = None }
      → StandsSo all c t now (did ++ deeds)
  started_stands does back t now one few last none due step = subst (λ (x : LinesStand). StandsSo all c x now (did ++ deeds)) (sym step) (record {
    are = record { rest = (is.are).rest; ends = (is.are).ends; left_are = (is.are).left_are; first = (is.are).first };
    above = λ place. started_above does back one few last none due (is.are).rest (is.are).left_are (is.above place);
    counts = λ n asked. absurd (cc (asked));
    unready = λ looked asked. absurd (cc (looked));
    old = old_keys does back one;
    latest = other_unread does back one;
  })

  -- a channel begins
  begun_stands : (does : FrontCall) (back : FrontReply) (d : ℕ) (left : Lines) (now : Option Bool) → IsDoneBy c deeds does back did → c < d → AreFrom d all (lines_from_on d left) → StandsSo all d (lines_stand left) now (did ++ deeds)
  begun_stands does back d left now one less from = record {
    are = record { rest = from.rest; ends = from.ends; left_are = from.left_are; first = from.first };
    above = λ place. none_of from.rest;
    counts = λ n asked. absurd (cc (asked));
    unready = λ looked asked. absurd (cc (looked));
    old = λ device key has. let before = old_keys does back one device key has in omega (arith, before, less);
    latest = λ n above. other_unread does back one n (omega (arith, less, above));
  }
    where
      none_of : (rest : List NumberedLine) → AreAbove d (did ++ deeds) rest
      none_of [] = tt
      none_of (l ∷ rest) = by (line_place l.line)
        where
          by : (o : Option (ℕ × ℕ)) → IsAbove d (did ++ deeds) o
          by None = tt
          by (Some at) = λ here device key has own. absurd (let before = old_keys does back one device key has in omega (arith, before, less, own))

  -- it ends
  ended_stands : (does : FrontCall) (back : FrontReply) (now : Option Bool) → IsDoneBy c deeds does back did → StandsSo all c (lines_stand []) now (did ++ deeds)
  unfolding none_left
  ended_stands does back now one = record {
    are = none_left c all;
    above = λ place. tt;
    counts = λ n asked. absurd (cc (asked));
    unready = λ looked asked. absurd (cc (looked));
    old = old_keys does back one;
    latest = other_unread does back one;
  }

  -- it is looked up how far the channel is
  looked_stands : (t : LinesStand) (ready : Bool) (n : ℕ) → IsDoneBy c deeds call.Look (reply.Stands ready n) did → t ≡ record s { looked = true; asked = if ready then Some n else None } → StandsSo all c t (Some ready) (did ++ deeds)
  looked_stands t true n one step = subst (λ (x : LinesStand). StandsSo all c x (Some true) (did ++ deeds)) (sym step)
      (quiet_stands call.Look (reply.Stands true n) (record s { looked = true; asked = Some n }) (Some true) one refl refl refl (λ m asked. let same : n ≡ m = cc (asked) in sym same ∙ one.looks) (λ looked asked. absurd (cc (asked))))
  looked_stands t false n one step = subst (λ (x : LinesStand). StandsSo all c x (Some false) (did ++ deeds)) (sym step)
      (quiet_stands call.Look (reply.Stands false n) (record s { looked = true; asked = None }) (Some false) one refl refl refl (λ m asked. absurd (cc (asked))) (λ looked asked. refl))

  same_stands : (does : FrontCall) (back : FrontReply) (t : LinesStand) → IsDoneBy c deeds does back did → may_start does back ≡ false → given_by does back ≡ [] → t ≡ s → StandsSo all c t was (did ++ deeds)
  same_stands does back t one quiet none step = subst (λ (x : LinesStand). StandsSo all c x was (did ++ deeds)) (sym step) (quiet_stands does back s was one quiet none refl is.counts is.unready)

once_given : (message : List ℕ) (back : FrontReply) → length (given_by (call.Hear message) back) ≤ 1
once_given message reply.Refused = omega arith
once_given message reply.Full = omega arith
once_given message reply.Memory = omega arith
once_given message (reply.Done at full) = omega arith
once_given message (reply.Stands ready asked) = omega arith
once_given message reply.Kept = omega arith
once_given message (reply.Wrong cause) = omega arith
once_given message (reply.Duplicate key) = omega arith
once_given message reply.Unfit = omega arith
once_given message (reply.Messages filled left) = omega arith

-- each call leaves the reader so
call_stands : (all : List NumberedLine) (c d : ℕ) (s t : LinesStand) (was : Option Bool) (does : FrontCall) (back : FrontReply) (deeds did : List Deed) → StandsSo all c s was deeds → IsDoneBy c deeds does back did → EachAfter ComesLast (did ++ deeds) → NoneComes was did → MovesTo all c s does back d t
    → StandsSo all d t (ready_by was does back) (did ++ deeds)
call_stands all c d s t was (call.Next channel place room) back deeds did is one last none (at, step) =
    subst (λ (n : ℕ). StandsSo all n t was (did ++ deeds)) (sym at) (same_stands all c s was deeds did is (call.Next channel place room) back t one refl refl step)
call_stands all c d s t was (call.Begin channel) (reply.Done place full) deeds did is one last none (at, less, (left, step, from)) =
    subst (λ (n : ℕ). StandsSo all n t None (did ++ deeds)) (sym at) (subst (λ (x : LinesStand). StandsSo all channel x None (did ++ deeds)) (sym step) (begun_stands all c s was deeds did is (call.Begin channel) (reply.Done place full) channel left None one less from))
call_stands all c d s t was (call.Begin channel) (reply.Stands ready asked) deeds did is one last none moves = absurd moves
call_stands all c d s t was (call.Begin channel) reply.Kept deeds did is one last none moves = absurd moves
call_stands all c d s t was (call.Begin channel) (reply.Wrong cause) deeds did is one last none moves = absurd moves
call_stands all c d s t was (call.Begin channel) (reply.Duplicate key) deeds did is one last none moves = absurd moves
call_stands all c d s t was (call.Begin channel) reply.Unfit deeds did is one last none moves = absurd moves
call_stands all c d s t was (call.Begin channel) reply.Memory deeds did is one last none moves = absurd moves
call_stands all c d s t was (call.Begin channel) reply.Full deeds did is one last none moves = absurd moves
call_stands all c d s t was (call.Begin channel) reply.Refused deeds did is one last none moves = absurd moves
call_stands all c d s t was (call.Begin channel) (reply.Messages filled left) deeds did is one last none moves = absurd moves
call_stands all c d s t was call.EndChannel back deeds did is one last none (at, step) =
    subst (λ (n : ℕ). StandsSo all n t None (did ++ deeds)) (sym at) (subst (λ (x : LinesStand). StandsSo all c x None (did ++ deeds)) (sym step) (ended_stands all c s was deeds did is call.EndChannel back None one))
call_stands all c d s t was call.EndSession back deeds did is one last none (at, step) =
    subst (λ (n : ℕ). StandsSo all n t None (did ++ deeds)) (sym at) (subst (λ (x : LinesStand). StandsSo all c x None (did ++ deeds)) (sym step) (ended_stands all c s was deeds did is call.EndSession back None one))
call_stands all c d s t was (call.Hear message) back deeds did is one last none moves =
    subst (λ (n : ℕ). StandsSo all n t None (did ++ deeds)) (sym moves.at) (started_stands all c s was deeds did is (call.Hear message) back t None one (once_given message back) last none (moves.step).0 (moves.step).1)
call_stands all c d s t was call.Retry back deeds did is one last none moves =
    subst (λ (n : ℕ). StandsSo all n t None (did ++ deeds)) (sym moves.at) (started_stands all c s was deeds did is call.Retry back t None one (omega arith) last none (moves.step).0 (moves.step).1)
call_stands all c d s t was (call.Remove device) back deeds did is one last none moves =
    subst (λ (n : ℕ). StandsSo all n t was (did ++ deeds)) (sym moves.at) (lines_stand_on all c s was deeds did is (call.Remove device) back t was (was_full back) one refl refl (moves.step).0 refl (moves.step).1)
call_stands all c d s t was (call.Add device) back deeds did is one last none moves =
    subst (λ (n : ℕ). StandsSo all n t was (did ++ deeds)) (sym moves.at) (lines_stand_on all c s was deeds did is (call.Add device) back t was (was_full back) one refl refl (moves.step).0 refl (moves.step).1)
call_stands all c d s t was call.Look (reply.Stands ready asked) deeds did is one last none moves =
    subst (λ (n : ℕ). StandsSo all n t (Some ready) (did ++ deeds)) (sym moves.at) (looked_stands all c s was deeds did is t ready asked one moves.step)
call_stands all c d s t was call.Look (reply.Done place full) deeds did is one last none moves = subst (λ (n : ℕ). StandsSo all n t was (did ++ deeds)) (sym moves.at) (same_stands all c s was deeds did is call.Look (reply.Done place full) t one refl refl moves.step)
call_stands all c d s t was call.Look reply.Kept deeds did is one last none moves = subst (λ (n : ℕ). StandsSo all n t was (did ++ deeds)) (sym moves.at) (same_stands all c s was deeds did is call.Look reply.Kept t one refl refl moves.step)
call_stands all c d s t was call.Look (reply.Wrong cause) deeds did is one last none moves = subst (λ (n : ℕ). StandsSo all n t was (did ++ deeds)) (sym moves.at) (same_stands all c s was deeds did is call.Look (reply.Wrong cause) t one refl refl moves.step)
call_stands all c d s t was call.Look (reply.Duplicate key) deeds did is one last none moves = subst (λ (n : ℕ). StandsSo all n t was (did ++ deeds)) (sym moves.at) (same_stands all c s was deeds did is call.Look (reply.Duplicate key) t one refl refl moves.step)
call_stands all c d s t was call.Look reply.Unfit deeds did is one last none moves = subst (λ (n : ℕ). StandsSo all n t was (did ++ deeds)) (sym moves.at) (same_stands all c s was deeds did is call.Look reply.Unfit t one refl refl moves.step)
call_stands all c d s t was call.Look reply.Memory deeds did is one last none moves = subst (λ (n : ℕ). StandsSo all n t was (did ++ deeds)) (sym moves.at) (same_stands all c s was deeds did is call.Look reply.Memory t one refl refl moves.step)
call_stands all c d s t was call.Look reply.Full deeds did is one last none moves = subst (λ (n : ℕ). StandsSo all n t was (did ++ deeds)) (sym moves.at) (same_stands all c s was deeds did is call.Look reply.Full t one refl refl moves.step)
call_stands all c d s t was call.Look reply.Refused deeds did is one last none moves = subst (λ (n : ℕ). StandsSo all n t was (did ++ deeds)) (sym moves.at) (same_stands all c s was deeds did is call.Look reply.Refused t one refl refl moves.step)
call_stands all c d s t was call.Look (reply.Messages filled left) deeds did is one last none moves = subst (λ (n : ℕ). StandsSo all n t was (did ++ deeds)) (sym moves.at) (same_stands all c s was deeds did is call.Look (reply.Messages filled left) t one refl refl moves.step)

-- and on the channel that began last
moved_channel : (all : List NumberedLine) (c d : ℕ) (s t : LinesStand) (does : FrontCall) (back : FrontReply) → MovesTo all c s does back d t → d ≡ begun_after c does back
moved_channel all c d s t (call.Begin channel) (reply.Done place full) moves = moves.0
moved_channel all c d s t (call.Begin channel) (reply.Stands ready asked) moves = absurd moves
moved_channel all c d s t (call.Begin channel) reply.Kept moves = absurd moves
moved_channel all c d s t (call.Begin channel) (reply.Wrong cause) moves = absurd moves
moved_channel all c d s t (call.Begin channel) (reply.Duplicate key) moves = absurd moves
moved_channel all c d s t (call.Begin channel) reply.Unfit moves = absurd moves
moved_channel all c d s t (call.Begin channel) reply.Memory moves = absurd moves
moved_channel all c d s t (call.Begin channel) reply.Full moves = absurd moves
moved_channel all c d s t (call.Begin channel) reply.Refused moves = absurd moves
moved_channel all c d s t (call.Begin channel) (reply.Messages filled left) moves = absurd moves
moved_channel all c d s t (call.Next channel place room) back moves = moves.0
moved_channel all c d s t call.EndChannel back moves = moves.0
moved_channel all c d s t call.EndSession back moves = moves.0
moved_channel all c d s t (call.Hear message) back moves = moves.at
moved_channel all c d s t call.Retry back moves = moves.at
moved_channel all c d s t (call.Remove device) back moves = moves.at
moved_channel all c d s t (call.Add device) back moves = moves.at
moved_channel all c d s t call.Look back moves = moves.at

-- ---- what a call cuts off

-- the call that removes a device is this one
removes_by : (does : FrontCall) (back : FrontReply) (device : ℕ) → act_done does back ≡ removed device ∷ [] → does ≡ call.Remove device
removes_by (call.Remove d) (reply.Done place full) device is = let same : d ≡ device = cc (is) in ap (λ (n : ℕ). call.Remove n) same
removes_by (call.Remove d) (reply.Stands ready asked) device is = absurd (cc (is))
removes_by (call.Remove d) reply.Kept device is = absurd (cc (is))
removes_by (call.Remove d) (reply.Wrong cause) device is = absurd (cc (is))
removes_by (call.Remove d) (reply.Duplicate key) device is = absurd (cc (is))
removes_by (call.Remove d) reply.Unfit device is = absurd (cc (is))
removes_by (call.Remove d) reply.Memory device is = absurd (cc (is))
removes_by (call.Remove d) reply.Full device is = absurd (cc (is))
removes_by (call.Remove d) reply.Refused device is = absurd (cc (is))
removes_by (call.Remove d) (reply.Messages filled left) device is = absurd (cc (is))
removes_by (call.Add d) (reply.Done place full) device is = absurd (cc (is))
removes_by (call.Add d) (reply.Stands ready asked) device is = absurd (cc (is))
removes_by (call.Add d) reply.Kept device is = absurd (cc (is))
removes_by (call.Add d) (reply.Wrong cause) device is = absurd (cc (is))
removes_by (call.Add d) (reply.Duplicate key) device is = absurd (cc (is))
removes_by (call.Add d) reply.Unfit device is = absurd (cc (is))
removes_by (call.Add d) reply.Memory device is = absurd (cc (is))
removes_by (call.Add d) reply.Full device is = absurd (cc (is))
removes_by (call.Add d) reply.Refused device is = absurd (cc (is))
removes_by (call.Add d) (reply.Messages filled left) device is = absurd (cc (is))
removes_by (call.Begin channel) back device is = absurd (cc (is))
removes_by (call.Hear message) back device is = absurd (cc (is))
removes_by call.Retry back device is = absurd (cc (is))
removes_by (call.Next channel place room) back device is = absurd (cc (is))
removes_by call.Look back device is = absurd (cc (is))
removes_by call.EndChannel back device is = absurd (cc (is))
removes_by call.EndSession back device is = absurd (cc (is))

-- its line, as it is before the call
line_for : (all : List NumberedLine) (c d : ℕ) (s t : LinesStand) (was : Option Bool) (back : FrontReply) (deeds did first later : List Deed) (y : Deed) (device : ℕ) → StandsSo all c s was deeds → IsDoneBy c deeds (call.Remove device) back did → MovesTo all c s (call.Remove device) back d t
    → did ≡ later ++ y ∷ first → IsForLine all device (first ++ deeds)
line_for all c d s t was back deeds did first later y device is one moves are = record {
  channel = c;
  requests = a.requests;
  says = subst (λ (z : Line). Has z (bare_lines all)) line_is (subst (λ (ls : List NumberedLine). Has (a.first).line (bare_lines ls)) (sym ends.1) (ends_has a.first ends.0 a.behind));
  due = (let few = a.few in let count = is.counts a.n a.asked in let more = requests_more c first deeds in omega (arith, few, count, more));
  latest = λ n above. none_before n (y ∷ []) (first ++ deeds) (none_before n later (y ∷ (first ++ deeds)) (ap (client_read n) (sym whole) ∙ other_unread all c s was deeds did is (call.Remove device) back one n above));
  early = λ place k key has own.
      first_above all c s was deeds did is (call.Remove device) a place k key
      (none_comes all c s was deeds did is (call.Remove device) back one refl k key (subst (Has (stores k (Came key))) (sym whole) (has_right (stores k (Came key)) later (y ∷ (first ++ deeds)) (inr has)))) own;
}
  where
    whole : did ++ deeds ≡ later ++ y ∷ (first ++ deeds)
    whole = ap (λ (ds : List Deed). ds ++ deeds) are ∙ append_assoc later (y ∷ first) deeds

    a : ActsFirst c all s (call.Remove device) is.are
    a = acts_first c all s (call.Remove device) is.are (moves.step).0

    ends : EndsWith all (a.first ∷ a.behind)
    ends = subst (EndsWith all) a.rest_is (is.are).ends

    line_is : (a.first).line ≡ line.AtRemove c a.requests device
    line_is =
        let (channel, requests, same) = says_line c a.n device (a.first).line (at_lines a.behind) a.from a.due in
        let both = place_at channel requests c a.requests (sym (ap line_place same) ∙ a.place) in
        same ∙ (λ i. line.AtRemove (both.0 i) (both.1 i) device)

-- deeds of a call, each with what was done before it
each_of : (P : List Deed → Deed → Type 0) (did deeds : List Deed) → ((later first : List Deed) (y : Deed) → did ≡ later ++ y ∷ first → P (first ++ deeds) y) → EachAfter P deeds → EachAfter P (did ++ deeds)
each_of P [] deeds fits each = each
each_of P (y ∷ did) deeds fits each = (fits [] did y refl, each_of P did deeds (λ later first z are. fits (y ∷ later) first z (ap (λ (ds : List Deed). y ∷ ds) are)) each)

cut_fits : (all : List NumberedLine) (before : List Deed) (y : Deed) → ((device : ℕ) → stores device (Cut Removed) ≡ y → IsForLine all device before) → IsCutFor all before y
cut_fits all before (stores device (Cut Removed)) fits = fits device refl
cut_fits all before (stores device (Cut Dropped)) fits = tt
cut_fits all before (stores device (Came key)) fits = tt
cut_fits all before (stores device (Ran key moment starved parked)) fits = tt
cut_fits all before (stores device (Cancelled key)) fits = tt
cut_fits all before (stores device (Sent key)) fits = tt
cut_fits all before y fits = tt

call_cut : (all : List NumberedLine) (c d : ℕ) (s t : LinesStand) (was : Option Bool) (does : FrontCall) (back : FrontReply) (deeds did : List Deed) → StandsSo all c s was deeds → IsDoneBy c deeds does back did → MovesTo all c s does back d t → EachAfter (IsCutFor all) deeds → EachAfter (IsCutFor all) (did ++ deeds)
call_cut all c d s t was does back deeds did is one moves each = each_of (IsCutFor all) did deeds (λ later first y are. cut_fits all (first ++ deeds) y (λ device same.
    let here : Has (stores device (Cut Removed)) did = subst (Has (stores device (Cut Removed))) (sym are) (has_right (stores device (Cut Removed)) later (y ∷ first) (inl same)) in
    let by = removes_by does back device (one.cuts device here) in
    line_for all c d s t was back deeds did first later y device is (subst (λ (x : FrontCall). IsDoneBy c deeds x back did) by one) (subst (λ (x : FrontCall). MovesTo all c s x back d t) by moves) are)) each

-- ---- all calls

behind_all : (P : List Deed → Deed → Type 0) (groups : List (List Deed)) (deeds : List Deed) → EachAfter P (all_done_by groups deeds) → EachAfter P deeds
behind_all P [] deeds each = each
behind_all P (did ∷ groups) deeds each = each_behind P did deeds (behind_all P groups (did ++ deeds) each)

calls_cut : (all : List NumberedLine) (entries : List FrontEntry) (groups : List (List Deed)) (c : ℕ) (s : LinesStand) (was : Option Bool) (deeds : List Deed) → AreDoneBy c deeds entries groups → AllMove all c s entries → ComeReady was entries groups → EachAfter ComesLast (all_done_by groups deeds)
    → StandsSo all c s was deeds → EachAfter (IsCutFor all) deeds → EachAfter (IsCutFor all) (all_done_by groups deeds)
calls_cut all [] [] c s was deeds are moves ready last is each = each
calls_cut all [] (did ∷ groups) c s was deeds are moves ready last is each = absurd are
calls_cut all (e ∷ entries) [] c s was deeds are moves ready last is each = absurd are
calls_cut all (e ∷ entries) (did ∷ groups) c s was deeds are moves ready last is each =
    let (d, t, move, others) = moves in
    let now = behind_all ComesLast groups (did ++ deeds) last in
    calls_cut all entries groups d t (ready_by was e.call e.reply) (did ++ deeds) (subst (λ (n : ℕ). AreDoneBy n (did ++ deeds) entries groups) (sym (moved_channel all c d s t e.call e.reply move)) are.1) others ready.1 last
    (call_stands all c d s t was e.call e.reply deeds did is are.0 now ready.0 move) (call_cut all c d s t was e.call e.reply deeds did is are.0 move each)

-- Each device that is cut off as gone is so by a line.
pub all_cut_for : (all : List NumberedLine) (entries : List FrontEntry) (groups : List (List Deed)) → AreDoneBy 0 [] entries groups → AllMove all 0 (lines_stand []) entries → ComeReady None entries groups → EachAfter ComesLast (all_done_by groups []) → EachAfter (IsCutFor all) (all_done_by groups [])
unfolding none_left
all_cut_for all entries groups are moves ready last = calls_cut all entries groups 0 (lines_stand []) None [] are moves ready last (record {
  are = none_left 0 all;
  above = λ place. tt;
  counts = λ n asked. absurd (cc (asked));
  unready = λ looked asked. absurd (cc (looked));
  old = λ device key has. absurd has;
  latest = λ n above. refl;
}) tt
