-- No request meets a job that is held with its completion id, by one induction with the joining law: what it says of what was done so far is what the next part takes.
use Rattle.std.proofs.Common.{◌==◌, cond, ap, subst, ℕ, ◌<◌, Bool, true, false, List, ◌∷◌, ◌++◌, reverse}
use Rattle.std.specs.Prelude.{◌&&◌, Bool, None, Some, filter, length}
use Rattle.std.specs.List.{cons_option}
use Rattle.std.specs.Option.{option_map_or}
use Rattle.rd_base.specs.declared.journal.Key.{Key}
use Rattle.rd_base.specs.Lawful.{IsLawful}
use Rattle.rd_drive.specs.Ranged.{IsReplyInRange}
use Rattle.rd_irp.specs.declared.request.Request.{Request}
use Rattle.rd_refused.proofs.JournalsCameLemmas.{fines}
use Rattle.rd_refused.proofs.JournalsCompletionLemmas.{lost_ranged, runs_good}
use Rattle.rd_refused.proofs.JournalsReplyLemmas.{replies_grow, replies_once}
use Rattle.rd_refused.proofs.JournalsRunLemmas.{behind_orderly, hears_open, orderly_lawful}
use Rattle.rd_refused.proofs.JournalsServingLemmas.{behind_standing}
use Rattle.rd_refused.proofs.JournalsWorkLemmas.{behind_working}
use Rattle.rd_refused.specs.JournalsJobs.{FitsCompletion}
use Rattle.rd_refused.specs.JournalsStations.{AreFit}
use Rattle.rd_refused.proofs.RunsInsides.{hears_inside}
use Rattle.rd_refused.proofs.RunsParts.{IsBehind, MayBe, Part, accepts, adds_one, applies_one, begins, by_parts, client_gets, client_hears_one, client_keeps_part, client_sends_one, collects_one, done, draws_one, ends, hands_out, host_gets, host_hears_one, host_keeps_part, host_sends_one, idle_one, queues_one, refuses, removes_one, takes_one, tells_one, tries_one}
use Rattle.rd_refused.proofs.RunsTogether.{knows}
use Rattle.rd_refused.specs.RunsPremises.{RunPremises}
use Rattle.rd_script.specs.declared.line.NumberedLine.{NumberedLine}
use Rattle.rd_deeds.proofs.Joining.{all_join}
use Rattle.rd_deeds.proofs.Journals.{plain_of}
use Rattle.rd_deeds.proofs.Lists.{each_end, point_end}
use Rattle.rd_deeds.specs.HostDeeds.{MayDo, side_of}
use Rattle.rd_deeds.specs.Joining.{AreJoined, IsCarried}
use Rattle.rd_declared.specs.Declaring.{bare_lines, declared_devices}
use Rattle.rd_world.specs.Recording.{client_id}
use Rattle.rd_world.specs.Session.{replies_in}
use Rattle.rd_deeds.specs.Talk.{AtEachPoint, Deed, EachAfter, EndsWith, client_read, client_reads, is_request, journal, on, request_in}
use Rattle.rd_deeds.specs.Told.{Answers, AreAnswered, Replies, requests_to, told, unserved, worn_entries}
use Rattle.rd_world.specs.World.{WorldState, handling_by}
use Rattle.rd_directs.proofs.AloneLemmas.{kept_open, none_held, none_met}
use Rattle.rd_directs.proofs.DirectLemmas.{begins_turns, part_turns, turns_end}
use Rattle.rd_directs.proofs.WornLemmas.{comes_unworn}
use Rattle.rd_directs.specs.Turns.{InTurn, MeetsNone}
use Rattle.rd_answered.proofs.GrowingLemmas.{few_end, part_grows}
use Rattle.rd_answered.proofs.InOrderLemmas.{behind_order}

-- ---- requests, when one more is read

ends_kept : (p : ℕ → Bool) (n : ℕ) (xs part : List ℕ) → EndsWith (filter p xs) part → EndsWith (filter p (n ∷ xs)) part
ends_kept p n xs part (prefix, same) = by (p n)
  where
    by : (b : Bool) → EndsWith (cond b (n ∷ filter p xs) (filter p xs)) part
    by true = (n ∷ prefix, ap (λ (ys : List ℕ). n ∷ ys) same)
    by false = (prefix, same)

ends_read : (p : ℕ → Bool) (d : ℕ) (m : List ℕ) (older : List (List ℕ)) (part : List ℕ) → EndsWith (filter p (requests_to d older)) part → EndsWith (filter p (requests_to d (m ∷ older))) part
ends_read p d m older part so = by (is_request m && option_map_or (λ (r : Request). r.device == d) (request_in m) false)
  where
    by : (b : Bool) → EndsWith (filter p (cond b (length (filter is_request older) ∷ requests_to d older) (requests_to d older))) part
    by true = ends_kept p (length (filter is_request older)) (requests_to d older) part so
    by false = so

ends_on : (p : ℕ → Bool) (d c channel : ℕ) (m : List ℕ) (older : List (List ℕ)) (part : List ℕ) → EndsWith (filter p (requests_to d older)) part → EndsWith (filter p (requests_to d (cons_option (on c channel m) older))) part
ends_on p d c channel m older part so = by (channel == c)
  where
    by : (b : Bool) → EndsWith (filter p (requests_to d (cons_option (cond b (Some m) None) older))) part
    by true = ends_read p d m older part so
    by false = so

-- a message that is read is answered by nothing yet
answered_reading : (replies : Replies) (deeds : List Deed) (channel : ℕ) (m : List ℕ) → AreAnswered replies deeds → AreAnswered replies (client_reads channel m ∷ deeds)
answered_reading replies deeds channel m is = record {
  sent_in_order = is.sent_in_order;
  direct_in_order = λ c d. ends_on _ d c channel m (client_read c deeds) (unserved c d deeds (told c d deeds)) (is.direct_in_order c d);
  answers = (tt, is.answers);
  comes = (tt, is.comes);
}

-- ---- what was done is joined, and so no request meets a job

module _ (lines : List NumberedLine) (starves : Key → Bool) (fit : AreFit (declared_devices (bare_lines lines))) (premises : RunPremises lines) (all : List Deed) where
  -- the replies that journals give by all that was done at last
  abbrev replies : Replies
  replies = replies_in (declared_devices (bare_lines lines)) all

  -- each completion is its key's answer, and no journal is worn
  abbrev AreGood : List Deed → Type 0
  AreGood deeds = EachAfter (Answers replies) deeds × ((d : ℕ) → length (journal d deeds) < worn_entries)

  good_before : (w : WorldState) (p : Part) → AreGood (done starves w p).deeds → AreGood w.deeds
  good_before w p good =
      let (more, same) = part_grows starves w p in
      let then : AreGood (more ++ w.deeds) = subst AreGood same good in
      (each_end (Answers replies) more w.deeds then.0, λ d. few_end worn_entries d more w.deeds (then.1 d))

  answered_at : (w : WorldState) → IsBehind lines starves w → InTurn w → AreGood w.deeds → AreAnswered replies w.deeds
  answered_at w behind is good = record {
    sent_in_order = behind_order lines starves fit premises w behind;
    direct_in_order = turns_end w is;
    answers = good.0;
    comes = comes_unworn replies w.deeds good.0 (λ d. plain_of (journal d w.deeds) (orderly_lawful w (behind_orderly lines starves w fit behind).0 d)) good.1;
  }

  joined_at : (w : WorldState) → IsBehind lines starves w → InTurn w → AreGood w.deeds → AreJoined client_id replies w.deeds
  joined_at w behind is good =
      let devices = declared_devices (bare_lines lines) in
      let lawful : (d : ℕ) → IsLawful (reverse (journal d w.deeds)) = orderly_lawful w (behind_orderly lines starves w fit behind).0 in
      let k = knows lines starves premises w behind in
      record {
        carried = k.carries.each;
        host = k.stands.host.may;
        told = answered_at w behind is good;
        grows = λ device earlier more later same reply has. replies_grow devices all device earlier more reply has;
        once = λ device key reply other has has_other. replies_once devices all device (reverse (journal device w.deeds)) fit (lawful device) key other reply has_other has;
        stands = (behind_standing lines starves w fit behind).stand;
        lawful = lawful;
        unworn = good.1;
      }

  -- the same with the message that is read next
  joined_reading : (w : WorldState) (m rest : List ℕ) → IsBehind lines starves w → IsBehind lines starves (done starves w (client_hears_one m rest)) → InTurn w → AreGood w.deeds
      → AreJoined client_id replies (client_reads w.channels m ∷ w.deeds)
  joined_reading w m rest behind after is good =
      let read : List Deed = client_reads w.channels m ∷ w.deeds in
      let now = joined_at w behind is good in
      let i = hears_inside (record w { to_client = (handling_by w.to_client (Some (m, rest))).0 }) m in
      let k = knows lines starves premises (done starves w (client_hears_one m rest)) after in
      record {
        carried = point_end IsCarried i.more read (subst (AtEachPoint IsCarried) i.deeds k.carries.each);
        host = each_end (λ (before : List Deed) (y : Deed). MayDo (side_of client_id before) y) i.more read (subst (EachAfter (λ (before : List Deed) (y : Deed). MayDo (side_of client_id before) y)) i.deeds k.stands.host.may);
        told = answered_reading replies w.deeds w.channels m now.told;
        grows = now.grows;
        once = now.once;
        stands = (tt, now.stands);
        lawful = now.lawful;
        unworn = now.unworn;
      }

  meets_none : (w : WorldState) (p : Part) → MayBe lines starves w p → IsBehind lines starves w → IsBehind lines starves (done starves w p) → InTurn w → AreGood w.deeds → MeetsNone w p
  meets_none w (client_hears_one m rest) (kept, some) behind after is good = λ r spelled.
      let (ordered, handled) = behind_orderly lines starves w fit behind in
      let (c, opened) = hears_open w ordered handled m rest some in
      none_held FitsCompletion IsReplyInRange (declared_devices (bare_lines lines)) w c ordered opened
      (behind_working FitsCompletion IsReplyInRange lost_ranged runs_good lines starves w fit behind (fines lines starves premises w behind)) m
      (all_join client_id replies (client_reads w.channels m ∷ w.deeds) (joined_reading w m rest behind after is good)).alone.0 r spelled
  meets_none w (tries_one k) some behind after is good =
      let ordered = (behind_orderly lines starves w fit behind).0 in
      let (c, opened) = kept_open w k ordered some in
      none_met FitsCompletion IsReplyInRange (declared_devices (bare_lines lines)) w c ordered opened
      (behind_working FitsCompletion IsReplyInRange lost_ranged runs_good lines starves w fit behind (fines lines starves premises w behind)) k some
      (all_join client_id replies w.deeds (joined_at w behind is good)).alone
  meets_none w (accepts a asked named t number) may behind after is good = tt
  meets_none w (refuses a asked cause) may behind after is good = tt
  meets_none w (hands_out a number t had next) may behind after is good = tt
  meets_none w (host_sends_one m) may behind after is good = tt
  meets_none w (host_gets n) may behind after is good = tt
  meets_none w host_keeps_part may behind after is good = tt
  meets_none w (host_hears_one m rest) may behind after is good = tt
  meets_none w (tells_one n) may behind after is good = tt
  meets_none w begins may behind after is good = tt
  meets_none w ends may behind after is good = tt
  meets_none w (client_sends_one x o) may behind after is good = tt
  meets_none w (client_gets n) may behind after is good = tt
  meets_none w client_keeps_part may behind after is good = tt
  meets_none w (collects_one d s next x) may behind after is good = tt
  meets_none w (takes_one d hand s next job) may behind after is good = tt
  meets_none w (applies_one hand d job o) may behind after is good = tt
  meets_none w (removes_one d o) may behind after is good = tt
  meets_none w (adds_one d names o) may behind after is good = tt
  meets_none w (queues_one a) may behind after is good = tt
  meets_none w (idle_one number) may behind after is good = tt
  meets_none w draws_one may behind after is good = tt

  behind_turns : (w : WorldState) → IsBehind lines starves w → AreGood w.deeds → InTurn w
  behind_turns w behind =
      by_parts lines starves (λ x. (AreGood x.deeds → InTurn x)) (λ good. begins_turns lines)
      (λ x p before after may is good.
      let both = behind_orderly lines starves x fit before in
      let was = good_before x p good in
      part_turns lines starves fit premises x p may before after both.0 both.1 (meets_none x p may before after (is was) was) (is was)) w behind

  -- Where each completion is its key's answer, and no journal is worn, both sides are joined.
  pub joined_behind : (w : WorldState) → IsBehind lines starves w → EachAfter (Answers replies) w.deeds → ((d : ℕ) → length (journal d w.deeds) < worn_entries) → AreJoined client_id replies w.deeds
  joined_behind w behind answers few = joined_at w behind (behind_turns w behind (answers, few)) (answers, few)
