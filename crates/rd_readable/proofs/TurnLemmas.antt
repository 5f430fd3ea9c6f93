-- A completion answers the next request of its pair, by what the host wrote.
use Rattle.std.proofs.Common.{refl, ap, ◌∙◌, ℕ, Bool, true, false, cond, List, [], ◌∷◌, ◌++◌, length}
use Rattle.std.specs.Prelude.{◌&&◌, filter}
use Rattle.rd_printed.specs.Printed.{AnswersNext}
use Rattle.rd_deeds.proofs.Calls.{Does}
use Rattle.rd_deeds.proofs.Joined.{answers_newest, carried_now, counted}
use Rattle.rd_deeds.proofs.Telling.{Tells}
use Rattle.rd_deeds.specs.Joining.{IsCarried, Stands}
use Rattle.rd_deeds.specs.Talk.{AtEachPoint, Deed, EachAfter, EndsWith, client_read, completes, indices_of, is_request, message_asks_pair}

-- the indices of older messages stay
indices_end : (d i : ℕ) (xs ys : List (List ℕ)) → EndsWith (indices_of d i (xs ++ ys)) (indices_of d i ys)
indices_end d i [] ys = ([], refl)
indices_end d i (m ∷ xs) ys = by (is_request m && message_asks_pair d i m) (indices_end d i xs ys)
  where
    by : (b : Bool) → EndsWith (indices_of d i (xs ++ ys)) (indices_of d i ys)
        → EndsWith (cond b (length (filter is_request (xs ++ ys)) ∷ indices_of d i (xs ++ ys)) (indices_of d i (xs ++ ys))) (indices_of d i ys)
    by true old = (length (filter is_request (xs ++ ys)) ∷ old.0, ap (λ (ks : List ℕ). length (filter is_request (xs ++ ys)) ∷ ks) old.1)
    by false old = old

pub all_in_turn : (client : ℕ) (deeds : List Deed) → Does client deeds → AtEachPoint IsCarried deeds → EachAfter Stands deeds → EachAfter Tells deeds → EachAfter AnswersNext deeds
all_in_turn client [] may carried stands told = tt
all_in_turn client (completes key m ∷ before) may carried stands told = (
  λ d i has.
      let now = carried_now before carried.1 in
      let read = now.to_client key.channel in
      let newest = answers_newest client before key m d i may.1 now stands.1 (counted client before may.1 carried.1 stands.1 told.1) told.0 has in
      let older = indices_end d i read.0 (client_read key.channel before) in
      (older.0, ap (indices_of d i) read.1 ∙ older.1 ∙ ap (λ (ks : List ℕ). older.0 ++ ks) newest),
  all_in_turn client before may.1 carried.1 stands.1 told.1,
)
all_in_turn client (deed ∷ before) may carried stands told = (tt, all_in_turn client before may.1 carried.1 stands.1 told.1)
