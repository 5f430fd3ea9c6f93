-- One direction of a channel: the messages that are under way, the oldest first, and their bytes.
use Rattle.std.proofs.Common.{◌≡◌, ◌∙◌, refl, sym, ap, ℕ, List, [], ◌∷◌, ◌++◌, reverse, take, drop, Some, None, append_assoc, append-nil}
use Rattle.std.specs.List.{AllByRecursion}
use Rattle.std.proofs.lemmas.Grind.{flat_map-append}
use Rattle.std.proofs.lemmas.List.{reverse-append, take-append-drop}
use Rattle.rd_chunk.specs.Carrier.{IsMessage, carrier_of, carrier_stream}
use Rattle.rd_chunk.proofs.CarrierLemmas.{carrier_one}
use Rattle.rd_drive.proofs.AllLemmas.{all_append}
use Rattle.rd_world.proofs.WayStreamLemmas.{first_of_one, found_is_one}
use Rattle.rd_world.specs.World.{WayState, carrying, first_message, handling_by, having_read, new_way}

-- Of the messages that were written, the newest first, some were read, and the others are what stands on the way.
pub record IsUnderWay (wrote read : List (List ℕ)) (y : WayState) : Type 0 where
  pub waiting : List (List ℕ)
  pub fit : AllByRecursion IsMessage waiting
  pub told : wrote ≡ reverse waiting ++ read
  pub bytes : y.part ++ y.unhandled ++ y.pipe ≡ carrier_stream waiting

pub none_under_way : IsUnderWay [] [] new_way
none_under_way = record { waiting = []; fit = tt; told = refl; bytes = refl }

module _ (wrote read : List (List ℕ)) (y : WayState) (u : IsUnderWay wrote read y) where
  pub one_written : (m : List ℕ) → IsMessage m → IsUnderWay (m ∷ wrote) read (carrying y m)
  one_written m fits = record {
    waiting = u.waiting ++ m ∷ [];
    fit = all_append IsMessage u.waiting (m ∷ []) u.fit (fits, tt);
    told = ap (λ (ms : List (List ℕ)). m ∷ ms) u.told ∙ ap (λ (ms : List (List ℕ)). ms ++ read) (sym (reverse-append u.waiting (m ∷ [])));
    bytes = sym (append_assoc (y.part ++ y.unhandled) y.pipe (carrier_of m)) ∙ ap (λ (bs : List ℕ). bs ++ carrier_of m) u.bytes
        ∙ ap (λ (bs : List ℕ). carrier_stream u.waiting ++ bs) (sym (append-nil (carrier_of m))) ∙ sym (flat_map-append carrier_of u.waiting (m ∷ []));
  }

  pub some_got : (n : ℕ) → IsUnderWay wrote read (having_read n y)
  some_got n = record {
    waiting = u.waiting;
    fit = u.fit;
    told = u.told;
    bytes = ap (λ (bs : List ℕ). bs ++ drop n y.pipe) (sym (append_assoc y.part y.unhandled (take n y.pipe)))
        ∙ append_assoc (y.part ++ y.unhandled) (take n y.pipe) (drop n y.pipe)
        ∙ ap (λ (bs : List ℕ). y.part ++ y.unhandled ++ bs) (take-append-drop n y.pipe) ∙ u.bytes;
  }

  pub part_kept : IsUnderWay wrote read (handling_by y None).0
  part_kept =
      record { waiting = u.waiting; fit = u.fit; told = u.told; bytes = ap (λ (bs : List ℕ). bs ++ y.pipe) (append-nil (y.part ++ y.unhandled)) ∙ u.bytes }

  -- the message that is found first is the oldest
  pub one_read : (m rest : List ℕ) → first_message (y.part ++ y.unhandled) ≡ Some (m, rest) → IsUnderWay wrote (m ∷ read) (handling_by y (Some (m, rest))).0
  one_read m rest found =
      let given = found_is_one u.waiting (y.part ++ y.unhandled) y.pipe m rest u.fit u.bytes found in
      let all : carrier_of m ++ (rest ++ y.pipe) ≡ carrier_stream u.waiting =
      sym (append_assoc (carrier_of m) rest y.pipe) ∙ ap (λ (bs : List ℕ). bs ++ y.pipe) given.1 ∙ u.bytes in
      let first : first_message (carrier_stream u.waiting) ≡ Some (m, rest ++ y.pipe) = ap first_message (sym all) ∙ first_of_one m (carrier_of m) (rest ++ y.pipe) given.0 in
      by u.waiting u.fit u.told first
    where
      by : (waiting : List (List ℕ)) → AllByRecursion IsMessage waiting → wrote ≡ reverse waiting ++ read → first_message (carrier_stream waiting) ≡ Some (m, rest ++ y.pipe)
          → IsUnderWay wrote (m ∷ read) (handling_by y (Some (m, rest))).0
      by [] fit told first = absurd (cc first)
      by (x ∷ later) fit told first =
          let own : first_message (carrier_of x ++ carrier_stream later) ≡ Some (x, carrier_stream later) =
          first_of_one x (carrier_of x) (carrier_stream later) (carrier_one x fit.0.0 fit.0.1) in
          let same : (x, carrier_stream later) ≡ (m, rest ++ y.pipe) = (let both : Some (x, carrier_stream later) ≡ Some (m, rest ++ y.pipe) = sym own ∙ first in cc) in
          let is : x ≡ m = ap (λ (r : List ℕ × List ℕ). r.0) same in
          record {
            waiting = later;
            fit = fit.1;
            told = told ∙ ap (λ (ms : List (List ℕ)). ms ++ read) (reverse-append (x ∷ []) later) ∙ append_assoc (reverse later) (x ∷ []) read
                ∙ ap (λ (z : List ℕ). reverse later ++ z ∷ read) is;
            bytes = sym (ap (λ (r : List ℕ × List ℕ). r.1) same);
          }
