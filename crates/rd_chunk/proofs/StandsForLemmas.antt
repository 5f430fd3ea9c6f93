-- What a joiner stands for (`StandsFor`) after one step.
use Rattle.std.proofs.Common.{◌≡◌, ◌≢◌, ◌≤◌, ◌<◌, ℕ, ◌+◌, ◌-◌, ◌%◌, ◌^◌, arith, sym, ◌∙◌, ap, subst, length, ◌++◌, ◌∷◌, [], inl, inr, None, length-append, length-drop, append_assoc, refl, List}
use Rattle.std.specs.Prelude.{◌==◌, not, bit_and}
use Rattle.std.specs.List.{concat, flat_map}
use Rattle.std.proofs.lemmas.List.{append-nil, take_all, drop_all, take-append-le, drop-append-le}
use Rattle.std.proofs.lemmas.List.Concat.{flat_map-append}
use Rattle.std.proofs.lemmas.Bool.{cases_lt, cases_eq}
use Rattle.rd_chunk.specs.declared.head.RowFault.{RowFault}
use Rattle.rd_chunk.specs.Frames.{size_of, length_of, flags_of, data_of, IsFrame, AreFrames}
use Rattle.rd_chunk.specs.Faults.{size_fault, fields_fault, head_fault, ShowsFault, IsPart, FaultInMessage}
use Rattle.rd_chunk.specs.Standing.{Held, StandsFor}
use Rattle.rd_base.proofs.ListLemmas.{concat-push}
use Rattle.rd_chunk.proofs.HeadLemmas.{size_of-append, length_of-append, flags_of-append, good_size, IsGood, good_from_none, none_from_good}

-- one frame more
pub data-push : (xs : List (List ℕ)) (x : List ℕ) → flat_map data_of (xs ++ x ∷ []) ≡ flat_map data_of xs ++ data_of x
data-push xs x = flat_map-append data_of xs (x ∷ []) ∙ ap (λ (r : List ℕ). flat_map data_of xs ++ r) (append-nil (data_of x))

pub AreFrames-push : (n before : ℕ) (xs : List (List ℕ)) (x : List ℕ) → AreFrames n before xs → IsFrame n (before + length (flat_map data_of xs)) x → AreFrames n before (xs ++ x ∷ [])
AreFrames-push n before [] x h f = (subst (λ (k : ℕ). IsFrame n k x) (omega arith) f, tt)
AreFrames-push n before (y ∷ ys) x h f =
    let same : before + length (flat_map data_of (y ∷ ys)) ≡ before + length (data_of y) + length (flat_map data_of ys) = omega (arith, length-append (data_of y) (flat_map data_of ys)) in
    (h.0, AreFrames-push n (before + length (data_of y)) ys x h.1 (subst (λ (k : ℕ). IsFrame n k x) same f))

-- frames have data
pub frames-nil : (n before : ℕ) (xs : List (List ℕ)) → AreFrames n before xs → length (flat_map data_of xs) ≡ 0 → xs ≡ []
frames-nil n before [] h e = refl
frames-nil n before (x ∷ xs) h e = absurd (omega (arith, h.0.some, length-append (data_of x) (flat_map data_of xs)))

-- frames keep to the message
pub frames-within : (n before : ℕ) (xs : List (List ℕ)) → AreFrames n before xs → xs ≢ [] → before + length (flat_map data_of xs) ≤ n
frames-within n before [] h ne = absurd (ne refl)
frames-within n before (x ∷ []) h ne = omega (arith, h.0.within, length-append (data_of x) [])
frames-within n before (x ∷ y ∷ ys) h ne =
    let rest = frames-within n (before + length (data_of x)) (y ∷ ys) h.1 (λ e. cc) in
    omega (arith, rest, length-append (data_of x) (flat_map data_of (y ∷ ys)))

-- what no data stand before is in no message yet
pub AreFrames-any : (n m : ℕ) (xs : List (List ℕ)) → AreFrames n 0 xs → (length (flat_map data_of xs) ≢ 0 → n ≡ m) → AreFrames m 0 xs
AreFrames-any n m [] h same = tt
AreFrames-any n m (x ∷ xs) h same =
    subst (λ (k : ℕ). AreFrames k 0 (x ∷ xs)) (same (λ e. absurd (omega (arith, h.0.some, length-append (data_of x) (flat_map data_of xs), e)))) h

-- counting modulo 2^64
pub count_on : (a k : ℕ) → (a % 2 ^ 64 + k) % 2 ^ 64 ≡ (a + k) % 2 ^ 64
count_on a k = omega arith

-- a head that is good where its message's length was is good at its own
pub head_own : (n before : ℕ) (head : List ℕ) → head_fault n before head ≡ None → head_fault (length_of head) before head ≡ None
head_own n before head h =
    let good = good_from_none n before (size_of head) (length_of head) (flags_of head) h in
    none_from_good (length_of head) before (size_of head) (length_of head) (flags_of head) (record { plain = good.plain; first = good.first; most = good.most; same = λ _. refl; within = good.within; last = good.last })

-- no data to come means that the part is a head, or less
pub short_part : (h : Held) (before : ℕ) (bytes : List ℕ) (s : StandsFor h before bytes) → h.left ≡ 0 → length s.part < 12
short_part h before bytes s left =
    elim (cases_lt (length s.part) 12) [
      | inl less ↦ less
      | inr more ↦ absurd (omega (arith, s.still more, s.is_part.short (omega arith)))
    ]

-- then the data are those of the whole frames
pub joined_whole : (h : Held) (before : ℕ) (bytes : List ℕ) (s : StandsFor h before bytes) → h.left ≡ 0 → h.joined ≡ flat_map data_of s.frames
joined_whole h before bytes s left =
    let short : length s.part < 12 = short_part h before bytes s left in
    s.joined_are ∙ ap (λ (r : List ℕ). flat_map data_of s.frames ++ r) (drop_all 12 s.part (omega arith)) ∙ append-nil (flat_map data_of s.frames)

module _ (h h' : Held) (before : ℕ) (bytes d : List ℕ) (s : StandsFor h before bytes) (left : h.left ≡ 0)
    (unfinished : 0 < length h.joined → length h.joined ≢ h.whole)
    (joined' : h'.joined ≡ h.joined) (head' : h'.head ≡ h.head ++ d) (within : length h'.head ≤ 12)
    (early : length h'.head < 12 → (h'.whole ≡ h.whole) × (h'.left ≡ 0))
    (full : length h'.head ≡ 12 → (h'.whole ≡ length_of h'.head) × (h'.left ≡ size_of h'.head - 8))
    (at_size : 4 ≤ length h'.head → size_fault (size_of h'.head) ≡ None)
    (at_head : length h'.head ≡ 12 → head_fault h.whole (length h.joined) h'.head ≡ None)
    (taken' : h'.taken ≡ (h.taken + length d) % 2 ^ 64) (fault' : h'.fault ≡ None) where
  short : length s.part < 12
  short = short_part h before bytes s left

  part_is : s.part ≡ h.head
  part_is = sym (s.head_is ∙ take_all 12 s.part (omega (arith, short)))

  long : length h'.head ≡ length s.part + length d
  long = ap length head' ∙ length-append h.head d ∙ omega (arith, ap length part_is)

  data_is : length h.joined ≡ length (flat_map data_of s.frames)
  data_is = ap length (joined_whole h before bytes s left)

  good : length h'.head ≡ 12 → IsGood h.whole (length (flat_map data_of s.frames)) (size_of h'.head) (length_of h'.head) (flags_of h'.head)
  good e = good_from_none h.whole (length (flat_map data_of s.frames)) (size_of h'.head) (length_of h'.head) (flags_of h'.head) (subst (λ (k : ℕ). head_fault h.whole k h'.head ≡ None) data_is (at_head e))

  is_full : 12 ≤ length h'.head → length h'.head ≡ 12
  is_full more = omega arith

  are' : AreFrames h'.whole 0 s.frames
  are' = elim (cases_lt (length h'.head) 12) [
    | inl less ↦ subst (λ (k : ℕ). AreFrames k 0 s.frames) (sym (early less).0) s.are
    | inr more ↦ AreFrames-any h.whole h'.whole s.frames s.are (λ ne. sym ((full (is_full more)).0 ∙ (good (is_full more)).same ne))
  ]

  part' : IsPart h'.whole (length (flat_map data_of s.frames)) h'.head
  part' = record {
    size = at_size;
    head = λ more. subst (λ (k : ℕ). head_fault k (length (flat_map data_of s.frames)) h'.head ≡ None) (sym (full (is_full more)).0)
        (head_own h.whole (length (flat_map data_of s.frames)) h'.head (subst (λ (k : ℕ). head_fault h.whole k h'.head ≡ None) data_is (at_head (is_full more))));
    short = λ more. omega (arith, good_size (size_of h'.head) (at_size more));
  }

  complete' : 0 < length (flat_map data_of s.frames) → length (flat_map data_of s.frames) ≡ h'.whole → h'.head ≡ []
  complete' some e = elim (cases_lt (length h'.head) 12) [
    | inl less ↦ absurd (unfinished (omega (arith, data_is)) (omega (arith, data_is, (early less).0)))
    | inr more ↦ absurd (omega (arith, (full (is_full more)).0, (good (is_full more)).within, good_size (size_of h'.head) (at_size (omega arith))))
  ]

  pub head_stands : StandsFor h' before (bytes ++ d)
  head_stands = record {
    frames = s.frames;
    part = h'.head;
    are = are';
    bytes_are = ap (λ (r : List ℕ). r ++ d) s.bytes_are ∙ append_assoc (concat s.frames) s.part d ∙ ap (λ (r : List ℕ). concat s.frames ++ r) (ap (λ (r : List ℕ). r ++ d) part_is ∙ sym head');
    is_part = part';
    joined_are = joined' ∙ joined_whole h before bytes s left ∙ sym (ap (λ (r : List ℕ). flat_map data_of s.frames ++ r) (drop_all 12 h'.head within) ∙ append-nil (flat_map data_of s.frames));
    head_is = sym (take_all 12 h'.head within);
    still = λ more. omega (arith, is_full more, (full (is_full more)).1, good_size (size_of h'.head) (at_size (omega arith)));
    in_head = λ less. (early less).1;
    same = λ more. sym (full (is_full more)).0;
    most = elim (cases_lt (length h'.head) 12) [
      | inl less ↦ omega (arith, (early less).0, s.most)
      | inr more ↦ omega (arith, (full (is_full more)).0, (good (is_full more)).most)
    ];
    complete = complete';
    taken_are = taken' ∙ ap (λ (k : ℕ). (k + length d) % 2 ^ 64) s.taken_are ∙ count_on (before + length bytes) (length d) ∙ ap (λ (k : ℕ). k % 2 ^ 64) (omega (arith, length-append bytes d));
    no_fault = fault';
  }

pub fresh_head : (n m size len flags : ℕ) → fields_fault m 0 size len flags ≡ fields_fault n 0 size len flags
unfolding fields_fault
fresh_head n m size len flags = refl

-- nothing is a part of a frame
pub no_part : (n before : ℕ) → IsPart n before []
no_part n before = record { size = λ h. absurd (omega arith); head = λ h. absurd (omega arith); short = λ h. absurd (omega arith) }

module _ (h h' : Held) (before : ℕ) (bytes d : List ℕ) (s : StandsFor h before bytes) (some : 0 < h.left)
    (fits : length d ≤ h.left) (joined' : h'.joined ≡ h.joined ++ d) (whole' : h'.whole ≡ h.whole)
    (left' : h'.left ≡ h.left - length d) (more' : h'.left ≢ 0 → h'.head ≡ h.head) (done' : h'.left ≡ 0 → h'.head ≡ [])
    (taken' : h'.taken ≡ (h.taken + length d) % 2 ^ 64) (fault' : h'.fault ≡ None) where
  long_part : 12 ≤ length s.part
  long_part = elim (cases_lt (length s.part) 12) [ inl less ↦ absurd (omega (arith, s.in_head less)) | inr more ↦ more ]

  longer : length (s.part ++ d) ≡ length s.part + length d
  longer = length-append s.part d

  size_same : size_of (s.part ++ d) ≡ size_of s.part
  size_same = size_of-append s.part d (omega (arith, long_part))

  length_same : length_of (s.part ++ d) ≡ length_of s.part
  length_same = length_of-append s.part d (omega (arith, long_part))

  flags_same : flags_of (s.part ++ d) ≡ flags_of s.part
  flags_same = flags_of-append s.part d (omega (arith, long_part))

  data_same : data_of (s.part ++ d) ≡ data_of s.part ++ d
  data_same = drop-append-le 12 s.part d (omega (arith, long_part))

  sized : (9 ≤ size_of s.part) × (size_of s.part ≤ 16392)
  sized = good_size (size_of s.part) (s.is_part.size (omega (arith, long_part)))

  good_part : IsGood h.whole (length (flat_map data_of s.frames)) (size_of s.part) (length_of s.part) (flags_of s.part)
  good_part = good_from_none h.whole (length (flat_map data_of s.frames)) (size_of s.part) (length_of s.part) (flags_of s.part) (s.is_part.head (omega (arith, long_part)))

  is_head : head_fault h.whole (length (flat_map data_of s.frames)) (s.part ++ d) ≡ None
  is_head = none_from_good h.whole (length (flat_map data_of s.frames)) (size_of (s.part ++ d)) (length_of (s.part ++ d)) (flags_of (s.part ++ d))
      (subst (λ (k : ℕ). IsGood h.whole (length (flat_map data_of s.frames)) k (length_of (s.part ++ d)) (flags_of (s.part ++ d))) (sym size_same)
      (subst (λ (k : ℕ). IsGood h.whole (length (flat_map data_of s.frames)) (size_of s.part) k (flags_of (s.part ++ d))) (sym length_same)
      (subst (λ (k : ℕ). IsGood h.whole (length (flat_map data_of s.frames)) (size_of s.part) (length_of s.part) k) (sym flags_same) good_part)))

  bytes_on : bytes ++ d ≡ concat s.frames ++ (s.part ++ d)
  bytes_on = ap (λ (r : List ℕ). r ++ d) s.bytes_are ∙ append_assoc (concat s.frames) s.part d

  joined_on : h'.joined ≡ flat_map data_of s.frames ++ data_of (s.part ++ d)
  joined_on = joined' ∙ ap (λ (r : List ℕ). r ++ d) s.joined_are ∙ append_assoc (flat_map data_of s.frames) (data_of s.part) d ∙ ap (λ (r : List ℕ). flat_map data_of s.frames ++ r) (sym data_same)

  taken_on : h'.taken ≡ (before + length (bytes ++ d)) % 2 ^ 64
  taken_on = taken' ∙ ap (λ (k : ℕ). (k + length d) % 2 ^ 64) s.taken_are ∙ count_on (before + length bytes) (length d) ∙ ap (λ (k : ℕ). k % 2 ^ 64) (omega (arith, length-append bytes d))

  lacks_data : h'.left ≢ 0 → StandsFor h' before (bytes ++ d)
  lacks_data ne = record {
    frames = s.frames;
    part = s.part ++ d;
    are = subst (λ (k : ℕ). AreFrames k 0 s.frames) (sym whole') s.are;
    bytes_are = bytes_on;
    is_part = subst (λ (k : ℕ). IsPart k (length (flat_map data_of s.frames)) (s.part ++ d)) (sym whole') (record {
      size = λ m. ap size_fault size_same ∙ s.is_part.size (omega (arith, long_part));
      head = λ m. is_head;
      short = λ m. omega (arith, longer, size_same, s.still long_part);
    });
    joined_are = joined_on;
    head_is = more' ne ∙ s.head_is ∙ sym (take-append-le 12 s.part d (omega (arith, long_part)));
    still = λ m. omega (arith, longer, size_same, s.still long_part);
    in_head = λ m. absurd (omega (arith, longer, long_part));
    same = λ m. length_same ∙ s.same long_part ∙ sym whole';
    most = omega (arith, s.most);
    complete = λ z e. absurd (omega (arith, long_part, ap length (s.complete z (omega (arith, e)))));
    taken_are = taken_on;
    no_fault = fault';
  }

  frame_is : h'.left ≡ 0 → IsFrame h.whole (length (flat_map data_of s.frames)) (s.part ++ d)
  frame_is z =
      let data_len : length (data_of (s.part ++ d)) ≡ size_of s.part - 8 = omega (arith, length-drop 12 (s.part ++ d), longer, s.still long_part) in
      record {
        size = omega (arith, data_len, size_same, sized);
        some = omega (arith, data_len, sized);
        most = omega (arith, data_len, sized);
        plain = ap (λ (k : ℕ). not (bit_and k 0x200000 == 0)) flags_same ∙ good_part.plain;
        whole = length_same ∙ s.same long_part;
        within = omega (arith, data_len, good_part.within, s.same long_part);
        first = ap (λ (k : ℕ). not (bit_and k 0x1 == 0)) flags_same ∙ good_part.first;
        last = ap (λ (k : ℕ). not (bit_and k 0x2 == 0)) flags_same ∙ good_part.last
            ∙ ap (λ (k : ℕ). length (flat_map data_of s.frames) + k == length_of s.part) (sym data_len)
            ∙ ap (λ (k : ℕ). length (flat_map data_of s.frames) + length (data_of (s.part ++ d)) == k) (s.same long_part);
      }

  fills : h'.left ≡ 0 → StandsFor h' before (bytes ++ d)
  fills z = record {
    frames = s.frames ++ (s.part ++ d) ∷ [];
    part = [];
    are = subst (λ (k : ℕ). AreFrames k 0 (s.frames ++ (s.part ++ d) ∷ [])) (sym whole') (AreFrames-push h.whole 0 s.frames (s.part ++ d) s.are (subst (λ (k : ℕ). IsFrame h.whole k (s.part ++ d)) (omega arith) (frame_is z)));
    bytes_are = bytes_on ∙ sym (concat-push s.frames (s.part ++ d)) ∙ sym (append-nil (concat (s.frames ++ (s.part ++ d) ∷ [])));
    is_part = no_part h'.whole (length (flat_map data_of (s.frames ++ (s.part ++ d) ∷ [])));
    joined_are = joined_on ∙ sym (data-push s.frames (s.part ++ d)) ∙ sym (append-nil (flat_map data_of (s.frames ++ (s.part ++ d) ∷ [])));
    head_is = done' z;
    still = λ m. absurd (omega arith);
    in_head = λ m. z;
    same = λ m. absurd (omega arith);
    most = omega (arith, s.most);
    complete = λ y e. refl;
    taken_are = taken_on;
    no_fault = fault';
  }

  pub data_stands : StandsFor h' before (bytes ++ d)
  data_stands = elim (cases_eq h'.left 0) [ inl z ↦ fills z | inr ne ↦ lacks_data ne ]

-- where no message is under way its length says nothing
pub fresh_fault : (n m : ℕ) (head : List ℕ) (fault : RowFault) → ShowsFault n 0 head fault → ShowsFault m 0 head fault
fresh_fault n m head fault has = record {
  holds = elim has.holds [
    | inl four ↦ inl four
    | inr twelve ↦ inr (twelve.0, twelve.1, fresh_head n m (size_of head) (length_of head) (flags_of head) ∙ twelve.2)
  ];
}

-- a fault of the bytes that come next is one of the stream so far
pub head_faults : (h : Held) (before : ℕ) (bytes d : List ℕ) (fault : RowFault) (s : StandsFor h before bytes) → h.left ≡ 0
    → (0 < length h.joined → length h.joined ≢ h.whole) → ShowsFault h.whole (length h.joined) (h.head ++ d) fault
    → FaultInMessage (bytes ++ d) (length (concat s.frames) + fault.offset) fault.why
head_faults h before bytes d fault s left unfinished has =
    let short : length s.part < 12 = short_part h before bytes s left in
    let part_is : s.part ≡ h.head = sym (s.head_is ∙ take_all 12 s.part (omega arith)) in
    let joined_is : h.joined ≡ flat_map data_of s.frames = joined_whole h before bytes s left in
    let bytes_on : bytes ++ d ≡ [] ++ concat s.frames ++ (h.head ++ d) =
    ap (λ (r : List ℕ). r ++ d) s.bytes_are ∙ append_assoc (concat s.frames) s.part d ∙ ap (λ (r : List ℕ). concat s.frames ++ (r ++ d)) part_is in
    elim (cases_eq (length h.joined) 0) [
      | inl none ↦
          let no_frames : s.frames ≡ [] = frames-nil h.whole 0 s.frames s.are (omega (arith, ap length joined_is)) in (
            record {
              messages = [];
              whole = [];
              n = 1;
              joined = [];
              begun = concat s.frames;
              head = h.head ++ d;
              fault = fault;
              are_whole = refl;
              are_begun = record { frames = []; are = tt; joined_are = refl; bytes_are = ap concat (sym no_frames); short = omega arith; most = omega arith };
              bytes_are = bytes_on;
              has = fresh_fault h.whole 1 (h.head ++ d) fault (subst (λ (k : ℕ). ShowsFault h.whole k (h.head ++ d) fault) none has);
              place_is = omega arith;
              why_is = refl;
            },
            refl,
          )
      | inr ne ↦
          let within = frames-within h.whole 0 s.frames s.are (λ (e : s.frames ≡ []). ne (ap length joined_is ∙ ap (λ (r : List (List ℕ)). length (flat_map data_of r)) e)) in (
            record {
              messages = [];
              whole = [];
              n = h.whole;
              joined = h.joined;
              begun = concat s.frames;
              head = h.head ++ d;
              fault = fault;
              are_whole = refl;
              are_begun = record { frames = s.frames; are = s.are; joined_are = sym joined_is; bytes_are = refl; short = omega (arith, ap length joined_is, within, unfinished (omega (arith, ne))); most = s.most };
              bytes_are = bytes_on;
              has = has;
              place_is = omega arith;
              why_is = refl;
            },
            refl,
          )
    ]
