-- The names from a folder down to one below it, as they are told.
use Rattle.std.proofs.Common.{◌≡◌, ◌∙◌, refl, sym, ap, ℕ, ◌+◌, ◌<◌, ◌≤◌, true, List, [], ◌∷◌, ◌++◌, length, take, drop, suc, zero, arith, length-append, append_assoc}
use Rattle.std.specs.Prelude.{nat_le, flat_map}
use Rattle.std.proofs.lemmas.Grind.{flat_map-append}
use Rattle.std.proofs.lemmas.List.{append-nil, drop-append-le}
use Rattle.std.proofs.Math.Seq.{drop-append_seam}
use Rattle.rd_base.specs.Fields.{text_bytes}
use Rattle.std.specs.Int.{to_le_bytes, w16}
use Rattle.std.proofs.lemmas.Bool.{and_parts, leb-true}
use Rattle.rd_drive.proofs.LengthLemmas.{joined_length, below_length}
use Rattle.rd_dirinfo.specs.Naming.{Name}
use Rattle.rd_dirinfo.specs.Paths.{Names, backslash, is_prefix, is_same_path, is_within_limits, joined, last_name, parent, path_len, most_names}
use Rattle.rd_tree.specs.Places.{Places, own_path, IsLive, IsWhole}
use Rattle.rd_drive.specs.Telling.{name_below}
use Rattle.rd_drive.proofs.TellLemmas.{above_step, below_other, has_names, path_split, shorter}

-- one name more after others
joined_more : (front : Names) (x : Name) → (front ≡ [] → ⊥) → joined (front ++ x ∷ []) ≡ joined front ++ backslash ∷ x
joined_more [] x some = absurd (some refl)
joined_more (y ∷ front) x some =
    ap (λ (l : List ℕ). y ++ l) (flat_map-append (λ (other : Name). backslash ∷ other) front (x ∷ []) ∙ ap (λ (l : List ℕ). flat_map (λ (other : Name). backslash ∷ other) front ++ l) (append-nil (backslash ∷ x)))
    ∙ sym (append_assoc y (flat_map (λ (other : Name). backslash ∷ other) front) (backslash ∷ x))

drop_some : (k : ℕ) (l : Names) → k < length l → drop k l ≡ [] → ⊥
drop_some k [] h e = absurd (omega arith)
drop_some zero (x ∷ l) h e = absurd (cc)
drop_some (suc k) (x ∷ l) h e = drop_some k l (omega arith) e

module _ (tree : Places) (whole : IsWhole tree) (f m : ℕ) (x : Name) where
  -- the name of what is in the folder itself
  pub name_in : m ≡ f → name_below tree f m x ≡ x
  name_in e =
      ap (λ (k : ℕ). joined (drop (length (own_path tree k)) (own_path tree m ++ x ∷ []))) (sym e)
      ∙ ap joined (drop-append_seam (own_path tree m) (x ∷ [])) ∙ append-nil x

  -- the name of what is further down
  pub name_further : (m_live : IsLive tree m) → (0 ≡ m → ⊥) → (k : ℕ) → own_path tree k ≡ parent (own_path tree m) → is_prefix tree.naming (own_path tree f) (own_path tree k) ≡ true
      → name_below tree f m x ≡ name_below tree f k (last_name (own_path tree m)) ++ backslash ∷ x
  name_further live other k up above =
      let own : own_path tree m ≡ own_path tree k ++ last_name (own_path tree m) ∷ [] = path_split (own_path tree m) (has_names tree whole m live other) ∙ ap (λ (p : Names). p ++ last_name (own_path tree m) ∷ []) (sym up) in
      let short : length (own_path tree f) ≤ length (own_path tree k) =
      leb-true (length (own_path tree f)) (length (own_path tree k)) (and_parts (nat_le (length (own_path tree f)) (length (own_path tree k))) (is_same_path tree.naming (own_path tree f) (take (length (own_path tree f)) (own_path tree k))) above).0 in
      let longer : length (own_path tree m) ≡ length (own_path tree k) + 1 = ap length own ∙ length-append (own_path tree k) (last_name (own_path tree m) ∷ []) in
      ap joined (drop-append-le (length (own_path tree f)) (own_path tree m) (x ∷ []) (omega arith))
      ∙ joined_more (drop (length (own_path tree f)) (own_path tree m)) x (drop_some (length (own_path tree f)) (own_path tree m) (omega arith))
      ∙ ap (λ (p : Names). joined (drop (length (own_path tree f)) p) ++ backslash ∷ x) own

  -- what is told of a path within the limits fits
  pub name_short : (path : Names) → path ≡ own_path tree m ++ x ∷ [] → is_within_limits path ≡ true → length (name_below tree f m x) ≤ 4096
  name_short path e within =
      let limit : path_len path ≤ 4096 = leb-true (path_len path) 4096 (and_parts (nat_le (length path) most_names) (nat_le (path_len path) 4096) within).1 in
      let less : path_len (drop (length (own_path tree f)) path) ≤ path_len path = below_length (length (own_path tree f)) path in
      let same : length (name_below tree f m x) ≡ path_len (drop (length (own_path tree f)) path) = ap (λ (p : Names). length (joined (drop (length (own_path tree f)) p))) (sym e) ∙ joined_length (drop (length (own_path tree f)) path) in
      omega arith

-- one folder up, where the folder isn't the one itself
pub record IsUp (tree : Places) (f m k : ℕ) (y x : Name) : Type 0 where
  pub above : is_prefix tree.naming (own_path tree f) (own_path tree k) ≡ true
  pub less : length (own_path tree k) < length (own_path tree m)
  pub name : name_below tree f m x ≡ name_below tree f k y ++ backslash ∷ x
  pub len : length (name_below tree f m x) ≡ length (name_below tree f k y) + 1 + length x

pub one_up : (tree : Places) → IsWhole tree → (f m : ℕ) → IsLive tree f → IsLive tree m → (m ≡ f → ⊥) → is_prefix tree.naming (own_path tree f) (own_path tree m) ≡ true
    → (k : ℕ) → own_path tree k ≡ parent (own_path tree m) → (y x : Name) → y ≡ last_name (own_path tree m) → IsUp tree f m k y x
one_up tree whole f m f_live m_live apart below k up y x last =
    let other : 0 ≡ m → ⊥ = below_other tree whole f m f_live m_live apart below in
    let above : is_prefix tree.naming (own_path tree f) (own_path tree k) ≡ true = sym (above_step tree whole f m f_live m_live apart k up other) ∙ below in
    let name : name_below tree f m x ≡ name_below tree f k y ++ backslash ∷ x =
    name_further tree whole f m x m_live other k up above ∙ ap (λ (n : Name). name_below tree f k n ++ backslash ∷ x) (sym last) in
    record {
      above = above;
      less = shorter tree whole m m_live other k up;
      name = name;
      len = omega (arith, ap (λ (l : List ℕ). length l) name, length-append (name_below tree f k y) (backslash ∷ x));
    }

-- ---- their bytes

pub text_append : (a b : List ℕ) → text_bytes (a ++ b) ≡ text_bytes a ++ text_bytes b
text_append a b = flat_map-append (λ u. to_le_bytes w16 u) a b

pub text_between : (a b : List ℕ) → text_bytes (a ++ backslash ∷ b) ≡ text_bytes a ++ text_bytes (backslash ∷ []) ++ text_bytes b
text_between a b = text_append a (backslash ∷ b) ∙ ap (λ (l : List ℕ). text_bytes a ++ l) (text_append (backslash ∷ []) b) ∙ sym (append_assoc (text_bytes a) (text_bytes (backslash ∷ [])) (text_bytes b))

-- the names further up, what stands between two names, and the name
pub put_all : (out front x a b c : List ℕ) → a ≡ out ++ text_bytes front → b ≡ a ++ text_bytes (backslash ∷ []) → c ≡ b ++ text_bytes x → c ≡ out ++ text_bytes (front ++ backslash ∷ x)
put_all out front x a b c first between last =
    last ∙ ap (λ (l : List ℕ). l ++ text_bytes x) (between ∙ ap (λ (l : List ℕ). l ++ text_bytes (backslash ∷ [])) first)
    ∙ ap (λ (l : List ℕ). l ++ text_bytes x) (append_assoc out (text_bytes front) (text_bytes (backslash ∷ [])))
    ∙ append_assoc out (text_bytes front ++ text_bytes (backslash ∷ [])) (text_bytes x)
    ∙ ap (λ (l : List ℕ). out ++ l) (sym (text_between front x))
