-- What an open file and the volume tell of themselves, and the volume's label.
use Rattle.std.proofs.Common.{◌≡◌, ◌∙◌, refl, sym, ap, subst, inl, inr, ℕ, ◌==◌, ◌≤◌, true, false, not, List, length, Option, Some, None, Err}
use Rattle.rd_base.specs.declared.status.Status.{Status}
use Rattle.rd_irp.specs.declared.completion.Body.TheVariants.{Buffer, Count}
use Rattle.rd_fileinfo.specs.declared.file_info.FileInfo.{FileInfo}
use Rattle.rd_fileinfo.specs.declared.volume_info.VolumeInfo.{VolumeInfo}
use Rattle.rd_fileinfo.specs.FileInfo.{file_info_bytes}
use Rattle.rd_fileinfo.specs.VolumeInfo.{volume_info_bytes}
use Rattle.rd_dirinfo.specs.declared.naming.Naming.TheVariants.{Exact}
use Rattle.rd_base.specs.Fields.{bytes8, bytes32, bytes64}
use Rattle.rd_base.specs.Moments.{moments_bytes}
use Rattle.rd_fileinfo.specs.declared.file_info.FileInfo.TheVariants.{Basic, Standard, Tag}
use Rattle.rd_irp.specs.Fits.{max_buffer}
use Rattle.std.proofs.lemmas.Bool.{leb-true}
use Rattle.rd_drive.proofs.LengthLemmas.{volume_info_length}
use Rattle.rd_drive.specs.DriveState.{DriveState, Node, empty_drive}
use Rattle.rd_drive.specs.Outcome.{Outcome, refused, succeeded, no_news, given, on_handle}
use Rattle.rd_drive.specs.Query.{info_of_volume, node_info, query_file, query_volume}
use Rattle.rd_drive.specs.SetVolume.{label_class, label_of, set_volume}
use Rattle.rd_base.specs.Statuses.{invalid_info_class, invalid_parameter}
use Rattle.rd_drive.specs.Kept.{IsNoInfo}
use Rattle.rd_drive.proofs.CheckLemmas.{check_applies, check_passed, checks_done, given_some, given_none}
use Rattle.std.specs.Option.{option_map}
use Rattle.std.proofs.lemmas.Option.{same_Some}
use Rattle.rd_folder.specs.FolderCalls.{look_of, node_there}
use Rattle.rd_folder.specs.declared.look.Look.{Look}
use Rattle.rd_folder_drive.specs.declared.handle.Handle as kept
use Rattle.rd_folder_drive.specs.declared.open.Open.{Open}
use Rattle.rd_folder_drive.specs.declared.table.Table.{Table}
use Rattle.rd_folder_drive.specs.Alone.{ServesAlone}
use Rattle.rd_folder_drive.specs.Table.{HasNodes, IsSound, drive_of, handle_of, kept_handle, marked, open_at}
use Rattle.rd_folder_drive.proofs.TableLemmas as table

module _ (t : Table) (sound : IsSound t) (file : ℕ) (h : kept.Handle) (o : Open) (is : kept_handle t file ≡ Some h) (on : open_at t h.node ≡ Some o) (class : ℕ) (nodes : List Node) (holds : HasNodes t nodes) where
  abbrev pub s : DriveState
  s = drive_of t nodes

  abbrev pub node : Node
  node = table.node t sound nodes holds file h o is on

  -- ---- the file

  abbrev pub of_file : DriveState → Outcome
  of_file s = on_handle s file (query_file s class)

  telling : Option FileInfo → Outcome
  telling found = given s found invalid_info_class (λ info. succeeded s (Buffer (file_info_bytes info)) no_news)

  goes : of_file s ≡ telling (node_info (record node { pending = o.pending }) class)
  unfolding telling
  goes = table.on_open t sound nodes holds file h o is on (query_file s class) ∙ ap (λ (n : Node). telling (node_info n class)) (table.marked_is t sound nodes holds file h o is on)

  pub file_told : (info : FileInfo) → node_info (record node { pending = o.pending }) class ≡ Some info → of_file s ≡ succeeded s (Buffer (file_info_bytes info)) no_news
  unfolding telling
  file_told info e = goes ∙ ap telling e ∙ given_some s info invalid_info_class _

  pub file_untold : node_info (record node { pending = o.pending }) class ≡ None → of_file s ≡ refused s invalid_info_class
  unfolding telling
  file_untold e = goes ∙ ap telling e ∙ given_none s {X = FileInfo} invalid_info_class _

  -- what the folder told of it
  pub look_is : (found : Option Look) (look : Look) → option_map look_of (node_there nodes o.path) ≡ found → found ≡ Some look → look ≡ look_of node
  look_is found look told some = sym (same_Some _ _ (sym (ap (option_map look_of) (table.there t sound nodes holds file h o is on)) ∙ told ∙ some))

  -- ---- the volume

  abbrev pub of_volume : DriveState → Outcome
  of_volume s = on_handle s file (query_volume s class)

  telling_volume : Option VolumeInfo → Outcome
  telling_volume found = given s found invalid_info_class (λ info. succeeded s (Buffer (volume_info_bytes info)) no_news)

  goes_volume : of_volume s ≡ telling_volume (info_of_volume t.label Exact class)
  unfolding telling_volume
  goes_volume = table.on_open t sound nodes holds file h o is on (query_volume s class)

  pub volume_told : (info : VolumeInfo) → info_of_volume t.label Exact class ≡ Some info → of_volume s ≡ succeeded s (Buffer (volume_info_bytes info)) no_news
  unfolding telling_volume
  volume_told info e = goes_volume ∙ ap telling_volume e ∙ given_some s info invalid_info_class _

  pub volume_untold : info_of_volume t.label Exact class ≡ None → of_volume s ≡ refused s invalid_info_class
  unfolding telling_volume
  volume_untold e = goes_volume ∙ ap telling_volume e ∙ given_none s {X = VolumeInfo} invalid_info_class _

  -- ---- its label

  module _ (buffer : List ℕ) where
    abbrev pub of_label : DriveState → Outcome
    of_label s = on_handle s file (set_volume s class buffer)

    labelling : of_label s ≡ set_volume s class buffer (handle_of t h) (marked t.opens.entries node)
    labelling = table.on_open t sound nodes holds file h o is on (set_volume s class buffer)

    pub label_refused : (class == label_class) ≡ false → of_label s ≡ refused s invalid_info_class
    label_refused other = labelling ∙ check_applies s _ _ _ (ap not other)

    module _ (right : (class == label_class) ≡ true) where
      setting : Option (List ℕ) → Outcome
      setting found = given s found invalid_parameter (λ units. succeeded (record s { label = units }) (Count (length buffer)) no_news)

      set_on : of_label s ≡ setting (label_of buffer)
      unfolding setting
      set_on = labelling ∙ check_passed s _ _ _ (ap not right) ∙ checks_done s _

      pub label_none : label_of buffer ≡ None → of_label s ≡ refused s invalid_parameter
      unfolding setting
      label_none e = set_on ∙ ap setting e ∙ given_none s {X = List ℕ} invalid_parameter _

      pub label_some : (label : List ℕ) → label_of buffer ≡ Some label → of_label s ≡ succeeded (drive_of (record t { label = label }) nodes) (Count (length buffer)) no_news
      unfolding setting
      label_some label e = set_on ∙ ap setting e ∙ given_some s label invalid_parameter _

-- the table stays sound with a label that isn't too long
pub sound_label : (t : Table) → IsSound t → (label : List ℕ) → length label ≤ 32 → IsSound (record t { label = label })
sound_label t sound label short = record {
  label = short;
  rising = sound.rising;
  handles = λ file h is. record { on = (sound.handles file h is).on; before = (sound.handles file h is).before; root = (sound.handles file h is).root };
  opened = λ n o on. record { path = (sound.opened n o on).path; root = (sound.opened n o on).root; used = (sound.opened n o on).used; uses = (sound.opened n o on).uses; before = (sound.opened n o on).before };
  apart = sound.apart;
  locked = sound.locked;
  waits = sound.waits;
  reserved = sound.reserved;
  few = sound.few;
  ids = sound.ids;
}

-- and what it holds it holds then
pub holds_label : (t : Table) (nodes : List Node) → HasNodes t nodes → (label : List ℕ) → HasNodes (record t { label = label }) nodes
holds_label t nodes holds label = record { map = holds.map; there = holds.there }

-- ---- how much is told

-- what is told of a file
pub file_short : (info : FileInfo) → length (file_info_bytes info) ≤ max_buffer
unfolding bytes8 bytes32 bytes64 moments_bytes
file_short (Basic moments attributes) = leb-true _ max_buffer refl
file_short (Standard allocation end links pending folder) = leb-true _ max_buffer refl
file_short (Tag attributes tag) = leb-true _ max_buffer refl

-- and of the volume
pub volume_short : (label : List ℕ) → length label ≤ 32 → (class : ℕ) (info : VolumeInfo) → info_of_volume label Exact class ≡ Some info → length (volume_info_bytes info) ≤ max_buffer
volume_short label short class info e =
    volume_info_length (empty_drive Exact label) (record { limited = refl; label = short; paths = (refl, tt) }) class info e

-- ---- nothing of the class is told

pub untold_alone : {X : Type 0} (t : Table) → IsSound t → (comes : DriveState → Outcome) (found : Option X) (status : Status) → IsNoInfo found status
    → (found ≡ None → (nodes : List Node) → HasNodes t nodes → comes (drive_of t nodes) ≡ refused (drive_of t nodes) invalid_info_class) → ServesAlone t t comes (Err status)
untold_alone t sound comes found status (inl e) f =
    subst (λ (s : Status). ServesAlone t t comes (Err s)) (sym e.1) (sound, inl ((refl, refl), λ nodes holds. (holds, f e.0 nodes holds)))
untold_alone t sound comes found status (inr e) f = (sound, inr (e, (λ nodes. refl), λ nodes holds. (holds, refl)))
