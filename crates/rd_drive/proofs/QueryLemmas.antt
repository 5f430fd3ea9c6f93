-- What an open file and the volume tell of themselves.
use Rattle.std.proofs.Common.{◌≡◌, ◌∙◌, refl, sym, ap, ℕ, inl, inr, Option, Some, None, Err}
use Rattle.rd_base.specs.declared.status.Status.{Status}
use Rattle.rd_irp.specs.declared.completion.Body.TheVariants.{Buffer}
use Rattle.rd_fileinfo.specs.declared.file_info.FileInfo.{FileInfo}
use Rattle.rd_fileinfo.specs.declared.volume_info.VolumeInfo.{VolumeInfo}
use Rattle.rd_fileinfo.specs.FileInfo.{file_info_bytes}
use Rattle.rd_fileinfo.specs.VolumeInfo.{volume_info_bytes}
use Rattle.rd_drive.specs.declared.handle.Handle as open_file
use Rattle.rd_drive.specs.declared.store.Store.{Store}
use Rattle.rd_drive.specs.Outcome.{Outcome, refused, succeeded, no_news, given, on_handle}
use Rattle.rd_drive.specs.Query.{node_info, drive_info, query_file, query_volume}
use Rattle.rd_base.specs.Statuses.{invalid_info_class}
use Rattle.rd_drive.specs.Store.{drive_of, kept_handle, IsSound, Serves}
use Rattle.rd_drive.specs.Kept.{own_node, IsNoInfo}
use Rattle.rd_drive.proofs.CheckLemmas.{given_some, given_none}
use Rattle.rd_drive.proofs.KeptLemmas.{on_own}

module _ (s : Store) (sound : IsSound s) (file : ℕ) (h : open_file.Handle) (is : kept_handle s file ≡ Some h) (class : ℕ) where
  abbrev telling : Option FileInfo → Outcome
  telling o = given (drive_of s) o invalid_info_class (λ info. succeeded (drive_of s) (Buffer (file_info_bytes info)) no_news)

  abbrev pub of_file : Outcome
  of_file = on_handle (drive_of s) file (query_file (drive_of s) class)

  pub file_told : (info : FileInfo) → node_info (own_node s h.node.0) class ≡ Some info → of_file ≡ succeeded (drive_of s) (Buffer (file_info_bytes info)) no_news
  file_told info e = on_own s sound file h is (query_file (drive_of s) class) ∙ ap telling e ∙ given_some (drive_of s) info invalid_info_class _

  pub file_untold : node_info (own_node s h.node.0) class ≡ None → of_file ≡ refused (drive_of s) invalid_info_class
  file_untold e = on_own s sound file h is (query_file (drive_of s) class) ∙ ap telling e ∙ given_none (drive_of s) {X = FileInfo} invalid_info_class _

  abbrev telling_volume : Option VolumeInfo → Outcome
  telling_volume o = given (drive_of s) o invalid_info_class (λ info. succeeded (drive_of s) (Buffer (volume_info_bytes info)) no_news)

  abbrev pub of_volume : Outcome
  of_volume = on_handle (drive_of s) file (query_volume (drive_of s) class)

  pub volume_told : (info : VolumeInfo) → drive_info (drive_of s) class ≡ Some info → of_volume ≡ succeeded (drive_of s) (Buffer (volume_info_bytes info)) no_news
  volume_told info e = on_own s sound file h is (query_volume (drive_of s) class) ∙ ap telling_volume e ∙ given_some (drive_of s) info invalid_info_class _

  pub volume_untold : drive_info (drive_of s) class ≡ None → of_volume ≡ refused (drive_of s) invalid_info_class
  volume_untold e = on_own s sound file h is (query_volume (drive_of s) class) ∙ ap telling_volume e ∙ given_none (drive_of s) {X = VolumeInfo} invalid_info_class _

-- nothing is told, and nothing changed
pub untold : {X : Type 0} (s : Store) → IsSound s → (comes : Outcome) (o : Option X) (status : Status) → IsNoInfo o status → (o ≡ None → comes ≡ refused (drive_of s) invalid_info_class) → Serves s s comes (Err status)
untold s sound comes o status (inl e) f = (sound, inl (f e.0 ∙ ap (λ t. refused (drive_of s) t) (sym e.1)))
untold s sound comes o status (inr e) f = (sound, inr (e, refl))
