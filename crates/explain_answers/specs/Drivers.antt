-- For proofs: a driver that was read. docs/COMMANDS.md, "Standard error".
use Rattle.host_model.specs.Scripts.{IsScript}
use Rattle.note_types.specs.Records.{IsNotes}
use Rattle.pe_image.specs.Images.{IsImage}
use Rattle.pe_image.specs.Mapped.{AreBytes}
use Rattle.explain_answers.specs.declared.driver.Driver.{Driver}

-- the image, the notes and the script of a driver can be run
pub record IsRunnableDriver (driver : Driver) : Type 0 where
  pub image : IsImage driver.image
  pub bytes : AreBytes driver.image
  pub notes : IsNotes driver.notes
  pub script : IsScript driver.notes driver.script
