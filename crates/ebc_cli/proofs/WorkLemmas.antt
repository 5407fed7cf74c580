-- What comes of files that are there: the work that the words ask for.
use Rattle.ebc_cli.proofs.Common.{◌≡◌, ℕ, ◌+◌, List, length, Result, Ok, refl, Files, Notes, Script, Bind, Image, Reply, image_limit}
use Rattle.ebc_cli.proofs.Common.{image_meaning, ReadDriver, ChecksCode, ChecksImage, InfersPoints, PairsImages, TwinsImage, binds_limit}
use Rattle.ebc_cli.proofs.Common.{binds_meaning, script_limit, script_meaning, input, notes_limit, notes_meaning, driver_files, pair_files}
use Rattle.ebc_cli.proofs.Common.{unnotified, run_files, image_with_notes, pairing, plain_code_limit, twinning, work_of}
use Rattle.std.proofs.lemmas.Bool.{le-ltb}
use Rattle.pe_image.specs.Images.{image_of}
use Rattle.type_notes.specs.Notes.{notes_of}
use Rattle.cli_base.specs.Readings.{file}
use Rattle.ebc_cli.specs.declared.command.DriverFiles.{DriverFiles}
use Rattle.ebc_cli.specs.{Answers.HasDriver, Answers.HasRunFiles, Works.code_check, Works.image_check, Works.inference}
use Rattle.file_inputs.specs.Held.{HasFile}
use Rattle.ebc_cli.proofs.NumberLemmas.{pair-step-number, step-number}
use Rattle.ebc_cli.specs.declared.work.Work.TheVariants as works

-- a file that is there is read as its bytes mean
read-means : {A : Type 0} (limit : ℕ) (meaning : ℕ → List ℕ → List ℕ → Result A Reply) (word : ℕ) (name : List ℕ) (files : Files)
    (bytes : List ℕ) (value : Result A Reply)
    → HasFile files name limit bytes → meaning word name bytes ≡ value → (input limit meaning word name files).value ≡ value
unfolding input file
read-means limit meaning word name files bytes value found is = rw (found.there, le-ltb limit (length bytes) found.fits) is

-- ---- `check` and `infer`

pub code-work : (words : List (List ℕ)) (files : Files) (code : List ℕ) → ChecksCode words files code
    → (work_of words files).value ≡ Ok (works.CheckCode code)
unfolding work_of code_check file
code-work words files code c = rw (c.command, c.code_file.there, le-ltb plain_code_limit (length code) c.code_file.fits) refl

both-are-read : (files : Files) (word : ℕ) (a b bytes text : List ℕ) (image : Image) (notes : Notes) → HasFile files a image_limit bytes
    → HasFile files b notes_limit text → image_of bytes ≡ Ok image → notes_of text ≡ Ok notes
    → (image_with_notes word a b files).value ≡ Ok (image, notes)
unfolding image_with_notes
both-are-read files word a b bytes text image notes image_file notes_file image_is notes_are =
    let one = read-means image_limit image_meaning word a files bytes (Ok image) image_file (rw image_is refl) in
    let two = read-means notes_limit notes_meaning (word + 1) b files text (Ok notes) notes_file (rw notes_are refl) in
    rw (one, two) refl

pub image-work : (words : List (List ℕ)) (files : Files) (image : Image) (notes : Notes) → ChecksImage words files image notes
    → (work_of words files).value ≡ Ok (works.CheckImage image notes)
unfolding work_of image_check
image-work words files image notes c =
    let read = both-are-read files 1 c.image_name c.notes_name c.bytes c.text image notes c.image_file c.notes_file c.image_is
    c.notes_are in
    rw (c.command, read) refl

pub infer-work : (words : List (List ℕ)) (files : Files) (name : List ℕ) (image : Image) (notes : Notes)
    → InfersPoints words files name image notes → (work_of words files).value ≡ Ok (works.InferPoints name image notes)
unfolding work_of inference
infer-work words files name image notes x =
    let read = both-are-read files 1 name x.notes_name x.bytes x.text image notes x.image_file x.notes_file x.image_is x.notes_are in
    rw (x.command, read) refl

-- ---- `twin` and `pair`

run-files-read : (files : Files) (word : ℕ) (a b c : List ℕ) (image : Image) (notes : Notes) (script : Script)
    → HasRunFiles files a b c image notes script → (run_files word a b c files).value ≡ Ok (image, notes, script)
unfolding run_files
run-files-read files word a b c image notes script has =
    let one = read-means image_limit image_meaning word a files has.bytes (Ok image) has.image_file (rw has.image_is refl) in
    let two = read-means notes_limit notes_meaning (word + 1) b files has.text (Ok notes) has.notes_file (rw has.notes_are refl) in
    let three = read-means script_limit (script_meaning notes) (word + 2) c files has.script_text (Ok script) has.script_file
    (rw has.script_is refl) in
    rw (one, two, three) refl

pub twinning-work : (words : List (List ℕ)) (files : Files) (image : Image) (notes : Notes) (script : Script) (steps : ℕ)
    → TwinsImage words files image notes script steps → (work_of words files).value ≡ Ok (works.Twin image notes script steps)
unfolding work_of twinning
twinning-work words files image notes script steps x =
    let read = run-files-read files 1 x.image_name x.notes_name x.script_name image notes script x.has_files in
    rw (x.command, step-number steps x.within, read) refl

driver-read : (files : Files) (word : ℕ) (names : DriverFiles) (driver : ReadDriver) → HasDriver files names driver
    → (driver_files word names files).value ≡ Ok driver
unfolding driver_files unnotified
driver-read files word names driver has =
    rw (
      run-files-read files word names.image names.notes names.script driver.image driver.notes driver.script has.has_files,
      has.unnotified,
    ) refl

pub pairing-work : (words : List (List ℕ)) (files : Files) (a b : ReadDriver) (binds : List Bind) (steps : ℕ)
    → PairsImages words files a b binds steps → (work_of words files).value ≡ Ok (works.Pair a b binds steps)
unfolding work_of pairing pair_files
pairing-work words files a b binds steps x =
    rw (
      x.command,
      pair-step-number steps x.within,
      driver-read files 1 x.a_names a x.has_a,
      driver-read files 4 x.b_names b x.has_b,
      read-means binds_limit (binds_meaning a.notes b.notes) 7 x.binds_name files x.text (Ok binds) x.binds_file (rw x.binds_are refl),
    ) refl
