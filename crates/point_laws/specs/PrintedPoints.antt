-- For proofs: the laws of printed points: under notes that a text stands for, what is printed of points is a document of TOML, and is
-- read as the points. docs/NOTES.md says how points are read.
use Rattle.std.specs.Prelude.{◌≡◌, ℕ, ◌≤◌, List, [], codes, length, map, Ok, Result, bytes_eq, false}
use Rattle.std.specs.List.Sorted.{IsStrictlyIncreasing}
use Rattle.toml.specs.Data.{Members, get_member}
use Rattle.ebc_base.specs.Steps.{◌>>=◌}
use Rattle.note_types.specs.Limits.{point_limit}
use Rattle.note_types.specs.Records.{Each, IsPointNote}
use Rattle.note_types.specs.declared.fault.TomlFault.{TomlFault}
use Rattle.note_types.specs.declared.notes.Notes.{Notes}
use Rattle.note_types.specs.declared.notes.Point.{Point}
use Rattle.note_texts.specs.Keys.{document, only_keys}
use Rattle.note_texts.specs.Lists.{tables_at}
use Rattle.note_draft.specs.Drafts.{draft_keys, draft_of, point_of}
use Rattle.note_draft.specs.declared.draft.NotesDraft.{NotesDraft}
use Rattle.note_draft.specs.declared.tables.NameTables.{NameTables}
use Rattle.type_notes.specs.Conditions.{conditions}
use Rattle.type_notes.specs.Notes.{known_names, notes_in, notes_of}
use Rattle.type_notes.specs.Resolved.{resolved, resolved_point}
use Rattle.printed_texts.specs.PrintedStates.{points_text}
use Rattle.point_laws.specs.PointTables.{point_draft, points_members}

-- the points that the tables in a text stand for, under the names of notes and their draft
abbrev pub points_in : NameTables → NotesDraft → List ℕ → Result (List Point) TomlFault
points_in t d text = do
  members ← document text
  drafts ← tables_at point_of [] (codes "point") (point_limit d.version) members
  Ok (map (resolved_point t d) drafts)

-- a draft of notes and its names are those that a text has
pub record IsReading (text : List ℕ) (d : NotesDraft) (t : NameTables) : Type 0 where
  pub members : Members
  pub document : document text ≡ Ok members
  pub draft : draft_of members ≡ Ok d
  pub names : known_names d ≡ Ok t
  pub conditions : conditions t d ≡ Ok tt

-- what is printed of points is a document of TOML: their tables
abbrev pub PrintedPointsAreTables : Type 0
PrintedPointsAreTables =
    (text : List ℕ) (d : NotesDraft) (t : NameTables) → IsReading text d t → (points : List Point)
    → Each (IsPointNote (resolved t d)) points
    → document (points_text (resolved t d) points) ≡ Ok (points_members (resolved t d) points)

-- under notes that a text stands for, what is printed of points of these notes is read as the points
abbrev pub PrintedPointsAreRead : Type 0
PrintedPointsAreRead =
    (text : List ℕ) (d : NotesDraft) (t : NameTables) → IsReading text d t → (points : List Point)
    → Each (IsPointNote (resolved t d)) points → length points ≤ point_limit d.version
    → points_in t d (points_text (resolved t d) points) ≡ Ok points

-- the draft of notes with these points, as they are printed, in place of its own
abbrev pub with_printed : NotesDraft → NameTables → List Point → NotesDraft
with_printed d t points = record d { point = map (point_draft (resolved t d)) points }

-- what is printed of points of the notes that ascend by place is accepted in place of their own: the draft with it stands for the
-- notes with these points
abbrev pub PrintedPointsAreAccepted : Type 0
PrintedPointsAreAccepted =
    (text : List ℕ) (d : NotesDraft) (t : NameTables) → IsReading text d t → (points : List Point)
    → Each (IsPointNote (resolved t d)) points → IsStrictlyIncreasing (map (λ (p : Point). p.place) points)
    → notes_in (with_printed d t points) ≡ Ok (record (resolved t d) { point = points })

-- a document that has what is printed of points at the key `point`, at each other key what a document of notes has, and no keys but
-- those of notes
pub record HasPrinted (notes : Notes) (ps : List Point) (old new : Members) : Type 0 where
  pub list : get_member (codes "point") new ≡ get_member (codes "point") (points_members notes ps)
  pub others : (key : List ℕ) → bytes_eq key (codes "point") ≡ false → get_member key new ≡ get_member key old
  pub keys : only_keys [] draft_keys new ≡ Ok tt

-- a text with such a document stands for the notes with these points, where they ascend by place
abbrev pub PrintedPointsStand : Type 0
PrintedPointsStand =
    (text next : List ℕ) (d : NotesDraft) (t : NameTables) (reading : IsReading text d t) (points : List Point)
    → Each (IsPointNote (resolved t d)) points → IsStrictlyIncreasing (map (λ (p : Point). p.place) points)
    → length points ≤ point_limit d.version → (new : Members) → document next ≡ Ok new
    → HasPrinted (resolved t d) points reading.members new → notes_of next ≡ Ok (record (resolved t d) { point = points })
