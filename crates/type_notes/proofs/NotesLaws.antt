-- The record that notes stand for meets the conditions on notes.
use Rattle.std.proofs.Common.{◌≡◌, ℕ, ◌+◌, ◌-◌, ◌^◌, ◌<◌, ◌≤◌, List, [], ◌∷◌, length, map, take, get_or, None, Result, Ok, Err, refl, ap}
use Rattle.std.proofs.Common.{sym, subst, arith}
use Rattle.std.specs.Prelude.{IfOk, nat_lt, sum_by}
use Rattle.std.specs.List.Sorted.{IsStrictlyIncreasing}
use Rattle.std.proofs.lemmas.Bool.{leb-false, ltb-false}
use Rattle.std.proofs.lemmas.List.{length-map, take_all}
use Rattle.std.proofs.lemmas.List.Folds.{fold-map}
use Rattle.toml.specs.Data.{Members}
use Rattle.note_types.specs.declared.fault.NotesEnd.{NotesEnd}
use Rattle.note_types.specs.declared.notes.FnNote.{FnNote}
use Rattle.note_types.specs.declared.notes.Notes.{Notes}
use Rattle.note_types.specs.declared.notes.Point.{Point}
use Rattle.note_types.specs.declared.notes.Site.{Site}
use Rattle.note_types.specs.Limits.{code_limit, point_limit, IsVersion}
use Rattle.note_types.specs.Records.{Ascends, HasFewThings, IsFunctionNote, IsNotes, IsPointNote, IsShapeNote, IsSignatureNote, IsSiteNote}
use Rattle.note_types.specs.Records.{IsStaticNote, IsThunkNote}
use Rattle.note_types.specs.Records as records
use Rattle.note_texts.specs.Keys.{document}
use Rattle.note_texts.specs.Outcome.{Gives}
use Rattle.note_draft.specs.declared.draft.FunctionDraft.{FunctionDraft}
use Rattle.note_draft.specs.declared.draft.NotesDraft.{NotesDraft}
use Rattle.note_draft.specs.declared.draft.PointDraft.{PointDraft}
use Rattle.note_draft.specs.declared.draft.SiteDraft.{SiteDraft}
use Rattle.note_draft.specs.declared.tables.NameTables.{NameTables}
use Rattle.note_draft.specs.Drafts.{draft_of}
use Rattle.note_draft.specs.Known.{known}
use Rattle.note_draft.specs.Once.{once}
use Rattle.note_draft.specs.Repeats.{descends, first_descent}
use Rattle.type_notes.specs.Conditions.{code_of, conditions, first_past}
use Rattle.type_notes.specs.Notes.{known_names, notes_in, notes_of}
use Rattle.type_notes.specs.Resolved.{resolved, resolved_function, resolved_point, resolved_shape, resolved_signature, resolved_site}
use Rattle.type_notes.specs.Resolved.{resolved_static, resolved_thunk}
use Rattle.type_notes.proofs.ConditionsMet.{MeetsConditions, conditions-met}
use Rattle.type_notes.proofs.DraftBounds.{IsDraft, draft_of-bounds}
use Rattle.type_notes.proofs.ListBounds.{each_map}
use Rattle.type_notes.proofs.NamesFound.{HasNames, KnowsNames, known-names, once-names}
use Rattle.type_notes.proofs.Outcomes.{ok_given}
use Rattle.type_notes.proofs.OwnerLaws.{fails-from_none}
use Rattle.type_notes.proofs.ResolvedPoints.{point_note}
use Rattle.type_notes.proofs.ResolvedRecords.{entry_note, function_note, method_names-long, shape_note, signature_note, site_note}
use Rattle.type_notes.proofs.ResolvedRecords.{static_note, thunk_note}
use Rattle.type_notes.proofs.ResolvedTypes.{methods_few}
use Rattle.ebc_base.proofs.Given.{ok_then, ok_next}

-- ---- what ascends

ascends : (xs : List ℕ) → first_descent xs ≡ None → IsStrictlyIncreasing xs
unfolding first_descent
ascends xs e k h =
    let back : k + 1 - 1 ≡ k = omega arith in
    let fails = fails-from_none (descends xs) (length xs - 1) 1 e (k + 1) (omega arith) (omega arith) in
    subst (λ j. get_or xs j 0 < get_or xs (k + 1) 0) back (leb-false (get_or xs (k + 1) 0) (get_or xs (k + 1 - 1) 0) fails)

function_places : (t : NameTables) (fs : List FunctionDraft) → map (λ (f : FnNote). f.place) (map (resolved_function t) fs) ≡ map
    (λ f. f.place) fs
unfolding resolved_function
function_places t [] = refl
function_places t (f ∷ fs) = ap (λ l. f.place ∷ l) (function_places t fs)

point_places : (t : NameTables) (d : NotesDraft) (ps : List PointDraft)
    → map (λ (p : Point). p.place) (map (resolved_point t d) ps) ≡ map (λ p. p.place) ps
unfolding resolved_point
point_places t d [] = refl
point_places t d (p ∷ ps) = ap (λ l. p.place ∷ l) (point_places t d ps)

site_places : (t : NameTables) (ss : List SiteDraft) → map (λ (o : Site). o.place) (map (resolved_site t) ss) ≡ map (λ s. s.place) ss
unfolding resolved_site
site_places t [] = refl
site_places t (s ∷ ss) = ap (λ l. s.place ∷ l) (site_places t ss)

-- ---- code

within : (limit : ℕ) (fs : List FunctionDraft) → first_past limit fs ≡ None → code_of fs ≤ limit
unfolding first_past
within limit [] e = omega arith
within limit (f ∷ fs) e =
    let all : take (length fs + 1) (f ∷ fs) ≡ f ∷ fs = take_all (length fs + 1) (f ∷ fs) (omega arith) in
    let fails = fails-from_none (λ i. nat_lt limit (code_of (take (i + 1) (f ∷ fs)))) (length (f ∷ fs)) 0 e (length fs) (omega arith)
    (omega arith) in
    subst (λ xs. code_of xs ≤ limit) all (ltb-false limit (code_of (take (length fs + 1) (f ∷ fs))) fails)

code_alike : (t : NameTables) (fs : List FunctionDraft) → sum_by records.code_size (map (resolved_function t) fs) ≡ code_of fs
unfolding resolved_function
code_alike t fs = fold-map (λ a (f : FnNote). a + records.code_size f) (resolved_function t) 0 fs

-- ---- the record

module _ (t : NameTables) (d : NotesDraft) (b : IsDraft d) (n : HasNames d t) where
  few_things : HasFewThings (resolved t d)
  unfolding resolved
  few_things = let shapes : length d.shape ≤ 1024 = b.shape.0 in
      let statics : length d.statics ≤ 2 ^ 32 - 1 = b.statics.0 in
      let thunks : length d.thunk ≤ 2 ^ 32 - 1 = b.thunk.0 in
      let functions : length d.function ≤ 4096 = b.function.0 in
      let signatures : length d.signature ≤ 2 ^ 32 - 1 = b.signature.list.0 in
      let sites : length d.site ≤ 2 ^ 32 - 1 = b.site.0 in
      let shapes_as = length-map d.shape (resolved_shape t) in
      let statics_as = length-map d.statics (resolved_static t) in
      let thunks_as = length-map d.thunk (resolved_thunk t) in
      let functions_as = length-map d.function (resolved_function t) in
      let points_as = length-map d.point (resolved_point t d) in
      let signatures_as = length-map d.signature (resolved_signature t) in
      let sites_as = length-map d.site (resolved_site t) in
      record {
        shapes = omega arith;
        statics = omega arith;
        thunks = omega arith;
        functions = omega arith;
        points = subst (λ n. n ≤ point_limit d.version) (sym points_as) b.point.0;
        signatures = omega arith;
        sites = omega arith;
        methods = methods_few t d b n;
      }

  things_ascend : MeetsConditions t d → Ascends (resolved t d)
  unfolding resolved
  things_ascend m =
      record {
        functions = subst IsStrictlyIncreasing (sym (function_places t d.function))
            (ascends (map (λ f. f.place) d.function) m.ordered.functions);
        points = subst IsStrictlyIncreasing (sym (point_places t d d.point)) (ascends (map (λ p. p.place) d.point) m.ordered.points);
        sites = subst IsStrictlyIncreasing (sym (site_places t d.site)) (ascends (map (λ s. s.place) d.site) m.ordered.sites);
      }

  code_within : MeetsConditions t d → sum_by records.code_size (resolved t d).function ≤ code_limit (resolved t d).version
  unfolding resolved
  code_within m = subst (λ z. z ≤ code_limit d.version) (sym (code_alike t d.function))
      (within (code_limit d.version) d.function m.met.code)

  version_is : IsVersion (resolved t d).version
  unfolding resolved
  version_is = b.version

  module _ (w : KnowsNames t d) (m : MeetsConditions t d) where
    shapes_are : records.Each (IsShapeNote (resolved t d)) (resolved t d).shape
    unfolding resolved
    shapes_are = each_map (IsShapeNote (resolved t d)) (resolved_shape t) d.shape (shape_note t d b n w)

    statics_are : records.Each (IsStaticNote (resolved t d)) (resolved t d).statics
    unfolding resolved
    statics_are = each_map (IsStaticNote (resolved t d)) (resolved_static t) d.statics (static_note t d b n w)

    thunks_are : records.Each (IsThunkNote (resolved t d)) (resolved t d).thunk
    unfolding resolved
    thunks_are = each_map (IsThunkNote (resolved t d)) (resolved_thunk t) d.thunk (thunk_note t d b n w)

    functions_are : records.Each (IsFunctionNote (resolved t d)) (resolved t d).function
    unfolding resolved
    functions_are = each_map (IsFunctionNote (resolved t d)) (resolved_function t) d.function (function_note t d b n w m.met)

    points_are : records.Each (IsPointNote (resolved t d)) (resolved t d).point
    unfolding resolved
    points_are = each_map (IsPointNote (resolved t d)) (resolved_point t d) d.point (point_note t d b n w m)

    signatures_are : records.Each (IsSignatureNote (resolved t d)) (resolved t d).signature
    unfolding resolved
    signatures_are = each_map (IsSignatureNote (resolved t d)) (resolved_signature t) d.signature (signature_note t d b n w m.met)

    sites_are : records.Each (IsSiteNote (resolved t d)) (resolved t d).site
    unfolding resolved
    sites_are = each_map (IsSiteNote (resolved t d)) (resolved_site t) d.site (site_note t d b n w)

    -- the record of a draft that passed
    pub resolved-notes : IsNotes (resolved t d)
    resolved-notes = record {
      version = version_is;
      few = few_things;
      entry = entry_note t d b n w m.met;
      shapes = shapes_are;
      statics = statics_are;
      thunks = thunks_are;
      functions = functions_are;
      points = points_are;
      signatures = signatures_are;
      sites = sites_are;
      methods = method_names-long t d b n w;
      ascends = things_ascend m;
      code = code_within m;
    }

-- the names of a draft are those that it gives, and those that it uses are among them
pub known_names-are : (d : NotesDraft) → IfOk (known_names d) (λ t. HasNames d t × KnowsNames t d)
unfolding known_names
known_names-are d =
    let P : NameTables → Type 0 = λ t. HasNames d t × KnowsNames t d in
    ok_then (HasNames d) P (once d) _ (once-names d)
    (λ t n. ok_then (λ _. KnowsNames t d) P (known t d) _ (known-names t d) (λ _ w. (n, w)))

-- what a draft within its bounds stands for
notes_in-notes : (d : NotesDraft) → IsDraft d → IfOk (notes_in d) IsNotes
unfolding notes_in
notes_in-notes d b =
    ok_then (λ t. HasNames d t × KnowsNames t d) IsNotes (known_names d) _ (known_names-are d)
    (λ t h. ok_then (λ _. MeetsConditions t d) IsNotes (conditions t d) _ (conditions-met t d) (λ _ m. resolved-notes t d b h.0 h.1 m))

-- the notes that a text stands for meet the conditions on notes
pub notes_of-notes : (text : List ℕ) → IfOk (notes_of text) IsNotes
unfolding notes_of
notes_of-notes text = ok_next IsNotes (document text) _ (λ table. ok_then IsDraft IsNotes (draft_of table) notes_in (draft_of-bounds table)
    (λ d b. notes_in-notes d b))

-- so do those that a function gives that reads a draft, where a table gave the draft
pub gives-notes : (table : Members) (d : NotesDraft) (result : Result Notes NotesEnd) → draft_of table ≡ Ok d → Gives result (notes_in d)
    → IfOk result IsNotes
gives-notes table d (Ok notes) read e = ok_given IsNotes (notes_in d) notes e
    (notes_in-notes d (ok_given IsDraft (draft_of table) d read (draft_of-bounds table)))
gives-notes table d (Err end) read e = tt
