-- The functions and the methods of notes that a text stands for have names of their own, and so printed values are read.
use Rattle.protocol_script.proofs.Common.{◌≡◌, ℕ, List, [], ◌∷◌, map, Some, None, Result, Ok, Err, refl, ap, sym, subst, ◌∙◌, IfOk}
use Rattle.protocol_script.proofs.Common.{bytes_eq, option_map, slice_get, AllPairs, slice_get-get_or, slice_get-map, FnNote, Notes, Each}
use Rattle.protocol_script.proofs.Common.{IsNotes, IsName, draft_of, first_repeat, HasNames, ok_then, ok_next}
use Rattle.note_texts.specs.Keys.{document}
use Rattle.note_draft.specs.declared.draft.{FunctionDraft.FunctionDraft, NotesDraft.NotesDraft, SignatureDraft.SignatureDraft}
use Rattle.note_draft.specs.declared.tables.NameTables.{NameTables}
use Rattle.note_draft.specs.Once.{function_names, method_names, names_of_calls, names_of_code, names_of_data, once, repeated_in_functions}
use Rattle.note_draft.specs.{Findings.refused, Known.known, Once.repeated_in_points}
use Rattle.type_notes.specs.{Conditions.conditions, Notes.known_names, Notes.notes_in, Notes.notes_of, Resolved.resolved}
use Rattle.type_notes.specs.Resolved.{resolved_function}
use Rattle.type_notes.proofs.{ListBounds.each_map, NamesFound.none_sooner, NamesFound.nothing_refused, NamesFound.once-names}
use Rattle.type_notes.proofs.{NotesLaws.notes_of-notes, OrderLemmas.nothing-at, Outcomes.ok_given}
use Rattle.ebc_base.proofs.Lists.{All_at}
use Rattle.protocol_script.proofs.{PrintedLaws.printed_arguments, PrintedLaws.printed_values, NamesApart.AreTwo, NamesApart.all_distinct}
use Rattle.protocol_script.proofs.{NamesApart.apart_at, NamesApart.apart_distinct, NamesApart.apart_once, NamesRead.HasNamedMethod}
use Rattle.protocol_script.proofs.NamesRead.{IsNamed, IsNamedFunction, draft_named}
use Rattle.protocol_script.specs.ReadLaw.{ReadArgumentsAreRead, ReadNamesAreGiven, ReadValuesAreRead}
use Rattle.note_draft.specs.declared.finding.Key.TheVariants as key
use Rattle.note_draft.specs.declared.finding.Refusal.TheVariants as refusals
use Rattle.note_draft.specs.declared.finding.TableList.TheVariants as list
use Rattle.type_notes.proofs.NamesFound as found

-- ---- functions that were named once

-- the names of the functions of a draft
abbrev pub names_of : NotesDraft → List (List ℕ)
names_of d = map (λ (f : FunctionDraft). f.name) d.function

none_again : (d : NotesDraft) → IfOk (function_names d.function) (λ names. first_repeat bytes_eq (names_of d) ≡ None)
unfolding repeated_in_functions
none_again d =
    ok_then (λ _. repeated_in_functions d.function ≡ None) (λ names. first_repeat bytes_eq (names_of d) ≡ None)
    (refused refusals.Twice (repeated_in_functions d.function)) _ (nothing_refused refusals.Twice (repeated_in_functions d.function))
    (λ _ none. nothing-at list.Function key.Name (first_repeat bytes_eq (names_of d)) (none_sooner _ _ none).0)

functions_apart : (d : NotesDraft) → IfOk (names_of_code d) (λ names. first_repeat bytes_eq (names_of d) ≡ None)
unfolding names_of_code
functions_apart d =
    let F : List (List ℕ) → Type 0 = λ names. first_repeat bytes_eq (names_of d) ≡ None in
    ok_then F F (function_names d.function) _ (none_again d)
    (λ functions apart. ok_next F (refused refusals.Twice (repeated_in_points d.point)) _ (λ _. apart))

functions_once : (d : NotesDraft) → IfOk (once d) (λ t. first_repeat bytes_eq (names_of d) ≡ None)
unfolding once
functions_once d =
    let P : NameTables → Type 0 = λ t. first_repeat bytes_eq (names_of d) ≡ None in
    let F : List (List ℕ) → Type 0 = λ names. first_repeat bytes_eq (names_of d) ≡ None in
    ok_next P (names_of_data d) _
    (λ shapes. ok_then F P (names_of_code d) _ (functions_apart d)
    (λ functions apart. ok_next P (names_of_calls d) _ (λ calls. apart)))

-- ---- names by their numbers

-- the names of the functions of the record are those of the draft
function_names_kept : (t : NameTables) (fs : List FunctionDraft)
    → map (λ (f : FnNote). f.name) (map (resolved_function t) fs) ≡ map (λ (f : FunctionDraft). f.name) fs
unfolding resolved_function
function_names_kept t [] = refl
function_names_kept t (f ∷ fs) = ap (λ names. f.name ∷ names) (function_names_kept t fs)

function_named : (t : NameTables) (f : FunctionDraft) → IsNamedFunction f → IsName (resolved_function t f).name
unfolding resolved_function
function_named t f h = h

-- functions whose names aren't one are one where their names are
function_at : (fs : List FnNote) (names : List (List ℕ)) → map (λ (f : FnNote). f.name) fs ≡ names → AllPairs AreTwo names
    → (j k : ℕ) (f g : FnNote) → slice_get fs j ≡ Some f → slice_get fs k ≡ Some g → f.name ≡ g.name → j ≡ k
function_at fs names are apart j k f g first second same =
    apart_at names apart j k f.name g.name (name_at j f first) (name_at k g second) same
  where
    name_at : (i : ℕ) (x : FnNote) → slice_get fs i ≡ Some x → slice_get names i ≡ Some x.name
    name_at i x at = ap (λ (l : List (List ℕ)). slice_get l i) (sym are)
        ∙ (slice_get-map (λ (f : FnNote). f.name) fs i ∙ ap (option_map (λ (f : FnNote). f.name)) at)

-- each of the methods has a name
methods_are : (d : NotesDraft) → Each HasNamedMethod d.signature → Each IsName (method_names d.signature)
methods_are d named k m at =
    let all : Each IsName (map (λ (s : SignatureDraft). s.method) d.signature) =
    each_map IsName (λ (s : SignatureDraft). s.method) d.signature named in
    All_at IsName (method_names d.signature) k m
    (all_distinct IsName (map (λ (s : SignatureDraft). s.method) d.signature) (λ i e h. all i _ (slice_get-get_or _ i e h))) at

-- ---- the record

names_in : (t : NameTables) (d : NotesDraft) → IsNamed d → found.HasNames d t → first_repeat bytes_eq (names_of d) ≡ None
    → HasNames (resolved t d)
unfolding resolved
names_in t d named names apart =
    record {
      functions = each_map (λ (f : FnNote). IsName f.name) (resolved_function t) d.function
          (λ k f at. function_named t f (named.functions k f at));
      methods = subst (Each IsName) (sym names.method) (methods_are d named.methods);
      functions_once = function_at (map (resolved_function t) d.function) (names_of d) (function_names_kept t d.function)
          (apart_once (names_of d) apart);
      methods_once = apart_at t.method (subst (AllPairs AreTwo) (sym names.method)
          (apart_distinct (map (λ (s : SignatureDraft). s.method) d.signature)));
    }

ok_both : {A E : Type 0} (P Q : A → Type 0) (a : Result A E) → IfOk a P → IfOk a Q → IfOk a (λ x. P x × Q x)
ok_both P Q (Ok x) h g = (h, g)
ok_both P Q (Err e) h g = tt

-- the names of a draft are those that it gives, and its functions have names of their own
names_apart : (d : NotesDraft)
    → IfOk (known_names d) (λ (t : NameTables). found.HasNames d t × (first_repeat bytes_eq (names_of d) ≡ None))
unfolding known_names
names_apart d =
    let P : NameTables → Type 0 = λ t. found.HasNames d t × (first_repeat bytes_eq (names_of d) ≡ None) in
    ok_then P P (once d) _
    (ok_both (found.HasNames d) (λ t. first_repeat bytes_eq (names_of d) ≡ None) (once d) (once-names d) (functions_once d))
    (λ t h. ok_next P (known t d) _ (λ _. h))

draft_names : (d : NotesDraft) → IsNamed d → IfOk (notes_in d) HasNames
unfolding notes_in
draft_names d named =
    ok_then (λ t. found.HasNames d t × (first_repeat bytes_eq (names_of d) ≡ None)) HasNames (known_names d) _ (names_apart d)
    (λ t h. ok_next HasNames (conditions t d) _ (λ _. names_in t d named h.0 h.1))

notes_names : (text : List ℕ) → IfOk (notes_of text) HasNames
unfolding notes_of
notes_names text = ok_next HasNames (document text) _ (λ table. ok_then IsNamed HasNames (draft_of table) notes_in
    (draft_named table) draft_names)

pub read_names : ReadNamesAreGiven
read_names text notes read = ok_given HasNames (notes_of text) notes read (notes_names text)

-- ---- what is printed

are_notes : (text : List ℕ) (notes : Notes) → notes_of text ≡ Ok notes → IsNotes notes
are_notes text notes read = ok_given IsNotes (notes_of text) notes read (notes_of-notes text)

pub read_values : ReadValuesAreRead
read_values text notes read = printed_values notes (are_notes text notes read) (read_names text notes read)

pub read_arguments : ReadArgumentsAreRead
read_arguments text notes read = printed_arguments notes (are_notes text notes read) (read_names text notes read)
