-- Reading the tables of signatures one after the other, as a loop does, the methods that they name, and what goes on with a
-- reading that is refused.
use Rattle.std.proofs.Common.{◌≡◌, ℕ, ◌+◌, ◌-◌, ◌^◌, ◌≤◌, ◌<◌, List, [], ◌∷◌, ◌++◌, length, map, get_or, drop, Result, Ok, Err, refl, sym}
use Rattle.std.proofs.Common.{ap, ◌∙◌, append_assoc, arith}
use Rattle.std.proofs.lemmas.List.{append-nil, length-map, map-append}
use Rattle.std.proofs.lemmas.Grind.{common_steps}
use Rattle.toml.specs.declared.value.Value.{Value}
use Rattle.toml.specs.View.{view, items_view}
use Rattle.toml.proofs.Views.{items_view-drop}
use Rattle.note_types.specs.declared.fault.TomlFault.{TomlFault}
use Rattle.note_types.specs.declared.fault.NotesEnd.{NotesEnd}
use Rattle.note_types.specs.declared.fault.NotesEnd.TheVariants as ends
use Rattle.ebc_base.specs.Steps.{◌>>=◌}
use Rattle.note_texts.specs.Outcome.{Fails}
use Rattle.note_draft.specs.declared.draft.SignatureDraft.{SignatureDraft}
use Rattle.ebc_base.specs.Tables.{with_name}
use Rattle.note_draft.specs.Names.{distinct}
use Rattle.note_draft.specs.Drafts.{signature_in, signatures_from}
use Rattle.note_draft.proofs.DistinctLaws.{distinct-push, length-distinct}

-- ---- the methods of signatures

-- the methods in their order
abbrev pub methods_of : List SignatureDraft → List (List ℕ)
methods_of signatures = map (λ s. s.method) signatures

-- one signature more
pub method_names-push : (names after : List (List ℕ)) (front : List SignatureDraft) (s : SignatureDraft)
    → names ≡ distinct (methods_of front) → after ≡ with_name s.method names → after ≡ distinct (methods_of (front ++ s ∷ []))
method_names-push names after front s so_far added =
    added ∙ (ap (with_name s.method) so_far ∙ (sym (distinct-push (methods_of front) s.method)
    ∙ ap distinct (sym (map-append (λ x. x.method) front (s ∷ [])))))

-- there is room for one name more
pub method_names-room : (names : List (List ℕ)) (front : List SignatureDraft) → names ≡ distinct (methods_of front)
    → length front + 1 < 2 ^ 32 → length names < 2 ^ 32 - 1
method_names-room names front so_far few =
    let a : length (distinct (methods_of front)) ≤ length (methods_of front) = length-distinct (methods_of front) in
    let b : length (methods_of front) ≡ length front = length-map front (λ s. s.method) in
    rw so_far (omega arith)

-- ---- the tables

-- what was read before, and what is still read
abbrev pub with_front : List SignatureDraft → Result (List SignatureDraft) TomlFault → Result (List SignatureDraft) TomlFault
with_front front read = read >>= λ rest. Ok (front ++ rest)

none_before : (read : Result (List SignatureDraft) TomlFault) → with_front [] read ≡ read
none_before (Ok r) = refl
none_before (Err f) = refl

regroup : (front : List SignatureDraft) (x : SignatureDraft) (read : Result (List SignatureDraft) TomlFault)
    → with_front front (read >>= λ rest. Ok (x ∷ rest)) ≡ with_front (front ++ x ∷ []) read
regroup front x (Ok r) = ap Ok (simp append_assoc)
regroup front x (Err f) = refl

-- what is still to be read after some signatures
abbrev pub still : List SignatureDraft → List ℕ → ℕ → List Value → Result (List SignatureDraft) TomlFault
still front path i vs = with_front front (signatures_from (methods_of front) path i (items_view (drop i vs)))

pub signatures-init : (path : List ℕ) (vs : List Value) → still [] path 0 vs ≡ signatures_from [] path 0 (items_view vs)
signatures-init path vs = none_before (signatures_from [] path 0 (items_view vs))

pub signatures-go_on : (path : List ℕ) (front : List SignatureDraft) (i : ℕ) (vs : List Value) (v : Value) (x : SignatureDraft)
    (total : Result (List SignatureDraft) TomlFault) → i < length vs → v ≡ get_or vs i v
    → signature_in (distinct (methods_of front)) path i (view v) ≡ Ok x
    → still front path i vs ≡ total → still (front ++ x ∷ []) path (i + 1) vs ≡ total
unfolding signatures_from
signatures-go_on path front i vs v x total lt same h so_far =
    let one : still front path i vs ≡ with_front (front ++ x ∷ [])
    (signatures_from (methods_of front ++ x.method ∷ []) path (i + 1) (items_view (drop (i + 1) vs)))
    = rw (items_view-drop vs i v lt, ← same, h) (regroup front x
    (signatures_from (methods_of front ++ x.method ∷ []) path (i + 1) (items_view (drop (i + 1) vs)))) in
    ap (λ before. with_front (front ++ x ∷ []) (signatures_from before path (i + 1) (items_view (drop (i + 1) vs))))
    (map-append (λ s. s.method) front (x ∷ [])) ∙ (sym one ∙ so_far)

pub signatures-stop : (e : NotesEnd) (path : List ℕ) (front : List SignatureDraft) (i : ℕ) (vs : List Value) (v : Value)
    (total : Result (List SignatureDraft) TomlFault) → i < length vs → v ≡ get_or vs i v
    → Fails e (signature_in (distinct (methods_of front)) path i (view v))
    → still front path i vs ≡ total → Fails e total
unfolding signatures_from
signatures-stop ends.NoMemory path front i vs v total lt same h so_far = tt
signatures-stop (ends.Fault f) path front i vs v total lt same h so_far =
    let one : still front path i vs ≡ Err f = rw (items_view-drop vs i v lt, ← same, h) refl in
    sym so_far ∙ one

pub signatures-done : (path : List ℕ) (front : List SignatureDraft) (i : ℕ) (vs : List Value)
    (total : Result (List SignatureDraft) TomlFault) → length vs ≤ i
    → still front path i vs ≡ total → total ≡ Ok front
unfolding signatures_from
signatures-done path front i vs total past so_far =
    let none : drop i vs ≡ [] = grind (arith, common_steps) in
    let one : still front path i vs ≡ Ok front = rw none (ap Ok (append-nil front)) in
    sym so_far ∙ one
