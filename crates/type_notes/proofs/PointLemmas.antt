-- What points may name, one point after the other.
use Rattle.std.proofs.Common.{◌≡◌, Bool, false, ℕ, zero, suc, ◌+◌, ◌≤◌, ◌<◌, List, [], ◌∷◌, length, map, get_or, take, ◌++◌, Some, None}
use Rattle.std.proofs.Common.{refl, sym, subst, ap, arith}
use Rattle.std.proofs.lemmas.List.{map-append, take_more}
use Rattle.note_texts.specs.declared.cell.FieldText.{FieldText}
use Rattle.note_draft.specs.declared.draft.FunctionDraft.{FunctionDraft}
use Rattle.note_draft.specs.declared.draft.NotesDraft.{NotesDraft}
use Rattle.note_draft.specs.declared.draft.PointDraft.{PointDraft}
use Rattle.note_draft.specs.declared.tables.NameTables.{NameTables}
use Rattle.std.specs.Prelude.{not}
use Rattle.std.specs.List.{position}
use Rattle.type_notes.proofs.SearchLaws.{NoneBelow, position-here, position-never}
use Rattle.type_notes.specs.Conditions.{first_point}
use Rattle.type_notes.specs.PointLocals.{PointLocals, point_locals, locals_of_function}
use Rattle.type_notes.specs.Owners.{AreOwners}
use Rattle.type_notes.specs.Owners.{owner_of}
use Rattle.type_notes.specs.Resolved.{resolved_point, state_of}
use Rattle.note_types.specs.declared.notes.Point.{Point}
use Rattle.note_types.specs.declared.state.State.{State}

-- the owner at a number is that of the point at the number
pub owner-here : (fs : List FunctionDraft) (ps : List PointDraft) (owners : List ℕ) (i : ℕ) (p : PointDraft) → AreOwners fs ps owners
    → i < length ps
    → p ≡ get_or ps i p → owner_of fs p.place ≡ Some (get_or owners i 0)
owner-here fs [] owners i p own lt point = absurd (omega arith)
owner-here fs (q ∷ ps) [] i p own lt point = cc
owner-here fs (q ∷ ps) (o ∷ owners) zero p own lt point = rw point cc
owner-here fs (q ∷ ps) (o ∷ owners) (suc i) p own lt point =
    let rest : map Some owners ≡ map (λ p. owner_of fs p.place) ps = cc in
    let within : i < length ps = omega arith in
    owner-here fs ps owners i p rest within point

-- what a point may name is told by the number of its function
pub locals-owner : (t : NameTables) (d : NotesDraft) (place o : ℕ) → owner_of d.function place ≡ Some o
    → point_locals t d place ≡ locals_of_function t d o
unfolding point_locals locals_of_function
locals-owner t d place o own = rw own refl

-- what a check says by what the number of the function tells
pub test-here : (t : NameTables) (d : NotesDraft) (passes : PointLocals → PointDraft → Bool) (i : ℕ) (ps : List PointDraft)
    (owners : List ℕ) (p : PointDraft) (b : Bool) (fields : List FieldText) (found : Bool)
    → AreOwners d.function ps owners → i < length ps → p ≡ get_or ps i p
    → b ≡ (locals_of_function t d (get_or owners i 0)).has_locals → fields ≡ (locals_of_function t d (get_or owners i 0)).fields
    → found ≡ passes (record { has_locals = b; fields = fields }) p → passes (point_locals t d p.place) p ≡ found
test-here t d passes i ps owners p b fields found own lt point locals same given =
    let owner : owner_of d.function p.place ≡ Some (get_or owners i 0) = owner-here d.function ps owners i p own lt point in
    let home : point_locals t d p.place ≡ locals_of_function t d (get_or owners i 0) = locals-owner t d p.place (get_or owners i 0) owner in
    rw home (sym (rw (locals, same) at given))

-- a condition that fails at some point, none before it, and one that fails at none
pub first_point-some : (t : NameTables) (d : NotesDraft) (passes : PointLocals → PointDraft → Bool) (i : ℕ) (ps : List PointDraft)
    (p : PointDraft) → ps ≡ d.point → i < length ps → p ≡ get_or ps i p
    → passes (point_locals t d p.place) p ≡ false → NoneBelow (λ q. not (passes (point_locals t d q.place) q)) ps i
    → first_point t d passes ≡ Some i
unfolding first_point
first_point-some t d passes i ps p points within is fails before =
    let found : position (λ q. not (passes (point_locals t d q.place) q)) ps ≡ Some i =
    position-here (λ q. not (passes (point_locals t d q.place) q)) ps i p within is (ap not fails) before in
    subst (λ qs. position (λ q. not (passes (point_locals t d q.place) q)) qs ≡ Some i) points found

pub first_point-none : (t : NameTables) (d : NotesDraft) (passes : PointLocals → PointDraft → Bool) (i : ℕ) (ps : List PointDraft)
    → ps ≡ d.point → length ps ≤ i
    → NoneBelow (λ q. not (passes (point_locals t d q.place) q)) ps i → first_point t d passes ≡ None
unfolding first_point
first_point-none t d passes i ps points covers before =
    let never : position (λ q. not (passes (point_locals t d q.place) q)) ps ≡ None =
    position-never (λ q. not (passes (point_locals t d q.place) q)) ps i covers before in
    subst (λ qs. position (λ q. not (passes (point_locals t d q.place) q)) qs ≡ None) points never

-- the point that a draft of one is, with the state that the number of its function gives
pub point-resolved : (t : NameTables) (d : NotesDraft) (i : ℕ) (ps : List PointDraft) (owners : List ℕ) (p : PointDraft)
    (fields : List FieldText) (state : State)
    → AreOwners d.function ps owners → i < length ps → p ≡ get_or ps i p → fields ≡ (locals_of_function t d (get_or owners i 0)).fields
    → state ≡ state_of t fields p → record { place = p.place; state = state } ≡ resolved_point t d p
unfolding resolved_point
point-resolved t d i ps owners p fields state own lt point same given =
    let owner : owner_of d.function p.place ≡ Some (get_or owners i 0) = owner-here d.function ps owners i p own lt point in
    let home : point_locals t d p.place ≡ locals_of_function t d (get_or owners i 0) = locals-owner t d p.place (get_or owners i 0) owner in
    rw (given, same, home) refl

-- one more point
pub points-more : (f : PointDraft → Point) (ps : List PointDraft) (i : ℕ) (p : PointDraft) (done : List Point) (x : Point) → i < length ps
    → p ≡ get_or ps i p → x ≡ f p
    → done ≡ map f (take i ps) → done ++ x ∷ [] ≡ map f (take (i + 1) ps)
points-more f ps i p done x lt point is so_far = rw (so_far, is, take_more ps i p lt, ← point) (sym (map-append f (take i ps) (p ∷ [])))
