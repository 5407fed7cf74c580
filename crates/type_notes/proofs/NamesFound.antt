-- What the second pass and the third tell of a draft: which names it gives, and that each name that it uses is there.
use Rattle.std.proofs.Common.{◌≡◌, ℕ, Bool, true, false, List, map, cond, Option, None, Some, refl}
use Rattle.std.specs.Prelude.{IfOk, codes, nat_le}
use Rattle.ebc_base.specs.Steps.{passes}
use Rattle.note_types.specs.declared.fault.TomlFault.TheVariants.{Name}
use Rattle.note_types.specs.Records.{Each}
use Rattle.note_draft.specs.declared.draft.NotesDraft.{NotesDraft}
use Rattle.note_draft.specs.declared.finding.Finding.{Finding}
use Rattle.note_draft.specs.declared.finding.Key.TheVariants as key
use Rattle.note_draft.specs.declared.finding.Refusal.{Refusal}
use Rattle.note_draft.specs.declared.finding.Refusal.TheVariants as refusals
use Rattle.note_draft.specs.declared.finding.TableList.TheVariants as list
use Rattle.note_draft.specs.declared.once.CallNames.{CallNames}
use Rattle.note_draft.specs.declared.tables.NameTables.{NameTables}
use Rattle.note_draft.specs.Findings.{refused, sooner}
use Rattle.note_draft.specs.Known.{known, knows_fields, knows_locals, knows_params, knows_regs, knows_result, knows_stack, knows_type}
use Rattle.note_draft.specs.Known.{knows_wants, unknown, unknown_in_functions, unknown_in_points, unknown_in_shapes, unknown_in_signatures}
use Rattle.note_draft.specs.Known.{unknown_in_sites, unknown_in_statics, unknown_in_thunks}
use Rattle.ebc_base.specs.Tables.{is_named}
use Rattle.note_draft.specs.Once.{function_names, method_names, names_of_calls, names_of_code, names_of_data, once}
use Rattle.note_draft.specs.Once.{repeated_in_functions, repeated_in_points, repeated_in_shapes, repeated_in_signatures}
use Rattle.note_draft.specs.Once.{repeated_place_in, shape_names, signature_names}
use Rattle.type_notes.proofs.ListBounds.{each_passes}
use Rattle.type_notes.proofs.OrderLemmas.{neither, nothing-at}
use Rattle.type_notes.proofs.Outcomes.{ok_passes}
use Rattle.ebc_base.proofs.Given.{ok_then, ok_next, ok_weaken}

-- ---- findings

pub nothing_refused : (refusal : Refusal) (found : Option Finding) → IfOk (refused refusal found) (λ _. found ≡ None)
nothing_refused refusal None = refl
nothing_refused refusal (Some f) = tt

one_of : (b : Bool) (x y : Finding) → cond b (Some x) (Some y) ≡ None → ⊥
one_of true x y e = cc
one_of false x y e = cc

pub none_sooner : (a b : Option Finding) → sooner a b ≡ None → (a ≡ None) × (b ≡ None)
unfolding sooner
none_sooner None b e = (refl, e)
none_sooner (Some f) None e = absurd cc
none_sooner (Some f) (Some g) e = absurd (one_of (nat_le f.item g.item) f g e)

-- ---- the names that a draft gives

pub record HasNames (d : NotesDraft) (t : NameTables) : Type 0 where
  pub shape : t.shape ≡ map (λ s. s.name) d.shape
  pub function : t.function ≡ map (λ f. f.name) d.function
  pub signature : t.signature ≡ map (λ s. s.name) d.signature
  pub method : t.method ≡ method_names d.signature

shapes_named : (d : NotesDraft) → IfOk (names_of_data d) (λ names. names ≡ map (λ s. s.name) d.shape)
unfolding names_of_data
shapes_named d =
    let P : List (List ℕ) → Type 0 = λ names. names ≡ map (λ s. s.name) d.shape in
    ok_then P P (shape_names d.shape) _ (ok_next P (refused refusals.Twice (repeated_in_shapes d.shape)) _ (λ _. refl))
    (λ names e. ok_next P (refused refusals.Twice (repeated_place_in list.Static (map (λ o. o.place) d.statics))) _
    (λ _. ok_next P (refused refusals.Twice (repeated_place_in list.Thunk (map (λ o. o.place) d.thunk))) _ (λ _. e)))

functions_named : (d : NotesDraft) → IfOk (names_of_code d) (λ names. names ≡ map (λ f. f.name) d.function)
unfolding names_of_code
functions_named d =
    let P : List (List ℕ) → Type 0 = λ names. names ≡ map (λ f. f.name) d.function in
    ok_then P P (function_names d.function) _ (ok_next P (refused refusals.Twice (repeated_in_functions d.function)) _ (λ _. refl))
    (λ names e. ok_next P (refused refusals.Twice (repeated_in_points d.point)) _ (λ _. e))

record AreCallNames (d : NotesDraft) (calls : CallNames) : Type 0 where
  pub signature : calls.signature ≡ map (λ s. s.name) d.signature
  pub method : calls.method ≡ method_names d.signature

calls_named : (d : NotesDraft) → IfOk (names_of_calls d) (AreCallNames d)
unfolding names_of_calls
calls_named d =
    let P : List (List ℕ) → Type 0 = λ names. names ≡ map (λ s. s.name) d.signature in
    let Q : CallNames → Type 0 = AreCallNames d in
    ok_then P Q (signature_names d.signature) _ (ok_next P (refused refusals.Twice (repeated_in_signatures d.signature)) _ (λ _. refl))
    (λ names e. ok_next Q (refused refusals.Twice (repeated_place_in list.Site (map (λ s. s.place) d.site))) _
    (λ _. record { signature = e; method = refl }))

pub once-names : (d : NotesDraft) → IfOk (once d) (HasNames d)
unfolding once
once-names d =
    let S : List (List ℕ) → Type 0 = λ names. names ≡ map (λ s. s.name) d.shape in
    let F : List (List ℕ) → Type 0 = λ names. names ≡ map (λ f. f.name) d.function in
    ok_then S (HasNames d) (names_of_data d) _ (shapes_named d)
    (λ shapes a. ok_then F (HasNames d) (names_of_code d) _ (functions_named d)
    (λ functions b. ok_then (AreCallNames d) (HasNames d) (names_of_calls d) _ (calls_named d)
    (λ calls c. record { shape = a; function = b; signature = c.signature; method = c.method })))

-- ---- the names that a draft uses

pub record KnowsNames (t : NameTables) (d : NotesDraft) : Type 0 where
  pub entry : is_named d.entry t.function ≡ true
  pub fields : Each (λ s. knows_fields t s ≡ true) d.shape
  pub statics : Each (λ o. is_named o.shape t.shape ≡ true) d.statics
  pub thunks : Each (λ o. is_named o.function t.function ≡ true) d.thunk
  pub locals : Each (λ f. knows_locals t f.locals ≡ true) d.function
  pub params : Each (λ f. knows_params t f ≡ true) d.function
  pub results : Each (λ f. knows_type t f.result ≡ true) d.function
  pub regs : Each (λ p. knows_regs t p ≡ true) d.point
  pub stacks : Each (λ p. knows_stack t p ≡ true) d.point
  pub wants : Each (λ s. knows_wants t s ≡ true) d.signature
  pub gives : Each (λ s. knows_result t s.result.ty ≡ true) d.signature
  pub sites : Each (λ s. is_named s.signature t.signature ≡ true) d.site

all_known : (t : NameTables) (d : NotesDraft) → is_named d.entry t.function ≡ true → unknown t d ≡ None → KnowsNames t d
unfolding unknown
all_known t d named nothing =
    let shapes = neither (unknown_in_shapes t d) _ nothing in
    let statics = neither (unknown_in_statics t d) _ shapes.1 in
    let thunks = neither (unknown_in_thunks t d) _ statics.1 in
    let functions = neither (unknown_in_functions t d) _ thunks.1 in
    let points = neither (unknown_in_points t d) _ functions.1 in
    let signatures = neither (unknown_in_signatures t d) (unknown_in_sites t d) points.1 in
    let locals = none_sooner _ _ functions.0 in
    let params = none_sooner _ _ locals.1 in
    let regs = none_sooner _ _ points.0 in
    let wants = none_sooner _ _ signatures.0 in
    record {
      entry = named;
      fields = each_passes (knows_fields t) d.shape (nothing-at list.Shape key.Fields _ shapes.0);
      statics = each_passes (λ o. is_named o.shape t.shape) d.statics (nothing-at list.Static key.Shape _ statics.0);
      thunks = each_passes (λ o. is_named o.function t.function) d.thunk (nothing-at list.Thunk key.Function _ thunks.0);
      locals = each_passes (λ f. knows_locals t f.locals) d.function (nothing-at list.Function key.Locals _ locals.0);
      params = each_passes (knows_params t) d.function (nothing-at list.Function key.Params _ params.0);
      results = each_passes (λ f. knows_type t f.result) d.function (nothing-at list.Function key.Result _ params.1);
      regs = each_passes (knows_regs t) d.point (nothing-at list.Point key.Regs _ regs.0);
      stacks = each_passes (knows_stack t) d.point (nothing-at list.Point key.Stack _ regs.1);
      wants = each_passes (knows_wants t) d.signature (nothing-at list.Signature key.Params _ wants.0);
      gives = each_passes (λ s. knows_result t s.result.ty) d.signature (nothing-at list.Signature key.Result _ wants.1);
      sites = each_passes (λ s. is_named s.signature t.signature) d.site (nothing-at list.Site key.Signature _ signatures.1);
    }

pub known-names : (t : NameTables) (d : NotesDraft) → IfOk (known t d) (λ _. KnowsNames t d)
unfolding known
known-names t d =
    let P : Unit {0} → Type 0 = λ _. KnowsNames t d in
    ok_then (λ _. is_named d.entry t.function ≡ true) P (passes (is_named d.entry t.function) (Name (codes "entry"))) _
    (ok_passes (is_named d.entry t.function) (Name (codes "entry")))
    (λ _ named. ok_weaken (λ _. unknown t d ≡ None) P (refused refusals.Name (unknown t d)) (nothing_refused refusals.Name (unknown t d))
    (λ _ nothing. all_known t d named nothing))
