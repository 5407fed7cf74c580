-- What the fourth pass tells of a draft: which conditions it meets, each of every item.
use Rattle.std.proofs.Common.{◌≡◌, Bool, true, false, length, map, None}
use Rattle.std.specs.Prelude.{IfOk, is_none}
use Rattle.note_types.specs.Limits.{code_limit}
use Rattle.note_types.specs.Records.{Each}
use Rattle.note_draft.specs.declared.draft.NotesDraft.{NotesDraft}
use Rattle.note_draft.specs.declared.draft.PointDraft.{PointDraft}
use Rattle.note_draft.specs.declared.finding.Key.TheVariants as key
use Rattle.note_draft.specs.declared.finding.Refusal.TheVariants as refusals
use Rattle.note_draft.specs.declared.finding.TableList.TheVariants as list
use Rattle.note_draft.specs.declared.tables.NameTables.{NameTables}
use Rattle.note_draft.specs.Findings.{refused}
use Rattle.note_draft.specs.Repeats.{first_descent}
use Rattle.type_notes.specs.Conditions.{conditions, disordered, first_past, first_point, gives_unhanded, has_many_locals, holds_locals}
use Rattle.type_notes.specs.Conditions.{keeps_params, keeps_wants, mislocated, overflows, overfull, params_have_thunks, passes_params}
use Rattle.type_notes.specs.Conditions.{regs_are_local, regs_have_thunks, stack_has_thunks, stack_is_local, stray, takes_unhanded}
use Rattle.type_notes.specs.Conditions.{thunkless, thunkless_points, too_large, unfielded, unhanded, unkept, unmet, unpassed, unreturned}
use Rattle.type_notes.specs.Conditions.{written_is_local}
use Rattle.type_notes.specs.Owners.{first_stray, owner_of}
use Rattle.type_notes.specs.PointLocals.{PointLocals, point_locals}
use Rattle.type_notes.specs.TypeKinds.{is_returned}
use Rattle.type_notes.proofs.ListBounds.{each_fails, each_passes}
use Rattle.type_notes.proofs.NamesFound.{none_sooner, nothing_refused}
use Rattle.type_notes.proofs.OrderLemmas.{neither, nothing-at}
use Rattle.ebc_base.proofs.Given.{ok_then, ok_weaken}

-- each point passes a check of what it names
abbrev pub PointsPass : NameTables → NotesDraft → (PointLocals → PointDraft → Bool) → Type 0
PointsPass t d passes = Each (λ p. passes (point_locals t d p.place) p ≡ true) d.point

-- places ascend, and each point has a function
pub record IsOrdered (d : NotesDraft) : Type 0 where
  pub functions : first_descent (map (λ f. f.place) d.function) ≡ None
  pub points : first_descent (map (λ p. p.place) d.point) ≡ None
  pub sites : first_descent (map (λ s. s.place) d.site) ≡ None
  pub owned : Each (λ p. is_none (owner_of d.function p.place) ≡ false) d.point

-- the conditions on types, on what points name, and on sizes
pub record IsMet (t : NameTables) (d : NotesDraft) : Type 0 where
  pub keeps : Each (λ f. keeps_params f ≡ true) d.function
  pub wants : Each (λ s. keeps_wants s ≡ true) d.signature
  pub takes : Each (λ f. takes_unhanded d.entry f ≡ false) d.function
  pub gives : Each (λ f. gives_unhanded d.entry f ≡ false) d.function
  pub passes : Each (λ f. passes_params f ≡ true) d.function
  pub returns : Each (λ f. is_returned f.result ≡ true) d.function
  pub regs : PointsPass t d regs_are_local
  pub stack : PointsPass t d stack_is_local
  pub written : PointsPass t d written_is_local
  pub param_thunks : Each (λ f. params_have_thunks (length d.thunk) f ≡ true) d.function
  pub reg_thunks : Each (λ p. regs_have_thunks (length d.thunk) p ≡ true) d.point
  pub stack_thunks : Each (λ p. stack_has_thunks (length d.thunk) p ≡ true) d.point
  pub holds : PointsPass t d holds_locals
  pub locals : Each (λ f. has_many_locals t d f ≡ false) d.function
  pub code : first_past (code_limit d.version) d.function ≡ None
  pub need : Each (λ f. overflows d.entry f ≡ false) d.function

points_pass : (t : NameTables) (d : NotesDraft) (passes : PointLocals → PointDraft → Bool) → first_point t d passes ≡ None
    → PointsPass t d passes
unfolding first_point
points_pass t d passes none = each_passes (λ p. passes (point_locals t d p.place) p) d.point none

ordered : (d : NotesDraft) → disordered d ≡ None → stray d ≡ None → IsOrdered d
unfolding first_stray
ordered d nothing owned =
    let functions = neither _ _ nothing in
    let points = neither _ _ functions.1 in
    record {
      functions = nothing-at list.Function key.Place _ functions.0;
      points = nothing-at list.Point key.Place _ points.0;
      sites = nothing-at list.Site key.Place _ points.1;
      owned = each_fails (λ p. is_none (owner_of d.function p.place)) d.point (nothing-at list.Point key.Place _ owned);
    }

met : (t : NameTables) (d : NotesDraft) → unmet t d ≡ None → IsMet t d
unfolding unmet thunkless_points
met t d nothing =
    let kept = neither (unkept d) _ nothing in
    let handed = neither (unhanded d) _ kept.1 in
    let passed = neither (unpassed d) _ handed.1 in
    let returned = neither (unreturned d) _ passed.1 in
    let fielded = neither (unfielded t d) _ returned.1 in
    let thunks = neither (thunkless d) _ fielded.1 in
    let located = neither (mislocated t d) _ thunks.1 in
    let full = neither (overfull t d) (too_large d) located.1 in
    let keeps = neither _ _ kept.0 in
    let hands = none_sooner _ _ handed.0 in
    let regs = none_sooner _ _ fielded.0 in
    let stack = none_sooner _ _ regs.1 in
    let params = neither _ _ thunks.0 in
    let points = none_sooner _ _ params.1 in
    let sizes = neither _ _ full.1 in
    record {
      keeps = each_passes keeps_params d.function (nothing-at list.Function key.Params _ keeps.0);
      wants = each_passes keeps_wants d.signature (nothing-at list.Signature key.Params _ keeps.1);
      takes = each_fails (takes_unhanded d.entry) d.function (nothing-at list.Function key.Params _ hands.0);
      gives = each_fails (gives_unhanded d.entry) d.function (nothing-at list.Function key.Result _ hands.1);
      passes = each_passes passes_params d.function (nothing-at list.Function key.Params _ passed.0);
      returns = each_passes (λ f. is_returned f.result) d.function (nothing-at list.Function key.Result _ returned.0);
      regs = points_pass t d regs_are_local (nothing-at list.Point key.Regs _ regs.0);
      stack = points_pass t d stack_is_local (nothing-at list.Point key.Stack _ stack.0);
      written = points_pass t d written_is_local (nothing-at list.Point key.Written _ stack.1);
      param_thunks = each_passes (params_have_thunks (length d.thunk)) d.function (nothing-at list.Function key.Params _ params.0);
      reg_thunks = each_passes (regs_have_thunks (length d.thunk)) d.point (nothing-at list.Point key.Regs _ points.0);
      stack_thunks = each_passes (stack_has_thunks (length d.thunk)) d.point (nothing-at list.Point key.Stack _ points.1);
      holds = points_pass t d holds_locals (nothing-at list.Point key.Stack _ located.0);
      locals = each_fails (has_many_locals t d) d.function (nothing-at list.Function key.Locals _ full.0);
      code = nothing-at list.Function key.End _ sizes.0;
      need = each_fails (overflows d.entry) d.function (nothing-at list.Function key.Need _ sizes.1);
    }

-- what the fourth pass tells
pub record MeetsConditions (t : NameTables) (d : NotesDraft) : Type 0 where
  pub ordered : IsOrdered d
  pub met : IsMet t d

pub conditions-met : (t : NameTables) (d : NotesDraft) → IfOk (conditions t d) (λ _. MeetsConditions t d)
unfolding conditions
conditions-met t d =
    let P : Unit {0} → Type 0 = λ _. MeetsConditions t d in
    ok_then (λ _. disordered d ≡ None) P (refused refusals.Range (disordered d)) _ (nothing_refused refusals.Range (disordered d))
    (λ _ a. ok_then (λ _. stray d ≡ None) P (refused refusals.Range (stray d)) _ (nothing_refused refusals.Range (stray d))
    (λ _ b. ok_weaken (λ _. unmet t d ≡ None) P (refused refusals.Range (unmet t d)) (nothing_refused refusals.Range (unmet t d))
    (λ _ c. record { ordered = ordered d a b; met = met t d c })))
