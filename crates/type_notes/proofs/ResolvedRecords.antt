-- The shapes, static objects, thunk cells, functions, signatures and sites of a record that notes stand for meet the
-- conditions on notes.
use Rattle.std.proofs.Common.{◌≡◌, ℕ, ◌+◌, ◌*◌, ◌<◌, ◌≤◌, Bool, true, false, List, [], length, map, Option, None, Some, ap, sym, subst, ◌∙◌}
use Rattle.std.proofs.Common.{arith}
use Rattle.std.specs.Prelude.{IfSome, bytes_eq, nat_lt, not, option_map, slice_get, ◌&&◌, ◌||◌}
use Rattle.std.proofs.lemmas.Bool.{ltb-false, not-false, or_right}
use Rattle.std.proofs.lemmas.List.{length-map}
use Rattle.std.proofs.lemmas.Option.{slice_get-map}
use Rattle.note_types.specs.Known.{local_fields}
use Rattle.note_types.specs.Limits.{stack_limit}
use Rattle.note_types.specs.Passing.{IsHandedIn}
use Rattle.note_types.specs.Records.{CanBeEntered, Each, HasNameLength, IsFieldNote, IsFunctionNote, IsParamNote, IsResultNote, IsShapeNote}
use Rattle.note_types.specs.Records.{IsSignatureNote, IsSiteNote, IsStaticNote, IsThunkNote, IsWantNote}
use Rattle.note_types.specs.declared.cell.SlotKind.{SlotKind}
use Rattle.note_types.specs.declared.cell.SlotKind.TheVariants as kind
use Rattle.note_types.specs.declared.notes.FnNote.{FnNote}
use Rattle.note_types.specs.declared.notes.Param.{Param}
use Rattle.note_texts.specs.declared.ty.TypeText.{TypeText}
use Rattle.note_draft.specs.declared.draft.FunctionDraft.{FunctionDraft}
use Rattle.note_draft.specs.declared.draft.NotesDraft.{NotesDraft}
use Rattle.note_draft.specs.declared.draft.ShapeDraft.{ShapeDraft}
use Rattle.note_draft.specs.declared.draft.SignatureDraft.{SignatureDraft}
use Rattle.note_draft.specs.declared.draft.SiteDraft.{SiteDraft}
use Rattle.note_draft.specs.declared.draft.StaticDraft.{StaticDraft}
use Rattle.note_draft.specs.declared.draft.ThunkDraft.{ThunkDraft}
use Rattle.note_draft.specs.declared.tables.NameTables.{NameTables}
use Rattle.note_draft.specs.Known.{knows_cell, knows_locals, knows_result, knows_type, knows_want}
use Rattle.ebc_base.specs.Tables.{is_named, name_number}
use Rattle.type_notes.specs.Conditions.{frame_size, is_entered, is_natural_slot, keeps_param, keeps_want, takes_handed_in}
use Rattle.type_notes.specs.Resolved.{resolved, resolved_field, resolved_function, resolved_locals, resolved_param, resolved_result}
use Rattle.type_notes.specs.Resolved.{resolved_shape, resolved_signature, resolved_site, resolved_static, resolved_thunk}
use Rattle.type_notes.specs.Resolved.{resolved_want_param}
use Rattle.type_notes.specs.TypeKinds.{has_thunk, is_handed_back, is_handed_in, is_kept, is_kept_want, is_passed}
use Rattle.type_notes.proofs.ConditionsMet.{IsMet}
use Rattle.type_notes.proofs.DraftBounds.{IsDraft, methods_of}
use Rattle.type_notes.proofs.ListBounds.{all_pass, each_map}
use Rattle.type_notes.proofs.NameNumbers.{distinct_has, each_distinct, named_item}
use Rattle.type_notes.proofs.NamesFound.{HasNames, KnowsNames}
use Rattle.type_notes.proofs.ResolvedTypes.{cell_known, given, given_fields, given_thunk, handed_back, handed_in, kept, kept_want}
use Rattle.type_notes.proofs.ResolvedTypes.{locals_long, method_there, passed, passed_fields, returned, returned_passes, returned_thunk}
use Rattle.type_notes.proofs.ResolvedTypes.{shape_there, type_known, want_known}
use Rattle.type_notes.proofs.TextBounds.{IsGivenBounded}
use Rattle.ebc_base.proofs.Lists.{found_within}

-- where a slot is natural, what it holds is kept
kept_by : (k : SlotKind) (b : Bool) → (not (is_natural_slot k) || b) ≡ true → k ≡ kind.N → b ≡ true
kept_by kind.N b e n = e
kept_by kind.Q b e n = absurd cc
kept_by kind.D b e n = absurd cc

-- of two tests that don't both pass, the second fails where the first passes
second_fails : (a b : Bool) → a ≡ true → (a && b) ≡ false → b ≡ false
second_fails true b e f = f
second_fails false b e f = absurd cc

module _ (t : NameTables) (d : NotesDraft) (b : IsDraft d) (n : HasNames d t) (w : KnowsNames t d) where
  -- ---- shapes, static objects, thunk cells and sites

  pub shape_note : (k : ℕ) (s : ShapeDraft) → slice_get d.shape k ≡ Some s → IsShapeNote (resolved t d) (resolved_shape t s)
  unfolding resolved_shape resolved_field
  shape_note k s e =
      let h = b.shape.1 k s e in
      let cells = all_pass (λ f. knows_cell t f.cell) s.fields (w.fields k s e) in
      let few : length s.fields ≤ 256 = h.fields.0 in
      let long = length-map s.fields (resolved_field t) in
      record {
        name = h.name;
        units = h.units;
        bytes = h.bytes;
        few = omega arith;
        fields = each_map (IsFieldNote (resolved t d)) (resolved_field t) s.fields
            (λ j x i. let g = h.fields.1 j x i in record {
              name = g.name;
              units = g.units;
              bytes = g.bytes;
              cell = cell_known t d b n x.cell g.cell (cells j x i);
            });
      }

  pub static_note : (k : ℕ) (o : StaticDraft) → slice_get d.statics k ≡ Some o → IsStaticNote (resolved t d) (resolved_static t o)
  unfolding resolved_static
  static_note k o e = let h = b.statics.1 k o e in record {
    place = h.place;
    shape = (shape_there t d b n o.shape (w.statics k o e)).0;
    count = h.count;
  }

  pub functions_long : length (resolved t d).function ≡ length t.function
  unfolding resolved
  functions_long = length-map d.function (resolved_function t) ∙ (sym (length-map d.function (λ f. f.name)) ∙ ap length (sym n.function))

  pub thunk_note : (k : ℕ) (o : ThunkDraft) → slice_get d.thunk k ≡ Some o → IsThunkNote (resolved t d) (resolved_thunk t o)
  unfolding resolved_thunk
  thunk_note k o e =
      let within : name_number o.function t.function < length t.function = found_within (bytes_eq o.function) t.function (w.thunks k o e) in
      let long = functions_long in
      record { place = b.thunk.1 k o e; function = omega arith }

  signatures_long : length (resolved t d).signature ≡ length t.signature
  unfolding resolved
  signatures_long = length-map d.signature (resolved_signature t)
      ∙ (sym (length-map d.signature (λ s. s.name)) ∙ ap length (sym n.signature))

  pub site_note : (k : ℕ) (o : SiteDraft) → slice_get d.site k ≡ Some o → IsSiteNote (resolved t d) (resolved_site t o)
  unfolding resolved_site
  site_note k o e =
      let within : name_number o.signature t.signature < length t.signature =
      found_within (bytes_eq o.signature) t.signature (w.sites k o e) in
      let long = signatures_long in
      record { place = b.site.1 k o e; signature = omega arith }

  -- ---- signatures

  result_note : (o : Option TypeText) → IfSome o IsGivenBounded → knows_result t o ≡ true
      → IfSome (resolved_result t o) (IsResultNote (resolved t d))
  unfolding resolved_result
  result_note None h k = tt
  result_note (Some ty) h k =
      record {
        given = given t [] ty h.1;
        known = λ f. type_known t d b n f [] ty (omega arith) (omega arith) h.0 k (given_fields [] ty h.1)
            (given_thunk (length d.thunk) ty h.1);
      }

  method_known : (k : ℕ) (s : SignatureDraft) → slice_get d.signature k ≡ Some s → is_named s.method t.method ≡ true
  method_known k s e =
      let there : slice_get (methods_of d.signature) k ≡ Some s.method = slice_get-map (λ x. x.method) d.signature k
      ∙ ap (option_map (λ x. x.method)) e in
      subst (λ names. is_named s.method names ≡ true) (sym n.method) (distinct_has (methods_of d.signature) k s.method there)

  pub signature_note : (m : IsMet t d) (k : ℕ) (s : SignatureDraft) → slice_get d.signature k ≡ Some s
      → IsSignatureNote (resolved t d) (resolved_signature t s)
  unfolding resolved_signature resolved_want_param
  signature_note m k s e =
      let h = b.signature.list.1 k s e in
      let keeps = all_pass keeps_want s.params (m.wants k s e) in
      let knows = all_pass (λ p. knows_want t p.want) s.params (w.wants k s e) in
      let few : length s.params ≤ 16 = h.params.0 in
      let long = length-map s.params (resolved_want_param t) in
      record {
        name = h.name;
        method = (method_there t d b n s.method (method_known k s e)).0;
        few = omega arith;
        params = each_map (IsWantNote (resolved t d)) (resolved_want_param t) s.params
            (λ j p i. let g = h.params.1 j p i in
            record {
              kind = g.kind;
              known = want_known t d b n p.want g.want (knows j p i);
              kept = λ is. kept_want t p.want (kept_by p.kind (is_kept_want p.want) (keeps j p i) is);
            });
        result = result_note s.result.ty h.result (w.gives k s e);
      }

  pub method_names-long : Each HasNameLength (resolved t d).methods
  unfolding resolved
  method_names-long = subst (Each HasNameLength) (sym n.method)
      (each_distinct HasNameLength (methods_of d.signature) (each_map HasNameLength (λ s. s.method) d.signature
      (λ k s e. (b.signature.list.1 k s e).method)))

  -- ---- functions

  locals_note : (o : Option (List ℕ)) → knows_locals t o ≡ true → IfSome (resolved_locals t o) (λ s. s < length (resolved t d).shape)
  unfolding resolved_locals
  locals_note None k = tt
  locals_note (Some name) k = (shape_there t d b n name k).0

  module _ (m : IsMet t d) where
    -- a function that the firmware enters
    pub can_be_entered : (k : ℕ) (f : FunctionDraft) → slice_get d.function k ≡ Some f → is_entered d.entry f ≡ true
        → CanBeEntered (resolved_function t f)
    unfolding resolved_function resolved_param
    can_be_entered k f e entered =
        let takes : takes_handed_in f ≡ true = not-false (takes_handed_in f)
        (second_fails (is_entered d.entry f) (not (takes_handed_in f)) entered (m.takes k f e)) in
        let gives : is_handed_back f.result ≡ true = not-false (is_handed_back f.result)
        (second_fails (is_entered d.entry f) (not (is_handed_back f.result)) entered (m.gives k f e)) in
        let small : 9 * frame_size f ≤ stack_limit = ltb-false stack_limit (9 * frame_size f)
        (second_fails (is_entered d.entry f) (nat_lt stack_limit (9 * frame_size f)) entered (m.need k f e)) in
        let each = all_pass (λ p. is_handed_in p.ty) f.params takes in
        let long = length-map f.params (resolved_param t) in
        record {
          takes = each_map (λ (p : Param). IsHandedIn p.ty) (resolved_param t) f.params (λ j p i. handed_in t [] p.ty (each j p i));
          gives = handed_back t [] f.result gives;
          stack = subst (λ z. 9 * (8 * z + 16 + (8 * f.need.n + f.need.c)) ≤ stack_limit) (sym long) small;
        }

    pub function_note : (k : ℕ) (f : FunctionDraft) → slice_get d.function k ≡ Some f
        → IsFunctionNote (resolved t d) (resolved_function t f)
    unfolding resolved_function resolved_param
    function_note k f e =
        let h = b.function.1 k f e in
        let keeps = all_pass keeps_param f.params (m.keeps k f e) in
        let knows = all_pass (λ p. knows_type t p.ty) f.params (w.params k f e) in
        let passes = all_pass (λ p. is_passed p.ty) f.params (m.passes k f e) in
        let thunks = all_pass (λ p. has_thunk (length d.thunk) p.ty) f.params (m.param_thunks k f e) in
        let few : length f.params ≤ 16 = h.params.0 in
        let long = length-map f.params (resolved_param t) in
        let many = ltb-false 64 _ (m.locals k f e) in
        let fields : length (local_fields (resolved t d) (resolved_function t f)) ≤ 64 =
        subst (λ z. z ≤ 64) (sym (locals_long t d b n f)) many in
        record {
          name = h.name;
          place = h.place;
          end = h.end;
          level = h.level;
          need = h.need;
          locals = locals_note f.locals (w.locals k f e);
          fields = fields;
          few = omega arith;
          params = each_map (IsParamNote (resolved t d) (resolved_function t f)) (resolved_param t) f.params
              (λ j p i. let g = h.params.1 j p i in
              record {
                kind = g.kind;
                known = type_known t d b n (resolved_function t f) [] p.ty (omega arith) (omega arith) g.ty (knows j p i)
                    (passed_fields [] p.ty (passes j p i)) (thunks j p i);
                kept = λ is. kept t [] p.ty (kept_by p.kind (is_kept p.ty) (keeps j p i) is);
                passed = passed t [] p.ty (passes j p i);
              });
          result = let r = m.returns k f e in
              type_known t d b n (resolved_function t f) [] f.result (omega arith) (omega arith) h.result (w.results k f e)
              (passed_fields [] f.result (returned_passes f.result r)) (returned_thunk (length d.thunk) f.result r);
          returned = returned t [] f.result (m.returns k f e);
          entered = λ marked. can_be_entered k f e (ap (λ x. x || bytes_eq f.name d.entry) marked);
        }

    -- the entry function
    pub entry_note : (f : FnNote) × (slice_get (resolved t d).function (resolved t d).entry ≡ Some f) × CanBeEntered f
    unfolding resolved
    entry_note = let found = named_item (λ (f : FunctionDraft). f.name) d.function t.function d.entry n.function w.entry in
        let there : slice_get (map (resolved_function t) d.function) (name_number d.entry t.function) ≡ Some (resolved_function t found.0)
        = slice_get-map (resolved_function t) d.function (name_number d.entry t.function)
        ∙ ap (option_map (resolved_function t)) found.1 in (
          resolved_function t found.0,
          there,
          can_be_entered (name_number d.entry t.function) found.0 found.1
              (or_right found.0.enter (bytes_eq found.0.name d.entry) found.2),
        )
