-- The draft of notes with what is printed of points in place of its own points stands for the notes with these points.
use Rattle.point_laws.proofs.Common.{AllByRecursion, Err, function_names, names_of_calls, nothing_refused, points_members, written_is_local}
use Rattle.point_laws.proofs.Common.{ap, at, not, refl, sym, true, ◌∙◌, ◌∷◌, ◌≡◌, ◌≤◌}
use Rattle.point_laws.proofs.Common.{array_at, first_descent, locals_fields, regs_are_local, resolved_point, resolved_thunk, stack_is_local}
use Rattle.point_laws.proofs.Common.{Bool, bytes_eq, CodeLists, number_at, ok_passes, ok_weaken, only_keys, static_of, tables_at, TomlFault}
use Rattle.point_laws.proofs.Common.{call_lists, DraftLists, map, NameTables, NotesDraft, point_draft, point_limit, PointDraft, ◌otherwise◌}
use Rattle.point_laws.proofs.Common.{CallLists, code_lists, data_lists, disordered, draft_keys, Finding, get_member, knows_regs, length-map}
use Rattle.point_laws.proofs.Common.{codes, Each, false, IfOk, known, List, None, once, Point, Some, sooner, stray, subst, unmet, [], ◌>>=◌}
use Rattle.point_laws.proofs.Common.{document, draft_in, draft_of, eqb-true, is_named, notes_in, notes_of, Ok, ok_given, owner_of, point_of}
use Rattle.point_laws.proofs.Common.{draft_lists, first_point, first_stray, function_of, greatest_32, known_names, knows_stack, PointLocals}
use Rattle.point_laws.proofs.Common.{first_repeat, IsStrictlyIncreasing, PrintedPointsAreAccepted, PrintedPointsStand, unknown_in_functions}
use Rattle.point_laws.proofs.Common.{FnNote, length, map-id, nat_eq, ok_then, Option, passes, refused, Result, site_of, text_at, unknown}
use Rattle.point_laws.proofs.Common.{holds_locals, local_fields, names_of_code, names_of_data, point_locals, signatures_at, with_printed, ℕ}
use Rattle.point_laws.proofs.Common.{is_none, is_some, list_at, Members, name_of, neither, ok_next, position, resolved, shape_of, thunk_of}
use Rattle.point_laws.proofs.Common.{IsPointNote, regs_have_thunks, repeats_register, stack_has_thunks, thunkless_points, unknown_in_thunks}
use Rattle.point_laws.proofs.Common.{Notes, repeated_in_points, resolved_function, unknown_in_points, unknown_in_shapes, unknown_in_statics}
use Rattle.point_laws.proofs.NoneAgain.{all_each, each_of, none_again, none_descends, none_fails, none_passes, NoneBy}
use Rattle.point_laws.proofs.PointsRead.{all_known, all_points, all_printed, AllPrinted, are_names, its_fields, locals_once, tables_again}
use Rattle.point_laws.proofs.PointsRead.{here, is_read, IsRead, owned}
use Rattle.point_laws.proofs.PointsResolved.{accepted, has_as_many, IsAccepted}
use Rattle.note_draft.specs.declared.finding.Key.TheVariants as key
use Rattle.note_draft.specs.declared.finding.Refusal.TheVariants as refusals
use Rattle.note_draft.specs.declared.finding.TableList.TheVariants as list
use Rattle.type_notes.specs.Conditions as conditions

-- ---- one point

is_accepted : (d : NotesDraft) (t : NameTables) → IsRead d t → (p : Point) → IsPointNote (resolved t d) p
    → IsAccepted t d (point_draft (resolved t d) p)
unfolding resolved resolved_function
is_accepted d t r p n =
    let o = owned t d p.place n.owner n.there in
    let fs = locals_fields t d o.draft.locals in
    let same = ap (local_fields (resolved t d)) (sym o.same) ∙ its_fields t d o.draft in
    let few : length (local_fields (resolved t d) n.owner) ≤ 64 = (r.notes.functions o.number n.owner o.there).fields in
    let a = are_names d t r n.owner fs same (locals_once d t r o.draft.locals) few in
    subst (λ fl. IsAccepted t d (draft_in (resolved t d) fl p)) (sym (here (resolved t d) p n))
    (accepted d t p n fs a (length-map d.thunk (resolved_thunk t)) (all_known (resolved t d) n.owner p.state.items n.state.slots)
    (ap (λ (l : PointLocals). l.fields) o.locals)
    (ap (λ (l : PointLocals). l.has_locals) o.locals
    ∙ (sym (has_as_many t o.draft.locals) ∙ ap (λ (f : FnNote). is_some f.locals) o.same)) o.held)

abbrev AllAccepted : NameTables → NotesDraft → List Point → Type 0
AllAccepted t d ps = AllByRecursion (λ p. IsAccepted t d (point_draft (resolved t d) p)) ps

all_accepted : (d : NotesDraft) (t : NameTables) → IsRead d t → (ps : List Point) → Each (IsPointNote (resolved t d)) ps
    → AllAccepted t d ps
all_accepted d t r ps h =
    each_of (IsPointNote (resolved t d)) (λ p. IsAccepted t d (point_draft (resolved t d) p)) ps (is_accepted d t r)
    (all_each (IsPointNote (resolved t d)) ps h)

-- ---- what the steps gave without the points

pub ok_with : {A B E : Type 0} (Q : B → Type 0) (a : Result A E) (f : A → Result B E) → ((x : A) → a ≡ Ok x → IfOk (f x) Q)
    → IfOk (a >>= f) Q
ok_with Q (Ok x) f h = h x refl
ok_with Q (Err e) f h = tt

-- where there is none of two findings, there is none of two others
still : (a b x y : Option Finding) → (a ≡ None → b ≡ None) → (x ≡ None → y ≡ None) → (a otherwise x) ≡ None → (b otherwise y) ≡ None
still a b x y first second e = let p = neither a x e in rw (first p.0) (second p.1)

past : (a x y : Option Finding) → (x ≡ None → y ≡ None) → (a otherwise x) ≡ None → (a otherwise y) ≡ None
past a x y = still a a x y (λ e. e)

nothing_at : (kind : _) (part : _) (o : Option ℕ) → o ≡ None → at kind part o ≡ None
unfolding at
nothing_at kind part o e = rw e refl

neither_sooner : (a b : Option Finding) → a ≡ None → b ≡ None → sooner a b ≡ None
unfolding sooner
neither_sooner a b x y = rw (x, y) refl

record IsKnownBy (t : NameTables) (d : NotesDraft) : Type 0 where
  entry : is_named d.entry t.function ≡ true
  names : unknown t d ≡ None

known_gives : (t : NameTables) (d : NotesDraft) → IfOk (known t d) (λ _. IsKnownBy t d)
unfolding known
known_gives t d =
    ok_then (λ _. is_named d.entry t.function ≡ true) (λ _. IsKnownBy t d) (passes (is_named d.entry t.function) _) _
    (ok_passes (is_named d.entry t.function) _)
    (λ _ named. ok_weaken (λ _. unknown t d ≡ None) (λ _. IsKnownBy t d) (refused refusals.Name (unknown t d))
    (nothing_refused refusals.Name (unknown t d)) (λ _ none. record { entry = named; names = none }))

record AreNamed (t : NameTables) (d : NotesDraft) : Type 0 where
  once : once d ≡ Ok t
  known : IsKnownBy t d

names_give : (d : NotesDraft) → IfOk (known_names d) (λ t. AreNamed t d)
unfolding known_names
names_give d =
    ok_with (λ t. AreNamed t d) (once d) _
    (λ t e. ok_then (λ _. IsKnownBy t d) (λ t. AreNamed t d) (known t d) _ (known_gives t d) (λ _ k. record { once = e; known = k }))

-- ---- the steps with them

code_by : (names : Result (List (List ℕ)) TomlFault) (o : Option Finding)
    → IfOk (names >>= λ fs. refused refusals.Twice o >>= λ _. Ok fs) (λ fs. (names >>= λ gs. Ok gs) ≡ Ok fs)
code_by (Ok x) None = refl
code_by (Ok x) (Some f) = tt
code_by (Err e) o = tt

module _ (d : NotesDraft) (t : NameTables) (ps : List Point) (all : AllAccepted t d ps)
    (up : IsStrictlyIncreasing (map (λ (p : Point). p.place) ps)) where
  abbrev draft : Point → PointDraft
  draft p = point_draft (resolved t d) p

  abbrev printed : NotesDraft
  printed = with_printed d t ps

  none_by : (q : PointDraft → Bool) → ((p : PointDraft) → IsAccepted t d p → q p ≡ false) → NoneBy q draft ps
  none_by q h = each_of (λ p. IsAccepted t d (draft p)) (λ p. q (draft p) ≡ false) ps (λ p a. h (draft p) a) all

  no_fault : (q : PointDraft → Bool) → ((p : PointDraft) → IsAccepted t d p → q p ≡ true) → position (λ p. not (q p)) (map draft ps) ≡ None
  no_fault q h = none_fails q draft ps (each_of (λ p. IsAccepted t d (draft p)) (λ p. q (draft p) ≡ true) ps (λ p a. h (draft p) a) all)

  -- places

  places_of : (xs : List Point) → map (λ (p : PointDraft). p.place) (map draft xs) ≡ map (λ (p : Point). p.place) xs
  places_of [] = refl
  places_of (x ∷ xs) = ap (λ ys. x.place ∷ ys) (places_of xs)

  places_up : IsStrictlyIncreasing (map (λ (p : PointDraft). p.place) (map draft ps))
  places_up = subst IsStrictlyIncreasing (sym (places_of ps)) up

  no_repeat : repeated_in_points (map draft ps) ≡ None
  unfolding repeated_in_points
  no_repeat =
      neither_sooner _ _
      (nothing_at _ _ (first_repeat nat_eq (map (λ (p : PointDraft). p.place) (map draft ps)))
      (none_again (λ x. x) nat_eq (map (λ (p : PointDraft). p.place) (map draft ps)) (λ x y e. eqb-true x y e)
      (subst IsStrictlyIncreasing (sym (map-id (map (λ (p : PointDraft). p.place) (map draft ps)))) places_up)))
      (nothing_at _ _ (position repeats_register (map draft ps))
      (none_passes repeats_register draft ps (none_by repeats_register (λ p a. a.regs_once))))

  -- the names that the draft gives

  code_kept : IfOk (names_of_code d) (λ fs. names_of_code printed ≡ Ok fs)
  unfolding names_of_code
  code_kept = rw no_repeat (code_by (function_names d.function) (repeated_in_points d.point))

  once_kept : IfOk (once d) (λ t. once printed ≡ Ok t)
  unfolding once names_of_data names_of_calls
  once_kept =
      let P : NameTables → Type 0 = λ t. once printed ≡ Ok t in
      ok_with P (names_of_data printed) _
      (λ shapes a. ok_then (λ fs. names_of_code printed ≡ Ok fs) P (names_of_code d) _ code_kept
      (λ functions b. ok_with P (names_of_calls printed) _ (λ calls c. rw (a, b, c) refl)))

  -- the names that it uses

  names_found : unknown_in_points t printed ≡ None
  names_found = neither_sooner _ _ (nothing_at list.Point key.Regs _ (no_fault (knows_regs t) (λ p a. a.regs_known)))
      (nothing_at list.Point key.Stack _ (no_fault (knows_stack t) (λ p a. a.stack_known)))

  unknown_kept : unknown t d ≡ None → unknown t printed ≡ None
  unfolding unknown
  unknown_kept = past (unknown_in_shapes t d) _ _ (past (unknown_in_statics t d) _ _ (past (unknown_in_thunks t d) _ _
      (past (unknown_in_functions t d) _ _
      (still (unknown_in_points t d) (unknown_in_points t printed) _ _ (λ e. names_found) (λ e. e)))))

  -- the conditions

  no_point : (q : PointLocals → PointDraft → Bool) → ((p : PointDraft) → IsAccepted t d p → q (point_locals t d p.place) p ≡ true)
      → first_point t printed q ≡ None
  unfolding first_point point_locals locals_fields
  no_point q h = no_fault (λ p. q (point_locals t printed p.place) p) h

  ordered_kept : disordered d ≡ None → disordered printed ≡ None
  ordered_kept =
      let at_points : List PointDraft → Option Finding = λ qs. at list.Point key.Place (first_descent (map (λ q. q.place) qs)) in
      past (at list.Function key.Place (first_descent (map (λ f. f.place) d.function))) _ _
      (still (at_points d.point) (at_points (map draft ps)) _ _
      (λ e. nothing_at list.Point key.Place _ (none_descends (λ (p : PointDraft). p.place) (map draft ps) places_up)) (λ e. e))

  inside_kept : stray printed ≡ None
  unfolding first_stray
  inside_kept = nothing_at _ _ _ (none_passes (λ (p : PointDraft). is_none (owner_of d.function p.place)) draft ps
      (none_by (λ p. is_none (owner_of d.function p.place)) (λ p a. a.owned)))

  thunks_found : thunkless_points (length d.thunk) (map draft ps) ≡ None
  unfolding thunkless_points
  thunks_found = neither_sooner _ _ (nothing_at _ _ _ (no_fault (regs_have_thunks (length d.thunk)) (λ p a. a.regs_thunks)))
      (nothing_at _ _ _ (no_fault (stack_has_thunks (length d.thunk)) (λ p a. a.stack_thunks)))

  fields_found : conditions.unfielded t printed ≡ None
  fields_found =
      neither_sooner _ _ (nothing_at list.Point key.Regs _ (no_point regs_are_local (λ p a. a.regs_local)))
      (neither_sooner _ _ (nothing_at list.Point key.Stack _ (no_point stack_is_local (λ p a. a.stack_local)))
      (nothing_at list.Point key.Written _ (no_point written_is_local (λ p a. a.written_local))))

  met_kept : unmet t d ≡ None → unmet t printed ≡ None
  unfolding unmet locals_fields
  met_kept =
      past (conditions.unkept d) _ _ (past (conditions.unhanded d) _ _ (past (conditions.unpassed d) _ _ (past (conditions.unreturned d) _ _
      (still (conditions.unfielded t d) (conditions.unfielded t printed) _ _ (λ e. fields_found)
      (still (conditions.thunkless d) (conditions.thunkless printed) _ _
      (past (at list.Function key.Params (position (λ f. not (conditions.params_have_thunks (length d.thunk) f)) d.function)) _ _
      (λ e. thunks_found))
      (still (conditions.mislocated t d) (conditions.mislocated t printed) _ _
      (λ e. nothing_at list.Point key.Stack _ (no_point holds_locals (λ p a. a.holds))) (λ e. e)))))))

  conditions_kept : IfOk (conditions.conditions t d) (λ _. conditions.conditions t printed ≡ Ok tt)
  unfolding conditions.conditions
  conditions_kept =
      let P : Unit {0} → Type 0 = λ _. conditions.conditions t printed ≡ Ok tt in
      ok_then (λ _. disordered d ≡ None) P (refused refusals.Range (disordered d)) _ (nothing_refused refusals.Range (disordered d))
      (λ _ first. ok_next P (refused refusals.Range (stray d)) _
      (λ _. ok_weaken (λ _. unmet t d ≡ None) P (refused refusals.Range (unmet t d)) (nothing_refused refusals.Range (unmet t d))
      (λ _ third. rw (ordered_kept first, inside_kept, met_kept third) refl)))

  -- the whole

  names_kept : AreNamed t d → known_names printed ≡ Ok t
  unfolding known_names known
  names_kept n =
      rw (ok_given (λ t. once printed ≡ Ok t) (once d) t n.once once_kept, n.known.entry, unknown_kept n.known.names) refl

  notes_kept : AllPrinted t d ps → resolved t printed ≡ record (resolved t d) { point = ps }
  unfolding resolved resolved_point point_locals locals_fields
  notes_kept h = ap (λ qs. record (resolved t d) { point = qs }) (all_points d t ps h)

  stands : AreNamed t d → conditions.conditions t d ≡ Ok tt → AllPrinted t d ps
      → notes_in printed ≡ Ok (record (resolved t d) { point = ps })
  unfolding notes_in
  stands n m h =
      let met = ok_given (λ _. conditions.conditions t printed ≡ Ok tt) (conditions.conditions t d) tt m conditions_kept in
      rw (names_kept n, met, notes_kept h) refl

pub printed_accepted : PrintedPointsAreAccepted
printed_accepted text d t h ps n up =
    let r = is_read text d t h in
    stands d t ps (all_accepted d t r ps n) up (ok_given (λ t. AreNamed t d) (known_names d) t h.names (names_give d)) h.conditions
    (all_printed d t r ps n)

-- ---- a document of notes with what is printed of points at the key `point` stands for the notes with these points

same_tables : {A : Type 0} (reads : List ℕ → Members → Result A TomlFault) (key : List ℕ) (limit : ℕ) (a b : Members)
    → get_member key a ≡ get_member key b → tables_at reads [] key limit a ≡ tables_at reads [] key limit b
unfolding tables_at list_at array_at
same_tables reads key limit a b e = rw e refl

module _ (old new : Members) (others : (key : List ℕ) → bytes_eq key (codes "point") ≡ false → get_member key new ≡ get_member key old)
    (keys : only_keys [] draft_keys new ≡ Ok tt) (few : ℕ → Type 0) (drafts : List PointDraft)
    (printed : (version : ℕ) → few version → tables_at point_of [] (codes "point") (point_limit version) new ≡ Ok drafts) where
  number_kept : number_at [] (codes "version") 1 2 new ≡ number_at [] (codes "version") 1 2 old
  unfolding number_at
  number_kept = rw (others (codes "version") refl) refl

  entry_kept : text_at name_of [] (codes "entry") new ≡ text_at name_of [] (codes "entry") old
  unfolding text_at
  entry_kept = rw (others (codes "entry") refl) refl

  signatures_kept : signatures_at [] new ≡ signatures_at [] old
  unfolding signatures_at list_at array_at
  signatures_kept = rw (others (codes "signature") refl) refl

  data_kept : data_lists new ≡ data_lists old
  unfolding data_lists
  data_kept =
      rw (
        same_tables shape_of (codes "shape") 1024 new old (others (codes "shape") refl),
        same_tables static_of (codes "static") greatest_32 new old (others (codes "static") refl),
        same_tables thunk_of (codes "thunk") greatest_32 new old (others (codes "thunk") refl),
      ) refl

  points_kept : (version : ℕ) → few version
      → IfOk (code_lists version old) (λ code. code_lists version new ≡ Ok (record code { point = drafts }))
  unfolding code_lists
  points_kept version small =
      let P : CodeLists → Type 0 = λ code. code_lists version new ≡ Ok (record code { point = drafts }) in
      ok_with P (tables_at function_of [] (codes "function") 4096 old) _
      (λ functions a. ok_with P (tables_at point_of [] (codes "point") (point_limit version) old) _
      (λ points b. rw (
        same_tables function_of (codes "function") 4096 new old (others (codes "function") refl) ∙ a,
        printed version small,
      ) refl))

  calls_kept : IfOk (call_lists old) (λ calls. call_lists new ≡ Ok calls)
  unfolding call_lists
  calls_kept =
      let P : CallLists → Type 0 = λ calls. call_lists new ≡ Ok calls in
      ok_with P (signatures_at [] old) _
      (λ signatures a. ok_with P (tables_at site_of [] (codes "site") greatest_32 old) _
      (λ sites b. ok_with P (only_keys [] draft_keys old) _
      (λ _ c. rw (
        signatures_kept ∙ a,
        same_tables site_of (codes "site") greatest_32 new old (others (codes "site") refl) ∙ b,
        keys,
      ) refl)))

  lists_kept : (version : ℕ) → few version → IfOk (draft_lists version old)
      (λ lists. draft_lists version new ≡ Ok (record lists { code = record lists.code { point = drafts } }))
  unfolding draft_lists
  lists_kept version small =
      let P : DraftLists → Type 0 = λ lists. draft_lists version new ≡ Ok (record lists { code = record lists.code { point = drafts } }) in
      ok_with P (data_lists old) _
      (λ things a. ok_then (λ code. code_lists version new ≡ Ok (record code { point = drafts })) P (code_lists version old) _
      (points_kept version small)
      (λ code b. ok_then (λ calls. call_lists new ≡ Ok calls) P (call_lists old) _ calls_kept
      (λ calls c. rw (data_kept ∙ a, b, c) refl)))

  version_read : IfOk (draft_of old) (λ d. number_at [] (codes "version") 1 2 old ≡ Ok d.version)
  unfolding draft_of
  version_read =
      let P : NotesDraft → Type 0 = λ d. number_at [] (codes "version") 1 2 old ≡ Ok d.version in
      ok_with P (number_at [] (codes "version") 1 2 old) _
      (λ version a. search ok_next)

  draft_kept : (v : ℕ) → number_at [] (codes "version") 1 2 old ≡ Ok v → few v
      → IfOk (draft_of old) (λ d. draft_of new ≡ Ok (record d { point = drafts }))
  unfolding draft_of
  draft_kept v at small =
      let P : NotesDraft → Type 0 = λ d. draft_of new ≡ Ok (record d { point = drafts }) in
      rw at
      (ok_with P (text_at name_of [] (codes "entry") old) _
      (λ entry b. ok_then (λ lists. draft_lists v new ≡ Ok (record lists { code = record lists.code { point = drafts } })) P
      (draft_lists v old) _ (lists_kept v small)
      (λ lists c. rw (number_kept ∙ at, entry_kept ∙ b, c) refl)))

stands_for : (text : List ℕ) (ms : Members) (q : NotesDraft) (notes : Notes) → document text ≡ Ok ms → draft_of ms ≡ Ok q
    → notes_in q ≡ Ok notes → notes_of text ≡ Ok notes
unfolding notes_of
stands_for text ms q notes a b c = rw (a, b, c) refl

pub printed_stand : PrintedPointsStand
printed_stand text next d t h ps n up few new read has =
    let notes = resolved t d in
    let drafts = map (point_draft notes) ps in
    let small : ℕ → Type 0 = λ version. length ps ≤ point_limit version in
    let lists : (version : ℕ) → small version → tables_at point_of [] (codes "point") (point_limit version) new ≡ Ok drafts =
    λ version room. same_tables point_of (codes "point") (point_limit version) new (points_members notes ps) has.list
    ∙ tables_again d t ps (point_limit version) (all_printed d t (is_read text d t h) ps n) room in
    let version = ok_given (λ (q : NotesDraft). number_at [] (codes "version") 1 2 h.members ≡ Ok q.version) (draft_of h.members) d h.draft
    (version_read h.members new has.others has.keys small drafts lists) in
    let draft = ok_given (λ (q : NotesDraft). draft_of new ≡ Ok (record q { point = drafts })) (draft_of h.members) d h.draft
    (draft_kept h.members new has.others has.keys small drafts lists d.version version few) in
    stands_for next new (with_printed d t ps) _ read draft (printed_accepted text d t h ps n up)
