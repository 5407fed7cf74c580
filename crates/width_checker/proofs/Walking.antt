-- The walk through a function: what holds where the checker stands, and after an instruction.
use Rattle.width_checker.proofs.Common.{◌≡◌, ℕ, zero, suc, ◌+◌, ◌<◌, ◌≤◌, ◌↔◌, length, refl, sym, ap, subst, ◌∙◌, ⊎_elim, arith, Bool}
use Rattle.width_checker.proofs.Common.{IsTrue, Option, None, Some, Ok, Err, slice_get, cases_lt, none-some, same_Some, Insn, FnNote, Notes}
use Rattle.width_checker.proofs.Common.{State, Image, RuleName, IsFirst, IsDecoded, reloc_at, Successors, successors_from, Leads, Comes}
use Rattle.width_checker.proofs.Common.{IsBefore, StateAt, here_at, row_of, BelowHolds, EntryBelow, IsBelowPoint, MeetsRules, Typed}
use Rattle.width_checker.proofs.Common.{FailsAt, HasState, RefusesInsn, Arrives, ComesTo, FunctionsMeet, PointsFrom, RelocsFrom, only_if}
use Rattle.std.specs.Prelude.{true, false}
use Rattle.std.proofs.lemmas.Option.{slice_get_within, some_pair_parts}
use Rattle.note_types.specs.Notes.{entry_state}
use Rattle.rules_base.specs.declared.here.Here.{Here}
use Rattle.rules_base.specs.Outcomes.{gives_map}
use Rattle.rules_image.specs.{Images.IsFunction, Places.IsPlaceOf}
use Rattle.rules_image.specs.declared.marks.Marks.{Marks}
use Rattle.width_checker.specs.declared.{row.Path.Path, refusal.Refusal.Refusal}
use Rattle.width_checker.specs.{Paths.does_fall, Typed.LeadsBelow, Typed.TablesHold, Walks.AllMeetBelow, Walks.FailsIn, Walks.Passes}
use Rattle.width_checker.specs.Walks.{StandsAt}
use Rattle.width_checker.proofs.{Deciding.function_before, Deciding.place_within, Leading.OnePoint, Leading.decode_later, Leading.leads_of}
use Rattle.width_checker.proofs.Leading.{places_before, start_by_none, start_first, state_of}
use Rattle.width_checker.specs.declared.row.Path.TheVariants as path

come_some : (b : Bool) (s t : State) → only_if b s ≡ Some t → (b ≡ true) × (s ≡ t)
come_some true s t e = (refl, same_Some s t e)
come_some false s t e = absurd (none-some t e)

pub come_true : (b : Bool) (s : State) → b ≡ true → only_if b s ≡ Some s
come_true b s e = rw e refl

pub come_false : (b : Bool) (s : State) → b ≡ false → only_if b s ≡ None
come_false b s e = rw e refl

module _ (image : Image) (notes : Notes) (func : ℕ) (f : FnNote) (at : ℕ) (c after : Option State) (comes : ComesTo image notes func f at c)
    (arrives : Arrives notes at c after) where
  pub state_there : (s : State) → after ≡ Some s → StateAt image notes func f at s
  state_there s e = record { count = comes.0; come = c; comes = comes.1; before = (arrives s).0 e }

  pub none_there : OnePoint notes → after ≡ None → ¬ HasState image notes func f at
  none_there one e has =
      let s : State = has.0 in
      none-some s (sym e ∙ (arrives s).1 (state_of image notes func f one comes.0 at c comes.1 s has.1))

-- the state at a function's start is its entry state
start_state : (image : Image) (notes : Notes) (func : ℕ) (f : FnNote) (n at : ℕ) (c : Option State) → Comes image notes func f n at c
    → at ≡ f.place → c ≡ Some (entry_state notes func)
unfolding Comes
start_state image notes func f n at c h e =
    let leads : Leads image f n f.place = subst (Leads image f n) e (leads_of image notes func f n at c h) in
    let none : n ≡ 0 = start_by_none image f n leads in
    let first : Comes image notes func f 0 at c = subst (λ k. Comes image notes func f k at c) none h in
    first.1

pub entry_below : (image : Image) (notes : Notes) (func : ℕ) (f : FnNote) (at : ℕ) (b : Bool) (s : State)
    → ComesTo image notes func f at (only_if b s) → IsBelowPoint notes at s → EntryBelow notes func f at
entry_below image notes func f at b s comes below e =
    let start : only_if b s ≡ Some (entry_state notes func) = start_state image notes func f comes.0 at (only_if b s) comes.1 e in
    subst (IsBelowPoint notes at) (come_some b s (entry_state notes func) start).1 below

pub entry_not_below : (image : Image) (notes : Notes) (func : ℕ) (f : FnNote) (at next : ℕ) (x : Successors) (b : Bool) (s : State)
    → ComesTo image notes func f at (only_if b s) → at ≡ f.place
    → (IsBelowPoint notes at s → ⊥) → BelowHolds notes func f at next x → ⊥
entry_not_below image notes func f at next x b s comes e bad h =
    let start : only_if b s ≡ Some (entry_state notes func) = start_state image notes func f comes.0 at (only_if b s) comes.1 e in
    bad (subst (IsBelowPoint notes at) (sym (come_some b s (entry_state notes func) start).1) (h.entry e))

fall_of : (s t : State) (p : Path) → only_if (does_fall p) s ≡ (successors_from s t p).fall
fall_of s t path.Falls = refl
fall_of s t (path.Goes place) = refl
fall_of s t (path.Parts place) = refl
fall_of s t path.Ends = refl

-- ---- where the states that an instruction leads to are below those of the points there

pub leads_falls : (notes : Notes) (next : ℕ) (s taken : State) (b : Bool) → (IsTrue b ↔ IsBelowPoint notes next s) → IsTrue b
    ↔ LeadsBelow notes next (successors_from s taken path.Falls)
leads_falls notes next s taken b h = (
  λ t. record { fall = λ x e. subst (IsBelowPoint notes next) (same_Some s x e) (h.0 t); jump = λ p x e. absurd (none-some _ e) },
  λ l. h.1 (l.fall s refl),
)

pub leads_goes : (notes : Notes) (next place : ℕ) (s taken : State) (b : Bool) → (IsTrue b ↔ IsBelowPoint notes place s) → IsTrue b
    ↔ LeadsBelow notes next (successors_from s taken (path.Goes place))
leads_goes notes next place s taken b h = (
  λ t. record { fall = λ x e. absurd (none-some _ e); jump = λ p x e. jumped p x (some_pair_parts place p s x e) (h.0 t) },
  λ l. h.1 (l.jump place s refl),
)
  where
    jumped : (p : ℕ) (x : State) → (place ≡ p) × (s ≡ x) → IsBelowPoint notes place s → IsBelowPoint notes p x
    jumped p x e below = subst (λ q. IsBelowPoint notes q x) e.0 (subst (IsBelowPoint notes place) e.1 below)

pub leads_parts : (notes : Notes) (next place : ℕ) (s there : State) → IsBelowPoint notes next s → IsBelowPoint notes place there
    → LeadsBelow notes next (successors_from s there (path.Parts place))
leads_parts notes next place s there fall jump = record {
  fall = λ x e. subst (IsBelowPoint notes next) (same_Some s x e) fall;
  jump = λ p x e. let same = some_pair_parts place p there x e in
      subst (λ q. IsBelowPoint notes q x) same.0 (subst (IsBelowPoint notes place) same.1 jump);
}

pub leads_parts_fall : (notes : Notes) (next place : ℕ) (s there : State)
    → LeadsBelow notes next (successors_from s there (path.Parts place)) → IsBelowPoint notes next s
leads_parts_fall notes next place s there l = l.fall s refl

pub leads_parts_jump : (notes : Notes) (next place : ℕ) (s there : State)
    → LeadsBelow notes next (successors_from s there (path.Parts place)) → IsBelowPoint notes place there
leads_parts_jump notes next place s there l = l.jump place there refl

-- ---- after an instruction

pub comes_next : (image : Image) (notes : Notes) (func : ℕ) (f : FnNote) (at next : ℕ) (c : Option State) (s : State) (i : Insn)
    (after taken : State) (p : Path) → ComesTo image notes func f at c
    → IsBefore notes at c s → IsDecoded image f at i next → next < f.end
    → row_of notes (here_at image func at next) s i ≡ Ok (successors_from after taken p)
    → ComesTo image notes func f next (only_if (does_fall p) after)
unfolding Comes
comes_next image notes func f at next c s i after taken p comes before d within row = (
  suc comes.0,
  record {
    last = at;
    came = c;
    reached = comes.1;
    state = s;
    has_state = before;
    insn = i;
    decode = d;
    within = within;
    successors = successors_from after taken p;
    row = row;
    falls = fall_of after taken p;
  },
)

-- the places before the next one meet their rules
pub meet_more : (image : Image) (notes : Notes) (func : ℕ) (f : FnNote) (at next : ℕ) (c : Option State) → ComesTo image notes func f at c
    → (m : MeetsRules image notes func f at) → m.next ≡ next
    → AllMeetBelow image notes func f at → AllMeetBelow image notes func f next
meet_more image notes func f at next c comes m e all p reached less =
    let leads : Leads image f comes.0 at = leads_of image notes func f comes.0 at c comes.1 in
    ⊎_elim (λ below. all p reached below)
    (λ same. subst (MeetsRules image notes func f) (sym same) m)
    (places_before image f comes.0 reached.0 at p m.next m.insn leads m.decode reached.1 (subst (λ k. p < k) (sym e) less))

pub place_of_comes : (image : Image) (notes : Notes) (func : ℕ) (f : FnNote) (at : ℕ) (c : Option State) → ComesTo image notes func f at c
    → IsPlaceOf image f at
place_of_comes image notes func f at c comes = (comes.0, leads_of image notes func f comes.0 at c comes.1)

pub comes_start : (image : Image) (notes : Notes) (func : ℕ) (f : FnNote)
    → ComesTo image notes func f f.place (Some (entry_state notes func))
unfolding Comes
comes_start image notes func f = (0, (refl, refl))

-- ---- all functions

pub functions_more : (image : Image) (notes : Notes) (n : ℕ) (f : FnNote) → FunctionsMeet image notes n
    → slice_get notes.function n ≡ Some f
    → ((p : ℕ) → IsPlaceOf image f p → MeetsRules image notes n f p) → FunctionsMeet image notes (n + 1)
functions_more image notes n f all there here k g less found p reached =
    ⊎_elim (λ before. all k g before found p reached)
    (λ above.
    let same : k ≡ n = omega arith in
    let at : slice_get notes.function n ≡ Some g = subst (λ j. slice_get notes.function j ≡ Some g) same found in
    let one : f ≡ g = same_Some f g (sym there ∙ at) in
    let m : MeetsRules image notes n g p = subst (λ h. MeetsRules image notes n h p) one
    (here p (subst (λ h. IsPlaceOf image h p) (sym one) reached)) in
    subst (λ j. MeetsRules image notes j g p) (sym same) m)
    (cases_lt k n)

pub refuses : (image : Image) (notes : Notes) (n : ℕ) (f : FnNote) (r : Refusal) → TablesHold image notes
    → slice_get notes.function n ≡ Some f → FunctionsMeet image notes n
    → FailsIn image notes n f r → RefusesInsn image notes r.place r.rule
refuses image notes n f r tables there all fails = record {
  tables = tables;
  number = n;
  f = f;
  there = there;
  reached = fails.reached;
  fails = fails.fails;
  before = before;
}
  where
    before : (k : ℕ) (g : FnNote) → slice_get notes.function k ≡ Some g → (p : ℕ) → IsPlaceOf image g p → p < r.place
        → MeetsRules image notes k g p
    before k g found p reached less =
        ⊎_elim (λ earlier. all k g earlier found p reached)
        (λ from. ⊎_elim (λ later.
        let end = function_before image notes tables.functions n k f g later there found in
        let start = start_first image g reached.0 p reached.1 in
        let inside = place_within image notes tables.functions n f there fails.reached.0 r.place fails.reached.1 in
        absurd (omega arith))
        (λ back.
        let same : k ≡ n = omega arith in
        let at : slice_get notes.function n ≡ Some g = subst (λ j. slice_get notes.function j ≡ Some g) same found in
        let one : f ≡ g = same_Some f g (sym there ∙ at) in
        let m : MeetsRules image notes n g p = subst (λ h. MeetsRules image notes n h p) one
        (fails.before p (subst (λ h. IsPlaceOf image h p) (sym one) reached) less) in
        subst (λ j. MeetsRules image notes j g p) (sym same) m)
        (cases_lt n k))
        (cases_lt k n)

-- ---- where the walk through a function stands

pub record Walked (image : Image) (notes : Notes) (func : ℕ) (f : FnNote) (at : ℕ) (marks : Marks) (s : State) : Type 0 where
  pub stands : StandsAt image notes func f at marks s
  pub met : AllMeetBelow image notes func f at
  pub from : f.place ≤ at

pub walked_start : (image : Image) (notes : Notes) (func : ℕ) (f : FnNote) (point reloc : ℕ) (s : State) → f.place < f.end
    → PointsFrom notes f.place point → RelocsFrom image f.place reloc → s ≡ entry_state notes func
    → Walked image notes func f f.place (record { point = point; reloc = reloc; falls = true }) s
walked_start image notes func f point reloc s some points relocs is = record {
  stands = record {
    points = points;
    relocs = relocs;
    within = omega arith;
    comes = λ less. subst (λ x. ComesTo image notes func f f.place (Some x)) (sym is) (comes_start image notes func f);
  };
  met = λ p reached less. absurd (let h = start_first image f reached.0 p reached.1 in omega arith);
  from = omega arith;
}

pub walked_more : (image : Image) (notes : Notes) (func : ℕ) (f : FnNote) (at next : ℕ) (marks after : Marks) (s t : State)
    → Walked image notes func f at marks s → at < f.end
    → Passes image notes func f at next after t → Walked image notes func f next after t
walked_more image notes func f at next marks after s t w inside p =
    let m = p.meets in
    let more = decode_later image f at m.next m.insn m.decode in
    let is = p.next_is in
    let low = w.from in
    record {
      stands = p.stands;
      met = meet_more image notes func f at next (only_if marks.falls s) (w.stands.comes inside) m is w.met;
      from = omega arith;
    }

pub later_place : (image : Image) (notes : Notes) (func : ℕ) (f : FnNote) (at next : ℕ) (after : Marks) (t : State)
    → Passes image notes func f at next after t → at < next
later_place image notes func f at next after t p =
    let more = decode_later image f at p.meets.next p.meets.insn p.meets.decode in let is = p.next_is in omega arith

pub walked_end : (image : Image) (notes : Notes) (func : ℕ) (f : FnNote) (at : ℕ) (marks : Marks) (s : State)
    → IsFunction image notes func f → Walked image notes func f at marks s → f.end ≤ at
    → (p : ℕ) → IsPlaceOf image f p → MeetsRules image notes func f p
unfolding Leads
walked_end image notes func f at marks s holds w past p reached = w.met p reached (inside reached.0 p reached.1)
  where
    inside : (n q : ℕ) → Leads image f n q → q < at
    inside zero q a = let r = holds.range in omega arith
    inside (suc n) q a = let r = a.within in omega arith

pub walked_fails : (image : Image) (notes : Notes) (func : ℕ) (f : FnNote) (at : ℕ) (marks : Marks) (s : State) (r : RuleName)
    → Walked image notes func f at marks s → at < f.end
    → IsFirst (FailsAt image notes func f at) r → FailsIn image notes func f (record { place = at; rule = r })
walked_fails image notes func f at marks s r w inside fails = record {
  reached = place_of_comes image notes func f at (only_if marks.falls s) (w.stands.comes inside);
  before = w.met;
  fails = fails;
}

-- ---- the row in the state that is kept

pub row_ok : (notes : Notes) (a b : Here) (s after taken : State) (i : Insn) (p : Path) → a ≡ b
    → gives_map {A = Path} (successors_from after taken) (Ok p) ≡ row_of notes a s i
    → row_of notes b s i ≡ Ok (successors_from after taken p)
row_ok notes a b s after taken i p same e = ap (λ h. row_of notes h s i) (sym same) ∙ sym e

pub row_err : (notes : Notes) (a b : Here) (s after taken : State) (i : Insn) (r : RuleName) → a ≡ b
    → gives_map {A = Path} (successors_from after taken) (Err r) ≡ row_of notes a s i → row_of notes b s i ≡ Err r
row_err notes a b s after taken i r same e = ap (λ h. row_of notes h s i) (sym same) ∙ sym e

pub here_is : (image : Image) (func at next : ℕ) (reloc : Option ℕ) → reloc ≡ reloc_at image next
    → record { place = at; next = next; func = func; reloc = reloc } ≡ here_at image func at next
here_is image func at next reloc e = ap (λ r. let h : Here = record { place = at; next = next; func = func; reloc = r } in h) e

pub typed_image : (image : Image) (notes : Notes) → TablesHold image notes → FunctionsMeet image notes (length notes.function)
    → Typed image notes
typed_image image notes tables all = record {
  tables = tables;
  code = λ k f there p reached. all k f (slice_get_within notes.function k f there) there p reached;
}
