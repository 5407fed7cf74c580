-- A typed image has a state at each place to which control comes, and these states meet the typing rules.
use Rattle.twin_run.proofs.Common.{IfOk, IfSome, Ok, Err, ◌≡◌, ◌⊎◌, ℕ, zero, suc, ◌+◌, ◌-◌, ◌<◌, ◌≤◌, Bool, true, false, if◌then◌else◌}
use Rattle.twin_run.proofs.Common.{nat_eq, nat_lt, nat_le, List, [], ◌∷◌, length, Option, Some, refl, sym, ap, ◌∙◌, subst, arith, inl, inr}
use Rattle.twin_run.proofs.Common.{⊎_elim, slice_get, cases_lt, and_parts, eqb-true, leb-true, ltb-true, none-some, same_Some, Insn}
use Rattle.twin_run.proofs.Common.{IsState, entry_state, IsNotes, function_at, FnNote, Notes, Point, State, Image, Leads, IsPlaceOf}
use Rattle.twin_run.proofs.Common.{IsBefore, of_point, of_fall, Comes, row_of, here_at, MeetsRules, Typed, World, within_some, states_of}
use Rattle.std.proofs.lemmas.{Bool.eqb-false, Option.slice_get_within}
use Rattle.ebc_insn.specs.Spelling.{WellFormed}
use Rattle.note_types.specs.{Records.has_place, States.StateBelow}
use Rattle.note_types.proofs.TypeLaws.{entry_is_state}
use Rattle.rules_base.specs.declared.here.Here.{Here}
use Rattle.rules_base.specs.Outcomes.{gives_map, OrRule}
use Rattle.rules_data.specs.Data.{after_data}
use Rattle.rules_flow.specs.{Flow.after_flow, Successors.falls}
use Rattle.rules_flow.specs.declared.successors.Successors.{Successors}
use Rattle.rules_laws.specs.Keeping.{AreStates}
use Rattle.rules_laws.proofs.{FlowKeeps.after_flow-keeps, RowsKeep.after_data-keeps}
use Rattle.width_checker.specs.{StatesAt.IsPointAt, StatesAt.Falls, StatesAt.StateAt, Rows.is_flow, Typed.EntryBelow}
use Rattle.width_checker.proofs.{Leading.OnePoint, Leading.leads_of, Leading.state_of, Leading.state_one, Points.one_point}
use Rattle.invariant_laws.specs.Hosted.{EntersAs, as_entry, as_point}
use Rattle.step_sound.specs.PlaceStates.{Reached, LeadsTo, PlacesHold, InsnHolds, StatesHold}
use Rattle.step_sound.proofs.{EvenPlaces.find_some, EvenPlaces.place_even, EvenPlaces.point_place, RowLeads.RowLeads, RowLeads.row_leads}
use Rattle.twin_run.specs.StatesOf.{StandsIn}
use Rattle.rules_image.proofs.Decoding.{spelled_at}

-- ---- a point at a place

-- whether a point stands at a place
pub data PointThere (notes : Notes) (place : ℕ) : Type 0 where
  has_point : (p : Point) → IsPointAt notes place p → PointThere notes place
  no_point : ((p : Point) → IsPointAt notes place p → ⊥) → PointThere notes place

pub point_there : (notes : Notes) (place : ℕ) → PointThere notes place
point_there notes place = ⊎_elim
    (λ (s : (k : ℕ) × (p : Point) × (slice_get notes.point k ≡ Some p) × (p.place ≡ place)). has_point s.1
    (record { number = s.0; there = s.2; at = s.3 }))
    (λ n. no_point (λ p at. n at.number p at.there at.at)) (go notes.point)
  where
    go : (ps : List Point) → ((k : ℕ) × (p : Point) × (slice_get ps k ≡ Some p) × (p.place ≡ place))
        ⊎ ((k : ℕ) (p : Point) → slice_get ps k ≡ Some p → p.place ≡ place → ⊥)
    go [] = inr (λ k p e h. none-some p e)
    go (q ∷ ps) = by (nat_eq q.place place) refl (go ps)
      where
        by : (t : Bool) → nat_eq q.place place ≡ t → ((k : ℕ) × (p : Point) × (slice_get ps k ≡ Some p) × (p.place ≡ place))
            ⊎ ((k : ℕ) (p : Point) → slice_get ps k ≡ Some p → p.place ≡ place → ⊥)
            → ((k : ℕ) × (p : Point) × (slice_get (q ∷ ps) k ≡ Some p) × (p.place ≡ place))
            ⊎ ((k : ℕ) (p : Point) → slice_get (q ∷ ps) k ≡ Some p → p.place ≡ place → ⊥)
        by true t more = inl (0, q, refl, eqb-true q.place place t)
        by false t (inl s) = inl (suc s.0, s.1, s.2, s.3)
        by false t (inr n) = inr (λ k p e h. each k p e h)
          where
            each : (k : ℕ) (p : Point) → slice_get (q ∷ ps) k ≡ Some p → p.place ≡ place → ⊥
            each zero p e h = absurd (eqb-false q.place place t (ap (λ (x : Point). x.place) (same_Some q p e) ∙ h))
            each (suc k) p e h = n k p e h

module _ (image : Image) (notes : Notes) (ok : IsNotes notes) (typed : Typed image notes) where
  one : OnePoint notes
  one = one_point notes ok.ascends

  -- ---- places

  -- an instruction stands at each place, with no point inside it
  pub places : PlacesHold image notes
  places k f there place at = let m = typed.code k f there place at in
      record { insn = m.insn; next = m.next; decoded = m.decode; point = m.point }

  -- the place is one of the function's
  pub place_of_state : (func : ℕ) (f : FnNote) (place : ℕ) (s : State) → StateAt image notes func f place s → IsPlaceOf image f place
  place_of_state func f place s at = (at.count, leads_of image notes func f at.count place at.come at.comes)

  -- the rules that the instruction there meets, in that state
  pub record Meets (func : ℕ) (f : FnNote) (place : ℕ) (s : State) : Type 0 where
    pub rules : MeetsRules image notes func f place
    pub state_is : rules.state ≡ s

  pub meets_there : (func : ℕ) (f : FnNote) (place : ℕ) (s : State) → slice_get notes.function func ≡ Some f
      → StateAt image notes func f place s → Meets func f place s
  meets_there func f place s there at =
      let m = typed.code func f there place (place_of_state func f place s at) in
      record { rules = m; state_is = state_one image notes func f one place m.state s m.has_state at }

  -- ---- the state at a start

  pub starts : (k : ℕ) (f : FnNote) → slice_get notes.function k ≡ Some f → (s : State) × StandsIn image notes k f.place s
      × EntersAs (entry_state notes k) s
  unfolding Leads Comes
  starts k f there =
      let m = typed.code k f there f.place (0, refl) in
      let b = state_of image notes k f one 0 f.place (Some (entry_state notes k)) (refl, refl) m.state m.has_state in
      (m.state, record { f = f; there = there; at = m.has_state }, by m.state b m.below.entry)
    where
      by : (s : State) → IsBefore notes f.place (Some (entry_state notes k)) s → EntryBelow notes k f f.place
          → EntersAs (entry_state notes k) s
      by s (of_point p at e) below = as_point (subst (StateBelow (entry_state notes k)) (sym e) (below refl p at))
      by s (of_fall none e) below = as_entry (sym (same_Some (entry_state notes k) s e))

  -- ---- where a fall leads

  pub falls_to : (func : ℕ) (f : FnNote) (place : ℕ) (s t : State) → (at : StateAt image notes func f place s) → (m : Meets func f place s)
      → m.rules.next < f.end → m.rules.successors.fall ≡ Some t → (z : State) × StateAt image notes func f m.rules.next z × EntersAs t z
  unfolding Comes
  falls_to func f place s t at m within e = by (point_there notes m.rules.next)
    where
      r : MeetsRules image notes func f place
      r = m.rules

      come : Falls image notes func f (Comes image notes func f at.count) m.rules.next m.rules.successors.fall
      come = record {
        last = place;
        came = at.come;
        reached = at.comes;
        state = m.rules.state;
        has_state = subst (IsBefore notes place at.come) (sym m.state_is) at.before;
        insn = m.rules.insn;
        decode = m.rules.decode;
        within = within;
        successors = m.rules.successors;
        row = m.rules.row;
        falls = refl;
      }

      by : PointThere notes m.rules.next → (z : State) × StateAt image notes func f m.rules.next z × EntersAs t z
      by (has_point p there) = (
        p.state,
        record {
          count = suc at.count;
          come = m.rules.successors.fall;
          comes = come;
          before = of_point p there refl;
        },
        as_point (m.rules.below.leads.fall t e p there),
      )
      by (no_point none) = (
        t,
        record { count = suc at.count; come = m.rules.successors.fall; comes = come; before = of_fall none e },
        as_entry refl,
      )

  -- ---- the functions' ranges

  -- a later function lies past an earlier one
  functions_rise : (n j : ℕ) (g h : FnNote) → slice_get notes.function j ≡ Some g → slice_get notes.function (j + suc n) ≡ Some h
      → g.end ≤ h.place
  functions_rise zero j g h a b = (typed.tables.functions (j + 1) h
      (ap (slice_get notes.function) (let e : j + 1 ≡ j + suc 0 = omega arith in e) ∙ b)).past j g refl a
  functions_rise (suc n) j g h a b =
      let within : j + suc n < length notes.function = let l = slice_get_within notes.function (j + suc (suc n)) h b in omega (arith, l) in
      let m = within_some notes.function (j + suc n) within in
      let low = functions_rise n j g m.0 a m.1 in
      let high = (typed.tables.functions (j + suc (suc n)) h b).past (j + suc n) m.0 (omega arith) m.1 in
      let range = (typed.tables.functions (j + suc n) m.0 m.1).range in
      omega (arith, low, high, range)

  -- a place belongs to one function
  owner_one : (j k place : ℕ) (g h : FnNote) → slice_get notes.function j ≡ Some g → slice_get notes.function k ≡ Some h → g.place ≤ place
      → place < g.end → h.place ≤ place → place < h.end → j ≡ k
  owner_one j k place g h a b l1 l2 h1 h2 = ⊎_elim
      (λ less. absurd (let n : j + suc (k - (j + 1)) ≡ k = omega (arith, less) in
      let r = functions_rise (k - (j + 1)) j g h a (ap (slice_get notes.function) n ∙ b) in omega (arith, r, l2, h1)))
      (λ from. ⊎_elim
      (λ less. absurd (let n : k + suc (j - (k + 1)) ≡ j = omega (arith, less) in
      let r = functions_rise (j - (k + 1)) k h g b (ap (slice_get notes.function) n ∙ a) in omega (arith, r, h2, l1)))
      (λ back. omega (arith, from, back)) (cases_lt k j)) (cases_lt j k)

  -- ---- states are states of the function

  point_known : (func : ℕ) (f : FnNote) (place : ℕ) (p : Point) → slice_get notes.function func ≡ Some f → f.place ≤ place → place < f.end
      → IsPointAt notes place p → IsState notes f p.state
  unfolding function_at
  point_known func f place p there low high at =
      let n = ok.points at.number p at.there in
      let o = find_some (has_place p.place) notes.function n.owner n.there in
      let b = and_parts (nat_le n.owner.place p.place) (nat_lt p.place n.owner.end) o.2 in
      let l = leb-true n.owner.place p.place b.0 in
      let h = ltb-true p.place n.owner.end b.1 in
      let e = at.at in
      let same : o.0 ≡ func = owner_one o.0 func place n.owner f o.1 there (omega (arith, l, e)) (omega (arith, h, e)) low high in
      let owner : n.owner ≡ f = same_Some n.owner f (sym o.1 ∙ ap (slice_get notes.function) same ∙ there) in
      subst (λ g. IsState notes g p.state) owner n.state

  before_known : (func : ℕ) (f : FnNote) (place : ℕ) (come : Option State) (s : State) → slice_get notes.function func ≡ Some f
      → f.place ≤ place → place < f.end → IfSome come (IsState notes f) → IsBefore notes place come s → IsState notes f s
  before_known func f place come s there low high known (of_point p at e) =
      subst (IsState notes f) (sym e) (point_known func f place p there low high at)
  before_known func f place come s there low high known (of_fall none e) = subst (λ o. IfSome o (IsState notes f)) e known

  row_known : (here : Here) (s : State) (i : Insn) (x : Successors) (f : FnNote) → slice_get notes.function here.func ≡ Some f
      → WellFormed i → IsState notes f s → row_of notes here s i ≡ Ok x → AreStates notes f x
  unfolding row_of
  row_known here s i x f there well known e = go (is_flow i) e
    where
      flow : (r : OrRule Successors) → r ≡ Ok x → IfOk r (AreStates notes f) → AreStates notes f x
      flow r e h = subst (λ q. IfOk q (AreStates notes f)) e h

      of_data : (r : OrRule State) → IfOk r (IsState notes f) → gives_map falls r ≡ Ok x → AreStates notes f x
      of_data (Ok t) h e = flow (gives_map falls (Ok t)) e (h, tt)
      of_data (Err r) h e = absurd (cc)

      go : (t : Bool) → (if t then after_flow notes here s i else gives_map falls (after_data notes here s i)) ≡ Ok x → AreStates notes f x
      go true e = flow _ e (after_flow-keeps notes here s i f there ok known)
      go false e = of_data (after_data notes here s i) (after_data-keeps notes here s i f there ok known well) e

  comes_known : (func : ℕ) (f : FnNote) (n place : ℕ) (come : Option State) → slice_get notes.function func ≡ Some f
      → Comes image notes func f n place come → IfSome come (IsState notes f)
  unfolding Comes
  comes_known func f zero place come there h = subst (λ o. IfSome o (IsState notes f)) (sym h.1) (entry_is_state notes func f)
  comes_known func f (suc n) place come there h =
      let last = place_even image notes ok typed.tables.functions places func f n h.last there
      (leads_of image notes func f n h.last h.came h.reached) in
      let known = before_known func f h.last h.came h.state there last.1 last.2
      (comes_known func f n h.last h.came there h.reached) h.has_state in
      let states = row_known (here_at image func h.last place) h.state h.insn h.successors f there
      (spelled_at image f h.last place h.insn h.decode).well_formed known h.row in
      subst (λ o. IfSome o (IsState notes f)) (sym h.falls) states.0

  -- the state at a place is one of the function
  pub state_known : (func : ℕ) (f : FnNote) (place : ℕ) (s : State) → slice_get notes.function func ≡ Some f
      → StateAt image notes func f place s → IsState notes f s
  state_known func f place s there at =
      let p = place_even image notes ok typed.tables.functions places func f at.count place there
      (leads_of image notes func f at.count place at.come at.comes) in
      before_known func f place at.come s there p.1 p.2 (comes_known func f at.count place at.come there at.comes) at.before

  -- ---- where an instruction leads

  pub leads_there : (func : ℕ) (f : FnNote) (place : ℕ) (s : State) → slice_get notes.function func ≡ Some f
      → StateAt image notes func f place s → (m : Meets func f place s)
      → LeadsTo (states_of image notes) func m.rules.next m.rules.successors
  leads_there func f place s there at m = record { fall = fall; jump = jump }
    where
      leads : RowLeads notes f m.rules.insn m.rules.successors
      leads = row_leads notes (here_at image func place m.rules.next) m.rules.state m.rules.insn m.rules.successors f there m.rules.row

      fall : (t : State) → m.rules.successors.fall ≡ Some t → Reached (states_of image notes) func m.rules.next t
      fall t e =
          let r = falls_to func f place s t at m (m.rules.ends (leads.fall t e)) e in
          record { state = r.0; here = record { f = f; there = there; at = r.1 }; from = r.2 }

      jump : (p : ℕ) (t : State) → m.rules.successors.jump ≡ Some (p, t) → Reached (states_of image notes) func p t
      jump p t e =
          let q = leads.jump p t e in
          let reached = point_place image notes ok typed.tables.functions places func f q.point q.number there q.there
          (let a = q.at in let l = q.from in omega (arith, a, l))
          (let a = q.at in let l = q.to in omega (arith, a, l)) in
          let r = typed.code func f there p (subst (IsPlaceOf image f) q.at reached) in
          let at_p : IsPointAt notes p q.point = record { number = q.number; there = q.there; at = q.at } in
          record {
            state = r.state;
            here = record { f = f; there = there; at = r.has_state };
            from = by r.state r.has_state.come r.has_state.before at_p (m.rules.below.leads.jump p t e q.point at_p);
          }
        where
          by : (z : State) (come : Option State) → IsBefore notes p come z → {q : Point} → IsPointAt notes p q → StateBelow t q.state
              → EntersAs t z
          by z come (of_point o at' e') {q} here below = as_point
              (subst (StateBelow t) (ap (λ (x : Point). x.state) (one p q o here at') ∙ sym e') below)
          by z come (of_fall none e') {q} here below = absurd (none q here)

  -- ---- the states

  -- the instruction at a place meets the rules in the state there
  pub insn_holds : (func place : ℕ) (s : State) → StandsIn image notes func place s
      → InsnHolds image notes (states_of image notes) func place s
  insn_holds func place s at =
      let m = meets_there func at.f place s at.there at.at in
      record {
        f = at.f;
        there = at.there;
        place_of = place_of_state func at.f place s at.at;
        state = state_known func at.f place s at.there at.at;
        insn = m.rules.insn;
        next = m.rules.next;
        decoded = m.rules.decode;
        relocation = m.rules.relocation;
        ends = m.rules.ends;
        successors = m.rules.successors;
        row = subst
            (λ t. row_of notes (here_at image func place m.rules.next) t m.rules.insn ≡ Ok m.rules.successors) m.state_is m.rules.row;
        leads = leads_there func at.f place s at.there at.at m;
      }

-- the states of a typed image meet the typing rules
pub typed_states : (image : Image) (world : World) → IsNotes world.notes → Typed image world.notes
    → StatesHold image world (states_of image world.notes)
typed_states image world ok typed = record {
  places = places image world.notes ok typed;
  starts = record { starts = starts image world.notes ok typed };
  insns = insn_holds image world.notes ok typed;
}
