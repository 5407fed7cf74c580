-- One step of the machine: the instruction at ip is the one that its bytes spell.
use Rattle.instruction_laws.proofs.Common.{◌≡◌, ℕ, ◌+◌, ◌-◌, ◌%◌, ◌^◌, ◌<◌, ◌≤◌, ◌⊎◌, Bool, true, false, if◌then◌else◌, nat_eq, nat_le, ◌∷◌}
use Rattle.instruction_laws.proofs.Common.{◌++◌, length, Some, None, Ok, Err, refl, sym, ap, ap₂, ◌∙◌, subst, arith, inl, inr, ⊎_elim, find}
use Rattle.instruction_laws.proofs.Common.{and_from, le-leb, window, IsWidth, spelling, Insn, read_again, machine_step, Concrete, Place}
use Rattle.instruction_laws.proofs.Common.{Gate, word, Config, World, Placement, IsPlacement, stack_bytes, Outcome, Gives, Raises, Stuck}
use Rattle.instruction_laws.proofs.Common.{Does, RowsAlike, StepAlike, Site, NeutralEnd, MachineStands, IsAt, WorldFits, window-append}
use Rattle.std.proofs.lemmas.Bool.{and_left, and_right, lt-leb}
use Rattle.ebc_machine.specs.{Fetch.fetched, Fetch.or_exception, Results.Row, Step.executed, Step.ended, Step.instruction_done}
use Rattle.note_types.specs.Concrete.{rest_from}
use Rattle.ebc_width.specs.Ranges.{covers}
use Rattle.note_types.specs.declared.spot.Spot.TheVariants.{Wild}
use Rattle.ebc_width.proofs.RangeLaws.{covers-bounds}
use Rattle.host_model.specs.Placements.{image_range, area_bytes, placed_ranges}
use Rattle.neutral_machine.specs.Stands.{spot_at}
use Rattle.instruction_laws.specs.Laws.{OneStep}
use Rattle.neutral_machine.proofs.Placed.{image_off_stack, native_off_image}
use Rattle.instruction_laws.proofs.Simulation.{one_instruction}
use Rattle.ebc_decode.specs.Reading as reading
use Rattle.ebc_machine.specs.declared.StepEnd.TheVariants as ends
use Rattle.ebc_base.specs.Steps as steps

-- where a run stands at a place
pub record IsThere (world : World) (P : Placement) (ip p : ℕ) : Type 0 where
  pub not_gate : nat_eq ip P.native ≡ false
  pub at : ip ≡ P.image + p
  pub inside : p < world.image_size

same_spot : (p q : ℕ) → Place p ≡ Place q → p ≡ q
same_spot p q e = cc

gate_place : (p : ℕ) → Gate ≡ Place p → ⊥
gate_place p e = absurd (cc)

wild_place : (x p : ℕ) → Wild x ≡ Place p → ⊥
wild_place x p e = absurd (cc)

pub is_there : (world : World) (P : Placement) (ip p : ℕ) → spot_at world P ip ≡ Place p → IsThere world P ip p
is_there world P ip p h = by_gate (nat_eq ip P.native) refl h
  where
    by_image : nat_eq ip P.native ≡ false → (t : Bool) → covers ip 1 (image_range world P) ≡ t
        → (if t then Place (ip - P.image) else Wild ip) ≡ Place p → IsThere world P ip p
    by_image n true t e =
        let a = covers-bounds (image_range world P) ip 1 t in
        let q = same_spot (ip - P.image) p e in
        record { not_gate = n; at = omega (arith, q, a.0); inside = omega (arith, q, a.0, a.1) }
    by_image n false t e = absurd (wild_place ip p e)

    by_gate : (t : Bool) → nat_eq ip P.native ≡ t → (if t then Gate
        else (if covers ip 1 (image_range world P) then Place (ip - P.image) else Wild ip)) ≡ Place p → IsThere world P ip p
    by_gate true t e = absurd (gate_place p e)
    by_gate false t e = by_image t (covers ip 1 (image_range world P)) refl e

module _ (w : ℕ) (world : World) (P : Placement) (mapped : ℕ → ℕ) (h : IsWidth w) (ok : WorldFits world) (pl : IsPlacement w world P) where
  -- a range doesn't cover a byte past it or before it
  uncovered : (base size x : ℕ) → (x < base) ⊎ (base + size ≤ x) → covers x 1 (record { base = base; size = size }) ≡ false
  uncovered base size x d = ⊎_elim
      (λ l. and_left (nat_le base x) (nat_le (x + 1) (base + size)) (lt-leb base x l))
      (λ l. and_right (nat_le base x) (nat_le (x + 1) (base + size)) (lt-leb (x + 1) (base + size) (omega (arith, l))))
      d

  -- the image is the object that holds a place's byte
  image_found : (n p : ℕ) → p < world.image_size → find (covers (P.image + p) 1) (placed_ranges w world P n) ≡ Some
      (record { base = P.image; size = world.image_size })
  unfolding placed_ranges
  image_found n p l =
      let a = uncovered P.native (area_bytes world.notes) (P.image + p)
      (⊎_elim (λ x. inr (omega (arith, x))) (λ x. inl (omega (arith, x, l))) (native_off_image w world P h ok pl)) in
      let b = uncovered P.stack (stack_bytes w world.notes) (P.image + p)
      (⊎_elim (λ x. inr (omega (arith, x))) (λ x. inl (omega (arith, x, l))) (image_off_stack w world P h ok pl)) in
      let c : covers (P.image + p) 1 (record { base = P.image; size = world.image_size }) ≡ true =
      and_from (nat_le P.image (P.image + p)) (nat_le (P.image + p + 1) (P.image + world.image_size))
      (le-leb P.image (P.image + p) (omega arith)) (le-leb (P.image + p + 1) (P.image + world.image_size) (omega (arith, l))) in
      rw a (rw b (rw c refl))

  -- the instruction at ip is read
  reads_instruction : (a : Config) (s : Concrete) (here : Site) (i : Insn) → MachineStands w world P mapped None a s
      → IsAt world P a s here i → fetched s ≡ Ok (i, length (spelling i))
  unfolding fetched rest_from
  reads_instruction a s here i st at =
      let t = is_there world P s.ip here.place (st.spot ∙ at.spot) in
      let n = length (spelling i) in
      let found : find (covers s.ip 1) s.objects ≡ Some (record { base = P.image; size = world.image_size }) =
      ap₂ (λ x os. find (covers x 1) os) t.at st.objects ∙ image_found a.script.entries here.place t.inside in
      let size : P.image + world.image_size - s.ip ≡ n + (P.image + world.image_size - s.ip - n) = let e = t.at in let m = at.inside in
      omega (arith, e, m) in
      let bytes : window s.byte s.ip (P.image + world.image_size - s.ip) ≡ spelling i
      ++ window s.byte (s.ip + n) (P.image + world.image_size - s.ip - n) =
      ap (window s.byte s.ip) size ∙ window-append s.byte s.ip n _
      ∙ ap (λ xs. xs ++ window s.byte (s.ip + n) (P.image + world.image_size - s.ip - n)) at.spelled in
      rw found (ap (λ xs. or_exception (reading.read xs)) bytes
      ∙ ap or_exception (read_again i (window s.byte (s.ip + n) (P.image + world.image_size - s.ip - n)) at.well_formed))

  -- the machine does that instruction
  does_instruction : (a : Config) (s : Concrete) (here : Site) (i : Insn) → MachineStands w world P mapped None a s
      → IsAt world P a s here i → machine_step w s ≡ ended s (executed w s (word (P.image + here.next)) i)
  unfolding machine_step instruction_done
  does_instruction a s here i st at =
      let t = is_there world P s.ip here.place (st.spot ∙ at.spot) in
      let r = reads_instruction a s here i st at in
      let next : (s.ip + length (spelling i)) % 2 ^ 64 ≡ word (P.image + here.next) = let e = t.at in let m = at.next in
      omega (arith, e, m) in
      let gate : nat_eq s.ip s.gate ≡ false = ap (nat_eq s.ip) st.gate ∙ t.not_gate in
      rw gate (ap (λ o. ended s (steps.◌>>=◌ o (λ found. executed w s ((s.ip + found.1) % 2 ^ 64) found.0))) r
      ∙ ap (λ x. ended s (executed w s x i)) next)

  step_of : (s : Concrete) (m : Outcome (NeutralEnd × Config)) (o : Row) → Does (RowsAlike w world P mapped) m o
      → StepAlike w world P mapped s m (ended s o)
  step_of s Stuck o d = tt
  step_of s (Raises e) (Ok y) d = absurd d
  step_of s (Raises e) (Err f) d = ap (λ x. (ends.Raised x, s)) (sym d)
  step_of s (Gives b) (Ok y) d = d
  step_of s (Gives b) (Err e) d = absurd d

pub one_step : OneStep
one_step w world P mapped a s here i h pl ok st at room =
    subst (StepAlike w world P mapped s _) (sym (does_instruction w world P mapped h ok pl a s here i st at))
    (step_of w world P mapped h ok pl s _ _ (one_instruction w world P mapped a s here i h pl ok st at room))
