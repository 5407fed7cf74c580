-- One step of the machine at an instruction of the image does what the neutral machine does with the image's instruction.
use Rattle.instruction_laws.proofs.Common.{◌≡◌, ℕ, ◌+◌, ◌-◌, ◌≤◌, Bool, true, false, ◌||◌, ◌++◌, length, Option, Some, None, refl, sym, ap}
use Rattle.instruction_laws.proofs.Common.{◌∙◌, subst, arith, ℤ, false≢true, none-some, window, read_again, WellFormed, spelling, Insn}
use Rattle.instruction_laws.proofs.Common.{machine_step, mapped, image_byte, Image, is_absolute, is_address_move, is_relocated, named_at}
use Rattle.instruction_laws.proofs.Common.{Config, total, Move, kept, memory_of, Placement, stack_bytes, word, World, StepAlike, indexed}
use Rattle.instruction_laws.proofs.Common.{written, HasRoom, Site, executed, goes, immediate, call_row, target_at, IsInsnOf, with_immediate}
use Rattle.instruction_laws.proofs.Common.{loaded_insn, Concrete, Gives, Raises, Stuck, window-append, signed_at}
use Rattle.neutral_machine.specs.{Room.growth, Rows.NeutralRow, Rows.jump_row, Rows.move_imm_row}
use Rattle.instruction_laws.specs.Premises.{InstructionRead, SameExecuted, ImageStep, ImageRunStep, RunAlike}
use Rattle.instruction_laws.proofs.{Loaded.of_any, Loaded.two_bytes, Loaded.instruction_there, Hosts.hosts_kept, Kept.run_kept}
use Rattle.instruction_laws.proofs.{Steps.one_step, Worlds.world_meets}
use Rattle.ebc_machine.specs.declared.StepEnd.{StepEnd}
use Rattle.ebc_decode.specs.Reading as reading
use Rattle.ebc_insn.specs.declared.Extra.TheVariants as extras
use Rattle.ebc_insn.specs.declared.Insn.TheVariants as insns
use Rattle.neutral_machine.specs.Outcomes as outcomes

-- the bytes of the image at an instruction are read as that one
pub instruction_read : InstructionRead
instruction_read image world here i more at =
    ap reading.read
    (window-append (image_byte image) here.place (length (spelling i)) more
    ∙ ap (λ xs. xs ++ window (image_byte image) (here.place + length (spelling i)) more) (sym at.decoded.spelled))
    ∙ read_again i (window (image_byte image) (here.place + length (spelling i)) more) at.decoded.well_formed

-- where an immediate is an address, the neutral machine doesn't look at its number
same_by_form : (world : World) (a : Config) (here : Site) (i : Insn) (v : ℤ) (p : ℕ) → here.reloc ≡ Some p → WellFormed i
    → (is_absolute i || is_address_move i) ≡ true → executed world a here (with_immediate v i) ≡ executed world a here i
unfolding executed with_immediate jump_row call_row target_at move_imm_row
same_by_form world a here (insns.Jump cond true false op (extras.Imm u)) v p r f e = refl
same_by_form world a here (insns.Jump cond true false op extras.Nothing) v p r f e = absurd f
same_by_form world a here (insns.Jump cond true false op (extras.Idx i)) v p r f e = absurd f
same_by_form world a here (insns.Call true false false op (extras.Imm u)) v p r f e = refl
same_by_form world a here (insns.Call true false false op extras.Nothing) v p r f e = absurd f
same_by_form world a here (insns.Call true false false op (extras.Idx i)) v p r f e = absurd f
same_by_form world a here (insns.MoveImm size bits left lidx u) v p r f e =
    ap (λ x. outcomes.◌>>=◌ (written world a (Move size) (indexed left lidx) (kept world.notes (memory_of world a).objects (Move size) x))
    (λ b. goes world b here.next))
    (ap (λ o. immediate world.notes o v) r ∙ sym (ap (λ o. immediate world.notes o u) r))
same_by_form world a here i v p r f e = absurd (false≢true e)

-- an instruction with a relocated immediate is one whose immediate is an address
takes_address_at : (image : Image) (world : World) (here : Site) (i : Insn) (p : ℕ) → IsInsnOf image world here i → here.reloc ≡ Some p
    → (is_absolute i || is_address_move i) ≡ true
takes_address_at image world here i p at r = go (is_relocated image here.next) refl
  where
    go : (t : Bool) → is_relocated image here.next ≡ t → (is_absolute i || is_address_move i) ≡ true
    go true t =
        let n = at.decoded.next_is in
        let l = two_bytes i in
        (at.relocation.only (here.next - 8) (of_any image.relocs (here.next - 8) t) (omega (arith, n, l), omega (arith, n, l))).1
    go false t = absurd (none-some p (sym (at.relocation.named ∙ ap (named_at image here.next) t) ∙ r))

pub same_executed : SameExecuted
same_executed image world P a here i at = go here.reloc refl
  where
    go : (o : Option ℕ) → here.reloc ≡ o → executed world a here (loaded_insn P o i) ≡ executed world a here i
    go None r = refl
    go (Some p) r = same_by_form world a here i (signed_at 64 (word (P.image + p))) p r at.decoded.well_formed
        (takes_address_at image world here i p at r)

-- another immediate grows the stack as much
growth_same : (w : ℕ) (world : World) (a : Config) (i : Insn) (v : ℤ) → growth w world a (with_immediate v i) ≡ growth w world a i
unfolding with_immediate
growth_same w world a (insns.Call far false relative op extra) v = refl
growth_same w world a (insns.Call far true relative op extra) v = refl
growth_same w world a i v = refl

room_same : (w : ℕ) (world : World) (P : Placement) (a : Config) (o : Option ℕ) (i : Insn) → HasRoom w world a i
    → HasRoom w world a (loaded_insn P o i)
room_same w world P a None i room = room
room_same w world P a (Some p) i room = subst (λ n. n + total w a.frames ≤ stack_bytes w world.notes) (sym (growth_same w world a i _)) room

pub image_step : ImageStep
image_step w image world P a s here i h pl run st spot at room =
    subst (λ m. StepAlike w world P (mapped image P.image) s m (machine_step w s)) (same_executed image world P a here i at)
    (one_step w world P (mapped image P.image) a s here (loaded_insn P here.reloc i) h pl (world_meets image world run) st
    (instruction_there w image world P None a s here i run st spot at)
    (room_same w world P a here.reloc i room))

-- ---- in a run

pub image_run_step : ImageRunStep
image_run_step w image world P a r here i h pl run st spot at room =
    by_row (executed world a here i) (machine_step w r.machine) refl
    (image_step w image world P a r.machine here i h pl run st.machine spot at room)
  where
    by_row : (o : NeutralRow) (t : StepEnd × Concrete) → executed world a here i ≡ o
        → StepAlike w world P (mapped image P.image) r.machine o t → RunAlike w world P (mapped image P.image) r o t
    by_row Stuck t g d = tt
    by_row (Raises e) t g d = d
    by_row (Gives (e, b)) (f, t) g d =
        let kept = run_kept world a here i e b g in (
          d.0,
          record {
            machine = d.1;
            hosts = hosts_kept w world P (mapped image P.image) a r.machine r.hosts here i e b h pl
                (world_meets image world run) st.machine st.hosts g;
            script = st.script ∙ sym kept.script;
            trace = st.trace ∙ sym kept.trace;
            ending = st.ending ∙ sym kept.ending;
          },
        )
